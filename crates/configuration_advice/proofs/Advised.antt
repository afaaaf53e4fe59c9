-- From the question to the answer.
use Rattle.std.proofs.Common.{◌≡◌, ℕ, zero, suc, ◌+◌, ◌*◌, ◌≤◌, ◌<◌, ℤ, pos, ◌+ℤ◌, Bool, true, false, not, ◌&&◌, ◌⊎◌, inl, inr, List, [], ◌∷◌, ◌++◌, length, map, Option, Some, None, unsigned_abs, cond, sym, ap, subst, refl, ◌∙◌, append_assoc, length-append, arith}
use Rattle.std.specs.Prelude.{slice_get, slice_index_or}
use Rattle.std.specs.List.{All}
use Rattle.std.proofs.lemmas.Int.{ints}
use Rattle.linear_atoms.specs.declared.atoms.Atom.{Atom}
use Rattle.linear_atoms.specs.Atoms.{AreAtoms, AreValues, IsWithin}
use Rattle.cpp_conditions.specs.declared.models.Model.{Model}
use Rattle.cpp_conditions.specs.Numbering.{vector_at}
use Rattle.cpp_conditions.specs.Naming.{AreFeatures}
use Rattle.cpp_conditions.specs.Propositions.{Proposition, Const, Test, Not, And, Or, IsBelow, true_on}
use Rattle.cpp_conditions.specs.Validity.{plain, IsValid}
use Rattle.cpp_conditions.specs.View.{formula}
use Rattle.cpp_conditions.proofs.Within.{valid_parts, config_of}
use Rattle.decision_tree.specs.declared.tree.Tree.{Tree}
use Rattle.decision_tree.specs.View as tree
use Rattle.decision_tree.specs.Plain.{Plain, leaf, node, leaf_of, TestsBelow}
use Rattle.configuration_advice.specs.declared.comparing.Advice.{Advice}
use Rattle.configuration_advice.specs.declared.choices.Choice.{Choice}
use Rattle.configuration_advice.specs.declared.question.Question.{Question}
use Rattle.configuration_advice.specs.Choices.{nothing_chosen}
use Rattle.configuration_advice.specs.Nearest.{differing, are_false, is_quiet, Advises}
use Rattle.configuration_advice.specs.Searching.{pairs, ArePairs, IsAsked, IsCandidate, IsRefuted, ComesBefore, FindsNearest}
use Rattle.configuration_advice.specs.Tests.{at_least}
use Rattle.configuration_advice.proofs.Asked.{at_least_fit}
use Rattle.configuration_advice.proofs.Chosen.{open_chosen, differing_most}
use Rattle.configuration_advice.proofs.FirstFound.{within_length}

-- ---- the tests behind the atoms

pub get_there : (xs ys : List Atom) (a : Atom) → slice_get (xs ++ a ∷ ys) (length xs) ≡ Some a
get_there [] ys a = refl
get_there (x ∷ xs) ys a = get_there xs ys a

pub get_next : (xs ys : List Atom) (a b : Atom) → slice_get (xs ++ a ∷ b ∷ ys) (length xs + 1) ≡ Some b
get_next [] ys a b = refl
get_next (x ∷ xs) ys a b = let e : suc (length xs) + 1 ≡ suc (length xs + 1) = omega arith in ap (slice_get ((x ∷ xs) ++ a ∷ b ∷ ys)) e ∙ get_next xs ys a b

length_two : (xs : List Atom) (a b : Atom) → length (xs ++ a ∷ b ∷ []) ≡ length xs + 2
length_two [] a b = refl
length_two (x ∷ xs) a b = let e = length_two xs a b in omega arith

pub pairs_at : (atoms : List Atom) (n : ℕ) (gs : List ℤ) → ArePairs (atoms ++ pairs n gs) (length atoms) n gs
pairs_at atoms n [] = tt
pairs_at atoms n (g ∷ gs) =
    let first = at_least n g in
    let second = at_least n (g +ℤ pos 1) in
    let more = atoms ++ first ∷ second ∷ [] in
    let e : more ++ pairs (n + 1) gs ≡ atoms ++ pairs n (g ∷ gs) = append_assoc atoms (first ∷ second ∷ []) (pairs (n + 1) gs) in (
      get_there atoms (second ∷ pairs (n + 1) gs) first,
      get_next atoms (pairs (n + 1) gs) first second,
      subst (λ xs. ArePairs xs (length atoms + 2) (n + 1) gs) e (subst (λ k. ArePairs (more ++ pairs (n + 1) gs) k (n + 1) gs) (length_two atoms first second) (pairs_at more (n + 1) gs)),
    )

pub pairs_length : (n : ℕ) (gs : List ℤ) → length (pairs n gs) ≡ 2 * length gs
pairs_length n [] = refl
pairs_length n (g ∷ gs) = let e = pairs_length (n + 1) gs in omega arith

pub small_more : (g : ℤ) → unsigned_abs g ≤ 1048576 → unsigned_abs (g +ℤ pos 1) ≤ 2147483649
small_more g h = omega (arith, ints)

pairs_fit : (count n : ℕ) (gs : List ℤ) → n + length gs ≤ count → AreValues gs → AreAtoms count (pairs n gs)
pairs_fit count n [] h v = tt
pairs_fit count n (g ∷ gs) h v =
    (at_least_fit count n g (omega arith) (let k = v.0 in omega arith), (at_least_fit count n (g +ℤ pos 1) (omega arith) (small_more g v.0), pairs_fit count (n + 1) gs (omega arith) v.1))

pub atoms_fit : (count : ℕ) (atoms : List Atom) (gs : List ℤ) → AreAtoms count atoms → length gs ≤ count → AreValues gs → AreAtoms count (atoms ++ pairs 0 gs)
atoms_fit count [] gs a h v = pairs_fit count 0 gs (omega arith) v
atoms_fit count (x ∷ atoms) gs a h v = (a.0, atoms_fit count atoms gs a.1 h v)

-- ---- trees read no test behind the atoms

pub same_truth : (atoms more : List Atom) (values : List ℤ) (n : ℕ) → n < length atoms → slice_index_or (vector_at (atoms ++ more) values) n false ≡ slice_index_or (vector_at atoms values) n false
same_truth [] more values n h = absurd (omega arith)
same_truth (a ∷ atoms) more values zero h = refl
same_truth (a ∷ atoms) more values (suc n) h = same_truth atoms more values n (omega arith)

same_leaf : (atoms more : List Atom) (values : List ℤ) (t : Plain Bool) → TestsBelow (length atoms) t → leaf_of t (vector_at (atoms ++ more) values) ≡ leaf_of t (vector_at atoms values)
same_leaf atoms more values (leaf x) h = refl
same_leaf atoms more values (node test low high) h =
    let v = vector_at (atoms ++ more) values in
    let w = vector_at atoms values in
    ap (λ b. cond b (leaf_of high v) (leaf_of low v)) (same_truth atoms more values test h.0)
    ∙ ap (λ x. cond (slice_index_or w test false) x (leaf_of low v)) (same_leaf atoms more values high h.2)
    ∙ ap (λ x. cond (slice_index_or w test false) (leaf_of high w) x) (same_leaf atoms more values low h.1)

-- all trees, one by one
abbrev pub AllBelow : ℕ → List (Plain Bool) → Type 0
AllBelow m [] = Unit {0}
AllBelow m (t ∷ ts) = TestsBelow m t × AllBelow m ts

pub same_quiet : (atoms more : List Atom) (values : List ℤ) (ts : List (Plain Bool)) → AllBelow (length atoms) ts → are_false ts (vector_at (atoms ++ more) values) ≡ is_quiet atoms ts values
same_quiet atoms more values [] h = refl
same_quiet atoms more values (t ∷ ts) h =
    ap (λ b. not b && are_false ts (vector_at (atoms ++ more) values)) (same_leaf atoms more values t h.0)
    ∙ ap (λ b. not (leaf_of t (vector_at atoms values)) && b) (same_quiet atoms more values ts h.1)

-- ---- a question is well formed

number_more : (x m n : ℕ) → m ≤ n → x < m → x < n
number_more x m n h k = omega arith

pub below_more : (m n : ℕ) (p : Proposition ℕ) → m ≤ n → IsBelow m p → IsBelow n p
below_more m n (Const b) h k = tt
below_more m n (Test x) h k = number_more x m n h k
below_more m n (Not p) h k = below_more m n p h k
below_more m n (And p r) h k = (below_more m n p h k.0, below_more m n r h k.1)
below_more m n (Or p r) h k = (below_more m n p h k.0, below_more m n r h k.1)

tested_length : (atoms : List Atom) (gs : List ℤ) → length (atoms ++ pairs 0 gs) ≡ length atoms + 2 * length gs
tested_length atoms gs = let e = length-append atoms (pairs 0 gs) in let f = pairs_length 0 gs in omega arith

pub asked_of : (q : Question) (model : Model) (atoms : List Atom) → q.prepared.now ≡ model → q.atoms.now ≡ atoms ++ pairs 0 q.given.now.values → q.first ≡ length atoms
    → IsBelow (length atoms) (formula q.quiet.now) → AreAtoms (length model.features) atoms → AreFeatures model.features → IsWithin model.features q.given.now.values → length atoms < 2147483648 → IsAsked q
asked_of q model atoms e f g below fit features within few =
    let gs = q.given.now.values in
    let long : length gs ≡ length model.features = within_length model.features gs within in
    let all : length q.atoms.now ≡ length atoms + 2 * length gs = ap length f ∙ tested_length atoms gs in
    let at_most : length model.features ≤ 32 = features.few in
    record {
      atoms = subst (λ (m : Model). AreAtoms (length m.features) q.atoms.now) (sym e) (subst (AreAtoms (length model.features)) (sym f) (atoms_fit (length model.features) atoms gs fit (omega arith) (config_of model.features gs features.ranges within).small));
      below = below_more (length atoms) (length q.atoms.now) (formula q.quiet.now) (omega arith) below;
      paired = subst (λ n. ArePairs q.atoms.now n 0 gs) (sym g) (subst (λ xs. ArePairs xs (length atoms) 0 gs) (sym f) (pairs_at atoms 0 gs));
      room = omega (arith, g, all);
      few = omega (arith, all, at_most, few, long);
      count = long ∙ ap (λ (m : Model). length m.features) (sym e);
    }

-- ---- the trees at the question's atoms

pub all_below : (m : ℕ) (trees : List (Tree Bool)) → All (λ (t : Tree Bool). TestsBelow m (tree.plain t)) trees → AllBelow m (map tree.plain trees)
all_below m [] h = tt
all_below m (t ∷ trees) h = (h 0 t (omega arith), all_below m trees (λ k d lt. h (suc k) d (omega arith)))

pub quiet_at : (q : Question) (atoms : List Atom) (trees : List (Tree Bool)) → q.atoms.now ≡ atoms ++ pairs 0 q.given.now.values
    → ((v : List Bool) → true_on v (formula q.quiet.now) ≡ are_false (map tree.plain trees) v) → All (λ (t : Tree Bool). TestsBelow (length atoms) (tree.plain t)) trees
    → (values : List ℤ) → true_on (vector_at q.atoms.now values) (formula q.quiet.now) ≡ is_quiet atoms (map tree.plain trees) values
quiet_at q atoms trees e truth all values =
    truth (vector_at q.atoms.now values)
    ∙ ap (λ xs. are_false (map tree.plain trees) (vector_at xs values)) e
    ∙ same_quiet atoms (pairs 0 q.given.now.values) values (map tree.plain trees) (all_below (length atoms) trees all)

-- ---- the answer

module _ (q : Question) (atoms : List Atom) (alarms : List (Plain Bool)) (asked : IsAsked q)
    (quiet_is : (values : List ℤ) → true_on (vector_at q.atoms.now values) (formula q.quiet.now) ≡ is_quiet atoms alarms values) where
  abbrev given : List ℤ
  given = q.given.now.values

  candidate : (values : List ℤ) → IsValid (plain q.prepared.now) values → is_quiet atoms alarms values ≡ true → IsCandidate q (nothing_chosen given) values
  candidate values valid quiet = record {
    valid = valid;
    quiet = quiet_is values ∙ quiet;
    chosen = open_chosen given values (within_length q.prepared.now.features values (valid_parts (plain q.prepared.now) values valid).0 ∙ sym asked.count);
  }

  quiet_or_not : (values : List ℤ) → (is_quiet atoms alarms values ≡ true → ⊥) → is_quiet atoms alarms values ≡ false
  quiet_or_not values h = elim (is_quiet atoms alarms values) as (λ b. (b ≡ true → ⊥) → b ≡ false) [ true ↦ λ k. absurd (k refl) | false ↦ λ k. refl ] h

  pub none_advised : IsRefuted q (nothing_chosen given) → Advises q.prepared.now atoms alarms given None
  none_advised r values valid = quiet_or_not values (λ quiet. r values (candidate values valid quiet))

  fewest_of : (n m : ℕ) → (n < m → ⊥) → m ≤ n
  fewest_of n m h = omega (arith, h)

  pub advised : (found : Option Advice) → FindsNearest q (nothing_chosen given) (length given) found → Advises q.prepared.now atoms alarms given found
  advised None h = none_advised (λ values c. h.nearest values c (differing_most given values))
  advised (Some a) h = record {
    valid = h.advice.candidate.valid;
    quiet = sym (quiet_is a.config.values) ∙ h.advice.candidate.quiet;
    changed = h.advice.changed;
    fewest = λ others valid quiet. fewest_of (differing given others) a.changed (λ k. h.nearest others (candidate others valid quiet) (differing_most given others) (inl k));
    first = λ others valid quiet e b. h.nearest others (candidate others valid quiet) (differing_most given others) (inr (e, b));
  }

-- what is found for the question is advice over the model
pub advised_over : (q : Question) (found : Option Advice) → FindsNearest q (nothing_chosen q.given.now.values) (length q.given.now.values) found
    → (model : Model) (atoms : List Atom) (alarms : List (Plain Bool)) → IsAsked q → q.prepared.now ≡ model
    → ((values : List ℤ) → true_on (vector_at q.atoms.now values) (formula q.quiet.now) ≡ is_quiet atoms alarms values) → Advises model atoms alarms q.given.now.values found
advised_over q found finds model atoms alarms asked e quiet = subst (λ (m : Model). Advises m atoms alarms q.given.now.values found) e (advised q atoms alarms asked quiet found finds)

-- the same, of a question that was made for trees
pub advised_for : (q : Question) (found : Option Advice) → FindsNearest q (nothing_chosen q.given.now.values) (length q.given.now.values) found
    → (model : Model) (atoms : List Atom) (trees : List (Tree Bool)) → q.prepared.now ≡ model → q.atoms.now ≡ atoms ++ pairs 0 q.given.now.values → q.first ≡ length atoms
    → IsBelow (length atoms) (formula q.quiet.now) → AreAtoms (length model.features) atoms → AreFeatures model.features → IsWithin model.features q.given.now.values → length atoms < 2147483648
    → ((v : List Bool) → true_on v (formula q.quiet.now) ≡ are_false (map tree.plain trees) v) → All (λ (t : Tree Bool). TestsBelow (length atoms) (tree.plain t)) trees
    → Advises model atoms (map tree.plain trees) q.given.now.values found
advised_for q found finds model atoms trees e f g below fit features within few truth all =
    advised_over q found finds model atoms (map tree.plain trees) (asked_of q model atoms e f g below fit features within few) e (quiet_at q atoms trees f truth all)

pub none_found : (q : Question) (choices : List Choice) (most : ℕ) → IsRefuted q choices → FindsNearest q choices most None
none_found q choices most r = record { advice = tt; nearest = λ values c k. r values c }

-- ---- rising numbers of changes

far_not : (n least : ℕ) (vs : List ℤ) (a : Advice) → a.changed ≤ least → least < n → ComesBefore n vs a → ⊥
far_not n least vs a h k (inl m) = omega arith
far_not n least vs a h k (inr m) = let e = m.0 in omega arith

le_or_lt : (n m : ℕ) → (n ≤ m) ⊎ (m < n)
le_or_lt zero m = inl (omega arith)
le_or_lt (suc n) zero = inr (omega arith)
le_or_lt (suc n) (suc m) = elim (le_or_lt n m) [ inl h ↦ inl (omega arith) | inr h ↦ inr (omega arith) ]

-- the nearest one with some number of changes is the nearest of all
pub found_rising : (q : Question) (choices : List Choice) (least most : ℕ) (a : Advice) → least ≤ most → FindsNearest q choices least (Some a) → FindsNearest q choices most (Some a)
found_rising q choices least most a h f = record {
  advice = record { candidate = f.advice.candidate; changed = f.advice.changed; within = (let k : a.changed ≤ least = f.advice.within in omega arith) };
  nearest = λ values c k n. elim (le_or_lt (differing q.given.now.values values) least) [
    | inl low ↦ f.nearest values c low n
    | inr high ↦ far_not (differing q.given.now.values values) least values a f.advice.within high n
  ];
}
