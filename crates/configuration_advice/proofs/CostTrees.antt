-- Trees that tell how many features are changed, or that there is an alarm.
use Rattle.std.proofs.Common.{◌≡◌, inl, inr, ℕ, zero, suc, ◌+◌, ◌≤◌, ◌<◌, Bool, true, false, not, ◌&&◌, ◌||◌, List, [], ◌∷◌, length, map, Result, IfOk, if◌then◌else◌, sym, ap, subst, refl, ◌∙◌, arith}
use Rattle.std.specs.List.{All}
use Rattle.std.proofs.lemmas.Result.{IfOk-weaker}
use Rattle.std.proofs.lemmas.List.Elements.{All-head, All-tail}
use Rattle.cpp_conditions.specs.declared.formulas.Formula.{Formula}
use Rattle.cpp_conditions.specs.Propositions.{Proposition, IsBelow, true_on}
use Rattle.cpp_conditions.specs.View.{formula}
use Rattle.decision_tree.specs.declared.tree.Tree.{Tree}
use Rattle.decision_tree.specs.Listed.{IsNumberedTree, IsTreeIn}
use Rattle.decision_tree.specs.Plain.{Plain, leaf, leaf_of, TestsBelow}
use Rattle.decision_tree.specs.View.{numbered, plain}
use Rattle.decision_tree.proofs.Numbers.{numbered_tree}
use Rattle.decision_tree.proofs.Reduced.{tests_below, test_below}
use Rattle.tree_unify.specs.Formulas.{IsTreeOf}
use Rattle.tree_unify.specs.Leafwise.{IsUnified, TestsAreOf, TestsAreOfEither}
use Rattle.tree_unify.proofs.FormulaTrees.{tree_below}
use Rattle.configuration_advice.specs.Changes.{unkept, too_many, cost_of}
use Rattle.configuration_advice.specs.Nearest.{are_false}

-- ---- numbers and tests of what is made

pub numbered_in : {E L : Type 0} (made : Result (Tree L) E) (forest : List (Plain L)) → IfOk made (λ r. IsTreeIn 0 320 forest (numbered r)) → IfOk made (λ r. IsNumberedTree 0 320 (numbered r))
numbered_in {E} {L} made forest = IfOk-weaker made (λ (r : Tree L). IsTreeIn 0 320 forest (numbered r)) (λ (r : Tree L). IsNumberedTree 0 320 (numbered r)) (λ r h. numbered_tree 0 320 forest (numbered r) h)

pub below_of : {E A B : Type 0} (made : Result (Tree B) E) (t : Plain A) → IfOk made (λ r. TestsAreOf t (plain r)) → IfOk made (λ r. (count : ℕ) → TestsBelow count t → TestsBelow count (plain r))
below_of {E} {A} {B} made t =
    IfOk-weaker made (λ (r : Tree B). TestsAreOf t (plain r)) (λ (r : Tree B). (count : ℕ) → TestsBelow count t → TestsBelow count (plain r))
    (λ r h count b. tests_below count (plain r) (λ k x. test_below count k t b (h.each k x)))

pub below_either : {E A B C : Type 0} (made : Result (Tree C) E) (t : Plain A) (u : Plain B) → IfOk made (λ r. TestsAreOfEither t u (plain r))
    → IfOk made (λ r. (count : ℕ) → TestsBelow count t → TestsBelow count u → TestsBelow count (plain r))
below_either {E} {A} {B} {C} made t u =
    IfOk-weaker made (λ (r : Tree C). TestsAreOfEither t u (plain r)) (λ (r : Tree C). (count : ℕ) → TestsBelow count t → TestsBelow count u → TestsBelow count (plain r))
    (λ r h count b f. tests_below count (plain r) (λ k x. elim (h.each k x) [
      | inl w ↦ test_below count k t b w
      | inr w ↦ test_below count k u f w
    ]))

-- ---- how many formulas are false

few_more : (b : Bool) (m n : ℕ) → m ≤ n → (if b then m else suc m) ≤ suc n
few_more true m n h = omega arith
few_more false m n h = omega arith

unkept_few : (ps : List Formula) (v : List Bool) → unkept (map formula ps) v ≤ length ps
unkept_few [] v = omega arith
unkept_few (p ∷ ps) v = few_more (true_on v (formula p)) (unkept (map formula ps) v) (length ps) (unkept_few ps v)

module _ {E : Type 0} (made : Result (Tree ℕ) E) (others : Plain ℕ) (truth : Plain Bool) (first : Formula) (behind kept : List Formula) (cut : kept ≡ first ∷ behind) (is : IsTreeOf (formula first) truth) where
  fewer : (n : ℕ) → n ≤ length behind → length kept < too_many → n < too_many
  fewer n h few = let e : length kept ≡ suc (length behind) = ap length cut in omega (arith, h, e, few)

  pub one_more : (P : ℕ → Bool → ℕ → Type 0) → ((a : ℕ) (b : Bool) (d : ℕ) → P a b d → a < too_many → d ≡ (if b then a else suc a)) → length kept < too_many
      → ((v : List Bool) → leaf_of others v ≡ unkept (map formula behind) v) → IfOk made (λ r. IsUnified P others truth (plain r))
      → IfOk made (λ r. (v : List Bool) → leaf_of (plain r) v ≡ unkept (map formula kept) v)
  one_more P says few counts =
      IfOk-weaker made (λ (r : Tree ℕ). IsUnified P others truth (plain r)) (λ (r : Tree ℕ). (v : List Bool) → leaf_of (plain r) v ≡ unkept (map formula kept) v)
      (λ r h v.
      let small : leaf_of others v < too_many = subst (λ n. n < too_many) (sym (counts v)) (fewer (unkept (map formula behind) v) (unkept_few behind v) few) in
      says (leaf_of others v) (leaf_of truth v) (leaf_of (plain r) v) (h.at_each v) small
      ∙ ap (λ b. if b then leaf_of others v else suc (leaf_of others v)) (is.truth v)
      ∙ ap (λ n. if true_on v (formula first) then n else suc n) (counts v)
      ∙ ap (λ fs. unkept (map formula fs) v) (sym cut))

  pub below_more : ((count : ℕ) → All (λ (f : Formula). IsBelow count (formula f)) behind → TestsBelow count others) → IfOk made (λ r. TestsAreOfEither others truth (plain r))
      → IfOk made (λ r. (count : ℕ) → All (λ (f : Formula). IsBelow count (formula f)) kept → TestsBelow count (plain r))
  below_more below either =
      IfOk-weaker made (λ (r : Tree ℕ). (count : ℕ) → TestsBelow count others → TestsBelow count truth → TestsBelow count (plain r))
      (λ (r : Tree ℕ). (count : ℕ) → All (λ (f : Formula). IsBelow count (formula f)) kept → TestsBelow count (plain r))
      (λ r h count all.
      let P : Formula → Type 0 = λ f. IsBelow count (formula f) in
      let parts : All P (first ∷ behind) = subst (All P) cut all in
      h count (below count (All-tail P first behind parts)) (tree_below count (formula first) truth (All-head P first behind parts) is))
      (below_either made others truth either)

-- ---- one of two trees

not_either : (a b c : Bool) → c ≡ (a || b) → not c ≡ (not a && not b)
not_either true b c e = ap not e
not_either false b c e = ap not e

pub either_as : {E : Type 0} (made : Result (Tree Bool) E) (left right : Plain Bool) (P : Bool → Bool → Bool → Type 0) → ((a b c : Bool) → P a b c → c ≡ (a || b))
    → IfOk made (λ r. IsUnified P left right (plain r)) → IfOk made (λ r. (v : List Bool) → not (leaf_of (plain r) v) ≡ (not (leaf_of left v) && not (leaf_of right v)))
either_as made left right P says =
    IfOk-weaker made (λ (r : Tree Bool). IsUnified P left right (plain r)) (λ (r : Tree Bool). (v : List Bool) → not (leaf_of (plain r) v) ≡ (not (leaf_of left v) && not (leaf_of right v)))
    (λ r h v. not_either (leaf_of left v) (leaf_of right v) (leaf_of (plain r) v) (says (leaf_of left v) (leaf_of right v) (leaf_of (plain r) v) (h.at_each v)))

-- ---- costs

barred_as : (a q : Bool) (b n c : ℕ) → c ≡ (if a then too_many else b) → not a ≡ q → b ≡ n → c ≡ (if q then n else too_many)
barred_as true q b n c e f g = e ∙ ap (λ x. if x then n else too_many) f
barred_as false q b n c e f g = e ∙ g ∙ ap (λ x. if x then n else too_many) f

module _ {E : Type 0} (made : Result (Tree ℕ) E) (alarm : Plain Bool) (changes : Plain ℕ) (alarms : List (Tree Bool)) (kept : List Formula) where
  pub cost_as : (P : Bool → ℕ → ℕ → Type 0) → ((a : Bool) (b c : ℕ) → P a b c → c ≡ (if a then too_many else b))
      → ((v : List Bool) → not (leaf_of alarm v) ≡ are_false (map plain alarms) v) → ((v : List Bool) → leaf_of changes v ≡ unkept (map formula kept) v)
      → IfOk made (λ r. IsUnified P alarm changes (plain r)) → IfOk made (λ r. (v : List Bool) → leaf_of (plain r) v ≡ cost_of (map plain alarms) (map formula kept) v)
  cost_as P says quiet counts =
      IfOk-weaker made (λ (r : Tree ℕ). IsUnified P alarm changes (plain r)) (λ (r : Tree ℕ). (v : List Bool) → leaf_of (plain r) v ≡ cost_of (map plain alarms) (map formula kept) v)
      (λ r h v. barred_as (leaf_of alarm v) (are_false (map plain alarms) v) (leaf_of changes v) (unkept (map formula kept) v) (leaf_of (plain r) v)
      (says (leaf_of alarm v) (leaf_of changes v) (leaf_of (plain r) v) (h.at_each v)) (quiet v) (counts v))

  pub cost_below : ((count : ℕ) → All (λ (t : Tree Bool). TestsBelow count (plain t)) alarms → TestsBelow count alarm)
      → ((count : ℕ) → All (λ (f : Formula). IsBelow count (formula f)) kept → TestsBelow count changes) → IfOk made (λ r. TestsAreOfEither alarm changes (plain r))
      → IfOk made (λ r. (count : ℕ) → All (λ (t : Tree Bool). TestsBelow count (plain t)) alarms → All (λ (f : Formula). IsBelow count (formula f)) kept → TestsBelow count (plain r))
  cost_below first second either =
      IfOk-weaker made (λ (r : Tree ℕ). (count : ℕ) → TestsBelow count alarm → TestsBelow count changes → TestsBelow count (plain r))
      (λ (r : Tree ℕ). (count : ℕ) → All (λ (t : Tree Bool). TestsBelow count (plain t)) alarms → All (λ (f : Formula). IsBelow count (formula f)) kept → TestsBelow count (plain r))
      (λ r h count trees formulas. h count (first count trees) (second count formulas))
      (below_either made alarm changes either)

-- ---- fewer formulas, and more tests

pub tail_below : (count : ℕ) (kept behind : List Formula) (first : Formula) → kept ≡ first ∷ behind → All (λ (f : Formula). IsBelow count (formula f)) kept → All (λ (f : Formula). IsBelow count (formula f)) behind
tail_below count kept behind first e all = All-tail (λ (f : Formula). IsBelow count (formula f)) first behind (subst (All (λ (f : Formula). IsBelow count (formula f))) e all)

pub tail_few : (kept behind : List Formula) (first : Formula) → kept ≡ first ∷ behind → length kept < too_many → length behind < too_many
tail_few kept behind first e few = let f : length kept ≡ suc (length behind) = ap length e in omega (arith, f, few)
