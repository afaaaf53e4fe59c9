-- Regions of paths.
use Rattle.std.proofs.Common.{◌≡◌, ◌<◌, ℕ, zero, suc, ℤ, Bool, true, false, not, ◌&&◌, List, [], ◌∷◌, ◌++◌, length, map, refl, sym, subst, ap, ◌∙◌, arith, slice_index_or}
use Rattle.std.specs.List.{All, filter}
use Rattle.std.proofs.lemmas.Option.{slice_get-map}
use Rattle.decision_tree.specs.Paths.{paths_from, paths_of}
use Rattle.decision_tree.specs.Shown.{shown}
use Rattle.decision_tree.specs.declared.paths.Path.{Path}
use Rattle.alarm_report.proofs.Fitting.{got}
use Rattle.decision_tree.specs.Plain.{Plain, leaf, node, TestsBelow}
use Rattle.alarm_report.specs.declared.region.Region.{Region}
use Rattle.std.proofs.Math.Bool.{and_assoc}
use Rattle.std.proofs.lemmas.List.Elements.{All-head, All-tail, All-cons, All-nil}
use Rattle.std.proofs.lemmas.List.{append-nil, append_assoc}
use Rattle.std.specs.Prelude.{Some, None, slice_get, option_map}
use Rattle.linear_atoms.specs.declared.atoms.Atom.{Atom}
use Rattle.linear_atoms.specs.declared.atoms.Literal.{Literal}
use Rattle.linear_atoms.specs.Atoms.{AreAtoms, AreLiterals, IsAtom, literal_holds}
use Rattle.cpp_conditions.specs.declared.models.Model.{Model}
use Rattle.cpp_conditions.specs.Validity.{plain, IsValid}
use Rattle.atom_solver.specs.Solutions.{IsFirst, all_hold}
use Rattle.alarm_report.specs.Regions.{literals_of, AreStanding, AreRegionsOf, IsRegionOf}
use Rattle.alarm_report.specs.Adding.{Adds, if_true}
use Rattle.alarm_report.specs.Regions as of

-- the literals of a path are well formed
atom_fits : (n : ℕ) (atoms : List Atom) (i : ℕ) (d : Atom) → AreAtoms n atoms → i < length atoms → IsAtom n (slice_index_or atoms i d)
atom_fits n [] i d h within = absurd (omega (arith, within))
atom_fits n (a ∷ atoms) zero d h within = h.0
atom_fits n (a ∷ atoms) (suc i) d h within = atom_fits n atoms i d h.1 (omega (arith, within))

pub literals_fit : (n : ℕ) (atoms : List Atom) (turns : List (ℕ × Bool)) → AreAtoms n atoms → All (λ (t : ℕ × Bool). t.0 < length atoms) turns → AreLiterals n (literals_of atoms turns)
literals_fit n atoms [] fit below = tt
literals_fit n atoms (t ∷ turns) fit below = (atom_fits n atoms t.0 _ fit (All-head (λ (u : ℕ × Bool). u.0 < length atoms) t turns below), literals_fit n atoms turns fit (All-tail (λ (u : ℕ × Bool). u.0 < length atoms) t turns below))

-- ---- what stands is met by the same valid configurations

hold_append : (xs ys : List Literal) (values : List ℤ) → all_hold (xs ++ ys) values ≡ (all_hold xs values && all_hold ys values)
hold_append [] ys values = refl
hold_append (x ∷ xs) ys values = ap (λ b. literal_holds x values && b) (hold_append xs ys values) ∙ sym (and_assoc (literal_holds x values) (all_hold xs values) (all_hold ys values))

-- the two lists are met by the same valid configurations
abbrev pub AreSame : Model → List Literal → List Literal → Type 0
AreSame model xs ys = (values : List ℤ) → IsValid (plain model) values → all_hold xs values ≡ all_hold ys values

-- a literal that the others imply may go
implied_goes : (a b c : Bool) → ((a && c) ≡ true → b ≡ true) → (a && (b && c)) ≡ (a && c)
implied_goes false b c h = refl
implied_goes true true c h = refl
implied_goes true false false h = refl
implied_goes true false true h = let e : false ≡ true = h refl in cc

pub stands_same : (model : Model) (before ls standing : List Literal) → AreStanding model before ls standing → AreSame model (before ++ ls) standing
stands_same model before _ _ (of.seen b) = λ values valid. ap (λ xs. all_hold xs values) (append-nil before)
stands_same model before _ standing (of.drops b l ls s implied rest) = λ values valid.
    let given : (all_hold before values && all_hold ls values) ≡ true → literal_holds l values ≡ true = λ e. implied values valid (hold_append before ls values ∙ e) in
    hold_append before (l ∷ ls) values ∙ implied_goes (all_hold before values) (literal_holds l values) (all_hold ls values) given
    ∙ sym (hold_append before ls values) ∙ stands_same model before ls standing rest values valid
stands_same model before _ standing (of.keeps b l ls s implied rest) = λ values valid.
    ap (λ xs. all_hold xs values) (sym (append_assoc before (l ∷ []) ls)) ∙ stands_same model (before ++ l ∷ []) ls standing rest values valid

-- the first valid configuration that meets one list is the first that meets the other
pub first_same : (model : Model) (xs ys : List Literal) (values : List ℤ) → AreSame model xs ys → IsFirst model (all_hold xs) values → IsFirst model (all_hold ys) values
first_same model xs ys values same f = record {
  valid = f.valid;
  met = sym (same values f.valid) ∙ f.met;
  first = λ others valid met. f.first others valid (same others valid ∙ met);
}

-- ---- the paths of a tree

-- the turns of those that lead to true
abbrev pub to_true : List (List (ℕ × Bool) × Bool) → List (List (ℕ × Bool))
to_true ps = map (λ (p : List (ℕ × Bool) × Bool). p.0) (filter (λ (p : List (ℕ × Bool) × Bool). p.1) ps)

-- the turns' tests are below a count
abbrev pub AreBelow : ℕ → List (ℕ × Bool) → Type 0
AreBelow m turns = All (λ (t : ℕ × Bool). t.0 < m) turns

one_below : (m test : ℕ) (side : Bool) → test < m → AreBelow m ((test, side) ∷ [])
one_below m test side h = All-cons (λ (t : ℕ × Bool). t.0 < m) (test, side) [] h (All-nil (λ (t : ℕ × Bool). t.0 < m))

both_below : (m : ℕ) (turns more : List (ℕ × Bool)) → AreBelow m turns → AreBelow m more → AreBelow m (turns ++ more)
both_below m [] more h k = k
both_below m (t ∷ turns) more h k =
    let P : ℕ × Bool → Type 0 = λ t. t.0 < m in
    All-cons P t (turns ++ more) (All-head P t turns h) (both_below m turns more (All-tail P t turns h) k)

-- those of each path are
abbrev pub PathsBelow : ℕ → List (List (ℕ × Bool) × Bool) → Type 0
PathsBelow m ps = (i : ℕ) (p : List (ℕ × Bool) × Bool) → slice_get ps i ≡ Some p → AreBelow m p.0

joined_at : (m : ℕ) (ps qs : List (List (ℕ × Bool) × Bool)) → PathsBelow m ps → PathsBelow m qs
    → (i : ℕ) (q : List (ℕ × Bool) × Bool) → slice_get (ps ++ qs) i ≡ Some q → AreBelow m q.0
joined_at m [] qs h k i q e = k i q e
joined_at m (p ∷ ps) qs h k zero q e = h zero q e
joined_at m (p ∷ ps) qs h k (suc i) q e = joined_at m ps qs (λ j r f. h (suc j) r f) k i q e

only_one : (m : ℕ) (turns : List (ℕ × Bool)) (x : Bool) → AreBelow m turns → (i : ℕ) (p : List (ℕ × Bool) × Bool) → slice_get ((turns, x) ∷ []) i ≡ Some p → AreBelow m p.0
only_one m turns x h zero p e = let f : (turns, x) ≡ p = cc in subst (λ (q : List (ℕ × Bool) × Bool). AreBelow m q.0) f h
only_one m turns x h (suc i) p e = cc

joined_below : (m : ℕ) (ps qs : List (List (ℕ × Bool) × Bool)) → PathsBelow m ps → PathsBelow m qs → PathsBelow m (ps ++ qs)
joined_below m ps qs h k = λ i q e. joined_at m ps qs h k i q e

pub paths_below : (m : ℕ) (turns : List (ℕ × Bool)) (t : Plain Bool) → AreBelow m turns → TestsBelow m t → PathsBelow m (paths_from turns t)
paths_below m turns (leaf x) h below = λ i p e. only_one m turns x h i p e
paths_below m turns (node test low high) h below =
    joined_below m (paths_from (turns ++ (test, false) ∷ []) low) (paths_from (turns ++ (test, true) ∷ []) high)
    (paths_below m (turns ++ (test, false) ∷ []) low (both_below m turns ((test, false) ∷ []) h (one_below m test false below.0)) below.1)
    (paths_below m (turns ++ (test, true) ∷ []) high (both_below m turns ((test, true) ∷ []) h (one_below m test true below.0)) below.2)

-- ---- regions, one path after another

pub no_more : (model : Model) (atoms : List Atom) (paths : List (List (ℕ × Bool))) (turns : List (ℕ × Bool)) (rs : List Region) → AreRegionsOf model atoms paths rs
    → IsRegionOf model atoms turns None → AreRegionsOf model atoms (paths ++ turns ∷ []) rs
no_more model atoms _ turns _ of.no_path k = of.void turns [] [] k of.no_path
no_more model atoms _ turns rs (of.void t ps qs v h) k = of.void t (ps ++ turns ∷ []) rs v (no_more model atoms ps turns rs h k)
no_more model atoms _ turns _ (of.region t ps r qs v h) k = of.region t (ps ++ turns ∷ []) r qs v (no_more model atoms ps turns qs h k)

pub one_more_region : (model : Model) (atoms : List Atom) (paths : List (List (ℕ × Bool))) (turns : List (ℕ × Bool)) (rs : List Region) (r : Region) → AreRegionsOf model atoms paths rs
    → IsRegionOf model atoms turns (Some r) → AreRegionsOf model atoms (paths ++ turns ∷ []) (rs ++ r ∷ [])
one_more_region model atoms _ turns _ r of.no_path k = of.region turns [] r [] k of.no_path
one_more_region model atoms _ turns rs r (of.void t ps qs v h) k = of.void t (ps ++ turns ∷ []) (rs ++ r ∷ []) v (one_more_region model atoms ps turns rs r h k)
one_more_region model atoms _ turns _ r (of.region t ps q qs v h) k = of.region t (ps ++ turns ∷ []) q (qs ++ r ∷ []) v (one_more_region model atoms ps turns qs r h k)

pub quiet : (model : Model) (atoms : List Atom) (turns : List (ℕ × Bool)) (b : Bool) (rs : List Region) → not b ≡ true → Adds model atoms (turns, b) rs rs
quiet model atoms turns true rs e = cc
quiet model atoms turns false rs e = λ paths h. subst (λ ps. AreRegionsOf model atoms ps rs) (sym (append-nil paths)) h

pub void_added : (model : Model) (atoms : List Atom) (turns : List (ℕ × Bool)) (b : Bool) (rs : List Region) → b ≡ true → IsRegionOf model atoms turns None → Adds model atoms (turns, b) rs rs
void_added model atoms turns false rs e k = cc
void_added model atoms turns true rs e k = λ paths h. no_more model atoms paths turns rs h k

pub region_added : (model : Model) (atoms : List Atom) (turns : List (ℕ × Bool)) (b : Bool) (rs : List Region) (r : Region) → b ≡ true → IsRegionOf model atoms turns (Some r)
    → Adds model atoms (turns, b) rs (rs ++ r ∷ [])
region_added model atoms turns false rs r e k = cc
region_added model atoms turns true rs r e k = λ paths h. one_more_region model atoms paths turns rs r h k

-- those to true, with one path more
pub to_true_more : (ps : List (List (ℕ × Bool) × Bool)) (p : List (ℕ × Bool) × Bool) → to_true (ps ++ p ∷ []) ≡ to_true ps ++ if_true p
to_true_more [] (turns, true) = refl
to_true_more [] (turns, false) = refl
to_true_more ((turns, true) ∷ ps) p = ap (λ xs. turns ∷ xs) (to_true_more ps p)
to_true_more ((turns, false) ∷ ps) p = to_true_more ps p

-- the turns of a path among those that are shown
pub path_below : (m : ℕ) (t : Plain Bool) (items all : List (Path Bool)) (i : ℕ) (x : Path Bool) → TestsBelow m t → items ≡ all → shown all ≡ paths_of t → i < length items
    → x ≡ slice_index_or items i x → AreBelow m x.turns
path_below m t items all i x below same are within is =
    let h : PathsBelow m (paths_of t) = paths_below m [] t (All-nil (λ (u : ℕ × Bool). u.0 < m)) below in
    let there : slice_get items i ≡ Some x = got items i x within ∙ ap (λ y. Some y) (sym is) in
    let seen : slice_get (shown items) i ≡ Some (x.turns, x.leaf.value.value) = slice_get-map _ items i ∙ ap (option_map (λ (p : Path Bool). (p.turns, p.leaf.value.value))) there in
    h i (x.turns, x.leaf.value.value) (ap (λ ps. slice_get ps i) (sym (ap shown same ∙ are)) ∙ seen)

pub all_below : (m : ℕ) (t : Plain Bool) → TestsBelow m t → PathsBelow m (paths_of t)
all_below m t below = paths_below m [] t (All-nil (λ (u : ℕ × Bool). u.0 < m)) below
