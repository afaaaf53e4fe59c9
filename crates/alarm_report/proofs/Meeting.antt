-- Exactly one region is met where the tree is true, and none where it is false.
use Rattle.std.proofs.Common.{◌≡◌, ◌<◌, ℕ, zero, suc, ℤ, Bool, true, false, not, ◌&&◌, List, [], ◌∷◌, length, refl, sym, subst, ap, ◌∙◌, arith, slice_index_or}
use Rattle.std.specs.Prelude.{Option, Some, slice_get}
use Rattle.std.proofs.lemmas.List.Elements.{All-head, All-tail}
use Rattle.linear_atoms.specs.declared.atoms.Atom.{Atom}
use Rattle.linear_atoms.specs.Atoms.{holds, literal_holds}
use Rattle.cpp_conditions.specs.declared.models.Model.{Model}
use Rattle.cpp_conditions.specs.Numbering.{vector_at}
use Rattle.cpp_conditions.specs.Validity.{plain, IsValid}
use Rattle.decision_tree.specs.Paths.{Takes, TakesOne, paths_of}
use Rattle.decision_tree.specs.Plain.{Plain, leaf_of}
use Rattle.atom_solver.specs.Solutions.{IsFirst, all_hold}
use Rattle.alarm_report.specs.declared.region.Region.{Region}
use Rattle.alarm_report.specs.Regions.{literal_of, literals_of, IsRegionOf, AreRegionsOf, AreRegions, Meets, MeetsOne, Covers}
use Rattle.alarm_report.specs.Regions as of
use Rattle.alarm_report.proofs.Covering.{AreBelow, PathsBelow, to_true, stands_same}

-- ---- a vector takes a path where its literals hold

truth_at : (atoms : List Atom) (n : ℕ) (d : Atom) (values : List ℤ) → n < length atoms → slice_index_or (vector_at atoms values) n false ≡ holds (slice_index_or atoms n d) values
truth_at [] n d values h = absurd (omega (arith, h))
truth_at (a ∷ atoms) zero d values h = refl
truth_at (a ∷ atoms) (suc n) d values h = truth_at atoms n d values (omega (arith, h))

not_true : (b : Bool) → b ≡ false → not b ≡ true
not_true true e = cc
not_true false e = refl

not_false : (b : Bool) → not b ≡ true → b ≡ false
not_false true e = cc
not_false false e = refl

one_holds : (atoms : List Atom) (n : ℕ) (b : Bool) (values : List ℤ) → n < length atoms → slice_index_or (vector_at atoms values) n false ≡ b
    → literal_holds (literal_of atoms (n, b)) values ≡ true
one_holds atoms n true values h e = sym (truth_at atoms n _ values h) ∙ e
one_holds atoms n false values h e = not_true _ (sym (truth_at atoms n _ values h) ∙ e)

one_taken : (atoms : List Atom) (n : ℕ) (b : Bool) (values : List ℤ) → n < length atoms → literal_holds (literal_of atoms (n, b)) values ≡ true
    → slice_index_or (vector_at atoms values) n false ≡ b
one_taken atoms n true values h e = truth_at atoms n _ values h ∙ e
one_taken atoms n false values h e = truth_at atoms n _ values h ∙ not_false _ e

both_true : (a b : Bool) → a ≡ true → b ≡ true → (a && b) ≡ true
both_true true b e f = f
both_true false b e f = cc

left_true : (a b : Bool) → (a && b) ≡ true → a ≡ true
left_true true b e = refl
left_true false b e = cc

right_true : (a b : Bool) → (a && b) ≡ true → b ≡ true
right_true true b e = e
right_true false b e = cc

all_taken : (atoms : List Atom) (turns : List (ℕ × Bool)) (values : List ℤ) → AreBelow (length atoms) turns → Takes (vector_at atoms values) turns
    → all_hold (literals_of atoms turns) values ≡ true
all_taken atoms [] values h t = refl
all_taken atoms (t ∷ turns) values h (e, more) =
    let P : ℕ × Bool → Type 0 = λ t. t.0 < length atoms in
    both_true _ _ (one_holds atoms t.0 t.1 values (All-head P t turns h) e) (all_taken atoms turns values (All-tail P t turns h) more)

pub taken_all : (atoms : List Atom) (turns : List (ℕ × Bool)) (values : List ℤ) → AreBelow (length atoms) turns → all_hold (literals_of atoms turns) values ≡ true
    → Takes (vector_at atoms values) turns
taken_all atoms [] values h e = tt
taken_all atoms (t ∷ turns) values h e =
    let P : ℕ × Bool → Type 0 = λ t. t.0 < length atoms in
    (one_taken atoms t.0 t.1 values (All-head P t turns h) (left_true _ _ e), taken_all atoms turns values (All-tail P t turns h) (right_true _ _ e))

-- ---- which paths are met

abbrev pub IsMet : List Atom → List ℤ → List (ℕ × Bool) → Type 0
IsMet atoms values turns = all_hold (literals_of atoms turns) values ≡ true

-- exactly one path is met, and it leads to x
pub record MetOnce (atoms : List Atom) (values : List ℤ) (x : Bool) (ps : List (List (ℕ × Bool) × Bool)) : Type 0 where
  pub place : ℕ
  pub turns : List (ℕ × Bool)
  pub there : slice_get ps place ≡ Some (turns, x)
  pub met : IsMet atoms values turns
  pub alone : (i : ℕ) (p : List (ℕ × Bool) × Bool) → slice_get ps i ≡ Some p → IsMet atoms values p.0 → i ≡ place

pub met_once : (atoms : List Atom) (values : List ℤ) (x : Bool) (ps : List (List (ℕ × Bool) × Bool)) → PathsBelow (length atoms) ps → TakesOne (vector_at atoms values) x ps → MetOnce atoms values x ps
met_once atoms values x ps below t = record {
  place = t.place;
  turns = t.turns;
  there = t.there;
  met = all_taken atoms t.turns values (below t.place (t.turns, x) t.there) t.taken;
  alone = λ i p e m. t.alone i p e (taken_all atoms p.0 values (below i p e) m);
}

abbrev pub NoneMet : List Atom → List ℤ → List (List (ℕ × Bool) × Bool) → Type 0
NoneMet atoms values ps = (i : ℕ) (p : List (ℕ × Bool) × Bool) → slice_get ps i ≡ Some p → IsMet atoms values p.0 → ⊥

-- ---- the regions of these paths

-- a valid configuration meets the region of a path where it meets the path
region_met : (model : Model) (atoms : List Atom) (turns : List (ℕ × Bool)) (r : Region) (values : List ℤ) → IsRegionOf model atoms turns (Some r) → IsValid (plain model) values
    → Meets r values → IsMet atoms values turns
region_met model atoms turns r values h valid m = stands_same model [] (literals_of atoms turns) r.literals h.0 values valid ∙ m

path_met : (model : Model) (atoms : List Atom) (turns : List (ℕ × Bool)) (r : Region) (values : List ℤ) → IsRegionOf model atoms turns (Some r) → IsValid (plain model) values
    → IsMet atoms values turns → Meets r values
path_met model atoms turns r values h valid m = sym (stands_same model [] (literals_of atoms turns) r.literals h.0 values valid) ∙ m

pub none_meet : (model : Model) (atoms : List Atom) (values : List ℤ) (ps : List (List (ℕ × Bool) × Bool)) (rs : List Region) → IsValid (plain model) values → NoneMet atoms values ps
    → AreRegionsOf model atoms (to_true ps) rs → (i : ℕ) (r : Region) → slice_get rs i ≡ Some r → Meets r values → ⊥
none_meet model atoms values [] _ valid none of.no_path i r e m = cc
none_meet model atoms values ((turns, false) ∷ ps) rs valid none h i r e m = none_meet model atoms values ps rs valid (λ j p f. none (suc j) p f) h i r e m
none_meet model atoms values ((turns, true) ∷ ps) rs valid none (of.void t qs xs v h) i r e m = none_meet model atoms values ps rs valid (λ j p f. none (suc j) p f) h i r e m
none_meet model atoms values ((turns, true) ∷ ps) _ valid none (of.region t qs q xs v h) zero r e m =
    let f : q ≡ r = cc in none zero (turns, true) refl (region_met model atoms turns q values v valid (subst (λ x. Meets x values) (sym f) m))
none_meet model atoms values ((turns, true) ∷ ps) _ valid none (of.region t qs q xs v h) (suc i) r e m = none_meet model atoms values ps xs valid (λ j p f. none (suc j) p f) h i r e m

-- the others are not met, where the first is
rest_unmet : (atoms : List Atom) (values : List ℤ) (x : Bool) (p : List (ℕ × Bool) × Bool) (ps : List (List (ℕ × Bool) × Bool)) (o : MetOnce atoms values x (p ∷ ps)) → o.place ≡ 0 → NoneMet atoms values ps
rest_unmet atoms values x p ps o e = λ i q f m. let g : suc i ≡ o.place = o.alone (suc i) q f m in absurd (omega (arith, g, e))

-- where the first is not the one, one of the others is
abbrev later_once : (atoms : List Atom) (values : List ℤ) (x : Bool) (p : List (ℕ × Bool) × Bool) (ps : List (List (ℕ × Bool) × Bool)) (o : MetOnce atoms values x (p ∷ ps)) (k : ℕ) → o.place ≡ suc k → MetOnce atoms values x ps
later_once atoms values x p ps o k e = record {
  place = k;
  turns = o.turns;
  there = sym (ap (slice_get (p ∷ ps)) e) ∙ o.there;
  met = o.met;
  alone = λ i q f m. let g : suc i ≡ o.place = o.alone (suc i) q f m in omega (arith, g, e);
}

first_unmet : (atoms : List Atom) (values : List ℤ) (x : Bool) (p : List (ℕ × Bool) × Bool) (ps : List (List (ℕ × Bool) × Bool)) (o : MetOnce atoms values x (p ∷ ps)) (k : ℕ) → o.place ≡ suc k → IsMet atoms values p.0 → ⊥
first_unmet atoms values x p ps o k e m = let g : 0 ≡ o.place = o.alone 0 p refl m in absurd (omega (arith, g, e))

-- ---- where the one path that is met leads

same_turns : (a b : List (ℕ × Bool)) (x y : Bool) → (let p : Option (List (ℕ × Bool) × Bool) = Some (a, x) in p) ≡ Some (b, y) → a ≡ b
same_turns a b x y e =
    let w : (let p : List (ℕ × Bool) × Bool = (a, x) in p) ≡ (b, y) = cc in
    ap (λ (p : List (ℕ × Bool) × Bool). p.0) w

no_other : (a b : List (ℕ × Bool)) → (let x : Option (List (ℕ × Bool) × Bool) = Some (a, false) in x) ≡ Some (b, true) → ⊥
no_other a b e =
    let w : (let x : List (ℕ × Bool) × Bool = (a, false) in x) ≡ (b, true) = cc in
    let z : false ≡ true = ap (λ (p : List (ℕ × Bool) × Bool). p.1) w in cc

first_alone : (model : Model) (atoms : List Atom) (values : List ℤ) (ps : List (List (ℕ × Bool) × Bool)) (r : Region) (xs : List Region)
    → IsValid (plain model) values → NoneMet atoms values ps → AreRegionsOf model atoms (to_true ps) xs → (i : ℕ) (q : Region) → slice_get (r ∷ xs) i ≡ Some q → Meets q values → i ≡ 0
first_alone model atoms values ps r xs valid none h zero q e k = refl
first_alone model atoms values ps r xs valid none h (suc i) q e k = absurd (none_meet model atoms values ps xs valid none h i q e k)

shifted_alone : (r : Region) (xs : List Region) (values : List ℤ) → (Meets r values → ⊥) → (o : MeetsOne xs values) → (i : ℕ) (q : Region) → slice_get (r ∷ xs) i ≡ Some q → Meets q values → i ≡ suc o.place
shifted_alone r xs values unmet o zero q e k = let f : r ≡ q = cc in absurd (unmet (subst (λ x. Meets x values) (sym f) k))
shifted_alone r xs values unmet o (suc i) q e k = ap (λ n. suc n) (o.alone i q e k)

by_place : (model : Model) (atoms : List Atom) (values : List ℤ) (turns : List (ℕ × Bool)) (ps : List (List (ℕ × Bool) × Bool)) (r : Region) (xs : List Region)
    → IsValid (plain model) values → NoneMet atoms values ps → Meets r values → AreRegionsOf model atoms (to_true ps) xs → MeetsOne (r ∷ xs) values
by_place model atoms values turns ps r xs valid none m h = record {
  place = 0;
  region = r;
  there = refl;
  met = m;
  alone = λ i q e k. first_alone model atoms values ps r xs valid none h i q e k;
}

-- one region of the others, behind one that is not met
shifted : (r : Region) (xs : List Region) (values : List ℤ) → (Meets r values → ⊥) → MeetsOne xs values → MeetsOne (r ∷ xs) values
shifted r xs values unmet o = record {
  place = suc o.place;
  region = o.region;
  there = o.there;
  met = o.met;
  alone = λ i q e k. shifted_alone r xs values unmet o i q e k;
}

pub one_met : (model : Model) (atoms : List Atom) (values : List ℤ) (ps : List (List (ℕ × Bool) × Bool)) (rs : List Region) → IsValid (plain model) values
    → (o : MetOnce atoms values true ps) → (n : ℕ) → o.place ≡ n → AreRegionsOf model atoms (to_true ps) rs → MeetsOne rs values
one_met model atoms values [] rs valid o n e h = let f = o.there in cc
one_met model atoms values ((turns, false) ∷ ps) rs valid o zero e h =
    let f : slice_get ((turns, false) ∷ ps) 0 ≡ Some (o.turns, true) = sym (ap (slice_get ((turns, false) ∷ ps)) e) ∙ o.there in absurd (no_other turns o.turns f)
one_met model atoms values ((turns, false) ∷ ps) rs valid o (suc k) e h =
    let q = later_once atoms values true (turns, false) ps o k e in one_met model atoms values ps rs valid q k refl h
one_met model atoms values ((turns, true) ∷ ps) rs valid o zero e (of.void t qs xs v h) =
    let f : slice_get ((turns, true) ∷ ps) 0 ≡ Some (o.turns, true) = sym (ap (slice_get ((turns, true) ∷ ps)) e) ∙ o.there in
    let g : turns ≡ o.turns = same_turns turns o.turns true true f in
    let k : all_hold (literals_of atoms turns) values ≡ true = subst (λ x. IsMet atoms values x) (sym g) o.met in
    let w = v values valid in cc
one_met model atoms values ((turns, true) ∷ ps) _ valid o zero e (of.region t qs q xs v h) =
    let f : slice_get ((turns, true) ∷ ps) 0 ≡ Some (o.turns, true) = sym (ap (slice_get ((turns, true) ∷ ps)) e) ∙ o.there in
    let g : turns ≡ o.turns = same_turns turns o.turns true true f in
    let k : IsMet atoms values turns = subst (λ x. IsMet atoms values x) (sym g) o.met in
    by_place model atoms values turns ps q xs valid (rest_unmet atoms values true (turns, true) ps o e) (path_met model atoms turns q values v valid k) h
one_met model atoms values ((turns, true) ∷ ps) rs valid o (suc k) e (of.void t qs xs v h) =
    let q = later_once atoms values true (turns, true) ps o k e in one_met model atoms values ps rs valid q k refl h
one_met model atoms values ((turns, true) ∷ ps) _ valid o (suc k) e (of.region t qs r xs v h) =
    let q = later_once atoms values true (turns, true) ps o k e in
    shifted r xs values (λ m. first_unmet atoms values true (turns, true) ps o k e (region_met model atoms turns r values v valid m)) (one_met model atoms values ps xs valid q k refl h)

pub none_met : (model : Model) (atoms : List Atom) (values : List ℤ) (ps : List (List (ℕ × Bool) × Bool)) (rs : List Region) → IsValid (plain model) values
    → (o : MetOnce atoms values false ps) → (n : ℕ) → o.place ≡ n → AreRegionsOf model atoms (to_true ps) rs → (i : ℕ) (r : Region) → slice_get rs i ≡ Some r → Meets r values → ⊥
none_met model atoms values [] rs valid o n e h i r f m = let g = o.there in cc
none_met model atoms values ((turns, true) ∷ ps) rs valid o zero e h i r f m =
    let g : slice_get ((turns, true) ∷ ps) 0 ≡ Some (o.turns, false) = sym (ap (slice_get ((turns, true) ∷ ps)) e) ∙ o.there in no_other o.turns turns (sym g)
none_met model atoms values ((turns, false) ∷ ps) rs valid o zero e h i r f m =
    none_meet model atoms values ps rs valid (rest_unmet atoms values false (turns, false) ps o e) h i r f m
none_met model atoms values ((turns, false) ∷ ps) rs valid o (suc k) e h i r f m =
    none_met model atoms values ps rs valid (later_once atoms values false (turns, false) ps o k e) k refl h i r f m
none_met model atoms values ((turns, true) ∷ ps) rs valid o (suc k) e (of.void t qs xs v h) i r f m =
    none_met model atoms values ps rs valid (later_once atoms values false (turns, true) ps o k e) k refl h i r f m
none_met model atoms values ((turns, true) ∷ ps) _ valid o (suc k) e (of.region t qs q xs v h) zero r f m =
    let g : q ≡ r = cc in first_unmet atoms values false (turns, true) ps o k e (region_met model atoms turns q values v valid (subst (λ x. Meets x values) (sym g) m))
none_met model atoms values ((turns, true) ∷ ps) _ valid o (suc k) e (of.region t qs q xs v h) (suc i) r f m =
    none_met model atoms values ps xs valid (later_once atoms values false (turns, true) ps o k e) k refl h i r f m

pub least_of : (model : Model) (atoms : List Atom) (paths : List (List (ℕ × Bool))) (rs : List Region) → AreRegionsOf model atoms paths rs → (i : ℕ) (r : Region) → slice_get rs i ≡ Some r
    → IsFirst model (all_hold r.literals) r.example.values
least_of model atoms _ _ of.no_path i r e = cc
least_of model atoms _ rs (of.void t ps xs v h) i r e = least_of model atoms ps xs h i r e
least_of model atoms _ _ (of.region t ps q xs v h) zero r e = let f : q ≡ r = cc in subst (λ (x : Region). IsFirst model (all_hold x.literals) x.example.values) f v.1
least_of model atoms _ _ (of.region t ps q xs v h) (suc i) r e = least_of model atoms ps xs h i r e

tree_true : (b : Bool) → (b ≡ false → ⊥) → b ≡ true
tree_true true h = refl
tree_true false h = absurd (h refl)

-- ---- the regions of a tree cover it

pub covers : (model : Model) (atoms : List Atom) (t : Plain Bool) (rs : List Region) → PathsBelow (length atoms) (paths_of t)
    → ((v : List Bool) → TakesOne v (leaf_of t v) (paths_of t)) → AreRegions model atoms t rs → Covers model atoms t rs
covers model atoms t rs below takes h = record {
  one = λ values valid e.
      let o = met_once atoms values (leaf_of t (vector_at atoms values)) (paths_of t) below (takes (vector_at atoms values)) in
      let q : MetOnce atoms values true (paths_of t) = subst (λ x. MetOnce atoms values x (paths_of t)) e o in
      one_met model atoms values (paths_of t) rs valid q q.place refl h;
  only = λ values i r valid e m. tree_true (leaf_of t (vector_at atoms values)) (λ f.
      let o = met_once atoms values (leaf_of t (vector_at atoms values)) (paths_of t) below (takes (vector_at atoms values)) in
      let q : MetOnce atoms values false (paths_of t) = subst (λ x. MetOnce atoms values x (paths_of t)) f o in
      none_met model atoms values (paths_of t) rs valid q q.place refl h i r e m);
  least = λ i r e. least_of model atoms (to_true (paths_of t)) rs h i r e;
}
