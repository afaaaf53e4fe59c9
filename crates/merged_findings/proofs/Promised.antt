-- What is promised of merged findings.
use Rattle.std.proofs.Common.{◌≡◌, ◌∙◌, ℕ, Bool, true, false, List, [], ◌∷◌, map, refl, ap, sym, subst, inl, inr}
use Rattle.std.specs.Prelude.{Result, Ok, Err, IfOk}
use Rattle.std.specs.List.{All, AllByRecursion}
use Rattle.std.proofs.lemmas.List.Elements.{All-from_recursion, recursion_from_All}
use Rattle.fam_outer.specs.declared.faults.Place.{Place}
use Rattle.c_tree.specs.declared.tree.Kind.{Kind}
use Rattle.cpp_conditions.specs.Propositions.{Proposition, IsBelow, true_on}
use Rattle.decision_tree.specs.Plain.{Plain, leaf, node, IsNodeOf}
use Rattle.decision_tree.specs.View.{plain}
use Rattle.decision_tree.proofs.Reduced.{tests_below}
use Rattle.leaf_domain.specs.Leaves.{LeafValue}
use Rattle.lifted_analysis.specs.declared.findings.AlarmTree.{AlarmTree}
use Rattle.lifted_analysis.specs.declared.findings.FamilyFindings.{FamilyFindings}
use Rattle.lifted_analysis.specs.declared.findings.PlaceTree.{PlaceTree}
use Rattle.lifted_analysis.specs.Canon.{IsTreeOf}
use Rattle.lifted_analysis.specs.Promises.{valued}
use Rattle.tree_restrict.specs.Restricted.{is_false, never, afters}
use Rattle.tree_unify.specs.Formulas as formulas
use Rattle.tree_unify.proofs.FormulaTrees.{number_below}
use Rattle.merged_findings.specs.Merged.{IsMergedTree}
use Rattle.merged_findings.specs.Pairs.{ArePairs, AreMerged, IsMergedAlarm, IsMergedPlace}
use Rattle.merged_findings.specs.Restricting.{IsLeft, IsRestrictedBy, IsOwn, IsRestrictedTo}

-- ---- leaves by their values

module _ {L : Type 0} (value : L → LeafValue) (exact : (a b : L) → value a ≡ value b → a ≡ b) where
  abbrev V : Plain L → Plain LeafValue
  V t = valued value t

  same_by : (t u : Plain L) → V t ≡ V u → t ≡ u
  same_by (leaf x) (leaf y) e = let h : value x ≡ value y = cc in ap leaf (exact x y h)
  same_by (leaf x) (node k low high) e = cc
  same_by (node k low high) (leaf y) e = cc
  same_by (node k low high) (node j p q) e =
      let f : V low ≡ V p = cc in
      let g : V high ≡ V q = cc in
      let h : k ≡ j = cc in
      let l = same_by low p f in
      let r = same_by high q g in
      cc

  node_by : (test : ℕ) (p q r : Plain L) → IsNodeOf test p q r → IsNodeOf test (V p) (V q) (V r)
  node_by test p q r (inl (e, is)) = inl (ap V e, ap V is)
  node_by test p q r (inr (apart, is)) = inr ((λ h. apart (same_by p q h)), ap V is)

  left_by : (test : ℕ) (n y : Bool) (r : Plain L) (No Yes : Plain L → Type 0) (No' Yes' : Plain LeafValue → Type 0) → ((p : Plain L) → No p → No' (V p)) → ((q : Plain L) → Yes q → Yes' (V q))
      → IsLeft test n y No Yes r → IsLeft test n y No' Yes' (V r)
  left_by test true y r No Yes No' Yes' p q h = q r h
  left_by test false true r No Yes No' Yes' p q h = p r h
  left_by test false false r No Yes No' Yes' p q (l, u, lo, hi, made) = (V l, V u, p l lo, q u hi, node_by test l u r made)

  restricted_by : (t : Plain L) (cs : List (Plain Bool)) (r : Plain L) → IsRestrictedBy t cs r → IsRestrictedBy (V t) cs (V r)
  restricted_by (leaf x) cs r is = ap V is
  restricted_by (node test low high) cs r is =
      left_by test (never (afters test false cs)) (never (afters test true cs)) r
      (IsRestrictedBy low (afters test false cs)) (IsRestrictedBy high (afters test true cs))
      (IsRestrictedBy (V low) (afters test false cs)) (IsRestrictedBy (V high) (afters test true cs))
      (restricted_by low (afters test false cs)) (restricted_by high (afters test true cs)) is

  own_by : (b : Bool) (t : Plain L) (cs : List (Plain Bool)) (r : Plain L) → IsOwn b t cs r → IsOwn b (V t) cs (V r)
  own_by true t cs r is = ap V is
  own_by false t cs r is = restricted_by t cs r is

  valued_restricted : (t : Plain L) (c : Plain Bool) (r : Plain L) → IsRestrictedTo t c r → IsRestrictedTo (V t) c (V r)
  valued_restricted t c r is = own_by (is_false c) t (c ∷ []) r is

-- ---- lists side by side

module _ {X Y K : Type 0} (R : X → Y → Type 0) (key : X → K) (of : Y → K) (same : (x : X) (y : Y) → R x y → of y ≡ key x) where
  keys_by : (xs : List X) (ys : List Y) → ArePairs R xs ys → map of ys ≡ map key xs
  keys_by [] [] h = refl
  keys_by [] (y ∷ ys) h = absurd h
  keys_by (x ∷ xs) [] h = absurd h
  keys_by (x ∷ xs) (y ∷ ys) h = ap (λ k. k ∷ map of ys) (same x y h.0) ∙ ap (λ ks. key x ∷ ks) (keys_by xs ys h.1)

module _ {X Y : Type 0} (R : X → Y → Type 0) (P : X → Type 0) (Q : Y → Type 0) (so : (x : X) (y : Y) → R x y → P x → Q y) where
  all_by : (xs : List X) (ys : List Y) → ArePairs R xs ys → AllByRecursion P xs → AllByRecursion Q ys
  all_by [] [] h all = tt
  all_by [] (y ∷ ys) h all = absurd h
  all_by (x ∷ xs) [] h all = absurd h
  all_by (x ∷ xs) (y ∷ ys) h all = (so x y h.0 all.0, all_by xs ys h.1 all.1)

  pub pairs_all : (xs : List X) (ys : List Y) → ArePairs R xs ys → All P xs → All Q ys
  pairs_all xs ys h all = All-from_recursion Q ys (all_by xs ys h (recursion_from_All P xs all))

-- ---- the tree of what is plausible

care_tree : (m : ℕ) (p : Proposition ℕ) (care : Plain Bool) → IsBelow m p → formulas.IsTreeOf p care → IsTreeOf m (λ v. true_on v p) care
care_tree m p care below h = record {
  reduced = h.reduced;
  tests = tests_below m care (λ k w. number_below m k p below (h.tests k w));
  leads = λ v long. h.truth v;
}

-- ---- what the call promises

module _ {L : Type 0} (value : L → LeafValue) (exact : (a b : L) → value a ≡ value b → a ≡ b) (p : Proposition ℕ) (old new : FamilyFindings L) (h : AreMerged p old new) where
  pub place_keys : map (λ (x : PlaceTree L). x.place) new.places.items ≡ map (λ (x : PlaceTree L). x.place) old.places.items
  place_keys = keys_by (IsMergedPlace h.care) (λ (x : PlaceTree L). x.place) (λ (x : PlaceTree L). x.place) (λ x y r. r.place) old.places.items new.places.items h.places

  same_key : (a b : AlarmTree) → IsMergedAlarm h.care a b → (let k : Place × Kind = (b.place, b.kind) in k) ≡ (a.place, a.kind)
  same_key a b r = ap (λ (x : Place). let k : Place × Kind = (x, b.kind) in k) r.place ∙ ap (λ (x : Kind). let k : Place × Kind = (a.place, x) in k) r.kind

  pub alarm_keys : map (λ (a : AlarmTree). let k : Place × Kind = (a.place, a.kind) in k) new.alarms.items ≡ map (λ (a : AlarmTree). let k : Place × Kind = (a.place, a.kind) in k) old.alarms.items
  alarm_keys = keys_by (IsMergedAlarm h.care) (λ (a : AlarmTree). (a.place, a.kind)) (λ (a : AlarmTree). (a.place, a.kind)) same_key old.alarms.items new.alarms.items h.alarms

  module _ (m : ℕ) (below : IsBelow m p) where
    care_is : IsTreeOf m (λ v. true_on v p) h.care
    care_is = care_tree m p h.care below h.care_is

    place_tree : (f : Place → List Bool → LeafValue) (x y : PlaceTree L) → IsMergedPlace h.care x y → IsTreeOf m (f x.place) (valued value (plain x.tree)) → IsMergedTree m (f y.place) p (valued value (plain y.tree))
    place_tree f x y r is = record {
      whole = valued value (plain x.tree);
      care = h.care;
      whole_is = subst (λ q. IsTreeOf m (f q) (valued value (plain x.tree))) (sym r.place) is;
      care_is = care_is;
      merged = valued_restricted value exact (plain x.tree) h.care (plain y.tree) r.tree;
    }

    pub place_trees : (f : Place → List Bool → LeafValue) → All (λ (x : PlaceTree L). IsTreeOf m (f x.place) (valued value (plain x.tree))) old.places.items
        → All (λ (x : PlaceTree L). IsMergedTree m (f x.place) p (valued value (plain x.tree))) new.places.items
    place_trees f all =
        pairs_all (IsMergedPlace h.care) (λ (x : PlaceTree L). IsTreeOf m (f x.place) (valued value (plain x.tree))) (λ (x : PlaceTree L). IsMergedTree m (f x.place) p (valued value (plain x.tree)))
        (place_tree f) old.places.items new.places.items h.places all

    alarm_tree : (f : Place × Kind → List Bool → Bool) (a b : AlarmTree) → IsMergedAlarm h.care a b → IsTreeOf m (f (a.place, a.kind)) (plain a.tree) → IsMergedTree m (f (b.place, b.kind)) p (plain b.tree)
    alarm_tree f a b r is = record {
      whole = plain a.tree;
      care = h.care;
      whole_is = subst (λ (k : Place × Kind). IsTreeOf m (f k) (plain a.tree)) (sym (same_key a b r)) is;
      care_is = care_is;
      merged = r.tree;
    }

    pub alarm_trees : (f : Place × Kind → List Bool → Bool) → All (λ (a : AlarmTree). IsTreeOf m (f (a.place, a.kind)) (plain a.tree)) old.alarms.items
        → All (λ (a : AlarmTree). IsMergedTree m (f (a.place, a.kind)) p (plain a.tree)) new.alarms.items
    alarm_trees f all =
        pairs_all (IsMergedAlarm h.care) (λ (a : AlarmTree). IsTreeOf m (f (a.place, a.kind)) (plain a.tree)) (λ (a : AlarmTree). IsMergedTree m (f (a.place, a.kind)) p (plain a.tree))
        (alarm_tree f) old.alarms.items new.alarms.items h.alarms all

-- where it answers
pub if_merged : {L E : Type 0} (result : Result (FamilyFindings L) E) (P Q : FamilyFindings L → Type 0) → ((made : FamilyFindings L) → P made → Q made) → IfOk result P → IfOk result Q
if_merged (Ok made) P Q so h = so made h
if_merged (Err e) P Q so h = tt
