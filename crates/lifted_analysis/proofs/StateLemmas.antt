-- States that are made leaf by leaf.
use Rattle.std.proofs.Common.{◌≡◌, ◌≤◌, ◌+◌, ℕ, List, [], ◌∷◌, Option, Some, None, Bool, ap, sym, ◌∙◌, inl, inr, Result, Ok, Err, IfOk, refl, subst, true, false, if◌then◌else◌}
use Rattle.c_tree.specs.declared.tree.Mode.{Mode}
use Rattle.c_tree.specs.View.{term}
use Rattle.decision_tree.specs.declared.tree.Tree.{Tree}
use Rattle.decision_tree.specs.Plain.{Plain, leaf_of}
use Rattle.decision_tree.specs.Numbered.{Numbered, erase}
use Rattle.decision_tree.specs.Listed.{Keeps, IsNumberedTree, IsTreeIn}
use Rattle.decision_tree.specs.View.{numbered, plain}
use Rattle.decision_tree.proofs.Numbers.{tree_stays, numbered_tree, keeps_same, keeps_both}
use Rattle.decision_tree.proofs.Reached.{has_leaf_of}
use Rattle.leaf_domain.specs.Leaves.{LeafValue, LeafMeaning, LeafLaws, nothing_of, is_nothing_of}
use Rattle.leaf_domain.specs.Soundness.{TransferAnswers}
use Rattle.plain_analysis.proofs.Nothing.{nothing_value}
use Rattle.tree_unify.specs.Leafwise.{IsMapped, IsUnified, LeavesComeFrom, LeavesComeFromBoth, TestsAreOf, TestsAreOfEither}
use Rattle.lifted_analysis.specs.declared.family_context.FamilyContext.{FamilyContext}
use Rattle.lifted_analysis.specs.declared.operations.Combination.TheVariants.{Join}
use Rattle.lifted_analysis.specs.declared.operations.Step.{Step}
use Rattle.lifted_analysis.specs.declared.operations.Step.TheVariants as step
use Rattle.leaf_domain.specs.declared.range.Range.{Range}
use Rattle.lifted_analysis.specs.Lines.{set_from, bounded_by}
use Rattle.lifted_analysis.specs.Steps.{stepped_by, kept_by, combined_by}
use Rattle.lifted_analysis.specs.States.{IsState, IsSized, IsLifted, IsJoint, IsTruth}
use Rattle.lifted_analysis.proofs.IdleLemmas.{assigned_nothing, forgotten_nothing, assumed_nothing, valued_nothing}

-- what holds at Ok
pub if_ok_by : {A E : Type 0} (r : Result A E) (P Q : A → Type 0) → ((x : A) → P x → Q x) → IfOk r P → IfOk r Q
if_ok_by (Ok x) P Q f p = f x p
if_ok_by (Err e) P Q f p = tt

-- the join of what is kept of one leaf and of another
pub kept_or : (M : LeafMeaning) → LeafLaws M → (b : Bool) (x y : LeafValue) → x.variables ≡ y.variables → M.join (kept_by true b x) (kept_by false b y) ≡ (if b then x else y)
kept_or M laws true x y e = ap (λ n. M.join x (nothing_of n)) (sym e) ∙ laws.nothing_join x
kept_or M laws false x y e = ap (λ n. M.join (nothing_of n) y) e ∙ laws.join_nothing y

set_stays : (M : LeafMeaning) → LeafLaws M → (n x : ℕ) (rs : List Range) → set_from M x rs (nothing_of n) ≡ nothing_of n
set_stays M laws n x [] = refl
set_stays M laws n x (r ∷ rs) = ap (set_from M (x + 1) rs) (laws.set_nothing n x r) ∙ set_stays M laws n (x + 1) rs

bounded_stays : (M : LeafMeaning) → LeafLaws M → (n : ℕ) (b : Option (List Range)) → bounded_by M b (nothing_of n) ≡ nothing_of n
bounded_stays M laws n None = refl
bounded_stays M laws n (Some rs) = set_stays M laws n 0 rs

-- a step of Nothing
pub stepped_stays : (M : LeafMeaning) → LeafLaws M → (mode : Mode) → TransferAnswers M mode → (x : LeafValue) → x.variables ≤ 48 → is_nothing_of x ≡ true → (s : Step) → stepped_by M mode s x ≡ x
stepped_stays M laws mode answers x few is s =
    let e : x ≡ nothing_of x.variables = nothing_value x x.variables is refl in ap (stepped_by M mode s) e ∙ (stays s ∙ sym e)
  where
    stays : (s : Step) → stepped_by M mode s (nothing_of x.variables) ≡ nothing_of x.variables
    stays (step.Assign y e) = assigned_nothing M laws mode answers x.variables few y (term e.now)
    stays (step.Forget y) = forgotten_nothing M laws mode answers x.variables few y
    stays (step.Assume e want) = assumed_nothing M laws mode answers x.variables few (term e.now) want
    stays (step.Evaluate e) = valued_nothing M laws mode answers x.variables few (term e.now)
    stays (step.Bound b) = bounded_stays M laws x.variables b.now

-- a leaf that is kept
pub kept_is : (want b : Bool) (x : LeafValue) → b ≡ want → x ≡ kept_by want b x
kept_is true b x e = ap (λ (c : Bool). if c then x else nothing_of x.variables) (sym e)
kept_is false b x e = ap (λ (c : Bool). if c then nothing_of x.variables else x) (sym e)

module _ {L : Type 0} (value : L → LeafValue) (family : FamilyContext) where
  pub state_stays : (before after : List (Plain L)) (t : Numbered L) → Keeps before after → IsState value family before t → IsState value family after t
  state_stays before after t k s = record { tree = tree_stays 0 320 before after t k s.tree; tests = s.tests; leaves = s.leaves }

  pub state_as : (forest : List (Plain L)) (t u : Numbered L) → u ≡ t → IsState value family forest t → IsState value family forest u
  state_as forest t u e s = subst (IsState value family forest) (sym e) s

  pub state_numbered : (forest : List (Plain L)) (t : Numbered L) → IsState value family forest t → IsNumberedTree 0 320 t
  state_numbered forest t s = numbered_tree 0 320 forest t s.tree

  pub state_sized : (forest : List (Plain L)) (t : Numbered L) → IsState value family forest t → IsSized value family t
  state_sized forest t s = record { tree = state_numbered forest t s; tests = s.tests; leaves = s.leaves }

  pub counted : (forest : List (Plain L)) (t : Numbered L) (v : List Bool) → IsState value family forest t → (value (leaf_of (erase t) v)).variables ≡ family.variables
  counted forest t v s = s.leaves (leaf_of (erase t) v) (has_leaf_of (erase t) v)

  pub lifted_made : {E : Type 0} (made : Result (Tree L) E) (P : L → L → Type 0) (f : LeafValue → LeafValue) (before after : List (Plain L)) (t : Numbered L)
      → ((a b : L) → P a b → (value b ≡ f (value a)) × ((value b).variables ≡ (value a).variables))
      → IsState value family before t → IfOk made (λ r. IsMapped P (erase t) (plain r)) → IfOk made (λ r. LeavesComeFrom P (erase t) (plain r))
      → IfOk made (λ r. TestsAreOf (erase t) (plain r)) → IfOk made (λ r. IsTreeIn 0 320 after (numbered r)) → Keeps before after
      → IfOk made (λ r. IsLifted value family before after (λ v. f) (erase t) (numbered r))
  lifted_made (Ok r) P f before after t says s m l q own k = record {
    state = record { tree = own; tests = λ j w. s.tests j (q.each j w); leaves = λ y w. let x = l.each y w in (says x.0 y x.2).1 ∙ s.leaves x.0 x.1 };
    keeps = k;
    at_each = λ v. (says (leaf_of (erase t) v) (leaf_of (plain r) v) (m.at_each v)).0;
  }
  lifted_made (Err e) P f before after t says s m l q own k = tt

  pub joint_made : {E : Type 0} (made : Result (Tree L) E) (P : L → L → L → Type 0) (f : LeafValue → LeafValue → LeafValue) (before after : List (Plain L)) (t u : Numbered L)
      → ((a b c : L) → P a b c → (value c ≡ f (value a) (value b)) × ((value c).variables ≡ (value a).variables))
      → IsState value family before t → IsState value family before u
      → IfOk made (λ r. IsUnified P (erase t) (erase u) (plain r)) → IfOk made (λ r. LeavesComeFromBoth P (erase t) (erase u) (plain r))
      → IfOk made (λ r. TestsAreOfEither (erase t) (erase u) (plain r)) → IfOk made (λ r. IsTreeIn 0 320 after (numbered r)) → Keeps before after
      → IfOk made (λ r. IsJoint value family before after (λ v. f) (erase t) (erase u) (numbered r))
  joint_made (Ok r) P f before after t u says s z m l q own k = record {
    state = record {
      tree = own;
      tests = λ j w. elim (q.each j w) [ inl x ↦ s.tests j x | inr y ↦ z.tests j y ];
      leaves = λ y w. let x = l.each y w in (says x.0 x.1 y x.4).1 ∙ s.leaves x.0 x.2;
    };
    keeps = k;
    at_each = λ v. (says (leaf_of (erase t) v) (leaf_of (erase u) v) (leaf_of (plain r) v) (m.at_each v)).0;
  }
  joint_made (Err e) P f before after t u says s z m l q own k = tt

  pub kept_made : {E : Type 0} (made : Result (Tree L) E) (P : Bool → L → L → Type 0) (f : Bool → LeafValue → LeafValue) (before after : List (Plain L)) (c : Numbered Bool) (t : Numbered L)
      → ((b : Bool) (x y : L) → P b x y → (value y ≡ f b (value x)) × ((value y).variables ≡ (value x).variables))
      → IsTruth family c → IsState value family before t
      → IfOk made (λ r. IsUnified P (erase c) (erase t) (plain r)) → IfOk made (λ r. LeavesComeFromBoth P (erase c) (erase t) (plain r))
      → IfOk made (λ r. TestsAreOfEither (erase c) (erase t) (plain r)) → IfOk made (λ r. IsTreeIn 0 320 after (numbered r)) → Keeps before after
      → IfOk made (λ r. IsLifted value family before after (λ v. f (leaf_of (erase c) v)) (erase t) (numbered r))
  kept_made (Ok r) P f before after c t says h s m l q own k = record {
    state = record {
      tree = own;
      tests = λ j w. elim (q.each j w) [ inl x ↦ h.tests j x | inr y ↦ s.tests j y ];
      leaves = λ y w. let x = l.each y w in (says x.0 x.1 y x.4).1 ∙ s.leaves x.1 x.3;
    };
    keeps = k;
    at_each = λ v. (says (leaf_of (erase c) v) (leaf_of (erase t) v) (leaf_of (plain r) v) (m.at_each v)).0;
  }
  kept_made (Err e) P f before after c t says h s m l q own k = tt

  pub truth_made : {E : Type 0} (made : Result (Tree Bool) E) (after : List (Plain Bool)) (t u : Numbered L)
      → IsSized value family t → IsSized value family u
      → IfOk made (λ r. TestsAreOfEither (erase t) (erase u) (plain r)) → IfOk made (λ r. IsTreeIn 0 320 after (numbered r))
      → IfOk made (λ r. IsTruth family (numbered r))
  truth_made (Ok r) after t u s z q own = record {
    tree = numbered_tree 0 320 after (numbered r) own;
    tests = λ j w. elim (q.each j w) [ inl x ↦ s.tests j x | inr y ↦ z.tests j y ];
  }
  truth_made (Err e) after t u s z q own = tt

  -- where two truths are as they should be
  pub truths_made : {E : Type 0} (made : Result (Tree Bool) E) (after : List (Plain Bool)) (t u : Numbered Bool) → IsTruth family t → IsTruth family u
      → IfOk made (λ r. TestsAreOfEither (erase t) (erase u) (plain r)) → IfOk made (λ r. IsTreeIn 0 320 after (numbered r)) → IfOk made (λ r. IsTruth family (numbered r))
  truths_made (Ok r) after t u s z q own = record {
    tree = numbered_tree 0 320 after (numbered r) own;
    tests = λ j w. elim (q.each j w) [ inl x ↦ s.tests j x | inr y ↦ z.tests j y ];
  }
  truths_made (Err e) after t u s z q own = tt

  -- ---- steps after steps

  pub lifted_same : (forest : List (Plain L)) (t r : Numbered L) → r ≡ t → IsState value family forest t → IsLifted value family forest forest (λ v x. x) (erase t) r
  lifted_same forest t r e s = record {
    state = state_as forest t r e s;
    keeps = keeps_same forest forest refl;
    at_each = λ v. ap (λ u. value (leaf_of (erase u) v)) e;
  }

  pub lifted_then : (a b c : List (Plain L)) (f g : List Bool → LeafValue → LeafValue) (t : Plain L) (r s : Numbered L)
      → IsLifted value family a b f t r → IsLifted value family b c g (erase r) s → IsLifted value family a c (λ v x. g v (f v x)) t s
  lifted_then a b c f g t r s h k = record { state = k.state; keeps = keeps_both a b c h.keeps k.keeps; at_each = λ v. k.at_each v ∙ ap (g v) (h.at_each v) }

  pub lifted_as : (a b : List (Plain L)) (f g : List Bool → LeafValue → LeafValue) (t : Plain L) (r : Numbered L)
      → ((v : List Bool) → f v (value (leaf_of t v)) ≡ g v (value (leaf_of t v))) → IsLifted value family a b f t r → IsLifted value family a b g t r
  lifted_as a b f g t r e h = record { state = h.state; keeps = h.keeps; at_each = λ v. h.at_each v ∙ e v }

  -- a step later, in a forest that has more
  pub lifted_behind : (a b c : List (Plain L)) (f : List Bool → LeafValue → LeafValue) (t : Plain L) (r : Numbered L)
      → Keeps a b → IsLifted value family b c f t r → IsLifted value family a c f t r
  lifted_behind a b c f t r k h = record { state = h.state; keeps = keeps_both a b c k h.keeps; at_each = h.at_each }

  -- two trees that were made from one, combined
  pub joined_lifted : (a b : List (Plain L)) (f g : List Bool → LeafValue → LeafValue) (op : List Bool → LeafValue → LeafValue → LeafValue) (h : List Bool → LeafValue → LeafValue) (t p q : Plain L) (r : Numbered L) (before : List (Plain L))
      → Keeps before a
      → ((v : List Bool) → value (leaf_of p v) ≡ f v (value (leaf_of t v))) → ((v : List Bool) → value (leaf_of q v) ≡ g v (value (leaf_of t v)))
      → ((v : List Bool) → op v (f v (value (leaf_of t v))) (g v (value (leaf_of t v))) ≡ h v (value (leaf_of t v)))
      → IsJoint value family a b op p q r → IsLifted value family before b h t r
  joined_lifted a b f g op h t p q r before k ep eq e j = record {
    state = j.state;
    keeps = keeps_both before a b k j.keeps;
    at_each = λ v. j.at_each v ∙ (ap (λ x. op v x (value (leaf_of q v))) (ep v) ∙ (ap (op v (f v (value (leaf_of t v)))) (eq v) ∙ e v));
  }

  pub selected_made : {E : Type 0} (M : LeafMeaning) → LeafLaws M → (made : Result (Tree L) E) (truth : Plain Bool) (a b c d : List (Plain L)) (t u p q : Numbered L)
      → IsState value family a t → IsState value family a u
      → IsLifted value family a b (λ v. kept_by true (leaf_of truth v)) (erase t) p → IsLifted value family b c (λ v. kept_by false (leaf_of truth v)) (erase u) q
      → IfOk made (λ r. IsJoint value family c d (λ v. combined_by M family.options.now.thresholds Join) (erase p) (erase q) (numbered r))
      → IfOk made (λ r. IsJoint value family a d (λ v x y. if leaf_of truth v then x else y) (erase t) (erase u) (numbered r))
  selected_made M laws (Ok r) truth a b c d t u p q s z h k j = record {
    state = j.state;
    keeps = keeps_both a c d (keeps_both a b c h.keeps k.keeps) j.keeps;
    at_each = λ v. let x = value (leaf_of (erase t) v) in let y = value (leaf_of (erase u) v) in
        j.at_each v ∙ (ap (λ w. M.join w (value (leaf_of (erase q) v))) (h.at_each v) ∙ (ap (M.join (kept_by true (leaf_of truth v) x)) (k.at_each v)
        ∙ kept_or M laws (leaf_of truth v) x y (counted a t v s ∙ sym (counted a u v z))));
  }
  selected_made M laws (Err e) truth a b c d t u p q s z h k j = tt

  -- the join with Nothing everywhere is the other tree
  pub joint_first : {E : Type 0} (M : LeafMeaning) → LeafLaws M → (made : Result (Tree L) E) (forest : List (Plain L)) (t u : Numbered L)
      → IsState value family forest t → IsState value family forest u → ((v : List Bool) → is_nothing_of (value (leaf_of (erase u) v)) ≡ true)
      → IfOk made (λ r. numbered r ≡ t) → IfOk made (λ r. IsJoint value family forest forest (λ v. combined_by M family.options.now.thresholds Join) (erase t) (erase u) (numbered r))
  joint_first M laws (Ok r) forest t u s z n e = record {
    state = state_as forest t (numbered r) e s;
    keeps = keeps_same forest forest refl;
    at_each = λ v.
        let x = value (leaf_of (erase t) v) in
        let is : value (leaf_of (erase u) v) ≡ nothing_of x.variables = nothing_value (value (leaf_of (erase u) v)) x.variables (n v) (counted forest u v z ∙ sym (counted forest t v s)) in
        ap (λ w. value (leaf_of (erase w) v)) e ∙ sym (ap (M.join x) is ∙ laws.nothing_join x);
  }
  joint_first M laws (Err e) forest t u s z n h = tt

  pub joint_second : {E : Type 0} (M : LeafMeaning) → LeafLaws M → (made : Result (Tree L) E) (forest : List (Plain L)) (t u : Numbered L)
      → IsState value family forest t → IsState value family forest u → ((v : List Bool) → is_nothing_of (value (leaf_of (erase t) v)) ≡ true)
      → IfOk made (λ r. numbered r ≡ u) → IfOk made (λ r. IsJoint value family forest forest (λ v. combined_by M family.options.now.thresholds Join) (erase t) (erase u) (numbered r))
  joint_second M laws (Ok r) forest t u s z n e = record {
    state = state_as forest u (numbered r) e z;
    keeps = keeps_same forest forest refl;
    at_each = λ v.
        let y = value (leaf_of (erase u) v) in
        let is : value (leaf_of (erase t) v) ≡ nothing_of y.variables = nothing_value (value (leaf_of (erase t) v)) y.variables (n v) (counted forest t v s ∙ sym (counted forest u v z)) in
        ap (λ w. value (leaf_of (erase w) v)) e ∙ sym (ap (λ w. M.join w y) is ∙ laws.join_nothing y);
  }
  joint_second M laws (Err e) forest t u s z n h = tt
