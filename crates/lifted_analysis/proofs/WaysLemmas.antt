-- What was passed, as states that are made one from another.
use Rattle.std.proofs.Common.{◌≡◌, List, Bool, true, false, if◌then◌else◌, refl, ap, sym, subst, ◌∙◌, Result, Ok, Err, IfOk}
use Rattle.c_tree.specs.declared.tree.Mode.{Mode}
use Rattle.c_tree.specs.Tree.{Term, Jump, Break, Continue, Return, Code}
use Rattle.c_tree.specs.Project.{projected}
use Rattle.decision_tree.specs.declared.tree.Tree.{Tree}
use Rattle.decision_tree.specs.Plain.{Plain, leaf, leaf_of, HasLeaf}
use Rattle.decision_tree.specs.Numbered.{Numbered, erase}
use Rattle.decision_tree.specs.Listed.{Keeps, IsTreeIn}
use Rattle.decision_tree.specs.View.{numbered, plain}
use Rattle.decision_tree.proofs.Numbers.{keeps_same, keeps_both}
use Rattle.leaf_domain.specs.Leaves.{LeafValue, LeafMeaning, LeafLaws, nothing_of, is_nothing_of}
use Rattle.leaf_domain.specs.Soundness.{TransferAnswers}
use Rattle.leaf_domain.specs.Transfer.{valued}
use Rattle.plain_analysis.specs.Statements.{LoopParts, final_heads}
use Rattle.plain_analysis.specs.declared.ways.Ways as rust
use Rattle.plain_analysis.specs.Ways.{Ways, onto, enter, joined, leave_by, behind_loop, end_of}
use Rattle.plain_analysis.proofs.Nothing.{nothing_value, loop_nothing, lap_nothing}
use Rattle.lifted_analysis.specs.declared.family_context.FamilyContext.{FamilyContext}
use Rattle.lifted_analysis.specs.declared.operations.Combination.TheVariants.{Join}
use Rattle.lifted_analysis.specs.States.{IsFamily, IsState, IsLifted, IsJoint, IsMade, AreStates, AreMade, truths_in, ways_at}
use Rattle.lifted_analysis.specs.Steps.{combined_by, parts_at, after_at, lap_at, final_at}
use Rattle.lifted_analysis.proofs.IdleLemmas.{final_idle, passed_stays}
use Rattle.lifted_analysis.proofs.StartLemmas.{no_test}
use Rattle.lifted_analysis.proofs.StateLemmas.{state_stays, state_as, counted}

-- the same four leaves
pub same_ways : (a b : Ways) → a.behind ≡ b.behind → a.broke ≡ b.broke → a.continued ≡ b.continued → a.returned ≡ b.returned → a ≡ b
same_ways a b e f g h = λ i. record { behind = e i; broke = f i; continued = g i; returned = h i }

-- Nothing adds nothing to a leaf over as many variables
pub joined_is : (M : LeafMeaning) → LeafLaws M → (x y : LeafValue) → x.variables ≡ y.variables → M.join x y ≡ joined M x y
joined_is M laws x y c = by_test (is_nothing_of y) refl
  where
    by_test : (t : Bool) → is_nothing_of y ≡ t → M.join x y ≡ (if t then x else M.join x y)
    by_test true e = ap (M.join x) (nothing_value y x.variables e (sym c)) ∙ laws.nothing_join x
    by_test false e = refl

one_leaf : {L : Type 0} (t : Plain L) (x y : L) → t ≡ leaf x → HasLeaf y t → y ≡ x
one_leaf t x y e h = subst (HasLeaf y) e h

module _ {L : Type 0} (value : L → LeafValue) (family : FamilyContext) where
  pub states_stay : (a b : List (Plain L)) (w : rust.Ways (Tree L)) → Keeps a b → AreStates value family a w → AreStates value family b w
  states_stay a b w k s = record {
    behind = state_stays value family a b (numbered w.behind) k s.behind;
    broke = state_stays value family a b (numbered w.broke) k s.broke;
    continued = state_stays value family a b (numbered w.continued) k s.continued;
    returned = state_stays value family a b (numbered w.returned) k s.returned;
  }

  pub states_same : (a b : List (Plain L)) (w : rust.Ways (Tree L)) → b ≡ a → AreStates value family a w → AreStates value family b w
  states_same a b w e s = subst (λ forest. AreStates value family forest w) (sym e) s

  -- ---- one tree

  pub lifted_is : (a b : List (Plain L)) (f : List Bool → LeafValue → LeafValue) (G : List Bool → LeafValue) (t : Plain L) (r : Numbered L) → ((v : List Bool) → f v (value (leaf_of t v)) ≡ G v)
      → IsLifted value family a b f t r → IsMade value family a b G r
  lifted_is a b f G t r e h = record { state = h.state; keeps = h.keeps; at_each = λ v. h.at_each v ∙ e v }

  pub shared_is : (a : List (Plain L)) (G : List Bool → LeafValue) (t r : Numbered L) → IsState value family a t → r ≡ t → ((v : List Bool) → value (leaf_of (erase t) v) ≡ G v) → IsMade value family a a G r
  shared_is a G t r s e h = record { state = state_as value family a t r e s; keeps = keeps_same a a refl; at_each = λ v. ap (λ u. value (leaf_of (erase u) v)) e ∙ h v }

  -- the tree that is Nothing at all vectors
  pub nothing_is_made : {E : Type 0} (made : Result (Tree L) E) (x : L) (a b : List (Plain L)) → value x ≡ nothing_of family.variables → IfOk made (λ t. plain t ≡ leaf x) → IfOk made (λ t. IsTreeIn 0 320 b (numbered t)) → Keeps a b
      → IfOk made (λ t. IsMade value family a b (λ v. nothing_of family.variables) (numbered t))
  nothing_is_made (Ok t) x a b e is own k = record {
    state = record {
      tree = own;
      tests = λ j h. absurd (no_test family (plain t) x j is h);
      leaves = λ y h. ap (λ z. (value z).variables) (one_leaf (plain t) x y is h) ∙ ap (λ (z : LeafValue). z.variables) e;
    };
    keeps = k;
    at_each = λ v. ap (λ u. value (leaf_of u v)) is ∙ e;
  }
  nothing_is_made (Err z) x a b e is own k = tt

  -- the join of two trees, of which Nothing adds nothing
  pub joint_is : (M : LeafMeaning) → LeafLaws M → (a b : List (Plain L)) (t u r : Numbered L) → IsState value family a t → IsState value family a u
      → IsJoint value family a b (λ v. combined_by M family.options.now.thresholds Join) (erase t) (erase u) r
      → IsMade value family a b (λ v. joined M (value (leaf_of (erase t) v)) (value (leaf_of (erase u) v))) r
  joint_is M laws a b t u r s z h = record {
    state = h.state;
    keeps = h.keeps;
    at_each = λ v. h.at_each v ∙ joined_is M laws (value (leaf_of (erase t) v)) (value (leaf_of (erase u) v)) (counted value family a t v s ∙ sym (counted value family a u v z));
  }

  -- the same by other names, and later
  pub is_made_as : (a b c : List (Plain L)) (F G : List Bool → LeafValue) (r : Numbered L) → Keeps a b → ((v : List Bool) → F v ≡ G v) → IsMade value family b c F r → IsMade value family a c G r
  is_made_as a b c F G r k e h = record { state = h.state; keeps = keeps_both a b c k h.keeps; at_each = λ v. h.at_each v ∙ e v }

  pub if_is_made_as : {E : Type 0} (made : Result (Tree L) E) (a b c : List (Plain L)) (F G : List Bool → LeafValue) → Keeps a b → ((v : List Bool) → F v ≡ G v) → IfOk made (λ r. IsMade value family b c F (numbered r)) → IfOk made (λ r. IsMade value family a c G (numbered r))
  if_is_made_as (Ok r) a b c F G k e h = is_made_as a b c F G (numbered r) k e h
  if_is_made_as (Err x) a b c F G k e h = tt

  pub if_lifted_is : {E : Type 0} (made : Result (Tree L) E) (a b c : List (Plain L)) (f : List Bool → LeafValue → LeafValue) (G : List Bool → LeafValue) (t : Plain L) → Keeps a b → ((v : List Bool) → f v (value (leaf_of t v)) ≡ G v)
      → IfOk made (λ r. IsLifted value family b c f t (numbered r)) → IfOk made (λ r. IsMade value family a c G (numbered r))
  if_lifted_is (Ok r) a b c f G t k e h = is_made_as a b c G G (numbered r) k (λ v. refl) (lifted_is b c f G t (numbered r) e h)
  if_lifted_is (Err x) a b c f G t k e h = tt

  pub if_shared_is : {E : Type 0} (made : Result (Tree L) E) (a : List (Plain L)) (G : List Bool → LeafValue) (t : Numbered L) → IsState value family a t → ((v : List Bool) → value (leaf_of (erase t) v) ≡ G v)
      → IfOk made (λ r. numbered r ≡ t) → IfOk made (λ r. IsMade value family a a G (numbered r))
  if_shared_is (Ok r) a G t s h e = shared_is a G t (numbered r) s e h
  if_shared_is (Err x) a G t s h e = tt

  pub if_joint_is : {E : Type 0} (M : LeafMeaning) → LeafLaws M → (made : Result (Tree L) E) (a b c : List (Plain L)) (G : List Bool → LeafValue) (t u : Numbered L) → Keeps a b → IsState value family b t → IsState value family b u
      → ((v : List Bool) → joined M (value (leaf_of (erase t) v)) (value (leaf_of (erase u) v)) ≡ G v)
      → IfOk made (λ r. IsJoint value family b c (λ v. combined_by M family.options.now.thresholds Join) (erase t) (erase u) (numbered r)) → IfOk made (λ r. IsMade value family a c G (numbered r))
  if_joint_is M laws (Ok r) a b c G t u k s z e h = is_made_as a b c _ G (numbered r) k e (joint_is M laws b c t u (numbered r) s z h)
  if_joint_is M laws (Err x) a b c G t u k s z e h = tt

  -- a made tree as a step from another
  pub if_is_lifted : {E : Type 0} (made : Result (Tree L) E) (a b : List (Plain L)) (F : List Bool → LeafValue) (g : List Bool → LeafValue → LeafValue) (t : Plain L) → ((v : List Bool) → F v ≡ g v (value (leaf_of t v)))
      → IfOk made (λ r. IsMade value family a b F (numbered r)) → IfOk made (λ r. IsLifted value family a b g t (numbered r))
  if_is_lifted (Ok r) a b F g t e h = record { state = h.state; keeps = h.keeps; at_each = λ v. h.at_each v ∙ e v }
  if_is_lifted (Err x) a b F g t e h = tt

  -- ---- four trees

  -- nothing has left yet
  pub entered_made : (a b : List (Plain L)) (behind broke continued returned : Tree L) → IsState value family a (numbered behind) → IsMade value family a b (λ v. nothing_of family.variables) (numbered broke)
      → numbered continued ≡ numbered broke → numbered returned ≡ numbered broke
      → AreMade value family a b (λ v. enter (value (leaf_of (plain behind) v))) (record { behind = behind; broke = broke; continued = continued; returned = returned })
  entered_made a b behind broke continued returned s n e f = record {
    states = record {
      behind = state_stays value family a b (numbered behind) n.keeps s;
      broke = n.state;
      continued = state_as value family b (numbered broke) (numbered continued) e n.state;
      returned = state_as value family b (numbered broke) (numbered returned) f n.state;
    };
    keeps = n.keeps;
    at_each = λ v.
        let none : value (leaf_of (plain broke) v) ≡ nothing_of (value (leaf_of (plain behind) v)).variables = n.at_each v ∙ ap (λ m. nothing_of m) (sym (counted value family a (numbered behind) v s)) in
        same_ways _ _ refl none (ap (λ u. value (leaf_of (erase u) v)) e ∙ none) (ap (λ u. value (leaf_of (erase u) v)) f ∙ none);
  }

  nothing_behind : (a b : List (Plain L)) (w : rust.Ways (Tree L)) (x : Tree L) (v : List Bool) → AreStates value family a w → IsMade value family a b (λ v. nothing_of family.variables) (numbered x)
      → value (leaf_of (plain x) v) ≡ nothing_of (value (leaf_of (plain w.behind) v)).variables
  nothing_behind a b w x v s n = n.at_each v ∙ ap (λ m. nothing_of m) (sym (counted value family a (numbered w.behind) v s.behind))

  -- the same jumps, and another tree behind
  pub onto_made : (a b : List (Plain L)) (w : rust.Ways (Tree L)) (x : Tree L) (G : List Bool → LeafValue) → AreStates value family a w → IsMade value family a b G (numbered x)
      → AreMade value family a b (λ v. onto (ways_at value w v) (G v)) (record { behind = x; broke = w.broke; continued = w.continued; returned = w.returned })
  onto_made a b w x G s m =
      let t = states_stay a b w m.keeps s in
      record {
        states = record { behind = m.state; broke = t.broke; continued = t.continued; returned = t.returned };
        keeps = m.keeps;
        at_each = λ v. same_ways _ _ (m.at_each v) refl refl refl;
      }

  pub step_made : (a b : List (Plain L)) (w : rust.Ways (Tree L)) (x : Tree L) (f : List Bool → LeafValue → LeafValue) → AreStates value family a w → IsLifted value family a b f (plain w.behind) (numbered x)
      → AreMade value family a b (λ v. onto (ways_at value w v) (f v (ways_at value w v).behind)) (record { behind = x; broke = w.broke; continued = w.continued; returned = w.returned })
  step_made a b w x f s h = onto_made a b w x (λ v. f v (value (leaf_of (plain w.behind) v))) s (lifted_is a b f _ (plain w.behind) (numbered x) (λ v. refl) h)

  -- nothing changes
  pub unchanged : (a : List (Plain L)) (w : rust.Ways (Tree L)) (G : List Bool → Ways) → AreStates value family a w → ((v : List Bool) → ways_at value w v ≡ G v) → AreMade value family a a G w
  unchanged a w G s e = record { states = s; keeps = keeps_same a a refl; at_each = e }

  -- the same by another name, and later
  pub made_as : (a b c : List (Plain L)) (F G : List Bool → Ways) (r : rust.Ways (Tree L)) → Keeps a b → ((v : List Bool) → F v ≡ G v) → AreMade value family b c F r → AreMade value family a c G r
  made_as a b c F G r k e h = record { states = h.states; keeps = keeps_both a b c k h.keeps; at_each = λ v. h.at_each v ∙ e v }

  pub if_made_as : {E : Type 0} (made : Result (rust.Ways (Tree L)) E) (a b c : List (Plain L)) (F G : List Bool → Ways) → Keeps a b → ((v : List Bool) → F v ≡ G v) → IfOk made (λ r. AreMade value family b c F r) → IfOk made (λ r. AreMade value family a c G r)
  if_made_as (Ok r) a b c F G k e h = made_as a b c F G r k e h
  if_made_as (Err x) a b c F G k e h = tt

  -- what is behind is over the family's variables
  pub behind_counted : (a b : List (Plain L)) (G : List Bool → Ways) (r : rust.Ways (Tree L)) (v : List Bool) → AreMade value family a b G r → (G v).behind.variables ≡ family.variables
  behind_counted a b G r v h = ap (λ (u : Ways). u.behind.variables) (sym (h.at_each v)) ∙ counted value family b (numbered r.behind) v h.states.behind

  -- behind a loop, by the join of what failed with what broke, and of what returned
  pub behind_loop_made : (M : LeafMeaning) → LeafLaws M → (a b c : List (Plain L)) (w : rust.Ways (Tree L)) (failed : Tree L) (body : rust.Ways (Tree L)) (behind returned : Tree L)
      → AreStates value family a w → IsState value family a (numbered failed) → AreStates value family a body
      → IsJoint value family a b (λ v. combined_by M family.options.now.thresholds Join) (plain failed) (plain body.broke) (numbered behind)
      → IsJoint value family b c (λ v. combined_by M family.options.now.thresholds Join) (plain w.returned) (plain body.returned) (numbered returned)
      → AreMade value family a c (λ v. behind_loop M (ways_at value w v) (value (leaf_of (plain failed) v)) (ways_at value body v)) (record { behind = behind; broke = w.broke; continued = w.continued; returned = returned })
  behind_loop_made M laws a b c w failed body behind returned s f z h k =
      let first = joint_is M laws a b (numbered failed) (numbered body.broke) (numbered behind) f z.broke h in
      let s' = states_stay a b w first.keeps s in
      let z' = states_stay a b body first.keeps z in
      let second = joint_is M laws b c (numbered w.returned) (numbered body.returned) (numbered returned) s'.returned z'.returned k in
      let t = states_stay b c w second.keeps s' in
      record {
        states = record { behind = state_stays value family b c (numbered behind) second.keeps first.state; broke = t.broke; continued = t.continued; returned = second.state };
        keeps = keeps_both a b c first.keeps second.keeps;
        at_each = λ v. same_ways _ _ (first.at_each v) refl refl (second.at_each v);
      }

  -- what left by a jump, by the join with what was behind
  pub broke_made : (M : LeafMeaning) → LeafLaws M → (mode : Mode) (a b c : List (Plain L)) (w : rust.Ways (Tree L)) (behind broke : Tree L) → AreStates value family a w
      → IsMade value family a b (λ v. nothing_of family.variables) (numbered behind)
      → IsJoint value family b c (λ v. combined_by M family.options.now.thresholds Join) (plain w.broke) (plain w.behind) (numbered broke)
      → AreMade value family a c (λ v. leave_by M mode Break (ways_at value w v)) (record { behind = behind; broke = broke; continued = w.continued; returned = w.returned })
  broke_made M laws mode a b c w behind broke s n h =
      let s' = states_stay a b w n.keeps s in
      let left = joint_is M laws b c (numbered w.broke) (numbered w.behind) (numbered broke) s'.broke s'.behind h in
      let t = states_stay b c w left.keeps s' in
      record {
        states = record { behind = state_stays value family b c (numbered behind) left.keeps n.state; broke = left.state; continued = t.continued; returned = t.returned };
        keeps = keeps_both a b c n.keeps left.keeps;
        at_each = λ v. same_ways _ _ (nothing_behind a b w behind v s n) (left.at_each v) refl refl;
      }

  pub continued_made : (M : LeafMeaning) → LeafLaws M → (mode : Mode) (a b c : List (Plain L)) (w : rust.Ways (Tree L)) (behind continued : Tree L) → AreStates value family a w
      → IsMade value family a b (λ v. nothing_of family.variables) (numbered behind)
      → IsJoint value family b c (λ v. combined_by M family.options.now.thresholds Join) (plain w.continued) (plain w.behind) (numbered continued)
      → AreMade value family a c (λ v. leave_by M mode Continue (ways_at value w v)) (record { behind = behind; broke = w.broke; continued = continued; returned = w.returned })
  continued_made M laws mode a b c w behind continued s n h =
      let s' = states_stay a b w n.keeps s in
      let left = joint_is M laws b c (numbered w.continued) (numbered w.behind) (numbered continued) s'.continued s'.behind h in
      let t = states_stay b c w left.keeps s' in
      record {
        states = record { behind = state_stays value family b c (numbered behind) left.keeps n.state; broke = t.broke; continued = left.state; returned = t.returned };
        keeps = keeps_both a b c n.keeps left.keeps;
        at_each = λ v. same_ways _ _ (nothing_behind a b w behind v s n) refl (left.at_each v) refl;
      }

  pub returned_made : (M : LeafMeaning) → LeafLaws M → (mode : Mode) (e : Term) (a b c d : List (Plain L)) (w : rust.Ways (Tree L)) (behind returning returned : Tree L) → AreStates value family a w
      → IsMade value family a b (λ v. nothing_of family.variables) (numbered behind) → IsLifted value family b c (λ v. valued M mode e) (plain w.behind) (numbered returning)
      → IsJoint value family c d (λ v. combined_by M family.options.now.thresholds Join) (plain w.returned) (plain returning) (numbered returned)
      → AreMade value family a d (λ v. leave_by M mode (Return e) (ways_at value w v)) (record { behind = behind; broke = w.broke; continued = w.continued; returned = returned })
  returned_made M laws mode e a b c d w behind returning returned s n l h =
      let s' = states_stay b c w l.keeps (states_stay a b w n.keeps s) in
      let left = joint_is M laws c d (numbered w.returned) (numbered returning) (numbered returned) s'.returned l.state h in
      let t = states_stay c d w left.keeps s' in
      record {
        states = record { behind = state_stays value family c d (numbered behind) left.keeps (state_stays value family b c (numbered behind) l.keeps n.state); broke = t.broke; continued = t.continued; returned = left.state };
        keeps = keeps_both a c d (keeps_both a b c n.keeps l.keeps) left.keeps;
        at_each = λ v. same_ways _ _ (nothing_behind a b w behind v s n) refl refl (left.at_each v ∙ ap (joined M (value (leaf_of (plain w.returned) v))) (l.at_each v));
      }

  -- the tree at the end of a program
  pub end_made : {E : Type 0} (M : LeafMeaning) → LeafLaws M → (made : Result (Tree L) E) (a b c d : List (Plain L)) (w : rust.Ways (Tree L)) (x y : Tree L) → AreStates value family a w
      → IsJoint value family a b (λ v. combined_by M family.options.now.thresholds Join) (plain w.behind) (plain w.returned) (numbered x)
      → IsJoint value family b c (λ v. combined_by M family.options.now.thresholds Join) (plain x) (plain w.broke) (numbered y)
      → IfOk made (λ r. IsJoint value family c d (λ v. combined_by M family.options.now.thresholds Join) (plain y) (plain w.continued) (numbered r))
      → IfOk made (λ r. IsMade value family a d (λ v. end_of M (ways_at value w v)) (numbered r))
  end_made M laws made a b c d w x y s h k l =
      let first = joint_is M laws a b (numbered w.behind) (numbered w.returned) (numbered x) s.behind s.returned h in
      let s' = states_stay a b w first.keeps s in
      let second = joint_is M laws b c (numbered x) (numbered w.broke) (numbered y) first.state s'.broke k in
      let s'' = states_stay b c w second.keeps s' in
      if_joint_is M laws made a c d (λ v. end_of M (ways_at value w v)) (numbered y) (numbered w.continued) (keeps_both a b c first.keeps second.keeps) second.state s''.continued
      (λ v. ap (λ u. joined M u (value (leaf_of (plain w.continued) v))) (second.at_each v ∙ ap (λ u. joined M u (value (leaf_of (plain w.broke) v))) (first.at_each v))) l

  -- a jump by another name
  pub left_as : (M : LeafMeaning) (mode : Mode) (a c : List (Plain L)) (w r : rust.Ways (Tree L)) (j k : Jump) → j ≡ k → AreMade value family a c (λ v. leave_by M mode k (ways_at value w v)) r → AreMade value family a c (λ v. leave_by M mode j (ways_at value w v)) r
  left_as M mode a c w r j k e h = record { states = h.states; keeps = h.keeps; at_each = λ v. h.at_each v ∙ ap (λ i. leave_by M mode i (ways_at value w v)) (sym e) }

  -- ---- statements

  module _ (M : LeafMeaning) (laws : LeafLaws M) (A : TransferAnswers M family.options.now.mode) (is : IsFamily family) where
    nothing_there : (forest : List (Plain L)) (t : Numbered L) (v : List Bool) → IsState value family forest t → is_nothing_of (value (leaf_of (erase t) v)) ≡ true → value (leaf_of (erase t) v) ≡ nothing_of family.variables
    nothing_there forest t v s e = nothing_value (value (leaf_of (erase t) v)) family.variables e (counted value family forest t v s)

    -- with Nothing everywhere behind, nothing changes
    pub nothing_changes : (forest : List (Plain L)) (w : rust.Ways (Tree L)) (c : Code) → AreStates value family forest w → ((v : List Bool) → is_nothing_of (value (leaf_of (plain w.behind) v)) ≡ true)
        → AreMade value family forest forest (λ v. after_at M family c v (ways_at value w v)) w
    nothing_changes forest w c s e =
        let o = family.options.now in
        unchanged forest w (λ v. after_at M family c v (ways_at value w v)) s
        (λ v. sym (passed_stays M laws o.mode A family.variables is.few (final_heads M o) (final_idle M laws o A family.variables is.few) (projected (truths_in family.choices.now v) c) (ways_at value w v) (nothing_there forest (numbered w.behind) v s.behind (e v))))

    -- a loop that is entered with Nothing everywhere ends with it
    pub nothing_ends : (forest : List (Plain L)) (t : Numbered L) (l : LoopParts) → IsState value family forest t → ((v : List Bool) → is_nothing_of (value (leaf_of (erase t) v)) ≡ true)
        → (v : List Bool) → value (leaf_of (erase t) v) ≡ final_at M family l v (value (leaf_of (erase t) v))
    nothing_ends forest t l s e v =
        let none = nothing_there forest t v s (e v) in
        none ∙ (sym (loop_nothing M laws family.options.now A family.variables is.few (lap_at M family l v) (lap_nothing M laws family.options.now A family.variables is.few (parts_at (truths_in family.choices.now v) l))) ∙ ap (final_at M family l v) (sym none))

  -- one more statement of a list, after those so far
  pub then_passed : (a b c : List (Plain L)) (w made next : rust.Ways (Tree L)) (F G : List Bool → Ways → Ways) (K : List Bool → Ways → Ways) → AreMade value family a b (λ v. F v (ways_at value w v)) made
      → AreMade value family b c (λ v. G v (ways_at value made v)) next → ((v : List Bool) → G v (F v (ways_at value w v)) ≡ K v (ways_at value w v)) → AreMade value family a c (λ v. K v (ways_at value w v)) next
  then_passed a b c w made next F G K h k e = made_as a b c (λ v. G v (ways_at value made v)) (λ v. K v (ways_at value w v)) next h.keeps (λ v. ap (G v) (h.at_each v) ∙ e v) k

  -- two lists, one after the other, of which the second is entered with another tree
  pub both_made : (M : LeafMeaning) (a b c d : List (Plain L)) (w first made : rust.Ways (Tree L)) (second behind : Tree L) (F G : List Bool → Ways → Ways)
      → AreMade value family a b (λ v. F v (ways_at value w v)) first
      → AreMade value family b c (λ v. G v (onto (ways_at value first v) (value (leaf_of (plain second) v)))) made
      → IsJoint value family c d (λ v. combined_by M family.options.now.thresholds Join) (plain first.behind) (plain made.behind) (numbered behind)
      → AreMade value family a d (λ v. let x = F v (ways_at value w v) in let y = G v (onto x (value (leaf_of (plain second) v))) in onto y (M.join x.behind y.behind))
      (record { behind = behind; broke = made.broke; continued = made.continued; returned = made.returned })
  both_made M a b c d w first made second behind F G h k j =
      let t = states_stay c d made j.keeps k.states in
      record {
        states = record { behind = j.state; broke = t.broke; continued = t.continued; returned = t.returned };
        keeps = keeps_both a c d (keeps_both a b c h.keeps k.keeps) j.keeps;
        at_each = λ v.
            let z = value (leaf_of (plain second) v) in
            let x = F v (ways_at value w v) in
            let y : ways_at value made v ≡ G v (onto x z) = k.at_each v ∙ ap (λ (u : Ways). G v (onto u z)) (h.at_each v) in
            ap (λ (u : LeafValue). onto (ways_at value made v) u) (j.at_each v)
            ∙ (ap (λ (u : Ways). onto (ways_at value made v) (M.join u.behind (ways_at value made v).behind)) (h.at_each v) ∙ ap (λ (u : Ways). onto u (M.join x.behind u.behind)) y);
      }

  -- what both lists leave behind is over the family's variables
  pub both_counted : (a b c : List (Plain L)) (w first made : rust.Ways (Tree L)) (second : Tree L) (F G : List Bool → Ways → Ways) (v : List Bool)
      → AreMade value family a b (λ v. F v (ways_at value w v)) first
      → AreMade value family b c (λ v. G v (onto (ways_at value first v) (value (leaf_of (plain second) v)))) made
      → ((F v (ways_at value w v)).behind.variables ≡ family.variables) × ((G v (onto (F v (ways_at value w v)) (value (leaf_of (plain second) v)))).behind.variables ≡ family.variables)
  both_counted a b c w first made second F G v h k = (
    behind_counted a b (λ v. F v (ways_at value w v)) first v h,
    ap (λ (u : Ways). (G v (onto u (value (leaf_of (plain second) v)))).behind.variables) (sym (h.at_each v)) ∙ behind_counted b c (λ v. G v (onto (ways_at value first v) (value (leaf_of (plain second) v)))) made v k,
  )

  -- where what both lists leave is over the family's variables
  pub if_counted_as : {E : Type 0} (made : Result (rust.Ways (Tree L)) E) (a b c : List (Plain L)) (C : List Bool → Type 0) (F G : List Bool → Ways) → Keeps a b → ((v : List Bool) → C v → F v ≡ G v)
      → IfOk made (λ r. (v : List Bool) → C v) → IfOk made (λ r. AreMade value family b c F r) → IfOk made (λ r. AreMade value family a c G r)
  if_counted_as (Ok r) a b c C F G k e n h = made_as a b c F G r k (λ v. e v (n v)) h
  if_counted_as (Err x) a b c C F G k e n h = tt
