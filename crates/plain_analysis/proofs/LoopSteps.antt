-- The steps of a loop whose head is held.
use Rattle.std.proofs.Common.{◌≡◌, ℕ, zero, suc, ◌<◌, ◌≤◌, ℤ, Bool, true, false, if◌then◌else◌, List, [], ◌∷◌, ◌++◌, refl, ap, sym, subst, arith}
use Rattle.std.specs.Prelude.{Ok}
use Rattle.std.specs.List.{AllByRecursion}
use Rattle.fam_outer.specs.declared.faults.Place.{Place}
use Rattle.c_tree.specs.Tree.{Term, Code, Done, If, While, Do, followed}
use Rattle.c_tree.specs.Value.{value_of, is_zero}
use Rattle.c_tree.specs.Fit.{IsTermOf, IsStep, IsCodeOf}
use Rattle.c_tree.specs.Run.{Level, Standing, standing, settled, Moved, with_value, step_of, onward}
use Rattle.c_tree.proofs.Views.{followed-Done}
use Rattle.leaf_domain.specs.Leaves.{LeafValue, nothing_of}
use Rattle.leaf_domain.specs.Transfer.{assumed}
use Rattle.leaf_domain.specs.Soundness.{Suits}
use Rattle.plain_analysis.specs.Stated.{ArePartsOf}
use Rattle.plain_analysis.specs.Statements.{LoopParts, TestFirst, TestLast, inside, body_of, lap, head_by, failing, behind_by, entries_by}
use Rattle.plain_analysis.specs.Ways.{Ways, enter, going_on}
use Rattle.plain_analysis.proofs.Kept.{IsLeaf, AreLeaves, answered, suits, joined_first, joined_second, enter_leaves, going_on_leaf, assumed_leaf, loop_leaves, step_stays}
use Rattle.plain_analysis.proofs.Fine.{Setting, Known, Seen, walk, pass, Fine, Exits, Cut, Next, Good, GoodLoop, body_from, loop_code, again_of, level_of, After, Sound, kept, less, finer, exits_less, none_made, made, cut_at, by_value, zero_from_test, nonzero_from_test, all_first, all_second}

module _ (S : Setting) where
  abbrev Leaf : LeafValue → Type 0
  Leaf v = IsLeaf S.M S.count v

  -- nothing leaves from a step
  step_exits : (n : ℕ) (ls : List Level) (step : Code) (v : LeafValue) → IsStep step → Exits S n ls (pass S step (enter v))
  step_exits n ls step v h = subst (Exits S n ls) (sym (step_stays S.M S.mode S.H step (enter v) h)) (record { broke = none _; continued = none _; returned = none _ })
    where
      none : (go : List ℤ → ℕ → Standing) → Fine S n go (nothing_of v.variables)
      none go = record { run = λ m s taken k p. absurd (S.laws.nothing_holds v.variables s p) }

  own : (e : Term) (v : LeafValue) → Leaf v → IsTermOf S.count e → Suits S.M e v
  own e v i t = suits S.M S.laws S.count e v i t

  module _ (n : ℕ) (place : Place) (l : LoopParts) (k : Code) (ls : List Level) (x : LeafValue) (I : Sound S n) (g : GoodLoop S place l x) (f : (m : ℕ) → m < suc n → After S m l k ls x) where
    abbrev b : Ways
    b = body_from S l x

    b_leaves : AreLeaves S.M S.count b
    b_leaves = (kept S (body_of l) (enter (inside S.M S.mode l x)) g.in_body).leaves

    on_leaf : Leaf (going_on S.M b)
    on_leaf = going_on_leaf S.M S.laws S.count b b_leaves

    -- the loop once more
    once_more : Fine S n (standing (loop_code place l k) ls) x
    once_more = I.loops place l k ls x g (λ m o. f m (omega arith))

    -- where what comes behind the body is fine, the body is
    body_fine : Fine S n (standing (again_of place l k) ls) (going_on S.M b) → Fine S n (standing (body_of l) (level_of place l k ∷ ls)) (inside S.M S.mode l x)
    body_fine again =
        subst (λ c. Fine S n (standing c (level_of place l k ∷ ls)) (inside S.M S.mode l x)) (followed-Done (body_of l))
        (I.statements (body_of l) (enter (inside S.M S.mode l x)) Done (level_of place l k ∷ ls) g.in_body over exits)
      where
        over : Fine S n (standing Done (level_of place l k ∷ ls)) b.behind
        over = record { run = λ m s taken o h. again.run m s taken o (joined_first S.M S.laws S.count b.behind b.continued s b_leaves.behind b_leaves.continued h) }

        exits : Exits S n (level_of place l k ∷ ls) b
        exits = record {
          broke = record { run = (f n (omega arith)).broke.run };
          continued = record { run = λ m s taken o h. again.run m s taken o (joined_second S.M S.laws S.count b.behind b.continued s b_leaves.behind b_leaves.continued h) };
          returned = record { run = (f n (omega arith)).returned.run };
        }

  -- ---- the test first

  module _ (n : ℕ) (place : Place) (e : Term) (step body k : Code) (ls : List Level) (x : LeafValue) (I : Sound S n) (g : GoodLoop S place (TestFirst e step body) x) (f : (m : ℕ) → m < suc n → After S m (TestFirst e step body) k ls x) where
    abbrev first : LoopParts
    first = TestFirst e step body

    first_again : Fine S n (standing (again_of place first k) ls) (going_on S.M (body_from S first x))
    first_again = I.statements step (enter (going_on S.M (body_from S first x))) (While place e step body k) ls g.turning
        (finer S n (standing (While place e step body k) ls) x (lap S.M S.mode S.H first x) g.again (once_more n place first k ls x I g f))
        (step_exits n ls step (going_on S.M (body_from S first x)) g.parts.3)

    first_body : Fine S n (standing body (level_of place first k ∷ ls)) (assumed S.M S.mode e true x)
    first_body = body_fine n place first k ls x I g f first_again

    first_one : (m : ℕ) (s : List ℤ) (taken : ℕ) → m ≤ n → S.M.holds x s → Seen S (onward (step_of S.mode S.inputs (While place e step body k) ls s taken) s (walk S m))
    first_one m s taken o h =
        by_value S (value_of e s S.mode) place (λ i. Moved (if is_zero i then standing k ls s taken else standing body (level_of place first k ∷ ls) s taken)) s m
        (λ i w. by_test i w (is_zero i) refl)
        (λ kind w. g.known.stops kind (S.T.may_holds (While place e step body Done) x ls s S.inputs taken place kind g.leaf.valid ((own e x g.leaf g.parts.0).term, names.0, names.1, tt, g.parts.3) h
        (ap (λ r. with_value place r (λ i. Moved (if is_zero i then standing Done ls s taken else standing body (level_of place first Done ∷ ls) s taken))) w)))
      where
        names : (IsCodeOf x.variables step) × (IsCodeOf x.variables body)
        names = (subst (λ j. IsCodeOf j step) (sym g.leaf.count) g.parts.1, subst (λ j. IsCodeOf j body) (sym g.leaf.count) g.parts.2)

        by_test : (i : ℤ) → value_of e s S.mode ≡ Ok i → (t : Bool) → is_zero i ≡ t
            → Seen S (walk S m (settled (if t then standing k ls s taken else standing body (level_of place first k ∷ ls) s taken)))
        by_test i w true z = (f n (omega arith)).failed.run m s taken o (S.T.assumed_holds e false x s i (own e x g.leaf g.parts.0) h w (zero_from_test i z))
        by_test i w false z = first_body.run m s taken o (S.T.assumed_holds e true x s i (own e x g.leaf g.parts.0) h w (nonzero_from_test i z))

  -- ---- the test last

  module _ (n : ℕ) (place : Place) (body : Code) (at : Place) (e : Term) (k : Code) (ls : List Level) (x : LeafValue) (I : Sound S n) (g : GoodLoop S place (TestLast body at e) x) (f : (m : ℕ) → m < suc n → After S m (TestLast body at e) k ls x) where
    abbrev last : LoopParts
    last = TestLast body at e

    abbrev on : LeafValue
    on = going_on S.M (body_from S last x)

    on_is_leaf : Leaf on
    on_is_leaf = on_leaf n place last k ls x I g f

    -- the test, at most n steps before its end
    tested : (m : ℕ) → suc m ≤ n → (s : List ℤ) (taken : ℕ) → S.M.holds on s → Seen S (onward (step_of S.mode S.inputs (If at e (Do place body at e Done) Done k) ls s taken) s (walk S m))
    tested m o s taken h =
        by_value S (value_of e s S.mode) at (λ i. Moved (standing (followed (if is_zero i then Done else Do place body at e Done) k) ls s taken)) s m
        (λ i w. by_test i w (is_zero i) refl)
        (λ kind w. g.turning.stops kind (S.T.may_holds (If at e Done Done Done) on ls s S.inputs taken at kind on_is_leaf.valid ((own e on on_is_leaf g.parts.0).term, tt, tt, tt) h
        (ap (λ r. with_value at r (λ i. Moved (standing (followed (if is_zero i then Done else Done) Done) ls s taken))) w)))
      where
        by_test : (i : ℤ) → value_of e s S.mode ≡ Ok i → (t : Bool) → is_zero i ≡ t
            → Seen S (walk S m (settled (standing (followed (if t then Done else Do place body at e Done) k) ls s taken)))
        by_test i w true z = (f m (omega arith)).failed.run m s taken (omega arith) (S.T.assumed_holds e false on s i (own e on on_is_leaf g.parts.0) h w (zero_from_test i z))
        by_test i w false z = (once_more n place last k ls x I g f).run m s taken (omega arith) (g.again s (S.T.assumed_holds e true on s i (own e on on_is_leaf g.parts.0) h w (nonzero_from_test i z)))

    last_again : Fine S n (standing (again_of place last k) ls) on
    last_again = record { run = by_count }
      where
        by_count : (m : ℕ) (s : List ℤ) (taken : ℕ) → m ≤ n → S.M.holds on s → Seen S (walk S m (settled (standing (again_of place last k) ls s taken)))
        by_count zero s taken o h = (cut_at S (If at e Done Done Done) _ g.turning (λ s. refl)).cut s h
        by_count (suc m) s taken o h = tested m o s taken h

    last_body : Fine S n (standing body (level_of place last k ∷ ls)) x
    last_body = body_fine n place last k ls x I g f last_again

  -- ---- both

  loop_next : (n : ℕ) (place : Place) (l : LoopParts) (k : Code) (ls : List Level) (x : LeafValue) → Sound S n → GoodLoop S place l x → ((m : ℕ) → m < suc n → After S m l k ls x) → Next S n (loop_code place l k) ls x
  loop_next n place (TestFirst e step body) k ls x I g f = record { next = first_one n place e step body k ls x I g f }
  loop_next n place (TestLast body at e) k ls x I g f = record { next = λ m s taken o h. (last_body n place body at e k ls x I g f).run m s taken o h }

  loop_settled : (place : Place) (l : LoopParts) (k : Code) (ls : List Level) (s : List ℤ) (taken : ℕ) → settled (standing (loop_code place l k) ls s taken) ≡ standing (loop_code place l k) ls s taken
  loop_settled place (TestFirst e step body) k ls s taken = refl
  loop_settled place (TestLast body at e) k ls s taken = refl

  loop_cut : (place : Place) (l : LoopParts) (k : Code) (x : LeafValue) → GoodLoop S place l x → Cut S (loop_code place l k) x
  loop_cut place (TestFirst e step body) k x g = cut_at S (While place e step body k) _ g.known (λ s. refl)
  loop_cut place (TestLast body at e) k x g = cut_at S (Do place body at e k) _ g.known (λ s. refl)

  pub loops_none : (place : Place) (l : LoopParts) (k : Code) (ls : List Level) (x : LeafValue) → GoodLoop S place l x → Fine S 0 (standing (loop_code place l k) ls) x
  loops_none place l k ls x g = none_made S (loop_code place l k) ls x (loop_settled place l k ls) (loop_cut place l k x g)

  pub loops_some : (n : ℕ) → Sound S n → (place : Place) (l : LoopParts) (k : Code) (ls : List Level) (x : LeafValue) → GoodLoop S place l x → ((m : ℕ) → m < suc n → After S m l k ls x) → Fine S (suc n) (standing (loop_code place l k) ls) x
  loops_some n I place l k ls x g f = made S n (loop_code place l k) ls x (loop_settled place l k ls) (loop_cut place l k x g) (loop_next n place l k ls x I g f)

  -- ---- a loop among statements

  pub record Inner (place : Place) (l : LoopParts) (rest : Code) (w : Ways) : Type 0 where
    pub loop : GoodLoop S place l (head_by S.M S.mode S.H place l w.behind)
    pub entered : (s : List ℤ) → S.M.holds w.behind s → S.M.holds (head_by S.M S.mode S.H place l w.behind) s
    pub before : AreLeaves S.M S.count w
    pub others : Good S rest (behind_by S.M S.mode S.H l w (head_by S.M S.mode S.H place l w.behind))

  module _ (place : Place) (e : Term) (step body rest : Code) (w : Ways) (g : Good S (While place e step body rest) w) where
    abbrev parts : LoopParts
    parts = TestFirst e step body

    abbrev head : LeafValue
    head = head_by S.M S.mode S.H place parts w.behind

    head_leaf : Leaf head
    head_leaf = answered S.M S.laws S.count w.behind head g.leaves.behind g.held.0.answers

    behind_step : AllByRecursion (Known S) (entries_by S.M S.mode S.H body (enter (assumed S.M S.mode e true head)) ++ entries_by S.M S.mode S.H rest (behind_by S.M S.mode S.H parts w head))
    behind_step = all_second (Known S) (entries_by S.M S.mode S.H step (enter (going_on S.M (body_from S parts head)))) _ g.known.1

    in_body : Good S body (enter (assumed S.M S.mode e true head))
    in_body = record {
      leaves = enter_leaves S.M S.laws S.count _ (assumed_leaf S.M S.laws S.mode S.A S.count e true head head_leaf g.names.0);
      names = g.names.2;
      plain = g.plain.1;
      known = all_first (Known S) _ _ behind_step;
      held = g.held.2;
    }

    left : AreLeaves S.M S.count (body_from S parts head)
    left = (kept S body _ in_body).leaves

    pub inner_first : Inner place (TestFirst e step body) rest w
    inner_first = record {
      loop = record {
        leaf = head_leaf;
        parts = (g.names.0, g.names.1, g.names.2, g.names.4);
        known = g.known.0;
        in_body = in_body;
        turning = record {
          leaves = enter_leaves S.M S.laws S.count _ (going_on_leaf S.M S.laws S.count _ left);
          names = g.names.1;
          plain = g.plain.0;
          known = all_first (Known S) _ _ g.known.1;
          held = g.held.1;
        };
        again = g.held.0.again;
      };
      entered = g.held.0.entered;
      before = g.leaves;
      others = record {
        leaves = loop_leaves S.M S.laws S.count w _ _ g.leaves left (assumed_leaf S.M S.laws S.mode S.A S.count e false head head_leaf g.names.0);
        names = g.names.3;
        plain = g.plain.2;
        known = all_second (Known S) _ _ behind_step;
        held = g.held.3;
      };
    }

  module _ (place : Place) (body : Code) (at : Place) (e : Term) (rest : Code) (w : Ways) (g : Good S (Do place body at e rest) w) where
    abbrev last_parts : LoopParts
    last_parts = TestLast body at e

    abbrev last_head : LeafValue
    last_head = head_by S.M S.mode S.H place last_parts w.behind

    last_leaf : Leaf last_head
    last_leaf = answered S.M S.laws S.count w.behind last_head g.leaves.behind g.held.0.answers

    last_in : Good S body (enter last_head)
    last_in = record { leaves = enter_leaves S.M S.laws S.count last_head last_leaf; names = g.names.1; plain = g.plain.0; known = all_first (Known S) _ _ g.known.1; held = g.held.1 }

    last_left : AreLeaves S.M S.count (body_from S last_parts last_head)
    last_left = (kept S body _ last_in).leaves

    behind_body : AllByRecursion (Known S) (record { place = at; statement = If at e Done Done Done; leaf = going_on S.M (body_from S last_parts last_head) } ∷ entries_by S.M S.mode S.H rest (behind_by S.M S.mode S.H last_parts w last_head))
    behind_body = all_second (Known S) (entries_by S.M S.mode S.H body (enter last_head)) _ g.known.1

    pub inner_last : Inner place (TestLast body at e) rest w
    inner_last = record {
      loop = record { leaf = last_leaf; parts = (g.names.0, g.names.1); known = g.known.0; in_body = last_in; turning = behind_body.0; again = g.held.0.again };
      entered = g.held.0.entered;
      before = g.leaves;
      others = record {
        leaves = loop_leaves S.M S.laws S.count w _ _ g.leaves last_left (assumed_leaf S.M S.laws S.mode S.A S.count e false _ (going_on_leaf S.M S.laws S.count _ last_left) g.names.0);
        names = g.names.2;
        plain = g.plain.1;
        known = behind_body.1;
        held = g.held.2;
      };
    }

  failed_leaf : (l : LoopParts) (x : LeafValue) → Leaf x → ArePartsOf S.count l → AreLeaves S.M S.count (body_from S l x) → Leaf (failing S.M S.mode S.H l x)
  failed_leaf (TestFirst e step body) x i t h = assumed_leaf S.M S.laws S.mode S.A S.count e false x i t.0
  failed_leaf (TestLast body at e) x i t h = assumed_leaf S.M S.laws S.mode S.A S.count e false _ (going_on_leaf S.M S.laws S.count _ h) t.0

  -- what is behind a loop, where what is behind its list is known
  after_loop : (place : Place) (l : LoopParts) (rest : Code) (w : Ways) (i : Inner place l rest w) (n : ℕ) (k : Code) (ls : List Level)
      → Fine S n (standing (followed rest k) ls) (behind_by S.M S.mode S.H l w (head_by S.M S.mode S.H place l w.behind)).behind
      → Exits S n ls (pass S rest (behind_by S.M S.mode S.H l w (head_by S.M S.mode S.H place l w.behind)))
      → After S n l (followed rest k) ls (head_by S.M S.mode S.H place l w.behind)
  after_loop place l rest w i n k ls f exits =
      let x = head_by S.M S.mode S.H place l w.behind in
      let b = body_from S l x in
      let h = (kept S (body_of l) (enter (inside S.M S.mode l x)) i.loop.in_body).leaves in
      let v = failing S.M S.mode S.H l x in
      let j = failed_leaf l x i.loop.leaf i.loop.parts h in
      record {
        failed = finer S n _ _ v (λ s p. joined_first S.M S.laws S.count v b.broke s j h.broke p) f;
        broke = finer S n _ _ b.broke (λ s p. joined_second S.M S.laws S.count v b.broke s j h.broke p) f;
        returned = finer S n (standing Done []) _ b.returned
            (λ s p. (kept S rest _ i.others).grows.returned s (joined_second S.M S.laws S.count w.returned b.returned s i.before.returned h.returned p)) exits.returned;
      }

  pub loop_cuts : (place : Place) (l : LoopParts) (rest : Code) (w : Ways) → Inner place l rest w → (k : Code) (ls : List Level) → Fine S 0 (standing (loop_code place l (followed rest k)) ls) w.behind
  loop_cuts place l rest w i k ls = finer S 0 _ _ w.behind i.entered (loops_none place l (followed rest k) ls _ i.loop)

  pub loop_steps : (n : ℕ) → Sound S n → (place : Place) (l : LoopParts) (rest : Code) (w : Ways) → Inner place l rest w → (k : Code) (ls : List Level)
      → Fine S n (standing (followed rest k) ls) (behind_by S.M S.mode S.H l w (head_by S.M S.mode S.H place l w.behind)).behind
      → Exits S (suc n) ls (pass S rest (behind_by S.M S.mode S.H l w (head_by S.M S.mode S.H place l w.behind)))
      → Fine S (suc n) (standing (loop_code place l (followed rest k)) ls) w.behind
  loop_steps n I place l rest w i k ls f exits =
      finer S (suc n) _ _ w.behind i.entered
      (loops_some n I place l (followed rest k) ls _ i.loop (λ m o. after_loop place l rest w i m k ls (less S n m _ _ (omega arith) f) (exits_less S (suc n) m ls _ (omega arith) exits)))
