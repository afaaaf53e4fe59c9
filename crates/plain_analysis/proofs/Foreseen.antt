-- Each run of a plain program is foreseen: by induction on the number of steps, in any loops that are entered.
use Rattle.std.proofs.Common.{◌≡◌, ℕ, zero, suc, ◌+◌, ◌≤◌, ℤ, Bool, true, false, if◌then◌else◌, List, [], ◌++◌, refl, ap, sym, ◌∙◌, subst, arith, inl, inr, ◌⊎◌}
use Rattle.std.specs.Prelude.{Ok, slice_get, slice_set}
use Rattle.std.specs.List.{AllByRecursion}
use Rattle.std.proofs.lemmas.List.Elements.{recursion_from_All}
use Rattle.fam_outer.specs.declared.faults.Place.{Place}
use Rattle.c_tree.specs.declared.tree.Kind.TheVariants.{Assertion}
use Rattle.c_tree.specs.Tree.{Term, Jump, Break, Continue, Return, Code, Done, Assign, Input, Assert, If, While, Do, Leave, Block, Skip, Cond, followed}
use Rattle.c_tree.specs.Value.{value_of, is_zero, IsInt}
use Rattle.c_tree.specs.Fit.{IsTermOf, IsCodeOf}
use Rattle.c_tree.specs.Run.{Level, standing, settled, left_by, Moved, Stopped, with_value, step_of, onward}
use Rattle.c_tree.proofs.Views.{followed-Done}
use Rattle.leaf_domain.specs.Leaves.{LeafValue}
use Rattle.leaf_domain.specs.Transfer.{assumed, assigned, valued, forgotten}
use Rattle.leaf_domain.specs.Soundness.{Suits}
use Rattle.plain_analysis.specs.Statements.{TestFirst, TestLast, chosen, entries_by}
use Rattle.plain_analysis.specs.Ways.{Ways, onto, enter, joined, leave_by, end_of}
use Rattle.plain_analysis.proofs.Kept.{IsLeaf, AreLeaves, Kept, suits, below, alike, join_leaf, joined_leaf, joined_first, joined_second, onto_leaves, assumed_leaf, assigned_leaf, valued_leaf, forgotten_leaf, leave_kept}
use Rattle.plain_analysis.proofs.Fine.{Setting, Known, Seen, walk, pass, Fine, Exits, Next, Good, Sound, kept, less, finer, exits_less, exits_finer, none_made, made, at_place, cut_at, by_value, by_input, zero_from_test, nonzero_from_test, got_int, all_first, all_second}
use Rattle.plain_analysis.proofs.LoopSteps.{loops_none, loops_some, inner_first, inner_last, loop_cuts, loop_steps}

module _ (S : Setting) where
  abbrev Leaf : LeafValue → Type 0
  Leaf v = IsLeaf S.M S.count v

  own : (e : Term) (v : LeafValue) → Leaf v → IsTermOf S.count e → Suits S.M e v
  own e v i t = suits S.M S.laws S.count e v i t

  over : (c : Code) (v : LeafValue) → Leaf v → IsCodeOf S.count c → IsCodeOf v.variables c
  over c v i t = subst (λ m. IsCodeOf m c) (sym i.count) t

  cut_of_statement : (c : Code) (w : Ways) (k : Code) (ls : List Level) → Good S c w → Fine S 0 (standing k ls) (pass S c w).behind → Exits S 0 ls (pass S c w) → Fine S 0 (standing (followed c k) ls) w.behind
  cut_of_statement Done w k ls g f x = f
  cut_of_statement (Assign place x e rest) w k ls g f _ = none_made S _ ls w.behind (λ s taken. refl) (cut_at S _ _ g.known.0 (λ s. refl))
  cut_of_statement (Input place x rest) w k ls g f _ = none_made S _ ls w.behind (λ s taken. refl) (cut_at S _ _ g.known.0 (λ s. refl))
  cut_of_statement (Assert place e rest) w k ls g f _ = none_made S _ ls w.behind (λ s taken. refl) (cut_at S _ _ g.known.0 (λ s. refl))
  cut_of_statement (If place e p q rest) w k ls g f _ = none_made S _ ls w.behind (λ s taken. refl) (cut_at S _ _ g.known.0 (λ s. refl))
  cut_of_statement (While place e step body rest) w k ls g f _ = loop_cuts S place (TestFirst e step body) rest w (inner_first S place e step body rest w g) k ls
  cut_of_statement (Do place body at e rest) w k ls g f _ = loop_cuts S place (TestLast body at e) rest w (inner_last S place body at e rest w g) k ls
  cut_of_statement (Leave place jump rest) w k ls g f _ = none_made S _ ls w.behind (λ s taken. refl) (cut_at S _ _ g.known.0 (λ s. refl))
  cut_of_statement (Block place body rest) w k ls g f _ = none_made S _ ls w.behind (λ s taken. refl) (cut_at S _ _ g.known.0 (λ s. refl))
  cut_of_statement (Skip place rest) w k ls g f _ = none_made S _ ls w.behind (λ s taken. refl) (cut_at S _ _ g.known.0 (λ s. refl))
  cut_of_statement (Cond number p q rest) w k ls g f _ = absurd g.plain

  module _ (n : ℕ) (I : Sound S n) (k : Code) (ls : List Level) where
    -- the statements after the first
    behind : (c : Code) (w : Ways) → Good S c w → Fine S (suc n) (standing k ls) (pass S c w).behind → Exits S (suc n) ls (pass S c w) → Fine S n (standing (followed c k) ls) w.behind
    behind c w g f x = I.statements c w k ls g (less S (suc n) n (standing k ls) (pass S c w).behind (omega arith) f) (exits_less S (suc n) n ls (pass S c w) (omega arith) x)

    assign_next : (place : Place) (x : ℕ) (e : Term) (rest : Code) (w : Ways) → Good S (Assign place x e rest) w → Fine S (suc n) (standing k ls) (pass S (Assign place x e rest) w).behind → Exits S (suc n) ls (pass S (Assign place x e rest) w)
        → Next S n (followed (Assign place x e rest) k) ls w.behind
    assign_next place x e rest w g f exits =
        let v = w.behind in
        let t = own e v g.leaves.behind g.names.1 in
        let l = below S.M S.laws S.count x v g.leaves.behind g.names.0 in
        let u = onto w (assigned S.M S.mode x e v) in
        let b = behind rest u (record {
          leaves = onto_leaves S.M S.laws S.count w _ g.leaves (assigned_leaf S.M S.laws S.mode S.A S.count x e v g.leaves.behind g.names.0 g.names.1);
          names = g.names.2;
          plain = g.plain;
          known = g.known.1;
          held = g.held;
        }) f exits in
        record {
          next = λ m s taken i h. by_value S (value_of e s S.mode) place (λ j. Moved (standing (followed rest k) ls (slice_set s x j) taken)) s m
              (λ j q. b.run m (slice_set s x j) taken i (S.T.assigned_holds x e v s j l t h q))
              (λ kind q. g.known.0.stops kind (S.T.may_holds (Assign place x e Done) v ls s S.inputs taken place kind g.leaves.behind.valid (l, t.term, tt) h
              (ap (λ r. with_value place r (λ j. Moved (standing Done ls (slice_set s x j) taken))) q)));
        }

    input_next : (place : Place) (x : ℕ) (rest : Code) (w : Ways) → Good S (Input place x rest) w → Fine S (suc n) (standing k ls) (pass S (Input place x rest) w).behind → Exits S (suc n) ls (pass S (Input place x rest) w)
        → Next S n (followed (Input place x rest) k) ls w.behind
    input_next place x rest w g f exits =
        let v = w.behind in
        let l = below S.M S.laws S.count x v g.leaves.behind g.names.0 in
        let u = onto w (forgotten S.M x v) in
        let b = behind rest u (record {
          leaves = onto_leaves S.M S.laws S.count w _ g.leaves (forgotten_leaf S.M S.laws S.mode S.A S.count x v g.leaves.behind g.names.0);
          names = g.names.1;
          plain = g.plain;
          known = g.known.1;
          held = g.held;
        }) f exits in
        record {
          next = λ m s taken i h. by_input S (slice_get S.inputs taken) place (λ j. Moved (standing (followed rest k) ls (slice_set s x j) (taken + 1))) s m
              (λ j q. b.run m (slice_set s x j) (taken + 1) i (S.T.forgotten_holds x v s j l g.leaves.behind.valid h (got_int S.inputs taken j (recursion_from_All IsInt S.inputs S.ints) q)))
              (at_place S _ s g.known.0 h);
        }

    assert_next : (place : Place) (e : Term) (rest : Code) (w : Ways) → Good S (Assert place e rest) w → Fine S (suc n) (standing k ls) (pass S (Assert place e rest) w).behind → Exits S (suc n) ls (pass S (Assert place e rest) w)
        → Next S n (followed (Assert place e rest) k) ls w.behind
    assert_next place e rest w g f exits = record { next = one }
      where
        t : Suits S.M e w.behind
        t = own e w.behind g.leaves.behind g.names.0

        b : Fine S n (standing (followed rest k) ls) (assumed S.M S.mode e true w.behind)
        b = behind rest (onto w (assumed S.M S.mode e true w.behind)) (record {
          leaves = onto_leaves S.M S.laws S.count w _ g.leaves (assumed_leaf S.M S.laws S.mode S.A S.count e true w.behind g.leaves.behind g.names.0);
          names = g.names.1;
          plain = g.plain;
          known = g.known.1;
          held = g.held;
        }) f exits

        one : (m : ℕ) (s : List ℤ) (taken : ℕ) → m ≤ n → S.M.holds w.behind s → Seen S (onward (step_of S.mode S.inputs (followed (Assert place e rest) k) ls s taken) s (walk S m))
        one m s taken i h =
            by_value S (value_of e s S.mode) place (λ j. if is_zero j then Stopped place Assertion else Moved (standing (followed rest k) ls s taken)) s m
            (λ j q. by_test j q (is_zero j) refl)
            (λ kind q. g.known.0.stops kind (S.T.may_holds (Assert place e Done) w.behind ls s S.inputs taken place kind g.leaves.behind.valid (t.term, tt) h
            (ap (λ r. with_value place r (λ j. if is_zero j then Stopped place Assertion else Moved (standing Done ls s taken))) q)))
          where
            by_test : (j : ℤ) → value_of e s S.mode ≡ Ok j → (b : Bool) → is_zero j ≡ b
                → Seen S (onward (if b then Stopped place Assertion else Moved (standing (followed rest k) ls s taken)) s (walk S m))
            by_test j q true z = g.known.0.stops Assertion (S.T.may_holds (Assert place e Done) w.behind ls s S.inputs taken place Assertion g.leaves.behind.valid (t.term, tt) h
                (ap (λ r. with_value place r (λ j. if is_zero j then Stopped place Assertion else Moved (standing Done ls s taken))) q
                ∙ ap (λ b. if b then Stopped place Assertion else Moved (standing Done ls s taken)) z))
            by_test j q false z = b.run m s taken i (S.T.assumed_holds e true w.behind s j t h q (nonzero_from_test j z))

    module _ (place : Place) (e : Term) (p q rest : Code) (w : Ways) (g : Good S (If place e p q rest) w) (f : Fine S (suc n) (standing k ls) (pass S (If place e p q rest) w).behind) (exits : Exits S (suc n) ls (pass S (If place e p q rest) w)) where
      abbrev yes_in : Ways
      yes_in = onto w (assumed S.M S.mode e true w.behind)

      abbrev yes_out : Ways
      yes_out = pass S p yes_in

      abbrev no_in : Ways
      no_in = onto yes_out (assumed S.M S.mode e false w.behind)

      abbrev no_out : Ways
      no_out = pass S q no_in

      abbrev both : Ways
      both = chosen S.M S.mode S.H e p q w

      if_own : Suits S.M e w.behind
      if_own = own e w.behind g.leaves.behind g.names.0

      yes_good : Good S p yes_in
      yes_good = record {
        leaves = onto_leaves S.M S.laws S.count w _ g.leaves (assumed_leaf S.M S.laws S.mode S.A S.count e true w.behind g.leaves.behind g.names.0);
        names = g.names.1;
        plain = g.plain.0;
        known = all_first (Known S) _ _ g.known.1;
        held = g.held.0;
      }

      yes_kept : Kept S.M S.count yes_in yes_out
      yes_kept = kept S p yes_in yes_good

      others : AllByRecursion (Known S) (entries_by S.M S.mode S.H q no_in ++ entries_by S.M S.mode S.H rest both)
      others = all_second (Known S) (entries_by S.M S.mode S.H p yes_in) _ g.known.1

      no_good : Good S q no_in
      no_good = record {
        leaves = onto_leaves S.M S.laws S.count yes_out _ yes_kept.leaves (assumed_leaf S.M S.laws S.mode S.A S.count e false w.behind g.leaves.behind g.names.0);
        names = g.names.2;
        plain = g.plain.1;
        known = all_first (Known S) _ _ others;
        held = g.held.1;
      }

      no_kept : Kept S.M S.count no_in no_out
      no_kept = kept S q no_in no_good

      both_good : Good S rest both
      both_good = record {
        leaves = onto_leaves S.M S.laws S.count no_out _ no_kept.leaves (join_leaf S.M S.laws S.count yes_out.behind no_out.behind yes_kept.leaves.behind no_kept.leaves.behind);
        names = g.names.3;
        plain = g.plain.2;
        known = all_second (Known S) _ _ others;
        held = g.held.2;
      }

      no_exits : Exits S n ls no_out
      no_exits =
          let i = (kept S rest both both_good).grows in
          exits_finer S n ls no_out (pass S rest both) (record { broke = i.broke; continued = i.continued; returned = i.returned }) (exits_less S (suc n) n ls _ (omega arith) exits)

      yes_exits : Exits S n ls yes_out
      yes_exits = let i = no_kept.grows in exits_finer S n ls yes_out no_out (record { broke = i.broke; continued = i.continued; returned = i.returned }) no_exits

      both_fine : Fine S n (standing (followed rest k) ls) both.behind
      both_fine = behind rest both both_good f exits

      either : (s : List ℤ) → (S.M.holds yes_out.behind s ⊎ S.M.holds no_out.behind s) → S.M.holds both.behind s
      either s h = S.laws.join_holds yes_out.behind no_out.behind s (alike S.M S.laws S.count yes_out.behind no_out.behind yes_kept.leaves.behind no_kept.leaves.behind) h

      yes_fine : Fine S n (standing (followed p (followed rest k)) ls) (assumed S.M S.mode e true w.behind)
      yes_fine = I.statements p yes_in (followed rest k) ls yes_good (finer S n _ both.behind yes_out.behind (λ s h. either s (inl h)) both_fine) yes_exits

      no_fine : Fine S n (standing (followed q (followed rest k)) ls) (assumed S.M S.mode e false w.behind)
      no_fine = I.statements q no_in (followed rest k) ls no_good (finer S n _ both.behind no_out.behind (λ s h. either s (inr h)) both_fine) no_exits

      one : (m : ℕ) (s : List ℤ) (taken : ℕ) → m ≤ n → S.M.holds w.behind s → Seen S (onward (step_of S.mode S.inputs (followed (If place e p q rest) k) ls s taken) s (walk S m))
      one m s taken i h =
          by_value S (value_of e s S.mode) place (λ j. Moved (standing (followed (if is_zero j then q else p) (followed rest k)) ls s taken)) s m
          (λ j u. by_test j u (is_zero j) refl)
          (λ kind u. g.known.0.stops kind (S.T.may_holds (If place e p q Done) w.behind ls s S.inputs taken place kind g.leaves.behind.valid
          (if_own.term, over p w.behind g.leaves.behind g.names.1, over q w.behind g.leaves.behind g.names.2, tt) h
          (ap (λ r. with_value place r (λ j. Moved (standing (followed (if is_zero j then q else p) Done) ls s taken))) u)))
        where
          by_test : (j : ℤ) → value_of e s S.mode ≡ Ok j → (t : Bool) → is_zero j ≡ t
              → Seen S (walk S m (settled (standing (followed (if t then q else p) (followed rest k)) ls s taken)))
          by_test j u true z = no_fine.run m s taken i (S.T.assumed_holds e false w.behind s j if_own h u (zero_from_test j z))
          by_test j u false z = yes_fine.run m s taken i (S.T.assumed_holds e true w.behind s j if_own h u (nonzero_from_test j z))

      if_next : Next S n (followed (If place e p q rest) k) ls w.behind
      if_next = record { next = one }

    -- a jump is taken
    leave_next : (place : Place) (jump : Jump) (rest : Code) (w : Ways) → Good S (Leave place jump rest) w → Exits S n ls (leave_by S.M S.mode jump w) → Next S n (followed (Leave place jump rest) k) ls w.behind
    leave_next place Break rest w g x = record {
      next = λ m s taken i h. x.broke.run m s taken i (joined_second S.M S.laws S.count w.broke w.behind s g.leaves.broke g.leaves.behind h);
    }
    leave_next place Continue rest w g x = record {
      next = λ m s taken i h. x.continued.run m s taken i (joined_second S.M S.laws S.count w.continued w.behind s g.leaves.continued g.leaves.behind h);
    }
    leave_next place (Return e) rest w g x =
        let v = w.behind in
        let t = own e v g.leaves.behind g.names.0 in
        let l = valued_leaf S.M S.laws S.mode S.A S.count e v g.leaves.behind g.names.0 in
        record {
          next = λ m s taken i h. by_value S (value_of e s S.mode) place (λ j. Moved (left_by (Return e) ls s taken)) s m
              (λ j q. x.returned.run m s taken i (joined_second S.M S.laws S.count w.returned (valued S.M S.mode e v) s g.leaves.returned l (S.T.valued_holds e v s j t h q)))
              (λ kind q. g.known.0.stops kind (S.T.may_holds (Leave place (Return e) Done) v ls s S.inputs taken place kind g.leaves.behind.valid (t.term, tt) h
              (ap (λ r. with_value place r (λ j. Moved (left_by (Return e) ls s taken))) q)));
        }

    left_exits : (place : Place) (jump : Jump) (rest : Code) (w : Ways) → Good S (Leave place jump rest) w → Exits S (suc n) ls (pass S (Leave place jump rest) w) → Exits S n ls (leave_by S.M S.mode jump w)
    left_exits place jump rest w g exits =
        let u = leave_by S.M S.mode jump w in
        let i = kept S rest u (record { leaves = (leave_kept S.M S.laws S.mode S.A S.count jump w g.leaves g.names.0).leaves; names = g.names.1; plain = g.plain; known = g.known.1; held = g.held }) in
        exits_finer S n ls u (pass S rest u) i.grows (exits_less S (suc n) n ls (pass S rest u) (omega arith) exits)

    block_next : (place : Place) (body rest : Code) (w : Ways) → Good S (Block place body rest) w → Fine S (suc n) (standing k ls) (pass S (Block place body rest) w).behind → Exits S (suc n) ls (pass S (Block place body rest) w)
        → Next S n (followed (Block place body rest) k) ls w.behind
    block_next place body rest w g f exits =
        let inner : Good S body w = record { leaves = g.leaves; names = g.names.0; plain = g.plain.0; known = all_first (Known S) _ _ g.known.1; held = g.held.0 } in
        let u = pass S body w in
        let after : Good S rest u
        = record { leaves = (kept S body w inner).leaves; names = g.names.1; plain = g.plain.1; known = all_second (Known S) (entries_by S.M S.mode S.H body w) _ g.known.1; held = g.held.1 } in
        let b = behind rest u after f exits in
        let x = exits_finer S n ls u (pass S rest u) (kept S rest u after).grows (exits_less S (suc n) n ls (pass S rest u) (omega arith) exits) in
        let whole = I.statements body w (followed rest k) ls inner b x in
        record { next = λ m s taken i h. whole.run m s taken i h }

    skip_next : (place : Place) (rest : Code) (w : Ways) → Good S (Skip place rest) w → Fine S (suc n) (standing k ls) (pass S (Skip place rest) w).behind → Exits S (suc n) ls (pass S (Skip place rest) w)
        → Next S n (followed (Skip place rest) k) ls w.behind
    skip_next place rest w g f exits =
        let b = behind rest w (record { leaves = g.leaves; names = g.names; plain = g.plain; known = g.known.1; held = g.held }) f exits in
        record { next = λ m s taken i h. b.run m s taken i h }

  step_of_statement : (n : ℕ) → Sound S n → (c : Code) (w : Ways) (k : Code) (ls : List Level) → Good S c w → Fine S (suc n) (standing k ls) (pass S c w).behind → Exits S (suc n) ls (pass S c w)
      → Fine S (suc n) (standing (followed c k) ls) w.behind
  step_of_statement n I Done w k ls g f x = f
  step_of_statement n I (Assign place x e rest) w k ls g f exits = made S n _ ls w.behind (λ s taken. refl) (cut_at S _ _ g.known.0 (λ s. refl)) (assign_next n I k ls place x e rest w g f exits)
  step_of_statement n I (Input place x rest) w k ls g f exits = made S n _ ls w.behind (λ s taken. refl) (cut_at S _ _ g.known.0 (λ s. refl)) (input_next n I k ls place x rest w g f exits)
  step_of_statement n I (Assert place e rest) w k ls g f exits = made S n _ ls w.behind (λ s taken. refl) (cut_at S _ _ g.known.0 (λ s. refl)) (assert_next n I k ls place e rest w g f exits)
  step_of_statement n I (If place e p q rest) w k ls g f exits = made S n _ ls w.behind (λ s taken. refl) (cut_at S _ _ g.known.0 (λ s. refl)) (if_next n I k ls place e p q rest w g f exits)
  step_of_statement n I (While place e step body rest) w k ls g f exits =
      let i = inner_first S place e step body rest w g in loop_steps S n I place (TestFirst e step body) rest w i k ls (behind n I k ls rest _ i.others f exits) exits
  step_of_statement n I (Do place body at e rest) w k ls g f exits =
      let i = inner_last S place body at e rest w g in loop_steps S n I place (TestLast body at e) rest w i k ls (behind n I k ls rest _ i.others f exits) exits
  step_of_statement n I (Leave place jump rest) w k ls g f exits = made S n _ ls w.behind (λ s taken. refl) (cut_at S _ _ g.known.0 (λ s. refl)) (leave_next n I k ls place jump rest w g (left_exits n I k ls place jump rest w g exits))
  step_of_statement n I (Block place body rest) w k ls g f exits = made S n _ ls w.behind (λ s taken. refl) (cut_at S _ _ g.known.0 (λ s. refl)) (block_next n I k ls place body rest w g f exits)
  step_of_statement n I (Skip place rest) w k ls g f exits = made S n _ ls w.behind (λ s taken. refl) (cut_at S _ _ g.known.0 (λ s. refl)) (skip_next n I k ls place rest w g f exits)
  step_of_statement n I (Cond number p q rest) w k ls g f exits = absurd g.plain

  sound : (n : ℕ) → Sound S n
  sound zero = record { statements = cut_of_statement; loops = λ place l k ls x g f. loops_none S place l k ls x g }
  sound (suc n) = let I = sound n in record { statements = step_of_statement n I; loops = loops_some S n I }

  -- ---- the end of a program

  -- nothing is left
  ended : (n : ℕ) (v : LeafValue) → ((s : List ℤ) → S.M.holds v s → S.M.holds (S.at S.end) s) → Fine S n (standing Done []) v
  ended n v h = record { run = by_count }
    where
      by_count : (m : ℕ) (s : List ℤ) (taken : ℕ) → m ≤ n → S.M.holds v s → Seen S (walk S m (settled (standing Done [] s taken)))
      by_count zero s taken l k = h s k
      by_count (suc m) s taken l k = h s k

  -- no loop is entered yet
  settled_start : (c : Code) (s : List ℤ) (taken : ℕ) → settled (standing c [] s taken) ≡ standing c [] s taken
  settled_start Done s taken = refl
  settled_start (Assign place x e rest) s taken = refl
  settled_start (Input place x rest) s taken = refl
  settled_start (Assert place e rest) s taken = refl
  settled_start (If place e p q rest) s taken = refl
  settled_start (While place e step body rest) s taken = refl
  settled_start (Do place body at e rest) s taken = refl
  settled_start (Leave place jump rest) s taken = refl
  settled_start (Block place body rest) s taken = refl
  settled_start (Skip place rest) s taken = refl
  settled_start (Cond number p q rest) s taken = refl

  module _ (c : Code) (d : LeafValue) (g : Good S c (enter d)) (e : S.at S.end ≡ end_of S.M (pass S c (enter d))) where
    abbrev u : Ways
    u = pass S c (enter d)

    u_leaves : AreLeaves S.M S.count u
    u_leaves = (kept S c (enter d) g).leaves

    abbrev with_returned : LeafValue
    with_returned = joined S.M u.behind u.returned

    abbrev with_broke : LeafValue
    with_broke = joined S.M with_returned u.broke

    returned_leaf : Leaf with_returned
    returned_leaf = joined_leaf S.M S.laws S.count u.behind u.returned u_leaves.behind u_leaves.returned

    broke_leaf : Leaf with_broke
    broke_leaf = joined_leaf S.M S.laws S.count with_returned u.broke returned_leaf u_leaves.broke

    at_last : (s : List ℤ) → S.M.holds (end_of S.M u) s → S.M.holds (S.at S.end) s
    at_last s h = subst (λ v. S.M.holds v s) (sym e) h

    by_broke : (s : List ℤ) → S.M.holds with_broke s → S.M.holds (S.at S.end) s
    by_broke s h = at_last s (joined_first S.M S.laws S.count with_broke u.continued s broke_leaf u_leaves.continued h)

    by_returned : (s : List ℤ) → S.M.holds with_returned s → S.M.holds (S.at S.end) s
    by_returned s h = by_broke s (joined_first S.M S.laws S.count with_returned u.broke s returned_leaf u_leaves.broke h)

    pub runs_foreseen : (s : List ℤ) (n : ℕ) → S.M.holds d s → Seen S (walk S n (standing c [] s 0))
    runs_foreseen s n h =
        let whole = (sound n).statements c (enter d) Done [] g
        (ended n u.behind (λ s p. by_returned s (joined_first S.M S.laws S.count u.behind u.returned s u_leaves.behind u_leaves.returned p)))
        (record {
          broke = record { run = (ended n u.broke (λ s p. by_broke s (joined_second S.M S.laws S.count with_returned u.broke s returned_leaf u_leaves.broke p))).run };
          continued = record { run = (ended n u.continued (λ s p. at_last s (joined_second S.M S.laws S.count with_broke u.continued s broke_leaf u_leaves.continued p))).run };
          returned = ended n u.returned (λ s p. by_returned s (joined_second S.M S.laws S.count u.behind u.returned s u_leaves.behind u_leaves.returned p));
        }) in
        subst (λ t. Seen S (walk S n t)) (settled_start c s 0)
        (subst (λ t. Seen S (walk S n (settled (standing t [] s 0)))) (followed-Done c) (whole.run n s 0 (omega arith) h))
