-- A pass keeps leaves of the kind, and what has left stays.
use Rattle.std.proofs.Common.{◌≡◌, ℕ, ◌<◌, ℤ, Bool, true, false, if◌then◌else◌, List, Option, Some, None, refl, sym, ◌∙◌, subst, inl, inr}
use Rattle.c_tree.specs.declared.tree.Mode.{Mode}
use Rattle.c_tree.specs.Tree.{Term, Jump, Break, Continue, Return, Code, Done, Assign, Input, Assert, If, While, Do, Leave, Block, Skip, Cond}
use Rattle.c_tree.specs.Fit.{IsTermOf, IsJumpOf, IsStep, IsCodeOf}
use Rattle.leaf_domain.specs.Leaves.{LeafValue, LeafMeaning, LeafLaws, Alike, IsLeafLike, nothing_of, is_nothing_of}
use Rattle.leaf_domain.specs.Transfer.{assumed, assigned, valued, forgotten}
use Rattle.leaf_domain.specs.Soundness.{Suits, TransferAnswers}
use Rattle.plain_analysis.specs.Promises.{AreHeld}
use Rattle.plain_analysis.specs.Statements.{Heads, TestFirst, TestLast, passed, through_body, head_by, failing}
use Rattle.plain_analysis.specs.Ways.{Ways, onto, enter, joined, leave_by, going_on, behind_loop}

-- a leaf of the kind over n variables
pub record IsLeaf (M : LeafMeaning) (n : ℕ) (v : LeafValue) : Type 0 where
  pub valid : M.valid v
  pub count : v.variables ≡ n

pub record AreLeaves (M : LeafMeaning) (n : ℕ) (w : Ways) : Type 0 where
  pub behind : IsLeaf M n w.behind
  pub broke : IsLeaf M n w.broke
  pub continued : IsLeaf M n w.continued
  pub returned : IsLeaf M n w.returned

-- each store that has left by a jump is still there
pub record Grows (M : LeafMeaning) (w u : Ways) : Type 0 where
  pub broke : (s : List ℤ) → M.holds w.broke s → M.holds u.broke s
  pub continued : (s : List ℤ) → M.holds w.continued s → M.holds u.continued s
  pub returned : (s : List ℤ) → M.holds w.returned s → M.holds u.returned s

pub record Kept (M : LeafMeaning) (n : ℕ) (w u : Ways) : Type 0 where
  pub leaves : AreLeaves M n u
  pub grows : Grows M w u

-- ---- leaves

module _ (M : LeafMeaning) (laws : LeafLaws M) (n : ℕ) where
  pub answered : (v w : LeafValue) → IsLeaf M n v → IsLeafLike M v w → IsLeaf M n w
  answered v w h a = record { valid = a.valid; count = a.same ∙ h.count }

  pub like : (v w : LeafValue) → IsLeaf M n v → IsLeaf M n w → IsLeafLike M v w
  like v w h k = record { valid = k.valid; same = k.count ∙ sym h.count }

  pub alike : (a b : LeafValue) → IsLeaf M n a → IsLeaf M n b → Alike M a b
  alike a b h k = record { first = h.valid; second = k.valid; same = h.count ∙ sym k.count }

  pub suits : (e : Term) (v : LeafValue) → IsLeaf M n v → IsTermOf n e → Suits M e v
  suits e v h t = record { valid = h.valid; term = subst (λ m. IsTermOf m e) (sym h.count) t }

  pub below : (x : ℕ) (v : LeafValue) → IsLeaf M n v → x < n → x < v.variables
  below x v h l = subst (λ m. x < m) (sym h.count) l

  pub nothing_leaf : (v : LeafValue) → IsLeaf M n v → IsLeaf M n (nothing_of v.variables)
  nothing_leaf v h = record { valid = laws.nothing_valid v.variables (laws.valid_few v h.valid); count = h.count }

  pub join_leaf : (a b : LeafValue) → IsLeaf M n a → IsLeaf M n b → IsLeaf M n (M.join a b)
  join_leaf a b h k = answered a (M.join a b) h (laws.join_answers a b (alike a b h k))

  pub joined_leaf : (a b : LeafValue) → IsLeaf M n a → IsLeaf M n b → IsLeaf M n (joined M a b)
  joined_leaf a b h k = by_test (is_nothing_of b)
    where
      by_test : (t : Bool) → IsLeaf M n (if t then a else M.join a b)
      by_test true = h
      by_test false = join_leaf a b h k

  pub joined_first : (a b : LeafValue) (s : List ℤ) → IsLeaf M n a → IsLeaf M n b → M.holds a s → M.holds (joined M a b) s
  joined_first a b s h k p = by_test (is_nothing_of b)
    where
      by_test : (t : Bool) → M.holds (if t then a else M.join a b) s
      by_test true = p
      by_test false = laws.join_holds a b s (alike a b h k) (inl p)

  none_held : (m : ℕ) (c : Option (List ℤ)) (s : List ℤ) → is_nothing_of (record { variables = m; content = c }) ≡ true → M.holds (record { variables = m; content = c }) s → ⊥
  none_held m None s e p = laws.nothing_holds m s p
  none_held m (Some xs) s e p = cc

  pub joined_second : (a b : LeafValue) (s : List ℤ) → IsLeaf M n a → IsLeaf M n b → M.holds b s → M.holds (joined M a b) s
  joined_second a b s h k p = by_test (is_nothing_of b) refl
    where
      by_test : (t : Bool) → is_nothing_of b ≡ t → M.holds (if t then a else M.join a b) s
      by_test true e = absurd (none_held b.variables b.content s e p)
      by_test false e = laws.join_holds a b s (alike a b h k) (inr p)

  -- ---- the leaves of what was passed

  pub onto_leaves : (w : Ways) (v : LeafValue) → AreLeaves M n w → IsLeaf M n v → AreLeaves M n (onto w v)
  onto_leaves w v h k = record { behind = k; broke = h.broke; continued = h.continued; returned = h.returned }

  pub enter_leaves : (v : LeafValue) → IsLeaf M n v → AreLeaves M n (enter v)
  enter_leaves v h = let z = nothing_leaf v h in record { behind = h; broke = z; continued = z; returned = z }

  pub going_on_leaf : (b : Ways) → AreLeaves M n b → IsLeaf M n (going_on M b)
  going_on_leaf b h = joined_leaf b.behind b.continued h.behind h.continued

  pub loop_leaves : (w b : Ways) (v : LeafValue) → AreLeaves M n w → AreLeaves M n b → IsLeaf M n v → AreLeaves M n (behind_loop M w v b)
  loop_leaves w b v h k l = record {
    behind = joined_leaf v b.broke l k.broke;
    broke = h.broke;
    continued = h.continued;
    returned = joined_leaf w.returned b.returned h.returned k.returned;
  }

  -- ---- what grows

  pub kept_self : (w : Ways) → AreLeaves M n w → Kept M n w w
  kept_self w h = record { leaves = h; grows = record { broke = λ s p. p; continued = λ s p. p; returned = λ s p. p } }

  pub kept_then : (w u t : Ways) → Kept M n w u → Kept M n u t → Kept M n w t
  kept_then w u t f g = record {
    leaves = g.leaves;
    grows = record {
      broke = λ s h. g.grows.broke s (f.grows.broke s h);
      continued = λ s h. g.grows.continued s (f.grows.continued s h);
      returned = λ s h. g.grows.returned s (f.grows.returned s h);
    };
  }

  pub onto_kept : (w : Ways) (v : LeafValue) → AreLeaves M n w → IsLeaf M n v → Kept M n w (onto w v)
  onto_kept w v h k = record { leaves = onto_leaves w v h k; grows = record { broke = λ s p. p; continued = λ s p. p; returned = λ s p. p } }

  pub loop_kept : (w b : Ways) (v : LeafValue) → AreLeaves M n w → AreLeaves M n b → IsLeaf M n v → Kept M n w (behind_loop M w v b)
  loop_kept w b v h k l = record {
    leaves = loop_leaves w b v h k l;
    grows = record { broke = λ s p. p; continued = λ s p. p; returned = λ s p. joined_first w.returned b.returned s h.returned k.returned p };
  }

-- ---- transfer

module _ (M : LeafMeaning) (laws : LeafLaws M) (mode : Mode) (A : TransferAnswers M mode) (n : ℕ) where
  pub assumed_leaf : (e : Term) (want : Bool) (v : LeafValue) → IsLeaf M n v → IsTermOf n e → IsLeaf M n (assumed M mode e want v)
  assumed_leaf e want v h t = answered M laws n v (assumed M mode e want v) h (A.assumed_answers e want v (suits M laws n e v h t))

  pub assigned_leaf : (x : ℕ) (e : Term) (v : LeafValue) → IsLeaf M n v → x < n → IsTermOf n e → IsLeaf M n (assigned M mode x e v)
  assigned_leaf x e v h l t = answered M laws n v (assigned M mode x e v) h (A.assigned_answers x e v (below M laws n x v h l) (suits M laws n e v h t))

  pub valued_leaf : (e : Term) (v : LeafValue) → IsLeaf M n v → IsTermOf n e → IsLeaf M n (valued M mode e v)
  valued_leaf e v h t = answered M laws n v (valued M mode e v) h (A.valued_answers e v (suits M laws n e v h t))

  pub forgotten_leaf : (x : ℕ) (v : LeafValue) → IsLeaf M n v → x < n → IsLeaf M n (forgotten M x v)
  forgotten_leaf x v h l = answered M laws n v (forgotten M x v) h (A.forgotten_answers x v (below M laws n x v h l) h.valid)

  pub leave_kept : (jump : Jump) (w : Ways) → AreLeaves M n w → IsJumpOf n jump → Kept M n w (leave_by M mode jump w)
  leave_kept Break w h t = record {
    leaves = record { behind = nothing_leaf M laws n w.behind h.behind; broke = joined_leaf M laws n w.broke w.behind h.broke h.behind; continued = h.continued; returned = h.returned };
    grows = record { broke = λ s p. joined_first M laws n w.broke w.behind s h.broke h.behind p; continued = λ s p. p; returned = λ s p. p };
  }
  leave_kept Continue w h t = record {
    leaves = record { behind = nothing_leaf M laws n w.behind h.behind; broke = h.broke; continued = joined_leaf M laws n w.continued w.behind h.continued h.behind; returned = h.returned };
    grows = record { broke = λ s p. p; continued = λ s p. joined_first M laws n w.continued w.behind s h.continued h.behind p; returned = λ s p. p };
  }
  leave_kept (Return e) w h t =
      let v = valued M mode e w.behind in
      let l = valued_leaf e w.behind h.behind t in
      record {
        leaves = record { behind = nothing_leaf M laws n w.behind h.behind; broke = h.broke; continued = h.continued; returned = joined_leaf M laws n w.returned v h.returned l };
        grows = record { broke = λ s p. p; continued = λ s p. p; returned = λ s p. joined_first M laws n w.returned v s h.returned l p };
      }

  -- ---- a pass whose heads are held

  module _ (H : Heads) where
    pub passed_kept : (c : Code) (w : Ways) → AreLeaves M n w → IsCodeOf n c → AreHeld M mode H c w → Kept M n w (passed M mode H c w)
    passed_kept Done w h t d = kept_self M laws n w h
    passed_kept (Assign place x e rest) w h t d =
        let u = onto w (assigned M mode x e w.behind) in
        let k = onto_kept M laws n w _ h (assigned_leaf x e w.behind h.behind t.0 t.1) in
        kept_then M laws n w u _ k (passed_kept rest u k.leaves t.2 d)
    passed_kept (Input place x rest) w h t d =
        let u = onto w (forgotten M x w.behind) in
        let k = onto_kept M laws n w _ h (forgotten_leaf x w.behind h.behind t.0) in
        kept_then M laws n w u _ k (passed_kept rest u k.leaves t.1 d)
    passed_kept (Assert place e rest) w h t d =
        let u = onto w (assumed M mode e true w.behind) in
        let k = onto_kept M laws n w _ h (assumed_leaf e true w.behind h.behind t.0) in
        kept_then M laws n w u _ k (passed_kept rest u k.leaves t.1 d)
    passed_kept (If place e p q rest) w h t d =
        let yes_in = onto w (assumed M mode e true w.behind) in
        let f = onto_kept M laws n w _ h (assumed_leaf e true w.behind h.behind t.0) in
        let a = passed M mode H p yes_in in
        let i = passed_kept p yes_in f.leaves t.1 d.0 in
        let no_in = onto a (assumed M mode e false w.behind) in
        let g = onto_kept M laws n a _ i.leaves (assumed_leaf e false w.behind h.behind t.0) in
        let b = passed M mode H q no_in in
        let j = passed_kept q no_in g.leaves t.2 d.1 in
        let u = onto b (M.join a.behind b.behind) in
        let k = onto_kept M laws n b _ j.leaves (join_leaf M laws n a.behind b.behind i.leaves.behind j.leaves.behind) in
        kept_then M laws n w yes_in _ f (kept_then M laws n yes_in a _ i (kept_then M laws n a no_in _ g (kept_then M laws n no_in b _ j (kept_then M laws n b u _ k (passed_kept rest u k.leaves t.3 d.2)))))
    passed_kept (While place e step body rest) w h t d =
        let x = head_by M mode H place (TestFirst e step body) w.behind in
        let l = answered M laws n w.behind x h.behind d.0.answers in
        let v = assumed M mode e false x in
        let b = through_body M mode H (TestFirst e step body) x in
        let i = passed_kept body (enter (assumed M mode e true x)) (enter_leaves M laws n _ (assumed_leaf e true x l t.0)) t.2 d.2 in
        let u = behind_loop M w v b in
        let k = loop_kept M laws n w b v h i.leaves (assumed_leaf e false x l t.0) in
        kept_then M laws n w u _ k (passed_kept rest u k.leaves t.3 d.3)
    passed_kept (Do place body at e rest) w h t d =
        let x = head_by M mode H place (TestLast body at e) w.behind in
        let l = answered M laws n w.behind x h.behind d.0.answers in
        let b = through_body M mode H (TestLast body at e) x in
        let v = failing M mode H (TestLast body at e) x in
        let i = passed_kept body (enter x) (enter_leaves M laws n x l) t.1 d.1 in
        let u = behind_loop M w v b in
        let k = loop_kept M laws n w b v h i.leaves (assumed_leaf e false (going_on M b) (going_on_leaf M laws n b i.leaves) t.0) in
        kept_then M laws n w u _ k (passed_kept rest u k.leaves t.2 d.2)
    passed_kept (Leave place jump rest) w h t d =
        let u = leave_by M mode jump w in
        let k = leave_kept jump w h t.0 in
        kept_then M laws n w u _ k (passed_kept rest u k.leaves t.1 d)
    passed_kept (Block place body rest) w h t d =
        let k = passed_kept body w h t.0 d.0 in
        kept_then M laws n w (passed M mode H body w) _ k (passed_kept rest (passed M mode H body w) k.leaves t.1 d.1)
    passed_kept (Skip place rest) w h t d = passed_kept rest w h t d
    passed_kept (Cond number p q rest) w h t d = passed_kept rest w h t.2 d

-- a step leaves by no jump
pub step_stays : (M : LeafMeaning) (mode : Mode) (H : Heads) (c : Code) (w : Ways) → IsStep c → passed M mode H c w ≡ onto w (passed M mode H c w).behind
step_stays M mode H Done w h = refl
step_stays M mode H (Assign place x e rest) w h = step_stays M mode H rest (onto w (assigned M mode x e w.behind)) h
step_stays M mode H (Input place x rest) w h = step_stays M mode H rest (onto w (forgotten M x w.behind)) h
step_stays M mode H (Assert place e rest) w h = absurd h
step_stays M mode H (If place e p q rest) w h = absurd h
step_stays M mode H (While place e step body rest) w h = absurd h
step_stays M mode H (Do place body at e rest) w h = absurd h
step_stays M mode H (Leave place jump rest) w h = absurd h
step_stays M mode H (Block place body rest) w h = absurd h
step_stays M mode H (Skip place rest) w h = absurd h
step_stays M mode H (Cond number p q rest) w h = absurd h
