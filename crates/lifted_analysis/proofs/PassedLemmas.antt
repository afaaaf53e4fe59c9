-- Passes over statements, whatever loops have at their heads.
use Rattle.std.proofs.Common.{◌≡◌, ℕ, ◌<◌, ◌+◌, true, false, Bool, List, [], ◌∷◌, length, if◌then◌else◌, ◌&&◌, Option, Some, None, refl, sym, subst, arith}
use Rattle.std.specs.List.{All}
use Rattle.std.proofs.lemmas.List.Elements.{All-head, All-tail}
use Rattle.fam_outer.specs.declared.faults.Place.{Place}
use Rattle.c_tree.specs.declared.tree.Mode.{Mode}
use Rattle.c_tree.specs.Tree.{Term, Code, Done, Assign, Input, Assert, If, While, Do, Leave, Block, Skip, Cond}
use Rattle.c_tree.specs.Fit.{IsTermOf, IsCodeOf}
use Rattle.cpp_conditions.specs.Propositions.{true_on}
use Rattle.cpp_conditions.specs.View.{formula}
use Rattle.leaf_domain.specs.declared.range.Range.{Range}
use Rattle.leaf_domain.specs.Leaves.{LeafValue, LeafMeaning, LeafLaws, IsLeafLike}
use Rattle.leaf_domain.specs.Ranges.{IsInInt}
use Rattle.leaf_domain.specs.Soundness.{TransferAnswers}
use Rattle.leaf_domain.specs.Transfer.{assumed, assigned, forgotten}
use Rattle.leaf_domain.proofs.Answered.{answers_self, answers_then}
use Rattle.plain_analysis.specs.declared.options.Options.{Options}
use Rattle.plain_analysis.specs.Places.{is_same_place}
use Rattle.plain_analysis.specs.Stated.{ArePartsOf}
use Rattle.plain_analysis.specs.Statements.{Heads, LoopParts, TestFirst, TestLast, passed, chosen, through_body, lap, head_by, failing, behind_by, final_heads}
use Rattle.plain_analysis.specs.Ways.{Ways, onto, enter, leave_by, going_on}
use Rattle.plain_analysis.proofs.Recursion.{final_of_code}
use Rattle.plain_analysis.proofs.Kept.{IsLeaf, AreLeaves, answered, join_leaf, onto_leaves, enter_leaves, going_on_leaf, loop_leaves, assumed_leaf, assigned_leaf, forgotten_leaf, leave_kept}
use Rattle.lifted_analysis.specs.declared.lines.LoopLine.{LoopLine}
use Rattle.lifted_analysis.specs.Lines.{set_from, bounded_by, given_at, given_heads, AreVariableBounds}

-- ---- leaves of the kind

-- heads that are leaves of the kind over n variables, where their loops are over as many and are entered with such leaves
pub record AreFit (M : LeafMeaning) (mode : Mode) (n : ℕ) (H : Heads) : Type 0 where
  pub answers : (place : Place) (l : LoopParts) (x : LeafValue) → IsLeaf M n x → ArePartsOf n l → IsLeaf M n (head_by M mode H place l x)

module _ (M : LeafMeaning) (laws : LeafLaws M) (mode : Mode) (A : TransferAnswers M mode) (n : ℕ) (H : Heads) (fit : AreFit M mode n H) where
  pub assign_leaves : (y : ℕ) (e : Term) (w : Ways) → AreLeaves M n w → y < n → IsTermOf n e → AreLeaves M n (onto w (assigned M mode y e w.behind))
  assign_leaves y e w h l t = onto_leaves M laws n w (assigned M mode y e w.behind) h (assigned_leaf M laws mode A n y e w.behind h.behind l t)

  pub input_leaves : (y : ℕ) (w : Ways) → AreLeaves M n w → y < n → AreLeaves M n (onto w (forgotten M y w.behind))
  input_leaves y w h l = onto_leaves M laws n w (forgotten M y w.behind) h (forgotten_leaf M laws mode A n y w.behind h.behind l)

  pub test_leaves : (e : Term) (want : Bool) (w : Ways) (x : LeafValue) → AreLeaves M n w → IsLeaf M n x → IsTermOf n e → AreLeaves M n (onto w (assumed M mode e want x))
  test_leaves e want w x h i t = onto_leaves M laws n w (assumed M mode e want x) h (assumed_leaf M laws mode A n e want x i t)

  pub within_leaves : (e : Term) (x : LeafValue) → IsLeaf M n x → IsTermOf n e → AreLeaves M n (enter (assumed M mode e true x))
  within_leaves e x h t = enter_leaves M laws n (assumed M mode e true x) (assumed_leaf M laws mode A n e true x h t)

  abbrev Leaves : Code → Type 0
  Leaves c = (w : Ways) → AreLeaves M n w → AreLeaves M n (passed M mode H c w)

  -- the lists of a loop keep such leaves, and its test is over them
  abbrev pub KeepsIn : LoopParts → Type 0
  KeepsIn (TestFirst test step body) = IsTermOf n test × Leaves step × Leaves body
  KeepsIn (TestLast body at test) = IsTermOf n test × Leaves body

  pub through_leaves : (l : LoopParts) → KeepsIn l → (x : LeafValue) → IsLeaf M n x → AreLeaves M n (through_body M mode H l x)
  through_leaves (TestFirst test step body) k x h = k.2 (enter (assumed M mode test true x)) (within_leaves test x h k.0)
  through_leaves (TestLast body at test) k x h = k.1 (enter x) (enter_leaves M laws n x h)

  pub onward_leaf : (l : LoopParts) → KeepsIn l → (x : LeafValue) → IsLeaf M n x → IsLeaf M n (going_on M (through_body M mode H l x))
  onward_leaf l k x h = going_on_leaf M laws n (through_body M mode H l x) (through_leaves l k x h)

  pub lap_leaf : (l : LoopParts) → KeepsIn l → (x : LeafValue) → IsLeaf M n x → IsLeaf M n (lap M mode H l x)
  lap_leaf (TestFirst test step body) k x h =
      let y = going_on M (through_body M mode H (TestFirst test step body) x) in
      (k.1 (enter y) (enter_leaves M laws n y (onward_leaf (TestFirst test step body) k x h))).behind
  lap_leaf (TestLast body at test) k x h =
      assumed_leaf M laws mode A n test true (going_on M (through_body M mode H (TestLast body at test) x)) (onward_leaf (TestLast body at test) k x h) k.0

  failing_leaf : (l : LoopParts) → KeepsIn l → (x : LeafValue) → IsLeaf M n x → IsLeaf M n (failing M mode H l x)
  failing_leaf (TestFirst test step body) k x h = assumed_leaf M laws mode A n test false x h k.0
  failing_leaf (TestLast body at test) k x h =
      assumed_leaf M laws mode A n test false (going_on M (through_body M mode H (TestLast body at test) x)) (onward_leaf (TestLast body at test) k x h) k.0

  pub head_leaf : (place : Place) (l : LoopParts) → ArePartsOf n l → (x : LeafValue) → IsLeaf M n x → IsLeaf M n (head_by M mode H place l x)
  head_leaf place l p x h = fit.answers place l x h p

  pub behind_leaves : (l : LoopParts) → KeepsIn l → (w : Ways) (x : LeafValue) → AreLeaves M n w → IsLeaf M n x → AreLeaves M n (behind_by M mode H l w x)
  behind_leaves l k w x h i = loop_leaves M laws n w (through_body M mode H l x) (failing M mode H l x) h (through_leaves l k x i) (failing_leaf l k x i)

  chosen_leaves : (e : Term) (p q : Code) → IsTermOf n e → Leaves p → Leaves q → (w : Ways) → AreLeaves M n w → AreLeaves M n (chosen M mode H e p q w)
  chosen_leaves e p q t k l w h =
      let a = passed M mode H p (onto w (assumed M mode e true w.behind)) in
      let i = k (onto w (assumed M mode e true w.behind)) (test_leaves e true w w.behind h h.behind t) in
      let b = passed M mode H q (onto a (assumed M mode e false w.behind)) in
      let j = l (onto a (assumed M mode e false w.behind)) (test_leaves e false a w.behind i h.behind t) in
      onto_leaves M laws n b (M.join a.behind b.behind) j (join_leaf M laws n a.behind b.behind i.behind j.behind)

  pub passed_leaves : (c : Code) → IsCodeOf n c → (w : Ways) → AreLeaves M n w → AreLeaves M n (passed M mode H c w)
  passed_leaves Done over w h = h
  passed_leaves (Assign place y e rest) over w h = passed_leaves rest over.2 (onto w (assigned M mode y e w.behind)) (assign_leaves y e w h over.0 over.1)
  passed_leaves (Input place y rest) over w h = passed_leaves rest over.1 (onto w (forgotten M y w.behind)) (input_leaves y w h over.0)
  passed_leaves (Assert place e rest) over w h = passed_leaves rest over.1 (onto w (assumed M mode e true w.behind)) (test_leaves e true w w.behind h h.behind over.0)
  passed_leaves (If place e p q rest) over w h =
      passed_leaves rest over.3 (chosen M mode H e p q w) (chosen_leaves e p q over.0 (passed_leaves p over.1) (passed_leaves q over.2) w h)
  passed_leaves (While place e step body rest) over w h =
      let l = TestFirst e step body in
      let k : KeepsIn l = (over.0, passed_leaves step over.1, passed_leaves body over.2) in
      let x = head_by M mode H place l w.behind in
      passed_leaves rest over.3 (behind_by M mode H l w x) (behind_leaves l k w x h (head_leaf place l (over.0, over.1, over.2, over.4) w.behind h.behind))
  passed_leaves (Do place body at e rest) over w h =
      let l = TestLast body at e in
      let k : KeepsIn l = (over.0, passed_leaves body over.1) in
      let x = head_by M mode H place l w.behind in
      passed_leaves rest over.2 (behind_by M mode H l w x) (behind_leaves l k w x h (head_leaf place l (over.0, over.1) w.behind h.behind))
  passed_leaves (Leave place jump rest) over w h = passed_leaves rest over.1 (leave_by M mode jump w) (leave_kept M laws mode A n jump w h over.0).leaves
  passed_leaves (Block place body rest) over w h = passed_leaves rest over.1 (passed M mode H body w) (passed_leaves body over.0 w h)
  passed_leaves (Skip place rest) over w h = passed_leaves rest over w h
  passed_leaves (Cond number p q rest) over w h = passed_leaves rest over.2 w h

  pub sides_leaves : (e : Term) (p q : Code) → IsTermOf n e → IsCodeOf n p → IsCodeOf n q → (w : Ways) → AreLeaves M n w → AreLeaves M n (chosen M mode H e p q w)
  sides_leaves e p q t i j = chosen_leaves e p q t (passed_leaves p i) (passed_leaves q j)

-- ---- final leaves, and what lines give

pub final_fit : (M : LeafMeaning) → LeafLaws M → (o : Options) → TransferAnswers M o.mode → (n : ℕ) → AreFit M o.mode n (final_heads M o)
final_fit M laws o A n = record {
  answers = λ place l x h p. answered M laws n x _ h (final_of_code M laws o A l x h.valid (subst (λ m. ArePartsOf m l) (sym h.count) p));
}

module _ (M : LeafMeaning) (laws : LeafLaws M) where
  set_answers : (x : ℕ) (rs : List Range) (d : LeafValue) → M.valid d → x + length rs ≡ d.variables → All IsInInt rs → IsLeafLike M d (set_from M x rs d)
  set_answers x [] d h e i = answers_self d h
  set_answers x (r ∷ rs) d h e i =
      let a = laws.set_answers d x r h (omega arith) (All-head IsInInt r rs i) in
      let f : x + 1 + length rs ≡ (M.set_range d x r).variables = let g : (M.set_range d x r).variables ≡ d.variables = a.same in omega arith in
      answers_then d _ _ a (set_answers (x + 1) rs (M.set_range d x r) a.valid f (All-tail IsInInt r rs i))

  bounded_answers : (b : Option (List Range)) (d : LeafValue) → M.valid d → AreVariableBounds d.variables b → IsLeafLike M d (bounded_by M b d)
  bounded_answers None d h i = record { valid = laws.nothing_valid d.variables (laws.valid_few d h); same = refl }
  bounded_answers (Some rs) d h i = let e : 0 + length rs ≡ d.variables = omega (arith, i.0) in set_answers 0 rs d h e i.1

  either_answers : (b : Bool) (d x y : LeafValue) → IsLeafLike M d x → IsLeafLike M d y → IsLeafLike M d (if b then x else y)
  either_answers true d x y h k = h
  either_answers false d x y h k = k

  pub given_answers : (lines : List LoopLine) (v : List Bool) (d : LeafValue) (q : Place) → M.valid d → All (λ (l : LoopLine). AreVariableBounds d.variables l.bounds) lines → IsLeafLike M d (given_at M lines v d q)
  given_answers [] v d q h i = record { valid = laws.nothing_valid d.variables (laws.valid_few d h); same = refl }
  given_answers (l ∷ ls) v d q h i =
      either_answers (is_same_place l.place q && true_on v (formula l.region)) d (bounded_by M l.bounds d) (given_at M ls v d q)
      (bounded_answers l.bounds d h (All-head (λ (l : LoopLine). AreVariableBounds d.variables l.bounds) l ls i))
      (given_answers ls v d q h (All-tail (λ (l : LoopLine). AreVariableBounds d.variables l.bounds) l ls i))

  pub given_fit : (mode : Mode) (lines : List LoopLine) (v : List Bool) (d : LeafValue) → M.valid d → All (λ (l : LoopLine). AreVariableBounds d.variables l.bounds) lines → AreFit M mode d.variables (given_heads M lines v d)
  given_fit mode lines v d h i = record { answers = λ place l x g k. let a = given_answers lines v d place h i in record { valid = a.valid; count = a.same } }
