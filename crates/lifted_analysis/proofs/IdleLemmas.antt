-- Statements that are entered with Nothing change nothing, and of two lists of which one is not kept the other alone counts.
use Rattle.std.proofs.Common.{◌≡◌, ℕ, ◌≤◌, true, false, Bool, not, [], if◌then◌else◌, refl, ap, sym, subst, ◌∙◌}
use Rattle.fam_outer.specs.declared.faults.Place.{Place}
use Rattle.c_tree.specs.declared.tree.Mode.{Mode}
use Rattle.c_tree.specs.Tree.{Term, Jump, Break, Continue, Return, Code, Done, Assign, Input, Assert, If, While, Do, Leave, Block, Skip, Cond}
use Rattle.leaf_domain.specs.Leaves.{LeafValue, LeafMeaning, LeafLaws, nothing_of}
use Rattle.leaf_domain.specs.Ranges.{is_empty_range}
use Rattle.leaf_domain.specs.Soundness.{TransferAnswers}
use Rattle.leaf_domain.specs.Transfer.{assumed, assigned, valued, forgotten, range_of_term}
use Rattle.plain_analysis.specs.declared.options.Options.{Options}
use Rattle.plain_analysis.specs.Statements.{Heads, LoopParts, TestFirst, TestLast, passed, chosen, through_body, lap, head_by, failing, behind_by, final_heads, after_of}
use Rattle.plain_analysis.specs.Ways.{Ways, onto, enter, joined, leave_by, going_on, behind_loop}
use Rattle.plain_analysis.proofs.Nothing.{after_nothing, loop_nothing}
use Rattle.lifted_analysis.specs.Rules.{no_heads, heads_where}
use Rattle.lifted_analysis.specs.Steps.{kept_by, both_by, AreCounted}

-- heads that are Nothing where their loops are entered with Nothing, and a lap makes Nothing of it
pub record AreIdle (n : ℕ) (H : Heads) : Type 0 where
  pub idle : (place : Place) (f : LeafValue → LeafValue) → f (nothing_of n) ≡ nothing_of n → H place f (nothing_of n) ≡ nothing_of n

pub none_idle : (n : ℕ) → AreIdle n no_heads
none_idle n = record { idle = λ place f e. refl }

-- an analysis without rounds of joining and narrowing, and without thresholds
abbrev pub without_rounds : Mode → Options
without_rounds mode = record { delay = 0; narrow = 0; thresholds = []; mode = mode }

pub final_idle : (M : LeafMeaning) → LeafLaws M → (o : Options) → TransferAnswers M o.mode → (n : ℕ) → n ≤ 48 → AreIdle n (final_heads M o)
final_idle M laws o A n few = record { idle = λ place f e. loop_nothing M laws o A n few f e }

module _ (M : LeafMeaning) (laws : LeafLaws M) (mode : Mode) (A : TransferAnswers M mode) (n : ℕ) (few : n ≤ 48) where
  abbrev O : LeafValue
  O = nothing_of n

  -- by an analysis of one statement
  alone : (c : Code) → (after_of M (without_rounds mode) c (onto (enter O) O)).behind ≡ nothing_of n
  alone c = ap (λ (w : Ways). w.behind) (after_nothing M laws (without_rounds mode) A n few c (enter O))

  pub assigned_nothing : (x : ℕ) (e : Term) → assigned M mode x e (nothing_of n) ≡ nothing_of n
  assigned_nothing x e = alone (Assign (record { line = 0; column = 0 }) x e Done)

  pub forgotten_nothing : (x : ℕ) → forgotten M x (nothing_of n) ≡ nothing_of n
  forgotten_nothing x = alone (Input (record { line = 0; column = 0 }) x Done)

  pub assumed_nothing : (e : Term) (want : Bool) → assumed M mode e want (nothing_of n) ≡ nothing_of n
  assumed_nothing e want = A.assumed_of_nothing e want (nothing_of n) refl

  either : (b : Bool) → (if b then nothing_of n else nothing_of n) ≡ nothing_of n
  either true = refl
  either false = refl

  pub valued_nothing : (e : Term) → valued M mode e (nothing_of n) ≡ nothing_of n
  valued_nothing e = either (is_empty_range (range_of_term M mode e (nothing_of n)))

  pub left_nothing : (jump : Jump) (w : Ways) → leave_by M mode jump (onto w (nothing_of n)) ≡ onto w (nothing_of n)
  left_nothing Break w = refl
  left_nothing Continue w = refl
  left_nothing (Return e) w =
      ap (λ x. let u : Ways = record { behind = nothing_of n; broke = w.broke; continued = w.continued; returned = joined M w.returned x } in u) (valued_nothing e)

  module _ (H : Heads) (idle : AreIdle n H) where
    abbrev pub IsIdle : Code → Type 0
    IsIdle c = passed M mode H c (enter O) ≡ enter O

    abbrev pub IsIdleIn : LoopParts → Type 0
    IsIdleIn (TestFirst test step body) = IsIdle step × IsIdle body
    IsIdleIn (TestLast body at test) = IsIdle body

    pub through_idle : (l : LoopParts) → IsIdleIn l → through_body M mode H l (nothing_of n) ≡ enter (nothing_of n)
    through_idle (TestFirst test step body) k = ap (λ x. passed M mode H body (enter x)) (assumed_nothing test true) ∙ k.1
    through_idle (TestLast body at test) k = k

    pub lap_idle : (l : LoopParts) → IsIdleIn l → lap M mode H l (nothing_of n) ≡ nothing_of n
    lap_idle (TestFirst test step body) k =
        ap (λ b. (passed M mode H step (enter (going_on M b))).behind) (through_idle (TestFirst test step body) k) ∙ ap (λ (b : Ways). b.behind) k.0
    lap_idle (TestLast body at test) k =
        ap (λ b. assumed M mode test true (going_on M b)) (through_idle (TestLast body at test) k) ∙ assumed_nothing test true

    failing_idle : (l : LoopParts) → IsIdleIn l → failing M mode H l (nothing_of n) ≡ nothing_of n
    failing_idle (TestFirst test step body) k = assumed_nothing test false
    failing_idle (TestLast body at test) k =
        ap (λ b. assumed M mode test false (going_on M b)) (through_idle (TestLast body at test) k) ∙ assumed_nothing test false

    pub head_idle : (place : Place) (l : LoopParts) → IsIdleIn l → head_by M mode H place l (nothing_of n) ≡ nothing_of n
    head_idle place l k = idle.idle place (lap M mode H l) (lap_idle l k)

    pub behind_idle : (l : LoopParts) → IsIdleIn l → (w : Ways) → behind_by M mode H l w (nothing_of n) ≡ onto w (nothing_of n)
    behind_idle l k w =
        ap (λ f. behind_loop M w f (through_body M mode H l (nothing_of n))) (failing_idle l k) ∙ ap (λ b. behind_loop M w (nothing_of n) b) (through_idle l k)

    loop_idle : (place : Place) (l : LoopParts) (rest : Code) → IsIdleIn l → (w : Ways) → passed M mode H rest (onto w (nothing_of n)) ≡ onto w (nothing_of n)
        → passed M mode H rest (behind_by M mode H l (onto w (nothing_of n)) (head_by M mode H place l (nothing_of n))) ≡ onto w (nothing_of n)
    loop_idle place l rest k w e =
        ap (λ x. passed M mode H rest (behind_by M mode H l (onto w (nothing_of n)) x)) (head_idle place l k) ∙ (ap (passed M mode H rest) (behind_idle l k (onto w (nothing_of n))) ∙ e)

    chosen_idle : (e : Term) (p q : Code) → ((w : Ways) → passed M mode H p (onto w O) ≡ onto w O) → ((w : Ways) → passed M mode H q (onto w O) ≡ onto w O) → (w : Ways)
        → chosen M mode H e p q (onto w (nothing_of n)) ≡ onto w (nothing_of n)
    chosen_idle e p q i j w =
        ap (λ a. let b = passed M mode H q (onto a (assumed M mode e false (nothing_of n))) in onto b (M.join a.behind b.behind)) (ap (λ x. passed M mode H p (onto w x)) (assumed_nothing e true) ∙ i w)
        ∙ (ap (λ (b : Ways). onto b (M.join (nothing_of n) b.behind)) (ap (λ x. passed M mode H q (onto w x)) (assumed_nothing e false) ∙ j w)
        ∙ ap (onto w) (laws.join_nothing (nothing_of n)))

    pub passed_idle : (c : Code) (w : Ways) → passed M mode H c (onto w (nothing_of n)) ≡ onto w (nothing_of n)
    passed_idle Done w = refl
    passed_idle (Assign place x e rest) w = ap (λ y. passed M mode H rest (onto w y)) (assigned_nothing x e) ∙ passed_idle rest w
    passed_idle (Input place x rest) w = ap (λ y. passed M mode H rest (onto w y)) (forgotten_nothing x) ∙ passed_idle rest w
    passed_idle (Assert place e rest) w = ap (λ y. passed M mode H rest (onto w y)) (assumed_nothing e true) ∙ passed_idle rest w
    passed_idle (If place e p q rest) w = ap (passed M mode H rest) (chosen_idle e p q (passed_idle p) (passed_idle q) w) ∙ passed_idle rest w
    passed_idle (While place e step body rest) w =
        loop_idle place (TestFirst e step body) rest (passed_idle step (enter O), passed_idle body (enter O)) w (passed_idle rest w)
    passed_idle (Do place body at e rest) w = loop_idle place (TestLast body at e) rest (passed_idle body (enter O)) w (passed_idle rest w)
    passed_idle (Leave place jump rest) w = ap (passed M mode H rest) (left_nothing jump w) ∙ passed_idle rest w
    passed_idle (Block place body rest) w = ap (passed M mode H rest) (passed_idle body w) ∙ passed_idle rest w
    passed_idle (Skip place rest) w = passed_idle rest w
    passed_idle (Cond number p q rest) w = passed_idle rest w

    pub parts_idle : (l : LoopParts) → IsIdleIn l
    parts_idle (TestFirst test step body) = (passed_idle step (enter O), passed_idle body (enter O))
    parts_idle (TestLast body at test) = passed_idle body (enter O)

    -- where Nothing stands behind, nothing changes
    pub passed_stays : (c : Code) (w : Ways) → w.behind ≡ nothing_of n → passed M mode H c w ≡ w
    passed_stays c w e = ap (λ x. passed M mode H c (onto w x)) e ∙ (passed_idle c w ∙ ap (onto w) (sym e))

  -- ---- two lists, of which one is not kept

  module _ (H K : Heads) where
    first_kept : AreIdle n K → (p q : Code) (w : Ways) → w.behind.variables ≡ n → (passed M mode H p w).behind.variables ≡ n
        → both_by M mode H K p q w (nothing_of w.behind.variables) ≡ passed M mode H p w
    first_kept idle p q w e f =
        let a = passed M mode H p w in
        ap (λ m. let b = passed M mode K q (onto a (nothing_of m)) in onto b (M.join a.behind b.behind)) e
        ∙ (ap (λ (b : Ways). onto b (M.join a.behind b.behind)) (passed_idle K idle q a)
        ∙ ap (onto a) (ap (λ m. M.join a.behind (nothing_of m)) (sym f) ∙ laws.nothing_join a.behind))

    second_kept : AreIdle n H → (p q : Code) (w : Ways) → w.behind.variables ≡ n
        → (passed M mode K q (onto (passed M mode H p (onto w (nothing_of w.behind.variables))) w.behind)).behind.variables ≡ n
        → both_by M mode H K p q (onto w (nothing_of w.behind.variables)) w.behind ≡ passed M mode K q w
    second_kept idle p q w e f =
        let a = passed M mode H p (onto w (nothing_of w.behind.variables)) in
        let b = passed M mode K q (onto a w.behind) in
        let lost : a ≡ onto w (nothing_of n) = ap (λ m. passed M mode H p (onto w (nothing_of m))) e ∙ passed_idle H idle p w in
        ap (λ (u : Ways). onto b (M.join u.behind b.behind)) lost
        ∙ (ap (onto b) (ap (λ m. M.join (nothing_of m) b.behind) (sym f) ∙ laws.join_nothing b.behind)
        ∙ ap (λ u. passed M mode K q (onto u w.behind)) lost)

  -- each list is entered with Nothing where it is not kept
  pub group_joins : (H : Heads) → AreIdle n H → (b : Bool) (p q : Code) (w : Ways) → w.behind.variables ≡ n
      → (passed M mode H p (onto w (kept_by true b w.behind))).behind.variables ≡ n
      → (passed M mode H q (onto (passed M mode H p (onto w (kept_by true b w.behind))) (kept_by false b w.behind))).behind.variables ≡ n
      → both_by M mode H H p q (onto w (kept_by true b w.behind)) (kept_by false b w.behind) ≡ (if b then passed M mode H p w else passed M mode H q w)
  group_joins H idle true p q w e f g = first_kept H H idle p q w e f
  group_joins H idle false p q w e f g = second_kept H H idle p q w e g

  -- the same where heads are Nothing where their statements are not kept
  pub sides_join : (H : Heads) (b : Bool) (p q : Code) (w : Ways) → w.behind.variables ≡ n
      → (passed M mode (heads_where b H) p (onto w (kept_by true b w.behind))).behind.variables ≡ n
      → (passed M mode (heads_where (not b) H) q (onto (passed M mode (heads_where b H) p (onto w (kept_by true b w.behind))) (kept_by false b w.behind))).behind.variables ≡ n
      → both_by M mode (heads_where b H) (heads_where (not b) H) p q (onto w (kept_by true b w.behind)) (kept_by false b w.behind) ≡ (if b then passed M mode H p w else passed M mode H q w)
  sides_join H true p q w e f g = first_kept H no_heads (none_idle n) p q w e f
  sides_join H false p q w e f g = second_kept no_heads H (none_idle n) p q w e g

  -- the same by other names
  pub group_there : (H P Q : Heads) (b : Bool) (p q : Code) (w u : Ways) (y : LeafValue) → P ≡ heads_where b H → Q ≡ heads_where (not b) H → u ≡ onto w (kept_by true b w.behind) → y ≡ kept_by false b w.behind → w.behind.variables ≡ n
      → AreCounted n M mode P Q p q u y → both_by M mode P Q p q u y ≡ (if b then passed M mode H p w else passed M mode H q w)
  group_there H P Q b p q w u y eP eQ eu ey c over =
      let so = subst (λ x. AreCounted n M mode (heads_where b H) (heads_where (not b) H) p q (onto w (kept_by true b w.behind)) x) ey
      (subst (λ x. AreCounted n M mode (heads_where b H) (heads_where (not b) H) p q x y) eu (subst (λ x. AreCounted n M mode (heads_where b H) x p q u y) eQ (subst (λ x. AreCounted n M mode x Q p q u y) eP over))) in
      ap (λ x. both_by M mode x Q p q u y) eP
      ∙ (ap (λ x. both_by M mode (heads_where b H) x p q u y) eQ
      ∙ (ap (λ x. both_by M mode (heads_where b H) (heads_where (not b) H) p q x y) eu
      ∙ (ap (both_by M mode (heads_where b H) (heads_where (not b) H) p q (onto w (kept_by true b w.behind))) ey ∙ sides_join H b p q w c so.0 so.1)))
