-- Nothing behind stays so, and nothing leaves.
use Rattle.std.proofs.Common.{◌≡◌, ℕ, ◌≤◌, true, List, Option, Some, None, refl, ap, sym, ◌∙◌, ℤ}
use Rattle.std.specs.Prelude.{is_none, if◌then◌else◌, Bool, false}
use Rattle.c_tree.specs.Tree.{Term, Jump, Break, Continue, Return, Code, Done, Assign, Input, Assert, If, While, Do, Leave, Block, Skip, Cond}
use Rattle.fam_outer.specs.declared.faults.Place.{Place}
use Rattle.leaf_domain.specs.declared.form.Form.{Form}
use Rattle.leaf_domain.specs.declared.operation.Operation.{Operation}
use Rattle.leaf_domain.specs.declared.range.Range.{Range}
use Rattle.leaf_domain.specs.Forms.{form_of_term}
use Rattle.leaf_domain.specs.Ranges.{is_empty_range, whole_int}
use Rattle.leaf_domain.specs.Leaves.{LeafValue, LeafMeaning, LeafLaws, Alike, nothing_of, is_nothing_of}
use Rattle.leaf_domain.specs.Soundness.{TransferAnswers}
use Rattle.leaf_domain.specs.Transfer.{assumed, assigned, valued, operation_set, form_set, form_where, fits_term, operation_of_term, range_of_term}
use Rattle.plain_analysis.specs.declared.options.Options.{Options}
use Rattle.plain_analysis.specs.Loops.{turn_of, round_count, widened_leaf, narrowing_of, narrowings_of, final_leaf}
use Rattle.plain_analysis.specs.Statements.{LoopParts, TestFirst, TestLast, chosen, final_heads, behind_by, after_of, lap_of}
use Rattle.plain_analysis.specs.Ways.{Ways, onto, enter, joined, leave_by, going_on, behind_loop}
use Rattle.plain_analysis.proofs.Rounds.{rounds_stay, narrowings_stay}

same_content : (m : ℕ) (c : Option (List ℤ)) → is_none c ≡ true → (let v : LeafValue = record { variables = m; content = c } in v) ≡ nothing_of m
same_content m None e = refl
same_content m (Some ns) e = cc

-- a leaf that is Nothing, over so many variables
pub nothing_value : (v : LeafValue) (n : ℕ) → is_nothing_of v ≡ true → v.variables ≡ n → v ≡ nothing_of n
nothing_value v n e f = same_content v.variables v.content e ∙ ap (λ m. nothing_of m) f

module _ (M : LeafMeaning) (laws : LeafLaws M) (o : Options) (answers : TransferAnswers M o.mode) (n : ℕ) (few : n ≤ 48) where
  alike : Alike M (nothing_of n) (nothing_of n)
  alike = record { first = laws.nothing_valid n few; second = laws.nothing_valid n few; same = refl }

  set_operation_nothing : (p : Option Operation) (x : ℕ) (r : Range) → operation_set M x p r (nothing_of n) ≡ nothing_of n
  set_operation_nothing None x r = laws.set_nothing n x r
  set_operation_nothing (Some p) x r = laws.set_operation_nothing n x p r

  set_nothing : (f : Option Form) (p : Option Operation) (x : ℕ) (r : Range) → form_set M x f p r (nothing_of n) ≡ nothing_of n
  set_nothing None p x r = set_operation_nothing p x r
  set_nothing (Some f) p x r = laws.set_form_nothing n x f r

  assigned_nothing : (x : ℕ) (e : Term) → assigned M o.mode x e (nothing_of n) ≡ nothing_of n
  assigned_nothing x e =
      let f : Option Form = form_where (fits_term M o.mode e (nothing_of n)) (form_of_term e) in
      let p : Option Operation = operation_of_term M o.mode e (nothing_of n) in
      let r : Range = range_of_term M o.mode e (nothing_of n) in
      elim (is_empty_range r) as (λ b. (if b then nothing_of n else form_set M x f p r (nothing_of n)) ≡ nothing_of n) [ true ↦ refl | false ↦ set_nothing f p x r ]

  assumed_nothing : (e : Term) (want : Bool) → assumed M o.mode e want (nothing_of n) ≡ nothing_of n
  assumed_nothing e want = answers.assumed_of_nothing e want (nothing_of n) refl

  joined_nothing : (a b : LeafValue) → a ≡ nothing_of n → b ≡ nothing_of n → M.join a b ≡ nothing_of n
  joined_nothing a b e f = ap (λ v. M.join v b) e ∙ (ap (M.join (nothing_of n)) f ∙ laws.join_nothing (nothing_of n))

  narrowed_nothing : (g : LeafValue) → g ≡ nothing_of n → M.narrow o.thresholds (nothing_of n) g ≡ nothing_of n
  narrowed_nothing g e =
      ap (M.narrow o.thresholds (nothing_of n)) e
      ∙ nothing_value (M.narrow o.thresholds (nothing_of n) (nothing_of n)) n (laws.narrow_nothing o.thresholds n (nothing_of n)) (laws.narrow_answers o.thresholds (nothing_of n) (nothing_of n) alike).same

  either_way : (b : Bool) (c : LeafValue) → c ≡ nothing_of n → (if b then c else nothing_of n) ≡ nothing_of n
  either_way true c e = e
  either_way false c e = refl

  valued_nothing : (e : Term) → valued M o.mode e (nothing_of n) ≡ nothing_of n
  valued_nothing e = either_way (is_empty_range (range_of_term M o.mode e (nothing_of n))) (nothing_of n) refl

  -- a loop that is entered with Nothing, where a lap makes Nothing of it
  pub loop_nothing : (lap : LeafValue → LeafValue) → lap (nothing_of n) ≡ nothing_of n → final_leaf M o lap (nothing_of n) ≡ nothing_of n
  loop_nothing lap same =
      let G : LeafValue → LeafValue = turn_of M lap (nothing_of n) in
      let turned : G (nothing_of n) ≡ nothing_of n = joined_nothing (nothing_of n) (lap (nothing_of n)) refl same in
      let below : M.leq (G (nothing_of n)) (nothing_of n) ≡ true = ap (λ v. M.leq v (nothing_of n)) turned ∙ laws.nothing_leq n (nothing_of n) in
      let wide : widened_leaf M o.thresholds o.delay G (nothing_of n) ≡ nothing_of n = rounds_stay M o.thresholds o.delay G (round_count M o.thresholds o.delay n) 0 (nothing_of n) below in
      let stays : narrowing_of M o.thresholds G (nothing_of n) ≡ nothing_of n = either_way (M.leq (G (M.narrow o.thresholds (nothing_of n) (G (nothing_of n)))) (M.narrow o.thresholds (nothing_of n) (G (nothing_of n)))) (M.narrow o.thresholds (nothing_of n) (G (nothing_of n))) (narrowed_nothing (G (nothing_of n)) turned) in
      ap (narrowings_of M o.thresholds G o.narrow) wide ∙ narrowings_stay M o.thresholds G o.narrow (nothing_of n) stays

  abbrev none : LeafValue
  none = nothing_of n

  -- what is passed with Nothing behind stays as it is
  Stays : Code → Type 0
  Stays c = (w : Ways) → after_of M o c (onto w (nothing_of n)) ≡ onto w (nothing_of n)

  lap_first : (e : Term) (step body : Code) → Stays step → Stays body → lap_of M o (TestFirst e step body) none ≡ none
  unfolding Stays
  lap_first e step body h k =
      ap (λ v. (after_of M o step (enter (going_on M (after_of M o body (enter v))))).behind) (assumed_nothing e true)
      ∙ (ap (λ (b : Ways). (after_of M o step (enter (going_on M b))).behind) (k (enter none)) ∙ ap (λ (b : Ways). b.behind) (h (enter none)))

  lap_last : (body : Code) (at : Place) (e : Term) → Stays body → lap_of M o (TestLast body at e) none ≡ none
  unfolding Stays
  lap_last body at e k = ap (λ (b : Ways). assumed M o.mode e true (going_on M b)) (k (enter none)) ∙ assumed_nothing e true

  behind_first : (e : Term) (step body : Code) (w : Ways) → Stays body → behind_by M o.mode (final_heads M o) (TestFirst e step body) (onto w none) none ≡ onto w none
  unfolding Stays
  behind_first e step body w k =
      ap (λ v. behind_loop M w (assumed M o.mode e false none) (after_of M o body (enter v))) (assumed_nothing e true)
      ∙ (ap (behind_loop M w (assumed M o.mode e false none)) (k (enter none)) ∙ ap (onto w) (assumed_nothing e false))

  behind_last : (body : Code) (at : Place) (e : Term) (w : Ways) → Stays body → behind_by M o.mode (final_heads M o) (TestLast body at e) (onto w none) none ≡ onto w none
  unfolding Stays
  behind_last body at e w k = ap (λ (b : Ways). behind_loop M w (assumed M o.mode e false (going_on M b)) b) (k (enter none)) ∙ ap (onto w) (assumed_nothing e false)

  left_nothing : (jump : Jump) (w : Ways) → leave_by M o.mode jump (onto w none) ≡ onto w none
  left_nothing Break w = refl
  left_nothing Continue w = refl
  left_nothing (Return e) w = ap (λ v. record { behind = none; broke = w.broke; continued = w.continued; returned = joined M w.returned v }) (valued_nothing e)

  chosen_nothing : (e : Term) (p q : Code) (w : Ways) → Stays p → Stays q → chosen M o.mode (final_heads M o) e p q (onto w none) ≡ onto w none
  unfolding Stays
  chosen_nothing e p q w h k =
      ap (λ v. let a = after_of M o p (onto w v) in let b = after_of M o q (onto a (assumed M o.mode e false none)) in onto b (M.join a.behind b.behind)) (assumed_nothing e true)
      ∙ (ap (λ (a : Ways). let b = after_of M o q (onto a (assumed M o.mode e false none)) in onto b (M.join a.behind b.behind)) (h w)
      ∙ (ap (λ v. let b = after_of M o q (onto w v) in onto b (M.join none b.behind)) (assumed_nothing e false)
      ∙ (ap (λ (b : Ways). onto b (M.join none b.behind)) (k w) ∙ ap (onto w) (laws.join_nothing none))))

  pub after_nothing : (c : Code) (w : Ways) → after_of M o c (onto w (nothing_of n)) ≡ onto w (nothing_of n)
  unfolding Stays
  after_nothing Done w = refl
  after_nothing (Assign place x e rest) w = ap (λ v. after_of M o rest (onto w v)) (assigned_nothing x e) ∙ after_nothing rest w
  after_nothing (Input place x rest) w = ap (λ v. after_of M o rest (onto w v)) (set_nothing None None x whole_int) ∙ after_nothing rest w
  after_nothing (Assert place e rest) w = ap (λ v. after_of M o rest (onto w v)) (assumed_nothing e true) ∙ after_nothing rest w
  after_nothing (If place e p q rest) w = ap (after_of M o rest) (chosen_nothing e p q w (after_nothing p) (after_nothing q)) ∙ after_nothing rest w
  after_nothing (While place e step body rest) w =
      ap (λ x. after_of M o rest (behind_by M o.mode (final_heads M o) (TestFirst e step body) (onto w none) x)) (loop_nothing (lap_of M o (TestFirst e step body)) (lap_first e step body (after_nothing step) (after_nothing body)))
      ∙ (ap (after_of M o rest) (behind_first e step body w (after_nothing body)) ∙ after_nothing rest w)
  after_nothing (Do place body at e rest) w =
      ap (λ x. after_of M o rest (behind_by M o.mode (final_heads M o) (TestLast body at e) (onto w none) x)) (loop_nothing (lap_of M o (TestLast body at e)) (lap_last body at e (after_nothing body)))
      ∙ (ap (after_of M o rest) (behind_last body at e w (after_nothing body)) ∙ after_nothing rest w)
  after_nothing (Leave place jump rest) w = ap (after_of M o rest) (left_nothing jump w) ∙ after_nothing rest w
  after_nothing (Block place body rest) w = ap (after_of M o rest) (after_nothing body w) ∙ after_nothing rest w
  after_nothing (Skip place rest) w = after_nothing rest w
  after_nothing (Cond number p q rest) w = after_nothing rest w

  pub lap_nothing : (l : LoopParts) → lap_of M o l (nothing_of n) ≡ nothing_of n
  unfolding Stays
  lap_nothing (TestFirst e step body) = lap_first e step body (after_nothing step) (after_nothing body)
  lap_nothing (TestLast body at e) = lap_last body at e (after_nothing body)

-- with Nothing behind, what was passed stays as it is
pub after_stays : (M : LeafMeaning) → LeafLaws M → (o : Options) → TransferAnswers M o.mode → (w : Ways) → w.behind.variables ≤ 48 → is_nothing_of w.behind ≡ true → (c : Code) → after_of M o c w ≡ w
after_stays M laws o answers w few is c =
    let e : w ≡ onto w (nothing_of w.behind.variables) = ap (onto w) (nothing_value w.behind w.behind.variables is refl) in
    ap (after_of M o c) e ∙ (after_nothing M laws o answers w.behind.variables few c w ∙ sym e)

-- a loop that is entered with Nothing has it as its final leaf
pub loop_stays : (M : LeafMeaning) → LeafLaws M → (o : Options) → TransferAnswers M o.mode → (v : LeafValue) → v.variables ≤ 48 → is_nothing_of v ≡ true → (l : LoopParts) → final_leaf M o (lap_of M o l) v ≡ v
loop_stays M laws o answers v few is l =
    let e : v ≡ nothing_of v.variables = nothing_value v v.variables is refl in
    ap (final_leaf M o (lap_of M o l)) e ∙ (loop_nothing M laws o answers v.variables few (lap_of M o l) (lap_nothing M laws o answers v.variables few l) ∙ sym e)
