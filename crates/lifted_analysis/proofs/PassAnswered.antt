-- What a pass over a family answers is what it promises.
use Rattle.std.proofs.Common.{◌≡◌, ℕ, ◌≤◌, ◌<◌, ◌+◌, true, false, Bool, ◌&&◌, List, [], ◌∷◌, ◌++◌, map, take, get_or, length, if◌then◌else◌, refl, ap, sym, subst, ◌∙◌, inl, inr}
use Rattle.std.specs.List.{All}
use Rattle.std.proofs.lemmas.List.Elements.{All-head, All-tail, All-take, All-drop}
use Rattle.std.proofs.lemmas.List.{take_at, drop_at, map-append, map_more}
use Rattle.std.specs.declared.vec.Vec.{Vec}
use Rattle.std.specs.declared.alloc.Global.{Global}
use Rattle.fam_outer.specs.declared.faults.Place.{Place}
use Rattle.c_tree.specs.declared.tree.Kind.{Kind}
use Rattle.c_tree.specs.declared.tree.Mode.{Mode}
use Rattle.c_tree.specs.Fit.{IsCodeOf}
use Rattle.c_tree.specs.Places.{program_places}
use Rattle.c_tree.specs.Project.{projected, projected_program, projected_start}
use Rattle.c_tree.specs.Tree.{Code, Done, Assign, Input, Assert, If, While, Do, Leave, Block, Skip, Cond, Whole}
use Rattle.c_tree.specs.Whole.{IsProgram}
use Rattle.c_tree.proofs.Starts.{length-start, ints-start}
use Rattle.c_tree.proofs.Wholes.{IsPlain-projected, IsProgram-projected}
use Rattle.cpp_conditions.specs.declared.formulas.Formula.{Formula}
use Rattle.cpp_conditions.specs.Propositions.{true_on, IsBelow}
use Rattle.cpp_conditions.specs.View.{formula}
use Rattle.decision_tree.specs.declared.tree.Tree.{Tree}
use Rattle.decision_tree.specs.Plain.{leaf_of}
use Rattle.decision_tree.specs.View.{numbered, plain}
use Rattle.leaf_domain.specs.Leaves.{LeafValue, LeafMeaning, LeafLaws, nothing_of}
use Rattle.leaf_domain.specs.Soundness.{TransferAnswers, TransferHolds}
use Rattle.leaf_domain.specs.Transfer.{assumed, assigned, forgotten}
use Rattle.plain_analysis.specs.Places.{at_by, alarm_by}
use Rattle.plain_analysis.specs.Promises.{IsHeld, AreHeld, RunsForeseenBy}
use Rattle.plain_analysis.specs.Statements.{Heads, TestFirst, TestLast, passed, chosen, through_body, lap, head_by, behind_by}
use Rattle.plain_analysis.specs.Ways.{Ways, onto, enter, leave_by, going_on}
use Rattle.plain_analysis.proofs.Kept.{IsLeaf, AreLeaves, like, alike, enter_leaves, leave_kept}
use Rattle.plain_analysis.proofs.Promised.{runs}
use Rattle.tree_unify.specs.Formulas as formulas
use Rattle.lifted_analysis.specs.declared.noted.Noted.{Noted}
use Rattle.lifted_analysis.specs.declared.noted.TurnTree.{TurnTree}
use Rattle.lifted_analysis.specs.declared.family_context.FamilyContext.{FamilyContext}
use Rattle.lifted_analysis.specs.declared.findings.AlarmTree.{AlarmTree}
use Rattle.lifted_analysis.specs.declared.findings.LoopTree.{LoopTree}
use Rattle.lifted_analysis.specs.declared.lines.LoopLine.{LoopLine}
use Rattle.lifted_analysis.specs.Conditions.{AreTreesOf}
use Rattle.lifted_analysis.specs.Entries.{leaf_there, stop_there, turn_there, IsReducedTree, IsSizedTurn, AreSized}
use Rattle.lifted_analysis.specs.Findings.{HasNoted}
use Rattle.lifted_analysis.specs.Lines.{AreVariableBounds, AreRegionsBelow, given_heads}
use Rattle.lifted_analysis.specs.Pass.{heads_at, passed_at, pass_stop_at, turns_at_vector, inductive_at, loop_there, ArePassFindings}
use Rattle.lifted_analysis.specs.Promises.{truths_of, variant_at, begin_at, by_kind, AreBelow}
use Rattle.lifted_analysis.specs.Start.{start_at}
use Rattle.lifted_analysis.specs.States.{truths_in, IsTest, HasRegionNumber}
use Rattle.lifted_analysis.specs.Turns.{Turn, turns_by, is_inductive, AreInductive, inductive_in, loop_places}
use Rattle.lifted_analysis.proofs.Answered.{keys_are, leaf_findings, truth_findings, begins}
use Rattle.tree_unify.proofs.FormulaTrees.{number_below}
use Rattle.lifted_analysis.proofs.ConditionLemmas.{truths_same, tests_each, occurs_below}
use Rattle.lifted_analysis.proofs.PassedLemmas.{AreFit, KeepsIn, given_fit, assign_leaves, input_leaves, test_leaves, within_leaves, onward_leaf, lap_leaf, head_leaf, behind_leaves, passed_leaves, sides_leaves}

-- ---- loops that are inductive

left_so : (a b : Bool) → (a && b) ≡ true → a ≡ true
left_so true b e = refl
left_so false b e = cc

right_so : (a b : Bool) → (a && b) ≡ true → b ≡ true
right_so true b e = e
right_so false b e = cc

all_first : {X : Type 0} (P : X → Type 0) (xs ys : List X) → All P (xs ++ ys) → All P xs
all_first P xs ys h = subst (All P) (take_at xs ys (length xs) refl) (All-take P (length xs) (xs ++ ys) h)

all_second : {X : Type 0} (P : X → Type 0) (xs ys : List X) → All P (xs ++ ys) → All P ys
all_second P xs ys h = subst (All P) (drop_at xs ys (length xs) refl) (All-drop P (length xs) (xs ++ ys) h)

module _ (M : LeafMeaning) (laws : LeafLaws M) (mode : Mode) (A : TransferAnswers M mode) (n : ℕ) (H : Heads) (fit : AreFit M mode n H) where
  abbrev Below : Turn → Type 0
  Below t = is_inductive M t ≡ true

  abbrev keeps : (c : Code) → IsCodeOf n c → (w : Ways) → AreLeaves M n w → AreLeaves M n (passed M mode H c w)
  keeps = passed_leaves M laws mode A n H fit

  -- an inductive head holds what enters its loop and what a lap makes of it
  held : (x head again : LeafValue) (f : LeafValue → LeafValue) → again ≡ f head → IsLeaf M n x → IsLeaf M n head → IsLeaf M n again → (M.leq x head && M.leq again head) ≡ true → IsHeld M f x head
  held x head again f e h i j b = record {
    answers = like M laws n x head h i;
    entered = λ store k. laws.leq_holds x head store (alike M laws n x head h i) (left_so (M.leq x head) (M.leq again head) b) k;
    again = λ store k. laws.leq_holds again head store (alike M laws n again head j i) (right_so (M.leq x head) (M.leq again head) b) (subst (λ y. M.holds y store) (sym e) k);
  }

  -- heads of inductive loops hold what enters them and what laps make of them
  pub inductive_heads_hold : (c : Code) → IsCodeOf n c → (w : Ways) → AreLeaves M n w → AreInductive M (turns_by M mode H c w) → AreHeld M mode H c w
  inductive_heads_hold Done over w h i = tt
  inductive_heads_hold (Assign place y e rest) over w h i =
      inductive_heads_hold rest over.2 (onto w (assigned M mode y e w.behind)) (assign_leaves M laws mode A n H fit y e w h over.0 over.1) i
  inductive_heads_hold (Input place y rest) over w h i =
      inductive_heads_hold rest over.1 (onto w (forgotten M y w.behind)) (input_leaves M laws mode A n H fit y w h over.0) i
  inductive_heads_hold (Assert place e rest) over w h i =
      inductive_heads_hold rest over.1 (onto w (assumed M mode e true w.behind)) (test_leaves M laws mode A n H fit e true w w.behind h h.behind over.0) i
  inductive_heads_hold (If place e p q rest) over w h i =
      let u = onto w (assumed M mode e true w.behind) in
      let j = test_leaves M laws mode A n H fit e true w w.behind h h.behind over.0 in
      let a = passed M mode H p u in
      let z = onto a (assumed M mode e false w.behind) in
      let k = test_leaves M laws mode A n H fit e false a w.behind (keeps p over.1 u j) h.behind over.0 in
      let r = chosen M mode H e p q w in
      let ps = turns_by M mode H p u in
      let qs = turns_by M mode H q z in
      let rs = turns_by M mode H rest r in
      let behind = all_second Below ps (qs ++ rs) i in (
        inductive_heads_hold p over.1 u j (all_first Below ps (qs ++ rs) i),
        inductive_heads_hold q over.2 z k (all_first Below qs rs behind),
        inductive_heads_hold rest over.3 r (sides_leaves M laws mode A n H fit e p q over.0 over.1 over.2 w h) (all_second Below qs rs behind),
      )
  inductive_heads_hold (While place e step body rest) over w h i =
      let l = TestFirst e step body in
      let k : KeepsIn M laws mode A n H fit l = (over.0, keeps step over.1, keeps body over.2) in
      let x = head_by M mode H place l w.behind in
      let a = head_leaf M laws mode A n H fit place l (over.0, over.1, over.2, over.4) w.behind h.behind in
      let y = going_on M (through_body M mode H l x) in
      let u = enter (assumed M mode e true x) in
      let r = behind_by M mode H l w x in
      let turn : Turn = record { place = place; entered = w.behind; head = x; again = lap M mode H l x } in
      let ss = turns_by M mode H step (enter y) in
      let bs = turns_by M mode H body u in
      let rs = turns_by M mode H rest r in
      let others = All-tail Below turn (ss ++ (bs ++ rs)) i in
      let later = all_second Below ss (bs ++ rs) others in (
        held w.behind x (lap M mode H l x) (lap M mode H l) refl h.behind a (lap_leaf M laws mode A n H fit l k x a) (All-head Below turn (ss ++ (bs ++ rs)) i),
        inductive_heads_hold step over.1 (enter y) (enter_leaves M laws n y (onward_leaf M laws mode A n H fit l k x a)) (all_first Below ss (bs ++ rs) others),
        inductive_heads_hold body over.2 u (within_leaves M laws mode A n H fit e x a over.0) (all_first Below bs rs later),
        inductive_heads_hold rest over.3 r (behind_leaves M laws mode A n H fit l k w x h a) (all_second Below bs rs later),
      )
  inductive_heads_hold (Do place body at e rest) over w h i =
      let l = TestLast body at e in
      let k : KeepsIn M laws mode A n H fit l = (over.0, keeps body over.1) in
      let x = head_by M mode H place l w.behind in
      let a = head_leaf M laws mode A n H fit place l (over.0, over.1) w.behind h.behind in
      let r = behind_by M mode H l w x in
      let turn : Turn = record { place = place; entered = w.behind; head = x; again = lap M mode H l x } in
      let bs = turns_by M mode H body (enter x) in
      let rs = turns_by M mode H rest r in
      let others = All-tail Below turn (bs ++ rs) i in (
        held w.behind x (lap M mode H l x) (lap M mode H l) refl h.behind a (lap_leaf M laws mode A n H fit l k x a) (All-head Below turn (bs ++ rs) i),
        inductive_heads_hold body over.1 (enter x) (enter_leaves M laws n x a) (all_first Below bs rs others),
        inductive_heads_hold rest over.2 r (behind_leaves M laws mode A n H fit l k w x h a) (all_second Below bs rs others),
      )
  inductive_heads_hold (Leave place jump rest) over w h i = inductive_heads_hold rest over.1 (leave_by M mode jump w) (leave_kept M laws mode A n jump w h over.0).leaves i
  inductive_heads_hold (Block place body rest) over w h i =
      let a = passed M mode H body w in
      let bs = turns_by M mode H body w in
      let rs = turns_by M mode H rest a in (
        inductive_heads_hold body over.0 w h (all_first Below bs rs i),
        inductive_heads_hold rest over.1 a (keeps body over.0 w h) (all_second Below bs rs i),
      )
  inductive_heads_hold (Skip place rest) over w h i = inductive_heads_hold rest over w h i
  inductive_heads_hold (Cond number p q rest) over w h i = inductive_heads_hold rest over.2 w h i

-- ---- runs

pub pass_runs : (M : LeafMeaning) → LeafLaws M → (mode : Mode) → TransferAnswers M mode → TransferHolds M mode → (p : Whole) → IsProgram p → (cs : List Formula) (pl : Formula) (lines : List LoopLine)
    → All (λ (l : LoopLine). AreVariableBounds (length p.names) l.bounds) lines → (v : List Bool) → AreInductive M (turns_at_vector M mode p cs pl lines v)
    → RunsForeseenBy M mode (heads_at M p cs pl lines v) (variant_at p cs v) (begin_at M p cs pl v)
pass_runs M laws mode A T p program cs pl lines bounds v inductive =
    let ts = truths_of cs v in
    let d = begin_at M p cs pl v in
    let well = IsProgram-projected ts p program in
    let is_valid = valid (true_on v (formula pl)) in
    let counts : d.variables ≡ length p.names = count (true_on v (formula pl)) in
    let fit = subst (λ m. AreFit M mode m (given_heads M lines v d)) counts (given_fit M laws mode lines v d is_valid (subst (λ m. All (λ (l : LoopLine). AreVariableBounds m l.bounds) lines) (sym counts) bounds)) in
    runs M mode (heads_at M p cs pl lines v) (variant_at p cs v) d well (record { body = IsPlain-projected ts p.body; declared = refl }) laws A T is_valid counts
    (inductive_heads_hold M laws mode A (length p.names) (heads_at M p cs pl lines v) fit (variant_at p cs v).body well.names (enter d) (enter_leaves M laws (length p.names) d (record { valid = is_valid; count = counts })) inductive)
  where
    valid : (b : Bool) → M.valid (if b then M.start (variant_at p cs v).start else nothing_of (length p.names))
    valid true =
        laws.start_valid (projected_start (truths_of cs v) p.declared p.start) (subst (λ n. n ≤ 48) (sym (length-start (truths_of cs v) p.declared 0 p.start ∙ program.starts)) program.few)
        (ints-start (truths_of cs v) p.declared (length p.names) 0 p.start program.declared program.ints)
    valid false = laws.nothing_valid (length p.names) program.few

    count : (b : Bool) → (if b then M.start (variant_at p cs v).start else nothing_of (length p.names)).variables ≡ length p.names
    count true = laws.start_variables (projected_start (truths_of cs v) p.declared p.start) ∙ (length-start (truths_of cs v) p.declared 0 p.start ∙ program.starts)
    count false = refl

-- ---- findings

regions_below : (m k : ℕ) (ls : List LoopLine) → AreRegionsBelow m ls → HasRegionNumber k ls → k < m
regions_below m k [] h w = absurd w
regions_below m k (l ∷ ls) h (inl w) = number_below m k (formula l.region) (All-head (λ (l : LoopLine). IsBelow m (formula l.region)) l ls h) w
regions_below m k (l ∷ ls) h (inr w) = regions_below m k ls (All-tail (λ (l : LoopLine). IsBelow m (formula l.region)) l ls h) w

module _ {L : Type 0} (value : L → LeafValue) (exact : (a b : L) → value a ≡ value b → a ≡ b) (M : LeafMeaning) (family : FamilyContext) (p : Whole) (cs : List Formula) (pl : Formula) (lines : List LoopLine)
    (trees : AreTreesOf cs family.choices.now) (plausible : formulas.IsTreeOf (formula pl) (plain family.plausible.now)) (count : family.variables ≡ length p.names) (same : family.lines.now ≡ lines) where
  small : (m : ℕ) → AreBelow m cs pl → AreRegionsBelow m lines → (k : ℕ) → IsTest family k → k < m
  small m b r k (inl w) = occurs_below m k cs pl b (inl (plausible.tests k w))
  small m b r k (inr (inl w)) = occurs_below m k cs pl b (inr (tests_each cs family.choices.now k trees w))
  small m b r k (inr (inr w)) = regions_below m k lines r (subst (HasRegionNumber k) same w)

  module _ (f : Noted L) (loops : Vec LoopTree Global) (h : HasNoted value M family p (λ v. given_heads M family.lines.now v (start_at M family p.start p.declared v)) f)
      (at_loops : (v : List Bool) → map (loop_there v) loops.items ≡ map {B = Place × Bool} (λ (t : TurnTree L). (t.place, is_inductive M (turn_there value v t))) f.turns.items)
      (reduced : All (λ (l : LoopTree). IsReducedTree family (numbered l.tree)) loops.items) where
    abbrev mode : Mode
    mode = family.options.now.mode

    -- by formulas, whatever is made of heads, truths and start values
    over_formulas : {Y : Type 0} (F : Heads → List Bool → LeafValue → Y) (v : List Bool)
        → F (given_heads M family.lines.now v (start_at M family p.start p.declared v)) (truths_in family.choices.now v) (start_at M family p.start p.declared v) ≡ F (heads_at M p cs pl lines v) (truths_of cs v) (begin_at M p cs pl v)
    over_formulas F v =
        ap (λ ls. F (given_heads M ls v (start_at M family p.start p.declared v)) (truths_in family.choices.now v) (start_at M family p.start p.declared v)) same
        ∙ (ap (λ ts. F (given_heads M lines v (start_at M family p.start p.declared v)) ts (start_at M family p.start p.declared v)) (truths_same cs family.choices.now v trees)
        ∙ ap (λ d. F (given_heads M lines v d) (truths_of cs v) d) (begins M family p cs pl trees plausible count v))

    leaves_at : (v : List Bool) → map (leaf_there value v) f.places.items ≡ map (λ (q : Place). (q, passed_at M mode p cs pl lines q v)) (program_places p)
    leaves_at v = h.leaves v ∙ over_formulas (λ H ts d. map (λ (q : Place). (q, at_by M mode H (projected_program ts p) d q)) (program_places p)) v

    stops_at : (v : List Bool) → map (stop_there v) f.alarms.items ≡ map (λ (q : Place × Kind). (q, pass_stop_at M mode p cs pl lines q v)) (by_kind (program_places p))
    stops_at v = h.stops v ∙ over_formulas (λ H ts d. map (λ (q : Place × Kind). (q, alarm_by M mode H (projected_program ts p) d q.0 q.1)) (by_kind (program_places p))) v

    loops_at : (v : List Bool) → map (loop_there v) loops.items ≡ map (λ (q : Place). (q, inductive_at M mode p cs pl lines q v)) (loop_places p.body)
    loops_at v = at_loops v ∙ (h.turns v ∙ over_formulas (λ H ts d. map (λ (q : Place). (q, inductive_in M (turns_by M mode H (projected ts p.body) (enter d)) q)) (loop_places p.body)) v)

    pub are_pass_findings : ArePassFindings value M family.options.now.mode p cs pl lines (record { places = f.places; alarms = f.alarms; loops = loops })
    are_pass_findings = record {
      places = keys_are (leaf_there value []) (λ q. passed_at M mode p cs pl lines q []) f.places.items (program_places p) (leaves_at []);
      trees = λ m b r. leaf_findings family m (small m b r) value exact f.places.items (program_places p) (λ q v. passed_at M mode p cs pl lines q v) h.trees leaves_at;
      kinds = keys_are (stop_there []) (λ q. pass_stop_at M mode p cs pl lines q []) f.alarms.items (by_kind (program_places p)) (stops_at []);
      alarms = λ m b r. truth_findings family m (small m b r) (λ (a : AlarmTree). (a.place, a.kind)) (λ (a : AlarmTree). a.tree) f.alarms.items (by_kind (program_places p)) (λ q v. pass_stop_at M mode p cs pl lines q v) h.alarm_trees stops_at;
      loops = keys_are (loop_there []) (λ q. inductive_at M mode p cs pl lines q []) loops.items (loop_places p.body) (loops_at []);
      inductive = λ m b r. truth_findings family m (small m b r) (λ (l : LoopTree). l.place) (λ (l : LoopTree). l.tree) loops.items (loop_places p.body) (λ q v. inductive_at M mode p cs pl lines q v) reduced loops_at;
      alarms_numbered = λ k d lt. (h.alarm_trees k d lt).tree;
      loops_numbered = λ k d lt. (reduced k d lt).tree;
    }

-- ---- the trees of loops

pub both_same : (a b x y : Bool) → a ≡ x → b ≡ y → (a && b) ≡ (x && y)
both_same a b x y e f = ap (λ c. c && b) e ∙ ap (λ c. x && c) f

-- one loop more
pub loop_more : {L : Type 0} (value : L → LeafValue) (M : LeafMeaning) (turns : List (TurnTree L)) (i : ℕ) (turn : TurnTree L) (before now : List LoopTree) (tree : Tree Bool) (v : List Bool) → i < length turns → turn ≡ get_or turns i turn
    → now ≡ before ++ record { place = turn.place; tree = tree } ∷ [] → leaf_of (plain tree) v ≡ is_inductive M (turn_there value v turn)
    → map (loop_there v) before ≡ map {B = Place × Bool} (λ (t : TurnTree L). (t.place, is_inductive M (turn_there value v t))) (take i turns)
    → map (loop_there v) now ≡ map {B = Place × Bool} (λ (t : TurnTree L). (t.place, is_inductive M (turn_there value v t))) (take (i + 1) turns)
loop_more {L} value M turns i turn before now tree v l e pushed is so_far =
    let f : TurnTree L → Place × Bool = λ t. (t.place, is_inductive M (turn_there value v t)) in
    ap (map (loop_there v)) pushed
    ∙ (map-append (loop_there v) before (record { place = turn.place; tree = tree } ∷ [])
    ∙ (ap (λ xs. xs ++ (turn.place, leaf_of (plain tree) v) ∷ []) so_far
    ∙ (ap (λ (b : Bool). map f (take i turns) ++ (turn.place, b) ∷ []) is
    ∙ (ap (λ (t : TurnTree L). map f (take i turns) ++ f t ∷ []) e
    ∙ sym (map_more f turns i turn l)))))

-- the same loops by another name
pub sized_by : {L : Type 0} (value : L → LeafValue) (family : FamilyContext) (xs ys : List (TurnTree L)) → xs ≡ ys → AreSized value family ys → AreSized value family xs
sized_by {L} value family xs ys e h = subst (λ ts. All (λ (t : TurnTree L). IsSizedTurn value family t) ts) (sym e) h

pub loops_by : {L : Type 0} (value : L → LeafValue) (M : LeafMeaning) (loops : List LoopTree) (xs ys : List (TurnTree L)) → xs ≡ ys
    → ((v : List Bool) → map (loop_there v) loops ≡ map {B = Place × Bool} (λ (t : TurnTree L). (t.place, is_inductive M (turn_there value v t))) xs)
    → (v : List Bool) → map (loop_there v) loops ≡ map {B = Place × Bool} (λ (t : TurnTree L). (t.place, is_inductive M (turn_there value v t))) ys
loops_by {L} value M loops xs ys e h v = h v ∙ ap (map {B = Place × Bool} (λ (t : TurnTree L). (t.place, is_inductive M (turn_there value v t)))) e
