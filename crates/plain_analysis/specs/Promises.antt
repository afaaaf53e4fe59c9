-- What an analysis promises of loops and of runs.
use Rattle.std.specs.Prelude.{◌≡◌, ℕ, ℤ, ⊤, true, false, List, []}
use Rattle.std.specs.List.{All, Contains}
use Rattle.c_tree.specs.declared.tree.Mode.{Mode}
use Rattle.c_tree.specs.Tree.{Code, Done, Assign, Input, Assert, If, While, Do, Leave, Block, Skip, Cond, Whole}
use Rattle.c_tree.specs.Value.{IsInt}
use Rattle.c_tree.specs.Run.{End, AtEnd, StoppedEnd, WaitingEnd, EndedEnd, standing, steps_of}
use Rattle.fam_outer.specs.declared.faults.Place.{Place}
use Rattle.leaf_domain.specs.Leaves.{LeafValue, LeafMeaning, IsLeafLike}
use Rattle.leaf_domain.specs.Transfer.{assumed, assigned, forgotten}
use Rattle.plain_analysis.specs.Ways.{Ways, onto, enter, leave_by, going_on}
use Rattle.plain_analysis.specs.declared.alarm.Alarm.{Alarm}
use Rattle.plain_analysis.specs.declared.options.Options.{Options}
use Rattle.plain_analysis.specs.Loops.{turn_of, widened_leaf, final_leaf}
use Rattle.plain_analysis.specs.Stated.{ArePartsOf}
use Rattle.plain_analysis.specs.Statements.{Heads, LoopParts, TestFirst, TestLast, passed, chosen, through_body, behind_by, lap, head_by, final_heads, lap_of}
use Rattle.plain_analysis.specs.Places.{at_by, alarms_by}

-- of each loop: after the rounds of joining and widening, what comes in at its head is below the leaf there
abbrev pub LoopsSettle : LeafMeaning → Options → Type 0
LoopsSettle M o =
    (l : LoopParts) (d : LeafValue) → M.valid d → ArePartsOf d.variables l
    → let G = turn_of M (lap_of M o l) d in
    M.leq (G (widened_leaf M o.thresholds o.delay G d)) (widened_leaf M o.thresholds o.delay G d) ≡ true

-- of each loop: what comes in at its head is below its final leaf too, so that this leaf is inductive
abbrev pub FinalsAreInductive : LeafMeaning → Options → Type 0
FinalsAreInductive M o =
    (l : LoopParts) (d : LeafValue) → M.valid d → ArePartsOf d.variables l
    → let x = final_leaf M o (lap_of M o l) d in
    M.leq (turn_of M (lap_of M o l) d x) x ≡ true

-- the store that a run has reached lies in the leaf at its place, and the stop that it has met is among the alarms
abbrev pub IsForeseen : LeafMeaning → (Place → LeafValue) → Place → List Alarm → End → Type 0
IsForeseen M at end alarms (AtEnd place store) = M.holds (at place) store
IsForeseen M at end alarms (WaitingEnd place store) = M.holds (at place) store
IsForeseen M at end alarms (EndedEnd store) = M.holds (at end) store
IsForeseen M at end alarms (StoppedEnd place kind) = Contains alarms (record { place = place; kind = kind })

-- each run of a program, from each store that d holds, with each inputs of `int` and for each number of steps, by a pass
abbrev pub RunsForeseenBy : LeafMeaning → Mode → Heads → Whole → LeafValue → Type 0
RunsForeseenBy M mode H p d =
    (store inputs : List ℤ) (n : ℕ) → M.holds d store → All IsInt inputs
    → IsForeseen M (at_by M mode H p d) p.end (alarms_by M mode H p d) (steps_of mode inputs n (standing p.body [] store 0))

-- the same by an analysis
abbrev pub RunsForeseen : LeafMeaning → Options → Whole → LeafValue → Type 0
RunsForeseen M o p d = RunsForeseenBy M o.mode (final_heads M o) p d

-- a loop's head holds each store with which the loop is entered, and each that a lap makes of the head's
pub record IsHeld (M : LeafMeaning) (lap : LeafValue → LeafValue) (v head : LeafValue) : Type 0 where
  pub answers : IsLeafLike M v head
  pub entered : (store : List ℤ) → M.holds v store → M.holds head store
  pub again : (store : List ℤ) → M.holds (lap head) store → M.holds head store

-- so does each loop's of a list of statements
abbrev pub AreHeld : LeafMeaning → Mode → Heads → Code → Ways → Type 0
AreHeld M mode H Done w = ⊤
AreHeld M mode H (Assign place x e rest) w = AreHeld M mode H rest (onto w (assigned M mode x e w.behind))
AreHeld M mode H (Input place x rest) w = AreHeld M mode H rest (onto w (forgotten M x w.behind))
AreHeld M mode H (Assert place e rest) w = AreHeld M mode H rest (onto w (assumed M mode e true w.behind))
AreHeld M mode H (If place e p q rest) w =
    let a = passed M mode H p (onto w (assumed M mode e true w.behind)) in
    AreHeld M mode H p (onto w (assumed M mode e true w.behind)) × AreHeld M mode H q (onto a (assumed M mode e false w.behind))
    × AreHeld M mode H rest (chosen M mode H e p q w)
AreHeld M mode H (While place e step body rest) w =
    let l = TestFirst e step body in
    let x = head_by M mode H place l w.behind in
    IsHeld M (lap M mode H l) w.behind x
    × AreHeld M mode H step (enter (going_on M (through_body M mode H l x)))
    × AreHeld M mode H body (enter (assumed M mode e true x))
    × AreHeld M mode H rest (behind_by M mode H l w x)
AreHeld M mode H (Do place body at e rest) w =
    let l = TestLast body at e in
    let x = head_by M mode H place l w.behind in
    IsHeld M (lap M mode H l) w.behind x
    × AreHeld M mode H body (enter x)
    × AreHeld M mode H rest (behind_by M mode H l w x)
AreHeld M mode H (Leave place jump rest) w = AreHeld M mode H rest (leave_by M mode jump w)
AreHeld M mode H (Block place body rest) w = AreHeld M mode H body w × AreHeld M mode H rest (passed M mode H body w)
AreHeld M mode H (Skip place rest) w = AreHeld M mode H rest w
AreHeld M mode H (Cond number p q rest) w = AreHeld M mode H rest w
