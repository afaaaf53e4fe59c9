-- What statements do to a leaf, and the leaves with which they are entered.
use Rattle.std.specs.Prelude.{true, false, List, [], ◌∷◌, ◌++◌}
use Rattle.c_tree.specs.declared.tree.Mode.{Mode}
use Rattle.c_tree.specs.Tree.{Term, Code, Done, Assign, Input, Assert, If, While, Do, Leave, Block, Skip, Cond}
use Rattle.fam_outer.specs.declared.faults.Place.{Place}
use Rattle.leaf_domain.specs.Leaves.{LeafValue, LeafMeaning}
use Rattle.leaf_domain.specs.Transfer.{assumed, assigned, forgotten}
use Rattle.plain_analysis.specs.declared.options.Options.{Options}
use Rattle.plain_analysis.specs.Loops.{turn_of, final_leaf}
use Rattle.plain_analysis.specs.Ways.{Ways, onto, enter, leave_by, going_on, behind_loop}

-- what loops have at their heads: by a loop's place, what a lap makes of the head's leaf, and the leaf with which it is entered
abbrev pub Heads : Type 0
Heads = Place → (LeafValue → LeafValue) → LeafValue → LeafValue

-- what a list of statements makes of the leaf behind what was passed before it, and of what has left, where loops have these
-- heads; a plain program has no `Cond`. The body of a loop is entered anew: what breaks and goes on stays in the loop
abbrev pub passed : LeafMeaning → Mode → Heads → Code → Ways → Ways
passed M mode H Done w = w
passed M mode H (Assign place x e rest) w = passed M mode H rest (onto w (assigned M mode x e w.behind))
passed M mode H (Input place x rest) w = passed M mode H rest (onto w (forgotten M x w.behind))
passed M mode H (Assert place e rest) w = passed M mode H rest (onto w (assumed M mode e true w.behind))
passed M mode H (If place e p q rest) w =
    let a = passed M mode H p (onto w (assumed M mode e true w.behind)) in
    let b = passed M mode H q (onto a (assumed M mode e false w.behind)) in
    passed M mode H rest (onto b (M.join a.behind b.behind))
passed M mode H (While place e step body rest) w =
    let x = H place (λ v. (passed M mode H step (enter (going_on M (passed M mode H body (enter (assumed M mode e true v)))))).behind) w.behind in
    passed M mode H rest (behind_loop M w (assumed M mode e false x) (passed M mode H body (enter (assumed M mode e true x))))
passed M mode H (Do place body at e rest) w =
    let x = H place (λ v. assumed M mode e true (going_on M (passed M mode H body (enter v)))) w.behind in
    let b = passed M mode H body (enter x) in
    passed M mode H rest (behind_loop M w (assumed M mode e false (going_on M b)) b)
passed M mode H (Leave place jump rest) w = passed M mode H rest (leave_by M mode jump w)
passed M mode H (Block place body rest) w = passed M mode H rest (passed M mode H body w)
passed M mode H (Skip place rest) w = passed M mode H rest w
passed M mode H (Cond number p q rest) w = passed M mode H rest w

-- both sides of a test, one after the other
abbrev pub chosen : LeafMeaning → Mode → Heads → Term → Code → Code → Ways → Ways
chosen M mode H e p q w =
    let a = passed M mode H p (onto w (assumed M mode e true w.behind)) in
    let b = passed M mode H q (onto a (assumed M mode e false w.behind)) in
    onto b (M.join a.behind b.behind)

-- a loop without its place: its test stands first, or last
pub data LoopParts : Type 0 where
  TestFirst : (test : Term) (step body : Code) → LoopParts
  TestLast : (body : Code) (at : Place) (test : Term) → LoopParts

-- the leaf with which the body is entered, where the head has x
abbrev pub inside : LeafMeaning → Mode → LoopParts → LeafValue → LeafValue
inside M mode (TestFirst test step body) x = assumed M mode test true x
inside M mode (TestLast body at test) x = x

abbrev pub body_of : LoopParts → Code
body_of (TestFirst test step body) = body
body_of (TestLast body at test) = body

-- what the body makes of the head's leaf
abbrev pub through_body : LeafMeaning → Mode → Heads → LoopParts → LeafValue → Ways
through_body M mode H l x = passed M mode H (body_of l) (enter (inside M mode l x))

-- what a lap makes of the head's leaf: where the test stands first, it holds, then come the body and the step; else the body
-- comes, and then the test holds
abbrev pub lap : LeafMeaning → Mode → Heads → LoopParts → LeafValue → LeafValue
lap M mode H (TestFirst test step body) x = (passed M mode H step (enter (going_on M (passed M mode H body (enter (assumed M mode test true x)))))).behind
lap M mode H (TestLast body at test) x = assumed M mode test true (going_on M (passed M mode H body (enter x)))

-- the leaf at the head of a loop that is entered with v
abbrev pub head_by : LeafMeaning → Mode → Heads → Place → LoopParts → LeafValue → LeafValue
head_by M mode H place l v = H place (lap M mode H l) v

-- the leaf with which the test fails, where the head has x
abbrev pub failing : LeafMeaning → Mode → Heads → LoopParts → LeafValue → LeafValue
failing M mode H (TestFirst test step body) x = assumed M mode test false x
failing M mode H (TestLast body at test) x = assumed M mode test false (going_on M (passed M mode H body (enter x)))

-- behind a loop whose head has x
abbrev pub behind_by : LeafMeaning → Mode → Heads → LoopParts → Ways → LeafValue → Ways
behind_by M mode H l w x = behind_loop M w (failing M mode H l x) (through_body M mode H l x)

-- the heads of an analysis: final leaves
abbrev pub final_heads : LeafMeaning → Options → Heads
final_heads M o place lap v = final_leaf M o lap v

-- what a list of statements makes of what was passed, in an analysis
abbrev pub after_of : LeafMeaning → Options → Code → Ways → Ways
after_of M o code w = passed M o.mode (final_heads M o) code w

-- what a lap of a loop makes of the head's leaf, in an analysis
abbrev pub lap_of : LeafMeaning → Options → LoopParts → LeafValue → LeafValue
lap_of M o l x = lap M o.mode (final_heads M o) l x

-- what comes in at the head of a loop that is entered with d, where the head has x
abbrev pub loop_turn : LeafMeaning → Options → LoopParts → LeafValue → LeafValue → LeafValue
loop_turn M o l d x = turn_of M (lap_of M o l) d x

-- a statement, alone, and the leaf at its place
pub record Entry : Type 0 where
  pub place : Place
  pub statement : Code
  pub leaf : LeafValue

-- all statements of a list, in the order of the text, each with the leaf with which it is entered; a loop has its head, its body
-- is passed once from there, and its step, which stands before the body, from behind it; a test that stands last has an entry of
-- its own
abbrev pub entries_by : LeafMeaning → Mode → Heads → Code → Ways → List Entry
entries_by M mode H Done w = []
entries_by M mode H (Assign place x e rest) w =
    record { place = place; statement = Assign place x e Done; leaf = w.behind } ∷ entries_by M mode H rest (onto w (assigned M mode x e w.behind))
entries_by M mode H (Input place x rest) w =
    record { place = place; statement = Input place x Done; leaf = w.behind } ∷ entries_by M mode H rest (onto w (forgotten M x w.behind))
entries_by M mode H (Assert place e rest) w =
    record { place = place; statement = Assert place e Done; leaf = w.behind } ∷ entries_by M mode H rest (onto w (assumed M mode e true w.behind))
entries_by M mode H (If place e p q rest) w =
    let a = passed M mode H p (onto w (assumed M mode e true w.behind)) in
    record { place = place; statement = If place e p q Done; leaf = w.behind }
    ∷ (entries_by M mode H p (onto w (assumed M mode e true w.behind))
    ++ (entries_by M mode H q (onto a (assumed M mode e false w.behind))
    ++ entries_by M mode H rest (chosen M mode H e p q w)))
entries_by M mode H (While place e step body rest) w =
    let x = head_by M mode H place (TestFirst e step body) w.behind in
    record { place = place; statement = While place e step body Done; leaf = x }
    ∷ (entries_by M mode H step (enter (going_on M (through_body M mode H (TestFirst e step body) x)))
    ++ (entries_by M mode H body (enter (assumed M mode e true x))
    ++ entries_by M mode H rest (behind_by M mode H (TestFirst e step body) w x)))
entries_by M mode H (Do place body at e rest) w =
    let x = head_by M mode H place (TestLast body at e) w.behind in
    record { place = place; statement = Do place body at e Done; leaf = x }
    ∷ (entries_by M mode H body (enter x)
    ++ (record { place = at; statement = If at e Done Done Done; leaf = going_on M (through_body M mode H (TestLast body at e) x) }
    ∷ entries_by M mode H rest (behind_by M mode H (TestLast body at e) w x)))
entries_by M mode H (Leave place jump rest) w =
    record { place = place; statement = Leave place jump Done; leaf = w.behind } ∷ entries_by M mode H rest (leave_by M mode jump w)
entries_by M mode H (Block place body rest) w =
    record { place = place; statement = Block place body Done; leaf = w.behind }
    ∷ (entries_by M mode H body w ++ entries_by M mode H rest (passed M mode H body w))
entries_by M mode H (Skip place rest) w = record { place = place; statement = Skip place Done; leaf = w.behind } ∷ entries_by M mode H rest w
entries_by M mode H (Cond number p q rest) w = entries_by M mode H rest w

-- the statements in an analysis: each loop has its final leaf
abbrev pub entries_of : LeafMeaning → Options → Code → Ways → List Entry
entries_of M o code w = entries_by M o.mode (final_heads M o) code w

-- those in the two sides of a test
abbrev pub choice_entries : LeafMeaning → Options → Term → Code → Code → Ways → List Entry
choice_entries M o e p q w =
    let a = after_of M o p (onto w (assumed M o.mode e true w.behind)) in
    entries_of M o p (onto w (assumed M o.mode e true w.behind)) ++ entries_of M o q (onto a (assumed M o.mode e false w.behind))

-- those in a loop whose head has x
abbrev pub lap_entries : LeafMeaning → Options → LoopParts → LeafValue → List Entry
lap_entries M o (TestFirst test step body) x =
    entries_of M o step (enter (going_on M (through_body M o.mode (final_heads M o) (TestFirst test step body) x)))
    ++ entries_of M o body (enter (assumed M o.mode test true x))
lap_entries M o (TestLast body at test) x =
    entries_of M o body (enter x)
    ++ record { place = at; statement = If at test Done Done Done; leaf = going_on M (through_body M o.mode (final_heads M o) (TestLast body at test) x) } ∷ []
