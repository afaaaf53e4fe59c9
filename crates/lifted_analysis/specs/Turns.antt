-- The loops of a pass: the leaf that enters each, that at its head, and what a lap makes of it.
use Rattle.std.specs.Prelude.{◌≡◌, ◌++◌, Bool, true, false, ◌&&◌, if◌then◌else◌, List, [], ◌∷◌}
use Rattle.std.specs.List.{All}
use Rattle.fam_outer.specs.declared.faults.Place.{Place}
use Rattle.c_tree.specs.declared.tree.Mode.{Mode}
use Rattle.c_tree.specs.Tree.{Code, Done, Assign, Input, Assert, If, While, Do, Leave, Block, Skip, Cond}
use Rattle.leaf_domain.specs.Leaves.{LeafValue, LeafMeaning}
use Rattle.leaf_domain.specs.Transfer.{assumed, assigned, forgotten}
use Rattle.plain_analysis.specs.Places.{is_same_place}
use Rattle.plain_analysis.specs.Statements.{Heads, TestFirst, TestLast, passed, chosen, through_body, lap, head_by, behind_by}
use Rattle.plain_analysis.specs.Ways.{Ways, onto, enter, leave_by, going_on}

-- a loop of a pass: the leaf with which it is entered, that at its head, and what a lap makes of it
pub record Turn : Type 0 where
  pub place : Place
  pub entered : LeafValue
  pub head : LeafValue
  pub again : LeafValue

-- all loops of a list of statements, in the order of the text, each passed once from its head
abbrev pub turns_by : LeafMeaning → Mode → Heads → Code → Ways → List Turn
turns_by M mode H Done w = []
turns_by M mode H (Assign place x e rest) w = turns_by M mode H rest (onto w (assigned M mode x e w.behind))
turns_by M mode H (Input place x rest) w = turns_by M mode H rest (onto w (forgotten M x w.behind))
turns_by M mode H (Assert place e rest) w = turns_by M mode H rest (onto w (assumed M mode e true w.behind))
turns_by M mode H (If place e p q rest) w =
    let a = passed M mode H p (onto w (assumed M mode e true w.behind)) in
    turns_by M mode H p (onto w (assumed M mode e true w.behind))
    ++ (turns_by M mode H q (onto a (assumed M mode e false w.behind))
    ++ turns_by M mode H rest (chosen M mode H e p q w))
turns_by M mode H (While place e step body rest) w =
    let l = TestFirst e step body in
    let x = head_by M mode H place l w.behind in
    record { place = place; entered = w.behind; head = x; again = lap M mode H l x }
    ∷ (turns_by M mode H step (enter (going_on M (through_body M mode H l x)))
    ++ (turns_by M mode H body (enter (assumed M mode e true x))
    ++ turns_by M mode H rest (behind_by M mode H l w x)))
turns_by M mode H (Do place body at e rest) w =
    let l = TestLast body at e in
    let x = head_by M mode H place l w.behind in
    record { place = place; entered = w.behind; head = x; again = lap M mode H l x }
    ∷ (turns_by M mode H body (enter x) ++ turns_by M mode H rest (behind_by M mode H l w x))
turns_by M mode H (Leave place jump rest) w = turns_by M mode H rest (leave_by M mode jump w)
turns_by M mode H (Block place body rest) w = turns_by M mode H body w ++ turns_by M mode H rest (passed M mode H body w)
turns_by M mode H (Skip place rest) w = turns_by M mode H rest w
turns_by M mode H (Cond number p q rest) w = turns_by M mode H rest w

-- a loop's head has what enters the loop, and what a lap makes of the head's, below it
abbrev pub is_inductive : LeafMeaning → Turn → Bool
is_inductive M t = M.leq t.entered t.head && M.leq t.again t.head

abbrev pub AreInductive : LeafMeaning → List Turn → Type 0
AreInductive M ts = All (λ (t : Turn). is_inductive M t ≡ true) ts

-- whether the first loop at a place is inductive; where there is none, it is
abbrev pub inductive_in : LeafMeaning → List Turn → Place → Bool
inductive_in M [] place = true
inductive_in M (t ∷ ts) place = if is_same_place t.place place then is_inductive M t else inductive_in M ts place

-- the places of loops, in the order of the text
abbrev pub loop_places : Code → List Place
loop_places Done = []
loop_places (Assign place x e rest) = loop_places rest
loop_places (Input place x rest) = loop_places rest
loop_places (Assert place e rest) = loop_places rest
loop_places (If place e p q rest) = loop_places p ++ (loop_places q ++ loop_places rest)
loop_places (While place e step body rest) = place ∷ (loop_places step ++ (loop_places body ++ loop_places rest))
loop_places (Do place body at e rest) = place ∷ (loop_places body ++ loop_places rest)
loop_places (Leave place jump rest) = loop_places rest
loop_places (Block place body rest) = loop_places body ++ loop_places rest
loop_places (Skip place rest) = loop_places rest
loop_places (Cond number p q rest) = loop_places p ++ (loop_places q ++ loop_places rest)
