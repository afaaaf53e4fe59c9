-- The statements of a family, and the leaves with which they are entered.
use Rattle.std.specs.Prelude.{◌≡◌, ℕ, Bool, true, false, not, ◌&&◌, List, [], ◌∷◌, ◌++◌, map, if◌then◌else◌, slice_index_or, Option, Some, None}
use Rattle.std.specs.List.{All}
use Rattle.fam_outer.specs.declared.faults.Place.{Place}
use Rattle.c_tree.specs.declared.tree.Kind.{Kind}
use Rattle.c_tree.specs.declared.tree.Kind.TheVariants.{Overflow, ZeroDivisor, Assertion}
use Rattle.c_tree.specs.declared.tree.Mode.{Mode}
use Rattle.c_tree.specs.Tree.{Term, Code, Done, Assign, Input, Assert, If, While, Do, Leave, Block, Skip, Cond}
use Rattle.c_tree.specs.Project.{projected}
use Rattle.decision_tree.specs.declared.tree.Tree.{Tree}
use Rattle.decision_tree.specs.Listed.{IsNumberedTree}
use Rattle.decision_tree.specs.Numbered.{Numbered, erase}
use Rattle.decision_tree.specs.Plain.{Plain, leaf_of, HasTest}
use Rattle.decision_tree.specs.View.{numbered, plain}
use Rattle.leaf_domain.specs.Leaves.{LeafValue, LeafMeaning}
use Rattle.leaf_domain.specs.Transfer.{assumed, assigned, forgotten}
use Rattle.leaf_domain.specs.Stops.{is_of_value, may_term, may_at}
use Rattle.plain_analysis.specs.Statements.{Heads, LoopParts, TestFirst, TestLast, passed, chosen, through_body, lap, head_by, behind_by}
use Rattle.plain_analysis.specs.declared.ways.Ways as rust
use Rattle.plain_analysis.specs.Ways.{Ways, onto, enter, leave_by, going_on}
use Rattle.lifted_analysis.specs.declared.noted.Noted.{Noted}
use Rattle.lifted_analysis.specs.declared.noted.TurnTree.{TurnTree}
use Rattle.lifted_analysis.specs.declared.family_context.FamilyContext.{FamilyContext}
use Rattle.lifted_analysis.specs.declared.findings.PlaceTree.{PlaceTree}
use Rattle.lifted_analysis.specs.declared.findings.AlarmTree.{AlarmTree}
use Rattle.lifted_analysis.specs.Rules.{heads_where, head_with}
use Rattle.lifted_analysis.specs.States.{IsTest, IsSized, truths_in, ways_at}
use Rattle.lifted_analysis.specs.Steps.{kept_by, parts_at}
use Rattle.lifted_analysis.specs.Turns.{Turn}

-- a statement, alone, the leaf at its place, and for a loop the leaf with which it is entered and what a lap makes of its head's
pub record Visit : Type 0 where
  pub place : Place
  pub statement : Code
  pub leaf : LeafValue
  pub turn : Option (LeafValue × LeafValue)

-- a statement that is no loop
abbrev pub plain_visit : Place → Code → LeafValue → Visit
plain_visit place s x = record { place = place; statement = s; leaf = x; turn = None }

-- whether the test of a loop, where it stands last, may stop with the kind
abbrev pub test_may : LeafMeaning → Mode → Kind → Term → LeafValue → Bool
test_may M mode kind e x = is_of_value kind && may_term M mode kind e x

-- a loop of a family's list that is entered with x
abbrev pub loop_visit : LeafMeaning → Mode → List Bool → Heads → Place → Code → LoopParts → LeafValue → Visit
loop_visit M mode ts H place s l x =
    let y = head_by M mode H place (parts_at ts l) x in
    record { place = place; statement = s; leaf = y; turn = Some (x, lap M mode H (parts_at ts l) y) }

-- what the body of a loop of a family makes of the head's leaf
abbrev pub body_at : LeafMeaning → Mode → List Bool → Heads → LoopParts → LeafValue → Ways
body_at M mode ts H l y = through_body M mode H (parts_at ts l) y

-- the lists of a section of groups where its condition has this truth: each with its own heads, and Nothing where it is not kept
abbrev pub first_group : LeafMeaning → Mode → List Bool → Heads → Bool → Code → Ways → Ways
first_group M mode ts H b p w = passed M mode (heads_where b H) (projected ts p) (onto w (kept_by true b w.behind))

-- all statements of a family's list, in the order of the text, where the conditions have these truths and loops these heads; a
-- statement that is not kept there has Nothing
abbrev pub visits_at : LeafMeaning → Mode → List Bool → Heads → Code → Ways → List Visit
visits_at M mode ts H Done w = []
visits_at M mode ts H (Assign place y e rest) w =
    plain_visit place (Assign place y e Done) w.behind ∷ visits_at M mode ts H rest (onto w (assigned M mode y e w.behind))
visits_at M mode ts H (Input place y rest) w =
    plain_visit place (Input place y Done) w.behind ∷ visits_at M mode ts H rest (onto w (forgotten M y w.behind))
visits_at M mode ts H (Assert place e rest) w =
    plain_visit place (Assert place e Done) w.behind ∷ visits_at M mode ts H rest (onto w (assumed M mode e true w.behind))
visits_at M mode ts H (If place e p q rest) w =
    let a = passed M mode H (projected ts p) (onto w (assumed M mode e true w.behind)) in
    plain_visit place (If place e p q Done) w.behind
    ∷ (visits_at M mode ts H p (onto w (assumed M mode e true w.behind))
    ++ (visits_at M mode ts H q (onto a (assumed M mode e false w.behind))
    ++ visits_at M mode ts H rest (chosen M mode H e (projected ts p) (projected ts q) w)))
visits_at M mode ts H (While place e step body rest) w =
    let l = TestFirst e step body in
    let y = head_by M mode H place (parts_at ts l) w.behind in
    loop_visit M mode ts H place (While place e step body Done) l w.behind
    ∷ (visits_at M mode ts H step (enter (going_on M (body_at M mode ts H l y)))
    ++ (visits_at M mode ts H body (enter (assumed M mode e true y))
    ++ visits_at M mode ts H rest (behind_by M mode H (parts_at ts l) w y)))
visits_at M mode ts H (Do place body at e rest) w =
    let l = TestLast body at e in
    let y = head_by M mode H place (parts_at ts l) w.behind in
    loop_visit M mode ts H place (Do place body at e Done) l w.behind
    ∷ (visits_at M mode ts H body (enter y)
    ++ (plain_visit at (If at e Done Done Done) (going_on M (body_at M mode ts H l y))
    ∷ visits_at M mode ts H rest (behind_by M mode H (parts_at ts l) w y)))
visits_at M mode ts H (Leave place jump rest) w =
    plain_visit place (Leave place jump Done) w.behind ∷ visits_at M mode ts H rest (leave_by M mode jump w)
visits_at M mode ts H (Block place body rest) w =
    plain_visit place (Block place body Done) w.behind
    ∷ (visits_at M mode ts H body w ++ visits_at M mode ts H rest (passed M mode H (projected ts body) w))
visits_at M mode ts H (Skip place rest) w = plain_visit place (Skip place Done) w.behind ∷ visits_at M mode ts H rest w
visits_at M mode ts H (Cond number p q rest) w =
    let b = slice_index_or ts number false in
    visits_at M mode ts (heads_where b H) p (onto w (kept_by true b w.behind))
    ++ (visits_at M mode ts (heads_where (not b) H) q (onto (first_group M mode ts H b p w) (kept_by false b w.behind))
    ++ visits_at M mode ts H rest (passed M mode H (if b then projected ts p else projected ts q) w))

-- the places of statements with their leaves
abbrev pub leaves_in : List Visit → List (Place × LeafValue)
leaves_in [] = []
leaves_in (e ∷ es) = (e.place, e.leaf) ∷ leaves_in es

-- whether each statement may stop, by kind
abbrev pub stops_in : LeafMeaning → Mode → List Visit → List ((Place × Kind) × Bool)
stops_in M mode [] = []
stops_in M mode (e ∷ es) =
    ((e.place, Overflow), may_at M mode Overflow e.statement e.leaf)
    ∷ (((e.place, ZeroDivisor), may_at M mode ZeroDivisor e.statement e.leaf)
    ∷ (((e.place, Assertion), may_at M mode Assertion e.statement e.leaf) ∷ stops_in M mode es))

-- the loops
abbrev pub turn_of : Place → LeafValue → Option (LeafValue × LeafValue) → List Turn
turn_of place leaf None = []
turn_of place leaf (Some t) = record { place = place; entered = t.0; head = leaf; again = t.1 } ∷ []

abbrev pub turns_in : List Visit → List Turn
turns_in [] = []
turns_in (e ∷ es) = turn_of e.place e.leaf e.turn ++ turns_in es

-- what a tree of a place and an alarm tree say of a vector
abbrev pub leaf_there : {L : Type 0} → (L → LeafValue) → List Bool → PlaceTree L → Place × LeafValue
leaf_there value v p = (p.place, value (leaf_of (plain p.tree) v))

abbrev pub stop_there : List Bool → AlarmTree → (Place × Kind) × Bool
stop_there v a = ((a.place, a.kind), leaf_of (plain a.tree) v)

abbrev pub turn_there : {L : Type 0} → (L → LeafValue) → List Bool → TurnTree L → Turn
turn_there value v t = record {
  place = t.place;
  entered = value (leaf_of (plain t.entered) v);
  head = value (leaf_of (plain t.head) v);
  again = value (leaf_of (plain t.again) v);
}

-- the three trees of a loop are states, of any forest
pub record IsSizedTurn {L : Type 0} (value : L → LeafValue) (family : FamilyContext) (t : TurnTree L) : Type 0 where
  pub entered : IsSized value family (numbered t.entered)
  pub head : IsSized value family (numbered t.head)
  pub again : IsSized value family (numbered t.again)

abbrev pub AreSized : {L : Type 0} → (L → LeafValue) → FamilyContext → List (TurnTree L) → Type 0
AreSized {L} value family ts = All (λ (t : TurnTree L). IsSizedTurn value family t) ts

-- a reduced tree with numbers, whose tests are the family's
pub record IsReducedTree {L : Type 0} (family : FamilyContext) (t : Numbered L) : Type 0 where
  pub tree : IsNumberedTree 0 320 t
  pub tests : (k : ℕ) → HasTest k (erase t) → IsTest family k

abbrev pub AreReduced : {L : Type 0} → FamilyContext → List (PlaceTree L) → Type 0
AreReduced {L} family ps = All (λ (p : PlaceTree L). IsReducedTree family (numbered p.tree)) ps

abbrev pub AreReducedStops : FamilyContext → List AlarmTree → Type 0
AreReducedStops family stops = All (λ (a : AlarmTree). IsReducedTree family (numbered a.tree)) stops

-- the statements of a list behind what was passed, at each vector
abbrev pub entered_with : {L : Type 0} → (L → LeafValue) → LeafMeaning → FamilyContext → (List Bool → Heads) → Code → rust.Ways (Tree L) → List Bool → List Visit
entered_with value M family H c w v = visits_at M family.options.now.mode (truths_in family.choices.now v) (H v) c (ways_at value w v)

-- those of two lists, one after the other, each with its own heads, of which the second is entered with what y has
abbrev pub visits_both : LeafMeaning → Mode → List Bool → Heads → Heads → Code → Code → Ways → LeafValue → List Visit
visits_both M mode ts H K p q w y = visits_at M mode ts H p w ++ visits_at M mode ts K q (onto (passed M mode H (projected ts p) w) y)

abbrev pub entered_both : {L : Type 0} → (L → LeafValue) → LeafMeaning → FamilyContext → (List Bool → Heads) → (List Bool → Heads) → Code → Code → rust.Ways (Tree L) → Plain L → List Bool → List Visit
entered_both value M family H K p q w y v =
    visits_both M family.options.now.mode (truths_in family.choices.now v) (H v) (K v) p q (ways_at value w v) (value (leaf_of y v))

-- those of the two sides of a test, and of the two lists of a section of groups
abbrev pub entered_sides : {L : Type 0} → (L → LeafValue) → LeafMeaning → FamilyContext → (List Bool → Heads) → Term → Code → Code → rust.Ways (Tree L) → List Bool → List Visit
entered_sides value M family H test p q ways v =
    let mode = family.options.now.mode in
    let w = ways_at value ways v in
    visits_both M mode (truths_in family.choices.now v) (H v) (H v) p q (onto w (assumed M mode test true w.behind)) (assumed M mode test false w.behind)

abbrev pub entered_group : {L : Type 0} → (L → LeafValue) → LeafMeaning → FamilyContext → (List Bool → Heads) → Plain Bool → Code → Code → rust.Ways (Tree L) → List Bool → List Visit
entered_group value M family H choice p q ways v =
    let mode = family.options.now.mode in
    let b = leaf_of choice v in
    let w = ways_at value ways v in
    visits_both M mode (truths_in family.choices.now v) (heads_where b (H v)) (heads_where (not b) (H v)) p q (onto w (kept_by true b w.behind)) (kept_by false b w.behind)

-- the statements in a loop whose head has this leaf at a vector
abbrev pub visits_in : LeafMeaning → Mode → List Bool → Heads → LoopParts → LeafValue → List Visit
visits_in M mode ts H (TestFirst test step body) y =
    visits_at M mode ts H step (enter (going_on M (body_at M mode ts H (TestFirst test step body) y)))
    ++ visits_at M mode ts H body (enter (assumed M mode test true y))
visits_in M mode ts H (TestLast body at test) y =
    visits_at M mode ts H body (enter y)
    ++ plain_visit at (If at test Done Done Done) (going_on M (body_at M mode ts H (TestLast body at test) y)) ∷ []

abbrev pub entered_lap : {L : Type 0} → (L → LeafValue) → LeafMeaning → FamilyContext → (List Bool → Heads) → LoopParts → Plain L → List Bool → List Visit
entered_lap value M family H l head v = visits_in M family.options.now.mode (truths_in family.choices.now v) (H v) l (value (leaf_of head v))

-- a loop and the statements in it
abbrev pub entered_loop : {L : Type 0} → (L → LeafValue) → LeafMeaning → FamilyContext → (List Bool → Heads) → Code → Place → LoopParts → Plain L → List Bool → List Visit
entered_loop value M family H s place l t v =
    let mode = family.options.now.mode in
    let ts = truths_in family.choices.now v in
    loop_visit M mode ts (H v) place s l (value (leaf_of t v))
    ∷ visits_in M mode ts (H v) l (head_with M family H place l v (value (leaf_of t v)))

-- these statements, each with its tree and its alarm trees, the loops among them, and nothing else
pub record HasEntered {L : Type 0} (value : L → LeafValue) (M : LeafMeaning) (family : FamilyContext) (before now : Noted L) (entries : List Bool → List Visit) : Type 0 where
  pub leaves : (v : List Bool) → map (leaf_there value v) now.places.items ≡ map (leaf_there value v) before.places.items ++ leaves_in (entries v)
  pub stops : (v : List Bool) → map (stop_there v) now.alarms.items ≡ map (stop_there v) before.alarms.items ++ stops_in M family.options.now.mode (entries v)
  pub turns : (v : List Bool) → map (turn_there value v) now.turns.items ≡ map (turn_there value v) before.turns.items ++ turns_in (entries v)
  pub trees : AreReduced family before.places.items → AreReduced family now.places.items
  pub alarm_trees : AreReducedStops family before.alarms.items → AreReducedStops family now.alarms.items
  pub sized : AreSized value family before.turns.items → AreSized value family now.turns.items
