-- The statements of a program by their places.
use Rattle.std.specs.Prelude.{◌≡◌, ℕ, List, [], ◌∷◌, ◌++◌, Option, Some, None, if◌then◌else◌}
use Rattle.c_tree.specs.Fit.{IsTermOf, IsStep, IsCodeOf}
use Rattle.c_tree.specs.Tree.{Code, Done, Assign, Input, Assert, If, While, Do, Leave, Block, Skip, Cond, Whole}
use Rattle.fam_outer.specs.declared.faults.Place.{Place}
use Rattle.plain_analysis.specs.declared.loops.Loop.{Loop}
use Rattle.plain_analysis.specs.Places.{is_same_place}
use Rattle.plain_analysis.specs.Statements.{LoopParts, TestFirst, TestLast}
use Rattle.plain_analysis.specs.View.{parts_of}

-- a statement, alone, and its place
pub record Statement : Type 0 where
  pub place : Place
  pub alone : Code

-- all statements, in the order of the text
abbrev pub statements_of : Code → List Statement
statements_of Done = []
statements_of (Assign place x e rest) = record { place = place; alone = Assign place x e Done } ∷ statements_of rest
statements_of (Input place x rest) = record { place = place; alone = Input place x Done } ∷ statements_of rest
statements_of (Assert place e rest) = record { place = place; alone = Assert place e Done } ∷ statements_of rest
statements_of (If place e p q rest) =
    record { place = place; alone = If place e p q Done } ∷ (statements_of p ++ (statements_of q ++ statements_of rest))
statements_of (While place e step body rest) =
    record { place = place; alone = While place e step body Done } ∷ (statements_of step ++ (statements_of body ++ statements_of rest))
statements_of (Do place body at e rest) =
    record { place = place; alone = Do place body at e Done } ∷ (statements_of body ++ record { place = at; alone = If at e Done Done Done } ∷ statements_of rest)
statements_of (Leave place jump rest) = record { place = place; alone = Leave place jump Done } ∷ statements_of rest
statements_of (Block place body rest) =
    record { place = place; alone = Block place body Done } ∷ (statements_of body ++ statements_of rest)
statements_of (Skip place rest) = record { place = place; alone = Skip place Done } ∷ statements_of rest
statements_of (Cond number p q rest) = statements_of p ++ (statements_of q ++ statements_of rest)

-- the first statement at a place
abbrev pub statement_in : List Statement → Place → Option Code
statement_in [] place = None
statement_in (s ∷ ss) place = if is_same_place s.place place then Some s.alone else statement_in ss place

-- a loop alone, at its place
abbrev pub alone_of : Place → LoopParts → Code
alone_of place (TestFirst test step body) = While place test step body Done
alone_of place (TestLast body at test) = Do place body at test Done

-- at the place the program has this loop
pub record IsLoopAt (p : Whole) (place : Place) (l : LoopParts) : Type 0 where
  pub stands : statement_in (statements_of p.body) place ≡ Some (alone_of place l)

-- the program has each loop of the code at its place
abbrev pub HasLoopsOf : Whole → Code → Type 0
HasLoopsOf p Done = Unit {0}
HasLoopsOf p (Assign place x e rest) = HasLoopsOf p rest
HasLoopsOf p (Input place x rest) = HasLoopsOf p rest
HasLoopsOf p (Assert place e rest) = HasLoopsOf p rest
HasLoopsOf p (If place e a b rest) = HasLoopsOf p a × HasLoopsOf p b × HasLoopsOf p rest
HasLoopsOf p (While place e step body rest) = IsLoopAt p place (TestFirst e step body) × HasLoopsOf p step × HasLoopsOf p body × HasLoopsOf p rest
HasLoopsOf p (Do place body at e rest) = IsLoopAt p place (TestLast body at e) × HasLoopsOf p body × HasLoopsOf p rest
HasLoopsOf p (Leave place jump rest) = HasLoopsOf p rest
HasLoopsOf p (Block place body rest) = HasLoopsOf p body × HasLoopsOf p rest
HasLoopsOf p (Skip place rest) = HasLoopsOf p rest
HasLoopsOf p (Cond number a b rest) = HasLoopsOf p a × HasLoopsOf p b × HasLoopsOf p rest

-- a part of a program over so many variables: its expressions are over them, and its loops are the program's
abbrev pub IsPartOf : ℕ → Whole → Code → Type 0
IsPartOf n p c = IsCodeOf n c × HasLoopsOf p c

-- the parts of a loop over so many variables
abbrev pub ArePartsOf : ℕ → LoopParts → Type 0
ArePartsOf n (TestFirst test step body) = IsTermOf n test × IsCodeOf n step × IsCodeOf n body × IsStep step
ArePartsOf n (TestLast body at test) = IsTermOf n test × IsCodeOf n body

-- the loops in a loop are the program's
abbrev pub HasLoopsIn : Whole → LoopParts → Type 0
HasLoopsIn p (TestFirst test step body) = HasLoopsOf p step × HasLoopsOf p body
HasLoopsIn p (TestLast body at test) = HasLoopsOf p body

-- a loop of a program over so many variables
pub record IsLoopOf (n : ℕ) (p : Whole) (l : Loop) : Type 0 where
  pub parts : ArePartsOf n (parts_of l.parts)
  pub loops : HasLoopsIn p (parts_of l.parts)
  pub here : IsLoopAt p l.place (parts_of l.parts)
