-- What contracts see of a state and of what a run answers.
use Rattle.std.specs.Prelude.{ℕ, ◌+◌, ◌<◌, ℤ, Bool, if◌then◌else◌, List, [], ◌∷◌, map, reverse, slice_set, take, length, ◌-◌}
use Rattle.c_tree.specs.Tree.{Code, Done, Assign, Input, Assert, If, While, Do, Leave, Block, Skip, Cond, Break, Continue, followed}
use Rattle.c_tree.specs.View.{term, front, code}
use Rattle.c_tree.specs.declared.tree.Stmt.{Stmt}
use Rattle.c_tree.specs.declared.tree.Stmt.TheOpen as stmt
use Rattle.c_tree.specs.declared.tree.Stmt.TheOpen.{Stmt-F}
use Rattle.c_tree.specs.declared.tree.Stmt.TheViews.{out-Stmt}
use Rattle.run_meaning.specs.declared.machine.State.{State}
use Rattle.run_meaning.specs.declared.levels.Level as rust
use Rattle.run_meaning.specs.declared.plan.Change.{Change}
use Rattle.run_meaning.specs.declared.plan.Change.TheVariants as change
use Rattle.run_meaning.specs.declared.plan.Plan.{Plan}
use Rattle.run_meaning.specs.declared.plan.Plan.TheVariants as plan
use Rattle.run_meaning.specs.declared.machine.Progress.{Progress}
use Rattle.run_meaning.specs.declared.machine.Progress.TheVariants as progress
use Rattle.run_meaning.specs.declared.machine.RunEnd.{RunEnd}
use Rattle.run_meaning.specs.declared.machine.RunEnd.TheVariants as end
use Rattle.c_tree.specs.Run as run
use Rattle.c_tree.specs.Run.{Level, Standing, Outcome, End, settled}

-- a stack of statements whose last one comes first, in front of a list
abbrev pub stacked : List (Code → Code) → Code → Code
stacked [] rest = rest
stacked (piece ∷ pieces) rest = stacked pieces (piece rest)

-- the statements of a stack, the last one first
unfoldable pub pile : List Stmt → Code
pile items = stacked (map front items) Done

-- the same without the first statement
unfoldable pub below : List Stmt → Code
below items = stacked (map front (take (length items - 1) items)) Done

-- a loop that is entered; behind it stands what is done again, without what is the loop's own
abbrev pub level_of : rust.Level → Level
level_of l = record { again = pile l.again.items; out = pile (take (length l.again.items - l.skipped) l.again.items) }

-- the loops of a stack whose last one is the innermost
unfoldable pub nest : List rust.Level → List Level
nest items = map level_of (reverse items)

abbrev pub standing : State → Standing
standing s = run.standing (pile s.todo.items) (nest s.levels.items) s.store.items s.taken

-- what a step answers
abbrev pub progress_of : Outcome → Progress
progress_of (run.Moved next) = progress.Moved
progress_of (run.Stopped place kind) = progress.Stopped place kind
progress_of (run.Waiting place) = progress.Waiting place
progress_of run.Ended = progress.Ended

-- what a step leaves: what was there, unless it moved
abbrev pub left_by : Outcome → Standing → Standing
left_by (run.Moved next) old = settled next
left_by (run.Stopped place kind) old = old
left_by (run.Waiting place) old = old
left_by run.Ended old = old

-- the end that a run answers
abbrev pub end_of : RunEnd → End
end_of (end.At place store) = run.AtEnd place store
end_of (end.Stopped place kind) = run.StoppedEnd place kind
end_of (end.Waiting place store) = run.WaitingEnd place store
end_of (end.Ended store) = run.EndedEnd store

-- the list that comes in a statement's place: of an `if` one side, of a block its body; no other statement has one
abbrev pub inner : Bool → Stmt-F Stmt → List Stmt
inner first (stmt.Assign place target value) = []
inner first (stmt.Input place target) = []
inner first (stmt.Assert place test) = []
inner first (stmt.If place test p q) = if first then p.items else q.items
inner first (stmt.While place test step body) = []
inner first (stmt.Do place body test_place test) = []
inner first (stmt.Leave place jump) = []
inner first (stmt.Block place body) = body.items
inner first (stmt.Skip place) = []
inner first (stmt.Cond number p q) = []

abbrev pub list_of : Bool → Stmt → List Stmt
list_of first s = inner first (out-Stmt s)

-- a list of statements with that list in place of the first one
abbrev pub opened : Bool → Code → Code
opened first Done = Done
opened first (Assign place target value rest) = rest
opened first (Input place target rest) = rest
opened first (Assert place test rest) = rest
opened first (If place test p q rest) = followed (if first then p else q) rest
opened first (While place test step body rest) = rest
opened first (Do place body at test rest) = rest
opened first (Leave place jump rest) = rest
opened first (Block place body rest) = followed body rest
opened first (Skip place rest) = rest
opened first (Cond number p q rest) = rest

-- the first statement of a list, alone
abbrev pub alone : Code → Code
alone Done = Done
alone (Assign place target value rest) = Assign place target value Done
alone (Input place target rest) = Input place target Done
alone (Assert place test rest) = Assert place test Done
alone (If place test p q rest) = If place test p q Done
alone (While place test step body rest) = While place test step body Done
alone (Do place body at test rest) = Do place body at test Done
alone (Leave place jump rest) = Leave place jump Done
alone (Block place body rest) = Block place body Done
alone (Skip place rest) = Skip place Done
alone (Cond number p q rest) = Cond number p q Done

-- where a change leads: rest is what follows the first statement, and all is the list with it
abbrev pub changed : Change → Code → Code → List Level → List ℤ → ℕ → Standing
changed (change.Set target n) rest all levels store taken = run.standing rest levels (slice_set store target n) taken
changed (change.Take target n) rest all levels store taken = run.standing rest levels (slice_set store target n) (taken + 1)
changed change.Pass rest all levels store taken = run.standing rest levels store taken
changed (change.Open first) rest all levels store taken = run.standing (opened first all) levels store taken
changed (change.Round step body) rest all levels store taken =
    run.standing (code body.items) (record { again = followed (code step.items) all; out = rest } ∷ levels) store taken
changed (change.DoRound body place test) rest all levels store taken =
    run.standing (code body.items) (record { again = If place (term test) (alone all) Done rest; out = rest } ∷ levels) store taken
changed change.Break rest all levels store taken = run.left_by Break levels store taken
changed change.Continue rest all levels store taken = run.left_by Continue levels store taken
changed change.Finish rest all levels store taken = run.standing Done [] store taken

-- what a plan for the first statement comes to
abbrev pub performed : Plan → Code → Code → List Level → List ℤ → ℕ → Outcome
performed (plan.Move it) rest all levels store taken = run.Moved (changed it rest all levels store taken)
performed (plan.Stop place kind) rest all levels store taken = run.Stopped place kind
performed (plan.Wait place) rest all levels store taken = run.Waiting place

-- a change writes only variables below a count, and takes only an input that is there
abbrev pub IsChangeWithin : ℕ → ℕ → Change → Type 0
IsChangeWithin count left (change.Set target n) = target < count
IsChangeWithin count left (change.Take target n) = (target < count) × (0 < left)
IsChangeWithin count left change.Pass = Unit {0}
IsChangeWithin count left (change.Open first) = Unit {0}
IsChangeWithin count left (change.Round step body) = Unit {0}
IsChangeWithin count left (change.DoRound body place test) = Unit {0}
IsChangeWithin count left change.Break = Unit {0}
IsChangeWithin count left change.Continue = Unit {0}
IsChangeWithin count left change.Finish = Unit {0}

abbrev pub IsWithin : ℕ → ℕ → Plan → Type 0
IsWithin count left (plan.Move it) = IsChangeWithin count left it
IsWithin count left (plan.Stop place kind) = Unit {0}
IsWithin count left (plan.Wait place) = Unit {0}
