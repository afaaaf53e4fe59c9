-- Runs of a plain program, step by step (ISO/IEC 9899:2011, 6.8).
use Rattle.std.specs.Prelude.{ℕ, zero, suc, ◌+◌, ℤ, List, [], ◌∷◌, Result, Ok, Err, Option, Some, None, slice_get, slice_set, length, if◌then◌else◌}
use Rattle.std.specs.List.{All}
use Rattle.c_tree.specs.declared.tree.Kind.{Kind}
use Rattle.c_tree.specs.declared.tree.Kind.TheVariants.{Assertion}
use Rattle.c_tree.specs.declared.tree.Mode.{Mode}
use Rattle.fam_outer.specs.declared.faults.Place.{Place}
use Rattle.c_tree.specs.Tree.{Term, Jump, Break, Continue, Return, Code, Done, Assign, Input, Assert, If, While, Do, Leave, Block, Skip, Cond, followed, Whole}
use Rattle.c_tree.specs.Value.{value_of, is_zero, IsInt}
use Rattle.c_tree.specs.Fit.{IsCodeOf, IsPlain}

-- a loop that is entered: what is done when its body is over or goes on, and what stands behind the loop
pub record Level : Type 0 where
  pub again : Code
  pub out : Code

-- where a run stands: the statements still to do, the loops that are entered, the innermost first, the store, and how many inputs
-- were taken
pub record Standing : Type 0 where
  pub todo : Code
  pub levels : List Level
  pub store : List ℤ
  pub taken : ℕ

abbrev pub standing : Code → List Level → List ℤ → ℕ → Standing
standing code levels store taken = record { todo = code; levels = levels; store = store; taken = taken }

-- the first, unless the list of statements is over
abbrev pub unless_over : Code → Standing → Standing → Standing
unless_over Done here up = up
unless_over (Assign place target value rest) here up = here
unless_over (Input place target rest) here up = here
unless_over (Assert place test rest) here up = here
unless_over (If place test p q rest) here up = here
unless_over (While place test step body rest) here up = here
unless_over (Do place body at test rest) here up = here
unless_over (Leave place jump rest) here up = here
unless_over (Block place body rest) here up = here
unless_over (Skip place rest) here up = here
unless_over (Cond number p q rest) here up = here

-- where a run goes on that has nothing left to do in front of these levels
abbrev pub above : List Level → List ℤ → ℕ → Standing
above [] store taken = standing Done [] store taken
above (l ∷ ls) store taken = unless_over l.again (standing l.again ls store taken) (above ls store taken)

-- the same standing with no loop whose body is over; leaving it counts no step
abbrev pub settled : Standing → Standing
settled s = unless_over s.todo s (above s.levels s.store s.taken)

-- the level of a loop with its test first, and of one with its test last
abbrev pub while_level : Place → Term → Code → Code → Code → Level
while_level place test step body rest = record { again = followed step (While place test step body rest); out = rest }

abbrev pub do_level : Place → Code → Place → Term → Code → Level
do_level place body at test rest = record { again = If at test (Do place body at test Done) Done rest; out = rest }

-- what one step comes to
pub data Outcome : Type 0 where
  Moved : Standing → Outcome
  Stopped : Place → Kind → Outcome
  Waiting : Place → Outcome
  Ended : Outcome

-- goes on with a number, or stops
abbrev pub with_value : Place → Result ℤ Kind → (ℤ → Outcome) → Outcome
with_value place (Ok n) go = go n
with_value place (Err kind) go = Stopped place kind

-- goes on with the next input, or waits for it
abbrev pub with_input : Place → Option ℤ → (ℤ → Outcome) → Outcome
with_input place (Some n) go = go n
with_input place None go = Waiting place

-- where a jump leads; the readers let none that needs a loop stand outside loops
abbrev pub left_by : Jump → List Level → List ℤ → ℕ → Standing
left_by Break [] store taken = standing Done [] store taken
left_by Break (l ∷ ls) store taken = standing l.out ls store taken
left_by Continue [] store taken = standing Done [] store taken
left_by Continue (l ∷ ls) store taken = standing l.again ls store taken
left_by (Return e) levels store taken = standing Done [] store taken

abbrev pub leave_of : Mode → Place → Jump → List Level → List ℤ → ℕ → Outcome
leave_of mode place Break levels store taken = Moved (left_by Break levels store taken)
leave_of mode place Continue levels store taken = Moved (left_by Continue levels store taken)
leave_of mode place (Return e) levels store taken = with_value place (value_of e store mode) (λ n. Moved (left_by (Return e) levels store taken))

-- one step, from statements, the loops that are entered, a store and a number of inputs taken
abbrev pub step_of : Mode → List ℤ → Code → List Level → List ℤ → ℕ → Outcome
step_of mode inputs Done levels store taken = Ended
step_of mode inputs (Assign place target value rest) levels store taken =
    with_value place (value_of value store mode) (λ n. Moved (standing rest levels (slice_set store target n) taken))
step_of mode inputs (Input place target rest) levels store taken =
    with_input place (slice_get inputs taken) (λ n. Moved (standing rest levels (slice_set store target n) (taken + 1)))
step_of mode inputs (Assert place test rest) levels store taken =
    with_value place (value_of test store mode) (λ n. if is_zero n then Stopped place Assertion else Moved (standing rest levels store taken))
step_of mode inputs (If place test p q rest) levels store taken =
    with_value place (value_of test store mode) (λ n. Moved (standing (followed (if is_zero n then q else p) rest) levels store taken))
step_of mode inputs (While place test step body rest) levels store taken =
    with_value place (value_of test store mode)
    (λ n. Moved (if is_zero n then standing rest levels store taken else standing body (while_level place test step body rest ∷ levels) store taken))
step_of mode inputs (Do place body at test rest) levels store taken = Moved (standing body (do_level place body at test rest ∷ levels) store taken)
step_of mode inputs (Leave place jump rest) levels store taken = leave_of mode place jump levels store taken
step_of mode inputs (Block place body rest) levels store taken = Moved (standing (followed body rest) levels store taken)
step_of mode inputs (Skip place rest) levels store taken = Moved (standing rest levels store taken)
-- a plain program has no such statement
step_of mode inputs (Cond number p q rest) levels store taken = Ended

-- what a standing comes to by one step
abbrev pub next_of : Mode → List ℤ → Standing → Outcome
next_of mode inputs s = step_of mode inputs s.todo s.levels s.store s.taken

-- how a run of a bounded number of steps ends
pub data End : Type 0 where
  AtEnd : Place → List ℤ → End
  StoppedEnd : Place → Kind → End
  WaitingEnd : Place → List ℤ → End
  EndedEnd : List ℤ → End

-- after the last step that is allowed
abbrev pub cut_of : Code → List ℤ → End
cut_of Done store = EndedEnd store
cut_of (Assign place target value rest) store = AtEnd place store
cut_of (Input place target rest) store = AtEnd place store
cut_of (Assert place test rest) store = AtEnd place store
cut_of (If place test p q rest) store = AtEnd place store
cut_of (While place test step body rest) store = AtEnd place store
cut_of (Do place body at test rest) store = AtEnd place store
cut_of (Leave place jump rest) store = AtEnd place store
cut_of (Block place body rest) store = AtEnd place store
cut_of (Skip place rest) store = AtEnd place store
cut_of (Cond number p q rest) store = EndedEnd store

-- goes on after a step that moved
abbrev pub onward : Outcome → List ℤ → (Standing → End) → End
onward (Moved s) store go = go (settled s)
onward (Stopped place kind) store go = StoppedEnd place kind
onward (Waiting place) store go = WaitingEnd place store
onward Ended store go = EndedEnd store

-- at most n steps, from a standing with no loop whose body is over
abbrev pub steps_of : Mode → List ℤ → ℕ → Standing → End
steps_of mode inputs zero s = cut_of s.todo s.store
steps_of mode inputs (suc n) s = onward (next_of mode inputs s) s.store (steps_of mode inputs n)

-- where a program begins
abbrev pub start_of : Whole → Standing
start_of p = standing p.body [] p.start 0

-- at most n steps from the start of a program
abbrev pub run_of : Whole → List ℤ → ℕ → Mode → End
run_of p inputs n mode = steps_of mode inputs n (start_of p)

-- a level of a plain program over so many variables
pub record IsFitLevel (count : ℕ) (l : Level) : Type 0 where
  pub again : IsCodeOf count l.again
  pub again_plain : IsPlain l.again
  pub out : IsCodeOf count l.out
  pub out_plain : IsPlain l.out

-- a standing of a plain program whose variables are those of the store
pub record IsFit (s : Standing) : Type 0 where
  pub names : IsCodeOf (length s.store) s.todo
  pub plain : IsPlain s.todo
  pub levels : All (IsFitLevel (length s.store)) s.levels
  pub ints : All IsInt s.store
