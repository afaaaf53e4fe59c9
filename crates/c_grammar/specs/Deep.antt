-- Reading item by item with limits on what is open: at most 64 statements and groups around a statement or a group, and
-- at most 64 operators and opening parentheses in one expression.
use Rattle.std.specs.Prelude.{◌+◌, ℕ, suc, Bool, true, false, ◌&&◌, ◌||◌, nat_le, List, [], ◌∷◌, length, Option, Some, None, Result, Ok, Err, if◌then◌else◌}
use Rattle.c_grammar.specs.declared.items.Sign.{Sign}
use Rattle.c_grammar.specs.declared.items.Sign.TheVariants as signs
use Rattle.c_grammar.specs.declared.items.Item.{Item}
use Rattle.c_grammar.specs.Grammar.{File}
use Rattle.c_grammar.specs.Machine.{Stack, Top, Braces, Yes, No, ThenOf, ElseOf, LoopOf, DoOf, Onward, InList, AtTest, Sections, guards_of, Tailing, Another, Final, ReadingState, Outside, Ready, Ended, Wants, Has, TestComes, RedoComes, Over, step, finish, placed}

-- ---- statements and groups

-- how many are around what comes in a list or a statement; each `#elif` counts as one more in its section
abbrev pub depth : Stack → ℕ
depth (Top ds made) = 0
depth (Braces p made outer) = suc (depth outer)
depth (Yes links n made outer) = suc (length links) + depth outer
depth (No links n first made outer) = suc (length links) + depth outer
depth (ThenOf p e outer) = suc (depth outer)
depth (ElseOf p e first outer) = suc (depth outer)
depth (LoopOf start p e advance outer) = suc (depth outer)
depth (DoOf p outer) = suc (depth outer)

-- the same behind a statement: nothing is opened before the test of a `do`
abbrev pub onward_depth : Onward → ℕ
onward_depth (InList outer) = depth outer
onward_depth (AtTest p c outer) = 0

-- the same around declarations, where each `#if` and `#elif` so far has left a guard
abbrev pub section_depth : Sections → ℕ
section_depth secs = length (guards_of secs)

-- the same behind `main`
abbrev pub tail_depth : List Tailing → ℕ
tail_depth [] = 0
tail_depth (Another k ∷ parts) = k + tail_depth parts
tail_depth (Final k ∷ parts) = k + tail_depth parts

abbrev pub around : ReadingState → ℕ
around (Outside secs ds) = section_depth secs
around (Ready outer) = depth outer
around (Ended outer c) = onward_depth (placed outer c)
around (Over f parts) = tail_depth parts
around _ = 0

-- the sign opens a statement that holds others, or a part of a group
abbrev pub opens_more : Sign → Bool
opens_more signs.If = true
opens_more signs.While = true
opens_more signs.For = true
opens_more signs.Do = true
opens_more signs.LeftBrace = true
opens_more (signs.GroupIf n) = true
opens_more (signs.GroupElif n) = true
opens_more _ = false

-- the brace of `main` is no block
abbrev pub is_nested : ReadingState → Sign → Bool
is_nested state s = opens_more s && nat_le 64 (around state)

-- ---- operators and parentheses

abbrev pub is_operator : Sign → Bool
is_operator (signs.Oper op) = true
is_operator signs.Bang = true
is_operator signs.Open = true
is_operator _ = false

-- the item belongs to an expression; that behind the start of a `for` may be the first of one, and the test of a `do` begins with it
abbrev pub in_expression : ReadingState → Bool
in_expression (Wants fs u) = true
in_expression (Has fs u e) = true
in_expression (TestComes start outer) = true
in_expression (RedoComes p c outer) = true
in_expression _ = false

-- how many the expression has so far: the test of a `for` or of a `do` is one of its own
abbrev pub so_far : ReadingState → ℕ → ℕ
so_far (TestComes start outer) count = 0
so_far (RedoComes p c outer) count = 0
so_far _ count = count

-- how many operators and opening parentheses the expression has, with this item
abbrev pub counted : ReadingState → Sign → ℕ → ℕ
counted state s count = if in_expression state then (if is_operator s then suc (so_far state count) else so_far state count) else 0

abbrev pub is_long : ReadingState → Sign → ℕ → Bool
is_long state s count = nat_le 65 (counted state s count)

-- ---- the run

abbrev pub is_deep : ReadingState → Sign → ℕ → Bool
is_deep state s count = is_nested state s || is_long state s count

-- the item can't be taken, or too much is open at it; so many items are left from it on
pub data Fault : Type 0 where
  Wrong : (n : ℕ) → Fault
  Deep : (n : ℕ) → Fault

abbrev pub ended : Option File → Result File Fault
ended None = Err (Wrong 0)
ended (Some f) = Ok f

abbrev pub went : Option ReadingState → Bool → (ReadingState → Result File Fault) → ℕ → Result File Fault
went None deep go n = Err (Wrong n)
went (Some state) true go n = Err (Deep n)
went (Some state) false go n = go state

-- the run, with a count of the operators and parentheses of the expression so far
unfoldable pub guarded : ReadingState → ℕ → List Item → Result File Fault
guarded state count [] = ended (finish state)
guarded state count (x ∷ ts) = went (step state x.place x.sign) (is_deep state x.sign count) (λ next. guarded next (counted state x.sign count) ts) (suc (length ts))
