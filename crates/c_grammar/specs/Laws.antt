-- The laws of the grammar and of reading item by item.
use Rattle.std.specs.Prelude.{◌≡◌, ◌↔◌, ℕ, List, [], ◌∷◌, ◌++◌, Option, Some, None, Result, Ok, Err}
use Rattle.c_tree.specs.Tree.{Whole}
use Rattle.c_grammar.specs.declared.items.Item.{Item}
use Rattle.c_grammar.specs.Grammar.{File, Forms, Spells, whole_of}
use Rattle.c_grammar.specs.Machine.{ReadingState, step, finish, run, start}
use Rattle.c_grammar.specs.Deep.{Deep, Wrong, guarded}
use Rattle.c_grammar.specs.Within.{FormsWithin}
use Rattle.c_grammar.specs.Faults.{IsWrong, IsTooDeep, NothingDeep}

-- the program of a file that was read
abbrev pub program_in : List (List ℕ) → List Item → Result File ℕ → Result Whole ℕ
program_in names items (Ok f) = Ok (whole_of names items f)
program_in names items (Err n) = Err n

-- the program that the machine reads, or how many items there are from the wrong one on
abbrev pub read : List (List ℕ) → List Item → Result Whole ℕ
read names items = program_in names items (run start items)

-- the state after these items, where each of them can be taken
abbrev pub on_with : Option ReadingState → (ReadingState → Option ReadingState) → Option ReadingState
on_with None go = None
on_with (Some state) go = go state

abbrev pub after : ReadingState → List Item → Option ReadingState
after state [] = Some state
after state (x ∷ ts) = on_with (step state x.place x.sign) (λ next. after next ts)

-- ---- the laws

-- over one list of names, a list of items spells at most one program
abbrev pub AtMostOne : Type 0
AtMostOne = (names : List (List ℕ)) (items : List Item) (p q : Whole) → Spells names p items → Spells names q items → p ≡ q

-- what is spelled is read
abbrev pub Complete : Type 0
Complete = (names : List (List ℕ)) (items : List Item) (p : Whole) → Spells names p items → read names items ≡ Ok p

-- what is read is spelled
abbrev pub Sound : Type 0
Sound = (names : List (List ℕ)) (items : List Item) (p : Whole) → read names items ≡ Ok p → Spells names p items

-- each state that the machine may come to has a text that ends the file
abbrev pub Completes : Type 0
Completes = (state : ReadingState) → (tail : List Item) × (made : File) × (run state tail ≡ Ok made)

-- the machine stops at the first wrong item, or at the end where no file ends there
abbrev pub FindsWrong : Type 0
FindsWrong = (names : List (List ℕ)) (items : List Item) (n : ℕ) → read names items ≡ Err n → IsWrong items n

-- and nowhere else
abbrev pub WrongIsFound : Type 0
WrongIsFound = (names : List (List ℕ)) (items : List Item) (n : ℕ) → IsWrong items n → read names items ≡ Err n

-- after items that lead to a state no file goes on with an item that the state can't take
abbrev pub StepsDecide : Type 0
StepsDecide = (before : List Item) (state : ReadingState) (x : Item) → after start before ≡ Some state → step state x.place x.sign ≡ None → (more : List Item) (f : File) → Forms (before ++ x ∷ more) f → ⊥

-- items that lead to a state go on to some file
abbrev pub StepsGoOn : Type 0
StepsGoOn = (before : List Item) (state : ReadingState) → after start before ≡ Some state → (tail : List Item) × (f : File) × Forms (before ++ tail) f

-- a list of items that leads to a state is a file only where the state is final
abbrev pub EndsDecide : Type 0
EndsDecide = (items : List Item) (state : ReadingState) → after start items ≡ Some state → finish state ≡ None → (f : File) → Forms items f → ⊥

-- what is read within the limits is a file within them, and each such file is read
abbrev pub ReadsWithin : Type 0
ReadsWithin = (items : List Item) (f : File) → (guarded start 0 items ≡ Ok f) ↔ FormsWithin items f

-- the reading with limits stops as wrong at the first wrong item, where none is too deep, and nowhere else
abbrev pub StopsWrong : Type 0
StopsWrong = (items : List Item) (n : ℕ) → (guarded start 0 items ≡ Err (Wrong n)) ↔ (IsWrong items n × NothingDeep items)

-- and as too deep at the first item that is too deep, and nowhere else
abbrev pub StopsDeep : Type 0
StopsDeep = (items : List Item) (n : ℕ) → (guarded start 0 items ≡ Err (Deep n)) ↔ IsTooDeep items n
