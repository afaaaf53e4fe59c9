-- A constant that is counted, where the one before it is not the greatest `int`.
use Rattle.std.proofs.Common.{◌≡◌, ℕ, ℤ, pos, ◌+ℤ◌, Bool, true, List, Option, None, Result, subst, sym}
use Rattle.std.specs.Prelude.{int_lt, if◌then◌else◌}
use Rattle.fam_outer.specs.declared.text.NoMemory.{NoMemory}
use Rattle.c_tree.specs.declared.lists.Declared.{Declared}
use Rattle.c_tree.specs.Value.{greatest}
use Rattle.c_grammar.specs.declared.items.Sign.{Sign}
use Rattle.c_grammar.specs.Grammar.{Counted}
use Rattle.c_grammar.specs.Machine.{Sections, counts_on, started}
use Rattle.reading_states.specs.declared.states.ReadingState.{ReadingState}
use Rattle.reading_states.specs.Views.{Moves}

pub counted_on : (result : Result (Option ReadingState) NoMemory) (last m n : ℤ) (x : ℕ) (secs : Sections) (ds : List Declared) (s : Sign) → int_lt last greatest ≡ true → m ≡ last → n ≡ last +ℤ pos 1
    → Moves result (started (Counted m) x n secs ds s) → Moves result (counts_on last x secs ds s)
counted_on result last m n x secs ds s e p q h =
    subst (λ (b : Bool). Moves result (if b then started (Counted last) x (last +ℤ pos 1) secs ds s else None)) (sym e)
    (subst (λ (k : ℤ). Moves result (started (Counted last) x k secs ds s)) q (subst (λ (k : ℤ). Moves result (started (Counted k) x n secs ds s)) p h))
