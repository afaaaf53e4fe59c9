use Rattle.std.proofs.Common.{◌≡◌, List, [], ℕ, drop, map}
use Rattle.std.specs.Borrow.{Bor}
use Rattle.command_words.specs.Spelling.{inputs_after}
use Rattle.command_words.proofs.inputs.inputs_in.Given as goal

abbrev pub invariant-loop-text : goal.invariant-loop-text
invariant-loop-text l =
    inputs_after l.numbers.items (map (λ (text : Bor (List ℕ)). text.now) (drop l.text-index l.texts)) ≡ inputs_after [] (map (λ (text : Bor (List ℕ)). text.now) l.texts)
