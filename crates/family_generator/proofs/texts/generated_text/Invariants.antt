use Rattle.std.proofs.Common.{◌≡◌, ◌++◌, ◌-◌, string_bytes}
use Rattle.family_generator.specs.Texts.{header, blocks}
use Rattle.family_generator.proofs.texts.generated_text.Given as goal

-- the blocks so far and those to come are all
abbrev pub invariant-loop-k : goal.invariant-loop-k
invariant-loop-k l = string_bytes l.text ++ blocks l.number l.k (l.number - l.k) ≡ header ++ blocks l.number 0 l.number
