use Rattle.std.proofs.Common.{Bool, ap, ◌∙◌}
use Rattle.cpp_conditions.specs.Scanning.{number_by}
use Rattle.cpp_conditions.proofs.Lexemes.{number_taken}
use Rattle.cpp_conditions.proofs.tokens.number.Goals as goal

pub returns-then-is_whole : goal.returns-then-is_whole
returns-then-is_whole c =
    ap (λ (v : Bool). number_by v c.split_at.result.0.now c.split_at.result.1.now) c.if-is_whole.ensures
    ∙ number_taken c.args.bytes.now _ _ c.alphanumeric_len.result c.alphanumeric_len.ensures.value c.split_at.ensures.front c.split_at.ensures.back

pub returns-else-is_whole : goal.returns-else-is_whole
returns-else-is_whole c =
    ap (λ (v : Bool). number_by v c.split_at.result.0.now c.split_at.result.1.now) c.if-is_whole.ensures
    ∙ number_taken c.args.bytes.now _ _ c.alphanumeric_len.result c.alphanumeric_len.ensures.value c.split_at.ensures.front c.split_at.ensures.back
