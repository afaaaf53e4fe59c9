use Rattle.std.proofs.Common.{sym, ◌∙◌}
use Rattle.c_tokens.proofs.Marks.{pair_at, single_at, no_mark_at}
use Rattle.c_tokens.proofs.lexemes.mark_len.Goals as goal

pub returns-then-is_pair : goal.returns-then-is_pair
returns-then-is_pair c = pair_at c.args.bytes.now c.in-len2-up.len_at_least (sym c.is_pair.ensures ∙ c.if-is_pair.true)

pub returns-then-is_single-2 : goal.returns-then-is_single-2
returns-then-is_single-2 c = single_at c.args.bytes.now c.in-len2-up.len_at_least (sym c.is_pair.ensures ∙ c.if-is_pair.false) (sym c.is_single-else-is_pair.ensures ∙ c.if-is_single-2.true)

pub returns-else-is_single-2 : goal.returns-else-is_single-2
returns-else-is_single-2 c = no_mark_at c.args.bytes.now c.in-len2-up.len_at_least (sym c.is_pair.ensures ∙ c.if-is_pair.false) (sym c.is_single-else-is_pair.ensures ∙ c.if-is_single-2.false)
