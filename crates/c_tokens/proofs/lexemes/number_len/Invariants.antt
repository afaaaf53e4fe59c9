use Rattle.std.proofs.Common.{◌≡◌, ◌+◌, length}
use Rattle.c_tokens.specs.Lexemes.{number_len}
use Rattle.c_tokens.proofs.lexemes.number_len.Given as goal

abbrev pub invariant-bytes : goal.invariant-bytes
invariant-bytes l = record {
  value : l.len + number_len l.last l.rest ≡ number_len l.first l.behind;
  count : l.len + length l.rest ≡ length l.behind;
}

abbrev pub decreases-bytes : goal.decreases-bytes
decreases-bytes l = length l.rest
