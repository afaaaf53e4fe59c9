use Rattle.std.proofs.Common.{◌≡◌, ◌+◌, false, length}
use Rattle.c_tokens.specs.Lexemes.{close_len}
use Rattle.c_tokens.proofs.Quotes.{behind}
use Rattle.c_tokens.proofs.lexemes.close_len.Given as goal

abbrev pub invariant-bytes : goal.invariant-bytes
invariant-bytes l = record {
  value : behind l.len (close_len l.escaped l.rest) ≡ close_len false l.bytes;
  count : l.len + length l.rest ≡ length l.bytes;
}

abbrev pub decreases-bytes : goal.decreases-bytes
decreases-bytes l = length l.rest
