use Rattle.std.proofs.Common.{◌≡◌, ◌+◌, length}
use Rattle.std.specs.Prelude.{option_map}
use Rattle.cpp_lines.specs.Comments.{block_len}
use Rattle.cpp_lines.proofs.comments.block_len.Given as goal

abbrev pub invariant-search : goal.invariant-search
invariant-search l = record {
  read : option_map (λ n. l.passed + n) (block_len l.rest) ≡ block_len l.bytes;
  len : l.passed + length l.rest ≡ length l.bytes;
}

abbrev pub decreases-search : goal.decreases-search
decreases-search l = length l.rest
