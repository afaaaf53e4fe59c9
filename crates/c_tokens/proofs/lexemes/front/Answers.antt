use Rattle.std.proofs.Common.{◌≤◌, length, arith}
use Rattle.c_tokens.specs.Lexemes.{is_lexeme, lexeme_of}
use Rattle.c_tokens.proofs.Longest.{is_longest}
use Rattle.c_tokens.proofs.lexemes.front.Goals as goal

pub split_at-requires : goal.split_at-requires
split_at-requires c =
    let h : lexeme_of c.args.bytes.now ≤ length c.args.bytes.now = (is_longest is_lexeme c.args.bytes.now).fits in
    omega arith
