use Rattle.cpp_conditions.proofs.Lexemes.{word_taken}
use Rattle.cpp_conditions.proofs.tokens.word.Goals as goal

pub returns : goal.returns
returns c = word_taken c.args.bytes.now _ _ c.word_len.result _ c.word_token.ensures c.word_len.ensures.value c.split_at.ensures.front c.split_at.ensures.back
