use Rattle.c_grammar.proofs.Preprocess.{preprocess_law}
use Rattle.c_grammar.proofs.laws.preprocessing_is_projecting.Goals as goal

pub returns : goal.returns
returns c = preprocess_law
