use Rattle.c_grammar.specs.Scoped.{still}
use Rattle.c_grammar.proofs.scoped.Scoped.items.Goals as goal

pub returns : goal.returns
unfolding still
returns g c = c.as_slice.ensures.value
