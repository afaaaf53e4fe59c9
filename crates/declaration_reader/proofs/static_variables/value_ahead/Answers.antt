use Rattle.std.proofs.Common.{Option, subst, sym}
use Rattle.std.specs.Prelude.{IfSome}
use Rattle.c_grammar.specs.declared.items.Sign.{Sign}
use Rattle.reading_states.specs.Signs.{IsUnsigned}
use Rattle.declaration_reader.proofs.StaticItems.{unsigned_at}
use Rattle.declaration_reader.proofs.static_variables.value_ahead.Goals as goal

pub value_of-requires : goal.value_of-requires
value_of-requires c = subst (λ (sign : Option Sign). IfSome sign IsUnsigned) (sym c.sign_at-third.ensures) (unsigned_at c.args.items.now 2 c.requires)
