use Rattle.std.proofs.Common.{subst, sym}
use Rattle.reading_states.specs.Signs.{AreUnsigned}
use Rattle.declaration_reader.proofs.StaticItems.{unsigned_behind}
use Rattle.declaration_reader.proofs.static_variables.held_of.Goals as goal

pub with_statics-requires : goal.with_statics-requires
with_statics-requires c = subst AreUnsigned (sym c.behind_main.ensures) (unsigned_behind c.args.items.now c.requires)
