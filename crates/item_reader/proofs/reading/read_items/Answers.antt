use Rattle.std.proofs.Common.{length}
use Rattle.std.proofs.lemmas.Result.{err_from_is_err_and}
use Rattle.c_tree.specs.View.{whole}
use Rattle.c_grammar.specs.Within.{SpellsWithin}
use Rattle.reading_states.specs.Views.{as_file}
use Rattle.item_reader.proofs.Answering.{unsigned_items, spelled, formed, plain, wrong_there, deep_there}
use Rattle.item_reader.proofs.reading.read_items.Goals as goal

pub read_file-requires : goal.read_file-requires
read_file-requires c = unsigned_items (length c.args.names) c.args.items.now c.requires.fit

pub program_of-requires : goal.program_of-requires
program_of-requires c = unsigned_items (length c.args.names) c.args.items.now c.requires.fit

pub returns-in_err-file-clause-wrong : goal.returns-in_err-file-clause-wrong
returns-in_err-file-clause-wrong c =
    let p = err_from_is_err_and c.from_residual.result c.from_residual.ensures.1 in
    rw (p.1, p.2) (wrong_there c.reads_within_the_limits.ensures.wrong c.in_err-file.field-0.0 c.args.items.now c.in_err-file.ensures)

pub returns-in_err-file-clause-deep : goal.returns-in_err-file-clause-deep
returns-in_err-file-clause-deep c =
    let p = err_from_is_err_and c.from_residual.result c.from_residual.ensures.1 in
    rw (p.1, p.2) (deep_there c.reads_within_the_limits.ensures.deep c.in_err-file.field-0.0 c.args.items.now c.in_err-file.ensures)

pub returns-clause-spells : goal.returns-clause-spells
returns-clause-spells c = spelled c.reads_within_the_limits.ensures.file c.args.names c.args.items.now (as_file c.in_ok-file.file) (whole c.in_ok-program.program) c.in_ok-file.ensures c.in_ok-program.ensures

pub returns-clause-program : goal.returns-clause-program
returns-clause-program c =
    let within : SpellsWithin c.args.names (whole c.in_ok-program.program) c.args.items.now = spelled c.reads_within_the_limits.ensures.file c.args.names c.args.items.now (as_file c.in_ok-file.file) (whole c.in_ok-program.program) c.in_ok-file.ensures c.in_ok-program.ensures in
    λ few. formed c.files_are_programs.ensures.formed c.args.names c.args.items.now (whole c.in_ok-program.program) few c.requires.fit c.requires.rising within

pub returns-clause-plain : goal.returns-clause-plain
returns-clause-plain c =
    let within : SpellsWithin c.args.names (whole c.in_ok-program.program) c.args.items.now = spelled c.reads_within_the_limits.ensures.file c.args.names c.args.items.now (as_file c.in_ok-file.file) (whole c.in_ok-program.program) c.in_ok-file.ensures c.in_ok-program.ensures in
    plain c.files_are_programs.ensures.plain c.within_the_limits_is_a_file.ensures c.args.names c.args.items.now (whole c.in_ok-program.program) within
