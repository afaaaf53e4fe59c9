use Rattle.for_blocks.proofs.Whole.{blocks_form_the_file_law, blocks_declare_none_law, blocks_are_kept_law}
use Rattle.for_blocks.proofs.laws.blocks_form_the_file.Goals as goal

pub returns-clause-file : goal.returns-clause-file
returns-clause-file c = blocks_form_the_file_law

pub returns-clause-none : goal.returns-clause-none
returns-clause-none c = blocks_declare_none_law

pub returns-clause-kept : goal.returns-clause-kept
returns-clause-kept c = blocks_are_kept_law
