use Rattle.c_parser.specs.Names.{has_main}
use Rattle.c_parser.proofs.InScope.{block_begins, block_stays, same_in_scope, entered_in_scope, left_in_scope}
use Rattle.c_parser.proofs.names.follow_blocks.Goals as goal

pub returns-in-RightBrace : goal.returns-in-RightBrace
returns-in-RightBrace c = λ before h m e. left_in_scope before c.args.sign c.args.names.now c.leave.new.self c.in-RightBrace.is h c.leave.ensures.sound c.leave.ensures.inside c.leave.ensures.left

pub returns-then-begins_block : goal.returns-then-begins_block
returns-then-begins_block c = λ before h m e.
    entered_in_scope c.enter.result before c.args.sign c.args.names.now c.enter.new.self e (block_begins c.args.sign (has_main before) c.args.in_main c.begins_block.result c.if-begins_block.true c.begins_block.ensures m) h
    c.enter.ensures.sound c.enter.ensures.inside c.enter.ensures.now c.enter.ensures.later

pub returns-else-begins_block : goal.returns-else-begins_block
returns-else-begins_block c = λ before h m e.
    same_in_scope before c.args.sign c.args.names.now e (block_stays c.args.sign (has_main before) c.args.in_main c.begins_block.result c.if-begins_block.false c.begins_block.ensures m c.in_default.not-RightBrace) h
