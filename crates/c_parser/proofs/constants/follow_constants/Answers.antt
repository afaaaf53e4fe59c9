use Rattle.std.proofs.Common.{sym, ◌∙◌}
use Rattle.c_grammar.specs.declared.constants.NameKind.TheVariants as kinds
use Rattle.c_grammar.specs.Constants.{of_constants}
use Rattle.family_names.proofs.Holding.{from_main}
use Rattle.c_parser.proofs.InScope.{not_name, constant_pushed, constant_passed, constant_followed}
use Rattle.c_parser.proofs.constants.follow_constants.Goals as goal

pub returns-then-is_declared : goal.returns-then-is_declared
returns-then-is_declared c = λ before h m d.
    constant_pushed c.push.result before c.args.sign c.in-Name.number c.args.names.now c.push.new.self c.args.is_declared c.in-Name.is c.if-is_declared.true d h c.push.ensures.sound c.push.ensures.inside c.push.ensures.now c.push.ensures.later

pub returns-else-is_declared : goal.returns-else-is_declared
returns-else-is_declared c = λ before h m d. constant_passed before c.args.sign c.in-Name.number c.args.names.now c.args.is_declared c.in-Name.is c.if-is_declared.false d h

pub returns-in_default : goal.returns-in_default
returns-in_default c = λ before h m d.
    let other = not_name c.args.sign c.in_default.not-Name in
    constant_followed c.follow_blocks.result before c.args.sign c.follow_blocks.new.names other (c.follow_blocks.ensures (of_constants before) h (m ∙ sym (from_main kinds.Variable before)) other)
