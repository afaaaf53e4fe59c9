use Rattle.std.proofs.Common.{sym, subst, ◌∙◌, Ok, Err}
use Rattle.std.specs.Str.Parse.{ParsesUnsigned}
use Rattle.certificate_format.proofs.Digits.{plain_first, plain_zero, not_plain, number_is, no_number, no_text}
use Rattle.certificate_format.proofs.numbers.natural.Goals as goal

pub returns-then-not-is_plain : goal.returns-then-not-is_plain
returns-then-not-is_plain c n small e = not_plain c.args.digits.now n (sym c.is_plain.ensures ∙ c.if-not-is_plain.true) small e

pub returns-in_default : goal.returns-in_default
returns-in_default c n small e = no_text c.args.digits.now n c.in_default.ensures.cases.0 small e

pub returns-in-Ok-parse : goal.returns-in-Ok-parse
returns-in-Ok-parse c =
    let plain = sym c.is_plain.ensures ∙ c.if-not-is_plain.false in
    number_is (Unit {0}) c.args.digits.now c.in-Ok-parse.number (subst (λ b. ParsesUnsigned {E = Unit {0}} 32 10 b (Ok c.in-Ok-parse.number)) c.in-Ok.ensures.cases.0 c.in-Ok-parse.ensures.value.0)
    (plain_first c.args.digits.now plain) (plain_zero c.args.digits.now plain)

pub returns-in-Err : goal.returns-in-Err
returns-in-Err c n small e =
    no_number _ c.args.digits.now c.in-Err.field-0 n (subst (λ b. ParsesUnsigned 32 10 b (Err c.in-Err.field-0)) c.in-Ok.ensures.cases.0 c.in-Err.ensures.value.0) small e
