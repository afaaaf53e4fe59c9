use Rattle.std.proofs.Common.{sym, ◌∙◌, map}
use Rattle.cpp_conditions.specs.Scanning.{token}
use Rattle.cpp_conditions.proofs.Lexemes.{scanning_space, scanning_token, scanning_pushed, scanning_wrong, scanning_all, shorter}
use Rattle.cpp_conditions.proofs.tokens.scan.Goals as goal

pub scan-preserved-then-is_gap : goal.scan-preserved-then-is_gap
scan-preserved-then-is_gap c =
    scanning_space c.args.bytes.now c.scan.rest.now c.in-Some.behind.now (map token c.scan.list.items) c.in-Some.first c.scan.invariant c.in-Some.ensures (sym c.is_gap.ensures ∙ c.if-is_gap.true)

pub returns-in_default-lexeme : goal.returns-in_default-lexeme
returns-in_default-lexeme c =
    scanning_wrong c.args.bytes.now c.scan.rest.now c.in-Some.behind.now (map token c.scan.list.items) c.in-Some.first c.scan.invariant c.in-Some.ensures (sym c.is_gap.ensures ∙ c.if-is_gap.false) c.in_default-lexeme.ensures

pub scan-smaller : goal.scan-smaller
scan-smaller c = shorter c.in-Some.first c.in-Some.behind.now c.in-Some-lexeme.after.now c.scan.rest.now (token c.in-Some-lexeme.token) c.in-Some.ensures c.in-Some-lexeme.ensures

pub scan-preserved : goal.scan-preserved
scan-preserved c =
    scanning_pushed c.args.bytes.now c.in-Some-lexeme.after.now c.scan.list.items _ c.in-Some-lexeme.token c.in_ok-push.ensures.items
    (scanning_token c.args.bytes.now c.scan.rest.now c.in-Some.behind.now c.in-Some-lexeme.after.now (map token c.scan.list.items) (token c.in-Some-lexeme.token) c.in-Some.first c.scan.invariant c.in-Some.ensures (sym c.is_gap.ensures ∙ c.if-is_gap.false) c.in-Some-lexeme.ensures)

pub returns : goal.returns
returns c = scanning_all c.args.bytes.now c.scan.rest.now (map token c.scan.list.items) c.scan.invariant c.in_default.ensures
