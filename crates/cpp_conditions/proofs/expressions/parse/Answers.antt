use Rattle.std.proofs.Common.{sym, false-eqb}
use Rattle.std.proofs.lemmas.Bool.{eqb-true}
use Rattle.std.proofs.lemmas.List.{nil_from_length}
use Rattle.std.proofs.Common.{ap}
use Rattle.cpp_conditions.specs.Descent.{expression, plain}
use Rattle.cpp_conditions.proofs.Descending.{all_read, some_left}
use Rattle.cpp_conditions.proofs.expressions.parse.Goals as goal

pub returns-then-is_empty : goal.returns-then-is_empty
returns-then-is_empty c = all_read (plain c.args.tokens.now) (plain c.in_ok-made.rest.now) (expression c.in_ok-made.made) c.in_ok-made.ensures.read (ap plain (nil_from_length _ (eqb-true _ _ (sym c.if-is_empty.ensures))))

pub returns : goal.returns
returns c = some_left (plain c.args.tokens.now) c.in_ok-made.rest.now (expression c.in_ok-made.made) c.in_ok-made.ensures.read c.in_ok-made.ensures.ends (λ h. false-eqb _ _ c.if-is_empty.ensures h)
