use Rattle.std.proofs.Common.{◌≡◌, ℕ, ◌≤◌, List, length, Ok, sym, ap, ◌∙◌, arith}
use Rattle.std.proofs.lemmas.Result.{IfOk-weaker}
use Rattle.c_tokens.specs.declared.token.Token.{Token}
use Rattle.c_parser.specs.Functions.{functions_in}
use Rattle.c_parser.proofs.FewFunctions.{declared_few}
use Rattle.c_parser.proofs.Lexical.{tokens_within}
use Rattle.c_parser.proofs.functions.own_functions.Goals as goal

pub functions_in-requires : goal.functions_in-requires
functions_in-requires c =
    tokens_within (record { read = c.reads_longest_lexemes.ensures; literal = c.literals_are_numbers.ensures.small; rise = c.places_rise.ensures }) c.args.code.now c.items.result.now
    (c.in-Ok.ensures ∙ ap (λ (ts : List Token). Ok ts) (sym c.items.ensures))

pub returns-in-Ok-clause-few : goal.returns-in-Ok-clause-few
returns-in-Ok-clause-few c =
    let few = declared_few (record { read = c.reads_longest_lexemes.ensures; literal = c.literals_are_numbers.ensures.small; rise = c.places_rise.ensures }) c.args.code.now c.items.result.now
    (c.in-Ok.ensures ∙ ap (λ (ts : List Token). Ok ts) (sym c.items.ensures)) in
    IfOk-weaker c.functions_in.result (λ names. names ≡ functions_in c.args.code.now c.items.result.now) (λ names. length names ≤ 1048576)
    (λ names is. omega (arith, ap length is, few, c.requires)) c.functions_in.ensures
