use Rattle.std.proofs.Common.{ℕ, List, length, Result, Ok, sym, ap, subst, ◌∙◌, arith}
use Rattle.fam_outer.specs.declared.faults.FileCode.{FileCode}
use Rattle.fam_outer.specs.declared.faults.Place.{Place}
use Rattle.fam_outer.specs.Results.{and_then}
use Rattle.c_tokens.specs.declared.token.Token.{Token}
use Rattle.c_parser.specs.Items.{Listed, AreDistinct, listed}
use Rattle.c_parser.proofs.OwnNames.{distinct_from, grows_by_few}
use Rattle.c_parser.proofs.Overs.{same_list}
use Rattle.c_parser.proofs.Lexical.{tokens_within, tokens_few}
use Rattle.c_parser.proofs.Stepwise.{proper_items}
use Rattle.c_parser.proofs.plain.number_code.Goals as goal

pub number-requires-clause-within : goal.number-requires-clause-within
number-requires-clause-within c =
    tokens_within (record { read = c.reads_longest_lexemes.ensures; literal = c.literals_are_numbers.ensures.small; rise = c.places_rise.ensures }) c.args.code.now c.items.result.now
    (c.in_ok-tokens.ensures ∙ ap (λ (ts : List Token). Ok ts) (sym c.items.ensures))

pub number-requires-clause-few : goal.number-requires-clause-few
number-requires-clause-few c =
    let few = tokens_few (record { read = c.reads_longest_lexemes.ensures; literal = c.literals_are_numbers.ensures.small; rise = c.places_rise.ensures }) c.args.code.now c.items.result.now
    (c.in_ok-tokens.ensures ∙ ap (λ (ts : List Token). Ok ts) (sym c.items.ensures)) in
    omega (arith, few, c.requires.few, c.requires.short)

pub returns-clause-listed : goal.returns-clause-listed
returns-clause-listed c =
    ap (λ (r : Result (List Token) (FileCode × Place)). and_then r (λ ts. Ok (listed c.args.functions.now c.args.given.now c.args.code.now ts))) (c.in_ok-tokens.ensures ∙ ap (λ (ts : List Token). Ok ts) (sym c.items.ensures))
    ∙ ap (λ (l : Listed). Ok l) (sym (same_list (listed c.args.functions.now c.args.given.now c.args.code.now c.items.result.now) c.in_ok-number.field-0 c.in_ok-number.ensures))

pub returns-clause-proper : goal.returns-clause-proper
returns-clause-proper c =
    proper_items c.args.functions.now (record { read = c.reads_longest_lexemes.ensures; literal = c.literals_are_numbers.ensures.small; rise = c.places_rise.ensures }) c.args.given.now c.args.code.now c.items.result.now c.in_ok-number.field-0
    (c.in_ok-tokens.ensures ∙ ap (λ (ts : List Token). Ok ts) (sym c.items.ensures))
    c.in_ok-number.ensures

pub returns-clause-few : goal.returns-clause-few
returns-clause-few c =
    let few = tokens_few (record { read = c.reads_longest_lexemes.ensures; literal = c.literals_are_numbers.ensures.small; rise = c.places_rise.ensures }) c.args.code.now c.items.result.now
    (c.in_ok-tokens.ensures ∙ ap (λ (ts : List Token). Ok ts) (sym c.items.ensures)) in
    omega (arith, few, grows_by_few c.args.functions.now c.args.code.now c.args.given.now c.items.result.now, ap (λ (ns : List (List ℕ)). length ns) c.in_ok-number.ensures.names_are)

pub returns-clause-distinct : goal.returns-clause-distinct
returns-clause-distinct c = subst AreDistinct (sym c.in_ok-number.ensures.names_are) (distinct_from c.args.functions.now c.args.code.now c.args.given.now c.items.result.now c.requires.distinct)

pub number-requires-clause-functions : goal.number-requires-clause-functions
number-requires-clause-functions c = omega (arith, c.requires.functions)
