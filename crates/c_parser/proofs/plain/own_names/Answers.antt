use Rattle.std.proofs.Common.{◌≡◌, ℕ, List, [], length, Ok, sym, ap, subst, ◌∙◌, arith}
use Rattle.c_parser.specs.Functions.{functions_of_bytes, own_functions}
use Rattle.c_parser.specs.Items.{Listed}
use Rattle.c_parser.specs.Order.{variables_of, locals_of, constants_of, arranged}
use Rattle.c_parser.specs.Reading.{items_of_code}
use Rattle.c_parser.specs.Stages.{listed_in}
use Rattle.c_parser.proofs.OwnNames.{given_counted, given_distinct, given_few, items_of_own, own_given, same_numbered}
use Rattle.c_parser.proofs.plain.own_names.Goals as goal

pub arrange-requires : goal.arrange-requires
arrange-requires c = rw (c.items-2.ensures, c.as_slice.ensures.value) c.in_ok-first.ensures.proper.fit

pub returns-clause-own : goal.returns-clause-own
returns-clause-own c =
    let same = same_numbered c.in_ok-first.first c.items-2.result.now c.as_slice.result.now c.items-2.ensures c.as_slice.ensures.value in
    let functions : functions_of_bytes c.args.bytes.now ≡ c.in_ok-functions.functions =
    c.in_ok-code.ensures.functions ∙ ap own_functions (sym c.bytes.ensures) ∙ sym c.in_ok-functions.ensures.functions in
    own_given c.args.includes c.args.bytes.now c.in_ok-functions.functions (listed_in c.in_ok-first.first) c.in_ok-made.made functions
    (items_of_own c.args.includes c.in_ok-functions.functions [] c.args.bytes.now c.in_ok-code.code (listed_in c.in_ok-first.first) c.in_ok-code.ensures.code
    (subst (λ (b : List ℕ). items_of_code c.in_ok-functions.functions [] b ≡ Ok (listed_in c.in_ok-first.first)) c.bytes-2.ensures
    (subst (λ (fs : List (List ℕ)). items_of_code fs [] c.bytes-2.result.now ≡ Ok (listed_in c.in_ok-first.first)) c.items.ensures c.in_ok-first.ensures.listed)))
    (c.in_ok-made.ensures.names ∙ ap (arranged []) same) (record {
      variables = c.in_ok-made.ensures.variables ∙ ap (λ (l : Listed). length (variables_of [] l)) same;
      locals = c.in_ok-made.ensures.locals ∙ ap (λ (l : Listed). length (locals_of [] l)) same;
      constants = c.in_ok-made.ensures.constants ∙ ap (λ (l : Listed). length (constants_of [] l)) same;
    })

pub returns-clause-distinct : goal.returns-clause-distinct
returns-clause-distinct c =
    let same = same_numbered c.in_ok-first.first c.items-2.result.now c.as_slice.result.now c.items-2.ensures c.as_slice.ensures.value in
    given_distinct (listed_in c.in_ok-first.first) c.in_ok-made.made c.in_ok-first.ensures.distinct (c.in_ok-made.ensures.names ∙ ap (arranged []) same)

pub returns-clause-few : goal.returns-clause-few
returns-clause-few c =
    let same = same_numbered c.in_ok-first.first c.items-2.result.now c.as_slice.result.now c.items-2.ensures c.as_slice.ensures.value in
    given_few (listed_in c.in_ok-first.first) c.in_ok-made.made 1048576 c.in_ok-first.ensures.distinct (c.in_ok-made.ensures.names ∙ ap (arranged []) same)
    (omega (arith, c.in_ok-first.ensures.few, c.in_ok-code.ensures.short, ap length c.bytes-2.ensures))

pub returns-clause-counted : goal.returns-clause-counted
returns-clause-counted c =
    let same = same_numbered c.in_ok-first.first c.items-2.result.now c.as_slice.result.now c.items-2.ensures c.as_slice.ensures.value in
    given_counted (listed_in c.in_ok-first.first) c.in_ok-made.made (c.in_ok-made.ensures.names ∙ ap (arranged []) same)
    (record {
      variables = c.in_ok-made.ensures.variables ∙ ap (λ (l : Listed). length (variables_of [] l)) same;
      locals = c.in_ok-made.ensures.locals ∙ ap (λ (l : Listed). length (locals_of [] l)) same;
      constants = c.in_ok-made.ensures.constants ∙ ap (λ (l : Listed). length (constants_of [] l)) same;
    })
