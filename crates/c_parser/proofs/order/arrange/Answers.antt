use Rattle.std.proofs.Common.{rules, ◌≡◌, ◌++◌, ◌∙◌, length, map}
use Rattle.c_parser.specs.Order.{AreClasses, variables_of, locals_of, constants_of, features_of}
use Rattle.c_parser.specs.Stages.{list}
use Rattle.c_parser.proofs.Ordering.{joined, as_many}
use Rattle.c_parser.proofs.order.arrange.Goals as goal

pub returns-clause-names : goal.returns-clause-names
returns-clause-names c =
    let features = map (λ f. f.name) c.args.features.now in
    let l = list c.args.names.now c.args.items.now in
    let first : AreClasses (length c.args.names.now) c.args.items.now c.as_slice.result.now = search rules in
    let second : AreClasses (length c.args.names.now) c.args.items.now c.as_slice-2.result.now = search rules in
    let third : AreClasses (length c.args.names.now) c.args.items.now c.as_slice-3.result.now = search rules in
    let all : c.from_vec.result ≡ ((c.in_ok-list.list.items ++ c.in_ok-own.own.items) ++ c.in_ok-rest.rest.items) ++ c.in_ok-named.named.items = search rules in
    all ∙ joined c.args.names.now c.in_ok-list.list.items c.in_ok-own.own.items c.in_ok-rest.rest.items c.in_ok-named.named.items (variables_of features l) (locals_of features l) (constants_of features l) (features_of features l)
    (c.in_ok-list.ensures c.args.items.now first) (c.in_ok-own.ensures c.args.items.now second) (c.in_ok-rest.ensures c.args.items.now third) c.in_ok-named.ensures

pub returns-clause-variables : goal.returns-clause-variables
returns-clause-variables c =
    let classes : AreClasses (length c.args.names.now) c.args.items.now c.as_slice.result.now = search rules in
    let many : c.len-variables.result ≡ length c.in_ok-list.list.items = search rules in
    as_many c.args.names.now c.in_ok-list.list.items (variables_of (map (λ f. f.name) c.args.features.now) (list c.args.names.now c.args.items.now)) c.len-variables.result many (c.in_ok-list.ensures c.args.items.now classes)

pub returns-clause-locals : goal.returns-clause-locals
returns-clause-locals c =
    let classes : AreClasses (length c.args.names.now) c.args.items.now c.as_slice-2.result.now = search rules in
    let many : c.len-locals.result ≡ length c.in_ok-own.own.items = search rules in
    as_many c.args.names.now c.in_ok-own.own.items (locals_of (map (λ f. f.name) c.args.features.now) (list c.args.names.now c.args.items.now)) c.len-locals.result many (c.in_ok-own.ensures c.args.items.now classes)

pub returns-clause-constants : goal.returns-clause-constants
returns-clause-constants c =
    let classes : AreClasses (length c.args.names.now) c.args.items.now c.as_slice-3.result.now = search rules in
    let many : c.len-constants.result ≡ length c.in_ok-rest.rest.items = search rules in
    as_many c.args.names.now c.in_ok-rest.rest.items (constants_of (map (λ f. f.name) c.args.features.now) (list c.args.names.now c.args.items.now)) c.len-constants.result many (c.in_ok-rest.ensures c.args.items.now classes)
