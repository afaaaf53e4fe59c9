use Rattle.std.proofs.Common.{◌≡◌, ℕ, length, map, subst, arith}
use Rattle.std.specs.List.{filter, range_with_len}
use Rattle.c_parser.specs.Names.{names_at}
use Rattle.c_parser.specs.Order.{is_of_class}
use Rattle.c_parser.specs.Stages.{list}
use Rattle.c_parser.proofs.Ordering.{add_more}
use Rattle.c_parser.proofs.order.names_of_class.Goals as goal

pub loop-number-preserved : goal.loop-number-preserved
loop-number-preserved c = λ items classes.
    add_more c.args.names.now c.loop-number.made.items c.add_name.new.out.items (is_of_class c.args.class (map (λ f. f.name) c.args.features.now) (list c.args.names.now items)) c.loop-number.number c.is_of_class-is_added.result
    (c.is_of_class-is_added.ensures items classes) (c.loop-number.invariant items classes) c.in_ok-add_name.ensures

pub returns : goal.returns
returns c = λ items classes.
    let all : c.loop-number.number ≡ length c.args.names.now = omega (arith, c.loop-number-test.false, c.loop-number.auto.number-end) in
    subst (λ (n : ℕ). c.loop-number.made.items ≡ names_at c.args.names.now (filter (is_of_class c.args.class (map (λ f. f.name) c.args.features.now) (list c.args.names.now items)) (range_with_len 0 n))) all
    (c.loop-number.invariant items classes)
