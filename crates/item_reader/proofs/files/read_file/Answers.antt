use Rattle.std.proofs.Common.{Some, refl, arith}
use Rattle.std.proofs.lemmas.Result.{err_from_is_err_and}
use Rattle.reading_states.specs.Views.{as_file, as_state}
use Rattle.item_reader.proofs.Taking.{stopped, moved_on, at_last, stops_at_end}
use Rattle.item_reader.proofs.files.read_file.Goals as goal

pub returns-in_err-next : goal.returns-in_err-next
returns-in_err-next c =
    let p = err_from_is_err_and c.from_residual.result c.from_residual.ensures.1 in
    rw (p.1, p.2) (stopped c.in_err-next.field-0.0 c.args.items.now c.loop-position.position _ _ (as_state c.loop-position.state) c.loop-position.count c.loop-position-test.true refl c.loop-position.invariant c.in_err-next.ensures)

pub loop-position-preserved : goal.loop-position-preserved
loop-position-preserved c =
    moved_on c.args.items.now c.loop-position.position _ _ (as_state c.loop-position.state) (as_state c.in_ok-next.next) c.loop-position.count c.in_ok-next.operators c.loop-position-test.true refl c.loop-position.invariant c.in_ok-next.ensures

pub returns-in-Some : goal.returns-in-Some
returns-in-Some c =
    at_last c.args.items.now c.loop-position.position (as_state c.loop-position.state) c.loop-position.count (Some (as_file c.in-Some.file)) (omega arith) c.loop-position.invariant c.in-Some.ensures

pub returns-in-None : goal.returns-in-None
returns-in-None c =
    stops_at_end c.args.items.now c.loop-position.position (as_state c.loop-position.state) c.loop-position.count (omega arith) c.loop-position.invariant c.in-None.ensures
