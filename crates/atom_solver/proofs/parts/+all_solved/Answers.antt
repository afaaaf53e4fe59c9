use Rattle.std.proofs.Common.{true, None}
use Rattle.cpp_conditions.specs.Propositions.{Const}
use Rattle.atom_solver.specs.Free.{Serves}
use Rattle.atom_solver.specs.Spans.{ranges, meets, FindsIn}
use Rattle.atom_solver.proofs.Freed.{served_found}
use Rattle.atom_solver.proofs.parts.+all_solved.Goals as goal

pub returns-in-None-3 : goal.returns-in-None-3
returns-in-None-3 t c =
    let m = meets c.args.conditions.now (Const true) in
    let old = c.args.spans.now in
    let new = c.in-Some-2.inner.items in
    let d = c.deref-in-Some-2.result.now in
    let s : Serves m old new = rw c.in-Some-2.is at c.in_ok-solved-in-Some.ensures in
    let f : FindsIn (ranges d) m None = rw c.in-None-3.is at c.in_ok-all_solved-in-Some-2.ensures in
    served_found m old new d None s c.deref-in-Some-2.ensures.value f
