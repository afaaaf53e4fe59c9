use Rattle.std.proofs.Common.{true, Some}
use Rattle.cpp_conditions.specs.Propositions.{Const}
use Rattle.atom_solver.specs.Parts.{IsPart}
use Rattle.atom_solver.specs.Spans.{ranges, meets, FindsIn}
use Rattle.atom_solver.proofs.Apart.{settled_part}
use Rattle.atom_solver.proofs.parts.solved.Goals as goal

pub returns : goal.returns
returns c =
    let cs = c.args.conditions.now in
    let ms = c.args.marks.now in
    let ss = c.args.spans.now in
    let d = c.deref.result.now in
    let s : IsPart ms cs c.in-Some.part.items = rw c.in-Some.is at c.in_ok-part_of.ensures in
    let f : FindsIn (ranges ss) (meets d (Const true)) (Some c.in-Some-2.config) = rw c.in-Some-2.is at c.in_ok-first_alone-in-Some.ensures in
    settled_part cs c.in-Some.part.items d ms ss c.in_ok-inner-in-Some-2.inner.items c.in-Some-2.config c.items.result.now
    c.requires.ranges s c.deref.ensures.value f c.items.ensures c.in_ok-inner-in-Some-2.ensures
