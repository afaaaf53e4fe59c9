use Rattle.std.proofs.Common.{length, map, ap, sym, subst, ◌∙◌}
use Rattle.linear_atoms.specs.Atoms.{AreAtoms}
use Rattle.atom_solver.specs.Spans.{span_of}
use Rattle.atom_solver.proofs.Boxed.{whole_box, atoms_box}
use Rattle.atom_solver.proofs.Pointing.{box_is}
use Rattle.atom_solver.proofs.prepared.valid_box.Goals as goal

pub is_untrue-requires-clause-atoms : goal.is_untrue-requires-clause-atoms
is_untrue-requires-clause-atoms c =
    subst (λ x. AreAtoms (length c.deref.result.now) x) (sym c.deref-2.ensures.value)
    (atoms_box c.args.model.now c.deref.result.now c.in_ok-whole.whole.items c.args.question.now.atoms.items
    c.deref.ensures.value (c.in_ok-whole.ensures ∙ ap (map span_of) c.items.ensures) c.requires.atoms)

pub is_untrue-requires-clause-ranges : goal.is_untrue-requires-clause-ranges
is_untrue-requires-clause-ranges c =
    box_is c.args.model.now.features c.deref.result.now (c.deref.ensures.value ∙ c.in_ok-whole.ensures ∙ ap (map span_of) c.items.ensures) c.requires.ranges

pub returns-then-is_out : goal.returns-then-is_out
returns-then-is_out c =
    whole_box c.args.model.now c.in_ok-whole.whole.items (c.in_ok-whole.ensures ∙ ap (map span_of) c.items.ensures) c.requires.ranges

pub narrowed-requires-clause-ranges : goal.narrowed-requires-clause-ranges
narrowed-requires-clause-ranges c =
    box_is c.args.model.now.features c.deref-6.result.now (c.deref-6.ensures.value ∙ c.in_ok-whole.ensures ∙ ap (map span_of) c.items.ensures) c.requires.ranges
