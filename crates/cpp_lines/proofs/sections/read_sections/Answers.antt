use Rattle.std.proofs.Common.{◌≡◌, List, [], length, map, Ok, refl, sym, ap, subst, ◌∙◌}
use Rattle.linear_atoms.specs.declared.atoms.Atom.{Atom}
use Rattle.linear_atoms.specs.Atoms.{AreAtoms}
use Rattle.cpp_conditions.specs.declared.conditions.Condition.{Condition}
use Rattle.cpp_conditions.specs.Numbering.{AreAllAmong}
use Rattle.cpp_conditions.specs.Validity.{plain}
use Rattle.cpp_conditions.specs.View.{proposition}
use Rattle.cpp_lines.specs.declared.line.Line.{Line}
use Rattle.cpp_lines.specs.Lines.{pieces, AreLinesFrom, AreLinesOf, AreCounted}
use Rattle.cpp_lines.specs.Sections.{AreNumberedBelow}
use Rattle.cpp_lines.specs.Taking.{meant}
use Rattle.cpp_lines.proofs.Adding.{atoms_fit}
use Rattle.cpp_lines.proofs.LineNumbers.{counted}
use Rattle.cpp_lines.proofs.Numbering.{among_behind, lines_are, numbers_are, same_count}
use Rattle.cpp_lines.proofs.sections.read_sections.Goals as goal

pub formulas_of-requires-clause-among : goal.formulas_of-requires-clause-among
formulas_of-requires-clause-among c =
    let among : AreAllAmong c.in_ok-reading.reading.atoms.items (meant c.in_ok-reading.reading) =
    among_behind c.in_ok-reading.reading.atoms.items (map proposition c.args.model.now.constraints) (meant c.in_ok-reading.reading) c.in_ok-reading.ensures.kept.atoms.all in
    subst (λ (atoms : List Atom). AreAllAmong atoms (map proposition c.deref.result.now)) (sym c.deref-2.ensures.value)
    (subst (λ (cs : List Condition). AreAllAmong c.in_ok-reading.reading.atoms.items (map proposition cs)) (sym c.deref.ensures.value) among)

pub returns-clause-lines : goal.returns-clause-lines
unfolding AreLinesOf
returns-clause-lines c =
    subst (λ (ls : List Line). AreLinesFrom 0 (pieces c.args.blanked.now) ls) (sym c.from_vec.ensures)
    (lines_are c.args.dialect (plain c.args.model.now) c.args.blanked.now [] [] [] 0 (pieces c.args.blanked.now) (Ok (record { lines = c.in_ok-reading.reading.lines.items; conditions = meant c.in_ok-reading.reading })) c.in_ok-reading.ensures.read)

pub returns-clause-atoms : goal.returns-clause-atoms
returns-clause-atoms c =
    subst (λ (atoms : List Atom). AreAtoms (length c.args.model.now.features) atoms) (sym c.from_vec-3.ensures)
    (atoms_fit (length c.args.model.now.features) c.in_ok-reading.reading.atoms.items c.args.model.now.constraints c.in_ok-reading.reading.conditions.items c.requires.fit c.in_ok-reading.ensures.kept.fit
    c.in_ok-reading.ensures.kept.atoms)

pub returns-clause-numbered : goal.returns-clause-numbered
returns-clause-numbered c =
    let all = numbers_are c.args.dialect (plain c.args.model.now) c.args.blanked.now [] [] [] 0 (pieces c.args.blanked.now) (Ok (record { lines = c.in_ok-reading.reading.lines.items; conditions = meant c.in_ok-reading.reading })) c.in_ok-reading.ensures.read in
    let count : length c.from_vec-2.result ≡ length (meant c.in_ok-reading.reading) =
    ap length c.from_vec-2.ensures ∙ sym (same_count c.deref-2.result.now (map proposition c.deref.result.now) c.in_ok-conditions.conditions.items c.in_ok-conditions.ensures.numbered)
    ∙ ap (λ (cs : List Condition). length (map proposition cs)) c.deref.ensures.value in
    subst (λ (ls : List Line). AreNumberedBelow (length c.from_vec-2.result) ls) (sym c.from_vec.ensures) (all (length c.from_vec-2.result) count)

pub returns-clause-numbers : goal.returns-clause-numbers
returns-clause-numbers c =
    subst (λ (ls : List Line). AreCounted 1 ls) (sym c.from_vec.ensures)
    (counted c.args.dialect (plain c.args.model.now) c.args.blanked.now [] [] [] 0 c.args.blanked.now (pieces c.args.blanked.now) 1 (Ok (record { lines = c.in_ok-reading.reading.lines.items; conditions = meant c.in_ok-reading.reading })) refl refl refl
    c.in_ok-reading.ensures.read)
