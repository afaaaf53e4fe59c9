use Rattle.std.proofs.Common.{◌≡◌, ℕ, List, [], ◌∷◌, Some, None, Result, Ok, Err, sym, rules}
use Rattle.std.specs.Prelude.{⊤}
use Rattle.std.proofs.lemmas.List.{append-nil}
use Rattle.fam_outer.specs.declared.dialect.Dialect.{Dialect}
use Rattle.fam_outer.specs.declared.faults.ConditionFault.{ConditionFault}
use Rattle.fam_outer.specs.declared.faults.FileCode.{FileCode}
use Rattle.fam_outer.specs.declared.refusal.Refusal.{Refusal}
use Rattle.fam_outer.specs.declared.refusal.Refusal.TheVariants as refusals
use Rattle.cpp_conditions.specs.Validity.{Plain}
use Rattle.cpp_lines.specs.declared.sections.Reading.{Reading}
use Rattle.cpp_lines.specs.GroupConditions.{condition_in}
use Rattle.cpp_lines.specs.Nesting.{line_fault}
use Rattle.cpp_lines.specs.Opens.{flags}
use Rattle.cpp_lines.specs.Sections as sections
use Rattle.cpp_lines.specs.Taking as taking
use Rattle.cpp_lines.proofs.sections.judge_line.Goals as goal

refused : (dialect : Dialect) (m : Plain) (line : List ℕ) (text : Result (List ℕ) ConditionFault) (old : Reading) (code : FileCode) → line_fault dialect.includes (flags old.opens) line ≡ None → condition_in line ≡ Some text
    → taking.IsConditionRefused dialect m text old code → sections.HasFault dialect (taking.macros_of dialect old) m (flags old.opens) (taking.meant old) line code
refused dialect m line text old code f e (taking.unread fault h) = sections.refused text fault f e h
refused dialect m line text old code f e (taking.crowded p h k) = sections.crowded text p f e h k

judged : (dialect : Dialect) (m : Plain) (line : List ℕ) (text : Result (List ℕ) ConditionFault) (old new : Reading) (r : Result ⊤ (Refusal FileCode)) → line_fault dialect.includes (flags old.opens) line ≡ None → condition_in line ≡ Some text
    → taking.Adds dialect m text old new r → taking.Judges dialect m line old new r
judged dialect m line text old new (Ok u) f e h =
    record { conditions = h.added ∷ []; is_read = sections.tested text h.added f e h.is_read h.few; meant_now = h.meant_now; kept = h.kept }
judged dialect m line text old new (Err (refusals.Fault code)) f e h = refused dialect m line text old code f e h
judged dialect m line text old new (Err refusals.NoMemory) f e h = tt

pub returns-in-Some-clause-judges : goal.returns-in-Some-clause-judges
returns-in-Some-clause-judges c = sections.misplaced c.in-Some.code (sym c.in-Some.ensures)

pub returns-in-None-clause-judges : goal.returns-in-None-clause-judges
returns-in-None-clause-judges c =
    let fine : line_fault c.args.dialect.includes (flags c.args.reading.now.opens) c.args.line.now ≡ None = search rules in
    let none : condition_in c.args.line.now ≡ None = search rules in
    record {
      conditions = [];
      is_read = sections.untested fine none;
      meant_now = sym (append-nil (taking.meant c.args.reading.now));
      kept = record { atoms = c.requires.kept.atoms; few = c.requires.kept.few; fit = c.requires.kept.fit };
    }

pub returns-in-Some-2-clause-judges : goal.returns-in-Some-2-clause-judges
returns-in-Some-2-clause-judges c =
    let fine : line_fault c.args.dialect.includes (flags c.args.reading.now.opens) c.args.line.now ≡ None = search rules in
    let some : condition_in c.args.line.now ≡ Some c.in-Some-2.text = search rules in
    judged c.args.dialect _ c.args.line.now c.in-Some-2.text c.args.reading.now c.add_condition.new.reading c.add_condition.result fine some c.add_condition.ensures.adds
