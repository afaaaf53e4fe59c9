use Rattle.std.proofs.Common.{◌≡◌, ◌++◌, [], ◌∷◌, sym, ap, subst, ◌∙◌, arith, map, length, ◌≤◌, List, ℕ, Result, Ok, Err}
use Rattle.std.specs.Borrow.{Bor}
use Rattle.fam_outer.specs.declared.dialect.Dialect.{Dialect}
use Rattle.fam_outer.specs.declared.faults.ConditionFault.{ConditionFault}
use Rattle.fam_outer.specs.declared.faults.FileCode.{FileCode}
use Rattle.fam_outer.specs.declared.refusal.Refusal.{Refusal}
use Rattle.cpp_conditions.specs.declared.reading.ConditionRefusal.{ConditionRefusal}
use Rattle.cpp_conditions.specs.declared.reading.ConditionRefusal.TheVariants as conditions
use Rattle.cpp_conditions.specs.declared.conditions.Condition.{Condition}
use Rattle.cpp_conditions.specs.Distinct.{AreAtomsOf}
use Rattle.cpp_conditions.specs.Validity.{Plain, plain, AreFit}
use Rattle.linear_atoms.specs.declared.atoms.Feature.{Feature}
use Rattle.cpp_conditions.specs.Macros.{among}
use Rattle.cpp_conditions.specs.View.{proposition}
use Rattle.cpp_lines.specs.declared.sections.Reading.{Reading}
use Rattle.cpp_lines.specs.Taking as taking
use Rattle.cpp_lines.proofs.Adding.{one_more_behind, few_of, more_of, meant_more, fit_more}
use Rattle.cpp_lines.proofs.sections.add_condition.Goals as goal

refused : (dialect : Dialect) (m : Plain) (text : Result (List ℕ) ConditionFault) (old new : Reading) (r : ConditionRefusal) → taking.ReadsText (taking.macros_of dialect old) m.features text (Err r) → taking.Adds dialect m text old new (Err (taking.condition_refusal r))
refused dialect m text old new conditions.NoMemory h = tt
refused dialect m text old new (conditions.Fault fault) h = taking.unread fault h

-- what is read over the features and the names that are lent is read over those of the model and the file
over : (dialect : Dialect) (reading : Reading) (above defined : List (Bor (List ℕ))) (m : Plain) (fs : List Feature) (text : Result (List ℕ) ConditionFault) (r : Result Condition ConditionRefusal) → above ≡ reading.above.items → defined ≡ reading.defined.items
    → fs ≡ m.features → taking.ReadsText (among dialect.unknown (taking.plain_names above) (taking.plain_names defined)) fs text r → taking.ReadsText (taking.macros_of dialect reading) m.features text r
over dialect reading above defined m fs text r a d e h =
    subst (λ (xs : List Feature). taking.ReadsText (taking.macros_of dialect reading) xs text r) e
    (subst (λ (ns : List (Bor (List ℕ))). taking.ReadsText (among dialect.unknown (taking.plain_names ns) (taking.plain_names reading.defined.items)) fs text r) a
    (subst (λ (ns : List (Bor (List ℕ))). taking.ReadsText (among dialect.unknown (taking.plain_names above) (taking.plain_names ns)) fs text r) d h))

pub returns-in-Err-clause-adds : goal.returns-in-Err-clause-adds
returns-in-Err-clause-adds c =
    subst (λ (r : Refusal FileCode). taking.Adds c.args.dialect (plain c.args.model.now) c.args.text.now c.args.reading.now c.args.reading.now (Err r)) (sym c.condition_refusal.ensures)
    (refused c.args.dialect (plain c.args.model.now) c.args.text.now c.args.reading.now c.args.reading.now c.in-Err.refusal
    (over c.args.dialect c.args.reading.now c.as_slice.result.now c.as_slice-2.result.now (plain c.args.model.now) c.items.result.now c.args.text.now (Err c.in-Err.refusal) c.as_slice.ensures.value c.as_slice-2.ensures.value c.items.ensures c.in-Err.ensures))

pub returns-then-len-gt-MOST_ATOMS-clause-adds : goal.returns-then-len-gt-MOST_ATOMS-clause-adds
returns-then-len-gt-MOST_ATOMS-clause-adds c =
    let read : taking.ReadsText (taking.macros_of c.args.dialect c.args.reading.now) c.args.model.now.features c.args.text.now (Ok c.in-Ok.condition) =
    over c.args.dialect c.args.reading.now c.as_slice.result.now c.as_slice-2.result.now (plain c.args.model.now) c.items.result.now c.args.text.now (Ok c.in-Ok.condition) c.as_slice.ensures.value c.as_slice-2.ensures.value c.items.ensures c.in-Ok.ensures in
    let all = one_more_behind (map proposition c.args.model.now.constraints) (taking.meant c.args.reading.now) (proposition c.in-Ok.condition) c.args.reading.now.atoms.items c.add_atoms.new.atoms.items
    c.requires.kept.atoms c.add_atoms.ensures.grows (c.in_ok-add_atoms.ensures.all) in
    taking.crowded (proposition c.in-Ok.condition) read.0
    (more_of (map proposition c.args.model.now.constraints ++ (taking.meant c.args.reading.now ++ proposition c.in-Ok.condition ∷ [])) c.add_atoms.new.atoms.items all (omega (arith, c.len.ensures, c.if-len-gt-MOST_ATOMS.true)))

pub returns-clause-adds : goal.returns-clause-adds
returns-clause-adds c =
    let cs = map proposition c.args.model.now.constraints in
    let ps = taking.meant c.args.reading.now in
    let p = proposition c.in-Ok.condition in
    let read : taking.ReadsText (taking.macros_of c.args.dialect c.args.reading.now) c.args.model.now.features c.args.text.now (Ok c.in-Ok.condition) =
    over c.args.dialect c.args.reading.now c.as_slice.result.now c.as_slice-2.result.now (plain c.args.model.now) c.items.result.now c.args.text.now (Ok c.in-Ok.condition) c.as_slice.ensures.value c.as_slice-2.ensures.value c.items.ensures c.in-Ok.ensures in
    let all = one_more_behind (map proposition c.args.model.now.constraints) (taking.meant c.args.reading.now) (proposition c.in-Ok.condition) c.args.reading.now.atoms.items c.add_atoms.new.atoms.items
    c.requires.kept.atoms c.add_atoms.ensures.grows (c.in_ok-add_atoms.ensures.all) in
    let few : length c.add_atoms.new.atoms.items ≤ 64 = omega (arith, c.len.ensures, c.if-len-gt-MOST_ATOMS.false) in
    let pushed : c.push.new.self.items ≡ c.args.reading.now.conditions.items ++ c.in-Ok.condition ∷ [] = c.in_ok-push.ensures.items in
    let now : map proposition c.push.new.self.items ≡ taking.meant c.args.reading.now ++ proposition c.in-Ok.condition ∷ [] =
    ap (map proposition) pushed ∙ meant_more c.args.reading.now.conditions.items c.in-Ok.condition in
    record {
      added = proposition c.in-Ok.condition;
      is_read = read.0;
      few = few_of (cs ++ (ps ++ p ∷ [])) c.add_atoms.new.atoms.items all few;
      meant_now = now;
      kept = record {
        atoms = subst (λ qs. AreAtomsOf (map proposition c.args.model.now.constraints ++ qs) c.add_atoms.new.atoms.items) (sym now) all;
        few = few;
        fit = subst (AreFit (length c.args.model.now.features)) (sym pushed) (fit_more (length c.args.model.now.features) c.args.reading.now.conditions.items c.in-Ok.condition c.requires.kept.fit read.1);
      };
    }
