use Rattle.std.proofs.Common.{ℕ, length, sym, subst, arith}
use Rattle.c_tree.specs.Project.{IsConditioned}
use Rattle.c_tree.specs.View.{whole}
use Rattle.c_tree.specs.Whole.{IsProgram}
use Rattle.c_parser.specs.FamilyReading.{uses_in}
use Rattle.c_parser.proofs.FamilyAnswers.{conditioned, family_of, in_blocks, names_are_few, tests_are_few}
use Rattle.c_parser.proofs.family.read_family.Goals as goal

pub with_values-requires-clause-names : goal.with_values-requires-clause-names
with_values-requires-clause-names c =
    omega (arith, names_are_few (in_blocks c.names_stay.ensures.names c.family_names_occur.ensures) c.args.dialect c.args.model.now c.args.bytes.now c.in_ok-code.known (whole c.in_ok-code.code) c.in_ok-code.ensures.reads)

pub with_values-requires-clause-proper : goal.with_values-requires-clause-proper
with_values-requires-clause-proper c = c.in_ok-code.ensures.has.has.conditions

pub with_values-requires-clause-few : goal.with_values-requires-clause-few
with_values-requires-clause-few c =
    tests_are_few (in_blocks c.names_stay.ensures.names c.family_names_occur.ensures) c.args.dialect c.args.model.now c.args.bytes.now c.in_ok-code.known (whole c.in_ok-code.code) c.in_ok-code.ensures.reads

pub returns-clause-reads : goal.returns-clause-reads
returns-clause-reads c =
    family_of c.args.dialect c.args.model.now c.args.bytes.now c.in_ok-code.known (whole c.in_ok-code.code) c.in_ok-with_values.field-0 c.in_ok-code.ensures.reads c.in_ok-with_values.ensures.code c.in_ok-with_values.ensures.tests

pub returns-clause-program : goal.returns-clause-program
returns-clause-program c =
    let features = c.args.model.now.features in
    let p = whole c.in_ok-code.code in
    subst IsProgram (sym c.in_ok-with_values.ensures.code)
    (c.values_keep_programs.ensures.program (length c.in_ok-code.known.formulas) features (uses_in c.args.model.now p) p c.requires.features.ranges (c.uses_stand.ensures features p.names).1
    (c.in_ok-code.ensures.program (omega (arith, names_are_few (in_blocks c.names_stay.ensures.names c.family_names_occur.ensures) c.args.dialect c.args.model.now c.args.bytes.now c.in_ok-code.known (whole c.in_ok-code.code) c.in_ok-code.ensures.reads))))

pub returns-clause-conditioned : goal.returns-clause-conditioned
returns-clause-conditioned c =
    let features = c.args.model.now.features in
    let p = whole c.in_ok-code.code in
    subst (λ (n : ℕ). IsConditioned n (whole c.in_ok-with_values.field-0.code)) (sym c.in_ok-with_values.ensures.count)
    (subst (IsConditioned _) (sym c.in_ok-with_values.ensures.code)
    (c.values_keep_programs.ensures.conditions (length c.in_ok-code.known.formulas) features (uses_in c.args.model.now p) p
    (conditioned c.files_are_programs.ensures.conditions c.within_the_limits_is_a_file.ensures (length c.args.model.now.features) p c.in_ok-code.known c.in_ok-code.ensures.has)))
