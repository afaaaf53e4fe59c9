use Rattle.std.proofs.Common.{rules, subst, sym, length, ◌∙◌, []}
use Rattle.linear_atoms.specs.Atoms.{AreLiterals}
use Rattle.atom_solver.specs.Solutions.{IsFirst, all_hold}
use Rattle.alarm_report.specs.Regions.{AreStanding}
use Rattle.alarm_report.proofs.Covering.{literals_fit, stands_same, first_same}
use Rattle.alarm_report.proofs.path_region.region_of.Goals as goal

pub least-requires : goal.least-requires
least-requires c =
    let n = length c.args.prepared.now.features in
    subst (AreLiterals n) (sym (c.deref.ensures.value ∙ c.in_ok-literals.ensures)) (literals_fit n c.args.atoms.now c.args.turns.now c.requires.atoms c.requires.tests)

pub standing-requires : goal.standing-requires
standing-requires c =
    let n = length c.args.prepared.now.features in
    subst (AreLiterals n) (sym c.in_ok-literals.ensures) (literals_fit n c.args.atoms.now c.args.turns.now c.requires.atoms c.requires.tests)

pub returns-in_ok-left-in-Some : goal.returns-in_ok-left-in-Some
returns-in_ok-left-in-Some c =
    let m = c.args.prepared.now in
    let all = c.in_ok-literals.literals.items in
    let left = c.in_ok-left-in-Some.left.items in
    let stand : AreStanding m [] all left = c.in_ok-left-in-Some.ensures in
    let first : IsFirst m (all_hold all) c.in-Some.example.values = search rules in
    let e = c.from_vec.ensures in (
      subst (λ xs. AreStanding m [] xs c.from_vec.result) c.in_ok-literals.ensures (subst (λ xs. AreStanding m [] all xs) (sym e) stand),
      subst (λ xs. IsFirst m (all_hold xs) c.in-Some.example.values) (sym e) (first_same m all left c.in-Some.example.values (stands_same m [] all left stand) first),
    )
