use Rattle.std.proofs.Common.{◌≡◌, ◌+◌, [], ◌∷◌, ◌++◌, sym, subst}
use Rattle.fam_outer.specs.declared.faults.Place.{Place}
use Rattle.fam_outer.specs.Places.{end_place}
use Rattle.fam_outer.proofs.Placing.{spot, behind_newline, behind_byte}
use Rattle.fam_outer.proofs.places.place_after.Goals as goal

pub returns-then-b-eq10-clause-value : goal.returns-then-b-eq10-clause-value
returns-then-b-eq10-clause-value c = λ front e. subst (λ (p : Place). spot (p.line + 1) 1 ≡ end_place (front ++ c.args.b ∷ [])) (sym e) (behind_newline front c.args.b c.if-b-eq10.true)

pub returns-else-b-eq10-clause-value : goal.returns-else-b-eq10-clause-value
returns-else-b-eq10-clause-value c = λ front e. subst (λ (p : Place). spot p.line (p.column + 1) ≡ end_place (front ++ c.args.b ∷ [])) (sym e) (behind_byte front c.args.b c.if-b-eq10.false)
