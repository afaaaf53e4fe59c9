use Rattle.std.proofs.Common.{◌≡◌, ◌*ℤ◌, true, sym, ◌∙◌, rules, w64, to_z, of_z, FitsSigned}
use Rattle.std.proofs.lemmas.Int.{to_z-of_z}
use Rattle.linear_terms.proofs.Merges.{terms_some}
use Rattle.linear_atoms.specs.Forms.{form_by, terms_by, is_small}
use Rattle.linear_atoms.proofs.Sizes.{made_small}
use Rattle.linear_atoms.proofs.forms.Linear.scale.Goals as goal

pub returns-clause-exact : goal.returns-clause-exact
returns-clause-exact c =
    let a = c.args.self.now in
    let by = c.args.by in
    let f : FitsSigned w64 by = c.ranges.by in
    let k : to_z w64 (of_z w64 c.in_ok-constant.constant) ≡ a.constant *ℤ by = search rules in
    let s : is_small (a.constant *ℤ by) ≡ true = search rules in
    let e = simp to_z-of_z at c.in_ok-terms.ensures.exact in
    made_small (form_by by a) _ _ (terms_some 2147483648 (terms_by by a.terms) c.in-Some.terms (sym c.in-Some.is ∙ e)) k s
