use Rattle.std.proofs.Common.{◌≡◌, ◌+ℤ◌, true, sym, ◌∙◌, rules, w64, to_z, of_z}
use Rattle.linear_terms.proofs.Merges.{terms_some}
use Rattle.linear_atoms.specs.Forms.{form_sum, terms_sum, is_small}
use Rattle.linear_atoms.proofs.Sizes.{made_small}
use Rattle.linear_atoms.proofs.forms.Linear.add.Goals as goal

pub returns-clause-exact : goal.returns-clause-exact
returns-clause-exact c =
    let a = c.args.self.now in
    let b = c.args.other.now in
    let k : to_z w64 (of_z w64 c.in_ok-constant.constant) ≡ a.constant +ℤ b.constant = search rules in
    let s : is_small (a.constant +ℤ b.constant) ≡ true = search rules in
    made_small (form_sum a b) _ _ (terms_some 2147483648 (terms_sum a.terms b.terms) c.in-Some.terms (sym c.in-Some.is ∙ c.in_ok-terms.ensures.exact)) k s
