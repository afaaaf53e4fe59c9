use Rattle.std.proofs.Common.{◌+◌, ◌<◌, ap, ◌∙◌, arith}
use Rattle.linear_atoms.specs.declared.forms.Linear.{Linear}
use Rattle.feature_tests.proofs.Tested.{single}
use Rattle.feature_tests.proofs.void_questions.is_on.Goals as goal

pub returns : goal.returns
returns c =
    let h : c.args.place < 3 = c.requires.place in
    single (c.args.free + 3) (c.args.free + c.args.place) _ (c.in_ok-terms.ensures ∙ ap (λ (x : Linear). x.terms) c.in_ok-form.ensures.exact) (omega arith)
