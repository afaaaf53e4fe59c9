use Rattle.lifted_analysis.proofs.FamilyLemmas.{got, choice_truth}
use Rattle.lifted_analysis.proofs.family_context.FamilyContext.choice.Goals as goal

pub returns-in-Some-clause-truth : goal.returns-in-Some-clause-truth
returns-in-Some-clause-truth c =
    let self = c.args.self.now in
    let found = c.in-Some.ensures.lookup in
    choice_truth self c.args.number c.in-Some.choice.now c.requires (got self.choices.now c.args.number c.in-Some.choice.now found.3.0 found.1)
