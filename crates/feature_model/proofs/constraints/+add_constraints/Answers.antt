use Rattle.std.proofs.Common.{Ok, Err, subst}
use Rattle.cpp_conditions.specs.Grammar.{ReadsAs}
use Rattle.cpp_conditions.specs.Macros.{no_macros}
use Rattle.cpp_conditions.specs.Reading.{IsConditionRead}
use Rattle.cpp_conditions.specs.View.{proposition}
use Rattle.feature_model.proofs.Adding.{nothing_added, text_refused, first_added, fit_more, open_more}
use Rattle.feature_model.proofs.constraints.+add_constraints.Goals as goal

pub returns-in_default-clause-read : goal.returns-in_default-clause-read
returns-in_default-clause-read t c = nothing_added c.args.unknown c.args.features.now c.args.number c.args.texts.now c.args.made.now.items tt c.in_default.ensures

pub returns-in-Err-clause-read : goal.returns-in-Err-clause-read
returns-in-Err-clause-read t c =
    text_refused c.args.unknown c.args.features.now c.args.number c.args.texts.now c.in-Some.behind.now c.in-Some.text.now c.args.made.now.items c.in-Err.refusal c.numbered.result c.in-Some.ensures
    (subst (λ b. IsConditionRead (no_macros c.args.unknown) c.args.features.now b (Err c.in-Err.refusal)) c.bytes.ensures
    (subst (λ m. IsConditionRead m c.args.features.now c.bytes.result.now (Err c.in-Err.refusal)) c.no_macros.ensures c.in-Err.ensures.read)) c.numbered.ensures

pub returns-clause-read : goal.returns-clause-read
returns-clause-read t c =
    first_added c.args.unknown c.args.features.now c.args.number c.args.texts.now c.in-Some.behind.now c.in-Some.text.now c.args.made.now.items c.push.new.self.items c.add_constraints.new.made.items c.in-Ok.condition c.add_constraints.result c.in-Some.ensures
    (subst (λ b. ReadsAs (no_macros c.args.unknown) c.args.features.now b (Ok (proposition c.in-Ok.condition))) c.bytes.ensures
    (subst (λ m. ReadsAs m c.args.features.now c.bytes.result.now (Ok (proposition c.in-Ok.condition))) c.no_macros.ensures c.in-Ok.ensures.read)) c.in_ok-push-in-Ok.ensures.items c.add_constraints.ensures.read

pub returns-clause-fit : goal.returns-clause-fit
returns-clause-fit t c h = c.add_constraints.ensures.fit (fit_more _ c.args.made.now.items c.push.new.self.items c.in-Ok.condition c.in_ok-push-in-Ok.ensures.items c.in-Ok.ensures.fit h)

pub returns-clause-undecided : goal.returns-clause-undecided
returns-clause-undecided t c h = c.add_constraints.ensures.undecided (open_more c.args.features.now c.args.made.now.items c.push.new.self.items c.in-Ok.condition c.in_ok-push-in-Ok.ensures.items c.in-Ok.ensures.undecided h)
