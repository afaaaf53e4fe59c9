use Rattle.std.proofs.Common.{ℤ, List, true, Some, None, subst, sym, ◌∙◌}
use Rattle.linear_atoms.specs.declared.atoms.Config.{Config}
use Rattle.cpp_conditions.specs.declared.models.Model.{Model}
use Rattle.cpp_conditions.specs.Propositions.{true_at}
use Rattle.cpp_conditions.specs.Validity.{IsConfig}
use Rattle.cpp_conditions.specs.View.{proposition}
use Rattle.atom_solver.specs.Solutions.{Finds}
use Rattle.atom_solver.proofs.Boxed.{void_finds}
use Rattle.atom_solver.proofs.Foremost.{least_is, least_config, least_fit, least_met}
use Rattle.atom_solver.proofs.prepared.Prepared.first.Goals as goal

pub returns-in-None-clause-first : goal.returns-in-None-clause-first
returns-in-None-clause-first c =
    let p = proposition c.args.wanted.now in
    let s = c.self.inside in
    subst (λ (x : Model). Finds x (λ (values : List ℤ). true_at values p) None) c.self.view_is
    (void_finds s.model.now s.spans.items s.least (λ (values : List ℤ). true_at values p) c.self.invariant.has_all c.in-None.is c.self.invariant.least)

pub at-requires-clause-fit : goal.at-requires-clause-fit
at-requires-clause-fit c =
    let s = c.self.inside in
    let k : Config = c.in-Some.least in
    let f : Finds s.model.now (λ (values : List ℤ). true) (Some k) = least_is s.model.now s.spans.items s.least k c.self.invariant.has_all c.in-Some.is c.self.invariant.least in
    let g : IsConfig s.model.now.features k.values = least_config s.model.now k c.self.invariant.ranges f in
    least_fit c.args.self.now k (proposition c.args.wanted.now) (subst (λ (x : Model). IsConfig x.features k.values) c.self.view_is g) c.requires

pub at-requires-clause-values : goal.at-requires-clause-values
at-requires-clause-values c =
    let s = c.self.inside in
    let k : Config = c.in-Some.least in
    let f : Finds s.model.now (λ (values : List ℤ). true) (Some k) = least_is s.model.now s.spans.items s.least k c.self.invariant.has_all c.in-Some.is c.self.invariant.least in
    (least_config s.model.now k c.self.invariant.ranges f).small

pub returns-then-at-clause-first : goal.returns-then-at-clause-first
returns-then-at-clause-first c =
    let s = c.self.inside in
    let k : Config = c.in-Some.least in
    let f : Finds s.model.now (λ (values : List ℤ). true) (Some k) = least_is s.model.now s.spans.items s.least k c.self.invariant.has_all c.in-Some.is c.self.invariant.least in
    least_met c.args.self.now k (record { values = c.in_ok-values-in-Some.values }) (λ (values : List ℤ). true_at values (proposition c.args.wanted.now))
    (subst (λ (x : Model). Finds x (λ (values : List ℤ). true) (Some k)) c.self.view_is f) c.in_ok-values-in-Some.ensures (sym c.at.ensures ∙ c.if-at.true)

pub returns-then-at-clause-config : goal.returns-then-at-clause-config
returns-then-at-clause-config c =
    let s = c.self.inside in
    let k : Config = c.in-Some.least in
    let f : Finds s.model.now (λ (values : List ℤ). true) (Some k) = least_is s.model.now s.spans.items s.least k c.self.invariant.has_all c.in-Some.is c.self.invariant.least in
    let g : IsConfig s.model.now.features k.values = least_config s.model.now k c.self.invariant.ranges f in
    subst (λ (x : List ℤ). IsConfig c.args.self.now.features x) (sym c.in_ok-values-in-Some.ensures) (subst (λ (x : Model). IsConfig x.features k.values) c.self.view_is g)
