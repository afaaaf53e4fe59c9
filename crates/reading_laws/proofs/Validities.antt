-- A model has a valid configuration, or none.
use Rattle.std.proofs.Common.{ℤ, ◌⊎◌, inl, inr, List, Option, Some, None, sym, ◌∙◌, true≢false}
use Rattle.linear_atoms.specs.declared.atoms.Config.{Config}
use Rattle.cpp_conditions.specs.Validity.{Plain, all_true, IsValid}
use Rattle.cpp_conditions.proofs.Within.{valid_parts, valid_from}
use Rattle.atom_solver.specs.Spans.{FindsIn}
use Rattle.reading_laws.proofs.Searching.{search}

found_valid : (model : Plain) (found : Option Config) → FindsIn model.features (λ vs. all_true vs model.constraints) found → ((values : List ℤ) × IsValid model values) ⊎ ((values : List ℤ) → IsValid model values → ⊥)
found_valid model None f = inr (λ vs v. let p = valid_parts model vs v in true≢false (sym p.1 ∙ f vs p.0))
found_valid model (Some k) f = inl (k.values, valid_from model k.values f.within f.met)

pub valid_or_void : (model : Plain) → ((values : List ℤ) × IsValid model values) ⊎ ((values : List ℤ) → IsValid model values → ⊥)
valid_or_void model = let s = search model.features (λ vs. all_true vs model.constraints) in found_valid model s.0 s.1
