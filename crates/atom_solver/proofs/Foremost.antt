-- The least valid configuration, where what is wanted is true at it; and that of the least values, where it is valid.
use Rattle.std.proofs.Common.{◌≡◌, ℕ, ℤ, Bool, true, List, length, map, Option, Some, None, sym, ap, subst, refl, ◌∙◌}
use Rattle.std.specs.Prelude.{IfSome}
use Rattle.linear_atoms.specs.declared.atoms.Config.{Config}
use Rattle.linear_atoms.specs.declared.atoms.Atom.{Atom}
use Rattle.linear_atoms.specs.declared.atoms.Literal.{Literal}
use Rattle.linear_atoms.specs.Atoms.{AreRanges}
use Rattle.linear_atoms.specs.declared.ranges.Span.{Span}
use Rattle.cpp_conditions.specs.declared.conditions.Condition.{Condition}
use Rattle.cpp_conditions.specs.declared.models.Model.{Model}
use Rattle.cpp_conditions.specs.Propositions.{Proposition, Const, IsFit}
use Rattle.cpp_conditions.specs.Validity.{IsConfig, IsValid, plain}
use Rattle.atom_solver.specs.Narrowing.{HasAllValid}
use Rattle.atom_solver.specs.Solutions.{Finds, IsBefore, all_hold}
use Rattle.atom_solver.specs.Spans.{ranges, span_of, meets, FindsIn, FindsLow}
use Rattle.atom_solver.specs.Wanted.{of_literals}
use Rattle.atom_solver.proofs.Boxed.{all_serves, found_box}
use Rattle.atom_solver.proofs.Pointing.{found_config, found_model, length_box}
use Rattle.atom_solver.proofs.Wants.{found_least}

pub least_is : (model : Model) (spans : List Span) (found : Option Config) (c : Config) → HasAllValid model spans → found ≡ Some c → FindsIn (ranges spans) (meets model.constraints (Const true)) found → Finds model (λ (values : List ℤ). true) (Some c)
least_is model spans found c h e f =
    found_box model (Const true) spans model.constraints (Some c) (all_serves model (Const true) spans h) refl (subst (λ x. FindsIn (ranges spans) (meets model.constraints (Const true)) x) e f)

-- no valid configuration is before it, so it is the first at which anything holds that holds at it
pub least_met : (model : Model) (c d : Config) (t : List ℤ → Bool) → Finds model (λ (values : List ℤ). true) (Some c) → d.values ≡ c.values → t c.values ≡ true → Finds model t (Some d)
least_met model c d t f e h = record {
  valid = subst (IsValid (plain model)) (sym e) f.valid;
  met = ap t e ∙ h;
  first = λ vs v m b. f.first vs v refl (subst (IsBefore vs) e b);
}

pub least_config : (model : Model) (c : Config) → AreRanges model.features → Finds model (λ (values : List ℤ). true) (Some c) → IsConfig model.features c.values
least_config model c r f = found_config model (λ (values : List ℤ). true) (Some c) r f

pub least_fit : (model : Model) (c : Config) (p : Proposition Atom) → IsConfig model.features c.values → IsFit (length model.features) p → IsFit (length c.values) p
least_fit model c p k f = subst (λ x. IsFit x p) (sym k.count) f

-- ---- the least values of all ranges

pub low_count : (model : Model) (box spans : List Span) (P : ℕ → Type 0) → box ≡ spans → spans ≡ map span_of model.features → P (length model.features) → P (length box)
low_count model box spans P g e h = subst P (sym (ap length (g ∙ e) ∙ length_box model.features)) h

pub low_first : (model : Model) (ls : List Literal) (p : Proposition Atom) (box : List Span) (cs : List Condition) (found : Option Config) → p ≡ of_literals ls (Const true) → box ≡ map span_of model.features → cs ≡ model.constraints
    → FindsLow box (meets cs p) found → IfSome found (λ (k : Config). Finds model (λ (values : List ℤ). all_hold ls values) (Some k))
low_first model ls p box cs None e g h f = tt
low_first model ls p box cs (Some k) e g h f = found_least model ls p (Some k) e (found_model model p box cs (Some k) g h f)
