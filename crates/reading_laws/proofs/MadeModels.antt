-- Each model is that of a model as the code has it.
use Rattle.std.proofs.Common.{◌≡◌, List, [], ◌∷◌, length, map, refl, sym, ap, subst, ◌∙◌}
use Rattle.linear_atoms.specs.declared.atoms.Atom.{Atom}
use Rattle.linear_atoms.specs.declared.atoms.Feature.{Feature}
use Rattle.cpp_conditions.specs.declared.conditions.Condition.{Condition}
use Rattle.cpp_conditions.specs.declared.conditions.Condition.TheVariants as conditions
use Rattle.cpp_conditions.specs.Forming.{IsOverFeatures}
use Rattle.cpp_conditions.specs.Propositions.{Proposition, Const, Test, Not, And, Or}
use Rattle.cpp_conditions.specs.Validity.{AreFit, AreOpen}
use Rattle.cpp_conditions.specs.View.{proposition}
use Rattle.reading_laws.proofs.MadePrograms.{block}

condition_of : (p : Proposition Atom) → (c : Condition) × (proposition c ≡ p)
condition_of (Const b) = (conditions.Const b, refl)
condition_of (Test a) = (conditions.Test a, refl)
condition_of (Not p) = let c = condition_of p in (conditions.Not' block c.0, ap Not c.1)
condition_of (And p q) = let c = condition_of p in let d = condition_of q in (conditions.And' block c.0 block d.0, ap (λ x. And x (proposition d.0)) c.1 ∙ ap (λ x. And p x) d.1)
condition_of (Or p q) = let c = condition_of p in let d = condition_of q in (conditions.Or' block c.0 block d.0, ap (λ x. Or x (proposition d.0)) c.1 ∙ ap (λ x. Or p x) d.1)

-- each is over the features
abbrev pub AreOver : List Feature → List (Proposition Atom) → Type 0
AreOver fs [] = Unit {0}
AreOver fs (p ∷ ps) = IsOverFeatures fs p × AreOver fs ps

-- conditions that are these propositions, all over the features
pub record Made (fs : List Feature) (ps : List (Proposition Atom)) : Type 0 where
  pub list : List Condition
  pub are : map proposition list ≡ ps
  pub fit : AreFit (length fs) list
  pub undecided : AreOpen fs list

made_first : (fs : List Feature) (p : Proposition Atom) (ps : List (Proposition Atom)) (c : Condition) → proposition c ≡ p → IsOverFeatures fs p → Made fs ps → Made fs (p ∷ ps)
made_first fs p ps c e o m =
    let k = subst (IsOverFeatures fs) (sym e) o in
    record { list = c ∷ m.list; are = ap (λ x. x ∷ map proposition m.list) e ∙ ap (λ xs. p ∷ xs) m.are; fit = (k.fit, m.fit); undecided = (k.undecided, m.undecided) }

pub made_conditions : (fs : List Feature) (ps : List (Proposition Atom)) → AreOver fs ps → Made fs ps
made_conditions fs [] h = record { list = []; are = refl; fit = tt; undecided = tt }
made_conditions fs (p ∷ ps) h = let c = condition_of p in made_first fs p ps c.0 c.1 h.0 (made_conditions fs ps h.1)
