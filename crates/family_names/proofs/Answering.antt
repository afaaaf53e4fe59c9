-- What the solver answers.
use Rattle.std.proofs.Common.{◌≡◌, ℕ, zero, suc, ℤ, Bool, true, false, not, ◌&&◌, List, [], ◌∷◌, Option, Some, None, refl, sym, ap, subst, ◌∙◌, nat_eq}
use Rattle.std.specs.Prelude.{◌||◌}
use Rattle.std.specs.Option.{is_none, is_some}
use Rattle.std.proofs.lemmas.List.Folds.{list_any-append}
use Rattle.std.proofs.lemmas.Bool.{eqb-true}
use Rattle.family_names.specs.declared.groups.Group.{Group}
use Rattle.linear_atoms.specs.declared.atoms.Config.{Config}
use Rattle.cpp_conditions.specs.declared.models.Model.{Model}
use Rattle.cpp_conditions.specs.declared.formulas.Formula.{Formula}
use Rattle.cpp_conditions.specs.Propositions.{IsBelow, Not, And}
use Rattle.cpp_conditions.specs.Validity.{plain, IsValid}
use Rattle.cpp_conditions.specs.View.{formula}
use Rattle.atom_solver.specs.Solutions.{Finds}
use Rattle.c_grammar.specs.declared.scoped.Scoped.{Scoped}
use Rattle.c_grammar.specs.Scoped.{is_inside, still}
use Rattle.family_names.specs.declared.declarations.Declaration.{Declaration}
use Rattle.family_names.specs.declared.seen.Seen.{Seen}
use Rattle.family_names.specs.Blocks.{is_shown, with_shown, AddsDeclaration}
use Rattle.family_names.specs.Declarations.{is_kept, is_declared}
use Rattle.family_names.specs.Groups.{are_kept}
use Rattle.family_names.specs.Names.{NameContext, truths_at}
use Rattle.family_names.specs.Judging.{AreSettled, is_missed, is_undeclared, Misses}

-- the same is found where the same holds
pub found_same : (model : Model) (a b : List ℤ → Bool) → ((values : List ℤ) → a values ≡ b values) → (found : Option Config) → Finds model a found → Finds model b found
found_same model a b same None h = λ values valid. sym (same values) ∙ h values valid
found_same model a b same (Some config) h = record {
  valid = h.valid;
  met = sym (same config.values) ∙ h.met;
  first = λ others valid met. h.first others valid (same others ∙ met);
}

and_left : (a b : Bool) → (a && b) ≡ true → a ≡ true
and_left true b e = refl
and_left false b e = absurd cc

pub not_both : (a b : Bool) → (a ≡ true → b ≡ true) → (a && not b) ≡ false
not_both true b h = rw (h refl) refl
not_both false b h = refl

kept_declared : (a b : Bool) → (a && not b) ≡ false → a ≡ true → b ≡ true
kept_declared true true e h = refl
kept_declared true false e h = absurd cc
kept_declared false b e h = absurd cc

or_cases : (a b : Bool) → (a || b) ≡ true → (P : Type 0) → (a ≡ true → P) → (b ≡ true → P) → P
or_cases true b e P f g = f refl
or_cases false b e P f g = g e

-- a name is never missed where a declaration of it is kept wherever it is
pub never_missed : (context : NameContext) (seen : Seen) (settled : Scoped Declaration) (x : ℕ) → AreSettled context seen.declarations settled
    → ((values : List ℤ) → IsValid (plain context.model) values → are_kept (truths_at context values) seen.groups ≡ true → is_declared (truths_at context values) (still 0 seen.declarations) x ≡ true)
    → Misses context seen settled x None
never_missed context seen settled x s h = record {
  fault_is = record {
    found = None;
    finds = λ values valid. not_both (are_kept (truths_at context values) seen.groups) (is_declared (truths_at context values) (still 0 seen.declarations) x) (h values valid);
    fault_is = refl;
  };
  settled_is = s;
}

kept_name : (x y : ℕ) (b : Bool) → (nat_eq x y && b) ≡ true → (x ≡ y) × (b ≡ true)
kept_name x y b e = elim (nat_eq x y) as (λ t. nat_eq x y ≡ t → (t && b) ≡ true → (x ≡ y) × (b ≡ true)) [
  | true ↦ λ f g. (eqb-true x y f, g)
  | false ↦ λ f g. absurd cc
] refl e

-- one more is settled, until the block is left
pub settled_more : (context : NameContext) (ds old new : Scoped Declaration) (groups : List Group) (x : ℕ) → is_inside ds ≡ true → AreSettled context ds old → AddsDeclaration old groups x new
    → ((values : List ℤ) → IsValid (plain context.model) values → are_kept (truths_at context values) groups ≡ true → is_declared (truths_at context values) (still 0 ds) x ≡ true) → AreSettled context ds new
settled_more context ds old new groups x inside s a h = record {
  sound = a.sound;
  inside = a.inside ∙ s.inside;
  among = λ n values y valid e. by_level n values y valid
      (subst (λ (es : List Declaration). is_declared (truths_at context values) es y ≡ true) (a.still_is n ∙ ap (λ (b : Bool). with_shown (is_shown n b) (still n old) d) (s.inside ∙ inside)) e);
}
  where
    d : Declaration
    d = record { name = x; groups = groups }

    by_level : (n : ℕ) (values : List ℤ) (y : ℕ) → IsValid (plain context.model) values → is_declared (truths_at context values) (with_shown (is_shown n true) (still n old) d) y ≡ true → is_declared (truths_at context values) (still n ds) y ≡ true
    by_level (suc n) values y valid e = s.among (suc n) values y valid e
    by_level zero values y valid e =
        or_cases (is_declared (truths_at context values) (still 0 old) y) (is_declared (truths_at context values) (d ∷ []) y)
        (sym (list_any-append (λ (c : Declaration). is_kept (truths_at context values) y c) (still 0 old) (d ∷ [])) ∙ e)
        (is_declared (truths_at context values) (still 0 ds) y ≡ true)
        (s.among 0 values y valid)
        (λ g. or_cases (is_kept (truths_at context values) y d) false g (is_declared (truths_at context values) (still 0 ds) y ≡ true)
        (λ k. let n = kept_name y x (are_kept (truths_at context values) groups) k in subst (λ (z : ℕ). is_declared (truths_at context values) (still 0 ds) z ≡ true) (sym n.0) (h values valid n.1)) (λ f. absurd cc))

pub below_both : (count : ℕ) (whole a b : Formula) → formula whole ≡ And (formula a) (formula b) → IsBelow count (formula a) → IsBelow count (formula b) → IsBelow count (formula whole)
below_both count whole a b e h k = subst (IsBelow count) (sym e) (h, k)

pub below_none : (count : ℕ) (whole a : Formula) → formula whole ≡ Not (formula a) → IsBelow count (formula a) → IsBelow count (formula whole)
below_none count whole a e h = subst (IsBelow count) (sym e) h

-- what is never missed here is settled
pub settle : (context : NameContext) (seen : Seen) (old new : Scoped Declaration) (x : ℕ) → is_inside seen.declarations ≡ true → AreSettled context seen.declarations old → AddsDeclaration old seen.groups x new
    → Finds context.model (is_missed context seen.groups (still 0 seen.declarations) x) None → Misses context seen new x None
settle context seen old new x inside s a none = record {
  fault_is = record { found = None; finds = none; fault_is = refl };
  settled_is = settled_more context seen.declarations old new seen.groups x inside s a
      (λ values valid. kept_declared (are_kept (truths_at context values) seen.groups) (is_declared (truths_at context values) (still 0 seen.declarations) x) (none values valid));
}

declared_if : (b : Bool) → not b ≡ false → b ≡ true
declared_if true e = refl
declared_if false e = absurd cc

-- an answer that there is none
pub answered_none : (found : Option Config) (answer : Bool) → is_some found ≡ not answer → answer ≡ true → is_none found ≡ true
answered_none None answer e h = refl
answered_none (Some config) answer e h = absurd (true_or_false (e ∙ ap not h))
  where
    true_or_false : true ≡ false → ⊥
    true_or_false k = absurd cc

-- where no valid configuration lacks a declaration of the name, it is settled everywhere
pub settle_everywhere : (context : NameContext) (seen : Seen) (old new : Scoped Declaration) (groups : List Group) (x : ℕ) (found : Option Config) → is_inside seen.declarations ≡ true → AreSettled context seen.declarations old → AddsDeclaration old groups x new
    → Finds context.model (is_undeclared context (still 0 seen.declarations) x) found → is_none found ≡ true → Misses context seen new x None
settle_everywhere context seen old new groups x (Some config) inside s a finds none = absurd cc
settle_everywhere context seen old new groups x None inside s a finds none =
    never_missed context seen new x (settled_more context seen.declarations old new groups x inside s a (λ values valid kept. here values valid)) (λ values valid kept. here values valid)
  where
    here : (values : List ℤ) → IsValid (plain context.model) values → is_declared (truths_at context values) (still 0 seen.declarations) x ≡ true
    here values valid = declared_if (is_declared (truths_at context values) (still 0 seen.declarations) x) (finds values valid)
