-- From costs to advice.
use Rattle.std.proofs.Common.{◌≡◌, ℕ, suc, ◌+◌, ◌≤◌, ◌<◌, ℤ, Bool, true, false, not, ◌&&◌, List, [], ◌∷◌, length, map, Option, Some, None, if◌then◌else◌, sym, ap, subst, refl, ◌∙◌, length-append, arith}
use Rattle.std.specs.Prelude.{slice_index_or}
use Rattle.std.specs.List.{All}
use Rattle.std.proofs.lemmas.Bool.{false≢true}
use Rattle.linear_atoms.specs.declared.atoms.Atom.{Atom}
use Rattle.linear_atoms.specs.declared.atoms.Config.{Config}
use Rattle.linear_atoms.specs.Atoms.{IsWithin}
use Rattle.cpp_conditions.specs.declared.models.Model.{Model}
use Rattle.cpp_conditions.specs.Numbering.{vector_at}
use Rattle.cpp_conditions.specs.declared.formulas.Formula.{Formula}
use Rattle.cpp_conditions.specs.Propositions.{Proposition, IsBelow}
use Rattle.cpp_conditions.specs.View.{formula}
use Rattle.cpp_conditions.specs.Validity.{plain, IsValid}
use Rattle.cpp_conditions.proofs.Within.{valid_parts}
use Rattle.atom_solver.specs.Solutions.{Finds, IsBefore}
use Rattle.decision_tree.specs.declared.tree.Tree.{Tree}
use Rattle.decision_tree.specs.Plain.{Plain, leaf, node, TestsBelow}
use Rattle.decision_tree.specs.View as tree
use Rattle.configuration_advice.specs.declared.comparing.Advice.{Advice}
use Rattle.configuration_advice.specs.Changes.{Extends, TellsChanges, unkept, cost_of, too_many, IsAbove, IsCheapest, FindsCheapest}
use Rattle.configuration_advice.specs.Nearest.{differing, are_false, is_quiet, IsNearest, Advises}
use Rattle.configuration_advice.proofs.Advised.{AllBelow, same_quiet, below_more}
use Rattle.configuration_advice.proofs.Chosen.{differing_most}

-- ---- the first with the least cost

module _ (model : Model) (cost : List ℤ → ℕ) (least most : ℕ) (within : least ≤ most) (none : (values : List ℤ) → IsValid (plain model) values → least ≤ cost values)
    (dearer : List ℤ → Bool) (above : (values : List ℤ) → IsAbove least (cost values) (dearer values)) where
  cheap : (values : List ℤ) (b : Bool) → dearer values ≡ b → not b ≡ true → cost values ≤ least
  cheap values true e h = absurd (false≢true h)
  cheap values false e h = (above values).not_more e

  not_dear : (values : List ℤ) (b : Bool) → dearer values ≡ b → cost values ≤ least → not b ≡ true
  not_dear values true e h = let k : least < cost values = (above values).more e in absurd (omega (arith, h, k))
  not_dear values false e h = refl

  equal_to : (n : ℕ) → n ≤ least → least ≤ n → n ≡ least
  equal_to n h k = omega arith

  low : (n : ℕ) → n ≡ least → n ≤ least
  low n e = omega arith

  pub found_cheapest : (config : Config) → Finds model (λ values. not (dearer values)) (Some config) → FindsCheapest model cost most (Some (record { config = config; changed = least }))
  found_cheapest config f =
      let values = config.values in (
        record {
          valid = f.valid;
          changed = equal_to (cost values) (cheap values (dearer values) refl f.met) (none values f.valid);
          least = none;
          first = λ others valid e b. f.first others valid (not_dear others (dearer others) refl (low (cost others) e)) b;
        },
        within,
      )

  dear : (values : List ℤ) (b : Bool) → dearer values ≡ b → not b ≡ false → least < cost values
  dear values true e h = (above values).more e
  dear values false e h = absurd (false≢true (sym h))

  pub none_cheap : Finds model (λ values. not (dearer values)) None → (values : List ℤ) → IsValid (plain model) values → least < cost values
  none_cheap f values valid = dear values (dearer values) refl (f values valid)

-- ---- the cost tells changes and alarms

module _ (model : Model) (tests : List Atom) (alarms : List (Plain Bool)) (kept : List (Proposition ℕ)) (given : List ℤ) (few : length given ≤ 32) (tells : TellsChanges model.features tests kept given) where
  abbrev cost : List ℤ → ℕ
  cost values = cost_of alarms kept (vector_at tests values)

  quiet_cost : (values : List ℤ) → IsValid (plain model) values → is_quiet tests alarms values ≡ true → cost values ≡ differing given values
  quiet_cost values valid e =
      ap (λ b. if b then unkept kept (vector_at tests values) else too_many) e
      ∙ tells.told values (valid_parts (plain model) values valid).0

  loud_cost : (values : List ℤ) → is_quiet tests alarms values ≡ false → cost values ≡ too_many
  loud_cost values e = ap (λ b. if b then unkept kept (vector_at tests values) else too_many) e

  far : (n m : ℕ) → n ≡ m → length given < n → m ≤ length given → ⊥
  far n m e h k = omega arith

  too_far : (n m : ℕ) → n ≡ too_many → n ≡ m → m ≤ length given → ⊥
  too_far n m e f k = omega (arith, e, f, k, few)

  quiet_by : (values : List ℤ) (b : Bool) → is_quiet tests alarms values ≡ b → (b ≡ false → ⊥) → b ≡ true
  quiet_by values true e h = refl
  quiet_by values false e h = absurd (h refl)

  loud_by : (values : List ℤ) (b : Bool) → is_quiet tests alarms values ≡ b → (b ≡ true → ⊥) → b ≡ false
  loud_by values true e h = absurd (h refl)
  loud_by values false e h = refl

  pub advised : (found : Option Advice) → FindsCheapest model cost (length given) found → Advises model tests alarms given found
  advised None h = λ values valid.
      loud_by values (is_quiet tests alarms values) refl (λ e. far (cost values) (differing given values) (quiet_cost values valid e) (h values valid) (differing_most given values))
  advised (Some a) h =
      let own = a.config.values in
      let quiet : is_quiet tests alarms own ≡ true = quiet_by own (is_quiet tests alarms own) refl (λ e. too_far (cost own) a.changed (loud_cost own e) h.0.changed h.1) in
      record {
        valid = h.0.valid;
        quiet = quiet;
        changed = sym h.0.changed ∙ quiet_cost own h.0.valid quiet;
        fewest = λ others valid e. subst (λ n. a.changed ≤ n) (quiet_cost others valid e) (h.0.least others valid);
        first = λ others valid e same b. h.0.first others valid (quiet_cost others valid e ∙ same) b;
      }

-- ---- fewer atoms

same_at : (before after : List Atom) (alarms : List (Plain Bool)) → Extends before after → AllBelow (length before) alarms
    → (values : List ℤ) → is_quiet after alarms values ≡ is_quiet before alarms values
same_at before after alarms e below values = ap (λ xs. are_false alarms (vector_at xs values)) e.is ∙ same_quiet before e.more values alarms below

pub advised_before : (model : Model) (before after : List Atom) (alarms : List (Plain Bool)) (given : List ℤ) → Extends before after → AllBelow (length before) alarms
    → (found : Option Advice) → Advises model after alarms given found → Advises model before alarms given found
advised_before model before after alarms given e below None h = λ values valid. sym (same_at before after alarms e below values) ∙ h values valid
advised_before model before after alarms given e below (Some a) h =
    let same = same_at before after alarms e below in
    record {
      valid = h.valid;
      quiet = sym (same a.config.values) ∙ h.quiet;
      changed = h.changed;
      fewest = λ others valid quiet. h.fewest others valid (same others ∙ quiet);
      first = λ others valid quiet c b. h.first others valid (same others ∙ quiet) c b;
    }

-- ---- the same costs, told otherwise

pub cheapest_as : (model : Model) (f g : List ℤ → ℕ) (most : ℕ) → ((values : List ℤ) → f values ≡ g values) → (found : Option Advice) → FindsCheapest model f most found → FindsCheapest model g most found
cheapest_as model f g most same None h = λ values valid. subst (λ n. most < n) (same values) (h values valid)
cheapest_as model f g most same (Some a) h = (
  record {
    valid = h.0.valid;
    changed = sym (same a.config.values) ∙ h.0.changed;
    least = λ others valid. subst (λ n. a.changed ≤ n) (same others) (h.0.least others valid);
    first = λ others valid e b. h.0.first others valid (same others ∙ e) b;
  },
  h.1,
)

-- ---- more tests

more_than : (k m n : ℕ) → m ≤ n → k < m → k < n
more_than k m n h l = omega (arith, h, l)

tests_more : (m n : ℕ) (t : Plain Bool) → m ≤ n → TestsBelow m t → TestsBelow n t
tests_more m n (leaf x) h b = tt
tests_more m n (node test low high) h b = (more_than test m n h b.0, tests_more m n low h b.1, tests_more m n high h b.2)

pub trees_more : (m n : ℕ) (trees : List (Tree Bool)) → m ≤ n → All (λ (t : Tree Bool). TestsBelow m (tree.plain t)) trees → All (λ (t : Tree Bool). TestsBelow n (tree.plain t)) trees
trees_more m n trees h all = λ k d lt. tests_more m n (tree.plain (slice_index_or trees k d)) h (all k d lt)

pub formulas_more : (m n : ℕ) (formulas : List Formula) → m ≤ n → All (λ (f : Formula). IsBelow m (formula f)) formulas → All (λ (f : Formula). IsBelow n (formula f)) formulas
formulas_more m n formulas h all = λ k d lt. below_more m n (formula (slice_index_or formulas k d)) h (all k d lt)

pub extends_length : (before after : List Atom) → Extends before after → length before ≤ length after
extends_length before after e = let f : length after ≡ length before + length e.more = ap length e.is ∙ length-append before e.more in omega (arith, f)

-- the first with the least cost is the nearest, where the costs tell changes and alarms
pub advised_by : (model : Model) (tests : List Atom) (alarms : List (Plain Bool)) (kept : List (Proposition ℕ)) (given : List ℤ) (few : length given ≤ 32) (tells : TellsChanges model.features tests kept given)
    → (f : List ℤ → ℕ) (most : ℕ) → ((values : List ℤ) → f values ≡ cost_of alarms kept (vector_at tests values)) → most ≡ length given
    → (found : Option Advice) → FindsCheapest model f most found → Advises model tests alarms given found
advised_by model tests alarms kept given few tells f most same e found h =
    advised model tests alarms kept given few tells found
    (cheapest_as model f (λ values. cost_of alarms kept (vector_at tests values)) (length given) same found (subst (λ m. FindsCheapest model f m found) e h))
