-- What is answered with the tests of values.
use Rattle.std.proofs.Common.{◌≡◌, ℕ, ◌+◌, ◌≤◌, List, ◌++◌, length, map, ap, subst, sym, ◌∙◌}
use Rattle.std.specs.List.{All}
use Rattle.linear_atoms.specs.declared.atoms.Atom.{Atom}
use Rattle.linear_atoms.specs.declared.atoms.Feature.{Feature}
use Rattle.cpp_conditions.specs.declared.conditions.Condition.{Condition}
use Rattle.cpp_conditions.specs.declared.formulas.Formula.{Formula}
use Rattle.cpp_conditions.specs.Propositions.{Proposition, IsBelow}
use Rattle.cpp_conditions.specs.View.{proposition, formula}
use Rattle.cpp_lines.specs.Sections.{AreNumbered, AreConditionsOf}
use Rattle.feature_values.specs.declared.feature_uses.Use.{Use}
use Rattle.feature_values.specs.Moved.{AddsTests, AreAdded, AreNewNumbers, moved}
use Rattle.feature_values.specs.Values.{tests_of, test_count}
use Rattle.feature_values.proofs.Adding.{conditions_added, all_below, all_counted}
use Rattle.feature_values.proofs.Testing.{length-tests}

-- what stands behind the steps: the tests, the atoms with theirs, the old formulas moved, and those of the tests
pub record IsReady (features : List Feature) (us : List Use) (old new : List Atom) (fs gs hs all : List Formula) : Type 0 where
  pub numbers : List ℕ
  pub added : AreAdded (tests_of features us) old new
  pub renumbered : AreNewNumbers old new numbers
  pub moved_all : map formula gs ≡ map (λ (f : Formula). moved numbers (formula f)) fs
  pub numbered : AreNumbered new (tests_of features us) hs
  pub joined : all ≡ gs ++ hs

pub tests_in : (features : List Feature) (us : List Use) (tests given : List Condition) (atoms old new : List Atom) → map proposition tests ≡ tests_of features us → given ≡ tests → old ≡ atoms → AreAdded (map proposition given) old new
    → AreAdded (tests_of features us) atoms new
tests_in features us tests given atoms old new t d e a =
    subst (λ (xs : List Atom). AreAdded (tests_of features us) xs new) e (subst (λ (ps : List (Proposition Atom)). AreAdded ps old new) (ap (map proposition) d ∙ t) a)

pub ready : (features : List Feature) (us : List Use) (tests given : List Condition) (old new mid last : List Atom) (numbers ns : List ℕ) (fs gs hs all : List Formula) → AreAdded (tests_of features us) old new
    → map proposition tests ≡ tests_of features us → given ≡ tests → mid ≡ new → last ≡ new → ns ≡ numbers → AreNewNumbers old mid numbers → map formula gs ≡ map (λ (f : Formula). moved ns (formula f)) fs
    → AreNumbered last (map proposition given) hs → all ≡ gs ++ hs → IsReady features us old new fs gs hs all
ready features us tests given old new mid last numbers ns fs gs hs all a t d x y z m e b j = record {
  numbers = numbers;
  added = a;
  renumbered = subst (λ (xs : List Atom). AreNewNumbers old xs numbers) x m;
  moved_all = subst (λ (ks : List ℕ). map formula gs ≡ map (λ (f : Formula). moved ks (formula f)) fs) z e;
  numbered = subst (λ (xs : List Atom). AreNumbered xs (tests_of features us) hs) y (subst (λ (ps : List (Proposition Atom)). AreNumbered last ps hs) (ap (map proposition) d ∙ t) b);
  joined = j;
}

pub tests_added : (features : List Feature) (us : List Use) (old new : List Atom) (fs gs hs all : List Formula) → IsReady features us old new fs gs hs all → AddsTests features us old fs new all
tests_added features us old new fs gs hs all r model conditions h =
    subst (λ (ks : List Formula). AreConditionsOf model (conditions ++ tests_of features us) new ks) (sym r.joined)
    (conditions_added model conditions (tests_of features us) old new fs gs hs r.numbers r.added r.renumbered r.moved_all r.numbered h)

pub tests_below : (features : List Feature) (us : List Use) (old new : List Atom) (fs gs hs all : List Formula) → IsReady features us old new fs gs hs all
    → All (λ (f : Formula). IsBelow (length old) (formula f)) fs → All (λ (f : Formula). IsBelow (length new) (formula f)) all
tests_below features us old new fs gs hs all r h =
    subst (λ (ks : List Formula). All (λ (f : Formula). IsBelow (length new) (formula f)) ks) (sym r.joined) (all_below (tests_of features us) old new fs gs hs r.numbers r.renumbered r.moved_all r.numbered h)

pub tests_counted : (features : List Feature) (us : List Use) (old new : List Atom) (fs gs hs all : List Formula) → IsReady features us old new fs gs hs all → length all ≡ length fs + test_count features us
tests_counted features us old new fs gs hs all r =
    ap length r.joined ∙ all_counted new (tests_of features us) fs gs hs r.numbers r.moved_all r.numbered ∙ ap (λ (n : ℕ). length fs + n) (length-tests features us)
