-- Facts of the trees of conditions.
use Rattle.std.proofs.Common.{◌≡◌, ℕ, zero, suc, ◌+◌, ◌<◌, Bool, List, [], ◌∷◌, ◌++◌, take, length, get_or, Some, refl, ap, sym, subst, ◌∙◌, inl, inr}
use Rattle.std.specs.Prelude.{slice_get}
use Rattle.std.specs.List.{All}
use Rattle.std.proofs.lemmas.List.{take_more}
use Rattle.std.proofs.lemmas.List.Elements.{All-head, All-tail}
use Rattle.cpp_conditions.specs.declared.formulas.Formula.{Formula}
use Rattle.cpp_conditions.specs.Propositions.{IsBelow, true_on}
use Rattle.cpp_conditions.specs.View.{formula}
use Rattle.decision_tree.specs.declared.tree.Tree.{Tree}
use Rattle.decision_tree.specs.Listed.{IsNumberedTree}
use Rattle.decision_tree.specs.View.{numbered, plain}
use Rattle.tree_unify.specs.Formulas.{IsTreeOf}
use Rattle.tree_unify.proofs.FormulaTrees.{number_below}
use Rattle.lifted_analysis.specs.Conditions.{AreTreesOf}
use Rattle.lifted_analysis.specs.Promises.{truths_of, HasNumberIn, Occurs, AreBelow}
use Rattle.lifted_analysis.specs.States.{truths_in, HasTestIn}

pub truths_same : (cs : List Formula) (ts : List (Tree Bool)) (v : List Bool) → AreTreesOf cs ts → truths_in ts v ≡ truths_of cs v
truths_same [] [] v h = refl
truths_same [] (t ∷ ts) v h = absurd h
truths_same (c ∷ cs) [] v h = absurd h
truths_same (c ∷ cs) (t ∷ ts) v h = ap (λ (b : Bool). b ∷ truths_in ts v) (h.0.truth v) ∙ ap (λ l. true_on v (formula c) ∷ l) (truths_same cs ts v h.2)

pub numbered_each : (cs : List Formula) (ts : List (Tree Bool)) (i : ℕ) (t : Tree Bool) → AreTreesOf cs ts → slice_get ts i ≡ Some t → IsNumberedTree 0 320 (numbered t)
numbered_each [] [] i t h e = cc
numbered_each [] (u ∷ ts) i t h e = absurd h
numbered_each (c ∷ cs) [] i t h e = absurd h
numbered_each (c ∷ cs) (u ∷ ts) zero t h e = let f : u ≡ t = cc in subst (λ x. IsNumberedTree 0 320 (numbered x)) f h.1
numbered_each (c ∷ cs) (u ∷ ts) (suc i) t h e = numbered_each cs ts i t h.2 e

pub tests_each : (cs : List Formula) (ts : List (Tree Bool)) (k : ℕ) → AreTreesOf cs ts → HasTestIn k ts → HasNumberIn k cs
tests_each [] [] k h w = absurd w
tests_each [] (u ∷ ts) k h w = absurd h
tests_each (c ∷ cs) [] k h w = absurd h
tests_each (c ∷ cs) (u ∷ ts) k h (inl w) = inl (h.0.tests k w)
tests_each (c ∷ cs) (u ∷ ts) k h (inr w) = inr (tests_each cs ts k h.2 w)

trees_push : (cs : List Formula) (ts : List (Tree Bool)) (c : Formula) (t : Tree Bool) → AreTreesOf cs ts → IsTreeOf (formula c) (plain t) → IsNumberedTree 0 320 (numbered t) → AreTreesOf (cs ++ c ∷ []) (ts ++ t ∷ [])
trees_push [] [] c t h k n = (k, n, tt)
trees_push [] (u ∷ ts) c t h k n = absurd h
trees_push (d ∷ cs) [] c t h k n = absurd h
trees_push (d ∷ cs) (u ∷ ts) c t h k n = (h.0, h.1, trees_push cs ts c t h.2 k n)

-- one more condition of a list
pub trees_more : (cs : List Formula) (i : ℕ) (c : Formula) (ts us : List (Tree Bool)) (t : Tree Bool) → i < length cs → c ≡ get_or cs i c → us ≡ ts ++ t ∷ []
    → AreTreesOf (take i cs) ts → IsTreeOf (formula c) (plain t) → IsNumberedTree 0 320 (numbered t) → AreTreesOf (take (i + 1) cs) us
trees_more cs i c ts us t l e f h k n =
    subst (λ x. AreTreesOf x us) (sym (take_more cs i c l ∙ ap (λ x. take i cs ++ x ∷ []) (sym e))) (subst (AreTreesOf (take i cs ++ c ∷ [])) (sym f) (trees_push (take i cs) ts c t h k n))

numbers_below : (m k : ℕ) (cs : List Formula) → All (λ (c : Formula). IsBelow m (formula c)) cs → HasNumberIn k cs → k < m
numbers_below m k [] h w = absurd w
numbers_below m k (c ∷ cs) h (inl w) = number_below m k (formula c) (All-head (λ (c : Formula). IsBelow m (formula c)) c cs h) w
numbers_below m k (c ∷ cs) h (inr w) = numbers_below m k cs (All-tail (λ (c : Formula). IsBelow m (formula c)) c cs h) w

pub occurs_below : (m k : ℕ) (cs : List Formula) (pl : Formula) → AreBelow m cs pl → Occurs cs pl k → k < m
occurs_below m k cs pl h (inl w) = number_below m k (formula pl) h.last w
occurs_below m k cs pl h (inr w) = numbers_below m k cs h.each w
