use Rattle.std.proofs.Common.{rules, ◌≡◌, ap, sym, ◌∙◌, subst, neg_ℤ, OnOk, FitsSigned, w64}
use Rattle.std.proofs.lemmas.Int.{to_z-of_z}
use Rattle.c_tree.specs.declared.tree.Expr.{Expr}
use Rattle.c_tree.specs.Tree.{Neg}
use Rattle.c_tree.specs.View.{term}
use Rattle.loop_thresholds.specs.Numbers.{numbers_of_term}
use Rattle.loop_thresholds.specs.Thresholds.{candidates}
use Rattle.loop_thresholds.specs.Keeping.{keep_all, keep_near}
use Rattle.loop_thresholds.proofs.Saturated.{candidates-saturated}
use Rattle.loop_thresholds.proofs.Kept.{keep_near_one}
use Rattle.loop_thresholds.proofs.keeping.+keep_term.Goals as goal

pub returns-in-Number : goal.returns-in-Number
returns-in-Number t c =
    let f : FitsSigned w64 c.in-Number.number = search rules in
    let kept = simp to_z-of_z at c.keep_candidates.ensures in
    let same = ap (λ (x : Expr). keep_near c.args.kept.now.items (numbers_of_term (term x))) c.in-Number.is in
    subst (λ l. OnOk c.keep_candidates.result (c.keep_candidates.new.kept.items ≡ l)) (sym (same ∙ keep_near_one c.args.kept.now.items c.in-Number.number)) kept

pub returns-in-Number-deref : goal.returns-in-Number-deref
returns-in-Number-deref t c =
    let k0 = c.args.kept.now.items in
    let n = c.in-Number-deref.number in
    let f : FitsSigned w64 n = search rules in
    let g : FitsSigned w64 c.saturating_neg.result = search rules in
    let opposite = simp to_z-of_z at c.saturating_neg.ensures in
    let kept = simp to_z-of_z at c.keep_candidates-in-Number-deref.ensures in
    let outer = ap (λ (x : Expr). keep_near k0 (numbers_of_term (term x))) c.in-Neg.is in
    let inner = ap (λ (x : Expr). keep_near k0 (numbers_of_term (Neg (term x)))) (sym c.deref.ensures ∙ c.in-Number-deref.is) in
    let same = outer ∙ inner ∙ keep_near_one k0 (neg_ℤ n) ∙ ap (keep_all k0) (sym (ap candidates opposite ∙ candidates-saturated (neg_ℤ n))) in
    subst (λ l. OnOk c.keep_candidates-in-Number-deref.result (c.keep_candidates-in-Number-deref.new.kept.items ≡ l)) (sym same) kept
