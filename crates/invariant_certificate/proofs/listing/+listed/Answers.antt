use Rattle.std.proofs.Common.{◌≡◌, ℕ, ◌||◌, ◌∙◌, List, Bool, sym, subst, arith}
use Rattle.std.specs.List.{All}
use Rattle.std.proofs.lemmas.Result.{IfOk-weaker}
use Rattle.std.proofs.lemmas.List.Elements.{All-take, All-drop}
use Rattle.cpp_conditions.specs.Propositions.{IsBelow, true_on}
use Rattle.cpp_conditions.specs.View.{formula}
use Rattle.certificate_format.specs.declared.certificates.AlarmLine.{AlarmLine}
use Rattle.invariant_certificate.specs.Passes.{is_listed}
use Rattle.invariant_certificate.proofs.Halves.{halves_of}
use Rattle.invariant_certificate.proofs.listing.+listed.Goals as goal

pub returns-in-len1-clause-below : goal.returns-in-len1-clause-below
returns-in-len1-clause-below t c =
    let line = c.line-item.result in
    IfOk-weaker c.listed_by.result (λ made. (count : ℕ) → IsBelow count (formula line.region) → IsBelow count (formula made))
    (λ made. (count : ℕ) → All (λ (l : AlarmLine). IsBelow count (formula l.region)) c.args.lines.now → IsBelow count (formula made))
    (λ made b count all. b count (subst (λ (l : AlarmLine). IsBelow count (formula l.region)) (sym c.line-item.is) (all 0 line (omega (arith, c.in-len1.len_at_least)))))
    c.listed_by.ensures.below

pub returns-in_ok-right-in_default-clause-truth : goal.returns-in_ok-right-in_default-clause-truth
returns-in_ok-right-in_default-clause-truth t c =
    let left = formula c.in_ok-left-in_default.left in
    let right = formula c.in_ok-right-in_default.right in
    IfOk-weaker c.disjunction.result (λ made. (v : List Bool) → true_on v (formula made) ≡ (true_on v left || true_on v right))
    (λ made. (v : List Bool) → true_on v (formula made) ≡ is_listed c.args.lines.now (c.args.place, c.args.kind) v)
    (λ made e v. e v ∙ halves_of c.args.lines.now _ _ _ (c.args.place, c.args.kind) v (true_on v left) (true_on v right) (c.in_ok-left-in_default.ensures.truth v)
    (c.in_ok-right-in_default.ensures.truth v) c.split_at.ensures.front c.split_at.ensures.back)
    c.disjunction.ensures.truth

pub returns-in_ok-right-in_default-clause-below : goal.returns-in_ok-right-in_default-clause-below
returns-in_ok-right-in_default-clause-below t c =
    let left = formula c.in_ok-left-in_default.left in
    let right = formula c.in_ok-right-in_default.right in
    IfOk-weaker c.disjunction.result (λ made. (count : ℕ) → IsBelow count left → IsBelow count right → IsBelow count (formula made))
    (λ made. (count : ℕ) → All (λ (l : AlarmLine). IsBelow count (formula l.region)) c.args.lines.now → IsBelow count (formula made))
    (λ made b count all.
    let P : AlarmLine → Type 0 = λ l. IsBelow count (formula l.region) in
    b count (c.in_ok-left-in_default.ensures.below count (subst (All P) (sym c.split_at.ensures.front) (All-take P _ c.args.lines.now all)))
    (c.in_ok-right-in_default.ensures.below count (subst (All P) (sym c.split_at.ensures.back) (All-drop P _ c.args.lines.now all))))
    c.disjunction.ensures.below
