use Rattle.std.proofs.Common.{◌≤◌, ℕ, true, false, length, take, sym, ap, subst, ◌∙◌}
use Rattle.cpp_lines.specs.Comments.{comment_len}
use Rattle.cpp_lines.proofs.Faulting.{touches_same, comment_is}
use Rattle.cpp_lines.proofs.without_comments.comment_fault.Goals as goal

pub returns-then-touches_directive : goal.returns-then-touches_directive
returns-then-touches_directive c = λ text eb er ep.
    let rest = c.args.rest.now in
    let len = c.comment_len.ensures.value in
    sym (comment_is text rest c.args.offset true (sym c.is_open.ensures ∙ c.if-is_open.false)
    (sym (touches_same text c.args.blanked.now rest c.split_at.result.0.now c.args.offset c.args.before (comment_len rest) eb er ep
    (c.split_at.ensures.front ∙ ap (λ (i : ℕ). take i c.args.rest.now) len) (subst (λ (i : ℕ). i ≤ length c.args.rest.now) len c.comment_len.ensures.within))
    ∙ sym c.touches_directive.ensures ∙ c.if-touches_directive.true))

pub returns : goal.returns
returns c = λ text eb er ep.
    let rest = c.args.rest.now in
    let len = c.comment_len.ensures.value in
    sym (comment_is text rest c.args.offset false (sym c.is_open.ensures ∙ c.if-is_open.false)
    (sym (touches_same text c.args.blanked.now rest c.split_at.result.0.now c.args.offset c.args.before (comment_len rest) eb er ep
    (c.split_at.ensures.front ∙ ap (λ (i : ℕ). take i c.args.rest.now) len) (subst (λ (i : ℕ). i ≤ length c.args.rest.now) len c.comment_len.ensures.within))
    ∙ sym c.touches_directive.ensures ∙ c.if-touches_directive.false))
