use Rattle.std.proofs.Common.{◌≡◌, ◌-◌, List, ℕ, [], ◌∷◌, ◌++◌, sym, ap, ◌∙◌}
use Rattle.std.proofs.lemmas.List.{append-nil}
use Rattle.cpp_lines.specs.Comments.{comment_left, blanked_byte, blank_from, blank}
use Rattle.cpp_lines.proofs.Blanking.{blanked_on}
use Rattle.cpp_lines.proofs.comments.blank.Goals as goal

pub blank-preserved : goal.blank-preserved
blank-preserved c =
    let here : c.comment_left-here.result ≡ comment_left c.blank.left c.blank.rest.now = c.comment_left-here.ensures in
    let left : c.saturating_sub-left.result ≡ comment_left c.blank.left c.blank.rest.now - 1 = c.saturating_sub-left.ensures ∙ ap (λ (i : ℕ). i - 1) here in
    let pushed : c.push.new.self.items ≡ c.blank.list.items ++ blanked_byte (comment_left c.blank.left c.blank.rest.now) c.in-Some.b ∷ [] =
    c.in_ok-push.ensures.items ∙ ap (λ (i : ℕ). c.blank.list.items ++ i ∷ []) (c.blanked_byte.ensures ∙ ap (λ (i : ℕ). blanked_byte i c.in-Some.b) here) in
    rw (pushed, left) (blanked_on c.blank.list.items c.blank.left c.in-Some.b c.in-Some.behind.now c.blank.rest.now (blank c.args.bytes.now) c.in-Some.ensures c.blank.invariant)

pub returns : goal.returns
returns c =
    c.from_vec.ensures ∙ sym (append-nil c.blank.list.items) ∙ ap (λ (xs : List ℕ). c.blank.list.items ++ blank_from c.blank.left xs) (sym c.in_default.ensures) ∙ c.blank.invariant
