use Rattle.std.proofs.Common.{ℕ, List, drop, take, sym, ap, subst, ◌∙◌}
use Rattle.cpp_lines.proofs.Piecing.{IsFirst, whole_line, first_line}
use Rattle.cpp_lines.proofs.lines.cut_line.Goals as goal

pub returns-in-None : goal.returns-in-None
returns-in-None c = whole_line c.args.bytes.now (ap (λ (i : ℕ). drop i c.args.bytes.now) (sym c.line_len.ensures.value) ∙ sym c.split_at.ensures.back ∙ c.in-None.ensures)

pub returns-in-Some : goal.returns-in-Some
returns-in-Some c =
    subst (λ (line : List ℕ). IsFirst c.args.bytes.now line c.in-Some.rest.now) (ap (λ (i : ℕ). take i c.args.bytes.now) (sym c.line_len.ensures.value) ∙ sym c.split_at.ensures.front)
    (first_line c.args.bytes.now c.in-Some.field-0-0 c.in-Some.rest.now (ap (λ (i : ℕ). drop i c.args.bytes.now) (sym c.line_len.ensures.value) ∙ sym c.split_at.ensures.back ∙ c.in-Some.ensures))
