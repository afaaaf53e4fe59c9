use Rattle.std.proofs.Common.{◌≡◌, ◌+◌, ◌-◌, sym, ap, ◌∙◌, arith}
use Rattle.cpp_lines.specs.Nesting as nesting
use Rattle.cpp_lines.specs.Lines.{pieces}
use Rattle.cpp_lines.proofs.nesting.ends_of.Goals as goal

pub returns : goal.returns
returns c =
    let last : nesting.ends_of (pieces c.lines.rest.now) ≡ nesting.ends_before (nesting.named_in c.lines.rest.now) 0 = ap nesting.ends_of c.in_default.ensures in
    let same : c.lines.count.ended + (nesting.ends_before (nesting.named_in c.lines.rest.now) 0 - c.lines.count.open) ≡ c.count_line.result.ended + (0 - c.count_line.result.open) =
    c.count_line.ensures.same 0 in
    let all : nesting.ends_of (pieces c.args.bytes.now) ≡ c.lines.count.ended + (nesting.ends_of (pieces c.lines.rest.now) - c.lines.count.open) = c.lines.invariant.same in
    sym (all ∙ ap (λ n. c.lines.count.ended + (n - c.lines.count.open)) last ∙ same ∙ (let z : c.count_line.result.ended + (0 - c.count_line.result.open) ≡ c.count_line.result.ended = omega arith in z))
