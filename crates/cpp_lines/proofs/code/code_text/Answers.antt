use Rattle.std.proofs.Common.{◌++◌, ℕ, List, [], ◌∷◌, map, sym, ap, ◌∙◌}
use Rattle.cpp_lines.specs.Code.{code_piece, code_of}
use Rattle.cpp_lines.specs.Lines.{pieces}
use Rattle.cpp_lines.specs.Preprocessed.{with_newlines}
use Rattle.cpp_lines.proofs.CodeLines.{coded_on}
use Rattle.cpp_lines.proofs.code.code_text.Goals as goal

pub lines-init : goal.lines-init
lines-init c = ap (λ (xs : List ℕ). xs ++ with_newlines (map code_piece (pieces c.args.blanked.now))) c.new-code.ensures.items

pub lines-preserved : goal.lines-preserved
lines-preserved c =
    ap (λ (xs : List ℕ). xs ++ with_newlines (map code_piece (pieces c.in-Some.behind.now))) (c.in_ok-push.ensures.items ∙ ap (λ (xs : List ℕ). xs ++ 10 ∷ []) c.in_ok-add_line.ensures)
    ∙ coded_on c.lines.code.items c.in-Some.line.now c.in-Some.behind.now (pieces c.lines.rest.now) (with_newlines (map code_piece (pieces c.args.blanked.now))) c.in-Some.ensures.0 c.lines.invariant

pub returns : goal.returns
unfolding code_of
returns c =
    c.from_vec.ensures ∙ c.in_ok-add_line-2.ensures
    ∙ ap (λ (ps : List (List ℕ)). c.lines.code.items ++ with_newlines (map code_piece ps)) (sym c.in_default.ensures) ∙ c.lines.invariant
