use Rattle.std.proofs.Common.{◌≡◌, ◌++◌, ℕ, List, [], ◌∷◌, sym, ap, subst, ◌∙◌}
use Rattle.cpp_groups.specs.declared.section.Section.{Section}
use Rattle.cpp_lines.specs.declared.line.Line.{Line}
use Rattle.cpp_lines.specs.Lines.{pieces, AreLinesOf}
use Rattle.cpp_lines.specs.Preprocessed.{kept_line, kept_lines, with_newlines, preprocessed}
use Rattle.cpp_lines.proofs.KeptLines.{AreLeft, left_behind, line_on, last_on}
use Rattle.cpp_lines.proofs.preprocessing.preprocessed_text.Goals as goal

pub lines-init : goal.lines-init
unfolding AreLinesOf
lines-init c = record {
  text = ap (λ (xs : List ℕ). xs ++ with_newlines (kept_lines c.args.truths.now c.new-sections.result c.args.lines.now (pieces c.args.blanked.now))) c.new-out.ensures.items
      ∙ ap (λ (ss : List Section). with_newlines (kept_lines c.args.truths.now ss c.args.lines.now (pieces c.args.blanked.now))) c.new-sections.ensures;
  lines = record { start = 0; are = c.requires.lines };
}

pub lines-preserved : goal.lines-preserved
lines-preserved c =
    let truths = c.args.truths.now in
    let l = c.in-Some-cut.line in
    let ls = c.in-Some-cut.behind.now in
    let left : AreLeft (c.in-Some.piece.now ∷ pieces c.in-Some.more.now) (c.in-Some-cut.line ∷ c.in-Some-cut.behind.now) =
    subst (λ (xs : List Line). AreLeft (c.in-Some.piece.now ∷ pieces c.in-Some.more.now) xs) c.in-Some-cut.ensures
    (subst (λ (ps : List (List ℕ)). AreLeft ps c.lines.left.now) c.in-Some.ensures.0 c.lines.invariant.lines) in
    let before : c.lines.out.items ++ with_newlines (kept_lines c.args.truths.now c.lines.sections (c.in-Some-cut.line ∷ c.in-Some-cut.behind.now) (c.in-Some.piece.now ∷ pieces c.in-Some.more.now))
    ≡ with_newlines (kept_lines c.args.truths.now [] c.args.lines.now (pieces c.args.blanked.now)) =
    ap (λ (xs : List Line). c.lines.out.items ++ with_newlines (kept_lines c.args.truths.now c.lines.sections xs (c.in-Some.piece.now ∷ pieces c.in-Some.more.now))) (sym c.in-Some-cut.ensures)
    ∙ ap (λ (ps : List (List ℕ)). c.lines.out.items ++ with_newlines (kept_lines c.args.truths.now c.lines.sections c.lines.left.now ps)) (sym c.in-Some.ensures.0)
    ∙ c.lines.invariant.text in
    let out : c.push.new.self.items ≡ (c.lines.out.items ++ kept_line c.lines.sections c.in-Some-cut.line.kind c.in-Some.piece.now) ++ 10 ∷ [] =
    c.in_ok-push.ensures.items ∙ ap (λ (xs : List ℕ). xs ++ 10 ∷ []) c.in_ok-add_line.ensures.text in
    record {
      text = ap (λ (xs : List ℕ). xs ++ with_newlines (kept_lines c.args.truths.now c.add_line.new.sections c.in-Some-cut.behind.now (pieces c.in-Some.more.now))) out
          ∙ ap (λ (ss : List Section). ((c.lines.out.items ++ kept_line c.lines.sections c.in-Some-cut.line.kind c.in-Some.piece.now) ++ 10 ∷ [])
          ++ with_newlines (kept_lines c.args.truths.now ss c.in-Some-cut.behind.now (pieces c.in-Some.more.now))) c.in_ok-add_line.ensures.sections
          ∙ line_on c.lines.out.items truths c.lines.sections l ls c.in-Some.piece.now c.in-Some.more.now (with_newlines (kept_lines c.args.truths.now [] c.args.lines.now (pieces c.args.blanked.now))) left before;
      lines = left_behind c.in-Some.piece.now (pieces c.in-Some.more.now) l ls left;
    }

pub returns : goal.returns
unfolding preprocessed
returns c =
    let before : c.lines.out.items ++ with_newlines (kept_lines c.args.truths.now c.lines.sections (c.in-Some-cut-2.line ∷ c.in-Some-cut-2.field-0-1.now) (c.lines.rest.now ∷ []))
    ≡ with_newlines (kept_lines c.args.truths.now [] c.args.lines.now (pieces c.args.blanked.now)) =
    ap (λ (xs : List Line). c.lines.out.items ++ with_newlines (kept_lines c.args.truths.now c.lines.sections xs (c.lines.rest.now ∷ []))) (sym c.in-Some-cut-2.ensures)
    ∙ ap (λ (ps : List (List ℕ)). c.lines.out.items ++ with_newlines (kept_lines c.args.truths.now c.lines.sections c.lines.left.now ps)) (sym c.in_default.ensures)
    ∙ c.lines.invariant.text in
    c.from_vec.ensures ∙ c.in_ok-add_line-2.ensures.text
    ∙ last_on c.lines.out.items c.args.truths.now c.lines.sections c.in-Some-cut-2.line c.in-Some-cut-2.field-0-1.now c.lines.rest.now (with_newlines (kept_lines c.args.truths.now [] c.args.lines.now (pieces c.args.blanked.now))) before
