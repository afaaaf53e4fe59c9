use Rattle.std.proofs.Common.{◌≡◌, ◌+◌, List, ℕ, [], ◌∷◌, ◌++◌, length, drop, Result, Ok, Err, refl, sym, ap, subst, ◌∙◌, rules, arith}
use Rattle.std.proofs.lemmas.List.{length-append}
use Rattle.fam_outer.proofs.Placing.{spot}
use Rattle.fam_outer.specs.declared.faults.FileRefusal.{FileRefusal}
use Rattle.fam_outer.specs.Refusals.{Gives}
use Rattle.cpp_lines.specs.declared.line.Line.{Line}
use Rattle.cpp_lines.specs.declared.line.Lines.{Lines}
use Rattle.cpp_lines.specs.Lines.{pieces, plain_lines_from, plain_lines_of, AreLinesOf}
use Rattle.cpp_lines.proofs.Faulting.{behind}
use Rattle.cpp_lines.proofs.Listing.{line_on, fault_gives, last_on, behind_line, next_place, are_lines}
use Rattle.cpp_lines.proofs.lines.plain_lines.Goals as goal

pub lines-preserved : goal.lines-preserved
lines-preserved c =
    let text = c.args.blanked.now in
    let start = c.lines.start in
    let rest = c.lines.rest.now in
    let line = c.in-Some.line.now in
    let more = c.in-Some.behind.now in
    let l = c.in_ok-plain_line.field-0 in
    let cut = c.in-Some.ensures in
    let pushed : c.push.new.self.items ≡ c.lines.list.items ++ c.in_ok-plain_line.field-0 ∷ [] = c.in_ok-push.ensures.items in
    let next : c.lines.start + (length c.in-Some.line.now + 1) ≡ c.lines.start + length c.in-Some.line.now + 1 = omega arith in
    record {
      read = rw pushed (line_on c.args.includes c.lines.list.items text start (start + (length line + 1)) c.lines.first l line (pieces rest) (pieces more) (plain_lines_from c.args.includes text 0 (pieces text)) cut.0 c.lines.invariant.first next c.in_ok-plain_line.ensures c.lines.invariant.read);
      rest = sym (behind_line line more) ∙ ap (drop (length line + 1)) (sym cut.1) ∙ behind text start (length line + 1) rest c.lines.invariant.rest;
      len = omega (arith, ap length cut.1, length-append line (10 ∷ more));
      first = ap (λ (i : ℕ). spot (c.lines.first.line + 1) i) c.lines.invariant.column ∙ next_place text start (start + (length line + 1)) rest line more c.lines.first c.lines.invariant.rest cut.1 cut.2 c.lines.invariant.first refl;
      line = omega arith;
      column = c.lines.invariant.column;
    }

pub returns-in_err-plain_line-clause-value : goal.returns-in_err-plain_line-clause-value
unfolding plain_lines_of
returns-in_err-plain_line-clause-value c =
    let text = c.args.blanked.now in
    let e : c.from_residual.result ≡ Err c.in_err-plain_line.field-0.0 = search rules in
    subst (λ (r : Result Lines FileRefusal). Gives (λ (ls : List Line). ls) r (plain_lines_from c.args.includes text 0 (pieces text))) (sym e)
    (fault_gives c.args.includes c.lines.list.items text c.lines.start c.lines.first c.in_err-plain_line.field-0.0 c.in-Some.line.now (pieces c.lines.rest.now) (pieces c.in-Some.behind.now) (plain_lines_from c.args.includes text 0 (pieces text))
    c.in-Some.ensures.0 c.lines.invariant.first c.in_err-plain_line.ensures c.lines.invariant.read)

pub returns-in_err-plain_line-2-clause-value : goal.returns-in_err-plain_line-2-clause-value
unfolding plain_lines_of
returns-in_err-plain_line-2-clause-value c =
    let text = c.args.blanked.now in
    let e : c.from_residual-in_err-plain_line-2.result ≡ Err c.in_err-plain_line-2.field-0.0 = search rules in
    subst (λ (r : Result Lines FileRefusal). Gives (λ (ls : List Line). ls) r (plain_lines_from c.args.includes text 0 (pieces text))) (sym e)
    (fault_gives c.args.includes c.lines.list.items text c.lines.start c.lines.first c.in_err-plain_line-2.field-0.0 c.lines.rest.now (pieces c.lines.rest.now) [] (plain_lines_from c.args.includes text 0 (pieces text))
    c.in_default.ensures c.lines.invariant.first c.in_err-plain_line-2.ensures c.lines.invariant.read)

pub returns-clause-value : goal.returns-clause-value
unfolding plain_lines_of
returns-clause-value c =
    let text = c.args.blanked.now in
    last_on c.args.includes c.lines.list.items text c.lines.start c.lines.first c.in_ok-plain_line-2.field-0 c.lines.rest.now (pieces c.lines.rest.now) (plain_lines_from c.args.includes text 0 (pieces text)) c.in_default.ensures c.lines.invariant.first c.in_ok-plain_line-2.ensures c.lines.invariant.read
    ∙ ap (λ (ls : List Line). Ok ls) (sym c.in_ok-push-2.ensures.items ∙ sym c.from_vec.ensures)

pub returns-clause-lines : goal.returns-clause-lines
unfolding AreLinesOf
returns-clause-lines c =
    let text = c.args.blanked.now in
    are_lines c.args.includes text 0 (pieces text) c.from_vec.result
    (last_on c.args.includes c.lines.list.items text c.lines.start c.lines.first c.in_ok-plain_line-2.field-0 c.lines.rest.now (pieces c.lines.rest.now) (plain_lines_from c.args.includes text 0 (pieces text)) c.in_default.ensures c.lines.invariant.first c.in_ok-plain_line-2.ensures c.lines.invariant.read
    ∙ ap (λ (ls : List Line). Ok ls) (sym c.in_ok-push-2.ensures.items ∙ sym c.from_vec.ensures))
