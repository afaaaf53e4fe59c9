use Rattle.std.proofs.Common.{◌≡◌, ◌++◌, ℕ, ◌+◌, List, ◌∷◌, get_or, take, drop, sym, ap, subst, ◌∙◌, add-one}
use Rattle.std.proofs.Math.Seq.{drop-cons}
use Rattle.cpp_lines.specs.declared.line.Line.{Line}
use Rattle.cpp_lines.specs.declared.line.LineKind.TheVariants.{Code}
use Rattle.cpp_lines.specs.Lines.{AreCounted}
use Rattle.c_parser.specs.FamilyItems.{by_line}
use Rattle.c_parser.proofs.ByLine.{one_line}
use Rattle.c_parser.proofs.family_items.by_line.Goals as goal

nowhere : Line
nowhere = record { kind = Code; start = 0; end = 0; place = record { line = 0; column = 0 } }

pub loop-line-preserved : goal.loop-line-preserved
unfolding nowhere
loop-line-preserved c =
    let i = c.loop-line.line-index in
    let l = get_or c.args.lines.now c.loop-line.line-index nowhere in
    let ls = drop (c.loop-line.line-index + 1) c.args.lines.now in
    let cut : drop c.loop-line.line-index c.args.lines.now ≡ get_or c.args.lines.now c.loop-line.line-index nowhere ∷ drop (c.loop-line.line-index + 1) c.args.lines.now =
    drop-cons c.args.lines.now c.loop-line.line-index nowhere c.loop-line-test.true
    ∙ ap (λ (n : ℕ). get_or c.args.lines.now c.loop-line.line-index nowhere ∷ drop n c.args.lines.now) (sym (add-one c.loop-line.line-index)) in
    let counted : AreCounted (c.loop-line.line-index + 1) (get_or c.args.lines.now c.loop-line.line-index nowhere ∷ drop (c.loop-line.line-index + 1) c.args.lines.now) =
    subst (λ (xs : List Line). AreCounted (c.loop-line.line-index + 1) xs) cut c.loop-line.invariant.counted in
    let before : c.loop-line.items.items ++ by_line (get_or c.args.lines.now c.loop-line.line-index nowhere ∷ drop (c.loop-line.line-index + 1) c.args.lines.now) c.loop-line.rest.now ≡ by_line c.args.lines.now c.args.tokens.now =
    ap (λ (xs : List Line). c.loop-line.items.items ++ by_line xs c.loop-line.rest.now) (sym cut) ∙ c.loop-line.invariant.items in
    let done = one_line (c.loop-line.line-index + 1) l ls c.loop-line.rest.now c.split_at.result.1.now c.split_at-in-loop-line.result.0.now c.split_at-in-loop-line.result.1.now c.loop-line.items.items c.add_line.new.out.items
    (by_line c.args.lines.now c.args.tokens.now) counted c.loop-line.invariant.rising
    (c.split_at.ensures.back ∙ ap (λ (n : ℕ). drop n c.loop-line.rest.now) c.count_above.ensures.value)
    (c.split_at-in-loop-line.ensures.front ∙ ap (λ (n : ℕ). take n c.split_at.result.1.now) c.count_in.ensures.value)
    (c.split_at-in-loop-line.ensures.back ∙ ap (λ (n : ℕ). drop n c.split_at.result.1.now) c.count_in.ensures.value)
    c.in_ok-add_line.ensures before in
    record {
      items = done.0;
      counted = counted.1;
      rising = done.1;
    }
