use Rattle.std.proofs.Common.{◌≡◌, ◌+◌, ℕ, List, [], ◌∷◌, length, drop, Err, refl, sym, ap, subst, ◌∙◌, arith}
use Rattle.std.proofs.lemmas.List.{length-append}
use Rattle.fam_outer.proofs.Placing.{spot}
use Rattle.fam_outer.specs.declared.faults.FileRefusal.{FileRefusal}
use Rattle.cpp_conditions.specs.Validity.{plain}
use Rattle.cpp_lines.specs.Lines.{pieces}
use Rattle.cpp_lines.specs.Nesting.{ends_of}
use Rattle.cpp_lines.specs.Taking as taking
use Rattle.cpp_lines.specs.Taking.{plain_names}
use Rattle.cpp_lines.proofs.Faulting.{behind}
use Rattle.cpp_lines.proofs.Listing.{behind_line, next_place}
use Rattle.cpp_lines.proofs.Standing.{Stands, stands_on, fault_read, one_more_at_most, begun, ended}
use Rattle.cpp_lines.proofs.sections.read_lines.Goals as goal

pub lines-init : goal.lines-init
lines-init c =
    record {
      stands = begun c.args.dialect (plain c.args.model.now) c.args.blanked.now c.in_ok-reading.reading (pieces c.args.blanked.now) c.in_ok-reading.ensures.nothing.lines c.in_ok-reading.ensures.nothing.conditions c.in_ok-reading.ensures.nothing.opens c.in_ok-reading.ensures.nothing.above
          (ap (λ (v : _). plain_names v.items) c.in_ok-reading.ensures.defined ∙ c.in_ok-defined.ensures) (λ r h. h);
      kept = c.in_ok-reading.ensures.kept;
      count = omega (arith, ap length c.in_ok-reading.ensures.nothing.conditions);
      rest = refl;
      len = omega arith;
      first = refl;
      line = omega arith;
      column = refl;
    }

pub lines-preserved : goal.lines-preserved
lines-preserved c =
    let text = c.args.blanked.now in
    let line = c.in-Some.line.now in
    let more = c.in-Some.behind.now in
    let cut = c.in-Some.ensures in
    let now = c.lines.invariant in
    let taken = c.in_default-take_line.ensures in
    let next : c.lines.start + (length c.in-Some.line.now + 1) ≡ c.lines.start + length c.in-Some.line.now + 1 = omega arith in
    let stood = subst (λ (ps : List (List ℕ)). Stands c.args.dialect (plain c.args.model.now) c.args.blanked.now c.lines.start c.lines.reading ps) cut.0 now.stands in
    record {
      stands = subst (λ (i : ℕ). Stands c.args.dialect (plain c.args.model.now) c.args.blanked.now i c.take_line.new.reading (pieces c.in-Some.behind.now)) (sym next)
          (stands_on c.args.dialect (plain c.args.model.now) text c.lines.start c.lines.first line (pieces more) c.lines.reading c.take_line.new.reading now.first stood taken);
      kept = taken.judged.kept;
      count = omega (arith, one_more_at_most c.args.dialect (plain c.args.model.now) c.lines.start c.lines.first line c.lines.reading c.take_line.new.reading taken, now.count);
      rest = sym (behind_line line more) ∙ ap (drop (length line + 1)) (sym cut.1) ∙ behind text c.lines.start (length line + 1) c.lines.rest.now now.rest;
      len = omega (arith, ap length cut.1, length-append line (10 ∷ more));
      first = ap (λ (i : ℕ). spot (c.lines.first.line + 1) i) now.column ∙ next_place text c.lines.start (c.lines.start + (length line + 1)) c.lines.rest.now line more c.lines.first now.rest cut.1 cut.2 now.first refl;
      line = omega arith;
      column = now.column;
    }

pub returns-in-Err-clause-read : goal.returns-in-Err-clause-read
returns-in-Err-clause-read c =
    let m = plain c.args.model.now in
    let stood = subst (λ (ps : List (List ℕ)). Stands c.args.dialect (plain c.args.model.now) c.args.blanked.now c.lines.start c.lines.reading ps) c.in-Some.ensures.0 c.lines.invariant.stands in
    let is : c.earlier.result ≡ taking.earlier c.in-Err.refusal (taking.is_short (ends_of (pieces c.in-Some.behind.now)) c.take_line.new.reading.opens) c.take_line.new.reading.opens.first =
    c.earlier.ensures ∙ ap (λ (n : ℕ). taking.earlier c.in-Err.refusal (taking.is_short n c.take_line.new.reading.opens) c.take_line.new.reading.opens.first) c.ends_of.ensures in
    subst (λ (r : FileRefusal). taking.ReadsLines c.args.dialect (plain c.args.model.now) c.args.blanked.now (Err r)) (sym is)
    (fault_read c.args.dialect (plain c.args.model.now) c.args.blanked.now c.lines.start c.lines.first c.in-Some.line.now (pieces c.in-Some.behind.now) c.lines.reading c.take_line.new.reading c.in-Err.refusal c.lines.invariant.first stood c.in-Err.ensures)

pub returns-in-Err-take_line-clause-read : goal.returns-in-Err-take_line-clause-read
returns-in-Err-take_line-clause-read c =
    let stood = subst (λ (ps : List (List ℕ)). Stands c.args.dialect (plain c.args.model.now) c.args.blanked.now c.lines.start c.lines.reading ps) c.in_default.ensures c.lines.invariant.stands in
    subst (λ (r : FileRefusal). taking.ReadsLines c.args.dialect (plain c.args.model.now) c.args.blanked.now (Err r)) (sym c.earlier-in-Err-take_line.ensures)
    (fault_read c.args.dialect (plain c.args.model.now) c.args.blanked.now c.lines.start c.lines.first c.lines.rest.now [] c.lines.reading c.take_line-2.new.reading c.in-Err-take_line.refusal c.lines.invariant.first stood c.in-Err-take_line.ensures)

pub returns-then-depth-gt0-clause-read : goal.returns-then-depth-gt0-clause-read
returns-then-depth-gt0-clause-read c =
    let stood = subst (λ (ps : List (List ℕ)). Stands c.args.dialect (plain c.args.model.now) c.args.blanked.now c.lines.start c.lines.reading ps) c.in_default.ensures c.lines.invariant.stands in
    let last = stands_on c.args.dialect (plain c.args.model.now) c.args.blanked.now c.lines.start c.lines.first c.lines.rest.now [] c.lines.reading c.take_line-2.new.reading c.lines.invariant.first stood c.in_default-take_line-2.ensures in
    last.unclosed (omega (arith, c.depth.ensures, c.if-depth-gt0.true))

pub returns-clause-read : goal.returns-clause-read
returns-clause-read c =
    let stood = subst (λ (ps : List (List ℕ)). Stands c.args.dialect (plain c.args.model.now) c.args.blanked.now c.lines.start c.lines.reading ps) c.in_default.ensures c.lines.invariant.stands in
    let last = stands_on c.args.dialect (plain c.args.model.now) c.args.blanked.now c.lines.start c.lines.first c.lines.rest.now [] c.lines.reading c.take_line-2.new.reading c.lines.invariant.first stood c.in_default-take_line-2.ensures in
    ended c.args.dialect (plain c.args.model.now) c.args.blanked.now (c.lines.start + length c.lines.rest.now + 1) c.take_line-2.new.reading last (omega (arith, c.depth.ensures, c.if-depth-gt0.false))
