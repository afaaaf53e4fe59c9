use Rattle.std.proofs.Common.{◌≡◌, ◌-◌, List, ℕ, ◌∷◌, ◌++◌, length, take, drop, sym, ap, ◌∙◌, arith}
use Rattle.std.specs.Prelude.{Some}
use Rattle.fam_outer.specs.declared.faults.Place.{Place}
use Rattle.fam_outer.specs.Places.{end_place, last_line}
use Rattle.cpp_lines.specs.Faults.{first_fault_from, first_fault}
use Rattle.cpp_lines.specs.Comments.{comment_left}
use Rattle.cpp_lines.proofs.Blanking.{length-blank_from}
use Rattle.cpp_lines.proofs.Faulting.{passed_fault, found_fault, no_fault, front_more, behind}
use Rattle.cpp_lines.proofs.without_comments.first_fault.Goals as goal

abbrev column_in : Place → ℕ
column_in p = p.column

pub fault_at-requires-clause-within : goal.fault_at-requires-clause-within
fault_at-requires-clause-within c = omega (arith, ap length c.requires.blanked, length-blank_from 0 c.args.bytes.now)

pub returns-in-Some-fault_at : goal.returns-in-Some-fault_at
unfolding first_fault
returns-in-Some-fault_at c =
    let text = c.args.bytes.now in
    let here : c.scan.place.column - 1 ≡ length (last_line (take c.scan.at c.args.bytes.now)) = omega (arith, ap column_in c.scan.invariant.place) in
    ap (λ (p : Place). Some (c.in-Some-fault_at.code, p)) c.scan.invariant.place
    ∙ found_fault text c.scan.at c.scan.left c.in-Some.b c.in-Some.behind.now c.scan.rest.now c.in-Some-fault_at.code (first_fault_from text 0 0 text) c.in-Some.ensures
    (c.in-Some-fault_at.ensures text c.requires.blanked c.scan.invariant.rest here) c.scan.invariant.read

pub returns : goal.returns
unfolding first_fault
returns c = no_fault c.args.bytes.now c.scan.at c.scan.left c.scan.rest.now (first_fault_from c.args.bytes.now 0 0 c.args.bytes.now) c.in_default.ensures c.scan.invariant.read

pub scan-preserved : goal.scan-preserved
scan-preserved c =
    let text = c.args.bytes.now in
    let at = c.scan.at in
    let rest = c.scan.rest.now in
    let cut : c.scan.rest.now ≡ c.in-Some.b ∷ c.in-Some.behind.now = c.in-Some.ensures in
    let here : c.scan.place.column - 1 ≡ length (last_line (take c.scan.at c.args.bytes.now)) = omega (arith, ap column_in c.scan.invariant.place) in
    let left : c.saturating_sub-left.result ≡ comment_left c.scan.left c.scan.rest.now - 1 = c.saturating_sub-left.ensures ∙ ap (λ (i : ℕ). i - 1) c.comment_left.ensures in
    record {
      read = rw left (passed_fault text at c.scan.left c.in-Some.b c.in-Some.behind.now rest (first_fault_from text 0 0 text) cut (c.in_default-fault_at.ensures text c.requires.blanked c.scan.invariant.rest here) c.scan.invariant.read);
      rest = ap (drop 1) (sym cut) ∙ behind text at 1 rest c.scan.invariant.rest;
      len = omega (arith, ap length cut);
      place = c.place_after-place.ensures.value (take at text) c.scan.invariant.place ∙ ap end_place (ap (λ (xs : List ℕ). take at text ++ take 1 xs) (sym cut) ∙ sym (front_more text at 1 rest c.scan.invariant.rest));
      line = omega arith;
      column = omega arith;
      positive = c.place_after-place.ensures.positive c.scan.invariant.positive;
    }
