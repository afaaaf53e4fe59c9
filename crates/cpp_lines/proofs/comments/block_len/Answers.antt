use Rattle.std.proofs.Common.{length, sym, ap, ◌∙◌, arith}
use Rattle.cpp_lines.specs.Comments.{block_len}
use Rattle.cpp_lines.proofs.Blanking.{begins_len, none_passed, found_on, passed_on, ended_on}
use Rattle.cpp_lines.proofs.comments.block_len.Goals as goal

pub search-init : goal.search-init
search-init c = record { read = none_passed (block_len c.args.bytes.now); len = omega arith }

pub search-preserved : goal.search-preserved
search-preserved c = record {
  read = passed_on c.search.passed c.in-Some.field-0-0 c.in-Some.behind.now c.search.rest.now (block_len c.args.bytes.now) c.in-Some.ensures (sym c.begins_with.ensures ∙ c.if-begins_with.false) c.search.invariant.read;
  len = omega (arith, ap length c.in-Some.ensures);
}

pub returns-then-begins_with : goal.returns-then-begins_with
returns-then-begins_with c =
    let k = begins_len 42 47 c.search.rest.now (sym c.begins_with.ensures ∙ c.if-begins_with.true) in
    record {
      value = found_on c.search.passed c.search.rest.now (block_len c.args.bytes.now) (sym c.begins_with.ensures ∙ c.if-begins_with.true) c.search.invariant.read;
      within = omega arith;
    }

pub returns-clause-value : goal.returns-clause-value
returns-clause-value c = ended_on c.search.passed c.search.rest.now (block_len c.args.bytes.now) c.in_default.ensures c.search.invariant.read
