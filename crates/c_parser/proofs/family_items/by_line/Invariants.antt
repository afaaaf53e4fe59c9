use Rattle.std.proofs.Common.{◌≡◌, ◌++◌, ◌+◌, drop}
use Rattle.c_grammar.specs.Facts.{AreRising}
use Rattle.cpp_lines.specs.Lines.{AreCounted}
use Rattle.c_parser.specs.FamilyItems as specs
use Rattle.c_parser.proofs.family_items.by_line.Given as goal

abbrev pub invariant-loop-line : goal.invariant-loop-line
invariant-loop-line l = record {
  items : l.items.items ++ specs.by_line (drop l.line-index l.lines) l.rest ≡ specs.by_line l.lines l.tokens;
  counted : AreCounted (l.line-index + 1) (drop l.line-index l.lines);
  rising : AreRising l.rest;
}
