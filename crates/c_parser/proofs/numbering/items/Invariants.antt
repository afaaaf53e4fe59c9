use Rattle.std.proofs.Common.{◌≡◌, ◌+◌, ◌<◌, ◌++◌, length}
use Rattle.c_parser.specs.Items.{names_from}
use Rattle.c_parser.specs.Signing.{items_from}
use Rattle.c_parser.specs.Signing.{AreWithin}
use Rattle.c_parser.proofs.numbering.items.Given as goal

abbrev pub invariant-scan : goal.invariant-scan
invariant-scan l = record {
  names : names_from l.functions l.bytes l.fn.names.keys l.tokens ≡ names_from l.functions l.bytes l.names.keys l.rest;
  items : items_from l.functions l.bytes l.fn.names.keys l.tokens ≡ l.items.items ++ items_from l.functions l.bytes l.names.keys l.rest;
  few : length l.names.keys + length l.rest < 2147483648;
  within : AreWithin (length l.bytes) l.rest;
}

abbrev pub decreases-scan : goal.decreases-scan
decreases-scan l = length l.rest
