use Rattle.std.proofs.Common.{◌≡◌, [], length}
use Rattle.c_parser.specs.Functions.{functions_from}
use Rattle.c_parser.specs.Signing.{AreWithin}
use Rattle.c_parser.proofs.functions.functions_in.Given as goal

abbrev pub invariant-scan : goal.invariant-scan
invariant-scan l = record {
  functions : functions_from l.bytes [] l.tokens ≡ functions_from l.bytes l.functions.keys l.rest;
  within : AreWithin (length l.bytes) l.rest;
}

abbrev pub decreases-scan : goal.decreases-scan
decreases-scan l = length l.rest
