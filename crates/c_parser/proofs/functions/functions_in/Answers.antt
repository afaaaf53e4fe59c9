use Rattle.std.proofs.Common.{ℕ, List, length, subst, sym, ap, ◌∙◌}
use Rattle.c_tokens.specs.declared.token.Token.{Token}
use Rattle.c_parser.specs.Functions.{functions_from}
use Rattle.c_parser.specs.Signing.{AreWithin}
use Rattle.c_parser.proofs.functions.functions_in.Goals as goal

pub scan-preserved : goal.scan-preserved
scan-preserved c = record {
  functions =
      c.scan.invariant.functions ∙ ap (functions_from c.args.bytes.now c.scan.functions.keys) c.in-Some.ensures
      ∙ ap (λ (fs : List (List ℕ)). functions_from c.args.bytes.now fs c.in-Some.behind.now) (sym c.in_ok-add_function.ensures);
  within = (subst (AreWithin (length c.args.bytes.now)) c.in-Some.ensures c.scan.invariant.within).1;
}
