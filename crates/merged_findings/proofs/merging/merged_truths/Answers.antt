use Rattle.std.proofs.Common.{◌≡◌, Bool, true, false, refl}
use Rattle.std.specs.Bool.{beq}
use Rattle.decision_tree.specs.View.{plain}
use Rattle.merged_findings.proofs.Made.{merged_made}
use Rattle.merged_findings.proofs.merging.merged_truths.Goals as goal

exact : (a b : Bool) → beq a b ≡ true → a ≡ b
exact true true h = refl
exact true false h = cc
exact false true h = cc
exact false false h = refl

reflexive : (a : Bool) → beq a a ≡ true
reflexive true = refl
reflexive false = refl

pub returns-clause-merged : goal.returns-clause-merged
returns-clause-merged g c =
    merged_made c.restrict_in.result beq exact reflexive (plain c.args.t.now) (plain c.in_ok-own.own) (plain c.args.care.now) c.in_ok-own.ensures.same c.restrict_in.ensures.restricted
