-- An analysis foresees each run, since the heads of its loops hold what enters them and what comes from their laps.
use Rattle.std.proofs.Common.{◌≡◌, length, refl, subst, sym}
use Rattle.c_tree.specs.Tree.{Whole}
use Rattle.c_tree.specs.Whole.{IsProgram, IsPlainProgram}
use Rattle.c_tree.specs.Fit.{IsCodeOf}
use Rattle.leaf_domain.specs.Leaves.{LeafValue, LeafMeaning, LeafLaws}
use Rattle.leaf_domain.specs.Soundness.{TransferAnswers, TransferHolds}
use Rattle.plain_analysis.specs.declared.options.Options.{Options}
use Rattle.plain_analysis.specs.Statements.{final_heads}
use Rattle.plain_analysis.specs.Promises.{RunsForeseen}
use Rattle.plain_analysis.specs.Ways.{enter}
use Rattle.plain_analysis.proofs.Kept.{enter_leaves}
use Rattle.plain_analysis.proofs.Promised.{runs}
use Rattle.plain_analysis.proofs.Recursion.{final_heads_hold}

pub analysis_foresees : (M : LeafMeaning) → LeafLaws M → (o : Options) → TransferAnswers M o.mode → TransferHolds M o.mode → (p : Whole) (d : LeafValue)
    → IsProgram p → IsPlainProgram p → M.valid d → d.variables ≡ length p.names → RunsForeseen M o p d
analysis_foresees M laws o A T p d program plain valid count =
    runs M o.mode (final_heads M o) p d program plain laws A T valid count
    (final_heads_hold M laws o A d.variables p.body (enter d) (enter_leaves M laws d.variables d (record { valid = valid; count = refl })) (subst (λ m. IsCodeOf m p.body) (sym count) program.names))
