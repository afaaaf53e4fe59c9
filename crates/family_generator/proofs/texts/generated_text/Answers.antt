use Rattle.std.proofs.Common.{string_bytes}
use Rattle.family_generator.proofs.Blocks.{block_added}
use Rattle.family_generator.proofs.texts.generated_text.Goals as goal

pub loop-k-preserved : goal.loop-k-preserved
loop-k-preserved c =
    block_added c.args.number c.loop-k.k (string_bytes c.loop-k.text) _ _ c.loop-k-test.true c.in_ok-push_block.ensures c.loop-k.invariant
