-- The blocks from one on are that one and those behind it.
use Rattle.std.proofs.Common.{◌≡◌, ℕ, suc, ◌+◌, ◌-◌, ◌<◌, List, ◌++◌, append_assoc, arith, refl}
use Rattle.family_generator.specs.Texts.{block, blocks}

blocks_from : (number k : ℕ) → k < number → blocks number k (number - k) ≡ block number k ++ blocks number (k + 1) (number - (k + 1))
blocks_from number k lt = let e : number - k ≡ suc (number - (k + 1)) = omega arith in rw e refl

-- a text with a block more has one block fewer to come
pub block_added : (number k : ℕ) (front text all : List ℕ) → k < number → text ≡ front ++ block number k → front ++ blocks number k (number - k) ≡ all
    → text ++ blocks number (k + 1) (number - (k + 1)) ≡ all
block_added number k front text all lt is whole = rw is (rw (append_assoc front (block number k) (blocks number (k + 1) (number - (k + 1)))) (rw (blocks_from number k lt) at whole))
