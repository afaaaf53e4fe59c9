-- Blocks as data, apart from their numbers.
use Rattle.std.proofs.Common.{◌≡◌, ℕ, zero, suc, ◌+◌, ◌*◌, ◌%◌, ◌<◌, List, [], ◌∷◌, ◌++◌, refl, ap, ◌∙◌, arith}
use Rattle.family_generator.specs.Texts.{switched_input, bounded_count, checked_choice, block_by, blocks}

-- the bound and the limit less 1 and 10
pub data Block : Type 0 where
  Switched : (f : ℕ) → Block
  Bounded : (c w : ℕ) → Block
  Checked : Block

abbrev pub IsBlock : Block → Type 0
IsBlock (Switched f) = f < 8
IsBlock (Bounded c w) = (c < 9) × (w < 50)
IsBlock Checked = Unit {0}

abbrev pub AreBlocks : List Block → Type 0
AreBlocks [] = Unit {0}
AreBlocks (x ∷ xs) = IsBlock x × AreBlocks xs

abbrev pub block_text : Block → List ℕ
block_text (Switched f) = switched_input f
block_text (Bounded c w) = bounded_count (c + 1) (w + 10)
block_text Checked = checked_choice

abbrev pub block_texts : List Block → List ℕ
block_texts [] = []
block_texts (x ∷ xs) = block_text x ++ block_texts xs

abbrev pub block_of : ℕ → ℕ → ℕ → Block
block_of zero number k = Switched ((5 * k + number) % 8)
block_of (suc zero) number k = Bounded (k % 9) (k % 50)
block_of (suc (suc r)) number k = Checked

abbrev pub generated_blocks : ℕ → ℕ → ℕ → List Block
generated_blocks number k zero = []
generated_blocks number k (suc left) = block_of (k % 3) number k ∷ generated_blocks number (k + 1) left

same_block : (r number k : ℕ) → block_by r number k ≡ block_text (block_of r number k)
same_block zero number k = refl
same_block (suc zero) number k = refl
same_block (suc (suc r)) number k = refl

pub same_blocks : (number k left : ℕ) → blocks number k left ≡ block_texts (generated_blocks number k left)
same_blocks number k zero = refl
same_blocks number k (suc left) =
    ap (λ (t : List ℕ). t ++ blocks number (k + 1) left) (same_block (k % 3) number k)
    ∙ ap (λ (t : List ℕ). block_text (block_of (k % 3) number k) ++ t) (same_blocks number (k + 1) left)

is_block : (r number k : ℕ) → IsBlock (block_of r number k)
is_block zero number k = omega arith
is_block (suc zero) number k = (omega arith, omega arith)
is_block (suc (suc r)) number k = tt

pub are_blocks : (number k left : ℕ) → AreBlocks (generated_blocks number k left)
are_blocks number k zero = tt
are_blocks number k (suc left) = (is_block (k % 3) number k, are_blocks number (k + 1) left)
