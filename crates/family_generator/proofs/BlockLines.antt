-- The texts of blocks, line by line.
use Rattle.std.proofs.Common.{◌≡◌, ℕ, ◌+◌, ◌/◌, ◌%◌, ◌<◌, false, List, [], ◌∷◌, ◌++◌, codes, refl, ap, ◌∙◌, append_assoc, arith}
use Rattle.std.specs.Fmt.{decimal, digits}
use Rattle.std.specs.List.{list_any}
use Rattle.std.proofs.lemmas.Fmt.{decimal_digit}
use Rattle.fam_outer.specs.Places.{is_newline}
use Rattle.cpp_lines.specs.Lines.{pieces}
use Rattle.cpp_lines.proofs.CodeLines.{AreLines, more_pieces}
use Rattle.family_generator.specs.Texts.{header, generated_text, blocks}
use Rattle.family_generator.proofs.Cases.{each_below}
use Rattle.family_generator.proofs.BlockTexts.{Block, Switched, Bounded, Checked, IsBlock, AreBlocks, block_text, block_texts, generated_blocks, same_blocks, are_blocks}

-- ---- lines

abbrev pub digit : ℕ → List ℕ
digit n = (48 + n) ∷ []

abbrev pub two_digits : ℕ → List ℕ
two_digits w = (48 + (w + 10) / 10) ∷ (48 + (w + 10) % 10) ∷ []

abbrev pub switch_line : ℕ → List ℕ
switch_line f = codes "#ifdef F" ++ digit f

abbrev pub bound_line : ℕ → List ℕ
bound_line c = codes "#if N >= " ++ digit (c + 1)

abbrev pub count_line : ℕ → List ℕ
count_line w = codes "while (b < " ++ (two_digits w ++ codes ") b++;")

abbrev pub block_lines : Block → List (List ℕ)
block_lines (Switched f) = switch_line f ∷ codes "a = input();" ∷ codes "#endif" ∷ []
block_lines (Bounded c w) = bound_line c ∷ count_line w ∷ codes "#else" ∷ codes "b = 0;" ∷ codes "#endif" ∷ []
block_lines Checked = codes "if (a > 0) b = b + 1; else b = 0;" ∷ codes "assert(b >= 0);" ∷ []

-- the lines of blocks, and those behind them: the closing brace, and nothing behind the last newline
abbrev pub blocks_lines : List Block → List (List ℕ)
blocks_lines [] = codes "}" ∷ [] ∷ []
blocks_lines (b ∷ bs) = block_lines b ++ blocks_lines bs

abbrev pub file_lines : List Block → List (List ℕ)
file_lines bs = codes "int a;" ∷ codes "int b;" ∷ codes "int main(void) {" ∷ blocks_lines bs

-- lines, each ended by a newline, before a text
abbrev pub ended : List (List ℕ) → List ℕ → List ℕ
ended [] rest = rest
ended (l ∷ ls) rest = l ++ 10 ∷ ended ls rest

abbrev pub blocks_ended : List Block → List ℕ
blocks_ended [] = codes "}\n"
blocks_ended (b ∷ bs) = ended (block_lines b) (blocks_ended bs)

abbrev pub file_ended : List Block → List ℕ
file_ended bs = ended (codes "int a;" ∷ codes "int b;" ∷ codes "int main(void) {" ∷ []) (blocks_ended bs)

-- ---- the text is made of them

abbrev limit_decimal : ℕ → List ℕ
limit_decimal w = decimal (w + 10)

two_are : (w : ℕ) → w < 50 → limit_decimal w ≡ two_digits w
unfolding digits
two_are w lt = each_below limit_decimal two_digits 50 refl w lt

block_ended : (b : Block) (rest : List ℕ) → IsBlock b → block_text b ++ rest ≡ ended (block_lines b) rest
block_ended (Switched f) rest h = ap (λ (d : List ℕ). (codes "#ifdef F" ++ d ++ codes "\na = input();\n#endif\n") ++ rest) (decimal_digit f (omega (arith, h)))
block_ended (Bounded c w) rest h =
    ap (λ (d : List ℕ). (codes "#if N >= " ++ d ++ codes "\nwhile (b < " ++ decimal (w + 10) ++ codes ") b++;\n#else\nb = 0;\n#endif\n") ++ rest) (decimal_digit (c + 1) (omega (arith, h.0)))
    ∙ ap (λ (d : List ℕ). (codes "#if N >= " ++ digit (c + 1) ++ codes "\nwhile (b < " ++ d ++ codes ") b++;\n#else\nb = 0;\n#endif\n") ++ rest) (two_are w h.1)
block_ended Checked rest h = refl

blocks_are_ended : (bs : List Block) → AreBlocks bs → block_texts bs ++ codes "}\n" ≡ blocks_ended bs
blocks_are_ended [] h = refl
blocks_are_ended (b ∷ bs) h =
    append_assoc (block_text b) (block_texts bs) (codes "}\n") ∙ ap (λ (t : List ℕ). block_text b ++ t) (blocks_are_ended bs h.1) ∙ block_ended b (blocks_ended bs) h.0

pub generated_ended : (number : ℕ) → generated_text number ≡ file_ended (generated_blocks number 0 number)
generated_ended number =
    append_assoc header (blocks number 0 number) (codes "}\n") ∙ ap (λ (t : List ℕ). header ++ (t ++ codes "}\n")) (same_blocks number 0 number)
    ∙ ap (λ (t : List ℕ). header ++ t) (blocks_are_ended (generated_blocks number 0 number) (are_blocks number 0 number))

-- ---- and has them as its pieces

block_is_lines : (b : Block) → IsBlock b → AreLines (block_lines b)
block_is_lines (Switched f) h = (each_below (λ f. list_any is_newline (switch_line f)) (λ _. false) 8 refl f h, (refl, (refl, tt)))
block_is_lines (Bounded c w) h = (each_below (λ c. list_any is_newline (bound_line c)) (λ _. false) 9 refl c h.0, (each_below (λ w. list_any is_newline (count_line w)) (λ _. false) 50 refl w h.1, (refl, (refl, (refl, tt)))))
block_is_lines Checked h = (refl, (refl, tt))

ended_pieces : (ls : List (List ℕ)) (rest : List ℕ) → AreLines ls → pieces (ended ls rest) ≡ ls ++ pieces rest
ended_pieces [] rest h = refl
ended_pieces (l ∷ ls) rest h = more_pieces l (ended ls rest) h.0 ∙ ap (λ (ps : List (List ℕ)). l ∷ ps) (ended_pieces ls rest h.1)

blocks_pieces : (bs : List Block) → AreBlocks bs → pieces (blocks_ended bs) ≡ blocks_lines bs
blocks_pieces [] h = refl
blocks_pieces (b ∷ bs) h = ended_pieces (block_lines b) (blocks_ended bs) (block_is_lines b h.0) ∙ ap (λ (ps : List (List ℕ)). block_lines b ++ ps) (blocks_pieces bs h.1)

pub file_pieces : (bs : List Block) → AreBlocks bs → pieces (file_ended bs) ≡ file_lines bs
file_pieces bs h = ap (λ (ps : List (List ℕ)). codes "int a;" ∷ codes "int b;" ∷ codes "int main(void) {" ∷ ps) (blocks_pieces bs h)
