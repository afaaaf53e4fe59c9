-- The text of a generated family has no comment and no splice, and not too many bytes: it is its own blanked text.
use Rattle.std.proofs.Common.{◌≡◌, ℕ, ◌+◌, ◌*◌, ◌≤◌, nat_lt, Bool, false, ◌||◌, ◌&&◌, ◌==◌, cond, List, [], ◌∷◌, ◌++◌, length, Ok, Err, refl, ap, ◌∙◌, arith}
use Rattle.std.specs.Prelude.{codes}
use Rattle.std.specs.List.{list_any}
use Rattle.std.proofs.lemmas.Bool.{or_parts, or_from}
use Rattle.std.proofs.lemmas.Bool.Decides.{nat_tests}
use Rattle.fam_outer.specs.declared.faults.FileCode.TheVariants.{TooLong}
use Rattle.fam_outer.specs.Results.{and_then}
use Rattle.cpp_lines.specs.Bytes.{begins_with}
use Rattle.cpp_lines.specs.Faults.{ends_line, ends_line_behind, first_fault, blanked_or, without_comments}
use Rattle.cpp_lines.specs.Whole.{blanked_file, file_place}
use Rattle.cpp_lines.proofs.Clean.{IsClean, blank_clean, clean_without_fault}
use Rattle.family_generator.proofs.Cases.{each_below}
use Rattle.family_generator.proofs.BlockTexts.{Block, Switched, Bounded, Checked, IsBlock, AreBlocks}
use Rattle.family_generator.proofs.BlockLines.{switch_line, bound_line, count_line, block_lines, ended, blocks_ended, file_ended}

-- ---- no byte opens a comment or a splice

-- a slash, a backslash or a question mark
abbrev is_mark : ℕ → Bool
is_mark b = (b == 47) || ((b == 92) || (b == 63))

abbrev has_mark : List ℕ → Bool
has_mark bytes = list_any is_mark bytes

begins_not : (y b : ℕ) (bs : List ℕ) → (b == 47) ≡ false → begins_with 47 y (b ∷ bs) ≡ false
begins_not y b [] e = refl
begins_not y b (c ∷ bs) e = ap (λ (t : Bool). t && (c == y)) e

clean : (text : List ℕ) → has_mark text ≡ false → IsClean text
clean [] h = tt
clean (b ∷ bs) h =
    let p = or_parts (is_mark b) (has_mark bs) h in
    let q = or_parts (b == 47) ((b == 92) || (b == 63)) p.0 in
    let r = or_parts (b == 92) (b == 63) q.1 in (
      or_from (begins_with 47 42 (b ∷ bs)) (begins_with 47 47 (b ∷ bs)) (begins_not 42 b bs q.0) (begins_not 47 b bs q.0),
      or_from (ends_line_behind (codes "\\") (b ∷ bs)) (ends_line_behind (codes "??/") (b ∷ bs)) (ap (λ (t : Bool). t && ends_line bs) r.0) (ap (λ (t : Bool). t && ends_line_behind (codes "?/") bs) r.1),
      clean bs p.1,
    )

line_unmarked : (line rest : List ℕ) → has_mark line ≡ false → has_mark rest ≡ false → has_mark (line ++ 10 ∷ rest) ≡ false
line_unmarked [] rest h k = k
line_unmarked (b ∷ bs) rest h k = let p = or_parts (is_mark b) (has_mark bs) h in or_from (is_mark b) (has_mark (bs ++ 10 ∷ rest)) p.0 (line_unmarked bs rest p.1 k)

abbrev AreUnmarked : List (List ℕ) → Type 0
AreUnmarked [] = Unit {0}
AreUnmarked (l ∷ ls) = (has_mark l ≡ false) × AreUnmarked ls

ended_unmarked : (ls : List (List ℕ)) (rest : List ℕ) → AreUnmarked ls → has_mark rest ≡ false → has_mark (ended ls rest) ≡ false
ended_unmarked [] rest h k = k
ended_unmarked (l ∷ ls) rest h k = line_unmarked l (ended ls rest) h.0 (ended_unmarked ls rest h.1 k)

block_unmarked : (b : Block) → IsBlock b → AreUnmarked (block_lines b)
block_unmarked (Switched f) h = (each_below (λ f. has_mark (switch_line f)) (λ _. false) 8 refl f h, (refl, (refl, tt)))
block_unmarked (Bounded c w) h = (each_below (λ c. has_mark (bound_line c)) (λ _. false) 9 refl c h.0, (each_below (λ w. has_mark (count_line w)) (λ _. false) 50 refl w h.1, (refl, (refl, (refl, tt)))))
block_unmarked Checked h = (refl, (refl, tt))

blocks_unmarked : (bs : List Block) → AreBlocks bs → has_mark (blocks_ended bs) ≡ false
blocks_unmarked [] h = refl
blocks_unmarked (b ∷ bs) h = ended_unmarked (block_lines b) (blocks_ended bs) (block_unmarked b h.0) (blocks_unmarked bs h.1)

file_unmarked : (bs : List Block) → AreBlocks bs → has_mark (file_ended bs) ≡ false
file_unmarked bs h = blocks_unmarked bs h

-- ---- there are not too many bytes

block_short : (b : Block) (rest : List ℕ) → length (ended (block_lines b) rest) ≤ 51 + length rest
block_short (Switched f) rest = omega arith
block_short (Bounded c w) rest = omega arith
block_short Checked rest = omega arith

blocks_short : (bs : List Block) → length (blocks_ended bs) ≤ 51 * length bs + 2
blocks_short [] = omega arith
blocks_short (b ∷ bs) = omega (arith, block_short b (blocks_ended bs), blocks_short bs)

file_short : (bs : List Block) → length bs ≤ 2000 → length (file_ended bs) ≤ 1048576
file_short bs le = omega (arith, blocks_short bs, le)

not_longer : (n : ℕ) → n ≤ 1048576 → nat_lt 1048576 n ≡ false
not_longer n le = grind (arith, nat_tests)

-- ---- the file is its own blanked text

unmarked_blanked : (text : List ℕ) → has_mark text ≡ false → without_comments text ≡ Ok text
unfolding first_fault
unmarked_blanked text h =
    ap (blanked_or text) (clean_without_fault text 0 text (clean text h)) ∙ ap (λ (t : List ℕ). Ok t) (blank_clean text (clean text h))

pub file_blanked : (bs : List Block) → AreBlocks bs → length bs ≤ 2000 → blanked_file (file_ended bs) ≡ Ok (file_ended bs)
file_blanked bs h le =
    ap (λ (t : Bool). and_then (cond t (Err (TooLong, file_place)) (Ok (file_ended bs))) without_comments) (not_longer (length (file_ended bs)) (file_short bs le))
    ∙ unmarked_blanked (file_ended bs) (file_unmarked bs h)
