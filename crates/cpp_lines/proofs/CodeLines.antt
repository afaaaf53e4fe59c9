-- The code of a text, line by line.
use Rattle.std.proofs.Common.{◌≡◌, ℕ, zero, suc, ◌+◌, ◌==◌, Bool, true, false, cond, List, [], ◌∷◌, ◌++◌, length, map, take, drop, Option, Some, None, refl, sym, ap, ◌∙◌, append_assoc, arith}
use Rattle.std.specs.List.{list_any}
use Rattle.std.proofs.lemmas.Bool.{or_parts, or_from}
use Rattle.std.proofs.lemmas.List.{length-append, length-map}
use Rattle.fam_outer.specs.Places.{is_newline}
use Rattle.c_tokens.specs.Lexemes.{definition_byte}
use Rattle.cpp_lines.specs.declared.code.Leaves.{Leaves}
use Rattle.cpp_lines.specs.declared.code.Leaves.TheVariants.{Code, Mark, Spaces}
use Rattle.cpp_lines.specs.declared.directives.Directive.{Directive}
use Rattle.cpp_lines.specs.declared.directives.Directive.TheVariants as named
use Rattle.cpp_lines.specs.Code.{stray_byte, byte_left, code_bytes, front_len, definition_code, directive_code, code_piece, code_of}
use Rattle.cpp_lines.specs.Directives.{begins_directive, behind_hash, directive_of}
use Rattle.cpp_lines.specs.Lines.{pieces, in_first}
use Rattle.cpp_lines.specs.Preprocessed.{with_newlines}
use Rattle.cpp_lines.proofs.Coding.{not_none, last_piece, next_piece}

-- ---- lines have no newline

abbrev pub AreLines : List (List ℕ) → Type 0
AreLines [] = Unit {0}
AreLines (p ∷ ps) = (list_any is_newline p ≡ false) × AreLines ps

pub pieces_are_lines : (text : List ℕ) (ps : List (List ℕ)) → pieces text ≡ ps → AreLines ps
pieces_are_lines text [] e = tt
pieces_are_lines text (p ∷ []) e = ((last_piece text p e).1, tt)
pieces_are_lines text (p ∷ q ∷ qs) e = let k = next_piece text p q qs e in (k.2, pieces_are_lines k.0 (q ∷ qs) k.3)

-- ---- lines with newlines between them are cut into these lines

pub one_piece : (line : List ℕ) → list_any is_newline line ≡ false → pieces line ≡ line ∷ []
one_piece [] none = refl
one_piece (b ∷ bs) none =
    let p = or_parts (is_newline b) (list_any is_newline bs) none in
    ap (λ (t : Bool). cond t ([] ∷ pieces bs) (in_first b (pieces bs))) p.0 ∙ ap (in_first b) (one_piece bs p.1)

pub more_pieces : (line rest : List ℕ) → list_any is_newline line ≡ false → pieces (line ++ 10 ∷ rest) ≡ line ∷ pieces rest
more_pieces [] rest none = refl
more_pieces (b ∷ bs) rest none =
    let p = or_parts (is_newline b) (list_any is_newline bs) none in
    ap (λ (t : Bool). cond t ([] ∷ pieces (bs ++ 10 ∷ rest)) (in_first b (pieces (bs ++ 10 ∷ rest)))) p.0 ∙ ap (in_first b) (more_pieces bs rest p.1)

pub cut_again : (k : List ℕ) (ks : List (List ℕ)) → AreLines (k ∷ ks) → pieces (with_newlines (k ∷ ks)) ≡ k ∷ ks
cut_again k [] h = one_piece k h.0
cut_again k (m ∷ ks) h = more_pieces k (with_newlines (m ∷ ks)) h.0 ∙ ap (λ (xs : List (List ℕ)). k ∷ xs) (cut_again m ks h.1)

pub joined_again : (text : List ℕ) (ps : List (List ℕ)) → pieces text ≡ ps → with_newlines ps ≡ text
joined_again text [] e = absurd (not_none text e)
joined_again text (p ∷ []) e = sym (last_piece text p e).0
joined_again text (p ∷ q ∷ qs) e =
    let k = next_piece text p q qs e in
    ap (λ (xs : List ℕ). p ++ 10 ∷ xs) (joined_again k.0 (q ∷ qs) k.3) ∙ sym k.1

-- ---- what a line leaves has no newline

byte_quiet : (leaves : Leaves) (b : ℕ) → is_newline b ≡ false → is_newline (byte_left leaves b) ≡ false
byte_quiet Code b e = elim (b == definition_byte) as (λ t. is_newline (cond t stray_byte b) ≡ false) [ true ↦ refl | false ↦ e ]
byte_quiet Mark b e = elim (b == 35) as (λ t. is_newline (cond t definition_byte 32) ≡ false) [ true ↦ refl | false ↦ refl ]
byte_quiet Spaces b e = refl

bytes_quiet : (leaves : Leaves) (line : List ℕ) → list_any is_newline line ≡ false → list_any is_newline (code_bytes leaves line) ≡ false
bytes_quiet leaves [] none = refl
bytes_quiet leaves (b ∷ bs) none =
    let p = or_parts (is_newline b) (list_any is_newline bs) none in
    or_from (is_newline (byte_left leaves b)) (list_any is_newline (code_bytes leaves bs)) (byte_quiet leaves b p.0) (bytes_quiet leaves bs p.1)

take_quiet : (n : ℕ) (line : List ℕ) → list_any is_newline line ≡ false → list_any is_newline (take n line) ≡ false
take_quiet zero line none = refl
take_quiet (suc n) [] none = refl
take_quiet (suc n) (b ∷ bs) none = let p = or_parts (is_newline b) (list_any is_newline bs) none in or_from (is_newline b) (list_any is_newline (take n bs)) p.0 (take_quiet n bs p.1)

drop_quiet : (n : ℕ) (line : List ℕ) → list_any is_newline line ≡ false → list_any is_newline (drop n line) ≡ false
drop_quiet zero line none = none
drop_quiet (suc n) [] none = refl
drop_quiet (suc n) (b ∷ bs) none = drop_quiet n bs (or_parts (is_newline b) (list_any is_newline bs) none).1

both_quiet : (xs ys : List ℕ) → list_any is_newline xs ≡ false → list_any is_newline ys ≡ false → list_any is_newline (xs ++ ys) ≡ false
both_quiet [] ys h k = k
both_quiet (x ∷ xs) ys h k =
    let p = or_parts (is_newline x) (list_any is_newline xs) h in
    or_from (is_newline x) (list_any is_newline (xs ++ ys)) p.0 (both_quiet xs ys p.1 k)

definition_quiet : (line : List ℕ) → list_any is_newline line ≡ false → list_any is_newline (definition_code line) ≡ false
definition_quiet line none =
    both_quiet (code_bytes Mark (take (front_len line) line)) (drop (front_len line) line) (bytes_quiet Mark (take (front_len line) line) (take_quiet (front_len line) line none)) (drop_quiet (front_len line) line none)

directive_quiet : (d : Option Directive) (line : List ℕ) → list_any is_newline line ≡ false → list_any is_newline (directive_code d line) ≡ false
directive_quiet None line none = bytes_quiet Spaces line none
directive_quiet (Some named.Define) line none = definition_quiet line none
directive_quiet (Some named.If) line none = bytes_quiet Spaces line none
directive_quiet (Some named.Ifdef) line none = bytes_quiet Spaces line none
directive_quiet (Some named.Ifndef) line none = bytes_quiet Spaces line none
directive_quiet (Some named.Include) line none = bytes_quiet Spaces line none
directive_quiet (Some named.OtherInclude) line none = bytes_quiet Spaces line none
directive_quiet (Some named.Elif) line none = bytes_quiet Spaces line none
directive_quiet (Some named.Else) line none = bytes_quiet Spaces line none
directive_quiet (Some named.Endif) line none = bytes_quiet Spaces line none

pub piece_quiet : (line : List ℕ) → list_any is_newline line ≡ false → list_any is_newline (code_piece line) ≡ false
piece_quiet line none = elim (begins_directive line) as (λ t. list_any is_newline (cond t (directive_code (directive_of (behind_hash line)) line) (code_bytes Code line)) ≡ false) [
  | true ↦ directive_quiet (directive_of (behind_hash line)) line none
  | false ↦ bytes_quiet Code line none
]

-- ---- and as many bytes

split_len : (n : ℕ) (line : List ℕ) → length (take n line) + length (drop n line) ≡ length line
split_len zero line = omega arith
split_len (suc n) [] = omega arith
split_len (suc n) (b ∷ bs) = let h = split_len n bs in omega arith

definition_len : (line : List ℕ) → length (definition_code line) ≡ length line
definition_len line =
    length-append (code_bytes Mark (take (front_len line) line)) (drop (front_len line) line)
    ∙ ap (λ (n : ℕ). n + length (drop (front_len line) line)) (length-map (take (front_len line) line) (byte_left Mark))
    ∙ split_len (front_len line) line

directive_len : (d : Option Directive) (line : List ℕ) → length (directive_code d line) ≡ length line
directive_len None line = length-map line (byte_left Spaces)
directive_len (Some named.Define) line = definition_len line
directive_len (Some named.If) line = length-map line (byte_left Spaces)
directive_len (Some named.Ifdef) line = length-map line (byte_left Spaces)
directive_len (Some named.Ifndef) line = length-map line (byte_left Spaces)
directive_len (Some named.Include) line = length-map line (byte_left Spaces)
directive_len (Some named.OtherInclude) line = length-map line (byte_left Spaces)
directive_len (Some named.Elif) line = length-map line (byte_left Spaces)
directive_len (Some named.Else) line = length-map line (byte_left Spaces)
directive_len (Some named.Endif) line = length-map line (byte_left Spaces)

pub piece_len : (line : List ℕ) → length (code_piece line) ≡ length line
piece_len line = elim (begins_directive line) as (λ t. length (cond t (directive_code (directive_of (behind_hash line)) line) (code_bytes Code line)) ≡ length line) [
  | true ↦ directive_len (directive_of (behind_hash line)) line
  | false ↦ length-map line (byte_left Code)
]

-- ---- the code of all lines

pub code_are_lines : (ps : List (List ℕ)) → AreLines ps → AreLines (map code_piece ps)
code_are_lines [] h = tt
code_are_lines (p ∷ ps) h = (piece_quiet p h.0, code_are_lines ps h.1)

pub cut_code : (text : List ℕ) (ps : List (List ℕ)) → pieces text ≡ ps → pieces (with_newlines (map code_piece ps)) ≡ map code_piece ps
cut_code text [] e = absurd (not_none text e)
cut_code text (p ∷ ps) e = cut_again (code_piece p) (map code_piece ps) (code_are_lines (p ∷ ps) (pieces_are_lines text (p ∷ ps) e))

-- the lines of a text's code are the code of its lines
pub code_pieces : (text : List ℕ) → pieces (code_of text) ≡ map code_piece (pieces text)
unfolding code_of
code_pieces text = cut_code text (pieces text) refl

-- ---- a step of the loop

newline_behind : (k : List ℕ) (ps : List (List ℕ)) → (ps ≡ [] → ⊥) → with_newlines (k ∷ map code_piece ps) ≡ k ++ 10 ∷ with_newlines (map code_piece ps)
newline_behind k [] n = absurd (n refl)
newline_behind k (p ∷ ps) n = refl

pub coded_on : (code line more : List ℕ) (ps : List (List ℕ)) (total : List ℕ) → ps ≡ line ∷ pieces more → code ++ with_newlines (map code_piece ps) ≡ total
    → ((code ++ code_piece line) ++ 10 ∷ []) ++ with_newlines (map code_piece (pieces more)) ≡ total
coded_on code line more ps total cut h =
    append_assoc (code ++ code_piece line) (10 ∷ []) (with_newlines (map code_piece (pieces more)))
    ∙ append_assoc code (code_piece line) (10 ∷ with_newlines (map code_piece (pieces more)))
    ∙ ap (λ (xs : List ℕ). code ++ xs) (sym (newline_behind (code_piece line) (pieces more) (not_none more)))
    ∙ ap (λ (xs : List (List ℕ)). code ++ with_newlines (map code_piece xs)) (sym cut) ∙ h
