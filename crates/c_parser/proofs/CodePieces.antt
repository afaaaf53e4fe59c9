-- A line that does not stay in the text of a variant leaves no token.
use Rattle.std.proofs.Common.{◌≡◌, ◌⊎◌, inl, inr, ℕ, ◌+◌, ◌-◌, true, false, List, [], ◌∷◌, length, map, take, None, Result, Ok, refl, sym, ap, ◌∙◌, arith}
use Rattle.std.specs.List.{list_all}
use Rattle.std.proofs.lemmas.List.{take_all}
use Rattle.fam_outer.specs.declared.faults.Place.{Place}
use Rattle.fam_outer.specs.declared.faults.FileCode.{FileCode}
use Rattle.c_words.specs.Bytes.{is_space}
use Rattle.c_tokens.specs.declared.token.Token.{Token}
use Rattle.c_tokens.specs.Reading.{tokens_of, IsReading, slice}
use Rattle.cpp_lines.specs.declared.line.Line.{Line}
use Rattle.cpp_lines.specs.declared.line.LineKind.{LineKind}
use Rattle.cpp_lines.specs.declared.line.LineKind.TheVariants as kinds
use Rattle.cpp_lines.specs.Code.{code_piece}
use Rattle.cpp_lines.specs.Lines.{stays, is_text, AreLinesFrom}
use Rattle.cpp_lines.proofs.BlankLines.{line_spaces}
use Rattle.c_parser.specs.FamilyItems.{group_sign}
use Rattle.c_parser.proofs.LineItems.{HaveSameLength}
use Rattle.c_parser.proofs.Occurring.{AreBlank}
use Rattle.c_parser.proofs.TokenLines.{alone_of, alone}

-- ---- spaces have no token

abbrev pub OneReading : Type 0
OneReading = (text : List ℕ) (answer : Result (List Token) (FileCode × Place)) → IsReading text answer → answer ≡ tokens_of text

whole_slice : (text : List ℕ) → slice text 0 (length text) ≡ text
whole_slice text = let n : length text - 0 ≡ length text = omega arith in ap (λ (k : ℕ). take k text) n ∙ take_all (length text) text (omega arith)

pub no_tokens : OneReading → (text : List ℕ) → list_all is_space text ≡ true → Ok [] ≡ tokens_of text
no_tokens one text h = one text (Ok []) (record { order = omega arith; within = omega arith; spaces = ap (list_all is_space) (whole_slice text) ∙ h })

pub blank_line : (functions : List (List ℕ)) → OneReading → (names : List (List ℕ)) (p : List ℕ) → is_text p ≡ false → alone functions names (code_piece p) ≡ []
blank_line functions one names p e = ap (alone_of functions names (code_piece p)) (sym (no_tokens one (code_piece p) (line_spaces p e)))

group_or_text : (kind : LineKind) → (group_sign kind ≡ None) ⊎ (stays kind ≡ false)
group_or_text kinds.Code = inl refl
group_or_text kinds.Include = inl refl
group_or_text kinds.Define = inl refl
group_or_text (kinds.If n) = inr refl
group_or_text (kinds.Elif n) = inr refl
group_or_text kinds.Else = inr refl
group_or_text kinds.Endif = inr refl

line_blank : (functions : List (List ℕ)) → OneReading → (names : List (List ℕ)) (l : Line) (p : List ℕ) → stays l.kind ≡ is_text p → (group_sign l.kind ≡ None) ⊎ (alone functions names (code_piece p) ≡ [])
line_blank functions one names l p k = elim (group_or_text l.kind) [
  | inl e ↦ inl e
  | inr e ↦ inr (blank_line functions one names p (sym k ∙ e))
]

pub lines_blank : (functions : List (List ℕ)) → OneReading → (names : List (List ℕ)) (start : ℕ) (ps : List (List ℕ)) (ls : List Line) → AreLinesFrom start ps ls → AreBlank functions names ls (map code_piece ps)
lines_blank functions one names start [] [] h = tt
lines_blank functions one names start [] (l ∷ ls) h = absurd h
lines_blank functions one names start (p ∷ ps) [] h = absurd h
lines_blank functions one names start (p ∷ ps) (l ∷ ls) h = (line_blank functions one names l p h.0.text, lines_blank functions one names (start + length p + 1) ps ls h.1)

pub same_length : (start : ℕ) (ps : List (List ℕ)) (ls : List Line) → AreLinesFrom start ps ls → HaveSameLength ls (map code_piece ps)
same_length start [] [] h = tt
same_length start [] (l ∷ ls) h = absurd h
same_length start (p ∷ ps) [] h = absurd h
same_length start (p ∷ ps) (l ∷ ls) h = same_length (start + length p + 1) ps ls h.1
