-- No fault of a phase before names is that of a name.
use Rattle.std.proofs.Common.{◌≡◌, ℕ, ◌+◌, ◌-◌, Bool, true, false, List, [], ◌∷◌, ◌++◌, length, Option, Some, None, Result, Ok, Err, refl, sym, ap, subst, ◌∙◌, inl, inr}
use Rattle.std.specs.Prelude.{◌==◌, ◌||◌, ◌&&◌, codes, nat_lt, option_map, if◌then◌else◌, slice_get}
use Rattle.std.specs.Str.{bytes_eq}
use Rattle.fam_outer.specs.declared.dialect.Dialect.{Dialect}
use Rattle.fam_outer.specs.declared.dialect.Includes.{Includes}
use Rattle.fam_outer.specs.declared.dialect.Includes.TheVariants as includes_of
use Rattle.fam_outer.specs.declared.faults.FileCode.{FileCode}
use Rattle.fam_outer.specs.declared.faults.FileCode.TheVariants as file_codes
use Rattle.fam_outer.specs.declared.faults.Place.{Place}
use Rattle.fam_outer.specs.Limits.{file_bytes}
use Rattle.fam_outer.specs.Places.{place_at}
use Rattle.fam_outer.specs.Results.{and_then}
use Rattle.linear_atoms.specs.declared.atoms.Atom.{Atom}
use Rattle.cpp_conditions.specs.Macros.{Macros}
use Rattle.cpp_conditions.specs.Propositions.{Proposition}
use Rattle.cpp_conditions.specs.Validity.{Plain}
use Rattle.cpp_lines.specs.Code.{code_of}
use Rattle.cpp_lines.specs.Comments.{comment_len, comment_left}
use Rattle.cpp_lines.specs.Bytes.{behind_word, word_of, is_gap_only}
use Rattle.cpp_lines.specs.Defined.{names_in, macros_behind}
use Rattle.cpp_lines.specs.Definitions.{is_definition_text}
use Rattle.cpp_lines.specs.Directives.{begins_directive, behind_hash, is_assert_header, directive_named, directive_of, checked, include_fault}
use Rattle.cpp_lines.specs.Faults.{is_open, is_splice, touches_directive, comment_fault, fault_at, or_later, first_fault_from, first_fault, blanked_or, without_comments}
use Rattle.cpp_lines.specs.Lines.{pieces}
use Rattle.cpp_lines.specs.Nesting.{named_in, opened_by, later_fault, end_fault, directive_fault, line_fault}
use Rattle.cpp_lines.specs.Sections as sections
use Rattle.cpp_lines.specs.Sections.{Told, AreRead, HasFault, in_front, line_at}
use Rattle.cpp_lines.specs.Whole.{file_place, blanked_file}
use Rattle.c_tokens.specs.declared.token.Token.{Token}
use Rattle.c_tokens.specs.Reading as tokens
use Rattle.c_tokens.specs.Reading.{tokens_of, IsReading}
use Rattle.c_grammar.specs.declared.items.Item.{Item}
use Rattle.c_parser.specs.FamilyItems.{HasEarlyFault}
use Rattle.c_parser.specs.Functions.{own_functions}
use Rattle.c_parser.specs.Items.{Listed, listed}
use Rattle.c_parser.specs.Phases.{is_group_item, is_else_item, item_before, wrong_code}

-- the code of a name that is used outside of the scope of a declaration, or declared again in one
abbrev pub is_of_name : FileCode → Bool
is_of_name (file_codes.Undeclared example) = true
is_of_name (file_codes.Twice example) = true
is_of_name _ = false

-- it is none, where there is a code
abbrev IsOther : Option FileCode → Type 0
IsOther None = Unit {0}
IsOther (Some code) = is_of_name code ≡ false

abbrev some_fault : FileCode × Place → Option (FileCode × Place)
some_fault fault = Some fault

abbrev blanked_ok : List ℕ → Result (List ℕ) (FileCode × Place)
blanked_ok text = Ok text

abbrev blanked_err : FileCode × Place → Result (List ℕ) (FileCode × Place)
blanked_err fault = Err fault

-- ---- comments

comment_other : (text : List ℕ) (offset : ℕ) (rest : List ℕ) → IsOther (comment_fault text offset rest)
comment_other text offset rest = elim (is_open rest) as (λ b. IsOther (if b then Some file_codes.OpenComment else (if touches_directive text offset (comment_len rest) then Some file_codes.CommentAtDirective else None))) [
  | true ↦ refl
  | false ↦ (elim (touches_directive text offset (comment_len rest)) as (λ b. IsOther (if b then Some file_codes.CommentAtDirective else None)) [ true ↦ refl | false ↦ tt ])
]

at_other : (text : List ℕ) (offset left : ℕ) (rest : List ℕ) → IsOther (fault_at text offset left rest)
at_other text offset left rest = elim (is_splice rest) as (λ b. IsOther (if b then Some file_codes.Splice else (if left == 0 then comment_fault text offset rest else None))) [
  | true ↦ refl
  | false ↦ (elim (left == 0) as (λ b. IsOther (if b then comment_fault text offset rest else None)) [ true ↦ comment_other text offset rest | false ↦ tt ])
]

first_or_later : (o : Option FileCode) (place : Place) (later : Option (FileCode × Place)) (fault : FileCode × Place) → IsOther o → (later ≡ some_fault fault → is_of_name fault.0 ≡ false) → or_later (option_map (λ code. (code, place)) o) later ≡ some_fault fault
    → is_of_name fault.0 ≡ false
first_or_later None place later fault h go e = go e
first_or_later (Some code) place later fault h go e =
    let is : (code, place) ≡ fault = (let k : some_fault (code, place) ≡ some_fault fault = e in cc) in
    ap (λ (f : FileCode × Place). is_of_name f.0) (sym is) ∙ h

first_other : (text : List ℕ) (offset left : ℕ) (rest : List ℕ) (fault : FileCode × Place) → first_fault_from text offset left rest ≡ some_fault fault → is_of_name fault.0 ≡ false
first_other text offset left [] fault e = absurd cc
first_other text offset left (b ∷ bs) fault e =
    first_or_later (fault_at text offset left (b ∷ bs)) (place_at text offset) (first_fault_from text (offset + 1) (comment_left left (b ∷ bs) - 1) bs) fault
    (at_other text offset left (b ∷ bs)) (first_other text (offset + 1) (comment_left left (b ∷ bs) - 1) bs fault) e

blanked_other : (text : List ℕ) (o : Option (FileCode × Place)) (fault : FileCode × Place) → (o ≡ some_fault fault → is_of_name fault.0 ≡ false) → blanked_or text o ≡ blanked_err fault → is_of_name fault.0 ≡ false
blanked_other text None fault go e = absurd cc
blanked_other text (Some found) fault go e =
    let is : found ≡ fault = (let k : blanked_err found ≡ blanked_err fault = e in cc) in
    go (ap (λ (f : FileCode × Place). some_fault f) is)

comments_other : (bytes : List ℕ) (fault : FileCode × Place) → blanked_file bytes ≡ Err fault → is_of_name fault.0 ≡ false
unfolding first_fault
comments_other bytes fault e = elim (nat_lt file_bytes (length bytes)) as (λ b. and_then (if b then blanked_err (file_codes.TooLong, file_place) else blanked_ok bytes) without_comments ≡ blanked_err fault → is_of_name fault.0 ≡ false) [
  | true ↦ λ k. (
      let long : FileCode × Place = (file_codes.TooLong, file_place) in
      let is : long ≡ fault = (let j : blanked_err long ≡ blanked_err fault = k in cc) in
      ap (λ (f : FileCode × Place). is_of_name f.0) (sym is))
  | false ↦ λ k. blanked_other bytes (first_fault_from bytes 0 0 bytes) fault (first_other bytes 0 0 bytes fault) k
] e

-- ---- lines

later_other : (opens : List Bool) → IsOther (later_fault opens)
later_other [] = refl
later_other (true ∷ opens) = refl
later_other (false ∷ opens) = tt

end_other : (opens : List Bool) → IsOther (end_fault opens)
end_other [] = refl
end_other (b ∷ opens) = tt

include_other : (includes : Includes) → IsOther (include_fault includes)
include_other includes_of.Assert = refl
include_other includes_of.Skip = tt

abbrev WordOther : Includes → List Bool → List ℕ → List ℕ → Type 0
WordOther includes opens word rest = IsOther (directive_fault includes opens (checked (directive_named word) rest))

define_other : (includes : Includes) (opens : List Bool) (is_text : Bool) → IsOther (directive_fault includes opens (if is_text then directive_named (codes "define") else None))
define_other includes opens true = tt
define_other includes opens false = refl

-- the names from `elif` on
last_other : (includes : Includes) (opens : List Bool) (word rest : List ℕ) → bytes_eq word (codes "include") ≡ false → bytes_eq word (codes "if") ≡ false → bytes_eq word (codes "ifdef") ≡ false → bytes_eq word (codes "ifndef") ≡ false → WordOther includes opens word rest
last_other includes opens word rest k1 k2 k3 k4 = elim (bytes_eq word (codes "elif")) as (λ b. bytes_eq word (codes "elif") ≡ b → WordOther includes opens word rest) [
  | true ↦ λ k5. rw (k1, k2, k3, k4, k5) (later_other opens)
  | false ↦ λ k5. (elim (bytes_eq word (codes "else")) as (λ b. bytes_eq word (codes "else") ≡ b → WordOther includes opens word rest) [
    | true ↦ λ k6. (elim (is_gap_only rest) as (λ b. is_gap_only rest ≡ b → WordOther includes opens word rest) [
      | true ↦ λ g. rw (k1, k2, k3, k4, k5, k6, g) (later_other opens)
      | false ↦ λ g. rw (k1, k2, k3, k4, k5, k6, g) refl
    ] refl)
    | false ↦ λ k6. (elim (bytes_eq word (codes "endif")) as (λ b. bytes_eq word (codes "endif") ≡ b → WordOther includes opens word rest) [
      | true ↦ λ k7. (elim (is_gap_only rest) as (λ b. is_gap_only rest ≡ b → WordOther includes opens word rest) [
        | true ↦ λ g. rw (k1, k2, k3, k4, k5, k6, k7, g) (end_other opens)
        | false ↦ λ g. rw (k1, k2, k3, k4, k5, k6, k7, g) refl
      ] refl)
      | false ↦ λ k7. (elim (bytes_eq word (codes "define")) as (λ b. bytes_eq word (codes "define") ≡ b → WordOther includes opens word rest) [
        | true ↦ λ k8. rw (k1, k2, k3, k4, k5, k6, k7, k8) (define_other includes opens (is_definition_text rest))
        | false ↦ λ k8. rw (k1, k2, k3, k4, k5, k6, k7, k8) refl
      ] refl)
    ] refl)
  ] refl)
] refl

directive_other : (includes : Includes) (opens : List Bool) (word rest : List ℕ) → WordOther includes opens word rest
directive_other includes opens word rest = elim (bytes_eq word (codes "include")) as (λ b. bytes_eq word (codes "include") ≡ b → WordOther includes opens word rest) [
  | true ↦ λ k1. (elim (is_assert_header rest) as (λ b. is_assert_header rest ≡ b → WordOther includes opens word rest) [
    | true ↦ λ g. rw (k1, g) tt
    | false ↦ λ g. rw (k1, g) (include_other includes)
  ] refl)
  | false ↦ λ k1. (elim (bytes_eq word (codes "if")) as (λ b. bytes_eq word (codes "if") ≡ b → WordOther includes opens word rest) [
    | true ↦ λ k2. rw (k1, k2) tt
    | false ↦ λ k2. (elim (bytes_eq word (codes "ifdef")) as (λ b. bytes_eq word (codes "ifdef") ≡ b → WordOther includes opens word rest) [
      | true ↦ λ k3. rw (k1, k2, k3) tt
      | false ↦ λ k3. (elim (bytes_eq word (codes "ifndef")) as (λ b. bytes_eq word (codes "ifndef") ≡ b → WordOther includes opens word rest) [
        | true ↦ λ k4. rw (k1, k2, k3, k4) tt
        | false ↦ λ k4. last_other includes opens word rest k1 k2 k3 k4
      ] refl)
    ] refl)
  ] refl)
] refl

line_other : (includes : Includes) (opens : List Bool) (line : List ℕ) → IsOther (line_fault includes opens line)
line_other includes opens line = elim (begins_directive line) as (λ b. IsOther (if b then directive_fault includes opens (directive_of (behind_hash line)) else None)) [
  | true ↦ directive_other includes opens (word_of (behind_hash line)) (behind_word (behind_hash line))
  | false ↦ tt
]

fault_other : (dialect : Dialect) (macros : Macros) (model : Plain) (opens : List Bool) (ps : List (Proposition Atom)) (line : List ℕ) (code : FileCode) → HasFault dialect macros model opens ps line code → is_of_name code ≡ false
fault_other dialect macros model opens ps line code (sections.misplaced _ e) = subst IsOther e (line_other dialect.includes opens line)
fault_other dialect macros model opens ps line _ (sections.refused text fault e c g) = refl
fault_other dialect macros model opens ps line _ (sections.crowded text p e c g h) = refl

abbrev IsOtherIn : Result Told (FileCode × Place) → Type 0
IsOtherIn (Ok told) = Unit {0}
IsOtherIn (Err fault) = is_of_name fault.0 ≡ false

front_other : (l : sections.Told) (r : Result Told (FileCode × Place)) → IsOtherIn r → IsOtherIn (in_front l.lines l.conditions r)
front_other l (Ok told) h = tt
front_other l (Err fault) h = h

lines_other : (dialect : Dialect) (model : Plain) (text : List ℕ) (above : List (List ℕ)) (opens : List Bool) (ps : List (Proposition Atom)) (start : ℕ) (lines : List (List ℕ)) (r : Result Told (FileCode × Place)) → AreRead dialect model text above opens ps start lines r → IsOtherIn r
lines_other dialect model text above opens ps start [] r (sections.none o q s) = tt
lines_other dialect model text above opens ps start (line ∷ lines) r (sections.unclosed o q s l ls u) = refl
lines_other dialect model text above opens ps start (line ∷ lines) r (sections.faulty o q s l ls code u f) = fault_other dialect (macros_behind dialect.unknown text above) model opens ps line code f
lines_other dialect model text above opens ps start (line ∷ lines) r (sections.goes_on o q s l ls qs x u h k) =
    front_other (record { lines = line_at (length ps) start (place_at text start) line ∷ []; conditions = qs }) x (lines_other dialect model text (above ++ names_in line) (opened_by (named_in line) opens) (ps ++ qs) (start + length line + 1) lines x k)

-- ---- tokens

-- what a law of tokens says
abbrev pub TokensAreRead : Type 0
TokensAreRead = (text : List ℕ) → IsReading text (tokens_of text)

stray_other : (text : List ℕ) (offset : ℕ) (code : FileCode) → tokens.HasFault text offset code → is_of_name code ≡ false
stray_other text offset (file_codes.Undeclared example) h = absurd h
stray_other text offset (file_codes.Twice example) h = absurd h
stray_other text offset _ h = refl

abbrev listed_ok : Listed → Result Listed (FileCode × Place)
listed_ok l = Ok l

abbrev listed_err : FileCode × Place → Result Listed (FileCode × Place)
listed_err fault = Err fault

token_from : (functions : List (List ℕ)) (code : List ℕ) (fault : FileCode × Place) (r : Result (List Token) (FileCode × Place)) → IsReading code r → and_then r (λ ts. listed_ok (listed functions [] code ts)) ≡ listed_err fault → is_of_name fault.0 ≡ false
token_from functions code fault (Ok ts) h e = absurd cc
token_from functions code fault (Err found) h e =
    let is : found ≡ fault = (let k : listed_err found ≡ listed_err fault = e in cc) in
    ap (λ (f : FileCode × Place). is_of_name f.0) (sym is) ∙ stray_other code h.1 found.0 h.3

-- ---- all phases before the grammar, and the grammar

pub early_other : TokensAreRead → (dialect : Dialect) (model : Plain) (bytes : List ℕ) (fault : FileCode × Place) → HasEarlyFault dialect model bytes fault → is_of_name fault.0 ≡ false
early_other law dialect model bytes fault (inl e) = comments_other bytes fault e
early_other law dialect model bytes fault (inr (inl h)) = lines_other dialect model h.blanked [] [] [] 0 (pieces h.blanked) (Err fault) h.read
early_other law dialect model bytes fault (inr (inr h)) = token_from (own_functions (code_of h.blanked)) (code_of h.blanked) fault (tokens_of (code_of h.blanked)) (law (code_of h.blanked)) h.token

pub wrong_other : (items : List Item) (n : ℕ) → is_of_name (wrong_code items n) ≡ false
wrong_other items n = elim (is_group_item (slice_get items n) || (is_else_item (slice_get items n) && is_group_item (item_before items n))) as (λ b. is_of_name (if b then file_codes.GroupInsideStatement else file_codes.Syntax) ≡ false) [ true ↦ refl | false ↦ refl ]
