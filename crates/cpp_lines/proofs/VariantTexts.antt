-- What stays of a blanked text is its own blanked text, and each of its lines is code or a definition.
use Rattle.std.proofs.Common.{◌≡◌, ℕ, ◌+◌, ◌≤◌, nat_lt, Bool, true, false, ◌&&◌, cond, List, [], ◌∷◌, ◌++◌, length, map, if◌then◌else◌, Option, Some, None, Result, Ok, Err, refl, sym, ap, subst, ◌∙◌, arith}
use Rattle.std.specs.List.{list_any}
use Rattle.std.proofs.lemmas.List.{length-append}
use Rattle.std.proofs.lemmas.Bool.Decides.{nat_tests}
use Rattle.fam_outer.specs.declared.dialect.Dialect.{Dialect}
use Rattle.fam_outer.specs.declared.dialect.Includes.{Includes}
use Rattle.fam_outer.specs.declared.faults.Place.{Place}
use Rattle.fam_outer.specs.declared.faults.FileCode.{FileCode}
use Rattle.fam_outer.specs.declared.faults.FileCode.TheVariants.{TooLong}
use Rattle.fam_outer.specs.Limits.{file_bytes}
use Rattle.fam_outer.specs.Places.{is_newline, place_at}
use Rattle.fam_outer.specs.Results.{and_then}
use Rattle.linear_atoms.specs.declared.atoms.Atom.{Atom}
use Rattle.cpp_conditions.specs.Propositions.{Proposition}
use Rattle.cpp_conditions.specs.Validity.{Plain}
use Rattle.cpp_groups.specs.declared.section.Section.{Section}
use Rattle.cpp_groups.specs.Kept.{all_kept, sections_after}
use Rattle.cpp_lines.specs.declared.directives.Directive.{Directive}
use Rattle.cpp_lines.specs.declared.directives.Directive.TheVariants as named
use Rattle.cpp_lines.specs.declared.line.Line.{Line}
use Rattle.cpp_lines.specs.declared.line.LineKind.{LineKind}
use Rattle.cpp_lines.specs.declared.line.LineKind.TheVariants.{Code, Define}
use Rattle.cpp_lines.specs.Code.{code_piece, code_of}
use Rattle.cpp_lines.specs.Comments.{blank}
use Rattle.cpp_lines.specs.Directives.{begins_directive, behind_hash, directive_of, is_define, plain_directive, plain_kind}
use Rattle.cpp_lines.specs.Faults.{first_fault, blanked_or, without_comments}
use Rattle.cpp_lines.specs.Lines.{pieces, stays, AllStay, is_text, line_place, line_with, before, plain_lines_from, plain_lines_of, AreLinesFrom, AreLinesOf}
use Rattle.cpp_lines.specs.Preprocessed.{group_of, kept_line, kept_lines, with_newlines, preprocessed}
use Rattle.cpp_lines.specs.Whole.{file_place, blanked_file, IsPreprocessed, IsPlainText}
use Rattle.cpp_lines.proofs.Blanking.{length-blank_from}
use Rattle.cpp_lines.proofs.Clean.{IsClean, blank_clean, clean_without_fault, blanked_clean, newline_clean, line_clean, clean_behind}
use Rattle.cpp_lines.proofs.CodeLines.{AreLines, pieces_are_lines, cut_again, cut_code}
use Rattle.cpp_lines.proofs.Coding.{not_none, last_piece, next_piece}
use Rattle.cpp_lines.proofs.Numbering.{lines_are}

-- ---- what stays of the lines

-- each line is code or a definition
abbrev pub AreText : List (List ℕ) → Type 0
AreText [] = Unit {0}
AreText (p ∷ ps) = (is_text p ≡ true) × AreText ps

kept_text : (sections : List Section) (kind : LineKind) (p : List ℕ) → stays kind ≡ is_text p → is_text (kept_line sections kind p) ≡ true
kept_text sections kind p k = elim (stays kind) as (λ t. stays kind ≡ t → is_text (cond (t && all_kept sections) p []) ≡ true) [
  | true ↦ λ e. (elim (all_kept sections) as (λ a. is_text (cond a p []) ≡ true) [ true ↦ sym k ∙ e | false ↦ refl ])
  | false ↦ λ e. refl
] refl

pub kept_are_text : (truths : List Bool) (sections : List Section) (start : ℕ) (ls : List Line) (ps : List (List ℕ)) → AreLinesFrom start ps ls → AreText (kept_lines truths sections ls ps)
kept_are_text truths sections start [] ps h = tt
kept_are_text truths sections start (l ∷ ls) [] h = tt
kept_are_text truths sections start (l ∷ ls) (p ∷ ps) h =
    (kept_text sections l.kind p h.0.text, kept_are_text truths (sections_after truths sections (group_of l.kind)) (start + length p + 1) ls ps h.1)

kept_whole : (keep : Bool) (p : List ℕ) → list_any is_newline p ≡ false → list_any is_newline (cond keep p []) ≡ false
kept_whole true p h = h
kept_whole false p h = refl

pub kept_are_lines : (truths : List Bool) (sections : List Section) (ls : List Line) (ps : List (List ℕ)) → AreLines ps → AreLines (kept_lines truths sections ls ps)
kept_are_lines truths sections [] ps h = tt
kept_are_lines truths sections (l ∷ ls) [] h = tt
kept_are_lines truths sections (l ∷ ls) (p ∷ ps) h =
    (kept_whole (stays l.kind && all_kept sections) p h.0, kept_are_lines truths (sections_after truths sections (group_of l.kind)) ls ps h.1)

-- the lines of a text that stay
pub kept_pieces : (truths : List Bool) (sections : List Section) (start : ℕ) (ls : List Line) (text : List ℕ) (ps : List (List ℕ)) → pieces text ≡ ps → AreLinesFrom start ps ls
    → pieces (with_newlines (kept_lines truths sections ls ps)) ≡ kept_lines truths sections ls ps
kept_pieces truths sections start ls text [] e h = absurd (not_none text e)
kept_pieces truths sections start [] text (p ∷ ps) e h = absurd h
kept_pieces truths sections start (l ∷ ls) text (p ∷ ps) e h =
    cut_again (kept_line sections l.kind p) (kept_lines truths (sections_after truths sections (group_of l.kind)) ls ps) (kept_are_lines truths sections (l ∷ ls) (p ∷ ps) (pieces_are_lines text (p ∷ ps) e))

-- ---- no comment, no splice

alone_clean : (keep : Bool) (p : List ℕ) → IsClean p → IsClean (cond keep p [])
alone_clean true p h = h
alone_clean false p h = tt

before_clean : (keep : Bool) (p rest others : List ℕ) → IsClean (p ++ 10 ∷ rest) → IsClean others → IsClean (cond keep p [] ++ 10 ∷ others)
before_clean true p rest others h k = line_clean p rest others h k
before_clean false p rest others h k = newline_clean others k

kept_clean : (truths : List Bool) (sections : List Section) (start : ℕ) (ls : List Line) (text : List ℕ) (ps : List (List ℕ)) → pieces text ≡ ps → AreLinesFrom start ps ls → IsClean text
    → IsClean (with_newlines (kept_lines truths sections ls ps))
kept_clean truths sections start ls text [] e h c = absurd (not_none text e)
kept_clean truths sections start [] text (p ∷ ps) e h c = absurd h
kept_clean truths sections start (l ∷ []) text (p ∷ []) e h c = alone_clean (stays l.kind && all_kept sections) p (subst IsClean (last_piece text p e).0 c)
kept_clean truths sections start (l ∷ m ∷ ls) text (p ∷ []) e h c = absurd h.1
kept_clean truths sections start (l ∷ []) text (p ∷ q ∷ qs) e h c = absurd h.1
kept_clean truths sections start (l ∷ m ∷ ls) text (p ∷ q ∷ qs) e h c =
    let k = next_piece text p q qs e in
    let clean : IsClean (p ++ 10 ∷ k.0) = subst IsClean k.1 c in
    before_clean (stays l.kind && all_kept sections) p k.0 (with_newlines (kept_lines truths (sections_after truths sections (group_of l.kind)) (m ∷ ls) (q ∷ qs))) clean
    (kept_clean truths (sections_after truths sections (group_of l.kind)) (start + length p + 1) (m ∷ ls) k.0 (q ∷ qs) k.3 h.1 (clean_behind p k.0 clean))

-- ---- no more bytes

kept_short : (keep : Bool) (p : List ℕ) → length (cond keep p []) ≤ length p
kept_short true p = omega arith
kept_short false p = omega arith

pub kept_no_longer : (truths : List Bool) (sections : List Section) (start : ℕ) (ls : List Line) (text : List ℕ) (ps : List (List ℕ)) → pieces text ≡ ps → AreLinesFrom start ps ls
    → length (with_newlines (kept_lines truths sections ls ps)) ≤ length text
kept_no_longer truths sections start ls text [] e h = absurd (not_none text e)
kept_no_longer truths sections start [] text (p ∷ ps) e h = absurd h
kept_no_longer truths sections start (l ∷ []) text (p ∷ []) e h = omega (arith, kept_short (stays l.kind && all_kept sections) p, ap length (last_piece text p e).0)
kept_no_longer truths sections start (l ∷ m ∷ ls) text (p ∷ []) e h = absurd h.1
kept_no_longer truths sections start (l ∷ []) text (p ∷ q ∷ qs) e h = absurd h.1
kept_no_longer truths sections start (l ∷ m ∷ ls) text (p ∷ q ∷ qs) e h =
    let k = next_piece text p q qs e in
    let here = kept_line sections l.kind p in
    let later = with_newlines (kept_lines truths (sections_after truths sections (group_of l.kind)) (m ∷ ls) (q ∷ qs)) in
    omega (
      arith,
      kept_short (stays l.kind && all_kept sections) p,
      length-append here (10 ∷ later),
      length-append p (10 ∷ k.0),
      ap length k.1,
      kept_no_longer truths (sections_after truths sections (group_of l.kind)) (start + length p + 1) (m ∷ ls) k.0 (q ∷ qs) k.3 h.1,
    )

-- ---- the lines of code and definitions

abbrev pub text_kind : List ℕ → LineKind
text_kind p = if begins_directive p then Define else Code

-- the first at this offset of the text
abbrev pub text_lines : List ℕ → ℕ → List (List ℕ) → List Line
text_lines text start [] = []
text_lines text start (p ∷ ps) = record { kind = text_kind p; start = start; end = start + length p; place = line_place (place_at text start) p } ∷ text_lines text (start + length p + 1) ps

plain_define : (includes : Includes) (d : Option Directive) → is_define d ≡ true → plain_directive includes d ≡ Ok Define
plain_define includes None e = absurd cc
plain_define includes (Some named.Include) e = absurd cc
plain_define includes (Some named.OtherInclude) e = absurd cc
plain_define includes (Some named.If) e = absurd cc
plain_define includes (Some named.Ifdef) e = absurd cc
plain_define includes (Some named.Ifndef) e = absurd cc
plain_define includes (Some named.Elif) e = absurd cc
plain_define includes (Some named.Else) e = absurd cc
plain_define includes (Some named.Endif) e = absurd cc
plain_define includes (Some named.Define) e = refl

plain_text : (includes : Includes) (p : List ℕ) → is_text p ≡ true → plain_kind includes p ≡ Ok (text_kind p)
plain_text includes p h = elim (begins_directive p) as (λ t. cond t (is_define (directive_of (behind_hash p))) true ≡ true
    → cond t (plain_directive includes (directive_of (behind_hash p))) (Ok Code) ≡ Ok (cond t Define Code)) [ true ↦ plain_define includes (directive_of (behind_hash p)) | false ↦ λ e. refl ] h

pub all_plain : (includes : Includes) (text : List ℕ) (start : ℕ) (ps : List (List ℕ)) → AreText ps → plain_lines_from includes text start ps ≡ Ok (text_lines text start ps)
all_plain includes text start [] h = refl
all_plain includes text start (p ∷ ps) h =
    let here : Line = record { kind = text_kind p; start = start; end = start + length p; place = line_place (place_at text start) p } in
    ap (λ (r : Result LineKind FileCode). before (line_with r start (place_at text start) p) (plain_lines_from includes text (start + length p + 1) ps)) (plain_text includes p h.0)
    ∙ ap (λ (r : Result (List Line) (FileCode × Place)). before (Ok here) r) (all_plain includes text (start + length p + 1) ps h.1)

kind_stays : (p : List ℕ) → stays (text_kind p) ≡ true
kind_stays p = elim (begins_directive p) as (λ t. stays (cond t Define Code) ≡ true) [ true ↦ refl | false ↦ refl ]

all_stay : (text : List ℕ) (start : ℕ) (ps : List (List ℕ)) → AllStay (text_lines text start ps)
all_stay text start [] = tt
all_stay text start (p ∷ ps) = (kind_stays p, all_stay text (start + length p + 1) ps)

-- ---- the code of what stays is what stays of the code

code_if : (keep : Bool) (p : List ℕ) → code_piece (cond keep p []) ≡ cond keep (code_piece p) []
code_if true p = refl
code_if false p = refl

kept_code : (truths : List Bool) (sections : List Section) (ls : List Line) (ps : List (List ℕ)) → map code_piece (kept_lines truths sections ls ps) ≡ kept_lines truths sections ls (map code_piece ps)
kept_code truths sections [] ps = refl
kept_code truths sections (l ∷ ls) [] = refl
kept_code truths sections (l ∷ ls) (p ∷ ps) =
    ap (λ (q : List ℕ). q ∷ map code_piece (kept_lines truths (sections_after truths sections (group_of l.kind)) ls ps)) (code_if (stays l.kind && all_kept sections) p)
    ∙ ap (λ (qs : List (List ℕ)). kept_line sections l.kind (code_piece p) ∷ qs) (kept_code truths (sections_after truths sections (group_of l.kind)) ls ps)

pub code_stays : (truths : List Bool) (lines : List Line) (text : List ℕ) → AreLinesOf text lines → code_of (preprocessed truths lines text) ≡ preprocessed truths lines (code_of text)
unfolding preprocessed code_of AreLinesOf
code_stays truths lines text h =
    ap (λ (ps : List (List ℕ)). with_newlines (map code_piece ps)) (kept_pieces truths [] 0 lines text (pieces text) refl h)
    ∙ ap with_newlines (kept_code truths [] lines (pieces text))
    ∙ ap (λ (ps : List (List ℕ)). with_newlines (kept_lines truths [] lines ps)) (sym (cut_code text (pieces text) refl))

-- ---- the whole text

-- the blanked text of a file is as long as the file and has no comment
pub record IsBlanked (bytes blanked : List ℕ) : Type 0 where
  pub clean : IsClean blanked
  pub same_len : length blanked ≡ length bytes
  pub short : nat_lt file_bytes (length bytes) ≡ false

by_fault : (bytes blanked : List ℕ) (o : Option (FileCode × Place)) → first_fault bytes ≡ o → blanked_or bytes o ≡ Ok blanked → nat_lt file_bytes (length bytes) ≡ false → IsBlanked bytes blanked
unfolding first_fault
by_fault bytes blanked None f e short =
    let same : blank bytes ≡ blanked = cc in
    record {
      clean = subst IsClean same (blanked_clean bytes 0 0 bytes f);
      same_len = ap length (sym same) ∙ length-blank_from 0 bytes;
      short = short;
    }
by_fault bytes blanked (Some fault) f e short = absurd cc

pub is_blanked : (bytes blanked : List ℕ) → blanked_file bytes ≡ Ok blanked → IsBlanked bytes blanked
is_blanked bytes blanked h = elim (nat_lt file_bytes (length bytes)) as (λ t. nat_lt file_bytes (length bytes) ≡ t → and_then (cond t (Err (TooLong, file_place)) (Ok bytes)) without_comments ≡ Ok blanked → IsBlanked bytes blanked) [
  | true ↦ λ e k. absurd cc
  | false ↦ λ e k. by_fault bytes blanked (first_fault bytes) refl k e
] refl h

still_short : (most m n : ℕ) → m ≤ n → nat_lt most n ≡ false → nat_lt most m ≡ false
still_short most m n le e = grind (arith, nat_tests)

clean_blanked : (text : List ℕ) → IsClean text → nat_lt file_bytes (length text) ≡ false → blanked_file text ≡ Ok text
unfolding first_fault
clean_blanked text c e =
    ap (λ (t : Bool). and_then (cond t (Err (TooLong, file_place)) (Ok text)) without_comments) e
    ∙ ap (blanked_or text) (clean_without_fault text 0 text c) ∙ ap (λ (xs : List ℕ). Ok xs) (blank_clean text c)

pub variant_plain : (dialect : Dialect) (model : Plain) (truths : List (Proposition Atom) → List Bool) (bytes text : List ℕ) → IsPreprocessed dialect model truths bytes text → IsPlainText text
unfolding preprocessed plain_lines_of
variant_plain dialect model truths bytes text h =
    let ts = truths h.told.conditions in
    let b = is_blanked bytes h.blanked h.without_comments in
    let are = lines_are dialect model h.blanked [] [] [] 0 (pieces h.blanked) (Ok h.told) h.read in
    let left = with_newlines (kept_lines ts [] h.told.lines (pieces h.blanked)) in
    let short = kept_no_longer ts [] 0 h.told.lines h.blanked (pieces h.blanked) refl are in
    let cut = kept_pieces ts [] 0 h.told.lines h.blanked (pieces h.blanked) refl are in
    let texts = subst AreText (sym cut) (kept_are_text ts [] 0 h.told.lines (pieces h.blanked) are) in
    subst IsPlainText (sym h.is) (record {
      lines = text_lines left 0 (pieces left);
      blanked = clean_blanked left (kept_clean ts [] 0 h.told.lines h.blanked (pieces h.blanked) refl are b.clean) (still_short file_bytes (length left) (length bytes) (omega (arith, short, b.same_len)) b.short);
      lines_are = λ includes. all_plain includes left 0 (pieces left) texts;
      stay = all_stay left 0 (pieces left);
    })
