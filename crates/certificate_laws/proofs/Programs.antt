-- The places of a family's program are those of a file, and its names stand in one line.
use Rattle.std.proofs.Common.{◌≡◌, ℕ, suc, ◌+◌, ◌≤◌, Bool, true, false, ◌⊎◌, List, [], ◌∷◌, ◌++◌, length, sym, ap, subst, ◌∙◌, arith, inl, inr}
use Rattle.std.specs.Prelude.{if◌then◌else◌, nat_lt, Option, Some, None, Result, Ok, Err}
use Rattle.std.specs.List.{AllByRecursion, filter, prefix_len}
use Rattle.std.proofs.lemmas.Bool.Decides.{nat_tests}
use Rattle.std.proofs.lemmas.List.Elements.{All-from_recursion}
use Rattle.std.proofs.lemmas.List.Sums.{prefix_len-le-length}
use Rattle.fam_outer.specs.declared.dialect.Dialect.{Dialect}
use Rattle.fam_outer.specs.declared.faults.Place.{Place}
use Rattle.fam_outer.specs.declared.faults.FileCode.{FileCode}
use Rattle.fam_outer.specs.declared.faults.FileCode.TheVariants.{TooLong}
use Rattle.fam_outer.specs.Limits.{file_bytes}
use Rattle.fam_outer.specs.Places.{is_newline, place_at}
use Rattle.fam_outer.specs.Results.{and_then}
use Rattle.c_words.specs.Bytes.{is_gap}
use Rattle.linear_atoms.specs.declared.atoms.Atom.{Atom}
use Rattle.cpp_conditions.specs.Propositions.{Proposition}
use Rattle.cpp_conditions.specs.Validity.{Plain, plain}
use Rattle.cpp_lines.specs.declared.line.Line.{Line}
use Rattle.cpp_lines.specs.Code.{code_of}
use Rattle.cpp_lines.specs.Comments.{blank}
use Rattle.cpp_lines.specs.Defined.{names_in}
use Rattle.cpp_lines.specs.Directives.{begins_directive}
use Rattle.cpp_lines.specs.Faults.{first_fault, blanked_or, without_comments}
use Rattle.cpp_lines.specs.Lines.{in_first, pieces, line_place}
use Rattle.cpp_lines.specs.Nesting.{named_in, opened_by}
use Rattle.cpp_lines.specs.Sections.{Told, line_at, in_front}
use Rattle.cpp_lines.specs.Sections as sections
use Rattle.cpp_lines.specs.Whole.{file_place, blanked_file}
use Rattle.cpp_lines.proofs.Blanking.{length-blank_from}
use Rattle.cpp_lines.proofs.Places.{alike, code_alike}
use Rattle.c_grammar.specs.declared.items.Item.{Item}
use Rattle.c_grammar.specs.declared.items.Sign.{Sign}
use Rattle.c_grammar.proofs.PlacesRise.{IsPart, end, keep, pass, file_part}
use Rattle.c_grammar.proofs.Within.{within_is_file_law}
use Rattle.c_tree.specs.Places.{program_places}
use Rattle.c_tree.specs.Tree.{Whole}
use Rattle.c_tree.specs.View.{whole}
use Rattle.c_parser.specs.FamilyItems.{feature_names, group_sign, stands_in, or_directive, items_of_line, by_line}
use Rattle.c_parser.specs.Functions.{own_functions}
use Rattle.c_parser.specs.Items.{Listed}
use Rattle.c_parser.specs.Order.{arranged}
use Rattle.certificate_format.specs.Lines.{IsPlace}
use Rattle.certificate_laws.specs.Laws.{FamiliesAreOfFiles}
use Rattle.certificate_laws.specs.Written.{IsOneLine}
use Rattle.certificate_laws.proofs.Literals.{by_truth}
use Rattle.certificate_laws.proofs.OrderedNames.{arranged_lines}
use Rattle.certificate_laws.proofs.Spelled.{IsNear, near_place, near_at, HavePlaces, items_read}
use Rattle.certificate_laws.proofs.Trees.{all_both}

-- ---- the code is not too long

limited : (bytes blanked : List ℕ) → blanked_file bytes ≡ Ok blanked → length blanked ≤ file_bytes
limited bytes blanked e = by (by_truth (nat_lt file_bytes (length bytes)))
  where
    by_fault : (o : Option (FileCode × Place)) → blanked_or bytes o ≡ Ok blanked → length bytes ≤ file_bytes → length blanked ≤ file_bytes
    by_fault None f short = let same : blank bytes ≡ blanked = cc in subst (λ t. length t ≤ file_bytes) same (let l = length-blank_from 0 bytes in omega (arith, l, short))
    by_fault (Some fault) f short = absurd cc

    by : (nat_lt file_bytes (length bytes) ≡ true) ⊎ (nat_lt file_bytes (length bytes) ≡ false) → length blanked ≤ file_bytes
    by (inl long) =
        let none = sym (ap (λ b. and_then (if b then Err (TooLong, file_place) else Ok bytes) without_comments) long) ∙ e in absurd cc
    by (inr fits) =
        let short : length bytes ≤ file_bytes = grind (arith, nat_tests) in
        by_fault (first_fault bytes) (sym (ap (λ b. and_then (if b then Err (TooLong, file_place) else Ok bytes) without_comments) fits) ∙ e) short

length-code_of : (bytes : List ℕ) → length (code_of bytes) ≡ length bytes
length-code_of bytes = (alike (code_of bytes) bytes (code_alike bytes)).3

-- ---- lines

abbrev AreShort : ℕ → List (List ℕ) → Type 0
AreShort n lines = AllByRecursion (λ line. length line ≤ n) lines

longer : (m n : ℕ) (lines : List (List ℕ)) → m ≤ n → AreShort m lines → AreShort n lines
longer m n [] h k = tt
longer m n (line ∷ lines) h k = (omega (arith, h, k.0), longer m n lines h k.1)

first_longer : (n b : ℕ) (lines : List (List ℕ)) → AreShort n lines → AreShort (suc n) (in_first b lines)
first_longer n b [] h = (omega arith, tt)
first_longer n b (line ∷ lines) h = (omega (arith, h.0), longer n (suc n) lines (omega arith) h.1)

pieces_short : (text : List ℕ) → AreShort (length text) (pieces text)
pieces_short [] = (omega arith, tt)
pieces_short (b ∷ bs) = either (is_newline b) (pieces_short bs)
  where
    either : (t : Bool) → AreShort (length bs) (pieces bs) → AreShort (suc (length bs)) (if t then [] ∷ pieces bs else in_first b (pieces bs))
    either true h = (omega arith, longer (length bs) (suc (length bs)) (pieces bs) (omega arith) h)
    either false h = first_longer (length bs) b (pieces bs) h

line_placed : (first : Place) (line : List ℕ) → IsNear first → length line ≤ file_bytes → IsPlace (line_place first line)
line_placed first line h short = either (begins_directive line)
  where
    either : (t : Bool) → IsPlace (if t then record { line = first.line; column = first.column + prefix_len is_gap line } else first)
    either true =
        let gap = prefix_len-le-length is_gap line in
        record {
          word = (omega (arith, h.line.1), omega (arith, h.column.1, gap, short));
          line = h.line.0;
          column = omega (arith, h.column.0);
        }
    either false = near_place first h

abbrev LinesPlaced : Result Told (FileCode × Place) → Type 0
LinesPlaced (Ok told) = AllByRecursion (λ (l : Line). IsPlace l.place) told.lines
LinesPlaced (Err fault) = Unit {0}

one_more : (l : Line) (qs : List (Proposition Atom)) (r : Result Told (FileCode × Place)) → IsPlace l.place → LinesPlaced r → LinesPlaced (in_front (l ∷ []) qs r)
one_more l qs (Ok told) h k = (h, k)
one_more l qs (Err fault) h k = tt

lines_placed : (dialect : Dialect) (m : Plain) (text : List ℕ) (above : List (List ℕ)) (opens : List Bool) (ps : List (Proposition Atom)) (start : ℕ) (lines : List (List ℕ)) (r : Result Told (FileCode × Place)) → length text ≤ file_bytes → AreShort file_bytes lines
    → sections.AreRead dialect m text above opens ps start lines r → LinesPlaced r
lines_placed dialect m text above opens ps start [] r short fit (sections.none o q s) = tt
lines_placed dialect m text above opens ps start (line ∷ lines) r short fit (sections.unclosed o q s l ls u) = tt
lines_placed dialect m text above opens ps start (line ∷ lines) r short fit (sections.faulty o q s l ls code u f) = tt
lines_placed dialect m text above opens ps start (line ∷ lines) r short fit (sections.goes_on o q s l ls qs x u i k) =
    one_more (line_at (length ps) start (place_at text start) line) qs x (line_placed (place_at text start) line (near_at text start short) fit.0)
    (lines_placed dialect m text (above ++ names_in line) (opened_by (named_in line) opens) (ps ++ qs) (start + length line + 1) lines x short fit.1 k)

-- ---- items, line by line

kept_placed : (test : Item → Bool) (items : List Item) → HavePlaces items → HavePlaces (filter test items)
kept_placed test [] h = tt
kept_placed test (x ∷ items) h = either (kept_placed test items h.1) (test x)
  where
    either : HavePlaces (filter test items) → (t : Bool) → HavePlaces (if t then x ∷ filter test items else filter test items)
    either rest true = (h.0, rest)
    either rest false = rest

directive_placed : (o : Option Sign) (place : Place) (items : List Item) → IsPlace place → HavePlaces items → HavePlaces (or_directive o place items)
directive_placed None place items h k = k
directive_placed (Some sign) place items h k = (h, tt)

by_line_placed : (lines : List Line) (items : List Item) → AllByRecursion (λ (l : Line). IsPlace l.place) lines → HavePlaces items → HavePlaces (by_line lines items)
by_line_placed [] items h k = tt
by_line_placed (l ∷ lines) items h k =
    all_both (λ (x : Item). IsPlace x.place) (items_of_line l items) (by_line lines items)
    (directive_placed (group_sign l.kind) l.place (filter (stands_in l.place.line) items) h.0 (kept_placed (stands_in l.place.line) items k)) (by_line_placed lines items h.1 k)

-- ---- the program

part_placed : {ps : List Place} {items : List Item} → IsPart ps items → HavePlaces items → AllByRecursion IsPlace ps
part_placed end h = tt
part_placed (keep x part) h = (h.0, part_placed part h.1)
part_placed (pass x part) h = part_placed part h.1

pub family_told : FamiliesAreOfFiles
family_told dialect model bytes f o =
    let h = o.accepted in
    let items = h.are.items in
    let short = limited bytes items.blanked items.without_comments in
    let lines : LinesPlaced (Ok h.are.told) = lines_placed dialect _ items.blanked [] [] [] 0 (pieces items.blanked) (Ok h.are.told) short (longer (length items.blanked) file_bytes (pieces items.blanked) short (pieces_short items.blanked)) items.read in
    let code_short : length (code_of items.blanked) ≤ file_bytes = subst (λ n. n ≤ file_bytes) (sym (length-code_of items.blanked)) short in
    let first = items_read (own_functions (code_of items.blanked)) [] (code_of items.blanked) items.first tt code_short items.first_are in
    let given = arranged (feature_names (plain model)) items.first in
    let code = items_read (own_functions (code_of items.blanked)) given (code_of items.blanked) items.tokens (arranged_lines (feature_names (plain model)) items.first first.lines) code_short items.tokens_are in
    let spelled = within_is_file_law h.listed.names h.listed.items o.spelled h.spelled in
    let own : HavePlaces h.listed.items = subst (λ (l : Listed). HavePlaces l.items) (sym items.is) (by_line_placed h.are.told.lines items.tokens.items lines code.places) in
    let places = part_placed (file_part h.listed.items spelled.file spelled.forms) own in
    let names : AllByRecursion IsOneLine h.listed.names = subst (λ (l : Listed). AllByRecursion IsOneLine l.names) (sym items.is) code.lines in
    record {
      placed = All-from_recursion IsPlace (program_places (whole f.code))
          (subst (λ (w : Whole). AllByRecursion IsPlace (program_places w)) (sym o.code) (subst (λ (w : Whole). AllByRecursion IsPlace (program_places w)) (sym spelled.is) places));
      lines = All-from_recursion IsOneLine (whole f.code).names (subst (λ (w : Whole). AllByRecursion IsOneLine w.names) (sym o.code) (subst (λ (w : Whole). AllByRecursion IsOneLine w.names) (sym spelled.is) names));
    }
