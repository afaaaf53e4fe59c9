-- The lines of a text that is read have whole sections, and so have its items.
use Rattle.std.proofs.Common.{◌≡◌, ℕ, suc, ◌+◌, ◌-◌, ◌≤◌, Bool, true, false, ◌&&◌, cond, List, [], ◌∷◌, ◌++◌, length, Option, Some, None, Result, Ok, Err, refl, sym, ap, subst, ◌∙◌, append_assoc, arith}
use Rattle.std.specs.Prelude.{◌==◌, codes}
use Rattle.std.specs.Str.{bytes_eq}
use Rattle.std.proofs.lemmas.Bool.Decides.{nat_tests}
use Rattle.fam_outer.specs.declared.dialect.Dialect.{Dialect}
use Rattle.fam_outer.specs.declared.dialect.Includes.{Includes}
use Rattle.fam_outer.specs.declared.faults.FileCode.{FileCode}
use Rattle.fam_outer.specs.declared.faults.FileCode.TheVariants.{Directive}
use Rattle.fam_outer.specs.declared.faults.Place.{Place}
use Rattle.fam_outer.specs.Places.{place_at}
use Rattle.linear_atoms.specs.declared.atoms.Atom.{Atom}
use Rattle.cpp_conditions.specs.Macros.{Macros}
use Rattle.cpp_conditions.specs.Propositions.{Proposition}
use Rattle.cpp_conditions.specs.Validity.{Plain}
use Rattle.cpp_groups.specs.declared.directive.GroupDirective.{GroupDirective}
use Rattle.cpp_groups.specs.declared.directive.GroupDirective.TheVariants.{If, Elif, Else, Endif}
use Rattle.cpp_lines.specs.declared.line.Line.{Line}
use Rattle.cpp_lines.specs.declared.line.LineKind.TheVariants as kinds
use Rattle.cpp_lines.specs.Bytes.{behind_word, word_of, is_gap_only}
use Rattle.cpp_lines.specs.Defined.{names_in, macros_behind}
use Rattle.cpp_lines.specs.Definitions.{is_definition_text}
use Rattle.cpp_lines.specs.Directives.{begins_directive, behind_hash, is_assert_header, directive_named, directive_of, checked}
use Rattle.cpp_lines.specs.Lines.{pieces}
use Rattle.cpp_lines.specs.Nesting.{named_in, opens_section, ends_before, ends_of, opened_by, with_else, without_inner, later_fault, end_fault, directive_fault, line_fault}
use Rattle.cpp_lines.specs.Preprocessed.{group_of}
use Rattle.cpp_lines.specs.Sections as sections
use Rattle.cpp_lines.specs.Sections.{Told, AreRead, IsRead, TextIsRead, in_front, line_at, kind_of}
use Rattle.reading_laws.specs.Sectioned.{Directives, Group, Later, IsSectioned, nothing, other, section, endif, otherwise, elif}
use Rattle.reading_laws.specs.Staying.{line_groups, LinesAreSectioned}

-- ---- what stands behind lines within open sections

-- none is a directive
abbrev pub AreNone : Directives → Type 0
AreNone [] = Unit {0}
AreNone (None ∷ ds) = AreNone ds
AreNone (Some d ∷ ds) = ⊥

-- what stands behind a group of a section, by whether that is the group of `#else`
abbrev IsBehind : Bool → Directives → Type 0
IsBehind true ds = ds ≡ Some Endif ∷ []
IsBehind false ds = IsSectioned Later ds

-- of each open section the rest of the group, and what stands behind it
abbrev pub Closes : List Bool → Directives → Type 0
Closes [] ds = IsSectioned Group ds
Closes (b ∷ opens) ds = (text : Directives) × (later : Directives) × (rest : Directives) × (ds ≡ text ++ (later ++ rest)) × IsSectioned Group text × IsBehind b later × Closes opens rest

none_in_front : (ns ds : Directives) → AreNone ns → IsSectioned Group ds → IsSectioned Group (ns ++ ds)
none_in_front [] ds a h = h
none_in_front (None ∷ ns) ds a h = other (none_in_front ns ds a h)
none_in_front (Some d ∷ ns) ds a h = absurd a

none_closes : (opens : List Bool) (ns ds : Directives) → AreNone ns → Closes opens ds → Closes opens (ns ++ ds)
none_closes [] ns ds a h = none_in_front ns ds a h
none_closes (b ∷ opens) ns ds a h = (ns ++ h.0, h.1, h.2, ap (λ (y : Directives). ns ++ y) h.3 ∙ sym (append_assoc ns h.0 (h.1 ++ h.2)), none_in_front ns h.0 a h.4, h.5, h.6)

regrouped : (a b c d : Directives) → a ++ (b ++ (c ++ d)) ≡ (a ++ (b ++ c)) ++ d
regrouped a b c d = simp append_assoc

if_closes : (n : ℕ) (opens : List Bool) (ds : Directives) → Closes (false ∷ opens) ds → Closes opens (Some (If n) ∷ ds)
if_closes n [] ds h = subst (λ (y : Directives). IsSectioned Group (Some (If n) ∷ y)) (sym h.3) (section n h.4 h.5 h.6)
if_closes n (b ∷ opens) ds h =
    let o = h.6 in
    let is : Some (If n) ∷ ds ≡ (Some (If n) ∷ (h.0 ++ (h.1 ++ o.0))) ++ (o.1 ++ o.2) =
    ap (λ (y : Directives). Some (If n) ∷ y) (h.3 ∙ ap (λ (y : Directives). h.0 ++ (h.1 ++ y)) o.3 ∙ regrouped h.0 h.1 o.0 (o.1 ++ o.2)) in
    (Some (If n) ∷ (h.0 ++ (h.1 ++ o.0)), o.1, o.2, is, section n h.4 h.5 o.4, o.5, o.6)

elif_closes : (n : ℕ) (opens : List Bool) (ds : Directives) → Closes (false ∷ opens) ds → Closes (false ∷ opens) (Some (Elif n) ∷ ds)
elif_closes n opens ds h =
    ([], Some (Elif n) ∷ (h.0 ++ h.1), h.2, ap (λ (y : Directives). Some (Elif n) ∷ y) (h.3 ∙ sym (append_assoc h.0 h.1 h.2)), nothing, elif n h.4 h.5, h.6)

else_closes : (opens : List Bool) (ds : Directives) → Closes (true ∷ opens) ds → Closes (false ∷ opens) (Some Else ∷ ds)
else_closes opens ds h =
    let is : ds ≡ (h.0 ++ Some Endif ∷ []) ++ h.2 = h.3 ∙ ap (λ (y : Directives). h.0 ++ (y ++ h.2)) h.5 ∙ sym (append_assoc h.0 (Some Endif ∷ []) h.2) in
    ([], Some Else ∷ (h.0 ++ Some Endif ∷ []), h.2, ap (λ (y : Directives). Some Else ∷ y) is, nothing, otherwise h.4, h.6)

last_behind : (b : Bool) → IsBehind b (Some Endif ∷ [])
last_behind true = refl
last_behind false = endif

endif_closes : (b : Bool) (opens : List Bool) (ds : Directives) → Closes opens ds → Closes (b ∷ opens) (Some Endif ∷ ds)
endif_closes b opens ds h = ([], Some Endif ∷ [], ds, refl, nothing, last_behind b, h)

-- ---- one line

-- the directives that stand for a line: its group directive, else none
abbrev pub Fills : Option GroupDirective → Directives → Type 0
Fills None es = AreNone es
Fills (Some d) es = es ≡ Some d ∷ []

abbrev some_code : FileCode → Option FileCode
some_code code = Some code

never : some_code Directive ≡ None → ⊥
never e = cc

-- What a line does where these sections are open and the lines behind it end m of those that are open behind it: its group directive,
-- the sections that are open then, whether it opens one, and how many of those that are open before it end.
data LineDoes (n : ℕ) (opens : List Bool) (m : ℕ) (group : Option GroupDirective) (opened : List Bool) (is_opening : Bool) (ends : ℕ) : Type 0 where
  nothing_done : group ≡ None → opened ≡ opens → ends ≡ m → LineDoes n opens m group opened is_opening ends
  opens_one : group ≡ Some (If n) → opened ≡ false ∷ opens → is_opening ≡ true → ends ≡ m - 1 → LineDoes n opens m group opened is_opening ends
  goes_on : group ≡ Some (Elif n) → later_fault opens ≡ None → opened ≡ opens → ends ≡ m → LineDoes n opens m group opened is_opening ends
  goes_last : group ≡ Some Else → later_fault opens ≡ None → opened ≡ with_else opens → ends ≡ m → LineDoes n opens m group opened is_opening ends
  ends_one : group ≡ Some Endif → end_fault opens ≡ None → opened ≡ without_inner opens → ends ≡ m + 1 → LineDoes n opens m group opened is_opening ends

-- a directive line with this word behind `#`, and this behind the word
abbrev WordDoes : ℕ → List Bool → ℕ → List ℕ → List ℕ → Type 0
WordDoes n opens m word rest =
    LineDoes n opens m (group_of (kind_of n (checked (directive_named word) rest))) (opened_by (directive_named word) opens) (opens_section (directive_named word)) (ends_before (directive_named word) m)

include_does : (n : ℕ) (opens : List Bool) (m : ℕ) (word rest : List ℕ) → bytes_eq word (codes "include") ≡ true → WordDoes n opens m word rest
include_does n opens m word rest k = elim (is_assert_header rest) as (λ b. is_assert_header rest ≡ b → WordDoes n opens m word rest) [
  | true ↦ λ g. rw (k, g) (nothing_done refl refl refl)
  | false ↦ λ g. rw (k, g) (nothing_done refl refl refl)
] refl

-- a definition opens and ends nothing
define_does : (includes : Includes) (n : ℕ) (opens : List Bool) (m : ℕ) (is_text : Bool) → directive_fault includes opens (cond is_text (directive_named (codes "define")) None) ≡ None
    → LineDoes n opens m (group_of (kind_of n (cond is_text (directive_named (codes "define")) None))) opens false m
define_does includes n opens m true e = nothing_done refl refl refl
define_does includes n opens m false e = absurd (never e)

-- the names from `else` on
last_does : (includes : Includes) (n : ℕ) (opens : List Bool) (m : ℕ) (word rest : List ℕ) → bytes_eq word (codes "include") ≡ false → bytes_eq word (codes "if") ≡ false → bytes_eq word (codes "ifdef") ≡ false → bytes_eq word (codes "ifndef") ≡ false
    → bytes_eq word (codes "elif") ≡ false → directive_fault includes opens (checked (directive_named word) rest) ≡ None → WordDoes n opens m word rest
last_does includes n opens m word rest k1 k2 k3 k4 k5 e = elim (bytes_eq word (codes "else")) as (λ b. bytes_eq word (codes "else") ≡ b → WordDoes n opens m word rest) [
  | true ↦ λ k6. (elim (is_gap_only rest) as (λ b. is_gap_only rest ≡ b → WordDoes n opens m word rest) [
    | true ↦ λ g. rw (k1, k2, k3, k4, k5, k6, g) (goes_last refl (rw (k1, k2, k3, k4, k5, k6, g) at e) refl refl)
    | false ↦ λ g. absurd (never (rw (k1, k2, k3, k4, k5, k6, g) at e))
  ] refl)
  | false ↦ λ k6. (elim (bytes_eq word (codes "endif")) as (λ b. bytes_eq word (codes "endif") ≡ b → WordDoes n opens m word rest) [
    | true ↦ λ k7. (elim (is_gap_only rest) as (λ b. is_gap_only rest ≡ b → WordDoes n opens m word rest) [
      | true ↦ λ g. rw (k1, k2, k3, k4, k5, k6, k7, g) (ends_one refl (rw (k1, k2, k3, k4, k5, k6, k7, g) at e) refl refl)
      | false ↦ λ g. absurd (never (rw (k1, k2, k3, k4, k5, k6, k7, g) at e))
    ] refl)
    | false ↦ λ k7. (elim (bytes_eq word (codes "define")) as (λ b. bytes_eq word (codes "define") ≡ b → WordDoes n opens m word rest) [
      | true ↦ λ k8. rw (k1, k2, k3, k4, k5, k6, k7, k8) (define_does includes n opens m (is_definition_text rest) (rw (k1, k2, k3, k4, k5, k6, k7, k8) at e))
      | false ↦ λ k8. absurd (never (rw (k1, k2, k3, k4, k5, k6, k7, k8) at e))
    ] refl)
  ] refl)
] refl

word_does : (includes : Includes) (n : ℕ) (opens : List Bool) (m : ℕ) (word rest : List ℕ) → directive_fault includes opens (checked (directive_named word) rest) ≡ None → WordDoes n opens m word rest
word_does includes n opens m word rest e = elim (bytes_eq word (codes "include")) as (λ b. bytes_eq word (codes "include") ≡ b → WordDoes n opens m word rest) [
  | true ↦ λ k1. include_does n opens m word rest k1
  | false ↦ λ k1. (elim (bytes_eq word (codes "if")) as (λ b. bytes_eq word (codes "if") ≡ b → WordDoes n opens m word rest) [
    | true ↦ λ k2. rw (k1, k2) (opens_one refl refl refl refl)
    | false ↦ λ k2. (elim (bytes_eq word (codes "ifdef")) as (λ b. bytes_eq word (codes "ifdef") ≡ b → WordDoes n opens m word rest) [
      | true ↦ λ k3. rw (k1, k2, k3) (opens_one refl refl refl refl)
      | false ↦ λ k3. (elim (bytes_eq word (codes "ifndef")) as (λ b. bytes_eq word (codes "ifndef") ≡ b → WordDoes n opens m word rest) [
        | true ↦ λ k4. rw (k1, k2, k3, k4) (opens_one refl refl refl refl)
        | false ↦ λ k4. (elim (bytes_eq word (codes "elif")) as (λ b. bytes_eq word (codes "elif") ≡ b → WordDoes n opens m word rest) [
          | true ↦ λ k5. rw (k1, k2, k3, k4, k5) (goes_on refl (rw (k1, k2, k3, k4, k5) at e) refl refl)
          | false ↦ λ k5. last_does includes n opens m word rest k1 k2 k3 k4 k5 e
        ] refl)
      ] refl)
    ] refl)
  ] refl)
] refl

-- a line without a fault
line_does : (includes : Includes) (n : ℕ) (opens : List Bool) (m : ℕ) (line : List ℕ) → line_fault includes opens line ≡ None
    → LineDoes n opens m (group_of (cond (begins_directive line) (kind_of n (directive_of (behind_hash line))) kinds.Code)) (opened_by (named_in line) opens) (opens_section (named_in line)) (ends_before (named_in line) m)
line_does includes n opens m line e = elim (begins_directive line) as (λ b. begins_directive line ≡ b
    → LineDoes n opens m (group_of (cond (begins_directive line) (kind_of n (directive_of (behind_hash line))) kinds.Code)) (opened_by (named_in line) opens) (opens_section (named_in line)) (ends_before (named_in line) m)) [
      | true ↦ λ k. rw k (word_does includes n opens m (word_of (behind_hash line)) (behind_word (behind_hash line)) (rw k at e))
      | false ↦ λ k. rw k (nothing_done refl refl refl)
    ] refl

-- ---- what is closed then

with_one : (opens : List Bool) (d : GroupDirective) (es ds : Directives) → es ≡ Some d ∷ [] → Closes opens (Some d ∷ ds) → Closes opens (es ++ ds)
with_one opens d es ds e h = subst (λ (y : Directives). Closes opens (y ++ ds)) (sym e) h

elif_step : (opens : List Bool) (n : ℕ) (es ds : Directives) → later_fault opens ≡ None → es ≡ Some (Elif n) ∷ [] → Closes opens ds → Closes opens (es ++ ds)
elif_step [] n es ds e f h = absurd cc
elif_step (true ∷ opens) n es ds e f h = absurd cc
elif_step (false ∷ opens) n es ds e f h = with_one (false ∷ opens) (Elif n) es ds f (elif_closes n opens ds h)

else_step : (opens : List Bool) (es ds : Directives) → later_fault opens ≡ None → es ≡ Some Else ∷ [] → Closes (with_else opens) ds → Closes opens (es ++ ds)
else_step [] es ds e f h = absurd cc
else_step (true ∷ opens) es ds e f h = absurd cc
else_step (false ∷ opens) es ds e f h = with_one (false ∷ opens) Else es ds f (else_closes opens ds h)

endif_step : (opens : List Bool) (es ds : Directives) → end_fault opens ≡ None → es ≡ Some Endif ∷ [] → Closes (without_inner opens) ds → Closes opens (es ++ ds)
endif_step [] es ds e f h = absurd cc
endif_step (c ∷ opens) es ds e f h = with_one (c ∷ opens) Endif es ds f (endif_closes c opens ds h)

fills_by : (g : Option GroupDirective) (h : Option GroupDirective) (es : Directives) → g ≡ h → Fills g es → Fills h es
fills_by g h es e f = subst (λ (o : Option GroupDirective). Fills o es) e f

line_step : (n : ℕ) (opens : List Bool) (m : ℕ) (group : Option GroupDirective) (opened : List Bool) (is_opening : Bool) (ends : ℕ) (es ds : Directives) → LineDoes n opens m group opened is_opening ends → Fills group es → Closes opened ds → Closes opens (es ++ ds)
line_step n opens m group opened is_opening ends es ds (nothing_done g o k) f h = none_closes opens es ds (fills_by group None es g f) (subst (λ (os : List Bool). Closes os ds) o h)
line_step n opens m group opened is_opening ends es ds (opens_one g o i k) f h = with_one opens (If n) es ds (fills_by group (Some (If n)) es g f) (if_closes n opens ds (subst (λ (os : List Bool). Closes os ds) o h))
line_step n opens m group opened is_opening ends es ds (goes_on g e o k) f h = elif_step opens n es ds e (fills_by group (Some (Elif n)) es g f) (subst (λ (os : List Bool). Closes os ds) o h)
line_step n opens m group opened is_opening ends es ds (goes_last g e o k) f h = else_step opens es ds e (fills_by group (Some Else) es g f) (subst (λ (os : List Bool). Closes os ds) o h)
line_step n opens m group opened is_opening ends es ds (ends_one g e o k) f h = endif_step opens es ds e (fills_by group (Some Endif) es g f) (subst (λ (os : List Bool). Closes os ds) o h)

-- ---- each open section ends

else_length : (opens : List Bool) → length (with_else opens) ≡ length opens
else_length [] = refl
else_length (b ∷ opens) = refl

inner_length : (opens : List Bool) (m : ℕ) → length opens ≤ m + 1 → length (without_inner opens) ≤ m
inner_length [] m h = omega arith
inner_length (b ∷ opens) m h = omega arith

one_left : (k m : ℕ) → (m == 0) ≡ false → k ≤ m - 1 → suc k ≤ m
one_left k m u h = grind (arith, nat_tests)

ends_left : (n : ℕ) (opens : List Bool) (m : ℕ) (group : Option GroupDirective) (opened : List Bool) (is_opening : Bool) (ends : ℕ) → LineDoes n opens m group opened is_opening ends → (is_opening && (m == 0)) ≡ false → length opens ≤ ends → length opened ≤ m
ends_left n opens m group opened is_opening ends (nothing_done g o k) u h = omega (arith, ap length o, k, h)
ends_left n opens m group opened is_opening ends (opens_one g o i k) u h =
    let none : (m == 0) ≡ false = sym (ap (λ (b : Bool). b && (m == 0)) i) ∙ u in
    let le : length opens ≤ m - 1 = subst (λ (j : ℕ). length opens ≤ j) k h in
    omega (arith, ap length o, one_left (length opens) m none le)
ends_left n opens m group opened is_opening ends (goes_on g e o k) u h = omega (arith, ap length o, k, h)
ends_left n opens m group opened is_opening ends (goes_last g e o k) u h = omega (arith, ap length o, else_length opens, k, h)
ends_left n opens m group opened is_opening ends (ends_one g e o k) u h =
    let le : length opens ≤ m + 1 = subst (λ (j : ℕ). length opens ≤ j) k h in
    omega (arith, ap length o, inner_length opens m le)

-- ---- all lines

-- what stands for each line
abbrev pub AreFilled : (Line → Directives) → Type 0
AreFilled fill = (l : Line) → Fills (group_of l.kind) (fill l)

abbrev pub filled : (Line → Directives) → List Line → Directives
filled fill [] = []
filled fill (l ∷ ls) = fill l ++ filled fill ls

abbrev ClosesIn : (Line → Directives) → List Bool → Result Told (FileCode × Place) → Type 0
ClosesIn fill opens (Ok told) = Closes opens (filled fill told.lines)
ClosesIn fill opens (Err fault) = Unit {0}

fine : (dialect : Dialect) (macros : Macros) (m : Plain) (opens : List Bool) (ps qs : List (Proposition Atom)) (line : List ℕ) → IsRead dialect macros m opens ps line qs → line_fault dialect.includes opens line ≡ None
fine dialect macros m opens ps [] line (sections.untested f e) = f
fine dialect macros m opens ps (q ∷ []) line (sections.tested text p f e h k) = f
fine dialect macros m opens ps (q ∷ (_ ∷ _)) line x = elim x [ ]

read_step : (fill : Line → Directives) → AreFilled fill → (includes : Includes) (opens : List Bool) (n start m : ℕ) (first : Place) (line : List ℕ) (qs : List (Proposition Atom)) (r : Result Told (FileCode × Place)) → line_fault includes opens line ≡ None
    → ClosesIn fill (opened_by (named_in line) opens) r → ClosesIn fill opens (in_front (line_at n start first line ∷ []) qs r)
read_step fill are includes opens n start m first line qs (Ok told) e h =
    line_step n opens m (group_of (line_at n start first line).kind) (opened_by (named_in line) opens) (opens_section (named_in line)) (ends_before (named_in line) m) (fill (line_at n start first line)) (filled fill told.lines)
    (line_does includes n opens m line e) (are (line_at n start first line)) h
read_step fill are includes opens n start m first line qs (Err fault) e h = tt

none_open : (fill : Line → Directives) (opens : List Bool) → length opens ≤ 0 → Closes opens []
none_open fill [] h = nothing
none_open fill (b ∷ opens) h = absurd (omega arith)

closes : (fill : Line → Directives) → AreFilled fill → (dialect : Dialect) (m : Plain) (text : List ℕ) (above : List (List ℕ)) (opens : List Bool) (ps : List (Proposition Atom)) (start : ℕ) (lines : List (List ℕ)) (r : Result Told (FileCode × Place)) → length opens ≤ ends_of lines
    → AreRead dialect m text above opens ps start lines r → ClosesIn fill opens r
closes fill are dialect m text above opens ps start [] r le (sections.none o q s) = none_open fill opens le
closes fill are dialect m text above opens ps start (line ∷ lines) r le (sections.unclosed o q s l ls u) = tt
closes fill are dialect m text above opens ps start (line ∷ lines) r le (sections.faulty o q s l ls code u f) = tt
closes fill are dialect m text above opens ps start (line ∷ lines) r le (sections.goes_on o q s l ls qs x u h k) =
    read_step fill are dialect.includes opens (length ps) start (ends_of lines) (place_at text start) line qs x (fine dialect (macros_behind dialect.unknown text above) m opens ps qs line h)
    (closes fill are dialect m text (above ++ names_in line) (opened_by (named_in line) opens) (ps ++ qs) (start + length line + 1) lines x (ends_left (length ps) opens (ends_of lines) (group_of (line_at (length ps) start (place_at text start) line).kind) (opened_by (named_in line) opens) (opens_section (named_in line)) (ends_before (named_in line) (ends_of lines)) (line_does dialect.includes (length ps) opens (ends_of lines) line (fine dialect (macros_behind dialect.unknown text above) m opens ps qs line h)) u le) k)

pub text_closes : (fill : Line → Directives) → AreFilled fill → (dialect : Dialect) (m : Plain) (text : List ℕ) (told : Told) → TextIsRead dialect m text (Ok told) → IsSectioned Group (filled fill told.lines)
text_closes fill are dialect m text told h = closes fill are dialect m text [] [] [] 0 (pieces text) (Ok told) (omega arith) h

-- ---- the lines themselves

one_fills : (o : Option GroupDirective) → Fills o (o ∷ [])
one_fills None = tt
one_fills (Some d) = refl

each_filled : (ls : List Line) → filled (λ l. group_of l.kind ∷ []) ls ≡ line_groups ls
each_filled [] = refl
each_filled (l ∷ ls) = ap (λ (ds : Directives). group_of l.kind ∷ ds) (each_filled ls)

pub lines_are_sectioned : LinesAreSectioned
lines_are_sectioned dialect model text told h =
    subst (IsSectioned Group) (each_filled told.lines) (text_closes (λ l. group_of l.kind ∷ []) (λ l. one_fills (group_of l.kind)) dialect model text told h)
