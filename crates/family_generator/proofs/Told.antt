-- The lines of a generated family are read: its groups nest, it has no definition, and its conditions are conditions over few atoms.
use Rattle.std.proofs.Common.{◌≡◌, ℕ, ◌+◌, ◌==◌, ◌<◌, Bool, true, false, List, [], ◌∷◌, ◌++◌, codes, length, map, Option, Some, None, Ok, refl, ap, sym, subst, arith}
use Rattle.std.proofs.lemmas.Bool.Decides.{nat_tests}
use Rattle.std.proofs.lemmas.List.{append-nil, length-append}
use Rattle.fam_outer.specs.Places.{place_at}
use Rattle.linear_atoms.specs.declared.atoms.Atom.{Atom}
use Rattle.cpp_conditions.specs.Macros.{among, no_macros}
use Rattle.cpp_conditions.specs.Propositions.{Proposition}
use Rattle.cpp_conditions.specs.Validity.{Plain}
use Rattle.cpp_lines.specs.declared.line.Line.{Line}
use Rattle.cpp_lines.specs.declared.line.LineKind.{LineKind}
use Rattle.cpp_lines.specs.declared.line.LineKind.TheVariants as kinds
use Rattle.cpp_lines.specs.Defined.{names_in, names_of}
use Rattle.cpp_lines.specs.GroupConditions.{condition_in, name_in, behind_prefix, IsGroupCondition}
use Rattle.cpp_lines.specs.Lines.{pieces}
use Rattle.cpp_lines.specs.Nesting.{named_in, opened_by, ends_of, is_unclosed, line_fault}
use Rattle.cpp_lines.specs.Sections.{AreRead, none, goes_on, untested, tested, Told, line_at}
use Rattle.family_generator.specs.Features.{generated_dialect, generated_features}
use Rattle.family_generator.proofs.Cases.{each_below}
use Rattle.family_generator.proofs.BlockTexts.{Block, Switched, Bounded, Checked, IsBlock, AreBlocks}
use Rattle.family_generator.proofs.BlockLines.{digit, switch_line, bound_line, count_line, block_lines, blocks_lines, file_lines}
use Rattle.family_generator.proofs.Conditions.{switch_test, bound_test, switch_name, switch_is_read, bound_is_read}
use Rattle.family_generator.proofs.FewAtoms.{AreTests, switch_is_test, bound_is_test, tests_joined, tests_have_few}
use Rattle.family_generator.proofs.Signs.{condition_count}

abbrev pub plain_model : Plain
plain_model = record { features = generated_features; constraints = [] }

abbrev pub kind_in : Line → LineKind
kind_in l = l.kind

-- the kinds of the lines of blocks, where so many conditions stand before
abbrev pub block_kinds : ℕ → Block → List LineKind
block_kinds n (Switched f) = kinds.If n ∷ kinds.Code ∷ kinds.Endif ∷ []
block_kinds n (Bounded c w) = kinds.If n ∷ kinds.Code ∷ kinds.Else ∷ kinds.Code ∷ kinds.Endif ∷ []
block_kinds n Checked = kinds.Code ∷ kinds.Code ∷ []

abbrev pub blocks_kinds : ℕ → List Block → List LineKind
blocks_kinds n [] = kinds.Code ∷ kinds.Code ∷ []
blocks_kinds n (b ∷ bs) = block_kinds n b ++ blocks_kinds (n + condition_count b) bs

abbrev pub file_kinds : List Block → List LineKind
file_kinds bs = kinds.Code ∷ kinds.Code ∷ kinds.Code ∷ blocks_kinds 0 bs

-- a text without definitions
abbrev pub DefinesNothing : List ℕ → Type 0
DefinesNothing text = names_of (pieces text) ≡ []

-- such lines define nothing
nothing_behind : (bs : List Block) → names_of (blocks_lines bs) ≡ []
nothing_behind [] = refl
nothing_behind (Switched f ∷ bs) = nothing_behind bs
nothing_behind (Bounded c w ∷ bs) = nothing_behind bs
nothing_behind (Checked ∷ bs) = nothing_behind bs

pub nothing_defined : (bs : List Block) → names_of (file_lines bs) ≡ []
nothing_defined bs = nothing_behind bs

-- lines are read, and have these kinds
pub record Reads (text : List ℕ) (opens : List Bool) (ps : List (Proposition Atom)) (start : ℕ) (lines : List (List ℕ)) (sorts : List LineKind) : Type 0 where
  pub told : Told
  pub read : AreRead generated_dialect plain_model text [] opens ps start lines (Ok told)
  pub sorts_are : map kind_in told.lines ≡ sorts

-- ---- one line before others

-- the kind of a line does not depend on where it stands
abbrev kind_of_line : ℕ → List ℕ → LineKind
kind_of_line n line = (line_at n 0 (record { line = 1; column = 1 }) line).kind

-- a line without a condition
untested_line : (text : List ℕ) (opens next : List Bool) (ps : List (Proposition Atom)) (start : ℕ) (line : List ℕ) (lines : List (List ℕ)) (sorts : List LineKind) → is_unclosed line lines ≡ false
    → line_fault generated_dialect.includes opens line ≡ None → condition_in line ≡ None → opened_by (named_in line) opens ≡ next → names_in line ≡ [] → Reads text next ps (start + length line + 1) lines sorts
    → Reads text opens ps start (line ∷ lines) (kind_of_line (length ps) line ∷ sorts)
untested_line text opens next ps start line lines sorts unclosed fault condition opened named r = record {
  told = record { lines = line_at (length ps) start (place_at text start) line ∷ r.told.lines; conditions = r.told.conditions };
  read = goes_on opens ps start line lines [] (Ok r.told) unclosed (untested fault condition)
      (subst (λ (names : List (List ℕ)). AreRead generated_dialect plain_model text names (opened_by (named_in line) opens) (ps ++ []) (start + length line + 1) lines (Ok r.told)) (sym named)
      (subst (λ (o : List Bool). AreRead generated_dialect plain_model text [] o (ps ++ []) (start + length line + 1) lines (Ok r.told)) (sym opened)
      (subst (λ (qs : List (Proposition Atom)). AreRead generated_dialect plain_model text [] next qs (start + length line + 1) lines (Ok r.told)) (sym (append-nil ps)) r.read)));
  sorts_are = ap (λ (ks : List LineKind). kind_of_line (length ps) line ∷ ks) r.sorts_are;
}

-- a line with a condition
tested_line : (text : List ℕ) → DefinesNothing text → (opens next : List Bool) (ps : List (Proposition Atom)) (start : ℕ) (line : List ℕ) (lines : List (List ℕ)) (sorts : List LineKind) (bytes : List ℕ) (p : Proposition Atom)
    → is_unclosed line lines ≡ false → line_fault generated_dialect.includes opens line ≡ None → condition_in line ≡ Some (Ok bytes) → IsGroupCondition (no_macros generated_dialect.unknown) generated_features (Ok bytes) (Ok p) → AreTests (ps ++ p ∷ []) → opened_by (named_in line) opens ≡ next → names_in line ≡ []
    → Reads text next (ps ++ p ∷ []) (start + length line + 1) lines sorts → Reads text opens ps start (line ∷ lines) (kind_of_line (length ps) line ∷ sorts)
tested_line text undefined opens next ps start line lines sorts bytes p unclosed fault condition means tests opened named r = record {
  told = record { lines = line_at (length ps) start (place_at text start) line ∷ r.told.lines; conditions = p ∷ r.told.conditions };
  read = goes_on opens ps start line lines (p ∷ []) (Ok r.told) unclosed
      (tested (Ok bytes) p fault condition (subst (λ (names : List (List ℕ)). IsGroupCondition (among generated_dialect.unknown [] names) generated_features (Ok bytes) (Ok p)) (sym undefined) means)
      (tests_have_few (ps ++ p ∷ []) tests))
      (subst (λ (names : List (List ℕ)). AreRead generated_dialect plain_model text names (opened_by (named_in line) opens) (ps ++ p ∷ []) (start + length line + 1) lines (Ok r.told)) (sym named)
      (subst (λ (o : List Bool). AreRead generated_dialect plain_model text [] o (ps ++ p ∷ []) (start + length line + 1) lines (Ok r.told)) (sym opened) r.read));
  sorts_are = ap (λ (ks : List LineKind). kind_of_line (length ps) line ∷ ks) r.sorts_are;
}

-- ---- blocks

not_zero : (n : ℕ) → (n + 1 == 0) ≡ false
not_zero n = grind (arith, nat_tests)

-- what the switch's line says
abbrev name_there : ℕ → Option (List ℕ)
name_there f = name_in (codes " F" ++ digit f)

abbrev switch_named : ℕ → Option (List ℕ)
switch_named f = Some (switch_name f)

name_is : (f : ℕ) → f < 8 → name_there f ≡ switch_named f
name_is f lt = each_below name_there switch_named 8 refl f lt

more_conditions : (ps : List (Proposition Atom)) (p : Proposition Atom) → length (ps ++ p ∷ []) ≡ length ps + 1
more_conditions ps p = length-append ps (p ∷ [])

-- the same with another count of conditions
counted_as : (text : List ℕ) (qs : List (Proposition Atom)) (next : ℕ) (lines : List (List ℕ)) (sorts : ℕ → List LineKind) (m n : ℕ) → m ≡ n → Reads text [] qs next lines (sorts m) → Reads text [] qs next lines (sorts n)
counted_as text qs next lines sorts m n e r = subst (λ (k : ℕ). Reads text [] qs next lines (sorts k)) e r

-- a block before what is read behind it
block_read : (text : List ℕ) → DefinesNothing text → (ps : List (Proposition Atom)) (start : ℕ) (b : Block) (lines : List (List ℕ)) (sorts : ℕ → List LineKind) → IsBlock b → AreTests ps
    → ((qs : List (Proposition Atom)) (next : ℕ) → AreTests qs → length qs ≡ length ps + condition_count b → Reads text [] qs next lines (sorts (length qs)))
    → Reads text [] ps start (block_lines b ++ lines) (block_kinds (length ps) b ++ sorts (length ps + condition_count b))
block_read text undefined ps start (Switched f) lines sorts h tests rest =
    let p = switch_test f in
    let qs = ps ++ switch_test f ∷ [] in
    let all = tests_joined ps (switch_test f ∷ []) tests (switch_is_test f h) in
    let many = more_conditions ps (switch_test f) in
    tested_line text undefined [] (false ∷ []) ps start (switch_line f) (codes "a = input();" ∷ codes "#endif" ∷ lines) _ (codes "defined " ++ switch_name f) p (not_zero (ends_of lines)) refl
    (ap (λ (o : Option (List ℕ)). Some (behind_prefix (codes "defined ") o)) (name_is f h)) (switch_is_read f h) all refl refl
    (untested_line text (false ∷ []) (false ∷ []) qs _ (codes "a = input();") (codes "#endif" ∷ lines) _ refl refl refl refl refl
    (untested_line text (false ∷ []) [] qs _ (codes "#endif") lines _ refl refl refl refl refl
    (counted_as text (ps ++ switch_test f ∷ []) _ lines sorts _ _ many (rest qs _ all many))))
block_read text undefined ps start (Bounded c w) lines sorts h tests rest =
    let p = bound_test c in
    let qs = ps ++ bound_test c ∷ [] in
    let all = tests_joined ps (bound_test c ∷ []) tests (bound_is_test c h.0) in
    let many = more_conditions ps (bound_test c) in
    tested_line text undefined [] (false ∷ []) ps start (bound_line c) (count_line w ∷ codes "#else" ∷ codes "b = 0;" ∷ codes "#endif" ∷ lines) _ (codes " N >= " ++ digit (c + 1)) p (not_zero (ends_of lines)) refl
    refl (bound_is_read c h.0) all refl refl
    (untested_line text (false ∷ []) (false ∷ []) qs _ (count_line w) (codes "#else" ∷ codes "b = 0;" ∷ codes "#endif" ∷ lines) _ refl refl refl refl refl
    (untested_line text (false ∷ []) (true ∷ []) qs _ (codes "#else") (codes "b = 0;" ∷ codes "#endif" ∷ lines) _ refl refl refl refl refl
    (untested_line text (true ∷ []) (true ∷ []) qs _ (codes "b = 0;") (codes "#endif" ∷ lines) _ refl refl refl refl refl
    (untested_line text (true ∷ []) [] qs _ (codes "#endif") lines _ refl refl refl refl refl
    (counted_as text (ps ++ bound_test c ∷ []) _ lines sorts _ _ many (rest qs _ all many))))))
block_read text undefined ps start Checked lines sorts h tests rest =
    let none_more : length ps ≡ length ps + 0 = omega arith in
    untested_line text [] [] ps start (codes "if (a > 0) b = b + 1; else b = 0;") (codes "assert(b >= 0);" ∷ lines) _ refl refl refl refl refl
    (untested_line text [] [] ps _ (codes "assert(b >= 0);") lines _ refl refl refl refl refl
    (counted_as text ps _ lines sorts _ _ none_more (rest ps _ tests none_more)))

blocks_read : (text : List ℕ) → DefinesNothing text → (ps : List (Proposition Atom)) (start : ℕ) (bs : List Block) → AreBlocks bs → AreTests ps → Reads text [] ps start (blocks_lines bs) (blocks_kinds (length ps) bs)
blocks_read text undefined ps start [] h tests =
    untested_line text [] [] ps start (codes "}") ([] ∷ []) _ refl refl refl refl refl
    (untested_line text [] [] ps _ [] [] _ refl refl refl refl refl
    (record { told = record { lines = []; conditions = [] }; read = none [] ps _; sorts_are = refl }))
blocks_read text undefined ps start (b ∷ bs) h tests =
    block_read text undefined ps start b (blocks_lines bs) (λ (n : ℕ). blocks_kinds n bs) h.0 tests (λ qs next all many. blocks_read text undefined qs next bs h.1 all)

-- all lines of a generated family
pub file_read : (text : List ℕ) → DefinesNothing text → (bs : List Block) → AreBlocks bs → Reads text [] [] 0 (file_lines bs) (file_kinds bs)
file_read text undefined bs h =
    untested_line text [] [] [] 0 (codes "int a;") (codes "int b;" ∷ codes "int main(void) {" ∷ blocks_lines bs) _ refl refl refl refl refl
    (untested_line text [] [] [] _ (codes "int b;") (codes "int main(void) {" ∷ blocks_lines bs) _ refl refl refl refl refl
    (untested_line text [] [] [] _ (codes "int main(void) {") (blocks_lines bs) _ refl refl refl refl refl
    (blocks_read text undefined [] _ bs h tt)))
