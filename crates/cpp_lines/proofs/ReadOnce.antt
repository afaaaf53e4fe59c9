-- A text is read in one way: as one list of lines and conditions, or with one fault.
use Rattle.std.proofs.Common.{◌≡◌, ℕ, ◌+◌, Bool, true, false, List, [], ◌∷◌, ◌++◌, length, Option, Some, None, Result, Ok, Err, refl, sym, ap, subst, ◌∙◌}
use Rattle.fam_outer.specs.declared.dialect.Dialect.{Dialect}
use Rattle.fam_outer.specs.declared.faults.ConditionFault.{ConditionFault}
use Rattle.fam_outer.specs.declared.faults.FileCode.{FileCode}
use Rattle.fam_outer.specs.declared.faults.FileCode.TheVariants as codes_of
use Rattle.fam_outer.specs.declared.faults.Place.{Place}
use Rattle.fam_outer.specs.Places.{place_at}
use Rattle.linear_atoms.specs.declared.atoms.Atom.{Atom}
use Rattle.linear_atoms.specs.declared.atoms.Feature.{Feature}
use Rattle.cpp_conditions.specs.Distinct.{HaveFewAtoms, HaveMoreAtoms}
use Rattle.cpp_conditions.specs.Grammar.{ReadsAs}
use Rattle.cpp_conditions.specs.Macros.{Macros}
use Rattle.cpp_conditions.specs.Propositions.{Proposition}
use Rattle.cpp_conditions.specs.Validity.{Plain}
use Rattle.cpp_lines.specs.Defined.{names_in, macros_behind}
use Rattle.cpp_lines.specs.GroupConditions.{condition_in, IsGroupCondition}
use Rattle.cpp_lines.specs.Lines.{line_place, pieces}
use Rattle.cpp_lines.specs.Nesting.{named_in, opened_by, is_unclosed, line_fault}
use Rattle.cpp_lines.specs.Preprocessed.{preprocessed}
use Rattle.cpp_lines.specs.Sections as sections
use Rattle.cpp_lines.specs.Sections.{Told, AreRead, TextIsRead, HasFault, IsRead, in_front, line_at}
use Rattle.cpp_lines.specs.Whole.{blanked_file, IsPreprocessed}

-- bytes are read in one way as a condition
abbrev pub OneCondition : Type 0
OneCondition = (macros : Macros) (features : List Feature) (bytes : List ℕ) (r s : Result (Proposition Atom) ConditionFault) → ReadsAs macros features bytes r → ReadsAs macros features bytes s → r ≡ s

-- ---- one line

abbrev ok_of : Proposition Atom → Result (Proposition Atom) ConditionFault
ok_of p = Ok p

same_ok : (p q : Proposition Atom) → ok_of p ≡ ok_of q → p ≡ q
same_ok p q e = let k : ok_of p ≡ ok_of q = e in cc

same_condition : OneCondition → (macros : Macros) (features : List Feature) (text : Result (List ℕ) ConditionFault) (p q : Proposition Atom) → IsGroupCondition macros features text (Ok p) → IsGroupCondition macros features text (Ok q) → p ≡ q
same_condition one macros features (Ok bytes) p q h k = same_ok p q (one macros features bytes (Ok p) (Ok q) h k)
same_condition one macros features (Err fault) p q h k = absurd cc

abbrev some_of : Result (List ℕ) ConditionFault → Option (Result (List ℕ) ConditionFault)
some_of a = Some a

same_text : (a b : Result (List ℕ) ConditionFault) → some_of a ≡ some_of b → a ≡ b
same_text a b e = let k : some_of a ≡ some_of b = e in cc

no_text : (a : Result (List ℕ) ConditionFault) (o : Option (Result (List ℕ) ConditionFault)) → o ≡ None → o ≡ some_of a → ⊥
no_text a o h k = let e : None ≡ some_of a = sym h ∙ k in cc

same_line : OneCondition → (dialect : Dialect) (macros : Macros) (m : Plain) (opens : List Bool) (ps : List (Proposition Atom)) (line : List ℕ) (qs rs : List (Proposition Atom)) → IsRead dialect macros m opens ps line qs → IsRead dialect macros m opens ps line rs → qs ≡ rs
same_line one dialect macros m opens ps line qs rs (sections.untested a n) (sections.untested b o) = refl
same_line one dialect macros m opens ps line qs rs (sections.untested a n) (sections.tested t p b o i f) = absurd (no_text t (condition_in line) n o)
same_line one dialect macros m opens ps line qs rs (sections.tested t p b o i f) (sections.untested a n) = absurd (no_text t (condition_in line) n o)
same_line one dialect macros m opens ps line qs rs (sections.tested t p a n i f) (sections.tested u q b o j g) =
    let e : t ≡ u = same_text t u (sym n ∙ o) in
    ap (λ (x : Proposition Atom). x ∷ []) (same_condition one macros m.features u p q (subst (λ (x : Result (List ℕ) ConditionFault). IsGroupCondition macros m.features x (Ok p)) e i) j)

-- ---- the faults of one line

-- conditions with few atoms have no more
abbrev pub FewAreNotMore : Type 0
FewAreNotMore = (most : ℕ) (conditions : List (Proposition Atom)) → HaveFewAtoms most conditions → HaveMoreAtoms most conditions → ⊥

abbrev err_of : ConditionFault → Result (Proposition Atom) ConditionFault
err_of f = Err f

no_ok : (p : Proposition Atom) (f : ConditionFault) → ok_of p ≡ err_of f → ⊥
no_ok p f e = let k : ok_of p ≡ err_of f = e in cc

same_err : (f g : ConditionFault) → err_of f ≡ err_of g → f ≡ g
same_err f g e = let k : err_of f ≡ err_of g = e in cc

not_refused : OneCondition → (macros : Macros) (features : List Feature) (text : Result (List ℕ) ConditionFault) (p : Proposition Atom) (f : ConditionFault) → IsGroupCondition macros features text (Ok p) → IsGroupCondition macros features text (Err f) → ⊥
not_refused one macros features (Ok bytes) p f h k = no_ok p f (one macros features bytes (Ok p) (Err f) h k)
not_refused one macros features (Err fault) p f h k = absurd cc

same_refusal : OneCondition → (macros : Macros) (features : List Feature) (text : Result (List ℕ) ConditionFault) (f g : ConditionFault) → IsGroupCondition macros features text (Err f) → IsGroupCondition macros features text (Err g) → f ≡ g
same_refusal one macros features (Ok bytes) f g h k = same_err f g (one macros features bytes (Err f) (Err g) h k)
same_refusal one macros features (Err fault) f g h k = same_err f g (h ∙ sym k)

no_code : (o : Option FileCode) (code : FileCode) → o ≡ None → o ≡ Some code → ⊥
no_code o code h k = let e : None ≡ Some code = sym h ∙ k in absurd cc

abbrev some_code : FileCode → Option FileCode
some_code c = Some c

same_code : (o : Option FileCode) (c d : FileCode) → o ≡ some_code c → o ≡ some_code d → c ≡ d
same_code o c d h k = let e : some_code c ≡ some_code d = sym h ∙ k in cc

line_not_faulty : OneCondition → FewAreNotMore → (dialect : Dialect) (macros : Macros) (m : Plain) (opens : List Bool) (ps : List (Proposition Atom)) (line : List ℕ) (qs : List (Proposition Atom)) (code : FileCode) → IsRead dialect macros m opens ps line qs → HasFault dialect macros m opens ps line code → ⊥
line_not_faulty one more dialect macros m opens ps line qs code (sections.untested a n) (sections.misplaced c e) = no_code (line_fault dialect.includes opens line) c a e
line_not_faulty one more dialect macros m opens ps line qs code (sections.tested t p a n i f) (sections.misplaced c e) = no_code (line_fault dialect.includes opens line) c a e
line_not_faulty one more dialect macros m opens ps line qs code (sections.untested a n) (sections.refused u g b o j) = no_text u (condition_in line) n o
line_not_faulty one more dialect macros m opens ps line qs code (sections.tested t p a n i f) (sections.refused u g b o j) =
    let e : t ≡ u = same_text t u (sym n ∙ o) in
    not_refused one macros m.features u p g (subst (λ (x : Result (List ℕ) ConditionFault). IsGroupCondition macros m.features x (Ok p)) e i) j
line_not_faulty one more dialect macros m opens ps line qs code (sections.untested a n) (sections.crowded u q b o j h) = no_text u (condition_in line) n o
line_not_faulty one more dialect macros m opens ps line qs code (sections.tested t p a n i f) (sections.crowded u q b o j h) =
    let e : t ≡ u = same_text t u (sym n ∙ o) in
    let same : p ≡ q = same_condition one macros m.features u p q (subst (λ (x : Result (List ℕ) ConditionFault). IsGroupCondition macros m.features x (Ok p)) e i) j in
    more 64 (m.constraints ++ (ps ++ q ∷ [])) (subst (λ (x : Proposition Atom). HaveFewAtoms 64 (m.constraints ++ (ps ++ x ∷ []))) same f) h

-- a line has one fault
same_fault : OneCondition → (dialect : Dialect) (macros : Macros) (m : Plain) (opens : List Bool) (ps : List (Proposition Atom)) (line : List ℕ) (c d : FileCode) → HasFault dialect macros m opens ps line c → HasFault dialect macros m opens ps line d → c ≡ d
same_fault one dialect macros m opens ps line c d (sections.misplaced x e) (sections.misplaced y f) = same_code (line_fault dialect.includes opens line) c d e f
same_fault one dialect macros m opens ps line c d (sections.misplaced x e) (sections.refused u g b o j) = absurd (no_code (line_fault dialect.includes opens line) c b e)
same_fault one dialect macros m opens ps line c d (sections.misplaced x e) (sections.crowded u q b o j h) = absurd (no_code (line_fault dialect.includes opens line) c b e)
same_fault one dialect macros m opens ps line c d (sections.refused t f a n i) (sections.misplaced y e) = absurd (no_code (line_fault dialect.includes opens line) d a e)
same_fault one dialect macros m opens ps line c d (sections.refused t f a n i) (sections.refused u g b o j) =
    let e : t ≡ u = same_text t u (sym n ∙ o) in
    ap (λ (x : ConditionFault). codes_of.Condition x) (same_refusal one macros m.features u f g (subst (λ (x : Result (List ℕ) ConditionFault). IsGroupCondition macros m.features x (Err f)) e i) j)
same_fault one dialect macros m opens ps line c d (sections.refused t f a n i) (sections.crowded u q b o j h) =
    let e : u ≡ t = same_text u t (sym o ∙ n) in
    absurd (not_refused one macros m.features t q f (subst (λ (x : Result (List ℕ) ConditionFault). IsGroupCondition macros m.features x (Ok q)) e j) i)
same_fault one dialect macros m opens ps line c d (sections.crowded t p a n i k) (sections.misplaced y e) = absurd (no_code (line_fault dialect.includes opens line) d a e)
same_fault one dialect macros m opens ps line c d (sections.crowded t p a n i k) (sections.refused u g b o j) =
    let e : t ≡ u = same_text t u (sym n ∙ o) in
    absurd (not_refused one macros m.features u p g (subst (λ (x : Result (List ℕ) ConditionFault). IsGroupCondition macros m.features x (Ok p)) e i) j)
same_fault one dialect macros m opens ps line c d (sections.crowded t p a n i k) (sections.crowded u q b o j h) = refl

-- ---- all lines

abbrev Answer : Type 0
Answer = Result Told (FileCode × Place)

not_both : (b : Bool) → b ≡ true → b ≡ false → ⊥
not_both b h k = let e : true ≡ false = sym h ∙ k in cc

lines_once : OneCondition → FewAreNotMore → (dialect : Dialect) (m : Plain) (text : List ℕ) (above : List (List ℕ)) (opens : List Bool) (ps : List (Proposition Atom)) (start : ℕ) (lines : List (List ℕ)) (r s : Answer)
    → AreRead dialect m text above opens ps start lines r → AreRead dialect m text above opens ps start lines s → r ≡ s
lines_once one more dialect m text above opens ps start [] r s (sections.none a b c) (sections.none d e f) = refl
lines_once one more dialect m text above opens ps start (line ∷ lines) r s (sections.unclosed a b c l ls u) (sections.unclosed d e f n ns v) = refl
lines_once one more dialect m text above opens ps start (line ∷ lines) r s (sections.unclosed a b c l ls u) (sections.faulty d e f n ns code v g) = absurd (not_both (is_unclosed line lines) u v)
lines_once one more dialect m text above opens ps start (line ∷ lines) r s (sections.unclosed a b c l ls u) (sections.goes_on d e f n ns rs y v j k) = absurd (not_both (is_unclosed line lines) u v)
lines_once one more dialect m text above opens ps start (line ∷ lines) r s (sections.faulty a b c l ls code u g) (sections.unclosed d e f n ns v) = absurd (not_both (is_unclosed line lines) v u)
lines_once one more dialect m text above opens ps start (line ∷ lines) r s (sections.faulty a b c l ls code u g) (sections.faulty d e f n ns other v h) =
    ap (λ (x : FileCode). Err (x, line_place (place_at text start) line)) (same_fault one dialect (macros_behind dialect.unknown text above) m opens ps line code other g h)
lines_once one more dialect m text above opens ps start (line ∷ lines) r s (sections.faulty a b c l ls code u g) (sections.goes_on d e f n ns rs y v j k) = absurd (line_not_faulty one more dialect (macros_behind dialect.unknown text above) m opens ps line rs code j g)
lines_once one more dialect m text above opens ps start (line ∷ lines) r s (sections.goes_on a b c l ls qs x u i h) (sections.unclosed d e f n ns v) = absurd (not_both (is_unclosed line lines) v u)
lines_once one more dialect m text above opens ps start (line ∷ lines) r s (sections.goes_on a b c l ls qs x u i h) (sections.faulty d e f n ns code v g) = absurd (line_not_faulty one more dialect (macros_behind dialect.unknown text above) m opens ps line qs code i g)
lines_once one more dialect m text above opens ps start (line ∷ lines) r s (sections.goes_on a b c l ls qs x u i h) (sections.goes_on d e f n ns rs y v j k) =
    let same : rs ≡ qs = same_line one dialect (macros_behind dialect.unknown text above) m opens ps line rs qs j i in
    let front = line_at (length ps) start (place_at text start) line ∷ [] in
    ap (in_front front qs) (lines_once one more dialect m text (above ++ names_in line) (opened_by (named_in line) opens) (ps ++ qs) (start + length line + 1) lines x y h
    (subst (λ (zs : List (Proposition Atom)). AreRead dialect m text (above ++ names_in line) (opened_by (named_in line) opens) (ps ++ zs) (start + length line + 1) lines y) same k))
    ∙ ap (λ (zs : List (Proposition Atom)). in_front front zs y) (sym same)

pub read_once : OneCondition → FewAreNotMore → (dialect : Dialect) (m : Plain) (text : List ℕ) (r s : Answer) → TextIsRead dialect m text r → TextIsRead dialect m text s → r ≡ s
read_once one more dialect m text r s h k = lines_once one more dialect m text [] [] [] 0 (pieces text) r s h k

-- ---- the text that stays of a file

-- what a law says of texts
abbrev pub OneReading : Type 0
OneReading = (dialect : Dialect) (m : Plain) (text : List ℕ) (r s : Answer) → TextIsRead dialect m text r → TextIsRead dialect m text s → r ≡ s

abbrev told_ok : Told → Answer
told_ok t = Ok t

same_told : (s t : Told) → told_ok s ≡ told_ok t → s ≡ t
same_told s t e = let k : told_ok s ≡ told_ok t = e in cc

abbrev blanked_ok : List ℕ → Result (List ℕ) (FileCode × Place)
blanked_ok b = Ok b

same_blanked : (r : Result (List ℕ) (FileCode × Place)) (a b : List ℕ) → r ≡ blanked_ok a → r ≡ blanked_ok b → a ≡ b
same_blanked r a b h k = let e : blanked_ok a ≡ blanked_ok b = sym h ∙ k in cc

pub one_text : OneReading → (dialect : Dialect) (m : Plain) (truths : List (Proposition Atom) → List Bool) (bytes s t : List ℕ) → IsPreprocessed dialect m truths bytes s → IsPreprocessed dialect m truths bytes t → s ≡ t
one_text one dialect m truths bytes s t h k =
    let b : h.blanked ≡ k.blanked = same_blanked (blanked_file bytes) h.blanked k.blanked h.without_comments k.without_comments in
    let e : h.told ≡ k.told = same_told h.told k.told (one dialect m k.blanked (Ok h.told) (Ok k.told) (subst (λ (z : List ℕ). TextIsRead dialect m z (Ok h.told)) b h.read) k.read) in
    h.is ∙ ap (λ (x : Told). preprocessed (truths x.conditions) x.lines h.blanked) e ∙ ap (λ (z : List ℕ). preprocessed (truths k.told.conditions) k.told.lines z) b ∙ sym k.is
