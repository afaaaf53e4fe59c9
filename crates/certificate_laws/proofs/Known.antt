-- Texts of known lines: what may be read of them, and that none has a fault.
use Rattle.std.proofs.Common.{◌≡◌, ◌≢◌, ℕ, zero, suc, ◌<◌, ◌≤◌, List, [], ◌∷◌, ◌++◌, codes, inl, inr, length, get_or, refl, sym, ap, subst, ◌∙◌, arith, append_assoc, append-nil, length-append}
use Rattle.std.specs.Prelude.{flat_map, Option}
use Rattle.std.specs.List.{AllByRecursion}
use Rattle.std.proofs.lemmas.List.{append_cancel_left}
use Rattle.c_tree.specs.declared.tree.Mode.{Mode}
use Rattle.c_tree.specs.declared.tree.Mode.TheVariants.{Stop, Wrap}
use Rattle.certificate_format.specs.declared.literals.Piece.{Piece}
use Rattle.certificate_format.specs.declared.certificates.CertificateFault.{CertificateFault}
use Rattle.certificate_format.specs.declared.certificates.CertificateFault.TheVariants.{TooLong, Header, Line, Test}
use Rattle.certificate_format.specs.declared.certificates.Entry.{Entry}
use Rattle.fam_outer.specs.Limits.{certificate_bytes}
use Rattle.certificate_format.specs.Certificates.{AreEntries, header, AreRead, IsLeft, HasNoForm, HasNoFormula, HasFault}
use Rattle.certificate_format.specs.Cuts.{IsCut, Begins}
use Rattle.certificate_format.specs.Lines.{Saying, region_of, Says}
use Rattle.certificate_format.specs.Regions.{IsStrange}
use Rattle.certificate_format.proofs.Splitting.{occurs, one_cut, avoiding_cut}
use Rattle.certificate_laws.specs.Written.{IsOneLine}

abbrev end : List ℕ
end = codes "\n"

-- the lines, each with its newline
abbrev pub lines_text : List (List ℕ) → List ℕ
lines_text lines = flat_map (λ line. line ++ end) lines

-- ---- cuts at newlines

no_end : (xs : List ℕ) (k : ℕ) → IsOneLine xs → k < length xs → get_or xs k 0 ≢ 10
no_end [] k h l = absurd (omega (arith, l))
no_end (x ∷ xs) zero h l = h.0
no_end (x ∷ xs) (suc k) h l = no_end xs k h.1 (omega (arith, l))

line_first : (line : List ℕ) (lines : List (List ℕ)) → lines_text (line ∷ lines) ≡ line ++ (end ++ lines_text lines)
line_first line lines = append_assoc line end (lines_text lines)

line_cut : (line : List ℕ) (lines : List (List ℕ)) → IsOneLine line → IsCut end (lines_text (line ∷ lines)) line (lines_text lines)
line_cut line lines h = avoiding_cut end (lines_text (line ∷ lines)) line (lines_text lines) (omega arith, λ k l. no_end line k h l) (line_first line lines)

none_cut : (line rest : List ℕ) → IsCut end [] line rest → ⊥
none_cut [] rest c = let l : 0 ≡ length (end ++ rest) = ap length c.whole in omega (arith, l)
none_cut (x ∷ line) rest c = let l : 0 ≡ length (x ∷ line ++ (end ++ rest)) = ap length c.whole in omega (arith, l)

-- what is read of lines is some of them, and the rest is the text of the others
record IsRead (known lines : List (List ℕ)) (rest : List ℕ) : Type 0 where
  others : List (List ℕ)
  parts : known ≡ lines ++ others
  rest_is : rest ≡ lines_text others

lines_read : (known lines : List (List ℕ)) (rest : List ℕ) → AllByRecursion IsOneLine known → Begins end (lines_text known) lines rest → IsRead known lines rest
lines_read known [] rest h b = record { others = known; parts = refl; rest_is = sym b }
lines_read [] (line ∷ lines) rest h b = absurd (none_cut line b.0 b.1)
lines_read (k ∷ known) (line ∷ lines) rest h b =
    let same = one_cut end (lines_text (k ∷ known)) line b.0 k (lines_text known) b.1 (line_cut k known h.0) in
    let behind = lines_read known lines rest h.1 (subst (λ u. Begins end u lines rest) same.1 b.2) in
    record {
      others = behind.others;
      parts = λ i. sym same.0 i ∷ behind.parts i;
      rest_is = behind.rest_is;
    }

-- ---- headers

one_header : (m n : Mode) (r s : List ℕ) → header m ++ r ≡ header n ++ s → (m ≡ n) × (r ≡ s)
one_header Stop Stop r s e = (refl, append_cancel_left (header Stop) r s e)
one_header Wrap Wrap r s e = (refl, append_cancel_left (header Wrap) r s e)
one_header Stop Wrap r s e = let byte : 115 ≡ 119 = ap (λ t. get_or t 22 0) e in absurd (omega (arith, byte))
one_header Wrap Stop r s e = let byte : 119 ≡ 115 = ap (λ t. get_or t 22 0) e in absurd (omega (arith, byte))

-- ---- lines that have a form

-- the line has no newline and a form, and no piece of its region is strange
pub record IsKnown (of : List ℕ → Option Piece) (names : List (List ℕ)) (line : List ℕ) : Type 0 where
  pub one : IsOneLine line
  pub says : Saying
  pub said : Says names line says
  pub spelled : (s : Saying) → Says names line s → ¬ (IsStrange of (region_of s))

module _ (of : List ℕ → Option Piece) (names : List (List ℕ)) (mode : Mode) where
  abbrev AreKnown : List (List ℕ) → Type 0
  AreKnown lines = AllByRecursion (IsKnown of names) lines

  abbrev pub whole_text : List (List ℕ) → List ℕ
  whole_text known = header mode ++ lines_text known

  one_lines : (known : List (List ℕ)) → AreKnown known → AllByRecursion IsOneLine known
  one_lines [] h = tt
  one_lines (line ∷ known) h = (h.0.one, one_lines known h.1)

  last_known : (lines others : List (List ℕ)) → AreKnown (lines ++ others) → AreKnown others
  last_known [] others h = h
  last_known (line ∷ lines) others h = last_known lines others h.1

  -- what is read of the whole text
  pub record IsPart (known : List (List ℕ)) (m : Mode) (lines : List (List ℕ)) (rest : List ℕ) : Type 0 where
    pub mode_is : m ≡ mode
    pub others : List (List ℕ)
    pub parts : known ≡ lines ++ others
    pub rest_is : rest ≡ lines_text others
    pub known_others : AreKnown others

  pub part_read : (known : List (List ℕ)) (m : Mode) (lines : List (List ℕ)) (entries : List Entry) (rest : List ℕ) → AreKnown known
      → AreRead of names (whole_text known) m lines entries rest → IsPart known m lines rest
  part_read known m lines entries rest h r =
      let head = one_header m mode r.behind (lines_text known) (sym r.whole) in
      let read = lines_read known lines rest (one_lines known h) (subst (λ u. Begins end u lines rest) head.1 r.begins) in
      record {
        mode_is = head.0;
        others = read.others;
        parts = read.parts;
        rest_is = read.rest_is;
        known_others = last_known lines read.others (subst AreKnown read.parts h);
      }

  left_part : (known : List (List ℕ)) (n : ℕ) (rest : List ℕ) → AreKnown known → IsLeft of names (whole_text known) n rest → (others : List (List ℕ)) × (rest ≡ lines_text others) × AreKnown others
  left_part known n rest h l = let part = part_read known l.mode l.lines l.entries rest h l.read in (part.others, part.rest_is, part.known_others)

  has_form : (others : List (List ℕ)) → AreKnown others → ¬ (HasNoForm names (lines_text others))
  has_form [] h f = f.0 refl
  has_form (line ∷ others) h (some, inl lacks) = lacks (length line) (occurs end (lines_text (line ∷ others)) line (lines_text others) (line_first line others))
  has_form (line ∷ others) h (some, inr f) =
      let same = one_cut end (lines_text (line ∷ others)) f.0 f.1 line (lines_text others) f.2 (line_cut line others h.0.one) in
      f.3 h.0.says (subst (λ u. Says names u h.0.says) (sym same.0) h.0.said)

  has_formula : (others : List (List ℕ)) → AreKnown others → ¬ (HasNoFormula of names (lines_text others))
  has_formula [] h f = none_cut f.0 f.1 f.3
  has_formula (line ∷ others) h f =
      let same = one_cut end (lines_text (line ∷ others)) f.0 f.1 line (lines_text others) f.3 (line_cut line others h.0.one) in
      h.0.spelled f.2 (subst (λ u. Says names u f.2) same.0 f.4) f.5

  -- a text of known lines that is not too long has no fault
  pub no_fault : (known : List (List ℕ)) (fault : CertificateFault) → AreKnown known → length (whole_text known) ≤ certificate_bytes → ¬ (HasFault of names (whole_text known) fault)
  no_fault known TooLong h short f = omega (arith, short, f)
  no_fault known Header h short f = f.1 mode (lines_text known) refl
  no_fault known (Line n) h short f =
      let left = left_part known n f.0 h f.1 in has_form left.0 left.2 (subst (HasNoForm names) left.1 f.2)
  no_fault known (Test n) h short f =
      let left = left_part known n f.0 h f.1 in has_formula left.0 left.2 (subst (HasNoFormula of names) left.1 f.2)

  -- where all is read, all lines are
  pub all_read : (known : List (List ℕ)) (m : Mode) (lines : List (List ℕ)) (entries : List Entry) → AreKnown known
      → AreRead of names (whole_text known) m lines entries [] → (m ≡ mode) × AreEntries of names known entries
  all_read known m lines entries h r =
      let part = part_read known m lines entries [] h r in
      (part.mode_is, by part.others part.parts part.rest_is)
    where
      by : (others : List (List ℕ)) → known ≡ lines ++ others → [] ≡ lines_text others → AreEntries of names known entries
      by [] e f = subst (λ l. AreEntries of names l entries) (sym (e ∙ append-nil lines)) r.said
      by (line ∷ others) e f = let l : 0 ≡ length (line ++ (end ++ lines_text others)) = ap length (f ∙ line_first line others) in absurd (omega (arith, l, length-append line (end ++ lines_text others)))
