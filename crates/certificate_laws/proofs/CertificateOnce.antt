-- Over given names and pieces, bytes spell one certificate, as far as a check asks of it, or have one fault.
use Rattle.std.proofs.Common.{◌≡◌, ◌⊎◌, ℕ, suc, ◌+◌, ◌≤◌, ◌<◌, List, [], ◌∷◌, ◌++◌, codes, length, map, get_or, refl, sym, ap, ap₂, subst, ◌∙◌, inl, inr, arith}
use Rattle.std.specs.Prelude.{flat_map, Option, Some, None}
use Rattle.std.specs.List.{AllByRecursion}
use Rattle.std.proofs.lemmas.List.{append_cancel_left}
use Rattle.std.proofs.lemmas.Option.{none-some, same_Some}
use Rattle.fam_outer.specs.Limits.{certificate_bytes}
use Rattle.c_tree.specs.declared.tree.Mode.{Mode}
use Rattle.c_tree.specs.declared.tree.Mode.TheVariants.{Stop, Wrap}
use Rattle.cpp_conditions.specs.Propositions.{Proposition}
use Rattle.cpp_conditions.specs.View.{formula}
use Rattle.lifted_analysis.specs.declared.lines.LoopLine.{LoopLine}
use Rattle.merged_findings.specs.Pairs.{ArePairs}
use Rattle.certificate_format.specs.declared.certificates.AlarmLine.{AlarmLine}
use Rattle.certificate_format.specs.declared.certificates.Certificate.{Certificate}
use Rattle.certificate_format.specs.declared.certificates.CertificateFault.{CertificateFault}
use Rattle.certificate_format.specs.declared.certificates.CertificateFault.TheVariants.{TooLong, Header, Line, Test}
use Rattle.certificate_format.specs.declared.certificates.Entry.{Entry}
use Rattle.certificate_format.specs.declared.certificates.Entry.TheVariants as entry
use Rattle.certificate_format.specs.declared.literals.Piece.{Piece}
use Rattle.certificate_format.specs.Bounds.{bounds_text}
use Rattle.certificate_format.specs.Certificates.{IsEntry, AreEntries, loops_of, alarms_of, header, AreRead, SpellsCertificate, IsLeft, HasNoForm, HasNoFormula, HasFault}
use Rattle.certificate_format.specs.Cuts.{Lacks, IsCut, Begins}
use Rattle.certificate_format.specs.Lines.{Saying, Loop, Alarm, region_of, Says}
use Rattle.certificate_format.specs.Regions.{all_of, distinct, literals_in, Conjoins, IsMeant, IsStrange}
use Rattle.certificate_format.proofs.Shapes.{one_loop, not_both}
use Rattle.certificate_format.proofs.Splitting.{none_cut, one_cut}
use Rattle.certificate_laws.specs.Readings.{AreLoopsAlike, AreAlarmsAlike, AreCertificatesAlike}
use Rattle.certificate_laws.proofs.Leaves.{one_bounds}
use Rattle.certificate_laws.proofs.LineTexts.{one_alarm}
use Rattle.certificate_laws.proofs.Lists.{first_same, rest_same, none_or_some}

-- ---- entries that say the same

abbrev AreEntriesAlike : Entry → Entry → Type 0
AreEntriesAlike (entry.Loop l) (entry.Loop m) = AreLoopsAlike l m
AreEntriesAlike (entry.Alarm a) (entry.Alarm b) = AreAlarmsAlike a b
AreEntriesAlike _ _ = ⊥

loops_alike : (xs ys : List Entry) → ArePairs AreEntriesAlike xs ys → ArePairs AreLoopsAlike (loops_of xs) (loops_of ys)
loops_alike [] [] h = tt
loops_alike [] (y ∷ ys) h = absurd h
loops_alike (x ∷ xs) [] h = absurd h
loops_alike (entry.Loop l ∷ xs) (entry.Loop m ∷ ys) h = (h.0, loops_alike xs ys h.1)
loops_alike (entry.Alarm a ∷ xs) (entry.Alarm b ∷ ys) h = loops_alike xs ys h.1
loops_alike (entry.Loop l ∷ xs) (entry.Alarm b ∷ ys) h = absurd h.0
loops_alike (entry.Alarm a ∷ xs) (entry.Loop m ∷ ys) h = absurd h.0

alarms_alike : (xs ys : List Entry) → ArePairs AreEntriesAlike xs ys → ArePairs AreAlarmsAlike (alarms_of xs) (alarms_of ys)
alarms_alike [] [] h = tt
alarms_alike [] (y ∷ ys) h = absurd h
alarms_alike (x ∷ xs) [] h = absurd h
alarms_alike (entry.Loop l ∷ xs) (entry.Loop m ∷ ys) h = alarms_alike xs ys h.1
alarms_alike (entry.Alarm a ∷ xs) (entry.Alarm b ∷ ys) h = (h.0, alarms_alike xs ys h.1)
alarms_alike (entry.Loop l ∷ xs) (entry.Alarm b ∷ ys) h = absurd h.0
alarms_alike (entry.Alarm a ∷ xs) (entry.Loop m ∷ ys) h = absurd h.0

-- ---- cuts

no_cut : (line rest : List ℕ) → IsCut (codes "\n") [] line rest → ⊥
no_cut [] rest c = let l : 0 ≡ length (codes "\n" ++ rest) = ap length c.whole in omega (arith, l)
no_cut (x ∷ line) rest c = let l : 0 ≡ length (x ∷ line ++ (codes "\n" ++ rest)) = ap length c.whole in omega (arith, l)

-- what stands before the separators, and behind the last
begins_once : (s text : List ℕ) (xs ys : List (List ℕ)) (r t : List ℕ) → Begins s text xs r → Begins s text ys t → Lacks s r → Lacks s t → (xs ≡ ys) × (r ≡ t)
begins_once s text [] [] r t h k a b = (refl, sym h ∙ k)
begins_once s text [] (y ∷ ys) r t h k a b = absurd (none_cut s text y k.0 (subst (Lacks s) (sym h) a) k.1)
begins_once s text (x ∷ xs) [] r t h k a b = absurd (none_cut s text x h.0 (subst (Lacks s) (sym k) b) h.1)
begins_once s text (x ∷ xs) (y ∷ ys) r t h k a b =
    let same = one_cut s text x h.0 y k.0 h.1 k.1 in
    let more = begins_once s k.0 xs ys r t (subst (λ (u : List ℕ). Begins s u xs r) same.1 h.2) k.2 a b in
    (ap₂ (λ (z : List ℕ) (zs : List (List ℕ)). z ∷ zs) same.0 more.0, more.1)

-- ---- regions

module _ (of : List ℕ → Option Piece) where
  pieces_once : (ps qs : List Piece) → map Some ps ≡ map Some qs → ps ≡ qs
  pieces_once [] [] e = refl
  pieces_once [] (q ∷ qs) e = absurd (none_or_some (Some q) (map Some qs) e)
  pieces_once (p ∷ ps) [] e = absurd (none_or_some (Some p) (map Some ps) (sym e))
  pieces_once (p ∷ ps) (q ∷ qs) e =
      ap₂ (λ (x : Piece) (xs : List Piece). x ∷ xs) (same_Some p q (first_same (Some p) (Some q) (map Some ps) (map Some qs) e))
      (pieces_once ps qs (rest_same (Some p) (Some q) (map Some ps) (map Some qs) e))

  conjoined_once : (region : List ℕ) (p q : Proposition ℕ) → Conjoins of region p → Conjoins of region q → p ≡ q
  conjoined_once region p q h k =
      let parts = begins_once (codes " && ") region h.between.front k.between.front h.between.last k.between.last h.between.begins k.between.begins h.between.ends k.between.ends in
      let texts : h.texts ≡ k.texts = h.between.parts_are ∙ ap₂ (λ (xs : List (List ℕ)) (l : List ℕ). xs ++ (l ∷ [])) parts.0 parts.1 ∙ sym k.between.parts_are in
      let pieces : h.pieces ≡ k.pieces = pieces_once h.pieces k.pieces (sym h.spelled ∙ ap (map of) texts ∙ k.spelled) in
      h.formula_is ∙ ap (λ (ps : List Piece). all_of (distinct (flat_map literals_in ps))) pieces ∙ sym k.formula_is

  one_formula : (region : List ℕ) (p q : Proposition ℕ) → IsMeant of region p → IsMeant of region q → p ≡ q
  one_formula region p q (inl h) (inl k) = h.1 ∙ sym k.1
  one_formula region p q (inl h) (inr k) = absurd (k.0 h.0)
  one_formula region p q (inr h) (inl k) = absurd (h.0 k.0)
  one_formula region p q (inr h) (inr k) = conjoined_once region p q h.1 k.1

  -- a text stands for something
  abbrev IsSpelled : List ℕ → Type 0
  IsSpelled text = of text ≡ None → ⊥

  all_spelled : (texts : List (List ℕ)) (ps : List Piece) → map of texts ≡ map Some ps → AllByRecursion IsSpelled texts
  all_spelled [] ps e = tt
  all_spelled (t ∷ texts) [] e = absurd (none_or_some (of t) (map of texts) (sym e))
  all_spelled (t ∷ texts) (p ∷ ps) e = (
    λ none. none-some p (sym none ∙ first_same (of t) (Some p) (map of texts) (map Some ps) e),
    all_spelled texts ps (rest_same (of t) (Some p) (map of texts) (map Some ps) e),
  )

  -- a part of a text that is cut into spelled parts is one of these
  part_spelled : (s text part : List ℕ) (xs ys : List (List ℕ)) (r l : List ℕ) → Begins s text xs r → ((rest : List ℕ) × IsCut s r part rest) ⊎ ((part ≡ r) × Lacks s r) → Begins s text ys l → Lacks s l
      → AllByRecursion IsSpelled (ys ++ (l ∷ [])) → IsSpelled part
  part_spelled s text part [] [] r l h (inl (rest, cut)) k a all = absurd (none_cut s r part rest (subst (Lacks s) (sym k ∙ h) a) cut)
  part_spelled s text part [] [] r l h (inr (e, lacks)) k a all = subst IsSpelled (sym (e ∙ sym h ∙ k)) all.0
  part_spelled s text part [] (y ∷ ys) r l h (inl (rest, cut)) k a all =
      let same = one_cut s text part rest y k.0 (subst (λ (u : List ℕ). IsCut s u part rest) (sym h) cut) k.1 in
      subst IsSpelled (sym same.0) all.0
  part_spelled s text part [] (y ∷ ys) r l h (inr (e, lacks)) k a all = absurd (none_cut s text y k.0 (subst (Lacks s) (sym h) lacks) k.1)
  part_spelled s text part (x ∷ xs) [] r l h at k a all = absurd (none_cut s text x h.0 (subst (Lacks s) (sym k) a) h.1)
  part_spelled s text part (x ∷ xs) (y ∷ ys) r l h at k a all =
      let same = one_cut s text x h.0 y k.0 h.1 k.1 in
      part_spelled s k.0 part xs ys r l (subst (λ (u : List ℕ). Begins s u xs r) same.1 h.2) at k.2 a all.1

  meant_or_strange : (region : List ℕ) (p : Proposition ℕ) → IsMeant of region p → IsStrange of region → ⊥
  meant_or_strange region p (inl h) s = s.other h.0
  meant_or_strange region p (inr h) s =
      let c : Conjoins of region p = h.1 in
      let all : AllByRecursion IsSpelled (c.between.front ++ (c.between.last ∷ [])) = subst (AllByRecursion IsSpelled) c.between.parts_are (all_spelled c.texts c.pieces c.spelled) in
      part_spelled (codes " && ") region s.piece s.between.front c.between.front s.between.last c.between.last s.between.begins s.between.part_is c.between.begins c.between.ends all s.unspelled

-- ---- lines

module _ (of : List ℕ → Option Piece) (names : List (List ℕ)) where
  one_region : (line : List ℕ) (s t : Saying) → Says names line s → Says names line t → region_of s ≡ region_of t
  one_region line (Loop p r b) (Loop q u c) h k = (one_loop line p q r u (bounds_text names b) (bounds_text names c) h.0 k.0).1
  one_region line (Loop p r b) (Alarm q j u) h k = absurd (not_both line p q r (bounds_text names b) u j h.0 k)
  one_region line (Alarm p i r) (Loop q u c) h k = absurd (not_both line q p u (bounds_text names c) r i k.0 h)
  one_region line (Alarm p i r) (Alarm q j u) h k = (one_alarm line p q i j r u h k).2

  -- what the line of an entry says, with the formula of its region
  record IsSaid (line : List ℕ) : Type 0 where
    saying : Saying
    says : Says names line saying
    meaning : Proposition ℕ
    meant : IsMeant of (region_of saying) meaning

  said : (line : List ℕ) (e : Entry) → IsEntry of names line e → IsSaid line
  said line (entry.Loop l) h = record { saying = Loop l.place h.0 l.bounds; says = h.1; meaning = formula l.region; meant = h.2 }
  said line (entry.Alarm a) h = record { saying = Alarm a.place a.kind h.0; says = h.1; meaning = formula a.region; meant = h.2 }

  one_entry : (line : List ℕ) (e f : Entry) → IsEntry of names line e → IsEntry of names line f → AreEntriesAlike e f
  one_entry line (entry.Loop l) (entry.Loop m) h k =
      let one = one_loop line l.place m.place h.0 k.0 (bounds_text names l.bounds) (bounds_text names m.bounds) h.1.0 k.1.0 in
      record {
        place = one.0;
        region = one_formula of k.0 (formula l.region) (formula m.region) (subst (λ (r : List ℕ). IsMeant of r (formula l.region)) one.1 h.2) k.2;
        bounds = one_bounds names l.bounds m.bounds h.1.1 k.1.1 one.2;
      }
  one_entry line (entry.Loop l) (entry.Alarm b) h k = not_both line l.place b.place h.0 (bounds_text names l.bounds) k.0 b.kind h.1.0 k.1
  one_entry line (entry.Alarm a) (entry.Loop m) h k = not_both line m.place a.place k.0 (bounds_text names m.bounds) h.0 a.kind k.1.0 h.1
  one_entry line (entry.Alarm a) (entry.Alarm b) h k =
      let one = one_alarm line a.place b.place a.kind b.kind h.0 k.0 h.1 k.1 in
      record {
        place = one.0;
        kind = one.1;
        region = one_formula of k.0 (formula a.region) (formula b.region) (subst (λ (r : List ℕ). IsMeant of r (formula a.region)) one.2 h.2) k.2;
      }

  -- ---- where reading ends

  -- at the end of the text, or at a line that says no entry
  abbrev IsEnd : List ℕ → Type 0
  IsEnd rest = (rest ≡ []) ⊎ (HasNoForm names rest ⊎ HasNoFormula of names rest)

  no_entry : (rest line behind : List ℕ) (e : Entry) → IsEnd rest → IsCut (codes "\n") rest line behind → IsEntry of names line e → ⊥
  no_entry rest line behind e (inl none) cut h = no_cut line behind (subst (λ (u : List ℕ). IsCut (codes "\n") u line behind) none cut)
  no_entry rest line behind e (inr (inl (some, inl lacks))) cut h = none_cut (codes "\n") rest line behind lacks cut
  no_entry rest line behind e (inr (inl (some, inr f))) cut h =
      let same = one_cut (codes "\n") rest line behind f.0 f.1 cut f.2 in
      let s : IsSaid line = said line e h in
      f.3 s.saying (subst (λ (u : List ℕ). Says names u s.saying) same.0 s.says)
  no_entry rest line behind e (inr (inr f)) cut h =
      let same = one_cut (codes "\n") rest line behind f.0 f.1 cut f.3 in
      let s : IsSaid line = said line e h in
      let region : region_of s.saying ≡ region_of f.2 = one_region f.0 s.saying f.2 (subst (λ (u : List ℕ). Says names u s.saying) same.0 s.says) f.4 in
      meant_or_strange of (region_of f.2) s.meaning (subst (λ (r : List ℕ). IsMeant of r s.meaning) region s.meant) f.5

  form_or_formula : (rest : List ℕ) → HasNoForm names rest → HasNoFormula of names rest → ⊥
  form_or_formula rest (some, inl lacks) f = none_cut (codes "\n") rest f.0 f.1 lacks f.3
  form_or_formula rest (some, inr g) f =
      let same = one_cut (codes "\n") rest f.0 f.1 g.0 g.1 f.3 g.2 in
      g.3 f.2 (subst (λ (u : List ℕ). Says names u f.2) same.0 f.4)

  -- two readings of a text, each up to an end
  record AreOne (xs ys : List (List ℕ)) (es fs : List Entry) (r t : List ℕ) : Type 0 where
    lines : length xs ≡ length ys
    entries : ArePairs AreEntriesAlike es fs
    rest : r ≡ t

  one_reading : (text : List ℕ) (xs ys : List (List ℕ)) (es fs : List Entry) (r t : List ℕ) → Begins (codes "\n") text xs r → Begins (codes "\n") text ys t → AreEntries of names xs es → AreEntries of names ys fs
      → IsEnd r → IsEnd t → AreOne xs ys es fs r t
  one_reading text [] [] [] [] r t h k a b c d = record { lines = refl; entries = tt; rest = sym h ∙ k }
  one_reading text [] [] [] (f ∷ fs) r t h k a b c d = absurd b
  one_reading text [] [] (e ∷ es) fs r t h k a b c d = absurd a
  one_reading text [] (y ∷ ys) es [] r t h k a b c d = absurd b
  one_reading text [] (y ∷ ys) es (f ∷ fs) r t h k a b c d = absurd (no_entry text y k.0 f (subst IsEnd (sym h) c) k.1 b.0)
  one_reading text (x ∷ xs) ys [] fs r t h k a b c d = absurd a
  one_reading text (x ∷ xs) [] (e ∷ es) fs r t h k a b c d = absurd (no_entry text x h.0 e (subst IsEnd (sym k) d) h.1 a.0)
  one_reading text (x ∷ xs) (y ∷ ys) (e ∷ es) [] r t h k a b c d = absurd b
  one_reading text (x ∷ xs) (y ∷ ys) (e ∷ es) (f ∷ fs) r t h k a b c d =
      let same = one_cut (codes "\n") text x h.0 y k.0 h.1 k.1 in
      let more : AreOne xs ys es fs r t = one_reading k.0 xs ys es fs r t (subst (λ (u : List ℕ). Begins (codes "\n") u xs r) same.1 h.2) k.2 a.1 b.1 c d in
      record {
        lines = ap suc more.lines;
        entries = (one_entry y e f (subst (λ (u : List ℕ). IsEntry of names u e) same.0 a.0) b.0, more.entries);
        rest = more.rest;
      }

  -- ---- texts

  one_header : (m n : Mode) (r s : List ℕ) → header m ++ r ≡ header n ++ s → (m ≡ n) × (r ≡ s)
  one_header Stop Stop r s e = (refl, append_cancel_left (header Stop) r s e)
  one_header Wrap Wrap r s e = (refl, append_cancel_left (header Wrap) r s e)
  one_header Stop Wrap r s e = let byte : 115 ≡ 119 = ap (λ t. get_or t 22 0) e in absurd (omega (arith, byte))
  one_header Wrap Stop r s e = let byte : 119 ≡ 115 = ap (λ t. get_or t 22 0) e in absurd (omega (arith, byte))

  record AreOneText (m n : Mode) (xs ys : List (List ℕ)) (es fs : List Entry) (r t : List ℕ) : Type 0 where
    mode : m ≡ n
    read : AreOne xs ys es fs r t

  one_text : (bytes : List ℕ) (m n : Mode) (xs ys : List (List ℕ)) (es fs : List Entry) (r t : List ℕ) → AreRead of names bytes m xs es r → AreRead of names bytes n ys fs t → IsEnd r → IsEnd t
      → AreOneText m n xs ys es fs r t
  one_text bytes m n xs ys es fs r t h k c d =
      let head = one_header m n h.behind k.behind (sym h.whole ∙ k.whole) in
      record { mode = head.0; read = one_reading k.behind xs ys es fs r t (subst (λ (u : List ℕ). Begins (codes "\n") u xs r) head.1 h.begins) k.begins h.said k.said c d }

  pub one_certificate : (bytes : List ℕ) (c d : Certificate) → SpellsCertificate of names bytes c → SpellsCertificate of names bytes d → AreCertificatesAlike c d
  one_certificate bytes c d h k =
      let one = one_text bytes c.mode d.mode h.lines k.lines h.entries k.entries [] [] h.read k.read (inl refl) (inl refl) in
      record {
        mode = one.mode;
        loops =
            subst (λ (xs : List LoopLine). ArePairs AreLoopsAlike xs d.loops.items) (sym h.loops)
            (subst (ArePairs AreLoopsAlike (loops_of h.entries)) (sym k.loops) (loops_alike h.entries k.entries one.read.entries));
        alarms =
            subst (λ (xs : List AlarmLine). ArePairs AreAlarmsAlike xs d.alarms.items) (sym h.alarms)
            (subst (ArePairs AreAlarmsAlike (alarms_of h.entries)) (sym k.alarms) (alarms_alike h.entries k.entries one.read.entries));
      }

  -- ---- faults

  -- some lines are read, up to an end with this number
  record IsStopped (bytes : List ℕ) (n : ℕ) (rest : List ℕ) : Type 0 where
    left : IsLeft of names bytes n rest
    end : IsEnd rest

  one_stop : (bytes : List ℕ) (m n : ℕ) (r t : List ℕ) → IsStopped bytes m r → IsStopped bytes n t → (m ≡ n) × (r ≡ t)
  one_stop bytes m n r t h k =
      let one = one_text bytes h.left.mode k.left.mode h.left.lines k.left.lines h.left.entries k.left.entries r t h.left.read k.left.read h.end k.end in
      (h.left.number ∙ ap (λ (l : ℕ). l + 2) one.read.lines ∙ sym k.left.number, one.read.rest)

  by_form : (bytes : List ℕ) (n : ℕ) → (f : HasFault of names bytes (Line n)) → IsStopped bytes n f.0
  by_form bytes n f = record { left = f.1; end = inr (inl f.2) }

  by_formula : (bytes : List ℕ) (n : ℕ) → (f : HasFault of names bytes (Test n)) → IsStopped bytes n f.0
  by_formula bytes n f = record { left = f.1; end = inr (inr f.2) }

  short_or_long : (bytes : List ℕ) → length bytes ≤ certificate_bytes → certificate_bytes < length bytes → ⊥
  short_or_long bytes h k = omega (arith, h, k)

  pub one_fault : (bytes : List ℕ) (f g : CertificateFault) → HasFault of names bytes f → HasFault of names bytes g → f ≡ g
  one_fault bytes TooLong TooLong h k = refl
  one_fault bytes TooLong Header h k = absurd (short_or_long bytes k.0 h)
  one_fault bytes TooLong (Line n) h k = absurd (short_or_long bytes k.1.read.short h)
  one_fault bytes TooLong (Test n) h k = absurd (short_or_long bytes k.1.read.short h)
  one_fault bytes Header TooLong h k = absurd (short_or_long bytes h.0 k)
  one_fault bytes Header Header h k = refl
  one_fault bytes Header (Line n) h k = absurd (h.1 k.1.mode k.1.read.behind k.1.read.whole)
  one_fault bytes Header (Test n) h k = absurd (h.1 k.1.mode k.1.read.behind k.1.read.whole)
  one_fault bytes (Line m) TooLong h k = absurd (short_or_long bytes h.1.read.short k)
  one_fault bytes (Line m) Header h k = absurd (k.1 h.1.mode h.1.read.behind h.1.read.whole)
  one_fault bytes (Line m) (Line n) h k = ap (λ (x : ℕ). Line x) (one_stop bytes m n h.0 k.0 (by_form bytes m h) (by_form bytes n k)).0
  one_fault bytes (Line m) (Test n) h k =
      absurd (form_or_formula k.0 (subst (HasNoForm names) (one_stop bytes m n h.0 k.0 (by_form bytes m h) (by_formula bytes n k)).1 h.2) k.2)
  one_fault bytes (Test m) TooLong h k = absurd (short_or_long bytes h.1.read.short k)
  one_fault bytes (Test m) Header h k = absurd (k.1 h.1.mode h.1.read.behind h.1.read.whole)
  one_fault bytes (Test m) (Line n) h k =
      absurd (form_or_formula h.0 (subst (HasNoForm names) (sym (one_stop bytes m n h.0 k.0 (by_formula bytes m h) (by_form bytes n k)).1) k.2) h.2)
  one_fault bytes (Test m) (Test n) h k = ap (λ (x : ℕ). Test x) (one_stop bytes m n h.0 k.0 (by_formula bytes m h) (by_formula bytes n k)).0

  -- nothing is left of a text that spells a certificate
  nothing_left : (bytes : List ℕ) (c : Certificate) (n : ℕ) (rest : List ℕ) → SpellsCertificate of names bytes c → IsStopped bytes n rest → rest ≡ []
  nothing_left bytes c n rest h k =
      sym (one_text bytes c.mode k.left.mode h.lines k.left.lines h.entries k.left.entries [] rest h.read k.left.read (inl refl) k.end).read.rest

  pub certificate_or_fault : (bytes : List ℕ) (c : Certificate) (f : CertificateFault) → SpellsCertificate of names bytes c → HasFault of names bytes f → ⊥
  certificate_or_fault bytes c TooLong h k = short_or_long bytes h.read.short k
  certificate_or_fault bytes c Header h k = k.1 c.mode h.read.behind h.read.whole
  certificate_or_fault bytes c (Line n) h k = k.2.0 (nothing_left bytes c n k.0 h (by_form bytes n k))
  certificate_or_fault bytes c (Test n) h k =
      no_cut k.2.0 k.2.1 (subst (λ (u : List ℕ). IsCut (codes "\n") u k.2.0 k.2.1) (nothing_left bytes c n k.0 h (by_formula bytes n k)) k.2.3)
