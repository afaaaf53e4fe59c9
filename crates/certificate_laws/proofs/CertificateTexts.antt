-- Each text spells a certificate, or has a fault.
use Rattle.std.proofs.Common.{◌≡◌, ◌≢◌, ◌⊎◌, inl, inr, ℕ, suc, ◌+◌, ◌<◌, ◌≤◌, ◌^◌, List, [], ◌∷◌, ◌++◌, codes, length, length-append, refl, sym, ap, subst, ◌∙◌, arith}
use Rattle.std.specs.Prelude.{Option}
use Rattle.std.specs.Global.{Vec}
use denote.RawPtr.{null_ptr}
use Rattle.fam_outer.specs.Limits.{certificate_bytes}
use Rattle.c_tree.specs.declared.tree.Mode.{Mode}
use Rattle.c_tree.specs.declared.tree.Mode.TheVariants.{Stop, Wrap}
use Rattle.cpp_conditions.specs.View.{formula}
use Rattle.certificate_format.specs.declared.literals.Piece.{Piece}
use Rattle.certificate_format.specs.declared.certificates.Certificate.{Certificate}
use Rattle.certificate_format.specs.declared.certificates.CertificateFault.{CertificateFault}
use Rattle.certificate_format.specs.declared.certificates.CertificateFault.TheVariants.{TooLong, Header, Line, Test}
use Rattle.certificate_format.specs.declared.certificates.Entry.{Entry}
use Rattle.certificate_format.specs.declared.certificates.Entry.TheVariants as entry
use Rattle.certificate_format.specs.Certificates.{IsEntry, AreEntries, loops_of, alarms_of, header, SpellsCertificate, IsLeft, HasNoForm, HasNoFormula, HasFault}
use Rattle.certificate_format.specs.Cuts.{Lacks, IsCut, Begins}
use Rattle.certificate_format.specs.Lines.{Saying, Loop, Alarm, region_of, Says}
use Rattle.certificate_format.specs.Regions.{IsMeant, IsStrange}
use Rattle.certificate_laws.proofs.Deciding.{up_to_or_above, HasFront, has_front}
use Rattle.certificate_laws.proofs.LineForms.{HasSaying, has_saying}
use Rattle.certificate_laws.proofs.Parting.{HasParts, has_parts, few_parts}
use Rattle.certificate_laws.proofs.RegionTexts.{heap, formula_with, formula-with, HasMeaning, meant_or_strange}

-- ---- values

abbrev vec_with : {X : Type 0} (items : List X) → length items < 2 ^ 63 → Vec X
vec_with items small = record {
  ptr = null_ptr;
  len = length items;
  cap = length items;
  alloc = heap;
  items = items;
  ok = (refl, omega arith);
  small = small;
}

few_loops : (entries : List Entry) → length (loops_of entries) ≤ length entries
few_loops [] = omega arith
few_loops (entry.Loop l ∷ entries) = let h = few_loops entries in omega (arith, h)
few_loops (entry.Alarm a ∷ entries) = let h = few_loops entries in omega (arith, h)

few_alarms : (entries : List Entry) → length (alarms_of entries) ≤ length entries
few_alarms [] = omega arith
few_alarms (entry.Loop l ∷ entries) = let h = few_alarms entries in omega (arith, h)
few_alarms (entry.Alarm a ∷ entries) = let h = few_alarms entries in omega (arith, h)

module _ (of : List ℕ → Option Piece) (names : List (List ℕ)) where
  -- ---- lines

  -- an entry that the line says
  record HasEntry (line : List ℕ) : Type 0 where
    said : Entry
    is : IsEntry of names line said

  entry_with : (line : List ℕ) (s : Saying) → Says names line s → HasMeaning of (region_of s) → HasEntry line
  entry_with line (Loop place region bounds) says m = record {
    said = entry.Loop (record { place = place; region = formula_with m.meaning; bounds = bounds });
    is = (region, says, subst (IsMeant of region) (sym (formula-with m.meaning)) m.meant);
  }
  entry_with line (Alarm place kind region) says m = record {
    said = entry.Alarm (record { place = place; kind = kind; region = formula_with m.meaning });
    is = (region, says, subst (IsMeant of region) (sym (formula-with m.meaning)) m.meant);
  }

  -- lines of the text are read, up to its end or to a line that has a fault
  record HasReading (t : List ℕ) : Type 0 where
    lines : List (List ℕ)
    entries : List Entry
    rest : List ℕ
    begins : Begins (codes "\n") t lines rest
    said : AreEntries of names lines entries
    few : length entries ≤ length lines
    end : (rest ≡ []) ⊎ (HasNoForm names rest ⊎ HasNoFormula of names rest)

  -- no line is read
  stop_at : (t : List ℕ) → HasNoForm names t ⊎ HasNoFormula of names t → HasReading t
  stop_at t fault = record { lines = []; entries = []; rest = t; begins = refl; said = tt; few = omega arith; end = inr fault }

  some_line : (t line behind : List ℕ) → IsCut (codes "\n") t line behind → t ≢ []
  some_line t line behind cut none =
      let l : length t ≡ length line + suc (length behind) = ap length cut.whole ∙ length-append line (codes "\n" ++ behind) in
      let e : length t ≡ 0 = ap length none in
      omega (arith, l, e)

  read_more : (t line behind : List ℕ) → IsCut (codes "\n") t line behind → HasEntry line → HasReading behind → HasReading t
  read_more t line behind cut e h =
      let few = h.few in
      record {
        lines = line ∷ h.lines;
        entries = e.said ∷ h.entries;
        rest = h.rest;
        begins = (behind, cut, h.begins);
        said = (e.is, h.said);
        few = omega (arith, few);
        end = h.end;
      }

  read_region : (t line behind : List ℕ) → IsCut (codes "\n") t line behind → HasReading behind → (s : HasSaying names line) → HasMeaning of (region_of s.saying) ⊎ IsStrange of (region_of s.saying) → HasReading t
  read_region t line behind cut h s (inl m) = read_more t line behind cut (entry_with line s.saying s.says m) h
  read_region t line behind cut h s (inr strange) = stop_at t (inr (line, behind, s.saying, cut, s.says, strange))

  read_line : (t line behind : List ℕ) → IsCut (codes "\n") t line behind → HasReading behind → Dec (HasSaying names line) → HasReading t
  read_line t line behind cut h (yes s) = read_region t line behind cut h s (meant_or_strange of (region_of s.saying))
  read_line t line behind cut h (no none) =
      stop_at t (inl (some_line t line behind cut, inr (line, behind, cut, λ saying says. none (record { saying = saying; says = says }))))

  read_last : (t : List ℕ) → Lacks (codes "\n") t → HasReading t
  read_last [] lacks = record { lines = []; entries = []; rest = []; begins = refl; said = tt; few = omega arith; end = inl refl }
  read_last (b ∷ t) lacks = stop_at (b ∷ t) (inl (λ none. let e : length (b ∷ t) ≡ 0 = ap length none in omega (arith, e), inl lacks))

  read_parts : (t : List ℕ) (parts : List (List ℕ)) (last : List ℕ) → Begins (codes "\n") t parts last → Lacks (codes "\n") last → HasReading t
  read_parts t [] last begins lacks = read_last t (subst (Lacks (codes "\n")) (sym begins) lacks)
  read_parts t (line ∷ parts) last (behind, cut, begins) lacks = read_line t line behind cut (read_parts behind parts last begins lacks) (has_saying names line)

  read_by : (t : List ℕ) → HasParts (codes "\n") t → HasReading t
  read_by t h = read_parts t h.parts h.last h.begins h.ends

  has_reading : (t : List ℕ) → HasReading t
  has_reading t = read_by t (has_parts (codes "\n") (omega arith) t)

  -- ---- texts

  -- the certificate or the fault of the text
  pub data HasAnswer (bytes : List ℕ) : Type 0 where
    spelled : (c : Certificate) → SpellsCertificate of names bytes c → HasAnswer bytes
    refused : (f : CertificateFault) → HasFault of names bytes f → HasAnswer bytes

  module _ (bytes : List ℕ) (short : length bytes ≤ certificate_bytes) (mode : Mode) (behind : List ℕ) (whole : bytes ≡ header mode ++ behind) where
    few_entries : (h : HasReading behind) → length h.entries < 2 ^ 63
    few_entries h =
        let few = h.few in
        let most : length h.lines ≤ length behind = few_parts (codes "\n") (omega arith) behind h.lines h.rest h.begins in
        let all : length bytes ≡ length (header mode) + length behind = ap length whole ∙ length-append (header mode) behind in
        omega (arith, few, most, all, short)

    spelled_whole : (h : HasReading behind) → h.rest ≡ [] → HasAnswer bytes
    spelled_whole h none =
        let small = few_entries h in
        let loops = few_loops h.entries in
        let alarms = few_alarms h.entries in
        spelled (record { mode = mode; loops = vec_with (loops_of h.entries) (omega (arith, small, loops)); alarms = vec_with (alarms_of h.entries) (omega (arith, small, alarms)) })
        (record {
          lines = h.lines;
          entries = h.entries;
          read = record { behind = behind; short = short; whole = whole; begins = subst (Begins (codes "\n") behind h.lines) none h.begins; said = h.said };
          loops = refl;
          alarms = refl;
        })

    left : (h : HasReading behind) → IsLeft of names bytes (length h.lines + 2) h.rest
    left h = record {
      mode = mode;
      lines = h.lines;
      entries = h.entries;
      read = record { behind = behind; short = short; whole = whole; begins = h.begins; said = h.said };
      number = refl;
    }

    answer_by : (h : HasReading behind) → (h.rest ≡ []) ⊎ (HasNoForm names h.rest ⊎ HasNoFormula of names h.rest) → HasAnswer bytes
    answer_by h (inl none) = spelled_whole h none
    answer_by h (inr (inl form)) = refused (Line (length h.lines + 2)) (h.rest, left h, form)
    answer_by h (inr (inr formula)) = refused (Test (length h.lines + 2)) (h.rest, left h, formula)

    answer_behind : HasAnswer bytes
    answer_behind = let h = has_reading behind in answer_by h h.end

  no_header : (bytes : List ℕ) → ¬ (HasFront (header Stop) bytes) → ¬ (HasFront (header Wrap) bytes) → (mode : Mode) (behind : List ℕ) → bytes ≢ header mode ++ behind
  no_header bytes none other Stop behind e = none (behind, e)
  no_header bytes none other Wrap behind e = other (behind, e)

  by_header : (bytes : List ℕ) → length bytes ≤ certificate_bytes → Dec (HasFront (header Stop) bytes) → Dec (HasFront (header Wrap) bytes) → HasAnswer bytes
  by_header bytes short (yes (behind, e)) d = answer_behind bytes short Stop behind e
  by_header bytes short (no none) (yes (behind, e)) = answer_behind bytes short Wrap behind e
  by_header bytes short (no none) (no other) = refused Header (short, no_header bytes none other)

  by_length : (bytes : List ℕ) → (length bytes ≤ certificate_bytes) ⊎ (certificate_bytes < length bytes) → HasAnswer bytes
  by_length bytes (inl short) = by_header bytes short (has_front (header Stop) bytes) (has_front (header Wrap) bytes)
  by_length bytes (inr long) = refused TooLong long

  pub has_answer : (bytes : List ℕ) → HasAnswer bytes
  has_answer bytes = by_length bytes (up_to_or_above certificate_bytes (length bytes))

read_or_refused : (of : List ℕ → Option Piece) (names : List (List ℕ)) (bytes : List ℕ) → HasAnswer of names bytes
    → ((c : Certificate) × SpellsCertificate of names bytes c) ⊎ ((fault : CertificateFault) × HasFault of names bytes fault)
read_or_refused of names bytes (spelled c h) = inl (c, h)
read_or_refused of names bytes (refused fault h) = inr (fault, h)

pub each_is_read : (of : List ℕ → Option Piece) (names : List (List ℕ)) (bytes : List ℕ)
    → ((c : Certificate) × SpellsCertificate of names bytes c) ⊎ ((fault : CertificateFault) × HasFault of names bytes fault)
each_is_read of names bytes = read_or_refused of names bytes (has_answer of names bytes)
