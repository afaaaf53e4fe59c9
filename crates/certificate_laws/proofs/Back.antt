-- What is written is read back.
use Rattle.std.proofs.Common.{◌≡◌, ℕ, ◌≤◌, ℤ, List, [], ◌∷◌, ◌++◌, codes, length, map, refl, sym, ap, ap₂, subst, ◌∙◌, append_assoc}
use Rattle.std.specs.Prelude.{flat_map, Option, Result, Ok, Err}
use Rattle.std.specs.List.{AllByRecursion}
use Rattle.std.proofs.lemmas.Grind.{flat_map-append}
use Rattle.fam_outer.specs.declared.refusal.Refusal.{Refusal}
use Rattle.fam_outer.specs.declared.refusal.Refusal.TheVariants.{NoMemory, Fault}
use Rattle.c_tree.specs.declared.tree.Mode.{Mode}
use Rattle.linear_atoms.specs.declared.atoms.Atom.{Atom}
use Rattle.linear_atoms.specs.declared.atoms.Literal.{Literal}
use Rattle.linear_atoms.specs.declared.regions.Regions.{Regions}
use Rattle.linear_atoms.specs.Atoms.{AreAtoms}
use Rattle.cpp_conditions.specs.declared.models.Model.{Model}
use Rattle.cpp_conditions.specs.Numbering.{vector_at}
use Rattle.cpp_conditions.specs.Propositions.{Proposition, true_on}
use Rattle.cpp_conditions.specs.View.{formula}
use Rattle.atom_solver.specs.Solutions.{all_hold}
use Rattle.leaf_domain.specs.Leaves.{LeafMeaning, LeafLaws}
use Rattle.lifted_analysis.specs.declared.lines.LoopLine.{LoopLine}
use Rattle.alarm_report.specs.declared.alarms.FamilyAlarm.{FamilyAlarm}
use Rattle.alarm_report.specs.Invariants.{Invariant}
use Rattle.alarm_report.specs.Texts.{region_text}
use Rattle.alarm_report.specs.LeafTexts.{leaf_text}
use Rattle.certificate_format.specs.declared.literals.Piece.{Piece}
use Rattle.certificate_format.specs.declared.certificates.AlarmLine.{AlarmLine}
use Rattle.certificate_format.specs.declared.certificates.Certificate.{Certificate}
use Rattle.certificate_format.specs.declared.certificates.CertificateFault.{CertificateFault}
use Rattle.certificate_format.specs.declared.certificates.Entry.{Entry}
use Rattle.certificate_format.specs.declared.certificates.Entry.TheVariants as entry
use Rattle.certificate_format.specs.Bounds.{bounds_text}
use Rattle.fam_outer.specs.Limits.{certificate_bytes}
use Rattle.certificate_format.specs.Certificates.{AreRead, HasFault, IsEntry, AreEntries, loops_of, alarms_of, header, IsCertificateRead}
use Rattle.certificate_format.specs.Lines.{Saying, Loop, Alarm, region_of, Says, IsLoopText, IsAlarmLine}
use Rattle.certificate_format.specs.Regions.{piece_of, IsMeant, IsStrange}
use Rattle.certificate_format.proofs.Shapes.{one_loop, not_both}
use Rattle.certificate_format.specs.Texts.{loop_line, alarm_line, certificate_text}
use Rattle.certificate_laws.proofs.Naming.{HaveNames}
use Rattle.certificate_laws.specs.Laws.{AnswersBack}
use Rattle.certificate_laws.specs.ReadBack.{IsBoundsOf, SaysInvariant, SaysAlarm, SayInvariants, SayAlarms}
use Rattle.certificate_laws.specs.ReadBack as back
use Rattle.certificate_laws.specs.Written.{IsOneLine}
use Rattle.certificate_laws.proofs.Writable.{AreOver, TellsRangesAlone, IsLoopWritten, IsAlarmWritten}
use Rattle.certificate_laws.proofs.Texts.{IsInLine, region_in_line}
use Rattle.certificate_laws.proofs.Formulas.{region_says, region_known}
use Rattle.certificate_laws.proofs.Standing.{over_fit}
use Rattle.certificate_laws.proofs.Leaves.{IsToldBy, leaf_told, one_bounds}
use Rattle.certificate_laws.proofs.LineTexts as texts
use Rattle.certificate_laws.proofs.Known.{lines_text, IsKnown, whole_text, no_fault, all_read}

module _ (M : LeafMeaning) (laws : LeafLaws M) (tells : TellsRangesAlone M) (model : Model) (named : HaveNames model.features) (atoms : List Atom) (well : AreAtoms (length model.features) atoms)
    (names : List (List ℕ)) (lines : AllByRecursion IsOneLine names) (regions : Regions) where
  abbrev of : List ℕ → Option Piece
  of = piece_of model.features atoms

  abbrev region : List Literal → List ℕ
  region ls = region_text regions model.features ls

  abbrev loop_body : Invariant → List ℕ
  loop_body i = texts.loop_text i.place (region i.region.literals) (leaf_text M names i.leaf)

  abbrev alarm_body : FamilyAlarm → List ℕ
  alarm_body a = texts.alarm_text a.place a.kind (region a.region.literals)

  in_line : (ls : List Literal) → AreOver atoms ls → AllByRecursion IsInLine (region ls)
  in_line ls h = region_in_line regions model.features named ls (over_fit (length model.features) atoms ls well h)

  known : (ls : List Literal) → AreOver atoms ls → (text : List ℕ) → region ls ≡ text → ¬ (IsStrange of text)
  known ls h text e s = region_known model.features named atoms well regions ls h (subst (IsStrange of) (sym e) s)

  says_region : (ls : List Literal) → AreOver atoms ls → (text : List ℕ) (p : Proposition ℕ) → region ls ≡ text → IsMeant of text p → (values : List ℤ) → true_on (vector_at atoms values) p ≡ all_hold ls values
  says_region ls h text p e m values = region_says model.features named atoms well regions values ls p h (subst (λ t. IsMeant of t p) (sym e) m)

  -- ---- loops

  told : (i : Invariant) → IsLoopWritten M atoms names i → IsToldBy M names i.leaf
  told i h = leaf_told M laws tells names i.leaf h.valid h.variables

  own_loop : (i : Invariant) → IsLoopWritten M atoms names i → IsLoopText (loop_body i) i.place (region i.region.literals) (leaf_text M names i.leaf)
  own_loop i h = texts.loop_is i.place (region i.region.literals) (leaf_text M names i.leaf) h.place (in_line i.region.literals h.over)

  loop_spelled : (i : Invariant) → IsLoopWritten M atoms names i → (s : Saying) → Says names (loop_body i) s → ¬ (IsStrange of (region_of s))
  loop_spelled i h (Loop q r b) s = known i.region.literals h.over r (one_loop (loop_body i) i.place q (region i.region.literals) r (leaf_text M names i.leaf) (bounds_text names b) (own_loop i h) s.0).1
  loop_spelled i h (Alarm q k r) s = absurd (not_both (loop_body i) i.place q (region i.region.literals) (leaf_text M names i.leaf) r k (own_loop i h) s)

  known_loop : (i : Invariant) → IsLoopWritten M atoms names i → IsKnown of names (loop_body i)
  known_loop i h =
      let t = told i h in
      record {
        one = texts.loop_line i.place (region i.region.literals) (leaf_text M names i.leaf) h.place (in_line i.region.literals h.over) (subst IsOneLine (sym t.text) (texts.bounds_line names t.bounds lines t.fit));
        says = Loop i.place (region i.region.literals) t.bounds;
        said = (subst (λ v. IsLoopText (loop_body i) i.place (region i.region.literals) v) t.text (own_loop i h), t.fit);
        spelled = loop_spelled i h;
      }

  loop_says : (i : Invariant) (l : LoopLine) → IsLoopWritten M atoms names i → IsEntry of names (loop_body i) (entry.Loop l) → SaysInvariant M model atoms names i l
  loop_says i l h e =
      let t = told i h in
      let one = one_loop (loop_body i) i.place l.place (region i.region.literals) e.0 (leaf_text M names i.leaf) (bounds_text names l.bounds) (own_loop i h) e.1.0 in
      let same = one_bounds names t.bounds l.bounds t.fit e.1.1 (sym t.text ∙ one.2) in
      record {
        place_is = sym one.0;
        region_is = λ values valid. says_region i.region.literals h.over e.0 (formula l.region) one.1 e.2 values;
        bounds_are = subst (IsBoundsOf M names i.leaf) same t.are;
      }

  -- ---- alarms

  own_alarm : (a : FamilyAlarm) → IsAlarmWritten atoms a → IsAlarmLine (alarm_body a) a.place a.kind (region a.region.literals)
  own_alarm a h = texts.alarm_is a.place a.kind (region a.region.literals) h.place

  alarm_spelled : (a : FamilyAlarm) → IsAlarmWritten atoms a → (s : Saying) → Says names (alarm_body a) s → ¬ (IsStrange of (region_of s))
  alarm_spelled a h (Loop q r b) s = absurd (not_both (alarm_body a) q a.place r (bounds_text names b) (region a.region.literals) a.kind s.0 (own_alarm a h))
  alarm_spelled a h (Alarm q k r) s = known a.region.literals h.over r (texts.one_alarm (alarm_body a) a.place q a.kind k (region a.region.literals) r (own_alarm a h) s).2

  known_alarm : (a : FamilyAlarm) → IsAlarmWritten atoms a → IsKnown of names (alarm_body a)
  known_alarm a h = record {
    one = texts.alarm_line a.place a.kind (region a.region.literals) h.place (in_line a.region.literals h.over);
    says = Alarm a.place a.kind (region a.region.literals);
    said = own_alarm a h;
    spelled = alarm_spelled a h;
  }

  alarm_says : (a : FamilyAlarm) (l : AlarmLine) → IsAlarmWritten atoms a → IsEntry of names (alarm_body a) (entry.Alarm l) → SaysAlarm model atoms a l
  alarm_says a l h e =
      let one = texts.one_alarm (alarm_body a) a.place l.place a.kind l.kind (region a.region.literals) e.0 (own_alarm a h) e.1 in
      record {
        place_is = sym one.0;
        kind_is = sym one.1;
        region_is = λ values valid. says_region a.region.literals h.over e.0 (formula l.region) one.2 e.2 values;
      }

  -- ---- all lines

  abbrev bodies : List Invariant → List FamilyAlarm → List (List ℕ)
  bodies is alarms = map loop_body is ++ map alarm_body alarms

  alarms_known : (alarms : List FamilyAlarm) → AllByRecursion (IsAlarmWritten atoms) alarms → AllByRecursion (IsKnown of names) (map alarm_body alarms)
  alarms_known [] h = tt
  alarms_known (a ∷ alarms) h = (known_alarm a h.0, alarms_known alarms h.1)

  all_known : (is : List Invariant) (alarms : List FamilyAlarm) → AllByRecursion (IsLoopWritten M atoms names) is → AllByRecursion (IsAlarmWritten atoms) alarms → AllByRecursion (IsKnown of names) (bodies is alarms)
  all_known [] alarms h k = alarms_known alarms k
  all_known (i ∷ is) alarms h k = (known_loop i h.0, all_known is alarms h.1 k)

  alarms_say : (alarms : List FamilyAlarm) (entries : List Entry) → AllByRecursion (IsAlarmWritten atoms) alarms → AreEntries of names (map alarm_body alarms) entries → (loops_of entries ≡ []) × SayAlarms model atoms alarms (alarms_of entries)
  alarms_say [] [] h e = (refl, back.SayAlarms.no_line)
  alarms_say [] (x ∷ entries) h e = absurd e
  alarms_say (a ∷ alarms) [] h e = absurd e
  alarms_say (a ∷ alarms) (entry.Loop l ∷ entries) h e = absurd (not_both (alarm_body a) l.place a.place e.0.0 (bounds_text names l.bounds) (region a.region.literals) a.kind e.0.1.0 (own_alarm a h.0))
  alarms_say (a ∷ alarms) (entry.Alarm l ∷ entries) h e =
      let rest = alarms_say alarms entries h.1 e.1 in (rest.0, back.SayAlarms.line a alarms l (alarms_of entries) (alarm_says a l h.0 e.0) rest.1)

  all_say : (is : List Invariant) (alarms : List FamilyAlarm) (entries : List Entry) → AllByRecursion (IsLoopWritten M atoms names) is → AllByRecursion (IsAlarmWritten atoms) alarms → AreEntries of names (bodies is alarms) entries
      → SayInvariants M model atoms names is (loops_of entries) × SayAlarms model atoms alarms (alarms_of entries)
  all_say [] alarms entries h k e = let said = alarms_say alarms entries k e in (subst (SayInvariants M model atoms names []) (sym said.0) back.SayInvariants.no_line, said.1)
  all_say (i ∷ is) alarms [] h k e = absurd e
  all_say (i ∷ is) alarms (entry.Loop l ∷ entries) h k e =
      let rest = all_say is alarms entries h.1 k e.1 in (back.SayInvariants.line i is l (loops_of entries) (loop_says i l h.0 e.0) rest.0, rest.1)
  all_say (i ∷ is) alarms (entry.Alarm l ∷ entries) h k e = absurd (not_both (loop_body i) i.place l.place (region i.region.literals) (leaf_text M names i.leaf) e.0.0 l.kind (own_loop i h.0) e.0.1)

  -- ---- the text

  loop_line_is : (i : Invariant) → loop_line regions M model.features names i ≡ loop_body i ++ codes "\n"
  loop_line_is i = simp append_assoc

  alarm_line_is : (a : FamilyAlarm) → alarm_line regions model.features a ≡ alarm_body a ++ codes "\n"
  alarm_line_is a = simp append_assoc

  loops_text : (is : List Invariant) → flat_map (loop_line regions M model.features names) is ≡ lines_text (map loop_body is)
  loops_text [] = refl
  loops_text (i ∷ is) = ap₂ (λ a b. a ++ b) (loop_line_is i) (loops_text is)

  alarms_text : (alarms : List FamilyAlarm) → flat_map (alarm_line regions model.features) alarms ≡ lines_text (map alarm_body alarms)
  alarms_text [] = refl
  alarms_text (a ∷ alarms) = ap₂ (λ x y. x ++ y) (alarm_line_is a) (alarms_text alarms)

  text_is : (mode : Mode) (is : List Invariant) (alarms : List FamilyAlarm) → certificate_text regions M model.features names mode is alarms ≡ whole_text of names mode (bodies is alarms)
  text_is mode is alarms =
      ap (λ t. header mode ++ t) (ap₂ (λ a b. a ++ b) (loops_text is) (alarms_text alarms) ∙ sym (flat_map-append (λ line. line ++ codes "\n") (map loop_body is) (map alarm_body alarms)))

  pub read_back : (mode : Mode) (is : List Invariant) (alarms : List FamilyAlarm) (bytes : List ℕ) (result : Result Certificate (Refusal CertificateFault)) → AllByRecursion (IsLoopWritten M atoms names) is
      → AllByRecursion (IsAlarmWritten atoms) alarms → bytes ≡ certificate_text regions M model.features names mode is alarms → length bytes ≤ certificate_bytes → IsCertificateRead of names bytes result → AnswersBack M model atoms names mode is alarms result
  read_back mode is alarms bytes (Ok c) h k e short a =
      let text = e ∙ text_is mode is alarms in
      let r = subst (λ t. AreRead of names t c.mode a.lines a.entries []) text a.read in
      let all = all_read of names mode (bodies is alarms) c.mode a.lines a.entries (all_known is alarms h k) r in
      let said = all_say is alarms a.entries h k all.1 in
      record {
        mode_is = all.0;
        loops = subst (SayInvariants M model atoms names is) (sym a.loops) said.0;
        alarms = subst (SayAlarms model atoms alarms) (sym a.alarms) said.1;
      }
  read_back mode is alarms bytes (Err NoMemory) h k e short a = tt
  read_back mode is alarms bytes (Err (Fault fault)) h k e short a =
      let text = e ∙ text_is mode is alarms in
      no_fault of names mode (bodies is alarms) fault (all_known is alarms h k) (subst (λ t. length t ≤ certificate_bytes) text short) (subst (λ t. HasFault of names t fault) text a)
