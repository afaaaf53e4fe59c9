-- Lines that are read, one after another.
use Rattle.std.proofs.Common.{◌≡◌, ◌≢◌, ℕ, ◌+◌, ◌≤◌, List, [], ◌∷◌, ◌++◌, codes, length, length-append, refl, sym, ap, subst, ◌∙◌, arith}
use Rattle.std.specs.Prelude.{Option, Some, None, MatchOption, Err}
use Rattle.fam_outer.specs.declared.faults.Place.{Place}
use Rattle.fam_outer.specs.declared.refusal.Refusal.TheVariants.{Fault}
use Rattle.c_tree.specs.declared.tree.Kind.{Kind}
use Rattle.c_tree.specs.declared.tree.Mode.{Mode}
use Rattle.c_tree.specs.declared.tree.Mode.TheVariants as modes
use Rattle.leaf_domain.specs.declared.range.Range.{Range}
use Rattle.lifted_analysis.specs.declared.lines.LoopLine.{LoopLine}
use Rattle.certificate_format.specs.declared.literals.Piece.{Piece}
use Rattle.certificate_format.specs.declared.certificates.AlarmLine.{AlarmLine}
use Rattle.certificate_format.specs.declared.certificates.CertificateFault.TheVariants as faults
use Rattle.certificate_format.specs.declared.certificates.Entry.{Entry}
use Rattle.certificate_format.specs.declared.certificates.Entry.TheVariants as entry
use Rattle.certificate_format.specs.Bounds.{bounds_text, AreIntBounds}
use Rattle.certificate_format.specs.Cuts.{IsCut, Begins}
use Rattle.certificate_format.specs.Lines.{Loop, Alarm, Says, IsLoopText, IsAlarmLine}
use Rattle.certificate_format.specs.Regions.{IsStrange}
use Rattle.certificate_format.specs.Certificates.{IsEntry, AreEntries, loops_of, alarms_of, header, IsLineRead}
use Rattle.certificate_format.proofs.Pieces.{begins_more}
use Rattle.certificate_format.proofs.Shapes.{no_leaf, no_saying}

-- ---- one line

pub loop_without_leaf : (of : List ℕ → Option Piece) (names : List (List ℕ)) (n : ℕ) (p : Place) (r l : List ℕ) → ((b : Option (List Range)) → AreIntBounds names b → l ≢ bounds_text names b)
    → (line : List ℕ) → IsLoopText line p r l → IsLineRead of names line n (Err (Fault (faults.Line n)))
loop_without_leaf of names n p r l none line a = (refl, no_leaf names line p r l a none)

loop_says : (names : List (List ℕ)) (line : List ℕ) (p : Place) (r l : List ℕ) (b : Option (List Range)) → IsLoopText line p r l → AreIntBounds names b → l ≡ bounds_text names b → Says names line (Loop p r b)
loop_says names line p r l b a bounds is = (subst (λ v. IsLoopText line p r v) is a, bounds)

pub strange_loop : (of : List ℕ → Option Piece) (names : List (List ℕ)) (n : ℕ) (p : Place) (r l : List ℕ) (b : Option (List Range)) → AreIntBounds names b → l ≡ bounds_text names b → IsStrange of r
    → (line : List ℕ) → IsLoopText line p r l → IsLineRead of names line n (Err (Fault (faults.Test n)))
strange_loop of names n p r l b bounds is strange line a = (refl, (Loop p r b, loop_says names line p r l b a bounds is, strange))

pub strange_alarm : (of : List ℕ → Option Piece) (names : List (List ℕ)) (n : ℕ) (p : Place) (k : Kind) (r : List ℕ) → IsStrange of r → (line : List ℕ) → IsAlarmLine line p k r → IsLineRead of names line n (Err (Fault (faults.Test n)))
strange_alarm of names n p k r strange line a = (refl, (Alarm p k r, a, strange))

pub no_line : (of : List ℕ → Option Piece) (names : List (List ℕ)) (line : List ℕ) (n : ℕ) → ((p : Place) (r l : List ℕ) → ¬ (IsLoopText line p r l)) → ((p : Place) (k : Kind) (r : List ℕ) → ¬ (IsAlarmLine line p k r))
    → IsLineRead of names line n (Err (Fault (faults.Line n)))
no_line of names line n loops alarms = (refl, no_saying names line loops alarms)

-- ---- entries

pub entries_more : (of : List ℕ → Option Piece) (names : List (List ℕ)) (lines : List (List ℕ)) (entries : List Entry) (line : List ℕ) (e : Entry) → AreEntries of names lines entries → IsEntry of names line e → AreEntries of names (lines ++ (line ∷ [])) (entries ++ (e ∷ []))
entries_more of names [] [] line e h k = (k, tt)
entries_more of names [] (f ∷ entries) line e h k = absurd h
entries_more of names (l ∷ lines) [] line e h k = absurd h
entries_more of names (l ∷ lines) (f ∷ entries) line e h k = (h.0, entries_more of names lines entries line e h.1 k)

loops_append : (es fs : List Entry) → loops_of (es ++ fs) ≡ loops_of es ++ loops_of fs
loops_append [] fs = refl
loops_append (entry.Loop l ∷ es) fs = ap (λ v. l ∷ v) (loops_append es fs)
loops_append (entry.Alarm a ∷ es) fs = loops_append es fs

alarms_append : (es fs : List Entry) → alarms_of (es ++ fs) ≡ alarms_of es ++ alarms_of fs
alarms_append [] fs = refl
alarms_append (entry.Loop l ∷ es) fs = alarms_append es fs
alarms_append (entry.Alarm a ∷ es) fs = ap (λ v. a ∷ v) (alarms_append es fs)

-- ---- the lines up to a rest

-- the lines before the rest are read, and line n begins there
pub record IsReached (of : List ℕ → Option Piece) (names : List (List ℕ)) (text rest : List ℕ) (n : ℕ) (loops : List LoopLine) (alarms : List AlarmLine) : Type 0 where
  pub lines : List (List ℕ)
  pub entries : List Entry
  pub begins : Begins (codes "\n") text lines rest
  pub said : AreEntries of names lines entries
  pub loops_are : loops ≡ loops_of entries
  pub alarms_are : alarms ≡ alarms_of entries
  pub number : n ≡ length lines + 2
  pub room : length lines + length rest ≤ length text

pub reached_more : (of : List ℕ → Option Piece) (names : List (List ℕ)) (text rest : List ℕ) (n : ℕ) (loops more_loops : List LoopLine) (alarms more_alarms : List AlarmLine) (line behind : List ℕ) (e : Entry)
    → IsReached of names text rest n loops alarms → IsCut (codes "\n") rest line behind → IsEntry of names line e → more_loops ≡ loops ++ loops_of (e ∷ []) → more_alarms ≡ alarms ++ alarms_of (e ∷ [])
    → IsReached of names text behind (n + 1) more_loops more_alarms
reached_more of names text rest n loops more_loops alarms more_alarms line behind e h c is f g = record {
  lines = h.lines ++ (line ∷ []);
  entries = h.entries ++ (e ∷ []);
  begins = begins_more (codes "\n") text h.lines rest line behind h.begins c;
  said = entries_more of names h.lines h.entries line e h.said is;
  loops_are = f ∙ ap (λ v. v ++ loops_of (e ∷ [])) h.loops_are ∙ sym (loops_append h.entries (e ∷ []));
  alarms_are = g ∙ ap (λ v. v ++ alarms_of (e ∷ [])) h.alarms_are ∙ sym (alarms_append h.entries (e ∷ []));
  number = let l = length-append h.lines (line ∷ []) in omega (arith, h.number, l);
  room =
      let l = length-append h.lines (line ∷ []) in
      let r : length rest ≡ length line + (length (codes "\n") + length behind) = ap length c.whole ∙ length-append line (codes "\n" ++ behind) ∙ ap (λ m. length line + m) (length-append (codes "\n") behind) in
      omega (arith, h.room, l, r);
}

-- ---- answers by an option

pub told_none : {A P : Type 0} (Q : A → Type 0) (o : Option A) → o ≡ None → MatchOption o P Q → P
told_none {A = A} {P = P} Q o e h = subst (λ (x : Option A). MatchOption x P Q) e h

pub told_some : {A : Type 0} (P : Type 0) (Q : A → Type 0) (o : Option A) (x : A) → o ≡ Some x → MatchOption o P Q → Q x
told_some {A = A} P Q o x e h = subst (λ (y : Option A). MatchOption y P Q) e h

-- ---- the first line

pub no_header : (bytes : List ℕ) → ((rest : List ℕ) → bytes ≢ codes "famlint certificate 1 stop\n" ++ rest) → ((rest : List ℕ) → bytes ≢ codes "famlint certificate 1 wrap\n" ++ rest) → (mode : Mode) (rest : List ℕ) → bytes ≢ header mode ++ rest
no_header bytes a b modes.Stop rest e = a rest e
no_header bytes a b modes.Wrap rest e = b rest e
