-- Ends of ranges as forms.
use Rattle.std.proofs.Common.{◌≡◌, ℕ, zero, suc, ◌<◌, Bool, true, false, refl, ℤ, pos, negsuc, ◌+ℤ◌, ◌-ℤ◌, ◌*ℤ◌, ◌≤ℤ◌, List, [], ◌∷◌, ◌++◌, length, get_or, sym, ap, subst, ◌∙◌, arith}
use Rattle.std.specs.Prelude.{slice_index_or}
use Rattle.std.proofs.lemmas.Int.{ints}
use Rattle.cpp_conditions.specs.declared.conditions.Condition.{Condition}
use Rattle.cpp_conditions.specs.Propositions.{Proposition}
use Rattle.linear_atoms.specs.declared.atoms.Atom.{Atom}
use Rattle.linear_atoms.specs.declared.atoms.Feature.{Feature}
use Rattle.linear_atoms.specs.declared.forms.Linear.{Linear}
use Rattle.linear_atoms.specs.declared.ranges.Span.{Span}
use Rattle.linear_atoms.specs.Atoms.{IsWithin}
use Rattle.linear_atoms.specs.Forms.{form_at}
use Rattle.atom_solver.specs.Facts.{AddsAll, AddsWithin, AreMet, AreMetWithin, IsLine, IsMetWithin, IsNumber, IsSum, IsTerm}
use Rattle.atom_solver.specs.Spans.{meets, ranges}
use Rattle.atom_solver.proofs.Gathered.{rising_more, met_more}

pub line_is : (n : ℕ) (a k : ℤ) (f g c : Linear) → IsTerm n a f → IsNumber k g → IsSum f g c → IsLine n a k c
line_is n a k f g c t h s = record {
  rising = s.rising;
  value = λ vs. s.value vs ∙ ap (λ x. x +ℤ form_at g vs) (t.value vs) ∙ ap (λ x. (a *ℤ slice_index_or vs n (pos 0)) +ℤ x) (h.value vs);
}

low_at : (ss : List Span) (n : ℕ) (t : Span) (vs : List ℤ) → n < length ss → t ≡ get_or ss n t → IsWithin (ranges ss) vs → t.low ≤ℤ slice_index_or vs n (pos 0)
low_at [] n t vs h e w = absurd (omega arith)
low_at (s ∷ ss) n t [] h e w = absurd w
low_at (s ∷ ss) zero t (v ∷ vs) h e w = subst (λ x. x.low ≤ℤ v) (sym e) w.0
low_at (s ∷ ss) (suc n) t (v ∷ vs) h e w = low_at ss n t vs (omega arith) e w.2

high_at : (ss : List Span) (n : ℕ) (t : Span) (vs : List ℤ) → n < length ss → t ≡ get_or ss n t → IsWithin (ranges ss) vs → slice_index_or vs n (pos 0) ≤ℤ t.high
high_at [] n t vs h e w = absurd (omega arith)
high_at (s ∷ ss) n t [] h e w = absurd w
high_at (s ∷ ss) zero t (v ∷ vs) h e w = subst (λ x. v ≤ℤ x.high) (sym e) w.1
high_at (s ∷ ss) (suc n) t (v ∷ vs) h e w = high_at ss n t vs (omega arith) e w.2

over : (x l : ℤ) → l ≤ℤ x → pos 0 ≤ℤ ((pos 1 *ℤ x) +ℤ (pos 0 -ℤ l))
over x l h = grind (arith, ints)

under : (x u : ℤ) → x ≤ℤ u → pos 0 ≤ℤ ((negsuc 0 *ℤ x) +ℤ u)
under x u h = grind (arith, ints)

pub low_met : (ss : List Span) (n : ℕ) (t : Span) (c : Linear) → n < length ss → t ≡ get_or ss n t → IsLine n (pos 1) (pos 0 -ℤ t.low) c → IsMetWithin (ranges ss) c
low_met ss n t c h e l = record {
  rising = l.rising;
  met = λ vs w. subst (λ x. pos 0 ≤ℤ x) (sym (l.value vs)) (over (slice_index_or vs n (pos 0)) t.low (low_at ss n t vs h e w));
}

pub high_met : (ss : List Span) (n : ℕ) (t : Span) (c : Linear) → n < length ss → t ≡ get_or ss n t → IsLine n (negsuc 0) t.high c → IsMetWithin (ranges ss) c
high_met ss n t c h e l = record {
  rising = l.rising;
  met = λ vs w. subst (λ x. pos 0 ≤ℤ x) (sym (l.value vs)) (under (slice_index_or vs n (pos 0)) t.high (high_at ss n t vs h e w));
}

pub adds_none : (fs : List Feature) (old : List Linear) → AddsWithin fs old old
adds_none fs old = record { rising = λ r. r; met = λ vs w m. m }

pub adds_form : (fs : List Feature) (old new : List Linear) (f : Linear) → new ≡ old ++ f ∷ [] → IsMetWithin fs f → AddsWithin fs old new
adds_form fs old new f e h = subst (λ x. AddsWithin fs old x) (sym e) (record {
  rising = λ r. rising_more old f r h.rising;
  met = λ vs w m. met_more old f vs m (h.met vs w);
})

pub adds_more : (fs : List Feature) (old mid new : List Linear) → AddsWithin fs old mid → AddsWithin fs mid new → AddsWithin fs old new
adds_more fs old mid new h k = record { rising = λ r. k.rising (h.rising r); met = λ vs w m. k.met vs w (h.met vs w m) }

pub all_met : (fs : List Feature) (old new : List Linear) → old ≡ [] → AddsWithin fs old new → AreMetWithin fs new
all_met fs old new e h =
    let k : AddsWithin fs [] new = subst (λ x. AddsWithin fs x new) e h in
    record { rising = k.rising tt; met = λ vs w. k.met vs w tt }

by_truth : (b : Bool) → (b ≡ true → ⊥) → b ≡ false
by_truth true h = absurd (h refl)
by_truth false h = refl

-- forms that must be met, and ends behind a copy of them
pub opposed_within : (cs : List Condition) (p : Proposition Atom) (fs : List Feature) (old facts copies forms : List Linear) → old ≡ [] → AddsAll cs p old facts → copies ≡ facts → AddsWithin fs copies forms
    → ((vs : List ℤ) → AreMet vs facts → AreMet vs forms → ⊥) → (vs : List ℤ) → IsWithin fs vs → meets cs p vs ≡ false
opposed_within cs p fs old facts copies forms e h f g k vs w = by_truth (meets cs p vs) (λ t.
    let m : AreMet vs facts = h.met vs (subst (λ x. AreMet vs x) (sym e) tt) t in
    k vs m (g.met vs w (subst (λ x. AreMet vs x) (sym f) m)))
