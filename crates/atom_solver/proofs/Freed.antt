-- What holds where a feature's value changes no truth.
use Rattle.std.proofs.Common.{◌≡◌, ℕ, zero, suc, ◌<◌, ◌≤◌, ℤ, pos, ◌-ℤ◌, ◌≤ℤ◌, unsigned_abs, Bool, inl, inr, List, [], ◌∷◌, length, get_or, set, Option, Some, None, sym, ap, subst, refl, ◌∙◌, arith}
use Rattle.std.specs.Prelude.{slice_index_or}
use Rattle.std.proofs.lemmas.Int.{ints}
use Rattle.linear_atoms.specs.declared.atoms.Config.{Config}
use Rattle.linear_atoms.specs.declared.atoms.Atom.{Atom}
use Rattle.linear_atoms.specs.declared.atoms.Feature.{Feature}
use Rattle.linear_atoms.specs.Atoms.{IsWithin, AreRanges}
use Rattle.cpp_conditions.specs.declared.conditions.Condition.{Condition}
use Rattle.cpp_conditions.specs.Propositions.{Proposition, IsFit, true_at}
use Rattle.cpp_conditions.specs.Validity.{AreFit}
use Rattle.linear_atoms.specs.declared.ranges.Span.{Span}
use Rattle.atom_solver.specs.Free.{put, IsUnread, IsSame, Serves}
use Rattle.atom_solver.specs.Narrowing.{Narrows}
use Rattle.atom_solver.specs.Solutions.{IsBefore}
use Rattle.atom_solver.specs.Spans.{ranges, width, meets, Agrees, IsKnown, FindsIn}
use Rattle.atom_solver.proofs.Cutting.{AreSmall}
use Rattle.atom_solver.proofs.Narrowed.{small_at, set_ranges, narrowed_finds}
use Rattle.atom_solver.proofs.Splitting.{IsHalf}

-- ---- what reads no feature

other_value : (n k : ℕ) (x d : ℤ) (vs : List ℤ) → ((k ≡ n) → ⊥) → slice_index_or (put n x vs) k d ≡ slice_index_or vs k d
other_value n k x d [] h = refl
other_value zero zero x d (v ∷ vs) h = absurd (h refl)
other_value zero (suc k) x d (v ∷ vs) h = refl
other_value (suc n) zero x d (v ∷ vs) h = refl
other_value (suc n) (suc k) x d (v ∷ vs) h = other_value n k x d vs (λ e. h (ap suc e))

pub unread_none : (n : ℕ) (ts : List (ℕ × ℤ)) → ts ≡ [] → IsUnread n ts
unread_none n ts e = subst (λ x. IsUnread n x) (sym e) (λ vs x. refl)

pub unread_more : (n k : ℕ) (a : ℤ) (ts behind : List (ℕ × ℤ)) → ts ≡ (k, a) ∷ behind → ((k ≡ n) → ⊥) → IsUnread n behind → IsUnread n ts
unread_more n k a ts behind e h u = subst (λ y. IsUnread n y) (sym e) (λ vs x. rw (other_value n k x (pos 0) vs h, u vs x) refl)

-- ---- propositions

agree : (said : Option Bool) (b p q : Bool) → said ≡ Some b → Agrees said p → Agrees said q → p ≡ q
agree said b p q e h k =
    let a : p ≡ b = subst (λ x. Agrees x p) e h in
    let c : q ≡ b = subst (λ x. Agrees x q) e k in
    a ∙ sym c

pub known_same : (fs : List Feature) (n : ℕ) (p : Proposition Atom) (said : Option Bool) (b : Bool) → said ≡ Some b → IsKnown fs p said → IsSame fs n (λ (values : List ℤ). true_at values p)
known_same fs n p said b e h = λ vs x v w. agree said b (true_at (put n x vs) p) (true_at vs p) e (h (put n x vs) w) (h vs v)

-- ---- one range is put at its low

inside : (ss : List Span) (i : ℕ) (t : Span) (vs : List ℤ) → t.low ≤ℤ t.high → IsWithin (ranges ss) vs → IsWithin (ranges (set ss i t)) (put i t.low vs)
inside [] i t [] e h = tt
inside [] i t (v ∷ vs) e h = absurd h
inside (s ∷ ss) i t [] e h = absurd h
inside (s ∷ ss) zero t (v ∷ vs) e h = (omega (arith, ints), e, h.2)
inside (s ∷ ss) (suc i) t (v ∷ vs) e h = (h.0, h.1, inside ss i t vs e h.2)

outside : (ss : List Span) (i : ℕ) (w t : Span) (vs : List ℤ) → w ≡ get_or ss i w → t.low ≡ w.low → t.high ≡ w.low → AreRanges (ranges ss) → IsWithin (ranges (set ss i t)) vs → IsWithin (ranges ss) vs
outside [] i w t vs g e f r h = h
outside (s ∷ ss) zero w t [] g e f r h = absurd h
outside (s ∷ ss) (suc i) w t [] g e f r h = absurd h
outside (s ∷ ss) zero w t (v ∷ vs) g e f r h =
    let a : w.low ≡ s.low = ap (λ y. y.low) g in
    let b : t.low ≤ℤ v = h.0 in
    let c : v ≤ℤ t.high = h.1 in
    let d : s.low ≤ℤ s.high = r.0 in
    (omega (arith, ints), omega (arith, ints), h.2)
outside (s ∷ ss) (suc i) w t (v ∷ vs) g e f r h = (h.0, h.1, outside ss i w t vs g e f r.3 h.2)

-- what is before a configuration of the new box is so with the low too
still_before : (ss : List Span) (i : ℕ) (w t : Span) (vs cs : List ℤ) → w ≡ get_or ss i w → t.low ≡ w.low → t.high ≡ w.low
    → IsWithin (ranges ss) vs → IsWithin (ranges (set ss i t)) cs → IsBefore vs cs → IsBefore (put i t.low vs) cs
still_before ss i w t [] cs g e f h k b = b
still_before [] i w t (v ∷ vs) cs g e f h k b = absurd h
still_before (s ∷ ss) zero w t (v ∷ vs) [] g e f h k b = b
still_before (s ∷ ss) (suc i) w t (v ∷ vs) [] g e f h k b = b
still_before (s ∷ ss) zero w t (v ∷ vs) (c ∷ cs) g e f h k (inl b) =
    let a : w.low ≡ s.low = ap (λ y. y.low) g in
    let p : s.low ≤ℤ v = h.0 in
    let q : c ≤ℤ t.high = k.1 in
    absurd (omega (arith, ints))
still_before (s ∷ ss) zero w t (v ∷ vs) (c ∷ cs) g e f h k (inr b) =
    let p : t.low ≤ℤ c = k.0 in
    let q : c ≤ℤ t.high = k.1 in
    inr (omega (arith, ints), b.1)
still_before (s ∷ ss) (suc i) w t (v ∷ vs) (c ∷ cs) g e f h k (inl b) = inl b
still_before (s ∷ ss) (suc i) w t (v ∷ vs) (c ∷ cs) g e f h k (inr b) = inr (b.0, still_before ss i w t vs cs g e f h.2 k.2 b.1)

set_long : (ss : List Span) (i : ℕ) (t : Span) → length (set ss i t) ≡ length ss
set_long [] i t = refl
set_long (s ∷ ss) zero t = refl
set_long (s ∷ ss) (suc i) t = ap suc (set_long ss i t)

set_width : (ss : List Span) (i : ℕ) (t : Span) → t.high ≡ t.low → width (set ss i t) ≤ width ss
set_width [] i t e = omega arith
set_width (s ∷ ss) zero t e = let k : unsigned_abs (t.high -ℤ t.low) ≡ 0 = omega (arith, ints) in omega arith
set_width (s ∷ ss) (suc i) t e = let k : width (set ss i t) ≤ width ss = set_width ss i t e in omega arith

finds_pinned : (m : List ℤ → Bool) (ss : List Span) (i : ℕ) (w t : Span) (found : Option Config) → w ≡ get_or ss i w → t.low ≡ w.low → t.high ≡ w.low → AreRanges (ranges ss)
    → IsSame (ranges ss) i m → FindsIn (ranges (set ss i t)) m found → FindsIn (ranges ss) m found
finds_pinned m ss i w t None g e f r same h = λ vs v.
    let k : IsWithin (ranges (set ss i t)) (put i t.low vs) = inside ss i t vs (omega (arith, ints)) v in
    sym (same vs t.low v (outside ss i w t (put i t.low vs) g e f r k)) ∙ h (put i t.low vs) k
finds_pinned m ss i w t (Some c) g e f r same h = record {
  within = outside ss i w t c.values g e f r h.within;
  met = h.met;
  first = λ vs v n b.
      let k : IsWithin (ranges (set ss i t)) (put i t.low vs) = inside ss i t vs (omega (arith, ints)) v in
      h.first (put i t.low vs) k (same vs t.low v (outside ss i w t (put i t.low vs) g e f r k) ∙ n) (still_before ss i w t vs c.values g e f v h.within b);
}

pub pinned : (m : List ℤ → Bool) (ss : List Span) (i : ℕ) (w t : Span) → i < length ss → w ≡ get_or ss i w → t.low ≡ w.low → t.high ≡ w.low → AreRanges (ranges ss)
    → IsSame (ranges ss) i m → Serves m ss (set ss i t)
pinned m ss i w t h g e f r same =
    let q : AreSmall w = small_at ss i w h g r in
    let a : unsigned_abs w.low ≤ 1048576 = q.low in
    record {
      long = set_long ss i t;
      some = set_ranges ss i t (omega (arith, ints)) (rw e a) (rw f a) r;
      finds = λ found k. finds_pinned m ss i w t found g e f r same k;
      no_wider = set_width ss i t (f ∙ sym e);
    }

-- ---- one after another

pub serves_none : (m : List ℤ → Bool) (ss : List Span) → AreRanges (ranges ss) → Serves m ss ss
serves_none m ss h = record { long = refl; some = h; finds = λ found k. k; no_wider = omega arith }

pub serves_same : (m : List ℤ → Bool) (old new : List Span) → AreRanges (ranges old) → new ≡ old → Serves m old new
serves_same m old new h e = subst (Serves m old) (sym e) (serves_none m old h)

pub serves_more : (m : List ℤ → Bool) (old mid new : List Span) → Serves m old mid → Serves m mid new → Serves m old new
serves_more m old mid new h k = record {
  long = k.long ∙ h.long;
  some = k.some;
  finds = λ found f. h.finds found (k.finds found f);
  no_wider = (let a = h.no_wider in let b = k.no_wider in omega arith);
}

pub served_fit : (m : List ℤ → Bool) (old new d : List Span) (cs : List Condition) → Serves m old new → d ≡ new → AreFit (length old) cs → AreFit (length d) cs
served_fit m old new d cs s e h = subst (λ x. AreFit x cs) (sym (ap length e ∙ s.long)) h

pub served_ranges : (m : List ℤ → Bool) (old new d : List Span) → Serves m old new → d ≡ new → AreRanges (ranges d)
served_ranges m old new d s e = subst (λ x. AreRanges (ranges x)) (sym e) s.some

pub served_found : (m : List ℤ → Bool) (old new d : List Span) (found : Option Config) → Serves m old new → d ≡ new → FindsIn (ranges d) m found → FindsIn (ranges old) m found
served_found m old new d found s e f = s.finds found (subst (λ x. FindsIn (ranges x) m found) e f)

pub served_more : (m : List ℤ → Bool) (old mid d new : List Span) → Serves m old mid → d ≡ mid → Serves m d new → Serves m old new
served_more m old mid d new s e t = serves_more m old mid new s (subst (λ x. Serves m x new) e t)

pub narrow_serves : (cs : List Condition) (p : Proposition Atom) (old new : List Span) → Narrows cs p old new → Serves (meets cs p) old new
narrow_serves cs p old new n = record { long = n.long; some = n.some; finds = λ found f. narrowed_finds cs p old new found n f; no_wider = n.no_wider }

-- ---- the calls of the search

pub serves_inside : (old whole half d : List Span) (cs : List Condition) (w : Proposition Atom) (t : ℕ) → Serves (meets cs w) old whole → IsHalf whole half → d ≡ half → width old ≡ t
    → AreFit (length old) cs → IsFit (length old) w → (width d < t) × (AreFit (length d) cs × (IsFit (length d) w × AreRanges (ranges d)))
serves_inside old whole half d cs w t n h e m f g =
    let k : width half < width whole = h.narrower in
    let o : width whole ≤ width old = n.no_wider in
    let q : width d ≡ width half = ap width e in
    let l : length d ≡ length old = ap length e ∙ h.long ∙ n.long in
    (omega arith, (subst (λ x. AreFit x cs) (sym l) f, (subst (λ x. IsFit x w) (sym l) g, subst (λ x. AreRanges (ranges x)) (sym e) h.are_ranges)))
