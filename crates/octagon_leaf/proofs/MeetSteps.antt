-- Meets one by one, each closed after it.
use Rattle.std.proofs.Common.{◌≡◌, ◌≢◌, ◌↔◌, ℕ, zero, suc, ◌+◌, ◌<◌, ◌≤◌, ℤ, ◌≤ℤ◌, List, [], ◌∷◌, ◌++◌, take, length, slice_index_or, arith, ◌∙◌, ap, sym, subst, refl}
use Rattle.std.specs.Int.{int_max}
use Rattle.std.proofs.lemmas.List.{take_more, take_all}
use Rattle.octagon_matrix.specs.Matrices.{MatrixValue, IsMatrix, HasEntries, met_entry}
use Rattle.octagon_matrix.specs.Stores.{Holds}
use Rattle.octagon_matrix.proofs.Stores.{met-stores}
use Rattle.octagon_closure.specs.Best.{IsUnmet, IsBest, CameByOne}
use Rattle.octagon_leaf.specs.declared.meets.Meet.{Meet}
use Rattle.octagon_leaf.specs.Greatest.{difference}
use Rattle.octagon_leaf.specs.Octagons.{least_entry, met, met_all}
use Rattle.octagon_leaf.specs.Meeting.{IsMeet, AreMeets, IsSmall, AreSmall}
use Rattle.octagon_leaf.specs.Laws.Best.{IsBounded, best-stores, stores-best, best-by}
use Rattle.octagon_leaf.specs.Laws.Meets.{bounded-kept, variables-all, met-entries, AllMet, all-holds, holds-all}

-- the matrix is the best one of the first meets
pub record IsMeeting (m : MatrixValue) (es : List Meet) (now : MatrixValue) (i : ℕ) : Type 0 where
  pub kept : IsMatrix now
  pub variables : now.variables ≡ m.variables
  pub best : IsBest (met_all m (take i es)) now

pub meet-at : (n : ℕ) (es : List Meet) (i : ℕ) (d : Meet) → i < length es → AreMeets n es → IsMeet n (slice_index_or es i d)
meet-at n [] i d h q = absurd (omega arith)
meet-at n (e ∷ es) zero d h q = q.0
meet-at n (e ∷ es) (suc i) d h q = meet-at n es i d (omega arith) q.1

pub small-at : (es : List Meet) (i : ℕ) (d : Meet) → i < length es → AreSmall es → IsSmall (slice_index_or es i d).bound
small-at [] i d h q = absurd (omega arith)
small-at (e ∷ es) zero d h q = q.0
small-at (e ∷ es) (suc i) d h q = small-at es i d (omega arith) q.1

pub came : (m : MatrixValue) (es : List Meet) (now next : MatrixValue) (i : ℕ) (e : Meet) → IsMeeting m es now i → e.first ≢ e.second → HasEntries next now.variables (met_entry now e.first e.second (int_max e.bound least_entry)) → CameByOne next e.first e.second
came m es now next i e l h k = record { origin = met_all m (take i es); before = now; best = l.best; apart = h; bound = int_max e.bound least_entry; entries = k }

all-more : (m : MatrixValue) (es : List Meet) (e : Meet) → met_all m (es ++ e ∷ []) ≡ met (met_all m es) e
all-more m [] e = refl
all-more m (f ∷ es) e = all-more (met m f) es e

-- the stores after one more meet
more-stores : (m : MatrixValue) (es : List Meet) (now next : MatrixValue) (i : ℕ) (e : Meet) (s : List ℤ) → IsMeeting m es now i → IsMeet m.variables e → HasEntries next now.variables (met_entry now e.first e.second (int_max e.bound least_entry))
    → Holds next s ↔ Holds (met (met_all m (take i es)) e) s
more-stores m es now next i e s l q k =
    let d : MatrixValue = met_all m (take i es) in
    let f : d.variables ≡ m.variables = variables-all m (take i es) in
    let v : ℤ = int_max e.bound least_entry in
    let w : Holds next s ↔ (Holds now s × (difference s e.first e.second ≤ℤ v)) = met-stores now next e.first e.second v s k (rw (l.variables) q.first) (rw (l.variables) q.second) in
    let u : Holds (met d e) s ↔ (Holds d s × (difference s e.first e.second ≤ℤ v)) = met-stores d (met d e) e.first e.second v s (met-entries d e) (rw (f) q.first) (rw (f) q.second) in (
      λ h. u.1 (best-stores d now s l.best (w.0 h).0, (w.0 h).1),
      λ h. w.1 (stores-best d now s l.best (u.0 h).0, (u.0 h).1),
    )

pub meeting-next : (m : MatrixValue) (es : List Meet) (now next after : MatrixValue) (i : ℕ) (e : Meet) → i < length es → e ≡ slice_index_or es i e → IsMeeting m es now i → IsMeet m.variables e
    → HasEntries next now.variables (met_entry now e.first e.second (int_max e.bound least_entry)) → IsBest next after → IsMatrix after → IsMeeting m es after (i + 1)
meeting-next m es now next after i e h f l q k b z =
    let d : MatrixValue = met_all m (take i es) in
    let g : take (i + 1) es ≡ take i es ++ e ∷ [] = take_more es i e h ∙ ap (λ x. take i es ++ x ∷ []) (sym f) in
    let o : met_all m (take (i + 1) es) ≡ met d e = ap (met_all m) g ∙ all-more m (take i es) e in
    let v : next.variables ≡ m.variables = k.variables ∙ l.variables in
    record {
      kept = z;
      variables = b.variables ∙ v;
      best = rw o (best-by next (met d e) after (variables-all m (take i es) ∙ sym v) (λ s. (more-stores m es now next i e s l q k).0) (λ s. (more-stores m es now next i e s l q k).1) b);
    }

meets-take : (n : ℕ) (es : List Meet) (i : ℕ) → AreMeets n es → AreMeets n (take i es)
meets-take n es zero q = tt
meets-take n [] (suc i) q = tt
meets-take n (e ∷ es) (suc i) q = (q.0, meets-take n es i q.1)

met-take : (es : List Meet) (i : ℕ) (s : List ℤ) → AllMet es s → AllMet (take i es) s
met-take es zero s a = tt
met-take [] (suc i) s a = tt
met-take (e ∷ es) (suc i) s a = (a.0, met-take es i s a.1)

-- where no store is left, none meets all
pub meeting-unmet : (m : MatrixValue) (es : List Meet) (now next : MatrixValue) (i : ℕ) (e : Meet) → i < length es → e ≡ slice_index_or es i e → IsMatrix m → AreMeets m.variables es → IsMeeting m es now i → IsMeet m.variables e
    → HasEntries next now.variables (met_entry now e.first e.second (int_max e.bound least_entry)) → IsUnmet next → IsUnmet (met_all m es)
meeting-unmet m es now next i e h f z w l q k u s o =
    let d : MatrixValue = met_all m (take i es) in
    let b : IsBounded m = bounded-kept m z in
    let g : take (i + 1) es ≡ take i es ++ e ∷ [] = take_more es i e h ∙ ap (λ x. take i es ++ x ∷ []) (sym f) in
    let p : met_all m (take (i + 1) es) ≡ met d e = ap (met_all m) g ∙ all-more m (take i es) e in
    let a : Holds m s × AllMet es s = holds-all m es s b w o in
    let c : Holds (met_all m (take (i + 1) es)) s = all-holds m (take (i + 1) es) s b (meets-take m.variables es (i + 1) w) a.0 (met-take es (i + 1) s a.1) in
    let P : MatrixValue → Type 0 = λ x. Holds x s in
    u s ((more-stores m es now next i e s l q k).1 (subst P p c))

pub meeting-end : (m : MatrixValue) (es : List Meet) (now : MatrixValue) (i : ℕ) → length es ≤ i → IsMeeting m es now i → IsBest (met_all m es) now
meeting-end m es now i h l = let e : take i es ≡ es = take_all i es h in let P : List Meet → Type 0 = λ x. IsBest (met_all m x) now in subst P e l.best

-- past the end aside, the default does not matter
pub read-at : (es : List Meet) (i : ℕ) (d e : Meet) → i < length es → slice_index_or es i d ≡ slice_index_or es i e
read-at [] i d e h = absurd (omega arith)
read-at (f ∷ es) zero d e h = refl
read-at (f ∷ es) (suc i) d e h = read-at es i d e (omega arith)
