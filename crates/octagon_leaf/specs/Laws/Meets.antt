-- The stores that meet a matrix after meets of its entries.
use Rattle.std.proofs.Common.{◌≡◌, ◌↔◌, ◌^◌, ℤ, pos, neg_ℤ, ◌≤ℤ◌, Bool, true, false, List, [], ◌∷◌, refl, arith, if◌then◌else◌}
use Rattle.std.specs.Bool.{⊤}
use Rattle.std.specs.Int.{int_min, int_max}
use Rattle.std.proofs.lemmas.Int.{ints, clamps}
use Rattle.octagon_matrix.specs.Terms.{is_pair}
use Rattle.octagon_matrix.specs.Matrices.{MatrixValue, entry_of, IsMatrix, HasEntries, met_entry}
use Rattle.octagon_matrix.specs.Stores.{Holds}
use Rattle.octagon_matrix.proofs.Stores.{met-stores}
use Rattle.octagon_leaf.specs.declared.meets.Meet.{Meet}
use Rattle.octagon_leaf.specs.Greatest.{difference}
use Rattle.octagon_leaf.specs.Octagons.{least_entry, met, met_all}
use Rattle.octagon_leaf.specs.Meeting.{IsMeet, AreMeets}
use Rattle.octagon_leaf.specs.Laws.Best.{of-entry, IsBounded, bounded-store, store-above}

pub bounded-kept : (m : MatrixValue) → IsMatrix m → IsBounded m
bounded-kept m k = record { few = k.few; most = k.most }

lowered-below : (q : Bool) (x v : ℤ) → (if q then int_min x v else x) ≤ℤ x
lowered-below true x v = omega (arith, ints, clamps)
lowered-below false x v = omega (arith, ints)

pub bounded-met : (m : MatrixValue) (e : Meet) → IsBounded m → IsBounded (met m e)
bounded-met m e p = record {
  few = p.few;
  most = λ a b i j.
      rw (of-entry m.variables (met_entry m e.first e.second (int_max e.bound least_entry)) a b i j)
      (omega (arith, ints, p.most a b i j, lowered-below (is_pair e.first e.second a b) (entry_of m a b) (int_max e.bound least_entry)));
}

pub bounded-all : (m : MatrixValue) (es : List Meet) → IsBounded m → IsBounded (met_all m es)
bounded-all m [] p = p
bounded-all m (e ∷ es) p = bounded-all (met m e) es (bounded-met m e p)

pub variables-all : (m : MatrixValue) (es : List Meet) → (met_all m es).variables ≡ m.variables
variables-all m [] = refl
variables-all m (e ∷ es) = variables-all (met m e) es

-- the entries of a meet
pub met-entries : (m : MatrixValue) (e : Meet) → HasEntries (met m e) m.variables (met_entry m e.first e.second (int_max e.bound least_entry))
met-entries m e = record { variables = refl; entries = λ a b i j. of-entry m.variables (met_entry m e.first e.second (int_max e.bound least_entry)) a b i j }

-- no store is so low that the least bound tells
above-least : (d v : ℤ) → neg_ℤ (pos (2 ^ 33)) ≤ℤ d → d ≤ℤ int_max v least_entry → d ≤ℤ v
above-least d v h k = omega (arith, ints, clamps)

below-either : (d v : ℤ) → d ≤ℤ v → d ≤ℤ int_max v least_entry
below-either d v h = omega (arith, ints, clamps)

pub met-holds : (m : MatrixValue) (e : Meet) (s : List ℤ) → IsBounded m → IsMeet m.variables e → Holds (met m e) s ↔ (Holds m s × (difference s e.first e.second ≤ℤ e.bound))
met-holds m e s p q =
    let v : ℤ = int_max e.bound least_entry in
    let w : Holds (met m e) s ↔ (Holds m s × (difference s e.first e.second ≤ℤ v)) = met-stores m (met m e) e.first e.second v s (met-entries m e) q.first q.second in (
      λ h. let k : Holds m s × (difference s e.first e.second ≤ℤ v) = w.0 h in
          (k.0, above-least (difference s e.first e.second) e.bound (store-above m.variables s e.first e.second (bounded-store m s p k.0) q.first q.second) k.1),
      λ k. w.1 (k.0, below-either (difference s e.first e.second) e.bound k.1),
    )

-- the store meets each of the bounds
abbrev pub AllMet : List Meet → List ℤ → Type 0
AllMet [] s = ⊤
AllMet (e ∷ es) s = (difference s e.first e.second ≤ℤ e.bound) × AllMet es s

pub all-holds : (m : MatrixValue) (es : List Meet) (s : List ℤ) → IsBounded m → AreMeets m.variables es → Holds m s → AllMet es s → Holds (met_all m es) s
all-holds m [] s p q h k = h
all-holds m (e ∷ es) s p q h k = all-holds (met m e) es s (bounded-met m e p) q.1 ((met-holds m e s p q.0).1 (h, k.0)) k.1

pub holds-all : (m : MatrixValue) (es : List Meet) (s : List ℤ) → IsBounded m → AreMeets m.variables es → Holds (met_all m es) s → Holds m s × AllMet es s
holds-all m [] s p q h = (h, tt)
holds-all m (e ∷ es) s p q h =
    let k : Holds (met m e) s × AllMet es s = holds-all (met m e) es s (bounded-met m e p) q.1 h in
    let w : Holds m s × (difference s e.first e.second ≤ℤ e.bound) = (met-holds m e s p q.0).0 k.0 in
    (w.0, (w.1, k.1))
