-- What the fields keep is what the leaf's value keeps.
use Rattle.std.proofs.Common.{◌≡◌, ℕ, ◌≤◌, ℤ, List, [], ◌∷◌, ◌++◌, Option, Some, None, refl, sym, ◌∙◌, ap, subst}
use Rattle.octagon_matrix.specs.Matrices.{MatrixValue, IsMatrix}
use Rattle.octagon_matrix.specs.Stores.{Holds}
use Rattle.octagon_leaf.specs.declared.meets.Meet.{Meet}
use Rattle.octagon_closure.specs.Best.{IsBest}
use Rattle.leaf_domain.specs.Leaves.{LeafValue, nothing_of}
use Rattle.octagon_leaf.specs.Greatest.{best_of}
use Rattle.octagon_leaf.specs.Octagons.{IsOctagonContent, IsOctagon, met_all}
use Rattle.octagon_leaf.specs.Meeting.{AreMeets, IsSettled, IsOwnBest, leaf_from, IsClosedOf, IsStandingOf}
use Rattle.octagon_leaf.specs.View.{content_of, view_of, IsClosedCopy, AreMatrices, IsSound}
use Rattle.octagon_leaf.specs.declared.leaf.OctagonLeaf.TheInside.{Inside}
use Rattle.octagon_leaf.specs.Laws.Best.{IsBounded, best-own, best-is, best-unmet, best-by, best-stores, stores-best}
use Rattle.octagon_leaf.specs.Laws.Meets.{bounded-kept, variables-all, AllMet, all-holds, holds-all}

abbrev leaf_at : ℕ → Option (List ℤ) → LeafValue
leaf_at n c = record { variables = n; content = c }

closed-copy : (n : ℕ) (m c : MatrixValue) → IsClosedCopy n m c → IsClosedOf (leaf_at n (Some m.entries)) c
closed-copy n m c k = record {
  some = refl;
  is = rw (← k.own_variables) (best-is m c (bounded-kept m k.own_kept) k.best k.kept);
  best = best-own m c k.best;
  kept = k.kept;
  variables = k.variables;
}

pub closed-of : (n : ℕ) (c : MatrixValue) (w : Option MatrixValue) → AreMatrices n (Some c) w → IsClosedOf (leaf_at n (content_of (Some c) w)) c
closed-of n c None k = closed-copy n c c k
closed-of n c (Some w) k = closed-copy n w c k

standing-copy : (n : ℕ) (m c : MatrixValue) → IsClosedCopy n m c → IsStandingOf (leaf_at n (Some m.entries)) m
standing-copy n m c k = record { is = ap (λ i. leaf_at i (Some m.entries)) (sym k.own_variables); kept = k.own_kept; met = k.best.met }

pub standing-of : (n : ℕ) (c : MatrixValue) → AreMatrices n (Some c) None → IsStandingOf (leaf_at n (Some c.entries)) c
standing-of n c k = standing-copy n c c k

pub standing-of-widened : (n : ℕ) (c w : MatrixValue) → AreMatrices n (Some c) (Some w) → IsStandingOf (leaf_at n (Some w.entries)) w
standing-of-widened n c w k = standing-copy n w c k

octagon-copy : (n : ℕ) (m c : MatrixValue) → IsClosedCopy n m c → IsOctagonContent n (Some m.entries)
octagon-copy n m c k = rw (← k.own_variables) (k.own_kept, k.best.met)

content-is : (n : ℕ) (c w : Option MatrixValue) → AreMatrices n c w → IsOctagonContent n (content_of c w)
content-is n None w k = tt
content-is n (Some c) None k = octagon-copy n c c k
content-is n (Some c) (Some w) k = octagon-copy n w c k

pub inside-is : (s : Inside) → IsSound s → IsOctagon (view_of s)
inside-is s h = (h.0, content-is s.variables s.closed s.widened h.1)

-- ---- leaves of best matrices
pub settled-best : (n : ℕ) (d : MatrixValue) (o : Option MatrixValue) → d.variables ≡ n → IsSettled d o → IsOwnBest n o
settled-best n d None e h = tt
settled-best n d (Some m) e h = (best-own d m h.0, h.1, h.0.variables ∙ e)

pub settled-is : (n : ℕ) (d : MatrixValue) (o : Option MatrixValue) → IsBounded d → d.variables ≡ n → IsSettled d o → leaf_from n o ≡ best_of d
settled-is n d None b e h = sym (best-unmet d b h ∙ ap nothing_of e)
settled-is n d (Some m) b e h = sym (best-is d m b h.0 h.1)

pub sound-best : (n : ℕ) (o : Option MatrixValue) → n ≤ 48 → IsOwnBest n o → AreMatrices n o None
sound-best n None l h = tt
sound-best n (Some m) l h = record { few = l; own_variables = h.2; variables = h.2; own_kept = h.1; kept = h.1; best = h.0 }

pub view-best : (n : ℕ) (o : Option MatrixValue) → IsOwnBest n o → leaf_at n (content_of o None) ≡ leaf_from n o
view-best n None h = refl
view-best n (Some m) h = ap (λ i. leaf_at i (Some m.entries)) (sym h.2)

-- ---- the matrices behind a reference
by-closed : (n : ℕ) (o w : Option MatrixValue) (c : MatrixValue) → o ≡ Some c → AreMatrices n o w → IsClosedOf (leaf_at n (content_of o w)) c
by-closed n o w c f k = let P : Option MatrixValue → Type 0 = λ x. AreMatrices n x w → IsClosedOf (leaf_at n (content_of x w)) c in subst P (sym f) (closed-of n c w) k

pub best-inside : (s : Inside) (v : LeafValue) (c : MatrixValue) → view_of s ≡ v → IsSound s → s.closed ≡ Some c → IsClosedOf v c
best-inside s v c e h f = let P : LeafValue → Type 0 = λ x. IsClosedOf x c in subst P e (by-closed s.variables s.closed s.widened c f h.1)

by-standing : (n : ℕ) (o w : Option MatrixValue) (c : MatrixValue) → o ≡ Some c → w ≡ None → AreMatrices n o w → IsStandingOf (leaf_at n (content_of o w)) c
by-standing n o w c e f k =
    let P : Option MatrixValue → Type 0 = λ x. AreMatrices n x None → IsStandingOf (leaf_at n (content_of x None)) c in
    let Q : Option MatrixValue → Type 0 = λ y. AreMatrices n o y → IsStandingOf (leaf_at n (content_of o y)) c in
    subst Q (sym f) (subst P (sym e) (standing-of n c)) k

by-widened : (n : ℕ) (o w : Option MatrixValue) (c d : MatrixValue) → o ≡ Some c → w ≡ Some d → AreMatrices n o w → IsStandingOf (leaf_at n (content_of o w)) d
by-widened n o w c d e f k =
    let P : Option MatrixValue → Type 0 = λ x. AreMatrices n x (Some d) → IsStandingOf (leaf_at n (content_of x (Some d))) d in
    let Q : Option MatrixValue → Type 0 = λ y. AreMatrices n o y → IsStandingOf (leaf_at n (content_of o y)) d in
    subst Q (sym f) (subst P (sym e) (standing-of-widened n c d)) k

pub standing-inside : (s : Inside) (v : LeafValue) (c : MatrixValue) → view_of s ≡ v → IsSound s → s.closed ≡ Some c → s.widened ≡ None → IsStandingOf v c
standing-inside s v c e h f g = let P : LeafValue → Type 0 = λ x. IsStandingOf x c in subst P e (by-standing s.variables s.closed s.widened c f g h.1)

pub widened-inside : (s : Inside) (v : LeafValue) (c d : MatrixValue) → view_of s ≡ v → IsSound s → s.closed ≡ Some c → s.widened ≡ Some d → IsStandingOf v d
widened-inside s v c d e h f g = let P : LeafValue → Type 0 = λ x. IsStandingOf x d in subst P e (by-widened s.variables s.closed s.widened c d f g h.1)

-- ---- lists of meets
pub both-meets : (n : ℕ) (es fs : List Meet) → AreMeets n es → AreMeets n fs → AreMeets n (es ++ fs)
both-meets n [] fs p q = q
both-meets n (e ∷ es) fs p q = (p.0, both-meets n es fs p.1 q)

both-met : (es fs : List Meet) (s : List ℤ) → AllMet es s → AllMet fs s → AllMet (es ++ fs) s
both-met [] fs s p q = q
both-met (e ∷ es) fs s p q = (p.0, both-met es fs s p.1 q)

pub met-both : (es fs : List Meet) (s : List ℤ) → AllMet (es ++ fs) s → AllMet es s × AllMet fs s
met-both [] fs s p = (tt, p)
met-both (e ∷ es) fs s p = let q : AllMet es s × AllMet fs s = met-both es fs s p.1 in ((p.0, q.0), q.1)

-- ---- best matrices of the same stores
pub settled-by : (d k : MatrixValue) (o : Option MatrixValue) → k.variables ≡ d.variables → ((s : List ℤ) → Holds d s → Holds k s) → ((s : List ℤ) → Holds k s → Holds d s) → IsSettled d o → IsSettled k o
settled-by d k None e f g h = λ s i. h s (g s i)
settled-by d k (Some m) e f g h = (best-by d k m e f g h.0, h.1)

-- a best matrix met further, and the matrix that it is the best one of
pub settled-set : (d m : MatrixValue) (es fs : List Meet) (o : Option MatrixValue) → IsBounded d → AreMeets d.variables es → AreMeets d.variables fs → IsBest (met_all d fs) m → IsMatrix m → IsSettled (met_all m es) o → IsSettled (met_all d (es ++ fs)) o
settled-set d m es fs o b p q h k s =
    let e : m.variables ≡ d.variables = h.variables ∙ variables-all d fs in
    let P : ℕ → Type 0 = λ n. AreMeets n es in
    let p' : AreMeets m.variables es = subst P (sym e) p in
    settled-by (met_all m es) (met_all d (es ++ fs)) o (variables-all d (es ++ fs) ∙ (sym e ∙ sym (variables-all m es)))
    (λ t i.
    let j : Holds m t × AllMet es t = holds-all m es t (bounded-kept m k) p' i in
    let l : Holds d t × AllMet fs t = holds-all d fs t b q (best-stores (met_all d fs) m t h j.0) in
    all-holds d (es ++ fs) t b (both-meets d.variables es fs p q) l.0 (both-met es fs t j.1 l.1))
    (λ t i.
    let j : Holds d t × AllMet (es ++ fs) t = holds-all d (es ++ fs) t b (both-meets d.variables es fs p q) i in
    let l : AllMet es t × AllMet fs t = met-both es fs t j.1 in
    all-holds m es t (bounded-kept m k) p' (stores-best (met_all d fs) m t h (all-holds d fs t b q j.0 l.1)) l.0)
    s
