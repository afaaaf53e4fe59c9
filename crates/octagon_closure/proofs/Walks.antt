-- What a sweep through an entry computes: the walks through the entry, its coherent twin, or both.
use Rattle.std.proofs.Common.{◌≡◌, ℕ, ℤ, pos, ◌+ℤ◌, ◌-ℤ◌, ◌≤ℤ◌, ◌*◌, ◌<◌, arith, ◌∙◌, ap, refl}
use Rattle.std.proofs.lemmas.Int.{ints, clamps}
use Rattle.std.specs.Int.{int_min}
use Rattle.octagon_matrix.specs.Terms.{opposite}
use Rattle.octagon_matrix.proofs.Terms.{opposite-opposite, opposite-below}
use Rattle.octagon_closure.specs.Sweeps.{row_from, sums, lowered, through}
use Rattle.octagon_closure.proofs.Octagons.{IsCoherent, Meets}
use Rattle.octagon_closure.proofs.Passing.{near, passed, coherent-turned}

-- ---- the two rows, over plain numbers: d is the entry, z the way back from its end to its beginning
row-to : (d x y z : ℤ) → int_min (pos 0 +ℤ x) ((z +ℤ d) +ℤ y) ≡ near x (d +ℤ z) y
row-to d x y z = omega (arith, ints, clamps)

row-on : (d x y z : ℤ) → int_min (d +ℤ x) (((z +ℤ d) +ℤ d) +ℤ y) ≡ near (d +ℤ x) (d +ℤ z) (d +ℤ y)
row-on d x y z = omega (arith, ints, clamps)

row-to_on : (d x y z : ℤ) → d +ℤ int_min (pos 0 +ℤ x) ((z +ℤ d) +ℤ y) ≡ near (d +ℤ x) (d +ℤ z) (d +ℤ y)
row-to_on d x y z = omega (arith, ints, clamps)

row-on_to : (d x y z : ℤ) → int_min (d +ℤ x) (((z +ℤ d) +ℤ d) +ℤ y) ≡ d +ℤ near x (d +ℤ z) y
row-on_to d x y z = omega (arith, ints, clamps)

both_same : (x y z w : ℤ) → x ≡ z → y ≡ w → int_min x y ≡ int_min z w
both_same x y z w e f = rw (e, f) refl

plus_same : (x y z w : ℤ) → x ≡ z → y ≡ w → x +ℤ y ≡ z +ℤ w
plus_same x y z w e f = rw (e, f) refl

turned_same : (d x y z w : ℤ) → d +ℤ x ≡ z → y ≡ d +ℤ w → x +ℤ y ≡ w +ℤ z
turned_same d x y z w e f = omega (arith, ints)

-- ia and ib': from i to a and to the opposite of b. bj and a'j: from b and from the opposite of a to j
sums-are : (d ia ib' bj a'j a'a bb' : ℤ)
    → int_min (int_min (pos 0 +ℤ ia) ((a'a +ℤ d) +ℤ ib') +ℤ int_min (d +ℤ bj) (((bb' +ℤ d) +ℤ d) +ℤ a'j)) (int_min (pos 0 +ℤ a'j) ((a'a +ℤ d) +ℤ bj) +ℤ int_min (d +ℤ ib') (((bb' +ℤ d) +ℤ d) +ℤ ia))
    ≡ int_min (near ia (d +ℤ a'a) ib' +ℤ near (d +ℤ bj) (d +ℤ bb') (d +ℤ a'j)) (near ib' (d +ℤ bb') ia +ℤ near (d +ℤ a'j) (d +ℤ a'a) (d +ℤ bj))
sums-are d ia ib' bj a'j a'a bb' =
    both_same _ _ _ _
    (plus_same _ _ _ _ (row-to d ia ib' a'a) (row-on d bj a'j bb'))
    (turned_same d _ _ _ _ (row-to_on d a'j bj a'a) (row-on_to d ib' ia bb'))

-- ---- the walks through the entry (a, b), of value d
-- from i to a, or to the opposite of b, where the twin begins: at once, or through the other entry
abbrev pub to_entry : (ℕ → ℕ → ℤ) → ℕ → ℕ → ℤ → ℕ → ℤ
to_entry m a b d i = near (m i a) (d +ℤ m (opposite a) a) (m i (opposite b))

abbrev pub to_twin : (ℕ → ℕ → ℤ) → ℕ → ℕ → ℤ → ℕ → ℤ
to_twin m a b d i = near (m i (opposite b)) (d +ℤ m b (opposite b)) (m i a)

-- through the entry or the twin to j
abbrev pub by_entry : (ℕ → ℕ → ℤ) → ℕ → ℕ → ℤ → ℕ → ℤ
by_entry m a b d j = near (d +ℤ m b j) (d +ℤ m b (opposite b)) (d +ℤ m (opposite a) j)

abbrev pub by_twin : (ℕ → ℕ → ℤ) → ℕ → ℕ → ℤ → ℕ → ℤ
by_twin m a b d j = near (d +ℤ m (opposite a) j) (d +ℤ m (opposite a) a) (d +ℤ m b j)

abbrev pub walks : (ℕ → ℕ → ℤ) → ℕ → ℕ → ℤ → ℕ → ℕ → ℤ
walks m a b d i j = int_min (to_entry m a b d i +ℤ by_entry m a b d j) (to_twin m a b d i +ℤ by_twin m a b d j)

pub walks-are : (n : ℕ) (m : ℕ → ℕ → ℤ) (a b : ℕ) (d : ℤ) (i j : ℕ) → IsCoherent n m → a < 2 * n → b < 2 * n → i < 2 * n
    → sums (row_from m (opposite a) (pos 0) b (m (opposite a) a +ℤ d)) (row_from m b d (opposite a) ((m b (opposite b) +ℤ d) +ℤ d)) i j ≡ walks m a b d i j
walks-are n m a b d i j c h k l =
    rw (c.coherent i a l h, coherent-turned n m c i b l k) (sums-are d (m i a) (m i (opposite b)) (m b j) (m (opposite a) j) (m (opposite a) a) (m b (opposite b)))

-- the walks through the entry (p, p), which is 0, are the ways by p
zero-plus : (x : ℤ) → pos 0 +ℤ x ≡ x
zero-plus x = omega (arith, ints)

zero-walks : (d ia ib' bj a'j a'a bb' : ℤ) → d ≡ pos 0
    → int_min (near ia (d +ℤ a'a) ib' +ℤ near (d +ℤ bj) (d +ℤ bb') (d +ℤ a'j)) (near ib' (d +ℤ bb') ia +ℤ near (d +ℤ a'j) (d +ℤ a'a) (d +ℤ bj))
    ≡ int_min (near ia a'a ib' +ℤ near bj bb' a'j) (near ib' bb' ia +ℤ near a'j a'a bj)
zero-walks d ia ib' bj a'j a'a bb' e = rw (e, zero-plus a'a, zero-plus bj, zero-plus bb', zero-plus a'j) refl

pub through-own : (n : ℕ) (m : ℕ → ℕ → ℤ) (p i j : ℕ) → IsCoherent n m → p < 2 * n → i < 2 * n → through m p p i j ≡ passed m p i j
through-own n m p i j c h k =
    ap (int_min (m i j)) (walks-are n m p p (m p p) i j c h h k
    ∙ zero-walks (m p p) (m i p) (m i (opposite p)) (m p j) (m (opposite p) j) (m (opposite p) p) (m p (opposite p)) (c.zero_diagonal p h))

-- ---- lowering by sums keeps coherence, and the values where each sum is a bound
pub lowered-coherent : (n : ℕ) (m : ℕ → ℕ → ℤ) (f g : ℕ → ℤ) (a b : ℕ) → IsCoherent n m → a < 2 * n → b < 2 * n → lowered m f g (opposite b) (opposite a) ≡ lowered m f g a b
lowered-coherent n m f g a b c h k = rw (opposite-opposite b) (omega (arith, ints, clamps, c.coherent a b h k))

pub lowered-meets : (n : ℕ) (m : ℕ → ℕ → ℤ) (f g : ℕ → ℤ) (v : ℕ → ℤ) → Meets n m v → ((a b : ℕ) → a < 2 * n → b < 2 * n → (v a -ℤ v b) ≤ℤ (f (opposite a) +ℤ g b)) → Meets n (lowered m f g) v
lowered-meets n m f g v w h = record {
  odd = w.odd;
  meets = λ a b i j.
      let k : (v (opposite b) -ℤ v (opposite a)) ≤ℤ (f (opposite (opposite b)) +ℤ g (opposite a)) = h (opposite b) (opposite a) (opposite-below n b j) (opposite-below n a i) in
      let l = rw (opposite-opposite b) at k in
      omega (arith, ints, clamps, w.meets a b i j, h a b i j, l, w.odd.odd a, w.odd.odd b);
}

pub lowered-back : (n : ℕ) (m : ℕ → ℕ → ℤ) (f g : ℕ → ℤ) (v : ℕ → ℤ) → Meets n (lowered m f g) v → Meets n m v
lowered-back n m f g v w = record { odd = w.odd; meets = λ a b i j. omega (arith, ints, clamps, w.meets a b i j) }

-- a bound by way of the nearer and one by way of the farther
row-holds : (n : ℕ) (m : ℕ → ℕ → ℤ) (v : ℕ → ℤ) (p : ℕ) (x : ℤ) (q : ℕ) (y u : ℤ) (c : ℕ) → Meets n m v → p < 2 * n → q < 2 * n → c < 2 * n
    → (u -ℤ v p) ≤ℤ x → (u -ℤ v q) ≤ℤ y → (u -ℤ v c) ≤ℤ row_from m p x q y c
row-holds n m v p x q y u c w h k l e f = omega (arith, ints, clamps, w.meets p c h l, w.meets q c k l)

-- values that meet the matrix meet what is lowered to its walks
pub through-meets : (n : ℕ) (m : ℕ → ℕ → ℤ) (v : ℕ → ℤ) (a b : ℕ) → a < 2 * n → b < 2 * n → Meets n m v → Meets n (through m a b) v
through-meets n m v a b h k w =
    let h' : opposite a < 2 * n = opposite-below n a h in
    let k' : opposite b < 2 * n = opposite-below n b k in
    let s : (v a -ℤ v b) ≤ℤ m a b = w.meets a b h k in
    let x : (v (opposite a) -ℤ v b) ≤ℤ (m (opposite a) a +ℤ m a b) = omega (arith, ints, w.meets (opposite a) a h' h) in
    let y : (v a -ℤ v (opposite a)) ≤ℤ ((m b (opposite b) +ℤ m a b) +ℤ m a b) = omega (arith, ints, w.meets b (opposite b) k k', w.odd.odd a, w.odd.odd b) in
    let z : (v (opposite a) -ℤ v (opposite a)) ≤ℤ pos 0 = omega (arith, ints) in
    lowered-meets n m (row_from m (opposite a) (pos 0) b (m (opposite a) a +ℤ m a b)) (row_from m b (m a b) (opposite a) ((m b (opposite b) +ℤ m a b) +ℤ m a b)) v w
    (λ i j p q. omega (
      arith,
      ints,
      row-holds n m v (opposite a) (pos 0) b (m (opposite a) a +ℤ m a b) (v (opposite a)) (opposite i) w h' k (opposite-below n i p) z x,
      row-holds n m v b (m a b) (opposite a) ((m b (opposite b) +ℤ m a b) +ℤ m a b) (v a) j w k h' q s y,
      w.odd.odd i,
      w.odd.odd a,
    ))

pub through-back : (n : ℕ) (m : ℕ → ℕ → ℤ) (v : ℕ → ℤ) (a b : ℕ) → Meets n (through m a b) v → Meets n m v
through-back n m v a b w = lowered-back n m (row_from m (opposite a) (pos 0) b (m (opposite a) a +ℤ m a b)) (row_from m b (m a b) (opposite a) ((m b (opposite b) +ℤ m a b) +ℤ m a b)) v w
