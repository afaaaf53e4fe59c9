-- Products of whole numbers.
use Rattle.std.proofs.Common.{◌≡◌, ℤ, pos, neg_ℤ, ◌+ℤ◌, ◌-ℤ◌, ◌*ℤ◌, sym, ap, subst, refl, ◌∙◌, arith}
use Rattle.std.proofs.Math.IntN.{suc_ℤ, pred_ℤ, suc_ℤ-*ℤ, pred_ℤ-*ℤ, suc_ℤ-+ℤ, pred_ℤ-+ℤ, zero-*ℤ, *ℤ_comm, ℤ_ind, +ℤ_one, -ℤ_one, +ℤ_idl}
use Rattle.std.proofs.lemmas.Int.{ints}

next_sum : (m b c : ℤ) → (m +ℤ b) *ℤ c ≡ m *ℤ c +ℤ b *ℤ c → (suc_ℤ m +ℤ b) *ℤ c ≡ suc_ℤ m *ℤ c +ℤ b *ℤ c
next_sum m b c h = rw (suc_ℤ-+ℤ m b, suc_ℤ-*ℤ (m +ℤ b) c, suc_ℤ-*ℤ m c) (omega (arith, ints))

last_sum : (m b c : ℤ) → (m +ℤ b) *ℤ c ≡ m *ℤ c +ℤ b *ℤ c → (pred_ℤ m +ℤ b) *ℤ c ≡ pred_ℤ m *ℤ c +ℤ b *ℤ c
last_sum m b c h = rw (pred_ℤ-+ℤ m b, pred_ℤ-*ℤ (m +ℤ b) c, pred_ℤ-*ℤ m c) (omega (arith, ints))

abbrev Splits : ℤ → ℤ → ℤ → Type 0
Splits b c m = (m +ℤ b) *ℤ c ≡ m *ℤ c +ℤ b *ℤ c

abbrev Regroups : ℤ → ℤ → ℤ → Type 0
Regroups b c m = (m *ℤ b) *ℤ c ≡ m *ℤ (b *ℤ c)

-- a sum times a number
pub sum-times : (a b c : ℤ) → (a +ℤ b) *ℤ c ≡ a *ℤ c +ℤ b *ℤ c
sum-times a b c =
    ℤ_ind (Splits b c)
    (rw (+ℤ_idl b, zero-*ℤ c) (omega (arith, ints)))
    (λ n h. subst (Splits b c) (sym (+ℤ_one (pos n))) (next_sum (pos n) b c h))
    (λ n h. subst (Splits b c) (sym (-ℤ_one (neg_ℤ (pos n)))) (last_sum (neg_ℤ (pos n)) b c h))
    a

pub times-sum : (a b c : ℤ) → a *ℤ (b +ℤ c) ≡ a *ℤ b +ℤ a *ℤ c
times-sum a b c = rw (*ℤ_comm a (b +ℤ c), sum-times b c a, *ℤ_comm b a, *ℤ_comm c a) refl

next_product : (m b c : ℤ) → (m *ℤ b) *ℤ c ≡ m *ℤ (b *ℤ c) → (suc_ℤ m *ℤ b) *ℤ c ≡ suc_ℤ m *ℤ (b *ℤ c)
next_product m b c h = rw (suc_ℤ-*ℤ m b, sum-times (m *ℤ b) b c, suc_ℤ-*ℤ m (b *ℤ c), h) refl

last_product : (m b c : ℤ) → (m *ℤ b) *ℤ c ≡ m *ℤ (b *ℤ c) → (pred_ℤ m *ℤ b) *ℤ c ≡ pred_ℤ m *ℤ (b *ℤ c)
last_product m b c h =
    let e : (pred_ℤ m *ℤ b +ℤ b) *ℤ c ≡ (pred_ℤ m *ℤ b) *ℤ c +ℤ b *ℤ c = sum-times (pred_ℤ m *ℤ b) b c in
    let f : pred_ℤ m *ℤ b +ℤ b ≡ m *ℤ b = rw (pred_ℤ-*ℤ m b) (omega (arith, ints)) in
    let g : pred_ℤ m *ℤ (b *ℤ c) ≡ m *ℤ (b *ℤ c) -ℤ b *ℤ c = pred_ℤ-*ℤ m (b *ℤ c) in
    let k : (pred_ℤ m *ℤ b +ℤ b) *ℤ c ≡ (m *ℤ b) *ℤ c = ap (λ x. x *ℤ c) f in
    omega (arith, ints)

pub times-times : (a b c : ℤ) → (a *ℤ b) *ℤ c ≡ a *ℤ (b *ℤ c)
times-times a b c =
    ℤ_ind (Regroups b c)
    (rw (zero-*ℤ b, zero-*ℤ c, zero-*ℤ (b *ℤ c)) refl)
    (λ n h. subst (Regroups b c) (sym (+ℤ_one (pos n))) (next_product (pos n) b c h))
    (λ n h. subst (Regroups b c) (sym (-ℤ_one (neg_ℤ (pos n)))) (last_product (neg_ℤ (pos n)) b c h))
    a

-- a number may go past a product
pub past : (a k v : ℤ) → (a *ℤ k) *ℤ v ≡ (a *ℤ v) *ℤ k
past a k v = times-times a k v ∙ ap (λ x. a *ℤ x) (*ℤ_comm k v) ∙ sym (times-times a v k)
