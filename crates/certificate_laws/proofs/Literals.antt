-- Literals that have one text are one literal.
use Rattle.std.proofs.Common.{◌≡◌, ℕ, ◌<◌, ◌≤◌, ◌^◌, ℤ, pos, negsuc, ◌<ℤ◌, ◌-ℤ◌, unsigned_abs, Bool, true, false, not, ◌&&◌, true≢false, List, [], ◌∷◌, ◌++◌, codes, ◌⊎◌, inl, inr, length, get_or, drop, refl, sym, ap, subst, ◌∙◌, arith, append_assoc, append-nil}
use Rattle.std.specs.Prelude.{nat_eq, int_lt, if◌then◌else◌, ⊤}
use Rattle.std.specs.Ordering.{int_eq}
use Rattle.std.specs.Fmt.{decimal, signed_decimal}
use Rattle.std.proofs.lemmas.Fmt.{decimal_injective, signed_decimal_injective, decimal_nonempty}
use lib.Signed.{mag}
use Rattle.std.proofs.lemmas.Int.{ints}
use Rattle.std.proofs.lemmas.Bool.Decides.{nat_tests}
use Rattle.linear_atoms.specs.declared.atoms.Atom.{Atom}
use Rattle.linear_atoms.specs.declared.atoms.Feature.{Feature}
use Rattle.linear_atoms.specs.declared.atoms.Literal.{Literal}
use Rattle.linear_atoms.specs.Forms.{is_small, are_small}
use Rattle.linear_atoms.specs.Atoms.{AreBelow, LeadsPositive, IsAtom}
use Rattle.linear_atoms.specs.Texts.{name_at, sized_text, terms_text, is_switch, literal_by, literal_text}
use Rattle.certificate_laws.proofs.Naming.{IsWordByte, IsName, HaveNames}
use Rattle.certificate_laws.proofs.Words.{AreDigits, are_digits, digits_words, name_words, Stops, one_run}

pub by_truth : (b : Bool) → (b ≡ true) ⊎ (b ≡ false)
by_truth true = inl refl
by_truth false = inr refl

-- ---- a size and a name

star_stops : ¬ (IsWordByte 42)
star_stops h = omega (arith, h.0)

space_stops : ¬ (IsWordByte 32)
space_stops h = omega (arith, h.0)

abbrev sized : ℕ → List ℕ → List ℕ
sized k name = (if nat_eq k 1 then [] else decimal k ++ codes "*") ++ name

sized_once : (k : ℕ) (name r : List ℕ) → nat_eq k 1 ≡ true → sized k name ++ r ≡ name ++ r
sized_once k name r e = ap (λ b. ((if b then [] else decimal k ++ codes "*") ++ name) ++ r) e

sized_more : (k : ℕ) (name r : List ℕ) → nat_eq k 1 ≡ false → sized k name ++ r ≡ decimal k ++ 42 ∷ (name ++ r)
sized_more k name r e = ap (λ b. ((if b then [] else decimal k ++ codes "*") ++ name) ++ r) e ∙ ap (λ t. t ++ r) (append_assoc (decimal k) (42 ∷ []) name) ∙ append_assoc (decimal k) (42 ∷ name) r

number_is_one : (k : ℕ) → nat_eq k 1 ≡ true → k ≡ 1
number_is_one k e = grind (arith, nat_tests)

-- a name begins with no digit
not_number : (name r ds s : List ℕ) → IsName name → 0 < length ds → AreDigits ds → name ++ r ≡ ds ++ s → ⊥
not_number [] r ds s h some digits e = h
not_number (b ∷ bs) r [] s h some digits e = omega (arith, some)
not_number (b ∷ bs) r (d ∷ ds) s h some digits e = let same : b ≡ d = cc in omega (arith, same, h.0, digits.0)

pub one_sized : (k j : ℕ) (name other r s : List ℕ) → k < 2 ^ 64 → j < 2 ^ 64 → IsName name → IsName other → Stops r → Stops s
    → sized k name ++ r ≡ sized j other ++ s → (k ≡ j) × (name ≡ other) × (r ≡ s)
one_sized k j name other r s small little p q h l e = by (by_truth (nat_eq k 1)) (by_truth (nat_eq j 1))
  where
    by : (nat_eq k 1 ≡ true) ⊎ (nat_eq k 1 ≡ false) → (nat_eq j 1 ≡ true) ⊎ (nat_eq j 1 ≡ false) → (k ≡ j) × (name ≡ other) × (r ≡ s)
    by (inl a) (inl b) =
        let run = one_run name other r s (name_words name p) (name_words other q) h l (sym (sized_once k name r a) ∙ e ∙ sized_once j other s b) in
        (number_is_one k a ∙ sym (number_is_one j b), run.0, run.1)
    by (inl a) (inr b) =
        absurd (not_number name r (decimal j) (42 ∷ (other ++ s)) p (decimal_nonempty j little) (are_digits j little) (sym (sized_once k name r a) ∙ e ∙ sized_more j other s b))
    by (inr a) (inl b) =
        absurd (not_number other s (decimal k) (42 ∷ (name ++ r)) q (decimal_nonempty k small) (are_digits k small) (sym (sized_once j other s b) ∙ sym e ∙ sized_more k name r a))
    by (inr a) (inr b) =
        let numbers = one_run (decimal k) (decimal j) (42 ∷ (name ++ r)) (42 ∷ (other ++ s)) (digits_words (decimal k) (are_digits k small)) (digits_words (decimal j) (are_digits j little)) star_stops star_stops
        (sym (sized_more k name r a) ∙ e ∙ sized_more j other s b) in
        let behind : name ++ r ≡ other ++ s = ap (drop 1) numbers.1 in
        let run = one_run name other r s (name_words name p) (name_words other q) h l behind in
        (decimal_injective k j small little numbers.0, run.0, run.1)

-- ---- terms behind others

abbrev mark : Bool → ℕ
mark true = 45
mark false = 43

one_mark : (a b : Bool) → mark a ≡ mark b → a ≡ b
one_mark true true e = refl
one_mark true false e = absurd (omega (arith, e))
one_mark false true e = absurd (omega (arith, e))
one_mark false false e = refl

signed : (b : Bool) → (if b then codes " - " else codes " + ") ≡ 32 ∷ mark b ∷ 32 ∷ []
signed true = refl
signed false = refl

not_below : (n : ℕ) → int_lt (pos n) (pos 0) ≡ false
not_below n = grind (arith, ints)

is_below : (n : ℕ) → int_lt (negsuc n) (pos 0) ≡ true
is_below n = grind (arith, ints)

one_coefficient : (a b : ℤ) → int_lt a (pos 0) ≡ int_lt b (pos 0) → unsigned_abs a ≡ unsigned_abs b → a ≡ b
one_coefficient (pos n) (pos m) e f = ap pos f
one_coefficient (pos n) (negsuc m) e f = absurd (true≢false (sym (is_below m) ∙ sym e ∙ not_below n))
one_coefficient (negsuc n) (pos m) e f = absurd (true≢false (sym (is_below n) ∙ e ∙ not_below m))
one_coefficient (negsuc n) (negsuc m) e f = let g : n ≡ m = omega (arith, f) in ap negsuc g

abbrev pub size : ℤ → ℕ
size a = unsigned_abs a

term_more : (fs : List Feature) (t : ℕ × ℤ) (ts : List (ℕ × ℤ)) (x : List ℕ)
    → terms_text false fs (t ∷ ts) ++ x ≡ 32 ∷ mark (int_lt t.1 (pos 0)) ∷ 32 ∷ (sized (size t.1) (name_at fs t.0) ++ (terms_text false fs ts ++ x))
term_more fs t ts x =
    ap (λ s. ((s ++ sized_text t.1 (name_at fs t.0)) ++ terms_text false fs ts) ++ x) (signed (int_lt t.1 (pos 0)))
    ∙ append_assoc (32 ∷ mark (int_lt t.1 (pos 0)) ∷ 32 ∷ sized_text t.1 (name_at fs t.0)) (terms_text false fs ts) x
    ∙ append_assoc (32 ∷ mark (int_lt t.1 (pos 0)) ∷ 32 ∷ []) (sized_text t.1 (name_at fs t.0)) (terms_text false fs ts ++ x)

-- the text ends, or goes on with ` <`, ` =` or ` >`
abbrev pub Ends : List ℕ → Type 0
Ends [] = ⊤
Ends (b ∷ []) = ⊥
Ends (b ∷ c ∷ bs) = (b ≡ 32) × (60 ≤ c) × (c ≤ 62)

ends_stop : (x : List ℕ) → Ends x → Stops x
ends_stop [] h = tt
ends_stop (b ∷ []) h = absurd h
ends_stop (b ∷ c ∷ x) h = λ w. space_stops (subst IsWordByte h.0 w)

terms_stop : (fs : List Feature) (ts : List (ℕ × ℤ)) (x : List ℕ) → Ends x → Stops (terms_text false fs ts ++ x)
terms_stop fs [] x h = ends_stop x h
terms_stop fs (t ∷ ts) x h = subst Stops (sym (term_more fs t ts x)) space_stops

-- no terms follow an end
no_term : (x : List ℕ) (b : Bool) (r : List ℕ) → Ends x → x ≡ 32 ∷ mark b ∷ r → ⊥
no_term [] b r h e = let l : 0 ≡ length (32 ∷ mark b ∷ r) = ap length e in omega (arith, l)
no_term (a ∷ []) b r h e = h
no_term (a ∷ c ∷ x) true r h e = let same : c ≡ 45 = ap (λ t. get_or t 1 0) e in omega (arith, same, h.1)
no_term (a ∷ c ∷ x) false r h e = let same : c ≡ 43 = ap (λ t. get_or t 1 0) e in omega (arith, same, h.1)

size_small : (a : ℤ) → is_small a ≡ true → size a < 2 ^ 64
size_small a h = let k : unsigned_abs a ≤ 2147483648 = grind (arith, nat_tests) in omega (arith, k)

and_left : (a b : Bool) → (a && b) ≡ true → a ≡ true
and_left true b e = refl
and_left false b e = e

and_right : (a b : Bool) → (a && b) ≡ true → b ≡ true
and_right true b e = e
and_right false b e = absurd (true≢false (sym e))

-- terms of features, with small coefficients
pub record AreShown (fs : List Feature) (ts : List (ℕ × ℤ)) : Type 0 where
  pub below : AreBelow (length fs) ts
  pub small : are_small ts ≡ true

pub shown_behind : (fs : List Feature) (t : ℕ × ℤ) (ts : List (ℕ × ℤ)) → AreShown fs (t ∷ ts) → AreShown fs ts
shown_behind fs t ts h = record { below = h.below.1; small = and_right (is_small t.1) (are_small ts) h.small }

pub first_small : (fs : List Feature) (t : ℕ × ℤ) (ts : List (ℕ × ℤ)) → AreShown fs (t ∷ ts) → size t.1 < 2 ^ 64
first_small fs t ts h = size_small t.1 (and_left (is_small t.1) (are_small ts) h.small)

pub one_terms : (fs : List Feature) → HaveNames fs → (ts us : List (ℕ × ℤ)) (x y : List ℕ) → AreShown fs ts → AreShown fs us → Ends x → Ends y
    → terms_text false fs ts ++ x ≡ terms_text false fs us ++ y → (ts ≡ us) × (x ≡ y)
one_terms fs named [] [] x y p q h k e = (refl, e)
one_terms fs named [] (u ∷ us) x y p q h k e = absurd (no_term x (int_lt u.1 (pos 0)) _ h (e ∙ term_more fs u us y))
one_terms fs named (t ∷ ts) [] x y p q h k e = absurd (no_term y (int_lt t.1 (pos 0)) _ k (sym e ∙ term_more fs t ts x))
one_terms fs named (t ∷ ts) (u ∷ us) x y p q h k e =
    let both = sym (term_more fs t ts x) ∙ e ∙ term_more fs u us y in
    let signs = one_mark (int_lt t.1 (pos 0)) (int_lt u.1 (pos 0)) (ap (λ v. get_or v 1 0) both) in
    let parts = one_sized (size t.1) (size u.1) (name_at fs t.0) (name_at fs u.0) (terms_text false fs ts ++ x) (terms_text false fs us ++ y) (first_small fs t ts p) (first_small fs u us q)
    (named.are t.0 p.below.0) (named.are u.0 q.below.0) (terms_stop fs ts x h) (terms_stop fs us y k) (ap (drop 3) both) in
    let number = named.apart t.0 u.0 p.below.0 q.below.0 parts.1 in
    let coefficient = one_coefficient t.1 u.1 signs parts.0 in
    let rest = one_terms fs named ts us x y (shown_behind fs t ts p) (shown_behind fs u us q) h k parts.2 in
    (λ i. (number i, coefficient i) ∷ rest.0 i, rest.1)

-- ---- the first terms

first_term : (fs : List Feature) (t : ℕ × ℤ) (ts : List (ℕ × ℤ)) (x : List ℕ) → pos 0 <ℤ t.1
    → terms_text true fs (t ∷ ts) ++ x ≡ sized (size t.1) (name_at fs t.0) ++ (terms_text false fs ts ++ x)
first_term fs t ts x h =
    let above : int_lt t.1 (pos 0) ≡ false = grind (arith, ints) in
    ap (λ b. (((if b then codes "-" else []) ++ sized_text t.1 (name_at fs t.0)) ++ terms_text false fs ts) ++ x) above
    ∙ append_assoc (sized_text t.1 (name_at fs t.0)) (terms_text false fs ts) x

no_terms : ¬ (LeadsPositive [])
no_terms h = h

pub first_terms : (fs : List Feature) → HaveNames fs → (ts us : List (ℕ × ℤ)) (x y : List ℕ) → AreShown fs ts → AreShown fs us → LeadsPositive ts → LeadsPositive us → Ends x → Ends y
    → terms_text true fs ts ++ x ≡ terms_text true fs us ++ y → (ts ≡ us) × (x ≡ y)
first_terms fs named [] us x y p q l m h k e = absurd l
first_terms fs named (t ∷ ts) [] x y p q l m h k e = absurd m
first_terms fs named (t ∷ ts) (u ∷ us) x y p q l m h k e =
    let both = sym (first_term fs t ts x l) ∙ e ∙ first_term fs u us y m in
    let parts = one_sized (size t.1) (size u.1) (name_at fs t.0) (name_at fs u.0) (terms_text false fs ts ++ x) (terms_text false fs us ++ y) (first_small fs t ts p) (first_small fs u us q)
    (named.are t.0 p.below.0) (named.are u.0 q.below.0) (terms_stop fs ts x h) (terms_stop fs us y k) both in
    let number = named.apart t.0 u.0 p.below.0 q.below.0 parts.1 in
    let left : pos 0 <ℤ t.1 = l in
    let right : pos 0 <ℤ u.1 = m in
    let signs : int_lt t.1 (pos 0) ≡ int_lt u.1 (pos 0) = grind (arith, ints) in
    let coefficient = one_coefficient t.1 u.1 signs parts.0 in
    let rest = one_terms fs named ts us x y (shown_behind fs t ts p) (shown_behind fs u us q) h k parts.2 in
    (λ i. (number i, coefficient i) ∷ rest.0 i, rest.1)

-- terms do not begin with `!`
pub no_bang : (fs : List Feature) → HaveNames fs → (ts : List (ℕ × ℤ)) (x r : List ℕ) → AreShown fs ts → LeadsPositive ts → terms_text true fs ts ++ x ≡ 33 ∷ r → ⊥
no_bang fs named [] x r p l e = l
no_bang fs named (t ∷ ts) x r p l e = by (by_truth (nat_eq (size t.1) 1))
  where
    text : sized (size t.1) (name_at fs t.0) ++ (terms_text false fs ts ++ x) ≡ 33 ∷ r
    text = sym (first_term fs t ts x l) ∙ e

    name : (n s : List ℕ) → IsName n → n ++ s ≡ 33 ∷ r → ⊥
    name [] s h f = h
    name (b ∷ bs) s h f = let same : b ≡ 33 = cc in omega (arith, same, h.0)

    digits : (ds s : List ℕ) → 0 < length ds → AreDigits ds → ds ++ s ≡ 33 ∷ r → ⊥
    digits [] s some h f = omega (arith, some)
    digits (d ∷ ds) s some h f = let same : d ≡ 33 = cc in omega (arith, same, h.0)

    by : (nat_eq (size t.1) 1 ≡ true) ⊎ (nat_eq (size t.1) 1 ≡ false) → ⊥
    by (inl a) = name (name_at fs t.0) (terms_text false fs ts ++ x) (named.are t.0 p.below.0) (sym (sized_once (size t.1) (name_at fs t.0) (terms_text false fs ts ++ x) a) ∙ text)
    by (inr a) =
        let small = first_small fs t ts p in
        digits (decimal (size t.1)) (42 ∷ (name_at fs t.0 ++ (terms_text false fs ts ++ x))) (decimal_nonempty (size t.1) small) (are_digits (size t.1) small)
        (sym (sized_more (size t.1) (name_at fs t.0) (terms_text false fs ts ++ x) a) ∙ text)

-- ---- literals

abbrev pub bang : Bool → List ℕ
bang true = 33 ∷ []
bang false = []

abbrev pub tail : Bool → Bool → ℤ → List ℕ
tail true p b = []
tail false true b = codes " >= " ++ signed_decimal b
tail false false b = codes " <= " ++ signed_decimal (b -ℤ pos 1)

pub parts : (s p : Bool) (t : List ℕ) (b : ℤ) → literal_by s p t b ≡ bang (s && not p) ++ (t ++ tail s p b)
parts true true t b = sym (append-nil t)
parts true false t b = ap (λ v. 33 ∷ v) (sym (append-nil t))
parts false true t b = append_assoc t (codes " >= ") (signed_decimal b)
parts false false t b = append_assoc t (codes " <= ") (signed_decimal (b -ℤ pos 1))

pub tail_ends : (s p : Bool) (b : ℤ) → Ends (tail s p b)
tail_ends true p b = tt
tail_ends false true b = (refl, omega arith, omega arith)
tail_ends false false b = (refl, omega arith, omega arith)

abbrev pub IsBound : ℤ → Type 0
IsBound b = unsigned_abs b ≤ 2147483649

pub bound_mag : (b : ℤ) → IsBound b → mag b < 2 ^ 63
bound_mag (pos n) h = omega (arith, h)
bound_mag (negsuc n) h = omega (arith, h)

pub one_bound : (b c : ℤ) → IsBound b → IsBound c → signed_decimal b ≡ signed_decimal c → b ≡ c
one_bound b c h k e = signed_decimal_injective b c (bound_mag b h) (bound_mag c k) e

pub below_bound : (b : ℤ) → IsBound b → mag (b -ℤ pos 1) < 2 ^ 63
below_bound b h = grind (arith, ints)

below_injective : (b c : ℤ) → b -ℤ pos 1 ≡ c -ℤ pos 1 → b ≡ c
below_injective b c e = omega (arith, ints, e)

not_injective : (p q : Bool) → not p ≡ not q → p ≡ q
not_injective true true e = refl
not_injective true false e = sym e
not_injective false true e = sym e
not_injective false false e = refl

one_tail : (s p t q : Bool) (b c : ℤ) → IsBound b → IsBound c → (s ≡ true → b ≡ pos 1) → (t ≡ true → c ≡ pos 1) → (s && not p) ≡ (t && not q) → tail s p b ≡ tail t q c → (p ≡ q) × (b ≡ c)
one_tail true p true q b c h k f g n e = (not_injective p q n, f refl ∙ sym (g refl))
one_tail true p false true b c h k f g n e = let l : 0 ≡ length (codes " >= " ++ signed_decimal c) = ap length e in absurd (omega (arith, l))
one_tail true p false false b c h k f g n e = let l : 0 ≡ length (codes " <= " ++ signed_decimal (c -ℤ pos 1)) = ap length e in absurd (omega (arith, l))
one_tail false true true q b c h k f g n e = let l : length (codes " >= " ++ signed_decimal b) ≡ 0 = ap length e in absurd (omega (arith, l))
one_tail false false true q b c h k f g n e = let l : length (codes " <= " ++ signed_decimal (b -ℤ pos 1)) ≡ 0 = ap length e in absurd (omega (arith, l))
one_tail false true false true b c h k f g n e = (refl, one_bound b c h k (ap (drop 4) e))
one_tail false true false false b c h k f g n e = absurd (omega (arith, ap (λ v. get_or v 1 0) e))
one_tail false false false true b c h k f g n e = absurd (omega (arith, ap (λ v. get_or v 1 0) e))
one_tail false false false false b c h k f g n e =
    (refl, below_injective b c (signed_decimal_injective (b -ℤ pos 1) (c -ℤ pos 1) (below_bound b h) (below_bound c k) (ap (drop 4) e)))

pub one_front : (a b : Bool) (t u : List ℕ) → ((r : List ℕ) → t ≡ 33 ∷ r → ⊥) → ((r : List ℕ) → u ≡ 33 ∷ r → ⊥) → bang a ++ t ≡ bang b ++ u → (a ≡ b) × (t ≡ u)
one_front true true t u h k e = (refl, ap (drop 1) e)
one_front true false t u h k e = absurd (k t (sym e))
one_front false true t u h k e = absurd (h u e)
one_front false false t u h k e = (refl, e)

-- the bound of a switch is 1
switch_bound : (fs : List Feature) (ts : List (ℕ × ℤ)) (b : ℤ) → is_switch fs ts b ≡ true → b ≡ pos 1
switch_bound fs [] b e = absurd (true≢false (sym e))
switch_bound fs (t ∷ []) b e = one_is b (and_right _ (int_eq b (pos 1)) e)
  where
    one_is : (b : ℤ) → int_eq b (pos 1) ≡ true → b ≡ pos 1
    one_is b e = grind (arith, ints)
switch_bound fs (t ∷ u ∷ ts) b e = absurd (true≢false (sym e))

pub shown : (fs : List Feature) (a : Atom) → IsAtom (length fs) a → AreShown fs a.terms
shown fs a h = record { below = h.below; small = h.small }

pub one_literal : (fs : List Feature) (l m : Literal) → HaveNames fs → IsAtom (length fs) l.atom → IsAtom (length fs) m.atom → literal_text fs l ≡ literal_text fs m → l ≡ m
one_literal fs l m named p q e =
    let s = is_switch fs l.atom.terms l.atom.bound in
    let t = is_switch fs m.atom.terms m.atom.bound in
    let x = tail s l.positive l.atom.bound in
    let y = tail t m.positive m.atom.bound in
    let ts = shown fs l.atom p in
    let us = shown fs m.atom q in
    let split = sym (parts s l.positive (terms_text true fs l.atom.terms) l.atom.bound) ∙ e ∙ parts t m.positive (terms_text true fs m.atom.terms) m.atom.bound in
    let fronts = one_front (s && not l.positive) (t && not m.positive) (terms_text true fs l.atom.terms ++ x) (terms_text true fs m.atom.terms ++ y)
    (λ r. no_bang fs named l.atom.terms x r ts p.positive) (λ r. no_bang fs named m.atom.terms y r us q.positive) split in
    let terms = first_terms fs named l.atom.terms m.atom.terms x y ts us p.positive q.positive (tail_ends s l.positive l.atom.bound) (tail_ends t m.positive m.atom.bound) fronts.1 in
    let tails = one_tail s l.positive t m.positive l.atom.bound m.atom.bound p.bounded q.bounded (switch_bound fs l.atom.terms l.atom.bound) (switch_bound fs m.atom.terms m.atom.bound) fronts.0 terms.1 in
    λ i. record { atom = record { terms = terms.0 i; bound = tails.1 i }; positive = tails.0 i }
