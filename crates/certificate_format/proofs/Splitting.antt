-- Texts cut at prefixes and separators.
use Rattle.std.proofs.Common.{◌≡◌, ◌≢◌, inl, inr, ℕ, ◌+◌, ◌<◌, ◌≤◌, false, List, ◌++◌, length, take, drop, get_or, get_or-append-add, length-append, take-append-drop, take_at, drop_at, refl, sym, ap, subst, ◌∙◌, arith, true≢false, add-zero}
use Rattle.std.specs.Str.{bytes_eq}
use Rattle.std.proofs.lemmas.Bool.{cases_order}
use Rattle.std.proofs.lemmas.List.{append_cancel_left, get_or_append_left, length-take-le, drop-drop}
use Rattle.std.proofs.lemmas.List.Prefix.{at_from_reads}
use Rattle.std.proofs.lemmas.Slice.Eq.{bytes_eq-Decides}
use Rattle.memchr.specs.Find.{OccursAt, NoneBefore, Nowhere}
use Rattle.certificate_format.specs.Cuts.{Lacks, IsCut}

-- ---- prefixes

pub not_front : (text prefix rest : List ℕ) → bytes_eq (take (length prefix) text) prefix ≡ false → text ≡ prefix ++ rest → ⊥
not_front text prefix rest h e =
    true≢false (sym ((bytes_eq-Decides (take (length prefix) text) prefix).1 (ap (take (length prefix)) e ∙ take_at prefix rest (length prefix) refl)) ∙ h)

-- ---- cuts

-- where a separator behind a front stands
pub occurs : (s t a r : List ℕ) → t ≡ a ++ (s ++ r) → OccursAt t s (length a)
occurs s t a r e =
    let l : length t ≡ length a + (length s + length r) = ap length e ∙ length-append a (s ++ r) ∙ ap (λ n. length a + n) (length-append s r) in
    record {
      fits = omega (arith, l);
      reads = λ j h. ap (λ u. get_or u (length a + j) 0) e ∙ get_or-append-add a (s ++ r) j 0 ∙ get_or_append_left s r 0 j h;
    }

pub cut_occurs : (s t a r : List ℕ) → IsCut s t a r → OccursAt t s (length a)
cut_occurs s t a r c = occurs s t a r c.whole

pub none_cut : (s t a r : List ℕ) → Lacks s t → IsCut s t a r → ⊥
none_cut s t a r h c = h (length a) (cut_occurs s t a r c)

same_cut : (s t a r b q : List ℕ) → length a ≡ length b → t ≡ a ++ (s ++ r) → t ≡ b ++ (s ++ q) → (a ≡ b) × (r ≡ q)
same_cut s t a r b q l e f =
    let fronts : a ≡ b = sym (take_at a (s ++ r) (length a) refl) ∙ ap (take (length a)) (sym e ∙ f) ∙ take_at b (s ++ q) (length a) (sym l) in
    let backs : s ++ r ≡ s ++ q = sym (drop_at a (s ++ r) (length a) refl) ∙ ap (drop (length a)) (sym e ∙ f) ∙ drop_at b (s ++ q) (length a) (sym l) in
    (fronts, append_cancel_left s r q backs)

-- a text is cut in one way
pub one_cut : (s t a r b q : List ℕ) → IsCut s t a r → IsCut s t b q → (a ≡ b) × (r ≡ q)
one_cut s t a r b q c d =
    elim (cases_order (length a) (length b)) [
      | inl same ↦ same_cut s t a r b q same c.whole d.whole
      | inr (inl less) ↦ absurd (d.first (length a) less (cut_occurs s t a r c))
      | inr (inr more) ↦ absurd (c.first (length b) more (cut_occurs s t b q d))
    ]

-- no byte of the text is the first of the separator
abbrev pub Avoids : List ℕ → List ℕ → Type 0
Avoids s a = (0 < length s) × ((k : ℕ) → k < length a → get_or a k 0 ≢ get_or s 0 0)

-- a front without the first byte of the separator is cut off
pub avoiding_cut : (s t a r : List ℕ) → Avoids s a → t ≡ a ++ (s ++ r) → IsCut s t a r
avoiding_cut s t a r h e = record {
  whole = e;
  first = λ k l o.
      let reads : get_or t k 0 ≡ get_or s 0 0 = subst (λ n. get_or t n 0 ≡ get_or s 0 0) (add-zero k) (o.reads 0 h.0) in
      h.1 k l (sym (ap (λ u. get_or u k 0) e ∙ get_or_append_left a (s ++ r) 0 k l) ∙ reads);
}

found : (s t : List ℕ) (k : ℕ) → OccursAt t s k → drop k t ≡ s ++ drop (length s) (drop k t)
found s t k o = at_from_reads 0 t s k o.fits o.reads ∙ ap (λ u. s ++ u) (sym (drop-drop (length s) k t))

-- what a search finds
pub found_cut : (s t : List ℕ) (k : ℕ) → NoneBefore (OccursAt t s) 0 (length t + 1) k → OccursAt t s k → IsCut s t (take k t) (drop (length s) (drop k t))
found_cut s t k n o =
    let l : k ≤ length t = omega (arith, o.fits) in
    let front : length (take k t) ≡ k = length-take-le k t l in
    record {
      whole = sym (take-append-drop k t) ∙ ap (λ u. take k t ++ u) (found s t k o);
      first = λ j h p. n.before j (omega arith) (omega (arith, h, front)) p;
    }

pub not_found : (s t : List ℕ) → Nowhere (OccursAt t s) 0 (length t + 1) → Lacks s t
not_found s t n k o = n k (omega arith) (omega (arith, o.fits)) o
