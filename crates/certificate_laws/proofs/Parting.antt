-- Each text is cut at a separator, or lacks it; and so falls into parts.
use Rattle.std.proofs.Common.{◌≡◌, ◌⊎◌, inl, inr, ℕ, zero, suc, ◌+◌, ◌<◌, ◌≤◌, List, [], ◌∷◌, ◌++◌, length, take, drop, take-append-drop, length-append, length-take-le, drop-drop, refl, sym, ap, subst, ◌∙◌, arith}
use Rattle.std.proofs.lemmas.List.Prefix.{at_from_reads}
use Rattle.memchr.specs.Find.{OccursAt}
use Rattle.certificate_format.specs.Cuts.{Lacks, IsCut, Begins}
use Rattle.certificate_format.proofs.Splitting.{occurs, found_cut, not_found}
use Rattle.certificate_laws.proofs.Deciding.{decided_like, up_to_or_above, IsFoundBelow, search_below, HasFront, has_front}

-- ---- one cut

-- where a text is cut first
pub record IsCutSomewhere (s t : List ℕ) : Type 0 where
  pub front : List ℕ
  pub rest : List ℕ
  pub cut : IsCut s t front rest

front_there : (s t : List ℕ) (k : ℕ) → OccursAt t s k → HasFront s (drop k t)
front_there s t k o = (drop (length s) (drop k t), at_from_reads 0 t s k o.fits o.reads ∙ ap (λ u. s ++ u) (sym (drop-drop (length s) k t)))

there_front : (s t : List ℕ) (k : ℕ) → k ≤ length t → HasFront s (drop k t) → OccursAt t s k
there_front s t k fits h =
    subst (OccursAt t s) (length-take-le k t fits) (occurs s t (take k t) h.0 (sym (take-append-drop k t) ∙ ap (λ u. take k t ++ u) h.1))

occurs_by : (s t : List ℕ) (k : ℕ) → (k ≤ length t) ⊎ (length t < k) → Dec (OccursAt t s k)
occurs_by s t k (inl fits) = decided_like (there_front s t k fits) (front_there s t k) (has_front s (drop k t))
occurs_by s t k (inr far) = no (λ o. omega (arith, far, o.fits))

cut_by : (s t : List ℕ) → IsFoundBelow (OccursAt t s) (length t + 1) ⊎ ((k : ℕ) → k < length t + 1 → ¬ (OccursAt t s k)) → Lacks s t ⊎ IsCutSomewhere s t
cut_by s t (inl f) = inr (record {
  front = take f.number t;
  rest = drop (length s) (drop f.number t);
  cut = found_cut s t f.number (record { low = omega arith; high = f.below; before = λ k low less. f.first k less }) f.holds;
})
cut_by s t (inr none) = inl (not_found s t (λ k low less. none k less))

pub cut_or_lacks : (s t : List ℕ) → Lacks s t ⊎ IsCutSomewhere s t
cut_or_lacks s t = cut_by s t (search_below (OccursAt t s) (λ k. occurs_by s t k (up_to_or_above (length t) k)) (length t + 1))

-- what is behind a cut is shorter
pub shorter : (s t a r : List ℕ) → 0 < length s → IsCut s t a r → length r < length t
shorter s t a r some c =
    let l : length t ≡ length a + (length s + length r) = ap length c.whole ∙ length-append a (s ++ r) ∙ ap (λ n. length a + n) (length-append s r) in
    omega (arith, some, l)

-- ---- all cuts

pub record HasParts (s t : List ℕ) : Type 0 where
  pub parts : List (List ℕ)
  pub last : List ℕ
  pub begins : Begins s t parts last
  pub ends : Lacks s last

module _ (s : List ℕ) (some : 0 < length s) where
  parts_by : (n : ℕ) (t : List ℕ) → length t < n → Lacks s t ⊎ IsCutSomewhere s t → HasParts s t
  parts_by n t h (inl lacks) = record { parts = []; last = t; begins = refl; ends = lacks }
  parts_by zero t h (inr c) = absurd (omega (arith, h))
  parts_by (suc n) t h (inr c) =
      let less : length c.rest < length t = shorter s t c.front c.rest some c.cut in
      let more : HasParts s c.rest = parts_by n c.rest (omega (arith, h, less)) (cut_or_lacks s c.rest) in
      record { parts = c.front ∷ more.parts; last = more.last; begins = (c.rest, c.cut, more.begins); ends = more.ends }

  pub has_parts : (t : List ℕ) → HasParts s t
  has_parts t = parts_by (suc (length t)) t (omega arith) (cut_or_lacks s t)

  -- there are at most as many parts as bytes
  pub few_parts : (t : List ℕ) (parts : List (List ℕ)) (rest : List ℕ) → Begins s t parts rest → length parts ≤ length t
  few_parts t [] rest b = omega arith
  few_parts t (part ∷ parts) rest (behind, cut, b) =
      let less : length behind < length t = shorter s t part behind some cut in
      let few : length parts ≤ length behind = few_parts behind parts rest b in
      omega (arith, less, few)
