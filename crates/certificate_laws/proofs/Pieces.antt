-- The pieces of a region's text.
use Rattle.std.proofs.Common.{◌≡◌, ◌≢◌, ℕ, zero, suc, ◌+◌, ◌<◌, List, [], ◌∷◌, ◌++◌, codes, ◌⊎◌, inl, inr, length, get_or, get_or-append-add, sym, ap, subst, ◌∙◌, arith, append_assoc, append-nil, add-zero}
use Rattle.std.specs.Prelude.{flat_map}
use Rattle.std.specs.List.{AllByRecursion}
use Rattle.std.proofs.lemmas.Bool.{cases_order}
use Rattle.std.proofs.lemmas.List.{get_or_append_left}
use Rattle.alarm_report.specs.Texts.{joined}
use Rattle.certificate_format.specs.Cuts.{Lacks, IsCut, Begins, AreBetween, IsBetween}
use Rattle.certificate_format.proofs.Splitting.{occurs, none_cut, one_cut}
use Rattle.certificate_laws.proofs.Words.{IsClean, AreClean}

abbrev and_mark : List ℕ
and_mark = codes " && "

clean_at : (xs : List ℕ) (k : ℕ) → AreClean xs → k < length xs → IsClean (get_or xs k 0)
clean_at [] k h l = absurd (omega (arith, l))
clean_at (x ∷ xs) zero h l = h.0
clean_at (x ∷ xs) (suc k) h l = clean_at xs k h.1 (omega (arith, l))

-- ---- clean texts before the mark

-- the byte behind a place of a clean text is no `&`
no_amp : (t p rest : List ℕ) (k : ℕ) → AreClean p → t ≡ p ++ (and_mark ++ rest) → k < length p → get_or t (k + 1) 0 ≢ 38
no_amp t p rest k h e l f =
    elim (cases_order (k + 1) (length p)) [
      | inl end ↦
          let at : get_or t (k + 1) 0 ≡ 32 = ap (λ u. get_or u (k + 1) 0) e ∙ ap (λ n. get_or (p ++ (and_mark ++ rest)) n 0) (end ∙ sym (add-zero (length p))) ∙ get_or-append-add p (and_mark ++ rest) 0 0 in
          omega (arith, at, f)
      | inr (inl less) ↦ (clean_at p (k + 1) h less).1 (sym (ap (λ u. get_or u (k + 1) 0) e ∙ get_or_append_left p (and_mark ++ rest) 0 (k + 1) less) ∙ f)
      | inr (inr beyond) ↦ omega (arith, l, beyond)
    ]

clean_cut : (t p rest : List ℕ) → AreClean p → t ≡ p ++ (and_mark ++ rest) → IsCut and_mark t p rest
clean_cut t p rest h e = record {
  whole = e;
  first = λ k l o. no_amp t p rest k h e l (o.reads 1 (omega arith));
}

clean_lacks : (p : List ℕ) → AreClean p → Lacks and_mark p
clean_lacks p h k o = (clean_at p (k + 1) h (omega (arith, o.fits))).1 (o.reads 1 (omega arith))

-- ---- joined texts

abbrev pub AllClean : List (List ℕ) → Type 0
AllClean pieces = AllByRecursion AreClean pieces

joined_more : (p q : List ℕ) (qs : List (List ℕ)) → joined and_mark (p ∷ q ∷ qs) ≡ p ++ (and_mark ++ joined and_mark (q ∷ qs))
joined_more p q qs = ap (λ u. p ++ u) (append_assoc and_mark q (flat_map (λ u. and_mark ++ u) qs))

last_lacks : (p : List ℕ) → AreClean p → Lacks and_mark (joined and_mark (p ∷ []))
last_lacks p h = subst (Lacks and_mark) (sym (append-nil p)) (clean_lacks p h)

more_cut : (p q : List ℕ) (qs : List (List ℕ)) → AreClean p → IsCut and_mark (joined and_mark (p ∷ q ∷ qs)) p (joined and_mark (q ∷ qs))
more_cut p q qs h = clean_cut (joined and_mark (p ∷ q ∷ qs)) p (joined and_mark (q ∷ qs)) h (joined_more p q qs)

more_marked : (p q : List ℕ) (qs : List (List ℕ)) → Lacks and_mark (joined and_mark (p ∷ q ∷ qs)) → ⊥
more_marked p q qs h = h (length p) (occurs and_mark (joined and_mark (p ∷ q ∷ qs)) p (joined and_mark (q ∷ qs)) (joined_more p q qs))

-- what stands between the marks of clean texts that are joined by them are these texts
parts_are : (p : List ℕ) (ps front : List (List ℕ)) (last : List ℕ) → AreClean p → AllClean ps → Begins and_mark (joined and_mark (p ∷ ps)) front last → Lacks and_mark last → front ++ (last ∷ []) ≡ p ∷ ps
parts_are p [] [] last h k b e = ap (λ u. u ∷ []) (sym b ∙ append-nil p)
parts_are p [] (f ∷ front) last h k b e = absurd (none_cut and_mark (joined and_mark (p ∷ [])) f b.0 (last_lacks p h) b.1)
parts_are p (q ∷ qs) [] last h k b e = absurd (more_marked p q qs (subst (Lacks and_mark) (sym b) e))
parts_are p (q ∷ qs) (f ∷ front) last h k b e =
    let same = one_cut and_mark (joined and_mark (p ∷ q ∷ qs)) f b.0 p (joined and_mark (q ∷ qs)) b.1 (more_cut p q qs h) in
    let rest = parts_are q qs front last k.0 k.1 (subst (λ u. Begins and_mark u front last) same.1 b.2) e in
    λ i. same.0 i ∷ rest i

pub pieces_are : (p : List ℕ) (ps parts : List (List ℕ)) → AreClean p → AllClean ps → AreBetween and_mark (joined and_mark (p ∷ ps)) parts → parts ≡ p ∷ ps
pieces_are p ps parts h k b = b.parts_are ∙ parts_are p ps b.front b.last h k b.begins b.ends

-- one of the list
abbrev pub IsIn : List ℕ → List (List ℕ) → Type 0
IsIn p [] = ⊥
IsIn p (q ∷ qs) = (p ≡ q) ⊎ IsIn p qs

part_in : (p : List ℕ) (ps front : List (List ℕ)) (last part : List ℕ) → AreClean p → AllClean ps → Begins and_mark (joined and_mark (p ∷ ps)) front last
    → ((rest : List ℕ) × IsCut and_mark last part rest) ⊎ ((part ≡ last) × Lacks and_mark last) → IsIn part (p ∷ ps)
part_in p [] [] last part h k b (inl c) = absurd (none_cut and_mark last part c.0 (subst (Lacks and_mark) b (last_lacks p h)) c.1)
part_in p [] [] last part h k b (inr e) = inl (e.0 ∙ sym b ∙ append-nil p)
part_in p [] (f ∷ front) last part h k b c = absurd (none_cut and_mark (joined and_mark (p ∷ [])) f b.0 (last_lacks p h) b.1)
part_in p (q ∷ qs) [] last part h k b (inl c) = inl (one_cut and_mark last part c.0 p (joined and_mark (q ∷ qs)) c.1 (subst (λ u. IsCut and_mark u p (joined and_mark (q ∷ qs))) b (more_cut p q qs h))).0
part_in p (q ∷ qs) [] last part h k b (inr e) = absurd (more_marked p q qs (subst (Lacks and_mark) (sym b) e.1))
part_in p (q ∷ qs) (f ∷ front) last part h k b c =
    let same = one_cut and_mark (joined and_mark (p ∷ q ∷ qs)) f b.0 p (joined and_mark (q ∷ qs)) b.1 (more_cut p q qs h) in
    inr (part_in q qs front last part k.0 k.1 (subst (λ u. Begins and_mark u front last) same.1 b.2) c)

pub piece_in : (p : List ℕ) (ps : List (List ℕ)) (part : List ℕ) → AreClean p → AllClean ps → IsBetween and_mark (joined and_mark (p ∷ ps)) part → IsIn part (p ∷ ps)
piece_in p ps part h k b = part_in p ps b.front b.last part h k b.begins b.part_is
