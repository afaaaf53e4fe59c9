-- What the search has found, step by step.
use Rattle.std.proofs.Common.{◌≡◌, ℕ, suc, ◌≤◌, ◌<◌, ℤ, ◌⊎◌, inl, inr, List, [], ◌∷◌, ◌++◌, length, map, Option, Some, None, sym, ap, subst, refl, ◌∙◌, append_assoc, arith}
use Rattle.configuration_advice.specs.declared.comparing.Advice.{Advice}
use Rattle.configuration_advice.specs.declared.choices.Choice.{Choice}
use Rattle.configuration_advice.specs.declared.choices.Choice.TheVariants.{Open, Kept, Changed}
use Rattle.configuration_advice.specs.declared.question.Question.{Question}
use Rattle.configuration_advice.specs.Choices.{AreChosen, changes, close, Tightens}
use Rattle.configuration_advice.specs.Nearest.{differing}
use Rattle.configuration_advice.specs.Searching.{IsCandidate, IsFirstOf, IsRefuted, IsNearer, IsBeaten, HaveOneLength, MayBeCandidateWithin, IsCandidateWithin, FindsNearest}
use Rattle.configuration_advice.proofs.Chosen.{chosen_length, close_loosens, close_differs, changes_least, close_by, split_open, open_again, one_change, no_change, one_length}

module _ (q : Question) where
  abbrev given : List ℤ
  given = q.given.now.values

  abbrev differs : List ℤ → ℕ
  differs values = differing given values

  -- as chosen by one list, and so by another
  rechosen : (cs ds : List Choice) (values : List ℤ) → IsCandidate q cs values → AreChosen ds given values → IsCandidate q ds values
  rechosen cs ds values c h = record { valid = c.valid; quiet = c.quiet; chosen = h }

  -- ---- all that is open is kept

  kept_advice : (cs : List Choice) (most : ℕ) (a : Advice) → IsCandidate q (map close cs) a.config.values → a.changed ≡ changes cs → changes cs ≤ most → IsCandidateWithin q cs most a
  kept_advice cs most a c e h = record {
    candidate = rechosen (map close cs) cs a.config.values c (close_loosens cs given a.config.values c.chosen);
    changed = e ∙ sym (close_differs cs given a.config.values c.chosen);
    within = subst (λ n. n ≤ most) (sym e) h;
  }

  fewer_not : (n m : ℕ) → m ≤ n → n < m → ⊥
  fewer_not n m h k = omega arith

  kept_nearest : (cs : List Choice) (a : Advice) → IsFirstOf q (map close cs) a.config.values → a.changed ≡ changes cs → (values : List ℤ) → IsCandidate q cs values → IsNearer given values a → ⊥
  kept_nearest cs a f e values c (inl h) = fewer_not (differs values) a.changed (subst (λ n. n ≤ differs values) (sym e) (changes_least cs given values c.chosen)) h
  kept_nearest cs a f e values c (inr h) =
      f.first values (rechosen cs (map close cs) values c (close_by cs given values c.chosen (let k : differs values ≡ changes cs = h.0 ∙ e in omega arith))) h.1

  pub found_kept : (cs : List Choice) (most : ℕ) (a : Advice) → IsFirstOf q (map close cs) a.config.values → a.changed ≡ changes cs → changes cs ≤ most → FindsNearest q cs most (Some a)
  found_kept cs most a f e h = record {
    advice = kept_advice cs most a f.candidate e h;
    nearest = λ values c k n. kept_nearest cs a f e values c n;
  }

  -- with no more changes there is none
  pub none_kept : (cs : List Choice) (most : ℕ) → IsRefuted q (map close cs) → most ≤ changes cs → FindsNearest q cs most None
  none_kept cs most r h = record {
    advice = tt;
    nearest = λ values c k. r values (rechosen cs (map close cs) values c (close_by cs given values c.chosen (omega arith)));
  }

  -- ---- the branches

  -- what is known where a first part of the choices is as tight as the refuted ones, and the rest is as it was
  pub record IsBranching (choices blamed : List Choice) (most : ℕ) (front rest others : List Choice) (best : Option Advice) : Type 0 where
    pub tight : Tightens rest others
    pub whole : front ++ others ≡ blamed
    pub count : length (front ++ rest) ≡ length choices
    pub same_changes : changes (front ++ rest) ≡ changes choices
    pub within : (values : List ℤ) → AreChosen (front ++ rest) given values → AreChosen choices given values
    pub advice : MayBeCandidateWithin q choices most best
    pub left : (values : List ℤ) → IsCandidate q choices values → differs values ≤ most → AreChosen (front ++ rest) given values ⊎ IsBeaten given values best

  pub branching_start : (choices blamed : List Choice) (most : ℕ) → Tightens choices blamed → IsBranching choices blamed most [] choices blamed None
  branching_start choices blamed most h = record {
    tight = h;
    whole = refl;
    count = refl;
    same_changes = refl;
    within = λ values k. k;
    advice = tt;
    left = λ values c k. inl c.chosen;
  }

  tight_end : (rest others : List Choice) → Tightens rest others → (rest ≡ []) ⊎ (others ≡ []) → (rest ≡ []) × (others ≡ [])
  tight_end [] [] h e = (refl, refl)
  tight_end [] (d ∷ ds) h e = absurd h
  tight_end (c ∷ cs) [] h e = absurd h
  tight_end (c ∷ cs) (d ∷ ds) h (inl e) = absurd (let f : (c ∷ cs) ≡ [] = e in cc)
  tight_end (c ∷ cs) (d ∷ ds) h (inr e) = absurd (let f : (d ∷ ds) ≡ [] = e in cc)

  pub branching_end : (choices blamed : List Choice) (most : ℕ) (front rest others : List Choice) (best : Option Advice) → IsBranching choices blamed most front rest others best
      → (rest ≡ []) ⊎ (others ≡ []) → IsRefuted q blamed → FindsNearest q choices most best
  branching_end choices blamed most front rest others best b e r =
      let ends = tight_end rest others b.tight e in
      let all : front ++ rest ≡ blamed = ap (λ xs. front ++ xs) (ends.0 ∙ sym ends.1) ∙ b.whole in
      record {
        advice = b.advice;
        nearest = λ values c k. elim (b.left values c k) [
          | inl h ↦ absurd (r values (rechosen choices blamed values c (subst (λ xs. AreChosen xs given values) all h)))
          | inr h ↦ h
        ];
      }

  -- ---- one step

  pub tight_behind : (rest others behind more : List Choice) (c d : Choice) → rest ≡ c ∷ behind → others ≡ d ∷ more → Tightens rest others → Tightens behind more
  tight_behind rest others behind more c d e f h = (subst (λ xs. Tightens (c ∷ behind) xs) f (subst (λ xs. Tightens xs others) e h)).1

  tight_head : (rest others behind more : List Choice) (c d : Choice) → rest ≡ c ∷ behind → others ≡ d ∷ more → Tightens rest others → (c ≡ d) ⊎ ((c ≡ Open) × (d ≡ Kept))
  tight_head rest others behind more c d e f h = (subst (λ xs. Tightens (c ∷ behind) xs) f (subst (λ xs. Tightens xs others) e h)).0

  same_by : (c d : Choice) → (c ≡ d) ⊎ ((c ≡ Open) × (d ≡ Kept)) → (c ≡ Open → d ≡ Kept → ⊥) → c ≡ d
  same_by c d (inl e) n = e
  same_by c d (inr p) n = absurd (n p.0 p.1)

  pub same_head : (rest others behind more : List Choice) (c d : Choice) → rest ≡ c ∷ behind → others ≡ d ∷ more → Tightens rest others → (c ≡ Open → d ≡ Kept → ⊥) → c ≡ d
  same_head rest others behind more c d e f h n = same_by c d (tight_head rest others behind more c d e f h) n

  moved : (front behind : List Choice) (d : Choice) → (front ++ d ∷ []) ++ behind ≡ front ++ d ∷ behind
  moved front behind d = append_assoc front (d ∷ []) behind

  -- the same choice in both lists
  pub branching_same : (choices blamed : List Choice) (most : ℕ) (front rest others behind more new : List Choice) (d : Choice) (best : Option Advice) → IsBranching choices blamed most front rest others best
      → rest ≡ d ∷ behind → others ≡ d ∷ more → new ≡ front ++ d ∷ [] → Tightens behind more → IsBranching choices blamed most new behind more best
  branching_same choices blamed most front rest others behind more new d best b e f g t =
      let all : new ++ behind ≡ front ++ rest = ap (λ xs. xs ++ behind) g ∙ moved front behind d ∙ ap (λ xs. front ++ xs) (sym e) in
      record {
        tight = t;
        whole = ap (λ xs. xs ++ more) g ∙ moved front more d ∙ ap (λ xs. front ++ xs) (sym f) ∙ b.whole;
        count = ap length all ∙ b.count;
        same_changes = ap changes all ∙ b.same_changes;
        within = λ values k. b.within values (subst (λ xs. AreChosen xs given values) all k);
        advice = b.advice;
        left = λ values c k. elim (b.left values c k) [
          | inl h ↦ inl (subst (λ xs. AreChosen xs given values) (sym all) h)
          | inr h ↦ inr h
        ];
      }

  -- the trial changes what is open
  trial_within : (choices blamed : List Choice) (most : ℕ) (front rest others behind trial : List Choice) (best : Option Advice) → IsBranching choices blamed most front rest others best
      → rest ≡ Open ∷ behind → trial ≡ front ++ Changed ∷ behind → (values : List ℤ) → AreChosen trial given values → AreChosen choices given values
  trial_within choices blamed most front rest others behind trial best b e f values h =
      b.within values (subst (λ xs. AreChosen (front ++ xs) given values) (sym e) (open_again front behind Changed given values (subst (λ xs. AreChosen xs given values) f h)))

  advice_of : (choices trial : List Choice) (most : ℕ) (found : Option Advice) → ((values : List ℤ) → AreChosen trial given values → AreChosen choices given values) → MayBeCandidateWithin q trial most found → MayBeCandidateWithin q choices most found
  advice_of choices trial most None w h = tt
  advice_of choices trial most (Some a) w h = record { candidate = rechosen trial choices a.config.values h.candidate (w a.config.values h.candidate.chosen); changed = h.changed; within = h.within }

  advice_either : (choices : List Choice) (most : ℕ) (best found new : Option Advice) → MayBeCandidateWithin q choices most best → MayBeCandidateWithin q choices most found → (new ≡ best) ⊎ (new ≡ found) → MayBeCandidateWithin q choices most new
  advice_either choices most best found new h k (inl e) = subst (MayBeCandidateWithin q choices most) (sym e) h
  advice_either choices most best found new h k (inr e) = subst (MayBeCandidateWithin q choices most) (sym e) k

  pub trial_length : (choices blamed : List Choice) (most : ℕ) (front rest others behind trial : List Choice) (best : Option Advice) → IsBranching choices blamed most front rest others best
      → rest ≡ Open ∷ behind → trial ≡ front ++ Changed ∷ behind → length trial ≡ length choices
  trial_length choices blamed most front rest others behind trial best b e f =
      ap length f ∙ one_length front behind Changed Open ∙ ap (λ xs. length (front ++ xs)) (sym e) ∙ b.count

  pub trial_changes : (choices blamed : List Choice) (most : ℕ) (front rest others behind trial : List Choice) (best : Option Advice) → IsBranching choices blamed most front rest others best
      → rest ≡ Open ∷ behind → trial ≡ front ++ Changed ∷ behind → changes trial ≡ suc (changes choices)
  trial_changes choices blamed most front rest others behind trial best b e f =
      ap changes f ∙ one_change front behind ∙ ap suc (ap (λ xs. changes (front ++ xs)) (sym e) ∙ b.same_changes)

  -- advice has one value per feature
  one_length_of : (choices : List Choice) (most : ℕ) (a : Advice) → IsCandidateWithin q choices most a → length a.config.values ≡ length given
  one_length_of choices most a h = chosen_length choices given a.config.values h.candidate.chosen

  pub have_one_length : (choices trial : List Choice) (most : ℕ) (best found : Option Advice) → MayBeCandidateWithin q choices most best → MayBeCandidateWithin q trial most found → HaveOneLength best found
  have_one_length choices trial most None found h k = tt
  have_one_length choices trial most (Some a) None h k = tt
  have_one_length choices trial most (Some a) (Some b) h k = one_length_of choices most a h ∙ sym (one_length_of trial most b k)

  pub branching_tried : (choices blamed : List Choice) (most : ℕ) (front rest others behind more trial new : List Choice) (best found nearer : Option Advice) → IsBranching choices blamed most front rest others best
      → rest ≡ Open ∷ behind → others ≡ Kept ∷ more → trial ≡ front ++ Changed ∷ behind → new ≡ front ++ Kept ∷ [] → Tightens behind more
      → FindsNearest q trial most found → (nearer ≡ best) ⊎ (nearer ≡ found)
      → ((gs values : List ℤ) → IsBeaten gs values best → IsBeaten gs values nearer) → ((gs values : List ℤ) → IsBeaten gs values found → IsBeaten gs values nearer)
      → IsBranching choices blamed most new behind more nearer
  branching_tried choices blamed most front rest others behind more trial new best found nearer b e f g m t finds one by_best by_found =
      let all : new ++ behind ≡ front ++ Kept ∷ behind = ap (λ xs. xs ++ behind) m ∙ moved front behind Kept in
      let old : front ++ rest ≡ front ++ Open ∷ behind = ap (λ xs. front ++ xs) e in
      let w = trial_within choices blamed most front rest others behind trial best b e g in
      record {
        tight = t;
        whole = ap (λ xs. xs ++ more) m ∙ moved front more Kept ∙ ap (λ xs. front ++ xs) (sym f) ∙ b.whole;
        count = ap length all ∙ one_length front behind Kept Open ∙ sym (ap length old) ∙ b.count;
        same_changes = ap changes all ∙ no_change front behind ∙ sym (ap changes old) ∙ b.same_changes;
        within = λ values k. b.within values (subst (λ xs. AreChosen xs given values) (sym old) (open_again front behind Kept given values (subst (λ xs. AreChosen xs given values) all k)));
        advice = advice_either choices most best found nearer b.advice (advice_of choices trial most found w finds.advice) one;
        left = λ values c k. elim (b.left values c k) [
          | inr h ↦ inr (by_best given values h)
          | inl h ↦ elim (split_open front behind given values (subst (λ xs. AreChosen xs given values) old h)) [
            | inl changed ↦ inr (by_found given values (finds.nearest values (rechosen choices trial values c (subst (λ xs. AreChosen xs given values) (sym g) changed)) k))
            | inr kept ↦ inl (subst (λ xs. AreChosen xs given values) (sym all) kept)
          ]
        ];
      }
