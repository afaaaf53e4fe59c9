-- What is remembered of pairs of subtrees.
use Rattle.std.proofs.Common.{◌≡◌, ℕ, Bool, true, false, ◌&&◌, eqb, List, [], ◌∷◌, ◌++◌, slice_get, Some, None, refl, sym, ◌∙◌, ap, subst, inl, inr, arith, true≢false}
use Rattle.std.proofs.lemmas.Bool.Decides.{nat_tests, eqb_tells}
use Rattle.std.proofs.lemmas.Map.Entries.{place_from_lookup}
use Rattle.std.specs.Map.{lookup, keys_of}
use Rattle.indexmap.specs.IndexMap.{insert_entry}
use Rattle.decision_tree.specs.declared.tree.Tree.{Tree}
use Rattle.decision_tree.specs.Plain.{Plain}
use Rattle.decision_tree.specs.Numbered.{Numbered, erase, root, IsWithin, IsNumbered}
use Rattle.decision_tree.specs.Listed.{Keeps}
use Rattle.decision_tree.specs.View.{numbered}
use Rattle.decision_tree.proofs.Places.{pushed_at, mapped_at, absent_at}
use Rattle.tree_unify.specs.declared.memo.Pair.{Pair}
use Rattle.tree_unify.specs.Made.{same_pair, IsMade, IsMemo, IsTally}
use Rattle.tree_unify.proofs.Places.{inserted_at, inserted_last, keys_pushed}

of_eqb : (a b : ℕ) → eqb a b ≡ true → a ≡ b
of_eqb a b e = elim (eqb_tells a b) [ inl h ↦ h.1 | inr h ↦ absurd (true≢false (sym e ∙ h.0)) ]

eqb_of : (a b : ℕ) → a ≡ b → eqb a b ≡ true
eqb_of a b e = grind (arith, nat_tests)

left_of : (x y : Bool) → (x && y) ≡ true → x ≡ true
left_of true y e = refl
left_of false y e = cc

right_of : (x y : Bool) → (x && y) ≡ true → y ≡ true
right_of true y e = e
right_of false y e = cc

both_true : (x y : Bool) → x ≡ true → y ≡ true → (x && y) ≡ true
both_true x y e f = cc

pub pair_left : (p q : Pair) → same_pair p q ≡ true → p.left ≡ q.left
pair_left p q e = of_eqb p.left q.left (left_of (eqb p.left q.left) (eqb p.right q.right) e)

pub pair_right : (p q : Pair) → same_pair p q ≡ true → p.right ≡ q.right
pair_right p q e = of_eqb p.right q.right (right_of (eqb p.left q.left) (eqb p.right q.right) e)

pub pair_same : (p q : Pair) → p.left ≡ q.left → p.right ≡ q.right → same_pair p q ≡ true
pair_same p q e f = both_true (eqb p.left q.left) (eqb p.right q.right) (eqb_of p.left q.left e) (eqb_of p.right q.right f)

module _ {A B C : Type 0} {P : A → B → C → Type 0} where
  pub made_kept : {before after : List (Plain C)} {t : Plain A} {u : Plain B} {r : Numbered C} → Keeps before after → IsMade P before t u r → IsMade P after t u r
  made_kept {before} {after} {t} {u} {r} k h = record { unified = h.unified; reduced = h.reduced; tests = h.tests; own = k.stay r h.own }

  pub memo_kept : {before after : List (Plain C)} {t : Numbered A} {u : Numbered B} {es : List (Pair × Tree C)} → Keeps before after → IsMemo P before t u es → IsMemo P after t u es
  memo_kept k h = record { each = λ i e g a b v w l r. made_kept k (h.each i e g a b v w l r) }

  pub memo_empty : {forest : List (Plain C)} {t : Numbered A} {u : Numbered B} (es : List (Pair × Tree C)) → es ≡ [] → IsMemo P forest t u es
  memo_empty {forest} {t} {u} es none = subst (IsMemo P forest t u) (sym none) (record { each = λ i e g. nothing i e g })
    where
      nothing : (i : ℕ) (e : Pair × Tree C) → slice_get {X = Pair × Tree C} [] i ≡ Some e → (a : Numbered A) (b : Numbered B) → IsWithin a t → IsWithin b u → e.0.left ≡ root a → e.0.right ≡ root b → IsMade P forest (erase a) (erase b) (numbered e.1)
      nothing i e g = cc

  pub memo_found : {forest : List (Plain C)} {t : Numbered A} {u : Numbered B} {es : List (Pair × Tree C)} (p : Pair) (r : Tree C) (a : Numbered A) (b : Numbered B) → IsMemo P forest t u es → lookup (same_pair p) es ≡ Some r → IsWithin a t → IsWithin b u → p.left ≡ root a → p.right ≡ root b → IsMade P forest (erase a) (erase b) (numbered r)
  memo_found {forest} {t} {u} {es} p r a b h there v w l k =
      let at = place_from_lookup (same_pair p) es r there in
      h.each at.0 (at.1, r) at.2 a b v w (sym (pair_left p at.1 at.3) ∙ l) (sym (pair_right p at.1 at.3) ∙ k)

  made_same : {forest : List (Plain C)} (t s : Plain A) (u w : Plain B) (r q : Numbered C) → t ≡ s → u ≡ w → r ≡ q → IsMade P forest t u r → IsMade P forest s w q
  made_same {forest} t s u w r q e f g h = subst (λ x. IsMade P forest x w q) e (subst (λ y. IsMade P forest t y q) f (subst (IsMade P forest t u) g h))

  pub memo_added : {forest : List (Plain C)} {t : Numbered A} {u : Numbered B} {es : List (Pair × Tree C)} (p : Pair) (r : Tree C) (a : Numbered A) (b : Numbered B) → IsNumbered t → IsNumbered u → IsMemo P forest t u es → IsWithin a t → IsWithin b u → p.left ≡ root a → p.right ≡ root b → IsMade P forest (erase a) (erase b) (numbered r) → IsMemo P forest t u (insert_entry same_pair es p r)
  memo_added {forest} {t} {u} {es} p r a b ht hu h v w l k made = record {
    each = λ i e g c d x y m n. elim (inserted_at same_pair p r es e (pair_same p p refl refl) i g) [
      | inl old ↦ h.each i e old c d x y m n
      | inr new ↦ made_same (erase a) (erase c) (erase b) (erase d) (numbered r) (numbered e.1)
          ((ht.tells a c v x).0 (sym l ∙ (pair_left p e.0 new.0 ∙ m)))
          ((hu.tells b d w y).0 (sym k ∙ (pair_right p e.0 new.0 ∙ n)))
          (ap numbered (sym new.1)) made
    ];
  }

module _ {Q : Pair → Type 0} where
  -- one more pair, which is not there
  pub tally_pushed : {C : Type 0} (es : List (Pair × Tree C)) (p : Pair) → IsTally Q (keys_of es) → Q p → lookup (same_pair p) es ≡ None → IsTally Q (keys_of es ++ p ∷ [])
  tally_pushed {C} es p h is none =
      let apart : (i : ℕ) (q : Pair) → slice_get (keys_of es) i ≡ Some q → p.left ≡ q.left → p.right ≡ q.right → ⊥ =
      λ i q g l r.
      let at = mapped_at (λ (e : Pair × Tree C). e.0) es i q g in
      true≢false (sym (pair_same p q l r) ∙ (ap (same_pair p) (sym at.2) ∙ absent_at (same_pair p) es i at.0 none at.1)) in
      record {
        each = λ i q g. elim (pushed_at (keys_of es) p i q g) [ inl old ↦ h.each i q old | inr new ↦ subst Q (sym new.1) is ];
        distinct = λ i j q s a b l r. elim (pushed_at (keys_of es) p i q a) [
          | inl c ↦ elim (pushed_at (keys_of es) p j s b) [
            | inl d ↦ h.distinct i j q s c d l r
            | inr d ↦ absurd (apart i q c (sym (l ∙ ap (λ x. x.left) d.1)) (sym (r ∙ ap (λ x. x.right) d.1)))
          ]
          | inr c ↦ elim (pushed_at (keys_of es) p j s b) [
            | inl d ↦ absurd (apart j s d (sym (ap (λ x. x.left) c.1) ∙ l) (sym (ap (λ x. x.right) c.1) ∙ r))
            | inr d ↦ c.0 ∙ sym d.0
          ]
        ];
      }

  pub tally_added : {C : Type 0} (es : List (Pair × Tree C)) (p : Pair) (r : Tree C) → IsTally Q (keys_of es) → Q p → lookup (same_pair p) es ≡ None → IsTally Q (keys_of (insert_entry same_pair es p r))
  tally_added es p r h is none =
      subst (IsTally Q) (sym (ap keys_of (inserted_last same_pair p r es none) ∙ keys_pushed es p r)) (tally_pushed es p h is none)

  pub tally_empty : {C : Type 0} (es : List (Pair × Tree C)) → es ≡ [] → IsTally Q (keys_of es)
  tally_empty {C} es none = subst (λ ds. IsTally Q (keys_of ds)) (sym none) (record { each = λ i p g. nothing i p g; distinct = λ i j p q a b l r. cc })
    where
      nothing : (i : ℕ) (p : Pair) → slice_get {X = Pair} [] i ≡ Some p → Q p
      nothing i p g = cc
