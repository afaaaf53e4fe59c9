-- What is known of pairs.
use Rattle.std.proofs.Common.{◌≡◌, ℕ, Bool, true, ◌&&◌, eqb, List, [], ◌∷◌, ◌++◌, slice_get, Option, Some, None, IfSome, IfNone, refl, sym, ◌∙◌, ap, subst, inl, inr, arith, true≢false}
use Rattle.std.proofs.lemmas.Bool.Decides.{nat_tests}
use Rattle.std.proofs.lemmas.Map.Entries.{place_from_lookup}
use Rattle.std.specs.Borrow.{Bor}
use Rattle.std.specs.Option.{option_copied}
use Rattle.std.specs.Map.{lookup}
use Rattle.indexmap.specs.IndexMap.{insert_entry}
use Rattle.decision_tree.specs.declared.tree.Tree.{Tree}
use Rattle.decision_tree.specs.Plain.{Plain}
use Rattle.decision_tree.specs.Numbered.{Numbered, erase, root}
use Rattle.decision_tree.specs.Listed.{IsOf, Keeps}
use Rattle.decision_tree.specs.View.{numbered}
use Rattle.decision_tree.proofs.Numbers.{numbers_tell, keeps_same, keeps_both}
use Rattle.decision_tree.proofs.Places.{pushed_at, absent_at}
use Rattle.tree_unify.proofs.Places.{inserted_last}
use Rattle.tree_restrict.specs.declared.memo.Pair.{Pair}
use Rattle.tree_restrict.specs.Known.{same_pair, IsAnswer, IsEntry, IsKnown, IsUnknown, IsAdded, AreApart, KeepBoth}
use Rattle.tree_restrict.specs.Restricted.{restricted}
use Rattle.tree_restrict.proofs.Holding.{of_test, left_of, right_of}

eqb_of : (a b : ℕ) → a ≡ b → eqb a b ≡ true
eqb_of a b e = grind (arith, nat_tests)

both_true : (x y : Bool) → x ≡ true → y ≡ true → (x && y) ≡ true
both_true x y e f = cc

pub pair_tree : (p q : Pair) → same_pair p q ≡ true → p.tree ≡ q.tree
pair_tree p q e = of_test p.tree q.tree (left_of (eqb p.tree q.tree) (eqb p.care q.care) e)

pub pair_care : (p q : Pair) → same_pair p q ≡ true → p.care ≡ q.care
pair_care p q e = of_test p.care q.care (right_of (eqb p.tree q.tree) (eqb p.care q.care) e)

pair_self : (p : Pair) → same_pair p p ≡ true
pair_self p = both_true (eqb p.tree p.tree) (eqb p.care p.care) (eqb_of p.tree p.tree refl) (eqb_of p.care p.care refl)

pair_same : (p q : Pair) → p.tree ≡ q.tree → p.care ≡ q.care → same_pair p q ≡ true
pair_same p q e f = both_true (eqb p.tree q.tree) (eqb p.care q.care) (eqb_of p.tree q.tree e) (eqb_of p.care q.care f)

same_numbers : (p q : Pair) → p.tree ≡ q.tree → p.care ≡ q.care → p ≡ q
same_numbers p q e f = ap (λ x. record { tree = x; care = p.care }) e ∙ ap (λ y. record { tree = q.tree; care = y }) f

apart_pushed : {L : Type 0} (es : List (Pair × Tree L)) (p : Pair) (kept : Tree L) → AreApart es → lookup (same_pair p) es ≡ None → AreApart (es ++ (p, kept) ∷ [])
apart_pushed {L} es p kept h none =
    let other : (i : ℕ) (d : Pair × Tree L) → slice_get es i ≡ Some d → p.tree ≡ d.0.tree → p.care ≡ d.0.care → ⊥ =
    λ i d g l r. true≢false (sym (pair_same p d.0 l r) ∙ absent_at (same_pair p) es i d none g) in
    record {
      one = λ i j d e a b l r. elim (pushed_at es (p, kept) i d a) [
        | inl x ↦ elim (pushed_at es (p, kept) j e b) [
          | inl y ↦ h.one i j d e x y l r
          | inr y ↦ absurd (other i d x (sym (l ∙ ap (λ (z : Pair × Tree L). z.0.tree) y.1)) (sym (r ∙ ap (λ (z : Pair × Tree L). z.0.care) y.1)))
        ]
        | inr x ↦ elim (pushed_at es (p, kept) j e b) [
          | inl y ↦ absurd (other j e y (sym (ap (λ (z : Pair × Tree L). z.0.tree) x.1) ∙ l) (sym (ap (λ (z : Pair × Tree L). z.0.care) x.1) ∙ r))
          | inr y ↦ x.0 ∙ sym y.0
        ]
      ];
    }

module _ {L : Type 0} where
  pub added_noted : {es fs : List (Pair × Tree L)} (p : Pair) (kept : Tree L) (t : Numbered L) (c : Numbered Bool) → p.tree ≡ root t → p.care ≡ root c → fs ≡ insert_entry same_pair es p kept → IsUnknown es t c → IsAdded t c es fs
  added_noted {es} {fs} p kept t c et ec entries u = record {
    pair = p;
    kept = kept;
    tree_number = et;
    care_number = ec;
    entries = entries ∙ inserted_last same_pair p kept es (u.absent p et ec);
  }

  pub unknown_none : (es : List (Pair × Tree L)) (p : Pair) (t : Numbered L) (c : Numbered Bool) (o : Option (Bor (Tree L))) → option_copied o ≡ lookup (same_pair p) es → p.tree ≡ root t → p.care ≡ root c → IfNone o (IsUnknown es t c)
  unknown_none es p t c (Some r) e et ec = tt
  unknown_none es p t c None e et ec = record {
    absent = λ q ft fc.
        let same : p ≡ q = same_numbers p q (et ∙ sym ft) (ec ∙ sym fc) in
        subst (λ (x : Pair). lookup (same_pair x) es ≡ None) same (sym e);
  }

module _ {L : Type 0} {eq : L → L → Bool} where
  pub answer_kept : {before after : List (Plain L)} {cares grown : List (Plain Bool)} {t : Numbered L} {c : Numbered Bool} {r : Numbered L} → KeepBoth before after cares grown → IsAnswer eq before cares t c r → IsAnswer eq after grown t c r
  answer_kept {t} {c} {r} k h = record {
    restricts = h.restricts;
    own = k.of_trees.stay r h.own;
    tree_own = k.of_trees.stay t h.tree_own;
    care_own = k.of_cares.stay c h.care_own;
  }

  pub known_kept : {before after : List (Plain L)} {cares grown : List (Plain Bool)} {es : List (Pair × Tree L)} → KeepBoth before after cares grown → IsKnown eq before cares es → IsKnown eq after grown es
  known_kept k h = record {
    apart = h.apart;
    each = λ i e g. let d = h.each i e g in record { left = d.left; right = d.right; left_number = d.left_number; right_number = d.right_number; answer = answer_kept k d.answer };
  }

  pub known_empty : (forest : List (Plain L)) (cares : List (Plain Bool)) (es : List (Pair × Tree L)) → es ≡ [] → IsKnown eq forest cares es
  known_empty forest cares es none = subst (IsKnown eq forest cares) (sym none) (record { each = λ i e g. nothing i e g; apart = record { one = λ i j d e a b l r. cc } })
    where
      nothing : (i : ℕ) (e : Pair × Tree L) → slice_get {X = Pair × Tree L} [] i ≡ Some e → IsEntry eq forest cares e.0 (numbered e.1)
      nothing i e g = cc

  -- what is found is right for all trees with these numbers
  pub known_found : {forest : List (Plain L)} {cares : List (Plain Bool)} {es : List (Pair × Tree L)} (p : Pair) (r : Tree L) (t : Numbered L) (c : Numbered Bool) → IsKnown eq forest cares es → lookup (same_pair p) es ≡ Some r → IsOf forest t → IsOf cares c → p.tree ≡ root t → p.care ≡ root c
      → IsAnswer eq forest cares t c (numbered r)
  known_found {forest} {cares} {es} p r t c h there ht hc et ec =
      let at = place_from_lookup (same_pair p) es r there in
      let d = h.each at.0 (at.1, r) at.2 in
      let a = d.answer in
      let tree : erase d.left ≡ erase t = (numbers_tell forest d.left t a.tree_own ht).0 (sym d.left_number ∙ (sym (pair_tree p at.1 at.3) ∙ et)) in
      let care : erase d.right ≡ erase c = (numbers_tell cares d.right c a.care_own hc).0 (sym d.right_number ∙ (sym (pair_care p at.1 at.3) ∙ ec)) in
      record {
        restricts = a.restricts ∙ (ap (λ s. restricted eq s (erase d.right)) tree ∙ ap (restricted eq (erase t)) care);
        own = a.own;
        tree_own = ht;
        care_own = hc;
      }

  -- one more entry
  pub known_noted : {forest : List (Plain L)} {cares : List (Plain Bool)} {es fs : List (Pair × Tree L)} (p : Pair) (kept : Tree L) (t : Numbered L) (c : Numbered Bool) (r : Numbered L) → p.tree ≡ root t → p.care ≡ root c → numbered kept ≡ r → fs ≡ insert_entry same_pair es p kept → IsKnown eq forest cares es → IsUnknown es t c → IsAnswer eq forest cares t c r → IsKnown eq forest cares fs
  known_noted {forest} {cares} {es} {fs} p kept t c r et ec same entries h u a =
      let none = u.absent p et ec in
      subst (IsKnown eq forest cares) (sym (entries ∙ inserted_last same_pair p kept es none)) (record {
        each = λ i e g. elim (pushed_at es (p, kept) i e g) [
          | inl old ↦ h.each i e old
          | inr new ↦ record {
            left = t;
            right = c;
            left_number = ap (λ (x : Pair × Tree L). x.0.tree) new.1 ∙ et;
            right_number = ap (λ (x : Pair × Tree L). x.0.care) new.1 ∙ ec;
            answer = subst (IsAnswer eq forest cares t c) (sym (ap (λ (x : Pair × Tree L). numbered x.1) new.1 ∙ same)) a;
          }
        ];
        apart = apart_pushed es p kept h.apart none;
      })

  pub known_some : {forest : List (Plain L)} {cares : List (Plain Bool)} {es : List (Pair × Tree L)} (p : Pair) (t : Numbered L) (c : Numbered Bool) (o : Option (Bor (Tree L))) → option_copied o ≡ lookup (same_pair p) es → p.tree ≡ root t → p.care ≡ root c → IsKnown eq forest cares es → IsOf forest t → IsOf cares c
      → IfSome o (λ r. IsAnswer eq forest cares t c (numbered r.now))
  known_some p t c None e et ec h ht hc = tt
  known_some p t c (Some r) e et ec h ht hc = known_found p r.now t c h (sym e) ht hc et ec

pub keep_same : {L : Type 0} (forest : List (Plain L)) (cares : List (Plain Bool)) → KeepBoth forest forest cares cares
keep_same forest cares = record { of_trees = keeps_same forest forest refl; of_cares = keeps_same cares cares refl }

pub keep_both : {L : Type 0} {before between after : List (Plain L)} {cares more grown : List (Plain Bool)} → KeepBoth before between cares more → KeepBoth between after more grown → KeepBoth before after cares grown
keep_both {before} {between} {after} {cares} {more} {grown} h k = record { of_trees = keeps_both before between after h.of_trees k.of_trees; of_cares = keeps_both cares more grown h.of_cares k.of_cares }

pub keep_trees : {L : Type 0} {before after : List (Plain L)} (cares : List (Plain Bool)) → Keeps before after → KeepBoth before after cares cares
keep_trees cares k = record { of_trees = k; of_cares = keeps_same cares cares refl }

pub keep_cares : {L : Type 0} (forest : List (Plain L)) {cares grown : List (Plain Bool)} → Keeps cares grown → KeepBoth forest forest cares grown
keep_cares forest k = record { of_trees = keeps_same forest forest refl; of_cares = k }
