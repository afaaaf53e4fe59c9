-- The answers of one step.
use Rattle.std.proofs.Common.{◌≡◌, ℕ, ◌<◌, ◌≤◌, Bool, true, false, cond, List, [], ◌∷◌, sym, ◌∙◌, ap, subst, inl, inr, Result, IfOk}
use Rattle.std.proofs.lemmas.Result.{IfOk-weaker}
use Rattle.decision_tree.specs.declared.tree.Tree.{Tree}
use Rattle.decision_tree.specs.Plain.{Plain, leaf, node, HasTest, IsExact, IsReducedFrom, IsReduced, IsNodeOf}
use Rattle.decision_tree.specs.Numbered.{Numbered, erase}
use Rattle.decision_tree.specs.Listed.{IsOf, IsTreeIn}
use Rattle.decision_tree.specs.View.{numbered}
use Rattle.decision_tree.proofs.Reduced.{tests_below, test_below}
use Rattle.tree_unify.specs.Sides.{side_of}
use Rattle.tree_restrict.proofs.Holding.{Alike}
use Rattle.tree_restrict.specs.Known.{IsAnswer}
use Rattle.tree_restrict.specs.Restricted.{is_false, same, joined, sides_left, restricted}
use Rattle.tree_restrict.proofs.Restricting.{same_self, joined_apart, of_leaf, to_leaf, of_union, of_sides, has_sides, tests_of, reduced_of}

module _ {L : Type 0} (eq : L → L → Bool) where
  joined_is : IsExact eq → ((a : L) → eq a a ≡ true) → (k : ℕ) (l h r : Plain L) → IsNodeOf k l h r → r ≡ joined eq k l h
  joined_is exact self k l h r (inl e) = e.1 ∙ sym (ap (λ b. cond b l (node k l h)) (ap (same eq l) (sym e.0) ∙ same_self eq self l))
  joined_is exact self k l h r (inr e) = e.1 ∙ sym (joined_apart eq exact k l h e.0)

  pub at_leaf : {E : Type 0} {forest : List (Plain L)} {cares : List (Plain Bool)} (shared : Result (Tree L) E) (t : Numbered L) (c : Numbered Bool) (x : L) → erase t ≡ leaf x → IsOf forest t → IsOf cares c → IfOk shared (λ r. numbered r ≡ t) → IfOk shared (λ r. IsAnswer eq forest cares t c (numbered r))
  at_leaf {forest} {cares} shared t c x e ht hc h =
      IfOk-weaker shared (λ r. numbered r ≡ t) (λ r. IsAnswer eq forest cares t c (numbered r))
      (λ r g. record { restricts = ap erase g ∙ sym (of_leaf eq (erase t) x (erase c) e); own = subst (IsOf forest) (sym g) ht; tree_own = ht; care_own = hc }) h

  pub at_care : {E : Type 0} {forest : List (Plain L)} {cares : List (Plain Bool)} (shared : Result (Tree L) E) (t : Numbered L) (c : Numbered Bool) (b : Bool) → IsExact eq → erase c ≡ leaf b → IsReduced (erase t) → IsOf forest t → IsOf cares c → IfOk shared (λ r. numbered r ≡ t) → IfOk shared (λ r. IsAnswer eq forest cares t c (numbered r))
  at_care {forest} {cares} shared t c b exact e r ht hc h =
      IfOk-weaker shared (λ s. numbered s ≡ t) (λ s. IsAnswer eq forest cares t c (numbered s))
      (λ s g. record { restricts = ap erase g ∙ sym (to_leaf eq exact (erase t) (erase c) b r e); own = subst (IsOf forest) (sym g) ht; tree_own = ht; care_own = hc }) h

  pub answer_same : {E : Type 0} {forest : List (Plain L)} {cares : List (Plain Bool)} (shared : Result (Tree L) E) (t : Numbered L) (c : Numbered Bool) (m : Numbered L) → IsAnswer eq forest cares t c m → IfOk shared (λ r. numbered r ≡ m) → IfOk shared (λ r. IsAnswer eq forest cares t c (numbered r))
  answer_same {forest} {cares} shared t c m a h =
      IfOk-weaker shared (λ r. numbered r ≡ m) (λ r. IsAnswer eq forest cares t c (numbered r)) (λ r g. subst (IsAnswer eq forest cares t c) (sym g) a) h

  -- the answer is a tree in the forest, with the bounds of the tree
  pub answer_tree : {forest other : List (Plain L)} {cares : List (Plain Bool)} {t : Numbered L} {c : Numbered Bool} {r : Numbered L} (first : ℕ) → ((a : L) → eq a a ≡ true) → IsAnswer eq forest cares t c r → IsTreeIn first 320 other t → IsTreeIn first 320 forest r
  answer_tree {forest} {other} {cares} {t} {c} {r} first self a h = record {
    reduced = subst (IsReducedFrom first) (sym a.restricts) (reduced_of eq self (erase t) (erase c) first h.reduced);
    small = tests_below 320 (erase r) (λ k w. test_below 320 k (erase t) h.small (tests_of eq (erase t) (erase c) k (subst (HasTest k) a.restricts w)));
    own = a.own;
  }

  pub by_union : {forest : List (Plain L)} {cares : List (Plain Bool)} (t : Numbered L) (c u : Numbered Bool) (m : Numbered L) (k j : ℕ) (l h : Plain L) (p q : Plain Bool) → erase t ≡ node k l h → erase c ≡ node j p q → j < k → IsReduced (erase c) → IsReduced (erase u) → Alike (erase u ∷ []) (p ∷ q ∷ []) → IsOf cares c
      → IsAnswer eq forest cares t u m → IsAnswer eq forest cares t c m
  by_union t c u m k j l h p q et ec less rc ru alike own a = record {
    restricts = a.restricts ∙ sym (of_union eq (erase t) (erase c) (erase u) k j l h p q et ec less rc ru alike);
    own = a.own;
    tree_own = a.tree_own;
    care_own = own;
  }

  -- the sides of a tree and of the one that it is restricted to
  pub record AreSides (t : Numbered L) (c : Numbered Bool) (k : ℕ) (l h : Numbered L) (d e : Numbered Bool) : Type 0 where
    pub tree : erase t ≡ node k (erase l) (erase h)
    pub restricts : restricted eq (erase t) (erase c) ≡ sides_left eq k (is_false (erase d)) (is_false (erase e)) (restricted eq (erase l) (erase d)) (restricted eq (erase h) (erase e))

  pub are_sides : (t : Numbered L) (c : Numbered Bool) (k j : ℕ) (l h : Numbered L) (p q : Plain Bool) (d e : Numbered Bool) → erase t ≡ node k (erase l) (erase h) → erase c ≡ node j p q → k ≤ j → IsReduced (erase c) → erase d ≡ side_of k false (erase c) → erase e ≡ side_of k true (erase c) → AreSides t c k l h d e
  are_sides t c k j l h p q d e et ec le rc ed ee = record {
    tree = et;
    restricts =
        of_sides eq (erase t) (erase c) (side_of k false (erase c)) (side_of k true (erase c)) k (erase l) (erase h) et (has_sides (erase c) k j p q ec le rc) (ap is_false ec)
        ∙ (ap (λ x. sides_left eq k (is_false x) (is_false (side_of k true (erase c))) (restricted eq (erase l) x) (restricted eq (erase h) (side_of k true (erase c)))) (sym ed)
        ∙ ap (λ x. sides_left eq k (is_false (erase d)) (is_false x) (restricted eq (erase l) (erase d)) (restricted eq (erase h) x)) (sym ee));
  }

  pub by_yes : {forest : List (Plain L)} {cares : List (Plain Bool)} (t : Numbered L) (c : Numbered Bool) (k : ℕ) (l h : Numbered L) (d e : Numbered Bool) (m : Numbered L) → AreSides t c k l h d e → is_false (erase d) ≡ true → IsOf forest t → IsOf cares c → IsAnswer eq forest cares h e m → IsAnswer eq forest cares t c m
  by_yes t c k l h d e m s never ht hc a = record {
    restricts = a.restricts ∙ sym (s.restricts ∙ ap (λ b. sides_left eq k b (is_false (erase e)) (restricted eq (erase l) (erase d)) (restricted eq (erase h) (erase e))) never);
    own = a.own;
    tree_own = ht;
    care_own = hc;
  }

  pub by_no : {forest : List (Plain L)} {cares : List (Plain Bool)} (t : Numbered L) (c : Numbered Bool) (k : ℕ) (l h : Numbered L) (d e : Numbered Bool) (m : Numbered L) → AreSides t c k l h d e → is_false (erase d) ≡ false → is_false (erase e) ≡ true → IsOf forest t → IsOf cares c → IsAnswer eq forest cares l d m → IsAnswer eq forest cares t c m
  by_no t c k l h d e m s some never ht hc a = record {
    restricts = a.restricts ∙ sym (s.restricts ∙ (ap (λ b. sides_left eq k b (is_false (erase e)) (restricted eq (erase l) (erase d)) (restricted eq (erase h) (erase e))) some ∙ ap (λ b. cond b (restricted eq (erase l) (erase d)) (joined eq k (restricted eq (erase l) (erase d)) (restricted eq (erase h) (erase e)))) never));
    own = a.own;
    tree_own = ht;
    care_own = hc;
  }

  pub by_both : {before between after : List (Plain L)} {cares more grown : List (Plain Bool)} (t : Numbered L) (c : Numbered Bool) (k : ℕ) (l h : Numbered L) (d e : Numbered Bool) (a b r : Numbered L) → IsExact eq → ((x : L) → eq x x ≡ true) → AreSides t c k l h d e → is_false (erase d) ≡ false → is_false (erase e) ≡ false → IsOf after t → IsOf grown c
      → IsAnswer eq before cares l d a → IsAnswer eq between more h e b → IsNodeOf k (erase a) (erase b) (erase r) → IsOf after r → IsAnswer eq after grown t c r
  by_both t c k l h d e a b r exact self s some other ht hc on_low on_high made own = record {
    restricts =
        joined_is exact self k (erase a) (erase b) (erase r) made
        ∙ (ap (λ x. joined eq k x (erase b)) on_low.restricts ∙ (ap (joined eq k (restricted eq (erase l) (erase d))) on_high.restricts
        ∙ sym (s.restricts ∙ (ap (λ x. sides_left eq k x (is_false (erase e)) (restricted eq (erase l) (erase d)) (restricted eq (erase h) (erase e))) some ∙ ap (λ x. cond x (restricted eq (erase l) (erase d)) (joined eq k (restricted eq (erase l) (erase d)) (restricted eq (erase h) (erase e)))) other))));
    own = own;
    tree_own = ht;
    care_own = hc;
  }
