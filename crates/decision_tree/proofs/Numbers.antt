-- What the numbers of a forest's trees tell.
use Rattle.std.proofs.Common.{◌≡◌, ◌↔◌, ℕ, List, [], ◌++◌, sym, ◌∙◌, ap, subst, inl, inr, append-nil, append_assoc}
use Rattle.decision_tree.specs.Plain.{Plain}
use Rattle.decision_tree.specs.Numbered.{Numbered, kept, branch, erase, root, IsWithin, IsNumbered}
use Rattle.decision_tree.specs.Listed.{IsListed, IsOf, Keeps, IsNumberedTree, IsTreeIn}
use Rattle.decision_tree.proofs.Nodes.{same_root, same_tree}

module _ {L : Type 0} where
  pub numbers_tell : (ts : List (Plain L)) (t u : Numbered L) → IsOf ts t → IsOf ts u → ((root t ≡ root u) ↔ (erase t ≡ erase u))
  numbers_tell ts t u h i = (same_tree ts t u h.listed i.listed, same_root ts t u h.distinct h.listed i.listed)

  listed_within : (ts : List (Plain L)) (t s : Numbered L) → IsListed ts t → IsWithin s t → IsListed ts s
  listed_within ts (kept n x) s h w = subst (IsListed ts) (sym w) h
  listed_within ts (branch n k low high) s h (inl e) = subst (IsListed ts) (sym e) h
  listed_within ts (branch n k low high) s h (inr (inl w)) = listed_within ts low s h.1 w
  listed_within ts (branch n k low high) s h (inr (inr w)) = listed_within ts high s h.2 w

  pub numbered_in : (ts : List (Plain L)) (t : Numbered L) → IsOf ts t → IsNumbered t
  numbered_in ts t h = record {
    tells = λ a b v w. (same_tree ts a b (listed_within ts t a h.listed v) (listed_within ts t b h.listed w), same_root ts a b h.distinct (listed_within ts t a h.listed v) (listed_within ts t b h.listed w));
  }

  -- a tree of a forest stays one
  pub stays : (before after : List (Plain L)) (t : Numbered L) → Keeps before after → IsOf before t → IsOf after t
  stays before after t k h = k.stay t h

  pub tree_stays : (first bound : ℕ) (before after : List (Plain L)) (t : Numbered L) → Keeps before after → IsTreeIn first bound before t → IsTreeIn first bound after t
  tree_stays first bound before after t k h = record { reduced = h.reduced; small = h.small; own = k.stay t h.own }

  -- and it is numbered
  pub numbered_tree : (first bound : ℕ) (forest : List (Plain L)) (t : Numbered L) → IsTreeIn first bound forest t → IsNumberedTree first bound t
  numbered_tree first bound forest t h = record { reduced = h.reduced; small = h.small; numbered = numbered_in forest t h.own }

  pub keeps_same : (before after : List (Plain L)) → after ≡ before → Keeps before after
  keeps_same before after e = record { more = []; begins = e ∙ sym (append-nil before); stay = λ t h. subst (λ ts. IsOf ts t) (sym e) h }

  pub keeps_both : (before between after : List (Plain L)) → Keeps before between → Keeps between after → Keeps before after
  keeps_both before between after h k = record {
    more = h.more ++ k.more;
    begins = k.begins ∙ (ap (λ ts. ts ++ k.more) h.begins ∙ append_assoc before h.more k.more);
    stay = λ t i. k.stay t (h.stay t i);
  }
