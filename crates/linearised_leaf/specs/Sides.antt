-- What a form that is at most 0 says of each two of its terms, and of each one, where the others lie in their ranges (the linearisation of
-- A. Miné, "Symbolic methods to enhance the precision of numerical abstract domains", by intervals).
use Rattle.std.specs.Prelude.{ℕ, ℤ, pos, negsuc, ◌-ℤ◌, int_le, Bool, false, ◌&&◌, ◌||◌, if◌then◌else◌, List, [], ◌∷◌, Option, Some, None}
use Rattle.std.specs.Ordering.{int_eq}
use Rattle.leaf_domain.specs.declared.form.Form.{Form}
use Rattle.leaf_domain.specs.declared.range.Range.{Range}
use Rattle.leaf_domain.specs.declared.compare.Compare.TheVariants.{Le}
use Rattle.leaf_domain.specs.Sums.{kept_number}
use Rattle.leaf_domain.specs.Leaves.{LeafValue, LeafMeaning}
use Rattle.paired_leaf.specs.Exchange.{limited_at}
use Rattle.linearised_leaf.specs.LeastValues.{least_term, least_value, multiples_below}

-- 1 or -1
abbrev pub is_unit : ℤ → Bool
is_unit k = int_eq k (pos 1) || int_eq k (negsuc 0)

-- ---- two terms
abbrev pub two_terms : ℕ × ℤ → ℕ × ℤ → ℤ → Form
two_terms t u n = record { terms = t ∷ u ∷ []; constant = n }

-- whether no number of a range, where there is one, is above 0
abbrev pub is_never_above : Option Range → Bool
is_never_above None = false
is_never_above (Some r) = int_le r.high (pos 0)

-- the leaf met with a form being at most 0, where its range does not say so already
abbrev pub met_at_most : LeafMeaning → LeafValue → Form → LeafValue
met_at_most M w f = if is_never_above (M.form_range w f) then w else M.meet_form w f Le

-- the same of two terms and a constant, where the constant does not pass 2^40 in size
abbrev pub met_pair : LeafMeaning → LeafValue → Option ℤ → ℕ × ℤ → ℕ × ℤ → LeafValue
met_pair M w None t u = w
met_pair M w (Some n) t u = met_at_most M w (two_terms t u n)

-- ---- all terms: v has the ranges, n is the least value of the form, and w is what is met
module _ (M : LeafMeaning) (v : LeafValue) (n : ℤ) where
  -- a term and another, both with 1 or -1: they are at most what the least values of the others leave
  abbrev pub pair_met : ℕ × ℤ → ℕ × ℤ → LeafValue → LeafValue
  pair_met t u w =
      if is_unit t.1 && is_unit u.1 then met_pair M w (kept_number ((n -ℤ least_term M v t) -ℤ least_term M v u)) t u else w

  -- a term and each of others
  abbrev pub pairs_met : ℕ × ℤ → List (ℕ × ℤ) → LeafValue → LeafValue
  pairs_met t [] w = w
  pairs_met t (u ∷ us) w = pairs_met t us (pair_met t u w)

  -- each term and each behind it
  abbrev pub all_pairs_met : List (ℕ × ℤ) → LeafValue → LeafValue
  all_pairs_met [] w = w
  all_pairs_met (t ∷ ts) w = all_pairs_met ts (pairs_met t ts w)

  -- one term: its variable's range
  abbrev pub term_met : ℕ × ℤ → LeafValue → LeafValue
  term_met t w = limited_at M w t.0 (multiples_below t.1 (least_term M v t -ℤ n))

  -- each term
  abbrev pub terms_met : List (ℕ × ℤ) → LeafValue → LeafValue
  terms_met [] w = w
  terms_met (t ∷ ts) w = terms_met ts (term_met t w)

-- the leaf met with what a form plus a number being at most 0 says of two terms and of one
unfoldable pub side_met : LeafMeaning → LeafValue → Form → ℤ → LeafValue
side_met M v f n = terms_met M v (least_value M v f n) f.terms (all_pairs_met M v (least_value M v f n) f.terms v)
