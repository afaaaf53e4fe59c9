-- Tests and assignments of linear forms, linearised: what a form with three terms or more, or with other coefficients than 1 and -1, says of
-- two terms and of one, where the others lie in their ranges.
use Rattle.std.specs.Prelude.{ℕ, nat_eq, ℤ, pos, negsuc, Bool, true, false, ◌&&◌, ◌||◌, if◌then◌else◌, List, [], ◌∷◌, Option, Some, None}
use Rattle.leaf_domain.specs.declared.form.Form.{Form}
use Rattle.leaf_domain.specs.declared.compare.Compare.{Compare}
use Rattle.leaf_domain.specs.declared.compare.Compare.TheVariants.{Lt, Le, Gt, Ge, Eq, Ne}
use Rattle.leaf_domain.specs.Forms.{multiple_form, kept_form}
use Rattle.leaf_domain.specs.Leaves.{LeafValue, LeafMeaning, is_nothing_of}
use Rattle.linear_terms.specs.Terms.{terms_sum}
use Rattle.linearised_leaf.specs.Sides.{is_unit, side_met}
use Rattle.linearised_leaf.specs.Differences.{set_met}

-- ---- comparisons with 0
-- the side of a form, where there is one
abbrev pub side_of : LeafMeaning → LeafValue → Option Form → ℤ → LeafValue
side_of M v None n = v
side_of M v (Some f) n = side_met M v f n

-- the leaf where the negated form plus a number is at most 0
abbrev pub other_side_met : LeafMeaning → LeafValue → Form → ℤ → LeafValue
other_side_met M v f n = side_of M v (multiple_form (negsuc 0) (Some f)) n

-- a form is below 0 where it plus 1 is at most 0, and not 0 where it is below 0 or above 0
unfoldable pub sides_met : LeafMeaning → LeafValue → Form → Compare → LeafValue
sides_met M v f Lt = side_met M v f (pos 1)
sides_met M v f Le = side_met M v f (pos 0)
sides_met M v f Gt = other_side_met M v f (pos 1)
sides_met M v f Ge = other_side_met M v f (pos 0)
sides_met M v f Eq = other_side_met M (side_met M v f (pos 0)) f (pos 0)
sides_met M v f Ne = M.join (side_met M v f (pos 1)) (other_side_met M v f (pos 1))

-- at most two terms, each a variable or its negation
abbrev pub is_octagonal : List (ℕ × ℤ) → Bool
is_octagonal [] = true
is_octagonal (t ∷ []) = is_unit t.1
is_octagonal (t ∷ u ∷ []) = is_unit t.1 && is_unit u.1
is_octagonal (t ∷ u ∷ w ∷ ts) = false

-- a leaf that was met with the comparison, or set so that it holds, linearised: unless it is Nothing, or an octagon has all of the form
abbrev pub tightened : LeafMeaning → LeafValue → Form → Compare → LeafValue
tightened M v f op = if is_nothing_of v || is_octagonal f.terms then v else sides_met M v f op

-- ---- assignments
abbrev pub has_variable : ℕ → List (ℕ × ℤ) → Bool
has_variable x [] = false
has_variable x (t ∷ ts) = nat_eq x t.0 || has_variable x ts

-- a form minus a variable
abbrev pub form_less_variable : ℕ → Form → Option Form
form_less_variable x f = kept_form (record { terms = terms_sum ((x, negsuc 0) ∷ []) f.terms; constant = f.constant })

-- a leaf whose form is 0, where there is one, linearised
abbrev pub tightened_where : LeafMeaning → LeafValue → Option Form → LeafValue
tightened_where M v None = v
tightened_where M v (Some f) = tightened M v f Eq

-- w, which is the leaf v with a variable set to a form, linearised: where the form has the variable, its other terms are met with the
-- variable, and where it has not, the form minus the variable is 0
abbrev pub tightened_set : LeafMeaning → LeafValue → ℕ → Form → LeafValue → LeafValue
tightened_set M v x f w = if has_variable x f.terms then set_met M v x f w else tightened_where M w (form_less_variable x f)
