-- A product of which one factor has one value in a leaf is a multiple of the other factor, so that it has a linear form: what an assignment of
-- it and a comparison of it say is what that form says.
use Rattle.std.specs.Prelude.{ℕ, ℤ, pos, ◌-ℤ◌, Bool, true, ◌&&◌, if◌then◌else◌, List, [], ◌∷◌, Option, Some, None}
use Rattle.c_tree.specs.declared.tree.Op.{Op}
use Rattle.c_tree.specs.declared.tree.Op.TheVariants.{Mul}
use Rattle.leaf_domain.specs.declared.form.Form.{Form}
use Rattle.leaf_domain.specs.declared.operation.Operation.{Operation}
use Rattle.leaf_domain.specs.declared.range.Range.{Range}
use Rattle.leaf_domain.specs.declared.compare.Compare.{Compare}
use Rattle.leaf_domain.specs.declared.compare.Compare.TheVariants.{Lt, Le, Gt, Ge, Eq, Ne}
use Rattle.leaf_domain.specs.Forms.{multiple_form}
use Rattle.leaf_domain.specs.Sums.{kept_number}
use Rattle.leaf_domain.specs.Ranges.{is_single}
use Rattle.leaf_domain.specs.Leaves.{LeafValue, LeafMeaning}
use Rattle.linearised_leaf.specs.LeastValues.{least_value}
use Rattle.linearised_leaf.specs.Differences.{set_met}
use Rattle.linearised_leaf.specs.Tightened.{tightened, has_variable, form_less_variable}

-- ---- the form of a product
-- each variable of the terms has one value
abbrev pub have_one_value : LeafMeaning → LeafValue → List (ℕ × ℤ) → Bool
have_one_value M v [] = true
have_one_value M v (t ∷ ts) = is_single (M.bounds_of v t.0) && have_one_value M v ts

-- the value of a form, where each of its variables has one, and it does not pass 2^40 in size
abbrev pub known_value : LeafMeaning → LeafValue → Form → Option ℤ
known_value M v f = if have_one_value M v f.terms then kept_number (least_value M v f (pos 0)) else None

-- a form so many times, where the number is known
abbrev pub multiple_by : Option ℤ → Form → Option Form
multiple_by None f = None
multiple_by (Some k) f = multiple_form k (Some f)

abbrev pub first_or : Option Form → Option Form → Option Form
first_or None g = g
first_or (Some f) g = Some f

-- the form of an operation: that of a product of which one factor has one value
abbrev pub form_by_op : LeafMeaning → LeafValue → Op → Form → Form → Option Form
form_by_op M v Mul f g = first_or (multiple_by (known_value M v f) g) (multiple_by (known_value M v g) f)
form_by_op M v op f g = None

abbrev pub operation_form : LeafMeaning → LeafValue → Operation → Option Form
operation_form M v p = form_by_op M v p.op p.left p.right

-- ---- what it says
-- a leaf met with a comparison of a form with 0, where there is one, linearised
abbrev pub met_where : LeafMeaning → LeafValue → Option Form → Compare → LeafValue
met_where M w None op = w
met_where M w (Some f) op = tightened M (M.meet_form w f op) f op

-- a form less a number
abbrev pub less_by : Form → Option ℤ → Option Form
less_by f None = None
less_by f (Some n) = Some (record { terms = f.terms; constant = n })

abbrev pub less_number : ℤ → Form → Option Form
less_number n f = less_by f (kept_number (f.constant -ℤ n))

-- a leaf met with a form's comparing so with some number of a range
abbrev pub met_between : LeafMeaning → LeafValue → Form → Compare → Range → LeafValue
met_between M w f Lt r = met_where M w (less_number r.high f) Lt
met_between M w f Le r = met_where M w (less_number r.high f) Le
met_between M w f Gt r = met_where M w (less_number r.low f) Gt
met_between M w f Ge r = met_where M w (less_number r.low f) Ge
met_between M w f Eq r = met_where M (met_where M w (less_number r.low f) Ge) (less_number r.high f) Le
met_between M w f Ne r = if is_single r then met_where M w (less_number r.low f) Ne else w

-- a leaf that was met with the comparison of an operation, met with that of its form
abbrev pub operation_met : LeafMeaning → LeafValue → Option Form → Compare → Range → LeafValue
operation_met M w None op r = w
operation_met M w (Some f) op r = met_between M w f op r

-- w, which is the leaf v with a variable set to an operation, met with the variable's being its form
abbrev pub operation_set : LeafMeaning → LeafValue → ℕ → Option Form → LeafValue → LeafValue
operation_set M v x None w = w
operation_set M v x (Some f) w = if has_variable x f.terms then set_met M v x f w else met_where M w (form_less_variable x f) Eq
