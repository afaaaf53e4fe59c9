-- Leaves of intervals with strides that follow squares, and quotients and remainders by a constant: what is known of `f * f`, `f / m`
-- and `f % m`, and of comparisons of them, where f is a linear form.
use Rattle.std.specs.Prelude.{◌≢◌, ⊤, ℕ, ℤ, pos, ◌+ℤ◌, int_le, Bool, true, false, ◌&&◌, not, if◌then◌else◌, List, [], ◌∷◌, Option, Some, None}
use Rattle.std.specs.Int.{int_min, int_max}
use Rattle.std.specs.Ordering.{int_eq}
use Rattle.c_tree.specs.declared.tree.Op.{Op}
use Rattle.c_tree.specs.declared.tree.Op.TheVariants.{Mul, Div, Rem}
use Rattle.c_tree.specs.Value.{least, greatest, IsInt}
use Rattle.linear_terms.specs.Order.{same_terms}
use Rattle.leaf_domain.specs.declared.form.Form.{Form}
use Rattle.leaf_domain.specs.declared.operation.Operation.{Operation}
use Rattle.leaf_domain.specs.declared.range.Range.{Range}
use Rattle.leaf_domain.specs.declared.compare.Compare.{Compare}
use Rattle.leaf_domain.specs.Forms.{has_no_term}
use Rattle.leaf_domain.specs.Ranges.{range_at, empty_range, whole_int}
use Rattle.leaf_domain.specs.Leaves.{LeafValue, LeafMeaning, nothing_of, is_nothing_of}
use Rattle.strides.specs.declared.strided.Strided.{Strided}
use Rattle.strides.specs.Strided.{strided_in, range_of, reduced, best_part}
use Rattle.product_leaf.specs.StrideLeaves.{strides, part_at, part_in, met_part, form_stride, best_parts, stride_with}
use Rattle.congruence_leaf.specs.declared.functions.Function.{Function}
use Rattle.congruence_leaf.specs.declared.functions.Function.TheVariants.{Square, Quotient, Remainder}
use Rattle.congruence_leaf.specs.Remainders.{stride_less, stride_modulo, strided_remainders, strided_cut}
use Rattle.congruence_leaf.specs.TwoStrides.{strided_met}
use Rattle.congruence_leaf.specs.Squares.{strided_squares}
use Rattle.congruence_leaf.specs.Quotients.{strided_quotients}

-- ---- operands
-- the variable of a form that is a variable and a constant
abbrev pub lone_variable : List (ℕ × ℤ) → Option ℕ
lone_variable [] = None
lone_variable (t ∷ []) = if int_eq t.1 (pos 1) then Some t.0 else None
lone_variable (t ∷ u ∷ ts) = None

-- a range with so much added to each number, as far as it lies within int
abbrev pub moved_within : ℤ → Range → Range
moved_within c r = range_at (int_max least (r.low +ℤ c)) (int_min greatest (r.high +ℤ c))

abbrev pub reach_by : List Strided → Option ℕ → ℤ → Range
reach_by bs None c = whole_int
reach_by bs (Some x) c = moved_within c (range_of (part_at bs x))

-- the range of a form within int: that of its variable, where it is a variable and a constant
abbrev pub form_reach : List Strided → Form → Range
form_reach bs f = reach_by bs (lone_variable f.terms) f.constant

-- the numbers within int that a form may have
unfoldable pub form_numbers : List Strided → Form → Strided
form_numbers bs f = strided_in (form_reach bs f) (form_stride bs f)

-- within int
abbrev pub is_int : ℤ → Bool
is_int n = int_le least n && int_le n greatest

-- both ends are within int
abbrev pub is_in_int : Range → Bool
is_in_int a = is_int a.low && is_int a.high

-- within int, and not 0
abbrev pub is_divisor : ℤ → Bool
is_divisor m = int_le least m && (int_le m greatest && not (int_eq m (pos 0)))

-- the number of a form that is a constant to divide by
unfoldable pub divisor_of : Form → Option ℤ
divisor_of f = if has_no_term f.terms && is_divisor f.constant then Some f.constant else None

-- the same terms and the same constant
abbrev pub same_form : Form → Form → Bool
same_form f g = same_terms f.terms g.terms && int_eq f.constant g.constant

-- ---- operations that are functions of one form
abbrev pub square_where : Bool → Option Function
square_where true = Some Square
square_where false = None

abbrev pub quotient_by : Option ℤ → Option Function
quotient_by None = None
quotient_by (Some m) = Some (Quotient m)

abbrev pub remainder_by : Option ℤ → Option Function
remainder_by None = None
remainder_by (Some m) = Some (Remainder m)

-- a form times itself, and a form divided by a constant
abbrev pub function_by : Op → Form → Form → Option Function
function_by Mul f g = square_where (same_form f g)
function_by Div f g = quotient_by (divisor_of g)
function_by Rem f g = remainder_by (divisor_of g)
function_by op f g = None

-- the function of its left form that an operation is
abbrev pub function_of : Operation → Option Function
function_of p = function_by p.op p.left p.right

-- what is divided by is within int, and not 0
abbrev pub HasDivisor : Function → Type 0
HasDivisor Square = ⊤
HasDivisor (Quotient m) = IsInt m × (m ≢ pos 0)
HasDivisor (Remainder m) = IsInt m × (m ≢ pos 0)

-- ---- results
-- the values of a function at numbers of which the low is one
abbrev pub applied : Strided → Function → Strided
applied d Square = strided_squares d
applied d (Quotient m) = strided_quotients d m
applied d (Remainder m) = strided_remainders d m

-- the values at the numbers, where there are some
abbrev pub applied_by : Option Strided → Function → Strided
applied_by None g = part_in empty_range
applied_by (Some d) g = applied d g

abbrev pub results_by : List Strided → Form → Option Function → Option Strided
results_by bs f None = None
results_by bs f (Some g) = Some (reduced (applied_by (best_part (form_numbers bs f)) g))

-- The numbers that an operation may give, where it is a function of its left form. A square and a quotient by -1 may pass int.
unfoldable pub results_of : List Strided → Operation → Option Strided
results_of bs p = results_by bs p.left (function_of p)

-- the same in a leaf
abbrev pub leaf_results : LeafValue → Operation → Option Strided
leaf_results v p = if is_nothing_of v then None else results_of (best_parts v) p

-- ---- the operations
abbrev pub results_range : Option Strided → Option Range
results_range None = None
results_range (Some b) = Some (range_of b)

-- the results in a range, or all numbers of it
abbrev pub results_in : Option Strided → Range → Strided
results_in None r = part_in r
results_in (Some b) r = met_part b r

abbrev pub congruence_set : LeafValue → ℕ → Operation → Range → LeafValue
congruence_set v x p r = stride_with v x (results_in (leaf_results v p) r)

-- the part of a variable which with a constant leaves one of these remainders by m
abbrev pub divided_part : List Strided → ℕ → ℤ → ℤ → Strided → Strided
divided_part bs x c m b = strided_met (part_at bs x) (stride_less c (stride_modulo m b.stride))

-- a leaf in which a variable and a constant leave one of these remainders by m; any other form says nothing of a variable
abbrev pub divided_with : LeafValue → Option ℕ → ℤ → ℤ → Strided → LeafValue
divided_with v None c m b = v
divided_with v (Some x) c m b = stride_with v x (divided_part (best_parts v) x c m b)

-- a leaf in which the function has one of these values at the form; Nothing where there is none
abbrev pub value_with : LeafValue → Form → Option Strided → Function → LeafValue
value_with v f None g = nothing_of v.variables
value_with v f (Some b) Square = v
value_with v f (Some b) (Quotient m) = v
value_with v f (Some b) (Remainder m) = divided_with v (lone_variable f.terms) f.constant m b

-- a comparison says nothing where a result may pass int
abbrev pub met_by : LeafValue → Form → Option Function → Option Strided → Compare → Range → LeafValue
met_by v f None b op r = v
met_by v f (Some g) None op r = v
met_by v f (Some g) (Some b) op r = if is_in_int (range_of b) then value_with v f (best_part (strided_cut op b r)) g else v

abbrev pub congruence_meet : LeafValue → Operation → Compare → Range → LeafValue
congruence_meet v p op r = met_by v p.left (function_of p) (leaf_results v p) op r

-- strides, with what they say of squares, and of quotients and remainders by a constant
abbrev pub congruences : LeafMeaning
congruences = record strides {
  step_of = λ v x. (part_at (best_parts v) x).stride.modulus;
  operation_range = λ v p. results_range (leaf_results v p);
  meet_operation = congruence_meet;
  set_operation = congruence_set;
}
