-- What one pass over an expression answers in a leaf, by the kind of its node.
use Rattle.std.specs.Prelude.{ℕ, ◌<◌, ℤ, negsuc, Bool, true, false, ◌&&◌, ◌||◌, not, Option, Some, None, IfSome}
use Rattle.c_tree.specs.declared.tree.Kind.{Kind}
use Rattle.c_tree.specs.declared.tree.Kind.TheVariants.{Overflow, ZeroDivisor, Assertion}
use Rattle.c_tree.specs.declared.tree.Mode.{Mode}
use Rattle.c_tree.specs.declared.tree.Op.{Op}
use Rattle.c_tree.specs.declared.tree.Op.TheVariants.{Div, Rem, Lt, Le, Gt, Ge, Eq}
use Rattle.c_tree.specs.Tree.{Term, Not, Binary}
use Rattle.leaf_domain.specs.declared.form.Form.{Form}
use Rattle.leaf_domain.specs.declared.operation.Operation.{Operation}
use Rattle.leaf_domain.specs.declared.range.Range.{Range}
use Rattle.leaf_domain.specs.declared.compare.Compare.{Compare}
use Rattle.leaf_domain.specs.declared.compare.Compare.TheVariants as compares
use Rattle.leaf_domain.specs.declared.evaluation.Evaluation.{Evaluation}
use Rattle.leaf_domain.specs.declared.sides.Operand.{Operand}
use Rattle.leaf_domain.specs.declared.stops.Stops.{Stops}
use Rattle.leaf_domain.specs.declared.survey.Survey.{Survey}
use Rattle.leaf_domain.specs.Ranges.{IsInInt, is_empty_range, range_at, clip_of, is_arithmetic}
use Rattle.leaf_domain.specs.Leaves.{LeafValue, LeafMeaning}
use Rattle.leaf_domain.specs.Transfer.{Transfer, transfer, range_where_some, range_of_sides, fits_in, is_inside, results_in, raw_of_sum, negated_range, form_where, form_less_zero, zero_range, compared, operands_compared, operands_range}
use Rattle.leaf_domain.specs.Forms.{form_of_term, kept_form, constant_form, variable_form, multiple_form, difference_form, binary_form}
use Rattle.leaf_domain.specs.Stops.{may_leave, stops_at, either_stops, unless_nothing, may_term}
use Rattle.leaf_domain.specs.Sums.{HasForm}
use Rattle.leaf_domain.specs.Operations.{HasOperation, operation_where, kept_operation}

-- the ranges and the fit of an expression in a leaf
abbrev pub evaluation_of : Transfer → LeafValue → Evaluation
evaluation_of t v = record { raw = t.raw v; range = t.range v; fits = t.fits v }

-- whether the node is a truth value
abbrev pub is_truth_term : Term → Bool
is_truth_term (Not a) = true
is_truth_term (Binary op a b) = not (is_arithmetic op)
is_truth_term e = false

-- a truth value that is 1 in the first leaf and 0 in the second
abbrev pub truth_at : Mode → LeafValue → LeafValue → Evaluation
truth_at mode when_true when_false = record { raw = range_of_sides when_true when_false; range = range_of_sides when_true when_false; fits = fits_in mode false }

-- a number with these ranges, which are empty at Nothing
abbrev pub number_at : LeafValue → Range → Range → Bool → Evaluation
number_at v raw range fits = record { raw = range_where_some v raw; range = range_where_some v range; fits = fits }

-- a negation, a sum, a difference or a product with this range before it is met with that of its form
abbrev pub modular_at : LeafMeaning → Mode → Option Form → Bool → Range → LeafValue → Evaluation
modular_at M mode f operands_fit plain v =
    number_at v (raw_of_sum M f operands_fit plain v) (results_in mode (raw_of_sum M f operands_fit plain v)) (fits_in mode (operands_fit && is_inside (raw_of_sum M f operands_fit plain v)))

-- a quotient or a remainder
abbrev pub divided_at : Mode → Range → LeafValue → Evaluation
divided_at mode plain v = number_at v plain (clip_of plain) (fits_in mode false)

abbrev pub negation_at : LeafMeaning → Mode → Option Form → Evaluation → LeafValue → Evaluation
negation_at M mode f a v = modular_at M mode f a.fits (negated_range a.range) v

-- an arithmetic operator on two operands
abbrev pub arithmetic_at : LeafMeaning → Mode → Op → Option Form → Option Operation → Evaluation → Evaluation → LeafValue → Evaluation
arithmetic_at M mode Div f p a b v = divided_at mode (operands_range M Div p a.range b.range v) v
arithmetic_at M mode Rem f p a b v = divided_at mode (operands_range M Rem p a.range b.range v) v
arithmetic_at M mode op f p a b v = modular_at M mode f (a.fits && b.fits) (operands_range M op p a.range b.range v) v

-- ---- comparisons

-- the comparison of an operator; of any other operator that with 0
abbrev pub compare_of_op : Op → Compare
compare_of_op Lt = compares.Lt
compare_of_op Le = compares.Le
compare_of_op Gt = compares.Gt
compare_of_op Ge = compares.Ge
compare_of_op Eq = compares.Eq
compare_of_op op = compares.Ne

-- a variable, where there is one, is below a count, and the range is within `int`
pub record IsOperand (count : ℕ) (a : Operand) : Type 0 where
  pub variable : IfSome a.variable (λ x. x < count)
  pub range : IsInInt a.range

-- the leaf where the comparison of two operands holds, whose difference has this form
abbrev pub compared_at : LeafMeaning → Compare → Operand → Operand → Option Form → LeafValue → LeafValue
compared_at M op a b f v = compared M op a.variable b.variable a.range b.range f v

-- the leaf where the comparison of two operands holds, each also seen as what an operator gives
abbrev pub operands_compared_at : LeafMeaning → Compare → Operand → Operand → Option Form → Option Operation → Option Operation → LeafValue → LeafValue
operands_compared_at M op a b f p q v = operands_compared M op a.variable b.variable a.range b.range f p q v

-- the leaf where the comparison of two expressions holds, by what was found of them
abbrev pub compared_terms : LeafMeaning → Compare → Option ℕ → Option ℕ → Survey → Survey → LeafValue → LeafValue
compared_terms M op x y left right v =
    operands_compared M op x y left.evaluation.range right.evaluation.range (form_where (left.evaluation.fits && right.evaluation.fits) (difference_form left.form right.form)) left.operation right.operation v

-- the leaf where the comparison of a number with 0 holds, by what was found of it
abbrev pub compared_zero : LeafMeaning → Compare → Option ℕ → Survey → LeafValue → LeafValue
compared_zero M op x found v = operands_compared M op x None found.evaluation.range zero_range (form_where found.evaluation.fits (form_less_zero found.form)) found.operation None v

-- ---- stops

-- with which kinds an expression may stop
abbrev pub stops_of : LeafMeaning → Mode → Term → LeafValue → Stops
stops_of M mode e v = record { overflow = may_term M mode Overflow e v; zero_divisor = may_term M mode ZeroDivisor e v }

abbrev pub has_kind : Stops → Kind → Bool
has_kind s Overflow = s.overflow
has_kind s ZeroDivisor = s.zero_divisor
has_kind s Assertion = false

abbrev pub no_stops : Stops
no_stops = record { overflow = false; zero_divisor = false }

abbrev pub stops_where_some : LeafValue → Stops → Stops
stops_where_some v s = record { overflow = unless_nothing v s.overflow; zero_divisor = unless_nothing v s.zero_divisor }

-- those of the first and of the second
abbrev pub joined_stops : Stops → Stops → Stops
joined_stops s t = record { overflow = s.overflow || t.overflow; zero_divisor = s.zero_divisor || t.zero_divisor }

-- a negation of this range before clipping, by its operand's stops and range
abbrev pub negation_stops : Mode → Range → Stops → Range → Stops
negation_stops mode raw s r = record {
  overflow = s.overflow || (not (is_empty_range r) && may_leave mode Overflow raw);
  zero_divisor = s.zero_divisor || (not (is_empty_range r) && may_leave mode ZeroDivisor raw);
}

-- an operator of this range before clipping, by its operands' stops and ranges
abbrev pub operator_stops : Mode → Op → Range → Stops → Stops → Range → Range → Stops
operator_stops mode op raw left right r s = record {
  overflow = either_stops left.overflow right.overflow (stops_at mode Overflow op raw r s) r s;
  zero_divisor = either_stops left.zero_divisor right.zero_divisor (stops_at mode ZeroDivisor op raw r s) r s;
}

-- ---- all that one pass finds

abbrev pub survey_of : LeafMeaning → Mode → Term → LeafValue → Survey
survey_of M mode e v = record { evaluation = evaluation_of (transfer M mode e) v; form = form_of_term e; operation = (transfer M mode e).operation v; stops = stops_of M mode e v }

-- a range within `int`, and a form and an operation over so many variables, which are at most 48
pub record IsOver (count : ℕ) (s : Survey) : Type 0 where
  pub range : IsInInt s.evaluation.range
  pub form : HasForm count s.form
  pub few : HasForm 48 s.form
  pub operation : HasOperation count s.operation

abbrev pub number_survey : ℤ → LeafValue → Survey
number_survey n v = record { evaluation = number_at v (range_at n n) (range_at n n) true; form = kept_form (constant_form n); operation = None; stops = no_stops }

abbrev pub variable_survey : LeafMeaning → ℕ → LeafValue → Survey
variable_survey M x v = record { evaluation = number_at v (M.bounds_of v x) (M.bounds_of v x) true; form = Some (variable_form x); operation = None; stops = no_stops }

-- a number, by its evaluation, its form, its operation and the stops that it has where the leaf is not Nothing
abbrev pub numeric_survey : LeafValue → Evaluation → Option Form → Option Operation → Stops → Survey
numeric_survey v found f p s = record { evaluation = found; form = f; operation = p; stops = stops_where_some v s }

abbrev pub negation_survey : LeafMeaning → Mode → Survey → LeafValue → Survey
negation_survey M mode a v =
    let f = multiple_form (negsuc 0) a.form in
    let found = negation_at M mode f a.evaluation v in
    numeric_survey v found f None (negation_stops mode found.raw a.stops a.evaluation.range)

abbrev pub operation_survey : LeafMeaning → Mode → Op → Survey → Survey → LeafValue → Survey
operation_survey M mode op a b v =
    let f = binary_form op a.form b.form in
    let p = operation_where (a.evaluation.fits && b.evaluation.fits) op a.form b.form in
    let found = arithmetic_at M mode op f p a.evaluation b.evaluation v in
    numeric_survey v found f (kept_operation op found.fits p) (operator_stops mode op found.raw a.stops b.stops a.evaluation.range b.evaluation.range)

-- a truth value that is 1 in the first leaf and 0 in the second
abbrev pub truth_survey : Mode → LeafValue → LeafValue → Stops → Survey
truth_survey mode when_true when_false s = record { evaluation = truth_at mode when_true when_false; form = None; operation = None; stops = s }
