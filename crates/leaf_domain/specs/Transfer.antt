-- What an expression does to a leaf, over the meanings of the leaf's operations.
use Rattle.std.specs.Prelude.{ℕ, pos, neg_ℤ, int_le, Bool, true, false, if◌then◌else◌, ◌&&◌, ◌||◌, not, Option, Some, None}
use Rattle.c_tree.specs.declared.tree.Mode.{Mode}
use Rattle.c_tree.specs.declared.tree.Mode.TheVariants.{Stop, Wrap}
use Rattle.c_tree.specs.declared.tree.Op.{Op}
use Rattle.c_tree.specs.declared.tree.Op.TheVariants.{Div, Rem, Lt, Le, Gt, Ge, Eq, Ne, And, Or}
use Rattle.c_tree.specs.Tree.{Term, Number, Var, Neg, Not, Binary}
use Rattle.c_tree.specs.Value.{least, greatest}
use Rattle.leaf_domain.specs.declared.form.Form.{Form}
use Rattle.leaf_domain.specs.declared.operation.Operation.{Operation}
use Rattle.leaf_domain.specs.declared.range.Range.{Range}
use Rattle.leaf_domain.specs.declared.compare.Compare.{Compare}
use Rattle.leaf_domain.specs.declared.compare.Compare.TheVariants as compares
use Rattle.leaf_domain.specs.Ranges.{empty_range, is_empty_range, range_at, whole_int, meet_of, clip_of, fold_of, hull_of, arithmetic_range}
use Rattle.leaf_domain.specs.Compares.{cut_of, mirror_of, negation_of}
use Rattle.leaf_domain.specs.Forms.{form_of_term, constant_form, difference_form}
use Rattle.leaf_domain.specs.Operations.{operation_where, operation_if}
use Rattle.leaf_domain.specs.Leaves.{LeafValue, LeafMeaning, nothing_of, is_nothing_of}

-- the ranges of an expression in a leaf, before and after clipping or folding; whether its sums and products fit there;
-- the operator that gives its value, where its operands have forms that count; and the leaf where it is not 0, or is 0
pub record Transfer : Type 0 where
  pub raw : LeafValue → Range
  pub range : LeafValue → Range
  pub fits : LeafValue → Bool
  pub operation : LeafValue → Option Operation
  pub when_true : LeafValue → LeafValue
  pub when_false : LeafValue → LeafValue

-- ---- Nothing

abbrev pub where_some : LeafValue → LeafValue → LeafValue
where_some v w = if is_nothing_of v then v else w

abbrev pub range_where_some : LeafValue → Range → Range
range_where_some v r = if is_nothing_of v then empty_range else r

-- ---- truth values

-- the range of a truth value that may be 1 and may be 0
abbrev pub truth_range : Bool → Bool → Range
truth_range may_hold may_fail = hull_of (if may_hold then range_at (pos 1) (pos 1) else empty_range) (if may_fail then range_at (pos 0) (pos 0) else empty_range)

abbrev pub range_of_sides : LeafValue → LeafValue → Range
range_of_sides when_true when_false = truth_range (not (is_nothing_of when_true)) (not (is_nothing_of when_false))

-- in the mode in which an overflow stops every expression fits
abbrev pub fits_in : Mode → Bool → Bool
fits_in Stop b = true
fits_in Wrap b = b

-- a node that is a truth value
abbrev pub logical : Mode → (LeafValue → LeafValue) → (LeafValue → LeafValue) → Transfer
logical mode when_true when_false = record {
  raw = λ v. range_of_sides (where_some v (when_true v)) (where_some v (when_false v));
  range = λ v. range_of_sides (where_some v (when_true v)) (where_some v (when_false v));
  fits = λ v. fits_in mode false;
  operation = λ v. None;
  when_true = λ v. where_some v (when_true v);
  when_false = λ v. where_some v (when_false v);
}

-- ---- comparisons

abbrev pub variable_of : Term → Option ℕ
variable_of (Var x) = Some x
variable_of e = None

-- a form that counts only where the operands fit
abbrev pub form_where : Bool → Option Form → Option Form
form_where true f = f
form_where false f = None

-- a leaf met with the range of a variable, where there is one
abbrev pub met : LeafMeaning → Option ℕ → Range → LeafValue → LeafValue
met M None r v = v
met M (Some x) r v = M.meet_range v x r

-- a leaf met with the comparison of a form with 0, where there is one
abbrev pub form_met : LeafMeaning → Option Form → Compare → LeafValue → LeafValue
form_met M None op v = v
form_met M (Some f) op v = M.meet_form v f op

-- the leaf where the comparison of two operands holds: which variables they are, their ranges, and the form of their difference
abbrev pub compared : LeafMeaning → Compare → Option ℕ → Option ℕ → Range → Range → Option Form → LeafValue → LeafValue
compared M op x y r s f v =
    if is_empty_range r || is_empty_range s || is_empty_range (cut_of op r s) then nothing_of v.variables
    else form_met M f op (met M y (cut_of (mirror_of op) s r) (met M x (cut_of op r s) (M.best v)))

-- a leaf met with the comparison of what an operator gives with some number of a range, where there is one
abbrev pub operation_met : LeafMeaning → Option Operation → Compare → Range → LeafValue → LeafValue
operation_met M None op r v = v
operation_met M (Some p) op r v = M.meet_operation v p op r

-- a leaf met with the comparison of what two operators give, which lies in these ranges
abbrev pub operations_met : LeafMeaning → Compare → Option Operation → Option Operation → Range → Range → LeafValue → LeafValue
operations_met M op p q r s v = operation_met M q (mirror_of op) r (operation_met M p op s v)

-- the leaf where the comparison of two operands holds, each also seen as what an operator gives
abbrev pub operands_compared : LeafMeaning → Compare → Option ℕ → Option ℕ → Range → Range → Option Form → Option Operation → Option Operation → LeafValue → LeafValue
operands_compared M op x y r s f p q v = operations_met M op p q r s (compared M op x y r s f v)

-- a comparison of two operands that are these variables and have this difference
abbrev pub comparison : LeafMeaning → Mode → Compare → Option ℕ → Option ℕ → Option Form → Transfer → Transfer → Transfer
comparison M mode op x y f a b = logical mode
    (λ v. operands_compared M op x y (a.range v) (b.range v) (form_where (a.fits v && b.fits v) f) (a.operation v) (b.operation v) v)
    (λ v. operands_compared M (negation_of op) x y (a.range v) (b.range v) (form_where (a.fits v && b.fits v) f) (a.operation v) (b.operation v) v)

-- ---- numbers

abbrev pub zero_range : Range
zero_range = range_at (pos 0) (pos 0)

-- the form of the difference to 0
abbrev pub form_less_zero : Option Form → Option Form
form_less_zero f = difference_form f (Some (constant_form (pos 0)))

-- a node that is a number is compared with 0
abbrev pub numeric : LeafMeaning → Option ℕ → Option Form → (LeafValue → Option Operation) → (LeafValue → Bool) → (LeafValue → Range) → (LeafValue → Range) → Transfer
numeric M x f operation fits raw range = record {
  raw = λ v. range_where_some v (raw v);
  range = λ v. range_where_some v (range v);
  fits = fits;
  operation = operation;
  when_true = λ v. where_some v (operands_compared M compares.Ne x None (range v) zero_range (form_where (fits v) (form_less_zero f)) (operation v) None v);
  when_false = λ v. where_some v (operands_compared M compares.Eq x None (range v) zero_range (form_where (fits v) (form_less_zero f)) (operation v) None v);
}

-- a number or a variable, which always fits
abbrev pub atomic : LeafMeaning → Option ℕ → Option Form → (LeafValue → Range) → Transfer
atomic M x f range = numeric M x f (λ v. None) (λ v. true) range range

abbrev pub is_within_int : Range → Bool
is_within_int a = int_le least a.low && int_le a.high greatest

-- an empty range, or one within `int`
abbrev pub is_inside : Range → Bool
is_inside a = is_empty_range a || is_within_int a

-- the range of the results: overflows stop, or wrap
abbrev pub results_in : Mode → Range → Range
results_in Stop a = clip_of a
results_in Wrap a = fold_of a

-- the range of a form, where there is one and the kind of leaf has one for it
abbrev pub form_range_of : LeafMeaning → Option Form → LeafValue → Option Range
form_range_of M None v = None
form_range_of M (Some f) v = M.form_range v f

abbrev pub narrowed_by : Option Range → Range → Range
narrowed_by None r = r
narrowed_by (Some s) r = meet_of r s

-- the range of a sum or a product before clipping, met with that of its form where the operands fit
abbrev pub raw_of_sum : LeafMeaning → Option Form → Bool → Range → LeafValue → Range
raw_of_sum M f operands_fit r v = narrowed_by (form_range_of M (form_where operands_fit f) v) r

-- the range of what an operator gives, where its operands have forms that count and the kind of leaf has one for it
abbrev pub operation_range_of : LeafMeaning → Option Operation → LeafValue → Option Range
operation_range_of M None v = None
operation_range_of M (Some p) v = M.operation_range v p

-- the range of an operator on operands of these ranges before clipping, met with that of the operation
abbrev pub operands_range : LeafMeaning → Op → Option Operation → Range → Range → LeafValue → Range
operands_range M op p r s v = narrowed_by (operation_range_of M p v) (arithmetic_range op r s)

-- a negation, a sum, a difference or a product: its form, its operation, whether its operands fit, and the range that theirs give
abbrev pub modular : LeafMeaning → Mode → Option Form → (LeafValue → Option Operation) → (LeafValue → Bool) → (LeafValue → Range) → Transfer
modular M mode f operation operands_fit plain = numeric M None f
    (λ v. operation_if (fits_in mode (operands_fit v && is_inside (raw_of_sum M f (operands_fit v) (plain v) v))) (operation v))
    (λ v. fits_in mode (operands_fit v && is_inside (raw_of_sum M f (operands_fit v) (plain v) v)))
    (λ v. raw_of_sum M f (operands_fit v) (plain v) v)
    (λ v. results_in mode (raw_of_sum M f (operands_fit v) (plain v) v))

-- a quotient or a remainder, which has no form
abbrev pub divided : LeafMeaning → Mode → (LeafValue → Option Operation) → (LeafValue → Range) → Transfer
divided M mode operation plain = numeric M None None operation (λ v. fits_in mode false) plain (λ v. clip_of (plain v))

-- the negated numbers of a range
abbrev pub negated_range : Range → Range
negated_range a = if is_empty_range a then empty_range else range_at (neg_ℤ a.high) (neg_ℤ a.low)

-- ---- expressions

-- the right side of `&&` and `||` is looked at only in the leaf where it is needed
abbrev pub both : LeafMeaning → Mode → Transfer → Transfer → Transfer
both M mode a b = logical mode (λ v. b.when_true (a.when_true v)) (λ v. M.join (a.when_false v) (b.when_false (a.when_true v)))

abbrev pub either : LeafMeaning → Mode → Transfer → Transfer → Transfer
either M mode a b = logical mode (λ v. M.join (a.when_true v) (b.when_true (a.when_false v))) (λ v. b.when_false (a.when_false v))

-- an arithmetic operator on operands of these forms, where both fit
abbrev pub operation_at_leaf : Op → Option Form → Option Form → Transfer → Transfer → LeafValue → Option Operation
operation_at_leaf op g h a b v = operation_where (a.fits v && b.fits v) op g h

-- the range of an arithmetic operator on operands of these forms
abbrev pub range_at_leaf : LeafMeaning → Op → Option Form → Option Form → Transfer → Transfer → LeafValue → Range
range_at_leaf M op g h a b v = operands_range M op (operation_at_leaf op g h a b v) (a.range v) (b.range v) v

-- an operator on two operands: which variables they are, the form of the whole and of the difference of the operands, and
-- those of the operands
abbrev pub binary_transfer : LeafMeaning → Mode → Op → Option ℕ → Option ℕ → Option Form → Option Form → Option Form → Option Form → Transfer → Transfer → Transfer
binary_transfer M mode Div x y f d g h a b = divided M mode (operation_at_leaf Div g h a b) (range_at_leaf M Div g h a b)
binary_transfer M mode Rem x y f d g h a b = divided M mode (operation_at_leaf Rem g h a b) (range_at_leaf M Rem g h a b)
binary_transfer M mode Lt x y f d g h a b = comparison M mode compares.Lt x y d a b
binary_transfer M mode Le x y f d g h a b = comparison M mode compares.Le x y d a b
binary_transfer M mode Gt x y f d g h a b = comparison M mode compares.Gt x y d a b
binary_transfer M mode Ge x y f d g h a b = comparison M mode compares.Ge x y d a b
binary_transfer M mode Eq x y f d g h a b = comparison M mode compares.Eq x y d a b
binary_transfer M mode Ne x y f d g h a b = comparison M mode compares.Ne x y d a b
binary_transfer M mode And x y f d g h a b = both M mode a b
binary_transfer M mode Or x y f d g h a b = either M mode a b
binary_transfer M mode op x y f d g h a b = modular M mode f (operation_at_leaf op g h a b) (λ v. a.fits v && b.fits v) (range_at_leaf M op g h a b)

abbrev pub transfer : LeafMeaning → Mode → Term → Transfer
transfer M mode (Number n) = atomic M None (form_of_term (Number n)) (λ v. range_at n n)
transfer M mode (Var x) = atomic M (Some x) (form_of_term (Var x)) (λ v. M.bounds_of v x)
transfer M mode (Neg a) = modular M mode (form_of_term (Neg a)) (λ v. None) (transfer M mode a).fits (λ v. negated_range ((transfer M mode a).range v))
transfer M mode (Not a) = logical mode (transfer M mode a).when_false (transfer M mode a).when_true
transfer M mode (Binary op a b) =
    binary_transfer M mode op (variable_of a) (variable_of b) (form_of_term (Binary op a b)) (difference_form (form_of_term a) (form_of_term b)) (form_of_term a) (form_of_term b) (transfer M mode a) (transfer M mode b)

-- ---- the transfer functions

abbrev pub raw_of_term : LeafMeaning → Mode → Term → LeafValue → Range
raw_of_term M mode e v = (transfer M mode e).raw v

abbrev pub range_of_term : LeafMeaning → Mode → Term → LeafValue → Range
range_of_term M mode e v = (transfer M mode e).range v

abbrev pub fits_term : LeafMeaning → Mode → Term → LeafValue → Bool
fits_term M mode e v = (transfer M mode e).fits v

-- the operator that gives the value of the expression, where its operands have forms that count
abbrev pub operation_of_term : LeafMeaning → Mode → Term → LeafValue → Option Operation
operation_of_term M mode e v = (transfer M mode e).operation v

-- the leaf where the expression is not 0, or is 0
abbrev pub assumed : LeafMeaning → Mode → Term → Bool → LeafValue → LeafValue
assumed M mode e true v = (transfer M mode e).when_true v
assumed M mode e false v = (transfer M mode e).when_false v

-- the leaf with a variable set to what an operator gives, where there is one, or to a range
abbrev pub operation_set : LeafMeaning → ℕ → Option Operation → Range → LeafValue → LeafValue
operation_set M x None r v = M.set_range v x r
operation_set M x (Some p) r v = M.set_operation v x p r

-- the leaf with a variable set to a form, where there is one, to what an operator gives, or to a range
abbrev pub form_set : LeafMeaning → ℕ → Option Form → Option Operation → Range → LeafValue → LeafValue
form_set M x None p r v = operation_set M x p r v
form_set M x (Some f) p r v = M.set_form v x f r

-- the leaf after an assignment
abbrev pub assigned : LeafMeaning → Mode → ℕ → Term → LeafValue → LeafValue
assigned M mode x e v =
    if is_empty_range (range_of_term M mode e v) then nothing_of v.variables
    else form_set M x (form_where (fits_term M mode e v) (form_of_term e)) (operation_of_term M mode e v) (range_of_term M mode e v) v

-- the leaf where an expression has a value
abbrev pub valued : LeafMeaning → Mode → Term → LeafValue → LeafValue
valued M mode e v = if is_empty_range (range_of_term M mode e v) then nothing_of v.variables else v

-- the leaf after an input
abbrev pub forgotten : LeafMeaning → ℕ → LeafValue → LeafValue
forgotten M x v = M.set_range v x whole_int
