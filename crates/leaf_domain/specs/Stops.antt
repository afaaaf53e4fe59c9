-- Whether a statement may stop, by the leaf with which it is entered.
use Rattle.std.specs.Prelude.{ℤ, pos, negsuc, int_le, Bool, true, false, if◌then◌else◌, ◌&&◌, ◌||◌, not}
use Rattle.c_tree.specs.declared.tree.Kind.{Kind}
use Rattle.c_tree.specs.declared.tree.Kind.TheVariants.{Overflow, ZeroDivisor, Assertion}
use Rattle.c_tree.specs.declared.tree.Mode.{Mode}
use Rattle.c_tree.specs.declared.tree.Mode.TheVariants.{Stop}
use Rattle.c_tree.specs.declared.tree.Op.{Op}
use Rattle.c_tree.specs.declared.tree.Op.TheVariants.{Add, Sub, Mul, Div, Rem, And, Or}
use Rattle.c_tree.specs.Tree.{Term, Number, Var, Neg, Not, Binary, Jump, Return, Code, Assign, Assert, If, While, Leave}
use Rattle.c_tree.specs.Value.{least}
use Rattle.leaf_domain.specs.declared.range.Range.{Range}
use Rattle.leaf_domain.specs.Ranges.{is_empty_range}
use Rattle.leaf_domain.specs.Leaves.{LeafValue, LeafMeaning, is_nothing_of}
use Rattle.leaf_domain.specs.Transfer.{raw_of_term, range_of_term, assumed, is_inside}

-- a number lies in a range
abbrev pub has_number : ℤ → Range → Bool
has_number n a = int_le a.low n && int_le n a.high

-- a negation, a sum, a difference or a product of this range overflows only where overflows stop
abbrev pub may_leave : Mode → Kind → Range → Bool
may_leave Stop Overflow raw = not (is_inside raw)
may_leave mode kind raw = false

-- whether an arithmetic operator itself may stop, by its range before clipping and those of its operands
abbrev pub stops_at : Mode → Kind → Op → Range → Range → Range → Bool
stops_at mode Overflow Div raw r s = not (is_inside raw)
stops_at mode Overflow Rem raw r s = has_number least r && has_number (negsuc 0) s
stops_at mode ZeroDivisor Div raw r s = has_number (pos 0) s
stops_at mode ZeroDivisor Rem raw r s = has_number (pos 0) s
stops_at mode kind Add raw r s = may_leave mode kind raw
stops_at mode kind Sub raw r s = may_leave mode kind raw
stops_at mode kind Mul raw r s = may_leave mode kind raw
stops_at mode kind op raw r s = false

-- of an operator on two operands: the left one stops, or the right one where the left one has a value, or the operator where both have
abbrev pub either_stops : Bool → Bool → Bool → Range → Range → Bool
either_stops left right own r s =
    left || ((not (is_empty_range r) && right) || (not (is_empty_range r || is_empty_range s) && own))

abbrev pub unless_nothing : LeafValue → Bool → Bool
unless_nothing v b = if is_nothing_of v then false else b

-- whether an expression may stop with the kind
abbrev pub may_term : LeafMeaning → Mode → Kind → Term → LeafValue → Bool
may_term M mode kind (Number n) v = false
may_term M mode kind (Var x) v = false
may_term M mode kind (Not a) v = unless_nothing v (may_term M mode kind a v)
may_term M mode kind (Neg a) v = unless_nothing v (may_term M mode kind a v || (not (is_empty_range (range_of_term M mode a v)) && may_leave mode kind (raw_of_term M mode (Neg a) v)))
may_term M mode kind (Binary And a b) v = unless_nothing v (may_term M mode kind a v || may_term M mode kind b (assumed M mode a true v))
may_term M mode kind (Binary Or a b) v = unless_nothing v (may_term M mode kind a v || may_term M mode kind b (assumed M mode a false v))
may_term M mode kind (Binary op a b) v =
    unless_nothing v (either_stops (may_term M mode kind a v) (may_term M mode kind b v) (stops_at mode kind op (raw_of_term M mode (Binary op a b) v) (range_of_term M mode a v) (range_of_term M mode b v)) (range_of_term M mode a v) (range_of_term M mode b v))

-- the kinds with which an expression stops
abbrev pub is_of_value : Kind → Bool
is_of_value Assertion = false
is_of_value kind = true

-- whether the test of an assertion may be 0
abbrev pub may_fail : LeafMeaning → Mode → Term → LeafValue → Bool
may_fail M mode test v = unless_nothing v (not (is_nothing_of (assumed M mode test false v)))

-- whether a jump may stop: the value of a `return`
abbrev pub may_jump : LeafMeaning → Mode → Kind → Jump → LeafValue → Bool
may_jump M mode kind (Return e) v = is_of_value kind && may_term M mode kind e v
may_jump M mode kind jump v = false

-- whether the first statement of a list may stop with the kind
abbrev pub may_at : LeafMeaning → Mode → Kind → Code → LeafValue → Bool
may_at M mode kind (Assign place x e rest) v = is_of_value kind && may_term M mode kind e v
may_at M mode kind (Assert place e rest) v = if is_of_value kind then may_term M mode kind e v else may_fail M mode e v
may_at M mode kind (If place e p q rest) v = is_of_value kind && may_term M mode kind e v
may_at M mode kind (While place e step body rest) v = is_of_value kind && may_term M mode kind e v
may_at M mode kind (Leave place jump rest) v = may_jump M mode kind jump v
may_at M mode kind c v = false
