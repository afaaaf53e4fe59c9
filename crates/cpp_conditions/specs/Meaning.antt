-- The condition over atoms that an expression means.
use Rattle.std.specs.Prelude.{ℕ, pos, negsuc, ◌-ℤ◌, Bool, true, false, not, ◌&&◌, ◌||◌, if◌then◌else◌, List, Option, Some, None, is_some}
use Rattle.linear_atoms.specs.declared.forms.Linear.{Linear}
use Rattle.linear_atoms.specs.declared.atoms.Atom.{Atom}
use Rattle.linear_atoms.specs.declared.atoms.Feature.{Feature}
use Rattle.linear_atoms.specs.declared.normal.Normal.{Normal}
use Rattle.linear_atoms.specs.declared.normal.Normal.TheVariants as normals
use Rattle.linear_atoms.specs.Forms.{constant_form, feature_form, form_sum, form_by}
use Rattle.linear_atoms.specs.Normal.{normal_of}
use Rattle.linear_atoms.specs.Ranges.{decided_of}
use Rattle.linear_atoms.specs.Texts.{boolean_at}
use Rattle.cpp_conditions.specs.Propositions.{Proposition, Const, Test, Not, And, Or}
use Rattle.cpp_conditions.specs.declared.operators.Operator.{Operator}
use Rattle.cpp_conditions.specs.declared.operators.Operator.TheVariants.{Times, Plus, Minus, Less, AtMost, Greater, AtLeast, Equal, Both, Either}
use Rattle.cpp_conditions.specs.declared.operators.Prefix.{Prefix}
use Rattle.cpp_conditions.specs.declared.operators.Prefix.TheVariants.{Positive, Negative, Inverse}
use Rattle.cpp_conditions.specs.Expressions.{Expression, Number, Name, IsDefined, Unary, Binary, found}

-- ---- truth values, and products of two features

abbrev pub gives_truth : Operator → Bool
gives_truth Times = false
gives_truth Plus = false
gives_truth Minus = false
gives_truth _ = true

abbrev pub is_truth : Expression → Bool
is_truth (Unary Inverse e) = true
is_truth (Binary op a b) = gives_truth op
is_truth _ = false

abbrev pub is_boolean : List Feature → Option ℕ → Bool
is_boolean features None = false
is_boolean features (Some n) = boolean_at features n

-- an integer feature under `defined` does not count
abbrev pub names_feature : List Feature → Expression → Bool
names_feature features (Number n) = false
names_feature features (Name name) = is_some (found name features)
names_feature features (IsDefined name) = is_boolean features (found name features)
names_feature features (Unary u e) = names_feature features e
names_feature features (Binary op a b) = names_feature features a || names_feature features b

abbrev pub suits_prefix : Prefix → Expression → Bool
suits_prefix Inverse e = true
suits_prefix _ e = not (is_truth e)

-- whether the operator takes its operands: truth values or numbers alone, which both name a feature or do not
abbrev pub suits_operator : Operator → Bool → Bool → Bool
suits_operator Both are_numbers both_named = true
suits_operator Either are_numbers both_named = true
suits_operator Times are_numbers both_named = are_numbers && not both_named
suits_operator _ are_numbers both_named = are_numbers

-- no truth value is used as a number, and no product has a feature on both sides
abbrev pub is_linear : List Feature → Expression → Bool
is_linear features (Unary u e) = is_linear features e && suits_prefix u e
is_linear features (Binary op a b) = (is_linear features a && is_linear features b) && suits_operator op (not (is_truth a) && not (is_truth b)) (names_feature features a && names_feature features b)
is_linear features _ = true

-- ---- linear forms of numbers

abbrev pub name_form : Option ℕ → Linear
name_form None = constant_form (pos 0)
name_form (Some n) = feature_form n

abbrev pub defined_form : List Feature → Option ℕ → Linear
defined_form features None = constant_form (pos 0)
defined_form features (Some n) = if boolean_at features n then feature_form n else constant_form (pos 1)

abbrev pub difference : Linear → Linear → Linear
difference a b = form_sum a (form_by (negsuc 0) b)

abbrev pub form_before : Prefix → Linear → Linear
form_before Positive a = a
form_before Negative a = form_by (negsuc 0) a
form_before Inverse a = a

-- of a product the side that names a feature is multiplied by the constant of the other
abbrev pub form_between : Operator → Bool → Linear → Linear → Linear
form_between Times named a b = if named then form_by b.constant a else form_by a.constant b
form_between Plus named a b = form_sum a b
form_between _ named a b = difference a b

abbrev pub form : List Feature → Expression → Linear
form features (Number n) = constant_form (pos n)
form features (Name name) = name_form (found name features)
form features (IsDefined name) = defined_form features (found name features)
form features (Unary u e) = form_before u (form features e)
form features (Binary op a b) = form_between op (names_feature features a) (form features a) (form features b)

-- ---- tests

-- an atom that the ranges decide is replaced by its truth
abbrev pub kept : Atom → Option Bool → Proposition Atom
kept atom (Some b) = Const b
kept atom None = Test atom

abbrev pub signed : Bool → Proposition Atom → Proposition Atom
signed true p = p
signed false p = Not p

abbrev pub test_of : List Feature → Normal → Proposition Atom
test_of features (normals.Const b) = Const b
test_of features (normals.Literal literal) = signed literal.positive (kept literal.atom (decided_of features literal.atom))

-- the form is at least 0
abbrev pub at_least_zero : List Feature → Linear → Proposition Atom
at_least_zero features a = test_of features (normal_of a)

abbrev pub less_one : Linear → Linear
less_one a = record { terms = a.terms; constant = a.constant -ℤ pos 1 }

abbrev pub is_zero : List Feature → Linear → Proposition Atom
is_zero features d = And (at_least_zero features d) (Not (at_least_zero features (less_one d)))

-- what a comparison says of its left side minus its right
abbrev pub compared : List Feature → Operator → Linear → Proposition Atom
compared features AtLeast d = at_least_zero features d
compared features Greater d = at_least_zero features (less_one d)
compared features AtMost d = at_least_zero features (form_by (negsuc 0) d)
compared features Less d = at_least_zero features (less_one (form_by (negsuc 0) d))
compared features Equal d = is_zero features d
compared features _ d = Not (is_zero features d)

-- what an operator makes of the forms of its operands and their conditions
abbrev pub joined : List Feature → Operator → Linear → Linear → Proposition Atom → Proposition Atom → Proposition Atom
joined features Both a b p q = And p q
joined features Either a b p q = Or p q
joined features op a b p q = compared features op (difference a b)

-- a number used as a truth value is unequal to 0
abbrev pub meant : List Feature → Expression → Proposition Atom → Proposition Atom
meant features e p = if is_truth e then p else Not (is_zero features (form features e))

abbrev pub cond_before : Prefix → Proposition Atom → Proposition Atom
cond_before Inverse p = Not p
cond_before _ p = p

-- the condition that the expression means
abbrev pub cond : List Feature → Expression → Proposition Atom
cond features (Unary u e) = meant features (Unary u e) (cond_before u (cond features e))
cond features (Binary op a b) = meant features (Binary op a b) (joined features op (form features a) (form features b) (cond features a) (cond features b))
cond features e = meant features e (Const true)
