-- What one pass finds of a node is what the definitions of transfer and of stops say of it.
use Rattle.std.proofs.Common.{◌≡◌, ℕ, ◌+◌, ◌*◌, ◌<◌, Bool, true, false, ◌&&◌, not, if◌then◌else◌, refl, ap, sym, ◌∙◌, Option, Some, None, IfSome}
use Rattle.c_tree.specs.declared.tree.Mode.{Mode}
use Rattle.c_tree.specs.declared.tree.Op.{Op}
use Rattle.c_tree.specs.declared.tree.Op.TheVariants.{Add, Sub, Mul, Div, Rem, Lt, Le, Gt, Ge, Eq, Ne, And, Or}
use Rattle.c_tree.specs.declared.tree.Kind.{Kind}
use Rattle.c_tree.specs.declared.tree.Kind.TheVariants.{Overflow, ZeroDivisor, Assertion}
use Rattle.c_tree.specs.Tree.{Term, Number, Var, Neg, Not, Binary}
use Rattle.c_tree.specs.Fit.{IsTermOf}
use Rattle.leaf_domain.specs.declared.form.Form.{Form}
use Rattle.leaf_domain.specs.declared.operation.Operation.{Operation}
use Rattle.leaf_domain.specs.declared.range.Range.{Range}
use Rattle.leaf_domain.specs.declared.compare.Compare.{Compare}
use Rattle.leaf_domain.specs.declared.compare.Compare.TheVariants as compares
use Rattle.leaf_domain.specs.declared.stops.Stops.{Stops}
use Rattle.leaf_domain.specs.declared.survey.Survey.{Survey}
use Rattle.leaf_domain.specs.Ranges.{empty_range, range_at, clip_of, is_arithmetic}
use Rattle.leaf_domain.specs.Compares.{negation_of}
use Rattle.leaf_domain.specs.Forms.{form_of_term}
use Rattle.leaf_domain.specs.Operations.{operation_if}
use Rattle.leaf_domain.specs.Leaves.{LeafValue, LeafMeaning, is_nothing_of}
use Rattle.leaf_domain.specs.Transfer.{transfer, where_some, range_where_some, variable_of, form_where, form_less_zero, zero_range, operands_compared, negated_range, raw_of_sum, operation_at_leaf, range_at_leaf, results_in, fits_in, is_inside, range_of_term, assumed}
use Rattle.leaf_domain.specs.Stops.{is_of_value, may_term}
use Rattle.leaf_domain.specs.Evaluations.{is_truth_term, compare_of_op, compared_terms, compared_zero, stops_of, has_kind, no_stops, stops_where_some, joined_stops, operator_stops, survey_of, operation_survey, truth_survey}
use Rattle.leaf_domain.proofs.AtNothing.{no_stop_at_nothing}

-- ---- where a leaf is not Nothing

where_other : (v w : LeafValue) → is_nothing_of v ≡ false → where_some v w ≡ w
where_other v w e = ap (λ t. if t then v else w) e

range_other : (v : LeafValue) (r : Range) → is_nothing_of v ≡ false → range_where_some v r ≡ r
range_other v r e = ap (λ t. if t then empty_range else r) e

stops_other : (v : LeafValue) (s : Stops) → is_nothing_of v ≡ false → s ≡ stops_where_some v s
stops_other v s e = sym (ap by_test e)
  where
    by_test : Bool → Stops
    by_test t = record { overflow = if t then false else s.overflow; zero_divisor = if t then false else s.zero_divisor }

-- ---- truth values

truth_node : (M : LeafMeaning) (mode : Mode) (e : Term) (v : LeafValue) → is_truth_term e ≡ true
    → truth_survey mode ((transfer M mode e).when_true v) ((transfer M mode e).when_false v) (stops_of M mode e v) ≡ survey_of M mode e v
truth_node M mode (Number n) v h = cc
truth_node M mode (Var x) v h = cc
truth_node M mode (Neg a) v h = cc
truth_node M mode (Not a) v h = refl
truth_node M mode (Binary Add a b) v h = cc
truth_node M mode (Binary Sub a b) v h = cc
truth_node M mode (Binary Mul a b) v h = cc
truth_node M mode (Binary Div a b) v h = cc
truth_node M mode (Binary Rem a b) v h = cc
truth_node M mode (Binary op a b) v h = refl

pub truth_is : (M : LeafMeaning) (mode : Mode) (e : Term) (v t f : LeafValue) (s : Stops) (found : Survey) → is_truth_term e ≡ true
    → t ≡ (transfer M mode e).when_true v → f ≡ (transfer M mode e).when_false v → s ≡ stops_of M mode e v → found ≡ truth_survey mode t f s → found ≡ survey_of M mode e v
truth_is M mode e v t f s found h et ef es i =
    i ∙ ap (λ x. truth_survey mode x f s) et ∙ ap (λ x. truth_survey mode ((transfer M mode e).when_true v) x s) ef
    ∙ ap (truth_survey mode ((transfer M mode e).when_true v) ((transfer M mode e).when_false v)) es ∙ truth_node M mode e v h

-- ---- arithmetic operators

operation_node : (M : LeafMeaning) (mode : Mode) (op : Op) (a b : Term) (v : LeafValue) → not (is_arithmetic op) ≡ false
    → operation_survey M mode op (survey_of M mode a v) (survey_of M mode b v) v ≡ survey_of M mode (Binary op a b) v
operation_node M mode Add a b v h = refl
operation_node M mode Sub a b v h = refl
operation_node M mode Mul a b v h = refl
operation_node M mode Div a b v h = refl
operation_node M mode Rem a b v h = refl
operation_node M mode op a b v h = cc

pub operation_is : (M : LeafMeaning) (mode : Mode) (e : Term) (op : Op) (a b : Term) (v : LeafValue) (left right found : Survey) → e ≡ Binary op a b → is_truth_term e ≡ false
    → left ≡ survey_of M mode a v → right ≡ survey_of M mode b v → found ≡ operation_survey M mode op left right v → found ≡ survey_of M mode e v
operation_is M mode e op a b v left right found i t el er h =
    h ∙ ap (λ k. operation_survey M mode op k right v) el ∙ ap (λ k. operation_survey M mode op (survey_of M mode a v) k v) er
    ∙ operation_node M mode op a b v (sym (ap is_truth_term i) ∙ t) ∙ ap (λ k. survey_of M mode k v) (sym i)

-- ---- the sides of a comparison

abbrev between : LeafMeaning → Mode → Compare → Term → Term → LeafValue → LeafValue
between M mode op a b v = compared_terms M op (variable_of a) (variable_of b) (survey_of M mode a v) (survey_of M mode b v) v

comparison_true : (M : LeafMeaning) (mode : Mode) (op : Op) (a b : Term) (v : LeafValue) → is_nothing_of v ≡ false → not (is_arithmetic op) ≡ true → (op ≡ And → ⊥) → (op ≡ Or → ⊥)
    → between M mode (compare_of_op op) a b v ≡ (transfer M mode (Binary op a b)).when_true v
comparison_true M mode Lt a b v n h i j = sym (where_other v (between M mode compares.Lt a b v) n)
comparison_true M mode Le a b v n h i j = sym (where_other v (between M mode compares.Le a b v) n)
comparison_true M mode Gt a b v n h i j = sym (where_other v (between M mode compares.Gt a b v) n)
comparison_true M mode Ge a b v n h i j = sym (where_other v (between M mode compares.Ge a b v) n)
comparison_true M mode Eq a b v n h i j = sym (where_other v (between M mode compares.Eq a b v) n)
comparison_true M mode Ne a b v n h i j = sym (where_other v (between M mode compares.Ne a b v) n)
comparison_true M mode And a b v n h i j = absurd (i refl)
comparison_true M mode Or a b v n h i j = absurd (j refl)
comparison_true M mode op a b v n h i j = cc

comparison_false : (M : LeafMeaning) (mode : Mode) (op : Op) (a b : Term) (v : LeafValue) → is_nothing_of v ≡ false → not (is_arithmetic op) ≡ true → (op ≡ And → ⊥) → (op ≡ Or → ⊥)
    → between M mode (negation_of (compare_of_op op)) a b v ≡ (transfer M mode (Binary op a b)).when_false v
comparison_false M mode Lt a b v n h i j = sym (where_other v (between M mode compares.Ge a b v) n)
comparison_false M mode Le a b v n h i j = sym (where_other v (between M mode compares.Gt a b v) n)
comparison_false M mode Gt a b v n h i j = sym (where_other v (between M mode compares.Le a b v) n)
comparison_false M mode Ge a b v n h i j = sym (where_other v (between M mode compares.Lt a b v) n)
comparison_false M mode Eq a b v n h i j = sym (where_other v (between M mode compares.Ne a b v) n)
comparison_false M mode Ne a b v n h i j = sym (where_other v (between M mode compares.Eq a b v) n)
comparison_false M mode And a b v n h i j = absurd (i refl)
comparison_false M mode Or a b v n h i j = absurd (j refl)
comparison_false M mode op a b v n h i j = cc

-- a comparison itself does not stop
comparison_stops : (M : LeafMeaning) (mode : Mode) (op : Op) (a b : Term) (v : LeafValue) → is_nothing_of v ≡ false → not (is_arithmetic op) ≡ true → (op ≡ And → ⊥) → (op ≡ Or → ⊥)
    → operator_stops mode op empty_range (stops_of M mode a v) (stops_of M mode b v) (range_of_term M mode a v) (range_of_term M mode b v) ≡ stops_of M mode (Binary op a b) v
comparison_stops M mode Lt a b v n h i j = stops_other v _ n
comparison_stops M mode Le a b v n h i j = stops_other v _ n
comparison_stops M mode Gt a b v n h i j = stops_other v _ n
comparison_stops M mode Ge a b v n h i j = stops_other v _ n
comparison_stops M mode Eq a b v n h i j = stops_other v _ n
comparison_stops M mode Ne a b v n h i j = stops_other v _ n
comparison_stops M mode And a b v n h i j = absurd (i refl)
comparison_stops M mode Or a b v n h i j = absurd (j refl)
comparison_stops M mode op a b v n h i j = cc

-- what is known where a comparison is split: its operands, and what was found of them
pub record Compared (M : LeafMeaning) (mode : Mode) (e : Term) (op : Op) (a b : Term) (v : LeafValue) (left right : Survey) : Type 0 where
  pub is : e ≡ Binary op a b
  pub other : is_nothing_of v ≡ false
  pub truth : is_truth_term e ≡ true
  pub not_and : op ≡ And → ⊥
  pub not_or : op ≡ Or → ⊥
  pub left_is : left ≡ survey_of M mode a v
  pub right_is : right ≡ survey_of M mode b v

found_both : (M : LeafMeaning) (mode : Mode) (op : Compare) (e : Term) (o : Op) (a b : Term) (v : LeafValue) (left right : Survey) → Compared M mode e o a b v left right
    → compared_terms M op (variable_of a) (variable_of b) left right v ≡ between M mode op a b v
found_both M mode op e o a b v left right k =
    ap (λ x. compared_terms M op (variable_of a) (variable_of b) x right v) k.left_is ∙ ap (λ x. compared_terms M op (variable_of a) (variable_of b) (survey_of M mode a v) x v) k.right_is

pub comparison_true_is : (M : LeafMeaning) (mode : Mode) (e : Term) (op : Op) (a b : Term) (v w : LeafValue) (left right : Survey) → Compared M mode e op a b v left right
    → w ≡ compared_terms M (compare_of_op op) (variable_of a) (variable_of b) left right v → w ≡ (transfer M mode e).when_true v
comparison_true_is M mode e op a b v w left right k h =
    h ∙ found_both M mode (compare_of_op op) e op a b v left right k ∙ comparison_true M mode op a b v k.other (sym (ap is_truth_term k.is) ∙ k.truth) k.not_and k.not_or
    ∙ ap (λ x. (transfer M mode x).when_true v) (sym k.is)

pub comparison_false_is : (M : LeafMeaning) (mode : Mode) (e : Term) (op : Op) (a b : Term) (v w : LeafValue) (left right : Survey) → Compared M mode e op a b v left right
    → w ≡ compared_terms M (negation_of (compare_of_op op)) (variable_of a) (variable_of b) left right v → w ≡ (transfer M mode e).when_false v
comparison_false_is M mode e op a b v w left right k h =
    h ∙ found_both M mode (negation_of (compare_of_op op)) e op a b v left right k ∙ comparison_false M mode op a b v k.other (sym (ap is_truth_term k.is) ∙ k.truth) k.not_and k.not_or
    ∙ ap (λ x. (transfer M mode x).when_false v) (sym k.is)

pub comparison_stops_is : (M : LeafMeaning) (mode : Mode) (e : Term) (op : Op) (a b : Term) (v : LeafValue) (left right : Survey) (s : Stops) → Compared M mode e op a b v left right
    → s ≡ operator_stops mode op empty_range left.stops right.stops left.evaluation.range right.evaluation.range → s ≡ stops_of M mode e v
comparison_stops_is M mode e op a b v left right s k h =
    h ∙ ap (λ x. operator_stops mode op empty_range x.stops right.stops x.evaluation.range right.evaluation.range) k.left_is
    ∙ ap (λ x. operator_stops mode op empty_range (stops_of M mode a v) x.stops (range_of_term M mode a v) x.evaluation.range) k.right_is
    ∙ comparison_stops M mode op a b v k.other (sym (ap is_truth_term k.is) ∙ k.truth) k.not_and k.not_or ∙ ap (λ x. stops_of M mode x v) (sym k.is)

-- a comparison of operands that are these variables
pub by_operands : (M : LeafMeaning) (c d : Compare) (x y p q : Option ℕ) (left right : Survey) (v w : LeafValue) → c ≡ d → x ≡ p → y ≡ q
    → w ≡ compared_terms M c x y left right v → w ≡ compared_terms M d p q left right v
by_operands M c d x y p q left right v w ec ex ey h =
    h ∙ ap (λ k. compared_terms M k x y left right v) ec ∙ ap (λ k. compared_terms M d k y left right v) ex ∙ ap (λ k. compared_terms M d p k left right v) ey

-- ---- the stops of the other truth values

pub nothing_stops_is : (M : LeafMeaning) (mode : Mode) (e : Term) (v : LeafValue) → is_nothing_of v ≡ true → no_stops ≡ stops_of M mode e v
nothing_stops_is M mode e v h =
    ap (λ x. both x false) (sym (no_stop_at_nothing M mode Overflow e v h)) ∙ ap (both (may_term M mode Overflow e v)) (sym (no_stop_at_nothing M mode ZeroDivisor e v h))
  where
    both : Bool → Bool → Stops
    both x y = record { overflow = x; zero_divisor = y }

pub not_stops : (M : LeafMeaning) (mode : Mode) (a : Term) (v : LeafValue) → is_nothing_of v ≡ false → stops_of M mode a v ≡ stops_of M mode (Not a) v
not_stops M mode a v n = stops_other v (stops_of M mode a v) n

pub and_stops : (M : LeafMeaning) (mode : Mode) (a b : Term) (v : LeafValue) → is_nothing_of v ≡ false → joined_stops (stops_of M mode a v) (stops_of M mode b (assumed M mode a true v)) ≡ stops_of M mode (Binary And a b) v
and_stops M mode a b v n = stops_other v _ n

pub or_stops : (M : LeafMeaning) (mode : Mode) (a b : Term) (v : LeafValue) → is_nothing_of v ≡ false → joined_stops (stops_of M mode a v) (stops_of M mode b (assumed M mode a false v)) ≡ stops_of M mode (Binary Or a b) v
or_stops M mode a b v n = stops_other v _ n

pub kind_is : (M : LeafMeaning) (mode : Mode) (kind : Kind) (e : Term) (v : LeafValue) → has_kind (stops_of M mode e v) kind ≡ (is_of_value kind && may_term M mode kind e v)
kind_is M mode Overflow e v = refl
kind_is M mode ZeroDivisor e v = refl
kind_is M mode Assertion e v = refl

-- ---- the sides of a number

zero_side : (M : LeafMeaning) (op : Compare) (x : Option ℕ) (f : Option Form) (p : Option Operation) (fits : Bool) (r : Range) (v : LeafValue) → is_nothing_of v ≡ false
    → operands_compared M op x None (range_where_some v r) zero_range (form_where fits (form_less_zero f)) p None v ≡ where_some v (operands_compared M op x None r zero_range (form_where fits (form_less_zero f)) p None v)
zero_side M op x f p fits r v h =
    ap (λ k. operands_compared M op x None k zero_range (form_where fits (form_less_zero f)) p None v) (range_other v r h) ∙ sym (where_other v _ h)

modular_side : (M : LeafMeaning) (mode : Mode) (op : Compare) (f : Option Form) (p : Option Operation) (fit : Bool) (plain : Range) (v : LeafValue) → is_nothing_of v ≡ false
    → operands_compared M op None None (range_where_some v (results_in mode (raw_of_sum M f fit plain v))) zero_range (form_where (fits_in mode (fit && is_inside (raw_of_sum M f fit plain v))) (form_less_zero f)) (operation_if (fits_in mode (fit && is_inside (raw_of_sum M f fit plain v))) p) None v
    ≡ where_some v (operands_compared M op None None (results_in mode (raw_of_sum M f fit plain v)) zero_range (form_where (fits_in mode (fit && is_inside (raw_of_sum M f fit plain v))) (form_less_zero f)) (operation_if (fits_in mode (fit && is_inside (raw_of_sum M f fit plain v))) p) None v)
modular_side M mode op f p fit plain v h =
    zero_side M op None f (operation_if (fits_in mode (fit && is_inside (raw_of_sum M f fit plain v))) p) (fits_in mode (fit && is_inside (raw_of_sum M f fit plain v))) (results_in mode (raw_of_sum M f fit plain v)) v h

pub number_true : (M : LeafMeaning) (mode : Mode) (e : Term) (v : LeafValue) → is_nothing_of v ≡ false → is_truth_term e ≡ false
    → compared_zero M compares.Ne (variable_of e) (survey_of M mode e v) v ≡ (transfer M mode e).when_true v
number_true M mode (Number n) v h t = zero_side M compares.Ne None (form_of_term (Number n)) None true (range_at n n) v h
number_true M mode (Var x) v h t = zero_side M compares.Ne (Some x) (form_of_term (Var x)) None true (M.bounds_of v x) v h
number_true M mode (Neg a) v h t = modular_side M mode compares.Ne (form_of_term (Neg a)) None ((transfer M mode a).fits v) (negated_range ((transfer M mode a).range v)) v h
number_true M mode (Not a) v h t = cc
number_true M mode (Binary Add a b) v h t = modular_side M mode compares.Ne (form_of_term (Binary Add a b)) (operation_at_leaf Add (form_of_term a) (form_of_term b) (transfer M mode a) (transfer M mode b) v) ((transfer M mode a).fits v && (transfer M mode b).fits v) (range_at_leaf M Add (form_of_term a) (form_of_term b) (transfer M mode a) (transfer M mode b) v) v h
number_true M mode (Binary Sub a b) v h t = modular_side M mode compares.Ne (form_of_term (Binary Sub a b)) (operation_at_leaf Sub (form_of_term a) (form_of_term b) (transfer M mode a) (transfer M mode b) v) ((transfer M mode a).fits v && (transfer M mode b).fits v) (range_at_leaf M Sub (form_of_term a) (form_of_term b) (transfer M mode a) (transfer M mode b) v) v h
number_true M mode (Binary Mul a b) v h t = modular_side M mode compares.Ne (form_of_term (Binary Mul a b)) (operation_at_leaf Mul (form_of_term a) (form_of_term b) (transfer M mode a) (transfer M mode b) v) ((transfer M mode a).fits v && (transfer M mode b).fits v) (range_at_leaf M Mul (form_of_term a) (form_of_term b) (transfer M mode a) (transfer M mode b) v) v h
number_true M mode (Binary Div a b) v h t = zero_side M compares.Ne None None (operation_at_leaf Div (form_of_term a) (form_of_term b) (transfer M mode a) (transfer M mode b) v) (fits_in mode false) (clip_of (range_at_leaf M Div (form_of_term a) (form_of_term b) (transfer M mode a) (transfer M mode b) v)) v h
number_true M mode (Binary Rem a b) v h t = zero_side M compares.Ne None None (operation_at_leaf Rem (form_of_term a) (form_of_term b) (transfer M mode a) (transfer M mode b) v) (fits_in mode false) (clip_of (range_at_leaf M Rem (form_of_term a) (form_of_term b) (transfer M mode a) (transfer M mode b) v)) v h
number_true M mode (Binary op a b) v h t = cc

pub number_false : (M : LeafMeaning) (mode : Mode) (e : Term) (v : LeafValue) → is_nothing_of v ≡ false → is_truth_term e ≡ false
    → compared_zero M compares.Eq (variable_of e) (survey_of M mode e v) v ≡ (transfer M mode e).when_false v
number_false M mode (Number n) v h t = zero_side M compares.Eq None (form_of_term (Number n)) None true (range_at n n) v h
number_false M mode (Var x) v h t = zero_side M compares.Eq (Some x) (form_of_term (Var x)) None true (M.bounds_of v x) v h
number_false M mode (Neg a) v h t = modular_side M mode compares.Eq (form_of_term (Neg a)) None ((transfer M mode a).fits v) (negated_range ((transfer M mode a).range v)) v h
number_false M mode (Not a) v h t = cc
number_false M mode (Binary Add a b) v h t = modular_side M mode compares.Eq (form_of_term (Binary Add a b)) (operation_at_leaf Add (form_of_term a) (form_of_term b) (transfer M mode a) (transfer M mode b) v) ((transfer M mode a).fits v && (transfer M mode b).fits v) (range_at_leaf M Add (form_of_term a) (form_of_term b) (transfer M mode a) (transfer M mode b) v) v h
number_false M mode (Binary Sub a b) v h t = modular_side M mode compares.Eq (form_of_term (Binary Sub a b)) (operation_at_leaf Sub (form_of_term a) (form_of_term b) (transfer M mode a) (transfer M mode b) v) ((transfer M mode a).fits v && (transfer M mode b).fits v) (range_at_leaf M Sub (form_of_term a) (form_of_term b) (transfer M mode a) (transfer M mode b) v) v h
number_false M mode (Binary Mul a b) v h t = modular_side M mode compares.Eq (form_of_term (Binary Mul a b)) (operation_at_leaf Mul (form_of_term a) (form_of_term b) (transfer M mode a) (transfer M mode b) v) ((transfer M mode a).fits v && (transfer M mode b).fits v) (range_at_leaf M Mul (form_of_term a) (form_of_term b) (transfer M mode a) (transfer M mode b) v) v h
number_false M mode (Binary Div a b) v h t = zero_side M compares.Eq None None (operation_at_leaf Div (form_of_term a) (form_of_term b) (transfer M mode a) (transfer M mode b) v) (fits_in mode false) (clip_of (range_at_leaf M Div (form_of_term a) (form_of_term b) (transfer M mode a) (transfer M mode b) v)) v h
number_false M mode (Binary Rem a b) v h t = zero_side M compares.Eq None None (operation_at_leaf Rem (form_of_term a) (form_of_term b) (transfer M mode a) (transfer M mode b) v) (fits_in mode false) (clip_of (range_at_leaf M Rem (form_of_term a) (form_of_term b) (transfer M mode a) (transfer M mode b) v)) v h
number_false M mode (Binary op a b) v h t = cc

pub number_true_is : (M : LeafMeaning) (mode : Mode) (e : Term) (v w : LeafValue) (found : Survey) → is_nothing_of v ≡ false → is_truth_term e ≡ false → found ≡ survey_of M mode e v
    → w ≡ compared_zero M compares.Ne (variable_of e) found v → w ≡ (transfer M mode e).when_true v
number_true_is M mode e v w found n t i h = h ∙ ap (λ k. compared_zero M compares.Ne (variable_of e) k v) i ∙ number_true M mode e v n t

pub number_false_is : (M : LeafMeaning) (mode : Mode) (e : Term) (v w : LeafValue) (found : Survey) → is_nothing_of v ≡ false → is_truth_term e ≡ false → found ≡ survey_of M mode e v
    → w ≡ compared_zero M compares.Eq (variable_of e) found v → w ≡ (transfer M mode e).when_false v
number_false_is M mode e v w found n t i h = h ∙ ap (λ k. compared_zero M compares.Eq (variable_of e) k v) i ∙ number_false M mode e v n t

-- ---- operands

pub variable_below : (n : ℕ) (e : Term) → IsTermOf n e → IfSome (variable_of e) (λ x. x < n)
variable_below n (Number k) h = tt
variable_below n (Var x) h = h
variable_below n (Neg a) h = tt
variable_below n (Not a) h = tt
variable_below n (Binary op a b) h = tt

-- ---- the order in which the passes over an expression call each other

abbrev pub operators_of : Term → ℕ
operators_of (Number n) = 0
operators_of (Var x) = 0
operators_of (Neg a) = operators_of a + 1
operators_of (Not a) = operators_of a + 1
operators_of (Binary op a b) = operators_of a + operators_of b + 1

abbrev pub rank_of_survey : Term → ℕ
rank_of_survey e = 2 * operators_of e + (if is_truth_term e then 1 else 0)

abbrev pub rank_of_split : Term → ℕ
rank_of_split e = 2 * operators_of e + (if is_truth_term e then 0 else 1)
