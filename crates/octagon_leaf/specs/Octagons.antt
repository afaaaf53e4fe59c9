-- Leaves of octagons, after A. Miné, "The octagon abstract domain": what their operations mean.
use Rattle.std.specs.Prelude.{ℕ, ◌+◌, ◌*◌, ◌/◌, ◌%◌, ◌≤◌, ◌^◌, ℤ, pos, negsuc, neg_ℤ, ◌+ℤ◌, ◌-ℤ◌, ◌*ℤ◌, int_le, Bool, true, false, ◌||◌, nat_eq, if◌then◌else◌, List, [], ◌∷◌, ◌++◌, Option, Some, None, length, ⊤}
use Rattle.std.specs.Int.{int_min, int_max}
use Rattle.octagon_matrix.specs.Terms.{opposite, type_bound}
use Rattle.octagon_matrix.specs.Matrices.{MatrixValue, entry_of, IsMatrix, met_entry}
use Rattle.octagon_matrix.specs.Stores.{Holds}
use Rattle.octagon_closure.specs.Sweeps.{half}
use Rattle.leaf_domain.specs.declared.form.Form.{Form}
use Rattle.leaf_domain.specs.declared.range.Range.{Range}
use Rattle.leaf_domain.specs.declared.compare.Compare.{Compare}
use Rattle.leaf_domain.specs.Compares.{holds_between}
use Rattle.leaf_domain.specs.Ranges.{is_empty_range, empty_range, range_at}
use Rattle.leaf_domain.specs.Leaves.{LeafValue, LeafMeaning, nothing_of, is_nothing_of}
use Rattle.leaf_domain.specs.declared.thresholds.Multiple.{Multiple}
use Rattle.leaf_domain.specs.declared.thresholds.Multiple.TheVariants.{One, Two, MinusTwo}
use Rattle.leaf_domain.specs.Thresholds.{scaled, nearest, is_step, steps_from}
use Rattle.octagon_leaf.specs.Pairs.{all_pairs, sum_pairs}
use Rattle.octagon_leaf.specs.Greatest.{matrix_of, leaf_of, difference, best_of, standing}
use Rattle.octagon_leaf.specs.declared.shape.Edge.{Edge}
use Rattle.octagon_leaf.specs.declared.shape.Shape.{Shape}
use Rattle.octagon_leaf.specs.declared.shape.Shape.TheVariants.{Constant, Terms, Other}
use Rattle.octagon_leaf.specs.declared.meets.Meet.{Meet}
use Rattle.octagon_leaf.specs.Shapes.{shape_of, edge_range, compared, between, equal_to}

-- ---- leaves
abbrev pub matrix_at : ℕ → List ℤ → MatrixValue
matrix_at n ns = record { variables = n; entries = ns }

abbrev pub entries_in : Option (List ℤ) → List ℤ
entries_in None = []
entries_in (Some ns) = ns

-- the matrix of a leaf that is not Nothing
abbrev pub matrix_in : LeafValue → MatrixValue
matrix_in v = matrix_at v.variables (entries_in v.content)

abbrev pub IsOctagonContent : ℕ → Option (List ℤ) → Type 0
IsOctagonContent n None = ⊤
IsOctagonContent n (Some ns) = IsMatrix (matrix_at n ns) × ((s : List ℤ) × Holds (matrix_at n ns) s)

-- Nothing, or a matrix that some store meets
abbrev pub IsOctagon : LeafValue → Type 0
IsOctagon v = (v.variables ≤ 48) × IsOctagonContent v.variables v.content

abbrev pub ContentHolds : ℕ → Option (List ℤ) → List ℤ → Type 0
ContentHolds n None s = ⊥
ContentHolds n (Some ns) s = Holds (matrix_at n ns) s

abbrev pub octagon_holds : LeafValue → List ℤ → Type 0
octagon_holds v s = ContentHolds v.variables v.content s

-- ---- best bounds
abbrev pub octagon_best : LeafValue → LeafValue
octagon_best v = if is_nothing_of v then v else best_of (matrix_in v)

-- the best matrix of a leaf that is not Nothing
abbrev pub best_matrix : LeafValue → MatrixValue
best_matrix v = matrix_in (octagon_best v)

abbrev pub best_entry : LeafValue → ℕ → ℕ → ℤ
best_entry v a b = entry_of (best_matrix v) a b

-- the entry as it stands
abbrev pub own_entry : LeafValue → ℕ → ℕ → ℤ
own_entry v a b = entry_of (matrix_in v) a b

-- ---- meets
abbrev pub least_entry : ℤ
least_entry = neg_ℤ (pos (2 ^ 34))

-- the matrix with an entry and its coherent twin lowered to a bound, which is at least -2^34
abbrev pub met : MatrixValue → Meet → MatrixValue
met m e = matrix_of m.variables (met_entry m e.first e.second (int_max e.bound least_entry))

abbrev pub met_all : MatrixValue → List Meet → MatrixValue
met_all m [] = m
met_all m (e ∷ es) = met_all (met m e) es

-- ---- two leaves
abbrev pub octagon_start : List ℤ → LeafValue
octagon_start s = leaf_of (matrix_of (length s) (difference s))

-- each entry of a matrix is at most that of another
abbrev pub is_below : MatrixValue → MatrixValue → Bool
is_below m k = all_pairs (2 * m.variables) (λ a b. int_le (entry_of m a b) (entry_of k a b))

-- each best entry of the first is at most that of the second as it stands
abbrev pub octagon_leq : LeafValue → LeafValue → Bool
octagon_leq g x =
    if is_nothing_of g then true else (if is_nothing_of x then false else is_below (best_matrix g) (matrix_in x))

-- the greater of two matrices' entries
abbrev pub greater : MatrixValue → MatrixValue → ℕ → ℕ → ℤ
greater m k a b = int_max (entry_of m a b) (entry_of k a b)

abbrev pub octagon_join : LeafValue → LeafValue → LeafValue
octagon_join v w = if is_nothing_of v then w else (if is_nothing_of w then v else best_of (matrix_of v.variables (greater (best_matrix v) (best_matrix w))))

-- what the entry of two terms bounds: a variable twice, its negation twice, or the sum or difference of two variables
abbrev pub multiple_of : ℕ → ℕ → Multiple
multiple_of a b = if nat_eq b (opposite a) then (if nat_eq (a % 2) 0 then Two else MinusTwo) else One

-- the bounds that these thresholds are for the entry of two terms
abbrev pub steps_of : List ℤ → ℕ → ℕ → List ℤ
steps_of ts a b = scaled (multiple_of a b) ts

-- an entry of x where that of g is not greater, and else the nearest threshold that covers that of g, and the type's bound where
-- none does
abbrev pub widened : List ℤ → MatrixValue → MatrixValue → ℕ → ℕ → ℤ
widened ts x g a b =
    if int_le (entry_of g a b) (entry_of x a b) then entry_of x a b else nearest (type_bound a b) (steps_of ts a b) (entry_of g a b)

abbrev pub octagon_widen : List ℤ → LeafValue → LeafValue → LeafValue
octagon_widen ts x g =
    if is_nothing_of x then octagon_best g else (if is_nothing_of g then x else leaf_of (matrix_of x.variables (widened ts (matrix_in x) (best_matrix g))))

-- an entry of x that is neither the type's bound nor that of a threshold, and else that of g
abbrev pub narrowed : List ℤ → MatrixValue → MatrixValue → ℕ → ℕ → ℤ
narrowed ts x g a b = if is_step (type_bound a b) (steps_of ts a b) (entry_of x a b) then entry_of g a b else entry_of x a b

abbrev pub octagon_narrow : List ℤ → LeafValue → LeafValue → LeafValue
octagon_narrow ts x g =
    if is_nothing_of x then x else (if is_nothing_of g then g else standing (matrix_of x.variables (narrowed ts (matrix_in x) (best_matrix g))))

-- how many steps the entries can still take in all
abbrev pub octagon_steps_left : List ℤ → LeafValue → ℕ
octagon_steps_left ts v =
    if is_nothing_of v then 0 else sum_pairs (2 * v.variables) (λ a b. steps_from (type_bound a b) (steps_of ts a b) (own_entry v a b))

abbrev pub octagon_bound_count : ℕ → ℕ
octagon_bound_count n = 4 * (n * n)

-- ---- one variable, and forms
abbrev pub octagon_bounds : LeafValue → ℕ → Range
octagon_bounds v x =
    if is_nothing_of v then empty_range else range_at (neg_ℤ (half (best_entry v (2 * x + 1) (2 * x)))) (half (best_entry v (2 * x) (2 * x + 1)))

abbrev pub shape_range : LeafValue → Shape → Option Range
shape_range v Other = None
shape_range v (Constant c) = Some (if is_nothing_of v then empty_range else range_at c c)
shape_range v (Terms e) = Some (if is_nothing_of v then empty_range else edge_range (best_entry v) e)

abbrev pub octagon_form_range : LeafValue → Form → Option Range
octagon_form_range v f = shape_range v (shape_of f)

abbrev pub octagon_meet_range : LeafValue → ℕ → Range → LeafValue
octagon_meet_range v x r =
    if is_nothing_of v then v else (if is_empty_range r then nothing_of v.variables else best_of (met_all (best_matrix v) (between x r)))

abbrev pub meet_shape : LeafValue → Shape → Compare → LeafValue
meet_shape v Other op = octagon_best v
meet_shape v (Constant c) op = if holds_between op c (pos 0) then octagon_best v else nothing_of v.variables
meet_shape v (Terms e) op = best_of (met_all (best_matrix v) (compared e op (edge_range (best_entry v) e)))

abbrev pub octagon_meet_form : LeafValue → Form → Compare → LeafValue
octagon_meet_form v f op = if is_nothing_of v then v else meet_shape v (shape_of f) op

-- the type's bounds at all entries with a term of x
abbrev pub has_variable : ℕ → ℕ → Bool
has_variable x a = nat_eq (a / 2) x

abbrev pub dropped_entry : MatrixValue → ℕ → ℕ → ℕ → ℤ
dropped_entry m x a b = if has_variable x a || has_variable x b then type_bound a b else entry_of m a b

abbrev pub dropped : MatrixValue → ℕ → MatrixValue
dropped m x = matrix_of m.variables (dropped_entry m x)

abbrev pub octagon_set_range : LeafValue → ℕ → Range → LeafValue
octagon_set_range v x r =
    if is_nothing_of v then v else (if is_empty_range r then nothing_of v.variables else best_of (met_all (dropped (best_matrix v) x) (between x r)))

-- 1 for +x, -1 for -x, and 0 for every other term
abbrev pub sign_of : ℕ → ℕ → ℤ
sign_of x a = if has_variable x a then (if nat_eq (a % 2) 0 then pos 1 else negsuc 0) else pos 0

-- the term t for +x, its opposite for -x, and every other term itself
abbrev pub renamed : ℕ → ℕ → ℕ → ℕ
renamed x t a = if has_variable x a then (if nat_eq (a % 2) 0 then t else opposite t) else a

-- where x takes the value of the term t, of its own, plus c
abbrev pub moved_entry : MatrixValue → ℕ → ℕ → ℤ → ℕ → ℕ → ℤ
moved_entry m x t c a b = entry_of m (renamed x t a) (renamed x t b) +ℤ (c *ℤ (sign_of x a -ℤ sign_of x b))

-- between -2^34 and the type's bound
abbrev pub kept_entry : ℤ → ℤ → ℤ
kept_entry bound n = int_max (int_min n bound) least_entry

abbrev pub moved : MatrixValue → ℕ → ℕ → ℤ → MatrixValue
moved m x t c = matrix_of m.variables (λ a b. kept_entry (type_bound a b) (moved_entry m x t c a b))

-- where x takes the value of the term t plus c
abbrev pub set_term : MatrixValue → ℕ → ℕ → ℤ → Range → MatrixValue
set_term m x t c r =
    if has_variable x t then met_all (moved m x t c) (between x r) else met_all (dropped m x) (equal_to x t c ++ between x r)

abbrev pub set_edge : LeafValue → ℕ → Edge → Range → LeafValue
set_edge v x e r = if e.is_double then best_of (set_term (best_matrix v) x e.first e.constant r) else octagon_set_range v x r

abbrev pub set_shape : LeafValue → ℕ → Shape → Range → LeafValue
set_shape v x Other r = octagon_set_range v x r
set_shape v x (Constant c) r = best_of (met_all (dropped (best_matrix v) x) (between x (range_at c c) ++ between x r))
set_shape v x (Terms e) r = set_edge v x e r

abbrev pub octagon_set_form : LeafValue → ℕ → Form → Range → LeafValue
octagon_set_form v x f r =
    if is_nothing_of v then v else (if is_empty_range r then nothing_of v.variables else set_shape v x (shape_of f) r)

abbrev pub octagons : LeafMeaning
octagons = record {
  valid = IsOctagon;
  holds = octagon_holds;
  start = octagon_start;
  bound_count = octagon_bound_count;
  steps_left = octagon_steps_left;
  best = octagon_best;
  leq = octagon_leq;
  join = octagon_join;
  widen = octagon_widen;
  narrow = octagon_narrow;
  bounds_of = octagon_bounds;
  step_of = λ v x. 1;
  form_range = octagon_form_range;
  meet_range = octagon_meet_range;
  meet_form = octagon_meet_form;
  set_range = octagon_set_range;
  set_form = octagon_set_form;
  operation_range = λ v p. None;
  meet_operation = λ v p op r. v;
  set_operation = λ v x p r. octagon_set_range v x r;
}
