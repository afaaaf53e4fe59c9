-- The texts of leaves, and of invariants.
use Rattle.std.specs.Prelude.{ℕ, nat_le, ◌+◌, ℤ, pos, negsuc, Bool, ◌&&◌, if◌then◌else◌, List, [], ◌∷◌, ◌++◌, codes, flat_map, take, Option, Some, None}
use Rattle.std.specs.Fmt.{decimal, signed_decimal}
use Rattle.std.specs.Ordering.{int_eq}
use Rattle.c_tree.specs.declared.tree.Op.{Op}
use Rattle.c_tree.specs.declared.tree.Op.TheVariants.{Add, Sub}
use Rattle.leaf_domain.specs.declared.form.Form.{Form}
use Rattle.leaf_domain.specs.declared.range.Range.{Range}
use Rattle.leaf_domain.specs.Leaves.{LeafValue, LeafMeaning, is_nothing_of}
use Rattle.leaf_domain.specs.Ranges.{arithmetic_range}
use Rattle.linear_atoms.specs.declared.atoms.Feature.{Feature}
use Rattle.linear_atoms.specs.declared.regions.Regions.{Regions}
use Rattle.alarm_report.specs.Invariants.{Invariant}
use Rattle.alarm_report.specs.Texts.{joined, place_text, region_text}

-- ---- items

-- ` in [l,h]`
abbrev pub within_text : Range → List ℕ
within_text r = codes " in [" ++ signed_decimal r.low ++ codes "," ++ signed_decimal r.high ++ codes "]"

-- ` step k`, where the values are known to lie apart
abbrev pub step_text : ℕ → List ℕ
step_text k = if nat_le k 1 then [] else codes " step " ++ decimal k

-- `x in [l,h]` or `x in [l,h] step k` of each name, for the variables from this one on
abbrev pub variable_items : LeafMeaning → LeafValue → ℕ → List (List ℕ) → List (List ℕ)
variable_items M v x [] = []
variable_items M v x (name ∷ names) = ((name ++ within_text (M.bounds_of v x)) ++ step_text (M.step_of v x)) ∷ variable_items M v (x + 1) names

-- ---- pairs

abbrev pub same_range : Range → Range → Bool
same_range a b = int_eq a.low b.low && int_eq a.high b.high

-- the range of a form, where it is not the one that is known already
abbrev pub new_range : Option Range → Range → Option Range
new_range None known = None
new_range (Some r) known = if same_range r known then None else Some r

abbrev pub item_of : List ℕ → Option Range → List (List ℕ)
item_of front None = []
item_of front (Some r) = (front ++ within_text r) ∷ []

-- `x - y` or `x + y`, by the coefficient of the second, of two variables of which the first is before the second
abbrev pub pair_form : ℕ → ℕ → ℤ → Form
pair_form x y k = record { terms = (x, pos 1) ∷ ((y, k) ∷ []); constant = pos 0 }

-- its range, where it is not what arithmetic gives of the two variables' ranges
abbrev pub pair_range : LeafMeaning → LeafValue → Op → ℤ → ℕ → ℕ → Option Range
pair_range M v op k x y = new_range (M.form_range v (pair_form x y k)) (arithmetic_range op (M.bounds_of v x) (M.bounds_of v y))

-- `x-y in [l,h]` and `x+y in [l,h]`, where they say more than the two variables' ranges
abbrev pub pair_items : LeafMeaning → LeafValue → ℕ → List ℕ → ℕ → List ℕ → List (List ℕ)
pair_items M v x first y second =
    item_of (first ++ codes "-" ++ second) (pair_range M v Sub (negsuc 0) x y)
    ++ item_of (first ++ codes "+" ++ second) (pair_range M v Add (pos 1) x y)

-- those of one variable with each behind it, of which the first is y
abbrev pub items_with : LeafMeaning → LeafValue → ℕ → List ℕ → ℕ → List (List ℕ) → List (List ℕ)
items_with M v x first y [] = []
items_with M v x first y (name ∷ names) = pair_items M v x first y name ++ items_with M v x first (y + 1) names

-- those of all pairs of the variables from x on
abbrev pub all_pairs : LeafMeaning → LeafValue → ℕ → List (List ℕ) → List (List ℕ)
all_pairs M v x [] = []
all_pairs M v x (name ∷ names) = items_with M v x name (x + 1) names ++ all_pairs M v (x + 1) names

-- ---- leaves

-- what is told of a leaf that holds some store, over the names of its variables
abbrev pub items_text : LeafMeaning → LeafValue → List (List ℕ) → List ℕ
items_text M v [] = codes "reachable"
items_text M v (name ∷ names) = joined (codes ", ") (variable_items M v 0 (name ∷ names) ++ all_pairs M v 0 (name ∷ names))

-- a leaf, over the names of its variables: the ranges of the variables, then those of pairs
abbrev pub leaf_text : LeafMeaning → List (List ℕ) → LeafValue → List ℕ
leaf_text M names v = if is_nothing_of v then codes "unreachable" else items_text M v (take v.variables names)

-- ---- invariants

-- what is known where a region is met, and the end of the line: `REGION: LEAF`
abbrev pub known_text : Regions → LeafMeaning → List Feature → List (List ℕ) → Invariant → List ℕ
known_text regions M features names i =
    region_text regions features i.region.literals ++ (codes ": " ++ (leaf_text M names i.leaf ++ codes "\n"))

-- `LINE:COLUMN: if REGION: LEAF`
abbrev pub invariant_line : Regions → LeafMeaning → List Feature → List (List ℕ) → Invariant → List ℕ
invariant_line regions M features names i =
    place_text i.place ++ (codes ": if " ++ known_text regions M features names i)

abbrev pub invariant_text : Regions → LeafMeaning → List Feature → List (List ℕ) → List Invariant → List ℕ
invariant_text regions M features names is = flat_map (invariant_line regions M features names) is
