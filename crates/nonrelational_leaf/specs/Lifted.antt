-- The leaf with one part for each variable: a domain of one variable lifted to stores (as Verasco lifts its non-relational domains; Jourdan, Laporte,
-- Blazy, Leroy and Pichardie, POPL 2015).
use Rattle.std.specs.Prelude.{◌≡◌, ℕ, ◌≤◌, ◌*◌, ℤ, Bool, true, false, if◌then◌else◌, List, [], Option, Some, None, length, slice_index_or, slice_set, map, zip, ⊤}
use Rattle.std.specs.List.{AllByRecursion, list_all, list_any}
use Rattle.leaf_domain.specs.declared.form.Form.{Form}
use Rattle.leaf_domain.specs.declared.range.Range.{Range}
use Rattle.leaf_domain.specs.Leaves.{LeafValue, LeafMeaning, nothing_of, is_nothing_of}
use Rattle.leaf_domain.specs.Variables.{EachHolds, total_of}
use Rattle.nonrelational_leaf.specs.Parts.{PartMeaning}

module _ {P : Type 0} where
  -- a part by its best bounds
  abbrev pub reduced_by : Option (P → P) → P → P
  reduced_by None p = p
  reduced_by (Some f) p = f p

  abbrev pub all_reduced_by : Option (P → P) → List P → List P
  all_reduced_by None ps = ps
  all_reduced_by (Some f) ps = map f ps

module _ {P : Type 0} (D : PartMeaning P) where
  abbrev pub AllOwn : List P → Type 0
  AllOwn ps = AllByRecursion D.own ps

  -- each variable is one of the numbers of its part
  abbrev pub AllHave : List P → List ℤ → Type 0
  AllHave ps s = EachHolds D.has ps s

  abbrev pub best_part : P → P
  best_part p = reduced_by D.reduction p

  abbrev pub all_best : List P → List P
  all_best ps = all_reduced_by D.reduction ps

  abbrev pub part_at : List P → ℕ → P
  part_at ps x = slice_index_or ps x D.bare

  -- ---- a leaf by its parts
  -- the leaf of these parts
  abbrev pub leaf_of : List P → LeafValue
  leaf_of ps = record { variables = length ps; content = Some (D.numbers ps) }

  abbrev pub parts_in : Option (List ℤ) → List P
  parts_in None = []
  parts_in (Some ns) = D.parts ns

  -- the parts of a leaf that is not Nothing
  abbrev pub parts_of : LeafValue → List P
  parts_of v = parts_in v.content

  abbrev pub IsContent : ℕ → Option (List ℤ) → Type 0
  IsContent n None = ⊤
  IsContent n (Some ns) = (D.numbers (D.parts ns) ≡ ns) × (n ≡ length (D.parts ns)) × AllOwn (D.parts ns)

  abbrev pub IsLeaf : LeafValue → Type 0
  IsLeaf v = (v.variables ≤ 48) × IsContent v.variables v.content

  abbrev pub ContentHolds : Option (List ℤ) → List ℤ → Type 0
  ContentHolds None s = ⊥
  ContentHolds (Some ns) s = AllHave (D.parts ns) s

  abbrev pub leaf_holds : LeafValue → List ℤ → Type 0
  leaf_holds v s = ContentHolds v.content s

  -- the leaf of these parts, where each has a number
  abbrev pub settled : List P → LeafValue
  settled ps = if list_any D.is_bare ps then nothing_of (length ps) else leaf_of ps

  -- ---- part by part
  abbrev pub all_leq : List P → List P → Bool
  all_leq us bs = list_all (λ (a, b). D.leq a b) (zip us bs)

  abbrev pub joined_all : List P → List P → List P
  joined_all us bs = map (λ (a, b). D.join a b) (zip us bs)

  abbrev pub widened_all : List ℤ → List P → List P → List P
  widened_all ts xs gs = map (λ (x, g). D.widen ts x g) (zip xs gs)

  abbrev pub narrowed_all : List ℤ → List P → List P → List P
  narrowed_all ts xs gs = map (λ (x, g). D.narrow ts x g) (zip xs gs)

  -- ---- the operations
  abbrev pub start_leaf : List ℤ → LeafValue
  start_leaf s = leaf_of (map D.point s)

  abbrev pub best_by : Option (P → P) → LeafValue → LeafValue
  best_by None v = v
  best_by (Some f) v = if is_nothing_of v then v else leaf_of (map f (parts_of v))

  abbrev pub best_leaf : LeafValue → LeafValue
  best_leaf v = best_by D.reduction v

  abbrev pub best_parts : LeafValue → List P
  best_parts v = all_best (parts_of v)

  abbrev pub leaf_leq : LeafValue → LeafValue → Bool
  leaf_leq a b = if is_nothing_of a then true else (if is_nothing_of b then false else all_leq (best_parts a) (parts_of b))

  abbrev pub joined_leaf : LeafValue → LeafValue → LeafValue
  joined_leaf a b = if is_nothing_of a then b else (if is_nothing_of b then a else leaf_of (joined_all (best_parts a) (best_parts b)))

  abbrev pub widened_leaf : List ℤ → LeafValue → LeafValue → LeafValue
  widened_leaf ts x g = if is_nothing_of x then best_leaf g else (if is_nothing_of g then x else leaf_of (widened_all ts (parts_of x) (best_parts g)))

  abbrev pub narrowed_leaf : List ℤ → LeafValue → LeafValue → LeafValue
  narrowed_leaf ts x g = if is_nothing_of x then x else (if is_nothing_of g then g else settled (narrowed_all ts (parts_of x) (best_parts g)))

  abbrev pub bounds_at : LeafValue → ℕ → Range
  bounds_at v x = D.range (part_at (best_parts v) x)

  -- the leaf with this part for x, by its best bounds; Nothing where the part has no number
  abbrev pub leaf_with : LeafValue → ℕ → P → LeafValue
  leaf_with v x p = if is_nothing_of v then v else (if D.is_bare p then nothing_of v.variables else leaf_of (all_best (slice_set (parts_of v) x p)))

  abbrev pub met_leaf : LeafValue → ℕ → Range → LeafValue
  met_leaf v x r = leaf_with v x (D.meet_range (part_at (parts_of v) x) r)

  abbrev pub set_leaf : LeafValue → ℕ → Range → LeafValue
  set_leaf v x r = leaf_with v x (D.of_range r)

  abbrev pub form_leaf : LeafValue → ℕ → Form → Range → LeafValue
  form_leaf v x f r = leaf_with v x (D.of_form (best_parts v) f r)

  abbrev pub steps_left_in : List ℤ → List P → ℕ
  steps_left_in ts ps = total_of (D.steps_left ts) ps

  abbrev pub leaf_steps_left : List ℤ → LeafValue → ℕ
  leaf_steps_left ts v = steps_left_in ts (parts_of v)

  -- it keeps no form and no operation: a comparison of one changes no bound, and neither has a range
  abbrev pub lifted : LeafMeaning
  lifted = record {
    valid = IsLeaf;
    holds = leaf_holds;
    start = start_leaf;
    bound_count = λ n. D.bound_count * n;
    steps_left = leaf_steps_left;
    best = best_leaf;
    leq = leaf_leq;
    join = joined_leaf;
    widen = widened_leaf;
    narrow = narrowed_leaf;
    bounds_of = bounds_at;
    step_of = λ v x. 1;
    form_range = λ v f. None;
    meet_range = met_leaf;
    meet_form = λ v f op. best_leaf v;
    set_range = set_leaf;
    set_form = form_leaf;
    operation_range = λ v p. None;
    meet_operation = λ v p op r. v;
    set_operation = λ v x p r. set_leaf v x r;
  }
