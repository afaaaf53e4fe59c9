-- The ends of a range, as widening moves them to thresholds and narrowing takes them back.
use Rattle.std.specs.Prelude.{ℕ, ◌+◌, ℤ, neg_ℤ, int_lt, Bool, if◌then◌else◌, List}
use Rattle.c_tree.specs.Value.{least, greatest}
use Rattle.leaf_domain.specs.declared.range.Range.{Range}
use Rattle.leaf_domain.specs.declared.thresholds.Multiple.TheVariants.{One, MinusOne}
use Rattle.leaf_domain.specs.Thresholds.{scaled, nearest, is_step, steps_from}

-- the greatest threshold that is not above the low, and the type's low where none is: a low of x bounds -x from above
abbrev pub low_step : List ℤ → ℤ → ℤ
low_step ts l = neg_ℤ (nearest (neg_ℤ least) (scaled MinusOne ts) (neg_ℤ l))

-- the least threshold that is not below the high, and the type's high where none is
abbrev pub high_step : List ℤ → ℤ → ℤ
high_step ts h = nearest greatest (scaled One ts) h

-- the low may come of a step
abbrev pub is_low_step : List ℤ → ℤ → Bool
is_low_step ts l = is_step (neg_ℤ least) (scaled MinusOne ts) (neg_ℤ l)

-- the high may come of a step
abbrev pub is_high_step : List ℤ → ℤ → Bool
is_high_step ts h = is_step greatest (scaled One ts) h

-- an end that g moves steps so far that it covers that of g
abbrev pub widened_range : List ℤ → Range → Range → Range
widened_range ts x g = record {
  low = if int_lt g.low x.low then low_step ts g.low else x.low;
  high = if int_lt x.high g.high then high_step ts g.high else x.high;
}

-- an end that may come of a step becomes that of g
abbrev pub narrowed_range : List ℤ → Range → Range → Range
narrowed_range ts x g = record {
  low = if is_low_step ts x.low then g.low else x.low;
  high = if is_high_step ts x.high then g.high else x.high;
}

-- how many steps a low, a high, and both ends of a range can still take
abbrev pub low_steps_left : List ℤ → ℤ → ℕ
low_steps_left ts l = steps_from (neg_ℤ least) (scaled MinusOne ts) (neg_ℤ l)

abbrev pub high_steps_left : List ℤ → ℤ → ℕ
high_steps_left ts h = steps_from greatest (scaled One ts) h

abbrev pub ends_left : List ℤ → Range → ℕ
ends_left ts r = low_steps_left ts r.low + high_steps_left ts r.high
