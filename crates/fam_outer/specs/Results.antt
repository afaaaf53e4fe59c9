-- Results, one after another.
use Rattle.std.specs.Prelude.{Result, Ok, Err}

-- what comes next, where there is no fault
abbrev pub and_then : {X Y F : Type 0} → Result X F → (X → Result Y F) → Result Y F
and_then (Ok x) next = next x
and_then (Err fault) next = Err fault
