-- What a call that reads a file answers: what it reads, or a fault at its place.
use Rattle.std.specs.Prelude.{◌≡◌, ⊤, Result, Ok, Err}
use Rattle.fam_outer.specs.declared.faults.FileCode.{FileCode}
use Rattle.fam_outer.specs.declared.faults.FileRefusal.{FileRefusal}
use Rattle.fam_outer.specs.declared.faults.FileRefusal.TheVariants.{NoMemory, Fault}
use Rattle.fam_outer.specs.declared.faults.Place.{Place}

-- a call that reads answers this, seen by the view, or this fault at its place; want of memory is free
abbrev pub Gives : {X Y : Type 0} → (X → Y) → Result X FileRefusal → Result Y (FileCode × Place) → Type 0
Gives view (Ok x) answer = answer ≡ Ok (view x)
Gives view (Err (Fault code place)) answer = answer ≡ Err (code, place)
Gives view (Err NoMemory) answer = ⊤
