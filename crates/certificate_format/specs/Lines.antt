-- The lines of a certificate.
use Rattle.std.specs.Prelude.{◌≡◌, ℕ, ◌≤◌, List, ◌++◌, codes, Option}
use Rattle.fam_outer.specs.declared.faults.Place.{Place}
use Rattle.c_tree.specs.declared.tree.Kind.{Kind}
use Rattle.leaf_domain.specs.declared.range.Range.{Range}
use Rattle.alarm_report.specs.Texts.{place_text, kind_text, IsWordPlace}
use Rattle.certificate_format.specs.Bounds.{bounds_text, AreIntBounds}
use Rattle.certificate_format.specs.Cuts.{IsCut}

-- what a line says, with the text of its region
pub data Saying : Type 0 where
  Loop : (place : Place) (region : List ℕ) (bounds : Option (List Range)) → Saying
  Alarm : (place : Place) (kind : Kind) (region : List ℕ) → Saying

abbrev pub region_of : Saying → List ℕ
region_of (Loop place region bounds) = region
region_of (Alarm place kind region) = region

-- a line and a column, counted from 1, words of 32 binary digits
pub record IsPlace (place : Place) : Type 0 where
  pub word : IsWordPlace place
  pub line : 1 ≤ place.line
  pub column : 1 ≤ place.column

-- `loop LINE:COLUMN if REGION: LEAF`, where the first `: ` behind ` if ` ends the region
pub record IsLoopText (line : List ℕ) (place : Place) (region leaf : List ℕ) : Type 0 where
  pub behind : List ℕ
  pub text : line ≡ codes "loop " ++ (place_text place ++ (codes " if " ++ behind))
  pub region_ends : IsCut (codes ": ") behind region leaf
  pub place_is : IsPlace place

-- the same with the text of bounds
abbrev pub IsLoopLine : List (List ℕ) → List ℕ → Place → List ℕ → Option (List Range) → Type 0
IsLoopLine names line place region bounds = IsLoopText line place region (bounds_text names bounds) × AreIntBounds names bounds

-- `alarm LINE:COLUMN: KIND if REGION`
pub record IsAlarmLine (line : List ℕ) (place : Place) (kind : Kind) (region : List ℕ) : Type 0 where
  pub text : line ≡ codes "alarm " ++ (place_text place ++ (codes ": " ++ (kind_text kind ++ (codes " if " ++ region))))
  pub place_is : IsPlace place

abbrev pub Says : List (List ℕ) → List ℕ → Saying → Type 0
Says names line (Loop place region bounds) = IsLoopLine names line place region bounds
Says names line (Alarm place kind region) = IsAlarmLine line place kind region
