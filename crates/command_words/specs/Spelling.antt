-- How values are spelled, and what each spelling means.
use Rattle.std.specs.Prelude.{ℕ, ℤ, Bool, false, not, ◌==◌, ◌&&◌, ◌||◌, List, [], ◌∷◌, ◌++◌, codes, nat_le, int_le, if◌then◌else◌, pos, negsuc}
use Rattle.std.specs.Prelude.{Option, Some, None, option_and_then}
use Rattle.std.specs.List.{slice_split, list_all}
use Rattle.std.specs.Str.{bytes_eq}
use Rattle.std.specs.Str.Parse.{digits_value, signed_digits_value}
use Rattle.c_words.specs.Bytes.{is_digit}
use Rattle.fam_outer.specs.declared.dialect.Unknown.{Unknown}
use Rattle.fam_outer.specs.declared.dialect.Unknown.TheVariants.{Zero, Refuse}
use Rattle.fam_outer.specs.declared.dialect.Includes.{Includes}
use Rattle.fam_outer.specs.declared.dialect.Includes.TheVariants.{Assert, Skip}
use Rattle.command_words.specs.declared.settings.Domain.{Domain}
use Rattle.command_words.specs.declared.settings.Domain.TheVariants.{Interval, Octagon, Stride, Sharp}
use Rattle.command_words.specs.declared.settings.Widening.{Widening}
use Rattle.command_words.specs.declared.settings.Widening.TheVariants.{«Type», Thresholds}
use Rattle.c_tree.specs.declared.tree.Mode.{Mode}
use Rattle.c_tree.specs.declared.tree.Mode.TheVariants.{Stop, Wrap}
use Rattle.linear_atoms.specs.declared.regions.Regions.{Regions}
use Rattle.linear_atoms.specs.declared.regions.Regions.TheVariants.{Paths, Merged}

-- the domain with the name
abbrev pub domain_by : List ℕ → Option Domain
domain_by name =
    if bytes_eq name (codes "interval") then Some Interval
    else (if bytes_eq name (codes "octagon") then Some Octagon
    else (if bytes_eq name (codes "stride") then Some Stride
    else (if bytes_eq name (codes "sharp") then Some Sharp else None)))

-- the widening with the name
abbrev pub widening_by : List ℕ → Option Widening
widening_by name =
    if bytes_eq name (codes "type") then Some «Type»
    else (if bytes_eq name (codes "thresholds") then Some Thresholds else None)

-- the overflow with the name
abbrev pub overflow_by : List ℕ → Option Mode
overflow_by name =
    if bytes_eq name (codes "stop") then Some Stop
    else (if bytes_eq name (codes "wrap") then Some Wrap else None)

-- how regions are told, by the name
abbrev pub regions_by : List ℕ → Option Regions
regions_by name =
    if bytes_eq name (codes "paths") then Some Paths
    else (if bytes_eq name (codes "merged") then Some Merged else None)

-- what a name is that no model has, by the name
abbrev pub unknown_by : List ℕ → Option Unknown
unknown_by name =
    if bytes_eq name (codes "zero") then Some Zero
    else (if bytes_eq name (codes "refuse") then Some Refuse else None)

-- which includes a file may have, by the name
abbrev pub includes_by : List ℕ → Option Includes
includes_by name =
    if bytes_eq name (codes "assert") then Some Assert
    else (if bytes_eq name (codes "skip") then Some Skip else None)

-- ---- names

-- the name of a domain
abbrev pub domain_name : Domain → List ℕ
domain_name Interval = codes "interval"
domain_name Octagon = codes "octagon"
domain_name Stride = codes "stride"
domain_name Sharp = codes "sharp"

-- the name of a widening
abbrev pub widening_name : Widening → List ℕ
widening_name «Type» = codes "type"
widening_name Thresholds = codes "thresholds"

-- the name of an overflow
abbrev pub overflow_name : Mode → List ℕ
overflow_name Stop = codes "stop"
overflow_name Wrap = codes "wrap"

-- the name of how regions are told
abbrev pub regions_name : Regions → List ℕ
regions_name Paths = codes "paths"
regions_name Merged = codes "merged"

-- the name of what a name is that no model has
abbrev pub unknown_name : Unknown → List ℕ
unknown_name Zero = codes "zero"
unknown_name Refuse = codes "refuse"

-- the name of which includes a file may have
abbrev pub includes_name : Includes → List ℕ
includes_name Assert = codes "assert"
includes_name Skip = codes "skip"

-- ---- numbers

-- one digit or more, the first of them not `0`
abbrev pub is_positive : List ℕ → Bool
is_positive [] = false
is_positive (first ∷ rest) = not (first == 48) && list_all is_digit (first ∷ rest)

-- `0`, or digits without a leading zero
abbrev pub is_number : List ℕ → Bool
is_number text = bytes_eq text (codes "0") || is_positive text

-- the number from 0 to `most` that the text spells
abbrev pub number_up_to : ℕ → List ℕ → Option ℕ
number_up_to most text =
    if is_number text && nat_le (digits_value 10 text) most then Some (digits_value 10 text) else None

-- ---- inputs

-- the text without a `-` at its front
abbrev pub without_minus : List ℕ → List ℕ
without_minus [] = []
without_minus (first ∷ rest) = if first == 45 then rest else first ∷ rest

-- `0`, or digits that do not begin with 0, with or without a `-` before them
abbrev pub is_input : List ℕ → Bool
is_input text = bytes_eq text (codes "0") || is_positive (without_minus text)

-- the number is one of `int`
abbrev pub is_in_int : ℤ → Bool
is_in_int z = int_le (negsuc 2147483647) z && int_le z (pos 2147483647)

-- the number of `int` that the text spells
abbrev pub input_of : List ℕ → Option ℤ
input_of text =
    if is_input text && is_in_int (signed_digits_value 10 text) then Some (signed_digits_value 10 text) else None

-- the numbers so far, and after them those that the texts spell
abbrev pub inputs_after : List ℤ → List (List ℕ) → Option (List ℤ)
inputs_after front [] = Some front
inputs_after front (text ∷ texts) = option_and_then (λ z. inputs_after (front ++ z ∷ []) texts) (input_of text)

-- the numbers, joined by commas, that the text spells
abbrev pub inputs_of : List ℕ → Option (List ℤ)
inputs_of text = inputs_after [] (slice_split (λ c. c == 44) text)
