-- The code of an accepted file has few tokens.
use Rattle.std.proofs.Common.{◌≡◌, ℕ, ◌+◌, ◌≤◌, nat_lt, Bool, true, false, List, [], ◌∷◌, length, Option, Some, None, Result, Ok, Err, refl, subst, arith}
use Rattle.std.specs.Prelude.{if◌then◌else◌}
use Rattle.std.proofs.lemmas.Bool.Decides.{nat_tests}
use Rattle.std.proofs.lemmas.List.{length-map}
use Rattle.fam_outer.specs.declared.faults.FileCode.{FileCode}
use Rattle.fam_outer.specs.declared.faults.FileCode.TheVariants.{TooLong}
use Rattle.fam_outer.specs.declared.faults.Place.{Place}
use Rattle.fam_outer.specs.Limits.{file_bytes}
use Rattle.fam_outer.specs.Results.{and_then}
use Rattle.cpp_lines.specs.Comments.{blank}
use Rattle.cpp_lines.specs.Faults.{first_fault, blanked_or, without_comments}
use Rattle.cpp_lines.specs.Whole.{file_place, blanked_file}
use Rattle.c_tokens.specs.declared.token.Token.{Token}
use Rattle.c_tokens.specs.Reading.{IsReading, StandBetween, tokens_of}
use Rattle.c_parser.specs.Items.{Listed, item_over, names_from, listed}
use Rattle.c_parser.specs.Reading.{items_of_code}

-- ---- tokens

tokens_few : (text : List ℕ) (start : ℕ) (ts : List Token) (end : ℕ) → StandBetween text start ts end → start + length ts ≤ end
tokens_few text start [] end h = omega (arith, h.order)
tokens_few text start (t ∷ ts) end h = omega (arith, h.0.order, h.1.0.begins, tokens_few text t.end ts end h.1.1)

items_by : (functions given : List (List ℕ)) (code : List ℕ) (l : Listed) (r : Result (List Token) (FileCode × Place)) → IsReading code r → and_then r (λ ts. Ok (listed functions given code ts)) ≡ Ok l → length l.items ≤ length code
items_by functions given code l (Ok ts) h e =
    let same : listed functions given code ts ≡ l = cc in
    subst (λ (x : Listed). length x.items ≤ length code) same (let n = length-map ts (item_over functions (names_from functions code given ts) code) in omega (arith, n, tokens_few code 0 ts (length code) h))
items_by functions given code l (Err fault) h e = absurd cc

pub items_few : (functions : List (List ℕ)) → ((text : List ℕ) → IsReading text (tokens_of text)) → (given : List (List ℕ)) (code : List ℕ) (l : Listed) → items_of_code functions given code ≡ Ok l → length l.items ≤ length code
items_few functions read given code l e = items_by functions given code l (tokens_of code) (read code) e

-- ---- the length of the code

-- what a law says of the length of a text without its comments
abbrev pub BlanksKeepLengths : Type 0
BlanksKeepLengths = (text : List ℕ) → length (blank text) ≡ length text

by_fault : BlanksKeepLengths → (bytes blanked : List ℕ) (o : Option (FileCode × Place)) → blanked_or bytes o ≡ Ok blanked → length bytes ≤ file_bytes → length blanked ≤ file_bytes
by_fault kept bytes blanked None f short = let same : blank bytes ≡ blanked = cc in subst (λ t. length t ≤ file_bytes) same (let l = kept bytes in omega (arith, l, short))
by_fault kept bytes blanked (Some fault) f short = absurd cc

by_length : BlanksKeepLengths → (bytes blanked : List ℕ) (long : Bool) → nat_lt file_bytes (length bytes) ≡ long → and_then (if long then Err (TooLong, file_place) else Ok bytes) without_comments ≡ Ok blanked → length blanked ≤ file_bytes
by_length kept bytes blanked true long e = absurd cc
by_length kept bytes blanked false fits e = let short : length bytes ≤ file_bytes = grind (arith, nat_tests) in by_fault kept bytes blanked (first_fault bytes) e short

pub blanked_short : BlanksKeepLengths → (bytes blanked : List ℕ) → blanked_file bytes ≡ Ok blanked → length blanked ≤ 1048576
blanked_short kept bytes blanked e = by_length kept bytes blanked (nat_lt file_bytes (length bytes)) refl e
