-- The conditions of generated families are read.
use Rattle.std.proofs.Common.{◌≡◌, ℕ, ◌+◌, ◌<◌, Bool, true, false, List, [], ◌∷◌, ◌++◌, codes, Option, Some, None, Result, Ok, refl, subst, arith, pos}
use Rattle.std.specs.Prelude.{not, ◌&&◌}
use Rattle.std.specs.Fmt.{digits}
use Rattle.std.proofs.lemmas.Bool.{and_parts}
use Rattle.fam_outer.specs.declared.faults.ConditionFault.{ConditionFault}
use Rattle.linear_atoms.specs.declared.atoms.Atom.{Atom}
use Rattle.linear_atoms.specs.Divisors.{common_divisor}
use Rattle.c_words.specs.Identifiers.{is_identifier}
use Rattle.cpp_conditions.specs.Expressions.{Expression, Number, Name, IsDefined, Binary}
use Rattle.cpp_conditions.specs.Propositions.{Proposition, Const, Test, Not, And}
use Rattle.cpp_conditions.specs.Grammar.{ReadsAs, read, judged, Spells, number, name, defined, loose, binary}
use Rattle.cpp_conditions.specs.Macros.{no_macros}
use Rattle.cpp_conditions.specs.Integers.{is_integer, integer_value, ends_in_exponent}
use Rattle.cpp_conditions.specs.Tokens as tokens
use Rattle.family_generator.specs.Features.{generated_dialect, generated_features}
use Rattle.family_generator.proofs.Cases.{each_below}

abbrev pub switch_test : ℕ → Proposition Atom
switch_test f = Not (And (Const true) (Not (Test (record { terms = (f, pos 1) ∷ []; bound = pos 1 }))))

abbrev pub bound_test : ℕ → Proposition Atom
bound_test c = Test (record { terms = (8, pos 1) ∷ []; bound = pos (c + 1) })

abbrev pub switch_name : ℕ → List ℕ
switch_name f = 70 ∷ (48 + f) ∷ []

-- ---- switches

abbrev Judged : Type 0
Judged = Result (Proposition Atom) ConditionFault

abbrev judged_switch : ℕ → Judged
judged_switch f = judged (no_macros generated_dialect.unknown) generated_features (IsDefined (switch_name f))

abbrev test_of_switch : ℕ → Judged
test_of_switch f = Ok (switch_test f)

switch_is_judged : (f : ℕ) → f < 8 → judged_switch f ≡ test_of_switch f
unfolding digits common_divisor
switch_is_judged f lt = each_below judged_switch test_of_switch 8 refl f lt

abbrev is_switch_name : ℕ → Bool
is_switch_name f = is_identifier (switch_name f)

switch_is_name : (f : ℕ) → f < 8 → is_switch_name f ≡ true
switch_is_name f lt = each_below is_switch_name (λ _. true) 8 refl f lt

abbrev at_any_level : (ts : List tokens.Token) (e : Expression) → Spells 0 ts e → Spells 6 ts e
at_any_level ts e s = loose (loose (loose (loose (loose (loose s)))))

pub switch_is_read : (f : ℕ) → f < 8 → ReadsAs (no_macros generated_dialect.unknown) generated_features (codes "defined " ++ switch_name f) (Ok (switch_test f))
switch_is_read f lt = subst (ReadsAs (no_macros generated_dialect.unknown) generated_features (codes "defined " ++ switch_name f)) (switch_is_judged f lt)
    (read (tokens.Defined ∷ tokens.Word (switch_name f) ∷ []) (IsDefined (switch_name f))
    (tokens.word (codes "defined") refl refl (tokens.space 32 refl (tokens.word (switch_name f) (switch_is_name f lt) tt tokens.none)))
    (omega arith) (at_any_level (tokens.Defined ∷ tokens.Word (switch_name f) ∷ []) (IsDefined (switch_name f)) (defined (switch_name f))))

-- ---- bounds

abbrev digit : ℕ → List ℕ
digit c = (48 + (c + 1)) ∷ []

-- the operator of the mark, between `N` and a number
abbrev compared_by : Option tokens.Token → ℕ → Expression
compared_by (Some (tokens.Oper op)) c = Binary op (Name (codes "N")) (Number (integer_value (digit c)))
compared_by _ c = Number 0

abbrev token_or : Option tokens.Token → tokens.Token
token_or (Some t) = t
token_or None = tokens.Twice

abbrev at_least_token : tokens.Token
at_least_token = token_or (tokens.pair_of 62 61)

abbrev at_least : ℕ → Expression
at_least c = compared_by (tokens.pair_of 62 61) c

abbrev judged_bound : ℕ → Judged
judged_bound c = judged (no_macros generated_dialect.unknown) generated_features (at_least c)

abbrev test_of_bound : ℕ → Judged
test_of_bound c = Ok (bound_test c)

bound_is_judged : (c : ℕ) → c < 9 → judged_bound c ≡ test_of_bound c
unfolding digits common_divisor
bound_is_judged c lt = each_below judged_bound test_of_bound 9 refl c lt

abbrev is_bound_number : ℕ → Bool
is_bound_number c = is_integer (digit c) && not (ends_in_exponent (digit c))

bound_is_number : (c : ℕ) → c < 9 → is_bound_number c ≡ true
bound_is_number c lt = each_below is_bound_number (λ _. true) 9 refl c lt

ends_alone : (v : Bool) → not v ≡ true → (v && false) ≡ false
ends_alone true e = refl
ends_alone false e = refl

pub bound_is_read : (c : ℕ) → c < 9 → ReadsAs (no_macros generated_dialect.unknown) generated_features (codes " N >= " ++ digit c) (Ok (bound_test c))
bound_is_read c lt = subst (ReadsAs (no_macros generated_dialect.unknown) generated_features (codes " N >= " ++ digit c)) (bound_is_judged c lt)
    (read (tokens.Word (codes "N") ∷ at_least_token ∷ tokens.Digits (integer_value (digit c)) ∷ []) (at_least c)
    (tokens.space 32 refl (tokens.word (codes "N") refl refl (tokens.space 32 refl (tokens.pair 62 61 at_least_token refl (tokens.space 32 refl
    (tokens.number (digit c) (and_parts (is_integer (digit c)) (not (ends_in_exponent (digit c))) (bound_is_number c lt)).0 tt (ends_alone (ends_in_exponent (digit c)) (and_parts (is_integer (digit c)) (not (ends_in_exponent (digit c))) (bound_is_number c lt)).1) tokens.none))))))
    (omega arith)
    (loose (loose (loose (binary _ (loose (loose (loose (name (codes "N"))))) (loose (loose (number (integer_value (digit c))))))))))
