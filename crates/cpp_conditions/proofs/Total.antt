-- Each list of bytes has a reading.
use Rattle.std.proofs.Common.{◌≡◌, ℕ, zero, suc, ◌≤◌, ◌<◌, ◌⊎◌, inl, inr, Bool, true, false, List, [], ◌∷◌, length, Option, Some, None, Result, refl, sym, subst, arith}
use Rattle.std.proofs.lemmas.Bool.{cases_lt}
use Rattle.fam_outer.specs.declared.faults.ConditionFault.{ConditionFault}
use Rattle.fam_outer.specs.declared.faults.ConditionFault.TheVariants as faults
use Rattle.cpp_conditions.specs.Macros.{Macros}
use Rattle.linear_atoms.specs.declared.atoms.Atom.{Atom}
use Rattle.linear_atoms.specs.declared.atoms.Feature.{Feature}
use Rattle.cpp_conditions.specs.Expressions.{Expression}
use Rattle.cpp_conditions.specs.Grammar.{judged, ReadsAs, no_tokens, too_deep, no_condition, read}
use Rattle.cpp_conditions.specs.Machine.{Wants, read as read_by}
use Rattle.cpp_conditions.specs.Propositions.{Proposition}
use Rattle.cpp_conditions.specs.Scanning.{lexeme_at}
use Rattle.c_words.specs.Bytes.{is_gap}
use Rattle.cpp_conditions.specs.Tokens.{Token, SpellsTokens, none, space, weight_behind}
use Rattle.cpp_conditions.proofs.Complete.{is_read}
use Rattle.cpp_conditions.proofs.Lexemes.{Follows, made, lexed, spaced, shorter}
use Rattle.cpp_conditions.proofs.Sound.{read_spells}

-- the bytes spell tokens, or none
abbrev Decided : List ℕ → Type 0
Decided bytes = ((ts : List Token) × SpellsTokens bytes ts) ⊎ ((ts : List Token) → SpellsTokens bytes ts → ⊥)

decided_space : (b : ℕ) (bs : List ℕ) → is_gap b ≡ true → Decided bs → Decided (b ∷ bs)
decided_space b bs h (inl t) = inl (t.0, space b h t.1)
decided_space b bs h (inr n) = inr (λ ts s. n ts (spaced b bs ts h s))

decided_token : (b : ℕ) (bs after : List ℕ) (t : Token) → is_gap b ≡ false → lexeme_at b bs ≡ Some (t, after) → Decided after → Decided (b ∷ bs)
decided_token b bs after t h e (inl d) = inl (t ∷ d.0, made b bs (t ∷ d.0) (subst (λ (o : Option (Token × List ℕ)). Follows o (t ∷ d.0)) (sym e) (d.0, refl, d.1)))
decided_token b bs after t h e (inr n) = inr (λ ts s. let f = lexed b bs ts (Some (t, after)) h e s in n f.0 f.2)

decided_lexeme : (b : ℕ) (bs : List ℕ) (o : Option (Token × List ℕ)) → is_gap b ≡ false → lexeme_at b bs ≡ o → ((after : List ℕ) → length after ≤ length bs → Decided after) → Decided (b ∷ bs)
decided_lexeme b bs None h e go = inr (λ ts s. lexed b bs ts None h e s)
decided_lexeme b bs (Some x) h e go = decided_token b bs x.1 x.0 h e (go x.1 (let k : length x.1 < length (b ∷ bs) = shorter b bs x.1 (b ∷ bs) x.0 refl (sym e) in omega arith))

decided_by : (b : ℕ) (bs : List ℕ) (v : Bool) → is_gap b ≡ v → ((after : List ℕ) → length after ≤ length bs → Decided after) → Decided (b ∷ bs)
decided_by b bs true h go = decided_space b bs h (go bs (omega arith))
decided_by b bs false h go = decided_lexeme b bs (lexeme_at b bs) h refl go

decided : (n : ℕ) (bytes : List ℕ) → length bytes ≤ n → Decided bytes
decided n [] h = inl ([], none)
decided zero (b ∷ bs) h = absurd (omega arith)
decided (suc n) (b ∷ bs) h = decided_by b bs (is_gap b) refl (λ after le. decided n after (omega arith))

none_some : (o : Option Expression) (e : Expression) → o ≡ None → o ≡ Some e → ⊥
none_some o e p q = absurd cc

abbrev Reading : Macros → List Feature → List ℕ → Type 0
Reading macros features bytes = (r : Result (Proposition Atom) ConditionFault) × ReadsAs macros features bytes r

read_tokens : (macros : Macros) (features : List Feature) (bytes : List ℕ) (ts : List Token) (o : Option Expression) → SpellsTokens bytes ts → weight_behind false ts ≤ 64 → read_by (Wants []) ts ≡ o → Reading macros features bytes
read_tokens macros features bytes ts None s h e = (Result.Err faults.Syntax, no_condition ts s h (λ d x. none_some (read_by (Wants []) ts) d e (is_read ts d x)))
read_tokens macros features bytes ts (Some d) s h e = (judged macros features d, read ts d s h (read_spells ts d e))

reading_of : (macros : Macros) (features : List Feature) (bytes : List ℕ) → Decided bytes → Reading macros features bytes
reading_of macros features bytes (inr n) = (Result.Err faults.Syntax, no_tokens n)
reading_of macros features bytes (inl t) = elim (cases_lt 64 (weight_behind false t.0)) [
  | inl h ↦ (Result.Err faults.TooDeep, too_deep t.0 t.1 h)
  | inr h ↦ read_tokens macros features bytes t.0 (read_by (Wants []) t.0) t.1 h refl
]

pub some_reading : (macros : Macros) (features : List Feature) (bytes : List ℕ) → Reading macros features bytes
some_reading macros features bytes = reading_of macros features bytes (decided (length bytes) bytes (omega arith))
