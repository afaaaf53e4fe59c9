-- Which bytes spell a condition, and which refusal the others have.
use Rattle.std.specs.Prelude.{ℕ, suc, ◌≤◌, ◌<◌, pos, negsuc, Bool, true, false, not, ◌&&◌, ◌||◌, if◌then◌else◌, List, [], ◌∷◌, ◌++◌, is_none, Result, Ok, Err}
use Rattle.c_words.specs.Identifiers.{begins_with_two_underscores}
use Rattle.fam_outer.specs.declared.dialect.Unknown.{Unknown}
use Rattle.fam_outer.specs.declared.dialect.Unknown.TheVariants.{Zero, Refuse}
use Rattle.fam_outer.specs.declared.faults.ConditionFault.{ConditionFault}
use Rattle.fam_outer.specs.declared.faults.ConditionFault.TheVariants as faults
use Rattle.linear_atoms.specs.declared.atoms.Atom.{Atom}
use Rattle.linear_atoms.specs.declared.atoms.Feature.{Feature}
use Rattle.linear_atoms.specs.declared.forms.Linear.{Linear}
use Rattle.linear_atoms.specs.Forms.{form_by, is_small, is_small_form}
use Rattle.cpp_conditions.specs.Propositions.{Proposition}
use Rattle.cpp_conditions.specs.declared.operators.Operator.{Operator}
use Rattle.cpp_conditions.specs.declared.operators.Operator.TheVariants.{Times, Plus, Minus, Less, AtMost, Greater, AtLeast, Equal, Differs, Both, Either}
use Rattle.cpp_conditions.specs.declared.operators.Prefix.{Prefix}
use Rattle.cpp_conditions.specs.declared.operators.Prefix.TheVariants.{Positive, Negative, Inverse}
use Rattle.cpp_conditions.specs.Expressions.{Expression, Number, Name, IsDefined, Unary, Binary, found}
use Rattle.cpp_conditions.specs.Macros.{Macros, is_one_of}
use Rattle.cpp_conditions.specs.Meaning.{is_truth, is_linear, form, difference, less_one, cond}
use Rattle.cpp_conditions.specs.Tokens.{Token, Digits, Word, Defined, Open, Close, Bang, Oper, SpellsTokens, weight_behind}

-- the level of the right operand: 0 is unary, 1 product, 2 sum, 3 relation, 4 equality, 5 and, 6 or
abbrev pub tighter : Operator → ℕ
tighter Times = 0
tighter Plus = 1
tighter Minus = 1
tighter Less = 2
tighter AtMost = 2
tighter Greater = 2
tighter AtLeast = 2
tighter Equal = 3
tighter Differs = 3
tighter Both = 4
tighter Either = 5

abbrev pub sign : Prefix → Token
sign Positive = Oper Plus
sign Negative = Oper Minus
sign Inverse = Bang

-- binary operators group to the left
pub data Spells : ℕ → List Token → Expression → Type 0 where
  number : (n : ℕ) → Spells 0 (Digits n ∷ []) (Number n)
  name : (x : List ℕ) → Spells 0 (Word x ∷ []) (Name x)
  defined : (x : List ℕ) → Spells 0 (Defined ∷ Word x ∷ []) (IsDefined x)
  defined_group : (x : List ℕ) → Spells 0 (Defined ∷ Open ∷ Word x ∷ Close ∷ []) (IsDefined x)
  group : {ts : List Token} {e : Expression} → Spells 6 ts e → Spells 0 (Open ∷ (ts ++ Close ∷ [])) e
  prefix : (u : Prefix) {ts : List Token} {e : Expression} → Spells 0 ts e → Spells 0 (sign u ∷ ts) (Unary u e)
  loose : {k : ℕ} {ts : List Token} {e : Expression} → Spells k ts e → Spells (suc k) ts e
  binary : (op : Operator) {ts us : List Token} {a b : Expression} → Spells (suc (tighter op)) ts a → Spells (tighter op) us b → Spells (suc (tighter op)) (ts ++ Oper op ∷ us) (Binary op a b)

-- the bytes spell the expression
pub record CSpells (e : Expression) (bytes : List ℕ) : Type 0 where
  pub tokens : List Token
  pub read : SpellsTokens bytes tokens
  pub spells : Spells 6 tokens e

-- ---- reserved names

-- a name in it begins with two underscores
abbrev pub has_reserved : Expression → Bool
has_reserved (Number n) = false
has_reserved (Name x) = begins_with_two_underscores x
has_reserved (IsDefined x) = begins_with_two_underscores x
has_reserved (Unary u e) = has_reserved e
has_reserved (Binary op a b) = has_reserved a || has_reserved b

-- ---- names that no feature has

-- the name is that of no feature, and the file has no definition of it
abbrev pub is_unknown : List (List ℕ) → List Feature → List ℕ → Bool
is_unknown file features x = not (is_one_of file x) && is_none (found x features)

abbrev pub has_unknown : List (List ℕ) → List Feature → Expression → Bool
has_unknown file features (Number n) = false
has_unknown file features (Name x) = is_unknown file features x
has_unknown file features (IsDefined x) = is_unknown file features x
has_unknown file features (Unary u e) = has_unknown file features e
has_unknown file features (Binary op a b) = has_unknown file features a || has_unknown file features b

-- names that are unknown are refused
abbrev pub refuses : Unknown → Bool
refuses Zero = false
refuses Refuse = true

-- a name that is unknown refuses it
abbrev pub unknown_refuses : Macros → List Feature → Expression → Bool
unknown_refuses macros features e = refuses macros.unknown && has_unknown macros.file features e

-- ---- names that are defined above it

abbrev pub has_defined : List (List ℕ) → Expression → Bool
has_defined above (Number n) = false
has_defined above (Name x) = is_one_of above x
has_defined above (IsDefined x) = is_one_of above x
has_defined above (Unary u e) = has_defined above e
has_defined above (Binary op a b) = has_defined above a || has_defined above b

-- ---- sizes

-- a form and the form less one, as a number is used as a truth value
abbrev pub is_small_zero : Linear → Bool
is_small_zero a = is_small_form a && is_small_form (less_one a)

abbrev pub is_small_truth : List Feature → Expression → Bool
is_small_truth features e = if is_truth e then true else is_small_zero (form features e)

-- the form that a comparison puts in normal form, or the two of them
abbrev pub is_small_compared : Operator → Linear → Bool
is_small_compared AtLeast d = is_small_form d
is_small_compared Greater d = is_small_form (less_one d)
is_small_compared AtMost d = is_small_form (form_by (negsuc 0) d)
is_small_compared Less d = is_small_form (less_one (form_by (negsuc 0) d))
is_small_compared _ d = is_small_zero d

-- what is put in normal form at the operator; and the form of its number
abbrev pub is_small_operator : List Feature → Operator → Expression → Expression → Bool
is_small_operator features Both a b = is_small_truth features a && is_small_truth features b
is_small_operator features Either a b = is_small_truth features a && is_small_truth features b
is_small_operator features Times a b = is_small_form (form features (Binary Times a b))
is_small_operator features Plus a b = is_small_form (form features (Binary Plus a b))
is_small_operator features Minus a b = is_small_form (form features (Binary Minus a b))
is_small_operator features op a b = is_small_compared op (difference (form features a) (form features b))

-- no literal, no number of a subexpression's form or of a form that is put in normal form passes 2^31 in size
abbrev pub are_small_forms : List Feature → Expression → Bool
are_small_forms features (Number n) = is_small (pos n)
are_small_forms features (Name x) = true
are_small_forms features (IsDefined x) = true
are_small_forms features (Unary Inverse e) = are_small_forms features e && is_small_truth features e
are_small_forms features (Unary u e) = are_small_forms features e && is_small_form (form features (Unary u e))
are_small_forms features (Binary op a b) = (are_small_forms features a && are_small_forms features b) && is_small_operator features op a b

abbrev pub is_small_condition : List Feature → Expression → Bool
is_small_condition features e = are_small_forms features e && is_small_truth features e

-- ---- what bytes are read as, the refusals in their order

-- what an expression means without a look at its names
abbrev pub judged_form : List Feature → Expression → Result (Proposition Atom) ConditionFault
judged_form features e = if is_linear features e then (if is_small_condition features e then Ok (cond features e) else Err faults.TooLarge) else Err faults.NonLinear

abbrev pub judged : Macros → List Feature → Expression → Result (Proposition Atom) ConditionFault
judged macros features e =
    if has_reserved e then Err faults.ReservedName
    else (if unknown_refuses macros features e then Err faults.UnknownName
    else (if has_defined macros.above e then Err faults.DefinedName else judged_form features e))

pub data ReadsAs (macros : Macros) (features : List Feature) (bytes : List ℕ) : Result (Proposition Atom) ConditionFault → Type 0 where
  no_tokens : ((ts : List Token) → SpellsTokens bytes ts → ⊥) → ReadsAs macros features bytes (Err faults.Syntax)
  too_deep : (ts : List Token) → SpellsTokens bytes ts → 64 < weight_behind false ts → ReadsAs macros features bytes (Err faults.TooDeep)
  no_condition : (ts : List Token) → SpellsTokens bytes ts → weight_behind false ts ≤ 64 → ((e : Expression) → Spells 6 ts e → ⊥) → ReadsAs macros features bytes (Err faults.Syntax)
  read : (ts : List Token) (e : Expression) → SpellsTokens bytes ts → weight_behind false ts ≤ 64 → Spells 6 ts e → ReadsAs macros features bytes (judged macros features e)
