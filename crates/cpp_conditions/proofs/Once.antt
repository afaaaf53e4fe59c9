-- Bytes are read in one way.
use Rattle.std.proofs.Common.{◌≡◌, ℕ, ℤ, Bool, true, false, if◌then◌else◌, List, [], Some, Result, Ok, Err, refl, sym, ap, subst, ◌∙◌, arith}
use Rattle.fam_outer.specs.declared.faults.ConditionFault.{ConditionFault}
use Rattle.fam_outer.specs.declared.faults.ConditionFault.TheVariants as faults
use Rattle.cpp_conditions.specs.Macros.{Macros, among}
use Rattle.fam_outer.specs.declared.dialect.Unknown.TheVariants.{Zero, Refuse}
use Rattle.linear_atoms.specs.declared.atoms.Atom.{Atom}
use Rattle.linear_atoms.specs.declared.atoms.Feature.{Feature}
use Rattle.linear_atoms.specs.Atoms.{IsWithin}
use Rattle.cpp_conditions.specs.Expressions.{Expression, Number, Name, IsDefined, Unary, Binary, is_nonzero, value}
use Rattle.cpp_conditions.specs.Grammar.{Spells, CSpells, has_reserved, unknown_refuses, has_defined, is_small_condition, judged, ReadsAs, no_tokens, too_deep, no_condition, read}
use Rattle.cpp_conditions.specs.Meaning.{is_linear, cond}
use Rattle.cpp_conditions.specs.Propositions.{Proposition, true_at}
use Rattle.cpp_conditions.specs.Tokens.{Token, SpellsTokens, weight_behind}
use Rattle.cpp_conditions.proofs.Complete.{is_read}
use Rattle.cpp_conditions.proofs.Lexemes.{one_list}
use Rattle.cpp_conditions.proofs.Meanings.{cond_truth}

some_is : (d e : Expression) → Some d ≡ Some e → d ≡ e
some_is d e h = cc

-- tokens spell at most one expression
one_expression : (ts : List Token) (d e : Expression) → Spells 6 ts d → Spells 6 ts e → d ≡ e
one_expression ts d e s t = some_is d e (sym (is_read ts d s) ∙ is_read ts e t)

pub spelled_once : (bytes : List ℕ) (d e : Expression) → CSpells d bytes → CSpells e bytes → d ≡ e
spelled_once bytes d e s t = one_expression s.tokens d e s.spells (subst (λ ts. Spells 6 ts e) (sym (one_list s.read t.tokens t.read)) t.spells)

same_weight : (bytes : List ℕ) (ts us : List Token) → SpellsTokens bytes ts → SpellsTokens bytes us → weight_behind false ts ≡ weight_behind false us
same_weight bytes ts us s t = ap (weight_behind false) (one_list s us t)

pub one_reading : (macros : Macros) (features : List Feature) (bytes : List ℕ) (r s : Result (Proposition Atom) ConditionFault) → ReadsAs macros features bytes r → ReadsAs macros features bytes s → r ≡ s
one_reading macros features bytes _ _ (no_tokens n) (no_tokens m) = refl
one_reading macros features bytes _ _ (no_tokens n) (too_deep ts s h) = absurd (n ts s)
one_reading macros features bytes _ _ (no_tokens n) (no_condition ts s h m) = refl
one_reading macros features bytes _ _ (no_tokens n) (read ts e s h x) = absurd (n ts s)
one_reading macros features bytes _ _ (too_deep ts s h) (no_tokens m) = absurd (m ts s)
one_reading macros features bytes _ _ (too_deep ts s h) (too_deep us t k) = refl
one_reading macros features bytes _ _ (too_deep ts s h) (no_condition us t k m) = absurd (let e = same_weight bytes ts us s t in omega arith)
one_reading macros features bytes _ _ (too_deep ts s h) (read us e t k x) = absurd (let q = same_weight bytes ts us s t in omega arith)
one_reading macros features bytes _ _ (no_condition ts s h n) (no_tokens m) = refl
one_reading macros features bytes _ _ (no_condition ts s h n) (too_deep us t k) = absurd (let e = same_weight bytes ts us s t in omega arith)
one_reading macros features bytes _ _ (no_condition ts s h n) (no_condition us t k m) = refl
one_reading macros features bytes _ _ (no_condition ts s h n) (read us e t k x) = absurd (n e (subst (λ vs. Spells 6 vs e) (sym (one_list s us t)) x))
one_reading macros features bytes _ _ (read ts d s h x) (no_tokens m) = absurd (m ts s)
one_reading macros features bytes _ _ (read ts d s h x) (too_deep us t k) = absurd (let q = same_weight bytes ts us s t in omega arith)
one_reading macros features bytes _ _ (read ts d s h x) (no_condition us t k m) = absurd (m d (subst (λ vs. Spells 6 vs d) (one_list s us t) x))
one_reading macros features bytes _ _ (read ts d s h x) (read us e t k y) = ap (judged macros features) (one_expression ts d e x (subst (λ vs. Spells 6 vs e) (sym (one_list s us t)) y))

-- ---- what is read has C's value

record IsOf (macros : Macros) (features : List Feature) (bytes : List ℕ) (p : Proposition Atom) : Type 0 where
  pub tree : Expression
  pub spelled : CSpells tree bytes
  pub judged_is : judged macros features tree ≡ Ok p

is_of : (macros : Macros) (features : List Feature) (bytes : List ℕ) (r : Result (Proposition Atom) ConditionFault) (p : Proposition Atom) → ReadsAs macros features bytes r → r ≡ Ok p → IsOf macros features bytes p
is_of macros features bytes _ p (no_tokens n) e = absurd cc
is_of macros features bytes _ p (too_deep ts s h) e = absurd cc
is_of macros features bytes _ p (no_condition ts s h n) e = absurd cc
is_of macros features bytes _ p (read ts d s h x) e = record { tree = d; spelled = record { tokens = ts; read = s; spells = x }; judged_is = e }

abbrev Formed : Bool → Bool → Proposition Atom → Result (Proposition Atom) ConditionFault
Formed linear small p = if linear then (if small then Ok p else Err faults.TooLarge) else Err faults.NonLinear

abbrev Judged : Bool → Bool → Bool → Bool → Bool → Proposition Atom → Result (Proposition Atom) ConditionFault
Judged reserved strange defined linear small p = if reserved then Err faults.ReservedName else (if strange then Err faults.UnknownName else (if defined then Err faults.DefinedName else Formed linear small p))

accepted : (reserved strange defined linear small : Bool) (p q : Proposition Atom) → Judged reserved strange defined linear small p ≡ Ok q → (linear ≡ true) × (p ≡ q)
accepted true m d l s p q e = absurd cc
accepted false true d l s p q e = absurd cc
accepted false false true l s p q e = absurd cc
accepted false false false true true p q e = (refl, cc)
accepted false false false true false p q e = absurd cc
accepted false false false false s p q e = absurd cc

-- what is accepted under a stricter look at names is accepted without one
laxer : (reserved strange defined linear small : Bool) (p q : Proposition Atom) → Judged reserved strange defined linear small p ≡ Ok q → Judged reserved false defined linear small p ≡ Ok q
laxer true m d l s p q e = absurd cc
laxer false true d l s p q e = absurd cc
laxer false false d l s p q e = e

pub has_value : (macros : Macros) (features : List Feature) (bytes : List ℕ) (p : Proposition Atom) → ReadsAs macros features bytes (Ok p) → (e : Expression) (values : List ℤ) → CSpells e bytes → IsWithin features values → true_at values p ≡ is_nonzero (value features values e)
has_value macros features bytes p r e values s within =
    let o = is_of macros features bytes (Ok p) p r refl in
    let same : o.tree ≡ e = spelled_once bytes o.tree e o.spelled s in
    let a = accepted (has_reserved o.tree) (unknown_refuses macros features o.tree) (has_defined macros.above o.tree) (is_linear features o.tree) (is_small_condition features o.tree) (cond features o.tree) p o.judged_is in
    ap (true_at values) (sym a.1) ∙ cond_truth features values within o.tree a.0 ∙ ap (λ x. is_nonzero (value features values x)) same

-- ---- names

read_laxly : (above file : List (List ℕ)) (features : List Feature) (bytes : List ℕ) (r : Result (Proposition Atom) ConditionFault) (p : Proposition Atom) → ReadsAs (among Refuse above file) features bytes r → r ≡ Ok p → ReadsAs (among Zero above file) features bytes (Ok p)
read_laxly above file features bytes _ p (no_tokens n) e = absurd cc
read_laxly above file features bytes _ p (too_deep ts s h) e = absurd cc
read_laxly above file features bytes _ p (no_condition ts s h n) e = absurd cc
read_laxly above file features bytes _ p (read ts d s h x) e =
    subst (ReadsAs (among Zero above file) features bytes) (laxer (has_reserved d) (unknown_refuses (among Refuse above file) features d) (has_defined above d) (is_linear features d) (is_small_condition features d) (cond features d) p e) (read ts d s h x)

pub one_meaning : (above file : List (List ℕ)) (features : List Feature) (bytes : List ℕ) (p : Proposition Atom) → ReadsAs (among Refuse above file) features bytes (Ok p) → ReadsAs (among Zero above file) features bytes (Ok p)
one_meaning above file features bytes p r = read_laxly above file features bytes (Ok p) p r refl

-- where nothing is defined, no name is refused for it
pub nothing_defined : (e : Expression) → has_defined [] e ≡ false
nothing_defined (Number n) = refl
nothing_defined (Name x) = refl
nothing_defined (IsDefined x) = refl
nothing_defined (Unary u e) = nothing_defined e
nothing_defined (Binary op a b) = rw (nothing_defined a, nothing_defined b) refl
