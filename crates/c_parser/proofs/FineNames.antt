-- A name of the items that stay at a valid configuration has no fault, where it has none in the family.
use Rattle.std.proofs.Common.{◌≡◌, ℕ, ◌+◌, nat_eq, nat_lt, Bool, true, false, not, ◌||◌, ◌&&◌, List, [], length, Option, Some, None, refl, sym, ap, subst, ◌∙◌, inl, inr}
use Rattle.std.specs.Prelude.{ℤ, ◌⊎◌, if◌then◌else◌}
use Rattle.fam_outer.specs.declared.faults.FileCode.{FileCode}
use Rattle.fam_outer.specs.declared.faults.FileCode.TheVariants.{Undeclared, Twice, FeatureInCode, TooManyVariables, TooManyConstants}
use Rattle.cpp_conditions.specs.Validity.{plain, IsValid}
use Rattle.c_grammar.specs.declared.items.Item.{Item}
use Rattle.c_grammar.specs.declared.items.Sign.{Sign}
use Rattle.c_grammar.specs.declared.items.Sign.TheVariants as signs
use Rattle.c_grammar.specs.Functions.{function_of}
use Rattle.c_grammar.specs.Grammar.{is_group}
use Rattle.c_grammar.specs.Kept.{kept}
use Rattle.c_grammar.specs.Scopes.{names_in_scope, names_taken, AreLevel, AreBeside}
use Rattle.c_grammar.specs.Locals.{is_in_own, is_open, AreOutside as StandOutside}
use Rattle.family_names.specs.Names.{NameContext, truths_at, name_of, declared_by, in_scope_at, taken_at, constants_of, values_of, is_among, is_kept, is_missed, is_met_again, is_feature, is_value, is_used_behind, value_fault, new_name_fault, IsWithFirst, IsEither, IsNameFault, IsUseFault, IsDeclarationFault}
use Rattle.family_names.proofs.Features.{no_value}
use Rattle.c_parser.specs.Names as alone
use Rattle.c_parser.proofs.FewNames.{names_this, no_feature_declared}
use Rattle.c_parser.proofs.KeptNames.{AreOutside, MainStays, stays_next, and_right, open_kept, used_kept, nowhere}
use Rattle.c_parser.proofs.KeptScopes.{names_in_scope_kept}
use Rattle.c_parser.proofs.KeptLocals.{names_taken_kept}

silent_fault : (o : alone.Outside) (before : List Item) (s : Sign) → name_of s ≡ [] → function_of s ≡ [] → alone.name_fault o before s ≡ None
silent_fault o before (signs.Name n) e f = absurd cc
silent_fault o before (signs.Function k) e f = absurd cc
silent_fault o before _ e f = refl

-- the item is no function, or this
function_this : (s : Sign) → (function_of s ≡ []) ⊎ ((k : ℕ) × (s ≡ signs.Function k))
function_this (signs.Function k) = inr (k, refl)
function_this _ = inl refl

-- ---- a name that is used

-- a use of a name that is no value's, without a fault
abbrev IsOther : NameContext → List Item → ℕ → Type 0
IsOther context before n = IsEither (is_feature context n) (◌≡◌ {A = Option FileCode} None (Some FeatureInCode))
    (IsEither (is_among n (declared_by before)) (IsWithFirst context.model (is_missed context before n) Undeclared None None) (◌≡◌ {A = Option FileCode} None (Some (Undeclared None))))

not_missed : (context : NameContext) (before : List Item) (n : ℕ) (values : List ℤ) → IsOther context before n → IsValid (plain context.model) values → is_missed context before n values ≡ false
not_missed context before n values h v =
    elim (is_feature context n) as (λ a. IsEither a (◌≡◌ {A = Option FileCode} None (Some FeatureInCode)) (IsEither (is_among n (declared_by before)) (IsWithFirst context.model (is_missed context before n) Undeclared None None) (◌≡◌ {A = Option FileCode} None (Some (Undeclared None)))) → is_missed context before n values ≡ false) [
      | true ↦ λ e. absurd cc
      | false ↦ λ k. (elim (is_among n (declared_by before)) as (λ b. IsEither b (IsWithFirst context.model (is_missed context before n) Undeclared None None) (◌≡◌ {A = Option FileCode} None (Some (Undeclared None))) → is_missed context before n values ≡ false) [
        | true ↦ λ w. nowhere context.model (is_missed context before n) Undeclared None values w v
        | false ↦ λ e. absurd cc
      ] k)
    ] h

-- a declaration of a name that stays is in scope among what stays before it, and the name is behind its declarator
abbrev is_known : NameContext → List Item → ℕ → List ℤ → Bool
is_known context before n values = not (is_in_own before n) && is_among n (in_scope_at (truths_at context values) before)

both_so : (own shown : Bool) → (own || not shown) ≡ false → (not own && shown) ≡ true
both_so true shown e = absurd cc
both_so false true e = refl
both_so false false e = absurd cc

declared_before : (context : NameContext) (before : List Item) (n : ℕ) (values : List ℤ) → IsOther context before n → IsValid (plain context.model) values → is_kept (truths_at context values) before ≡ true → is_known context before n values ≡ true
declared_before context before n values h v k =
    let shown = is_among n (in_scope_at (truths_at context values) before) in
    both_so (is_in_own before n) shown (sym (ap (λ (b : Bool). b && (is_in_own before n || not shown)) k) ∙ not_missed context before n values h v)

-- it has a value from outside, or a declaration that stays
known_use : (context : NameContext) (o : alone.Outside) (values : List ℤ) (before : List Item) (n : ℕ) → AreOutside context o → IsValid (plain context.model) values → IsUseFault context before n None → is_kept (truths_at context values) before ≡ true
    → (alone.has_value o n || is_known context before n values) ≡ true
known_use context o values before n a v u k =
    ap (λ (b : Bool). b || is_known context before n values) (a.values n)
    ∙ elim (is_value context n) as (λ b. IsEither b (◌≡◌ {A = Option FileCode} None (value_fault context (values_of context before) (length (constants_of before)) n)) (IsOther context before n) → (b || is_known context before n values) ≡ true) [
      | true ↦ λ _. refl
      | false ↦ λ other. declared_before context before n values other v k
    ] u

use_fine : (context : NameContext) (o : alone.Outside) (values : List ℤ) (before : List Item) (n : ℕ) → AreOutside context o → StandOutside false None before → AreLevel [] 0 before → IsValid (plain context.model) values → MainStays (truths_at context values) [] before → is_kept (truths_at context values) before ≡ true
    → IsUseFault context before n None → alone.use_fault o (is_in_own (kept (truths_at context values) before) n) (names_in_scope (kept (truths_at context values) before)) n ≡ None
use_fine context o values before n a h l v m k u =
    let truths = truths_at context values in
    ap (λ (opened : Option ℕ). alone.use_fault o (is_open n opened) (names_in_scope (kept truths before)) n) (open_kept truths before h k)
    ∙ ap (λ (ns : List ℕ). alone.use_fault o (is_in_own before n) ns n) (names_in_scope_kept truths before h m l)
    ∙ ap (λ (b : Bool). if b then None else Some (Undeclared None)) (known_use context o values before n a v u k)

-- ---- a name that is declared

-- no name is counted
none_counted : (others count n : ℕ) → count ≡ 0 → alone.is_seventeenth others count n ≡ false
none_counted others count n c = and_none (nat_eq n (others + 16)) (nat_lt 16 count) (ap (nat_lt 16) c)
  where
    and_none : (a b : Bool) → b ≡ false → (a && b) ≡ false
    and_none true b e = e
    and_none false b e = refl

no_limit : (o : alone.Outside) (n : ℕ) → o.variables ≡ 0 → o.locals ≡ 0 → o.constants ≡ 0 → alone.limit_fault o n ≡ None
no_limit o n v l c =
    ap (λ (b : Bool). if b || alone.is_seventeenth o.variables o.locals n then Some TooManyVariables else (if alone.is_seventeenth (o.variables + o.locals) o.constants n then Some TooManyConstants else None)) (none_counted 0 o.variables n v)
    ∙ ap (λ (b : Bool). if b then Some TooManyVariables else (if alone.is_seventeenth (o.variables + o.locals) o.constants n then Some TooManyConstants else None)) (none_counted o.variables o.locals n l)
    ∙ ap (λ (b : Bool). if b then Some TooManyConstants else None) (none_counted (o.variables + o.locals) o.constants n c)

-- where a declaration stays the name is not taken
not_declared_before : (context : NameContext) (before : List Item) (n : ℕ) (values : List ℤ) → IsDeclarationFault context before n None → IsValid (plain context.model) values → is_kept (truths_at context values) before ≡ true
    → is_among n (taken_at (truths_at context values) before) ≡ false
not_declared_before context before n values h v k =
    sym (ap (λ (b : Bool). b && is_among n (taken_at (truths_at context values) before)) k)
    ∙ nowhere context.model (is_met_again context before n) Twice (new_name_fault context before n) values h v

declaration_fine : (context : NameContext) (o : alone.Outside) (values : List ℤ) (before : List Item) (n : ℕ) → AreOutside context o → StandOutside false None before → AreLevel [] 0 before → AreBeside false before → IsValid (plain context.model) values → MainStays (truths_at context values) [] before
    → is_kept (truths_at context values) before ≡ true → IsDeclarationFault context before n None → alone.declaration_fault o (names_taken (kept (truths_at context values) before)) n ≡ None
declaration_fine context o values before n a h l b v m k u =
    let truths = truths_at context values in
    ap (λ (ns : List ℕ). alone.declaration_fault o ns n) (names_taken_kept truths before h m l b k)
    ∙ ap (λ (t : Bool). if t then Some (Twice None) else (if alone.has_value o n then Some FeatureInCode else alone.limit_fault o n)) (not_declared_before context before n values u v k)
    ∙ ap (λ (t : Bool). if t then Some FeatureInCode else alone.limit_fault o n) (a.values n ∙ no_value context n (no_feature_declared context before n u))
    ∙ no_limit o n a.variables a.locals a.constants

-- ---- the next item

name_next : (context : NameContext) (o : alone.Outside) (values : List ℤ) (before : List Item) (n : ℕ) → AreOutside context o → StandOutside false None before → AreLevel [] 0 before → AreBeside false before → IsValid (plain context.model) values → MainStays (truths_at context values) [] before
    → is_kept (truths_at context values) before ≡ true → IsNameFault context before (signs.Name n) None → alone.name_fault o (kept (truths_at context values) before) (signs.Name n) ≡ None
name_next context o values before n a h l b v m k f =
    let truths = truths_at context values in
    let before_it = kept truths before in
    ap (λ (used : Bool). if used then alone.use_fault o (is_in_own (kept truths before) n) (names_in_scope before_it) n else alone.declaration_fault o (names_taken before_it) n) (used_kept truths before h m k)
    ∙ elim (is_used_behind before) as (λ used. IsEither used (IsUseFault context before n None) (IsDeclarationFault context before n None)
    → (if used then alone.use_fault o (is_in_own (kept (truths_at context values) before) n) (names_in_scope (kept (truths_at context values) before)) n else alone.declaration_fault o (names_taken (kept (truths_at context values) before)) n) ≡ None) [
      | true ↦ λ u. use_fine context o values before n a h l v m k u
      | false ↦ λ u. declaration_fine context o values before n a h l b v m k u
    ] f

-- a function that stays has no fault
abbrev pub AreCallsFine : alone.Outside → List Bool → List Item → Item → Type 0
AreCallsFine o truths before x = (k : ℕ) → x.sign ≡ signs.Function k → stays_next truths before x ≡ true → alone.name_fault o (kept truths before) x.sign ≡ None

-- so the next item has none, if it stays
pub next : (context : NameContext) (o : alone.Outside) (values : List ℤ) (before : List Item) (x : Item) → AreOutside context o → StandOutside false None before → AreLevel [] 0 before → AreBeside false before → IsValid (plain context.model) values → MainStays (truths_at context values) [] before
    → IsNameFault context before x.sign None → AreCallsFine o (truths_at context values) before x → stays_next (truths_at context values) before x ≡ true → alone.name_fault o (kept (truths_at context values) before) x.sign ≡ None
next context o values before x a h l b v m f c s =
    let truths = truths_at context values in
    elim (names_this x.sign) [
      | inl e ↦ elim (function_this x.sign) [
        | inl g ↦ silent_fault o (kept truths before) x.sign e g
        | inr g ↦ c g.0 g.1 s
      ]
      | inr e ↦ ap (alone.name_fault o (kept truths before)) e.1
          ∙ name_next context o values before e.0 a h l b v m (and_right (not (is_group x.sign)) (is_kept truths before) s) (subst (λ (t : Sign). IsNameFault context before t None) e.1 f)
    ]
