-- What is spelled is read: declarations in `main`.
use Rattle.std.proofs.Common.{◌≡◌, ℕ, suc, List, [], ◌∷◌, ◌++◌, length, Option, Some, refl, sym, ap, ◌∙◌, append_assoc, arith}
use Rattle.fam_outer.specs.declared.faults.Place.{Place}
use Rattle.c_tree.specs.declared.tree.Op.TheVariants.{Sub}
use Rattle.c_tree.specs.Tree.{Code, Done}
use Rattle.c_tree.specs.declared.lists.Guard.{Guard}
use Rattle.c_tree.specs.declared.lists.Declared.{Declared}
use Rattle.c_grammar.specs.declared.items.Sign.{Sign}
use Rattle.c_grammar.specs.declared.items.Sign.TheVariants as signs
use Rattle.c_grammar.specs.declared.items.Item.{Item}
use Rattle.c_grammar.specs.Grammar.{at, of_input, of_function, Locals, Typed, int, int32, signed, signed_int, int_signed, Qualifier, Unqualified, Constant, Qualified, unqualified, const_before, const_behind, LocalDeclarator, uninitialised, initialised, from_call, Writes, last_local, next_local, Declares, Vars, last_var, next_var, bare, positive, negative, counted, variables_end, constants_end, Counted}
use Rattle.c_grammar.specs.Ahead.{IsList, IsHeld}
use Rattle.c_grammar.specs.Machine.{Stack, Top, Braces, Yes, No, ThenOf, ElseOf, LoopOf, DoOf, Scope, ListScope, ForScope, ToInitialise, TypeWords, OneInt, OneSigned, WholeType, ReadingState, Ready, LocalConst, LocalType, NextLocal, LocalNamed, StartComes, with_declarator, behind_declaration, initialising, in_list, begin, moved, run, InStatic, BehindStatic, BeforeStaticName, BehindStaticName}
use Rattle.c_grammar.proofs.CompleteExpressions.{complete}

pub in_list_is : (outer : Stack) (next : ReadingState) → IsList outer → in_list outer next ≡ Some next
in_list_is (Top ds made) next is = refl
in_list_is (Braces p made outer) next is = refl
in_list_is (Yes links n made outer) next is = refl
in_list_is (No links n first made outer) next is = refl
in_list_is (ThenOf p e outer) next is = absurd is
in_list_is (ElseOf p e first outer) next is = absurd is
in_list_is (LoopOf start p e advance outer) next is = absurd is
in_list_is (DoOf p outer) next is = absurd is

pub begins_local : (p : Place) (s : Sign) (next : ReadingState) (outer : Stack) (w : List Item) → begin outer p s ≡ in_list outer next → IsList outer → run (Ready outer) (at p s ∷ w) ≡ run next w
unfolding run
begins_local p s next outer w h is = ap (λ (o : Option ReadingState). moved o (λ next. run next w) (suc (length w))) (h ∙ in_list_is outer next is)

-- a declaration in this scope may begin in this state: `const` or the first word of its type comes
pub record Opens (state : ReadingState) (scope : Scope) : Type 0 where
  pub const : (p : Place) (w : List Item) → run state (at p signs.Const ∷ w) ≡ run (LocalConst scope) w
  pub int : (p : Place) (w : List Item) → run state (at p signs.Int ∷ w) ≡ run (LocalType Unqualified OneInt scope) w
  pub int32 : (p : Place) (w : List Item) → run state (at p signs.Int32 ∷ w) ≡ run (LocalType Unqualified WholeType scope) w
  pub signed : (p : Place) (w : List Item) → run state (at p signs.Signed ∷ w) ≡ run (LocalType Unqualified OneSigned scope) w

pub list_opens : (outer : Stack) → IsList outer → Opens (Ready outer) (ListScope outer)
list_opens outer is = record {
  const = λ p w. begins_local p signs.Const (LocalConst (ListScope outer)) outer w refl is;
  int = λ p w. begins_local p signs.Int (LocalType Unqualified OneInt (ListScope outer)) outer w refl is;
  int32 = λ p w. begins_local p signs.Int32 (LocalType Unqualified WholeType (ListScope outer)) outer w refl is;
  signed = λ p w. begins_local p signs.Signed (LocalType Unqualified OneSigned (ListScope outer)) outer w refl is;
}

pub for_opens : (o : Place) (outer : Stack) → Opens (StartComes o outer) (ForScope o Done outer)
unfolding run
for_opens o outer = record { const = λ p w. refl; int = λ p w. refl; int32 = λ p w. refl; signed = λ p w. refl }

-- the words of a type lead on from here
abbrev BehindType : ReadingState → Qualifier → Scope → List Item → List Item → Type 0
BehindType state kind scope ts w = (words : TypeWords) × (run state (ts ++ w) ≡ run (LocalType kind words scope) w)

type_then : {state : ReadingState} {ts : List Item} → Typed ts → (scope : Scope) → Opens state scope → (w : List Item) → BehindType state Unqualified scope ts w
unfolding run
type_then (int p) scope o w = (OneInt, o.int p w)
type_then (int32 p) scope o w = (WholeType, o.int32 p w)
type_then (signed p) scope o w = (OneSigned, o.signed p w)
type_then (signed_int p q) scope o w = (WholeType, o.signed p (at q signs.Int ∷ w))
type_then (int_signed p q) scope o w = (WholeType, o.int p (at q signs.Signed ∷ w))

const_type_then : {ts : List Item} → Typed ts → (scope : Scope) (w : List Item) → BehindType (LocalConst scope) Constant scope ts w
unfolding run
const_type_then (int p) scope w = (OneInt, refl)
const_type_then (int32 p) scope w = (WholeType, refl)
const_type_then (signed p) scope w = (OneSigned, refl)
const_type_then (signed_int p q) scope w = (WholeType, refl)
const_type_then (int_signed p q) scope w = (WholeType, refl)

-- behind its type a declaration goes on with a name
qualifies : {kind : Qualifier} {state : ReadingState} {ts : List Item} → Qualified kind ts → (scope : Scope) → Opens state scope → (p : Place) (x : ℕ) (w : List Item) → run state (ts ++ at p (signs.Name x) ∷ w) ≡ run (NextLocal kind scope) (at p (signs.Name x) ∷ w)
unfolding run
qualifies (unqualified y) scope o p x w = (type_then y scope o (at p (signs.Name x) ∷ w)).1
qualifies (const_before q {us} y) scope o p x w = o.const q (us ++ at p (signs.Name x) ∷ w) ∙ (const_type_then y scope (at p (signs.Name x) ∷ w)).1
qualifies {state = state} (const_behind q {us} y) scope o p x w = ap (run state) (append_assoc us (at q signs.Const ∷ []) (at p (signs.Name x) ∷ w)) ∙ (type_then y scope o (at q signs.Const ∷ at p (signs.Name x) ∷ w)).1

-- a name stands first
abbrev pub NameAhead : List Item → Type 0
NameAhead w = (p : Place) × (x : ℕ) × (v : List Item) × (w ≡ at p (signs.Name x) ∷ v)

pub declarator_named : {kind : Qualifier} {ts : List Item} {c : Code} → LocalDeclarator kind ts c → (w : List Item) → NameAhead (ts ++ w)
declarator_named (uninitialised p x) w = (p, x, w, refl)
declarator_named (initialised p q x {ts = ts} s) w = (p, x, at q signs.Equals ∷ (ts ++ w), refl)
declarator_named (from_call p q r s t x {f = f} g) w = (p, x, at q signs.Equals ∷ at r f ∷ at s signs.Open ∷ at t signs.Close ∷ w, refl)

pub locals_named : {kind : Qualifier} {ts : List Item} {c : Code} → Writes (Locals kind) ts c → (w : List Item) → NameAhead (ts ++ w)
locals_named (last_local p {ts} d) w = let h = declarator_named d (at p signs.Semicolon ∷ w) in (h.0, h.1, h.2, append_assoc ts (at p signs.Semicolon ∷ []) w ∙ h.3)
locals_named (next_local p {ts} {us} d s) w = let h = declarator_named d (at p signs.Comma ∷ (us ++ w)) in (h.0, h.1, h.2, append_assoc ts (at p signs.Comma ∷ us) w ∙ h.3)

pub typed_locals : {kind held : Qualifier} {state : ReadingState} {ts us : List Item} {c : Code} → Qualified kind ts → Writes (Locals held) us c → (scope : Scope) → Opens state scope → (w : List Item) → run state (ts ++ (us ++ w)) ≡ run (NextLocal kind scope) (us ++ w)
typed_locals {kind} {state = state} {ts} q s scope o w =
    let h = locals_named s w in
    ap (λ (y : List Item). run state (ts ++ y)) h.3 ∙ qualifies q scope o h.0 h.1 h.2 ∙ ap (run (NextLocal kind scope)) (sym h.3)

-- a name is that of a declarator of this kind
name_then : (scope : Scope) (kind held : Qualifier) → initialising scope kind ≡ held → (p : Place) (x : ℕ) (w : List Item) → run (NextLocal kind scope) (at p (signs.Name x) ∷ w) ≡ run (LocalNamed held p x scope) w
unfolding run
name_then scope kind held is p x w = ap (λ (k : Qualifier). run (LocalNamed k p x scope) w) is

pub declarator_ends : {held : Qualifier} {ts : List Item} {c : Code} → LocalDeclarator held ts c → (z : Place) (scope : Scope) (kind : Qualifier) → initialising scope kind ≡ held → (w : List Item) → run (NextLocal kind scope) (ts ++ at z signs.Semicolon ∷ w) ≡ run (behind_declaration (with_declarator scope c)) w
unfolding run
declarator_ends (uninitialised p x) z scope kind is w = name_then scope kind Unqualified is p x (at z signs.Semicolon ∷ w)
declarator_ends (initialised p q x {kind = held} {ts} s) z scope kind is w = name_then scope kind held is p x (at q signs.Equals ∷ (ts ++ at z signs.Semicolon ∷ w)) ∙ complete s [] (ToInitialise held p x scope) (omega arith) (at z signs.Semicolon ∷ w) tt
declarator_ends (from_call p q r s t x {kind = held} of_input) z scope kind is w = name_then scope kind held is p x (at q signs.Equals ∷ at r signs.Input ∷ at s signs.Open ∷ at t signs.Close ∷ at z signs.Semicolon ∷ w)
declarator_ends (from_call p q r s t x {kind = held} (of_function k)) z scope kind is w = name_then scope kind held is p x (at q signs.Equals ∷ at r (signs.Function k) ∷ at s signs.Open ∷ at t signs.Close ∷ at z signs.Semicolon ∷ w)

pub declarator_then : {held : Qualifier} {ts : List Item} {c : Code} → LocalDeclarator held ts c → (z : Place) (scope : Scope) (kind : Qualifier) → initialising scope kind ≡ held → (w : List Item) → run (NextLocal kind scope) (ts ++ at z signs.Comma ∷ w) ≡ run (NextLocal held (with_declarator scope c)) w
unfolding run
declarator_then (uninitialised p x) z scope kind is w = name_then scope kind Unqualified is p x (at z signs.Comma ∷ w)
declarator_then (initialised p q x {kind = held} {ts} s) z scope kind is w = name_then scope kind held is p x (at q signs.Equals ∷ (ts ++ at z signs.Comma ∷ w)) ∙ complete s [] (ToInitialise held p x scope) (omega arith) (at z signs.Comma ∷ w) tt
declarator_then (from_call p q r s t x {kind = held} of_input) z scope kind is w = name_then scope kind held is p x (at q signs.Equals ∷ at r signs.Input ∷ at s signs.Open ∷ at t signs.Close ∷ at z signs.Comma ∷ w)
declarator_then (from_call p q r s t x {kind = held} (of_function k)) z scope kind is w = name_then scope kind held is p x (at q signs.Equals ∷ at r (signs.Function k) ∷ at s signs.Open ∷ at t signs.Close ∷ at z signs.Comma ∷ w)

-- ---- static declarations in `main`

-- behind its type a declaration goes on with a name
static_qualifies : {kind : Qualifier} {ts : List Item} → Qualified kind ts → (outer : Stack) (p : Place) (x : ℕ) (w : List Item) → run (InStatic BehindStatic outer) (ts ++ at p (signs.Name x) ∷ w) ≡ run (InStatic (BehindStaticName kind) outer) w
unfolding run
static_qualifies (unqualified (int q)) outer p x w = refl
static_qualifies (unqualified (int32 q)) outer p x w = refl
static_qualifies (unqualified (signed q)) outer p x w = refl
static_qualifies (unqualified (signed_int q r)) outer p x w = refl
static_qualifies (unqualified (int_signed q r)) outer p x w = refl
static_qualifies (const_before t (int q)) outer p x w = refl
static_qualifies (const_before t (int32 q)) outer p x w = refl
static_qualifies (const_before t (signed q)) outer p x w = refl
static_qualifies (const_before t (signed_int q r)) outer p x w = refl
static_qualifies (const_before t (int_signed q r)) outer p x w = refl
static_qualifies (const_behind t (int q)) outer p x w = refl
static_qualifies (const_behind t (int32 q)) outer p x w = refl
static_qualifies (const_behind t (signed q)) outer p x w = refl
static_qualifies (const_behind t (signed_int q r)) outer p x w = refl
static_qualifies (const_behind t (int_signed q r)) outer p x w = refl

pub qualified_held : {kind : Qualifier} {ts : List Item} → Qualified kind ts → IsHeld kind
qualified_held (unqualified y) = tt
qualified_held (const_before p y) = tt
qualified_held (const_behind p y) = tt

pub vars_named : {kind : Qualifier} {gs : List Guard} {ts : List Item} {ds : List Declared} → Declares (Vars kind gs) ts ds → (w : List Item) → NameAhead (ts ++ w)
vars_named (last_var gs {vs = vs} (bare p x) o) w = (p, x, vs ++ w, refl)
vars_named (last_var gs {vs = vs} (positive p q r x n) o) w = (p, x, (at q signs.Equals ∷ at r (signs.Number n) ∷ vs) ++ w, refl)
vars_named (last_var gs {vs = vs} (negative p q r s x n) o) w = (p, x, (at q signs.Equals ∷ at r (signs.Oper Sub) ∷ at s (signs.Number n) ∷ vs) ++ w, refl)
vars_named (last_var gs {vs = vs} (counted p x last lt) o) w = (p, x, vs ++ w, refl)
vars_named (next_var z gs {vs = vs} (bare p x) v) w = (p, x, at z signs.Comma ∷ (vs ++ w), refl)
vars_named (next_var z gs {vs = vs} (positive p q r x n) v) w = (p, x, (at q signs.Equals ∷ at r (signs.Number n) ∷ at z signs.Comma ∷ vs) ++ w, refl)
vars_named (next_var z gs {vs = vs} (negative p q r s x n) v) w = (p, x, (at q signs.Equals ∷ at r (signs.Oper Sub) ∷ at s (signs.Number n) ∷ at z signs.Comma ∷ vs) ++ w, refl)
vars_named (next_var z gs {vs = vs} (counted p x last lt) v) w = (p, x, at z signs.Comma ∷ (vs ++ w), refl)

vars_read : (kind : Qualifier) → IsHeld kind → {gs : List Guard} {ts : List Item} {ds : List Declared} → Declares (Vars kind gs) ts ds → (outer : Stack) (w : List Item) → run (InStatic (BeforeStaticName kind) outer) (ts ++ w) ≡ run (Ready outer) w
unfolding run
vars_read Unqualified is (last_var gs (bare p x) (variables_end z)) outer w = refl
vars_read Unqualified is (last_var gs (positive p q r x n) (variables_end z)) outer w = refl
vars_read Unqualified is (last_var gs (negative p q r s x n) (variables_end z)) outer w = refl
vars_read Unqualified is (next_var z gs (bare p x) v) outer w = vars_read Unqualified is v outer w
vars_read Unqualified is (next_var z gs (positive p q r x n) v) outer w = vars_read Unqualified is v outer w
vars_read Unqualified is (next_var z gs (negative p q r s x n) v) outer w = vars_read Unqualified is v outer w
vars_read Constant is (last_var gs (positive p q r x n) (constants_end z)) outer w = refl
vars_read Constant is (last_var gs (negative p q r s x n) (constants_end z)) outer w = refl
vars_read Constant is (next_var z gs (positive p q r x n) v) outer w = vars_read Constant is v outer w
vars_read Constant is (next_var z gs (negative p q r s x n) v) outer w = vars_read Constant is v outer w
vars_read (Counted last) is v outer w = absurd is

pub static_read : {kind : Qualifier} {gs : List Guard} {ts us : List Item} {ds : List Declared} → Qualified kind ts → Declares (Vars kind gs) us ds → (outer : Stack) (w : List Item) → run (InStatic BehindStatic outer) (ts ++ (us ++ w)) ≡ run (Ready outer) w
unfolding run
static_read {kind} {ts = ts} {us} q v outer w =
    let h = vars_named v w in
    let named : run (InStatic (BeforeStaticName kind) outer) (at h.0 (signs.Name h.1) ∷ h.2) ≡ run (InStatic (BehindStaticName kind) outer) h.2 = refl in
    ap (λ (y : List Item). run (InStatic BehindStatic outer) (ts ++ y)) h.3
    ∙ static_qualifies q outer h.0 h.1 h.2
    ∙ sym named
    ∙ ap (run (InStatic (BeforeStaticName kind) outer)) (sym h.3)
    ∙ vars_read kind (qualified_held q) v outer w
