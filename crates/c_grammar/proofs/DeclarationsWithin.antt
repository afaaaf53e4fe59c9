-- What is spelled within the limits is read within them: declarations in `main`.
use Rattle.std.proofs.Common.{◌≡◌, ℕ, ◌+◌, List, [], ◌∷◌, ◌++◌, Some, refl, sym, ap, ◌∙◌, append_assoc, arith}
use Rattle.fam_outer.specs.declared.faults.Place.{Place}
use Rattle.c_tree.specs.Tree.{Code, Done, Assign, Input}
use Rattle.c_tree.specs.declared.lists.Guard.{Guard}
use Rattle.c_tree.specs.declared.lists.Declared.{Declared}
use Rattle.c_grammar.specs.declared.items.Sign.{Sign}
use Rattle.c_grammar.specs.declared.items.Sign.TheVariants as signs
use Rattle.c_grammar.specs.declared.items.Item.{Item}
use Rattle.c_grammar.specs.Ahead.{IsList, IsHeld}
use Rattle.c_grammar.specs.Grammar.{at, Typed, int, int32, signed, signed_int, int_signed, Qualifier, Unqualified, Constant, Counted, Qualified, unqualified, const_before, const_behind, Callable, Declares, Vars, last_var, next_var, bare, positive, negative, variables_end, constants_end}
use Rattle.c_grammar.specs.Machine.{Stack, Scope, ListScope, ForScope, ToInitialise, OfLocal, TypeWords, OneInt, OneSigned, WholeType, ReadingState, Ready, LocalConst, LocalType, NextLocal, LocalNamed, Wants, Has, StartComes, Finishing, with_declarator, behind_declaration, initialising, step, InStatic, BehindStatic, BeforeStaticName, BehindStaticName}
use Rattle.c_grammar.specs.Deep.{guarded}
use Rattle.c_grammar.specs.Within.{operators_in, LocalWithin, uninitialised, initialised, from_call}
use Rattle.c_grammar.proofs.CompleteDeclarations.{in_list_is, NameAhead, qualified_held, vars_named}
use Rattle.c_grammar.proofs.Files.{words_of}
use Rattle.c_grammar.proofs.CompleteWithin.{takes}
use Rattle.c_grammar.proofs.TokensWithin.{behind_counts, full_in, token, last_token, input_in, parentheses_in}

-- a declaration in this scope may begin in this state: `const` or the first word of its type comes
pub record OpensWithin (state : ReadingState) (scope : Scope) : Type 0 where
  pub const : (m : ℕ) (p : Place) (w : List Item) → guarded state m (at p signs.Const ∷ w) ≡ guarded (LocalConst scope) 0 w
  pub int : (m : ℕ) (p : Place) (w : List Item) → guarded state m (at p signs.Int ∷ w) ≡ guarded (LocalType Unqualified OneInt scope) 0 w
  pub int32 : (m : ℕ) (p : Place) (w : List Item) → guarded state m (at p signs.Int32 ∷ w) ≡ guarded (LocalType Unqualified WholeType scope) 0 w
  pub signed : (m : ℕ) (p : Place) (w : List Item) → guarded state m (at p signs.Signed ∷ w) ≡ guarded (LocalType Unqualified OneSigned scope) 0 w

pub list_opens_in : (outer : Stack) → IsList outer → OpensWithin (Ready outer) (ListScope outer)
list_opens_in outer is = record {
  const = λ m p w. token (Ready outer) (LocalConst (ListScope outer)) p signs.Const m w (in_list_is outer (LocalConst (ListScope outer)) is) refl refl;
  int = λ m p w. token (Ready outer) (LocalType Unqualified OneInt (ListScope outer)) p signs.Int m w (in_list_is outer (LocalType Unqualified OneInt (ListScope outer)) is) refl refl;
  int32 = λ m p w. token (Ready outer) (LocalType Unqualified WholeType (ListScope outer)) p signs.Int32 m w (in_list_is outer (LocalType Unqualified WholeType (ListScope outer)) is) refl refl;
  signed = λ m p w. token (Ready outer) (LocalType Unqualified OneSigned (ListScope outer)) p signs.Signed m w (in_list_is outer (LocalType Unqualified OneSigned (ListScope outer)) is) refl refl;
}

pub for_opens_in : (o : Place) (outer : Stack) → OpensWithin (StartComes o outer) (ForScope o Done outer)
for_opens_in o outer = record {
  const = λ m p w. token (StartComes o outer) (LocalConst (ForScope o Done outer)) p signs.Const m w refl refl refl;
  int = λ m p w. token (StartComes o outer) (LocalType Unqualified OneInt (ForScope o Done outer)) p signs.Int m w refl refl refl;
  int32 = λ m p w. token (StartComes o outer) (LocalType Unqualified WholeType (ForScope o Done outer)) p signs.Int32 m w refl refl refl;
  signed = λ m p w. token (StartComes o outer) (LocalType Unqualified OneSigned (ForScope o Done outer)) p signs.Signed m w refl refl refl;
}

-- the words of the type of a declaration
type_in : {state : ReadingState} {us : List Item} (scope : Scope) → OpensWithin state scope → (m : ℕ) (w : List Item) → (y : Typed us) → guarded state m (us ++ w) ≡ guarded (LocalType Unqualified (words_of y) scope) 0 w
unfolding words_of
type_in scope o m w (int p) = o.int m p w
type_in scope o m w (int32 p) = o.int32 m p w
type_in scope o m w (signed p) = o.signed m p w
type_in scope o m w (signed_int p q) = o.signed m p (at q signs.Int ∷ w) ∙ token (LocalType Unqualified OneSigned scope) (LocalType Unqualified WholeType scope) q signs.Int 0 w refl refl refl
type_in scope o m w (int_signed p q) = o.int m p (at q signs.Signed ∷ w) ∙ token (LocalType Unqualified OneInt scope) (LocalType Unqualified WholeType scope) q signs.Signed 0 w refl refl refl

const_type_in : {us : List Item} (scope : Scope) (w : List Item) (y : Typed us) → guarded (LocalConst scope) 0 (us ++ w) ≡ guarded (LocalType Constant (words_of y) scope) 0 w
unfolding words_of
const_type_in scope w (int p) = token (LocalConst scope) (LocalType Constant OneInt scope) p signs.Int 0 w refl refl refl
const_type_in scope w (int32 p) = token (LocalConst scope) (LocalType Constant WholeType scope) p signs.Int32 0 w refl refl refl
const_type_in scope w (signed p) = token (LocalConst scope) (LocalType Constant OneSigned scope) p signs.Signed 0 w refl refl refl
const_type_in scope w (signed_int p q) = token (LocalConst scope) (LocalType Constant OneSigned scope) p signs.Signed 0 (at q signs.Int ∷ w) refl refl refl ∙ token (LocalType Constant OneSigned scope) (LocalType Constant WholeType scope) q signs.Int 0 w refl refl refl
const_type_in scope w (int_signed p q) = token (LocalConst scope) (LocalType Constant OneInt scope) p signs.Int 0 (at q signs.Signed ∷ w) refl refl refl ∙ token (LocalType Constant OneInt scope) (LocalType Constant WholeType scope) q signs.Signed 0 w refl refl refl

name_in : (kind : Qualifier) (words : TypeWords) (scope : Scope) (p : Place) (x : ℕ) → step (LocalType kind words scope) p (signs.Name x) ≡ Some (LocalNamed (initialising scope kind) p x scope)
name_in Unqualified words scope p x = refl
name_in Constant words scope p x = refl
name_in (Counted last) words scope p x = refl

behind_type_in : (kind : Qualifier) (words : TypeWords) (scope : Scope) (w : List Item) → NameAhead w → guarded (LocalType kind words scope) 0 w ≡ guarded (NextLocal kind scope) 0 w
behind_type_in kind words scope w h =
    let next : ReadingState = LocalNamed (initialising scope kind) h.0 h.1 scope in
    ap (guarded (LocalType kind words scope) 0) h.3
    ∙ token (LocalType kind words scope) next h.0 (signs.Name h.1) 0 h.2 (name_in kind words scope h.0 h.1) refl refl
    ∙ sym (token (NextLocal kind scope) next h.0 (signs.Name h.1) 0 h.2 refl refl refl)
    ∙ ap (guarded (NextLocal kind scope) 0) (sym h.3)

pub qualified_in : {state : ReadingState} {us : List Item} {kind : Qualifier} → Qualified kind us → (scope : Scope) → OpensWithin state scope → (m : ℕ) (w : List Item) → NameAhead w → guarded state m (us ++ w) ≡ guarded (NextLocal kind scope) 0 w
qualified_in (unqualified y) scope o m w h = type_in scope o m w y ∙ behind_type_in Unqualified (words_of y) scope w h
qualified_in (const_before p {us} y) scope o m w h = o.const m p (us ++ w) ∙ const_type_in scope w y ∙ behind_type_in Constant (words_of y) scope w h
qualified_in {state = state} (const_behind p {us} y) scope o m w h =
    ap (guarded state m) (append_assoc us (at p signs.Const ∷ []) w)
    ∙ type_in scope o m (at p signs.Const ∷ w) y
    ∙ token (LocalType Unqualified (words_of y) scope) (NextLocal Constant scope) p signs.Const 0 w refl refl refl

-- its declarators, each of the kind that it has behind its name
pub local_name_in : (scope : Scope) (kind held : Qualifier) → initialising scope kind ≡ held → (p : Place) (x : ℕ) (w : List Item) → guarded (NextLocal kind scope) 0 (at p (signs.Name x) ∷ w) ≡ guarded (LocalNamed held p x scope) 0 w
local_name_in scope kind held is p x w = token (NextLocal kind scope) (LocalNamed held p x scope) p (signs.Name x) 0 w (ap (λ (k : Qualifier). Some (LocalNamed k p x scope)) is) refl refl

pub initialiser_in : (scope : Scope) (kind held : Qualifier) → initialising scope kind ≡ held → (p q : Place) (x : ℕ) (w : List Item) → guarded (NextLocal kind scope) 0 (at p (signs.Name x) ∷ at q signs.Equals ∷ w) ≡ guarded (Wants [] (ToInitialise held p x scope)) 0 w
initialiser_in scope kind held is p q x w = local_name_in scope kind held is p x (at q signs.Equals ∷ w) ∙ token (LocalNamed held p x scope) (Wants [] (ToInitialise held p x scope)) q signs.Equals 0 w refl refl refl

called_in : {f : Sign} (scope : Scope) (kind held : Qualifier) → initialising scope kind ≡ held → (p q r s t : Place) (x : ℕ) (w : List Item) → Callable f → guarded (NextLocal kind scope) 0 (at p (signs.Name x) ∷ at q signs.Equals ∷ at r f ∷ at s signs.Open ∷ at t signs.Close ∷ w) ≡ guarded (Finishing (OfLocal held scope (Input p x Done))) 0 w
called_in {f} scope kind held is p q r s t x w g =
    initialiser_in scope kind held is p q x (at r f ∷ at s signs.Open ∷ at t signs.Close ∷ w)
    ∙ input_in (ToInitialise held p x scope) (OfLocal held scope (Input p x Done)) r (at s signs.Open ∷ at t signs.Close ∷ w) refl g
    ∙ parentheses_in (OfLocal held scope (Input p x Done)) s t w

pub last_in : {held : Qualifier} {ts : List Item} {c : Code} → LocalWithin held ts c → (scope : Scope) (kind : Qualifier) → initialising scope kind ≡ held → (z : Place) (w : List Item) → guarded (NextLocal kind scope) 0 ((ts ++ at z signs.Semicolon ∷ []) ++ w) ≡ guarded (behind_declaration (with_declarator scope c)) 0 w
last_in (uninitialised p x) scope kind is z w =
    local_name_in scope kind Unqualified is p x (at z signs.Semicolon ∷ w)
    ∙ token (LocalNamed Unqualified p x scope) (behind_declaration (with_declarator scope (Input p x Done))) z signs.Semicolon 0 w refl refl refl
last_in (initialised p q x {kind = held} {ts} {e} s) scope kind is z w =
    let next : Scope = with_declarator scope (Assign p x e Done) in
    initialiser_in scope kind held is p q x ((ts ++ at z signs.Semicolon ∷ []) ++ w)
    ∙ full_in s (ToInitialise held p x scope) (at z signs.Semicolon) [] w tt
    ∙ takes (Has [] (ToInitialise held p x scope) e) (behind_declaration next) z signs.Semicolon (operators_in ts + 0) (operators_in ts + 0) w refl refl refl (omega (arith, s.short))
    ∙ behind_counts next (operators_in ts + 0) w
last_in (from_call p q r s t x {kind = held} g) scope kind is z w =
    called_in scope kind held is p q r s t x (at z signs.Semicolon ∷ w) g
    ∙ token (Finishing (OfLocal held scope (Input p x Done))) (behind_declaration (with_declarator scope (Input p x Done))) z signs.Semicolon 0 w refl refl refl

pub next_in : {held : Qualifier} {ts : List Item} {c : Code} → LocalWithin held ts c → (scope : Scope) (kind : Qualifier) → initialising scope kind ≡ held → (z : Place) (us w : List Item) → guarded (NextLocal kind scope) 0 ((ts ++ at z signs.Comma ∷ us) ++ w) ≡ guarded (NextLocal held (with_declarator scope c)) 0 (us ++ w)
next_in (uninitialised p x) scope kind is z us w =
    local_name_in scope kind Unqualified is p x (at z signs.Comma ∷ (us ++ w))
    ∙ token (LocalNamed Unqualified p x scope) (NextLocal Unqualified (with_declarator scope (Input p x Done))) z signs.Comma 0 (us ++ w) refl refl refl
next_in (initialised p q x {kind = held} {ts} {e} s) scope kind is z us w =
    initialiser_in scope kind held is p q x ((ts ++ at z signs.Comma ∷ us) ++ w)
    ∙ full_in s (ToInitialise held p x scope) (at z signs.Comma) us w tt
    ∙ last_token s (ToInitialise held p x scope) (NextLocal held (with_declarator scope (Assign p x e Done))) z signs.Comma (us ++ w) refl refl refl refl
next_in (from_call p q r s t x {kind = held} g) scope kind is z us w =
    called_in scope kind held is p q r s t x (at z signs.Comma ∷ (us ++ w)) g ∙ token (Finishing (OfLocal held scope (Input p x Done))) (NextLocal held (with_declarator scope (Input p x Done))) z signs.Comma 0 (us ++ w) refl refl refl

-- ---- static declarations in `main`

static_qualified_in : {kind : Qualifier} {ts : List Item} → Qualified kind ts → (outer : Stack) (p : Place) (x : ℕ) (w : List Item) → guarded (InStatic BehindStatic outer) 0 (ts ++ at p (signs.Name x) ∷ w) ≡ guarded (InStatic (BehindStaticName kind) outer) 0 w
unfolding guarded
static_qualified_in (unqualified (int q)) outer p x w = refl
static_qualified_in (unqualified (int32 q)) outer p x w = refl
static_qualified_in (unqualified (signed q)) outer p x w = refl
static_qualified_in (unqualified (signed_int q r)) outer p x w = refl
static_qualified_in (unqualified (int_signed q r)) outer p x w = refl
static_qualified_in (const_before t (int q)) outer p x w = refl
static_qualified_in (const_before t (int32 q)) outer p x w = refl
static_qualified_in (const_before t (signed q)) outer p x w = refl
static_qualified_in (const_before t (signed_int q r)) outer p x w = refl
static_qualified_in (const_before t (int_signed q r)) outer p x w = refl
static_qualified_in (const_behind t (int q)) outer p x w = refl
static_qualified_in (const_behind t (int32 q)) outer p x w = refl
static_qualified_in (const_behind t (signed q)) outer p x w = refl
static_qualified_in (const_behind t (signed_int q r)) outer p x w = refl
static_qualified_in (const_behind t (int_signed q r)) outer p x w = refl

static_vars_in : (kind : Qualifier) → IsHeld kind → {gs : List Guard} {ts : List Item} {ds : List Declared} → Declares (Vars kind gs) ts ds → (outer : Stack) (w : List Item) → guarded (InStatic (BeforeStaticName kind) outer) 0 (ts ++ w) ≡ guarded (Ready outer) 0 w
unfolding guarded
static_vars_in Unqualified is (last_var gs (bare p x) (variables_end z)) outer w = refl
static_vars_in Unqualified is (last_var gs (positive p q r x n) (variables_end z)) outer w = refl
static_vars_in Unqualified is (last_var gs (negative p q r s x n) (variables_end z)) outer w = refl
static_vars_in Unqualified is (next_var z gs (bare p x) v) outer w = static_vars_in Unqualified is v outer w
static_vars_in Unqualified is (next_var z gs (positive p q r x n) v) outer w = static_vars_in Unqualified is v outer w
static_vars_in Unqualified is (next_var z gs (negative p q r s x n) v) outer w = static_vars_in Unqualified is v outer w
static_vars_in Constant is (last_var gs (positive p q r x n) (constants_end z)) outer w = refl
static_vars_in Constant is (last_var gs (negative p q r s x n) (constants_end z)) outer w = refl
static_vars_in Constant is (next_var z gs (positive p q r x n) v) outer w = static_vars_in Constant is v outer w
static_vars_in Constant is (next_var z gs (negative p q r s x n) v) outer w = static_vars_in Constant is v outer w
static_vars_in (Counted last) is v outer w = absurd is

static_read_in : {kind : Qualifier} {gs : List Guard} {ts us : List Item} {ds : List Declared} → Qualified kind ts → Declares (Vars kind gs) us ds → (outer : Stack) (w : List Item) → guarded (InStatic BehindStatic outer) 0 (ts ++ (us ++ w)) ≡ guarded (Ready outer) 0 w
static_read_in {kind} {ts = ts} {us} q v outer w =
    let h = vars_named v w in
    ap (λ (y : List Item). guarded (InStatic BehindStatic outer) 0 (ts ++ y)) h.3
    ∙ static_qualified_in q outer h.0 h.1 h.2
    ∙ sym (token (InStatic (BeforeStaticName kind) outer) (InStatic (BehindStaticName kind) outer) h.0 (signs.Name h.1) 0 h.2 refl refl refl)
    ∙ ap (guarded (InStatic (BeforeStaticName kind) outer) 0) (sym h.3)
    ∙ static_vars_in kind (qualified_held q) v outer w

pub static_in : {kind : Qualifier} {gs : List Guard} {ts us : List Item} {ds : List Declared} (p : Place) → Qualified kind ts → Declares (Vars kind gs) us ds → (outer : Stack) → IsList outer → (m : ℕ) (vs w : List Item) → guarded (Ready outer) m (at p signs.Static ∷ ((ts ++ (us ++ vs)) ++ w)) ≡ guarded (Ready outer) 0 (vs ++ w)
static_in {ts = ts} {us} p q v outer is m vs w =
    let re : (ts ++ (us ++ vs)) ++ w ≡ ts ++ (us ++ (vs ++ w)) = append_assoc ts (us ++ vs) w ∙ ap (λ (x : List Item). ts ++ x) (append_assoc us vs w) in
    ap (λ (y : List Item). guarded (Ready outer) m (at p signs.Static ∷ y)) re
    ∙ token (Ready outer) (InStatic BehindStatic outer) p signs.Static m (ts ++ (us ++ (vs ++ w))) (in_list_is outer (InStatic BehindStatic outer) is) refl refl
    ∙ static_read_in q v outer (vs ++ w)
