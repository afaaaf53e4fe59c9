-- What stands within statements: no statement ends in an expression, a change or a declarator, and their parentheses are closed.
use Rattle.std.proofs.Common.{◌≡◌, ℕ, ℤ, true, false, List, [], ◌∷◌, ◌++◌, Some, refl, sym, ap, ◌∙◌, append_assoc}
use Rattle.fam_outer.specs.declared.faults.Place.{Place}
use Rattle.c_tree.specs.declared.lists.Declared.{Declared}
use Rattle.c_tree.specs.declared.lists.Guard.{Guard}
use Rattle.c_tree.specs.Tree.{Term, Code}
use Rattle.c_grammar.specs.declared.items.Item.{Item}
use Rattle.c_grammar.specs.declared.items.Sign.{Sign}
use Rattle.c_grammar.specs.declared.items.Sign.TheVariants as signs
use Rattle.c_grammar.specs.Ahead.{IsNoElse, IsHeld}
use Rattle.c_grammar.specs.Grammar.{at, Prefix, Positive, Negative, Inverse, prefix_sign, Expresses, number, name, group, prefix, loose, binary, Update, Sum, Difference, Product, Quotient, Remainder, update_sign, Count, Raise, Lower, count_sign, Callable, of_input, of_function, Changes, assignment, input_taken, compound_assignment, count_behind, count_before, Clause, no_clause, clause, Tests, no_test, test, Typed, int, int32, signed, signed_int, int_signed, Qualifier, Unqualified, Constant, Counted, behind, Qualified, unqualified, const_before, const_behind, LocalDeclarator, uninitialised, initialised, from_call, Locals, Writes, last_local, next_local, Declarator, bare, positive, negative, counted, Ending, variables_end, constants_end, enumeration_end, comma_end, Vars, Declares, last_var, next_var}
use Rattle.for_blocks.specs.Blocks.{parentheses_behind, begins_type}
use Rattle.for_blocks.proofs.Texts.{shapes, stops, holds, none_in, IsCalm, calm_none, calm_both, calm_behind, calm_in_parentheses, calmer}
use Rattle.for_blocks.proofs.Pieces.{Starts, DeclaresNone}

-- ---- expressions

-- a sign that ends no statement, and is no parenthesis
abbrev pub IsQuiet : Sign → Type 0
IsQuiet s = (stops s ≡ false) × ((n : ℕ) → parentheses_behind n s ≡ Some n)

pub calm_item : {ts : List Item} (x : Item) → IsQuiet x.sign → IsCalm stops ts → IsCalm stops (x ∷ ts)
calm_item x h a = calm_behind x h.0 h.1 a

prefix_quiet : (u : Prefix) → IsQuiet (prefix_sign u)
prefix_quiet Positive = (refl, λ n. refl)
prefix_quiet Negative = (refl, λ n. refl)
prefix_quiet Inverse = (refl, λ n. refl)

pub expression_calm : {k : ℕ} {ts : List Item} {e : Term} → Expresses k ts e → IsCalm stops ts
expression_calm (number p n) = calm_item (at p (signs.Number n)) (refl, λ m. refl) (calm_none stops)
expression_calm (name p x) = calm_item (at p (signs.Name x)) (refl, λ m. refl) (calm_none stops)
expression_calm (group p q s) = calm_in_parentheses p q refl refl (expression_calm s)
expression_calm (prefix p u s) = calm_item (at p (prefix_sign u)) (prefix_quiet u) (expression_calm s)
expression_calm (loose s) = expression_calm s
expression_calm (binary p op s t) = calm_both (expression_calm s) (calm_item (at p (signs.Oper op)) (refl, λ m. refl) (expression_calm t))

-- ---- changes, and the parentheses of a `for`

pub function_quiet : {f : Sign} → Callable f → IsQuiet f
function_quiet of_input = (refl, λ n. refl)
function_quiet (of_function k) = (refl, λ n. refl)

update_quiet : (u : Update) → IsQuiet (update_sign u)
update_quiet Sum = (refl, λ n. refl)
update_quiet Difference = (refl, λ n. refl)
update_quiet Product = (refl, λ n. refl)
update_quiet Quotient = (refl, λ n. refl)
update_quiet Remainder = (refl, λ n. refl)

count_quiet : (u : Count) → IsQuiet (count_sign u)
count_quiet Raise = (refl, λ n. refl)
count_quiet Lower = (refl, λ n. refl)

-- a call of a function outside
pub call_calm : {f : Sign} (p q r : Place) → Callable f → IsCalm stops (at p f ∷ at q signs.Open ∷ at r signs.Close ∷ [])
call_calm {f} p q r g = calm_item (at p f) (function_quiet g) (calm_in_parentheses {ts = []} q r refl refl (calm_none stops))

named : {ts : List Item} (p : Place) (x : ℕ) → IsCalm stops ts → IsCalm stops (at p (signs.Name x) ∷ ts)
named p x a = calm_item (at p (signs.Name x)) (refl, λ n. refl) a

equated : {ts : List Item} (p : Place) → IsCalm stops ts → IsCalm stops (at p signs.Equals ∷ ts)
equated p a = calm_item (at p signs.Equals) (refl, λ n. refl) a

pub change_calm : {ts : List Item} {c : Code} → Changes ts c → IsCalm stops ts
change_calm (assignment p q x e) = named p x (equated q (expression_calm e))
change_calm (input_taken p q r s t x g) = named p x (equated q (call_calm r s t g))
change_calm (compound_assignment p q x u e) = named p x (calm_item (at q (update_sign u)) (update_quiet u) (expression_calm e))
change_calm (count_behind p q x u) = named p x (calm_item (at q (count_sign u)) (count_quiet u) (calm_none stops))
change_calm (count_before p q x u) = calm_item (at p (count_sign u)) (count_quiet u) (named q x (calm_none stops))

pub clause_calm : {ts : List Item} {c : Code} → Clause ts c → IsCalm stops ts
clause_calm no_clause = calm_none stops
clause_calm (clause d) = change_calm d

pub semicolon_calm : {ts : List Item} (r : Place) → IsCalm shapes ts → IsCalm shapes (at r signs.Semicolon ∷ ts)
semicolon_calm r a = calm_behind (at r signs.Semicolon) refl (λ n. refl) a

pub test_calm : {ts : List Item} {p : Place} {e : Term} → Tests ts p e → IsCalm shapes ts
test_calm (no_test s) = semicolon_calm s (calm_none shapes)
test_calm (test s e) = calm_both (calmer (expression_calm e)) (semicolon_calm s (calm_none shapes))

count_no_type : (u : Count) → begins_type (count_sign u) ≡ false
count_no_type Raise = refl
count_no_type Lower = refl

-- a `for` with a change, or with nothing, before its first semicolon declares no variables
pub clause_declares_none : {ts : List Item} {c : Code} (p q r s : Place) (us : List Item) → Clause ts c → DeclaresNone p q s signs.For (ts ++ at r signs.Semicolon ∷ us)
clause_declares_none p q r s us no_clause = λ w. refl
clause_declares_none p q r s us (clause (assignment a b x e)) = λ w. refl
clause_declares_none p q r s us (clause (input_taken a b c d e x g)) = λ w. refl
clause_declares_none p q r s us (clause (compound_assignment a b x u e)) = λ w. refl
clause_declares_none p q r s us (clause (count_behind a b x u)) = λ w. refl
clause_declares_none p q r s us (clause (count_before a b x u)) = λ w. count_no_type u

-- ---- declarations in `main`

typed_calm : {us : List Item} → Typed us → IsCalm stops us
typed_calm (int p) = calm_item (at p signs.Int) (refl, λ n. refl) (calm_none stops)
typed_calm (int32 p) = calm_item (at p signs.Int32) (refl, λ n. refl) (calm_none stops)
typed_calm (signed p) = calm_item (at p signs.Signed) (refl, λ n. refl) (calm_none stops)
typed_calm (signed_int p q) = calm_item (at p signs.Signed) (refl, λ n. refl) (calm_item (at q signs.Int) (refl, λ n. refl) (calm_none stops))
typed_calm (int_signed p q) = calm_item (at p signs.Int) (refl, λ n. refl) (calm_item (at q signs.Signed) (refl, λ n. refl) (calm_none stops))

pub qualified_calm : {us : List Item} {kind : Qualifier} → Qualified kind us → IsCalm stops us
qualified_calm (unqualified y) = typed_calm y
qualified_calm (const_before p y) = calm_item (at p signs.Const) (refl, λ n. refl) (typed_calm y)
qualified_calm (const_behind p y) = calm_both (typed_calm y) (calm_item (at p signs.Const) (refl, λ n. refl) (calm_none stops))

-- it begins with the first word of a declaration
pub record BeginsType (us : List Item) : Type 0 where
  pub first : Item
  pub rest : List Item
  pub is : us ≡ first ∷ rest
  pub is_type : begins_type first.sign ≡ true

typed_begins : {us : List Item} → Typed us → BeginsType us
typed_begins (int p) = record { first = at p signs.Int; rest = []; is = refl; is_type = refl }
typed_begins (int32 p) = record { first = at p signs.Int32; rest = []; is = refl; is_type = refl }
typed_begins (signed p) = record { first = at p signs.Signed; rest = []; is = refl; is_type = refl }
typed_begins (signed_int p q) = record { first = at p signs.Signed; rest = at q signs.Int ∷ []; is = refl; is_type = refl }
typed_begins (int_signed p q) = record { first = at p signs.Int; rest = at q signs.Signed ∷ []; is = refl; is_type = refl }

pub qualified_begins : {us : List Item} {kind : Qualifier} → Qualified kind us → BeginsType us
qualified_begins (unqualified y) = typed_begins y
qualified_begins (const_before p {us} y) = record { first = at p signs.Const; rest = us; is = refl; is_type = refl }
qualified_begins (const_behind p y) =
    let t = typed_begins y in
    record { first = t.first; rest = t.rest ++ at p signs.Const ∷ []; is = ap (λ (z : List Item). z ++ at p signs.Const ∷ []) t.is; is_type = t.is_type }

type_no_else : (s : Sign) → begins_type s ≡ true → IsNoElse s
type_no_else signs.Else h = absurd cc
type_no_else _ h = tt

pub qualified_starts : {us : List Item} {kind : Qualifier} → Qualified kind us → Starts us
qualified_starts q = let t = qualified_begins q in rw t.is (type_no_else t.first.sign t.is_type)

declarator_calm : {ts : List Item} {c : Code} {kind : Qualifier} → LocalDeclarator kind ts c → IsCalm stops ts
declarator_calm (uninitialised p x) = named p x (calm_none stops)
declarator_calm (initialised p q x e) = named p x (equated q (expression_calm e))
declarator_calm (from_call p q r s t x g) = named p x (equated q (call_calm r s t g))

-- the declarators, and the semicolon behind the last
pub record EndsDeclaration (us : List Item) : Type 0 where
  pub text : List Item
  pub end : Place
  pub calm : IsCalm stops text
  pub is : us ≡ text ++ at end signs.Semicolon ∷ []

pub locals_end : {us : List Item} {c : Code} {kind : Qualifier} → Writes (Locals kind) us c → EndsDeclaration us
locals_end (last_local p {ts} d) = record { text = ts; end = p; calm = declarator_calm d; is = refl }
locals_end (next_local p {ts} {us} d v) =
    let x = locals_end v in
    record {
      text = ts ++ at p signs.Comma ∷ x.text;
      end = x.end;
      calm = calm_both (declarator_calm d) (calm_item (at p signs.Comma) (refl, λ n. refl) x.calm);
      is = ap (λ (y : List Item). ts ++ at p signs.Comma ∷ y) x.is ∙ sym (append_assoc ts (at p signs.Comma ∷ x.text) (at x.end signs.Semicolon ∷ []));
    }

-- constants have declarators that variables may have, too
declarator_any : {ts : List Item} {c : Code} (kind : Qualifier) → LocalDeclarator Constant ts c → LocalDeclarator kind ts c
declarator_any kind (initialised p q x e) = initialised p q x e
declarator_any kind (from_call p q r s t x g) = from_call p q r s t x g

pub locals_any : {ts : List Item} {c : Code} (kind : Qualifier) → Writes (Locals Constant) ts c → Writes (Locals kind) ts c
locals_any kind (last_local p d) = last_local p (declarator_any kind d)
locals_any kind (next_local p d v) = next_local p (declarator_any kind d) (locals_any kind v)

-- ---- static declarations

pub qualified_held : {us : List Item} {kind : Qualifier} → Qualified kind us → IsHeld kind
qualified_held (unqualified y) = tt
qualified_held (const_before p y) = tt
qualified_held (const_behind p y) = tt

behind_held : (kind : Qualifier) (n : ℤ) → IsHeld kind → IsHeld (behind kind n)
behind_held Unqualified n h = tt
behind_held Constant n h = tt
behind_held (Counted last) n h = absurd h

declared_free : {us : List Item} {x : ℕ} {n : ℤ} {kind : Qualifier} → Declarator kind us x n → holds shapes us ≡ false
declared_free (bare p x) = refl
declared_free (positive p q r x n) = refl
declared_free (negative p q r s x n) = refl
declared_free (counted p x last lt) = refl

ending_free : {us : List Item} {kind : Qualifier} → Ending kind us → IsHeld kind → holds shapes us ≡ false
ending_free (variables_end p) h = refl
ending_free (constants_end p) h = refl
ending_free (enumeration_end last p q) h = absurd h
ending_free (comma_end last p q r) h = absurd h

pub variables_free : {gs : List Guard} {us : List Item} {ds : List Declared} {kind : Qualifier} → Declares (Vars kind gs) us ds → IsHeld kind → holds shapes us ≡ false
variables_free (last_var gs {us} {vs} d o) h = none_in shapes us vs (declared_free d) (ending_free o h)
variables_free (next_var p gs {us} {vs} {x} {n} {ds} {kind} d v) h = none_in shapes us (at p signs.Comma ∷ vs) (declared_free d) (variables_free v (behind_held kind n h))
