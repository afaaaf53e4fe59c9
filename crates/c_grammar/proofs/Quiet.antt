-- Text with no `static`, no `main` and no group directive.
use Rattle.std.proofs.Common.{◌≡◌, ℕ, ℤ, Bool, true, false, List, [], ◌∷◌, ◌++◌, refl}
use Rattle.fam_outer.specs.declared.faults.Place.{Place}
use Rattle.c_tree.specs.declared.lists.Guard.{Guard}
use Rattle.c_tree.specs.declared.lists.Declared.{Declared}
use Rattle.c_tree.specs.Tree.{Term, Code}
use Rattle.c_grammar.specs.declared.items.Item.{Item}
use Rattle.c_grammar.specs.declared.items.Sign.{Sign}
use Rattle.c_grammar.specs.declared.items.Sign.TheVariants as signs
use Rattle.c_grammar.specs.Grammar.{at, Prefix, Positive, Negative, Inverse, prefix_sign, Expresses, number, name, group, prefix, loose, binary, Update, Sum, Difference, Product, Quotient, Remainder, update_sign, Count, Raise, Lower, count_sign, Callable, of_input, of_function, Changes, assignment, input_taken, compound_assignment, count_behind, count_before, Clause, no_clause, clause, Tests, no_test, test, Optional, absent, present, Typed, int, int32, signed, signed_int, int_signed, Qualifier, Qualified, unqualified, const_before, const_behind, LocalDeclarator, uninitialised, initialised, from_call, Locals, Writes, last_local, next_local, Begins, only_type, then_type, enumeration, Declarator, bare, positive, negative, counted, Ending, variables_end, constants_end, enumeration_end, comma_end, Defines, defined, negative_defined, enclosed, negative_enclosed, Vars, Declares, last_var, next_var}

abbrev pub is_quiet : Sign → Bool
is_quiet signs.Static = false
is_quiet signs.Main = false
is_quiet (signs.GroupIf n) = false
is_quiet (signs.GroupElif n) = false
is_quiet signs.GroupElse = false
is_quiet signs.GroupEnd = false
is_quiet _ = true

abbrev pub AreQuiet : List Item → Type 0
AreQuiet [] = Unit {0}
AreQuiet (x ∷ xs) = (is_quiet x.sign ≡ true) × AreQuiet xs

pub quiet_both : (ts us : List Item) → AreQuiet ts → AreQuiet us → AreQuiet (ts ++ us)
quiet_both [] us f g = g
quiet_both (x ∷ xs) us f g = (f.0, quiet_both xs us f.1 g)

-- ---- expressions and changes

prefix_quiet : (u : Prefix) → is_quiet (prefix_sign u) ≡ true
prefix_quiet Positive = refl
prefix_quiet Negative = refl
prefix_quiet Inverse = refl

pub expr_quiet : {k : ℕ} {ts : List Item} {e : Term} → Expresses k ts e → AreQuiet ts
expr_quiet (number p n) = (refl, tt)
expr_quiet (name p v) = (refl, tt)
expr_quiet (group p q {ts} s) = (refl, quiet_both ts (at q signs.Close ∷ []) (expr_quiet s) (refl, tt))
expr_quiet (prefix p u s) = (prefix_quiet u, expr_quiet s)
expr_quiet (loose s) = expr_quiet s
expr_quiet (binary p op {ts} {us} s t) = quiet_both ts (at p (signs.Oper op) ∷ us) (expr_quiet s) (refl, expr_quiet t)

update_quiet : (u : Update) → is_quiet (update_sign u) ≡ true
update_quiet Sum = refl
update_quiet Difference = refl
update_quiet Product = refl
update_quiet Quotient = refl
update_quiet Remainder = refl

count_quiet : (u : Count) → is_quiet (count_sign u) ≡ true
count_quiet Raise = refl
count_quiet Lower = refl

pub function_quiet : {f : Sign} → Callable f → is_quiet f ≡ true
function_quiet of_input = refl
function_quiet (of_function k) = refl

pub change_quiet : {ts : List Item} {c : Code} → Changes ts c → AreQuiet ts
change_quiet (assignment p q x e) = (refl, (refl, expr_quiet e))
change_quiet (input_taken p q r s t x g) = (refl, (refl, (function_quiet g, (refl, (refl, tt)))))
change_quiet (compound_assignment p q x u e) = (refl, (update_quiet u, expr_quiet e))
change_quiet (count_behind p q x u) = (refl, (count_quiet u, tt))
change_quiet (count_before p q x u) = (count_quiet u, (refl, tt))

pub clause_quiet : {ts : List Item} {c : Code} → Clause ts c → AreQuiet ts
clause_quiet no_clause = tt
clause_quiet (clause d) = change_quiet d

pub tests_quiet : {us : List Item} {t : Place} {e : Term} → Tests us t e → AreQuiet us
tests_quiet (no_test s) = (refl, tt)
tests_quiet (test s {x} {ts} e) = quiet_both (x ∷ ts) (at s signs.Semicolon ∷ []) (expr_quiet e) (refl, tt)

-- ---- declarations

pub optional_quiet : {s : Sign} {us : List Item} → is_quiet s ≡ true → Optional s us → AreQuiet us
optional_quiet f (absent s) = tt
optional_quiet f (present p s) = (f, tt)

pub type_quiet : {us : List Item} → Typed us → AreQuiet us
type_quiet (int p) = (refl, tt)
type_quiet (int32 p) = (refl, tt)
type_quiet (signed p) = (refl, tt)
type_quiet (signed_int p q) = (refl, (refl, tt))
type_quiet (int_signed p q) = (refl, (refl, tt))

pub qualified_quiet : {us : List Item} {kind : Qualifier} → Qualified kind us → AreQuiet us
qualified_quiet (unqualified y) = type_quiet y
qualified_quiet (const_before p y) = (refl, type_quiet y)
qualified_quiet (const_behind p {us} y) = quiet_both us (at p signs.Const ∷ []) (type_quiet y) (refl, tt)

local_quiet : {ts : List Item} {c : Code} {kind : Qualifier} → LocalDeclarator kind ts c → AreQuiet ts
local_quiet (uninitialised p x) = (refl, tt)
local_quiet (initialised p q x e) = (refl, (refl, expr_quiet e))
local_quiet (from_call p q r s t x g) = (refl, (refl, (function_quiet g, (refl, (refl, tt)))))

pub locals_quiet : {ts : List Item} {c : Code} {kind : Qualifier} → Writes (Locals kind) ts c → AreQuiet ts
locals_quiet (last_local p {ts} d) = quiet_both ts (at p signs.Semicolon ∷ []) (local_quiet d) (refl, tt)
locals_quiet (next_local p {ts} {us} d v) = quiet_both ts (at p signs.Comma ∷ us) (local_quiet d) (refl, locals_quiet v)

pub declarator_quiet : {us : List Item} {x : ℕ} {n : ℤ} {kind : Qualifier} → Declarator kind us x n → AreQuiet us
declarator_quiet (bare p x) = (refl, tt)
declarator_quiet (positive p q r x n) = (refl, (refl, (refl, tt)))
declarator_quiet (negative p q r s x n) = (refl, (refl, (refl, (refl, tt))))
declarator_quiet (counted p x last lt) = (refl, tt)

pub ending_quiet : {us : List Item} {kind : Qualifier} → Ending kind us → AreQuiet us
ending_quiet (variables_end p) = (refl, tt)
ending_quiet (constants_end p) = (refl, tt)
ending_quiet (enumeration_end last p q) = (refl, (refl, tt))
ending_quiet (comma_end last p q r) = (refl, (refl, (refl, tt)))

pub vars_quiet : {gs : List Guard} {us : List Item} {ds : List Declared} {kind : Qualifier} → Declares (Vars kind gs) us ds → AreQuiet us
vars_quiet (last_var gs {us} {vs} d o) = quiet_both us vs (declarator_quiet d) (ending_quiet o)
vars_quiet (next_var p gs {us} {vs} d v) = quiet_both us (at p signs.Comma ∷ vs) (declarator_quiet d) (refl, vars_quiet v)

pub extern_quiet : {us : List Item} {kind : Qualifier} → Begins signs.Extern kind us → AreQuiet us
extern_quiet (only_type s y) = qualified_quiet y
extern_quiet (then_type p s y) = (refl, qualified_quiet y)
extern_quiet (enumeration p q s) = (refl, (refl, tt))

pub definition_quiet : {us : List Item} {x : ℕ} {n : ℤ} → Defines us x n → AreQuiet us
definition_quiet (defined p q r x n) = (refl, (refl, (refl, tt)))
definition_quiet (negative_defined p q r s x n) = (refl, (refl, (refl, (refl, tt))))
definition_quiet (enclosed p q r s t x n) = (refl, (refl, (refl, (refl, (refl, tt)))))
definition_quiet (negative_enclosed p q r s t u x n) = (refl, (refl, (refl, (refl, (refl, (refl, tt))))))

-- what is behind the body of a `do`
pub redo_quiet : (q r s t : Place) {us : List Item} {e : Term} → Expresses 6 us e → AreQuiet (at q signs.While ∷ at r signs.Open ∷ (us ++ at s signs.Close ∷ at t signs.Semicolon ∷ []))
redo_quiet q r s t {us} e = (refl, (refl, quiet_both us (at s signs.Close ∷ at t signs.Semicolon ∷ []) (expr_quiet e) (refl, (refl, tt))))

pub return_quiet : (p q : Place) {ts : List Item} {e : Term} → Expresses 6 ts e → AreQuiet (at p signs.Return ∷ (ts ++ at q signs.Semicolon ∷ []))
return_quiet p q {ts} e = (refl, quiet_both ts (at q signs.Semicolon ∷ []) (expr_quiet e) (refl, tt))
