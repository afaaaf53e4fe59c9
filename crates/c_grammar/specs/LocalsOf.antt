-- The variables that `main` declares by the grammar (ISO/IEC 9899:2011, 6.7.6 and 6.8.2), with the guards of the groups around them.
use Rattle.std.specs.Prelude.{◌≡◌, ℕ, pos, List, [], ◌∷◌, ◌++◌}
use Rattle.c_tree.specs.declared.lists.Guard.{Guard}
use Rattle.c_tree.specs.declared.lists.Declared.{Declared}
use Rattle.c_tree.specs.Tree.{Code}
use Rattle.fam_outer.specs.declared.faults.Place.{Place}
use Rattle.c_grammar.specs.declared.items.Item.{Item}
use Rattle.c_grammar.specs.Groups.{guarded_by}
use Rattle.c_grammar.specs.Statics.{statics_by}
use Rattle.c_grammar.specs.Grammar.{Qualifier, Unqualified, Constant, Counted, LocalDeclarator, uninitialised, initialised, from_call, Shape, Writes, more, choice, local, static_local, last_local, next_local, otherwise, elif, block, while, for, declaring_for, if_then, if_else, do_while, with_true, with_false, declared, Body, body, Main, main, File, Forms, file}

abbrev pub local_name : {kind : Qualifier} {ts : List Item} {c : Code} → LocalDeclarator kind ts c → ℕ
local_name (uninitialised p x) = x
local_name (initialised p q x e) = x
local_name (from_call p q r s t x f) = x

-- a variable of `main` that is not static starts at 0, which nothing reads before its declaration
abbrev pub as_declared : {kind : Qualifier} {ts : List Item} {c : Code} → List Guard → LocalDeclarator kind ts c → Declared
as_declared gs d = declared (local_name d) (pos 0) gs

-- the variables that statements within guards declare, in the order of the text
abbrev pub locals_in : {shape : Shape} {ts : List Item} {c : Code} → List Guard → Writes shape ts c → List Declared
locals_in gs (more s l) = locals_in gs s ++ locals_in gs l
locals_in gs (choice p n s t l) = locals_in (with_true gs n) s ++ (locals_in (with_false gs n) t ++ locals_in gs l)
locals_in gs (local q d l) = locals_in gs d ++ locals_in gs l
locals_in gs (static_local p {ds = ds} q v l) = guarded_by gs ds ++ locals_in gs l
locals_in gs (last_local p d) = as_declared gs d ∷ []
locals_in gs (next_local p d l) = as_declared gs d ∷ locals_in gs l
locals_in gs (otherwise p q s) = locals_in gs s
locals_in gs (elif p n s t) = locals_in (with_true gs n) s ++ locals_in (with_false gs n) t
locals_in gs (block p q s) = locals_in gs s
locals_in gs (while p q r e s) = locals_in gs s
locals_in gs (for p q r z a t b s) = locals_in gs s
locals_in gs (declaring_for p q r k d t b s) = locals_in gs d ++ locals_in gs s
locals_in gs (if_then p q r e s) = locals_in gs s
locals_in gs (if_else p q r z e s t) = locals_in gs s ++ locals_in gs t
locals_in gs (do_while p q r z t s e) = locals_in gs s
locals_in gs _ = []

-- those of them that are static
abbrev pub statics_in : {shape : Shape} {ts : List Item} {c : Code} → List Guard → Writes shape ts c → List Declared
statics_in gs (more s l) = statics_in gs s ++ statics_in gs l
statics_in gs (choice p n s t l) = statics_in (with_true gs n) s ++ (statics_in (with_false gs n) t ++ statics_in gs l)
statics_in gs (local q d l) = statics_in gs l
statics_in gs (static_local p {ds = ds} q v l) = guarded_by gs ds ++ statics_in gs l
statics_in gs (otherwise p q s) = statics_in gs s
statics_in gs (elif p n s t) = statics_in (with_true gs n) s ++ statics_in (with_false gs n) t
statics_in gs (block p q s) = statics_in gs s
statics_in gs (while p q r e s) = statics_in gs s
statics_in gs (for p q r z a t b s) = statics_in gs s
statics_in gs (declaring_for p q r k d t b s) = statics_in gs s
statics_in gs (if_then p q r e s) = statics_in gs s
statics_in gs (if_else p q r z e s t) = statics_in gs s ++ statics_in gs t
statics_in gs (do_while p q r z t s e) = statics_in gs s
statics_in gs _ = []

-- of a declaration, where it declares constants
abbrev pub of_kind : Qualifier → List Declared → List Declared
of_kind Unqualified ds = []
of_kind Constant ds = ds
of_kind (Counted last) ds = ds

-- those of them that are in scope behind the statements: their block is not left
abbrev pub scope_in : {shape : Shape} {ts : List Item} {c : Code} → List Guard → Writes shape ts c → List Declared
scope_in gs (more s l) = scope_in gs l
scope_in gs (choice p n s t l) = scope_in (with_true gs n) s ++ (scope_in (with_false gs n) t ++ scope_in gs l)
scope_in gs (local q d l) = locals_in gs d ++ scope_in gs l
scope_in gs (static_local p {ds = ds} q v l) = guarded_by gs ds ++ scope_in gs l
scope_in gs (otherwise p q s) = scope_in gs s
scope_in gs (elif p n s t) = scope_in (with_true gs n) s ++ scope_in (with_false gs n) t
scope_in gs _ = []

-- and the constants among these
abbrev pub constant_scope_in : {shape : Shape} {ts : List Item} {c : Code} → List Guard → Writes shape ts c → List Declared
constant_scope_in gs (more s l) = constant_scope_in gs l
constant_scope_in gs (choice p n s t l) = constant_scope_in (with_true gs n) s ++ (constant_scope_in (with_false gs n) t ++ constant_scope_in gs l)
constant_scope_in gs (local {kind = kind} q d l) = of_kind kind (locals_in gs d) ++ constant_scope_in gs l
constant_scope_in gs (static_local p {ds = ds} {kind = kind} q v l) = of_kind kind (guarded_by gs ds) ++ constant_scope_in gs l
constant_scope_in gs (otherwise p q s) = constant_scope_in gs s
constant_scope_in gs (elif p n s t) = constant_scope_in (with_true gs n) s ++ constant_scope_in (with_false gs n) t
constant_scope_in gs _ = []

abbrev pub locals_of_body : {us : List Item} {c : Code} {p : Place} → Body us c p → List Declared
locals_of_body (body p s e) = locals_in [] s

abbrev pub locals_of_main : {us : List Item} {c : Code} {p : Place} → Main us c p → List Declared
locals_of_main (main q r s t u y o b) = locals_of_body b

-- the variables that `main` declares
abbrev pub locals_of : {items : List Item} {f : File} → Forms items f → List Declared
locals_of (file d m) = locals_of_main m

abbrev pub statics_of_body : {us : List Item} {c : Code} {p : Place} → Body us c p → List Declared
statics_of_body (body p s e) = statics_in [] s

abbrev pub statics_of_main : {us : List Item} {c : Code} {p : Place} → Main us c p → List Declared
statics_of_main (main q r s t u y o b) = statics_of_body b

-- the static variables and constants that `main` declares
abbrev pub statics_of : {items : List Item} {f : File} → Forms items f → List Declared
statics_of (file d m) = statics_of_main m

-- they are those that are found item by item
abbrev pub StaticsAreOfTheGrammar : Type 0
StaticsAreOfTheGrammar = (items : List Item) (f : File) → (forms : Forms items f) → statics_by items ≡ statics_of forms

-- the variables and constants that a file declares by the grammar, in the order of the text
abbrev pub declared_in : {items : List Item} {f : File} → Forms items f → List Declared
declared_in {items} {f} forms = f.declared ++ locals_of forms
