-- The names that stand before `main` in declarations with `const` or `enum`, or behind `#define`, are the targets of the constants that the
-- grammar finds there.
use Rattle.std.proofs.Common.{◌≡◌, ℕ, Bool, true, cond, List, [], ◌∷◌, ◌++◌, refl, sym, ap, ◌∙◌, append_assoc}
use Rattle.std.specs.Prelude.{ℤ}
use Rattle.fam_outer.specs.declared.faults.Place.{Place}
use Rattle.cpp_groups.specs.declared.section.Section.{Section}
use Rattle.cpp_groups.specs.declared.section.Section.TheVariants.{Seeking}
use Rattle.cpp_groups.specs.Kept.{truth, next_group, all_kept}
use Rattle.c_tree.specs.declared.lists.Declared.{Declared}
use Rattle.c_tree.specs.declared.lists.Guard.{Guard}
use Rattle.c_tree.specs.declared.tree.Op.TheVariants.{Sub}
use Rattle.c_tree.specs.Project.{guards_hold}
use Rattle.c_grammar.specs.declared.constants.NameKind.{NameKind}
use Rattle.c_grammar.specs.declared.constants.NameKind.TheVariants as kinds
use Rattle.c_grammar.specs.declared.items.Item.{Item}
use Rattle.c_grammar.specs.declared.items.Sign.{Sign}
use Rattle.c_grammar.specs.declared.items.Sign.TheVariants as signs
use Rattle.c_grammar.specs.Constants.{constants_from}
use Rattle.c_grammar.specs.Grammar.{at, Callable, of_input, of_function, Optional, absent, present, Typed, int, int32, signed, signed_int, int_signed, Qualifier, Unqualified, Constant, Counted, Qualified, unqualified, const_before, const_behind, Begins, only_type, then_type, enumeration, Declarator, bare, positive, negative, counted, Ending, variables_end, constants_end, enumeration_end, comma_end, Defines, defined, negative_defined, enclosed, negative_enclosed, Part, Outer, Vars, Later, Declares, nothing, variables, prototype, void_prototype, definition, section, last_var, next_var, end_part, else_part, elif_part}
use Rattle.c_grammar.proofs.Guards.{seeks, else_matches, in_true, in_false}
use Rattle.c_grammar.specs.LocalsOf.{of_kind}
use Rattle.family_names.proofs.Holding.{kept_in}
use Rattle.c_parser.specs.Names.{targets}
use Rattle.reading_laws.specs.Declaring.{holding, constants_in}
use Rattle.reading_laws.proofs.OuterNames.{standing, IsSilent, silent, silent_both, static_silent, extern_silent, outer_silent, callable_silent, void_silent, both_held, definition_first, one_held, holds}

-- what the names of declarators are
abbrev pub kind_of : Qualifier → NameKind
kind_of Unqualified = kinds.Variable
kind_of Constant = kinds.Constant
kind_of (Counted last) = kinds.Constant

-- ---- items that are no names stay

type_all : {us : List Item} (kind : NameKind) (w : List Item) → Typed us → constants_from kind (us ++ w) ≡ us ++ constants_from kind w
type_all kind w (int p) = kept_in kind (at p signs.Int) w refl
type_all kind w (int32 p) = kept_in kind (at p signs.Int32) w refl
type_all kind w (signed p) = kept_in kind (at p signs.Signed) w refl
type_all kind w (signed_int p q) = kept_in kind (at p signs.Signed) (at q signs.Int ∷ w) refl ∙ ap (λ (y : List Item). at p signs.Signed ∷ y) (kept_in kind (at q signs.Int) w refl)
type_all kind w (int_signed p q) = kept_in kind (at p signs.Int) (at q signs.Signed ∷ w) refl ∙ ap (λ (y : List Item). at p signs.Int ∷ y) (kept_in kind (at q signs.Signed) w refl)

pub qualified_all : {us : List Item} {kind : Qualifier} (w : List Item) → Qualified kind us → constants_from kinds.Variable (us ++ w) ≡ us ++ constants_from (kind_of kind) w
qualified_all w (unqualified y) = type_all kinds.Variable w y
qualified_all w (const_before p y) = ap (λ (y : List Item). at p signs.Const ∷ y) (type_all kinds.Constant w y)
qualified_all w (const_behind p {us} y) =
    ap (constants_from kinds.Variable) (append_assoc us (at p signs.Const ∷ []) w) ∙ type_all kinds.Variable (at p signs.Const ∷ w) y ∙ sym (append_assoc us (at p signs.Const ∷ []) (constants_from kinds.Constant w))

static_all : {us : List Item} {kind : Qualifier} (w : List Item) → Begins signs.Static kind us → constants_from kinds.Variable (us ++ w) ≡ us ++ constants_from (kind_of kind) w
static_all w (only_type s y) = qualified_all w y
static_all w (then_type p s y) = ap (λ (y : List Item). at p signs.Static ∷ y) (qualified_all w y)
static_all w (enumeration p q s) = refl

extern_all : {us : List Item} (w : List Item) → Begins signs.Extern Unqualified us → constants_from kinds.Variable (us ++ w) ≡ us ++ constants_from kinds.Variable w
extern_all w (only_type s y) = qualified_all w y
extern_all w (then_type p s y) = ap (λ (y : List Item). at p signs.Extern ∷ y) (qualified_all w y)

void_all : {us : List Item} (w : List Item) → Optional signs.Void us → constants_from kinds.Variable (us ++ w) ≡ us ++ constants_from kinds.Variable w
void_all w (absent s) = refl
void_all w (present p s) = refl

outer_all : {us : List Item} (w : List Item) → Optional signs.Extern us → constants_from kinds.Variable (us ++ w) ≡ us ++ constants_from kinds.Variable w
outer_all w (absent _) = refl
outer_all w (present p _) = refl

callable_all : {f : Sign} (q r : Place) (w : List Item) → Callable f → constants_from kinds.Variable (at q f ∷ at r signs.Open ∷ w) ≡ at q f ∷ at r signs.Open ∷ constants_from kinds.Variable w
callable_all q r w of_input = refl
callable_all q r w (of_function k) = refl

-- ---- declarators: those of constants stay, and of variables no name does

constant_all : {us : List Item} {x : ℕ} {n : ℤ} {kind : Qualifier} (w : List Item) → Declarator kind us x n → constants_from kinds.Constant (us ++ w) ≡ us ++ constants_from kinds.Constant w
constant_all w (bare p x) = refl
constant_all w (positive p q r x n) = refl
constant_all w (negative p q r s x n) = refl
constant_all w (counted p x last lt) = refl

ending_all : {us : List Item} {kind : Qualifier} (w : List Item) → Ending kind us → constants_from kinds.Constant (us ++ w) ≡ us ++ constants_from kinds.Variable w
ending_all w (variables_end p) = refl
ending_all w (constants_end p) = refl
ending_all w (enumeration_end last p q) = refl
ending_all w (comma_end last p q r) = refl

pub constants_all : {gs : List Guard} {us : List Item} {ds : List Declared} {kind : Qualifier} (w : List Item) → Declares (Vars kind gs) us ds → constants_from kinds.Constant (us ++ w) ≡ us ++ constants_from kinds.Variable w
constants_all w (last_var gs {us} {vs} d o) =
    ap (constants_from kinds.Constant) (append_assoc us vs w) ∙ constant_all (vs ++ w) d ∙ ap (λ (y : List Item). us ++ y) (ending_all w o) ∙ sym (append_assoc us vs (constants_from kinds.Variable w))
constants_all w (next_var p gs {us} {vs} d v) =
    ap (constants_from kinds.Constant) (append_assoc us (at p signs.Comma ∷ vs) w) ∙ constant_all (at p signs.Comma ∷ (vs ++ w)) d
    ∙ ap (λ (y : List Item). us ++ at p signs.Comma ∷ y) (constants_all w v) ∙ sym (append_assoc us (at p signs.Comma ∷ vs) (constants_from kinds.Variable w))

definition_all : {us : List Item} {x : ℕ} {n : ℤ} (w : List Item) → Defines us x n → constants_from kinds.Variable (us ++ w) ≡ us ++ constants_from kinds.Variable w
definition_all w (defined p q r x n) = refl
definition_all w (negative_defined p q r s x n) = refl
definition_all w (enclosed p q r s t x n) = refl
definition_all w (negative_enclosed p q r s t u x n) = refl

-- the items that are left of these, which name nothing
record Leaves (us : List Item) : Type 0 where
  rest : List Item
  is_silent : IsSilent rest
  are : (w : List Item) → constants_from kinds.Variable (us ++ w) ≡ rest ++ constants_from kinds.Variable w

variable_left : {us : List Item} {x : ℕ} {n : ℤ} → Declarator Unqualified us x n → Leaves us
variable_left (bare p x) = record { rest = []; is_silent = tt; are = λ w. refl }
variable_left (positive p q r x n) = record { rest = at q signs.Equals ∷ at r (signs.Number n) ∷ []; is_silent = (refl, refl, (refl, refl, tt)); are = λ w. refl }
variable_left (negative p q r s x n) = record {
  rest = at q signs.Equals ∷ at r (signs.Oper Sub) ∷ at s (signs.Number n) ∷ [];
  is_silent = (refl, refl, (refl, refl, (refl, refl, tt)));
  are = λ w. refl;
}

variables_left : {gs : List Guard} {us : List Item} {ds : List Declared} → Declares (Vars Unqualified gs) us ds → Leaves us
variables_left (last_var gs {us} d (variables_end p)) = let l = variable_left d in record {
  rest = l.rest ++ at p signs.Semicolon ∷ [];
  is_silent = silent_both l.rest (at p signs.Semicolon ∷ []) l.is_silent (refl, refl, tt);
  are = λ w. ap (constants_from kinds.Variable) (append_assoc us (at p signs.Semicolon ∷ []) w) ∙ l.are (at p signs.Semicolon ∷ w) ∙ sym (append_assoc l.rest (at p signs.Semicolon ∷ []) (constants_from kinds.Variable w));
}
variables_left (next_var p gs {us} {vs} d v) = let l = variable_left d in let m = variables_left v in record {
  rest = l.rest ++ at p signs.Comma ∷ m.rest;
  is_silent = silent_both l.rest (at p signs.Comma ∷ m.rest) l.is_silent (refl, refl, m.is_silent);
  are = λ w. ap (constants_from kinds.Variable) (append_assoc us (at p signs.Comma ∷ vs) w) ∙ l.are (at p signs.Comma ∷ (vs ++ w))
      ∙ ap (λ (y : List Item). l.rest ++ at p signs.Comma ∷ y) (m.are w) ∙ sym (append_assoc l.rest (at p signs.Comma ∷ m.rest) (constants_from kinds.Variable w));
}

-- ---- declarations

-- the constants that stand from here on
abbrev pub constants_standing : List Bool → List Section → List Item → List ℕ
constants_standing t secs w = standing t secs (constants_from kinds.Variable w)

vars_hold : {gs : List Guard} {us : List Item} {ds : List Declared} (t : List Bool) (kind : Qualifier) (secs : List Section) → guards_hold t gs ≡ all_kept secs → (w : List Item) → Declares (Vars kind gs) us ds
    → standing t secs (constants_from (kind_of kind) (us ++ w)) ≡ targets (holding t (of_kind kind ds)) ++ constants_standing t secs w
vars_hold {us = us} t Unqualified secs h w v = let l = variables_left v in ap (standing t secs) (l.are w) ∙ silent t secs l.rest (constants_from kinds.Variable w) l.is_silent
vars_hold {us = us} t Constant secs h w v = ap (standing t secs) (constants_all w v) ∙ holds t v secs h (constants_from kinds.Variable w)
vars_hold {us = us} t (Counted last) secs h w v = ap (standing t secs) (constants_all w v) ∙ holds t v secs h (constants_from kinds.Variable w)

abbrev ConstantsHold : List Bool → Part → List Item → List Declared → Type 0
ConstantsHold t (Outer gs) us cs = (secs : List Section) → guards_hold t gs ≡ all_kept secs → (w : List Item) → constants_standing t secs (us ++ w) ≡ targets (holding t cs) ++ constants_standing t secs w
ConstantsHold t (Vars kind gs) us cs = Unit {0}
ConstantsHold t (Later gs) us cs = (sec : Section) (secs : List Section) → guards_hold t gs ≡ seeks sec secs → (w : List Item) → constants_standing t (sec ∷ secs) (us ++ w) ≡ targets (holding t cs) ++ constants_standing t secs w

pub constants_hold : {part : Part} {us : List Item} {ds : List Declared} (t : List Bool) → (d : Declares part us ds) → ConstantsHold t part us (constants_in d)
constants_hold t (nothing gs) = λ secs h w. refl
constants_hold t (variables gs {us} {vs} {ws} {ds} {es} {kind} o v d) = λ secs h w.
    ap (constants_standing t secs) (append_assoc us (vs ++ ws) w)
    ∙ ap (standing t secs) (static_all ((vs ++ ws) ++ w) o)
    ∙ silent t secs us (constants_from (kind_of kind) ((vs ++ ws) ++ w)) (static_silent o)
    ∙ ap (λ (y : List Item). standing t secs (constants_from (kind_of kind) y)) (append_assoc vs ws w)
    ∙ vars_hold t kind secs h (ws ++ w) v
    ∙ ap (λ (ns : List ℕ). targets (holding t (of_kind kind ds)) ++ ns) (constants_hold t d secs h w)
    ∙ both_held t (of_kind kind ds) (constants_in d) (constants_standing t secs w)
constants_hold t (prototype q r s z gs {f} {us} {vs} {ws} {es} o c v d) = λ secs h w.
    let tail : List Item = at s signs.Close ∷ at z signs.Semicolon ∷ ws in
    ap (constants_standing t secs) (append_assoc us (at q f ∷ at r signs.Open ∷ (vs ++ tail)) w)
    ∙ ap (standing t secs) (extern_all (at q f ∷ at r signs.Open ∷ ((vs ++ tail) ++ w)) o)
    ∙ silent t secs us (constants_from kinds.Variable (at q f ∷ at r signs.Open ∷ ((vs ++ tail) ++ w))) (extern_silent o)
    ∙ ap (standing t secs) (callable_all q r ((vs ++ tail) ++ w) c)
    ∙ silent t secs (at q f ∷ at r signs.Open ∷ []) (constants_from kinds.Variable ((vs ++ tail) ++ w)) (callable_silent q r c)
    ∙ ap (constants_standing t secs) (append_assoc vs tail w)
    ∙ ap (standing t secs) (void_all (tail ++ w) v)
    ∙ silent t secs vs (constants_from kinds.Variable (tail ++ w)) (void_silent v)
    ∙ silent t secs (at s signs.Close ∷ at z signs.Semicolon ∷ []) (constants_from kinds.Variable (ws ++ w)) (refl, refl, (refl, refl, tt))
    ∙ constants_hold t d secs h w
constants_hold t (void_prototype p q r s z k gs {us} {vs} {ws} {es} o v d) = λ secs h w.
    let tail : List Item = at s signs.Close ∷ at z signs.Semicolon ∷ ws in
    ap (constants_standing t secs) (append_assoc us (at p signs.Void ∷ at q (signs.Function k) ∷ at r signs.Open ∷ (vs ++ tail)) w)
    ∙ ap (standing t secs) (outer_all (at p signs.Void ∷ at q (signs.Function k) ∷ at r signs.Open ∷ ((vs ++ tail) ++ w)) o)
    ∙ silent t secs us (at p signs.Void ∷ at q (signs.Function k) ∷ at r signs.Open ∷ constants_from kinds.Variable ((vs ++ tail) ++ w)) (outer_silent o)
    ∙ silent t secs (at p signs.Void ∷ at q (signs.Function k) ∷ at r signs.Open ∷ []) (constants_from kinds.Variable ((vs ++ tail) ++ w)) (refl, refl, (refl, refl, (refl, refl, tt)))
    ∙ ap (constants_standing t secs) (append_assoc vs tail w)
    ∙ ap (standing t secs) (void_all (tail ++ w) v)
    ∙ silent t secs vs (constants_from kinds.Variable (tail ++ w)) (void_silent v)
    ∙ silent t secs (at s signs.Close ∷ at z signs.Semicolon ∷ []) (constants_from kinds.Variable (ws ++ w)) (refl, refl, (refl, refl, tt))
    ∙ constants_hold t d secs h w
constants_hold t (definition gs {us} {ws} {es} {x} {n} o d) = λ secs h w.
    ap (constants_standing t secs) (append_assoc us ws w)
    ∙ ap (standing t secs) (definition_all (ws ++ w) o)
    ∙ definition_first t secs (constants_from kinds.Variable (ws ++ w)) o
    ∙ ap (λ (ns : List ℕ). cond (all_kept secs) (x ∷ []) [] ++ ns) (constants_hold t d secs h w)
    ∙ one_held t x n gs (constants_in d) secs (constants_standing t secs w) h
constants_hold t (section p n gs {us} {vs} {ws} a b d) = λ secs h w.
    let inner = next_group Seeking (truth t n) in
    let is : (us ++ (vs ++ ws)) ++ w ≡ us ++ (vs ++ (ws ++ w)) = simp append_assoc in
    ap (constants_standing t (inner ∷ secs)) is
    ∙ constants_hold t a (inner ∷ secs) (in_true t gs n Seeking secs h) (vs ++ (ws ++ w))
    ∙ ap (λ (ns : List ℕ). targets (holding t (constants_in a)) ++ ns) (constants_hold t b inner secs (in_false t gs n Seeking secs h) (ws ++ w)
    ∙ ap (λ (ns : List ℕ). targets (holding t (constants_in b)) ++ ns) (constants_hold t d secs h w) ∙ both_held t (constants_in b) (constants_in d) (constants_standing t secs w))
    ∙ both_held t (constants_in a) (constants_in b ++ constants_in d) (constants_standing t secs w)
constants_hold t (last_var gs d o) = tt
constants_hold t (next_var p gs d v) = tt
constants_hold t (end_part p gs) = λ sec secs h w. refl
constants_hold t (else_part p q gs {us} d) = λ sec secs h w.
    ap (constants_standing t (next_group sec true ∷ secs)) (append_assoc us (at q signs.GroupEnd ∷ []) w)
    ∙ constants_hold t d (next_group sec true ∷ secs) (h ∙ else_matches sec secs) (at q signs.GroupEnd ∷ w)
constants_hold t (elif_part p n gs {us} {vs} a b) = λ sec secs h w.
    let inner = next_group sec (truth t n) in
    ap (constants_standing t (inner ∷ secs)) (append_assoc us vs w)
    ∙ constants_hold t a (inner ∷ secs) (in_true t gs n sec secs h) (vs ++ w)
    ∙ ap (λ (ns : List ℕ). targets (holding t (constants_in a)) ++ ns) (constants_hold t b inner secs (in_false t gs n sec secs h) w)
    ∙ both_held t (constants_in a) (constants_in b) (constants_standing t secs w)
