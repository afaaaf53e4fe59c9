-- What is spelled within the limits is read within them: declarations and files.
use Rattle.std.proofs.Common.{◌≡◌, ℕ, ℤ, neg_ℤ, suc, ◌+◌, ◌≤◌, true, false, List, [], ◌∷◌, ◌++◌, length, Some, Ok, refl, sym, ap, subst, ◌∙◌, append_assoc, arith}
use Rattle.std.proofs.lemmas.List.{append-nil, length-append}
use Rattle.fam_outer.specs.declared.faults.Place.{Place}
use Rattle.c_tree.specs.declared.tree.Op.TheVariants.{Sub}
use Rattle.c_tree.specs.declared.lists.Guard.{Guard}
use Rattle.c_tree.specs.declared.lists.Declared.{Declared}
use Rattle.c_tree.specs.Tree.{Code, Done}
use Rattle.c_grammar.specs.declared.items.Sign.{Sign}
use Rattle.c_grammar.specs.declared.items.Sign.TheVariants as signs
use Rattle.c_grammar.specs.declared.items.Item.{Item}
use Rattle.c_grammar.specs.Grammar.{at, Optional, absent, present, Typed, int, int32, signed, signed_int, int_signed, Qualifier, Unqualified, Constant, Counted, uncounted, behind, unqualified, const_before, const_behind, Begins, only_type, then_type, enumeration, Declarator, bare, positive, negative, counted, Ending, variables_end, constants_end, enumeration_end, comma_end, Defines, defined, negative_defined, enclosed, negative_enclosed, Callable, of_input, of_function, with_true, with_false, declared, Part, Outer, Vars, Later, Gap, Gaps, GapRest, File, file_of}
use Rattle.c_grammar.specs.Machine.{Tailing, Another, Final, Top, Sections, Outermost, InPart, InLast, guards_of, Aim, ToPrototype, ToMain, ReadingState, Outside, AfterStatic, AfterExtern, AfterConst, AfterEnum, AfterVoidType, AfterType, Leading, NoWord, StaticWord, ExternWord, ConstWord, TypeWords, OneInt, OneSigned, WholeType, first_word, Declaring, Bare, Starting, Negating, Started, Listing, Enumerated, listed, AfterDefine, Defining, NegativeDefining, Enclosing, NegativeEnclosing, Enclosed, Parameters, InParameters, AfterVoid, AfterParameters, Ready, Over, with_declared, step, start}
use Rattle.c_grammar.specs.Deep.{opens_more, tail_depth, guarded}
use Rattle.c_grammar.specs.Within.{DeclaresIn, nothing, variables, prototype, void_prototype, definition, section, last_var, next_var, end_part, else_part, elif_part, EmptyIn, no_more, empty_section, empty_end, empty_else, empty_elif, BodyWithin, body, MainWithin, main, FormsWithin, file}
use Rattle.c_grammar.proofs.Files.{NameFirst, IsName, before_type, words_of, vars_first, IsStop, bare_step, counted_step, listed_name}
use Rattle.c_grammar.proofs.Within.{declares_plain}
use Rattle.c_grammar.proofs.CompleteWithin.{same_within}
use Rattle.c_grammar.proofs.TokensWithin.{token, opens_in}
use Rattle.c_grammar.proofs.StatesWithin.{accepted_in}

-- ---- declarations

name_at : (w : List Item) (x : Item) (v : List Item) → w ≡ x ∷ v → NameFirst w → IsName x.sign
name_at w x v is h = subst NameFirst is h

-- one word of a type
word : (lead : Leading) (secs : Sections) (es : List Declared) (p : Place) (s : Sign) (words : TypeWords) (w : List Item) → first_word lead secs es s ≡ Some (AfterType lead words secs es) → step (before_type lead secs es) p s ≡ first_word lead secs es s → opens_more s ≡ false → guarded (before_type lead secs es) 0 (at p s ∷ w) ≡ guarded (AfterType lead words secs es) 0 w
word NoWord secs es p s words w is same plain = token (Outside secs es) (AfterType NoWord words secs es) p s 0 w (same ∙ is) plain refl
word StaticWord secs es p s words w is same plain = token (AfterStatic secs es) (AfterType StaticWord words secs es) p s 0 w (same ∙ is) plain refl
word ExternWord secs es p s words w is same plain = token (AfterExtern secs es) (AfterType ExternWord words secs es) p s 0 w (same ∙ is) plain refl
word ConstWord secs es p s words w is same plain = token (AfterConst secs es) (AfterType ConstWord words secs es) p s 0 w (same ∙ is) plain refl

int_word : (lead : Leading) (secs : Sections) (es : List Declared) (p : Place) (w : List Item) → guarded (before_type lead secs es) 0 (at p signs.Int ∷ w) ≡ guarded (AfterType lead OneInt secs es) 0 w
int_word NoWord secs es p w = word NoWord secs es p signs.Int OneInt w refl refl refl
int_word StaticWord secs es p w = word StaticWord secs es p signs.Int OneInt w refl refl refl
int_word ExternWord secs es p w = word ExternWord secs es p signs.Int OneInt w refl refl refl
int_word ConstWord secs es p w = word ConstWord secs es p signs.Int OneInt w refl refl refl

int32_word : (lead : Leading) (secs : Sections) (es : List Declared) (p : Place) (w : List Item) → guarded (before_type lead secs es) 0 (at p signs.Int32 ∷ w) ≡ guarded (AfterType lead WholeType secs es) 0 w
int32_word NoWord secs es p w = word NoWord secs es p signs.Int32 WholeType w refl refl refl
int32_word StaticWord secs es p w = word StaticWord secs es p signs.Int32 WholeType w refl refl refl
int32_word ExternWord secs es p w = word ExternWord secs es p signs.Int32 WholeType w refl refl refl
int32_word ConstWord secs es p w = word ConstWord secs es p signs.Int32 WholeType w refl refl refl

signed_word : (lead : Leading) (secs : Sections) (es : List Declared) (p : Place) (w : List Item) → guarded (before_type lead secs es) 0 (at p signs.Signed ∷ w) ≡ guarded (AfterType lead OneSigned secs es) 0 w
signed_word NoWord secs es p w = word NoWord secs es p signs.Signed OneSigned w refl refl refl
signed_word StaticWord secs es p w = word StaticWord secs es p signs.Signed OneSigned w refl refl refl
signed_word ExternWord secs es p w = word ExternWord secs es p signs.Signed OneSigned w refl refl refl
signed_word ConstWord secs es p w = word ConstWord secs es p signs.Signed OneSigned w refl refl refl

typed_then : {us : List Item} (lead : Leading) (secs : Sections) (es : List Declared) (w : List Item) (y : Typed us) → guarded (before_type lead secs es) 0 (us ++ w) ≡ guarded (AfterType lead (words_of y) secs es) 0 w
unfolding words_of
typed_then lead secs es w (int p) = int_word lead secs es p w
typed_then lead secs es w (int32 p) = int32_word lead secs es p w
typed_then lead secs es w (signed p) = signed_word lead secs es p w
typed_then lead secs es w (signed_int p q) = signed_word lead secs es p (at q signs.Int ∷ w) ∙ token (AfterType lead OneSigned secs es) (AfterType lead WholeType secs es) q signs.Int 0 w refl refl refl
typed_then lead secs es w (int_signed p q) = int_word lead secs es p (at q signs.Signed ∷ w) ∙ token (AfterType lead OneInt secs es) (AfterType lead WholeType secs es) q signs.Signed 0 w refl refl refl

name_same : (words : TypeWords) (secs : Sections) (es : List Declared) (p : Place) (s : Sign) → IsName s → step (AfterType NoWord words secs es) p s ≡ step (Declaring Unqualified secs es) p s
name_same words secs es p (signs.Name x) h = refl
name_same words secs es p _ h = absurd h

static_name_same : (words : TypeWords) (secs : Sections) (es : List Declared) (p : Place) (s : Sign) → IsName s → step (AfterType StaticWord words secs es) p s ≡ step (Declaring Unqualified secs es) p s
static_name_same words secs es p (signs.Name x) h = refl
static_name_same words secs es p _ h = absurd h

const_name_same : (words : TypeWords) (secs : Sections) (es : List Declared) (p : Place) (s : Sign) → IsName s → step (AfterType ConstWord words secs es) p s ≡ step (Declaring Constant secs es) p s
const_name_same words secs es p (signs.Name x) h = refl
const_name_same words secs es p _ h = absurd h

behind_type_then : (words : TypeWords) (secs : Sections) (es : List Declared) (w : List Item) → NameFirst w → guarded (AfterType NoWord words secs es) 0 w ≡ guarded (Declaring Unqualified secs es) 0 w
behind_type_then words secs es w h = same_within (AfterType NoWord words secs es) (Declaring Unqualified secs es) 0 refl refl refl refl w (λ x v is. name_same words secs es x.place x.sign (name_at w x v is h))

behind_static_then : (words : TypeWords) (secs : Sections) (es : List Declared) (w : List Item) → NameFirst w → guarded (AfterType StaticWord words secs es) 0 w ≡ guarded (Declaring Unqualified secs es) 0 w
behind_static_then words secs es w h = same_within (AfterType StaticWord words secs es) (Declaring Unqualified secs es) 0 refl refl refl refl w (λ x v is. static_name_same words secs es x.place x.sign (name_at w x v is h))

behind_const_then : (words : TypeWords) (secs : Sections) (es : List Declared) (w : List Item) → NameFirst w → guarded (AfterType ConstWord words secs es) 0 w ≡ guarded (Declaring Constant secs es) 0 w
behind_const_then words secs es w h = same_within (AfterType ConstWord words secs es) (Declaring Constant secs es) 0 refl refl refl refl w (λ x v is. const_name_same words secs es x.place x.sign (name_at w x v is h))

pub begins_then : {us : List Item} {kind : Qualifier} (secs : Sections) (es : List Declared) (w : List Item) → Begins signs.Static kind us → NameFirst w → guarded (Outside secs es) 0 (us ++ w) ≡ guarded (Declaring kind secs es) 0 w
begins_then secs es w (only_type s (unqualified y)) h = typed_then NoWord secs es w y ∙ behind_type_then (words_of y) secs es w h
begins_then secs es w (only_type s (const_before p {us} y)) h =
    token (Outside secs es) (AfterConst secs es) p signs.Const 0 (us ++ w) refl refl refl ∙ typed_then ConstWord secs es w y ∙ behind_const_then (words_of y) secs es w h
begins_then secs es w (only_type s (const_behind p {us} y)) h =
    ap (guarded (Outside secs es) 0) (append_assoc us (at p signs.Const ∷ []) w)
    ∙ typed_then NoWord secs es (at p signs.Const ∷ w) y
    ∙ token (AfterType NoWord (words_of y) secs es) (Declaring Constant secs es) p signs.Const 0 w refl refl refl
begins_then secs es w (then_type q s {us} (unqualified y)) h = token (Outside secs es) (AfterStatic secs es) q signs.Static 0 (us ++ w) refl refl refl ∙ typed_then StaticWord secs es w y ∙ behind_static_then (words_of y) secs es w h
begins_then secs es w (then_type q s (const_before p {us} y)) h =
    token (Outside secs es) (AfterStatic secs es) q signs.Static 0 (at p signs.Const ∷ (us ++ w)) refl refl refl
    ∙ token (AfterStatic secs es) (AfterConst secs es) p signs.Const 0 (us ++ w) refl refl refl
    ∙ typed_then ConstWord secs es w y
    ∙ behind_const_then (words_of y) secs es w h
begins_then secs es w (then_type q s (const_behind p {us} y)) h =
    token (Outside secs es) (AfterStatic secs es) q signs.Static 0 ((us ++ at p signs.Const ∷ []) ++ w) refl refl refl
    ∙ ap (guarded (AfterStatic secs es) 0) (append_assoc us (at p signs.Const ∷ []) w)
    ∙ typed_then StaticWord secs es (at p signs.Const ∷ w) y
    ∙ token (AfterType StaticWord (words_of y) secs es) (Declaring Constant secs es) p signs.Const 0 w refl refl refl
begins_then secs es w (enumeration p q s) h =
    token (Outside secs es) (AfterEnum secs es) p signs.Enum 0 (at q signs.LeftBrace ∷ w) refl refl refl ∙ opens_in (AfterEnum secs es) (Declaring uncounted secs es) q signs.LeftBrace 0 w refl refl (omega arith)

pub parameters : {us : List Item} (r s : Place) (aim : Aim) (w : List Item) → Optional signs.Void us → guarded (Parameters aim) 0 (at r signs.Open ∷ (us ++ at s signs.Close ∷ w)) ≡ guarded (AfterParameters aim) 0 w
parameters {us} r s aim w (absent t) = token (Parameters aim) (InParameters aim) r signs.Open 0 (at s signs.Close ∷ w) refl refl refl ∙ token (InParameters aim) (AfterParameters aim) s signs.Close 0 w refl refl refl
parameters {us} r s aim w (present q t) =
    token (Parameters aim) (InParameters aim) r signs.Open 0 (at q signs.Void ∷ at s signs.Close ∷ w) refl refl refl
    ∙ token (InParameters aim) (AfterVoid aim) q signs.Void 0 (at s signs.Close ∷ w) refl refl refl
    ∙ token (AfterVoid aim) (AfterParameters aim) s signs.Close 0 w refl refl refl

function_then : {f : Sign} (words : TypeWords) (q : Place) (secs : Sections) (es : List Declared) (w : List Item) → Callable f → guarded (AfterType NoWord words secs es) 0 (at q f ∷ w) ≡ guarded (Parameters (ToPrototype secs es)) 0 w
function_then words q secs es w of_input = token (AfterType NoWord words secs es) (Parameters (ToPrototype secs es)) q signs.Input 0 w refl refl refl
function_then words q secs es w (of_function k) = token (AfterType NoWord words secs es) (Parameters (ToPrototype secs es)) q (signs.Function k) 0 w refl refl refl

extern_function_then : {f : Sign} (words : TypeWords) (q : Place) (secs : Sections) (es : List Declared) (w : List Item) → Callable f → guarded (AfterType ExternWord words secs es) 0 (at q f ∷ w) ≡ guarded (Parameters (ToPrototype secs es)) 0 w
extern_function_then words q secs es w of_input = token (AfterType ExternWord words secs es) (Parameters (ToPrototype secs es)) q signs.Input 0 w refl refl refl
extern_function_then words q secs es w (of_function k) = token (AfterType ExternWord words secs es) (Parameters (ToPrototype secs es)) q (signs.Function k) 0 w refl refl refl

pub prototyped : {f : Sign} {us : List Item} (q : Place) (secs : Sections) (es : List Declared) (w : List Item) → Begins signs.Extern Unqualified us → Callable f → guarded (Outside secs es) 0 (us ++ at q f ∷ w) ≡ guarded (Parameters (ToPrototype secs es)) 0 w
prototyped {f} q secs es w (only_type s (unqualified y)) g = typed_then NoWord secs es (at q f ∷ w) y ∙ function_then (words_of y) q secs es w g
prototyped {f} q secs es w (then_type p s {us} (unqualified y)) g =
    token (Outside secs es) (AfterExtern secs es) p signs.Extern 0 (us ++ at q f ∷ w) refl refl refl
    ∙ typed_then ExternWord secs es (at q f ∷ w) y
    ∙ extern_function_then (words_of y) q secs es w g

pub void_prototyped : {us : List Item} (p q : Place) (k : ℕ) (secs : Sections) (es : List Declared) (w : List Item) → Optional signs.Extern us → guarded (Outside secs es) 0 (us ++ at p signs.Void ∷ at q (signs.Function k) ∷ w) ≡ guarded (Parameters (ToPrototype secs es)) 0 w
void_prototyped p q k secs es w (absent s) =
    token (Outside secs es) (AfterVoidType secs es) p signs.Void 0 (at q (signs.Function k) ∷ w) refl refl refl
    ∙ token (AfterVoidType secs es) (Parameters (ToPrototype secs es)) q (signs.Function k) 0 w refl refl refl
void_prototyped p q k secs es w (present t s) =
    token (Outside secs es) (AfterExtern secs es) t signs.Extern 0 (at p signs.Void ∷ at q (signs.Function k) ∷ w) refl refl refl
    ∙ token (AfterExtern secs es) (AfterVoidType secs es) p signs.Void 0 (at q (signs.Function k) ∷ w) refl refl refl
    ∙ token (AfterVoidType secs es) (Parameters (ToPrototype secs es)) q (signs.Function k) 0 w refl refl refl

-- a declaration of a function from its parentheses on
pub ends_prototype : {us : List Item} (r s t : Place) (secs : Sections) (es : List Declared) (w : List Item) → Optional signs.Void us → guarded (Parameters (ToPrototype secs es)) 0 (at r signs.Open ∷ (us ++ at s signs.Close ∷ at t signs.Semicolon ∷ w)) ≡ guarded (Outside secs es) 0 w
ends_prototype r s t secs es w v = parameters r s (ToPrototype secs es) (at t signs.Semicolon ∷ w) v ∙ token (AfterParameters (ToPrototype secs es)) (Outside secs es) t signs.Semicolon 0 w refl refl refl

-- behind a declarator
pub declarator : {us : List Item} {x : ℕ} {n : ℤ} {kind : Qualifier} (secs : Sections) (es : List Declared) (p : Place) (s : Sign) (next : ReadingState) (w : List Item) → step (Started kind x n secs es) p s ≡ Some next → IsStop s → opens_more s ≡ false → Declarator kind us x n
    → guarded (Declaring kind secs es) 0 (us ++ at p s ∷ w) ≡ guarded next 0 w
declarator secs es p s next w is same plain (bare q x) = token (Declaring Unqualified secs es) (Bare Unqualified x secs es) q (signs.Name x) 0 (at p s ∷ w) refl refl refl ∙ token (Bare Unqualified x secs es) next p s 0 w (bare_step x secs es p s same ∙ is) plain refl
declarator {kind = kind} secs es p s next w is same plain (positive q r z x n) =
    token (Declaring kind secs es) (Bare kind x secs es) q (signs.Name x) 0 (at r signs.Equals ∷ at z (signs.Number n) ∷ at p s ∷ w) refl refl refl
    ∙ token (Bare kind x secs es) (Starting kind x secs es) r signs.Equals 0 (at z (signs.Number n) ∷ at p s ∷ w) refl refl refl
    ∙ token (Starting kind x secs es) (Started kind x n secs es) z (signs.Number n) 0 (at p s ∷ w) refl refl refl
    ∙ token (Started kind x n secs es) next p s 0 w is plain refl
declarator {kind = kind} secs es p s next w is same plain (negative q r z t x n) =
    token (Declaring kind secs es) (Bare kind x secs es) q (signs.Name x) 0 (at r signs.Equals ∷ at z (signs.Oper Sub) ∷ at t (signs.Number n) ∷ at p s ∷ w) refl refl refl
    ∙ token (Bare kind x secs es) (Starting kind x secs es) r signs.Equals 0 (at z (signs.Oper Sub) ∷ at t (signs.Number n) ∷ at p s ∷ w) refl refl refl
    ∙ token (Starting kind x secs es) (Negating kind x secs es) z (signs.Oper Sub) 0 (at t (signs.Number n) ∷ at p s ∷ w) refl refl refl
    ∙ token (Negating kind x secs es) (Started kind x (neg_ℤ n) secs es) t (signs.Number n) 0 (at p s ∷ w) refl refl refl
    ∙ token (Started kind x (neg_ℤ n) secs es) next p s 0 w is plain refl
declarator secs es p s next w is same plain (counted q x last lt) =
    token (Declaring (Counted last) secs es) (Bare (Counted last) x secs es) q (signs.Name x) 0 (at p s ∷ w) refl refl refl ∙ token (Bare (Counted last) x secs es) next p s 0 w (counted_step x last secs es p s lt same ∙ is) plain refl

listed_within : (kind : Qualifier) (n : ℤ) (secs : Sections) (es : List Declared) (w : List Item) → NameFirst w → guarded (listed kind n secs es) 0 w ≡ guarded (Declaring (behind kind n) secs es) 0 w
listed_within Unqualified n secs es w h = refl
listed_within Constant n secs es w h = refl
listed_within (Counted last) n secs es w h = same_within (Listing n secs es) (Declaring (Counted n) secs es) 0 refl refl refl refl w (λ x v is. listed_name n secs es x.place x.sign (name_at w x v is h))

pub at_comma : {us : List Item} {x : ℕ} {n : ℤ} {kind : Qualifier} (p : Place) (secs : Sections) (es : List Declared) (w : List Item) → NameFirst w → Declarator kind us x n → guarded (Declaring kind secs es) 0 (us ++ at p signs.Comma ∷ w) ≡ guarded (Declaring (behind kind n) secs (with_declared secs es x n)) 0 w
at_comma {x = x} {n = n} {kind = kind} p secs es w h d = declarator secs es p signs.Comma (listed kind n secs (with_declared secs es x n)) w refl tt refl d ∙ listed_within kind n secs (with_declared secs es x n) w h

pub at_end_of : {us vs : List Item} {x : ℕ} {n : ℤ} {kind : Qualifier} (secs : Sections) (es : List Declared) (w : List Item) → Declarator kind us x n → Ending kind vs → guarded (Declaring kind secs es) 0 (us ++ (vs ++ w)) ≡ guarded (Outside secs (with_declared secs es x n)) 0 w
at_end_of {x = x} {n = n} secs es w d (variables_end p) = declarator secs es p signs.Semicolon (Outside secs (with_declared secs es x n)) w refl tt refl d
at_end_of {x = x} {n = n} secs es w d (constants_end p) = declarator secs es p signs.Semicolon (Outside secs (with_declared secs es x n)) w refl tt refl d
at_end_of {x = x} {n = n} secs es w d (enumeration_end last p q) =
    let fs : List Declared = with_declared secs es x n in
    declarator secs es p signs.RightBrace (Enumerated secs fs) (at q signs.Semicolon ∷ w) refl tt refl d ∙ token (Enumerated secs fs) (Outside secs fs) q signs.Semicolon 0 w refl refl refl
at_end_of {x = x} {n = n} secs es w d (comma_end last p q r) =
    let fs : List Declared = with_declared secs es x n in
    declarator secs es p signs.Comma (Listing n secs fs) (at q signs.RightBrace ∷ at r signs.Semicolon ∷ w) refl tt refl d
    ∙ token (Listing n secs fs) (Enumerated secs fs) q signs.RightBrace 0 (at r signs.Semicolon ∷ w) refl refl refl
    ∙ token (Enumerated secs fs) (Outside secs fs) r signs.Semicolon 0 w refl refl refl

pub definition_then : {us : List Item} {x : ℕ} {n : ℤ} (secs : Sections) (es : List Declared) (w : List Item) → Defines us x n → guarded (Outside secs es) 0 (us ++ w) ≡ guarded (Outside secs (with_declared secs es x n)) 0 w
definition_then secs es w (defined p q r x n) =
    token (Outside secs es) (AfterDefine secs es) p signs.Define 0 (at q (signs.Name x) ∷ at r (signs.Number n) ∷ w) refl refl refl
    ∙ token (AfterDefine secs es) (Defining x secs es) q (signs.Name x) 0 (at r (signs.Number n) ∷ w) refl refl refl
    ∙ token (Defining x secs es) (Outside secs (with_declared secs es x n)) r (signs.Number n) 0 w refl refl refl
definition_then secs es w (negative_defined p q r s x n) =
    token (Outside secs es) (AfterDefine secs es) p signs.Define 0 (at q (signs.Name x) ∷ at r (signs.Oper Sub) ∷ at s (signs.Number n) ∷ w) refl refl refl
    ∙ token (AfterDefine secs es) (Defining x secs es) q (signs.Name x) 0 (at r (signs.Oper Sub) ∷ at s (signs.Number n) ∷ w) refl refl refl
    ∙ token (Defining x secs es) (NegativeDefining x secs es) r (signs.Oper Sub) 0 (at s (signs.Number n) ∷ w) refl refl refl
    ∙ token (NegativeDefining x secs es) (Outside secs (with_declared secs es x (neg_ℤ n))) s (signs.Number n) 0 w refl refl refl
definition_then secs es w (enclosed p q r s t x n) =
    token (Outside secs es) (AfterDefine secs es) p signs.Define 0 (at q (signs.Name x) ∷ at r signs.Open ∷ at s (signs.Number n) ∷ at t signs.Close ∷ w) refl refl refl
    ∙ token (AfterDefine secs es) (Defining x secs es) q (signs.Name x) 0 (at r signs.Open ∷ at s (signs.Number n) ∷ at t signs.Close ∷ w) refl refl refl
    ∙ token (Defining x secs es) (Enclosing x secs es) r signs.Open 0 (at s (signs.Number n) ∷ at t signs.Close ∷ w) refl refl refl
    ∙ token (Enclosing x secs es) (Enclosed x n secs es) s (signs.Number n) 0 (at t signs.Close ∷ w) refl refl refl
    ∙ token (Enclosed x n secs es) (Outside secs (with_declared secs es x n)) t signs.Close 0 w refl refl refl
definition_then secs es w (negative_enclosed p q r s t u x n) =
    token (Outside secs es) (AfterDefine secs es) p signs.Define 0 (at q (signs.Name x) ∷ at r signs.Open ∷ at s (signs.Oper Sub) ∷ at t (signs.Number n) ∷ at u signs.Close ∷ w) refl refl refl
    ∙ token (AfterDefine secs es) (Defining x secs es) q (signs.Name x) 0 (at r signs.Open ∷ at s (signs.Oper Sub) ∷ at t (signs.Number n) ∷ at u signs.Close ∷ w) refl refl refl
    ∙ token (Defining x secs es) (Enclosing x secs es) r signs.Open 0 (at s (signs.Oper Sub) ∷ at t (signs.Number n) ∷ at u signs.Close ∷ w) refl refl refl
    ∙ token (Enclosing x secs es) (NegativeEnclosing x secs es) s (signs.Oper Sub) 0 (at t (signs.Number n) ∷ at u signs.Close ∷ w) refl refl refl
    ∙ token (NegativeEnclosing x secs es) (Enclosed x (neg_ℤ n) secs es) t (signs.Number n) 0 (at u signs.Close ∷ w) refl refl refl
    ∙ token (Enclosed x (neg_ℤ n) secs es) (Outside secs (with_declared secs es x (neg_ℤ n))) u signs.Close 0 w refl refl refl

-- one more guard
pub guards_true : (gs : List Guard) (n : ℕ) → length (with_true gs n) ≡ suc (length gs)
guards_true gs n = let h = length-append gs (record { number = n; positive = true } ∷ []) in h ∙ omega arith

pub guards_false : (gs : List Guard) (n : ℕ) → length (with_false gs n) ≡ suc (length gs)
guards_false gs n = let h = length-append gs (record { number = n; positive = false } ∷ []) in h ∙ omega arith

regroup : (secs : Sections) (a b c : List Declared) (w : List Item) → guarded (Outside secs ((a ++ b) ++ c)) 0 w ≡ guarded (Outside secs (a ++ (b ++ c))) 0 w
regroup secs a b c w = ap (λ (y : List Declared). guarded (Outside secs y) 0 w) (append_assoc a b c)

abbrev pub GoesIn : ℕ → Part → List Item → List Declared → Type 0
GoesIn k (Outer gs) ts ds = (secs : Sections) → guards_of secs ≡ gs → k + length gs ≤ 64 → (es : List Declared) (w : List Item) → guarded (Outside secs es) 0 (ts ++ w) ≡ guarded (Outside secs (es ++ ds)) 0 w
GoesIn k (Vars kind gs) ts ds = (secs : Sections) → guards_of secs ≡ gs → k + length gs ≤ 64 → (es : List Declared) (w : List Item) → guarded (Declaring kind secs es) 0 (ts ++ w) ≡ guarded (Outside secs (es ++ ds)) 0 w
GoesIn k (Later gs) ts ds = (hs : List Guard) (n : ℕ) (outer : Sections) → with_false hs n ≡ gs → k + length gs ≤ 64 → (es : List Declared) (w : List Item) → guarded (Outside (InPart hs n outer) es) 0 (ts ++ w) ≡ guarded (Outside outer (es ++ ds)) 0 w

pub goes_in : {k : ℕ} {s : Part} {ts : List Item} {ds : List Declared} → DeclaresIn k s ts ds → GoesIn k s ts ds
goes_in (nothing gs) = λ secs is h es w. ap (λ (y : List Declared). guarded (Outside secs y) 0 w) (sym (append-nil es))
goes_in (variables gs {us} {vs} {ws} {ds} {es = fs} o v d) = λ secs is h es w.
    let re : (us ++ (vs ++ ws)) ++ w ≡ us ++ (vs ++ (ws ++ w)) = simp append_assoc in
    ap (guarded (Outside secs es) 0) re
    ∙ begins_then secs es (vs ++ (ws ++ w)) o (vars_first (declares_plain v) (ws ++ w))
    ∙ goes_in v secs is h es (ws ++ w)
    ∙ goes_in d secs is h (es ++ ds) w
    ∙ regroup secs es ds fs w
goes_in (prototype q r s t gs {f} {us} {vs} {ws} {es = fs} o g v d) = λ secs is h es w.
    let rest : List Item = at r signs.Open ∷ (vs ++ at s signs.Close ∷ at t signs.Semicolon ∷ (ws ++ w)) in
    let re : (us ++ at q f ∷ at r signs.Open ∷ (vs ++ at s signs.Close ∷ at t signs.Semicolon ∷ ws)) ++ w ≡ us ++ at q f ∷ rest = simp append_assoc in
    ap (guarded (Outside secs es) 0) re
    ∙ prototyped q secs es rest o g
    ∙ ends_prototype r s t secs es (ws ++ w) v
    ∙ goes_in d secs is h es w
goes_in (void_prototype p q r s t n gs {us} {vs} {ws} {es = fs} o v d) = λ secs is h es w.
    let rest : List Item = at r signs.Open ∷ (vs ++ at s signs.Close ∷ at t signs.Semicolon ∷ (ws ++ w)) in
    let re : (us ++ at p signs.Void ∷ at q (signs.Function n) ∷ at r signs.Open ∷ (vs ++ at s signs.Close ∷ at t signs.Semicolon ∷ ws)) ++ w ≡ us ++ at p signs.Void ∷ at q (signs.Function n) ∷ rest = simp append_assoc in
    ap (guarded (Outside secs es) 0) re
    ∙ void_prototyped p q n secs es rest o
    ∙ ends_prototype r s t secs es (ws ++ w) v
    ∙ goes_in d secs is h es w
goes_in (definition gs {us} {ws} {es = fs} {x} {n} o d) = λ secs is h es w.
    ap (guarded (Outside secs es) 0) (append_assoc us ws w)
    ∙ definition_then secs es (ws ++ w) o
    ∙ goes_in d secs is h (with_declared secs es x n) w
    ∙ regroup secs es (declared x n (guards_of secs) ∷ []) fs w
    ∙ ap (λ (y : List Guard). guarded (Outside secs (es ++ declared x n y ∷ fs)) 0 w) is
goes_in (section p n gs {us} {vs} {ws} {cs} {ds} {es = fs} {k = j} a b d) = λ secs is h es w.
    let re : (us ++ (vs ++ ws)) ++ w ≡ us ++ (vs ++ (ws ++ w)) = simp append_assoc in
    let g : suc j + length gs ≤ 64 = h in
    let here : length (guards_of secs) ≡ length gs = ap length is in
    opens_in (Outside secs es) (Outside (InPart (guards_of secs) n secs) es) p (signs.GroupIf n) 0 ((us ++ (vs ++ ws)) ++ w) refl refl (omega (arith, g, here))
    ∙ ap (guarded (Outside (InPart (guards_of secs) n secs) es) 0) re
    ∙ goes_in a (InPart (guards_of secs) n secs) (ap (λ (y : List Guard). with_true y n) is) (omega (arith, g, guards_true gs n)) es (vs ++ (ws ++ w))
    ∙ goes_in b (guards_of secs) n secs (ap (λ (y : List Guard). with_false y n) is) (omega (arith, g, guards_false gs n)) (es ++ cs) (ws ++ w)
    ∙ goes_in d secs is h ((es ++ cs) ++ ds) w
    ∙ ap (λ (y : List Declared). guarded (Outside secs y) 0 w) (append_assoc (es ++ cs) ds fs ∙ append_assoc es cs (ds ++ fs))
goes_in (last_var gs {us} {vs} {x} {n} {kind} v o) = λ secs is h es w.
    ap (guarded (Declaring kind secs es) 0) (append_assoc us vs w)
    ∙ at_end_of secs es w v o
    ∙ ap (λ (y : List Guard). guarded (Outside secs (es ++ declared x n y ∷ [])) 0 w) is
goes_in (next_var p gs {us} {vs} {x} {n} {ds} {kind} v d) = λ secs is h es w.
    ap (guarded (Declaring kind secs es) 0) (append_assoc us (at p signs.Comma ∷ vs) w)
    ∙ at_comma p secs es (vs ++ w) (vars_first (declares_plain d) w) v
    ∙ goes_in d secs is h (with_declared secs es x n) w
    ∙ regroup secs es (declared x n (guards_of secs) ∷ []) ds w
    ∙ ap (λ (y : List Guard). guarded (Outside secs (es ++ declared x n y ∷ ds)) 0 w) is
goes_in (end_part p gs) = λ hs n outer is h es w.
    token (Outside (InPart hs n outer) es) (Outside outer es) p signs.GroupEnd 0 w refl refl refl
    ∙ ap (λ (y : List Declared). guarded (Outside outer y) 0 w) (sym (append-nil es))
goes_in (else_part p q gs {us} {ds} d) = λ hs n outer is h es w.
    token (Outside (InPart hs n outer) es) (Outside (InLast (with_false hs n) outer) es) p signs.GroupElse 0 ((us ++ at q signs.GroupEnd ∷ []) ++ w) refl refl refl
    ∙ ap (guarded (Outside (InLast (with_false hs n) outer) es) 0) (append_assoc us (at q signs.GroupEnd ∷ []) w)
    ∙ goes_in d (InLast (with_false hs n) outer) is h es (at q signs.GroupEnd ∷ w)
    ∙ token (Outside (InLast (with_false hs n) outer) (es ++ ds)) (Outside outer (es ++ ds)) q signs.GroupEnd 0 w refl refl refl
goes_in (elif_part p m gs {us} {vs} {cs} {ds} {k = j} a b) = λ hs n outer is h es w.
    let g : suc j + length gs ≤ 64 = h in
    let here : length (with_false hs n) ≡ length gs = ap length is in
    opens_in (Outside (InPart hs n outer) es) (Outside (InPart (with_false hs n) m outer) es) p (signs.GroupElif m) 0 ((us ++ vs) ++ w) refl refl (omega (arith, g, here, guards_true hs n, guards_false hs n))
    ∙ ap (guarded (Outside (InPart (with_false hs n) m outer) es) 0) (append_assoc us vs w)
    ∙ goes_in a (InPart (with_false hs n) m outer) (ap (λ (y : List Guard). with_true y m) is) (omega (arith, g, guards_true gs m)) es (vs ++ w)
    ∙ goes_in b (with_false hs n) m outer (ap (λ (y : List Guard). with_false y m) is) (omega (arith, g, guards_false gs m)) (es ++ cs) w
    ∙ regroup outer es cs ds w

-- ---- files

abbrev pub PassesIn : ℕ → Gap → List Item → Type 0
PassesIn k Gaps ts = (f : File) (parts : List Tailing) → k + tail_depth parts ≤ 64 → (w : List Item) → guarded (Over f parts) 0 (ts ++ w) ≡ guarded (Over f parts) 0 w
PassesIn k GapRest ts = (f : File) (i : ℕ) (parts : List Tailing) → k + (i + tail_depth parts) ≤ 64 → (w : List Item) → guarded (Over f (Another i ∷ parts)) 0 (ts ++ w) ≡ guarded (Over f parts) 0 w

pub passes_in : {k : ℕ} {s : Gap} {ts : List Item} → EmptyIn k s ts → PassesIn k s ts
passes_in no_more = λ f parts h w. refl
passes_in (empty_section p n {us} {vs} {ws} {k = j} a b d) = λ f parts h w.
    let re : (us ++ (vs ++ ws)) ++ w ≡ us ++ (vs ++ (ws ++ w)) = simp append_assoc in
    let g : suc j + tail_depth parts ≤ 64 = h in
    let one : j + (1 + tail_depth parts) ≤ 64 = omega (arith, g) in
    opens_in (Over f parts) (Over f (Another 1 ∷ parts)) p (signs.GroupIf n) 0 ((us ++ (vs ++ ws)) ++ w) refl refl (omega (arith, g))
    ∙ ap (guarded (Over f (Another 1 ∷ parts)) 0) re
    ∙ passes_in a f (Another 1 ∷ parts) one (vs ++ (ws ++ w))
    ∙ passes_in b f 1 parts one (ws ++ w)
    ∙ passes_in d f parts h w
passes_in (empty_end p) = λ f i parts h w. token (Over f (Another i ∷ parts)) (Over f parts) p signs.GroupEnd 0 w refl refl refl
passes_in (empty_else p q {us} a) = λ f i parts h w.
    token (Over f (Another i ∷ parts)) (Over f (Final i ∷ parts)) p signs.GroupElse 0 ((us ++ at q signs.GroupEnd ∷ []) ++ w) refl refl refl
    ∙ ap (guarded (Over f (Final i ∷ parts)) 0) (append_assoc us (at q signs.GroupEnd ∷ []) w)
    ∙ passes_in a f (Final i ∷ parts) h (at q signs.GroupEnd ∷ w)
    ∙ token (Over f (Final i ∷ parts)) (Over f parts) q signs.GroupEnd 0 w refl refl refl
passes_in (empty_elif p n {us} {vs} {k = j} a b) = λ f i parts h w.
    let g : suc j + (i + tail_depth parts) ≤ 64 = h in
    let one : j + (suc i + tail_depth parts) ≤ 64 = omega (arith, g) in
    opens_in (Over f (Another i ∷ parts)) (Over f (Another (suc i) ∷ parts)) p (signs.GroupElif n) 0 ((us ++ vs) ++ w) refl refl (omega (arith, g))
    ∙ ap (guarded (Over f (Another (suc i) ∷ parts)) 0) (append_assoc us vs w)
    ∙ passes_in a f (Another (suc i) ∷ parts) one (vs ++ w)
    ∙ passes_in b f (suc i) parts one w

pub ends_main : (p : Place) (ds : List Declared) (c : Code) (w : List Item) → guarded (Ready (Top ds c)) 0 (at p signs.RightBrace ∷ w) ≡ guarded (Over (file_of ds c p) []) 0 w
ends_main p ds c w = token (Ready (Top ds c)) (Over (file_of ds c p) []) p signs.RightBrace 0 w refl refl refl

pub over_all : (f : File) → guarded (Over f []) 0 [] ≡ Ok f
unfolding guarded
over_all f = refl

-- `main` up to its first statement
pub enters_main : {ts us : List Item} (q r s t : Place) (ds : List Declared) (w : List Item) → Typed ts → Optional signs.Void us
    → guarded (Outside Outermost ds) 0 (ts ++ at q signs.Main ∷ at r signs.Open ∷ (us ++ at s signs.Close ∷ at t signs.LeftBrace ∷ w)) ≡ guarded (Ready (Top ds Done)) 0 w
enters_main {ts} {us} q r s t ds w y o =
    typed_then NoWord Outermost ds (at q signs.Main ∷ at r signs.Open ∷ (us ++ at s signs.Close ∷ at t signs.LeftBrace ∷ w)) y
    ∙ token (AfterType NoWord (words_of y) Outermost ds) (Parameters (ToMain ds)) q signs.Main 0 (at r signs.Open ∷ (us ++ at s signs.Close ∷ at t signs.LeftBrace ∷ w)) refl refl refl
    ∙ parameters r s (ToMain ds) (at t signs.LeftBrace ∷ w) o
    ∙ opens_in (AfterParameters (ToMain ds)) (Ready (Top ds Done)) t signs.LeftBrace 0 w refl refl (omega arith)

body_in : {ts : List Item} {c : Code} {p : Place} (ds : List Declared) → BodyWithin ts c p → guarded (Ready (Top ds Done)) 0 ts ≡ Ok (file_of ds c p)
body_in ds (body p {us} {vs} {c} s e) =
    accepted_in s (Top ds Done) tt refl (omega arith) 0 (at p signs.RightBrace ∷ vs) tt
    ∙ ends_main p ds c vs
    ∙ ap (guarded (Over (file_of ds c p) []) 0) (sym (append-nil vs))
    ∙ passes_in e (file_of ds c p) [] (omega arith) []
    ∙ over_all (file_of ds c p)

main_in : {ts : List Item} {c : Code} {p : Place} (ds : List Declared) → MainWithin ts c p → guarded (Outside Outermost ds) 0 ts ≡ Ok (file_of ds c p)
main_in ds (main q r s t u {ts} {us} {vs} {c} y o b) = enters_main q r s t ds vs y o ∙ body_in ds b

-- a file within the limits is read within them
pub read_within : (ts : List Item) (f : File) → FormsWithin ts f → guarded start 0 ts ≡ Ok f
read_within _ _ (file {us} {vs} {ds} {c} {p} d m) = goes_in d Outermost refl (omega arith) [] vs ∙ main_in ds m
