-- What is spelled is read: declarations and files.
use Rattle.std.proofs.Common.{◌≡◌, suc, ℕ, ℤ, pos, ◌+ℤ◌, ◌<ℤ◌, int_lt, Bool, true, cond, length, Option, None, arith, List, [], ◌∷◌, ◌++◌, Ok, refl, sym, ap, ◌∙◌, append_assoc}
use Rattle.std.proofs.lemmas.Int.{ints}
use Rattle.std.proofs.lemmas.List.{append-nil}
use Rattle.fam_outer.specs.declared.faults.Place.{Place}
use Rattle.c_tree.specs.declared.lists.Guard.{Guard}
use Rattle.c_tree.specs.declared.lists.Declared.{Declared}
use Rattle.c_tree.specs.Value.{greatest}
use Rattle.c_tree.specs.Tree.{Code, Done}
use Rattle.c_grammar.specs.declared.items.Sign.{Sign}
use Rattle.c_grammar.specs.declared.items.Sign.TheVariants as signs
use Rattle.c_grammar.specs.declared.items.Item.{Item}
use Rattle.c_grammar.specs.Grammar.{at, Optional, absent, present, Typed, int, int32, signed, signed_int, int_signed, Qualifier, Unqualified, Constant, Counted, behind, unqualified, const_before, const_behind, Begins, only_type, then_type, enumeration, Declarator, bare, positive, negative, counted, Ending, variables_end, constants_end, enumeration_end, comma_end, Defines, defined, negative_defined, enclosed, negative_enclosed, with_true, with_false, declared, Part, Outer, Vars, Later, Declares, nothing, variables, Callable, of_input, of_function, prototype, void_prototype, definition, section, last_var, next_var, end_part, else_part, elif_part, Gap, Gaps, GapRest, Empty, no_more, empty_section, empty_end, empty_else, empty_elif, Body, body, Main, main, File, file_of, Forms, file}
use Rattle.c_grammar.specs.Machine.{Tailing, Another, Final, Top, Sections, Outermost, InPart, InLast, guards_of, Aim, ToPrototype, ToMain, ReadingState, Outside, AfterStatic, AfterExtern, AfterConst, AfterType, Leading, NoWord, StaticWord, ExternWord, ConstWord, TypeWords, OneInt, OneSigned, WholeType, Declaring, Parameters, AfterParameters, Ready, Over, with_declared, run, start, Bare, Started, Listing, listed, started, counts_on, step, moved}
use Rattle.c_grammar.proofs.Complete.{accepted}

-- ---- declarations

-- a name stands first
abbrev pub IsName : Sign → Type 0
IsName (signs.Name x) = Unit {0}
IsName _ = ⊥

abbrev pub NameFirst : List Item → Type 0
NameFirst [] = ⊥
NameFirst (x ∷ w) = IsName x.sign

pub vars_first : {gs : List Guard} {ts : List Item} {ds : List Declared} {kind : Qualifier} → Declares (Vars kind gs) ts ds → (w : List Item) → NameFirst (ts ++ w)
vars_first (last_var gs (bare q x) o) w = tt
vars_first (last_var gs (positive q r s x n) o) w = tt
vars_first (last_var gs (negative q r s t x n) o) w = tt
vars_first (last_var gs (counted q x last lt) o) w = tt
vars_first (next_var p gs (bare q x) h) w = tt
vars_first (next_var p gs (positive q r s x n) h) w = tt
vars_first (next_var p gs (negative q r s t x n) h) w = tt
vars_first (next_var p gs (counted q x last lt) h) w = tt

-- where a declaration has this before its type
abbrev pub before_type : Leading → Sections → List Declared → ReadingState
before_type NoWord secs es = Outside secs es
before_type StaticWord secs es = AfterStatic secs es
before_type ExternWord secs es = AfterExtern secs es
before_type ConstWord secs es = AfterConst secs es

unfoldable pub words_of : {us : List Item} → Typed us → TypeWords
words_of (int p) = OneInt
words_of (int32 p) = WholeType
words_of (signed p) = OneSigned
words_of (signed_int p q) = WholeType
words_of (int_signed p q) = WholeType

typed_then : {us : List Item} (lead : Leading) (secs : Sections) (es : List Declared) (w : List Item) (y : Typed us) → run (before_type lead secs es) (us ++ w) ≡ run (AfterType lead (words_of y) secs es) w
unfolding run words_of
typed_then NoWord secs es w (int p) = refl
typed_then NoWord secs es w (int32 p) = refl
typed_then NoWord secs es w (signed p) = refl
typed_then NoWord secs es w (signed_int p q) = refl
typed_then NoWord secs es w (int_signed p q) = refl
typed_then StaticWord secs es w (int p) = refl
typed_then StaticWord secs es w (int32 p) = refl
typed_then StaticWord secs es w (signed p) = refl
typed_then StaticWord secs es w (signed_int p q) = refl
typed_then StaticWord secs es w (int_signed p q) = refl
typed_then ExternWord secs es w (int p) = refl
typed_then ExternWord secs es w (int32 p) = refl
typed_then ExternWord secs es w (signed p) = refl
typed_then ExternWord secs es w (signed_int p q) = refl
typed_then ExternWord secs es w (int_signed p q) = refl
typed_then ConstWord secs es w (int p) = refl
typed_then ConstWord secs es w (int32 p) = refl
typed_then ConstWord secs es w (signed p) = refl
typed_then ConstWord secs es w (signed_int p q) = refl
typed_then ConstWord secs es w (int_signed p q) = refl

name_then : (words : TypeWords) (secs : Sections) (es : List Declared) (p : Place) (s : Sign) (w : List Item) → IsName s → run (AfterType NoWord words secs es) (at p s ∷ w) ≡ run (Declaring Unqualified secs es) (at p s ∷ w)
unfolding run
name_then words secs es p (signs.Name x) w h = refl
name_then words secs es p _ w h = absurd h

static_name_then : (words : TypeWords) (secs : Sections) (es : List Declared) (p : Place) (s : Sign) (w : List Item) → IsName s → run (AfterType StaticWord words secs es) (at p s ∷ w) ≡ run (Declaring Unqualified secs es) (at p s ∷ w)
unfolding run
static_name_then words secs es p (signs.Name x) w h = refl
static_name_then words secs es p _ w h = absurd h

const_name_then : (words : TypeWords) (secs : Sections) (es : List Declared) (p : Place) (s : Sign) (w : List Item) → IsName s → run (AfterType ConstWord words secs es) (at p s ∷ w) ≡ run (Declaring Constant secs es) (at p s ∷ w)
unfolding run
const_name_then words secs es p (signs.Name x) w h = refl
const_name_then words secs es p _ w h = absurd h

behind_type_then : (words : TypeWords) (secs : Sections) (es : List Declared) (w : List Item) → NameFirst w → run (AfterType NoWord words secs es) w ≡ run (Declaring Unqualified secs es) w
behind_type_then words secs es [] h = absurd h
behind_type_then words secs es (x ∷ w) h = name_then words secs es x.place x.sign w h

behind_static_then : (words : TypeWords) (secs : Sections) (es : List Declared) (w : List Item) → NameFirst w → run (AfterType StaticWord words secs es) w ≡ run (Declaring Unqualified secs es) w
behind_static_then words secs es [] h = absurd h
behind_static_then words secs es (x ∷ w) h = static_name_then words secs es x.place x.sign w h

behind_const_then : (words : TypeWords) (secs : Sections) (es : List Declared) (w : List Item) → NameFirst w → run (AfterType ConstWord words secs es) w ≡ run (Declaring Constant secs es) w
behind_const_then words secs es [] h = absurd h
behind_const_then words secs es (x ∷ w) h = const_name_then words secs es x.place x.sign w h

begins_then : {us : List Item} {kind : Qualifier} (secs : Sections) (es : List Declared) (w : List Item) → Begins signs.Static kind us → NameFirst w → run (Outside secs es) (us ++ w) ≡ run (Declaring kind secs es) w
unfolding run
begins_then secs es w (only_type s (unqualified y)) h = typed_then NoWord secs es w y ∙ behind_type_then (words_of y) secs es w h
begins_then secs es w (only_type s (const_before p y)) h = typed_then ConstWord secs es w y ∙ behind_const_then (words_of y) secs es w h
begins_then secs es w (only_type s (const_behind p {us} y)) h = ap (run (Outside secs es)) (append_assoc us (at p signs.Const ∷ []) w) ∙ typed_then NoWord secs es (at p signs.Const ∷ w) y
begins_then secs es w (then_type q s (unqualified y)) h = typed_then StaticWord secs es w y ∙ behind_static_then (words_of y) secs es w h
begins_then secs es w (then_type q s (const_before p y)) h = typed_then ConstWord secs es w y ∙ behind_const_then (words_of y) secs es w h
begins_then secs es w (then_type q s (const_behind p {us} y)) h = ap (run (AfterStatic secs es)) (append_assoc us (at p signs.Const ∷ []) w) ∙ typed_then StaticWord secs es (at p signs.Const ∷ w) y
begins_then secs es w (enumeration p q s) h = refl

parameters : {us : List Item} (r s : Place) (aim : Aim) (w : List Item) → Optional signs.Void us → run (Parameters aim) (at r signs.Open ∷ (us ++ at s signs.Close ∷ w)) ≡ run (AfterParameters aim) w
unfolding run
parameters r s aim w (absent t) = refl
parameters r s aim w (present q t) = refl

prototyped : {f : Sign} {us : List Item} (q : Place) (secs : Sections) (es : List Declared) (w : List Item) → Begins signs.Extern Unqualified us → Callable f → run (Outside secs es) (us ++ at q f ∷ w) ≡ run (Parameters (ToPrototype secs es)) w
unfolding run
prototyped q secs es w (only_type s (unqualified y)) of_input = typed_then NoWord secs es (at q signs.Input ∷ w) y
prototyped q secs es w (only_type s (unqualified y)) (of_function k) = typed_then NoWord secs es (at q (signs.Function k) ∷ w) y
prototyped q secs es w (then_type p s (unqualified y)) of_input = typed_then ExternWord secs es (at q signs.Input ∷ w) y
prototyped q secs es w (then_type p s (unqualified y)) (of_function k) = typed_then ExternWord secs es (at q (signs.Function k) ∷ w) y

void_prototyped : {us : List Item} (p q : Place) (k : ℕ) (secs : Sections) (es : List Declared) (w : List Item) → Optional signs.Extern us → run (Outside secs es) (us ++ at p signs.Void ∷ at q (signs.Function k) ∷ w) ≡ run (Parameters (ToPrototype secs es)) w
unfolding run
void_prototyped p q k secs es w (absent s) = refl
void_prototyped p q k secs es w (present t s) = refl

-- what may follow a declarator
abbrev pub IsStop : Sign → Type 0
IsStop signs.Comma = Unit {0}
IsStop signs.Semicolon = Unit {0}
IsStop signs.RightBrace = Unit {0}
IsStop _ = ⊥

pub bare_step : (x : ℕ) (secs : Sections) (es : List Declared) (p : Place) (s : Sign) → IsStop s → step (Bare Unqualified x secs es) p s ≡ step (Started Unqualified x (pos 0) secs es) p s
bare_step x secs es p signs.Comma h = refl
bare_step x secs es p signs.Semicolon h = refl
bare_step x secs es p signs.RightBrace h = refl
bare_step x secs es p _ h = absurd h

less_is : (m n : ℤ) → m <ℤ n → int_lt m n ≡ true
less_is m n h = grind (arith, ints)

counts : (x : ℕ) (last : ℤ) (secs : Sections) (es : List Declared) (s : Sign) → last <ℤ greatest → counts_on last x secs es s ≡ started (Counted last) x (last +ℤ pos 1) secs es s
counts x last secs es s lt = ap (λ (b : Bool). cond b (started (Counted last) x (last +ℤ pos 1) secs es s) None) (less_is last greatest lt)

pub counted_step : (x : ℕ) (last : ℤ) (secs : Sections) (es : List Declared) (p : Place) (s : Sign) → last <ℤ greatest → IsStop s → step (Bare (Counted last) x secs es) p s ≡ step (Started (Counted last) x (last +ℤ pos 1) secs es) p s
counted_step x last secs es p signs.Comma lt h = counts x last secs es signs.Comma lt
counted_step x last secs es p signs.Semicolon lt h = counts x last secs es signs.Semicolon lt
counted_step x last secs es p signs.RightBrace lt h = counts x last secs es signs.RightBrace lt
counted_step x last secs es p _ lt h = absurd h

run_same : (a b : ReadingState) (p : Place) (s : Sign) (w : List Item) → step a p s ≡ step b p s → run a (at p s ∷ w) ≡ run b (at p s ∷ w)
unfolding run
run_same a b p s w h = ap (λ (o : Option ReadingState). moved o (λ next. run next w) (suc (length w))) h

-- a declarator has a value, told or not
valued : {us : List Item} {x : ℕ} {n : ℤ} {kind : Qualifier} (secs : Sections) (es : List Declared) (p : Place) (s : Sign) (w : List Item) → IsStop s → Declarator kind us x n → run (Declaring kind secs es) (us ++ at p s ∷ w) ≡ run (Started kind x n secs es) (at p s ∷ w)
unfolding run
valued secs es p s w h (bare q x) = run_same (Bare Unqualified x secs es) (Started Unqualified x (pos 0) secs es) p s w (bare_step x secs es p s h)
valued secs es p s w h (positive q r t x n) = refl
valued secs es p s w h (negative q r t u x n) = refl
valued secs es p s w h (counted q x last lt) = run_same (Bare (Counted last) x secs es) (Started (Counted last) x (last +ℤ pos 1) secs es) p s w (counted_step x last secs es p s lt h)

pub listed_name : (last : ℤ) (secs : Sections) (es : List Declared) (p : Place) (s : Sign) → IsName s → step (Listing last secs es) p s ≡ step (Declaring (Counted last) secs es) p s
listed_name last secs es p (signs.Name x) h = refl
listed_name last secs es p _ h = absurd h

listed_then : (kind : Qualifier) (n : ℤ) (secs : Sections) (es : List Declared) (w : List Item) → NameFirst w → run (listed kind n secs es) w ≡ run (Declaring (behind kind n) secs es) w
listed_then Unqualified n secs es w h = refl
listed_then Constant n secs es w h = refl
listed_then (Counted last) n secs es [] h = absurd h
listed_then (Counted last) n secs es (x ∷ w) h = run_same (Listing n secs es) (Declaring (Counted n) secs es) x.place x.sign w (listed_name n secs es x.place x.sign h)

at_comma : {us : List Item} {x : ℕ} {n : ℤ} {kind : Qualifier} (p : Place) (secs : Sections) (es : List Declared) (w : List Item) → NameFirst w → Declarator kind us x n → run (Declaring kind secs es) (us ++ at p signs.Comma ∷ w) ≡ run (Declaring (behind kind n) secs (with_declared secs es x n)) w
unfolding run
at_comma {x = x} {n = n} {kind = kind} p secs es w h d = valued secs es p signs.Comma w tt d ∙ listed_then kind n secs (with_declared secs es x n) w h

at_end_of : {us vs : List Item} {x : ℕ} {n : ℤ} {kind : Qualifier} (secs : Sections) (es : List Declared) (w : List Item) → Declarator kind us x n → Ending kind vs → run (Declaring kind secs es) (us ++ (vs ++ w)) ≡ run (Outside secs (with_declared secs es x n)) w
unfolding run
at_end_of secs es w d (variables_end p) = valued secs es p signs.Semicolon w tt d
at_end_of secs es w d (constants_end p) = valued secs es p signs.Semicolon w tt d
at_end_of secs es w d (enumeration_end last p q) = valued secs es p signs.RightBrace (at q signs.Semicolon ∷ w) tt d
at_end_of secs es w d (comma_end last p q r) = valued secs es p signs.Comma (at q signs.RightBrace ∷ at r signs.Semicolon ∷ w) tt d

definition_then : {us : List Item} {x : ℕ} {n : ℤ} (secs : Sections) (es : List Declared) (w : List Item) → Defines us x n → run (Outside secs es) (us ++ w) ≡ run (Outside secs (with_declared secs es x n)) w
unfolding run
definition_then secs es w (defined p q r x n) = refl
definition_then secs es w (negative_defined p q r s x n) = refl
definition_then secs es w (enclosed p q r s t x n) = refl
definition_then secs es w (negative_enclosed p q r s t u x n) = refl

abbrev pub Goes : Part → List Item → List Declared → Type 0
Goes (Outer gs) ts ds = (secs : Sections) → guards_of secs ≡ gs → (es : List Declared) (w : List Item) → run (Outside secs es) (ts ++ w) ≡ run (Outside secs (es ++ ds)) w
Goes (Vars kind gs) ts ds = (secs : Sections) → guards_of secs ≡ gs → (es : List Declared) (w : List Item) → run (Declaring kind secs es) (ts ++ w) ≡ run (Outside secs (es ++ ds)) w
Goes (Later gs) ts ds = (hs : List Guard) (n : ℕ) (outer : Sections) → with_false hs n ≡ gs → (es : List Declared) (w : List Item) → run (Outside (InPart hs n outer) es) (ts ++ w) ≡ run (Outside outer (es ++ ds)) w

regroup : (secs : Sections) (a b c : List Declared) (w : List Item) → run (Outside secs ((a ++ b) ++ c)) w ≡ run (Outside secs (a ++ (b ++ c))) w
regroup secs a b c w = ap (λ (y : List Declared). run (Outside secs y) w) (append_assoc a b c)

pub goes : {s : Part} {ts : List Item} {ds : List Declared} → Declares s ts ds → Goes s ts ds
unfolding run
goes (nothing gs) = λ secs is es w. ap (λ (y : List Declared). run (Outside secs y) w) (sym (append-nil es))
goes (variables gs {us} {vs} {ws} {ds} {es = fs} o v d) = λ secs is es w.
    let re : (us ++ (vs ++ ws)) ++ w ≡ us ++ (vs ++ (ws ++ w)) = simp append_assoc in
    ap (run (Outside secs es)) re
    ∙ begins_then secs es (vs ++ (ws ++ w)) o (vars_first v (ws ++ w))
    ∙ goes v secs is es (ws ++ w)
    ∙ goes d secs is (es ++ ds) w
    ∙ regroup secs es ds fs w
goes (prototype q r s t gs {f} {us} {vs} {ws} {es = fs} o g v d) = λ secs is es w.
    let rest : List Item = at r signs.Open ∷ (vs ++ at s signs.Close ∷ at t signs.Semicolon ∷ (ws ++ w)) in
    let re : (us ++ at q f ∷ at r signs.Open ∷ (vs ++ at s signs.Close ∷ at t signs.Semicolon ∷ ws)) ++ w ≡ us ++ at q f ∷ rest = simp append_assoc in
    ap (run (Outside secs es)) re
    ∙ prototyped q secs es rest o g
    ∙ parameters r s (ToPrototype secs es) (at t signs.Semicolon ∷ (ws ++ w)) v
    ∙ goes d secs is es w
goes (void_prototype p q r s t k gs {us} {vs} {ws} {es = fs} o v d) = λ secs is es w.
    let rest : List Item = at r signs.Open ∷ (vs ++ at s signs.Close ∷ at t signs.Semicolon ∷ (ws ++ w)) in
    let re : (us ++ at p signs.Void ∷ at q (signs.Function k) ∷ at r signs.Open ∷ (vs ++ at s signs.Close ∷ at t signs.Semicolon ∷ ws)) ++ w ≡ us ++ at p signs.Void ∷ at q (signs.Function k) ∷ rest = simp append_assoc in
    ap (run (Outside secs es)) re
    ∙ void_prototyped p q k secs es rest o
    ∙ parameters r s (ToPrototype secs es) (at t signs.Semicolon ∷ (ws ++ w)) v
    ∙ goes d secs is es w
goes (definition gs {us} {ws} {es = fs} {x} {n} o d) = λ secs is es w.
    ap (run (Outside secs es)) (append_assoc us ws w)
    ∙ definition_then secs es (ws ++ w) o
    ∙ goes d secs is (with_declared secs es x n) w
    ∙ regroup secs es (declared x n (guards_of secs) ∷ []) fs w
    ∙ ap (λ (y : List Guard). run (Outside secs (es ++ declared x n y ∷ fs)) w) is
goes (section p n gs {us} {vs} {ws} {cs} {ds} {es = fs} a b d) = λ secs is es w.
    let re : (us ++ (vs ++ ws)) ++ w ≡ us ++ (vs ++ (ws ++ w)) = simp append_assoc in
    ap (run (Outside (InPart (guards_of secs) n secs) es)) re
    ∙ goes a (InPart (guards_of secs) n secs) (ap (λ (y : List Guard). with_true y n) is) es (vs ++ (ws ++ w))
    ∙ goes b (guards_of secs) n secs (ap (λ (y : List Guard). with_false y n) is) (es ++ cs) (ws ++ w)
    ∙ goes d secs is ((es ++ cs) ++ ds) w
    ∙ ap (λ (y : List Declared). run (Outside secs y) w) (append_assoc (es ++ cs) ds fs ∙ append_assoc es cs (ds ++ fs))
goes (last_var gs {us} {vs} {x} {n} {kind} v o) = λ secs is es w.
    ap (run (Declaring kind secs es)) (append_assoc us vs w)
    ∙ at_end_of secs es w v o
    ∙ ap (λ (y : List Guard). run (Outside secs (es ++ declared x n y ∷ [])) w) is
goes (next_var p gs {us} {vs} {x} {n} {ds} {kind} v d) = λ secs is es w.
    ap (run (Declaring kind secs es)) (append_assoc us (at p signs.Comma ∷ vs) w)
    ∙ at_comma p secs es (vs ++ w) (vars_first d w) v
    ∙ goes d secs is (with_declared secs es x n) w
    ∙ regroup secs es (declared x n (guards_of secs) ∷ []) ds w
    ∙ ap (λ (y : List Guard). run (Outside secs (es ++ declared x n y ∷ ds)) w) is
goes (end_part p gs) = λ hs n outer is es w. ap (λ (y : List Declared). run (Outside outer y) w) (sym (append-nil es))
goes (else_part p q gs {us} {ds} d) = λ hs n outer is es w.
    ap (run (Outside (InLast (with_false hs n) outer) es)) (append_assoc us (at q signs.GroupEnd ∷ []) w)
    ∙ goes d (InLast (with_false hs n) outer) is es (at q signs.GroupEnd ∷ w)
goes (elif_part p m gs {us} {vs} {cs} {ds} a b) = λ hs n outer is es w.
    ap (run (Outside (InPart (with_false hs n) m outer) es)) (append_assoc us vs w)
    ∙ goes a (InPart (with_false hs n) m outer) (ap (λ (y : List Guard). with_true y m) is) es (vs ++ w)
    ∙ goes b (with_false hs n) m outer (ap (λ (y : List Guard). with_false y m) is) (es ++ cs) w
    ∙ regroup outer es cs ds w

-- ---- files

abbrev pub Passes : Gap → List Item → Type 0
Passes Gaps ts = (f : File) (parts : List Tailing) (w : List Item) → run (Over f parts) (ts ++ w) ≡ run (Over f parts) w
Passes GapRest ts = (f : File) (k : ℕ) (parts : List Tailing) (w : List Item) → run (Over f (Another k ∷ parts)) (ts ++ w) ≡ run (Over f parts) w

pub passes : {s : Gap} {ts : List Item} → Empty s ts → Passes s ts
unfolding run
passes no_more = λ f parts w. refl
passes (empty_section p n {us} {vs} {ws} a b d) = λ f parts w.
    let re : (us ++ (vs ++ ws)) ++ w ≡ us ++ (vs ++ (ws ++ w)) = simp append_assoc in
    ap (run (Over f (Another 1 ∷ parts))) re
    ∙ passes a f (Another 1 ∷ parts) (vs ++ (ws ++ w))
    ∙ passes b f 1 parts (ws ++ w)
    ∙ passes d f parts w
passes (empty_end p) = λ f k parts w. refl
passes (empty_else p q {us} a) = λ f k parts w.
    ap (run (Over f (Final k ∷ parts))) (append_assoc us (at q signs.GroupEnd ∷ []) w)
    ∙ passes a f (Final k ∷ parts) (at q signs.GroupEnd ∷ w)
passes (empty_elif p n {us} {vs} a b) = λ f k parts w.
    ap (run (Over f (Another (suc k) ∷ parts))) (append_assoc us vs w)
    ∙ passes a f (Another (suc k) ∷ parts) (vs ++ w)
    ∙ passes b f (suc k) parts w

over_all : (f : File) → run (Over f []) [] ≡ Ok f
unfolding run
over_all f = refl

ends_main : (p : Place) (ds : List Declared) (c : Code) (w : List Item) → run (Ready (Top ds c)) (at p signs.RightBrace ∷ w) ≡ run (Over (file_of ds c p) []) w
unfolding run
ends_main p ds c w = refl

body_read : {ts : List Item} {c : Code} {p : Place} (ds : List Declared) → Body ts c p → run (Ready (Top ds Done)) ts ≡ Ok (file_of ds c p)
body_read ds (body p {us} {vs} {c} s e) =
    accepted s (Top ds Done) tt refl (at p signs.RightBrace ∷ vs) tt ∙ ends_main p ds c vs ∙ ap (run (Over (file_of ds c p) [])) (sym (append-nil vs)) ∙ passes e (file_of ds c p) [] [] ∙ over_all (file_of ds c p)

main_read : {ts : List Item} {c : Code} {p : Place} (ds : List Declared) → Main ts c p → run (Outside Outermost ds) ts ≡ Ok (file_of ds c p)
unfolding run
main_read ds (main q r s t u {ts} {us} {vs} {c} y o b) =
    typed_then NoWord Outermost ds (at q signs.Main ∷ at r signs.Open ∷ (us ++ at s signs.Close ∷ at t signs.LeftBrace ∷ vs)) y ∙ parameters r s (ToMain ds) (at t signs.LeftBrace ∷ vs) o ∙ body_read ds b

pub is_read : (ts : List Item) (f : File) → Forms ts f → run start ts ≡ Ok f
is_read _ _ (file {us} {vs} {ds} {c} {p} d m) = goes d Outermost refl [] vs ∙ main_read ds m
