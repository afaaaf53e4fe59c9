-- What is read is spelled: declarations.
use Rattle.std.proofs.Common.{◌≡◌, ℕ, ℤ, pos, ◌+ℤ◌, ◌<ℤ◌, int_lt, true, false, cond, None, arith, List, [], ◌∷◌, ◌++◌, refl, sym, ap, subst, ◌∙◌, append_assoc}
use Rattle.std.specs.Prelude.{IfSome}
use Rattle.std.proofs.lemmas.Int.{ints}
use Rattle.std.proofs.lemmas.List.{append-nil}
use Rattle.fam_outer.specs.declared.faults.Place.{Place}
use Rattle.c_tree.specs.declared.tree.Op.TheVariants.{Sub}
use Rattle.c_tree.specs.declared.lists.Guard.{Guard}
use Rattle.c_tree.specs.declared.lists.Declared.{Declared}
use Rattle.c_tree.specs.Value.{greatest}
use Rattle.c_grammar.specs.declared.items.Sign.{Sign}
use Rattle.c_grammar.specs.declared.items.Sign.TheVariants as signs
use Rattle.c_grammar.specs.declared.items.Item.{Item}
use Rattle.c_grammar.specs.Grammar.{at, none, Optional, absent, present, Typed, int, int32, signed, signed_int, int_signed, Qualifier, Unqualified, Constant, Counted, behind, Callable, of_input, of_function, unqualified, const_before, const_behind, Begins, only_type, then_type, enumeration, Declarator, bare, positive, negative, counted, Ending, variables_end, constants_end, enumeration_end, comma_end, with_true, with_false, declared, Outer, Declares, nothing, variables, prototype, void_prototype, section, last_var, next_var, end_part, else_part, elif_part, main, File, file_of, Forms}
use Rattle.c_grammar.specs.Machine as machine
use Rattle.c_grammar.specs.Machine.{Sections, Outermost, InPart, InLast, guards_of, Aim, ToPrototype, ToMain, Outside, AfterStatic, AfterExtern, AfterConst, AfterEnum, AfterDefine, AfterVoidType, AfterType, Leading, NoWord, StaticWord, ExternWord, ConstWord, TypeWords, OneInt, OneSigned, WholeType, Declaring, Bare, Starting, Negating, Started, Listing, Enumerated, Parameters, InParameters, AfterVoid, AfterParameters, with_declared, at_open, at_close, at_semicolon, at_function, at_void_function, next_condition, last_section, section_end, outside, behind_extern, behind_static, declaring, qualifying, main_of, first_word, naming, behind_type, after_type, after_enum, listed, declaration_end, started, listing, counts_on, without_value, is_bare, starting, negating, in_parameters, after_parameters}
use Rattle.c_grammar.proofs.Standing.{Words, one_int, one_signed, whole_type, const_alone, static_const, Led, no_word, static_word, extern_word, const_word, Heads, value_head, void_head, Tail, VarsTail, Stands}

-- ---- one item in front of what may come next

pub moves : {f : File} (a : List Item) (x : Item) (w : List Item) → Forms (a ++ x ∷ w) f → Forms ((a ++ x ∷ []) ++ w) f
moves {f} a x w h = subst (λ (y : List Item). Forms y f) (sym (append_assoc a (x ∷ []) w)) h

pub tail_at : (secs : Sections) (ds es : List Declared) (w : List Item) (f : File) → ds ≡ es → Tail secs ds w f → Tail secs es w f
tail_at secs ds es w f is t = subst (λ (y : List Declared). Tail secs y w f) is t

-- declarations in front
pub prepends : (secs : Sections) (ds es : List Declared) (t w : List Item) (f : File) → ((us : List Item) (fs : List Declared) → Declares (Outer (guards_of secs)) us fs → Declares (Outer (guards_of secs)) (t ++ us) (es ++ fs)) → Tail secs (ds ++ es) w f → Tail secs ds (t ++ w) f
prepends Outermost ds es t w f k r = (t ++ r.0, r.1, es ++ r.2, r.3, r.4, k r.0 r.2 r.5, r.6, ap (λ (y : List Item). t ++ y) r.7 ∙ sym (append_assoc t r.0 r.1), r.8 ∙ ap (λ (y : List Declared). file_of y r.3 r.4) (append_assoc ds es r.2))
prepends (InPart gs n outer) ds es t w f k r =
    let is : (ds ++ es) ++ (r.3 ++ r.4) ≡ ds ++ ((es ++ r.3) ++ r.4) = simp append_assoc in
    (t ++ r.0, r.1, r.2, es ++ r.3, r.4, k r.0 r.3 r.5, r.6, tail_at outer ((ds ++ es) ++ (r.3 ++ r.4)) (ds ++ ((es ++ r.3) ++ r.4)) r.2 f is r.7, ap (λ (y : List Item). t ++ y) r.8 ∙ sym (append_assoc t r.0 (r.1 ++ r.2)))
prepends (InLast gs outer) ds es t w f k r =
    (t ++ r.0, r.1, es ++ r.2, r.3, k r.0 r.2 r.4, tail_at outer ((ds ++ es) ++ r.2) (ds ++ (es ++ r.2)) r.1 f (append_assoc ds es r.2) r.5, ap (λ (y : List Item). t ++ y) r.6 ∙ sym (append_assoc t r.0 (at r.3 signs.GroupEnd ∷ r.1)))

vars_tail : {us : List Item} {kind : Qualifier} (secs : Sections) (ds : List Declared) (w : List Item) (f : File) → Begins signs.Static kind us → VarsTail kind secs ds w f → Tail secs ds (us ++ w) f
vars_tail {us} secs ds w f o v =
    let is : (us ++ v.0) ++ v.1 ≡ us ++ w = append_assoc us v.0 v.1 ∙ ap (λ (y : List Item). us ++ y) (sym v.5) in
    let k : (ws : List Item) (fs : List Declared) → Declares (Outer (guards_of secs)) ws fs → Declares (Outer (guards_of secs)) ((us ++ v.0) ++ ws) (v.2 ++ fs) =
    λ ws fs d. subst (λ (y : List Item). Declares (Outer (guards_of secs)) y (v.2 ++ fs)) (sym (append_assoc us v.0 ws)) (variables (guards_of secs) o v.3 d) in
    subst (λ (y : List Item). Tail secs ds y f) is (prepends secs ds v.2 (us ++ v.0) v.1 f k v.4)

-- a declaration of a function in front
head_declares : {us vs ws : List Item} {es : List Declared} (r s t : Place) (gs : List Guard) → Heads us → Optional signs.Void vs → Declares (Outer gs) ws es → Declares (Outer gs) (us ++ at r signs.Open ∷ (vs ++ at s signs.Close ∷ at t signs.Semicolon ∷ ws)) es
head_declares {vs = vs} {ws = ws} {es = es} r s t gs (value_head q {f} {us} o g) v d =
    subst (λ (y : List Item). Declares (Outer gs) y es) (sym (append_assoc us (at q f ∷ []) (at r signs.Open ∷ (vs ++ at s signs.Close ∷ at t signs.Semicolon ∷ ws)))) (prototype q r s t gs o g v d)
head_declares {vs = vs} {ws = ws} {es = es} r s t gs (void_head p q k {us} o) v d =
    subst (λ (y : List Item). Declares (Outer gs) y es) (sym (append_assoc us (at p signs.Void ∷ at q (signs.Function k) ∷ []) (at r signs.Open ∷ (vs ++ at s signs.Close ∷ at t signs.Semicolon ∷ ws)))) (void_prototype p q r s t k gs o v d)

prototype_tail : {us vs : List Item} (r s t : Place) (secs : Sections) (ds : List Declared) (w : List Item) (f : File) → Heads us → Optional signs.Void vs → Tail secs ds w f → Tail secs ds (us ++ at r signs.Open ∷ (vs ++ at s signs.Close ∷ at t signs.Semicolon ∷ w)) f
prototype_tail {us} {vs} r s t secs ds w f o v h =
    let text : List Item = us ++ at r signs.Open ∷ (vs ++ at s signs.Close ∷ at t signs.Semicolon ∷ []) in
    let re : (ws : List Item) → us ++ at r signs.Open ∷ (vs ++ at s signs.Close ∷ at t signs.Semicolon ∷ ws) ≡ text ++ ws = λ ws. simp append_assoc in
    let k : (ws : List Item) (fs : List Declared) → Declares (Outer (guards_of secs)) ws fs → Declares (Outer (guards_of secs)) (text ++ ws) ([] ++ fs) =
    λ ws fs d. subst (λ (y : List Item). Declares (Outer (guards_of secs)) y fs) (re ws) (head_declares r s t (guards_of secs) o v d) in
    subst (λ (y : List Item). Tail secs ds y f) (sym (re w)) (prepends secs ds [] text w f k (tail_at secs ds (ds ++ []) w f (sym (append-nil ds)) h))

open_tail : (p : Place) (n : ℕ) (secs : Sections) (ds : List Declared) (w : List Item) (f : File) → Tail (InPart (guards_of secs) n secs) ds w f → Tail secs ds (at p (signs.GroupIf n) ∷ w) f
open_tail p n secs ds w f r =
    let text : List Item = at p (signs.GroupIf n) ∷ (r.0 ++ r.1) in
    let k : (ws : List Item) (fs : List Declared) → Declares (Outer (guards_of secs)) ws fs → Declares (Outer (guards_of secs)) (text ++ ws) ((r.3 ++ r.4) ++ fs) =
    λ ws fs d.
    subst (λ (y : List Item). Declares (Outer (guards_of secs)) (at p (signs.GroupIf n) ∷ y) ((r.3 ++ r.4) ++ fs)) (sym (append_assoc r.0 r.1 ws))
    (subst (λ (y : List Declared). Declares (Outer (guards_of secs)) (at p (signs.GroupIf n) ∷ (r.0 ++ (r.1 ++ ws))) y) (sym (append_assoc r.3 r.4 fs)) (section p n (guards_of secs) r.5 r.6 d)) in
    let is : text ++ r.2 ≡ at p (signs.GroupIf n) ∷ w = ap (λ (y : List Item). at p (signs.GroupIf n) ∷ y) (append_assoc r.0 r.1 r.2 ∙ sym r.8) in
    subst (λ (y : List Item). Tail secs ds y f) is (prepends secs ds (r.3 ++ r.4) text r.2 f k r.7)

-- ---- declarators

-- behind a declarator: another one, or what ends the declaration
next_tail : {us : List Item} (kind : Qualifier) (x : ℕ) (n : ℤ) (secs : Sections) (ds : List Declared) (p : Place) (w : List Item) (f : File) → VarsTail (behind kind n) secs (with_declared secs ds x n) w f → Declarator kind us x n → VarsTail kind secs ds (us ++ at p signs.Comma ∷ w) f
next_tail {us} kind x n secs ds p w f v d = (
  us ++ at p signs.Comma ∷ v.0,
  v.1,
  declared x n (guards_of secs) ∷ v.2,
  next_var p (guards_of secs) d v.3,
  tail_at secs (with_declared secs ds x n ++ v.2) (ds ++ declared x n (guards_of secs) ∷ v.2) v.1 f (append_assoc ds (declared x n (guards_of secs) ∷ []) v.2) v.4,
  ap (λ (y : List Item). us ++ at p signs.Comma ∷ y) v.5 ∙ sym (append_assoc us (at p signs.Comma ∷ v.0) v.1),
)

last_tail : {us vs : List Item} (kind : Qualifier) (x : ℕ) (n : ℤ) (secs : Sections) (ds : List Declared) (w : List Item) (f : File) → Tail secs (with_declared secs ds x n) w f → Ending kind vs → Declarator kind us x n → VarsTail kind secs ds (us ++ (vs ++ w)) f
last_tail {us} {vs} kind x n secs ds w f t o d = (us ++ vs, w, declared x n (guards_of secs) ∷ [], last_var (guards_of secs) d o, t, sym (append_assoc us vs w))

comma_keeps : (kind : Qualifier) (x : ℕ) (n : ℤ) (secs : Sections) (ds : List Declared) (p : Place) (a : List Item) → Stands (Started kind x n secs ds) a → Stands (listed kind n secs (with_declared secs ds x n)) (a ++ at p signs.Comma ∷ [])
comma_keeps Unqualified x n secs ds p a r = λ w f v. moves a (at p signs.Comma) w (r (at p signs.Comma ∷ w) f (λ us d. next_tail Unqualified x n secs ds p w f v d))
comma_keeps Constant x n secs ds p a r = λ w f v. moves a (at p signs.Comma) w (r (at p signs.Comma ∷ w) f (λ us d. next_tail Constant x n secs ds p w f v d))
comma_keeps (Counted last) x n secs ds p a r = (
  λ w f v. moves a (at p signs.Comma) w (r (at p signs.Comma ∷ w) f (λ us d. next_tail (Counted last) x n secs ds p w f v d)),
  λ q s w f t.
      let rest : List Item = at q signs.RightBrace ∷ at s signs.Semicolon ∷ w in
      moves a (at p signs.Comma) rest (r (at p signs.Comma ∷ rest) f (λ us d. last_tail (Counted last) x n secs ds w f t (comma_end last p q s) d)),
)

semicolon_keeps : (kind : Qualifier) (x : ℕ) (n : ℤ) (secs : Sections) (ds : List Declared) (p : Place) (a : List Item) → Stands (Started kind x n secs ds) a → IfSome (declaration_end kind secs (with_declared secs ds x n)) (λ next. Stands next (a ++ at p signs.Semicolon ∷ []))
semicolon_keeps Unqualified x n secs ds p a r = λ w f t. moves a (at p signs.Semicolon) w (r (at p signs.Semicolon ∷ w) f (λ us d. last_tail Unqualified x n secs ds w f t (variables_end p) d))
semicolon_keeps Constant x n secs ds p a r = λ w f t. moves a (at p signs.Semicolon) w (r (at p signs.Semicolon ∷ w) f (λ us d. last_tail Constant x n secs ds w f t (constants_end p) d))
semicolon_keeps (Counted last) x n secs ds p a r = tt

brace_keeps : (kind : Qualifier) (x : ℕ) (n : ℤ) (secs : Sections) (ds : List Declared) (p : Place) (a : List Item) → Stands (Started kind x n secs ds) a → IfSome (machine.enumeration_end kind secs (with_declared secs ds x n)) (λ next. Stands next (a ++ at p signs.RightBrace ∷ []))
brace_keeps Unqualified x n secs ds p a r = tt
brace_keeps Constant x n secs ds p a r = tt
brace_keeps (Counted last) x n secs ds p a r = λ q w f t.
    let rest : List Item = at q signs.Semicolon ∷ w in
    moves a (at p signs.RightBrace) rest (r (at p signs.RightBrace ∷ rest) f (λ us d. last_tail (Counted last) x n secs ds w f t (enumeration_end last p q) d))

pub started_keeps : (kind : Qualifier) (x : ℕ) (n : ℤ) (secs : Sections) (ds : List Declared) (p : Place) (s : Sign) (a : List Item) → Stands (Started kind x n secs ds) a → IfSome (started kind x n secs ds s) (λ next. Stands next (a ++ at p s ∷ []))
started_keeps kind x n secs ds p signs.Comma a r = comma_keeps kind x n secs ds p a r
started_keeps kind x n secs ds p signs.Semicolon a r = semicolon_keeps kind x n secs ds p a r
started_keeps kind x n secs ds p signs.RightBrace a r = brace_keeps kind x n secs ds p a r
started_keeps kind x n secs ds p _ a r = tt

bare_started : (x : ℕ) (secs : Sections) (ds : List Declared) (a : List Item) → Stands (Bare Unqualified x secs ds) a → Stands (Started Unqualified x (pos 0) secs ds) a
bare_started x secs ds a r = λ w f k. r w f (λ p. k (at p (signs.Name x) ∷ []) (bare p x))

is_less : (m n : ℤ) → int_lt m n ≡ true → m <ℤ n
is_less m n e = grind (arith, ints)

counts_keeps : (last : ℤ) (x : ℕ) (secs : Sections) (ds : List Declared) (p : Place) (s : Sign) (a : List Item) → Stands (Bare (Counted last) x secs ds) a → IfSome (counts_on last x secs ds s) (λ next. Stands next (a ++ at p s ∷ []))
counts_keeps last x secs ds p s a r =
    elim (int_lt last greatest) as (λ b. int_lt last greatest ≡ b → IfSome (cond b (started (Counted last) x (last +ℤ pos 1) secs ds s) None) (λ next. Stands next (a ++ at p s ∷ []))) [
      | true ↦ λ e. started_keeps (Counted last) x (last +ℤ pos 1) secs ds p s a (λ w f k. r w f (λ q. k (at q (signs.Name x) ∷ []) (counted q x last (is_less last greatest e))))
      | false ↦ λ e. tt
    ] refl

unvalued_keeps : (kind : Qualifier) (x : ℕ) (secs : Sections) (ds : List Declared) (p : Place) (s : Sign) (a : List Item) → Stands (Bare kind x secs ds) a → IfSome (without_value kind x secs ds s) (λ next. Stands next (a ++ at p s ∷ []))
unvalued_keeps Unqualified x secs ds p s a r = started_keeps Unqualified x (pos 0) secs ds p s a (bare_started x secs ds a r)
unvalued_keeps Constant x secs ds p s a r = tt
unvalued_keeps (Counted last) x secs ds p s a r = counts_keeps last x secs ds p s a r

pub bare_keeps : (kind : Qualifier) (x : ℕ) (secs : Sections) (ds : List Declared) (p : Place) (s : Sign) (a : List Item) → Stands (Bare kind x secs ds) a → IfSome (is_bare kind x secs ds s) (λ next. Stands next (a ++ at p s ∷ []))
bare_keeps kind x secs ds p signs.Equals a r = λ w f k. moves a (at p signs.Equals) w (r (at p signs.Equals ∷ w) f (λ q. k q p))
bare_keeps kind x secs ds p s a r = unvalued_keeps kind x secs ds p s a r

pub starting_keeps : (kind : Qualifier) (x : ℕ) (secs : Sections) (ds : List Declared) (p : Place) (s : Sign) (a : List Item) → Stands (Starting kind x secs ds) a → IfSome (starting kind x secs ds s) (λ next. Stands next (a ++ at p s ∷ []))
starting_keeps kind x secs ds p (signs.Number n) a r = λ w f k. moves a (at p (signs.Number n)) w (r (at p (signs.Number n) ∷ w) f (λ q t. k (at q (signs.Name x) ∷ at t signs.Equals ∷ at p (signs.Number n) ∷ []) (positive q t p x n)))
starting_keeps kind x secs ds p (signs.Oper Sub) a r = λ w f k. moves a (at p (signs.Oper Sub)) w (r (at p (signs.Oper Sub) ∷ w) f (λ q t. k q t p))
starting_keeps kind x secs ds p _ a r = tt

pub negating_keeps : (kind : Qualifier) (x : ℕ) (secs : Sections) (ds : List Declared) (p : Place) (s : Sign) (a : List Item) → Stands (Negating kind x secs ds) a → IfSome (negating kind x secs ds s) (λ next. Stands next (a ++ at p s ∷ []))
negating_keeps kind x secs ds p (signs.Number n) a r = λ w f k. moves a (at p (signs.Number n)) w (r (at p (signs.Number n) ∷ w) f (λ q t u. k (at q (signs.Name x) ∷ at t signs.Equals ∷ at u (signs.Oper Sub) ∷ at p (signs.Number n) ∷ []) (negative q t u p x n)))
negating_keeps kind x secs ds p _ a r = tt

pub declaring_keeps : (kind : Qualifier) (secs : Sections) (ds : List Declared) (p : Place) (s : Sign) (a : List Item) → Stands (Declaring kind secs ds) a → IfSome (declaring kind secs ds s) (λ next. Stands next (a ++ at p s ∷ []))
declaring_keeps kind secs ds p (signs.Name x) a r = λ w f k. moves a (at p (signs.Name x)) w (r (at p (signs.Name x) ∷ w) f (k p))
declaring_keeps kind secs ds p _ a r = tt

pub listing_keeps : (last : ℤ) (secs : Sections) (ds : List Declared) (p : Place) (s : Sign) (a : List Item) → Stands (Listing last secs ds) a → IfSome (listing last secs ds s) (λ next. Stands next (a ++ at p s ∷ []))
listing_keeps last secs ds p signs.RightBrace a r = λ q w f t. moves a (at p signs.RightBrace) (at q signs.Semicolon ∷ w) (r.1 p q w f t)
listing_keeps last secs ds p (signs.Name x) a r = declaring_keeps (Counted last) secs ds p (signs.Name x) a r.0
listing_keeps last secs ds p _ a r = tt

pub enumerated_keeps : (secs : Sections) (ds : List Declared) (p : Place) (s : Sign) (a : List Item) → Stands (Enumerated secs ds) a → IfSome (at_semicolon (Outside secs ds) s) (λ next. Stands next (a ++ at p s ∷ []))
enumerated_keeps secs ds p signs.Semicolon a r = λ w f t. moves a (at p signs.Semicolon) w (r p w f t)
enumerated_keeps secs ds p _ a r = tt

-- ---- the first items of declarations

pub enum_keeps : (secs : Sections) (ds : List Declared) (p : Place) (s : Sign) (a : List Item) → Stands (AfterEnum secs ds) a → IfSome (after_enum secs ds s) (λ next. Stands next (a ++ at p s ∷ []))
enum_keeps secs ds p signs.LeftBrace a r = λ w f v. moves a (at p signs.LeftBrace) w (r (at p signs.LeftBrace ∷ w) f (λ q. vars_tail secs ds w f (enumeration q p signs.Static) v))
enum_keeps secs ds p _ a r = tt

-- the words of a whole type, and what a declaration begins with
pub words_typed : {t : TypeWords} {us : List Item} → Words t us → Typed us
words_typed (one_int p) = int p
words_typed (one_signed p) = signed p
words_typed (whole_type y) = y

led_typed : {t : TypeWords} {us : List Item} → Led NoWord t us → Typed us
led_typed (no_word k) = words_typed k

led_alone : {t : TypeWords} {us : List Item} (s : Sign) → Led NoWord t us → Begins s Unqualified us
led_alone s k = only_type s (unqualified (led_typed k))

led_static : {t : TypeWords} {us : List Item} → Led StaticWord t us → Begins signs.Static Unqualified us
led_static (static_word p k) = then_type p signs.Static (unqualified (words_typed k))

led_extern : {t : TypeWords} {us : List Item} → Led ExternWord t us → Begins signs.Extern Unqualified us
led_extern (extern_word p k) = then_type p signs.Extern (unqualified (words_typed k))

led_const : {t : TypeWords} {us : List Item} → Led ConstWord t us → Begins signs.Static Constant us
led_const (const_word (const_alone p) k) = only_type signs.Static (const_before p (words_typed k))
led_const (const_word (static_const p q) k) = then_type p signs.Static (const_before q (words_typed k))

-- `const` behind the type
then_const : {t : TypeWords} {us : List Item} (p : Place) → Led NoWord t us → Begins signs.Static Constant (us ++ at p signs.Const ∷ [])
then_const p (no_word k) = only_type signs.Static (const_behind p (words_typed k))

static_then_const : {t : TypeWords} {us : List Item} (p : Place) → Led StaticWord t us → Begins signs.Static Constant (us ++ at p signs.Const ∷ [])
static_then_const p (static_word q k) = then_type q signs.Static (const_behind p (words_typed k))

-- a second word
then_signed : {lead : Leading} {us : List Item} (p : Place) → Led lead OneInt us → Led lead WholeType (us ++ at p signs.Signed ∷ [])
then_signed p (no_word (one_int q)) = no_word (whole_type (int_signed q p))
then_signed p (static_word r (one_int q)) = static_word r (whole_type (int_signed q p))
then_signed p (extern_word r (one_int q)) = extern_word r (whole_type (int_signed q p))
then_signed p (const_word (const_alone r) (one_int q)) = const_word (const_alone r) (whole_type (int_signed q p))
then_signed p (const_word (static_const r t) (one_int q)) = const_word (static_const r t) (whole_type (int_signed q p))

then_int : {lead : Leading} {us : List Item} (p : Place) → Led lead OneSigned us → Led lead WholeType (us ++ at p signs.Int ∷ [])
then_int p (no_word (one_signed q)) = no_word (whole_type (signed_int q p))
then_int p (static_word r (one_signed q)) = static_word r (whole_type (signed_int q p))
then_int p (extern_word r (one_signed q)) = extern_word r (whole_type (signed_int q p))
then_int p (const_word (const_alone r) (one_signed q)) = const_word (const_alone r) (whole_type (signed_int q p))
then_int p (const_word (static_const r t) (one_signed q)) = const_word (static_const r t) (whole_type (signed_int q p))

regrouped : (secs : Sections) (ds : List Declared) (us : List Item) (x : Item) (w : List Item) (f : File) → Tail secs ds ((us ++ x ∷ []) ++ w) f → Tail secs ds (us ++ x ∷ w) f
regrouped secs ds us x w f t = subst (λ (y : List Item). Tail secs ds y f) (append_assoc us (x ∷ []) w) t

pub static_keeps : (secs : Sections) (ds : List Declared) (p : Place) (s : Sign) (a : List Item) → Stands (AfterStatic secs ds) a → IfSome (behind_static secs ds s) (λ next. Stands next (a ++ at p s ∷ []))
static_keeps secs ds p signs.Const a r = λ w f k. moves a (at p signs.Const) w (r (at p signs.Const ∷ w) f (λ q. k (at q signs.Static ∷ at p signs.Const ∷ []) (static_const q p)))
static_keeps secs ds p signs.Int a r = λ w f k. moves a (at p signs.Int) w (r (at p signs.Int ∷ w) f (λ q. k (at q signs.Static ∷ at p signs.Int ∷ []) (static_word q (one_int p))))
static_keeps secs ds p signs.Int32 a r = λ w f k. moves a (at p signs.Int32) w (r (at p signs.Int32 ∷ w) f (λ q. k (at q signs.Static ∷ at p signs.Int32 ∷ []) (static_word q (whole_type (int32 p)))))
static_keeps secs ds p signs.Signed a r = λ w f k. moves a (at p signs.Signed) w (r (at p signs.Signed ∷ w) f (λ q. k (at q signs.Static ∷ at p signs.Signed ∷ []) (static_word q (one_signed p))))
static_keeps secs ds p _ a r = tt

pub extern_keeps : (secs : Sections) (ds : List Declared) (p : Place) (s : Sign) (a : List Item) → Stands (AfterExtern secs ds) a → IfSome (behind_extern secs ds s) (λ next. Stands next (a ++ at p s ∷ []))
extern_keeps secs ds p signs.Void a r = λ w f k. moves a (at p signs.Void) w (r (at p signs.Void ∷ w) f (λ q. k p (at q signs.Extern ∷ []) (present q signs.Extern)))
extern_keeps secs ds p signs.Int a r = λ w f k. moves a (at p signs.Int) w (r (at p signs.Int ∷ w) f (λ q. k (at q signs.Extern ∷ at p signs.Int ∷ []) (extern_word q (one_int p))))
extern_keeps secs ds p signs.Int32 a r = λ w f k. moves a (at p signs.Int32) w (r (at p signs.Int32 ∷ w) f (λ q. k (at q signs.Extern ∷ at p signs.Int32 ∷ []) (extern_word q (whole_type (int32 p)))))
extern_keeps secs ds p signs.Signed a r = λ w f k. moves a (at p signs.Signed) w (r (at p signs.Signed ∷ w) f (λ q. k (at q signs.Extern ∷ at p signs.Signed ∷ []) (extern_word q (one_signed p))))
extern_keeps secs ds p _ a r = tt

pub void_type_keeps : (secs : Sections) (ds : List Declared) (p : Place) (s : Sign) (a : List Item) → Stands (AfterVoidType secs ds) a → IfSome (at_void_function (Parameters (ToPrototype secs ds)) s) (λ next. Stands next (a ++ at p s ∷ []))
void_type_keeps secs ds p (signs.Function n) a r = λ w f k.
    let name : Item = at p (signs.Function n) in
    moves a name w (r (name ∷ w) f (λ q us o. subst (λ (y : List Item). Tail secs ds y f) (append_assoc us (at q signs.Void ∷ name ∷ []) w) (k (us ++ at q signs.Void ∷ name ∷ []) (void_head q p n o))))
void_type_keeps secs ds p _ a r = tt

pub const_keeps : (secs : Sections) (ds : List Declared) (p : Place) (s : Sign) (a : List Item) → Stands (AfterConst secs ds) a → IfSome (first_word ConstWord secs ds s) (λ next. Stands next (a ++ at p s ∷ []))
const_keeps secs ds p signs.Int a r = λ w f k. moves a (at p signs.Int) w (r (at p signs.Int ∷ w) f (λ us c. regrouped secs ds us (at p signs.Int) w f (k (us ++ at p signs.Int ∷ []) (const_word c (one_int p)))))
const_keeps secs ds p signs.Int32 a r = λ w f k. moves a (at p signs.Int32) w (r (at p signs.Int32 ∷ w) f (λ us c. regrouped secs ds us (at p signs.Int32) w f (k (us ++ at p signs.Int32 ∷ []) (const_word c (whole_type (int32 p))))))
const_keeps secs ds p signs.Signed a r = λ w f k. moves a (at p signs.Signed) w (r (at p signs.Signed ∷ w) f (λ us c. regrouped secs ds us (at p signs.Signed) w f (k (us ++ at p signs.Signed ∷ []) (const_word c (one_signed p)))))
const_keeps secs ds p _ a r = tt

main_keeps : (words : TypeWords) (secs : Sections) (ds : List Declared) (p : Place) (a : List Item) → Stands (AfterType NoWord words secs ds) a → IfSome (main_of secs ds) (λ next. Stands next (a ++ at p signs.Main ∷ []))
main_keeps words Outermost ds p a r = λ w f k. moves a (at p signs.Main) w (r (at p signs.Main ∷ w) f (λ us h. k p us (led_typed h)))
main_keeps words _ ds p a r = tt

-- the name of a function
named_head : {f : Sign} (secs : Sections) (ds : List Declared) (p : Place) (us w : List Item) (made : File) → Begins signs.Extern Unqualified us → Callable f → ((vs : List Item) → Heads vs → Tail secs ds (vs ++ w) made) → Tail secs ds (us ++ at p f ∷ w) made
named_head {f} secs ds p us w made o g k = regrouped secs ds us (at p f) w made (k (us ++ at p f ∷ []) (value_head p o g))

naming_keeps : (words : TypeWords) (secs : Sections) (ds : List Declared) (p : Place) (s : Sign) (a : List Item) → Stands (AfterType NoWord words secs ds) a → IfSome (naming secs ds s) (λ next. Stands next (a ++ at p s ∷ []))
naming_keeps words secs ds p signs.Const a r = λ w f k. moves a (at p signs.Const) w (r (at p signs.Const ∷ w) f (λ us h. regrouped secs ds us (at p signs.Const) w f (vars_tail secs ds w f (then_const p h) k)))
naming_keeps words secs ds p (signs.Name x) a r = λ w f k. moves a (at p (signs.Name x)) w (r (at p (signs.Name x) ∷ w) f (λ us h. vars_tail secs ds (at p (signs.Name x) ∷ w) f (led_alone signs.Static h) (k p)))
naming_keeps words secs ds p signs.Input a r = λ w f k. moves a (at p signs.Input) w (r (at p signs.Input ∷ w) f (λ us h. named_head secs ds p us w f (led_alone signs.Extern h) of_input k))
naming_keeps words secs ds p (signs.Function n) a r = λ w f k. moves a (at p (signs.Function n)) w (r (at p (signs.Function n) ∷ w) f (λ us h. named_head secs ds p us w f (led_alone signs.Extern h) (of_function n) k))
naming_keeps words secs ds p signs.Main a r = main_keeps words secs ds p a r
naming_keeps words secs ds p _ a r = tt

static_name_keeps : (words : TypeWords) (secs : Sections) (ds : List Declared) (p : Place) (s : Sign) (a : List Item) → Stands (AfterType StaticWord words secs ds) a → IfSome (qualifying secs ds s) (λ next. Stands next (a ++ at p s ∷ []))
static_name_keeps words secs ds p signs.Const a r = λ w f k. moves a (at p signs.Const) w (r (at p signs.Const ∷ w) f (λ us h. regrouped secs ds us (at p signs.Const) w f (vars_tail secs ds w f (static_then_const p h) k)))
static_name_keeps words secs ds p (signs.Name x) a r = λ w f k. moves a (at p (signs.Name x)) w (r (at p (signs.Name x) ∷ w) f (λ us h. vars_tail secs ds (at p (signs.Name x) ∷ w) f (led_static h) (k p)))
static_name_keeps words secs ds p _ a r = tt

extern_name_keeps : (words : TypeWords) (secs : Sections) (ds : List Declared) (p : Place) (s : Sign) (a : List Item) → Stands (AfterType ExternWord words secs ds) a → IfSome (at_function (Parameters (ToPrototype secs ds)) s) (λ next. Stands next (a ++ at p s ∷ []))
extern_name_keeps words secs ds p signs.Input a r = λ w f k. moves a (at p signs.Input) w (r (at p signs.Input ∷ w) f (λ us h. named_head secs ds p us w f (led_extern h) of_input k))
extern_name_keeps words secs ds p (signs.Function n) a r = λ w f k. moves a (at p (signs.Function n)) w (r (at p (signs.Function n) ∷ w) f (λ us h. named_head secs ds p us w f (led_extern h) (of_function n) k))
extern_name_keeps words secs ds p _ a r = tt

const_name_keeps : (words : TypeWords) (secs : Sections) (ds : List Declared) (p : Place) (s : Sign) (a : List Item) → Stands (AfterType ConstWord words secs ds) a → IfSome (declaring Constant secs ds s) (λ next. Stands next (a ++ at p s ∷ []))
const_name_keeps words secs ds p (signs.Name x) a r = λ w f k. moves a (at p (signs.Name x)) w (r (at p (signs.Name x) ∷ w) f (λ us h. vars_tail secs ds (at p (signs.Name x) ∷ w) f (led_const h) (k p)))
const_name_keeps words secs ds p _ a r = tt

behind_type_keeps : (lead : Leading) (words : TypeWords) (secs : Sections) (ds : List Declared) (p : Place) (s : Sign) (a : List Item) → Stands (AfterType lead words secs ds) a → IfSome (behind_type lead secs ds s) (λ next. Stands next (a ++ at p s ∷ []))
behind_type_keeps NoWord words secs ds p s a r = naming_keeps words secs ds p s a r
behind_type_keeps StaticWord words secs ds p s a r = static_name_keeps words secs ds p s a r
behind_type_keeps ExternWord words secs ds p s a r = extern_name_keeps words secs ds p s a r
behind_type_keeps ConstWord words secs ds p s a r = const_name_keeps words secs ds p s a r

pub type_keeps : (lead : Leading) (secs : Sections) (ds : List Declared) (p : Place) (s : Sign) (words : TypeWords) (a : List Item) → Stands (AfterType lead words secs ds) a → IfSome (after_type lead secs ds s words) (λ next. Stands next (a ++ at p s ∷ []))
type_keeps lead secs ds p signs.Signed OneInt a r = λ w f k. moves a (at p signs.Signed) w (r (at p signs.Signed ∷ w) f (λ us h. regrouped secs ds us (at p signs.Signed) w f (k (us ++ at p signs.Signed ∷ []) (then_signed p h))))
type_keeps lead secs ds p signs.Int OneSigned a r = λ w f k. moves a (at p signs.Int) w (r (at p signs.Int ∷ w) f (λ us h. regrouped secs ds us (at p signs.Int) w f (k (us ++ at p signs.Int ∷ []) (then_int p h))))
type_keeps lead secs ds p s words a r = behind_type_keeps lead words secs ds p s a r

-- ---- parameters

pub parameters_keeps : (aim : Aim) (p : Place) (s : Sign) (a : List Item) → Stands (Parameters aim) a → IfSome (at_open (InParameters aim) s) (λ next. Stands next (a ++ at p s ∷ []))
parameters_keeps aim p signs.Open a r = λ w f k. moves a (at p signs.Open) w (r (at p signs.Open ∷ w) f (k p))
parameters_keeps aim p _ a r = tt

pub in_parameters_keeps : (aim : Aim) (p : Place) (s : Sign) (a : List Item) → Stands (InParameters aim) a → IfSome (in_parameters aim s) (λ next. Stands next (a ++ at p s ∷ []))
in_parameters_keeps aim p signs.Void a r = λ w f k. moves a (at p signs.Void) w (r (at p signs.Void ∷ w) f (λ q. k q p))
in_parameters_keeps aim p signs.Close a r = λ w f k. moves a (at p signs.Close) w (r (at p signs.Close ∷ w) f (λ q. k q p [] (absent signs.Void)))
in_parameters_keeps aim p _ a r = tt

pub void_keeps : (aim : Aim) (p : Place) (s : Sign) (a : List Item) → Stands (AfterVoid aim) a → IfSome (at_close (AfterParameters aim) s) (λ next. Stands next (a ++ at p s ∷ []))
void_keeps aim p signs.Close a r = λ w f k. moves a (at p signs.Close) w (r (at p signs.Close ∷ w) f (λ q t. k q p (at t signs.Void ∷ []) (present t signs.Void)))
void_keeps aim p _ a r = tt

pub after_parameters_keeps : (aim : Aim) (p : Place) (s : Sign) (a : List Item) → Stands (AfterParameters aim) a → IfSome (after_parameters aim s) (λ next. Stands next (a ++ at p s ∷ []))
after_parameters_keeps (ToPrototype secs ds) p signs.Semicolon a r = λ w f t. moves a (at p signs.Semicolon) w (r (at p signs.Semicolon ∷ w) f (λ u s vs v us o. prototype_tail u s p secs ds w f o v t))
after_parameters_keeps (ToMain ds) p signs.LeftBrace a r = (
  a ++ at p signs.LeftBrace ∷ [],
  [],
  λ us c q b. moves a (at p signs.LeftBrace) us (r (at p signs.LeftBrace ∷ us) (file_of ds c q) (λ u s vs v z ts y. (
    [],
    ts ++ at z signs.Main ∷ at u signs.Open ∷ (vs ++ at s signs.Close ∷ at p signs.LeftBrace ∷ us),
    [],
    c,
    q,
    nothing [],
    main z u s p q y v b,
    refl,
    ap (λ (y : List Declared). file_of y c q) (sym (append-nil ds)),
  ))),
  none,
  sym (append-nil (a ++ at p signs.LeftBrace ∷ [])),
)
after_parameters_keeps _ p _ a r = tt

-- ---- groups around declarations

pub condition_keeps : (m : ℕ) (secs : Sections) (ds : List Declared) (p : Place) (a : List Item) → Stands (Outside secs ds) a → IfSome (next_condition m secs ds) (λ next. Stands next (a ++ at p (signs.GroupElif m) ∷ []))
condition_keeps m Outermost ds p a r = tt
condition_keeps m (InPart gs n outer) ds p a r = λ w f t. moves a (at p (signs.GroupElif m)) w (r (at p (signs.GroupElif m) ∷ w) f (
  [],
  at p (signs.GroupElif m) ∷ (t.0 ++ t.1),
  t.2,
  [],
  t.3 ++ t.4,
  nothing (with_true gs n),
  elif_part p m (with_false gs n) t.5 t.6,
  t.7,
  ap (λ (y : List Item). at p (signs.GroupElif m) ∷ y) (t.8 ∙ sym (append_assoc t.0 t.1 t.2)),
))
condition_keeps m (InLast gs outer) ds p a r = tt

pub last_keeps : (secs : Sections) (ds : List Declared) (p : Place) (a : List Item) → Stands (Outside secs ds) a → IfSome (last_section secs ds) (λ next. Stands next (a ++ at p signs.GroupElse ∷ []))
last_keeps Outermost ds p a r = tt
last_keeps (InPart gs n outer) ds p a r = λ w f t. moves a (at p signs.GroupElse) w (r (at p signs.GroupElse ∷ w) f (
  [],
  at p signs.GroupElse ∷ (t.0 ++ at t.3 signs.GroupEnd ∷ []),
  t.1,
  [],
  t.2,
  nothing (with_true gs n),
  else_part p t.3 (with_false gs n) t.4,
  t.5,
  ap (λ (y : List Item). at p signs.GroupElse ∷ y) (t.6 ∙ sym (append_assoc t.0 (at t.3 signs.GroupEnd ∷ []) t.1)),
))
last_keeps (InLast gs outer) ds p a r = tt

pub end_keeps : (secs : Sections) (ds : List Declared) (p : Place) (a : List Item) → Stands (Outside secs ds) a → IfSome (section_end secs ds) (λ next. Stands next (a ++ at p signs.GroupEnd ∷ []))
end_keeps Outermost ds p a r = tt
end_keeps (InPart gs n outer) ds p a r = λ w f t. moves a (at p signs.GroupEnd) w (r (at p signs.GroupEnd ∷ w) f (
  [],
  at p signs.GroupEnd ∷ [],
  w,
  [],
  [],
  nothing (with_true gs n),
  end_part p (with_false gs n),
  tail_at outer ds (ds ++ []) w f (sym (append-nil ds)) t,
  refl,
))
end_keeps (InLast gs outer) ds p a r = λ w f t. moves a (at p signs.GroupEnd) w (r (at p signs.GroupEnd ∷ w) f ([], w, [], p, nothing gs, tail_at outer ds (ds ++ []) w f (sym (append-nil ds)) t, refl))

pub outside_keeps : (secs : Sections) (ds : List Declared) (p : Place) (s : Sign) (a : List Item) → Stands (Outside secs ds) a → IfSome (outside secs ds s) (λ next. Stands next (a ++ at p s ∷ []))
outside_keeps secs ds p signs.Static a r = λ w f k. moves a (at p signs.Static) w (r (at p signs.Static ∷ w) f (k p))
outside_keeps secs ds p signs.Extern a r = λ w f k. moves a (at p signs.Extern) w (r (at p signs.Extern ∷ w) f (k p))
outside_keeps secs ds p signs.Const a r = λ w f k. moves a (at p signs.Const) w (r (at p signs.Const ∷ w) f (k (at p signs.Const ∷ []) (const_alone p)))
outside_keeps secs ds p signs.Enum a r = λ w f k. moves a (at p signs.Enum) w (r (at p signs.Enum ∷ w) f (k p))
outside_keeps secs ds p signs.Define a r = λ w f k. moves a (at p signs.Define) w (r (at p signs.Define ∷ w) f (k p))
outside_keeps secs ds p signs.Void a r = λ w f k. moves a (at p signs.Void) w (r (at p signs.Void ∷ w) f (k p [] (absent signs.Extern)))
outside_keeps secs ds p signs.Int a r = λ w f k. moves a (at p signs.Int) w (r (at p signs.Int ∷ w) f (k (at p signs.Int ∷ []) (no_word (one_int p))))
outside_keeps secs ds p signs.Int32 a r = λ w f k. moves a (at p signs.Int32) w (r (at p signs.Int32 ∷ w) f (k (at p signs.Int32 ∷ []) (no_word (whole_type (int32 p)))))
outside_keeps secs ds p signs.Signed a r = λ w f k. moves a (at p signs.Signed) w (r (at p signs.Signed ∷ w) f (k (at p signs.Signed ∷ []) (no_word (one_signed p))))
outside_keeps secs ds p (signs.GroupIf n) a r = λ w f t. moves a (at p (signs.GroupIf n)) w (r (at p (signs.GroupIf n) ∷ w) f (open_tail p n secs ds w f t))
outside_keeps secs ds p (signs.GroupElif n) a r = condition_keeps n secs ds p a r
outside_keeps secs ds p signs.GroupElse a r = last_keeps secs ds p a r
outside_keeps secs ds p signs.GroupEnd a r = end_keeps secs ds p a r
outside_keeps secs ds p _ a r = tt
