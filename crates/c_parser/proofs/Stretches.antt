-- The items of `main` as stretches: declarations, groups, and items between them that declare nothing.
use Rattle.std.proofs.Common.{◌≡◌, ℕ, Bool, true, false, ◌&&◌, List, [], ◌∷◌, ◌++◌, None, refl, subst}
use Rattle.fam_outer.specs.declared.faults.Place.{Place}
use Rattle.c_tree.specs.declared.lists.Guard.{Guard}
use Rattle.c_tree.specs.declared.lists.Declared.{Declared}
use Rattle.c_tree.specs.Tree.{Term, Code}
use Rattle.c_grammar.specs.declared.constants.NameKind.TheVariants as kinds
use Rattle.c_grammar.specs.declared.items.Item.{Item}
use Rattle.c_grammar.specs.declared.items.Sign.{Sign}
use Rattle.c_grammar.specs.declared.items.Sign.TheVariants as signs
use Rattle.c_grammar.specs.Constants.{kind_behind}
use Rattle.c_grammar.specs.Grammar.{at, Prefix, Positive, Negative, Inverse, prefix_sign, Expresses, number, name, group, prefix, loose, binary, Update, Sum, Difference, Product, Quotient, Remainder, update_sign, Count, Raise, Lower, count_sign, Callable, of_input, of_function, Changes, assignment, input_taken, compound_assignment, count_behind, count_before, Clause, no_clause, clause, Tests, no_test, test, Qualifier, Qualified, Shape, Listed, Stated, Chained, Locals, Writes, none, more, choice, local, static_local, last_local, next_local, ends, otherwise, elif, change, call, void_call, assert, skip, block, while, for, declaring_for, do_while, break, continue, return, if_then, if_else, with_true, with_false, is_group, Declares, Vars, Gap, Gaps, GapRest, Empty, no_more, empty_section, empty_end, empty_else, empty_elif, Body, body}
use Rattle.c_grammar.specs.Groups.{guarded_by}
use Rattle.c_grammar.specs.Kept.{directive_of}
use Rattle.c_grammar.specs.Locals.{is_declaring}
use Rattle.c_grammar.proofs.Keeping.{for_head, for_is}
use Rattle.c_grammar.specs.LocalsOf.{locals_in, locals_of_body}

-- ---- items that declare nothing

-- a sign that no declarator stands behind, that begins no constants, and that is no directive
abbrev pub is_calm : Sign → Bool
is_calm signs.Int = false
is_calm signs.Int32 = false
is_calm signs.Signed = false
is_calm signs.Const = false
is_calm signs.Comma = false
is_calm signs.Enum = false
is_calm signs.Define = false
is_calm (signs.GroupIf n) = false
is_calm (signs.GroupElif n) = false
is_calm signs.GroupElse = false
is_calm signs.GroupEnd = false
is_calm _ = true

-- what is so of such a sign
pub record IsCalm (s : Sign) : Type 0 where
  pub declares_not : is_declaring s ≡ false
  pub no_group : is_group s ≡ false
  pub no_directive : directive_of s ≡ None
  pub no_constants : kind_behind kinds.Variable s ≡ kinds.Variable

pub calm_is : (s : Sign) → is_calm s ≡ true → IsCalm s
calm_is signs.Int h = absurd cc
calm_is signs.Int32 h = absurd cc
calm_is signs.Signed h = absurd cc
calm_is signs.Const h = absurd cc
calm_is signs.Comma h = absurd cc
calm_is signs.Enum h = absurd cc
calm_is signs.Define h = absurd cc
calm_is (signs.GroupIf n) h = absurd cc
calm_is (signs.GroupElif n) h = absurd cc
calm_is signs.GroupElse h = absurd cc
calm_is signs.GroupEnd h = absurd cc
calm_is _ h = record { declares_not = refl; no_group = refl; no_directive = refl; no_constants = refl }

abbrev pub are_calm : List Item → Bool
are_calm [] = true
are_calm (x ∷ xs) = is_calm x.sign && are_calm xs

pub calm_parts : (a b : Bool) → (a && b) ≡ true → (a ≡ true) × (b ≡ true)
calm_parts true b h = (refl, h)
calm_parts false b h = absurd cc

calm_first : (a b c : Bool) → (a && b) ≡ true → (b ≡ true → c ≡ true) → (a && c) ≡ true
calm_first true b c h go = go h
calm_first false b c h go = absurd cc

pub calm_both : (ts us : List Item) → are_calm ts ≡ true → are_calm us ≡ true → are_calm (ts ++ us) ≡ true
calm_both [] us h k = k
calm_both (x ∷ xs) us h k = calm_first (is_calm x.sign) (are_calm xs) (are_calm (xs ++ us)) h (λ g. calm_both xs us g k)

prefix_calm : (u : Prefix) (ts : List Item) (p : Place) → are_calm ts ≡ true → are_calm (at p (prefix_sign u) ∷ ts) ≡ true
prefix_calm Positive ts p h = h
prefix_calm Negative ts p h = h
prefix_calm Inverse ts p h = h

-- expressions declare nothing
pub expression_calm : {k : ℕ} {ts : List Item} {e : Term} → Expresses k ts e → are_calm ts ≡ true
expression_calm (number p n) = refl
expression_calm (name p x) = refl
expression_calm (group p q {ts} s) = calm_both ts (at q signs.Close ∷ []) (expression_calm s) refl
expression_calm (prefix p u {ts} s) = prefix_calm u ts p (expression_calm s)
expression_calm (loose s) = expression_calm s
expression_calm (binary p op {ts} {us} s t) = calm_both ts (at p (signs.Oper op) ∷ us) (expression_calm s) (expression_calm t)

update_calm : (u : Update) (p : Place) → are_calm (at p (update_sign u) ∷ []) ≡ true
update_calm Sum p = refl
update_calm Difference p = refl
update_calm Product p = refl
update_calm Quotient p = refl
update_calm Remainder p = refl

count_calm : (u : Count) (p : Place) → are_calm (at p (count_sign u) ∷ []) ≡ true
count_calm Raise p = refl
count_calm Lower p = refl

-- no more do calls
pub function_calm : {f : Sign} (p : Place) (us : List Item) → Callable f → are_calm us ≡ true → are_calm (at p f ∷ us) ≡ true
function_calm p us of_input h = h
function_calm p us (of_function k) h = h

-- no more do changes, and what stands in the parentheses of a `for`
pub change_calm : {ts : List Item} {c : Code} → Changes ts c → are_calm ts ≡ true
change_calm (assignment p q x e) = expression_calm e
change_calm (input_taken p q r s t x f) = function_calm r (at s signs.Open ∷ at t signs.Close ∷ []) f refl
change_calm (compound_assignment p q x u {ts} e) = calm_both (at q (update_sign u) ∷ []) ts (update_calm u q) (expression_calm e)
change_calm (count_behind p q x u) = count_calm u q
change_calm (count_before p q x u) = calm_both (at p (count_sign u) ∷ []) (at q (signs.Name x) ∷ []) (count_calm u p) refl

clause_calm : {ts : List Item} {c : Code} → Clause ts c → are_calm ts ≡ true
clause_calm no_clause = refl
clause_calm (clause s) = change_calm s

tests_calm : {us : List Item} {t : Place} {e : Term} → Tests us t e → are_calm us ≡ true
tests_calm (no_test s) = refl
tests_calm (test s {x} {ts} e) = calm_both (x ∷ ts) (at s signs.Semicolon ∷ []) (expression_calm e) refl

pub header_calm : (p q r s : Place) {ts us vs : List Item} {a b : Code} {t : Place} {e : Term} → Clause ts a → Tests us t e → Clause vs b → are_calm (for_head p q r s ts us vs) ≡ true
header_calm p q r s {ts} {us} {vs} a t b =
    calm_both ts (at r signs.Semicolon ∷ (us ++ (vs ++ at s signs.Close ∷ []))) (clause_calm a)
    (calm_both us (vs ++ at s signs.Close ∷ []) (tests_calm t) (calm_both vs (at s signs.Close ∷ []) (clause_calm b) refl))

-- ---- stretches

-- a stretch of items within guards, or what closes a group, with the declarators in it
pub data Stretch : (later : Bool) → List Guard → List Item → List Declared → Type 0 where
  calm : (gs : List Guard) (ts : List Item) → are_calm ts ≡ true → Stretch false gs ts []
  behind : (gs : List Guard) (ts : List Item) {us : List Item} {ds : List Declared} → are_calm ts ≡ true → Stretch false gs us ds → Stretch false gs (ts ++ us) ds
  before : (gs : List Guard) (us : List Item) {ts : List Item} {ds : List Declared} → Stretch false gs ts ds → are_calm us ≡ true → Stretch false gs (ts ++ us) ds
  both : (gs : List Guard) {ts us : List Item} {ds es : List Declared} → Stretch false gs ts ds → Stretch false gs us es → Stretch false gs (ts ++ us) (ds ++ es)
  declarators : (gs : List Guard) {ts us vs : List Item} {c : Code} {kind each : Qualifier} {es : List Declared} → Qualified kind ts → (v : Writes (Locals each) us c) → Stretch false gs vs es → Stretch false gs (ts ++ (us ++ vs)) (locals_in gs v ++ es)
  statics : (gs : List Guard) {ts us vs : List Item} {ds es : List Declared} {kind : Qualifier} → Qualified kind ts → Declares (Vars kind []) us ds → Stretch false gs vs es → Stretch false gs (ts ++ (us ++ vs)) (guarded_by gs ds ++ es)
  groups : (gs : List Guard) (p : Place) (n : ℕ) {ts us vs : List Item} {ds es fs : List Declared} → Stretch false (with_true gs n) ts ds → Stretch true (with_false gs n) us es → Stretch false gs vs fs → Stretch false gs (at p (signs.GroupIf n) ∷ (ts ++ (us ++ vs))) (ds ++ (es ++ fs))
  end_group : (gs : List Guard) (p : Place) → Stretch true gs (at p signs.GroupEnd ∷ []) []
  else_group : (gs : List Guard) (p q : Place) {ts : List Item} {ds : List Declared} → Stretch false gs ts ds → Stretch true gs (at p signs.GroupElse ∷ (ts ++ at q signs.GroupEnd ∷ [])) ds
  elif_group : (gs : List Guard) (p : Place) (n : ℕ) {ts us : List Item} {ds es : List Declared} → Stretch false (with_true gs n) ts ds → Stretch true (with_false gs n) us es → Stretch true gs (at p (signs.GroupElif n) ∷ (ts ++ us)) (ds ++ es)

-- declarators are no stretch of their own: a type stands before them
abbrev StretchOf : (shape : Shape) {ts : List Item} {c : Code} → List Guard → Writes shape ts c → Type 0
StretchOf (Listed i) {ts} gs s = Stretch false gs ts (locals_in gs s)
StretchOf (Stated i b) {ts} gs s = Stretch false gs ts (locals_in gs s)
StretchOf (Chained i) {ts} gs s = Stretch true gs ts (locals_in gs s)
StretchOf (Locals kind) gs s = Unit {0}

pub stretch_of : {shape : Shape} {ts : List Item} {c : Code} (gs : List Guard) → (s : Writes shape ts c) → StretchOf shape gs s
stretch_of gs none = calm gs [] refl
stretch_of gs (more s l) = both gs (stretch_of gs s) (stretch_of gs l)
stretch_of gs (choice p n s t l) = groups gs p n (stretch_of (with_true gs n) s) (stretch_of (with_false gs n) t) (stretch_of gs l)
stretch_of gs (local q v l) = declarators gs q v (stretch_of gs l)
stretch_of gs (static_local p q v l) = behind gs (at p signs.Static ∷ []) refl (statics gs q v (stretch_of gs l))
stretch_of gs (last_local p d) = tt
stretch_of gs (next_local p d v) = tt
stretch_of gs (ends p) = end_group gs p
stretch_of gs (otherwise p q s) = else_group gs p q (stretch_of gs s)
stretch_of gs (elif p n s t) = elif_group gs p n (stretch_of (with_true gs n) s) (stretch_of (with_false gs n) t)
stretch_of gs (change r {ts} s) = calm gs (ts ++ at r signs.Semicolon ∷ []) (calm_both ts (at r signs.Semicolon ∷ []) (change_calm s) refl)
stretch_of gs (call p q r s {f} g) =
    calm gs (at p f ∷ at q signs.Open ∷ at r signs.Close ∷ at s signs.Semicolon ∷ []) (function_calm p (at q signs.Open ∷ at r signs.Close ∷ at s signs.Semicolon ∷ []) g refl)
stretch_of gs (void_call p q r s t u v {f} g) =
    calm gs (at p signs.Open ∷ at q signs.Void ∷ at r signs.Close ∷ at s f ∷ at t signs.Open ∷ at u signs.Close ∷ at v signs.Semicolon ∷ []) (function_calm s (at t signs.Open ∷ at u signs.Close ∷ at v signs.Semicolon ∷ []) g refl)
stretch_of gs (assert p q r s {ts} e) =
    calm gs (at p signs.Assert ∷ at q signs.Open ∷ (ts ++ at r signs.Close ∷ at s signs.Semicolon ∷ [])) (calm_both ts (at r signs.Close ∷ at s signs.Semicolon ∷ []) (expression_calm e) refl)
stretch_of gs (skip p) = calm gs (at p signs.Semicolon ∷ []) refl
stretch_of gs (block p q s) = behind gs (at p signs.LeftBrace ∷ []) refl (before gs (at q signs.RightBrace ∷ []) (stretch_of gs s) refl)
stretch_of gs (while p q r {b} {ts} e s) = behind gs (at p signs.While ∷ at q signs.Open ∷ []) refl (behind gs ts (expression_calm e) (behind gs (at r signs.Close ∷ []) refl (stretch_of gs s)))
stretch_of gs (for p q r z {b} {ts} {us} {vs} {ws} a t d s) =
    subst (λ (l : List Item). Stretch false gs l (locals_in gs s)) (for_is p q r z ts us vs ws) (behind gs (for_head p q r z ts us vs) (header_calm p q r z a t d) (stretch_of gs s))
stretch_of gs (declaring_for p q z {b} {ts} {ds} {us} {vs} {ws} y v t d s) =
    behind gs (at p signs.For ∷ at q signs.Open ∷ []) refl
    (declarators gs y v (behind gs us (tests_calm t) (behind gs vs (clause_calm d) (behind gs (at z signs.Close ∷ []) refl (stretch_of gs s)))))
stretch_of gs (do_while p q r z t {b} {ts} {us} {x} s e) =
    behind gs (at p signs.Do ∷ []) refl (before gs (at q signs.While ∷ at r signs.Open ∷ x ∷ (us ++ at z signs.Close ∷ at t signs.Semicolon ∷ [])) (stretch_of gs s)
    (calm_both (x ∷ us) (at z signs.Close ∷ at t signs.Semicolon ∷ []) (expression_calm e) refl))
stretch_of gs (break p q) = calm gs (at p signs.Break ∷ at q signs.Semicolon ∷ []) refl
stretch_of gs (continue p q) = calm gs (at p signs.Continue ∷ at q signs.Semicolon ∷ []) refl
stretch_of gs (return p q {ts} e) =
    calm gs (at p signs.Return ∷ (ts ++ at q signs.Semicolon ∷ [])) (calm_both ts (at q signs.Semicolon ∷ []) (expression_calm e) refl)
stretch_of gs (if_then p q r {b} {ts} e s) = behind gs (at p signs.If ∷ at q signs.Open ∷ []) refl (behind gs ts (expression_calm e) (behind gs (at r signs.Close ∷ []) refl (stretch_of gs s)))
stretch_of gs (if_else p q r z {b} {ts} e s t) =
    behind gs (at p signs.If ∷ at q signs.Open ∷ []) refl (behind gs ts (expression_calm e)
    (behind gs (at r signs.Close ∷ []) refl (both gs (stretch_of gs s) (behind gs (at z signs.Else ∷ []) refl (stretch_of gs t)))))

-- ---- the body of `main`

-- behind `main` there are groups alone
abbrev StretchOfGap : Gap → List Guard → List Item → Type 0
StretchOfGap Gaps gs us = Stretch false gs us []
StretchOfGap GapRest gs us = Stretch true gs us []

stretch_of_gap : {gap : Gap} {us : List Item} (gs : List Guard) → Empty gap us → StretchOfGap gap gs us
stretch_of_gap gs no_more = calm gs [] refl
stretch_of_gap gs (empty_section p n a b e) = groups gs p n (stretch_of_gap (with_true gs n) a) (stretch_of_gap (with_false gs n) b) (stretch_of_gap gs e)
stretch_of_gap gs (empty_end p) = end_group gs p
stretch_of_gap gs (empty_else p q a) = else_group gs p q (stretch_of_gap gs a)
stretch_of_gap gs (empty_elif p n a b) = elif_group gs p n (stretch_of_gap (with_true gs n) a) (stretch_of_gap (with_false gs n) b)

pub stretch_of_body : {us : List Item} {c : Code} {p : Place} → (b : Body us c p) → Stretch false [] us (locals_of_body b ++ [])
stretch_of_body (body p {us} {vs} s e) = both [] (stretch_of [] s) (behind [] (at p signs.RightBrace ∷ []) refl (stretch_of_gap [] e))
