-- The names of items whose names have no fault: they are those that the items declare.
use Rattle.std.proofs.Common.{◌≡◌, ℕ, ◌<◌, Bool, true, false, List, [], ◌∷◌, ◌++◌, length, get_or, Option, Some, None, refl, sym, ap, subst, ◌∙◌, append_assoc, append-nil}
use Rattle.std.specs.Prelude.{option_map, nat_eq, if◌then◌else◌, not, ◌&&◌, ◌||◌}
use Rattle.std.specs.List.{list_any}
use Rattle.std.specs.Str.{bytes_eq}
use Rattle.std.proofs.lemmas.Bool.{eqb-true, or_right}
use Rattle.std.proofs.lemmas.List.{map-append}
use Rattle.std.proofs.lemmas.List.Folds.{list_any-append}
use Rattle.fam_outer.specs.declared.faults.Place.{Place}
use Rattle.fam_outer.specs.declared.faults.FileCode.{FileCode}
use Rattle.fam_outer.specs.declared.faults.FileCode.TheVariants.{Undeclared, Twice}
use Rattle.cpp_lines.specs.Faults.{or_later}
use Rattle.c_grammar.specs.declared.items.Item.{Item}
use Rattle.c_grammar.specs.declared.items.Sign.{Sign}
use Rattle.c_grammar.specs.declared.items.Sign.TheVariants as signs
use Rattle.c_grammar.specs.Grammar.{at}
use Rattle.c_grammar.specs.Constants.{is_name}
use Rattle.c_grammar.specs.Locals.{is_main, declares_behind, declarations_from, of_declarations, is_in_own}
use Rattle.c_grammar.specs.Scopes.{is_open_behind, scoped_from, names_in_scope, names_taken}
use Rattle.family_names.proofs.Declared.{names_append, or_left}
use Rattle.c_parser.specs.declared.names.Limits.{Limits}
use Rattle.c_parser.specs.Items.{with_name}
use Rattle.c_parser.specs.Judging.{counted}
use Rattle.c_parser.specs.Names.{has_main, is_used_behind, name_of, names_of, names_at, each_once, declared_by, limit_fault, declaration_fault, use_fault, name_fault, change_fault, name_fault_from, first_name_fault}
use Rattle.c_parser.proofs.Judging.{declared_still, declared_behind, declared_on, declared_more}
use Rattle.c_parser.proofs.Arranging.{each_among, text_same}
use Rattle.c_parser.proofs.NameNumbers.{AreBelow, first_among}

-- ---- no fault

abbrev fault_if : Bool → Option FileCode
fault_if b = if b then None else Some (Undeclared None)

abbrev second_if : Bool → Option FileCode → Option FileCode
second_if b other = if b then Some (Twice None) else other

-- neither here nor later
pub later_none : (o later : Option (FileCode × Place)) → or_later o later ≡ None → (o ≡ None) × (later ≡ None)
later_none None later h = (refl, h)
later_none (Some fault) later h = absurd cc

split_none : (o : Option FileCode) (p : Place) (later : Option (FileCode × Place)) → or_later (option_map (λ code. (code, p)) o) later ≡ None → (o ≡ None) × (later ≡ None)
split_none None p later h = (refl, h)
split_none (Some code) p later h = absurd cc

use_none : (limits : Limits) (own : Bool) (ds : List ℕ) (x : ℕ) → use_fault (counted limits) own ds x ≡ None → list_any (nat_eq x) ds ≡ true
use_none limits true ds x h = absurd cc
use_none limits false ds x h = elim (list_any (nat_eq x) ds) as (λ b. fault_if b ≡ None → b ≡ true) [ true ↦ λ _. refl | false ↦ λ g. absurd cc ] h

declaration_none : (limits : Limits) (ds : List ℕ) (x : ℕ) → declaration_fault (counted limits) ds x ≡ None → (list_any (nat_eq x) ds ≡ false) × (limit_fault (counted limits) x ≡ None)
declaration_none limits ds x h = elim (list_any (nat_eq x) ds) as (λ b. second_if b (limit_fault (counted limits) x) ≡ None → (b ≡ false) × (limit_fault (counted limits) x ≡ None)) [
  | true ↦ λ g. absurd cc
  | false ↦ λ g. (refl, g)
] h

-- ---- what is in scope is declared

or_follows : (a b c : Bool) → (b ≡ true → c ≡ true) → (a || b) ≡ true → (a || c) ≡ true
or_follows true b c h e = refl
or_follows false b c h e = h e

among_scoped : (x n : ℕ) (main : Bool) (items : List Item) → list_any (nat_eq x) (names_of (scoped_from n main items)) ≡ true → list_any (nat_eq x) (names_of items) ≡ true
among_scoped x n main [] h = h
among_scoped x n main (y ∷ ys) h =
    let scoped = scoped_from n (main || is_main y.sign) ys in
    let so = among_scoped x n (main || is_main y.sign) ys in
    list_any-append (nat_eq x) (name_of y.sign) (names_of ys)
    ∙ elim (main && is_name y.sign && not (is_open_behind n ys)) as (λ b. list_any (nat_eq x) (names_of (if b then scoped_from n (main || is_main y.sign) ys else y ∷ scoped_from n (main || is_main y.sign) ys)) ≡ true → (list_any (nat_eq x) (name_of y.sign) || list_any (nat_eq x) (names_of ys)) ≡ true) [
      | true ↦ λ e. or_right (list_any (nat_eq x) (name_of y.sign)) (list_any (nat_eq x) (names_of ys)) (so e)
      | false ↦ λ e. or_follows (list_any (nat_eq x) (name_of y.sign)) (list_any (nat_eq x) (names_of scoped)) (list_any (nat_eq x) (names_of ys)) so (sym (list_any-append (nat_eq x) (name_of y.sign) (names_of scoped)) ∙ e)
    ] h

scope_declared : (x : ℕ) (before : List Item) → list_any (nat_eq x) (names_in_scope before) ≡ true → list_any (nat_eq x) (declared_by before) ≡ true
scope_declared x before h = among_scoped x 0 false (of_declarations before) h

-- ---- the names so far are those that are declared so far

-- the number of one of these names that is not one too many
pub record IsNumber (limits : Limits) (all : List (List ℕ)) (x : ℕ) : Type 0 where
  pub below : x < length all
  pub within : limit_fault (counted limits) x ≡ None

-- of all names, the items declare these, in the order of their first declarations
pub record AreTold (limits : Limits) (all names : List (List ℕ)) (items : List Item) : Type 0 where
  pub told : each_once [] (names_at all (declared_by items)) ≡ names
  pub each : (x : ℕ) → list_any (nat_eq x) (declared_by items) ≡ true → IsNumber limits all x

-- nothing more is declared
pub still_told : (limits : Limits) (all names : List (List ℕ)) (before more : List Item) → declared_by more ≡ declared_by before → AreTold limits all names before → AreTold limits all names more
still_told limits all names before more same h = record { told = ap (λ (ds : List ℕ). each_once [] (names_at all ds)) same ∙ h.told; each = λ x e. h.each x (ap (list_any (nat_eq x)) (sym same) ∙ e) }

only : (x y : ℕ) → (nat_eq x y || false) ≡ true → y ≡ x
only x y e = elim (nat_eq x y) as (λ b. nat_eq x y ≡ b → (b || false) ≡ true → y ≡ x) [
  | true ↦ λ f _. sym (eqb-true x y f)
  | false ↦ λ _ g. absurd cc
] refl e

-- a name behind others, each once
once_more : (seen names : List (List ℕ)) (w : List ℕ) → each_once seen (names ++ w ∷ []) ≡ with_name (each_once seen names) w
once_more seen [] w = refl
once_more seen (n ∷ ns) w = once_more (with_name seen n) ns w

-- a name with this number
at_among : (all : List (List ℕ)) (ds : List ℕ) (x : ℕ) → list_any (nat_eq x) ds ≡ true → list_any (bytes_eq (get_or all x [])) (names_at all ds) ≡ true
at_among all [] x h = absurd cc
at_among all (d ∷ ds) x h = elim (nat_eq x d) as (λ b. nat_eq x d ≡ b → (b || list_any (nat_eq x) ds) ≡ true → (bytes_eq (get_or all x []) (get_or all d []) || list_any (bytes_eq (get_or all x [])) (names_at all ds)) ≡ true) [
  | true ↦ λ e _. or_left (bytes_eq (get_or all x []) (get_or all d [])) (list_any (bytes_eq (get_or all x [])) (names_at all ds))
      (ap (λ (y : ℕ). bytes_eq (get_or all x []) (get_or all y [])) (sym (eqb-true x d e)) ∙ text_same (get_or all x []))
  | false ↦ λ _ g. or_right (bytes_eq (get_or all x []) (get_or all d [])) (list_any (bytes_eq (get_or all x [])) (names_at all ds)) (at_among all ds x g)
] refl h

-- a name that is used stands among the names so far
used_step : (limits : Limits) (all names : List (List ℕ)) (x : ℕ) (before : List Item) (p : Place) (own : Bool) → AreTold limits all names before → is_used_behind before ≡ true
    → use_fault (counted limits) own (names_in_scope before) x ≡ None → AreTold limits all (with_name names (get_or all x [])) (before ++ at p (signs.Name x) ∷ [])
used_step limits all names x before p own h used none =
    let w = get_or all x [] in
    let declared = scope_declared x before (use_none limits own (names_in_scope before) x none) in
    let here : list_any (bytes_eq (get_or all x [])) names ≡ true =
    ap (list_any (bytes_eq w)) (sym h.told) ∙ each_among w [] (names_at all (declared_by before)) ∙ at_among all (declared_by before) x declared in
    subst (λ (ns : List (List ℕ)). AreTold limits all ns (before ++ at p (signs.Name x) ∷ [])) (sym (ap (λ (b : Bool). if b then names else names ++ w ∷ []) here))
    (still_told limits all names before (before ++ at p (signs.Name x) ∷ []) (declared_behind before (at p (signs.Name x)) used) h)

-- a name that is declared comes behind them, if it is new
declared_step : (limits : Limits) (all names : List (List ℕ)) (x : ℕ) (before : List Item) (p : Place) → x < length all → AreTold limits all names before → is_used_behind before ≡ false
    → declaration_fault (counted limits) (names_taken before) x ≡ None → AreTold limits all (with_name names (get_or all x [])) (before ++ at p (signs.Name x) ∷ [])
declared_step limits all names x before p lt h used none =
    let d = declaration_none limits (names_taken before) x none in
    let more : declared_by (before ++ at p (signs.Name x) ∷ []) ≡ declared_by before ++ x ∷ [] = declared_on before (at p (signs.Name x)) used in
    record {
      told =
          ap (λ (ds : List ℕ). each_once [] (names_at all ds)) more
          ∙ ap (each_once []) (map-append (λ (i : ℕ). get_or all i []) (declared_by before) (x ∷ []))
          ∙ once_more [] (names_at all (declared_by before)) (get_or all x [])
          ∙ ap (λ (ns : List (List ℕ)). with_name ns (get_or all x [])) h.told;
      each = λ y e. (
          let g : (list_any (nat_eq y) (declared_by before) || (nat_eq y x || false)) ≡ true = sym (list_any-append (nat_eq y) (declared_by before) (x ∷ [])) ∙ ap (list_any (nat_eq y)) (sym more) ∙ e in
          elim (list_any (nat_eq y) (declared_by before)) as (λ b. list_any (nat_eq y) (declared_by before) ≡ b → (b || (nat_eq y x || false)) ≡ true → IsNumber limits all y) [
            | true ↦ λ f _. h.each y f
            | false ↦ λ _ k. subst (IsNumber limits all) (only y x k) (record { below = lt; within = d.1 })
          ] refl g
          );
    }

-- the names of the items so far, each once
abbrev so_far : List (List ℕ) → List Item → List (List ℕ)
so_far all items = each_once [] (names_at all (names_of items))

named_more : (all : List (List ℕ)) (before : List Item) (p : Place) (x : ℕ) → so_far all (before ++ at p (signs.Name x) ∷ []) ≡ with_name (so_far all before) (get_or all x [])
named_more all before p x =
    ap (λ (ns : List ℕ). each_once [] (names_at all ns)) (names_append before (at p (signs.Name x) ∷ []))
    ∙ ap (each_once []) (map-append (λ (i : ℕ). get_or all i []) (names_of before) (x ∷ []))
    ∙ once_more [] (names_at all (names_of before)) (get_or all x [])

named_still : (all : List (List ℕ)) (before : List Item) (x : Item) → name_of x.sign ≡ [] → so_far all (before ++ x ∷ []) ≡ so_far all before
named_still all before x none =
    ap (λ (ns : List ℕ). each_once [] (names_at all ns)) (names_append before (x ∷ []) ∙ ap (λ (ns : List ℕ). names_of before ++ (ns ++ [])) none ∙ append-nil (names_of before))

-- the numbers of the names of an item are below a count
abbrev IsBelow : ℕ → Sign → Type 0
IsBelow count s = AreBelow count (name_of s)

name_step : (limits : Limits) (all : List (List ℕ)) (x : ℕ) (before : List Item) (p : Place) → x < length all → AreTold limits all (so_far all before) before → name_fault (counted limits) before (signs.Name x) ≡ None
    → AreTold limits all (so_far all (before ++ at p (signs.Name x) ∷ [])) (before ++ at p (signs.Name x) ∷ [])
name_step limits all x before p lt h none =
    let names = so_far all before in
    subst (λ (ns : List (List ℕ)). AreTold limits all ns (before ++ at p (signs.Name x) ∷ [])) (sym (named_more all before p x))
    (elim (is_used_behind before) as (λ b. is_used_behind before ≡ b → (if b then use_fault (counted limits) (is_in_own before x) (names_in_scope before) x else declaration_fault (counted limits) (names_taken before) x) ≡ None
    → AreTold limits all (with_name names (get_or all x [])) (before ++ at p (signs.Name x) ∷ [])) [
      | true ↦ λ e g. used_step limits all names x before p (is_in_own before x) h e g
      | false ↦ λ e g. declared_step limits all names x before p lt h e g
    ] refl none)

other_step : (limits : Limits) (all : List (List ℕ)) (before : List Item) (x : Item) → name_of x.sign ≡ [] → AreTold limits all (so_far all before) before → AreTold limits all (so_far all (before ++ x ∷ [])) (before ++ x ∷ [])
other_step limits all before x none h =
    subst (λ (ns : List (List ℕ)). AreTold limits all ns (before ++ x ∷ [])) (sym (named_still all before x none)) (still_told limits all (so_far all before) before (before ++ x ∷ []) (declared_still before x none) h)

item_step : (limits : Limits) (all : List (List ℕ)) (s : Sign) (before : List Item) (p : Place) → IsBelow (length all) s → AreTold limits all (so_far all before) before → name_fault (counted limits) before s ≡ None
    → AreTold limits all (so_far all (before ++ at p s ∷ [])) (before ++ at p s ∷ [])
item_step limits all (signs.Name x) before p b h none = name_step limits all x before p (b x (first_among x [])) h none
item_step limits all s before p b h none = other_step limits all before (at p s) refl h

-- the first of these numbers and the others are so
both_below : (count : ℕ) (xs ys : List ℕ) → AreBelow count (xs ++ ys) → AreBelow count xs × AreBelow count ys
both_below count xs ys b = (
  λ x h. b x (list_any-append (nat_eq x) xs ys ∙ or_left (list_any (nat_eq x) xs) (list_any (nat_eq x) ys) h),
  λ x h. b x (list_any-append (nat_eq x) xs ys ∙ or_right (list_any (nat_eq x) xs) (list_any (nat_eq x) ys) h),
)

told_from : (limits : Limits) (all : List (List ℕ)) (before xs : List Item) → AreBelow (length all) (names_of xs) → AreTold limits all (so_far all before) before → name_fault_from (counted limits) before xs ≡ None
    → AreTold limits all (so_far all (before ++ xs)) (before ++ xs)
told_from limits all before [] b h none = subst (λ (ys : List Item). AreTold limits all (so_far all ys) ys) (sym (append-nil before)) h
told_from limits all before (x ∷ xs) b h none =
    let more = name_fault_from (counted limits) (before ++ x ∷ []) xs in
    let n = split_none (name_fault (counted limits) before x.sign) x.place (or_later (change_fault (counted limits) before x) more) none in
    let m = later_none (change_fault (counted limits) before x) more n.1 in
    let parts = both_below (length all) (name_of x.sign) (names_of xs) b in
    subst (λ (ys : List Item). AreTold limits all (so_far all ys) ys) (append_assoc before (x ∷ []) xs)
    (told_from limits all (before ++ x ∷ []) xs parts.1 (item_step limits all x.sign before x.place parts.0 h n.0) m.1)

-- items without a fault declare all their names, in the order of their first occurrence
pub all_told : (limits : Limits) (all : List (List ℕ)) (items : List Item) → AreBelow (length all) (names_of items) → first_name_fault (counted limits) items ≡ None → AreTold limits all (each_once [] (names_at all (names_of items))) items
unfolding first_name_fault
all_told limits all items b none = told_from limits all [] items b (record { told = refl; each = λ x e. absurd cc }) none

-- ---- each name is declared

-- a name that is declared stays so
stays_declared : (x : ℕ) (before more : List Item) → list_any (nat_eq x) (declared_by before) ≡ true → list_any (nat_eq x) (declared_by (before ++ more)) ≡ true
stays_declared x before more e =
    let behind : List ℕ = names_of (declarations_from (has_main before) (declares_behind before) more) in
    ap (list_any (nat_eq x)) (declared_more before more) ∙ list_any-append (nat_eq x) (declared_by before) behind ∙ ap (λ (b : Bool). b || list_any (nat_eq x) behind) e

name_declared : (limits : Limits) (x : ℕ) (before more : List Item) (p : Place) → name_fault (counted limits) before (signs.Name x) ≡ None → list_any (nat_eq x) (declared_by (before ++ at p (signs.Name x) ∷ more)) ≡ true
name_declared limits x before more p none =
    let item : Item = at p (signs.Name x) in
    elim (is_used_behind before) as (λ b. is_used_behind before ≡ b → (if b then use_fault (counted limits) (is_in_own before x) (names_in_scope before) x else declaration_fault (counted limits) (names_taken before) x) ≡ None → list_any (nat_eq x) (declared_by (before ++ at p (signs.Name x) ∷ more)) ≡ true) [
      | true ↦ λ e g. stays_declared x before (item ∷ more) (scope_declared x before (use_none limits (is_in_own before x) (names_in_scope before) x g))
      | false ↦ λ e g. subst (λ (ys : List Item). list_any (nat_eq x) (declared_by ys) ≡ true) (append_assoc before (item ∷ []) more) (stays_declared x (before ++ item ∷ []) more
          (ap (list_any (nat_eq x)) (declared_on before item e) ∙ list_any-append (nat_eq x) (declared_by before) (x ∷ []) ∙ or_right (list_any (nat_eq x) (declared_by before)) (list_any (nat_eq x) (x ∷ [])) (first_among x [])))
    ] refl none

sign_declared : (limits : Limits) (x : ℕ) (s : Sign) (before more : List Item) (p : Place) → name_fault (counted limits) before s ≡ None → list_any (nat_eq x) (name_of s) ≡ true → list_any (nat_eq x) (declared_by (before ++ at p s ∷ more)) ≡ true
sign_declared limits x (signs.Name y) before more p none h =
    subst (λ (k : ℕ). list_any (nat_eq k) (declared_by (before ++ at p (signs.Name y) ∷ more)) ≡ true) (only x y h) (name_declared limits y before more p none)
sign_declared limits x s before more p none h = absurd cc

declared_from : (limits : Limits) (x : ℕ) (before xs : List Item) → name_fault_from (counted limits) before xs ≡ None → list_any (nat_eq x) (names_of xs) ≡ true → list_any (nat_eq x) (declared_by (before ++ xs)) ≡ true
declared_from limits x before [] none h = absurd cc
declared_from limits x before (y ∷ ys) none h =
    let more = name_fault_from (counted limits) (before ++ y ∷ []) ys in
    let n = split_none (name_fault (counted limits) before y.sign) y.place (or_later (change_fault (counted limits) before y) more) none in
    let m = later_none (change_fault (counted limits) before y) more n.1 in
    elim (list_any (nat_eq x) (name_of y.sign)) as (λ b. list_any (nat_eq x) (name_of y.sign) ≡ b → (b || list_any (nat_eq x) (names_of ys)) ≡ true → list_any (nat_eq x) (declared_by (before ++ y ∷ ys)) ≡ true) [
      | true ↦ λ e _. sign_declared limits x y.sign before ys y.place n.0 e
      | false ↦ λ _ g. subst (λ (zs : List Item). list_any (nat_eq x) (declared_by zs) ≡ true) (append_assoc before (y ∷ []) ys) (declared_from limits x (before ++ y ∷ []) ys m.1 g)
    ] refl (sym (list_any-append (nat_eq x) (name_of y.sign) (names_of ys)) ∙ h)

-- each name of items without a fault is declared
pub each_declared : (limits : Limits) (items : List Item) (x : ℕ) → first_name_fault (counted limits) items ≡ None → list_any (nat_eq x) (names_of items) ≡ true → list_any (nat_eq x) (declared_by items) ≡ true
unfolding first_name_fault
each_declared limits items x none h = declared_from limits x [] items none h
