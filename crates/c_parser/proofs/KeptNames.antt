-- The names of the items that stay under the truths of conditions: which of them are declared, and where one is used.
use Rattle.std.proofs.Common.{◌≡◌, ℕ, Bool, true, false, not, ◌||◌, ◌&&◌, cond, List, [], ◌∷◌, ◌++◌, slice_get, Option, Some, None, refl, sym, ap, subst, ◌∙◌}
use Rattle.std.specs.Prelude.{ℤ, if◌then◌else◌}
use Rattle.std.specs.List.{list_any}
use Rattle.std.specs.Str.{bytes_eq}
use Rattle.fam_outer.specs.declared.faults.FileCode.{FileCode}
use Rattle.linear_atoms.specs.declared.atoms.Config.{Config}
use Rattle.linear_atoms.specs.declared.atoms.Feature.{Feature}
use Rattle.atom_solver.specs.Solutions.{Finds}
use Rattle.cpp_conditions.specs.declared.models.Model.{Model}
use Rattle.cpp_conditions.specs.Validity.{plain, IsValid}
use Rattle.cpp_groups.specs.declared.section.Section.{Section}
use Rattle.cpp_groups.specs.Kept.{all_kept, sections_after}
use Rattle.c_grammar.specs.declared.items.Item.{Item}
use Rattle.c_grammar.specs.declared.items.Sign.{Sign}
use Rattle.c_grammar.specs.declared.items.Sign.TheVariants as signs
use Rattle.c_grammar.specs.Constants.{is_name}
use Rattle.c_grammar.specs.Grammar.{is_group}
use Rattle.c_grammar.specs.Kept.{directive_of, kept_from, kept}
use Rattle.c_grammar.specs.Locals.{is_declaring, declares_behind, declarations_from, of_declarations, opened_by, open_from, open_behind, AreOutside as StandOutside, IsOutside}
use Rattle.family_names.specs.Names.{NameContext, is_main, has_main, until_main, sections_behind, is_kept, is_feature_name, is_feature, feature_in, named_feature, is_integer, is_value, is_used_behind, IsWithFirst, IsEither, code_with}
use Rattle.c_parser.specs.Names as alone
use Rattle.c_parser.proofs.AmongNumbers.{neither}
use Rattle.c_parser.proofs.KeptStates.{both_ways, AreLike, like_next, AreOthers, KnowNothing, known_behind, known_same, by_last, stands_kept, by_out, right, either}

-- ---- the items that stay, one after another

pub behind_more : (truths : List Bool) (sections : List Section) (xs ys : List Item) → sections_behind truths sections (xs ++ ys) ≡ sections_behind truths (sections_behind truths sections xs) ys
behind_more truths sections [] ys = refl
behind_more truths sections (x ∷ xs) ys = behind_more truths (sections_after truths sections (directive_of x.sign)) xs ys

pub kept_more : (truths : List Bool) (sections : List Section) (xs ys : List Item) → kept_from truths sections (xs ++ ys) ≡ kept_from truths sections xs ++ kept_from truths (sections_behind truths sections xs) ys
kept_more truths sections [] ys = refl
kept_more truths sections (x ∷ xs) ys =
    elim (not (is_group x.sign) && all_kept sections) as (λ b. cond b (x ∷ kept_from truths (sections_after truths sections (directive_of x.sign)) (xs ++ ys)) (kept_from truths (sections_after truths sections (directive_of x.sign)) (xs ++ ys))
    ≡ cond b (x ∷ kept_from truths (sections_after truths sections (directive_of x.sign)) xs) (kept_from truths (sections_after truths sections (directive_of x.sign)) xs) ++ kept_from truths (sections_behind truths (sections_after truths sections (directive_of x.sign)) xs) ys) [
      | true ↦ ap (λ (zs : List Item). x ∷ zs) (kept_more truths (sections_after truths sections (directive_of x.sign)) xs ys)
      | false ↦ kept_more truths (sections_after truths sections (directive_of x.sign)) xs ys
    ]

-- the first `main` stays
abbrev pub MainStays : List Bool → List Section → List Item → Type 0
MainStays truths sections [] = Unit {0}
MainStays truths sections (x ∷ xs) = IsEither (is_main x.sign) (all_kept sections ≡ true) (MainStays truths (sections_after truths sections (directive_of x.sign)) xs)

main_plain : (s : Sign) → is_main s ≡ true → is_group s ≡ false
main_plain signs.Main e = refl
main_plain _ e = absurd cc

pub stays_before : (truths : List Bool) (sections : List Section) (xs ys : List Item) → MainStays truths sections (xs ++ ys) → MainStays truths sections xs
stays_before truths sections [] ys h = tt
stays_before truths sections (x ∷ xs) ys h =
    elim (is_main x.sign) as (λ b. IsEither b (all_kept sections ≡ true) (MainStays truths (sections_after truths sections (directive_of x.sign)) (xs ++ ys)) → IsEither b (all_kept sections ≡ true) (MainStays truths (sections_after truths sections (directive_of x.sign)) xs)) [
      | true ↦ λ k. k
      | false ↦ λ k. stays_before truths (sections_after truths sections (directive_of x.sign)) xs ys k
    ] h

both_true : (a b : Bool) → a ≡ false → b ≡ true → (not a && b) ≡ true
both_true true b e f = absurd cc
both_true false b e f = f

pub has_main_kept : (truths : List Bool) (sections : List Section) (xs : List Item) → MainStays truths sections xs → has_main (kept_from truths sections xs) ≡ has_main xs
has_main_kept truths sections [] h = refl
has_main_kept truths sections (x ∷ xs) h =
    let more = kept_from truths (sections_after truths sections (directive_of x.sign)) xs in
    elim (is_main x.sign) as (λ b. is_main x.sign ≡ b → IsEither b (all_kept sections ≡ true) (MainStays truths (sections_after truths sections (directive_of x.sign)) xs) → has_main (kept_from truths sections (x ∷ xs)) ≡ (b || has_main xs)) [
      | true ↦ λ e k. ap (λ (b : Bool). has_main (cond b (x ∷ more) more)) (both_true (is_group x.sign) (all_kept sections) (main_plain x.sign e) k) ∙ ap (λ (b : Bool). b || has_main more) e
      | false ↦ λ e k. (elim (not (is_group x.sign) && all_kept sections) as (λ b. has_main (cond b (x ∷ more) more) ≡ has_main xs) [
        | true ↦ ap (λ (b : Bool). b || has_main more) e ∙ has_main_kept truths (sections_after truths sections (directive_of x.sign)) xs k
        | false ↦ has_main_kept truths (sections_after truths sections (directive_of x.sign)) xs k
      ])
    ] refl h

pub until_main_kept : (truths : List Bool) (sections : List Section) (xs : List Item) → MainStays truths sections xs → until_main (kept_from truths sections xs) ≡ kept_from truths sections (until_main xs)
until_main_kept truths sections [] h = refl
until_main_kept truths sections (x ∷ xs) h =
    let more = kept_from truths (sections_after truths sections (directive_of x.sign)) xs in
    let fewer = kept_from truths (sections_after truths sections (directive_of x.sign)) (until_main xs) in
    elim (is_main x.sign) as (λ b. is_main x.sign ≡ b → IsEither b (all_kept sections ≡ true) (MainStays truths (sections_after truths sections (directive_of x.sign)) xs)
    → until_main (kept_from truths sections (x ∷ xs)) ≡ kept_from truths sections (cond b [] (x ∷ until_main xs))) [
      | true ↦ λ e k. ap (λ (b : Bool). until_main (cond b (x ∷ more) more)) (both_true (is_group x.sign) (all_kept sections) (main_plain x.sign e) k) ∙ ap (λ (b : Bool). cond b [] (x ∷ until_main more)) e
      | false ↦ λ e k. (elim (not (is_group x.sign) && all_kept sections) as (λ b. until_main (cond b (x ∷ more) more) ≡ cond b (x ∷ fewer) fewer) [
        | true ↦ ap (λ (b : Bool). cond b [] (x ∷ until_main more)) e ∙ ap (λ (zs : List Item). x ∷ zs) (until_main_kept truths (sections_after truths sections (directive_of x.sign)) xs k)
        | false ↦ until_main_kept truths (sections_after truths sections (directive_of x.sign)) xs k
      ])
    ] refl h

-- ---- where directives stand

outside_before : (declaring : Bool) (opened : Option ℕ) (xs ys : List Item) → StandOutside declaring opened (xs ++ ys) → StandOutside declaring opened xs
outside_before declaring opened [] ys h = tt
outside_before declaring opened (x ∷ xs) ys h = (h.0, outside_before (is_declaring x.sign) (opened_by declaring opened x.sign) xs ys h.1)

pub stand_before : (xs ys : List Item) → StandOutside false None (xs ++ ys) → StandOutside false None xs
stand_before xs ys h = outside_before false None xs ys h

no_declaring : AreOthers is_declaring
no_declaring (signs.GroupIf n) e = refl
no_declaring (signs.GroupElif n) e = refl
no_declaring signs.GroupElse e = refl
no_declaring signs.GroupEnd e = refl
no_declaring _ e = absurd cc

-- behind no sign that declares
pub no_declarer : (declaring : Bool) (opened : Option ℕ) (items : List Item) → StandOutside declaring opened items → KnowNothing (by_last is_declaring) false declaring items
no_declarer declaring opened [] h = tt
no_declarer declaring opened (x ∷ xs) h = (λ g. outside_is x.sign g h.0, no_declarer (is_declaring x.sign) (opened_by declaring opened x.sign) xs h.1)
  where
    outside_is : (s : Sign) → is_group s ≡ true → IsOutside (is_group s) declaring opened → declaring ≡ false
    outside_is s g o = (subst (λ (t : Bool). IsOutside t declaring opened) g o).0

-- before an item that stays a name is declared where it is in all items
pub declares_kept : (truths : List Bool) (before : List Item) → StandOutside false None before → is_kept truths before ≡ true → declares_behind (kept truths before) ≡ declares_behind before
declares_kept truths before h k = stands_kept is_declaring no_declaring truths before (no_declarer false None before h) k

-- whether a name is declared next, and the name in whose declarator it stands
abbrev next_in : Bool × Option ℕ → Item → Bool × Option ℕ
next_in o x = (is_declaring x.sign, opened_by o.0 o.1 x.sign)

none_opened : (s : Sign) → is_group s ≡ true → ◌≡◌ {A = Bool × Option ℕ} (is_declaring s, opened_by false None s) (false, None)
none_opened (signs.GroupIf n) e = refl
none_opened (signs.GroupElif n) e = refl
none_opened signs.GroupElse e = refl
none_opened signs.GroupEnd e = refl
none_opened _ e = absurd cc

no_declarator : (declaring : Bool) (opened : Option ℕ) (items : List Item) → StandOutside declaring opened items → KnowNothing next_in (false, None) (declaring, opened) items
no_declarator declaring opened [] h = tt
no_declarator declaring opened (x ∷ xs) h = (λ g. both_out (subst (λ (t : Bool). IsOutside t declaring opened) g h.0), no_declarator (is_declaring x.sign) (opened_by declaring opened x.sign) xs h.1)
  where
    both_out : (declaring ≡ false) × (opened ≡ None) → ◌≡◌ {A = Bool × Option ℕ} (declaring, opened) (false, None)
    both_out o = ap (λ (b : Bool). (b, opened)) o.0 ∙ ap (λ (n : Option ℕ). (false, n)) o.1

in_declarator : (o : Bool × Option ℕ) (items : List Item) → open_from o.0 o.1 items ≡ (known_behind next_in o items).1
in_declarator o [] = refl
in_declarator o (x ∷ xs) = in_declarator (next_in o x) xs

-- and it stands in the same declarator
pub open_kept : (truths : List Bool) (before : List Item) → StandOutside false None before → is_kept truths before ≡ true → open_behind (kept truths before) ≡ open_behind before
open_kept truths before h k =
    in_declarator (false, None) (kept truths before)
    ∙ ap (λ (o : Bool × Option ℕ). o.1) (known_same next_in (false, None) (λ x g. none_opened x.sign g) truths before (no_declarator false None before h) k)
    ∙ sym (in_declarator (false, None) before)

-- a name that stays is used where it is used
pub used_kept : (truths : List Bool) (before : List Item) → StandOutside false None before → MainStays truths [] before → is_kept truths before ≡ true → is_used_behind (kept truths before) ≡ is_used_behind before
used_kept truths before h m k =
    ap (λ (b : Bool). b && not (declares_behind (kept truths before))) (has_main_kept truths [] before m) ∙ ap (λ (b : Bool). has_main before && not b) (declares_kept truths before h k)

-- ---- the names that what stays declares

-- the first `main` stays, unless it stands before these items
abbrev pub MainIs : Bool → List Bool → List Section → List Item → Type 0
MainIs main truths ss items = IsEither main (Unit {0}) (MainStays truths ss items)

pub main_next : (main : Bool) (truths : List Bool) (ss : List Section) (x : Item) (xs : List Item) → MainIs main truths ss (x ∷ xs) → MainIs (main || is_main x.sign) truths (sections_after truths ss (directive_of x.sign)) xs
main_next true truths ss x xs h = tt
main_next false truths ss x xs h =
    elim (is_main x.sign) as (λ b. IsEither b (all_kept ss ≡ true) (MainStays truths (sections_after truths ss (directive_of x.sign)) xs) → MainIs b truths (sections_after truths ss (directive_of x.sign)) xs) [ true ↦ λ _. tt | false ↦ λ k. k ] h

-- what goes is not the first `main`
pub main_gone : (main : Bool) (truths : List Bool) (ss : List Section) (x : Item) (xs : List Item) → MainIs main truths ss (x ∷ xs) → (not (is_group x.sign) && all_kept ss) ≡ false → (main || is_main x.sign) ≡ main
main_gone true truths ss x xs h g = refl
main_gone false truths ss x xs h g =
    elim (is_main x.sign) as (λ b. is_main x.sign ≡ b → IsEither b (all_kept ss ≡ true) (MainStays truths (sections_after truths ss (directive_of x.sign)) xs) → b ≡ false) [
      | true ↦ λ e k. absurd (both_ways (not (is_group x.sign) && all_kept ss) (both_true (is_group x.sign) (all_kept ss) (main_plain x.sign e) k) g)
      | false ↦ λ e k. refl
    ] refl h

name_plain : (b : Bool) (s : Sign) → (b && is_name s) ≡ true → is_group s ≡ false
name_plain false s e = absurd cc
name_plain true (signs.Name n) e = refl
name_plain true _ e = absurd cc

here_or_gone : (truths : List Bool) (ss : List Section) (main here all : Bool) (x : Item) (xs : List Item) (keep : Bool) → (not (is_group x.sign) && all_kept ss) ≡ keep → (keep ≡ true → here ≡ all) → (keep ≡ false → (main || is_main x.sign) ≡ main)
    → declarations_from (main || is_main x.sign) (if keep then is_declaring x.sign else here) (kept_from truths (sections_after truths ss (directive_of x.sign)) xs)
    ≡ kept_from truths (sections_after truths ss (directive_of x.sign)) (declarations_from (main || is_main x.sign) (is_declaring x.sign) xs)
    → declarations_from main here (if keep then x ∷ kept_from truths (sections_after truths ss (directive_of x.sign)) xs else kept_from truths (sections_after truths ss (directive_of x.sign)) xs) ≡ kept_from truths ss (declarations_from main all (x ∷ xs))
here_or_gone truths ss main here all x xs true k same one rest =
    let more = declarations_from (main || is_main x.sign) (is_declaring x.sign) (kept_from truths (sections_after truths ss (directive_of x.sign)) xs) in
    ap (λ (b : Bool). if main && not b && is_name x.sign then more else x ∷ more) (same refl)
    ∙ ap (λ (ys : List Item). if main && not all && is_name x.sign then ys else x ∷ ys) rest
    ∙ by_out truths ss x (declarations_from (main || is_main x.sign) (is_declaring x.sign) xs) (main && not all && is_name x.sign) true (name_plain (main && not all) x.sign) k
here_or_gone truths ss main here all x xs false k same one rest =
    let us = sections_after truths ss (directive_of x.sign) in
    let more = declarations_from (main || is_main x.sign) (is_declaring x.sign) xs in
    ap (λ (b : Bool). declarations_from b here (kept_from truths us xs)) (sym (one refl)) ∙ rest
    ∙ sym (either (main && not all && is_name x.sign) (kept_from truths us more))
    ∙ by_out truths ss x more (main && not all && is_name x.sign) false (name_plain (main && not all) x.sign) k

from_kept : (truths : List Bool) (ss : List Section) (main here all : Bool) (items : List Item) → MainIs main truths ss items → KnowNothing (by_last is_declaring) false all items → AreLike false ss here all
    → declarations_from main here (kept_from truths ss items) ≡ kept_from truths ss (declarations_from main all items)
from_kept truths ss main here all [] m h l = refl
from_kept truths ss main here all (x ∷ xs) m h l =
    here_or_gone truths ss main here all x xs (not (is_group x.sign) && all_kept ss) refl (λ k. l.kept (right (not (is_group x.sign)) (all_kept ss) k)) (main_gone main truths ss x xs m)
    (from_kept truths (sections_after truths ss (directive_of x.sign)) (main || is_main x.sign) (if (not (is_group x.sign) && all_kept ss) then is_declaring x.sign else here) (is_declaring x.sign) xs (main_next main truths ss x xs m) h.1
    (like_next (by_last is_declaring) false (λ y g. no_declaring y.sign g) truths ss x here all l h.0))

-- the declarations of what stays are what stays of the declarations
pub declarations_kept : (truths : List Bool) (items : List Item) → KnowNothing (by_last is_declaring) false false items → MainStays truths [] items → of_declarations (kept truths items) ≡ kept truths (of_declarations items)
declarations_kept truths items h m = from_kept truths [] false false false items m h (record { kept = λ _. refl; gone = λ _. refl })

-- ---- where no fault is found

first_none : (code : Option (List ℤ) → FileCode) (other : Option FileCode) (found : Option Config) → None ≡ code_with code other found → found ≡ None
first_none code other None e = refl
first_none code other (Some config) e = absurd cc

-- where a fault is not found, it is at no valid configuration
pub nowhere : (model : Model) (holds : List ℤ → Bool) (code : Option (List ℤ) → FileCode) (other : Option FileCode) (values : List ℤ) → IsWithFirst model holds code other None → IsValid (plain model) values → holds values ≡ false
nowhere model holds code other values w v =
    let none : Finds model holds None = subst (λ (o : Option Config). Finds model holds o) (first_none code other w.found w.fault_is) w.finds in
    none values v

pub not_false : (b : Bool) → not b ≡ false → b ≡ true
not_false true e = refl
not_false false e = absurd cc

-- ---- one item more

-- the names with values from outside are those of the features that code may use as values; none are counted
pub record AreOutside (context : NameContext) (o : alone.Outside) : Type 0 where
  pub variables : o.variables ≡ 0
  pub locals : o.locals ≡ 0
  pub constants : o.constants ≡ 0
  pub values : (n : ℕ) → alone.has_value o n ≡ is_value context n

-- an item behind others stays
abbrev pub stays_next : List Bool → List Item → Item → Bool
stays_next truths before x = not (is_group x.sign) && is_kept truths before

pub kept_next : (truths : List Bool) (before : List Item) (x : Item) (b : Bool) → stays_next truths before x ≡ b → kept truths (before ++ x ∷ []) ≡ kept truths before ++ cond b (x ∷ []) []
kept_next truths before x b e = kept_more truths [] before (x ∷ []) ∙ ap (λ (t : Bool). kept truths before ++ cond t (x ∷ []) []) e

pub and_right : (a b : Bool) → (a && b) ≡ true → b ≡ true
and_right true b h = h
and_right false b h = absurd cc

-- a value is a feature
no_feature_in : (fs : List Feature) (name : List ℕ) → list_any (λ f. bytes_eq f.name name) fs ≡ false → feature_in fs name ≡ None
no_feature_in [] name h = refl
no_feature_in (f ∷ fs) name h =
    let n = neither (bytes_eq f.name name) (list_any (λ g. bytes_eq g.name name) fs) h in
    ap (λ (b : Bool). if b then Some f else feature_in fs name) n.0 ∙ no_feature_in fs name n.1

pub no_named : (model : Model) (name : Option (List ℕ)) → is_feature_name model name ≡ false → named_feature model name ≡ None
no_named model None h = refl
no_named model (Some name) h = no_feature_in model.features name h

pub no_value : (context : NameContext) (n : ℕ) → is_feature context n ≡ false → is_value context n ≡ false
no_value context n h = ap is_integer (no_named context.model (slice_get context.names n) h)
