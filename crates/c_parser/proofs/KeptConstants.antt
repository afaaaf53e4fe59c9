-- Constants and changed names of the items that stay are those of the family's items, since directives stand apart and in no declarator.
use Rattle.std.proofs.Common.{◌≡◌, ℕ, Bool, true, false, not, ◌||◌, ◌&&◌, List, [], ◌∷◌, ◌++◌, Option, Some, None, refl, sym, ap, subst, ◌∙◌}
use Rattle.std.specs.Prelude.{ℤ, if◌then◌else◌, nat_eq}
use Rattle.std.specs.List.{list_any}
use Rattle.std.proofs.lemmas.List.Folds.{list_any-append}
use Rattle.fam_outer.specs.declared.faults.FileCode.{FileCode}
use Rattle.fam_outer.specs.declared.faults.FileCode.TheVariants.{ChangedConstant}
use Rattle.fam_outer.specs.declared.faults.Place.{Place}
use Rattle.cpp_conditions.specs.Validity.{plain, IsValid}
use Rattle.cpp_groups.specs.declared.section.Section.{Section}
use Rattle.cpp_groups.specs.Kept.{all_kept, sections_after}
use Rattle.c_grammar.specs.declared.constants.NameKind.{NameKind}
use Rattle.c_grammar.specs.declared.constants.NameKind.TheVariants as kinds
use Rattle.c_grammar.specs.declared.items.Item.{Item}
use Rattle.c_grammar.specs.declared.items.Sign.{Sign}
use Rattle.c_grammar.specs.declared.items.Sign.TheVariants as signs
use Rattle.c_grammar.specs.Changes.{is_change, name_at, changed_from, changed_behind, changed_outside, changed_at}
use Rattle.c_grammar.specs.Constants.{is_name, is_constant, kind_behind, constants_from, of_constants, last_from, is_joining, IsBetween, AreApart}
use Rattle.c_grammar.specs.Grammar.{is_group}
use Rattle.c_grammar.specs.Kept.{directive_of, kept_from, kept}
use Rattle.c_grammar.specs.Locals.{is_declaring, open_behind, AreOutside as StandOutside}
use Rattle.c_grammar.specs.Scopes.{names_in_scope, begun_behind, depth_behind, AreLevel}
use Rattle.family_names.specs.Names.{NameContext, truths_at, is_main, has_main, names_of, constants_at, is_among, is_kept, is_value, is_met_constant, IsEither, IsChangeOf, IsChangeFault}
use Rattle.family_names.proofs.Holding.{left_out}
use Rattle.c_parser.specs.Names as alone
use Rattle.c_parser.proofs.KeptNames.{AreOutside, MainStays, has_main_kept, no_declarer, open_kept, nowhere}
use Rattle.c_parser.proofs.KeptScopes.{name_gone, scope_kept}
use Rattle.c_parser.proofs.KeptStates.{both_ways, AreLike, like_next, no_join, KnowNothing, known_behind, known_same, by_last, by_out, right, either}
pub use Rattle.c_parser.proofs.KeptStates.{same_sections}

-- ---- directives apart

pub apart_before : (kind : NameKind) (joined : Bool) (xs ys : List Item) → AreApart kind joined (xs ++ ys) → AreApart kind joined xs
apart_before kind joined [] ys h = tt
apart_before kind joined (x ∷ xs) ys h = (h.0, apart_before (kind_behind kind x.sign) (is_joining x.sign) xs ys h.1)

-- where a directive stands the next name is a variable's, and it is behind it
no_kind : (s : Sign) → is_group s ≡ true → kind_behind kinds.Variable s ≡ kinds.Variable
no_kind (signs.GroupIf n) h = refl
no_kind (signs.GroupElif n) h = refl
no_kind signs.GroupElse h = refl
no_kind signs.GroupEnd h = refl
no_kind _ h = absurd cc

abbrev kind_next : NameKind → Item → NameKind
kind_next kind x = kind_behind kind x.sign

no_constant : (kind : NameKind) (joined : Bool) (items : List Item) → AreApart kind joined items → KnowNothing kind_next kinds.Variable kind items
no_constant kind joined [] h = tt
no_constant kind joined (x ∷ xs) h = (λ g. (subst (λ (t : Bool). IsBetween t kind joined) g h.0).0, no_constant (kind_behind kind x.sign) (is_joining x.sign) xs h.1)

name_plain : (kind : NameKind) (s : Sign) → (is_constant kind || not (is_name s)) ≡ false → is_group s ≡ false
name_plain kind s e = ap is_group (left_out (is_constant kind) s e).1

plain_out : (kind : NameKind) (s : Sign) → not (is_constant kind || not (is_name s)) ≡ true → is_group s ≡ false
plain_out kind s e = name_plain kind s (is_false (is_constant kind || not (is_name s)) e)
  where
    is_false : (b : Bool) → not b ≡ true → b ≡ false
    is_false true e = absurd cc
    is_false false e = refl

-- an item in front, left out where it is the name of a variable
by_name : (truths : List Bool) (ss : List Section) (kind : NameKind) (x : Item) (ys : List Item) (keep : Bool) → (not (is_group x.sign) && all_kept ss) ≡ keep
    → (if (is_constant kind || not (is_name x.sign)) then (if keep then x ∷ kept_from truths (sections_after truths ss (directive_of x.sign)) ys else kept_from truths (sections_after truths ss (directive_of x.sign)) ys) else kept_from truths (sections_after truths ss (directive_of x.sign)) ys)
    ≡ kept_from truths ss (if (is_constant kind || not (is_name x.sign)) then x ∷ ys else ys)
by_name truths ss kind x ys keep k =
    elim (is_constant kind || not (is_name x.sign)) as (λ t. (not t ≡ true → is_group x.sign ≡ false)
    → (if t then (if keep then x ∷ kept_from truths (sections_after truths ss (directive_of x.sign)) ys else kept_from truths (sections_after truths ss (directive_of x.sign)) ys) else kept_from truths (sections_after truths ss (directive_of x.sign)) ys) ≡ kept_from truths ss (if t then x ∷ ys else ys)) [
      | true ↦ λ p. by_out truths ss x ys false keep p k
      | false ↦ λ p. by_out truths ss x ys true keep p k
    ] (plain_out kind x.sign)

here_or_gone : (truths : List Bool) (ss : List Section) (here all : NameKind) (x : Item) (xs : List Item) (keep : Bool) → (not (is_group x.sign) && all_kept ss) ≡ keep → (keep ≡ true → here ≡ all)
    → constants_from (if keep then kind_behind here x.sign else here) (kept_from truths (sections_after truths ss (directive_of x.sign)) xs) ≡ kept_from truths (sections_after truths ss (directive_of x.sign)) (constants_from (kind_behind all x.sign) xs)
    → constants_from here (if keep then x ∷ kept_from truths (sections_after truths ss (directive_of x.sign)) xs else kept_from truths (sections_after truths ss (directive_of x.sign)) xs) ≡ kept_from truths ss (constants_from all (x ∷ xs))
here_or_gone truths ss here all x xs true k same rest =
    ap (λ (b : NameKind). if is_constant b || not (is_name x.sign) then x ∷ constants_from (kind_behind here x.sign) (kept_from truths (sections_after truths ss (directive_of x.sign)) xs) else constants_from (kind_behind here x.sign) (kept_from truths (sections_after truths ss (directive_of x.sign)) xs)) (same refl)
    ∙ ap (λ (ys : List Item). if is_constant all || not (is_name x.sign) then x ∷ ys else ys) rest
    ∙ by_name truths ss all x (constants_from (kind_behind all x.sign) xs) true k
here_or_gone truths ss here all x xs false k same rest =
    rest
    ∙ sym (either (is_constant all || not (is_name x.sign)) (kept_from truths (sections_after truths ss (directive_of x.sign)) (constants_from (kind_behind all x.sign) xs)))
    ∙ by_name truths ss all x (constants_from (kind_behind all x.sign) xs) false k

-- the constants of what stays are what stays of the constants
constants_kept : (truths : List Bool) (ss : List Section) (here all : NameKind) (items : List Item) → KnowNothing kind_next kinds.Variable all items → AreLike kinds.Variable ss here all → constants_from here (kept_from truths ss items) ≡ kept_from truths ss (constants_from all items)
constants_kept truths ss here all [] h l = refl
constants_kept truths ss here all (x ∷ xs) h l =
    here_or_gone truths ss here all x xs (not (is_group x.sign) && all_kept ss) refl (λ k. l.kept (right (not (is_group x.sign)) (all_kept ss) k))
    (constants_kept truths (sections_after truths ss (directive_of x.sign)) (if (not (is_group x.sign) && all_kept ss) then kind_behind here x.sign else here) (kind_behind all x.sign) xs h.1
    (like_next kind_next kinds.Variable (λ y g. no_kind y.sign g) truths ss x here all l h.0))

-- ---- names that are changed

-- the last item, where a statement or a declaration goes on behind it
abbrev joined_by : Item → Option Item
joined_by x = if is_joining x.sign then Some x else None

abbrev joined : Option Item → Option Item
joined None = None
joined (Some x) = joined_by x

abbrev joined_next : Option Item → Item → Option Item
joined_next last x = joined_by x

-- at a directive it is none
none_joined : (kind : NameKind) (last : Option Item) (joins : Bool) (items : List Item) → AreApart kind joins items → (joins ≡ false → last ≡ None) → KnowNothing joined_next None last items
none_joined kind last joins [] h none = tt
none_joined kind last joins (x ∷ xs) h none = (
  λ g. none (subst (λ (t : Bool). IsBetween t kind joins) g h.0).1,
  none_joined (kind_behind kind x.sign) (joined_by x) (is_joining x.sign) xs h.1 (λ e. ap (λ (t : Bool). if t then Some x else None) e),
)

last_joined : (last : Option Item) (items : List Item) → joined (last_from last items) ≡ known_behind joined_next (joined last) items
last_joined last [] = refl
last_joined last (x ∷ xs) = last_joined (Some x) xs

joined_kept : (truths : List Bool) (before : List Item) → AreApart kinds.Variable false before → is_kept truths before ≡ true → joined (last_from None (kept truths before)) ≡ joined (last_from None before)
joined_kept truths before h k =
    last_joined None (kept truths before)
    ∙ known_same joined_next None (λ x g. ap (λ (t : Bool). if t then Some x else None) (no_join x.sign g)) truths before (none_joined kinds.Variable None false before h (λ _. refl)) k
    ∙ sym (last_joined None before)

no_name_at : (b : Bool) (s : Sign) (p : Place) → is_joining s ≡ false → name_at b s p ≡ None
no_name_at true (signs.Name n) p h = absurd cc
no_name_at true _ p h = refl
no_name_at false s p h = refl

no_change_from : (p : Place) (s : Sign) (y : Item) → is_joining s ≡ false → changed_from p s y ≡ None
no_change_from p signs.PlusPlus y h = absurd cc
no_change_from p signs.MinusMinus y h = absurd cc
no_change_from p s y h = no_name_at (is_change y.sign) s p h

-- behind another one nothing is changed
by_joined : (last : Option Item) (y : Item) → changed_behind last y ≡ changed_behind (joined last) y
by_joined None y = refl
by_joined (Some x) y = elim (is_joining x.sign) as (λ b. is_joining x.sign ≡ b → changed_from x.place x.sign y ≡ changed_behind (if b then Some x else None) y) [
  | true ↦ λ e. refl
  | false ↦ λ e. no_change_from x.place x.sign y e
] refl

-- an item that stays changes in what stays what it changes
changes_kept : (truths : List Bool) (before : List Item) (x : Item) → AreApart kinds.Variable false before → StandOutside false None before → is_kept truths before ≡ true → changed_at (kept truths before) x ≡ changed_at before x
changes_kept truths before x a h k =
    ap (λ (o : Option ℕ). changed_outside o (last_from None (kept truths before)) x) (open_kept truths before h k)
    ∙ (elim (open_behind before) as (λ o. changed_outside o (last_from None (kept truths before)) x ≡ changed_outside o (last_from None before) x) [
      | None ↦ by_joined (last_from None (kept truths before)) x ∙ ap (λ (o : Option Item). changed_behind o x) (joined_kept truths before a k) ∙ sym (by_joined (last_from None before) x)
      | (Some n) ↦ refl
    ])

-- ---- the constants of what stays

main_of_constants : (truths : List Bool) (ss : List Section) (kind : NameKind) (items : List Item) → MainStays truths ss items → MainStays truths ss (constants_from kind items)
main_of_constants truths ss kind [] h = tt
main_of_constants truths ss kind (x ∷ xs) h = elim (is_constant kind || not (is_name x.sign)) as (λ t. (is_constant kind || not (is_name x.sign)) ≡ t → MainStays truths ss (if t then x ∷ constants_from (kind_behind kind x.sign) xs else constants_from (kind_behind kind x.sign) xs)) [
  | true ↦ λ e. (elim (is_main x.sign) as (λ b. IsEither b (all_kept ss ≡ true) (MainStays truths (sections_after truths ss (directive_of x.sign)) xs) → IsEither b (all_kept ss ≡ true) (MainStays truths (sections_after truths ss (directive_of x.sign)) (constants_from (kind_behind kind x.sign) xs))) [
    | true ↦ λ k. k
    | false ↦ λ k. main_of_constants truths (sections_after truths ss (directive_of x.sign)) (kind_behind kind x.sign) xs k
  ] h)
  | false ↦ λ e. (let n = left_out (is_constant kind) x.sign e in
      let k : MainStays truths ss xs = subst (λ (s : Sign). IsEither (is_main s) (all_kept ss ≡ true) (MainStays truths (sections_after truths ss (directive_of s)) xs)) n.1 h in
      main_of_constants truths ss (kind_behind kind x.sign) xs k)
] refl

-- behind a name that is left out no directive stands
no_declarer_left : (kind : NameKind) (joins here all : Bool) (items : List Item) → AreApart kind joins items → KnowNothing (by_last is_declaring) false all items → (joins ≡ false → here ≡ all) → KnowNothing (by_last is_declaring) false here (constants_from kind items)
no_declarer_left kind joins here all [] h d same = tt
no_declarer_left kind joins here all (x ∷ xs) h d same =
    let now = is_declaring x.sign in
    let later = kind_behind kind x.sign in
    let at_directive : is_group x.sign ≡ true → here ≡ false = λ g. same (subst (λ (t : Bool). IsBetween t kind joins) g h.0).1 ∙ d.0 g in
    elim (is_constant kind || not (is_name x.sign)) as (λ t. (is_constant kind || not (is_name x.sign)) ≡ t
    → KnowNothing (by_last is_declaring) false here (if t then x ∷ constants_from (kind_behind kind x.sign) xs else constants_from (kind_behind kind x.sign) xs)) [
      | true ↦ λ e. (at_directive, no_declarer_left later (is_joining x.sign) now now xs h.1 d.1 (λ _. refl))
      | false ↦ λ e. no_declarer_left later (is_joining x.sign) here now xs h.1 d.1 (λ j. absurd (both_ways (is_joining x.sign) (ap is_joining (left_out (is_constant kind) x.sign e).1) j))
    ] refl

-- without the names of variables the braces are as level
level_constants : (begun : List ℕ) (depth : ℕ) (kind : NameKind) (items : List Item) → AreLevel begun depth items → AreLevel begun depth (constants_from kind items)
level_constants begun depth kind [] h = tt
level_constants begun depth kind (x ∷ xs) h =
    let rest = level_constants (begun_behind begun depth x.sign) (depth_behind depth x.sign) (kind_behind kind x.sign) xs h.1 in
    let more = constants_from (kind_behind kind x.sign) xs in
    elim (is_constant kind || not (is_name x.sign)) as (λ t. (is_constant kind || not (is_name x.sign)) ≡ t → AreLevel begun depth (if t then x ∷ constants_from (kind_behind kind x.sign) xs else constants_from (kind_behind kind x.sign) xs)) [
      | true ↦ λ e. (h.0, rest)
      | false ↦ λ e. name_gone begun depth x.sign more (name_left (is_constant kind) (is_name x.sign) e) rest
    ] refl
  where
    name_left : (a b : Bool) → (a || not b) ≡ false → b ≡ true
    name_left true b e = absurd cc
    name_left false true e = refl
    name_left false false e = absurd cc

-- behind items whose braces are level the constants in scope of what stays are those in scope that stay
pub constants_in_scope_kept : (truths : List Bool) (before : List Item) → AreApart kinds.Variable false before → StandOutside false None before → MainStays truths [] before → AreLevel [] 0 before → alone.constants_in_scope (kept truths before) ≡ constants_at truths before
constants_in_scope_kept truths before a h m l =
    ap names_in_scope (constants_kept truths [] kinds.Variable kinds.Variable before (no_constant kinds.Variable false before a) (record { kept = λ _. refl; gone = λ _. refl }))
    ∙ ap names_of (scope_kept truths (of_constants before) (no_declarer_left kinds.Variable false false false before a (no_declarer false None before h) (λ _. refl)) (main_of_constants truths [] kinds.Variable before m) (level_constants [] 0 kinds.Variable before l))

-- ---- a change without a fault

not_constant : (constants : List ℕ) (change : ℕ × Place) → list_any (nat_eq change.0) constants ≡ false → alone.constant_fault constants (Some change) ≡ None
not_constant constants change e = ap (λ (b : Bool). if b then Some (ChangedConstant, change.1) else None) e

-- what stays changes no constant and no value
unchanged : (context : NameContext) (o : alone.Outside) (values : List ℤ) (before : List Item) (n : ℕ) → AreOutside context o → is_kept (truths_at context values) before ≡ true → is_met_constant context before n values ≡ false
    → list_any (nat_eq n) (o.values ++ constants_at (truths_at context values) before) ≡ false
unchanged context o values before n a k none =
    list_any-append (nat_eq n) o.values (constants_at (truths_at context values) before)
    ∙ ap (λ (b : Bool). b || is_among n (constants_at (truths_at context values) before)) (a.values n)
    ∙ sym (ap (λ (b : Bool). b && (is_value context n || is_among n (constants_at (truths_at context values) before))) k) ∙ none

by_change : (context : NameContext) (o : alone.Outside) (values : List ℤ) (before : List Item) (change : Option (ℕ × Place)) → AreOutside context o → IsValid (plain context.model) values → is_kept (truths_at context values) before ≡ true → IsChangeOf context before change None
    → alone.constant_fault (o.values ++ constants_at (truths_at context values) before) change ≡ None
by_change context o values before None a v k d = refl
by_change context o values before (Some change) a v k d = not_constant (o.values ++ constants_at (truths_at context values) before) change
    (unchanged context o values before change.0 a k (nowhere context.model (is_met_constant context before change.0) (λ example. ChangedConstant) None values d v))

pub change_fine : (context : NameContext) (o : alone.Outside) (values : List ℤ) (before : List Item) (x : Item) → AreOutside context o → AreApart kinds.Variable false before → StandOutside false None before → AreLevel [] 0 before → IsValid (plain context.model) values → MainStays (truths_at context values) [] before
    → IsChangeFault context before x None → is_kept (truths_at context values) before ≡ true → alone.change_fault o (kept (truths_at context values) before) x ≡ None
change_fine context o values before x out a h l v m c k =
    let truths = truths_at context values in
    ap (λ (b : Bool). if b then alone.constant_fault (o.values ++ alone.constants_in_scope (kept truths before)) (changed_at (kept truths before) x) else None) (has_main_kept truths [] before m)
    ∙ (elim (has_main before) as (λ b. IsEither b (IsChangeOf context before (changed_at before x) None) (◌≡◌ {A = Option FileCode} None None) → (if b then alone.constant_fault (o.values ++ alone.constants_in_scope (kept (truths_at context values) before)) (changed_at (kept (truths_at context values) before) x) else None) ≡ None) [
      | true ↦ λ d. ap (λ (ns : List ℕ). alone.constant_fault (o.values ++ ns) (changed_at (kept truths before) x)) (constants_in_scope_kept truths before a h m l)
          ∙ ap (alone.constant_fault (o.values ++ constants_at truths before)) (changes_kept truths before x a h k) ∙ by_change context o values before (changed_at before x) out v k d
      | false ↦ λ d. refl
    ] c)
