-- What is known of constants behind one item more, and the names that it changes.
use Rattle.std.proofs.Common.{◌≡◌, ℕ, ℤ, Bool, true, false, not, ◌&&◌, nat_eq, List, [], ◌∷◌, ◌++◌, Option, Some, None, refl, sym, ap, subst, ◌∙◌, append-nil, inl, inr}
use Rattle.std.specs.Prelude.{◌||◌, ◌⊎◌, if◌then◌else◌}
use Rattle.fam_outer.specs.declared.faults.FileCode.{FileCode}
use Rattle.fam_outer.specs.declared.faults.FileCode.TheVariants.{ChangedConstant}
use Rattle.fam_outer.specs.declared.faults.Place.{Place}
use Rattle.linear_atoms.specs.declared.atoms.Config.{Config}
use Rattle.atom_solver.specs.Solutions.{Finds}
use Rattle.cpp_groups.specs.declared.section.Section.{Section}
use Rattle.cpp_groups.specs.Kept.{all_kept, sections_after}
use Rattle.c_grammar.specs.declared.constants.NameKind.{NameKind}
use Rattle.c_grammar.specs.declared.constants.NameKind.TheVariants as kinds
use Rattle.c_grammar.specs.declared.items.Item.{Item}
use Rattle.c_grammar.specs.declared.items.Sign.{Sign}
use Rattle.c_grammar.specs.declared.items.Sign.TheVariants as signs
use Rattle.c_grammar.specs.declared.scoped.Scoped.{Scoped}
use Rattle.c_grammar.specs.Changes.{changed_at, IsTrack}
use Rattle.c_grammar.specs.Constants.{is_name, is_constant, kind_behind, kind_after, constants_from, of_constants}
use Rattle.c_grammar.specs.Functions.{has_sign}
use Rattle.c_grammar.specs.Grammar.{at}
use Rattle.c_grammar.specs.Kept.{directive_of}
use Rattle.c_grammar.specs.Locals.{is_declaring, declares_behind}
use Rattle.c_grammar.specs.Scoped.{still}
use Rattle.c_grammar.proofs.Declaring.{last_of_constants}
use Rattle.family_names.specs.declared.constants.Constants.{Constants}
use Rattle.family_names.specs.declared.declarations.Declaration.{Declaration}
use Rattle.family_names.specs.declared.seen.Seen.{Seen}
use Rattle.family_names.specs.declared.groups.Group.{Group}
use Rattle.family_names.specs.Blocks.{still_at, is_shown, left_before, with_shown}
use Rattle.family_names.specs.Declarations.{is_declared, has_one}
use Rattle.family_names.specs.Groups.{sections, are_kept}
use Rattle.family_names.specs.Names.{NameContext, truths_at, is_main, has_main, name_of, constants_at, is_among, sections_behind, is_kept, is_value, is_met_constant, code_with, IsEither, is_used_behind, IsChangeOf, IsChangeFault, place_or}
use Rattle.family_names.specs.Judging as judging
use Rattle.family_names.specs.Judging.{IsSeen, AreHeld, FollowsConstants, IsChange, with_constant}
use Rattle.family_names.proofs.Answering.{found_same}
use Rattle.family_names.proofs.Declared.{main_on, still_used, still_other, one_more}

-- ---- the items without the names of variables

pub from_more : (kind : NameKind) (before : List Item) (x : Item) → constants_from kind (before ++ x ∷ []) ≡ constants_from kind before ++ constants_from (kind_after kind before) (x ∷ [])
from_more kind [] x = refl
from_more kind (y ∷ ys) x =
    let c = kind_behind kind y.sign in
    elim (is_constant kind || not (is_name y.sign)) as (λ t. (if t then y ∷ constants_from (kind_behind kind y.sign) (ys ++ x ∷ []) else constants_from (kind_behind kind y.sign) (ys ++ x ∷ []))
    ≡ (if t then y ∷ constants_from (kind_behind kind y.sign) ys else constants_from (kind_behind kind y.sign) ys) ++ constants_from (kind_after (kind_behind kind y.sign) ys) (x ∷ [])) [
      | true ↦ ap (λ (zs : List Item). y ∷ zs) (from_more c ys x)
      | false ↦ from_more c ys x
    ]

-- what is left out is a name
pub left_out : (b : Bool) (s : Sign) → (b || not (is_name s)) ≡ false → (n : ℕ) × (s ≡ signs.Name n)
left_out true s e = absurd cc
left_out false (signs.Name n) e = (n, refl)
left_out false _ e = absurd cc

pub from_main : (kind : NameKind) (before : List Item) → has_main (constants_from kind before) ≡ has_main before
from_main kind [] = refl
from_main kind (y ∷ ys) =
    elim (is_constant kind || not (is_name y.sign)) as (λ t. (is_constant kind || not (is_name y.sign)) ≡ t → has_main (if t then y ∷ constants_from (kind_behind kind y.sign) ys else constants_from (kind_behind kind y.sign) ys) ≡ (is_main y.sign || has_main ys)) [
      | true ↦ λ e. ap (λ (h : Bool). is_main y.sign || h) (from_main (kind_behind kind y.sign) ys)
      | false ↦ λ e. from_main (kind_behind kind y.sign) ys ∙ sym (ap (λ (s : Sign). is_main s || has_main ys) (left_out (is_constant kind) y.sign e).1)
    ] refl

pub from_sections : (truths : List Bool) (ss : List Section) (kind : NameKind) (before : List Item) → sections_behind truths ss (constants_from kind before) ≡ sections_behind truths ss before
from_sections truths ss kind [] = refl
from_sections truths ss kind (y ∷ ys) =
    elim (is_constant kind || not (is_name y.sign)) as (λ t. (is_constant kind || not (is_name y.sign)) ≡ t → sections_behind truths ss (if t then y ∷ constants_from (kind_behind kind y.sign) ys else constants_from (kind_behind kind y.sign) ys) ≡ sections_behind truths (sections_after truths ss (directive_of y.sign)) ys) [
      | true ↦ λ e. from_sections truths (sections_after truths ss (directive_of y.sign)) (kind_behind kind y.sign) ys
      | false ↦ λ e. from_sections truths ss (kind_behind kind y.sign) ys ∙ sym (ap (λ (s : Sign). sections_behind truths (sections_after truths ss (directive_of s)) ys) (left_out (is_constant kind) y.sign e).1)
    ] refl

-- where a constant's name comes next, it is used behind them if it is used behind all items
used_same : (before : List Item) → is_constant (kind_after kinds.Variable before) ≡ true → is_used_behind (of_constants before) ≡ is_used_behind before
used_same before c =
    ap (λ (b : Bool). b && not (declares_behind (of_constants before))) (from_main kinds.Variable before)
    ∙ ap (λ (o : Option Item). has_main before && not (has_sign is_declaring o)) (last_of_constants before c)

-- ---- an item more

-- the sign is a name or names nothing
record NamesNothing (s : Sign) : Type 0 where
  no_name : name_of s ≡ []
  other : is_name s ≡ false
  adds_none : (ds : List Declaration) (b : Bool) (gs : List Group) → with_constant ds b gs s ≡ ds

names_none : (ds : List Declaration) (b : Bool) (gs : List Group) (s : Sign) → is_name s ≡ false → with_constant ds b gs s ≡ ds
names_none ds true gs (signs.Name n) e = absurd cc
names_none ds true gs _ e = refl
names_none ds false gs s e = refl

name_or_nothing : (s : Sign) → ((n : ℕ) × (s ≡ signs.Name n)) ⊎ NamesNothing s
name_or_nothing (signs.Name n) = inl (n, refl)
name_or_nothing s = inr (record { no_name = refl; other = refl; adds_none = λ ds b gs. names_none ds b gs s refl })

-- what is known of declarations, and what is in scope where so many more blocks are left
abbrev Tells : ℕ → List Declaration → List Item → Type 0
Tells n ds items = (truths : List Bool) (y : ℕ) → is_declared truths ds y ≡ is_among y (still_at n truths items)

-- the declarations behind one item more, which is a constant's name or not
abbrev behind_one : Scoped Declaration → Bool → List Group → Bool → Sign → ℕ → List Declaration
behind_one old constant groups main sign n = with_constant (still (left_before sign main n) old) (constant && is_shown n main) groups sign

-- an item that names nothing
nothing_more : (before : List Item) (x : Item) (n : ℕ) (old : Scoped Declaration) → name_of x.sign ≡ [] → ((m : ℕ) → Tells m (still m old) before) → Tells n (still (left_before x.sign (has_main before) n) old) (before ++ x ∷ [])
nothing_more before x n old e h truths y = h (left_before x.sign (has_main before) n) truths y ∙ ap (is_among y) (sym ((still_other before x e).kept n truths))

as_shown : (b : Bool) (ds : List Declaration) (groups : List Group) (x : ℕ) → with_constant ds b groups (signs.Name x) ≡ with_shown b ds (record { name = x; groups = groups })
as_shown true ds groups x = refl
as_shown false ds groups x = refl

-- a constant's name, which is used or declared
constant_more : (before : List Item) (p : Place) (x n : ℕ) (ds : List Declaration) (groups : List Group) (used : Bool) → is_used_behind before ≡ used → ((truths : List Bool) → sections truths groups ≡ sections_behind truths [] before) → Tells n ds before
    → Tells n (with_constant ds (not used && is_shown n (has_main before)) groups (signs.Name x)) (before ++ at p (signs.Name x) ∷ [])
constant_more before p x n ds groups true u same h truths y = h truths y ∙ ap (is_among y) (sym ((still_used before p x u).kept n truths))
constant_more before p x n ds groups false u same h truths y =
    ap (λ (es : List Declaration). is_declared truths es y) (as_shown (is_shown n (has_main before)) ds groups x) ∙ one_more before p x n ds groups u same h truths y

-- a name, a constant's or not
name_more : (before : List Item) (p : Place) (x n : ℕ) (ds : List Declaration) (groups : List Group) (kind : NameKind) (used : Bool) → (is_constant kind ≡ true → is_used_behind before ≡ used) → ((truths : List Bool) → sections truths groups ≡ sections_behind truths [] before) → Tells n ds before
    → Tells n (with_constant ds ((is_constant kind && not used) && is_shown n (has_main before)) groups (signs.Name x)) (before ++ constants_from kind (at p (signs.Name x) ∷ []))
name_more before p x n ds groups kinds.Constant used u same h truths y = constant_more before p x n ds groups used (u refl) same h truths y
name_more before p x n ds groups kinds.Defined used u same h truths y = constant_more before p x n ds groups used (u refl) same h truths y
name_more before p x n ds groups kinds.Variable used u same h truths y = h truths y ∙ ap (λ (ys : List Item). is_among y (still_at n truths ys)) (sym (append-nil before))

pub kept_in : (kind : NameKind) (x : Item) (xs : List Item) → is_name x.sign ≡ false → constants_from kind (x ∷ xs) ≡ x ∷ constants_from (kind_behind kind x.sign) xs
kept_in kinds.Constant x xs e = refl
kept_in kinds.Defined x xs e = refl
kept_in kinds.Variable x xs e = ap (λ (t : Bool). if not t then x ∷ constants_from (kind_behind kinds.Variable x.sign) xs else constants_from (kind_behind kinds.Variable x.sign) xs) e

item_more : (before : List Item) (x : Item) (old : Scoped Declaration) (groups : List Group) (kind : NameKind) (used : Bool) → (is_constant kind ≡ true → is_used_behind before ≡ used) → ((truths : List Bool) → sections truths groups ≡ sections_behind truths [] before) → ((n : ℕ) → Tells n (still n old) before)
    → (n : ℕ) → Tells n (behind_one old (is_constant kind && not used) groups (has_main before) x.sign n) (before ++ constants_from kind (x ∷ []))
item_more before x old groups kind used u same h n = elim (name_or_nothing x.sign) [
  | inl e ↦ subst (λ (y : Item). Tells n (behind_one old (is_constant kind && not used) groups (has_main before) y.sign n) (before ++ constants_from kind (y ∷ [])))
      (ap (λ (s : Sign). at x.place s) (sym e.1)) (name_more before x.place e.0 n (still n old) groups kind used u same (h n))
  | inr e ↦ λ truths y.
      ap (λ (es : List Declaration). is_declared truths es y) (e.adds_none (still (left_before x.sign (has_main before) n) old) ((is_constant kind && not used) && is_shown n (has_main before)) groups)
      ∙ nothing_more before x n old e.no_name h truths y
      ∙ ap (λ (ys : List Item). is_among y (still_at n truths (before ++ ys))) (sym (kept_in kind x [] e.other))
]

-- whether the name is a constant's, as the code asks
pub is_asked : (a b c : Bool) → a ≡ true → c ≡ not b → c ≡ (a && not b)
is_asked a b c e h = h ∙ sym (ap (λ (t : Bool). t && not b) e)

pub is_not_asked : (a b c : Bool) → a ≡ false → c ≡ a → c ≡ (a && not b)
is_not_asked a b c e h = h ∙ e ∙ sym (ap (λ (t : Bool). t && not b) e)

pub held_more : (before : List Item) (x : Item) (old new : Constants) (seen : Seen) (constant used : Bool) → IsSeen before seen → AreHeld before old → IsTrack (before ++ x ∷ []) new.track → constant ≡ is_constant (kind_after kinds.Variable before) → used ≡ is_used_behind before
    → FollowsConstants old.declarations (constant && not used) seen.groups seen.in_main x.sign new.declarations → AreHeld (before ++ x ∷ []) new
held_more before x old new seen constant used k h track is is_used f =
    let kind : NameKind = kind_after kinds.Variable before in
    let behind : List Item = of_constants before in
    let more : (n : ℕ) → Tells n (behind_one old.declarations (is_constant kind && not (is_used_behind before)) seen.groups (has_main behind) x.sign n) (behind ++ constants_from kind (x ∷ [])) =
    item_more behind x old.declarations seen.groups kind (is_used_behind before) (used_same before)
    (λ truths. k.groups truths ∙ sym (from_sections truths [] kinds.Variable before)) h.declarations in
    record {
      track = track;
      sound = f.sound;
      inside = f.inside ∙ ap (λ (b : Bool). b || is_main x.sign) k.main ∙ sym (main_on before x);
      declarations = λ n truths y.
          ap (λ (ds : List Declaration). is_declared truths ds y)
          (f.still_is n ∙ ap (λ (b : Bool). behind_one old.declarations (b && not used) seen.groups seen.in_main x.sign n) is
          ∙ ap (λ (b : Bool). behind_one old.declarations (is_constant kind && not b) seen.groups seen.in_main x.sign n) is_used
          ∙ ap (λ (b : Bool). behind_one old.declarations (is_constant kind && not (is_used_behind before)) seen.groups b x.sign n) (k.main ∙ sym (from_main kinds.Variable before)))
          ∙ more n truths y
          ∙ ap (λ (ys : List Item). is_among y (still_at n truths ys)) (sym (from_more kinds.Variable before x));
    }

-- ---- what an item changes

met_same : (context : NameContext) (before : List Item) (seen : Seen) (constants : Constants) (x : ℕ) → IsSeen before seen → AreHeld before constants → (values : List ℤ)
    → judging.is_met_constant context seen.groups (still 0 constants.declarations) x values ≡ is_met_constant context before x values
met_same context before seen constants x k h values =
    ap (λ (ss : List Section). all_kept ss && (is_value context x || is_declared (truths_at context values) (still 0 constants.declarations) x)) (k.groups (truths_at context values))
    ∙ ap (λ (b : Bool). is_kept (truths_at context values) before && (is_value context x || b)) (h.declarations 0 (truths_at context values) x)

or_first : (a b : Bool) → (a || b) ≡ false → a ≡ false
or_first true b e = absurd cc
or_first false b e = refl

or_second : (a b : Bool) → (a || b) ≡ false → b ≡ false
or_second true b e = absurd cc
or_second false b e = e

pub none_declared : (truths : List Bool) (ds : List Declaration) (x : ℕ) → has_one ds x ≡ false → is_declared truths ds x ≡ false
none_declared truths [] x e = refl
none_declared truths (d ∷ ds) x e =
    ap (λ (b : Bool). (b && are_kept truths d.groups) || is_declared truths ds x) (or_first (nat_eq x d.name) (has_one ds x) e) ∙ none_declared truths ds x (or_second (nat_eq x d.name) (has_one ds x) e)

pub and_none : (a b : Bool) → b ≡ false → (a && b) ≡ false
and_none true b e = e
and_none false b e = refl

-- nothing is changed before `main`
before_main : (context : NameContext) (before : List Item) (x : Item) (code : Option FileCode) → has_main before ≡ false → code ≡ None → IsChangeFault context before x code
before_main context before x code m e = subst (λ (b : Bool). IsEither b (IsChangeOf context before (changed_at before x) code) (code ≡ None)) (sym m) e

pub unchanged : (context : NameContext) (before : List Item) (seen : Seen) (x : Item) → IsSeen before seen → seen.in_main ≡ false → IsChange context before x None
unchanged context before seen x k e = record { code = None; fault_is = before_main context before x None (sym k.main ∙ e) refl; is = refl }

-- behind `main`, by the name that is changed
changed_so : (context : NameContext) (before : List Item) (seen : Seen) (x : Item) (change : Option (ℕ × Place)) (code : Option FileCode) → IsSeen before seen → seen.in_main ≡ true → changed_at before x ≡ change
    → IsChangeOf context before change code → IsChangeFault context before x code
changed_so context before seen x change code k main e c =
    subst (λ (b : Bool). IsEither b (IsChangeOf context before (changed_at before x) code) (code ≡ None)) (sym (sym k.main ∙ main))
    (subst (λ (o : Option (ℕ × Place)). IsChangeOf context before o code) (sym e) c)

pub changes_nothing : (context : NameContext) (before : List Item) (seen : Seen) (x : Item) → IsSeen before seen → seen.in_main ≡ true → changed_at before x ≡ None → IsChange context before x None
changes_nothing context before seen x k main e = record { code = None; fault_is = changed_so context before seen x None None k main e refl; is = refl }

pub changes_variable : (context : NameContext) (before : List Item) (seen : Seen) (constants : Constants) (x : Item) (change : ℕ × Place) → IsSeen before seen → AreHeld before constants → seen.in_main ≡ true → changed_at before x ≡ Some change
    → is_value context change.0 ≡ false → has_one (still 0 constants.declarations) change.0 ≡ false → IsChange context before x None
changes_variable context before seen constants x change k h main e other none = record {
  code = None;
  fault_is = changed_so context before seen x (Some change) None k main e (record {
    found = None;
    finds = λ values valid. and_none (is_kept (truths_at context values) before) (is_value context change.0 || is_among change.0 (constants_at (truths_at context values) before))
        (ap (λ (b : Bool). b || is_among change.0 (constants_at (truths_at context values) before)) other
        ∙ sym (h.declarations 0 (truths_at context values) change.0) ∙ none_declared (truths_at context values) (still 0 constants.declarations) change.0 none);
    fault_is = refl;
  });
  is = refl;
}

changes_name : (context : NameContext) (before : List Item) (seen : Seen) (constants : Constants) (x : Item) (change : ℕ × Place) (found : Option Config) (code : Option FileCode) → IsSeen before seen → AreHeld before constants → seen.in_main ≡ true → changed_at before x ≡ Some change
    → Finds context.model (judging.is_met_constant context seen.groups (still 0 constants.declarations) change.0) found → code ≡ code_with (λ example. ChangedConstant) None found → IsChangeFault context before x code
changes_name context before seen constants x change found code k h main e finds is = changed_so context before seen x (Some change) code k main e (record {
  found = found;
  finds = found_same context.model (judging.is_met_constant context seen.groups (still 0 constants.declarations) change.0) (is_met_constant context before change.0) (met_same context before seen constants change.0 k h) found finds;
  fault_is = is;
})

pub changes_constant : (context : NameContext) (before : List Item) (seen : Seen) (constants : Constants) (x : Item) (change : ℕ × Place) (config : Config) → IsSeen before seen → AreHeld before constants → seen.in_main ≡ true → changed_at before x ≡ Some change
    → Finds context.model (judging.is_met_constant context seen.groups (still 0 constants.declarations) change.0) (Some config) → IsChange context before x (Some (ChangedConstant, change.1))
changes_constant context before seen constants x change config k h main e finds = record {
  code = Some ChangedConstant;
  fault_is = changes_name context before seen constants x change (Some config) (Some ChangedConstant) k h main e finds refl;
  is = ap (λ (o : Option (ℕ × Place)). Some (ChangedConstant, place_or o x.place)) (sym e);
}

pub changes_elsewhere : (context : NameContext) (before : List Item) (seen : Seen) (constants : Constants) (x : Item) (change : ℕ × Place) → IsSeen before seen → AreHeld before constants → seen.in_main ≡ true → changed_at before x ≡ Some change
    → Finds context.model (judging.is_met_constant context seen.groups (still 0 constants.declarations) change.0) None → IsChange context before x None
changes_elsewhere context before seen constants x change k h main e finds = record {
  code = None;
  fault_is = changes_name context before seen constants x change None None k h main e finds refl;
  is = refl;
}
