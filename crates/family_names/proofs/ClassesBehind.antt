-- The names of each class, and the features that are used as values, behind one item more.
use Rattle.std.proofs.Common.{◌≡◌, ℕ, Bool, true, false, cond, not, ◌&&◌, nat_eq, List, [], ◌∷◌, ◌++◌, Option, Some, None, refl, sym, ap, ◌∙◌, append_assoc, append-nil}
use Rattle.std.specs.Prelude.{◌||◌, if◌then◌else◌}
use Rattle.std.specs.List.{list_any, filter}
use Rattle.std.proofs.lemmas.Bool.{eq-eqb}
use Rattle.std.proofs.lemmas.List.Elements.{filter-append}
use Rattle.std.proofs.lemmas.List.Folds.{list_any-append}
use Rattle.fam_outer.specs.declared.faults.Place.{Place}
use Rattle.c_grammar.specs.declared.constants.NameClass.{NameClass}
use Rattle.c_grammar.specs.declared.constants.NameClass.TheVariants as classes
use Rattle.c_grammar.specs.declared.constants.NameKind.{NameKind}
use Rattle.c_grammar.specs.declared.constants.NameKind.TheVariants as kinds
use Rattle.c_grammar.specs.declared.items.Item.{Item}
use Rattle.c_grammar.specs.declared.items.Sign.{Sign}
use Rattle.c_grammar.specs.declared.items.Sign.TheVariants as signs
use Rattle.c_grammar.specs.Constants.{is_name, is_constant, kind_behind, kind_after, last_from}
use Rattle.c_grammar.specs.Functions.{has_sign}
use Rattle.c_grammar.specs.Grammar.{at}
use Rattle.c_grammar.specs.Classes.{class_of, is_class, name_as, classes_from, declared_classes, first_class, class_in}
use Rattle.c_grammar.specs.Locals.{is_declaring, declarations_from}
use Rattle.family_names.specs.declared.values.Used.{Used}
use Rattle.family_names.specs.Names.{NameContext, is_main, has_main, name_of, names_of, declared_by, names_of_class, class_behind, is_value, behind_main, values_of, is_among, with_number, each_once, is_used_behind}
use Rattle.family_names.specs.Judging.{AreUsed, with_new}
use Rattle.family_names.proofs.Declared.{names_append, or_assoc, or_false, AreStill, more_named, once_append, among_once, and_false, or_left, or_right}

-- ---- the classes of declared names

classes_on : (main : Bool) (last : Option Item) (kind : NameKind) (before xs : List Item) → classes_from main (has_sign is_declaring last) kind (before ++ xs)
    ≡ classes_from main (has_sign is_declaring last) kind before ++ classes_from (main || has_main before) (has_sign is_declaring (last_from last before)) (kind_after kind before) xs
classes_on main last kind [] xs = ap (λ (b : Bool). classes_from b (has_sign is_declaring last) kind xs) (sym (or_false main))
classes_on main last kind (y ∷ ys) xs =
    let m : Bool = main || is_main y.sign in
    let k : NameKind = kind_behind kind y.sign in
    let d : Bool = has_sign is_declaring (last_from (Some y) ys) in
    let this : List (ℕ × NameClass) = if main && not (has_sign is_declaring last) then [] else name_as (class_of main (is_constant kind)) y.sign in
    let front : List (ℕ × NameClass) = classes_from m (is_declaring y.sign) k ys in
    ap (λ (ds : List (ℕ × NameClass)). this ++ ds) (classes_on m (Some y) k ys xs ∙ ap (λ (b : Bool). front ++ classes_from b d (kind_after k ys) xs) (or_assoc main (is_main y.sign) (has_main ys)))
    ∙ sym (append_assoc this front (classes_from (main || (is_main y.sign || has_main ys)) d (kind_after k ys) xs))

-- the class of an item more, unless it is used
classes_more : (before : List Item) (x : Item) → declared_classes (before ++ x ∷ []) ≡ declared_classes before ++ (if is_used_behind before then [] else name_as (class_behind before) x.sign)
classes_more before x =
    classes_on false None kinds.Variable before (x ∷ [])
    ∙ ap (λ (ds : List (ℕ × NameClass)). declared_classes before ++ ds) (append-nil (if is_used_behind before then [] else name_as (class_behind before) x.sign))

-- one of these declarations has the name
abbrev has_class : ℕ → List (ℕ × NameClass) → Bool
has_class x ds = list_any (λ d. nat_eq x d.0) ds

class_of_name : (x : ℕ) (class : NameClass) (s : Sign) → has_class x (name_as class s) ≡ is_among x (name_of s)
class_of_name x class (signs.Name n) = refl
class_of_name x class _ = refl

no_name : (s : Sign) (p : Place) (rest : List Item) → names_of (if is_name s then rest else at p s ∷ rest) ≡ names_of rest
no_name (signs.Name n) p rest = refl
no_name _ p rest = refl

has_name : (x : ℕ) (main declaring : Bool) (kind : NameKind) (items : List Item) → has_class x (classes_from main declaring kind items) ≡ is_among x (names_of (declarations_from main declaring items))
has_name x main declaring kind [] = refl
has_name x main declaring kind (y ∷ ys) =
    let m = main || is_main y.sign in
    let d = is_declaring y.sign in
    let k = kind_behind kind y.sign in
    elim (main && not declaring) as (λ b. has_class x ((if b then [] else name_as (class_of main (is_constant kind)) y.sign) ++ classes_from (main || is_main y.sign) (is_declaring y.sign) (kind_behind kind y.sign) ys)
    ≡ is_among x (names_of (if b && is_name y.sign then declarations_from (main || is_main y.sign) (is_declaring y.sign) ys else y ∷ declarations_from (main || is_main y.sign) (is_declaring y.sign) ys))) [
      | true ↦ has_name x m d k ys ∙ ap (is_among x) (sym (no_name y.sign y.place (declarations_from m d ys)))
      | false ↦ list_any-append (λ (e : ℕ × NameClass). nat_eq x e.0) (name_as (class_of main (is_constant kind)) y.sign) (classes_from m d k ys)
          ∙ ap (λ (b : Bool). b || has_class x (classes_from m d k ys)) (class_of_name x (class_of main (is_constant kind)) y.sign)
          ∙ ap (λ (b : Bool). is_among x (name_of y.sign) || b) (has_name x m d k ys)
          ∙ sym (list_any-append (nat_eq x) (name_of y.sign) (names_of (declarations_from m d ys)))
    ]

first_stays : (x : ℕ) (ds es : List (ℕ × NameClass)) → has_class x ds ≡ true → first_class (ds ++ es) x ≡ first_class ds x
first_stays x [] es h = absurd cc
first_stays x (d ∷ ds) es h = elim (nat_eq x d.0) as (λ b. (b || has_class x ds) ≡ true → (if b then d.1 else first_class (ds ++ es) x) ≡ (if b then d.1 else first_class ds x)) [
  | true ↦ λ _. refl
  | false ↦ λ g. first_stays x ds es g
] h

first_behind : (x : ℕ) (ds es : List (ℕ × NameClass)) → has_class x ds ≡ false → first_class (ds ++ es) x ≡ first_class es x
first_behind x [] es h = refl
first_behind x (d ∷ ds) es h = elim (nat_eq x d.0) as (λ b. (b || has_class x ds) ≡ false → (if b then d.1 else first_class (ds ++ es) x) ≡ first_class es x) [
  | true ↦ λ g. absurd cc
  | false ↦ λ g. first_behind x ds es g
] h

-- the class of a name that is declared stays
class_stays : (before : List Item) (x : Item) (y : ℕ) → is_among y (declared_by before) ≡ true → class_in (before ++ x ∷ []) y ≡ class_in before y
class_stays before x y h =
    ap (λ (ds : List (ℕ × NameClass)). first_class ds y) (classes_more before x)
    ∙ first_stays y (declared_classes before) (if is_used_behind before then [] else name_as (class_behind before) x.sign) (has_name y false false kinds.Variable before ∙ h)

-- the class of a new name
class_is : (before : List Item) (p : Place) (n : ℕ) → is_used_behind before ≡ false → is_among n (declared_by before) ≡ false → class_in (before ++ at p (signs.Name n) ∷ []) n ≡ class_behind before
class_is before p n u h =
    let class : NameClass = class_behind before in
    ap (λ (ds : List (ℕ × NameClass)). first_class ds n) (classes_more before (at p (signs.Name n)) ∙ ap (λ (b : Bool). declared_classes before ++ (if b then [] else (n, class) ∷ [])) u)
    ∙ first_behind n (declared_classes before) ((n, class) ∷ []) (has_name n false false kinds.Variable before ∙ h)
    ∙ ap (λ (b : Bool). if b then class else classes.Variable) (eq-eqb n n refl)

-- ---- the names of a class

pub filter_same : (p q : ℕ → Bool) (xs : List ℕ) → ((y : ℕ) → is_among y xs ≡ true → p y ≡ q y) → filter p xs ≡ filter q xs
filter_same p q [] h = refl
filter_same p q (x ∷ xs) h =
    ap (λ (b : Bool). cond b (x ∷ filter p xs) (filter p xs)) (h x (or_left (nat_eq x x) (is_among x xs) (eq-eqb x x refl)))
    ∙ ap (λ (ys : List ℕ). cond (q x) (x ∷ ys) ys) (filter_same p q xs (λ y m. h y (or_right (nat_eq y x) (is_among y xs) m)))

-- those that were declared before
kept_class : (class : NameClass) (before : List Item) (x : Item) → filter (λ y. is_class class (class_in (before ++ x ∷ []) y)) (each_once [] (declared_by before)) ≡ names_of_class class before
kept_class class before x =
    filter_same (λ y. is_class class (class_in (before ++ x ∷ []) y)) (λ y. is_class class (class_in before y)) (each_once [] (declared_by before))
    (λ y m. ap (is_class class) (class_stays before x y (sym (among_once y [] (declared_by before)) ∙ m)))

pub still_class : (class : NameClass) (before : List Item) (x : Item) → AreStill before x → names_of_class class (before ++ x ∷ []) ≡ names_of_class class before
still_class class before x s =
    ap (λ (ns : List ℕ). filter (λ y. is_class class (class_in (before ++ x ∷ []) y)) (each_once [] ns)) s.any ∙ kept_class class before x

with_one : (b : Bool) (others : List ℕ) (n : ℕ) → others ++ cond b (n ∷ []) [] ≡ (if b && true then others ++ n ∷ [] else others)
with_one true others n = refl
with_one false others n = append-nil others

-- one more, where its name is new and of the class
pub more_class : (class : NameClass) (before : List Item) (p : Place) (n : ℕ) → is_used_behind before ≡ false
    → names_of_class class (before ++ at p (signs.Name n) ∷ []) ≡ with_new (is_class class (class_behind before)) (each_once [] (declared_by before)) (names_of_class class before) n
more_class class before p n u =
    let after : List Item = before ++ at p (signs.Name n) ∷ [] in
    let names : List ℕ = each_once [] (declared_by before) in
    let test : ℕ → Bool = λ y. is_class class (class_in after y) in
    let b : Bool = is_class class (class_behind before) in
    ap (λ (ns : List ℕ). filter test (each_once [] ns)) ((more_named before p n u).any) ∙ ap (filter test) (once_append [] (declared_by before) (n ∷ []))
    ∙ elim (is_among n names) as (λ t. is_among n names ≡ t → filter test (if t then names else names ++ n ∷ []) ≡ (if b && not t then names_of_class class before ++ n ∷ [] else names_of_class class before)) [
      | true ↦ λ _. kept_class class before (at p (signs.Name n)) ∙ sym (ap (λ (c : Bool). if c then names_of_class class before ++ n ∷ [] else names_of_class class before) (and_false b))
      | false ↦ λ e.
          filter-append test names (n ∷ [])
          ∙ ap (λ (ns : List ℕ). ns ++ cond (test n) (n ∷ []) []) (kept_class class before (at p (signs.Name n)))
          ∙ ap (λ (c : NameClass). names_of_class class before ++ cond (is_class class c) (n ∷ []) []) (class_is before p n u (sym (among_once n [] (declared_by before)) ∙ e))
          ∙ with_one b (names_of_class class before) n
    ] refl

-- ---- features that are used as values

pub behind_on : (before xs : List Item) → has_main before ≡ true → behind_main (before ++ xs) ≡ behind_main before ++ xs
behind_on [] xs h = absurd cc
behind_on (y ∷ ys) xs h = elim (is_main y.sign) as (λ b. (b || has_main ys) ≡ true → (if b then ys ++ xs else behind_main (ys ++ xs)) ≡ (if b then ys else behind_main ys) ++ xs) [
  | true ↦ λ _. refl
  | false ↦ λ g. behind_on ys xs g
] h

pub behind_none : (before : List Item) → has_main before ≡ false → behind_main before ≡ []
behind_none [] h = refl
behind_none (y ∷ ys) h = elim (is_main y.sign) as (λ b. (b || has_main ys) ≡ false → (if b then ys else behind_main ys) ≡ []) [
  | true ↦ λ g. absurd cc
  | false ↦ λ g. behind_none ys g
] h

one_rest : (b : Bool) (rest : List Item) → (if b then rest else rest) ≡ rest
one_rest true rest = refl
one_rest false rest = refl

behind_one : (before : List Item) (x : Item) → has_main before ≡ false → behind_main (before ++ x ∷ []) ≡ []
behind_one [] x h = one_rest (is_main x.sign) []
behind_one (y ∷ ys) x h = elim (is_main y.sign) as (λ b. (b || has_main ys) ≡ false → (if b then ys ++ x ∷ [] else behind_main (ys ++ x ∷ [])) ≡ []) [
  | true ↦ λ g. absurd cc
  | false ↦ λ g. behind_one ys x g
] h

-- before `main` nothing is used
pub still_unused : (context : NameContext) (before : List Item) (x : Item) → has_main before ≡ false → values_of context (before ++ x ∷ []) ≡ values_of context before
still_unused context before x h = ap (λ (ys : List Item). each_once [] (filter (is_value context) (names_of ys))) (behind_one before x h ∙ sym (behind_none before h))

one_value : (context : NameContext) (before : List Item) (x : Item) → has_main before ≡ true → values_of context (before ++ x ∷ []) ≡ each_once (values_of context before) (filter (is_value context) (name_of x.sign))
one_value context before x h =
    let front : List ℕ = names_of (behind_main before) in
    ap (λ (ns : List ℕ). each_once [] (filter (is_value context) ns)) (ap names_of (behind_on before (x ∷ []) h) ∙ names_append (behind_main before) (x ∷ []) ∙ ap (λ (ns : List ℕ). front ++ ns) (append-nil (name_of x.sign)))
    ∙ ap (each_once []) (filter-append (is_value context) front (name_of x.sign))
    ∙ once_append [] (filter (is_value context) front) (filter (is_value context) (name_of x.sign))

pub still_values : (context : NameContext) (before : List Item) (x : Item) → name_of x.sign ≡ [] → values_of context (before ++ x ∷ []) ≡ values_of context before
still_values context before x e = elim (has_main before) as (λ b. has_main before ≡ b → values_of context (before ++ x ∷ []) ≡ values_of context before) [
  | true ↦ λ h. one_value context before x h ∙ ap (λ (ns : List ℕ). each_once (values_of context before) (filter (is_value context) ns)) e
  | false ↦ λ h. still_unused context before x h
] refl

-- a name stands in `main`
pub value_more : (context : NameContext) (before : List Item) (p : Place) (n : ℕ) → has_main before ≡ true
    → values_of context (before ++ at p (signs.Name n) ∷ []) ≡ (if is_value context n then with_number (values_of context before) n else values_of context before)
value_more context before p n h =
    one_value context before (at p (signs.Name n)) h
    ∙ elim (is_value context n) as (λ b. each_once (values_of context before) (cond b (n ∷ []) []) ≡ (if b then with_number (values_of context before) n else values_of context before)) [ true ↦ refl | false ↦ refl ]

-- a name that is no value's, wherever it stands
pub still_valued : (context : NameContext) (before : List Item) (p : Place) (n : ℕ) → is_value context n ≡ false → values_of context (before ++ at p (signs.Name n) ∷ []) ≡ values_of context before
still_valued context before p n v = elim (has_main before) as (λ b. has_main before ≡ b → values_of context (before ++ at p (signs.Name n) ∷ []) ≡ values_of context before) [
  | true ↦ λ h. value_more context before p n h ∙ ap (λ (b : Bool). if b then with_number (values_of context before) n else values_of context before) v
  | false ↦ λ h. still_unused context before (at p (signs.Name n)) h
] refl

used_same : (context : NameContext) (before after : List Item) (used : Used) → values_of context after ≡ values_of context before → AreUsed context before used → AreUsed context after used
used_same context before after used e u = record { names = u.names ∙ sym e; tests = u.tests }

pub used_unnamed : (context : NameContext) (before : List Item) (x : Item) (used : Used) → name_of x.sign ≡ [] → AreUsed context before used → AreUsed context (before ++ x ∷ []) used
used_unnamed context before x used e u = used_same context before (before ++ x ∷ []) used (still_values context before x e) u

pub used_other : (context : NameContext) (before : List Item) (p : Place) (n : ℕ) (used : Used) → is_value context n ≡ false → AreUsed context before used → AreUsed context (before ++ at p (signs.Name n) ∷ []) used
used_other context before p n used v u = used_same context before (before ++ at p (signs.Name n) ∷ []) used (still_valued context before p n v) u

pub used_names : (context : NameContext) (before : List Item) (p : Place) (n : ℕ) → has_main before ≡ true → is_value context n ≡ true → values_of context (before ++ at p (signs.Name n) ∷ []) ≡ with_number (values_of context before) n
used_names context before p n h v = value_more context before p n h ∙ ap (λ (b : Bool). if b then with_number (values_of context before) n else values_of context before) v
