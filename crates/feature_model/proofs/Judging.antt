-- What entries without a fault are as features.
use Rattle.std.proofs.Common.{◌≡◌, ℕ, suc, ◌+◌, ◌≤◌, ◌≤ℤ◌, ℤ, pos, neg_ℤ, int_lt, unsigned_abs, Bool, true, false, ◌||◌, cond, List, [], ◌∷◌, ◌++◌, map, length, Option, Some, None, option_map, refl, sym, ap, subst, ◌∙◌, arith, bytes_eq}
use Rattle.std.proofs.lemmas.Int.{ints}
use Rattle.linear_atoms.specs.declared.atoms.Feature.{Feature}
use Rattle.linear_atoms.specs.Atoms.{AreRanges}
use Rattle.cpp_conditions.specs.Expressions.{found}
use Rattle.cpp_conditions.specs.Naming.{AreFeatures}
use Rattle.feature_model.specs.declared.faults.ModelFault.{ModelFault}
use Rattle.feature_model.specs.declared.shapes.Entry.{Entry}
use Rattle.feature_model.specs.Features.{feature, feature_by, is_bad_range, first_where, has_name, first_repeated, or_else, fault_of, AreDistinct, AreNamed, HaveSwitches}
use Rattle.feature_model.specs.Names.{is_misnamed}

pub length_features : (es : List Entry) → length (map feature es) ≡ length es
length_features [] = refl
length_features (e ∷ es) = ap suc (length_features es)

-- ---- tests

or_left : (a b : Bool) → (a || b) ≡ false → a ≡ false
or_left true b h = h
or_left false b h = refl

or_right : (a b : Bool) → (a || b) ≡ false → b ≡ false
or_right true b h = cc
or_right false b h = h

-- ---- no fault

here : {X : Type 0} (b : Bool) (x : X) (r : Option X) → cond b (Some x) r ≡ None → b ≡ false
here true x r h = cc
here false x r h = refl

later : {X : Type 0} (b : Bool) (x : X) (r : Option X) → cond b (Some x) r ≡ None → r ≡ None
later true x r h = cc
later false x r h = h

first_none : (a b : Option ModelFault) → or_else a b ≡ None → a ≡ None
first_none None b h = refl
first_none (Some x) b h = cc

second_none : (a b : Option ModelFault) → or_else a b ≡ None → b ≡ None
second_none None b h = h
second_none (Some x) b h = cc

map_none : {X Y : Type 0} (f : X → Y) (o : Option X) → option_map f o ≡ None → o ≡ None
map_none f None h = refl
map_none f (Some x) h = cc

-- ---- ranges

record IsRange (f : Feature) : Type 0 where
  some : f.low ≤ℤ f.high
  low : unsigned_abs f.low ≤ 1048576
  high : unsigned_abs f.high ≤ 1048576

ordered : (l h : ℤ) → int_lt h l ≡ false → l ≤ℤ h
ordered l h p = grind (arith, ints)

small_low : (l h : ℤ) → l ≤ℤ h → int_lt l (neg_ℤ (pos 1048576)) ≡ false → int_lt (pos 1048576) h ≡ false → unsigned_abs l ≤ 1048576
small_low l h o p q =
    let a : neg_ℤ (pos 1048576) ≤ℤ l = ordered _ _ p in
    let b : h ≤ℤ pos 1048576 = ordered _ _ q in
    omega (arith, ints)

small_high : (l h : ℤ) → l ≤ℤ h → int_lt l (neg_ℤ (pos 1048576)) ≡ false → int_lt (pos 1048576) h ≡ false → unsigned_abs h ≤ 1048576
small_high l h o p q =
    let a : neg_ℤ (pos 1048576) ≤ℤ l = ordered _ _ p in
    let b : h ≤ℤ pos 1048576 = ordered _ _ q in
    omega (arith, ints)

range_of : (name : List ℕ) (range : Option (ℤ × ℤ)) → is_bad_range range ≡ false → IsRange (feature_by name range)
range_of name None h = record { some = omega (arith, ints); low = omega (arith, ints); high = omega (arith, ints) }
range_of name (Some r) h =
    let o = ordered r.0 r.1 (or_left _ _ h) in
    let p = or_left _ _ (or_right _ _ h) in
    let q = or_right _ _ (or_right _ _ h) in
    record { some = o; low = small_low r.0 r.1 o p q; high = small_high r.0 r.1 o p q }

ranges_of : (n : ℕ) (es : List Entry) → first_where (λ (e : Entry). is_bad_range e.range) n es ≡ None → AreRanges (map feature es)
ranges_of n [] h = tt
ranges_of n (e ∷ es) h =
    let r = range_of e.name e.range (here _ _ _ h) in
    (r.some, r.low, r.high, ranges_of (n + 1) es (later _ _ _ h))

-- ---- names

name_of : (name : List ℕ) (range : Option (ℤ × ℤ)) → (feature_by name range).name ≡ name
name_of name None = refl
name_of name (Some r) = refl

-- no entry has the name of one of these
AreNew : List Entry → List Entry → Type 0
AreNew earlier [] = Unit {0}
AreNew earlier (e ∷ es) = (has_name e.name earlier ≡ false) × AreNew earlier es

new_before : (name : List ℕ) (earlier : List Entry) (e : Entry) → has_name name (earlier ++ e ∷ []) ≡ false → has_name name earlier ≡ false
new_before name [] e h = refl
new_before name (x ∷ xs) e h = ap (λ b. b || has_name name xs) (or_left _ _ h) ∙ new_before name xs e (or_right _ _ h)

new_last : (name : List ℕ) (earlier : List Entry) (e : Entry) → has_name name (earlier ++ e ∷ []) ≡ false → bytes_eq name e.name ≡ false
new_last name [] e h = or_left _ _ h
new_last name (x ∷ xs) e h = new_last name xs e (or_right _ _ h)

all_before : (earlier es : List Entry) (e : Entry) → AreNew (earlier ++ e ∷ []) es → AreNew earlier es
unfolding AreNew
all_before earlier [] e h = tt
all_before earlier (x ∷ xs) e h = (new_before x.name earlier e h.0, all_before earlier xs e h.1)

are_new : (earlier : List Entry) (n : ℕ) (es : List Entry) → first_repeated earlier n es ≡ None → AreNew earlier es
unfolding AreNew
are_new earlier n [] h = tt
are_new earlier n (e ∷ es) h = (here _ _ _ h, all_before earlier es e (are_new (earlier ++ e ∷ []) (n + 1) es (later _ _ _ h)))

unfound : (earlier es : List Entry) (e : Entry) → AreNew (earlier ++ e ∷ []) es → found e.name (map feature es) ≡ None
unfolding AreNew
unfound earlier [] e h = refl
unfound earlier (x ∷ xs) e h =
    let other : bytes_eq (feature_by x.name x.range).name e.name ≡ false = ap (λ y. bytes_eq y e.name) (name_of x.name x.range) ∙ new_last x.name earlier e h.0 in
    ap (λ b. cond b (Some 0) (option_map suc (found e.name (map feature xs)))) other ∙ ap (option_map suc) (unfound earlier xs e h.1)

distinct : (earlier : List Entry) (n : ℕ) (es : List Entry) → first_repeated earlier n es ≡ None → AreDistinct (map feature es)
distinct earlier n [] h = tt
distinct earlier n (e ∷ es) h =
    let rest = later _ _ _ h in
    let none : found e.name (map feature es) ≡ None = unfound earlier es e (are_new (earlier ++ e ∷ []) (n + 1) es rest) in
    (ap (λ x. found x (map feature es)) (name_of e.name e.range) ∙ none, distinct (earlier ++ e ∷ []) (n + 1) es rest)

-- ---- entries without a fault

are_distinct : (es : List Entry) → fault_of es ≡ None → AreDistinct (map feature es)
are_distinct es h = distinct [] 1 es (map_none _ _ (first_none _ _ (second_none _ _ h)))

are_features : (es : List Entry) → fault_of es ≡ None → length es ≤ 32 → AreFeatures (map feature es)
are_features es h few = record {
  few = subst (λ n. n ≤ 32) (sym (length_features es)) few;
  ranges = ranges_of 1 es (map_none _ _ (second_none _ _ (second_none _ _ h)));
}

named_of : (n : ℕ) (es : List Entry) → first_where (λ (e : Entry). is_misnamed e.name) n es ≡ None → AreNamed (map feature es)
named_of n [] h = tt
named_of n (e ∷ es) h = (ap is_misnamed (name_of e.name e.range) ∙ here _ _ _ h, named_of (n + 1) es (later _ _ _ h))

switch_of : (name : List ℕ) (range : Option (ℤ × ℤ)) → (feature_by name range).boolean ≡ true → ((feature_by name range).low ≡ pos 0) × ((feature_by name range).high ≡ pos 1)
switch_of name None h = (refl, refl)
switch_of name (Some r) h = cc

switches_of : (es : List Entry) → HaveSwitches (map feature es)
switches_of [] = tt
switches_of (e ∷ es) = (switch_of e.name e.range, switches_of es)

pub named_so : (whole seen again : List Entry) (made : List Feature) → seen ≡ whole → again ≡ whole → None ≡ fault_of seen → made ≡ map feature again → AreNamed made
named_so whole seen again made a b h e = subst AreNamed (sym (e ∙ ap (map feature) b)) (named_of 1 whole (map_none _ _ (first_none _ _ (ap fault_of (sym a) ∙ sym h))))

pub switches_so : (again : List Entry) (made : List Feature) → made ≡ map feature again → HaveSwitches made
switches_so again made e = subst HaveSwitches (sym e) (switches_of again)

pub features_so : (whole seen again : List Entry) (made : List Feature) → seen ≡ whole → again ≡ whole → None ≡ fault_of seen → made ≡ map feature again → length whole ≤ 32 → AreFeatures made
features_so whole seen again made a b h e few = subst AreFeatures (sym (e ∙ ap (map feature) b)) (are_features whole (ap fault_of (sym a) ∙ sym h) few)

pub distinct_so : (whole seen again : List Entry) (made : List Feature) → seen ≡ whole → again ≡ whole → None ≡ fault_of seen → made ≡ map feature again → AreDistinct made
distinct_so whole seen again made a b h e = subst AreDistinct (sym (e ∙ ap (map feature) b)) (are_distinct whole (ap fault_of (sym a) ∙ sym h))
