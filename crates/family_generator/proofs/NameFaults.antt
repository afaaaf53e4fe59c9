-- No name of a generated family has a fault.
use Rattle.std.proofs.Common.{◌≡◌, ◌⊎◌, inl, inr, ℕ, ℤ, nat_eq, Bool, true, false, cond, not, ◌||◌, ◌&&◌, List, [], ◌∷◌, ◌++◌, length, take, drop, Option, Some, None, refl, ap, ◌∙◌, sym, subst, append_assoc, arith}
use Rattle.std.specs.Prelude.{if◌then◌else◌}
use Rattle.std.proofs.lemmas.Bool.Decides.{nat_tests}
use Rattle.fam_outer.specs.declared.faults.Place.{Place}
use Rattle.fam_outer.specs.declared.faults.FileCode.{FileCode}
use Rattle.fam_outer.specs.declared.faults.FileCode.TheVariants.{Undeclared, Twice, FeatureInCode, ChangedConstant}
use Rattle.linear_atoms.specs.declared.atoms.Config.{Config}
use Rattle.cpp_conditions.specs.declared.models.Model.{Model}
use Rattle.atom_solver.specs.Solutions.{Finds}
use Rattle.c_grammar.specs.declared.constants.NameClass.TheVariants as classes
use Rattle.c_grammar.specs.declared.constants.NameKind.TheVariants as kinds
use Rattle.c_grammar.specs.declared.items.Item.{Item}
use Rattle.c_grammar.specs.declared.items.Sign.{Sign}
use Rattle.c_grammar.specs.declared.items.Sign.TheVariants as signs
use Rattle.c_grammar.specs.Changes.{is_change, name_at, changed_from, changed_behind, changed_outside, changed_at}
use Rattle.c_grammar.specs.Classes.{is_class}
use Rattle.c_grammar.specs.Constants.{is_name, constants_from, last_from}
use Rattle.c_grammar.specs.Functions.{has_sign}
use Rattle.c_grammar.specs.Grammar.{at}
use Rattle.c_grammar.specs.Kept.{kept_from}
use Rattle.c_grammar.specs.Locals.{is_main, is_declaring, declarations_from, opened_by, open_from, is_open, is_in_own, open_behind, name_of, names_of}
use Rattle.c_grammar.specs.Scopes.{is_open_behind, scoped_from}
use Rattle.family_names.specs.Names.{NameContext, IsWithFirst, IsEither, IsUseFault, IsDeclarationFault, IsNameFault, IsChangeOf, IsChangeFault, IsChangeOr, changed_place, IsThisOr, IsFaultFrom, IsFirstNameFault, is_feature, is_value, is_missed, is_met_again, is_met_constant, is_kept, is_among, truths_at, taken_at, constants_at, constants_of, values_of, value_fault, full_fault, new_name_fault, code_with}
use Rattle.family_names.proofs.Declared.{among_kept}
use Rattle.family_names.proofs.Features.{no_value}
use Rattle.family_generator.proofs.Signs.{laid, header_signs}

-- two names that are no features'
pub record AreFree (context : NameContext) (x y : ℕ) : Type 0 where
  pub first : is_feature context x ≡ false
  pub second : is_feature context y ≡ false
  pub apart : nat_eq y x ≡ false

-- ---- nothing is found where nothing holds

none_holds : (a b : Bool) → b ≡ false → (a && b) ≡ true → ⊥
none_holds true b e h = let c : true ≡ false = sym h ∙ e in absurd cc
none_holds false b e h = absurd cc

not_found : (model : Model) (holds : List ℤ → Bool) (found : Option Config) (code : Option (List ℤ) → FileCode) (other : Option FileCode)
    → ((values : List ℤ) → holds values ≡ true → ⊥) → Finds model holds found → code_with code other found ≡ other
not_found model holds None code other never f = refl
not_found model holds (Some config) code other never f = absurd (never config.values f.met)

other_one : (model : Model) (holds : List ℤ → Bool) (code : Option (List ℤ) → FileCode) (other fault : Option FileCode) → ((values : List ℤ) → holds values ≡ true → ⊥) → IsWithFirst model holds code other fault → fault ≡ other
other_one model holds code other fault never h = h.fault_is ∙ not_found model holds h.found code other never h.finds

-- ---- items behind the header

abbrev header : (ℕ → Place) → ℕ → ℕ → List Item
header f x y = laid f 0 (header_signs x y)

same_number : (x : ℕ) → nat_eq x x ≡ true
same_number x = grind (arith, nat_tests)

or_true : (a b : Bool) → b ≡ true → (a || b) ≡ true
or_true true b e = refl
or_true false b e = e

among_both : (x y z : ℕ) (others : List ℕ) → (z ≡ x) ⊎ (z ≡ y) → is_among z (x ∷ y ∷ others) ≡ true
among_both x y z others (inl e) = ap (λ (t : Bool). t || (nat_eq z y || is_among z others)) (subst (λ (k : ℕ). nat_eq z k ≡ true) e (same_number z))
among_both x y z others (inr e) = or_true (nat_eq z x) (nat_eq z y || is_among z others) (ap (λ (t : Bool). t || is_among z others) (subst (λ (k : ℕ). nat_eq z k ≡ true) e (same_number z)))

-- names among these signs are one of both, and no sign declares another one
abbrev pub IsOwn : ℕ → ℕ → Sign → Type 0
IsOwn x y (signs.Name z) = (z ≡ x) ⊎ (z ≡ y)
IsOwn x y (signs.Function k) = ⊥
IsOwn x y signs.Int = ⊥
IsOwn x y signs.Int32 = ⊥
IsOwn x y signs.Signed = ⊥
IsOwn x y signs.Comma = ⊥
IsOwn x y signs.Const = ⊥
IsOwn x y signs.Enum = ⊥
IsOwn x y signs.Define = ⊥
IsOwn x y _ = Unit {0}

abbrev pub AreOwn : ℕ → ℕ → List Item → Type 0
AreOwn x y [] = Unit {0}
AreOwn x y (i ∷ is) = IsOwn x y i.sign × AreOwn x y is

abbrev IsOwnLast : ℕ → ℕ → Option Item → Type 0
IsOwnLast x y None = Unit {0}
IsOwnLast x y (Some i) = IsOwn x y i.sign

own_both : (x y : ℕ) (is js : List Item) → AreOwn x y is → AreOwn x y js → AreOwn x y (is ++ js)
own_both x y [] js h k = k
own_both x y (i ∷ is) js h k = (h.0, own_both x y is js h.1 k)

-- behind them a name is used, and in no declarator
not_declaring : (x y : ℕ) (s : Sign) → IsOwn x y s → is_declaring s ≡ false
not_declaring x y signs.Int h = absurd h
not_declaring x y signs.Int32 h = absurd h
not_declaring x y signs.Signed h = absurd h
not_declaring x y signs.Comma h = absurd h
not_declaring x y signs.Const h = absurd h
not_declaring x y _ h = refl

used_next : (x y : ℕ) (last : Option Item) → IsOwnLast x y last → not (has_sign is_declaring last) ≡ true
used_next x y None h = refl
used_next x y (Some i) h = ap not (not_declaring x y i.sign h)

none_opened : (s : Sign) → opened_by false None s ≡ None
none_opened signs.Comma = refl
none_opened signs.Semicolon = refl
none_opened _ = refl

in_none : (x y : ℕ) (is : List Item) → AreOwn x y is → open_from false None is ≡ None
in_none x y [] h = refl
in_none x y (i ∷ is) h =
    ap (λ (b : Bool). open_from b (opened_by false None i.sign) is) (not_declaring x y i.sign h.0) ∙ ap (λ (o : Option ℕ). open_from false o is) (none_opened i.sign) ∙ in_none x y is h.1

-- and none of them is declared as a constant
no_name_kept : (x y : ℕ) (s : Sign) (p : Place) (w : List Item) → IsOwn x y s → names_of (constants_from kinds.Variable w) ≡ [] → names_of (constants_from kinds.Variable (at p s ∷ w)) ≡ []
no_name_kept x y (signs.Function k) p w o h = absurd o
no_name_kept x y signs.Int p w o h = absurd o
no_name_kept x y signs.Int32 p w o h = absurd o
no_name_kept x y signs.Signed p w o h = absurd o
no_name_kept x y signs.Comma p w o h = absurd o
no_name_kept x y signs.Const p w o h = absurd o
no_name_kept x y signs.Enum p w o h = absurd o
no_name_kept x y signs.Define p w o h = absurd o
no_name_kept x y _ p w o h = h

no_constant_in : (x y : ℕ) (is : List Item) → AreOwn x y is → names_of (constants_from kinds.Variable is) ≡ []
no_constant_in x y [] h = refl
no_constant_in x y (i ∷ is) h = no_name_kept x y i.sign i.place is h.0 (no_constant_in x y is h.1)

none_first : (ns ms : List ℕ) → ns ++ ms ≡ [] → (ns ≡ []) × (ms ≡ [])
none_first [] ms e = (refl, e)
none_first (n ∷ ns) ms e = absurd cc

-- where no name stands, none is declared
none_declared : (main declaring : Bool) (w : List Item) → names_of w ≡ [] → names_of (declarations_from main declaring w) ≡ []
none_declared main declaring [] e = refl
none_declared main declaring (i ∷ is) e =
    let split = none_first (name_of i.sign) (names_of is) e in
    let rest : names_of (declarations_from (main || is_main i.sign) (is_declaring i.sign) is) ≡ [] = none_declared (main || is_main i.sign) (is_declaring i.sign) is split.1 in
    elim (main && not declaring && is_name i.sign) as (λ b. names_of (if b then declarations_from (main || is_main i.sign) (is_declaring i.sign) is else i ∷ declarations_from (main || is_main i.sign) (is_declaring i.sign) is) ≡ []) [
      | true ↦ rest
      | false ↦ ap (λ (ns : List ℕ). ns ++ names_of (declarations_from (main || is_main i.sign) (is_declaring i.sign) is)) split.0 ∙ rest
    ]

-- and none is in scope
none_scoped : (n : ℕ) (main : Bool) (w : List Item) → names_of w ≡ [] → names_of (scoped_from n main w) ≡ []
none_scoped n main [] e = refl
none_scoped n main (i ∷ is) e =
    let split = none_first (name_of i.sign) (names_of is) e in
    let rest : names_of (scoped_from n (main || is_main i.sign) is) ≡ [] = none_scoped n (main || is_main i.sign) is split.1 in
    elim (main && is_name i.sign && not (is_open_behind n is)) as (λ b. names_of (if b then scoped_from n (main || is_main i.sign) is else i ∷ scoped_from n (main || is_main i.sign) is) ≡ []) [
      | true ↦ rest
      | false ↦ ap (λ (ns : List ℕ). ns ++ names_of (scoped_from n (main || is_main i.sign) is)) split.0 ∙ rest
    ]

not_among : (n : ℕ) (truths : List Bool) (w : List Item) → names_of w ≡ [] → is_among n (names_of (kept_from truths [] w)) ≡ false
not_among n truths w e = elim (is_among n (names_of (kept_from truths [] w))) as (λ b. is_among n (names_of (kept_from truths [] w)) ≡ b → b ≡ false) [
  | true ↦ λ h. (let bad : true ≡ false = sym (among_kept n truths [] w h) ∙ ap (is_among n) e in absurd cc)
  | false ↦ λ _. refl
] refl

abbrev use_by : NameContext → List Item → ℕ → Option FileCode → Bool → Type 0
use_by context before z fault b = IsEither b (IsWithFirst context.model (is_missed context before z) Undeclared None fault) (fault ≡ Some (Undeclared None))

abbrev other_by : NameContext → List Item → ℕ → Option FileCode → Bool → Bool → Type 0
other_by context before z fault b feature = IsEither feature (fault ≡ Some FeatureInCode) (use_by context before z fault b)

-- a declared name that stands in no declarator of its own is not missed
not_missed : (own declared : Bool) → own ≡ false → declared ≡ true → (own || not declared) ≡ false
not_missed own declared e h = ap (λ (b : Bool). b || not declared) e ∙ ap not h

-- a use of a declared name has no fault
used : (context : NameContext) (f : ℕ → Place) (x y z : ℕ) (mid : List Item) (fault : Option FileCode) → AreOwn x y mid → (z ≡ x) ⊎ (z ≡ y) → is_feature context z ≡ false → IsUseFault context (header f x y ++ mid) z fault → fault ≡ None
used context f x y z mid fault own one free h =
    let before : List Item = header f x y ++ mid in
    let there : List ℕ = names_of (declarations_from true false mid) in
    let other : other_by context (header f x y ++ mid) z fault (is_among z (x ∷ y ∷ there)) (is_feature context z) =
    subst (λ (b : Bool). IsEither b (fault ≡ value_fault context (values_of context before) (length (constants_of before)) z) (other_by context before z fault (is_among z (x ∷ y ∷ there)) (is_feature context z)))
    (no_value context z free) h in
    let declared : use_by context (header f x y ++ mid) z fault (is_among z (x ∷ y ∷ there)) = subst (other_by context (header f x y ++ mid) z fault (is_among z (x ∷ y ∷ there))) free other in
    let found = subst (use_by context (header f x y ++ mid) z fault) (among_both x y z there one) declared in
    other_one context.model (is_missed context (header f x y ++ mid) z) Undeclared None fault
    (λ values e. (
    let kept : List ℕ = names_of (kept_from (truths_at context values) [] (scoped_from 0 true (declarations_from true false mid))) in
    none_holds (is_kept (truths_at context values) (header f x y ++ mid)) (is_in_own (header f x y ++ mid) z || not (is_among z (x ∷ y ∷ kept)))
    (not_missed (is_in_own (header f x y ++ mid) z) (is_among z (x ∷ y ∷ kept)) (ap (is_open z) (in_none x y mid own)) (among_both x y z kept one)) e)) found

free_one : (context : NameContext) (x y z : ℕ) → AreFree context x y → (z ≡ x) ⊎ (z ≡ y) → is_feature context z ≡ false
free_one context x y z h (inl e) = subst (λ (k : ℕ). is_feature context k ≡ false) (sym e) h.first
free_one context x y z h (inr e) = subst (λ (k : ℕ). is_feature context k ≡ false) (sym e) h.second

no_fault_at : (context : NameContext) (f : ℕ → Place) (x y : ℕ) (mid : List Item) (s : Sign) (code : Option FileCode) → AreFree context x y → AreOwn x y mid → IsOwnLast x y (last_from None (header f x y ++ mid)) → IsOwn x y s → IsNameFault context (header f x y ++ mid) s code → code ≡ None
no_fault_at context f x y mid (signs.Name z) code free all last own h =
    used context f x y z mid code all own (free_one context x y z free own)
    (subst (λ (b : Bool). IsEither b (IsUseFault context (header f x y ++ mid) z code) (IsDeclarationFault context (header f x y ++ mid) z code)) (used_next x y (last_from None (header f x y ++ mid)) last) h)
no_fault_at context f x y mid (signs.Function k) code free all last own h = absurd own
no_fault_at context f x y mid _ code free all last own h = h

later : (code : Option FileCode) (place : Place) (fault : Option (FileCode × Place)) (L : Type 0) → code ≡ None → IsThisOr code place fault L → L
later code place fault L e h = subst (λ (c : Option FileCode). IsThisOr c place fault L) e h

-- a name that is changed is one of both
abbrev IsOwnChange : ℕ → ℕ → Option (ℕ × Place) → Type 0
IsOwnChange x y None = Unit {0}
IsOwnChange x y (Some change) = (change.0 ≡ x) ⊎ (change.0 ≡ y)

own_at : (x y : ℕ) (changes : Bool) (s : Sign) (p : Place) → IsOwn x y s → IsOwnChange x y (name_at changes s p)
own_at x y true (signs.Name z) p h = h
own_at x y true _ p h = tt
own_at x y false s p h = tt

own_from : (x y : ℕ) (p : Place) (s : Sign) (i : Item) → IsOwn x y s → IsOwn x y i.sign → IsOwnChange x y (changed_from p s i)
own_from x y p signs.PlusPlus i h k = own_at x y true i.sign i.place k
own_from x y p signs.MinusMinus i h k = own_at x y true i.sign i.place k
own_from x y p s i h k = own_at x y (is_change i.sign) s p h

own_behind : (x y : ℕ) (last : Option Item) (i : Item) → IsOwnLast x y last → IsOwn x y i.sign → IsOwnChange x y (changed_behind last i)
own_behind x y None i h k = tt
own_behind x y (Some j) i h k = own_from x y j.place j.sign i h k

own_outside : (x y : ℕ) (opened : Option ℕ) (last : Option Item) (i : Item) → IsOwnLast x y last → IsOwn x y i.sign → IsOwnChange x y (changed_outside opened last i)
own_outside x y None last i h k = own_behind x y last i h k
own_outside x y (Some z) last i h k = tt

last_more : (last : Option Item) (before : List Item) (i : Item) → last_from last (before ++ i ∷ []) ≡ Some i
last_more last [] i = refl
last_more last (j ∷ js) i = last_more (Some j) js i

-- there is no constant, and both are no values
unchanged_by : (context : NameContext) (f : ℕ → Place) (x y : ℕ) (mid : List Item) (change : Option (ℕ × Place)) (code : Option FileCode) → AreFree context x y → AreOwn x y mid → IsOwnChange x y change → IsChangeOf context (header f x y ++ mid) change code → code ≡ None
unchanged_by context f x y mid None code free all own h = h
unchanged_by context f x y mid (Some change) code free all own h =
    other_one context.model (is_met_constant context (header f x y ++ mid) change.0) (λ example. ChangedConstant) None code
    (λ values e. (
    let constant : Bool = is_among change.0 (constants_at (truths_at context values) (header f x y ++ mid)) in
    let constants : List Item = declarations_from true false (constants_from kinds.Variable mid) in
    let unnamed : names_of constants ≡ [] = none_declared true false (constants_from kinds.Variable mid) (no_constant_in x y mid all) in
    let none : is_among change.0 (constants_at (truths_at context values) (header f x y ++ mid)) ≡ false = not_among change.0 (truths_at context values) (scoped_from 0 true constants) (none_scoped 0 true constants unnamed) in
    let other : (is_value context change.0 || constant) ≡ false = ap (λ (b : Bool). b || constant) (no_value context change.0 (free_one context x y change.0 free own)) ∙ none in
    none_holds (is_kept (truths_at context values) (header f x y ++ mid)) (is_value context change.0 || constant) other e)) h

unchanged : (context : NameContext) (f : ℕ → Place) (x y : ℕ) (mid : List Item) (i : Item) (code : Option FileCode) → AreFree context x y → AreOwn x y mid → IsOwnLast x y (last_from None (header f x y ++ mid)) → IsOwn x y i.sign
    → IsChangeFault context (header f x y ++ mid) i code → code ≡ None
unchanged context f x y mid i code free all last own h =
    unchanged_by context f x y mid (changed_at (header f x y ++ mid) i) code free all (own_outside x y (open_behind (header f x y ++ mid)) (last_from None (header f x y ++ mid)) i last own) h

pub behind_header : (context : NameContext) (f : ℕ → Place) (x y : ℕ) (mid xs : List Item) (fault : Option (FileCode × Place)) → AreFree context x y → AreOwn x y mid → IsOwnLast x y (last_from None (header f x y ++ mid)) → AreOwn x y xs
    → IsFaultFrom context (header f x y ++ mid) xs fault → fault ≡ None
behind_header context f x y mid [] fault free all last own h = h
behind_header context f x y mid (i ∷ is) fault free all last own h =
    let change = later h.0 i.place fault (IsChangeOr context (header f x y ++ mid) i fault (IsFaultFrom context ((header f x y ++ mid) ++ i ∷ []) is fault)) (no_fault_at context f x y mid i.sign h.0 free all last own.0 h.1) h.2 in
    let next = later change.0 (changed_place (header f x y ++ mid) i) fault (IsFaultFrom context ((header f x y ++ mid) ++ i ∷ []) is fault) (unchanged context f x y mid i change.0 free all last own.0 change.1) change.2 in
    let same : Some i ≡ last_from None (header f x y ++ (mid ++ i ∷ [])) = sym (last_more None (header f x y ++ mid) i) ∙ ap (last_from None) (append_assoc (header f x y) mid (i ∷ [])) in
    behind_header context f x y (mid ++ i ∷ []) is fault free (own_both x y mid (i ∷ []) all (own.0, tt)) (subst (IsOwnLast x y) same own.0) own.1 (subst (λ (b : List Item). IsFaultFrom context b is fault) (append_assoc (header f x y) mid (i ∷ [])) next)

-- ---- the header

declared_new : (context : NameContext) (before : List Item) (x : ℕ) (fault : Option FileCode) → IsDeclarationFault context before x fault → ((values : List ℤ) → is_among x (taken_at (truths_at context values) before) ≡ false) → fault ≡ new_name_fault context before x
declared_new context before x fault h none =
    other_one context.model (is_met_again context before x) Twice (new_name_fault context before x) fault
    (λ values e. none_holds (is_kept (truths_at context values) before) (is_among x (taken_at (truths_at context values) before)) (none values) e) h

next_item : (context : NameContext) (before : List Item) (i : Item) (xs : List Item) (fault : Option (FileCode × Place)) → ((code : Option FileCode) → IsNameFault context before i.sign code → code ≡ None) → ((code : Option FileCode) → IsChangeFault context before i code → code ≡ None)
    → IsFaultFrom context before (i ∷ xs) fault → IsFaultFrom context (before ++ i ∷ []) xs fault
next_item context before i xs fault none still h =
    let change = later h.0 i.place fault (IsChangeOr context before i fault (IsFaultFrom context (before ++ i ∷ []) xs fault)) (none h.0 h.1) h.2 in
    later change.0 (changed_place before i) fault (IsFaultFrom context (before ++ i ∷ []) xs fault) (still change.0 change.1) change.2

abbrev new_by : Bool → Bool → Option FileCode → Option FileCode
new_by feature again full = cond feature (Some FeatureInCode) (cond again None full)

-- where the first name is declared as a variable
abbrev room : ℕ → Bool → Option FileCode
room x same = full_fault classes.Variable (length (cond (is_class classes.Variable (cond same classes.Variable classes.Variable)) (x ∷ []) [])) 0

-- the items of the header before one of them, and those from one on
abbrev front : (ℕ → Place) → ℕ → ℕ → ℕ → List Item
front f x y n = laid f 0 (take n (header_signs x y))

abbrev behind : (ℕ → Place) → ℕ → ℕ → List Item → ℕ → List Item
behind f x y rest n = laid f n (drop n (header_signs x y)) ++ rest

first_new : (context : NameContext) (f : ℕ → Place) (x y : ℕ) (code : Option FileCode) → AreFree context x y → IsDeclarationFault context (front f x y 1) x code → code ≡ None
first_new context f x y code free e = declared_new context (front f x y 1) x code e (λ values. refl) ∙ ap (λ (b : Bool). new_by b false None) free.first

second_new : (context : NameContext) (f : ℕ → Place) (x y : ℕ) (code : Option FileCode) → AreFree context x y → IsDeclarationFault context (front f x y 4) y code → code ≡ None
second_new context f x y code free e =
    declared_new context (front f x y 4) y code e (λ values. ap (λ (b : Bool). b || false) free.apart)
    ∙ ap (λ (b : Bool). new_by b (nat_eq y x || false) (room x (nat_eq x x))) free.second ∙ ap (λ (b : Bool). new_by false (b || false) (room x (nat_eq x x))) free.apart ∙ ap (room x) (same_number x)

pub no_fault : (context : NameContext) (f : ℕ → Place) (x y : ℕ) (rest : List Item) (fault : Option (FileCode × Place)) → AreFree context x y → AreOwn x y rest → IsFirstNameFault context (header f x y ++ rest) fault → fault ≡ None
no_fault context f x y rest fault free own h =
    let h0 = next_item context (front f x y 0) (at (f 0) (signs.Int)) (behind f x y rest 1) fault (λ code e. e) (λ code e. e) h in
    let h1 = next_item context (front f x y 1) (at (f 1) (signs.Name x)) (behind f x y rest 2) fault (λ code e. first_new context f x y code free e) (λ code e. e) h0 in
    let h2 = next_item context (front f x y 2) (at (f 2) (signs.Semicolon)) (behind f x y rest 3) fault (λ code e. e) (λ code e. e) h1 in
    let h3 = next_item context (front f x y 3) (at (f 3) (signs.Int)) (behind f x y rest 4) fault (λ code e. e) (λ code e. e) h2 in
    let h4 = next_item context (front f x y 4) (at (f 4) (signs.Name y)) (behind f x y rest 5) fault (λ code e. second_new context f x y code free e) (λ code e. e) h3 in
    let h5 = next_item context (front f x y 5) (at (f 5) (signs.Semicolon)) (behind f x y rest 6) fault (λ code e. e) (λ code e. e) h4 in
    let h6 = next_item context (front f x y 6) (at (f 6) (signs.Int)) (behind f x y rest 7) fault (λ code e. e) (λ code e. e) h5 in
    let h7 = next_item context (front f x y 7) (at (f 7) (signs.Main)) (behind f x y rest 8) fault (λ code e. e) (λ code e. e) h6 in
    let h8 = next_item context (front f x y 8) (at (f 8) (signs.Open)) (behind f x y rest 9) fault (λ code e. e) (λ code e. e) h7 in
    let h9 = next_item context (front f x y 9) (at (f 9) (signs.Void)) (behind f x y rest 10) fault (λ code e. e) (λ code e. e) h8 in
    let h10 = next_item context (front f x y 10) (at (f 10) (signs.Close)) (behind f x y rest 11) fault (λ code e. e) (λ code e. e) h9 in
    let h11 = next_item context (front f x y 11) (at (f 11) (signs.LeftBrace)) (behind f x y rest 12) fault (λ code e. e) (λ code e. e) h10 in
    behind_header context f x y [] rest fault free tt tt own h11
