-- Each place of a family has its tree, with each kind, and no two trees have one key.
use Rattle.std.proofs.Common.{◌≡◌, ℕ, zero, suc, true, false, List, [], ◌∷◌, map, refl, ap, sym, subst, ◌∙◌, inl, inr, arith}
use Rattle.std.specs.Prelude.{IsTrue, slice_get, Some}
use Rattle.std.specs.List.{All}
use Rattle.std.proofs.lemmas.Option.{none-some, same_Some, get_or_from_slice_get, slice_get_within}
use Rattle.fam_outer.specs.declared.faults.Place.{Place}
use Rattle.c_tree.specs.declared.tree.Kind.{Kind}
use Rattle.c_tree.specs.declared.tree.Kind.TheVariants.{Overflow, ZeroDivisor, Assertion}
use Rattle.fam_outer.specs.Places.{is_before}
use Rattle.c_tree.specs.Whole.{IsBeforeAll, IsRising}
use Rattle.lifted_analysis.specs.Promises.{by_kind}
use Rattle.plain_analysis.specs.Places.{is_same_place}
use Rattle.plain_analysis.proofs.Located.{same_place_self}
use Rattle.alarm_report.specs.Alarms.{PlainAlarmTree, AreKeyed, HasKey}
use Rattle.alarm_report.specs.Invariants.{LeafTree, ArePlaced, HasPlace}
use Rattle.famlint_programs.proofs.Reached.{IsIn}

-- ---- lists whose elements differ

module _ {X : Type 0} where
  abbrev pub IsAway : X → List X → Type 0
  IsAway k [] = Unit {0}
  IsAway k (m ∷ ms) = (m ≡ k → ⊥) × IsAway k ms

  abbrev pub AreApart : List X → Type 0
  AreApart [] = Unit {0}
  AreApart (k ∷ ks) = IsAway k ks × AreApart ks

  never_behind : (k : X) (ms : List X) (j : ℕ) → IsAway k ms → slice_get ms j ≡ Some k → ⊥
  never_behind k [] j h e = none-some k e
  never_behind k (m ∷ ms) zero h e = h.0 (same_Some m k e)
  never_behind k (m ∷ ms) (suc j) h e = never_behind k ms j h.1 e

  pub one_place : (ks : List X) (i j : ℕ) (k : X) → AreApart ks → slice_get ks i ≡ Some k → slice_get ks j ≡ Some k → i ≡ j
  one_place [] i j k h e f = absurd (none-some k e)
  one_place (m ∷ ms) zero zero k h e f = refl
  one_place (m ∷ ms) zero (suc j) k h e f = absurd (never_behind k ms j (subst (λ x. IsAway x ms) (same_Some m k e) h.0) f)
  one_place (m ∷ ms) (suc i) zero k h e f = absurd (never_behind k ms i (subst (λ x. IsAway x ms) (same_Some m k f) h.0) e)
  one_place (m ∷ ms) (suc i) (suc j) k h e f = ap suc (one_place ms i j k h.1 e f)

  pub all_at : (P : X → Type 0) (xs : List X) (n : ℕ) (x : X) → All P xs → slice_get xs n ≡ Some x → P x
  all_at P xs n x h e = subst P (get_or_from_slice_get xs n x x e) (h n x (slice_get_within xs n x e))

module _ {X Y : Type 0} (f : X → Y) where
  read_map : (xs : List X) (n : ℕ) (x : X) → slice_get xs n ≡ Some x → slice_get (map f xs) n ≡ Some (f x)
  read_map [] n x e = absurd (none-some x e)
  read_map (y ∷ ys) zero x e = ap (λ z. Some (f z)) (same_Some y x e)
  read_map (y ∷ ys) (suc n) x e = read_map ys n x e

  pub read_back : (xs : List X) (n : ℕ) (y : Y) → slice_get (map f xs) n ≡ Some y → (x : X) × (slice_get xs n ≡ Some x) × (f x ≡ y)
  read_back [] n y e = absurd (none-some y e)
  read_back (x ∷ xs) zero y e = (x, refl, same_Some (f x) y e)
  read_back (x ∷ xs) (suc n) y e = read_back xs n y e

-- ---- places that rise

before_other : (a b : Place) → IsTrue (is_before a b) → is_same_place a b ≡ false
before_other a b h = grind arith

never_before : (p : Place) → IsTrue (is_before p p) → ⊥
never_before p h = let e : true ≡ false = sym (same_place_self p) ∙ before_other p p h in cc

pub other_place : (p q : Place) → IsTrue (is_before p q) → q ≡ p → ⊥
other_place p q h e = never_before p (subst (λ x. IsTrue (is_before p x)) e h)

away_places : (p : Place) (ps : List Place) → IsBeforeAll p ps → IsAway p ps
away_places p [] h = tt
away_places p (q ∷ qs) h = (other_place p q h.0, away_places p qs h.1)

apart_places : (ps : List Place) → IsRising ps → AreApart ps
apart_places [] h = tt
apart_places (p ∷ ps) h = (away_places p ps h.0, apart_places ps h.1)

other_key : (p q : Place) (kind k : Kind) → IsTrue (is_before p q) → (let x : Place × Kind = (q, k) in x) ≡ (p, kind) → ⊥
other_key p q kind k h e = other_place p q h (ap (λ (x : Place × Kind). x.0) e)

away_kinds : (p : Place) (kind : Kind) (ps : List Place) → IsBeforeAll p ps → (let k : Place × Kind = (p, kind) in IsAway k (by_kind ps))
away_kinds p kind [] h = tt
away_kinds p kind (q ∷ qs) h =
    (other_key p q kind Overflow h.0, (other_key p q kind ZeroDivisor h.0, (other_key p q kind Assertion h.0, away_kinds p kind qs h.1)))

abbrev pub is_overflow : Kind → ℕ
is_overflow Overflow = 1
is_overflow ZeroDivisor = 0
is_overflow Assertion = 0

abbrev pub is_assertion : Kind → ℕ
is_assertion Overflow = 0
is_assertion ZeroDivisor = 0
is_assertion Assertion = 1

unlike : (p : Place) (a b : Kind) (f : Kind → ℕ) → (f a ≡ f b → ⊥) → (let x : Place × Kind = (p, a) in x) ≡ (p, b) → ⊥
unlike p a b f apart e = apart (ap (λ (x : Place × Kind). f x.1) e)

pub zero_one : (let n : ℕ = 0 in n) ≡ 1 → ⊥
zero_one e = absurd (omega (arith, e))

pub one_zero : (let n : ℕ = 1 in n) ≡ 0 → ⊥
one_zero e = absurd (omega (arith, e))

apart_kinds : (ps : List Place) → IsRising ps → AreApart (by_kind ps)
apart_kinds [] h = tt
apart_kinds (p ∷ ps) h = (
  (unlike p ZeroDivisor Overflow is_overflow zero_one, (unlike p Assertion Overflow is_overflow zero_one, away_kinds p Overflow ps h.0)),
  (
    (unlike p Assertion ZeroDivisor is_assertion one_zero, away_kinds p ZeroDivisor ps h.0),
    (away_kinds p Assertion ps h.0, apart_kinds ps h.1),
  ),
)

-- ---- trees with their keys

abbrev pub key : PlainAlarmTree → Place × Kind
key t = (t.place, t.kind)

same_key : (p q : Place) (a b : Kind) → p ≡ q → a ≡ b → (let x : Place × Kind = (p, a) in x) ≡ (q, b)
same_key p q a b e f = ap (λ (x : Place). let k : Place × Kind = (x, a) in k) e ∙ ap (λ (x : Kind). let k : Place × Kind = (q, x) in k) f

pub keyed : (ts : List PlainAlarmTree) (ps : List Place) → map key ts ≡ by_kind ps → IsRising ps → AreKeyed ts
keyed ts ps e h i j t u a b p k =
    one_place (map key ts) i j (key t) (subst AreApart (sym e) (apart_kinds ps h)) (read_map key ts i t a)
    (subst (λ x. slice_get (map key ts) j ≡ Some x) (same_key u.place t.place u.kind t.kind (sym p) (sym k)) (read_map key ts j u b))

pub placed : (ts : List LeafTree) (ps : List Place) → map (λ (t : LeafTree). t.place) ts ≡ ps → IsRising ps → ArePlaced ts
placed ts ps e h i j t u a b p =
    one_place (map (λ (x : LeafTree). x.place) ts) i j t.place (subst AreApart (sym e) (apart_places ps h)) (read_map (λ (x : LeafTree). x.place) ts i t a)
    (subst (λ x. slice_get (map (λ (y : LeafTree). y.place) ts) j ≡ Some x) (sym p) (read_map (λ (x : LeafTree). x.place) ts j u b))

-- ---- the tree of a place

kind_here : (p : Place) (ps : List Place) (kind : Kind) → (n : ℕ) × (slice_get (by_kind (p ∷ ps)) n ≡ Some (p, kind))
kind_here p ps Overflow = (zero, refl)
kind_here p ps ZeroDivisor = (suc zero, refl)
kind_here p ps Assertion = (suc (suc zero), refl)

kind_there : (ps : List Place) (x : Place) (kind : Kind) → IsIn x ps → (n : ℕ) × (slice_get (by_kind ps) n ≡ Some (x, kind))
kind_there [] x kind h = absurd h
kind_there (p ∷ ps) x kind (inl e) = subst (λ q. (n : ℕ) × (slice_get (by_kind (p ∷ ps)) n ≡ Some (q, kind))) e (kind_here p ps kind)
kind_there (p ∷ ps) x kind (inr h) = let found = kind_there ps x kind h in (suc (suc (suc found.0)), found.1)

pub place_there : (ps : List Place) (x : Place) → IsIn x ps → (n : ℕ) × (slice_get ps n ≡ Some x)
place_there [] x h = absurd h
place_there (p ∷ ps) x (inl e) = (zero, ap (λ q. Some q) e)
place_there (p ∷ ps) x (inr h) = let found = place_there ps x h in (suc found.0, found.1)

pub alarm_tree_there : (ts : List PlainAlarmTree) (ps : List Place) → map key ts ≡ by_kind ps → (x : Place) (kind : Kind) → IsIn x ps → HasKey ts x kind
alarm_tree_there ts ps e x kind h =
    let found = kind_there ps x kind h in
    let back = read_back key ts found.0 (x, kind) (subst (λ l. slice_get l found.0 ≡ Some (x, kind)) (sym e) found.1) in
    record {
      index = found.0;
      one = back.0;
      there = back.1;
      place_is = ap (λ (k : Place × Kind). k.0) back.2;
      kind_is = ap (λ (k : Place × Kind). k.1) back.2;
    }

pub leaf_tree_there : (ts : List LeafTree) (ps : List Place) → map (λ (t : LeafTree). t.place) ts ≡ ps → (n : ℕ) (x : Place) → slice_get ps n ≡ Some x → HasPlace ts x
leaf_tree_there ts ps e n x h =
    let back = read_back (λ (t : LeafTree). t.place) ts n x (subst (λ l. slice_get l n ≡ Some x) (sym e) h) in
    record { index = n; one = back.0; there = back.1; place_is = back.2 }
