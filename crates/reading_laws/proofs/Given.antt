-- What settings are read as is what their words say one by one.
use Rattle.std.proofs.Common.{◌≡◌, ℕ, zero, suc, ◌+◌, ◌≤◌, ◌<◌, ℤ, pos, Bool, true, false, if◌then◌else◌, ◌⊎◌, inl, inr, List, [], ◌∷◌, ◌++◌, length, slice_get, slice_index_or, slice_set, Option, Some, None, is_some, option_map, Result, Ok, Err, refl, sym, ap, subst, ◌∙◌, arith, bytes_eq, append_assoc}
use Rattle.std.proofs.lemmas.List.{append-nil}
use Rattle.linear_atoms.specs.declared.atoms.Feature.{Feature}
use Rattle.cpp_conditions.specs.declared.models.Model.{Model}
use Rattle.cpp_conditions.specs.Expressions.{found}
use Rattle.cpp_conditions.specs.Naming.{AreFeatures}
use Rattle.cpp_conditions.specs.Validity.{plain, is_valid, IsValid, IsConfig}
use Rattle.cpp_conditions.proofs.Within as within
use Rattle.feature_model.specs.declared.faults.ConfigFault.{ConfigFault}
use Rattle.feature_model.specs.declared.faults.ConfigFault.TheVariants as faults
use Rattle.feature_model.specs.Settings.{parts, fits, named, is_set, set_at, step, steps, unset, value_by, settled, checked, config_of, count}
use Rattle.feature_model.specs.Stages.{◌>>=◌}
use Rattle.feature_model.proofs.Setting.{set_counts, count_most, count_unset, length_unset}
use Rattle.reading_laws.specs.Settings.{place_in, said_in, IsNamed, Sets, IsSet, HasFault, unknown, twice, out_of_range, AreGiven, all, wrong, gives, HasValue, HaveValues, IsMissing, here, later, IsConfigured, refused, missing, not_valid, configured, HasPlace, HasAnswer}

-- ---- the feature of a name

-- the same feature by its place, and by its number and itself
abbrev Matches : ℕ → List Feature → Option ℕ → Option (ℕ × Feature) → Type 0
Matches n fs None None = Unit {0}
Matches n fs (Some k) (Some x) = (x.0 ≡ n + k) × (slice_get fs k ≡ Some x.1) × (k < length fs)
Matches n fs None (Some x) = ⊥
Matches n fs (Some k) None = ⊥

matches_by : (n : ℕ) (f : Feature) (fs : List Feature) (b : Bool) (o : Option ℕ) (r : Option (ℕ × Feature)) → Matches (n + 1) fs o r → Matches n (f ∷ fs) (if b then Some 0 else option_map suc o) (if b then Some (n, f) else r)
matches_by n f fs true o r h = (omega arith, refl, omega arith)
matches_by n f fs false None None h = tt
matches_by n f fs false (Some k) (Some x) h = let e = h.0 in let l = h.2 in (omega arith, h.1, omega arith)
matches_by n f fs false None (Some x) h = absurd h
matches_by n f fs false (Some k) None h = absurd h

matches : (name : List ℕ) (n : ℕ) (fs : List Feature) → Matches n fs (found name fs) (named name n fs)
matches name n [] = tt
matches name n (f ∷ fs) = matches_by n f fs (bytes_eq f.name name) (found name fs) (named name (n + 1) fs) (matches name (n + 1) fs)

-- ---- what is set

-- what stands in the slot of the feature at this place, behind these words
abbrev IsSlot : List Feature → List (List ℕ) → ℕ → Option ℤ → Type 0
IsSlot fs words place None = IsNamed fs place words → ⊥
IsSlot fs words place (Some v) = IsSet fs place v words

abbrev AreSlots : List Feature → List (List ℕ) → ℕ → List (Option ℤ) → Type 0
AreSlots fs words place [] = Unit {0}
AreSlots fs words place (s ∷ ss) = IsSlot fs words place s × AreSlots fs words (place + 1) ss

pub is_named : (fs : List Feature) (place : ℕ) (v : ℤ) (words : List (List ℕ)) → IsSet fs place v words → IsNamed fs place words
is_named fs place v [] h = absurd h
is_named fs place v (w ∷ ws) (inl h) = inl h.named
is_named fs place v (w ∷ ws) (inr h) = inr (is_named fs place v ws h)

named_last : (fs : List Feature) (place : ℕ) (words : List (List ℕ)) (w : List ℕ) → IsNamed fs place (words ++ w ∷ []) → IsNamed fs place words ⊎ (place_in fs w ≡ Some place)
named_last fs place [] w (inl h) = inr h
named_last fs place [] w (inr h) = absurd h
named_last fs place (x ∷ xs) w (inl h) = inl (inl h)
named_last fs place (x ∷ xs) w (inr h) = elim (named_last fs place xs w h) [ inl k ↦ inl (inr k) | inr k ↦ inr k ]

set_before : (fs : List Feature) (place : ℕ) (v : ℤ) (words : List (List ℕ)) (w : List ℕ) → IsSet fs place v words → IsSet fs place v (words ++ w ∷ [])
set_before fs place v [] w h = absurd h
set_before fs place v (x ∷ xs) w (inl h) = inl h
set_before fs place v (x ∷ xs) w (inr h) = inr (set_before fs place v xs w h)

set_last : (fs : List Feature) (place : ℕ) (v : ℤ) (words : List (List ℕ)) (w : List ℕ) → Sets fs place v w → IsSet fs place v (words ++ w ∷ [])
set_last fs place v [] w h = inl h
set_last fs place v (x ∷ xs) w h = inr (set_last fs place v xs w h)

slot_stays : (fs : List Feature) (words : List (List ℕ)) (w : List ℕ) (place : ℕ) (s : Option ℤ) → (place_in fs w ≡ Some place → ⊥) → IsSlot fs words place s → IsSlot fs (words ++ w ∷ []) place s
slot_stays fs words w place None n h = λ k. elim (named_last fs place words w k) [ inl i ↦ h i | inr e ↦ n e ]
slot_stays fs words w place (Some v) n h = set_before fs place v words w h

some_place : (m n : ℕ) → Some m ≡ Some n → m ≡ n
some_place m n e = cc

other_place : (fs : List Feature) (w : List ℕ) (m n : ℕ) → place_in fs w ≡ Some m → (m ≡ n → ⊥) → place_in fs w ≡ Some n → ⊥
other_place fs w m n e d k = d (some_place m n (sym e ∙ k))

slots_stay : (fs : List Feature) (words : List (List ℕ)) (w : List ℕ) (m place : ℕ) (ss : List (Option ℤ)) → place_in fs w ≡ Some m → m < place → AreSlots fs words place ss → AreSlots fs (words ++ w ∷ []) place ss
slots_stay fs words w m place [] e l h = tt
slots_stay fs words w m place (s ∷ ss) e l h = (slot_stays fs words w place s (other_place fs w m place e (λ d. omega arith)) h.0, slots_stay fs words w m (place + 1) ss e (omega arith) h.1)

slots_set : (fs : List Feature) (words : List (List ℕ)) (w : List ℕ) (place k : ℕ) (ss : List (Option ℤ)) (v : ℤ) → AreSlots fs words place ss → k < length ss → Sets fs (place + k) v w → AreSlots fs (words ++ w ∷ []) place (slice_set ss k (Some v))
slots_set fs words w place k [] v h l s = absurd (omega arith)
slots_set fs words w place zero (x ∷ ss) v h l s =
    let e : place + zero ≡ place = omega arith in
    let t : Sets fs place v w = subst (λ p. Sets fs p v w) e s in
    (set_last fs place v words w t, slots_stay fs words w place (place + 1) ss t.named (omega arith) h.1)
slots_set fs words w place (suc k) (x ∷ ss) v h l s =
    let e : place + suc k ≡ (place + 1) + k = omega arith in
    let t : Sets fs ((place + 1) + k) v w = subst (λ p. Sets fs p v w) e s in
    (slot_stays fs words w place x (other_place fs w (place + suc k) place s.named (λ d. omega arith)) h.0, slots_set fs words w (place + 1) k ss v h.1 (omega arith) t)

slot_at : (fs : List Feature) (words : List (List ℕ)) (place k : ℕ) (ss : List (Option ℤ)) → AreSlots fs words place ss → k < length ss → IsSlot fs words (place + k) (slice_index_or ss k None)
slot_at fs words place k [] h l = absurd (omega arith)
slot_at fs words place zero (s ∷ ss) h l = let e : place ≡ place + zero = omega arith in subst (λ p. IsSlot fs words p s) e h.0
slot_at fs words place (suc k) (s ∷ ss) h l = let e : (place + 1) + k ≡ place + suc k = omega arith in subst (λ p. IsSlot fs words p (slice_index_or ss k None)) e (slot_at fs words (place + 1) k ss h.1 (omega arith))

slot_there : (fs : List Feature) (words : List (List ℕ)) (k : ℕ) (ss : List (Option ℤ)) → AreSlots fs words 0 ss → k < length ss → IsSlot fs words k (slice_index_or ss k None)
slot_there fs words k ss h l = let e : 0 + k ≡ k = omega arith in subst (λ p. IsSlot fs words p (slice_index_or ss k None)) e (slot_at fs words 0 k ss h l)

all_set : (fs : List Feature) (words : List (List ℕ)) (w : List ℕ) (k : ℕ) (ss : List (Option ℤ)) (v : ℤ) → AreSlots fs words 0 ss → k < length ss → Sets fs k v w → AreSlots fs (words ++ w ∷ []) 0 (slice_set ss k (Some v))
all_set fs words w k ss v h l s = let e : k ≡ 0 + k = omega arith in slots_set fs words w 0 k ss v h l (subst (λ p. Sets fs p v w) e s)

slots_unset : (all_features fs : List Feature) (place : ℕ) → AreSlots all_features [] place (unset fs)
slots_unset all_features [] place = tt
slots_unset all_features (f ∷ fs) place = ((λ h. h), slots_unset all_features fs (place + 1))

slot_taken : (fs : List Feature) (words : List (List ℕ)) (place : ℕ) (s : Option ℤ) → IsSlot fs words place s → is_some s ≡ true → IsNamed fs place words
slot_taken fs words place None h e = absurd cc
slot_taken fs words place (Some v) h e = is_named fs place v words h

slot_free : (fs : List Feature) (words : List (List ℕ)) (place : ℕ) (s : Option ℤ) → IsSlot fs words place s → is_some s ≡ false → IsNamed fs place words → ⊥
slot_free fs words place None h e = h
slot_free fs words place (Some v) h e = absurd cc

-- ---- one word

-- what stands behind so many words
record AreSet (fs : List Feature) (words : List (List ℕ)) (n : ℕ) (slots : List (Option ℤ)) : Type 0 where
  are : AreSlots fs words 0 slots
  long : length slots ≡ length fs
  number : n ≡ count slots + 1

-- what the word of number n behind these does
record SetsOne (fs : List Feature) (words : List (List ℕ)) (n : ℕ) (w : List ℕ) (next : List (Option ℤ)) : Type 0 where
  place : ℕ
  value : ℤ
  sets_it : Sets fs place value w
  is_new : IsNamed fs place words → ⊥
  after : AreSet fs (words ++ w ∷ []) (n + 1) next

abbrev Does : List Feature → List (List ℕ) → ℕ → List ℕ → Result (List (Option ℤ)) ConfigFault → Type 0
Does fs words n w (Ok next) = SetsOne fs words n w next
Does fs words n w (Err fault) = HasFault fs words n w fault

length_set : (ss : List (Option ℤ)) (k : ℕ) (s : Option ℤ) → length (slice_set ss k s) ≡ length ss
length_set [] k s = refl
length_set (x ∷ ss) zero s = refl
length_set (x ∷ ss) (suc k) s = ap suc (length_set ss k s)

does_set : (fs : List Feature) (words : List (List ℕ)) (n : ℕ) (w : List ℕ) (slots : List (Option ℤ)) (k : ℕ) (f : Feature) (value : Option ℤ) → AreSet fs words n slots → place_in fs w ≡ Some k → slice_get fs k ≡ Some f → k < length slots → is_set slots k ≡ false → said_in w ≡ value → fits f value ≡ true
    → Does fs words n w (Ok (slice_set slots k value))
does_set fs words n w slots k f None h e g l free says fit = absurd cc
does_set fs words n w slots k f (Some v) h e g l free says fit =
    let s : Sets fs k v w = record { feature = f; is_there = g; named = e; says = says; in_range = fit } in
    let c : count (slice_set slots k (Some v)) ≡ count slots + 1 = set_counts f slots k (Some v) l free fit in
    let m = h.number in
    record {
      place = k;
      value = v;
      sets_it = s;
      is_new = slot_free fs words k (slice_index_or slots k None) (slot_there fs words k slots h.are l) free;
      after = record { are = all_set fs words w k slots v h.are l s; long = length_set slots k (Some v) ∙ h.long; number = omega arith };
    }

does_fit : (fs : List Feature) (words : List (List ℕ)) (n : ℕ) (w : List ℕ) (slots : List (Option ℤ)) (k : ℕ) (f : Feature) (b : Bool) → AreSet fs words n slots → place_in fs w ≡ Some k → slice_get fs k ≡ Some f → k < length slots → is_set slots k ≡ false → fits f (said_in w) ≡ b
    → Does fs words n w (if b then Ok (slice_set slots k (said_in w)) else Err (faults.OutOfRange n))
does_fit fs words n w slots k f true h e g l free fit = does_set fs words n w slots k f (said_in w) h e g l free refl fit
does_fit fs words n w slots k f false h e g l free fit = out_of_range k f e (slot_free fs words k (slice_index_or slots k None) (slot_there fs words k slots h.are l) free) g fit

does_at : (fs : List Feature) (words : List (List ℕ)) (n : ℕ) (w : List ℕ) (slots : List (Option ℤ)) (k : ℕ) (f : Feature) (b : Bool) → AreSet fs words n slots → place_in fs w ≡ Some k → slice_get fs k ≡ Some f → k < length slots → is_set slots k ≡ b
    → Does fs words n w (if b then Err (faults.Twice n) else (if fits f (said_in w) then Ok (slice_set slots k (said_in w)) else Err (faults.OutOfRange n)))
does_at fs words n w slots k f true h e g l taken = twice k e (slot_taken fs words k (slice_index_or slots k None) (slot_there fs words k slots h.are l) taken)
does_at fs words n w slots k f false h e g l free = does_fit fs words n w slots k f (fits f (said_in w)) h e g l free refl

does_by : (fs : List Feature) (words : List (List ℕ)) (n : ℕ) (w : List ℕ) (slots : List (Option ℤ)) (o : Option ℕ) (r : Option (ℕ × Feature)) → AreSet fs words n slots → place_in fs w ≡ o → Matches 0 fs o r → Does fs words n w (set_at n slots (said_in w) r)
does_by fs words n w slots None None h e m = unknown e
does_by fs words n w slots (Some k) (Some x) h e m =
    let first = m.0 in
    let i : x.0 ≡ k = omega arith in
    let long = h.long in
    let below = m.2 in
    let l : x.0 < length slots = omega arith in
    does_at fs words n w slots x.0 x.1 (is_set slots x.0) h (e ∙ ap Some (sym i)) (subst (λ p. slice_get fs p ≡ Some x.1) (sym i) m.1) l refl
does_by fs words n w slots None (Some x) h e m = absurd m
does_by fs words n w slots (Some k) None h e m = absurd m

does : (fs : List Feature) (words : List (List ℕ)) (n : ℕ) (w : List ℕ) (slots : List (Option ℤ)) → AreSet fs words n slots → Does fs words n w (step fs n slots w)
unfolding step
does fs words n w slots h = does_by fs words n w slots (found (parts w).0 fs) (named (parts w).0 0 fs) h refl (matches (parts w).0 0 fs)

-- ---- all words

record AreDone (fs : List Feature) (earlier : List (List ℕ)) (n : ℕ) (words : List (List ℕ)) (slots : List (Option ℤ)) : Type 0 where
  given : AreGiven fs earlier n words None
  are : AreSlots fs (earlier ++ words) 0 slots
  long : length slots ≡ length fs

abbrev Done : List Feature → List (List ℕ) → ℕ → List (List ℕ) → Result (List (Option ℤ)) ConfigFault → Type 0
Done fs earlier n words (Ok slots) = AreDone fs earlier n words slots
Done fs earlier n words (Err fault) = AreGiven fs earlier n words (Some fault) × (length fs ≤ 32 → HasPlace fault)

fault_place : (fs : List Feature) (words : List (List ℕ)) (n : ℕ) (w : List ℕ) (fault : ConfigFault) → 1 ≤ n → n ≤ 33 → HasFault fs words n w fault → HasPlace fault
fault_place fs words n w _ a b (unknown e) = (a, b)
fault_place fs words n w _ a b (twice k e h) = (a, b)
fault_place fs words n w _ a b (out_of_range k f e h g i) = (a, b)

few_words : (fs : List Feature) (words : List (List ℕ)) (n : ℕ) (slots : List (Option ℤ)) → length fs ≤ 32 → AreSet fs words n slots → n ≤ 33
few_words fs words n slots few h = let a = count_most slots in let b = h.long in let c = h.number in omega arith

first_word : (fs : List Feature) (words : List (List ℕ)) (n : ℕ) (slots : List (Option ℤ)) → AreSet fs words n slots → 1 ≤ n
first_word fs words n slots h = let c = h.number in omega arith

done_more : (fs : List Feature) (earlier : List (List ℕ)) (n : ℕ) (w : List ℕ) (words : List (List ℕ)) (next : List (Option ℤ)) (r : Result (List (Option ℤ)) ConfigFault) → SetsOne fs earlier n w next → Done fs (earlier ++ w ∷ []) (n + 1) words r → Done fs earlier n (w ∷ words) r
done_more fs earlier n w words next (Ok slots) s d = record {
  given = gives earlier n w words s.place s.value None s.sets_it s.is_new d.given;
  are = subst (λ ws. AreSlots fs ws 0 slots) (append_assoc earlier (w ∷ []) words) d.are;
  long = d.long;
}
done_more fs earlier n w words next (Err fault) s d = (gives earlier n w words s.place s.value (Some fault) s.sets_it s.is_new d.0, d.1)

done_by : (fs : List Feature) (earlier : List (List ℕ)) (n : ℕ) (w : List ℕ) (words : List (List ℕ)) (r : Result (List (Option ℤ)) ConfigFault) → 1 ≤ n → (length fs ≤ 32 → n ≤ 33) → Does fs earlier n w r
    → ((next : List (Option ℤ)) → AreSet fs (earlier ++ w ∷ []) (n + 1) next → Done fs (earlier ++ w ∷ []) (n + 1) words (steps fs (n + 1) next words)) → Done fs earlier n (w ∷ words) (r >>= λ next. steps fs (n + 1) next words)
done_by fs earlier n w words (Ok next) a b s go = done_more fs earlier n w words next (steps fs (n + 1) next words) s (go next s.after)
done_by fs earlier n w words (Err fault) a b h go = (wrong earlier n w words fault h, (λ few. fault_place fs earlier n w fault a (b few) h))

done : (fs : List Feature) (words earlier : List (List ℕ)) (n : ℕ) (slots : List (Option ℤ)) → AreSet fs earlier n slots → Done fs earlier n words (steps fs n slots words)
done fs [] earlier n slots h = record { given = all earlier n; are = subst (λ ws. AreSlots fs ws 0 slots) (sym (append-nil earlier)) h.are; long = h.long }
done fs (w ∷ words) earlier n slots h =
    done_by fs earlier n w words (step fs n slots w) (first_word fs earlier n slots h) (λ few. few_words fs earlier n slots few h) (does fs earlier n w slots h) (λ next k. done fs words (earlier ++ w ∷ []) (n + 1) next k)

-- ---- the values

abbrev Valued : List Feature → List (List ℕ) → ℕ → Feature → Result ℤ ConfigFault → Type 0
Valued all_features words place f (Ok v) = HasValue all_features words place f v
Valued all_features words place f (Err fault) = (IsNamed all_features place words → ⊥) × (f.boolean ≡ false) × (fault ≡ faults.Missing (place + 1))

valued_off : (all_features : List Feature) (words : List (List ℕ)) (place : ℕ) (f : Feature) (b : Bool) → f.boolean ≡ b → (IsNamed all_features place words → ⊥) → Valued all_features words place f (if b then Ok (pos 0) else Err (faults.Missing (place + 1)))
valued_off all_features words place f true e n = inr (n, e, refl)
valued_off all_features words place f false e n = (n, e, refl)

valued : (all_features : List Feature) (words : List (List ℕ)) (place : ℕ) (f : Feature) (s : Option ℤ) → IsSlot all_features words place s → Valued all_features words place f (value_by (place + 1) f s)
valued all_features words place f (Some v) h = inl h
valued all_features words place f None h = valued_off all_features words place f f.boolean refl h

-- the number of a missing feature from this place on
record Lacks (all_features : List Feature) (words : List (List ℕ)) (place : ℕ) (fs : List Feature) (fault : ConfigFault) : Type 0 where
  number : ℕ
  is : fault ≡ faults.Missing number
  lacks : IsMissing all_features words place fs number
  low : place < number
  high : number ≤ place + length fs

abbrev Settled : List Feature → List (List ℕ) → ℕ → List Feature → Result (List ℤ) ConfigFault → Type 0
Settled all_features words place fs (Ok values) = HaveValues all_features words place fs values
Settled all_features words place fs (Err fault) = Lacks all_features words place fs fault

settled_more : (all_features : List Feature) (words : List (List ℕ)) (place : ℕ) (f : Feature) (fs : List Feature) (r : Result ℤ ConfigFault) (q : Result (List ℤ) ConfigFault) → Valued all_features words place f r → Settled all_features words (place + 1) fs q
    → Settled all_features words place (f ∷ fs) (r >>= λ v. q >>= λ vs. Ok (v ∷ vs))
settled_more all_features words place f fs (Ok v) (Ok vs) h k = (h, k)
settled_more all_features words place f fs (Ok v) (Err fault) h k =
    let a = k.low in let b = k.high in
    record { number = k.number; is = k.is; lacks = later place k.number f fs v h k.lacks; low = omega arith; high = omega arith }
settled_more all_features words place f fs (Err fault) q h k = record { number = place + 1; is = h.2; lacks = here place f fs h.0 h.1; low = omega arith; high = omega arith }

settles : (all_features : List Feature) (words : List (List ℕ)) (place : ℕ) (fs : List Feature) (ss : List (Option ℤ)) → length ss ≡ length fs → AreSlots all_features words place ss → Settled all_features words place fs (settled (place + 1) fs ss)
settles all_features words place [] [] l h = tt
settles all_features words place [] (s ∷ ss) l h = absurd (omega arith)
settles all_features words place (f ∷ fs) [] l h = absurd (omega arith)
settles all_features words place (f ∷ fs) (s ∷ ss) l h =
    settled_more all_features words place f fs (value_by (place + 1) f s) (settled (place + 1 + 1) fs ss) (valued all_features words place f s h.0) (settles all_features words (place + 1) fs ss (omega arith) h.1)

-- ---- the whole

-- what the settings are read as, and the number of a fault
record IsRead (model : Model) (words : List (List ℕ)) (r : Result (List ℤ) ConfigFault) : Type 0 where
  read : IsConfigured model words r
  answer : AreFeatures model.features → HasAnswer model r

valid_config : (model : Model) (values : List ℤ) → IsValid (plain model) values → AreFeatures model.features → IsValid (plain model) values × IsConfig model.features values
valid_config model values v h = (v, within.config_of model.features values h.ranges (within.valid_parts (plain model) values v).0)

not_true : (b : Bool) → b ≡ false → b ≡ true → ⊥
not_true true e f = absurd cc
not_true false e f = absurd cc

read_checked : (model : Model) (words : List (List ℕ)) (values : List ℤ) (b : Bool) → is_valid (plain model) values ≡ b → AreGiven model.features [] 1 words None → HaveValues model.features words 0 model.features values → IsRead model words (if b then Ok values else Err faults.NotValid)
read_checked model words values true e g h = record { read = configured values g h e; answer = valid_config model values e }
read_checked model words values false e g h = record { read = not_valid values g h (not_true (is_valid (plain model) values) e); answer = λ a. tt }

read_lacking : (model : Model) (words : List (List ℕ)) (fault : ConfigFault) (n : ℕ) → fault ≡ faults.Missing n → AreGiven model.features [] 1 words None → IsMissing model.features words 0 model.features n → 1 ≤ n → n ≤ length model.features → IsRead model words (Err fault)
read_lacking model words fault n e g m a b = subst (λ x. IsRead model words (Err x)) (sym e) (record { read = missing n g m; answer = λ f. let few = f.few in (a, omega arith) })

read_settled : (model : Model) (words : List (List ℕ)) (r : Result (List ℤ) ConfigFault) → AreGiven model.features [] 1 words None → Settled model.features words 0 model.features r → IsRead model words (r >>= checked model)
read_settled model words (Ok values) g h = read_checked model words values (is_valid (plain model) values) refl g h
read_settled model words (Err fault) g h = let a = h.low in let b = h.high in read_lacking model words fault h.number h.is g h.lacks (omega arith) (omega arith)

read_done : (model : Model) (words : List (List ℕ)) (r : Result (List (Option ℤ)) ConfigFault) → Done model.features [] 1 words r → IsRead model words (r >>= λ slots. settled 1 model.features slots >>= checked model)
read_done model words (Ok slots) d = read_settled model words (settled 1 model.features slots) d.given (settles model.features words 0 model.features slots d.long d.are)
read_done model words (Err fault) d = record { read = refused fault d.0; answer = λ f. d.1 f.few }

begun : (fs : List Feature) → AreSet fs [] 1 (unset fs)
begun fs = record { are = slots_unset fs fs 0; long = length_unset fs; number = ap (λ n. n + 1) (sym (count_unset fs)) }

is_read : (model : Model) (words : List (List ℕ)) → IsRead model words (config_of model words)
is_read model words = read_done model words (steps model.features 1 (unset model.features) words) (done model.features words [] 1 (unset model.features) (begun model.features))

pub are_configured : (model : Model) (words : List (List ℕ)) → IsConfigured model words (config_of model words)
are_configured model words = (is_read model words).read

pub have_answers : (model : Model) (words : List (List ℕ)) → AreFeatures model.features → HasAnswer model (config_of model words)
have_answers model words = (is_read model words).answer
