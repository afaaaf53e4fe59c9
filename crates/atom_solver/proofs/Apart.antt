-- What holds of parts that share no feature.
use Rattle.std.proofs.Common.{◌≡◌, ℕ, zero, suc, ◌≤◌, ℤ, pos, ◌-ℤ◌, ◌≤ℤ◌, unsigned_abs, Bool, true, false, ◌&&◌, if◌then◌else◌, ◌⊎◌, inl, inr, List, [], ◌∷◌, ◌++◌, length, map, get_or, Option, Some, None, sym, ap, subst, refl, ◌∙◌, arith}
use Rattle.std.specs.Prelude.{slice_index_or}
use Rattle.std.proofs.lemmas.Int.{ints}
use Rattle.linear_atoms.specs.declared.atoms.Config.{Config}
use Rattle.linear_atoms.specs.declared.atoms.Atom.{Atom}
use Rattle.linear_atoms.specs.declared.ranges.Span.{Span}
use Rattle.linear_atoms.specs.Atoms.{IsWithin, AreRanges}
use Rattle.cpp_conditions.specs.declared.conditions.Condition.{Condition}
use Rattle.cpp_conditions.specs.Propositions.{Proposition, Const, IsFit, true_at}
use Rattle.cpp_conditions.specs.Validity.{AreFit, all_true}
use Rattle.cpp_conditions.specs.View.{proposition}
use Rattle.atom_solver.specs.Free.{Serves}
use Rattle.atom_solver.specs.Parts.{mixed, fixed, IsSumOf, IsTruthOf, IsPart}
use Rattle.atom_solver.specs.Solutions.{IsBefore}
use Rattle.atom_solver.specs.Spans.{ranges, width, meets, FindsIn}

-- ---- what is read

value_outside : (ms : List Bool) (vs ws : List ℤ) (n : ℕ) (d : ℤ) → get_or ms n false ≡ false → slice_index_or (mixed ms vs ws) n d ≡ slice_index_or ws n d
value_outside [] vs ws n d h = refl
value_outside (m ∷ ms) [] ws n d h = refl
value_outside (m ∷ ms) (v ∷ vs) [] n d h = refl
value_outside (true ∷ ms) (v ∷ vs) (w ∷ ws) zero d h = cc
value_outside (false ∷ ms) (v ∷ vs) (w ∷ ws) zero d h = refl
value_outside (m ∷ ms) (v ∷ vs) (w ∷ ws) (suc n) d h = value_outside ms vs ws n d h

value_inside : (ms : List Bool) (vs ws : List ℤ) (n : ℕ) (d : ℤ) → length vs ≡ length ws → get_or ms n false ≡ true → slice_index_or (mixed ms vs ws) n d ≡ slice_index_or vs n d
value_inside [] vs ws n d e h = cc
value_inside (m ∷ ms) [] [] n d e h = refl
value_inside (m ∷ ms) [] (w ∷ ws) n d e h = absurd (omega arith)
value_inside (m ∷ ms) (v ∷ vs) [] n d e h = absurd (omega arith)
value_inside (true ∷ ms) (v ∷ vs) (w ∷ ws) zero d e h = refl
value_inside (false ∷ ms) (v ∷ vs) (w ∷ ws) zero d e h = cc
value_inside (m ∷ ms) (v ∷ vs) (w ∷ ws) (suc n) d e h = value_inside ms vs ws n d (omega arith) h

value_of : (inside : Bool) (ms : List Bool) (vs ws : List ℤ) (n : ℕ) (d : ℤ) → length vs ≡ length ws → get_or ms n false ≡ inside → slice_index_or (mixed ms vs ws) n d ≡ slice_index_or (if inside then vs else ws) n d
value_of true ms vs ws n d e h = value_inside ms vs ws n d e h
value_of false ms vs ws n d e h = value_outside ms vs ws n d h

pub sum_none : (inside : Bool) (ms : List Bool) (ts : List (ℕ × ℤ)) → ts ≡ [] → IsSumOf inside ms ts
sum_none inside ms ts e = subst (λ x. IsSumOf inside ms x) (sym e) (λ vs ws l. refl)

pub sum_more : (inside : Bool) (ms : List Bool) (n : ℕ) (a : ℤ) (ts behind : List (ℕ × ℤ)) → ts ≡ (n, a) ∷ behind → get_or ms n false ≡ inside → IsSumOf inside ms behind → IsSumOf inside ms ts
sum_more inside ms n a ts behind e h u = subst (λ x. IsSumOf inside ms x) (sym e) (λ vs ws l. rw (value_of inside ms vs ws n (pos 0) l h, u vs ws l) refl)

-- ---- parts of conditions

and_left : (a b : Bool) → (a && b) ≡ true → a ≡ true
and_left true b e = refl
and_left false b e = e

and_right : (a b : Bool) → (a && b) ≡ true → b ≡ true
and_right true b e = e
and_right false b e = cc

and_both : (a b : Bool) → a ≡ true → b ≡ true → (a && b) ≡ true
and_both a b e f = ap (λ x. x && b) e ∙ f

and_assoc : (a b c : Bool) → (a && (b && c)) ≡ ((a && b) && c)
and_assoc true b c = refl
and_assoc false b c = refl

and_true : (a : Bool) → (a && true) ≡ a
and_true true = refl
and_true false = refl

-- one more condition behind
true_last : (vs : List ℤ) (cs : List Condition) (c : Condition) → all_true vs (map proposition (cs ++ c ∷ [])) ≡ (all_true vs (map proposition cs) && true_at vs (proposition c))
true_last vs [] c = and_true (true_at vs (proposition c))
true_last vs (d ∷ ds) c = ap (λ x. true_at vs (proposition d) && x) (true_last vs ds c) ∙ and_assoc (true_at vs (proposition d)) (all_true vs (map proposition ds)) (true_at vs (proposition c))

last_first : (vs : List ℤ) (cs : List Condition) (c : Condition) → all_true vs (map proposition (cs ++ c ∷ [])) ≡ true → all_true vs (map proposition cs) ≡ true
last_first vs cs c h = and_left (all_true vs (map proposition cs)) (true_at vs (proposition c)) (sym (true_last vs cs c) ∙ h)

last_last : (vs : List ℤ) (cs : List Condition) (c : Condition) → all_true vs (map proposition (cs ++ c ∷ [])) ≡ true → true_at vs (proposition c) ≡ true
last_last vs cs c h = and_right (all_true vs (map proposition cs)) (true_at vs (proposition c)) (sym (true_last vs cs c) ∙ h)

last_both : (vs : List ℤ) (cs : List Condition) (c : Condition) → all_true vs (map proposition cs) ≡ true → true_at vs (proposition c) ≡ true → all_true vs (map proposition (cs ++ c ∷ [])) ≡ true
last_both vs cs c h k = true_last vs cs c ∙ and_both (all_true vs (map proposition cs)) (true_at vs (proposition c)) h k

fit_last : (n : ℕ) (cs : List Condition) (c : Condition) → AreFit n cs → IsFit n (proposition c) → AreFit n (cs ++ c ∷ [])
fit_last n [] c h k = (k, tt)
fit_last n (d ∷ ds) c h k = (h.0, fit_last n ds c h.1 k)

head_true : (vs : List ℤ) (c : Condition) (cs : List Condition) → all_true vs (map proposition (c ∷ cs)) ≡ true → true_at vs (proposition c) ≡ true
head_true vs c cs h = and_left (true_at vs (proposition c)) (all_true vs (map proposition cs)) h

tail_true : (vs : List ℤ) (c : Condition) (cs : List Condition) → all_true vs (map proposition (c ∷ cs)) ≡ true → all_true vs (map proposition cs) ≡ true
tail_true vs c cs h = and_right (true_at vs (proposition c)) (all_true vs (map proposition cs)) h

both_true : (vs : List ℤ) (c : Condition) (cs : List Condition) → true_at vs (proposition c) ≡ true → all_true vs (map proposition cs) ≡ true → all_true vs (map proposition (c ∷ cs)) ≡ true
both_true vs c cs h k = and_both (true_at vs (proposition c)) (all_true vs (map proposition cs)) h k

nothing : (marks : List Bool) → IsPart marks [] []
nothing marks = record { kept = λ vs h. refl; inner = λ vs ws l h k. refl; whole = λ vs ws l h k. refl; fit = λ n h. h }

pub part_none : (marks : List Bool) (cs part : List Condition) → cs ≡ [] → part ≡ [] → IsPart marks cs part
part_none marks cs part e f = subst (λ x. IsPart marks x part) (sym e) (subst (λ x. IsPart marks [] x) (sym f) (nothing marks))

pub skipped : (marks : List Bool) (c : Condition) (behind part : List Condition) → IsTruthOf false marks (proposition c) → IsPart marks behind part → IsPart marks (c ∷ behind) part
skipped marks c behind part t p = record {
  kept = λ vs h. p.kept vs (tail_true vs c behind h);
  inner = p.inner;
  whole = λ vs ws l h k. both_true (mixed marks vs ws) c behind (t vs ws l ∙ head_true ws c behind k) (p.whole vs ws l h (tail_true ws c behind k));
  fit = λ n h. p.fit n h.1;
}

pub taken : (marks : List Bool) (c d : Condition) (behind rest part : List Condition) → proposition d ≡ proposition c → part ≡ rest ++ d ∷ [] → IsTruthOf true marks (proposition c) → IsPart marks behind rest → IsPart marks (c ∷ behind) part
taken marks c d behind rest part e f t p = subst (λ x. IsPart marks (c ∷ behind) x) (sym f) (record {
  kept = λ vs h. last_both vs rest d (p.kept vs (tail_true vs c behind h)) (ap (true_at vs) e ∙ head_true vs c behind h);
  inner = λ vs ws l h k.
      last_both (mixed marks vs ws) rest d (p.inner vs ws l (last_first vs rest d h) (last_first ws rest d k))
      (ap (true_at (mixed marks vs ws)) e ∙ t vs ws l ∙ sym (ap (true_at vs) e) ∙ last_last vs rest d h);
  whole = λ vs ws l h k.
      both_true (mixed marks vs ws) c behind (t vs ws l ∙ sym (ap (true_at vs) e) ∙ last_last vs rest d h) (p.whole vs ws l (last_first vs rest d h) (tail_true ws c behind k));
  fit = λ n h. fit_last n rest d (p.fit n h.1) (subst (IsFit n) (sym e) h.0);
})

pub part_more : (marks : List Bool) (c : Condition) (cs behind part more : List Condition) → cs ≡ c ∷ behind → ((others : List Condition) → IsPart marks others part → IsPart marks (c ∷ others) more)
    → IsPart marks behind part → IsPart marks cs more
part_more marks c cs behind part more e f p = subst (λ x. IsPart marks x more) (sym e) (f behind p)

pub all_none : (marks : List Bool) (cs : List Condition) → cs ≡ [] → IsPart marks cs cs
all_none marks cs e = part_none marks cs cs e e

first_of_two : (inside : Bool) (marks : List Bool) (c : Condition) (vs ws : List ℤ) → IsTruthOf inside marks (proposition c) → length vs ≡ length ws
    → true_at vs (proposition c) ≡ true → true_at ws (proposition c) ≡ true → true_at (mixed marks vs ws) (proposition c) ≡ true
first_of_two true marks c vs ws t l h k = t vs ws l ∙ h
first_of_two false marks c vs ws t l h k = t vs ws l ∙ k

all_with : (inside : Bool) (marks : List Bool) (c : Condition) (behind : List Condition) → IsTruthOf inside marks (proposition c) → IsPart marks behind behind → IsPart marks (c ∷ behind) (c ∷ behind)
all_with inside marks c behind t p =
    let m : (vs ws : List ℤ) → length vs ≡ length ws → all_true vs (map proposition (c ∷ behind)) ≡ true → all_true ws (map proposition (c ∷ behind)) ≡ true → all_true (mixed marks vs ws) (map proposition (c ∷ behind)) ≡ true
    = λ vs ws l h k. both_true (mixed marks vs ws) c behind (first_of_two inside marks c vs ws t l (head_true vs c behind h) (head_true ws c behind k)) (p.inner vs ws l (tail_true vs c behind h) (tail_true ws c behind k)) in
    record { kept = λ vs h. h; inner = m; whole = m; fit = λ n h. h }

pub all_inside : (marks : List Bool) (c : Condition) (cs behind : List Condition) → cs ≡ c ∷ behind → IsTruthOf true marks (proposition c) → IsPart marks behind behind → IsPart marks cs cs
all_inside marks c cs behind e t p = subst (λ x. IsPart marks x x) (sym e) (all_with true marks c behind t p)

pub all_outside : (marks : List Bool) (c : Condition) (cs behind : List Condition) → cs ≡ c ∷ behind → IsTruthOf false marks (proposition c) → IsPart marks behind behind → IsPart marks cs cs
all_outside marks c cs behind e t p = subst (λ x. IsPart marks x x) (sym e) (all_with false marks c behind t p)

-- ---- boxes with the values of a part

within_length : (ss : List Span) (vs : List ℤ) → IsWithin (ranges ss) vs → length vs ≡ length ss
within_length [] [] h = refl
within_length [] (v ∷ vs) h = absurd h
within_length (s ∷ ss) [] h = absurd h
within_length (s ∷ ss) (v ∷ vs) h = ap suc (within_length ss vs h.2)

same_length : (ss : List Span) (vs ws : List ℤ) → IsWithin (ranges ss) vs → IsWithin (ranges ss) ws → length vs ≡ length ws
same_length ss vs ws h k = within_length ss vs h ∙ sym (within_length ss ws k)

mixed_within : (ms : List Bool) (ss : List Span) (vs ws : List ℤ) → IsWithin (ranges ss) vs → IsWithin (ranges ss) ws → IsWithin (ranges ss) (mixed ms vs ws)
mixed_within [] ss vs ws h k = k
mixed_within (m ∷ ms) [] [] [] h k = tt
mixed_within (m ∷ ms) [] (v ∷ vs) ws h k = absurd h
mixed_within (m ∷ ms) [] [] (w ∷ ws) h k = absurd k
mixed_within (m ∷ ms) (s ∷ ss) [] ws h k = absurd h
mixed_within (m ∷ ms) (s ∷ ss) (v ∷ vs) [] h k = absurd k
mixed_within (true ∷ ms) (s ∷ ss) (v ∷ vs) (w ∷ ws) h k = (h.0, h.1, mixed_within ms ss vs ws h.2 k.2)
mixed_within (false ∷ ms) (s ∷ ss) (v ∷ vs) (w ∷ ws) h k = (k.0, k.1, mixed_within ms ss vs ws h.2 k.2)

into_fixed : (ms : List Bool) (ss : List Span) (cs vs : List ℤ) → IsWithin (ranges ss) cs → IsWithin (ranges ss) vs → IsWithin (ranges (fixed ms cs ss)) (mixed ms cs vs)
into_fixed [] ss cs vs h k = k
into_fixed (m ∷ ms) [] [] [] h k = tt
into_fixed (m ∷ ms) [] (c ∷ cs) vs h k = absurd h
into_fixed (m ∷ ms) [] [] (v ∷ vs) h k = absurd k
into_fixed (m ∷ ms) (s ∷ ss) [] vs h k = absurd h
into_fixed (m ∷ ms) (s ∷ ss) (c ∷ cs) [] h k = absurd k
into_fixed (true ∷ ms) (s ∷ ss) (c ∷ cs) (v ∷ vs) h k = (omega (arith, ints), omega (arith, ints), into_fixed ms ss cs vs h.2 k.2)
into_fixed (false ∷ ms) (s ∷ ss) (c ∷ cs) (v ∷ vs) h k = (k.0, k.1, into_fixed ms ss cs vs h.2 k.2)

from_fixed : (ms : List Bool) (ss : List Span) (cs vs : List ℤ) → IsWithin (ranges ss) cs → IsWithin (ranges (fixed ms cs ss)) vs → IsWithin (ranges ss) vs
from_fixed [] ss cs vs h k = k
from_fixed (m ∷ ms) [] [] vs h k = k
from_fixed (m ∷ ms) [] (c ∷ cs) vs h k = absurd h
from_fixed (m ∷ ms) (s ∷ ss) [] vs h k = absurd h
from_fixed (m ∷ ms) (s ∷ ss) (c ∷ cs) [] h k = absurd k
from_fixed (true ∷ ms) (s ∷ ss) (c ∷ cs) (v ∷ vs) h k =
    let a : s.low ≤ℤ c = h.0 in
    let b : c ≤ℤ s.high = h.1 in
    let d : c ≤ℤ v = k.0 in
    let e : v ≤ℤ c = k.1 in
    (omega (arith, ints), omega (arith, ints), from_fixed ms ss cs vs h.2 k.2)
from_fixed (false ∷ ms) (s ∷ ss) (c ∷ cs) (v ∷ vs) h k = (k.0, k.1, from_fixed ms ss cs vs h.2 k.2)

either_before : (ms : List Bool) (ss : List Span) (cs ws vs : List ℤ) → IsWithin (ranges ss) cs → IsWithin (ranges (fixed ms cs ss)) ws → IsWithin (ranges ss) vs → IsBefore vs ws
    → IsBefore (mixed ms cs vs) ws ⊎ IsBefore (mixed ms vs cs) cs
either_before [] ss cs ws vs h k i b = inl b
either_before (m ∷ ms) ss cs ws [] h k i b = absurd b
either_before (m ∷ ms) ss cs [] (v ∷ vs) h k i b = absurd b
either_before (m ∷ ms) [] cs (w ∷ ws) (v ∷ vs) h k i b = absurd i
either_before (m ∷ ms) (s ∷ ss) [] (w ∷ ws) (v ∷ vs) h k i b = absurd h
either_before (true ∷ ms) (s ∷ ss) (c ∷ cs) (w ∷ ws) (v ∷ vs) h k i (inl b) =
    let d : c ≤ℤ w = k.0 in
    let e : w ≤ℤ c = k.1 in
    inr (inl (omega (arith, ints)))
either_before (false ∷ ms) (s ∷ ss) (c ∷ cs) (w ∷ ws) (v ∷ vs) h k i (inl b) = inl (inl b)
either_before (true ∷ ms) (s ∷ ss) (c ∷ cs) (w ∷ ws) (v ∷ vs) h k i (inr b) =
    let d : c ≤ℤ w = k.0 in
    let e : w ≤ℤ c = k.1 in
    let f : v ≡ w = b.0 in
    elim (either_before ms ss cs ws vs h.2 k.2 i.2 b.1) [ inl r ↦ inl (inr (omega (arith, ints), r)) | inr r ↦ inr (inr (omega (arith, ints), r)) ]
either_before (false ∷ ms) (s ∷ ss) (c ∷ cs) (w ∷ ws) (v ∷ vs) h k i (inr b) =
    elim (either_before ms ss cs ws vs h.2 k.2 i.2 b.1) [ inl r ↦ inl (inr (b.0, r)) | inr r ↦ inr (inr (refl, r)) ]

value_size : (a m z : ℤ) → a ≤ℤ m → m ≤ℤ z → unsigned_abs a ≤ 1048576 → unsigned_abs z ≤ 1048576 → unsigned_abs m ≤ 1048576
value_size a m z h k p q = omega (arith, ints)

fixed_ranges : (ms : List Bool) (ss : List Span) (cs : List ℤ) → IsWithin (ranges ss) cs → AreRanges (ranges ss) → AreRanges (ranges (fixed ms cs ss))
fixed_ranges [] ss cs h r = r
fixed_ranges (m ∷ ms) [] [] h r = r
fixed_ranges (m ∷ ms) [] (c ∷ cs) h r = absurd h
fixed_ranges (m ∷ ms) (s ∷ ss) [] h r = absurd h
fixed_ranges (true ∷ ms) (s ∷ ss) (c ∷ cs) h r =
    let z : unsigned_abs c ≤ 1048576 = value_size s.low c s.high h.0 h.1 r.1 r.2 in
    (omega (arith, ints), z, z, fixed_ranges ms ss cs h.2 r.3)
fixed_ranges (false ∷ ms) (s ∷ ss) (c ∷ cs) h r = (r.0, r.1, r.2, fixed_ranges ms ss cs h.2 r.3)

fixed_long : (ms : List Bool) (ss : List Span) (cs : List ℤ) → IsWithin (ranges ss) cs → length (fixed ms cs ss) ≡ length ss
fixed_long [] ss cs h = refl
fixed_long (m ∷ ms) [] [] h = refl
fixed_long (m ∷ ms) [] (c ∷ cs) h = absurd h
fixed_long (m ∷ ms) (s ∷ ss) [] h = absurd h
fixed_long (m ∷ ms) (s ∷ ss) (c ∷ cs) h = ap suc (fixed_long ms ss cs h.2)

fixed_width : (ms : List Bool) (ss : List Span) (cs : List ℤ) → IsWithin (ranges ss) cs → width (fixed ms cs ss) ≤ width ss
fixed_width [] ss cs h = omega arith
fixed_width (m ∷ ms) [] [] h = omega arith
fixed_width (m ∷ ms) [] (c ∷ cs) h = absurd h
fixed_width (m ∷ ms) (s ∷ ss) [] h = absurd h
fixed_width (true ∷ ms) (s ∷ ss) (c ∷ cs) h =
    let e : unsigned_abs (c -ℤ c) ≡ 0 = omega (arith, ints) in
    let k : width (fixed ms cs ss) ≤ width ss = fixed_width ms ss cs h.2 in
    omega arith
fixed_width (false ∷ ms) (s ∷ ss) (c ∷ cs) h = let k : width (fixed ms cs ss) ≤ width ss = fixed_width ms ss cs h.2 in omega arith

-- ---- what is found

false_too : (a b : Bool) → (a ≡ true → b ≡ true) → b ≡ false → a ≡ false
false_too true b h e = sym (h refl) ∙ e
false_too false b h e = refl

-- a part alone is met first at the values, and others meet the whole with them
record Fixes (one holds : List ℤ → Bool) (marks : List Bool) (ss : List Span) (values : List ℤ) : Type 0 where
  within : IsWithin (ranges ss) values
  first : (vs : List ℤ) → IsWithin (ranges ss) vs → one vs ≡ true → IsBefore vs values → ⊥
  with_them : (vs : List ℤ) → IsWithin (ranges ss) vs → holds vs ≡ true → holds (mixed marks values vs) ≡ true
  alone : (vs : List ℤ) → IsWithin (ranges ss) vs → holds vs ≡ true → one (mixed marks vs values) ≡ true

fixed_finds : (one holds : List ℤ → Bool) (marks : List Bool) (ss : List Span) (values : List ℤ) (found : Option Config) → Fixes one holds marks ss values
    → FindsIn (ranges (fixed marks values ss)) holds found → FindsIn (ranges ss) holds found
fixed_finds one holds marks ss values None f g = λ vs h.
    false_too (holds vs) (holds (mixed marks values vs)) (λ e. f.with_them vs h e) (g (mixed marks values vs) (into_fixed marks ss values vs f.within h))
fixed_finds one holds marks ss values (Some c) f g = record {
  within = from_fixed marks ss values c.values f.within g.within;
  met = g.met;
  first = λ vs h m b. elim (either_before marks ss values c.values vs f.within g.within h b) [
    | inl r ↦ g.first (mixed marks values vs) (into_fixed marks ss values vs f.within h) (f.with_them vs h m) r
    | inr r ↦ f.first (mixed marks vs values) (mixed_within marks ss vs values h f.within) (f.alone vs h m) r
  ];
}

fixed_serves : (one holds : List ℤ → Bool) (marks : List Bool) (ss : List Span) (values : List ℤ) → AreRanges (ranges ss) → Fixes one holds marks ss values → Serves holds ss (fixed marks values ss)
fixed_serves one holds marks ss values r f = record {
  long = fixed_long marks ss values f.within;
  some = fixed_ranges marks ss values f.within r;
  finds = λ found g. fixed_finds one holds marks ss values found f g;
  no_wider = fixed_width marks ss values f.within;
}

meets_left : (cs : List Condition) (p : Proposition Atom) (vs : List ℤ) → meets cs p vs ≡ true → all_true vs (map proposition cs) ≡ true
meets_left cs p vs h = and_left (all_true vs (map proposition cs)) (true_at vs p) h

meets_right : (cs : List Condition) (p : Proposition Atom) (vs : List ℤ) → meets cs p vs ≡ true → true_at vs p ≡ true
meets_right cs p vs h = and_right (all_true vs (map proposition cs)) (true_at vs p) h

meets_both : (cs : List Condition) (p : Proposition Atom) (vs : List ℤ) → all_true vs (map proposition cs) ≡ true → true_at vs p ≡ true → meets cs p vs ≡ true
meets_both cs p vs h k = and_both (all_true vs (map proposition cs)) (true_at vs p) h k

-- the first values that meet a part may be taken for it
pub part_serves : (cs part : List Condition) (p : Proposition Atom) (marks : List Bool) (ss : List Span) (c : Config) → AreRanges (ranges ss) → IsPart marks cs part → IsTruthOf false marks p
    → FindsIn (ranges ss) (meets part (Const true)) (Some c) → Serves (meets cs p) ss (fixed marks c.values ss)
part_serves cs part p marks ss c r s t f = fixed_serves (meets part (Const true)) (meets cs p) marks ss c.values r (record {
  within = f.within;
  first = f.first;
  with_them = λ vs h m.
      let l = same_length ss c.values vs f.within h in
      meets_both cs p (mixed marks c.values vs) (s.whole c.values vs l (meets_left part (Const true) c.values f.met) (meets_left cs p vs m)) (t c.values vs l ∙ meets_right cs p vs m);
  alone = λ vs h m.
      let l = same_length ss vs c.values h f.within in
      meets_both part (Const true) (mixed marks vs c.values) (s.inner vs c.values l (s.kept vs (meets_left cs p vs m)) (meets_left part (Const true) c.values f.met)) refl;
})

-- where no values meet a part, none meet the whole
pub part_void : (cs part : List Condition) (p : Proposition Atom) (marks : List Bool) (ss : List Span) → IsPart marks cs part
    → FindsIn (ranges ss) (meets part (Const true)) None → FindsIn (ranges ss) (meets cs p) None
part_void cs part p marks ss s f = λ vs h.
    false_too (meets cs p vs) (meets part (Const true) vs) (λ m. meets_both part (Const true) vs (s.kept vs (meets_left cs p vs m)) refl) (f vs h)

-- ---- the calls

pub fit_part : (n : ℕ) (marks : List Bool) (cs part d : List Condition) → IsPart marks cs part → d ≡ part → AreFit n cs → AreFit n d
fit_part n marks cs part d s e h = subst (AreFit n) (sym e) (s.fit n h)

pub void_part : (cs part d : List Condition) (p : Proposition Atom) (marks : List Bool) (ss : List Span) → IsPart marks cs part → d ≡ part
    → FindsIn (ranges ss) (meets d (Const true)) None → FindsIn (ranges ss) (meets cs p) None
void_part cs part d p marks ss s e f = part_void cs part p marks ss s (subst (λ x. FindsIn (ranges ss) (meets x (Const true)) None) e f)

pub box_with : (cs part d : List Condition) (p : Proposition Atom) (marks : List Bool) (ss made : List Span) (c : Config) (values : List ℤ) → AreRanges (ranges ss) → IsPart marks cs part → IsTruthOf false marks p
    → d ≡ part → FindsIn (ranges ss) (meets d (Const true)) (Some c) → values ≡ c.values → made ≡ fixed marks values ss → Serves (meets cs p) ss made
box_with cs part d p marks ss made c values r s t e f g h =
    subst (Serves (meets cs p) ss) (sym (h ∙ ap (λ x. fixed marks x ss) g))
    (part_serves cs part p marks ss c r s t (subst (λ x. FindsIn (ranges ss) (meets x (Const true)) (Some c)) e f))

pub settled_part : (cs part d : List Condition) (marks : List Bool) (ss made : List Span) (c : Config) (values : List ℤ) → AreRanges (ranges ss) → IsPart marks cs part
    → d ≡ part → FindsIn (ranges ss) (meets d (Const true)) (Some c) → values ≡ c.values → made ≡ fixed marks values ss → Serves (meets cs (Const true)) ss made
settled_part cs part d marks ss made c values r s e f g h = box_with cs part d (Const true) marks ss made c values r s (λ vs ws l. refl) e f g h
