-- Intervals are what their bounds say, and what has their join below it has both below it.
use Rattle.std.proofs.Common.{◌≡◌, ℕ, ◌+◌, ℤ, true, false, if◌then◌else◌, List, [], ◌∷◌, ◌++◌, Option, Some, None, length, slice_set, slice_index_or, refl, ap, sym, subst, ◌∙◌, arith, append_assoc}
use Rattle.std.proofs.lemmas.Int.{ints, clamps}
use Rattle.leaf_domain.specs.declared.range.Range.{Range}
use Rattle.leaf_domain.specs.Leaves.{LeafValue}
use Rattle.leaf_domain.specs.Ranges.{is_empty_range, empty_range, cover_of}
use Rattle.lifted_analysis.specs.Lines.{set_from}
use Rattle.interval_leaf.specs.Intervals.{intervals, numbers_of, pairs_of, interval_of, IsInterval, IsOwn, AllOwn, covers, lies_in, all_lie_in, interval_leq, interval_join, interval_with}
use Rattle.interval_leaf.specs.Laws.RangeLists.{pairs_numbers}
use Rattle.certificate_laws.specs.Accepted.{IsSome, AreToldByBounds, AreBelowJoins}
use Rattle.certificate_laws.specs.ReadBack.{bounds_from}
use Rattle.certificate_laws.proofs.AcceptedLists.{both_true, parts_true}

abbrev at : ℕ → Option (List ℤ) → LeafValue
at n c = record { variables = n; content = c }

-- ---- joins

cover_below : (a b x : Range) → lies_in (cover_of a b) x ≡ true → (lies_in a x ≡ true) × (lies_in b x ≡ true)
cover_below a b x h = (first a b x h, second a b x h)
  where
    first : (a b x : Range) → lies_in (cover_of a b) x ≡ true → lies_in a x ≡ true
    first a b x h = grind (arith, ints, clamps)

    second : (a b x : Range) → lies_in (cover_of a b) x ≡ true → lies_in b x ≡ true
    second a b x h = grind (arith, ints, clamps)

covers_below : (us bs xs : List Range) → length us ≡ length bs → length us ≡ length xs → all_lie_in (covers us bs) xs ≡ true
    → (all_lie_in us xs ≡ true) × (all_lie_in bs xs ≡ true)
covers_below [] [] xs e f h = (refl, refl)
covers_below [] (b ∷ bs) xs e f h = absurd (omega arith)
covers_below (a ∷ us) [] xs e f h = absurd (omega arith)
covers_below (a ∷ us) (b ∷ bs) [] e f h = absurd (omega arith)
covers_below (a ∷ us) (b ∷ bs) (x ∷ xs) e f h =
    let parts = parts_true (lies_in (cover_of a b) x) (all_lie_in (covers us bs) xs) h in
    let here = cover_below a b x parts.0 in
    let more = covers_below us bs xs (omega arith) (omega arith) parts.1 in
    (both_true _ _ here.0 more.0, both_true _ _ here.1 more.1)

join_below : (n m k : ℕ) (c d e : Option (List ℤ)) → IsInterval (at n c) → IsInterval (at m d) → IsInterval (at k e) → n ≡ m → k ≡ n
    → interval_leq (interval_join (at n c) (at m d)) (at k e) ≡ true → (interval_leq (at n c) (at k e) ≡ true) × (interval_leq (at m d) (at k e) ≡ true)
join_below n m k None d e p q r s t h = (refl, h)
join_below n m k (Some us) None e p q r s t h = (h, refl)
join_below n m k (Some us) (Some bs) None p q r s t h = cc
join_below n m k (Some us) (Some bs) (Some xs) p q r s t h =
    covers_below (pairs_of us) (pairs_of bs) (pairs_of xs) (sym p.1.1 ∙ (s ∙ q.1.1)) (sym p.1.1 ∙ (sym t ∙ r.1.1))
    (sym (ap (λ rs. all_lie_in rs (pairs_of xs)) (pairs_numbers (covers (pairs_of us) (pairs_of bs)))) ∙ h)

pub interval_joins : AreBelowJoins intervals
interval_joins a b x alike ans h =
    join_below a.variables b.variables x.variables a.content b.content x.content alike.first alike.second ans.valid alike.same ans.same h

-- ---- bounds

own_some : (r : Range) → IsOwn r → is_empty_range r ≡ false
own_some r h = grind (arith, ints)

index_behind : (done : List Range) (r : Range) (rest : List Range) → slice_index_or (done ++ r ∷ rest) (length done) empty_range ≡ r
index_behind [] r rest = refl
index_behind (x ∷ done) r rest = index_behind done r rest

set_behind : (done : List Range) (q r : Range) (rest : List Range) → slice_set (done ++ q ∷ rest) (length done) r ≡ done ++ r ∷ rest
set_behind [] q r rest = refl
set_behind (x ∷ done) q r rest = ap (λ l. x ∷ l) (set_behind done q r rest)

length_more : (done : List Range) (r : Range) → length (done ++ r ∷ []) ≡ length done + 1
length_more [] r = refl
length_more (x ∷ done) r = omega (arith, length_more done r)

set_one : (done : List Range) (q r : Range) (rest : List Range) → IsOwn r → interval_with (interval_of (done ++ q ∷ rest)) (length done) r ≡ interval_of (done ++ r ∷ rest)
set_one done q r rest h =
    ap (λ b. if b then at (length (done ++ q ∷ rest)) None else interval_of (slice_set (pairs_of (numbers_of (done ++ q ∷ rest))) (length done) r)) (own_some r h)
    ∙ (ap (λ l. interval_of (slice_set l (length done) r)) (pairs_numbers (done ++ q ∷ rest)) ∙ ap interval_of (set_behind done q r rest))

-- the ranges from the done ones on are set one after another
set_all : (names : List (List ℕ)) (done old rest : List Range) → length old ≡ length names → length rest ≡ length names → AllOwn rest
    → set_from intervals (length done) (bounds_from intervals (interval_of (done ++ rest)) (length done) names) (interval_of (done ++ old)) ≡ interval_of (done ++ rest)
set_all [] done [] [] e f h = refl
set_all [] done (q ∷ old) rest e f h = absurd (omega arith)
set_all [] done [] (r ∷ rest) e f h = absurd (omega arith)
set_all (name ∷ names) done [] rest e f h = absurd (omega arith)
set_all (name ∷ names) done (q ∷ old) [] e f h = absurd (omega arith)
set_all (name ∷ names) done (q ∷ old) (r ∷ rest) e f h =
    let v = interval_of (done ++ r ∷ rest) in
    let first : intervals.bounds_of v (length done) ≡ r =
    ap (λ l. slice_index_or l (length done) empty_range) (pairs_numbers (done ++ r ∷ rest)) ∙ index_behind done r rest in
    let made : interval_with (interval_of (done ++ q ∷ old)) (length done) (intervals.bounds_of v (length done)) ≡ interval_of (done ++ r ∷ old) =
    ap (interval_with (interval_of (done ++ q ∷ old)) (length done)) first ∙ set_one done q r old h.0 in
    let rs : List Range = bounds_from intervals v (length done + 1) names in
    ap (set_from intervals (length done + 1) rs) made
    ∙ subst (λ (l : List Range). set_from intervals (length done + 1) (bounds_from intervals (interval_of l) (length done + 1) names) (interval_of (done ++ r ∷ old)) ≡ interval_of l)
    (append_assoc done (r ∷ []) rest)
    (subst (λ (l : List Range). set_from intervals (length done + 1) (bounds_from intervals (interval_of ((done ++ r ∷ []) ++ rest)) (length done + 1) names) (interval_of l) ≡ interval_of ((done ++ r ∷ []) ++ rest))
    (append_assoc done (r ∷ []) old)
    (subst (λ n. set_from intervals n (bounds_from intervals (interval_of ((done ++ r ∷ []) ++ rest)) n names) (interval_of ((done ++ r ∷ []) ++ old)) ≡ interval_of ((done ++ r ∷ []) ++ rest))
    (length_more done r) (set_all names (done ++ r ∷ []) old rest (omega arith) (omega arith) h.1)))

-- a leaf that is not Nothing is that of its ranges
of_ranges : (n : ℕ) (ns : List ℤ) → IsInterval (at n (Some ns)) → at n (Some ns) ≡ interval_of (pairs_of ns)
of_ranges n ns h = ap (λ m. at m (Some ns)) h.1.1 ∙ ap (λ l. at (length (pairs_of ns)) (Some l)) (sym h.1.0)

told_from : (names : List (List ℕ)) (n m : ℕ) (c e : Option (List ℤ)) → IsSome intervals names (at n c) → IsSome intervals names (at m e)
    → set_from intervals 0 (bounds_from intervals (at m e) 0 names) (at n c) ≡ at m e
told_from names n m None e h k = let never : true ≡ false = h.holds in cc
told_from names n m (Some ds) None h k = let never : true ≡ false = k.holds in cc
told_from names n m (Some ds) (Some ns) h k =
    let x = of_ranges n ds h.valid in
    let y = of_ranges m ns k.valid in
    ap (set_from intervals 0 (bounds_from intervals (at m (Some ns)) 0 names)) x
    ∙ (ap (λ w. set_from intervals 0 (bounds_from intervals w 0 names) (interval_of (pairs_of ds))) y
    ∙ (set_all names [] (pairs_of ds) (pairs_of ns) (sym h.valid.1.1 ∙ h.count) (sym k.valid.1.1 ∙ k.count) k.valid.1.2 ∙ sym y))

pub intervals_told : AreToldByBounds intervals
intervals_told names d v h k = told_from names d.variables v.variables d.content v.content h k
