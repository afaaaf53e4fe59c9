-- Declarators with the tests of a value give its variable that value.
use Rattle.std.proofs.Common.{◌≡◌, ℕ, zero, suc, ◌+◌, ◌<◌, ℤ, pos, ◌+ℤ◌, ◌*ℤ◌, ◌≤ℤ◌, ◌<ℤ◌, int_le, Bool, true, false, ◌&&◌, if◌then◌else◌, List, [], ◌∷◌, ◌++◌, map, length, take, get_or, slice_set, refl, ap, sym, subst, ◌∙◌, arith, append_assoc}
use Rattle.std.proofs.lemmas.Int.{ints}
use Rattle.std.proofs.lemmas.List.{append-nil, length-append, map-append}
use Rattle.std.proofs.Math.Seq.{take-append_seam, take-length, get_or-append_seam}
use Rattle.linear_atoms.specs.declared.atoms.Feature.{Feature}
use Rattle.linear_atoms.specs.declared.atoms.Atom.{Atom}
use Rattle.linear_atoms.specs.Atoms.{IsWithin, holds}
use Rattle.cpp_conditions.specs.Propositions.{Proposition, Test, true_at}
use Rattle.cpp_lines.specs.Sections.{truths_at}
use Rattle.c_tree.specs.declared.lists.Declared.{Declared}
use Rattle.c_tree.specs.Project.{guards_hold, projected, projected_start}
use Rattle.c_tree.specs.Tree.{Whole}
use Rattle.c_tree.proofs.Starts.{start_more}
use Rattle.feature_values.specs.declared.feature_uses.Use.{Use}
use Rattle.feature_values.specs.Declarators.{is_true, declarators_above, declarators, presets, preset}
use Rattle.feature_values.specs.Laws.{ValuesAreStarts}
use Rattle.feature_values.specs.Values.{low_at, width_at, value_test, tests_above, tests_of}
use Rattle.feature_values.proofs.Ranges.{IsBetween, within_at}

-- ---- declarators, one after another

-- a declarator's value is put in its place, where its guards hold
abbrev put : List Bool → Declared → List ℤ → List ℤ
put truths d start = if guards_hold truths d.guards then slice_set start d.target d.value else start

abbrev taken : List Bool → List Declared → List ℤ → List ℤ
taken truths [] start = start
taken truths (d ∷ ds) start = taken truths ds (put truths d start)

taken-append : (truths : List Bool) (ds es : List Declared) (start : List ℤ) → taken truths (ds ++ es) start ≡ taken truths es (taken truths ds start)
taken-append truths [] es start = refl
taken-append truths (d ∷ ds) es start = taken-append truths ds es (put truths d start)

one_behind : (ds : List Declared) (d : Declared) → length ds < length (ds ++ d ∷ [])
one_behind ds d = omega (arith, length-append ds (d ∷ []))

started_more : (truths : List Bool) (ds : List Declared) (d : Declared) (ns : List ℤ) → projected_start truths (ds ++ d ∷ []) ns ≡ put truths d (projected_start truths ds ns)
started_more truths ds d ns =
    let all : take (length ds + 1) (ds ++ d ∷ []) ≡ ds ++ d ∷ [] = ap (λ (n : ℕ). take n (ds ++ d ∷ [])) (sym (length-append ds (d ∷ []))) ∙ take-length (ds ++ d ∷ []) in
    let own : take (length ds) (ds ++ d ∷ []) ≡ ds = take-append_seam ds (d ∷ []) in
    ap (λ (l : List Declared). projected_start truths l ns) (sym all)
    ∙ start_more truths (ds ++ d ∷ []) (length ds) d ns (one_behind ds d) (sym (get_or-append_seam ds d [] d))
    ∙ ap (λ (l : List Declared). put truths d (projected_start truths l ns)) own

started : (truths : List Bool) (ds es : List Declared) (ns : List ℤ) → projected_start truths (ds ++ es) ns ≡ taken truths es (projected_start truths ds ns)
started truths ds [] ns = ap (λ (l : List Declared). projected_start truths l ns) (append-nil ds)
started truths ds (e ∷ es) ns =
    ap (λ (l : List Declared). projected_start truths l ns) (sym (append_assoc ds (e ∷ []) es))
    ∙ started truths (ds ++ e ∷ []) es ns ∙ ap (taken truths es) (started_more truths ds e ns)

-- ---- the tests of one value

-- from a number on, the truths of the tests that a value is at least each of so many numbers above this one
abbrev AreTruths : List Bool → ℕ → ℤ → ℤ → ℕ → Type 0
AreTruths truths first v low zero = Unit {0}
AreTruths truths first v low (suc count) = (get_or truths first false ≡ int_le (low +ℤ pos 1) v) × AreTruths truths (first + 1) v (low +ℤ pos 1) count

test_truth : (values : List ℤ) (n : ℕ) (k : ℤ) → true_at values (Test (value_test n k)) ≡ int_le k (get_or values n (pos 0))
test_truth values n k = ap (λ (z : ℤ). int_le k z) (once (get_or values n (pos 0)))
  where
    once : (v : ℤ) → (pos 1 *ℤ v) +ℤ pos 0 ≡ v
    once v = omega (arith, ints)

are_truths : (values : List ℤ) (n : ℕ) (front back : List (Proposition Atom)) (low : ℤ) (count first : ℕ) → first ≡ length front
    → AreTruths (truths_at values (front ++ (tests_above n low count ++ back))) first (get_or values n (pos 0)) low count
are_truths values n front back low zero first e = tt
are_truths values n front back low (suc count) first e =
    let split : truths_at values (front ++ Test (value_test n (low +ℤ pos 1)) ∷ (tests_above n (low +ℤ pos 1) count ++ back))
    ≡ truths_at values front ++ true_at values (Test (value_test n (low +ℤ pos 1))) ∷ truths_at values (tests_above n (low +ℤ pos 1) count ++ back) =
    map-append (λ (p : Proposition Atom). true_at values p) front (Test (value_test n (low +ℤ pos 1)) ∷ (tests_above n (low +ℤ pos 1) count ++ back)) in
    let count_is : first ≡ length (truths_at values front) = e ∙ sym (mapped front) in (
      ap (λ (bs : List Bool). get_or bs first false) split
          ∙ ap (λ (i : ℕ). get_or (truths_at values front ++ true_at values (Test (value_test n (low +ℤ pos 1))) ∷ truths_at values (tests_above n (low +ℤ pos 1) count ++ back)) i false) count_is
          ∙ get_or-append_seam (truths_at values front) (true_at values (Test (value_test n (low +ℤ pos 1)))) (truths_at values (tests_above n (low +ℤ pos 1) count ++ back)) false
          ∙ test_truth values n (low +ℤ pos 1),
      subst (λ (ps : List (Proposition Atom)). AreTruths (truths_at values ps) (first + 1) (get_or values n (pos 0)) (low +ℤ pos 1) count)
          (append_assoc front (Test (value_test n (low +ℤ pos 1)) ∷ []) (tests_above n (low +ℤ pos 1) count ++ back))
          (are_truths values n (front ++ Test (value_test n (low +ℤ pos 1)) ∷ []) back (low +ℤ pos 1) count (first + 1)
          (ap (λ (i : ℕ). i + 1) e ∙ sym (length-append front (Test (value_test n (low +ℤ pos 1)) ∷ [])))),
    )
  where
    mapped : (ps : List (Proposition Atom)) → length (truths_at values ps) ≡ length ps
    mapped [] = refl
    mapped (p ∷ ps) = ap suc (mapped ps)

-- ---- the declarators of one value

one_guard : (truths : List Bool) (first : ℕ) (b : Bool) → get_or truths first false ≡ b → guards_hold truths (is_true first ∷ []) ≡ b
one_guard truths first true e = ap (λ (u : Bool). u && true) e
one_guard truths first false e = ap (λ (u : Bool). u && true) e

put_by : (truths : List Bool) (first x : ℕ) (k : ℤ) (start : List ℤ) (b : Bool) → get_or truths first false ≡ b
    → put truths (record { target = x; value = k; guards = is_true first ∷ [] }) start ≡ (if b then slice_set start x k else start)
put_by truths first x k start b e = ap (λ (u : Bool). if u then slice_set start x k else start) (one_guard truths first b e)

above_by : (k v : ℤ) → int_le k v ≡ true → k ≤ℤ v
above_by k v e = grind (arith, ints)

below_by : (k v : ℤ) → int_le k v ≡ false → v <ℤ k
below_by k v e = grind (arith, ints)

fails_by : (k v : ℤ) → v <ℤ k → int_le k v ≡ false
fails_by k v e = grind (arith, ints)

-- a value at the low: no test above it is true
stays : (truths : List Bool) (first x : ℕ) (v low : ℤ) (count : ℕ) (start : List ℤ) → AreTruths truths first v low count → v ≤ℤ low → taken truths (declarators_above first x low count) start ≡ start
stays truths first x v low zero start t h = refl
stays truths first x v low (suc count) start t h =
    let no : int_le (low +ℤ pos 1) v ≡ false = fails_by (low +ℤ pos 1) v (omega (arith, ints)) in
    ap (taken truths (declarators_above (first + 1) x (low +ℤ pos 1) count)) (put_by truths first x (low +ℤ pos 1) start false (t.0 ∙ no))
    ∙ stays truths (first + 1) x v (low +ℤ pos 1) count start t.1 (omega (arith, ints))

set_twice : (xs : List ℤ) (n : ℕ) (a b : ℤ) → slice_set (slice_set xs n a) n b ≡ slice_set xs n b
set_twice [] n a b = refl
set_twice (x ∷ xs) zero a b = refl
set_twice (x ∷ xs) (suc n) a b = ap (λ (l : List ℤ). x ∷ l) (set_twice xs n a b)

moved_by : (truths : List Bool) (first x : ℕ) (v low : ℤ) (count : ℕ) (start : List ℤ) (b : Bool) → AreTruths truths first v low (suc count) → low ≤ℤ v → int_le (low +ℤ pos 1) v ≡ b
    → ((low +ℤ pos 1) ≤ℤ v → taken truths (declarators_above (first + 1) x (low +ℤ pos 1) count) (slice_set start x (low +ℤ pos 1)) ≡ slice_set start x v)
    → taken truths (declarators_above first x low (suc count)) (slice_set start x low) ≡ slice_set start x v
moved_by truths first x v low count start true t h e r =
    ap (taken truths (declarators_above (first + 1) x (low +ℤ pos 1) count))
    (put_by truths first x (low +ℤ pos 1) (slice_set start x low) true (t.0 ∙ e) ∙ set_twice start x low (low +ℤ pos 1))
    ∙ r (above_by (low +ℤ pos 1) v e)
moved_by truths first x v low count start false t h e r =
    let less : v <ℤ (low +ℤ pos 1) = below_by (low +ℤ pos 1) v e in
    let same : low ≡ v = omega (arith, ints) in
    ap (taken truths (declarators_above (first + 1) x (low +ℤ pos 1) count)) (put_by truths first x (low +ℤ pos 1) (slice_set start x low) false (t.0 ∙ e))
    ∙ stays truths (first + 1) x v (low +ℤ pos 1) count (slice_set start x low) t.1 (omega (arith, ints))
    ∙ ap (λ (z : ℤ). slice_set start x z) same

moves : (truths : List Bool) (first x : ℕ) (v low : ℤ) (count : ℕ) (start : List ℤ) → AreTruths truths first v low count → low ≤ℤ v → v ≤ℤ (low +ℤ pos count)
    → taken truths (declarators_above first x low count) (slice_set start x low) ≡ slice_set start x v
moves truths first x v low zero start t h k = let same : low ≡ v = omega (arith, ints) in ap (λ (z : ℤ). slice_set start x z) same
moves truths first x v low (suc count) start t h k =
    moved_by truths first x v low count start (int_le (low +ℤ pos 1) v) t h refl (λ m. moves truths (first + 1) x v (low +ℤ pos 1) count start t.1 m (omega (arith, ints)))

-- ---- all values

length-above : (n : ℕ) (low : ℤ) (count : ℕ) → length (tests_above n low count) ≡ count
length-above n low zero = refl
length-above n low (suc count) = ap suc (length-above n (low +ℤ pos 1) count)

values_taken : (features : List Feature) (values : List ℤ) (front : List (Proposition Atom)) (us : List Use) (first : ℕ) (start : List ℤ) → IsWithin features values → first ≡ length front
    → taken (truths_at values (front ++ tests_of features us)) (declarators first features us) start ≡ preset (presets us values) start
values_taken features values front [] first start w e = refl
values_taken features values front (u ∷ us) first start w e =
    let b : IsBetween (low_at features u.feature) (width_at features u.feature) (get_or values u.feature (pos 0)) = within_at features values u.feature w in
    taken-append (truths_at values (front ++ (tests_above u.feature (low_at features u.feature) (width_at features u.feature) ++ tests_of features us)))
    (declarators_above first u.name (low_at features u.feature) (width_at features u.feature)) (declarators (first + width_at features u.feature) features us) (slice_set start u.name (low_at features u.feature))
    ∙ ap (taken (truths_at values (front ++ (tests_above u.feature (low_at features u.feature) (width_at features u.feature) ++ tests_of features us))) (declarators (first + width_at features u.feature) features us))
    (moves (truths_at values (front ++ (tests_above u.feature (low_at features u.feature) (width_at features u.feature) ++ tests_of features us))) first u.name (get_or values u.feature (pos 0)) (low_at features u.feature) (width_at features u.feature) start
    (are_truths values u.feature front (tests_of features us) (low_at features u.feature) (width_at features u.feature) first e) b.above b.below)
    ∙ ap (λ (ps : List (Proposition Atom)). taken (truths_at values ps) (declarators (first + width_at features u.feature) features us) (slice_set start u.name (get_or values u.feature (pos 0))))
    (sym (append_assoc front (tests_above u.feature (low_at features u.feature) (width_at features u.feature)) (tests_of features us)))
    ∙ values_taken features values (front ++ tests_above u.feature (low_at features u.feature) (width_at features u.feature)) us (first + width_at features u.feature) (slice_set start u.name (get_or values u.feature (pos 0))) w
    (ap (λ (i : ℕ). i + width_at features u.feature) e
    ∙ ap (λ (i : ℕ). length front + i) (sym (length-above u.feature (low_at features u.feature) (width_at features u.feature)))
    ∙ sym (length-append front (tests_above u.feature (low_at features u.feature) (width_at features u.feature))))

abbrev beginning : List Bool → Whole → List ℤ → Whole
beginning truths p start = record { names = p.names; start = start; declared = []; body = projected truths p.body; end = p.end }

pub values_start : ValuesAreStarts
values_start features values conditions uses p w =
    ap (beginning (truths_at values (conditions ++ tests_of features uses)) p)
    (started (truths_at values (conditions ++ tests_of features uses)) p.declared (declarators (length conditions) features uses) p.start
    ∙ values_taken features values conditions uses (length conditions) (projected_start (truths_at values (conditions ++ tests_of features uses)) p.declared p.start) w refl)
