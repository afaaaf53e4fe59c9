-- A program with values stays well formed.
use Rattle.std.proofs.Common.{◌≡◌, ℕ, zero, suc, ◌+◌, ◌<◌, ◌≤◌, ℤ, pos, negsuc, ◌+ℤ◌, ◌≤ℤ◌, List, [], ◌∷◌, ◌++◌, length, refl, ap, subst, sym, ◌∙◌, arith}
use Rattle.std.specs.List.{All}
use Rattle.std.proofs.lemmas.Int.{ints}
use Rattle.std.proofs.lemmas.List.Elements.{All-nil, All-cons, All-head, All-tail, All-append}
use Rattle.linear_atoms.specs.declared.atoms.Feature.{Feature}
use Rattle.linear_atoms.specs.Atoms.{AreRanges}
use Rattle.c_tree.specs.declared.lists.Declared.{Declared}
use Rattle.c_tree.specs.declared.lists.Guard.{Guard}
use Rattle.c_tree.specs.Project.{IsNumbered, IsGuarded, IsConditioned}
use Rattle.c_tree.specs.Tree.{Code, Done, Assign, Input, Assert, If, While, Do, Leave, Block, Skip, Cond, Whole}
use Rattle.c_tree.specs.Whole.{IsDeclaredOf, IsProgram}
use Rattle.feature_values.specs.declared.feature_uses.Use.{Use}
use Rattle.feature_values.specs.Declarators.{is_true, declarators_above, declarators}
use Rattle.feature_values.specs.Laws.{ValuesKeepPrograms, ValuesAddConditions}
use Rattle.feature_values.specs.Values.{AreNamed, low_at, width_at, test_count}
use Rattle.feature_values.proofs.Ranges.{AreSmall, small_at}

-- ---- targets and values

declared_above : (n first x : ℕ) (low : ℤ) (count : ℕ) → x < n → AreSmall low count → All (IsDeclaredOf n) (declarators_above first x low count)
declared_above n first x low zero h s = All-nil (IsDeclaredOf n)
declared_above n first x low (suc count) h s =
    let l : (negsuc 1048575) ≤ℤ low = s.least in
    let g : (low +ℤ pos (suc count)) ≤ℤ pos 1048576 = s.greatest in
    All-cons (IsDeclaredOf n) (record { target = x; value = low +ℤ pos 1; guards = is_true first ∷ [] }) (declarators_above (first + 1) x (low +ℤ pos 1) count)
    (record { target = h; value = record { low = omega (arith, ints); high = omega (arith, ints) } })
    (declared_above n (first + 1) x (low +ℤ pos 1) count h (record { least = omega (arith, ints); greatest = omega (arith, ints) }))

lowest : (n x : ℕ) (low : ℤ) (count : ℕ) → x < n → AreSmall low count → IsDeclaredOf n (record { target = x; value = low; guards = [] })
lowest n x low count h s =
    let l : (negsuc 1048575) ≤ℤ low = s.least in
    let g : (low +ℤ pos count) ≤ℤ pos 1048576 = s.greatest in
    record { target = h; value = record { low = omega (arith, ints); high = omega (arith, ints) } }

all_declared : (n first : ℕ) (features : List Feature) (us : List Use) → AreRanges features → AreNamed n us → All (IsDeclaredOf n) (declarators first features us)
all_declared n first features [] r h = All-nil (IsDeclaredOf n)
all_declared n first features (u ∷ us) r h =
    let named : u.name < n = All-head (λ (x : Use). x.name < n) u us h in
    All-cons (IsDeclaredOf n) (record { target = u.name; value = low_at features u.feature; guards = [] })
    (declarators_above first u.name (low_at features u.feature) (width_at features u.feature) ++ declarators (first + width_at features u.feature) features us)
    (lowest n u.name (low_at features u.feature) (width_at features u.feature) named (small_at features u.feature r))
    (All-append (IsDeclaredOf n) (declarators_above first u.name (low_at features u.feature) (width_at features u.feature)) (declarators (first + width_at features u.feature) features us)
    (declared_above n first u.name (low_at features u.feature) (width_at features u.feature) named (small_at features u.feature r))
    (all_declared n (first + width_at features u.feature) features us r (All-tail (λ (x : Use). x.name < n) u us h)))

pub programs_kept : ValuesKeepPrograms
programs_kept first features uses p r h w = record {
  few = w.few;
  starts = w.starts;
  ints = w.ints;
  declared = All-append (IsDeclaredOf (length p.names)) p.declared (declarators first features uses) w.declared (all_declared (length p.names) first features uses r h);
  names = w.names;
  rising = w.rising;
  nested = w.nested;
  small = w.small;
}

-- ---- numbers of conditions

numbered_within : (m n : ℕ) (c : Code) → m ≤ n → IsNumbered m c → IsNumbered n c
numbered_within m n Done l h = tt
numbered_within m n (Assign place target value rest) l h = numbered_within m n rest l h
numbered_within m n (Input place target rest) l h = numbered_within m n rest l h
numbered_within m n (Assert place test rest) l h = numbered_within m n rest l h
numbered_within m n (If place test p q rest) l h = (numbered_within m n p l h.0, numbered_within m n q l h.1, numbered_within m n rest l h.2)
numbered_within m n (While place test step body rest) l h = (numbered_within m n step l h.0, numbered_within m n body l h.1, numbered_within m n rest l h.2)
numbered_within m n (Do place body at test rest) l h = (numbered_within m n body l h.0, numbered_within m n rest l h.1)
numbered_within m n (Leave place jump rest) l h = numbered_within m n rest l h
numbered_within m n (Block place body rest) l h = (numbered_within m n body l h.0, numbered_within m n rest l h.1)
numbered_within m n (Skip place rest) l h = numbered_within m n rest l h
numbered_within m n (Cond number p q rest) l h = (number_within number h.0, numbered_within m n p l h.1, numbered_within m n q l h.2, numbered_within m n rest l h.3)
  where
    number_within : (k : ℕ) → k < m → k < n
    number_within k h = omega arith

guards_within : (m n : ℕ) (gs : List Guard) → m ≤ n → All (λ (g : Guard). g.number < m) gs → All (λ (g : Guard). g.number < n) gs
guards_within m n [] l h = All-nil (λ (g : Guard). g.number < n)
guards_within m n (g ∷ gs) l h =
    let k : g.number < m = All-head (λ (x : Guard). x.number < m) g gs h in
    All-cons (λ (x : Guard). x.number < n) g gs (omega arith) (guards_within m n gs l (All-tail (λ (x : Guard). x.number < m) g gs h))

guarded_within : (m n : ℕ) (ds : List Declared) → m ≤ n → All (IsGuarded m) ds → All (IsGuarded n) ds
guarded_within m n [] l h = All-nil (IsGuarded n)
guarded_within m n (d ∷ ds) l h = All-cons (IsGuarded n) d ds (guards_within m n d.guards l (All-head (IsGuarded m) d ds h)) (guarded_within m n ds l (All-tail (IsGuarded m) d ds h))

guarded_above : (n first x : ℕ) (low : ℤ) (count : ℕ) → first + count ≤ n → All (IsGuarded n) (declarators_above first x low count)
guarded_above n first x low zero l = All-nil (IsGuarded n)
guarded_above n first x low (suc count) l =
    All-cons (IsGuarded n) (record { target = x; value = low +ℤ pos 1; guards = is_true first ∷ [] }) (declarators_above (first + 1) x (low +ℤ pos 1) count)
    (All-cons (λ (g : Guard). g.number < n) (is_true first) [] (omega arith) (All-nil (λ (g : Guard). g.number < n)))
    (guarded_above n (first + 1) x (low +ℤ pos 1) count (omega arith))

all_guarded : (n first : ℕ) (features : List Feature) (us : List Use) → first + test_count features us ≤ n → All (IsGuarded n) (declarators first features us)
all_guarded n first features [] l = All-nil (IsGuarded n)
all_guarded n first features (u ∷ us) l =
    All-cons (IsGuarded n) (record { target = u.name; value = low_at features u.feature; guards = [] })
    (declarators_above first u.name (low_at features u.feature) (width_at features u.feature) ++ declarators (first + width_at features u.feature) features us)
    (All-nil (λ (g : Guard). g.number < n))
    (All-append (IsGuarded n) (declarators_above first u.name (low_at features u.feature) (width_at features u.feature)) (declarators (first + width_at features u.feature) features us)
    (guarded_above n first u.name (low_at features u.feature) (width_at features u.feature) (omega arith))
    (all_guarded n (first + width_at features u.feature) features us (omega arith)))

pub conditions_added : ValuesAddConditions
conditions_added first features uses p h = record {
  body = numbered_within first (first + test_count features uses) p.body (omega arith) h.body;
  declared = All-append (IsGuarded (first + test_count features uses)) p.declared (declarators first features uses)
      (guarded_within first (first + test_count features uses) p.declared (omega arith) h.declared)
      (all_guarded (first + test_count features uses) first features uses (omega arith));
}
