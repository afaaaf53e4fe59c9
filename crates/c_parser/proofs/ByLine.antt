-- Items line by line.
use Rattle.std.proofs.Common.{◌≡◌, ◌⊎◌, inl, inr, ℕ, zero, suc, ◌+◌, ◌≤◌, ◌<◌, nat_eq, nat_lt, Bool, true, false, ◌||◌, ◌&&◌, cond, List, [], ◌∷◌, ◌++◌, take, drop, refl, sym, ap, subst, ◌∙◌, append_assoc, arith}
use Rattle.std.specs.Prelude.{IsTrue}
use Rattle.std.specs.List.{filter, prefix_len}
use Rattle.std.proofs.lemmas.Bool.Decides.{nat_tests}
use Rattle.fam_outer.specs.declared.faults.Place.{Place}
use Rattle.fam_outer.specs.Places.{is_before}
use Rattle.c_grammar.specs.declared.items.Item.{Item}
use Rattle.c_grammar.specs.Facts.{AreRising, IsBeforeItems}
use Rattle.cpp_lines.specs.declared.line.Line.{Line}
use Rattle.cpp_lines.specs.Lines.{AreCounted}
use Rattle.c_parser.specs.FamilyItems.{stands_in, stands_above, group_sign, or_directive, items_of_line, by_line}

-- what stands behind a place stands in its line or below
lower : (m n : ℕ) → nat_lt m n ≡ true → m ≤ n
lower m n e = grind (arith, nat_tests)

level : (m n : ℕ) → nat_eq m n ≡ true → m ≤ n
level m n e = grind (arith, nat_tests)

one_of : (a b c : Bool) → IsTrue (a || (b && c)) → (a ≡ true) ⊎ (b ≡ true)
one_of true b c h = inl refl
one_of false true c h = inr refl
one_of false false c h = absurd cc

not_above : (p q : Place) → IsTrue (is_before p q) → p.line ≤ q.line
not_above p q h = elim (one_of (nat_lt p.line q.line) (nat_eq p.line q.line) (nat_lt p.column q.column) h) [ inl e ↦ lower p.line q.line e | inr e ↦ level p.line q.line e ]

-- all stand in this line or below
abbrev pub AreFrom : ℕ → List Item → Type 0
AreFrom n [] = Unit {0}
AreFrom n (x ∷ xs) = (n ≤ x.place.line) × AreFrom n xs

all_from : (n : ℕ) (p : Place) (xs : List Item) → n ≤ p.line → IsBeforeItems p xs → AreFrom n xs
all_from n p [] le h = tt
all_from n p (x ∷ xs) le h = (omega (arith, not_above p x.place h.0), all_from n p xs le h.1)

not_in : (n m : ℕ) → n < m → nat_eq m n ≡ false
not_in n m h = grind (arith, nat_tests)

not_there : (n m : ℕ) → m < n → nat_eq m n ≡ false
not_there n m h = grind (arith, nat_tests)

under : (m n : ℕ) → nat_lt m n ≡ true → m < n
under m n e = grind (arith, nat_tests)

not_under : (m n : ℕ) → nat_lt m n ≡ false → n ≤ m
not_under m n e = grind (arith, nat_tests)

beyond : (m n : ℕ) → nat_eq m n ≡ false → n ≤ m → n + 1 ≤ m
beyond m n e h = grind (arith, nat_tests)

pub none_in : (n m : ℕ) (xs : List Item) → n < m → AreFrom m xs → filter (stands_in n) xs ≡ []
none_in n m [] lt h = refl
none_in n m (x ∷ xs) lt h = rw (not_in n x.place.line (omega (arith, h.0))) (none_in n m xs lt h.1)

-- ---- the items of a line stand together

abbrev above : ℕ → List Item → ℕ
above n xs = prefix_len (stands_above n) xs

abbrev inside : ℕ → List Item → ℕ
inside n xs = prefix_len (stands_in n) xs

pub rising_behind : (k : ℕ) (xs : List Item) → AreRising xs → AreRising (drop k xs)
rising_behind zero xs h = h
rising_behind (suc k) [] h = tt
rising_behind (suc k) (x ∷ xs) h = rising_behind k xs h.1

one_more : (k : ℕ) → 1 + k ≡ suc k
one_more k = omega arith

-- what stands above a line is no matter for it and those below
pub below_same : (n m : ℕ) (xs : List Item) → n ≤ m → filter (stands_in m) xs ≡ filter (stands_in m) (drop (above n xs) xs)
below_same n m [] le = refl
below_same n m (x ∷ xs) le = elim (nat_lt x.place.line n) as (λ t. nat_lt x.place.line n ≡ t → filter (stands_in m) (x ∷ xs) ≡ filter (stands_in m) (drop (cond t (1 + above n xs) 0) (x ∷ xs))) [
  | true ↦ λ e. rw (one_more (above n xs)) (rw (not_there m x.place.line (let z : x.place.line < n = under x.place.line n e in omega arith)) (below_same n m xs le))
  | false ↦ λ e. refl
] refl

pub below_from : (n : ℕ) (xs : List Item) → AreRising xs → AreFrom n (drop (above n xs) xs)
below_from n [] h = tt
below_from n (x ∷ xs) h = elim (nat_lt x.place.line n) as (λ t. nat_lt x.place.line n ≡ t → AreFrom n (drop (cond t (1 + above n xs) 0) (x ∷ xs))) [
  | true ↦ λ e. rw (one_more (above n xs)) (below_from n xs h.1)
  | false ↦ λ e. (let z : n ≤ x.place.line = not_under x.place.line n e in (z, all_from n x.place xs z h.0))
] refl

-- those of the line come first
pub here_first : (n : ℕ) (xs : List Item) → AreFrom n xs → AreRising xs → filter (stands_in n) xs ≡ take (inside n xs) xs
here_first n [] h r = refl
here_first n (x ∷ xs) h r = elim (nat_eq x.place.line n) as (λ t. nat_eq x.place.line n ≡ t → cond t (x ∷ filter (stands_in n) xs) (filter (stands_in n) xs) ≡ take (cond t (1 + inside n xs) 0) (x ∷ xs)) [
  | true ↦ λ e. rw (one_more (inside n xs)) (ap (λ (ys : List Item). x ∷ ys) (here_first n xs h.1 r.1))
  | false ↦ λ e. (let z : n + 1 ≤ x.place.line = beyond x.place.line n e h.0 in none_in n (n + 1) xs (omega arith) (all_from (n + 1) x.place xs z r.0))
] refl

-- and are no matter for the lines below
pub behind_same : (n m : ℕ) (xs : List Item) → n < m → filter (stands_in m) xs ≡ filter (stands_in m) (drop (inside n xs) xs)
behind_same n m [] lt = refl
behind_same n m (x ∷ xs) lt = elim (nat_eq x.place.line n) as (λ t. nat_eq x.place.line n ≡ t → filter (stands_in m) (x ∷ xs) ≡ filter (stands_in m) (drop (cond t (1 + inside n xs) 0) (x ∷ xs))) [
  | true ↦ λ e. rw (one_more (inside n xs)) (rw (not_there m x.place.line (let z : x.place.line ≤ n = level x.place.line n e in omega arith)) (behind_same n m xs lt))
  | false ↦ λ e. refl
] refl

-- ---- the other lines

abbrev pub AreSameFrom : ℕ → List Item → List Item → Type 0
AreSameFrom n xs ys = (m : ℕ) → n ≤ m → filter (stands_in m) xs ≡ filter (stands_in m) ys

pub lines_same : (n : ℕ) (ls : List Line) (xs ys : List Item) → AreCounted n ls → AreSameFrom n xs ys → by_line ls xs ≡ by_line ls ys
lines_same n [] xs ys c s = refl
lines_same n (l ∷ ls) xs ys c s =
    ap (λ (zs : List Item). or_directive (group_sign l.kind) l.place zs ++ by_line ls xs) (s l.place.line (omega (arith, c.0)))
    ∙ ap (λ (zs : List Item). items_of_line l ys ++ zs) (lines_same (n + 1) ls xs ys c.1 (λ m le. s m (omega arith)))

-- one line: what is added, and what is left
pub one_line : (n : ℕ) (l : Line) (ls : List Line) (xs below here behind out new total : List Item) → AreCounted n (l ∷ ls) → AreRising xs → below ≡ drop (above l.place.line xs) xs → here ≡ take (inside l.place.line below) below
    → behind ≡ drop (inside l.place.line below) below → new ≡ out ++ or_directive (group_sign l.kind) l.place here → out ++ by_line (l ∷ ls) xs ≡ total → (new ++ by_line ls behind ≡ total) × AreRising behind
one_line n l ls xs below here behind out new total c r eb eh ed en h =
    let k = l.place.line in
    let rb : AreRising below = subst AreRising (sym eb) (rising_behind (above l.place.line xs) xs r) in
    let fb : AreFrom l.place.line below = subst (AreFrom l.place.line) (sym eb) (below_from l.place.line xs r) in
    let same : filter (stands_in l.place.line) xs ≡ here =
    below_same k k xs (omega arith) ∙ ap (λ (ys : List Item). filter (stands_in l.place.line) ys) (sym eb) ∙ here_first k below fb rb ∙ sym eh in
    let rest : by_line ls xs ≡ by_line ls behind =
    lines_same (n + 1) ls xs behind c.1 (λ m le. below_same k m xs (omega (arith, c.0)) ∙ ap (λ (ys : List Item). filter (stands_in m) ys) (sym eb)
    ∙ behind_same k m below (omega (arith, c.0)) ∙ ap (λ (ys : List Item). filter (stands_in m) ys) (sym ed)) in (
      ap (λ (ys : List Item). ys ++ by_line ls behind) en ∙ append_assoc out (or_directive (group_sign l.kind) l.place here) (by_line ls behind)
          ∙ ap (λ (ys : List Item). out ++ (or_directive (group_sign l.kind) l.place here ++ ys)) (sym rest)
          ∙ ap (λ (ys : List Item). out ++ (or_directive (group_sign l.kind) l.place ys ++ by_line ls xs)) (sym same) ∙ h,
      subst AreRising (sym ed) (rising_behind (inside l.place.line below) below rb),
    )
