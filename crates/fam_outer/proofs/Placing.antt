-- Places behind a byte and behind bytes of one line.
use Rattle.std.proofs.Common.{◌≡◌, ℕ, ◌+◌, Bool, true, false, cond, List, [], ◌∷◌, ◌++◌, length, refl, sym, ap, subst, ◌∙◌, arith}
use Rattle.std.specs.Prelude.{◌||◌, count_by}
use Rattle.std.specs.List.{list_any}
use Rattle.std.proofs.lemmas.Bool.{or_from, or_parts, or_right, ne_eqb}
use Rattle.std.proofs.lemmas.List.{length-append}
use Rattle.std.proofs.lemmas.List.Sums.{sum_by-append}
use Rattle.std.proofs.lemmas.List.Folds.{list_any-append}
use Rattle.fam_outer.specs.declared.faults.Place.{Place}
use Rattle.fam_outer.specs.Places.{is_newline, last_line, end_place}

pub count-append : (xs ys : List ℕ) → count_by is_newline (xs ++ ys) ≡ count_by is_newline xs + count_by is_newline ys
count-append xs ys = sum_by-append (λ x. cond (is_newline x) 1 0) xs ys

pub none_counted : (xs : List ℕ) → list_any is_newline xs ≡ false → count_by is_newline xs ≡ 0
none_counted [] e = refl
none_counted (b ∷ bs) e =
    let p = or_parts (is_newline b) (list_any is_newline bs) e in
    let h : count_by is_newline bs ≡ 0 = none_counted bs p.1 in
    rw p.0 (omega arith)

last-whole : (xs : List ℕ) → list_any is_newline xs ≡ false → last_line xs ≡ xs
last-whole [] e = refl
last-whole (b ∷ bs) e = rw e refl

or-false : (b : Bool) → (b || false) ≡ b
or-false true = refl
or-false false = refl

any-append : (bs ys : List ℕ) → list_any is_newline ys ≡ false → list_any is_newline (bs ++ ys) ≡ list_any is_newline bs
any-append bs ys e = list_any-append is_newline bs ys ∙ (ap (λ (v : Bool). list_any is_newline bs || v) e ∙ or-false (list_any is_newline bs))

-- bytes without a newline stand in the line before them
pub last-append : (xs ys : List ℕ) → list_any is_newline ys ≡ false → last_line (xs ++ ys) ≡ last_line xs ++ ys
last-append [] ys e = last-whole ys e
last-append (b ∷ bs) ys e = rw (any-append bs ys e) (elim (is_newline b || list_any is_newline bs) as (λ v. cond v (last_line (bs ++ ys)) (b ∷ (bs ++ ys)) ≡ cond v (last_line bs) (b ∷ bs) ++ ys) [ true ↦ last-append bs ys e | false ↦ refl ])

pub any-newline : (bs ys : List ℕ) → list_any is_newline (bs ++ 10 ∷ ys) ≡ true
any-newline [] ys = refl
any-newline (b ∷ bs) ys = or_right (is_newline b) (list_any is_newline (bs ++ 10 ∷ ys)) (any-newline bs ys)

pub last-newline : (xs ys : List ℕ) → last_line (xs ++ 10 ∷ ys) ≡ last_line ys
last-newline [] ys = refl
last-newline (b ∷ bs) ys = rw (or_right (is_newline b) (list_any is_newline (bs ++ 10 ∷ ys)) (any-newline bs ys)) (last-newline bs ys)

abbrev pub spot : ℕ → ℕ → Place
spot line column = record { line = line; column = column }

pub one_spot : (l m c d : ℕ) → l ≡ m → c ≡ d → spot l c ≡ spot m d
one_spot l m c d e f = rw (e, f) refl

pub behind_newline : (front : List ℕ) (b : ℕ) → b ≡ 10 → spot ((end_place front).line + 1) 1 ≡ end_place (front ++ b ∷ [])
behind_newline front b e =
    subst (λ (i : ℕ). spot ((end_place front).line + 1) 1 ≡ end_place (front ++ i ∷ [])) (sym e)
    (one_spot ((end_place front).line + 1) (count_by is_newline (front ++ 10 ∷ []) + 1) 1 (length (last_line (front ++ 10 ∷ [])) + 1)
    (omega (arith, count-append front (10 ∷ [])))
    (rw (last-newline front []) refl))

-- the bytes of one line behind a front
pub behind_bytes : (front bytes : List ℕ) → list_any is_newline bytes ≡ false → spot (end_place front).line ((end_place front).column + length bytes) ≡ end_place (front ++ bytes)
behind_bytes front bytes e =
    one_spot (end_place front).line (count_by is_newline (front ++ bytes) + 1) ((end_place front).column + length bytes) (length (last_line (front ++ bytes)) + 1)
    (omega (arith, count-append front bytes, none_counted bytes e))
    (rw (last-append front bytes e) (omega (arith, length-append (last_line front) bytes)))

pub behind_byte : (front : List ℕ) (b : ℕ) → (b ≡ 10 → ⊥) → spot (end_place front).line ((end_place front).column + 1) ≡ end_place (front ++ b ∷ [])
behind_byte front b e = behind_bytes front (b ∷ []) (or_from (is_newline b) false (ne_eqb b 10 e) refl)
