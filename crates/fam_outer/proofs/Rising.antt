-- Later bytes have later places.
use Rattle.std.proofs.Common.{◌≡◌, ℕ, ◌+◌, ◌-◌, ◌<◌, ◌≤◌, Bool, true, false, cond, List, [], ◌∷◌, ◌++◌, length, take, drop, refl, sym, ap, subst, ◌∙◌, arith, eq-eqb}
use Rattle.std.specs.Prelude.{◌||◌, ◌&&◌, IsTrue, nat_lt, nat_eq, count_by}
use Rattle.std.specs.List.{list_any}
use Rattle.std.proofs.Math.Seq.{take-add}
use Rattle.std.proofs.lemmas.Bool.{lt-ltb}
use Rattle.std.proofs.lemmas.List.{length-drop, length-take-le}
use Rattle.std.proofs.lemmas.List.Sums.{sum_by-cons}
use Rattle.fam_outer.specs.declared.faults.Place.{Place}
use Rattle.fam_outer.specs.Places.{is_newline, end_place, place_at, is_before}
use Rattle.fam_outer.proofs.Placing.{behind_bytes, count-append}

counted : (xs : List ℕ) → list_any is_newline xs ≡ true → 1 ≤ count_by is_newline xs
counted [] e = absurd cc
counted (b ∷ bs) e =
    let h : 1 ≤ cond (is_newline b) 1 0 + count_by is_newline bs = elim (is_newline b) as (λ v. (v || list_any is_newline bs) ≡ true → 1 ≤ cond v 1 0 + count_by is_newline bs) [ true ↦ λ h. omega arith | false ↦ λ h. (let k = counted bs h in omega arith) ] e in
    subst (λ (n : ℕ). 1 ≤ n) (sym (sum_by-cons (λ x. cond (is_newline x) 1 0) b bs)) h

or_right : (a b : Bool) → b ≡ true → (a || b) ≡ true
or_right true b h = refl
or_right false b h = h

higher : (p q : Place) → p.line < q.line → IsTrue (is_before p q)
higher p q lt = rw (lt-ltb p.line q.line lt) refl

in_line : (p q : Place) → p.line ≡ q.line → p.column < q.column → IsTrue (is_before p q)
in_line p q e lt = or_right (nat_lt p.line q.line) (nat_eq p.line q.line && nat_lt p.column q.column) (rw (eq-eqb p.line q.line e, lt-ltb p.column q.column lt) refl)

later : (front more : List ℕ) → 0 < length more → IsTrue (is_before (end_place front) (end_place (front ++ more)))
later front more lt = elim (list_any is_newline more) as (λ v. list_any is_newline more ≡ v → IsTrue (is_before (end_place front) (end_place (front ++ more)))) [
  | true ↦ λ e. higher (end_place front) (end_place (front ++ more)) (omega (arith, count-append front more, counted more e))
  | false ↦ λ e. in_line (end_place front) (end_place (front ++ more)) (ap (λ (p : Place). p.line) (behind_bytes front more e)) (let h = ap (λ (p : Place). p.column) (behind_bytes front more e) in omega arith)
] refl

pub rising : (text : List ℕ) (i j : ℕ) → i < j → j ≤ length text → IsTrue (is_before (place_at text i) (place_at text j))
rising text i j lt le =
    let k : i + (j - i) ≡ j = omega arith in
    subst (λ (xs : List ℕ). IsTrue (is_before (place_at text i) (end_place xs))) (sym (take-add i (j - i) text) ∙ ap (λ (n : ℕ). take n text) k)
    (later (take i text) (take (j - i) (drop i text)) (let n = length-take-le (j - i) (drop i text) (omega (arith, length-drop i text)) in omega arith))
