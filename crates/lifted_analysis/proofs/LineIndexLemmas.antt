-- The positions of the lines at a place.
use Rattle.std.proofs.Common.{◌≡◌, ℕ, zero, suc, arith, ◌+◌, ◌<◌, List, [], ◌∷◌, ◌++◌, length, take, get_or, Bool, true, false, cond, if◌then◌else◌, Option, Some, None, refl, ap, sym, subst, ◌∙◌}
use Rattle.std.specs.List.{AllByRecursion}
use Rattle.std.specs.Map.{lookup}
use Rattle.std.specs.Option.{option_map_or, unwrap_or}
use Rattle.std.specs.Global.{Vec}
use Rattle.fam_outer.specs.declared.faults.Place.{Place}
use Rattle.lifted_analysis.specs.declared.lines.LoopLine.{LoopLine}
use Rattle.lifted_analysis.specs.LineIndex.{positions_from, positions_in}
use Rattle.plain_analysis.specs.Places.{is_same_place}
use Rattle.plain_analysis.proofs.FinalsLemmas.{same_numbers}

-- ---- positions are added

-- one line more behind a list
line_behind : (b c : Bool) (k p : ℕ) (xs ys : List ℕ) → xs ≡ (if c then ys ++ p ∷ [] else ys)
    → (if b then k ∷ xs else xs) ≡ (if c then (if b then k ∷ ys else ys) ++ p ∷ [] else (if b then k ∷ ys else ys))
line_behind true true k p xs ys e = ap (λ zs. k ∷ zs) e
line_behind true false k p xs ys e = ap (λ zs. k ∷ zs) e
line_behind false true k p xs ys e = e
line_behind false false k p xs ys e = e

positions_next : (ls : List LoopLine) (k i p : ℕ) (l : LoopLine) (q : Place) → i < length ls → l ≡ get_or ls i l → p ≡ k + i
    → positions_from k (take (suc i) ls) q ≡ (if is_same_place l.place q then positions_from k (take i ls) q ++ p ∷ [] else positions_from k (take i ls) q)
positions_next [] k i p l q h e n = absurd (omega arith)
positions_next (x ∷ ls) k zero p l q h e n =
    let here : p ≡ k = omega arith in
    ap (λ (y : LoopLine). if is_same_place y.place q then k ∷ [] else []) (sym e) ∙ ap (λ m. if is_same_place l.place q then m ∷ [] else []) (sym here)
positions_next (x ∷ ls) k (suc i) p l q h e n =
    line_behind (is_same_place x.place q) (is_same_place l.place q) k p (positions_from (k + 1) (take (suc i) ls) q) (positions_from (k + 1) (take i ls) q)
    (positions_next ls (k + 1) i p l q (omega arith) e (omega arith))

-- the positions of one line more
pub positions_more : (ls : List LoopLine) (i : ℕ) (l : LoopLine) (q : Place) → i < length ls → l ≡ get_or ls i l
    → positions_from 0 (take (i + 1) ls) q ≡ (if is_same_place l.place q then positions_from 0 (take i ls) q ++ i ∷ [] else positions_from 0 (take i ls) q)
positions_more ls i l q h e =
    let more : i + 1 ≡ suc i = omega arith in
    let here : i ≡ 0 + i = omega arith in
    ap (λ n. positions_from 0 (take n ls) q) more ∙ positions_next ls 0 i i l q h e here

abbrev listed : Option (Vec ℕ) → List ℕ
listed o = option_map_or (λ (ks : Vec ℕ). ks.items) o []

unwrapped : (o : Option (Vec ℕ)) (d : Vec ℕ) → d.items ≡ [] → (unwrap_or o d).items ≡ listed o
unwrapped None d e = e
unwrapped (Some ks) d e = refl

put_back : (b : Bool) (p : ℕ) (x y z : Option (Vec ℕ)) (now : Vec ℕ) → x ≡ cond b (Some now) y → y ≡ cond b None z → (b ≡ true → now.items ≡ listed z ++ p ∷ [])
    → listed x ≡ (if b then listed z ++ p ∷ [] else listed z)
put_back true p x y z now e f h = ap listed e ∙ h refl
put_back false p x y z now e f h = ap listed (e ∙ f)

-- the positions at a place are taken out, and put back with one more
pub position_added : (old mid new : List (Place × Vec ℕ)) (place q : Place) (p : ℕ) (before now none : Vec ℕ) → none.items ≡ [] → before ≡ unwrap_or (lookup (is_same_place place) old) none
    → now.items ≡ before.items ++ p ∷ []
    → lookup (is_same_place q) mid ≡ cond (is_same_place place q) None (lookup (is_same_place q) old)
    → lookup (is_same_place q) new ≡ cond (is_same_place place q) (Some now) (lookup (is_same_place q) mid)
    → positions_in new q ≡ (if is_same_place place q then positions_in old q ++ p ∷ [] else positions_in old q)
position_added old mid new place q p before now none empty taken push removed put =
    put_back (is_same_place place q) p (lookup (is_same_place q) new) (lookup (is_same_place q) mid) (lookup (is_same_place q) old) now put removed
    (λ b. push ∙ (ap (λ (ks : Vec ℕ). ks.items ++ p ∷ []) taken ∙ (ap (λ ks. ks ++ p ∷ []) (unwrapped (lookup (is_same_place place) old) none empty) ∙ ap (λ at. positions_in old at ++ p ∷ []) (same_numbers place q b))))

-- ---- positions are within the lines

each_behind : (P : ℕ → Type 0) (b : Bool) (k : ℕ) (ks : List ℕ) → P k → AllByRecursion P ks → AllByRecursion P (if b then k ∷ ks else ks)
each_behind P true k ks here rest = (here, rest)
each_behind P false k ks here rest = rest

positions_within : (ls : List LoopLine) (k n : ℕ) (q : Place) → n ≡ k + length ls → AllByRecursion (λ p. p < n) (positions_from k ls q)
positions_within [] k n q e = tt
positions_within (l ∷ ls) k n q e =
    each_behind (λ p. p < n) (is_same_place l.place q) k (positions_from (k + 1) ls q) (omega arith) (positions_within ls (k + 1) n q (omega arith))

each_at : (P : ℕ → Type 0) (ks : List ℕ) (i : ℕ) → i < length ks → AllByRecursion P ks → P (get_or ks i 0)
each_at P [] i l h = absurd (omega arith)
each_at P (k ∷ ks) zero l h = h.0
each_at P (k ∷ ks) (suc i) l h = each_at P ks i (omega arith) h.1

-- a position of a line at a place is that of a line
pub position_within : (lines : List LoopLine) (ks : List ℕ) (q : Place) (i : ℕ) → ks ≡ positions_from 0 lines q → i < length ks → get_or ks i 0 < length lines
position_within lines ks q i e l =
    let all : length lines ≡ 0 + length lines = omega arith in
    each_at (λ n. n < length lines) ks i l (subst (AllByRecursion (λ n. n < length lines)) (sym e) (positions_within lines 0 (length lines) q all))
