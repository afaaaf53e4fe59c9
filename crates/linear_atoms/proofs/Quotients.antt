-- Terms divided by a number are below what they were below, and no larger.
use Rattle.std.proofs.Common.{◌≡◌, ℕ, suc, ◌/◌, ◌≤◌, ℤ, pos, negsuc, int_div, unsigned_abs, Bool, true, ◌&&◌, List, [], ◌∷◌, ap, refl, ◌∙◌, arith}
use Rattle.std.proofs.lemmas.Bool.Decides.{nat_tests}
use Rattle.std.proofs.Math.Nat.{div-le_self}
use Rattle.linear_atoms.specs.Atoms.{AreBelow}
use Rattle.linear_atoms.specs.Forms.{is_small, are_small}
use Rattle.linear_atoms.specs.Normal.{divided}
use Rattle.linear_atoms.proofs.Truths.{and_left, and_right, size_of_neg, size_small}

pub divided_below : (d : ℤ) (count : ℕ) (ts : List (ℕ × ℤ)) → AreBelow count ts → AreBelow count (divided d ts)
divided_below d count [] b = tt
divided_below d count (t ∷ ts) b = (b.0, divided_below d count ts b.1)

divided_size : (a d : ℤ) → unsigned_abs (int_div a d) ≤ unsigned_abs a
divided_size (pos a) (pos b) = div-le_self a b
divided_size (pos a) (negsuc b) = rw (size_of_neg (a / suc b)) (div-le_self a (suc b))
divided_size (negsuc a) (pos b) = rw (size_of_neg (suc a / b)) (div-le_self (suc a) b)
divided_size (negsuc a) (negsuc b) = div-le_self (suc a) (suc b)

small_number : (n : ℤ) → unsigned_abs n ≤ 2147483648 → is_small n ≡ true
small_number n h = grind (arith, nat_tests)

divided_number : (a d : ℤ) → is_small a ≡ true → is_small (int_div a d) ≡ true
divided_number a d e = let h = divided_size a d in let k = size_small a e in small_number (int_div a d) (omega arith)

both_true : (a b : Bool) → a ≡ true → b ≡ true → (a && b) ≡ true
both_true a b e f = ap (λ x. x && b) e ∙ f

pub divided_small : (d : ℤ) (ts : List (ℕ × ℤ)) → are_small ts ≡ true → are_small (divided d ts) ≡ true
divided_small d [] e = refl
divided_small d (t ∷ ts) e =
    both_true (is_small (int_div t.1 d)) (are_small (divided d ts)) (divided_number t.1 d (and_left (is_small t.1) (are_small ts) e)) (divided_small d ts (and_right (is_small t.1) (are_small ts) e))
