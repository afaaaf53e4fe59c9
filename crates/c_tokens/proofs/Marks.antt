-- The longest mark at the front.
use Rattle.std.proofs.Common.{◌≡◌, ℕ, zero, suc, ◌<◌, ◌≤◌, true, false, List, [], ◌∷◌, length, take, get_or, refl, arith}
use Rattle.c_tokens.specs.Lexemes.{IsLongest, is_mark, is_single, is_pair}

long : (b c : ℕ) (bs : List ℕ) (m : ℕ) → 2 < m → m ≤ length (b ∷ c ∷ bs) → is_mark (take m (b ∷ c ∷ bs)) ≡ false
long b c bs zero lt le = absurd (omega arith)
long b c bs (suc zero) lt le = absurd (omega arith)
long b c bs (suc (suc zero)) lt le = absurd (omega arith)
long b c [] (suc (suc (suc m))) lt le = absurd (omega arith)
long b c (d ∷ bs) (suc (suc (suc m))) lt le = refl

longer : (b c : ℕ) (bs : List ℕ) (m : ℕ) → is_pair b c ≡ false → 1 < m → m ≤ length (b ∷ c ∷ bs) → is_mark (take m (b ∷ c ∷ bs)) ≡ false
longer b c bs zero p lt le = absurd (omega arith)
longer b c bs (suc zero) p lt le = absurd (omega arith)
longer b c bs (suc (suc zero)) p lt le = p
longer b c bs (suc (suc (suc m))) p lt le = long b c bs (suc (suc (suc m))) (omega arith) le

any_long : (b c : ℕ) (bs : List ℕ) (m : ℕ) → is_pair b c ≡ false → is_single b ≡ false → 0 < m → m ≤ length (b ∷ c ∷ bs) → is_mark (take m (b ∷ c ∷ bs)) ≡ false
any_long b c bs zero p s lt le = absurd (omega arith)
any_long b c bs (suc zero) p s lt le = s
any_long b c bs (suc (suc m)) p s lt le = longer b c bs (suc (suc m)) p (omega arith) le

pub pair_at : (bytes : List ℕ) → 2 ≤ length bytes → is_pair (get_or bytes 0 0) (get_or bytes 1 0) ≡ true → IsLongest is_mark 2 bytes
pair_at [] two p = absurd (omega arith)
pair_at (b ∷ []) two p = absurd (omega arith)
pair_at (b ∷ c ∷ bs) two p = record { fits = two; passes = λ lt. p; longest = long b c bs }

pub single_at : (bytes : List ℕ) → 2 ≤ length bytes → is_pair (get_or bytes 0 0) (get_or bytes 1 0) ≡ false → is_single (get_or bytes 0 0) ≡ true → IsLongest is_mark 1 bytes
single_at [] two p s = absurd (omega arith)
single_at (b ∷ []) two p s = absurd (omega arith)
single_at (b ∷ c ∷ bs) two p s = record { fits = omega arith; passes = λ lt. s; longest = λ m. longer b c bs m p }

pub no_mark_at : (bytes : List ℕ) → 2 ≤ length bytes → is_pair (get_or bytes 0 0) (get_or bytes 1 0) ≡ false → is_single (get_or bytes 0 0) ≡ false → IsLongest is_mark 0 bytes
no_mark_at [] two p s = absurd (omega arith)
no_mark_at (b ∷ []) two p s = absurd (omega arith)
no_mark_at (b ∷ c ∷ bs) two p s = record { fits = omega arith; passes = λ lt. absurd (omega arith); longest = λ m. any_long b c bs m p s }
