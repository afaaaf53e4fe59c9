-- The numbers of lines, one further.
use Rattle.std.proofs.Common.{◌≡◌, ℕ, ◌+◌, ◌++◌, refl, add-one}
use Rattle.alarm_page.specs.Pages.{numbers_up_to, number_line}

pub numbers_further : (count : ℕ) → numbers_up_to (count + 1) ≡ numbers_up_to count ++ number_line (count + 1)
numbers_further count = rw add-one refl
