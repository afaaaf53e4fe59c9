-- Truths by a test.
use Rattle.std.proofs.Common.{◌≡◌, Bool, true, false, not, ◌&&◌, ◌||◌, cond, refl}

true_end : (b : Bool) → (b && true) ≡ b
true_end true = refl
true_end false = refl

pub by_both : (b off on : Bool) → ((not b || on) && (b || off)) ≡ cond b on off
by_both true off on = true_end on
by_both false off on = refl

pub not_cond : (b off on : Bool) → cond b (not on) (not off) ≡ not (cond b on off)
not_cond true off on = refl
not_cond false off on = refl
