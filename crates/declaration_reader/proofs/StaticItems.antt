-- The numbers of items are not negative, nor are those of some of them.
use Rattle.std.proofs.Common.{ℕ, zero, suc, Bool, true, false, List, [], ◌∷◌}
use Rattle.std.specs.Prelude.{IfSome, if◌then◌else◌}
use Rattle.c_grammar.specs.declared.items.Item.{Item}
use Rattle.c_grammar.specs.Items.{is_main}
use Rattle.c_grammar.specs.Statics.{behind_main, sign_at}
use Rattle.reading_states.specs.Signs.{IsUnsigned, AreUnsigned}

pub unsigned_at : (items : List Item) (k : ℕ) → AreUnsigned items → IfSome (sign_at items k) IsUnsigned
unsigned_at [] k h = tt
unsigned_at (x ∷ w) zero h = h.0
unsigned_at (x ∷ w) (suc k) h = unsigned_at w k h.1

unsigned_choice : (b : Bool) (left right : List Item) → AreUnsigned left → AreUnsigned right → AreUnsigned (if b then left else right)
unsigned_choice true left right h k = h
unsigned_choice false left right h k = k

pub unsigned_behind : (items : List Item) → AreUnsigned items → AreUnsigned (behind_main items)
unsigned_behind [] h = tt
unsigned_behind (x ∷ w) h = unsigned_choice (is_main x.sign) w (behind_main w) h.1 (unsigned_behind w h.1)
