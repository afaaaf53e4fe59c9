-- Behind a statement stands an `else`, or what stands where a statement may begin.
use Rattle.std.proofs.Common.{◌≡◌, refl}
use Rattle.fam_outer.specs.declared.faults.Place.{Place}
use Rattle.c_tree.specs.Tree.{Code}
use Rattle.c_grammar.specs.declared.items.Sign.{Sign}
use Rattle.c_grammar.specs.declared.items.Sign.TheVariants as signs
use Rattle.c_grammar.specs.Machine.{Stack, on, placed, proceed}

pub no_else : (outer : Stack) (c : Code) (p : Place) (s : Sign) → (s ≡ signs.Else → ⊥) → on outer c p s ≡ proceed (placed outer c) p s
no_else outer c p signs.Else n = absurd (n refl)
no_else outer c p _ n = refl
