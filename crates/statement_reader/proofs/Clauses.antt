-- In the parentheses of a `for` stands what ends a part that is left out, or what begins one.
use Rattle.std.proofs.Common.{◌≡◌, [], refl}
use Rattle.fam_outer.specs.declared.faults.Place.{Place}
use Rattle.c_tree.specs.Tree.{Term}
use Rattle.c_grammar.specs.declared.items.Sign.{Sign}
use Rattle.c_grammar.specs.declared.items.Sign.TheVariants as signs
use Rattle.c_grammar.specs.Machine.{Stack, Start, AsStart, AsStep, ToRepeat, changing, start_comes, step_comes, test_comes, want}

-- no word of a declaration
pub some_start : (q : Place) (outer : Stack) (p : Place) (s : Sign) → (s ≡ signs.Semicolon → ⊥) → (s ≡ signs.Const → ⊥) → (s ≡ signs.Int → ⊥) → (s ≡ signs.Int32 → ⊥) → (s ≡ signs.Signed → ⊥)
    → start_comes q outer p s ≡ changing (AsStart outer) p s
some_start q outer p signs.Semicolon n m k j i = absurd (n refl)
some_start q outer p signs.Const n m k j i = absurd (m refl)
some_start q outer p signs.Int n m k j i = absurd (k refl)
some_start q outer p signs.Int32 n m k j i = absurd (j refl)
some_start q outer p signs.Signed n m k j i = absurd (i refl)
some_start q outer p _ n m k j i = refl

pub some_test : (start : Start) (outer : Stack) (p : Place) (s : Sign) → (s ≡ signs.Semicolon → ⊥) → test_comes start outer p s ≡ want [] (ToRepeat start p outer) s
some_test start outer p signs.Semicolon n = absurd (n refl)
some_test start outer p _ n = refl

pub some_step : (start : Start) (q : Place) (e : Term) (outer : Stack) (p : Place) (s : Sign) → (s ≡ signs.Close → ⊥) → step_comes start q e outer p s ≡ changing (AsStep start q e outer) p s
some_step start q e outer p signs.Close n = absurd (n refl)
some_step start q e outer p _ n = refl
