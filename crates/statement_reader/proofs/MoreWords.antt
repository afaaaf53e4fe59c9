-- In `main`: behind the words of a type stands its second word, or what follows the type.
use Rattle.std.proofs.Common.{◌≡◌, refl, true, false, Some}
use Rattle.fam_outer.specs.declared.faults.Place.{Place}
use Rattle.c_grammar.specs.declared.items.Sign.{Sign}
use Rattle.c_grammar.specs.declared.items.Sign.TheVariants as signs
use Rattle.c_grammar.specs.Grammar.{Qualifier, Unqualified}
use Rattle.c_grammar.specs.Machine.{Stack, Scope, TypeWords, OneInt, OneSigned, WholeType, LocalType, local_type, behind_local_type, InStatic, BehindStaticType, static_type, behind_static_type, static_word, behind_static_word}
use Rattle.reading_states.specs.Views.{is_second_word}

pub second_local_word : (kind : Qualifier) (scope : Scope) (p : Place) (s : Sign) (words : TypeWords) → is_second_word s words ≡ true
    → local_type kind scope p s words ≡ Some (LocalType kind WholeType scope)
second_local_word kind scope p signs.Signed OneInt e = refl
second_local_word kind scope p signs.Int OneSigned e = refl
second_local_word kind scope p _ _ e = absurd cc

pub no_second_local_word : (kind : Qualifier) (scope : Scope) (p : Place) (s : Sign) (words : TypeWords) → is_second_word s words ≡ false
    → local_type kind scope p s words ≡ behind_local_type kind scope p s
no_second_local_word kind scope p signs.Signed OneInt e = absurd cc
no_second_local_word kind scope p signs.Int OneSigned e = absurd cc
no_second_local_word kind scope p _ _ e = refl

-- the same in a static declaration
pub second_static_word : (kind : Qualifier) (outer : Stack) (s : Sign) (words : TypeWords) → is_second_word s words ≡ true
    → static_type kind outer s words ≡ Some (InStatic (BehindStaticType kind WholeType) outer)
second_static_word kind outer signs.Signed OneInt e = refl
second_static_word kind outer signs.Int OneSigned e = refl
second_static_word kind outer _ _ e = absurd cc

pub no_second_static_word : (kind : Qualifier) (outer : Stack) (s : Sign) (words : TypeWords) → is_second_word s words ≡ false
    → static_type kind outer s words ≡ behind_static_type kind outer s
no_second_static_word kind outer signs.Signed OneInt e = absurd cc
no_second_static_word kind outer signs.Int OneSigned e = absurd cc
no_second_static_word kind outer _ _ e = refl

-- behind `static` in `main` stands `const`, or the first word of a type
pub no_static_const : (outer : Stack) (s : Sign) → (s ≡ signs.Const → ⊥) → behind_static_word outer s ≡ static_word Unqualified outer s
no_static_const outer signs.Const n = absurd (n refl)
no_static_const outer _ n = refl
