-- Behind the words of a type stands its second word, or what follows the type.
use Rattle.std.proofs.Common.{◌≡◌, refl, true, false, List, Some}
use Rattle.c_tree.specs.declared.lists.Declared.{Declared}
use Rattle.c_grammar.specs.declared.items.Sign.{Sign}
use Rattle.c_grammar.specs.declared.items.Sign.TheVariants as signs
use Rattle.c_grammar.specs.Machine.{Leading, Sections, TypeWords, OneInt, OneSigned, WholeType, AfterType, after_type, behind_type}
use Rattle.reading_states.specs.Views.{is_second_word}

pub second_word : (lead : Leading) (secs : Sections) (ds : List Declared) (s : Sign) (words : TypeWords) → is_second_word s words ≡ true
    → after_type lead secs ds s words ≡ Some (AfterType lead WholeType secs ds)
second_word lead secs ds signs.Signed OneInt e = refl
second_word lead secs ds signs.Int OneSigned e = refl
second_word lead secs ds _ _ e = absurd cc

pub no_second_word : (lead : Leading) (secs : Sections) (ds : List Declared) (s : Sign) (words : TypeWords) → is_second_word s words ≡ false
    → after_type lead secs ds s words ≡ behind_type lead secs ds s
no_second_word lead secs ds signs.Signed OneInt e = absurd cc
no_second_word lead secs ds signs.Int OneSigned e = absurd cc
no_second_word lead secs ds _ _ e = refl
