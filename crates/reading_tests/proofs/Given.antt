-- A file whose names are given: what the test of it needs.
use Rattle.std.proofs.Common.{◌≡◌, ℕ, ◌<◌, true, false, List, [], ◌∷◌, Result, Ok, refl, sym, ◌∙◌, subst, arith}
use Rattle.std.specs.Prelude.{codes, pos, nat_eq, ◌||◌}
use Rattle.std.specs.List.{list_any}
use Rattle.std.proofs.lemmas.Bool.{eqb-true}
use Rattle.fam_outer.specs.declared.dialect.Includes.TheVariants.{Assert}
use Rattle.fam_outer.specs.declared.faults.Place.{Place}
use Rattle.fam_outer.specs.declared.faults.FileCode.{FileCode}
use Rattle.cpp_lines.specs.Lines.{plain_lines_of}
use Rattle.cpp_lines.specs.Code.{code_of}
use Rattle.cpp_lines.specs.Faults.{first_fault}
use Rattle.c_tokens.specs.Reading.{tokens_of}
use Rattle.c_grammar.specs.declared.items.Sign.TheVariants as signs
use Rattle.c_grammar.specs.Grammar.{at}
use Rattle.c_parser.specs.Items.{Listed}
use Rattle.c_parser.specs.Reading.{AreAmong, DeclaresAmong, code_of_file, items_of}

abbrev pub given : List (List ℕ)
given = codes "y" ∷ codes "x" ∷ []

abbrev pub text : List ℕ
text = codes "int x;int main(){x=1;}"

abbrev spot : ℕ → Place
spot column = record { line = 1; column = column }

abbrev listed_here : Listed
listed_here = record {
  names = given;
  items = at (spot 1) signs.Int ∷ at (spot 5) (signs.Name 1) ∷ at (spot 6) signs.Semicolon ∷ at (spot 7) signs.Int ∷ at (spot 11) signs.Main ∷ at (spot 15) signs.Open ∷ at (spot 16) signs.Close ∷ at (spot 17) signs.LeftBrace
      ∷ at (spot 18) (signs.Name 1) ∷ at (spot 19) signs.Equals ∷ at (spot 20) (signs.Number (pos 1)) ∷ at (spot 21) signs.Semicolon ∷ at (spot 22) signs.RightBrace ∷ [];
}

items_are : items_of Assert [] given text ≡ Ok listed_here
unfolding items_of code_of_file plain_lines_of code_of first_fault tokens_of
items_are = refl

abbrev listed_ok : Listed → Result Listed (FileCode × Place)
listed_ok l = Ok l

same : (l m : Listed) (r : Result Listed (FileCode × Place)) → r ≡ Ok l → r ≡ Ok m → l ≡ m
same l m r h k = let e : listed_ok l ≡ listed_ok m = sym h ∙ k in cc

below : (x : ℕ) → list_any (nat_eq x) (1 ∷ []) ≡ true → x < 2
below x h = elim (nat_eq x 1) as (λ b. nat_eq x 1 ≡ b → (b || false) ≡ true → x < 2) [
  | true ↦ λ e g. omega (arith, eqb-true x 1 e)
  | false ↦ λ e g. absurd cc
] refl h

-- each name that the text declares is given
pub among : DeclaresAmong Assert [] given text
among l is = subst (λ (m : Listed). AreAmong given m.items) (same listed_here l (items_of Assert [] given text) items_are is) below
