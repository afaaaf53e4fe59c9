-- Static declarations in `main`, worked by hand.
use Rattle.std.proofs.Common.{◌≡◌, pos, negsuc, true, false, List, [], ◌∷◌, ◌++◌, Ok, Err, refl}
use Rattle.c_tree.specs.declared.tree.Op.TheVariants.{Sub}
use Rattle.c_tree.specs.Tree.{Var, Done, Assign}
use Rattle.c_grammar.specs.declared.items.Sign.{Sign}
use Rattle.c_grammar.specs.declared.items.Sign.TheVariants as signs
use Rattle.c_grammar.specs.Grammar.{file_of, declared}
use Rattle.c_grammar.specs.Machine.{run, start}
use Rattle.c_grammar.specs.Scopes.{names_in_scope, names_taken}
use Rattle.c_grammar.specs.Statics.{statics_by}
use Rattle.c_grammar.proofs.Examples.{place, items, guard, head}

-- static int x = - 3 , y ; x = y ; }
abbrev variables : List Sign
variables =
    signs.Static ∷ signs.Int ∷ signs.Name 0 ∷ signs.Equals ∷ signs.Oper Sub ∷ signs.Number (pos 3) ∷ signs.Comma ∷ signs.Name 1 ∷ signs.Semicolon
    ∷ signs.Name 0 ∷ signs.Equals ∷ signs.Name 1 ∷ signs.Semicolon ∷ signs.RightBrace ∷ []

leaves_no_statement : run start (items (head ++ variables)) ≡ Ok (file_of [] (Assign (place 14) 0 (Var 1) Done) (place 18))
unfolding run
leaves_no_statement = refl

has_its_values : statics_by (items (head ++ variables)) ≡ declared 0 (negsuc 2) [] ∷ declared 1 (pos 0) [] ∷ []
has_its_values = refl

-- { #if 0 static const int x = 1 ; #elif 1 static int const x = 2 , y = 3 ; #else static signed x ; #endif } }
abbrev grouped : List Sign
grouped =
    signs.LeftBrace ∷ signs.GroupIf 0 ∷ signs.Static ∷ signs.Const ∷ signs.Int ∷ signs.Name 0 ∷ signs.Equals ∷ signs.Number (pos 1) ∷ signs.Semicolon
    ∷ signs.GroupElif 1 ∷ signs.Static ∷ signs.Int ∷ signs.Const ∷ signs.Name 0 ∷ signs.Equals ∷ signs.Number (pos 2) ∷ signs.Comma ∷ signs.Name 1 ∷ signs.Equals ∷ signs.Number (pos 3) ∷ signs.Semicolon
    ∷ signs.GroupElse ∷ signs.Static ∷ signs.Signed ∷ signs.Name 0 ∷ signs.Semicolon ∷ signs.GroupEnd ∷ signs.RightBrace ∷ signs.RightBrace ∷ []

has_the_guards_of_its_groups : statics_by (items (head ++ grouped))
    ≡ declared 0 (pos 1) (guard 0 true ∷ []) ∷ declared 0 (pos 2) (guard 0 false ∷ guard 1 true ∷ []) ∷ declared 1 (pos 3) (guard 0 false ∷ guard 1 true ∷ [])
    ∷ declared 0 (pos 0) (guard 0 false ∷ guard 1 false ∷ []) ∷ []
has_the_guards_of_its_groups = refl

-- static int x = y
wants_a_number : run start (items (head ++ signs.Static ∷ signs.Int ∷ signs.Name 0 ∷ signs.Equals ∷ signs.Name 1 ∷ [])) ≡ Err 1
unfolding run
wants_a_number = refl

-- static const int x ;
constant_wants_a_value : run start (items (head ++ signs.Static ∷ signs.Const ∷ signs.Int ∷ signs.Name 0 ∷ signs.Semicolon ∷ [])) ≡ Err 1
unfolding run
constant_wants_a_value = refl

-- const static
static_comes_first : run start (items (head ++ signs.Const ∷ signs.Static ∷ [])) ≡ Err 1
unfolding run
static_comes_first = refl

-- while ( x ) static
stands_in_a_list : run start (items (head ++ signs.While ∷ signs.Open ∷ signs.Name 0 ∷ signs.Close ∷ signs.Static ∷ [])) ≡ Err 1
unfolding run
stands_in_a_list = refl

-- ---- names

-- { int x ; static int y ; } and then the words of a declaration
abbrev behind_a_block : List Sign → List Sign
behind_a_block words = head ++ (signs.LeftBrace ∷ signs.Int ∷ signs.Name 0 ∷ signs.Semicolon ∷ signs.Static ∷ signs.Int ∷ signs.Name 1 ∷ signs.Semicolon ∷ signs.RightBrace ∷ words)

out_of_scope : names_in_scope (items (behind_a_block [])) ≡ []
out_of_scope = refl

static_is_the_only_one : names_taken (items (behind_a_block (signs.Int ∷ []))) ≡ 1 ∷ []
static_is_the_only_one = refl

no_other_is_static : names_taken (items (behind_a_block (signs.Static ∷ signs.Int ∷ []))) ≡ 0 ∷ 1 ∷ []
no_other_is_static = refl
