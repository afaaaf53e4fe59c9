-- Blocks for loops that declare variables, worked by hand.
use Rattle.std.proofs.Common.{◌≡◌, ℕ, pos, ◌+◌, List, [], ◌∷◌, ◌++◌, refl}
use Rattle.c_tree.specs.declared.tree.Op.TheVariants.{Lt}
use Rattle.c_grammar.specs.declared.items.Item.{Item}
use Rattle.c_grammar.specs.declared.items.Sign.{Sign}
use Rattle.c_grammar.specs.declared.items.Sign.TheVariants as signs
use Rattle.c_grammar.specs.Grammar.{at}
use Rattle.c_grammar.proofs.Examples.{place, placed, items}
use Rattle.for_blocks.specs.Blocks.{behind_closing, behind_semicolon, behind_statement, unfolded_from, unfolded}

-- for ( int i = 0 ; i < 3 ; ++ i )
abbrev declaring : List Sign
declaring =
    signs.For ∷ signs.Open ∷ signs.Int ∷ signs.Name 0 ∷ signs.Equals ∷ signs.Number (pos 0) ∷ signs.Semicolon
    ∷ signs.Name 0 ∷ signs.Oper Lt ∷ signs.Number (pos 3) ∷ signs.Semicolon ∷ signs.PlusPlus ∷ signs.Name 0 ∷ signs.Close ∷ []

-- { int i = 0 ; for ( ; i < 3 ; ++ i ), where the n-th item is the `for`
abbrev begun : ℕ → List Item
begun n =
    at (place n) signs.LeftBrace ∷ (placed (n + 2) (signs.Int ∷ signs.Name 0 ∷ signs.Equals ∷ signs.Number (pos 0) ∷ signs.Semicolon ∷ [])
    ++ at (place n) signs.For ∷ at (place n) signs.Open ∷ at (place n) signs.Semicolon
    ∷ placed (n + 7) (signs.Name 0 ∷ signs.Oper Lt ∷ signs.Number (pos 3) ∷ signs.Semicolon ∷ signs.PlusPlus ∷ signs.Name 0 ∷ signs.Close ∷ []))

abbrev ended : ℕ → List Item
ended n = at (place n) signs.RightBrace ∷ []

-- for ( int i = 0 ; i < 3 ; ++ i ) ; }
a_block : unfolded (items (declaring ++ signs.Semicolon ∷ signs.RightBrace ∷ [])) ≡ begun 0 ++ (placed 14 (signs.Semicolon ∷ []) ++ (ended 0 ++ placed 15 (signs.RightBrace ∷ [])))
unfolding unfolded unfolded_from behind_statement behind_closing behind_semicolon
a_block = refl

-- the same twice, the one in the other: both blocks end there
a_block_in_a_block : unfolded (items (declaring ++ (declaring ++ signs.Semicolon ∷ signs.RightBrace ∷ []))) ≡ begun 0 ++ (begun 14 ++ (placed 28 (signs.Semicolon ∷ []) ++ (ended 14 ++ (ended 0 ++ placed 29 (signs.RightBrace ∷ [])))))
unfolding unfolded unfolded_from behind_statement behind_closing behind_semicolon
a_block_in_a_block = refl

-- if ( a ) for ( int i = 0 ; i < 3 ; ++ i ) if ( b ) x = 1 ; else x = 2 ; y = 3 ; }
abbrev choosing : List Sign
choosing =
    signs.If ∷ signs.Open ∷ signs.Name 2 ∷ signs.Close ∷ signs.Name 3 ∷ signs.Equals ∷ signs.Number (pos 1) ∷ signs.Semicolon
    ∷ signs.Else ∷ signs.Name 3 ∷ signs.Equals ∷ signs.Number (pos 2) ∷ signs.Semicolon ∷ []

abbrev next : List Sign
next = signs.Name 4 ∷ signs.Equals ∷ signs.Number (pos 3) ∷ signs.Semicolon ∷ signs.RightBrace ∷ []

an_else_in_a_block : unfolded (items (signs.If ∷ signs.Open ∷ signs.Name 1 ∷ signs.Close ∷ (declaring ++ (choosing ++ next))))
    ≡ items (signs.If ∷ signs.Open ∷ signs.Name 1 ∷ signs.Close ∷ []) ++ (begun 4 ++ (placed 18 choosing ++ (ended 4 ++ placed 31 next)))
unfolding unfolded unfolded_from behind_statement behind_closing behind_semicolon
an_else_in_a_block = refl

-- if ( a ) for ( int i = 0 ; i < 3 ; ++ i ) x = 1 ; else x = 2 ; }: the `else` is that of the `if` around the loop
abbrev first_side : List Sign
first_side = signs.Name 3 ∷ signs.Equals ∷ signs.Number (pos 1) ∷ signs.Semicolon ∷ []

abbrev other_side : List Sign
other_side = signs.Else ∷ signs.Name 3 ∷ signs.Equals ∷ signs.Number (pos 2) ∷ signs.Semicolon ∷ signs.RightBrace ∷ []

an_else_behind_a_block : unfolded (items (signs.If ∷ signs.Open ∷ signs.Name 1 ∷ signs.Close ∷ (declaring ++ (first_side ++ other_side))))
    ≡ items (signs.If ∷ signs.Open ∷ signs.Name 1 ∷ signs.Close ∷ []) ++ (begun 4 ++ (placed 18 first_side ++ (ended 4 ++ placed 22 other_side)))
unfolding unfolded unfolded_from behind_statement behind_closing behind_semicolon
an_else_behind_a_block = refl

-- do for ( int i = 0 ; i < 3 ; ++ i ) x = i ; while ( x ) ; }
abbrev repeated : List Sign
repeated = signs.Name 1 ∷ signs.Equals ∷ signs.Name 0 ∷ signs.Semicolon ∷ []

abbrev test : List Sign
test = signs.While ∷ signs.Open ∷ signs.Name 1 ∷ signs.Close ∷ signs.Semicolon ∷ signs.RightBrace ∷ []

a_block_in_a_do : unfolded (items (signs.Do ∷ (declaring ++ (repeated ++ test)))) ≡ items (signs.Do ∷ []) ++ (begun 1 ++ (placed 15 repeated ++ (ended 1 ++ placed 19 test)))
unfolding unfolded unfolded_from behind_statement behind_closing behind_semicolon
a_block_in_a_do = refl

-- for ( int i = 0 ; i < 3 ; ++ i ) { #if 0 while ( i ) { } #endif } x = i ; }
abbrev body : List Sign
body =
    signs.LeftBrace ∷ signs.GroupIf 0 ∷ signs.While ∷ signs.Open ∷ signs.Name 0 ∷ signs.Close ∷ signs.LeftBrace ∷ signs.RightBrace ∷ signs.GroupEnd ∷ signs.RightBrace ∷ []

a_group_in_a_block : unfolded (items (declaring ++ (body ++ (repeated ++ signs.RightBrace ∷ [])))) ≡ begun 0 ++ (placed 14 body ++ (ended 0 ++ placed 24 (repeated ++ signs.RightBrace ∷ [])))
unfolding unfolded unfolded_from behind_statement behind_closing behind_semicolon
a_group_in_a_block = refl

-- for ( i = 0 ; i < 3 ; ++ i ) ; }
abbrev plain : List Item
plain =
    items
    (signs.For ∷ signs.Open ∷ signs.Name 0 ∷ signs.Equals ∷ signs.Number (pos 0) ∷ signs.Semicolon
    ∷ signs.Name 0 ∷ signs.Oper Lt ∷ signs.Number (pos 3) ∷ signs.Semicolon ∷ signs.PlusPlus ∷ signs.Name 0 ∷ signs.Close ∷ signs.Semicolon ∷ signs.RightBrace ∷ [])

another_loop_stays : unfolded plain ≡ plain
unfolding unfolded unfolded_from behind_statement behind_closing behind_semicolon
another_loop_stays = refl
