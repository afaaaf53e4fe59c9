-- A `for` that declares variables, worked by hand.
use Rattle.std.proofs.Common.{◌≡◌, ℕ, zero, suc, pos, List, [], ◌∷◌, ◌++◌, Result, Ok, Err, refl}
use Rattle.c_tree.specs.declared.tree.Op.TheVariants.{Add, Lt}
use Rattle.c_tree.specs.Tree.{Number, Var, Binary, Done, Assign, Input, If, While, Block, Skip}
use Rattle.c_tree.specs.Whole.{nesting}
use Rattle.c_grammar.specs.declared.items.Sign.{Sign}
use Rattle.c_grammar.specs.declared.items.Sign.TheVariants as signs
use Rattle.c_grammar.specs.Grammar.{File, file_of}
use Rattle.c_grammar.specs.Machine.{run, start}
use Rattle.c_grammar.specs.Deep.{Fault, Wrong, Deep, guarded}
use Rattle.c_grammar.proofs.Examples.{place, items, head, in_front}

-- int main ( ) { for ( int i = 0 ; i < 3 ; ++ i ) ; }
block_with_a_loop : run start (items (head ++ signs.For ∷ signs.Open ∷ signs.Int ∷ signs.Name 0 ∷ signs.Equals ∷ signs.Number (pos 0) ∷ signs.Semicolon ∷ signs.Name 0 ∷ signs.Oper Lt ∷ signs.Number (pos 3) ∷ signs.Semicolon ∷ signs.PlusPlus ∷ signs.Name 0 ∷ signs.Close ∷ signs.Semicolon ∷ signs.RightBrace ∷ []))
    ≡ Ok (file_of [] (Block (place 5) (Assign (place 8) 0 (Number (pos 0)) (While (place 12) (Binary Lt (Var 0) (Number (pos 3))) (Assign (place 16) 0 (Binary Add (Var 0) (Number (pos 1))) Done) (Skip (place 19) Done) Done)) Done) (place 20))
unfolding run
block_with_a_loop = refl

-- int main ( ) { for ( const int x = input ( ) , y = x ; ; ) { } }
two_constants : run start (items (head ++ signs.For ∷ signs.Open ∷ signs.Const ∷ signs.Int ∷ signs.Name 0 ∷ signs.Equals ∷ signs.Input ∷ signs.Open ∷ signs.Close ∷ signs.Comma ∷ signs.Name 1 ∷ signs.Equals ∷ signs.Name 0 ∷ signs.Semicolon ∷ signs.Semicolon ∷ signs.Close ∷ signs.LeftBrace ∷ signs.RightBrace ∷ signs.RightBrace ∷ []))
    ≡ Ok (file_of [] (Block (place 5) (Input (place 9) 0 (Assign (place 15) 1 (Var 0) (While (place 19) (Number (pos 1)) Done (Block (place 21) Done Done) Done))) Done) (place 23))
unfolding run
two_constants = refl

-- int main ( ) { if ( x ) for ( signed i = 0 ; ; ) ; else ; }
else_behind_a_block : run start (items (head ++ signs.If ∷ signs.Open ∷ signs.Name 0 ∷ signs.Close ∷ signs.For ∷ signs.Open ∷ signs.Signed ∷ signs.Name 1 ∷ signs.Equals ∷ signs.Number (pos 0) ∷ signs.Semicolon ∷ signs.Semicolon ∷ signs.Close ∷ signs.Semicolon ∷ signs.Else ∷ signs.Semicolon ∷ signs.RightBrace ∷ []))
    ≡ Ok (file_of [] (If (place 5) (Var 0) (Block (place 9) (Assign (place 12) 1 (Number (pos 0)) (While (place 16) (Number (pos 1)) Done (Skip (place 18) Done) Done)) Done) (Skip (place 20) Done) Done) (place 21))
unfolding run
else_behind_a_block = refl

-- each has an initialiser: for ( int x ;, for ( int x = 1 , y ; and for ( int x ,
first_without_a_value : run start (items (head ++ signs.For ∷ signs.Open ∷ signs.Int ∷ signs.Name 0 ∷ signs.Semicolon ∷ [])) ≡ Err 1
unfolding run
first_without_a_value = refl

second_without_a_value : run start (items (head ++ signs.For ∷ signs.Open ∷ signs.Int ∷ signs.Name 0 ∷ signs.Equals ∷ signs.Number (pos 1) ∷ signs.Comma ∷ signs.Name 1 ∷ signs.Semicolon ∷ [])) ≡ Err 1
unfolding run
second_without_a_value = refl

comma_without_a_value : run start (items (head ++ signs.For ∷ signs.Open ∷ signs.Int ∷ signs.Name 0 ∷ signs.Comma ∷ [])) ≡ Err 1
unfolding run
comma_without_a_value = refl

-- for ( int x = 1 ), for ( int x = 1 ; ; int and for ( int #if 0: the last item is wrong
closed_behind_the_declaration : run start (items (head ++ signs.For ∷ signs.Open ∷ signs.Int ∷ signs.Name 0 ∷ signs.Equals ∷ signs.Number (pos 1) ∷ signs.Close ∷ [])) ≡ Err 1
unfolding run
closed_behind_the_declaration = refl

declaration_as_a_step : run start (items (head ++ signs.For ∷ signs.Open ∷ signs.Int ∷ signs.Name 0 ∷ signs.Equals ∷ signs.Number (pos 1) ∷ signs.Semicolon ∷ signs.Semicolon ∷ signs.Int ∷ [])) ≡ Err 1
unfolding run
declaration_as_a_step = refl

group_in_a_declaration : run start (items (head ++ signs.For ∷ signs.Open ∷ signs.Int ∷ signs.GroupIf 0 ∷ [])) ≡ Err 1
unfolding run
group_in_a_declaration = refl

-- ---- it is one of the 64 constructs, from its first token on

-- in 63 blocks there is room for it, in 64 there is none
enough_blocks : guarded start 0 (items (head ++ in_front 63 signs.LeftBrace (signs.For ∷ signs.Open ∷ signs.Const ∷ signs.Int ∷ signs.Name 0 ∷ []))) ≡ Err (Wrong 0)
unfolding guarded in_front
enough_blocks = refl

one_block_more : guarded start 0 (items (head ++ in_front 64 signs.LeftBrace (signs.For ∷ signs.Open ∷ signs.Int ∷ signs.Name 0 ∷ []))) ≡ Err (Deep 4)
unfolding guarded in_front
one_block_more = refl

-- so many of for ( int x = 0 ; ; ) in front
unfoldable loops : ℕ → List Sign → List Sign
loops zero rest = rest
loops (suc n) rest = signs.For ∷ signs.Open ∷ signs.Int ∷ signs.Name 0 ∷ signs.Equals ∷ signs.Number (pos 0) ∷ signs.Semicolon ∷ signs.Semicolon ∷ signs.Close ∷ loops n rest

one_loop_more : guarded start 0 (items (head ++ loops 64 (signs.For ∷ signs.Open ∷ []))) ≡ Err (Deep 2)
unfolding guarded loops
one_loop_more = refl

-- 64 in one another are 128 statements in one another
nesting_of : Result File Fault → ℕ
nesting_of (Ok f) = nesting f.body
nesting_of (Err fault) = 0

enough_loops : nesting_of (guarded start 0 (items (head ++ loops 64 (signs.Semicolon ∷ signs.RightBrace ∷ [])))) ≡ 128
unfolding guarded loops nesting_of
enough_loops = refl
