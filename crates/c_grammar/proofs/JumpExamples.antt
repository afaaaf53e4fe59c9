-- `do`, `break`, `continue` and `return`, worked by hand.
use Rattle.std.proofs.Common.{◌≡◌, pos, [], ◌∷◌, ◌++◌, Ok, Err, refl}
use Rattle.c_tree.specs.declared.tree.Op.TheVariants.{Add, Sub, Lt}
use Rattle.c_tree.specs.Tree.{Number, Var, Neg, Binary, Break, Continue, Return, Done, Assign, If, While, Do, Leave, Block, Skip, Cond}
use Rattle.c_grammar.specs.declared.items.Sign.TheVariants as signs
use Rattle.c_grammar.specs.Grammar.{file_of}
use Rattle.c_grammar.specs.Machine.{run, start}
use Rattle.c_grammar.specs.Deep.{Wrong, Deep, guarded}
use Rattle.c_grammar.proofs.Examples.{place, items, head, in_front}

-- int main ( ) { do x ++ ; while ( x < 3 ) ; }
body_and_test : run start (items (head ++ signs.Do ∷ signs.Name 0 ∷ signs.PlusPlus ∷ signs.Semicolon ∷ signs.While ∷ signs.Open ∷ signs.Name 0 ∷ signs.Oper Lt ∷ signs.Number (pos 3) ∷ signs.Close ∷ signs.Semicolon ∷ signs.RightBrace ∷ []))
    ≡ Ok (file_of [] (Do (place 5) (Assign (place 6) 0 (Binary Add (Var 0) (Number (pos 1))) Done) (place 11) (Binary Lt (Var 0) (Number (pos 3))) Done) (place 16))
unfolding run
body_and_test = refl

-- int main ( ) { do if ( x ) ; else while ( y ) ; while ( z ) ; }
loop_in_a_body : run start (items (head ++ signs.Do ∷ signs.If ∷ signs.Open ∷ signs.Name 0 ∷ signs.Close ∷ signs.Semicolon ∷ signs.Else ∷ signs.While ∷ signs.Open ∷ signs.Name 1 ∷ signs.Close ∷ signs.Semicolon ∷ signs.While ∷ signs.Open ∷ signs.Name 2 ∷ signs.Close ∷ signs.Semicolon ∷ signs.RightBrace ∷ []))
    ≡ Ok (file_of [] (Do (place 5) (If (place 6) (Var 0) (Skip (place 10) Done) (While (place 12) (Var 1) Done (Skip (place 16) Done) Done) Done) (place 19) (Var 2) Done) (place 22))
unfolding run
loop_in_a_body = refl

-- int main ( ) { do do ; while ( x ) ; while ( y ) ; }
body_in_a_body : run start (items (head ++ signs.Do ∷ signs.Do ∷ signs.Semicolon ∷ signs.While ∷ signs.Open ∷ signs.Name 0 ∷ signs.Close ∷ signs.Semicolon ∷ signs.While ∷ signs.Open ∷ signs.Name 1 ∷ signs.Close ∷ signs.Semicolon ∷ signs.RightBrace ∷ []))
    ≡ Ok (file_of [] (Do (place 5) (Do (place 6) (Skip (place 7) Done) (place 10) (Var 0) Done) (place 15) (Var 1) Done) (place 18))
unfolding run
body_in_a_body = refl

-- int main ( ) { if ( x ) do ; while ( y ) ; else ; }
else_behind_a_body : run start (items (head ++ signs.If ∷ signs.Open ∷ signs.Name 0 ∷ signs.Close ∷ signs.Do ∷ signs.Semicolon ∷ signs.While ∷ signs.Open ∷ signs.Name 1 ∷ signs.Close ∷ signs.Semicolon ∷ signs.Else ∷ signs.Semicolon ∷ signs.RightBrace ∷ []))
    ≡ Ok (file_of [] (If (place 5) (Var 0) (Do (place 9) (Skip (place 10) Done) (place 13) (Var 1) Done) (Skip (place 17) Done) Done) (place 18))
unfolding run
else_behind_a_body = refl

-- int main ( ) { while ( 1 ) { if ( x ) break ; #if continue ; #endif return - x ; } }
jumps_in_a_loop : run start (items (head ++ signs.While ∷ signs.Open ∷ signs.Number (pos 1) ∷ signs.Close ∷ signs.LeftBrace ∷ signs.If ∷ signs.Open ∷ signs.Name 0 ∷ signs.Close ∷ signs.Break ∷ signs.Semicolon ∷ signs.GroupIf 0 ∷ signs.Continue ∷ signs.Semicolon ∷ signs.GroupEnd ∷ signs.Return ∷ signs.Oper Sub ∷ signs.Name 0 ∷ signs.Semicolon ∷ signs.RightBrace ∷ signs.RightBrace ∷ []))
    ≡ Ok (file_of [] (While (place 5) (Number (pos 1)) Done (Block (place 9) (If (place 10) (Var 0) (Leave (place 14) Break Done) Done (Cond 0 (Leave (place 17) Continue Done) Done (Leave (place 20) (Return (Neg (Var 0))) Done))) Done) Done) (place 25))
unfolding run
jumps_in_a_loop = refl

-- int main ( ) { do break ; while ( x ) ; return y - 1 ; ; }
jump_in_a_body : run start (items (head ++ signs.Do ∷ signs.Break ∷ signs.Semicolon ∷ signs.While ∷ signs.Open ∷ signs.Name 0 ∷ signs.Close ∷ signs.Semicolon ∷ signs.Return ∷ signs.Name 1 ∷ signs.Oper Sub ∷ signs.Number (pos 1) ∷ signs.Semicolon ∷ signs.Semicolon ∷ signs.RightBrace ∷ []))
    ≡ Ok (file_of [] (Do (place 5) (Leave (place 6) Break Done) (place 10) (Var 0) (Leave (place 13) (Return (Binary Sub (Var 1) (Number (pos 1)))) (Skip (place 18) Done))) (place 19))
unfolding run
jump_in_a_body = refl

-- a jump that leaves no loop, or has no value: the last item is wrong
break_outside : run start (items (head ++ signs.Break ∷ [])) ≡ Err 1
unfolding run
break_outside = refl

continue_in_a_block : run start (items (head ++ signs.If ∷ signs.Open ∷ signs.Name 0 ∷ signs.Close ∷ signs.LeftBrace ∷ signs.Continue ∷ [])) ≡ Err 1
unfolding run
continue_in_a_block = refl

break_behind_a_loop : run start (items (head ++ signs.While ∷ signs.Open ∷ signs.Name 0 ∷ signs.Close ∷ signs.Semicolon ∷ signs.Break ∷ [])) ≡ Err 1
unfolding run
break_behind_a_loop = refl

continue_behind_a_body : run start (items (head ++ signs.Do ∷ signs.Semicolon ∷ signs.While ∷ signs.Open ∷ signs.Name 0 ∷ signs.Close ∷ signs.Semicolon ∷ signs.Continue ∷ [])) ≡ Err 1
unfolding run
continue_behind_a_body = refl

return_without_a_value : run start (items (head ++ signs.Return ∷ signs.Semicolon ∷ [])) ≡ Err 1
unfolding run
return_without_a_value = refl

-- behind the body of a `do` comes its test, and nothing else
statement_behind_a_body : run start (items (head ++ signs.Do ∷ signs.Semicolon ∷ signs.Name 0 ∷ [])) ≡ Err 1
unfolding run
statement_behind_a_body = refl

two_statements : run start (items (head ++ signs.Do ∷ signs.Semicolon ∷ signs.Semicolon ∷ [])) ≡ Err 1
unfolding run
two_statements = refl

brace_behind_a_body : run start (items (head ++ signs.Do ∷ signs.Semicolon ∷ signs.RightBrace ∷ [])) ≡ Err 1
unfolding run
brace_behind_a_body = refl

group_behind_a_body : run start (items (head ++ signs.Do ∷ signs.LeftBrace ∷ signs.RightBrace ∷ signs.GroupIf 0 ∷ [])) ≡ Err 1
unfolding run
group_behind_a_body = refl

else_without_an_if : run start (items (head ++ signs.Do ∷ signs.Semicolon ∷ signs.Else ∷ [])) ≡ Err 1
unfolding run
else_without_an_if = refl

body_without_parentheses : run start (items (head ++ signs.Do ∷ signs.Semicolon ∷ signs.While ∷ signs.Name 0 ∷ [])) ≡ Err 1
unfolding run
body_without_parentheses = refl

body_without_a_test : run start (items (head ++ signs.Do ∷ signs.Semicolon ∷ signs.While ∷ signs.Open ∷ signs.Close ∷ [])) ≡ Err 1
unfolding run
body_without_a_test = refl

group_in_a_test : run start (items (head ++ signs.Do ∷ signs.Semicolon ∷ signs.While ∷ signs.Open ∷ signs.GroupIf 0 ∷ [])) ≡ Err 1
unfolding run
group_in_a_test = refl

body_without_a_semicolon : run start (items (head ++ signs.Do ∷ signs.Semicolon ∷ signs.While ∷ signs.Open ∷ signs.Name 0 ∷ signs.Close ∷ signs.RightBrace ∷ [])) ≡ Err 1
unfolding run
body_without_a_semicolon = refl

declaration_as_a_body : run start (items (head ++ signs.Do ∷ signs.Int ∷ [])) ≡ Err 1
unfolding run
declaration_as_a_body = refl

group_as_a_body : run start (items (head ++ signs.Do ∷ signs.GroupIf 0 ∷ [])) ≡ Err 1
unfolding run
group_as_a_body = refl

else_behind_its_end : run start (items (head ++ signs.Do ∷ signs.If ∷ signs.Open ∷ signs.Name 0 ∷ signs.Close ∷ signs.Semicolon ∷ signs.While ∷ signs.Open ∷ signs.Name 1 ∷ signs.Close ∷ signs.Semicolon ∷ signs.Else ∷ [])) ≡ Err 1
unfolding run
else_behind_its_end = refl

-- 64 bodies may be open, and a test and a value have their own operators
one_body_more : guarded start 0 (items (head ++ in_front 65 signs.Do (signs.Semicolon ∷ []))) ≡ Err (Deep 2)
unfolding guarded in_front
one_body_more = refl

enough_bodies : guarded start 0 (items (head ++ in_front 64 signs.Do (signs.Semicolon ∷ signs.While ∷ signs.Open ∷ []))) ≡ Err (Wrong 0)
unfolding guarded in_front
enough_bodies = refl

one_operator_more : guarded start 0 (items (head ++ signs.Do ∷ signs.Semicolon ∷ signs.While ∷ signs.Open ∷ in_front 65 (signs.Oper Sub) (signs.Name 0 ∷ []))) ≡ Err (Deep 2)
unfolding guarded in_front
one_operator_more = refl

enough_operators : guarded start 0 (items (head ++ signs.Do ∷ signs.Semicolon ∷ signs.While ∷ signs.Open ∷ in_front 64 (signs.Oper Sub) (signs.Name 0 ∷ []))) ≡ Err (Wrong 0)
unfolding guarded in_front
enough_operators = refl

one_more_in_a_value : guarded start 0 (items (head ++ signs.Return ∷ in_front 65 (signs.Oper Sub) (signs.Name 0 ∷ []))) ≡ Err (Deep 2)
unfolding guarded in_front
one_more_in_a_value = refl
