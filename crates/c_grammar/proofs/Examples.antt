-- Lists of items and what they are read as, worked by hand.
use Rattle.std.proofs.Common.{◌≡◌, ℕ, pos, negsuc, zero, suc, ◌+◌, Bool, true, false, List, [], ◌∷◌, ◌++◌, Ok, Err, Some, None, refl}
use Rattle.fam_outer.specs.declared.faults.Place.{Place}
use Rattle.c_tree.specs.declared.tree.Op.{Op}
use Rattle.c_tree.specs.declared.tree.Op.TheVariants.{Add, Sub, Mul, Div, Rem, Lt, Le, Gt, Ge, Eq, Ne, And, Or}
use Rattle.c_tree.specs.declared.lists.Guard.{Guard}
use Rattle.c_tree.specs.Tree.{Number, Var, Neg, Not, Binary, Return, Done, Assign, Input, Assert, If, While, Leave, Block, Skip, Cond}
use Rattle.c_grammar.specs.declared.items.Item.{Item}
use Rattle.c_grammar.specs.declared.items.Sign.{Sign}
use Rattle.c_grammar.specs.declared.items.Sign.TheVariants as signs
use Rattle.c_grammar.specs.Grammar.{at, file_of, declared}
use Rattle.c_grammar.specs.Constants.{of_constants}
use Rattle.c_grammar.specs.Changes.{changed_at}
use Rattle.c_grammar.specs.Kept.{kept}
use Rattle.c_grammar.specs.Machine.{run, start}
use Rattle.c_grammar.specs.Deep.{Wrong, Deep, guarded}

-- the place of the n-th item
abbrev pub place : ℕ → Place
place n = record { line = 1; column = n }

abbrev pub placed : ℕ → List Sign → List Item
placed n [] = []
placed n (s ∷ ss) = at (place n) s ∷ placed (n + 1) ss

abbrev pub items : List Sign → List Item
items ss = placed 0 ss

abbrev pub guard : ℕ → Bool → Guard
guard n b = record { number = n; positive = b }

-- int main ( ) {
abbrev pub head : List Sign
head = signs.Int ∷ signs.Main ∷ signs.Open ∷ signs.Close ∷ signs.LeftBrace ∷ []

-- int x = - 3 , y ; static int x ; extern int input ( void ) ;
abbrev declarations : List Sign
declarations =
    signs.Int ∷ signs.Name 0 ∷ signs.Equals ∷ signs.Oper Sub ∷ signs.Number (pos 3) ∷ signs.Comma ∷ signs.Name 1 ∷ signs.Semicolon
    ∷ signs.Static ∷ signs.Int ∷ signs.Name 0 ∷ signs.Semicolon ∷ signs.Extern ∷ signs.Int ∷ signs.Input ∷ signs.Open ∷ signs.Void ∷ signs.Close ∷ signs.Semicolon ∷ []

declared_in_order : run start (items (declarations ++ (head ++ signs.RightBrace ∷ []))) ≡ Ok (file_of (declared 0 (negsuc 2) [] ∷ declared 1 (pos 0) [] ∷ declared 0 (pos 0) [] ∷ []) Done (place 24))
unfolding run
declared_in_order = refl

-- static const int x = - 3 , y = 2 ; int const z = 1 ;
abbrev constants : List Sign
constants =
    signs.Static ∷ signs.Const ∷ signs.Int ∷ signs.Name 0 ∷ signs.Equals ∷ signs.Oper Sub ∷ signs.Number (pos 3) ∷ signs.Comma ∷ signs.Name 1 ∷ signs.Equals ∷ signs.Number (pos 2) ∷ signs.Semicolon
    ∷ signs.Int ∷ signs.Const ∷ signs.Name 2 ∷ signs.Equals ∷ signs.Number (pos 1) ∷ signs.Semicolon ∷ []

constants_have_their_values : run start (items (constants ++ (head ++ signs.RightBrace ∷ []))) ≡ Ok (file_of (declared 0 (negsuc 2) [] ∷ declared 1 (pos 2) [] ∷ declared 2 (pos 1) [] ∷ []) Done (place 23))
unfolding run
constants_have_their_values = refl

-- int x ; const int y = 1 ; static int z ; #if 0 signed const a = 2 ; #endif: without the names of variables
constants_of_a_text : of_constants (items (signs.Int ∷ signs.Name 0 ∷ signs.Semicolon ∷ signs.Const ∷ signs.Int ∷ signs.Name 1 ∷ signs.Equals ∷ signs.Number (pos 1) ∷ signs.Semicolon ∷ signs.Static ∷ signs.Int ∷ signs.Name 2 ∷ signs.Semicolon
    ∷ signs.GroupIf 0 ∷ signs.Signed ∷ signs.Const ∷ signs.Name 3 ∷ signs.Equals ∷ signs.Number (pos 2) ∷ signs.Semicolon ∷ signs.GroupEnd ∷ []))
    ≡ at (place 0) signs.Int ∷ at (place 2) signs.Semicolon ∷ at (place 3) signs.Const ∷ at (place 4) signs.Int ∷ at (place 5) (signs.Name 1) ∷ at (place 6) signs.Equals ∷ at (place 7) (signs.Number (pos 1)) ∷ at (place 8) signs.Semicolon
    ∷ at (place 9) signs.Static ∷ at (place 10) signs.Int ∷ at (place 12) signs.Semicolon ∷ at (place 13) (signs.GroupIf 0) ∷ at (place 14) signs.Signed ∷ at (place 15) signs.Const ∷ at (place 16) (signs.Name 3) ∷ at (place 17) signs.Equals
    ∷ at (place 18) (signs.Number (pos 2)) ∷ at (place 19) signs.Semicolon ∷ at (place 20) signs.GroupEnd ∷ []
constants_of_a_text = refl

-- const int x ;: the semicolon is wrong, and so is the comma of const int x = 1 , y , z = 2 ;
constant_without_a_value : run start (items (signs.Const ∷ signs.Int ∷ signs.Name 0 ∷ signs.Semicolon ∷ (head ++ signs.RightBrace ∷ []))) ≡ Err 7
unfolding run
constant_without_a_value = refl

later_constant_without_a_value : run start (items (signs.Const ∷ signs.Int ∷ signs.Name 0 ∷ signs.Equals ∷ signs.Number (pos 1) ∷ signs.Comma ∷ signs.Name 1 ∷ signs.Comma ∷ signs.Name 2 ∷ [])) ≡ Err 2
unfolding run
later_constant_without_a_value = refl

-- enum { x , y = 5 , z , a = - 3 , b , } ;
abbrev enumerated : List Sign
enumerated =
    signs.Enum ∷ signs.LeftBrace ∷ signs.Name 0 ∷ signs.Comma ∷ signs.Name 1 ∷ signs.Equals ∷ signs.Number (pos 5) ∷ signs.Comma ∷ signs.Name 2 ∷ signs.Comma
    ∷ signs.Name 3 ∷ signs.Equals ∷ signs.Oper Sub ∷ signs.Number (pos 3) ∷ signs.Comma ∷ signs.Name 4 ∷ signs.Comma ∷ signs.RightBrace ∷ signs.Semicolon ∷ []

constants_are_counted : run start (items (enumerated ++ (head ++ signs.RightBrace ∷ []))) ≡ Ok (file_of (declared 0 (pos 0) [] ∷ declared 1 (pos 5) [] ∷ declared 2 (pos 6) [] ∷ declared 3 (negsuc 2) [] ∷ declared 4 (negsuc 1) [] ∷ []) Done (place 24))
unfolding run
constants_are_counted = refl

-- enum { x } ; int y ;: without the names of variables
enumerated_is_constant : of_constants (items (signs.Enum ∷ signs.LeftBrace ∷ signs.Name 0 ∷ signs.RightBrace ∷ signs.Semicolon ∷ signs.Int ∷ signs.Name 1 ∷ signs.Semicolon ∷ []))
    ≡ at (place 0) signs.Enum ∷ at (place 1) signs.LeftBrace ∷ at (place 2) (signs.Name 0) ∷ at (place 3) signs.RightBrace ∷ at (place 4) signs.Semicolon ∷ at (place 5) signs.Int ∷ at (place 7) signs.Semicolon ∷ []
enumerated_is_constant = refl

-- enum { x = 2147483646 , y , z , a } ;: the comma behind z is wrong, and so is the brace of enum { x = 2147483647 , y }
counted_past_int : run start (items (signs.Enum ∷ signs.LeftBrace ∷ signs.Name 0 ∷ signs.Equals ∷ signs.Number (pos 2147483646) ∷ signs.Comma ∷ signs.Name 1 ∷ signs.Comma ∷ signs.Name 2 ∷ signs.Comma ∷ signs.Name 3 ∷ signs.RightBrace ∷ signs.Semicolon ∷ [])) ≡ Err 4
unfolding run
counted_past_int = refl

last_counted_past_int : run start (items (signs.Enum ∷ signs.LeftBrace ∷ signs.Name 0 ∷ signs.Equals ∷ signs.Number (pos 2147483647) ∷ signs.Comma ∷ signs.Name 1 ∷ signs.RightBrace ∷ signs.Semicolon ∷ [])) ≡ Err 2
unfolding run
last_counted_past_int = refl

-- enum { }, enum { x ;, enum { x , #if 0, enum x, static enum: the last item is wrong
no_enumerator : run start (items (signs.Enum ∷ signs.LeftBrace ∷ signs.RightBrace ∷ [])) ≡ Err 1
unfolding run
no_enumerator = refl

enumerator_and_semicolon : run start (items (signs.Enum ∷ signs.LeftBrace ∷ signs.Name 0 ∷ signs.Semicolon ∷ [])) ≡ Err 1
unfolding run
enumerator_and_semicolon = refl

group_between_enumerators : run start (items (signs.Enum ∷ signs.LeftBrace ∷ signs.Name 0 ∷ signs.Comma ∷ signs.GroupIf 0 ∷ [])) ≡ Err 1
unfolding run
group_between_enumerators = refl

enum_with_a_tag : run start (items (signs.Enum ∷ signs.Name 0 ∷ [])) ≡ Err 1
unfolding run
enum_with_a_tag = refl

static_enum : run start (items (signs.Static ∷ signs.Enum ∷ [])) ≡ Err 1
unfolding run
static_enum = refl

-- # define x 3, # define x - 3, # define x ( 3 ), # define x ( - 3 )
abbrev definitions : List Sign
definitions =
    signs.Define ∷ signs.Name 0 ∷ signs.Number (pos 3) ∷ signs.Define ∷ signs.Name 1 ∷ signs.Oper Sub ∷ signs.Number (pos 3) ∷ signs.Define ∷ signs.Name 2 ∷ signs.Open ∷ signs.Number (pos 3) ∷ signs.Close
    ∷ signs.Define ∷ signs.Name 3 ∷ signs.Open ∷ signs.Oper Sub ∷ signs.Number (pos 3) ∷ signs.Close ∷ []

constants_are_defined : run start (items (definitions ++ (head ++ signs.RightBrace ∷ []))) ≡ Ok (file_of (declared 0 (pos 3) [] ∷ declared 1 (negsuc 2) [] ∷ declared 2 (pos 3) [] ∷ declared 3 (negsuc 2) [] ∷ []) Done (place 23))
unfolding run
constants_are_defined = refl

-- # define x 3, int y ;: without the names of variables
defined_is_constant : of_constants (items (signs.Define ∷ signs.Name 0 ∷ signs.Number (pos 3) ∷ signs.Int ∷ signs.Name 1 ∷ signs.Semicolon ∷ []))
    ≡ at (place 0) signs.Define ∷ at (place 1) (signs.Name 0) ∷ at (place 2) (signs.Number (pos 3)) ∷ at (place 3) signs.Int ∷ at (place 5) signs.Semicolon ∷ []
defined_is_constant = refl

-- # define x ;, # define x ( ( 3, # define x ( 3 int, # define x 3 ;, int # define, and # define in main: the last item is wrong
defined_without_a_value : run start (items (signs.Define ∷ signs.Name 0 ∷ signs.Semicolon ∷ [])) ≡ Err 1
unfolding run
defined_without_a_value = refl

defined_in_two_parentheses : run start (items (signs.Define ∷ signs.Name 0 ∷ signs.Open ∷ signs.Open ∷ [])) ≡ Err 1
unfolding run
defined_in_two_parentheses = refl

defined_in_an_open_parenthesis : run start (items (signs.Define ∷ signs.Name 0 ∷ signs.Open ∷ signs.Number (pos 3) ∷ signs.Int ∷ [])) ≡ Err 1
unfolding run
defined_in_an_open_parenthesis = refl

defined_with_a_semicolon : run start (items (signs.Define ∷ signs.Name 0 ∷ signs.Number (pos 3) ∷ signs.Semicolon ∷ [])) ≡ Err 1
unfolding run
defined_with_a_semicolon = refl

defined_in_a_declaration : run start (items (signs.Int ∷ signs.Define ∷ [])) ≡ Err 1
unfolding run
defined_in_a_declaration = refl

defined_in_main : run start (items (head ++ signs.Define ∷ [])) ≡ Err 1
unfolding run
defined_in_main = refl

defined_behind_main : run start (items (head ++ signs.RightBrace ∷ signs.Define ∷ [])) ≡ Err 1
unfolding run
defined_behind_main = refl

-- const int const x, const static int, const int main: the second `const`, `static` and `main` are wrong
const_twice : run start (items (signs.Const ∷ signs.Int ∷ signs.Const ∷ signs.Name 0 ∷ [])) ≡ Err 2
unfolding run
const_twice = refl

const_before_static : run start (items (signs.Const ∷ signs.Static ∷ signs.Int ∷ [])) ≡ Err 2
unfolding run
const_before_static = refl

constant_main : run start (items (signs.Const ∷ head)) ≡ Err 4
unfolding run
constant_main = refl

-- x = , x %= , x ++ , ++ x change x; x + does not
changes_of_a_name : changed_at (items (signs.Name 3 ∷ [])) (at (place 1) signs.Equals) ≡ Some (3, place 0)
changes_of_a_name = refl

update_of_a_name : changed_at (items (signs.Semicolon ∷ signs.Name 3 ∷ [])) (at (place 2) signs.PercentEquals) ≡ Some (3, place 1)
update_of_a_name = refl

count_of_a_name : changed_at (items (signs.Name 3 ∷ [])) (at (place 1) signs.MinusMinus) ≡ Some (3, place 0)
count_of_a_name = refl

count_before_a_name : changed_at (items (signs.Semicolon ∷ signs.PlusPlus ∷ [])) (at (place 2) (signs.Name 3)) ≡ Some (3, place 2)
count_before_a_name = refl

no_change_of_a_name : changed_at (items (signs.Name 3 ∷ [])) (at (place 1) (signs.Oper Add)) ≡ None
no_change_of_a_name = refl

-- in a declarator int x = changes nothing, and behind int x = 1 , y ; the name in x = is changed
no_change_in_a_declarator : changed_at (items (signs.Int ∷ signs.Name 3 ∷ [])) (at (place 2) signs.Equals) ≡ None
no_change_in_a_declarator = refl

change_behind_a_declaration : changed_at (items (signs.Int ∷ signs.Name 3 ∷ signs.Equals ∷ signs.Number (pos 1) ∷ signs.Comma ∷ signs.Name 4 ∷ signs.Semicolon ∷ signs.Name 3 ∷ [])) (at (place 8) signs.Equals) ≡ Some (3, place 7)
change_behind_a_declaration = refl

-- int main ( ) { int x = 1 , y ; }
declared_in_main : run start (items (head ++ signs.Int ∷ signs.Name 0 ∷ signs.Equals ∷ signs.Number (pos 1) ∷ signs.Comma ∷ signs.Name 1 ∷ signs.Semicolon ∷ signs.RightBrace ∷ []))
    ≡ Ok (file_of [] (Assign (place 6) 0 (Number (pos 1)) (Input (place 10) 1 Done)) (place 12))
unfolding run
declared_in_main = refl

-- int main ( ) { const int x = 2 ; int const y = input ( ) ; }
constants_in_main : run start (items (head ++ signs.Const ∷ signs.Int ∷ signs.Name 0 ∷ signs.Equals ∷ signs.Number (pos 2) ∷ signs.Semicolon ∷ signs.Int ∷ signs.Const ∷ signs.Name 1 ∷ signs.Equals ∷ signs.Input ∷ signs.Open ∷ signs.Close ∷ signs.Semicolon ∷ signs.RightBrace ∷ []))
    ≡ Ok (file_of [] (Assign (place 7) 0 (Number (pos 2)) (Input (place 13) 1 Done)) (place 19))
unfolding run
constants_in_main = refl

-- const int x ;, if ( x ) int, int x #if 0 and int x = 1 , #if 0 in main: the last item is wrong
constant_in_main_without_a_value : run start (items (head ++ signs.Const ∷ signs.Int ∷ signs.Name 0 ∷ signs.Semicolon ∷ [])) ≡ Err 1
unfolding run
constant_in_main_without_a_value = refl

declaration_behind_a_condition : run start (items (head ++ signs.If ∷ signs.Open ∷ signs.Name 0 ∷ signs.Close ∷ signs.Int ∷ [])) ≡ Err 1
unfolding run
declaration_behind_a_condition = refl

group_in_a_declarator : run start (items (head ++ signs.Int ∷ signs.Name 0 ∷ signs.GroupIf 0 ∷ [])) ≡ Err 1
unfolding run
group_in_a_declarator = refl

group_between_declarators : run start (items (head ++ signs.Int ∷ signs.Name 0 ∷ signs.Equals ∷ signs.Number (pos 1) ∷ signs.Comma ∷ signs.GroupIf 0 ∷ [])) ≡ Err 1
unfolding run
group_between_declarators = refl

-- int main ( ) { x += 2 * y - 1 ; return 0 ; }
updated_by_an_expression : run start (items (head ++ signs.Name 0 ∷ signs.PlusEquals ∷ signs.Number (pos 2) ∷ signs.Oper Mul ∷ signs.Name 1 ∷ signs.Oper Sub ∷ signs.Number (pos 1) ∷ signs.Semicolon ∷ signs.Return ∷ signs.Number (pos 0) ∷ signs.Semicolon ∷ signs.RightBrace ∷ []))
    ≡ Ok (file_of [] (Assign (place 5) 0 (Binary Add (Var 0) (Binary Sub (Binary Mul (Number (pos 2)) (Var 1)) (Number (pos 1)))) (Leave (place 13) (Return (Number (pos 0))) Done)) (place 16))
unfolding run
updated_by_an_expression = refl

-- int main ( ) { x %= y + 2 ; -- y ; ++ x ; }
updated_and_counted : run start (items (head ++ signs.Name 0 ∷ signs.PercentEquals ∷ signs.Name 1 ∷ signs.Oper Add ∷ signs.Number (pos 2) ∷ signs.Semicolon ∷ signs.MinusMinus ∷ signs.Name 1 ∷ signs.Semicolon ∷ signs.PlusPlus ∷ signs.Name 0 ∷ signs.Semicolon ∷ signs.RightBrace ∷ []))
    ≡ Ok (file_of [] (Assign (place 5) 0 (Binary Rem (Var 0) (Binary Add (Var 1) (Number (pos 2)))) (Assign (place 11) 1 (Binary Sub (Var 1) (Number (pos 1))) (Assign (place 14) 0 (Binary Add (Var 0) (Number (pos 1))) Done))) (place 17))
unfolding run
updated_and_counted = refl

-- int main ( ) { x -- ; y = input ( ) ; assert ( x < 1 == y && ! - x || + y ) ; }
levels_of_operators : run start (items (head ++ signs.Name 0 ∷ signs.MinusMinus ∷ signs.Semicolon ∷ signs.Name 1 ∷ signs.Equals ∷ signs.Input ∷ signs.Open ∷ signs.Close ∷ signs.Semicolon
    ∷ signs.Assert ∷ signs.Open ∷ signs.Name 0 ∷ signs.Oper Lt ∷ signs.Number (pos 1) ∷ signs.Oper Eq ∷ signs.Name 1 ∷ signs.Oper And ∷ signs.Bang ∷ signs.Oper Sub ∷ signs.Name 0 ∷ signs.Oper Or ∷ signs.Oper Add ∷ signs.Name 1 ∷ signs.Close ∷ signs.Semicolon ∷ signs.RightBrace ∷ []))
    ≡ Ok (file_of [] (Assign (place 5) 0 (Binary Sub (Var 0) (Number (pos 1))) (Input (place 8) 1 (Assert (place 14) (Binary Or (Binary And (Binary Eq (Binary Lt (Var 0) (Number (pos 1))) (Var 1)) (Not (Neg (Var 0)))) (Var 1)) Done))) (place 30))
unfolding run
levels_of_operators = refl

-- extern int f ( void ) ; void g ( ) ; extern void h ( void ) ; int x ;: the functions leave nothing
abbrev functions : List Sign
functions =
    signs.Extern ∷ signs.Int ∷ signs.Function 0 ∷ signs.Open ∷ signs.Void ∷ signs.Close ∷ signs.Semicolon ∷ signs.Void ∷ signs.Function 1 ∷ signs.Open ∷ signs.Close ∷ signs.Semicolon
    ∷ signs.Extern ∷ signs.Void ∷ signs.Function 2 ∷ signs.Open ∷ signs.Void ∷ signs.Close ∷ signs.Semicolon ∷ signs.Int ∷ signs.Name 0 ∷ signs.Semicolon ∷ []

functions_leave_nothing : run start (items (functions ++ (head ++ signs.RightBrace ∷ []))) ≡ Ok (file_of (declared 0 (pos 0) [] ∷ []) Done (place 27))
unfolding run
functions_leave_nothing = refl

-- int main ( ) { f ( ) ; ( void ) input ( ) ; x = g ( ) ; }
calls_and_inputs : run start (items (head ++ signs.Function 0 ∷ signs.Open ∷ signs.Close ∷ signs.Semicolon ∷ signs.Open ∷ signs.Void ∷ signs.Close ∷ signs.Input ∷ signs.Open ∷ signs.Close ∷ signs.Semicolon
    ∷ signs.Name 0 ∷ signs.Equals ∷ signs.Function 1 ∷ signs.Open ∷ signs.Close ∷ signs.Semicolon ∷ signs.RightBrace ∷ []))
    ≡ Ok (file_of [] (Skip (place 5) (Skip (place 9) (Input (place 16) 0 Done))) (place 22))
unfolding run
calls_and_inputs = refl

-- void input, void x, static void, x = 1 + f, x = f ( ) +, f ( 1, ( x, ( void ) x, f #if 0: the last item is wrong
void_input : run start (items (signs.Void ∷ signs.Input ∷ [])) ≡ Err 1
unfolding run
void_input = refl

void_variable : run start (items (signs.Void ∷ signs.Name 0 ∷ [])) ≡ Err 1
unfolding run
void_variable = refl

static_void : run start (items (signs.Static ∷ signs.Void ∷ [])) ≡ Err 1
unfolding run
static_void = refl

call_in_an_expression : run start (items (head ++ signs.Name 0 ∷ signs.Equals ∷ signs.Number (pos 1) ∷ signs.Oper Add ∷ signs.Function 0 ∷ [])) ≡ Err 1
unfolding run
call_in_an_expression = refl

expression_behind_a_call : run start (items (head ++ signs.Name 0 ∷ signs.Equals ∷ signs.Function 0 ∷ signs.Open ∷ signs.Close ∷ signs.Oper Add ∷ [])) ≡ Err 1
unfolding run
expression_behind_a_call = refl

call_with_an_argument : run start (items (head ++ signs.Function 0 ∷ signs.Open ∷ signs.Number (pos 1) ∷ [])) ≡ Err 1
unfolding run
call_with_an_argument = refl

statement_in_parentheses : run start (items (head ++ signs.Open ∷ signs.Name 0 ∷ [])) ≡ Err 1
unfolding run
statement_in_parentheses = refl

void_of_a_variable : run start (items (head ++ signs.Open ∷ signs.Void ∷ signs.Close ∷ signs.Name 0 ∷ [])) ≡ Err 1
unfolding run
void_of_a_variable = refl

group_in_a_call : run start (items (head ++ signs.Function 0 ∷ signs.GroupIf 0 ∷ [])) ≡ Err 1
unfolding run
group_in_a_call = refl

-- assert ( 0 || 1 && 2 E 3 R 4 S 5 P 6 ) ; with an equality E, a relation R, a sum S and a product P
abbrev chain : Op → Op → Op → Op → List Sign
chain e r s p =
    signs.Assert ∷ signs.Open ∷ signs.Name 0 ∷ signs.Oper Or ∷ signs.Name 1 ∷ signs.Oper And ∷ signs.Name 2 ∷ signs.Oper e ∷ signs.Name 3 ∷ signs.Oper r
    ∷ signs.Name 4 ∷ signs.Oper s ∷ signs.Name 5 ∷ signs.Oper p ∷ signs.Name 6 ∷ signs.Close ∷ signs.Semicolon ∷ []

abbrev IsNested : Op → Op → Op → Op → Type 0
IsNested e r s p =
    run start (items (head ++ (chain e r s p ++ signs.RightBrace ∷ [])))
    ≡ Ok (file_of [] (Assert (place 5) (Binary Or (Var 0) (Binary And (Var 1) (Binary e (Var 2) (Binary r (Var 3) (Binary s (Var 4) (Binary p (Var 5) (Var 6))))))) Done) (place 22))

nested_first : IsNested Eq Lt Add Mul
unfolding run
nested_first = refl

nested_second : IsNested Ne Le Sub Div
unfolding run
nested_second = refl

nested_third : IsNested Eq Gt Add Rem
unfolding run
nested_third = refl

nested_fourth : IsNested Ne Ge Sub Mul
unfolding run
nested_fourth = refl

-- int main ( ) { if ( x ) if ( y ) ; else { } }
nearest_if_has_the_else : run start (items (head ++ signs.If ∷ signs.Open ∷ signs.Name 0 ∷ signs.Close ∷ signs.If ∷ signs.Open ∷ signs.Name 1 ∷ signs.Close ∷ signs.Semicolon ∷ signs.Else ∷ signs.LeftBrace ∷ signs.RightBrace ∷ signs.RightBrace ∷ []))
    ≡ Ok (file_of [] (If (place 5) (Var 0) (If (place 9) (Var 1) (Skip (place 13) Done) (Block (place 15) Done Done) Done) Done Done) (place 17))
unfolding run
nearest_if_has_the_else = refl

-- for ( ; ; ) ;: the test is 1, at the second semicolon
abbrev endless : List Sign
endless = signs.For ∷ signs.Open ∷ signs.Semicolon ∷ signs.Semicolon ∷ signs.Close ∷ []

-- int main ( ) { for ( ; ; ) ; }
loop_without_a_test : run start (items (head ++ (endless ++ signs.Semicolon ∷ signs.RightBrace ∷ []))) ≡ Ok (file_of [] (While (place 8) (Number (pos 1)) Done (Skip (place 10) Done) Done) (place 11))
unfolding run
loop_without_a_test = refl

-- int main ( ) { for ( x = 0 ; x < 3 ; x ++ ) x = 1 ; }
loop_with_a_step : run start (items (head ++ signs.For ∷ signs.Open ∷ signs.Name 0 ∷ signs.Equals ∷ signs.Number (pos 0) ∷ signs.Semicolon ∷ signs.Name 0 ∷ signs.Oper Lt ∷ signs.Number (pos 3) ∷ signs.Semicolon ∷ signs.Name 0 ∷ signs.PlusPlus ∷ signs.Close ∷ signs.Name 0 ∷ signs.Equals ∷ signs.Number (pos 1) ∷ signs.Semicolon ∷ signs.RightBrace ∷ []))
    ≡ Ok (file_of [] (Assign (place 7) 0 (Number (pos 0)) (While (place 11) (Binary Lt (Var 0) (Number (pos 3))) (Assign (place 15) 0 (Binary Add (Var 0) (Number (pos 1))) Done) (Assign (place 18) 0 (Number (pos 1)) Done) Done)) (place 22))
unfolding run
loop_with_a_step = refl

-- int main ( ) { for ( x = input ( ) ; - ( x ) ; y -= x + 2 ) { } for ( ++ x ; ; ) ; }
loops_with_changes : run start (items (head ++ signs.For ∷ signs.Open ∷ signs.Name 0 ∷ signs.Equals ∷ signs.Input ∷ signs.Open ∷ signs.Close ∷ signs.Semicolon ∷ signs.Oper Sub ∷ signs.Open ∷ signs.Name 0 ∷ signs.Close ∷ signs.Semicolon
    ∷ signs.Name 1 ∷ signs.MinusEquals ∷ signs.Name 0 ∷ signs.Oper Add ∷ signs.Number (pos 2) ∷ signs.Close ∷ signs.LeftBrace ∷ signs.RightBrace ∷ signs.For ∷ signs.Open ∷ signs.PlusPlus ∷ signs.Name 0 ∷ signs.Semicolon ∷ signs.Semicolon ∷ signs.Close ∷ signs.Semicolon ∷ signs.RightBrace ∷ []))
    ≡ Ok (file_of [] (Input (place 7) 0 (While (place 13) (Neg (Var 0)) (Assign (place 18) 1 (Binary Sub (Var 1) (Binary Add (Var 0) (Number (pos 2)))) Done) (Block (place 24) Done Done) (Assign (place 28) 0 (Binary Add (Var 0) (Number (pos 1))) (While (place 31) (Number (pos 1)) Done (Skip (place 33) Done) Done)))) (place 34))
unfolding run
loops_with_changes = refl

-- int main ( ) { for ( ; ; ) if ( x ) ; else ; }, and int main ( ) { if ( x ) for ( ; ; ) ; else ; }
else_in_a_loop : run start (items (head ++ (endless ++ signs.If ∷ signs.Open ∷ signs.Name 0 ∷ signs.Close ∷ signs.Semicolon ∷ signs.Else ∷ signs.Semicolon ∷ signs.RightBrace ∷ [])))
    ≡ Ok (file_of [] (While (place 8) (Number (pos 1)) Done (If (place 10) (Var 0) (Skip (place 14) Done) (Skip (place 16) Done) Done) Done) (place 17))
unfolding run
else_in_a_loop = refl

else_behind_a_loop : run start (items (head ++ signs.If ∷ signs.Open ∷ signs.Name 0 ∷ signs.Close ∷ (endless ++ signs.Semicolon ∷ signs.Else ∷ signs.Semicolon ∷ signs.RightBrace ∷ [])))
    ≡ Ok (file_of [] (If (place 5) (Var 0) (While (place 12) (Number (pos 1)) Done (Skip (place 14) Done) Done) (Skip (place 16) Done) Done) (place 17))
unfolding run
else_behind_a_loop = refl

-- for ( static, for ( x = 1 , for ( x = 1 ), for ( ; x ), for ( ; ; x = 1 ;, for ( ; ; f, for ( #if 0, for ( ; #if 0 and for ( ; ; ) #if 0 in main: the last item is wrong
static_in_a_loop : run start (items (head ++ signs.For ∷ signs.Open ∷ signs.Static ∷ [])) ≡ Err 1
unfolding run
static_in_a_loop = refl

comma_in_a_loop : run start (items (head ++ signs.For ∷ signs.Open ∷ signs.Name 0 ∷ signs.Equals ∷ signs.Number (pos 1) ∷ signs.Comma ∷ [])) ≡ Err 1
unfolding run
comma_in_a_loop = refl

loop_closed_behind_its_start : run start (items (head ++ signs.For ∷ signs.Open ∷ signs.Name 0 ∷ signs.Equals ∷ signs.Number (pos 1) ∷ signs.Close ∷ [])) ≡ Err 1
unfolding run
loop_closed_behind_its_start = refl

loop_closed_behind_its_test : run start (items (head ++ signs.For ∷ signs.Open ∷ signs.Semicolon ∷ signs.Name 0 ∷ signs.Close ∷ [])) ≡ Err 1
unfolding run
loop_closed_behind_its_test = refl

semicolon_behind_a_step : run start (items (head ++ signs.For ∷ signs.Open ∷ signs.Semicolon ∷ signs.Semicolon ∷ signs.Name 0 ∷ signs.Equals ∷ signs.Number (pos 1) ∷ signs.Semicolon ∷ [])) ≡ Err 1
unfolding run
semicolon_behind_a_step = refl

call_as_a_step : run start (items (head ++ signs.For ∷ signs.Open ∷ signs.Semicolon ∷ signs.Semicolon ∷ signs.Function 0 ∷ [])) ≡ Err 1
unfolding run
call_as_a_step = refl

group_in_a_loop : run start (items (head ++ signs.For ∷ signs.Open ∷ signs.GroupIf 0 ∷ [])) ≡ Err 1
unfolding run
group_in_a_loop = refl

group_before_a_test : run start (items (head ++ signs.For ∷ signs.Open ∷ signs.Semicolon ∷ signs.GroupIf 0 ∷ [])) ≡ Err 1
unfolding run
group_before_a_test = refl

group_as_a_body : run start (items (head ++ (endless ++ signs.GroupIf 0 ∷ []))) ≡ Err 1
unfolding run
group_as_a_body = refl

-- int main ( ) { #if 0 ; #elif 1 #else ; #endif }, and #if 2 #endif behind it
in_groups : List Sign
in_groups = head ++ signs.GroupIf 0 ∷ signs.Semicolon ∷ signs.GroupElif 1 ∷ signs.GroupElse ∷ signs.Semicolon ∷ signs.GroupEnd ∷ signs.RightBrace ∷ signs.GroupIf 2 ∷ signs.GroupEnd ∷ []

elif_is_in_the_no_side : run start (items in_groups) ≡ Ok (file_of [] (Cond 0 (Skip (place 6) Done) (Cond 1 Done (Skip (place 9) Done) Done) Done) (place 11))
unfolding run in_groups
elif_is_in_the_no_side = refl

-- with the truths 0 and 0 the last side stays
last_side_stays : kept (false ∷ false ∷ true ∷ []) (items in_groups) ≡ placed 0 head ++ (at (place 9) signs.Semicolon ∷ at (place 11) signs.RightBrace ∷ [])
unfolding in_groups
last_side_stays = refl

-- #if 0 int x ; #elif 1 #if 2 int y ; #endif #else int x = 1 ; #endif int main ( ) { }
guards_in_order : run start (items (signs.GroupIf 0 ∷ signs.Int ∷ signs.Name 0 ∷ signs.Semicolon ∷ signs.GroupElif 1 ∷ signs.GroupIf 2 ∷ signs.Int ∷ signs.Name 1 ∷ signs.Semicolon ∷ signs.GroupEnd ∷ signs.GroupElse ∷ signs.Int ∷ signs.Name 0 ∷ signs.Equals ∷ signs.Number (pos 1) ∷ signs.Semicolon ∷ signs.GroupEnd ∷ (head ++ signs.RightBrace ∷ [])))
    ≡ Ok (file_of (declared 0 (pos 0) (guard 0 true ∷ []) ∷ declared 1 (pos 0) (guard 0 false ∷ guard 1 true ∷ guard 2 true ∷ []) ∷ declared 0 (pos 1) (guard 0 false ∷ guard 1 false ∷ []) ∷ []) Done (place 22))
unfolding run
guards_in_order = refl

-- int main ( ) { x = ; }: the semicolon is wrong; int main ( ) { x = 1 ;: the end is
wrong_semicolon : run start (items (head ++ signs.Name 0 ∷ signs.Equals ∷ signs.Semicolon ∷ signs.RightBrace ∷ [])) ≡ Err 2
unfolding run
wrong_semicolon = refl

wrong_end : run start (items (head ++ signs.Name 0 ∷ signs.Equals ∷ signs.Number (pos 1) ∷ signs.Semicolon ∷ [])) ≡ Err 0
unfolding run
wrong_end = refl

-- so many signs in front
unfoldable pub in_front : ℕ → Sign → List Sign → List Sign
in_front zero s rest = rest
in_front (suc n) s rest = s ∷ in_front n s rest

-- 64 blocks may be open, and an expression may have 64 operators; the next one is too deep
one_block_more : guarded start 0 (items (head ++ in_front 65 signs.LeftBrace (signs.Semicolon ∷ []))) ≡ Err (Deep 2)
unfolding guarded in_front
one_block_more = refl

one_operator_more : guarded start 0 (items (head ++ signs.Name 0 ∷ signs.Equals ∷ in_front 65 (signs.Oper Sub) (signs.Name 0 ∷ []))) ≡ Err (Deep 2)
unfolding guarded in_front
one_operator_more = refl

enough_operators : guarded start 0 (items (head ++ signs.If ∷ signs.Open ∷ in_front 64 (signs.Oper Sub) (signs.Name 0 ∷ []))) ≡ Err (Wrong 0)
unfolding guarded in_front
enough_operators = refl

enough_blocks : guarded start 0 (items (head ++ in_front 64 signs.LeftBrace [])) ≡ Err (Wrong 0)
unfolding guarded in_front
enough_blocks = refl

-- the test of a for has its own operators
one_more_in_a_test : guarded start 0 (items (head ++ signs.For ∷ signs.Open ∷ signs.Semicolon ∷ in_front 65 (signs.Oper Sub) (signs.Name 0 ∷ []))) ≡ Err (Deep 2)
unfolding guarded in_front
one_more_in_a_test = refl

enough_in_a_test : guarded start 0 (items (head ++ signs.For ∷ signs.Open ∷ signs.Name 0 ∷ signs.Equals ∷ signs.Bang ∷ signs.Name 0 ∷ signs.Semicolon ∷ in_front 64 (signs.Oper Sub) (signs.Name 0 ∷ []))) ≡ Err (Wrong 0)
unfolding guarded in_front
enough_in_a_test = refl
