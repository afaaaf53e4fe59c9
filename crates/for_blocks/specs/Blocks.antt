-- A `for` that declares variables, as the block that it is (ISO/IEC 9899:2011, 6.8.5p5), for the question which names are in scope: the text
-- `for (int i = 0; e; B) S` as `{ int i = 0; for (; e; B) S }`, where S is one statement.
use Rattle.std.specs.Prelude.{ℕ, zero, suc, nat_eq, Bool, true, false, ◌&&◌, List, [], ◌∷◌, ◌++◌, length, Option, Some, None, if◌then◌else◌}
use Rattle.c_grammar.specs.declared.items.Item.{Item}
use Rattle.c_grammar.specs.declared.items.Sign.{Sign}
use Rattle.c_grammar.specs.declared.items.Sign.TheVariants as signs
use Rattle.c_grammar.specs.Grammar.{at}
use Rattle.for_blocks.specs.declared.blocks.End.{End}
use Rattle.for_blocks.specs.declared.blocks.Part.{Part}
use Rattle.for_blocks.specs.declared.blocks.Part.TheVariants.{Elsewhere, AtParenthesis, InDeclaration}
use Rattle.c_grammar.specs.Scopes.{inner_behind}

-- ---- where a statement ends

-- how many parentheses are open in an outer one behind a sign, where so many are before it; none where the outer one is closed
abbrev pub parentheses_behind : ℕ → Sign → Option ℕ
parentheses_behind n signs.Open = Some (suc n)
parentheses_behind zero signs.Close = None
parentheses_behind (suc n) signs.Close = Some n
parentheses_behind n _ = Some n

abbrev pub closed_or : Option ℕ → (ℕ → List Item) → List Item → List Item
closed_or None go items = items
closed_or (Some n) go items = go n

-- the items behind what closes the outer parenthesis or brace, in which so many are open
unfoldable pub behind_closing : (ℕ → Sign → Option ℕ) → ℕ → List Item → List Item
behind_closing after n [] = []
behind_closing after n (x ∷ xs) = closed_or (after n x.sign) (λ m. behind_closing after m xs) xs

-- behind the parentheses that come next
abbrev pub behind_parentheses : List Item → List Item
behind_parentheses [] = []
behind_parentheses (x ∷ xs) = behind_closing parentheses_behind 0 xs

abbrev pub is_semicolon : Sign → Bool
is_semicolon signs.Semicolon = true
is_semicolon _ = false

-- behind the next semicolon
unfoldable pub behind_semicolon : List Item → List Item
behind_semicolon [] = []
behind_semicolon (x ∷ xs) = if is_semicolon x.sign then xs else behind_semicolon xs

abbrev pub is_else : Sign → Bool
is_else signs.Else = true
is_else _ = false

-- behind an `else` and its statement, where one comes
abbrev pub behind_else : (List Item → List Item) → List Item → List Item
behind_else go [] = []
behind_else go (x ∷ xs) = if is_else x.sign then go xs else x ∷ xs

-- behind a statement with this first sign, where this tells what is behind a statement in it
abbrev pub behind_first : (List Item → List Item) → Sign → List Item → List Item
behind_first go signs.If xs = behind_else go (go (behind_parentheses xs))
behind_first go signs.While xs = go (behind_parentheses xs)
behind_first go signs.For xs = go (behind_parentheses xs)
behind_first go signs.Do xs = behind_semicolon (go xs)
behind_first go signs.LeftBrace xs = behind_closing inner_behind 0 xs
behind_first go signs.Semicolon xs = xs
behind_first go _ xs = behind_semicolon xs

-- behind the statement that these items begin with, in which less than so many stand in one another
unfoldable pub behind_statement : ℕ → List Item → List Item
behind_statement zero items = items
behind_statement (suc k) [] = []
behind_statement (suc k) (x ∷ xs) = behind_first (behind_statement k) x.sign xs

-- ---- blocks

-- the first word of a declaration in a `for`
abbrev pub begins_type : Sign → Bool
begins_type signs.Const = true
begins_type signs.Int = true
begins_type signs.Int32 = true
begins_type signs.Signed = true
begins_type _ = false

abbrev pub is_for : Sign → Bool
is_for signs.For = true
is_for _ = false

abbrev pub is_opening : Sign → Bool
is_opening signs.Open = true
is_opening _ = false

-- an item with what follows it begins a `for` that declares variables
abbrev pub declares : Item → List Item → Bool
declares x (y ∷ z ∷ xs) = is_for x.sign && (is_opening y.sign && begins_type z.sign)
declares x _ = false

-- what an item becomes, where these follow it
abbrev pub in_block : Part → Item → List Item → List Item
in_block Elsewhere x xs = if declares x xs then at x.place signs.LeftBrace ∷ [] else x ∷ []
in_block (AtParenthesis p) x xs = []
in_block (InDeclaration p) x xs = if is_semicolon x.sign then x ∷ at p signs.For ∷ at p signs.Open ∷ at p signs.Semicolon ∷ [] else x ∷ []

abbrev pub part_behind : Part → Item → List Item → Part
part_behind Elsewhere x xs = if declares x xs then AtParenthesis x.place else Elsewhere
part_behind (AtParenthesis p) x xs = InDeclaration p
part_behind (InDeclaration p) x xs = if is_semicolon x.sign then Elsewhere else InDeclaration p

-- the constructs of a file stand at most 64 in one another
abbrev pub end_of : Item → List Item → End
end_of x xs = record { left = length (behind_statement 65 (x ∷ xs)); place = x.place }

-- the ends of the blocks that are open behind an item, the innermost first
abbrev pub ends_behind : Part → List End → Item → List Item → List End
ends_behind Elsewhere ends x xs = if declares x xs then end_of x xs ∷ ends else ends
ends_behind _ ends x xs = ends

-- a brace for each block that ends where so many items are left
abbrev pub closing : ℕ → List End → List Item
closing left [] = []
closing left (e ∷ ends) = if nat_eq left e.left then at e.place signs.RightBrace ∷ closing left ends else []

-- the blocks that do not
abbrev pub still_open : ℕ → List End → List End
still_open left [] = []
still_open left (e ∷ ends) = if nat_eq left e.left then still_open left ends else e ∷ ends

unfoldable pub unfolded_from : Part → List End → List Item → List Item
unfolded_from part ends [] = []
unfolded_from part ends (x ∷ xs) =
    closing (suc (length xs)) ends ++ (in_block part x xs ++ unfolded_from (part_behind part x xs) (ends_behind part (still_open (suc (length xs)) ends) x xs) xs)

-- the items, with a block for each `for` that declares variables
unfoldable pub unfolded : List Item → List Item
unfolded items = unfolded_from Elsewhere [] items
