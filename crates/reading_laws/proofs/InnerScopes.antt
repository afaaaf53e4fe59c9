-- The names in scope behind statements of `main` in which no `for` declares variables, and the constants among them, are those before the
-- statements and those that the grammar declares in these, outside of blocks.
use Rattle.std.proofs.Common.{◌≡◌, ℕ, Bool, true, false, List, [], ◌∷◌, ◌++◌, refl, sym, ap, ◌∙◌, append-nil}
use Rattle.fam_outer.specs.declared.faults.Place.{Place}
use Rattle.cpp_groups.specs.declared.section.Section.{Section}
use Rattle.c_tree.specs.Tree.{Code}
use Rattle.c_grammar.specs.declared.constants.NameKind.{NameKind}
use Rattle.c_grammar.specs.declared.constants.NameKind.TheVariants as kinds
use Rattle.c_grammar.specs.declared.items.Item.{Item}
use Rattle.c_grammar.specs.declared.items.Sign.{Sign}
use Rattle.c_grammar.specs.declared.items.Sign.TheVariants as signs
use Rattle.c_grammar.specs.Constants.{constants_from, of_constants}
use Rattle.c_grammar.specs.Grammar.{at, Listed, Writes}
use Rattle.c_grammar.specs.Kept.{kept, kept_from}
use Rattle.c_grammar.specs.Locals.{declares_behind, declarations_from, of_declarations, names_of}
use Rattle.c_grammar.specs.LocalsOf.{scope_in, constant_scope_in}
use Rattle.c_grammar.specs.Scopes.{scoped_from, in_scope}
use Rattle.c_grammar.proofs.Declaring.{declarations_more}
use Rattle.c_grammar.proofs.Scoping.{main_among, names_more}
use Rattle.c_grammar.proofs.ScopingBlocks.{IsBalanced, code_balanced, declarations_balanced, scoped_more}
use Rattle.for_blocks.specs.Laws.{NoneDeclares}
use Rattle.family_names.specs.AroundMain.{has_main}
use Rattle.family_names.specs.Names.{sections_behind, in_scope_at, constants_at}
use Rattle.family_names.proofs.Declared.{kept_append}
use Rattle.family_names.proofs.Holding.{from_main, from_sections}
use Rattle.c_parser.specs.Names.{targets}
use Rattle.reading_laws.specs.Declaring.{holding, BeginsInMain, InnerScopesHold}
use Rattle.reading_laws.proofs.InnerNames.{kept_here, piece_holds}
use Rattle.reading_laws.proofs.InnerConstants.{constants_here, constants_of_piece}
use Rattle.reading_laws.proofs.Pieces.{piece_of}
use Rattle.reading_laws.proofs.Scoping.{constants_balanced, constants_append, sections_declared, sections_scoped}

-- ---- items behind others in `main`

-- what is declared behind items in `main`
declared_behind : (before us : List Item) → has_main before ≡ true → of_declarations (before ++ us) ≡ of_declarations before ++ declarations_from true (declares_behind before) us
declared_behind before us m = declarations_more before us ∙ ap (λ (b : Bool). of_declarations before ++ declarations_from b (declares_behind before) us) m

-- what is in scope behind them
scoped_behind : (before us : List Item) → has_main before ≡ true → IsBalanced us → in_scope (before ++ us) ≡ in_scope before ++ scoped_from 0 true (declarations_from true (declares_behind before) us)
scoped_behind before us m c =
    let d : Bool = declares_behind before in
    let more : List Item = declarations_from true d us in
    ap (scoped_from 0 false) (declared_behind before us m) ∙ scoped_more 0 false (of_declarations before) more (declarations_balanced true d us c)
    ∙ ap (λ (b : Bool). in_scope before ++ scoped_from 0 b more) (main_among before ∙ m)

-- where the conditions have truths
scope_behind : (t : List Bool) (before us : List Item) → has_main before ≡ true → IsBalanced us → in_scope_at t (before ++ us) ≡ in_scope_at t before ++ kept_here t (sections_behind t [] before) (declares_behind before) us
scope_behind t before us m c =
    let more : List Item = scoped_from 0 true (declarations_from true (declares_behind before) us) in
    let secs : sections_behind t [] (in_scope before) ≡ sections_behind t [] before = sections_scoped t [] false (of_declarations before) ∙ sections_declared t [] false false before in
    ap (λ (w : List Item). names_of (kept t w)) (scoped_behind before us m c) ∙ ap names_of (kept_append t [] (in_scope before) more)
    ∙ names_more (kept t (in_scope before)) (kept_from t (sections_behind t [] (in_scope before)) more)
    ∙ ap (λ (s : List Section). in_scope_at t before ++ names_of (kept_from t s more)) secs

-- ---- constants

-- before the first constant there is a word of its declaration, so that it is the same what they stand behind
first_declared : (a b : Bool) (s : Sign) (p : Place) (w : List Item) → declarations_from true a (constants_from kinds.Variable w) ≡ declarations_from true b (constants_from kinds.Variable w)
    → declarations_from true a (constants_from kinds.Variable (at p s ∷ w)) ≡ declarations_from true b (constants_from kinds.Variable (at p s ∷ w))
first_declared a b (signs.Name x) p w go = go
first_declared true true s p w go = refl
first_declared true false s p w go = refl
first_declared false true s p w go = refl
first_declared false false s p w go = refl

any_declaring : (a b : Bool) (w : List Item) → declarations_from true a (constants_from kinds.Variable w) ≡ declarations_from true b (constants_from kinds.Variable w)
any_declaring a b [] = refl
any_declaring a b (x ∷ xs) = first_declared a b x.sign x.place xs (any_declaring a b xs)

-- ---- statements

names_hold : (t : List Bool) (i : Bool) (before us : List Item) (c : Code) → (w : Writes (Listed i) us c) → NoneDeclares us → BeginsInMain t before → in_scope_at t (before ++ us) ≡ in_scope_at t before ++ targets (holding t (scope_in [] w))
names_hold t i before us c w none begins =
    let secs : List Section = sections_behind t [] before in
    let held : List ℕ = targets (holding t (scope_in [] w)) in
    let here : kept_here t secs false us ≡ held =
    ap (kept_here t secs false) (sym (append-nil us)) ∙ piece_holds t (piece_of [] w none) secs (sym begins.kept) [] true refl ∙ append-nil held in
    scope_behind t before us begins.main (code_balanced w)
    ∙ ap (λ (b : Bool). in_scope_at t before ++ kept_here t secs b us) begins.free
    ∙ ap (λ (ns : List ℕ). in_scope_at t before ++ ns) here

constants_hold : (t : List Bool) (i : Bool) (before us : List Item) (c : Code) → (w : Writes (Listed i) us c) → NoneDeclares us → BeginsInMain t before → constants_at t (before ++ us) ≡ constants_at t before ++ targets (holding t (constant_scope_in [] w))
constants_hold t i before us c w none begins =
    let secs : List Section = sections_behind t [] before in
    let held : List ℕ = targets (holding t (constant_scope_in [] w)) in
    let d : Bool = declares_behind (of_constants before) in
    let here : constants_here t secs false us ≡ held =
    ap (constants_here t secs false) (sym (append-nil us)) ∙ constants_of_piece t (piece_of [] w none) secs (sym begins.kept) [] true refl ∙ append-nil held in
    ap (in_scope_at t) (constants_append kinds.Variable before us)
    ∙ ap (λ (kind : NameKind). in_scope_at t (of_constants before ++ constants_from kind us)) begins.variable
    ∙ scope_behind t (of_constants before) (of_constants us) (from_main kinds.Variable before ∙ begins.main) (constants_balanced kinds.Variable us (code_balanced w))
    ∙ ap (λ (s : List Section). constants_at t before ++ kept_here t s d (of_constants us)) (from_sections t [] kinds.Variable before)
    ∙ ap (λ (ys : List Item). constants_at t before ++ names_of (kept_from t secs (scoped_from 0 true ys))) (any_declaring d false us)
    ∙ ap (λ (ns : List ℕ). constants_at t before ++ ns) here

pub inner_scopes_hold : InnerScopesHold
inner_scopes_hold t i before us c w none begins = record { names = names_hold t i before us c w none begins; constants = constants_hold t i before us c w none begins }
