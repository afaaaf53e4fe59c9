-- The items of a file with groups have whole sections.
use Rattle.std.proofs.Common.{◌≡◌, ℕ, Bool, true, false, ◌||◌, cond, List, [], ◌∷◌, ◌++◌, Option, None, Result, Ok, Err, refl, sym, ap, subst, ◌∙◌}
use Rattle.std.specs.List.{filter}
use Rattle.std.proofs.lemmas.List.{map-append}
use Rattle.fam_outer.specs.declared.faults.FileCode.{FileCode}
use Rattle.fam_outer.specs.declared.faults.Place.{Place}
use Rattle.fam_outer.specs.Results.{and_then}
use Rattle.cpp_groups.specs.declared.directive.GroupDirective.{GroupDirective}
use Rattle.c_tokens.specs.declared.token.Token.{Token}
use Rattle.c_tokens.specs.Reading.{tokens_of}
use Rattle.cpp_lines.specs.declared.line.Line.{Line}
use Rattle.cpp_lines.specs.declared.line.LineKind.{LineKind}
use Rattle.cpp_lines.specs.declared.line.LineKind.TheVariants as kinds
use Rattle.cpp_lines.specs.Code.{code_of}
use Rattle.cpp_lines.specs.Preprocessed.{group_of}
use Rattle.c_grammar.specs.declared.items.Item.{Item}
use Rattle.c_grammar.specs.declared.items.Sign.{Sign}
use Rattle.c_grammar.specs.declared.items.Sign.TheVariants as signs
use Rattle.c_grammar.specs.Grammar.{is_group, has_groups}
use Rattle.c_grammar.specs.Kept.{directive_of}
use Rattle.c_grammar.proofs.Keeping.{neither}
use Rattle.c_parser.specs.FamilyItems.{feature_names, group_sign, or_directive, stands_in, items_of_line, by_line}
use Rattle.c_parser.specs.Functions.{own_functions}
use Rattle.c_parser.specs.Items.{Listed, listed, names_from, items_over, lexeme_in}
use Rattle.c_parser.specs.Order.{arranged}
use Rattle.c_parser.specs.Reading.{items_of_code}
use Rattle.c_parser.proofs.KeptItems.{sign_plain}
use Rattle.reading_laws.specs.Sectioned.{Directives, Group, IsSectioned}
use Rattle.reading_laws.specs.Staying.{item_groups, ItemsAreSectioned}
use Rattle.reading_laws.proofs.Walking.{AreNone, Fills, filled, text_closes}

-- ---- tokens are no directives

over_plain : (functions names : List (List ℕ)) (text : List ℕ) (ts : List Token) → has_groups (items_over functions names text ts) ≡ false
over_plain functions names text [] = refl
over_plain functions names text (t ∷ ts) = ap (λ (b : Bool). b || has_groups (items_over functions names text ts)) (sign_plain functions names t.kind (lexeme_in text t)) ∙ over_plain functions names text ts

abbrev listed_ok : Listed → Result Listed (FileCode × Place)
listed_ok l = Ok l

plain_from : (functions given : List (List ℕ)) (code : List ℕ) (l : Listed) (r : Result (List Token) (FileCode × Place)) → and_then r (λ ts. listed_ok (listed functions given code ts)) ≡ listed_ok l → has_groups l.items ≡ false
plain_from functions given code l (Ok ts) e =
    let is : listed functions given code ts ≡ l = (let k : listed_ok (listed functions given code ts) ≡ listed_ok l = e in cc) in
    subst (λ (k : Listed). has_groups k.items ≡ false) is (over_plain functions (names_from functions code given ts) code ts)
plain_from functions given code l (Err fault) e = absurd cc

code_plain : (functions given : List (List ℕ)) (code : List ℕ) (l : Listed) → items_of_code functions given code ≡ Ok l → has_groups l.items ≡ false
code_plain functions given code l e = plain_from functions given code l (tokens_of code) e

-- ---- what stands for a line

-- a sign that is none is a sign of no directive
sign_none : (s : Sign) → is_group s ≡ false → directive_of s ≡ None
sign_none (signs.GroupIf n) h = absurd cc
sign_none (signs.GroupElif n) h = absurd cc
sign_none signs.GroupElse h = absurd cc
sign_none signs.GroupEnd h = absurd cc
sign_none _ h = refl

none_of_line : (n : ℕ) (xs : List Item) → has_groups xs ≡ false → AreNone (item_groups (filter (stands_in n) xs))
none_of_line n [] h = tt
none_of_line n (x ∷ xs) h =
    let r = neither (is_group x.sign) (has_groups xs) h in
    let rest : AreNone (item_groups (filter (stands_in n) xs)) = none_of_line n xs r.1 in
    elim (stands_in n x) as (λ b. AreNone (item_groups (cond b (x ∷ filter (stands_in n) xs) (filter (stands_in n) xs)))) [
      | true ↦ subst (λ (o : Option GroupDirective). AreNone (o ∷ item_groups (filter (stands_in n) xs))) (sym (sign_none x.sign r.0)) rest
      | false ↦ rest
    ]

line_fills : (kind : LineKind) (place : Place) (xs : List Item) → AreNone (item_groups xs) → Fills (group_of kind) (item_groups (or_directive (group_sign kind) place xs))
line_fills (kinds.If n) place xs h = refl
line_fills (kinds.Elif n) place xs h = refl
line_fills kinds.Else place xs h = refl
line_fills kinds.Endif place xs h = refl
line_fills _ place xs h = h

groups_both : (xs ys : List Item) → item_groups (xs ++ ys) ≡ item_groups xs ++ item_groups ys
groups_both xs ys = map-append (λ (x : Item). directive_of x.sign) xs ys

line_by_line : (ls : List Line) (xs : List Item) → filled (λ l. item_groups (items_of_line l xs)) ls ≡ item_groups (by_line ls xs)
line_by_line [] xs = refl
line_by_line (l ∷ ls) xs =
    ap (λ (ds : Directives). item_groups (items_of_line l xs) ++ ds) (line_by_line ls xs) ∙ sym (groups_both (items_of_line l xs) (by_line ls xs))

pub items_are_sectioned : ItemsAreSectioned
items_are_sectioned dialect model bytes told l h =
    let plain : has_groups h.tokens.items ≡ false = code_plain (own_functions (code_of h.blanked)) (arranged (feature_names model) h.first) (code_of h.blanked) h.tokens h.tokens_are in
    let whole : IsSectioned Group (item_groups (by_line told.lines h.tokens.items)) =
    subst (IsSectioned Group) (line_by_line told.lines h.tokens.items)
    (text_closes (λ k. item_groups (items_of_line k h.tokens.items)) (λ k. line_fills k.kind k.place (filter (stands_in k.place.line) h.tokens.items) (none_of_line k.place.line h.tokens.items plain)) dialect model h.blanked told h.read) in
    subst (λ (k : Listed). IsSectioned Group (item_groups k.items)) (sym h.is) whole
