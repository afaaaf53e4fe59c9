-- The names of a family are those that it declares, and features.
use Rattle.std.proofs.Common.{◌≡◌, ◌⊎◌, ℕ, zero, suc, ◌+◌, ◌<◌, nat_eq, Bool, true, false, not, ◌||◌, cond, List, [], ◌∷◌, ◌++◌, length, map, get_or, slice_get, Option, Some, None, Result, Ok, Err, refl, sym, ap, subst, ◌∙◌, append_assoc, append-nil, inl, inr, arith}
use Rattle.std.specs.Prelude.{if◌then◌else◌}
use Rattle.std.specs.List.{list_any}
use Rattle.std.specs.Str.{bytes_eq}
use Rattle.std.proofs.lemmas.Bool.{or_right, eqb-true, eq-eqb}
use Rattle.std.proofs.lemmas.Slice.Eq.{bytes_eq-Decides}
use Rattle.std.proofs.lemmas.List.{map-append}
use Rattle.std.proofs.lemmas.List.Elements.{filter-append}
use Rattle.std.proofs.lemmas.List.Folds.{list_any-append}
use Rattle.fam_outer.specs.declared.dialect.Dialect.{Dialect}
use Rattle.fam_outer.specs.declared.faults.Place.{Place}
use Rattle.fam_outer.specs.declared.faults.FileCode.{FileCode}
use Rattle.fam_outer.specs.Results.{and_then}
use Rattle.linear_atoms.specs.declared.atoms.Feature.{Feature}
use Rattle.cpp_conditions.specs.declared.models.Model.{Model}
use Rattle.cpp_conditions.specs.Validity.{plain}
use Rattle.cpp_lines.specs.declared.line.Line.{Line}
use Rattle.cpp_lines.specs.declared.line.LineKind.{LineKind}
use Rattle.cpp_lines.specs.declared.line.LineKind.TheVariants as lines
use Rattle.cpp_lines.specs.Code.{code_piece, code_of}
use Rattle.cpp_lines.specs.Lines.{pieces}
use Rattle.cpp_lines.specs.Sections.{Told}
use Rattle.c_tree.specs.Tree.{Whole}
use Rattle.c_tree.specs.View.{whole}
use Rattle.c_tokens.specs.declared.token.Token.{Token}
use Rattle.c_tokens.specs.Reading.{tokens_of}
use Rattle.c_grammar.specs.declared.items.Item.{Item}
use Rattle.c_grammar.specs.declared.items.Sign.{Sign}
use Rattle.c_grammar.specs.declared.items.Sign.TheVariants as signs
use Rattle.c_grammar.specs.Grammar.{at}
use Rattle.c_grammar.specs.Within.{WithinIsFile}
use Rattle.for_blocks.specs.Blocks.{unfolded}
use Rattle.family_names.specs.Names.{NameContext, name_of, names_of, declared_by, is_among, is_feature, is_feature_name, is_value, is_used_behind, IsEither}
use Rattle.family_names.proofs.Declared.{names_append, more_named, still_used, still_other}
use Rattle.c_parser.specs.declared.family.Family.{Family}
use Rattle.c_parser.specs.FamilyItems.{HasItems, feature_names, group_sign, or_directive}
use Rattle.c_parser.specs.FamilyReading.{IsFamilyOf, context_of}
use Rattle.c_parser.specs.Functions.{own_functions}
use Rattle.c_parser.specs.Items.{Listed, listed, with_name, names_from, items_over, AreDistinct}
use Rattle.c_parser.specs.Names.{names_at, each_once}
use Rattle.c_parser.specs.Order.{arranged}
use Rattle.c_parser.specs.Reading.{items_of_code}
use Rattle.c_parser.proofs.AmongNumbers.{or_cases}
use Rattle.c_parser.proofs.Arranging.{arranged_among}
use Rattle.c_parser.proofs.BlockNames.{BlockLaws}
use Rattle.c_parser.proofs.CodePieces.{lines_blank, same_length}
use Rattle.c_parser.proofs.FamilyNames.{by_line_of}
use Rattle.c_parser.proofs.KeptTexts.{TextLaws}
use Rattle.c_parser.proofs.LineItems.{by_both, HaveSameLength}
use Rattle.c_parser.proofs.Occurring.{AreBlank}
use Rattle.c_parser.proofs.OwnNames.{distinct_from}
use Rattle.c_parser.proofs.Renumbering.{fit_anew, listed_anew}
use Rattle.c_parser.proofs.TokenLines.{item_below, alone, by_piece}
use Rattle.reading_laws.specs.Declaring.{DeclarationsAreOfTheGrammar, FamiliesHaveDeclaredNames, AreFamilyNames, without_features}
use Rattle.reading_laws.proofs.KnownNames.{value_named, IsKnown, AreKnown, names_known}
use Rattle.reading_laws.proofs.Words.{words, names_are_words, items_are_words, names_below, AreIn, in_once, once_both}

-- ---- the names of a family's items are those of its tokens

no_group_name : (o : Option Sign) → o ≡ None → (place : Place) (xs : List Item) → names_of (or_directive o place xs) ≡ names_of xs
no_group_name o e place xs = ap (λ (p : Option Sign). names_of (or_directive p place xs)) e

kind_silent : (kind : LineKind) (place : Place) → names_of (or_directive (group_sign kind) place []) ≡ []
kind_silent (lines.If n) place = refl
kind_silent _ place = refl

group_silent : (l : Line) (xs : List Item) → xs ≡ [] → names_of (or_directive (group_sign l.kind) l.place xs) ≡ []
group_silent l xs e = ap (λ (ys : List Item). names_of (or_directive (group_sign l.kind) l.place ys)) e ∙ kind_silent l.kind l.place

line_names : (functions names : List (List ℕ)) (n : ℕ) (l : Line) (p : List ℕ) → (group_sign l.kind ≡ None) ⊎ (alone functions names p ≡ []) → names_of (or_directive (group_sign l.kind) l.place (map (item_below n) (alone functions names p))) ≡ names_of (map (item_below n) (alone functions names p))
line_names functions names n l p (inl e) = no_group_name (group_sign l.kind) e l.place (map (item_below n) (alone functions names p))
line_names functions names n l p (inr e) =
    group_silent l (map (item_below n) (alone functions names p)) (ap (λ (xs : List Item). map (item_below n) xs) e) ∙ sym (ap (λ (xs : List Item). names_of (map (item_below n) xs)) e)

lines_names : (functions names : List (List ℕ)) (n : ℕ) (ls : List Line) (ps : List (List ℕ)) → HaveSameLength ls ps → AreBlank functions names ls ps → names_of (by_both functions names n ls ps) ≡ names_of (by_piece functions names n ps)
lines_names functions names n [] [] s b = refl
lines_names functions names n [] (p ∷ ps) s b = absurd s
lines_names functions names n (l ∷ ls) [] s b = absurd s
lines_names functions names n (l ∷ ls) (p ∷ ps) s b =
    names_append (or_directive (group_sign l.kind) l.place (map (item_below n) (alone functions names p))) (by_both functions names (n + 1) ls ps)
    ∙ ap (λ (ms : List ℕ). ms ++ names_of (by_both functions names (n + 1) ls ps)) (line_names functions names n l p b.0)
    ∙ ap (λ (ms : List ℕ). names_of (map (item_below n) (alone functions names p)) ++ ms) (lines_names functions names (n + 1) ls ps s b.1)
    ∙ sym (names_append (map (item_below n) (alone functions names p)) (by_piece functions names (n + 1) ps))

-- so are those of a family
family_names : TextLaws → (dialect : Dialect) (model : Model) (bytes : List ℕ) (told : Told) (l : Listed) → (h : HasItems dialect (plain model) bytes told l) → names_of l.items ≡ names_of h.tokens.items
family_names laws dialect model bytes told l h =
    let b = by_line_of laws.tokens laws.apart dialect (plain model) bytes told l h in
    ap names_of b.are
    ∙ lines_names (own_functions (code_of h.blanked)) h.tokens.names 0 told.lines (map code_piece (pieces h.blanked)) (same_length 0 (pieces h.blanked) told.lines b.lines) (lines_blank (own_functions (code_of h.blanked)) laws.one h.tokens.names 0 (pieces h.blanked) told.lines b.lines)
    ∙ ap names_of (sym b.all)

-- ---- both numberings are of the same tokens

-- the tokens of code, by which it is numbered over no names and over these
record AreTwice (functions given : List (List ℕ)) (code : List ℕ) (first second : Listed) : Type 0 where
  tokens : List Token
  read : tokens_of code ≡ Ok tokens
  first_is : first ≡ listed functions [] code tokens
  second_is : second ≡ listed functions given code tokens

abbrev listed_ok : Listed → Result Listed (FileCode × Place)
listed_ok l = Ok l

abbrev listed_by : List (List ℕ) → List (List ℕ) → List ℕ → Result (List Token) (FileCode × Place) → Result Listed (FileCode × Place)
listed_by functions given code x = and_then x (λ ts. Ok (listed functions given code ts))

same_list : (functions given : List (List ℕ)) (code : List ℕ) (l : Listed) (ts : List Token) → tokens_of code ≡ Ok ts → items_of_code functions given code ≡ Ok l → l ≡ listed functions given code ts
same_list functions given code l ts e h = let k : listed_ok (listed functions given code ts) ≡ listed_ok l = sym (ap (listed_by functions given code) e) ∙ h in cc

no_list : (functions : List (List ℕ)) (code : List ℕ) (l : Listed) (fault : FileCode × Place) → tokens_of code ≡ Err fault → items_of_code functions [] code ≡ Ok l → ⊥
no_list functions code l fault e h = let k : listed_by functions [] code (Err fault) ≡ listed_ok l = sym (ap (listed_by functions [] code) e) ∙ h in cc

twice : (functions given : List (List ℕ)) (code : List ℕ) (first second : Listed) (x : Result (List Token) (FileCode × Place)) → tokens_of code ≡ x → items_of_code functions [] code ≡ Ok first → items_of_code functions given code ≡ Ok second → AreTwice functions given code first second
twice functions given code first second (Ok ts) e f g = record { tokens = ts; read = e; first_is = same_list functions [] code first ts e f; second_is = same_list functions given code second ts e g }
twice functions given code first second (Err fault) e f g = absurd (no_list functions code first fault e f)

-- ---- features among names

-- a name of the model's features, by its number
got : (names : List (List ℕ)) (x : ℕ) → x < length names → slice_get names x ≡ Some (get_or names x [])
got [] x lt = absurd (omega (arith, lt))
got (n ∷ ns) zero lt = refl
got (n ∷ ns) (suc x) lt = got ns x (omega (arith, lt))

either_way : (v w : List ℕ) → bytes_eq v w ≡ bytes_eq w v
either_way v w = elim (bytes_eq v w) as (λ b. bytes_eq v w ≡ b → b ≡ bytes_eq w v) [
  | true ↦ λ e. sym ((bytes_eq-Decides w v).1 (sym ((bytes_eq-Decides v w).0 e)))
  | false ↦ λ e. (elim (bytes_eq w v) as (λ b. bytes_eq w v ≡ b → false ≡ b) [
    | true ↦ λ k. sym e ∙ (bytes_eq-Decides v w).1 (sym ((bytes_eq-Decides w v).0 k))
    | false ↦ λ k. refl
  ] refl)
] refl

of_features : (fs : List Feature) (name : List ℕ) → list_any (λ f. bytes_eq f.name name) fs ≡ list_any (bytes_eq name) (map (λ (f : Feature). f.name) fs)
of_features [] name = refl
of_features (f ∷ fs) name = ap (λ (b : Bool). b || list_any (λ g. bytes_eq g.name name) fs) (either_way f.name name) ∙ ap (λ (b : Bool). bytes_eq name f.name || b) (of_features fs name)

feature_at : (context : NameContext) (x : ℕ) → x < length context.names → is_feature context x ≡ list_any (bytes_eq (get_or context.names x [])) (feature_names (plain context.model))
feature_at context x lt = ap (is_feature_name context.model) (got context.names x lt) ∙ of_features context.model.features (get_or context.names x [])

-- ---- the names that are no features'

-- a name that is no feature's stands among these where it stands among all
among_free : (features seen : List (List ℕ)) (w : List ℕ) → list_any (bytes_eq w) features ≡ false → list_any (bytes_eq w) (without_features features seen) ≡ list_any (bytes_eq w) seen
among_free features [] w h = refl
among_free features (v ∷ vs) w h = elim (list_any (bytes_eq v) features) as (λ b. list_any (bytes_eq v) features ≡ b → list_any (bytes_eq w) (cond (not b) (v ∷ without_features features vs) (without_features features vs)) ≡ (bytes_eq w v || list_any (bytes_eq w) vs)) [
  | true ↦ λ e. among_free features vs w h ∙ ap (λ (b : Bool). b || list_any (bytes_eq w) vs) (sym (other v e))
  | false ↦ λ _. ap (λ (b : Bool). bytes_eq w v || b) (among_free features vs w h)
] refl
  where
    other : (v : List ℕ) → list_any (bytes_eq v) features ≡ true → bytes_eq w v ≡ false
    other v e = elim (bytes_eq w v) as (λ b. bytes_eq w v ≡ b → b ≡ false) [
      | true ↦ λ k. (let bad : true ≡ false = sym e ∙ ap (λ (u : List ℕ). list_any (bytes_eq u) features) (sym ((bytes_eq-Decides w v).0 k)) ∙ h in absurd cc)
      | false ↦ λ _. refl
    ] refl

free_more : (features seen : List (List ℕ)) (w : List ℕ) → list_any (bytes_eq w) features ≡ false → without_features features (with_name seen w) ≡ with_name (without_features features seen) w
free_more features seen w h = elim (list_any (bytes_eq w) seen) as (λ b. list_any (bytes_eq w) seen ≡ b → without_features features (if b then seen else seen ++ w ∷ []) ≡ with_name (without_features features seen) w) [
  | true ↦ λ e. sym (ap (λ (b : Bool). if b then without_features features seen else without_features features seen ++ w ∷ []) (among_free features seen w h ∙ e))
  | false ↦ λ e. filter-append (λ name. not (list_any (bytes_eq name) features)) seen (w ∷ [])
      ∙ ap (λ (b : Bool). without_features features seen ++ cond (not b) (w ∷ []) []) h
      ∙ sym (ap (λ (b : Bool). if b then without_features features seen else without_features features seen ++ w ∷ []) (among_free features seen w h ∙ e))
] refl

among_all : (features seen : List (List ℕ)) (w : List ℕ) → list_any (bytes_eq w) (without_features features seen) ≡ true → list_any (bytes_eq w) seen ≡ true
among_all features [] w h = h
among_all features (v ∷ vs) w h = elim (list_any (bytes_eq v) features) as (λ b. list_any (bytes_eq w) (cond (not b) (v ∷ without_features features vs) (without_features features vs)) ≡ true → (bytes_eq w v || list_any (bytes_eq w) vs) ≡ true) [
  | true ↦ λ k. or_right (bytes_eq w v) (list_any (bytes_eq w) vs) (among_all features vs w k)
  | false ↦ λ k. (elim (or_cases (bytes_eq w v) (list_any (bytes_eq w) (without_features features vs)) k) [
    | inl e ↦ ap (λ (b : Bool). b || list_any (bytes_eq w) vs) e
    | inr e ↦ or_right (bytes_eq w v) (list_any (bytes_eq w) vs) (among_all features vs w e)
  ])
] h

-- a name that is a feature's or stands there is none more
other_more : (features seen : List (List ℕ)) (w : List ℕ) → (list_any (bytes_eq w) features ≡ true) ⊎ (list_any (bytes_eq w) seen ≡ true) → without_features features (with_name seen w) ≡ without_features features seen
other_more features seen w (inr e) = ap (λ (b : Bool). without_features features (if b then seen else seen ++ w ∷ [])) e
other_more features seen w (inl e) = elim (list_any (bytes_eq w) seen) as (λ b. without_features features (if b then seen else seen ++ w ∷ []) ≡ without_features features seen) [
  | true ↦ refl
  | false ↦ filter-append (λ name. not (list_any (bytes_eq name) features)) seen (w ∷ [])
      ∙ ap (λ (b : Bool). without_features features seen ++ cond (not b) (w ∷ []) []) e ∙ append-nil (without_features features seen)
]

-- ---- by numbers

number_among : (x : ℕ) (xs : List ℕ) → is_among x (x ∷ xs) ≡ true
number_among x xs = ap (λ (b : Bool). b || is_among x xs) (eq-eqb x x refl)

name_among : (all : List (List ℕ)) (xs : List ℕ) (x : ℕ) → is_among x xs ≡ true → list_any (bytes_eq (get_or all x [])) (names_at all xs) ≡ true
name_among all [] x h = absurd cc
name_among all (y ∷ ys) x h = elim (or_cases (nat_eq x y) (is_among x ys) h) [
  | inl e ↦ ap (λ (b : Bool). b || list_any (bytes_eq (get_or all x [])) (names_at all ys)) ((bytes_eq-Decides (get_or all x []) (get_or all y [])).1 (ap (λ (i : ℕ). get_or all i []) (eqb-true x y e)))
  | inr e ↦ or_right (bytes_eq (get_or all x []) (get_or all y [])) (list_any (bytes_eq (get_or all x [])) (names_at all ys)) (name_among all ys x e)
]

-- the names with these numbers, each once
abbrev once_at : List (List ℕ) → List ℕ → List (List ℕ)
once_at all xs = each_once [] (names_at all xs)

once_more : (all : List (List ℕ)) (xs : List ℕ) (n : ℕ) → once_at all (xs ++ n ∷ []) ≡ with_name (once_at all xs) (get_or all n [])
once_more all xs n = ap (each_once []) (map-append (λ (i : ℕ). get_or all i []) xs (n ∷ [])) ∙ once_both [] (names_at all xs) (get_or all n [] ∷ [])

-- they stand there
through : (seen ws : List (List ℕ)) → AreIn seen ws → (w : List ℕ) → list_any (bytes_eq w) ws ≡ true → list_any (bytes_eq w) seen ≡ true
through seen [] h w e = absurd cc
through seen (v ∷ ws) h w e = elim (or_cases (bytes_eq w v) (list_any (bytes_eq w) ws) e) [
  | inl k ↦ subst (λ (u : List ℕ). list_any (bytes_eq u) seen ≡ true) (sym ((bytes_eq-Decides w v).0 k)) h.0
  | inr k ↦ through seen ws h.1 w k
]

among_once_at : (all : List (List ℕ)) (xs : List ℕ) (n : ℕ) → is_among n xs ≡ true → list_any (bytes_eq (get_or all n [])) (once_at all xs) ≡ true
among_once_at all xs n h = through (once_at all xs) (names_at all xs) (in_once [] (names_at all xs)) (get_or all n []) (name_among all xs n h)

-- ---- one item after another

-- but for those of features, the names of the items are those that they declare
abbrev AreTold : List (List ℕ) → List (List ℕ) → List Item → Type 0
AreTold features all before = without_features features (once_at all (names_of before)) ≡ once_at all (declared_by before)

-- the number is that of a feature's name
abbrev IsLinked : NameContext → List (List ℕ) → List (List ℕ) → ℕ → Type 0
IsLinked context features all n = is_feature context n ≡ list_any (bytes_eq (get_or all n [])) features

named_more : (all : List (List ℕ)) (before : List Item) (p : Place) (n : ℕ) → once_at all (names_of (before ++ at p (signs.Name n) ∷ [])) ≡ with_name (once_at all (names_of before)) (get_or all n [])
named_more all before p n = ap (once_at all) (names_append before (at p (signs.Name n) ∷ [])) ∙ once_more all (names_of before) n

used_told : (context : NameContext) (features all : List (List ℕ)) (before : List Item) (p : Place) (n : ℕ) → is_used_behind before ≡ true → IsLinked context features all n → (is_among n (declared_by before) ≡ true) ⊎ (is_value context n ≡ true)
    → AreTold features all before → AreTold features all (before ++ at p (signs.Name n) ∷ [])
used_told context features all before p n u link known h =
    let seen : List (List ℕ) = once_at all (names_of before) in
    let here : (list_any (bytes_eq (get_or all n [])) features ≡ true) ⊎ (list_any (bytes_eq (get_or all n [])) (once_at all (names_of before)) ≡ true) = elim known [
      | inl d ↦ inr (among_all features seen (get_or all n []) (ap (list_any (bytes_eq (get_or all n []))) h ∙ among_once_at all (declared_by before) n d))
      | inr v ↦ inl (sym link ∙ value_named context n v)
    ] in
    ap (without_features features) (named_more all before p n) ∙ other_more features seen (get_or all n []) here ∙ h ∙ ap (once_at all) (sym (still_used before p n u).any)

declared_told : (context : NameContext) (features all : List (List ℕ)) (before : List Item) (p : Place) (n : ℕ) → is_used_behind before ≡ false → IsLinked context features all n → is_feature context n ≡ false
    → AreTold features all before → AreTold features all (before ++ at p (signs.Name n) ∷ [])
declared_told context features all before p n u link free h =
    ap (without_features features) (named_more all before p n) ∙ free_more features (once_at all (names_of before)) (get_or all n []) (sym link ∙ free)
    ∙ ap (λ (ws : List (List ℕ)). with_name ws (get_or all n [])) h ∙ sym (once_more all (declared_by before) n) ∙ ap (once_at all) (sym (more_named before p n u).any)

silent_told : (features all : List (List ℕ)) (before : List Item) (x : Item) → name_of x.sign ≡ [] → AreTold features all before → AreTold features all (before ++ x ∷ [])
silent_told features all before x e h =
    let same : names_of (before ++ x ∷ []) ≡ names_of before = names_append before (x ∷ []) ∙ ap (λ (ns : List ℕ). names_of before ++ (ns ++ [])) e ∙ append-nil (names_of before) in
    ap (λ (ns : List ℕ). without_features features (once_at all ns)) same ∙ h ∙ ap (once_at all) (sym (still_other before x e).any)

told_next : (context : NameContext) (features all : List (List ℕ)) (before : List Item) (p : Place) (s : Sign) → ((n : ℕ) → s ≡ signs.Name n → IsLinked context features all n) → ((n : ℕ) → s ≡ signs.Name n → IsKnown context before n)
    → AreTold features all before → AreTold features all (before ++ at p s ∷ [])
told_next context features all before p (signs.Name n) link known h =
    elim (is_used_behind before) as (λ b. is_used_behind before ≡ b → IsEither b ((is_among n (declared_by before) ≡ true) ⊎ (is_value context n ≡ true)) (is_feature context n ≡ false) → AreTold features all (before ++ at p (signs.Name n) ∷ [])) [
      | true ↦ λ u k. used_told context features all before p n u (link n refl) k h
      | false ↦ λ u k. declared_told context features all before p n u (link n refl) k h
    ] refl (known n refl)
told_next context features all before p s link known h = silent_told features all before (at p s) refl h

this_among : (n : ℕ) (s : Sign) (ns : List ℕ) → s ≡ signs.Name n → is_among n (name_of s ++ ns) ≡ true
this_among n s ns e = ap (λ (t : Sign). is_among n (name_of t ++ ns)) e ∙ number_among n ns

told_all : (context : NameContext) (features all : List (List ℕ)) (before xs : List Item) → ((n : ℕ) → is_among n (names_of xs) ≡ true → IsLinked context features all n) → AreKnown context before xs → AreTold features all before → AreTold features all (before ++ xs)
told_all context features all before [] link known h = subst (AreTold features all) (sym (append-nil before)) h
told_all context features all before (x ∷ xs) link known h =
    let later : (n : ℕ) → is_among n (names_of xs) ≡ true → is_among n (name_of x.sign ++ names_of xs) ≡ true = λ n e. list_any-append (nat_eq n) (name_of x.sign) (names_of xs) ∙ or_right (is_among n (name_of x.sign)) (is_among n (names_of xs)) e in
    subst (AreTold features all) (append_assoc before (x ∷ []) xs)
    (told_all context features all (before ++ x ∷ []) xs (λ n e. link n (later n e)) known.1
    (told_next context features all before x.place x.sign (λ n e. link n (this_among n x.sign (names_of xs) e)) known.0 h))

-- ---- families

in_order : (all ns : List (List ℕ)) (ws : List (List ℕ)) → ((w : List ℕ) → list_any (bytes_eq w) ns ≡ true → list_any (bytes_eq w) all ≡ true) → AreIn ns ws → AreIn all ws
in_order all ns [] h k = tt
in_order all ns (w ∷ ws) h k = (h w k.0, in_order all ns ws h k.1)

module _ (laws : TextLaws) (blocks : BlockLaws) (is_file : WithinIsFile) (law : DeclarationsAreOfTheGrammar) (dialect : Dialect) (model : Model) (bytes : List ℕ) (f : Family) (o : IsFamilyOf dialect model bytes f) where
  abbrev list : Listed
  list = o.accepted.listed

  abbrev own : HasItems dialect (plain model) bytes o.accepted.are.told list
  own = o.accepted.are.items

  abbrev features : List (List ℕ)
  features = feature_names (plain model)

  abbrev functions : List (List ℕ)
  functions = own_functions (code_of own.blanked)

  -- the names in their order
  abbrev all : List (List ℕ)
  all = arranged features own.first

  -- what both numberings have in common
  record IsBoth : Type 0 where
    code : List ℕ
    tokens : List Token
    first : own.first.names ≡ each_once [] (words functions code tokens)
    names : list.names ≡ all
    items : names_at all (names_of list.items) ≡ words functions code tokens
    below : (x : ℕ) → is_among x (names_of list.items) ≡ true → x < length all

  both : IsBoth
  both =
      let code = code_of own.blanked in
      let t = twice functions all (code_of own.blanked) own.first own.tokens (tokens_of (code_of own.blanked)) refl own.first_are own.tokens_are in
      let first_names : own.first.names ≡ names_from functions (code_of own.blanked) [] t.tokens = ap (λ (l : Listed). l.names) t.first_is in
      let distinct : AreDistinct own.first.names = subst AreDistinct (sym first_names) (distinct_from functions (code_of own.blanked) [] t.tokens tt) in
      let anew = t.second_is ∙ listed_anew functions features own.first (code_of own.blanked) t.tokens distinct first_names in
      let once : own.first.names ≡ each_once [] (words functions (code_of own.blanked) t.tokens) = first_names ∙ names_are_words functions (code_of own.blanked) [] t.tokens in
      let stand : AreIn all (words functions (code_of own.blanked) t.tokens) =
      in_order all own.first.names (words functions (code_of own.blanked) t.tokens) (λ w e. arranged_among features own.first distinct w ∙ e)
      (subst (λ (ns : List (List ℕ)). AreIn ns (words functions (code_of own.blanked) t.tokens)) (sym once) (in_once [] (words functions (code_of own.blanked) t.tokens))) in
      let same : names_of list.items ≡ names_of (items_over functions all (code_of own.blanked) t.tokens) = family_names laws dialect model bytes o.accepted.are.told list own ∙ ap (λ (l : Listed). names_of l.items) anew in
      record {
        code = code;
        tokens = t.tokens;
        first = once;
        names = ap (λ (l : Listed). l.names) own.is ∙ ap (λ (l : Listed). l.names) anew;
        items = ap (names_at all) same ∙ items_are_words functions all (code_of own.blanked) t.tokens stand;
        below = λ x e. names_below (length all) (items_over functions all (code_of own.blanked) t.tokens) (fit_anew functions laws.tokens features own.first (code_of own.blanked) t.tokens t.read distinct first_names) x (ap (is_among x) (sym same) ∙ e);
      }

  abbrev context : NameContext
  context = context_of model o.known.atoms o.known.formulas list.names o.known.functions

  declared_first : without_features features own.first.names ≡ each_once [] (names_at all (declared_by list.items))
  declared_first =
      let b = both in
      let link : (x : ℕ) → is_among x (names_of list.items) ≡ true → is_feature context x ≡ list_any (bytes_eq (get_or all x [])) features = λ x e.
      feature_at context x (subst (λ (ns : List (List ℕ)). x < length ns) (sym b.names) (b.below x e)) ∙ ap (λ (ns : List (List ℕ)). list_any (bytes_eq (get_or ns x [])) features) b.names in
      let told : AreTold features all (unfolded list.items) = told_all context features all [] (unfolded list.items) (λ x e. link x (ap (is_among x) (sym (blocks.names list.items)) ∙ e)) (names_known context [] (unfolded list.items) o.accepted.names) refl in
      ap (without_features features) (b.first ∙ ap (each_once []) (sym b.items ∙ ap (names_at all) (sym (blocks.names list.items)))) ∙ told ∙ ap (once_at all) (blocks.declarations list.items)

pub families_have_declared_names : TextLaws → BlockLaws → WithinIsFile → DeclarationsAreOfTheGrammar → FamiliesHaveDeclaredNames
families_have_declared_names laws blocks is_file law dialect model bytes f o =
    let l = o.accepted.listed in
    let spelled = is_file o.accepted.listed.names o.accepted.listed.items o.spelled o.accepted.spelled in
    let b = both laws blocks is_file law dialect model bytes f o in
    let named : (whole f.code).names ≡ o.accepted.listed.names = ap (λ (w : Whole). w.names) o.code ∙ ap (λ (w : Whole). w.names) o.accepted.spelled.is in
    subst (AreFamilyNames dialect (plain model) bytes) (sym named) (record {
      told = o.accepted.are.told;
      items = o.accepted.listed.items;
      items_are = o.accepted.are.items;
      file = spelled.file;
      forms = spelled.forms;
      declared = declared_first laws blocks is_file law dialect model bytes f o
          ∙ ap (λ (ns : List (List ℕ)). each_once [] (names_at ns (declared_by o.accepted.listed.items))) (sym b.names)
          ∙ ap (λ (ds : List ℕ). each_once [] (names_at o.accepted.listed.names ds)) (law o.accepted.listed.items spelled.file spelled.forms);
      are = b.names;
    })
