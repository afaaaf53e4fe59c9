-- What nests does so without the names that `main` uses, and without the names of variables.
use Rattle.std.proofs.Common.{◌≡◌, Bool, true, false, not, ◌&&◌, List, [], ◌∷◌, ◌++◌, refl, sym, ap, subst, ◌∙◌}
use Rattle.std.specs.Prelude.{◌||◌, if◌then◌else◌}
use Rattle.c_grammar.specs.declared.constants.NameKind.{NameKind}
use Rattle.c_grammar.specs.declared.items.Item.{Item}
use Rattle.c_grammar.specs.declared.items.Sign.TheVariants as signs
use Rattle.c_grammar.specs.Constants.{is_name, is_constant, kind_behind, kind_after, constants_from}
use Rattle.c_grammar.specs.Grammar.{at}
use Rattle.c_grammar.specs.Locals.{is_declaring, declarations_from}
use Rattle.c_grammar.proofs.Nesting.{Piece, Whole, Nests, no_item, flat, braces, parts, last_end, last_part, next_part}

-- ---- the names that `main` uses

-- a name behind these items is declared in `main`
abbrev pub declaring_after : Bool → List Item → Bool
declaring_after declaring [] = declaring
declaring_after declaring (x ∷ xs) = declaring_after (is_declaring x.sign) xs

pub declarations_in_main : (declaring : Bool) (xs ys : List Item) → declarations_from true declaring (xs ++ ys)
    ≡ declarations_from true declaring xs ++ declarations_from true (declaring_after declaring xs) ys
declarations_in_main declaring [] ys = refl
declarations_in_main declaring (x ∷ xs) ys =
    let d : Bool = is_declaring x.sign in
    let on : declarations_from true d (xs ++ ys) ≡ declarations_from true d xs ++ declarations_from true (declaring_after d xs) ys = declarations_in_main d xs ys in
    elim (not declaring && is_name x.sign) as (λ t. (if t then declarations_from true d (xs ++ ys) else x ∷ declarations_from true d (xs ++ ys)) ≡ (if t then declarations_from true d xs else x ∷ declarations_from true d xs) ++ declarations_from true (declaring_after d xs) ys) [
      | true ↦ on
      | false ↦ ap (λ zs. x ∷ zs) on
    ]

-- an item that is no name
pub declarations_other : (declaring : Bool) (x : Item) (xs : List Item) → is_name x.sign ≡ false → declarations_from true declaring (x ∷ xs) ≡ x ∷ declarations_from true (is_declaring x.sign) xs
declarations_other true x xs e = refl
declarations_other false x xs e = ap (λ (b : Bool). if b then declarations_from true (is_declaring x.sign) xs else x ∷ declarations_from true (is_declaring x.sign) xs) e

-- one behind others
declarations_at : (declaring : Bool) (ts us : List Item) (x : Item) → is_name x.sign ≡ false
    → declarations_from true declaring (ts ++ x ∷ us) ≡ declarations_from true declaring ts ++ x ∷ declarations_from true (is_declaring x.sign) us
declarations_at declaring ts us x e =
    declarations_in_main declaring ts (x ∷ us) ∙ ap (λ zs. declarations_from true declaring ts ++ zs) (declarations_other (declaring_after declaring ts) x us e)

pub nests_declarations : {piece : Piece} {ts : List Item} → Nests piece ts → (declaring : Bool) → Nests piece (declarations_from true declaring ts)
nests_declarations no_item declaring = no_item
nests_declarations (flat x {ts} f d) declaring =
    elim (not declaring && is_name x.sign) as (λ t. Nests Whole (if t then declarations_from true (is_declaring x.sign) ts else x ∷ declarations_from true (is_declaring x.sign) ts)) [
      | true ↦ nests_declarations d (is_declaring x.sign)
      | false ↦ flat x f (nests_declarations d (is_declaring x.sign))
    ]
nests_declarations (braces p q {ts} {us} a d) declaring =
    let re : declarations_from true declaring (at p signs.LeftBrace ∷ (ts ++ at q signs.RightBrace ∷ us)) ≡ at p signs.LeftBrace ∷ (declarations_from true false ts ++ at q signs.RightBrace ∷ declarations_from true false us) =
    declarations_other declaring (at p signs.LeftBrace) (ts ++ at q signs.RightBrace ∷ us) refl
    ∙ ap (λ zs. at p signs.LeftBrace ∷ zs) (declarations_at false ts us (at q signs.RightBrace) refl) in
    subst (Nests _) (sym re) (braces p q (nests_declarations a false) (nests_declarations d false))
nests_declarations (parts p m {ts} {us} {vs} a b d) declaring =
    let e : Bool = declaring_after false ts in
    let f : Bool = declaring_after e us in
    let re : declarations_from true declaring (at p (signs.GroupIf m) ∷ (ts ++ (us ++ vs))) ≡ at p (signs.GroupIf m) ∷ (declarations_from true false ts ++ (declarations_from true e us ++ declarations_from true f vs)) =
    declarations_other declaring (at p (signs.GroupIf m)) (ts ++ (us ++ vs)) refl
    ∙ ap (λ zs. at p (signs.GroupIf m) ∷ zs) (declarations_in_main false ts (us ++ vs) ∙ ap (λ zs. declarations_from true false ts ++ zs) (declarations_in_main e us vs)) in
    subst (Nests _) (sym re) (parts p m (nests_declarations a false) (nests_declarations b e) (nests_declarations d f))
nests_declarations (last_end p) declaring = subst (Nests _) (sym (declarations_other declaring (at p signs.GroupEnd) [] refl)) (last_end p)
nests_declarations (last_part p q {ts} a) declaring =
    let re : declarations_from true declaring (at p signs.GroupElse ∷ (ts ++ at q signs.GroupEnd ∷ [])) ≡ at p signs.GroupElse ∷ (declarations_from true false ts ++ at q signs.GroupEnd ∷ []) =
    declarations_other declaring (at p signs.GroupElse) (ts ++ at q signs.GroupEnd ∷ []) refl
    ∙ ap (λ zs. at p signs.GroupElse ∷ zs) (declarations_at false ts [] (at q signs.GroupEnd) refl) in
    subst (Nests _) (sym re) (last_part p q (nests_declarations a false))
nests_declarations (next_part p m {ts} {us} a b) declaring =
    let e : Bool = declaring_after false ts in
    let re : declarations_from true declaring (at p (signs.GroupElif m) ∷ (ts ++ us)) ≡ at p (signs.GroupElif m) ∷ (declarations_from true false ts ++ declarations_from true e us) =
    declarations_other declaring (at p (signs.GroupElif m)) (ts ++ us) refl
    ∙ ap (λ zs. at p (signs.GroupElif m) ∷ zs) (declarations_in_main false ts us) in
    subst (Nests _) (sym re) (next_part p m (nests_declarations a false) (nests_declarations b e))

-- ---- the names of variables

pub constants_more : (kind : NameKind) (xs ys : List Item) → constants_from kind (xs ++ ys) ≡ constants_from kind xs ++ constants_from (kind_after kind xs) ys
constants_more kind [] ys = refl
constants_more kind (x ∷ xs) ys =
    let k : NameKind = kind_behind kind x.sign in
    let on : constants_from k (xs ++ ys) ≡ constants_from k xs ++ constants_from (kind_after k xs) ys = constants_more k xs ys in
    elim (is_constant kind || not (is_name x.sign)) as (λ t. (if t then x ∷ constants_from k (xs ++ ys) else constants_from k (xs ++ ys)) ≡ (if t then x ∷ constants_from k xs else constants_from k xs) ++ constants_from (kind_after k xs) ys) [
      | true ↦ ap (λ zs. x ∷ zs) on
      | false ↦ on
    ]

-- an item that is no name
pub constants_other : (kind : NameKind) (x : Item) (xs : List Item) → is_name x.sign ≡ false → constants_from kind (x ∷ xs) ≡ x ∷ constants_from (kind_behind kind x.sign) xs
constants_other kind x xs e =
    let k : NameKind = kind_behind kind x.sign in
    ap (λ (b : Bool). if is_constant kind || not b then x ∷ constants_from k xs else constants_from k xs) e
    ∙ elim (is_constant kind) as (λ b. (if b || true then x ∷ constants_from k xs else constants_from k xs) ≡ x ∷ constants_from k xs) [ true ↦ refl | false ↦ refl ]

constants_at : (kind : NameKind) (ts us : List Item) (x : Item) → is_name x.sign ≡ false
    → constants_from kind (ts ++ x ∷ us) ≡ constants_from kind ts ++ x ∷ constants_from (kind_behind (kind_after kind ts) x.sign) us
constants_at kind ts us x e =
    constants_more kind ts (x ∷ us) ∙ ap (λ zs. constants_from kind ts ++ zs) (constants_other (kind_after kind ts) x us e)

pub nests_constants : {piece : Piece} {ts : List Item} → Nests piece ts → (kind : NameKind) → Nests piece (constants_from kind ts)
nests_constants no_item kind = no_item
nests_constants (flat x {ts} f d) kind =
    let k : NameKind = kind_behind kind x.sign in
    elim (is_constant kind || not (is_name x.sign)) as (λ t. Nests Whole (if t then x ∷ constants_from k ts else constants_from k ts)) [
      | true ↦ flat x f (nests_constants d k)
      | false ↦ nests_constants d k
    ]
nests_constants (braces p q {ts} {us} a d) kind =
    let k : NameKind = kind_behind kind signs.LeftBrace in
    let l : NameKind = kind_behind (kind_after k ts) signs.RightBrace in
    let re : constants_from kind (at p signs.LeftBrace ∷ (ts ++ at q signs.RightBrace ∷ us)) ≡ at p signs.LeftBrace ∷ (constants_from k ts ++ at q signs.RightBrace ∷ constants_from l us) =
    constants_other kind (at p signs.LeftBrace) (ts ++ at q signs.RightBrace ∷ us) refl
    ∙ ap (λ zs. at p signs.LeftBrace ∷ zs) (constants_at k ts us (at q signs.RightBrace) refl) in
    subst (Nests _) (sym re) (braces p q (nests_constants a k) (nests_constants d l))
nests_constants (parts p m {ts} {us} {vs} a b d) kind =
    let k : NameKind = kind_behind kind (signs.GroupIf m) in
    let e : NameKind = kind_after k ts in
    let f : NameKind = kind_after e us in
    let re : constants_from kind (at p (signs.GroupIf m) ∷ (ts ++ (us ++ vs))) ≡ at p (signs.GroupIf m) ∷ (constants_from k ts ++ (constants_from e us ++ constants_from f vs)) =
    constants_other kind (at p (signs.GroupIf m)) (ts ++ (us ++ vs)) refl
    ∙ ap (λ zs. at p (signs.GroupIf m) ∷ zs) (constants_more k ts (us ++ vs) ∙ ap (λ zs. constants_from k ts ++ zs) (constants_more e us vs)) in
    subst (Nests _) (sym re) (parts p m (nests_constants a k) (nests_constants b e) (nests_constants d f))
nests_constants (last_end p) kind = subst (Nests _) (sym (constants_other kind (at p signs.GroupEnd) [] refl)) (last_end p)
nests_constants (last_part p q {ts} a) kind =
    let k : NameKind = kind_behind kind signs.GroupElse in
    let re : constants_from kind (at p signs.GroupElse ∷ (ts ++ at q signs.GroupEnd ∷ [])) ≡ at p signs.GroupElse ∷ (constants_from k ts ++ at q signs.GroupEnd ∷ []) =
    constants_other kind (at p signs.GroupElse) (ts ++ at q signs.GroupEnd ∷ []) refl
    ∙ ap (λ zs. at p signs.GroupElse ∷ zs) (constants_at k ts [] (at q signs.GroupEnd) refl) in
    subst (Nests _) (sym re) (last_part p q (nests_constants a k))
nests_constants (next_part p m {ts} {us} a b) kind =
    let k : NameKind = kind_behind kind (signs.GroupElif m) in
    let e : NameKind = kind_after k ts in
    let re : constants_from kind (at p (signs.GroupElif m) ∷ (ts ++ us)) ≡ at p (signs.GroupElif m) ∷ (constants_from k ts ++ constants_from e us) =
    constants_other kind (at p (signs.GroupElif m)) (ts ++ us) refl
    ∙ ap (λ zs. at p (signs.GroupElif m) ∷ zs) (constants_more k ts us) in
    subst (Nests _) (sym re) (next_part p m (nests_constants a k) (nests_constants b e))
