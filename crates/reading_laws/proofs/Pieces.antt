-- The items of `main` as pieces: declarations, groups, blocks, and items between them that declare nothing; no `for` declares variables.
use Rattle.std.proofs.Common.{◌≡◌, ℕ, Bool, true, false, List, [], ◌∷◌, ◌++◌, refl, sym, ap, subst, ◌∙◌}
use Rattle.fam_outer.specs.declared.faults.Place.{Place}
use Rattle.c_tree.specs.declared.lists.Guard.{Guard}
use Rattle.c_tree.specs.declared.lists.Declared.{Declared}
use Rattle.c_tree.specs.Tree.{Code}
use Rattle.c_grammar.specs.declared.items.Item.{Item}
use Rattle.c_grammar.specs.declared.items.Sign.TheVariants as signs
use Rattle.c_grammar.specs.Grammar.{at, Qualifier, Qualified, Shape, Listed, Stated, Chained, Locals, Writes, none, more, choice, local, static_local, last_local, next_local, ends, otherwise, elif, change, call, void_call, assert, skip, block, while, for, declaring_for, do_while, break, continue, return, if_then, if_else, with_true, with_false, Vars, Declares}
use Rattle.c_grammar.specs.Groups.{guarded_by}
use Rattle.c_grammar.specs.LocalsOf.{locals_in, of_kind, scope_in, constant_scope_in}
use Rattle.c_grammar.proofs.ScopingBlocks.{IsBalanced, balanced_both, code_balanced}
use Rattle.c_grammar.proofs.Keeping.{for_head, for_is}
use Rattle.for_blocks.specs.Blocks.{declares}
use Rattle.for_blocks.specs.Laws.{NoneDeclares}
use Rattle.for_blocks.proofs.Calm.{BeginsType, qualified_begins}
use Rattle.c_parser.proofs.Stretches.{are_calm, calm_both, expression_calm, function_calm, change_calm, header_calm}

-- a piece within guards, or what closes a group, with the declarators in it that are in scope behind it, and those of constants among them
pub data Piece : (later : Bool) → List Guard → List Item → List Declared → List Declared → Type 0 where
  calm : (gs : List Guard) (ts : List Item) → are_calm ts ≡ true → Piece false gs ts [] []
  enclosed : (gs : List Guard) (p q : Place) {ts : List Item} {ds cs : List Declared} → Piece false gs ts ds cs → Piece false gs (at p signs.LeftBrace ∷ (ts ++ at q signs.RightBrace ∷ [])) [] []
  both : (gs : List Guard) {ts us : List Item} {ds es cs bs : List Declared} → Piece false gs ts ds cs → IsBalanced us → Piece false gs us es bs → Piece false gs (ts ++ us) (ds ++ es) (cs ++ bs)
  declarators : (gs : List Guard) {ts us vs : List Item} {c : Code} {kind : Qualifier} {es bs : List Declared} → Qualified kind ts → (v : Writes (Locals kind) us c) → IsBalanced vs → Piece false gs vs es bs → Piece false gs (ts ++ (us ++ vs)) (locals_in gs v ++ es) (of_kind kind (locals_in gs v) ++ bs)
  statics : (gs : List Guard) {ts us vs : List Item} {ds es bs : List Declared} {kind : Qualifier} → Qualified kind ts → Declares (Vars kind []) us ds → IsBalanced vs → Piece false gs vs es bs → Piece false gs (ts ++ (us ++ vs)) (guarded_by gs ds ++ es) (of_kind kind (guarded_by gs ds) ++ bs)
  groups : (gs : List Guard) (p : Place) (n : ℕ) {ts us vs : List Item} {ds es fs cs bs ys : List Declared} → Piece false (with_true gs n) ts ds cs → IsBalanced us → Piece true (with_false gs n) us es bs → IsBalanced vs → Piece false gs vs fs ys → Piece false gs (at p (signs.GroupIf n) ∷ (ts ++ (us ++ vs))) (ds ++ (es ++ fs)) (cs ++ (bs ++ ys))
  end_group : (gs : List Guard) (p : Place) → Piece true gs (at p signs.GroupEnd ∷ []) [] []
  else_group : (gs : List Guard) (p q : Place) {ts : List Item} {ds cs : List Declared} → Piece false gs ts ds cs → Piece true gs (at p signs.GroupElse ∷ (ts ++ at q signs.GroupEnd ∷ [])) ds cs
  elif_group : (gs : List Guard) (p : Place) (n : ℕ) {ts us : List Item} {ds es cs bs : List Declared} → Piece false (with_true gs n) ts ds cs → IsBalanced us → Piece true (with_false gs n) us es bs → Piece true gs (at p (signs.GroupElif n) ∷ (ts ++ us)) (ds ++ es) (cs ++ bs)

-- a statement leaves nothing in scope; declarators are no piece of their own: a type stands before them
abbrev pub PieceOf : (shape : Shape) {ts : List Item} {c : Code} → List Guard → Writes shape ts c → Type 0
PieceOf (Listed i) {ts} gs s = Piece false gs ts (scope_in gs s) (constant_scope_in gs s)
PieceOf (Stated i b) {ts} gs s = Piece false gs ts [] []
PieceOf (Chained i) {ts} gs s = Piece true gs ts (scope_in gs s) (constant_scope_in gs s)
PieceOf (Locals kind) gs s = Unit {0}

-- ---- items of which no `for` declares variables

declares_before : (x : Item) (ts us : List Item) → declares x (ts ++ us) ≡ false → declares x ts ≡ false
declares_before x [] us h = refl
declares_before x (y ∷ []) us h = refl
declares_before x (y ∷ z ∷ ts) us h = h

none_before : (ts us : List Item) → NoneDeclares (ts ++ us) → NoneDeclares ts
none_before [] us n = tt
none_before (x ∷ ts) us n = (declares_before x ts us n.0, none_before ts us n.1)

none_behind : (ts us : List Item) → NoneDeclares (ts ++ us) → NoneDeclares us
none_behind [] us n = n
none_behind (x ∷ ts) us n = none_behind ts us n.1

-- behind a parenthesis that closes
none_in_body : (r : Place) (ts us : List Item) → NoneDeclares (ts ++ at r signs.Close ∷ us) → NoneDeclares us
none_in_body r ts us n = let rest : NoneDeclares (at r signs.Close ∷ us) = none_behind ts (at r signs.Close ∷ us) n in rest.1

-- one that declares variables has a type behind its parenthesis
type_declares : (p q : Place) (ts w : List Item) → BeginsType ts → declares (at p signs.For) (at q signs.Open ∷ (ts ++ w)) ≡ true
type_declares p q ts w b = ap (λ (us : List Item). declares (at p signs.For) (at q signs.Open ∷ (us ++ w))) b.is ∙ b.is_type

-- ---- pieces of a derivation

-- behind the head of a statement, which declares nothing
behind : {us : List Item} (gs : List Guard) (ts : List Item) → are_calm ts ≡ true → IsBalanced us → Piece false gs us [] [] → Piece false gs (ts ++ us) [] []
behind gs ts c b s = both gs (calm gs ts c) b s

-- behind `if` or `while` and a condition
behind_condition : {us : List Item} (gs : List Guard) (ts : List Item) (r : Place) → are_calm ts ≡ true → IsBalanced us → Piece false gs us [] [] → Piece false gs (ts ++ at r signs.Close ∷ us) [] []
behind_condition gs ts r c b s = behind gs ts c b (behind gs (at r signs.Close ∷ []) refl b s)

pub piece_of : {shape : Shape} {ts : List Item} {c : Code} (gs : List Guard) → (s : Writes shape ts c) → NoneDeclares ts → PieceOf shape gs s
piece_of gs none n = calm gs [] refl
piece_of gs (more {b} {ts} {us} s l) n = both gs (piece_of gs s (none_before ts us n)) (code_balanced l) (piece_of gs l (none_behind ts us n))
piece_of gs (choice p m {ts} {us} {vs} s t l) n =
    let rest : NoneDeclares (us ++ vs) = none_behind ts (us ++ vs) n.1 in
    groups gs p m (piece_of (with_true gs m) s (none_before ts (us ++ vs) n.1)) (code_balanced t) (piece_of (with_false gs m) t (none_before us vs rest)) (code_balanced l) (piece_of gs l (none_behind us vs rest))
piece_of gs (local {ts} {us} {vs} q v l) n = declarators gs q v (code_balanced l) (piece_of gs l (none_behind us vs (none_behind ts (us ++ vs) n)))
piece_of gs (static_local p {ts} {us} {vs} q v l) n =
    both gs (calm gs (at p signs.Static ∷ []) refl) (code_balanced (static_local p q v l)) (statics gs q v (code_balanced l) (piece_of gs l (none_behind us vs (none_behind ts (us ++ vs) n.1))))
piece_of gs (last_local p d) n = tt
piece_of gs (next_local p d v) n = tt
piece_of gs (ends p) n = end_group gs p
piece_of gs (otherwise p q {ts} s) n = else_group gs p q (piece_of gs s (none_before ts (at q signs.GroupEnd ∷ []) n.1))
piece_of gs (elif p m {ts} {us} s t) n = elif_group gs p m (piece_of (with_true gs m) s (none_before ts us n.1)) (code_balanced t) (piece_of (with_false gs m) t (none_behind ts us n.1))
piece_of gs (change r {ts} s) n = calm gs (ts ++ at r signs.Semicolon ∷ []) (calm_both ts (at r signs.Semicolon ∷ []) (change_calm s) refl)
piece_of gs (call p q r s {f} g) n =
    calm gs (at p f ∷ at q signs.Open ∷ at r signs.Close ∷ at s signs.Semicolon ∷ []) (function_calm p (at q signs.Open ∷ at r signs.Close ∷ at s signs.Semicolon ∷ []) g refl)
piece_of gs (void_call p q r s t u v {f} g) n =
    calm gs (at p signs.Open ∷ at q signs.Void ∷ at r signs.Close ∷ at s f ∷ at t signs.Open ∷ at u signs.Close ∷ at v signs.Semicolon ∷ []) (function_calm s (at t signs.Open ∷ at u signs.Close ∷ at v signs.Semicolon ∷ []) g refl)
piece_of gs (assert p q r s {ts} e) n =
    calm gs (at p signs.Assert ∷ at q signs.Open ∷ (ts ++ at r signs.Close ∷ at s signs.Semicolon ∷ [])) (calm_both ts (at r signs.Close ∷ at s signs.Semicolon ∷ []) (expression_calm e) refl)
piece_of gs (skip p) n = calm gs (at p signs.Semicolon ∷ []) refl
piece_of gs (block p q {ts} s) n = enclosed gs p q (piece_of gs s (none_before ts (at q signs.RightBrace ∷ []) n.1))
piece_of gs (while p q r {b} {ts} {us} e s) n = behind_condition gs (at p signs.While ∷ at q signs.Open ∷ ts) r (expression_calm e) (code_balanced s) (piece_of gs s (none_in_body r ts us n.1.1))
piece_of gs (for p q r z {b} {ts} {us} {vs} {ws} a t d s) n =
    let header : NoneDeclares (at r signs.Semicolon ∷ (us ++ (vs ++ at z signs.Close ∷ ws))) = none_behind ts (at r signs.Semicolon ∷ (us ++ (vs ++ at z signs.Close ∷ ws))) n.1.1 in
    let body : NoneDeclares ws = none_in_body z vs ws (none_behind us (vs ++ at z signs.Close ∷ ws) header.1) in
    subst (λ (l : List Item). Piece false gs l [] []) (for_is p q r z ts us vs ws) (behind gs (for_head p q r z ts us vs) (header_calm p q r z a t d) (code_balanced s) (piece_of gs s body))
piece_of gs (declaring_for p q z {b} {ts} {ds} {us} {vs} {ws} y v t d s) n =
    absurd (let both : true ≡ false = sym (type_declares p q ts (ds ++ (us ++ (vs ++ at z signs.Close ∷ ws))) (qualified_begins y)) ∙ n.0 in cc)
piece_of gs (do_while p q r z t {b} {ts} {us} {x} s e) n =
    let test : List Item = at q signs.While ∷ at r signs.Open ∷ x ∷ (us ++ at z signs.Close ∷ at t signs.Semicolon ∷ []) in
    let balanced : IsBalanced test = code_balanced (while q r z {ts = x ∷ us} {i = false} e (skip t)) in
    behind gs (at p signs.Do ∷ []) refl (balanced_both ts test (code_balanced s) balanced)
    (both gs (piece_of gs s (none_before ts test n.1)) balanced (calm gs test (calm_both (x ∷ us) (at z signs.Close ∷ at t signs.Semicolon ∷ []) (expression_calm e) refl)))
piece_of gs (break p q) n = calm gs (at p signs.Break ∷ at q signs.Semicolon ∷ []) refl
piece_of gs (continue p q) n = calm gs (at p signs.Continue ∷ at q signs.Semicolon ∷ []) refl
piece_of gs (return p q {ts} e) n =
    calm gs (at p signs.Return ∷ (ts ++ at q signs.Semicolon ∷ [])) (calm_both ts (at q signs.Semicolon ∷ []) (expression_calm e) refl)
piece_of gs (if_then p q r {b} {ts} {us} e s) n = behind_condition gs (at p signs.If ∷ at q signs.Open ∷ ts) r (expression_calm e) (code_balanced s) (piece_of gs s (none_in_body r ts us n.1.1))
piece_of gs (if_else p q r z {b} {ts} {us} {vs} e s t) n =
    let sides : NoneDeclares (us ++ at z signs.Else ∷ vs) = none_in_body r ts (us ++ at z signs.Else ∷ vs) n.1.1 in
    let other : NoneDeclares (at z signs.Else ∷ vs) = none_behind us (at z signs.Else ∷ vs) sides in
    behind_condition gs (at p signs.If ∷ at q signs.Open ∷ ts) r (expression_calm e) (balanced_both us (at z signs.Else ∷ vs) (code_balanced s) (code_balanced t))
    (both gs (piece_of gs s (none_before us (at z signs.Else ∷ vs) sides)) (code_balanced t) (behind gs (at z signs.Else ∷ []) refl (code_balanced t) (piece_of gs t other.1)))
