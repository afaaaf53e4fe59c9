-- Where group directives stand in a file among its braces: each part of a section begins and ends where as many blocks are open as where
-- the section begins, and leaves none of these.
use Rattle.std.proofs.Common.{◌≡◌, ◌≤◌, ℕ, suc, true, List, [], ◌∷◌, ◌++◌, refl, sym, subst, append_assoc, arith}
use Rattle.std.proofs.lemmas.List.{append-nil}
use Rattle.c_grammar.specs.declared.items.Item.{Item}
use Rattle.c_grammar.specs.declared.items.Sign.{Sign}
use Rattle.c_grammar.specs.declared.items.Sign.TheVariants as signs
use Rattle.c_grammar.specs.Grammar.{at}
use Rattle.c_grammar.specs.Scopes.{IsLevel, AreLevel, begun_behind, depth_behind, DirectivesStandLevel}
use Rattle.c_grammar.proofs.Nesting.{is_flat, Piece, Whole, Rest, Nests, no_item, flat, braces, parts, last_end, last_part, next_part, file_nests}

-- the innermost section that is open began where no more blocks were open
abbrev IsWithin : List ℕ → ℕ → Type 0
IsWithin [] depth = Unit {0}
IsWithin (b ∷ begun) depth = b ≤ depth

-- behind a sign that is no brace and no directive nothing has changed
flat_level : (begun : List ℕ) (depth : ℕ) (s : Sign) (w : List Item) → is_flat s ≡ true → AreLevel begun depth w → IsLevel begun depth s × AreLevel (begun_behind begun depth s) (depth_behind depth s) w
flat_level begun depth signs.LeftBrace w f h = absurd cc
flat_level begun depth signs.RightBrace w f h = absurd cc
flat_level begun depth (signs.GroupIf n) w f h = absurd cc
flat_level begun depth (signs.GroupElif n) w f h = absurd cc
flat_level begun depth signs.GroupElse w f h = absurd cc
flat_level begun depth signs.GroupEnd w f h = absurd cc
flat_level [] depth _ w f h = (tt, h)
flat_level (b ∷ begun) depth _ w f h = (tt, h)

opening_level : (begun : List ℕ) (depth : ℕ) (w : List Item) → IsLevel begun depth signs.LeftBrace
opening_level [] depth w = tt
opening_level (b ∷ begun) depth w = tt

closing_level : (begun : List ℕ) (depth : ℕ) → IsWithin begun depth → IsLevel begun (suc depth) signs.RightBrace
closing_level [] depth u = tt
closing_level (b ∷ begun) depth u = omega (arith, u)

begins_level : (begun : List ℕ) (depth n : ℕ) → IsLevel begun depth (signs.GroupIf n)
begins_level [] depth n = tt
begins_level (b ∷ begun) depth n = tt

deeper : (begun : List ℕ) (depth : ℕ) → IsWithin begun depth → IsWithin begun (suc depth)
deeper [] depth u = tt
deeper (b ∷ begun) depth u = omega (arith, u)

-- what nests may stand before what is level
abbrev PieceLevel : Piece → List Item → Type 0
PieceLevel Whole ts = (begun : List ℕ) (depth : ℕ) → IsWithin begun depth → (w : List Item) → AreLevel begun depth w → AreLevel begun depth (ts ++ w)
PieceLevel Rest ts = (begun : List ℕ) (depth : ℕ) → (w : List Item) → AreLevel begun depth w → AreLevel (depth ∷ begun) depth (ts ++ w)

piece_level : {piece : Piece} {ts : List Item} → Nests piece ts → PieceLevel piece ts
piece_level no_item = λ begun depth u w h. h
piece_level (flat x {ts} f d) = λ begun depth u w h. flat_level begun depth x.sign (ts ++ w) f (piece_level d begun depth u w h)
piece_level (braces p q {ts} {us} a d) = λ begun depth u w h.
    let re : (ts ++ at q signs.RightBrace ∷ us) ++ w ≡ ts ++ at q signs.RightBrace ∷ (us ++ w) = simp append_assoc in
    (opening_level begun depth w, subst (AreLevel begun (suc depth)) (sym re) (piece_level a begun (suc depth) (deeper begun depth u) (at q signs.RightBrace ∷ (us ++ w)) (closing_level begun depth u, piece_level d begun depth u w h)))
piece_level (parts p n {ts} {us} {vs} a b d) = λ begun depth u w h.
    let re : (ts ++ (us ++ vs)) ++ w ≡ ts ++ (us ++ (vs ++ w)) = simp append_assoc in
    (begins_level begun depth n, subst (AreLevel (depth ∷ begun) depth) (sym re) (piece_level a (depth ∷ begun) depth (omega arith) (us ++ (vs ++ w)) (piece_level b begun depth (vs ++ w) (piece_level d begun depth u w h))))
piece_level (last_end p) = λ begun depth w h. (refl, h)
piece_level (last_part p q {ts} a) = λ begun depth w h.
    (refl, subst (AreLevel (depth ∷ begun) depth) (sym (append_assoc ts (at q signs.GroupEnd ∷ []) w)) (piece_level a (depth ∷ begun) depth (omega arith) (at q signs.GroupEnd ∷ w) (refl, h)))
piece_level (next_part p n {ts} {us} a b) = λ begun depth w h.
    (refl, subst (AreLevel (depth ∷ begun) depth) (sym (append_assoc ts us w)) (piece_level a (depth ∷ begun) depth (omega arith) (us ++ w) (piece_level b begun depth w h)))

pub directives_level : DirectivesStandLevel
directives_level items f forms = subst (AreLevel [] 0) (append-nil items) (piece_level (file_nests forms) [] 0 tt [] tt)
