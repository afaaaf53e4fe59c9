-- A piece unfolds into what it turns into, whatever blocks are open around it; and no loop in that declares variables.
use Rattle.std.proofs.Common.{◌≡◌, ◌≤◌, ◌<◌, ℕ, suc, true, false, List, [], ◌∷◌, ◌++◌, length, refl, sym, ap, ◌∙◌, append_assoc, arith, length-append}
use Rattle.fam_outer.specs.declared.faults.Place.{Place}
use Rattle.c_grammar.specs.declared.items.Item.{Item}
use Rattle.c_grammar.specs.declared.items.Sign.{Sign}
use Rattle.c_grammar.specs.declared.items.Sign.TheVariants as signs
use Rattle.c_grammar.specs.Grammar.{at}
use Rattle.for_blocks.specs.declared.blocks.End.{End}
use Rattle.for_blocks.specs.declared.blocks.Part.TheVariants.{Elsewhere, AtParenthesis, InDeclaration}
use Rattle.for_blocks.specs.Blocks.{is_for, is_semicolon, begins_type, declares, end_of, behind_statement, unfolded_from}
use Rattle.for_blocks.proofs.Ends.{AreWithin, within_more, closing_later, open_later, closing_here, open_here}
use Rattle.for_blocks.proofs.Others.{not_for, stays}
use Rattle.for_blocks.proofs.Texts.{shapes, stops, holds, neither, none_less, shapes_less, semicolons_less, fors_less}
use Rattle.for_blocks.proofs.Pieces.{starts_more, HasItem, Piece, Statement, Follows, follows_any, follows_item, IsLoop, DeclaresNone, Turns, none, more, choice, declaration, ends, otherwise, elif, simple, block, loop, declaring, if_then, if_else, do_while, begins}
use Rattle.for_blocks.proofs.Passing.{passes}

-- ---- texts one behind another

-- with these blocks open, a text before others becomes this
abbrev pub Becomes : List End → List Item → List Item → List Item → Type 0
Becomes open_ends ts w ms = unfolded_from Elsewhere open_ends (ts ++ w) ≡ ms ++ unfolded_from Elsewhere open_ends w

pub within_text : (us w : List Item) (es : List End) → AreWithin (length w) es → AreWithin (length (us ++ w)) es
within_text us w es h = within_more (length w) (length (us ++ w)) es (omega (arith, length-append us w)) h

pub becomes_both : (es : List End) (ts us ms ns w : List Item) → Becomes es ts (us ++ w) ms → Becomes es us w ns → Becomes es (ts ++ us) w (ms ++ ns)
becomes_both es ts us ms ns w a b =
    ap (unfolded_from Elsewhere es) (append_assoc ts us w) ∙ a ∙ ap (λ (y : List Item). ms ++ y) b ∙ sym (append_assoc ms ns (unfolded_from Elsewhere es w))

becomes_behind : (es : List End) (x : Item) (ts ms w : List Item) → declares x (ts ++ w) ≡ false → AreWithin (length w) es → Becomes es ts w ms → Becomes es (x ∷ ts) w (x ∷ ms)
becomes_behind es x ts ms w d h a = stays x (ts ++ w) es d (within_text ts w es h) ∙ ap (λ (y : List Item). x ∷ y) a

-- an item that is no `for`
behind_other : (es : List End) (x : Item) (ts ms w : List Item) → is_for x.sign ≡ false → AreWithin (length w) es → Becomes es ts w ms → Becomes es (x ∷ ts) w (x ∷ ms)
behind_other es x ts ms w f h a = becomes_behind es x ts ms w (not_for x (ts ++ w) f) h a

-- a text without `for`
pub becomes_same : (es : List End) (ts w : List Item) → holds is_for ts ≡ false → AreWithin (length w) es → Becomes es ts w ts
becomes_same es [] w h i = refl
becomes_same es (x ∷ ts) w h i = let r = neither (is_for x.sign) (holds is_for ts) h in behind_other es x ts ts w r.0 i (becomes_same es ts w r.1 i)

shapeless_same : (es : List End) (ts w : List Item) → holds shapes ts ≡ false → AreWithin (length w) es → Becomes es ts w ts
shapeless_same es ts w h i = becomes_same es ts w (none_less shapes is_for ts fors_less h) i

-- parentheses without `for`, and what follows
head_becomes : (es : List End) (q r : Place) (ts us ns w : List Item) → holds shapes ts ≡ false → AreWithin (length w) es → Becomes es us w ns
    → Becomes es (at q signs.Open ∷ (ts ++ at r signs.Close ∷ us)) w (at q signs.Open ∷ (ts ++ at r signs.Close ∷ ns))
head_becomes es q r ts us ns w h i a =
    behind_other es (at q signs.Open) (ts ++ at r signs.Close ∷ us) (ts ++ at r signs.Close ∷ ns) w refl i
    (becomes_both es ts (at r signs.Close ∷ us) ts (at r signs.Close ∷ ns) w (shapeless_same es ts (at r signs.Close ∷ (us ++ w)) h (within_text (at r signs.Close ∷ us) w es i)) (behind_other es (at r signs.Close) us ns w refl i a))

-- ---- a loop that declares variables

begins_block : (p q : Place) (x : Item) (xs : List Item) (es : List End) → begins_type x.sign ≡ true → AreWithin (length (at q signs.Open ∷ x ∷ xs)) es
    → unfolded_from Elsewhere es (at p signs.For ∷ at q signs.Open ∷ x ∷ xs) ≡ at p signs.LeftBrace ∷ unfolded_from (AtParenthesis p) (end_of (at p signs.For) (at q signs.Open ∷ x ∷ xs) ∷ es) (at q signs.Open ∷ x ∷ xs)
unfolding unfolded_from
begins_block p q x xs es t h =
    let room : ℕ = length (at q signs.Open ∷ x ∷ xs) in
    rw (closing_later room (suc room) es (omega arith) h, open_later room (suc room) es (omega arith) h, t) refl

leaves_parenthesis : (p : Place) (x : Item) (xs : List Item) (es : List End) → AreWithin (length xs) es → unfolded_from (AtParenthesis p) es (x ∷ xs) ≡ unfolded_from (InDeclaration p) es xs
unfolding unfolded_from
leaves_parenthesis p x xs es h = rw (closing_later (length xs) (suc (length xs)) es (omega arith) h, open_later (length xs) (suc (length xs)) es (omega arith) h) refl

-- the declaration, up to its semicolon, and what the loop begins with behind it
goes_on : (p : Place) (x : Item) (xs : List Item) (es : List End) → is_semicolon x.sign ≡ false → AreWithin (length xs) es → unfolded_from (InDeclaration p) es (x ∷ xs) ≡ x ∷ unfolded_from (InDeclaration p) es xs
unfolding unfolded_from
goes_on p x xs es f h = rw (closing_later (length xs) (suc (length xs)) es (omega arith) h, open_later (length xs) (suc (length xs)) es (omega arith) h, f) refl

ends_declaration : (p r : Place) (xs : List Item) (es : List End) → AreWithin (length xs) es
    → unfolded_from (InDeclaration p) es (at r signs.Semicolon ∷ xs) ≡ at r signs.Semicolon ∷ at p signs.For ∷ at p signs.Open ∷ at p signs.Semicolon ∷ unfolded_from Elsewhere es xs
unfolding unfolded_from
ends_declaration p r xs es h = rw (closing_later (length xs) (suc (length xs)) es (omega arith) h, open_later (length xs) (suc (length xs)) es (omega arith) h) refl

declares_in : (p r : Place) (ts w : List Item) (es : List End) → holds is_semicolon ts ≡ false → AreWithin (length w) es
    → unfolded_from (InDeclaration p) es (ts ++ at r signs.Semicolon ∷ w) ≡ ts ++ at r signs.Semicolon ∷ at p signs.For ∷ at p signs.Open ∷ at p signs.Semicolon ∷ unfolded_from Elsewhere es w
declares_in p r [] w es h i = ends_declaration p r w es i
declares_in p r (x ∷ ts) w es h i =
    let k = neither (is_semicolon x.sign) (holds is_semicolon ts) h in
    goes_on p x (ts ++ at r signs.Semicolon ∷ w) es k.0 (within_text ts (at r signs.Semicolon ∷ w) es (within_text (at r signs.Semicolon ∷ []) w es i))
    ∙ ap (λ (y : List Item). x ∷ y) (declares_in p r ts w es k.1 i)

-- the block ends behind the statement
ends_block : (p : Place) (w : List Item) (es : List End) → HasItem w → unfolded_from Elsewhere (record { left = length w; place = p } ∷ es) w ≡ at p signs.RightBrace ∷ unfolded_from Elsewhere es w
unfolding unfolded_from
ends_block p [] es i = absurd i
ends_block p (y ∷ w) es i = rw (closing_here (suc (length w)) p es, open_here (suc (length w)) p es) refl

block_becomes : (p q r s : Place) (x : Item) (ts us vs os w : List Item) (es : List End) → begins_type x.sign ≡ true → holds is_semicolon (x ∷ ts) ≡ false → holds shapes us ≡ false → HasItem w → AreWithin (length w) es
    → behind_statement 65 (at p signs.For ∷ at q signs.Open ∷ x ∷ ((ts ++ at r signs.Semicolon ∷ (us ++ at s signs.Close ∷ vs)) ++ w)) ≡ w
    → Becomes (record { left = length w; place = p } ∷ es) vs w os
    → Becomes es (at p signs.For ∷ at q signs.Open ∷ x ∷ (ts ++ at r signs.Semicolon ∷ (us ++ at s signs.Close ∷ vs))) w
    (at p signs.LeftBrace ∷ x ∷ (ts ++ at r signs.Semicolon ∷ at p signs.For ∷ at p signs.Open ∷ at p signs.Semicolon ∷ (us ++ at s signs.Close ∷ (os ++ at p signs.RightBrace ∷ []))))
block_becomes p q r s x ts us vs os w es t f h i within behind body =
    let rest : List Item = (ts ++ at r signs.Semicolon ∷ (us ++ at s signs.Close ∷ vs)) ++ w in
    let last : List Item = us ++ at s signs.Close ∷ vs in
    let all : List End = record { left = length w; place = p } ∷ es in
    let inner : AreWithin (length w) all = (omega arith, within) in
    let is : x ∷ rest ≡ (x ∷ ts) ++ at r signs.Semicolon ∷ (last ++ w) = ap (λ (y : List Item). x ∷ y) (append_assoc ts (at r signs.Semicolon ∷ last) w) in
    let loop_text : Becomes all last w (us ++ at s signs.Close ∷ os) =
    becomes_both all us (at s signs.Close ∷ vs) us (at s signs.Close ∷ os) w (shapeless_same all us (at s signs.Close ∷ (vs ++ w)) h (within_text (at s signs.Close ∷ vs) w all inner)) (behind_other all (at s signs.Close) vs os w refl inner body) in
    let tail : List Item = unfolded_from Elsewhere es w in
    let start : List Item = at r signs.Semicolon ∷ at p signs.For ∷ at p signs.Open ∷ at p signs.Semicolon ∷ [] in
    let re : ts ++ (start ++ ((us ++ at s signs.Close ∷ os) ++ at p signs.RightBrace ∷ tail)) ≡ (ts ++ (start ++ (us ++ at s signs.Close ∷ (os ++ at p signs.RightBrace ∷ [])))) ++ tail = simp append_assoc in
    begins_block p q x rest es t (within_text (at q signs.Open ∷ x ∷ (ts ++ at r signs.Semicolon ∷ last)) w es within)
    ∙ ap (λ (y : List Item). at p signs.LeftBrace ∷ unfolded_from (AtParenthesis p) (record { left = length y; place = p } ∷ es) (at q signs.Open ∷ x ∷ rest)) behind
    ∙ ap (λ (y : List Item). at p signs.LeftBrace ∷ y) (leaves_parenthesis p (at q signs.Open) (x ∷ rest) all (within_text (x ∷ (ts ++ at r signs.Semicolon ∷ last)) w all inner))
    ∙ ap (λ (y : List Item). at p signs.LeftBrace ∷ unfolded_from (InDeclaration p) all y) is
    ∙ ap (λ (y : List Item). at p signs.LeftBrace ∷ y) (declares_in p r (x ∷ ts) (last ++ w) all f (within_text last w all inner))
    ∙ ap (λ (y : List Item). at p signs.LeftBrace ∷ x ∷ (ts ++ (start ++ y))) (loop_text ∙ ap (λ (y : List Item). (us ++ at s signs.Close ∷ os) ++ y) (ends_block p w es i))
    ∙ ap (λ (y : List Item). at p signs.LeftBrace ∷ x ∷ y) re

-- ---- all pieces

abbrev pub Unfolds : Piece → List Item → List Item → Type 0
Unfolds piece ts ms = (w : List Item) (es : List End) → Follows piece w → AreWithin (length w) es → Becomes es ts w ms

loop_other : {s : Sign} → IsLoop s → (p q r : Place) (ts us w : List Item) → DeclaresNone p q r s ts → declares (at p s) ((at q signs.Open ∷ (ts ++ at r signs.Close ∷ us)) ++ w) ≡ false
loop_other {s} l p q r ts us w d = ap (λ (y : List Item). declares (at p s) (at q signs.Open ∷ y)) (append_assoc ts (at r signs.Close ∷ us) w) ∙ d (us ++ w)

pub unfolds : {k : ℕ} {piece : Piece} {ts ms : List Item} → Turns k piece ts ms → k ≤ 64 → Unfolds piece ts ms
unfolds none le = λ w es f h. refl
unfolds (more {b} {ts} {ms} {us} {ns} a c) le = λ w es f h.
    becomes_both es ts us ms ns w (unfolds a le (us ++ w) es (follows_any (Statement b) (us ++ w) (begins c w f)) (within_text us w es h)) (unfolds c le w es f h)
unfolds (choice p n {ts} {ms} {us} {ns} {vs} {os} {k} a c d) le = λ w es f h.
    let less : k ≤ 64 = omega arith in
    behind_other es (at p (signs.GroupIf n)) (ts ++ (us ++ vs)) (ms ++ (ns ++ os)) w refl h
    (becomes_both es ts (us ++ vs) ms (ns ++ os) w
    (unfolds a less ((us ++ vs) ++ w) es (starts_more (us ++ vs) w (starts_more us vs (begins c))) (within_text (us ++ vs) w es h))
    (becomes_both es us vs ns os w (unfolds c less (vs ++ w) es (begins d w f) (within_text vs w es h)) (unfolds d le w es f h)))
unfolds (declaration {ts} {us} {ns} x a) le = λ w es f h.
    becomes_both es ts us ts ns w (shapeless_same es ts (us ++ w) x.free (within_text us w es h)) (unfolds a le w es f h)
unfolds (ends p) le = λ w es f h. behind_other es (at p signs.GroupEnd) [] [] w refl h refl
unfolds (otherwise p q {ts} {ms} a) le = λ w es f h.
    let last : List Item = at q signs.GroupEnd ∷ [] in
    behind_other es (at p signs.GroupElse) (ts ++ last) (ms ++ last) w refl h
    (becomes_both es ts last ms last w (unfolds a le (last ++ w) es tt (within_text last w es h)) (behind_other es (at q signs.GroupEnd) [] [] w refl h refl))
unfolds (elif p n {ts} {ms} {us} {ns} {k} a c) le = λ w es f h.
    let less : k ≤ 64 = omega arith in
    behind_other es (at p (signs.GroupElif n)) (ts ++ us) (ms ++ ns) w refl h
    (becomes_both es ts us ms ns w (unfolds a less (us ++ w) es (starts_more us w (begins c)) (within_text us w es h)) (unfolds c less w es f h))
unfolds (simple {ts} s) le = λ w es f h. shapeless_same es ts w s.free h
unfolds (block p q {ts} {ms} {k} a) le = λ w es f h.
    let less : k ≤ 64 = omega arith in
    let last : List Item = at q signs.RightBrace ∷ [] in
    behind_other es (at p signs.LeftBrace) (ts ++ last) (ms ++ last) w refl h
    (becomes_both es ts last ms last w (unfolds a less (last ++ w) es tt (within_text last w es h)) (behind_other es (at q signs.RightBrace) [] [] w refl h refl))
unfolds (loop p q r {s} {b} {ts} {us} {ns} {k} l c d a) le = λ w es f h.
    let less : k ≤ 64 = omega arith in
    becomes_behind es (at p s) (at q signs.Open ∷ (ts ++ at r signs.Close ∷ us)) (at q signs.Open ∷ (ts ++ at r signs.Close ∷ ns)) w (loop_other l p q r ts us w d) h
    (head_becomes es q r ts us ns w c.free h (unfolds a less w es f h))
unfolds (declaring p q r s x {b} {ts} {us} {vs} {os} {k} t c d a) le = λ w es f h.
    let less : k ≤ 64 = omega arith in
    let more_room : suc k < 65 = omega arith in
    let free : holds is_semicolon (x ∷ ts) ≡ false = none_less stops is_semicolon (x ∷ ts) semicolons_less c.free in
    let item : HasItem w = follows_item (Statement b) w f in
    block_becomes p q r s x ts us vs os w es t free d.free item h (passes (declaring p q r s x t c d a) w f 65 more_room)
    (unfolds a less w (record { left = length w; place = p } ∷ es) f (omega arith, h))
unfolds (if_then p q r {b} {ts} {us} {ns} {k} c a) le = λ w es f h.
    let less : k ≤ 64 = omega arith in
    behind_other es (at p signs.If) (at q signs.Open ∷ (ts ++ at r signs.Close ∷ us)) (at q signs.Open ∷ (ts ++ at r signs.Close ∷ ns)) w refl h
    (head_becomes es q r ts us ns w c.free h (unfolds a less w es (follows_any (Statement b) w f) h))
unfolds (if_else p q r s {b} {ts} {us} {ns} {vs} {os} {k} c a d) le = λ w es f h.
    let less : k ≤ 64 = omega arith in
    let other : List Item = at s signs.Else ∷ vs in
    behind_other es (at p signs.If) (at q signs.Open ∷ (ts ++ at r signs.Close ∷ (us ++ other))) (at q signs.Open ∷ (ts ++ at r signs.Close ∷ (ns ++ at s signs.Else ∷ os))) w refl h
    (head_becomes es q r ts (us ++ other) (ns ++ at s signs.Else ∷ os) w c.free h
    (becomes_both es us other ns (at s signs.Else ∷ os) w (unfolds a less (other ++ w) es tt (within_text other w es h)) (behind_other es (at s signs.Else) vs os w refl h (unfolds d less w es f h))))
unfolds (do_while p q r {b} {ts} {ms} {us} {k} a c) le = λ w es f h.
    let less : k ≤ 64 = omega arith in
    let last : List Item = at q signs.While ∷ (us ++ at r signs.Semicolon ∷ []) in
    let free : holds is_for us ≡ false = none_less shapes is_for us fors_less (none_less stops shapes us shapes_less c.free) in
    behind_other es (at p signs.Do) (ts ++ last) (ms ++ last) w refl h
    (becomes_both es ts last ms last w (unfolds a less (last ++ w) es (follows_any (Statement b) (last ++ w) tt) (within_text last w es h))
    (behind_other es (at q signs.While) (us ++ at r signs.Semicolon ∷ []) (us ++ at r signs.Semicolon ∷ []) w refl h
    (becomes_both es us (at r signs.Semicolon ∷ []) us (at r signs.Semicolon ∷ []) w (becomes_same es us (at r signs.Semicolon ∷ w) free (within_text (at r signs.Semicolon ∷ []) w es h)) (behind_other es (at r signs.Semicolon) [] [] w refl h refl))))
