-- What stands behind a statement, by its kind; and the braces of a piece are closed in it.
use Rattle.std.proofs.Common.{◌≡◌, ◌<◌, ℕ, zero, suc, false, List, [], ◌∷◌, ◌++◌, Some, refl, ap, subst, ◌∙◌, append_assoc, arith}
use Rattle.fam_outer.specs.declared.faults.Place.{Place}
use Rattle.c_grammar.specs.declared.items.Item.{Item}
use Rattle.c_grammar.specs.declared.items.Sign.{Sign}
use Rattle.c_grammar.specs.declared.items.Sign.TheVariants as signs
use Rattle.c_grammar.specs.Ahead.{IsNoElse}
use Rattle.c_grammar.specs.Grammar.{at}
use Rattle.c_grammar.specs.Scopes.{inner_behind}
use Rattle.for_blocks.specs.Blocks.{parentheses_behind, behind_closing, behind_parentheses, behind_semicolon, is_else, behind_else, behind_first, behind_statement, is_semicolon}
use Rattle.for_blocks.proofs.Texts.{shapes, stops, holds, none_less, shapes_less, semicolons_less, semicolon_passed, IsBalanced, balanced_both, balanced_behind, braces_balanced, braceless, brace_passed, parenthesis_passed}
use Rattle.for_blocks.proofs.Pieces.{Starts, Piece, Statements, Statement, Later, Follows, follows_any, behind_text, IsSimple, IsLoop, of_while, of_for, Turns, none, more, choice, declaration, ends, otherwise, elif, simple, block, loop, declaring, if_then, if_else, do_while}

-- ---- braces

loop_braceless : {s : Sign} → IsLoop s → (n : ℕ) → inner_behind n s ≡ Some n
loop_braceless of_while n = refl
loop_braceless of_for n = refl

-- parentheses without braces, and what follows
head_braced : (q r : Place) (ts us : List Item) → holds shapes ts ≡ false → IsBalanced inner_behind us → IsBalanced inner_behind (at q signs.Open ∷ (ts ++ at r signs.Close ∷ us))
head_braced q r ts us h b =
    balanced_behind inner_behind (at q signs.Open) (ts ++ at r signs.Close ∷ us) (λ n. refl)
    (balanced_both inner_behind ts (at r signs.Close ∷ us) (braceless ts h) (balanced_behind inner_behind (at r signs.Close) us (λ n. refl) b))

pub braced : {k : ℕ} {piece : Piece} {ts ms : List Item} → Turns k piece ts ms → IsBalanced inner_behind ts
braced none = λ n w. refl
braced (more {b} {ts} {ms} {us} a c) = balanced_both inner_behind ts us (braced a) (braced c)
braced (choice p m {ts} {ms} {us} {ns} {vs} a c d) =
    balanced_behind inner_behind (at p (signs.GroupIf m)) (ts ++ (us ++ vs)) (λ n. refl)
    (balanced_both inner_behind ts (us ++ vs) (braced a) (balanced_both inner_behind us vs (braced c) (braced d)))
braced (declaration {ts} {us} h a) = balanced_both inner_behind ts us (braceless ts h.free) (braced a)
braced (ends p) = balanced_behind inner_behind (at p signs.GroupEnd) [] (λ n. refl) (λ n w. refl)
braced (otherwise p q {ts} a) =
    balanced_behind inner_behind (at p signs.GroupElse) (ts ++ at q signs.GroupEnd ∷ []) (λ n. refl)
    (balanced_both inner_behind ts (at q signs.GroupEnd ∷ []) (braced a) (balanced_behind inner_behind (at q signs.GroupEnd) [] (λ n. refl) (λ n w. refl)))
braced (elif p m {ts} {ms} {us} a c) =
    balanced_behind inner_behind (at p (signs.GroupElif m)) (ts ++ us) (λ n. refl) (balanced_both inner_behind ts us (braced a) (braced c))
braced (simple {ts} s) = braceless ts s.free
braced (block p q {ts} a) = braces_balanced p q ts (braced a)
braced (loop p q r {s} {b} {ts} {us} l c d a) =
    balanced_behind inner_behind (at p s) (at q signs.Open ∷ (ts ++ at r signs.Close ∷ us)) (loop_braceless l) (head_braced q r ts us c.free (braced a))
braced (declaring p q r s x {b} {ts} {us} {vs} t c d a) =
    balanced_behind inner_behind (at p signs.For) (at q signs.Open ∷ x ∷ (ts ++ at r signs.Semicolon ∷ (us ++ at s signs.Close ∷ vs))) (λ n. refl)
    (balanced_behind inner_behind (at q signs.Open) (x ∷ (ts ++ at r signs.Semicolon ∷ (us ++ at s signs.Close ∷ vs))) (λ n. refl)
    (balanced_both inner_behind (x ∷ ts) (at r signs.Semicolon ∷ (us ++ at s signs.Close ∷ vs)) (braceless (x ∷ ts) (none_less stops shapes (x ∷ ts) shapes_less c.free))
    (balanced_behind inner_behind (at r signs.Semicolon) (us ++ at s signs.Close ∷ vs) (λ n. refl)
    (balanced_both inner_behind us (at s signs.Close ∷ vs) (braceless us d.free) (balanced_behind inner_behind (at s signs.Close) vs (λ n. refl) (braced a))))))
braced (if_then p q r {b} {ts} {us} c a) =
    balanced_behind inner_behind (at p signs.If) (at q signs.Open ∷ (ts ++ at r signs.Close ∷ us)) (λ n. refl) (head_braced q r ts us c.free (braced a))
braced (if_else p q r s {b} {ts} {us} {ns} {vs} c a d) =
    balanced_behind inner_behind (at p signs.If) (at q signs.Open ∷ (ts ++ at r signs.Close ∷ (us ++ at s signs.Else ∷ vs))) (λ n. refl)
    (head_braced q r ts (us ++ at s signs.Else ∷ vs) c.free
    (balanced_both inner_behind us (at s signs.Else ∷ vs) (braced a) (balanced_behind inner_behind (at s signs.Else) vs (λ n. refl) (braced d))))
braced (do_while p q r {b} {ts} {ms} {us} a c) =
    balanced_behind inner_behind (at p signs.Do) (ts ++ at q signs.While ∷ (us ++ at r signs.Semicolon ∷ [])) (λ n. refl)
    (balanced_both inner_behind ts (at q signs.While ∷ (us ++ at r signs.Semicolon ∷ [])) (braced a)
    (balanced_behind inner_behind (at q signs.While) (us ++ at r signs.Semicolon ∷ []) (λ n. refl)
    (balanced_both inner_behind us (at r signs.Semicolon ∷ []) (braceless us (none_less stops shapes us shapes_less c.free)) (balanced_behind inner_behind (at r signs.Semicolon) [] (λ n. refl) (λ n w. refl)))))

-- ---- statements by their kind

as_text : (n : ℕ) (items : List Item) → behind_statement (suc n) items ≡ behind_text (behind_statement n) items
unfolding behind_statement
as_text n [] = refl
as_text n (x ∷ xs) = refl

simple_passed : (k n : ℕ) (ts w : List Item) → IsSimple ts → k < n → behind_statement n (ts ++ w) ≡ w
simple_passed k zero ts w s lt = absurd (omega arith)
simple_passed k (suc n) ts w s lt = as_text n (ts ++ w) ∙ s.passed (behind_statement n) w

block_passed : (k n : ℕ) (p q : Place) (ts w : List Item) → IsBalanced inner_behind ts → k < n → behind_statement n (at p signs.LeftBrace ∷ ((ts ++ at q signs.RightBrace ∷ []) ++ w)) ≡ w
unfolding behind_statement
block_passed k zero p q ts w a lt = absurd (omega arith)
block_passed k (suc n) p q ts w a lt = brace_passed q ts w a

-- what a statement in another one does, where so much room is left
abbrev Passes : ℕ → List Item → List Item → Type 0
Passes k ts w = (n : ℕ) → k < n → behind_statement n (ts ++ w) ≡ w

head_passed : (q r : Place) (ts us w : List Item) → IsBalanced parentheses_behind ts → behind_parentheses (at q signs.Open ∷ ((ts ++ at r signs.Close ∷ us) ++ w)) ≡ us ++ w
head_passed q r ts us w a = ap (behind_closing parentheses_behind 0) (append_assoc ts (at r signs.Close ∷ us) w) ∙ parenthesis_passed r ts (us ++ w) a

loop_first : {s : Sign} → IsLoop s → (go : List Item → List Item) (xs : List Item) → behind_first go s xs ≡ go (behind_parentheses xs)
loop_first of_while go xs = refl
loop_first of_for go xs = refl

loop_passed : (k n : ℕ) (p q r : Place) {s : Sign} (ts us w : List Item) → IsLoop s → IsBalanced parentheses_behind ts → Passes k us w → suc k < n
    → behind_statement n (at p s ∷ at q signs.Open ∷ ((ts ++ at r signs.Close ∷ us) ++ w)) ≡ w
unfolding behind_statement
loop_passed k zero p q r ts us w l a on lt = absurd (omega arith)
loop_passed k (suc n) p q r ts us w l a on lt =
    loop_first l (behind_statement n) (at q signs.Open ∷ ((ts ++ at r signs.Close ∷ us) ++ w)) ∙ ap (behind_statement n) (head_passed q r ts us w a) ∙ on n (omega arith)

no_else : (s : Sign) → IsNoElse s → is_else s ≡ false
no_else signs.Else h = absurd h
no_else _ h = refl

else_none : (go : List Item → List Item) (w : List Item) → Starts w → behind_else go w ≡ w
else_none go [] s = absurd s
else_none go (x ∷ w) s = rw (no_else x.sign s) refl

then_passed : (k n : ℕ) (p q r : Place) (ts us w : List Item) → IsBalanced parentheses_behind ts → Passes k us w → Starts w → suc k < n
    → behind_statement n (at p signs.If ∷ at q signs.Open ∷ ((ts ++ at r signs.Close ∷ us) ++ w)) ≡ w
unfolding behind_statement
then_passed k zero p q r ts us w a on s lt = absurd (omega arith)
then_passed k (suc n) p q r ts us w a on s lt =
    ap (λ (y : List Item). behind_else (behind_statement n) (behind_statement n y)) (head_passed q r ts us w a)
    ∙ ap (behind_else (behind_statement n)) (on n (omega arith))
    ∙ else_none (behind_statement n) w s

else_passed : (k n : ℕ) (p q r s : Place) (ts us vs w : List Item) → IsBalanced parentheses_behind ts → Passes k us (at s signs.Else ∷ (vs ++ w)) → Passes k vs w → suc k < n
    → behind_statement n (at p signs.If ∷ at q signs.Open ∷ ((ts ++ at r signs.Close ∷ (us ++ at s signs.Else ∷ vs)) ++ w)) ≡ w
unfolding behind_statement
else_passed k zero p q r s ts us vs w a on other lt = absurd (omega arith)
else_passed k (suc n) p q r s ts us vs w a on other lt =
    ap (λ (y : List Item). behind_else (behind_statement n) (behind_statement n y)) (head_passed q r ts (us ++ at s signs.Else ∷ vs) w a ∙ append_assoc us (at s signs.Else ∷ vs) w)
    ∙ ap (behind_else (behind_statement n)) (on n (omega arith))
    ∙ other n (omega arith)

do_passed : (k n : ℕ) (p q r : Place) (ts us w : List Item) → holds is_semicolon us ≡ false → Passes k ts (at q signs.While ∷ ((us ++ at r signs.Semicolon ∷ []) ++ w)) → suc k < n
    → behind_statement n (at p signs.Do ∷ ((ts ++ at q signs.While ∷ (us ++ at r signs.Semicolon ∷ [])) ++ w)) ≡ w
unfolding behind_statement behind_semicolon
do_passed k zero p q r ts us w h on lt = absurd (omega arith)
do_passed k (suc n) p q r ts us w h on lt =
    ap (λ (y : List Item). behind_semicolon (behind_statement n y)) (append_assoc ts (at q signs.While ∷ (us ++ at r signs.Semicolon ∷ [])) w)
    ∙ ap behind_semicolon (on n (omega arith))
    ∙ ap behind_semicolon (append_assoc us (at r signs.Semicolon ∷ []) w)
    ∙ semicolon_passed r us w h

-- ---- all statements

abbrev pub Ends : ℕ → Piece → List Item → Type 0
Ends k Statements ts = Unit {0}
Ends k (Statement b) ts = (w : List Item) → Follows (Statement b) w → Passes k ts w
Ends k Later ts = Unit {0}

-- what stands behind a statement is found, with any room that is enough
pub passes : {k : ℕ} {piece : Piece} {ts ms : List Item} → Turns k piece ts ms → Ends k piece ts
passes none = tt
passes (more a c) = tt
passes (choice p m a c d) = tt
passes (declaration h a) = tt
passes (ends p) = tt
passes (otherwise p q a) = tt
passes (elif p m a c) = tt
passes (simple {ts} {k} s) = λ w f n lt. simple_passed k n ts w s lt
passes (block p q {ts} {ms} {k} a) = λ w f n lt. block_passed (suc k) n p q ts w (braced a) lt
passes (loop p q r {s} {b} {ts} {us} {ns} {k} l c d a) = λ w f n lt. loop_passed k n p q r ts us w l c.balanced (passes a w f) lt
passes (declaring p q r s x {b} {ts} {us} {vs} {os} {k} t c d a) = λ w f n lt.
    let head : List Item = (x ∷ ts) ++ at r signs.Semicolon ∷ us in
    let is : head ++ at s signs.Close ∷ vs ≡ x ∷ (ts ++ at r signs.Semicolon ∷ (us ++ at s signs.Close ∷ vs)) = simp append_assoc in
    let closed : IsBalanced parentheses_behind head =
    balanced_both parentheses_behind (x ∷ ts) (at r signs.Semicolon ∷ us) c.balanced (balanced_behind parentheses_behind (at r signs.Semicolon) us (λ m. refl) d.balanced) in
    subst (λ (y : List Item). behind_statement n (at p signs.For ∷ at q signs.Open ∷ (y ++ w)) ≡ w) is (loop_passed k n p q s head vs w of_for closed (passes a w f) lt)
passes (if_then p q r {b} {ts} {us} {ns} {k} c a) = λ w f n lt. then_passed k n p q r ts us w c.balanced (passes a w (follows_any (Statement b) w f)) f lt
passes (if_else p q r s {b} {ts} {us} {ns} {vs} {os} {k} c a d) = λ w f n lt.
    else_passed k n p q r s ts us vs w c.balanced (passes a (at s signs.Else ∷ (vs ++ w)) tt) (passes d w f) lt
passes (do_while p q r {b} {ts} {ms} {us} {k} a c) = λ w f n lt.
    do_passed k n p q r ts us w (none_less stops is_semicolon us semicolons_less c.free) (passes a (at q signs.While ∷ ((us ++ at r signs.Semicolon ∷ []) ++ w)) (follows_any (Statement b) (at q signs.While ∷ ((us ++ at r signs.Semicolon ∷ []) ++ w)) tt)) lt
