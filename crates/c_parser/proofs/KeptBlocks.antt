-- How many blocks are open behind the items that stay under the truths of conditions: as the braces of each group are level, no block is
-- left by items that go, unless it begins among them.
use Rattle.std.proofs.Common.{◌≡◌, ℕ, zero, suc, ◌+◌, ◌≤◌, ◌<◌, nat_le, Bool, true, false, not, ◌&&◌, List, [], ◌∷◌, Option, Some, None, refl, sym, ap, subst, ◌∙◌, arith}
use Rattle.std.specs.Prelude.{if◌then◌else◌}
use Rattle.std.proofs.lemmas.Bool.Decides.{nat_tests}
use Rattle.cpp_groups.specs.declared.section.Section.{Section}
use Rattle.cpp_groups.specs.declared.section.Section.TheVariants.{Seeking, Keeping, Passed}
use Rattle.cpp_groups.specs.Kept.{next_group, is_left_out, all_kept, in_next, behind, truth, sections_after}
use Rattle.c_grammar.specs.declared.items.Item.{Item}
use Rattle.c_grammar.specs.declared.items.Sign.{Sign}
use Rattle.c_grammar.specs.declared.items.Sign.TheVariants as signs
use Rattle.c_grammar.specs.Grammar.{is_group}
use Rattle.c_grammar.specs.Kept.{directive_of, kept_from}
use Rattle.c_grammar.specs.Scopes.{inner_behind, inner_from, are_open, is_open_behind, depth_behind, begun_behind, IsLevel, AreLevel}
use Rattle.c_parser.proofs.KeptStates.{same_sections}

-- ---- signs

-- a sign that is neither a brace nor a directive moves nothing
record IsStill (s : Sign) : Type 0 where
  plain : is_group s ≡ false
  inner : (n : ℕ) → inner_behind n s ≡ Some n
  depth : (d : ℕ) → depth_behind d s ≡ d
  begun : (bs : List ℕ) (d : ℕ) → begun_behind bs d s ≡ bs

data Move : Sign → Type 0 where
  opens : Move signs.LeftBrace
  closes : Move signs.RightBrace
  begins : (n : ℕ) → Move (signs.GroupIf n)
  goes_on : (n : ℕ) → Move (signs.GroupElif n)
  otherwise : Move signs.GroupElse
  ends : Move signs.GroupEnd
  still : (s : Sign) → IsStill s → Move s

move : (s : Sign) → Move s
move signs.LeftBrace = opens
move signs.RightBrace = closes
move (signs.GroupIf n) = begins n
move (signs.GroupElif n) = goes_on n
move signs.GroupElse = otherwise
move signs.GroupEnd = ends
move s = still s (record { plain = refl; inner = λ n. refl; depth = λ d. refl; begun = λ bs d. refl })

-- ---- where the open sections begin

-- each open section begins no deeper than what stands in it
abbrev pub AreNested : List Section → List ℕ → ℕ → Type 0
AreNested [] [] depth = Unit {0}
AreNested [] (b ∷ begun) depth = ⊥
AreNested (s ∷ ss) [] depth = ⊥
AreNested (s ∷ ss) (b ∷ begun) depth = (b ≤ depth) × AreNested ss begun b

deeper : (ss : List Section) (begun : List ℕ) (d e : ℕ) → d ≤ e → AreNested ss begun d → AreNested ss begun e
deeper [] [] d e le h = tt
deeper [] (b ∷ begun) d e le h = absurd h
deeper (s ∷ ss) [] d e le h = absurd h
deeper (s ∷ ss) (b ∷ begun) d e le h = (omega (arith, le, h.0), h.1)

nested_behind_brace : (ss : List Section) (begun : List ℕ) (depth : ℕ) → AreNested ss begun depth → IsLevel begun depth signs.RightBrace → AreNested ss begun (depth_behind depth signs.RightBrace)
nested_behind_brace [] [] depth h l = tt
nested_behind_brace [] (b ∷ begun) depth h l = absurd h
nested_behind_brace (s ∷ ss) [] depth h l = absurd h
nested_behind_brace (s ∷ ss) (b ∷ begun) zero h l = absurd (omega (arith, l))
nested_behind_brace (s ∷ ss) (b ∷ begun) (suc depth) h l = (omega (arith, l), h.1)

nested_next : (truths : List Bool) (ss : List Section) (begun : List ℕ) (depth : ℕ) {s : Sign} → Move s → AreNested ss begun depth → IsLevel begun depth s
    → AreNested (sections_after truths ss (directive_of s)) (begun_behind begun depth s) (depth_behind depth s)
nested_next truths ss begun depth opens h l = deeper ss begun depth (suc depth) (omega arith) h
nested_next truths ss begun depth closes h l = nested_behind_brace ss begun depth h l
nested_next truths ss begun depth (begins n) h l = (omega arith, h)
nested_next truths [] [] depth (goes_on n) h l = tt
nested_next truths [] (b ∷ begun) depth (goes_on n) h l = absurd h
nested_next truths (s ∷ ss) [] depth (goes_on n) h l = absurd h
nested_next truths (s ∷ ss) (b ∷ begun) depth (goes_on n) h l = h
nested_next truths [] [] depth otherwise h l = tt
nested_next truths [] (b ∷ begun) depth otherwise h l = absurd h
nested_next truths (s ∷ ss) [] depth otherwise h l = absurd h
nested_next truths (s ∷ ss) (b ∷ begun) depth otherwise h l = h
nested_next truths [] [] depth ends h l = tt
nested_next truths [] (b ∷ begun) depth ends h l = absurd h
nested_next truths (s ∷ ss) [] depth ends h l = absurd h
nested_next truths (s ∷ ss) (b ∷ begun) depth ends h l = deeper ss begun b depth h.0 h.1
nested_next truths ss begun depth (still s i) h l =
    subst (λ (us : List Section). AreNested us (begun_behind begun depth s) (depth_behind depth s)) (sym (same_sections truths ss s i.plain))
    (subst (λ (bs : List ℕ). AreNested ss bs (depth_behind depth s)) (sym (i.begun begun depth)) (subst (AreNested ss begun) (sym (i.depth depth)) h))

-- how deep the outermost section begins whose group here goes
abbrev pub gone_from : List Section → List ℕ → ℕ
gone_from [] begun = 0
gone_from (s ∷ ss) [] = 0
gone_from (s ∷ ss) (b ∷ begun) = if all_kept ss then b else gone_from ss begun

gone_above : (ss : List Section) (begun : List ℕ) (depth : ℕ) → AreNested ss begun depth → gone_from ss begun ≤ depth
gone_above [] begun depth h = omega arith
gone_above (s ∷ ss) [] depth h = omega arith
gone_above (s ∷ ss) (b ∷ begun) depth h = elim (all_kept ss) as (λ k. (if k then b else gone_from ss begun) ≤ depth) [
  | true ↦ h.0
  | false ↦ omega (arith, h.0, gone_above ss begun b h.1)
]

-- ---- the blocks that are open

-- how many blocks inside one that begins at a depth are open behind what stays and behind all items: as many, or those that the first
-- group has around it that goes; and it is left by both or by neither
data AreAlike (base : ℕ) (ss : List Section) (begun : List ℕ) (depth : ℕ) : Option ℕ → Option ℕ → Type 0 where
  left : AreAlike base ss begun depth None None
  same : (n : ℕ) → all_kept ss ≡ true → depth ≡ base + n → AreAlike base ss begun depth (Some n) (Some n)
  apart : (m n : ℕ) → all_kept ss ≡ false → gone_from ss begun ≡ base + m → depth ≡ base + n → AreAlike base ss begun depth (Some m) (Some n)

and_false : (b : Bool) → (b && false) ≡ false
and_false true = refl
and_false false = refl

-- a section begins
into_group : {base depth : ℕ} {ss : List Section} {begun : List ℕ} {here all : Option ℕ} (t : Bool) → AreAlike base ss begun depth here all → AreAlike base (next_group Seeking t ∷ ss) (depth ∷ begun) depth here all
into_group t left = left
into_group true (same n k e) = same n k e
into_group {base} {depth} {ss} {begun} false (same n k e) = apart n n refl (ap (λ (b : Bool). if b then depth else gone_from ss begun) k ∙ e) e
into_group {base} {depth} {ss} {begun} true (apart m n k g e) = apart m n k (ap (λ (b : Bool). if b then depth else gone_from ss begun) k ∙ g) e
into_group {base} {depth} {ss} {begun} false (apart m n k g e) = apart m n refl (ap (λ (b : Bool). if b then depth else gone_from ss begun) k ∙ g) e

-- where what goes ends, as many blocks are open as where it begins
as_many : (base b depth m n : ℕ) → b ≡ depth → b ≡ base + m → depth ≡ base + n → m ≡ n
as_many base b depth m n l g e = omega (arith, l, g, e)

joined : {base depth : ℕ} {ss : List Section} {begun : List ℕ} (b m n : ℕ) → b ≡ depth → all_kept ss ≡ true → b ≡ base + m → depth ≡ base + n → AreAlike base ss begun depth (Some m) (Some n)
joined {base} {depth} {ss} {begun} b m n l k g e = subst (λ (i : ℕ). AreAlike base ss begun depth (Some i) (Some n)) (sym (as_many base b depth m n l g e)) (same n k e)

-- another group of it
next_one : {base depth b m n : ℕ} {ss : List Section} {begun : List ℕ} (s : Section) → b ≡ depth → all_kept ss ≡ true → b ≡ base + m → depth ≡ base + n → AreAlike base (s ∷ ss) (b ∷ begun) depth (Some m) (Some n)
next_one {base} {depth} {b} {m} {n} {ss} {begun} Keeping l k g e = joined b m n l k g e
next_one {base} {depth} {b} {m} {n} {ss} {begun} Seeking l k g e = apart m n refl (ap (λ (t : Bool). if t then b else gone_from ss begun) k ∙ g) e
next_one {base} {depth} {b} {m} {n} {ss} {begun} Passed l k g e = apart m n refl (ap (λ (t : Bool). if t then b else gone_from ss begun) k ∙ g) e

on_kept : {base depth b n : ℕ} {ss : List Section} {begun : List ℕ} (s : Section) (t : Bool) → b ≡ depth → all_kept (s ∷ ss) ≡ true → depth ≡ base + n → AreAlike base (next_group s t ∷ ss) (b ∷ begun) depth (Some n) (Some n)
on_kept Seeking t l k e = absurd cc
on_kept Passed t l k e = absurd cc
on_kept Keeping t l k e = next_one Passed l k (l ∙ e) e

on_gone : {base depth b m n : ℕ} {ss : List Section} {begun : List ℕ} (s : Section) (k : Bool) → all_kept ss ≡ k → b ≡ depth → (if k then b else gone_from ss begun) ≡ base + m → depth ≡ base + n → AreAlike base (s ∷ ss) (b ∷ begun) depth (Some m) (Some n)
on_gone s true k l g e = next_one s l k g e
on_gone {base} {depth} {b} {m} {n} {ss} {begun} s false k l g e =
    apart m n (ap (λ (t : Bool). not (is_left_out s) && t) k ∙ and_false (not (is_left_out s))) (ap (λ (t : Bool). if t then b else gone_from ss begun) k ∙ g) e

on_with : {base depth b : ℕ} {ss : List Section} {begun : List ℕ} {here all : Option ℕ} (s : Section) (t : Bool) → b ≡ depth → AreAlike base (s ∷ ss) (b ∷ begun) depth here all → AreAlike base (next_group s t ∷ ss) (b ∷ begun) depth here all
on_with s t l left = left
on_with s t l (same n k e) = on_kept s t l k e
on_with {base} {depth} {b} {ss} {begun} s t l (apart m n k g e) = on_gone (next_group s t) (all_kept ss) refl l g e

-- and its end
out_kept : {base depth n : ℕ} {ss : List Section} {begun : List ℕ} (s : Section) → all_kept (s ∷ ss) ≡ true → depth ≡ base + n → AreAlike base ss begun depth (Some n) (Some n)
out_kept Seeking k e = absurd cc
out_kept Passed k e = absurd cc
out_kept {base} {depth} {n} Keeping k e = same n k e

out_gone : {base depth b m n : ℕ} {ss : List Section} {begun : List ℕ} (k : Bool) → all_kept ss ≡ k → b ≡ depth → (if k then b else gone_from ss begun) ≡ base + m → depth ≡ base + n → AreAlike base ss begun depth (Some m) (Some n)
out_gone {base} {depth} {b} {m} {n} true k l g e = joined b m n l k g e
out_gone {base} {depth} {b} {m} {n} false k l g e = apart m n k g e

out_of : {base depth b : ℕ} {ss : List Section} {begun : List ℕ} {here all : Option ℕ} (s : Section) → b ≡ depth → AreAlike base (s ∷ ss) (b ∷ begun) depth here all → AreAlike base ss begun depth here all
out_of s l left = left
out_of s l (same n k e) = out_kept s k e
out_of {base} {depth} {b} {ss} {begun} s l (apart m n k g e) = out_gone (all_kept ss) refl l g e

-- how many blocks are open behind a sign
abbrev inner_next : Option ℕ → Sign → Option ℕ
inner_next None s = None
inner_next (Some n) s = inner_behind n s

abbrev here_next : Bool → Option ℕ → Sign → Option ℕ
here_next keep here s = if keep then inner_next here s else here

left_still : (k : Bool) (s : Sign) → here_next k None s ≡ None
left_still true s = refl
left_still false s = refl

-- a block begins
opened : {base depth : ℕ} {ss : List Section} {begun : List ℕ} {here all : Option ℕ} → AreAlike base ss begun depth here all
    → AreAlike base ss begun (suc depth) (here_next (all_kept ss) here signs.LeftBrace) (inner_next all signs.LeftBrace)
opened {base} {depth} {ss} {begun} left = subst (λ (o : Option ℕ). AreAlike base ss begun (suc depth) o None) (sym (left_still (all_kept ss) signs.LeftBrace)) left
opened {base} {depth} {ss} {begun} (same n k e) =
    subst (λ (t : Bool). AreAlike base ss begun (suc depth) (here_next t (Some n) signs.LeftBrace) (Some (suc n))) (sym k) (same (suc n) k (omega (arith, e)))
opened {base} {depth} {ss} {begun} (apart m n k g e) =
    subst (λ (t : Bool). AreAlike base ss begun (suc depth) (here_next t (Some m) signs.LeftBrace) (Some (suc n))) (sym k) (apart m (suc n) k g (omega (arith, e)))

-- a block that ends begins behind the outermost section whose group goes
above_gone : (ss : List Section) (begun : List ℕ) (depth : ℕ) → all_kept ss ≡ false → AreNested ss begun depth → IsLevel begun depth signs.RightBrace → gone_from ss begun < depth
above_gone [] begun depth k h l = absurd cc
above_gone (s ∷ ss) [] depth k h l = absurd h
above_gone (s ∷ ss) (b ∷ begun) depth k h l =
    let above : gone_from (s ∷ ss) (b ∷ begun) ≤ b = gone_above (s ∷ ss) (b ∷ begun) b (omega arith, h.1) in
    omega (arith, above, l)

closed_same : {base : ℕ} {ss : List Section} {begun : List ℕ} (depth n : ℕ) → all_kept ss ≡ true → depth ≡ base + n → AreAlike base ss begun (depth_behind depth signs.RightBrace) (inner_behind n signs.RightBrace) (inner_behind n signs.RightBrace)
closed_same depth zero k e = left
closed_same zero (suc n) k e = absurd (omega (arith, e))
closed_same (suc depth) (suc n) k e = same n k (omega (arith, e))

closed_apart : {base : ℕ} {ss : List Section} {begun : List ℕ} (depth m n : ℕ) → all_kept ss ≡ false → gone_from ss begun ≡ base + m → depth ≡ base + n → gone_from ss begun < depth
    → AreAlike base ss begun (depth_behind depth signs.RightBrace) (Some m) (inner_behind n signs.RightBrace)
closed_apart depth m zero k g e lt = absurd (omega (arith, g, e, lt))
closed_apart zero m (suc n) k g e lt = absurd (omega (arith, e))
closed_apart (suc depth) m (suc n) k g e lt = apart m n k g (omega (arith, e))

-- a block ends
closed : {base depth : ℕ} {ss : List Section} {begun : List ℕ} {here all : Option ℕ} → AreNested ss begun depth → IsLevel begun depth signs.RightBrace → AreAlike base ss begun depth here all
    → AreAlike base ss begun (depth_behind depth signs.RightBrace) (here_next (all_kept ss) here signs.RightBrace) (inner_next all signs.RightBrace)
closed {base} {depth} {ss} {begun} h l left = subst (λ (o : Option ℕ). AreAlike base ss begun (depth_behind depth signs.RightBrace) o None) (sym (left_still (all_kept ss) signs.RightBrace)) left
closed {base} {depth} {ss} {begun} h l (same n k e) =
    subst (λ (t : Bool). AreAlike base ss begun (depth_behind depth signs.RightBrace) (here_next t (Some n) signs.RightBrace) (inner_behind n signs.RightBrace)) (sym k) (closed_same depth n k e)
closed {base} {depth} {ss} {begun} h l (apart m n k g e) =
    subst (λ (t : Bool). AreAlike base ss begun (depth_behind depth signs.RightBrace) (here_next t (Some m) signs.RightBrace) (inner_behind n signs.RightBrace)) (sym k)
    (closed_apart depth m n k g e (above_gone ss begun depth k h l))

-- a directive begins and ends no block
at_directive : (all : Option ℕ) (s : Sign) → is_group s ≡ true → inner_next all s ≡ all
at_directive None s g = refl
at_directive (Some n) (signs.GroupIf k) g = refl
at_directive (Some n) (signs.GroupElif k) g = refl
at_directive (Some n) signs.GroupElse g = refl
at_directive (Some n) signs.GroupEnd g = refl
at_directive (Some n) _ g = absurd cc

no_move : (o : Option ℕ) (s : Sign) → IsStill s → inner_next o s ≡ o
no_move None s i = refl
no_move (Some n) s i = i.inner n

here_still : (k : Bool) (o : Option ℕ) (s : Sign) → IsStill s → here_next k o s ≡ o
here_still true o s i = no_move o s i
here_still false o s i = refl

-- the innermost section begins where as many blocks are open
abbrev BeginsHere : List ℕ → ℕ → Type 0
BeginsHere [] depth = Unit {0}
BeginsHere (b ∷ begun) depth = b ≡ depth

at_elif : (begun : List ℕ) (depth n : ℕ) → IsLevel begun depth (signs.GroupElif n) → BeginsHere begun depth
at_elif [] depth n l = tt
at_elif (b ∷ begun) depth n l = l

at_else : (begun : List ℕ) (depth : ℕ) → IsLevel begun depth signs.GroupElse → BeginsHere begun depth
at_else [] depth l = tt
at_else (b ∷ begun) depth l = l

next_group_of : {base depth : ℕ} (ss : List Section) (begun : List ℕ) {here all : Option ℕ} (t : Bool) → AreNested ss begun depth → BeginsHere begun depth → AreAlike base ss begun depth here all → AreAlike base (in_next t ss) begun depth here all
next_group_of [] [] t h l a = a
next_group_of [] (b ∷ begun) t h l a = absurd h
next_group_of (s ∷ ss) [] t h l a = absurd h
next_group_of (s ∷ ss) (b ∷ begun) t h l a = on_with s t l a

end_of : {base depth : ℕ} (ss : List Section) (begun : List ℕ) {here all : Option ℕ} → AreNested ss begun depth → IsLevel begun depth signs.GroupEnd → AreAlike base ss begun depth here all
    → AreAlike base (behind ss) (begun_behind begun depth signs.GroupEnd) depth here all
end_of [] [] h l a = a
end_of [] (b ∷ begun) h l a = absurd h
end_of (s ∷ ss) [] h l a = absurd h
end_of (s ∷ ss) (b ∷ begun) h l a = out_of s l a

-- behind a sign they are alike too
alike_next : {base depth : ℕ} {ss : List Section} {begun : List ℕ} {here all : Option ℕ} (truths : List Bool) {s : Sign} → Move s → AreNested ss begun depth → IsLevel begun depth s → AreAlike base ss begun depth here all
    → AreAlike base (sections_after truths ss (directive_of s)) (begun_behind begun depth s) (depth_behind depth s) (here_next (not (is_group s) && all_kept ss) here s) (inner_next all s)
alike_next truths opens h l a = opened a
alike_next truths closes h l a = closed h l a
alike_next {base} {depth} {ss} {begun} {here} {all} truths (begins n) h l a =
    subst (λ (o : Option ℕ). AreAlike base (next_group Seeking (truth truths n) ∷ ss) (depth ∷ begun) depth here o) (sym (at_directive all (signs.GroupIf n) refl)) (into_group (truth truths n) a)
alike_next {base} {depth} {ss} {begun} {here} {all} truths (goes_on n) h l a =
    subst (λ (o : Option ℕ). AreAlike base (in_next (truth truths n) ss) begun depth here o) (sym (at_directive all (signs.GroupElif n) refl)) (next_group_of ss begun (truth truths n) h (at_elif begun depth n l) a)
alike_next {base} {depth} {ss} {begun} {here} {all} truths otherwise h l a =
    subst (λ (o : Option ℕ). AreAlike base (in_next true ss) begun depth here o) (sym (at_directive all signs.GroupElse refl)) (next_group_of ss begun true h (at_else begun depth l) a)
alike_next {base} {depth} {ss} {begun} {here} {all} truths ends h l a =
    subst (λ (o : Option ℕ). AreAlike base (behind ss) (begun_behind begun depth signs.GroupEnd) depth here o) (sym (at_directive all signs.GroupEnd refl)) (end_of ss begun h l a)
alike_next {base} {depth} {ss} {begun} {here} {all} truths (still s i) h l a =
    let us = sections_after truths ss (directive_of s) in
    let moved : AreAlike base ss begun depth (here_next (not (is_group s) && all_kept ss) here s) (inner_next all s) =
    subst (AreAlike base ss begun depth (here_next (not (is_group s) && all_kept ss) here s)) (sym (no_move all s i))
    (subst (λ (o : Option ℕ). AreAlike base ss begun depth o all) (sym (here_still (not (is_group s) && all_kept ss) here s i)) a) in
    subst (λ (vs : List Section). AreAlike base vs (begun_behind begun depth s) (depth_behind depth s) (here_next (not (is_group s) && all_kept ss) here s) (inner_next all s)) (sym (same_sections truths ss s i.plain))
    (subst (λ (bs : List ℕ). AreAlike base ss bs (depth_behind depth s) (here_next (not (is_group s) && all_kept ss) here s) (inner_next all s)) (sym (i.begun begun depth))
    (subst (λ (d : ℕ). AreAlike base ss begun d (here_next (not (is_group s) && all_kept ss) here s) (inner_next all s)) (sym (i.depth depth)) moved))

-- ---- blocks that are left

open_at_all : (n : ℕ) → nat_le 0 n ≡ true
open_at_all n = grind (arith, nat_tests)

from_one : (all : Option ℕ) (x : Item) (xs : List Item) → inner_from all (x ∷ xs) ≡ inner_from (inner_next all x.sign) xs
from_one None x [] = refl
from_one None x (y ∷ xs) = refl
from_one (Some n) x xs = refl

from_here : (keep : Bool) (here : Option ℕ) (x : Item) (ys : List Item) → inner_from here (if keep then x ∷ ys else ys) ≡ inner_from (here_next keep here x.sign) ys
from_here true here x ys = from_one here x ys
from_here false here x ys = refl

nothing_behind : {base depth : ℕ} {ss : List Section} {begun : List ℕ} {here all : Option ℕ} → AreAlike base ss begun depth here all → are_open 0 (inner_from here []) ≡ are_open 0 (inner_from all [])
nothing_behind left = refl
nothing_behind (same n k e) = refl
nothing_behind (apart m n k g e) = open_at_all m ∙ sym (open_at_all n)

first_alike : (ss : List Section) (begun : List ℕ) (depth : ℕ) → all_kept ss ≡ true → AreAlike depth ss begun depth (Some 0) (Some 0)
first_alike ss begun depth k = same 0 k (omega arith)

-- a block is left by what stays where it is left by all items
open_alike : {base depth : ℕ} {ss : List Section} {begun : List ℕ} {here all : Option ℕ} (truths : List Bool) (xs : List Item) → AreNested ss begun depth → AreLevel begun depth xs → AreAlike base ss begun depth here all
    → are_open 0 (inner_from here (kept_from truths ss xs)) ≡ are_open 0 (inner_from all xs)
open_alike truths [] h l a = nothing_behind a
open_alike {base} {depth} {ss} {begun} {here} {all} truths (x ∷ xs) h l a =
    ap (are_open 0) (from_here (not (is_group x.sign) && all_kept ss) here x (kept_from truths (sections_after truths ss (directive_of x.sign)) xs))
    ∙ open_alike truths xs (nested_next truths ss begun depth (move x.sign) h l.0) l.1 (alike_next truths (move x.sign) h l.0 a)
    ∙ sym (ap (are_open 0) (from_one all x xs))

-- each section that is open behind an item begins no deeper than what stands in it
pub nested_behind : (truths : List Bool) (ss : List Section) (begun : List ℕ) (depth : ℕ) (s : Sign) → AreNested ss begun depth → IsLevel begun depth s
    → AreNested (sections_after truths ss (directive_of s)) (begun_behind begun depth s) (depth_behind depth s)
nested_behind truths ss begun depth s h l = nested_next truths ss begun depth (move s) h l

-- where an item stays, the block in which it stands is left by what stays behind it where it is left by all items
pub stays_open : (truths : List Bool) (ss : List Section) (begun : List ℕ) (depth : ℕ) (xs : List Item) → all_kept ss ≡ true → AreNested ss begun depth → AreLevel begun depth xs → is_open_behind 0 (kept_from truths ss xs) ≡ is_open_behind 0 xs
stays_open truths ss begun depth xs k h l = open_alike truths xs h l (first_alike ss begun depth k)
