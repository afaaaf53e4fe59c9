-- The laws of blocks for loops that declare variables, of a file within the limits.
use Rattle.std.proofs.Common.{◌≡◌, ℕ, Bool, true, false, not, ◌&&◌, List, [], ◌∷◌, ◌++◌, refl, sym, ap, subst, ◌∙◌, append_assoc, arith}
use Rattle.std.specs.Prelude.{if◌then◌else◌}
use Rattle.std.proofs.lemmas.List.{append-nil}
use Rattle.fam_outer.specs.declared.faults.Place.{Place}
use Rattle.c_grammar.specs.declared.items.Item.{Item}
use Rattle.c_grammar.specs.declared.items.Sign.TheVariants as signs
use Rattle.c_grammar.specs.Grammar.{at, is_group, File, Forms}
use Rattle.c_grammar.specs.Kept.{kept_from, kept, directive_of}
use Rattle.cpp_groups.specs.declared.section.Section.{Section}
use Rattle.cpp_groups.specs.Kept.{all_kept, sections_after}
use Rattle.c_grammar.proofs.Keeping.{Keeps}
use Rattle.for_blocks.specs.declared.blocks.Part.TheVariants.{Elsewhere}
use Rattle.for_blocks.specs.Blocks.{is_for, declares, unfolded, unfolded_from}
use Rattle.for_blocks.specs.Laws.{NoneDeclares, BlocksFormTheFile, BlocksDeclareNone, BlocksAreKept}
use Rattle.for_blocks.proofs.Texts.{shapes, stops, holds, neither, none_less, shapes_less, fors_less, nor}
use Rattle.for_blocks.proofs.Others.{not_for}
use Rattle.for_blocks.proofs.Pieces.{Piece, Statements, Turns, none, more, choice, declaration, ends, otherwise, elif, simple, block, loop, declaring, if_then, if_else, do_while}
use Rattle.for_blocks.proofs.Unfolding.{becomes_same, unfolds}
use Rattle.for_blocks.proofs.Staying.{stays}
use Rattle.for_blocks.proofs.Files.{Parts, file_parts}

-- ---- no loop in what a piece turns into declares variables

none_before : (ts w : List Item) → holds is_for ts ≡ false → NoneDeclares w → NoneDeclares (ts ++ w)
none_before [] w h n = n
none_before (x ∷ ts) w h n = let r = neither (is_for x.sign) (holds is_for ts) h in (not_for x (ts ++ w) r.0, none_before ts w r.1 n)

shapeless : (ts w : List Item) → holds shapes ts ≡ false → NoneDeclares w → NoneDeclares (ts ++ w)
shapeless ts w h n = none_before ts w (none_less shapes is_for ts fors_less h) n

stopless : (ts w : List Item) → holds stops ts ≡ false → NoneDeclares w → NoneDeclares (ts ++ w)
stopless ts w h n = shapeless ts w (none_less stops shapes ts shapes_less h) n

behind : (x : Item) (w : List Item) → is_for x.sign ≡ false → NoneDeclares w → NoneDeclares (x ∷ w)
behind x w h n = (not_for x w h, n)

regrouped : (ts us w : List Item) → NoneDeclares (ts ++ (us ++ w)) → NoneDeclares ((ts ++ us) ++ w)
regrouped ts us w n = subst NoneDeclares (sym (append_assoc ts us w)) n

-- parentheses, and what follows
head_none : (q r : Place) (ts us w : List Item) → holds shapes ts ≡ false → NoneDeclares (us ++ w) → NoneDeclares (at q signs.Open ∷ ((ts ++ at r signs.Close ∷ us) ++ w))
head_none q r ts us w h n =
    behind (at q signs.Open) ((ts ++ at r signs.Close ∷ us) ++ w) refl (regrouped ts (at r signs.Close ∷ us) w (shapeless ts (at r signs.Close ∷ (us ++ w)) h (behind (at r signs.Close) (us ++ w) refl n)))

turned_none : {k : ℕ} {piece : Piece} {ts ms : List Item} → Turns k piece ts ms → (w : List Item) → NoneDeclares w → NoneDeclares (ms ++ w)
turned_none none w n = n
turned_none (more {b} {ts} {ms} {us} {ns} a c) w n = regrouped ms ns w (turned_none a (ns ++ w) (turned_none c w n))
turned_none (choice p m {ts} {ms} {us} {ns} {vs} {os} a c d) w n =
    behind (at p (signs.GroupIf m)) ((ms ++ (ns ++ os)) ++ w) refl
    (regrouped ms (ns ++ os) w (turned_none a ((ns ++ os) ++ w) (regrouped ns os w (turned_none c (os ++ w) (turned_none d w n)))))
turned_none (declaration {ts} {us} {ns} h a) w n = regrouped ts ns w (shapeless ts (ns ++ w) h.free (turned_none a w n))
turned_none (ends p) w n = behind (at p signs.GroupEnd) w refl n
turned_none (otherwise p q {ts} {ms} a) w n =
    behind (at p signs.GroupElse) ((ms ++ at q signs.GroupEnd ∷ []) ++ w) refl (regrouped ms (at q signs.GroupEnd ∷ []) w (turned_none a (at q signs.GroupEnd ∷ w) (behind (at q signs.GroupEnd) w refl n)))
turned_none (elif p m {ts} {ms} {us} {ns} a c) w n =
    behind (at p (signs.GroupElif m)) ((ms ++ ns) ++ w) refl (regrouped ms ns w (turned_none a (ns ++ w) (turned_none c w n)))
turned_none (simple {ts} s) w n = shapeless ts w s.free n
turned_none (block p q {ts} {ms} a) w n =
    behind (at p signs.LeftBrace) ((ms ++ at q signs.RightBrace ∷ []) ++ w) refl (regrouped ms (at q signs.RightBrace ∷ []) w (turned_none a (at q signs.RightBrace ∷ w) (behind (at q signs.RightBrace) w refl n)))
turned_none (loop p q r {s} {b} {ts} {us} {ns} l c d a) w n =
    (ap (λ (y : List Item). declares (at p s) (at q signs.Open ∷ y)) (append_assoc ts (at r signs.Close ∷ ns) w) ∙ d (ns ++ w), head_none q r ts ns w c.free (turned_none a w n))
turned_none (declaring p q r s x {b} {ts} {us} {vs} {os} t c d a) w n =
    let last : List Item = at p signs.RightBrace ∷ [] in
    let body : List Item = us ++ at s signs.Close ∷ (os ++ last) in
    let start : List Item = at r signs.Semicolon ∷ at p signs.For ∷ at p signs.Open ∷ at p signs.Semicolon ∷ body in
    behind (at p signs.LeftBrace) ((x ∷ (ts ++ start)) ++ w) refl
    (regrouped (x ∷ ts) start w
    (stopless (x ∷ ts) (start ++ w) c.free
    (behind (at r signs.Semicolon) (at p signs.For ∷ at p signs.Open ∷ at p signs.Semicolon ∷ (body ++ w)) refl (
      refl,
      behind (at p signs.Open) (at p signs.Semicolon ∷ (body ++ w)) refl
          (behind (at p signs.Semicolon) (body ++ w) refl
          (regrouped us (at s signs.Close ∷ (os ++ last)) w
          (shapeless us (at s signs.Close ∷ ((os ++ last) ++ w)) d.free
          (behind (at s signs.Close) ((os ++ last) ++ w) refl (regrouped os last w (turned_none a (last ++ w) (behind (at p signs.RightBrace) w refl n))))))),
    ))))
turned_none (if_then p q r {b} {ts} {us} {ns} c a) w n =
    behind (at p signs.If) (at q signs.Open ∷ ((ts ++ at r signs.Close ∷ ns) ++ w)) refl (head_none q r ts ns w c.free (turned_none a w n))
turned_none (if_else p q r s {b} {ts} {us} {ns} {vs} {os} c a d) w n =
    behind (at p signs.If) (at q signs.Open ∷ ((ts ++ at r signs.Close ∷ (ns ++ at s signs.Else ∷ os)) ++ w)) refl
    (head_none q r ts (ns ++ at s signs.Else ∷ os) w c.free (regrouped ns (at s signs.Else ∷ os) w (turned_none a (at s signs.Else ∷ (os ++ w)) (behind (at s signs.Else) (os ++ w) refl (turned_none d w n)))))
turned_none (do_while p q r {b} {ts} {ms} {us} a c) w n =
    let tail : List Item = us ++ at r signs.Semicolon ∷ [] in
    behind (at p signs.Do) ((ms ++ at q signs.While ∷ tail) ++ w) refl
    (regrouped ms (at q signs.While ∷ tail) w (turned_none a (at q signs.While ∷ (tail ++ w)) (behind (at q signs.While) (tail ++ w) refl (regrouped us (at r signs.Semicolon ∷ []) w (stopless us (at r signs.Semicolon ∷ w) c.free (behind (at r signs.Semicolon) w refl n))))))

-- ---- a whole file

same_behind : (after : List Item) → holds is_for after ≡ false → unfolded_from Elsewhere [] after ≡ after
unfolding unfolded_from
same_behind after h = ap (unfolded_from Elsewhere []) (sym (append-nil after)) ∙ becomes_same [] after [] h tt ∙ append-nil after

unfolded_whole : (before statements turned after : List Item) (p : Place) → holds is_for before ≡ false → Turns 64 Statements statements turned → holds is_for after ≡ false
    → unfolded (before ++ (statements ++ at p signs.RightBrace ∷ after)) ≡ before ++ (turned ++ at p signs.RightBrace ∷ after)
unfolding unfolded
unfolded_whole before statements turned after p h a i =
    let last : List Item = at p signs.RightBrace ∷ after in
    becomes_same [] before (statements ++ last) h tt
    ∙ ap (λ (y : List Item). before ++ y) (unfolds a (omega arith) last [] tt tt ∙ ap (λ (y : List Item). turned ++ y) (same_behind last i))

unfolded_file : {items : List Item} {f : File} (x : Parts items f) → unfolded items ≡ x.before ++ (x.turned ++ at x.end signs.RightBrace ∷ x.after)
unfolded_file x = ap unfolded x.is ∙ unfolded_whole x.before x.statements x.turned x.after x.end x.free_before x.turns x.free_after

pub blocks_form_the_file_law : BlocksFormTheFile
blocks_form_the_file_law items f s = let x = file_parts s in subst (λ (y : List Item). Forms y f) (sym (unfolded_file x)) x.spells

none_alone : (ts : List Item) → holds is_for ts ≡ false → NoneDeclares ts
none_alone ts h = subst NoneDeclares (append-nil ts) (none_before ts [] h tt)

pub blocks_declare_none_law : BlocksDeclareNone
blocks_declare_none_law items f s =
    let x = file_parts s in
    let last : List Item = at x.end signs.RightBrace ∷ x.after in
    subst NoneDeclares (sym (unfolded_file x)) (none_before x.before (x.turned ++ last) x.free_before (turned_none x.turns last (none_alone last x.free_after)))

-- ---- groups that are left out

left_free : (t : List Bool) (secs : List Section) (ts : List Item) → holds is_for ts ≡ false → holds is_for (kept_from t secs ts) ≡ false
left_free t secs [] h = refl
left_free t secs (x ∷ ts) h =
    let r = neither (is_for x.sign) (holds is_for ts) h in
    let rest : List Item = kept_from t (sections_after t secs (directive_of x.sign)) ts in
    let free : holds is_for rest ≡ false = left_free t (sections_after t secs (directive_of x.sign)) ts r.1 in
    elim (not (is_group x.sign) && all_kept secs) as (λ (b : Bool). holds is_for (if b then x ∷ rest else rest) ≡ false) [
      | true ↦ nor (is_for x.sign) (holds is_for rest) r.0 free
      | false ↦ free
    ]

left_is : (t : List Bool) (ts us : List Item) → Keeps t [] ts us → kept_from t [] ts ≡ us
left_is t ts us k = ap (kept_from t []) (sym (append-nil ts)) ∙ k [] ∙ append-nil us

kept_whole : (t : List Bool) (before statements after us vs : List Item) (p : Place) → Keeps t [] before us → Keeps t [] statements vs → Keeps t [] after []
    → kept t (before ++ (statements ++ at p signs.RightBrace ∷ after)) ≡ us ++ (vs ++ at p signs.RightBrace ∷ [])
kept_whole t before statements after us vs p a b c =
    a (statements ++ at p signs.RightBrace ∷ after)
    ∙ ap (λ (y : List Item). us ++ y) (b (at p signs.RightBrace ∷ after) ∙ ap (λ (y : List Item). vs ++ at p signs.RightBrace ∷ y) (left_is t after [] c))

pub blocks_are_kept_law : BlocksAreKept
blocks_are_kept_law items f t s =
    let x = file_parts s in
    let us = x.left t in
    let y = stays t x.turns [] refl in
    let free : holds is_for us.0 ≡ false = subst (λ (z : List Item). holds is_for z ≡ false) (left_is t x.before us.0 us.1) (left_free t [] x.before x.free_before) in
    let left : kept t (unfolded items) ≡ us.0 ++ (y.turned ++ at x.end signs.RightBrace ∷ []) =
    ap (kept t) (unfolded_file x) ∙ kept_whole t x.before x.turned x.after us.0 y.turned x.end us.1 y.leaves.turned (x.vanishes_after t) in
    let right : unfolded (kept t items) ≡ us.0 ++ (y.turned ++ at x.end signs.RightBrace ∷ []) =
    ap (λ (z : List Item). unfolded (kept t z)) x.is
    ∙ ap unfolded (kept_whole t x.before x.statements x.after us.0 y.text x.end us.1 y.leaves.text (x.vanishes_after t))
    ∙ unfolded_whole us.0 y.text y.turned [] x.end free y.turns refl in
    left ∙ sym right
