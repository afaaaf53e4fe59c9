-- What is left of two texts side by side where groups are left out, and what goes of a piece and of what it turns into.
use Rattle.std.proofs.Common.{◌≡◌, ℕ, Bool, true, false, List, [], ◌∷◌, ◌++◌, refl, ap, ◌∙◌, append_assoc}
use Rattle.c_grammar.specs.declared.items.Item.{Item}
use Rattle.c_grammar.specs.declared.items.Sign.{Sign}
use Rattle.c_grammar.specs.declared.items.Sign.TheVariants as signs
use Rattle.c_grammar.specs.Grammar.{at, is_group, has_groups}
use Rattle.c_grammar.specs.Kept.{kept_from}
use Rattle.cpp_groups.specs.declared.section.Section.{Section}
use Rattle.cpp_groups.specs.declared.section.Section.TheVariants.{Seeking, Keeping, Passed}
use Rattle.cpp_groups.specs.Kept.{next_group, all_kept, truth}
use Rattle.c_grammar.proofs.Keeping.{Keeps, both, one, all_stay, all_go, IsShut}
use Rattle.for_blocks.proofs.Texts.{shapes, stops, holds, none_less, shapes_less, ungrouped}
use Rattle.for_blocks.proofs.Pieces.{Piece, Statements, Statement, Later, IsLoop, of_while, of_for, Turns, none, more, choice, declaration, ends, otherwise, elif, simple, block, loop, declaring, if_then, if_else, do_while}

-- ---- two texts side by side

-- what stays of a text, and of what it turns into
pub record Leaves (t : List Bool) (secs : List Section) (ts us ms ns : List Item) : Type 0 where
  pub text : Keeps t secs ts us
  pub turned : Keeps t secs ms ns

pub leaves_both : {t : List Bool} {secs : List Section} {ts us ms ns xs ys zs ws : List Item} → Leaves t secs ts us ms ns → Leaves t secs xs ys zs ws → Leaves t secs (ts ++ xs) (us ++ ys) (ms ++ zs) (ns ++ ws)
leaves_both {t} {secs} {ts} {us} {ms} {ns} {xs} {ys} {zs} {ws} a b = record {
  text = both t secs ts us xs ys a.text b.text;
  turned = both t secs ms ns zs ws a.turned b.turned;
}

pub nothing_left : (t : List Bool) (secs : List Section) → Leaves t secs [] [] [] []
nothing_left t secs = record { text = λ w. refl; turned = λ w. refl }

-- a text without directives, where all is kept
pub all_left : (t : List Bool) (secs : List Section) (ts : List Item) → has_groups ts ≡ false → all_kept secs ≡ true → Leaves t secs ts ts ts ts
all_left t secs ts h k = record { text = all_stay t secs ts h k; turned = all_stay t secs ts h k }

pub behind_item : {t : List Bool} {secs : List Section} {ts us ms ns : List Item} (x : Item) → is_group x.sign ≡ false → all_kept secs ≡ true → Leaves t secs ts us ms ns → Leaves t secs (x ∷ ts) (x ∷ us) (x ∷ ms) (x ∷ ns)
behind_item {t} {secs} {ts} {us} {ms} {ns} x h k a = record {
  text = both t secs (x ∷ []) (x ∷ []) ts us (one t secs x h k) a.text;
  turned = both t secs (x ∷ []) (x ∷ []) ms ns (one t secs x h k) a.turned;
}

pub behind_text : {t : List Bool} {secs : List Section} {ts us ms ns : List Item} (hs : List Item) → has_groups hs ≡ false → all_kept secs ≡ true → Leaves t secs ts us ms ns → Leaves t secs (hs ++ ts) (hs ++ us) (hs ++ ms) (hs ++ ns)
behind_text {t} {secs} hs h k a = leaves_both (all_left t secs hs h k) a

-- and where some group is not
all_gone : (t : List Bool) (secs : List Section) (ts ms : List Item) → has_groups ts ≡ false → has_groups ms ≡ false → all_kept secs ≡ false → Leaves t secs ts [] ms []
all_gone t secs ts ms h i k = record { text = all_go t secs ts h k; turned = all_go t secs ms i k }

gone_behind : {t : List Bool} {secs : List Section} {ts ms : List Item} (xs zs : List Item) → has_groups xs ≡ false → has_groups zs ≡ false → all_kept secs ≡ false → Leaves t secs ts [] ms [] → Leaves t secs (xs ++ ts) [] (zs ++ ms) []
gone_behind {t} {secs} xs zs h i k a = leaves_both (all_gone t secs xs zs h i k) a

pub loop_plain : {s : Sign} → IsLoop s → is_group s ≡ false
loop_plain of_while = refl
loop_plain of_for = refl

pub less_plain : (ts : List Item) → holds stops ts ≡ false → has_groups ts ≡ false
less_plain ts h = ungrouped ts (none_less stops shapes ts shapes_less h)

-- ---- what goes

shut_next : (section : Section) (secs : List Section) (b : Bool) → IsShut section secs → IsShut (next_group section b) secs
shut_next Seeking secs true h c = refl
shut_next Seeking secs false h c = h c
shut_next Keeping secs b h c = refl
shut_next Passed secs b h c = refl

shut_in : (secs : List Section) (b : Bool) → all_kept secs ≡ false → all_kept (next_group Seeking b ∷ secs) ≡ false
shut_in secs true h = h
shut_in secs false h = refl

pub record Ends (t : List Bool) (section : Section) (secs : List Section) (ts ms : List Item) : Type 0 where
  pub text : (w : List Item) → kept_from t (section ∷ secs) (ts ++ w) ≡ kept_from t secs w
  pub turned : (w : List Item) → kept_from t (section ∷ secs) (ms ++ w) ≡ kept_from t secs w

abbrev pub Goes : List Bool → Piece → List Item → List Item → Type 0
Goes t Statements ts ms = (secs : List Section) → all_kept secs ≡ false → Leaves t secs ts [] ms []
Goes t (Statement b) ts ms = (secs : List Section) → all_kept secs ≡ false → Leaves t secs ts [] ms []
Goes t Later ts ms = (section : Section) (secs : List Section) → IsShut section secs → Ends t section secs ts ms

-- a section of which no group is kept, and a list behind it
section_gone : (t : List Bool) (secs : List Section) (b : Bool) (ts us vs : List Item) → Keeps t (next_group Seeking b ∷ secs) ts [] → ((w : List Item) → kept_from t (next_group Seeking b ∷ secs) (us ++ w) ≡ kept_from t secs w) → Keeps t secs vs []
    → (w : List Item) → kept_from t (next_group Seeking b ∷ secs) ((ts ++ (us ++ vs)) ++ w) ≡ kept_from t secs w
section_gone t secs b ts us vs x y z w =
    let is : (ts ++ (us ++ vs)) ++ w ≡ ts ++ (us ++ (vs ++ w)) = simp append_assoc in
    ap (kept_from t (next_group Seeking b ∷ secs)) is ∙ x (us ++ (vs ++ w)) ∙ y (vs ++ w) ∙ z w

pub goes : {k : ℕ} {piece : Piece} {ts ms : List Item} (t : List Bool) → Turns k piece ts ms → Goes t piece ts ms
goes t none = λ secs k. nothing_left t secs
goes t (more a c) = λ secs k. leaves_both (goes t a secs k) (goes t c secs k)
goes t (choice p n {ts} {ms} {us} {ns} {vs} {os} a c d) = λ secs k.
    let b : Bool = truth t n in
    let x = goes t a (next_group Seeking b ∷ secs) (shut_in secs b k) in
    let y = goes t c (next_group Seeking b) secs (shut_next Seeking secs b (λ e. shut_in secs e k)) in
    let z = goes t d secs k in
    record {
      text = section_gone t secs b ts us vs x.text y.text z.text;
      turned = section_gone t secs b ms ns os x.turned y.turned z.turned;
    }
goes t (declaration {ts} h a) = λ secs k. gone_behind ts ts (ungrouped ts h.free) (ungrouped ts h.free) k (goes t a secs k)
goes t (ends p) = λ section secs k. record { text = λ w. refl; turned = λ w. refl }
goes t (otherwise p q {ts} {ms} a) = λ section secs k.
    let x = goes t a (next_group section true ∷ secs) (k true) in
    record {
      text = λ w. ap (kept_from t (next_group section true ∷ secs)) (append_assoc ts (at q signs.GroupEnd ∷ []) w) ∙ x.text (at q signs.GroupEnd ∷ w);
      turned = λ w. ap (kept_from t (next_group section true ∷ secs)) (append_assoc ms (at q signs.GroupEnd ∷ []) w) ∙ x.turned (at q signs.GroupEnd ∷ w);
    }
goes t (elif p n {ts} {ms} {us} {ns} a c) = λ section secs k.
    let b : Bool = truth t n in
    let x = goes t a (next_group section b ∷ secs) (k b) in
    let y = goes t c (next_group section b) secs (shut_next section secs b k) in
    record {
      text = λ w. ap (kept_from t (next_group section b ∷ secs)) (append_assoc ts us w) ∙ x.text (us ++ w) ∙ y.text w;
      turned = λ w. ap (kept_from t (next_group section b ∷ secs)) (append_assoc ms ns w) ∙ x.turned (ns ++ w) ∙ y.turned w;
    }
goes t (simple {ts} s) = λ secs k. all_gone t secs ts ts (ungrouped ts s.free) (ungrouped ts s.free) k
goes t (block p q a) = λ secs k.
    gone_behind (at p signs.LeftBrace ∷ []) (at p signs.LeftBrace ∷ []) refl refl k
    (leaves_both (goes t a secs k) (all_gone t secs (at q signs.RightBrace ∷ []) (at q signs.RightBrace ∷ []) refl refl k))
goes t (loop p q r {s} {b} {ts} l c d a) = λ secs k.
    let plain : has_groups ts ≡ false = ungrouped ts c.free in
    let first : has_groups (at p s ∷ at q signs.Open ∷ []) ≡ false = rw (loop_plain l) refl in
    gone_behind (at p s ∷ at q signs.Open ∷ []) (at p s ∷ at q signs.Open ∷ []) first first k
    (gone_behind ts ts plain plain k (gone_behind (at r signs.Close ∷ []) (at r signs.Close ∷ []) refl refl k (goes t a secs k)))
goes t (declaring p q r s x {b} {ts} {us} h c d a) = λ secs k.
    let plain : has_groups (x ∷ ts) ≡ false = less_plain (x ∷ ts) c.free in
    let other : has_groups us ≡ false = ungrouped us d.free in
    let start : List Item = at r signs.Semicolon ∷ at p signs.For ∷ at p signs.Open ∷ at p signs.Semicolon ∷ [] in
    let last : List Item = at p signs.RightBrace ∷ [] in
    let body = goes t a secs k in
    let whole : Leaves t secs _ [] _ [] = leaves_both body (all_gone t secs [] last refl refl k) in
    record {
      text = (gone_behind (at p signs.For ∷ at q signs.Open ∷ []) [] refl refl k (gone_behind (x ∷ ts) [] plain refl k (gone_behind (at r signs.Semicolon ∷ []) [] refl refl k (gone_behind us [] other refl k (gone_behind (at s signs.Close ∷ []) [] refl refl k body))))).text;
      turned = (gone_behind [] (at p signs.LeftBrace ∷ []) refl refl k (gone_behind [] (x ∷ ts) refl plain k (gone_behind [] start refl refl k (gone_behind [] us refl other k (gone_behind [] (at s signs.Close ∷ []) refl refl k whole))))).turned;
    }
goes t (if_then p q r {b} {ts} c a) = λ secs k.
    let plain : has_groups ts ≡ false = ungrouped ts c.free in
    let first : List Item = at p signs.If ∷ at q signs.Open ∷ [] in
    gone_behind first first refl refl k (gone_behind ts ts plain plain k (gone_behind (at r signs.Close ∷ []) (at r signs.Close ∷ []) refl refl k (goes t a secs k)))
goes t (if_else p q r s {b} {ts} c a d) = λ secs k.
    let plain : has_groups ts ≡ false = ungrouped ts c.free in
    let first : List Item = at p signs.If ∷ at q signs.Open ∷ [] in
    gone_behind first first refl refl k (gone_behind ts ts plain plain k (gone_behind (at r signs.Close ∷ []) (at r signs.Close ∷ []) refl refl k
    (leaves_both (goes t a secs k) (gone_behind (at s signs.Else ∷ []) (at s signs.Else ∷ []) refl refl k (goes t d secs k)))))
goes t (do_while p q r {b} {ts} {ms} {us} a c) = λ secs k.
    let plain : has_groups us ≡ false = less_plain us c.free in
    let first : List Item = at p signs.Do ∷ [] in
    let second : List Item = at q signs.While ∷ [] in
    let last : List Item = at r signs.Semicolon ∷ [] in
    gone_behind first first refl refl k (leaves_both (goes t a secs k) (gone_behind second second refl refl k (gone_behind us us plain plain k (all_gone t secs last last refl refl k))))
