-- What is left of a piece where groups are left out turns into what is left of what the piece turns into.
use Rattle.std.proofs.Common.{◌≡◌, ℕ, Bool, true, false, List, [], ◌∷◌, ◌++◌, refl, sym, ap, ◌∙◌, append_assoc}
use Rattle.c_grammar.specs.declared.items.Item.{Item}
use Rattle.c_grammar.specs.declared.items.Sign.TheVariants as signs
use Rattle.c_grammar.specs.Grammar.{at, has_groups}
use Rattle.c_grammar.specs.Kept.{kept_from}
use Rattle.cpp_groups.specs.declared.section.Section.{Section}
use Rattle.cpp_groups.specs.declared.section.Section.TheVariants.{Seeking, Keeping}
use Rattle.cpp_groups.specs.Kept.{next_group, all_kept, truth}
use Rattle.c_grammar.proofs.Keeping.{Keeps}
use Rattle.for_blocks.proofs.Texts.{ungrouped}
use Rattle.for_blocks.proofs.Pieces.{Piece, Statements, Statement, Later, Turns, none, more, choice, declaration, ends, otherwise, elif, simple, block, loop, declaring, if_then, if_else, do_while, wider, joined}
use Rattle.for_blocks.proofs.Preprocessing.{Leaves, leaves_both, nothing_left, all_left, behind_item, behind_text, loop_plain, less_plain, Goes, goes}

-- what is left of a piece, and what it turns into
pub record Left (k : ℕ) (t : List Bool) (secs : List Section) (piece : Piece) (ts ms : List Item) : Type 0 where
  pub text : List Item
  pub turned : List Item
  pub turns : Turns k piece text turned
  pub leaves : Leaves t secs ts text ms turned

-- what is left of the later groups of a section, where none before them is kept
pub record LeftOf (k : ℕ) (t : List Bool) (section : Section) (secs : List Section) (ts ms : List Item) : Type 0 where
  pub text : List Item
  pub turned : List Item
  pub turns : Turns k Statements text turned
  pub text_left : (w : List Item) → kept_from t (section ∷ secs) (ts ++ w) ≡ text ++ kept_from t secs w
  pub turned_left : (w : List Item) → kept_from t (section ∷ secs) (ms ++ w) ≡ turned ++ kept_from t secs w

abbrev pub Stays : ℕ → List Bool → Piece → List Item → List Item → Type 0
Stays k t Statements ts ms = (secs : List Section) → all_kept secs ≡ true → Left k t secs Statements ts ms
Stays k t (Statement b) ts ms = (secs : List Section) → all_kept secs ≡ true → Left k t secs (Statement b) ts ms
Stays k t Later ts ms = (secs : List Section) → all_kept secs ≡ true → LeftOf k t Seeking secs ts ms

-- the first group of what is left of a section, and the groups after it
two_ways : {k : ℕ} (t : List Bool) (b : Bool) (ts ms us ns : List Item) → Stays k t Statements ts ms → Goes t Statements ts ms → Stays k t Later us ns → Goes t Later us ns → (secs : List Section) → all_kept secs ≡ true
    → LeftOf k t (next_group Seeking b) secs (ts ++ us) (ms ++ ns)
two_ways t true ts ms us ns stay go stays gos secs kept =
    let x = stay (Keeping ∷ secs) kept in
    let y = gos Keeping secs (λ b. refl) in
    record {
      text = x.text;
      turned = x.turned;
      turns = x.turns;
      text_left = λ w. ap (kept_from t (Keeping ∷ secs)) (append_assoc ts us w) ∙ x.leaves.text (us ++ w) ∙ ap (λ (z : List Item). x.text ++ z) (y.text w);
      turned_left = λ w. ap (kept_from t (Keeping ∷ secs)) (append_assoc ms ns w) ∙ x.leaves.turned (ns ++ w) ∙ ap (λ (z : List Item). x.turned ++ z) (y.turned w);
    }
two_ways t false ts ms us ns stay go stays gos secs kept =
    let x = stays secs kept in
    let y = go (Seeking ∷ secs) refl in
    record {
      text = x.text;
      turned = x.turned;
      turns = x.turns;
      text_left = λ w. ap (kept_from t (Seeking ∷ secs)) (append_assoc ts us w) ∙ y.text (us ++ w) ∙ x.text_left w;
      turned_left = λ w. ap (kept_from t (Seeking ∷ secs)) (append_assoc ms ns w) ∙ y.turned (ns ++ w) ∙ x.turned_left w;
    }

-- a section, and a list behind it
section_left : (t : List Bool) (secs : List Section) (section : Section) (ts us vs xs ys : List Item) → ((w : List Item) → kept_from t (section ∷ secs) ((ts ++ us) ++ w) ≡ xs ++ kept_from t secs w) → Keeps t secs vs ys
    → (w : List Item) → kept_from t (section ∷ secs) ((ts ++ (us ++ vs)) ++ w) ≡ (xs ++ ys) ++ kept_from t secs w
section_left t secs section ts us vs xs ys x y w =
    let is : (ts ++ (us ++ vs)) ++ w ≡ (ts ++ us) ++ (vs ++ w) = simp append_assoc in
    ap (kept_from t (section ∷ secs)) is ∙ x (vs ++ w) ∙ ap (λ (z : List Item). xs ++ z) (y w) ∙ sym (append_assoc xs ys (kept_from t secs w))

pub stays : {k : ℕ} {piece : Piece} {ts ms : List Item} (t : List Bool) → Turns k piece ts ms → Stays k t piece ts ms
stays t none = λ secs kept. record { text = []; turned = []; turns = none; leaves = nothing_left t secs }
stays t (more a c) = λ secs kept.
    let x = stays t a secs kept in
    let y = stays t c secs kept in
    record { text = x.text ++ y.text; turned = x.turned ++ y.turned; turns = more x.turns y.turns; leaves = leaves_both x.leaves y.leaves }
stays t (choice p n {ts} {ms} {us} {ns} {vs} {os} a c d) = λ secs kept.
    let section : Section = next_group Seeking (truth t n) in
    let x = two_ways t (truth t n) ts ms us ns (stays t a) (goes t a) (stays t c) (goes t c) secs kept in
    let y = stays t d secs kept in
    record {
      text = x.text ++ y.text;
      turned = x.turned ++ y.turned;
      turns = joined (wider x.turns) y.turns;
      leaves = record {
        text = section_left t secs section ts us vs x.text y.text x.text_left y.leaves.text;
        turned = section_left t secs section ms ns os x.turned y.turned x.turned_left y.leaves.turned;
      };
    }
stays t (declaration {ts} h a) = λ secs kept.
    let x = stays t a secs kept in
    record { text = ts ++ x.text; turned = ts ++ x.turned; turns = declaration h x.turns; leaves = behind_text ts (ungrouped ts h.free) kept x.leaves }
stays t (ends p) = λ secs kept. record { text = []; turned = []; turns = none; text_left = λ w. refl; turned_left = λ w. refl }
stays t (otherwise p q {ts} {ms} a) = λ secs kept.
    let x = stays t a (Keeping ∷ secs) kept in
    record {
      text = x.text;
      turned = x.turned;
      turns = x.turns;
      text_left = λ w. ap (kept_from t (Keeping ∷ secs)) (append_assoc ts (at q signs.GroupEnd ∷ []) w) ∙ x.leaves.text (at q signs.GroupEnd ∷ w);
      turned_left = λ w. ap (kept_from t (Keeping ∷ secs)) (append_assoc ms (at q signs.GroupEnd ∷ []) w) ∙ x.leaves.turned (at q signs.GroupEnd ∷ w);
    }
stays t (elif p n {ts} {ms} {us} {ns} a c) = λ secs kept.
    let x = two_ways t (truth t n) ts ms us ns (stays t a) (goes t a) (stays t c) (goes t c) secs kept in
    record { text = x.text; turned = x.turned; turns = wider x.turns; text_left = x.text_left; turned_left = x.turned_left }
stays t (simple {ts} s) = λ secs kept. record { text = ts; turned = ts; turns = simple s; leaves = all_left t secs ts (ungrouped ts s.free) kept }
stays t (block p q a) = λ secs kept.
    let x = stays t a secs kept in
    let last : List Item = at q signs.RightBrace ∷ [] in
    record {
      text = at p signs.LeftBrace ∷ (x.text ++ last);
      turned = at p signs.LeftBrace ∷ (x.turned ++ last);
      turns = block p q x.turns;
      leaves = behind_item (at p signs.LeftBrace) refl kept (leaves_both x.leaves (all_left t secs last refl kept));
    }
stays t (loop p q r {s} {b} {ts} l c d a) = λ secs kept.
    let x = stays t a secs kept in
    record {
      text = at p s ∷ at q signs.Open ∷ (ts ++ at r signs.Close ∷ x.text);
      turned = at p s ∷ at q signs.Open ∷ (ts ++ at r signs.Close ∷ x.turned);
      turns = loop p q r l c d x.turns;
      leaves = behind_item (at p s) (loop_plain l) kept (behind_item (at q signs.Open) refl kept (behind_text ts (ungrouped ts c.free) kept (behind_item (at r signs.Close) refl kept x.leaves)));
    }
stays t (declaring p q r s x {b} {ts} {us} h c d a) = λ secs kept.
    let y = stays t a secs kept in
    let plain : has_groups (x ∷ ts) ≡ false = less_plain (x ∷ ts) c.free in
    let other : has_groups us ≡ false = ungrouped us d.free in
    let start : List Item = at r signs.Semicolon ∷ at p signs.For ∷ at p signs.Open ∷ at p signs.Semicolon ∷ [] in
    let last : List Item = at p signs.RightBrace ∷ [] in
    record {
      text = at p signs.For ∷ at q signs.Open ∷ x ∷ (ts ++ at r signs.Semicolon ∷ (us ++ at s signs.Close ∷ y.text));
      turned = at p signs.LeftBrace ∷ x ∷ (ts ++ at r signs.Semicolon ∷ at p signs.For ∷ at p signs.Open ∷ at p signs.Semicolon ∷ (us ++ at s signs.Close ∷ (y.turned ++ last)));
      turns = declaring p q r s x h c d y.turns;
      leaves = record {
        text = (behind_text (at p signs.For ∷ at q signs.Open ∷ []) refl kept (behind_text (x ∷ ts) plain kept (behind_item (at r signs.Semicolon) refl kept (behind_text us other kept (behind_item (at s signs.Close) refl kept y.leaves))))).text;
        turned = (behind_item (at p signs.LeftBrace) refl kept (behind_text (x ∷ ts) plain kept (behind_text start refl kept (behind_text us other kept (behind_item (at s signs.Close) refl kept (leaves_both y.leaves (all_left t secs last refl kept))))))).turned;
      };
    }
stays t (if_then p q r {b} {ts} c a) = λ secs kept.
    let x = stays t a secs kept in
    let first : List Item = at p signs.If ∷ at q signs.Open ∷ [] in
    record {
      text = first ++ (ts ++ at r signs.Close ∷ x.text);
      turned = first ++ (ts ++ at r signs.Close ∷ x.turned);
      turns = if_then p q r c x.turns;
      leaves = behind_text first refl kept (behind_text ts (ungrouped ts c.free) kept (behind_item (at r signs.Close) refl kept x.leaves));
    }
stays t (if_else p q r s {b} {ts} c a d) = λ secs kept.
    let x = stays t a secs kept in
    let y = stays t d secs kept in
    let first : List Item = at p signs.If ∷ at q signs.Open ∷ [] in
    record {
      text = first ++ (ts ++ at r signs.Close ∷ (x.text ++ at s signs.Else ∷ y.text));
      turned = first ++ (ts ++ at r signs.Close ∷ (x.turned ++ at s signs.Else ∷ y.turned));
      turns = if_else p q r s c x.turns y.turns;
      leaves = behind_text first refl kept (behind_text ts (ungrouped ts c.free) kept (behind_item (at r signs.Close) refl kept (leaves_both x.leaves (behind_item (at s signs.Else) refl kept y.leaves))));
    }
stays t (do_while p q r {b} {ts} {ms} {us} a c) = λ secs kept.
    let x = stays t a secs kept in
    let last : List Item = at r signs.Semicolon ∷ [] in
    record {
      text = at p signs.Do ∷ (x.text ++ at q signs.While ∷ (us ++ last));
      turned = at p signs.Do ∷ (x.turned ++ at q signs.While ∷ (us ++ last));
      turns = do_while p q r x.turns c;
      leaves = behind_item (at p signs.Do) refl kept (leaves_both x.leaves (behind_item (at q signs.While) refl kept (behind_text us (less_plain us c.free) kept (all_left t secs last refl kept))));
    }
