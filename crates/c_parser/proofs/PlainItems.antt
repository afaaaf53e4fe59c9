-- The items of a file without groups, and the codes of their wrong items.
use Rattle.std.proofs.Common.{◌≡◌, ℕ, zero, suc, Bool, true, false, List, [], ◌∷◌, Ok, refl, sym, ap, subst, ◌∙◌}
use Rattle.std.specs.Prelude.{◌||◌, ◌&&◌, if◌then◌else◌, slice_get}
use Rattle.fam_outer.specs.declared.dialect.Includes.{Includes}
use Rattle.fam_outer.specs.declared.faults.FileCode.{FileCode}
use Rattle.fam_outer.specs.declared.faults.FileCode.TheVariants.{Syntax, GroupInsideStatement}
use Rattle.c_tokens.specs.declared.token.Token.{Token}
use Rattle.c_grammar.specs.declared.items.Item.{Item}
use Rattle.c_grammar.specs.Grammar.{is_group, has_groups}
use Rattle.c_parser.specs.Items.{Listed, items_over, lexeme_in}
use Rattle.c_parser.specs.Phases.{is_else_item, is_group_item, item_before, wrong_code}
use Rattle.c_parser.specs.Reading.{items_of}
use Rattle.c_parser.proofs.KeptItems.{sign_plain}
use Rattle.c_parser.proofs.Overs.{stands_for}

over_plain : (functions names : List (List ℕ)) (text : List ℕ) (ts : List Token) → has_groups (items_over functions names text ts) ≡ false
over_plain functions names text [] = refl
over_plain functions names text (t ∷ ts) = ap (λ (b : Bool). b || has_groups (items_over functions names text ts)) (sign_plain functions names t.kind (lexeme_in text t)) ∙ over_plain functions names text ts

-- none of them is a group directive
pub plain_items : (includes : Includes) (functions given : List (List ℕ)) (bytes : List ℕ) (l : Listed) → items_of includes functions given bytes ≡ Ok l → has_groups l.items ≡ false
plain_items includes functions given bytes l is =
    let s = stands_for functions includes given bytes l is in
    subst (λ (m : Listed). has_groups m.items ≡ false) (sym s.is) (over_plain functions _ s.code s.tokens)

both_false : (b c : Bool) → (b || c) ≡ false → (b ≡ false) × (c ≡ false)
both_false true c e = absurd cc
both_false false c e = (refl, e)

no_item : (items : List Item) (n : ℕ) → has_groups items ≡ false → is_group_item (slice_get items n) ≡ false
no_item [] n e = refl
no_item (x ∷ items) zero e = (both_false (is_group x.sign) (has_groups items) e).0
no_item (x ∷ items) (suc n) e = no_item items n (both_false (is_group x.sign) (has_groups items) e).1

none_before : (items : List Item) (n : ℕ) → has_groups items ≡ false → is_group_item (item_before items n) ≡ false
none_before items zero e = refl
none_before items (suc n) e = no_item items n e

abbrev code_by : Bool → Bool → Bool → FileCode
code_by here is_else before = if here || (is_else && before) then GroupInsideStatement else Syntax

no_group_near : (here is_else before : Bool) → here ≡ false → before ≡ false → code_by here is_else before ≡ Syntax
no_group_near here true before e f = rw (e, f) refl
no_group_near here false before e f = rw e refl

-- so the wrong one is a fault of syntax
pub plain_code : (items : List Item) (n : ℕ) → has_groups items ≡ false → wrong_code items n ≡ Syntax
plain_code items n e = no_group_near (is_group_item (slice_get items n)) (is_else_item (slice_get items n)) (is_group_item (item_before items n)) (no_item items n e) (none_before items n e)
