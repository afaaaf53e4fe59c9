-- Texts by the signs that stand in them, and texts in which what is opened is closed.
use Rattle.std.proofs.Common.{◌≡◌, ℕ, suc, Bool, true, false, ◌||◌, List, [], ◌∷◌, ◌++◌, Option, Some, refl, sym, ap, ◌∙◌, append_assoc}
use Rattle.fam_outer.specs.declared.faults.Place.{Place}
use Rattle.c_grammar.specs.declared.items.Item.{Item}
use Rattle.c_grammar.specs.declared.items.Sign.{Sign}
use Rattle.c_grammar.specs.declared.items.Sign.TheVariants as signs
use Rattle.c_grammar.specs.Grammar.{at, is_group, has_groups}
use Rattle.c_grammar.specs.Scopes.{inner_behind}
use Rattle.for_blocks.specs.Blocks.{parentheses_behind, behind_closing, is_semicolon, behind_semicolon, is_for}

-- ---- signs

-- a sign that shapes a list of statements: `for`, a brace, or a group directive
abbrev pub shapes : Sign → Bool
shapes signs.For = true
shapes signs.LeftBrace = true
shapes signs.RightBrace = true
shapes (signs.GroupIf n) = true
shapes (signs.GroupElif n) = true
shapes signs.GroupElse = true
shapes signs.GroupEnd = true
shapes _ = false

-- or that ends a statement
abbrev pub stops : Sign → Bool
stops s = shapes s || is_semicolon s

-- such a sign stands among the items
abbrev pub holds : (Sign → Bool) → List Item → Bool
holds p [] = false
holds p (x ∷ ts) = p x.sign || holds p ts

pub neither : (a b : Bool) → (a || b) ≡ false → (a ≡ false) × (b ≡ false)
neither true b h = absurd cc
neither false b h = (refl, h)

pub nor : (a b : Bool) → a ≡ false → b ≡ false → (a || b) ≡ false
nor a b h i = rw h i

pub none_in : (p : Sign → Bool) (ts us : List Item) → holds p ts ≡ false → holds p us ≡ false → holds p (ts ++ us) ≡ false
none_in p [] us h i = i
none_in p (x ∷ ts) us h i = let r = neither (p x.sign) (holds p ts) h in nor (p x.sign) (holds p (ts ++ us)) r.0 (none_in p ts us r.1 i)

-- a sign of the one kind is of the other
pub none_less : (p q : Sign → Bool) (ts : List Item) → ((s : Sign) → p s ≡ false → q s ≡ false) → holds p ts ≡ false → holds q ts ≡ false
none_less p q [] f h = refl
none_less p q (x ∷ ts) f h = let r = neither (p x.sign) (holds p ts) h in nor (q x.sign) (holds q ts) (f x.sign r.0) (none_less p q ts f r.1)

pub shapes_less : (s : Sign) → stops s ≡ false → shapes s ≡ false
shapes_less s h = (neither (shapes s) (is_semicolon s) h).0

pub semicolons_less : (s : Sign) → stops s ≡ false → is_semicolon s ≡ false
semicolons_less s h = (neither (shapes s) (is_semicolon s) h).1

pub fors_less : (s : Sign) → shapes s ≡ false → is_for s ≡ false
fors_less signs.For h = absurd cc
fors_less _ h = refl

pub groups_less : (s : Sign) → shapes s ≡ false → is_group s ≡ false
groups_less (signs.GroupIf n) h = absurd cc
groups_less (signs.GroupElif n) h = absurd cc
groups_less signs.GroupElse h = absurd cc
groups_less signs.GroupEnd h = absurd cc
groups_less _ h = refl

groups_of : (ts : List Item) → holds is_group ts ≡ has_groups ts
groups_of [] = refl
groups_of (x ∷ ts) = ap (λ (b : Bool). is_group x.sign || b) (groups_of ts)

pub ungrouped : (ts : List Item) → holds shapes ts ≡ false → has_groups ts ≡ false
ungrouped ts h = sym (groups_of ts) ∙ none_less shapes is_group ts groups_less h

-- ---- what stands behind a semicolon

pub semicolon_passed : (q : Place) (ts w : List Item) → holds is_semicolon ts ≡ false → behind_semicolon (ts ++ at q signs.Semicolon ∷ w) ≡ w
unfolding behind_semicolon
semicolon_passed q [] w h = refl
semicolon_passed q (x ∷ ts) w h = let r = neither (is_semicolon x.sign) (holds is_semicolon ts) h in rw r.0 (semicolon_passed q ts w r.1)

-- ---- balanced texts

-- what is opened in the text is closed in it, and nothing else is
abbrev pub IsBalanced : (ℕ → Sign → Option ℕ) → List Item → Type 0
IsBalanced after ts = (n : ℕ) (w : List Item) → behind_closing after n (ts ++ w) ≡ behind_closing after n w

pub balanced_both : (after : ℕ → Sign → Option ℕ) (ts us : List Item) → IsBalanced after ts → IsBalanced after us → IsBalanced after (ts ++ us)
balanced_both after ts us a b n w = ap (behind_closing after n) (append_assoc ts us w) ∙ a n (us ++ w) ∙ b n w

pub balanced_behind : (after : ℕ → Sign → Option ℕ) (x : Item) (ts : List Item) → ((n : ℕ) → after n x.sign ≡ Some n) → IsBalanced after ts → IsBalanced after (x ∷ ts)
unfolding behind_closing
balanced_behind after x ts a b n w = rw (a n) (b n w)

pub parentheses_balanced : (p q : Place) (ts : List Item) → IsBalanced parentheses_behind ts → IsBalanced parentheses_behind (at p signs.Open ∷ (ts ++ at q signs.Close ∷ []))
unfolding behind_closing
parentheses_balanced p q ts a n w = ap (behind_closing parentheses_behind (suc n)) (append_assoc ts (at q signs.Close ∷ []) w) ∙ a (suc n) (at q signs.Close ∷ w)

pub braces_balanced : (p q : Place) (ts : List Item) → IsBalanced inner_behind ts → IsBalanced inner_behind (at p signs.LeftBrace ∷ (ts ++ at q signs.RightBrace ∷ []))
unfolding behind_closing
braces_balanced p q ts a n w = ap (behind_closing inner_behind (suc n)) (append_assoc ts (at q signs.RightBrace ∷ []) w) ∙ a (suc n) (at q signs.RightBrace ∷ w)

braces_same : (n : ℕ) (s : Sign) → shapes s ≡ false → inner_behind n s ≡ Some n
braces_same n signs.LeftBrace h = absurd cc
braces_same n signs.RightBrace h = absurd cc
braces_same n _ h = refl

-- a text without braces
pub braceless : (ts : List Item) → holds shapes ts ≡ false → IsBalanced inner_behind ts
braceless [] h = λ n w. refl
braceless (x ∷ ts) h =
    let r = neither (shapes x.sign) (holds shapes ts) h in
    balanced_behind inner_behind x ts (λ n. braces_same n x.sign r.0) (braceless ts r.1)

-- behind the brace that closes it
pub brace_passed : (q : Place) (ts w : List Item) → IsBalanced inner_behind ts → behind_closing inner_behind 0 ((ts ++ at q signs.RightBrace ∷ []) ++ w) ≡ w
unfolding behind_closing
brace_passed q ts w a = ap (behind_closing inner_behind 0) (append_assoc ts (at q signs.RightBrace ∷ []) w) ∙ a 0 (at q signs.RightBrace ∷ w)

pub parenthesis_passed : (q : Place) (ts w : List Item) → IsBalanced parentheses_behind ts → behind_closing parentheses_behind 0 (ts ++ at q signs.Close ∷ w) ≡ w
unfolding behind_closing
parenthesis_passed q ts w a = a 0 (at q signs.Close ∷ w)

-- ---- texts within a statement

-- without such signs, and with its parentheses closed
pub record IsCalm (p : Sign → Bool) (ts : List Item) : Type 0 where
  pub free : holds p ts ≡ false
  pub balanced : IsBalanced parentheses_behind ts

pub calm_none : (p : Sign → Bool) → IsCalm p []
calm_none p = record { free = refl; balanced = λ n w. refl }

pub calm_both : {p : Sign → Bool} {ts us : List Item} → IsCalm p ts → IsCalm p us → IsCalm p (ts ++ us)
calm_both {p} {ts} {us} a b = record {
  free = none_in p ts us a.free b.free;
  balanced = balanced_both parentheses_behind ts us a.balanced b.balanced;
}

pub calm_behind : {p : Sign → Bool} {ts : List Item} (x : Item) → p x.sign ≡ false → ((n : ℕ) → parentheses_behind n x.sign ≡ Some n) → IsCalm p ts → IsCalm p (x ∷ ts)
calm_behind {p} {ts} x h a b = record {
  free = nor (p x.sign) (holds p ts) h b.free;
  balanced = balanced_behind parentheses_behind x ts a b.balanced;
}

pub calm_in_parentheses : {p : Sign → Bool} {ts : List Item} (q r : Place) → p signs.Open ≡ false → p signs.Close ≡ false → IsCalm p ts → IsCalm p (at q signs.Open ∷ (ts ++ at r signs.Close ∷ []))
calm_in_parentheses {p} {ts} q r h i a = record {
  free = nor (p signs.Open) (holds p (ts ++ at r signs.Close ∷ [])) h (none_in p ts (at r signs.Close ∷ []) a.free (nor (p signs.Close) false i refl));
  balanced = parentheses_balanced q r ts a.balanced;
}

-- a text without semicolons is one with them, too
pub calmer : {ts : List Item} → IsCalm stops ts → IsCalm shapes ts
calmer {ts} a = record { free = none_less stops shapes ts shapes_less a.free; balanced = a.balanced }
