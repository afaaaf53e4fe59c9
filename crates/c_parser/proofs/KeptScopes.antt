-- Which names are in scope behind the items that stay under the truths of conditions: those of the names in scope that stay.
use Rattle.std.proofs.Common.{◌≡◌, ℕ, Bool, true, false, not, ◌||◌, ◌&&◌, List, [], ◌∷◌, ◌++◌, None, refl, sym, ap, ◌∙◌}
use Rattle.std.specs.Prelude.{if◌then◌else◌}
use Rattle.cpp_groups.specs.declared.section.Section.{Section}
use Rattle.cpp_groups.specs.Kept.{all_kept, sections_after}
use Rattle.c_grammar.specs.declared.items.Item.{Item}
use Rattle.c_grammar.specs.declared.items.Sign.{Sign}
use Rattle.c_grammar.specs.declared.items.Sign.TheVariants as signs
use Rattle.c_grammar.specs.Constants.{is_name}
use Rattle.c_grammar.specs.Grammar.{is_group}
use Rattle.c_grammar.specs.Kept.{directive_of, kept_from, kept}
use Rattle.c_grammar.specs.Locals.{is_main, is_declaring, declarations_from, of_declarations, names_of, AreOutside as StandOutside}
use Rattle.c_grammar.specs.Scopes.{in_scope, names_in_scope, is_open_behind, scoped_from, depth_behind, begun_behind, AreLevel}
use Rattle.family_names.specs.Names.{in_scope_at, IsEither}
use Rattle.c_parser.proofs.KeptStates.{same_sections, KnowNothing, by_last, by_out, right, either}
use Rattle.c_parser.proofs.KeptNames.{MainStays, MainIs, main_next, main_gone, no_declarer, declarations_kept}
use Rattle.c_parser.proofs.KeptBlocks.{AreNested, nested_behind, stays_open}

-- ---- names whose block is left

scoped_plain : (main : Bool) (s : Sign) (stays : Bool) → (main && is_name s && not stays) ≡ true → is_group s ≡ false
scoped_plain false s stays e = absurd cc
scoped_plain true (signs.Name n) stays e = refl
scoped_plain true _ stays e = absurd cc

stays_kept : (truths : List Bool) (ss : List Section) (s : Sign) → (not (is_group s) && all_kept ss) ≡ true → all_kept (sections_after truths ss (directive_of s)) ≡ true
stays_kept truths ss s e = ap all_kept (same_sections truths ss s (left_plain (is_group s) (all_kept ss) e)) ∙ right (not (is_group s)) (all_kept ss) e
  where
    left_plain : (a b : Bool) → (not a && b) ≡ true → a ≡ false
    left_plain true b e = absurd cc
    left_plain false b e = refl

scope_here_or_gone : (truths : List Bool) (ss : List Section) (main : Bool) (x : Item) (xs : List Item) (keep : Bool) → (not (is_group x.sign) && all_kept ss) ≡ keep
    → (keep ≡ true → is_open_behind 0 (kept_from truths (sections_after truths ss (directive_of x.sign)) xs) ≡ is_open_behind 0 xs) → (keep ≡ false → (main || is_main x.sign) ≡ main)
    → scoped_from 0 (main || is_main x.sign) (kept_from truths (sections_after truths ss (directive_of x.sign)) xs)
    ≡ kept_from truths (sections_after truths ss (directive_of x.sign)) (scoped_from 0 (main || is_main x.sign) xs)
    → scoped_from 0 main (if keep then x ∷ kept_from truths (sections_after truths ss (directive_of x.sign)) xs else kept_from truths (sections_after truths ss (directive_of x.sign)) xs) ≡ kept_from truths ss (scoped_from 0 main (x ∷ xs))
scope_here_or_gone truths ss main x xs true k alike one rest =
    let more = scoped_from 0 (main || is_main x.sign) (kept_from truths (sections_after truths ss (directive_of x.sign)) xs) in
    ap (λ (b : Bool). if main && is_name x.sign && not b then more else x ∷ more) (alike refl)
    ∙ ap (λ (ys : List Item). if main && is_name x.sign && not (is_open_behind 0 xs) then ys else x ∷ ys) rest
    ∙ by_out truths ss x (scoped_from 0 (main || is_main x.sign) xs) (main && is_name x.sign && not (is_open_behind 0 xs)) true (scoped_plain main x.sign (is_open_behind 0 xs)) k
scope_here_or_gone truths ss main x xs false k alike one rest =
    let us = sections_after truths ss (directive_of x.sign) in
    let more = scoped_from 0 (main || is_main x.sign) xs in
    ap (λ (b : Bool). scoped_from 0 b (kept_from truths us xs)) (sym (one refl)) ∙ rest
    ∙ sym (either (main && is_name x.sign && not (is_open_behind 0 xs)) (kept_from truths us more))
    ∙ by_out truths ss x more (main && is_name x.sign && not (is_open_behind 0 xs)) false (scoped_plain main x.sign (is_open_behind 0 xs)) k

-- what is in scope of what stays is what stays of what is in scope
pub scoped_kept : (truths : List Bool) (ss : List Section) (begun : List ℕ) (depth : ℕ) (main : Bool) (items : List Item) → AreNested ss begun depth → AreLevel begun depth items → MainIs main truths ss items
    → scoped_from 0 main (kept_from truths ss items) ≡ kept_from truths ss (scoped_from 0 main items)
scoped_kept truths ss begun depth main [] h l m = refl
scoped_kept truths ss begun depth main (x ∷ xs) h l m =
    let us = sections_after truths ss (directive_of x.sign) in
    let bs = begun_behind begun depth x.sign in
    let d = depth_behind depth x.sign in
    let nested = nested_behind truths ss begun depth x.sign h l.0 in
    scope_here_or_gone truths ss main x xs (not (is_group x.sign) && all_kept ss) refl
    (λ k. stays_open truths us bs d xs (stays_kept truths ss x.sign k) nested l.1)
    (main_gone main truths ss x xs m)
    (scoped_kept truths us bs d (main || is_main x.sign) xs nested l.1 (main_next main truths ss x xs m))

-- ---- where no names stand

-- without some names the items are as level
pub name_gone : (begun : List ℕ) (depth : ℕ) (s : Sign) (ys : List Item) → is_name s ≡ true → AreLevel (begun_behind begun depth s) (depth_behind depth s) ys → AreLevel begun depth ys
name_gone begun depth (signs.Name n) ys e h = h
name_gone begun depth _ ys e h = absurd cc

level_declared : (begun : List ℕ) (depth : ℕ) (main declaring : Bool) (items : List Item) → AreLevel begun depth items → AreLevel begun depth (declarations_from main declaring items)
level_declared begun depth main declaring [] h = tt
level_declared begun depth main declaring (x ∷ xs) h =
    let rest = level_declared (begun_behind begun depth x.sign) (depth_behind depth x.sign) (main || is_main x.sign) (is_declaring x.sign) xs h.1 in
    let more = declarations_from (main || is_main x.sign) (is_declaring x.sign) xs in
    elim (main && not declaring && is_name x.sign) as (λ b. (main && not declaring && is_name x.sign) ≡ b → AreLevel begun depth (if b then declarations_from (main || is_main x.sign) (is_declaring x.sign) xs else x ∷ declarations_from (main || is_main x.sign) (is_declaring x.sign) xs)) [
      | true ↦ λ e. name_gone begun depth x.sign more (right (main && not declaring) (is_name x.sign) e) rest
      | false ↦ λ e. (h.0, rest)
    ] refl

-- and the first `main` stays
without_name : (truths : List Bool) (ss : List Section) (s : Sign) (xs : List Item) → is_name s ≡ true → IsEither (is_main s) (all_kept ss ≡ true) (MainStays truths (sections_after truths ss (directive_of s)) xs) → MainStays truths ss xs
without_name truths ss (signs.Name n) xs e h = h
without_name truths ss _ xs e h = absurd cc

pub main_of_declarations : (truths : List Bool) (ss : List Section) (main declaring : Bool) (items : List Item) → MainStays truths ss items → MainStays truths ss (declarations_from main declaring items)
main_of_declarations truths ss main declaring [] h = tt
main_of_declarations truths ss main declaring (x ∷ xs) h =
    let us = sections_after truths ss (directive_of x.sign) in
    let now = main || is_main x.sign in
    let next = is_declaring x.sign in
    elim (main && not declaring && is_name x.sign) as (λ b. (main && not declaring && is_name x.sign) ≡ b → MainStays truths ss (if b then declarations_from (main || is_main x.sign) (is_declaring x.sign) xs else x ∷ declarations_from (main || is_main x.sign) (is_declaring x.sign) xs)) [
      | true ↦ λ e. main_of_declarations truths ss now next xs (without_name truths ss x.sign xs (right (main && not declaring) (is_name x.sign) e) h)
      | false ↦ λ e. (elim (is_main x.sign) as (λ b. IsEither b (all_kept ss ≡ true) (MainStays truths (sections_after truths ss (directive_of x.sign)) xs)
          → IsEither b (all_kept ss ≡ true) (MainStays truths (sections_after truths ss (directive_of x.sign)) (declarations_from (main || is_main x.sign) (is_declaring x.sign) xs))) [
            | true ↦ λ k. k
            | false ↦ λ k. main_of_declarations truths us now next xs k
          ] h)
    ] refl

pub level_before : (begun : List ℕ) (depth : ℕ) (xs ys : List Item) → AreLevel begun depth (xs ++ ys) → AreLevel begun depth xs
level_before begun depth [] ys h = tt
level_before begun depth (x ∷ xs) ys h = (h.0, level_before (begun_behind begun depth x.sign) (depth_behind depth x.sign) xs ys h.1)

-- ---- the names in scope

-- where nothing is declared at a directive
pub scope_kept : (truths : List Bool) (items : List Item) → KnowNothing (by_last is_declaring) false false items → MainStays truths [] items → AreLevel [] 0 items → in_scope (kept truths items) ≡ kept truths (in_scope items)
scope_kept truths items d m l =
    ap (scoped_from 0 false) (declarations_kept truths items d m)
    ∙ scoped_kept truths [] [] 0 false (of_declarations items) tt (level_declared [] 0 false false items l) (main_of_declarations truths [] false false items m)

-- behind items whose braces are level the names in scope of what stays are those in scope that stay
pub names_in_scope_kept : (truths : List Bool) (before : List Item) → StandOutside false None before → MainStays truths [] before → AreLevel [] 0 before → names_in_scope (kept truths before) ≡ in_scope_at truths before
names_in_scope_kept truths before h m l = ap names_of (scope_kept truths before (no_declarer false None before h) m l)
