-- The names that the next declarator may not declare, among the items that stay under the truths of conditions: those of the names that may
-- not be declared that stay, since no directive stands in a static declaration.
use Rattle.std.proofs.Common.{◌≡◌, ℕ, Bool, true, false, not, ◌||◌, ◌&&◌, List, [], ◌∷◌, ◌++◌, None, refl, sym, ap, subst, ◌∙◌}
use Rattle.std.specs.Prelude.{if◌then◌else◌}
use Rattle.cpp_groups.specs.declared.section.Section.{Section}
use Rattle.cpp_groups.specs.Kept.{all_kept, sections_after}
use Rattle.c_grammar.specs.declared.items.Item.{Item}
use Rattle.c_grammar.specs.declared.items.Sign.{Sign}
use Rattle.c_grammar.specs.declared.items.Sign.TheVariants as signs
use Rattle.c_grammar.specs.Constants.{is_name}
use Rattle.c_grammar.specs.Grammar.{is_group}
use Rattle.c_grammar.specs.Kept.{directive_of, kept_from, kept}
use Rattle.c_grammar.specs.Locals.{is_main, is_declaring, declarations_from, of_declarations, names_of, AreOutside as StandOutside}
use Rattle.c_grammar.specs.Scopes.{AreLevel, IsBeside, AreBeside, static_after, is_static_behind, is_local, locals_from, of_locals, barred, names_taken}
use Rattle.c_grammar.specs.Statics.{static_behind}
use Rattle.family_names.specs.Names.{is_kept, in_scope_at, taken_at}
use Rattle.c_parser.proofs.KeptStates.{AreLike, like_next, KnowNothing, known_behind, known_same, by_last, by_out, right, either}
use Rattle.c_parser.proofs.KeptNames.{MainStays, MainIs, main_next, main_gone, no_declarer, declarations_kept}
use Rattle.c_parser.proofs.KeptScopes.{main_of_declarations, names_in_scope_kept}

-- ---- static declarations

abbrev static_next : Bool → Item → Bool
static_next static x = static_behind static x.sign

no_static : (s : Sign) → is_group s ≡ true → static_behind false s ≡ false
no_static (signs.GroupIf n) e = refl
no_static (signs.GroupElif n) e = refl
no_static signs.GroupElse e = refl
no_static signs.GroupEnd e = refl
no_static _ e = absurd cc

-- at a directive none goes on
none_goes_on : (static : Bool) (items : List Item) → AreBeside static items → KnowNothing static_next false static items
none_goes_on static [] h = tt
none_goes_on static (x ∷ xs) h = (λ g. subst (λ (t : Bool). IsBeside t static) g h.0, none_goes_on (static_behind static x.sign) xs h.1)

static_known : (static : Bool) (items : List Item) → static_after static items ≡ known_behind static_next static items
static_known static [] = refl
static_known static (x ∷ xs) = static_known (static_behind static x.sign) xs

-- before an item that stays one goes on where it does among all items
pub static_kept : (truths : List Bool) (before : List Item) → AreBeside false before → is_kept truths before ≡ true → is_static_behind (kept truths before) ≡ is_static_behind before
static_kept truths before h k =
    static_known false (kept truths before)
    ∙ known_same static_next false (λ x g. no_static x.sign g) truths before (none_goes_on false before h) k
    ∙ sym (static_known false before)

beside_before_from : (static : Bool) (xs ys : List Item) → AreBeside static (xs ++ ys) → AreBeside static xs
beside_before_from static [] ys h = tt
beside_before_from static (x ∷ xs) ys h = (h.0, beside_before_from (static_behind static x.sign) xs ys h.1)

pub beside_before : (xs ys : List Item) → AreBeside false (xs ++ ys) → AreBeside false xs
beside_before xs ys h = beside_before_from false xs ys h

-- ---- the names that `main` declares

-- what is left out is a name
local_plain : (local : Bool) (s : Sign) → (is_name s && not local) ≡ true → is_group s ≡ false
local_plain local (signs.Name n) e = refl
local_plain local _ e = absurd cc

here_or_gone : (only : Bool) (truths : List Bool) (ss : List Section) (main here all : Bool) (x : Item) (xs : List Item) (keep : Bool) → (not (is_group x.sign) && all_kept ss) ≡ keep → (keep ≡ true → here ≡ all) → (keep ≡ false → (main || is_main x.sign) ≡ main)
    → locals_from only (main || is_main x.sign) (if keep then static_behind here x.sign else here) (kept_from truths (sections_after truths ss (directive_of x.sign)) xs)
    ≡ kept_from truths (sections_after truths ss (directive_of x.sign)) (locals_from only (main || is_main x.sign) (static_behind all x.sign) xs)
    → locals_from only main here (if keep then x ∷ kept_from truths (sections_after truths ss (directive_of x.sign)) xs else kept_from truths (sections_after truths ss (directive_of x.sign)) xs) ≡ kept_from truths ss (locals_from only main all (x ∷ xs))
here_or_gone only truths ss main here all x xs true k same one rest =
    let us : List Section = sections_after truths ss (directive_of x.sign) in
    let now : Bool = main || is_main x.sign in
    ap (λ (b : Bool). if is_name x.sign && not (is_local only main b) then locals_from only now (static_behind here x.sign) (kept_from truths us xs) else x ∷ locals_from only now (static_behind here x.sign) (kept_from truths us xs)) (same refl)
    ∙ ap (λ (ys : List Item). if is_name x.sign && not (is_local only main all) then ys else x ∷ ys) rest
    ∙ by_out truths ss x (locals_from only now (static_behind all x.sign) xs) (is_name x.sign && not (is_local only main all)) true (local_plain (is_local only main all) x.sign) k
here_or_gone only truths ss main here all x xs false k same one rest =
    let us : List Section = sections_after truths ss (directive_of x.sign) in
    let more : List Item = locals_from only (main || is_main x.sign) (static_behind all x.sign) xs in
    let out : Bool = is_name x.sign && not (is_local only main all) in
    ap (λ (b : Bool). locals_from only b here (kept_from truths us xs)) (sym (one refl)) ∙ rest
    ∙ sym (either out (kept_from truths us more))
    ∙ by_out truths ss x more out false (local_plain (is_local only main all) x.sign) k

locals_kept : (only : Bool) (truths : List Bool) (ss : List Section) (main here all : Bool) (items : List Item) → MainIs main truths ss items → KnowNothing static_next false all items → AreLike false ss here all
    → locals_from only main here (kept_from truths ss items) ≡ kept_from truths ss (locals_from only main all items)
locals_kept only truths ss main here all [] m h l = refl
locals_kept only truths ss main here all (x ∷ xs) m h l =
    here_or_gone only truths ss main here all x xs (not (is_group x.sign) && all_kept ss) refl (λ k. l.kept (right (not (is_group x.sign)) (all_kept ss) k)) (main_gone main truths ss x xs m)
    (locals_kept only truths (sections_after truths ss (directive_of x.sign)) (main || is_main x.sign) (if (not (is_group x.sign) && all_kept ss) then static_behind here x.sign else here) (static_behind all x.sign) xs (main_next main truths ss x xs m) h.1
    (like_next static_next false (λ y g. no_static y.sign g) truths ss x here all l h.0))

-- without the names that are used, directives stand as before
name_left : (static : Bool) (s : Sign) (ys : List Item) → is_name s ≡ true → AreBeside (static_behind static s) ys → AreBeside static ys
name_left static (signs.Name n) ys e h = h
name_left static _ ys e h = absurd cc

beside_declared : (static main declaring : Bool) (items : List Item) → AreBeside static items → AreBeside static (declarations_from main declaring items)
beside_declared static main declaring [] h = tt
beside_declared static main declaring (x ∷ xs) h =
    let more : List Item = declarations_from (main || is_main x.sign) (is_declaring x.sign) xs in
    let rest : AreBeside (static_behind static x.sign) more = beside_declared (static_behind static x.sign) (main || is_main x.sign) (is_declaring x.sign) xs h.1 in
    elim (main && not declaring && is_name x.sign) as (λ b. (main && not declaring && is_name x.sign) ≡ b
    → AreBeside static (if b then declarations_from (main || is_main x.sign) (is_declaring x.sign) xs else x ∷ declarations_from (main || is_main x.sign) (is_declaring x.sign) xs)) [
      | true ↦ λ e. name_left static x.sign more (right (main && not declaring) (is_name x.sign) e) rest
      | false ↦ λ e. (h.0, rest)
    ] refl

-- those of what stays are what stays of them
of_locals_kept : (only : Bool) (truths : List Bool) (items : List Item) → KnowNothing (by_last is_declaring) false false items → MainStays truths [] items → AreBeside false items → of_locals only (kept truths items) ≡ kept truths (of_locals only items)
of_locals_kept only truths items d m b =
    ap (locals_from only false false) (declarations_kept truths items d m)
    ∙ locals_kept only truths [] false false false (of_declarations items) (main_of_declarations truths [] false false items m) (none_goes_on false (of_declarations items) (beside_declared false false false items b))
    (record { kept = λ _. refl; gone = λ _. refl })

-- ---- the names that may not be declared

-- before an item that stays the names that may not be declared among what stays are those that stay
pub names_taken_kept : (truths : List Bool) (before : List Item) → StandOutside false None before → MainStays truths [] before → AreLevel [] 0 before → AreBeside false before → is_kept truths before ≡ true → names_taken (kept truths before) ≡ taken_at truths before
names_taken_kept truths before h m l b k =
    ap (λ (ns : List ℕ). ns ++ names_of (barred (kept truths before))) (names_in_scope_kept truths before h m l)
    ∙ ap (λ (static : Bool). in_scope_at truths before ++ names_of (of_locals (not static) (kept truths before))) (static_kept truths before b k)
    ∙ ap (λ (ys : List Item). in_scope_at truths before ++ names_of ys) (of_locals_kept (not (is_static_behind before)) truths before (no_declarer false None before h) m b)
