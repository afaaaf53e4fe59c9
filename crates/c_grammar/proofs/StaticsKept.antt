-- The static declarators that are found in what stays where each condition has a truth are those that stay.
use Rattle.std.proofs.Common.{◌≡◌, ℕ, Bool, true, false, cond, ◌||◌, List, [], ◌∷◌, ◌++◌, refl, sym, ap, ◌∙◌, append_assoc}
use Rattle.fam_outer.specs.declared.faults.Place.{Place}
use Rattle.c_tree.specs.declared.lists.Guard.{Guard}
use Rattle.c_tree.specs.declared.lists.Declared.{Declared}
use Rattle.c_tree.specs.Tree.{Code}
use Rattle.c_tree.specs.Project.{guards_hold}
use Rattle.c_grammar.specs.declared.items.Item.{Item}
use Rattle.c_grammar.specs.declared.items.Sign.{Sign}
use Rattle.c_grammar.specs.declared.items.Sign.TheVariants as signs
use Rattle.c_grammar.specs.Groups.{declared, guarded_by, Outermost}
use Rattle.c_grammar.specs.Statics.{statics_from}
use Rattle.c_grammar.specs.LocalsOf.{statics_in}
use Rattle.c_grammar.specs.Kept.{kept_from}
use Rattle.c_grammar.specs.Grammar.{at, Qualifier, Qualified, with_true, with_false, Vars, Declares, Shape, Listed, Stated, Chained, Locals, Writes, none, more, choice, local, static_local, last_local, next_local, ends, otherwise, elif, change, call, void_call, assert, skip, block, while, for, declaring_for, if_then, if_else, do_while, break, continue, return, has_groups, is_group}
use Rattle.cpp_groups.specs.declared.section.Section.{Section}
use Rattle.cpp_groups.specs.declared.section.Section.TheVariants.{Seeking}
use Rattle.cpp_groups.specs.Kept.{next_group, all_kept, truth}
use Rattle.c_grammar.proofs.Guards.{seeks, else_matches, in_true, in_false}
use Rattle.c_grammar.proofs.Keeping.{all_stay, all_go, no_group_in, qualified_plain, vars_plain}
use Rattle.c_grammar.proofs.KeptDeclarators.{kept_declared, kept_both}
use Rattle.c_grammar.proofs.Quiet.{is_quiet, AreQuiet, quiet_both, expr_quiet, function_quiet, change_quiet, clause_quiet, tests_quiet, qualified_quiet, locals_quiet, redo_quiet, return_quiet}
use Rattle.c_grammar.proofs.StaticsFound.{quiet_found, static_found}

-- what is found in what stays
abbrev pub kept_statics : List Bool → List Section → List Item → List Declared
kept_statics t secs w = statics_from false false Outermost (kept_from t secs w)

no_directive : (s : Sign) → is_quiet s ≡ true → is_group s ≡ false
no_directive (signs.GroupIf n) h = absurd cc
no_directive (signs.GroupElif n) h = absurd cc
no_directive signs.GroupElse h = absurd cc
no_directive signs.GroupEnd h = absurd cc
no_directive _ h = refl

quiet_plain : (ts : List Item) → AreQuiet ts → has_groups ts ≡ false
quiet_plain [] q = refl
quiet_plain (x ∷ xs) q = ap (λ (b : Bool). b || has_groups xs) (no_directive x.sign q.0) ∙ quiet_plain xs q.1

pub quiet_kept : (t : List Bool) (secs : List Section) (ts w : List Item) → AreQuiet ts → kept_statics t secs (ts ++ w) ≡ kept_statics t secs w
quiet_kept t secs ts w q = elim (all_kept secs) as (λ b. all_kept secs ≡ b → kept_statics t secs (ts ++ w) ≡ kept_statics t secs w) [
  | true ↦ λ e. ap (statics_from false false Outermost) (all_stay t secs ts (quiet_plain ts q) e w) ∙ quiet_found ts q Outermost false (kept_from t secs w)
  | false ↦ λ e. ap (statics_from false false Outermost) (all_go t secs ts (quiet_plain ts q) e w)
] refl

-- ---- a static declaration

all_hold : (t : List Bool) (gs : List Guard) (ds : List Declared) → guards_hold t gs ≡ true → kept_declared t (guarded_by gs ds) ≡ guarded_by [] ds
unfolding kept_declared
all_hold t gs [] h = refl
all_hold t gs (d ∷ ds) h = ap (λ (b : Bool). cond b (declared d.target d.value [] ∷ kept_declared t (guarded_by gs ds)) (kept_declared t (guarded_by gs ds))) h ∙ ap (λ (y : List Declared). declared d.target d.value [] ∷ y) (all_hold t gs ds h)

none_holds : (t : List Bool) (gs : List Guard) (ds : List Declared) → guards_hold t gs ≡ false → kept_declared t (guarded_by gs ds) ≡ []
unfolding kept_declared
none_holds t gs [] h = refl
none_holds t gs (d ∷ ds) h = ap (λ (b : Bool). cond b (declared d.target d.value [] ∷ kept_declared t (guarded_by gs ds)) (kept_declared t (guarded_by gs ds))) h ∙ none_holds t gs ds h

static_kept : {kind : Qualifier} {gs : List Guard} {ts us : List Item} {ds : List Declared} (t : List Bool) (p : Place) → Qualified kind ts → Declares (Vars kind gs) us ds → (hs : List Guard) (secs : List Section) → guards_hold t hs ≡ all_kept secs → (w : List Item)
    → kept_statics t secs (at p signs.Static ∷ (ts ++ (us ++ w))) ≡ kept_declared t (guarded_by hs ds) ++ kept_statics t secs w
static_kept {ts = ts} {us} {ds} t p q v hs secs h w =
    let text : List Item = at p signs.Static ∷ (ts ++ us) in
    let is : at p signs.Static ∷ (ts ++ (us ++ w)) ≡ text ++ w = ap (λ (y : List Item). at p signs.Static ∷ y) (sym (append_assoc ts us w)) in
    let plain : has_groups text ≡ false = no_group_in ts us (qualified_plain q) (vars_plain v) in
    let rest : List Item = kept_from t secs w in
    let found : statics_from false false Outermost (text ++ rest) ≡ guarded_by [] ds ++ statics_from false false Outermost rest =
    ap (λ (y : List Item). statics_from false false Outermost (at p signs.Static ∷ y)) (append_assoc ts us rest) ∙ static_found p q v Outermost false rest in
    elim (all_kept secs) as (λ b. all_kept secs ≡ b → kept_statics t secs (at p signs.Static ∷ (ts ++ (us ++ w))) ≡ kept_declared t (guarded_by hs ds) ++ kept_statics t secs w) [
      | true ↦ λ e. ap (kept_statics t secs) is ∙ ap (statics_from false false Outermost) (all_stay t secs text plain e w) ∙ found ∙ ap (λ (y : List Declared). y ++ kept_statics t secs w) (sym (all_hold t hs ds (h ∙ e)))
      | false ↦ λ e. ap (kept_statics t secs) is ∙ ap (statics_from false false Outermost) (all_go t secs text plain e w) ∙ ap (λ (y : List Declared). y ++ kept_statics t secs w) (sym (none_holds t hs ds (h ∙ e)))
    ] refl

-- ---- statements

-- what stays of text, before what stays of what is behind it; in what closes a group, whose part so far has the guards of a condition
abbrev pub KeepsStatics : List Bool → {s : Shape} {ts : List Item} {c : Code} → Writes s ts c → Type 0
KeepsStatics t {s = Listed i} {ts} d = (gs : List Guard) (secs : List Section) → guards_hold t gs ≡ all_kept secs → (w : List Item) → kept_statics t secs (ts ++ w) ≡ kept_declared t (statics_in gs d) ++ kept_statics t secs w
KeepsStatics t {s = Stated i b} {ts} d = (gs : List Guard) (secs : List Section) → guards_hold t gs ≡ all_kept secs → (w : List Item) → kept_statics t secs (ts ++ w) ≡ kept_declared t (statics_in gs d) ++ kept_statics t secs w
KeepsStatics t {s = Chained i} {ts} d = (gs : List Guard) (n : ℕ) (sec : Section) (secs : List Section) → guards_hold t gs ≡ seeks sec secs → (w : List Item) → kept_statics t (next_group sec (truth t n) ∷ secs) (ts ++ w) ≡ kept_declared t (statics_in (with_false gs n) d) ++ kept_statics t secs w
KeepsStatics t {s = Locals kind} d = Unit {0}

nothing_kept : (t : List Bool) (ds : List Declared) → ds ≡ kept_declared t [] ++ ds
unfolding kept_declared
nothing_kept t ds = refl

-- one text before another
both : (t : List Bool) (from secs : List Section) (ts us w : List Item) (ds es : List Declared) (rest : List Declared) → ((v : List Item) → kept_statics t from (ts ++ v) ≡ kept_declared t ds ++ kept_statics t secs v) → kept_statics t secs (us ++ w) ≡ kept_declared t es ++ rest → kept_statics t from ((ts ++ us) ++ w) ≡ kept_declared t (ds ++ es) ++ rest
both t from secs ts us w ds es rest h i =
    ap (kept_statics t from) (append_assoc ts us w)
    ∙ h (us ++ w)
    ∙ ap (λ (y : List Declared). kept_declared t ds ++ y) i
    ∙ sym (append_assoc (kept_declared t ds) (kept_declared t es) rest)
    ∙ ap (λ (y : List Declared). y ++ rest) (sym (kept_both t ds es))

-- quiet text alone, and before another
quiet_alone : (t : List Bool) (secs : List Section) (ts w : List Item) → AreQuiet ts → kept_statics t secs (ts ++ w) ≡ kept_declared t [] ++ kept_statics t secs w
quiet_alone t secs ts w q = quiet_kept t secs ts w q ∙ nothing_kept t (kept_statics t secs w)

behind_quiet : (t : List Bool) (secs : List Section) (ts us w : List Item) (rest : List Declared) → AreQuiet ts → kept_statics t secs (us ++ w) ≡ rest → kept_statics t secs ((ts ++ us) ++ w) ≡ rest
behind_quiet t secs ts us w rest q i = ap (kept_statics t secs) (append_assoc ts us w) ∙ quiet_kept t secs ts (us ++ w) q ∙ i

pub code_kept : {s : Shape} {ts : List Item} {c : Code} (t : List Bool) → (d : Writes s ts c) → KeepsStatics t d
code_kept t none = λ gs secs h w. nothing_kept t (kept_statics t secs w)
code_kept t (more {b} {ts} {us} s l) = λ gs secs h w. both t secs secs ts us w (statics_in gs s) (statics_in gs l) (kept_statics t secs w) (code_kept t s gs secs h) (code_kept t l gs secs h w)
code_kept t (choice p n {ts} {us} {vs} s r l) = λ gs secs h w.
    let inner : Section = next_group Seeking (truth t n) in
    both t (inner ∷ secs) (inner ∷ secs) ts (us ++ vs) w (statics_in (with_true gs n) s) (statics_in (with_false gs n) r ++ statics_in gs l) (kept_statics t secs w)
    (code_kept t s (with_true gs n) (inner ∷ secs) (in_true t gs n Seeking secs h))
    (both t (inner ∷ secs) secs us vs w (statics_in (with_false gs n) r) (statics_in gs l) (kept_statics t secs w) (code_kept t r gs n Seeking secs h) (code_kept t l gs secs h w))
code_kept t (local {ts} {us} {vs} q v l) = λ gs secs h w.
    let rest : List Declared = kept_declared t (statics_in gs l) ++ kept_statics t secs w in
    behind_quiet t secs ts (us ++ vs) w rest (qualified_quiet q) (behind_quiet t secs us vs w rest (locals_quiet v) (code_kept t l gs secs h w))
code_kept t (static_local p {ts} {us} {vs} {ds} q v l) = λ gs secs h w.
    let is : (ts ++ (us ++ vs)) ++ w ≡ ts ++ (us ++ (vs ++ w)) = simp append_assoc in
    ap (λ (y : List Item). kept_statics t secs (at p signs.Static ∷ y)) is
    ∙ static_kept t p q v gs secs h (vs ++ w)
    ∙ ap (λ (y : List Declared). kept_declared t (guarded_by gs ds) ++ y) (code_kept t l gs secs h w)
    ∙ sym (append_assoc (kept_declared t (guarded_by gs ds)) (kept_declared t (statics_in gs l)) (kept_statics t secs w))
    ∙ ap (λ (y : List Declared). y ++ kept_statics t secs w) (sym (kept_both t (guarded_by gs ds) (statics_in gs l)))
code_kept t (last_local p d) = tt
code_kept t (next_local p d v) = tt
code_kept t (ends p) = λ gs n sec secs h w. nothing_kept t (kept_statics t secs w)
code_kept t (otherwise p q {ts} s) = λ gs n sec secs h w.
    let last : Section = next_group (next_group sec (truth t n)) true in
    ap (kept_statics t (last ∷ secs)) (append_assoc ts (at q signs.GroupEnd ∷ []) w)
    ∙ code_kept t s (with_false gs n) (last ∷ secs) (in_false t gs n sec secs h ∙ else_matches (next_group sec (truth t n)) secs) (at q signs.GroupEnd ∷ w)
code_kept t (elif p m {ts} {us} s r) = λ gs n sec secs h w.
    let before : Section = next_group sec (truth t n) in
    let inner : Section = next_group before (truth t m) in
    let i = in_false t gs n sec secs h in
    both t (inner ∷ secs) (inner ∷ secs) ts us w (statics_in (with_true (with_false gs n) m) s) (statics_in (with_false (with_false gs n) m) r) (kept_statics t secs w)
    (code_kept t s (with_true (with_false gs n) m) (inner ∷ secs) (in_true t (with_false gs n) m before secs i))
    (code_kept t r (with_false gs n) m before secs i w)
code_kept t (change r {ts} s) = λ gs secs h w. quiet_alone t secs (ts ++ at r signs.Semicolon ∷ []) w (quiet_both ts (at r signs.Semicolon ∷ []) (change_quiet s) (refl, tt))
code_kept t (call p q r s {f} g) = λ gs secs h w. quiet_alone t secs (at p f ∷ at q signs.Open ∷ at r signs.Close ∷ at s signs.Semicolon ∷ []) w (function_quiet g, (refl, (refl, (refl, tt))))
code_kept t (void_call p q r s z u v {f} g) = λ gs secs h w.
    quiet_alone t secs (at p signs.Open ∷ at q signs.Void ∷ at r signs.Close ∷ at s f ∷ at z signs.Open ∷ at u signs.Close ∷ at v signs.Semicolon ∷ []) w (refl, (refl, (refl, (function_quiet g, (refl, (refl, (refl, tt)))))))
code_kept t (assert p q r s {ts} e) = λ gs secs h w.
    quiet_alone t secs (at p signs.Assert ∷ at q signs.Open ∷ (ts ++ at r signs.Close ∷ at s signs.Semicolon ∷ [])) w (refl, (refl, quiet_both ts (at r signs.Close ∷ at s signs.Semicolon ∷ []) (expr_quiet e) (refl, (refl, tt))))
code_kept t (skip p) = λ gs secs h w. quiet_alone t secs (at p signs.Semicolon ∷ []) w (refl, tt)
code_kept t (block p q {ts} s) = λ gs secs h w.
    behind_quiet t secs (at p signs.LeftBrace ∷ []) (ts ++ at q signs.RightBrace ∷ []) w (kept_declared t (statics_in gs s) ++ kept_statics t secs w) (refl, tt)
    (ap (kept_statics t secs) (append_assoc ts (at q signs.RightBrace ∷ []) w)
    ∙ code_kept t s gs secs h (at q signs.RightBrace ∷ w)
    ∙ ap (λ (y : List Declared). kept_declared t (statics_in gs s) ++ y) (quiet_kept t secs (at q signs.RightBrace ∷ []) w (refl, tt)))
code_kept t (while p q r {b} {ts} {us} e s) = λ gs secs h w.
    let rest : List Declared = kept_declared t (statics_in gs s) ++ kept_statics t secs w in
    behind_quiet t secs (at p signs.While ∷ at q signs.Open ∷ []) (ts ++ at r signs.Close ∷ us) w rest (refl, (refl, tt))
    (behind_quiet t secs ts (at r signs.Close ∷ us) w rest (expr_quiet e) (behind_quiet t secs (at r signs.Close ∷ []) us w rest (refl, tt) (code_kept t s gs secs h w)))
code_kept t (for p q r z {b} {ts} {us} {vs} {ws} a m d s) = λ gs secs h w.
    let rest : List Declared = kept_declared t (statics_in gs s) ++ kept_statics t secs w in
    behind_quiet t secs (at p signs.For ∷ at q signs.Open ∷ []) (ts ++ at r signs.Semicolon ∷ (us ++ (vs ++ at z signs.Close ∷ ws))) w rest (refl, (refl, tt))
    (behind_quiet t secs ts (at r signs.Semicolon ∷ (us ++ (vs ++ at z signs.Close ∷ ws))) w rest (clause_quiet a)
    (behind_quiet t secs (at r signs.Semicolon ∷ []) (us ++ (vs ++ at z signs.Close ∷ ws)) w rest (refl, tt)
    (behind_quiet t secs us (vs ++ at z signs.Close ∷ ws) w rest (tests_quiet m)
    (behind_quiet t secs vs (at z signs.Close ∷ ws) w rest (clause_quiet d) (behind_quiet t secs (at z signs.Close ∷ []) ws w rest (refl, tt) (code_kept t s gs secs h w))))))
code_kept t (declaring_for p q z {b} {ts} {ds} {us} {vs} {ws} g l m d s) = λ gs secs h w.
    let rest : List Declared = kept_declared t (statics_in gs s) ++ kept_statics t secs w in
    behind_quiet t secs (at p signs.For ∷ at q signs.Open ∷ []) (ts ++ (ds ++ (us ++ (vs ++ at z signs.Close ∷ ws)))) w rest (refl, (refl, tt))
    (behind_quiet t secs ts (ds ++ (us ++ (vs ++ at z signs.Close ∷ ws))) w rest (qualified_quiet g)
    (behind_quiet t secs ds (us ++ (vs ++ at z signs.Close ∷ ws)) w rest (locals_quiet l)
    (behind_quiet t secs us (vs ++ at z signs.Close ∷ ws) w rest (tests_quiet m)
    (behind_quiet t secs vs (at z signs.Close ∷ ws) w rest (clause_quiet d) (behind_quiet t secs (at z signs.Close ∷ []) ws w rest (refl, tt) (code_kept t s gs secs h w))))))
code_kept t (if_then p q r {b} {ts} {us} e s) = λ gs secs h w.
    let rest : List Declared = kept_declared t (statics_in gs s) ++ kept_statics t secs w in
    behind_quiet t secs (at p signs.If ∷ at q signs.Open ∷ []) (ts ++ at r signs.Close ∷ us) w rest (refl, (refl, tt))
    (behind_quiet t secs ts (at r signs.Close ∷ us) w rest (expr_quiet e) (behind_quiet t secs (at r signs.Close ∷ []) us w rest (refl, tt) (code_kept t s gs secs h w)))
code_kept t (if_else p q r z {b} {ts} {us} {vs} e s l) = λ gs secs h w.
    let rest : List Declared = kept_declared t (statics_in gs s ++ statics_in gs l) ++ kept_statics t secs w in
    let second : kept_statics t secs ((at z signs.Else ∷ vs) ++ w) ≡ kept_declared t (statics_in gs l) ++ kept_statics t secs w =
    behind_quiet t secs (at z signs.Else ∷ []) vs w (kept_declared t (statics_in gs l) ++ kept_statics t secs w) (refl, tt) (code_kept t l gs secs h w) in
    behind_quiet t secs (at p signs.If ∷ at q signs.Open ∷ []) (ts ++ at r signs.Close ∷ (us ++ at z signs.Else ∷ vs)) w rest (refl, (refl, tt))
    (behind_quiet t secs ts (at r signs.Close ∷ (us ++ at z signs.Else ∷ vs)) w rest (expr_quiet e)
    (behind_quiet t secs (at r signs.Close ∷ []) (us ++ at z signs.Else ∷ vs) w rest (refl, tt) (both t secs secs us (at z signs.Else ∷ vs) w (statics_in gs s) (statics_in gs l) (kept_statics t secs w) (code_kept t s gs secs h) second)))
code_kept t (do_while p q r s z {b} {ts} {us} {x} l e) = λ gs secs h w.
    let tail : List Item = at q signs.While ∷ at r signs.Open ∷ x ∷ (us ++ at s signs.Close ∷ at z signs.Semicolon ∷ []) in
    behind_quiet t secs (at p signs.Do ∷ []) (ts ++ tail) w (kept_declared t (statics_in gs l) ++ kept_statics t secs w) (refl, tt)
    (ap (kept_statics t secs) (append_assoc ts tail w)
    ∙ code_kept t l gs secs h (tail ++ w)
    ∙ ap (λ (y : List Declared). kept_declared t (statics_in gs l) ++ y) (quiet_kept t secs tail w (redo_quiet q r s z e)))
code_kept t (break p q) = λ gs secs h w. quiet_alone t secs (at p signs.Break ∷ at q signs.Semicolon ∷ []) w (refl, (refl, tt))
code_kept t (continue p q) = λ gs secs h w. quiet_alone t secs (at p signs.Continue ∷ at q signs.Semicolon ∷ []) w (refl, (refl, tt))
code_kept t (return p q {ts} e) = λ gs secs h w. quiet_alone t secs (at p signs.Return ∷ (ts ++ at q signs.Semicolon ∷ [])) w (return_quiet p q e)
