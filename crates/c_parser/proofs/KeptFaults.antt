-- The items that stay at a valid configuration have no fault of a name, where those of the family have none.
use Rattle.std.proofs.Common.{◌≡◌, true, false, List, [], ◌∷◌, ◌++◌, Option, None, refl, sym, ap, subst, ◌∙◌, append_assoc, append-nil, cond, not}
use Rattle.std.specs.Prelude.{ℤ, option_map}
use Rattle.fam_outer.specs.declared.faults.FileCode.{FileCode}
use Rattle.fam_outer.specs.declared.faults.Place.{Place}
use Rattle.cpp_conditions.specs.Validity.{plain, IsValid}
use Rattle.cpp_groups.specs.declared.section.Section.{Section}
use Rattle.cpp_groups.specs.Kept.{sections_after}
use Rattle.cpp_lines.specs.Faults.{or_later}
use Rattle.c_grammar.specs.declared.constants.NameKind.TheVariants as kinds
use Rattle.c_grammar.specs.declared.items.Item.{Item}
use Rattle.c_grammar.specs.Constants.{AreApart}
use Rattle.c_grammar.specs.Grammar.{is_group}
use Rattle.c_grammar.specs.Kept.{directive_of, kept_from, kept}
use Rattle.c_grammar.specs.Locals.{AreOutside as StandOutside}
use Rattle.c_grammar.specs.Scopes.{AreLevel, AreBeside}
use Rattle.family_names.specs.Names as family
use Rattle.family_names.specs.Names.{NameContext, truths_at, sections_behind, is_kept, IsNameFault, IsChangeFault, IsChangeOr, changed_place, IsFaultFrom}
use Rattle.c_parser.specs.Names as alone
use Rattle.c_parser.proofs.FewNames.{later_of}
use Rattle.c_parser.proofs.FineNames.{next}
use Rattle.c_parser.proofs.KeptNames.{AreOutside, MainStays, stays_next, kept_next, stays_before, stand_before, behind_more, and_right}
use Rattle.c_parser.proofs.KeptConstants.{apart_before, change_fine}
use Rattle.c_parser.proofs.KeptScopes.{level_before}
use Rattle.c_parser.proofs.KeptLocals.{beside_before}
use Rattle.c_parser.proofs.KeptFunctions.{function_fine}

no_fault_first : (o : Option FileCode) (place : Place) (later : Option (FileCode × Place)) → o ≡ None → later ≡ None → or_later (option_map (λ code. (code, place)) o) later ≡ None
no_fault_first o place later e h = ap (λ (c : Option FileCode). or_later (option_map (λ code. (code, place)) c) later) e ∙ h

walk : (context : NameContext) (o : alone.Outside) (values : List ℤ) (before xs : List Item) → AreOutside context o → AreApart kinds.Variable false (before ++ xs) → StandOutside false None (before ++ xs) → AreLevel [] 0 (before ++ xs) → AreBeside false (before ++ xs)
    → IsFaultFrom context before xs None → IsValid (plain context.model) values → MainStays (truths_at context values) [] (before ++ xs)
    → alone.name_fault_from o (kept (truths_at context values) before) (kept_from (truths_at context values) (sections_behind (truths_at context values) [] before) xs) ≡ None
walk context o values before [] out a s b w h v m = refl
walk context o values before (x ∷ xs) out a s b w h v m =
    let truths = truths_at context values in
    let more = kept_from truths (sections_after truths (sections_behind truths [] before) (directive_of x.sign)) xs in
    let l = later_of h.0 x.place (IsChangeOr context before x None (IsFaultFrom context (before ++ x ∷ []) xs None)) h.2 in
    let d = later_of l.1.0 (changed_place before x) (IsFaultFrom context (before ++ x ∷ []) xs None) l.1.2 in
    let unchanged = subst (λ (c : Option FileCode). IsChangeFault context before x c) d.0 l.1.1 in
    let fine = subst (λ (c : Option FileCode). IsNameFault context before x.sign c) l.0 h.1 in
    let apart = apart_before kinds.Variable false before (x ∷ xs) a in
    let stand = stand_before before (x ∷ xs) s in
    let level = level_before [] 0 before (x ∷ xs) b in
    let beside = beside_before before (x ∷ xs) w in
    let main = stays_before truths [] before (x ∷ xs) m in
    let same : before ++ x ∷ xs ≡ (before ++ x ∷ []) ++ xs = sym (append_assoc before (x ∷ []) xs) in
    let all = walk context o values (before ++ x ∷ []) xs out (subst (AreApart kinds.Variable false) same a) (subst (StandOutside false None) same s) (subst (AreLevel [] 0) same b) (subst (AreBeside false) same w) d.1 v (subst (MainStays truths []) same m) in
    let rest : alone.name_fault_from o (kept truths (before ++ x ∷ [])) more ≡ None =
    subst (λ (ss : List Section). alone.name_fault_from o (kept truths (before ++ x ∷ [])) (kept_from truths ss xs) ≡ None) (behind_more truths [] before (x ∷ [])) all in
    elim (stays_next truths before x) as (λ b. stays_next truths before x ≡ b → alone.name_fault_from o (kept truths before) (cond b (x ∷ more) more) ≡ None) [
      | true ↦ λ k. no_fault_first (alone.name_fault o (kept truths before) x.sign) x.place (or_later (alone.change_fault o (kept truths before) x) (alone.name_fault_from o (kept truths before ++ x ∷ []) more))
          (next context o values before x out stand level beside v main fine (function_fine context o values before x apart v main fine) k)
          (ap (λ (f : Option (FileCode × Place)). or_later f (alone.name_fault_from o (kept truths before ++ x ∷ []) more))
          (change_fine context o values before x out apart stand level v main unchanged (and_right (not (is_group x.sign)) (is_kept truths before) k))
          ∙ ap (λ (w : List Item). alone.name_fault_from o w more) (sym (kept_next truths before x true k)) ∙ rest)
      | false ↦ λ k. ap (λ (w : List Item). alone.name_fault_from o w more) (sym (kept_next truths before x false k ∙ append-nil (kept truths before))) ∙ rest
    ] refl

-- the items that stay at a valid configuration have no fault of a name, where the values from outside are those of the features
pub kept_fine : (context : NameContext) (o : alone.Outside) (items : List Item) (values : List ℤ) → AreOutside context o → AreApart kinds.Variable false items → StandOutside false None items → AreLevel [] 0 items → AreBeside false items → family.IsFirstNameFault context items None → IsValid (plain context.model) values → MainStays (truths_at context values) [] items
    → alone.first_name_fault o (kept (truths_at context values) items) ≡ None
unfolding alone.first_name_fault
kept_fine context o items values out a s b w h v m = walk context o values [] items out a s b w h v m
