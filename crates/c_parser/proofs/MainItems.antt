-- `main` stands in no group.
use Rattle.std.proofs.Common.{◌≡◌, ℕ, Bool, true, false, ◌||◌, cond, List, [], ◌∷◌, ◌++◌, length, refl, sym, ap, subst, ◌∙◌, append-nil, arith}
use Rattle.std.specs.Prelude.{ℤ}
use Rattle.std.proofs.lemmas.List.{length-append}
use Rattle.std.proofs.lemmas.List.Folds.{list_any-append}
use Rattle.fam_outer.specs.declared.faults.Place.{Place}
use Rattle.cpp_groups.specs.declared.section.Section.{Section}
use Rattle.cpp_groups.specs.Kept.{all_kept, sections_after}
use Rattle.c_tree.specs.declared.lists.Declared.{Declared}
use Rattle.c_tree.specs.Tree.{Code}
use Rattle.c_grammar.specs.declared.items.Item.{Item}
use Rattle.c_grammar.specs.declared.items.Sign.{Sign}
use Rattle.c_grammar.specs.declared.items.Sign.TheVariants as signs
use Rattle.c_grammar.specs.Grammar.{at, Callable, of_input, of_function, Optional, absent, present, Typed, int, int32, signed, signed_int, int_signed, Qualifier, Qualified, unqualified, const_before, const_behind, Begins, only_type, then_type, enumeration, Declarator, bare, positive, negative, counted, Ending, variables_end, constants_end, enumeration_end, comma_end, Defines, defined, negative_defined, enclosed, negative_enclosed, Part, Outer, Declares, nothing, variables, prototype, void_prototype, definition, section, last_var, next_var, end_part, else_part, elif_part, Main, main, File, Forms, file}
use Rattle.c_grammar.specs.Kept.{directive_of, kept_from}
use Rattle.c_grammar.proofs.Preprocess.{leaves}
use Rattle.family_names.specs.Names.{is_main, has_main, sections_behind, IsEither}
use Rattle.c_parser.proofs.AmongNumbers.{neither}
use Rattle.c_parser.proofs.KeptNames.{MainStays, kept_more}

none_both : (us vs : List Item) → has_main us ≡ false → has_main vs ≡ false → has_main (us ++ vs) ≡ false
none_both us vs h k = list_any-append (λ (x : Item). is_main x.sign) us vs ∙ ap (λ (b : Bool). b || has_main vs) h ∙ k

type_none : {us : List Item} → Typed us → has_main us ≡ false
type_none (int p) = refl
type_none (int32 p) = refl
type_none (signed p) = refl
type_none (signed_int p q) = refl
type_none (int_signed p q) = refl

qualified_none : {kind : Qualifier} {us : List Item} → Qualified kind us → has_main us ≡ false
qualified_none (unqualified y) = type_none y
qualified_none (const_before p y) = type_none y
qualified_none (const_behind p {us} y) = none_both us (at p signs.Const ∷ []) (type_none y) refl

begins_none : {s : Sign} {kind : Qualifier} {us : List Item} → is_main s ≡ false → Begins s kind us → has_main us ≡ false
begins_none h (only_type s y) = qualified_none y
begins_none h (then_type p s {us} y) = ap (λ (b : Bool). b || has_main us) h ∙ qualified_none y
begins_none h (enumeration p q s) = refl

void_none : {us : List Item} → Optional signs.Void us → has_main us ≡ false
void_none (absent _) = refl
void_none (present p _) = refl

extern_none : {us : List Item} → Optional signs.Extern us → has_main us ≡ false
extern_none (absent _) = refl
extern_none (present p _) = refl

callable_none : {f : Sign} (q : Place) (rest : List Item) → Callable f → has_main (at q f ∷ rest) ≡ has_main rest
callable_none q rest of_input = refl
callable_none q rest (of_function k) = refl

declarator_none : {us : List Item} {x : ℕ} {n : ℤ} {kind : Qualifier} → Declarator kind us x n → has_main us ≡ false
declarator_none (bare p x) = refl
declarator_none (positive p q r x n) = refl
declarator_none (negative p q r s x n) = refl
declarator_none (counted p x last lt) = refl

ending_none : {us : List Item} {kind : Qualifier} → Ending kind us → has_main us ≡ false
ending_none (variables_end p) = refl
ending_none (constants_end p) = refl
ending_none (enumeration_end last p q) = refl
ending_none (comma_end last p q r) = refl

definition_none : {us : List Item} {x : ℕ} {n : ℤ} → Defines us x n → has_main us ≡ false
definition_none (defined p q r x n) = refl
definition_none (negative_defined p q r s x n) = refl
definition_none (enclosed p q r s t x n) = refl
definition_none (negative_enclosed p q r s t u x n) = refl

-- no declaration has it
no_main : {part : Part} {us : List Item} {ds : List Declared} → Declares part us ds → has_main us ≡ false
no_main (nothing gs) = refl
no_main (variables gs {us} {vs} {ws} o v d) = none_both us (vs ++ ws) (begins_none refl o) (none_both vs ws (no_main v) (no_main d))
no_main (prototype q r s t gs {f} {us} {vs} {ws} o c v d) =
    none_both us (at q f ∷ at r signs.Open ∷ (vs ++ at s signs.Close ∷ at t signs.Semicolon ∷ ws)) (begins_none refl o)
    (callable_none q (at r signs.Open ∷ (vs ++ at s signs.Close ∷ at t signs.Semicolon ∷ ws)) c
    ∙ none_both vs (at s signs.Close ∷ at t signs.Semicolon ∷ ws) (void_none v) (no_main d))
no_main (void_prototype p q r s t k gs {us} {vs} {ws} o v d) =
    none_both us (at p signs.Void ∷ at q (signs.Function k) ∷ at r signs.Open ∷ (vs ++ at s signs.Close ∷ at t signs.Semicolon ∷ ws)) (extern_none o)
    (none_both vs (at s signs.Close ∷ at t signs.Semicolon ∷ ws) (void_none v) (no_main d))
no_main (definition gs {us} {ws} o d) = none_both us ws (definition_none o) (no_main d)
no_main (section p n gs {us} {vs} {ws} a b d) = none_both us (vs ++ ws) (no_main a) (none_both vs ws (no_main b) (no_main d))
no_main (last_var gs {us} {vs} d o) = none_both us vs (declarator_none d) (ending_none o)
no_main (next_var p gs {us} {vs} d v) = none_both us (at p signs.Comma ∷ vs) (declarator_none d) (no_main v)
no_main (end_part p gs) = refl
no_main (else_part p q gs {us} d) = none_both us (at q signs.GroupEnd ∷ []) (no_main d) refl
no_main (elif_part p n gs {us} {vs} a b) = none_both us vs (no_main a) (no_main b)

behind : (truths : List Bool) (sections : List Section) (us vs : List Item) → has_main us ≡ false → MainStays truths (sections_behind truths sections us) vs → MainStays truths sections (us ++ vs)
behind truths sections [] vs h m = m
behind truths sections (x ∷ us) vs h m =
    let n = neither (is_main x.sign) (has_main us) h in
    subst (λ (b : Bool). IsEither b (all_kept sections ≡ true) (MainStays truths (sections_after truths sections (directive_of x.sign)) (us ++ vs))) (sym n.0)
    (behind truths (sections_after truths sections (directive_of x.sign)) us vs n.1 m)

one_longer : (ks vs : List Item) (x : Item) (b : Bool) → length ks ≡ length vs → ks ++ cond b (x ∷ []) [] ≡ vs ++ x ∷ [] → b ≡ true
one_longer ks vs x true e h = refl
one_longer ks vs x false e h = absurd (omega (arith, e, ap length h, length-append ks [], length-append vs (x ∷ [])))

-- what stands behind declarations stays
all_closed : (truths : List Bool) (q : Place) {us : List Item} {ds : List Declared} → Declares (Outer []) us ds → all_kept (sections_behind truths [] us) ≡ true
all_closed truths q {us} {ds} d =
    let x = leaves truths d [] refl in
    let it : Item = at q signs.Main in
    let same : kept_from truths [] us ≡ x.0 = ap (kept_from truths []) (sym (append-nil us)) ∙ x.2 [] ∙ append-nil x.0 in
    one_longer (kept_from truths [] us) x.0 it (all_kept (sections_behind truths [] us)) (ap length same) (sym (kept_more truths [] us (it ∷ [])) ∙ x.2 (it ∷ []))

-- the words of the type change nothing
main_typed : (truths : List Bool) (sections : List Section) (q : Place) {us : List Item} (vs : List Item) → Typed us → all_kept sections ≡ true → MainStays truths sections (us ++ at q signs.Main ∷ vs)
main_typed truths sections q vs (int p) h = h
main_typed truths sections q vs (int32 p) h = h
main_typed truths sections q vs (signed p) h = h
main_typed truths sections q vs (signed_int p t) h = h
main_typed truths sections q vs (int_signed p t) h = h

main_first : (truths : List Bool) (sections : List Section) {vs : List Item} {c : Code} {p : Place} → Main vs c p → all_kept sections ≡ true → MainStays truths sections vs
main_first truths sections (main q r s t u {ts} {us} {vs} y o b) h = main_typed truths sections q (at r signs.Open ∷ (us ++ at s signs.Close ∷ at t signs.LeftBrace ∷ vs)) y h

pub main_stays : (truths : List Bool) {items : List Item} {f : File} → Forms items f → MainStays truths [] items
main_stays truths (file {us} {vs} {ds} {c} {p} d m) = behind truths [] us vs (no_main d) (main_first truths (sections_behind truths [] us) m (all_closed truths p d))
