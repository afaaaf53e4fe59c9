-- The parts of a file within the limits: what stands before the statements of `main`, the statements, and what stands behind them.
use Rattle.std.proofs.Common.{◌≡◌, ℕ, ℤ, Bool, false, List, [], ◌∷◌, ◌++◌, refl, sym, ap, subst, ◌∙◌, append_assoc}
use Rattle.fam_outer.specs.declared.faults.Place.{Place}
use Rattle.c_tree.specs.declared.lists.Declared.{Declared}
use Rattle.c_tree.specs.Tree.{Code}
use Rattle.c_grammar.specs.declared.items.Item.{Item}
use Rattle.c_grammar.specs.declared.items.Sign.{Sign}
use Rattle.c_grammar.specs.declared.items.Sign.TheVariants as signs
use Rattle.c_grammar.specs.Grammar.{at, has_groups, Callable, of_input, of_function, Optional, absent, present, Typed, int, int32, signed, signed_int, int_signed, Qualifier, Qualified, unqualified, const_before, const_behind, Begins, only_type, then_type, enumeration, Declarator, bare, positive, negative, counted, Ending, variables_end, constants_end, enumeration_end, comma_end, Defines, defined, negative_defined, enclosed, negative_enclosed, Part, Declares, nothing, variables, prototype, void_prototype, definition, section, last_var, next_var, end_part, else_part, elif_part, Gap, Empty, no_more, empty_section, empty_end, empty_else, empty_elif, Body, body, Main, main, File, file_of, Forms, file}
use Rattle.c_grammar.specs.Within as within
use Rattle.c_grammar.specs.Within.{BodyWithin, MainWithin, FormsWithin}
use Rattle.c_grammar.proofs.Keeping.{Keeps, both, all_stay, no_group_in, type_plain}
use Rattle.c_grammar.proofs.Preprocess.{optional_plain, leaves, vanishes}
use Rattle.c_grammar.proofs.Within.{declares_plain, empty_plain}
use Rattle.for_blocks.specs.Blocks.{is_for}
use Rattle.for_blocks.proofs.Texts.{holds, nor, none_in}
use Rattle.for_blocks.proofs.Pieces.{Statements, Turns}
use Rattle.for_blocks.proofs.Forming.{formed}

-- ---- no `for` stands outside the statements

typed_free : {us : List Item} → Typed us → holds is_for us ≡ false
typed_free (int p) = refl
typed_free (int32 p) = refl
typed_free (signed p) = refl
typed_free (signed_int p q) = refl
typed_free (int_signed p q) = refl

qualified_free : {us : List Item} {kind : Qualifier} → Qualified kind us → holds is_for us ≡ false
qualified_free (unqualified y) = typed_free y
qualified_free (const_before p y) = typed_free y
qualified_free (const_behind p {us} y) = none_in is_for us (at p signs.Const ∷ []) (typed_free y) refl

begins_free : {s : Sign} {us : List Item} {kind : Qualifier} → is_for s ≡ false → Begins s kind us → holds is_for us ≡ false
begins_free h (only_type s q) = qualified_free q
begins_free h (then_type p s {us} q) = nor (is_for s) (holds is_for us) h (qualified_free q)
begins_free h (enumeration p q s) = refl

optional_free : {s : Sign} {us : List Item} → is_for s ≡ false → Optional s us → holds is_for us ≡ false
optional_free h (absent s) = refl
optional_free h (present p s) = nor (is_for s) false h refl

function_free : {f : Sign} → Callable f → is_for f ≡ false
function_free of_input = refl
function_free (of_function k) = refl

declarator_free : {us : List Item} {x : ℕ} {n : ℤ} {kind : Qualifier} → Declarator kind us x n → holds is_for us ≡ false
declarator_free (bare p x) = refl
declarator_free (positive p q r x n) = refl
declarator_free (negative p q r s x n) = refl
declarator_free (counted p x last lt) = refl

ending_free : {us : List Item} {kind : Qualifier} → Ending kind us → holds is_for us ≡ false
ending_free (variables_end p) = refl
ending_free (constants_end p) = refl
ending_free (enumeration_end last p q) = refl
ending_free (comma_end last p q r) = refl

definition_free : {us : List Item} {x : ℕ} {n : ℤ} → Defines us x n → holds is_for us ≡ false
definition_free (defined p q r x n) = refl
definition_free (negative_defined p q r s x n) = refl
definition_free (enclosed p q r s t x n) = refl
definition_free (negative_enclosed p q r s t u x n) = refl

declarations_free : {s : Part} {us : List Item} {ds : List Declared} → Declares s us ds → holds is_for us ≡ false
declarations_free (nothing gs) = refl
declarations_free (variables gs {us} {vs} {ws} o v d) = none_in is_for us (vs ++ ws) (begins_free refl o) (none_in is_for vs ws (declarations_free v) (declarations_free d))
declarations_free (prototype q r s t gs {f} {us} {vs} {ws} o g v d) =
    none_in is_for us (at q f ∷ at r signs.Open ∷ (vs ++ at s signs.Close ∷ at t signs.Semicolon ∷ ws)) (begins_free refl o)
    (nor (is_for f) (holds is_for (vs ++ at s signs.Close ∷ at t signs.Semicolon ∷ ws)) (function_free g) (none_in is_for vs (at s signs.Close ∷ at t signs.Semicolon ∷ ws) (optional_free refl v) (declarations_free d)))
declarations_free (void_prototype p q r s t n gs {us} {vs} {ws} o v d) =
    none_in is_for us (at p signs.Void ∷ at q (signs.Function n) ∷ at r signs.Open ∷ (vs ++ at s signs.Close ∷ at t signs.Semicolon ∷ ws)) (optional_free refl o)
    (none_in is_for vs (at s signs.Close ∷ at t signs.Semicolon ∷ ws) (optional_free refl v) (declarations_free d))
declarations_free (definition gs {us} {ws} o d) = none_in is_for us ws (definition_free o) (declarations_free d)
declarations_free (section p n gs {us} {vs} {ws} a b d) = none_in is_for us (vs ++ ws) (declarations_free a) (none_in is_for vs ws (declarations_free b) (declarations_free d))
declarations_free (last_var gs {us} {vs} d o) = none_in is_for us vs (declarator_free d) (ending_free o)
declarations_free (next_var p gs {us} {vs} d v) = none_in is_for us (at p signs.Comma ∷ vs) (declarator_free d) (declarations_free v)
declarations_free (end_part p gs) = refl
declarations_free (else_part p q gs {us} d) = none_in is_for us (at q signs.GroupEnd ∷ []) (declarations_free d) refl
declarations_free (elif_part p n gs {us} {vs} a b) = none_in is_for us vs (declarations_free a) (declarations_free b)

empty_free : {s : Gap} {us : List Item} → Empty s us → holds is_for us ≡ false
empty_free no_more = refl
empty_free (empty_section p n {us} {vs} {ws} a b d) = none_in is_for us (vs ++ ws) (empty_free a) (none_in is_for vs ws (empty_free b) (empty_free d))
empty_free (empty_end p) = refl
empty_free (empty_else p q {us} a) = none_in is_for us (at q signs.GroupEnd ∷ []) (empty_free a) refl
empty_free (empty_elif p n {us} {vs} a b) = none_in is_for us vs (empty_free a) (empty_free b)

-- ---- the parts of a file

-- of the statements of `main`, and what follows
record BodyParts (items : List Item) (c : Code) (p : Place) : Type 0 where
  statements : List Item
  after : List Item
  is : items ≡ statements ++ at p signs.RightBrace ∷ after
  turned : List Item
  turns : Turns 64 Statements statements turned
  free_after : holds is_for after ≡ false
  vanishes_after : (t : List Bool) → Keeps t [] after []
  spells : Body (turned ++ at p signs.RightBrace ∷ after) c p

body_parts : {items : List Item} {c : Code} {p : Place} → BodyWithin items c p → BodyParts items c p
body_parts (within.body p {us} {vs} s e) =
    let x = formed s in
    record {
      statements = us;
      after = vs;
      is = refl;
      turned = x.0;
      turns = x.1;
      free_after = empty_free (empty_plain e);
      vanishes_after = λ t. vanishes t (empty_plain e) [];
      spells = body p x.2 (empty_plain e);
    }

-- of `main`
record MainParts (items : List Item) (c : Code) (p : Place) : Type 0 where
  head : List Item
  rest : List Item
  is : items ≡ head ++ rest
  parts : BodyParts rest c p
  free : holds is_for head ≡ false
  plain : has_groups head ≡ false
  spells : Main (head ++ (parts.turned ++ at p signs.RightBrace ∷ parts.after)) c p

main_parts : {items : List Item} {c : Code} {p : Place} → MainWithin items c p → MainParts items c p
main_parts {c = c} {p = p} (within.main q r s t u {ts} {us} {vs} y o b) =
    let x = body_parts b in
    let behind : List Item = at s signs.Close ∷ at t signs.LeftBrace ∷ [] in
    let inner : List Item = us ++ behind in
    let head : List Item = ts ++ at q signs.Main ∷ at r signs.Open ∷ inner in
    let is : (w : List Item) → ts ++ at q signs.Main ∷ at r signs.Open ∷ (us ++ at s signs.Close ∷ at t signs.LeftBrace ∷ w) ≡ head ++ w = λ w. simp append_assoc in
    record {
      head = head;
      rest = vs;
      is = is vs;
      parts = x;
      free = none_in is_for ts (at q signs.Main ∷ at r signs.Open ∷ inner) (typed_free y) (none_in is_for us behind (optional_free refl o) refl);
      plain = no_group_in ts (at q signs.Main ∷ at r signs.Open ∷ inner) (type_plain y) (no_group_in us behind (optional_plain refl o) refl);
      spells = subst (λ (w : List Item). Main w c u) (is (x.turned ++ at u signs.RightBrace ∷ x.after)) (main q r s t u y o x.spells);
    }

-- of a file: what stands before the statements of `main`, the statements, what they turn into, and what stands behind the last brace
pub record Parts (items : List Item) (f : File) : Type 0 where
  pub before : List Item
  pub statements : List Item
  pub end : Place
  pub after : List Item
  pub turned : List Item
  pub is : items ≡ before ++ (statements ++ at end signs.RightBrace ∷ after)
  pub turns : Turns 64 Statements statements turned
  pub free_before : holds is_for before ≡ false
  pub free_after : holds is_for after ≡ false
  pub left : (t : List Bool) → (us : List Item) × Keeps t [] before us
  pub vanishes_after : (t : List Bool) → Keeps t [] after []
  pub spells : Forms (before ++ (turned ++ at end signs.RightBrace ∷ after)) f

pub file_parts : {items : List Item} {f : File} → FormsWithin items f → Parts items f
file_parts (within.file {us} {vs} {ds} {c} {p} d m) =
    let x = main_parts m in
    let y = x.parts in
    let before : List Item = us ++ x.head in
    let last : List Item = y.statements ++ at p signs.RightBrace ∷ y.after in
    let turned_last : List Item = y.turned ++ at p signs.RightBrace ∷ y.after in
    record {
      before = before;
      statements = y.statements;
      end = p;
      after = y.after;
      turned = y.turned;
      is = ap (λ (w : List Item). us ++ w) (x.is ∙ ap (λ (w : List Item). x.head ++ w) y.is) ∙ sym (append_assoc us x.head last);
      turns = y.turns;
      free_before = none_in is_for us x.head (declarations_free (declares_plain d)) x.free;
      free_after = y.free_after;
      left = λ t. let z = leaves t (declares_plain d) [] refl in (z.0 ++ x.head, both t [] us z.0 x.head x.head z.2 (all_stay t [] x.head x.plain refl));
      vanishes_after = y.vanishes_after;
      spells = subst (λ (w : List Item). Forms w (file_of ds c p)) (sym (append_assoc us x.head turned_last)) (file (declares_plain d) x.spells);
    }
