-- Static declarations in `main`: what the items that were read so far were is kept by one more.
use Rattle.std.proofs.Common.{◌≡◌, ℕ, ℤ, pos, List, [], ◌∷◌, ◌++◌, refl, sym, ap, subst, ◌∙◌, append_assoc}
use Rattle.std.specs.Prelude.{IfSome, neg_ℤ}
use Rattle.std.proofs.lemmas.List.{append-nil}
use Rattle.fam_outer.specs.declared.faults.Place.{Place}
use Rattle.c_tree.specs.declared.tree.Op.TheVariants.{Sub}
use Rattle.c_tree.specs.Tree.{Done}
use Rattle.c_grammar.specs.declared.items.Sign.{Sign}
use Rattle.c_grammar.specs.declared.items.Sign.TheVariants as signs
use Rattle.c_grammar.specs.declared.items.Item.{Item}
use Rattle.c_grammar.specs.Ahead.{IsList, IsHeld}
use Rattle.c_grammar.specs.Grammar.{at, int32, Qualifier, Unqualified, Constant, Counted, behind, Qualified, Declarator, bare, positive, negative, Ending, variables_end, constants_end, declared, Vars, Declares, last_var, next_var, Listed, Writes, none, static_local}
use Rattle.c_grammar.specs.Machine.{Stack, StaticPart, BehindStatic, BehindStaticConst, BehindStaticType, BeforeStaticName, BehindStaticName, BehindStaticEquals, BehindStaticMinus, BehindStaticNumber, TypeWords, OneInt, OneSigned, WholeType, is_in_loop, folded, static_word, behind_static_word, static_name, behind_static_type, static_type, static_end, static_bare, static_named, static_value, static_negative, static_step}
use Rattle.c_grammar.proofs.Standing.{Read, InStaticDeclaration, StandsStatic, Words, one_int, one_signed, whole_type, variable_words, constant_words, Stands}
use Rattle.c_grammar.proofs.Folding.{folded-none}
use Rattle.c_grammar.proofs.CompleteDeclarations.{qualified_held}
use Rattle.c_grammar.proofs.Pieces.{fold_is}
use Rattle.c_grammar.proofs.SoundStatements.{words_qualified, then_const, then_signed, then_int}

-- ---- declarators

-- behind the type
static_begins : {kind : Qualifier} (outer : Stack) (p : Place) (b us : List Item) → Read outer b → IsList outer → Qualified kind us → InStaticDeclaration kind outer (b ++ at p signs.Static ∷ us)
static_begins {kind} outer p b us r is q = record {
  start = b;
  text = at p signs.Static ∷ us;
  is_read = r;
  is_list = is;
  is_held = qualified_held q;
  goes_on = λ ts ds v. subst (λ (y : List Item). Writes (Listed (is_in_loop outer)) (at p signs.Static ∷ (us ++ y)) Done) (append-nil ts) (static_local p q v none);
  parts = refl;
}

-- what comes behind a declarator is of the same kind
still_held : (kind : Qualifier) (n : ℤ) → IsHeld kind → behind kind n ≡ kind
still_held Unqualified n is = refl
still_held Constant n is = refl
still_held (Counted last) n is = absurd is

-- behind a comma
static_goes_on : {kind : Qualifier} {outer : Stack} {b ts : List Item} {x : ℕ} {n : ℤ} (p : Place) → InStaticDeclaration kind outer b → Declarator kind ts x n → InStaticDeclaration kind outer (b ++ (ts ++ at p signs.Comma ∷ []))
static_goes_on {kind} {outer} {b} {ts} {x} {n} p d h =
    let is : (us : List Item) → d.text ++ (ts ++ at p signs.Comma ∷ us) ≡ (d.text ++ (ts ++ at p signs.Comma ∷ [])) ++ us = λ us. simp append_assoc in record {
      start = d.start;
      text = d.text ++ (ts ++ at p signs.Comma ∷ []);
      is_read = d.is_read;
      is_list = d.is_list;
      is_held = d.is_held;
      goes_on = λ us ds v. subst (λ (y : List Item). Writes (Listed (is_in_loop outer)) y Done) (is us)
          (d.goes_on (ts ++ at p signs.Comma ∷ us) (declared x n [] ∷ ds) (next_var p [] h (subst (λ (k : Qualifier). Declares (Vars k []) us ds) (sym (still_held kind n d.is_held)) v)));
      parts = ap (λ (y : List Item). y ++ (ts ++ at p signs.Comma ∷ [])) d.parts ∙ append_assoc d.start d.text (ts ++ at p signs.Comma ∷ []);
    }

static_ending : (kind : Qualifier) (p : Place) → IsHeld kind → Ending kind (at p signs.Semicolon ∷ [])
static_ending Unqualified p is = variables_end p
static_ending Constant p is = constants_end p
static_ending (Counted last) p is = absurd is

-- behind its semicolon
static_ends : {kind : Qualifier} {outer : Stack} {b ts : List Item} {x : ℕ} {n : ℤ} (p : Place) → InStaticDeclaration kind outer b → Declarator kind ts x n → Read outer (b ++ (ts ++ at p signs.Semicolon ∷ []))
static_ends {kind} {outer} {b} {ts} {x} {n} p d h =
    let end : List Item = ts ++ at p signs.Semicolon ∷ [] in
    let text : List Item = d.text ++ end in
    let written : Writes (Listed (is_in_loop outer)) text Done = d.goes_on end (declared x n [] ∷ []) (last_var [] h (static_ending kind p d.is_held)) in
    let r : Read (folded outer Done) (d.start ++ text) = fold_is outer Done d.start text d.is_list d.is_read written in
    let is : b ++ end ≡ d.start ++ text = ap (λ (y : List Item). y ++ end) d.parts ∙ append_assoc d.start d.text end in
    subst (λ (y : Stack). Read y (b ++ end)) (folded-none outer d.is_list) (subst (Read (folded outer Done)) (sym is) r)

-- ---- one item more

word_keeps : (kind : Qualifier) (outer : Stack) (p : Place) (s : Sign) (a : List Item) → ((words : TypeWords) → Words words (at p s ∷ []) → StandsStatic (BehindStaticType kind words) outer (a ++ at p s ∷ [])) → IfSome (static_word kind outer s) (λ next. Stands next (a ++ at p s ∷ []))
word_keeps kind outer p signs.Int a h = h OneInt (one_int p)
word_keeps kind outer p signs.Int32 a h = h WholeType (whole_type (int32 p))
word_keeps kind outer p signs.Signed a h = h OneSigned (one_signed p)
word_keeps kind outer p _ a h = tt

behind_word_keeps : (outer : Stack) (p : Place) (s : Sign) (a : List Item) → StandsStatic BehindStatic outer a → IfSome (behind_static_word outer s) (λ next. Stands next (a ++ at p s ∷ []))
behind_word_keeps outer p signs.Const a r = (r.0, p, r.1, r.2, r.3, ap (λ (y : List Item). y ++ at p signs.Const ∷ []) r.4 ∙ append_assoc r.1 (at r.0 signs.Static ∷ []) (at p signs.Const ∷ []))
behind_word_keeps outer p s a r =
    word_keeps Unqualified outer p s a (λ words k. (r.0, r.1, at p s ∷ [], r.2, r.3, variable_words k, ap (λ (y : List Item). y ++ at p s ∷ []) r.4 ∙ append_assoc r.1 (at r.0 signs.Static ∷ []) (at p s ∷ [])))

behind_const_keeps : (outer : Stack) (p : Place) (s : Sign) (a : List Item) → StandsStatic BehindStaticConst outer a → IfSome (static_word Constant outer s) (λ next. Stands next (a ++ at p s ∷ []))
behind_const_keeps outer p s a r =
    word_keeps Constant outer p s a (λ words k. (
      r.0,
      r.2,
      at r.1 signs.Const ∷ at p s ∷ [],
      r.3,
      r.4,
      constant_words r.1 k,
      ap (λ (y : List Item). y ++ at p s ∷ []) r.5 ∙ append_assoc r.2 (at r.0 signs.Static ∷ at r.1 signs.Const ∷ []) (at p s ∷ []),
    ))

name_keeps : (kind : Qualifier) (outer : Stack) (p : Place) (s : Sign) (a : List Item) → InStaticDeclaration kind outer a → IfSome (static_name kind outer s) (λ next. Stands next (a ++ at p s ∷ []))
name_keeps kind outer p (signs.Name x) a d = (p, x, a, d, refl)
name_keeps kind outer p _ a d = tt

behind_type_keeps : (kind : Qualifier) (words : TypeWords) (outer : Stack) (p : Place) (s : Sign) (a : List Item) → StandsStatic (BehindStaticType kind words) outer a → IfSome (behind_static_type kind outer s) (λ next. Stands next (a ++ at p s ∷ []))
behind_type_keeps Unqualified words outer p signs.Const a r =
    let is : a ++ at p signs.Const ∷ [] ≡ r.1 ++ at r.0 signs.Static ∷ (r.2 ++ at p signs.Const ∷ []) = ap (λ (y : List Item). y ++ at p signs.Const ∷ []) r.6 ∙ append_assoc r.1 (at r.0 signs.Static ∷ r.2) (at p signs.Const ∷ []) in
    subst (InStaticDeclaration Constant outer) (sym is) (static_begins outer r.0 r.1 (r.2 ++ at p signs.Const ∷ []) r.3 r.4 (then_const p r.5))
behind_type_keeps kind words outer p s a r = name_keeps kind outer p s a (subst (InStaticDeclaration kind outer) (sym r.6) (static_begins outer r.0 r.1 r.2 r.3 r.4 (words_qualified r.5)))

type_keeps : (kind : Qualifier) (outer : Stack) (p : Place) (s : Sign) (words : TypeWords) (a : List Item) → StandsStatic (BehindStaticType kind words) outer a → IfSome (static_type kind outer s words) (λ next. Stands next (a ++ at p s ∷ []))
type_keeps kind outer p signs.Signed OneInt a r = (r.0, r.1, r.2 ++ at p signs.Signed ∷ [], r.3, r.4, then_signed p r.5, ap (λ (y : List Item). y ++ at p signs.Signed ∷ []) r.6 ∙ append_assoc r.1 (at r.0 signs.Static ∷ r.2) (at p signs.Signed ∷ []))
type_keeps kind outer p signs.Int OneSigned a r = (r.0, r.1, r.2 ++ at p signs.Int ∷ [], r.3, r.4, then_int p r.5, ap (λ (y : List Item). y ++ at p signs.Int ∷ []) r.6 ∙ append_assoc r.1 (at r.0 signs.Static ∷ r.2) (at p signs.Int ∷ []))
type_keeps kind outer p s words a r = behind_type_keeps kind words outer p s a r

end_keeps : (kind : Qualifier) (outer : Stack) (x : ℕ) (n : ℤ) (p : Place) (s : Sign) (a b ts : List Item) → InStaticDeclaration kind outer b → Declarator kind ts x n → a ≡ b ++ ts → IfSome (static_end kind outer s) (λ next. Stands next (a ++ at p s ∷ []))
end_keeps kind outer x n p signs.Semicolon a b ts d h is = subst (Read outer) (sym (ap (λ (y : List Item). y ++ at p signs.Semicolon ∷ []) is ∙ append_assoc b ts (at p signs.Semicolon ∷ []))) (static_ends p d h)
end_keeps kind outer x n p signs.Comma a b ts d h is = subst (InStaticDeclaration kind outer) (sym (ap (λ (y : List Item). y ++ at p signs.Comma ∷ []) is ∙ append_assoc b ts (at p signs.Comma ∷ []))) (static_goes_on p d h)
end_keeps kind outer x n p _ a b ts d h is = tt

bare_keeps : (kind : Qualifier) (outer : Stack) (p : Place) (s : Sign) (a : List Item) → StandsStatic (BehindStaticName kind) outer a → IfSome (static_bare kind outer s) (λ next. Stands next (a ++ at p s ∷ []))
bare_keeps Unqualified outer p s a r = end_keeps Unqualified outer r.1 (pos 0) p s a r.2 (at r.0 (signs.Name r.1) ∷ []) r.3 (bare r.0 r.1) r.4
bare_keeps Constant outer p s a r = tt
bare_keeps (Counted last) outer p s a r = tt

named_keeps : (kind : Qualifier) (outer : Stack) (p : Place) (s : Sign) (a : List Item) → StandsStatic (BehindStaticName kind) outer a → IfSome (static_named kind outer s) (λ next. Stands next (a ++ at p s ∷ []))
named_keeps kind outer p signs.Equals a r = (r.0, p, r.1, r.2, r.3, ap (λ (y : List Item). y ++ at p signs.Equals ∷ []) r.4 ∙ append_assoc r.2 (at r.0 (signs.Name r.1) ∷ []) (at p signs.Equals ∷ []))
named_keeps kind outer p s a r = bare_keeps kind outer p s a r

value_keeps : (kind : Qualifier) (outer : Stack) (p : Place) (s : Sign) (a : List Item) → StandsStatic (BehindStaticEquals kind) outer a → IfSome (static_value kind outer s) (λ next. Stands next (a ++ at p s ∷ []))
value_keeps kind outer p (signs.Number n) a r =
    let named : List Item = at r.0 (signs.Name r.2) ∷ at r.1 signs.Equals ∷ [] in
    (r.3, named ++ at p (signs.Number n) ∷ [], r.2, n, r.4, positive r.0 r.1 p r.2 n, ap (λ (y : List Item). y ++ at p (signs.Number n) ∷ []) r.5 ∙ append_assoc r.3 named (at p (signs.Number n) ∷ []))
value_keeps kind outer p (signs.Oper Sub) a r =
    let named : List Item = at r.0 (signs.Name r.2) ∷ at r.1 signs.Equals ∷ [] in
    (r.0, r.1, p, r.2, r.3, r.4, ap (λ (y : List Item). y ++ at p (signs.Oper Sub) ∷ []) r.5 ∙ append_assoc r.3 named (at p (signs.Oper Sub) ∷ []))
value_keeps kind outer p _ a r = tt

negative_keeps : (kind : Qualifier) (outer : Stack) (p : Place) (s : Sign) (a : List Item) → StandsStatic (BehindStaticMinus kind) outer a → IfSome (static_negative kind outer s) (λ next. Stands next (a ++ at p s ∷ []))
negative_keeps kind outer p (signs.Number n) a r =
    let named : List Item = at r.0 (signs.Name r.3) ∷ at r.1 signs.Equals ∷ at r.2 (signs.Oper Sub) ∷ [] in
    (r.4, named ++ at p (signs.Number n) ∷ [], r.3, neg_ℤ n, r.5, negative r.0 r.1 r.2 p r.3 n, ap (λ (y : List Item). y ++ at p (signs.Number n) ∷ []) r.6 ∙ append_assoc r.4 named (at p (signs.Number n) ∷ []))
negative_keeps kind outer p _ a r = tt

pub static_part_keeps : (part : StaticPart) (outer : Stack) (p : Place) (s : Sign) (a : List Item) → StandsStatic part outer a → IfSome (static_step part outer s) (λ next. Stands next (a ++ at p s ∷ []))
static_part_keeps BehindStatic outer p s a r = behind_word_keeps outer p s a r
static_part_keeps BehindStaticConst outer p s a r = behind_const_keeps outer p s a r
static_part_keeps (BehindStaticType kind words) outer p s a r = type_keeps kind outer p s words a r
static_part_keeps (BeforeStaticName kind) outer p s a d = name_keeps kind outer p s a d
static_part_keeps (BehindStaticName kind) outer p s a r = named_keeps kind outer p s a r
static_part_keeps (BehindStaticEquals kind) outer p s a r = value_keeps kind outer p s a r
static_part_keeps (BehindStaticMinus kind) outer p s a r = negative_keeps kind outer p s a r
static_part_keeps (BehindStaticNumber kind) outer p s a r = end_keeps kind outer r.2 r.3 p s a r.0 r.1 r.4 r.5 r.6
