-- What is read is spelled: the end of a file.
use Rattle.std.proofs.Common.{◌≡◌, ℕ, List, [], ◌∷◌, ◌++◌, refl, sym, ap, subst, ◌∙◌, append_assoc}
use Rattle.std.specs.Prelude.{IfSome}
use Rattle.fam_outer.specs.declared.faults.Place.{Place}
use Rattle.c_grammar.specs.declared.items.Sign.{Sign}
use Rattle.c_grammar.specs.declared.items.Sign.TheVariants as signs
use Rattle.c_grammar.specs.declared.items.Item.{Item}
use Rattle.c_grammar.specs.Grammar.{at, Gaps, Empty, no_more, empty_section, empty_end, empty_else, empty_elif, File}
use Rattle.c_grammar.specs.Machine.{Tailing, Another, Final, Over, over}
use Rattle.c_grammar.proofs.Standing.{Trailing, Stands}
use Rattle.c_grammar.proofs.SoundFiles.{moves}

trails : (parts : List Tailing) (t w : List Item) → ((us : List Item) → Empty Gaps us → Empty Gaps (t ++ us)) → Trailing parts w → Trailing parts (t ++ w)
trails [] t w k r = k w r
trails (Another m ∷ parts) t w k r = (t ++ r.0, r.1, r.2, k r.0 r.3, r.4, r.5, ap (λ (y : List Item). t ++ y) r.6 ∙ sym (append_assoc t r.0 (r.1 ++ r.2)))
trails (Final m ∷ parts) t w k r = (t ++ r.0, r.1, r.2, k r.0 r.3, r.4, ap (λ (y : List Item). t ++ y) r.5 ∙ sym (append_assoc t r.0 (at r.2 signs.GroupEnd ∷ r.1)))

opens_gap : (p : Place) (n : ℕ) (parts : List Tailing) (w : List Item) → Trailing (Another 1 ∷ parts) w → Trailing parts (at p (signs.GroupIf n) ∷ w)
opens_gap p n parts w r =
    let text : List Item = at p (signs.GroupIf n) ∷ (r.0 ++ r.1) in
    let is : text ++ r.2 ≡ at p (signs.GroupIf n) ∷ w = ap (λ (y : List Item). at p (signs.GroupIf n) ∷ y) (append_assoc r.0 r.1 r.2 ∙ sym r.6) in
    let k : (us : List Item) → Empty Gaps us → Empty Gaps (text ++ us) = λ us e. subst (λ (y : List Item). Empty Gaps (at p (signs.GroupIf n) ∷ y)) (sym (append_assoc r.0 r.1 us)) (empty_section p n r.3 r.4 e) in
    subst (Trailing parts) is (trails parts text r.2 k r.5)

pub over_keeps : (f : File) (parts : List Tailing) (p : Place) (s : Sign) (a : List Item) → Stands (Over f parts) a → IfSome (over f parts s) (λ next. Stands next (a ++ at p s ∷ []))
over_keeps f parts p (signs.GroupIf n) a r = λ w t. moves a (at p (signs.GroupIf n)) w (r (at p (signs.GroupIf n) ∷ w) (opens_gap p n parts w t))
over_keeps f (Another k ∷ parts) p (signs.GroupElif n) a r = λ w t. moves a (at p (signs.GroupElif n)) w (r (at p (signs.GroupElif n) ∷ w) (
  [],
  at p (signs.GroupElif n) ∷ (t.0 ++ t.1),
  t.2,
  no_more,
  empty_elif p n t.3 t.4,
  t.5,
  ap (λ (y : List Item). at p (signs.GroupElif n) ∷ y) (t.6 ∙ sym (append_assoc t.0 t.1 t.2)),
))
over_keeps f (Another k ∷ parts) p signs.GroupElse a r = λ w t. moves a (at p signs.GroupElse) w (r (at p signs.GroupElse ∷ w) (
  [],
  at p signs.GroupElse ∷ (t.0 ++ at t.2 signs.GroupEnd ∷ []),
  t.1,
  no_more,
  empty_else p t.2 t.3,
  t.4,
  ap (λ (y : List Item). at p signs.GroupElse ∷ y) (t.5 ∙ sym (append_assoc t.0 (at t.2 signs.GroupEnd ∷ []) t.1)),
))
over_keeps f (Another k ∷ parts) p signs.GroupEnd a r = λ w t. moves a (at p signs.GroupEnd) w (r (at p signs.GroupEnd ∷ w) ([], at p signs.GroupEnd ∷ [], w, no_more, empty_end p, t, refl))
over_keeps f (Final k ∷ parts) p signs.GroupEnd a r = λ w t. moves a (at p signs.GroupEnd) w (r (at p signs.GroupEnd ∷ w) ([], w, p, no_more, t, refl))
over_keeps f _ p _ a r = tt
