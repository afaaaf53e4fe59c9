-- What is read is spelled: statements.
use Rattle.std.proofs.Common.{◌≡◌, ℕ, Bool, true, false, List, [], ◌∷◌, ◌++◌, refl, sym, ap, subst, ◌∙◌, append_assoc}
use Rattle.std.specs.Prelude.{IfSome}
use Rattle.std.proofs.lemmas.List.{append-nil}
use Rattle.fam_outer.specs.declared.faults.Place.{Place}
use Rattle.c_tree.specs.Tree.{Term, Break, Continue, Code, Done, Input, If, While, Leave, Block, Skip, Cond}
use Rattle.c_grammar.specs.declared.items.Sign.{Sign}
use Rattle.c_grammar.specs.declared.items.Sign.TheVariants as signs
use Rattle.c_grammar.specs.declared.items.Item.{Item}
use Rattle.c_grammar.specs.Ahead.{IsList}
use Rattle.c_grammar.specs.Grammar.{at, Count, Raise, Lower, count_sign, Callable, of_input, of_function, count_behind, count_before, no_clause, no_test, int32, signed_int, int_signed, Qualifier, Unqualified, Constant, Counted, Qualified, unqualified, const_before, const_behind, LocalDeclarator, uninitialised, Listed, Stated, Chained, Writes, none, choice, ends, otherwise, elif, call, void_call, skip, block, if_else, break, continue, body, file_of, Forms}
use Rattle.c_grammar.specs.Machine.{Stack, Top, Braces, Yes, No, ThenOf, ElseOf, LoopOf, DoOf, Start, Onward, InList, AtTest, Scope, ListScope, ForScope, Site, AsStatement, AsStart, AsStep, Use, ToAssign, ToInitialise, ToUpdate, ToAssert, ToChoose, ToLoop, ToRepeat, ToRedo, ToReturn, Pending, OfStatement, OfLocal, TypeWords, OneInt, OneSigned, WholeType, ReadingState, LocalConst, LocalType, LocalNamed, Ended, Wants, Counting, Named, ForOpens, StartComes, TestComes, StepComes, RedoOpens, RedoComes, VoidComes, VoidCloses, CallComes, CallOpens, CallCloses, Finishing, is_in_loop, with_declarator, behind_declaration, initialising, started_by, placed, else_of, linked, opened, braced, leaving, next_part, last_part, group_end, in_list, begin, proceed, on, named, counting, changing, start_comes, test_comes, step_comes, redo_comes, local_end, const_word, next_local, behind_local_type, local_type, without_initialiser, local_named, at_open, at_close, finishing, at_void, at_function, InStatic, BehindStatic}
use Rattle.c_grammar.proofs.Standing.{Begun, change_head, for_head, Read, AtSite, InDeclaration, UsedAt, Pends, Piece, StandsOn, one_int, one_signed, whole_type, LocalWords, variable_words, constant_words, Stands}
use Rattle.c_grammar.proofs.Pieces.{piece, listed, loops, place_is, change_pends, change_ends, change_closes, declaration_begins, declaration_goes_on, declaration_ends}
use Rattle.c_grammar.proofs.SoundExpressions.{want_keeps}
use Rattle.c_grammar.proofs.SoundFiles.{words_typed}

-- an `else` comes
else_is : (outer : Stack) (c : Code) (z : Place) (b ts : List Item) → Read outer b → Piece false outer ts c → IfSome (else_of outer c) (λ next. Stands next (b ++ (ts ++ at z signs.Else ∷ [])))
else_is (Top ds made) c z b ts r s = tt
else_is (Braces p made outer) c z b ts r s = tt
else_is (Yes links n made outer) c z b ts r s = tt
else_is (No links n first made outer) c z b ts r s = tt
else_is (ThenOf p e outer) c z b ts r s = (r.0, r.1, z, r.2, r.3, ts, r.4, r.5, s, ap (λ (y : List Item). y ++ (ts ++ at z signs.Else ∷ [])) r.6 ∙ simp append_assoc)
else_is (ElseOf p e first outer) c z b ts r s =
    let text : List Item = at p signs.If ∷ at r.0 signs.Open ∷ (r.4 ++ at r.1 signs.Close ∷ (r.5 ++ at r.2 signs.Else ∷ ts)) in
    let is : b ++ (ts ++ at z signs.Else ∷ []) ≡ r.3 ++ (text ++ at z signs.Else ∷ []) = ap (λ (y : List Item). y ++ (ts ++ at z signs.Else ∷ [])) r.9 ∙ simp append_assoc in
    subst (λ (y : List Item). IfSome (else_of outer (If p e first c Done)) (λ next. Stands next y)) (sym is) (else_is outer (If p e first c Done) z r.3 text r.6 (piece false outer text (If p e first c Done) (if_else p r.0 r.1 r.2 r.7 r.8 s)))
else_is (LoopOf start p e advance outer) c z b ts r s =
    let text : List Item = r.1 ++ ts in
    let made : Code = started_by start (While p e advance c Done) in
    let is : b ++ (ts ++ at z signs.Else ∷ []) ≡ r.0 ++ (text ++ at z signs.Else ∷ []) = ap (λ (y : List Item). y ++ (ts ++ at z signs.Else ∷ [])) r.4 ∙ simp append_assoc in
    subst (λ (y : List Item). IfSome (else_of outer made) (λ next. Stands next y)) (sym is) (else_is outer made z r.0 text r.2 (piece false outer text made (loops r.3 s)))
else_is (DoOf p outer) c z b ts r s = tt

-- a group ends: its earlier parts are put around the last
chained : {i : Bool} (links : List (ℕ × Code)) (n : ℕ) (us ts : List Item) (first last : Code) → Begun i links n us → Writes (Listed i) ts first → (vs : List Item) → Writes (Chained i) vs last → Writes (Listed i) (us ++ (ts ++ vs)) (linked links (Cond n first last Done))
chained {i} [] n us ts first last g s vs t =
    let h : Writes (Listed i) (at g.0 (signs.GroupIf n) ∷ (ts ++ (vs ++ []))) (Cond n first last Done) = choice g.0 n s t none in
    subst (λ (y : List Item). Writes (Listed i) (y ++ (ts ++ vs)) (Cond n first last Done)) (sym g.1) (subst (λ (y : List Item). Writes (Listed i) (at g.0 (signs.GroupIf n) ∷ (ts ++ y)) (Cond n first last Done)) (append-nil vs) h)
chained {i} (l ∷ links) n us ts first last g s vs t =
    let text : List Item = at g.0 (signs.GroupElif n) ∷ (ts ++ vs) in
    let is : us ++ (ts ++ vs) ≡ g.1 ++ (g.2 ++ text) = ap (λ (y : List Item). y ++ (ts ++ vs)) g.5 ∙ simp append_assoc in
    subst (λ (y : List Item). Writes (Listed i) y (linked (l ∷ links) (Cond n first last Done))) (sym is) (chained links l.0 g.1 g.2 l.1 (Cond n first last Done) g.3 g.4 text (elif g.0 n s t))

-- ---- one item

opened_keeps : (n : ℕ) (outer : Stack) (p : Place) (a : List Item) → Read outer a → IfSome (opened n outer) (λ next. Stands next (a ++ at p (signs.GroupIf n) ∷ []))
opened_keeps n (Top ds made) p a r = (a, at p (signs.GroupIf n) ∷ [], [], r, tt, (p, refl), none, refl)
opened_keeps n (Braces q made outer) p a r = (a, at p (signs.GroupIf n) ∷ [], [], r, tt, (p, refl), none, refl)
opened_keeps n (Yes links m made outer) p a r = (a, at p (signs.GroupIf n) ∷ [], [], r, tt, (p, refl), none, refl)
opened_keeps n (No links m first made outer) p a r = (a, at p (signs.GroupIf n) ∷ [], [], r, tt, (p, refl), none, refl)
opened_keeps n (ThenOf q e outer) p a r = tt
opened_keeps n (ElseOf q e first outer) p a r = tt
opened_keeps n (LoopOf start q e advance outer) p a r = tt
opened_keeps n (DoOf q outer) p a r = tt

braced_keeps : (outer : Stack) (p : Place) (a : List Item) → Read outer a → IfSome (braced outer p) (λ next. Stands next (a ++ at p signs.RightBrace ∷ []))
braced_keeps (Braces q made outer) p a r = (
  r.0,
  at q signs.LeftBrace ∷ (r.1 ++ at p signs.RightBrace ∷ []),
  r.2,
  piece false outer (at q signs.LeftBrace ∷ (r.1 ++ at p signs.RightBrace ∷ [])) (Block q made Done) (block q p r.3),
  ap (λ (y : List Item). y ++ at p signs.RightBrace ∷ []) r.4 ∙ append_assoc r.0 (at q signs.LeftBrace ∷ r.1) (at p signs.RightBrace ∷ []),
)
braced_keeps (Top ds made) p a r = λ w e.
    let re : r.0 ++ (r.1 ++ at p signs.RightBrace ∷ w) ≡ ((r.0 ++ r.1) ++ at p signs.RightBrace ∷ []) ++ w = simp append_assoc in
    let is : r.0 ++ (r.1 ++ at p signs.RightBrace ∷ w) ≡ (a ++ at p signs.RightBrace ∷ []) ++ w = re ∙ ap (λ (y : List Item). (y ++ at p signs.RightBrace ∷ []) ++ w) (sym r.4) in
    subst (λ (y : List Item). Forms y (file_of ds made p)) is (r.2 (r.1 ++ at p signs.RightBrace ∷ w) made p (body p r.3 e))
braced_keeps _ p a r = tt

-- `break` or `continue`
leaving_keeps : (i : Bool) (outer : Stack) (s : Sign) (c : Code) (p : Place) (a : List Item) → is_in_loop outer ≡ i → ((q : Place) → Writes (Stated true false) (at p s ∷ at q signs.Semicolon ∷ []) c) → Read outer a → IfSome (leaving i outer c) (λ next. Stands next (a ++ at p s ∷ []))
leaving_keeps true outer s c p a e w r = (a, at p s ∷ [], r, (λ q. subst (λ (b : Bool). Writes (Stated b false) (at p s ∷ at q signs.Semicolon ∷ []) c) (sym e) (w q)), refl)
leaving_keeps false outer s c p a e w r = tt

next_keeps : (m : ℕ) (outer : Stack) (p : Place) (a : List Item) → Read outer a → IfSome (next_part m outer) (λ next. Stands next (a ++ at p (signs.GroupElif m) ∷ []))
next_keeps m (Yes links n made outer) p a r =
    (r.0, r.1 ++ (r.2 ++ at p (signs.GroupElif m) ∷ []), [], r.3, r.4, (p, r.1, r.2, r.5, r.6, refl), none, ap (λ (y : List Item). y ++ at p (signs.GroupElif m) ∷ []) r.7 ∙ simp (append_assoc, append-nil))
next_keeps m _ p a r = tt

last_keeps : (outer : Stack) (p : Place) (a : List Item) → Read outer a → IfSome (last_part outer) (λ next. Stands next (a ++ at p signs.GroupElse ∷ []))
last_keeps (Yes links n made outer) p a r =
    (r.0, r.1, r.2, [], p, r.3, r.4, r.5, r.6, none, ap (λ (y : List Item). y ++ at p signs.GroupElse ∷ []) r.7 ∙ simp append_assoc)
last_keeps _ p a r = tt

end_keeps : (outer : Stack) (p : Place) (a : List Item) → Read outer a → IfSome (group_end outer) (λ next. Stands next (a ++ at p signs.GroupEnd ∷ []))
end_keeps (Yes links n made outer) p a r = (
  r.0,
  r.1 ++ (r.2 ++ at p signs.GroupEnd ∷ []),
  r.3,
  listed outer (r.1 ++ (r.2 ++ at p signs.GroupEnd ∷ [])) (linked links (Cond n made Done Done)) r.4 (chained links n r.1 r.2 made Done r.5 r.6 (at p signs.GroupEnd ∷ []) (ends p)),
  ap (λ (y : List Item). y ++ at p signs.GroupEnd ∷ []) r.7 ∙ simp append_assoc,
)
end_keeps (No links n first made outer) p a r =
    let vs : List Item = at r.4 signs.GroupElse ∷ (r.3 ++ at p signs.GroupEnd ∷ []) in (
      r.0,
      r.1 ++ (r.2 ++ vs),
      r.5,
      listed outer (r.1 ++ (r.2 ++ vs)) (linked links (Cond n first made Done)) r.6 (chained links n r.1 r.2 first made r.7 r.8 vs (otherwise r.4 p r.9)),
      ap (λ (y : List Item). y ++ at p signs.GroupEnd ∷ []) r.10 ∙ simp append_assoc,
    )
end_keeps _ p a r = tt

in_list_keeps : (outer : Stack) (next : ReadingState) (a : List Item) → (IsList outer → Stands next a) → IfSome (in_list outer next) (λ state. Stands state a)
in_list_keeps (Top ds made) next a h = h tt
in_list_keeps (Braces q made outer) next a h = h tt
in_list_keeps (Yes links n made outer) next a h = h tt
in_list_keeps (No links n first made outer) next a h = h tt
in_list_keeps (ThenOf q e outer) next a h = tt
in_list_keeps (ElseOf q e first outer) next a h = tt
in_list_keeps (LoopOf start q e advance outer) next a h = tt
in_list_keeps (DoOf q outer) next a h = tt

pub begin_keeps : (outer : Stack) (p : Place) (s : Sign) (a : List Item) → Read outer a → IfSome (begin outer p s) (λ next. Stands next (a ++ at p s ∷ []))
begin_keeps outer p (signs.Name x) a r = (a, r, refl)
begin_keeps outer p signs.Static a r = in_list_keeps outer (InStatic BehindStatic outer) (a ++ at p signs.Static ∷ []) (λ is. (p, a, r, is, refl))
begin_keeps outer p signs.Const a r = in_list_keeps outer (LocalConst (ListScope outer)) (a ++ at p signs.Const ∷ []) (λ is. (p, a, (r, is), refl))
begin_keeps outer p signs.Int a r = in_list_keeps outer (LocalType Unqualified OneInt (ListScope outer)) (a ++ at p signs.Int ∷ []) (λ is. (a, at p signs.Int ∷ [], (r, is), variable_words (one_int p), refl))
begin_keeps outer p signs.Int32 a r = in_list_keeps outer (LocalType Unqualified WholeType (ListScope outer)) (a ++ at p signs.Int32 ∷ []) (λ is. (a, at p signs.Int32 ∷ [], (r, is), variable_words (whole_type (int32 p)), refl))
begin_keeps outer p signs.Signed a r = in_list_keeps outer (LocalType Unqualified OneSigned (ListScope outer)) (a ++ at p signs.Signed ∷ []) (λ is. (a, at p signs.Signed ∷ [], (r, is), variable_words (one_signed p), refl))
begin_keeps outer p signs.Input a r = (a, at p signs.Input ∷ [], r, (λ s t u. call p s t u of_input), refl)
begin_keeps outer p (signs.Function k) a r = (a, at p (signs.Function k) ∷ [], r, (λ s t u. call p s t u (of_function k)), refl)
begin_keeps outer p signs.Open a r = (a, r, refl)
begin_keeps outer p signs.Semicolon a r = (a, at p signs.Semicolon ∷ [], r, piece false outer (at p signs.Semicolon ∷ []) (Skip p Done) (skip p), refl)
begin_keeps outer p signs.PlusPlus a r = (a, r, refl)
begin_keeps outer p signs.MinusMinus a r = (a, r, refl)
begin_keeps outer p signs.LeftBrace a r = (a, [], r, none, refl)
begin_keeps outer p signs.RightBrace a r = braced_keeps outer p a r
begin_keeps outer p signs.Assert a r = (a, r, refl)
begin_keeps outer p signs.Do a r = (a, r, refl)
begin_keeps outer p signs.Break a r = leaving_keeps (is_in_loop outer) outer signs.Break (Leave p Break Done) p a refl (λ q. break p q) r
begin_keeps outer p signs.Continue a r = leaving_keeps (is_in_loop outer) outer signs.Continue (Leave p Continue Done) p a refl (λ q. continue p q) r
begin_keeps outer p signs.Return a r = ((a, r, refl), λ z t. tt)
begin_keeps outer p signs.If a r = (a, r, refl)
begin_keeps outer p signs.While a r = (a, r, refl)
begin_keeps outer p signs.For a r = (a, r, refl)
begin_keeps outer p (signs.GroupIf n) a r = opened_keeps n outer p a r
begin_keeps outer p (signs.GroupElif n) a r = next_keeps n outer p a r
begin_keeps outer p signs.GroupElse a r = last_keeps outer p a r
begin_keeps outer p signs.GroupEnd a r = end_keeps outer p a r
begin_keeps outer p _ a r = tt

-- behind a statement, where no `else` comes
proceed_keeps : (o : Onward) (p : Place) (s : Sign) (a : List Item) → StandsOn o a → IfSome (proceed o p s) (λ next. Stands next (a ++ at p s ∷ []))
proceed_keeps (InList outer) p s a r = begin_keeps outer p s a r
proceed_keeps (AtTest q c outer) p signs.While a r = (p, r.0, r.1, r.2, r.3, r.4, ap (λ (y : List Item). y ++ at p signs.While ∷ []) r.5 ∙ append_assoc r.0 (at q signs.Do ∷ r.1) (at p signs.While ∷ []))
proceed_keeps (AtTest q c outer) p _ a r = tt

pub on_keeps : (outer : Stack) (c : Code) (p : Place) (s : Sign) (a : List Item) → Stands (Ended outer c) a → IfSome (on outer c p s) (λ next. Stands next (a ++ at p s ∷ []))
on_keeps outer c p signs.Else a r =
    let is : a ++ at p signs.Else ∷ [] ≡ r.0 ++ (r.1 ++ at p signs.Else ∷ []) = ap (λ (y : List Item). y ++ at p signs.Else ∷ []) r.4 ∙ append_assoc r.0 r.1 (at p signs.Else ∷ []) in
    subst (λ (y : List Item). IfSome (else_of outer c) (λ next. Stands next y)) (sym is) (else_is outer c p r.0 r.1 r.2 r.3)
on_keeps outer c p s a r = proceed_keeps (placed outer c) p s a (subst (StandsOn (placed outer c)) (sym r.4) (place_is false outer c r.0 r.1 r.2 r.3))

pub named_keeps : (q : Place) (x : ℕ) (site : Site) (p : Place) (s : Sign) (a : List Item) → Stands (Named q x site) a → IfSome (named q x site s) (λ next. Stands next (a ++ at p s ∷ []))
named_keeps q x site p signs.Equals a r = ((p, r.0, r.1, ap (λ (y : List Item). y ++ at p signs.Equals ∷ []) r.2 ∙ append_assoc r.0 (at q (signs.Name x) ∷ []) (at p signs.Equals ∷ [])), λ z t. tt)
named_keeps q x site p signs.PlusEquals a r = ((p, r.0, r.1, ap (λ (y : List Item). y ++ at p signs.PlusEquals ∷ []) r.2 ∙ append_assoc r.0 (at q (signs.Name x) ∷ []) (at p signs.PlusEquals ∷ [])), λ z t. tt)
named_keeps q x site p signs.MinusEquals a r = ((p, r.0, r.1, ap (λ (y : List Item). y ++ at p signs.MinusEquals ∷ []) r.2 ∙ append_assoc r.0 (at q (signs.Name x) ∷ []) (at p signs.MinusEquals ∷ [])), λ z t. tt)
named_keeps q x site p signs.StarEquals a r = ((p, r.0, r.1, ap (λ (y : List Item). y ++ at p signs.StarEquals ∷ []) r.2 ∙ append_assoc r.0 (at q (signs.Name x) ∷ []) (at p signs.StarEquals ∷ [])), λ z t. tt)
named_keeps q x site p signs.SlashEquals a r = ((p, r.0, r.1, ap (λ (y : List Item). y ++ at p signs.SlashEquals ∷ []) r.2 ∙ append_assoc r.0 (at q (signs.Name x) ∷ []) (at p signs.SlashEquals ∷ [])), λ z t. tt)
named_keeps q x site p signs.PercentEquals a r = ((p, r.0, r.1, ap (λ (y : List Item). y ++ at p signs.PercentEquals ∷ []) r.2 ∙ append_assoc r.0 (at q (signs.Name x) ∷ []) (at p signs.PercentEquals ∷ [])), λ z t. tt)
named_keeps q x site p signs.PlusPlus a r = (r.0, at q (signs.Name x) ∷ at p signs.PlusPlus ∷ [], r.1, change_pends site (count_behind q p x Raise), ap (λ (y : List Item). y ++ at p signs.PlusPlus ∷ []) r.2 ∙ append_assoc r.0 (at q (signs.Name x) ∷ []) (at p signs.PlusPlus ∷ []))
named_keeps q x site p signs.MinusMinus a r = (r.0, at q (signs.Name x) ∷ at p signs.MinusMinus ∷ [], r.1, change_pends site (count_behind q p x Lower), ap (λ (y : List Item). y ++ at p signs.MinusMinus ∷ []) r.2 ∙ append_assoc r.0 (at q (signs.Name x) ∷ []) (at p signs.MinusMinus ∷ []))
named_keeps q x site p _ a r = tt

pub counting_keeps : (q : Place) (u : Count) (site : Site) (p : Place) (s : Sign) (a : List Item) → Stands (Counting q u site) a → IfSome (counting q u site s) (λ next. Stands next (a ++ at p s ∷ []))
counting_keeps q u site p (signs.Name x) a r = (r.0, at q (count_sign u) ∷ at p (signs.Name x) ∷ [], r.1, change_pends site (count_before q p x u), ap (λ (y : List Item). y ++ at p (signs.Name x) ∷ []) r.2 ∙ append_assoc r.0 (at q (count_sign u) ∷ []) (at p (signs.Name x) ∷ []))
counting_keeps q u site p _ a r = tt

opens_use : (u : Use) (p : Place) (a : List Item) → UsedAt u a → Stands (Wants [] u) (a ++ at p signs.Open ∷ [])
opens_use (ToAssign q x site) p a r = absurd r
opens_use (ToInitialise kind q x scope) p a r = absurd r
opens_use (ToUpdate q x u site) p a r = absurd r
opens_use (ToAssert q outer) p a r = ((p, r.0, r.1, ap (λ (y : List Item). y ++ at p signs.Open ∷ []) r.2 ∙ append_assoc r.0 (at q signs.Assert ∷ []) (at p signs.Open ∷ [])), λ z t. tt)
opens_use (ToChoose q outer) p a r = ((p, r.0, r.1, ap (λ (y : List Item). y ++ at p signs.Open ∷ []) r.2 ∙ append_assoc r.0 (at q signs.If ∷ []) (at p signs.Open ∷ [])), λ z t. tt)
opens_use (ToLoop q outer) p a r = ((p, r.0, r.1, ap (λ (y : List Item). y ++ at p signs.Open ∷ []) r.2 ∙ append_assoc r.0 (at q signs.While ∷ []) (at p signs.Open ∷ [])), λ z t. tt)
opens_use (ToRepeat start q outer) p a r = absurd r
opens_use (ToRedo q c z outer) p a r = absurd r
opens_use (ToReturn q outer) p a r = absurd r

pub opens_keeps : (u : Use) (p : Place) (s : Sign) (a : List Item) → UsedAt u a → IfSome (at_open (Wants [] u) s) (λ next. Stands next (a ++ at p s ∷ []))
opens_keeps u p signs.Open a r = opens_use u p a r
opens_keeps u p _ a r = tt

-- ---- the parentheses of a `for`

pub for_opens_keeps : (o : Place) (outer : Stack) (p : Place) (s : Sign) (a : List Item) → Stands (ForOpens o outer) a → IfSome (at_open (StartComes o outer) s) (λ next. Stands next (a ++ at p s ∷ []))
for_opens_keeps o outer p signs.Open a r = (p, r.0, r.1, ap (λ (y : List Item). y ++ at p signs.Open ∷ []) r.2 ∙ append_assoc r.0 (at o signs.For ∷ []) (at p signs.Open ∷ []))
for_opens_keeps o outer p _ a r = tt

changing_keeps : (site : Site) (p : Place) (s : Sign) (a : List Item) → AtSite site a → IfSome (changing site p s) (λ next. Stands next (a ++ at p s ∷ []))
changing_keeps site p (signs.Name x) a r = (a, r, refl)
changing_keeps site p signs.PlusPlus a r = (a, r, refl)
changing_keeps site p signs.MinusMinus a r = (a, r, refl)
changing_keeps site p _ a r = tt

pub start_comes_keeps : (o : Place) (outer : Stack) (p : Place) (s : Sign) (a : List Item) → Stands (StartComes o outer) a → IfSome (start_comes o outer p s) (λ next. Stands next (a ++ at p s ∷ []))
start_comes_keeps o outer p signs.Semicolon a r = (
  r.1,
  at o signs.For ∷ at r.0 signs.Open ∷ at p signs.Semicolon ∷ [],
  r.2,
  change_head o r.0 p no_clause,
  ap (λ (y : List Item). y ++ at p signs.Semicolon ∷ []) r.3 ∙ append_assoc r.1 (at o signs.For ∷ at r.0 signs.Open ∷ []) (at p signs.Semicolon ∷ []),
)
start_comes_keeps o outer p signs.Const a r = (p, a, (r, refl), refl)
start_comes_keeps o outer p signs.Int a r = (a, at p signs.Int ∷ [], (r, refl), variable_words (one_int p), refl)
start_comes_keeps o outer p signs.Int32 a r = (a, at p signs.Int32 ∷ [], (r, refl), variable_words (whole_type (int32 p)), refl)
start_comes_keeps o outer p signs.Signed a r = (a, at p signs.Signed ∷ [], (r, refl), variable_words (one_signed p), refl)
start_comes_keeps o outer p s a r = changing_keeps (AsStart outer) p s a (o, r)

pub test_comes_keeps : (start : Start) (outer : Stack) (p : Place) (s : Sign) (a : List Item) → Stands (TestComes start outer) a → IfSome (test_comes start outer p s) (λ next. Stands next (a ++ at p s ∷ []))
test_comes_keeps start outer p signs.Semicolon a r = (r.0, r.1, at p signs.Semicolon ∷ [], r.2, r.3, no_test p, ap (λ (y : List Item). y ++ at p signs.Semicolon ∷ []) r.4 ∙ append_assoc r.0 r.1 (at p signs.Semicolon ∷ []))
test_comes_keeps start outer p s a r = want_keeps [] (ToRepeat start p outer) p s a r refl

pub step_comes_keeps : (start : Start) (q : Place) (e : Term) (outer : Stack) (p : Place) (s : Sign) (a : List Item) → Stands (StepComes start q e outer) a → IfSome (step_comes start q e outer p s) (λ next. Stands next (a ++ at p s ∷ []))
step_comes_keeps start q e outer p signs.Close a r = (
  r.0,
  r.1 ++ (r.2 ++ at p signs.Close ∷ []),
  r.3,
  for_head p r.4 r.5 no_clause,
  ap (λ (y : List Item). y ++ at p signs.Close ∷ []) r.6 ∙ simp append_assoc,
)
step_comes_keeps start q e outer p s a r = changing_keeps (AsStep start q e outer) p s a r

-- ---- the test of a `do`

pub redo_opens_keeps : (q : Place) (c : Code) (outer : Stack) (p : Place) (s : Sign) (a : List Item) → Stands (RedoOpens q c outer) a → IfSome (at_open (RedoComes q c outer) s) (λ next. Stands next (a ++ at p s ∷ []))
redo_opens_keeps q c outer p signs.Open a r = (r.0, p, r.1, r.2, r.3, r.4, r.5, ap (λ (y : List Item). y ++ at p signs.Open ∷ []) r.6 ∙ simp append_assoc)
redo_opens_keeps q c outer p _ a r = tt

pub redo_comes_keeps : (q : Place) (c : Code) (outer : Stack) (p : Place) (s : Sign) (a : List Item) → Stands (RedoComes q c outer) a → IfSome (redo_comes q c outer p s) (λ next. Stands next (a ++ at p s ∷ []))
redo_comes_keeps q c outer p s a r = want_keeps [] (ToRedo q c p outer) p s a r refl

-- ---- declarations in `main`

pub const_word_keeps : (scope : Scope) (p : Place) (s : Sign) (a : List Item) → Stands (LocalConst scope) a → IfSome (const_word scope s) (λ next. Stands next (a ++ at p s ∷ []))
const_word_keeps scope p signs.Int a r = (r.1, at r.0 signs.Const ∷ at p signs.Int ∷ [], r.2, constant_words r.0 (one_int p), ap (λ (y : List Item). y ++ at p signs.Int ∷ []) r.3 ∙ append_assoc r.1 (at r.0 signs.Const ∷ []) (at p signs.Int ∷ []))
const_word_keeps scope p signs.Int32 a r = (r.1, at r.0 signs.Const ∷ at p signs.Int32 ∷ [], r.2, constant_words r.0 (whole_type (int32 p)), ap (λ (y : List Item). y ++ at p signs.Int32 ∷ []) r.3 ∙ append_assoc r.1 (at r.0 signs.Const ∷ []) (at p signs.Int32 ∷ []))
const_word_keeps scope p signs.Signed a r = (r.1, at r.0 signs.Const ∷ at p signs.Signed ∷ [], r.2, constant_words r.0 (one_signed p), ap (λ (y : List Item). y ++ at p signs.Signed ∷ []) r.3 ∙ append_assoc r.1 (at r.0 signs.Const ∷ []) (at p signs.Signed ∷ []))
const_word_keeps scope p _ a r = tt

-- the kind of a declarator is that with which it needs an initialiser
held_kind : (scope : Scope) (kind : Qualifier) → initialising scope (initialising scope kind) ≡ initialising scope kind
held_kind (ListScope outer) kind = refl
held_kind (ForScope p made outer) kind = refl

-- in a `for` the kind says nothing of what stands before
held_declaration : (scope : Scope) (kind : Qualifier) (a : List Item) → InDeclaration kind scope a → InDeclaration (initialising scope kind) scope a
held_declaration (ListScope outer) kind a d = d
held_declaration (ForScope p made outer) kind a d = d

pub next_local_keeps : (kind : Qualifier) (scope : Scope) (p : Place) (s : Sign) (a : List Item) → InDeclaration kind scope a → IfSome (next_local kind scope p s) (λ next. Stands next (a ++ at p s ∷ []))
next_local_keeps kind scope p (signs.Name x) a d = (a, held_declaration scope kind a d, held_kind scope kind, refl)
next_local_keeps kind scope p _ a d = tt

-- a whole type
pub words_qualified : {kind : Qualifier} {t : TypeWords} {us : List Item} → LocalWords kind t us → Qualified kind us
words_qualified (variable_words k) = unqualified (words_typed k)
words_qualified (constant_words p k) = const_before p (words_typed k)

-- `const` behind the type
pub then_const : {t : TypeWords} {us : List Item} (p : Place) → LocalWords Unqualified t us → Qualified Constant (us ++ at p signs.Const ∷ [])
then_const p (variable_words k) = const_behind p (words_typed k)

-- a second word
pub then_signed : {kind : Qualifier} {us : List Item} (p : Place) → LocalWords kind OneInt us → LocalWords kind WholeType (us ++ at p signs.Signed ∷ [])
then_signed p (variable_words (one_int q)) = variable_words (whole_type (int_signed q p))
then_signed p (constant_words r (one_int q)) = constant_words r (whole_type (int_signed q p))

pub then_int : {kind : Qualifier} {us : List Item} (p : Place) → LocalWords kind OneSigned us → LocalWords kind WholeType (us ++ at p signs.Int ∷ [])
then_int p (variable_words (one_signed q)) = variable_words (whole_type (signed_int q p))
then_int p (constant_words r (one_signed q)) = constant_words r (whole_type (signed_int q p))

behind_type_keeps : (kind : Qualifier) (words : TypeWords) (scope : Scope) (p : Place) (s : Sign) (a : List Item) → Stands (LocalType kind words scope) a → IfSome (behind_local_type kind scope p s) (λ next. Stands next (a ++ at p s ∷ []))
behind_type_keeps Unqualified words scope p signs.Const a r =
    let is : a ++ at p signs.Const ∷ [] ≡ r.0 ++ (r.1 ++ at p signs.Const ∷ []) = ap (λ (y : List Item). y ++ at p signs.Const ∷ []) r.4 ∙ append_assoc r.0 r.1 (at p signs.Const ∷ []) in
    subst (InDeclaration Constant scope) (sym is) (declaration_begins scope r.0 (r.1 ++ at p signs.Const ∷ []) r.2 (then_const p r.3))
behind_type_keeps kind words scope p s a r = next_local_keeps kind scope p s a (subst (InDeclaration kind scope) (sym r.4) (declaration_begins scope r.0 r.1 r.2 (words_qualified r.3)))

pub local_type_keeps : (kind : Qualifier) (scope : Scope) (p : Place) (s : Sign) (words : TypeWords) (a : List Item) → Stands (LocalType kind words scope) a → IfSome (local_type kind scope p s words) (λ next. Stands next (a ++ at p s ∷ []))
local_type_keeps kind scope p signs.Signed OneInt a r = (r.0, r.1 ++ at p signs.Signed ∷ [], r.2, then_signed p r.3, ap (λ (y : List Item). y ++ at p signs.Signed ∷ []) r.4 ∙ append_assoc r.0 r.1 (at p signs.Signed ∷ []))
local_type_keeps kind scope p signs.Int OneSigned a r = (r.0, r.1 ++ at p signs.Int ∷ [], r.2, then_int p r.3, ap (λ (y : List Item). y ++ at p signs.Int ∷ []) r.4 ∙ append_assoc r.0 r.1 (at p signs.Int ∷ []))
local_type_keeps kind scope p s words a r = behind_type_keeps kind words scope p s a r

-- a declarator ends
local_end_keeps : (kind : Qualifier) (scope : Scope) (c : Code) (p : Place) (s : Sign) (a b ts : List Item) → InDeclaration kind scope b → LocalDeclarator (initialising scope kind) ts c → a ≡ b ++ ts → IfSome (local_end kind scope c s) (λ next. Stands next (a ++ at p s ∷ []))
local_end_keeps kind scope c p signs.Semicolon a b ts d h is = subst (Stands (behind_declaration (with_declarator scope c))) (sym (ap (λ (y : List Item). y ++ at p signs.Semicolon ∷ []) is ∙ append_assoc b ts (at p signs.Semicolon ∷ []))) (declaration_ends kind scope b ts p d h)
local_end_keeps kind scope c p signs.Comma a b ts d h is = subst (InDeclaration kind (with_declarator scope c)) (sym (ap (λ (y : List Item). y ++ at p signs.Comma ∷ []) is ∙ append_assoc b ts (at p signs.Comma ∷ []))) (declaration_goes_on kind scope b ts p d h)
local_end_keeps kind scope c p _ a b ts d h is = tt

uninitialised_keeps : (kind : Qualifier) (q : Place) (x : ℕ) (scope : Scope) (p : Place) (s : Sign) (a : List Item) → Stands (LocalNamed kind q x scope) a → IfSome (without_initialiser kind q x scope s) (λ next. Stands next (a ++ at p s ∷ []))
uninitialised_keeps Unqualified q x scope p s a r =
    local_end_keeps Unqualified scope (Input q x Done) p s a r.0 (at q (signs.Name x) ∷ []) r.1 (subst (λ (k : Qualifier). LocalDeclarator k (at q (signs.Name x) ∷ []) (Input q x Done)) (sym r.2) (uninitialised q x)) r.3
uninitialised_keeps Constant q x scope p s a r = tt
uninitialised_keeps (Counted last) q x scope p s a r = tt

pub local_named_keeps : (kind : Qualifier) (q : Place) (x : ℕ) (scope : Scope) (p : Place) (s : Sign) (a : List Item) → Stands (LocalNamed kind q x scope) a → IfSome (local_named kind q x scope s) (λ next. Stands next (a ++ at p s ∷ []))
local_named_keeps kind q x scope p signs.Equals a r = ((p, r.0, r.1, ap (λ (y : List Item). y ++ at p signs.Equals ∷ []) r.3 ∙ append_assoc r.0 (at q (signs.Name x) ∷ []) (at p signs.Equals ∷ [])), λ z t. tt)
local_named_keeps kind q x scope p s a r = uninitialised_keeps kind q x scope p s a r

-- a statement ends, or a declarator
pub finishing_keeps : (made : Pending) (p : Place) (s : Sign) (a : List Item) → Stands (Finishing made) a → IfSome (finishing made s) (λ next. Stands next (a ++ at p s ∷ []))
finishing_keeps (OfStatement site c) p signs.Semicolon a r = change_ends site c p a r
finishing_keeps (OfStatement site c) p signs.Close a r = change_closes site c p a r
finishing_keeps (OfStatement site c) p _ a r = tt
finishing_keeps (OfLocal kind scope c) p s a r = local_end_keeps kind scope c p s a r.0 r.1 r.2 r.3 r.4

-- ---- calls

pub void_comes_keeps : (q : Place) (outer : Stack) (p : Place) (s : Sign) (a : List Item) → Stands (VoidComes q outer) a → IfSome (at_void (VoidCloses q outer) s) (λ next. Stands next (a ++ at p s ∷ []))
void_comes_keeps q outer p signs.Void a r = (p, r.0, r.1, ap (λ (y : List Item). y ++ at p signs.Void ∷ []) r.2 ∙ append_assoc r.0 (at q signs.Open ∷ []) (at p signs.Void ∷ []))
void_comes_keeps q outer p _ a r = tt

pub void_closes_keeps : (q : Place) (outer : Stack) (p : Place) (s : Sign) (a : List Item) → Stands (VoidCloses q outer) a → IfSome (at_close (CallComes q outer) s) (λ next. Stands next (a ++ at p s ∷ []))
void_closes_keeps q outer p signs.Close a r = (r.0, p, r.1, r.2, ap (λ (y : List Item). y ++ at p signs.Close ∷ []) r.3 ∙ append_assoc r.1 (at q signs.Open ∷ at r.0 signs.Void ∷ []) (at p signs.Close ∷ []))
void_closes_keeps q outer p _ a r = tt

-- the name of the function behind `(void)`
name_keeps : {f : Sign} (q : Place) (outer : Stack) (p : Place) (a : List Item) → Callable f → Stands (CallComes q outer) a → Stands (CallOpens (OfStatement (AsStatement outer) (Skip q Done))) (a ++ at p f ∷ [])
name_keeps {f} q outer p a g r = (
  r.2,
  at q signs.Open ∷ at r.0 signs.Void ∷ at r.1 signs.Close ∷ at p f ∷ [],
  r.3,
  (λ s t u. void_call q r.0 r.1 p s t u g),
  ap (λ (y : List Item). y ++ at p f ∷ []) r.4 ∙ append_assoc r.2 (at q signs.Open ∷ at r.0 signs.Void ∷ at r.1 signs.Close ∷ []) (at p f ∷ []),
)

pub call_comes_keeps : (q : Place) (outer : Stack) (p : Place) (s : Sign) (a : List Item) → Stands (CallComes q outer) a → IfSome (at_function (CallOpens (OfStatement (AsStatement outer) (Skip q Done))) s) (λ next. Stands next (a ++ at p s ∷ []))
call_comes_keeps q outer p signs.Input a r = name_keeps q outer p a of_input r
call_comes_keeps q outer p (signs.Function k) a r = name_keeps q outer p a (of_function k) r
call_comes_keeps q outer p _ a r = tt

pub call_opens_keeps : (made : Pending) (p : Place) (s : Sign) (a : List Item) → Stands (CallOpens made) a → IfSome (at_open (CallCloses made) s) (λ next. Stands next (a ++ at p s ∷ []))
call_opens_keeps made p signs.Open a r = (
  r.0,
  r.1 ++ at p signs.Open ∷ [],
  r.2,
  (λ t. subst (Pends made) (sym (append_assoc r.1 (at p signs.Open ∷ []) (at t signs.Close ∷ []))) (r.3 p t)),
  ap (λ (y : List Item). y ++ at p signs.Open ∷ []) r.4 ∙ append_assoc r.0 r.1 (at p signs.Open ∷ []),
)
call_opens_keeps made p _ a r = tt

pub call_closes_keeps : (made : Pending) (p : Place) (s : Sign) (a : List Item) → Stands (CallCloses made) a → IfSome (at_close (Finishing made) s) (λ next. Stands next (a ++ at p s ∷ []))
call_closes_keeps made p signs.Close a r = (
  r.0,
  r.1 ++ at p signs.Close ∷ [],
  r.2,
  r.3 p,
  ap (λ (y : List Item). y ++ at p signs.Close ∷ []) r.4 ∙ append_assoc r.0 r.1 (at p signs.Close ∷ []),
)
call_closes_keeps made p _ a r = tt
