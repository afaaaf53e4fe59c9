-- What is read is spelled: expressions.
use Rattle.std.proofs.Common.{◌≡◌, ℕ, zero, suc, ◌≤◌, ltb, Bool, true, false, cond, List, [], ◌∷◌, ◌++◌, refl, sym, ap, subst, ◌∙◌, append_assoc, arith, inl, inr}
use Rattle.std.specs.Prelude.{IfSome}
use Rattle.std.proofs.lemmas.Bool.{ltb-false, ltb-true, cases_lt}
use Rattle.fam_outer.specs.declared.faults.Place.{Place}
use Rattle.c_tree.specs.declared.tree.Op.TheVariants.{Add, Sub}
use Rattle.c_tree.specs.Tree.{Term, Binary, Return, Code, Done, Assign, Assert, Do, Leave}
use Rattle.c_grammar.specs.declared.items.Sign.{Sign}
use Rattle.c_grammar.specs.declared.items.Sign.TheVariants as signs
use Rattle.c_grammar.specs.declared.items.Item.{Item}
use Rattle.c_grammar.specs.Grammar.{at, Qualifier, tighter, prefix_sign, applied, Expresses, number, name, group, prefix, loose, binary, Update, update_sign, updated, Callable, of_input, of_function, assignment, input_taken, compound_assignment, Tests, test, LocalDeclarator, from_call, Stated, Writes, assert, do_while, return}
use Rattle.c_grammar.specs.Grammar as grammar
use Rattle.c_grammar.specs.Machine.{Frame, Paren, Pre, Left, room, Scope, Site, Use, ToAssign, ToInitialise, ToUpdate, ToAssert, ToChoose, ToLoop, ToRepeat, ToRedo, ToReturn, Has, is_in_loop, with_declarator, behind_declaration, initialising, settle, input_of, want, tested, closed_by, assigned, ended_by, initialised, followed_by, have}
use Rattle.c_grammar.proofs.Standing.{while_head, InDeclaration, StartsAt, Starts, Leads, Framed, Stands}
use Rattle.c_grammar.proofs.CompleteExpressions.{tighter_small}
use Rattle.c_grammar.proofs.Pieces.{piece, AtEnd, change_pends, change_ends, change_closes, declaration_goes_on, declaration_ends}

loosen : (j k : ℕ) {ts : List Item} {e : Term} → j ≤ k → Expresses j ts e → Expresses k ts e
loosen j zero {ts} {e} le s = let h : j ≡ 0 = omega arith in subst (λ (i : ℕ). Expresses i ts e) h s
loosen j (suc k) {ts} {e} le s = elim (cases_lt j (suc k)) [
  | inl lt ↦ loose (loosen j k (omega arith) s)
  | inr ge ↦ (let h : j ≡ suc k = omega arith in subst (λ (i : ℕ). Expresses i ts e) h s)
]

-- what stands first stands so before more
starts_more : (u : Use) (ts us : List Item) → Starts u ts → Starts u (ts ++ us)
starts_more (ToAssign p x site) ts us h = tt
starts_more (ToInitialise kind p x scope) ts us h = tt
starts_more (ToUpdate p x u site) ts us h = tt
starts_more (ToAssert p outer) ts us h = tt
starts_more (ToChoose p outer) ts us h = tt
starts_more (ToLoop p outer) ts us h = tt
starts_more (ToReturn p outer) ts us h = tt
starts_more (ToRedo p c q outer) [] us h = absurd h
starts_more (ToRedo p c q outer) (x ∷ ts) us h = h
starts_more (ToRepeat start p outer) [] us h = absurd h
starts_more (ToRepeat start p outer) (x ∷ ts) us h = h

leads_more : (u : Use) (fs : List Frame) (ts us : List Item) → Leads u fs ts → Leads u fs (ts ++ us)
leads_more u [] ts us h = starts_more u ts us h
leads_more u (f ∷ fs) ts us h = tt

record Settled (u : Use) (k : ℕ) (s : List Frame × Term) (a : List Item) : Type 0 where
  pub before : List Item
  pub text : List Item
  pub is_read : Framed u s.0 before
  pub leads : Leads u s.0 text
  pub spells : Expresses k text s.1
  pub fits : k ≤ room s.0
  pub parts : a ≡ before ++ text

settle_is : (u : Use) (k : ℕ) → k ≤ 6 → (fs : List Frame) (e : Term) (j : ℕ) → j ≤ k → j ≤ room fs → (b ts : List Item) → Framed u fs b → Leads u fs ts → Expresses j ts e → Settled u k (settle k fs e) (b ++ ts)
settle_is u k small [] e j le fits b ts r l s = record { before = b; text = ts; is_read = r; leads = l; spells = loosen j k le s; fits = small; parts = refl }
settle_is u k small (Paren ∷ fs) e j le fits b ts r l s = record { before = b; text = ts; is_read = r; leads = l; spells = loosen j k le s; fits = small; parts = refl }
settle_is u k small (Pre v ∷ fs) e j le fits b ts r l s =
    let is : b ++ ts ≡ r.1 ++ (at r.0 (prefix_sign v) ∷ ts) = ap (λ (x : List Item). x ++ ts) r.4 ∙ append_assoc r.1 (at r.0 (prefix_sign v) ∷ []) ts in
    subst (λ (x : List Item). Settled u k (settle k fs (applied v e)) x) (sym is) (settle_is u k small fs (applied v e) 0 (omega arith) (omega arith) r.1 (at r.0 (prefix_sign v) ∷ ts) r.2 (leads_more u fs (at r.0 (prefix_sign v) ∷ []) ts r.3) (prefix r.0 v (loosen j 0 fits s)))
settle_is u k small (Left op x ∷ fs) e j le fits b ts r l s =
    elim (ltb (tighter op) k) as (λ v. ltb (tighter op) k ≡ v → Settled u k (cond v (settle k fs (Binary op x e)) (Left op x ∷ fs, e)) (b ++ ts)) [
      | true ↦ λ h.
          let is : b ++ ts ≡ r.1 ++ (r.2 ++ at r.0 (signs.Oper op) ∷ ts) = ap (λ (y : List Item). y ++ ts) r.7 ∙ append_assoc r.1 (r.2 ++ at r.0 (signs.Oper op) ∷ []) ts ∙ ap (λ (y : List Item). r.1 ++ y) (append_assoc r.2 (at r.0 (signs.Oper op) ∷ []) ts) in
          subst (λ (y : List Item). Settled u k (settle k fs (Binary op x e)) y) (sym is)
          (settle_is u k small fs (Binary op x e) (suc (tighter op)) (ltb-true (tighter op) k h) r.6 r.1 (r.2 ++ at r.0 (signs.Oper op) ∷ ts) r.3 (leads_more u fs r.2 (at r.0 (signs.Oper op) ∷ ts) r.4) (binary r.0 op r.5 (loosen j (tighter op) fits s)))
      | false ↦ λ h. record { before = b; text = ts; is_read = r; leads = l; spells = loosen j k le s; fits = ltb-false (tighter op) k h; parts = refl }
    ] refl

of_state : (fs : List Frame) (u : Use) (e : Term) (a : List Item) (k : ℕ) → k ≤ 6 → Stands (Has fs u e) a → Settled u k (settle k fs e) a
of_state fs u e a k small h = subst (λ (y : List Item). Settled u k (settle k fs e) y) (sym h.5) (settle_is u k small fs e 0 (omega arith) (omega arith) h.0 h.1 h.2 h.3 h.4)

input_keeps : {f : Sign} (fs : List Frame) (u : Use) (p : Place) (a : List Item) → Callable f → Framed u fs a → IfSome (input_of fs u) (λ next. Stands next (a ++ at p f ∷ []))
input_keeps {f} [] (ToAssign q x site) p a g r =
    (r.1, at q (signs.Name x) ∷ at r.0 signs.Equals ∷ at p f ∷ [], r.2, (λ s t. change_pends site (input_taken q r.0 p s t x g)), ap (λ (y : List Item). y ++ at p f ∷ []) r.3 ∙ append_assoc r.1 (at q (signs.Name x) ∷ at r.0 signs.Equals ∷ []) (at p f ∷ []))
input_keeps {f} [] (ToInitialise kind q x scope) p a g r =
    (r.1, at q (signs.Name x) ∷ at r.0 signs.Equals ∷ at p f ∷ [], r.2, (λ s t. from_call q r.0 p s t x g), ap (λ (y : List Item). y ++ at p f ∷ []) r.3 ∙ append_assoc r.1 (at q (signs.Name x) ∷ at r.0 signs.Equals ∷ []) (at p f ∷ []))
input_keeps _ _ p a g r = tt

pub want_keeps : (fs : List Frame) (u : Use) (p : Place) (s : Sign) (a : List Item) → Framed u fs a → Leads u fs (at p s ∷ []) → IfSome (want fs u s) (λ next. Stands next (a ++ at p s ∷ []))
want_keeps fs u p (signs.Number n) a r l = (a, at p (signs.Number n) ∷ [], r, l, number p n, refl)
want_keeps fs u p (signs.Name x) a r l = (a, at p (signs.Name x) ∷ [], r, l, name p x, refl)
want_keeps fs u p signs.Open a r l = ((p, a, r, l, refl), λ q s. tt)
want_keeps fs u p signs.Bang a r l = ((p, a, r, l, refl), λ q s. tt)
want_keeps fs u p (signs.Oper Add) a r l = ((p, a, r, l, refl), λ q s. tt)
want_keeps fs u p (signs.Oper Sub) a r l = ((p, a, r, l, refl), λ q s. tt)
want_keeps fs u p signs.Input a r l = input_keeps fs u p a of_input r
want_keeps fs u p (signs.Function k) a r l = input_keeps fs u p a (of_function k) r
want_keeps fs u p _ a r l = tt

-- an assignment of an expression
assigns : (q : Place) (x : ℕ) (site : Site) (e : Term) (a : List Item) → Settled (ToAssign q x site) 6 ([], e) a → AtEnd site (Assign q x e Done) a
assigns q x site e a d =
    let r = d.is_read in
    (r.1, at q (signs.Name x) ∷ at r.0 signs.Equals ∷ d.text, r.2, change_pends site (assignment q r.0 x d.spells), d.parts ∙ ap (λ (y : List Item). y ++ d.text) r.3 ∙ append_assoc r.1 (at q (signs.Name x) ∷ at r.0 signs.Equals ∷ []) d.text)

-- the same of a compound one
updates : (q : Place) (x : ℕ) (v : Update) (site : Site) (e : Term) (a : List Item) → Settled (ToUpdate q x v site) 6 ([], e) a → AtEnd site (updated q x v e) a
updates q x v site e a d =
    let r = d.is_read in
    (r.1, at q (signs.Name x) ∷ at r.0 (update_sign v) ∷ d.text, r.2, change_pends site (compound_assignment q r.0 x v d.spells), d.parts ∙ ap (λ (y : List Item). y ++ d.text) r.3 ∙ append_assoc r.1 (at q (signs.Name x) ∷ at r.0 (update_sign v) ∷ []) d.text)

-- the test of a `for` and its semicolon
test_of : (p z : Place) (ts : List Item) (e : Term) → Expresses 6 ts e → StartsAt p ts → Tests (ts ++ at z signs.Semicolon ∷ []) p e
test_of p z [] e s h = absurd h
test_of p z (x ∷ ts) e s h = subst (λ (y : Place). Tests (x ∷ (ts ++ at z signs.Semicolon ∷ [])) y e) h (test z s)

-- a `do` with its test
redo_of : {b i : Bool} {ts : List Item} {c : Code} (p q r s t z : Place) (us : List Item) (e : Term) → Writes (Stated true b) ts c → Expresses 6 us e → StartsAt z us
    → Writes (Stated i false) (at p signs.Do ∷ (ts ++ at q signs.While ∷ at r signs.Open ∷ (us ++ at s signs.Close ∷ at t signs.Semicolon ∷ []))) (Do p c z e Done)
redo_of p q r s t z [] e w g h = absurd h
redo_of {i = i} {ts = ts} {c = c} p q r s t z (x ∷ us) e w g h =
    subst (λ (y : Place). Writes (Stated i false) (at p signs.Do ∷ (ts ++ at q signs.While ∷ at r signs.Open ∷ x ∷ (us ++ at s signs.Close ∷ at t signs.Semicolon ∷ []))) (Do p c y e Done)) h (do_while p q r s t w g)

tested_keeps : (u : Use) (e : Term) (p : Place) (a : List Item) → Settled u 6 ([], e) a → IfSome (tested u e) (λ next. Stands next (a ++ at p signs.Close ∷ []))
tested_keeps (ToAssign q x site) e p a d = change_closes site (Assign q x e Done) p a (assigns q x site e a d)
tested_keeps (ToInitialise kind q x scope) e p a d = tt
tested_keeps (ToUpdate q x v site) e p a d = change_closes site (updated q x v e) p a (updates q x v site e a d)
tested_keeps (ToAssert q outer) e p a d =
    let r = d.is_read in
    let text : List Item = at q signs.Assert ∷ at r.0 signs.Open ∷ (d.text ++ at p signs.Close ∷ []) in
    let is : (s : Place) → at q signs.Assert ∷ at r.0 signs.Open ∷ (d.text ++ at p signs.Close ∷ at s signs.Semicolon ∷ []) ≡ text ++ at s signs.Semicolon ∷ [] = λ s. simp append_assoc in (
      r.1,
      text,
      r.2,
      λ s. subst (λ (y : List Item). Writes (Stated (is_in_loop outer) false) y (Assert q e Done)) (is s) (assert q r.0 p s d.spells),
      ap (λ (y : List Item). y ++ at p signs.Close ∷ []) (d.parts ∙ ap (λ (y : List Item). y ++ d.text) r.3) ∙ simp append_assoc,
    )
tested_keeps (ToChoose q outer) e p a d = let r = d.is_read in (r.0, p, r.1, d.text, r.2, d.spells, ap (λ (y : List Item). y ++ at p signs.Close ∷ []) (d.parts ∙ ap (λ (y : List Item). y ++ d.text) r.3) ∙ simp append_assoc)
tested_keeps (ToLoop q outer) e p a d =
    let r = d.is_read in
    (r.1, at q signs.While ∷ at r.0 signs.Open ∷ (d.text ++ at p signs.Close ∷ []), r.2, while_head q r.0 p d.spells, ap (λ (y : List Item). y ++ at p signs.Close ∷ []) (d.parts ∙ ap (λ (y : List Item). y ++ d.text) r.3) ∙ simp append_assoc)
tested_keeps (ToRepeat start q outer) e p a d = tt
tested_keeps (ToRedo q c z outer) e p a d =
    let r = d.is_read in
    let text : List Item = at q signs.Do ∷ (r.3 ++ at r.0 signs.While ∷ at r.1 signs.Open ∷ (d.text ++ at p signs.Close ∷ [])) in
    let is : (s : Place) → at q signs.Do ∷ (r.3 ++ at r.0 signs.While ∷ at r.1 signs.Open ∷ (d.text ++ at p signs.Close ∷ at s signs.Semicolon ∷ [])) ≡ text ++ at s signs.Semicolon ∷ [] = λ s. simp append_assoc in (
      r.2,
      text,
      r.5,
      λ s. subst (λ (y : List Item). Writes (Stated (is_in_loop outer) false) y (Do q c z e Done)) (is s) (redo_of q r.0 r.1 p s z d.text e r.6 d.spells d.leads),
      ap (λ (y : List Item). y ++ at p signs.Close ∷ []) (d.parts ∙ ap (λ (y : List Item). y ++ d.text) r.7) ∙ simp append_assoc,
    )
tested_keeps (ToReturn q outer) e p a d = tt

closed_keeps : (fs : List Frame) (u : Use) (e : Term) (p : Place) (a : List Item) → Settled u 6 (fs, e) a → IfSome (closed_by fs u e) (λ next. Stands next (a ++ at p signs.Close ∷ []))
closed_keeps [] u e p a d = tested_keeps u e p a d
closed_keeps (Paren ∷ fs) u e p a d =
    let r = d.is_read in (
      r.1,
      at r.0 signs.Open ∷ (d.text ++ at p signs.Close ∷ []),
      r.2,
      leads_more u fs (at r.0 signs.Open ∷ []) (d.text ++ at p signs.Close ∷ []) r.3,
      group r.0 p d.spells,
      ap (λ (y : List Item). y ++ at p signs.Close ∷ []) (d.parts ∙ ap (λ (y : List Item). y ++ d.text) r.4) ∙ simp append_assoc,
    )
closed_keeps (Pre v ∷ fs) u e p a d = tt
closed_keeps (Left op x ∷ fs) u e p a d = tt

-- a declarator with its initialiser, and what ends it
initialises : (kind : Qualifier) (q : Place) (x : ℕ) (scope : Scope) (e : Term) (p : Place) (s : Sign) (a : List Item) → Settled (ToInitialise kind q x scope) 6 ([], e) a → (b ts : List Item) × InDeclaration kind scope b × LocalDeclarator (initialising scope kind) ts (Assign q x e Done) × (a ++ at p s ∷ [] ≡ b ++ (ts ++ at p s ∷ []))
initialises kind q x scope e p s a d =
    let r = d.is_read in
    (r.1, at q (signs.Name x) ∷ at r.0 signs.Equals ∷ d.text, r.2, grammar.initialised q r.0 x d.spells, ap (λ (y : List Item). y ++ at p s ∷ []) (d.parts ∙ ap (λ (y : List Item). y ++ d.text) r.3) ∙ simp append_assoc)

assigned_keeps : (u : Use) (e : Term) (p : Place) (a : List Item) → Settled u 6 ([], e) a → IfSome (assigned u e) (λ next. Stands next (a ++ at p signs.Semicolon ∷ []))
assigned_keeps (ToAssign q x site) e p a d = change_ends site (Assign q x e Done) p a (assigns q x site e a d)
assigned_keeps (ToInitialise kind q x scope) e p a d = let r = initialises kind q x scope e p signs.Semicolon a d in subst (Stands (behind_declaration (with_declarator scope (Assign q x e Done)))) (sym r.4) (declaration_ends kind scope r.0 r.1 p r.2 r.3)
assigned_keeps (ToUpdate q x v site) e p a d = change_ends site (updated q x v e) p a (updates q x v site e a d)
assigned_keeps (ToAssert q outer) e p a d = tt
assigned_keeps (ToChoose q outer) e p a d = tt
assigned_keeps (ToLoop q outer) e p a d = tt
assigned_keeps (ToRepeat start q outer) e p a d =
    let r = d.is_read in
    (r.0, r.1, d.text ++ at p signs.Semicolon ∷ [], r.2, r.3, test_of q p d.text e d.spells d.leads, ap (λ (y : List Item). y ++ at p signs.Semicolon ∷ []) (d.parts ∙ ap (λ (y : List Item). y ++ d.text) r.4) ∙ simp append_assoc)
assigned_keeps (ToRedo q c z outer) e p a d = tt
assigned_keeps (ToReturn q outer) e p a d =
    let r = d.is_read in
    let text : List Item = at q signs.Return ∷ (d.text ++ at p signs.Semicolon ∷ []) in (
      r.0,
      text,
      r.1,
      piece false outer text (Leave q (Return e) Done) (return q p d.spells),
      ap (λ (y : List Item). y ++ at p signs.Semicolon ∷ []) (d.parts ∙ ap (λ (y : List Item). y ++ d.text) r.2) ∙ simp append_assoc,
    )

ended_keeps : (fs : List Frame) (u : Use) (e : Term) (p : Place) (a : List Item) → Settled u 6 (fs, e) a → IfSome (ended_by fs u e) (λ next. Stands next (a ++ at p signs.Semicolon ∷ []))
ended_keeps [] u e p a d = assigned_keeps u e p a d
ended_keeps (f ∷ fs) u e p a d = tt

initialised_keeps : (u : Use) (e : Term) (p : Place) (a : List Item) → Settled u 6 ([], e) a → IfSome (initialised u e) (λ next. Stands next (a ++ at p signs.Comma ∷ []))
initialised_keeps (ToInitialise kind q x scope) e p a d = let r = initialises kind q x scope e p signs.Comma a d in subst (InDeclaration kind (with_declarator scope (Assign q x e Done))) (sym r.4) (declaration_goes_on kind scope r.0 r.1 p r.2 r.3)
initialised_keeps (ToAssign q x outer) e p a d = tt
initialised_keeps (ToUpdate q x v outer) e p a d = tt
initialised_keeps (ToAssert q outer) e p a d = tt
initialised_keeps (ToChoose q outer) e p a d = tt
initialised_keeps (ToLoop q outer) e p a d = tt
initialised_keeps (ToRepeat start q outer) e p a d = tt
initialised_keeps (ToRedo q c z outer) e p a d = tt
initialised_keeps (ToReturn q outer) e p a d = tt

followed_keeps : (fs : List Frame) (u : Use) (e : Term) (p : Place) (a : List Item) → Settled u 6 (fs, e) a → IfSome (followed_by fs u e) (λ next. Stands next (a ++ at p signs.Comma ∷ []))
followed_keeps [] u e p a d = initialised_keeps u e p a d
followed_keeps (f ∷ fs) u e p a d = tt

pub have_keeps : (fs : List Frame) (u : Use) (e : Term) (p : Place) (s : Sign) (a : List Item) → Stands (Has fs u e) a → IfSome (have fs u e s) (λ next. Stands next (a ++ at p s ∷ []))
have_keeps fs u e p signs.Close a r = closed_keeps (settle 6 fs e).0 u (settle 6 fs e).1 p a (of_state fs u e a 6 (omega arith) r)
have_keeps fs u e p (signs.Oper op) a r =
    let d = of_state fs u e a (suc (tighter op)) (tighter_small op) r in
    ((p, d.before, d.text, d.is_read, d.leads, d.spells, d.fits, ap (λ (y : List Item). y ++ at p (signs.Oper op) ∷ []) d.parts ∙ append_assoc d.before d.text (at p (signs.Oper op) ∷ [])), λ q s. tt)
have_keeps fs u e p signs.Semicolon a r = ended_keeps (settle 6 fs e).0 u (settle 6 fs e).1 p a (of_state fs u e a 6 (omega arith) r)
have_keeps fs u e p signs.Comma a r = followed_keeps (settle 6 fs e).0 u (settle 6 fs e).1 p a (of_state fs u e a 6 (omega arith) r)
have_keeps fs u e p _ a r = tt
