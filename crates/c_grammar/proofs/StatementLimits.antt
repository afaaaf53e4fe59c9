-- In `main` each item leaves what is open within the limits.
use Rattle.std.proofs.Common.{◌≡◌, ℕ, suc, ◌+◌, ◌≤◌, ◌<◌, ltb, leb, Bool, true, false, cond, ◌&&◌, List, [], ◌∷◌, length, refl, arith}
use Rattle.std.specs.Prelude.{IfSome}
use Rattle.std.proofs.lemmas.Bool.{leb-false}
use Rattle.fam_outer.specs.declared.faults.Place.{Place}
use Rattle.c_tree.specs.declared.tree.Op.{Op}
use Rattle.c_tree.specs.declared.tree.Op.TheVariants.{Add, Sub}
use Rattle.c_tree.specs.Tree.{Term, Neg, Not, Binary, Break, Continue, Code, Done, Assign, Input, If, While, Leave, Cond}
use Rattle.c_tree.specs.Whole.{operators, nesting}
use Rattle.c_grammar.specs.declared.items.Sign.{Sign}
use Rattle.c_grammar.specs.declared.items.Sign.TheVariants as signs
use Rattle.c_grammar.specs.Grammar.{Count, Raise, Lower, tighter, updated, changed_by_one, Positive, Negative, Inverse, Qualifier, Unqualified, Constant, Counted}
use Rattle.c_grammar.specs.Machine.{Frame, Paren, Pre, Left, Stack, Top, Braces, Yes, No, ThenOf, ElseOf, LoopOf, DoOf, Start, Onward, InList, AtTest, Scope, ListScope, ForScope, Site, AsStatement, AsStart, AsStep, Use, ToAssign, ToInitialise, ToUpdate, ToAssert, ToChoose, ToLoop, ToRepeat, ToRedo, ToReturn, Pending, OfStatement, OfLocal, ReadingState, TypeWords, OneInt, OneSigned, WholeType, LocalConst, LocalType, Wants, Has, TestComes, StepComes, RedoOpens, settle, ended_change, closed_change, input_of, want, tested, closed_by, assigned, ended_by, initialised, followed_by, have, with_declarator, behind_declaration, started_by, is_in_loop, placed, else_of, opened, leaving, braced, next_part, last_part, group_end, in_list, begin, proceed, on, named, counting, changing, start_comes, test_comes, step_comes, local_end, const_word, next_local, behind_local_type, local_type, without_initialiser, local_named, finishing, start, InStatic, BehindStatic, StaticPart, BehindStaticConst, BehindStaticType, BeforeStaticName, BehindStaticName, BehindStaticEquals, BehindStaticMinus, BehindStaticNumber, static_word, behind_static_word, static_name, behind_static_type, static_type, static_end, static_bare, static_named, static_value, static_negative, static_step}
use Rattle.c_grammar.specs.Deep.{depth, onward_depth, opens_more, counted, is_long}
use Rattle.c_grammar.proofs.OpenLimits.{Fine, around_one, around_both, Fits, OnwardFits, depth_fits, linked_fits, else_fine, loop_fine, placed_fits, weight, SiteFits, IsFlat, PieceFits, flat_piece, ScopeFits, declared_fits, UseFits, PendingFits, StateFits, while_fits}

opened_fits : (n k : ℕ) (outer : Stack) → depth outer < 64 → Fits outer → IfSome (opened n outer) (λ next. StateFits next k)
unfolding StateFits
opened_fits n k (Top ds made) lt h = ((omega arith, tt), tt, h)
opened_fits n k (Braces p made outer) lt h = ((omega arith, tt), tt, h)
opened_fits n k (Yes links m made outer) lt h = ((omega arith, tt), tt, h)
opened_fits n k (No links m first made outer) lt h = ((omega arith, tt), tt, h)
opened_fits n k (ThenOf p e outer) lt h = tt
opened_fits n k (ElseOf p e first outer) lt h = tt
opened_fits n k (LoopOf _ p e advance outer) lt h = tt
opened_fits n k (DoOf p outer) lt h = tt

braced_fits : (q : Place) (k : ℕ) (outer : Stack) → Fits outer → IfSome (braced outer q) (λ next. StateFits next k)
unfolding StateFits
braced_fits q k (Top ds made) h = h
braced_fits q k (Braces p made outer) h = (h.1, (around_one (nesting made) (depth outer) h.0.0, (h.0.1, tt)))
braced_fits q k _ h = tt

-- `break` or `continue`
leaving_fits : (i : Bool) (outer : Stack) (c : Code) → Fits outer → Fine (depth outer) c → IfSome (leaving i outer c) (λ next. StateFits next 0)
unfolding StateFits SiteFits PieceFits PendingFits
leaving_fits true outer c h f = (h, f)
leaving_fits false outer c h f = tt

next_fits : (m k : ℕ) (outer : Stack) → depth outer < 64 → Fits outer → IfSome (next_part m outer) (λ next. StateFits next k)
unfolding StateFits
next_fits m k (Yes links n made outer) lt h = ((omega arith, tt), (h.0, h.1), h.2)
next_fits m k _ lt h = tt

last_fits : (k : ℕ) (outer : Stack) → Fits outer → IfSome (last_part outer) (λ next. StateFits next k)
unfolding StateFits
last_fits k (Yes links n made outer) h = ((omega (arith, h.0.0), tt), h.0, h.1, h.2)
last_fits k _ h = tt

end_fits : (k : ℕ) (outer : Stack) → Fits outer → IfSome (group_end outer) (λ next. StateFits next k)
unfolding StateFits
end_fits k (Yes links n made outer) h = (h.2, linked_fits links (depth outer) (Cond n made Done Done) h.1 (around_both (nesting made) 0 (length links + depth outer) (omega (arith, h.0.0)) (omega (arith, h.0.0)), (h.0.1, tt, tt)))
end_fits k (No links n first made outer) h = (h.3, linked_fits links (depth outer) (Cond n first made Done) h.2 (around_both (nesting first) (nesting made) (length links + depth outer) (omega (arith, h.1.0)) (omega (arith, h.0.0)), (h.1.1, h.0.1, tt)))
end_fits k _ h = tt

list_fits : (outer : Stack) (next : ReadingState) (k : ℕ) → StateFits next k → IfSome (in_list outer next) (λ n. StateFits n k)
list_fits (Top ds made) next k h = h
list_fits (Braces p made outer) next k h = h
list_fits (Yes links n made outer) next k h = h
list_fits (No links n first made outer) next k h = h
list_fits (ThenOf p e outer) next k h = tt
list_fits (ElseOf p e first outer) next k h = tt
list_fits (LoopOf _ p e advance outer) next k h = tt
list_fits (DoOf p outer) next k h = tt

pub begin_fits : (outer : Stack) (p : Place) (s : Sign) → (opens_more s && leb 64 (depth outer)) ≡ false → Fits outer → IfSome (begin outer p s) (λ next. StateFits next 0)
unfolding StateFits SiteFits IsFlat UseFits PieceFits PendingFits weight
begin_fits outer p (signs.Name x) l h = h
begin_fits outer p signs.Static l h = list_fits outer (InStatic BehindStatic outer) 0 h
begin_fits outer p signs.Const l h = list_fits outer (LocalConst (ListScope outer)) 0 h
begin_fits outer p signs.Int l h = list_fits outer (LocalType Unqualified OneInt (ListScope outer)) 0 h
begin_fits outer p signs.Int32 l h = list_fits outer (LocalType Unqualified WholeType (ListScope outer)) 0 h
begin_fits outer p signs.Signed l h = list_fits outer (LocalType Unqualified OneSigned (ListScope outer)) 0 h
begin_fits outer p signs.Input l h = (h, (depth_fits outer h, tt))
begin_fits outer p (signs.Function n) l h = (h, (depth_fits outer h, tt))
begin_fits outer p signs.Open l h = h
begin_fits outer p signs.Semicolon l h = (h, (depth_fits outer h, tt))
begin_fits outer p signs.PlusPlus l h = h
begin_fits outer p signs.MinusMinus l h = h
begin_fits outer p signs.LeftBrace l h = let lt = leb-false 64 (depth outer) l in ((omega (arith, lt), tt), h)
begin_fits outer p signs.RightBrace l h = braced_fits p 0 outer h
begin_fits outer p signs.Assert l h = h
begin_fits outer p signs.If l h = (leb-false 64 (depth outer) l, h)
begin_fits outer p signs.While l h = (leb-false 64 (depth outer) l, h)
begin_fits outer p signs.For l h = (leb-false 64 (depth outer) l, h)
begin_fits outer p signs.Do l h = (leb-false 64 (depth outer) l, h)
begin_fits outer p signs.Break l h = leaving_fits (is_in_loop outer) outer (Leave p Break Done) h (depth_fits outer h, (tt, tt))
begin_fits outer p signs.Continue l h = leaving_fits (is_in_loop outer) outer (Leave p Continue Done) h (depth_fits outer h, (tt, tt))
begin_fits outer p signs.Return l h = (h, omega arith, omega arith)
begin_fits outer p (signs.GroupIf n) l h = opened_fits n 0 outer (leb-false 64 (depth outer) l) h
begin_fits outer p (signs.GroupElif n) l h = next_fits n 0 outer (leb-false 64 (depth outer) l) h
begin_fits outer p signs.GroupElse l h = last_fits 0 outer h
begin_fits outer p signs.GroupEnd l h = end_fits 0 outer h
begin_fits outer p _ l h = tt

else_fits : (outer : Stack) (c : Code) (k : ℕ) → Fits outer → Fine (depth outer) c → IfSome (else_of outer c) (λ next. StateFits next k)
unfolding StateFits
else_fits (Top ds made) c k h i = tt
else_fits (Braces p made outer) c k h i = tt
else_fits (Yes links n made outer) c k h i = tt
else_fits (No links n first made outer) c k h i = tt
else_fits (ThenOf p e outer) c k h i = (i, h.1, h.2)
else_fits (ElseOf p e first outer) c k h i = else_fits outer (If p e first c Done) k h.2 (else_fine p e (depth outer) first c h.1 h.0 i)
else_fits (LoopOf start p e advance outer) c k h i = else_fits outer (started_by start (While p e advance c Done)) k h.4 (loop_fine start p e advance (depth outer) c h.2 h.1 h.3 i)
else_fits (DoOf p outer) c k h i = tt

proceed_fits : (o : Onward) (p : Place) (s : Sign) → (opens_more s && leb 64 (onward_depth o)) ≡ false → OnwardFits o → IfSome (proceed o p s) (λ next. StateFits next 0)
unfolding OnwardFits StateFits
proceed_fits (InList outer) p s l h = begin_fits outer p s l h
proceed_fits (AtTest q c outer) p s l h = while_fits (RedoOpens q c outer) s h

pub on_fits : (outer : Stack) (c : Code) (p : Place) (s : Sign) → (opens_more s && leb 64 (onward_depth (placed outer c))) ≡ false → Fits outer → Fine (depth outer) c → IfSome (on outer c p s) (λ next. StateFits next 0)
on_fits outer c p signs.Else l h i = else_fits outer c 0 h i
on_fits outer c p s l h i = proceed_fits (placed outer c) p s l (placed_fits outer c h i)

settled : (k : ℕ) (fs : List Frame) (e : Term) (m : ℕ) → weight fs + operators e ≤ m → weight (settle k fs e).0 + operators (settle k fs e).1 ≤ m
unfolding weight
settled k [] e m h = h
settled k (Paren ∷ fs) e m h = h
settled k (Pre Positive ∷ fs) e m h = settled k fs e m (omega arith)
settled k (Pre Negative ∷ fs) e m h = settled k fs (Neg e) m (omega arith)
settled k (Pre Inverse ∷ fs) e m h = settled k fs (Not e) m (omega arith)
settled k (Left op a ∷ fs) e m h =
    elim (ltb (tighter op) k) as (λ v. let s : List Frame × Term = cond v (settle k fs (Binary op a e)) (Left op a ∷ fs, e) in weight s.0 + operators s.1 ≤ m) [
      | true ↦ settled k fs (Binary op a e) m (omega arith)
      | false ↦ h
    ]

prefix_fits : (fs : List Frame) (u : Use) (op : Op) (k : ℕ) → UseFits u → weight fs ≤ k → suc k ≤ 64 → IfSome (want fs u (signs.Oper op)) (λ next. StateFits next (suc k))
unfolding StateFits weight
prefix_fits fs u Add k h w l = (h, omega arith, l)
prefix_fits fs u Sub k h w l = (h, omega arith, l)
prefix_fits fs u _ k h w l = tt

-- the end of a change
ended_change_fits : (site : Site) (c : Code) (k : ℕ) → SiteFits site → PieceFits site c → IfSome (ended_change site c) (λ next. StateFits next k)
unfolding StateFits SiteFits IsFlat PieceFits
ended_change_fits (AsStatement outer) c k h i = (h, i)
ended_change_fits (AsStart outer) c k h i = (h.0, (omega (arith, i.0, depth_fits outer h.1), i.1), h.1)
ended_change_fits (AsStep _ p e outer) c k h i = tt

closed_change_fits : (site : Site) (c : Code) (k : ℕ) → SiteFits site → PieceFits site c → IfSome (closed_change site c) (λ next. StateFits next k)
unfolding StateFits SiteFits IsFlat PieceFits
closed_change_fits (AsStatement outer) c k h i = tt
closed_change_fits (AsStart outer) c k h i = tt
closed_change_fits (AsStep start p e outer) c k h i = (h.0, h.1, h.2, (omega (arith, i.0, h.0), i.1), h.3)

input_fits : (fs : List Frame) (u : Use) (k : ℕ) → UseFits u → IfSome (input_of fs u) (λ next. StateFits next k)
unfolding StateFits IsFlat UseFits PendingFits
input_fits [] (ToAssign p x site) k h = (h, flat_piece site (Input p x Done) h (refl, tt))
input_fits [] (ToInitialise kind p x scope) k h = (h, (refl, tt))
input_fits _ _ k h = tt

pub want_fits : (fs : List Frame) (u : Use) (p : Place) (s : Sign) (k : ℕ) → is_long (Wants fs u) s k ≡ false → StateFits (Wants fs u) k → IfSome (want fs u s) (λ next. StateFits next (counted (Wants fs u) s k))
unfolding StateFits weight
want_fits fs u p (signs.Number n) k l h = (h.0, omega (arith, h.1), h.2)
want_fits fs u p (signs.Name x) k l h = (h.0, omega (arith, h.1), h.2)
want_fits fs u p signs.Open k l h = let lt = leb-false 65 (suc k) l in (h.0, omega (arith, h.1), omega (arith, lt))
want_fits fs u p signs.Bang k l h = let lt = leb-false 65 (suc k) l in (h.0, omega (arith, h.1), omega (arith, lt))
want_fits fs u p (signs.Oper op) k l h = let lt = leb-false 65 (suc k) l in prefix_fits fs u op k h.0 h.1 (omega (arith, lt))
want_fits fs u p signs.Input k l h = input_fits fs u k h.0
want_fits fs u p (signs.Function n) k l h = input_fits fs u k h.0
want_fits fs u p _ k l h = tt

tested_fits : (u : Use) (e : Term) (k : ℕ) → UseFits u → operators e ≤ 64 → IfSome (tested u e) (λ next. StateFits next k)
unfolding StateFits SiteFits IsFlat PieceFits UseFits PendingFits
tested_fits (ToAssign p x site) e k h w = closed_change_fits site (Assign p x e Done) k h (flat_piece site (Assign p x e Done) h (refl, (omega arith, tt)))
tested_fits (ToInitialise kind p x scope) e k h w = tt
tested_fits (ToUpdate p x u site) e k h w = closed_change_fits site (updated p x u e) k h (flat_piece site (updated p x u e) h (refl, (omega arith, tt)))
tested_fits (ToAssert p outer) e k h w = (h, (depth_fits outer h, (w, tt)))
tested_fits (ToChoose p outer) e k h w = (h.0, w, h.1)
tested_fits (ToLoop p outer) e k h w = (h.0, w, (depth_fits outer h.1, tt), (omega (arith, h.0), tt), h.1)
tested_fits (ToRepeat _ p outer) e k h w = tt
tested_fits (ToRedo p c q outer) e k h w = (h.1, (around_one (nesting c) (depth outer) h.0.0, (w, h.0.1, tt)))
tested_fits (ToReturn p outer) e k h w = tt

closed_fits : (fs : List Frame) (u : Use) (e : Term) (k : ℕ) → UseFits u → weight fs + operators e ≤ k → k ≤ 64 → IfSome (closed_by fs u e) (λ next. StateFits next k)
unfolding StateFits weight
closed_fits [] u e k h w l = tested_fits u e k h (omega arith)
closed_fits (Paren ∷ fs) u e k h w l = (h, w, l)
closed_fits (Pre v ∷ fs) u e k h w l = tt
closed_fits (Left op a ∷ fs) u e k h w l = tt

-- the end of a declaration
behind_fits : (scope : Scope) (k : ℕ) → ScopeFits scope → StateFits (behind_declaration scope) k
unfolding StateFits
behind_fits (ListScope outer) k h = h
behind_fits (ForScope p made outer) k h = h

assigned_fits : (u : Use) (e : Term) (k : ℕ) → UseFits u → operators e ≤ 64 → IfSome (assigned u e) (λ next. StateFits next k)
unfolding StateFits SiteFits IsFlat UseFits
assigned_fits (ToAssign p x site) e k h w = ended_change_fits site (Assign p x e Done) k h (flat_piece site (Assign p x e Done) h (refl, (omega arith, tt)))
assigned_fits (ToInitialise kind p x scope) e k h w = behind_fits (with_declarator scope (Assign p x e Done)) k (declared_fits scope (Assign p x e Done) h (refl, (omega arith, tt)))
assigned_fits (ToUpdate p x u site) e k h w = ended_change_fits site (updated p x u e) k h (flat_piece site (updated p x u e) h (refl, (omega arith, tt)))
assigned_fits (ToAssert p outer) e k h w = tt
assigned_fits (ToChoose p outer) e k h w = tt
assigned_fits (ToLoop p outer) e k h w = tt
assigned_fits (ToRepeat _ p outer) e k h w = (h.0, w, h.1, h.2)
assigned_fits (ToRedo p c q outer) e k h w = tt
assigned_fits (ToReturn p outer) e k h w = (h, (depth_fits outer h, (w, tt)))

ended_fits : (fs : List Frame) (u : Use) (e : Term) (k : ℕ) → UseFits u → weight fs + operators e ≤ k → k ≤ 64 → IfSome (ended_by fs u e) (λ next. StateFits next k)
unfolding weight
ended_fits [] u e k h w l = assigned_fits u e k h (omega arith)
ended_fits (f ∷ fs) u e k h w l = tt

initialised_fits : (u : Use) (e : Term) (k : ℕ) → UseFits u → operators e ≤ 64 → IfSome (initialised u e) (λ next. StateFits next k)
unfolding StateFits IsFlat UseFits
initialised_fits (ToInitialise kind p x scope) e k h w = declared_fits scope (Assign p x e Done) h (refl, (omega arith, tt))
initialised_fits (ToAssign p x site) e k h w = tt
initialised_fits (ToUpdate p x u site) e k h w = tt
initialised_fits (ToAssert p outer) e k h w = tt
initialised_fits (ToChoose p outer) e k h w = tt
initialised_fits (ToLoop p outer) e k h w = tt
initialised_fits (ToRepeat _ p outer) e k h w = tt
initialised_fits (ToRedo p c q outer) e k h w = tt
initialised_fits (ToReturn p outer) e k h w = tt

followed_fits : (fs : List Frame) (u : Use) (e : Term) (k : ℕ) → UseFits u → weight fs + operators e ≤ k → k ≤ 64 → IfSome (followed_by fs u e) (λ next. StateFits next k)
unfolding weight
followed_fits [] u e k h w l = initialised_fits u e k h (omega arith)
followed_fits (f ∷ fs) u e k h w l = tt

pub have_fits : (fs : List Frame) (u : Use) (e : Term) (p : Place) (s : Sign) (k : ℕ) → is_long (Has fs u e) s k ≡ false → StateFits (Has fs u e) k → IfSome (have fs u e s) (λ next. StateFits next (counted (Has fs u e) s k))
unfolding StateFits weight
have_fits fs u e p signs.Close k l h = closed_fits (settle 6 fs e).0 u (settle 6 fs e).1 k h.0 (settled 6 fs e k h.1) h.2
have_fits fs u e p (signs.Oper op) k l h =
    let lt = leb-false 65 (suc k) l in
    let w = settled (suc (tighter op)) fs e k h.1 in
    (h.0, omega (arith, w), omega (arith, lt))
have_fits fs u e p signs.Semicolon k l h = ended_fits (settle 6 fs e).0 u (settle 6 fs e).1 k h.0 (settled 6 fs e k h.1) h.2
have_fits fs u e p signs.Comma k l h = followed_fits (settle 6 fs e).0 u (settle 6 fs e).1 k h.0 (settled 6 fs e k h.1) h.2
have_fits fs u e p _ k l h = tt

pub named_fits : (q : Place) (x : ℕ) (site : Site) (s : Sign) → SiteFits site → IfSome (named q x site s) (λ next. StateFits next 0)
unfolding StateFits IsFlat UseFits PendingFits weight
named_fits q x site signs.Equals h = (h, omega arith, omega arith)
named_fits q x site signs.PlusEquals h = (h, omega arith, omega arith)
named_fits q x site signs.MinusEquals h = (h, omega arith, omega arith)
named_fits q x site signs.StarEquals h = (h, omega arith, omega arith)
named_fits q x site signs.SlashEquals h = (h, omega arith, omega arith)
named_fits q x site signs.PercentEquals h = (h, omega arith, omega arith)
named_fits q x site signs.PlusPlus h = (h, flat_piece site (changed_by_one q x Raise) h (refl, (omega arith, tt)))
named_fits q x site signs.MinusMinus h = (h, flat_piece site (changed_by_one q x Lower) h (refl, (omega arith, tt)))
named_fits q x site _ h = tt

pub counting_fits : (q : Place) (u : Count) (site : Site) (s : Sign) → SiteFits site → IfSome (counting q u site s) (λ next. StateFits next 0)
unfolding StateFits IsFlat PendingFits
counting_fits q u site (signs.Name x) h = (h, flat_piece site (changed_by_one q x u) h (refl, (omega arith, tt)))
counting_fits q u site _ h = tt

-- what stands in the parentheses of a `for`
changing_fits : (site : Site) (p : Place) (s : Sign) → SiteFits site → IfSome (changing site p s) (λ next. StateFits next 0)
unfolding StateFits
changing_fits site p (signs.Name x) h = h
changing_fits site p signs.PlusPlus h = h
changing_fits site p signs.MinusMinus h = h
changing_fits site p _ h = tt

pub start_fits : (o : Place) (outer : Stack) (p : Place) (s : Sign) → suc (depth outer) ≤ 64 → Fits outer → IfSome (start_comes o outer p s) (λ next. StateFits next 0)
unfolding StateFits SiteFits
start_fits o outer p signs.Semicolon le h = (le, (depth_fits outer h, tt), h)
start_fits o outer p signs.Const le h = (le, (omega (arith, le), tt), h)
start_fits o outer p signs.Int le h = (le, (omega (arith, le), tt), h)
start_fits o outer p signs.Int32 le h = (le, (omega (arith, le), tt), h)
start_fits o outer p signs.Signed le h = (le, (omega (arith, le), tt), h)
start_fits o outer p s le h = changing_fits (AsStart outer) p s (le, h)

pub test_fits : (start : Start) (outer : Stack) (p : Place) (s : Sign) (k : ℕ) → is_long (TestComes start outer) s k ≡ false → StateFits (TestComes start outer) k → IfSome (test_comes start outer p s) (λ next. StateFits next (counted (TestComes start outer) s k))
unfolding StateFits UseFits weight
test_fits start outer p signs.Semicolon k l h = (h.0, omega arith, h.1, h.2)
test_fits start outer p s k l h = want_fits [] (ToRepeat start p outer) p s 0 l (h, omega arith, omega arith)

pub step_part_fits : (start : Start) (p : Place) (e : Term) (outer : Stack) (q : Place) (s : Sign) → StateFits (StepComes start p e outer) 0 → IfSome (step_comes start p e outer q s) (λ next. StateFits next 0)
unfolding StateFits SiteFits
step_part_fits start p e outer q signs.Close h = (h.0, h.1, h.2, (omega (arith, h.0), tt), h.3)
step_part_fits start p e outer q s h = changing_fits (AsStep start p e outer) q s h

local_end_fits : (kind : Qualifier) (scope : Scope) (c : Code) (s : Sign) → ScopeFits scope → IsFlat c → IfSome (local_end kind scope c s) (λ next. StateFits next 0)
unfolding StateFits
local_end_fits kind scope c signs.Semicolon h i = behind_fits (with_declarator scope c) 0 (declared_fits scope c h i)
local_end_fits kind scope c signs.Comma h i = declared_fits scope c h i
local_end_fits kind scope c _ h i = tt

pub const_word_fits : (scope : Scope) (s : Sign) → ScopeFits scope → IfSome (const_word scope s) (λ next. StateFits next 0)
unfolding StateFits
const_word_fits scope signs.Int h = h
const_word_fits scope signs.Int32 h = h
const_word_fits scope signs.Signed h = h
const_word_fits scope _ h = tt

pub next_local_fits : (kind : Qualifier) (scope : Scope) (p : Place) (s : Sign) → ScopeFits scope → IfSome (next_local kind scope p s) (λ next. StateFits next 0)
unfolding StateFits
next_local_fits kind scope p (signs.Name x) h = h
next_local_fits kind scope p _ h = tt

behind_local_type_fits : (kind : Qualifier) (scope : Scope) (p : Place) (s : Sign) → ScopeFits scope → IfSome (behind_local_type kind scope p s) (λ next. StateFits next 0)
unfolding StateFits
behind_local_type_fits Unqualified scope p signs.Const h = h
behind_local_type_fits kind scope p s h = next_local_fits kind scope p s h

pub local_type_fits : (kind : Qualifier) (scope : Scope) (p : Place) (s : Sign) (words : TypeWords) → ScopeFits scope → IfSome (local_type kind scope p s words) (λ next. StateFits next 0)
unfolding StateFits
local_type_fits kind scope p signs.Signed OneInt h = h
local_type_fits kind scope p signs.Int OneSigned h = h
local_type_fits kind scope p s words h = behind_local_type_fits kind scope p s h

uninitialised_fits : (kind : Qualifier) (p : Place) (x : ℕ) (scope : Scope) (s : Sign) → ScopeFits scope → IfSome (without_initialiser kind p x scope s) (λ next. StateFits next 0)
unfolding IsFlat
uninitialised_fits Unqualified p x scope s h = local_end_fits Unqualified scope (Input p x Done) s h (refl, tt)
uninitialised_fits kind p x scope s h = tt

-- in a static declaration of `main`
word_fits : (kind : Qualifier) (outer : Stack) (s : Sign) → Fits outer → IfSome (static_word kind outer s) (λ next. StateFits next 0)
unfolding StateFits
word_fits kind outer signs.Int h = h
word_fits kind outer signs.Int32 h = h
word_fits kind outer signs.Signed h = h
word_fits kind outer _ h = tt

static_name_fits : (kind : Qualifier) (outer : Stack) (s : Sign) → Fits outer → IfSome (static_name kind outer s) (λ next. StateFits next 0)
unfolding StateFits
static_name_fits kind outer (signs.Name x) h = h
static_name_fits kind outer _ h = tt

behind_static_fits : (kind : Qualifier) (outer : Stack) (s : Sign) → Fits outer → IfSome (behind_static_type kind outer s) (λ next. StateFits next 0)
unfolding StateFits
behind_static_fits Unqualified outer signs.Const h = h
behind_static_fits kind outer s h = static_name_fits kind outer s h

static_type_fits : (kind : Qualifier) (outer : Stack) (s : Sign) (words : TypeWords) → Fits outer → IfSome (static_type kind outer s words) (λ next. StateFits next 0)
unfolding StateFits
static_type_fits kind outer signs.Signed OneInt h = h
static_type_fits kind outer signs.Int OneSigned h = h
static_type_fits kind outer s words h = behind_static_fits kind outer s h

static_end_fits : (kind : Qualifier) (outer : Stack) (s : Sign) → Fits outer → IfSome (static_end kind outer s) (λ next. StateFits next 0)
unfolding StateFits
static_end_fits kind outer signs.Semicolon h = h
static_end_fits kind outer signs.Comma h = h
static_end_fits kind outer _ h = tt

static_bare_fits : (kind : Qualifier) (outer : Stack) (s : Sign) → Fits outer → IfSome (static_bare kind outer s) (λ next. StateFits next 0)
static_bare_fits Unqualified outer s h = static_end_fits Unqualified outer s h
static_bare_fits Constant outer s h = tt
static_bare_fits (Counted last) outer s h = tt

static_named_fits : (kind : Qualifier) (outer : Stack) (s : Sign) → Fits outer → IfSome (static_named kind outer s) (λ next. StateFits next 0)
unfolding StateFits
static_named_fits kind outer signs.Equals h = h
static_named_fits kind outer s h = static_bare_fits kind outer s h

static_value_fits : (kind : Qualifier) (outer : Stack) (s : Sign) → Fits outer → IfSome (static_value kind outer s) (λ next. StateFits next 0)
unfolding StateFits
static_value_fits kind outer (signs.Number n) h = h
static_value_fits kind outer (signs.Oper Sub) h = h
static_value_fits kind outer _ h = tt

static_negative_fits : (kind : Qualifier) (outer : Stack) (s : Sign) → Fits outer → IfSome (static_negative kind outer s) (λ next. StateFits next 0)
unfolding StateFits
static_negative_fits kind outer (signs.Number n) h = h
static_negative_fits kind outer _ h = tt

behind_word_fits : (outer : Stack) (s : Sign) → Fits outer → IfSome (behind_static_word outer s) (λ next. StateFits next 0)
unfolding StateFits
behind_word_fits outer signs.Const h = h
behind_word_fits outer s h = word_fits Unqualified outer s h

pub static_part_fits : (part : StaticPart) (outer : Stack) (s : Sign) → Fits outer → IfSome (static_step part outer s) (λ next. StateFits next 0)
static_part_fits BehindStatic outer s h = behind_word_fits outer s h
static_part_fits BehindStaticConst outer s h = word_fits Constant outer s h
static_part_fits (BehindStaticType kind words) outer s h = static_type_fits kind outer s words h
static_part_fits (BeforeStaticName kind) outer s h = static_name_fits kind outer s h
static_part_fits (BehindStaticName kind) outer s h = static_named_fits kind outer s h
static_part_fits (BehindStaticEquals kind) outer s h = static_value_fits kind outer s h
static_part_fits (BehindStaticMinus kind) outer s h = static_negative_fits kind outer s h
static_part_fits (BehindStaticNumber kind) outer s h = static_end_fits kind outer s h

pub local_named_fits : (kind : Qualifier) (p : Place) (x : ℕ) (scope : Scope) (s : Sign) → ScopeFits scope → IfSome (local_named kind p x scope s) (λ next. StateFits next 0)
unfolding StateFits UseFits weight
local_named_fits kind p x scope signs.Equals h = (h, omega arith, omega arith)
local_named_fits kind p x scope s h = uninitialised_fits kind p x scope s h

pub finishing_fits : (made : Pending) (s : Sign) → PendingFits made → IfSome (finishing made s) (λ n. StateFits n 0)
unfolding StateFits PendingFits
finishing_fits (OfStatement site c) signs.Semicolon h = ended_change_fits site c 0 h.0 h.1
finishing_fits (OfStatement site c) signs.Close h = closed_change_fits site c 0 h.0 h.1
finishing_fits (OfStatement site c) _ h = tt
finishing_fits (OfLocal kind scope c) s h = local_end_fits kind scope c s h.0 h.1
