-- What is spelled within the limits is read within them: single tokens, full expressions, and changes of a variable, also in
-- the parentheses of a `for`.
use Rattle.std.proofs.Common.{◌≡◌, ℕ, pos, suc, ◌+◌, ◌≤◌, Bool, true, false, ◌&&◌, ◌||◌, List, [], ◌∷◌, ◌++◌, length, Option, Some, refl, sym, ap, subst, ◌∙◌, append_assoc, arith}
use Rattle.std.proofs.lemmas.Bool.{lt-leb}
use Rattle.std.specs.Prelude.{nat_le, if◌then◌else◌}
use Rattle.fam_outer.specs.declared.faults.Place.{Place}
use Rattle.c_tree.specs.Tree.{Term, Number, Code, Done, Assign, Input, Skip}
use Rattle.c_grammar.specs.declared.items.Sign.{Sign}
use Rattle.c_grammar.specs.declared.items.Sign.TheVariants as signs
use Rattle.c_grammar.specs.declared.items.Item.{Item}
use Rattle.c_grammar.specs.Ahead.{IsLooser, IsList, NoElse}
use Rattle.c_grammar.specs.Grammar.{at, Update, Sum, Difference, Product, Quotient, Remainder, update_sign, updated, Count, Raise, Lower, count_sign, changed_by_one, Callable, of_input, of_function}
use Rattle.c_grammar.specs.Machine.{Stack, Top, Braces, Yes, No, ThenOf, ElseOf, LoopOf, DoOf, Start, ChangeStart, DeclaredStart, Scope, ListScope, ForScope, Site, AsStatement, AsStart, AsStep, Use, ToAssign, ToUpdate, ToRepeat, Pending, OfStatement, ReadingState, Ready, Ended, Wants, Has, Counting, Named, Opens, ForOpens, StartComes, TestComes, StepComes, CallComes, CallOpens, CallCloses, Finishing, folded, behind_declaration, input_of, step}
use Rattle.c_grammar.specs.Deep.{depth, onward_depth, opens_more, around, in_expression, so_far, is_operator, counted, is_deep, is_nested, went, guarded}
use Rattle.c_grammar.specs.Within.{operators_in, Full, ChangesWithin, assignment, input_taken, compound_assignment, count_behind, count_before, ClauseWithin, no_clause, clause, TestsWithin, no_test, test}
use Rattle.c_grammar.proofs.StatementEnds.{placed_list, fold_step}
use Rattle.c_grammar.proofs.CompleteChanges.{comes, IsNoSemicolon, expr_no_semicolon, test_step}
use Rattle.c_grammar.proofs.CompleteWithin.{same_within, takes, expresses_within}

never : (b : Bool) → (b && false) ≡ false
never true = refl
never false = refl

-- outside expressions nothing is counted
pub uncounted : (state : ReadingState) (n : ℕ) (w : List Item) → in_expression state ≡ false → guarded state n w ≡ guarded state 0 w
unfolding guarded
uncounted state n [] i = refl
uncounted state n (x ∷ v) i =
    let count : ℕ → Bool → ℕ = λ c y. if y then (if is_operator x.sign then suc c else c) else 0 in
    ap (λ (y : Bool). went (step state x.place x.sign) (is_nested state x.sign || nat_le 65 (count (so_far state n) y)) (λ next. guarded next (count (so_far state n) y) v) (suc (length v))) i
    ∙ sym (ap (λ (y : Bool). went (step state x.place x.sign) (is_nested state x.sign || nat_le 65 (count (so_far state 0) y)) (λ next. guarded next (count (so_far state 0) y) v) (suc (length v))) i)

-- the test of a `for` is counted anew
pub counted_anew : (start : Start) (outer : Stack) (n : ℕ) (w : List Item) → guarded (TestComes start outer) n w ≡ guarded (TestComes start outer) 0 w
unfolding guarded
counted_anew start outer n [] = refl
counted_anew start outer n (x ∷ v) = refl

-- behind a declaration nothing is counted yet
pub behind_counts : (scope : Scope) (n : ℕ) (w : List Item) → guarded (behind_declaration scope) n w ≡ guarded (behind_declaration scope) 0 w
behind_counts (ListScope outer) n w = uncounted (Ready outer) n w refl
behind_counts (ForScope p made outer) n w = counted_anew (DeclaredStart p made) outer n w

-- an item that may open more
pub opens_in : (state next : ReadingState) (p : Place) (s : Sign) (n : ℕ) (w : List Item) → step state p s ≡ Some next → in_expression state ≡ false → suc (around state) ≤ 64 → guarded state n (at p s ∷ w) ≡ guarded next 0 w
unfolding guarded
opens_in state next p s n w is i h =
    let at_count : Bool → ℕ = λ y. if y then (if is_operator s then suc (so_far state n) else so_far state n) else 0 in
    ap (λ (o : Option ReadingState). went o (is_deep state s n) (λ k. guarded k (counted state s n) w) (suc (length w))) is
    ∙ ap (λ (y : Bool). went (Some next) (is_nested state s || nat_le 65 (at_count y)) (λ k. guarded k (at_count y) w) (suc (length w))) i
    ∙ ap (λ (y : Bool). went (Some next) ((opens_more s && y) || nat_le 65 0) (λ k. guarded k 0 w) (suc (length w))) (lt-leb 64 (around state) (omega (arith, h)))
    ∙ ap (λ (y : Bool). went (Some next) (y || nat_le 65 0) (λ k. guarded k 0 w) (suc (length w))) (never (opens_more s))

pub folds_in : (outer : Stack) (c : Code) (n : ℕ) (w : List Item) → IsList outer → NoElse w → guarded (Ended outer c) n w ≡ guarded (Ready (folded outer c)) n w
folds_in outer c n w list h =
    let alike : around (Ended outer c) ≡ around (Ready (folded outer c)) = ap onward_depth (placed_list outer c list) in
    same_within (Ended outer c) (Ready (folded outer c)) n refl alike refl refl w (λ x y is. fold_step outer c x.place x.sign list (subst NoElse is h))

pub depth_folded : (outer : Stack) (c : Code) → IsList outer → depth (folded outer c) ≡ depth outer
depth_folded (Top ds made) c is = refl
depth_folded (Braces p made outer) c is = refl
depth_folded (Yes links n made outer) c is = refl
depth_folded (No links n first made outer) c is = refl
depth_folded (ThenOf p e outer) c is = absurd is
depth_folded (ElseOf p e first outer) c is = absurd is
depth_folded (LoopOf start p e advance outer) c is = absurd is
depth_folded (DoOf p outer) c is = absurd is

pub group_in : (p : Place) (n : ℕ) (outer : Stack) (m : ℕ) (w : List Item) → IsList outer → suc (depth outer) ≤ 64 → guarded (Ready outer) m (at p (signs.GroupIf n) ∷ w) ≡ guarded (Ready (Yes [] n Done outer)) 0 w
group_in p n (Top ds made) m w is h = opens_in (Ready (Top ds made)) (Ready (Yes [] n Done (Top ds made))) p (signs.GroupIf n) m w refl refl h
group_in p n (Braces q made outer) m w is h = opens_in (Ready (Braces q made outer)) (Ready (Yes [] n Done (Braces q made outer))) p (signs.GroupIf n) m w refl refl h
group_in p n (Yes links i made outer) m w is h = opens_in (Ready (Yes links i made outer)) (Ready (Yes [] n Done (Yes links i made outer))) p (signs.GroupIf n) m w refl refl h
group_in p n (No links i first made outer) m w is h = opens_in (Ready (No links i first made outer)) (Ready (Yes [] n Done (No links i first made outer))) p (signs.GroupIf n) m w refl refl h
group_in p n (ThenOf q e outer) m w is h = absurd is
group_in p n (ElseOf q e first outer) m w is h = absurd is
group_in p n (LoopOf start q e advance outer) m w is h = absurd is
group_in p n (DoOf q outer) m w is h = absurd is

-- behind a full expression
pub full_in : {ts : List Item} {e : Term} → Full ts e → (u : Use) (x : Item) (us w : List Item) → IsLooser 6 x.sign → guarded (Wants [] u) 0 ((ts ++ x ∷ us) ++ w) ≡ guarded (Has [] u e) (operators_in ts + 0) (x ∷ (us ++ w))
full_in {ts} {e} s u x us w h = ap (guarded (Wants [] u) 0) (append_assoc ts (x ∷ us) w) ∙ expresses_within s.expresses [] u (omega arith) 0 (operators_in ts + 0) refl (omega (arith, s.short)) (x ∷ (us ++ w)) h

pub then_in : {ts : List Item} {e : Term} → Full ts e → (u : Use) (x : Item) (w : List Item) → IsLooser 6 x.sign → guarded (Wants [] u) 0 (ts ++ x ∷ w) ≡ guarded (Has [] u e) (operators_in ts + 0) (x ∷ w)
then_in {ts} {e} s u x w h = expresses_within s.expresses [] u (omega arith) 0 (operators_in ts + 0) refl (omega (arith, s.short)) (x ∷ w) h

none_yet : 0 ≤ 64
none_yet = omega arith

-- a token that opens nothing, outside expressions
pub token : (state next : ReadingState) (p : Place) (s : Sign) (n : ℕ) (w : List Item) → step state p s ≡ Some next → opens_more s ≡ false → counted state s n ≡ 0 → guarded state n (at p s ∷ w) ≡ guarded next 0 w
token state next p s n w is o c = takes state next p s n 0 w is o c none_yet

-- the token behind a full expression
pub last_token : {ts : List Item} {e : Term} → Full ts e → (u : Use) (next : ReadingState) (p : Place) (s : Sign) (w : List Item) → step (Has [] u e) p s ≡ Some next → opens_more s ≡ false → counted (Has [] u e) s (operators_in ts + 0) ≡ operators_in ts + 0 → in_expression next ≡ false → guarded (Has [] u e) (operators_in ts + 0) (at p s ∷ w) ≡ guarded next 0 w
last_token {ts} {e} f u next p s w is o c i = takes (Has [] u e) next p s (operators_in ts + 0) (operators_in ts + 0) w is o c (omega (arith, f.short)) ∙ uncounted next (operators_in ts + 0) w i

pub updates_in : (p q : Place) (x : ℕ) (u : Update) (site : Site) (w : List Item) → guarded (Named p x site) 0 (at q (update_sign u) ∷ w) ≡ guarded (Wants [] (ToUpdate p x u site)) 0 w
updates_in p q x Sum site w = token (Named p x site) (Wants [] (ToUpdate p x Sum site)) q signs.PlusEquals 0 w refl refl refl
updates_in p q x Difference site w = token (Named p x site) (Wants [] (ToUpdate p x Difference site)) q signs.MinusEquals 0 w refl refl refl
updates_in p q x Product site w = token (Named p x site) (Wants [] (ToUpdate p x Product site)) q signs.StarEquals 0 w refl refl refl
updates_in p q x Quotient site w = token (Named p x site) (Wants [] (ToUpdate p x Quotient site)) q signs.SlashEquals 0 w refl refl refl
updates_in p q x Remainder site w = token (Named p x site) (Wants [] (ToUpdate p x Remainder site)) q signs.PercentEquals 0 w refl refl refl

counts_in : (p q : Place) (x : ℕ) (u : Count) (site : Site) (w : List Item) → guarded (Named p x site) 0 (at q (count_sign u) ∷ w) ≡ guarded (Finishing (OfStatement site (changed_by_one p x u))) 0 w
counts_in p q x Raise site w = token (Named p x site) (Finishing (OfStatement site (changed_by_one p x Raise))) q signs.PlusPlus 0 w refl refl refl
counts_in p q x Lower site w = token (Named p x site) (Finishing (OfStatement site (changed_by_one p x Lower))) q signs.MinusMinus 0 w refl refl refl

-- where a change begins
pub named_in : (o p : Place) (x : ℕ) (site : Site) (m : ℕ) (w : List Item) → guarded (comes o site) m (at p (signs.Name x) ∷ w) ≡ guarded (Named p x site) 0 w
named_in o p x (AsStatement outer) m w = token (Ready outer) (Named p x (AsStatement outer)) p (signs.Name x) m w refl refl refl
named_in o p x (AsStart outer) m w = token (StartComes o outer) (Named p x (AsStart outer)) p (signs.Name x) m w refl refl refl
named_in o p x (AsStep start q e outer) m w = token (StepComes start q e outer) (Named p x (AsStep start q e outer)) p (signs.Name x) m w refl refl refl

counting_in : (o p : Place) (u : Count) (site : Site) (m : ℕ) (w : List Item) → guarded (comes o site) m (at p (count_sign u) ∷ w) ≡ guarded (Counting p u site) 0 w
counting_in o p Raise (AsStatement outer) m w = token (Ready outer) (Counting p Raise (AsStatement outer)) p signs.PlusPlus m w refl refl refl
counting_in o p Raise (AsStart outer) m w = token (StartComes o outer) (Counting p Raise (AsStart outer)) p signs.PlusPlus m w refl refl refl
counting_in o p Raise (AsStep start q e outer) m w = token (StepComes start q e outer) (Counting p Raise (AsStep start q e outer)) p signs.PlusPlus m w refl refl refl
counting_in o p Lower (AsStatement outer) m w = token (Ready outer) (Counting p Lower (AsStatement outer)) p signs.MinusMinus m w refl refl refl
counting_in o p Lower (AsStart outer) m w = token (StartComes o outer) (Counting p Lower (AsStart outer)) p signs.MinusMinus m w refl refl refl
counting_in o p Lower (AsStep start q e outer) m w = token (StepComes start q e outer) (Counting p Lower (AsStep start q e outer)) p signs.MinusMinus m w refl refl refl

-- what ends a change where it stands, and what comes then
abbrev pub last_sign : Site → Sign
last_sign (AsStatement outer) = signs.Semicolon
last_sign (AsStart outer) = signs.Semicolon
last_sign (AsStep start p e outer) = signs.Close

abbrev pub then_comes : Site → Code → ReadingState
then_comes (AsStatement outer) c = Ended outer c
then_comes (AsStart outer) c = TestComes (ChangeStart c) outer
then_comes (AsStep start p e outer) c = Ready (LoopOf start p e c outer)

pub finished_in : (site : Site) (c : Code) (z : Place) (w : List Item) → guarded (Finishing (OfStatement site c)) 0 (at z (last_sign site) ∷ w) ≡ guarded (then_comes site c) 0 w
finished_in (AsStatement outer) c z w = token (Finishing (OfStatement (AsStatement outer) c)) (Ended outer c) z signs.Semicolon 0 w refl refl refl
finished_in (AsStart outer) c z w = token (Finishing (OfStatement (AsStart outer) c)) (TestComes (ChangeStart c) outer) z signs.Semicolon 0 w refl refl refl
finished_in (AsStep start p e outer) c z w = token (Finishing (OfStatement (AsStep start p e outer) c)) (Ready (LoopOf start p e c outer)) z signs.Close 0 w refl refl refl

-- a full expression behind which a change ends
change_end_in : {ts : List Item} {e : Term} → Full ts e → (u : Use) (site : Site) (c : Code) (z : Place) (w : List Item) → step (Has [] u e) z (last_sign site) ≡ Some (then_comes site c)
    → guarded (Wants [] u) 0 (ts ++ at z (last_sign site) ∷ w) ≡ guarded (then_comes site c) 0 w
change_end_in f u (AsStatement outer) c z w is = then_in f u (at z signs.Semicolon) w tt ∙ last_token f u (Ended outer c) z signs.Semicolon w is refl refl refl
change_end_in {ts} {e} f u (AsStart outer) c z w is =
    then_in f u (at z signs.Semicolon) w tt
    ∙ takes (Has [] u e) (TestComes (ChangeStart c) outer) z signs.Semicolon (operators_in ts + 0) (operators_in ts + 0) w is refl refl (omega (arith, f.short))
    ∙ counted_anew (ChangeStart c) outer (operators_in ts + 0) w
change_end_in f u (AsStep start p q outer) c z w is = then_in f u (at z signs.Close) w tt ∙ last_token f u (Ready (LoopOf start p q c outer)) z signs.Close w is refl refl refl

pub assigned_there : (p z : Place) (x : ℕ) (e : Term) (site : Site) → step (Has [] (ToAssign p x site) e) z (last_sign site) ≡ Some (then_comes site (Assign p x e Done))
assigned_there p z x e (AsStatement outer) = refl
assigned_there p z x e (AsStart outer) = refl
assigned_there p z x e (AsStep start q t outer) = refl

pub updated_there : (p z : Place) (x : ℕ) (u : Update) (e : Term) (site : Site) → step (Has [] (ToUpdate p x u site) e) z (last_sign site) ≡ Some (then_comes site (updated p x u e))
updated_there p z x u e (AsStatement outer) = refl
updated_there p z x u e (AsStart outer) = refl
updated_there p z x u e (AsStep start q t outer) = refl

-- a name, a word or a sign with which a statement begins, and an opening parenthesis
pub head_in : (u : Use) (outer : Stack) (p q : Place) (s : Sign) (n : ℕ) (w : List Item) → step (Ready outer) p s ≡ Some (Opens u) → suc (depth outer) ≤ 64 → guarded (Ready outer) n (at p s ∷ at q signs.Open ∷ w) ≡ guarded (Wants [] u) 0 w
head_in u outer p q s n w is h = opens_in (Ready outer) (Opens u) p s n (at q signs.Open ∷ w) is refl h ∙ token (Opens u) (Wants [] u) q signs.Open 0 w refl refl refl

-- the word `for` and an opening parenthesis
pub for_in : (outer : Stack) (p q : Place) (n : ℕ) (w : List Item) → suc (depth outer) ≤ 64 → guarded (Ready outer) n (at p signs.For ∷ at q signs.Open ∷ w) ≡ guarded (StartComes p outer) 0 w
for_in outer p q n w h = opens_in (Ready outer) (ForOpens p outer) p signs.For n (at q signs.Open ∷ w) refl refl h ∙ token (ForOpens p outer) (StartComes p outer) q signs.Open 0 w refl refl refl

-- a call from the name of the function on: as an input, as a statement, and behind `(void)`
pub input_in : {f : Sign} (u : Use) (made : Pending) (r : Place) (w : List Item) → input_of [] u ≡ Some (CallOpens made) → Callable f → guarded (Wants [] u) 0 (at r f ∷ w) ≡ guarded (CallOpens made) 0 w
input_in u made r w is of_input = token (Wants [] u) (CallOpens made) r signs.Input 0 w is refl refl
input_in u made r w is (of_function k) = token (Wants [] u) (CallOpens made) r (signs.Function k) 0 w is refl refl

pub begins_call : {f : Sign} (p : Place) (outer : Stack) (m : ℕ) (w : List Item) → Callable f → guarded (Ready outer) m (at p f ∷ w) ≡ guarded (CallOpens (OfStatement (AsStatement outer) (Skip p Done))) 0 w
begins_call p outer m w of_input = token (Ready outer) (CallOpens (OfStatement (AsStatement outer) (Skip p Done))) p signs.Input m w refl refl refl
begins_call p outer m w (of_function k) = token (Ready outer) (CallOpens (OfStatement (AsStatement outer) (Skip p Done))) p (signs.Function k) m w refl refl refl

pub goes_to_call : {f : Sign} (p s : Place) (outer : Stack) (w : List Item) → Callable f → guarded (CallComes p outer) 0 (at s f ∷ w) ≡ guarded (CallOpens (OfStatement (AsStatement outer) (Skip p Done))) 0 w
goes_to_call p s outer w of_input = token (CallComes p outer) (CallOpens (OfStatement (AsStatement outer) (Skip p Done))) s signs.Input 0 w refl refl refl
goes_to_call p s outer w (of_function k) = token (CallComes p outer) (CallOpens (OfStatement (AsStatement outer) (Skip p Done))) s (signs.Function k) 0 w refl refl refl

-- its parentheses, and the rest of a statement
pub parentheses_in : (made : Pending) (q r : Place) (w : List Item) → guarded (CallOpens made) 0 (at q signs.Open ∷ at r signs.Close ∷ w) ≡ guarded (Finishing made) 0 w
parentheses_in made q r w = token (CallOpens made) (CallCloses made) q signs.Open 0 (at r signs.Close ∷ w) refl refl refl ∙ token (CallCloses made) (Finishing made) r signs.Close 0 w refl refl refl

pub call_in : (outer : Stack) (c : Code) (q r s : Place) (w : List Item) → guarded (CallOpens (OfStatement (AsStatement outer) c)) 0 (at q signs.Open ∷ at r signs.Close ∷ at s signs.Semicolon ∷ w) ≡ guarded (Ended outer c) 0 w
call_in outer c q r s w = parentheses_in (OfStatement (AsStatement outer) c) q r (at s signs.Semicolon ∷ w) ∙ finished_in (AsStatement outer) c s w

-- a change, and what ends it
pub change_in : {ts : List Item} {c : Code} → ChangesWithin ts c → (site : Site) (m : ℕ) (z o : Place) (w : List Item) → guarded (comes o site) m (ts ++ at z (last_sign site) ∷ w) ≡ guarded (then_comes site c) 0 w
change_in (assignment p q x {ts} {e} s) site m z o w =
    named_in o p x site m (at q signs.Equals ∷ (ts ++ at z (last_sign site) ∷ w))
    ∙ token (Named p x site) (Wants [] (ToAssign p x site)) q signs.Equals 0 (ts ++ at z (last_sign site) ∷ w) refl refl refl
    ∙ change_end_in s (ToAssign p x site) site (Assign p x e Done) z w (assigned_there p z x e site)
change_in (input_taken p q r s t x {f = called} g) site m z o w =
    named_in o p x site m (at q signs.Equals ∷ at r called ∷ at s signs.Open ∷ at t signs.Close ∷ at z (last_sign site) ∷ w)
    ∙ token (Named p x site) (Wants [] (ToAssign p x site)) q signs.Equals 0 (at r called ∷ at s signs.Open ∷ at t signs.Close ∷ at z (last_sign site) ∷ w) refl refl refl
    ∙ input_in (ToAssign p x site) (OfStatement site (Input p x Done)) r (at s signs.Open ∷ at t signs.Close ∷ at z (last_sign site) ∷ w) refl g
    ∙ parentheses_in (OfStatement site (Input p x Done)) s t (at z (last_sign site) ∷ w)
    ∙ finished_in site (Input p x Done) z w
change_in (compound_assignment p q x u {ts} {e} s) site m z o w =
    named_in o p x site m (at q (update_sign u) ∷ (ts ++ at z (last_sign site) ∷ w))
    ∙ updates_in p q x u site (ts ++ at z (last_sign site) ∷ w)
    ∙ change_end_in s (ToUpdate p x u site) site (updated p x u e) z w (updated_there p z x u e site)
change_in (count_behind p q x u) site m z o w =
    named_in o p x site m (at q (count_sign u) ∷ at z (last_sign site) ∷ w) ∙ counts_in p q x u site (at z (last_sign site) ∷ w) ∙ finished_in site (changed_by_one p x u) z w
change_in (count_before p q x u) site m z o w =
    counting_in o p u site m (at q (signs.Name x) ∷ at z (last_sign site) ∷ w)
    ∙ token (Counting p u site) (Finishing (OfStatement site (changed_by_one p x u))) q (signs.Name x) 0 (at z (last_sign site) ∷ w) refl refl refl
    ∙ finished_in site (changed_by_one p x u) z w

-- what stands in the parentheses of a `for`
pub start_in : {ts : List Item} {c : Code} → ClauseWithin ts c → (p : Place) (outer : Stack) (r : Place) (w : List Item) → guarded (StartComes p outer) 0 (ts ++ at r signs.Semicolon ∷ w) ≡ guarded (TestComes (ChangeStart c) outer) 0 w
start_in no_clause p outer r w = token (StartComes p outer) (TestComes (ChangeStart Done) outer) r signs.Semicolon 0 w refl refl refl
start_in (clause s) p outer r w = change_in s (AsStart outer) 0 r p w

pub step_in : {vs : List Item} {d : Code} → ClauseWithin vs d → (start : Start) (p : Place) (e : Term) (outer : Stack) (z : Place) (w : List Item) → guarded (StepComes start p e outer) 0 (vs ++ at z signs.Close ∷ w) ≡ guarded (Ready (LoopOf start p e d outer)) 0 w
step_in no_clause start p e outer z w = token (StepComes start p e outer) (Ready (LoopOf start p e Done outer)) z signs.Close 0 w refl refl refl
step_in (clause s) start p e outer z w = change_in s (AsStep start p e outer) 0 z p w

-- at the first token of an expression the test of a `for` begins
abbrev TestBegins : Start → Stack → Place → List Item → Type 0
TestBegins start outer p [] = ⊥
TestBegins start outer p (x ∷ w) = step (TestComes start outer) x.place x.sign ≡ step (Wants [] (ToRepeat start p outer)) x.place x.sign

pub tests_begin : (start : Start) (outer : Stack) (x : Item) (w : List Item) → IsNoSemicolon x.sign → guarded (TestComes start outer) 0 (x ∷ w) ≡ guarded (Wants [] (ToRepeat start x.place outer)) 0 (x ∷ w)
tests_begin start outer x w h =
    same_within (TestComes start outer) (Wants [] (ToRepeat start x.place outer)) 0 refl refl refl refl (x ∷ w) (λ y v is. subst (TestBegins start outer x.place) is (test_step start outer x.place x.sign h))

pub tests_in : {us : List Item} {t : Place} {e : Term} → TestsWithin us t e → (start : Start) (outer : Stack) (w : List Item) → guarded (TestComes start outer) 0 (us ++ w) ≡ guarded (StepComes start t e outer) 0 w
tests_in (no_test s) start outer w = token (TestComes start outer) (StepComes start s (Number (pos 1)) outer) s signs.Semicolon 0 w refl refl refl
tests_in (test s {x} {ts} {e} f) start outer w =
    tests_begin start outer x ((ts ++ at s signs.Semicolon ∷ []) ++ w) (expr_no_semicolon f.expresses [])
    ∙ full_in f (ToRepeat start x.place outer) (at s signs.Semicolon) [] w tt
    ∙ last_token f (ToRepeat start x.place outer) (StepComes start x.place e outer) s signs.Semicolon w refl refl refl refl
