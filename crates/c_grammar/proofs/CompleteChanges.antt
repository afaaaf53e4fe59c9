-- What is spelled is read: changes of a variable, and what stands in the parentheses of a `for`.
use Rattle.std.proofs.Common.{◌≡◌, ℕ, suc, List, [], ◌∷◌, ◌++◌, length, Option, refl, sym, ap, subst, ◌∙◌, append_assoc, arith}
use Rattle.fam_outer.specs.declared.faults.Place.{Place}
use Rattle.c_tree.specs.Tree.{Term, Code}
use Rattle.c_grammar.specs.declared.items.Sign.{Sign}
use Rattle.c_grammar.specs.declared.items.Sign.TheVariants as signs
use Rattle.c_grammar.specs.declared.items.Item.{Item}
use Rattle.c_grammar.specs.Grammar.{at, Positive, Negative, Inverse, Expresses, number, name, group, prefix, loose, binary, Update, Sum, Difference, Product, Quotient, Remainder, update_sign, Count, Raise, Lower, count_sign, of_input, of_function, Changes, assignment, input_taken, compound_assignment, count_behind, count_before, Clause, no_clause, clause, Tests, no_test, test}
use Rattle.c_grammar.specs.Ahead.{IsLooser}
use Rattle.c_grammar.specs.Machine.{Stack, LoopOf, Start, ChangeStart, Site, AsStatement, AsStart, AsStep, Use, ToAssign, ToUpdate, ToRepeat, ReadingState, Ready, Wants, Has, Counting, Named, StartComes, TestComes, StepComes, ended_change, closed_change, want, step, moved, run}
use Rattle.c_grammar.proofs.CompleteExpressions.{complete}

-- behind an expression
pub of_expr : {ts : List Item} {e : Term} → Expresses 6 ts e → (u : Use) (x : Item) (us w : List Item) → IsLooser 6 x.sign → run (Wants [] u) ((ts ++ x ∷ us) ++ w) ≡ run (Has [] u e) (x ∷ (us ++ w))
of_expr {ts} {e} s u x us w h = ap (run (Wants [] u)) (append_assoc ts (x ∷ us) w) ∙ complete s [] u (omega arith) (x ∷ (us ++ w)) h

-- ---- changes

-- where a change begins: before the first test of a `for` at this place, or elsewhere
abbrev pub comes : Place → Site → ReadingState
comes o (AsStatement outer) = Ready outer
comes o (AsStart outer) = StartComes o outer
comes o (AsStep start p e outer) = StepComes start p e outer

named_there : (o p : Place) (x : ℕ) (site : Site) (w : List Item) → run (comes o site) (at p (signs.Name x) ∷ w) ≡ run (Named p x site) w
unfolding run
named_there o p x (AsStatement outer) w = refl
named_there o p x (AsStart outer) w = refl
named_there o p x (AsStep start q e outer) w = refl

counting_there : (o p : Place) (u : Count) (site : Site) (w : List Item) → run (comes o site) (at p (count_sign u) ∷ w) ≡ run (Counting p u site) w
unfolding run
counting_there o p Raise (AsStatement outer) w = refl
counting_there o p Raise (AsStart outer) w = refl
counting_there o p Raise (AsStep start q e outer) w = refl
counting_there o p Lower (AsStatement outer) w = refl
counting_there o p Lower (AsStart outer) w = refl
counting_there o p Lower (AsStep start q e outer) w = refl

updates : (p q : Place) (x : ℕ) (u : Update) (site : Site) (w : List Item) → run (Named p x site) (at q (update_sign u) ∷ w) ≡ run (Wants [] (ToUpdate p x u site)) w
unfolding run
updates p q x Sum site w = refl
updates p q x Difference site w = refl
updates p q x Product site w = refl
updates p q x Quotient site w = refl
updates p q x Remainder site w = refl

-- what ends a change: a semicolon, or a closing parenthesis
pub data Stop : Type 0 where
  Semi : Stop
  Shut : Stop

abbrev pub stop_sign : Stop → Sign
stop_sign Semi = signs.Semicolon
stop_sign Shut = signs.Close

abbrev pub behind_change : Stop → Site → Code → Option ReadingState
behind_change Semi site c = ended_change site c
behind_change Shut site c = closed_change site c

-- a change, and what ends it, lead from where a change begins to where it has ended
pub changed : {ts : List Item} {c : Code} → Changes ts c → (stop : Stop) (z o : Place) (site : Site) (w : List Item)
    → run (comes o site) (ts ++ at z (stop_sign stop) ∷ w) ≡ moved (behind_change stop site c) (λ next. run next w) (suc (length w))
unfolding run
changed (assignment p q x {ts} s) Semi z o site w = named_there o p x site (at q signs.Equals ∷ (ts ++ at z signs.Semicolon ∷ w)) ∙ complete s [] (ToAssign p x site) (omega arith) (at z signs.Semicolon ∷ w) tt
changed (assignment p q x {ts} s) Shut z o site w = named_there o p x site (at q signs.Equals ∷ (ts ++ at z signs.Close ∷ w)) ∙ complete s [] (ToAssign p x site) (omega arith) (at z signs.Close ∷ w) tt
changed (input_taken p q r s t x of_input) Semi z o site w = named_there o p x site (at q signs.Equals ∷ at r signs.Input ∷ at s signs.Open ∷ at t signs.Close ∷ at z signs.Semicolon ∷ w)
changed (input_taken p q r s t x of_input) Shut z o site w = named_there o p x site (at q signs.Equals ∷ at r signs.Input ∷ at s signs.Open ∷ at t signs.Close ∷ at z signs.Close ∷ w)
changed (input_taken p q r s t x (of_function k)) Semi z o site w = named_there o p x site (at q signs.Equals ∷ at r (signs.Function k) ∷ at s signs.Open ∷ at t signs.Close ∷ at z signs.Semicolon ∷ w)
changed (input_taken p q r s t x (of_function k)) Shut z o site w = named_there o p x site (at q signs.Equals ∷ at r (signs.Function k) ∷ at s signs.Open ∷ at t signs.Close ∷ at z signs.Close ∷ w)
changed (compound_assignment p q x u {ts} s) Semi z o site w =
    named_there o p x site (at q (update_sign u) ∷ (ts ++ at z signs.Semicolon ∷ w)) ∙ updates p q x u site (ts ++ at z signs.Semicolon ∷ w) ∙ complete s [] (ToUpdate p x u site) (omega arith) (at z signs.Semicolon ∷ w) tt
changed (compound_assignment p q x u {ts} s) Shut z o site w =
    named_there o p x site (at q (update_sign u) ∷ (ts ++ at z signs.Close ∷ w)) ∙ updates p q x u site (ts ++ at z signs.Close ∷ w) ∙ complete s [] (ToUpdate p x u site) (omega arith) (at z signs.Close ∷ w) tt
changed (count_behind p q x Raise) Semi z o site w = named_there o p x site (at q signs.PlusPlus ∷ at z signs.Semicolon ∷ w)
changed (count_behind p q x Raise) Shut z o site w = named_there o p x site (at q signs.PlusPlus ∷ at z signs.Close ∷ w)
changed (count_behind p q x Lower) Semi z o site w = named_there o p x site (at q signs.MinusMinus ∷ at z signs.Semicolon ∷ w)
changed (count_behind p q x Lower) Shut z o site w = named_there o p x site (at q signs.MinusMinus ∷ at z signs.Close ∷ w)
changed (count_before p q x u) Semi z o site w = counting_there o p u site (at q (signs.Name x) ∷ at z signs.Semicolon ∷ w)
changed (count_before p q x u) Shut z o site w = counting_there o p u site (at q (signs.Name x) ∷ at z signs.Close ∷ w)

-- ---- the parentheses of a `for`

pub starts : {ts : List Item} {c : Code} → Clause ts c → (r p : Place) (outer : Stack) (w : List Item) → run (StartComes p outer) (ts ++ at r signs.Semicolon ∷ w) ≡ run (TestComes (ChangeStart c) outer) w
unfolding run
starts no_clause r p outer w = refl
starts (clause s) r p outer w = changed s Semi r p (AsStart outer) w

pub advances : {ts : List Item} {d : Code} → Clause ts d → (z : Place) (start : Start) (p : Place) (e : Term) (outer : Stack) (w : List Item) → run (StepComes start p e outer) (ts ++ at z signs.Close ∷ w) ≡ run (Ready (LoopOf start p e d outer)) w
unfolding run
advances no_clause z start p e outer w = refl
advances (clause s) z start p e outer w = changed s Shut z p (AsStep start p e outer) w

-- no semicolon stands first
abbrev pub IsNoSemicolon : Sign → Type 0
IsNoSemicolon signs.Semicolon = ⊥
IsNoSemicolon _ = Unit {0}

abbrev pub NoSemicolon : List Item → Type 0
NoSemicolon [] = ⊥
NoSemicolon (x ∷ w) = IsNoSemicolon x.sign

pub expr_no_semicolon : {k : ℕ} {ts : List Item} {e : Term} → Expresses k ts e → (w : List Item) → NoSemicolon (ts ++ w)
expr_no_semicolon (number p n) w = tt
expr_no_semicolon (name p x) w = tt
expr_no_semicolon (group p q s) w = tt
expr_no_semicolon (prefix p Positive s) w = tt
expr_no_semicolon (prefix p Negative s) w = tt
expr_no_semicolon (prefix p Inverse s) w = tt
expr_no_semicolon (loose s) w = expr_no_semicolon s w
expr_no_semicolon (binary p op {ts} {us} s t) w = subst NoSemicolon (sym (append_assoc ts (at p (signs.Oper op) ∷ us) w)) (expr_no_semicolon s (at p (signs.Oper op) ∷ (us ++ w)))

-- at the first token of an expression the test of a `for` begins
pub test_step : (start : Start) (outer : Stack) (p : Place) (s : Sign) → IsNoSemicolon s → step (TestComes start outer) p s ≡ want [] (ToRepeat start p outer) s
test_step start outer p signs.Semicolon h = absurd h
test_step start outer p _ h = refl

pub tests : {ts : List Item} {p : Place} {e : Term} → Tests ts p e → (start : Start) (outer : Stack) (w : List Item) → run (TestComes start outer) (ts ++ w) ≡ run (StepComes start p e outer) w
unfolding run
tests (no_test z) start outer w = refl
tests (test z {x} {ts} s) start outer w =
    let rest : List Item = ts ++ at z signs.Semicolon ∷ w in
    ap (λ (y : List Item). run (TestComes start outer) (x ∷ y)) (append_assoc ts (at z signs.Semicolon ∷ []) w)
    ∙ ap (λ (o : Option ReadingState). moved o (λ next. run next rest) (suc (length rest))) (test_step start outer x.place x.sign (expr_no_semicolon s []))
    ∙ complete s [] (ToRepeat start x.place outer) (omega arith) (at z signs.Semicolon ∷ w) tt
