-- What is read within the limits: how deep its statements are, and how many operators its expressions have.
use Rattle.std.proofs.Common.{◌≡◌, ℕ, suc, ◌≤◌, Bool, true, false, ◌||◌, List, [], ◌∷◌, length, Option, Some, None, Result, Ok, refl, subst, arith}
use Rattle.std.specs.Prelude.{IfSome, IfOk}
use Rattle.fam_outer.specs.declared.faults.Place.{Place}
use Rattle.c_tree.specs.Tree.{Done, Skip}
use Rattle.c_tree.specs.Whole.{nesting, IsSmall}
use Rattle.c_grammar.specs.declared.items.Sign.{Sign}
use Rattle.c_grammar.specs.declared.items.Item.{Item}
use Rattle.c_grammar.specs.Grammar.{File}
use Rattle.c_grammar.specs.Machine.{AsStatement, ToRedo, OfStatement, ToPrototype, ReadingState, Outside, AfterStatic, AfterExtern, AfterConst, AfterEnum, AfterVoidType, AfterType, ConstWord, Declaring, Bare, Starting, Negating, Started, Listing, Enumerated, AfterDefine, Defining, NegativeDefining, Enclosing, NegativeEnclosing, Enclosed, Parameters, InParameters, AfterVoid, AfterParameters, Ready, LocalConst, LocalType, NextLocal, LocalNamed, Ended, Wants, Has, Counting, Named, Opens, ForOpens, StartComes, TestComes, StepComes, RedoOpens, RedoComes, VoidComes, VoidCloses, CallComes, CallOpens, CallCloses, Finishing, Over, defined_as, step, finish, start, InStatic}
use Rattle.c_grammar.specs.Deep.{is_nested, counted, is_long, is_deep, Fault, ended, went, guarded}
use Rattle.c_grammar.proofs.OpenLimits.{Fine, depth_fits, weight, SiteFits, IsFlat, PieceFits, UseFits, PendingFits, StateFits, open_fits, close_fits, semicolon_fits, void_fits, function_fits, void_function_fits}
use Rattle.c_grammar.proofs.StatementLimits.{begin_fits, on_fits, want_fits, have_fits, named_fits, counting_fits, start_fits, test_fits, step_part_fits, const_word_fits, next_local_fits, local_type_fits, static_part_fits, local_named_fits, finishing_fits}
use Rattle.c_grammar.proofs.DeclarationLimits.{first_fits, static_fits, extern_fits, outside_fits, declaring_fits, after_type_fits, enum_fits, started_fits, listing_fits, bare_fits, starting_fits, negating_fits, define_fits, defining_fits, negative_defining_fits, enclosing_fits, negative_enclosing_fits, in_parameters_fits, after_parameters_fits, over_fits}

step_fits : (state : ReadingState) (p : Place) (s : Sign) (k : ℕ) → is_nested state s ≡ false → is_long state s k ≡ false → StateFits state k → IfSome (step state p s) (λ next. StateFits next (counted state s k))
unfolding StateFits SiteFits IsFlat UseFits PieceFits PendingFits weight
step_fits (Outside secs ds) p s k d l h = outside_fits secs ds s
step_fits (AfterStatic secs ds) p s k d l h = static_fits secs ds s
step_fits (AfterExtern secs ds) p s k d l h = extern_fits secs ds s
step_fits (AfterConst secs ds) p s k d l h = first_fits ConstWord secs ds s
step_fits (AfterEnum secs ds) p s k d l h = enum_fits secs ds s
step_fits (AfterVoidType secs ds) p s k d l h = void_function_fits (Parameters (ToPrototype secs ds)) s tt
step_fits (AfterType lead words secs ds) p s k d l h = after_type_fits lead secs ds s words
step_fits (Declaring kind secs ds) p s k d l h = declaring_fits kind secs ds s
step_fits (Bare kind x secs ds) p s k d l h = bare_fits kind x secs ds s
step_fits (Starting kind x secs ds) p s k d l h = starting_fits kind x secs ds s
step_fits (Negating kind x secs ds) p s k d l h = negating_fits kind x secs ds s
step_fits (Started kind x n secs ds) p s k d l h = started_fits kind x n secs ds s
step_fits (Listing last secs ds) p s k d l h = listing_fits last secs ds s
step_fits (Enumerated secs ds) p s k d l h = semicolon_fits (Outside secs ds) s tt
step_fits (AfterDefine secs ds) p s k d l h = define_fits secs ds s
step_fits (Defining x secs ds) p s k d l h = defining_fits x secs ds s
step_fits (NegativeDefining x secs ds) p s k d l h = negative_defining_fits x secs ds s
step_fits (Enclosing x secs ds) p s k d l h = enclosing_fits x secs ds s
step_fits (NegativeEnclosing x secs ds) p s k d l h = negative_enclosing_fits x secs ds s
step_fits (Enclosed x n secs ds) p s k d l h = close_fits (defined_as x n secs ds) s tt
step_fits (Parameters aim) p s k d l h = open_fits (InParameters aim) s tt
step_fits (InParameters aim) p s k d l h = in_parameters_fits aim s
step_fits (AfterVoid aim) p s k d l h = close_fits (AfterParameters aim) s tt
step_fits (AfterParameters aim) p s k d l h = after_parameters_fits aim s
step_fits (Ready outer) p s k d l h = begin_fits outer p s d h
step_fits (LocalConst scope) p s k d l h = const_word_fits scope s h
step_fits (LocalType kind words scope) p s k d l h = local_type_fits kind scope p s words h
step_fits (NextLocal kind scope) p s k d l h = next_local_fits kind scope p s h
step_fits (LocalNamed kind q x scope) p s k d l h = local_named_fits kind q x scope s h
step_fits (InStatic part outer) p s k d l h = static_part_fits part outer s h
step_fits (Ended outer c) p s k d l h = on_fits outer c p s d h.0 h.1
step_fits (Wants fs u) p s k d l h = want_fits fs u p s k l h
step_fits (Has fs u e) p s k d l h = have_fits fs u e p s k l h
step_fits (Counting q u site) p s k d l h = counting_fits q u site s h
step_fits (Named q x site) p s k d l h = named_fits q x site s h
step_fits (Opens u) p s k d l h = open_fits (Wants [] u) s (h, omega arith, omega arith)
step_fits (ForOpens q outer) p s k d l h = open_fits (StartComes q outer) s h
step_fits (StartComes q outer) p s k d l h = start_fits q outer p s h.0 h.1
step_fits (TestComes start outer) p s k d l h = test_fits start outer p s k l h
step_fits (StepComes start q e outer) p s k d l h = step_part_fits start q e outer p s h
step_fits (RedoOpens q c outer) p s k d l h = open_fits (RedoComes q c outer) s h
step_fits (RedoComes q c outer) p s k d l h = want_fits [] (ToRedo q c p outer) p s 0 l (h, omega arith, omega arith)
step_fits (VoidComes q outer) p s k d l h = void_fits (VoidCloses q outer) s h
step_fits (VoidCloses q outer) p s k d l h = close_fits (CallComes q outer) s h
step_fits (CallComes q outer) p s k d l h = function_fits (CallOpens (OfStatement (AsStatement outer) (Skip q Done))) s (h, (depth_fits outer h, tt))
step_fits (CallOpens made) p s k d l h = open_fits (CallCloses made) s h
step_fits (CallCloses made) p s k d l h = close_fits (Finishing made) s h
step_fits (Finishing made) p s k d l h = finishing_fits made s h
step_fits (Over f parts) p s k d l h = over_fits f parts s h

-- ---- the run

neither : (a b : Bool) → (a || b) ≡ false → (a ≡ false) × (b ≡ false)
neither true b h = absurd cc
neither false b h = (refl, h)

IsFine : Result File Fault → Type 0
IsFine r = IfOk r (λ f. Fine 0 f.body)

finish_fits : (state : ReadingState) (k : ℕ) → StateFits state k → IsFine (ended (finish state))
unfolding StateFits IsFine
finish_fits (Over f []) k h = h
finish_fits _ k h = tt

went_fits : (o : Option ReadingState) (deep : Bool) (state : ReadingState) (s : Sign) (k : ℕ) (go : ReadingState → Result File Fault) (n : ℕ) → is_deep state s k ≡ deep → (is_deep state s k ≡ false → IfSome o (λ next. StateFits next (counted state s k))) → ((next : ReadingState) → StateFits next (counted state s k) → IsFine (go next)) → IsFine (went o deep go n)
unfolding IsFine
went_fits None deep state s k go n is h rec = tt
went_fits (Some next) true state s k go n is h rec = tt
went_fits (Some next) false state s k go n is h rec = rec next (h is)

within : (ts : List Item) (state : ReadingState) (k : ℕ) → StateFits state k → IsFine (guarded state k ts)
unfolding guarded
within [] state k h = finish_fits state k h
within (x ∷ ts) state k h =
    went_fits (step state x.place x.sign) (is_deep state x.sign k) state x.sign k (λ next. guarded next (counted state x.sign k) ts) (suc (length ts)) refl
    (λ d. let r = neither (is_nested state x.sign) (is_long state x.sign k) d in step_fits state x.place x.sign k r.0 r.1 h)
    (λ next fits. within ts next (counted state x.sign k) fits)

pub fine_files : (items : List Item) (f : File) → guarded start 0 items ≡ Ok f → (nesting f.body ≤ 128) × IsSmall f.body
unfolding StateFits IsFine
fine_files items f h =
    let r = within items start 0 tt in
    let t : Fine 0 f.body = subst (λ (y : Result File Fault). IfOk y (λ f. Fine 0 f.body)) h r in
    (omega (arith, t.0), t.1)
