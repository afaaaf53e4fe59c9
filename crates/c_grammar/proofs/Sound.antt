-- What is read is spelled.
use Rattle.std.proofs.Common.{◌≡◌, ℕ, suc, List, [], ◌∷◌, ◌++◌, length, Some, None, Result, Ok, sym, subst, append_assoc}
use Rattle.std.specs.Prelude.{IfSome, IfOk}
use Rattle.std.proofs.lemmas.List.{append-nil}
use Rattle.fam_outer.specs.declared.faults.Place.{Place}
use Rattle.c_grammar.specs.declared.items.Sign.{Sign}
use Rattle.c_grammar.specs.declared.items.Item.{Item}
use Rattle.c_grammar.specs.Grammar.{at, no_more, File, file_of, Forms, file}
use Rattle.c_grammar.specs.Machine.{Outermost, ReadingState, Outside, AfterStatic, AfterExtern, AfterConst, AfterEnum, AfterVoidType, AfterType, Declaring, Bare, Starting, Negating, Started, Listing, Enumerated, AfterDefine, Defining, NegativeDefining, Enclosing, NegativeEnclosing, Enclosed, Parameters, InParameters, AfterVoid, AfterParameters, Ready, LocalConst, LocalType, NextLocal, LocalNamed, Ended, Wants, Has, Counting, Named, Opens, ForOpens, StartComes, TestComes, StepComes, RedoOpens, RedoComes, VoidComes, VoidCloses, CallComes, CallOpens, CallCloses, Finishing, Over, step, finish, at_end, moved, run, start, InStatic}
use Rattle.c_grammar.proofs.Standing.{Tail, Stands}
use Rattle.c_grammar.proofs.SoundExpressions.{want_keeps, have_keeps}
use Rattle.c_grammar.proofs.SoundStatements.{begin_keeps, on_keeps, counting_keeps, named_keeps, opens_keeps, for_opens_keeps, start_comes_keeps, test_comes_keeps, step_comes_keeps, redo_opens_keeps, redo_comes_keeps, const_word_keeps, local_type_keeps, next_local_keeps, local_named_keeps, void_comes_keeps, void_closes_keeps, call_comes_keeps, call_opens_keeps, call_closes_keeps, finishing_keeps}
use Rattle.c_grammar.proofs.SoundStatics.{static_part_keeps}
use Rattle.c_grammar.proofs.SoundDefinitions.{define_keeps, defining_keeps, negative_defining_keeps, enclosing_keeps, negative_enclosing_keeps, enclosed_keeps}
use Rattle.c_grammar.proofs.SoundFiles.{outside_keeps, static_keeps, extern_keeps, const_keeps, enum_keeps, void_type_keeps, type_keeps, declaring_keeps, bare_keeps, starting_keeps, negating_keeps, started_keeps, listing_keeps, enumerated_keeps, parameters_keeps, in_parameters_keeps, void_keeps, after_parameters_keeps}
use Rattle.c_grammar.proofs.SoundEnds.{over_keeps}

keeps : (state : ReadingState) (p : Place) (s : Sign) (a : List Item) → Stands state a → IfSome (step state p s) (λ next. Stands next (a ++ at p s ∷ []))
keeps (Outside secs ds) p s a r = outside_keeps secs ds p s a r
keeps (AfterStatic secs ds) p s a r = static_keeps secs ds p s a r
keeps (AfterExtern secs ds) p s a r = extern_keeps secs ds p s a r
keeps (AfterConst secs ds) p s a r = const_keeps secs ds p s a r
keeps (AfterEnum secs ds) p s a r = enum_keeps secs ds p s a r
keeps (AfterVoidType secs ds) p s a r = void_type_keeps secs ds p s a r
keeps (AfterType lead words secs ds) p s a r = type_keeps lead secs ds p s words a r
keeps (Declaring kind secs ds) p s a r = declaring_keeps kind secs ds p s a r
keeps (Bare kind x secs ds) p s a r = bare_keeps kind x secs ds p s a r
keeps (Starting kind x secs ds) p s a r = starting_keeps kind x secs ds p s a r
keeps (Negating kind x secs ds) p s a r = negating_keeps kind x secs ds p s a r
keeps (Started kind x n secs ds) p s a r = started_keeps kind x n secs ds p s a r
keeps (Listing last secs ds) p s a r = listing_keeps last secs ds p s a r
keeps (Enumerated secs ds) p s a r = enumerated_keeps secs ds p s a r
keeps (AfterDefine secs ds) p s a r = define_keeps secs ds p s a r
keeps (Defining x secs ds) p s a r = defining_keeps x secs ds p s a r
keeps (NegativeDefining x secs ds) p s a r = negative_defining_keeps x secs ds p s a r
keeps (Enclosing x secs ds) p s a r = enclosing_keeps x secs ds p s a r
keeps (NegativeEnclosing x secs ds) p s a r = negative_enclosing_keeps x secs ds p s a r
keeps (Enclosed x n secs ds) p s a r = enclosed_keeps x n secs ds p s a r
keeps (Parameters aim) p s a r = parameters_keeps aim p s a r
keeps (InParameters aim) p s a r = in_parameters_keeps aim p s a r
keeps (AfterVoid aim) p s a r = void_keeps aim p s a r
keeps (AfterParameters aim) p s a r = after_parameters_keeps aim p s a r
keeps (Ready outer) p s a r = begin_keeps outer p s a r
keeps (LocalConst scope) p s a r = const_word_keeps scope p s a r
keeps (LocalType kind words scope) p s a r = local_type_keeps kind scope p s words a r
keeps (NextLocal kind scope) p s a r = next_local_keeps kind scope p s a r
keeps (LocalNamed kind q x scope) p s a r = local_named_keeps kind q x scope p s a r
keeps (InStatic part outer) p s a r = static_part_keeps part outer p s a r
keeps (Ended outer c) p s a r = on_keeps outer c p s a r
keeps (Wants fs u) p s a r = want_keeps fs u p s a r.0 (r.1 p s)
keeps (Has fs u e) p s a r = have_keeps fs u e p s a r
keeps (Counting q u site) p s a r = counting_keeps q u site p s a r
keeps (Named q x site) p s a r = named_keeps q x site p s a r
keeps (Opens u) p s a r = opens_keeps u p s a r
keeps (ForOpens q outer) p s a r = for_opens_keeps q outer p s a r
keeps (StartComes q outer) p s a r = start_comes_keeps q outer p s a r
keeps (TestComes start outer) p s a r = test_comes_keeps start outer p s a r
keeps (StepComes start q e outer) p s a r = step_comes_keeps start q e outer p s a r
keeps (RedoOpens q c outer) p s a r = redo_opens_keeps q c outer p s a r
keeps (RedoComes q c outer) p s a r = redo_comes_keeps q c outer p s a r
keeps (VoidComes q outer) p s a r = void_comes_keeps q outer p s a r
keeps (VoidCloses q outer) p s a r = void_closes_keeps q outer p s a r
keeps (CallComes q outer) p s a r = call_comes_keeps q outer p s a r
keeps (CallOpens made) p s a r = call_opens_keeps made p s a r
keeps (CallCloses made) p s a r = call_closes_keeps made p s a r
keeps (Finishing made) p s a r = finishing_keeps made p s a r
keeps (Over f parts) p s a r = over_keeps f parts p s a r

finishes : (state : ReadingState) (a : List Item) → Stands state a → IfOk (at_end (finish state)) (λ made. Forms a made)
finishes (Over f []) a r = subst (λ (y : List Item). Forms y f) (append-nil a) (r [] no_more)
finishes _ a r = tt

sound : (state : ReadingState) (ts a : List Item) → Stands state a → IfOk (run state ts) (λ made. Forms (a ++ ts) made)
unfolding run
sound state [] a r = subst (λ (y : List Item). IfOk (at_end (finish state)) (λ made. Forms y made)) (sym (append-nil a)) (finishes state a r)
sound state (x ∷ ts) a r = elim (step state x.place x.sign) as (λ o. IfSome o (λ next. Stands next (a ++ x ∷ [])) → IfOk (moved o (λ next. run next ts) (suc (length ts))) (λ made. Forms (a ++ x ∷ ts) made)) [
  | None ↦ λ h. tt
  | Some next ↦ λ h. subst (λ (y : List Item). IfOk (run next ts) (λ made. Forms y made)) (append_assoc a (x ∷ []) ts) (sound next ts (a ++ x ∷ []) h)
] (keeps state x.place x.sign a r)

whole_tail : (w : List Item) (f : File) → Tail Outermost [] w f → Forms w f
whole_tail w f t = subst (λ (y : File). Forms w y) (sym t.8) (subst (λ (y : List Item). Forms y (file_of t.2 t.3 t.4)) (sym t.7) (file t.5 t.6))

pub ok_forms : (ts : List Item) (f : File) → run start ts ≡ Ok f → Forms ts f
ok_forms ts f h = let s = sound start ts [] (λ w g t. whole_tail w g t) in subst (λ (r : Result File ℕ). IfOk r (λ made. Forms ts made)) h s
