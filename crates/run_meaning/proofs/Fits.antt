-- A step keeps a standing fit.
use Rattle.std.proofs.Common.{◌≡◌, ℕ, ◌+◌, List, [], ◌∷◌, length, Bool, true, false, cond, Option, Some, None, get_or, subst, refl, ap, sym, ◌∙◌, arith, suc, ◌-◌, ◌<◌}
use Rattle.std.specs.Prelude.{ℤ, pos, Result, Ok, Err, slice_get, slice_set, IfOk, IfErr}
use Rattle.std.specs.List.{All}
use Rattle.std.proofs.lemmas.List.{length-set}
use Rattle.std.proofs.lemmas.List.Elements.{All-set, All-nil, All-cons, All-head, All-tail}
use Rattle.std.proofs.lemmas.Option.{slice_get_within, slice_get-get_or}
use Rattle.c_tree.specs.declared.tree.Kind.{Kind}
use Rattle.c_tree.specs.declared.tree.Mode.{Mode}
use Rattle.fam_outer.specs.declared.faults.Place.{Place}
use Rattle.c_tree.specs.Tree.{Jump, Break, Continue, Return, Code, Done, Assign, Input, Assert, If, While, Do, Leave, Block, Skip, Cond, followed, Whole}
use Rattle.c_tree.specs.Whole.{IsProgram, IsPlainProgram}
use Rattle.c_tree.specs.Value.{value_of, is_zero, IsInt}
use Rattle.c_tree.specs.Fit.{IsCodeOf, IsPlain}
use Rattle.c_tree.proofs.Values.{IsInt-value_of}
use Rattle.c_tree.proofs.Views.{IsCodeOf-followed, IsPlain-followed}
use Rattle.c_tree.specs.Run as run
use Rattle.c_tree.specs.Run.{Level, Standing, standing, Outcome, Moved, Stopped, Waiting, Ended, with_value, with_input, step_of, leave_of, next_of, unless_over, above, settled, IsFitLevel, IsFit, End, StoppedEnd, WaitingEnd, EndedEnd, onward, steps_of, start_of}
use Rattle.run_meaning.specs.View.{left_by, progress_of}
use Rattle.run_meaning.specs.declared.machine.Progress.{Progress}
use Rattle.run_meaning.specs.declared.machine.Progress.TheVariants as progress

-- levels of a plain program over so many variables
abbrev pub AreFit : ℕ → List Level → Type 0
AreFit count levels = All (IsFitLevel count) levels

IsFit-unless_over : (x : Code) (here up : Standing) → IsFit here → IsFit up → IsFit (unless_over x here up)
IsFit-unless_over Done here up h k = k
IsFit-unless_over (Assign place target value rest) here up h k = h
IsFit-unless_over (Input place target rest) here up h k = h
IsFit-unless_over (Assert place test rest) here up h k = h
IsFit-unless_over (If place test p q rest) here up h k = h
IsFit-unless_over (While place test step body rest) here up h k = h
IsFit-unless_over (Do place body at test rest) here up h k = h
IsFit-unless_over (Leave place jump rest) here up h k = h
IsFit-unless_over (Block place body rest) here up h k = h
IsFit-unless_over (Skip place rest) here up h k = h
IsFit-unless_over (Cond number p q rest) here up h k = h

-- the standing at a level's list
IsFit-again : (l : Level) (ls : List Level) (store : List ℤ) (taken : ℕ) → AreFit (length store) (l ∷ ls) → All IsInt store → IsFit (standing l.again ls store taken)
IsFit-again l ls store taken h i = record {
  names = (All-head (IsFitLevel (length store)) l ls h).again;
  plain = (All-head (IsFitLevel (length store)) l ls h).again_plain;
  levels = All-tail (IsFitLevel (length store)) l ls h;
  ints = i;
}

IsFit-out : (l : Level) (ls : List Level) (store : List ℤ) (taken : ℕ) → AreFit (length store) (l ∷ ls) → All IsInt store → IsFit (standing l.out ls store taken)
IsFit-out l ls store taken h i = record {
  names = (All-head (IsFitLevel (length store)) l ls h).out;
  plain = (All-head (IsFitLevel (length store)) l ls h).out_plain;
  levels = All-tail (IsFitLevel (length store)) l ls h;
  ints = i;
}

IsFit-over : (store : List ℤ) (taken : ℕ) → All IsInt store → IsFit (standing Done [] store taken)
IsFit-over store taken i = record { names = tt; plain = tt; levels = All-nil (IsFitLevel (length store)); ints = i }

IsFit-above : (levels : List Level) (store : List ℤ) (taken : ℕ) → AreFit (length store) levels → All IsInt store → IsFit (above levels store taken)
IsFit-above [] store taken h i = IsFit-over store taken i
IsFit-above (l ∷ ls) store taken h i =
    IsFit-unless_over l.again (standing l.again ls store taken) (above ls store taken) (IsFit-again l ls store taken h i) (IsFit-above ls store taken (All-tail (IsFitLevel (length store)) l ls h) i)

-- leaving loops whose bodies are over keeps a standing fit
IsFit-settled : (s : Standing) → IsFit s → IsFit (settled s)
IsFit-settled s h = IsFit-unless_over s.todo s (above s.levels s.store s.taken) h (IsFit-above s.levels s.store s.taken h.levels h.ints)

-- an outcome whose next standing is fit
abbrev pub LeadsFit : Outcome → Type 0
LeadsFit (Moved next) = IsFit next
LeadsFit (Stopped place kind) = Unit {0}
LeadsFit (Waiting place) = Unit {0}
LeadsFit Ended = Unit {0}

leads-with_value : (place : Place) (r : Result ℤ Kind) (go : ℤ → Outcome) → ((n : ℤ) → r ≡ Ok n → LeadsFit (go n)) → LeadsFit (with_value place r go)
leads-with_value place (Ok n) go k = k n refl
leads-with_value place (Err kind) go k = tt

leads-with_input : (place : Place) (o : Option ℤ) (go : ℤ → Outcome) → ((n : ℤ) → o ≡ Some n → LeadsFit (go n)) → LeadsFit (with_input place o go)
leads-with_input place (Some n) go k = k n refl
leads-with_input place None go k = tt

-- a choice of two outcomes, and of two standings
leads-cond : (b : Bool) (x y : Outcome) → LeadsFit x → LeadsFit y → LeadsFit (cond b x y)
leads-cond true x y h k = h
leads-cond false x y h k = k

IsFit-cond : (b : Bool) (x y : Standing) → IsFit x → IsFit y → IsFit (cond b x y)
IsFit-cond true x y h k = h
IsFit-cond false x y h k = k

IsFit-before : (x rest : Code) (levels : List Level) (store : List ℤ) (taken : ℕ) → IsCodeOf (length store) x → IsPlain x → IsCodeOf (length store) rest → IsPlain rest → AreFit (length store) levels → All IsInt store → IsFit (standing (followed x rest) levels store taken)
IsFit-before x rest levels store taken h p h' p' l k = record { names = IsCodeOf-followed (length store) x rest h h'; plain = IsPlain-followed x rest p p'; levels = l; ints = k }

IsFit-side : (b : Bool) (x y rest : Code) (levels : List Level) (store : List ℤ) (taken : ℕ) → IsCodeOf (length store) x → IsPlain x → IsCodeOf (length store) y → IsPlain y → IsCodeOf (length store) rest → IsPlain rest → AreFit (length store) levels → All IsInt store → IsFit (standing (followed (cond b x y) rest) levels store taken)
IsFit-side true x y rest levels store taken hx px hy py h p l k = IsFit-before x rest levels store taken hx px h p l k
IsFit-side false x y rest levels store taken hx px hy py h p l k = IsFit-before y rest levels store taken hy py h p l k

-- a variable that takes an `int`
IsFit-set : (rest : Code) (levels : List Level) (store : List ℤ) (taken target : ℕ) (n : ℤ) → IsCodeOf (length store) rest → IsPlain rest → AreFit (length store) levels → All IsInt store → IsInt n → IsFit (standing rest levels (slice_set store target n) taken)
IsFit-set rest levels store taken target n h p l k i = record {
  names = rw length-set h;
  plain = p;
  levels = rw length-set l;
  ints = All-set IsInt store target n i k;
}

IsInt-slice_get : (inputs : List ℤ) (i : ℕ) (n : ℤ) → All IsInt inputs → slice_get inputs i ≡ Some n → IsInt n
IsInt-slice_get inputs i n h e =
    let within = slice_get_within inputs i n e in
    let there = slice_get-get_or inputs i (pos 0) within in
    let same : get_or inputs i (pos 0) ≡ n = cc in
    subst IsInt same (h i (pos 0) within)

-- a jump from a fit standing
leads-leave_of : (mode : Mode) (place : Place) (jump : Jump) (levels : List Level) (store : List ℤ) (taken : ℕ) → AreFit (length store) levels → All IsInt store → LeadsFit (leave_of mode place jump levels store taken)
leads-leave_of mode place Break [] store taken l k = IsFit-over store taken k
leads-leave_of mode place Break (x ∷ ls) store taken l k = IsFit-out x ls store taken l k
leads-leave_of mode place Continue [] store taken l k = IsFit-over store taken k
leads-leave_of mode place Continue (x ∷ ls) store taken l k = IsFit-again x ls store taken l k
leads-leave_of mode place (Return e) levels store taken l k = leads-with_value place (value_of e store mode) _ (λ n i. IsFit-over store taken k)

leads-step_of : (mode : Mode) (inputs : List ℤ) (todo : Code) (levels : List Level) (store : List ℤ) (taken : ℕ) → All IsInt inputs → IsCodeOf (length store) todo → IsPlain todo → AreFit (length store) levels → All IsInt store → LeadsFit (step_of mode inputs todo levels store taken)
leads-step_of mode inputs Done levels store taken g h p l k = tt
leads-step_of mode inputs (Assign place target value rest) levels store taken g h p l k =
    leads-with_value place (value_of value store mode) _ (λ n e. IsFit-set rest levels store taken target n h.2 p l k (IsInt-value_of value store mode n h.1 k e))
leads-step_of mode inputs (Input place target rest) levels store taken g h p l k =
    leads-with_input place (slice_get inputs taken) _ (λ n e. IsFit-set rest levels store (taken + 1) target n h.1 p l k (IsInt-slice_get inputs taken n g e))
leads-step_of mode inputs (Assert place test rest) levels store taken g h p l k =
    leads-with_value place (value_of test store mode) _ (λ n e. leads-cond (is_zero n) _ _ tt (record { names = h.1; plain = p; levels = l; ints = k }))
leads-step_of mode inputs (If place test a b rest) levels store taken g h p l k =
    leads-with_value place (value_of test store mode) _ (λ n e. IsFit-side (is_zero n) b a rest levels store taken h.2 p.1 h.1 p.0 h.3 p.2 l k)
leads-step_of mode inputs (While place test step body rest) levels store taken g h p l k =
    let again = While place test step body rest in
    let level = run.while_level place test step body rest in
    let fit : IsFitLevel (length store) level = record { again = IsCodeOf-followed (length store) step again h.1 h; again_plain = IsPlain-followed step again p.0 p; out = h.3; out_plain = p.2 } in
    leads-with_value place (value_of test store mode) _ (λ n e. IsFit-cond (is_zero n) _ _
    (record { names = h.3; plain = p.2; levels = l; ints = k })
    (record { names = h.2; plain = p.1; levels = All-cons (IsFitLevel (length store)) level levels fit l; ints = k }))
leads-step_of mode inputs (Do place body at test rest) levels store taken g h p l k =
    let level = run.do_level place body at test rest in
    let fit : IsFitLevel (length store) level = record { again = (h.0, (h.0, h.1, tt), tt, h.2); again_plain = ((p.0, tt), tt, p.1); out = h.2; out_plain = p.1 } in
    record { names = h.1; plain = p.0; levels = All-cons (IsFitLevel (length store)) level levels fit l; ints = k }
leads-step_of mode inputs (Leave place jump rest) levels store taken g h p l k = leads-leave_of mode place jump levels store taken l k
leads-step_of mode inputs (Block place body rest) levels store taken g h p l k = IsFit-before body rest levels store taken h.0 p.0 h.1 p.1 l k
leads-step_of mode inputs (Skip place rest) levels store taken g h p l k = record { names = h; plain = p; levels = l; ints = k }
leads-step_of mode inputs (Cond number a b rest) levels store taken g h p l k = absurd p

keeps : (o : Outcome) (s : Standing) → LeadsFit o → IsFit s → IsFit (left_by o s)
keeps (Moved next) s h k = IsFit-settled next h
keeps (Stopped place kind) s h k = k
keeps (Waiting place) s h k = k
keeps Ended s h k = k

-- a step leaves a fit standing
pub IsFit-left_by : (mode : Mode) (inputs : List ℤ) (s : Standing) → All IsInt inputs → IsFit s → IsFit (left_by (next_of mode inputs s) s)
IsFit-left_by mode inputs s g h = keeps (next_of mode inputs s) s (leads-step_of mode inputs s.todo s.levels s.store s.taken g h.names h.plain h.levels h.ints) h

-- what a run answers, by what its first step answers
abbrev pub answered : Progress → List ℤ → End → End
answered progress.Moved store more = more
answered (progress.Stopped place kind) store more = StoppedEnd place kind
answered (progress.Waiting place) store more = WaitingEnd place store
answered progress.Ended store more = EndedEnd store

onward_is : (o : Outcome) (s : Standing) (go : Standing → End) → onward o s.store go ≡ answered (progress_of o) (left_by o s).store (go (left_by o s))
onward_is (Moved next) s go = refl
onward_is (Stopped place kind) s go = refl
onward_is (Waiting place) s go = refl
onward_is Ended s go = refl

-- the first of some steps
pub steps_of-first : (mode : Mode) (inputs : List ℤ) (n i : ℕ) (s : Standing) (p : Progress) → i < n → p ≡ progress_of (next_of mode inputs s) → steps_of mode inputs (n - i) s ≡ answered p (left_by (next_of mode inputs s) s).store (steps_of mode inputs (n - (i + 1)) (left_by (next_of mode inputs s) s))
steps_of-first mode inputs n i s p h q =
    let e : n - i ≡ suc (n - (i + 1)) = omega arith in
    ap (λ k. steps_of mode inputs k s) e ∙ (onward_is (next_of mode inputs s) s (steps_of mode inputs (n - (i + 1))) ∙ ap (λ x. answered x (left_by (next_of mode inputs s) s).store (steps_of mode inputs (n - (i + 1)) (left_by (next_of mode inputs s) s))) (sym q))

-- what a call leaves is fit, on each of its results
pub IsFit-after : {X E : Type 0} (r : Result X E) (new old : Standing) (outcome : Outcome) → IsFit (left_by outcome old) → IsFit old → IfOk r (λ _. new ≡ left_by outcome old) → IfErr r (λ _. new ≡ old) → IsFit new
IsFit-after (Ok x) new old outcome h k left err = subst IsFit (sym left) h
IsFit-after (Err e) new old outcome h k left err = subst IsFit (sym err) k

pub ruleset fits = (IsFit-left_by)

-- a plain program begins fit
pub fit_from_program : (p : Whole) → IsProgram p → IsPlainProgram p → IsFit (start_of p)
fit_from_program p h k = record { names = subst (λ (n : ℕ). IsCodeOf n p.body) (sym h.starts) h.names; plain = k.body; levels = All-nil (IsFitLevel (length p.start)); ints = h.ints }
