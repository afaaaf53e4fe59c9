-- The run with limits does what the run without does, where it reads a file or stops as wrong.
use Rattle.std.proofs.Common.{◌≡◌, ℕ, suc, Bool, true, false, List, [], ◌∷◌, length, Option, Some, None, Result, Ok, Err, refl, ap, ◌∙◌}
use Rattle.c_grammar.specs.declared.items.Item.{Item}
use Rattle.c_grammar.specs.Grammar.{File}
use Rattle.c_grammar.specs.Machine.{ReadingState, step, finish, at_end, moved, run, start}
use Rattle.c_grammar.specs.Deep.{counted, is_deep, Fault, Wrong, Deep, ended, went, guarded}

abbrev pub Answers : Result File Fault → ReadingState → List Item → Type 0
Answers (Ok f) from ts = run from ts ≡ Ok f
Answers (Err (Wrong n)) from ts = run from ts ≡ Err n
Answers (Err (Deep n)) from ts = Unit {0}

ends_so : (o : Option File) (state : ReadingState) → finish state ≡ o → Answers (ended o) state []
unfolding run
ends_so None state is = ap at_end is
ends_so (Some f) state is = ap at_end is

shift : (r : Result File Fault) (state next : ReadingState) (x : Item) (ts : List Item) → step state x.place x.sign ≡ Some next → Answers r next ts → Answers r state (x ∷ ts)
unfolding run
shift (Ok f) state next x ts is h = ap (λ (o : Option ReadingState). moved o (λ k. run k ts) (suc (length ts))) is ∙ h
shift (Err (Wrong n)) state next x ts is h = ap (λ (o : Option ReadingState). moved o (λ k. run k ts) (suc (length ts))) is ∙ h
shift (Err (Deep n)) state next x ts is h = tt

goes_so : (o : Option ReadingState) (d : Bool) (state : ReadingState) (go : ReadingState → Result File Fault) (x : Item) (ts : List Item) → step state x.place x.sign ≡ o → ((next : ReadingState) → Answers (go next) next ts) → Answers (went o d go (suc (length ts))) state (x ∷ ts)
unfolding run
goes_so None d state go x ts is rec = ap (λ (o : Option ReadingState). moved o (λ k. run k ts) (suc (length ts))) is
goes_so (Some next) true state go x ts is rec = tt
goes_so (Some next) false state go x ts is rec = shift (go next) state next x ts is (rec next)

answers : (ts : List Item) (state : ReadingState) (count : ℕ) → Answers (guarded state count ts) state ts
unfolding guarded
answers [] state count = ends_so (finish state) state refl
answers (x ∷ ts) state count = goes_so (step state x.place x.sign) (is_deep state x.sign count) state (λ next. guarded next (counted state x.sign count) ts) x ts refl (λ next. answers ts next (counted state x.sign count))

pub limited : (items : List Item) → Answers (guarded start 0 items) start items
limited items = answers items start 0
