-- The first wrong item, and the laws.
use Rattle.std.proofs.Common.{◌≡◌, ℕ, suc, List, [], ◌∷◌, ◌++◌, length, Option, Some, None, Result, Ok, Err, refl, sym, ap, subst, ◌∙◌, append_assoc}
use Rattle.std.proofs.lemmas.List.{append-nil}
use Rattle.c_tree.specs.Tree.{Whole}
use Rattle.c_grammar.specs.declared.items.Item.{Item}
use Rattle.c_grammar.specs.Grammar.{File, Forms, whole_of}
use Rattle.c_grammar.specs.Machine.{ReadingState, step, finish, at_end, moved, run, start}
use Rattle.c_grammar.specs.Faults.{Stops, IsWrong}
use Rattle.c_grammar.specs.Laws.{program_in, on_with, after, AtMostOne, Complete, Sound, FindsWrong, WrongIsFound, StepsDecide, StepsGoOn, EndsDecide}
use Rattle.c_grammar.proofs.Files.{is_read}
use Rattle.c_grammar.proofs.Closing.{completes}
use Rattle.c_grammar.proofs.Sound.{ok_forms}

abbrev done : File → Result File ℕ
done e = Ok e

abbrev failed : ℕ → Result File ℕ
failed n = Err n

same_ok : (a b : File) (r : Result File ℕ) → r ≡ Ok a → r ≡ Ok b → a ≡ b
same_ok a b r p q = let h : done a ≡ done b = sym p ∙ q in cc

pub one : (ts : List Item) → ((a b : File) → Forms ts a → Forms ts b → a ≡ b)
one ts a b s t = same_ok a b (run start ts) (is_read ts a s) (is_read ts b t)

never : (e : File) (n : ℕ) (r : Result File ℕ) → r ≡ Ok e → r ≡ Err n → ⊥
never e n r p q = let h : done e ≡ failed n = sym p ∙ q in cc

err_is : (m n : ℕ) → failed m ≡ failed n → m ≡ n
err_is m n h = cc

-- the items so far lead to a state
abbrev pub Leads : List Item → ReadingState → Type 0
Leads a state = (w : List Item) → run start (a ++ w) ≡ run state w

ends_wrong : (a : List Item) (state : ReadingState) (n : ℕ) (o : Option File) → Leads a state → finish state ≡ o → at_end o ≡ failed n → IsWrong a n
unfolding run
ends_wrong a state n None leads is h =
    let c = completes state in
    record {
      before = a;
      rest = [];
      cut = sym (append-nil a);
      left = err_is 0 n h;
      tail = c.0;
      made = c.1;
      goes_on = ok_forms (a ++ c.0) c.1 (leads c.0 ∙ c.2);
      stops = λ e s. never e 0 (run start a) (is_read a e s) (ap (run start) (sym (append-nil a)) ∙ leads [] ∙ ap at_end is);
    }
ends_wrong a state n (Some e) leads is h = absurd cc

stops_wrong : (a : List Item) (x : Item) (ts : List Item) (state : ReadingState) (n : ℕ) → Leads a state → step state x.place x.sign ≡ None → failed (suc (length ts)) ≡ failed n → IsWrong (a ++ x ∷ ts) n
unfolding run
stops_wrong a x ts state n leads is h =
    let c = completes state in
    record {
      before = a;
      rest = x ∷ ts;
      cut = refl;
      left = err_is (suc (length ts)) n h;
      tail = c.0;
      made = c.1;
      goes_on = ok_forms (a ++ c.0) c.1 (leads c.0 ∙ c.2);
      stops = λ more e s. never e (suc (length more)) (run start (a ++ x ∷ more)) (is_read (a ++ x ∷ more) e s) (leads (x ∷ more) ∙ ap (λ (o : Option ReadingState). moved o (λ next. run next more) (suc (length more))) is);
    }

pub leads_on : (a : List Item) (x : Item) (state next : ReadingState) → Leads a state → step state x.place x.sign ≡ Some next → Leads (a ++ x ∷ []) next
unfolding run
leads_on a x state next leads is w = ap (run start) (append_assoc a (x ∷ []) w) ∙ leads (x ∷ w) ∙ ap (λ (o : Option ReadingState). moved o (λ next. run next w) (suc (length w))) is

first_wrong : (ts a : List Item) (state : ReadingState) (n : ℕ) → Leads a state → run state ts ≡ Err n → IsWrong (a ++ ts) n
unfolding run
first_wrong [] a state n leads h = subst (λ (y : List Item). IsWrong y n) (sym (append-nil a)) (ends_wrong a state n (finish state) leads refl h)
first_wrong (x ∷ ts) a state n leads h = elim (step state x.place x.sign) as (λ o. step state x.place x.sign ≡ o → moved o (λ next. run next ts) (suc (length ts)) ≡ Err n → IsWrong (a ++ x ∷ ts) n) [
  | None ↦ λ is e. stops_wrong a x ts state n leads is e
  | Some next ↦ λ is e. subst (λ (y : List Item). IsWrong y n) (append_assoc a (x ∷ []) ts) (first_wrong ts (a ++ x ∷ []) next n (leads_on a x state next leads is) e)
] refl h

pub is_wrong : (ts : List Item) (n : ℕ) → run start ts ≡ Err n → IsWrong ts n
is_wrong ts n h = first_wrong ts [] start n (λ w. refl) h

-- ---- the laws

leads_from : (from : ReadingState) (ts : List Item) (state : ReadingState) → after from ts ≡ Some state → (w : List Item) → run from (ts ++ w) ≡ run state w
unfolding run
leads_from from [] state h w = let is : from ≡ state = cc in ap (λ (s : ReadingState). run s w) is
leads_from from (x ∷ ts) state h w = elim (step from x.place x.sign) as (λ o. on_with o (λ next. after next ts) ≡ Some state → moved o (λ next. run next (ts ++ w)) (suc (length (ts ++ w))) ≡ run state w) [
  | None ↦ λ e. absurd cc
  | Some next ↦ λ e. leads_from next ts state e w
] h

leads : (ts : List Item) (state : ReadingState) → after start ts ≡ Some state → Leads ts state
leads ts state h = leads_from start ts state h

read_ok : (names : List (List ℕ)) (items : List Item) (p : Whole) (r : Result File ℕ) → program_in names items r ≡ Ok p → (f : File) × (r ≡ Ok f) × (p ≡ whole_of names items f)
read_ok names items p (Ok f) h = (f, refl, cc)
read_ok names items p (Err n) h = absurd cc

pub read_err : (names : List (List ℕ)) (items : List Item) (n : ℕ) (r : Result File ℕ) → program_in names items r ≡ Err n → r ≡ Err n
read_err names items n (Ok f) h = absurd cc
read_err names items n (Err m) h = let is : m ≡ n = cc in ap Err is

pub complete_law : Complete
complete_law names items p s = ap (program_in names items) (is_read items s.file s.forms) ∙ ap Ok (sym s.is)

pub sound_law : Sound
sound_law names items p h = let r = read_ok names items p (run start items) h in record { file = r.0; forms = ok_forms items r.0 r.1; is = r.2 }

pub at_most_one_law : AtMostOne
at_most_one_law names items p q s t = let is : s.file ≡ t.file = one items s.file t.file s.forms t.forms in s.is ∙ ap (whole_of names items) is ∙ sym t.is

pub finds_wrong_law : FindsWrong
finds_wrong_law names items n h = is_wrong items n (read_err names items n (run start items) h)

pub steps_decide_law : StepsDecide
unfolding run
steps_decide_law before state x h is more f s = never f (suc (length more)) (run start (before ++ x ∷ more)) (is_read (before ++ x ∷ more) f s) (leads before state h (x ∷ more) ∙ ap (λ (o : Option ReadingState). moved o (λ next. run next more) (suc (length more))) is)

pub steps_go_on_law : StepsGoOn
steps_go_on_law before state h = let c = completes state in (c.0, c.1, ok_forms (before ++ c.0) c.1 (leads before state h c.0 ∙ c.2))

pub ends_decide_law : EndsDecide
unfolding run
ends_decide_law items state h is f s = never f 0 (run start items) (is_read items f s) (ap (run start) (sym (append-nil items)) ∙ leads items state h [] ∙ ap at_end is)

-- ---- only there

reaches : (from : ReadingState) (ts w : List Item) (f : File) → run from (ts ++ w) ≡ Ok f → (state : ReadingState) × (after from ts ≡ Some state)
unfolding run
reaches from [] w f h = (from, refl)
reaches from (x ∷ ts) w f h = elim (step from x.place x.sign) as (λ o. moved o (λ next. run next (ts ++ w)) (suc (length (ts ++ w))) ≡ Ok f → (state : ReadingState) × (on_with o (λ next. after next ts) ≡ Some state)) [
  | None ↦ λ e. absurd cc
  | Some next ↦ λ e. reaches next ts w f e
] h

found_at : (before rest : List Item) (state : ReadingState) → after start before ≡ Some state → Stops before rest → run start (before ++ rest) ≡ failed (length rest)
unfolding run
found_at before [] state is stops = leads before state is [] ∙ elim (finish state) as (λ o. finish state ≡ o → at_end o ≡ failed 0) [
  | None ↦ λ e. refl
  | Some f ↦ λ e. absurd (stops f (ok_forms before f (ap (run start) (sym (append-nil before)) ∙ leads before state is [] ∙ ap at_end e)))
] refl
found_at before (x ∷ rest) state is stops = leads before state is (x ∷ rest) ∙ elim (step state x.place x.sign) as (λ o. step state x.place x.sign ≡ o → moved o (λ next. run next rest) (suc (length rest)) ≡ failed (suc (length rest))) [
  | None ↦ λ e. refl
  | Some next ↦ λ e.
      let c = completes next in
      absurd (stops c.0 c.1 (ok_forms (before ++ x ∷ c.0) c.1 (leads before state is (x ∷ c.0) ∙ ap (λ (o : Option ReadingState). moved o (λ k. run k c.0) (suc (length c.0))) e ∙ c.2)))
] refl

pub wrong_is_found_law : WrongIsFound
wrong_is_found_law names items n h =
    let r = reaches start h.before h.tail h.made (is_read (h.before ++ h.tail) h.made h.goes_on) in
    ap (program_in names items) (ap (run start) h.cut ∙ found_at h.before h.rest r.0 r.1 h.stops ∙ ap failed h.left)
