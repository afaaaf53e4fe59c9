-- The first item that is too deep, and the laws of the limits.
use Rattle.std.proofs.Common.{◌≡◌, ℕ, suc, ◌≤◌, Bool, true, false, List, [], ◌∷◌, ◌++◌, length, Option, Some, None, Result, Ok, Err, refl, sym, ap, subst, ◌∙◌, append_assoc, arith}
use Rattle.std.proofs.lemmas.Bool.{leb-false, or_parts}
use Rattle.c_grammar.specs.declared.items.Item.{Item}
use Rattle.c_grammar.specs.Grammar.{File}
use Rattle.c_grammar.specs.Machine.{ReadingState, step, finish, moved, run, start}
use Rattle.c_grammar.specs.Deep.{counted, is_deep, is_nested, is_long, Fault, Wrong, Deep, ended, went, guarded}
use Rattle.c_grammar.specs.Laws.{ReadsWithin, StopsWrong, StopsDeep}
use Rattle.c_grammar.specs.Within.{FormsWithin}
use Rattle.c_grammar.specs.Faults.{IsWrong, IsTooDeep, NothingDeep}
use Rattle.c_grammar.proofs.Files.{is_read}
use Rattle.c_grammar.proofs.Closing.{completes}
use Rattle.c_grammar.proofs.Sound.{ok_forms}
use Rattle.c_grammar.proofs.Wrong.{Leads, leads_on, read_err, is_wrong, wrong_is_found_law}
use Rattle.c_grammar.proofs.Deeper.{Answers, limited}
use Rattle.c_grammar.proofs.FilesWithin.{read_within}
use Rattle.c_grammar.proofs.SoundFilesWithin.{forms_back}
use Rattle.c_grammar.proofs.ClosingWithin.{goes_on_within}

abbrev done : File → Result File Fault
done f = Ok f

abbrev wrong : ℕ → Result File Fault
wrong n = Err (Wrong n)

abbrev deep : ℕ → Result File Fault
deep n = Err (Deep n)

not_both : (f : File) (n : ℕ) (r : Result File Fault) → r ≡ Ok f → r ≡ deep n → ⊥
not_both f n r p q = let h : done f ≡ deep n = sym p ∙ q in cc

not_wrong : (m n : ℕ) (r : Result File Fault) → r ≡ wrong m → r ≡ deep n → ⊥
not_wrong m n r p q = let h : wrong m ≡ deep n = sym p ∙ q in cc

deep_is : (m n : ℕ) → deep m ≡ deep n → m ≡ n
deep_is m n h = cc

-- what is read within the limits is a file within them
pub forms_within : (items : List Item) (f : File) → guarded start 0 items ≡ Ok f → FormsWithin items f
forms_within items f h = forms_back f (ok_forms items f (subst (λ (r : Result File Fault). Answers r start items) h (limited items))) h

-- ---- one item

counted_few : (state : ReadingState) (x : Item) (n : ℕ) → is_deep state x.sign n ≡ false → counted state x.sign n ≤ 64
counted_few state x n h = let lt = leb-false 65 (counted state x.sign n) (or_parts (is_nested state x.sign) (is_long state x.sign n) h).1 in omega (arith, lt)

moves_on : (state next : ReadingState) (n : ℕ) (x : Item) (w : List Item) → step state x.place x.sign ≡ Some next → is_deep state x.sign n ≡ false → guarded state n (x ∷ w) ≡ guarded next (counted state x.sign n) w
unfolding guarded
moves_on state next n x w is shallow =
    ap (λ (o : Option ReadingState). went o (is_deep state x.sign n) (λ k. guarded k (counted state x.sign n) w) (suc (length w))) is
    ∙ ap (λ (d : Bool). went (Some next) d (λ k. guarded k (counted state x.sign n) w) (suc (length w))) shallow

stops_deep : (state next : ReadingState) (n : ℕ) (x : Item) (w : List Item) → step state x.place x.sign ≡ Some next → is_deep state x.sign n ≡ true → guarded state n (x ∷ w) ≡ deep (suc (length w))
unfolding guarded
stops_deep state next n x w is at =
    ap (λ (o : Option ReadingState). went o (is_deep state x.sign n) (λ k. guarded k (counted state x.sign n) w) (suc (length w))) is
    ∙ ap (λ (d : Bool). went (Some next) d (λ k. guarded k (counted state x.sign n) w) (suc (length w))) at

-- ---- the first item that is too deep

-- the items so far lead to a state within the limits
abbrev pub LeadsWithin : List Item → ReadingState → ℕ → Type 0
LeadsWithin a state n = (w : List Item) → guarded start 0 (a ++ w) ≡ guarded state n w

leads_further : (a : List Item) (x : Item) (state next : ReadingState) (n : ℕ) → LeadsWithin a state n → step state x.place x.sign ≡ Some next → is_deep state x.sign n ≡ false → LeadsWithin (a ++ x ∷ []) next (counted state x.sign n)
leads_further a x state next n leads is shallow w = ap (guarded start 0) (append_assoc a (x ∷ []) w) ∙ leads (x ∷ w) ∙ moves_on state next n x w is shallow

too_deep : (a : List Item) (x : Item) (ts : List Item) (state next : ReadingState) (n m : ℕ) → n ≤ 64 → Leads a state → LeadsWithin a state n → step state x.place x.sign ≡ Some next → is_deep state x.sign n ≡ true → deep (suc (length ts)) ≡ deep m → IsTooDeep (a ++ x ∷ ts) m
unfolding run
too_deep a x ts state next n m few leads within is at h =
    let c = goes_on_within state n few in
    let d = completes next in
    record {
      before = a;
      item = x;
      rest = ts;
      cut = refl;
      left = deep_is (suc (length ts)) m h;
      tail = c.0;
      made = c.1;
      goes_on = forms_within (a ++ c.0) c.1 (within c.0 ∙ c.2);
      some = d.0;
      other = d.1;
      continues = ok_forms (a ++ x ∷ d.0) d.1 (leads (x ∷ d.0) ∙ ap (λ (o : Option ReadingState). moved o (λ k. run k d.0) (suc (length d.0))) is ∙ d.2);
      stops = λ more f s. not_both f (suc (length more)) (guarded start 0 (a ++ x ∷ more)) (read_within (a ++ x ∷ more) f s) (within (x ∷ more) ∙ stops_deep state next n x more is at);
    }

no_deep_end : (o : Option File) (m : ℕ) → ended o ≡ deep m → ⊥
no_deep_end None m h = absurd cc
no_deep_end (Some f) m h = absurd cc

no_deep_wrong : (d : Bool) (go : ReadingState → Result File Fault) (n m : ℕ) → went None d go n ≡ deep m → ⊥
no_deep_wrong d go n m h = absurd cc

first_deep : (ts a : List Item) (state : ReadingState) (n m : ℕ) → n ≤ 64 → Leads a state → LeadsWithin a state n → guarded state n ts ≡ deep m → IsTooDeep (a ++ ts) m
unfolding guarded
first_deep [] a state n m few leads within h = absurd (no_deep_end (finish state) m h)
first_deep (x ∷ ts) a state n m few leads within h =
    let go : ReadingState → Result File Fault = λ k. guarded k (counted state x.sign n) ts in
    elim (step state x.place x.sign) as (λ o. step state x.place x.sign ≡ o → went o (is_deep state x.sign n) go (suc (length ts)) ≡ deep m → IsTooDeep (a ++ x ∷ ts) m) [
      | None ↦ λ is e. absurd (no_deep_wrong (is_deep state x.sign n) go (suc (length ts)) m e)
      | Some next ↦ λ is e. elim (is_deep state x.sign n) as (λ d. is_deep state x.sign n ≡ d → went (Some next) d go (suc (length ts)) ≡ deep m → IsTooDeep (a ++ x ∷ ts) m) [
        | true ↦ λ at k. too_deep a x ts state next n m few leads within is at k
        | false ↦ λ at k. subst (λ (y : List Item). IsTooDeep y m) (append_assoc a (x ∷ []) ts) (first_deep ts (a ++ x ∷ []) next (counted state x.sign n) m (counted_few state x n at) (leads_on a x state next leads is) (leads_further a x state next n within is at) k)
      ] refl e
    ] refl h

pub is_too_deep : (items : List Item) (n : ℕ) → guarded start 0 items ≡ deep n → IsTooDeep items n
is_too_deep items n h = first_deep items [] start 0 n (omega arith) (λ w. refl) (λ w. refl) h

-- ---- only there

record Reached (from : ReadingState) (n : ℕ) (ts : List Item) : Type 0 where
  pub state : ReadingState
  pub count : ℕ
  pub few : count ≤ 64
  pub leads : (w : List Item) → run from (ts ++ w) ≡ run state w
  pub within : (w : List Item) → guarded from n (ts ++ w) ≡ guarded state count w

no_wrong_ok : (d : Bool) (go : ReadingState → Result File Fault) (n : ℕ) (f : File) → went None d go n ≡ Ok f → ⊥
no_wrong_ok d go n f h = absurd cc

no_deep_ok : (next : ReadingState) (go : ReadingState → Result File Fault) (n : ℕ) (f : File) → went (Some next) true go n ≡ Ok f → ⊥
no_deep_ok next go n f h = absurd cc

reaches : (from : ReadingState) (n : ℕ) (ts w : List Item) (f : File) → n ≤ 64 → guarded from n (ts ++ w) ≡ Ok f → Reached from n ts
unfolding run guarded
reaches from n [] w f few h = record { state = from; count = n; few = few; leads = λ v. refl; within = λ v. refl }
reaches from n (x ∷ ts) w f few h =
    let go : ReadingState → Result File Fault = λ k. guarded k (counted from x.sign n) (ts ++ w) in
    elim (step from x.place x.sign) as (λ o. step from x.place x.sign ≡ o → went o (is_deep from x.sign n) go (suc (length (ts ++ w))) ≡ Ok f → Reached from n (x ∷ ts)) [
      | None ↦ λ is e. absurd (no_wrong_ok (is_deep from x.sign n) go (suc (length (ts ++ w))) f e)
      | Some next ↦ λ is e. elim (is_deep from x.sign n) as (λ d. is_deep from x.sign n ≡ d → went (Some next) d go (suc (length (ts ++ w))) ≡ Ok f → Reached from n (x ∷ ts)) [
        | true ↦ λ at k. absurd (no_deep_ok next go (suc (length (ts ++ w))) f k)
        | false ↦ λ at k.
            let r = reaches next (counted from x.sign n) ts w f (counted_few from x n at) k in
            record {
              state = r.state;
              count = r.count;
              few = r.few;
              leads = λ v. ap (λ (o : Option ReadingState). moved o (λ s. run s (ts ++ v)) (suc (length (ts ++ v)))) is ∙ r.leads v;
              within = λ v. moves_on from next n x (ts ++ v) is at ∙ r.within v;
            }
      ] refl e
    ] refl h

no_stop_ok : (go : ReadingState → Result File ℕ) (n : ℕ) (f : File) → moved None go n ≡ Ok f → ⊥
no_stop_ok go n f h = absurd cc

pub deep_found : (items : List Item) (n : ℕ) → IsTooDeep items n → guarded start 0 items ≡ deep n
unfolding run
deep_found items n h =
    let r = reaches start 0 h.before h.tail h.made (omega arith) (read_within (h.before ++ h.tail) h.made h.goes_on) in
    let x = h.item in
    let some : run r.state (x ∷ h.some) ≡ Ok h.other = sym (r.leads (x ∷ h.some)) ∙ is_read (h.before ++ x ∷ h.some) h.other h.continues in
    let go : ReadingState → Result File ℕ = λ k. run k h.some in
    elim (step r.state x.place x.sign) as (λ o. step r.state x.place x.sign ≡ o → moved o go (suc (length h.some)) ≡ Ok h.other → guarded start 0 items ≡ deep n) [
      | None ↦ λ is e. absurd (no_stop_ok go (suc (length h.some)) h.other e)
      | Some next ↦ λ is e. elim (is_deep r.state x.sign r.count) as (λ d. is_deep r.state x.sign r.count ≡ d → guarded start 0 items ≡ deep n) [
        | true ↦ λ at. ap (guarded start 0) h.cut ∙ r.within (x ∷ h.rest) ∙ stops_deep r.state next r.count x h.rest is at ∙ ap deep h.left
        | false ↦ λ at.
            let c = goes_on_within next (counted r.state x.sign r.count) (counted_few r.state x r.count at) in
            absurd (h.stops c.0 c.1 (forms_within (h.before ++ x ∷ c.0) c.1 (r.within (x ∷ c.0) ∙ moves_on r.state next r.count x c.0 is at ∙ c.2)))
      ] refl
    ] refl some

-- ---- the laws

pub reads_within_law : ReadsWithin
reads_within_law items f = (forms_within items f, read_within items f)

pub stops_deep_law : StopsDeep
stops_deep_law items n = (is_too_deep items n, deep_found items n)

same_left : (m n : ℕ) (r : Result File ℕ) → r ≡ Err m → r ≡ Err n → m ≡ n
same_left m n r p q = cc

ok_or_err : (f : File) (n : ℕ) (r : Result File ℕ) → r ≡ Ok f → r ≡ Err n → ⊥
ok_or_err f n r p q = cc

wrong_there : (items : List Item) (n : ℕ) → guarded start 0 items ≡ wrong n → IsWrong items n × NothingDeep items
wrong_there items n h = (
  is_wrong items n (subst (λ (r : Result File Fault). Answers r start items) h (limited items)),
  λ k d. not_wrong n k (guarded start 0 items) h (deep_found items k d),
)

wrong_found : (items : List Item) (n : ℕ) → IsWrong items n → NothingDeep items → (r : Result File Fault) → guarded start 0 items ≡ r → Answers r start items → r ≡ wrong n
wrong_found items n w shallow (Ok f) is a = absurd (ok_or_err f n (run start items) a (read_err [] items n (run start items) (wrong_is_found_law [] items n w)))
wrong_found items n w shallow (Err (Wrong m)) is a = ap wrong (same_left m n (run start items) a (read_err [] items n (run start items) (wrong_is_found_law [] items n w)))
wrong_found items n w shallow (Err (Deep m)) is a = absurd (shallow m (is_too_deep items m is))

pub stops_wrong_law : StopsWrong
stops_wrong_law items n = (wrong_there items n, λ h. wrong_found items n h.0 h.1 (guarded start 0 items) refl (limited items))
