-- What the loads and the work of a request came to is what the run did.
use Rattle.std.proofs.Common.{◌≡◌, ◌≢◌, ◌≤◌, ℕ, true, false, List, [], refl, subst, sym, arith, inl, inr, nat_eq}
use Rattle.std.proofs.lemmas.Bool.{eqb-true, eqb-false}
use Rattle.std.specs.Prelude.{Option, Result, Ok, Err, IsOk, if◌then◌else◌}
use Rattle.fam_outer.specs.Causes.{Rose, one_more}
use Rattle.fam_outer.specs.Loading.{AreGiven, Load}
use Rattle.fam_outer.proofs.Given.{AreHeld, given_so, told_agree}
use Rattle.famlint_loads.specs.declared.fault.Done.{Done}
use Rattle.famlint_loads.specs.declared.fault.Fault.{Fault}
use Rattle.famlint_loads.specs.declared.fault.Failure.{Failure}
use Rattle.famlint_loads.specs.declared.fault.Failure.TheVariants as failure
use Rattle.famlint_loads.specs.Contents.{Contents}
use Rattle.famlint_loads.specs.Loads.{IsRight, faults_read}
use Rattle.famlint_loads.proofs.Right.{right_no_memory}
use Rattle.famlint_requests.specs.declared.request.Request.{Request}
use Rattle.famlint_requests.specs.declared.request.Request.TheVariants as request
use Rattle.famlint_requests.specs.declared.request.Role.{Role}
use Rattle.famlint_requests.specs.Requests.{role_of}
use Rattle.famlint_core.specs.Answers.{IsTold, Answers, Promised, IsLoaded, sources_of, contents_of}
use Rattle.famlint_core.specs.Endings.{Streams, IsEnded, EndsWith, faults_at}
use Rattle.famlint_core.specs.Runs.{IsRun}
use Rattle.famlint_core.proofs.Ended.{appended, ends_with, refused_high}

-- ---- loads

-- no load
pub given_none : {S X : Type 0} (loads : S → Load → S → Type 0) (content : List ℕ → Option (List ℕ)) (state : S) (contents : X → List (List ℕ)) (D : Type 0)
    (Hold : X → Type 0) → ((told : X) → Hold told) → AreGiven loads content state state [] contents D Hold
given_none loads content state contents D Hold holds = record {
  history = [];
  lead = refl;
  of = tt;
  all = λ done. refl;
  answered = tt;
  hold = λ told agree. holds told;
}

-- what is told of the paths is held by the sources
held_of : (r : Request) (content : List ℕ → Option (List ℕ)) (told : Contents) → IsTold r content told → AreHeld content (sources_of r) (contents_of r told)
held_of (request.Plain file includes analysis) content told is = (is, tt)
held_of (request.Variant model file dialect settings task) content told is = (is.0, (is.1, tt))
held_of (request.Family model file dialect analysis regions task) content told is = (is.0, (is.1, tt))
held_of (request.Page model file dialect analysis regions) content told is = (is.0, (is.1, tt))
held_of (request.Generate number analysis regions) content told is = tt
held_of (request.Check model file certificate dialect) content told is = (is.0, (is.1, (is.2, tt)))
held_of (request.Advice model file dialect settings analysis) content told is = (is.0, (is.1, tt))
held_of (request.Features model unknown) content told is = (is, tt)
held_of (request.Guide guide) content told is = tt

-- what is given holds of what is told
pub given_told : {S : Type 0} (loads : S → Load → S → Type 0) (content : List ℕ → Option (List ℕ)) (before after : S) (r : Request) (D : Type 0)
    (Hold : Contents → Type 0) (told : Contents) → AreGiven loads content before after (sources_of r) (contents_of r) D Hold → IsTold r content told → Hold told
given_told loads content before after r D Hold told g is =
    g.hold told (told_agree content g.history (sources_of r) (contents_of r told) g.of g.answered (held_of r content told is))

-- want of memory is right whatever is wanted
pub right_memory : (MayBe : Result Done Fault → Type 0) (Wanted : ℕ → List ℕ → Type 0) (Loaded : Option (List ℕ) → Type 0) (failed : Option (List ℕ))
    (came : Result Done Failure) → came ≡ Err failure.NoMemory → IsRight MayBe Wanted Loaded failed came
right_memory MayBe Wanted Loaded failed came e =
    subst (λ (x : Result Done Failure). IsRight MayBe Wanted Loaded failed x) (sym e) (right_no_memory MayBe Wanted Loaded failed)

-- ---- the run

done_of_low : (came : Result Done Failure) (role : Role) (status : ℕ) (before after : Streams) → IsEnded came role status before after → status ≤ 1 → IsOk came
done_of_low (Ok done) role status before after ended low = refl
done_of_low (Err (failure.Refused given)) role status before after ended low =
    let e = ended.ends.exact (omega (arith, low)) (omega (arith, low)) (omega (arith, low)) in absurd (omega (arith, low, e, refused_high given))
done_of_low (Err failure.ReadFault) role status before after ended low = absurd (omega (arith, low, ended.ends.0))
done_of_low (Err failure.NoMemory) role status before after ended low = absurd (omega (arith, low, ended.ends.0))

is_run : (r : Request) (told : Contents) (came : Result Done Failure) (failed : Option (List ℕ)) (role : Role) (status : ℕ) (before after : Streams)
    → role ≡ role_of r failed → IsEnded came role status before after → IsRight (Answers r told) (Promised r told) (IsLoaded r told) failed came
    → IsRun r failed status before after told
is_run r told came failed role status before after role_is ended right = record {
  answer = subst (λ (x : Role). EndsWith (Answers r told) x status before after) role_is (ends_with (Answers r told) came role status before after right.answer ended);
  promise = appended (Promised r told) came role status before after right.promise ended;
  order = λ six. right.order (ended.read six);
}

-- what was done for a request, and how the program ended with it, is a run for the request that was read
pub run_given : {S : Type 0} (loads : S → Load → S → Type 0) (content : List ℕ → Option (List ℕ)) (old new : S) (mine asked : Request)
    (came : Result Done Failure) (failed : Option (List ℕ)) (role : Role) (status : ℕ) (before after : Streams) → mine ≡ asked → role ≡ role_of mine failed
    → IsEnded came role status before after
    → AreGiven loads content old new (sources_of mine) (contents_of mine) (IsOk came) (λ told. IsRight (Answers mine told) (Promised mine told) (IsLoaded mine told) failed came)
    → AreGiven loads content old new (sources_of asked) (contents_of asked) (status ≤ 1) (IsRun asked failed status before after)
run_given loads content old new mine asked came failed role status before after same role_is ended given =
    let P : Request → Type 0 = λ r. AreGiven loads content old new (sources_of r) (contents_of r) (status ≤ 1) (IsRun r failed status before after) in
    subst P same (given_so loads content old new (sources_of mine) (contents_of mine) (IsOk came) (status ≤ 1)
    (λ told. IsRight (Answers mine told) (Promised mine told) (IsLoaded mine told) failed came) (IsRun mine failed status before after) given
    (done_of_low came role status before after ended) (λ told. is_run mine told came failed role status before after role_is ended))

-- a run that ends for want of memory before any load
pub run_before_loads : {S : Type 0} (loads : S → Load → S → Type 0) (content : List ℕ → Option (List ℕ)) (state : S) (r : Request)
    (failed : Option (List ℕ)) (status : ℕ) (before after : Streams) → status ≡ 8
    → AreGiven loads content state state (sources_of r) (contents_of r) (status ≤ 1) (IsRun r failed status before after)
run_before_loads loads content state r failed status before after eight = record {
  history = [];
  lead = refl;
  of = tt;
  all = λ low. absurd (omega (arith, low, eight));
  answered = tt;
  hold = λ told agree. record {
    answer = inr (inl eight);
    promise = λ low. absurd (omega (arith, low, eight));
    order = λ six. absurd (omega (arith, six, eight));
  };
}

-- ---- counts

counted_here : (fault status before now : ℕ) → status ≡ fault → now ≡ one_more before → now ≡ faults_at fault status before
counted_here fault status before now is counted = elim (nat_eq status fault) as (λ b. nat_eq status fault ≡ b → now ≡ (if b then one_more before else before)) [
  | true ↦ λ e. counted
  | false ↦ λ e. absurd (eqb-false status fault e is)
] refl

counted_elsewhere : (fault status before now : ℕ) → status ≢ fault → now ≡ before → now ≡ faults_at fault status before
counted_elsewhere fault status before now isnt counted = elim (nat_eq status fault) as (λ b. nat_eq status fault ≡ b → now ≡ (if b then one_more before else before)) [
  | true ↦ λ e. absurd (isnt (eqb-true status fault e))
  | false ↦ λ e. counted
] refl

-- one load failed exactly at 6
pub loads_counted : (came : Result Done Failure) (role : Role) (status before now : ℕ) (old new : Streams) → IsEnded came role status old new
    → now ≡ faults_read came before → now ≡ faults_at 6 status before
loads_counted (Ok done) role status before now old new ended counted = counted_elsewhere 6 status before now (λ six. ended.read six) counted
loads_counted (Err (failure.Refused given)) role status before now old new ended counted = counted_elsewhere 6 status before now (λ six. ended.read six) counted
loads_counted (Err failure.ReadFault) role status before now old new ended counted = counted_here 6 status before now ended.ends.0 counted
loads_counted (Err failure.NoMemory) role status before now old new ended counted = counted_elsewhere 6 status before now (λ six. ended.read six) counted

-- a count that is one more rose
pub risen_at : (fault status before now : ℕ) → now ≡ faults_at fault status before → status ≡ fault → Rose before now
risen_at fault status before now counted is = elim (nat_eq status fault) as (λ b. nat_eq status fault ≡ b → now ≡ (if b then one_more before else before) → Rose before now) [
  | true ↦ λ e k. omega (arith, k)
  | false ↦ λ e k. absurd (eqb-false status fault e is)
] refl counted

-- a count that stays 0 tells that the status is another
pub never_at : (fault status : ℕ) → 0 ≡ faults_at fault status 0 → status ≢ fault
never_at fault status counted = elim (nat_eq status fault) as (λ b. nat_eq status fault ≡ b → 0 ≡ (if b then one_more 0 else 0) → status ≢ fault) [
  | true ↦ λ e k. absurd (omega (arith, k))
  | false ↦ λ e k. eqb-false status fault e
] refl counted
