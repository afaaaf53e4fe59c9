-- What a command's loads and work came to is right for what its paths hold.
use Rattle.std.proofs.Common.{◌≡◌, ℕ, List, [], ◌∷◌, inl, inr, subst}
use Rattle.std.specs.Prelude.{Option, Some, Result, Ok, Err}
use Rattle.fam_outer.specs.declared.dialect.Unknown.{Unknown}
use Rattle.fam_outer.specs.Loading.{AreGiven, Load, Source}
use Rattle.famlint_loads.specs.declared.fault.Done.{Done}
use Rattle.famlint_loads.specs.declared.fault.Fault.{Fault}
use Rattle.famlint_loads.specs.declared.fault.Failure.{Failure}
use Rattle.famlint_loads.specs.declared.fault.Failure.TheVariants as failure
use Rattle.famlint_loads.specs.Contents.{Contents, of_line}
use Rattle.famlint_loads.specs.Loads.{Comes, IsReadFault, IsRight, IsOneOf, model_source, file_source}
use Rattle.famlint_loads.specs.ProductLines.{ComesOfLine, IsLoadedFor}
use Rattle.famlint_loads.proofs.Loading.{fault_of_any}

-- a refusal of one kind of result is one of another
pub refused_as : {X Y : Type 0} (MayBe : Result X Fault → Type 0) (Other : Result Y Fault → Type 0) (s : Failure)
    → ((fault : Fault) → MayBe (Err fault) → Other (Err fault)) → Comes {X = X} MayBe (Err s) → Comes {X = Y} Other (Err s)
refused_as MayBe Other (failure.Refused given) so h = so given h
refused_as MayBe Other failure.ReadFault so h = h
refused_as MayBe Other failure.NoMemory so h = h

pub right_refused : (MayBe : Result Done Fault → Type 0) (Promised : ℕ → List ℕ → Type 0) (Loaded : Option (List ℕ) → Type 0) (failed : Option (List ℕ))
    (s : Failure) → Comes {X = Done} MayBe (Err s) → (IsReadFault {X = Done} (Err s) → Loaded failed) → IsRight MayBe Promised Loaded failed (Err s)
right_refused MayBe Promised Loaded failed s came order = record { answer = came; promise = tt; order = order }

pub right_done : (MayBe : Result Done Fault → Type 0) (Promised : ℕ → List ℕ → Type 0) (Loaded : Option (List ℕ) → Type 0) (failed : Option (List ℕ))
    (done : Done) → MayBe (Ok done) → Promised done.status done.text → IsRight MayBe Promised Loaded failed (Ok done)
right_done MayBe Promised Loaded failed done answer promise = record { answer = answer; promise = promise; order = λ h. absurd h }

pub right_no_memory : (MayBe : Result Done Fault → Type 0) (Promised : ℕ → List ℕ → Type 0) (Loaded : Option (List ℕ) → Type 0) (failed : Option (List ℕ))
    → IsRight MayBe Promised Loaded failed (Err failure.NoMemory)
right_no_memory MayBe Promised Loaded failed = record { answer = tt; promise = tt; order = λ h. absurd h }

-- where MODEL or FILE is refused or not loaded
pub right_of_line : {X : Type 0} (Of : Result X Fault → Type 0) (MayBe : Result Done Fault → Type 0) (Promised : ℕ → List ℕ → Type 0) (unknown : Unknown)
    (model_path file_path m : List ℕ) (failed : Option (List ℕ)) (s : Failure) → ((fault : Fault) → Of (Err fault) → MayBe (Err fault))
    → ComesOfLine {X = X} Of unknown model_path file_path m failed (Err s) → IsRight MayBe Promised (IsLoadedFor unknown model_path file_path m) failed (Err s)
right_of_line {X = X} Of MayBe Promised unknown model_path file_path m failed s so came = record {
  answer = refused_as Of MayBe s so came.comes;
  promise = tt;
  order = λ h. came.order (fault_of_any Done X s h);
}

-- ---- paths by other names

pub only_path : (failed : Option (List ℕ)) (path : List ℕ) → IsOneOf failed (path ∷ []) → failed ≡ Some path
only_path failed path (inl e) = e
only_path failed path (inr h) = absurd h

pub given_named : {S X : Type 0} (loads : S → Load → S → Type 0) (content : List ℕ → Option (List ℕ)) (before after : S) (sources others : List Source)
    (contents : X → List (List ℕ)) (D : Type 0) (Hold : X → Type 0) → sources ≡ others → AreGiven loads content before after sources contents D Hold
    → AreGiven loads content before after others contents D Hold
given_named loads content before after sources others contents D Hold e g = subst (λ (s : List Source). AreGiven loads content before after s contents D Hold) e g

pub line_named : {S X : Type 0} (loads : S → Load → S → Type 0) (content : List ℕ → Option (List ℕ)) (before after : S) (a p b q : List ℕ) (D : Type 0)
    (MayBe : Contents → Result X Fault → Type 0) (unknown : Unknown) (failed : Option (List ℕ)) (result : Result X Failure) → a ≡ p → b ≡ q
    → AreGiven loads content before after (model_source a ∷ file_source b ∷ []) of_line D (λ told. ComesOfLine (MayBe told) unknown a b told.model failed result)
    → AreGiven loads content before after (model_source p ∷ file_source q ∷ []) of_line D (λ told. ComesOfLine (MayBe told) unknown p q told.model failed result)
line_named loads content before after a p b q D MayBe unknown failed result e f g =
    let P : List ℕ → Type 0 = λ x. AreGiven loads content before after (model_source x ∷ file_source b ∷ []) of_line D (λ told. ComesOfLine (MayBe told) unknown x b told.model failed result) in
    let Q : List ℕ → Type 0 = λ y. AreGiven loads content before after (model_source p ∷ file_source y ∷ []) of_line D (λ told. ComesOfLine (MayBe told) unknown p y told.model failed result) in
    subst Q f (subst P e g)
