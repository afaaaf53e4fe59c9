-- What is answered of bytes, from what is answered of their parts.
use Rattle.std.proofs.Common.{◌≡◌, ℕ, ℤ, List, [], map, Result, Ok, Err, refl, sym, ap, subst, ◌∙◌}
use Rattle.std.specs.Prelude.{IfOk, ⊤}
use Rattle.fam_outer.specs.declared.dialect.Unknown.{Unknown}
use Rattle.linear_atoms.specs.declared.atoms.Feature.{Feature}
use Rattle.cpp_conditions.specs.declared.conditions.Condition.{Condition}
use Rattle.cpp_conditions.specs.declared.models.Model.{Model}
use Rattle.cpp_conditions.specs.Distinct.{HaveFewAtoms}
use Rattle.cpp_conditions.specs.Validity.{Plain, plain, IsValid}
use Rattle.cpp_conditions.specs.View.{proposition}
use Rattle.feature_model.specs.declared.faults.ModelFault.{ModelFault}
use Rattle.fam_outer.specs.declared.refusal.Refusal.{Refusal}
use Rattle.fam_outer.specs.declared.refusal.Refusal.TheVariants as refusals
use Rattle.feature_model.specs.Constraints.{AreRead, Adds}
use Rattle.feature_model.specs.Models.{Says, Ends, too_many_tests, void, accepted, untold, refused, said, Judges, IsModelRead}
use Rattle.feature_model.specs.Stages.{told_of, Fails}

pub untold_so : (unknown : Unknown) (bytes : List ℕ) (e : (Refusal ModelFault)) → Fails e (told_of bytes) → IsModelRead unknown bytes (Err e)
untold_so unknown bytes refusals.NoMemory h = tt
untold_so unknown bytes (refusals.Fault fault) h = untold fault h

refused_by : (unknown : Unknown) (bytes : List ℕ) (features : List Feature) (texts : List (List ℕ)) (old new : List Condition) (e : (Refusal ModelFault)) → told_of bytes ≡ Ok (record { features = features; texts = texts }) → Adds unknown features 1 texts old new (Err e) → IsModelRead unknown bytes (Err e)
refused_by unknown bytes features texts old new refusals.NoMemory t h = tt
refused_by unknown bytes features texts old new (refusals.Fault fault) t h = refused (record { features = features; texts = texts }) fault t h

pub refused_so : (unknown : Unknown) (bytes : List ℕ) (features fs : List Feature) (texts ts : List (List ℕ)) (old new : List Condition) (e : (Refusal ModelFault)) → told_of bytes ≡ Ok (record { features = features; texts = texts }) → fs ≡ features → ts ≡ texts
    → Adds unknown fs 1 ts old new (Err e) → IsModelRead unknown bytes (Err e)
refused_so unknown bytes features fs texts ts old new e t a b h = refused_by unknown bytes features texts old new e t (subst (λ f. Adds unknown f 1 texts old new (Err e)) a (subst (λ x. Adds unknown fs 1 x old new (Err e)) b h))

says : (unknown : Unknown) (bytes : List ℕ) (features : List Feature) (texts : List (List ℕ)) (model : Model) (new : List Condition) (done : ⊤) → told_of bytes ≡ Ok (record { features = features; texts = texts }) → Adds unknown features 1 texts [] new (Ok done)
    → model.features ≡ features → model.constraints ≡ new → Says unknown bytes (plain model)
says unknown bytes features texts model new done t h e f = record {
  texts = texts;
  told = t ∙ ap (λ fs. Ok (record { features = fs; texts = texts })) (sym e);
  read = subst (λ fs. AreRead unknown fs 1 texts (Ok (map proposition model.constraints))) (sym e) (subst (λ cs. AreRead unknown features 1 texts (Ok (map proposition cs))) (sym (f ∙ h.1)) h.2);
}

judged_so : (unknown : Unknown) (bytes : List ℕ) (model : Model) (r : Result Model (Refusal ModelFault)) → Says unknown bytes (plain model) → Judges model r → IsModelRead unknown bytes r
judged_so unknown bytes model (Ok made) s h = said (plain model) (Ok (plain made)) s h
judged_so unknown bytes model (Err refusals.NoMemory) s h = tt
judged_so unknown bytes model (Err (refusals.Fault fault)) s h = said (plain model) (Err fault) s h

pub read_so : (unknown : Unknown) (bytes : List ℕ) (features fs : List Feature) (texts ts : List (List ℕ)) (model : Model) (old new : List Condition) (done : ⊤) (r : Result Model (Refusal ModelFault)) → told_of bytes ≡ Ok (record { features = features; texts = texts })
    → fs ≡ features → ts ≡ texts → old ≡ [] → Adds unknown fs 1 ts old new (Ok done) → model.features ≡ features → model.constraints ≡ new → Judges model r → IsModelRead unknown bytes r
read_so unknown bytes features fs texts ts model old new done r t a b none h e f j =
    judged_so unknown bytes model r (says unknown bytes features texts model new done t (subst (λ o. Adds unknown features 1 texts o new (Ok done)) none (subst (λ f. Adds unknown f 1 texts old new (Ok done)) a (subst (λ x. Adds unknown fs 1 x old new (Ok done)) b h))) e f) j

valid_at : (m k : Plain) (r : Result Plain ModelFault) → Ends m r → r ≡ Ok k → (values : List ℤ) × IsValid k values
valid_at m k _ (too_many_tests h) e = cc
valid_at m k _ (void h i) e = cc
valid_at m k _ (accepted h vs v) e = let same : m ≡ k = cc in (vs, subst (λ x. IsValid x vs) same v)

pub valid_so : (model : Model) (r : Result Model (Refusal ModelFault)) → Judges model r → IfOk r (λ made. (values : List ℤ) × IsValid (plain made) values)
valid_so model (Ok made) h = valid_at (plain model) (plain made) _ h refl
valid_so model (Err e) h = tt

few_at : (m k : Plain) (r : Result Plain ModelFault) → Ends m r → r ≡ Ok k → HaveFewAtoms 64 k.constraints
few_at m k _ (too_many_tests h) e = cc
few_at m k _ (void h i) e = cc
few_at m k _ (accepted h vs v) e = let same : m ≡ k = cc in subst (λ (x : Plain). HaveFewAtoms 64 x.constraints) same h

pub few_so : (model : Model) (r : Result Model (Refusal ModelFault)) → Judges model r → IfOk r (λ made. HaveFewAtoms 64 (plain made).constraints)
few_so model (Ok made) h = few_at (plain model) (plain made) _ h refl
few_so model (Err e) h = tt
