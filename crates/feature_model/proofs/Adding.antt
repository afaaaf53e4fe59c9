-- Constraints and atoms behind others.
use Rattle.std.proofs.Common.{◌≡◌, ℕ, ◌+◌, List, [], ◌∷◌, ◌++◌, map, Result, Ok, Err, sym, ap, subst, ◌∙◌, append_assoc}
use Rattle.std.specs.Prelude.{⊤}
use Rattle.std.proofs.lemmas.List.{append-nil}
use Rattle.fam_outer.specs.declared.dialect.Unknown.{Unknown}
use Rattle.linear_atoms.specs.declared.atoms.Feature.{Feature}
use Rattle.cpp_conditions.specs.declared.conditions.Condition.{Condition}
use Rattle.cpp_conditions.specs.declared.reading.ConditionRefusal.{ConditionRefusal}
use Rattle.cpp_conditions.specs.declared.reading.ConditionRefusal.TheVariants as conditions
use Rattle.cpp_conditions.specs.Grammar.{ReadsAs}
use Rattle.cpp_conditions.specs.Macros.{no_macros}
use Rattle.cpp_conditions.specs.Reading.{IsConditionRead}
use Rattle.cpp_conditions.specs.Propositions.{IsFit, IsOpen}
use Rattle.cpp_conditions.specs.Validity.{AreFit, AreOpen}
use Rattle.cpp_conditions.specs.View.{proposition}
use Rattle.fam_outer.specs.declared.refusal.Refusal.{Refusal}
use Rattle.feature_model.specs.declared.faults.ModelFault.{ModelFault}
use Rattle.fam_outer.specs.declared.refusal.Refusal.TheVariants as refusals
use Rattle.feature_model.specs.Constraints.{AreRead, none, refused, first, numbered, Adds}

pub nothing_added : (unknown : Unknown) (features : List Feature) (n : ℕ) (texts : List (List ℕ)) (old : List Condition) (done : ⊤) → texts ≡ [] → Adds unknown features n texts old old (Ok done)
nothing_added unknown features n texts old done e = ([], sym (append-nil old), subst (λ ts. AreRead unknown features n ts (Ok [])) (sym e) (none n))

refused_by : (unknown : Unknown) (features : List Feature) (n : ℕ) (behind : List (List ℕ)) (text : List ℕ) (old : List Condition) (refusal : ConditionRefusal) → IsConditionRead (no_macros unknown) features text (Err refusal) → Adds unknown features n (text ∷ behind) old old (Err (numbered n refusal))
refused_by unknown features n behind text old conditions.NoMemory h = tt
refused_by unknown features n behind text old (conditions.Fault fault) h = refused n text behind fault h

pub text_refused : (unknown : Unknown) (features : List Feature) (n : ℕ) (texts behind : List (List ℕ)) (text : List ℕ) (old : List Condition) (refusal : ConditionRefusal) (given : (Refusal ModelFault)) → texts ≡ text ∷ behind → IsConditionRead (no_macros unknown) features text (Err refusal) → given ≡ numbered n refusal
    → Adds unknown features n texts old old (Err given)
text_refused unknown features n texts behind text old refusal given cut h e = subst (λ ts. Adds unknown features n ts old old (Err given)) (sym cut) (subst (λ g. Adds unknown features n (text ∷ behind) old old (Err g)) (sym e) (refused_by unknown features n behind text old refusal h))

more_added : (unknown : Unknown) (features : List Feature) (n : ℕ) (behind : List (List ℕ)) (text : List ℕ) (old mid new : List Condition) (c : Condition) (r : Result ⊤ (Refusal ModelFault)) → ReadsAs (no_macros unknown) features text (Ok (proposition c)) → mid ≡ old ++ c ∷ []
    → Adds unknown features (n + 1) behind mid new r → Adds unknown features n (text ∷ behind) old new r
more_added unknown features n behind text old mid new c (Ok done) h e k =
    (c ∷ k.0, k.1 ∙ ap (λ x. x ++ k.0) e ∙ append_assoc old (c ∷ []) k.0, first n text behind (proposition c) (Ok (map proposition k.0)) h k.2)
more_added unknown features n behind text old mid new c (Err refusals.NoMemory) h e k = tt
more_added unknown features n behind text old mid new c (Err (refusals.Fault fault)) h e k = first n text behind (proposition c) (Err fault) h k

pub first_added : (unknown : Unknown) (features : List Feature) (n : ℕ) (texts behind : List (List ℕ)) (text : List ℕ) (old mid new : List Condition) (c : Condition) (r : Result ⊤ (Refusal ModelFault)) → texts ≡ text ∷ behind → ReadsAs (no_macros unknown) features text (Ok (proposition c)) → mid ≡ old ++ c ∷ []
    → Adds unknown features (n + 1) behind mid new r → Adds unknown features n texts old new r
first_added unknown features n texts behind text old mid new c r cut h e k = subst (λ ts. Adds unknown features n ts old new r) (sym cut) (more_added unknown features n behind text old mid new c r h e k)

fit_last : (count : ℕ) (old : List Condition) (c : Condition) → IsFit count (proposition c) → AreFit count old → AreFit count (old ++ c ∷ [])
fit_last count [] c h k = (h, tt)
fit_last count (x ∷ xs) c h k = (k.0, fit_last count xs c h k.1)

pub fit_more : (count : ℕ) (old mid : List Condition) (c : Condition) → mid ≡ old ++ c ∷ [] → IsFit count (proposition c) → AreFit count old → AreFit count mid
fit_more count old mid c e h k = subst (AreFit count) (sym e) (fit_last count old c h k)

open_last : (features : List Feature) (old : List Condition) (c : Condition) → IsOpen features (proposition c) → AreOpen features old → AreOpen features (old ++ c ∷ [])
open_last features [] c h k = (h, tt)
open_last features (x ∷ xs) c h k = (k.0, open_last features xs c h k.1)

pub open_more : (features : List Feature) (old mid : List Condition) (c : Condition) → mid ≡ old ++ c ∷ [] → IsOpen features (proposition c) → AreOpen features old → AreOpen features mid
open_more features old mid c e h k = subst (AreOpen features) (sym e) (open_last features old c h k)
