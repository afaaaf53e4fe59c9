-- Bytes are read in one way.
use Rattle.std.proofs.Common.{◌≡◌, ℕ, ◌+◌, List, ◌∷◌, Result, Ok, Err, refl, sym, ap, subst, ◌∙◌}
use Rattle.fam_outer.specs.declared.dialect.Unknown.{Unknown}
use Rattle.fam_outer.specs.declared.faults.ConditionFault.{ConditionFault}
use Rattle.linear_atoms.specs.declared.atoms.Atom.{Atom}
use Rattle.linear_atoms.specs.declared.atoms.Feature.{Feature}
use Rattle.cpp_conditions.specs.Distinct.{HaveFewAtoms, HaveMoreAtoms}
use Rattle.cpp_conditions.specs.Grammar.{ReadsAs}
use Rattle.cpp_conditions.specs.Macros.{Macros, no_macros}
use Rattle.cpp_conditions.specs.Propositions.{Proposition}
use Rattle.cpp_conditions.specs.Validity.{Plain}
use Rattle.feature_model.specs.declared.faults.ModelFault.{ModelFault}
use Rattle.feature_model.specs.Constraints.{AreRead, none, refused, first}
use Rattle.feature_model.specs.Models as models
use Rattle.feature_model.specs.Models.{Says, Ends, IsReadAs, untold, said}
use Rattle.feature_model.specs.Stages.{Told, told_of, ◌>>=◌}

abbrev pub OneReading : Type 0
OneReading = (macros : Macros) (features : List Feature) (bytes : List ℕ) (r s : Result (Proposition Atom) ConditionFault) → ReadsAs macros features bytes r → ReadsAs macros features bytes s → r ≡ s

-- texts are read in one way
one_list : (u : OneReading) (unknown : Unknown) (features : List Feature) (n : ℕ) (texts : List (List ℕ)) (r s : Result (List (Proposition Atom)) ModelFault) → AreRead unknown features n texts r → AreRead unknown features n texts s → r ≡ s
one_list u unknown features _ _ _ _ (none n) (none m) = refl
one_list u unknown features _ _ _ _ (refused n text texts f h) (refused m other others g k) = let e = u (no_macros unknown) features text (Err f) (Err g) h k in let same : f ≡ g = cc in cc
one_list u unknown features _ _ _ _ (refused n text texts f h) (first m other others q more k b) = let e = u (no_macros unknown) features text (Err f) (Ok q) h k in absurd cc
one_list u unknown features _ _ _ _ (first n text texts p rest h a) (refused m other others g k) = let e = u (no_macros unknown) features text (Ok p) (Err g) h k in absurd cc
one_list u unknown features _ _ _ _ (first n text texts p rest h a) (first m other others q more k b) =
    let e = u (no_macros unknown) features text (Ok p) (Ok q) h k in
    let same : p ≡ q = cc in
    ap (λ x. x >>= λ ps. Ok (p ∷ ps)) (one_list u unknown features (n + 1) texts rest more a b) ∙ ap (λ y. more >>= λ ps. Ok (y ∷ ps)) same

abbrev pub NotBoth : Type 0
NotBoth = (most : ℕ) (conditions : List (Proposition Atom)) → HaveFewAtoms most conditions → HaveMoreAtoms most conditions → ⊥

one_end : (x : NotBoth) (m : Plain) (r s : Result Plain ModelFault) → Ends m r → Ends m s → r ≡ s
one_end x m _ _ (models.too_many_tests h) (models.too_many_tests k) = refl
one_end x m _ _ (models.too_many_tests h) (models.void k n) = absurd (x 64 m.constraints k h)
one_end x m _ _ (models.too_many_tests h) (models.accepted k vs v) = absurd (x 64 m.constraints k h)
one_end x m _ _ (models.void h n) (models.too_many_tests k) = absurd (x 64 m.constraints h k)
one_end x m _ _ (models.void h n) (models.void k l) = refl
one_end x m _ _ (models.void h n) (models.accepted k vs v) = absurd (n vs v)
one_end x m _ _ (models.accepted h vs v) (models.too_many_tests k) = absurd (x 64 m.constraints h k)
one_end x m _ _ (models.accepted h vs v) (models.void k n) = absurd (n vs v)
one_end x m _ _ (models.accepted h vs v) (models.accepted k ws w) = refl

same_told : (bytes : List ℕ) (a b : Told) → told_of bytes ≡ Ok a → told_of bytes ≡ Ok b → a ≡ b
same_told bytes a b h k = let e = sym h ∙ k in cc

one_said : (u : OneReading) (unknown : Unknown) (bytes : List ℕ) (m k : Plain) → Says unknown bytes m → Says unknown bytes k → m ≡ k
one_said u unknown bytes m k s t =
    let e = same_told bytes (record { features = m.features; texts = s.texts }) (record { features = k.features; texts = t.texts }) s.told t.told in
    let f : m.features ≡ k.features = ap (λ (x : Told). x.features) e in
    let g : s.texts ≡ t.texts = ap (λ (x : Told). x.texts) e in
    let read = subst (λ ts. AreRead unknown k.features 1 ts (Ok m.constraints)) g (subst (λ fs. AreRead unknown fs 1 s.texts (Ok m.constraints)) f s.read) in
    let h = one_list u unknown k.features 1 t.texts (Ok m.constraints) (Ok k.constraints) read t.read in
    let c : m.constraints ≡ k.constraints = cc in
    ap (λ fs. record { features = fs; constraints = m.constraints }) f ∙ ap (λ cs. record { features = k.features; constraints = cs }) c

not_both : {X : Type 0} (u : OneReading) (unknown : Unknown) (bytes : List ℕ) (told : Told) (f : ModelFault) (m : Plain) → told_of bytes ≡ Ok told → AreRead unknown told.features 1 told.texts (Err f) → Says unknown bytes m → X
not_both u unknown bytes told f m t a s =
    let e = same_told bytes told (record { features = m.features; texts = s.texts }) t s.told in
    let b = subst (λ (x : Told). AreRead unknown x.features 1 x.texts (Err f)) e a in
    let h = one_list u unknown m.features 1 s.texts (Err f) (Ok m.constraints) b s.read in
    absurd cc

pub one_reading : (u : OneReading) (x : NotBoth) (unknown : Unknown) (bytes : List ℕ) (r s : Result Plain ModelFault) → IsReadAs unknown bytes r → IsReadAs unknown bytes s → r ≡ s
one_reading u x unknown bytes _ _ (untold f h) (untold g k) = let e = sym h ∙ k in let same : f ≡ g = cc in cc
one_reading u x unknown bytes _ _ (untold f h) (models.refused told g t a) = let e = sym h ∙ t in absurd cc
one_reading u x unknown bytes _ _ (untold f h) (said m end s e) = let d = sym h ∙ s.told in absurd cc
one_reading u x unknown bytes _ _ (models.refused told f t a) (untold g k) = let e = sym k ∙ t in absurd cc
one_reading u x unknown bytes _ _ (models.refused told f t a) (models.refused other g v b) =
    let e = same_told bytes told other t v in
    let h = one_list u unknown other.features 1 other.texts (Err f) (Err g) (subst (λ (x : Told). AreRead unknown x.features 1 x.texts (Err f)) e a) b in
    let same : f ≡ g = cc in cc
one_reading u x unknown bytes _ _ (models.refused told f t a) (said m end s e) = not_both u unknown bytes told f m t a s
one_reading u x unknown bytes _ _ (said m end s e) (untold g k) = let d = sym k ∙ s.told in absurd cc
one_reading u x unknown bytes _ _ (said m end s e) (models.refused told g t a) = not_both u unknown bytes told g m t a s
one_reading u x unknown bytes _ _ (said m end s e) (said k last t y) = one_end x m end last e (subst (λ p. Ends p last) (sym (one_said u unknown bytes m k s t)) y)
