-- What is answered of a model and of advice is one.
use Rattle.std.proofs.Common.{◌≡◌, ℕ, zero, suc, ◌<◌, ℤ, pos, Bool, true, false, List, [], ◌∷◌, length, slice_get, Some, None, refl, sym, ap, ap₂, subst, ◌∙◌, inl, inr, arith}
use Rattle.std.specs.Prelude.{◌<ℤ◌}
use Rattle.std.proofs.lemmas.Int.{ints}
use Rattle.linear_atoms.specs.declared.atoms.Atom.{Atom}
use Rattle.linear_atoms.specs.declared.atoms.Feature.{Feature}
use Rattle.linear_atoms.specs.Atoms.{IsWithin}
use Rattle.cpp_conditions.specs.declared.models.Model.{Model}
use Rattle.cpp_conditions.specs.Validity.{Plain, plain, IsValid}
use Rattle.cpp_conditions.proofs.Within.{valid_parts}
use Rattle.atom_solver.specs.Solutions.{IsBefore}
use Rattle.decision_tree.specs.Plain as tree
use Rattle.configuration_advice.specs.declared.comparing.Advice.{Advice}
use Rattle.configuration_advice.specs.declared.feature_uses.FeatureUse.{FeatureUse}
use Rattle.configuration_advice.specs.declared.feature_uses.FeatureUse.TheVariants.{Free, Dead, Always, Span}
use Rattle.configuration_advice.specs.Nearest.{is_quiet, IsNearest}
use Rattle.configuration_advice.specs.Uses.{AllFrom, AllTo, SomeFrom, SomeTo, IsLeast, IsGreatest, IsUse}
use Rattle.advice_laws.specs.Once.{UsesAreOne, told_of, AdviceIsOne}

-- ---- uses

not_both : (b : Bool) → b ≡ true → b ≡ false → ⊥
not_both b h k = cc

moved : (a b : Model) → plain a ≡ plain b → (values : List ℤ) → IsValid (plain a) values → IsValid (plain b) values
moved a b e values h = subst (λ (m : Plain). IsValid m values) e h

some_above : (a b : Model) (n : ℕ) → plain a ≡ plain b → SomeFrom a n (pos 1) → AllTo b n (pos 0) → ⊥
some_above a b n e h k = omega (arith, ints, h.from, ap (λ (z : ℤ). z) h.has.there, k h.has.values (moved a b e h.has.values h.has.valid))

some_below : (a b : Model) (n : ℕ) → plain a ≡ plain b → SomeTo a n (pos 0) → AllFrom b n (pos 1) → ⊥
some_below a b n e h k = omega (arith, ints, h.to, ap (λ (z : ℤ). z) h.has.there, k h.has.values (moved a b e h.has.values h.has.valid))

both_ends : (a b : Model) (n : ℕ) (values : List ℤ) → plain a ≡ plain b → IsValid (plain a) values → AllTo a n (pos 0) → AllFrom b n (pos 1) → ⊥
both_ends a b n values e v h k = omega (arith, ints, h values v, k values (moved a b e values v))

one_least : (a b : Model) (n : ℕ) (l k : ℤ) → plain a ≡ plain b → IsLeast a n l → IsLeast b n k → l ≡ k
one_least a b n l k e h i =
    omega (arith, ints, h.has.there, i.has.there, h.least i.has.values (moved b a (sym e) i.has.values i.has.valid), i.least h.has.values (moved a b e h.has.values h.has.valid))

one_greatest : (a b : Model) (n : ℕ) (l k : ℤ) → plain a ≡ plain b → IsGreatest a n l → IsGreatest b n k → l ≡ k
one_greatest a b n l k e h i =
    omega (arith, ints, h.has.there, i.has.there, h.greatest i.has.values (moved b a (sym e) i.has.values i.has.valid), i.greatest h.has.values (moved a b e h.has.values h.has.valid))

one_use : (a b : Model) (n : ℕ) (f : Feature) (values : List ℤ) (u w : FeatureUse) → plain a ≡ plain b → IsValid (plain a) values → IsUse a n f u → IsUse b n f w → u ≡ w
one_use a b n f values Free Free e v h k = refl
one_use a b n f values Free Dead e v h k = absurd (some_above a b n e h.1 k.1)
one_use a b n f values Free Always e v h k = absurd (some_below a b n e h.2 k.1)
one_use a b n f values Free (Span low high) e v h k = absurd (not_both f.boolean h.0 k.0)
one_use a b n f values Dead Free e v h k = absurd (some_above b a n (sym e) k.1 h.1)
one_use a b n f values Dead Dead e v h k = refl
one_use a b n f values Dead Always e v h k = absurd (both_ends a b n values e v h.1 k.1)
one_use a b n f values Dead (Span low high) e v h k = absurd (not_both f.boolean h.0 k.0)
one_use a b n f values Always Free e v h k = absurd (some_below b a n (sym e) k.2 h.1)
one_use a b n f values Always Dead e v h k = absurd (both_ends b a n values (sym e) (moved a b e values v) k.1 h.1)
one_use a b n f values Always Always e v h k = refl
one_use a b n f values Always (Span low high) e v h k = absurd (not_both f.boolean h.0 k.0)
one_use a b n f values (Span low high) Free e v h k = absurd (not_both f.boolean k.0 h.0)
one_use a b n f values (Span low high) Dead e v h k = absurd (not_both f.boolean k.0 h.0)
one_use a b n f values (Span low high) Always e v h k = absurd (not_both f.boolean k.0 h.0)
one_use a b n f values (Span low high) (Span less more) e v h k = ap₂ (λ (x y : ℤ). Span x y) (one_least a b n low less e h.1 k.1) (one_greatest a b n high more e h.2 k.2)

there_is : {X : Type 0} (xs : List X) (n : ℕ) → n < length xs → (x : X) × (slice_get xs n ≡ Some x)
there_is [] n lt = absurd (omega arith)
there_is (x ∷ xs) zero lt = (x, refl)
there_is (x ∷ xs) (suc n) lt = there_is xs n (omega arith)

within : {X : Type 0} (xs : List X) (n : ℕ) (x : X) → slice_get xs n ≡ Some x → n < length xs
within [] n x e = absurd cc
within (y ∷ xs) zero x e = omega arith
within (y ∷ xs) (suc n) x e = omega (arith, within xs n x e)

one_list : {X : Type 0} (us ws : List X) → length us ≡ length ws → ((n : ℕ) (u w : X) → slice_get us n ≡ Some u → slice_get ws n ≡ Some w → u ≡ w) → us ≡ ws
one_list [] [] e h = refl
one_list [] (w ∷ ws) e h = absurd (omega (arith, e))
one_list (u ∷ us) [] e h = absurd (omega (arith, e))
one_list (u ∷ us) (w ∷ ws) e h = ap₂ (λ x xs. x ∷ xs) (h 0 u w refl refl) (one_list us ws (omega (arith, e)) (λ n x y i j. h (suc n) x y i j))

pub uses_are_one : UsesAreOne
uses_are_one a b values us ws e v h k =
    let features : a.features ≡ b.features = ap (λ (m : Plain). m.features) e in
    one_list us ws (h.count ∙ ap length features ∙ sym k.count) (λ n u w i j.
    let f = there_is a.features n (omega (arith, within us n u i, h.count)) in
    one_use a b n f.0 values u w e v (h.each n f.0 u f.1 i) (k.each n f.0 w (subst (λ (fs : List Feature). slice_get fs n ≡ Some f.0) features f.1) j))

-- ---- advice

-- of two configurations within the ranges, neither before the other, both are one
one_first : (fs : List Feature) (vs ws : List ℤ) → IsWithin fs vs → IsWithin fs ws → (IsBefore vs ws → ⊥) → (IsBefore ws vs → ⊥) → vs ≡ ws
one_first [] [] [] h k n m = refl
one_first [] [] (w ∷ ws) h k n m = absurd k
one_first [] (v ∷ vs) ws h k n m = absurd h
one_first (f ∷ fs) [] ws h k n m = absurd h
one_first (f ∷ fs) (v ∷ vs) [] h k n m = absurd k
one_first (f ∷ fs) (v ∷ vs) (w ∷ ws) h k n m =
    let same : v ≡ w = equal v w (λ lt. n (inl lt)) (λ lt. m (inl lt)) in
    ap₂ (λ (x : ℤ) (xs : List ℤ). x ∷ xs) same (one_first fs vs ws h.2 k.2 (λ lt. n (inr (same, lt))) (λ lt. m (inr (sym same, lt))))
  where
    equal : (x y : ℤ) → (x <ℤ y → ⊥) → (y <ℤ x → ⊥) → x ≡ y
    equal x y a b = grind (arith, ints)

one_nearest : (a b : Model) (xs ys : List Atom) (ts us : List (tree.Plain Bool)) (given : List ℤ) (found other : Advice) → plain a ≡ plain b → ((values : List ℤ) → IsValid (plain a) values → is_quiet xs ts values ≡ is_quiet ys us values)
    → IsNearest a xs ts given found → IsNearest b ys us given other → told_of (Some found) ≡ told_of (Some other)
one_nearest a b xs ys ts us given found other e q h k =
    let mine : IsValid (plain b) found.config.values = moved a b e found.config.values h.valid in
    let yours : IsValid (plain a) other.config.values = moved b a (sym e) other.config.values k.valid in
    let my_quiet : is_quiet ys us found.config.values ≡ true = sym (q found.config.values h.valid) ∙ h.quiet in
    let your_quiet : is_quiet xs ts other.config.values ≡ true = q other.config.values yours ∙ k.quiet in
    let least = h.fewest other.config.values yours your_quiet in
    let fewer = k.fewest found.config.values mine my_quiet in
    let changed : found.changed ≡ other.changed = omega (arith, least, fewer, h.changed, k.changed) in
    let values : found.config.values ≡ other.config.values =
    one_first a.features found.config.values other.config.values (valid_parts (plain a) found.config.values h.valid).0 (valid_parts (plain a) other.config.values yours).0
    (λ lt. k.first found.config.values mine my_quiet (sym h.changed ∙ changed) lt) (λ lt. h.first other.config.values yours your_quiet (sym k.changed ∙ sym changed) lt) in
    ap₂ (λ (vs : List ℤ) (n : ℕ). Some (vs, n)) values changed

pub advice_is_one : AdviceIsOne
advice_is_one a b xs ys ts us given None None e q h k = refl
advice_is_one a b xs ys ts us given None (Some other) e q h k =
    let yours : IsValid (plain a) other.config.values = moved b a (sym e) other.config.values k.valid in
    absurd (not_both (is_quiet ys us other.config.values) k.quiet (sym (q other.config.values yours) ∙ h other.config.values yours))
advice_is_one a b xs ys ts us given (Some found) None e q h k =
    absurd (not_both (is_quiet xs ts found.config.values) h.quiet (q found.config.values h.valid ∙ k found.config.values (moved a b e found.config.values h.valid)))
advice_is_one a b xs ys ts us given (Some found) (Some other) e q h k = one_nearest a b xs ys ts us given found other e q h k
