-- What the words of settings say has one answer.
use Rattle.std.proofs.Common.{◌≡◌, ℕ, ◌+◌, ℤ, false, ◌⊎◌, inl, inr, List, [], ◌∷◌, ◌++◌, slice_get, Option, Some, None, Result, Ok, Err, refl, sym, ap, subst, ◌∙◌, append_assoc, true≢false}
use Rattle.std.proofs.lemmas.List.{append-nil}
use Rattle.linear_atoms.specs.declared.atoms.Feature.{Feature}
use Rattle.cpp_conditions.specs.declared.models.Model.{Model}
use Rattle.cpp_conditions.specs.Validity.{plain, is_in_range, IsValid}
use Rattle.feature_model.specs.declared.faults.ConfigFault.{ConfigFault}
use Rattle.feature_model.specs.declared.faults.ConfigFault.TheVariants as faults
use Rattle.feature_model.specs.Settings.{fits, config_of}
use Rattle.reading_laws.specs.Settings.{place_in, said_in, IsNamed, Sets, IsSet, HasFault, unknown, twice, out_of_range, AreGiven, all, wrong, gives, HasValue, HaveValues, IsMissing, here, later, IsConfigured, refused, missing, not_valid, configured}
use Rattle.reading_laws.proofs.Given.{is_named, are_configured}

some_same : {X : Type 0} (x y : X) → Some x ≡ Some y → x ≡ y
some_same x y e = cc

none_some : {X : Type 0} (o : Option X) (x : X) → o ≡ None → o ≡ Some x → ⊥
none_some o x e d = absurd cc

-- ---- one word

same_place : (fs : List Feature) (w : List ℕ) (m n : ℕ) → place_in fs w ≡ Some m → place_in fs w ≡ Some n → m ≡ n
same_place fs w m n e d = some_same m n (sym e ∙ d)

taken_not_new : (fs : List Feature) (earlier : List (List ℕ)) (w : List ℕ) (m n : ℕ) → place_in fs w ≡ Some m → IsNamed fs m earlier → place_in fs w ≡ Some n → (IsNamed fs n earlier → ⊥) → ⊥
taken_not_new fs earlier w m n e h d new = new (subst (λ p. IsNamed fs p earlier) (same_place fs w m n e d) h)

fault_once : (fs : List Feature) (earlier : List (List ℕ)) (n : ℕ) (w : List ℕ) (f g : ConfigFault) → HasFault fs earlier n w f → HasFault fs earlier n w g → f ≡ g
fault_once fs earlier n w _ _ (unknown e) (unknown d) = refl
fault_once fs earlier n w _ _ (unknown e) (twice k d h) = absurd (none_some (place_in fs w) k e d)
fault_once fs earlier n w _ _ (unknown e) (out_of_range k f d h g i) = absurd (none_some (place_in fs w) k e d)
fault_once fs earlier n w _ _ (twice j e h) (unknown d) = absurd (none_some (place_in fs w) j d e)
fault_once fs earlier n w _ _ (twice j e h) (twice k d i) = refl
fault_once fs earlier n w _ _ (twice j e h) (out_of_range k f d new g i) = absurd (taken_not_new fs earlier w j k e h d new)
fault_once fs earlier n w _ _ (out_of_range j f e new g i) (unknown d) = absurd (none_some (place_in fs w) j d e)
fault_once fs earlier n w _ _ (out_of_range j f e new g i) (twice k d h) = absurd (taken_not_new fs earlier w k j d h e new)
fault_once fs earlier n w _ _ (out_of_range j f e new g i) (out_of_range k q d old p l) = refl

sets_fits : (fs : List Feature) (w : List ℕ) (k place : ℕ) (v : ℤ) (f : Feature) → place_in fs w ≡ Some k → slice_get fs k ≡ Some f → fits f (said_in w) ≡ false → Sets fs place v w → ⊥
sets_fits fs w k place v f e g i s =
    let there : slice_get fs place ≡ Some f = subst (λ p. slice_get fs p ≡ Some f) (same_place fs w k place e s.named) g in
    let same : f ≡ s.feature = some_same f s.feature (sym there ∙ s.is_there) in
    let outside : is_in_range f v ≡ false = subst (λ o. fits f o ≡ false) s.says i in
    true≢false (sym s.in_range ∙ subst (λ (x : Feature). is_in_range x v ≡ false) same outside)

fault_or_set : (fs : List Feature) (earlier : List (List ℕ)) (n : ℕ) (w : List ℕ) (f : ConfigFault) (place : ℕ) (v : ℤ) → HasFault fs earlier n w f → Sets fs place v w → (IsNamed fs place earlier → ⊥) → ⊥
fault_or_set fs earlier n w _ place v (unknown e) s new = none_some (place_in fs w) place e s.named
fault_or_set fs earlier n w _ place v (twice k e h) s new = taken_not_new fs earlier w k place e h s.named new
fault_or_set fs earlier n w _ place v (out_of_range k f e old g i) s new = sets_fits fs w k place v f e g i s

-- ---- all words

given_once : (fs : List Feature) (earlier : List (List ℕ)) (n : ℕ) (words : List (List ℕ)) (a b : Option ConfigFault) → AreGiven fs earlier n words a → AreGiven fs earlier n words b → a ≡ b
given_once fs _ _ _ _ _ (all earlier n) (all before m) = refl
given_once fs _ _ _ _ _ (wrong earlier n w words f h) (wrong before m x others g k) = ap Some (fault_once fs earlier n w f g h k)
given_once fs _ _ _ _ _ (wrong earlier n w words f h) (gives before m x others place v b s new rest) = absurd (fault_or_set fs earlier n w f place v h s new)
given_once fs _ _ _ _ _ (gives earlier n w words place v a s new rest) (wrong before m x others g k) = absurd (fault_or_set fs earlier n w g place v k s new)
given_once fs _ _ _ _ _ (gives earlier n w words place v a s new rest) (gives before m x others p u b t old more) = given_once fs (earlier ++ w ∷ []) (n + 1) words a b rest more

-- the words set a feature to one value
abbrev OneValue : List Feature → List (List ℕ) → Type 0
OneValue fs words = (place : ℕ) (v u : ℤ) → IsSet fs place v words → IsSet fs place u words → v ≡ u

set_split : (fs : List Feature) (place : ℕ) (v : ℤ) (words : List (List ℕ)) (w : List ℕ) → IsSet fs place v (words ++ w ∷ []) → IsSet fs place v words ⊎ Sets fs place v w
set_split fs place v [] w (inl h) = inr h
set_split fs place v [] w (inr h) = absurd h
set_split fs place v (x ∷ xs) w (inl h) = inl (inl h)
set_split fs place v (x ∷ xs) w (inr h) = elim (set_split fs place v xs w h) [ inl k ↦ inl (inr k) | inr k ↦ inr k ]

one_by : (fs : List Feature) (words : List (List ℕ)) (w : List ℕ) (place : ℕ) (v u : ℤ) → OneValue fs words → (place_in fs w ≡ Some place → IsNamed fs place words → ⊥) → IsSet fs place v words ⊎ Sets fs place v w → IsSet fs place u words ⊎ Sets fs place u w → v ≡ u
one_by fs words w place v u one new (inl h) (inl k) = one place v u h k
one_by fs words w place v u one new (inl h) (inr t) = absurd (new t.named (is_named fs place v words h))
one_by fs words w place v u one new (inr s) (inl k) = absurd (new s.named (is_named fs place u words k))
one_by fs words w place v u one new (inr s) (inr t) = some_same v u (sym s.says ∙ t.says)

one_more : (fs : List Feature) (words : List (List ℕ)) (w : List ℕ) → OneValue fs words → ((place : ℕ) → place_in fs w ≡ Some place → IsNamed fs place words → ⊥) → OneValue fs (words ++ w ∷ [])
one_more fs words w one new place v u h k = one_by fs words w place v u one (new place) (set_split fs place v words w h) (set_split fs place u words w k)

one_all : (fs : List Feature) (earlier : List (List ℕ)) (n : ℕ) (words : List (List ℕ)) (end : Option ConfigFault) → AreGiven fs earlier n words end → end ≡ None → OneValue fs earlier → OneValue fs (earlier ++ words)
one_all fs _ _ _ _ (all earlier n) e one = subst (OneValue fs) (sym (append-nil earlier)) one
one_all fs _ _ _ _ (wrong earlier n w words f h) e one = absurd cc
one_all fs _ _ _ _ (gives earlier n w words place v end s new rest) e one =
    let next : OneValue fs (earlier ++ w ∷ []) = one_more fs earlier w one (λ p d h. taken_not_new fs earlier w p place d h s.named new) in
    subst (OneValue fs) (append_assoc earlier (w ∷ []) words) (one_all fs (earlier ++ w ∷ []) (n + 1) words end rest e next)

one_value : (fs : List Feature) (words : List (List ℕ)) → AreGiven fs [] 1 words None → OneValue fs words
one_value fs words g = one_all fs [] 1 words None g refl (λ place v u h k. absurd h)

-- ---- the values

value_once : (fs : List Feature) (words : List (List ℕ)) (place : ℕ) (f : Feature) (v u : ℤ) → OneValue fs words → HasValue fs words place f v → HasValue fs words place f u → v ≡ u
value_once fs words place f v u one (inl h) (inl k) = one place v u h k
value_once fs words place f v u one (inl h) (inr k) = absurd (k.0 (is_named fs place v words h))
value_once fs words place f v u one (inr h) (inl k) = absurd (h.0 (is_named fs place u words k))
value_once fs words place f v u one (inr h) (inr k) = h.2 ∙ sym k.2

values_once : (fs : List Feature) (words : List (List ℕ)) (place : ℕ) (gs : List Feature) (vs us : List ℤ) → OneValue fs words → HaveValues fs words place gs vs → HaveValues fs words place gs us → vs ≡ us
values_once fs words place [] [] [] one h k = refl
values_once fs words place [] [] (u ∷ us) one h k = absurd k
values_once fs words place [] (v ∷ vs) us one h k = absurd h
values_once fs words place (g ∷ gs) [] us one h k = absurd h
values_once fs words place (g ∷ gs) (v ∷ vs) [] one h k = absurd k
values_once fs words place (g ∷ gs) (v ∷ vs) (u ∷ us) one h k =
    ap (λ x. x ∷ vs) (value_once fs words place g v u one h.0 k.0) ∙ ap (λ xs. u ∷ xs) (values_once fs words (place + 1) gs vs us one h.1 k.1)

no_value : (fs : List Feature) (words : List (List ℕ)) (place : ℕ) (f : Feature) (v : ℤ) → (IsNamed fs place words → ⊥) → f.boolean ≡ false → HasValue fs words place f v → ⊥
no_value fs words place f v n b (inl h) = n (is_named fs place v words h)
no_value fs words place f v n b (inr h) = true≢false (sym h.1 ∙ b)

missing_once : (fs : List Feature) (words : List (List ℕ)) (place : ℕ) (gs : List Feature) (m n : ℕ) → IsMissing fs words place gs m → IsMissing fs words place gs n → m ≡ n
missing_once fs words _ _ _ _ (here place f gs un b) (here other g hs vn c) = refl
missing_once fs words _ _ _ _ (here place f gs un b) (later other n g hs v h more) = absurd (no_value fs words place f v un b h)
missing_once fs words _ _ _ _ (later place m f gs v h more) (here other g hs un b) = absurd (no_value fs words place f v un b h)
missing_once fs words _ _ _ _ (later place m f gs v h more) (later other n g hs u k rest) = missing_once fs words (place + 1) gs m n more rest

missing_or_valued : (fs : List Feature) (words : List (List ℕ)) (place : ℕ) (gs : List Feature) (n : ℕ) (vs : List ℤ) → IsMissing fs words place gs n → HaveValues fs words place gs vs → ⊥
missing_or_valued fs words _ _ _ [] (here place f gs un b) h = h
missing_or_valued fs words _ _ _ (v ∷ vs) (here place f gs un b) h = no_value fs words place f v un b h.0
missing_or_valued fs words _ _ _ [] (later place n f gs u k more) h = h
missing_or_valued fs words _ _ _ (v ∷ vs) (later place n f gs u k more) h = missing_or_valued fs words (place + 1) gs n vs more h.1

-- ---- the whole

refused_or_given : (model : Model) (words : List (List ℕ)) (fault : ConfigFault) → AreGiven model.features [] 1 words (Some fault) → AreGiven model.features [] 1 words None → ⊥
refused_or_given model words fault g h = let e = given_once model.features [] 1 words (Some fault) None g h in absurd cc

valid_once : (model : Model) (words : List (List ℕ)) (vs us : List ℤ) → AreGiven model.features [] 1 words None → HaveValues model.features words 0 model.features vs → HaveValues model.features words 0 model.features us → vs ≡ us
valid_once model words vs us g h k = values_once model.features words 0 model.features vs us (one_value model.features words g) h k

configured_once : (model : Model) (words : List (List ℕ)) (r s : Result (List ℤ) ConfigFault) → IsConfigured model words r → IsConfigured model words s → r ≡ s
configured_once model words _ _ (refused f g) (refused q k) = ap Err (some_same f q (given_once model.features [] 1 words (Some f) (Some q) g k))
configured_once model words _ _ (refused f g) (missing n k m) = absurd (refused_or_given model words f g k)
configured_once model words _ _ (refused f g) (not_valid us k i n) = absurd (refused_or_given model words f g k)
configured_once model words _ _ (refused f g) (configured us k i v) = absurd (refused_or_given model words f g k)
configured_once model words _ _ (missing n g m) (refused q k) = absurd (refused_or_given model words q k g)
configured_once model words _ _ (missing n g m) (missing o k i) = ap (λ x. Err (faults.Missing x)) (missing_once model.features words 0 model.features n o m i)
configured_once model words _ _ (missing n g m) (not_valid us k i o) = absurd (missing_or_valued model.features words 0 model.features n us m i)
configured_once model words _ _ (missing n g m) (configured us k i v) = absurd (missing_or_valued model.features words 0 model.features n us m i)
configured_once model words _ _ (not_valid vs g h n) (refused q k) = absurd (refused_or_given model words q k g)
configured_once model words _ _ (not_valid vs g h n) (missing o k i) = absurd (missing_or_valued model.features words 0 model.features o vs i h)
configured_once model words _ _ (not_valid vs g h n) (not_valid us k i o) = refl
configured_once model words _ _ (not_valid vs g h n) (configured us k i v) = absurd (n (subst (IsValid (plain model)) (sym (valid_once model words vs us g h i)) v))
configured_once model words _ _ (configured vs g h v) (refused q k) = absurd (refused_or_given model words q k g)
configured_once model words _ _ (configured vs g h v) (missing o k i) = absurd (missing_or_valued model.features words 0 model.features o vs i h)
configured_once model words _ _ (configured vs g h v) (not_valid us k i n) = absurd (n (subst (IsValid (plain model)) (valid_once model words vs us g h i) v))
configured_once model words _ _ (configured vs g h v) (configured us k i u) = ap Ok (valid_once model words vs us g h i)

pub one_answer : (model : Model) (words : List (List ℕ)) (r : Result (List ℤ) ConfigFault) → IsConfigured model words r → r ≡ config_of model words
one_answer model words r h = configured_once model words r (config_of model words) h (are_configured model words)
