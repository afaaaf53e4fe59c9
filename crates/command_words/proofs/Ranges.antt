-- What is set is in its range.
use Rattle.std.proofs.Common.{◌≡◌, ◌≤◌, ℕ, ℤ, pos, negsuc, ◌≤ℤ◌, List, [], ◌∷◌, ◌++◌, Bool, true, false, refl, subst, arith}
use Rattle.std.specs.Prelude.{Option, Some, None, option_and_then, ◌&&◌, ◌==◌, int_le, nat_le}
use Rattle.std.specs.List.{All, slice_split}
use Rattle.std.specs.Str.Parse.{digits_value, signed_digits_value}
use Rattle.std.proofs.lemmas.Bool.{and_parts, leb-true}
use Rattle.std.proofs.lemmas.List.Elements.{All-nil, All-push}
use Rattle.fam_outer.specs.declared.dialect.Unknown.{Unknown}
use Rattle.fam_outer.specs.declared.dialect.Includes.{Includes}
use Rattle.command_words.specs.declared.named.OptionValues.{OptionValues}
use Rattle.command_words.specs.declared.settings.Chosen.{Chosen}
use Rattle.command_words.specs.declared.settings.Domain.{Domain}
use Rattle.command_words.specs.declared.settings.Widening.{Widening}
use Rattle.c_tree.specs.declared.tree.Mode.{Mode}
use Rattle.linear_atoms.specs.declared.regions.Regions.{Regions}
use Rattle.command_words.specs.declared.settings.OptionSettings.{OptionSettings}
use Rattle.command_words.specs.Arguments.{AreInRange, meant, domain_of, delay_of, narrow_of, widening_of, overflow_of, regions_of, unknown_of, includes_of, steps_of, inputs_set, chosen_by, chosen_of, settings_from, settings_of}
use Rattle.command_words.specs.Spelling.{input_of, inputs_after, inputs_of, is_in_int, is_input, is_number, number_up_to}
use Rattle.command_words.proofs.Numbers.{in_order}

some_is : {A : Type 0} (x y : A) → Some x ≡ Some y → x ≡ y
some_is x y e = cc

-- ---- numbers

spelled_low : (most : ℕ) (text : List ℕ) (n : ℕ) → number_up_to most text ≡ Some n → n ≤ most
spelled_low most text n e = go (is_number text && nat_le (digits_value 10 text) most) refl
  where
    go : (b : Bool) → (is_number text && nat_le (digits_value 10 text) most) ≡ b → n ≤ most
    go true h =
        let same : digits_value 10 text ≡ n = some_is (digits_value 10 text) n (rw h at e) in
        let low : digits_value 10 text ≤ most = leb-true _ _ (and_parts _ _ h).1 in
        omega arith
    go false h = let no : None ≡ Some n = rw h at e in absurd cc

number_low : (default most : ℕ) (o : Option (List ℕ)) (n : ℕ) → default ≤ most → meant default (number_up_to most) o ≡ Some n → n ≤ most
number_low default most None n le e = let same = some_is default n e in omega arith
number_low default most (Some text) n le e = spelled_low most text n e

-- ---- inputs

abbrev IsNear : ℤ → Type 0
IsNear z = (negsuc 2147483647 ≤ℤ z) × (z ≤ℤ pos 2147483647)

input_near : (text : List ℕ) (z : ℤ) → input_of text ≡ Some z → IsNear z
input_near text z e = go (is_input text && is_in_int (signed_digits_value 10 text)) refl
  where
    go : (b : Bool) → (is_input text && is_in_int (signed_digits_value 10 text)) ≡ b → IsNear z
    go true h =
        let same : signed_digits_value 10 text ≡ z = some_is (signed_digits_value 10 text) z (rw h at e) in
        let p = and_parts (is_input text) (is_in_int (signed_digits_value 10 text)) h in
        let q = and_parts (int_le (negsuc 2147483647) (signed_digits_value 10 text)) (int_le (signed_digits_value 10 text) (pos 2147483647)) p.1 in
        subst IsNear same (in_order (negsuc 2147483647) (signed_digits_value 10 text) q.0, in_order (signed_digits_value 10 text) (pos 2147483647) q.1)
    go false h = let no : None ≡ Some z = rw h at e in absurd cc

one_more_near : (front : List ℤ) (texts : List (List ℕ)) (zs : List ℤ) (o : Option ℤ) → All IsNear front → ((z : ℤ) → o ≡ Some z → IsNear z)
    → ((z : ℤ) → All IsNear (front ++ z ∷ []) → inputs_after (front ++ z ∷ []) texts ≡ Some zs → All IsNear zs)
    → option_and_then (λ z. inputs_after (front ++ z ∷ []) texts) o ≡ Some zs → All IsNear zs
one_more_near front texts zs None near this rest e = absurd cc
one_more_near front texts zs (Some z) near this rest e = rest z (All-push IsNear front z near (this z refl)) e

inputs_near : (front : List ℤ) (texts : List (List ℕ)) (zs : List ℤ) → All IsNear front → inputs_after front texts ≡ Some zs → All IsNear zs
inputs_near front [] zs near e = subst (All IsNear) (some_is front zs e) near
inputs_near front (text ∷ texts) zs near e =
    one_more_near front texts zs (input_of text) near (λ z h. input_near text z h) (λ z more rest. inputs_near (front ++ z ∷ []) texts zs more rest) e

set_near : (o : Option (List ℕ)) (zs : List ℤ) → meant [] inputs_of o ≡ Some zs → All IsNear zs
set_near None zs e = subst (All IsNear) (some_is [] zs e) (All-nil IsNear)
set_near (Some text) zs e = inputs_near [] (slice_split (λ c. c == 44) text) zs (All-nil IsNear) e

-- ---- all settings

ranged : (d : Option Domain) (l n : Option ℕ) (w : Option Widening) (o : Option Mode) (g : Option Regions) (k : Option Unknown) (j : Option Includes) (t : Option ℕ) (i : Option (List ℤ)) (s : OptionSettings) → settings_from (chosen_by d l n w o g k j t) i ≡ Some s
    → ((x : ℕ) → l ≡ Some x → x ≤ 16) → ((x : ℕ) → n ≡ Some x → x ≤ 8) → ((x : ℕ) → t ≡ Some x → x ≤ 1000000) → ((zs : List ℤ) → i ≡ Some zs → All IsNear zs) → AreInRange s
ranged None l n w o g k j t i s e a b c f = absurd cc
ranged (Some d) None n w o g k j t i s e a b c f = absurd cc
ranged (Some d) (Some l) None w o g k j t i s e a b c f = absurd cc
ranged (Some d) (Some l) (Some n) None o g k j t i s e a b c f = absurd cc
ranged (Some d) (Some l) (Some n) (Some w) None g k j t i s e a b c f = absurd cc
ranged (Some d) (Some l) (Some n) (Some w) (Some o) None k j t i s e a b c f = absurd cc
ranged (Some d) (Some l) (Some n) (Some w) (Some o) (Some g) None j t i s e a b c f = absurd cc
ranged (Some d) (Some l) (Some n) (Some w) (Some o) (Some g) (Some k) None t i s e a b c f = absurd cc
ranged (Some d) (Some l) (Some n) (Some w) (Some o) (Some g) (Some k) (Some j) None i s e a b c f = absurd cc
ranged (Some d) (Some l) (Some n) (Some w) (Some o) (Some g) (Some k) (Some j) (Some t) None s e a b c f = absurd cc
ranged (Some d) (Some l) (Some n) (Some w) (Some o) (Some g) (Some k) (Some j) (Some t) (Some i) s e a b c f =
    subst AreInRange (some_is (record { chosen = record { domain = d; delay = l; narrow = n; widening = w; overflow = o; regions = g; unknown = k; includes = j; steps = t }; inputs = i }) s e)
    (record { delay = a l refl; narrow = b n refl; steps = c t refl; inputs = f i refl })

settings_ranged : (v : OptionValues) (s : OptionSettings) → settings_of v ≡ Some s → AreInRange s
unfolding settings_of chosen_of inputs_set
settings_ranged v s e =
    ranged (domain_of v) (delay_of v) (narrow_of v) (widening_of v) (overflow_of v) (regions_of v) (unknown_of v) (includes_of v) (steps_of v) (inputs_set v) s e
    (λ x h. number_low 0 16 v.delay x (omega arith) h) (λ x h. number_low 1 8 v.narrow x (omega arith) h)
    (λ x h. number_low 1000 1000000 v.steps x (omega arith) h) (λ zs h. set_near v.inputs zs h)

-- what is set by parts that are told
pub parts_ranged : (v : OptionValues) (c : Chosen) (i : List ℤ) → chosen_of v ≡ Some c → inputs_set v ≡ Some i → AreInRange (record { chosen = c; inputs = i })
unfolding settings_of
parts_ranged v c i h k = settings_ranged v (record { chosen = c; inputs = i }) (rw (h, k) refl)
