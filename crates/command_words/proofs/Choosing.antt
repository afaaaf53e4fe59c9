-- What is chosen by the words of values that are spelled right.
use Rattle.std.proofs.Common.{◌≡◌, ◌≢◌, ◌≤◌, ◌<◌, ◌^◌, ◌∙◌, ◌⊎◌, ℕ, List, [], Bool, true, false, refl, sym, ap, ap₂, codes, inl, inr, arith}
use Rattle.std.specs.Prelude.{Option, Some, None, Err, unwrap_or, is_some, ok_or}
use Rattle.std.specs.Str.Parse.{digits_value}
use Rattle.std.proofs.lemmas.Bool.{and_parts, and_cases, leb-true}
use Rattle.fam_outer.specs.declared.dialect.Unknown.{Unknown}
use Rattle.fam_outer.specs.declared.dialect.Unknown.TheVariants.{Zero}
use Rattle.fam_outer.specs.declared.dialect.Includes.{Includes}
use Rattle.fam_outer.specs.declared.dialect.Includes.TheVariants.{Assert}
use Rattle.clap.specs.Words.{FailsBy, Row, Text, fault_of, kind_of, matches_of}
use Rattle.clap.specs.Kinds.{IsAmong, or_else}
use Rattle.clap.specs.declared.error.Error.{Error}
use Rattle.clap.specs.declared.error.kind.ErrorKind.{ErrorKind}
use Rattle.clap.specs.declared.error.kind.ErrorKind.TheVariants as kind
use Rattle.command_words.specs.declared.named.OptionValues.{OptionValues}
use Rattle.command_words.specs.declared.settings.Chosen.{Chosen}
use Rattle.command_words.specs.declared.settings.Domain.{Domain}
use Rattle.command_words.specs.declared.settings.Domain.TheVariants.{Interval}
use Rattle.command_words.specs.declared.settings.Widening.{Widening}
use Rattle.command_words.specs.declared.settings.Widening.TheVariants.{«Type»}
use Rattle.c_tree.specs.declared.tree.Mode.{Mode}
use Rattle.c_tree.specs.declared.tree.Mode.TheVariants.{Stop}
use Rattle.linear_atoms.specs.declared.regions.Regions.{Regions}
use Rattle.linear_atoms.specs.declared.regions.Regions.TheVariants.{Paths}
use Rattle.fam_outer.specs.declared.refusal.Refusal.TheVariants as refusal
use Rattle.command_words.specs.declared.refusal.Usage.{Usage}
use Rattle.command_words.specs.Arguments.{AnswersWords, meant, domain_of, delay_of, narrow_of, widening_of, overflow_of, regions_of, unknown_of, includes_of, steps_of, chosen_by, chosen_of, ◌>>=◌}
use Rattle.command_words.specs.Options.{HasTexts, IsNumberBelow, are_spelled, options_app, passes, words_of}
use Rattle.command_words.specs.Spelling.{domain_by, is_number, number_up_to, overflow_by, regions_by, unknown_by, includes_by, widening_by}
use Rattle.command_words.proofs.Faults.{end_none, fault_parts, or_else_none, range_faults, words_fault}
use Rattle.command_words.proofs.Numbers.{accepted}
use Rattle.command_words.proofs.Texts.{texts_read}
use Rattle.command_words.proofs.Uses.{fits, refused_unless}

-- ---- nothing is chosen where one option means nothing

-- nothing comes of a value where nothing comes of what follows it
none_after : {A B : Type 0} (o : Option A) (next : A → Option B) → ((x : A) → next x ≡ None) → (o >>= next) ≡ None
none_after None next h = refl
none_after (Some x) next h = h x

no_delay : (d : Option Domain) (n : Option ℕ) (w : Option Widening) (o : Option Mode) (g : Option Regions) (k : Option Unknown) (j : Option Includes) (s : Option ℕ) → chosen_by d None n w o g k j s ≡ None
no_delay d n w o g k j s = none_after d _ (λ d. refl)

no_narrow : (d : Option Domain) (l : Option ℕ) (w : Option Widening) (o : Option Mode) (g : Option Regions) (k : Option Unknown) (j : Option Includes) (s : Option ℕ) → chosen_by d l None w o g k j s ≡ None
no_narrow d l w o g k j s = none_after d _ (λ d. none_after l _ (λ l. refl))

no_widening : (d : Option Domain) (l n : Option ℕ) (o : Option Mode) (g : Option Regions) (k : Option Unknown) (j : Option Includes) (s : Option ℕ) → chosen_by d l n None o g k j s ≡ None
no_widening d l n o g k j s = none_after d _ (λ d. none_after l _ (λ l. none_after n _ (λ n. refl)))

no_overflow : (d : Option Domain) (l n : Option ℕ) (w : Option Widening) (g : Option Regions) (k : Option Unknown) (j : Option Includes) (s : Option ℕ) → chosen_by d l n w None g k j s ≡ None
no_overflow d l n w g k j s = none_after d _ (λ d. none_after l _ (λ l. none_after n _ (λ n. none_after w _ (λ w. refl))))

no_regions : (d : Option Domain) (l n : Option ℕ) (w : Option Widening) (o : Option Mode) (k : Option Unknown) (j : Option Includes) (s : Option ℕ) → chosen_by d l n w o None k j s ≡ None
no_regions d l n w o k j s = none_after d _ (λ d. none_after l _ (λ l. none_after n _ (λ n. none_after w _ (λ w. none_after o _ (λ o. refl)))))

no_unknown : (d : Option Domain) (l n : Option ℕ) (w : Option Widening) (o : Option Mode) (g : Option Regions) (j : Option Includes) (s : Option ℕ) → chosen_by d l n w o g None j s ≡ None
no_unknown d l n w o g j s = none_after d _ (λ d. none_after l _ (λ l. none_after n _ (λ n. none_after w _ (λ w. none_after o _ (λ o. none_after g _ (λ g. refl))))))

no_includes : (d : Option Domain) (l n : Option ℕ) (w : Option Widening) (o : Option Mode) (g : Option Regions) (k : Option Unknown) (s : Option ℕ) → chosen_by d l n w o g k None s ≡ None
no_includes d l n w o g k s =
    none_after d _ (λ d. none_after l _ (λ l. none_after n _ (λ n. none_after w _ (λ w. none_after o _ (λ o. none_after g _ (λ g. none_after k _ (λ k. refl)))))))

no_steps : (d : Option Domain) (l n : Option ℕ) (w : Option Widening) (o : Option Mode) (g : Option Regions) (k : Option Unknown) (j : Option Includes) → chosen_by d l n w o g k j None ≡ None
no_steps d l n w o g k j =
    none_after d _ (λ d. none_after l _ (λ l. none_after n _ (λ n. none_after w _ (λ w. none_after o _ (λ o. none_after g _ (λ g. none_after k _ (λ k. none_after j _ (λ j. refl))))))))

-- an option means nothing
pub record IsNone {A : Type 0} (o : Option A) : Type 0 where
  pub is : o ≡ None

delay_none : (v : OptionValues) → IsNone (delay_of v) → chosen_of v ≡ None
unfolding chosen_of
delay_none v h = ap (λ l. chosen_by (domain_of v) l (narrow_of v) (widening_of v) (overflow_of v) (regions_of v) (unknown_of v) (includes_of v) (steps_of v)) h.is
    ∙ no_delay (domain_of v) (narrow_of v) (widening_of v) (overflow_of v) (regions_of v) (unknown_of v) (includes_of v) (steps_of v)

narrow_none : (v : OptionValues) → IsNone (narrow_of v) → chosen_of v ≡ None
unfolding chosen_of
narrow_none v h = ap (λ n. chosen_by (domain_of v) (delay_of v) n (widening_of v) (overflow_of v) (regions_of v) (unknown_of v) (includes_of v) (steps_of v)) h.is
    ∙ no_narrow (domain_of v) (delay_of v) (widening_of v) (overflow_of v) (regions_of v) (unknown_of v) (includes_of v) (steps_of v)

widening_none : (v : OptionValues) → IsNone (widening_of v) → chosen_of v ≡ None
unfolding chosen_of
widening_none v h = ap (λ w. chosen_by (domain_of v) (delay_of v) (narrow_of v) w (overflow_of v) (regions_of v) (unknown_of v) (includes_of v) (steps_of v)) h.is
    ∙ no_widening (domain_of v) (delay_of v) (narrow_of v) (overflow_of v) (regions_of v) (unknown_of v) (includes_of v) (steps_of v)

steps_none : (v : OptionValues) → IsNone (steps_of v) → chosen_of v ≡ None
unfolding chosen_of
steps_none v h = ap (chosen_by (domain_of v) (delay_of v) (narrow_of v) (widening_of v) (overflow_of v) (regions_of v) (unknown_of v) (includes_of v)) h.is
    ∙ no_steps (domain_of v) (delay_of v) (narrow_of v) (widening_of v) (overflow_of v) (regions_of v) (unknown_of v) (includes_of v)

domain_none : (v : OptionValues) → IsNone (domain_of v) → chosen_of v ≡ None
unfolding chosen_of
domain_none v h = ap (λ d. chosen_by d (delay_of v) (narrow_of v) (widening_of v) (overflow_of v) (regions_of v) (unknown_of v) (includes_of v) (steps_of v)) h.is

overflow_none : (v : OptionValues) → IsNone (overflow_of v) → chosen_of v ≡ None
unfolding chosen_of
overflow_none v h = ap (λ o. chosen_by (domain_of v) (delay_of v) (narrow_of v) (widening_of v) o (regions_of v) (unknown_of v) (includes_of v) (steps_of v)) h.is
    ∙ no_overflow (domain_of v) (delay_of v) (narrow_of v) (widening_of v) (regions_of v) (unknown_of v) (includes_of v) (steps_of v)

regions_none : (v : OptionValues) → IsNone (regions_of v) → chosen_of v ≡ None
unfolding chosen_of
regions_none v h = ap (λ g. chosen_by (domain_of v) (delay_of v) (narrow_of v) (widening_of v) (overflow_of v) g (unknown_of v) (includes_of v) (steps_of v)) h.is
    ∙ no_regions (domain_of v) (delay_of v) (narrow_of v) (widening_of v) (overflow_of v) (unknown_of v) (includes_of v) (steps_of v)

unknown_none : (v : OptionValues) → IsNone (unknown_of v) → chosen_of v ≡ None
unfolding chosen_of
unknown_none v h = ap (λ k. chosen_by (domain_of v) (delay_of v) (narrow_of v) (widening_of v) (overflow_of v) (regions_of v) k (includes_of v) (steps_of v)) h.is
    ∙ no_unknown (domain_of v) (delay_of v) (narrow_of v) (widening_of v) (overflow_of v) (regions_of v) (includes_of v) (steps_of v)

includes_none : (v : OptionValues) → IsNone (includes_of v) → chosen_of v ≡ None
unfolding chosen_of
includes_none v h = ap (λ j. chosen_by (domain_of v) (delay_of v) (narrow_of v) (widening_of v) (overflow_of v) (regions_of v) (unknown_of v) j (steps_of v)) h.is
    ∙ no_includes (domain_of v) (delay_of v) (narrow_of v) (widening_of v) (overflow_of v) (regions_of v) (unknown_of v) (steps_of v)

-- ---- values that are not spelled right

none_of : {A : Type 0} (o : Option A) → is_some o ≡ false → o ≡ None
none_of None e = refl
none_of (Some x) e = absurd cc

unspelled_name : {A : Type 0} (default : A) (meaning : Text → Option A) (o : Option Text) → passes (λ text. is_some (meaning text)) o ≡ false → IsNone (meant default meaning o)
unspelled_name default meaning None e = absurd cc
unspelled_name default meaning (Some text) e = record { is = none_of (meaning text) e }

unspelled_number : (default most : ℕ) (o : Option Text) → passes is_number o ≡ false → IsNone (meant default (number_up_to most) o)
unspelled_number default most None e = absurd cc
unspelled_number default most (Some text) e = record { is = rw e refl }

pub chosen-unspelled : (v : OptionValues) → are_spelled v ≡ false → chosen_of v ≡ None
chosen-unspelled v e =
    elim (and_cases _ _ e) [
      | inl d ↦ domain_none v (unspelled_name Interval domain_by v.domain d)
      | inr e ↦ elim (and_cases _ _ e) [
        | inl l ↦ delay_none v (unspelled_number 0 16 v.delay l)
        | inr e ↦ elim (and_cases _ _ e) [
          | inl n ↦ narrow_none v (unspelled_number 1 8 v.narrow n)
          | inr e ↦ elim (and_cases _ _ e) [
            | inl w ↦ widening_none v (unspelled_name «Type» widening_by v.widening w)
            | inr e ↦ elim (and_cases _ _ e) [
              | inl o ↦ overflow_none v (unspelled_name Stop overflow_by v.overflow o)
              | inr e ↦ elim (and_cases _ _ e) [
                | inl g ↦ regions_none v (unspelled_name Paths regions_by v.regions g)
                | inr e ↦ elim (and_cases _ _ e) [
                  | inl k ↦ unknown_none v (unspelled_name Zero unknown_by v.unknown k)
                  | inr e ↦ elim (and_cases _ _ e) [
                    | inl j ↦ includes_none v (unspelled_name Assert includes_by v.includes j)
                    | inr s ↦ steps_none v (unspelled_number 1000 1000000 v.steps s)
                  ]
                ]
              ]
            ]
          ]
        ]
      ]
    ]

-- ---- values that are spelled right

pub record NumbersAreSpelled (v : OptionValues) : Type 0 where
  pub delay : passes is_number v.delay ≡ true
  pub narrow : passes is_number v.narrow ≡ true
  pub steps : passes is_number v.steps ≡ true

pub numbers_spelled : (v : OptionValues) → are_spelled v ≡ true → NumbersAreSpelled v
numbers_spelled v e =
    let p = and_parts _ _ e in
    let q = and_parts _ _ p.1 in
    let r = and_parts _ _ q.1 in
    let s = and_parts (passes (λ text. is_some (widening_by text)) v.widening) _ r.1 in
    let t = and_parts (passes (λ text. is_some (overflow_by text)) v.overflow) _ s.1 in
    let u = and_parts (passes (λ text. is_some (regions_by text)) v.regions) _ t.1 in
    let x = and_parts (passes (λ text. is_some (unknown_by text)) v.unknown) _ u.1 in
    let y = and_parts (passes (λ text. is_some (includes_by text)) v.includes) _ x.1 in
    record { delay = q.0; narrow = r.0; steps = y.1 }

-- a number that does not fit means nothing
unfit_number : (default most : ℕ) (o : Option Text) → most < 2 ^ 64 → passes is_number o ≡ true → fits most o ≡ false → IsNone (meant default (number_up_to most) o)
unfit_number default most None lt e f = absurd cc
unfit_number default most (Some text) lt e f = record { is = rw (e, sym (accepted most text lt e) ∙ f) refl }

-- a number that fits means its value
fit_number : (most : ℕ) (o : Option Text) (text : Text) → most < 2 ^ 64 → passes is_number o ≡ true → fits most o ≡ true
    → meant (digits_value 10 text) (number_up_to most) o ≡ Some (digits_value 10 (unwrap_or o text))
fit_number most None text lt e f = refl
fit_number most (Some given) text lt e f = rw (e, sym (accepted most given lt e) ∙ f) refl

number_below : (most bound : ℕ) (o : Option Text) (text : Text) → most < bound → bound ≤ 2 ^ 64 → IsNumberBelow bound text
    → passes is_number o ≡ true → fits most o ≡ true → IsNumberBelow bound (unwrap_or o text)
number_below most bound None text lt le d e f = d
number_below most bound (Some given) text lt le d e f =
    let low : digits_value 10 given ≤ most = leb-true _ _ (sym (accepted most given (omega arith) e) ∙ f) in
    (e, omega arith)

meant_domain : (o : Option Text) → meant Interval domain_by o ≡ domain_by (unwrap_or o (codes "interval"))
meant_domain None = refl
meant_domain (Some text) = refl

meant_widening : (o : Option Text) → meant «Type» widening_by o ≡ widening_by (unwrap_or o (codes "type"))
meant_widening None = refl
meant_widening (Some text) = refl

meant_overflow : (o : Option Text) → meant Stop overflow_by o ≡ overflow_by (unwrap_or o (codes "stop"))
meant_overflow None = refl
meant_overflow (Some text) = refl

meant_regions : (o : Option Text) → meant Paths regions_by o ≡ regions_by (unwrap_or o (codes "paths"))
meant_regions None = refl
meant_regions (Some text) = refl

meant_unknown : (o : Option Text) → meant Zero unknown_by o ≡ unknown_by (unwrap_or o (codes "zero"))
meant_unknown None = refl
meant_unknown (Some text) = refl

meant_includes : (o : Option Text) → meant Assert includes_by o ≡ includes_by (unwrap_or o (codes "assert"))
meant_includes None = refl
meant_includes (Some text) = refl

-- ---- what the command refuses

pub words_refused : (v : OptionValues) → fault_of options_app (words_of v) ≡ range_faults v.delay v.narrow v.steps
words_refused v =
    fault_parts (words_of v)
    ∙ ap₂ or_else (words_fault v.domain v.delay v.narrow v.widening v.overflow v.regions v.unknown v.includes v.steps)
    (end_none v.domain v.delay v.narrow v.widening v.overflow v.regions v.unknown v.includes v.steps)
    ∙ or_else_none (range_faults v.delay v.narrow v.steps)

pub record AllFit (v : OptionValues) : Type 0 where
  pub delay : fits 16 v.delay ≡ true
  pub narrow : fits 8 v.narrow ≡ true
  pub steps : fits 1000000 v.steps ≡ true

no_kinds : (x y z : Bool) → or_else (refused_unless x) (or_else (refused_unless y) (or_else (refused_unless z) [])) ≡ [] → (x ≡ true) × (y ≡ true) × (z ≡ true)
no_kinds true true true e = (refl, refl, refl)
no_kinds true true false e = absurd cc
no_kinds true false z e = absurd cc
no_kinds false y z e = absurd cc

all_fit : (v : OptionValues) → fault_of options_app (words_of v) ≡ [] → AllFit v
all_fit v e =
    let p = no_kinds (fits 16 v.delay) (fits 8 v.narrow) (fits 1000000 v.steps) (sym (words_refused v) ∙ e) in
    record { delay = p.0; narrow = p.1; steps = p.2 }

some_kind : (x y z : Bool) (k : ErrorKind) → IsAmong k (or_else (refused_unless x) (or_else (refused_unless y) (or_else (refused_unless z) []))) → (x ≡ false) ⊎ ((y ≡ false) ⊎ (z ≡ false))
some_kind true true true k h = absurd h
some_kind true true false k h = inr (inr refl)
some_kind true false z k h = inr (inl refl)
some_kind false y z k h = inl refl

-- a refusal that is no want of memory is that of a value out of its range
pub chosen-refused : (v : OptionValues) (error : Error) → are_spelled v ≡ true → FailsBy {T = ℕ} (fault_of options_app (words_of v)) (Err error)
    → kind_of error ≢ kind.OutOfMemory → chosen_of v ≡ None
chosen-refused v error spelled fails other =
    let s = numbers_spelled v spelled in
    let h = rw (words_refused v) at fails in
    elim h [
      | inl oom ↦ absurd (other oom)
      | inr among ↦ elim (some_kind (fits 16 v.delay) (fits 8 v.narrow) (fits 1000000 v.steps) (kind_of error) among) [
        | inl l ↦ delay_none v (unfit_number 0 16 v.delay (omega arith) s.delay l)
        | inr more ↦ elim more [
          | inl n ↦ narrow_none v (unfit_number 1 8 v.narrow (omega arith) s.narrow n)
          | inr t ↦ steps_none v (unfit_number 1000 1000000 v.steps (omega arith) s.steps t)
        ]
      ]
    ]

-- ---- what the command reads

same_chosen : (d d' : Option Domain) (l l' n n' : Option ℕ) (w w' : Option Widening) (o o' : Option Mode) (g g' : Option Regions) (k k' : Option Unknown) (j j' : Option Includes) (s s' : Option ℕ)
    → d ≡ d' → l ≡ l' → n ≡ n' → w ≡ w' → o ≡ o' → g ≡ g' → k ≡ k' → j ≡ j' → s ≡ s' → chosen_by d l n w o g k j s ≡ chosen_by d' l' n' w' o' g' k' j' s'
same_chosen d d' l l' n n' w w' o o' g g' k k' j j' s s' is_d is_l is_n is_w is_o is_g is_k is_j is_s = rw (is_d, is_l, is_n, is_w, is_o, is_g, is_k, is_j, is_s) refl

-- what is read from the rows of the words is what is chosen
pub chosen-read : (v : OptionValues) (rows : List Row) (words : List Text) (r : Option Chosen) → are_spelled v ≡ true → words ≡ words_of v
    → rows ≡ matches_of options_app words → fault_of options_app words ≡ []
    → ((domain delay narrow widening overflow regions unknown includes steps : Text) → HasTexts rows domain delay narrow widening overflow regions unknown includes steps
    → IsNumberBelow 17 delay → IsNumberBelow 17 narrow → IsNumberBelow (2 ^ 64) steps
    → r ≡ chosen_by (domain_by domain) (Some (digits_value 10 delay)) (Some (digits_value 10 narrow)) (widening_by widening) (overflow_by overflow) (regions_by regions) (unknown_by unknown) (includes_by includes) (Some (digits_value 10 steps)))
    → r ≡ chosen_of v
unfolding chosen_of
chosen-read v rows words r spelled e rows_are none reads =
    let s = numbers_spelled v spelled in
    let fit = all_fit v (rw e at none) in
    let delay : Text = unwrap_or v.delay (codes "0") in
    let narrow : Text = unwrap_or v.narrow (codes "1") in
    let steps : Text = unwrap_or v.steps (codes "1000") in
    let domain : Text = unwrap_or v.domain (codes "interval") in
    let widening : Text = unwrap_or v.widening (codes "type") in
    let overflow : Text = unwrap_or v.overflow (codes "stop") in
    let regions : Text = unwrap_or v.regions (codes "paths") in
    let unknown : Text = unwrap_or v.unknown (codes "zero") in
    let includes : Text = unwrap_or v.includes (codes "assert") in
    let texts : HasTexts rows domain delay narrow widening overflow regions unknown includes steps =
    rw (rows_are, e) (texts_read v.domain v.delay v.narrow v.widening v.overflow v.regions v.unknown v.includes v.steps) in
    let got = reads domain delay narrow widening overflow regions unknown includes steps texts
    (number_below 16 17 v.delay (codes "0") (omega arith) (omega arith) (refl, omega arith) s.delay fit.delay)
    (number_below 8 17 v.narrow (codes "1") (omega arith) (omega arith) (refl, omega arith) s.narrow fit.narrow)
    (number_below 1000000 (2 ^ 64) v.steps (codes "1000") (omega arith) (omega arith) (refl, omega arith) s.steps fit.steps) in
    got ∙ sym (same_chosen (domain_of v) (domain_by domain) (delay_of v) (Some (digits_value 10 delay))
    (narrow_of v) (Some (digits_value 10 narrow)) (widening_of v) (widening_by widening)
    (overflow_of v) (overflow_by overflow) (regions_of v) (regions_by regions) (unknown_of v) (unknown_by unknown) (includes_of v) (includes_by includes) (steps_of v) (Some (digits_value 10 steps))
    (meant_domain v.domain) (fit_number 16 v.delay (codes "0") (omega arith) s.delay fit.delay)
    (fit_number 8 v.narrow (codes "1") (omega arith) s.narrow fit.narrow) (meant_widening v.widening)
    (meant_overflow v.overflow) (meant_regions v.regions) (meant_unknown v.unknown) (meant_includes v.includes)
    (fit_number 1000000 v.steps (codes "1000") (omega arith) s.steps fit.steps))

-- a value, or else a refusal
pub Reads-ok_or : {A : Type 0} (usage : Usage) (expected given : Option A) → given ≡ expected → AnswersWords expected (ok_or given (refusal.Fault usage))
Reads-ok_or usage expected None e = sym e
Reads-ok_or usage expected (Some x) e = sym e
