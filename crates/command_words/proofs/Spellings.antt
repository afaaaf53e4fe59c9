-- Both spellings of an option say the same.
use Rattle.std.proofs.Common.{◌≡◌, ◌∙◌, ℕ, Bool, List, [], ◌∷◌, ◌++◌, true, false, not, refl, sym, ap, codes, cond, length, arith}
use Rattle.std.specs.Prelude.{Option, Some, None, ◌&&◌, nat_lt, option_and_then}
use Rattle.std.specs.List.{list_all}
use Rattle.std.specs.Str.{bytes_eq}
use Rattle.std.proofs.lemmas.Bool.{and_parts, lt-ltb, not-true}
use Rattle.command_words.specs.declared.named.OptionName.{OptionName}
use Rattle.command_words.specs.declared.named.OptionName.TheVariants.{Domain, Delay, Narrow, Widening, Overflow, Regions, Unknown, Includes, Steps, Inputs}
use Rattle.command_words.specs.declared.sorting.SortingState.{SortingState}
use Rattle.command_words.specs.Arguments.{arguments_of, settings_of, given_of, ◌>>=◌}
use Rattle.command_words.specs.Sorting.{begins_with_dash, give, keep, option_given, option_taken, option_step, option_parts, free_step, waited_step, is_given, name_by, sorted_from, start, step, text_of}

-- ---- a word that is not `--` leaves what comes after it before `--`

Stays : SortingState → Option SortingState → Type 0
Stays s o = (t : SortingState) → o ≡ Some t → t.is_trailing ≡ s.is_trailing

none_stays : (s : SortingState) → Stays s None
unfolding Stays
none_stays s t e = absurd cc

some_stays : (s u : SortingState) → u.is_trailing ≡ s.is_trailing → Stays s (Some u)
unfolding Stays
some_stays s u same t e = let is : u ≡ t = cc in ap (λ (v : SortingState). v.is_trailing) (sym is) ∙ same

cond_stays : (s : SortingState) (b : Bool) (x y : Option SortingState) → Stays s x → Stays s y → Stays s (cond b x y)
cond_stays s true x y h k = h
cond_stays s false x y h k = k

give_stays : (s : SortingState) (name : OptionName) (value : List ℕ) → Stays s (give s name value)
give_stays s name value = cond_stays s (is_given s.values name) None _ (none_stays s) (some_stays s _ refl)

given_stays : (s : SortingState) (name : Option OptionName) (value : Option (List ℕ)) → Stays s (option_given s name value)
given_stays s None value = none_stays s
given_stays s (Some name) (Some value) = give_stays s name value
given_stays s (Some name) None = some_stays s (record s { waiting = Some name }) refl

taken_stays : (s : SortingState) (p : Option (List ℕ × Option (List ℕ))) → Stays s (option_taken s p)
taken_stays s None = none_stays s
taken_stays s (Some p) = given_stays s (name_by p.0) p.1

free_stays : (s : SortingState) (word : List ℕ) → bytes_eq word (codes "--") ≡ false → Stays s (free_step s word)
free_stays s word e = rw e
    (cond_stays s (begins_with_dash word && not (bytes_eq word (codes "-"))) (option_step s word) (keep s word)
    (taken_stays s (option_parts word)) (some_stays s _ refl))

waited_stays : (s : SortingState) (waiting : Option OptionName) (word : List ℕ) → bytes_eq word (codes "--") ≡ false → Stays s (waited_step s waiting word)
waited_stays s None word e = free_stays s word e
waited_stays s (Some name) word e = cond_stays s (begins_with_dash word) None (give s name word) (none_stays s) (give_stays s name word)

step_stays : (s : SortingState) (word : List ℕ) → bytes_eq word (codes "--") ≡ false → Stays s (step s word)
unfolding step
step_stays s word e = cond_stays s s.is_trailing (keep s word) (waited_step s s.waiting word) (some_stays s _ refl) (waited_stays s s.waiting word e)

-- ---- words that say the same before `--` say the same after any words without `--`

then_same : (o : Option SortingState) (f g : SortingState → Option SortingState) → ((t : SortingState) → o ≡ Some t → f t ≡ g t) → option_and_then f o ≡ option_and_then g o
then_same None f g h = refl
then_same (Some t) f g h = h t refl

same_after : (front a b : List (List ℕ)) (s : SortingState) → s.is_trailing ≡ false → list_all (λ word. not (bytes_eq word (codes "--"))) front ≡ true
    → ((t : SortingState) → t.is_trailing ≡ false → sorted_from t a ≡ sorted_from t b) → sorted_from s (front ++ a) ≡ sorted_from s (front ++ b)
unfolding Stays
same_after [] a b s fresh e same = same s fresh
same_after (word ∷ words) a b s fresh e same =
    let p = and_parts (not (bytes_eq word (codes "--"))) (list_all (λ word. not (bytes_eq word (codes "--"))) words) e in
    then_same (step s word) (λ t. sorted_from t (words ++ a)) (λ t. sorted_from t (words ++ b))
    (λ t h. same_after words a b t (step_stays s word (not-true _ p.0) t h ∙ fresh) p.1 same)

-- ---- the two spellings

-- `--NAME=VALUE`
abbrev joined : OptionName → List ℕ → List ℕ
joined name value = codes "--" ++ text_of name ++ codes "=" ++ value

-- `--NAME`
abbrev alone : OptionName → List ℕ
alone name = codes "--" ++ text_of name

joined_parts : (name : OptionName) (value : List ℕ) → option_parts (joined name value) ≡ Some (text_of name, Some value)
joined_parts Domain value = let e : nat_lt 6 (length (codes "domain" ++ codes "=" ++ value)) ≡ true = lt-ltb _ _ (omega arith) in rw e refl
joined_parts Delay value = let e : nat_lt 5 (length (codes "delay" ++ codes "=" ++ value)) ≡ true = lt-ltb _ _ (omega arith) in rw e refl
joined_parts Narrow value = let e : nat_lt 6 (length (codes "narrow" ++ codes "=" ++ value)) ≡ true = lt-ltb _ _ (omega arith) in rw e refl
joined_parts Widening value = let e : nat_lt 8 (length (codes "widening" ++ codes "=" ++ value)) ≡ true = lt-ltb _ _ (omega arith) in rw e refl
joined_parts Overflow value = let e : nat_lt 8 (length (codes "overflow" ++ codes "=" ++ value)) ≡ true = lt-ltb _ _ (omega arith) in rw e refl
joined_parts Regions value = let e : nat_lt 7 (length (codes "regions" ++ codes "=" ++ value)) ≡ true = lt-ltb _ _ (omega arith) in rw e refl
joined_parts Unknown value = let e : nat_lt 7 (length (codes "unknown" ++ codes "=" ++ value)) ≡ true = lt-ltb _ _ (omega arith) in rw e refl
joined_parts Includes value = let e : nat_lt 8 (length (codes "includes" ++ codes "=" ++ value)) ≡ true = lt-ltb _ _ (omega arith) in rw e refl
joined_parts Steps value = let e : nat_lt 5 (length (codes "steps" ++ codes "=" ++ value)) ≡ true = lt-ltb _ _ (omega arith) in rw e refl
joined_parts Inputs value = let e : nat_lt 6 (length (codes "inputs" ++ codes "=" ++ value)) ≡ true = lt-ltb _ _ (omega arith) in rw e refl

free_joined : (s : SortingState) (name : OptionName) (value : List ℕ) → free_step s (joined name value) ≡ option_taken s (option_parts (joined name value))
free_joined s Domain value = refl
free_joined s Delay value = refl
free_joined s Narrow value = refl
free_joined s Widening value = refl
free_joined s Overflow value = refl
free_joined s Regions value = refl
free_joined s Unknown value = refl
free_joined s Includes value = refl
free_joined s Steps value = refl
free_joined s Inputs value = refl

named : (s : SortingState) (name : OptionName) (value : List ℕ) → option_taken s (Some (text_of name, Some value)) ≡ give s name value
named s Domain value = refl
named s Delay value = refl
named s Narrow value = refl
named s Widening value = refl
named s Overflow value = refl
named s Regions value = refl
named s Unknown value = refl
named s Includes value = refl
named s Steps value = refl
named s Inputs value = refl

free_is : (s : SortingState) (word : List ℕ) → s.is_trailing ≡ false → s.waiting ≡ None → step s word ≡ free_step s word
unfolding step
free_is s word fresh free = rw (fresh, free) refl

joined_step : (s : SortingState) (name : OptionName) (value : List ℕ) → s.is_trailing ≡ false → s.waiting ≡ None → step s (joined name value) ≡ give s name value
joined_step s name value fresh free =
    free_is s (joined name value) fresh free ∙ free_joined s name value ∙ ap (option_taken s) (joined_parts name value) ∙ named s name value

free_alone : (s : SortingState) (name : OptionName) → free_step s (alone name) ≡ Some (record s { waiting = Some name })
free_alone s Domain = refl
free_alone s Delay = refl
free_alone s Narrow = refl
free_alone s Widening = refl
free_alone s Overflow = refl
free_alone s Regions = refl
free_alone s Unknown = refl
free_alone s Includes = refl
free_alone s Steps = refl
free_alone s Inputs = refl

alone_step : (s : SortingState) (name : OptionName) → s.is_trailing ≡ false → s.waiting ≡ None → step s (alone name) ≡ Some (record s { waiting = Some name })
alone_step s name fresh free = free_is s (alone name) fresh free ∙ free_alone s name

value_step : (s : SortingState) (name : OptionName) (value : List ℕ) → s.is_trailing ≡ false → begins_with_dash value ≡ false → step (record s { waiting = Some name }) value ≡ give s name value
unfolding step
value_step s name value fresh e = rw (fresh, e) refl

awaited_step : (s : SortingState) (name : OptionName) (word : List ℕ) → s.is_trailing ≡ false → s.waiting ≡ Some name → begins_with_dash word ≡ true → step s word ≡ None
unfolding step
awaited_step s name word fresh waits e = rw (fresh, waits, e) refl

same_here : (name : OptionName) (value : List ℕ) (back : List (List ℕ)) → begins_with_dash value ≡ false → (s : SortingState) → s.is_trailing ≡ false
    → sorted_from s (joined name value ∷ back) ≡ sorted_from s (alone name ∷ value ∷ back)
same_here name value back e s fresh = go s.waiting refl
  where
    after : Option SortingState → Option SortingState
    after o = option_and_then (λ t. sorted_from t back) o

    go : (waiting : Option OptionName) → s.waiting ≡ waiting → sorted_from s (joined name value ∷ back) ≡ sorted_from s (alone name ∷ value ∷ back)
    go (Some other) w = rw (awaited_step s other (joined name value) fresh w refl, awaited_step s other (alone name) fresh w refl) refl
    go None w = rw (joined_step s name value fresh w, alone_step s name fresh w, value_step s name value fresh e) refl

pub both_same : (front back : List (List ℕ)) (name : OptionName) (value : List ℕ) → list_all (λ word. not (bytes_eq word (codes "--"))) front ≡ true → begins_with_dash value ≡ false
    → arguments_of (front ++ joined name value ∷ back) ≡ arguments_of (front ++ alone name ∷ value ∷ back)
both_same front back name value e plain =
    ap (λ (o : Option SortingState). o >>= λ state. settings_of state.values >>= λ settings.
    Some (record { positional = state.positional; given = given_of state.values; settings = settings }))
    (same_after front (joined name value ∷ back) (alone name ∷ value ∷ back) start refl e (same_here name value back plain))
