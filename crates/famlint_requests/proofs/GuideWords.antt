-- Words that ask for a text about the program ask for nothing else.
use Rattle.std.proofs.Common.{◌≡◌, ℕ, Bool, List, [], ◌∷◌, ◌++◌, true, false, not, refl, sym, codes, cond, subst}
use Rattle.std.specs.Prelude.{Option, Some, None, ◌&&◌, is_some}
use Rattle.std.specs.Option.{option_and_then}
use Rattle.std.specs.Str.{bytes_eq}
use Rattle.std.proofs.lemmas.Slice.Eq.{bytes_eq-Decides}
use Rattle.command_words.specs.declared.named.OptionName.{OptionName}
use Rattle.command_words.specs.declared.settings.OptionSettings.{OptionSettings}
use Rattle.command_words.specs.declared.sorting.SortingState.{SortingState}
use Rattle.command_words.specs.Arguments.{arguments_of, given_of, settings_of, ◌>>=◌}
use Rattle.command_words.specs.Sorting.{begins_with_dash, give, keep, option_given, option_taken, option_step, option_parts, free_step, waited_step, is_given, name_by, sorted_from, start, step}
use Rattle.famlint_requests.specs.declared.request.guide.Guide.{Guide}
use Rattle.famlint_requests.specs.Commands.{command_of}
use Rattle.famlint_requests.specs.Guides.{guide_of, guide_alone, guide_about}
use Rattle.famlint_requests.specs.Requests.{request_of}

-- ---- the first positional word stays

pub record Leads (first : List ℕ) (s : SortingState) : Type 0 where
  pub rest : List (List ℕ)
  pub is : s.positional ≡ first ∷ rest

Kept : List ℕ → Option SortingState → Type 0
Kept first o = (t : SortingState) → o ≡ Some t → Leads first t

none_kept : (first : List ℕ) → Kept first None
unfolding Kept
none_kept first t e = absurd cc

some_kept : (first : List ℕ) (u : SortingState) → Leads first u → Kept first (Some u)
unfolding Kept
some_kept first u h t e = let is : u ≡ t = cc in subst (Leads first) is h

cond_kept : (first : List ℕ) (b : Bool) (x y : Option SortingState) → Kept first x → Kept first y → Kept first (cond b x y)
cond_kept first true x y h k = h
cond_kept first false x y h k = k

keep_kept : (first : List ℕ) (s : SortingState) (word : List ℕ) → Leads first s → Kept first (keep s word)
keep_kept first s word h = some_kept first _ (record { rest = h.rest ++ word ∷ []; is = rw h.is refl })

give_kept : (first : List ℕ) (s : SortingState) (name : OptionName) (value : List ℕ) → Leads first s → Kept first (give s name value)
give_kept first s name value h = cond_kept first (is_given s.values name) None _ (none_kept first) (some_kept first _ (record { rest = h.rest; is = h.is }))

given_kept : (first : List ℕ) (s : SortingState) (name : Option OptionName) (value : Option (List ℕ)) → Leads first s → Kept first (option_given s name value)
given_kept first s None value h = none_kept first
given_kept first s (Some name) (Some value) h = give_kept first s name value h
given_kept first s (Some name) None h = some_kept first (record s { waiting = Some name }) (record { rest = h.rest; is = h.is })

taken_kept : (first : List ℕ) (s : SortingState) (p : Option (List ℕ × Option (List ℕ))) → Leads first s → Kept first (option_taken s p)
taken_kept first s None h = none_kept first
taken_kept first s (Some p) h = given_kept first s (name_by p.0) p.1 h

free_kept : (first : List ℕ) (s : SortingState) (word : List ℕ) → Leads first s → Kept first (free_step s word)
free_kept first s word h =
    cond_kept first (bytes_eq word (codes "--")) (Some (record s { is_trailing = true })) _
    (some_kept first (record s { is_trailing = true }) (record { rest = h.rest; is = h.is }))
    (cond_kept first (begins_with_dash word && not (bytes_eq word (codes "-"))) (option_step s word) (keep s word)
    (taken_kept first s (option_parts word) h) (keep_kept first s word h))

waited_kept : (first : List ℕ) (s : SortingState) (waiting : Option OptionName) (word : List ℕ) → Leads first s → Kept first (waited_step s waiting word)
waited_kept first s None word h = free_kept first s word h
waited_kept first s (Some name) word h = cond_kept first (begins_with_dash word) None (give s name word) (none_kept first) (give_kept first s name word h)

step_kept : (first : List ℕ) (s : SortingState) (word : List ℕ) → Leads first s → Kept first (step s word)
unfolding step
step_kept first s word h = cond_kept first s.is_trailing (keep s word) (waited_step s s.waiting word) (keep_kept first s word h) (waited_kept first s s.waiting word h)

-- ---- a first word that is no command

-- nothing is asked for by what the words say, whatever is set
said_none : (first : List ℕ) (s : SortingState) (o : Option OptionSettings) → Leads first s → command_of first ≡ None
    → option_and_then request_of (o >>= λ settings. Some (record { positional = s.positional; given = given_of s.values; settings = settings })) ≡ None
said_none first s None h none = refl
said_none first s (Some settings) h none = rw (h.is, none) refl

end_none : (first : List ℕ) (o : Option SortingState) → Kept first o → command_of first ≡ None
    → option_and_then request_of (option_and_then (λ t. sorted_from t []) o >>= λ state. settings_of state.values >>= λ settings.
    Some (record { positional = state.positional; given = given_of state.values; settings = settings })) ≡ None
unfolding Kept
end_none first None k none = refl
end_none first (Some t) k none = go (is_some t.waiting) refl
  where
    go : (b : Bool) → is_some t.waiting ≡ b
        → option_and_then request_of (option_and_then (λ t. sorted_from t []) (Some t) >>= λ state. settings_of state.values >>= λ settings.
        Some (record { positional = state.positional; given = given_of state.values; settings = settings })) ≡ None
    go true e = rw e refl
    go false e = rw e (said_none first t (settings_of t.values) (k t refl) none)

-- where the reading starts, with this word read
abbrev with_first : List ℕ → SortingState
with_first first = record start { positional = first ∷ [] }

two_none : (first second : List ℕ) → step start first ≡ Some (with_first first) → command_of first ≡ None
    → option_and_then request_of (arguments_of (first ∷ second ∷ [])) ≡ None
two_none first second e none =
    rw e (end_none first (step (with_first first) second) (step_kept first (with_first first) second (record { rest = []; is = refl })) none)

help_step : step start (codes "help") ≡ Some (with_first (codes "help"))
unfolding step
help_step = refl

explain_step : step start (codes "explain") ≡ Some (with_first (codes "explain"))
unfolding step
explain_step = refl

-- ---- one word

dashes_none : (option_and_then request_of (arguments_of (codes "--help" ∷ [])) ≡ None)
    × (option_and_then request_of (arguments_of (codes "-h" ∷ [])) ≡ None)
    × (option_and_then request_of (arguments_of (codes "--version" ∷ [])) ≡ None)
    × (option_and_then request_of (arguments_of (codes "-V" ∷ [])) ≡ None)
unfolding step
dashes_none = (refl, refl, refl, refl)

help_none : option_and_then request_of (arguments_of (codes "help" ∷ [])) ≡ None
help_none = rw help_step (said_none (codes "help") (with_first (codes "help")) (settings_of start.values) (record { rest = []; is = refl }) refl)

-- a fact of the word that is read
same_word : (word text : List ℕ) → bytes_eq word text ≡ true → option_and_then request_of (arguments_of (text ∷ [])) ≡ None
    → option_and_then request_of (arguments_of (word ∷ [])) ≡ None
same_word word text e h = subst (λ (w : List ℕ). option_and_then request_of (arguments_of (w ∷ [])) ≡ None) (sym ((bytes_eq-Decides word text).0 e)) h

one_none : (word : List ℕ) (guide : Guide) → guide_alone word ≡ Some guide → option_and_then request_of (arguments_of (word ∷ [])) ≡ None
one_none word guide e = long (bytes_eq word (codes "--help")) refl
  where
    version : (b : Bool) → bytes_eq word (codes "-V") ≡ b → bytes_eq word (codes "--help") ≡ false → bytes_eq word (codes "-h") ≡ false
        → bytes_eq word (codes "help") ≡ false → bytes_eq word (codes "--version") ≡ false
        → option_and_then request_of (arguments_of (word ∷ [])) ≡ None
    version true h n1 n2 n3 n4 = same_word word (codes "-V") h dashes_none.3
    version false h n1 n2 n3 n4 = let no : None ≡ Some guide = rw (n1, n2, n3, n4, h) at e in absurd cc

    versions : (b : Bool) → bytes_eq word (codes "--version") ≡ b → bytes_eq word (codes "--help") ≡ false → bytes_eq word (codes "-h") ≡ false
        → bytes_eq word (codes "help") ≡ false → option_and_then request_of (arguments_of (word ∷ [])) ≡ None
    versions true h n1 n2 n3 = same_word word (codes "--version") h dashes_none.2
    versions false h n1 n2 n3 = version (bytes_eq word (codes "-V")) refl n1 n2 n3 h

    plain : (b : Bool) → bytes_eq word (codes "help") ≡ b → bytes_eq word (codes "--help") ≡ false → bytes_eq word (codes "-h") ≡ false
        → option_and_then request_of (arguments_of (word ∷ [])) ≡ None
    plain true h n1 n2 = same_word word (codes "help") h help_none
    plain false h n1 n2 = versions (bytes_eq word (codes "--version")) refl n1 n2 h

    short : (b : Bool) → bytes_eq word (codes "-h") ≡ b → bytes_eq word (codes "--help") ≡ false → option_and_then request_of (arguments_of (word ∷ [])) ≡ None
    short true h n1 = same_word word (codes "-h") h dashes_none.1
    short false h n1 = plain (bytes_eq word (codes "help")) refl n1 h

    long : (b : Bool) → bytes_eq word (codes "--help") ≡ b → option_and_then request_of (arguments_of (word ∷ [])) ≡ None
    long true h = same_word word (codes "--help") h dashes_none.0
    long false h = short (bytes_eq word (codes "-h")) refl h

-- ---- two words

same_first : (first text second : List ℕ) → bytes_eq first text ≡ true → step start text ≡ Some (with_first text) → command_of text ≡ None
    → option_and_then request_of (arguments_of (first ∷ second ∷ [])) ≡ None
same_first first text second e h none =
    subst (λ (w : List ℕ). option_and_then request_of (arguments_of (w ∷ second ∷ [])) ≡ None) (sym ((bytes_eq-Decides first text).0 e)) (two_none text second h none)

both_none : (first second : List ℕ) (guide : Guide) → guide_about first second ≡ Some guide
    → option_and_then request_of (arguments_of (first ∷ second ∷ [])) ≡ None
both_none first second guide e = help (bytes_eq first (codes "help")) refl
  where
    explain : (b : Bool) → bytes_eq first (codes "explain") ≡ b → bytes_eq first (codes "help") ≡ false → option_and_then request_of (arguments_of (first ∷ second ∷ [])) ≡ None
    explain true h n = same_first first (codes "explain") second h explain_step refl
    explain false h n = let no : None ≡ Some guide = rw (n, h) at e in absurd cc

    help : (b : Bool) → bytes_eq first (codes "help") ≡ b → option_and_then request_of (arguments_of (first ∷ second ∷ [])) ≡ None
    help true h = same_first first (codes "help") second h help_step refl
    help false h = explain (bytes_eq first (codes "explain")) refl h

pub nothing_else : (words : List (List ℕ)) (guide : Guide) → guide_of words ≡ Some guide → option_and_then request_of (arguments_of words) ≡ None
nothing_else [] guide e = absurd cc
nothing_else (word ∷ []) guide e = one_none word guide e
nothing_else (first ∷ second ∷ []) guide e = both_none first second guide e
nothing_else (first ∷ second ∷ more ∷ words) guide e = absurd cc
