-- Words that are positional.
use Rattle.std.proofs.Common.{◌≡◌, ◌∙◌, ℕ, Bool, List, [], ◌∷◌, ◌++◌, true, false, not, refl, sym, ap, codes, append_assoc}
use Rattle.std.specs.Prelude.{Some, option_and_then}
use Rattle.std.specs.List.{list_all}
use Rattle.std.proofs.lemmas.Bool.{and_parts, not-true}
use Rattle.std.proofs.lemmas.List.{append-nil}
use Rattle.command_words.specs.declared.sorting.SortingState.{SortingState}
use Rattle.command_words.specs.Arguments.{all_positional, arguments_of, chosen_of, inputs_set, settings_of}
use Rattle.command_words.specs.Sorting.{begins_with_dash, sorted, sorted_from, start, step}

-- after these positional words
abbrev at : List (List ℕ) → SortingState
at words = record start { positional = words }

-- after these positional words and `--`
abbrev past : List (List ℕ) → SortingState
past words = record start { positional = words; is_trailing = true }

kept_step : (front : List (List ℕ)) (word : List ℕ) → begins_with_dash word ≡ false → step (at front) word ≡ Some (at (front ++ word ∷ []))
unfolding step
kept_step front [] e = refl
kept_step front (x ∷ xs) e = rw e refl

past_step : (front : List (List ℕ)) (word : List ℕ) → step (past front) word ≡ Some (past (front ++ word ∷ []))
unfolding step
past_step front word = refl

dashes_step : (front : List (List ℕ)) → step (at front) (codes "--") ≡ Some (past front)
unfolding step
dashes_step front = refl

one_more : (front : List (List ℕ)) (word : List ℕ) (words : List (List ℕ)) → (front ++ word ∷ []) ++ words ≡ front ++ word ∷ words
one_more front word words = append_assoc front (word ∷ []) words

-- words that do not begin with `-` are kept, whatever follows
kept : (front words rest : List (List ℕ)) → list_all (λ word. not (begins_with_dash word)) words ≡ true
    → sorted_from (at front) (words ++ rest) ≡ sorted_from (at (front ++ words)) rest
kept front [] rest e = ap (λ (words : List (List ℕ)). sorted_from (at words) rest) (sym (append-nil front))
kept front (word ∷ words) rest e =
    let p = and_parts (not (begins_with_dash word)) (list_all (λ word. not (begins_with_dash word)) words) e in
    ap (option_and_then (λ next. sorted_from next (words ++ rest))) (kept_step front word (not-true (begins_with_dash word) p.0))
    ∙ kept (front ++ word ∷ []) words rest p.1
    ∙ ap (λ (words : List (List ℕ)). sorted_from (at words) rest) (one_more front word words)

all_past : (front words : List (List ℕ)) → sorted_from (past front) words ≡ Some (past (front ++ words))
all_past front [] = ap (λ (words : List (List ℕ)). Some (past words)) (sym (append-nil front))
all_past front (word ∷ words) =
    ap (option_and_then (λ next. sorted_from next words)) (past_step front word)
    ∙ all_past (front ++ word ∷ []) words
    ∙ ap (λ (words : List (List ℕ)). Some (past words)) (one_more front word words)

said : (words texts : List (List ℕ)) (b : Bool) → sorted words ≡ Some (record start { positional = texts; is_trailing = b }) → arguments_of words ≡ Some (all_positional texts)
unfolding settings_of chosen_of inputs_set
said words texts b e = rw e refl

pub no_option : (words : List (List ℕ)) → list_all (λ word. not (begins_with_dash word)) words ≡ true → arguments_of words ≡ Some (all_positional words)
no_option words e =
    said words words false (ap sorted (sym (append-nil words)) ∙ kept [] words [] e)

pub after_dashes : (front back : List (List ℕ)) → list_all (λ word. not (begins_with_dash word)) front ≡ true
    → arguments_of (front ++ codes "--" ∷ back) ≡ Some (all_positional (front ++ back))
after_dashes front back e =
    said (front ++ codes "--" ∷ back) (front ++ back) true
    (kept [] front (codes "--" ∷ back) e ∙ ap (option_and_then (λ next. sorted_from next back)) (dashes_step front) ∙ all_past front back)
