-- How the command walks over the words of any list of options, and what its rows are then.
use Rattle.std.proofs.Common.{◌≡◌, ◌∙◌, ℕ, List, [], ◌∷◌, ◌++◌, Bool, true, false, not, refl, sym, ap, codes, map, is_some}
use Rattle.std.specs.Prelude.{⊤, Option, Some, None, ◌&&◌, fold, if◌then◌else◌, slice_get, unwrap_or, option_and_then}
use Rattle.std.specs.List.{list_all}
use Rattle.std.specs.Str.{bytes_eq}
use Rattle.std.proofs.lemmas.Bool.{and_parts, not-true}
use Rattle.clap.specs.Words.{Kinds, Row, Rule, Text, built, first_of, one_of}
use Rattle.clap.specs.Kinds.{or_else}
use Rattle.clap.specs.Simple.{filled}
use Rattle.clap.specs.Walk.{Walk, has_row, row_text, walk_from, walked, with_default, with_values, without}
use Rattle.clap.specs.Faults.{turn_fault, walk_fault, default_fault, defaults_fault, given_default_fault}
use Rattle.clap.specs.ValueTests.{accepts}
use Rattle.clap.specs.declared.builder.value_parser.Reading.TheVariants.{AsWritten}
use Rattle.clap.specs.declared.builder.value_parser.ValueParser.{ValueParser}
use Rattle.clap.specs.declared.builder.value_parser.ValueParser.TheVariants as vp
use Rattle.clap.specs.declared.error.kind.ErrorKind.TheVariants as kind
use Rattle.clap.specs.declared.parser.matches.ValueSource.{ValueSource}
use Rattle.clap.specs.declared.parser.matches.ValueSource.TheVariants.{CommandLine, DefaultValue}
use Rattle.command_words.specs.Options.{option_rule, option_word, options_app}
use Rattle.command_words.proofs.Rows.{all_other, default_kept, default_new, default_other, has_none, has_row-is, new_row, other_way, row_at, set_other, set_own}

-- an option: its name, its default, the most that its number may be, or none where it takes any text, and the text that is given
pub record Use : Type 0 where
  pub name : Text
  pub default : Text
  pub most : Option ℕ
  pub given : Option Text

abbrev pub parser_for : Option ℕ → ValueParser
parser_for None = vp.String
parser_for (Some most) = vp.Unsigned 0 most

-- the option's rule, as the command is built
abbrev pub rule_for : Use → Rule
rule_for u = filled (option_rule u.name u.default (parser_for u.most))

abbrev pub words_for : List Use → List Text
words_for [] = []
words_for (u ∷ us) = option_word u.name u.given ++ words_for us

-- ---- one word

abbrev pub refused_unless : Bool → Kinds
refused_unless fits = if fits then [] else kind.ValueValidation ∷ []

-- the value, if there is one, is in its range
abbrev pub fits : ℕ → Option Text → Bool
fits most None = true
fits most (Some v) = accepts false (vp.Unsigned 0 most) v

abbrev pub fits_in : Option ℕ → Option Text → Bool
fits_in None o = true
fits_in (Some most) o = fits most o

-- a walk that waits for nothing
abbrev pub at_rows : List Row → Walk
at_rows rows = walk_from (record { rows = rows; pending = None; skip = 0 })

-- the rows after the word of an option
abbrev pub with_word : Text → Option Text → List Row → List Row
with_word name None rows = rows
with_word name (Some v) rows = with_values name AsWritten CommandLine (v ∷ []) (without name rows)

-- what the words from here on are refused for
abbrev pub walk_at : List Row → List Text → Kinds
walk_at rows words = walk_fault (built options_app).top [] (at_rows rows) words

-- where the walk is after the words
abbrev pub walked_to : Walk → List Text → Walk
walked_to w words = fold (walked (built options_app).top.rules []) w words

-- the words after one that is refused or not
abbrev pub IsFirst : Text → Text → Bool → List Row → Type 0
IsFirst name v passes rows =
    (turn_fault (built options_app).top [] (at_rows rows) (codes "--" ++ name ++ codes "=" ++ v) ≡ refused_unless passes)
    × (walked (built options_app).top.rules [] (at_rows rows) (codes "--" ++ name ++ codes "=" ++ v) ≡ at_rows (with_word name (Some v) rows))

-- the word of the option, where no row has its name, is refused just where its value is not in its range, and else adds its row
abbrev pub IsTurn : Text → Option ℕ → Type 0
IsTurn name most = (rows : List Row) (v : Text) → has_row name rows ≡ false → IsFirst name v (fits_in most (Some v)) rows

-- a fault of the first word comes first, and else that of the rest
first_word : (name v : Text) (passes : Bool) (rows : List Row) (rest : List Text) → IsFirst name v passes rows
    → walk_at rows ((codes "--" ++ name ++ codes "=" ++ v) ∷ rest) ≡ or_else (refused_unless passes) (walk_at (with_word name (Some v) rows) rest)
unfolding walk_fault
first_word name v passes rows rest h = rw (h.0, h.1) refl

-- the word of an option, if it is given
first_fault : (name : Text) (most : Option ℕ) (o : Option Text) (rows : List Row) (rest : List Text) → IsTurn name most → has_row name rows ≡ false
    → walk_at rows (option_word name o ++ rest) ≡ or_else (refused_unless (fits_in most o)) (walk_at (with_word name o rows) rest)
first_fault name None None rows rest turn fresh = refl
first_fault name (Some most) None rows rest turn fresh = refl
first_fault name most (Some v) rows rest turn fresh = first_word name v (fits_in most (Some v)) rows rest (turn rows v fresh)

first_walk : (name : Text) (most : Option ℕ) (o : Option Text) (rows : List Row) (rest : List Text) → IsTurn name most → has_row name rows ≡ false
    → walked_to (at_rows rows) (option_word name o ++ rest) ≡ walked_to (at_rows (with_word name o rows)) rest
first_walk name most None rows rest turn fresh = refl
first_walk name most (Some v) rows rest turn fresh = ap (λ (w : Walk). walked_to w rest) (turn rows v fresh).1

-- ---- all words

abbrev pub AreTurns : List Use → Type 0
AreTurns [] = ⊤
AreTurns (u ∷ us) = IsTurn u.name u.most × AreTurns us

-- no two options have one name
abbrev pub are_apart : List Use → Bool
are_apart [] = true
are_apart (u ∷ us) = list_all (λ w. not (bytes_eq u.name w.name)) us && are_apart us

-- no row has the name of one of the options
abbrev pub are_new : List Use → List Row → Bool
are_new us rows = list_all (λ w. not (has_row w.name rows)) us

abbrev pub with_words : List Use → List Row → List Row
with_words [] rows = rows
with_words (u ∷ us) rows = with_words us (with_word u.name u.given rows)

-- the kinds of the first value that is not in its range
abbrev pub refusals : List Use → Kinds
refusals [] = []
refusals (u ∷ us) = or_else (refused_unless (fits_in u.most u.given)) (refusals us)

word_other : (id name : Text) (o : Option Text) (rows : List Row) → bytes_eq name id ≡ false → row_at id (with_word name o rows) ≡ row_at id rows
word_other id name None rows d = refl
word_other id name (Some v) rows d = set_other id name AsWritten CommandLine (v ∷ []) rows d

still_new : (name : Text) (o : Option Text) (us : List Use) (rows : List Row) → list_all (λ w. not (bytes_eq name w.name)) us ≡ true → are_new us rows ≡ true
    → are_new us (with_word name o rows) ≡ true
still_new name o [] rows d e = refl
still_new name o (w ∷ us) rows d e =
    let p = and_parts (not (bytes_eq name w.name)) (list_all (λ w. not (bytes_eq name w.name)) us) d in
    let q = and_parts (not (has_row w.name rows)) (are_new us rows) e in
    let same : has_row w.name (with_word name o rows) ≡ has_row w.name rows =
    has_row-is w.name (with_word name o rows) ∙ ap is_some (word_other w.name name o rows (not-true _ p.0)) ∙ sym (has_row-is w.name rows) in
    rw (same, q.0) (still_new name o us rows p.1 q.1)

pub words_fault : (us : List Use) (rows : List Row) → AreTurns us → are_apart us ≡ true → are_new us rows ≡ true → walk_at rows (words_for us) ≡ refusals us
unfolding walk_fault
words_fault [] rows t a e = refl
words_fault (u ∷ us) rows t a e =
    let p = and_parts (list_all (λ w. not (bytes_eq u.name w.name)) us) (are_apart us) a in
    let q = and_parts (not (has_row u.name rows)) (are_new us rows) e in
    first_fault u.name u.most u.given rows (words_for us) t.0 (not-true _ q.0)
    ∙ ap (or_else (refused_unless (fits_in u.most u.given)))
    (words_fault us (with_word u.name u.given rows) t.1 p.1 (still_new u.name u.given us rows p.0 q.1))

pub words_walk : (us : List Use) (rows : List Row) → AreTurns us → are_apart us ≡ true → are_new us rows ≡ true
    → walked_to (at_rows rows) (words_for us) ≡ at_rows (with_words us rows)
words_walk [] rows t a e = refl
words_walk (u ∷ us) rows t a e =
    let p = and_parts (list_all (λ w. not (bytes_eq u.name w.name)) us) (are_apart us) a in
    let q = and_parts (not (has_row u.name rows)) (are_new us rows) e in
    first_walk u.name u.most u.given rows (words_for us) t.0 (not-true _ q.0)
    ∙ words_walk us (with_word u.name u.given rows) t.1 p.1 (still_new u.name u.given us rows p.0 q.1)

-- ---- the rows of the words

-- the row of a text that is given
abbrev pub given_row : Text → Option Text → Option Row
given_row name None = None
given_row name (Some v) = Some (new_row name AsWritten CommandLine (v ∷ []))

abbrev pub AreGiven : List Use → List Row → Type 0
AreGiven [] rows = ⊤
AreGiven (u ∷ us) rows = (row_at u.name rows ≡ given_row u.name u.given) × AreGiven us rows

words_other : (id : Text) (us : List Use) (rows : List Row) → list_all (λ w. not (bytes_eq id w.name)) us ≡ true → row_at id (with_words us rows) ≡ row_at id rows
words_other id [] rows d = refl
words_other id (u ∷ us) rows d =
    let p = and_parts (not (bytes_eq id u.name)) (list_all (λ w. not (bytes_eq id w.name)) us) d in
    words_other id us (with_word u.name u.given rows) p.1 ∙ word_other id u.name u.given rows (other_way id u.name (not-true _ p.0))

word_own : (name : Text) (o : Option Text) (rows : List Row) → row_at name rows ≡ None → row_at name (with_word name o rows) ≡ given_row name o
word_own name None rows h = h
word_own name (Some v) rows h = set_own name AsWritten CommandLine (v ∷ []) rows h

pub words_given : (us : List Use) (rows : List Row) → are_apart us ≡ true → are_new us rows ≡ true → AreGiven us (with_words us rows)
words_given [] rows a e = tt
words_given (u ∷ us) rows a e =
    let p = and_parts (list_all (λ w. not (bytes_eq u.name w.name)) us) (are_apart us) a in
    let q = and_parts (not (has_row u.name rows)) (are_new us rows) e in (
      words_other u.name us (with_word u.name u.given rows) p.0 ∙ word_own u.name u.given rows (has_none u.name rows (not-true _ q.0)),
      words_given us (with_word u.name u.given rows) p.1 (still_new u.name u.given us rows p.0 q.1),
    )

-- ---- the rows with the defaults

abbrev pub source_of : Option Text → ValueSource
source_of None = DefaultValue
source_of (Some v) = CommandLine

-- the row of the text that is given, or of the default
abbrev pub final_row : Use → Row
final_row u = new_row u.name AsWritten (source_of u.given) (unwrap_or u.given u.default ∷ [])

abbrev pub AreFinal : List Use → List Row → Type 0
AreFinal [] rows = ⊤
AreFinal (u ∷ us) rows = (row_at u.name rows ≡ Some (final_row u)) × AreFinal us rows

default_own : (name default : Text) (most : Option ℕ) (o : Option Text) (rows : List Row) → row_at name rows ≡ given_row name o
    → row_at name (with_default rows (filled (option_rule name default (parser_for most)))) ≡ Some (new_row name AsWritten (source_of o) (unwrap_or o default ∷ []))
default_own name default None None rows h = default_new (filled (option_rule name default (parser_for None))) default rows refl h
default_own name default (Some most) None rows h = default_new (filled (option_rule name default (parser_for (Some most)))) default rows refl h
default_own name default most (Some v) rows h =
    default_kept (filled (option_rule name default (parser_for most))) rows (new_row name AsWritten CommandLine (v ∷ [])) h

still_given : (a : Rule) (us : List Use) (rows : List Row) → list_all (λ w. not (bytes_eq a.id w.name)) us ≡ true → AreGiven us rows → AreGiven us (with_default rows a)
still_given a [] rows d g = tt
still_given a (w ∷ us) rows d g =
    let p = and_parts (not (bytes_eq a.id w.name)) (list_all (λ w. not (bytes_eq a.id w.name)) us) d in
    (default_other w.name a rows (not-true _ p.0) ∙ g.0, still_given a us rows p.1 g.1)

rules_apart : (id : Text) (us : List Use) → list_all (λ w. not (bytes_eq id w.name)) us ≡ true → list_all (λ a. not (bytes_eq a.id id)) (map rule_for us) ≡ true
rules_apart id [] d = refl
rules_apart id (w ∷ us) d =
    let p = and_parts (not (bytes_eq id w.name)) (list_all (λ w. not (bytes_eq id w.name)) us) d in
    rw (other_way id w.name (not-true _ p.0)) (rules_apart id us p.1)

pub defaults_final : (us : List Use) (rows : List Row) → are_apart us ≡ true → AreGiven us rows → AreFinal us (fold with_default rows (map rule_for us))
defaults_final [] rows a g = tt
defaults_final (u ∷ us) rows a g =
    let p = and_parts (list_all (λ w. not (bytes_eq u.name w.name)) us) (are_apart us) a in (
      all_other u.name (map rule_for us) (with_default rows (rule_for u)) (rules_apart u.name us p.0) ∙ default_own u.name u.default u.most u.given rows g.0,
      defaults_final us (with_default rows (rule_for u)) p.1 (still_given (rule_for u) us rows p.0 g.1),
    )

-- the text that is read of such a row
pub first_text : (u : Use) (rows : List Row) → row_at u.name rows ≡ Some (final_row u) → first_of u.name rows ≡ Some (unwrap_or u.given u.default)
first_text u rows h = ap (option_and_then (λ r. slice_get r.values 0)) h

pub one_text : (u : Use) (rows : List Row) → row_at u.name rows ≡ Some (final_row u) → one_of u.name rows ≡ Some (unwrap_or u.given u.default)
one_text u rows h = ap (option_and_then row_text) h

-- ---- defaults are never refused

abbrev pub AreGood : List Use → Type 0
AreGood [] = ⊤
AreGood (u ∷ us) = (given_default_fault (rule_for u) (u.default ∷ []) ≡ []) × AreGood us

one_default_fault : (u : Use) (rows : List Row) → given_default_fault (rule_for u) (u.default ∷ []) ≡ [] → default_fault rows (rule_for u) ≡ []
one_default_fault u rows g = go (has_row u.name rows) refl
  where
    go : (b : Bool) → has_row u.name rows ≡ b → default_fault rows (rule_for u) ≡ []
    go true e = rw e refl
    go false e = rw e g

pub no_default_fault : (us : List Use) (rows : List Row) → AreGood us → defaults_fault rows (map rule_for us) ≡ []
unfolding defaults_fault
no_default_fault [] rows g = refl
no_default_fault (u ∷ us) rows g = rw (one_default_fault u rows g.0) (no_default_fault us (with_default rows (rule_for u)) g.1)
