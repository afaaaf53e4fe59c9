-- What the command of the options refuses, and what it reads.
use Rattle.std.proofs.Common.{◌≡◌, ◌∙◌, List, [], ◌∷◌, Bool, true, false, refl, sym, ap, subst, codes, map}
use Rattle.std.specs.Prelude.{Option, Some, None, is_some, Result, Ok, Err, IfOk}
use Rattle.clap.specs.Words.{App, Kinds, Row, Text, built, fault_of, found_of, is_simple, is_simple_and_free, matches_of, rows_of}
use Rattle.clap.specs.Kinds.{or_else}
use Rattle.clap.specs.Simple.{names_of, entered, HasMatchesOf}
use Rattle.clap.specs.declared.parser.matches.ArgMatches.{ArgMatches}
use Rattle.clap.specs.Walk.{has_row, walk, nothing_held, settled, finished, Walk}
use Rattle.clap.specs.Faults.{settle_fault, defaults_fault, check_fault, entered_fault}
use Rattle.clap.specs.ValueTests.{accepts}
use Rattle.clap.specs.declared.builder.value_parser.ValueParser.TheVariants as vp
use Rattle.clap.proofs.OnLiterals.{clap_on_literals}
use Rattle.command_words.specs.Options.{options_app, words_given}
use Rattle.command_words.proofs.Uses.{AreFinal, AreGood, AreTurns, IsFirst, IsTurn, Use, at_rows, defaults_final, fits, no_default_fault, refused_unless, rule_for, walk_at, with_words, words_for, words_walk}
use Rattle.command_words.proofs.Uses as uses

pub app_simple : is_simple options_app ≡ true
unfolding clap_on_literals
app_simple = refl

pub app_simple_and_free : is_simple_and_free options_app ≡ true
unfolding clap_on_literals
app_simple_and_free = refl

-- what the command finds is what the options have
pub parsed : {E : Type 0} (app : App) (words : List Text) (result : Result ArgMatches E) → app ≡ options_app
    → IfOk result (HasMatchesOf app words) → IfOk result (λ m. rows_of (found_of m) ≡ matches_of options_app words)
parsed app words (Ok m) is has =
    subst (λ (a : App). rows_of (found_of m) ≡ matches_of a words) is (has (subst (λ (a : App). is_simple a ≡ true) (sym is) app_simple)).0
parsed app words (Err e) is has = tt

-- ---- the options, with the texts that are given

abbrev pub domain_use : Option Text → Use
domain_use given = record { name = codes "domain"; default = codes "interval"; most = None; given = given }

abbrev pub delay_use : Option Text → Use
delay_use given = record { name = codes "delay"; default = codes "0"; most = Some 16; given = given }

abbrev pub narrow_use : Option Text → Use
narrow_use given = record { name = codes "narrow"; default = codes "1"; most = Some 8; given = given }

abbrev pub widening_use : Option Text → Use
widening_use given = record { name = codes "widening"; default = codes "type"; most = None; given = given }

abbrev pub overflow_use : Option Text → Use
overflow_use given = record { name = codes "overflow"; default = codes "stop"; most = None; given = given }

abbrev pub regions_use : Option Text → Use
regions_use given = record { name = codes "regions"; default = codes "paths"; most = None; given = given }

abbrev pub unknown_use : Option Text → Use
unknown_use given = record { name = codes "unknown"; default = codes "zero"; most = None; given = given }

abbrev pub includes_use : Option Text → Use
includes_use given = record { name = codes "includes"; default = codes "assert"; most = None; given = given }

abbrev pub steps_use : Option Text → Use
steps_use given = record { name = codes "steps"; default = codes "1000"; most = Some 1000000; given = given }

abbrev pub options_of : (a b c d e f k j g : Option Text) → List Use
options_of a b c d e f k j g = domain_use a ∷ delay_use b ∷ narrow_use c ∷ widening_use d ∷ overflow_use e ∷ regions_use f ∷ unknown_use k ∷ includes_use j ∷ steps_use g ∷ []

pub rules_are : (a b c d e f k j g : Option Text) → (built options_app).top.rules ≡ map rule_for (options_of a b c d e f k j g)
rules_are a b c d e f k j g = refl

words_are : (a b c d e f k j g : Option Text) → words_given a b c d e f k j g ≡ words_for (options_of a b c d e f k j g)
words_are a b c d e f k j None = refl
words_are a b c d e f k j (Some g) = refl

-- ---- the word of each option

domain_turn : IsTurn (codes "domain") None
unfolding clap_on_literals
domain_turn rows v fresh = (rw fresh refl, refl)

delay_first : (rows : List Row) (v : Text) (b : Bool) → has_row (codes "delay") rows ≡ false → accepts false (vp.Unsigned 0 16) v ≡ b → IsFirst (codes "delay") v b rows
unfolding clap_on_literals
delay_first rows v true fresh e = (rw (fresh, e) refl, refl)
delay_first rows v false fresh e = (rw (fresh, e) refl, refl)

delay_turn : IsTurn (codes "delay") (Some 16)
delay_turn rows v fresh = delay_first rows v (fits 16 (Some v)) fresh refl

narrow_first : (rows : List Row) (v : Text) (b : Bool) → has_row (codes "narrow") rows ≡ false → accepts false (vp.Unsigned 0 8) v ≡ b → IsFirst (codes "narrow") v b rows
unfolding clap_on_literals
narrow_first rows v true fresh e = (rw (fresh, e) refl, refl)
narrow_first rows v false fresh e = (rw (fresh, e) refl, refl)

narrow_turn : IsTurn (codes "narrow") (Some 8)
narrow_turn rows v fresh = narrow_first rows v (fits 8 (Some v)) fresh refl

widening_turn : IsTurn (codes "widening") None
unfolding clap_on_literals
widening_turn rows v fresh = (rw fresh refl, refl)

overflow_turn : IsTurn (codes "overflow") None
unfolding clap_on_literals
overflow_turn rows v fresh = (rw fresh refl, refl)

regions_turn : IsTurn (codes "regions") None
unfolding clap_on_literals
regions_turn rows v fresh = (rw fresh refl, refl)

unknown_turn : IsTurn (codes "unknown") None
unfolding clap_on_literals
unknown_turn rows v fresh = (rw fresh refl, refl)

includes_turn : IsTurn (codes "includes") None
unfolding clap_on_literals
includes_turn rows v fresh = (rw fresh refl, refl)

steps_first : (rows : List Row) (v : Text) (b : Bool) → has_row (codes "steps") rows ≡ false → accepts false (vp.Unsigned 0 1000000) v ≡ b → IsFirst (codes "steps") v b rows
unfolding clap_on_literals
steps_first rows v true fresh e = (rw (fresh, e) refl, refl)
steps_first rows v false fresh e = (rw (fresh, e) refl, refl)

steps_turn : IsTurn (codes "steps") (Some 1000000)
steps_turn rows v fresh = steps_first rows v (fits 1000000 (Some v)) fresh refl

turns : (a b c d e f k j g : Option Text) → AreTurns (options_of a b c d e f k j g)
turns a b c d e f k j g = (domain_turn, (delay_turn, (narrow_turn, (widening_turn, (overflow_turn, (regions_turn, (unknown_turn, (includes_turn, (steps_turn, tt)))))))))

-- ---- what is refused

pub or_else_none : (kinds : Kinds) → or_else kinds [] ≡ kinds
or_else_none [] = refl
or_else_none (k ∷ ks) = refl

-- the kinds of the first value that is not in its range
abbrev pub range_faults : Option Text → Option Text → Option Text → Kinds
range_faults delay narrow steps =
    or_else (refused_unless (fits 16 delay)) (or_else (refused_unless (fits 8 narrow)) (or_else (refused_unless (fits 1000000 steps)) []))

pub words_fault : (a b c d e f k j g : Option Text) → walk_at [] (words_given a b c d e f k j g) ≡ range_faults b c g
words_fault a b c d e f k j g =
    ap (walk_at []) (words_are a b c d e f k j g) ∙ uses.words_fault (options_of a b c d e f k j g) [] (turns a b c d e f k j g) refl refl

-- what is refused after the words, where the walk ends there
abbrev pub fault_after : Walk → Kinds
fault_after w =
    let app = built options_app in
    let s = app.top in
    or_else (entered_fault app w.stopped) (or_else (settle_fault s.rules s.args_override_self w.held)
    (or_else (defaults_fault (settled s.rules w.held).rows s.rules) (check_fault s (finished s.rules w.held) (is_some (entered app w.stopped)))))

-- what is refused after the words
abbrev pub end_fault : List Text → Kinds
end_fault words = fault_after (walk (built options_app).top.rules (names_of (built options_app)) nothing_held words)

pub fault_parts : (words : List Text) → fault_of options_app words ≡ or_else (walk_at [] words) (end_fault words)
fault_parts words = refl

-- the walk over the words
walk_is : (a b c d e f k j g : Option Text) → walk (built options_app).top.rules (names_of (built options_app)) nothing_held (words_given a b c d e f k j g)
    ≡ at_rows (with_words (options_of a b c d e f k j g) [])
walk_is a b c d e f k j g = rw (words_are a b c d e f k j g) (words_walk (options_of a b c d e f k j g) [] (turns a b c d e f k j g) refl refl)

good : (a b c d e f k j g : Option Text) → AreGood (options_of a b c d e f k j g)
unfolding clap_on_literals
good a b c d e f k j g = (refl, (refl, (refl, (refl, (refl, (refl, (refl, (refl, (refl, tt)))))))))

after_rows : (a b c d e f k j g : Option Text) (rows : List Row) → fault_after (at_rows rows) ≡ []
after_rows a b c d e f k j g rows = rw (no_default_fault (options_of a b c d e f k j g) rows (good a b c d e f k j g)) refl

-- nothing is refused after the words
pub end_none : (a b c d e f k j g : Option Text) → end_fault (words_given a b c d e f k j g) ≡ []
end_none a b c d e f k j g = ap fault_after (walk_is a b c d e f k j g) ∙ after_rows a b c d e f k j g (with_words (options_of a b c d e f k j g) [])

-- ---- what is read

-- each option has the row of the text that is given, or of its default
pub rows_read : (a b c d e f k j g : Option Text) → AreFinal (options_of a b c d e f k j g) (matches_of options_app (words_given a b c d e f k j g))
rows_read a b c d e f k j g =
    let us = options_of a b c d e f k j g in
    rw (walk_is a b c d e f k j g) (defaults_final us (with_words us []) refl (uses.words_given us [] refl refl))
