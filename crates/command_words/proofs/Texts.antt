-- The texts that the command of the options reads from the words of any values.
use Rattle.std.proofs.Common.{codes}
use Rattle.std.specs.Prelude.{Option, unwrap_or}
use Rattle.clap.specs.Words.{Text, matches_of}
use Rattle.command_words.specs.Options.{HasTexts, options_app, words_given}
use Rattle.command_words.proofs.Faults.{rows_read, domain_use, delay_use, narrow_use, widening_use, overflow_use, regions_use, unknown_use, includes_use, steps_use}
use Rattle.command_words.proofs.Uses.{first_text, one_text}

-- each option has the text that is given, or its default
pub texts_read : (a b c d e f k j g : Option Text) → HasTexts (matches_of options_app (words_given a b c d e f k j g))
    (unwrap_or a (codes "interval")) (unwrap_or b (codes "0")) (unwrap_or c (codes "1")) (unwrap_or d (codes "type")) (unwrap_or e (codes "stop"))
    (unwrap_or f (codes "paths")) (unwrap_or k (codes "zero")) (unwrap_or j (codes "assert")) (unwrap_or g (codes "1000"))
texts_read a b c d e f k j g =
    let rows = matches_of options_app (words_given a b c d e f k j g) in
    let r = rows_read a b c d e f k j g in
    record {
      domain_is = first_text (domain_use a) rows r.0;
      delay_is = one_text (delay_use b) rows r.1.0;
      narrow_is = one_text (narrow_use c) rows r.1.1.0;
      widening_is = first_text (widening_use d) rows r.1.1.1.0;
      overflow_is = first_text (overflow_use e) rows r.1.1.1.1.0;
      regions_is = first_text (regions_use f) rows r.1.1.1.1.1.0;
      unknown_is = first_text (unknown_use k) rows r.1.1.1.1.1.1.0;
      includes_is = first_text (includes_use j) rows r.1.1.1.1.1.1.1.0;
      steps_is = one_text (steps_use g) rows r.1.1.1.1.1.1.1.1.0;
    }
