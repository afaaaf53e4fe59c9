use Rattle.std.proofs.Common.{List, [], ℕ, sym, subst, ◌∙◌}
use Rattle.fam_outer.specs.declared.dialect.Includes.TheVariants.{Assert}
use Rattle.c_parser.specs.Reading.{DeclaresAmong}
use Rattle.reading_tests.proofs.Given.{text, among}
use Rattle.reading_tests.proofs.files.given_names.Goals as goal

pub read_plain_with-requires-clause-declared : goal.read_plain_with-requires-clause-declared
read_plain_with-requires-clause-declared g c = subst (λ (names : List (List ℕ)). DeclaresAmong Assert [] names text) (sym (c.items.ensures ∙ c.in_ok-names.ensures)) among
