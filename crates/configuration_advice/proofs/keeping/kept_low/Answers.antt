use Rattle.std.proofs.Common.{◌≡◌, Some, arith, pos, ◌+ℤ◌, length, sym, ap, subst, ◌∙◌}
use Rattle.std.specs.Prelude.{slice_get}
use Rattle.std.proofs.lemmas.Int.{ints}
use Rattle.cpp_conditions.specs.Propositions.{IsBelow}
use Rattle.configuration_advice.specs.Changes.{SaysKept}
use Rattle.configuration_advice.specs.Tests.{at_least}
use Rattle.configuration_advice.proofs.Advised.{small_more}
use Rattle.configuration_advice.proofs.Asked.{fit_of}
use Rattle.configuration_advice.proofs.KeptTests.{low_says, stands_below}
use Rattle.configuration_advice.proofs.keeping.kept_low.Goals as goal

pub returns-clause-says : goal.returns-clause-says
returns-clause-says c = λ feature e.
    let small = c.requires.value in
    let there : slice_get c.test_of.new.atoms.items c.in_ok-test.test ≡ Some (at_least c.args.number (c.args.value +ℤ pos 1)) =
    c.in_ok-test.ensures.there ∙ ap Some (c.in_ok-at_least.ensures ∙ ap (at_least c.args.number) (omega (arith, ints, small))) in
    subst (SaysKept c.test_of.new.atoms.items feature c.args.number c.args.value) (sym c.in_ok-made.ensures)
    (low_says c.test_of.new.atoms.items feature c.args.number c.args.value c.in_ok-test.test there e)

pub returns-clause-below : goal.returns-clause-below
returns-clause-below c =
    subst (IsBelow (length c.test_of.new.atoms.items)) (sym c.in_ok-made.ensures) (stands_below c.test_of.new.atoms.items c.in_ok-test.test _ c.in_ok-test.ensures.there)

pub returns-clause-fits : goal.returns-clause-fits
returns-clause-fits c = λ count fit below.
    let small = c.requires.value in
    c.in_ok-test.ensures.fits count fit (fit_of count c.args.number (c.args.value +ℤ pos 1) _ c.in_ok-at_least.field-0 c.in_ok-at_least.ensures (omega (arith, ints, small)) below (small_more c.args.value small))
