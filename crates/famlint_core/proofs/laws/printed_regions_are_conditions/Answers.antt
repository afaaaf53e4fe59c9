use Rattle.famlint_core.proofs.OneReport.{are_conditions}
use Rattle.famlint_core.proofs.laws.printed_regions_are_conditions.Goals as goal

pub returns : goal.returns
returns c = are_conditions c.region_texts_are_conditions.ensures c.region_texts_have_the_meaning_of_regions.ensures
