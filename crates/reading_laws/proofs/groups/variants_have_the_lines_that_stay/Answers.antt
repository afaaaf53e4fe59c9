use Rattle.reading_laws.proofs.Variants.{variants_have_staying_lines}
use Rattle.reading_laws.proofs.groups.variants_have_the_lines_that_stay.Goals as goal

pub returns : goal.returns
returns c = variants_have_staying_lines
