use Rattle.reading_laws.proofs.LineAnswers.{texts_have_lines}
use Rattle.reading_laws.proofs.NameAnswers.{names_are_judged}
use Rattle.reading_laws.proofs.Searching.{first_configurations}
use Rattle.reading_laws.proofs.VariantAnswers.{variants_have_texts}
use Rattle.reading_laws.proofs.answers.phases_have_answers.Goals as goal

pub returns-clause-lines : goal.returns-clause-lines
returns-clause-lines c = texts_have_lines c.bytes_have_a_reading.ensures

pub returns-clause-variants : goal.returns-clause-variants
returns-clause-variants c = variants_have_texts (texts_have_lines c.bytes_have_a_reading.ensures)

pub returns-clause-configurations : goal.returns-clause-configurations
returns-clause-configurations c = first_configurations

pub returns-clause-names : goal.returns-clause-names
returns-clause-names c = names_are_judged first_configurations
