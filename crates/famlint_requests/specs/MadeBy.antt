-- By what a page was made, as it stands at its foot.
use Rattle.std.specs.Prelude.{ℕ, List, ◌++◌, codes}
use Rattle.std.specs.Fmt.{decimal}
use Rattle.fam_outer.specs.declared.dialect.Dialect.{Dialect}
use Rattle.linear_atoms.specs.declared.regions.Regions.{Regions}
use Rattle.command_words.specs.Spelling.{domain_name, widening_name, overflow_name, regions_name, unknown_name, includes_name}
use Rattle.famlint_requests.specs.declared.request.Analysis.{Analysis}
use Rattle.guide_texts.specs.declared.command_texts.TheConstants as commands

-- an option with its value
abbrev pub with_value : List ℕ → List ℕ → List ℕ
with_value option value = option ++ value

-- the options of an analysis that say how much it finds, each with its value
abbrev pub precision_words : Analysis → List ℕ
precision_words analysis =
    with_value (codes "--domain=") (domain_name analysis.domain) ++ (with_value (codes " --delay=") (decimal analysis.delay)
    ++ (with_value (codes " --narrow=") (decimal analysis.narrow) ++ with_value (codes " --widening=") (widening_name analysis.widening)))

-- the other options, each with its value
abbrev pub other_words : Dialect → Analysis → Regions → List ℕ
other_words dialect analysis regions =
    with_value (codes " --overflow=") (overflow_name analysis.mode) ++ (with_value (codes " --regions=") (regions_name regions)
    ++ (with_value (codes " --unknown=") (unknown_name dialect.unknown)
    ++ (with_value (codes " --includes=") (includes_name dialect.includes) ++ codes "\n")))

-- the version, and behind it a line of the options, as words of a command
abbrev pub made_by : Dialect → Analysis → Regions → List ℕ
made_by dialect analysis regions = commands.VERSION.now ++ (codes "options: " ++ (precision_words analysis ++ other_words dialect analysis regions))
