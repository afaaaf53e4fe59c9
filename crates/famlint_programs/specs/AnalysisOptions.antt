-- How the programs of a file are analysed.
use Rattle.std.specs.Prelude.{ℤ, List, []}
use Rattle.c_tree.specs.Tree.{Whole}
use Rattle.command_words.specs.declared.settings.Widening.{Widening}
use Rattle.command_words.specs.declared.settings.Widening.TheVariants.{«Type», Thresholds}
use Rattle.famlint_requests.specs.declared.request.Analysis.{Analysis}
use Rattle.loop_thresholds.specs.Thresholds.{thresholds_of}
use Rattle.plain_analysis.specs.declared.options.Options.{Options}

-- the thresholds of the whole file, with all its groups, where widening is to step to thresholds
abbrev pub thresholds_by : Widening → Whole → List ℤ
thresholds_by «Type» file = []
thresholds_by Thresholds file = thresholds_of file

-- what is asked for, of the programs of this file
abbrev pub options_of : Analysis → Whole → Options
options_of analysis file = record {
  delay = analysis.delay;
  narrow = analysis.narrow;
  thresholds = thresholds_by analysis.widening file;
  mode = analysis.mode;
}
