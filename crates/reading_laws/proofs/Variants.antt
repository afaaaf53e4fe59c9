-- The text of a variant has the lines that stay.
use Rattle.std.proofs.Common.{ap, ◌∙◌}
use Rattle.cpp_lines.specs.Lines.{pieces}
use Rattle.cpp_lines.specs.Preprocessed.{with_newlines, preprocessed}
use Rattle.reading_laws.specs.Staying.{line_groups, VariantsHaveStayingLines}
use Rattle.reading_laws.proofs.Kept.{groups_stay, kept_lines_stay}
use Rattle.reading_laws.proofs.Walking.{lines_are_sectioned}

pub variants_have_staying_lines : VariantsHaveStayingLines
unfolding preprocessed
variants_have_staying_lines dialect model truths bytes text q =
    let known = truths q.told.conditions in
    let s = groups_stay known (line_groups q.told.lines) (lines_are_sectioned dialect model q.blanked q.told q.read) in
    record {
      blanked = q.blanked;
      told = q.told;
      without_comments = q.without_comments;
      read = q.read;
      stay = s.0;
      stays = s.1;
      is = q.is ∙ ap with_newlines (kept_lines_stay known s.0 q.told.lines (pieces q.blanked) s.1);
    }
