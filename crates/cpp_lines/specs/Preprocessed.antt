-- The text of a variant: the lines that stay where each condition has a truth (ISO/IEC 9899:2011, 6.10.1).
use Rattle.std.specs.Prelude.{ℕ, Bool, ◌&&◌, if◌then◌else◌, List, [], ◌∷◌, ◌++◌, Option, Some, None}
use Rattle.cpp_groups.specs.declared.directive.GroupDirective.{GroupDirective}
use Rattle.cpp_groups.specs.declared.directive.GroupDirective.TheVariants as directives
use Rattle.cpp_groups.specs.declared.section.Section.{Section}
use Rattle.cpp_groups.specs.Kept.{all_kept, sections_after}
use Rattle.cpp_lines.specs.declared.line.Line.{Line}
use Rattle.cpp_lines.specs.declared.line.LineKind.{LineKind}
use Rattle.cpp_lines.specs.declared.line.LineKind.TheVariants as kinds
use Rattle.cpp_lines.specs.Lines.{stays, pieces}

-- the group directive of a line
abbrev pub group_of : LineKind → Option GroupDirective
group_of kinds.Code = None
group_of kinds.Include = None
group_of (kinds.If n) = Some (directives.If n)
group_of (kinds.Elif n) = Some (directives.Elif n)
group_of kinds.Else = Some directives.Else
group_of kinds.Endif = Some directives.Endif
group_of kinds.Define = None

-- a line stays as it is where it is code or a definition, and each group around it is the kept one of its section; every other one is
-- empty
abbrev pub kept_line : List Section → LineKind → List ℕ → List ℕ
kept_line sections kind piece = if stays kind && all_kept sections then piece else []

-- these lines, the first behind these open sections
abbrev pub kept_lines : List Bool → List Section → List Line → List (List ℕ) → List (List ℕ)
kept_lines truths sections [] ps = []
kept_lines truths sections (l ∷ ls) [] = []
kept_lines truths sections (l ∷ ls) (p ∷ ps) = kept_line sections l.kind p ∷ kept_lines truths (sections_after truths sections (group_of l.kind)) ls ps

-- the text of pieces with newlines between them
abbrev pub with_newlines : List (List ℕ) → List ℕ
with_newlines [] = []
with_newlines (p ∷ []) = p
with_newlines (p ∷ (q ∷ ps)) = p ++ 10 ∷ with_newlines (q ∷ ps)

-- the text of the lines that stay, with an empty line for each other one, so that places stay
unfoldable pub preprocessed : List Bool → List Line → List ℕ → List ℕ
preprocessed truths lines text = with_newlines (kept_lines truths [] lines (pieces text))
