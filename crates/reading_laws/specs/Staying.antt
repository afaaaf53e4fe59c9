-- The items and the lines that stay of a file, and the laws that tie them to `kept` and `preprocessed`.
use Rattle.std.specs.Prelude.{◌≡◌, ℕ, Bool, ◌&&◌, if◌then◌else◌, List, [], ◌∷◌, map, Ok}
use Rattle.fam_outer.specs.declared.dialect.Dialect.{Dialect}
use Rattle.linear_atoms.specs.declared.atoms.Atom.{Atom}
use Rattle.cpp_conditions.specs.Propositions.{Proposition}
use Rattle.cpp_conditions.specs.Validity.{Plain}
use Rattle.cpp_lines.specs.declared.line.Line.{Line}
use Rattle.cpp_lines.specs.Lines.{stays as line_stays, pieces}
use Rattle.cpp_lines.specs.Preprocessed.{group_of, kept_lines, with_newlines}
use Rattle.cpp_lines.specs.Sections.{Told, TextIsRead}
use Rattle.cpp_lines.specs.Whole.{blanked_file, IsPreprocessed}
use Rattle.c_grammar.specs.declared.items.Item.{Item}
use Rattle.c_grammar.specs.Kept.{directive_of, kept}
use Rattle.c_parser.specs.FamilyItems.{HasItems}
use Rattle.c_parser.specs.Items.{Listed}
use Rattle.reading_laws.specs.Sectioned.{Directives, Group, IsSectioned, Stays}

-- the group directives of items, and of lines
abbrev pub item_groups : List Item → Directives
item_groups items = map (λ x. directive_of x.sign) items

abbrev pub line_groups : List Line → Directives
line_groups lines = map (λ l. group_of l.kind) lines

-- the items that stay
abbrev pub staying_items : List Bool → List Item → List Item
staying_items [] items = []
staying_items (b ∷ bs) [] = []
staying_items (b ∷ bs) (x ∷ xs) = if b then x ∷ staying_items bs xs else staying_items bs xs

-- the pieces of the lines of code, and of definitions, that stay, and an empty one for each other line
abbrev pub staying_lines : List Bool → List Line → List (List ℕ) → List (List ℕ)
staying_lines [] lines ps = []
staying_lines (b ∷ bs) [] ps = []
staying_lines (b ∷ bs) (l ∷ ls) [] = []
staying_lines (b ∷ bs) (l ∷ ls) (p ∷ ps) = (if line_stays l.kind && b then p else []) ∷ staying_lines bs ls ps

-- ---- the laws

-- of a text with whole sections it is known which lines, or items, stay
abbrev pub GroupsStay : Type 0
GroupsStay = (truths : List Bool) (groups : Directives) → IsSectioned Group groups → (stay : List Bool) × Stays truths Group groups stay

-- the kept items are those that stay
abbrev pub KeptItemsStay : Type 0
KeptItemsStay = (truths stay : List Bool) (items : List Item) → Stays truths Group (item_groups items) stay → kept truths items ≡ staying_items stay items

-- and so are the kept lines
abbrev pub KeptLinesStay : Type 0
KeptLinesStay = (truths stay : List Bool) (lines : List Line) (ps : List (List ℕ)) → Stays truths Group (line_groups lines) stay → kept_lines truths [] lines ps ≡ staying_lines stay lines ps

-- the lines of a text that is read have whole sections
abbrev pub LinesAreSectioned : Type 0
LinesAreSectioned = (dialect : Dialect) (model : Plain) (text : List ℕ) (told : Told) → TextIsRead dialect model text (Ok told) → IsSectioned Group (line_groups told.lines)

-- and so have the items of a file with groups, whether its grammar is right or wrong
abbrev pub ItemsAreSectioned : Type 0
ItemsAreSectioned = (dialect : Dialect) (model : Plain) (bytes : List ℕ) (told : Told) (l : Listed) → HasItems dialect model bytes told l → IsSectioned Group (item_groups l.items)

-- the text is that of the lines that stay of a file's blanked text
pub record HasStayingLines (dialect : Dialect) (model : Plain) (truths : List (Proposition Atom) → List Bool) (bytes text : List ℕ) : Type 0 where
  pub blanked : List ℕ
  pub told : Told
  pub without_comments : blanked_file bytes ≡ Ok blanked
  pub read : TextIsRead dialect model blanked (Ok told)
  pub stay : List Bool
  pub stays : Stays (truths told.conditions) Group (line_groups told.lines) stay
  pub is : text ≡ with_newlines (staying_lines stay told.lines (pieces blanked))

-- each text of a variant is so, whether its file is accepted or not
abbrev pub VariantsHaveStayingLines : Type 0
VariantsHaveStayingLines = (dialect : Dialect) (model : Plain) (truths : List (Proposition Atom) → List Bool) (bytes text : List ℕ) → IsPreprocessed dialect model truths bytes text → HasStayingLines dialect model truths bytes text
