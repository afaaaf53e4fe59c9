-- Preprocessing of items (ISO/IEC 9899:2011, 6.10.1): which items stay where each condition has a truth.
use Rattle.std.specs.Prelude.{Bool, not, ◌&&◌, List, [], ◌∷◌, Option, Some, None, ℕ, if◌then◌else◌}
use Rattle.cpp_groups.specs.declared.directive.GroupDirective.{GroupDirective}
use Rattle.cpp_groups.specs.declared.directive.GroupDirective.TheVariants as directives
use Rattle.cpp_groups.specs.declared.section.Section.{Section}
use Rattle.cpp_groups.specs.Kept.{all_kept, sections_after}
use Rattle.c_tree.specs.Tree.{Whole}
use Rattle.c_tree.specs.Project.{projected_program}
use Rattle.c_grammar.specs.declared.items.Sign.{Sign}
use Rattle.c_grammar.specs.declared.items.Sign.TheVariants as signs
use Rattle.c_grammar.specs.declared.items.Item.{Item}
use Rattle.c_grammar.specs.Grammar.{is_group, Spells}

-- the group directive of a sign
abbrev pub directive_of : Sign → Option GroupDirective
directive_of (signs.GroupIf n) = Some (directives.If n)
directive_of (signs.GroupElif n) = Some (directives.Elif n)
directive_of signs.GroupElse = Some directives.Else
directive_of signs.GroupEnd = Some directives.Endif
directive_of _ = None

-- an item stays where it is no directive and each group around it is the kept one of its section
abbrev pub kept_from : List Bool → List Section → List Item → List Item
kept_from truths sections [] = []
kept_from truths sections (x ∷ w) =
    if not (is_group x.sign) && all_kept sections then x ∷ kept_from truths (sections_after truths sections (directive_of x.sign)) w
    else kept_from truths (sections_after truths sections (directive_of x.sign)) w

abbrev pub kept : List Bool → List Item → List Item
kept truths items = kept_from truths [] items

-- preprocessing and then reading is reading and then projecting
abbrev pub Preprocesses : Type 0
Preprocesses = (names : List (List ℕ)) (items : List Item) (p : Whole) (truths : List Bool) → Spells names p items → Spells names (projected_program truths p) (kept truths items)
