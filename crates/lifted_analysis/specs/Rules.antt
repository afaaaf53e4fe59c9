-- What loops of a family have at their heads.
use Rattle.std.specs.Prelude.{◌≡◌, Bool, true, false, not, if◌then◌else◌, List}
use Rattle.fam_outer.specs.declared.faults.Place.{Place}
use Rattle.c_tree.specs.Tree.{Term, Code}
use Rattle.c_tree.specs.Project.{projected}
use Rattle.decision_tree.specs.declared.tree.Tree.{Tree}
use Rattle.decision_tree.specs.Plain.{Plain, leaf_of}
use Rattle.decision_tree.specs.Numbered.{Numbered}
use Rattle.decision_tree.specs.View.{numbered, plain}
use Rattle.leaf_domain.specs.Leaves.{LeafValue, LeafMeaning, nothing_of}
use Rattle.plain_analysis.specs.Statements.{Heads, LoopParts, passed, chosen, through_body, lap, head_by, behind_by, final_heads}
use Rattle.plain_analysis.specs.Ways.{Ways}
use Rattle.lifted_analysis.specs.declared.family_context.FamilyContext.{FamilyContext}
use Rattle.lifted_analysis.specs.declared.finals.Finals.{Finals}
use Rattle.lifted_analysis.specs.declared.lines.LoopLine.{LoopLine}
use Rattle.lifted_analysis.specs.declared.rule.Rule.{Rule}
use Rattle.lifted_analysis.specs.declared.rule.Rule.TheVariants as rule
use Rattle.lifted_analysis.specs.Finals.{Remembers}
use Rattle.lifted_analysis.specs.LineIndex.{IsIndexOf}
use Rattle.lifted_analysis.specs.Lines.{given_heads}
use Rattle.lifted_analysis.specs.States.{IsState, truths_in}
use Rattle.lifted_analysis.specs.Steps.{parts_at, both_by, AreCounted}

abbrev pub no_heads : Heads
no_heads place lap x = nothing_of x.variables

-- these heads where statements are kept, and Nothing elsewhere
abbrev pub heads_where : Bool → Heads → Heads
heads_where true H = H
heads_where false H = no_heads

-- the heads of an analysis: final leaves, at each vector
abbrev pub ended_heads : LeafMeaning → FamilyContext → List Bool → Heads
ended_heads M family v = final_heads M family.options.now

-- a truth as wanted
abbrev pub as_wanted : Bool → Bool → Bool
as_wanted want b = if want then b else not b

-- the heads at a vector: final leaves, or what lines give
abbrev pub ruled_heads : {L : Type 0} → (L → LeafValue) → LeafMeaning → FamilyContext → Rule L → List Bool → Heads
ruled_heads value M family rule.Rounds v = final_heads M family.options.now
ruled_heads value M family (rule.Lines start index) v = given_heads M family.lines.now v (value (leaf_of (plain start) v))

-- the rule by these lines, which it has an index of, over this tree of start values, or that by rounds
abbrev pub IsRuleOf : {L : Type 0} → Bool → List LoopLine → Numbered L → Rule L → Type 0
IsRuleOf true lines start (rule.Lines s index) = (numbered s ≡ start) × IsIndexOf lines index
IsRuleOf true lines start rule.Rounds = ⊥
IsRuleOf false lines start (rule.Lines s index) = ⊥
IsRuleOf false lines start rule.Rounds = Unit {0}

-- the heads by such a rule, where the start values have this leaf at a vector
abbrev pub chosen_heads : LeafMeaning → FamilyContext → Bool → List Bool → LeafValue → Heads
chosen_heads M family true v d = given_heads M family.lines.now v d
chosen_heads M family false v d = final_heads M family.options.now

-- the same of statements that are kept where `here` is true
abbrev pub heads_in : {L : Type 0} → (L → LeafValue) → LeafMeaning → FamilyContext → Rule L → Plain Bool → List Bool → Heads
heads_in value M family r here v = heads_where (leaf_of here v) (ruled_heads value M family r v)

-- what statements of a family make of what was passed, at a vector
abbrev pub passed_with : LeafMeaning → FamilyContext → (List Bool → Heads) → Code → List Bool → Ways → Ways
passed_with M family H c v w = passed M family.options.now.mode (H v) (projected (truths_in family.choices.now v) c) w

-- what two lists make of what was passed, one after the other, each with its own heads, of which the second is entered with y
abbrev pub both_with : LeafMeaning → FamilyContext → (List Bool → Heads) → (List Bool → Heads) → Code → Code → List Bool → Ways → LeafValue → Ways
both_with M family H K p q v w y =
    both_by M family.options.now.mode (H v) (K v) (projected (truths_in family.choices.now v) p) (projected (truths_in family.choices.now v) q) w y

abbrev pub AreCountedWith : LeafMeaning → FamilyContext → (List Bool → Heads) → (List Bool → Heads) → Code → Code → List Bool → Ways → LeafValue → Type 0
AreCountedWith M family H K p q v w y =
    AreCounted family.variables M family.options.now.mode (H v) (K v) (projected (truths_in family.choices.now v) p) (projected (truths_in family.choices.now v) q) w y

-- what two lists make of it, of which the first is entered where the test is not 0, and then the second where it is
abbrev pub sides_with : LeafMeaning → FamilyContext → (List Bool → Heads) → Term → Code → Code → List Bool → Ways → Ways
sides_with M family H test p q v w =
    chosen M family.options.now.mode (H v) test (projected (truths_in family.choices.now v) p) (projected (truths_in family.choices.now v) q) w

-- what the kept one of two lists makes of it
abbrev pub group_with : LeafMeaning → FamilyContext → (List Bool → Heads) → Plain Bool → Code → Code → List Bool → Ways → Ways
group_with M family H choice p q v w = if leaf_of choice v then passed_with M family H p v w else passed_with M family H q v w

-- what the body of a loop makes of the head's leaf
abbrev pub body_with : LeafMeaning → FamilyContext → (List Bool → Heads) → LoopParts → List Bool → LeafValue → Ways
body_with M family H l v x = through_body M family.options.now.mode (H v) (parts_at (truths_in family.choices.now v) l) x

-- what a lap of a loop makes of the head's leaf
abbrev pub lap_with : LeafMeaning → FamilyContext → (List Bool → Heads) → LoopParts → List Bool → LeafValue → LeafValue
lap_with M family H l v x = lap M family.options.now.mode (H v) (parts_at (truths_in family.choices.now v) l) x

-- the head of a loop
abbrev pub head_with : LeafMeaning → FamilyContext → (List Bool → Heads) → Place → LoopParts → List Bool → LeafValue → LeafValue
head_with M family H place l v x = head_by M family.options.now.mode (H v) place (parts_at (truths_in family.choices.now v) l) x

-- what stands behind a loop whose head has x
abbrev pub behind_with : LeafMeaning → FamilyContext → (List Bool → Heads) → LoopParts → List Bool → Ways → LeafValue → Ways
behind_with M family H l v w x = behind_by M family.options.now.mode (H v) (parts_at (truths_in family.choices.now v) l) w x

-- a state whose leaves are of the kind
pub record IsStart {L : Type 0} (value : L → LeafValue) (M : LeafMeaning) (family : FamilyContext) (forest : List (Plain L)) (start : Tree L) : Type 0 where
  pub state : IsState value family forest (numbered start)
  pub valid : (v : List Bool) → M.valid (value (leaf_of (plain start) v))

-- the tree of start values by which lines give heads is such a state, and the index is of the family's lines
abbrev pub IsRuled : {L : Type 0} → (L → LeafValue) → LeafMeaning → FamilyContext → List (Plain L) → Rule L → Type 0
IsRuled value M family forest rule.Rounds = Unit {0}
IsRuled value M family forest (rule.Lines start index) = IsStart value M family forest start × IsIndexOf family.lines.now index

-- what is known of a family's loops
pub record Knows {L : Type 0} (value : L → LeafValue) (M : LeafMeaning) (family : FamilyContext) (r : Rule L) (forest : List (Plain L)) (f : Finals L) : Type 0 where
  pub memory : Remembers value M family forest f
  pub ruled : IsRuled value M family forest r
