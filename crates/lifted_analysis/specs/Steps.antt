-- What the steps of an analysis do to leaves.
use Rattle.std.specs.Prelude.{◌≡◌, ℕ, ℤ, ◌<◌, Bool, true, false, if◌then◌else◌, List}
use Rattle.c_tree.specs.declared.tree.Mode.{Mode}
use Rattle.c_tree.specs.Tree.{Term, Code}
use Rattle.c_tree.specs.View.{term}
use Rattle.c_tree.specs.Fit.{IsTermOf}
use Rattle.c_tree.specs.Project.{projected}
use Rattle.decision_tree.specs.Plain.{Plain, leaf_of}
use Rattle.leaf_domain.specs.Leaves.{LeafValue, LeafMeaning, nothing_of}
use Rattle.leaf_domain.specs.Transfer.{assumed, assigned, valued, forgotten}
use Rattle.plain_analysis.specs.Loops.{round_by, final_leaf}
use Rattle.plain_analysis.specs.Statements.{Heads, LoopParts, TestFirst, TestLast, final_heads, passed, chosen, after_of, lap_of, loop_turn}
use Rattle.plain_analysis.specs.Ways.{Ways, onto, going_on}
use Rattle.lifted_analysis.specs.declared.family_context.FamilyContext.{FamilyContext}
use Rattle.lifted_analysis.specs.declared.operations.Step.{Step}
use Rattle.lifted_analysis.specs.declared.operations.Step.TheVariants as step
use Rattle.lifted_analysis.specs.declared.operations.Combination.{Combination}
use Rattle.lifted_analysis.specs.declared.operations.Combination.TheVariants as combination
use Rattle.lifted_analysis.specs.Lines.{AreVariableBounds, bounded_by}
use Rattle.lifted_analysis.specs.States.{truths_in}

-- a step over so many variables
abbrev pub IsStepOf : ℕ → Step → Type 0
IsStepOf n (step.Assign x e) = (x < n) × IsTermOf n (term e.now)
IsStepOf n (step.Forget x) = x < n
IsStepOf n (step.Assume e want) = IsTermOf n (term e.now)
IsStepOf n (step.Evaluate e) = IsTermOf n (term e.now)
IsStepOf n (step.Bound bounds) = AreVariableBounds n bounds.now

abbrev pub stepped_by : LeafMeaning → Mode → Step → LeafValue → LeafValue
stepped_by M mode (step.Assign x e) v = assigned M mode x (term e.now) v
stepped_by M mode (step.Forget x) v = forgotten M x v
stepped_by M mode (step.Assume e want) v = assumed M mode (term e.now) want v
stepped_by M mode (step.Evaluate e) v = valued M mode (term e.now) v
stepped_by M mode (step.Bound bounds) v = bounded_by M bounds.now v

abbrev pub combined_by : LeafMeaning → List ℤ → Combination → LeafValue → LeafValue → LeafValue
combined_by M ts combination.Join v w = M.join v w
combined_by M ts (combination.Round is_early) v w = round_by M ts is_early v w
combined_by M ts combination.Narrow v w = M.narrow ts v w

-- the leaf where the truth is as wanted, and Nothing elsewhere
abbrev pub kept_by : Bool → Bool → LeafValue → LeafValue
kept_by true b v = if b then v else nothing_of v.variables
kept_by false b v = if b then nothing_of v.variables else v

-- the parts of a loop of a family, where its conditions have these truths
abbrev pub parts_at : List Bool → LoopParts → LoopParts
parts_at ts (TestFirst test step body) = TestFirst test (projected ts step) (projected ts body)
parts_at ts (TestLast body at test) = TestLast (projected ts body) at test

-- the leaf with which the test of a loop fails, where the head has x and the body leaves so
abbrev pub failing_so : LeafMeaning → Mode → LoopParts → LeafValue → Ways → LeafValue
failing_so M mode (TestFirst test step body) x b = assumed M mode test false x
failing_so M mode (TestLast body at test) x b = assumed M mode test false (going_on M b)

-- what statements of a family make of what was passed, at a vector
abbrev pub after_at : LeafMeaning → FamilyContext → Code → List Bool → Ways → Ways
after_at M family c v w = after_of M family.options.now (projected (truths_in family.choices.now v) c) w

-- what two lists make of what was passed, one after the other, each with its own heads, of which the second is entered with y
abbrev pub both_by : LeafMeaning → Mode → Heads → Heads → Code → Code → Ways → LeafValue → Ways
both_by M mode H K p q w y =
    let a = passed M mode H p w in
    let b = passed M mode K q (onto a y) in
    onto b (M.join a.behind b.behind)

-- what both of them leave behind is over so many variables
abbrev pub AreCounted : ℕ → LeafMeaning → Mode → Heads → Heads → Code → Code → Ways → LeafValue → Type 0
AreCounted n M mode H K p q w y =
    let a = passed M mode H p w in
    (a.behind.variables ≡ n) × ((passed M mode K q (onto a y)).behind.variables ≡ n)

abbrev pub both_at : LeafMeaning → FamilyContext → Code → Code → List Bool → Ways → LeafValue → Ways
both_at M family p q v w y =
    let H = final_heads M family.options.now in
    both_by M family.options.now.mode H H (projected (truths_in family.choices.now v) p) (projected (truths_in family.choices.now v) q) w y

-- what two lists make of it, of which the first is entered where the test is not 0, and then the second where it is
abbrev pub if_at : LeafMeaning → FamilyContext → Term → Code → Code → List Bool → Ways → Ways
if_at M family test p q v w =
    chosen M family.options.now.mode (final_heads M family.options.now) test (projected (truths_in family.choices.now v) p) (projected (truths_in family.choices.now v) q) w

-- what the kept one of two lists makes of it
abbrev pub group_at : LeafMeaning → FamilyContext → Plain Bool → Code → Code → List Bool → Ways → Ways
group_at M family choice p q v w = if leaf_of choice v then after_at M family p v w else after_at M family q v w

-- what a lap of a loop makes of the head's leaf
abbrev pub lap_at : LeafMeaning → FamilyContext → LoopParts → List Bool → LeafValue → LeafValue
lap_at M family l v x = lap_of M family.options.now (parts_at (truths_in family.choices.now v) l) x

-- what comes in at the head of a loop of a family at a vector, where it is entered with d and the head has x
abbrev pub turn_at : LeafMeaning → FamilyContext → LoopParts → List Bool → LeafValue → LeafValue → LeafValue
turn_at M family l v d x = loop_turn M family.options.now (parts_at (truths_in family.choices.now v) l) d x

-- the final leaf of a loop of a family at a vector
abbrev pub final_at : LeafMeaning → FamilyContext → LoopParts → List Bool → LeafValue → LeafValue
final_at M family l v d = final_leaf M family.options.now (lap_at M family l v) d
