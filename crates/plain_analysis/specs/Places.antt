-- The leaf at a place of a program, and the alarms there.
use Rattle.std.specs.Prelude.{◌++◌, Bool, false, if◌then◌else◌, nat_eq, ◌&&◌, List, [], ◌∷◌, Option, Some, None}
use Rattle.c_tree.specs.declared.tree.Kind.{Kind}
use Rattle.c_tree.specs.declared.tree.Mode.{Mode}
use Rattle.c_tree.specs.declared.tree.Kind.TheVariants.{Overflow, ZeroDivisor, Assertion}
use Rattle.c_tree.specs.Tree.{Whole}
use Rattle.c_tree.specs.Places.{program_places}
use Rattle.fam_outer.specs.declared.faults.Place.{Place}
use Rattle.leaf_domain.specs.Leaves.{LeafValue, LeafMeaning, nothing_of}
use Rattle.leaf_domain.specs.Stops.{may_at}
use Rattle.plain_analysis.specs.declared.alarm.Alarm.{Alarm}
use Rattle.plain_analysis.specs.declared.options.Options.{Options}
use Rattle.plain_analysis.specs.Statements.{Heads, Entry, passed, entries_by, final_heads}
use Rattle.plain_analysis.specs.Ways.{enter, end_of}

abbrev pub is_same_place : Place → Place → Bool
is_same_place a b = nat_eq a.line b.line && nat_eq a.column b.column

-- the first entry at a place
abbrev pub entry_in : List Entry → Place → Option Entry
entry_in [] place = None
entry_in (e ∷ es) place = if is_same_place e.place place then Some e else entry_in es place

-- the statement of a program at a place, where there is one, in a pass from d
abbrev pub entry_by : LeafMeaning → Mode → Heads → Whole → LeafValue → Place → Option Entry
entry_by M mode H p d place = entry_in (entries_by M mode H p.body (enter d)) place

abbrev pub leaf_or : LeafValue → Option Entry → LeafValue
leaf_or v None = v
leaf_or v (Some e) = e.leaf

-- the leaf at a place in a pass: that of the statement there; at the last brace the leaf at the end; elsewhere Nothing
abbrev pub at_by : LeafMeaning → Mode → Heads → Whole → LeafValue → Place → LeafValue
at_by M mode H p d place =
    leaf_or (if is_same_place p.end place then end_of M (passed M mode H p.body (enter d)) else nothing_of d.variables) (entry_by M mode H p d place)

-- the same in an analysis
abbrev pub at_of : LeafMeaning → Options → Whole → LeafValue → Place → LeafValue
at_of M o p d place = at_by M o.mode (final_heads M o) p d place

-- whether a statement may stop with the kind, by its leaf
abbrev pub may_stop : LeafMeaning → Mode → Option Entry → Kind → Bool
may_stop M mode None kind = false
may_stop M mode (Some e) kind = may_at M mode kind e.statement e.leaf

-- whether there is an alarm of a kind at a place, in a pass and in an analysis
abbrev pub alarm_by : LeafMeaning → Mode → Heads → Whole → LeafValue → Place → Kind → Bool
alarm_by M mode H p d place kind = may_stop M mode (entry_by M mode H p d place) kind

abbrev pub alarm_of : LeafMeaning → Options → Whole → LeafValue → Place → Kind → Bool
alarm_of M o p d place kind = alarm_by M o.mode (final_heads M o) p d place kind

abbrev pub alarm_where : Bool → Place → Kind → List Alarm
alarm_where b place kind = if b then record { place = place; kind = kind } ∷ [] else []

-- the alarms at a place, by kind
abbrev pub alarms_at : (Kind → Bool) → Place → List Alarm
alarms_at is_alarm place =
    alarm_where (is_alarm Overflow) place Overflow ++ (alarm_where (is_alarm ZeroDivisor) place ZeroDivisor ++ alarm_where (is_alarm Assertion) place Assertion)

-- the alarms at all places of a list
abbrev pub alarms_over : (Place → Kind → Bool) → List Place → List Alarm
alarms_over is_alarm [] = []
alarms_over is_alarm (place ∷ places) = alarms_at (is_alarm place) place ++ alarms_over is_alarm places

-- the alarms of a program in a pass and in an analysis, by place and then by kind
abbrev pub alarms_by : LeafMeaning → Mode → Heads → Whole → LeafValue → List Alarm
alarms_by M mode H p d = alarms_over (alarm_by M mode H p d) (program_places p)

abbrev pub alarms_of : LeafMeaning → Options → Whole → LeafValue → List Alarm
alarms_of M o p d = alarms_over (alarm_of M o p d) (program_places p)
