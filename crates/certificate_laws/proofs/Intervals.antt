-- Certificates over leaves of intervals are read back.
use Rattle.std.proofs.Common.{refl, length}
use Rattle.std.proofs.lemmas.List.Elements.{recursion_from_All}
use Rattle.interval_leaf.specs.Intervals.{intervals}
use Rattle.interval_leaf.specs.Laws.{interval_laws}
use Rattle.certificate_laws.specs.Laws.{CertificatesAreReadBack}
use Rattle.certificate_laws.specs.Written.{IsOneLine, IsLoopTree, IsAlarmTree}
use Rattle.certificate_laws.proofs.Features.{have_names}
use Rattle.certificate_laws.proofs.Trees.{loops_written, alarms_written}
use Rattle.certificate_laws.proofs.Back.{read_back}

pub intervals_are_read_back : CertificatesAreReadBack
intervals_are_read_back regions model atoms names mode is alarms bytes result n t text short answers =
    read_back intervals interval_laws (record { forms = λ v f. refl; steps = λ v x. refl }) model (have_names model.features n.named n.distinct) atoms n.well names (recursion_from_All IsOneLine names n.lines) regions mode is alarms bytes result
    (loops_written intervals model atoms names t.loops is (recursion_from_All (IsLoopTree intervals (length atoms) names) t.loops t.loop_trees) t.invariants_are)
    (alarms_written model atoms t.stops alarms (recursion_from_All (IsAlarmTree (length atoms)) t.stops t.alarm_trees) t.alarms_are) text short answers
