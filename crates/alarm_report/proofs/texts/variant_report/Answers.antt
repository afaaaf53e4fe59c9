use Rattle.std.proofs.Common.{◌++◌, ◌∙◌, ap, get_or, length, rules, ◌<◌}
use Rattle.c_tree.specs.declared.tree.Kind.TheVariants.{Overflow}
use Rattle.plain_analysis.specs.declared.alarm.Alarm.{Alarm}
use Rattle.alarm_report.specs.Texts.{alarm_line}
use Rattle.alarm_report.proofs.ReadBack.{lines_more, words_more}
use Rattle.alarm_report.proofs.texts.variant_report.Goals as goal

pub loop-alarm-preserved : goal.loop-alarm-preserved
loop-alarm-preserved c =
    let alarms = c.args.alarms.now in
    let i = c.loop-alarm.alarm-index in
    let none : Alarm = record { place = record { line = 0; column = 0 }; kind = Overflow } in
    let within : i < length alarms = search rules in (
      c.in_ok-push_alarm.ensures.text ∙ ap (λ text. text ++ alarm_line (get_or alarms i none)) c.loop-alarm.invariant.0 ∙ lines_more alarms i none within,
      words_more alarms i none within c.loop-alarm.invariant.1 c.push_alarm.ensures.word,
    )
