use Rattle.std.proofs.Common.{◌∙◌, ap, map}
use Rattle.c_tree.specs.View.{whole}
use Rattle.alarm_report.specs.Invariants.{invariant}
use Rattle.certificate_format.specs.Texts.{certificate_text}
use Rattle.famlint_families.proofs.certify.certificate_of.Goals as goal

pub returns : goal.returns
returns g c = λ found.
    let l = c.args.line.now in
    let value = g.L.Leaf.value in
    let M = g.L.Leaf.meaning in
    let r = c.args.regions in
    let o = c.args.options.now in
    let alarms = c.args.alarms.now in
    record {
      loops = map (invariant value) c.in_ok-loops.loops.items;
      good = c.in_ok-loops.ensures.good o r found;
      is = c.in_ok-text.ensures
          ∙ ap (λ features. certificate_text r M features c.items-names.result.now o.mode (map (invariant value) c.as_slice.result.now) alarms) c.items-features.ensures
          ∙ ap (λ names. certificate_text r M l.model.features names o.mode (map (invariant value) c.as_slice.result.now) alarms) c.items-names.ensures
          ∙ ap (λ loops. certificate_text r M l.model.features (whole l.family.code).names o.mode (map (invariant value) loops) alarms) c.as_slice.ensures.value;
    }
