use Rattle.std.proofs.Common.{◌≡◌, Option, Some, ap, sym, subst, ◌∙◌}
use Rattle.std.proofs.lemmas.Result.{IfOk-weaker}
use Rattle.std.specs.Map.{lookup}
use Rattle.std.specs.Option.{option_copied}
use Rattle.alarm_report.specs.declared.region.Region.{Region}
use Rattle.alarm_report.specs.Known.{has_turns}
use Rattle.alarm_report.specs.Regions.{IsRegionOf}
use Rattle.alarm_report.proofs.Recalled.{recalled, remembered}
use Rattle.alarm_report.proofs.known.region_known.Goals as goal

pub returns-in-Some-clause-region : goal.returns-in-Some-clause-region
returns-in-Some-clause-region c =
    let m = c.args.prepared.now in
    let atoms = c.args.atoms.now in
    let turns = c.args.turns.now in
    let found = c.in-Some.found.now in
    let e : lookup (has_turns turns) c.args.known.now.entries.entries ≡ Some found = sym c.find.ensures ∙ ap option_copied c.in-Some.is in
    let h : IsRegionOf m atoms turns found = recalled m atoms c.args.known.now turns found c.requires.known e in
    IfOk-weaker c.copied.result (λ (made : Option Region). made ≡ found) (λ (made : Option Region). IsRegionOf m atoms turns made)
    (λ made same. subst (λ r. IsRegionOf m atoms turns r) (sym same) h)
    c.copied.ensures

pub returns-clause-known : goal.returns-clause-known
returns-clause-known c =
    let m = c.args.prepared.now in
    let atoms = c.args.atoms.now in
    let turns = c.args.turns.now in
    let kept = c.in_ok-kept.kept in
    let found : IsRegionOf m atoms turns kept = subst (λ r. IsRegionOf m atoms turns r) (sym c.in_ok-kept.ensures) c.in_ok-found.ensures in
    remembered m atoms c.args.known.now (record { entries = c.remember.new.entries }) c.in_ok-path.path kept c.requires.known
    (subst (λ ts. IsRegionOf m atoms ts kept) (sym c.in_ok-path.ensures.items) found) c.in_ok-remember.ensures
