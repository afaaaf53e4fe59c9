-- How many places a generated family has.
use Rattle.std.proofs.Common.{◌≡◌, length, map, sym, ap, ◌∙◌}
use Rattle.std.proofs.lemmas.List.{length-map}
use Rattle.c_tree.specs.Places.{program_places}
use Rattle.c_tree.specs.View.{whole}
use Rattle.linear_atoms.specs.declared.regions.Regions.{Regions}
use Rattle.leaf_domain.specs.Leaves.{LeafValue, LeafMeaning}
use Rattle.lifted_analysis.specs.declared.findings.FamilyFindings.{FamilyFindings}
use Rattle.plain_analysis.specs.declared.options.Options.{Options}
use Rattle.alarm_report.specs.Invariants.{LeafTree, leaf_tree}
use Rattle.famlint_loads.specs.declared.product_line.ProductLine.{ProductLine}
use Rattle.famlint_families.specs.Findings.{IsFound}

-- one tree was found for each place
pub places_counted : {L : Type 0} (value : L → LeafValue) (M : LeafMeaning) (o : Options) (r : Regions) (l : ProductLine) (f : FamilyFindings L) → IsFound value M o r l f
    → length f.places.items ≡ length (program_places (whole l.family.code))
places_counted value M o r l f found =
    sym (length-map (map (leaf_tree value) f.places.items) (λ (t : LeafTree). t.place) ∙ length-map f.places.items (leaf_tree value)) ∙ ap length found.leaves.keys
