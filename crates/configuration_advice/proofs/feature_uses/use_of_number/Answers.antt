use Rattle.std.proofs.Common.{◌≡◌, ◌∙◌, to_z, of_z, w64, arith}
use Rattle.std.proofs.lemmas.Int.{ints}
use Rattle.std.proofs.lemmas.Option.{slice_get_within}
use Rattle.configuration_advice.proofs.Ranged.{small_ends, least_in, greatest_in}
use Rattle.configuration_advice.proofs.feature_uses.use_of_number.Goals as goal

pub end_value-requires-clause-has : goal.end_value-requires-clause-has
end_value-requires-clause-has c =
    let ends = small_ends c.args.prepared.now.features c.args.feature.now c.args.number c.requires.ranges c.requires.feature in
    let value : to_z w64 (of_z w64 c.value_of-value.result) ≡ c.value_of-value.result = omega (arith, ints) in
    least_in c.args.prepared.now c.args.feature.now c.args.number c.args.first.now.values _ c.requires.ranges c.requires.valid c.requires.feature (value ∙ c.value_of-value.ensures) (omega (arith, ints))

pub end_value-requires-2-clause-number : goal.end_value-requires-2-clause-number
end_value-requires-2-clause-number c = slice_get_within c.args.prepared.now.features c.args.number c.args.feature.now c.requires.feature

pub end_value-requires-2-clause-has : goal.end_value-requires-2-clause-has
end_value-requires-2-clause-has c =
    let ends = small_ends c.args.prepared.now.features c.args.feature.now c.args.number c.requires.ranges c.requires.feature in
    let value : to_z w64 (of_z w64 c.value_of-value.result) ≡ c.value_of-value.result = omega (arith, ints) in
    greatest_in c.args.prepared.now c.args.feature.now c.args.number c.args.first.now.values _ c.requires.ranges c.requires.valid c.requires.feature (value ∙ c.value_of-value.ensures) (omega (arith, ints))
