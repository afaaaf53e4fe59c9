use Rattle.std.proofs.Common.{◌≡◌, ◌∙◌, ℤ, ap, arith, rules, to_z, of_z, w64}
use Rattle.std.proofs.lemmas.Int.{ints}
use Rattle.std.specs.Prelude.{Some}
use Rattle.command_words.proofs.Numbers.{input_read}
use Rattle.command_words.proofs.inputs.input_of.Goals as goal

pub returns-in-Ok : goal.returns-in-Ok
returns-in-Ok c =
    let h = input_read c.args.text.now c.parse.result c.parse.ensures.value.0 (search rules) in
    let same : to_z w64 (of_z w64 c.from.result) ≡ c.in-Ok.number = omega (arith, ints) in
    ap (λ (z : ℤ). Some z) same ∙ (rw c.in-Ok.is at h)

pub returns-in-Err : goal.returns-in-Err
returns-in-Err c =
    let h = input_read c.args.text.now c.parse.result c.parse.ensures.value.0 (search rules) in
    rw c.in-Err.is at h
