use Rattle.std.proofs.Common.{◌≡◌, ◌≤◌, List, ℕ, length, sym, subst, ◌∙◌, arith}
use Rattle.fam_outer.specs.declared.dialect.Includes.TheVariants.{Assert}
use Rattle.c_parser.specs.Functions.{functions_of_bytes}
use Rattle.c_parser.specs.Items.{AreDistinct}
use Rattle.c_parser.specs.Reading.{DeclaresAmong}
use Rattle.c_parser.specs.Variants.{names_in, truths_in}
use Rattle.reading_tests.proofs.variants.variant.Goals as goal

pub read_plain_with-requires-clause-few : goal.read_plain_with-requires-clause-few
read_plain_with-requires-clause-few c =
    let few = (c.family_names_are_few.ensures c.args.dialect c.args.model.now c.args.file.now c.args.family.now c.requires.family).0 in
    subst (λ (names : List (List ℕ)). length names ≤ 48) (sym c.items-2.ensures) (omega (arith, few))

pub read_plain_with-requires-clause-distinct : goal.read_plain_with-requires-clause-distinct
read_plain_with-requires-clause-distinct c =
    subst AreDistinct (sym c.items-2.ensures) (c.family_names_are_few.ensures c.args.dialect c.args.model.now c.args.file.now c.args.family.now c.requires.family).1

pub read_plain_with-requires-clause-declared : goal.read_plain_with-requires-clause-declared
read_plain_with-requires-clause-declared c =
    let model = c.args.model.now in
    let file = c.args.file.now in
    let family = c.args.family.now in
    let values = c.args.config.now.values in
    let text = c.in_ok-text.text in
    let laws = c.variants_are_projections.ensures in
    let among = laws.declared c.args.dialect model file text family (truths_in family values) c.requires.family (laws.texts c.args.dialect model file text family values c.requires.family c.in_ok-text.ensures) Assert in
    let own : c.items.result.now ≡ functions_of_bytes c.args.file.now = c.items.ensures ∙ c.in_ok-functions.ensures.functions in
    subst (λ (functions : List (List ℕ)). DeclaresAmong Assert functions c.items-2.result.now c.bytes.result.now) (sym own)
    (subst (λ (names : List (List ℕ)). DeclaresAmong Assert (functions_of_bytes c.args.file.now) names c.bytes.result.now) (sym c.items-2.ensures)
    (subst (λ (t : List ℕ). DeclaresAmong Assert (functions_of_bytes c.args.file.now) (names_in c.args.family.now) t) (sym c.bytes.ensures) among))
