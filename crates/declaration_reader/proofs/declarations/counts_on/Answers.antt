use Rattle.std.proofs.Common.{◌≡◌, rules, true, ℤ, pos, ◌+ℤ◌, w64, FitsSigned, subst, ap, ◌∙◌, to_z, of_z}
use Rattle.std.specs.Prelude.{int_lt}
use Rattle.std.proofs.lemmas.Int.{to_z-of_z}
use Rattle.c_tree.specs.Value.{greatest}
use Rattle.reading_states.specs.Views.{as_sections}
use Rattle.declaration_reader.proofs.Counted.{counted_on}
use Rattle.declaration_reader.proofs.declarations.counts_on.Goals as goal

pub returns-then-last-lt-GREATEST : goal.returns-then-last-lt-GREATEST
returns-then-last-lt-GREATEST c =
    let same : to_z w64 (of_z w64 c.args.last) ≡ c.args.last = to_z-of_z w64 c.args.last c.ranges.last in
    let below : int_lt c.args.last greatest ≡ true = subst (λ (n : ℤ). int_lt n greatest ≡ true) same c.if-last-lt-GREATEST.true in
    let fits : FitsSigned w64 (c.args.last +ℤ pos 1) = search rules in
    counted_on c.started.result c.args.last _ _ c.args.name (as_sections c.args.sections) c.args.declared.items c.args.sign below same
    (ap (λ (n : ℤ). to_z w64 (of_z w64 (n +ℤ pos 1))) same ∙ to_z-of_z w64 (c.args.last +ℤ pos 1) fits) c.started.ensures
