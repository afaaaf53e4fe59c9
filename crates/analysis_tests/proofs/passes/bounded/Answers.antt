use Rattle.std.proofs.Common.{◌≡◌, List, [], ◌∷◌, length, refl, subst, sym, rules}
use Rattle.std.specs.List.{All}
use Rattle.std.proofs.lemmas.List.Elements.{All-from_recursion}
use Rattle.leaf_domain.specs.declared.range.Range.{Range}
use Rattle.leaf_domain.specs.Ranges.{IsInInt}
use Rattle.analysis_tests.proofs.passes.bounded.Goals as goal

pub returns-clause-bounds : goal.returns-clause-bounds
returns-clause-bounds c =
    let first : Range = record { low = c.args.a.0; high = c.args.a.1 } in
    let second : Range = record { low = c.args.b.0; high = c.args.b.1 } in
    let e : c.from_vec.result ≡ first ∷ (second ∷ []) = search rules in
    subst (λ (l : List Range). (length l ≡ 2) × All IsInInt l) (sym e) (
      refl,
      All-from_recursion IsInInt (first ∷ (second ∷ []))
          (record { low = c.requires.a_low; high = c.requires.a_high }, (record { low = c.requires.b_low; high = c.requires.b_high }, tt)),
    )
