use Rattle.std.proofs.Common.{◌≡◌, pos, ◌≤ℤ◌, ◌<ℤ◌, to_z, of_z, w64, sym, ap, ◌∙◌, arith}
use Rattle.std.proofs.lemmas.Int.{ints}
use Rattle.strides.specs.Strides.{stride_at, first_from, last_to}
use Rattle.strides.specs.Strided.{strided_at, point_at, least, greatest}
use Rattle.strides.proofs.WideLaws.{AreEnds, are_ends, reduced_point, reduced_rest, IsNarrow, is_narrow, none_by, some_by}
use Rattle.strides.proofs.strided.Strided.best.Goals as goal

pub narrow-requires-clause-low : goal.narrow-requires-clause-low
narrow-requires-clause-low c =
    let u : to_z w64 (of_z w64 c.args.low) ≡ c.args.low = omega (arith, ints) in
    let w : to_z w64 (of_z w64 c.args.high) ≡ c.args.high = omega (arith, ints) in
    let f : c.first_from-first.result ≡ first_from c.args.low (stride_at c.args.stride.modulus c.args.stride.residue) = c.first_from-first.ensures ∙ ap (λ x. first_from x (stride_at c.args.stride.modulus c.args.stride.residue)) u in
    let l : c.last_to-last.result ≡ last_to c.args.high (stride_at c.args.stride.modulus c.args.stride.residue) = c.last_to-last.ensures ∙ ap (λ x. last_to x (stride_at c.args.stride.modulus c.args.stride.residue)) w in
    let i : AreEnds c.first_from-first.result c.last_to-last.result = are_ends (strided_at c.args.low c.args.high (stride_at c.args.stride.modulus c.args.stride.residue)) _ _ f l (omega (arith, ints)) c.requires.low c.requires.high in
    let p : least ≤ℤ c.first_from-first.result = i.first_low in
    omega (arith, ints)

pub narrow-requires-clause-high : goal.narrow-requires-clause-high
narrow-requires-clause-high c =
    let u : to_z w64 (of_z w64 c.args.low) ≡ c.args.low = omega (arith, ints) in
    let w : to_z w64 (of_z w64 c.args.high) ≡ c.args.high = omega (arith, ints) in
    let f : c.first_from-first.result ≡ first_from c.args.low (stride_at c.args.stride.modulus c.args.stride.residue) = c.first_from-first.ensures ∙ ap (λ x. first_from x (stride_at c.args.stride.modulus c.args.stride.residue)) u in
    let l : c.last_to-last.result ≡ last_to c.args.high (stride_at c.args.stride.modulus c.args.stride.residue) = c.last_to-last.ensures ∙ ap (λ x. last_to x (stride_at c.args.stride.modulus c.args.stride.residue)) w in
    let i : AreEnds c.first_from-first.result c.last_to-last.result = are_ends (strided_at c.args.low c.args.high (stride_at c.args.stride.modulus c.args.stride.residue)) _ _ f l (omega (arith, ints)) c.requires.low c.requires.high in
    let p : c.first_from-first.result ≤ℤ greatest = i.first_high in
    omega (arith, ints)

pub narrow-requires-2-clause-low : goal.narrow-requires-2-clause-low
narrow-requires-2-clause-low c =
    let u : to_z w64 (of_z w64 c.args.low) ≡ c.args.low = omega (arith, ints) in
    let w : to_z w64 (of_z w64 c.args.high) ≡ c.args.high = omega (arith, ints) in
    let f : c.first_from-first.result ≡ first_from c.args.low (stride_at c.args.stride.modulus c.args.stride.residue) = c.first_from-first.ensures ∙ ap (λ x. first_from x (stride_at c.args.stride.modulus c.args.stride.residue)) u in
    let l : c.last_to-last.result ≡ last_to c.args.high (stride_at c.args.stride.modulus c.args.stride.residue) = c.last_to-last.ensures ∙ ap (λ x. last_to x (stride_at c.args.stride.modulus c.args.stride.residue)) w in
    let i : AreEnds c.first_from-first.result c.last_to-last.result = are_ends (strided_at c.args.low c.args.high (stride_at c.args.stride.modulus c.args.stride.residue)) _ _ f l (omega (arith, ints)) c.requires.low c.requires.high in
    let p : least ≤ℤ c.first_from-first.result = i.first_low in
    omega (arith, ints)

pub narrow-requires-2-clause-high : goal.narrow-requires-2-clause-high
narrow-requires-2-clause-high c =
    let u : to_z w64 (of_z w64 c.args.low) ≡ c.args.low = omega (arith, ints) in
    let w : to_z w64 (of_z w64 c.args.high) ≡ c.args.high = omega (arith, ints) in
    let f : c.first_from-first.result ≡ first_from c.args.low (stride_at c.args.stride.modulus c.args.stride.residue) = c.first_from-first.ensures ∙ ap (λ x. first_from x (stride_at c.args.stride.modulus c.args.stride.residue)) u in
    let l : c.last_to-last.result ≡ last_to c.args.high (stride_at c.args.stride.modulus c.args.stride.residue) = c.last_to-last.ensures ∙ ap (λ x. last_to x (stride_at c.args.stride.modulus c.args.stride.residue)) w in
    let i : AreEnds c.first_from-first.result c.last_to-last.result = are_ends (strided_at c.args.low c.args.high (stride_at c.args.stride.modulus c.args.stride.residue)) _ _ f l (omega (arith, ints)) c.requires.low c.requires.high in
    let p : c.first_from-first.result ≤ℤ greatest = i.first_high in
    omega (arith, ints)

pub narrow-requires-3-clause-low : goal.narrow-requires-3-clause-low
narrow-requires-3-clause-low c =
    let u : to_z w64 (of_z w64 c.args.low) ≡ c.args.low = omega (arith, ints) in
    let w : to_z w64 (of_z w64 c.args.high) ≡ c.args.high = omega (arith, ints) in
    let f : c.first_from-first.result ≡ first_from c.args.low (stride_at c.args.stride.modulus c.args.stride.residue) = c.first_from-first.ensures ∙ ap (λ x. first_from x (stride_at c.args.stride.modulus c.args.stride.residue)) u in
    let l : c.last_to-last.result ≡ last_to c.args.high (stride_at c.args.stride.modulus c.args.stride.residue) = c.last_to-last.ensures ∙ ap (λ x. last_to x (stride_at c.args.stride.modulus c.args.stride.residue)) w in
    let i : AreEnds c.first_from-first.result c.last_to-last.result = are_ends (strided_at c.args.low c.args.high (stride_at c.args.stride.modulus c.args.stride.residue)) _ _ f l (omega (arith, ints)) c.requires.low c.requires.high in
    let p : least ≤ℤ c.last_to-last.result = i.last_low in
    omega (arith, ints)

pub narrow-requires-3-clause-high : goal.narrow-requires-3-clause-high
narrow-requires-3-clause-high c =
    let u : to_z w64 (of_z w64 c.args.low) ≡ c.args.low = omega (arith, ints) in
    let w : to_z w64 (of_z w64 c.args.high) ≡ c.args.high = omega (arith, ints) in
    let f : c.first_from-first.result ≡ first_from c.args.low (stride_at c.args.stride.modulus c.args.stride.residue) = c.first_from-first.ensures ∙ ap (λ x. first_from x (stride_at c.args.stride.modulus c.args.stride.residue)) u in
    let l : c.last_to-last.result ≡ last_to c.args.high (stride_at c.args.stride.modulus c.args.stride.residue) = c.last_to-last.ensures ∙ ap (λ x. last_to x (stride_at c.args.stride.modulus c.args.stride.residue)) w in
    let i : AreEnds c.first_from-first.result c.last_to-last.result = are_ends (strided_at c.args.low c.args.high (stride_at c.args.stride.modulus c.args.stride.residue)) _ _ f l (omega (arith, ints)) c.requires.low c.requires.high in
    let p : c.last_to-last.result ≤ℤ greatest = i.last_high in
    omega (arith, ints)

pub narrow-requires-4-clause-modulus : goal.narrow-requires-4-clause-modulus
narrow-requires-4-clause-modulus c =
    let u : to_z w64 (of_z w64 c.args.low) ≡ c.args.low = omega (arith, ints) in
    let w : to_z w64 (of_z w64 c.args.high) ≡ c.args.high = omega (arith, ints) in
    let f : c.first_from-first.result ≡ first_from c.args.low (stride_at c.args.stride.modulus c.args.stride.residue) = c.first_from-first.ensures ∙ ap (λ x. first_from x (stride_at c.args.stride.modulus c.args.stride.residue)) u in
    let l : c.last_to-last.result ≡ last_to c.args.high (stride_at c.args.stride.modulus c.args.stride.residue) = c.last_to-last.ensures ∙ ap (λ x. last_to x (stride_at c.args.stride.modulus c.args.stride.residue)) w in
    let i : AreEnds c.first_from-first.result c.last_to-last.result = are_ends (strided_at c.args.low c.args.high (stride_at c.args.stride.modulus c.args.stride.residue)) _ _ f l (omega (arith, ints)) c.requires.low c.requires.high in
    let n : IsNarrow (stride_at c.args.stride.modulus c.args.stride.residue) = is_narrow (strided_at c.args.low c.args.high (stride_at c.args.stride.modulus c.args.stride.residue)) _ _ f l (omega (arith, ints)) i c.requires.residue in
    n.modulus

pub narrow-requires-4-clause-low : goal.narrow-requires-4-clause-low
narrow-requires-4-clause-low c =
    let u : to_z w64 (of_z w64 c.args.low) ≡ c.args.low = omega (arith, ints) in
    let w : to_z w64 (of_z w64 c.args.high) ≡ c.args.high = omega (arith, ints) in
    let f : c.first_from-first.result ≡ first_from c.args.low (stride_at c.args.stride.modulus c.args.stride.residue) = c.first_from-first.ensures ∙ ap (λ x. first_from x (stride_at c.args.stride.modulus c.args.stride.residue)) u in
    let l : c.last_to-last.result ≡ last_to c.args.high (stride_at c.args.stride.modulus c.args.stride.residue) = c.last_to-last.ensures ∙ ap (λ x. last_to x (stride_at c.args.stride.modulus c.args.stride.residue)) w in
    let i : AreEnds c.first_from-first.result c.last_to-last.result = are_ends (strided_at c.args.low c.args.high (stride_at c.args.stride.modulus c.args.stride.residue)) _ _ f l (omega (arith, ints)) c.requires.low c.requires.high in
    let n : IsNarrow (stride_at c.args.stride.modulus c.args.stride.residue) = is_narrow (strided_at c.args.low c.args.high (stride_at c.args.stride.modulus c.args.stride.residue)) _ _ f l (omega (arith, ints)) i c.requires.residue in
    let p : pos 0 ≤ℤ c.args.stride.residue = n.low in
    omega (arith, ints)

pub narrow-requires-4-clause-high : goal.narrow-requires-4-clause-high
narrow-requires-4-clause-high c =
    let u : to_z w64 (of_z w64 c.args.low) ≡ c.args.low = omega (arith, ints) in
    let w : to_z w64 (of_z w64 c.args.high) ≡ c.args.high = omega (arith, ints) in
    let f : c.first_from-first.result ≡ first_from c.args.low (stride_at c.args.stride.modulus c.args.stride.residue) = c.first_from-first.ensures ∙ ap (λ x. first_from x (stride_at c.args.stride.modulus c.args.stride.residue)) u in
    let l : c.last_to-last.result ≡ last_to c.args.high (stride_at c.args.stride.modulus c.args.stride.residue) = c.last_to-last.ensures ∙ ap (λ x. last_to x (stride_at c.args.stride.modulus c.args.stride.residue)) w in
    let i : AreEnds c.first_from-first.result c.last_to-last.result = are_ends (strided_at c.args.low c.args.high (stride_at c.args.stride.modulus c.args.stride.residue)) _ _ f l (omega (arith, ints)) c.requires.low c.requires.high in
    let n : IsNarrow (stride_at c.args.stride.modulus c.args.stride.residue) = is_narrow (strided_at c.args.low c.args.high (stride_at c.args.stride.modulus c.args.stride.residue)) _ _ f l (omega (arith, ints)) i c.requires.residue in
    let p : c.args.stride.residue ≤ℤ pos 4294967295 = n.high in
    omega (arith, ints)

pub returns-then-last-first : goal.returns-then-last-first
returns-then-last-first c =
    let u : to_z w64 (of_z w64 c.args.low) ≡ c.args.low = omega (arith, ints) in
    let w : to_z w64 (of_z w64 c.args.high) ≡ c.args.high = omega (arith, ints) in
    let f : c.first_from-first.result ≡ first_from c.args.low (stride_at c.args.stride.modulus c.args.stride.residue) = c.first_from-first.ensures ∙ ap (λ x. first_from x (stride_at c.args.stride.modulus c.args.stride.residue)) u in
    let l : c.last_to-last.result ≡ last_to c.args.high (stride_at c.args.stride.modulus c.args.stride.residue) = c.last_to-last.ensures ∙ ap (λ x. last_to x (stride_at c.args.stride.modulus c.args.stride.residue)) w in
    let o : c.last_to-last.result <ℤ c.first_from-first.result = omega (arith, ints) in
    sym (none_by (strided_at c.args.low c.args.high (stride_at c.args.stride.modulus c.args.stride.residue)) c.first_from-first.result c.last_to-last.result f l o)

pub returns-then-first-last : goal.returns-then-first-last
returns-then-first-last c =
    let u : to_z w64 (of_z w64 c.args.low) ≡ c.args.low = omega (arith, ints) in
    let w : to_z w64 (of_z w64 c.args.high) ≡ c.args.high = omega (arith, ints) in
    let f : c.first_from-first.result ≡ first_from c.args.low (stride_at c.args.stride.modulus c.args.stride.residue) = c.first_from-first.ensures ∙ ap (λ x. first_from x (stride_at c.args.stride.modulus c.args.stride.residue)) u in
    let l : c.last_to-last.result ≡ last_to c.args.high (stride_at c.args.stride.modulus c.args.stride.residue) = c.last_to-last.ensures ∙ ap (λ x. last_to x (stride_at c.args.stride.modulus c.args.stride.residue)) w in
    let r : to_z w64 (of_z w64 c.narrow.result) ≡ c.first_from-first.result = omega (arith, ints) in
    let e : c.first_from-first.result ≡ c.last_to-last.result = omega (arith, ints) in
    let o : c.first_from-first.result ≤ℤ c.last_to-last.result = omega (arith, ints) in
    some_by (strided_at c.args.low c.args.high (stride_at c.args.stride.modulus c.args.stride.residue)) c.point.result c.first_from-first.result c.last_to-last.result f l o (c.point.ensures ∙ ap point_at r ∙ reduced_point (strided_at c.args.low c.args.high (stride_at c.args.stride.modulus c.args.stride.residue)) c.first_from-first.result c.last_to-last.result f l e)

pub returns : goal.returns
returns c =
    let u : to_z w64 (of_z w64 c.args.low) ≡ c.args.low = omega (arith, ints) in
    let w : to_z w64 (of_z w64 c.args.high) ≡ c.args.high = omega (arith, ints) in
    let f : c.first_from-first.result ≡ first_from c.args.low (stride_at c.args.stride.modulus c.args.stride.residue) = c.first_from-first.ensures ∙ ap (λ x. first_from x (stride_at c.args.stride.modulus c.args.stride.residue)) u in
    let l : c.last_to-last.result ≡ last_to c.args.high (stride_at c.args.stride.modulus c.args.stride.residue) = c.last_to-last.ensures ∙ ap (λ x. last_to x (stride_at c.args.stride.modulus c.args.stride.residue)) w in
    let r : to_z w64 (of_z w64 c.narrow-2.result) ≡ c.first_from-first.result = omega (arith, ints) in
    let t : to_z w64 (of_z w64 c.narrow-3.result) ≡ c.last_to-last.result = omega (arith, ints) in
    let e : c.first_from-first.result <ℤ c.last_to-last.result = omega (arith, ints) in
    let o : c.first_from-first.result ≤ℤ c.last_to-last.result = omega (arith, ints) in
    some_by (strided_at c.args.low c.args.high (stride_at c.args.stride.modulus c.args.stride.residue)) _ c.first_from-first.result c.last_to-last.result f l o (
    ap (λ x. strided_at x (to_z w64 (of_z w64 c.narrow-3.result)) c.narrow-4.result) r
    ∙ ap (λ x. strided_at c.first_from-first.result x c.narrow-4.result) t
    ∙ ap (strided_at c.first_from-first.result c.last_to-last.result) c.narrow-4.ensures
    ∙ reduced_rest (strided_at c.args.low c.args.high (stride_at c.args.stride.modulus c.args.stride.residue)) c.first_from-first.result c.last_to-last.result f l e
    )
