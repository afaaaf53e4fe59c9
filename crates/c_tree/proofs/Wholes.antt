-- A projection of a well-formed program is well formed.
use Rattle.std.proofs.Common.{◌≡◌, ℕ, ◌≤◌, max, List, [], ◌∷◌, ◌++◌, Bool, true, false, cond, sym, subst, ◌∙◌, arith, append_assoc, append-nil, length}
use Rattle.std.specs.Prelude.{slice_index_or}
use Rattle.fam_outer.specs.declared.faults.Place.{Place}
use Rattle.c_tree.specs.Tree.{Code, Done, Assign, Input, Assert, If, While, Do, Leave, Block, Skip, Cond, followed, Whole}
use Rattle.c_tree.specs.Fit.{IsCodeOf, IsPlain, IsStep}
use Rattle.c_tree.specs.Project.{projected, projected_program}
use Rattle.c_tree.specs.Places.{places_of, program_places}
use Rattle.c_tree.specs.Whole.{IsBeforeAll, IsRising, nesting, IsSmall, IsProgram}
use Rattle.c_tree.proofs.Views.{IsCodeOf-followed, IsPlain-followed}
use Rattle.c_tree.proofs.Listed.{places_of-followed}
use Rattle.c_tree.proofs.Starts.{length-start, ints-start}

-- some of the places of a list, in its order
data IsPartOf : List Place → List Place → Type 0 where
  none : IsPartOf [] []
  kept : {x : Place} {xs ys : List Place} → IsPartOf xs ys → IsPartOf (x ∷ xs) (x ∷ ys)
  dropped : {x : Place} {xs ys : List Place} → IsPartOf xs ys → IsPartOf xs (x ∷ ys)

IsPartOf_refl : (xs : List Place) → IsPartOf xs xs
IsPartOf_refl [] = none
IsPartOf_refl (x ∷ xs) = kept (IsPartOf_refl xs)

IsPartOf-none : (xs : List Place) → IsPartOf [] xs
IsPartOf-none [] = none
IsPartOf-none (x ∷ xs) = dropped (IsPartOf-none xs)

IsPartOf-append : {a b : List Place} (c d : List Place) → IsPartOf a b → IsPartOf c d → IsPartOf (a ++ c) (b ++ d)
IsPartOf-append c d none h = h
IsPartOf-append c d (kept g) h = kept (IsPartOf-append c d g h)
IsPartOf-append c d (dropped g) h = dropped (IsPartOf-append c d g h)

IsBeforeAll-part : {xs ys : List Place} (p : Place) → IsPartOf xs ys → IsBeforeAll p ys → IsBeforeAll p xs
IsBeforeAll-part p none h = tt
IsBeforeAll-part p (kept g) h = (h.0, IsBeforeAll-part p g h.1)
IsBeforeAll-part p (dropped g) h = IsBeforeAll-part p g h.1

IsRising-part : {xs ys : List Place} → IsPartOf xs ys → IsRising ys → IsRising xs
IsRising-part none h = tt
IsRising-part (kept {x = x} g) h = (IsBeforeAll-part x g h.0, IsRising-part g h.1)
IsRising-part (dropped g) h = IsRising-part g h.1

-- one side of a choice has some of the places of both
side_part : (b : Bool) (x y : Code) (xs ys : List Place) → IsPartOf (places_of x) xs → IsPartOf (places_of y) ys → IsPartOf (places_of (cond b x y)) (xs ++ ys)
side_part true x y xs ys g h = subst (λ l. IsPartOf l (xs ++ ys)) (append-nil (places_of x)) (IsPartOf-append [] ys g (IsPartOf-none ys))
side_part false x y xs ys g h = IsPartOf-append (places_of y) ys (IsPartOf-none xs) h

places_part : (truths : List Bool) (a : Code) → IsPartOf (places_of (projected truths a)) (places_of a)
places_part truths Done = none
places_part truths (Assign place target value rest) = kept (places_part truths rest)
places_part truths (Input place target rest) = kept (places_part truths rest)
places_part truths (Assert place test rest) = kept (places_part truths rest)
places_part truths (If place test p q rest) = kept (IsPartOf-append _ _ (places_part truths p) (IsPartOf-append _ _ (places_part truths q) (places_part truths rest)))
places_part truths (While place test step body rest) = kept (IsPartOf-append _ _ (places_part truths step) (IsPartOf-append _ _ (places_part truths body) (places_part truths rest)))
places_part truths (Do place body at test rest) = kept (IsPartOf-append _ _ (places_part truths body) (kept (places_part truths rest)))
places_part truths (Leave place jump rest) = kept (places_part truths rest)
places_part truths (Block place body rest) = kept (IsPartOf-append _ _ (places_part truths body) (places_part truths rest))
places_part truths (Skip place rest) = kept (places_part truths rest)
places_part truths (Cond number p q rest) =
    let side = side_part (slice_index_or truths number false) (projected truths p) (projected truths q) (places_of p) (places_of q) (places_part truths p) (places_part truths q) in
    rw (places_of-followed, ← append_assoc) (IsPartOf-append _ _ side (places_part truths rest))

IsRising-projected : (truths : List Bool) (p : Whole) → IsRising (program_places p) → IsRising (program_places (projected_program truths p))
IsRising-projected truths p h = IsRising-part (IsPartOf-append _ _ (places_part truths p.body) (IsPartOf_refl (p.end ∷ []))) h

-- one side of a choice has what both have
IsCodeOf-cond : (count : ℕ) (b : Bool) (x y : Code) → IsCodeOf count x → IsCodeOf count y → IsCodeOf count (cond b x y)
IsCodeOf-cond count true x y g h = g
IsCodeOf-cond count false x y g h = h

-- a step stays as it is
IsStep-projected : (truths : List Bool) (a : Code) → IsStep a → IsStep (projected truths a)
IsStep-projected truths Done h = tt
IsStep-projected truths (Assign place target value rest) h = IsStep-projected truths rest h
IsStep-projected truths (Input place target rest) h = IsStep-projected truths rest h
IsStep-projected truths (Assert place test rest) h = absurd h
IsStep-projected truths (If place test p q rest) h = absurd h
IsStep-projected truths (While place test step body rest) h = absurd h
IsStep-projected truths (Do place body at test rest) h = absurd h
IsStep-projected truths (Leave place jump rest) h = absurd h
IsStep-projected truths (Block place body rest) h = absurd h
IsStep-projected truths (Skip place rest) h = absurd h
IsStep-projected truths (Cond number p q rest) h = absurd h

IsCodeOf-projected : (count : ℕ) (truths : List Bool) (a : Code) → IsCodeOf count a → IsCodeOf count (projected truths a)
IsCodeOf-projected count truths Done h = tt
IsCodeOf-projected count truths (Assign place target value rest) h = (h.0, h.1, IsCodeOf-projected count truths rest h.2)
IsCodeOf-projected count truths (Input place target rest) h = (h.0, IsCodeOf-projected count truths rest h.1)
IsCodeOf-projected count truths (Assert place test rest) h = (h.0, IsCodeOf-projected count truths rest h.1)
IsCodeOf-projected count truths (If place test p q rest) h = (h.0, IsCodeOf-projected count truths p h.1, IsCodeOf-projected count truths q h.2, IsCodeOf-projected count truths rest h.3)
IsCodeOf-projected count truths (While place test step body rest) h = (h.0, IsCodeOf-projected count truths step h.1, IsCodeOf-projected count truths body h.2, IsCodeOf-projected count truths rest h.3, IsStep-projected truths step h.4)
IsCodeOf-projected count truths (Do place body at test rest) h = (h.0, IsCodeOf-projected count truths body h.1, IsCodeOf-projected count truths rest h.2)
IsCodeOf-projected count truths (Leave place jump rest) h = (h.0, IsCodeOf-projected count truths rest h.1)
IsCodeOf-projected count truths (Block place body rest) h = (IsCodeOf-projected count truths body h.0, IsCodeOf-projected count truths rest h.1)
IsCodeOf-projected count truths (Skip place rest) h = IsCodeOf-projected count truths rest h
IsCodeOf-projected count truths (Cond number p q rest) h =
    IsCodeOf-followed count (cond (slice_index_or truths number false) (projected truths p) (projected truths q)) (projected truths rest)
    (IsCodeOf-cond count (slice_index_or truths number false) (projected truths p) (projected truths q) (IsCodeOf-projected count truths p h.0) (IsCodeOf-projected count truths q h.1))
    (IsCodeOf-projected count truths rest h.2)

IsPlain-cond : (b : Bool) (x y : Code) → IsPlain x → IsPlain y → IsPlain (cond b x y)
IsPlain-cond true x y g h = g
IsPlain-cond false x y g h = h

pub IsPlain-projected : (truths : List Bool) (a : Code) → IsPlain (projected truths a)
IsPlain-projected truths Done = tt
IsPlain-projected truths (Assign place target value rest) = IsPlain-projected truths rest
IsPlain-projected truths (Input place target rest) = IsPlain-projected truths rest
IsPlain-projected truths (Assert place test rest) = IsPlain-projected truths rest
IsPlain-projected truths (If place test p q rest) = (IsPlain-projected truths p, IsPlain-projected truths q, IsPlain-projected truths rest)
IsPlain-projected truths (While place test step body rest) = (IsPlain-projected truths step, IsPlain-projected truths body, IsPlain-projected truths rest)
IsPlain-projected truths (Do place body at test rest) = (IsPlain-projected truths body, IsPlain-projected truths rest)
IsPlain-projected truths (Leave place jump rest) = IsPlain-projected truths rest
IsPlain-projected truths (Block place body rest) = (IsPlain-projected truths body, IsPlain-projected truths rest)
IsPlain-projected truths (Skip place rest) = IsPlain-projected truths rest
IsPlain-projected truths (Cond number p q rest) =
    IsPlain-followed (cond (slice_index_or truths number false) (projected truths p) (projected truths q)) (projected truths rest)
    (IsPlain-cond (slice_index_or truths number false) (projected truths p) (projected truths q) (IsPlain-projected truths p) (IsPlain-projected truths q))
    (IsPlain-projected truths rest)

nesting-followed : (a b : Code) → nesting (followed a b) ≡ max (nesting a) (nesting b)
nesting-followed Done b = omega arith
nesting-followed (Assign place target value rest) b = nesting-followed rest b
nesting-followed (Input place target rest) b = nesting-followed rest b
nesting-followed (Assert place test rest) b = nesting-followed rest b
nesting-followed (If place test p q rest) b = omega (arith, nesting-followed rest b)
nesting-followed (While place test step body rest) b = omega (arith, nesting-followed rest b)
nesting-followed (Do place body at test rest) b = omega (arith, nesting-followed rest b)
nesting-followed (Leave place jump rest) b = nesting-followed rest b
nesting-followed (Block place body rest) b = omega (arith, nesting-followed rest b)
nesting-followed (Skip place rest) b = nesting-followed rest b
nesting-followed (Cond number p q rest) b = omega (arith, nesting-followed rest b)

nesting-cond : (b : Bool) (x y : Code) → nesting (cond b x y) ≤ max (nesting x) (nesting y)
nesting-cond true x y = omega arith
nesting-cond false x y = omega arith

nesting-projected : (truths : List Bool) (a : Code) → nesting (projected truths a) ≤ nesting a
nesting-projected truths Done = omega arith
nesting-projected truths (Assign place target value rest) = nesting-projected truths rest
nesting-projected truths (Input place target rest) = nesting-projected truths rest
nesting-projected truths (Assert place test rest) = nesting-projected truths rest
nesting-projected truths (If place test p q rest) = omega (arith, nesting-projected truths p, nesting-projected truths q, nesting-projected truths rest)
nesting-projected truths (While place test step body rest) = omega (arith, nesting-projected truths step, nesting-projected truths body, nesting-projected truths rest)
nesting-projected truths (Do place body at test rest) = omega (arith, nesting-projected truths body, nesting-projected truths rest)
nesting-projected truths (Leave place jump rest) = nesting-projected truths rest
nesting-projected truths (Block place body rest) = omega (arith, nesting-projected truths body, nesting-projected truths rest)
nesting-projected truths (Skip place rest) = nesting-projected truths rest
nesting-projected truths (Cond number p q rest) =
    omega (
      arith,
      nesting-followed (cond (slice_index_or truths number false) (projected truths p) (projected truths q)) (projected truths rest),
      nesting-cond (slice_index_or truths number false) (projected truths p) (projected truths q),
      nesting-projected truths p,
      nesting-projected truths q,
      nesting-projected truths rest,
    )

IsSmall-followed : (a b : Code) → IsSmall a → IsSmall b → IsSmall (followed a b)
IsSmall-followed Done b h k = k
IsSmall-followed (Assign place target value rest) b h k = (h.0, IsSmall-followed rest b h.1 k)
IsSmall-followed (Input place target rest) b h k = IsSmall-followed rest b h k
IsSmall-followed (Assert place test rest) b h k = (h.0, IsSmall-followed rest b h.1 k)
IsSmall-followed (If place test p q rest) b h k = (h.0, h.1, h.2, IsSmall-followed rest b h.3 k)
IsSmall-followed (While place test step body rest) b h k = (h.0, h.1, h.2, IsSmall-followed rest b h.3 k)
IsSmall-followed (Do place body at test rest) b h k = (h.0, h.1, IsSmall-followed rest b h.2 k)
IsSmall-followed (Leave place jump rest) b h k = (h.0, IsSmall-followed rest b h.1 k)
IsSmall-followed (Block place body rest) b h k = (h.0, IsSmall-followed rest b h.1 k)
IsSmall-followed (Skip place rest) b h k = IsSmall-followed rest b h k
IsSmall-followed (Cond number p q rest) b h k = (h.0, h.1, IsSmall-followed rest b h.2 k)

IsSmall-cond : (b : Bool) (x y : Code) → IsSmall x → IsSmall y → IsSmall (cond b x y)
IsSmall-cond true x y g h = g
IsSmall-cond false x y g h = h

IsSmall-projected : (truths : List Bool) (a : Code) → IsSmall a → IsSmall (projected truths a)
IsSmall-projected truths Done h = tt
IsSmall-projected truths (Assign place target value rest) h = (h.0, IsSmall-projected truths rest h.1)
IsSmall-projected truths (Input place target rest) h = IsSmall-projected truths rest h
IsSmall-projected truths (Assert place test rest) h = (h.0, IsSmall-projected truths rest h.1)
IsSmall-projected truths (If place test p q rest) h = (h.0, IsSmall-projected truths p h.1, IsSmall-projected truths q h.2, IsSmall-projected truths rest h.3)
IsSmall-projected truths (While place test step body rest) h = (h.0, IsSmall-projected truths step h.1, IsSmall-projected truths body h.2, IsSmall-projected truths rest h.3)
IsSmall-projected truths (Do place body at test rest) h = (h.0, IsSmall-projected truths body h.1, IsSmall-projected truths rest h.2)
IsSmall-projected truths (Leave place jump rest) h = (h.0, IsSmall-projected truths rest h.1)
IsSmall-projected truths (Block place body rest) h = (IsSmall-projected truths body h.0, IsSmall-projected truths rest h.1)
IsSmall-projected truths (Skip place rest) h = IsSmall-projected truths rest h
IsSmall-projected truths (Cond number p q rest) h =
    IsSmall-followed (cond (slice_index_or truths number false) (projected truths p) (projected truths q)) (projected truths rest)
    (IsSmall-cond (slice_index_or truths number false) (projected truths p) (projected truths q) (IsSmall-projected truths p h.0) (IsSmall-projected truths q h.1))
    (IsSmall-projected truths rest h.2)

pub IsProgram-projected : (truths : List Bool) (p : Whole) → IsProgram p → IsProgram (projected_program truths p)
IsProgram-projected truths p h = record {
  few = h.few;
  starts = length-start truths p.declared 0 p.start ∙ h.starts;
  ints = ints-start truths p.declared (length p.names) 0 p.start h.declared h.ints;
  declared = λ k d h. absurd (omega arith);
  names = IsCodeOf-projected _ truths p.body h.names;
  rising = IsRising-projected truths p h.rising;
  nested = omega (arith, h.nested, nesting-projected truths p.body);
  small = IsSmall-projected truths p.body h.small;
}

pub IsProgram-same : (truths : List Bool) (p q : Whole) → q ≡ projected_program truths p → IsProgram p → IsProgram q
IsProgram-same truths p q e h = subst IsProgram (sym e) (IsProgram-projected truths p h)

pub ruleset wholes = (IsProgram-projected, IsPlain-projected)
