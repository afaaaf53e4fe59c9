use Rattle.std.proofs.Common.{◌≡◌, ℕ, ℤ, pos, slice_index_or, arith, refl, ap, ◌∙◌, subst, to_z, of_z, w64}
use Rattle.std.specs.Int.{int_max}
use Rattle.std.proofs.lemmas.Int.{ints, clamps}
use Rattle.octagon_leaf.specs.Octagons.{least_entry}
use Rattle.octagon_matrix.specs.Matrices.{MatrixValue, HasEntries, met_entry}
use Rattle.octagon_leaf.specs.declared.meets.Meet.{Meet}
use Rattle.octagon_leaf.specs.Meeting.{IsMeet, IsSmall}
use Rattle.octagon_leaf.proofs.MeetSteps.{meet-at, small-at, read-at, came, meeting-next, meeting-unmet}
use Rattle.octagon_leaf.proofs.meets.met.Goals as goal

abbrev none : Meet
none = record { first = 0; second = 0; bound = pos 0 }

pub meet_entry-requires-clause-first : goal.meet_entry-requires-clause-first
meet_entry-requires-clause-first c = let q : IsMeet c.args.matrix.variables (slice_index_or c.args.meets.now c.loop-meet.meet-index none) = meet-at c.args.matrix.variables c.args.meets.now c.loop-meet.meet-index none c.loop-meet-test.true c.requires.meets in rw (c.loop-meet.invariant.variables) q.first

pub meet_entry-requires-clause-second : goal.meet_entry-requires-clause-second
meet_entry-requires-clause-second c = let q : IsMeet c.args.matrix.variables (slice_index_or c.args.meets.now c.loop-meet.meet-index none) = meet-at c.args.matrix.variables c.args.meets.now c.loop-meet.meet-index none c.loop-meet-test.true c.requires.meets in rw (c.loop-meet.invariant.variables) q.second

pub meet_entry-requires-clause-apart : goal.meet_entry-requires-clause-apart
meet_entry-requires-clause-apart c = let q : IsMeet c.args.matrix.variables (slice_index_or c.args.meets.now c.loop-meet.meet-index none) = meet-at c.args.matrix.variables c.args.meets.now c.loop-meet.meet-index none c.loop-meet-test.true c.requires.meets in q.apart

pub close_after_one-requires-clause-first : goal.close_after_one-requires-clause-first
close_after_one-requires-clause-first c = let q : IsMeet c.args.matrix.variables (slice_index_or c.args.meets.now c.loop-meet.meet-index none) = meet-at c.args.matrix.variables c.args.meets.now c.loop-meet.meet-index none c.loop-meet-test.true c.requires.meets in rw (c.meet_entry.ensures.entries.variables, c.loop-meet.invariant.variables) q.first

pub close_after_one-requires-clause-second : goal.close_after_one-requires-clause-second
close_after_one-requires-clause-second c = let q : IsMeet c.args.matrix.variables (slice_index_or c.args.meets.now c.loop-meet.meet-index none) = meet-at c.args.matrix.variables c.args.meets.now c.loop-meet.meet-index none c.loop-meet-test.true c.requires.meets in rw (c.meet_entry.ensures.entries.variables, c.loop-meet.invariant.variables) q.second

bound-is : (b m : ℤ) → IsSmall b → m ≡ int_max (to_z w64 (of_z w64 b)) least_entry → to_z w64 (of_z w64 m) ≡ int_max b least_entry
bound-is b m h e =
    let f : to_z w64 (of_z w64 b) ≡ b = omega (arith, ints, h.low, h.high) in
    let g : m ≡ int_max b least_entry = e ∙ ap (λ u. int_max u least_entry) f in
    omega (arith, ints, clamps, h.low, h.high)

met-with : (n : ℕ) (m next : MatrixValue) (e : Meet) (k : ℤ) → k ≡ int_max (to_z w64 (of_z w64 e.bound)) least_entry → IsSmall e.bound → HasEntries next n (met_entry m e.first e.second (to_z w64 (of_z w64 k))) → HasEntries next n (met_entry m e.first e.second (int_max e.bound least_entry))
met-with n m next e k f h p = let P : ℤ → Type 0 = λ v. HasEntries next n (met_entry m e.first e.second v) in subst P (bound-is e.bound k h f) p

pub close_after_one-requires-clause-came : goal.close_after_one-requires-clause-came
close_after_one-requires-clause-came c =
    let e : Meet = slice_index_or c.args.meets.now c.loop-meet.meet-index none in
    let q : IsMeet c.args.matrix.variables e = meet-at c.args.matrix.variables c.args.meets.now c.loop-meet.meet-index none c.loop-meet-test.true c.requires.meets in
    let s : IsSmall e.bound = small-at c.args.meets.now c.loop-meet.meet-index none c.loop-meet-test.true c.requires.small in
    came c.args.matrix c.args.meets.now c.loop-meet.matrix c.meet_entry.new.self c.loop-meet.meet-index e c.loop-meet.invariant q.apart
    (met-with c.loop-meet.matrix.variables c.loop-meet.matrix c.meet_entry.new.self e c.max.result c.max.ensures.value s c.meet_entry.ensures.entries)

pub returns-in-Empty : goal.returns-in-Empty
returns-in-Empty c =
    let e : Meet = slice_index_or c.args.meets.now c.loop-meet.meet-index none in
    let q : IsMeet c.args.matrix.variables e = meet-at c.args.matrix.variables c.args.meets.now c.loop-meet.meet-index none c.loop-meet-test.true c.requires.meets in
    let s : IsSmall e.bound = small-at c.args.meets.now c.loop-meet.meet-index none c.loop-meet-test.true c.requires.small in
    meeting-unmet c.args.matrix c.args.meets.now c.loop-meet.matrix c.meet_entry.new.self c.loop-meet.meet-index e c.loop-meet-test.true (read-at c.args.meets.now c.loop-meet.meet-index none e c.loop-meet-test.true) c.variables-variables.ensures.kept c.requires.meets c.loop-meet.invariant q
    (met-with c.loop-meet.matrix.variables c.loop-meet.matrix c.meet_entry.new.self e c.max.result c.max.ensures.value s c.meet_entry.ensures.entries)
    (c.in-Empty.ensures.empty.0 refl)

pub loop-meet-preserved : goal.loop-meet-preserved
loop-meet-preserved c =
    let e : Meet = slice_index_or c.args.meets.now c.loop-meet.meet-index none in
    let q : IsMeet c.args.matrix.variables e = meet-at c.args.matrix.variables c.args.meets.now c.loop-meet.meet-index none c.loop-meet-test.true c.requires.meets in
    let s : IsSmall e.bound = small-at c.args.meets.now c.loop-meet.meet-index none c.loop-meet-test.true c.requires.small in
    meeting-next c.args.matrix c.args.meets.now c.loop-meet.matrix c.meet_entry.new.self c.close_after_one.new.matrix c.loop-meet.meet-index e c.loop-meet-test.true (read-at c.args.meets.now c.loop-meet.meet-index none e c.loop-meet-test.true) c.loop-meet.invariant q
    (met-with c.loop-meet.matrix.variables c.loop-meet.matrix c.meet_entry.new.self e c.max.result c.max.ensures.value s c.meet_entry.ensures.entries)
    (c.in-Closed.ensures.best refl) c.in-Closed.ensures.kept
