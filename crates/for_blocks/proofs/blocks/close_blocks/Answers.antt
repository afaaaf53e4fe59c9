use Rattle.std.proofs.Common.{◌≡◌, List, Option, Some, None, reverse, slice_get, ap, sym, ◌∙◌}
use Rattle.for_blocks.specs.declared.blocks.End.{End}
use Rattle.for_blocks.specs.Blocks.{closing}
use Rattle.for_blocks.proofs.Ends.{closing_none, open_none, closing_other, open_other, closed}
use Rattle.for_blocks.proofs.blocks.close_blocks.Goals as goal

-- what is said of a slice is so of the list that it lends
first_of : (o r : Option End) (slice ends : List End) → r ≡ slice_get (reverse slice) 0 → slice ≡ ends → r ≡ o → o ≡ slice_get (reverse ends) 0
first_of o r slice ends e lent is = sym is ∙ e ∙ ap (λ (xs : List End). slice_get (reverse xs) 0) lent

pub returns-then-end-left-clause-made : goal.returns-then-end-left-clause-made
returns-then-end-left-clause-made c =
    closed c.ends.made.items c.args.made.now.items (closing c.args.left (reverse c.ends.ends.items)) (closing c.args.left (reverse c.args.ends.now.items)) c.ends.invariant.made
    (closing_other c.args.left c.in-Some.end (reverse c.ends.ends.items) (first_of (Some c.in-Some.end) c.innermost.result c.deref.result.now c.ends.ends.items c.innermost.ensures c.deref.ensures.value c.in-Some.is) c.if-end-left.true)

pub returns-then-end-left-clause-ends : goal.returns-then-end-left-clause-ends
returns-then-end-left-clause-ends c =
    sym (open_other c.args.left c.in-Some.end (reverse c.ends.ends.items) (first_of (Some c.in-Some.end) c.innermost.result c.deref.result.now c.ends.ends.items c.innermost.ensures c.deref.ensures.value c.in-Some.is) c.if-end-left.true)
    ∙ c.ends.invariant.ends

pub returns-clause-made : goal.returns-clause-made
returns-clause-made c =
    closed c.ends.made.items c.args.made.now.items (closing c.args.left (reverse c.ends.ends.items)) (closing c.args.left (reverse c.args.ends.now.items)) c.ends.invariant.made
    (closing_none c.args.left (reverse c.ends.ends.items) (first_of None c.innermost.result c.deref.result.now c.ends.ends.items c.innermost.ensures c.deref.ensures.value c.in_default.is))

pub returns-clause-ends : goal.returns-clause-ends
returns-clause-ends c =
    sym (open_none c.args.left (reverse c.ends.ends.items) (first_of None c.innermost.result c.deref.result.now c.ends.ends.items c.innermost.ensures c.deref.ensures.value c.in_default.is))
    ∙ c.ends.invariant.ends
