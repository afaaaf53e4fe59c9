use Rattle.linear_terms.proofs.Sums.{behind_rises, only_left, only_right, left_below, right_below, both_same, wide, wide_sum}
use Rattle.linear_terms.proofs.merging.next.Goals as goal

pub returns-in-None-Some-clause-first : goal.returns-in-None-Some-clause-first
returns-in-None-Some-clause-first c = let p = c.in-None-Some in only_right _ _ _ _ _ _ p.ensures.parts p.ensures'.parts (wide _ p.ensures'.fits) c.requires.right

pub returns-in-None-Some-clause-right : goal.returns-in-None-Some-clause-right
returns-in-None-Some-clause-right c = behind_rises _ _ _ _ c.in-None-Some.ensures'.parts c.requires.right

pub returns-in-Some-None-clause-first : goal.returns-in-Some-None-clause-first
returns-in-Some-None-clause-first c = let p = c.in-Some-None in only_left _ _ _ _ _ _ p.ensures.parts p.ensures'.parts (wide _ p.ensures.fits) c.requires.left

pub returns-in-Some-None-clause-left : goal.returns-in-Some-None-clause-left
returns-in-Some-None-clause-left c = behind_rises _ _ _ _ c.in-Some-None.ensures.parts c.requires.left

pub returns-in-Less-clause-first : goal.returns-in-Less-clause-first
returns-in-Less-clause-first c = let p = c.in-Some-Some in left_below _ _ _ _ _ _ _ _ _ p.ensures.parts p.ensures'.parts c.in-Less.ensures (wide _ p.ensures.fits) c.requires.left c.requires.right

pub returns-in-Less-clause-left : goal.returns-in-Less-clause-left
returns-in-Less-clause-left c = behind_rises _ _ _ _ c.in-Some-Some.ensures.parts c.requires.left

pub returns-in-Equal-clause-first : goal.returns-in-Equal-clause-first
returns-in-Equal-clause-first c = let p = c.in-Some-Some in both_same _ _ _ _ _ _ _ _ _ p.ensures.parts p.ensures'.parts c.in-Equal.ensures (wide_sum _ _ p.ensures.fits p.ensures'.fits) c.requires.left c.requires.right

pub returns-in-Equal-clause-left : goal.returns-in-Equal-clause-left
returns-in-Equal-clause-left c = behind_rises _ _ _ _ c.in-Some-Some.ensures.parts c.requires.left

pub returns-in-Equal-clause-right : goal.returns-in-Equal-clause-right
returns-in-Equal-clause-right c = behind_rises _ _ _ _ c.in-Some-Some.ensures'.parts c.requires.right

pub returns-in-Greater-clause-first : goal.returns-in-Greater-clause-first
returns-in-Greater-clause-first c = let p = c.in-Some-Some in right_below _ _ _ _ _ _ _ _ _ p.ensures.parts p.ensures'.parts c.in-Greater.ensures (wide _ p.ensures'.fits) c.requires.left c.requires.right

pub returns-in-Greater-clause-right : goal.returns-in-Greater-clause-right
returns-in-Greater-clause-right c = behind_rises _ _ _ _ c.in-Some-Some.ensures'.parts c.requires.right
