use Rattle.std.proofs.Common.{◌≡◌, ℕ, List, Option, Some, None, reverse, slice_get, ap, sym, ◌∙◌}
use Rattle.c_grammar.specs.Scoped.{IsSound, is_inside, still}
use Rattle.c_grammar.proofs.Blocks.{left-sound, left-inside, left-left, outside-left}
use Rattle.c_grammar.proofs.scoped.Scoped.leave.Goals as goal

-- what is said of a slice is so of the list that it lends
first_of : (o r : Option ℕ) (slice begins : List ℕ) → r ≡ slice_get (reverse slice) 0 → slice ≡ begins → r ≡ o → slice_get (reverse begins) 0 ≡ o
first_of o r slice begins e lent is = sym (ap (λ xs. slice_get (reverse xs) 0) lent) ∙ sym e ∙ is

pub returns-in-Some-clause-sound : goal.returns-in-Some-clause-sound
unfolding IsSound
returns-in-Some-clause-sound g c sound =
    left-sound c.args.self.now.items.items c.truncate.new.self.items c.in-Some.begin (reverse c.args.self.now.begins.items) (reverse c.close_innermost.new.begins.items)
    (first_of (Some c.in-Some.begin) c.innermost.result c.as_slice.result.now c.args.self.now.begins.items c.innermost.ensures c.as_slice.ensures.value c.in-Some.is)
    c.truncate.ensures.items c.close_innermost.ensures sound

pub returns-in-Some-clause-inside : goal.returns-in-Some-clause-inside
unfolding is_inside
returns-in-Some-clause-inside g c =
    left-inside (reverse c.args.self.now.begins.items) (reverse c.close_innermost.new.begins.items) c.close_innermost.ensures

pub returns-in-Some-clause-left : goal.returns-in-Some-clause-left
unfolding IsSound is_inside still
returns-in-Some-clause-left g c sound n =
    left-left n c.args.self.now.items.items c.truncate.new.self.items c.in-Some.begin (reverse c.args.self.now.begins.items) (reverse c.close_innermost.new.begins.items)
    (first_of (Some c.in-Some.begin) c.innermost.result c.as_slice.result.now c.args.self.now.begins.items c.innermost.ensures c.as_slice.ensures.value c.in-Some.is)
    c.truncate.ensures.items c.close_innermost.ensures sound

pub returns-in_default-clause-left : goal.returns-in_default-clause-left
unfolding is_inside still
returns-in_default-clause-left g c sound n =
    outside-left n c.args.self.now.items.items (reverse c.args.self.now.begins.items)
    (first_of None c.innermost.result c.as_slice.result.now c.args.self.now.begins.items c.innermost.ensures c.as_slice.ensures.value c.in_default.is)
