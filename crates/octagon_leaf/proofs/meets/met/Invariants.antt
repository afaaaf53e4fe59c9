use Rattle.octagon_leaf.proofs.MeetSteps.{IsMeeting}
use Rattle.octagon_leaf.proofs.meets.met.Given as goal

abbrev pub invariant-loop-meet : goal.invariant-loop-meet
invariant-loop-meet l = IsMeeting l.fn.matrix l.fn.meets l.matrix l.meet-index
