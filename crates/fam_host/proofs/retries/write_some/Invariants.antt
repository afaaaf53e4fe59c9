-- Interrupted writes write nothing.
use Rattle.std.specs.Io.KnownBytes.{Keeps}
use Rattle.fam_host.proofs.retries.write_some.Given as goal

abbrev pub invariant-loop-try : goal.invariant-loop-try
invariant-loop-try g l = Keeps (g.W.Write.contents l.initial.stream) (g.W.Write.contents l.stream)
