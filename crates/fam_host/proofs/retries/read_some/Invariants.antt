-- The chunk keeps its length, and interrupted reads lose nothing.
use Rattle.std.proofs.Common.{◌≡◌, length}
use Rattle.std.specs.Io.KnownBytes.{Keeps}
use Rattle.fam_host.proofs.retries.read_some.Given as goal

abbrev pub invariant-loop-try : goal.invariant-loop-try
invariant-loop-try g l = (length l.chunk ≡ length l.initial.chunk) × Keeps (g.F.Read.remaining l.initial.file) (g.F.Read.remaining l.file)
