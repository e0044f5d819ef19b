use Rattle.std.specs.Io.KnownBytes.{Consumes}
use Rattle.ring_script.proofs.read_all.read_all.Given as goal

-- what was read so far is what the source gave
abbrev pub invariant-loop-bytes : goal.invariant-loop-bytes
invariant-loop-bytes g l = Consumes (g.R.Source.incoming l.initial.reader) (g.R.Source.incoming l.reader) l.bytes.items

abbrev pub decreases-loop-bytes : goal.decreases-loop-bytes
decreases-loop-bytes g l = g.R.Source.bound l.reader
