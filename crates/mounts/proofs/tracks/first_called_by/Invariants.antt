use Rattle.std.proofs.Common.{take}
use Rattle.mounts.specs.Tracks.{NoneIsCalledBy}
use Rattle.mounts.proofs.tracks.first_called_by.Given as goal

abbrev pub invariant-loop-i : goal.invariant-loop-i
invariant-loop-i l = NoneIsCalledBy l.target l.rest (take l.i l.tracks)
