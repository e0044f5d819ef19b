use Rattle.transport_header.proofs.Free.{Spoiled}
use Rattle.transport_header.proofs.channels.Channels.least_free_pair.Given as goal

-- no pair so far is free, and each has a channel that is used
abbrev pub invariant-loop-half : goal.invariant-loop-half
invariant-loop-half l = Spoiled l.self l.half
