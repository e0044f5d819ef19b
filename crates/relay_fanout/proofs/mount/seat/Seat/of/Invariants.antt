use Rattle.std.proofs.Common.{◌≡◌, map}
use Rattle.relay_fanout.proofs.mount.seat.Seat.of.Given as goal

-- so far there is a seat for each pass that was taken out
abbrev pub invariant-loop-pass : goal.invariant-loop-pass
invariant-loop-pass g l = map (λ seat. seat.pass) l.seats.items ≡ l.yielded
