use Rattle.std.proofs.Common.{length, ◌-◌, ◌≡◌, ◌<◌, ◌≤◌, false, take}
use Rattle.std.specs.Io.KnownBytes.{Appends}
use Rattle.interleaved.proofs.whole_write.write_all.Given as goal

abbrev pub invariant-loop-written : goal.invariant-loop-written
invariant-loop-written g l = record {
  within : l.written ≤ length l.bytes;
  front : Appends (g.W.Sink.written l.initial.sink) (g.W.Sink.written l.sink) (take l.written l.bytes);
  working : 0 < l.written → (g.W.Sink.failed l.initial.sink ≡ false) × (g.W.Sink.failed l.sink ≡ false);
  same : g.W.Sink.failed l.sink ≡ g.W.Sink.failed l.initial.sink;
}

abbrev pub decreases-loop-written : goal.decreases-loop-written
decreases-loop-written g l = length l.bytes - l.written
