use Rattle.std.proofs.Common.{◌-◌, ◌≤◌}
use Rattle.rtsp_message.specs.Parts.{AreFew}
use Rattle.rtsp_message.proofs.frames.frames_at.Given as goal

-- the frames so far are whole units, as many as were counted
abbrev pub invariant-loop-count : goal.invariant-loop-count
invariant-loop-count l = AreFew l.count l.fn.bytes l.len × (l.count ≤ l.fn.most)

abbrev pub decreases-loop-count : goal.decreases-loop-count
decreases-loop-count l = l.fn.most - l.count
