use Rattle.std.proofs.Common.{◌-◌, ◌≤◌, List, length, take}
use Rattle.interleaved.specs.declared.frame.Frame.{Frame as Block}
use Rattle.pull_session.specs.Blocks.{AreFrames}
use Rattle.pull_session.proofs.passing.whole_frames.Given as goal

-- the bytes so far are whole frames
abbrev pub invariant-loop-len : goal.invariant-loop-len
invariant-loop-len l = record {
  within : l.len ≤ length l.fn.bytes;
  frames : List Block;
  are : AreFrames (take l.len l.fn.bytes) frames;
}

abbrev pub decreases-loop-len : goal.decreases-loop-len
decreases-loop-len l = length l.fn.bytes - l.len
