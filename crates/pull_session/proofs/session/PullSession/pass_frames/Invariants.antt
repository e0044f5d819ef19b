use Rattle.std.proofs.Common.{◌≡◌, ◌-◌, ◌≤◌, ◌++◌, List, drop, map, take}
use Rattle.interleaved.specs.declared.frame.Frame.{Frame as Block}
use Rattle.rtsp_message.specs.declared.unit.Unit.TheVariants.{Frame}
use Rattle.pull_session.specs.Blocks.{AreFrames}
use Rattle.pull_session.specs.Passing.{TakesUnits, pass_state}
use Rattle.pull_session.proofs.session.PullSession.pass_frames.Given as goal

-- the frames up to a place were taken, and the others are as they were
abbrev pub invariant-loop-from : goal.invariant-loop-from
invariant-loop-from l = record {
  within : l.from ≤ l.fn.len;
  rest : drop l.at l.self.target.waiting.free ≡ drop l.from l.fn.self.target.waiting.free;
  done : List Block;
  left : List Block;
  all : AreFrames (take l.fn.len l.fn.self.target.waiting.free) (done ++ left);
  ahead : AreFrames (drop l.from (take l.fn.len l.fn.self.target.waiting.free)) left;
  takes : TakesUnits (map Frame done) l.fn.now (pass_state l.fn.self) (pass_state l.self);
  source : l.self.source ≡ l.fn.self.source;
  target : l.self.target ≡ record l.fn.self.target { waiting = l.self.target.waiting };
  mount : l.self.mount ≡ l.fn.self.mount;
}

abbrev pub decreases-loop-from : goal.decreases-loop-from
decreases-loop-from l = l.fn.len - l.from
