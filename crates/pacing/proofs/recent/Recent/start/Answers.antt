use Rattle.std.proofs.Common.{◌≡◌, ◌-◌, rules}
use Rattle.pacing.specs.Recent.{first_since, tenth_of}
use Rattle.pacing.proofs.Remembering.{wanted_is}
use Rattle.pacing.proofs.recent.Recent.start.Goals as goal
use Rattle.pacing.proofs.recent.Recent.start.Goals.{in-Some, in-None}

pub returns-clause-wanted : goal.returns-clause-wanted
returns-clause-wanted c moments stands order all most =
    let first : c.match-mark_since.first ≡ first_since (tenth_of (c.args.now - c.args.milliseconds)) c.args.self.now c.args.published =
    elim c.match-mark_since.branch [ in-Some w ↦ search rules | in-None w ↦ search rules ] in
    let wanted = wanted_is moments c.args.self.now c.args.now c.args.milliseconds stands order most in
    rw (c.saturating_sub-wanted.ensures, first, all) wanted
