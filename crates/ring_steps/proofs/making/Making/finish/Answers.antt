use Rattle.std.proofs.Common.{replicate}
use Rattle.ring_steps.specs.Scripts.{calls_of}
use Rattle.ring_steps.proofs.RunningOut.{alone_on, goes_sound}
use Rattle.ring_steps.proofs.making.Making.finish.Goals as goal

pub finish_call-requires-clause-sound : goal.finish_call-requires-clause-sound
finish_call-requires-clause-sound c =
    let alone = c.calls.invariant in
    goes_sound (calls_of c.args.script.now) (replicate alone.count c.args.actor) c.args.self.now c.calls.self c.requires.sound alone.goes

pub returns-then-not-branch-clause-goes : goal.returns-then-not-branch-clause-goes
returns-then-not-branch-clause-goes c =
    alone_on (calls_of c.args.script.now) c.args.actor c.args.self.now c.calls.self c.finish_call.new.self c.calls.invariant c.in_ok-finish_call.ensures.goes

pub calls-preserved : goal.calls-preserved
calls-preserved c =
    alone_on (calls_of c.args.script.now) c.args.actor c.args.self.now c.calls.self c.finish_call.new.self c.calls.invariant c.in_ok-finish_call.ensures.goes
