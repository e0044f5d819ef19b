use Rattle.std.proofs.Common.{replicate, false, arith, ◌∙◌}
use Rattle.ring_steps.specs.Scripts.{calls_of}
use Rattle.ring_steps.proofs.Nearing.{turn_nearer}
use Rattle.ring_steps.proofs.RunningOut.{alone_turn, goes_sound, move_of_turn, turn_ends, turn_waits}
use Rattle.ring_steps.proofs.making.Making.finish_call.Goals as goal

pub step-requires-clause-sound : goal.step-requires-clause-sound
step-requires-clause-sound c =
    let alone = c.steps.invariant.alone in
    goes_sound (calls_of c.args.script.now) (replicate alone.count c.args.actor) c.args.self.now c.steps.self c.requires.sound alone.goes

pub returns-in-Some-true-clause-goes : goal.returns-in-Some-true-clause-goes
returns-in-Some-true-clause-goes c =
    let takes = rw (c.in-Some-true.is) at c.in_ok-step.ensures.turn in
    alone_turn (calls_of c.args.script.now) c.args.actor c.in-Some-true.field-0 c.args.self.now c.steps.self c.step.new.self c.steps.invariant.alone takes

pub returns-in-Some-true-clause-ended : goal.returns-in-Some-true-clause-ended
returns-in-Some-true-clause-ended c = λ _.
    (let takes = rw (c.in-Some-true.is, c.in-Some-true.field-0-test) at c.in_ok-step.ensures.turn in
    let falls = turn_ends (calls_of c.args.script.now) c.args.actor c.steps.self c.step.new.self takes in
    let same = c.steps.invariant.same in
    omega arith)

pub steps-smaller : goal.steps-smaller
steps-smaller c =
    let calls = calls_of c.args.script.now in
    let takes = rw (c.in-Some-false.is, c.in-Some-false.field-0-test) at c.in_ok-step.ensures.turn in
    let nearer = turn_nearer c.args.actor calls c.steps.self.at takes.turn c.step.new.self.at (move_of_turn calls c.args.actor c.steps.self c.step.new.self takes) takes.ends in
    omega arith

pub steps-preserved : goal.steps-preserved
steps-preserved c =
    let calls = calls_of c.args.script.now in
    let takes = rw (c.in-Some-false.is, c.in-Some-false.field-0-test) at c.in_ok-step.ensures.turn in
    record {
      alone = alone_turn calls c.args.actor false c.args.self.now c.steps.self c.step.new.self c.steps.invariant.alone takes;
      same = turn_waits calls c.args.actor c.steps.self c.step.new.self takes ∙ c.steps.invariant.same;
    }
