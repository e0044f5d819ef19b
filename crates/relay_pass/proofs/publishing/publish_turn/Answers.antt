use Rattle.std.proofs.Common.{◌∙◌, ap, arith, refl, sym}
use Rattle.packet_ring.specs.Views.{Subscribing, seats_of}
use Rattle.publisher.proofs.Incoming.{total_one}
use Rattle.relay_pass.specs.declared.frames.Incoming.TheVariants as incoming
use Rattle.relay_pass.proofs.Handing.{none-published, one-grew, one-longer, publishes-last, publishes-one}
use Rattle.relay_pass.proofs.publishing.publish_turn.Goals as goal

pub publish_one-fate-requires-clause-one : goal.publish_one-fate-requires-clause-one
publish_one-fate-requires-clause-one g c = ap seats_of c.loop.invariant.ring ∙ c.requires.one

pub publish_one-fate-requires-clause-ring : goal.publish_one-fate-requires-clause-ring
publish_one-fate-requires-clause-ring g c = c.loop.invariant.seat_ring ∙ c.requires.ring ∙ sym c.loop.invariant.ring

pub loop-init : goal.loop-init
loop-init g c = record {
  so_far = none-published c.args.from.now g.S.Source.incoming g.S.Source.failed c.args.intake.now c.args.publisher.now c.args.seat.now c.args.came.now;
  ring = refl;
  seat_ring = refl;
  counted = omega arith;
  turn = omega arith;
  most = omega arith;
}

pub loop-preserved : goal.loop-preserved
loop-preserved g c =
    let before = c.loop.invariant in
    let comes = rw c.in-Frame.is at c.next_frame.ensures.comes in
    let ends = rw c.in-Frame.is at c.next_frame.ensures.ends in
    let one = c.publish_one-fate.ensures in
    record {
      so_far = publishes-one c.args.from.now g.S.Source.incoming g.S.Source.failed _ _ _ _ _ _ _ _ _ _ _ _ _ c.in-Frame.frame c.publish_one-fate.result before.so_far comes one.fate one.meets one.learns c.count.ensures;
      ring = (one-grew c.args.from.now _ _ _ _ one.meets).ring ∙ before.ring;
      seat_ring = ap (λ (s : Subscribing). s.ring) one.learns.learns.same ∙ before.seat_ring;
      counted = omega (arith, before.counted, ends, total_one _ _ _ c.count.ensures);
      turn = omega (arith, before.turn, ends);
      most = omega (arith, before.most, one-longer c.args.from.now _ _ _ _ one.meets);
    }

pub returns-in-Ended-clause-publishes : goal.returns-in-Ended-clause-publishes
returns-in-Ended-clause-publishes g c =
    publishes-last c.args.from.now g.S.Source.incoming g.S.Source.failed _ _ _ _ _ _ _ _ _ _ c.loop.invariant.so_far (incoming.Ended c.in-Ended.end) refl (rw c.in-Ended.is at c.next_frame.ensures.comes)
