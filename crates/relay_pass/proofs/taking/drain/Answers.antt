use Rattle.std.proofs.Common.{◌≡◌, ◌≤◌, ◌+◌, length, ◌∙◌, sym, arith}
use Rattle.relay_pass.proofs.Settling.{led-adds, led-takes}
use Rattle.relay_pass.proofs.Takings.{few-on, takes-more, takes-none}
use Rattle.relay_pass.proofs.taking.drain.Goals as goal

pub loop-init : goal.loop-init
loop-init g c = record {
  takes = takes-none _ _ _ _ c.requires.uncut;
  counted = c.requires.counted;
  uncut = c.requires.uncut;
  ring = c.requires.ring;
  on = omega arith;
  kept = λ few. Rattle.std.proofs.Common.refl;
  same = Rattle.std.proofs.Common.refl;
  works = Rattle.std.proofs.Common.refl;
}

pub loop-preserved : goal.loop-preserved
loop-preserved g c =
    let before = c.loop.invariant in
    let takes = rw c.in-Done.is at c.take_turn.ensures.takes in
    let led = led-takes _ _ _ takes.run in
    record {
      takes = takes-more _ _ _ _ _ _ _ _ _ _ _ before.takes takes;
      counted = c.take_turn.ensures.counted;
      uncut = takes.out.none_cut;
      ring = led.ring ∙ before.ring ∙ Rattle.std.proofs.Common.ap (λ (p : Rattle.packet_ring.specs.Views.Publishing). p.ring) (sym c.take_turn.ensures.same);
      on = omega (arith, before.on, led-adds c.loop.seat takes.answers c.take_turn.new.seat led);
      kept = λ few. c.take_turn.ensures.kept (few-on c.args.publisher.now c.loop.publisher _ _ before.same before.on few) ∙ before.kept few;
      same = c.take_turn.ensures.same ∙ before.same;
      works = c.take_turn.ensures.works (λ e. (let is = c.in-Done.is in cc)) ∙ before.works;
    }

pub returns-in-WriteFailed-clause-takes : goal.returns-in-WriteFailed-clause-takes
returns-in-WriteFailed-clause-takes g c =
    takes-more _ _ _ _ _ _ _ _ _ _ _ c.loop.invariant.takes (rw c.in-WriteFailed.is at c.take_turn.ensures.takes)

pub returns-in-Empty-clause-takes : goal.returns-in-Empty-clause-takes
returns-in-Empty-clause-takes g c =
    takes-more _ _ _ _ _ _ _ _ _ _ _ c.loop.invariant.takes (rw c.in-Empty.is at c.take_turn.ensures.takes)
