use Rattle.std.proofs.Common.{◌≡◌, ◌++◌, ◌∷◌, [], length, ◌∙◌, ap}
use Rattle.ring_steps.specs.Acting.{event_at}
use Rattle.ring_steps.specs.Traces.{IsByOneOf}
use Rattle.ring_steps.proofs.Telling.{all_front, tells_more}
use Rattle.ring_steps.proofs.tracing.trace_of.Goals as goal

pub loop-last-preserved : goal.loop-last-preserved
loop-last-preserved c =
    let popped : c.loop-last.made.items ≡ c.pop.new.self.items ++ c.in-Some.last ∷ [] = rw c.in-Some.is at c.pop.ensures.items in
    let stepped : c.push.new.self.items ≡ c.loop-last.steps.items ++ record { actor = c.in-Some.last.actor; saw = c.in-Some.last.saw } ∷ [] = rw c.in_ok-push.was at c.push.ensures.items in
    let place = c.len-step.ensures ∙ c.pop.new.self.ok.0 in
    let told = rw c.in_ok-tell.was at c.tell.ensures in
    let evented : c.tell.new.events.items ≡ c.loop-last.events.items ++ event_at (length c.pop.new.self.items) c.in-Some.last.actor c.answer_acting-answer.result =
    told ∙ ap (λ n. c.loop-last.events.items ++ event_at n c.in-Some.last.actor c.answer_acting-answer.result) place in
    record {
      told = λ turns all. tells_more turns c.loop-last.made.items c.pop.new.self.items c.in-Some.last c.loop-last.steps.items c.push.new.self.items c.loop-last.events.items c.tell.new.events.items
          c.loop-last.packets c.answer_acting-answer.new.packets c.answer_acting-answer.result popped stepped evented c.answer_acting-answer.ensures.acting c.answer_acting-answer.ensures.waits
          (c.loop-last.invariant.told turns all);
      actors = all_front (IsByOneOf c.args.seats) c.pop.new.self.items c.in-Some.last c.loop-last.made.items popped c.loop-last.invariant.actors;
      width = c.answer_acting-answer.auto.packets ∙ c.loop-last.invariant.width;
    }
