use Rattle.std.proofs.Common.{◌≡◌, ◌++◌, get_or, arith, ap, ◌∙◌}
use Rattle.ring_script.specs.TraceText.{event_line}
use Rattle.ring_script.proofs.Printed.{event_put}
use Rattle.ring_script.proofs.printing.put_events.Goals as goal

pub loop-event-preserved : goal.loop-event-preserved
loop-event-preserved c =
    let steps = c.args.steps.now in
    let events = c.args.events.now in
    let old = c.loop-event.out.items in
    let there : c.event-item.result ≡ get_or events c.loop-event.event-index c.event-item.result = c.event-item.is in
    event_put c.args.out.now.items old c.put_event.new.out.items steps events c.loop-event.event-index c.event-item.result (omega arith) c.loop-event.invariant (c.in_ok-put_event.ensures ∙ ap (λ e. old ++ event_line steps e) there)
