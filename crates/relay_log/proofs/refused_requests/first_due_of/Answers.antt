use Rattle.std.proofs.Common.{◌≡◌, ◌∙◌, ◌+◌, ap, sym, get_or, drop, map}
use Rattle.relay_log.specs.Moments.{sooner_of}
use Rattle.relay_log.specs.Refusals.{due_of}
use Rattle.relay_log.specs.Tallies.{earliest}
use Rattle.relay_log.proofs.Counting.{due_end, due_step}
use Rattle.relay_log.proofs.refused_requests.first_due_of.Goals as goal

pub loop-entry-preserved : goal.loop-entry-preserved
loop-entry-preserved c =
    let same : c.due.result ≡ due_of (get_or c.args.entries.now c.loop-entry.entry-index c.entry-item.result) = c.due.ensures ∙ ap due_of c.entry-item.is in
    rw c.sooner-due.ensures (ap (λ due. sooner_of (sooner_of c.loop-entry.due due) (earliest (map due_of (drop (c.loop-entry.entry-index + 1) c.args.entries.now)))) same
    ∙ due_step due_of c.args.entries.now c.loop-entry.entry-index c.entry-item.result c.loop-entry.due c.loop-entry-test.true
    ∙ c.loop-entry.invariant)

pub returns : goal.returns
returns c = sym (due_end due_of c.args.entries.now c.loop-entry.entry-index c.loop-entry.due c.loop-entry-test.false) ∙ c.loop-entry.invariant
