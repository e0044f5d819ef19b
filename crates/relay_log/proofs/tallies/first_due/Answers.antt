use Rattle.std.proofs.Common.{◌∙◌, sym, None}
use Rattle.relay_log.specs.Tallies.{due_at}
use Rattle.relay_log.proofs.Counting.{due_end, due_step}
use Rattle.relay_log.proofs.tallies.first_due.Goals as goal

pub loop-tally-preserved : goal.loop-tally-preserved
loop-tally-preserved c =
    rw (c.sooner-due.ensures, c.due.ensures) (due_step due_at c.args.tallies.now c.loop-tally.tally-index (record { count = 0; told = None }) c.loop-tally.due c.loop-tally-test.true ∙ c.loop-tally.invariant)

pub returns : goal.returns
returns c = sym (due_end due_at c.args.tallies.now c.loop-tally.tally-index c.loop-tally.due c.loop-tally-test.false) ∙ c.loop-tally.invariant
