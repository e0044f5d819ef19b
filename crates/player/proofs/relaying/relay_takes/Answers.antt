use Rattle.std.proofs.Common.{sym, ◌∙◌}
use Rattle.player.proofs.Outgoing.{is_cut, is_empty, is_ended, sends, skips, loses}
use Rattle.player.proofs.relaying.relay_takes.Goals as goal
use Rattle.player.proofs.relaying.relay_takes.Goals.{in-Packet+in-Some+in-Ok, in-Packet+in-None, in-Lost}

pub returns-in-Err-clause-takes : goal.returns-in-Err-clause-takes
returns-in-Err-clause-takes g c =
    rw c.report_of.ensures
    (is_cut _ _ _ _ _ _ _ _ _ _ _ _ _ _ _ _ c.loop.invariant.so_far c.in-Packet.ensures.gives (sym c.channel_of.ensures ∙ c.in-Some.is) c.loop-test.true c.in-Err.ensures.cut c.in-Err.ensures.front)

pub returns-in-Empty-clause-takes : goal.returns-in-Empty-clause-takes
returns-in-Empty-clause-takes g c = rw c.report_of-in-Empty.ensures (is_empty _ _ _ _ _ _ _ _ _ _ _ c.loop.invariant.so_far c.loop-test.true c.in-Empty.ensures.gives)

pub returns-in-Ended-clause-takes : goal.returns-in-Ended-clause-takes
returns-in-Ended-clause-takes g c = rw c.report_of-in-Ended.ensures (is_ended _ _ _ _ _ _ _ _ _ _ _ c.loop.invariant.so_far c.loop-test.true c.in-Ended.ensures.gives)

pub loop-preserved : goal.loop-preserved
loop-preserved g c =
    let before = c.loop.invariant in
    let bytes = c.take.ensures.same ∙ before.bytes in
    elim c.match-take.branch [
      | in-Packet+in-Some+in-Ok w ↦
          let step = rw w.in-Packet.is at c.take.ensures.gives in
          let is = sym w.channel_of.ensures ∙ w.in-Some.is in
          record {
            so_far = rw (w.writer-is, w.sent-is, w.skipped-is) (sends _ _ _ _ _ _ _ _ _ _ _ _ _ _ before.so_far step is w.in-Ok.ensures.ok);
            bytes = bytes;
            working = rw w.writer-is (w.in-Ok.ensures.same ∙ before.working);
          }
      | in-Packet+in-None w ↦
          let step = rw w.in-Packet.is at c.take.ensures.gives in
          let is = sym w.channel_of.ensures ∙ w.in-None.is in
          record {
            so_far = rw (w.writer-is, w.sent-is, w.skipped-is) (skips _ _ _ _ _ _ _ _ _ _ _ _ before.so_far step is);
            bytes = bytes;
            working = rw w.writer-is before.working;
          }
      | in-Lost w ↦
          let step = rw w.in-Lost.is at c.take.ensures.gives in
          record {
            so_far = rw (w.writer-is, w.sent-is, w.skipped-is) (loses _ _ _ _ _ _ _ _ _ _ _ before.so_far step);
            bytes = bytes;
            working = rw w.writer-is before.working;
          }
    ]
