use Rattle.std.proofs.Common.{rules, inl, inr}
use Rattle.relay_fanout.proofs.PlayerLists.{ArePassed-to_end}
use Rattle.relay_fanout.proofs.sending.sweeping.Sweeping.next.Goals as goal
use Rattle.relay_fanout.proofs.sending.sweeping.Sweeping.next.Goals.{in-Some+in_default-share, in_default}

pub returns-clause-next : goal.returns-clause-next
returns-clause-next g c = (
  c.changes-changes.ensures,
  elim c.match-get.branch [
    | in-Some+in_default-share w ↦ inr (c.next_place-place.result, c.next_place-place.ensures.passed, search (rules, w.share.ensures))
    | in_default w ↦ inl (ArePassed-to_end g.P.Wakeups.were_woken c.args.self.place c.next_place-place.result c.args.list.now.listed (search rules) c.next_place-place.ensures.passed)
  ],
)
