use Rattle.relay_fanout.specs.PlayerLists.{ArePassed}
use Rattle.relay_fanout.proofs.sending.player_list.PlayerList.next_place.Given as goal

-- those that were passed over so far may be
abbrev pub invariant-loop-at : goal.invariant-loop-at
invariant-loop-at g l = ArePassed g.P.Wakeups.were_woken l.fn.place l.at l.fn.self.listed
