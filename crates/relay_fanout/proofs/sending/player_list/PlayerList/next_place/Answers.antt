use Rattle.std.proofs.Common.{arith, rules}
use Rattle.relay_fanout.proofs.PlayerLists.{ArePassed-all, ArePassed-and, ArePassed-none}
use Rattle.relay_fanout.proofs.sending.player_list.PlayerList.next_place.Goals as goal

pub loop-at-init : goal.loop-at-init
loop-at-init g c = ArePassed-none g.P.Wakeups.were_woken c.args.place c.args.self.now.listed

pub returns-then-not-is_quiet-clause-passed : goal.returns-then-not-is_quiet-clause-passed
returns-then-not-is_quiet-clause-passed g c = c.loop-at.invariant

pub loop-at-preserved : goal.loop-at-preserved
loop-at-preserved g c =
    ArePassed-and g.P.Wakeups.were_woken c.args.place c.loop-at.at c.args.self.now.listed c.in-Some.listed.now (search rules)
    (c.player_wakeups.result, search rules, c.player_wakeups.ensures) c.loop-at.invariant

pub returns-clause-passed : goal.returns-clause-passed
returns-clause-passed g c = ArePassed-all g.P.Wakeups.were_woken c.args.place c.loop-at.at c.max.result c.args.self.now.listed (omega arith) c.loop-at.invariant
