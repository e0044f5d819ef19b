use Rattle.std.proofs.Common.{◌≡◌, ◌++◌, List, length}
use Rattle.cursor.specs.declared.takes.Delivery.{Delivery}
use Rattle.cursor.specs.Account.{received}
use Rattle.cursor.specs.Taps.{Takes, AllGoOn}
use Rattle.cursor.proofs.pumping.pump.Given as goal

-- the answers so far all went on, and their packets stand in `out`
abbrev pub invariant-loop-takes : goal.invariant-loop-takes
invariant-loop-takes g l =
    record {
      answers : (answers : List Delivery) × Takes g.T.Tap.take_gives l.fn.tap answers l.tap × (length answers ≡ l.takes) × AllGoOn answers
          × (l.out.items ≡ l.fn.out.items ++ received answers);
      same : g.T.Tap.packet_bytes l.tap ≡ g.T.Tap.packet_bytes l.fn.tap;
    }
