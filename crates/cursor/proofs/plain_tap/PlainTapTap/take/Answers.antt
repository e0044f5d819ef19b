use Rattle.std.proofs.Common.{refl}
use Rattle.cursor.proofs.Counting.{account_after_take, counts_tapped}
use Rattle.cursor.proofs.plain_tap.PlainTapTap.take.Goals as goal

pub invariant_of-self : goal.invariant_of-self
invariant_of-self c = (_, account_after_take _ _ _ _ _ c.take.ensures.event c.self.invariant.1)

pub returns-clause-gives : goal.returns-clause-gives
returns-clause-gives c =
    let event = c.take.ensures.event in
    rw (← c.self.view_is) (record { event = event; seat = refl; counts = counts_tapped (record { log = c.self.inside.log; seat = c.self.inside.seat }) (record { log = c.take.new.self; seat = c.self.inside.seat }) _ event refl })
