use Rattle.std.proofs.Common.{refl}
use Rattle.cursor.proofs.Counting.{account_after_take, counts_tapped}
use Rattle.cursor.proofs.plain_tap.PlainTapLend.take_with.Goals as goal

pub invariant_of-self : goal.invariant_of-self
invariant_of-self g c = (_, account_after_take _ _ _ _ _ c.take_with.ensures.event.given c.self.invariant.1)

pub returns-clause-gives : goal.returns-clause-gives
returns-clause-gives g c =
    let took = c.take_with.ensures.event in
    let counts = counts_tapped (record { log = c.self.inside.log; seat = c.self.inside.seat }) (record { log = c.take_with.new.self; seat = c.self.inside.seat }) _ took.given refl in
    rw (← c.self.view_is) (record { delivery = took.delivery; answered = took.answered; given = record { event = took.given; seat = refl; counts = counts }; seen = took.seen })
