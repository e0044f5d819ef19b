use Rattle.std.proofs.Common.{◌+◌, arith}
use Rattle.std.specs.Vec.Iter.{into_iter_items}
use Rattle.cursor.specs.Account.{cursor_of}
use Rattle.cursor.proofs.ListTaps.{IsCounted-below}
use Rattle.cursor.proofs.list_tap.ListTapLend.take_with.Goals as goal

pub overflow_add-self : goal.overflow_add-self
overflow_add-self g c =
    let counted = rw (c.in-Some.ensures.items, c.in-Got.is) at c.self.invariant.1 in
    omega (arith, IsCounted-below c.self.inside.packet_bytes (cursor_of c.self.inside.account + 1) (into_iter_items c.next.new.self) counted.2)

pub overflow_add-self-in-Lost : goal.overflow_add-self-in-Lost
overflow_add-self-in-Lost g c =
    let counted = rw (c.in-Some.ensures.items, c.in-Lost.is) at c.self.invariant.1 in
    omega (arith, IsCounted-below c.self.inside.packet_bytes (cursor_of c.self.inside.account + c.in-Lost.count) (into_iter_items c.next.new.self) counted)
