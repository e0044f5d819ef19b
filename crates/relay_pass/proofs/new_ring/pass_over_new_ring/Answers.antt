use Rattle.std.proofs.Common.{◌≡◌, ◌+◌, List, [], ap, arith, length}
use mathlib.Core.List.{IsPrefix}
use Rattle.cursor.specs.declared.packets.Packet.{Packet}
use Rattle.cursor.specs.Account.{cursor_of}
use Rattle.packet_ring.specs.Views.{Publishing, Subscribing}
use Rattle.relay_pass.proofs.KeepingUp.{passed-in-step}
use Rattle.relay_pass.proofs.Settling.{prefix-longer}
use Rattle.relay_pass.proofs.new_ring.pass_over_new_ring.Goals as goal

-- a seat that begins at what it has seen of an empty log begins at the log's end
at-end : (publisher publisher' : Publishing) (seat seat' : Subscribing) → publisher.log ≡ [] → cursor_of seat.account ≡ length seat.seen + 0 + 0 → IsPrefix seat.seen publisher.log → publisher' ≡ publisher → seat' ≡ seat
    → cursor_of seat'.account ≡ length publisher'.log
at-end publisher publisher' seat seat' empty begins within same same_seat =
    let none : length publisher.log ≡ 0 = ap (λ (l : List Packet). length l) empty in
    let still : length publisher'.log ≡ length publisher.log = ap (λ (p : Publishing). length p.log) same in
    let still_seat : cursor_of seat'.account ≡ cursor_of seat.account = ap (λ (s : Subscribing). cursor_of s.account) same_seat in
    omega (arith, none, begins, still, still_seat, prefix-longer seat.seen publisher.log within)

pub returns-clause-in_step : goal.returns-clause-in_step
returns-clause-in_step g c enough =
    let at = at-end _ _ _ _ c.in_ok-publisher.ensures.publisher.0 (ap cursor_of c.attach-seat.ensures.account) c.knows_published.ensures.published c.knows_published.ensures.same c.knows_published.ensures.same_seat in
    passed-in-step _ _ _ _ _ _ _ _ _ _ _ _ _ _ c.pass.ensures.passes (c.pass.ensures.in_step enough (omega (arith, at)))

pub returns-clause-in_turns : goal.returns-clause-in_turns
returns-clause-in_turns g c few =
    let at = at-end _ _ _ _ c.in_ok-publisher.ensures.publisher.0 (ap cursor_of c.attach-seat.ensures.account) c.knows_published.ensures.published c.knows_published.ensures.same c.knows_published.ensures.same_seat in
    c.pass.ensures.in_turns few (omega (arith, at))
