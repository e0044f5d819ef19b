use Rattle.std.proofs.Common.{◌<◌, ◌≤◌, ◌+◌, ℕ, length, sym, subst, ◌∙◌}
use Rattle.cursor.specs.Account.{cursor_of}
use Rattle.packet_ring.specs.Views.{keep_of}
use Rattle.relay_pass.proofs.Takings.{counted-on, lost-none, room-left, turn-adds, turn-done, turn-empty, turn-kept, turn-open, turn-settled, turn-takes, turn-within}
use Rattle.relay_pass.proofs.taking.take_turn.Goals as goal

pub add-requires : goal.add-requires
add-requires g c =
    room-left _ _ _ _ _ c.requires.counted (turn-adds _ _ _ _ _ _ _ c.requires.some c.relay_out_held-out.ensures.relays)
    (subst (λ (n : ℕ). n < 18446744073709551616) c.cursor-cursor.ensures c.cursor-cursor.type_inv)

pub knows_published-requires : goal.knows_published-requires
knows_published-requires g c = ((turn-settled _ _ _ _ _ _ _ c.requires.some c.relay_out_held-out.ensures.relays).ring ∙ c.requires.ring)

pub returns-clause-takes : goal.returns-clause-takes
returns-clause-takes g c = rw c.knows_published.ensures.same_seat (turn-takes _ _ _ _ _ _ _ c.requires.some c.relay_out_held-out.ensures.relays _ _ c.add.ensures)

pub returns-clause-counted : goal.returns-clause-counted
returns-clause-counted g c =
    rw c.knows_published.ensures.same_seat
    (counted-on c.args.went.now c.add.new.self c.relay_out_held-out.result _ _ _ c.add.ensures c.requires.counted (turn-adds _ _ _ _ _ _ _ c.requires.some c.relay_out_held-out.ensures.relays))

pub returns-clause-within : goal.returns-clause-within
returns-clause-within g c = rw c.knows_published.ensures.same_seat (turn-within _ _ _ _ _ _ _ c.requires.some c.relay_out_held-out.ensures.relays)

pub returns-clause-done : goal.returns-clause-done
returns-clause-done g c = rw c.knows_published.ensures.same_seat (turn-done _ _ _ _ _ _ _ c.requires.some c.relay_out_held-out.ensures.relays)

pub returns-clause-empty : goal.returns-clause-empty
returns-clause-empty g c = rw c.knows_published.ensures.same_seat (turn-empty _ _ _ _ _ _ _ c.requires.some c.relay_out_held-out.ensures.relays)

pub returns-clause-open : goal.returns-clause-open
returns-clause-open g c = turn-open _ _ _ _ _ _ _ c.requires.some c.relay_out_held-out.ensures.relays c.knows_published.ensures.open

pub returns-clause-kept : goal.returns-clause-kept
returns-clause-kept g c few =
    lost-none c.args.went.now c.add.new.self c.relay_out_held-out.result c.add.ensures
    (turn-kept _ _ _ _ _ _ _ c.requires.some c.relay_out_held-out.ensures.relays c.args.publisher.now.log c.knows_published.ensures.published
    (subst (λ z. length c.args.publisher.now.log ≤ cursor_of c.args.seat.now.account + keep_of z) (sym c.requires.ring) few))
