use Rattle.std.proofs.Common.{◌≡◌, ◌<◌, ◌∙◌, true, false, length, refl, sym, is_some, ◌||◌}
use Rattle.std.proofs.lemmas.Bool.{false≢true}
use Rattle.ring_steps.specs.Acting.{is_load}
use Rattle.ring_steps.proofs.Telling.{acts_waiting, replied}
use Rattle.ring_steps.proofs.tracing.answer_acting.Goals as goal
use Rattle.ring_steps.proofs.tracing.answer_acting.Goals.{else-not-answered-via-then-not-answered+else-not-is_load, else-not-answered-via-else-not-answered}

pub returns-then-answered-clause-waits : goal.returns-then-answered-clause-waits
returns-then-answered-clause-waits c t later same waits =
    let within : c.in-Seat.seat < length c.args.packets.now = rw c.in-Seat.is at c.requires in
    let some : (is_some c.args.made.answer || is_load c.args.made.saw) ≡ true = rw (← c.is_some-answered.ensures, c.if-answered.true) refl in
    replied c.args.made t later c.args.packets.now c.from-seat.result c.in-Seat.seat c.replace-waiting.new.dest same c.in-Seat.is c.from-seat.ensures some within
    (c.replace-waiting.ensures.after ∙ c.by_kind-packet.ensures.packet) waits

pub returns-else-answered-clause-acting : goal.returns-else-answered-clause-acting
returns-else-answered-clause-acting c t later same waits =
    let within : c.in-Seat.seat < length c.args.packets.now = rw c.in-Seat.is at c.requires in
    let none : is_some c.args.made.answer ≡ false = sym c.is_some-answered.ensures ∙ c.if-answered.false in
    elim c.else-not-answered.branch [
      | else-not-answered-via-then-not-answered+else-not-is_load w ↦
          let load : is_load c.args.made.saw ≡ true = sym w.is_load.ensures ∙ w.if-not-is_load.false in
          c.replace-waiting.ensures.value ∙ sym c.index-packets-seat.is
          ∙ acts_waiting c.args.made t later c.args.packets.now c.from-seat.result c.in-Seat.seat c.index-packets-seat.result same c.in-Seat.is c.from-seat.ensures none load within
          c.index-packets-seat.is waits
      | else-not-answered-via-else-not-answered w ↦ absurd (false≢true (sym c.if-answered.false ∙ w.if-not-answered.false))
    ]

pub returns-else-answered-clause-waits : goal.returns-else-answered-clause-waits
returns-else-answered-clause-waits c t later same waits =
    let within : c.in-Seat.seat < length c.args.packets.now = rw c.in-Seat.is at c.requires in
    let none : is_some c.args.made.answer ≡ false = sym c.is_some-answered.ensures ∙ c.if-answered.false in
    elim c.else-not-answered.branch [
      | else-not-answered-via-then-not-answered+else-not-is_load w ↦
          let load : (is_some c.args.made.answer || is_load c.args.made.saw) ≡ true = rw (none, ← w.is_load.ensures, w.if-not-is_load.false) refl in
          replied c.args.made t later c.args.packets.now c.from-seat.result c.in-Seat.seat c.replace-waiting.new.dest same c.in-Seat.is c.from-seat.ensures load within
          (c.replace-waiting.ensures.after ∙ c.by_kind-packet.ensures.packet) waits
      | else-not-answered-via-else-not-answered w ↦ absurd (false≢true (sym c.if-answered.false ∙ w.if-not-answered.false))
    ]
