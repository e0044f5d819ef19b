use Rattle.std.proofs.Common.{◌∙◌, refl, arith}
use Rattle.cursor.specs.declared.takes.Delivery.TheVariants.{Got, Lost, Empty, Ended}
use Rattle.cursor.proofs.Plains.{take_event, read_packet, fits_at}
use Rattle.cursor.proofs.plain_log.PlainLog.take_with.Goals as goal
use Rattle.cursor.proofs.plain_log.PlainLog.take_with.Goals.{then-cursor-floor, else-cursor-floor+then-cursor-end, else-cursor-floor+else-cursor-end+then-self, else-cursor-floor+else-cursor-end+else-self}

pub returns-clause-event : goal.returns-clause-event
returns-clause-event g c =
    let has = rw (← c.self.view_is) at c.account-account.ensures.account in
    let within = rw (← c.self.view_is) at c.account-account.ensures.within in
    let end = c.len-end.ensures ∙ c.self.inside.packets.ok.0 in
    let cursor = c.cursor-cursor.ensures in
    let floor = c.saturating_sub-floor.ensures in
    elim c.if-cursor-floor.branch [
      | then-cursor-floor w ↦
          let may = w.if-cursor-floor.true in
          rw (w.taken-is, w.visitor-is, w.account-is, ← c.self.view_is, c.from.ensures)
          (record { delivery = Lost _; answered = refl; given = take_event _ _ _ _ has (omega arith, omega arith); seen = refl })
      | else-cursor-floor+then-cursor-end w ↦
          let bytes = w.as_slice-bytes.ensures in
          let packet = read_packet c.self.inside.packets.items _ _ _ (rw (← end) w.if-cursor-end.true) w.index-packet.ensures bytes in
          rw (w.taken-is, w.visitor-is, w.account-is, ← c.self.view_is, c.from.ensures)
          (record { delivery = Got _ _; answered = refl; given = take_event _ _ _ _ has (cursor, omega (arith, w.if-cursor-floor.false), packet); seen = w.see.ensures.gives })
      | else-cursor-floor+else-cursor-end+then-self w ↦
          let past = w.if-cursor-end.false in
          rw (w.taken-is, w.visitor-is, w.account-is, ← c.self.view_is, c.from.ensures)
          (record { delivery = Ended; answered = refl; given = take_event _ _ _ _ has (omega arith, w.if-self.true); seen = refl })
      | else-cursor-floor+else-cursor-end+else-self w ↦
          let past = w.if-cursor-end.false in
          rw (w.taken-is, w.visitor-is, w.account-is, ← c.self.view_is, c.from.ensures)
          (record { delivery = Empty; answered = refl; given = take_event _ _ _ _ has (omega arith, w.if-self.false); seen = refl })
    ]

pub returns-clause-fits : goal.returns-clause-fits
returns-clause-fits g c =
    let end = c.len-end.ensures ∙ c.self.inside.packets.ok.0 in
    elim c.if-cursor-floor.branch [
      | then-cursor-floor w ↦ rw w.taken-is tt
      | else-cursor-floor+then-cursor-end w ↦
          rw (w.taken-is, w.as_slice-bytes.ensures, ← c.self.view_is) (fits_at _ _ _ c.self.invariant (rw (← end) w.if-cursor-end.true) w.index-packet.ensures)
      | else-cursor-floor+else-cursor-end+then-self w ↦ rw w.taken-is tt
      | else-cursor-floor+else-cursor-end+else-self w ↦ rw w.taken-is tt
    ]
