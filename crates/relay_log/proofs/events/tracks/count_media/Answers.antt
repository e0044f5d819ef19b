use Rattle.std.proofs.Common.{◌∙◌, sym, arith, true, false}
use Rattle.relay_log.proofs.Counting.{media_step}
use Rattle.relay_log.proofs.events.tracks.count_media.Goals as goal
use Rattle.relay_log.proofs.events.tracks.count_media.Goals.{then-starts_with, else-starts_with}

pub loop-place-preserved : goal.loop-place-preserved
loop-place-preserved c =
    elim c.if-starts_with.branch [
      | then-starts_with w ↦
          let step = media_step c.args.text.now c.loop-place.place true c.loop-place-test.true (sym c.starts_with.ensures.value ∙ w.if-starts_with.true) in
          record { counted = omega arith; few = omega arith }
      | else-starts_with w ↦
          let step = media_step c.args.text.now c.loop-place.place false c.loop-place-test.true (sym c.starts_with.ensures.value ∙ w.if-starts_with.false) in
          record { counted = omega arith; few = omega arith }
    ]
