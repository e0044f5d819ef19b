use Rattle.std.proofs.Common.{◌≡◌, ◌<◌, true, false, length, sym, ◌∙◌, arith}
use Rattle.source_sdp.specs.Announced.{announced_text}
use Rattle.source_sdp.specs.Kept.{kept_among}
use Rattle.source_sdp.proofs.KeptTracks.{goes_on_at, kept_none}
use Rattle.source_sdp.proofs.TextSizes.{if_none, next_size}
use Rattle.source_sdp.proofs.room.after_tracks.Goals as goal
use Rattle.source_sdp.proofs.room.after_tracks.Goals.{then-is_kept+in_ok-left-2, else-is_kept}

pub returns-in_err-left-2-clause-none : goal.returns-in_err-left-2-clause-none
returns-in_err-left-2-clause-none c =
    let flag : goes_on_at c.args.kept.now c.loop-place.place ≡ true = sym c.is_kept.ensures ∙ c.if-is_kept.true in
    let size = next_size c.args.tracks.now c.args.kept.now c.loop-place.place c.loop-place.number c.index-tracks-place.result c.loop-place-test.true flag c.index-tracks-place.is in
    let over : c.args.room < length (announced_text (kept_among c.args.tracks.now c.args.kept.now)) = omega (arith, size, c.loop-place.invariant.taken, c.in_err-left-2.ensures.none) in
    if_none _ _ over

pub loop-place-preserved : goal.loop-place-preserved
loop-place-preserved c = elim c.if-is_kept.branch [
  | then-is_kept+in_ok-left-2 w ↦
      let flag : goes_on_at c.args.kept.now c.loop-place.place ≡ true = sym c.is_kept.ensures ∙ w.if-is_kept.true in
      let size = next_size c.args.tracks.now c.args.kept.now c.loop-place.place c.loop-place.number c.index-tracks-place.result c.loop-place-test.true flag c.index-tracks-place.is in
      rw (w.left-is, w.number-is) (record { few = omega (arith, c.loop-place.invariant.few); taken = omega (arith, size, c.loop-place.invariant.taken, w.in_ok-left-2.ensures.left) })
  | else-is_kept w ↦
      let flag : goes_on_at c.args.kept.now c.loop-place.place ≡ false = sym c.is_kept.ensures ∙ w.if-is_kept.false in
      let same = kept_none c.args.tracks.now c.args.kept.now c.loop-place.place c.loop-place-test.true flag in
      rw (w.left-is, w.number-is) (record { few = omega (arith, c.loop-place.invariant.few); taken = rw same at c.loop-place.invariant.taken })
]
