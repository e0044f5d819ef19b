use Rattle.std.proofs.Common.{◌≡◌, true, false, sym, ◌∙◌, arith}
use Rattle.source_sdp.proofs.KeptTracks.{goes_on_at, kept_none}
use Rattle.source_sdp.proofs.TextSizes.{next_text}
use Rattle.source_sdp.proofs.writing.write_tracks.Goals as goal
use Rattle.source_sdp.proofs.writing.write_tracks.Goals.{then-is_kept+in_ok-write_track, else-is_kept}

pub loop-place-preserved : goal.loop-place-preserved
loop-place-preserved c = elim c.if-is_kept.branch [
  | then-is_kept+in_ok-write_track w ↦
      let flag : goes_on_at c.args.kept.now c.loop-place.place ≡ true = sym c.is_kept.ensures ∙ w.if-is_kept.true in
      let text = next_text c.loop-place.out.items c.args.tracks.now c.args.kept.now c.loop-place.place c.loop-place.number c.index-tracks-place.result c.loop-place-test.true flag c.index-tracks-place.is in
      rw (w.out-is, w.number-is) (record { few = omega (arith, c.loop-place.invariant.few); whole = rw w.in_ok-write_track.ensures (text ∙ c.loop-place.invariant.whole) })
  | else-is_kept w ↦
      let flag : goes_on_at c.args.kept.now c.loop-place.place ≡ false = sym c.is_kept.ensures ∙ w.if-is_kept.false in
      let same = kept_none c.args.tracks.now c.args.kept.now c.loop-place.place c.loop-place-test.true flag in
      rw (w.out-is, w.number-is) (record { few = omega (arith, c.loop-place.invariant.few); whole = rw same at c.loop-place.invariant.whole })
]
