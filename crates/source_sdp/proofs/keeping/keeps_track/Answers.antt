use Rattle.std.proofs.Common.{◌≡◌, ◌<◌, true, false, List, length, rules, sym, subst, ◌∙◌}
use Rattle.source_sdp.specs.declared.track.SourceTrack.{SourceTrack}
use Rattle.source_sdp.specs.Kept.{kept_among}
use Rattle.source_sdp.proofs.KeptTracks.{goes_on_at, kept_none, some_kept}
use Rattle.source_sdp.proofs.keeping.keeps_track.Goals as goal

pub returns-then-is_kept : goal.returns-then-is_kept
returns-then-is_kept c =
    let flag : goes_on_at c.args.kept.now c.loop-place.place ≡ true = sym c.is_kept.ensures ∙ c.if-is_kept.true in
    let some : 0 < length (kept_among c.args.tracks.now c.args.kept.now) =
    subst (λ (tracks : List SourceTrack). 0 < length tracks) c.loop-place.invariant (some_kept c.args.tracks.now c.args.kept.now c.loop-place.place c.loop-place-test.true flag) in
    search rules

pub loop-place-preserved : goal.loop-place-preserved
loop-place-preserved c =
    let flag : goes_on_at c.args.kept.now c.loop-place.place ≡ false = sym c.is_kept.ensures ∙ c.if-is_kept.false in
    sym (kept_none c.args.tracks.now c.args.kept.now c.loop-place.place c.loop-place-test.true flag) ∙ c.loop-place.invariant
