use Rattle.std.proofs.Common.{◌<◌, List, length, ◌∙◌, ap, rules, sym, subst}
use Rattle.sdp.specs.Readings.{Reads}
use Rattle.source_sdp.specs.declared.track.SourceTrack.{SourceTrack}
use Rattle.source_sdp.specs.Announced.{announced_sections, announced_text}
use Rattle.source_sdp.specs.Kept.{kept_among}
use Rattle.source_sdp.proofs.Again.{announced_reads}
use Rattle.source_sdp.proofs.KeptTracks.{usable_kept}
use Rattle.source_sdp.proofs.description.SourceDescription.announced.Goals as goal

pub returns-clause-accepted : goal.returns-clause-accepted
returns-clause-accepted c =
    let all : List SourceTrack = c.args.self.now.tracks in
    let tracks : List SourceTrack = kept_among all c.args.kept.now in
    let some : 0 < length tracks = search rules in
    subst (λ text. Reads text (announced_sections tracks))
    (sym (c.in_ok-write_tracks.ensures ∙ ap (λ (ts : List SourceTrack). announced_text (kept_among ts c.args.kept.now)) c.as_slice-tracks.ensures))
    (announced_reads tracks (usable_kept all c.args.kept.now c.args.self.now.usable) some)
