use Rattle.mounts.proofs.NamedTracks.{player_names}
use Rattle.mounts.proofs.mount.Mount.track_for_player.Goals as goal

pub returns : goal.returns
returns c =
    player_names c.args.rest.now c.args.self.now.description.tracks c.tracks-tracks.result.now c.track_number.result c.tracks-tracks.ensures.all c.track_number.ensures.below c.track_number.ensures.some
    c.track_number.ensures.none
