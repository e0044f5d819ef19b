use Rattle.mounts.specs.Tracks.{NoneIsCalledBy}
use Rattle.std.proofs.Common.{◌≡◌, Some, length, refl, slice_get}
use Rattle.std.proofs.lemmas.Option.{slice_get_read}
use Rattle.mounts.proofs.NamedTracks.{owner_names_none}
use Rattle.mounts.proofs.tracks.named_by_owner.Goals as goal

pub returns-else-has_no_control : goal.returns-else-has_no_control
returns-else-has_no_control c =
    let none : NoneIsCalledBy c.args.target.now c.args.rest.now c.args.tracks.now = rw c.in_default.is at c.in_ok-called.ensures in
    let at : slice_get c.args.tracks.now c.in-Some-track_number.number ≡ Some c.index-tracks-number.result =
    slice_get_read c.args.tracks.now (length c.args.tracks.now) c.in-Some-track_number.number c.index-tracks-number.result refl c.in-Some-track_number.ensures.below c.index-tracks-number.is in
    owner_names_none c.args.target.now c.args.rest.now c.args.tracks.now c.in-Some-track_number.number c.index-tracks-number.result c.requires none at c.in-Some-track_number.ensures.some
    c.if-has_no_control.ensures
