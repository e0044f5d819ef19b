use Rattle.std.proofs.Common.{[], ◌∷◌, refl}
use Rattle.std.proofs.lemmas.Result.{err_from_is_err_and}
use Rattle.session_state.specs.declared.checks.Check.TheVariants.{FitsState, HasFewTracks, HasItsSession, HasRoomForMount, HasSdpType, HasUri, IsDescription, MayAnnounce, NamesAStream, RequiresNothing}
use Rattle.session_state.specs.declared.method.Method.TheVariants.{Announce}
use Rattle.session_state.proofs.Checked.{passing_both, refused_within}
use Rattle.session_state.proofs.CheckedAnnounce.{room_passes}
use Rattle.session_state.proofs.CheckedMethods.{announces, announces_body, announces_free, place_there}
use Rattle.session_state.proofs.checks.asking.Asking.announce.Goals as goal

pub returns-in_err-with_sdp_type : goal.returns-in_err-with_sdp_type
returns-in_err-with_sdp_type c =
    let p = err_from_is_err_and c.from_residual-in_err-with_sdp_type.result c.from_residual-in_err-with_sdp_type.ensures.1 in
    let fits = passing_both c.args.self.now (RequiresNothing ∷ HasUri Announce ∷ HasItsSession Announce ∷ []) (NamesAStream Announce ∷ FitsState Announce ∷ []) c.in_ok-target.ensures.1 (announces c.args.self.now c.in_ok-in_fitting_state.ensures) in
    let free = passing_both c.args.self.now (RequiresNothing ∷ HasUri Announce ∷ HasItsSession Announce ∷ NamesAStream Announce ∷ FitsState Announce ∷ []) (MayAnnounce ∷ []) fits (announces_free c.args.self.now c.in_ok-target.target c.in_ok-with_free_name.ensures) in
    rw (p.1, p.2) (refused_within c.args.self.now (RequiresNothing ∷ HasUri Announce ∷ HasItsSession Announce ∷ NamesAStream Announce ∷ FitsState Announce ∷ MayAnnounce ∷ []) (HasSdpType ∷ []) (IsDescription ∷ HasFewTracks ∷ HasRoomForMount ∷ []) _ free c.in_err-with_sdp_type.ensures)

pub returns-in_err-description : goal.returns-in_err-description
returns-in_err-description c =
    let p = err_from_is_err_and c.from_residual-in_err-description.result c.from_residual-in_err-description.ensures.1 in
    let fits = passing_both c.args.self.now (RequiresNothing ∷ HasUri Announce ∷ HasItsSession Announce ∷ []) (NamesAStream Announce ∷ FitsState Announce ∷ []) c.in_ok-target.ensures.1 (announces c.args.self.now c.in_ok-in_fitting_state.ensures) in
    let free = passing_both c.args.self.now (RequiresNothing ∷ HasUri Announce ∷ HasItsSession Announce ∷ NamesAStream Announce ∷ FitsState Announce ∷ []) (MayAnnounce ∷ []) fits (announces_free c.args.self.now c.in_ok-target.target c.in_ok-with_free_name.ensures) in
    let typed = passing_both c.args.self.now (RequiresNothing ∷ HasUri Announce ∷ HasItsSession Announce ∷ NamesAStream Announce ∷ FitsState Announce ∷ MayAnnounce ∷ []) (HasSdpType ∷ []) free c.in_ok-with_sdp_type.ensures in
    rw (p.1, p.2) (refused_within c.args.self.now (RequiresNothing ∷ HasUri Announce ∷ HasItsSession Announce ∷ NamesAStream Announce ∷ FitsState Announce ∷ MayAnnounce ∷ HasSdpType ∷ []) (IsDescription ∷ HasFewTracks ∷ []) (HasRoomForMount ∷ []) _ typed c.in_err-description.ensures)

pub returns-in_err-with_room_for_mount : goal.returns-in_err-with_room_for_mount
returns-in_err-with_room_for_mount c =
    let p = err_from_is_err_and c.from_residual-in_err-with_room_for_mount.result c.from_residual-in_err-with_room_for_mount.ensures.1 in
    let fits = passing_both c.args.self.now (RequiresNothing ∷ HasUri Announce ∷ HasItsSession Announce ∷ []) (NamesAStream Announce ∷ FitsState Announce ∷ []) c.in_ok-target.ensures.1 (announces c.args.self.now c.in_ok-in_fitting_state.ensures) in
    let free = passing_both c.args.self.now (RequiresNothing ∷ HasUri Announce ∷ HasItsSession Announce ∷ NamesAStream Announce ∷ FitsState Announce ∷ []) (MayAnnounce ∷ []) fits (announces_free c.args.self.now c.in_ok-target.target c.in_ok-with_free_name.ensures) in
    let typed = passing_both c.args.self.now (RequiresNothing ∷ HasUri Announce ∷ HasItsSession Announce ∷ NamesAStream Announce ∷ FitsState Announce ∷ MayAnnounce ∷ []) (HasSdpType ∷ []) free c.in_ok-with_sdp_type.ensures in
    let read = passing_both c.args.self.now (RequiresNothing ∷ HasUri Announce ∷ HasItsSession Announce ∷ NamesAStream Announce ∷ FitsState Announce ∷ MayAnnounce ∷ HasSdpType ∷ []) (IsDescription ∷ HasFewTracks ∷ []) typed (announces_body c.args.self.now c.in_ok-description.description c.in_ok-description.ensures) in
    rw (p.1, p.2) (refused_within c.args.self.now (RequiresNothing ∷ HasUri Announce ∷ HasItsSession Announce ∷ NamesAStream Announce ∷ FitsState Announce ∷ MayAnnounce ∷ HasSdpType ∷ IsDescription ∷ HasFewTracks ∷ []) (HasRoomForMount ∷ []) [] _ read c.in_err-with_room_for_mount.ensures)

pub returns : goal.returns
returns c =
    let fits = passing_both c.args.self.now (RequiresNothing ∷ HasUri Announce ∷ HasItsSession Announce ∷ []) (NamesAStream Announce ∷ FitsState Announce ∷ []) c.in_ok-target.ensures.1 (announces c.args.self.now c.in_ok-in_fitting_state.ensures) in
    let free = passing_both c.args.self.now (RequiresNothing ∷ HasUri Announce ∷ HasItsSession Announce ∷ NamesAStream Announce ∷ FitsState Announce ∷ []) (MayAnnounce ∷ []) fits (announces_free c.args.self.now c.in_ok-target.target c.in_ok-with_free_name.ensures) in
    let typed = passing_both c.args.self.now (RequiresNothing ∷ HasUri Announce ∷ HasItsSession Announce ∷ NamesAStream Announce ∷ FitsState Announce ∷ MayAnnounce ∷ []) (HasSdpType ∷ []) free c.in_ok-with_sdp_type.ensures in
    let read = passing_both c.args.self.now (RequiresNothing ∷ HasUri Announce ∷ HasItsSession Announce ∷ NamesAStream Announce ∷ FitsState Announce ∷ MayAnnounce ∷ HasSdpType ∷ []) (IsDescription ∷ HasFewTracks ∷ []) typed (announces_body c.args.self.now c.in_ok-description.description c.in_ok-description.ensures) in
    record {
      method_is = refl;
      passes = passing_both c.args.self.now (RequiresNothing ∷ HasUri Announce ∷ HasItsSession Announce ∷ NamesAStream Announce ∷ FitsState Announce ∷ MayAnnounce ∷ HasSdpType ∷ IsDescription ∷ HasFewTracks ∷ []) (HasRoomForMount ∷ []) read (room_passes c.args.self.now c.in_ok-with_room_for_mount.ensures);
      finds = λ history told. (c.in_ok-target.ensures.0, c.in_ok-description.ensures);
      there = place_there c.args.self.now c.in_ok-target.target c.in_ok-with_free_name.ensures c.in_ok-with_room_for_mount.ensures;
    }
