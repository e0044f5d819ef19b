-- The track that a client's SETUP names.
use Rattle.std.proofs.Common.{◌≡◌, ◌<◌, ◌==◌, ℕ, List, ◌∷◌, ◌++◌, inl, Option, Some, refl, ap, sym, subst, ◌∙◌, arith}
use Rattle.std.proofs.lemmas.Bool.{eq-eqb}
use Rattle.sdp.specs.declared.sections.Sections.{Sections}
use Rattle.sdp.specs.Written.{track_control}
use Rattle.mounts.specs.declared.mount.Mount.{Mount}
use Rattle.mounts.specs.declared.target.Target.{Target}
use Rattle.mounts.specs.declared.uri.Uri.TheVariants.{At}
use Rattle.mounts.specs.Mounts.{numbered}
use Rattle.mounts.specs.Names.{GoesOn}
use Rattle.mounts.specs.Tracks.{IsNamedBy, IsNamedByOwner}
use Rattle.mounts.specs.Uri.{IsUri, slash}
use Rattle.session_state.specs.Streams.{IsSetUpOn, SetsUp}
use Rattle.session_state.proofs.CheckedNames.{one_set_up, same_target}
use Rattle.request_text.specs.declared.request_text.RequestText.{RequestText}
use Rattle.client_laws.specs.Publishing.{AsksSetup, CanBePublished, NamesTrack, Publication, track_count}
use Rattle.client_laws.proofs.OwnMount.{IsFound}
use Rattle.client_laws.proofs.Tracks.{named_track}

-- The request names this track of the own mount.
pub record IsNamedTrack (conn : ℕ) (publication : Publication) (request : RequestText) (mounts : List Mount) (number track : ℕ) (found : IsFound conn publication number mounts) : Type 0 where
  pub target : Target
  pub uri : IsUri request.uri.now (At target)
  pub on : IsSetUpOn mounts conn target.path found.mount.number (Some (track_control track))
  pub on_number : (of : ℕ) → number ≡ of → IsSetUpOn mounts conn target.path of (Some (track_control track))
  pub at : numbered found.mount.number mounts ≡ Some found.mount
  pub named : IsNamedBy (found.mount.owner == conn) target (track_control track) found.mount.description.tracks track
  pub sets_up : SetsUp mounts conn request.uri.now found.mount track

module _ (conn : ℕ) (publication : Publication) (can : CanBePublished publication) (request : RequestText) (mounts : List Mount) (number track : ℕ) (told : Option (List ℕ))
    (found : IsFound conn publication number mounts) (there : track < track_count publication) (asks_so : AsksSetup publication track told request) where
  names_track : NamesTrack publication track
  names_track = can.tracks track there

  uri_is : IsUri request.uri.now (At names_track.target)
  uri_is = subst (λ text. IsUri text (At names_track.target)) (sym asks_so.2.uri_is) names_track.uri

  goes_on : (mount : Mount) → mount.name ≡ publication.target.path → GoesOn names_track.target.path mount.name (Some (track_control track))
  goes_on mount is = names_track.path ∙ ap (λ (n : List ℕ). n ++ slash ∷ track_control track) (sym is)

  set_up_on : (of : ℕ) → number ≡ of → IsSetUpOn mounts conn names_track.target.path of (Some (track_control track))
  set_up_on of is = inl (found.own, found.owned, goes_on found.own found.is_own.of.name_is, found.is_own.of.number_is ∙ is)

  named_by : IsNamedBy (found.mount.owner == conn) names_track.target (track_control track) found.mount.description.tracks track
  named_by =
      subst (λ owns. IsNamedBy owns names_track.target (track_control track) found.mount.description.tracks track) (sym (eq-eqb found.mount.owner conn found.is.of.owner_is))
      (subst (λ (d : Sections). IsNamedByOwner names_track.target (track_control track) d.tracks track) (sym found.is.description_is)
      (named_track names_track.target track few names_track.no_query publication.description.tracks there can.numbered))
    where
      few : track < 16
      few = let most = can.body.good.few in omega (arith, there, most)

  on_mount : IsSetUpOn mounts conn names_track.target.path found.mount.number (Some (track_control track))
  on_mount = set_up_on found.mount.number (sym found.is.of.number_is)

  at_mount : numbered found.mount.number mounts ≡ Some found.mount
  at_mount = ap (λ n. numbered n mounts) found.is.of.number_is ∙ found.at

  pub track_named : IsNamedTrack conn publication request mounts number track found
  track_named = record {
    target = names_track.target;
    uri = uri_is;
    on = on_mount;
    on_number = set_up_on;
    at = at_mount;
    named = named_by;
    sets_up = record { target = names_track.target; names = uri_is; rest = Some (track_control track); on = on_mount; is = at_mount; track_is = named_by };
  }

  -- whatever mount the request sets a track of up, it is the own one
  pub sets_own : (mount : Mount) (of : ℕ) → SetsUp mounts conn request.uri.now mount of → mount ≡ found.mount
  sets_own mount of sets =
      let target = same_target request.uri.now sets.target names_track.target sets.names uri_is in
      let on = subst (λ (t : Target). IsSetUpOn mounts conn t.path mount.number sets.rest) target sets.on in
      let one = one_set_up mounts conn names_track.target.path mount.number number sets.rest (Some (track_control track)) on (set_up_on number refl) in
      let at = subst (λ n. numbered n mounts ≡ Some mount) one.0 sets.is in
      let own = found.at in
      cc
