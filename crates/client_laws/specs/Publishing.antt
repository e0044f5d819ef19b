-- What a client asks for that publishes: ANNOUNCE, SETUP of each track, RECORD, OPTIONS as keepalive, TEARDOWN (RFC 2326, 10).
use Rattle.std.specs.Prelude.{◌≡◌, ◌<◌, ◌^◌, ℕ, ◌+◌, List, [], ◌∷◌, ◌++◌, length, Option, None, Some, ◌*◌, codes, decimal}
use Rattle.std.specs.Option.{option_copied}
use denote.Ref.{Bor}
use Rattle.sdp.specs.declared.sections.Sections.{Sections}
use Rattle.sdp.specs.declared.track.Track.{Track}
use Rattle.sdp.specs.Readings.{Reads}
use Rattle.sdp.specs.Written.{track_control}
use Rattle.transport_header.specs.declared.spec.Spec.{Spec}
use Rattle.transport_header.specs.declared.spec.Mode.TheVariants as modes
use Rattle.transport_header.specs.Chosen.{IsFirstAcceptable}
use Rattle.transport_header.specs.Transport.{specs_of}
use Rattle.mounts.specs.declared.mount.Mount.{Mount}
use Rattle.mounts.specs.declared.target.Target.{Target}
use Rattle.mounts.specs.declared.uri.Uri.TheVariants.{At}
use Rattle.mounts.specs.Names.{EndsInTrack, IsName}
use Rattle.mounts.specs.Uri.{IsUri, slash}
use Rattle.session_state.specs.Methods.{is_announce}
use Rattle.session_state.specs.History.{History, accepts, how_many}
use Rattle.session_state.specs.Streams.{AreLive, IsLiveMount}
use Rattle.request_text.specs.declared.asked.Asked.{Asked}
use Rattle.request_text.specs.declared.asked.Asked.TheVariants as asks
use Rattle.request_text.specs.declared.request_text.RequestText.{RequestText}

-- The URI of what is published, what the URI names, the description's text, and what that describes.
pub record Publication : Type 0 where
  pub uri : List ℕ
  pub target : Target
  pub body : List ℕ
  pub description : Sections

abbrev pub track_count : Publication → ℕ
track_count publication = length publication.description.tracks

-- the URI of a track (RFC 2326, C.1.1: its control is relative to the base)
abbrev pub track_uri : Publication → (track : ℕ) → List ℕ
track_uri publication track = publication.uri ++ slash ∷ track_control track

-- The URI of a track names the path of the publication, and the track's control after it.
pub record NamesTrack (publication : Publication) (track : ℕ) : Type 0 where
  pub target : Target
  pub uri : IsUri (track_uri publication track) (At target)
  pub path : target.path ≡ publication.target.path ++ slash ∷ track_control track
  pub no_query : target.query ≡ None

-- the tracks were announced with the control `trackID=` and their number, of which the first has this
abbrev pub AreNumbered : (first : ℕ) → List Track → Type 0
AreNumbered first [] = Unit {0}
AreNumbered first (track ∷ tracks) = (track.control ≡ Some (track_control first)) × AreNumbered (first + 1) tracks

-- The URI names a path of 1 to 128 bytes that doesn't end as a track's does; the body is a description, of 1 to 16 tracks
-- with the controls `trackID=0`, `trackID=1` and so on, and the tracks' URIs name them.
pub record CanBePublished (publication : Publication) : Type 0 where
  pub uri : IsUri publication.uri (At publication.target)
  pub name : IsName publication.target.path
  pub plain : EndsInTrack publication.target.path → ⊥
  pub body : Reads publication.body publication.description
  pub numbered : AreNumbered 0 publication.description.tracks
  pub tracks : (track : ℕ) → track < track_count publication → NamesTrack publication track

-- After this history a mount of this name may be announced: fewer than 64 live, a number is left, and none has the name.
pub record HasPlace (seats : ℕ) (history : History) (name : List ℕ) : Type 0 where
  pub few : (mounts : List Mount) → AreLive seats history mounts → length mounts < 64
  pub left : how_many (accepts is_announce) history < 2 ^ 63
  pub free : (mount : Mount) → IsLiveMount seats history mount → mount.name ≡ name → ⊥

-- A request of this kind, at this URI, with this Session field or none.
pub record Asks (kind : Asked) (uri : List ℕ) (session : Option (List ℕ)) (request : RequestText) : Type 0 where
  pub kind_is : request.asked ≡ kind
  pub uri_is : request.uri.now ≡ uri
  pub session_is : option_copied request.session ≡ session

-- a Transport field whose first transport that the server takes asks to record (RFC 2326, 12.39)
abbrev pub AsksToRecord : List ℕ → Type 0
AsksToRecord text = (spec : Spec) × IsFirstAcceptable (specs_of text) spec × (spec.mode ≡ modes.Record)

-- the Transport field of a track: over TCP, on the channels 2k and 2k + 1 (RFC 2326, 10.12), to record
abbrev pub track_transport : (track : ℕ) → List ℕ
track_transport track = codes "RTP/AVP/TCP;unicast;interleaved=" ++ decimal (2 * track) ++ codes "-" ++ decimal (2 * track + 1) ++ codes ";mode=record"

module _ (publication : Publication) where
  abbrev pub AsksAnnounce : RequestText → Type 0
  AsksAnnounce request = (body : Bor (List ℕ)) × (body.now ≡ publication.body) × Asks (asks.Announce body) publication.uri None request

  -- SETUP of a track, in the session that the client was told, if it was
  abbrev pub AsksSetup : (track : ℕ) → (told : Option (List ℕ)) → RequestText → Type 0
  AsksSetup track told request =
      (transport : Bor (List ℕ)) × AsksToRecord transport.now × Asks (asks.Setup transport) (track_uri publication track) told request

  abbrev pub AsksRecord : (told : Option (List ℕ)) → RequestText → Type 0
  AsksRecord told request = Asks asks.Record publication.uri told request

  abbrev pub AsksOptions : (told : Option (List ℕ)) → RequestText → Type 0
  AsksOptions told request = Asks asks.Options publication.uri told request

  abbrev pub AsksTeardown : (told : Option (List ℕ)) → RequestText → Type 0
  AsksTeardown told request = Asks asks.Teardown publication.uri told request
