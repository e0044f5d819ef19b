-- The mounts that a history tells of, and which of them, and which of their tracks, a SETUP names (RFC 2326, 3.2, 10.3,
-- 10.4 and C.1.1).
use Rattle.std.specs.Prelude.{◌≡◌, ℕ, ◌==◌, ◌&&◌, Bool, true, false, List, ◌⊎◌, length, map, slice_get, Option, None, Some}
use Rattle.std.specs.List.{AllByRecursion}
use Rattle.std.specs.Option.{option_map_or}
use Rattle.rtsp_message.specs.declared.request.Request as messages
use Rattle.rtsp_message.specs.declared.reply.Reply.{Reply}
use Rattle.sdp.specs.declared.sections.Sections.{Sections}
use Rattle.sdp.specs.Readings.{Reads}
use Rattle.mounts.specs.declared.mount.Mount.{Mount}
use Rattle.mounts.specs.declared.target.Target.{Target}
use Rattle.mounts.specs.declared.uri.Uri.TheVariants.{At}
use Rattle.mounts.specs.Different.{AreDifferent}
use Rattle.mounts.specs.Find.{IsFoundIn}
use Rattle.mounts.specs.Mounts.{numbered, owned_by}
use Rattle.mounts.specs.Names.{GoesOn}
use Rattle.mounts.specs.Tracks.{IsNamedBy}
use Rattle.mounts.specs.Uri.{IsUri}
use Rattle.session_state.specs.declared.entry.Entry.{Entry}
use Rattle.session_state.specs.declared.entry.Entry.TheVariants.{Request, HangUp, Back, Expire}
use Rattle.session_state.specs.declared.act.Act.{Act}
use Rattle.session_state.specs.declared.act.Act.TheVariants as acts
use Rattle.session_state.specs.declared.given.Given.{Given}
use Rattle.session_state.specs.Methods.{is_announce, is_teardown}
use Rattle.session_state.specs.History.{History, Moment, IsNth, last_of, accepts, accepts_from, act_of, is_play_of}

-- The entry is a request of this connection.
pub record Asks (entry : Entry) (conn : ℕ) : Type 0 where
  pub request : messages.Request
  pub given : Given
  pub reply : Reply
  pub act : Act
  pub is : entry ≡ Request conn request given reply act

-- What an ANNOUNCE announces: the mount's name, which is its URI's path, and the description, which is its body.
pub record Announces (entry : Entry) (owner : ℕ) (name : List ℕ) (description : Sections) : Type 0 where
  pub asks : Asks entry owner
  pub target : Target
  pub uri : IsUri asks.request.uri (At target)
  pub path : target.path ≡ name
  pub body : Reads asks.request.body description

-- A connection's session ends when it hangs up, at its accepted TEARDOWN, and when it expires.
abbrev pub ends_of : ℕ → Entry → Bool
ends_of conn (HangUp who act) = who == conn
ends_of conn (Expire who heard now act) = who == conn
ends_of conn entry = accepts_from conn is_teardown entry

-- Its mount ends then, too; where the session expires, by its act.
abbrev pub is_end : Act → Bool
is_end acts.End = true
is_end act = false

abbrev pub ends_mount_of : ℕ → Entry → Bool
ends_mount_of owner (Expire who heard now act) = who == owner && is_end act
ends_mount_of owner entry = ends_of owner entry

-- The mount of a number lives: it is the accepted ANNOUNCE with so many up to it, of this connection, and nothing later has
-- ended it.
pub record IsLive (history : History) (number owner : ℕ) : Type 0 where
  pub later : History
  pub moment : Moment
  pub nth : IsNth (accepts is_announce) number history later moment
  pub owned : accepts_from owner is_announce moment.entry ≡ true
  pub unended : AllByRecursion (λ entry. ends_mount_of owner entry ≡ false) later

-- whether a seat of a mount is out: the last that took it or gave it back took it
abbrev pub takes_or_gives_back : (mount seat : ℕ) → Entry → Bool
takes_or_gives_back mount seat (Request conn request given reply act) = is_play_of mount seat act
takes_or_gives_back mount seat (Back of given) = of == mount && given == seat
takes_or_gives_back mount seat entry = false

abbrev pub is_out : (mount seat : ℕ) → History → Bool
is_out mount seat history = option_map_or (λ entry. is_play_of mount seat (act_of entry)) (last_of (takes_or_gives_back mount seat) history) false

-- A mount that lives, with what was announced, and which of its seats are out.
pub record IsLiveMount (seats : ℕ) (history : History) (mount : Mount) : Type 0 where
  pub live : IsLive history mount.number mount.owner
  pub announced : Announces live.moment.entry mount.owner mount.name mount.description
  pub seats_are : length mount.seats ≡ seats
  pub out : (seat : ℕ) (is : Bool) → slice_get mount.seats seat ≡ Some is → is ≡ is_out mount.number seat history

-- These are the mounts that live, each once.
pub record AreLive (seats : ℕ) (history : History) (mounts : List Mount) : Type 0 where
  pub each : AllByRecursion (IsLiveMount seats history) mounts
  pub all : (number owner : ℕ) → IsLive history number owner → (mount : Mount) × (numbered number mounts ≡ Some mount) × (mount.owner ≡ owner)
  pub once : AreDifferent (map (λ mount. mount.number) mounts)

-- the connection's own mount, where a path is its name or goes on after it
abbrev pub IsOwnMount : List Mount → (conn : ℕ) → (path : List ℕ) → (number : ℕ) → (rest : Option (List ℕ)) → Type 0
IsOwnMount mounts conn path number rest = (own : Mount) × (owned_by conn mounts ≡ Some own) × GoesOn path own.name rest × (own.number ≡ number)

-- the mount that a SETUP names, and what its path says after the name: the connection's own, else the one that the path
-- finds
abbrev pub IsSetUpOn : List Mount → (conn : ℕ) → (path : List ℕ) → (number : ℕ) → (rest : Option (List ℕ)) → Type 0
IsSetUpOn mounts conn path number rest =
    IsOwnMount mounts conn path number rest
    ⊎ (((other : ℕ) (behind : Option (List ℕ)) → IsOwnMount mounts conn path other behind → ⊥) × IsFoundIn mounts path number rest)

-- the track that is named: by the rest of the path, or, without one, the only track that there is
abbrev pub IsTrackOf : Mount → (conn : ℕ) → Target → (rest : Option (List ℕ)) → (track : ℕ) → Type 0
IsTrackOf mount conn target None track = (length mount.description.tracks ≡ 1) × (track ≡ 0)
IsTrackOf mount conn target (Some rest) track = IsNamedBy (mount.owner == conn) target rest mount.description.tracks track

-- A request to set up a track of a mount, among the mounts that live.
pub record SetsUp (mounts : List Mount) (conn : ℕ) (uri : List ℕ) (mount : Mount) (track : ℕ) : Type 0 where
  pub target : Target
  pub names : IsUri uri (At target)
  pub rest : Option (List ℕ)
  pub on : IsSetUpOn mounts conn target.path mount.number rest
  pub is : numbered mount.number mounts ≡ Some mount
  pub track_is : IsTrackOf mount conn target rest track
