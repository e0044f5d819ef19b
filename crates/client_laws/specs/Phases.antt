-- What a history tells of a connection that publishes (RFC 2326, A.2).
use Rattle.std.specs.Prelude.{◌≡◌, ℕ, true, false, List, ◌∷◌, Option, Some}
use Rattle.transport_header.specs.Session.{identifier_text}
use Rattle.mounts.specs.declared.mount.Mount.{Mount}
use Rattle.session_state.specs.declared.session.Session.{Session}
use Rattle.session_state.specs.declared.session.State.{State}
use Rattle.session_state.specs.declared.session.State.TheVariants.{Ready, Recording}
use Rattle.session_state.specs.History.{History, Moment}
use Rattle.session_state.specs.Lookups.{SetUpAt, beginning, has_session, session_part, sessions_begun, state_of, word_of}
use Rattle.session_state.specs.Replies.{identifier_of}
use Rattle.session_state.specs.Streams.{Announces, IsLive}
use Rattle.client_laws.specs.Publishing.{Publication}

-- The connection owns no mount that lives, and has no session.
pub record IsFresh (conn : ℕ) (history : History) : Type 0 where
  pub owns_none : (number : ℕ) → IsLive history number conn → ⊥
  pub no_session : has_session conn history ≡ false

-- The connection owns a mount that lives: what it has announced is this publication.
pub record Owns (conn : ℕ) (publication : Publication) (history : History) : Type 0 where
  pub number : ℕ
  pub live : IsLive history number conn
  pub announced : Announces live.moment.entry conn publication.target.path publication.description

-- It owns the mount, and has no session.
pub record IsAnnounced (conn : ℕ) (publication : Publication) (history : History) : Type 0 where
  pub owns : Owns conn publication history
  pub no_session : has_session conn history ≡ false

-- The mount has this number, this owner and the publication's path.
pub record IsMountOf (conn : ℕ) (publication : Publication) (number : ℕ) (mount : Mount) : Type 0 where
  pub number_is : mount.number ≡ number
  pub owner_is : mount.owner ≡ conn
  pub name_is : mount.name ≡ publication.target.path

-- It owns the mount, and has a session in this state, which began with a SETUP of the mount; the client was told the session's
-- identifier.
pub record IsInSession (seats conn : ℕ) (publication : Publication) (told : Option (List ℕ)) (state : State) (history : History) : Type 0 where
  pub owns : Owns conn publication history
  pub begin : Moment
  pub first : beginning conn (session_part conn history) ≡ Some begin
  pub of_mount : (mount : Mount) (track : ℕ) → SetUpAt seats conn mount track begin → IsMountOf conn publication owns.number mount
  pub word : ℕ
  pub word_is : word_of begin.entry ≡ Some word
  pub told_is : told ≡ Some (identifier_text (sessions_begun (begin.entry ∷ begin.before)) word)
  pub state_is : state_of (session_part conn history) ≡ Some state

-- The session is one to record on the mount of this number, in this state, and the client was told its identifier.
pub record IsToldSession (publication : Publication) (number : ℕ) (told : Option (List ℕ)) (state : State) (session : Session) : Type 0 where
  pub mount_is : session.mount ≡ number
  pub name_is : session.name ≡ publication.target.path
  pub recording_is : session.recording ≡ true
  pub state_is : session.state ≡ state
  pub told_is : told ≡ Some (identifier_of session)

abbrev pub IsSettingUp : (seats conn : ℕ) → Publication → (told : Option (List ℕ)) → History → Type 0
IsSettingUp seats conn publication told history = IsInSession seats conn publication told Ready history

abbrev pub IsRecording : (seats conn : ℕ) → Publication → (told : Option (List ℕ)) → History → Type 0
IsRecording seats conn publication told history = IsInSession seats conn publication told Recording history
