-- The course of publishing: in what order a client asks, whatever others ask between (RFC 2326, A.1).
use Rattle.std.specs.Prelude.{◌≡◌, ◌<◌, ℕ, ◌+◌, ◌-◌, ◌^◌, ◌==◌, ◌⊎◌, Bool, false, List, [], ◌∷◌, ◌++◌, Option, None}
use Rattle.std.specs.List.{AllByRecursion}
use Rattle.rtsp_message.specs.declared.reply.Reply.{Reply}
use Rattle.rtsp_message.specs.Reply.{code_of}
use Rattle.session_state.specs.declared.act.Act.{Act}
use Rattle.session_state.specs.declared.given.Given.{Given}
use Rattle.session_state.specs.declared.entry.Entry.{Entry}
use Rattle.session_state.specs.declared.entry.Entry.TheVariants.{Connect, Request, HangUp, Back, Expire}
use Rattle.session_state.specs.History.{History}
use Rattle.session_state.specs.Lookups.{sessions_begun}
use Rattle.request_text.specs.declared.request_text.RequestText.{RequestText}
use Rattle.request_text.specs.Texts.{request_of}
use Rattle.client_laws.specs.Phases.{IsAnnounced, IsFresh, IsRecording, IsSettingUp}
use Rattle.client_laws.specs.Publishing.{AsksAnnounce, AsksOptions, AsksRecord, AsksSetup, AsksTeardown, HasPlace, Publication, track_count}

-- How far a client has come: how many of its tracks are set up, and the Session field that it was told.
pub data Stage : Type 0 where
  Fresh : Stage
  Announced : Stage
  SettingUp : (tracks : ℕ) → (told : Option (List ℕ)) → Stage
  Recording : (told : Option (List ℕ)) → Stage
  Ended : Stage

-- what a history tells of a connection at a stage
abbrev pub IsAt : (seats conn : ℕ) → Publication → History → Stage → Type 0
IsAt seats conn publication history Fresh = IsFresh conn history
IsAt seats conn publication history Announced = IsAnnounced conn publication history
IsAt seats conn publication history (SettingUp tracks told) = IsSettingUp seats conn publication told history
IsAt seats conn publication history (Recording told) = IsRecording seats conn publication told history
IsAt seats conn publication history Ended = Unit {0}

-- whose entry it is: that of this connection
abbrev pub is_of : ℕ → Entry → Bool
is_of conn (Connect who) = who == conn
is_of conn (Request who request given reply act) = who == conn
is_of conn (HangUp who act) = who == conn
is_of conn (Back mount seat) = false
is_of conn (Expire who heard now act) = who == conn

module _ (seats conn : ℕ) (publication : Publication) where
  -- What the client asks next after a history, and how far it has come with the reply: ANNOUNCE where the server has a place
  -- for the mount, SETUP of each track in order where a session's number is left, RECORD, any number of OPTIONS; TEARDOWN once a
  -- track is set up.
  abbrev pub Moves : (before : History) → (from : Stage) → RequestText → Reply → (to : Stage) → Type 0
  Moves before Fresh request reply to = AsksAnnounce publication request × HasPlace seats before publication.target.path × (to ≡ Announced)
  Moves before Announced request reply to =
      AsksSetup publication 0 None request × (0 < track_count publication) × (sessions_begun before < 2 ^ 32 - 1) × (to ≡ SettingUp 1 reply.fields.session)
  Moves before (SettingUp tracks told) request reply to =
      (AsksSetup publication tracks told request × (tracks < track_count publication) × (to ≡ SettingUp (tracks + 1) told))
      ⊎ ((AsksRecord publication told request × (tracks ≡ track_count publication) × (to ≡ Recording told))
      ⊎ (AsksTeardown publication told request × (to ≡ Ended)))
  Moves before (Recording told) request reply to =
      (AsksOptions publication told request × (to ≡ Recording told)) ⊎ (AsksTeardown publication told request × (to ≡ Ended))
  Moves before Ended request reply to = ⊥

  -- An entry is such a request of the connection.
  pub record IsMove (before : History) (entry : Entry) (from to : Stage) : Type 0 where
    pub request : RequestText
    pub given : Given
    pub reply : Reply
    pub act : Act
    pub is : entry ≡ Request conn (request_of request) given reply act
    pub moves : Moves before from request reply to

  -- Since `start` the connection has come this far: each entry is another connection's, or such a request. None is its hang-up
  -- or its expiry.
  abbrev pub Publishes : (later start : History) → Stage → Type 0
  Publishes [] start stage = stage ≡ Fresh
  Publishes (entry ∷ later) start stage =
      ((is_of conn entry ≡ false) × Publishes later start stage)
      ⊎ ((from : Stage) × IsMove (later ++ start) entry from stage × Publishes later start from)

-- if the entry is a request of this connection, it was answered 200
abbrev pub IsAnsweredOk : (conn : ℕ) → Entry → Type 0
IsAnsweredOk conn (Request who request given reply act) = who ≡ conn → code_of reply.status ≡ 200
IsAnsweredOk conn entry = Unit {0}

-- each request of the connection among these entries was answered 200
abbrev pub AreAnsweredOk : (conn : ℕ) → List Entry → Type 0
AreAnsweredOk conn entries = AllByRecursion (IsAnsweredOk conn) entries
