-- The requests of a client in the history of the relay that it publishes at.
use Rattle.std.specs.Prelude.{◌≡◌, ◌<◌, ◌-◌, ◌^◌, ◌⊎◌, ℕ, false, List, [], ◌∷◌, ◌++◌, Option, Some, None}
use Rattle.std.specs.List.{AllByRecursion}
use Rattle.rtsp_message.specs.declared.reply.Reply.{Reply}
use Rattle.session_state.specs.declared.act.Act.{Act}
use Rattle.session_state.specs.declared.given.Given.{Given}
use Rattle.session_state.specs.declared.entry.Entry.{Entry}
use Rattle.session_state.specs.declared.entry.Entry.TheVariants.{Request}
use Rattle.session_state.specs.History.{History}
use Rattle.session_state.specs.Lookups.{sessions_begun}
use Rattle.request_text.specs.declared.request_text.RequestText.{RequestText}
use Rattle.request_text.specs.Texts.{request_of}
use Rattle.rtsp_client.specs.TargetCourse.{Asking}
use Rattle.rtsp_client.specs.declared.asked.Asked.{Asked}
use Rattle.rtsp_client.specs.declared.asked.Asked.TheVariants as asks
use Rattle.client_requests.specs.Requests.{IsText, request_for}
use Rattle.client_requests.specs.declared.places.Places.{Places}
use Rattle.client_laws.specs.Course.{is_of}
use Rattle.client_laws.specs.Publishing.{HasPlace, Publication}

-- The request is the one that `client_requests` makes of what the client asks, at the publication's URI, with its description and
-- with the Session header that the client says.
pub record IsMadeOf (publication : Publication) (asking : Asking) (request : RequestText) : Type 0 where
  pub places : Places
  pub target_is : places.target.now ≡ publication.uri
  pub description_is : places.description.now ≡ publication.body
  pub authorization : Option (List ℕ)
  pub text : IsText (request_for asking.ask places) asking.session authorization request

-- The Session header of each request that has one is this identifier.
abbrev pub HaveIdentifier : (id : List ℕ) → List Asking → Type 0
HaveIdentifier id askings = AllByRecursion (λ (asking : Asking). (session : List ℕ) → asking.session ≡ Some session → session ≡ id) askings

module _ (seats conn : ℕ) (publication : Publication) (id : List ℕ) where
  -- SETUP without a Session header is the first: a session's number is left, and the reply gives the client the identifier
  abbrev pub BeginsSession : (session : Option (List ℕ)) → (before : History) → Reply → Type 0
  BeginsSession None before reply = (sessions_begun before < 2 ^ 32 - 1) × (reply.fields.session ≡ Some id)
  BeginsSession (Some session) before reply = Unit {0}

  -- what the relay has room for when a request comes: the mount at ANNOUNCE, a session at the first SETUP
  abbrev pub HasRoomFor : Asked → (session : Option (List ℕ)) → (before : History) → Reply → Type 0
  HasRoomFor asks.Options session before reply = Unit {0}
  HasRoomFor asks.Describe session before reply = Unit {0}
  HasRoomFor asks.SetUp session before reply = Unit {0}
  HasRoomFor asks.Announce session before reply = HasPlace seats before publication.target.path
  HasRoomFor asks.SetUpTarget session before reply = BeginsSession session before reply
  HasRoomFor asks.Record session before reply = Unit {0}
  HasRoomFor asks.Play session before reply = Unit {0}
  HasRoomFor (asks.KeepAlive side) session before reply = Unit {0}
  HasRoomFor (asks.TearDown side) session before reply = Unit {0}

  -- An entry is a request of the connection that is made of what the client asks.
  pub record IsAskedBy (before : History) (entry : Entry) (asking : Asking) : Type 0 where
    pub request : RequestText
    pub given : Given
    pub reply : Reply
    pub act : Act
    pub is : entry ≡ Request conn (request_of request) given reply act
    pub made : IsMadeOf publication asking request
    pub room : HasRoomFor asking.ask.asked asking.session before reply

  -- Since `start` the entries of the connection are these requests of the client, each once and in order; each other entry is
  -- another connection's. None is the connection's hang-up or its expiry. The last of both is the first of its list.
  abbrev pub AreAskedBy : (later start : History) → List Asking → Type 0
  AreAskedBy [] start askings = askings ≡ []
  AreAskedBy (entry ∷ later) start askings =
      ((is_of conn entry ≡ false) × AreAskedBy later start askings)
      ⊎ ((asking : Asking) × (before : List Asking) × (askings ≡ asking ∷ before) × IsAskedBy (later ++ start) entry asking × AreAskedBy later start before)
