-- What the requests of one connection are answered, one after another, in the history of that connection alone.
use Rattle.std.specs.Prelude.{◌≡◌, ℕ, List, [], ◌∷◌, ◌++◌, ◌⊎◌, Option, None, Some}
use Rattle.interleaved.specs.declared.frame.Frame.{Frame as StreamFrame}
use Rattle.rtsp_message.specs.declared.request.Request.{Request}
use Rattle.rtsp_message.specs.declared.reply.Reply.{Reply}
use Rattle.rtsp_message.specs.declared.status.Status.TheVariants as statuses
use Rattle.rtsp_message.specs.declared.unit.Unit.{Unit as StreamUnit}
use Rattle.rtsp_message.specs.declared.unit.Unit.TheVariants.{Message, Frame}
use Rattle.rtsp_message.specs.Reply.{reply_text, plain_text}
use Rattle.session_state.specs.declared.act.Act.{Act}
use Rattle.session_state.specs.declared.act.Act.TheVariants as acts
use Rattle.session_state.specs.declared.entry.Entry.TheVariants as entries
use Rattle.session_state.specs.declared.given.Given.{Given}
use Rattle.session_state.specs.History.{History}
use Rattle.session_state.specs.Legal.{IsBack, IsExpiry, IsHangUp, IsReplyOf}
use Rattle.relay_talk.specs.declared.talker.Talker.{Talker}

-- the connection has come, and nothing else has happened
abbrev pub opening : History
opening = entries.Connect 1 ∷ []

-- a request is handed in with this word and at this moment, without points
abbrev pub given_with : (word now : ℕ) → Given
given_with word now = record { word = word; points = []; now = now }

-- what stands in a reply's place where memory was refused for it
abbrev pub busy : Request → List ℕ
busy request = plain_text statuses.ServiceUnavailable request.cseq

-- a seat that is left is given back, where that may be
abbrev pub IsSettled : Act → History → History → Type 0
IsSettled (acts.Stop mount seat) history after =
    (IsBack history mount seat × (after ≡ entries.Back mount seat ∷ history)) ⊎ ((IsBack history mount seat → ⊥) × (after ≡ history))
IsSettled act history after = after ≡ history

-- the connection hangs up
abbrev pub IsLeft : History → History → Type 0
IsLeft history after = (act : Act) × IsHangUp 1 history 1 act × IsSettled act (entries.HangUp 1 act ∷ history) after

-- The session expires at this moment where the connection was last heard so long before, and what it has to do then is done.
-- Else nothing happens.
abbrev pub IsExpired : History → (heard now : ℕ) → History → Type 0
IsExpired history heard now after =
    ((act : Act) × IsExpiry 1 history 1 heard now act × IsSettled act (entries.Expire 1 heard now act ∷ history) after)
    ⊎ (((act : Act) → IsExpiry 1 history 1 heard now act → ⊥) × (after ≡ history))

-- A request is answered after a history: it is written down with its reply and act, and the act is carried out.
pub record IsAnswered (before : History) (request : Request) (given : Given) (after : History) (reply : Reply) : Type 0 where
  pub act : Act
  pub is_reply : IsReplyOf 1 before 1 request given reply act
  pub settled : IsSettled act (entries.Request 1 request given reply act ∷ before) after

-- What is written for a request: the text of its reply. Where memory was refused it is 503, for the text alone or for the
-- answer, which then isn't written down.
abbrev pub IsAnswer : (before : History) → Request → Given → (after : History) → List ℕ → Type 0
IsAnswer before request given after text =
    ((reply : Reply) × IsAnswered before request given after reply × ((text ≡ reply_text reply) ⊎ (text ≡ busy request)))
    ⊎ ((after ≡ before) × (text ≡ busy request))

-- How a talk stands: what has happened, and the moment of its last message, where no frame has come since.
pub record Standing : Type 0 where
  pub history : History
  pub heard : Option ℕ

abbrev pub beginning : Standing
beginning = record { history = opening; heard = None }

abbrev pub standing_of : Talker → Standing
standing_of talker = record { history = talker.book.history; heard = talker.heard }

-- no moment of a message stands behind a frame
abbrev pub heard_after : List StreamFrame → Option ℕ → Option ℕ
heard_after [] heard = heard
heard_after (frame ∷ frames) heard = None

abbrev pub after_frames : List StreamFrame → Standing → Standing
after_frames frames standing = record standing { heard = heard_after frames standing.heard }

-- When the connection was last heard where a message comes now: at the moment of the message before, and now where there was
-- none or a frame has come since.
abbrev pub heard_at : Option ℕ → (now : ℕ) → ℕ
heard_at None now = now
heard_at (Some moment) now = moment

-- A message comes: its session expires first, where it has, and then it is answered.
pub record IsMet (before : Standing) (request : Request) (given : Given) (after : Standing) (text : List ℕ) : Type 0 where
  pub between : History
  pub expired : IsExpired before.history (heard_at before.heard given.now) given.now between
  pub answer : IsAnswer between request given after.history text
  pub heard : after.heard ≡ Some given.now

-- the answers to the messages among the units, in order, each with a word and a moment of its own: frames have none
abbrev pub AreAnswers : (before : Standing) → List StreamUnit → List Given → (after : Standing) → List ℕ → Type 0
AreAnswers before [] given after text = (given ≡ []) × (after ≡ before) × (text ≡ [])
AreAnswers before (Message request ∷ units) given after text =
    (one : Given) × (later : List Given) × (between : Standing) × (first : List ℕ) × (others : List ℕ)
    × IsMet before request one between first × AreAnswers between units later after others × (given ≡ one ∷ later) × (text ≡ first ++ others)
AreAnswers before (Frame frame ∷ units) given after text = AreAnswers (after_frames (frame ∷ []) before) units given after text

-- a word and a moment are drawn for a request, and no points
abbrev pub Draws : {V N : Type 0} → (word_gives : V → ℕ → V → Type 0) → (moment_gives : N → ℕ → N → Type 0) → V × N → Given → V × N → Type 0
Draws word_gives moment_gives old given new = word_gives old.0 given.word new.0 × moment_gives old.1 given.now new.1 × (given.points ≡ [])

-- these were drawn, one after another
abbrev pub AreDrawn : {D : Type 0} → (gives : D → Given → D → Type 0) → D → List Given → D → Type 0
AreDrawn gives old [] new = new ≡ old
AreDrawn {D = D} gives old (one ∷ given) new = (between : D) × gives old one between × AreDrawn gives between given new
