-- What a connection is told: the replies to its requests, in order, and how the talk ends.
use Rattle.std.specs.Prelude.{◌≡◌, ℕ, ◌<◌, Bool, true, List, [], ◌++◌, ◌⊎◌, Option, None, length, take, codes, decimal}
use Rattle.std.specs.Io.KnownBytes.{Consumes, Appends, IsAtEnd}
use Rattle.rtsp_message.specs.declared.status.Status.{Status}
use Rattle.rtsp_message.specs.declared.status.Status.TheVariants as statuses
use Rattle.rtsp_message.specs.declared.fault.Fault.{Fault}
use Rattle.rtsp_message.specs.declared.fault.Fault.TheVariants.{BadLine, BadHeader, BadLength, HeadTooLong, BodyTooLong}
use Rattle.rtsp_message.specs.declared.unit.Unit.{Unit as StreamUnit}
use Rattle.rtsp_message.specs.Stream.{Ending, Waits, Fails, Reads, fault_of, fault_number}
use Rattle.rtsp_message.specs.Reply.{plain_text}
use Rattle.session_state.specs.declared.given.Given.{Given}
use Rattle.session_state.specs.Legal.{IsLegal}
use Rattle.relay_talk.specs.Exchange.{AreAnswers, AreDrawn, Standing, beginning}
use Rattle.relay_talk.specs.declared.talk.TalkEnd.{TalkEnd}
use Rattle.relay_talk.specs.declared.talk.TalkEnd.TheVariants as ends

-- what is said of a fault
abbrev pub status_of : Fault → Status
status_of BadLine = statuses.BadRequest
status_of BadHeader = statuses.BadRequest
status_of BadLength = statuses.BadRequest
status_of HeadTooLong = statuses.RequestEntityTooLarge
status_of BodyTooLong = statuses.RequestEntityTooLarge

-- the fixed text after the answers, where the stream has a fault
abbrev pub closing_of : Ending → List ℕ
closing_of (Waits rest) = []
closing_of (Fails fault) = plain_text (status_of fault) None

-- the fixed text where the reader was refused memory
abbrev pub refusal : List ℕ
refusal = plain_text statuses.ServiceUnavailable None

-- memory was refused to the reader for bytes that it holds, or for the connection before any byte was read
abbrev pub IsRefused : (read held : List ℕ) → Type 0
IsRefused read held = (0 < length held) ⊎ (read ≡ [])

-- What a talk was: the bytes that were read, of which some are held where memory was refused, their units, some of which
-- aren't answered after a failed write, and the words and moments, how the talk stands and the whole text that go with those
-- that are.
pub record Talk : Type 0 where
  pub read : List ℕ
  pub taken : List ℕ
  pub held : List ℕ
  pub units : List StreamUnit
  pub unanswered : List StreamUnit
  pub ending : Ending
  pub given : List Given
  pub standing : Standing
  pub answers : List ℕ
  pub closing : List ℕ

-- From this reader, which is left as the last one, the bytes were read that the units stand in. The answers are those of
-- a legal history of one connection, with the words and at the moments that were drawn.
pub record IsTalk {R D : Type 0} (incoming : R → Option (List ℕ)) (gives : D → Given → D → Type 0) (reader last : R) (draws drawn : D) (talk : Talk) : Type 0 where
  pub consumed : Consumes (incoming reader) (incoming last) talk.read
  pub parts : talk.read ≡ talk.taken ++ talk.held
  pub reads : Reads talk.taken (talk.units ++ talk.unanswered) talk.ending
  pub are_drawn : AreDrawn gives draws talk.given drawn
  pub are_answers : AreAnswers beginning talk.units talk.given talk.standing talk.answers
  pub legal : IsLegal 1 talk.standing.history
  pub closing_is : (talk.closing ≡ []) ⊎ ((talk.unanswered ≡ []) × ((talk.closing ≡ closing_of talk.ending) ⊎ ((talk.closing ≡ refusal) × IsRefused talk.read talk.held)))

module _ {R W D : Type 0} (incoming : R → Option (List ℕ)) (read_failed : R → Bool) (written : W → Option (List ℕ)) (write_failed : W → Bool) (gives : D → Given → D → Type 0) where
  -- each message was answered, and all that is due was written
  abbrev pub WritesAll : Talk → W → W → Type 0
  WritesAll talk old new = (talk.unanswered ≡ []) × Appends (written old) (written new) (talk.answers ++ talk.closing)

  -- how a talk ended, and what was written
  abbrev pub EndsSo : (last : R) → Talk → W → W → TalkEnd → Type 0
  EndsSo last talk old new ends.Done =
      WritesAll talk old new × (fault_of talk.ending ≡ None) × (talk.closing ≡ []) × (talk.held ≡ []) × IsAtEnd (incoming last)
  EndsSo last talk old new (ends.StreamFault fault) = WritesAll talk old new × (talk.ending ≡ Fails fault) × (talk.closing ≡ closing_of talk.ending)
  EndsSo last talk old new ends.ReadFailed =
      WritesAll talk old new × (fault_of talk.ending ≡ None) × (talk.closing ≡ []) × (talk.held ≡ []) × (read_failed last ≡ true)
  EndsSo last talk old new ends.OutOfMemory = WritesAll talk old new × (fault_of talk.ending ≡ None) × (talk.closing ≡ refusal) × IsRefused talk.read talk.held
  EndsSo last talk old new ends.WriteFailed =
      (write_failed new ≡ true) × (n : ℕ) × (n < length (talk.answers ++ talk.closing)) × Appends (written old) (written new) (take n (talk.answers ++ talk.closing))

  -- What is written is, for each message of the stream read, its answer, then the fixed text of the fault if there is
  -- one. The reader is left as the last one, and the words and moments as those drawn leave them.
  abbrev pub Talks : (reader last : R) → (draws drawn : D) → W → W → TalkEnd → Type 0
  Talks reader last draws drawn old new end = (talk : Talk) × IsTalk incoming gives reader last draws drawn talk × EndsSo last talk old new end

-- the exit status of a talk
abbrev pub exit_status : TalkEnd → ℕ
exit_status ends.Done = 0
exit_status (ends.StreamFault fault) = 1
exit_status ends.ReadFailed = 1
exit_status ends.WriteFailed = 1
exit_status ends.OutOfMemory = 1

-- the line on standard error after it
abbrev pub exit_line : TalkEnd → List ℕ
exit_line ends.Done = []
exit_line (ends.StreamFault fault) = codes "relay: stream fault " ++ decimal (fault_number fault)
exit_line ends.ReadFailed = codes "relay: read failed"
exit_line ends.WriteFailed = codes "relay: write failed"
exit_line ends.OutOfMemory = codes "relay: out of memory"

module _ {R W D : Type 0} (incoming : R → Option (List ℕ)) (read_failed : R → Bool) (written : W → Option (List ℕ)) (write_failed : W → Bool) (gives : D → Given → D → Type 0) where
  -- one connection is answered, and this status and this line tell how it ended
  abbrev pub DoesTalk : R → (draws drawn : D) → W → W → ℕ → List ℕ → Type 0
  DoesTalk reader draws drawn old new status line =
      (last : R) × (end : TalkEnd) × Talks incoming read_failed written write_failed gives reader last draws drawn old new end × (status ≡ exit_status end) × (line ≡ exit_line end)

  -- one connection is answered, however it ended
  abbrev pub IsTalked : R → (draws drawn : D) → W → W → Type 0
  IsTalked reader draws drawn old new = (last : R) × (end : TalkEnd) × Talks incoming read_failed written write_failed gives reader last draws drawn old new end
