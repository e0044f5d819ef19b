-- Which 401 is answered, and with what (RFC 7616, 3.3: stale; 3.4: nc).
use Rattle.std.specs.Prelude.{ℕ, if◌then◌else◌, ◌==◌, ◌+◌, ◌-◌, ◌^◌, ◌||◌, ◌&&◌, not, Bool, true, false, List, Option, None, Some, codes}
use Rattle.std.specs.Str.{bytes_eq}
use Rattle.rtsp_auth.specs.declared.answer.Answer.{Answer}
use Rattle.rtsp_auth.specs.declared.answer.Answer.TheVariants as answers
use Rattle.rtsp_auth.specs.declared.answer.DigestAnswer.{DigestAnswer}
use Rattle.rtsp_auth.specs.declared.answer.NonceUse.{NonceUse}
use Rattle.rtsp_auth.specs.declared.attempt.Attempt.{Attempt}
use Rattle.rtsp_auth.specs.declared.challenge.Challenge.{Challenge}
use Rattle.rtsp_auth.specs.declared.challenge.Challenge.TheVariants as challenges
use Rattle.rtsp_auth.specs.declared.challenge.DigestChallenge.{DigestChallenge}
use Rattle.rtsp_auth.specs.declared.credentials.Credentials.{Credentials}
use Rattle.rtsp_auth.specs.declared.field_fault.FieldFault.{FieldFault}
use Rattle.rtsp_auth.specs.declared.field_fault.FieldFault.TheVariants as faults
use Rattle.rtsp_auth.specs.declared.request.Request.{Request}
use Rattle.rtsp_auth.specs.Answers.{basic_text, digest_text}
use Rattle.rtsp_auth.specs.Faults.{text_fault}
use Rattle.rtsp_auth.specs.Credentials.{is_home}

-- the server wants the same password with another nonce: it says that the old one is stale, or its nonce is a new one
abbrev pub is_renewal : (sent : DigestChallenge) → DigestChallenge → Bool
is_renewal sent challenge = challenge.is_stale || not (bytes_eq sent.nonce challenge.nonce)

-- A challenge says more than that the password is refused: no password was sent, or it is renewed. An answer of Basic has no nonce to
-- renew, and a refused answer of Digest isn't followed by one of Basic, which is weaker.
abbrev pub is_open : Answer → Challenge → Bool
is_open answers.Nothing challenge = true
is_open answers.Basic challenge = false
is_open (answers.Digest sent) challenges.Basic = false
is_open (answers.Digest sent) (challenges.Digest challenge) = is_renewal sent.challenge challenge

-- Basic shows the password (RFC 7617, 4), so it goes to no host but that of the credentials
abbrev pub may_go : Challenge → Credentials → Request → Bool
may_go challenges.Basic credentials request = is_home credentials request
may_go (challenges.Digest challenge) credentials request = true

-- A 401 for a request is answered if no other 401 for this request was.
abbrev pub is_answered : Attempt → Challenge → Credentials → Request → Bool
is_answered attempt challenge credentials request =
    (not attempt.is_spent && is_open attempt.answer challenge) && may_go challenge credentials request

-- how many requests were sent with the nonce before the last one, if it is this nonce
abbrev pub count_before : Option NonceUse → (nonce : List ℕ) → ℕ
count_before None nonce = 0
count_before (Some earlier) nonce = if bytes_eq earlier.nonce nonce then earlier.count else 0

-- How many requests were sent with a nonce: the last one, or the one before it. Of no other nonce is a count kept.
abbrev pub count_of : DigestAnswer → (nonce : List ℕ) → ℕ
count_of sent nonce = if bytes_eq sent.challenge.nonce nonce then sent.count else count_before sent.before nonce

-- the nonce that was used last before this one
abbrev pub nonce_before : DigestAnswer → (nonce : List ℕ) → Option NonceUse
nonce_before sent nonce =
    if bytes_eq sent.challenge.nonce nonce then sent.before
    else Some (record { nonce = sent.challenge.nonce; count = sent.count })

-- the first challenge that is answered, and the next one
abbrev pub first_answer : DigestChallenge → DigestAnswer
first_answer challenge = record { challenge = challenge; count = 0; before = None }

abbrev pub next_answer : DigestAnswer → DigestChallenge → DigestAnswer
next_answer sent challenge = record {
  challenge = challenge;
  count = count_of sent challenge.nonce;
  before = nonce_before sent challenge.nonce;
}

abbrev pub digest_after : Answer → DigestChallenge → DigestAnswer
digest_after answers.Nothing challenge = first_answer challenge
digest_after answers.Basic challenge = first_answer challenge
digest_after (answers.Digest sent) challenge = next_answer sent challenge

-- what the next requests are sent with, once this challenge is answered
abbrev pub answer_after : Answer → Challenge → Answer
answer_after before challenges.Basic = answers.Basic
answer_after before (challenges.Digest challenge) = answers.Digest (digest_after before challenge)

abbrev pub answered : Attempt → Challenge → Attempt
answered attempt challenge = record { answer = answer_after attempt.answer challenge; is_spent = true }

-- another request begins: its first 401 can be answered
abbrev pub begun : Attempt → Attempt
begun attempt = record attempt { is_spent = false }

-- one more request is sent with the nonce
abbrev pub one_more : DigestAnswer → DigestAnswer
one_more sent = record sent { count = sent.count + 1 }

abbrev pub sent_once_more : Answer → Answer
sent_once_more answers.Nothing = answers.Nothing
sent_once_more answers.Basic = answers.Basic
sent_once_more (answers.Digest sent) = answers.Digest (one_more sent)

abbrev pub sent : Attempt → Attempt
sent attempt = record attempt { answer = sent_once_more attempt.answer }

-- whether a request has an Authorization field
abbrev pub has_field : Answer → Credentials → Request → Bool
has_field answers.Nothing credentials request = false
has_field answers.Basic credentials request = is_home credentials request
has_field (answers.Digest sent) credentials request = true

-- the value of that field: an answer of Digest has the count of its own request
abbrev pub field_text : Answer → Credentials → Request → (cnonce : List ℕ) → List ℕ
field_text answers.Nothing credentials request cnonce = codes ""
field_text answers.Basic credentials request cnonce = if is_home credentials request then basic_text credentials else codes ""
field_text (answers.Digest sent) credentials request cnonce = digest_text sent.challenge credentials request sent.count cnonce

-- nc has eight hexadecimal digits
abbrev pub is_last_count : DigestAnswer → Bool
is_last_count sent = sent.count == 2 ^ 32 - 1

-- why the field of one more request can't be written
abbrev pub field_fault : Answer → Credentials → Request → (cnonce : List ℕ) → Option FieldFault
field_fault answers.Nothing credentials request cnonce = None
field_fault answers.Basic credentials request cnonce = if is_home credentials request then text_fault (basic_text credentials) else None
field_fault (answers.Digest sent) credentials request cnonce =
    if is_last_count sent then Some faults.LastCount
    else text_fault (digest_text sent.challenge credentials request (sent.count + 1) cnonce)
