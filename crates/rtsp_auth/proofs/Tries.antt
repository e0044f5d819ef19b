-- How often a password is tried.
use Rattle.std.proofs.Common.{◌≡◌, ◌||◌, ◌&&◌, ◌≢◌, ℕ, Bool, true, false, cond, List, [], ◌∷◌, refl, ap, ◌∙◌, ⊎_elim}
use Rattle.std.specs.Prelude.{not}
use Rattle.std.specs.Str.{bytes_eq}
use Rattle.std.proofs.lemmas.Bool.{and_right, cases_Bool, cond-false}
use Rattle.std.proofs.lemmas.Slice.Eq.{bytes_eq-Decides}
use Rattle.rtsp_auth.specs.declared.answer.Answer.TheVariants as answers
use Rattle.rtsp_auth.specs.declared.answer.DigestAnswer.{DigestAnswer}
use Rattle.rtsp_auth.specs.declared.attempt.Attempt.{Attempt}
use Rattle.rtsp_auth.specs.declared.challenge.Challenge.{Challenge}
use Rattle.rtsp_auth.specs.declared.challenge.Challenge.TheVariants as challenges
use Rattle.rtsp_auth.specs.declared.challenge.DigestChallenge.{DigestChallenge}
use Rattle.rtsp_auth.specs.declared.credentials.Credentials.{Credentials}
use Rattle.rtsp_auth.specs.declared.request.Request.{Request}
use Rattle.rtsp_auth.specs.Attempts.{answered, begun, field_text, is_answered, is_open, is_renewal, may_go, sent}
use Rattle.rtsp_auth.specs.Credentials.{is_home}
use Rattle.rtsp_auth.specs.Trials.{Event, IsRefused, IsSent, step, steps}

abbrev IsSpent : Attempt → Type 0
IsSpent attempt = attempt.is_spent ≡ true

either : (test : Bool) (one other : Attempt) → IsSpent one → IsSpent other → IsSpent (cond test one other)
either true one other h k = h
either false one other h k = k

stays_spent : (events : List Event) (attempt : Attempt) (credentials : Credentials) (request : Request) → IsSpent attempt → IsSpent (steps attempt credentials request events)
stays_spent [] attempt credentials request h = h
stays_spent (IsSent ∷ events) attempt credentials request h = stays_spent events (sent attempt) credentials request h
stays_spent (IsRefused challenge ∷ events) attempt credentials request h =
    stays_spent events (step attempt credentials request (IsRefused challenge)) credentials request
    (either (is_answered attempt challenge credentials request) (answered attempt challenge) attempt refl h)

spent : (attempt : Attempt) (challenge : Challenge) (credentials : Credentials) (request : Request) → IsSpent attempt → is_answered attempt challenge credentials request ≡ false
spent attempt challenge credentials request h =
    ap (λ (spent : Bool). (not spent && is_open attempt.answer challenge) && may_go challenge credentials request) h

pub once : (attempt : Attempt) (first next : Challenge) (credentials : Credentials) (request : Request) (events : List Event)
    → is_answered (steps (answered attempt first) credentials request events) next credentials request ≡ false
once attempt first next credentials request events =
    spent (steps (answered attempt first) credentials request events) next credentials request (stays_spent events (answered attempt first) credentials request refl)

or_true : (test : Bool) → (test || true) ≡ true
or_true true = refl
or_true false = refl

differs : (sent challenge : DigestChallenge) → sent.nonce ≢ challenge.nonce → bytes_eq sent.nonce challenge.nonce ≡ false
differs sent challenge other = ⊎_elim
    (λ same. absurd (other ((bytes_eq-Decides sent.nonce challenge.nonce).0 same)))
    (λ differs. differs)
    (cases_Bool (bytes_eq sent.nonce challenge.nonce))

renewed : (sent challenge : DigestChallenge) → sent.nonce ≢ challenge.nonce → is_renewal sent challenge ≡ true
renewed sent challenge other = ap (λ (same : Bool). challenge.is_stale || not same) (differs sent challenge other) ∙ or_true challenge.is_stale

pub again : (attempt : Attempt) (sent : DigestAnswer) (challenge : DigestChallenge) (credentials : Credentials) (request : Request)
    → attempt.answer ≡ answers.Digest sent → sent.challenge.nonce ≢ challenge.nonce → is_answered (begun attempt) (challenges.Digest challenge) credentials request ≡ true
again attempt sent challenge credentials request e other =
    ap (λ answer. is_open answer (challenges.Digest challenge) && true) e ∙ ap (λ (test : Bool). test && true) (renewed sent.challenge challenge other)

not_renewed : (sent challenge : DigestChallenge) → challenge.is_stale ≡ false → sent.nonce ≡ challenge.nonce → is_renewal sent challenge ≡ false
not_renewed sent challenge fresh e =
    let same : bytes_eq sent.nonce challenge.nonce ≡ true = (bytes_eq-Decides sent.nonce challenge.nonce).1 e in
    ap (λ (stale : Bool). stale || not (bytes_eq sent.nonce challenge.nonce)) fresh ∙ ap not same

pub same_nonce : (sent : DigestAnswer) (challenge : DigestChallenge) → challenge.is_stale ≡ false → sent.challenge.nonce ≡ challenge.nonce
    → is_open (answers.Digest sent) (challenges.Digest challenge) ≡ false
same_nonce sent challenge fresh e = not_renewed sent.challenge challenge fresh e

-- Basic, and another host
pub not_home : (attempt : Attempt) (credentials : Credentials) (request : Request) → is_home credentials request ≡ false
    → is_answered attempt challenges.Basic credentials request ≡ false
not_home attempt credentials request away = and_right (not attempt.is_spent && is_open attempt.answer challenges.Basic) (is_home credentials request) away

pub not_written : (credentials : Credentials) (request : Request) (cnonce : List ℕ) → is_home credentials request ≡ false → field_text answers.Basic credentials request cnonce ≡ []
not_written credentials request cnonce away = cond-false _ _ _ away
