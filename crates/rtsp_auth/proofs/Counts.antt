-- The counts of the last two nonces.
use Rattle.std.proofs.Common.{◌≡◌, ◌≢◌, ◌+◌, ℕ, true, false, List, Option, Some, refl, ap, sym, ◌∙◌, ⊎_elim}
use Rattle.std.specs.Str.{bytes_eq}
use Rattle.std.proofs.lemmas.Bool.{cases_Bool, cond-false, cond-true, true≢false}
use Rattle.std.proofs.lemmas.Slice.Eq.{bytes_eq-Decides}
use Rattle.rtsp_auth.specs.declared.answer.DigestAnswer.{DigestAnswer}
use Rattle.rtsp_auth.specs.declared.answer.NonceUse.{NonceUse}
use Rattle.rtsp_auth.specs.declared.challenge.DigestChallenge.{DigestChallenge}
use Rattle.rtsp_auth.specs.Attempts.{count_before, count_of, next_answer, nonce_before, one_more}

same : (one other : List ℕ) → one ≡ other → bytes_eq one other ≡ true
same one other e = (bytes_eq-Decides one other).1 e

differs : (one other : List ℕ) → one ≢ other → bytes_eq one other ≡ false
differs one other apart = ⊎_elim
    (λ same. absurd (apart ((bytes_eq-Decides one other).0 same)))
    (λ differs. differs)
    (cases_Bool (bytes_eq one other))

of_last : (sent : DigestAnswer) (nonce : List ℕ) → sent.challenge.nonce ≡ nonce → count_of sent nonce ≡ sent.count
of_last sent nonce e = cond-true _ _ _ (same sent.challenge.nonce nonce e)

of_other : (sent : DigestAnswer) (nonce : List ℕ) → sent.challenge.nonce ≢ nonce → count_of sent nonce ≡ count_before sent.before nonce
of_other sent nonce apart = cond-false _ _ _ (differs sent.challenge.nonce nonce apart)

pub raised : (sent : DigestAnswer) → count_of (one_more sent) sent.challenge.nonce ≡ count_of sent sent.challenge.nonce + 1
raised sent =
    of_last (one_more sent) sent.challenge.nonce refl ∙ ap (λ (count : ℕ). count + 1) (sym (of_last sent sent.challenge.nonce refl))

pub others : (sent : DigestAnswer) (nonce : List ℕ) → sent.challenge.nonce ≢ nonce → count_of (one_more sent) nonce ≡ count_of sent nonce
others sent nonce apart = of_other (one_more sent) nonce apart ∙ sym (of_other sent nonce apart)

-- the nonce before another one has the count that it had
abbrev last_use : DigestAnswer → NonceUse
last_use sent = record { nonce = sent.challenge.nonce; count = sent.count }

before_is : (sent : DigestAnswer) (nonce : List ℕ) → sent.challenge.nonce ≢ nonce → nonce_before sent nonce ≡ Some (last_use sent)
before_is sent nonce apart = cond-false _ _ _ (differs sent.challenge.nonce nonce apart)

counted : (sent : DigestAnswer) (nonce : List ℕ) → sent.challenge.nonce ≢ nonce → count_before (nonce_before sent nonce) sent.challenge.nonce ≡ sent.count
counted sent nonce apart =
    ap (λ (before : Option NonceUse). count_before before sent.challenge.nonce) (before_is sent nonce apart)
    ∙ cond-true _ _ _ (same sent.challenge.nonce sent.challenge.nonce refl)

pub last : (sent : DigestAnswer) (challenge : DigestChallenge) → count_of (next_answer sent challenge) sent.challenge.nonce ≡ sent.count
last sent challenge = ⊎_elim
    (λ here.
    let e : sent.challenge.nonce ≡ challenge.nonce = (bytes_eq-Decides sent.challenge.nonce challenge.nonce).0 here in
    of_last (next_answer sent challenge) sent.challenge.nonce (sym e) ∙ of_last sent challenge.nonce e)
    (λ elsewhere.
    let apart : sent.challenge.nonce ≢ challenge.nonce = λ e. absurd (true≢false (sym (same sent.challenge.nonce challenge.nonce e) ∙ elsewhere)) in
    of_other (next_answer sent challenge) sent.challenge.nonce (λ e. apart (sym e)) ∙ counted sent challenge.nonce apart)
    (cases_Bool (bytes_eq sent.challenge.nonce challenge.nonce))

pub back : (sent : DigestAnswer) (other again : DigestChallenge) (times : ℕ) → sent.challenge.nonce ≢ other.nonce → again.nonce ≡ sent.challenge.nonce
    → (next_answer (record (next_answer sent other) { count = times }) again).count ≡ sent.count
back sent other again times apart e =
    let middle : DigestAnswer = record (next_answer sent other) { count = times } in
    ap (count_of middle) e ∙ of_other middle sent.challenge.nonce (λ same. apart (sym same)) ∙ counted sent other.nonce apart
