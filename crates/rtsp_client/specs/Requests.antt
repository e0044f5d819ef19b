-- The requests of a connection (RFC 2326, 12.17: CSeq).
use Rattle.std.specs.Prelude.{◌≡◌, ℕ, ◌+◌, ◌-◌, ◌<◌, ◌≤◌, Option, Some, None, IfSome, IsSomeAnd}
use Rattle.rtsp_client.specs.Classes.{HasClass}
use Rattle.rtsp_client.specs.Table.{lateness, verdict_of}
use Rattle.rtsp_client.specs.declared.asked.Asked.{Asked}
use Rattle.rtsp_client.specs.declared.asked.Late.{Late}
use Rattle.rtsp_client.specs.declared.requests.Outstanding.{Outstanding}
use Rattle.rtsp_client.specs.declared.requests.Requests.{Requests}
use Rattle.rtsp_client.specs.declared.requests.Reply.{Reply}
use Rattle.rtsp_client.specs.declared.requests.Reply.TheVariants.{Of, Other}
use Rattle.rtsp_client.specs.declared.status_class.StatusClass.{StatusClass}
use Rattle.rtsp_client.specs.declared.verdict.Verdict.{Verdict}
use Rattle.rtsp_client.specs.declared.verdict.Verdict.TheVariants as verdicts

-- nothing was asked for yet
abbrev pub none_asked : Requests
none_asked = record { next = 1; outstanding = None }

-- a request is sent at a moment: it has the next number, and the one after it the number after that
abbrev pub asked_now : Requests → Asked → (now : ℕ) → Requests
asked_now requests asked now = record { next = requests.next + 1; outstanding = Some (record { asked = asked; number = requests.next; sent = now }) }

-- a reply has the number of a request, or none
abbrev pub MayAnswer : (given : Option ℕ) → (number : ℕ) → Type 0
MayAnswer given number = IfSome given (λ it. it ≡ number)

-- what a status means for what was asked for
abbrev pub Means : (asked : Asked) → (status : ℕ) → Verdict → Type 0
Means asked status verdict = (class : StatusClass) × HasClass status class × (verdict ≡ verdict_of asked class)

-- what a reply is: that of the request that waits, if it may answer it
abbrev pub IsReply : Option Outstanding → (given : Option ℕ) → (status : ℕ) → Reply → Type 0
IsReply outstanding given status (Of asked verdict) =
    IsSomeAnd outstanding (λ waiting. MayAnswer given waiting.number × (asked ≡ waiting.asked) × Means asked status verdict)
IsReply outstanding given status Other = IfSome outstanding (λ waiting. MayAnswer given waiting.number → ⊥)

-- the request that was answered waits no longer, unless its reply is still to come
abbrev pub without_answered : Requests → Verdict → Requests
without_answered requests verdicts.Waits = requests
without_answered requests verdicts.GoesOn = record requests { outstanding = None }
without_answered requests verdicts.Follows = record requests { outstanding = None }
without_answered requests verdicts.LeavesOut = record requests { outstanding = None }
without_answered requests verdicts.Challenged = record requests { outstanding = None }
without_answered requests verdicts.TargetAsksPassword = record requests { outstanding = None }
without_answered requests verdicts.SessionGone = record requests { outstanding = None }
without_answered requests verdicts.UsesOptions = record requests { outstanding = None }
without_answered requests verdicts.Refused = record requests { outstanding = None }
without_answered requests verdicts.Over = record requests { outstanding = None }

abbrev pub without_request : Requests → Reply → Requests
without_request requests (Of asked verdict) = without_answered requests verdict
without_request requests Other = requests

-- what was asked for ten seconds ago or more, and what it means that there is no reply
abbrev pub IsLate : Option Outstanding → (now : ℕ) → Asked → Late → Type 0
IsLate outstanding now asked late =
    IsSomeAnd outstanding (λ waiting. (10000 ≤ now - waiting.sent) × (asked ≡ waiting.asked) × (late ≡ lateness asked))

-- nothing was
abbrev pub IsOnTime : Option Outstanding → (now : ℕ) → Type 0
IsOnTime outstanding now = IfSome outstanding (λ waiting. now - waiting.sent < 10000)
