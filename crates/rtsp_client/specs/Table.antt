-- What a client asks for, and what each reply means for it (RFC 2326, A.1): a row for each request, a column for each class of status.
use Rattle.rtsp_client.specs.declared.asked.Side.{Side}
use Rattle.rtsp_client.specs.declared.asked.Side.TheVariants.{Source, Target}
use Rattle.rtsp_client.specs.declared.asked.Asked.{Asked}
use Rattle.rtsp_client.specs.declared.asked.Asked.TheVariants.{Options, Describe, SetUp, Announce, SetUpTarget, Record, Play, KeepAlive, TearDown}
use Rattle.rtsp_client.specs.declared.asked.Late.{Late}
use Rattle.rtsp_client.specs.declared.asked.Late.TheVariants as late
use Rattle.rtsp_client.specs.declared.status_class.StatusClass.{StatusClass}
use Rattle.rtsp_client.specs.declared.status_class.StatusClass.TheVariants.{Provisional, Success, Moved, OtherRedirect, Unauthorized, NoSession, Refusal}
use Rattle.rtsp_client.specs.declared.verdict.Verdict.{Verdict}
use Rattle.rtsp_client.specs.declared.verdict.Verdict.TheVariants.{Waits, GoesOn, Follows, LeavesOut, Challenged, TargetAsksPassword, SessionGone, UsesOptions, Refused, Over}

-- the server that a request goes to
abbrev pub side_of : Asked → Side
side_of Options = Source
side_of Describe = Source
side_of SetUp = Source
side_of Announce = Target
side_of SetUpTarget = Target
side_of Record = Target
side_of Play = Source
side_of (KeepAlive side) = side
side_of (TearDown side) = side

-- what it means that there is no reply
abbrev pub lateness : Asked → Late
lateness Options = late.Ends
lateness Describe = late.Ends
lateness SetUp = late.Ends
lateness Announce = late.Ends
lateness SetUpTarget = late.Ends
lateness Record = late.Ends
lateness Play = late.Ends
lateness (KeepAlive side) = late.UsesOptions
lateness (TearDown side) = late.Over

-- One row of the table: what a reply means by its class. A provisional one means nothing yet.
abbrev pub row : (done elsewhere odd locked gone rest : Verdict) → StatusClass → Verdict
row done elsewhere odd locked gone rest Provisional = Waits
row done elsewhere odd locked gone rest Success = done
row done elsewhere odd locked gone rest Moved = elsewhere
row done elsewhere odd locked gone rest OtherRedirect = odd
row done elsewhere odd locked gone rest Unauthorized = locked
row done elsewhere odd locked gone rest NoSession = gone
row done elsewhere odd locked gone rest Refusal = rest

-- the table: after success, 301 and 302, another redirect, 401, 454, any other
abbrev pub verdict_of : Asked → StatusClass → Verdict
verdict_of Options = row GoesOn GoesOn GoesOn Challenged GoesOn GoesOn
verdict_of Describe = row GoesOn Follows Refused Challenged Refused Refused
verdict_of SetUp = row GoesOn LeavesOut LeavesOut Challenged LeavesOut LeavesOut
verdict_of Announce = row GoesOn Refused Refused TargetAsksPassword Refused Refused
verdict_of SetUpTarget = row GoesOn Refused Refused TargetAsksPassword Refused Refused
verdict_of Record = row GoesOn Refused Refused TargetAsksPassword Refused Refused
verdict_of Play = row GoesOn Refused Refused Challenged Refused Refused
verdict_of (KeepAlive Source) = row GoesOn UsesOptions UsesOptions Challenged SessionGone UsesOptions
verdict_of (KeepAlive Target) = row GoesOn UsesOptions UsesOptions TargetAsksPassword SessionGone UsesOptions
verdict_of (TearDown side) = row Over Over Over Over Over Over
