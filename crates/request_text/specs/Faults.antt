-- Which requests can be sent, and why others can't.
use Rattle.std.specs.Prelude.{◌<◌, ◌≤◌, ℕ, List, Option, None, Some, length, codes}
use Rattle.std.specs.Option.{option_copied}
use Rattle.base_syntax.specs.Blanks.{HasBareEnds}
use Rattle.rtsp_message.specs.Limits.{body_limit, head_limit}
use Rattle.rtsp_message.specs.Lines.{Each, OneOrMore}
use Rattle.rtsp_message.specs.declared.byte_class.ByteClass.TheVariants.{Value, Visible}
use Rattle.request_text.specs.declared.fault.RequestFault.{RequestFault}
use Rattle.request_text.specs.declared.fault.RequestFault.TheVariants as faults
use Rattle.request_text.specs.declared.request_text.RequestText.{RequestText}
use Rattle.request_text.specs.Methods.{body_of, transport_of}
use Rattle.request_text.specs.Texts.{head_text, request_of}

-- The value of a field as its reader takes it: no byte that a value can't have, so no line end, and no blank at an end
-- (RFC 2326, 12; RFC 2068, 4.2).
pub record IsFieldValue (value : List ℕ) : Type 0 where
  pub bare : HasBareEnds value
  pub bytes : Each Value value

abbrev pub IsGivenValue : Option (List ℕ) → Type 0
IsGivenValue None = Unit {0}
IsGivenValue (Some value) = IsFieldValue value

-- Each value that a request was given can be that of a field.
pub record AreValues (request : RequestText) : Type 0 where
  pub transport : IsGivenValue (transport_of request.asked)
  pub session : IsGivenValue (option_copied request.session)
  pub authorization : IsGivenValue (option_copied request.authorization)

-- A request that can be sent: what its reader takes, within the reader's limits.
pub record IsSendable (request : RequestText) : Type 0 where
  pub uri : OneOrMore Visible request.uri.now
  pub values : AreValues request
  pub body : length (body_of request.asked) ≤ body_limit
  pub head : length (head_text (request_of request)) ≤ head_limit

-- what is wrong with a request that can't be sent
abbrev pub IsFault : RequestText → RequestFault → Type 0
IsFault request faults.Uri = ¬ OneOrMore Visible request.uri.now
IsFault request faults.Value = ¬ AreValues request
IsFault request faults.BodyTooLong = body_limit < length (body_of request.asked)
IsFault request faults.HeadTooLong = head_limit < length (head_text (request_of request))
IsFault request faults.OutOfMemory = Unit {0}

-- what is said of a fault
abbrev pub fault_text : RequestFault → List ℕ
fault_text faults.Uri = codes "the URI can't be sent"
fault_text faults.Value = codes "the value of a field can't be sent"
fault_text faults.BodyTooLong = codes "the body is too long"
fault_text faults.HeadTooLong = codes "the head is too long"
fault_text faults.OutOfMemory = codes "out of memory"
