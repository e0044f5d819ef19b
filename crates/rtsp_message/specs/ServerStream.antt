-- The stream of a server, as a client reads it: replies, requests of the server's own, and frames (RFC 2326, 4, 7, 10 and 10.12).
use Rattle.std.specs.Prelude.{◌≡◌, ◌≤◌, ℕ, List, ◌++◌, if◌then◌else◌, length, codes, nat_eq}
use Rattle.std.specs.List.{starts_with}
use Rattle.std.specs.Str.Parse.{digits_value}
use Rattle.base_syntax.specs.Lines.{HasNoLf, ended, said}
use Rattle.interleaved.specs.Frame.{IsFrame}
use Rattle.rtsp_message.specs.declared.received.Received.{Received}
use Rattle.rtsp_message.specs.declared.received.Received.TheVariants as receives
use Rattle.rtsp_message.specs.declared.request.Request.{Request}
use Rattle.rtsp_message.specs.declared.response.Response.{Response}
use Rattle.rtsp_message.specs.declared.unit.Unit.{Unit as StreamUnit}
use Rattle.rtsp_message.specs.declared.unit.Unit.TheVariants.{Message, Frame}
use Rattle.rtsp_message.specs.Limits.{head_limit}
use Rattle.rtsp_message.specs.Headers.{cseq_of}
use Rattle.rtsp_message.specs.Heads.{EndsHeaders}
use Rattle.rtsp_message.specs.Lengths.{body_len}
use Rattle.rtsp_message.specs.Lines.{IsStatusLine}
use Rattle.rtsp_message.specs.Statuses.{status_of}
use Rattle.rtsp_message.specs.Stream.{IsMessage}

-- The head of a reply: a status line, header lines, and an empty line (RFC 2326, 7). It says nothing of the body.
pub record IsReplyHead (bytes : List ℕ) (reply : Response) : Type 0 where
  pub first : List ℕ
  pub rest : List ℕ
  pub digits : List ℕ
  pub whole : bytes ≡ ended first ++ rest
  pub first_unbroken : HasNoLf first
  pub status_line : IsStatusLine (said first) reply.version digits reply.reason
  pub status_is : reply.status ≡ digits_value 10 digits
  pub fields : EndsHeaders rest reply.headers
  pub cseq : reply.cseq ≡ cseq_of reply.headers
  pub short : length bytes ≤ head_limit

-- A reply: a head, and as many bytes of body as it announces, none if it announces none (RFC 2326, 4.4 and 7).
pub record IsReply (bytes : List ℕ) (reply : Response) : Type 0 where
  pub head : List ℕ
  pub whole : bytes ≡ head ++ reply.body
  pub is_head : IsReplyHead head reply
  pub body_size : length reply.body ≡ body_len reply.headers

-- the bytes are those of what a client receives
abbrev pub IsReceived : List ℕ → Received → Type 0
IsReceived bytes (receives.Reply reply) = IsReply bytes reply
IsReceived bytes (receives.Request request) = IsMessage bytes request
IsReceived bytes (receives.Frame frame) = IsFrame bytes frame.channel frame.payload

-- a message as a reply: version, status and reason stand in the places of method, URI and version
abbrev pub response_of : Request → Response
response_of message = record {
  version = message.method;
  status = status_of message.uri;
  reason = message.version;
  cseq = message.cseq;
  headers = message.headers;
  body = message.body;
}

-- a unit of a server's stream as it is received: a message that begins with `RTSP/` is a reply, any other a request
abbrev pub received : StreamUnit → Received
received (Message message) = if starts_with nat_eq message.method (codes "RTSP/") then receives.Reply (response_of message) else receives.Request message
received (Frame frame) = receives.Frame frame
