-- The text of a request (RFC 2326, 6), and the request that its reader is to read.
use Rattle.std.specs.Prelude.{ℕ, List, ◌++◌, Some, codes}
use Rattle.std.specs.List.{flat_map}
use Rattle.rtsp_message.specs.declared.request.Request.{Request}
use Rattle.request_text.specs.declared.request_text.RequestText.{RequestText}
use Rattle.request_text.specs.Methods.{body_of, method_of, name_of}
use Rattle.request_text.specs.Fields.{field_text, headers_of, line_end}

-- the request that is sent
abbrev pub request_of : RequestText → Request
request_of request = record {
  method = name_of (method_of request.asked);
  uri = request.uri.now;
  version = codes "RTSP/1.0";
  cseq = Some request.number;
  headers = headers_of request;
  body = body_of request.asked;
}

-- the request line: method, URI and version with one space between (RFC 2326, 6.1)
abbrev pub first_line : Request → List ℕ
first_line request = request.method ++ codes " " ++ request.uri ++ codes " " ++ request.version ++ line_end

-- the request line, the fields and an empty line
abbrev pub head_text : Request → List ℕ
head_text request = first_line request ++ flat_map field_text request.headers ++ line_end

-- the head, and the body behind it
abbrev pub message_text : Request → List ℕ
message_text request = head_text request ++ request.body
