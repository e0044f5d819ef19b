-- The text of a reply (RFC 2326, 7 and 12). Only these fields are written, each where it is given, in this order.
use Rattle.std.specs.Prelude.{ℕ, List, [], ◌∷◌, ◌++◌, Option, None, Some, length, codes, decimal}
use Rattle.rtsp_message.specs.declared.status.Status.{Status}
use Rattle.rtsp_message.specs.declared.status.Status.TheVariants.{Ok, BadRequest, Forbidden, NotFound, NotAcceptable, RequestEntityTooLarge, UnsupportedMediaType, ParameterNotUnderstood, NotEnoughBandwidth, SessionNotFound, MethodNotValidInThisState, AggregateOperationNotAllowed, OnlyAggregateOperationAllowed, UnsupportedTransport, NotImplemented, ServiceUnavailable, VersionNotSupported, OptionNotSupported}
use Rattle.rtsp_message.specs.declared.reply.Reply.{Reply}
use Rattle.rtsp_message.specs.declared.reply.Fields.{Fields}

-- RFC 2326, 7.1.1
abbrev pub code_of : Status → ℕ
code_of Ok = 200
code_of BadRequest = 400
code_of Forbidden = 403
code_of NotFound = 404
code_of NotAcceptable = 406
code_of RequestEntityTooLarge = 413
code_of UnsupportedMediaType = 415
code_of ParameterNotUnderstood = 451
code_of NotEnoughBandwidth = 453
code_of SessionNotFound = 454
code_of MethodNotValidInThisState = 455
code_of AggregateOperationNotAllowed = 459
code_of OnlyAggregateOperationAllowed = 460
code_of UnsupportedTransport = 461
code_of NotImplemented = 501
code_of ServiceUnavailable = 503
code_of VersionNotSupported = 505
code_of OptionNotSupported = 551

abbrev pub reason_of : Status → List ℕ
reason_of Ok = codes "OK"
reason_of BadRequest = codes "Bad Request"
reason_of Forbidden = codes "Forbidden"
reason_of NotFound = codes "Not Found"
reason_of NotAcceptable = codes "Not Acceptable"
reason_of RequestEntityTooLarge = codes "Request Entity Too Large"
reason_of UnsupportedMediaType = codes "Unsupported Media Type"
reason_of ParameterNotUnderstood = codes "Parameter Not Understood"
reason_of NotEnoughBandwidth = codes "Not Enough Bandwidth"
reason_of SessionNotFound = codes "Session Not Found"
reason_of MethodNotValidInThisState = codes "Method Not Valid in This State"
reason_of AggregateOperationNotAllowed = codes "Aggregate Operation Not Allowed"
reason_of OnlyAggregateOperationAllowed = codes "Only Aggregate Operation Allowed"
reason_of UnsupportedTransport = codes "Unsupported Transport"
reason_of NotImplemented = codes "Not Implemented"
reason_of ServiceUnavailable = codes "Service Unavailable"
reason_of VersionNotSupported = codes "RTSP Version Not Supported"
reason_of OptionNotSupported = codes "Option Not Supported"

abbrev pub line_end : List ℕ
line_end = codes "\r\n"

-- version, code and reason (RFC 2326, 7.1)
abbrev pub status_line : Status → List ℕ
status_line status = codes "RTSP/1.0 " ++ decimal (code_of status) ++ codes " " ++ reason_of status ++ line_end

-- a field with its value, or nothing where there is no value
abbrev pub field : List ℕ → Option (List ℕ) → List ℕ
field name None = []
field name (Some value) = name ++ codes ": " ++ value ++ line_end

-- the number of the request that is answered (RFC 2326, 12.17)
abbrev pub cseq_field : Option ℕ → List ℕ
cseq_field None = []
cseq_field (Some n) = codes "CSeq: " ++ decimal n ++ line_end

-- the fields between CSeq and Content-Length
abbrev pub fields_text : Fields → List ℕ
fields_text fields =
    field (codes "Session") fields.session ++ field (codes "Public") fields.public
    ++ field (codes "Allow") fields.allow ++ field (codes "Unsupported") fields.unsupported
    ++ field (codes "Transport") fields.transport ++ field (codes "RTP-Info") fields.rtp_info
    ++ field (codes "Content-Base") fields.content_base ++ field (codes "Content-Type") fields.content_type

-- a body's length (RFC 2326, 12.14); no body, no field
abbrev pub length_field : List ℕ → List ℕ
length_field [] = []
length_field (b ∷ bs) = codes "Content-Length: " ++ decimal (length (b ∷ bs)) ++ line_end

abbrev pub reply_text : Reply → List ℕ
reply_text reply =
    status_line reply.status ++ cseq_field reply.cseq ++ fields_text reply.fields
    ++ length_field reply.body ++ line_end ++ reply.body

-- a reply with no other field than CSeq
abbrev pub plain_text : Status → Option ℕ → List ℕ
plain_text status cseq = status_line status ++ cseq_field cseq ++ line_end
