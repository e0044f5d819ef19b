-- The header fields of the requests, in their order (RFC 2326, 12).
use Rattle.std.specs.Prelude.{ℕ, List, [], ◌∷◌, ◌++◌, Option, None, Some, length, codes, decimal}
use Rattle.std.specs.Option.{option_copied}
use Rattle.rtsp_message.specs.declared.headers.Header.{Header}
use Rattle.request_text.specs.declared.asked.Asked.{Asked}
use Rattle.request_text.specs.declared.asked.Asked.TheVariants as asks
use Rattle.request_text.specs.declared.request_text.RequestText.{RequestText}
use Rattle.request_text.specs.Methods.{description_of, transport_of}

abbrev pub line_end : List ℕ
line_end = codes "\r\n"

-- a field as a line of a head (RFC 2326, 12; RFC 2068, 4.2)
unfoldable pub field_text : Header → List ℕ
field_text field = field.name ++ codes ": " ++ field.value ++ line_end

abbrev pub header : (name value : List ℕ) → Header
header name value = record { name = name; value = value }

-- a field that has a value, or none
abbrev pub given_field : (name : List ℕ) → Option (List ℕ) → List Header
given_field name None = []
given_field name (Some value) = header name value ∷ []

-- Accept of DESCRIBE (RFC 2326, 12.1)
abbrev pub accept_field : Asked → List Header
accept_field asks.Options = []
accept_field asks.Describe = header (codes "Accept") (codes "application/sdp") ∷ []
accept_field (asks.Announce description) = []
accept_field (asks.Setup transport) = []
accept_field asks.Record = []
accept_field asks.Play = []
accept_field asks.GetParameter = []
accept_field asks.Teardown = []

-- Range of RECORD and PLAY, from the beginning (RFC 2326, 12.29)
abbrev pub range_field : Asked → List Header
range_field asks.Options = []
range_field asks.Describe = []
range_field (asks.Announce description) = []
range_field (asks.Setup transport) = []
range_field asks.Record = header (codes "Range") (codes "npt=0.000-") ∷ []
range_field asks.Play = header (codes "Range") (codes "npt=0.000-") ∷ []
range_field asks.GetParameter = []
range_field asks.Teardown = []

-- Content-Type of a description that is sent (RFC 2326, 12.16)
abbrev pub type_field : (description : Option (List ℕ)) → List Header
type_field None = []
type_field (Some description) = header (codes "Content-Type") (codes "application/sdp") ∷ []

-- Content-Length of a description that is sent (RFC 2326, 12.14)
abbrev pub length_field : (description : Option (List ℕ)) → List Header
length_field None = []
length_field (Some description) = header (codes "Content-Length") (decimal (length description)) ∷ []

-- CSeq (RFC 2326, 12.17) and User-Agent (12.41)
unfoldable pub general_fields : RequestText → List Header
general_fields request = header (codes "CSeq") (decimal request.number) ∷ header (codes "User-Agent") (codes "Vasklun/0.1") ∷ []

-- CSeq, User-Agent, Accept, Transport (RFC 2326, 12.39)
abbrev pub opening_fields : RequestText → List Header
opening_fields request =
    general_fields request ++ (accept_field request.asked ++ given_field (codes "Transport") (transport_of request.asked))

-- Session (RFC 2326, 12.37), Range, Authorization (12.5), Content-Type
abbrev pub closing_fields : RequestText → List Header
closing_fields request =
    given_field (codes "Session") (option_copied request.session)
    ++ (range_field request.asked
    ++ (given_field (codes "Authorization") (option_copied request.authorization)
    ++ type_field (description_of request.asked)))

-- all of them: Content-Length is the last
abbrev pub headers_of : RequestText → List Header
headers_of request = (opening_fields request ++ closing_fields request) ++ length_field (description_of request.asked)
