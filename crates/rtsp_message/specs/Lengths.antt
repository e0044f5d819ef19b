-- The length of a body, and the header field that announces it (RFC 2326, 4.4 and 12.14).
use Rattle.std.specs.Prelude.{ℕ, Bool, not, ◌==◌, nat_lt, if◌then◌else◌, List, Option, None, Some, unwrap_or, codes}
use Rattle.std.specs.Str.Parse.{digits_value}
use Rattle.std.specs.Option.{option_and_then}
use Rattle.base_syntax.specs.Names.{same_name}
use Rattle.base_syntax.specs.Numbers.{is_numeral, number_up_to}
use Rattle.rtsp_message.specs.Limits.{body_limit}
use Rattle.rtsp_message.specs.declared.headers.Header.{Header}
use Rattle.rtsp_message.specs.declared.fault.Fault.{Fault}
use Rattle.rtsp_message.specs.declared.fault.Fault.TheVariants.{BadLength, BodyTooLong}
use Rattle.rtsp_message.specs.Headers.{value_of}

abbrev pub is_content_length : List ℕ → Bool
is_content_length name = same_name name (codes "Content-Length")

-- the length that these fields announce: the number of the first such field
abbrev pub announced : List Header → Option ℕ
announced headers = option_and_then (number_up_to body_limit) (value_of headers (codes "Content-Length"))

-- how many bytes the body has: none where no length is announced
abbrev pub body_len : List Header → ℕ
body_len headers = unwrap_or (announced headers) 0

-- what is wrong with a length after this announced one: it has to be the same number
abbrev pub second_fault : Option ℕ → ℕ → Option Fault
second_fault None len = None
second_fault (Some before) len = if before == len then None else Some BadLength

-- what is wrong with the value of such a field: it is no number, or over the limit, or another number than before
abbrev pub length_fault : (before : Option ℕ) → (value : List ℕ) → Option Fault
length_fault before value =
    if not (is_numeral value) then Some BadLength
    else (if nat_lt body_limit (digits_value 10 value) then Some BodyTooLong
    else second_fault before (digits_value 10 value))

-- what is wrong with a field after these ones
abbrev pub field_fault : (before : List Header) → Header → Option Fault
field_fault before header = if is_content_length header.name then length_fault (announced before) header.value else None
