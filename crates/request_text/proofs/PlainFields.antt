-- The header fields of a request are read as they were written.
use Rattle.std.proofs.Common.{◌≡◌, ◌<◌, ◌≤◌, ◌-◌, ◌^◌, ℕ, List, [], ◌∷◌, ◌++◌, Option, None, Some, codes, decimal, length, map, unwrap_or, refl, sym, ap, ◌∙◌, arith}
use Rattle.std.specs.Option.{option_copied}
use Rattle.std.proofs.lemmas.Bool.{le-ltb}
use Rattle.std.proofs.lemmas.Fmt.{decimal_is_IsNumeral}
use Rattle.base_syntax.specs.Numbers.{number_up_to}
use Rattle.base_syntax.proofs.Digits.{number_read, numeral_from}
use Rattle.rtsp_message.specs.declared.byte_class.ByteClass.TheVariants.{Token}
use Rattle.rtsp_message.specs.declared.headers.Header.{Header}
use Rattle.rtsp_message.specs.Headers.{cseq_of}
use Rattle.rtsp_message.specs.Heads.{AreHeaders}
use Rattle.rtsp_message.specs.Lengths.{announced, body_len, field_fault}
use Rattle.rtsp_message.specs.Limits.{body_limit}
use Rattle.request_text.specs.declared.asked.Asked.{Asked}
use Rattle.request_text.specs.declared.asked.Asked.TheVariants as asks
use Rattle.request_text.specs.declared.request_text.RequestText.{RequestText}
use Rattle.request_text.specs.Faults.{AreValues}
use Rattle.request_text.specs.Fields.{accept_field, closing_fields, general_fields, given_field, header, headers_of, length_field, opening_fields, range_field, type_field}
use Rattle.request_text.specs.Methods.{body_of, description_of, transport_of}
use Rattle.request_text.proofs.Plain.{ArePlain, announced_after, announced_none, decimal_value, each_of, fixed, given_plain, good, line_of, one_plain, plain_joined, plain_then}

accept_plain : (asked : Asked) → ArePlain (accept_field asked)
accept_plain asks.Options = tt
accept_plain asks.Describe = one_plain (codes "Accept") (codes "application/sdp") (omega arith) refl refl (fixed (codes "application/sdp") refl (λ _. (refl, refl)))
accept_plain (asks.Announce description) = tt
accept_plain (asks.Setup transport) = tt
accept_plain asks.Record = tt
accept_plain asks.Play = tt
accept_plain asks.GetParameter = tt
accept_plain asks.Teardown = tt

range : ArePlain (header (codes "Range") (codes "npt=0.000-") ∷ [])
range = one_plain (codes "Range") (codes "npt=0.000-") (omega arith) refl refl (fixed (codes "npt=0.000-") refl (λ _. (refl, refl)))

range_plain : (asked : Asked) → ArePlain (range_field asked)
range_plain asks.Options = tt
range_plain asks.Describe = tt
range_plain (asks.Announce description) = tt
range_plain (asks.Setup transport) = tt
range_plain asks.Record = range
range_plain asks.Play = range
range_plain asks.GetParameter = tt
range_plain asks.Teardown = tt

type_plain : (description : Option (List ℕ)) → ArePlain (type_field description)
type_plain None = tt
type_plain (Some description) = one_plain (codes "Content-Type") (codes "application/sdp") (omega arith) refl refl (fixed (codes "application/sdp") refl (λ _. (refl, refl)))

general_plain : (request : RequestText) → request.number < 2 ^ 32 → ArePlain (general_fields request)
unfolding general_fields
general_plain request fits =
    plain_joined (header (codes "CSeq") (decimal request.number) ∷ []) (header (codes "User-Agent") (codes "Vasklun/0.1") ∷ [])
    (one_plain (codes "CSeq") (decimal request.number) (omega arith) refl refl (decimal_value request.number (omega arith)))
    (one_plain (codes "User-Agent") (codes "Vasklun/0.1") (omega arith) refl refl (fixed (codes "Vasklun/0.1") refl (λ _. (refl, refl))))

opening_plain : (request : RequestText) → request.number < 2 ^ 32 → AreValues request → ArePlain (opening_fields request)
opening_plain request fits values =
    let transport : List Header = given_field (codes "Transport") (transport_of request.asked) in
    plain_joined (general_fields request) (accept_field request.asked ++ transport) (general_plain request fits)
    (plain_joined (accept_field request.asked) transport (accept_plain request.asked)
    (given_plain (codes "Transport") (omega arith) refl refl (transport_of request.asked) values.transport))

closing_plain : (request : RequestText) → AreValues request → ArePlain (closing_fields request)
closing_plain request values =
    let session : List Header = given_field (codes "Session") (option_copied request.session) in
    let authorization : List Header = given_field (codes "Authorization") (option_copied request.authorization) in
    plain_joined session (range_field request.asked ++ (authorization ++ type_field (description_of request.asked)))
    (given_plain (codes "Session") (omega arith) refl refl (option_copied request.session) values.session)
    (plain_joined (range_field request.asked) (authorization ++ type_field (description_of request.asked))
    (range_plain request.asked)
    (plain_joined authorization (type_field (description_of request.asked))
    (given_plain (codes "Authorization") (omega arith) refl refl (option_copied request.authorization) values.authorization)
    (type_plain (description_of request.asked))))

-- all the fields but Content-Length
abbrev fields_of : RequestText → List Header
fields_of request = opening_fields request ++ closing_fields request

fields_plain : (request : RequestText) → request.number < 2 ^ 32 → AreValues request → ArePlain (fields_of request)
fields_plain request fits values = plain_joined (opening_fields request) (closing_fields request) (opening_plain request fits values) (closing_plain request values)

number_reads : (limit number : ℕ) → number ≤ limit → number < 2 ^ 64 → number_up_to limit (decimal number) ≡ Some number
number_reads limit number most fits =
    let digits = decimal_is_IsNumeral number fits in
    number_read limit (decimal number) number (record { numeral = digits.0; value = digits.1; most = most })

-- the length of a body is no fault after fields that announce none
length_allowed : (before : List Header) (len : ℕ) → announced before ≡ None → len ≤ body_limit → field_fault before (header (codes "Content-Length") (decimal len)) ≡ None
length_allowed before len none most =
    let digits = decimal_is_IsNumeral len (omega arith) in
    rw (numeral_from (decimal len) digits.0, digits.1, le-ltb body_limit len most, none) refl

length_good : (before : List Header) (description : Option (List ℕ)) → ArePlain before → length (unwrap_or description []) ≤ body_limit → AreHeaders before (map line_of (length_field description)) (length_field description)
length_good before None p most = tt
length_good before (Some description) p most =
    let len : ℕ = length description in
    (good before (header (codes "Content-Length") (decimal len)) (record { name = (omega arith, each_of Token (codes "Content-Length") refl); value = decimal_value len (omega arith) }) (length_allowed before len (announced_none before p) most), tt)

length_told : (description : Option (List ℕ)) → length (unwrap_or description []) ≤ body_limit → length (unwrap_or description []) ≡ unwrap_or (announced (length_field description)) 0
length_told None most = refl
length_told (Some description) most = sym (ap (λ (o : Option ℕ). unwrap_or o 0) (number_reads body_limit (length description) most (omega arith)))

pub headers_read : (request : RequestText) → request.number < 2 ^ 32 → AreValues request → length (body_of request.asked) ≤ body_limit → AreHeaders [] (map line_of (headers_of request)) (headers_of request)
headers_read request fits values most =
    let plain = fields_plain request fits values in
    plain_then [] (fields_of request) (length_field (description_of request.asked)) plain (length_good (fields_of request) (description_of request.asked) plain most)

pub body_told : (request : RequestText) → request.number < 2 ^ 32 → AreValues request → length (body_of request.asked) ≤ body_limit → length (body_of request.asked) ≡ body_len (headers_of request)
body_told request fits values most =
    length_told (description_of request.asked) most
    ∙ sym (ap (λ (o : Option ℕ). unwrap_or o 0) (announced_after (fields_of request) (length_field (description_of request.asked)) (fields_plain request fits values)))

pub number_told : (request : RequestText) → request.number < 2 ^ 32 → Some request.number ≡ cseq_of (headers_of request)
unfolding general_fields
number_told request fits = sym (number_reads (2 ^ 32 - 1) request.number (omega arith) (omega arith))
