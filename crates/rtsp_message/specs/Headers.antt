-- Looking up header fields (RFC 2326, 12; RFC 2068, 4.2: names without regard to case).
use Rattle.std.specs.Prelude.{ℕ, ◌-◌, ◌^◌, List, Option, find, codes}
use Rattle.std.specs.Option.{option_map, option_and_then}
use Rattle.base_syntax.specs.Names.{same_name}
use Rattle.base_syntax.specs.Numbers.{number_up_to}
use Rattle.rtsp_message.specs.declared.headers.Header.{Header}

-- The value of the first field of that name.
abbrev pub value_of : List Header → List ℕ → Option (List ℕ)
value_of headers name = option_map (λ header. header.value) (find (λ header. same_name header.name name) headers)

-- CSeq of a request: a number below 2^32; anything else can't be read (RFC 2326, 12.17)
abbrev pub cseq_of : List Header → Option ℕ
cseq_of headers = option_and_then (number_up_to (2 ^ 32 - 1)) (value_of headers (codes "CSeq"))
