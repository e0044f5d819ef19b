-- The host of a URL (RFC 2326, 3.2: a domain name or an IP address in dotted decimal form; RFC 2732, 2: an IPv6 address in brackets).
use Rattle.std.specs.Prelude.{ℕ, ◌-◌, ◌&&◌, ◌||◌, ◌==◌, Bool, nat_lt, if◌then◌else◌, List, length, take, drop, slice_index}
use Rattle.std.specs.List.{list_all, list_any}
use Rattle.std.specs.Char.{is_ascii_alphanumeric, is_ascii_hexdigit}
use Rattle.source_urls.specs.Parts.{has_bracket}

-- a letter, a digit, a hyphen, a dot (RFC 1123, 2.1), or an underscore, which names of local networks have
abbrev pub is_name_byte : ℕ → Bool
is_name_byte b = ((is_ascii_alphanumeric b || b == 45) || b == 46) || b == 95

-- a hexadecimal digit, a colon or a dot (RFC 4291, 2.2)
abbrev pub is_literal_byte : ℕ → Bool
is_literal_byte b = (is_ascii_hexdigit b || b == 58) || b == 46

-- the name of a host, or an IPv4 address: one or more such bytes
abbrev pub is_name : List ℕ → Bool
is_name host = nat_lt 0 (length host) && list_all is_name_byte host

-- what is between the first byte and the last
abbrev pub inside : List ℕ → List ℕ
inside host = take (length host - 2) (drop 1 host)

-- the first byte is `[`, and the last is `]`
abbrev pub is_bracketed : List ℕ → Bool
is_bracketed host = has_bracket host && slice_index host (length host - 1) == 93

-- an IPv6 address, by the bytes that it has, of which one or more are colons
abbrev pub is_address : List ℕ → Bool
is_address text = (nat_lt 0 (length text) && list_all is_literal_byte text) && list_any (λ b. b == 58) text

-- an IPv6 address in brackets
abbrev pub is_literal : List ℕ → Bool
is_literal host = is_bracketed host && is_address (inside host)

abbrev pub is_host : List ℕ → Bool
is_host host = is_name host || is_literal host

-- the host without brackets
abbrev pub bare_host : List ℕ → List ℕ
bare_host host = if has_bracket host then inside host else host
