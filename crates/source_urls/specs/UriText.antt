-- Texts that can be the URI of a request line (RFC 2326, 6.1: Method SP Request-URI SP RTSP-Version CRLF).
use Rattle.std.specs.Prelude.{◌≡◌, ℕ, ◌-◌, ◌<◌, ◌&&◌, ◌==◌, Bool, true, nat_lt, List, length, slice_index}
use Rattle.std.specs.List.{list_all}

abbrev pub slash : ℕ
slash = 47

-- a visible character of ASCII: no control character, no blank, no byte over 0x7E
abbrev pub is_uri_byte : ℕ → Bool
is_uri_byte b = nat_lt 32 b && nat_lt b 127

abbrev pub has_uri_bytes : List ℕ → Bool
has_uri_bytes text = list_all is_uri_byte text

-- the text can be the URI of a request line: it has a byte or more, and each is visible
pub record IsRequestUri (text : List ℕ) : Type 0 where
  pub some : 0 < length text
  pub visible : has_uri_bytes text ≡ true

-- longer than a request line has room for
abbrev pub is_long : List ℕ → Bool
is_long text = nat_lt 2048 (length text)

-- the text has a last byte, and it is a slash
abbrev pub is_slash_last : List ℕ → Bool
is_slash_last text = nat_lt 0 (length text) && slice_index text (length text - 1) == slash
