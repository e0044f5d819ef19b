-- Texts that can be in the line of a header field.
use Rattle.std.specs.Prelude.{ℕ, ◌==◌, Bool, not, List}
use Rattle.std.specs.Char.{is_ascii_control}
use Rattle.std.specs.List.{list_all}

-- no byte is below 0x20 or 0x7F (RFC 7617, 2: "The user-id and password MUST NOT contain any control characters"; RFC 2326, 4.2)
abbrev pub has_no_control : List ℕ → Bool
has_no_control text = list_all (λ byte. not (is_ascii_control byte)) text

-- no byte is a colon (RFC 7617, 2: "a user-id containing a colon character is invalid")
abbrev pub has_no_colon : List ℕ → Bool
has_no_colon text = list_all (λ byte. not (byte == 58)) text
