-- The form of a line: a letter, an equals sign and a value (RFC 4566, 5: <type>=<value>).
use Rattle.std.specs.Prelude.{ℕ, Bool, not, ◌&&◌, ◌||◌, ◌==◌, nat_lt, nat_le, List, length, take, drop, slice_index, codes, Option}
use Rattle.std.specs.List.{list_any, list_all, find}
use Rattle.std.specs.Option.{option_map}
use Rattle.std.specs.Str.{bytes_eq}

-- the first line of each description (RFC 4566, 5.1)
abbrev pub version_line : List ℕ
version_line = codes "v=0"

-- the letters that RFC 4566, 5 lists, for a session and for a media section alike
abbrev pub letters : List ℕ
letters = codes "vosiuepcbtrzkam"

abbrev pub is_letter : ℕ → Bool
is_letter b = list_any (λ letter. letter == b) letters

-- a byte that a value may hold: all but NUL, LF and CR (RFC 4566, 9: byte-string)
abbrev pub is_value_byte : ℕ → Bool
is_value_byte b = not (b == 0 || (b == 10 || b == 13))

-- two bytes or more, of which the second is an equals sign
abbrev pub has_equals : List ℕ → Bool
has_equals line = nat_lt 1 (length line) && slice_index line 1 == 61

-- a line that a description may have; the order of the letters isn't checked
abbrev pub is_field : List ℕ → Bool
is_field line = has_equals line && (is_letter (slice_index line 0) && list_all is_value_byte (drop 2 line))

-- a lower-case letter that isn't listed, and an equals sign, whatever the value
abbrev pub names_unknown : List ℕ → Bool
names_unknown line = has_equals line && ((nat_le 97 (slice_index line 0) && nat_le (slice_index line 0) 122) && not (is_letter (slice_index line 0)))

-- an `m=` line, as far as its letter goes (RFC 4566, 5.14)
abbrev pub is_media : List ℕ → Bool
is_media line = bytes_eq (take 2 line) (codes "m=")

-- a control attribute (RFC 2326, C.1.1)
abbrev pub control_prefix : List ℕ
control_prefix = codes "a=control:"

abbrev pub is_control : List ℕ → Bool
is_control line = bytes_eq (take 10 line) control_prefix

-- the control that lines announce: the value of the first control attribute (RFC 2326, C.1.1)
abbrev pub control_among : List (List ℕ) → Option (List ℕ)
control_among lines = option_map (drop 10) (find is_control lines)
