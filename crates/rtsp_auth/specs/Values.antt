-- The value of a parameter: token / quoted-string (RFC 7235, 2.1), or a text without quotes that is no token.
use Rattle.std.specs.Prelude.{ℕ, ◌==◌, ◌&&◌, not, Bool, true, false, if◌then◌else◌, List, [], ◌∷◌, Option, None, Some}
use Rattle.std.specs.Char.{is_ascii_control}
use Rattle.std.specs.List.{list_all}
use Rattle.std.specs.Option.{option_map}
use Rattle.rtsp_auth.specs.declared.values.Mark.{Mark}
use Rattle.rtsp_auth.specs.declared.values.Mark.TheVariants as marks

-- what a byte after an opening quote is: a backslash makes the next byte one of the value (RFC 7230, 3.2.6: qdtext, quoted-pair)
abbrev pub mark_of : (is_escaped : Bool) → ℕ → Mark
mark_of is_escaped byte =
    if is_ascii_control byte then marks.Control
    else if is_escaped then marks.Text
    else if byte == 34 then marks.Close
    else if byte == 92 then marks.Escape
    else marks.Text

-- a value whose closing quote was read has nothing after it
abbrev pub closed : (value behind : List ℕ) → Option (List ℕ)
closed value [] = Some value
closed value (byte ∷ bytes) = None

-- the value that begins with a byte of this kind
abbrev pub value_by : Mark → (byte : ℕ) (behind : List ℕ) (if_escape if_text : Option (List ℕ)) → Option (List ℕ)
value_by marks.Control byte behind if_escape if_text = None
value_by marks.Close byte behind if_escape if_text = closed [] behind
value_by marks.Escape byte behind if_escape if_text = if_escape
value_by marks.Text byte behind if_escape if_text = option_map (λ value. byte ∷ value) if_text

-- the value of what is after an opening quote, or after a backslash in the string
abbrev pub unquoted_from : (is_escaped : Bool) → List ℕ → Option (List ℕ)
unquoted_from is_escaped [] = None
unquoted_from is_escaped (byte ∷ bytes) =
    value_by (mark_of is_escaped byte) byte bytes (unquoted_from true bytes) (unquoted_from false bytes)

abbrev pub unquoted : List ℕ → Option (List ℕ)
unquoted text = unquoted_from false text

-- A byte of a value without quotes. RFC 7235 has a token there. Cameras write a realm with blanks so, as `realm=IP Camera`: the value ends at
-- the comma, and blanks in it are a part of it. It has no control character, no comma, no double quote and no equals sign: with one of
-- these it could be more than one value, as if a comma is missing in `realm=IP Camera nonce=1`.
abbrev pub is_bare_byte : ℕ → Bool
is_bare_byte byte = ((not (is_ascii_control byte) && not (byte == 34)) && not (byte == 44)) && not (byte == 61)

abbrev pub bare_in : List ℕ → Option (List ℕ)
bare_in text = if list_all is_bare_byte text then Some text else None

-- the value that a text spells, without the quotes and the backslashes of a quoted string
abbrev pub value_in : List ℕ → Option (List ℕ)
value_in [] = None
value_in (byte ∷ bytes) = if byte == 34 then unquoted bytes else bare_in (byte ∷ bytes)
