-- Which control attribute names a track (RFC 2326, C.1.1).
use Rattle.std.specs.Prelude.{ℕ, Bool, not, ◌&&◌, ◌||◌, List, [], drop, codes, Option}
use Rattle.std.specs.List.{find}
use Rattle.std.specs.Option.{option_map}
use Rattle.std.specs.Str.{bytes_eq}
use Rattle.base_syntax.specs.Blanks.{trimmed}
use Rattle.sdp.specs.Fields.{is_control}

-- a control that stands for the base URL: but for blanks at its ends it is empty, or the `*` that means the same
abbrev pub is_base : List ℕ → Bool
is_base control = bytes_eq (trimmed control) [] || bytes_eq (trimmed control) (codes "*")

-- a control attribute that names a track: its value is another one
abbrev pub names_track : List ℕ → Bool
names_track line = is_control line && not (is_base (drop 10 line))

-- the control of a track with these lines: the value of the first that names a track
abbrev pub control_of : (lines : List (List ℕ)) → Option (List ℕ)
control_of lines = option_map (drop 10) (find names_track lines)
