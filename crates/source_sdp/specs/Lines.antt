-- The lines of a server's description, read leniently (RFC 4566, 5; RFC 2327, 6).
use Rattle.std.specs.Prelude.{ℕ, ◌-◌, Bool, ◌==◌, ◌||◌, List, length, take, map, filter}
use Rattle.std.specs.List.{slice_split, suffix_len}
use Rattle.sdp.specs.Fields.{is_field, is_media}

abbrev pub is_lf : ℕ → Bool
is_lf b = b == 10

-- a byte that doesn't count at the end of a line: NUL, a space, a tab, and the CR before an LF
abbrev pub is_padding : ℕ → Bool
is_padding b = b == 0 || (b == 32 || (b == 9 || b == 13))

abbrev pub without_padding : List ℕ → List ℕ
without_padding line = take (length line - suffix_len is_padding line) line

-- a line of the form <type>=<value>, or one that begins `m=`: such a line opens a media section, also if it can't be read
abbrev pub is_kept_line : List ℕ → Bool
is_kept_line line = is_media line || is_field line

-- the lines that are kept, without their padding. Others are dropped.
abbrev pub kept_lines : List (List ℕ) → List (List ℕ)
kept_lines lines = filter is_kept_line (map without_padding lines)

-- the lines of a text, which LF separates
abbrev pub lines_in : List ℕ → List (List ℕ)
lines_in text = kept_lines (slice_split is_lf text)
