-- What a track may hold, so that it can be announced.
use Rattle.std.specs.Prelude.{◌≡◌, ◌≤◌, ℕ, Bool, true, not, ◌&&◌, ◌||◌, ◌==◌, nat_lt, List, length, take, codes}
use Rattle.std.specs.List.{list_all}
use Rattle.std.specs.Str.{bytes_eq}
use Rattle.sdp.specs.Fields.{is_field}
use Rattle.source_sdp.specs.declared.track.SourceTrack.{SourceTrack}

-- a byte that a format may hold: no control character and no blank (RFC 4566, 9: non-ws-string)
abbrev pub is_format_byte : ℕ → Bool
is_format_byte b = nat_lt 32 b && not (b == 127)

-- a payload format (RFC 4566, 9: fmt)
abbrev pub is_format : List ℕ → Bool
is_format text = nat_lt 0 (length text) && list_all is_format_byte text

-- one format or more
abbrev pub are_formats : List (List ℕ) → Bool
are_formats formats = nat_lt 0 (length formats) && list_all is_format formats

abbrev pub begins_with : List ℕ → List ℕ → Bool
begins_with line start = bytes_eq (take (length start) line) start

-- a line that describes formats (RFC 4566, 6)
abbrev pub describes_format : List ℕ → Bool
describes_format line =
    (begins_with line (codes "a=rtpmap:") || begins_with line (codes "a=fmtp:"))
    || (begins_with line (codes "a=framerate:") || begins_with line (codes "a=ptime:"))

-- what a track holds can be announced
abbrev pub is_usable : SourceTrack → Bool
is_usable track = are_formats track.formats && (list_all is_field track.attributes && list_all describes_format track.attributes)

-- tracks that can be announced: at most as many as a description may have
pub record AreUsable (tracks : List SourceTrack) : Type 0 where
  pub each : list_all is_usable tracks ≡ true
  pub few : length tracks ≤ 16
