-- Which tracks a text asks for.
use Rattle.std.specs.Prelude.{List, ℕ, true, false, Option, None, Some, codes, if◌then◌else◌}
use Rattle.std.specs.Str.{bytes_eq}
use Rattle.pull_plan.specs.declared.wanted_tracks.WantedTracks.{WantedTracks}

-- the tracks that a text asks for
abbrev pub wanted_in : List ℕ → Option WantedTracks
wanted_in text =
    if bytes_eq text (codes "video") then Some (record { video = true; audio = false })
    else (if bytes_eq text (codes "audio") then Some (record { video = false; audio = true })
    else (if bytes_eq text (codes "video,audio") then Some (record { video = true; audio = true })
    else (if bytes_eq text (codes "audio,video") then Some (record { video = true; audio = true }) else None)))
