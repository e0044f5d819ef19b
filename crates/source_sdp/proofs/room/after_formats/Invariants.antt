use Rattle.std.proofs.Common.{◌≡◌, ◌+◌, length, drop}
use Rattle.std.specs.List.{flat_map}
use Rattle.source_sdp.specs.Announced.{spaced}
use Rattle.source_sdp.proofs.room.after_formats.Given as goal

-- the formats so far have taken what isn't left
abbrev pub invariant-loop-format : goal.invariant-loop-format
invariant-loop-format l = l.left + length (flat_map spaced l.formats) ≡ l.fn.room + length (flat_map spaced (drop l.format-index l.formats))
