use Rattle.std.proofs.Common.{◌≡◌, ◌++◌, drop}
use Rattle.std.specs.List.{flat_map}
use Rattle.source_sdp.specs.Announced.{spaced}
use Rattle.source_sdp.proofs.writing.write_formats.Given as goal

-- the text so far and that of the formats left are the whole text
abbrev pub invariant-loop-format : goal.invariant-loop-format
invariant-loop-format l = l.out.items ++ flat_map spaced (drop l.format-index l.formats) ≡ l.fn.out.items ++ flat_map spaced l.formats
