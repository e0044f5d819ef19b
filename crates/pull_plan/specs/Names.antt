-- The name that a target's URL gives a stream.
use Rattle.std.specs.Prelude.{ℕ, List, [], drop, Option, None, Some}
use Rattle.base_syntax.specs.Cuts.{behind_first}

-- what is there, or nothing
abbrev pub or_nothing : Option (List ℕ) → List ℕ
or_nothing None = []
or_nothing (Some name) = name

-- what comes after the first slash behind `rtsp://`
abbrev pub name_in : List ℕ → List ℕ
name_in uri = or_nothing (behind_first 47 (drop 7 uri))
