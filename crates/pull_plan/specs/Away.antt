-- How a log line says how long a source was away.
use Rattle.std.specs.Prelude.{ℕ, ◌/◌, ◌%◌, List, ◌++◌, codes, decimal}
use Rattle.pull_plan.specs.declared.away.Away.{Away}

-- in seconds and whole tenths of a second
abbrev pub away_text : Away → List ℕ
away_text away =
    codes "away " ++ (decimal (away.milliseconds / 1000) ++ (codes "." ++ (decimal (away.milliseconds / 100 % 10) ++ codes " s")))
