-- Which log lines of a pull are warnings.
use Rattle.std.specs.Prelude.{⊤}
use Rattle.relay_pull.specs.Ends.{IsStop}
use Rattle.relay_pull.specs.declared.line.Line.{Line}
use Rattle.relay_pull.specs.declared.line.Line.TheVariants.{Begins, Away, Report, Note, Ends, Locked}

-- a try has ended and not by a stop, or the source refused the password
abbrev pub IsWarning : Line → Type 0
IsWarning (Begins tracks) = ⊥
IsWarning (Away away) = ⊥
IsWarning (Report figures) = ⊥
IsWarning (Note note) = ⊥
IsWarning (Ends figures end) = IsStop end → ⊥
IsWarning (Locked minutes) = ⊤
