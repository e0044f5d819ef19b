-- What the threads that write lines and rows do next.
use Rattle.std.specs.Prelude.{⊤, Option, None, Some}
use Rattle.relay_log.specs.declared.backlog.Waiting.{Waiting}
use Rattle.relay_log.specs.declared.due.Due.{Due}
use Rattle.relay_log.specs.declared.due.Due.TheVariants as dues
use Rattle.relay_log.specs.declared.lines.state.Next.{Next}
use Rattle.relay_log.specs.declared.lines.state.Next.TheVariants as nexts
use Rattle.relay_log.specs.declared.refusal_row.RefusalRow.{RefusalRow}

-- it writes a line of which this holds, or does something else
abbrev pub IfWrites : {T : Type 0} → Next T → (Waiting T → Type 0) → Type 0
IfWrites (nexts.Write line made) P = P line
IfWrites (nexts.Missed count) P = ⊤
IfWrites (nexts.End changed) P = ⊤

-- it ends
abbrev pub IsEnd : {T : Type 0} → Next T → Type 0
IsEnd (nexts.Write line made) = ⊥
IsEnd (nexts.Missed count) = ⊥
IsEnd (nexts.End changed) = ⊤

-- a row is due, of which this holds, or something else or nothing is
abbrev pub IfRow : Option Due → (RefusalRow → Type 0) → Type 0
IfRow None P = ⊤
IfRow (Some dues.Moment) P = ⊤
IfRow (Some (dues.Row row)) P = P row
IfRow (Some dues.End) P = ⊤
