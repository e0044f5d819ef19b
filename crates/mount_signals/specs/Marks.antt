-- What a mount's publisher is answered, and what its gatherings bring.
use Rattle.std.specs.Prelude.{ℕ, ◌+◌, Bool, true, false, Result, Ok, Err}
use Rattle.cursor.specs.declared.refusals.Refused.{Refused}

-- the answer of a publish apart from what is to be told of its packet
abbrev pub answered : {A : Type 0} → Result (ℕ × A) Refused → Result ℕ Refused
answered (Ok told) = Ok told.0
answered (Err refused) = Err refused

-- how many packets a gathering brought: those that were marked, and the one that began it if its players were woken for it at once
abbrev pub packets_gathered : (marks : ℕ) → (has_sent : Bool) → ℕ
packets_gathered marks true = marks + 1
packets_gathered marks false = marks
