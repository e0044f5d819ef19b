-- Where refused connections are counted.
use Rattle.std.specs.Prelude.{ℕ, Option, None, Some}
use Rattle.server_counts.specs.declared.refusal.Refusal.{Refusal}
use Rattle.server_counts.specs.declared.refusal.Refusal.TheVariants as refusals

-- the place at which peers are counted that are refused for this reason: none if they are counted by their addresses
abbrev pub place_of_refusal : Refusal → Option ℕ
place_of_refusal refusals.Full = Some 0
place_of_refusal refusals.OutOfMemory = Some 1
place_of_refusal refusals.NoThread = Some 2
place_of_refusal refusals.NotAccepted = Some 3
place_of_refusal refusals.AddressFull = None
