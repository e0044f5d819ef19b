-- A tap over a list of answers: which lists it may have, and what a take of it gives.
use Rattle.std.specs.Prelude.{◌≡◌, ℕ, ◌+◌, ◌^◌, ◌<◌, ◌≤◌, List, [], ◌∷◌, length}
use Rattle.cursor.specs.declared.takes.Account.{Account}
use Rattle.cursor.specs.declared.takes.Delivery.{Delivery}
use Rattle.cursor.specs.declared.takes.Delivery.TheVariants.{Got, Lost, Empty, Ended}
use Rattle.cursor.specs.Taps.{Counts}

-- a tap over a list: the longest packet, the account so far, and the answers that are still to come
pub record Listed : Type 0 where
  pub packet_bytes : ℕ
  pub account : Account
  pub rest : List Delivery

-- answers that may come from a cursor on: each packet has the number that the packets and losses
-- before it make, and at most so many bytes, and the numbers stay below 2^64
abbrev pub IsCounted : (packet_bytes : ℕ) → (cursor : ℕ) → List Delivery → Type 0
IsCounted bytes c [] = c < 2 ^ 64
IsCounted bytes c (Got n p ∷ ds) = (n ≡ c) × (length p.bytes ≤ bytes) × IsCounted bytes (c + 1) ds
IsCounted bytes c (Lost k ∷ ds) = IsCounted bytes (c + k) ds
IsCounted bytes c (Empty ∷ ds) = IsCounted bytes c ds
IsCounted bytes c (Ended ∷ ds) = IsCounted bytes c ds

-- the first answer is given, and the others are left; after the last one it is Ended for good
abbrev pub GivesNext : (old : List Delivery) → Delivery → (new : List Delivery) → Type 0
GivesNext [] d new = (d ≡ Ended) × (new ≡ [])
GivesNext (e ∷ es) d new = (d ≡ e) × (new ≡ es)

-- a take gives the next answer, and counts it
pub record ListStep (old : Listed) (d : Delivery) (new : Listed) : Type 0 where
  pub gives : GivesNext old.rest d new.rest
  pub account : Counts old.account d new.account
  pub packet_bytes : new.packet_bytes ≡ old.packet_bytes
