-- Where a list of answers may come from a cursor on, the cursor is below 2^64.
use Rattle.std.proofs.Common.{ℕ, ◌+◌, ◌<◌, ◌^◌, List, [], ◌∷◌, arith}
use Rattle.cursor.specs.declared.takes.Delivery.{Delivery}
use Rattle.cursor.specs.declared.takes.Delivery.TheVariants.{Got, Lost, Empty, Ended}
use Rattle.cursor.specs.Listed.{IsCounted}

-- the cursor stays below 2^64
pub IsCounted-below : (bytes c : ℕ) (ds : List Delivery) → IsCounted bytes c ds → c < 2 ^ 64
IsCounted-below bytes c [] h = h
IsCounted-below bytes c (Got n p ∷ ds) h = omega (arith, IsCounted-below bytes (c + 1) ds h.2)
IsCounted-below bytes c (Lost k ∷ ds) h = omega (arith, IsCounted-below bytes (c + k) ds h)
IsCounted-below bytes c (Empty ∷ ds) h = IsCounted-below bytes c ds h
IsCounted-below bytes c (Ended ∷ ds) h = IsCounted-below bytes c ds h
