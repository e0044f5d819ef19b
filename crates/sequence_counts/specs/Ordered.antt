-- Packets of one source that come in order.
use Rattle.std.specs.Prelude.{ℕ, ◌+◌, ◌%◌, ◌<◌, ◌≤◌, List, [], ◌∷◌, map}
use Rattle.sequence_counts.specs.Counting.{Event, Recorded, modulus, most_ahead, packets}

-- Extended sequence numbers (RFC 3550, A.1), which count on where a packet's number begins at 0 again. Each is at most 2,999 ahead of the
-- one before it, the first of them of `last`.
abbrev pub RisesFrom : (last : ℕ) → (numbers : List ℕ) → Type 0
RisesFrom last [] = Unit {0}
RisesFrom last (next ∷ more) = (last < next) × (next ≤ last + most_ahead) × RisesFrom next more

-- the last of these numbers, or `last` if there are none
abbrev pub last_of : (last : ℕ) → (numbers : List ℕ) → ℕ
last_of last [] = last
last_of last (next ∷ more) = last_of next more

-- a RECORD, and then packets of one source with these extended sequence numbers
abbrev pub recording : (ssrc : ℕ) → (numbers : List ℕ) → List Event
recording ssrc numbers = Recorded ∷ packets ssrc (map (λ number. number % modulus) numbers)
