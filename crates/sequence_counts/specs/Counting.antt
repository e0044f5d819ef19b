-- The rule by which the packets of a track are counted (RFC 3550, A.1 and A.3).
use Rattle.std.specs.Prelude.{◌≡◌, ◌≢◌, ℕ, ◌+◌, ◌-◌, ◌%◌, ◌<◌, ◌≤◌, Some, None, List, [], ◌∷◌, ◌++◌, map}
use Rattle.sequence_counts.specs.declared.counts.Numbers.{Numbers}
use Rattle.sequence_counts.specs.Counts.{Counts, capped_counts, nothing_counted, with_highest}

-- what happens to a track
pub data Event : Type 0 where
  -- its publisher's RECORD is accepted
  Recorded : Event
  -- its publisher offers an RTP packet
  Packet : (number ssrc : ℕ) → Event

-- how many sequence numbers there are
abbrev pub modulus : ℕ
modulus = 65536

-- the greatest step ahead, one less than MAX_DROPOUT
abbrev pub most_ahead : ℕ
most_ahead = 2999

-- the most numbers that a late packet is behind, one less than MAX_MISORDER
abbrev pub most_behind : ℕ
most_behind = 99

-- how far a number is ahead of another, modulo 65,536
abbrev pub distance : (highest number : ℕ) → ℕ
distance highest number = (number + (modulus - highest)) % modulus

-- These are the counts after these events. Each case is a sentence of the rule, and its events end with the one that it is about.
pub data Counted : (events : List Event) → Counts → Type 0 where
  -- The counts begin at 0.
  nothing : Counted [] nothing_counted
  -- After a RECORD the next packet is a first one. The counts stay.
  recorded : {events : List Event} {old : Counts} → Counted events old
      → Counted (events ++ Recorded ∷ []) (record old { highest = None })
  -- The first packet is the highest, and counts nothing.
  first : {events : List Event} {old : Counts} (number ssrc : ℕ) → Counted events old → old.highest ≡ None
      → Counted (events ++ Packet number ssrc ∷ []) (with_highest old number ssrc)
  -- A later packet of another source than the highest is a restart: it is the highest, and adds nothing to the missing.
  from_another : {events : List Event} {old : Counts} {highest : Numbers} (number ssrc : ℕ) → Counted events old → old.highest ≡ Some highest
      → highest.ssrc ≢ ssrc
      → Counted (events ++ Packet number ssrc ∷ []) (record (with_highest old number ssrc) { restarts = old.restarts + 1 })
  -- A packet with the number of the highest is a repeat, and counts nothing.
  repeated : {events : List Event} {old : Counts} {highest : Numbers} (number ssrc : ℕ) → Counted events old → old.highest ≡ Some highest
      → highest.ssrc ≡ ssrc → distance highest.number number ≡ 0
      → Counted (events ++ Packet number ssrc ∷ []) old
  -- A packet that is at most 2,999 ahead is the highest, and the numbers between are missing.
  ahead : {events : List Event} {old : Counts} {highest : Numbers} (number ssrc : ℕ) → Counted events old → old.highest ≡ Some highest
      → highest.ssrc ≡ ssrc → 1 ≤ distance highest.number number → distance highest.number number ≤ most_ahead
      → Counted (events ++ Packet number ssrc ∷ []) (record (with_highest old number ssrc) { missing = old.missing + (distance highest.number number - 1) })
  -- A packet that is at most 99 behind is late, and the highest stays.
  behind : {events : List Event} {old : Counts} {highest : Numbers} (number ssrc : ℕ) → Counted events old → old.highest ≡ Some highest
      → highest.ssrc ≡ ssrc → modulus - most_behind ≤ distance highest.number number
      → Counted (events ++ Packet number ssrc ∷ []) (record old { late = old.late + 1 })
  -- Any other packet is a restart: it is the highest, and adds nothing to the missing.
  far : {events : List Event} {old : Counts} {highest : Numbers} (number ssrc : ℕ) → Counted events old → old.highest ≡ Some highest
      → highest.ssrc ≡ ssrc → most_ahead < distance highest.number number → distance highest.number number < modulus - most_behind
      → Counted (events ++ Packet number ssrc ∷ []) (record (with_highest old number ssrc) { restarts = old.restarts + 1 })

-- these are the counts after these events, each of them capped
pub record AreCountsOf (events : List Event) (counts : Counts) : Type 0 where
  pub exact : Counts
  pub counted : Counted events exact
  pub capped_is : counts ≡ capped_counts exact

-- after these events the three counts are these
abbrev pub Gives : (events : List Event) → (missing late restarts : ℕ) → Type 0
Gives events missing late restarts = (counts : Counts) × Counted events counts × (counts.missing ≡ missing) × (counts.late ≡ late) × (counts.restarts ≡ restarts)

-- packets of one source with these numbers
abbrev pub packets : (ssrc : ℕ) → (numbers : List ℕ) → List Event
packets ssrc numbers = map (λ number. Packet number ssrc) numbers
