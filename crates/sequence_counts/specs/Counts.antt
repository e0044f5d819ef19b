-- The counts of a track.
use Rattle.std.specs.Prelude.{ℕ, ◌+◌, ◌-◌, ◌^◌, min, Option, Some, None}
use Rattle.sequence_counts.specs.declared.counts.Numbers.{Numbers}

-- the highest packet since the last RECORD, if there is one, and the three counts
pub record Counts : Type 0 where
  pub highest : Option Numbers
  pub missing : ℕ
  pub late : ℕ
  pub restarts : ℕ

-- no packet came yet
abbrev pub nothing_counted : Counts
nothing_counted = record { highest = None; missing = 0; late = 0; restarts = 0 }

-- the same counts, with a packet that is the highest now
abbrev pub with_highest : Counts → (number ssrc : ℕ) → Counts
with_highest counts number ssrc = record counts { highest = Some (record { number = number; ssrc = ssrc }) }

-- a count that would exceed 2^64 - 1 stays at 2^64 - 1
abbrev pub capped : ℕ → ℕ
capped n = min n (2 ^ 64 - 1)

-- these counts, each of them capped
abbrev pub capped_counts : Counts → Counts
capped_counts counts = record counts {
  missing = capped counts.missing;
  late = capped counts.late;
  restarts = capped counts.restarts;
}

-- what was counted between two moments of one track, and the highest packet at the second one
abbrev pub counted_since : (counts earlier : Counts) → Counts
counted_since counts earlier = record counts {
  missing = counts.missing - earlier.missing;
  late = counts.late - earlier.late;
  restarts = counts.restarts - earlier.restarts;
}

-- what was counted of two tracks, and no highest packet
abbrev pub both_counts : (one other : Counts) → Counts
both_counts one other = record {
  highest = None;
  missing = capped (one.missing + other.missing);
  late = capped (one.late + other.late);
  restarts = capped (one.restarts + other.restarts);
}
