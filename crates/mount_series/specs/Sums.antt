-- Sums of what became of packets.
use Rattle.std.specs.Prelude.{ℕ, ◌+◌, ◌<◌, ◌≤◌}
use Rattle.sequence_counts.specs.Counts.{Counts}
use Rattle.sequence_counts.specs.Tracks.{Tracks, at, both_tracks, counts_of}
use Rattle.relay_accounts.specs.declared.mount_tally.MountTally.{MountTally}
use Rattle.relay_accounts.specs.declared.seat_account.SeatAccount.{SeatAccount}
use Rattle.relay_accounts.specs.Capped.{capped}
use Rattle.relay_accounts.specs.Reporting.{nothing_published}
use Rattle.mount_series.specs.declared.sums.MountSums.{MountSums}

-- nothing came, and nobody was sent anything
abbrev pub nothing : MountSums
nothing = record { came = nothing_published; players = record { sent = 0; skipped = 0; lost = 0; unsent = 0; bytes = 0 } }

-- what came to two mounts
abbrev pub both_tallies : (a b : MountTally) → MountTally
both_tallies a b = record {
  packets = capped (a.packets + b.packets);
  bytes = capped (a.bytes + b.bytes);
  pinned = capped (a.pinned + b.pinned);
  oversize = capped (a.oversize + b.oversize);
  bad_rtp = capped (a.bad_rtp + b.bad_rtp);
  unknown_channel = capped (a.unknown_channel + b.unknown_channel);
  unkept = capped (a.unkept + b.unkept);
  slowed = capped (a.slowed + b.slowed);
  tracks = both_tracks a.tracks b.tracks;
}

-- what became of the packets of two players
abbrev pub both_accounts : (a b : SeatAccount) → SeatAccount
both_accounts a b = record {
  sent = capped (a.sent + b.sent);
  skipped = capped (a.skipped + b.skipped);
  lost = capped (a.lost + b.lost);
  unsent = capped (a.unsent + b.unsent);
  bytes = capped (a.bytes + b.bytes);
}

-- the sums with what came to one more mount
abbrev pub with_mount : MountSums → MountTally → MountSums
with_mount sums came = record sums { came = both_tallies sums.came came }

-- the sums with the account of one more player
abbrev pub with_player : MountSums → SeatAccount → MountSums
with_player sums account = record sums { players = both_accounts sums.players account }

-- each count of the track is at least what it was, or stays at 2^64 - 1
pub record IsTrackFrom (old new : Counts) : Type 0 where
  pub missing : capped old.missing ≤ new.missing
  pub late : capped old.late ≤ new.late
  pub restarts : capped old.restarts ≤ new.restarts

-- each count of each track is at least what it was, or stays at 2^64 - 1
abbrev pub AreTracksFrom : (old new : Tracks) → Type 0
AreTracksFrom old new = (track : ℕ) → track < 16 → IsTrackFrom (counts_of (at old track)) (counts_of (at new track))

-- each count of the tally is at least what it was
pub record IsTallyFrom (old new : MountTally) : Type 0 where
  pub packets : old.packets ≤ new.packets
  pub bytes : old.bytes ≤ new.bytes
  pub pinned : old.pinned ≤ new.pinned
  pub oversize : old.oversize ≤ new.oversize
  pub bad_rtp : old.bad_rtp ≤ new.bad_rtp
  pub unknown_channel : old.unknown_channel ≤ new.unknown_channel
  pub unkept : old.unkept ≤ new.unkept
  pub slowed : old.slowed ≤ new.slowed
  pub tracks : AreTracksFrom old.tracks new.tracks

-- each count of the account is at least what it was
pub record IsAccountFrom (old new : SeatAccount) : Type 0 where
  pub sent : old.sent ≤ new.sent
  pub skipped : old.skipped ≤ new.skipped
  pub lost : old.lost ≤ new.lost
  pub unsent : old.unsent ≤ new.unsent
  pub bytes : old.bytes ≤ new.bytes
