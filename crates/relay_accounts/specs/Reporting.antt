-- What is reported of a mount while it goes on.
use Rattle.std.specs.Prelude.{ℕ, ◌+◌, ◌-◌, None, replicate}
use Rattle.publisher.specs.declared.fate.Fate.{Fate}
use Rattle.publisher.specs.declared.fate.Fate.TheVariants as fate
use Rattle.sequence_counts.specs.Tracks.{tracks_since}
use Rattle.relay_accounts.specs.declared.mount_tally.MountTally.{MountTally}
use Rattle.relay_accounts.specs.Capped.{capped}

-- no frame came to a mount
abbrev pub nothing_published : MountTally
nothing_published = record {
  packets = 0;
  bytes = 0;
  pinned = 0;
  oversize = 0;
  bad_rtp = 0;
  unknown_channel = 0;
  unkept = 0;
  slowed = 0;
  tracks = replicate 16 None;
}

-- how many frames came to a mount
abbrev pub came_to_mount : MountTally → ℕ
came_to_mount tally = tally.packets + tally.pinned + tally.oversize + tally.bad_rtp + tally.unknown_channel + tally.unkept

-- the tally with one more frame, which has this number of bytes and met this fate
abbrev pub with_fate : MountTally → Fate → (bytes : ℕ) → MountTally
with_fate tally (fate.Published tag) bytes = record tally { packets = capped (tally.packets + 1); bytes = capped (tally.bytes + bytes) }
with_fate tally fate.Pinned bytes = record tally { pinned = capped (tally.pinned + 1) }
with_fate tally fate.Oversize bytes = record tally { oversize = capped (tally.oversize + 1) }
with_fate tally fate.BadRtp bytes = record tally { bad_rtp = capped (tally.bad_rtp + 1) }
with_fate tally fate.Stranger bytes = record tally { unknown_channel = capped (tally.unknown_channel + 1) }
with_fate tally fate.Worn bytes = record tally { unkept = capped (tally.unkept + 1) }
with_fate tally fate.Unkept bytes = record tally { unkept = capped (tally.unkept + 1) }

-- what came between two moments of one mount
abbrev pub published_since : (tally earlier : MountTally) → MountTally
published_since tally earlier = record {
  packets = tally.packets - earlier.packets;
  bytes = tally.bytes - earlier.bytes;
  pinned = tally.pinned - earlier.pinned;
  oversize = tally.oversize - earlier.oversize;
  bad_rtp = tally.bad_rtp - earlier.bad_rtp;
  unknown_channel = tally.unknown_channel - earlier.unknown_channel;
  unkept = tally.unkept - earlier.unkept;
  slowed = tally.slowed - earlier.slowed;
  tracks = tracks_since tally.tracks earlier.tracks;
}
