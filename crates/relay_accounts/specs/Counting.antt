-- What becomes of the counts of a connection.
use Rattle.std.specs.Prelude.{ℕ, ◌+◌, ◌-◌, min}
use Rattle.cursor.specs.declared.takes.Left.{Left}
use Rattle.publisher.specs.declared.report.InReport.{InReport}
use Rattle.relay_accounts.specs.declared.counts.Counts.{Counts}
use Rattle.relay_accounts.specs.declared.handover.HandedOver.{HandedOver}
use Rattle.relay_accounts.specs.declared.seat_account.SeatAccount.{SeatAccount}
use Rattle.relay_accounts.specs.Capped.{capped}

-- no packet came and none went
abbrev pub nothing_counted : Counts
nothing_counted = record {
  published = 0;
  pinned = 0;
  oversize = 0;
  bad_rtp = 0;
  unknown_channel = 0;
  unkept = 0;
  strangers = 0;
  sent = 0;
  skipped = 0;
  lost = 0;
  unsent = 0;
  slowed = 0;
  missing = 0;
}

-- how many frames came while the connection recorded
abbrev pub came_in : Counts → ℕ
came_in counts = counts.published + counts.pinned + counts.oversize + counts.bad_rtp + counts.unknown_channel + counts.unkept

-- how many packets were published while the connection had a seat
abbrev pub accounted : Counts → ℕ
accounted counts = counts.sent + counts.skipped + counts.lost + counts.unsent

-- the counts with the report of the frames of a stretch of recording; a frame that had no number is counted with those that
-- had no memory
abbrev pub with_report : Counts → InReport → Counts
with_report counts report = record counts {
  published = capped (counts.published + report.published);
  pinned = capped (counts.pinned + report.pinned);
  oversize = capped (counts.oversize + report.oversize);
  bad_rtp = capped (counts.bad_rtp + report.bad_rtp);
  unknown_channel = capped (counts.unknown_channel + report.strangers);
  unkept = capped (counts.unkept + report.worn + report.unkept);
}

-- the counts with this number of frames that came while nothing was recorded
abbrev pub with_strangers : Counts → ℕ → Counts
with_strangers counts frames = record counts { strangers = capped (counts.strangers + frames) }

-- how many of the packets that a seat took were skipped by its sender, at most as many as it took
abbrev pub skipped_of : Left → HandedOver → ℕ
skipped_of left handed = min handed.skipped left.taken

-- how many of the others it sent
abbrev pub sent_of : Left → HandedOver → ℕ
sent_of left handed = min handed.sent (left.taken - skipped_of left handed)

-- The account of a seat that was left, of a ring that keeps `keep` packets. Of the packets after its cursor only the last
-- `keep` are still there; the others are lost. What was taken and neither sent nor skipped is unsent.
abbrev pub account_of : Left → HandedOver → (keep : ℕ) → SeatAccount
account_of left handed keep = record {
  sent = sent_of left handed;
  skipped = skipped_of left handed;
  lost = capped (left.lost + (left.left - keep));
  unsent = capped (left.taken - skipped_of left handed - sent_of left handed + min left.left keep);
  bytes = handed.bytes;
}

-- how many packets were published while the seat was taken that this is the account of
abbrev pub published_in : SeatAccount → ℕ
published_in account = capped (account.sent + account.skipped + account.lost + account.unsent)

-- the counts with the account of a seat that was left
abbrev pub with_account : Counts → SeatAccount → Counts
with_account counts account = record counts {
  sent = capped (counts.sent + account.sent);
  skipped = capped (counts.skipped + account.skipped);
  lost = capped (counts.lost + account.lost);
  unsent = capped (counts.unsent + account.unsent);
}

-- What a player would have lost if it left its seat now: those that were reported lost, and of those that were published
-- after its cursor the ones that its ring keeps no longer.
abbrev pub lost_by_now : (lost cursor published keep : ℕ) → ℕ
lost_by_now lost cursor published keep = capped (lost + (published - cursor - keep))

-- the counts with the milliseconds for which packets waited
abbrev pub with_wait : Counts → (milliseconds : ℕ) → Counts
with_wait counts milliseconds = record counts { slowed = capped (counts.slowed + milliseconds) }

-- the counts with this number of packets that were missing when they came
abbrev pub with_missing : Counts → (packets : ℕ) → Counts
with_missing counts packets = record counts { missing = capped (counts.missing + packets) }

-- what was counted between two moments of one connection
abbrev pub counted_since : (counts earlier : Counts) → Counts
counted_since counts earlier = record {
  published = counts.published - earlier.published;
  pinned = counts.pinned - earlier.pinned;
  oversize = counts.oversize - earlier.oversize;
  bad_rtp = counts.bad_rtp - earlier.bad_rtp;
  unknown_channel = counts.unknown_channel - earlier.unknown_channel;
  unkept = counts.unkept - earlier.unkept;
  strangers = counts.strangers - earlier.strangers;
  sent = counts.sent - earlier.sent;
  skipped = counts.skipped - earlier.skipped;
  lost = counts.lost - earlier.lost;
  unsent = counts.unsent - earlier.unsent;
  slowed = counts.slowed - earlier.slowed;
  missing = counts.missing - earlier.missing;
}

-- how many packets of a mount were lost or refused
abbrev pub losses : Counts → ℕ
losses counts = counts.pinned + counts.oversize + counts.bad_rtp + counts.unknown_channel + counts.unkept + counts.lost
