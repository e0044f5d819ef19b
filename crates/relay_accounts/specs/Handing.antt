-- Frames on their way from a ring to the system.
use Rattle.std.specs.Prelude.{ℕ, ◌+◌, Bool, List, count_by, filter, nat_le, sum_by}
use Rattle.relay_accounts.specs.declared.handover.HandedOver.{HandedOver}
use Rattle.relay_accounts.specs.declared.handover.WaitingFrame.{WaitingFrame}
use Rattle.relay_accounts.specs.Capped.{capped}

-- the model of a handover: how many frames the system took before those that wait, how many packets were skipped, how many bytes
-- the packets of the frames have that the system took, and the frames that wait
pub record Handing : Type 0 where
  pub sent : ℕ
  pub skipped : ℕ
  pub bytes : ℕ
  pub waiting : List WaitingFrame

-- the system has taken the frame's last byte if it has taken the bytes before this place
abbrev pub is_sent : (taken : ℕ) → WaitingFrame → Bool
is_sent taken frame = nat_le frame.end taken

-- these bytes and those of the packets of these frames
abbrev pub with_bytes_of : (bytes : ℕ) → List WaitingFrame → ℕ
with_bytes_of bytes frames = capped (bytes + sum_by (λ frame. frame.bytes) frames)

-- what was handed over once the system has taken the bytes before this place: a frame is sent once its last byte is, and the bytes
-- of its packet count from then on
abbrev pub handed_by : Handing → (taken : ℕ) → HandedOver
handed_by handing taken = record {
  sent = capped (handing.sent + count_by (is_sent taken) handing.waiting);
  skipped = handing.skipped;
  bytes = with_bytes_of handing.bytes (filter (is_sent taken) handing.waiting);
}
