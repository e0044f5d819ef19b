-- What becomes of the frames that the source sends.
use Rattle.std.specs.Prelude.{◌≡◌, ℕ, ◌+◌, ◌-◌, ◌^◌, min}
use Rattle.rtsp_client.specs.declared.frame_account.FrameFate.{FrameFate}
use Rattle.rtsp_client.specs.declared.frame_account.FrameFate.TheVariants.{Waits, UnknownChannel, BeforeRecording, Unsent}

-- what became of the frames that came
pub record Frames : Type 0 where
  pub came : ℕ
  pub sent : ℕ
  pub unknown_channel : ℕ
  pub before_recording : ℕ
  pub unsent : ℕ

-- a count that would exceed 2^64 - 1 stays at 2^64 - 1
abbrev pub capped : ℕ → ℕ
capped n = min n (2 ^ 64 - 1)

-- each frame that came is counted once
abbrev pub AreCounted : (came sent unknown_channel before_recording unsent : ℕ) → Type 0
AreCounted came sent unknown_channel before_recording unsent = came ≡ capped (sent + unknown_channel + before_recording + unsent)

abbrev pub no_frames : Frames
no_frames = record { came = 0; sent = 0; unknown_channel = 0; before_recording = 0; unsent = 0 }

-- a frame more
abbrev pub with_frame : Frames → FrameFate → Frames
with_frame frames (Waits channel) = record frames { came = capped (frames.came + 1); unsent = capped (frames.unsent + 1) }
with_frame frames UnknownChannel = record frames { came = capped (frames.came + 1); unknown_channel = capped (frames.unknown_channel + 1) }
with_frame frames BeforeRecording = record frames { came = capped (frames.came + 1); before_recording = capped (frames.before_recording + 1) }
with_frame frames Unsent = record frames { came = capped (frames.came + 1); unsent = capped (frames.unsent + 1) }

-- of the frames that wait so many are sent, at most all
abbrev pub with_sent : Frames → (count : ℕ) → Frames
with_sent frames count = record frames {
  sent = capped (frames.sent + min count frames.unsent);
  unsent = frames.unsent - min count frames.unsent;
}
