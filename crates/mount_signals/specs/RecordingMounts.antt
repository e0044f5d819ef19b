-- The mounts that are being recorded.
use Rattle.std.specs.Prelude.{ℕ, ◌==◌, Bool, true, false, List, if◌then◌else◌}
use Rattle.mount_signals.specs.declared.mount.recording_mounts.state.RecordingMount.{RecordingMount}

-- the mounts that are being recorded, in the order in which they were added, and for how many there was room at first
pub record Recorded : Type 0 where
  pub mounts : List RecordingMount
  pub most : ℕ

-- whether the mount has another number
abbrev pub is_other : (mount : ℕ) → RecordingMount → Bool
is_other mount recorded = if recorded.mount == mount then false else true
