use Rattle.mounts.specs.Mounts.{no_mounts}
use Rattle.mounts.proofs.SoundRuns.{no_mounts_sound, sound_run}
use Rattle.mounts.proofs.laws.tables_are_sound.Goals as goal

pub returns : goal.returns
returns c seats changes table run = sound_run (no_mounts seats) changes table (no_mounts_sound seats) run
