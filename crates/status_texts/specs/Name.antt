-- What is shown of a name.
use Rattle.std.specs.Prelude.{ℕ, Bool, List}
use Rattle.mount_series.specs.declared.sums.MountSums.{MountSums}
use Rattle.status_texts.specs.declared.track_figures.TrackFigures.{TrackFigures}

-- the figures of the mounts of a name: the counts of its tracks by themselves, and the silence in milliseconds
pub record Figures : Type 0 where
  pub name : List ℕ
  pub sums : MountSums
  pub tracks : List TrackFigures
  pub is_live : Bool
  pub players : ℕ
  pub behind : ℕ
  pub silence : ℕ
