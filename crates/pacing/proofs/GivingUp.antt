-- Players that are given up.
use Rattle.std.proofs.Common.{◌≡◌, List, [], ◌∷◌, map, refl}
use Rattle.pacing.specs.declared.standing.Standing.{Standing}
use Rattle.pacing.specs.declared.standing.Standing.TheVariants.{Absent, Behind, Level, Awaited}
use Rattle.pacing.specs.Rounds.{awaited, given_up}

-- nobody is awaited any more
pub none_awaited : (players : List Standing) → awaited (map given_up players) ≡ 0
none_awaited [] = refl
none_awaited (Absent ∷ players) = none_awaited players
none_awaited (Behind ∷ players) = none_awaited players
none_awaited (Level at ∷ players) = none_awaited players
none_awaited (Awaited ∷ players) = none_awaited players
