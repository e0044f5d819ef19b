-- The controls of a description as it is written.
use Rattle.std.proofs.Common.{ℕ, ◌+◌, List, [], ◌∷◌}
use Rattle.sdp.specs.declared.track.Track.{Track}
use Rattle.sdp.specs.Written.{AreSameTracks}
use Rattle.client_laws.specs.Publishing.{AreNumbered}

pub are_numbered : (first : ℕ) (tracks others : List Track) → AreSameTracks first tracks others → AreNumbered first others
are_numbered first [] [] same = tt
are_numbered first [] (other ∷ others) same = absurd same
are_numbered first (track ∷ tracks) [] same = absurd same
are_numbered first (track ∷ tracks) (other ∷ others) same = (same.2, are_numbered (first + 1) tracks others same.3)
