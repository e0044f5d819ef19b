-- The refused peers that stay a moment.
use Rattle.std.specs.Prelude.{ℕ, ◌<◌, List, [], ◌∷◌, Option, None, Some}
use Rattle.relay_server.specs.declared.listen.refused_peers.state.Leaver.{Leaver}

-- when the first of them is to be closed
abbrev pub next_moment : {Peer : Type 0} → List (Leaver Peer) → Option ℕ
next_moment [] = None
next_moment (first ∷ others) = Some first.due

-- the first of them isn't to be closed yet
abbrev pub NoneIsDue : {Peer : Type 0} → List (Leaver Peer) → (now : ℕ) → Type 0
NoneIsDue [] now = Unit {0}
NoneIsDue (first ∷ others) now = now < first.due
