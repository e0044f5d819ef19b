-- Numbers with names: how many packets had each result, and how many connections were refused for each reason.
use Rattle.std.specs.Prelude.{ℕ, List, [], ◌∷◌, codes}
use Rattle.relay_accounts.specs.declared.mount_tally.MountTally.{MountTally}
use Rattle.relay_accounts.specs.declared.seat_account.SeatAccount.{SeatAccount}
use Rattle.server_counts.specs.declared.figures.RefusedConnections.{RefusedConnections}

-- a number and its name
pub record NamedNumber : Type 0 where
  pub name : List ℕ
  pub value : ℕ

abbrev pub called : (name : List ℕ) → (value : ℕ) → NamedNumber
called name value = record { name = name; value = value }

-- what became of the frames that came to a mount
abbrev pub packet_counts : MountTally → List NamedNumber
packet_counts came =
    called (codes "published") came.packets
    ∷ called (codes "pinned") came.pinned
    ∷ called (codes "too_long") came.oversize
    ∷ called (codes "bad_rtp") came.bad_rtp
    ∷ called (codes "unknown_channel") came.unknown_channel
    ∷ called (codes "no_memory") came.unkept
    ∷ []

-- what became of the packets that were published while players had a seat
abbrev pub player_counts : SeatAccount → List NamedNumber
player_counts players =
    called (codes "sent") players.sent
    ∷ called (codes "skipped") players.skipped
    ∷ called (codes "lost") players.lost
    ∷ called (codes "unsent") players.unsent
    ∷ []

-- how many connections were refused for each reason
abbrev pub refusal_counts : RefusedConnections → List NamedNumber
refusal_counts refused =
    called (codes "full") refused.full
    ∷ called (codes "address_full") refused.address_full
    ∷ called (codes "out_of_memory") refused.out_of_memory
    ∷ called (codes "no_thread") refused.no_thread
    ∷ called (codes "not_accepted") refused.not_accepted
    ∷ []
