-- When a publisher looks at its players, and when it waits for them. Numbers are numbers of packets.
use Rattle.std.specs.Prelude.{ℕ, ◌-◌, ◌/◌, nat_lt, max, if◌then◌else◌}
use Rattle.relay_fanout.specs.declared.mount.stretches.Stretches.{Stretches}
use Rattle.relay_fanout.specs.declared.mount.stretches.ForPlayers.{ForPlayers}
use Rattle.relay_fanout.specs.declared.mount.stretches.ForPlayers.TheVariants.{Nothing, Wake, GiveWay}

-- a publisher looks after each fourth of what the ring keeps, and waits where that much alone is left; both are sixteen at least
abbrev pub stretches_of : (keep : ℕ) → Stretches
stretches_of keep = record { stretch = max (keep / 4) 16; most = max (keep - max (keep / 4) 16) 16; looked = 0 }

-- What it does for players the slowest of which is so far behind: one that is a stretch behind is woken, and one that is as far behind
-- as may be is waited for, until it is half as far behind.
abbrev pub next_for : Stretches → (behind published : ℕ) → ForPlayers
next_for stretches behind published =
    if nat_lt behind stretches.stretch then Nothing
    else if nat_lt behind stretches.most then Wake
    else GiveWay (published - stretches.most / 2)
