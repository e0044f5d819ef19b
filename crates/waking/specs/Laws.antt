-- What holds over every schedule of the machine of wake-ups.
use Rattle.std.specs.Prelude.{◌≡◌, ◌≢◌, ℕ, ◌<◌, ◌⊎◌, true, false, is_some}
use Rattle.waking.specs.Machine.{Mount, Player, State, Words, Writer, asleep}

-- all that a player's fate hangs on
pub record View : Type 0 where
  pub number : ℕ
  pub words : Words
  pub mount : Mount
  pub player : Player
  pub writer : Writer

-- what that is for a player
abbrev pub view_of : State → (player : ℕ) → View
view_of s p = record { number = p; words = s.words; mount = s.mounts (s.mount_of p); player = s.players p; writer = s.writers (s.writer_of p) }

-- the waking thread was notified, or is about to be, or has yet to ask the mount
abbrev pub WillAsk : View → Type 0
WillAsk v = (v.words.notified ≡ true) ⊎ (0 < v.mount.notifying) ⊎ (v.mount.asked ≡ false)

-- a thread that has the line, or waits for it, or has just given it back, will find it marked
abbrev pub WillFindMark : View → Type 0
WillFindMark v = (v.player.skipped ≡ true) × ((0 < v.player.replying) ⊎ (0 < v.player.parting))

-- somebody is about to raise the word for the player's mount or for the player
abbrev pub WillRaise : View → Type 0
WillRaise v = (0 < v.mount.raising) ⊎ (v.mount.owed ≡ true) ⊎ (0 < v.player.raising)

-- somebody is on the way to wake the player's writer: who hasn't told yet what he put into the log, the waking thread that will
-- find the mount marked, who is about to count a wake-up, to raise the word or to wake who sleeps on it, or who will find the
-- line marked
abbrev pub IsComing : View → Type 0
IsComing v = (0 < v.mount.publishing) ⊎ ((0 < v.mount.mark_count) × WillAsk v) ⊎ (0 < v.mount.telling) ⊎ (v.mount.took ≡ true)
    ⊎ WillRaise v ⊎ (0 < v.words.calling) ⊎ WillFindMark v

-- the player is to be looked at: there is something in the log that it hadn't taken, or it came, used up its takes or was skipped,
-- or it waits for its socket
abbrev pub IsToBeLookedAt : View → Type 0
IsToBeLookedAt v = (v.player.looked ≢ v.mount.logged) ⊎ (v.player.attention.again ≡ true) ⊎ (v.player.waits ≡ true)

-- its writer's sleep ends by itself, since the writer is to look at this player again after a time
abbrev pub IsTimed : View → Type 0
IsTimed v = (v.player.due ≡ true) × (is_some v.writer.sweep.later ≡ true)

-- while its writer sleeps, a player that is to be looked at isn't forgotten
abbrev pub IsRemembered : View → Type 0
IsRemembered v = v.writer.place ≡ asleep → v.player.here ≡ true → IsToBeLookedAt v → IsComing v ⊎ IsTimed v
