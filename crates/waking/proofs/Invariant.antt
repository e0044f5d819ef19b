-- What each step keeps, for each player.
use Rattle.std.specs.Prelude.{◌≡◌, ◌≢◌, ℕ, ◌<◌, ◌≤◌, ◌⊎◌, Bool, true, false, Some, is_some}
use Rattle.waking.specs.Machine.{Place, State, awake, between, looking, ends, asleep, marked, holds}
use Rattle.waking.specs.Laws.{View, WillAsk, WillFindMark, WillRaise, view_of}

-- a writer's sweep is over
abbrev pub is_over : Place → Bool
is_over awake = false
is_over between = false
is_over (looking player) = false
is_over ends = true
is_over asleep = true

-- the writer needn't care for the player before the word is raised, or knows that it has to
abbrev pub IsCared : View → Type 0
IsCared v = (v.writer.sweep.again ≡ true) ⊎ WillRaise v ⊎ (v.player.here ≡ false) ⊎ (v.player.due ≡ true)
    ⊎ ((v.player.attention.again ≡ true) × WillFindMark v)
    ⊎ ((v.player.attention.again ≡ false) × (v.player.waits ≡ false) × (v.player.attention.seen ≡ v.mount.player_wakeups))

pub record Sound (v : View) : Type 0 where
  -- what was read was no later than what is
  pub seen : v.player.attention.seen ≤ v.mount.player_wakeups
  pub known : v.player.known ≤ v.mount.player_wakeups
  pub read : v.writer.read ≤ v.words.writer_wakeups
  -- the waking thread comes for marks
  pub notified : 0 < v.mount.mark_count → WillAsk v
  -- what the player hadn't taken was told, or will be
  pub told : v.player.here ≡ true → v.player.stage ≢ Some holds → v.player.looked ≢ v.mount.logged
      → (v.player.attention.seen ≢ v.mount.player_wakeups) ⊎ (0 < v.mount.publishing) ⊎ (0 < v.mount.mark_count) ⊎ (0 < v.mount.telling) ⊎ (v.mount.took ≡ true)
      ⊎ (v.player.attention.again ≡ true) ⊎ (v.player.waits ≡ true)
  -- who is being looked at is looked at by its writer, which looks at nobody else
  pub looked_at : is_some v.player.stage ≡ true → v.writer.place ≡ looking v.number
  -- a look that isn't over doesn't count
  pub underway : is_some v.player.stage ≡ true → v.player.done ≡ false
  -- a wake-up after the writer read their count raises the word after the writer read that
  pub fresh : is_some v.player.stage ≡ true → v.words.writer_wakeups ≡ v.writer.read → (v.player.known ≡ v.mount.player_wakeups) ⊎ WillRaise v
  -- who took the writer's mark raises the word after that
  pub mark : v.player.stage ≡ Some marked → v.words.writer_wakeups ≡ v.writer.read → (v.player.skipped ≡ true) ⊎ WillRaise v
  -- until the word is raised, who was looked at is cared for
  pub cared : v.words.writer_wakeups ≡ v.writer.read → (v.player.done ≡ true) ⊎ (is_over v.writer.place ≡ true) → IsCared v
  pub limited : v.player.due ≡ true → is_some v.writer.sweep.later ≡ true
  pub over : is_over v.writer.place ≡ true → v.writer.sweep.again ≡ false
  -- a writer sleeps on the word that it read, or is about to be woken
  pub word : v.writer.place ≡ asleep → (v.words.writer_wakeups ≡ v.writer.read) ⊎ (0 < v.words.calling)

-- of each player
abbrev pub AllSound : State → Type 0
AllSound s = (player : ℕ) → Sound (view_of s player)
