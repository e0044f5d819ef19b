-- A writer's sweep between two players.
use Rattle.std.specs.Prelude.{◌≡◌, ◌≤◌, ℕ, ◌+◌, ◌⊎◌, Option, filter, length, false, None, IsSomeAnd, slice_get}
use Rattle.waking.specs.declared.sweep.Next.{Next}
use Rattle.waking.specs.declared.sweep.Next.TheVariants.{Sleep, Again, Later, Over}
use Rattle.waking.specs.declared.sweep.Sweep.{Sweep}
use Rattle.mount_signals.specs.declared.wake.writers_word.WordRead.{WordRead}
use Rattle.relay_fanout.specs.PlayerLists.{ArePassed, IsToBeLookedAt, Listing, is_other, noted_at}
use Rattle.relay_fanout.specs.declared.sending.sweeping.Found.{Found}
use Rattle.relay_fanout.specs.declared.sending.sweeping.Found.TheVariants.{Player, NoMore}

-- the place of the next player: the same one where this player is taken out
abbrev pub place_after : Next → (place : ℕ) → ℕ
place_after Sleep place = place + 1
place_after Again place = place + 1
place_after (Later time) place = place + 1
place_after Over place = place

-- the sweep goes on with the word that was read first, and with what was next for its players so far
abbrev pub GoesOnWith : {P : Type 0} → WordRead → Sweep → Found P → Type 0
GoesOnWith word sweep (Player player at_player) = (at_player.sweeping.word ≡ word) × (at_player.sweeping.sweep ≡ sweep)
GoesOnWith word sweep (NoMore swept) = (swept.word ≡ word) × (swept.sweep ≡ sweep)

-- all from this place to another were passed over, and who is there can't have one more owner
abbrev pub StopsAtRefusal : {P : Type 0} → (were_woken : P → ℕ → Type 0) → (was_refused : P → Type 0) → Listing P → (place : ℕ) → Type 0
StopsAtRefusal were_woken was_refused list place = (at : ℕ) × ArePassed were_woken place at list.listed × IsSomeAnd (slice_get list.listed at) (λ entry. was_refused entry.player)

-- who was found is in the list, and all from this place to there were passed over; or all to the list's end were, and it has changed so often
abbrev pub IsNextOf : {P S : Type 0} → (were_woken : P → ℕ → Type 0) → (was_refused : P → Type 0) → Listing P → (place : ℕ) → Found S → Type 0
IsNextOf were_woken was_refused list place (Player player at_player) = (place ≤ at_player.sweeping.place) × ArePassed were_woken place at_player.sweeping.place list.listed
    × IsSomeAnd (slice_get list.listed at_player.sweeping.place) (λ entry. (entry.turn ≡ at_player.turn) × IsToBeLookedAt were_woken entry)
IsNextOf were_woken was_refused list place (NoMore swept) = (swept.changes ≡ list.changes)
    × (ArePassed were_woken place (length list.listed) list.listed ⊎ StopsAtRefusal were_woken was_refused list place)

-- what a look leaves of the list: one that has nothing more to send is taken out, and of another it is noted for how long it is quiet
abbrev pub IsLeft : {P : Type 0} → Next → (place turn : ℕ) → (quiet : Option ℕ) → (old new : Listing P) → Type 0
IsLeft Sleep place turn quiet old new = new ≡ record old { listed = noted_at place turn quiet old.listed }
IsLeft Again place turn quiet old new = new ≡ record old { listed = noted_at place turn quiet old.listed }
IsLeft (Later time) place turn quiet old new = new ≡ record old { listed = noted_at place turn quiet old.listed }
IsLeft Over place turn quiet old new = new.listed ≡ filter (is_other turn) old.listed

-- nothing was next for anybody yet
abbrev pub IsFirst : Sweep → Type 0
IsFirst sweep = (sweep.again ≡ false) × (sweep.later ≡ None)

-- the sweep begins with this word
abbrev pub Begins : {P : Type 0} → WordRead → Found P → Type 0
Begins word (Player player at_player) = (at_player.sweeping.word ≡ word) × IsFirst at_player.sweeping.sweep
Begins word (NoMore swept) = (swept.word ≡ word) × IsFirst swept.sweep
