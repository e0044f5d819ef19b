-- The players of a writer.
use Rattle.std.specs.Prelude.{ℕ, ◌≡◌, ◌≢◌, ◌<◌, ◌≤◌, ◌==◌, Bool, true, false, Option, None, Some, List, Any, length, nat_lt, slice_get, slice_set, if◌then◌else◌}
use Rattle.relay_fanout.specs.declared.sending.player_list.Listed.{Listed}

-- who is in a writer's list, in the order in which they are looked at, and how often one came or left
pub record Listing (P : Type 0) : Type 0 where
  pub listed : List (Listed P)
  pub changes : ℕ

-- the player came when the list had changed less often
abbrev pub CameBefore : {P : Type 0} → (changes : ℕ) → Listed P → Type 0
CameBefore changes entry = entry.turn < changes

-- somebody has this turn
abbrev pub HasTurn : {P : Type 0} → List (Listed P) → (turn : ℕ) → Type 0
HasTurn listed turn = Any (λ entry. entry.turn ≡ turn) listed

-- whether the player has another turn
abbrev pub is_other : {P : Type 0} → (turn : ℕ) → Listed P → Bool
is_other turn entry = if entry.turn == turn then false else true

-- how often a list has changed that has become this one: once if somebody was taken out
abbrev pub taken_out : {P : Type 0} → (old new : List (Listed P)) → ℕ
taken_out old new = if nat_lt (length new) (length old) then 1 else 0

-- what a look left of a player: until how many wake-ups there is nothing to do for it
abbrev pub left : {P : Type 0} → (turn : ℕ) → (quiet : Option ℕ) → Listed P → Listed P
left turn quiet entry = if entry.turn == turn then record entry { quiet = quiet } else entry

-- what a look left is noted of who is at this place, if it has this turn
abbrev pub noted_of : {P : Type 0} → Option (Listed P) → (place turn : ℕ) → (quiet : Option ℕ) → List (Listed P) → List (Listed P)
noted_of None place turn quiet listed = listed
noted_of (Some entry) place turn quiet listed = slice_set listed place (left turn quiet entry)

-- the list after that
abbrev pub noted_at : {P : Type 0} → (place turn : ℕ) → (quiet : Option ℕ) → List (Listed P) → List (Listed P)
noted_at place turn quiet listed = noted_of (slice_get listed place) place turn quiet listed

-- a sweep may pass over this player: its last look left nothing to do until there is another wake-up of its mount's players, and there was none
abbrev pub IsPassed : {P : Type 0} → (were_woken : P → ℕ → Type 0) → Listed P → Type 0
IsPassed were_woken entry = (seen : ℕ) × (entry.quiet ≡ Some seen) × were_woken entry.player seen

-- it is to look at this one
abbrev pub IsToBeLookedAt : {P : Type 0} → (were_woken : P → ℕ → Type 0) → Listed P → Type 0
IsToBeLookedAt were_woken entry = (seen : ℕ) × (entry.quiet ≢ Some seen) × were_woken entry.player seen

-- it may pass over each player from one place to another
abbrev pub ArePassed : {P : Type 0} → (were_woken : P → ℕ → Type 0) → (from to : ℕ) → List (Listed P) → Type 0
ArePassed {P} were_woken from to listed = (place : ℕ) (entry : Listed P) → from ≤ place → place < to → slice_get listed place ≡ Some entry → IsPassed were_woken entry
