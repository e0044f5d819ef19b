-- Which configurations and scripts may be run, and which call of a script is its first bad one.
use Rattle.std.specs.Prelude.{◌≡◌, ◌⊎◌, ◌<◌, ◌≤◌, ℕ, Bool, true, false, Some, List, take, fold, slice_get, length}
use Rattle.std.specs.List.{list_any}
use Rattle.ring_steps.specs.declared.calls.Actor.{Actor}
use Rattle.ring_steps.specs.declared.calls.Actor.TheVariants.{P, Seat}
use Rattle.ring_steps.specs.declared.calls.PublisherCall.{PublisherCall}
use Rattle.ring_steps.specs.declared.calls.PublisherCall.TheVariants.{Publish, Close}
use Rattle.ring_steps.specs.declared.calls.SeatCall.{SeatCall}
use Rattle.ring_steps.specs.declared.calls.SeatCall.TheVariants.{Attach, Take, Detach}
use Rattle.ring_steps.specs.declared.config.Config.{Config}
use Rattle.ring_steps.specs.declared.script.Script.{Script}
use Rattle.ring_steps.specs.Runs.{Calls}

-- the calls that a script has
abbrev pub calls_of : Script → Calls
calls_of script = record { publisher = script.publisher.items; seats = script.seats.items }

-- a ring of this size may be made, and the script is for its seats
pub record IsGoodConfig (config : Config) (calls : Calls) : Type 0 where
  pub low : 1 ≤ config.keep
  pub high : config.keep ≤ 4095
  pub seats : config.seats ≤ 1024
  pub fits : length calls.seats ≡ config.seats

abbrev pub is_close : PublisherCall → Bool
is_close (Publish p) = false
is_close Close = true

-- whether one of these calls closes the log
abbrev pub is_closed_after : List PublisherCall → Bool
is_closed_after calls = list_any is_close calls

-- whether a seat is attached after this call, where it was attached before it or wasn't
abbrev pub attached_by : (attached : Bool) → SeatCall → Bool
attached_by attached (Attach n) = true
attached_by attached Take = attached
attached_by attached Detach = false

-- whether a seat that makes these calls is attached then
abbrev pub is_attached_after : List SeatCall → Bool
is_attached_after calls = fold attached_by false calls

-- a seat that is attached, or isn't, can't make this call
abbrev pub IsMisplaced : (attached : Bool) → SeatCall → Type 0
IsMisplaced true (Attach n) = Unit {0}
IsMisplaced true Take = ⊥
IsMisplaced true Detach = ⊥
IsMisplaced false (Attach n) = ⊥
IsMisplaced false Take = Unit {0}
IsMisplaced false Detach = Unit {0}

-- the publisher's n-th call comes after a close
pub record IsAfterClose (calls : List PublisherCall) (n : ℕ) : Type 0 where
  pub there : n < length calls
  pub closed : is_closed_after (take n calls) ≡ true

-- a seat's n-th call can't be made after those before it
pub record IsOutOfTurn (calls : List SeatCall) (n : ℕ) : Type 0 where
  pub call : SeatCall
  pub there : slice_get calls n ≡ Some call
  pub misplaced : IsMisplaced (is_attached_after (take n calls)) call

-- the actor's n-th call can't be made after those before it
abbrev pub IsBadCall : Calls → Actor → (n : ℕ) → Type 0
IsBadCall calls P n = IsAfterClose calls.publisher n
IsBadCall calls (Seat s) n = (own : List SeatCall) × (slice_get calls.seats s ≡ Some own) × IsOutOfTurn own n

-- a call of an actor comes before one of another in the order publisher, seat 0, seat 1 and so on, and
-- each actor's calls in their order
abbrev pub ComesBefore : Actor → ℕ → Actor → ℕ → Type 0
ComesBefore P m P n = m < n
ComesBefore P m (Seat t) n = Unit {0}
ComesBefore (Seat s) m P n = ⊥
ComesBefore (Seat s) m (Seat t) n = (s < t) ⊎ ((s ≡ t) × (m < n))

-- a bad call, before which none is bad
pub record IsFirstBad (calls : Calls) (actor : Actor) (n : ℕ) : Type 0 where
  pub bad : IsBadCall calls actor n
  pub first : (a : Actor) (m : ℕ) → ComesBefore a m actor n → ¬ IsBadCall calls a m

-- no call is bad
abbrev pub IsGoodScript : Calls → Type 0
IsGoodScript calls = (a : Actor) (n : ℕ) → ¬ IsBadCall calls a n
