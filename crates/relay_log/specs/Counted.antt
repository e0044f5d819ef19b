-- What was refused and left out, by kinds, and what of it is due. Moments are milliseconds.
use Rattle.std.specs.Prelude.{◌≡◌, ℕ, ◌+◌, ◌-◌, ◌^◌, false, List, [], ◌∷◌, filter, map, replicate, slice_get, slice_set, All, Option, None, Some, IsSomeAnd, if◌then◌else◌}
use Rattle.relay_accounts.specs.Capped.{capped}
use Rattle.server_counts.specs.Refusals.{place_of_refusal}
use Rattle.relay_log.specs.declared.refusal_row.RefusalRow.{RefusalRow}
use Rattle.relay_log.specs.declared.refusal_row.RefusalRow.TheVariants as rows
use Rattle.relay_log.specs.declared.refusing.state.State.{State}
use Rattle.relay_log.specs.declared.tally.Tally.{Tally}
use Rattle.relay_log.specs.Places.{IsKindAt}
use Rattle.relay_log.specs.Refusals.{IsDueCount, TellsFirst, due_of, is_kept}
use Rattle.relay_log.specs.Tallies.{IsDue, IsToldFirst, due_at, earliest}

-- the tally at this place counts one more, and the others stay as they were
abbrev pub CountsAt : (old new : List Tally) → (place : ℕ) → Type 0
CountsAt old new place = IsSomeAnd (slice_get old place) (λ tally. new ≡ slice_set old place (record tally { count = capped (tally.count + 1) }))

-- No row is due at this moment.
pub record NothingDue (state : State) (now : ℕ) : Type 0 where
  pub peers : All (λ tally. IsDue tally now → ⊥) state.tallies
  pub requests : All (λ entry. IsDueCount now entry → ⊥) state.requests
  pub ends : All (λ tally. IsDue tally now → ⊥) state.unlogged
  pub accounts : IsDue state.unlogged_accounts now → ⊥

-- the earliest of the moment that was set, and of those at which a row of requests, of peers, of ends and of accounts is due
abbrev pub first_due_of_all : State → Option ℕ
first_due_of_all state = earliest (state.moment ∷ earliest (map due_of state.requests) ∷ earliest (map due_at state.tallies) ∷ earliest (map due_at state.unlogged) ∷ due_at state.unlogged_accounts ∷ [])

-- nothing was counted, and nothing was logged
abbrev pub untouched : Tally
untouched = record { count = 0; told = None }

-- Nothing was refused or left out yet.
pub record IsEmpty (state : State) : Type 0 where
  pub tallies : state.tallies ≡ replicate 4 untouched
  pub requests : state.requests ≡ []
  pub rates : state.rates ≡ record { known = []; others = record { second = 0; count = 0 } }
  pub unlogged : state.unlogged ≡ replicate 12 untouched
  pub unlogged_accounts : state.unlogged_accounts ≡ untouched
  pub moment : state.moment ≡ None
  pub is_open : state.is_closed ≡ false

-- the moment for which rows are looked for: what was counted is reported at once if nothing is refused any more
abbrev pub reported_at : State → (now : ℕ) → ℕ
reported_at state now = if state.is_closed then 2 ^ 64 - 1 else now

-- the state without the counts of requests that are dropped at this moment
abbrev pub without_old : State → (now : ℕ) → State
without_old state now = record state { requests = filter (is_kept now) state.requests }

-- The first kind of ends that is due is this one and has this count, and then counts as written.
pub record TellsEnds (old new : State) (now : ℕ) (kind : List ℕ) (count : ℕ) : Type 0 where
  pub place : ℕ
  pub is_kind : IsKindAt place kind
  pub told : IsToldFirst old.unlogged new.unlogged now place count
  pub same : new ≡ record (without_old old now) { unlogged = new.unlogged }

-- This row is due at this moment, and then counts as written. All else stays as it was, but for counts of requests that are dropped.
abbrev pub TellsRow : (old new : State) → (now : ℕ) → RefusalRow → Type 0
TellsRow old new now (rows.Peers why count) =
    IsSomeAnd (place_of_refusal why) (λ place. IsToldFirst old.tallies new.tallies now place count) × (new ≡ record old { tallies = new.tallies })
TellsRow old new now (rows.Requests line) =
    TellsFirst (filter (is_kept now) old.requests) new.requests now line × (new ≡ record old { requests = new.requests })
TellsRow old new now (rows.Ends kind count) = TellsEnds old new now kind.now count
TellsRow old new now (rows.Accounts count) =
    IsDue old.unlogged_accounts now × (count ≡ old.unlogged_accounts.count)
    × (new ≡ record (without_old old now) { unlogged_accounts = record { count = 0; told = Some now } })
