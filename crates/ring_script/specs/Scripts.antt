-- The script that call lines make: each actor's calls in the order of its lines.
use Rattle.std.specs.Prelude.{ℕ, ◌==◌, zero, suc, if◌then◌else◌, List, [], ◌∷◌, ◌++◌, slice_set, slice_index_or}
use Rattle.ring_steps.specs.declared.calls.PublisherCall.{PublisherCall}
use Rattle.ring_steps.specs.declared.calls.SeatCall.{SeatCall}
use Rattle.ring_steps.specs.Runs.{Calls}
use Rattle.ring_script.specs.declared.call_line.CallLine.{CallLine}
use Rattle.ring_script.specs.declared.call_line.CallLine.TheVariants.{ByPublisher, BySeat}
use Rattle.ring_script.specs.declared.plan.Plan.{Plan}

-- the calls of the publisher
abbrev pub publisher_calls : List CallLine → List PublisherCall
publisher_calls [] = []
publisher_calls (ByPublisher call ∷ lines) = call ∷ publisher_calls lines
publisher_calls (BySeat seat call ∷ lines) = publisher_calls lines

-- the calls of one seat
abbrev pub seat_calls : (seat : ℕ) → List CallLine → List SeatCall
seat_calls n [] = []
seat_calls n (ByPublisher call ∷ lines) = seat_calls n lines
seat_calls n (BySeat seat call ∷ lines) = if seat == n then call ∷ seat_calls n lines else seat_calls n lines

-- the calls of each of so many seats, from this seat on
abbrev pub seats_from : (first count : ℕ) → List CallLine → List (List SeatCall)
seats_from first zero lines = []
seats_from first (suc count) lines = seat_calls first lines ∷ seats_from (suc first) count lines

unfoldable pub all_seats : (seats : ℕ) → List CallLine → List (List SeatCall)
all_seats seats lines = seats_from 0 seats lines

abbrev pub script_of : Plan → Calls
script_of plan = record { publisher = publisher_calls plan.calls; seats = all_seats plan.config.seats plan.calls }

-- a table of calls with one more call of this seat, if the seat is there
abbrev pub put_call : List (List SeatCall) → (seat : ℕ) → SeatCall → List (List SeatCall)
put_call table seat call = slice_set table seat (slice_index_or table seat [] ++ call ∷ [])
