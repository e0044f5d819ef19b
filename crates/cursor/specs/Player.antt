-- What the seats of a history are given: in each attachment the log from its start less the losses, and nothing while detached.
use Rattle.std.specs.Prelude.{◌≡◌, ◌≢◌, ℕ, ◌+◌, ◌==◌, ◌<◌, ◌≤◌, List, [], ◌∷◌, ◌++◌, length, count_by, slice_range}
use Rattle.cursor.specs.declared.packets.Packet.{Packet}
use Rattle.cursor.specs.declared.calls.Answer.{Answer}
use Rattle.cursor.specs.declared.calls.Answer.TheVariants.{Appended}
use Rattle.cursor.specs.declared.calls.Call.TheVariants.{Attach}
use Rattle.cursor.specs.declared.takes.Delivery.{Delivery}
use Rattle.cursor.specs.declared.takes.Left.{Left}
use Rattle.cursor.specs.Account.{StaysAttached, account_of, cursor_of, lies_in, losses, positions, received, takes_of, without}
use Rattle.cursor.specs.Log.{Event, attached_at, back_from, detached_with}

-- a seat that began at `start` and was given these answers received, in order, the packets from there to
-- its cursor less exactly the losses: each number between is that of one packet or lies in one loss
pub record ReceivedFrom (packets : List Packet) (start : ℕ) (answers : List Delivery) : Type 0 where
  pub in_order : received answers ≡ without (losses start answers) start (slice_range packets start (cursor_of (account_of start answers)))
  pub within : cursor_of (account_of start answers) ≤ length packets
  pub once : (n : ℕ) → start ≤ n → n < cursor_of (account_of start answers)
      → count_by (λ m. m == n) (positions answers) + count_by (lies_in n) (losses start answers) ≡ 1

-- how many packets an answer, and these events, append to the log
abbrev pub appended_by : Answer → ℕ
appended_by (Appended n) = 1
appended_by answer = 0

abbrev pub appended : List Event → ℕ
appended [] = 0
appended (e ∷ es) = appended_by e.answer + appended es

-- the seat isn't attached in these events
abbrev pub StaysOut : (seat : ℕ) → List Event → Type 0
StaysOut s [] = Unit {0}
StaysOut s (e ∷ es) = ((back : ℕ) → e.call ≢ Attach s back) × StaysOut s es

-- what the seats of a history with these packets are given, where so many are kept: in each attachment the
-- log from its start, which is the number of packets asked for back from the length that the log had then,
-- less the losses; and nothing between a detachment and the next attachment or before the first one
pub record PlayersReceive (keep : ℕ) (events : List Event) (packets : List Packet) : Type 0 where
  pub attached : (seat back start : ℕ) (before during after : List Event) → events ≡ before ++ (attached_at seat back start ∷ during) ++ after → StaysAttached seat during
      → (start ≡ back_from keep back (appended before)) × ReceivedFrom packets start (takes_of seat during)
  pub detached : (seat : ℕ) (left : Left) (before out after : List Event) → events ≡ before ++ (detached_with seat left ∷ out) ++ after → StaysOut seat out → takes_of seat out ≡ []
  pub unattached : (seat : ℕ) (out after : List Event) → events ≡ out ++ after → StaysOut seat out → takes_of seat out ≡ []
