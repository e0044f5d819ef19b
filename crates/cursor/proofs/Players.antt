-- what the seats of a legal history are given
use Rattle.std.proofs.Common.{◌≡◌, ◌≢◌, ℕ, ◌+◌, Option, Some, None, List, [], ◌∷◌, ◌++◌, zero, suc, length, length-append, arith, refl, sym, ◌∙◌, ap, subst, inl, inr, append-nil, append_assoc, replicate, slice_get, slice_range}
use Rattle.std.proofs.lemmas.Bool.Decides.{eqb_tells}
use Rattle.cursor.specs.declared.packets.Packet.{Packet}
use Rattle.cursor.specs.declared.takes.Delivery.{Delivery}
use Rattle.cursor.specs.declared.takes.Delivery.TheVariants.{Got, Lost, Empty, Ended}
use Rattle.cursor.specs.declared.takes.Left.{Left}
use Rattle.cursor.specs.declared.calls.Call.{Call}
use Rattle.cursor.specs.declared.calls.Call.TheVariants.{Publish, Close, Attach, Take, Detach}
use Rattle.cursor.specs.declared.calls.Answer.{Answer}
use Rattle.cursor.specs.declared.calls.Answer.TheVariants.{Appended, Refused, Closed, Attached, Taken, Detached}
use Rattle.cursor.specs.Account.{StaysAttached, losses, take_of, takes_of, without}
use Rattle.cursor.proofs.Counting.{read_place}
use Rattle.cursor.specs.Log.{Event, LegalHistory, Log, LogEvent, Run, attached_at, back_from, detached_with, empty_log, with_cursor}
use Rattle.cursor.specs.Player.{PlayersReceive, ReceivedFrom, StaysOut, appended, appended_by}
use Rattle.cursor.proofs.Attachments.{Run-split, Settles, Settles-grows, Settles-within, reached, read_other}
use Rattle.cursor.proofs.Kept.{received-without}
use Rattle.cursor.proofs.Positions.{once}

-- the packets of a log that goes on by so many
abbrev pub Continues : (count : ℕ) → List Packet → List Packet → Type 0
Continues count old new = (more : List Packet) × (new ≡ old ++ more) × (length more ≡ count)

same_packets : (old new : List Packet) → new ≡ old → Continues 0 old new
same_packets old new e = ([], e ∙ sym (append-nil old), refl)

event_continues : (keep : ℕ) (old new : Log) (call : Call) (answer : Answer) → LogEvent keep old call answer new → Continues (appended_by answer) old.packets new.packets
event_continues keep old new (Publish p) (Appended n) h = (p ∷ [], ap (λ (l : Log). l.packets) h.2, refl)
event_continues keep old new (Publish p) Refused h = same_packets old.packets new.packets (ap (λ (l : Log). l.packets) h.1)
event_continues keep old new Close Closed h = same_packets old.packets new.packets (ap (λ (l : Log). l.packets) h.1)
event_continues keep old new (Attach s m) (Attached c) h = same_packets old.packets new.packets (ap (λ (l : Log). l.packets) h.2)
event_continues keep old new (Take s) (Taken (Got n p)) h = same_packets old.packets new.packets (ap (λ (l : Log). l.packets) h.3)
event_continues keep old new (Take s) (Taken (Lost k)) h = same_packets old.packets new.packets (ap (λ (l : Log). l.packets) h.4)
event_continues keep old new (Take s) (Taken Empty) h = same_packets old.packets new.packets (ap (λ (l : Log). l.packets) h.2)
event_continues keep old new (Take s) (Taken Ended) h = same_packets old.packets new.packets (ap (λ (l : Log). l.packets) h.2)
event_continues keep old new (Detach s) (Detached l) h = same_packets old.packets new.packets (ap (λ (l : Log). l.packets) h.3)
event_continues keep old new call answer h = absurd h

run_continues : (keep : ℕ) (old : Log) (events : List Event) (new : Log) → Run keep old events new → Continues (appended events) old.packets new.packets
run_continues keep old [] new run = same_packets old.packets new.packets (ap (λ (l : Log). l.packets) run)
run_continues keep old (e ∷ es) new run =
    let first = event_continues keep old run.0 e.call e.answer run.1 in
    let rest = run_continues keep run.0 es new run.2 in
    (first.0 ++ rest.0, rest.1 ∙ ap (λ ps. ps ++ rest.0) first.1 ∙ append_assoc old.packets first.0 rest.0, omega (arith, length-append first.0 rest.0, first.2, rest.2))

-- a seat is attached as far back from the length of the log as it asked for
attached_back : (keep seats : ℕ) (before during : List Event) (log : Log) (seat back start : ℕ) → LegalHistory keep seats (before ++ (attached_at seat back start ∷ during)) log
    → start ≡ back_from keep back (appended before)
attached_back keep seats before during log seat back start legal =
    let parts = Run-split keep (empty_log seats) before (attached_at seat back start ∷ during) log legal in
    let more = run_continues keep (empty_log seats) before parts.0 parts.1 in
    parts.2.1.1 ∙ ap (back_from keep back) (ap (λ (ps : List Packet). length ps) more.1 ∙ more.2)

-- what an attachment was given, in a history that goes on
attached_receives : (keep seats : ℕ) (events : List Event) (log : Log) → LegalHistory keep seats events log → (seat back start : ℕ) (before during after : List Event)
    → events ≡ before ++ (attached_at seat back start ∷ during) ++ after → StaysAttached seat during → (start ≡ back_from keep back (appended before)) × ReceivedFrom log.packets start (takes_of seat during)
attached_receives keep seats events log legal seat back start before during after is stays =
    let answers = takes_of seat during in
    let split = Run-split keep (empty_log seats) (before ++ (attached_at seat back start ∷ during)) after log (subst (λ (es : List Event). Run keep (empty_log seats) es log) is legal) in
    let mid = split.0 in
    let at = reached keep seats seat back start before during mid (record { legal = split.1; stays = stays }) in
    let more = run_continues keep mid after log split.2 in
    let settles : Settles log.packets start answers at.to =
    subst (λ (ps : List Packet). Settles ps start answers at.to) (sym more.1) (Settles-grows mid.packets more.0 start answers at.to at.settles) in
    let adds = at.adds in (
      attached_back keep seats before during mid seat back start split.1,
      record {
        in_order = received-without log.packets start answers at.to settles (losses start answers) (λ n above. refl) ∙ ap (λ e. without (losses start answers) start (slice_range log.packets start e)) (sym adds);
        within = rw adds (Settles-within log.packets start answers at.to settles);
        once = λ n above below. once log.packets start answers at.to n settles above (rw (← adds) below);
      },
    )

-- the seat has no cursor
abbrev pub IsOut : Log → (seat : ℕ) → Type 0
IsOut l s = (c : ℕ) → slice_get l.cursors s ≡ Some (Some c) → ⊥

same_out : (old new : Log) (s : ℕ) → new.cursors ≡ old.cursors → IsOut old s → IsOut new s
same_out old new s e none c at = none c (ap (λ (cs : List (Option ℕ)). slice_get cs s) (sym e) ∙ at)

other_out : (old new : Log) (t s : ℕ) (v : Option ℕ) → t ≢ s → new ≡ with_cursor old t v → IsOut old s → IsOut new s
other_out old new t s v ne e none c at = none c (sym (read_other old.cursors t s v ne) ∙ ap (λ (l : Log). slice_get l.cursors s) (sym e) ∙ at)

-- what an event gives a seat that is out, which stays out
pub record OutStays (s : ℕ) (call : Call) (answer : Answer) (new : Log) : Type 0 where
  pub none : take_of s call answer ≡ []
  pub out : IsOut new s

-- a call of a seat that has a cursor is another seat's
other_seat : (old : Log) (t s c : ℕ) → slice_get old.cursors t ≡ Some (Some c) → IsOut old s → t ≢ s
other_seat old t s c at none e = none c (ap (slice_get old.cursors) (sym e) ∙ at)

take_out : (old new : Log) (t s : ℕ) (d : Delivery) → t ≢ s → IsOut new s → OutStays s (Take t) (Taken d) new
take_out old new t s d ne out = elim (eqb_tells t s) [
  | inl e ↦ absurd (ne e.1)
  | inr e ↦ record { none = rw e.0 refl; out = out }
]

event_out : (keep : ℕ) (old new : Log) (s : ℕ) (call : Call) (answer : Answer) → LogEvent keep old call answer new → ((back : ℕ) → call ≢ Attach s back) → IsOut old s → OutStays s call answer new
event_out keep old new s (Publish p) (Appended n) h stays none = record { none = refl; out = same_out old new s (ap (λ (l : Log). l.cursors) h.2) none }
event_out keep old new s (Publish p) Refused h stays none = record { none = refl; out = same_out old new s (ap (λ (l : Log). l.cursors) h.1) none }
event_out keep old new s Close Closed h stays none = record { none = refl; out = same_out old new s (ap (λ (l : Log). l.cursors) h.1) none }
event_out keep old new s (Attach t m) (Attached c) h stays none = record { none = refl; out = other_out old new t s (Some c) (λ e. stays m (ap (λ (u : ℕ). Attach u m) e)) h.2 none }
event_out keep old new s (Take t) (Taken (Got n p)) h stays none =
    let ne = other_seat old t s n h.0 none in take_out old new t s (Got n p) ne (other_out old new t s (Some (n + 1)) ne h.3 none)
event_out keep old new s (Take t) (Taken (Lost k)) h stays none =
    let ne = other_seat old t s h.0 h.1 none in take_out old new t s (Lost k) ne (other_out old new t s (Some (h.0 + k)) ne h.4 none)
event_out keep old new s (Take t) (Taken Empty) h stays none =
    take_out old new t s Empty (other_seat old t s (length old.packets) h.0 none) (same_out old new s (ap (λ (l : Log). l.cursors) h.2) none)
event_out keep old new s (Take t) (Taken Ended) h stays none =
    take_out old new t s Ended (other_seat old t s (length old.packets) h.0 none) (same_out old new s (ap (λ (l : Log). l.cursors) h.2) none)
event_out keep old new s (Detach t) (Detached l) h stays none = record { none = refl; out = other_out old new t s None (other_seat old t s h.0 h.1 none) h.3 none }
event_out keep old new s call answer h stays none = absurd h

-- a seat that is out takes nothing until it is attached
run_out : (keep : ℕ) (old new : Log) (s : ℕ) (events : List Event) → Run keep old events new → StaysOut s events → IsOut old s → takes_of s events ≡ []
run_out keep old new s [] run stays none = refl
run_out keep old new s (e ∷ es) run stays none =
    let first = event_out keep old run.0 s e.call e.answer run.1 stays.0 none in
    let rest = run_out keep run.0 new s es run.2 stays.1 first.out in
    ap (λ ds. ds ++ takes_of s es) first.none ∙ rest

detached_out : (keep : ℕ) (old new : Log) (seat : ℕ) (left : Left) → LogEvent keep old (Detach seat) (Detached left) new → IsOut new seat
detached_out keep old new seat left h c at =
    let none = ap (λ (l : Log). slice_get l.cursors seat) h.3 ∙ read_place old.cursors seat (Some h.0) None h.1 in cc

empty_out : (n s : ℕ) (c : ℕ) → slice_get (replicate n None) s ≡ Some (Some c) → ⊥
empty_out zero s c at = cc
empty_out (suc n) zero c at = cc
empty_out (suc n) (suc s) c at = empty_out n s c at

pub players_receive : (keep seats : ℕ) (events : List Event) (log : Log) → LegalHistory keep seats events log → PlayersReceive keep events log.packets
players_receive keep seats events log legal = record {
  attached = attached_receives keep seats events log legal;
  detached = λ seat left before out after is stays.
      (let first = Run-split keep (empty_log seats) (before ++ (detached_with seat left ∷ out)) after log (subst (λ (es : List Event). Run keep (empty_log seats) es log) is legal) in
      let second = Run-split keep (empty_log seats) before (detached_with seat left ∷ out) first.0 first.1 in
      let step = second.2 in
      run_out keep step.0 first.0 seat out step.2 stays (detached_out keep second.0 step.0 seat left step.1));
  unattached = λ seat out after is stays.
      (let first = Run-split keep (empty_log seats) out after log (subst (λ (es : List Event). Run keep (empty_log seats) es log) is legal) in
      run_out keep (empty_log seats) first.0 seat out first.1 stays (empty_out seats seat));
}
