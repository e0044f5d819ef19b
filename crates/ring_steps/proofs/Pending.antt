-- In a run a take that is under way, and that comes to a packet, is answered the one at its seat's cursor.
use Rattle.std.proofs.Common.{◌≡◌, ℕ, zero, suc, ◌<◌, ◌≤◌, ◌⊎◌, true, false, Some, None, List, [], ◌∷◌, ◌++◌, length, map, refl, sym, ◌∙◌, ap, subst, arith, inl, inr, slice_get, slice_set, is_some, ◌||◌}
use Rattle.std.specs.Prelude.{option_map}
use Rattle.std.proofs.lemmas.Bool.Decides.{eqb_tells}
use Rattle.std.proofs.lemmas.List.{take_all}
use Rattle.std.proofs.lemmas.Option.{same_Some, slice_get-map}
use Rattle.cursor.specs.declared.packets.Packet.{Packet}
use Rattle.cursor.specs.declared.calls.Answer.{Answer}
use Rattle.cursor.specs.declared.calls.Answer.TheVariants.{Taken}
use Rattle.cursor.specs.declared.takes.Delivery.TheVariants.{Got}
use Rattle.cursor.specs.Account.{cursor_of}
use Rattle.cursor.proofs.Counting.{read_place}
use Rattle.cursor.proofs.Attachments.{read_other}
use Rattle.ring_steps.specs.declared.calls.Actor.{Actor}
use Rattle.ring_steps.specs.declared.calls.Actor.TheVariants.{P, Seat}
use Rattle.ring_steps.specs.declared.calls.SeatCall.{SeatCall}
use Rattle.ring_steps.specs.declared.calls.SeatCall.TheVariants.{Take}
use Rattle.ring_steps.specs.declared.views.Seat as views
use Rattle.ring_steps.specs.declared.views.SeatPhase.{SeatPhase}
use Rattle.ring_steps.specs.declared.views.SeatPhase.TheVariants as seating
use Rattle.ring_steps.specs.Acting.{is_load, reply_to}
use Rattle.ring_steps.specs.Answers.{packet_of}
use Rattle.ring_steps.specs.Ring.{State, cursor, place, word}
use Rattle.ring_steps.specs.Runs.{At, Calls, MoveBy, Ran, Turn, outcome_of}
use Rattle.ring_steps.specs.Slots.{Invariant}
use Rattle.ring_steps.specs.Step.{Outcome, SeatActs, holds, pin, read_byte, read_length, unpin_failed}
use Rattle.ring_steps.proofs.Frames.{publisher_frame, seat_frame}
use Rattle.ring_steps.proofs.Growing.{publisher_step_grows}
use Rattle.ring_steps.proofs.Places.{by_test, lt_tells}
use Rattle.ring_steps.proofs.Running.{move_keeps}
use Rattle.ring_steps.proofs.Telling.{not_publishers, others, own, reply_ends, reply_skips, silent}

-- a take is under way
abbrev pub TakesOn : SeatPhase → Type 0
TakesOn seating.Out = ⊥
TakesOn seating.Between = ⊥
TakesOn seating.Found = Unit {0}
TakesOn seating.Holding = Unit {0}
TakesOn seating.Reading = Unit {0}
TakesOn seating.Failed = Unit {0}
TakesOn seating.Missed = Unit {0}

-- the packet is the one at the seat's cursor
pub record IsNext (s : State) (x : views.Seat) (n : ℕ) (p : Packet) : Type 0 where
  pub number : n ≡ cursor x
  pub packet : slice_get (map packet_of s.log) n ≡ Some p

-- a take that is under way, and that is answered a packet in these turns, is answered the next one
abbrev pub Pends : State → List Turn → Type 0
Pends s ts = (i : ℕ) (x : views.Seat) → slice_get s.seats i ≡ Some x → TakesOn x.phase → (n : ℕ) (p : Packet) → reply_to i ts ≡ Some (Taken (Got n p)) → IsNext s x n p

-- a step of a take that goes on
pub record GoesOnTaking (s : State) (i : ℕ) (x : views.Seat) (o : Outcome) : Type 0 where
  pub view : views.Seat
  pub seats : o.state.seats ≡ slice_set s.seats i view
  pub keep : o.state.keep ≡ s.keep
  pub log : o.state.log ≡ s.log
  pub publisher : o.state.publisher ≡ s.publisher
  pub takes : TakesOn view.phase
  pub account : view.account ≡ x.account
  pub answer : o.answer ≡ None
  pub saw : is_load o.saw ≡ false

-- a step that ends a take, perhaps with the next packet
pub record EndsTaking (s : State) (x : views.Seat) (o : Outcome) : Type 0 where
  pub answer : Answer
  pub is : o.answer ≡ Some answer
  pub next : (n : ℕ) (p : Packet) → answer ≡ Taken (Got n p) → IsNext s x n p

-- a seat that read the whole packet answers it
pub read_next : (s : State) (i : ℕ) (x : views.Seat) → Invariant s → slice_get s.seats i ≡ Some x → x.phase ≡ seating.Reading → x.length ≤ length x.read
    → slice_get (map packet_of s.log) (cursor x) ≡ Some (packet_of x.read)
read_next s i x h at phase whole =
    let knows = rw phase at (h.phases.knows i x at) in
    let read = knows.1.1 in
    let wide = read.size in
    let same : x.read ≡ read.packet = read.same ∙ take_all (length x.read) read.packet (omega arith) in
    slice_get-map packet_of s.log (cursor x) ∙ ap (option_map packet_of) read.there ∙ ap (λ (q : List ℕ). Some (packet_of q)) (sym same)

pub pin_goes : (s : State) (i : ℕ) (x : views.Seat) → GoesOnTaking s i x (pin s i x)
pin_goes s i x = by_test (holds (word s (place s (cursor x))) (cursor x))
    (λ e. rw e (record { view = _; seats = refl; keep = refl; log = refl; publisher = refl; takes = tt; account = refl; answer = refl; saw = refl }))
    (λ e. rw e (record { view = _; seats = refl; keep = refl; log = refl; publisher = refl; takes = tt; account = refl; answer = refl; saw = refl }))

pub length_goes : (s : State) (i : ℕ) (x : views.Seat) → GoesOnTaking s i x (read_length s i x)
length_goes s i x = record { view = _; seats = refl; keep = refl; log = refl; publisher = refl; takes = tt; account = refl; answer = refl; saw = refl }

pub byte_goes : (s : State) (i : ℕ) (x : views.Seat) → x.phase ≡ seating.Reading → GoesOnTaking s i x (read_byte s i x)
byte_goes s i x phase = record { view = _; seats = refl; keep = refl; log = refl; publisher = refl; takes = rw phase tt; account = refl; answer = refl; saw = refl }

pub unpin_failed_goes : (s : State) (i : ℕ) (x : views.Seat) → GoesOnTaking s i x (unpin_failed s i x)
unpin_failed_goes s i x = record { view = _; seats = refl; keep = refl; log = refl; publisher = refl; takes = tt; account = refl; answer = refl; saw = refl }

taking_step : (phase : SeatPhase) (call : SeatCall) (s : State) (i : ℕ) (x : views.Seat) (o : Outcome) → x.phase ≡ phase → TakesOn phase → SeatActs phase call s i x o
    → Invariant s → slice_get s.seats i ≡ Some x → GoesOnTaking s i x o ⊎ EndsTaking s x o
taking_step seating.Out call s i x o phase on acts h at = absurd on
taking_step seating.Between call s i x o phase on acts h at = absurd on
taking_step seating.Found Take s i x o phase on acts h at = rw acts (inl (pin_goes s i x))
taking_step seating.Holding Take s i x o phase on acts h at = rw acts (inl (length_goes s i x))
taking_step seating.Reading Take s i x o phase on acts h at =
    rw acts (elim (lt_tells (length x.read) x.length) [
      | inl e ↦ rw e.0 (inl (byte_goes s i x phase))
      | inr e ↦
          let packet = read_next s i x h at phase e.1 in
          rw e.0 (inr (record { answer = _; is = refl; next = λ n p same. (let number : n ≡ cursor x = cc in let got : p ≡ packet_of x.read = cc in record { number = number; packet = rw (number, got) packet }) }))
    ])
taking_step seating.Failed Take s i x o phase on acts h at = rw acts (inl (unpin_failed_goes s i x))
taking_step seating.Missed Take s i x o phase on acts h at =
    rw acts (inr (record { answer = _; is = refl; next = λ n p same. absurd (cc) }))
taking_step phase call s i x o eq on acts h at = absurd acts

-- the packet at a cursor is in the log
taking_within : (phase : SeatPhase) (s : State) (i : ℕ) (x : views.Seat) → x.phase ≡ phase → TakesOn phase → Invariant s → slice_get s.seats i ≡ Some x → cursor x < length s.log
taking_within seating.Out s i x phase on h at = absurd on
taking_within seating.Between s i x phase on h at = absurd on
taking_within seating.Found s i x phase on h at = let knows = rw phase at (h.phases.knows i x at) in let below = knows.0 in let seen = (h.slots.seen i x at).0 in omega arith
taking_within seating.Holding s i x phase on h at = let knows = rw phase at (h.phases.knows i x at) in let below = knows.0 in let seen = (h.slots.seen i x at).0 in omega arith
taking_within seating.Reading s i x phase on h at = let knows = rw phase at (h.phases.knows i x at) in let below = knows.0 in let seen = (h.slots.seen i x at).0 in omega arith
taking_within seating.Failed s i x phase on h at = let knows = rw phase at (h.phases.knows i x at) in let below = knows.0 in let seen = (h.slots.seen i x at).0 in omega arith
taking_within seating.Missed s i x phase on h at = let knows = rw phase at (h.phases.knows i x at) in let below = knows.0 in let seen = (h.slots.seen i x at).0 in omega arith

-- what stands in the front of a longer log stands in that log
in_front : (xs more : List (List ℕ)) (n : ℕ) (p : Packet) → n < length xs → slice_get (map packet_of (xs ++ more)) n ≡ Some p → slice_get (map packet_of xs) n ≡ Some p
in_front [] more n p lt at = absurd (omega arith)
in_front (x ∷ xs) more zero p lt at = at
in_front (x ∷ xs) more (suc n) p lt at = in_front xs more n p (omega arith) at

-- a turn of the publisher, of another seat, and of the seat itself
pending_publisher : (calls : Calls) (old : At) (t : Turn) (new : At) (ts : List Turn) → t.actor ≡ P → MoveBy P calls old t new → Invariant old.ring → Pends new.ring ts
    → Pends old.ring (t ∷ ts)
pending_publisher calls old t new ts by move h pends i x at on n p reply =
    let frame = publisher_frame old.ring.publisher.phase move.call old.ring (outcome_of new.ring t) move.step in
    let grows = publisher_step_grows old.ring move.call (outcome_of new.ring t) move.step h in
    let later = sym (reply_skips i t ts (not_publishers i t by)) ∙ reply in
    let next = pends i x (rw frame.seats at) on n p later in
    let within = taking_within x.phase old.ring i x refl on h at in
    let number = next.number in
    let below : n < length old.ring.log = omega arith in
    record { number = number; packet = in_front old.ring.log grows.log.0 n p below (rw grows.log.1 at next.packet) }

pending_seat : (calls : Calls) (j : ℕ) (old : At) (t : Turn) (new : At) (ts : List Turn) → t.actor ≡ Seat j → MoveBy (Seat j) calls old t new → Invariant old.ring → Pends new.ring ts
    → Pends old.ring (t ∷ ts)
pending_seat calls j old t new ts by move h pends i x at on n p reply =
    elim (eqb_tells i j) [
      | inl e ↦
          let there : slice_get old.ring.seats i ≡ Some move.step.view = ap (slice_get old.ring.seats) e.1 ∙ move.step.there in
          let same : move.step.view ≡ x = same_Some move.step.view x (sym there ∙ at) in
          let acts = subst (λ (y : views.Seat). SeatActs y.phase move.call old.ring j y (outcome_of new.ring t)) same move.step.acts in
          let at' : slice_get old.ring.seats j ≡ Some x = ap (slice_get old.ring.seats) (sym e.1) ∙ at in
          elim (taking_step x.phase move.call old.ring j x (outcome_of new.ring t) refl on acts h at') [
            | inl goes ↦
                let quiet : (is_some t.answer || is_load t.saw) ≡ false = rw (goes.answer, goes.saw) refl in
                let later = sym (reply_skips i t ts (silent i t quiet)) ∙ reply in
                let seat : slice_get new.ring.seats i ≡ Some goes.view = ap (λ (xs : List views.Seat). slice_get xs i) goes.seats ∙ rw e.1 (read_place old.ring.seats j x goes.view at') in
                let next = pends i goes.view seat goes.takes n p later in
                record {
                  number = next.number ∙ ap cursor_of goes.account;
                  packet = rw goes.log at next.packet;
                }
            | inr ends ↦
                let some : (is_some t.answer || is_load t.saw) ≡ true = rw ends.is refl in
                let answered = sym (reply_ends i t ts (own i t (by ∙ ap Seat (sym e.1)) some)) ∙ reply in
                ends.next n p (same_Some ends.answer (Taken (Got n p)) (sym ends.is ∙ answered))
          ]
      | inr e ↦
          let frame = seat_frame move.step.view.phase move.call old.ring j move.step.view (outcome_of new.ring t) refl move.step.acts in
          let later = sym (reply_skips i t ts (others i j t by e.1)) ∙ reply in
          let seat : slice_get new.ring.seats i ≡ Some x = ap (λ (xs : List views.Seat). slice_get xs i) frame.seats ∙ read_other old.ring.seats j i frame.view (λ f. e.1 (sym f)) ∙ at in
          let next = pends i x seat on n p later in
          record { number = next.number; packet = rw frame.log at next.packet }
    ]

pending_by : (actor : Actor) (calls : Calls) (old : At) (t : Turn) (new : At) (ts : List Turn) → t.actor ≡ actor → MoveBy actor calls old t new → Invariant old.ring → Pends new.ring ts
    → Pends old.ring (t ∷ ts)
pending_by P calls old t new ts by move h pends = pending_publisher calls old t new ts by move h pends
pending_by (Seat j) calls old t new ts by move h pends = pending_seat calls j old t new ts by move h pends

-- so it is in each run
pub ran_pends : (calls : Calls) (old : At) (turns : List Turn) (new : At) → Ran calls old turns new → Invariant old.ring → Pends old.ring turns
ran_pends calls old [] new ran h = λ i x at on n p reply. absurd (cc)
ran_pends calls old (t ∷ ts) new ran h =
    pending_by t.actor calls old t ran.0 ts refl ran.1 h (ran_pends calls ran.0 ts new ran.2 (move_keeps t.actor calls old t ran.0 ran.1 h))
