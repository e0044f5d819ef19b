-- A run agrees with its script, counts at most one more with each turn and keeps the ring's size; and what a next step asks for.
use Rattle.std.proofs.Common.{◌≡◌, ℕ, zero, suc, ◌+◌, ◌≤◌, Some, List, [], ◌∷◌, ◌++◌, length, map, replicate, refl, sym, ◌∙◌, ap, subst, arith, inl, inr, slice_get, slice_set}
use Rattle.std.specs.Prelude.{All}
use Rattle.std.proofs.lemmas.Bool.Decides.{eqb_tells}
use Rattle.std.proofs.lemmas.List.{length-set, length-replicate}
use Rattle.std.proofs.lemmas.Option.{same_Some, slice_get_within}
use Rattle.cursor.proofs.Counting.{read_place}
use Rattle.cursor.proofs.Attachments.{read_other}
use Rattle.ring_steps.specs.declared.calls.Actor.{Actor}
use Rattle.ring_steps.specs.declared.calls.Actor.TheVariants.{P, Seat}
use Rattle.ring_steps.specs.declared.calls.SeatCall.{SeatCall}
use Rattle.ring_steps.specs.declared.views.Seat as views
use Rattle.ring_steps.specs.declared.views.SeatPhase.TheVariants as seating
use Rattle.ring_steps.specs.Agreeing.{Agrees, SeatAgrees}
use Rattle.ring_steps.specs.Bounds.{CountsTo, HasRoom}
use Rattle.ring_steps.specs.Ring.{new_seat}
use Rattle.ring_steps.specs.Runs.{At, Calls, Move, MoveBy, PublisherMove, SeatMove, Ran, Turn, answered, outcome_of, start}
use Rattle.ring_steps.specs.Slots.{Invariant}
use Rattle.ring_steps.specs.Traces.{IsByOneOf, IsOneOf, made_of}
use Rattle.ring_steps.proofs.Frames.{SeatFrame, publisher_agrees, publisher_frame, seat_frame}
use Rattle.ring_steps.proofs.Opening.{each_new, same_seat}
use Rattle.ring_steps.proofs.Seats.{each_set}

-- a turn more at the end
pub ran_more : (calls : Calls) (old : At) (turns : List Turn) (mid : At) (t : Turn) (new : At) → Ran calls old turns mid → Move calls mid t new
    → Ran calls old (turns ++ t ∷ []) new
ran_more calls old [] mid t new ran move = let M : At → Type 0 = λ a. Move calls a t new in (new, subst M ran move, refl)
ran_more calls old (u ∷ us) mid t new ran move = (ran.0, ran.1, ran_more calls ran.0 us mid t new ran.2 move)

-- each seat's phase is again one within its next call
seats_agree : (calls : Calls) (i : ℕ) (old : At) (t : Turn) (new : At) (move : SeatMove calls i old t new) (frame : SeatFrame move.call old.ring i move.step.view (outcome_of new.ring t))
    → Agrees calls old → (j : ℕ) (z : views.Seat) (own : List SeatCall) (n : ℕ) → slice_get new.ring.seats j ≡ Some z → slice_get calls.seats j ≡ Some own → slice_get new.seats j ≡ Some n
    → SeatAgrees z.phase own n
seats_agree calls i old t new move frame h j z own n seat has count =
    let seat' = rw frame.seats at seat in
    let count' = rw move.seats at count in
    elim (eqb_tells i j) [
      | inl e ↦
          let view : frame.view ≡ z = same_Some frame.view z (sym (read_place old.ring.seats i move.step.view frame.view move.step.there) ∙ ap (slice_get (slice_set old.ring.seats i frame.view)) e.1 ∙ seat') in
          let more : answered move.count t.answer ≡ n =
          same_Some (answered move.count t.answer) n (sym (read_place old.seats i move.count (answered move.count t.answer) move.counted) ∙ ap (slice_get (slice_set old.seats i (answered move.count t.answer))) e.1 ∙ count') in
          let same : move.calls ≡ own = same_Some move.calls own (sym move.script_has ∙ ap (slice_get calls.seats) e.1 ∙ has) in
          let before = h.seats i move.step.view move.calls move.count move.step.there move.script_has move.counted in
          let after = frame.agrees move.calls move.count move.next before in
          subst (λ (y : views.Seat). SeatAgrees y.phase own n) view
          (subst (λ (m : ℕ). SeatAgrees frame.view.phase own m) more
          (subst (λ (cs : List SeatCall). SeatAgrees frame.view.phase cs (answered move.count t.answer)) same after))
      | inr e ↦ h.seats j z own n (sym (read_other old.ring.seats i j frame.view e.1) ∙ seat') has (sym (read_other old.seats i j (answered move.count t.answer) e.1) ∙ count')
    ]

publisher_move_agrees : (calls : Calls) (old : At) (t : Turn) (new : At) → PublisherMove calls old t new → Agrees calls old → Agrees calls new
publisher_move_agrees calls old t new move h =
    let frame = publisher_frame old.ring.publisher.phase move.call old.ring (outcome_of new.ring t) move.step in
    let two = publisher_agrees old.ring.publisher.phase move.call old.ring (outcome_of new.ring t) calls.publisher old.publisher refl move.step move.next h.closed in
    record {
      publisher = rw (move.publisher) two.0;
      closed = rw (move.publisher) two.1;
      views = ap (λ (xs : List views.Seat). length xs) frame.seats ∙ h.views;
      counts = ap (λ (xs : List ℕ). length xs) move.seats ∙ h.counts;
      seats = rw (frame.seats, move.seats) h.seats;
    }

seat_move_agrees : (calls : Calls) (i : ℕ) (old : At) (t : Turn) (new : At) → SeatMove calls i old t new → Agrees calls old → Agrees calls new
seat_move_agrees calls i old t new move h =
    let x = move.step.view in
    let frame = seat_frame x.phase move.call old.ring i x (outcome_of new.ring t) refl move.step.acts in
    record {
      publisher = rw (frame.publisher, move.publisher) h.publisher;
      closed = rw (frame.publisher, move.publisher) h.closed;
      views = ap (λ (xs : List views.Seat). length xs) frame.seats ∙ length-set old.ring.seats i frame.view ∙ h.views;
      counts = ap (λ (xs : List ℕ). length xs) move.seats ∙ length-set old.seats i (answered move.count t.answer) ∙ h.counts;
      seats = seats_agree calls i old t new move frame h;
    }

move_agrees : (actor : Actor) (calls : Calls) (old : At) (t : Turn) (new : At) → MoveBy actor calls old t new → Agrees calls old → Agrees calls new
move_agrees P calls old t new move h = publisher_move_agrees calls old t new move h
move_agrees (Seat i) calls old t new move h = seat_move_agrees calls i old t new move h

-- a run keeps to its script
pub ran_agrees : (calls : Calls) (old : At) (turns : List Turn) (new : At) → Ran calls old turns new → Agrees calls old → Agrees calls new
ran_agrees calls old [] new ran h = rw ran h
ran_agrees calls old (t ∷ ts) new ran h = ran_agrees calls ran.0 ts new ran.2 (move_agrees t.actor calls old t ran.0 ran.1 h)

same_zero : (n i m : ℕ) → slice_get (replicate n 0) i ≡ Some m → 0 ≡ m
same_zero zero i m at = absurd (cc)
same_zero (suc n) zero m at = cc
same_zero (suc n) (suc i) m at = same_zero n i m at

-- so does the start
pub start_agrees : (calls : Calls) (keep seats : ℕ) → length calls.seats ≡ seats → Agrees calls (start keep seats)
start_agrees calls keep seats width = record {
  publisher = tt;
  closed = refl;
  views = length-replicate seats new_seat ∙ sym width;
  counts = length-replicate seats 0 ∙ sym width;
  seats = λ i x own n seat has count.
      (let fresh = same_seat seats i x seat in
      let none = same_zero seats i n count in
      subst (λ (y : views.Seat). SeatAgrees y.phase own n) fresh (subst (λ (m : ℕ). SeatAgrees seating.Out own m) none refl));
}

-- a step counts one more at most
move_counts : (actor : Actor) (calls : Calls) (old : At) (t : Turn) (new : At) (n : ℕ) → MoveBy actor calls old t new → CountsTo n old.ring → CountsTo (n + 1) new.ring
move_counts P calls old t new n move h =
    let frame = publisher_frame old.ring.publisher.phase move.call old.ring (outcome_of new.ring t) move.step in
    let log = h.log in
    let failed = h.failed in
    record { log = omega arith; failed = omega arith; loads = rw frame.seats (λ i x at. let loads = h.loads i x at in omega arith); misses = rw frame.seats (λ i x at. let misses = h.misses i x at in omega arith) }
move_counts (Seat i) calls old t new n move h =
    let x = move.step.view in
    let frame = seat_frame x.phase move.call old.ring i x (outcome_of new.ring t) refl move.step.acts in
    let log = h.log in
    let failed = h.failed in
    let loads = h.loads i x move.step.there in
    let more = frame.loads in
    let misses = h.misses i x move.step.there in
    let missed = frame.misses in
    record {
      log = rw frame.log (omega arith);
      failed = rw frame.publisher (omega arith);
      loads = rw frame.seats (each_set (λ (y : views.Seat). y.loads ≤ n + 1) old.ring.seats i frame.view (λ k z at. let low = h.loads k z at in omega arith) (omega arith));
      misses = rw frame.seats (each_set (λ (y : views.Seat). y.misses ≤ n + 1) old.ring.seats i frame.view (λ k z at. let low = h.misses k z at in omega arith) (omega arith));
    }

-- so a run counts as many as it has turns
pub ran_counts : (calls : Calls) (old : At) (turns : List Turn) (new : At) (n : ℕ) → Ran calls old turns new → CountsTo n old.ring → CountsTo (n + length turns) new.ring
ran_counts calls old [] new n ran h = let same : n + 0 ≡ n = omega arith in rw (ran, same) h
ran_counts calls old (t ∷ ts) new n ran h =
    let more : (n + 1) + length ts ≡ n + length (t ∷ ts) = omega arith in
    subst (λ (m : ℕ). CountsTo m new.ring) more (ran_counts calls ran.0 ts new (n + 1) ran.2 (move_counts t.actor calls old t ran.0 n ran.1 h))

-- nothing is counted at the start
pub start_counts : (keep seats : ℕ) → CountsTo 0 (start keep seats).ring
start_counts keep seats = record { log = omega arith; failed = omega arith; loads = each_new (λ (x : views.Seat). x.loads ≤ 0) seats (omega arith); misses = each_new (λ (x : views.Seat). x.misses ≤ 0) seats (omega arith) }

-- a run keeps the ring's size
keep_stays : (actor : Actor) (calls : Calls) (old : At) (t : Turn) (new : At) → MoveBy actor calls old t new → new.ring.keep ≡ old.ring.keep
keep_stays P calls old t new move = (publisher_frame old.ring.publisher.phase move.call old.ring (outcome_of new.ring t) move.step).keep
keep_stays (Seat i) calls old t new move = (seat_frame move.step.view.phase move.call old.ring i move.step.view (outcome_of new.ring t) refl move.step.acts).keep

pub ran_keep : (calls : Calls) (old : At) (turns : List Turn) (new : At) → Ran calls old turns new → new.ring.keep ≡ old.ring.keep
ran_keep calls old [] new ran = ap (λ (a : At). a.ring.keep) ran
ran_keep calls old (t ∷ ts) new ran = ran_keep calls ran.0 ts new ran.2 ∙ keep_stays t.actor calls old t ran.0 ran.1

-- what the next step asks for
pub record IsReady (calls : Calls) (at : At) : Type 0 where
  pub invariant : Invariant at.ring
  pub room : HasRoom at.ring
  pub agrees : Agrees calls at

by_one : (actor : Actor) (calls : Calls) (old : At) (t : Turn) (new : At) → MoveBy actor calls old t new → IsOneOf (length calls.seats) actor
by_one P calls old t new move = tt
by_one (Seat i) calls old t new move = slice_get_within calls.seats i move.calls move.script_has

-- only the publisher and the script's seats make turns
pub ran_by : (calls : Calls) (old : At) (turns : List Turn) (new : At) → Ran calls old turns new → All (IsByOneOf (length calls.seats)) (map made_of turns)
ran_by calls old [] new ran k d lt = absurd (omega arith)
ran_by calls old (t ∷ ts) new ran zero d lt = by_one t.actor calls old t ran.0 ran.1
ran_by calls old (t ∷ ts) new ran (suc k) d lt = ran_by calls ran.0 ts new ran.2 k d (omega arith)
