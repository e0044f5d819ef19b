-- In a ring that agrees with a good script each actor may go on by its next call, and a step within that call is a turn.
use Rattle.std.proofs.Common.{◌≡◌, ℕ, ◌+◌, ◌<◌, Bool, false, Option, Some, None, List, length, take, refl, sym, ◌∙◌, ap, arith, get_or, slice_get, slice_set, is_some}
use mir.Val.{bool_byte}
use Rattle.std.proofs.lemmas.Option.{slice_get_within, slice_get_read, slice_get-get_or}
use Rattle.cursor.specs.declared.calls.Answer.{Answer}
use Rattle.ring_steps.specs.declared.calls.Actor.TheVariants.{P, Seat}
use Rattle.ring_steps.specs.declared.calls.PublisherCall.{PublisherCall}
use Rattle.ring_steps.specs.declared.calls.PublisherCall.TheVariants.{Publish, Close}
use Rattle.ring_steps.specs.declared.calls.SeatCall.{SeatCall}
use Rattle.ring_steps.specs.declared.calls.SeatCall.TheVariants.{Attach, Take, Detach}
use Rattle.ring_steps.specs.declared.views.PublisherPhase.{PublisherPhase}
use Rattle.ring_steps.specs.declared.views.PublisherPhase.TheVariants as publishing
use Rattle.ring_steps.specs.declared.views.SeatPhase.{SeatPhase}
use Rattle.ring_steps.specs.declared.views.SeatPhase.TheVariants as seating
use Rattle.ring_steps.specs.declared.calls.Stepped.{Stepped}
use Rattle.ring_steps.specs.Answers.{publisher_call, seat_call}
use Rattle.ring_steps.specs.Step.{PublisherStep, SeatStep, outcome}
use Rattle.ring_steps.specs.Agreeing.{Agrees, GoesOn, PublisherAgrees, SeatAgrees}
use Rattle.ring_steps.specs.Bounds.{MayCall, MayPublish, PublisherReady, SeatReady}
use Rattle.ring_steps.specs.Ring.{State, seat_at}
use Rattle.ring_steps.specs.Runs.{At, Calls, answered}
use Rattle.ring_steps.specs.Scripts.{IsGoodScript, IsMisplaced, is_attached_after, is_closed_after}
use Rattle.ring_steps.proofs.Bounds.{seat_there}
use Rattle.ring_steps.proofs.Places.{by_test}

may_publish : (phase : PublisherPhase) (call : PublisherCall) (s : State) (calls : List PublisherCall) (n : ℕ) → slice_get calls n ≡ Some call
    → PublisherAgrees phase calls n s.publisher.packet → s.publisher.closed ≡ false → MayPublish phase call s
may_publish publishing.Between (Publish p) s calls n at agrees closed = closed
may_publish publishing.Between Close s calls n at agrees closed = closed
may_publish publishing.Begun (Publish p) s calls n at agrees closed = cc
may_publish publishing.Filling (Publish p) s calls n at agrees closed = cc
may_publish publishing.Finished (Publish p) s calls n at agrees closed = cc
may_publish publishing.Begun Close s calls n at agrees closed = cc
may_publish publishing.Filling Close s calls n at agrees closed = cc
may_publish publishing.Finished Close s calls n at agrees closed = cc

-- the publisher's next call is one that it may go on by
pub publisher_ready : (calls : Calls) (at : At) (call : PublisherCall) → Agrees calls at → IsGoodScript calls → slice_get calls.publisher at.publisher ≡ Some call
    → PublisherReady at.ring call
publisher_ready calls at call agrees good next =
    let within = slice_get_within calls.publisher at.publisher call next in
    let closed : is_closed_after (take at.publisher calls.publisher) ≡ false =
    by_test (is_closed_after (take at.publisher calls.publisher)) (λ e. absurd (good P at.publisher (record { there = within; closed = e }))) (λ e. e) in
    may_publish at.ring.publisher.phase call at.ring calls.publisher at.publisher next agrees.publisher (agrees.closed ∙ closed)

may_call : (phase : SeatPhase) (call : SeatCall) (own : List SeatCall) (n : ℕ) → slice_get own n ≡ Some call → SeatAgrees phase own n
    → ¬ IsMisplaced (is_attached_after (take n own)) call → MayCall phase call
may_call seating.Out (Attach m) own n at agrees placed = tt
may_call seating.Out Take own n at agrees placed = placed (rw agrees tt)
may_call seating.Out Detach own n at agrees placed = placed (rw agrees tt)
may_call seating.Between (Attach m) own n at agrees placed = placed (rw agrees tt)
may_call seating.Between Take own n at agrees placed = tt
may_call seating.Between Detach own n at agrees placed = tt
may_call phase (Attach m) own n at agrees placed = let next = agrees.next in absurd (cc)
may_call phase Take own n at agrees placed = tt
may_call phase Detach own n at agrees placed = let next = agrees.next in absurd (cc)

-- a seat's next call is one that it may go on by
pub seat_ready : (calls : Calls) (at : At) (i : ℕ) (own : List SeatCall) (n : ℕ) (call : SeatCall) → Agrees calls at → IsGoodScript calls
    → slice_get calls.seats i ≡ Some own → slice_get at.seats i ≡ Some n → slice_get own n ≡ Some call → SeatReady at.ring i call
seat_ready calls at i own n call agrees good has counted next =
    let within = slice_get_within calls.seats i own has in
    let there : i < length at.ring.seats = let views = agrees.views in omega arith in
    let x = seat_at at.ring i in
    record {
      there = there;
      may = may_call x.phase call own n next (agrees.seats i x own n (seat_there at.ring i there) has counted)
          (λ bad. good (Seat i) n (own, has, record { call = call; there = next; misplaced = bad }));
    }

-- the count of answered calls after a step
pub one_more : (n k : ℕ) (b : Bool) (answer : Option Answer) → b ≡ is_some answer → k ≡ bool_byte b → n + k ≡ answered n answer
one_more n k b None some more = rw (more, some) (omega arith)
one_more n k b (Some a) some more = rw (more, some) refl

-- a step of the publisher within its next call is a turn
pub publisher_goes : (calls : Calls) (old : At) (call : PublisherCall) (s : State) (stepped : Stepped) (n : ℕ) → slice_get calls.publisher old.publisher ≡ Some call
    → PublisherStep old.ring call (outcome s stepped) → n ≡ answered old.publisher stepped.answer
    → GoesOn calls old P (record { ring = s; publisher = n; seats = old.seats }) stepped
publisher_goes calls old call s stepped n next step count = record {
  turn = record { actor = P; call = publisher_call call; saw = stepped.saw; answer = stepped.answer };
  by = refl;
  saw = refl;
  answer = refl;
  move = record { call = call; next = next; named = refl; step = step; publisher = count; seats = refl };
}

-- a step of a seat within its next call is a turn
pub seat_goes : (calls : Calls) (old : At) (i : ℕ) (own : List SeatCall) (n : ℕ) (call : SeatCall) (s : State) (stepped : Stepped) (m : ℕ)
    → slice_get calls.seats i ≡ Some own → slice_get old.seats i ≡ Some n → slice_get own n ≡ Some call
    → SeatStep old.ring i call (outcome s stepped) → m ≡ answered n stepped.answer
    → GoesOn calls old (Seat i) (record { ring = s; publisher = old.publisher; seats = slice_set old.seats i m }) stepped
seat_goes calls old i own n call s stepped m has counted next step count = record {
  turn = record { actor = Seat i; call = seat_call i call; saw = stepped.saw; answer = stepped.answer };
  by = refl;
  saw = refl;
  answer = refl;
  move = record {
    calls = own;
    script_has = has;
    count = n;
    counted = counted;
    call = call;
    next = next;
    named = refl;
    step = step;
    publisher = refl;
    seats = ap (slice_set old.seats i) count;
  };
}

-- what a look at a seat's calls, at how many of them are answered and at the next one tells
pub seat_next : (calls : Calls) (at : At) (seats : List (List SeatCall)) (place i : ℕ) (own now : List SeatCall) (n : ℕ) → Agrees calls at
    → seats ≡ calls.seats → place ≡ i → place < length seats → own ≡ get_or seats place own → now ≡ own → n ≡ get_or at.seats place n → n < length now
    → (slice_get calls.seats i ≡ Some own) × (slice_get at.seats i ≡ Some n) × (slice_get own n ≡ Some (get_or now n (Attach 0)))
seat_next calls at seats place i own now n agrees list same below read named count more =
    let counts = agrees.counts in
    let width = ap (λ (xs : List (List SeatCall)). length xs) list in
    let within : place < length at.seats = omega arith in (
      sym (ap (λ (xs : List (List SeatCall)). slice_get xs i) list) ∙ sym (ap (slice_get seats) same) ∙ slice_get_read seats (length seats) place own refl below read,
      sym (ap (slice_get at.seats) same) ∙ slice_get_read at.seats (length at.seats) place n refl within count,
      sym (ap (λ (xs : List SeatCall). slice_get xs n) named) ∙ slice_get-get_or now n (Attach 0) more,
    )
