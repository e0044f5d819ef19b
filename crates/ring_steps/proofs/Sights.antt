-- What an actor has seen so far in its call, by its phase; so each call acts where the table `ActsAt` has its answer.
use Rattle.std.proofs.Common.{◌≡◌, ℕ, ◌+◌, ◌-◌, ◌==◌, true, false, Bool, Option, Some, None, List, [], ◌∷◌, ◌++◌, length, refl, sym, ◌∙◌, ap, subst, inl, inr, append-nil, append_assoc, get_or, get_or-set_other, slice_get, slice_set, nat_lt, is_some}
use Rattle.std.specs.Prelude.{if◌then◌else◌}
use Rattle.std.proofs.lemmas.Bool.Decides.{eqb_tells}
use Rattle.std.proofs.lemmas.Option.{get_or_from_slice_get, same_Some}
use Rattle.cursor.specs.declared.calls.Answer.{Answer}
use Rattle.cursor.specs.declared.calls.Answer.TheVariants.{Appended, Refused, Closed, Attached, Taken, Detached}
use Rattle.cursor.specs.declared.takes.Delivery.TheVariants.{Got, Lost, Empty, Ended}
use Rattle.cursor.proofs.Counting.{read_place}
use Rattle.ring_steps.specs.declared.calls.Actor.{Actor}
use Rattle.ring_steps.specs.declared.calls.Actor.TheVariants.{P, Seat}
use Rattle.ring_steps.specs.declared.calls.Observed.{Observed}
use Rattle.ring_steps.specs.declared.calls.Observed.TheVariants as saw
use Rattle.ring_steps.specs.declared.calls.PublisherCall.{PublisherCall}
use Rattle.ring_steps.specs.declared.calls.PublisherCall.TheVariants.{Publish, Close}
use Rattle.ring_steps.specs.declared.calls.SeatCall.{SeatCall}
use Rattle.cursor.specs.Log.{back_from}
use Rattle.ring_steps.specs.declared.calls.SeatCall.TheVariants.{Attach, Take, Detach}
use Rattle.ring_steps.specs.declared.views.Publisher.{Publisher}
use Rattle.ring_steps.specs.declared.views.PublisherPhase.{PublisherPhase}
use Rattle.ring_steps.specs.declared.views.PublisherPhase.TheVariants as publishing
use Rattle.ring_steps.specs.declared.views.Seat as views
use Rattle.ring_steps.specs.declared.views.SeatPhase.{SeatPhase}
use Rattle.ring_steps.specs.declared.views.SeatPhase.TheVariants as seating
use Rattle.ring_steps.specs.declared.words.Head.{Head}
use Rattle.ring_steps.specs.declared.words.Word.{Word}
use Rattle.ring_steps.specs.Acting.{acting, acting_answer, is_actor, is_packet, only_packet, reply_to}
use Rattle.ring_steps.specs.Atomic.{IsUnanswered}
use Rattle.ring_steps.specs.Ring.{State, cursor, floor, new_seat, place, seat_at, word}
use Rattle.ring_steps.specs.Runs.{At, Calls, MoveBy, Ran, Turn, outcome_of, start}
use Rattle.ring_steps.specs.Step.{Outcome, PublisherActs, SeatActs, holds, is_known, next_place}
use Rattle.ring_steps.specs.Within.{ActsAt, EndsAnswered, IsFirstLoad, sights}
use Rattle.ring_steps.proofs.Opening.{get_new}
use Rattle.ring_steps.proofs.Frames.{publisher_frame, seat_frame}
use Rattle.ring_steps.proofs.History.{but_end}
use Rattle.ring_steps.proofs.Places.{by_test}

-- what a seat in this phase saw so far in its call
abbrev pub SeatSaw : SeatPhase → List Observed → Type 0
SeatSaw seating.Out seen = seen ≡ []
SeatSaw seating.Between seen = seen ≡ []
SeatSaw seating.Found seen = (h : Head) × (seen ≡ saw.Load h ∷ [])
SeatSaw seating.Holding seen = Unit {0}
SeatSaw seating.Reading seen = Unit {0}
SeatSaw seating.Failed seen = (h : Head) × (w : Word) × (seen ≡ saw.Load h ∷ saw.Pin w ∷ [])
SeatSaw seating.Missed seen = (h : Head) × (w : Word) × (v : Word) × (seen ≡ saw.Load h ∷ saw.Pin w ∷ saw.Unpin v ∷ [])

abbrev pub PublisherSaw : PublisherPhase → List Observed → Type 0
PublisherSaw publishing.Between seen = seen ≡ []
PublisherSaw phase seen = Unit {0}

abbrev pub ActorSaw : Actor → State → List Observed → Type 0
ActorSaw P s seen = PublisherSaw s.publisher.phase seen
ActorSaw (Seat i) s seen = SeatSaw (seat_at s i).phase seen

-- what it saw after one step more: nothing, where the call was answered
abbrev pub saw_next : List Observed → Observed → Option Answer → List Observed
saw_next seen now answer = if is_some answer then [] else seen ++ now ∷ []

publisher_saw : (phase : PublisherPhase) (call : PublisherCall) (s : State) (o : Outcome) (seen : List Observed) → s.publisher.phase ≡ phase → PublisherActs phase call s o → PublisherSaw phase seen
    → PublisherSaw o.state.publisher.phase (saw_next seen o.saw o.answer)
publisher_saw publishing.Between (Publish p) s o seen phase acts was =
    rw acts.1 (by_test (is_known s (word s (next_place s))) (λ e. rw e tt) (λ e. rw (e, phase) refl))
publisher_saw publishing.Between Close s o seen phase acts was = rw acts.1 (rw phase refl)
publisher_saw publishing.Begun (Publish p) s o seen phase acts was = rw acts.1 tt
publisher_saw publishing.Filling (Publish p) s o seen phase acts was =
    rw acts.1 (by_test (nat_lt s.publisher.written (length s.publisher.packet)) (λ e. rw (e, phase) tt) (λ e. rw e tt))
publisher_saw publishing.Finished (Publish p) s o seen phase acts was = rw acts.1 refl
publisher_saw phase call s o seen eq acts was = absurd acts

-- a seat after a step, with what it saw so far
pub record SeatWent (s : State) (i : ℕ) (o : Outcome) (seen : List Observed) : Type 0 where
  pub view : views.Seat
  pub seats : o.state.seats ≡ slice_set s.seats i view
  pub so_far : SeatSaw view.phase (saw_next seen o.saw o.answer)

seat_saw : (phase : SeatPhase) (call : SeatCall) (s : State) (i : ℕ) (x : views.Seat) (o : Outcome) (seen : List Observed) → x.phase ≡ phase → SeatActs phase call s i x o → SeatSaw phase seen
    → SeatWent s i o seen
seat_saw seating.Out (Attach n) s i x o seen phase acts was = rw acts (record { view = _; seats = refl; so_far = refl })
seat_saw seating.Between Detach s i x o seen phase acts was = rw acts (record { view = _; seats = refl; so_far = refl })
seat_saw seating.Between Take s i x o seen phase acts was =
    rw acts (by_test (s.head.length == cursor x) (λ e. rw e (record { view = _; seats = refl; so_far = rw phase refl }))
    (λ e. rw e (by_test (nat_lt (cursor x) (floor s s.head.length)) (λ l. rw l (record { view = _; seats = refl; so_far = refl }))
    (λ l. rw l (record { view = _; seats = refl; so_far = (s.head, rw was refl) })))))
seat_saw seating.Found Take s i x o seen phase acts was =
    rw acts (by_test (holds (word s (place s (cursor x))) (cursor x)) (λ e. rw e (record { view = _; seats = refl; so_far = tt }))
    (λ e. rw e (record { view = _; seats = refl; so_far = (was.0, word s (place s (cursor x)), let one = was.1 in rw one refl) })))
seat_saw seating.Holding Take s i x o seen phase acts was = rw acts (record { view = _; seats = refl; so_far = tt })
seat_saw seating.Reading Take s i x o seen phase acts was =
    rw acts (by_test (nat_lt (length x.read) x.length) (λ e. rw e (record { view = _; seats = refl; so_far = rw phase tt })) (λ e. rw e (record { view = _; seats = refl; so_far = refl })))
seat_saw seating.Failed Take s i x o seen phase acts was =
    rw acts (record { view = _; seats = refl; so_far = (was.0, was.1, word s (place s (cursor x)), let two = was.2 in rw two refl) })
seat_saw seating.Missed Take s i x o seen phase acts was = rw acts (record { view = _; seats = refl; so_far = refl })
seat_saw phase call s i x o seen eq acts was = absurd acts

-- what an actor saw since it was last answered
abbrev pub saw_at : Actor → Turn → List Observed → List Observed
saw_at actor t seen = if is_actor actor t.actor then saw_next seen t.saw t.answer else seen

abbrev pub saw_in : Actor → List Observed → List Turn → List Observed
saw_in actor seen [] = seen
saw_in actor seen (t ∷ ts) = saw_in actor (saw_at actor t seen) ts

other_saw : (actor : Actor) (old : State) (t : Turn) (new : State) (seen : List Observed) → is_actor actor t.actor ≡ false → (ActorSaw actor old seen → ActorSaw actor new seen)
    → ActorSaw actor old seen → ActorSaw actor new (saw_at actor t seen)
other_saw actor old t new seen other same was = rw other (same was)

turn_saw : (actor mover : Actor) (script : Calls) (old : At) (t : Turn) (new : At) (seen : List Observed) → t.actor ≡ mover → MoveBy mover script old t new → ActorSaw actor old.ring seen
    → ActorSaw actor new.ring (saw_at actor t seen)
turn_saw P P script old t new seen by move was =
    rw by (publisher_saw old.ring.publisher.phase move.call old.ring (outcome_of new.ring t) seen refl move.step was)
turn_saw P (Seat j) script old t new seen by move was =
    let frame = seat_frame move.step.view.phase move.call old.ring j move.step.view (outcome_of new.ring t) refl move.step.acts in
    rw by (subst (λ (p : Publisher). PublisherSaw p.phase seen) (sym frame.publisher) was)
turn_saw (Seat i) P script old t new seen by move was =
    let frame = publisher_frame old.ring.publisher.phase move.call old.ring (outcome_of new.ring t) move.step in
    rw by (subst (λ (xs : List views.Seat). SeatSaw (get_or xs i new_seat).phase seen) (sym frame.seats) was)
turn_saw (Seat i) (Seat j) script old t new seen by move was =
    elim (eqb_tells i j) [
      | inl e ↦
          let x = move.step.view in
          let here : seat_at old.ring i ≡ x = ap (λ k. seat_at old.ring k) e.1 ∙ get_or_from_slice_get old.ring.seats j x new_seat move.step.there in
          let went = seat_saw x.phase move.call old.ring j x (outcome_of new.ring t) seen refl move.step.acts (subst (λ (y : views.Seat). SeatSaw y.phase seen) here was) in
          let there = ap (λ (xs : List views.Seat). slice_get xs j) went.seats ∙ read_place old.ring.seats j x went.view move.step.there in
          let now : seat_at new.ring i ≡ went.view = ap (λ k. seat_at new.ring k) e.1 ∙ get_or_from_slice_get new.ring.seats j went.view new_seat there in
          rw (by, e.0) (subst (λ (y : views.Seat). SeatSaw y.phase (saw_next seen t.saw t.answer)) (sym now) went.so_far)
      | inr e ↦
          let frame = seat_frame move.step.view.phase move.call old.ring j move.step.view (outcome_of new.ring t) refl move.step.acts in
          let same : seat_at new.ring i ≡ seat_at old.ring i =
          ap (λ (xs : List views.Seat). get_or xs i new_seat) frame.seats ∙ get_or-set_other old.ring.seats j i frame.view new_seat e.1 in
          rw (by, e.0) (subst (λ (y : views.Seat). SeatSaw y.phase seen) (sym same) was)
    ]

-- a run tells what its actors saw
ran_saw : (actor : Actor) (script : Calls) (old : At) (turns : List Turn) (new : At) (seen : List Observed) → Ran script old turns new → ActorSaw actor old.ring seen
    → ActorSaw actor new.ring (saw_in actor seen turns)
ran_saw actor script old [] new seen ran was = subst (λ (a : At). ActorSaw actor a.ring seen) (sym ran) was
ran_saw actor script old (t ∷ ts) new seen ran was = ran_saw actor script ran.0 ts new (saw_at actor t seen) ran.2 (turn_saw actor t.actor script old t ran.0 seen refl ran.1 was)

start_saw : (actor : Actor) (keep seats : ℕ) → ActorSaw actor (start keep seats).ring []
start_saw P keep seats = refl
start_saw (Seat i) keep seats = let same = get_new seats i in subst (λ (y : views.Seat). SeatSaw y.phase []) (sym same) refl

saw_append : (actor : Actor) (seen : List Observed) (xs ys : List Turn) → saw_in actor seen (xs ++ ys) ≡ saw_in actor (saw_in actor seen xs) ys
saw_append actor seen [] ys = refl
saw_append actor seen (t ∷ xs) ys = saw_append actor (saw_at actor t seen) xs ys

-- after an answer nothing was seen yet
saw_none : (actor : Actor) (before : List Turn) → EndsAnswered actor before → saw_in actor [] before ≡ []
saw_none actor before ends = elim ends [
  | inl e ↦ rw e refl
  | inr e ↦
      let by = e.3 in
      let some = e.4 in
      ap (saw_in actor []) e.2 ∙ saw_append actor [] e.0 (e.1 ∷ []) ∙ rw (by, some) refl
]

-- while it isn't answered an actor has seen all that it saw
saw_all : (actor : Actor) (seen : List Observed) (ts : List Turn) → IsUnanswered actor ts → saw_in actor seen ts ≡ seen ++ sights actor ts
saw_all actor seen [] none = sym (append-nil seen)
saw_all actor seen (t ∷ ts) none =
    saw_all actor (saw_at actor t seen) ts none.1
    ∙ by_test (is_actor actor t.actor)
    (λ e. let quiet = none.0 e in rw (e, quiet) (append_assoc seen (t.saw ∷ []) (sights actor ts)))
    (λ e. rw e refl)

-- so what an actor saw in its call, at a state that a run leads to
pub saw_early : (actor : Actor) (script : Calls) (keep seats : ℕ) (before early : List Turn) (mid : At) → Ran script (start keep seats) (before ++ early) mid → EndsAnswered actor before
    → IsUnanswered actor early → ActorSaw actor mid.ring (sights actor early)
saw_early actor script keep seats before early mid ran ends quiet =
    let all = saw_append actor [] before early ∙ ap (λ (seen : List Observed). saw_in actor seen early) (saw_none actor before ends) ∙ saw_all actor [] early quiet in
    subst (λ (seen : List Observed). ActorSaw actor mid.ring seen) all (ran_saw actor script (start keep seats) (before ++ early) mid [] ran (start_saw actor keep seats))

-- a packet acts at a first load
packet_at : (a : Answer) (seen : List Observed) (now : Observed) → is_packet a ≡ true → IsFirstLoad seen now → ActsAt a seen now
packet_at (Taken (Got n p)) seen now is first = first
packet_at a seen now is first = absurd (cc)

packet_of_reply : (r : Option Answer) (a : Answer) → only_packet r ≡ Some a → is_packet a ≡ true
packet_of_reply None a e = absurd (cc)
packet_of_reply (Some b) a e = by_test (is_packet b) (λ t. let same : Some b ≡ Some a = rw t at e in let is : b ≡ a = cc in rw (← is) t) (λ t. absurd (let none = rw t at e in cc))

end_at : (b : Bool) (a : Answer) (seen : List Observed) (now : Observed) → Taken (if b then Ended else Empty) ≡ a → IsFirstLoad seen now → ActsAt a seen now
end_at true a seen now e first = subst (λ (c : Answer). ActsAt c seen now) e first
end_at false a seen now e first = subst (λ (c : Answer). ActsAt c seen now) e first

-- what acts at a step of the publisher
publisher_at : (phase : PublisherPhase) (call : PublisherCall) (s : State) (o : Outcome) (later : List Turn) (seen : List Observed) (a : Answer) → s.publisher.phase ≡ phase → PublisherActs phase call s o
    → PublisherSaw phase seen → acting_answer o.answer P o.saw later ≡ Some a → ActsAt a seen o.saw
publisher_at publishing.Between (Publish p) s o later seen a phase acts was =
    rw acts.1 (by_test (is_known s (word s (next_place s))) (λ t. rw t (λ e. absurd (cc)))
    (λ t. rw t (λ e. let same : Refused ≡ a = cc in subst (λ (c : Answer). ActsAt c seen (saw.Begin (word s (next_place s)))) same (was, (word s (next_place s), refl)))))
publisher_at publishing.Between Close s o later seen a phase acts was = rw acts.1 (λ e. let same : Closed ≡ a = cc in subst (λ (c : Answer). ActsAt c seen saw.Close) same (was, refl))
publisher_at publishing.Begun (Publish p) s o later seen a phase acts was = rw acts.1 (λ e. absurd (cc))
publisher_at publishing.Filling (Publish p) s o later seen a phase acts was =
    rw acts.1 (by_test (nat_lt s.publisher.written (length s.publisher.packet)) (λ t. rw t (λ e. absurd (cc))) (λ t. rw t (λ e. absurd (cc))))
publisher_at publishing.Finished (Publish p) s o later seen a phase acts was =
    rw acts.1 (λ e. let same : Appended (length s.log) ≡ a = cc in subst (λ (c : Answer). ActsAt c seen (saw.Append (length s.log + 1))) same refl)
publisher_at phase call s o later seen a is acts was = absurd acts

-- what acts at a step of a seat
seat_at_step : (phase : SeatPhase) (call : SeatCall) (s : State) (i : ℕ) (x : views.Seat) (o : Outcome) (later : List Turn) (seen : List Observed) (a : Answer) → SeatActs phase call s i x o → SeatSaw phase seen
    → acting_answer o.answer (Seat i) o.saw later ≡ Some a → ActsAt a seen o.saw
seat_at_step seating.Out (Attach n) s i x o later seen a acts was =
    rw acts (λ e. let same : Attached (back_from s.keep n s.head.length) ≡ a = cc in subst (λ (c : Answer). ActsAt c seen (saw.Load s.head)) same (was, refl))
seat_at_step seating.Between Detach s i x o later seen a acts was =
    rw acts (λ e. let same : Detached (record { taken = x.account.taken; lost = x.account.lost; left = s.head.length - cursor x }) ≡ a = cc in subst (λ (c : Answer). ActsAt c seen (saw.Load s.head)) same (was, refl))
seat_at_step seating.Between Take s i x o later seen a acts was =
    rw acts (by_test (s.head.length == cursor x)
    (λ t. rw t (λ e. end_at s.head.closed a seen (saw.Load s.head) (same_Some _ a (sym (but_end s.head.closed) ∙ e)) (was, refl)))
    (λ t. rw t (by_test (nat_lt (cursor x) (floor s s.head.length))
    (λ l. rw l (λ e. let same : Taken (Lost (floor s s.head.length - cursor x)) ≡ a = cc in subst (λ (c : Answer). ActsAt c seen (saw.Load s.head)) same (inl (was, refl))))
    (λ l. rw l (λ e. packet_at a seen (saw.Load s.head) (packet_of_reply (reply_to i later) a e) (was, refl))))))
seat_at_step seating.Found Take s i x o later seen a acts was = rw acts (λ e. absurd (cc))
seat_at_step seating.Holding Take s i x o later seen a acts was = rw acts (λ e. absurd (cc))
seat_at_step seating.Reading Take s i x o later seen a acts was =
    rw acts (by_test (nat_lt (length x.read) x.length) (λ t. rw t (λ e. absurd (cc))) (λ t. rw t (λ e. absurd (cc))))
seat_at_step seating.Failed Take s i x o later seen a acts was = rw acts (λ e. absurd (cc))
seat_at_step seating.Missed Take s i x o later seen a acts was =
    rw acts (λ e. let same : Taken (Lost (floor s s.head.length - cursor x)) ≡ a = cc in
    subst (λ (c : Answer). ActsAt c seen (saw.Load s.head)) same (inr (was.0, was.1, was.2, was.3, refl)))
seat_at_step phase call s i x o later seen a acts was = absurd acts

-- a call acts where the table has its answer
pub move_at : (actor : Actor) (script : Calls) (old : At) (t : Turn) (new : At) (later : List Turn) (seen : List Observed) (a : Answer) → t.actor ≡ actor → MoveBy actor script old t new → ActorSaw actor old.ring seen
    → acting t later ≡ Some a → ActsAt a seen t.saw
move_at P script old t new later seen a by move was acts =
    publisher_at old.ring.publisher.phase move.call old.ring (outcome_of new.ring t) later seen a refl move.step was (ap (λ (b : Actor). acting_answer t.answer b t.saw later) (sym by) ∙ acts)
move_at (Seat i) script old t new later seen a by move was acts =
    let x = move.step.view in
    let here : seat_at old.ring i ≡ x = get_or_from_slice_get old.ring.seats i x new_seat move.step.there in
    seat_at_step x.phase move.call old.ring i x (outcome_of new.ring t) later seen a move.step.acts (subst (λ (y : views.Seat). SeatSaw y.phase seen) here was)
    (ap (λ (b : Actor). acting_answer t.answer b t.saw later) (sym by) ∙ acts)
