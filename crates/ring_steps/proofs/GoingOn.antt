-- Each actor can go on by steps of its own until it has no call left, wherever the others stand.
use Rattle.std.proofs.Common.{◌≡◌, ◌≢◌, ℕ, zero, suc, ◌+◌, ◌≤◌, ◌⊎◌, Bool, true, false, Some, None, List, [], ◌∷◌, ◌++◌, length, map, replicate, refl, sym, ◌∙◌, ap, subst, arith, inl, inr, get_or, slice_get, slice_set, is_some}
use Rattle.std.proofs.lemmas.Bool.{cases_lt}
use Rattle.std.proofs.lemmas.Bool.Decides.{eqb_tells}
use Rattle.std.proofs.lemmas.Option.{same_Some, slice_get_cases, slice_get-get_or, slice_get_within}
use Rattle.cursor.proofs.Counting.{read_place}
use Rattle.ring_steps.specs.declared.calls.Actor.{Actor}
use Rattle.ring_steps.specs.declared.calls.Actor.TheVariants.{P, Seat}
use Rattle.ring_steps.specs.declared.calls.PublisherCall.{PublisherCall}
use Rattle.ring_steps.specs.declared.calls.PublisherCall.TheVariants.{Publish, Close}
use Rattle.ring_steps.specs.declared.calls.SeatCall.{SeatCall}
use Rattle.ring_steps.specs.declared.calls.SeatCall.TheVariants.{Attach, Take, Detach}
use Rattle.ring_steps.specs.declared.config.Config.{Config}
use Rattle.ring_steps.specs.declared.views.PublisherPhase.{PublisherPhase}
use Rattle.ring_steps.specs.declared.views.PublisherPhase.TheVariants as publishing
use Rattle.ring_steps.specs.declared.views.Seat as views
use Rattle.ring_steps.specs.declared.views.SeatPhase.{SeatPhase}
use Rattle.ring_steps.specs.declared.views.SeatPhase.TheVariants as seating
use Rattle.ring_steps.specs.Answers.{publisher_call, seat_call}
use Rattle.ring_steps.specs.Bounds.{MayCall, MayPublish}
use Rattle.ring_steps.specs.Faults.{HasCall, SeatHasCall, actors}
use Rattle.ring_steps.specs.Making.{GoesAlone, IsSound, SoFar, TakesTurn, calls_left, in_turn, nothing_made}
use Rattle.ring_steps.specs.Ring.{State, seat_at}
use Rattle.ring_steps.specs.RunningOut.{GoesOnWithout}
use Rattle.ring_steps.specs.Runs.{At, Calls, MoveBy, Ran, Turn, answered, start}
use Rattle.ring_steps.specs.Scripts.{IsGoodConfig, IsGoodScript}
use Rattle.ring_steps.specs.Step.{Outcome, PublisherActs, SeatActs, append, attach, begin, close, detach, first_load, pin, read_length, read_on, second_load, unpin_failed, write_length, write_on}
use Rattle.ring_steps.specs.Traces.{made_of}
use Rattle.ring_steps.proofs.Bounds.{seat_there}
use Rattle.ring_steps.proofs.Nearing.{steps_left, turn_nearer}
use Rattle.ring_steps.proofs.Others.{OthersSoFar, others_finish, others_first, others_more, others_past, others_without}
use Rattle.ring_steps.proofs.Ready.{publisher_ready, seat_ready}
use Rattle.ring_steps.proofs.RunningOut.{alone_nowhere, alone_on, alone_turn, goes_sound, move_of_turn, nothing_sound, turn_ends, turn_waits}

-- who may go on by a call has a step in it
publisher_acts : (phase : PublisherPhase) (call : PublisherCall) (s : State) → MayPublish phase call s → (o : Outcome) × PublisherActs phase call s o
publisher_acts publishing.Between (Publish p) s may = (begin s p, (may, refl))
publisher_acts publishing.Between Close s may = (close s, (may, refl))
publisher_acts publishing.Begun (Publish p) s may = (write_length s, (may, refl))
publisher_acts publishing.Filling (Publish p) s may = (write_on s, (may, refl))
publisher_acts publishing.Finished (Publish p) s may = (append s, (may, refl))
publisher_acts publishing.Begun Close s may = absurd may
publisher_acts publishing.Filling Close s may = absurd may
publisher_acts publishing.Finished Close s may = absurd may

seat_acts : (phase : SeatPhase) (call : SeatCall) (s : State) (i : ℕ) (x : views.Seat) → MayCall phase call → (o : Outcome) × SeatActs phase call s i x o
seat_acts seating.Out (Attach n) s i x may = (attach s i x n, refl)
seat_acts seating.Between Detach s i x may = (detach s i x, refl)
seat_acts seating.Between Take s i x may = (first_load s i x, refl)
seat_acts seating.Found Take s i x may = (pin s i x, refl)
seat_acts seating.Holding Take s i x may = (read_length s i x, refl)
seat_acts seating.Reading Take s i x may = (read_on s i x, refl)
seat_acts seating.Failed Take s i x may = (unpin_failed s i x, refl)
seat_acts seating.Missed Take s i x may = (second_load s i x, refl)
seat_acts phase call s i x may = absurd may

-- one turn of an actor that has a call left
pub record CanStep (calls : Calls) (actor : Actor) (so : SoFar) : Type 0 where
  pub ended : Bool
  pub new : SoFar
  pub takes : TakesTurn calls actor ended so new

can_step : (actor : Actor) (calls : Calls) (so : SoFar) → IsSound calls so → IsGoodScript calls → HasCall calls so.at actor → CanStep calls actor so
can_step P calls so sound good has =
    let at = so.at in
    let call = get_or calls.publisher at.publisher Close in
    let next : slice_get calls.publisher at.publisher ≡ Some call = slice_get-get_or calls.publisher at.publisher Close has in
    let acts = publisher_acts at.ring.publisher.phase call at.ring (publisher_ready calls at call sound.agrees good next) in
    let o = acts.0 in
    let t : Turn = record { actor = P; call = publisher_call call; saw = o.saw; answer = o.answer } in
    let new : At = record { ring = o.state; publisher = answered at.publisher o.answer; seats = at.seats } in
    record {
      ended = is_some o.answer;
      new = record { at = new; steps = so.steps ++ made_of t ∷ [] };
      takes = record { turn = t; by = refl; move = record { call = call; next = next; named = refl; step = acts.1; publisher = refl; seats = refl }; ends = refl; made = refl };
    }
can_step (Seat i) calls so sound good has =
    let at = so.at in
    let call = get_or has.own has.count (Attach 0) in
    let next : slice_get has.own has.count ≡ Some call = slice_get-get_or has.own has.count (Attach 0) has.left in
    let ready = seat_ready calls at i has.own has.count call sound.agrees good has.script_has has.counted next in
    let x = seat_at at.ring i in
    let acts = seat_acts x.phase call at.ring i x ready.may in
    let o = acts.0 in
    let t : Turn = record { actor = Seat i; call = seat_call i call; saw = o.saw; answer = o.answer } in
    let new : At = record { ring = o.state; publisher = at.publisher; seats = slice_set at.seats i (answered has.count o.answer) } in
    record {
      ended = is_some o.answer;
      new = record { at = new; steps = so.steps ++ made_of t ∷ [] };
      takes = record {
        turn = t;
        by = refl;
        move = record {
          calls = has.own;
          script_has = has.script_has;
          count = has.count;
          counted = has.counted;
          call = call;
          next = next;
          named = refl;
          step = record { view = x; there = seat_there at.ring i ready.there; acts = acts.1 };
          publisher = refl;
          seats = refl;
        };
        ends = refl;
        made = refl;
      };
    }

-- a turn that answers nothing leaves its actor's call to be answered
still_has : (actor : Actor) (calls : Calls) (old : At) (t : Turn) (new : At) → MoveBy actor calls old t new → is_some t.answer ≡ false → HasCall calls new actor
still_has P calls old t new move none =
    let below = slice_get_within calls.publisher old.publisher move.call move.next in
    let same : new.publisher ≡ old.publisher = rw none at move.publisher in
    omega arith
still_has (Seat i) calls old t new move none =
    let there : slice_get new.seats i ≡ Some (answered move.count t.answer) =
    ap (λ (xs : List ℕ). slice_get xs i) move.seats ∙ read_place old.seats i move.count (answered move.count t.answer) move.counted in
    record {
      own = move.calls;
      script_has = move.script_has;
      count = move.count;
      counted = rw none at there;
      left = slice_get_within move.calls move.count move.call move.next;
    }

-- the actor goes on to the end of its call
pub record Ends (calls : Calls) (actor : Actor) (so : SoFar) : Type 0 where
  pub new : SoFar
  pub alone : GoesAlone calls actor so new
  pub fewer : calls_left calls actor new.at + 1 ≤ calls_left calls actor so.at

after_turn : (calls : Calls) (actor : Actor) (so : SoFar) (ended : Bool) (new : SoFar) → TakesTurn calls actor ended so new
    → ((mid : SoFar) → TakesTurn calls actor false so mid → Ends calls actor so) → Ends calls actor so
after_turn calls actor so true new takes more =
    record { new = new; alone = alone_turn calls actor true so so new (alone_nowhere calls actor so) takes; fewer = turn_ends calls actor so new takes }
after_turn calls actor so false new takes more = more new takes

nearer : (calls : Calls) (actor : Actor) (so mid : SoFar) → TakesTurn calls actor false so mid → steps_left calls actor mid.at + 1 ≤ steps_left calls actor so.at
nearer calls actor so mid takes = turn_nearer actor calls so.at takes.turn mid.at (move_of_turn calls actor so mid takes) takes.ends

call_ends : (n : ℕ) (calls : Calls) (actor : Actor) (so : SoFar) → IsSound calls so → IsGoodScript calls → HasCall calls so.at actor → steps_left calls actor so.at ≤ n → Ends calls actor so
call_ends zero calls actor so sound good has few =
    let step = can_step actor calls so sound good has in
    after_turn calls actor so step.ended step.new step.takes (λ mid takes. (let near = nearer calls actor so mid takes in absurd (omega arith)))
call_ends (suc n) calls actor so sound good has few =
    let step = can_step actor calls so sound good has in
    after_turn calls actor so step.ended step.new step.takes (λ mid takes.
    (let near = nearer calls actor so mid takes in
    let moved = alone_turn calls actor false so so mid (alone_nowhere calls actor so) takes in
    let sound' = goes_sound calls (replicate moved.count actor) so mid sound moved.goes in
    let has' = still_has actor calls so.at takes.turn mid.at (move_of_turn calls actor so mid takes) takes.ends in
    let rest = call_ends n calls actor mid sound' good has' (omega arith) in
    let same = turn_waits calls actor so mid takes in
    let fewer = rest.fewer in
    record { new = rest.new; alone = alone_on calls actor so mid rest.new moved rest.alone; fewer = omega arith }))

not_left : (calls : Calls) (at : At) (i : ℕ) (own : List SeatCall) (n : ℕ) → slice_get calls.seats i ≡ Some own → slice_get at.seats i ≡ Some n → length own ≤ n → ¬ SeatHasCall calls at i
not_left calls at i own n script counted past = λ has.
    (let calls_same = ap (λ (cs : List SeatCall). length cs) (same_Some own has.own (sym script ∙ has.script_has)) in
    let count_same = same_Some n has.count (sym counted ∙ has.counted) in
    let left = has.left in
    omega arith)

no_script : (calls : Calls) (at : At) (i : ℕ) → slice_get calls.seats i ≡ None → ¬ SeatHasCall calls at i
no_script calls at i none = λ has. (let own = has.script_has in absurd (cc))

no_count : (calls : Calls) (at : At) (i : ℕ) → slice_get at.seats i ≡ None → ¬ SeatHasCall calls at i
no_count calls at i none = λ has. (let count = has.counted in absurd (cc))

has_or_not : (actor : Actor) (calls : Calls) (at : At) → HasCall calls at actor ⊎ (¬ HasCall calls at actor)
has_or_not P calls at = elim (cases_lt at.publisher (length calls.publisher)) [ inl e ↦ inl e | inr e ↦ inr (λ has. (omega (arith, e, has))) ]
has_or_not (Seat i) calls at = elim (slice_get_cases calls.seats i).1 [
  | inr e ↦ inr (no_script calls at i e.1)
  | inl s ↦ elim (slice_get_cases at.seats i).1 [
    | inr e ↦ inr (no_count calls at i e.1)
    | inl n ↦ elim (cases_lt n.0 (length s.0)) [
      | inl e ↦ inl (record { own = s.0; script_has = s.2; count = n.0; counted = n.2; left = e })
      | inr e ↦ inr (not_left calls at i s.0 n.0 s.2 n.2 e)
    ]
  ]
]

-- the actor goes on until it has no call left
pub record IsThrough (calls : Calls) (actor : Actor) (so : SoFar) : Type 0 where
  pub new : SoFar
  pub alone : GoesAlone calls actor so new
  pub none : ¬ HasCall calls new.at actor

all_end : (m : ℕ) (calls : Calls) (actor : Actor) (so : SoFar) → IsSound calls so → IsGoodScript calls → calls_left calls actor so.at ≤ m → IsThrough calls actor so
all_end zero calls actor so sound good few = elim (has_or_not actor calls so.at) [
  | inr none ↦ record { new = so; alone = alone_nowhere calls actor so; none = none }
  | inl has ↦ let ends = call_ends (steps_left calls actor so.at) calls actor so sound good has (omega arith) in let fewer = ends.fewer in absurd (omega arith)
]
all_end (suc m) calls actor so sound good few = elim (has_or_not actor calls so.at) [
  | inr none ↦ record { new = so; alone = alone_nowhere calls actor so; none = none }
  | inl has ↦
      let ends = call_ends (steps_left calls actor so.at) calls actor so sound good has (omega arith) in
      let fewer = ends.fewer in
      let sound' = goes_sound calls (replicate ends.alone.count actor) so ends.new sound ends.alone.goes in
      let rest = all_end m calls actor ends.new sound' good (omega arith) in
      record { new = rest.new; alone = alone_on calls actor so ends.new rest.new ends.alone rest.alone; none = rest.none }
]

same_actor : (a b : Actor) → (a ≡ b) ⊎ (a ≢ b)
same_actor P P = inl refl
same_actor P (Seat j) = inr (λ e. absurd (cc))
same_actor (Seat i) P = inr (λ e. absurd (cc))
same_actor (Seat i) (Seat j) = elim (eqb_tells i j) [ inl e ↦ inl (ap Seat e.1) | inr e ↦ inr (λ same. e.1 (cc)) ]

-- so do the publisher and so many seats, but for the stopped actor
pub record AreThrough (calls : Calls) (stopped : Actor) (k : ℕ) (so : SoFar) : Type 0 where
  pub new : SoFar
  pub others : OthersSoFar calls stopped k so new

others_end : (k : ℕ) (calls : Calls) (stopped : Actor) (so : SoFar) → IsSound calls so → IsGoodScript calls → AreThrough calls stopped k so
others_end zero calls stopped so sound good = elim (same_actor P stopped) [
  | inl is ↦ record { new = so; others = subst (λ (a : Actor). OthersSoFar calls a 0 so so) is (others_without calls so) }
  | inr other ↦
      let through = all_end (calls_left calls P so.at) calls P so sound good (omega arith) in
      record { new = through.new; others = others_first calls stopped so through.new other through.alone through.none }
]
others_end (suc k) calls stopped so sound good =
    let before = others_end k calls stopped so sound good in
    let next : k + 1 ≡ suc k = omega arith in
    elim (same_actor (Seat k) stopped) [
      | inl is ↦ record { new = before.new; others = subst (λ n. OthersSoFar calls stopped n so before.new) next (others_past calls stopped k so before.new is before.others) }
      | inr other ↦
          let sound' = goes_sound calls (in_turn before.others.publisher before.others.seats) so before.new sound before.others.goes in
          let through = all_end (calls_left calls (Seat k) before.new.at) calls (Seat k) before.new sound' good (omega arith) in
          record {
            new = through.new;
            others = subst (λ n. OthersSoFar calls stopped n so through.new) next (others_more calls stopped k so before.new through.new other before.others through.alone through.none);
          }
    ]

-- nobody waits for an actor that stops
pub goes_on_without : (config : Config) (calls : Calls) (turns : List Turn) (mid : At) (stopped : Actor) → IsGoodConfig config calls → IsGoodScript calls
    → Ran calls (start config.keep config.seats) turns mid → GoesOnWithout calls stopped mid
goes_on_without config calls turns mid stopped good script ran =
    let so : SoFar = record { at = mid; steps = map made_of turns } in
    let sound = goes_sound calls (actors turns) (nothing_made config) so (nothing_sound config calls good) (record { turns = turns; ran = ran; by = refl; made = refl }) in
    let through = others_end (length calls.seats) calls stopped so sound script in
    let all = others_finish calls stopped (length calls.seats) so through.new refl through.others in
    record {
      publisher = all.publisher;
      seats = all.seats;
      turns = all.goes.turns;
      end = through.new.at;
      ran = all.goes.ran;
      by = all.goes.by;
      stays = all.stays;
      answered = all.answered;
    }
