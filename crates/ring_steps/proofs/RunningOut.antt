-- What turns do to a run that is being made, and how an actor comes to have no call left.
use Rattle.std.proofs.Common.{◌≡◌, ◌≢◌, ℕ, zero, suc, ◌+◌, ◌≤◌, true, false, Bool, Some, List, [], ◌∷◌, ◌++◌, length, map, replicate, refl, sym, ◌∙◌, ap, subst, arith, slice_get, is_some}
use Rattle.std.specs.Prelude.{slice_index_or}
use Rattle.std.proofs.lemmas.List.{append_assoc, append-nil, length-append, length-map, map-append, replicate-append-replicate, replicate_more}
use Rattle.std.proofs.lemmas.Option.{get_or_from_slice_get, slice_get_within}
use Rattle.cursor.proofs.Attachments.{read_other}
use Rattle.cursor.proofs.Counting.{read_place}
use Rattle.ring_steps.specs.declared.calls.Actor.{Actor}
use Rattle.ring_steps.specs.declared.calls.Actor.TheVariants.{P, Seat}
use Rattle.ring_steps.specs.declared.calls.SeatCall.{SeatCall}
use Rattle.ring_steps.specs.declared.config.Config.{Config}
use Rattle.ring_steps.specs.declared.made.Made.{Made}
use Rattle.ring_steps.specs.Acting.{answered_of, calls_of_actor}
use Rattle.ring_steps.specs.Answers.{publisher_call, seat_call}
use Rattle.ring_steps.specs.Bounds.{CountsTo}
use Rattle.ring_steps.specs.Faults.{HasCall, actors}
use Rattle.ring_steps.specs.Making.{Goes, GoesAlone, IsSound, SoFar, TakesTurn, calls_left, in_turn, nothing_made, seats_in_turn}
use Rattle.ring_steps.specs.Runs.{At, Calls, MoveBy, Ran, Turn, answered}
use Rattle.ring_steps.specs.Scripts.{IsGoodConfig}
use Rattle.ring_steps.specs.Traces.{made_of}
use Rattle.ring_steps.proofs.Opening.{empty_keeps}
use Rattle.ring_steps.proofs.Running.{ran_keeps}
use Rattle.ring_steps.proofs.Turning.{IsReady, ran_agrees, ran_counts, ran_keep, start_agrees, start_counts}

-- turns after turns
ran_append : (calls : Calls) (old : At) (xs ys : List Turn) (mid new : At) → Ran calls old xs mid → Ran calls mid ys new → Ran calls old (xs ++ ys) new
ran_append calls old [] ys mid new first then = subst (λ (a : At). Ran calls a ys new) first then
ran_append calls old (x ∷ xs) ys mid new first then = (first.0, first.1, ran_append calls first.0 xs ys mid new first.2 then)

pub goes_nowhere : (calls : Calls) (so : SoFar) → Goes calls [] so so
goes_nowhere calls so = record { turns = []; ran = refl; by = refl; made = sym (append-nil so.steps) }

pub goes_on : (calls : Calls) (xs ys : List Actor) (old mid new : SoFar) → Goes calls xs old mid → Goes calls ys mid new → Goes calls (xs ++ ys) old new
goes_on calls xs ys old mid new first then = record {
  turns = first.turns ++ then.turns;
  ran = ran_append calls old.at first.turns then.turns mid.at new.at first.ran then.ran;
  by = map-append (λ (t : Turn). t.actor) first.turns then.turns ∙ ap (λ (list : List Actor). list ++ actors then.turns) first.by ∙ ap (λ (list : List Actor). xs ++ list) then.by;
  made = then.made ∙ ap (λ (ms : List Made). ms ++ map made_of then.turns) first.made
      ∙ append_assoc old.steps (map made_of first.turns) (map made_of then.turns)
      ∙ ap (λ (ms : List Made). old.steps ++ ms) (sym (map-append made_of first.turns then.turns));
}

pub turn_goes : (calls : Calls) (actor : Actor) (ended : Bool) (old new : SoFar) → TakesTurn calls actor ended old new → Goes calls (actor ∷ []) old new
turn_goes calls actor ended old new takes = record {
  turns = takes.turn ∷ [];
  ran = (new.at, takes.move, refl);
  by = ap (λ (a : Actor). a ∷ []) takes.by;
  made = takes.made;
}

pub alone_nowhere : (calls : Calls) (actor : Actor) (so : SoFar) → GoesAlone calls actor so so
alone_nowhere calls actor so = record { count = 0; goes = goes_nowhere calls so }

pub alone_turn : (calls : Calls) (actor : Actor) (ended : Bool) (old mid new : SoFar) → GoesAlone calls actor old mid → TakesTurn calls actor ended mid new → GoesAlone calls actor old new
alone_turn calls actor ended old mid new alone takes = record {
  count = alone.count + 1;
  goes = subst (λ (list : List Actor). Goes calls list old new) (replicate_more alone.count actor)
      (goes_on calls (replicate alone.count actor) (actor ∷ []) old mid new alone.goes (turn_goes calls actor ended mid new takes));
}

pub alone_on : (calls : Calls) (actor : Actor) (old mid new : SoFar) → GoesAlone calls actor old mid → GoesAlone calls actor mid new → GoesAlone calls actor old new
alone_on calls actor old mid new first then = record {
  count = first.count + then.count;
  goes = subst (λ (list : List Actor). Goes calls list old new) (replicate-append-replicate first.count then.count actor)
      (goes_on calls (replicate first.count actor) (replicate then.count actor) old mid new first.goes then.goes);
}

-- what is sound stays so
pub goes_sound : (calls : Calls) (whose : List Actor) (old new : SoFar) → IsSound calls old → Goes calls whose old new → IsSound calls new
goes_sound calls whose old new sound goes =
    let agrees = ran_agrees calls old.at goes.turns new.at goes.ran sound.agrees in
    let was = sound.agrees.views in
    let is = agrees.views in
    let keep = ran_keep calls old.at goes.turns new.at goes.ran in
    let size = sound.size in
    let low = size.keep in
    let few = size.seats in
    let counts = ran_counts calls old.at goes.turns new.at (length old.steps) goes.ran sound.counts in
    let many : length old.steps + length goes.turns ≡ length new.steps =
    ap (λ k. length old.steps + k) (sym (length-map goes.turns made_of)) ∙ sym (length-append old.steps (map made_of goes.turns)) ∙ ap (λ (ms : List Made). length ms) (sym goes.made) in
    record {
      invariant = ran_keeps calls old.at goes.turns new.at goes.ran sound.invariant;
      agrees = agrees;
      size = record { keep = omega arith; seats = omega arith };
      counts = subst (λ (n : ℕ). CountsTo n new.at.ring) many counts;
    }

pub nothing_sound : (config : Config) (calls : Calls) → IsGoodConfig config calls → IsSound calls (nothing_made config)
nothing_sound config calls good =
    let high = good.high in
    let seats = good.seats in
    let fits = good.fits in
    let agrees = start_agrees calls config.keep config.seats fits in
    let views = agrees.views in
    record {
      invariant = empty_keeps config.keep config.seats good.low;
      agrees = agrees;
      size = record { keep = high; seats = omega arith };
      counts = start_counts config.keep config.seats;
    }

pub sound_ready : (calls : Calls) (so : SoFar) → IsSound calls so → length so.steps ≤ 1152921504606846976 → IsReady calls so.at
sound_ready calls so sound few =
    let counts = sound.counts in
    let log = counts.log in
    let failed = counts.failed in
    record {
      invariant = sound.invariant;
      room = record {
        size = sound.size;
        counts = record { log = omega arith; failed = omega arith; loads = λ i x there. (let loads = counts.loads i x there in omega arith); misses = λ i x there. (let misses = counts.misses i x there in omega arith) };
      };
      agrees = sound.agrees;
    }

-- a turn leaves the others' calls as they were
move_others : (mover actor : Actor) (calls : Calls) (old : At) (t : Turn) (new : At) → MoveBy mover calls old t new → actor ≢ mover → HasCall calls new actor → HasCall calls old actor
move_others P P calls old t new move other has = absurd (other refl)
move_others P (Seat j) calls old t new move other has =
    record { own = has.own; script_has = has.script_has; count = has.count; counted = rw move.seats at has.counted; left = has.left }
move_others (Seat i) P calls old t new move other has = let same = move.publisher in omega arith
move_others (Seat i) (Seat j) calls old t new move other has =
    let apart : i ≢ j = λ e. other (ap Seat (sym e)) in
    let counted : slice_get old.seats j ≡ Some has.count =
    sym (read_other old.seats i j (answered move.count t.answer) apart) ∙ ap (λ (xs : List ℕ). slice_get xs j) (sym move.seats) ∙ has.counted in
    record { own = has.own; script_has = has.script_has; count = has.count; counted = counted; left = has.left }

ran_others : (calls : Calls) (actor other : Actor) (n : ℕ) (old : At) (turns : List Turn) (new : At) → other ≢ actor → actors turns ≡ replicate n actor → Ran calls old turns new
    → HasCall calls new other → HasCall calls old other
ran_others calls actor other n old [] new apart by ran has = subst (λ (a : At). HasCall calls a other) ran has
ran_others calls actor other zero old (t ∷ ts) new apart by ran has = absurd (cc)
ran_others calls actor other (suc n) old (t ∷ ts) new apart by ran has =
    let mine : t.actor ≡ actor = cc in
    let rest : actors ts ≡ replicate n actor = cc in
    let ne : other ≢ t.actor = λ e. apart (e ∙ mine) in
    move_others t.actor other calls old t ran.0 ran.1 ne (ran_others calls actor other n ran.0 ts new apart rest ran.2 has)

-- who has no call left has none after another's turns
pub others_stay : (calls : Calls) (actor other : Actor) (old new : SoFar) → other ≢ actor → GoesAlone calls actor old new → ¬ HasCall calls old.at other → ¬ HasCall calls new.at other
others_stay calls actor other old new apart alone none = λ has.
    none (ran_others calls actor other alone.count old.at alone.goes.turns new.at apart alone.goes.by alone.goes.ran has)

-- a turn leaves one call less to be answered where it answers one, and as many else
move_left : (actor : Actor) (calls : Calls) (old : At) (t : Turn) (new : At) → MoveBy actor calls old t new
    → (is_some t.answer ≡ true → calls_left calls actor new + 1 ≤ calls_left calls actor old) × (is_some t.answer ≡ false → calls_left calls actor new ≡ calls_left calls actor old)
move_left P calls old t new move =
    let below = slice_get_within calls.publisher old.publisher move.call move.next in
    let many = length-map calls.publisher publisher_call in
    let count = move.publisher in
    (λ some. (let more : new.publisher ≡ old.publisher + 1 = rw some at count in omega arith), λ none. (let same : new.publisher ≡ old.publisher = rw none at count in omega arith))
move_left (Seat i) calls old t new move =
    let below = slice_get_within move.calls move.count move.call move.next in
    let own : slice_index_or calls.seats i [] ≡ move.calls = get_or_from_slice_get calls.seats i move.calls [] move.script_has in
    let many : length (calls_of_actor calls (Seat i)) ≡ length move.calls = length-map (slice_index_or calls.seats i []) (seat_call i) ∙ ap (λ (cs : List SeatCall). length cs) own in
    let before : answered_of old (Seat i) ≡ move.count = get_or_from_slice_get old.seats i move.count 0 move.counted in
    let there : slice_get new.seats i ≡ Some (answered move.count t.answer) =
    ap (λ (xs : List ℕ). slice_get xs i) move.seats ∙ read_place old.seats i move.count (answered move.count t.answer) move.counted in
    let after : answered_of new (Seat i) ≡ answered move.count t.answer = get_or_from_slice_get new.seats i (answered move.count t.answer) 0 there in (
      λ some. (let more : answered_of new (Seat i) ≡ move.count + 1 = rw some at after in omega arith),
      λ none. (let same : answered_of new (Seat i) ≡ move.count = rw none at after in omega arith),
    )

move_of : (calls : Calls) (actor : Actor) (ended : Bool) (old new : SoFar) (takes : TakesTurn calls actor ended old new) → MoveBy actor calls old.at takes.turn new.at
move_of calls actor ended old new takes = subst (λ (a : Actor). MoveBy a calls old.at takes.turn new.at) takes.by takes.move

pub turn_ends : (calls : Calls) (actor : Actor) (old new : SoFar) → TakesTurn calls actor true old new → calls_left calls actor new.at + 1 ≤ calls_left calls actor old.at
turn_ends calls actor old new takes = (move_left actor calls old.at takes.turn new.at (move_of calls actor true old new takes)).0 takes.ends

pub turn_waits : (calls : Calls) (actor : Actor) (old new : SoFar) → TakesTurn calls actor false old new → calls_left calls actor new.at ≡ calls_left calls actor old.at
turn_waits calls actor old new takes = (move_left actor calls old.at takes.turn new.at (move_of calls actor false old new takes)).1 takes.ends

pub move_of_turn : (calls : Calls) (actor : Actor) (old new : SoFar) (takes : TakesTurn calls actor false old new) → MoveBy actor calls old.at takes.turn new.at
move_of_turn calls actor old new takes = move_of calls actor false old new takes

seats_more : (i : ℕ) (ns : List ℕ) (m : ℕ) → seats_in_turn i (ns ++ m ∷ []) ≡ seats_in_turn i ns ++ replicate m (Seat (i + length ns))
seats_more i [] m = let zero_more : i + 0 ≡ i = omega arith in rw zero_more (append-nil (replicate m (Seat i)))
seats_more i (n ∷ ns) m =
    let step : (i + 1) + length ns ≡ i + length (n ∷ ns) = omega arith in
    ap (λ (list : List Actor). replicate n (Seat i) ++ list) (seats_more (i + 1) ns m ∙ ap (λ k. seats_in_turn (i + 1) ns ++ replicate m (Seat k)) step)
    ∙ sym (append_assoc (replicate n (Seat i)) (seats_in_turn (i + 1) ns) (replicate m (Seat (i + length (n ∷ ns)))))

-- a seat more in turn
pub in_turn_more : (n : ℕ) (ns : List ℕ) (m : ℕ) → in_turn n (ns ++ m ∷ []) ≡ in_turn n ns ++ replicate m (Seat (length ns))
in_turn_more n ns m =
    let first : 0 + length ns ≡ length ns = omega arith in
    ap (λ (list : List Actor). replicate n P ++ list) (seats_more 0 ns m ∙ ap (λ k. seats_in_turn 0 ns ++ replicate m (Seat k)) first) ∙ sym (append_assoc (replicate n P) (seats_in_turn 0 ns) (replicate m (Seat (length ns))))
