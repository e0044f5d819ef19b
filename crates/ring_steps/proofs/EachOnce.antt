-- In a run each answered call has one event, and no other has one; only a take that comes to a packet has it before its answer.
use Rattle.std.proofs.Common.{◌≡◌, ◌≢◌, ℕ, ◌+◌, ◌-◌, ◌==◌, true, false, Option, Some, None, List, [], ◌∷◌, ◌++◌, length, refl, sym, ◌∙◌, ap, subst, inl, inr, append-nil, append_assoc, get_or, get_or-set_other, slice_get, slice_set, nat_lt, is_some, ◌||◌}
use Rattle.std.specs.Prelude.{if◌then◌else◌, option_and_then}
use Rattle.std.proofs.lemmas.Bool.Decides.{eqb_tells}
use Rattle.std.proofs.lemmas.Option.{get_or_from_slice_get}
use Rattle.cursor.specs.declared.calls.Answer.{Answer}
use Rattle.cursor.proofs.Counting.{read_place}
use Rattle.cursor.specs.Log.{Event}
use Rattle.ring_steps.specs.declared.calls.Actor.{Actor}
use Rattle.ring_steps.specs.declared.calls.Actor.TheVariants.{P, Seat}
use Rattle.ring_steps.specs.declared.calls.PublisherCall.{PublisherCall}
use Rattle.ring_steps.specs.declared.calls.PublisherCall.TheVariants.{Publish, Close}
use Rattle.ring_steps.specs.declared.calls.SeatCall.{SeatCall}
use Rattle.ring_steps.specs.declared.calls.SeatCall.TheVariants.{Attach, Take, Detach}
use Rattle.ring_steps.specs.declared.views.PublisherPhase.{PublisherPhase}
use Rattle.ring_steps.specs.declared.views.PublisherPhase.TheVariants as publishing
use Rattle.ring_steps.specs.declared.views.Seat as views
use Rattle.ring_steps.specs.declared.views.SeatPhase.{SeatPhase}
use Rattle.ring_steps.specs.declared.views.SeatPhase.TheVariants as seating
use Rattle.ring_steps.specs.Acting.{Acted, acted, acted_at, acting, answer_of, answered_call, answers_of, but_packet, events_of, is_actor, is_load, only_packet, reply_to}
use Rattle.ring_steps.specs.Answers.{seat_call}
use Rattle.ring_steps.specs.Ring.{State, cursor, floor, new_seat, seat_at, word}
use Rattle.ring_steps.specs.Runs.{At, Calls, MoveBy, PublisherMove, Ran, SeatMove, Turn, outcome_of, start}
use Rattle.ring_steps.specs.Step.{Outcome, PublisherActs, SeatActs, attach, detach, end_take, find_packet, is_known, loaded, lose, next_place, pin, read_byte, read_length, second_load, unpin, unpin_failed}
use Rattle.ring_steps.specs.Traces.{ActsOnce}
use Rattle.ring_steps.proofs.Counting.{answers_are_first, is_itself}
use Rattle.ring_steps.proofs.Frames.{publisher_frame, seat_frame}
use Rattle.ring_steps.proofs.History.{but_end, same_turn, turn_by}
use Rattle.ring_steps.proofs.Opening.{get_new}
use Rattle.ring_steps.proofs.Pending.{GoesOnTaking, TakesOn, byte_goes, length_goes, pin_goes, unpin_failed_goes}
use Rattle.ring_steps.proofs.Places.{by_test}
use Rattle.ring_steps.proofs.Telling.{acts_publisher, acts_silent, not_publishers, others, own, reply_ends, reply_skips, silent}

-- a take that acted and isn't answered yet, by the answer that it comes to: only a packet is one
abbrev pub ahead : (seat : ℕ) → SeatPhase → (reply : Option Answer) → List Event
ahead i seating.Out reply = []
ahead i seating.Between reply = []
ahead i phase reply = answered_call (seat_call i Take) (only_packet reply)

-- what is owed before a turn and acts there is what is answered there and owed after it
abbrev pub Pays : (owed acts answered still : List Event) → Type 0
Pays owed acts answered still = owed ++ acts ≡ answered ++ still

-- so it is for a step of a seat
pub record SeatPays (s : State) (i : ℕ) (x : views.Seat) (o : Outcome) (call : SeatCall) (ts : List Turn) : Type 0 where
  pub view : views.Seat
  pub seats : o.state.seats ≡ slice_set s.seats i view
  pub pays : (let t = turn_by (Seat i) (seat_call i call) o in
      Pays (ahead i x.phase (reply_to i (t ∷ ts))) (answered_call t.call (acting t ts)) (answered_call t.call o.answer) (ahead i view.phase (reply_to i ts)))

ahead_between : (i : ℕ) (phase : SeatPhase) (r : Option Answer) → phase ≡ seating.Between → ahead i phase r ≡ []
ahead_between i phase r e = rw e refl

ahead_out : (i : ℕ) (phase : SeatPhase) (r : Option Answer) → phase ≡ seating.Out → ahead i phase r ≡ []
ahead_out i phase r e = rw e refl

ahead_taking : (i : ℕ) (phase : SeatPhase) (r : Option Answer) → TakesOn phase → ahead i phase r ≡ answered_call (seat_call i Take) (only_packet r)
ahead_taking i seating.Out r on = absurd on
ahead_taking i seating.Between r on = absurd on
ahead_taking i phase r on = refl

goes_on_pays : (s : State) (i : ℕ) (x : views.Seat) (o : Outcome) (ts : List Turn) → TakesOn x.phase → GoesOnTaking s i x o → SeatPays s i x o Take ts
goes_on_pays s i x o ts on goes =
    let t = turn_by (Seat i) (seat_call i Take) o in
    let unanswered : is_some t.answer ≡ false = rw goes.answer refl in
    let quiet : (is_some t.answer || is_load t.saw) ≡ false = rw (goes.answer, goes.saw) refl in
    let skips = reply_skips i t ts (silent i t quiet) in
    let call = seat_call i Take in
    let owed = answered_call call (only_packet (reply_to i ts)) in
    let before : ahead i x.phase (reply_to i (t ∷ ts)) ≡ owed = ahead_taking i x.phase (reply_to i (t ∷ ts)) on ∙ ap (λ (r : Option Answer). answered_call call (only_packet r)) skips in
    let after : ahead i goes.view.phase (reply_to i ts) ≡ owed = ahead_taking i goes.view.phase (reply_to i ts) goes.takes in
    let none = acts_silent t ts unanswered goes.saw in
    let answer = goes.answer in
    record { view = goes.view; seats = goes.seats; pays = rw (before, after, none, answer) (append-nil owed) }

end_pays : (s : State) (i : ℕ) (x : views.Seat) (ts : List Turn) → x.phase ≡ seating.Between → SeatPays s i x (end_take s i x) Take ts
end_pays s i x ts phase =
    let t = turn_by (Seat i) (seat_call i Take) (end_take s i x) in
    let none = ahead_between i x.phase (reply_to i (t ∷ ts)) phase in
    let still = ahead_between i x.phase (reply_to i ts) phase in
    let acts = but_end s.head.closed in
    record { view = loaded s x; seats = refl; pays = rw (none, still, acts) refl }

lose_pays : (s : State) (i : ℕ) (x : views.Seat) (k : ℕ) (ts : List Turn) → ahead i x.phase (reply_to i (turn_by (Seat i) (seat_call i Take) (lose s i x k) ∷ ts)) ≡ []
    → SeatPays s i x (lose s i x k) Take ts
lose_pays s i x k ts none = record { view = _; seats = refl; pays = rw none refl }

find_pays : (s : State) (i : ℕ) (x : views.Seat) (ts : List Turn) → x.phase ≡ seating.Between → SeatPays s i x (find_packet s i x) Take ts
find_pays s i x ts phase =
    let t = turn_by (Seat i) (seat_call i Take) (find_packet s i x) in
    let none = ahead_between i x.phase (reply_to i (t ∷ ts)) phase in
    record { view = record (loaded s x) { phase = seating.Found }; seats = refl; pays = rw none refl }

unpin_pays : (s : State) (i : ℕ) (x : views.Seat) (ts : List Turn) → TakesOn x.phase → SeatPays s i x (unpin s i x) Take ts
unpin_pays s i x ts on =
    let t = turn_by (Seat i) (seat_call i Take) (unpin s i x) in
    let ends = reply_ends i t ts (own i t refl refl) in
    let one = ahead_taking i x.phase (reply_to i (t ∷ ts)) on ∙ ap (λ (r : Option Answer). answered_call (seat_call i Take) (only_packet r)) ends in
    record { view = record x { phase = seating.Between; account = record x.account { taken = x.account.taken + 1 } }; seats = refl; pays = rw one refl }

second_pays : (s : State) (i : ℕ) (x : views.Seat) (ts : List Turn) → TakesOn x.phase → SeatPays s i x (second_load s i x) Take ts
second_pays s i x ts on =
    let t = turn_by (Seat i) (seat_call i Take) (second_load s i x) in
    let ends = reply_ends i t ts (own i t refl refl) in
    lose_pays s i x (floor s s.head.length - cursor x) ts (ahead_taking i x.phase (reply_to i (t ∷ ts)) on ∙ ap (λ (r : Option Answer). answered_call (seat_call i Take) (only_packet r)) ends)

pub seat_pays : (phase : SeatPhase) (call : SeatCall) (s : State) (i : ℕ) (x : views.Seat) (o : Outcome) (ts : List Turn) → x.phase ≡ phase → SeatActs phase call s i x o
    → SeatPays s i x o call ts
seat_pays seating.Out (Attach n) s i x o ts phase acts =
    let none = ahead_out i x.phase (reply_to i (turn_by (Seat i) (seat_call i (Attach n)) (attach s i x n) ∷ ts)) phase in
    rw acts (record { view = _; seats = refl; pays = rw none refl })
seat_pays seating.Between Detach s i x o ts phase acts =
    let none = ahead_between i x.phase (reply_to i (turn_by (Seat i) (seat_call i Detach) (detach s i x) ∷ ts)) phase in
    rw acts (record { view = _; seats = refl; pays = rw none refl })
seat_pays seating.Between Take s i x o ts phase acts =
    rw acts (by_test (s.head.length == cursor x) (λ e. rw e (end_pays s i x ts phase))
    (λ e. rw e (by_test (nat_lt (cursor x) (floor s s.head.length)) (λ l. rw l (lose_pays s i x (floor s s.head.length - cursor x) ts (ahead_between i x.phase _ phase)))
    (λ l. rw l (find_pays s i x ts phase)))))
seat_pays seating.Found Take s i x o ts phase acts = rw acts (goes_on_pays s i x (pin s i x) ts (rw phase tt) (pin_goes s i x))
seat_pays seating.Holding Take s i x o ts phase acts = rw acts (goes_on_pays s i x (read_length s i x) ts (rw phase tt) (length_goes s i x))
seat_pays seating.Reading Take s i x o ts phase acts =
    rw acts (by_test (nat_lt (length x.read) x.length)
    (λ e. rw e (goes_on_pays s i x (read_byte s i x) ts (rw phase tt) (byte_goes s i x phase)))
    (λ e. rw e (unpin_pays s i x ts (rw phase tt))))
seat_pays seating.Failed Take s i x o ts phase acts = rw acts (goes_on_pays s i x (unpin_failed s i x) ts (rw phase tt) (unpin_failed_goes s i x))
seat_pays seating.Missed Take s i x o ts phase acts = rw acts (second_pays s i x ts (rw phase tt))
seat_pays phase call s i x o ts eq acts = absurd acts

-- what is owed to an actor
abbrev pub owed_to : Actor → At → List Turn → List Event
owed_to P at ts = []
owed_to (Seat i) at ts = ahead i (seat_at at.ring i).phase (reply_to i ts)

abbrev pub TurnPays : Actor → (old : At) → (step : ℕ) → Turn → (later : List Turn) → (new : At) → Type 0
TurnPays actor old n t ts new = Pays (owed_to actor old (t ∷ ts)) (events_of actor (acted_at n t (acting t ts))) (answer_of actor t) (owed_to actor new ts)

-- the events of a turn, of its own actor and of another one
events_here : (actor : Actor) (n : ℕ) (t : Turn) (r : Option Answer) → is_actor actor t.actor ≡ true → events_of actor (acted_at n t r) ≡ answered_call t.call r
events_here actor n t None is = refl
events_here actor n t (Some a) is = rw is refl

events_elsewhere : (actor : Actor) (n : ℕ) (t : Turn) (r : Option Answer) → is_actor actor t.actor ≡ false → events_of actor (acted_at n t r) ≡ []
events_elsewhere actor n t None other = refl
events_elsewhere actor n t (Some a) other = rw other refl

answer_here : (actor : Actor) (t : Turn) → is_actor actor t.actor ≡ true → answer_of actor t ≡ answered_call t.call t.answer
answer_here actor t is = rw is refl

-- the same of equal events
pays_as : {owed owed' acts acts' answered answered' still still' : List Event} → owed ≡ owed' → acts ≡ acts' → answered ≡ answered' → still ≡ still'
    → Pays owed' acts' answered' still' → Pays owed acts answered still
pays_as a b c d h = rw (a, b, c, d) h

-- a turn of another actor
other_pays : (actor : Actor) (old : At) (n : ℕ) (t : Turn) (ts : List Turn) (new : At) → is_actor actor t.actor ≡ false → owed_to actor new ts ≡ owed_to actor old (t ∷ ts)
    → TurnPays actor old n t ts new
other_pays actor old n t ts new other same =
    let none = events_elsewhere actor n t (acting t ts) other in
    rw (none, other, same) (append-nil (owed_to actor old (t ∷ ts)))

-- an answer of the publisher is no packet
publisher_answers : (phase : PublisherPhase) (call : PublisherCall) (s : State) (o : Outcome) → PublisherActs phase call s o → option_and_then but_packet o.answer ≡ o.answer
publisher_answers publishing.Between (Publish p) s o acts = rw acts.1 (by_test (is_known s (word s (next_place s))) (λ e. rw e refl) (λ e. rw e refl))
publisher_answers publishing.Between Close s o acts = rw acts.1 refl
publisher_answers publishing.Begun (Publish p) s o acts = rw acts.1 refl
publisher_answers publishing.Filling (Publish p) s o acts = rw acts.1 (by_test (nat_lt s.publisher.written (length s.publisher.packet)) (λ e. rw e refl) (λ e. rw e refl))
publisher_answers publishing.Finished (Publish p) s o acts = rw acts.1 refl
publisher_answers phase call s o acts = absurd acts

-- each turn, for each actor
publisher_by_publisher : (script : Calls) (old : At) (t : Turn) (new : At) (ts : List Turn) (n : ℕ) → t.actor ≡ P → PublisherMove script old t new → TurnPays P old n t ts new
publisher_by_publisher script old t new ts n by move =
    let acts : acting t ts ≡ t.answer = acts_publisher t ts by ∙ publisher_answers old.ring.publisher.phase move.call old.ring (outcome_of new.ring t) move.step in
    let me : is_actor P t.actor ≡ true = rw by refl in
    let here = events_here P n t (acting t ts) me in
    rw (here, acts, me) (sym (append-nil (answered_call t.call t.answer)))

seat_by_publisher : (script : Calls) (i : ℕ) (old : At) (t : Turn) (new : At) (ts : List Turn) (n : ℕ) → t.actor ≡ P → PublisherMove script old t new → TurnPays (Seat i) old n t ts new
seat_by_publisher script i old t new ts n by move =
    let frame = publisher_frame old.ring.publisher.phase move.call old.ring (outcome_of new.ring t) move.step in
    let skips = reply_skips i t ts (not_publishers i t by) in
    other_pays (Seat i) old n t ts new (rw by refl)
    (ap (λ (xs : List views.Seat). ahead i (get_or xs i new_seat).phase (reply_to i ts)) frame.seats ∙ ap (λ (r : Option Answer). ahead i (seat_at old.ring i).phase r) (sym skips))

seat_by_other : (script : Calls) (i j : ℕ) (old : At) (t : Turn) (new : At) (ts : List Turn) (n : ℕ) → t.actor ≡ Seat j → i ≢ j → i == j ≡ false → SeatMove script j old t new → TurnPays (Seat i) old n t ts new
seat_by_other script i j old t new ts n by ne test move =
    let frame = seat_frame move.step.view.phase move.call old.ring j move.step.view (outcome_of new.ring t) refl move.step.acts in
    let skips = reply_skips i t ts (others i j t by ne) in
    other_pays (Seat i) old n t ts new (rw (by, test) refl)
    (ap (λ (xs : List views.Seat). ahead i (get_or xs i new_seat).phase (reply_to i ts)) frame.seats
    ∙ ap (λ (x : views.Seat). ahead i x.phase (reply_to i ts)) (get_or-set_other old.ring.seats j i frame.view new_seat ne)
    ∙ ap (λ (r : Option Answer). ahead i (seat_at old.ring i).phase r) (sym skips))

seat_by_itself : (script : Calls) (i : ℕ) (old : At) (t : Turn) (new : At) (ts : List Turn) (n : ℕ) → t.actor ≡ Seat i → SeatMove script i old t new → TurnPays (Seat i) old n t ts new
seat_by_itself script i old t new ts n by move =
    let x = move.step.view in
    let o = outcome_of new.ring t in
    let same : turn_by (Seat i) (seat_call i move.call) o ≡ t = same_turn t (Seat i) (seat_call i move.call) new.ring by move.named in
    let steps = seat_pays x.phase move.call old.ring i x o ts refl move.step.acts in
    let pays = subst (λ (v : Turn). Pays (ahead i x.phase (reply_to i (v ∷ ts))) (answered_call v.call (acting v ts)) (answered_call v.call t.answer) (ahead i steps.view.phase (reply_to i ts))) same steps.pays in
    let me : is_actor (Seat i) t.actor ≡ true = is_itself (Seat i) t.actor by in
    let here = events_here (Seat i) n t (acting t ts) me in
    let before : owed_to (Seat i) old (t ∷ ts) ≡ ahead i x.phase (reply_to i (t ∷ ts)) =
    ap (λ (y : views.Seat). ahead i y.phase (reply_to i (t ∷ ts))) (get_or_from_slice_get old.ring.seats i x new_seat move.step.there) in
    let view_now = ap (λ (xs : List views.Seat). slice_get xs i) steps.seats ∙ read_place old.ring.seats i x steps.view move.step.there in
    let after : owed_to (Seat i) new ts ≡ ahead i steps.view.phase (reply_to i ts) =
    ap (λ (y : views.Seat). ahead i y.phase (reply_to i ts)) (get_or_from_slice_get new.ring.seats i steps.view new_seat view_now) in
    pays_as before here (answer_here (Seat i) t me) after pays

turn_pays : (actor mover : Actor) (script : Calls) (old : At) (t : Turn) (new : At) (ts : List Turn) (n : ℕ) → t.actor ≡ mover → MoveBy mover script old t new → TurnPays actor old n t ts new
turn_pays P P script old t new ts n by move = publisher_by_publisher script old t new ts n by move
turn_pays P (Seat j) script old t new ts n by move = other_pays P old n t ts new (rw by refl) refl
turn_pays (Seat i) P script old t new ts n by move = seat_by_publisher script i old t new ts n by move
turn_pays (Seat i) (Seat j) script old t new ts n by move =
    elim (eqb_tells i j) [
      | inl e ↦ seat_by_itself script i old t new ts n (by ∙ ap Seat (sym e.1)) (subst (λ k. SeatMove script k old t new) (sym e.1) move)
      | inr e ↦ seat_by_other script i j old t new ts n by e.1 e.0 move
    ]

events_of-append : (actor : Actor) (xs ys : List Acted) → events_of actor (xs ++ ys) ≡ events_of actor xs ++ events_of actor ys
events_of-append actor [] ys = refl
events_of-append actor (a ∷ xs) ys =
    ap (λ (es : List Event). (if is_actor actor a.actor then a.event ∷ [] else []) ++ es) (events_of-append actor xs ys)
    ∙ sym (append_assoc (if is_actor actor a.actor then a.event ∷ [] else []) (events_of actor xs) (events_of actor ys))

-- in a run all that is owed is paid
run_pays : (actor : Actor) (script : Calls) (old : At) (turns : List Turn) (new : At) (n : ℕ) → Ran script old turns new
    → Pays (owed_to actor old turns) (events_of actor (acted n turns)) (answers_of actor turns) (owed_to actor new [])
run_pays actor script old [] new n ran = append-nil (owed_to actor old []) ∙ ap (λ (a : At). owed_to actor a []) (sym ran)
run_pays actor script old (t ∷ ts) new n ran =
    let owed = owed_to actor old (t ∷ ts) in
    let acts = events_of actor (acted_at n t (acting t ts)) in
    let more = events_of actor (acted (n + 1) ts) in
    let first = turn_pays actor t.actor script old t ran.0 ts n refl ran.1 in
    let rest = run_pays actor script ran.0 ts new (n + 1) ran.2 in
    ap (λ (es : List Event). owed ++ es) (events_of-append actor (acted_at n t (acting t ts)) (acted (n + 1) ts))
    ∙ sym (append_assoc owed acts more) ∙ ap (λ (es : List Event). es ++ more) first ∙ append_assoc (answer_of actor t) (owed_to actor ran.0 ts) more
    ∙ ap (λ (es : List Event). answer_of actor t ++ es) rest ∙ sym (append_assoc (answer_of actor t) (answers_of actor ts) (owed_to actor new []))

none_ahead : (i : ℕ) (phase : SeatPhase) → ahead i phase None ≡ []
none_ahead i seating.Out = refl
none_ahead i seating.Between = refl
none_ahead i phase = refl

owed_end : (actor : Actor) (at : At) → owed_to actor at [] ≡ []
owed_end P at = refl
owed_end (Seat i) at = none_ahead i (seat_at at.ring i).phase

owed_start : (actor : Actor) (keep seats : ℕ) (ts : List Turn) → owed_to actor (start keep seats) ts ≡ []
owed_start P keep seats ts = refl
owed_start (Seat i) keep seats ts = ap (λ (x : views.Seat). ahead i x.phase (reply_to i ts)) (get_new seats i)

pub each_once : (script : Calls) (keep seats : ℕ) (turns : List Turn) (end : At) → Ran script (start keep seats) turns end → ActsOnce script turns end
each_once script keep seats turns end ran actor = (
  ap (λ (es : List Event). es ++ events_of actor (acted 0 turns)) (sym (owed_start actor keep seats turns)) ∙ run_pays actor script (start keep seats) turns end 0 ran
      ∙ ap (λ (es : List Event). answers_of actor turns ++ es) (owed_end actor end) ∙ append-nil (answers_of actor turns),
  answers_are_first script keep seats turns end actor ran,
)
