-- A run counts the answered calls of each actor, and they are the first of its script.
use Rattle.std.proofs.Common.{◌≡◌, ℕ, zero, suc, ◌+◌, ◌==◌, true, false, Option, Some, None, List, [], ◌∷◌, ◌++◌, length, map, take, replicate, refl, sym, ◌∙◌, ap, subst, arith, inl, inr, append-nil, append_assoc, get_or, get_or-set_other, slice_get}
use Rattle.std.specs.Prelude.{option_map, slice_index_or}
use Rattle.std.proofs.lemmas.Bool.{eqb-true}
use Rattle.std.proofs.lemmas.Bool.Decides.{eqb_tells}
use Rattle.std.proofs.lemmas.List.{length-append, map-append, take_more}
use Rattle.std.proofs.lemmas.Option.{get_or_from_slice_get, slice_get-map, slice_get_within}
use Rattle.cursor.specs.declared.calls.Answer.{Answer}
use Rattle.cursor.specs.declared.calls.Call.{Call}
use Rattle.cursor.proofs.Counting.{read_place}
use Rattle.cursor.specs.Log.{Event}
use Rattle.ring_steps.specs.declared.calls.Actor.{Actor}
use Rattle.ring_steps.specs.declared.calls.Actor.TheVariants.{P, Seat}
use Rattle.ring_steps.specs.declared.calls.SeatCall.{SeatCall}
use Rattle.ring_steps.specs.Acting.{answer_of, answered_call, answered_of, answers_of, calls_of_actor, is_actor}
use Rattle.ring_steps.specs.Answers.{publisher_call, seat_call}
use Rattle.ring_steps.specs.Atomic.{IsUnanswered}
use Rattle.ring_steps.specs.Runs.{At, Calls, MoveBy, PublisherMove, Ran, SeatMove, Turn, answered, start}
use Rattle.ring_steps.proofs.Places.{by_test}

-- the test of actors
is_own : (i : ℕ) → (i == i) ≡ true
is_own i = elim (eqb_tells i i) [ inl e ↦ e.0 | inr e ↦ absurd (e.1 refl) ]

is_same : (a : Actor) → is_actor a a ≡ true
is_same P = refl
is_same (Seat i) = is_own i

pub is_itself : (a b : Actor) → b ≡ a → is_actor a b ≡ true
is_itself a b e = rw e (is_same a)

pub same_actor : (a b : Actor) → is_actor a b ≡ true → b ≡ a
same_actor P P e = refl
same_actor P (Seat t) e = absurd (cc)
same_actor (Seat s) P e = absurd (cc)
same_actor (Seat s) (Seat t) e = ap Seat (sym (eqb-true s t e))

-- one answer more is counted
counts_answer : (n : ℕ) (call : Call) (a : Option Answer) → answered n a ≡ n + length (answered_call call a)
counts_answer n call None = omega arith
counts_answer n call (Some a) = omega arith

-- what a turn does to the count of an actor's answered calls: it answers the next one, or none
pub record Counts (script : Calls) (actor : Actor) (old : At) (t : Turn) (new : At) : Type 0 where
  pub count : answered_of new actor ≡ answered_of old actor + length (answer_of actor t)
  pub next : is_actor actor t.actor ≡ true → slice_get (calls_of_actor script actor) (answered_of old actor) ≡ Some t.call

other_counts : (script : Calls) (actor : Actor) (old : At) (t : Turn) (new : At) → is_actor actor t.actor ≡ false → answered_of new actor ≡ answered_of old actor → Counts script actor old t new
other_counts script actor old t new other same = record { count = rw other (omega arith); next = λ is. absurd (cc) }

mapped : {X : Type 0} (f : X → Call) (xs : List X) (n : ℕ) (x : X) → slice_get xs n ≡ Some x → slice_get (map f xs) n ≡ Some (f x)
mapped f xs n x at = slice_get-map f xs n ∙ ap (option_map f) at

publisher_counts : (script : Calls) (old : At) (t : Turn) (new : At) → t.actor ≡ P → PublisherMove script old t new → Counts script P old t new
publisher_counts script old t new by move = record {
  count = rw by (move.publisher ∙ counts_answer old.publisher t.call t.answer);
  next = λ is. mapped publisher_call script.publisher old.publisher move.call move.next ∙ ap (λ (c : Call). Some c) (sym move.named);
}

seat_counts : (script : Calls) (i : ℕ) (old : At) (t : Turn) (new : At) → t.actor ≡ Seat i → SeatMove script i old t new → Counts script (Seat i) old t new
seat_counts script i old t new by move =
    let own_calls : slice_index_or script.seats i [] ≡ move.calls = get_or_from_slice_get script.seats i move.calls [] move.script_has in
    let was : answered_of old (Seat i) ≡ move.count = get_or_from_slice_get old.seats i move.count 0 move.counted in
    let there = ap (λ (xs : List ℕ). slice_get xs i) move.seats ∙ read_place old.seats i move.count (answered move.count t.answer) move.counted in
    let is : answered_of new (Seat i) ≡ answered move.count t.answer = get_or_from_slice_get new.seats i (answered move.count t.answer) 0 there in
    let me : is_actor (Seat i) t.actor ≡ true = is_itself (Seat i) t.actor by in
    record {
      count = rw me (is ∙ counts_answer move.count t.call t.answer ∙ ap (λ n. n + length (answered_call t.call t.answer)) (sym was));
      next = λ e. (ap (slice_get (calls_of_actor script (Seat i))) was ∙ ap (λ (cs : List SeatCall). slice_get (map (seat_call i) cs) move.count) own_calls
          ∙ mapped (seat_call i) move.calls move.count move.call move.next ∙ ap (λ (c : Call). Some c) (sym move.named));
    }

turn_counts : (actor mover : Actor) (script : Calls) (old : At) (t : Turn) (new : At) → t.actor ≡ mover → MoveBy mover script old t new → Counts script actor old t new
turn_counts P P script old t new by move = publisher_counts script old t new by move
turn_counts P (Seat j) script old t new by move = other_counts script P old t new (rw by refl) move.publisher
turn_counts (Seat i) P script old t new by move = other_counts script (Seat i) old t new (rw by refl) (ap (λ (xs : List ℕ). get_or xs i 0) move.seats)
turn_counts (Seat i) (Seat j) script old t new by move =
    elim (eqb_tells i j) [
      | inl e ↦ seat_counts script i old t new (by ∙ ap Seat (sym e.1)) (subst (λ k. SeatMove script k old t new) (sym e.1) move)
      | inr e ↦ other_counts script (Seat i) old t new (rw (by, e.0) refl)
          (ap (λ (xs : List ℕ). get_or xs i 0) move.seats ∙ get_or-set_other old.seats j i (answered move.count t.answer) 0 e.1)
    ]

pub move_counts : (actor : Actor) (script : Calls) (old : At) (t : Turn) (new : At) → MoveBy t.actor script old t new → Counts script actor old t new
move_counts actor script old t new move = turn_counts actor t.actor script old t new refl move

-- a run counts the answers of its turns
pub ran_counts_answers : (actor : Actor) (script : Calls) (old : At) (turns : List Turn) (new : At) → Ran script old turns new
    → answered_of new actor ≡ answered_of old actor + length (answers_of actor turns)
ran_counts_answers actor script old [] new ran = let same = ap (λ (a : At). answered_of a actor) ran in omega arith
ran_counts_answers actor script old (t ∷ ts) new ran =
    let first = (move_counts actor script old t ran.0 ran.1).count in
    let rest = ran_counts_answers actor script ran.0 ts new ran.2 in
    let size = length-append (answer_of actor t) (answers_of actor ts) in
    omega arith

get_zero : (n i : ℕ) → get_or (replicate n zero) i zero ≡ zero
get_zero zero i = refl
get_zero (suc n) zero = refl
get_zero (suc n) (suc i) = get_zero n i

pub none_answered : (actor : Actor) (keep seats : ℕ) → answered_of (start keep seats) actor ≡ 0
none_answered P keep seats = refl
none_answered (Seat i) keep seats = get_zero seats i

-- the answered calls go on by the call of an answer
calls_more : (calls : List Call) (n : ℕ) (call : Call) (a : Option Answer) → slice_get calls n ≡ Some call
    → take n calls ++ map (λ (e : Event). e.call) (answered_call call a) ≡ take (n + length (answered_call call a)) calls
calls_more calls n call None at = let same : n + 0 ≡ n = omega arith in rw same (append-nil (take n calls))
calls_more calls n call (Some a) at =
    let one : n + length (answered_call call (Some a)) ≡ n + 1 = omega arith in
    rw one (sym (take_more calls n call (slice_get_within calls n call at) ∙ ap (λ (c : Call). take n calls ++ c ∷ []) (get_or_from_slice_get calls n call call at)))

turn_takes : (actor : Actor) (script : Calls) (old : At) (t : Turn) (new : At) → Counts script actor old t new
    → take (answered_of old actor) (calls_of_actor script actor) ++ map (λ (e : Event). e.call) (answer_of actor t) ≡ take (answered_of new actor) (calls_of_actor script actor)
turn_takes actor script old t new counts =
    let calls = calls_of_actor script actor in
    let n = answered_of old actor in
    let count = counts.count in
    rw count (by_test (is_actor actor t.actor)
    (λ e. rw e (calls_more calls n t.call t.answer (counts.next e)))
    (λ e. rw e (let same : n + 0 ≡ n = omega arith in rw same (append-nil (take n calls)))))

ran_takes : (actor : Actor) (script : Calls) (old : At) (turns : List Turn) (new : At) → Ran script old turns new
    → take (answered_of old actor) (calls_of_actor script actor) ++ map (λ (e : Event). e.call) (answers_of actor turns) ≡ take (answered_of new actor) (calls_of_actor script actor)
ran_takes actor script old [] new ran = append-nil (take (answered_of old actor) (calls_of_actor script actor)) ∙ ap (λ (a : At). take (answered_of a actor) (calls_of_actor script actor)) (sym ran)
ran_takes actor script old (t ∷ ts) new ran =
    let calls = calls_of_actor script actor in
    let front = take (answered_of old actor) calls in
    let call : Event → Call = λ e. e.call in
    let first = turn_takes actor script old t ran.0 (move_counts actor script old t ran.0 ran.1) in
    let rest = ran_takes actor script ran.0 ts new ran.2 in
    ap (λ (cs : List Call). front ++ cs) (map-append call (answer_of actor t) (answers_of actor ts))
    ∙ sym (append_assoc front (map call (answer_of actor t)) (map call (answers_of actor ts))) ∙ ap (λ (cs : List Call). cs ++ map call (answers_of actor ts)) first ∙ rest

-- the answered calls of a run are the first of the script
pub answers_are_first : (script : Calls) (keep seats : ℕ) (turns : List Turn) (end : At) (actor : Actor) → Ran script (start keep seats) turns end
    → map (λ (e : Event). e.call) (answers_of actor turns) ≡ take (answered_of end actor) (calls_of_actor script actor)
answers_are_first script keep seats turns end actor ran =
    ap (λ n. take n (calls_of_actor script actor) ++ map (λ (e : Event). e.call) (answers_of actor turns)) (sym (none_answered actor keep seats)) ∙ ran_takes actor script (start keep seats) turns end ran

pub answers_append : (actor : Actor) (xs ys : List Turn) → answers_of actor (xs ++ ys) ≡ answers_of actor xs ++ answers_of actor ys
answers_append actor [] ys = refl
answers_append actor (t ∷ xs) ys = ap (λ (es : List Event). answer_of actor t ++ es) (answers_append actor xs ys) ∙ sym (append_assoc (answer_of actor t) (answers_of actor xs) (answers_of actor ys))

-- while an actor isn't answered nothing is counted
pub none_of_unanswered : (actor : Actor) (ts : List Turn) → IsUnanswered actor ts → answers_of actor ts ≡ []
none_of_unanswered actor [] none = refl
none_of_unanswered actor (t ∷ ts) none =
    let rest = none_of_unanswered actor ts none.1 in
    rw rest (append-nil (answer_of actor t) ∙ by_test (is_actor actor t.actor) (λ e. let quiet = none.0 e in rw (e, quiet) refl) (λ e. rw e refl))
