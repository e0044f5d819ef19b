-- Two runs of one script from one state by the same actors have the same turns and the same end.
use Rattle.std.proofs.Common.{◌≡◌, ℕ, Option, Some, List, [], ◌∷◌, refl, sym, ◌∙◌, ap, subst, slice_get, slice_set}
use Rattle.std.proofs.lemmas.Option.{same_Some}
use Rattle.cursor.specs.declared.calls.Answer.{Answer}
use Rattle.cursor.specs.declared.calls.Call.{Call}
use Rattle.ring_steps.specs.declared.calls.Observed.{Observed}
use Rattle.ring_steps.specs.declared.calls.Actor.{Actor}
use Rattle.ring_steps.specs.declared.calls.Actor.TheVariants.{P, Seat}
use Rattle.ring_steps.specs.declared.calls.PublisherCall.{PublisherCall}
use Rattle.ring_steps.specs.declared.calls.SeatCall.{SeatCall}
use Rattle.ring_steps.specs.Answers.{publisher_call, seat_call}
use Rattle.ring_steps.specs.Faults.{actors}
use Rattle.ring_steps.specs.Ring.{State}
use Rattle.ring_steps.specs.Runs.{At, Calls, MoveBy, PublisherMove, Ran, SeatMove, Turn, answered, outcome_of}
use Rattle.ring_steps.specs.Step.{Outcome, PublisherStep, SeatStep}
use Rattle.ring_steps.proofs.NoChoice.{publisher_step_one, seat_step_one}

-- two turns that came out alike
pub record Alike (t u : Turn) (new other : At) : Type 0 where
  pub turns : t ≡ u
  pub ends : new ≡ other

alike : (t u : Turn) (new other : At) → t.actor ≡ u.actor → t.call ≡ u.call → outcome_of new.ring t ≡ outcome_of other.ring u → new.publisher ≡ other.publisher → new.seats ≡ other.seats
    → Alike t u new other
alike t u new other actor call out publisher seats =
    let ring = ap (λ (o : Outcome). o.state) out in
    let saw = ap (λ (o : Outcome). o.saw) out in
    let answer = ap (λ (o : Outcome). o.answer) out in
    record {
      turns = ap (λ (a : Actor). let v : Turn = record { actor = a; call = t.call; saw = t.saw; answer = t.answer } in v) actor
          ∙ ap (λ (c : Call). let v : Turn = record { actor = u.actor; call = c; saw = t.saw; answer = t.answer } in v) call
          ∙ ap (λ (s : Observed). let v : Turn = record { actor = u.actor; call = u.call; saw = s; answer = t.answer } in v) saw
          ∙ ap (λ (r : Option Answer). let v : Turn = record { actor = u.actor; call = u.call; saw = u.saw; answer = r } in v) answer;
      ends = ap (λ (s : State). let a : At = record { ring = s; publisher = new.publisher; seats = new.seats } in a) ring
          ∙ ap (λ (n : ℕ). let a : At = record { ring = other.ring; publisher = n; seats = new.seats } in a) publisher
          ∙ ap (λ (ns : List ℕ). let a : At = record { ring = other.ring; publisher = other.publisher; seats = ns } in a) seats;
    }

publisher_alike : (script : Calls) (old : At) (t u : Turn) (new other : At) → t.actor ≡ u.actor → PublisherMove script old t new → PublisherMove script old u other → Alike t u new other
publisher_alike script old t u new other by a b =
    let call : b.call ≡ a.call = same_Some b.call a.call (sym b.next ∙ a.next) in
    let step = subst (λ (c : PublisherCall). PublisherStep old.ring c (outcome_of other.ring u)) call b.step in
    let out = publisher_step_one old.ring a.call (outcome_of new.ring t) (outcome_of other.ring u) a.step step in
    let answer = ap (λ (o : Outcome). o.answer) out in
    alike t u new other by (a.named ∙ ap publisher_call (sym call) ∙ sym b.named) out (a.publisher ∙ ap (answered old.publisher) answer ∙ sym b.publisher) (a.seats ∙ sym b.seats)

seat_alike : (script : Calls) (i : ℕ) (old : At) (t u : Turn) (new other : At) → t.actor ≡ u.actor → SeatMove script i old t new → SeatMove script i old u other → Alike t u new other
seat_alike script i old t u new other by a b =
    let own : b.calls ≡ a.calls = same_Some b.calls a.calls (sym b.script_has ∙ a.script_has) in
    let count : b.count ≡ a.count = same_Some b.count a.count (sym b.counted ∙ a.counted) in
    let there : slice_get a.calls a.count ≡ Some b.call = ap (λ (xs : List SeatCall). slice_get xs a.count) (sym own) ∙ ap (slice_get b.calls) (sym count) ∙ b.next in
    let call : b.call ≡ a.call = same_Some b.call a.call (sym there ∙ a.next) in
    let step = subst (λ (c : SeatCall). SeatStep old.ring i c (outcome_of other.ring u)) call b.step in
    let out = seat_step_one old.ring i a.call (outcome_of new.ring t) (outcome_of other.ring u) a.step step in
    let answer = ap (λ (o : Outcome). o.answer) out in
    alike t u new other by (a.named ∙ ap (seat_call i) (sym call) ∙ sym b.named) out (a.publisher ∙ sym b.publisher)
    (a.seats ∙ ap (λ n. slice_set old.seats i (answered n t.answer)) (sym count) ∙ ap (λ (r : Option Answer). slice_set old.seats i (answered b.count r)) answer ∙ sym b.seats)

move_alike : (actor : Actor) (script : Calls) (old : At) (t u : Turn) (new other : At) → t.actor ≡ u.actor → MoveBy actor script old t new → MoveBy actor script old u other → Alike t u new other
move_alike P script old t u new other by a b = publisher_alike script old t u new other by a b
move_alike (Seat i) script old t u new other by a b = seat_alike script i old t u new other by a b

-- what two runs of the same actors come to
pub record SameRun (turns others : List Turn) (end other : At) : Type 0 where
  pub turns_same : turns ≡ others
  pub ends_same : end ≡ other

pub runs_alike : (script : Calls) (old : At) (turns others : List Turn) (end other : At) → Ran script old turns end → Ran script old others other → actors turns ≡ actors others
    → SameRun turns others end other
runs_alike script old [] [] end other a b by = record { turns_same = refl; ends_same = a ∙ sym b }
runs_alike script old [] (u ∷ us) end other a b by = absurd (cc)
runs_alike script old (t ∷ ts) [] end other a b by = absurd (cc)
runs_alike script old (t ∷ ts) (u ∷ us) end other a b by =
    let first : t.actor ≡ u.actor = cc in
    let more : actors ts ≡ actors us = cc in
    let move = subst (λ (actor : Actor). MoveBy actor script old u b.0) (sym first) b.1 in
    let one = move_alike t.actor script old t u a.0 b.0 first a.1 move in
    let run = subst (λ (mid : At). Ran script mid us other) (sym one.ends) b.2 in
    let rest = runs_alike script a.0 ts us end other a.2 run more in
    record { turns_same = ap (λ (v : Turn). v ∷ ts) one.turns ∙ ap (λ (vs : List Turn). u ∷ vs) rest.turns_same; ends_same = rest.ends_same }
