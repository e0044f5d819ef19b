-- The rule as a function of the events.
use Rattle.std.proofs.Common.{◌≡◌, ◌≢◌, ◌+◌, ◌-◌, ◌<◌, ◌≤◌, ◌==◌, ◌++◌, ◌∷◌, [], inl, inr, ℕ, List, Option, None, Some, Bool, true, false, nat_le, cond, refl, sym, ap, ◌∙◌, arith}
use Rattle.std.proofs.lemmas.Bool.{cases_lt, cases_eq, eq-eqb, ne_eqb, le-leb, lt-leb}
use Rattle.std.proofs.lemmas.List.{append-nil, append_assoc}
use Rattle.sequence_counts.specs.declared.counts.Numbers.{Numbers}
use Rattle.sequence_counts.specs.Counts.{Counts, nothing_counted, with_highest}
use Rattle.sequence_counts.specs.Counting.{Counted, Event, Gives, Packet, Recorded, distance, modulus, most_ahead, most_behind}
use Rattle.sequence_counts.specs.Counting.Counted.{nothing, recorded, first, from_another, repeated, ahead, behind, far}

-- the counts after a restart
abbrev restarted : Counts → (number ssrc : ℕ) → Counts
restarted old number ssrc = record (with_highest old number ssrc) { restarts = old.restarts + 1 }

-- the counts after a packet that is this far ahead of the highest, whose source it has
abbrev by_distance : (by : ℕ) → Counts → (number ssrc : ℕ) → Counts
by_distance by old number ssrc =
    cond (by == 0) old
    (cond (nat_le by most_ahead) (record (with_highest old number ssrc) { missing = old.missing + (by - 1) })
    (cond (nat_le (modulus - most_behind) by) (record old { late = old.late + 1 })
    (restarted old number ssrc)))

-- the counts after a packet, with this highest one
abbrev step_from : Option Numbers → Counts → (number ssrc : ℕ) → Counts
step_from None old number ssrc = with_highest old number ssrc
step_from (Some highest) old number ssrc =
    cond (highest.ssrc == ssrc) (by_distance (distance highest.number number) old number ssrc) (restarted old number ssrc)

abbrev pub step : Counts → Event → Counts
step old Recorded = record old { highest = None }
step old (Packet number ssrc) = step_from old.highest old number ssrc

-- the counts after some events more
abbrev pub after : Counts → List Event → Counts
after old [] = old
after old (event ∷ events) = after (step old event) events

pub after-append : (old : Counts) (events more : List Event) → after old (events ++ more) ≡ after (after old events) more
after-append old [] more = refl
after-append old (event ∷ events) more = after-append (step old event) events more

-- one more event
one_more : (events : List Event) (event : Event) (old new : Counts) → old ≡ after nothing_counted events → new ≡ step old event → new ≡ after nothing_counted (events ++ event ∷ [])
one_more events event old new known next = next ∙ ap (λ (counts : Counts). step counts event) known ∙ sym (after-append nothing_counted events (event ∷ []))

-- a packet after a highest one
from_highest : (old : Counts) (highest : Numbers) (number ssrc : ℕ) → old.highest ≡ Some highest → step old (Packet number ssrc) ≡ step_from (Some highest) old number ssrc
from_highest old highest number ssrc is = ap (λ (found : Option Numbers). step_from found old number ssrc) is

-- a packet of the source of the highest one
from_same : (old : Counts) (highest : Numbers) (number ssrc : ℕ) → old.highest ≡ Some highest → highest.ssrc ≡ ssrc
    → step old (Packet number ssrc) ≡ by_distance (distance highest.number number) old number ssrc
from_same old highest number ssrc is same =
    from_highest old highest number ssrc is
    ∙ ap (λ (test : Bool). cond test (by_distance (distance highest.number number) old number ssrc) (restarted old number ssrc)) (eq-eqb highest.ssrc ssrc same)

-- a packet of another source
from_other : (old : Counts) (highest : Numbers) (number ssrc : ℕ) → old.highest ≡ Some highest → highest.ssrc ≢ ssrc → step old (Packet number ssrc) ≡ restarted old number ssrc
from_other old highest number ssrc is other =
    from_highest old highest number ssrc is
    ∙ ap (λ (test : Bool). cond test (by_distance (distance highest.number number) old number ssrc) (restarted old number ssrc)) (ne_eqb highest.ssrc ssrc other)

-- the four cases of a distance
at_none : (by : ℕ) (old : Counts) (number ssrc : ℕ) → by ≡ 0 → by_distance by old number ssrc ≡ old
at_none by old number ssrc none = rw (eq-eqb by 0 none) refl

at_some : (by : ℕ) (old : Counts) (number ssrc : ℕ) → 1 ≤ by → by ≤ most_ahead → by_distance by old number ssrc ≡ record (with_highest old number ssrc) { missing = old.missing + (by - 1) }
at_some by old number ssrc some few = rw (ne_eqb by 0 (λ none. omega arith), le-leb by most_ahead few) refl

at_far : (by : ℕ) (old : Counts) (number ssrc : ℕ) → most_ahead < by → by < modulus - most_behind → by_distance by old number ssrc ≡ restarted old number ssrc
at_far by old number ssrc past short = rw (ne_eqb by 0 (λ none. omega arith), lt-leb by most_ahead past, lt-leb (modulus - most_behind) by short) refl

at_near : (by : ℕ) (old : Counts) (number ssrc : ℕ) → modulus - most_behind ≤ by → by_distance by old number ssrc ≡ record old { late = old.late + 1 }
at_near by old number ssrc near =
    let past : most_ahead < by = omega arith in
    rw (ne_eqb by 0 (λ none. omega arith), lt-leb by most_ahead past, le-leb (modulus - most_behind) by near) refl

-- a packet that is a little ahead of the highest one
pub ahead_step : (old : Counts) (highest : Numbers) (number ssrc : ℕ) → old.highest ≡ Some highest → highest.ssrc ≡ ssrc
    → 1 ≤ distance highest.number number → distance highest.number number ≤ most_ahead
    → step old (Packet number ssrc) ≡ record (with_highest old number ssrc) { missing = old.missing + (distance highest.number number - 1) }
ahead_step old highest number ssrc is same some few = from_same old highest number ssrc is same ∙ at_some (distance highest.number number) old number ssrc some few

-- counts by the rule are those of the function
pub is_after : {events : List Event} {counts : Counts} → Counted events counts → counts ≡ after nothing_counted events
is_after nothing = refl
is_after (recorded {events = events} {old = old} before) = one_more events Recorded old _ (is_after before) refl
is_after (first {events = events} {old = old} number ssrc before none) =
    one_more events (Packet number ssrc) old _ (is_after before) (sym (ap (λ (found : Option Numbers). step_from found old number ssrc) none))
is_after (from_another {events = events} {old = old} {highest = highest} number ssrc before is other) =
    one_more events (Packet number ssrc) old _ (is_after before) (sym (from_other old highest number ssrc is other))
is_after (repeated {events = events} {old = old} {highest = highest} number ssrc before is same none) =
    one_more events (Packet number ssrc) old _ (is_after before) (sym (from_same old highest number ssrc is same ∙ at_none (distance highest.number number) old number ssrc none))
is_after (ahead {events = events} {old = old} {highest = highest} number ssrc before is same some few) =
    one_more events (Packet number ssrc) old _ (is_after before) (sym (ahead_step old highest number ssrc is same some few))
is_after (behind {events = events} {old = old} {highest = highest} number ssrc before is same near) =
    one_more events (Packet number ssrc) old _ (is_after before) (sym (from_same old highest number ssrc is same ∙ at_near (distance highest.number number) old number ssrc near))
is_after (far {events = events} {old = old} {highest = highest} number ssrc before is same past short) =
    one_more events (Packet number ssrc) old _ (is_after before) (sym (from_same old highest number ssrc is same ∙ at_far (distance highest.number number) old number ssrc past short))

-- counts by the rule after a packet of the source of the highest one
by_rule : (events : List Event) (old : Counts) (highest : Numbers) (number ssrc : ℕ) → Counted events old → old.highest ≡ Some highest → highest.ssrc ≡ ssrc
    → Counted (events ++ Packet number ssrc ∷ []) (by_distance (distance highest.number number) old number ssrc)
by_rule events old highest number ssrc counted is same =
    let by = distance highest.number number in
    elim (cases_lt by 1) [
      | inl none ↦ let at : by ≡ 0 = omega arith in rw (at_none by old number ssrc at) (repeated number ssrc counted is same at)
      | inr some ↦
          elim (cases_lt most_ahead by) [
            | inr few ↦ rw (at_some by old number ssrc some few) (ahead number ssrc counted is same some few)
            | inl past ↦
                elim (cases_lt by (modulus - most_behind)) [
                  | inl short ↦ rw (at_far by old number ssrc past short) (far number ssrc counted is same past short)
                  | inr near ↦ rw (at_near by old number ssrc near) (behind number ssrc counted is same near)
                ]
          ]
    ]

-- the rule has counts after one more event
counted_more : (events : List Event) (event : Event) (old : Counts) → Counted events old → Counted (events ++ event ∷ []) (step old event)
counted_more events Recorded old counted = recorded counted
counted_more events (Packet number ssrc) old counted = go old.highest refl
  where
    go : (found : Option Numbers) → old.highest ≡ found → Counted (events ++ Packet number ssrc ∷ []) (step old (Packet number ssrc))
    go None none = rw none (first number ssrc counted none)
    go (Some highest) is =
        elim (cases_eq highest.ssrc ssrc) [
          | inl same ↦ rw (from_same old highest number ssrc is same) (by_rule events old highest number ssrc counted is same)
          | inr other ↦ rw (from_other old highest number ssrc is other) (from_another number ssrc counted is other)
        ]

-- and after all of them
counted_on : (events : List Event) (old : Counts) → Counted events old → (more : List Event) → Counted (events ++ more) (after old more)
counted_on events old counted [] = rw append-nil counted
counted_on events old counted (event ∷ more) =
    rw append_assoc at (counted_on (events ++ event ∷ []) (step old event) (counted_more events event old counted) more)

pub counted_all : (events : List Event) → Counted events (after nothing_counted events)
counted_all events = counted_on [] nothing_counted nothing events

-- the three counts of the function are those of the rule
pub gives : (events : List Event) → Gives events (after nothing_counted events).missing (after nothing_counted events).late (after nothing_counted events).restarts
gives events = (after nothing_counted events, counted_all events, refl, refl, refl)

-- no count falls
pub record Rises (old new : Counts) : Type 0 where
  pub missing : old.missing ≤ new.missing
  pub late : old.late ≤ new.late
  pub restarts : old.restarts ≤ new.restarts

-- of two counts that rise, one is taken by a test
cond_rises : (test : Bool) (old one other : Counts) → Rises old one → Rises old other → Rises old (cond test one other)
cond_rises true old one other rises more = rises
cond_rises false old one other rises more = more

restarted_rises : (old : Counts) (number ssrc : ℕ) → Rises old (restarted old number ssrc)
restarted_rises old number ssrc = record { missing = omega arith; late = omega arith; restarts = omega arith }

-- by one event
step_rises : (old : Counts) (event : Event) → Rises old (step old event)
step_rises old Recorded = record { missing = omega arith; late = omega arith; restarts = omega arith }
step_rises old (Packet number ssrc) = go old.highest
  where
    go : (found : Option Numbers) → Rises old (step_from found old number ssrc)
    go None = record { missing = omega arith; late = omega arith; restarts = omega arith }
    go (Some highest) =
        let by = distance highest.number number in
        let past = restarted_rises old number ssrc in
        let stays : Rises old old = record { missing = omega arith; late = omega arith; restarts = omega arith } in
        let near : Rises old (record old { late = old.late + 1 }) = record { missing = omega arith; late = omega arith; restarts = omega arith } in
        let few : Rises old (record (with_highest old number ssrc) { missing = old.missing + (by - 1) }) = record { missing = omega arith; late = omega arith; restarts = omega arith } in
        cond_rises (highest.ssrc == ssrc) old _ _
        (cond_rises (by == 0) old _ _ stays
        (cond_rises (nat_le by most_ahead) old _ _ few
        (cond_rises (nat_le (modulus - most_behind) by) old _ _ near past)))
        past

-- by some events
after_rises : (old : Counts) (events : List Event) → Rises old (after old events)
after_rises old [] = record { missing = omega arith; late = omega arith; restarts = omega arith }
after_rises old (event ∷ events) =
    let once = step_rises old event in
    let more = after_rises (step old event) events in
    let missing = once.missing in
    let late = once.late in
    let restarts = once.restarts in
    record { missing = omega arith; late = omega arith; restarts = omega arith }

-- by the rule
pub rises : (events more : List Event) (old new : Counts) → Counted events old → Counted (events ++ more) new → Rises old new
rises events more old new before now =
    let old_is = is_after before in
    let new_is = is_after now ∙ after-append nothing_counted events more in
    rw (old_is, new_is) (after_rises (after nothing_counted events) more)
