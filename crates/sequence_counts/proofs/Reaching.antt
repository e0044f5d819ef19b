-- Events that lead to given counts.
use Rattle.std.proofs.Common.{◌≡◌, ◌++◌, ◌∷◌, [], ℕ, zero, suc, List, Option, None, Some, refl, sym, ap, subst, ◌∙◌, arith}
use Rattle.sequence_counts.specs.declared.counts.Numbers.{Numbers}
use Rattle.sequence_counts.specs.Counts.{Counts, nothing_counted}
use Rattle.sequence_counts.specs.Counting.{Counted, Event, Packet, Recorded}
use Rattle.sequence_counts.proofs.Stepping.{after, after-append, counted_all}

-- a recording that adds one to the missing numbers
abbrev one_missing : List Event
one_missing = Recorded ∷ Packet 0 0 ∷ Packet 2 0 ∷ []

-- one that adds a late packet
abbrev one_late : List Event
one_late = Recorded ∷ Packet 1 0 ∷ Packet 0 0 ∷ []

-- and one that adds a restart
abbrev one_restart : List Event
one_restart = Recorded ∷ Packet 0 0 ∷ Packet 0 1 ∷ []

-- some events lead to these three counts
record Reached (missing late restarts : ℕ) : Type 0 where
  events : List Event
  missing_is : (after nothing_counted events).missing ≡ missing
  late_is : (after nothing_counted events).late ≡ late
  restarts_is : (after nothing_counted events).restarts ≡ restarts

-- the counts after some events and then others
both : (events more : List Event) → after nothing_counted (events ++ more) ≡ after (after nothing_counted events) more
both events more = after-append nothing_counted events more

more_missing : (missing late restarts : ℕ) → Reached missing late restarts → Reached (suc missing) late restarts
more_missing missing late restarts before =
    let is = ap (λ (counts : Counts). counts.missing) (both before.events one_missing) in
    let known = before.missing_is in
    record {
      events = before.events ++ one_missing;
      missing_is = omega arith;
      late_is = ap (λ (counts : Counts). counts.late) (both before.events one_missing) ∙ before.late_is;
      restarts_is = ap (λ (counts : Counts). counts.restarts) (both before.events one_missing) ∙ before.restarts_is;
    }

more_late : (missing late restarts : ℕ) → Reached missing late restarts → Reached missing (suc late) restarts
more_late missing late restarts before =
    let is = ap (λ (counts : Counts). counts.late) (both before.events one_late) in
    let known = before.late_is in
    record {
      events = before.events ++ one_late;
      missing_is = ap (λ (counts : Counts). counts.missing) (both before.events one_late) ∙ before.missing_is;
      late_is = omega arith;
      restarts_is = ap (λ (counts : Counts). counts.restarts) (both before.events one_late) ∙ before.restarts_is;
    }

more_restarts : (missing late restarts : ℕ) → Reached missing late restarts → Reached missing late (suc restarts)
more_restarts missing late restarts before =
    let is = ap (λ (counts : Counts). counts.restarts) (both before.events one_restart) in
    let known = before.restarts_is in
    record {
      events = before.events ++ one_restart;
      missing_is = ap (λ (counts : Counts). counts.missing) (both before.events one_restart) ∙ before.missing_is;
      late_is = ap (λ (counts : Counts). counts.late) (both before.events one_restart) ∙ before.late_is;
      restarts_is = omega arith;
    }

restarts_reached : (restarts : ℕ) → Reached 0 0 restarts
restarts_reached zero = record { events = []; missing_is = refl; late_is = refl; restarts_is = refl }
restarts_reached (suc restarts) = more_restarts 0 0 restarts (restarts_reached restarts)

late_reached : (late restarts : ℕ) → Reached 0 late restarts
late_reached zero restarts = restarts_reached restarts
late_reached (suc late) restarts = more_late 0 late restarts (late_reached late restarts)

all_reached : (missing late restarts : ℕ) → Reached missing late restarts
all_reached zero late restarts = late_reached late restarts
all_reached (suc missing) late restarts = more_missing missing late restarts (all_reached missing late restarts)

abbrev made : Option Numbers → (missing late restarts : ℕ) → Counts
made highest missing late restarts = record { highest = highest; missing = missing; late = late; restarts = restarts }

-- counts whose parts are the same
same : (one other : Counts) → one.highest ≡ other.highest → one.missing ≡ other.missing → one.late ≡ other.late → one.restarts ≡ other.restarts → one ≡ other
same one other highest missing late restarts =
    ap (λ (it : Option Numbers). made it one.missing one.late one.restarts) highest
    ∙ ap (λ (it : ℕ). made other.highest it one.late one.restarts) missing
    ∙ ap (λ (it : ℕ). made other.highest other.missing it one.restarts) late
    ∙ ap (λ (it : ℕ). made other.highest other.missing other.late it) restarts

-- a last recording gives the highest packet
pub reached : (counts : Counts) → (events : List Event) × Counted events counts
reached counts = go counts.highest refl
  where
    before : Reached counts.missing counts.late counts.restarts
    before = all_reached counts.missing counts.late counts.restarts

    ended : (more : List Event) → after (after nothing_counted before.events) more ≡ counts → (events : List Event) × Counted events counts
    ended more is = (before.events ++ more, subst (Counted (before.events ++ more)) (both before.events more ∙ is) (counted_all (before.events ++ more)))

    go : (found : Option Numbers) → counts.highest ≡ found → (events : List Event) × Counted events counts
    go None none =
        ended (Recorded ∷ []) (same (after (after nothing_counted before.events) (Recorded ∷ [])) counts (sym none) before.missing_is before.late_is before.restarts_is)
    go (Some highest) is =
        ended (Recorded ∷ Packet highest.number highest.ssrc ∷ [])
        (same (after (after nothing_counted before.events) (Recorded ∷ Packet highest.number highest.ssrc ∷ [])) counts (sym is) before.missing_is before.late_is before.restarts_is)
