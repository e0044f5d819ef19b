-- The counts of packets that come in order.
use Rattle.std.proofs.Common.{◌≡◌, ◌+◌, ◌-◌, ◌%◌, ◌<◌, ◌≤◌, ◌∷◌, [], ℕ, List, Some, length, map, sym, subst, refl, arith}
use Rattle.sequence_counts.specs.declared.counts.Numbers.{Numbers}
use Rattle.sequence_counts.specs.Counts.{Counts, nothing_counted, with_highest}
use Rattle.sequence_counts.specs.Counting.{Counted, Packet, distance, modulus, most_ahead, packets}
use Rattle.sequence_counts.specs.Ordered.{RisesFrom, last_of, recording}
use Rattle.sequence_counts.proofs.Stepping.{after, step, ahead_step, is_after}

-- how far one extended number is ahead of another
distance_is : (last next : ℕ) → last < next → next ≤ last + most_ahead → distance (last % modulus) (next % modulus) ≡ next - last
distance_is last next some few = omega arith

-- each number from the last one on is that of a packet, or is missing
pub record AddsUp (last : ℕ) (numbers : List ℕ) (old new : Counts) : Type 0 where
  pub missing : new.missing + length numbers + last ≡ old.missing + last_of last numbers
  pub late : new.late ≡ old.late
  pub restarts : new.restarts ≡ old.restarts

adds_up : (ssrc last : ℕ) (numbers : List ℕ) (old : Counts) → old.highest ≡ Some (record { number = last % modulus; ssrc = ssrc }) → RisesFrom last numbers
    → AddsUp last numbers old (after old (packets ssrc (map (λ number. number % modulus) numbers)))
adds_up ssrc last [] old is rising = record { missing = omega arith; late = refl; restarts = refl }
adds_up ssrc last (next ∷ more) old is rising =
    let highest : Numbers = record { number = last % modulus; ssrc = ssrc } in
    let far = distance_is last next rising.0 rising.1 in
    let mid : Counts = record (with_highest old (next % modulus) ssrc) { missing = old.missing + (next - last - 1) } in
    let known = ahead_step old highest (next % modulus) ssrc is refl (rw far (omega arith)) (rw far (omega arith)) in
    let stepped : step old (Packet (next % modulus) ssrc) ≡ mid = rw far at known in
    let rest = adds_up ssrc next more mid refl rising.2 in
    let some : last < next = rising.0 in
    let sum = rest.missing in
    let all : AddsUp last (next ∷ more) old (after mid (packets ssrc (map (λ number. number % modulus) more))) =
    record { missing = omega arith; late = rest.late; restarts = rest.restarts } in
    subst (λ (counts : Counts). AddsUp last (next ∷ more) old (after counts (packets ssrc (map (λ number. number % modulus) more)))) (sym stepped) all

pub in_order : (ssrc number : ℕ) (more : List ℕ) (counts : Counts) → RisesFrom number more → Counted (recording ssrc (number ∷ more)) counts
    → AddsUp number more nothing_counted counts
in_order ssrc number more counts rising counted =
    let first : Counts = with_highest nothing_counted (number % modulus) ssrc in
    let all = adds_up ssrc number more first refl rising in
    rw (is_after counted) (record { missing = all.missing; late = all.late; restarts = all.restarts })

-- the last number is no less than the first
pub last_is_more : (last : ℕ) (numbers : List ℕ) → RisesFrom last numbers → last ≤ last_of last numbers
last_is_more last [] rising = omega arith
last_is_more last (next ∷ more) rising =
    let some = rising.0 in
    let rest = last_is_more next more rising.2 in
    omega arith
