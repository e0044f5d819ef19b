-- The capped counts after one more event.
use Rattle.std.proofs.Common.{◌≡◌, ◌≢◌, ◌+◌, ◌-◌, ◌<◌, ◌≤◌, ◌++◌, ◌∷◌, [], ℕ, List, Option, None, Some, refl, sym, ap, ◌∙◌, arith}
use Rattle.sequence_counts.specs.declared.counts.Numbers.{Numbers}
use Rattle.sequence_counts.specs.Counts.{Counts, capped, capped_counts, with_highest}
use Rattle.sequence_counts.specs.Counting.{AreCountsOf, Event, Packet, Recorded, distance, modulus, most_ahead, most_behind}
use Rattle.sequence_counts.specs.Counting.Counted.{recorded, first, from_another, repeated, ahead, behind, far}

-- a count that is capped at each step is capped in all
capped_more : (count more : ℕ) → capped (capped count + more) ≡ capped (count + more)
capped_more count more = omega arith

-- the highest packet is that of the exact counts
highest_is : {highest : Option Numbers} (old exact : Counts) → old ≡ capped_counts exact → old.highest ≡ highest → exact.highest ≡ highest
highest_is old exact capped_is is = sym (ap (λ (counts : Counts). counts.highest) capped_is) ∙ is

pub after_record : (events : List Event) (old : Counts) → AreCountsOf events old → AreCountsOf (events ++ Recorded ∷ []) (record old { highest = None })
after_record events old are = record {
  exact = record are.exact { highest = None };
  counted = recorded are.counted;
  capped_is = rw are.capped_is refl;
}

pub after_first : (events : List Event) (old : Counts) (number ssrc : ℕ) → AreCountsOf events old → old.highest ≡ None
    → AreCountsOf (events ++ Packet number ssrc ∷ []) (with_highest old number ssrc)
after_first events old number ssrc are none = record {
  exact = with_highest are.exact number ssrc;
  counted = first number ssrc are.counted (highest_is old are.exact are.capped_is none);
  capped_is = rw are.capped_is refl;
}

-- a restart of the exact counts is one of the capped counts
restart_is : (old exact : Counts) (number ssrc : ℕ) → old ≡ capped_counts exact
    → record (with_highest old number ssrc) { restarts = capped (old.restarts + 1) } ≡ capped_counts (record (with_highest exact number ssrc) { restarts = exact.restarts + 1 })
restart_is old exact number ssrc capped_is =
    rw capped_is (ap (λ (restarts : ℕ). let counts : Counts = record (with_highest (capped_counts exact) number ssrc) { restarts = restarts } in counts) (capped_more exact.restarts 1))

module _ (events : List Event) (old : Counts) (highest : Numbers) (number ssrc : ℕ) (are : AreCountsOf events old) (is : old.highest ≡ Some highest) where
  pub after_another : highest.ssrc ≢ ssrc
      → AreCountsOf (events ++ Packet number ssrc ∷ []) (record (with_highest old number ssrc) { restarts = capped (old.restarts + 1) })
  after_another other = record {
    exact = record (with_highest are.exact number ssrc) { restarts = are.exact.restarts + 1 };
    counted = from_another number ssrc are.counted (highest_is old are.exact are.capped_is is) other;
    capped_is = restart_is old are.exact number ssrc are.capped_is;
  }

  pub after_repeat : highest.ssrc ≡ ssrc → distance highest.number number ≡ 0 → AreCountsOf (events ++ Packet number ssrc ∷ []) old
  after_repeat same none = record {
    exact = are.exact;
    counted = repeated number ssrc are.counted (highest_is old are.exact are.capped_is is) same none;
    capped_is = are.capped_is;
  }

  pub after_ahead : highest.ssrc ≡ ssrc → 1 ≤ distance highest.number number → distance highest.number number ≤ most_ahead
      → (passed : ℕ) → passed ≡ distance highest.number number - 1
      → AreCountsOf (events ++ Packet number ssrc ∷ []) (record (with_highest old number ssrc) { missing = capped (old.missing + passed) })
  after_ahead same some few passed passed_is = record {
    exact = record (with_highest are.exact number ssrc) { missing = are.exact.missing + (distance highest.number number - 1) };
    counted = ahead number ssrc are.counted (highest_is old are.exact are.capped_is is) same some few;
    capped_is = rw (passed_is, are.capped_is)
        (ap (λ (missing : ℕ). let counts : Counts = record (with_highest (capped_counts are.exact) number ssrc) { missing = missing } in counts) (capped_more are.exact.missing (distance highest.number number - 1)));
  }

  pub after_behind : highest.ssrc ≡ ssrc → modulus - most_behind ≤ distance highest.number number
      → AreCountsOf (events ++ Packet number ssrc ∷ []) (record old { late = capped (old.late + 1) })
  after_behind same near = record {
    exact = record are.exact { late = are.exact.late + 1 };
    counted = behind number ssrc are.counted (highest_is old are.exact are.capped_is is) same near;
    capped_is = rw are.capped_is (ap (λ (late : ℕ). let counts : Counts = record (capped_counts are.exact) { late = late } in counts) (capped_more are.exact.late 1));
  }

  pub after_far : highest.ssrc ≡ ssrc → most_ahead < distance highest.number number → distance highest.number number < modulus - most_behind
      → AreCountsOf (events ++ Packet number ssrc ∷ []) (record (with_highest old number ssrc) { restarts = capped (old.restarts + 1) })
  after_far same past short = record {
    exact = record (with_highest are.exact number ssrc) { restarts = are.exact.restarts + 1 };
    counted = far number ssrc are.counted (highest_is old are.exact are.capped_is is) same past short;
    capped_is = restart_is old are.exact number ssrc are.capped_is;
  }
