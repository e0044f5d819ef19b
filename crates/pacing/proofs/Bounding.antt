-- What is waited in five windows that follow one another.
use Rattle.std.proofs.Common.{◌≡◌, ◌+◌, ◌-◌, ◌*◌, ◌/◌, ◌≤◌, ◌<◌, ℕ, zero, suc, refl, ap, arith}
use Rattle.std.specs.Prelude.{max, slice_index}
use Rattle.std.proofs.lemmas.Bool.Decides.{nat_tests}
use Rattle.pacing.specs.declared.allowance.Allowance.{Allowance}
use Rattle.pacing.specs.Allowances.{IsWithin, counted_in, left_at, spent, waited_in, waited_up_to, window_of}

-- nothing was waited after the last window that is known
nothing_later : (a : Allowance) (window : ℕ) → a.window < window → waited_in a window ≡ 0
nothing_later a window later = grind (arith, nat_tests)

-- one window later there is no more
no_more_next : (a : Allowance) (window : ℕ) → a.window ≤ window → waited_up_to a (window + 1) ≤ waited_up_to a window
no_more_next a window known =
    let later : a.window < window + 1 = omega arith in
    let none = nothing_later a (window + 1) later in
    let first : waited_in a (window + 1 - 1) ≡ waited_in a window = ap (waited_in a) (omega arith) in
    let second : waited_in a (window + 1 - 2) ≡ waited_in a (window - 1) = ap (waited_in a) (omega arith) in
    let third : waited_in a (window + 1 - 3) ≡ waited_in a (window - 2) = ap (waited_in a) (omega arith) in
    let fourth : waited_in a (window + 1 - 4) ≡ waited_in a (window - 3) = ap (waited_in a) (omega arith) in
    omega arith

-- so many windows later there is no more
no_more_later : (a : Allowance) (windows window : ℕ) → a.window ≤ window → waited_up_to a (windows + window) ≤ waited_up_to a window
no_more_later a zero window known = let same : zero + window ≡ window = omega arith in rw same (omega arith)
no_more_later a (suc windows) window known =
    let before = no_more_later a windows window known in
    let known_then : a.window ≤ windows + window = omega arith in
    let next = no_more_next a (windows + window) known_then in
    let same : suc windows + window ≡ windows + window + 1 = omega arith in
    rw same (omega arith)

-- in a later window there is no more
no_more : (a : Allowance) (window later : ℕ) → a.window ≤ window → window ≤ later → waited_up_to a later ≤ waited_up_to a window
no_more a window later known order =
    let same : later - window + window ≡ later = omega arith in
    let less = no_more_later a (later - window) window known in
    rw same at less

-- what is known of a window so many before the last
known_at : (a : Allowance) (window back : ℕ) → window + back ≡ a.window → waited_in a window ≡ slice_index a.waited back
known_at a window back at =
    let same : a.window - window ≡ back = omega arith in
    grind (arith, nat_tests, same)

-- the window of a later moment is no earlier one
windows_rise : (began ended : ℕ) → began ≤ ended → window_of began ≤ window_of ended
windows_rise began ended order = omega arith

-- a wait that lasts no longer than was left keeps all within the bound
pub stays_within : (a : Allowance) (began ended : ℕ) → IsWithin a → began ≤ ended → ended - began ≤ left_at a began
    → IsWithin (record { window = counted_in a ended; waited = spent a (counted_in a ended) (ended - began) })
stays_within a began ended within order most =
    let rise = windows_rise began ended order in
    let then = counted_in a began in
    let now = counted_in a ended in
    let known : a.window ≤ then = grind (arith, nat_tests) in
    let later : then ≤ now = grind (arith, nat_tests, rise) in
    let far : 4 ≤ now = grind (arith, nat_tests) in
    let at_first = no_more a a.window then (omega arith) known in
    let since = no_more a then now known later in
    let b : Allowance = record { window = now; waited = spent a now (ended - began) } in
    let first = known_at b now 0 (omega arith) in
    let second = known_at b (now - 1) 1 (omega arith) in
    let third = known_at b (now - 2) 2 (omega arith) in
    let fourth = known_at b (now - 3) 3 (omega arith) in
    let fifth = known_at b (now - 4) 4 (omega arith) in
    omega arith
