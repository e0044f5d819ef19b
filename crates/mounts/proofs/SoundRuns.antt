-- Whole runs of changes.
use Rattle.std.proofs.Common.{◌≡◌, ◌≢◌, ℕ, zero, suc, ◌<◌, ◌≤◌, ◌==◌, Bool, true, false, cond, Option, None, Some, List, [], ◌∷◌, ◌++◌, refl, sym, ap, subst, ◌∙◌, arith, slice_get, slice_set}
use Rattle.std.specs.List.{AllByRecursion}
use Rattle.std.specs.Option.{option_map}
use Rattle.std.proofs.lemmas.Bool.{eq-eqb, eqb-false, eqb-true}
use Rattle.mounts.specs.declared.mount.Mount.{Mount}
use Rattle.mounts.specs.Mounts.{Table, IsMountOf, IsSeat, IsSound, ended, no_mounts, numbered, with_seat, with_seat_of}
use Rattle.mounts.specs.Runs.{Change, Announce, Changes, End, GiveBack, LeadsTo, Take}
use Rattle.mounts.proofs.Firsts.{found_all, found_passes}
use Rattle.mounts.proofs.Lookups.{changed, numbered-announced, numbered-ended_other, numbered-ended_same, numbered-with_seat}
use Rattle.mounts.proofs.Places.{read_other, read_written}
use Rattle.mounts.proofs.Sound.{sound_announced, sound_ended, sound_seat}

-- each change keeps a table sound
pub sound_change : (old : Table) (change : Change) (new : Table) → IsSound old → Changes old change new → IsSound new
sound_change old (Announce owner name description) new h c = subst IsSound (sym c.5) (sound_announced old owner name description h c.0 c.1 c.2 c.3 c.4)
sound_change old (End number) new h c = subst IsSound (sym c) (sound_ended number old h)
sound_change old (Take number seat) new h c = subst IsSound (sym c.1) (sound_seat number seat true old h)
sound_change old (GiveBack number seat) new h c = subst IsSound (sym c.1) (sound_seat number seat false old h)

pub sound_run : (old : Table) (changes : List Change) (new : Table) → IsSound old → LeadsTo old changes new → IsSound new
sound_run old [] new h run = subst IsSound (sym run) h
sound_run old (change ∷ changes) new h run = sound_run run.0 changes new (sound_change old change run.0 h run.1) run.2

pub no_mounts_sound : (seats : ℕ) → IsSound (no_mounts seats)
no_mounts_sound seats = record { numbers = tt; names = tt; owners = tt; each = tt; few = omega arith; next_from = omega arith; next_to = omega arith }

-- a run of two parts
pub run_parts : (before after : List Change) (old new : Table) → LeadsTo old (before ++ after) new → (mid : Table) × LeadsTo old before mid × LeadsTo mid after new
run_parts [] after old new run = (old, refl, run)
run_parts (change ∷ before) after old new run =
    let rest = run_parts before after run.0 new run.2 in (rest.0, (run.0, run.1, rest.1), rest.2)

-- the next number never falls
next_after : (old : Table) (change : Change) (new : Table) → Changes old change new → old.next ≤ new.next
next_after old (Announce owner name description) new c = let e = ap (λ t. t.next) c.5 in omega (arith, e)
next_after old (End number) new c = let e = ap (λ t. t.next) c in omega (arith, e)
next_after old (Take number seat) new c = let e = ap (λ t. t.next) c.1 in omega (arith, e)
next_after old (GiveBack number seat) new c = let e = ap (λ t. t.next) c.1 in omega (arith, e)

pub next_rises : (old : Table) (changes : List Change) (new : Table) → LeadsTo old changes new → old.next ≤ new.next
next_rises old [] new run = let e = ap (λ t. t.next) run in omega (arith, e)
next_rises old (change ∷ changes) new run =
    let first = next_after old change run.0 run.1 in
    let rest = next_rises run.0 changes new run.2 in
    omega (arith, first, rest)

-- a number that was given to a mount and has none stays without one
ended_after : (number : ℕ) (old : Table) (change : Change) (new : Table) → Changes old change new → number < old.next → numbered number old.mounts ≡ None → numbered number new.mounts ≡ None
ended_after number old (Announce owner name description) new c given none =
    ap (λ t. numbered number t.mounts) c.5 ∙ numbered-announced old owner name description number (λ e. omega (arith, given, e)) ∙ none
ended_after number old (End gone) new c given none = ap (λ t. numbered number t.mounts) c ∙ by (number == gone) refl
  where
    by : (v : Bool) → (number == gone) ≡ v → numbered number (ended gone old).mounts ≡ None
    by true e = ap (λ n. numbered n (ended gone old).mounts) (eqb-true number gone e) ∙ numbered-ended_same old.mounts gone
    by false e = numbered-ended_other old.mounts number gone (eqb-false number gone e) ∙ none
ended_after number old (Take of seat) new c given none =
    ap (λ t. numbered number t.mounts) c.1 ∙ numbered-with_seat old.mounts number of seat true ∙ ap (option_map (changed of seat true)) none
ended_after number old (GiveBack of seat) new c given none =
    ap (λ t. numbered number t.mounts) c.1 ∙ numbered-with_seat old.mounts number of seat false ∙ ap (option_map (changed of seat false)) none

pub stays_ended : (number : ℕ) (old : Table) (changes : List Change) (new : Table) → LeadsTo old changes new → number < old.next → numbered number old.mounts ≡ None → numbered number new.mounts ≡ None
stays_ended number old [] new run given none = ap (λ t. numbered number t.mounts) run ∙ none
stays_ended number old (change ∷ changes) new run given none =
    let rises = next_after old change run.0 run.1 in
    stays_ended number run.0 changes new run.2 (omega (arith, given, rises)) (ended_after number old change run.0 run.1 given none)

-- A seat of a number that was given to a mount: it isn't free.
pub record IsGone (number seat : ℕ) (table : Table) : Type 0 where
  pub given : number < table.next
  pub not_free : IsSeat table number seat false → ⊥

mapped : (f : Mount → Mount) (found : Option Mount) (mount : Mount) → option_map f found ≡ Some mount → (before : Mount) × (found ≡ Some before) × (f before ≡ mount)
mapped f None mount e = absurd (cc)
mapped f (Some before) mount e = (before, refl, cc)

written_place : {X : Type 0} (xs : List X) (i : ℕ) (v w : X) → slice_get (slice_set xs i v) i ≡ Some w → w ≡ v
written_place [] i v w e = absurd (cc)
written_place (x ∷ xs) zero v w e = cc
written_place (x ∷ xs) (suc i) v w e = written_place xs i v w e

-- a seat that is free after a seat changed was free before, but for the one that was given back
freed : (mount : Mount) (number of seat other : ℕ) (out : Bool) → mount.number ≡ number → (of ≡ number → seat ≡ other → out ≡ true)
    → slice_get (changed of other out mount).seats seat ≡ Some false → slice_get mount.seats seat ≡ Some false
freed mount number of seat other out is back free = by (mount.number == of) refl free
  where
    place : (v : Bool) → (seat == other) ≡ v → mount.number ≡ of → slice_get (slice_set mount.seats other out) seat ≡ Some false → slice_get mount.seats seat ≡ Some false
    place true e at free =
        let same = eqb-true seat other e in
        let taken = back (sym at ∙ is) same in
        let shown = written_place mount.seats other out false (subst (λ k. slice_get (slice_set mount.seats other out) k ≡ Some false) same free) in
        absurd (cc)
    place false e at free = sym (read_other mount.seats other seat out (eqb-false seat other e)) ∙ free

    by : (v : Bool) → (mount.number == of) ≡ v → slice_get (cond v (with_seat other out mount) mount).seats seat ≡ Some false → slice_get mount.seats seat ≡ Some false
    by true e free = place (seat == other) refl (eqb-true mount.number of e) free
    by false e free = free

-- what the change of a seat leaves free
free_before : (old : Table) (number of seat other : ℕ) (out : Bool) → (of ≡ number → seat ≡ other → out ≡ true) → IsSeat (with_seat_of of other out old) number seat false → IsSeat old number seat false
free_before old number of seat other out back h =
    let before = mapped (changed of other out) (numbered number old.mounts) h.mount (sym (numbered-with_seat old.mounts number of other out) ∙ h.live) in
    record {
      mount = before.0;
      live = before.1;
      is = freed before.0 number of seat other out (eqb-true before.0.number number (found_passes (λ m. m.number == number) old.mounts before.0 before.1)) back
          (ap (λ m. slice_get m.seats seat) before.2 ∙ h.is);
    }

-- a seat that is out stays so until it is given back, also when its mount has ended
gone_change : (number seat : ℕ) (old : Table) (change : Change) (new : Table) → IsGone number seat old → Changes old change new → change ≢ GiveBack number seat → IsGone number seat new
gone_change number seat old (Announce owner name description) new h c ne = subst (IsGone number seat) (sym c.5) (record {
  given = let given = h.given in omega (arith, given);
  not_free = λ free. let given = h.given in
      h.not_free (record { mount = free.mount; live = sym (numbered-announced old owner name description number (λ e. omega (arith, given, e))) ∙ free.live; is = free.is });
})
gone_change number seat old (End gone) new h c ne = subst (IsGone number seat) (sym c) (record { given = h.given; not_free = by (number == gone) refl })
  where
    by : (v : Bool) → (number == gone) ≡ v → IsSeat (ended gone old) number seat false → ⊥
    by true e free =
        let live = free.live in
        let none = numbered-ended_same old.mounts gone in
        let same = eqb-true number gone e in
        let gone_too : numbered number (ended gone old).mounts ≡ None = ap (λ n. numbered n (ended gone old).mounts) same ∙ none in
        absurd (cc)
    by false e free = h.not_free (record { mount = free.mount; live = sym (numbered-ended_other old.mounts number gone (eqb-false number gone e)) ∙ free.live; is = free.is })
gone_change number seat old (Take of other) new h c ne = subst (IsGone number seat) (sym c.1) (record {
  given = h.given;
  not_free = λ free. h.not_free (free_before old number of seat other true (λ a b. refl) free);
})
gone_change number seat old (GiveBack of other) new h c ne = subst (IsGone number seat) (sym c.1) (record {
  given = h.given;
  not_free = λ free. h.not_free (free_before old number of seat other false (λ a b. absurd (ne (ap (λ n. GiveBack n other) a ∙ ap (GiveBack number) (sym b)))) free);
})

gone_run : (number seat : ℕ) (old : Table) (changes : List Change) (new : Table) → IsGone number seat old → LeadsTo old changes new → AllByRecursion (λ change. change ≢ GiveBack number seat) changes
    → IsGone number seat new
gone_run number seat old [] new h run none = subst (IsGone number seat) (sym run) h
gone_run number seat old (change ∷ changes) new h run none = gone_run number seat run.0 changes new (gone_change number seat old change run.0 h run.1 none.0) run.2 none.1

-- a seat that was taken is out
gone_taken : (number seat : ℕ) (old new : Table) → IsSound old → Changes old (Take number seat) new → IsGone number seat new
gone_taken number seat old new sound c = subst (IsGone number seat) (sym c.1) (record {
  given =
      let mount = found_all (IsMountOf old.next old.seats) (λ m. m.number == number) old.mounts c.0.mount sound.each c.0.live in
      let below = mount.below_next in
      omega (arith, below, is_number);
  not_free = λ free.
      let after = mapped (changed number seat true) (numbered number old.mounts) free.mount (sym (numbered-with_seat old.mounts number number seat true) ∙ free.live) in
      let same = same_mount after.0 c.0.mount (sym after.1 ∙ c.0.live) in
      let taken = taken_seat c.0.mount is_number c.0.is in
      let out : slice_get free.mount.seats seat ≡ Some true = ap (λ m. slice_get m.seats seat) (sym after.2 ∙ ap (changed number seat true) same) ∙ taken in
      let is = free.is in
      absurd (cc);
})
  where
    is_number : c.0.mount.number ≡ number
    is_number = eqb-true c.0.mount.number number (found_passes (λ m. m.number == number) old.mounts c.0.mount c.0.live)

    same_mount : (a b : Mount) → Some a ≡ Some b → a ≡ b
    same_mount a b e = cc

    taken_seat : (mount : Mount) → mount.number ≡ number → slice_get mount.seats seat ≡ Some false → slice_get (changed number seat true mount).seats seat ≡ Some true
    taken_seat mount e at =
        ap (λ b. slice_get (cond b (with_seat seat true mount) mount).seats seat) (eq-eqb mount.number number e) ∙ read_written mount.seats seat false true at

pub taken_once : (seats number seat : ℕ) (before between : List Change) (table : Table) → LeadsTo (no_mounts seats) (before ++ Take number seat ∷ (between ++ Take number seat ∷ [])) table
    → AllByRecursion (λ change. change ≢ GiveBack number seat) between → ⊥
taken_once seats number seat before between table run none =
    let first = run_parts before (Take number seat ∷ (between ++ Take number seat ∷ [])) (no_mounts seats) table run in
    let sound = sound_run (no_mounts seats) before first.0 (no_mounts_sound seats) first.1 in
    let second = run_parts between (Take number seat ∷ []) first.2.0 table first.2.2 in
    let gone = gone_run number seat first.2.0 between second.0 (gone_taken number seat first.0 first.2.0 sound first.2.1) second.1 none in
    gone.not_free second.2.1.0
