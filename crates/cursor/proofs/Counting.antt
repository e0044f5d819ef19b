-- By each take of a plain tap its seat's account goes on.
use Rattle.std.proofs.Common.{◌≡◌, ℕ, Option, Some, None, List, [], ◌∷◌, zero, suc, map, refl, sym, slice_get, slice_set}
use Rattle.std.specs.Prelude.{option_map}
use Rattle.std.proofs.lemmas.Option.{get_or_from_slice_get}
use Rattle.cursor.specs.declared.takes.Account.{Account}
use Rattle.cursor.specs.declared.takes.Delivery.{Delivery}
use Rattle.cursor.specs.declared.takes.Delivery.TheVariants.{Got, Lost, Empty, Ended}
use Rattle.cursor.specs.declared.calls.Call.TheVariants.{Take}
use Rattle.cursor.specs.declared.calls.Answer.TheVariants.{Taken}
use Rattle.cursor.specs.Account.{counted, cursor_of}
use Rattle.cursor.specs.Log.{Log, LogEvent}
use Rattle.cursor.specs.Plain.{Plain, PlainEvent, HasAccount, Tapped, log_of, tapped_account}
use Rattle.cursor.specs.Taps.{Counts}

-- a seat's cursor in the log is that of its account
pub account_at : (seats : List (Option Account)) (s c : ℕ) → slice_get (map (option_map cursor_of) seats) s ≡ Some (Some c)
    → (a : Account) × (slice_get seats s ≡ Some (Some a)) × (cursor_of a ≡ c)
account_at [] s c h = absurd (cc)
account_at (None ∷ xs) zero c h = absurd (cc)
account_at (Some a ∷ xs) zero c h = (a, refl, cc)
account_at (x ∷ xs) (suc s) c h = account_at xs s c h

-- reading a place that was written
pub read_place : {X : Type 0} (xs : List X) (i : ℕ) (old new : X) → slice_get xs i ≡ Some old → slice_get (slice_set xs i new) i ≡ Some new
read_place [] i old new at = absurd (cc)
read_place (x ∷ xs) zero old new at = refl
read_place (x ∷ xs) (suc i) old new at = read_place xs i old new at

-- a take is of an attached seat, whose account goes on by the answer
pub take_counts : (old : Plain) (s : ℕ) (d : Delivery) (new : Log) → LogEvent old.keep (log_of old) (Take s) (Taken d) new
    → (a : Account) × HasAccount old s a × Counts a d (counted d a)
take_counts old s (Got n p) new h = let at = account_at old.seats s n h.0 in (at.0, at.1, (sym at.2, refl))
take_counts old s (Lost k) new h = let at = account_at old.seats s h.0 h.1 in (at.0, at.1, refl)
take_counts old s Empty new h = let at = account_at old.seats s _ h.0 in (at.0, at.1, refl)
take_counts old s Ended new h = let at = account_at old.seats s _ h.0 in (at.0, at.1, refl)

-- after a take its seat has the account with the answer counted
pub account_after_take : (old new : Plain) (s : ℕ) (d : Delivery) (a : Account) → PlainEvent old (Take s) (Taken d) new → HasAccount old s a
    → HasAccount new s (counted d a)
account_after_take old new s d a h has =
    rw (h.accounts, get_or_from_slice_get old.seats s (Some a) None has) (read_place old.seats s (Some a) (Some (counted d a)) has)

-- the seat's account, read with a default
pub tapped_account_is : (tap : Tapped) (a : Account) → HasAccount tap.log tap.seat a → tapped_account tap ≡ a
tapped_account_is tap a has = rw (get_or_from_slice_get tap.log.seats tap.seat (Some a) None has)

-- by a take of a tap its seat's account goes on
pub counts_tapped : (old new : Tapped) (d : Delivery) → PlainEvent old.log (Take old.seat) (Taken d) new.log → new.seat ≡ old.seat → Counts (tapped_account old) d (tapped_account new)
counts_tapped old new d event seat =
    let was = take_counts old.log old.seat d (log_of new.log) event.event in
    let is : HasAccount new.log new.seat (counted d was.0) = rw seat (account_after_take old.log new.log old.seat d was.0 event was.1) in
    rw (tapped_account_is old was.0 was.1, tapped_account_is new (counted d was.0) is) was.2
