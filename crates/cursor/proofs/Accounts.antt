-- In a run of a plain log an attached seat's account is that of what its takes were answered, and a detachment tells it.
use Rattle.std.proofs.Common.{◌≡◌, ◌≢◌, ℕ, ◌+◌, Option, Some, None, List, [], ◌∷◌, ◌++◌, zero, suc, length, map, refl, ◌∙◌, ap, subst, inl, inr, arith, slice_get, slice_set}
use Rattle.std.specs.Prelude.{option_map}
use Rattle.std.proofs.lemmas.Bool.Decides.{eqb_tells}
use Rattle.cursor.specs.declared.takes.Account.{Account}
use Rattle.cursor.specs.declared.takes.Left.{Left}
use Rattle.cursor.specs.declared.calls.Call.{Call}
use Rattle.cursor.specs.declared.calls.Call.TheVariants.{Publish, Close, Attach, Take, Detach}
use Rattle.cursor.specs.declared.calls.Answer.{Answer}
use Rattle.cursor.specs.declared.calls.Answer.TheVariants.{Appended, Refused, Closed, Attached, Taken, Detached}
use Rattle.cursor.specs.Log.{Event}
use Rattle.cursor.specs.Account.{StaysAttached, account_of, cursor_of, lost, received, take_of, takes_of, with_answers}
use Rattle.cursor.specs.Plain.{Plain, PlainEvent, PlainRun, HasAccount}
use Rattle.cursor.proofs.Counting.{account_after_take, read_place}
use Rattle.cursor.proofs.Counted.{same_account, with_answers-append, with_answers-none, with_answers-one}
use Rattle.cursor.proofs.Attachments.{read_other}
use Rattle.cursor.proofs.Plains.{cursor_at}

-- a seat whose place isn't written keeps its account
pub other_account : (old new : Plain) (t s : ℕ) (a : Account) (place : Option Account) → t ≢ s → new.seats ≡ slice_set old.seats t place → HasAccount old s a → HasAccount new s a
other_account old new t s a place ne e has = rw e (read_other old.seats t s place ne ∙ has)

-- one event, which doesn't detach the seat
pub account_after_event : (old new : Plain) (s : ℕ) (a : Account) (call : Call) (answer : Answer) → PlainEvent old call answer new → call ≢ Detach s → HasAccount old s a
    → HasAccount new s (with_answers a (take_of s call answer))
account_after_event old new s a (Publish p) (Appended n) h stays has = rw (h.accounts, ← with_answers-none a) has
account_after_event old new s a (Publish p) Refused h stays has = rw (h.accounts, ← with_answers-none a) has
account_after_event old new s a Close Closed h stays has = rw (h.accounts, ← with_answers-none a) has
account_after_event old new s a (Attach t m) (Attached c) h stays has =
    let ne : t ≢ s = λ e. let free = rw e at h.event.0 in let there = cursor_at old s a has in cc in
    rw (← with_answers-none a) (other_account old new t s a _ ne h.accounts has)
account_after_event old new s a (Take t) (Taken d) h stays has =
    elim (eqb_tells t s) [
      | inl e ↦ let P : ℕ → Type 0 = λ u. PlainEvent old (Take u) (Taken d) new in rw (e.0, ← with_answers-one a d) (account_after_take old new s d a (subst P e.1 h) has)
      | inr e ↦ rw (e.0, ← with_answers-none a) (other_account old new t s a _ e.1 h.accounts has)
    ]
account_after_event old new s a (Detach t) (Detached l) h stays has =
    let ne : t ≢ s = λ e. stays (ap Detach e) in
    rw (← with_answers-none a) (other_account old new t s a None ne h.accounts has)
account_after_event old new s a call answer h stays has = absurd h.event

-- events that don't detach the seat
pub account_after_run : (old new : Plain) (s : ℕ) (a : Account) (events : List Event) → PlainRun old events new → StaysAttached s events → HasAccount old s a
    → HasAccount new s (with_answers a (takes_of s events))
account_after_run old new s a [] run stays has = rw (run, ← with_answers-none a) has
account_after_run old new s a (e ∷ es) run stays has =
    rw (← with_answers-append a (take_of s e.call e.answer) (takes_of s es))
    (account_after_run run.0 new s _ es run.2 stays.1 (account_after_event old run.0 s a e.call e.answer run.1 stays.0 has))

pub free_place : (seats : List (Option Account)) (s : ℕ) → slice_get (map (option_map cursor_of) seats) s ≡ Some None → slice_get seats s ≡ Some None
free_place [] s h = absurd (cc)
free_place (None ∷ xs) zero h = refl
free_place (Some a ∷ xs) zero h = absurd (cc)
free_place (x ∷ xs) (suc s) h = free_place xs s h

-- an attachment's account is that of its answers
pub account_of_attachment : (s back start : ℕ) (during : List Event) (old new : Plain)
    → PlainRun old (record { call = Attach s back; answer = Attached start } ∷ during) new → StaysAttached s during
    → HasAccount new s (account_of start (takes_of s during))
account_of_attachment s back start during old new run stays =
    let begun : Account = record { start = start; taken = 0; lost = 0 } in
    let place : HasAccount run.0 s begun = rw run.1.accounts (read_place old.seats s None (Some begun) (free_place old.seats s run.1.event.0)) in
    let answers = takes_of s during in
    let same = same_account start (0 + length (received answers)) (length (received answers)) (0 + lost answers) (lost answers) (omega arith) (omega arith) in
    rw (← same) (account_after_run run.0 new s begun during run.2 stays place)

pub PlainRun-split : (old : Plain) (xs ys : List Event) (new : Plain) → PlainRun old (xs ++ ys) new → (mid : Plain) × PlainRun old xs mid × PlainRun mid ys new
PlainRun-split old [] ys new run = (old, refl, run)
PlainRun-split old (x ∷ xs) ys new run = let rest = PlainRun-split run.0 xs ys new run.2 in (rest.0, (run.0, run.1, rest.1), rest.2)

-- what a detachment tells is the account of its attachment
pub left_of_attachment : (s back start : ℕ) (during : List Event) (l : Left) (old new : Plain)
    → PlainRun old (record { call = Attach s back; answer = Attached start } ∷ during ++ record { call = Detach s; answer = Detached l } ∷ []) new → StaysAttached s during
    → (l.taken ≡ length (received (takes_of s during))) × (l.lost ≡ lost (takes_of s during))
left_of_attachment s back start during l old new run stays =
    let split = PlainRun-split old (record { call = Attach s back; answer = Attached start } ∷ during) (record { call = Detach s; answer = Detached l } ∷ []) new run in
    let has = account_of_attachment s back start during old split.0 split.1 stays in
    let told = split.2.1.told in
    let same : told.0 ≡ account_of start (takes_of s during) = let tells = told.1 in cc in
    (told.2 ∙ ap (λ (a : Account). a.taken) same, told.3 ∙ ap (λ (a : Account). a.lost) same)
