-- A script's first bad call is the publisher's first after a close, else the first out of turn of the first seat that has one;
-- with neither the script is good.
use Rattle.std.proofs.Common.{◌≡◌, ℕ, ◌+◌, ◌<◌, true, false, inl, inr, Some, List, [], ◌∷◌, length, take, get_or, sym, ◌∙◌, ap, subst, arith, slice_get, ◌||◌}
use Rattle.std.proofs.Math.Bool.{or-false, or-true}
use Rattle.std.proofs.lemmas.Bool.Decides.{eqb_tells}
use Rattle.std.proofs.lemmas.List.{take_more}
use Rattle.std.proofs.lemmas.List.Sums.{fold-append}
use Rattle.std.proofs.lemmas.List.Folds.{list_any_more}
use Rattle.std.proofs.lemmas.Option.{get_or_from_slice_get, same_Some, slice_get_within}
use Rattle.ring_steps.specs.declared.calls.Actor.{Actor}
use Rattle.ring_steps.specs.declared.calls.Actor.TheVariants.{P, Seat}
use Rattle.ring_steps.specs.declared.calls.PublisherCall.{PublisherCall}
use Rattle.ring_steps.specs.declared.calls.PublisherCall.TheVariants.{Publish, Close}
use Rattle.ring_steps.specs.declared.calls.SeatCall.{SeatCall}
use Rattle.ring_steps.specs.Checking.{IsFirstOutOfTurn, NoneOutOfTurn}
use Rattle.ring_steps.specs.Runs.{Calls}
use Rattle.ring_steps.specs.Scripts.{ComesBefore, IsAfterClose, IsBadCall, IsFirstBad, IsGoodScript, IsMisplaced, IsOutOfTurn, attached_by, is_attached_after, is_close, is_closed_after}

-- one call more
pub attached_more : (calls : List SeatCall) (i : ℕ) (d : SeatCall) → i < length calls
    → is_attached_after (take (i + 1) calls) ≡ attached_by (is_attached_after (take i calls)) (get_or calls i d)
attached_more calls i d lt =
    ap is_attached_after (take_more calls i d lt) ∙ fold-append attached_by false (take i calls) (get_or calls i d ∷ [])

-- the call at a place is misplaced where the place is out of turn
pub misplaced_at : (calls : List SeatCall) (i : ℕ) (d : SeatCall) → IsOutOfTurn calls i → IsMisplaced (is_attached_after (take i calls)) (get_or calls i d)
misplaced_at calls i d bad =
    let same = get_or_from_slice_get calls i bad.call d bad.there in
    subst (λ (call : SeatCall). IsMisplaced (is_attached_after (take i calls)) call) (sym same) bad.misplaced

before_seat : (calls : Calls) (seat n : ℕ) → ((m : ℕ) → ¬ IsAfterClose calls.publisher m) → IsFirstOutOfTurn calls.seats seat n
    → (a : Actor) (m : ℕ) → ComesBefore a m (Seat seat) n → ¬ IsBadCall calls a m
before_seat calls seat n none first P m before bad = none m bad
before_seat calls seat n none first (Seat s) m (inl lower) bad = first.before s bad.0 m lower bad.1 bad.2
before_seat calls seat n none first (Seat s) m (inr same) bad =
    let own : bad.0 ≡ first.own = same_Some bad.0 first.own (sym bad.1 ∙ ap (slice_get calls.seats) same.0 ∙ first.there) in
    first.first m same.1 (subst (λ (xs : List SeatCall). IsOutOfTurn xs m) own bad.2)

-- a seat's first call out of turn is the script's first bad one
pub first_of_seat : (calls : Calls) (seat n : ℕ) → ((m : ℕ) → ¬ IsAfterClose calls.publisher m) → IsFirstOutOfTurn calls.seats seat n → IsFirstBad calls (Seat seat) n
first_of_seat calls seat n none first = record { bad = (first.own, first.there, first.bad); first = before_seat calls seat n none first }

before_publisher : (calls : Calls) (n : ℕ) → ((m : ℕ) → m < n → ¬ IsAfterClose calls.publisher m) → (a : Actor) (m : ℕ) → ComesBefore a m P n → ¬ IsBadCall calls a m
before_publisher calls n first P m before bad = first m before bad
before_publisher calls n first (Seat s) m before bad = before

-- so is the publisher's first call after a close
pub first_of_publisher : (calls : Calls) (n : ℕ) → IsAfterClose calls.publisher n → ((m : ℕ) → m < n → ¬ IsAfterClose calls.publisher m) → IsFirstBad calls P n
first_of_publisher calls n bad first = record { bad = bad; first = before_publisher calls n first }

-- a script without such calls is good
pub good_script : (calls : Calls) → ((m : ℕ) → ¬ IsAfterClose calls.publisher m) → NoneOutOfTurn calls.seats (length calls.seats) → IsGoodScript calls
good_script calls early none P n bad = early n bad
good_script calls early none (Seat s) n bad = none s bad.0 n (slice_get_within calls.seats s bad.0 bad.1) bad.1 bad.2

-- one seat more has no call out of turn
pub none_more : (seats : List (List SeatCall)) (i : ℕ) (own : List SeatCall) → NoneOutOfTurn seats i → slice_get seats i ≡ Some own → ((m : ℕ) → ¬ IsOutOfTurn own m)
    → NoneOutOfTurn seats (i + 1)
none_more seats i own before at none s xs m lt there bad =
    elim (eqb_tells s i) [
      | inl e ↦ let same : xs ≡ own = same_Some xs own (sym there ∙ ap (slice_get seats) e.1 ∙ at) in none m (subst (λ (c : List SeatCall). IsOutOfTurn c m) same bad)
      | inr e ↦ let ne = e.1 in before s xs m (omega arith) there bad
    ]

-- a seat is attached after one call more as that call says
pub attached_at : (calls : List SeatCall) (n : ℕ) (call : SeatCall) → slice_get calls n ≡ Some call
    → is_attached_after (take (n + 1) calls) ≡ attached_by (is_attached_after (take n calls)) call
attached_at calls n call at =
    attached_more calls n call (slice_get_within calls n call at)
    ∙ ap (attached_by (is_attached_after (take n calls))) (get_or_from_slice_get calls n call call at)

-- the log is closed after one call more where it was, or that call closes it
pub closed_at : (calls : List PublisherCall) (n : ℕ) (call : PublisherCall) → slice_get calls n ≡ Some call
    → is_closed_after (take (n + 1) calls) ≡ (is_closed_after (take n calls) || is_close call)
closed_at calls n call at =
    list_any_more is_close calls n call (slice_get_within calls n call at)
    ∙ ap (λ (c : PublisherCall). is_closed_after (take n calls) || is_close c) (get_or_from_slice_get calls n call call at)

pub publish_keeps : (calls : List PublisherCall) (n : ℕ) (p : List ℕ) → slice_get calls n ≡ Some (Publish p) → is_closed_after (take (n + 1) calls) ≡ is_closed_after (take n calls)
publish_keeps calls n p at = closed_at calls n (Publish p) at ∙ or-false (is_closed_after (take n calls))

pub close_closes : (calls : List PublisherCall) (n : ℕ) → slice_get calls n ≡ Some Close → is_closed_after (take (n + 1) calls) ≡ true
close_closes calls n at = closed_at calls n Close at ∙ or-true (is_closed_after (take n calls))
