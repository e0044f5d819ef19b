-- Sorting call lines by seat.
use Rattle.std.proofs.Common.{◌≡◌, ◌==◌, ℕ, ◌+◌, ◌<◌, zero, suc, true, false, List, [], ◌∷◌, ◌++◌, length, replicate, refl, sym, ap, ◌∙◌, inl, inr, arith, append_assoc, append-nil}
use Rattle.std.proofs.lemmas.Bool.{ne_eqb, eq-eqb}
use Rattle.std.proofs.lemmas.Bool.Decides.{eqb_tells}
use Rattle.ring_steps.specs.declared.calls.PublisherCall.{PublisherCall}
use Rattle.ring_steps.specs.declared.calls.SeatCall.{SeatCall}
use Rattle.ring_script.specs.declared.call_line.CallLine.{CallLine}
use Rattle.ring_script.specs.declared.call_line.CallLine.TheVariants.{ByPublisher, BySeat}
use Rattle.ring_script.specs.Scripts.{publisher_calls, seat_calls, seats_from, all_seats, put_call}

-- of all these, some were handed out, and the others are still to come
pub record Going {X : Type 0} (all out rest : List X) (count : ℕ) : Type 0 where
  pub split : out ++ rest ≡ all
  pub counted : length rest ≡ count

pub one_out : {X : Type 0} {all out rest : List X} {count : ℕ} (x : X) (new : List X) (fewer : ℕ) → Going all out rest count → rest ≡ x ∷ new → fewer + 1 ≡ count → Going all (out ++ x ∷ []) new fewer
one_out {out = out} {rest = rest} x new fewer p is less = record {
  split = append_assoc out (x ∷ []) new ∙ ap (λ l. out ++ l) (sym is) ∙ p.split;
  counted = omega (arith, p.counted, less, ap length is);
}

empty_list : {X : Type 0} (xs : List X) → length xs ≡ 0 → xs ≡ []
empty_list [] h = refl
empty_list (x ∷ xs) h = absurd (omega arith)

pub all_out : {X : Type 0} {all out rest : List X} {count : ℕ} → Going all out rest count → count ≡ 0 → out ≡ all
all_out {out = out} {rest = rest} p none = sym (append-nil out) ∙ ap (λ l. out ++ l) (sym (empty_list rest (p.counted ∙ none))) ∙ p.split

pub publisher_calls-push : (lines : List CallLine) (call : PublisherCall) → publisher_calls (lines ++ ByPublisher call ∷ []) ≡ publisher_calls lines ++ call ∷ []
publisher_calls-push [] call = refl
publisher_calls-push (ByPublisher own ∷ lines) call = ap (λ (l : List PublisherCall). own ∷ l) (publisher_calls-push lines call)
publisher_calls-push (BySeat seat own ∷ lines) call = publisher_calls-push lines call

pub publisher_calls-seat : (lines : List CallLine) (seat : ℕ) (call : SeatCall) → publisher_calls (lines ++ BySeat seat call ∷ []) ≡ publisher_calls lines
publisher_calls-seat [] seat call = refl
publisher_calls-seat (ByPublisher own ∷ lines) seat call = ap (λ (l : List PublisherCall). own ∷ l) (publisher_calls-seat lines seat call)
publisher_calls-seat (BySeat other own ∷ lines) seat call = publisher_calls-seat lines seat call

seat_calls-publisher : (n : ℕ) (lines : List CallLine) (call : PublisherCall) → seat_calls n (lines ++ ByPublisher call ∷ []) ≡ seat_calls n lines
seat_calls-publisher n [] call = refl
seat_calls-publisher n (ByPublisher own ∷ lines) call = seat_calls-publisher n lines call
seat_calls-publisher n (BySeat seat own ∷ lines) call = rw (seat_calls-publisher n lines call) refl

seat_calls-other : (n : ℕ) (lines : List CallLine) (seat : ℕ) (call : SeatCall) → (seat == n) ≡ false → seat_calls n (lines ++ BySeat seat call ∷ []) ≡ seat_calls n lines
seat_calls-other n [] seat call other = rw other refl
seat_calls-other n (ByPublisher own ∷ lines) seat call other = seat_calls-other n lines seat call other
seat_calls-other n (BySeat s own ∷ lines) seat call other = rw (seat_calls-other n lines seat call other) refl

seat_calls-own : (n : ℕ) (lines : List CallLine) (seat : ℕ) (call : SeatCall) → (seat == n) ≡ true → seat_calls n (lines ++ BySeat seat call ∷ []) ≡ seat_calls n lines ++ call ∷ []
seat_calls-own n [] seat call same = rw same refl
seat_calls-own n (ByPublisher own ∷ lines) seat call same = seat_calls-own n lines seat call same
seat_calls-own n (BySeat s own ∷ lines) seat call same = elim (eqb_tells s n) [
  | inl is ↦ rw is.0 (ap (λ (l : List SeatCall). own ∷ l) (seat_calls-own n lines seat call same))
  | inr other ↦ rw other.0 (seat_calls-own n lines seat call same)
]

seats_from-publisher : (first count : ℕ) (lines : List CallLine) (call : PublisherCall) → seats_from first count (lines ++ ByPublisher call ∷ []) ≡ seats_from first count lines
seats_from-publisher first zero lines call = refl
seats_from-publisher first (suc count) lines call = rw (seat_calls-publisher first lines call, seats_from-publisher (suc first) count lines call) refl

-- a call of a seat before these
seats_from-before : (first count : ℕ) (lines : List CallLine) (seat : ℕ) (call : SeatCall) → seat < first → seats_from first count (lines ++ BySeat seat call ∷ []) ≡ seats_from first count lines
seats_from-before first zero lines seat call below = refl
seats_from-before first (suc count) lines seat call below =
    let other = ne_eqb seat first (λ same. omega arith) in
    let later : seat < suc first = omega arith in
    rw (seat_calls-other first lines seat call other, seats_from-before (suc first) count lines seat call later) refl

seats_from-seat : (first count : ℕ) (lines : List CallLine) (place : ℕ) (call : SeatCall) → seats_from first count (lines ++ BySeat (place + first) call ∷ []) ≡ put_call (seats_from first count lines) place call
seats_from-seat first zero lines place call = refl
seats_from-seat first (suc count) lines zero call =
    let same = eq-eqb (zero + first) first (omega arith) in
    let below : zero + first < suc first = omega arith in
    rw (seat_calls-own first lines (zero + first) call same, seats_from-before (suc first) count lines (zero + first) call below) refl
seats_from-seat first (suc count) lines (suc place) call =
    let other = ne_eqb (suc place + first) first (λ same. omega arith) in
    let next : suc place + first ≡ place + suc first = omega arith in
    rw (seat_calls-other first lines (suc place + first) call other)
    (ap (λ (l : List (List SeatCall)). seat_calls first lines ∷ l) (ap (λ (n : ℕ). seats_from (suc first) count (lines ++ BySeat n call ∷ [])) next ∙ seats_from-seat (suc first) count lines place call))

pub all_seats-publisher : (seats : ℕ) (lines : List CallLine) (call : PublisherCall) → all_seats seats (lines ++ ByPublisher call ∷ []) ≡ all_seats seats lines
unfolding all_seats
all_seats-publisher seats lines call = seats_from-publisher 0 seats lines call

pub all_seats-seat : (seats : ℕ) (lines : List CallLine) (seat : ℕ) (call : SeatCall) → all_seats seats (lines ++ BySeat seat call ∷ []) ≡ put_call (all_seats seats lines) seat call
unfolding all_seats
all_seats-seat seats lines seat call =
    let same : seat ≡ seat + 0 = omega arith in
    ap (λ (n : ℕ). seats_from 0 seats (lines ++ BySeat n call ∷ [])) same ∙ seats_from-seat 0 seats lines seat call

no_calls : (first count : ℕ) → replicate count [] ≡ seats_from first count []
no_calls first zero = refl
no_calls first (suc count) = ap (λ (l : List (List SeatCall)). [] ∷ l) (no_calls (suc first) count)

pub all_seats-none : (seats : ℕ) → replicate seats [] ≡ all_seats seats []
unfolding all_seats
all_seats-none seats = no_calls 0 seats
