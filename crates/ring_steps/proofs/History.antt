-- The calls that act in a run are a run of the plain log, in the order of their acting steps: so they are a legal history, in
-- which each player receives the log and each detachment tells its account.
use Rattle.std.proofs.Common.{◌≡◌, ◌≢◌, ℕ, zero, suc, ◌+◌, ◌-◌, ◌<◌, ◌≤◌, true, false, Bool, Option, Some, None, List, [], ◌∷◌, ◌++◌, length, map, replicate, refl, sym, ◌∙◌, ap, subst, arith, inl, inr, slice_get, slice_set, nat_lt, is_some, ◌||◌}
use Rattle.std.specs.Prelude.{if◌then◌else◌, option_map}
use Rattle.std.proofs.lemmas.Bool.Decides.{eqb_tells}
use Rattle.std.proofs.lemmas.List.{length-map, map-append}
use Rattle.cursor.specs.declared.packets.Packet.{Packet}
use Rattle.cursor.specs.declared.takes.Account.{Account}
use Rattle.cursor.specs.declared.takes.Delivery.TheVariants.{Got, Lost, Empty, Ended}
use Rattle.cursor.specs.declared.calls.Answer.{Answer}
use Rattle.cursor.specs.declared.calls.Answer.TheVariants.{Attached, Taken, Detached}
use Rattle.cursor.specs.declared.calls.Call.{Call}
use Rattle.cursor.specs.declared.calls.Call.TheVariants as calls
use Rattle.cursor.proofs.Counting.{read_place}
use Rattle.cursor.specs.Account.{cursor_of}
use Rattle.cursor.specs.Log.{Event, LegalHistory, Log, Run, attached_at, back_from, detached_with, empty_log}
use Rattle.cursor.specs.Plain.{HasAccount, IsFree, Plain, PlainEvent, PlainRun, empty_plain, log_of, plain_of}
use Rattle.cursor.proofs.Accounts.{PlainRun-split, left_of_attachment}
use Rattle.cursor.specs.Player.{PlayersReceive}
use Rattle.cursor.proofs.Players.{players_receive}
use Rattle.cursor.proofs.Runs.{Run-log_of, map-replicate}
use Rattle.ring_steps.specs.Traces.{TellsAccounts}
use Rattle.cursor.proofs.Plains.{attach_event, detach_event, same_place, take_event, with_place}
use Rattle.ring_steps.specs.declared.calls.Actor.{Actor}
use Rattle.ring_steps.specs.declared.calls.Actor.TheVariants.{P, Seat}
use Rattle.ring_steps.specs.declared.calls.PublisherCall.{PublisherCall}
use Rattle.ring_steps.specs.declared.calls.PublisherCall.TheVariants.{Publish, Close}
use Rattle.ring_steps.specs.declared.calls.SeatCall.{SeatCall}
use Rattle.ring_steps.specs.declared.calls.SeatCall.TheVariants.{Attach, Take, Detach}
use Rattle.ring_steps.specs.declared.views.PublisherPhase.{PublisherPhase}
use Rattle.ring_steps.specs.declared.views.PublisherPhase.TheVariants as publishing
use Rattle.ring_steps.specs.declared.views.Seat as views
use Rattle.ring_steps.specs.declared.views.SeatPhase.{SeatPhase}
use Rattle.ring_steps.specs.declared.views.SeatPhase.TheVariants as seating
use Rattle.ring_steps.specs.Acting.{Acted, acted, acted_at, acting, but_packet, history_of, is_load, is_reply, only_packet, reply_to}
use Rattle.ring_steps.specs.Answers.{packet_of, publisher_call, seat_call}
use Rattle.ring_steps.specs.Ring.{State, cursor, floor, new_seat, word}
use Rattle.ring_steps.specs.Runs.{At, Calls, MoveBy, Ran, Turn, outcome_of, start}
use Rattle.ring_steps.specs.Slots.{Invariant}
use Rattle.ring_steps.specs.Step.{Outcome, PublisherActs, SeatActs, attach, detach, end_take, find_packet, first_load, is_known, loaded, lose, next_place, pin, read_byte, read_length, second_load, unpin, unpin_failed}
use Rattle.ring_steps.proofs.Opening.{empty_keeps}
use Rattle.ring_steps.proofs.Pending.{GoesOnTaking, Pends, TakesOn, byte_goes, length_goes, pin_goes, ran_pends, unpin_failed_goes}
use Rattle.ring_steps.proofs.Places.{by_test, lt_tells}
use Rattle.ring_steps.proofs.Running.{move_keeps}
use Rattle.ring_steps.proofs.Telling.{acts_silent, not_publishers, others, own, reply_ends, reply_skips, silent}
use Rattle.ring_steps.proofs.Writing.{is_open}

-- an account in which a packet that is still to be answered counts
abbrev pub with_reply : Option Answer → Account → Account
with_reply (Some (Taken (Got n p))) a = record a { taken = a.taken + 1 }
with_reply other a = a

-- a seat's account in the acting order: while a take is under way, its packet counts from its first load on
abbrev pub place_of : SeatPhase → (reply : Option Answer) → Account → Option Account
place_of seating.Out reply a = None
place_of seating.Between reply a = Some a
place_of phase reply a = Some (with_reply reply a)

-- these accounts, of the seats from number k on, before these turns
abbrev pub places : (k : ℕ) → List views.Seat → List Turn → List (Option Account)
places k [] ts = []
places k (x ∷ xs) ts = place_of x.phase (reply_to k ts) x.account ∷ places (k + 1) xs ts

-- the log in the acting order
abbrev pub plain_at : State → (later : List Turn) → Plain
plain_at s ts = plain_of s.keep 0 (map packet_of s.log) s.publisher.closed (places 0 s.seats ts)

-- a turn that is no reply to these seats leaves their accounts
places_skip : (k : ℕ) (xs : List views.Seat) (t : Turn) (ts : List Turn) → ((i : ℕ) → k ≤ i → is_reply i t ≡ false) → places k xs (t ∷ ts) ≡ places k xs ts
places_skip k [] t ts none = refl
places_skip k (x ∷ xs) t ts none =
    let here = reply_skips k t ts (none k (omega arith)) in
    let rest = places_skip (k + 1) xs t ts (λ i low. none i (omega arith)) in
    ap (λ (r : Option Answer). place_of x.phase r x.account ∷ places (k + 1) xs (t ∷ ts)) here ∙ ap (λ (ps : List (Option Account)). place_of x.phase (reply_to k ts) x.account ∷ ps) rest

-- a turn of a seat changes its account alone
places_set : (k j : ℕ) (xs : List views.Seat) (i : ℕ) (y : views.Seat) (t : Turn) (ts : List Turn) → j ≡ k + i → t.actor ≡ Seat j
    → places k (slice_set xs i y) ts ≡ slice_set (places k xs (t ∷ ts)) i (place_of y.phase (reply_to j ts) y.account)
places_set k j [] i y t ts e by = refl
places_set k j (x ∷ xs) zero y t ts e by =
    let same : j ≡ k = omega arith in
    let rest = places_skip (k + 1) xs t ts (λ i low. let ne : i ≢ j = omega arith in others i j t by ne) in
    ap (λ (m : ℕ). place_of y.phase (reply_to m ts) y.account ∷ places (k + 1) xs ts) (sym same) ∙ ap (λ (ps : List (Option Account)). place_of y.phase (reply_to j ts) y.account ∷ ps) (sym rest)
places_set k j (x ∷ xs) (suc i) y t ts e by =
    let ne : k ≢ j = omega arith in
    let here = reply_skips k t ts (others k j t by ne) in
    let rest = places_set (k + 1) j xs i y t ts (omega arith) by in
    ap (λ (r : Option Answer). place_of x.phase r x.account ∷ places (k + 1) (slice_set xs i y) ts) (sym here)
    ∙ ap (λ (ps : List (Option Account)). place_of x.phase (reply_to k (t ∷ ts)) x.account ∷ ps) rest

place_there : (k j : ℕ) (xs : List views.Seat) (i : ℕ) (x : views.Seat) (ts : List Turn) → j ≡ k + i → slice_get xs i ≡ Some x
    → slice_get (places k xs ts) i ≡ Some (place_of x.phase (reply_to j ts) x.account)
place_there k j [] i x ts e at = absurd (cc)
place_there k j (z ∷ xs) zero x ts e at =
    let same : z ≡ x = cc in
    let here : k ≡ j = omega arith in
    ap (λ (w : views.Seat). Some (place_of w.phase (reply_to k ts) w.account)) same ∙ ap (λ (m : ℕ). Some (place_of x.phase (reply_to m ts) x.account)) here
place_there k j (z ∷ xs) (suc i) x ts e at = place_there (k + 1) j xs i x ts (omega arith) at

-- a call acts, by one event, or none does and the log stays
abbrev pub Advances : Option Answer → Plain → Call → Plain → Type 0
Advances None p call q = q ≡ p
Advances (Some a) p call q = PlainEvent p call a q

abbrev pub turn_by : Actor → Call → Outcome → Turn
turn_by actor call o = record { actor = actor; call = call; saw = o.saw; answer = o.answer }

-- the log after a seat's step has the account of its new view
seat_plain : (s u : State) (i : ℕ) (y : views.Seat) (t : Turn) (ts : List Turn) → t.actor ≡ Seat i → u.seats ≡ slice_set s.seats i y → u.keep ≡ s.keep → u.log ≡ s.log
    → u.publisher ≡ s.publisher → plain_at u ts ≡ with_place (plain_at s (t ∷ ts)) i (place_of y.phase (reply_to i ts) y.account)
seat_plain s u i y t ts by seats keep log publisher =
    let set = places_set 0 i s.seats i y t ts (omega arith) by in
    rw (keep, log, publisher, seats, set) refl

-- what the log has for a seat
seat_was : (s : State) (i : ℕ) (x : views.Seat) (ts : List Turn) → slice_get s.seats i ≡ Some x → slice_get (places 0 s.seats ts) i ≡ Some (place_of x.phase (reply_to i ts) x.account)
seat_was s i x ts at = place_there 0 i s.seats i x ts (omega arith) at

has_account : (s : State) (i : ℕ) (x : views.Seat) (ts : List Turn) → slice_get s.seats i ≡ Some x → x.phase ≡ seating.Between → HasAccount (plain_at s ts) i x.account
has_account s i x ts at phase = seat_was s i x ts at ∙ rw phase refl

-- an event by which the seat's place becomes this one
by_event : (r : Option Answer) (a : Answer) (p : Plain) (call : Call) (q q' : Plain) → r ≡ Some a → q ≡ q' → PlainEvent p call a q' → Advances r p call q
by_event r a p call q q' acts set event = rw (acts, set) event

-- no event
by_none : (r : Option Answer) (p : Plain) (call : Call) (q : Plain) → r ≡ None → q ≡ p → Advances r p call q
by_none r p call q acts same = rw acts same

-- the account stays where the seat's place does
stays_at : (p q : Plain) (i : ℕ) (a : Account) (v : Option Account) → q ≡ with_place p i v → HasAccount p i a → v ≡ Some a → q ≡ p
stays_at p q i a v set has same = set ∙ ap (with_place p i) same ∙ ap (λ (ps : List (Option Account)). let r : Plain = record p { seats = ps } in r) (same_place p i a has)

same_plain : (p : Plain) (i : ℕ) (a : Account) → HasAccount p i a → with_place p i (Some a) ≡ p
same_plain p i a has = stays_at p (with_place p i (Some a)) i a (Some a) refl has refl

-- the turn of a first load that loses packets
abbrev pub lose_turn : State → (seat : ℕ) → views.Seat → Turn
lose_turn s i x = turn_by (Seat i) (seat_call i Take) (lose s i x (floor s s.head.length - cursor x))

-- the length of the log in packets
size_of : (s : State) → Invariant s → length (map packet_of s.log) ≡ s.head.length
size_of s h = length-map s.log packet_of ∙ sym h.slots.numbers.size

pub but_end : (b : Bool) → but_packet (Taken (if b then Ended else Empty)) ≡ Some (Taken (if b then Ended else Empty))
but_end true = refl
but_end false = refl

end_event : (p : Plain) (i : ℕ) (a : Account) (b : Bool) → HasAccount p i a → cursor_of a ≡ length p.packets → p.closed ≡ b
    → PlainEvent p (calls.Take i) (Taken (if b then Ended else Empty)) (with_place p i (Some a))
end_event p i a true has at closed = take_event p i a Ended has (at, closed)
end_event p i a false has at closed = take_event p i a Empty has (at, closed)

attach_advances : (s : State) (i : ℕ) (x : views.Seat) (back : ℕ) (ts : List Turn) → Invariant s → slice_get s.seats i ≡ Some x → x.phase ≡ seating.Out
    → (let t = turn_by (Seat i) (seat_call i (Attach back)) (attach s i x back) in
    Advances (acting t ts) (plain_at s (t ∷ ts)) (seat_call i (Attach back)) (plain_at (attach s i x back).state ts))
attach_advances s i x back ts h at phase =
    let o = attach s i x back in
    let t = turn_by (Seat i) (seat_call i (Attach back)) o in
    let p = plain_at s (t ∷ ts) in
    let from : ℕ → ℕ = back_from s.keep back in
    let y : views.Seat = record (loaded s x) { phase = seating.Between; account = record { start = from s.head.length; taken = 0; lost = 0 } } in
    let free : IsFree p i = seat_was s i x (t ∷ ts) at ∙ rw phase refl in
    let event = subst (λ (n : ℕ). PlainEvent p (calls.Attach i back) (Attached (from n)) (with_place p i (Some (record { start = from n; taken = 0; lost = 0 })))) (size_of s h) (attach_event p i back free) in
    by_event (acting t ts) (Attached (from s.head.length)) p (seat_call i (Attach back)) (plain_at o.state ts) _ refl (seat_plain s o.state i y t ts refl refl refl refl refl) event

detach_advances : (s : State) (i : ℕ) (x : views.Seat) (ts : List Turn) → Invariant s → slice_get s.seats i ≡ Some x → x.phase ≡ seating.Between
    → (let t = turn_by (Seat i) (seat_call i Detach) (detach s i x) in Advances (acting t ts) (plain_at s (t ∷ ts)) (seat_call i Detach) (plain_at (detach s i x).state ts))
detach_advances s i x ts h at phase =
    let o = detach s i x in
    let t = turn_by (Seat i) (seat_call i Detach) o in
    let p = plain_at s (t ∷ ts) in
    let y : views.Seat = record (loaded s x) { phase = seating.Out } in
    let has = has_account s i x (t ∷ ts) at phase in
    let event = subst (λ (n : ℕ). PlainEvent p (calls.Detach i) (Detached (record { taken = x.account.taken; lost = x.account.lost; left = n - cursor x })) (with_place p i None)) (size_of s h)
    (detach_event p i x.account has) in
    by_event (acting t ts) (Detached (record { taken = x.account.taken; lost = x.account.lost; left = s.head.length - cursor x })) p (seat_call i Detach) (plain_at o.state ts) _ refl
    (seat_plain s o.state i y t ts refl refl refl refl refl) event

end_advances : (s : State) (i : ℕ) (x : views.Seat) (ts : List Turn) → Invariant s → slice_get s.seats i ≡ Some x → x.phase ≡ seating.Between → s.head.length ≡ cursor x
    → (let t = turn_by (Seat i) (seat_call i Take) (end_take s i x) in Advances (acting t ts) (plain_at s (t ∷ ts)) (seat_call i Take) (plain_at (end_take s i x).state ts))
end_advances s i x ts h at phase end =
    let o = end_take s i x in
    let t = turn_by (Seat i) (seat_call i Take) o in
    let p = plain_at s (t ∷ ts) in
    let has = has_account s i x (t ∷ ts) at phase in
    let closed : p.closed ≡ s.head.closed = sym h.slots.numbers.closed in
    let place : place_of x.phase (reply_to i ts) x.account ≡ Some x.account = rw phase refl in
    by_event (acting t ts) (Taken (if s.head.closed then Ended else Empty)) p (seat_call i Take) (plain_at o.state ts) (with_place p i (Some x.account)) (but_end s.head.closed)
    (seat_plain s o.state i (loaded s x) t ts refl refl refl refl refl ∙ ap (with_place p i) place)
    (end_event p i x.account s.head.closed has (sym end ∙ sym (size_of s h)) closed)

lose_advances : (s : State) (i : ℕ) (x : views.Seat) (k : ℕ) (ts : List Turn) → Invariant s → slice_get s.seats i ≡ Some x
    → (let t = turn_by (Seat i) (seat_call i Take) (lose s i x k) in
    HasAccount (plain_at s (t ∷ ts)) i x.account → cursor x < floor s s.head.length → k ≡ floor s s.head.length - cursor x
    → Advances (acting t ts) (plain_at s (t ∷ ts)) (seat_call i Take) (plain_at (lose s i x k).state ts))
lose_advances s i x k ts h at has below count =
    let o = lose s i x k in
    let t = turn_by (Seat i) (seat_call i Take) o in
    let p = plain_at s (t ∷ ts) in
    let y : views.Seat = record (loaded s x) { phase = seating.Between; account = record x.account { lost = x.account.lost + k } } in
    let size = size_of s h in
    let low : cursor x < length p.packets - s.keep = omega arith in
    let same : k ≡ length p.packets - s.keep - cursor x = omega arith in
    by_event (acting t ts) (Taken (Lost k)) p (seat_call i Take) (plain_at o.state ts) _ refl (seat_plain s o.state i y t ts refl refl refl refl refl) (take_event p i x.account (Lost k) has (low, same))

-- a take's first load that goes on acts with the packet that it leads to
found : (s : State) (i : ℕ) (x : views.Seat) (ts : List Turn) (reply : Option Answer) → reply_to i ts ≡ reply → Invariant s → slice_get s.seats i ≡ Some x → x.phase ≡ seating.Between
    → floor s s.head.length ≤ cursor x → Pends (find_packet s i x).state ts
    → (let t = turn_by (Seat i) (seat_call i Take) (find_packet s i x) in
    let p = plain_at s (t ∷ ts) in Advances (only_packet reply) p (seat_call i Take) (with_place p i (Some (with_reply reply x.account))))
found s i x ts (Some (Taken (Got n q))) is h at phase kept pends =
    let o = find_packet s i x in
    let t = turn_by (Seat i) (seat_call i Take) o in
    let p = plain_at s (t ∷ ts) in
    let y : views.Seat = record (loaded s x) { phase = seating.Found } in
    let next = pends i y (read_place s.seats i x y at) tt n q is in
    let number = next.number in
    let size = size_of s h in
    let low : length p.packets - s.keep ≤ n = omega arith in
    take_event p i x.account (Got n q) (has_account s i x (t ∷ ts) at phase) (number, low, next.packet)
found s i x ts reply is h at phase kept pends =
    let t = turn_by (Seat i) (seat_call i Take) (find_packet s i x) in
    same_plain (plain_at s (t ∷ ts)) i x.account (has_account s i x (t ∷ ts) at phase)

find_advances : (s : State) (i : ℕ) (x : views.Seat) (ts : List Turn) → Invariant s → slice_get s.seats i ≡ Some x → x.phase ≡ seating.Between
    → floor s s.head.length ≤ cursor x → Pends (find_packet s i x).state ts
    → (let t = turn_by (Seat i) (seat_call i Take) (find_packet s i x) in Advances (acting t ts) (plain_at s (t ∷ ts)) (seat_call i Take) (plain_at (find_packet s i x).state ts))
find_advances s i x ts h at phase kept pends =
    let o = find_packet s i x in
    let t = turn_by (Seat i) (seat_call i Take) o in
    let y : views.Seat = record (loaded s x) { phase = seating.Found } in
    subst (λ (q : Plain). Advances (only_packet (reply_to i ts)) (plain_at s (t ∷ ts)) (seat_call i Take) q) (sym (seat_plain s o.state i y t ts refl refl refl refl refl))
    (found s i x ts (reply_to i ts) refl h at phase kept pends)

first_advances : (s : State) (i : ℕ) (x : views.Seat) (ts : List Turn) → Invariant s → slice_get s.seats i ≡ Some x → x.phase ≡ seating.Between → Pends (first_load s i x).state ts
    → (let t = turn_by (Seat i) (seat_call i Take) (first_load s i x) in Advances (acting t ts) (plain_at s (t ∷ ts)) (seat_call i Take) (plain_at (first_load s i x).state ts))
first_advances s i x ts h at phase =
    elim (eqb_tells s.head.length (cursor x)) [
      | inl e ↦ rw e.0 (λ pends. end_advances s i x ts h at phase e.1)
      | inr e ↦ rw e.0 (elim (lt_tells (cursor x) (floor s s.head.length)) [
        | inl l ↦ rw l.0 (λ pends. lose_advances s i x (floor s s.head.length - cursor x) ts h at (has_account s i x (lose_turn s i x ∷ ts) at phase) l.1 refl)
        | inr l ↦ rw l.0 (λ pends. find_advances s i x ts h at phase l.1 pends)
      ])
    ]

place_taking : (phase : SeatPhase) (reply : Option Answer) (a : Account) → TakesOn phase → place_of phase reply a ≡ Some (with_reply reply a)
place_taking seating.Out reply a on = absurd on
place_taking seating.Between reply a on = absurd on
place_taking phase reply a on = refl

-- a step by which a take goes on leaves the log
goes_on_advances : (s : State) (i : ℕ) (x : views.Seat) (o : Outcome) (ts : List Turn) → slice_get s.seats i ≡ Some x → TakesOn x.phase → GoesOnTaking s i x o
    → (let t = turn_by (Seat i) (seat_call i Take) o in Advances (acting t ts) (plain_at s (t ∷ ts)) (seat_call i Take) (plain_at o.state ts))
goes_on_advances s i x o ts at on goes =
    let t = turn_by (Seat i) (seat_call i Take) o in
    let p = plain_at s (t ∷ ts) in
    let unanswered : is_some t.answer ≡ false = rw goes.answer refl in
    let quiet : (is_some t.answer || is_load t.saw) ≡ false = rw (goes.answer, goes.saw) refl in
    let skips = reply_skips i t ts (silent i t quiet) in
    let a = with_reply (reply_to i ts) x.account in
    let has : HasAccount p i a = seat_was s i x (t ∷ ts) at ∙ ap (λ (v : Option Account). Some v) (place_taking x.phase (reply_to i (t ∷ ts)) x.account on) ∙ ap (λ (r : Option Answer). Some (Some (with_reply r x.account))) skips in
    let place : place_of goes.view.phase (reply_to i ts) goes.view.account ≡ Some a = place_taking goes.view.phase (reply_to i ts) goes.view.account goes.takes ∙ ap (λ (b : Account). Some (with_reply (reply_to i ts) b)) goes.account in
    by_none (acting t ts) p (seat_call i Take) (plain_at o.state ts) (acts_silent t ts unanswered goes.saw)
    (stays_at p (plain_at o.state ts) i a (place_of goes.view.phase (reply_to i ts) goes.view.account)
    (seat_plain s o.state i goes.view t ts refl goes.seats goes.keep goes.log goes.publisher) has place)

-- so does the step that answers the packet
unpin_advances : (s : State) (i : ℕ) (x : views.Seat) (ts : List Turn) → slice_get s.seats i ≡ Some x → TakesOn x.phase
    → (let t = turn_by (Seat i) (seat_call i Take) (unpin s i x) in Advances (acting t ts) (plain_at s (t ∷ ts)) (seat_call i Take) (plain_at (unpin s i x).state ts))
unpin_advances s i x ts at on =
    let o = unpin s i x in
    let t = turn_by (Seat i) (seat_call i Take) o in
    let p = plain_at s (t ∷ ts) in
    let y : views.Seat = record x { phase = seating.Between; account = record x.account { taken = x.account.taken + 1 } } in
    let ends = reply_ends i t ts (own i t refl refl) in
    let has : HasAccount p i y.account = seat_was s i x (t ∷ ts) at ∙ ap (λ (v : Option Account). Some v) (place_taking x.phase (reply_to i (t ∷ ts)) x.account on) ∙ ap (λ (r : Option Answer). Some (Some (with_reply r x.account))) ends in
    by_none (acting t ts) p (seat_call i Take) (plain_at o.state ts) refl
    (stays_at p (plain_at o.state ts) i y.account (Some y.account) (seat_plain s o.state i y t ts refl refl refl refl refl) has refl)

second_advances : (s : State) (i : ℕ) (x : views.Seat) (ts : List Turn) → Invariant s → slice_get s.seats i ≡ Some x → x.phase ≡ seating.Missed
    → (let t = turn_by (Seat i) (seat_call i Take) (second_load s i x) in Advances (acting t ts) (plain_at s (t ∷ ts)) (seat_call i Take) (plain_at (second_load s i x).state ts))
second_advances s i x ts h at phase =
    let k = floor s s.head.length - cursor x in
    let t = turn_by (Seat i) (seat_call i Take) (second_load s i x) in
    let on : TakesOn x.phase = rw phase tt in
    let ends = reply_ends i t ts (own i t refl refl) in
    let has : HasAccount (plain_at s (t ∷ ts)) i x.account =
    seat_was s i x (t ∷ ts) at ∙ ap (λ (v : Option Account). Some v) (place_taking x.phase (reply_to i (t ∷ ts)) x.account on) ∙ ap (λ (r : Option Answer). Some (Some (with_reply r x.account))) ends in
    let gone = (rw phase at (h.phases.knows i x at)).1 in
    let size = h.slots.numbers.size in
    lose_advances s i x k ts h at has (omega arith) refl

pub seat_advances : (phase : SeatPhase) (call : SeatCall) (s : State) (i : ℕ) (x : views.Seat) (o : Outcome) (ts : List Turn) → x.phase ≡ phase → SeatActs phase call s i x o
    → Invariant s → slice_get s.seats i ≡ Some x → Pends o.state ts
    → (let t = turn_by (Seat i) (seat_call i call) o in Advances (acting t ts) (plain_at s (t ∷ ts)) (seat_call i call) (plain_at o.state ts))
seat_advances seating.Out (Attach n) s i x o ts phase acts h at = rw acts (λ pends. attach_advances s i x n ts h at phase)
seat_advances seating.Between Detach s i x o ts phase acts h at = rw acts (λ pends. detach_advances s i x ts h at phase)
seat_advances seating.Between Take s i x o ts phase acts h at = rw acts (first_advances s i x ts h at phase)
seat_advances seating.Found Take s i x o ts phase acts h at = rw acts (λ pends. goes_on_advances s i x (pin s i x) ts at (rw phase tt) (pin_goes s i x))
seat_advances seating.Holding Take s i x o ts phase acts h at = rw acts (λ pends. goes_on_advances s i x (read_length s i x) ts at (rw phase tt) (length_goes s i x))
seat_advances seating.Reading Take s i x o ts phase acts h at =
    rw acts (by_test (nat_lt (length x.read) x.length)
    (λ e. rw e (λ pends. goes_on_advances s i x (read_byte s i x) ts at (rw phase tt) (byte_goes s i x phase)))
    (λ e. rw e (λ pends. unpin_advances s i x ts at (rw phase tt))))
seat_advances seating.Failed Take s i x o ts phase acts h at = rw acts (λ pends. goes_on_advances s i x (unpin_failed s i x) ts at (rw phase tt) (unpin_failed_goes s i x))
seat_advances seating.Missed Take s i x o ts phase acts h at = rw acts (λ pends. second_advances s i x ts h at phase)
seat_advances phase call s i x o ts eq acts h at = absurd acts

-- a turn of the publisher leaves each seat's account
publisher_plain : (s : State) (t : Turn) (ts : List Turn) → t.actor ≡ P → plain_at s (t ∷ ts) ≡ plain_at s ts
publisher_plain s t ts by = ap (plain_of s.keep 0 (map packet_of s.log) s.publisher.closed) (places_skip 0 s.seats t ts (λ i low. not_publishers i t by))

publisher_step_advances : (phase : PublisherPhase) (call : PublisherCall) (s : State) (o : Outcome) (ts : List Turn) → s.publisher.phase ≡ phase → PublisherActs phase call s o → Invariant s
    → Advances (acting (turn_by P (publisher_call call) o) ts) (plain_at s ts) (publisher_call call) (plain_at o.state ts)
publisher_step_advances publishing.Between (Publish p) s o ts phase acts h =
    rw acts.1 (by_test (is_known s (word s (next_place s)))
    (λ e. rw e refl)
    (λ e. rw e (record { event = (acts.0, refl); accounts = refl; told = tt; keep = refl; packet_bytes = refl })))
publisher_step_advances publishing.Between Close s o ts phase acts h =
    rw acts.1 (record { event = (acts.0, refl); accounts = refl; told = tt; keep = refl; packet_bytes = refl })
publisher_step_advances publishing.Begun (Publish p) s o ts phase acts h = rw acts.1 refl
publisher_step_advances publishing.Filling (Publish p) s o ts phase acts h =
    rw acts.1 (by_test (nat_lt s.publisher.written (length s.publisher.packet)) (λ e. rw e refl) (λ e. rw e refl))
publisher_step_advances publishing.Finished (Publish p) s o ts phase acts h =
    rw acts.1 (record {
      event = (
        is_open s h phase s.publisher.closed refl,
        sym (length-map s.log packet_of),
        ap (λ (ps : List Packet). let l : Log = record { packets = ps; closed = s.publisher.closed; cursors = map (option_map cursor_of) (places 0 s.seats ts) } in l)
            (map-append packet_of s.log (s.publisher.packet ∷ []) ∙ ap (λ (q : List ℕ). map packet_of s.log ++ packet_of q ∷ []) acts.0),
      );
      accounts = refl;
      told = tt;
      keep = refl;
      packet_bytes = refl;
    })
publisher_step_advances phase call s o ts eq acts h = absurd acts

pub publisher_advances : (call : PublisherCall) (s : State) (o : Outcome) (ts : List Turn) → PublisherActs s.publisher.phase call s o → Invariant s
    → (let t = turn_by P (publisher_call call) o in Advances (acting t ts) (plain_at s (t ∷ ts)) (publisher_call call) (plain_at o.state ts))
publisher_advances call s o ts acts h =
    let t = turn_by P (publisher_call call) o in
    subst (λ (p : Plain). Advances (acting t ts) p (publisher_call call) (plain_at o.state ts)) (sym (publisher_plain s t ts refl))
    (publisher_step_advances s.publisher.phase call s o ts refl acts h)

-- a turn is that of its actor and its call
pub same_turn : (t : Turn) (actor : Actor) (call : Call) (s : State) → t.actor ≡ actor → t.call ≡ call → turn_by actor call (outcome_of s t) ≡ t
same_turn t actor call s by named = rw (← by, ← named) refl

move_advances : (actor : Actor) (calls : Calls) (old : At) (t : Turn) (new : At) (ts : List Turn) → t.actor ≡ actor → MoveBy actor calls old t new → Invariant old.ring
    → Pends new.ring ts → Advances (acting t ts) (plain_at old.ring (t ∷ ts)) t.call (plain_at new.ring ts)
move_advances P calls old t new ts by move h pends =
    subst (λ (u : Turn). Advances (acting u ts) (plain_at old.ring (u ∷ ts)) u.call (plain_at new.ring ts)) (same_turn t P (publisher_call move.call) new.ring by move.named)
    (publisher_advances move.call old.ring (outcome_of new.ring t) ts move.step h)
move_advances (Seat i) calls old t new ts by move h pends =
    subst (λ (u : Turn). Advances (acting u ts) (plain_at old.ring (u ∷ ts)) u.call (plain_at new.ring ts)) (same_turn t (Seat i) (seat_call i move.call) new.ring by move.named)
    (seat_advances move.step.view.phase move.call old.ring i move.step.view (outcome_of new.ring t) ts refl move.step.acts h move.step.there pends)

one_advance : (r : Option Answer) (n : ℕ) (t : Turn) (p q : Plain) (rest : List Acted) (end : Plain) → Advances r p t.call q
    → PlainRun q (map (λ (a : Acted). a.event) rest) end → PlainRun p (map (λ (a : Acted). a.event) (acted_at n t r ++ rest)) end
one_advance None n t p q rest end same run = let R : Plain → Type 0 = λ l. PlainRun l (map (λ (a : Acted). a.event) rest) end in subst R same run
one_advance (Some a) n t p q rest end event run = (q, event, run)

-- the calls that act in a run are a run of the plain log
pub ran_plain : (calls : Calls) (old : At) (turns : List Turn) (new : At) (n : ℕ) → Ran calls old turns new → Invariant old.ring
    → PlainRun (plain_at old.ring turns) (map (λ (a : Acted). a.event) (acted n turns)) (plain_at new.ring [])
ran_plain calls old [] new n ran h = ap (λ (a : At). plain_at a.ring []) ran
ran_plain calls old (t ∷ ts) new n ran h =
    let kept = move_keeps t.actor calls old t ran.0 ran.1 h in
    let pends = ran_pends calls ran.0 ts new ran.2 kept in
    one_advance (acting t ts) n t (plain_at old.ring (t ∷ ts)) (plain_at ran.0.ring ts) (acted (n + 1) ts) (plain_at new.ring [])
    (move_advances t.actor calls old t ran.0 ts refl ran.1 h pends) (ran_plain calls ran.0 ts new (n + 1) ran.2 kept)

places_empty : (k n : ℕ) (ts : List Turn) → places k (replicate n new_seat) ts ≡ replicate n None
places_empty k zero ts = refl
places_empty k (suc n) ts = ap (λ (ps : List (Option Account)). None ∷ ps) (places_empty (k + 1) n ts)

-- from the start on it is one of the empty plain log
pub history_plain : (calls : Calls) (keep seats : ℕ) (turns : List Turn) (end : At) → 1 ≤ keep → Ran calls (start keep seats) turns end
    → PlainRun (empty_plain keep seats 0) (history_of turns) (plain_at end.ring [])
history_plain calls keep seats turns end low ran =
    subst (λ (ps : List (Option Account)). PlainRun (plain_of keep 0 [] false ps) (history_of turns) (plain_at end.ring [])) (places_empty 0 seats turns)
    (ran_plain calls (start keep seats) turns end 0 ran (empty_keeps keep seats low))

-- and a legal history
pub history_legal : (calls : Calls) (keep seats : ℕ) (turns : List Turn) (end : At) → 1 ≤ keep → Ran calls (start keep seats) turns end
    → LegalHistory keep seats (history_of turns) (log_of (plain_at end.ring []))
history_legal calls keep seats turns end low ran =
    let empty : log_of (empty_plain keep seats 0) ≡ empty_log seats =
    ap (λ (cs : List (Option ℕ)). let log : Log = record { packets = []; closed = false; cursors = cs } in log) (map-replicate seats) in
    subst (λ (l : Log). Run keep l (history_of turns) (log_of (plain_at end.ring []))) empty
    (Run-log_of (empty_plain keep seats 0) (history_of turns) (plain_at end.ring []) (history_plain calls keep seats turns end low ran))

-- in which each player receives the log
pub history_players : (calls : Calls) (keep seats : ℕ) (turns : List Turn) (end : At) → 1 ≤ keep → Ran calls (start keep seats) turns end
    → PlayersReceive keep (history_of turns) (map packet_of end.ring.log)
history_players calls keep seats turns end low ran =
    players_receive keep seats (history_of turns) (log_of (plain_at end.ring [])) (history_legal calls keep seats turns end low ran)

-- in which each detachment tells its account
pub history_accounts : (calls : Calls) (keep seats : ℕ) (turns : List Turn) (end : At) → 1 ≤ keep → Ran calls (start keep seats) turns end → TellsAccounts (history_of turns)
history_accounts calls keep seats turns end low ran seat back from left before during after is stays =
    let now = plain_at end.ring [] in
    let middle : List Event = attached_at seat back from ∷ during ++ detached_with seat left ∷ [] in
    let run = subst (λ (es : List Event). PlainRun (empty_plain keep seats 0) es now) is (history_plain calls keep seats turns end low ran) in
    let first = PlainRun-split (empty_plain keep seats 0) (before ++ middle) after now run in
    let second = PlainRun-split (empty_plain keep seats 0) before middle first.0 first.1 in
    left_of_attachment seat back from during left second.0 first.0 second.2 stays
