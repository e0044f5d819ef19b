-- An answered step is an event of the broadcast log: the publisher's of the log that the ring is, a seat's of the log that its
-- last load saw; a step without an answer leaves the log as it is.
use Rattle.std.proofs.Common.{◌≡◌, ℕ, zero, suc, ◌+◌, ◌-◌, ◌<◌, ◌≤◌, true, false, Bool, Some, None, Option, List, [], ◌∷◌, ◌++◌, length, map, take, slice_get, slice_set, refl, sym, ◌∙◌, ap, arith, inl, inr, nat_lt}
use Rattle.std.specs.Prelude.{if◌then◌else◌, option_map}
use Rattle.std.proofs.lemmas.Bool.Decides.{eqb_tells}
use Rattle.std.proofs.lemmas.List.{map-set, map-append, length-map, take_all}
use Rattle.std.proofs.lemmas.Option.{slice_get-map}
use Rattle.cursor.specs.declared.packets.Packet.{Packet}
use Rattle.cursor.specs.declared.calls.Answer.TheVariants.{Taken}
use Rattle.cursor.specs.declared.takes.Delivery.TheVariants.{Empty, Ended}
use Rattle.cursor.proofs.Counting.{read_place}
use Rattle.cursor.specs.Log.{Log, LogEvent, back_from, with_cursor}
use Rattle.ring_steps.specs.declared.calls.PublisherCall.{PublisherCall}
use Rattle.ring_steps.specs.declared.calls.PublisherCall.TheVariants.{Publish, Close}
use Rattle.ring_steps.specs.declared.calls.SeatCall.{SeatCall}
use Rattle.ring_steps.specs.declared.calls.SeatCall.TheVariants.{Attach, Take, Detach}
use Rattle.ring_steps.specs.declared.views.Seat.{Seat}
use Rattle.ring_steps.specs.declared.views.PublisherPhase.{PublisherPhase}
use Rattle.ring_steps.specs.declared.views.PublisherPhase.TheVariants as publishing
use Rattle.ring_steps.specs.declared.views.SeatPhase.{SeatPhase}
use Rattle.ring_steps.specs.declared.views.SeatPhase.TheVariants as seating
use Rattle.ring_steps.specs.Ring.{State, word, place, floor, cursor}
use Rattle.ring_steps.specs.Step.{Outcome, PublisherActs, SeatActs, is_known, next_place, loaded, lose, end_take, first_load, holds, unpin}
use Rattle.ring_steps.specs.Slots.{Invariant}
use Rattle.ring_steps.specs.Answers.{PublisherTells, SeatTells, log_seen, packet_of, seat_call, seat_cursor}
use Rattle.ring_steps.proofs.Places.{by_test, lt_tells}
use Rattle.ring_steps.proofs.Writing.{is_open}

pub publisher_tells : (phase : PublisherPhase) (call : PublisherCall) (s : State) (o : Outcome) → s.publisher.phase ≡ phase → PublisherActs phase call s o → Invariant s
    → PublisherTells s call o.answer o.state
publisher_tells publishing.Between (Publish p) s o phase acts h =
    rw acts.1 (by_test (is_known s (word s (next_place s)))
    (λ e. rw e refl)
    (λ e. rw e (acts.0, refl)))
publisher_tells publishing.Between Close s o phase acts h = rw acts.1 (acts.0, refl)
publisher_tells publishing.Begun (Publish p) s o phase acts h = rw acts.1 refl
publisher_tells publishing.Filling (Publish p) s o phase acts h =
    rw acts.1 (by_test (nat_lt s.publisher.written (length s.publisher.packet)) (λ e. rw e refl) (λ e. rw e refl))
publisher_tells publishing.Finished (Publish p) s o phase acts h =
    rw (acts.1) (
      is_open s h phase s.publisher.closed refl,
      sym (length-map s.log packet_of),
      ap (λ (ps : List Packet). let l : Log = record { packets = ps; closed = s.publisher.closed; cursors = map seat_cursor s.seats } in l)
          (map-append packet_of s.log (s.publisher.packet ∷ []) ∙ ap (λ (q : List ℕ). map packet_of s.log ++ packet_of q ∷ []) acts.0),
    )
publisher_tells phase call s o eq acts h = absurd acts

-- a seat's cursor in the list of cursors
pub at_cursor : (xs : List Seat) (i : ℕ) (x : Seat) → slice_get xs i ≡ Some x → slice_get (map seat_cursor xs) i ≡ Some (seat_cursor x)
at_cursor xs i x at = slice_get-map seat_cursor xs i ∙ ap (option_map seat_cursor) at

-- a log with these packets, and the cursors of these seats
abbrev pub log_with : List Packet → Bool → List Seat → Log
log_with ps closed seats = record { packets = ps; closed = closed; cursors = map seat_cursor seats }

-- one view changes, and with it one cursor
pub set_cursor : (ps : List Packet) (closed : Bool) (xs : List Seat) (i : ℕ) (y : Seat) (v : Option ℕ) → seat_cursor y ≡ v
    → log_with ps closed (slice_set xs i y) ≡ with_cursor (log_with ps closed xs) i v
set_cursor ps closed xs i y v e =
    ap (λ (cs : List (Option ℕ)). let l : Log = record { packets = ps; closed = closed; cursors = cs } in l)
    (map-set seat_cursor xs i y ∙ ap (λ (w : Option ℕ). slice_set (map seat_cursor xs) i w) e)

-- one view changes, and its cursor doesn't
pub same_cursors : (xs : List Seat) (i : ℕ) (x y : Seat) → slice_get xs i ≡ Some x → seat_cursor y ≡ seat_cursor x → map seat_cursor (slice_set xs i y) ≡ map seat_cursor xs
same_cursors [] i x y at e = refl
same_cursors (z ∷ xs) zero x y at e = let same : z ≡ x = cc in ap (λ (v : Option ℕ). v ∷ map seat_cursor xs) (e ∙ ap seat_cursor (sym same))
same_cursors (z ∷ xs) (suc i) x y at e = ap (λ (vs : List (Option ℕ)). seat_cursor z ∷ vs) (same_cursors xs i x y at e)

pub same_log : (ps : List Packet) (closed : Bool) (xs : List Seat) (i : ℕ) (x y : Seat) → slice_get xs i ≡ Some x → seat_cursor y ≡ seat_cursor x
    → log_with ps closed (slice_set xs i y) ≡ log_with ps closed xs
same_log ps closed xs i x y at e =
    ap (λ (cs : List (Option ℕ)). let l : Log = record { packets = ps; closed = closed; cursors = cs } in l) (same_cursors xs i x y at e)

pub length_taken : (n : ℕ) (xs : List (List ℕ)) → n ≤ length xs → length (take n xs) ≡ n
length_taken zero xs h = refl
length_taken (suc n) [] h = absurd (omega arith)
length_taken (suc n) (x ∷ xs) h = ap suc (length_taken n xs (omega arith))

pub get_taken : (n : ℕ) (xs : List (List ℕ)) (c : ℕ) → c < n → slice_get (take n xs) c ≡ slice_get xs c
get_taken zero xs c h = absurd (omega arith)
get_taken (suc n) [] c h = refl
get_taken (suc n) (x ∷ xs) zero h = refl
get_taken (suc n) (x ∷ xs) (suc c) h = get_taken n xs c (omega arith)

-- how many packets a load saw
pub size_seen : (log : List (List ℕ)) (n : ℕ) → n ≤ length log → length (map packet_of (take n log)) ≡ n
size_seen log n within = length-map (take n log) packet_of ∙ length_taken n log within

-- at the end of a log a take is empty or ended, as the log is closed
pub end_event : (keep : ℕ) (l m : Log) (i : ℕ) (b : Bool) → slice_get l.cursors i ≡ Some (Some (length l.packets)) → l.closed ≡ b → m ≡ l
    → LogEvent keep l (seat_call i Take) (Taken (if b then Ended else Empty)) m
end_event keep l m i true there c e = (there, c, e)
end_event keep l m i false there c e = (there, c, e)

pub end_tells : (s : State) (i : ℕ) (x : Seat) → Invariant s → slice_get s.seats i ≡ Some x → x.phase ≡ seating.Between → s.head.length ≡ cursor x
    → SeatTells s i Take (end_take s i x).answer (end_take s i x).state
end_tells s i x h at phase e =
    let y = loaded s x in
    let within : s.head.length ≤ length s.log = let size = h.slots.numbers.size in omega arith in
    let there = at_cursor s.seats i x at ∙ rw phase (ap (λ (n : ℕ). Some (Some n)) (sym e ∙ sym (size_seen s.log s.head.length within))) in (
      y,
      read_place s.seats i x y at,
      end_event s.keep (log_seen s y) _ i s.head.closed there refl (same_log (map packet_of (take s.head.length s.log)) s.head.closed s.seats i x y at refl),
    )

pub lose_tells : (s : State) (i : ℕ) (x : Seat) (k : ℕ) → Invariant s → slice_get s.seats i ≡ Some x → seat_cursor x ≡ Some (cursor x)
    → cursor x < floor s s.head.length → k ≡ floor s s.head.length - cursor x → SeatTells s i Take (lose s i x k).answer (lose s i x k).state
lose_tells s i x k h at attached below count =
    let y : Seat = record (loaded s x) { phase = seating.Between; account = record x.account { lost = x.account.lost + k } } in
    let within : s.head.length ≤ length s.log = let size = h.slots.numbers.size in omega arith in
    let size = size_seen s.log s.head.length within in
    let moved : cursor y ≡ cursor x + k = omega arith in (
      y,
      read_place s.seats i x y at,
      (
        cursor x,
        at_cursor s.seats i x at ∙ ap (λ (v : Option ℕ). Some v) attached,
        omega arith,
        omega arith,
        set_cursor (map packet_of (take s.head.length s.log)) s.head.closed s.seats i y (Some (cursor x + k)) (ap (λ (n : ℕ). Some n) moved),
      ),
    )

pub first_tells : (s : State) (i : ℕ) (x : Seat) → Invariant s → slice_get s.seats i ≡ Some x → x.phase ≡ seating.Between
    → SeatTells s i Take (first_load s i x).answer (first_load s i x).state
first_tells s i x h at phase =
    elim (eqb_tells s.head.length (cursor x)) [
      | inl e ↦ rw e.0 (end_tells s i x h at phase e.1)
      | inr e ↦ rw e.0 (elim (lt_tells (cursor x) (floor s s.head.length)) [
        | inl l ↦ rw l.0 (lose_tells s i x _ h at (rw phase refl) l.1 refl)
        | inr l ↦ rw l.0 (same_log (map packet_of s.log) s.publisher.closed s.seats i x _ at (rw phase refl))
      ])
    ]

-- the answer of a take that read the whole packet
pub unpin_tells : (s : State) (i : ℕ) (x : Seat) → Invariant s → slice_get s.seats i ≡ Some x → x.phase ≡ seating.Reading → x.length ≤ length x.read
    → SeatTells s i Take (unpin s i x).answer (unpin s i x).state
unpin_tells s i x h at phase whole =
    let y : Seat = record x { phase = seating.Between; account = record x.account { taken = x.account.taken + 1 } } in
    let knows = rw phase at (h.phases.knows i x at) in
    let below = knows.0 in
    let kept = knows.1.0 in
    let read = knows.1.1 in
    let seen = (h.slots.seen i x at).0 in
    let size = size_seen s.log x.seen seen in
    let wide = read.size in
    let same : x.read ≡ read.packet = read.same ∙ take_all (length x.read) read.packet (omega arith) in
    let moved : cursor y ≡ cursor x + 1 = omega arith in
    let packet : slice_get (map packet_of (take x.seen s.log)) (cursor x) ≡ Some (packet_of x.read) =
    slice_get-map packet_of (take x.seen s.log) (cursor x)
    ∙ ap (option_map packet_of) (get_taken x.seen s.log (cursor x) below ∙ read.there)
    ∙ ap (λ (q : List ℕ). Some (packet_of q)) (sym same) in (
      y,
      read_place s.seats i x y at,
      (
        at_cursor s.seats i x at ∙ rw phase refl,
        omega arith,
        packet,
        set_cursor (map packet_of (take x.seen s.log)) x.saw_closed s.seats i y (Some (cursor x + 1)) (ap (λ (n : ℕ). Some n) moved),
      ),
    )

pub seat_tells : (phase : SeatPhase) (call : SeatCall) (s : State) (i : ℕ) (x : Seat) (o : Outcome) → x.phase ≡ phase → SeatActs phase call s i x o
    → Invariant s → slice_get s.seats i ≡ Some x → SeatTells s i call o.answer o.state
seat_tells seating.Out (Attach n) s i x o phase acts h at =
    let from : ℕ → ℕ = back_from s.keep n in
    let y : Seat = record (loaded s x) { phase = seating.Between; account = record { start = from s.head.length; taken = 0; lost = 0 } } in
    let within : s.head.length ≤ length s.log = let size = h.slots.numbers.size in omega arith in
    let size = size_seen s.log s.head.length within in
    let start : cursor y ≡ from s.head.length = omega arith in
    rw acts (
      y,
      read_place s.seats i x y at,
      (
        at_cursor s.seats i x at ∙ rw phase refl,
        ap from (sym size),
        set_cursor (map packet_of (take s.head.length s.log)) s.head.closed s.seats i y (Some (from s.head.length)) (ap (λ (m : ℕ). Some m) start),
      ),
    )
seat_tells seating.Between Detach s i x o phase acts h at =
    let y : Seat = record (loaded s x) { phase = seating.Out } in
    let within : s.head.length ≤ length s.log = let size = h.slots.numbers.size in omega arith in
    let size = size_seen s.log s.head.length within in
    rw acts (
      y,
      read_place s.seats i x y at,
      (
        cursor x,
        at_cursor s.seats i x at ∙ rw phase refl,
        omega arith,
        set_cursor (map packet_of (take s.head.length s.log)) s.head.closed s.seats i y None refl,
      ),
    )
seat_tells seating.Between Take s i x o phase acts h at = rw acts (first_tells s i x h at phase)
seat_tells seating.Found Take s i x o phase acts h at =
    rw acts (same_log (map packet_of s.log) s.publisher.closed s.seats i x _ at
    (by_test (holds (word s (place s (cursor x))) (cursor x)) (λ e. rw (e, phase) refl) (λ e. rw (e, phase) refl)))
seat_tells seating.Holding Take s i x o phase acts h at = rw acts (same_log (map packet_of s.log) s.publisher.closed s.seats i x _ at (rw phase refl))
seat_tells seating.Reading Take s i x o phase acts h at =
    rw acts (elim (lt_tells (length x.read) x.length) [
      | inl e ↦ rw e.0 (same_log (map packet_of s.log) s.publisher.closed s.seats i x _ at (rw phase refl))
      | inr e ↦ rw e.0 (unpin_tells s i x h at phase e.1)
    ])
seat_tells seating.Failed Take s i x o phase acts h at = rw acts (same_log (map packet_of s.log) s.publisher.closed s.seats i x _ at (rw phase refl))
seat_tells seating.Missed Take s i x o phase acts h at =
    let gone = (rw phase at (h.phases.knows i x at)).1 in
    let size = h.slots.numbers.size in
    rw acts (lose_tells s i x _ h at (rw phase refl) (omega arith) refl)
seat_tells phase call s i x o eq acts h at = absurd acts
