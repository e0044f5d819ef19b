-- Reads in place change nothing and see the packet; the writes of a packet, or its reads, come to one move, which keeps the
-- invariant; the slot invariant doesn't go by how far takes have read.
use Rattle.std.proofs.Common.{◌≡◌, ℕ, zero, suc, ◌+◌, ◌%◌, ◌≤◌, true, Some, List, [], ◌∷◌, ◌++◌, length, map, take, drop, append-nil, append_assoc, replicate, refl, sym, ◌∙◌, ap, subst, inl, inr, arith, slice_get, slice_set, slice_index_or, nat_lt}
use Rattle.std.specs.Prelude.{◌↔◌}
use Rattle.std.proofs.Math.Seq.{get_or-append_seam}
use Rattle.std.proofs.lemmas.List.{get_or-take, length-append, length_push, set-set}
use Rattle.std.proofs.lemmas.Option.{same_Some}
use Rattle.cursor.proofs.Counting.{read_place}
use Rattle.ring_steps.specs.declared.calls.Observed.{Observed}
use Rattle.ring_steps.specs.declared.calls.Observed.TheVariants as saw
use Rattle.ring_steps.specs.declared.calls.PublisherCall.TheVariants.{Publish}
use Rattle.ring_steps.specs.declared.calls.SeatCall.TheVariants.{Take}
use Rattle.ring_steps.specs.declared.views.Publisher.{Publisher}
use Rattle.ring_steps.specs.declared.views.PublisherPhase.TheVariants as publishing
use Rattle.ring_steps.specs.declared.views.Seat.{Seat}
use Rattle.ring_steps.specs.declared.views.SeatPhase.{SeatPhase}
use Rattle.ring_steps.specs.declared.views.SeatPhase.TheVariants as seating
use Rattle.ring_steps.specs.declared.words.Slot.{Slot}
use Rattle.ring_steps.specs.Moves.{IsCellOf, ReadsInPlace, Steps, but_read, part_seen, read_all, rest_of, without_progress, write_all}
use Rattle.ring_steps.specs.Ring.{State, cursor, place, put, slot, with_publisher, with_seat, with_slot}
use Rattle.ring_steps.specs.RingSteps.{By, Cell, ReadStep, by_publisher, by_seat, byte_cell, cell_seen, length_cell}
use Rattle.ring_steps.specs.Slots.{HasNumber, Invariant, IsHolding, Numbers, PublisherIs, SeatHolds, SeatIs, SlotInvariant, pin_of, pins_of}
use Rattle.ring_steps.specs.Step.{Outcome, next_place, read_byte, read_length, write_byte, write_length}
use Rattle.ring_steps.proofs.Begins.{next_here}
use Rattle.ring_steps.proofs.Places.{lt_tells}
use Rattle.ring_steps.proofs.Reading.{own_packet}
use Rattle.ring_steps.proofs.Stepping.{ring_step_keeps}

-- reads in place change nothing
pub reads_nothing : (s : State) (i : ℕ) (cells : List Cell) (seen : List Observed) (t : State) → ReadsInPlace s i cells seen t → t ≡ s
reads_nothing s i [] [] t reads = reads
reads_nothing s i [] (now ∷ later) t reads = absurd reads
reads_nothing s i (cell ∷ cells) [] t reads = absurd reads
reads_nothing s i (cell ∷ cells) (now ∷ later) t reads =
    reads_nothing reads.0 i cells later t reads.2 ∙ ap (λ (o : Outcome). o.state) reads.1.acts

-- what a slot has of the packet that stands in it
part_stands : (x : Slot) (p : List ℕ) (cell : Cell) → x.len ≡ length p → take (length p) x.bytes ≡ p → IsCellOf p cell → cell_seen x cell ≡ part_seen p cell
part_stands x p length_cell len bytes is = ap saw.Length len
part_stands x p (byte_cell k) len bytes is =
    ap saw.Byte (sym (ap (λ (q : List ℕ). slice_index_or q k 0) (sym bytes) ∙ get_or-take (length p) x.bytes k 0 is))

-- the packet that a seat holds stands in its slot
held_packet : (s : State) (i : ℕ) (x : Seat) (p : List ℕ) → SeatHolds s i x → slice_get s.log (cursor x) ≡ Some p
    → ((slot s (place s (cursor x))).len ≡ length p) × (take (length p) (slot s (place s (cursor x))).bytes ≡ p)
held_packet s i x p holds at =
    let own = own_packet s i x holds.sound holds.there holds.holds in
    let same : own.packet ≡ p = same_Some own.packet p (sym own.there ∙ at) in
    (own.len ∙ ap (λ (q : List ℕ). length q) same, subst (λ (q : List ℕ). take (length q) (slot s (place s (cursor x))).bytes ≡ q) same own.bytes)

pub reads_packet : (s : State) (i : ℕ) (x : Seat) (p : List ℕ) (cell : Cell) (o : Outcome) → SeatHolds s i x → slice_get s.log (cursor x) ≡ Some p → IsCellOf p cell → ReadStep s i cell o
    → o.saw ≡ part_seen p cell
reads_packet s i x p cell o holds at is step =
    let same : step.view ≡ x = same_Some step.view x (sym step.there ∙ holds.there) in
    let stands = held_packet s i x p holds at in
    ap (λ (q : Outcome). q.saw) step.acts ∙ ap (λ (z : Seat). cell_seen (slot s (place s (cursor z))) cell) same
    ∙ part_stands (slot s (place s (cursor x))) p cell stands.0 stands.1 is

-- steps keep the invariant
steps_keep : (s : State) (bys : List By) (t : State) → Steps s bys t → Invariant s → Invariant t
steps_keep s [] t steps h = rw steps h
steps_keep s (by ∷ later) t steps h = steps_keep steps.0.state later t steps.3 (ring_step_keeps s by steps.0 steps.1 h)

-- a write after the front of some bytes
set_seam : (front : List ℕ) (y b : ℕ) (ys : List ℕ) → slice_set (front ++ y ∷ ys) (length front) b ≡ front ++ b ∷ ys
set_seam [] y b ys = refl
set_seam (x ∷ front) y b ys = ap (λ (zs : List ℕ). x ∷ zs) (set_seam front y b ys)

put_seam : (front tail : List ℕ) (b : ℕ) → put (front ++ tail) (length front) b ≡ (front ++ b ∷ []) ++ drop 1 tail
put_seam front [] b = elim (lt_tells (length front) (length (front ++ []))) [
  | inl e ↦ absurd (let size = length-append {A = ℕ} front [] in let below = e.1 in omega arith)
  | inr e ↦ rw e.0 (ap (λ (zs : List ℕ). zs ++ b ∷ []) (append-nil front) ∙ sym (append-nil (front ++ b ∷ [])))
]
put_seam front (y ∷ ys) b = elim (lt_tells (length front) (length (front ++ y ∷ ys))) [
  | inl e ↦ rw e.0 (set_seam front y b ys ∙ sym (append_assoc front (b ∷ []) ys))
  | inr e ↦ absurd (let size = length-append front (y ∷ ys) in let past = e.1 in omega arith)
]

drop_one : (k : ℕ) (xs : List ℕ) → drop 1 (drop k xs) ≡ drop (suc k) xs
drop_one zero [] = refl
drop_one zero (x ∷ xs) = refl
drop_one (suc k) [] = refl
drop_one (suc k) (x ∷ xs) = drop_one k xs

-- the slot and the state after the front of the packet is written
abbrev pub written : State → (front : List ℕ) → Slot
written s front = let x = slot s (next_place s) in record x { len = length s.publisher.packet; bytes = front ++ drop (length front) x.bytes }

abbrev pub writing : State → (front : List ℕ) → State
writing s front = with_publisher (with_slot s (next_place s) (written s front)) (record s.publisher { phase = publishing.Filling; written = length front })

one_written : (s : State) (front : List ℕ) (b : ℕ) (rest : List ℕ) → Invariant s → s.publisher.packet ≡ front ++ b ∷ rest → (write_byte (writing s front)).state ≡ writing s (front ++ b ∷ [])
one_written s front b rest h is =
    let u = writing s front in
    let j = next_place s in
    let x = slot s j in
    let k = length front in
    let p = s.publisher.packet in
    let q : Publisher = record u.publisher { written = k + 1 } in
    let byte : slice_index_or p k 0 ≡ b = ap (λ (ys : List ℕ). slice_index_or ys k 0) is ∙ get_or-append_seam front b rest 0 in
    let size : k + 1 ≡ length (front ++ b ∷ []) = sym (length_push front b) in
    let next : suc k ≡ length (front ++ b ∷ []) = omega arith in
    let bytes : put (front ++ drop k x.bytes) k (slice_index_or p k 0) ≡ (front ++ b ∷ []) ++ drop (length (front ++ b ∷ [])) x.bytes =
    ap (λ (c : ℕ). put (front ++ drop k x.bytes) k c) byte ∙ put_seam front (drop k x.bytes) b
    ∙ ap (λ (ys : List ℕ). (front ++ b ∷ []) ++ ys) (drop_one k x.bytes ∙ ap (λ n. drop n x.bytes) next) in
    ap (λ (z : Slot). with_publisher (with_slot u j (record z { bytes = put z.bytes k (slice_index_or p k 0) })) q) (next_here s (written s front) h)
    ∙ ap (λ (ys : List ℕ). with_publisher (with_slot u j (record x { len = length p; bytes = ys })) q) bytes
    ∙ ap (λ (zs : List Slot). let t : State = record u { slots = zs; publisher = q } in t) (set-set s.slots j (written s front) (written s (front ++ b ∷ [])))
    ∙ ap (λ (n : ℕ). with_publisher (with_slot s j (written s (front ++ b ∷ []))) (record u.publisher { written = n })) size

-- the front of a longer list is shorter
shorter : (p front : List ℕ) (b : ℕ) (rest : List ℕ) → p ≡ front ++ b ∷ rest → nat_lt (length front) (length p) ≡ true
shorter p front b rest is = elim (lt_tells (length front) (length p)) [
  | inl e ↦ e.0
  | inr e ↦ absurd (let size = ap (λ (ys : List ℕ). length ys) is ∙ length-append front (b ∷ rest) in let past = e.1 in omega arith)
]

writes_on : (s : State) (front rest : List ℕ) → Invariant s → s.publisher.packet ≡ front ++ rest
    → Steps (writing s front) (replicate (length rest) (by_publisher (Publish s.publisher.packet))) (writing s s.publisher.packet)
writes_on s front [] h is = ap (writing s) (is ∙ append-nil front)
writes_on s front (b ∷ rest) h is =
    let u = writing s front in
    let p = s.publisher.packet in
    let more = writes_on s (front ++ b ∷ []) rest h (is ∙ sym (append_assoc front (b ∷ []) rest)) in
    let test = shorter p front b rest is in (
      write_byte u,
      (refl, rw test refl),
      refl,
      subst (λ (v : State). Steps v (replicate (length rest) (by_publisher (Publish p))) (writing s p)) (sym (one_written s front b rest h is)) more,
    )

pub write_all_steps : (s : State) → PublisherIs publishing.Begun s → (let p = s.publisher.packet in Steps s (replicate (length p + 1) (by_publisher (Publish p))) (write_all s))
write_all_steps s is =
    let p = s.publisher.packet in
    let phase = is.within in
    let none : s.publisher.written ≡ 0 = rw phase at is.sound.phases.did in
    let one : length p + 1 ≡ suc (length p) = omega arith in
    let begins : (write_length s).state ≡ writing s [] =
    ap (λ (n : ℕ). with_publisher (with_slot s (next_place s) (record (slot s (next_place s)) { len = length p })) (record s.publisher { phase = publishing.Filling; written = n })) none in
    rw one (
      write_length s,
      (rw phase (refl, refl)),
      refl,
      subst (λ (v : State). Steps v (replicate (length p) (by_publisher (Publish p))) (write_all s)) (sym begins) (writes_on s [] p is.sound refl),
    )

pub write_all_keeps : (s : State) → PublisherIs publishing.Begun s → Invariant (write_all s)
write_all_keeps s is = steps_keep s _ (write_all s) (write_all_steps s is) is.sound

-- after the front of the packet is read
abbrev pub reading : State → (seat : ℕ) → Seat → (packet front : List ℕ) → State
reading s i x p front = with_seat s i (record x { phase = seating.Reading; length = length p; read = front })

reads_on : (s : State) (i : ℕ) (x : Seat) (p front rest : List ℕ) → slice_get s.seats i ≡ Some x → take (length p) (slot s (place s (cursor x))).bytes ≡ p → p ≡ front ++ rest
    → Steps (reading s i x p front) (replicate (length rest) (by_seat i Take)) (read_all s i x p)
reads_on s i x p front [] at stands is = ap (λ (ys : List ℕ). reading s i x p ys) (is ∙ append-nil front)
reads_on s i x p front (b ∷ rest) at stands is =
    let u = reading s i x p front in
    let y : Seat = record x { phase = seating.Reading; length = length p; read = front } in
    let bytes = (slot s (place s (cursor x))).bytes in
    let k = length front in
    let test = shorter p front b rest is in
    let size = ap (λ (ys : List ℕ). length ys) is ∙ length-append front (b ∷ rest) in
    let byte : slice_index_or bytes k 0 ≡ b =
    sym (ap (λ (q : List ℕ). slice_index_or q k 0) (sym stands) ∙ get_or-take (length p) bytes k 0 (omega arith)) ∙ ap (λ (ys : List ℕ). slice_index_or ys k 0) is ∙ get_or-append_seam front b rest 0 in
    let after : (read_byte u i y).state ≡ reading s i x p (front ++ b ∷ []) =
    ap (λ (xs : List Seat). let t : State = record s { seats = xs } in t) (set-set s.seats i y (record y { read = front ++ slice_index_or bytes k 0 ∷ [] }))
    ∙ ap (λ (c : ℕ). reading s i x p (front ++ c ∷ [])) byte in
    let more = reads_on s i x p (front ++ b ∷ []) rest at stands (is ∙ sym (append_assoc front (b ∷ []) rest)) in (
      read_byte u i y,
      record { view = y; there = read_place s.seats i x y at; acts = rw test refl },
      refl,
      subst (λ (v : State). Steps v (replicate (length rest) (by_seat i Take)) (read_all s i x p)) (sym after) more,
    )

pub read_all_steps : (s : State) (i : ℕ) (x : Seat) (p : List ℕ) → SeatIs seating.Holding s i x → slice_get s.log (cursor x) ≡ Some p
    → Steps s (replicate (length p + 1) (by_seat i Take)) (read_all s i x p)
read_all_steps s i x p is at =
    let phase = is.within in
    let stands = held_packet s i x p (record { sound = is.sound; there = is.there; holds = rw phase tt }) at in
    let one : length p + 1 ≡ suc (length p) = omega arith in
    let begins : (read_length s i x).state ≡ reading s i x p [] = ap (λ (n : ℕ). with_seat s i (record x { phase = seating.Reading; length = n; read = [] })) stands.0 in
    rw one (
      read_length s i x,
      record { view = x; there = is.there; acts = rw phase refl },
      refl,
      subst (λ (v : State). Steps v (replicate (length p) (by_seat i Take)) (read_all s i x p)) (sym begins) (reads_on s i x p [] p is.there stands.1 refl),
    )

pub read_all_keeps : (s : State) (i : ℕ) (x : Seat) (p : List ℕ) → SeatIs seating.Holding s i x → slice_get s.log (cursor x) ≡ Some p → Invariant (read_all s i x p)
read_all_keeps s i x p is at = steps_keep s _ (read_all s i x p) (read_all_steps s i x p is at) is.sound

-- a view changes but for its progress as it was
set_rest : (xs : List Seat) (i : ℕ) (x y : Seat) → slice_get xs i ≡ Some x → without_progress y ≡ without_progress x → map without_progress (slice_set xs i y) ≡ map without_progress xs
set_rest [] i x y at e = refl
set_rest (z ∷ xs) zero x y at e = let same : z ≡ x = cc in ap (λ (w : Seat). w ∷ map without_progress xs) (e ∙ ap without_progress (sym same))
set_rest (z ∷ xs) (suc i) x y at e = ap (λ (ws : List Seat). without_progress z ∷ ws) (set_rest xs i x y at e)

view_rest : (s : State) (i : ℕ) (x y : Seat) → slice_get s.seats i ≡ Some x → without_progress y ≡ without_progress x → rest_of (with_seat s i y) ≡ rest_of s
view_rest s i x y at e = ap (λ (xs : List Seat). let t : State = record s { seats = xs } in t) (set_rest s.seats i x y at e)

pub length_rest : (s : State) (i : ℕ) (x : Seat) → SeatIs seating.Holding s i x → rest_of (read_length s i x).state ≡ rest_of s
length_rest s i x is = let phase = is.within in view_rest s i x _ is.there (rw phase refl)

pub byte_rest : (s : State) (i : ℕ) (x : Seat) → SeatIs seating.Reading s i x → rest_of (read_byte s i x).state ≡ rest_of s
byte_rest s i x is = view_rest s i x _ is.there refl

but_read_pins : (phase : SeatPhase) (at j : ℕ) → pin_of (but_read phase) at j ≡ pin_of phase at j
but_read_pins seating.Out at j = refl
but_read_pins seating.Between at j = refl
but_read_pins seating.Found at j = refl
but_read_pins seating.Holding at j = refl
but_read_pins seating.Reading at j = refl
but_read_pins seating.Failed at j = refl
but_read_pins seating.Missed at j = refl

but_read_holds : (phase : SeatPhase) → IsHolding (but_read phase) ↔ IsHolding phase
but_read_holds seating.Out = (λ h. h, λ h. h)
but_read_holds seating.Between = (λ h. h, λ h. h)
but_read_holds seating.Found = (λ h. h, λ h. h)
but_read_holds seating.Holding = (λ h. h, λ h. h)
but_read_holds seating.Reading = (λ h. h, λ h. h)
but_read_holds seating.Failed = (λ h. h, λ h. h)
but_read_holds seating.Missed = (λ h. h, λ h. h)

rest_pins : (k : ℕ) (xs : List Seat) (j : ℕ) → pins_of k (map without_progress xs) j ≡ pins_of k xs j
rest_pins k [] j = refl
rest_pins k (x ∷ xs) j =
    ap (λ n. n + pins_of k (map without_progress xs) j) (but_read_pins x.phase (cursor x % (k + 1)) j) ∙ ap (λ n. pin_of x.phase (cursor x % (k + 1)) j + n) (rest_pins k xs j)

-- of each view without its progress, and back
each_rest : (P : Seat → Type 0) (xs : List Seat) → ((x : Seat) → P x → P (without_progress x)) → ((i : ℕ) (x : Seat) → slice_get xs i ≡ Some x → P x)
    → (i : ℕ) (y : Seat) → slice_get (map without_progress xs) i ≡ Some y → P y
each_rest P [] on all i y at = absurd (cc)
each_rest P (x ∷ xs) on all zero y at = let same : without_progress x ≡ y = cc in subst P same (on x (all zero x refl))
each_rest P (x ∷ xs) on all (suc i) y at = each_rest P xs on (λ n z h. all (suc n) z h) i y at

each_back : (P : Seat → Type 0) (xs : List Seat) → ((x : Seat) → P (without_progress x) → P x) → ((i : ℕ) (y : Seat) → slice_get (map without_progress xs) i ≡ Some y → P y)
    → (i : ℕ) (x : Seat) → slice_get xs i ≡ Some x → P x
each_back P [] back all i x at = absurd (cc)
each_back P (z ∷ xs) back all zero x at = let same : z ≡ x = cc in subst P same (back z (all zero (without_progress z) refl))
each_back P (z ∷ xs) back all (suc i) x at = each_back P xs back (λ n w h. all (suc n) w h) i x at

-- what the slot invariant says of each view
abbrev pub Held : State → Seat → Type 0
Held s x = IsHolding x.phase → HasNumber s (place s (cursor x)) (cursor x)

abbrev pub Seen : State → Seat → Type 0
Seen s x = (x.seen ≤ length s.log) × (x.saw_closed ≡ true → (x.seen ≡ length s.log) × (s.publisher.closed ≡ true))

same_numbers : (s t : State) → Numbers s → t.keep ≡ s.keep → t.head ≡ s.head → t.slots ≡ s.slots → t.log ≡ s.log → t.publisher ≡ s.publisher → Numbers t
same_numbers s t h keep head slots log publisher =
    let same : record s { seats = t.seats } ≡ t = rw (← keep, ← head, ← slots, ← log, ← publisher) refl in
    subst Numbers same (record { size = h.size; closed = h.closed; kept = h.kept; next = h.next; fresh = h.fresh })

pub slots_rest : (s : State) → SlotInvariant s ↔ SlotInvariant (rest_of s)
slots_rest s = (
  λ h. record {
    pins = λ j within. h.pins j within ∙ sym (rest_pins s.keep s.seats j);
    writing = h.writing;
    numbers = same_numbers s (rest_of s) h.numbers refl refl refl refl refl;
    packets = h.packets;
    held = each_rest (Held s) s.seats (λ x was holds. was ((but_read_holds x.phase).0 holds)) h.held;
    overtaken = h.overtaken;
    seen = each_rest (Seen s) s.seats (λ x was. was) h.seen;
  },
  λ h. record {
    pins = λ j within. h.pins j within ∙ rest_pins s.keep s.seats j;
    writing = h.writing;
    numbers = same_numbers (rest_of s) s h.numbers refl refl refl refl refl;
    packets = h.packets;
    held = each_back (Held s) s.seats (λ x was holds. was ((but_read_holds x.phase).1 holds)) h.held;
    overtaken = h.overtaken;
    seen = each_back (Seen s) s.seats (λ x was. was) h.seen;
  },
)
