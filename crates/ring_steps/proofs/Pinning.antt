-- A pin and both kinds of unpin keep the invariant: pins are still counted; where a pin fails the log stopped keeping its packet.
use Rattle.std.proofs.Common.{◌≡◌, ◌≢◌, ℕ, ◌+◌, ◌-◌, ◌<◌, ◌≤◌, ◌==◌, ◌⊎◌, Bool, true, false, Option, Some, None, List, length, take, refl, sym, ◌∙◌, ap, inl, inr, arith, slice_get, length-set, if◌then◌else◌}
use Rattle.std.specs.Prelude.{◌&&◌, not}
use Rattle.std.proofs.lemmas.Bool.Decides.{eqb_tells}
use Rattle.ring_steps.specs.declared.words.Slot.{Slot}
use Rattle.ring_steps.specs.declared.views.Publisher.{Publisher}
use Rattle.ring_steps.specs.declared.views.PublisherPhase.{PublisherPhase}
use Rattle.ring_steps.specs.declared.views.PublisherPhase.TheVariants as publishing
use Rattle.ring_steps.specs.declared.views.Seat.{Seat}
use Rattle.ring_steps.specs.declared.views.SeatPhase.TheVariants as seating
use Rattle.ring_steps.specs.Ring.{State, place, slot, word, cursor, with_slot, with_seat, fresh_slot}
use Rattle.ring_steps.specs.Step.{with_pins, pin, unpin, unpin_failed, next_place}
use Rattle.ring_steps.specs.Slots.{Invariant, HasNumber, HoldsPacket, IsHolding, PublisherDid, SeatKnows, pin_of}
use Rattle.ring_steps.proofs.Places.{at_set, pins_alone, place_within}
use Rattle.ring_steps.proofs.Seats.{pins_set, pin_counted, each_set}
use Rattle.std.proofs.lemmas.Bool.{cases_lt, eq-eqb, eqb-true}
use Rattle.ring_steps.proofs.Loads.{SeatOk}

-- a slot holds the packet that another one with the same cells holds
pub holds_same : (x y : Slot) (o : Option (List ℕ)) → y.len ≡ x.len → y.bytes ≡ x.bytes → HoldsPacket x o → HoldsPacket y o
holds_same x y None len bytes h = h
holds_same x y (Some p) len bytes h = (len ∙ h.0, ap (take (length p)) bytes ∙ h.1)

-- what the publisher did lies in the cells
pub did_same : (phase : PublisherPhase) (x y : Slot) (p : Publisher) → y.len ≡ x.len → y.bytes ≡ x.bytes → PublisherDid phase x p → PublisherDid phase y p
did_same publishing.Between x y p len bytes h = h
did_same publishing.Begun x y p len bytes h = h
did_same publishing.Filling x y p len bytes h =
    let within = h.2 in let size = ap length bytes in
    (len ∙ h.0, h.1, omega arith, ap (take p.written) bytes ∙ h.3)
did_same publishing.Finished x y p len bytes h = h

-- a seat's view and the pins of one slot change, and the pins are still counted
pub pins_keep : (s : State) (j n i : ℕ) (x y : Seat) → Invariant s → slice_get s.seats i ≡ Some x
    → ((k : ℕ) → k ≤ s.keep → (word (with_slot s j (with_pins (slot s j) n)) k).pins + pin_of x.phase (place s (cursor x)) k ≡ (word s k).pins + pin_of y.phase (place s (cursor y)) k)
    → SeatOk s y → Invariant (with_seat (with_slot s j (with_pins (slot s j) n)) i y)
pins_keep s j n i x y h at count ok =
    let same = pins_alone s.slots j n in
    let numbered : (k m : ℕ) → HasNumber s k m → HasNumber (with_slot s j (with_pins (slot s j) n)) k m = λ k m e. ((same k).0 ∙ e.0, (same k).1 ∙ e.1) in
    record {
      slots = record {
        pins = λ k within. let one = pins_set s.keep s.seats i x y k at in let c = count k within in let was = h.slots.pins k within in omega arith;
        writing = λ k within. (λ e. (h.slots.writing k within).0 (sym (same k).1 ∙ e), λ e. (same k).1 ∙ (h.slots.writing k within).1 e);
        numbers = record {
          size = h.slots.numbers.size;
          closed = h.slots.numbers.closed;
          kept = λ m low high. numbered (place s m) m (h.slots.numbers.kept m low high);
          next = (same (next_place s)).0 ∙ h.slots.numbers.next;
          fresh = λ k low high. (same k).0 ∙ h.slots.numbers.fresh k low high;
        };
        packets = λ k m within e. holds_same (slot s k) (slot (with_slot s j (with_pins (slot s j) n)) k) _ (same k).2 (same k).3 (h.slots.packets k m within (sym (same k).0 ∙ e.0, sym (same k).1 ∙ e.1));
        held = each_set (λ (z : Seat). IsHolding z.phase → HasNumber (with_slot s j (with_pins (slot s j) n)) (place s (cursor z)) (cursor z)) s.seats i y
            (λ k z there e. numbered _ _ (h.slots.held k z there e)) (λ e. numbered _ _ (ok.held e));
        overtaken = λ c low e. h.slots.overtaken c low (elim e [
          | inl w ↦ inl (sym (same (place s c)).1 ∙ w)
          | inr l ↦ inr (rw (same (place s c)).0 at l)
        ]);
        seen = each_set (λ (z : Seat). (z.seen ≤ length s.log) × (z.saw_closed ≡ true → (z.seen ≡ length s.log) × (s.publisher.closed ≡ true))) s.seats i y h.slots.seen ok.seen;
      };
      phases = record {
        keeps = h.phases.keeps;
        width = length-set s.slots j _ ∙ h.phases.width;
        ended = h.phases.ended;
        did = did_same s.publisher.phase (slot s (next_place s)) (slot (with_slot s j (with_pins (slot s j) n)) (next_place s)) s.publisher (same (next_place s)).2 (same (next_place s)).3 h.phases.did;
        cursors = each_set (λ (z : Seat). cursor z ≤ z.seen) s.seats i y h.phases.cursors ok.cursors;
        knows = each_set (λ (z : Seat). SeatKnows z.phase s.keep s.log z) s.seats i y h.phases.knows ok.knows;
      };
    }

-- the pins at each place after a write of pins
pub pins_at : (s : State) (j n k : ℕ) → Invariant s → j ≤ s.keep
    → ((k ≡ j) × ((word (with_slot s j (with_pins (slot s j) n)) k).pins ≡ n))
    ⊎ ((k ≢ j) × ((word (with_slot s j (with_pins (slot s j) n)) k).pins ≡ (word s k).pins))
pins_at s j n k h within =
    let width = h.phases.width in
    elim (at_set s.slots j k (with_pins (slot s j) n) fresh_slot (omega arith)) [
      | inl e ↦ inl (e.0, ap (λ (x : Slot). x.word.pins) e.1)
      | inr e ↦ inr (e.0, ap (λ (x : Slot). x.word.pins) e.1)
    ]

abbrev pub one_if : (j k : ℕ) → ℕ
one_if j k = if j == k then 1 else 0

-- a pin at its own place is one, and elsewhere none
pub one_at : (j k : ℕ) → k ≡ j → one_if j k ≡ 1
one_at j k e = let t = eq-eqb j k (sym e) in rw t refl

pub none_at : (j k : ℕ) → k ≢ j → one_if j k ≡ 0
none_at j k ne = elim (eqb_tells j k) [
  | inl e ↦ absurd (ne (sym e.1))
  | inr e ↦ rw e.0 refl
]

-- one pin more is counted where the seat is
pub one_more : (s : State) (j k : ℕ) → Invariant s → j ≤ s.keep
    → (word (with_slot s j (with_pins (slot s j) ((word s j).pins + 1))) k).pins ≡ (word s k).pins + one_if j k
one_more s j k h within = elim (pins_at s j ((word s j).pins + 1) k h within) [
  | inl e ↦ let one = one_at j k e.0 in let now = e.1 in let same = ap (λ n. (word s n).pins) e.0 in omega arith
  | inr e ↦ let none = none_at j k e.0 in let now = e.1 in omega arith
]

-- one pin less
pub one_less : (s : State) (j k : ℕ) → Invariant s → j ≤ s.keep → 1 ≤ (word s j).pins
    → (word (with_slot s j (with_pins (slot s j) ((word s j).pins - 1))) k).pins + one_if j k ≡ (word s k).pins
one_less s j k h within some = elim (pins_at s j ((word s j).pins - 1) k h within) [
  | inl e ↦ let one = one_at j k e.0 in let now = e.1 in let same = ap (λ n. (word s n).pins) e.0 in omega arith
  | inr e ↦ let none = none_at j k e.0 in let now = e.1 in omega arith
]

-- the test of two parts, of which the second says that a bit is clear
pub both_or_not : (a w : Bool) → (((a && not w) ≡ true) × (a ≡ true) × (w ≡ false)) ⊎ (((a && not w) ≡ false) × (a ≡ true → w ≡ true))
both_or_not true false = inl (refl, refl, refl)
both_or_not true true = inr (refl, λ e. refl)
both_or_not false w = inr (refl, λ e. absurd (cc))

-- a pin of a packet that the log keeps holds; so where it fails, the log stopped keeping the packet
pub stopped_keeping : (s : State) (c : ℕ) → Invariant s → c < length s.log
    → (((word s (place s c)).number == c + 1) ≡ true → (word s (place s c)).writing ≡ true) → c + s.keep + 1 ≤ length s.log
stopped_keeping s c h within fails = elim (cases_lt c (length s.log - s.keep)) [
  | inl e ↦ omega arith
  | inr e ↦
      let kept = h.slots.numbers.kept c e within in
      let writing = fails (eq-eqb _ _ kept.0) in
      let still = kept.1 in
      absurd (cc)
]

pub pin_keeps : (s : State) (i : ℕ) (x : Seat) → Invariant s → slice_get s.seats i ≡ Some x → x.phase ≡ seating.Found → Invariant (pin s i x).state
pin_keeps s i x h at phase =
    let j = place s (cursor x) in
    let within : j ≤ s.keep = place_within s.keep (cursor x) in
    let found = rw phase at (h.phases.knows i x at) in
    let seen = h.slots.seen i x at in
    let length_seen = seen.0 in
    elim (both_or_not ((word s j).number == cursor x + 1) (word s j).writing) [
      | inl e ↦ rw e.0
          (pins_keep s j _ i x (record x { phase = seating.Holding }) h at
          (λ k low. rw phase (let one = one_more s j k h within in omega arith))
          (record { held = λ t. (eqb-true _ _ e.1, e.2); seen = seen; cursors = h.phases.cursors i x at; knows = found }))
      | inr e ↦ rw e.0
          (pins_keep s j _ i x (record x { phase = seating.Failed }) h at
          (λ k low. rw phase (let one = one_more s j k h within in omega arith))
          (record { held = λ t. absurd t; seen = seen; cursors = h.phases.cursors i x at; knows = (found.0, stopped_keeping s (cursor x) h (let below = found.0 in omega arith) e.1) }))
    ]

-- a pinned slot has at least one pin
pub some_pin : (s : State) (i : ℕ) (x : Seat) → Invariant s → slice_get s.seats i ≡ Some x
    → pin_of x.phase (place s (cursor x)) (place s (cursor x)) ≡ 1 → 1 ≤ (word s (place s (cursor x))).pins
some_pin s i x h at one =
    let counted = pin_counted s.keep s.seats i x (place s (cursor x)) at in
    let was = h.slots.pins (place s (cursor x)) (place_within s.keep (cursor x)) in
    omega arith

pub unpin_keeps : (s : State) (i : ℕ) (x : Seat) → Invariant s → slice_get s.seats i ≡ Some x → x.phase ≡ seating.Reading → Invariant (unpin s i x).state
unpin_keeps s i x h at phase =
    let j = place s (cursor x) in
    let within : j ≤ s.keep = place_within s.keep (cursor x) in
    let knows = rw phase at (h.phases.knows i x at) in
    let below = knows.0 in
    let some = some_pin s i x h at (rw phase (one_at j j refl)) in
    pins_keep s j _ i x _ h at
    (λ k low. rw phase (let one = one_less s j k h within some in omega arith))
    (record { held = λ t. absurd t; seen = h.slots.seen i x at; cursors = omega arith; knows = tt })

pub unpin_failed_keeps : (s : State) (i : ℕ) (x : Seat) → Invariant s → slice_get s.seats i ≡ Some x → x.phase ≡ seating.Failed → Invariant (unpin_failed s i x).state
unpin_failed_keeps s i x h at phase =
    let j = place s (cursor x) in
    let within : j ≤ s.keep = place_within s.keep (cursor x) in
    let knows = rw phase at (h.phases.knows i x at) in
    let some = some_pin s i x h at (rw phase (one_at j j refl)) in
    pins_keep s j _ i x _ h at
    (λ k low. rw phase (let one = one_less s j k h within some in omega arith))
    (record { held = λ t. absurd t; seen = h.slots.seen i x at; cursors = h.phases.cursors i x at; knows = knows })
