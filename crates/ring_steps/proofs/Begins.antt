-- A begin keeps the invariant, and a refused one saw the pins in its slot; what a write of the next packet's slot leaves.
use Rattle.std.proofs.Common.{◌≡◌, ◌≢◌, ℕ, ◌+◌, ◌-◌, ◌<◌, ◌≤◌, ◌⊎◌, Bool, true, false, Some, List, length, refl, sym, ◌∙◌, ap, subst, inl, inr, arith, slice_get, length-set, nat_lt}
use Rattle.std.proofs.lemmas.Bool.{and_parts, cases_lt, eqb-true, eq-eqb}
use Rattle.ring_steps.specs.declared.words.Slot.{Slot}
use Rattle.ring_steps.specs.declared.views.PublisherPhase.TheVariants as publishing
use Rattle.ring_steps.specs.declared.views.SeatPhase.{SeatPhase}
use Rattle.ring_steps.specs.declared.views.SeatPhase.TheVariants as seating
use Rattle.ring_steps.specs.Ring.{State, place, slot, word, floor, cursor, fresh_slot, with_slot}
use Rattle.cursor.specs.declared.calls.Answer.TheVariants.{Refused}
use Rattle.ring_steps.specs.declared.calls.PublisherCall.TheVariants.{Publish}
use Rattle.ring_steps.specs.declared.views.PublisherPhase.{PublisherPhase}
use Rattle.ring_steps.specs.Step.{Outcome, PublisherActs, is_known, next_place, begin, begun, refused}
use Rattle.ring_steps.specs.Slots.{Invariant, HasNumber, HoldsPacket, IsHolding, SawPins, pin_of}
use Rattle.ring_steps.proofs.Places.{at_set, by_test, place_apart, place_within}
use Rattle.ring_steps.proofs.Seats.{no_pin, pins_within}
use Rattle.ring_steps.proofs.Pinning.{one_at}

-- a number in a slot, and no writing
abbrev pub Numbered : Slot → ℕ → Type 0
Numbered x n = (x.word.number ≡ n + 1) × (x.word.writing ≡ false)

-- a packet that the log keeps isn't where the next one goes
pub kept_elsewhere : (s : State) (n : ℕ) → floor s (length s.log) ≤ n → n < length s.log → place s n ≢ next_place s
kept_elsewhere s n low high same = let apart = place_apart s.keep n (length s.log) high same in omega arith

-- writing or a later number in the slot of a packet means that the log stopped keeping it
pub overtaken_by : (s : State) → ((n : ℕ) → floor s (length s.log) ≤ n → n < length s.log → HasNumber s (place s n) n)
    → (c : ℕ) → c < length s.log → ((word s (place s c)).writing ≡ true) ⊎ (c + 1 < (word s (place s c)).number) → c + s.keep + 1 ≤ length s.log
overtaken_by s kept c within e = elim (cases_lt c (length s.log - s.keep)) [
  | inl l ↦ omega arith
  | inr l ↦
      let has = kept c l within in
      elim e [
        | inl w ↦ let still = has.1 in absurd (cc)
        | inr m ↦ let number = has.0 in absurd (omega arith)
      ]
]

-- only the publisher's view changes, and not what the slots say of it
pub refused_keeps : (s : State) → Invariant s → s.publisher.phase ≡ publishing.Between → Invariant (refused s).state
refused_keeps s h phase = record {
  slots = record {
    pins = h.slots.pins;
    writing = h.slots.writing;
    numbers = record {
      size = h.slots.numbers.size;
      closed = h.slots.numbers.closed;
      kept = h.slots.numbers.kept;
      next = h.slots.numbers.next;
      fresh = h.slots.numbers.fresh;
    };
    packets = h.slots.packets;
    held = h.slots.held;
    overtaken = h.slots.overtaken;
    seen = h.slots.seen;
  };
  phases = record {
    keeps = h.phases.keeps;
    width = h.phases.width;
    ended = h.phases.ended;
    did = rw phase tt;
    cursors = h.phases.cursors;
    knows = h.phases.knows;
  };
}

-- what stands at a place after the slot where the next packet goes was written
pub next_set : (s : State) (k : ℕ) (x : Slot) → Invariant s
    → ((k ≡ next_place s) × (slot (with_slot s (next_place s) x) k ≡ x)) ⊎ ((k ≢ next_place s) × (slot (with_slot s (next_place s) x) k ≡ slot s k))
next_set s k x h =
    let within = place_within s.keep (length s.log) in
    let width = h.phases.width in
    at_set s.slots (next_place s) k x fresh_slot (omega arith)

-- elsewhere a slot is as it was
pub next_other : (s : State) (k : ℕ) (x : Slot) → Invariant s → k ≢ next_place s → slot (with_slot s (next_place s) x) k ≡ slot s k
next_other s k x h ne = elim (next_set s k x h) [
  | inl e ↦ absurd (ne e.0)
  | inr e ↦ e.1
]

pub next_here : (s : State) (x : Slot) → Invariant s → slot (with_slot s (next_place s) x) (next_place s) ≡ x
next_here s x h = elim (next_set s (next_place s) x h) [
  | inl e ↦ e.1
  | inr e ↦ absurd (e.0 refl)
]

-- of each slot this is as it was, if the slot that is written keeps it
pub part_same : {A : Type 0} (part : Slot → A) (s : State) (k : ℕ) (x : Slot) → Invariant s → part x ≡ part (slot s (next_place s))
    → part (slot (with_slot s (next_place s) x) k) ≡ part (slot s k)
part_same part s k x h same = elim (next_set s k x h) [
  | inl e ↦ ap part e.1 ∙ same ∙ ap (λ n. part (slot s n)) (sym e.0)
  | inr e ↦ ap part e.1
]

-- a seat whose pin holds has a pin there
pub holding_pins : (phase : SeatPhase) (j : ℕ) → IsHolding phase → pin_of phase j j ≡ 1
holding_pins seating.Out j h = absurd h
holding_pins seating.Between j h = absurd h
holding_pins seating.Found j h = absurd h
holding_pins seating.Holding j h = one_at j j refl
holding_pins seating.Reading j h = one_at j j refl
holding_pins seating.Failed j h = absurd h
holding_pins seating.Missed j h = absurd h

-- a begin that found no pins
pub begun_keeps : (s : State) (p : List ℕ) → Invariant s → s.publisher.phase ≡ publishing.Between → s.publisher.closed ≡ false
    → (word s (next_place s)).pins ≡ 0 → Invariant (begun s p).state
begun_keeps s p h phase unclosed free =
    let j = next_place s in
    let x : Slot = record (slot s j) { word = record (word s j) { writing = true } } in
    let number : (k : ℕ) → (word (with_slot s j x) k).number ≡ (word s k).number = λ k. part_same (λ (z : Slot). z.word.number) s k x h refl in
    let elsewhere : (k n : ℕ) → k ≢ j → HasNumber s k n → HasNumber (with_slot s j x) k n = λ k n ne e. subst (λ (z : Slot). Numbered z n) (sym (next_other s k x h ne)) e in
    let kept : (n : ℕ) → floor s (length s.log) ≤ n → n < length s.log → HasNumber (with_slot s j x) (place s n) n =
    λ n low high. elsewhere (place s n) n (kept_elsewhere s n low high) (h.slots.numbers.kept n low high) in
    record {
      slots = record {
        pins = λ k within. part_same (λ (z : Slot). z.word.pins) s k x h refl ∙ h.slots.pins k within;
        writing = λ k within. elim (next_set s k x h) [
          | inl e ↦ (λ w. (tt, e.0), λ w. ap (λ (z : Slot). z.word.writing) e.1)
          | inr e ↦ (λ w. absurd ((rw phase at ((h.slots.writing k within).0 (ap (λ (z : Slot). z.word.writing) (sym e.1) ∙ w))).0), λ w. absurd (e.0 w.1))
        ];
        numbers = record {
          size = h.slots.numbers.size;
          closed = h.slots.numbers.closed;
          kept = kept;
          next = number j ∙ (rw phase at h.slots.numbers.next);
          fresh = λ k low high. number k ∙ h.slots.numbers.fresh k low high;
        };
        packets = λ k n within e. elim (next_set s k x h) [
          | inl f ↦ absurd (let w = ap (λ (z : Slot). z.word.writing) f.1 in let no = e.1 in cc)
          | inr f ↦ subst (λ (z : Slot). HoldsPacket z (slice_get s.log n)) (sym f.1)
              (rw phase at (h.slots.packets k n within (subst (λ (z : Slot). Numbered z n) f.1 e)))
        ];
        held = λ i z there holding.
            let here : place s (cursor z) ≢ j = λ same.
            let none = no_pin s.keep s.seats i z (place s (cursor z)) there (sym (h.slots.pins (place s (cursor z)) (place_within s.keep (cursor z))) ∙ ap (λ n. (word s n).pins) same ∙ free) in
            let one = holding_pins z.phase (place s (cursor z)) holding in omega arith in
            elsewhere (place s (cursor z)) (cursor z) here (h.slots.held i z there holding);
        overtaken = overtaken_by (begun s p).state kept;
        seen = h.slots.seen;
      };
      phases = record {
        keeps = h.phases.keeps;
        width = length-set s.slots j x ∙ h.phases.width;
        ended = λ e. absurd (cc);
        did = refl;
        cursors = h.phases.cursors;
        knows = h.phases.knows;
      };
    }

pub begin_keeps : (s : State) (p : List ℕ) → Invariant s → s.publisher.phase ≡ publishing.Between → s.publisher.closed ≡ false → Invariant (begin s p).state
begin_keeps s p h phase unclosed =
    let w = word s (next_place s) in
    let test = is_known s w in
    by_test test
    (λ e. rw e (begun_keeps s p h phase unclosed (eqb-true _ _ (and_parts _ _ (and_parts _ _ e).0).1)))
    (λ e. rw e (refused_keeps s h phase))

clear_bit : (b : Bool) → (b ≡ true → ⊥) → b ≡ false
clear_bit true h = absurd (h refl)
clear_bit false h = refl

-- a refused begin saw the pins of the seats that are there, and at least one
pub refused_pins : (s : State) → Invariant s → s.publisher.phase ≡ publishing.Between → is_known s (word s (next_place s)) ≡ false → SawPins s (refused s).saw
refused_pins s h phase fails =
    let j = next_place s in
    let within = place_within s.keep (length s.log) in
    let number : (word s j).number ≡ length s.log - s.keep = rw phase at h.slots.numbers.next in
    let writing : (word s j).writing ≡ false = clear_bit (word s j).writing (λ w. (rw phase at ((h.slots.writing j within).0 w)).0) in
    let counted = h.slots.pins j within in
    record {
      begun = refl;
      counted = counted;
      some = elim (cases_lt 0 (word s j).pins) [
        | inl e ↦ omega arith
        | inr e ↦ absurd (
            let none : (word s j).pins ≡ 0 = omega arith in
            let test : is_known s (word s j) ≡ true = rw (writing, eq-eqb _ _ none, eq-eqb _ _ number) refl in cc)
      ];
      within = let few = pins_within s.keep s.seats j in omega arith;
    }

-- the same of a step that answers so
pub refused_step : (phase : PublisherPhase) (p : List ℕ) (s : State) (o : Outcome) → s.publisher.phase ≡ phase → PublisherActs phase (Publish p) s o → o.answer ≡ Some Refused → Invariant s
    → SawPins s o.saw
refused_step publishing.Between p s o phase acts is h =
    let eq = acts.1 in
    by_test (is_known s (word s (next_place s)))
    (λ e. absurd (let begins = rw e at eq in let none = ap (λ (q : Outcome). q.answer) begins in cc))
    (λ e. let fails = rw e at eq in subst (λ (q : Outcome). SawPins s q.saw) (sym fails) (refused_pins s h phase e))
refused_step publishing.Begun p s o phase acts is h = absurd (let none = ap (λ (q : Outcome). q.answer) acts.1 in cc)
refused_step publishing.Filling p s o phase acts is h =
    let eq = acts.1 in
    by_test (nat_lt s.publisher.written (length s.publisher.packet))
    (λ e. absurd (let on = rw e at eq in let none = ap (λ (q : Outcome). q.answer) on in cc))
    (λ e. absurd (let on = rw e at eq in let none = ap (λ (q : Outcome). q.answer) on in cc))
refused_step publishing.Finished p s o phase acts is h = absurd (let none = ap (λ (q : Outcome). q.answer) acts.1 in cc)
