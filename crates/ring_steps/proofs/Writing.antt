-- The writes of the length and of the bytes, the finish, the append and the close keep the invariant.
use Rattle.std.proofs.Common.{◌≡◌, ◌≢◌, ℕ, suc, zero, ◌+◌, ◌-◌, ◌<◌, ◌≤◌, ◌⊎◌, Bool, true, false, Some, List, [], ◌∷◌, ◌++◌, length, take, refl, sym, ◌∙◌, ap, subst, inl, inr, arith, slice_get, slice_index_or, length-set}
use Rattle.std.proofs.lemmas.List.{take_more, take_more_set, length_push, take_all}
use Rattle.std.proofs.lemmas.Bool.{cases_lt}
use Rattle.cursor.proofs.Attachments.{slice_get-append}
use Rattle.ring_steps.specs.declared.words.Slot.{Slot}
use Rattle.ring_steps.specs.declared.views.Publisher.{Publisher}
use Rattle.ring_steps.specs.declared.views.PublisherPhase.TheVariants as publishing
use Rattle.ring_steps.specs.declared.views.Seat.{Seat}
use Rattle.ring_steps.specs.declared.views.SeatPhase.{SeatPhase}
use Rattle.ring_steps.specs.declared.views.SeatPhase.TheVariants as seating
use Rattle.ring_steps.specs.Ring.{State, place, slot, word, floor, cursor, put, with_slot, with_publisher}
use Rattle.ring_steps.specs.Step.{next_place, write_length, write_byte, write_on, finish, append, close}
use Rattle.ring_steps.specs.Slots.{Invariant, HasNumber, HoldsPacket, PublisherDid, SeatKnows, Writes, with_pending}
use Rattle.ring_steps.proofs.Places.{lt_tells, place_again, place_small, place_within}
use Rattle.ring_steps.proofs.Begins.{Numbered, kept_elsewhere, overtaken_by, next_set, next_other, next_here, part_same}

-- while the publisher writes, a cell of its slot changes, and its word doesn't
pub cell_keeps : (s : State) (x : Slot) (p : Publisher) → Invariant s → s.publisher.phase ≡ publishing.Begun ⊎ (s.publisher.phase ≡ publishing.Filling)
    → x.word ≡ word s (next_place s) → p.phase ≡ publishing.Filling → p.closed ≡ s.publisher.closed → PublisherDid publishing.Filling x p
    → Invariant (with_publisher (with_slot s (next_place s) x) p)
cell_keeps s x p h was same phase closed did =
    let j = next_place s in
    let t = with_publisher (with_slot s j x) p in
    let writes : Writes s.publisher.phase = elim was [ inl e ↦ rw e tt | inr e ↦ rw e tt ] in
    let next : (word s j).number ≡ length s.log - s.keep = elim was [ inl e ↦ rw e at h.slots.numbers.next | inr e ↦ rw e at h.slots.numbers.next ] in
    let pending : (n : ℕ) → slice_get (with_pending s.publisher.phase s.log s.publisher.packet) n ≡ slice_get s.log n = λ n. elim was [ inl e ↦ rw e refl | inr e ↦ rw e refl ] in
    let words : (k : ℕ) → word t k ≡ word s k = λ k. part_same (λ (z : Slot). z.word) s k x h same in
    let numbered : (k n : ℕ) → HasNumber s k n → HasNumber t k n = λ k n e. (ap (λ w. w.number) (words k) ∙ e.0, ap (λ w. w.writing) (words k) ∙ e.1) in
    let kept : (n : ℕ) → floor s (length s.log) ≤ n → n < length s.log → HasNumber t (place s n) n = λ n low high. numbered _ _ (h.slots.numbers.kept n low high) in
    record {
      slots = record {
        pins = λ k within. ap (λ w. w.pins) (words k) ∙ h.slots.pins k within;
        writing = λ k within. (
          λ w. (rw phase tt, ((h.slots.writing k within).0 (ap (λ w. w.writing) (sym (words k)) ∙ w)).1),
          λ w. ap (λ w. w.writing) (words k) ∙ (h.slots.writing k within).1 (writes, w.1),
        );
        numbers = record {
          size = h.slots.numbers.size;
          closed = h.slots.numbers.closed ∙ sym closed;
          kept = kept;
          next = rw phase (ap (λ w. w.number) (words j) ∙ next);
          fresh = λ k low high. ap (λ w. w.number) (words k) ∙ h.slots.numbers.fresh k low high;
        };
        packets = λ k n within e. rw phase (elim (next_set s k x h) [
          | inl f ↦ absurd (
              let clear = e.1 in
              let set = (h.slots.writing k within).1 (writes, f.0) in
              let is = ap (λ w. w.writing) (words k) in cc)
          | inr f ↦ subst (λ (z : Slot). HoldsPacket z (slice_get s.log n)) (sym f.1)
              (rw (pending n) at (h.slots.packets k n within (subst (λ (z : Slot). Numbered z n) f.1 e)))
        ]);
        held = λ i z there holding. numbered _ _ (h.slots.held i z there holding);
        overtaken = overtaken_by t kept;
        seen = λ i z there. let was_seen = h.slots.seen i z there in (was_seen.0, λ e. let all = was_seen.1 e in (all.0, closed ∙ all.1));
      };
      phases = record {
        keeps = h.phases.keeps;
        width = length-set s.slots j x ∙ h.phases.width;
        ended = λ e. absurd (let between = h.phases.ended (sym closed ∙ e) in elim was [ inl f ↦ cc | inr f ↦ cc ]);
        did = rw (phase, next_here s x h) did;
        cursors = h.phases.cursors;
        knows = h.phases.knows;
      };
    }

pub write_length_keeps : (s : State) → Invariant s → s.publisher.phase ≡ publishing.Begun → Invariant (write_length s).state
write_length_keeps s h phase =
    let none : s.publisher.written ≡ 0 = rw phase at h.phases.did in
    cell_keeps s _ _ h (inl phase) refl refl refl
    (refl, omega arith, omega arith, rw none refl)

-- the bytes up to the one that was put
pub put_more : (xs : List ℕ) (k b : ℕ) → k ≤ length xs → (take (k + 1) (put xs k b) ≡ take k xs ++ b ∷ []) × (k + 1 ≤ length (put xs k b))
put_more xs k b within = elim (lt_tells k (length xs)) [
  | inl e ↦ let lt = e.1 in rw e.0 (take_more_set xs k b lt, omega (arith, length-set xs k b))
  | inr e ↦
      let size = length_push xs b in let past = e.1 in
      rw e.0 (take_all (k + 1) (xs ++ b ∷ []) (omega arith) ∙ ap (λ (ys : List ℕ). ys ++ b ∷ []) (sym (take_all k xs (omega arith))), omega arith)
]

pub write_byte_keeps : (s : State) → Invariant s → s.publisher.phase ≡ publishing.Filling → s.publisher.written < length s.publisher.packet → Invariant (write_byte s).state
write_byte_keeps s h phase more =
    let did = rw phase at h.phases.did in
    let k = s.publisher.written in
    let b = slice_index_or s.publisher.packet k 0 in
    let within = did.2 in
    let bytes = put_more (slot s (next_place s)).bytes k b within in
    cell_keeps s _ _ h (inr phase) refl phase refl
    (did.0, omega arith, bytes.1, bytes.0 ∙ ap (λ (ys : List ℕ). ys ++ b ∷ []) did.3 ∙ sym (take_more s.publisher.packet k 0 more))

-- the place after the packets of a list
pub at_end : (log : List (List ℕ)) (p : List ℕ) → slice_get (log ++ p ∷ []) (length log) ≡ Some p
at_end [] p = refl
at_end (q ∷ log) p = at_end log p

-- a slot holds a packet of a list also where the list is longer
pub holds_more : (x : Slot) (log : List (List ℕ)) (p : List ℕ) (n : ℕ) → HoldsPacket x (slice_get log n) → HoldsPacket x (slice_get (log ++ p ∷ []) n)
holds_more x [] p n h = absurd h
holds_more x (q ∷ log) p zero h = h
holds_more x (q ∷ log) p (suc n) h = holds_more x log p n h

pub finish_keeps : (s : State) → Invariant s → s.publisher.phase ≡ publishing.Filling → length s.publisher.packet ≤ s.publisher.written → Invariant (finish s).state
finish_keeps s h phase all =
    let j = next_place s in
    let p = s.publisher.packet in
    let x : Slot = record (slot s j) { word = record (word s j) { writing = false; number = length s.log + 1 } } in
    let did = rw phase at h.phases.did in
    let size = did.1 in
    let whole : s.publisher.written ≡ length p = omega arith in
    let bytes : take (length p) (slot s j).bytes ≡ p = rw whole at did.3 ∙ take_all (length p) p (omega arith) in
    let within : j ≤ s.keep = place_within s.keep (length s.log) in
    let busy : (word s j).writing ≡ true = (h.slots.writing j within).1 (rw phase tt, refl) in
    let elsewhere : (k n : ℕ) → k ≢ j → HasNumber s k n → HasNumber (with_slot s j x) k n = λ k n ne e. subst (λ (z : Slot). Numbered z n) (sym (next_other s k x h ne)) e in
    let kept : (n : ℕ) → floor s (length s.log) ≤ n → n < length s.log → HasNumber (with_slot s j x) (place s n) n =
    λ n low high. elsewhere (place s n) n (kept_elsewhere s n low high) (h.slots.numbers.kept n low high) in
    record {
      slots = record {
        pins = λ k low. part_same (λ (z : Slot). z.word.pins) s k x h refl ∙ h.slots.pins k low;
        writing = λ k low. (
          λ w. elim (next_set s k x h) [
            | inl e ↦ absurd (let clear = ap (λ (z : Slot). z.word.writing) e.1 in cc)
            | inr e ↦ absurd (e.0 ((h.slots.writing k low).0 (ap (λ (z : Slot). z.word.writing) (sym e.1) ∙ w)).1)
          ],
          λ w. absurd w.0,
        );
        numbers = record {
          size = h.slots.numbers.size;
          closed = h.slots.numbers.closed;
          kept = kept;
          next = ap (λ (z : Slot). z.word.number) (next_here s x h);
          fresh = λ k low high.
              let ne : k ≢ j = λ e. let small = place_small s.keep (length s.log) (omega arith) in omega arith in
              ap (λ (z : Slot). z.word.number) (next_other s k x h ne) ∙ h.slots.numbers.fresh k low high;
        };
        packets = λ k n low e. elim (next_set s k x h) [
          | inl f ↦
              let number : length s.log + 1 ≡ n + 1 = ap (λ (z : Slot). z.word.number) (sym f.1) ∙ e.0 in
              let same : length s.log ≡ n = omega arith in
              subst (λ (z : Slot). HoldsPacket z (slice_get (s.log ++ p ∷ []) n)) (sym f.1)
              (subst (λ m. HoldsPacket x (slice_get (s.log ++ p ∷ []) m)) same (rw (at_end s.log p) (did.0, bytes)))
          | inr f ↦ subst (λ (z : Slot). HoldsPacket z (slice_get (s.log ++ p ∷ []) n)) (sym f.1)
              (holds_more (slot s k) s.log p n (rw phase at (h.slots.packets k n low (subst (λ (z : Slot). Numbered z n) f.1 e))))
        ];
        held = λ i z there holding.
            let has = h.slots.held i z there holding in
            let here : place s (cursor z) ≢ j = λ same. let free = has.1 in let one = ap (λ n. (word s n).writing) same in absurd (cc) in
            elsewhere (place s (cursor z)) (cursor z) here has;
        overtaken = overtaken_by (finish s).state kept;
        seen = h.slots.seen;
      };
      phases = record {
        keeps = h.phases.keeps;
        width = length-set s.slots j x ∙ h.phases.width;
        ended = λ e. absurd (let between = h.phases.ended e in cc);
        did = tt;
        cursors = h.phases.cursors;
        knows = h.phases.knows;
      };
    }

pub write_on_keeps : (s : State) → Invariant s → s.publisher.phase ≡ publishing.Filling → Invariant (write_on s).state
write_on_keeps s h phase = elim (lt_tells s.publisher.written (length s.publisher.packet)) [
  | inl e ↦ rw e.0 (write_byte_keeps s h phase e.1)
  | inr e ↦ rw e.0 (finish_keeps s h phase e.1)
]

-- what a seat knows stays true of a longer log
pub knows_more : (phase : SeatPhase) (keep : ℕ) (log : List (List ℕ)) (p : List ℕ) (x : Seat) → SeatKnows phase keep log x → SeatKnows phase keep (log ++ p ∷ []) x
knows_more seating.Out keep log p x h = tt
knows_more seating.Between keep log p x h = tt
knows_more seating.Found keep log p x h = h
knows_more seating.Holding keep log p x h = h
knows_more seating.Reading keep log p x h = (
  h.0,
  (
    h.1.0,
    record {
      packet = h.1.1.packet;
      there = slice_get-append log (p ∷ []) (cursor x) h.1.1.packet h.1.1.there;
      size = h.1.1.size;
      within = h.1.1.within;
      same = h.1.1.same;
    },
  ),
)
knows_more seating.Failed keep log p x h = let gone = h.1 in (h.0, omega (arith, length_push log p))
knows_more seating.Missed keep log p x h = let gone = h.1 in (h.0, omega (arith, length_push log p))

pub is_open : (s : State) → Invariant s → s.publisher.phase ≡ publishing.Finished → (b : Bool) → s.publisher.closed ≡ b → b ≡ false
is_open s h phase true e = absurd (let between = h.phases.ended e in cc)
is_open s h phase false e = refl

-- a bit that isn't set is clear
pub is_clear : (b : Bool) → (b ≡ true → ⊥) → b ≡ false
is_clear true h = absurd (h refl)
is_clear false h = refl

pub append_keeps : (s : State) → Invariant s → s.publisher.phase ≡ publishing.Finished → Invariant (append s).state
append_keeps s h phase =
    let p = s.publisher.packet in
    let more = length_push s.log p in
    let unclosed = is_open s h phase s.publisher.closed refl in
    let number : (word s (next_place s)).number ≡ length s.log + 1 = rw phase at h.slots.numbers.next in
    let idle : (k : ℕ) → k ≤ s.keep → (word s k).writing ≡ true → ⊥ = λ k within w. (rw phase at ((h.slots.writing k within).0 w)).0 in
    let clear : (k : ℕ) → k ≤ s.keep → (b : Bool) → (word s k).writing ≡ b → b ≡ false = λ k within b e. is_clear b (λ t. idle k within (e ∙ t)) in
    let kept : (n : ℕ) → length (s.log ++ p ∷ []) - s.keep ≤ n → n < length (s.log ++ p ∷ []) → HasNumber s (place s n) n =
    λ n low high. elim (cases_lt n (length s.log)) [
      | inl l ↦ h.slots.numbers.kept n (omega arith) l
      | inr l ↦ let same : length s.log ≡ n = omega arith in
          subst (λ m. HasNumber s (place s m) m) same (number, clear (next_place s) (place_within s.keep (length s.log)) _ refl)
    ] in
    let keeps = h.phases.keeps in
    record {
      slots = record {
        pins = h.slots.pins;
        writing = λ k within. (λ w. absurd (idle k within w), λ w. absurd w.0);
        numbers = record {
          size = sym more;
          closed = sym unclosed;
          kept = kept;
          next = elim (cases_lt (length s.log) s.keep) [
            | inl l ↦
                let small = place_small s.keep (length (s.log ++ p ∷ [])) (omega arith) in
                let none = h.slots.numbers.fresh (length (s.log ++ p ∷ [])) (omega arith) (omega arith) in
                rw small (none ∙ omega arith)
            | inr l ↦
                let old = length s.log - s.keep in
                let round = place_again s.keep old (length (s.log ++ p ∷ [])) (omega arith) in
                let has = h.slots.numbers.kept old (omega arith) (omega arith) in
                rw round (has.0 ∙ omega arith)
          ];
          fresh = λ k low high. h.slots.numbers.fresh k (omega arith) high;
        };
        packets = λ k n within e. rw phase at (h.slots.packets k n within e);
        held = h.slots.held;
        overtaken = overtaken_by (append s).state kept;
        seen = λ i z there. let was = h.slots.seen i z there in let low = was.0 in (omega arith, λ e. absurd (let ended = (was.1 e).1 in cc));
      };
      phases = record {
        keeps = h.phases.keeps;
        width = h.phases.width;
        ended = λ e. refl;
        did = tt;
        cursors = h.phases.cursors;
        knows = λ i z there. knows_more z.phase s.keep s.log p z (h.phases.knows i z there);
      };
    }

pub close_keeps : (s : State) → Invariant s → s.publisher.phase ≡ publishing.Between → Invariant (close s).state
close_keeps s h phase = record {
  slots = record {
    pins = h.slots.pins;
    writing = h.slots.writing;
    numbers = record {
      size = refl;
      closed = refl;
      kept = h.slots.numbers.kept;
      next = h.slots.numbers.next;
      fresh = h.slots.numbers.fresh;
    };
    packets = h.slots.packets;
    held = h.slots.held;
    overtaken = h.slots.overtaken;
    seen = λ i z there. let was = h.slots.seen i z there in (was.0, λ e. ((was.1 e).0, refl));
  };
  phases = record {
    keeps = h.phases.keeps;
    width = h.phases.width;
    ended = λ e. phase;
    did = rw phase tt;
    cursors = h.phases.cursors;
    knows = h.phases.knows;
  };
}
