-- A seat whose pin holds finds its packet in the slot, and its reads of the length and of the bytes keep the invariant.
use Rattle.std.proofs.Common.{◌≡◌, ℕ, ◌<◌, Some, List, [], ◌∷◌, ◌++◌, length, take, refl, sym, ◌∙◌, ap, inl, inr, arith, slice_get, slice_index_or}
use Rattle.std.proofs.lemmas.List.{take_more, length_push, get_or-take}
use Rattle.std.proofs.lemmas.Option.{slice_get-get_or}
use Rattle.cursor.proofs.Attachments.{slice_get-append}
use Rattle.ring_steps.specs.declared.views.PublisherPhase.{PublisherPhase}
use Rattle.ring_steps.specs.declared.views.PublisherPhase.TheVariants as publishing
use Rattle.ring_steps.specs.declared.views.Seat.{Seat}
use Rattle.ring_steps.specs.declared.views.SeatPhase.{SeatPhase}
use Rattle.ring_steps.specs.declared.views.SeatPhase.TheVariants as seating
use Rattle.ring_steps.specs.Ring.{State, place, slot, cursor}
use Rattle.ring_steps.specs.Step.{read_length, read_byte, read_on}
use Rattle.ring_steps.specs.Slots.{Invariant, IsHolding, Stands, with_pending}
use Rattle.ring_steps.proofs.Places.{lt_tells, place_within}
use Rattle.ring_steps.proofs.Loads.{view_keeps}
use Rattle.ring_steps.proofs.Pinning.{unpin_keeps}

-- the pending packet comes after those of the log
pub before_pending : (phase : PublisherPhase) (log : List (List ℕ)) (p : List ℕ) (c : ℕ) (q : List ℕ) → slice_get log c ≡ Some q → slice_get (with_pending phase log p) c ≡ Some q
before_pending publishing.Between log p c q at = at
before_pending publishing.Begun log p c q at = at
before_pending publishing.Filling log p c q at = at
before_pending publishing.Finished log p c q at = slice_get-append log (p ∷ []) c q at

-- the packet of a seat whose pin holds is in the log
holding_within : (phase : SeatPhase) (s : State) (i : ℕ) (x : Seat) → x.phase ≡ phase → IsHolding phase → Invariant s → slice_get s.seats i ≡ Some x → cursor x < length s.log
holding_within seating.Holding s i x phase holds h at = let below = (rw phase at (h.phases.knows i x at)).0 in let seen = (h.slots.seen i x at).0 in omega arith
holding_within seating.Reading s i x phase holds h at = let below = (rw phase at (h.phases.knows i x at)).0 in let seen = (h.slots.seen i x at).0 in omega arith
holding_within phase s i x is holds h at = absurd holds

-- a seat whose pin holds finds its packet in the slot
pub own_packet : (s : State) (i : ℕ) (x : Seat) → Invariant s → slice_get s.seats i ≡ Some x → IsHolding x.phase → Stands s.log (cursor x) (slot s (place s (cursor x)))
own_packet s i x h at holding =
    let c = cursor x in
    let below = holding_within x.phase s i x refl holding h at in
    let there : slice_get s.log c ≡ Some (slice_index_or s.log c []) = slice_get-get_or s.log c [] below in
    let held = h.slots.held i x at holding in
    let packet = h.slots.packets (place s c) c (place_within s.keep c) held in
    let cells = rw (before_pending s.publisher.phase s.log s.publisher.packet c (slice_index_or s.log c []) there) at packet in
    record { packet = slice_index_or s.log c []; there = there; len = cells.0; bytes = cells.1 }

pub read_length_keeps : (s : State) (i : ℕ) (x : Seat) → Invariant s → slice_get s.seats i ≡ Some x → x.phase ≡ seating.Holding → Invariant (read_length s i x).state
read_length_keeps s i x h at phase =
    let knows = rw phase at (h.phases.knows i x at) in
    let below = knows.0 in
    let seen = h.slots.seen i x at in
    let length_seen = seen.0 in
    let own = own_packet s i x h at (rw phase tt) in
    view_keeps s i x _ h at (λ j. rw phase refl) (record {
      held = λ t. h.slots.held i x at (rw phase tt);
      seen = seen;
      cursors = h.phases.cursors i x at;
      knows = (below, (knows.1, record { packet = own.packet; there = own.there; size = own.len; within = omega arith; same = refl }));
    })

-- one byte more of the packet
pub one_byte : (bytes p read : List ℕ) → take (length p) bytes ≡ p → length read < length p → read ≡ take (length read) p
    → read ++ slice_index_or bytes (length read) 0 ∷ [] ≡ take (length (read ++ slice_index_or bytes (length read) 0 ∷ [])) p
one_byte bytes p read stands below same =
    let k = length read in
    let b = slice_index_or bytes k 0 in
    let byte : slice_index_or p k 0 ≡ b = ap (λ (q : List ℕ). slice_index_or q k 0) (sym stands) ∙ get_or-take (length p) bytes k 0 below in
    rw (length_push read b, take_more p k 0 below, byte, ← same) refl

pub read_byte_keeps : (s : State) (i : ℕ) (x : Seat) → Invariant s → slice_get s.seats i ≡ Some x → x.phase ≡ seating.Reading → length x.read < x.length → Invariant (read_byte s i x).state
read_byte_keeps s i x h at phase more =
    let knows = rw phase at (h.phases.knows i x at) in
    let below = knows.0 in
    let read = knows.1.1 in
    let seen = h.slots.seen i x at in
    let length_seen = seen.0 in
    let own = own_packet s i x h at (rw phase tt) in
    let same : own.packet ≡ read.packet = let a = own.there in let b = read.there in cc in
    let stands = rw same at own.bytes in
    let size = read.size in
    let within : length x.read < length read.packet = omega arith in
    let b = slice_index_or (slot s (place s (cursor x))).bytes (length x.read) 0 in
    view_keeps s i x _ h at (λ j. refl) (record {
      held = h.slots.held i x at;
      seen = seen;
      cursors = h.phases.cursors i x at;
      knows = rw phase (
        below,
        (
          knows.1.0,
          record {
            packet = read.packet;
            there = read.there;
            size = read.size;
            within = omega (arith, length_push x.read b);
            same = one_byte (slot s (place s (cursor x))).bytes read.packet x.read stands within read.same;
          },
        ),
      );
    })

pub read_on_keeps : (s : State) (i : ℕ) (x : Seat) → Invariant s → slice_get s.seats i ≡ Some x → x.phase ≡ seating.Reading → Invariant (read_on s i x).state
read_on_keeps s i x h at phase = elim (lt_tells (length x.read) x.length) [
  | inl e ↦ rw e.0 (read_byte_keeps s i x h at phase e.1)
  | inr e ↦ rw e.0 (unpin_keeps s i x h at phase)
]
