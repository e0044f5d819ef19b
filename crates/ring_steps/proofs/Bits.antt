-- Equal bits are equal words and heads, and tell their parts; by which number a pin, an unpin, a begin and a finish change the
-- bits of a word; and that all words fit in 64 bits.
use Rattle.std.proofs.Common.{◌≡◌, ℕ, zero, suc, ◌+◌, ◌-◌, ◌*◌, ◌/◌, ◌%◌, ◌<◌, ◌≤◌, Bool, true, false, List, [], ◌∷◌, length, refl, sym, ◌∙◌, ap, inl, inr, arith, slice_get}
use Rattle.std.specs.Prelude.{◌↔◌, not}
use Rattle.std.proofs.lemmas.Bool.{and_parts, eqb-true, eq-eqb}
use Rattle.std.proofs.lemmas.List.{length_push}
use Rattle.ring_steps.specs.declared.views.PublisherPhase.{PublisherPhase}
use Rattle.ring_steps.specs.declared.views.PublisherPhase.TheVariants as publishing
use Rattle.ring_steps.specs.declared.views.Seat.{Seat}
use Rattle.ring_steps.specs.declared.views.SeatPhase.TheVariants as seating
use Rattle.ring_steps.specs.declared.words.Head.{Head}
use Rattle.ring_steps.specs.declared.words.Slot.{Slot}
use Rattle.ring_steps.specs.declared.words.Word.{Word}
use Rattle.ring_steps.specs.Bits.{bit, head_bits, known_word, word_bits}
use Rattle.ring_steps.specs.Ring.{State, cursor, floor, place, slot, with_slot, word}
use Rattle.ring_steps.specs.Slots.{HoldsPacket, Invariant, PublisherIs, SeatIs, next_number, with_pending}
use Rattle.ring_steps.specs.Step.{begin, finish, is_known, next_place, pin, unpin, unpin_failed, with_pins}
use Rattle.ring_steps.proofs.Begins.{next_here}
use Rattle.ring_steps.proofs.Growing.{begun_slot, finished_slot}
use Rattle.ring_steps.proofs.Pinning.{one_at, pins_at, some_pin}
use Rattle.ring_steps.proofs.Places.{pins_alone, place_within}
use Rattle.ring_steps.proofs.Seats.{pins_within}

-- the word that has these parts
abbrev pub word_of : (pins : ℕ) (writing : Bool) (number : ℕ) → Word
word_of p w n = record { pins = p; writing = w; number = n }

pub same_word : (p q : ℕ) (v w : Bool) (m n : ℕ) → p ≡ q → v ≡ w → m ≡ n → word_of p v m ≡ word_of q w n
same_word p q v w m n a b c = rw (a, b, c) refl

-- one pin more, where nothing else changes
pub bits_more : (v w : Word) → v.pins ≡ w.pins + 1 → v.writing ≡ w.writing → v.number ≡ w.number → word_bits v ≡ word_bits w + 1
bits_more v w pins writing number = rw (pins, writing, number) (omega arith)

-- what a word's bits are, with its writing bit and without
pub bits_set : (p n : ℕ) → word_bits (word_of p true n) ≡ p + 65536 + 131072 * n
bits_set p n = omega arith

pub bits_clear : (p n : ℕ) → word_bits (word_of p false n) ≡ p + 131072 * n
bits_clear p n = omega arith

apart : (p q : ℕ) (v w : Bool) (m n : ℕ) → p < 65536 → q < 65536 → word_bits (word_of p v m) ≡ word_bits (word_of q w n) → word_of p v m ≡ word_of q w n
apart p q false false m n a b e =
    let f : p + 131072 * m ≡ q + 131072 * n = sym (bits_clear p m) ∙ e ∙ bits_clear q n in
    let pins : p ≡ q = omega arith in let number : m ≡ n = omega arith in same_word p q false false m n pins refl number
apart p q true true m n a b e =
    let f : p + 65536 + 131072 * m ≡ q + 65536 + 131072 * n = sym (bits_set p m) ∙ e ∙ bits_set q n in
    let pins : p ≡ q = omega arith in let number : m ≡ n = omega arith in same_word p q true true m n pins refl number
apart p q false true m n a b e =
    let f : p + 131072 * m ≡ q + 65536 + 131072 * n = sym (bits_clear p m) ∙ e ∙ bits_set q n in absurd (omega arith)
apart p q true false m n a b e =
    let f : p + 65536 + 131072 * m ≡ q + 131072 * n = sym (bits_set p m) ∙ e ∙ bits_clear q n in absurd (omega arith)

pub words_apart : (v w : Word) → v.pins < 65536 → w.pins < 65536 → (word_bits v ≡ word_bits w) ↔ (v ≡ w)
words_apart v w a b = (apart v.pins w.pins v.writing w.writing v.number w.number a b, ap word_bits)

head_of : (n : ℕ) → Bool → Head
head_of n b = record { length = n; closed = b }

heads_equal : (m n : ℕ) (a b : Bool) → bit a + 2 * m ≡ bit b + 2 * n → (m ≡ n) × (a ≡ b)
heads_equal m n false false e = (omega arith, refl)
heads_equal m n true true e = (omega arith, refl)
heads_equal m n false true e = absurd (omega arith)
heads_equal m n true false e = absurd (omega arith)

same_head : (g h : Head) → g.length ≡ h.length → g.closed ≡ h.closed → g ≡ h
same_head g h a b =
    ap (λ (n : ℕ). let x : Head = record { length = n; closed = g.closed } in x) a ∙ ap (λ (c : Bool). let x : Head = record { length = h.length; closed = c } in x) b

pub heads_apart : (g h : Head) → (head_bits g ≡ head_bits h) ↔ (g ≡ h)
heads_apart g h = (λ e. let both = heads_equal g.length h.length g.closed h.closed e in same_head g h both.0 both.1, ap head_bits)

read_pins : (p n : ℕ) (b : Bool) → p < 65536 → word_bits (word_of p b n) % 65536 ≡ p
read_pins p n true small = let e = bits_set p n in omega arith
read_pins p n false small = let e = bits_clear p n in omega arith

read_writing : (p n : ℕ) (b : Bool) → p < 65536 → word_bits (word_of p b n) / 65536 % 2 ≡ bit b
read_writing p n true small = let e = bits_set p n in omega arith
read_writing p n false small = let e = bits_clear p n in omega arith

read_number : (p n : ℕ) (b : Bool) → p < 65536 → word_bits (word_of p b n) / 131072 ≡ n
read_number p n true small = let e = bits_set p n in omega arith
read_number p n false small = let e = bits_clear p n in omega arith

pub pins_read : (w : Word) → w.pins < 65536 → word_bits w % 65536 ≡ w.pins
pins_read w small = read_pins w.pins w.number w.writing small

pub writing_read : (w : Word) → w.pins < 65536 → word_bits w / 65536 % 2 ≡ bit w.writing
writing_read w small = read_writing w.pins w.number w.writing small

pub number_read : (w : Word) → w.pins < 65536 → word_bits w / 131072 ≡ w.number
number_read w small = read_number w.pins w.number w.writing small

read_head : (n : ℕ) (b : Bool) → ((bit b + 2 * n) % 2 ≡ bit b) × ((bit b + 2 * n) / 2 ≡ n)
read_head n true = (omega arith, omega arith)
read_head n false = (omega arith, omega arith)

pub head_read : (h : Head) → (head_bits h % 2 ≡ bit h.closed) × (head_bits h / 2 ≡ h.length)
head_read h = read_head h.length h.closed

-- the word of a slot whose pins were written
pinned_word : (s : State) (j n : ℕ) → Invariant s → j ≤ s.keep → word (with_slot s j (with_pins (slot s j) n)) j ≡ record (word s j) { pins = n }
pinned_word s j n h within = elim (pins_at s j n j h within) [
  | inl e ↦ let same = pins_alone s.slots j n j in same_word _ _ _ _ _ _ e.1 same.1 same.0
  | inr e ↦ absurd (e.0 refl)
]

pub pin_bits : (s : State) (i : ℕ) (x : Seat) → SeatIs seating.Found s i x → word_bits (word (pin s i x).state (place s (cursor x))) ≡ word_bits (word s (place s (cursor x))) + 1
pin_bits s i x is =
    let j = place s (cursor x) in
    ap word_bits (pinned_word s j ((word s j).pins + 1) is.sound (place_within s.keep (cursor x))) ∙ bits_more (record (word s j) { pins = (word s j).pins + 1 }) (word s j) refl refl refl

-- an unpin of a slot that is pinned
less_bits : (s : State) (j : ℕ) → Invariant s → j ≤ s.keep → 1 ≤ (word s j).pins → word_bits (word (with_slot s j (with_pins (slot s j) ((word s j).pins - 1))) j) + 1 ≡ word_bits (word s j)
less_bits s j h within some =
    ap (λ (w : Word). word_bits w + 1) (pinned_word s j ((word s j).pins - 1) h within)
    ∙ sym (bits_more (word s j) (record (word s j) { pins = (word s j).pins - 1 }) (omega arith) refl refl)

pub unpin_bits : (s : State) (i : ℕ) (x : Seat) → SeatIs seating.Reading s i x → word_bits (word (unpin s i x).state (place s (cursor x))) + 1 ≡ word_bits (word s (place s (cursor x)))
unpin_bits s i x is =
    let j = place s (cursor x) in
    let phase = is.within in
    less_bits s j is.sound (place_within s.keep (cursor x)) (some_pin s i x is.sound is.there (rw phase (one_at j j refl)))

pub failed_bits : (s : State) (i : ℕ) (x : Seat) → SeatIs seating.Failed s i x → word_bits (word (unpin_failed s i x).state (place s (cursor x))) + 1 ≡ word_bits (word s (place s (cursor x)))
failed_bits s i x is =
    let j = place s (cursor x) in
    let phase = is.within in
    less_bits s j is.sound (place_within s.keep (cursor x)) (some_pin s i x is.sound is.there (rw phase (one_at j j refl)))

not_true : (b : Bool) → not b ≡ true → b ≡ false
not_true true e = absurd (cc)
not_true false e = refl

-- the test of the word that the publisher knows, as a word and as bits
known_is : (s : State) (w : Word) → is_known s w ≡ true → w ≡ known_word s
known_is s w e =
    let both = and_parts _ _ e in
    let two = and_parts _ _ both.0 in
    same_word w.pins 0 w.writing false w.number (floor s (length s.log)) (eqb-true _ _ two.1) (not_true w.writing both.1) (eqb-true _ _ two.0)

is_known_of : (s : State) (w : Word) → w ≡ known_word s → is_known s w ≡ true
is_known_of s w e = rw (e, eq-eqb (floor s (length s.log)) (floor s (length s.log)) refl) refl

pub known_bits : (s : State) (w : Word) → w.pins < 65536 → (is_known s w ≡ true) ↔ (word_bits w ≡ word_bits (known_word s))
known_bits s w small = (
  λ e. ap word_bits (known_is s w e),
  λ e. is_known_of s w ((words_apart w (known_word s) small (omega arith)).0 e),
)

pub begin_bits : (s : State) (p : List ℕ) → PublisherIs publishing.Between s → is_known s (word s (next_place s)) ≡ true
    → word_bits (word (begin s p).state (next_place s)) ≡ word_bits (known_word s) + 65536
begin_bits s p is e =
    let known = known_is s (word s (next_place s)) e in
    rw e (ap (λ (x : Slot). word_bits x.word) (next_here s (begun_slot s) is.sound) ∙ ap (λ (w : Word). word_bits (record w { writing = true })) known ∙ omega arith)

pub finish_bits : (s : State) → PublisherIs publishing.Filling s
    → word_bits (word (finish s).state (next_place s)) ≡ word_bits (word s (next_place s)) + (131072 * (length s.log + 1 - floor s (length s.log)) - 65536)
finish_bits s is =
    let h = is.sound in
    let w = word s (next_place s) in
    let phase = is.within in
    let number : w.number ≡ length s.log - s.keep = rw phase at h.slots.numbers.next in
    let set : w.writing ≡ true = (h.slots.writing (next_place s) (place_within s.keep (length s.log))).1 (rw phase tt, refl) in
    let old : word_bits w ≡ w.pins + 65536 + 131072 * w.number = ap (λ (b : Bool). word_bits (word_of w.pins b w.number)) set ∙ bits_set w.pins w.number in
    let new : word_bits (word (finish s).state (next_place s)) ≡ w.pins + 131072 * (length s.log + 1) =
    ap (λ (x : Slot). word_bits x.word) (next_here s (finished_slot s) h) ∙ bits_clear w.pins (length s.log + 1) in
    omega arith

next_within : (phase : PublisherPhase) (keep n : ℕ) → next_number phase keep n ≤ n + 1
next_within publishing.Between keep n = omega arith
next_within publishing.Begun keep n = omega arith
next_within publishing.Filling keep n = omega arith
next_within publishing.Finished keep n = omega arith

held_within : (x : Slot) (log : List (List ℕ)) (n : ℕ) → HoldsPacket x (slice_get log n) → n < length log
held_within x [] n h = absurd h
held_within x (p ∷ log) zero h = omega arith
held_within x (p ∷ log) (suc n) h = omega (arith, held_within x log n h)

pending_length : (phase : PublisherPhase) (log : List (List ℕ)) (p : List ℕ) → length (with_pending phase log p) ≤ length log + 1
pending_length publishing.Between log p = omega arith
pending_length publishing.Begun log p = omega arith
pending_length publishing.Filling log p = omega arith
pending_length publishing.Finished log p = omega (arith, length_push log p)

bits_small : (p n : ℕ) (b : Bool) → p ≤ 1024 → n ≤ 70368744177665 → word_bits (word_of p b n) < 18446744073709551616
bits_small p n true few short = let e = bits_set p n in omega arith
bits_small p n false few short = let e = bits_clear p n in omega arith

bit_small : (b : Bool) → bit b ≤ 1
bit_small true = omega arith
bit_small false = omega arith

-- a slot's number is at most that of the packet that is pending
number_of : (s : State) (j : ℕ) (w : Bool) (n : ℕ) → Invariant s → j ≤ s.keep → (word s j).writing ≡ w → (word s j).number ≡ n → n ≤ length s.log + 1
number_of s j true n h within writing number =
    let there = (h.slots.writing j within).0 writing in
    let next : n ≡ next_number s.publisher.phase s.keep (length s.log) = sym number ∙ ap (λ k. (word s k).number) there.1 ∙ h.slots.numbers.next in
    let low = next_within s.publisher.phase s.keep (length s.log) in omega arith
number_of s j false zero h within writing number = omega arith
number_of s j false (suc m) h within writing number =
    let holds = h.slots.packets j m within (number ∙ omega arith, writing) in
    let below = held_within (slot s j) (with_pending s.publisher.phase s.log s.publisher.packet) m holds in
    let size = pending_length s.publisher.phase s.log s.publisher.packet in
    omega arith

pub word_fits : (s : State) (j : ℕ) → Invariant s → length s.seats ≤ 1024 → length s.log ≤ 70368744177664 → j ≤ s.keep → word_bits (word s j) < 18446744073709551616
word_fits s j h few short within =
    let w = word s j in
    let pins = h.slots.pins j within in
    let most = pins_within s.keep s.seats j in
    let number = number_of s j w.writing w.number h within refl refl in
    bits_small w.pins w.number w.writing (omega arith) (omega arith)

pub head_fits : (s : State) → Invariant s → length s.log ≤ 70368744177664 → head_bits s.head < 18446744073709551616
head_fits s h short = let size = h.slots.numbers.size in let one = bit_small s.head.closed in omega arith

pub pins_fit : (s : State) (j : ℕ) → Invariant s → j ≤ s.keep → (word s j).pins ≤ length s.seats
pins_fit s j h within = let pins = h.slots.pins j within in let most = pins_within s.keep s.seats j in omega arith
