-- The pins of the running ring keep the block's rule: by the core's law of each kind.
use Rattle.std.proofs.Common.{Option, None, ◌≡◌, ◌≢◌, ℕ, zero, suc, ◌+◌, ◌-◌, ◌%◌, ◌==◌, ◌≤◌, ◌<◌, ◌^◌, Bool, false, true, List, [], ◌∷◌, ◌++◌, map, length, get_or, set, sym, refl, ap, ◌∙◌, subst, length-set, arith, Some, get_or-set_same, le-ltb, if◌then◌else◌}
use Rattle.std.specs.Prelude.{slice_get}
use mathlib.Core.Logic.{inl, inr}
use mathlib.Core.Option as maybe
use mathlib.Core.List.{IsPrefix}
use base.Growing.{prefix_refl}
use Rattle.std.proofs.Math.Nat.{mod-eq_of_lt, add-mod_right}
use Rattle.std.proofs.lemmas.Bool.Decides.{eqb_tells}
use Rattle.cursor.proofs.Counting.{read_place}
use lib.ListN.{take, drop}
use lib.ListN.{get_elem?}
use Rattle.ring_steps.specs.declared.views.Seat.{Seat}
use Rattle.ring_steps.specs.declared.views.SeatPhase.{SeatPhase}
use Rattle.ring_steps.specs.declared.views.SeatPhase.TheVariants as seating
use Rattle.ring_steps.specs.declared.words.Slot.{Slot}
use Rattle.ring_steps.specs.Bits.{head_bits, word_bits}
use Rattle.ring_steps.specs.Ring as Ring
use Rattle.ring_steps.specs.Ring.{cursor, place, slot, word, with_seat, with_slot, fresh_slot}
use Rattle.ring_steps.specs.Slots.{Invariant, IsHolding, SeatKnows}
use Rattle.packet_ring.proofs.Ends.{get_with_end, get_without_end}
use Rattle.ring_steps.specs.Moves.{read_all}
use Rattle.ring_steps.specs.Step.{with_pins, holds}
use Rattle.ring_steps.proofs.Places.{at_set, pins_alone, place_within}
use Rattle.ring_steps.proofs.Pinning.{pin_keeps, unpin_keeps, unpin_failed_keeps}
use Rattle.ring_steps.proofs.Bits.{bits_more, word_fits, failed_bits, unpin_bits, pins_fit}
use Rattle.ring_steps.proofs.Moves.{read_all_keeps}
use Rattle.ring_steps.proofs.Reading.{own_packet}
use Rattle.ring_steps.specs.declared.words.Word.{Word}
use Rattle.packet_ring.specs.Steps.{Pins, Unpins, missed, took}
use Rattle.packet_ring.specs.Table.{State, Access, exclusive, readable, Right, no_right, may_read, Act, keeps, pins, unpins, accesses_after, stepped, Goes, Allows}
use Rattle.packet_ring.specs.Rule.{Limits, IsSized, View, Knows, Holds, bytes_of, Fits, AccessFits, HasCells, hold_of, holders, publisher_view, seat_view}
use Rattle.packet_ring.specs.Operation.{Operation}
use Rattle.ring_steps.specs.declared.calls.SeatCall.TheVariants.{Take}
use Rattle.ring_steps.specs.RingSteps.{by_seat}
use Rattle.ring_steps.specs.Step.{pin, read_byte, unpin, unpin_failed}
use Rattle.packet_ring.proofs.Going.{OneStep, take_step, goes_by, seat_allows}
use Rattle.packet_ring.proofs.Heads.{map_set, same_holders, or_given}

-- with another view of this seat as many more hold as it holds more
count_moved : (keep : ℕ) (xs : List Seat) (i : ℕ) (x y : Seat) (j : ℕ) → slice_get xs i ≡ Some x
    → hold_of x.phase (cursor x % (keep + 1)) j + holders keep (set xs i y) j ≡ hold_of y.phase (cursor y % (keep + 1)) j + holders keep xs j
count_moved keep [] i x y j at = absurd (cc)
count_moved keep (z ∷ xs) zero x y j at = let h : hold_of z.phase (cursor z % (keep + 1)) j ≡ hold_of x.phase (cursor x % (keep + 1)) j = ap (λ (u : Seat). hold_of u.phase (cursor u % (keep + 1)) j) (ap (or_given z) at) in omega arith
count_moved keep (z ∷ xs) (suc i) x y j at = let h = count_moved keep xs i x y j at in omega arith

moved_holders : (keep : ℕ) (xs : List Seat) (i : ℕ) (x y : Seat) (j m m' : ℕ) → slice_get xs i ≡ Some x
    → hold_of x.phase (cursor x % (keep + 1)) j + m' ≡ hold_of y.phase (cursor y % (keep + 1)) j + m → m ≡ holders keep xs j → m' ≡ holders keep (set xs i y) j
moved_holders keep xs i x y j m m' at e is = let h = count_moved keep xs i x y j at in omega arith

abbrev pub or_packet : List ℕ → Option (List ℕ) → List ℕ
or_packet d None = d
or_packet d (Some p) = p

-- a packet of the log is sized
sized : (most : ℕ) (log : List (List ℕ)) (k : ℕ) (p : List ℕ) → ((n : ℕ) → n < length log → IsSized most (get_or log n [])) → slice_get log k ≡ Some p → IsSized most p
sized most [] k p h at = absurd (cc)
sized most (q ∷ log) zero p h at = subst (IsSized most) (ap (or_packet q) at) (h 0 (omega arith))
sized most (q ∷ log) (suc k) p h at = sized most log k p (λ n l. h (suc n) (omega arith)) at

-- a step by a seat on the word of the slot at place j, which changes the slot's word and the seat's view
pub slot_kept : {L : Limits} (s : Ring.State) (t : State View (List ℕ)) → Fits L s t → (i j : ℕ) (y : Seat) (b : Slot) (v : ℕ) (r : Right) (a : Act) → Invariant (with_seat (with_slot s j b) i y) → v ≡ word_bits b.word
    → ((k : ℕ) → k ≤ s.keep → AccessFits (with_seat (with_slot s j b) i y) k (get_or (accesses_after t.accesses r a) (suc k) exclusive)) → Fits L (with_seat (with_slot s j b) i y) (stepped t (suc j) v (suc i) r (inr y) a t.log)
slot_kept s t fits i j y b v r a sound bits accesses = record {
  sound = sound;
  few = length-set s.seats i y ∙ fits.few;
  many = fits.many;
  packets = fits.packets;
  pending = fits.pending;
  short = fits.short;
  words = ap (λ (ws : List ℕ). set ws (suc j) v) fits.words ∙ ap (λ (ws : List ℕ). head_bits s.head ∷ ws) (ap (set (map (λ (x : Slot). word_bits x.word) s.slots) j) bits ∙ map_set (λ (x : Slot). word_bits x.word) s.slots j b);
  views = ap (λ (vs : List View). set vs (suc i) (inr y)) fits.views ∙ ap (λ (vs : List View). publisher_view s ∷ vs) (map_set seat_view s.seats i y);
  log = fits.log;
  accesses = accesses;
}

same_cells : (cells : List ℕ) (a b : Slot) → b.len ≡ a.len → b.bytes ≡ a.bytes → HasCells cells a → HasCells cells b
same_cells cells a b len bytes has = (len ∙ has.0, ap (λ (u : ℕ × List ℕ). lib.ListN.take u.0 u.1) {x = (b.len, b.bytes)} {y = (a.len, a.bytes)} (λ i. (len i, bytes i)) ∙ has.1 ∙ ap (λ (n : ℕ). lib.ListN.take n (Rattle.packet_ring.specs.Rule.bytes_of cells)) (sym len))

module _ (s : Ring.State) (i j n : ℕ) (x y : Seat) (there : slice_get s.seats i ≡ Some x) where
  -- the state after the slot at place j has n pins, and the seat this view
  abbrev pub pinned_to : Ring.State
  pinned_to = with_seat (with_slot s j (with_pins (slot s j) n)) i y

  abbrev before : ℕ → ℕ
  before k = hold_of x.phase (cursor x % (s.keep + 1)) k

  abbrev now : ℕ → ℕ
  now k = hold_of y.phase (cursor y % (s.keep + 1)) k

  cells_kept : (k : ℕ) (cells : List ℕ) → HasCells cells (slot s k) → HasCells cells (slot pinned_to k)
  cells_kept k cells has = let p = pins_alone s.slots j n k in same_cells cells (slot s k) (slot pinned_to k) p.2 p.3 has

  -- the access to a unit stays, where the seat holds as much there as before
  access_kept : (k : ℕ) → before k ≡ now k → (h : Access) → AccessFits s k h → AccessFits pinned_to k h
  access_kept k same exclusive fit = (pins_alone s.slots j n k).1 ∙ fit
  access_kept k same (readable m c) fit = ((pins_alone s.slots j n k).1 ∙ fit.0, fit.1 ∙ same_holders s.keep s.seats i x y k there same, cells_kept k c fit.2)

  -- and one with a part more or less out, where the seat holds more or less there
  access_moved : (k m m' : ℕ) (c : List ℕ) → before k + m' ≡ now k + m → AccessFits s k (readable m c) → AccessFits pinned_to k (readable m' c)
  access_moved k m m' c more fit = ((pins_alone s.slots j n k).1 ∙ fit.0, moved_holders s.keep s.seats i x y k m m' there more fit.1, cells_kept k c fit.2)

-- ---- where a unit's cells are
is_readable : Access → Bool
is_readable exclusive = false
is_readable (readable m c) = true

pub readable_there : (hs : List Access) (i m : ℕ) (c : List ℕ) → get_or hs i exclusive ≡ readable m c → get_elem? hs i ≡ maybe.some (readable m c)
readable_there [] i m c e = absurd (cc)
readable_there (h ∷ hs) zero m c e = ap (λ (x : Access). maybe.some x) e
readable_there (h ∷ hs) (suc i) m c e = readable_there hs i m c e

-- a slot that nobody writes has readable cells
pub record AccessAt (s : Ring.State) (j : ℕ) (h : Access) : Type 0 where
  pub parts : ℕ
  pub cells : List ℕ
  pub is : h ≡ readable parts cells
  pub fits : AccessFits s j (readable parts cells)

pub access_at : (s : Ring.State) (j : ℕ) (h : Access) → AccessFits s j h → (word s j).writing ≡ false → AccessAt s j h
access_at s j exclusive fit w = absurd (cc)
access_at s j (readable m c) fit w = record { parts = m; cells = c; is = refl; fits = fit }

at_most_one : (b : Bool) → (Rattle.std.specs.Prelude.if◌then◌else◌ b 1 0) ≤ 1
at_most_one true = omega arith
at_most_one false = omega arith

one_holds : (φ : SeatPhase) (at j : ℕ) → hold_of φ at j ≤ 1
one_holds seating.Out at j = omega arith
one_holds seating.Between at j = omega arith
one_holds seating.Found at j = omega arith
one_holds seating.Holding at j = at_most_one (at == j)
one_holds seating.Reading at j = at_most_one (at == j)
one_holds seating.Failed at j = omega arith
one_holds seating.Missed at j = omega arith

few_hold : (keep : ℕ) (xs : List Seat) (j : ℕ) → holders keep xs j ≤ length xs
few_hold keep [] j = omega arith
few_hold keep (x ∷ xs) j = let h = few_hold keep xs j in let o = one_holds x.phase (cursor x % (keep + 1)) j in omega arith

-- ---- PIN
pub elem_within : (hs : List Access) (i : ℕ) (h : Access) → get_elem? hs i ≡ maybe.some h → i < length hs
elem_within [] i h e = absurd (maybe.some-ne-none h (sym e))
elem_within (x ∷ hs) zero h e = omega arith
elem_within (x ∷ hs) (suc i) h e = let l = elem_within hs i h e in omega arith

not_writing : (a b : Bool) → (Rattle.std.specs.Prelude.◌&&◌ a (Rattle.std.specs.Prelude.not b)) ≡ true → b ≡ false
not_writing true true e = absurd (cc)
not_writing true false e = refl
not_writing false b e = absurd (cc)

-- a unit's word, among the words of the units
pub word_at : (xs : List Slot) (j : ℕ) → get_or (map (λ (x : Slot). word_bits x.word) xs) j 0 ≡ word_bits (get_or xs j fresh_slot).word
word_at [] j = refl
word_at (x ∷ xs) zero = refl
word_at (x ∷ xs) (suc j) = word_at xs j

pub same_eq : (j : ℕ) → (j == j) ≡ true
same_eq j = elim (eqb_tells j j) [ inl e ↦ e.0 | inr e ↦ absurd (e.1 refl) ]

own_hold : (j : ℕ) → 1 ≡ hold_of seating.Holding j j
own_hold j = ap (λ (d : Bool). if d then 1 else 0) (sym (same_eq j))

other_hold : (j k : ℕ) → j ≢ k → 0 ≡ hold_of seating.Holding j k
other_hold j k ne = elim (eqb_tells j k) [ inl e ↦ absurd (ne e.1) | inr e ↦ ap (λ (d : Bool). if d then 1 else 0) (sym e.0) ]

module _ (i : ℕ) (x : Seat) (seen : List (List ℕ)) where
  abbrev me : Knows
  me = record { view = inr x; right = no_right; seen = seen }

  abbrev phased : Bool → Seat
  phased b = record x { phase = if b then seating.Holding else seating.Failed }

  module _ {L : Limits} (s : Ring.State) (t : State View (List ℕ)) (fits : Fits L s t) (there : slice_get s.seats i ≡ Some x) (within : x.phase ≡ seating.Found) (pre : IsPrefix seen t.log) where
    abbrev j : ℕ
    j = place s (cursor x)

    abbrev b : Slot
    b = with_pins (slot s j) ((word s j).pins + 1)

    near : j ≤ s.keep
    near = place_within s.keep (cursor x)

    n : ℕ
    n = get_or t.words (suc j) 0

    found : get_or t.words (suc j) 0 ≡ word_bits (word s j)
    found = ap (λ (ws : List ℕ). get_or ws (suc j) 0) fits.words ∙ word_at s.slots j

    few' : (y : Seat) → length (set s.seats i y) ≤ 1024
    few' y = let m = fits.many in let f = fits.few in let e = length-set s.seats i y in omega arith

    few_pins : (word s j).pins ≤ 1024
    few_pins = let p = pins_fit s j fits.sound near in let f = fits.few in let g = fits.many in omega arith

    one_more : word_bits b.word ≡ word_bits (word s j) + 1
    one_more = bits_more b.word (word s j) refl refl refl

    fits_still : (y : Seat) → Invariant (with_seat (with_slot s j b) i y) → word_bits b.word < 2 ^ 64
    fits_still y sound = let w : word (with_seat (with_slot s j b) i y) j ≡ b.word = ap (λ (u : Slot). u.word) (get_or-set_same s.slots j b fresh_slot (let l = fits.sound.phases.width in let h = near in omega arith)) in
        subst (λ (u : Word). word_bits u < 2 ^ 64) w (word_fits (with_seat (with_slot s j b) i y) j sound (few' y) fits.short near)

    bits_now : (y : Seat) → Invariant (with_seat (with_slot s j b) i y) → (get_or t.words (suc j) 0 + 1) % 2 ^ 64 ≡ word_bits b.word
    bits_now y sound = let e : get_or t.words (suc j) 0 + 1 ≡ word_bits b.word = ap (λ (m : ℕ). m + 1) found ∙ sym one_more in ap (λ (m : ℕ). m % 2 ^ 64) e ∙ mod-eq_of_lt (fits_still y sound)

    sound_by : (c : Bool) → holds (word s j) (cursor x) ≡ c → Invariant (with_seat (with_slot s j b) i (phased c))
    sound_by c is = subst (λ (d : Bool). Invariant (with_seat (with_slot s j b) i (phased d))) is (pin_keeps s i x fits.sound there within)

    was_idle : (k : ℕ) → 0 ≡ hold_of x.phase (cursor x % (s.keep + 1)) k
    was_idle k = subst (λ (φ : SeatPhase). 0 ≡ hold_of φ (cursor x % (s.keep + 1)) k) (sym within) refl

    pin_leads : (c : Bool) → holds (word s j) (cursor x) ≡ c → (pin s i x).state ≡ with_seat (with_slot s j b) i (phased c)
    pin_leads c is = ap (λ (d : Bool). with_seat (with_slot s j b) i (phased d)) is

    pin_step : (c : Bool) → holds (word s j) (cursor x) ≡ c → OneStep (suc i) s (with_seat (with_slot s j b) i (phased c))
    pin_step c is = take_step s (with_seat (with_slot s j b) i (phased c)) i x (pin s i x) seating.Found there within refl refl (pin_leads c is)

    goes : (c : Bool) → holds (word s j) (cursor x) ≡ c → Goes (Holds L) (Operation L) t (suc i) me (suc j) (λ m. (m + 1) % 2 ^ 64) (Pins L.1 (suc j) x me)
    goes false is = let sound = sound_by false is in
        let kept = slot_kept s t fits i j (phased false) b ((get_or t.words (suc j) 0 + 1) % 2 ^ 64) no_right keeps sound (bits_now (phased false) sound)
        (λ k low. access_kept s i j ((word s j).pins + 1) x (phased false) there k (sym (was_idle k)) (get_or t.accesses (suc k) exclusive) (fits.accesses k low)) in
        goes_by (suc i) (suc j) me (λ m. (m + 1) % 2 ^ 64) (Pins L.1 (suc j) x me) (inr (phased false)) keeps t.log tt (prefix_refl t.log) fits kept (pin_step false is)
        (record { word = word s j; bits = found; view = ap (λ (d : Bool). inr (phased d)) (sym is); held = λ e. absurd (cc); failed = λ e. refl; few = few_pins; grows = pre })
    goes true is =
        let y : Seat = phased true in let sound = sound_by true is in let m' : ℕ = (word s j).pins + 1 in let s' : Ring.State = pinned_to s i j m' x y there in
        let H = access_at s j (get_or t.accesses (suc j) exclusive) (fits.accesses j near) (not_writing ((word s j).number == cursor x + 1) (word s j).writing is) in let m : ℕ = H.parts in let c : List ℕ = H.cells in
        let elem = readable_there t.accesses (suc j) m c H.is in let few = few_hold s.keep s.seats j in let count : m ≡ holders s.keep s.seats j = H.fits.1 in let seats = fits.few in let many = fits.many in
        let accesses' : (k : ℕ) → k ≤ s.keep → AccessFits s' k (get_or (set t.accesses (suc j) (readable (suc m) c)) (suc k) exclusive) = λ k low. elim (at_set t.accesses (suc j) (suc k) (readable (suc m) c) exclusive (elem_within t.accesses (suc j) (readable m c) elem)) [
          | inl e ↦ let same : k ≡ j = let f = e.0 in omega arith in subst (AccessFits s' k) (sym e.1) (subst (λ (l : ℕ). AccessFits s' l (readable (suc m) c)) (sym same) (access_moved s i j m' x y there j m (suc m) c (let z = was_idle j in let o = own_hold j in omega arith) H.fits))
          | inr e ↦ let other : j ≢ k = λ f. e.0 (ap suc (sym f)) in subst (AccessFits s' k) (sym e.1) (access_kept s i j m' x y there k (sym (was_idle k) ∙ other_hold j k other) (get_or t.accesses (suc k) exclusive) (fits.accesses k low))
        ] in
        let own = own_packet s' i y sound (read_place s.seats i x y there) tt in let has = cells_kept s i j m' x y there j c H.fits.2 in let B : List ℕ = bytes_of c in
        let kept = slot_kept s t fits i j y b ((get_or t.words (suc j) 0 + 1) % 2 ^ 64) no_right (pins (suc j) m c) sound (bits_now y sound) accesses' in
        goes_by (suc i) (suc j) me (λ m. (m + 1) % 2 ^ 64) (Pins L.1 (suc j) x me) (inr y) (pins (suc j) m c) t.log (elem, omega arith) (prefix_refl t.log) fits kept (pin_step true is) (record {
          word = word s j;
          bits = found;
          view = ap (λ (d : Bool). inr (phased d)) (sym is);
          held = λ e. (
            c,
            own.packet,
            refl,
            subst (λ (l : List (List ℕ)). slice_get l (cursor x) ≡ Some own.packet) (sym fits.log) (get_with_end s.head.closed s.log (cursor x) own.packet own.there),
            record {
              size = sym has.0 ∙ own.len;
              bytes = ap (λ (l : ℕ). take l B) (sym own.len) ∙ sym has.1 ∙ ap (λ (l : ℕ). take l (slot s' j).bytes) own.len ∙ own.bytes;
            },
            sized L.1 s.log (cursor x) own.packet fits.packets own.there,
          );
          failed = λ e. absurd (cc);
          few = few_pins;
          grows = pre;
        })

  pub pin_allows : {L : Limits} (units keep : ℕ) → keep + 2 ≡ units → x.phase ≡ seating.Found → let unit = suc (cursor x % (keep + 1)) in Allows (Holds L) (Operation L) units (suc i) me unit (λ m. (m + 1) % 2 ^ 64) (Pins L.1 unit x me)
  pin_allows {L = L} units keep size within = seat_allows units keep i x (λ k. me) (λ k. suc (cursor x % (k + 1))) (λ m. (m + 1) % 2 ^ 64) (λ k. Pins L.1 (suc (cursor x % (k + 1))) x me) (λ k e. omega arith) (λ k. refl)
      (λ s t fits many there pre small. goes s t fits there within pre (holds (word s (place s (cursor x))) (cursor x)) refl)

-- ---- UNPIN
pub set_twice : {X : Type 0} (xs : List X) (i : ℕ) (x y : X) → set (set xs i x) i y ≡ set xs i y
set_twice [] i x y = refl
set_twice (z ∷ xs) zero x y = refl
set_twice (z ∷ xs) (suc i) x y = ap (λ (ys : List _). z ∷ ys) (set_twice xs i x y)

module _ (i : ℕ) (x : Seat) {L : Limits} (s : Ring.State) (t : State View (List ℕ)) (fits : Fits L s t) (there : slice_get s.seats i ≡ Some x) where
  abbrev spot_of : ℕ
  spot_of = place s (cursor x)

  abbrev fewer : Slot
  fewer = with_pins (slot s spot_of) ((word s spot_of).pins - 1)

  abbrev minus : ℕ → ℕ
  minus m = (m + (2 ^ 64 - 1)) % 2 ^ 64

  -- one less
  less_bits : get_or t.words (suc spot_of) 0 < 2 ^ 64 → word_bits fewer.word + 1 ≡ word_bits (word s spot_of) → minus (get_or t.words (suc spot_of) 0) ≡ word_bits fewer.word
  less_bits small e = let at : get_or t.words (suc spot_of) 0 ≡ word_bits (word s spot_of) = ap (λ (ws : List ℕ). get_or ws (suc spot_of) 0) fits.words ∙ word_at s.slots spot_of in
      let sum : get_or t.words (suc spot_of) 0 + (2 ^ 64 - 1) ≡ word_bits fewer.word + 2 ^ 64 = omega arith in
      ap (λ (m : ℕ). m % 2 ^ 64) sum ∙ add-mod_right (word_bits fewer.word) (2 ^ 64) ∙ mod-eq_of_lt (let r : word_bits fewer.word < 2 ^ 64 = omega arith in r)

  new_word : (y : Seat) → word (with_seat (with_slot s spot_of fewer) i y) spot_of ≡ fewer.word
  new_word y = ap (λ (u : Slot). u.word) (get_or-set_same s.slots spot_of fewer fresh_slot (let l = fits.sound.phases.width in let h = place_within s.keep (cursor x) in omega arith))

  -- the unpin of a pin that failed
  pub unpin_failed_goes : (seen : List (List ℕ)) → x.phase ≡ seating.Failed → IsPrefix seen t.log → get_or t.words (suc spot_of) 0 < 2 ^ 64
      → Goes (Holds L) (Operation L) t (suc i) (record { view = inr x; right = no_right; seen = seen }) (suc spot_of) minus (λ _. Unpins (missed x) (record { view = inr x; right = no_right; seen = seen }))
  unpin_failed_goes seen within pre small =
      let sound = unpin_failed_keeps s i x fits.sound there within in let e = failed_bits s i x (record { sound = fits.sound; there = there; within = within }) in
      let bits : word_bits fewer.word + 1 ≡ word_bits (word s spot_of) = ap (λ (w : Word). word_bits w + 1) (sym (new_word (missed x))) ∙ e in
      let idle : (k : ℕ) → hold_of x.phase (cursor x % (s.keep + 1)) k ≡ 0 = λ k. subst (λ (φ : SeatPhase). hold_of φ (cursor x % (s.keep + 1)) k ≡ 0) (sym within) refl in
      let kept = slot_kept s t fits i spot_of (missed x) fewer (minus (get_or t.words (suc spot_of) 0)) no_right keeps sound (less_bits small bits)
      (λ k low. access_kept s i spot_of ((word s spot_of).pins - 1) x (missed x) there k (idle k) (get_or t.accesses (suc k) exclusive) (fits.accesses k low)) in
      goes_by (suc i) (suc spot_of) (record { view = inr x; right = no_right; seen = seen }) minus (λ _. Unpins (missed x) (record { view = inr x; right = no_right; seen = seen })) (inr (missed x)) keeps t.log tt (prefix_refl t.log) fits kept
      (take_step s (with_seat (with_slot s spot_of fewer) i (missed x)) i x (unpin_failed s i x) seating.Failed there within refl refl refl) (record { view = refl; right = refl; grows = pre })

  -- the unpin after the packet was read
  pub unpin_goes : (seen : List (List ℕ)) (cells p : List ℕ) → x.phase ≡ seating.Holding → slice_get s.log (cursor x) ≡ Some p → IsPrefix seen t.log → get_or t.words (suc spot_of) 0 < 2 ^ 64
      → let me : Knows = record { view = inr x; right = may_read (suc spot_of) cells; seen = seen } in Goes (Holds L) (Operation L) t (suc i) me (suc spot_of) minus (λ _. Unpins (took x p) me)
  unpin_goes seen cells p within next pre small =
      let j : ℕ = spot_of in let x₁ : Seat = record x { phase = seating.Reading; length = length p; read = p } in let y : Seat = took x p in let s₁ : Ring.State = read_all s i x p in
      let inv₁ = read_all_keeps s i x p (record { sound = fits.sound; there = there; within = within }) next in let there₁ = read_place s.seats i x x₁ there in
      let sound : Invariant (with_seat (with_slot s j fewer) i y) = subst (λ (xs : List Seat). let u : Ring.State = record (with_slot s j fewer) { seats = xs } in Invariant u) (set_twice s.seats i x₁ y) (unpin_keeps s₁ i x₁ inv₁ there₁ refl) in
      let e = unpin_bits s₁ i x₁ (record { sound = inv₁; there = there₁; within = refl }) in
      let bits : word_bits fewer.word + 1 ≡ word_bits (word s j) = ap (λ (w : Word). word_bits w + 1) (sym (new_word y)) ∙ e in
      let near : j ≤ s.keep = place_within s.keep (cursor x) in let m' : ℕ = (word s j).pins - 1 in let s' : Ring.State = pinned_to s i j m' x y there in
      let number = fits.sound.slots.held i x there (subst IsHolding (sym within) tt) in let H = access_at s j (get_or t.accesses (suc j) exclusive) (fits.accesses j near) number.1 in let c : List ℕ = H.cells in
      let m : ℕ = holders s.keep (set s.seats i y) j in let here : 1 ≡ hold_of x.phase j j = subst (λ (φ : SeatPhase). 1 ≡ hold_of φ j j) (sym within) (own_hold j) in
      let more : H.parts ≡ suc m = let cm = count_moved s.keep s.seats i x y j there in let f : H.parts ≡ holders s.keep s.seats j = H.fits.1 in omega arith in
      let elem = readable_there t.accesses (suc j) (suc m) c (H.is ∙ ap (λ (k : ℕ). readable k c) more) in let few = few_hold s.keep s.seats j in let count : H.parts ≡ holders s.keep s.seats j = H.fits.1 in let seats = fits.few in let many = fits.many in
      let accesses' : (k : ℕ) → k ≤ s.keep → AccessFits s' k (get_or (set t.accesses (suc j) (readable m c)) (suc k) exclusive) = λ k low. elim (at_set t.accesses (suc j) (suc k) (readable m c) exclusive (elem_within t.accesses (suc j) (readable (suc m) c) elem)) [
        | inl f ↦ let same : k ≡ j = let g = f.0 in omega arith in subst (AccessFits s' k) (sym f.1) (subst (λ (l : ℕ). AccessFits s' l (readable m c)) (sym same) (access_moved s i j m' x y there j H.parts m c (omega arith) H.fits))
        | inr f ↦ let other : j ≢ k = λ g. f.0 (ap suc (sym g)) in let none : hold_of x.phase j k ≡ 0 = subst (λ (φ : SeatPhase). hold_of φ j k ≡ 0) (sym within) (sym (other_hold j k other)) in
            subst (AccessFits s' k) (sym f.1) (access_kept s i j m' x y there k none (get_or t.accesses (suc k) exclusive) (fits.accesses k low))
      ] in
      let kept = slot_kept s t fits i j y fewer (minus (get_or t.words (suc j) 0)) (may_read (suc j) cells) (unpins m c) sound (less_bits small bits) accesses' in
      let me : Knows = record { view = inr x; right = may_read (suc j) cells; seen = seen } in
      goes_by (suc i) (suc j) me minus (λ _. Unpins y me) (inr y) (unpins m c) t.log (elem, omega arith) (prefix_refl t.log) fits kept (record {
        by = by_seat i Take;
        own = refl;
        from = s₁;
        copied = inr (x, p, record { sound = fits.sound; there = there; within = within }, next, refl);
        outcome = unpin s₁ i x₁;
        step = record { view = x₁; there = there₁; acts = sym (ap (λ (d : Bool). if d then read_byte s₁ i x₁ else unpin s₁ i x₁) (le-ltb (length p) (length p) (omega arith))) };
        atomic = refl;
        leads = ap (λ (xs : List Seat). let u : Ring.State = record (with_slot s j fewer) { seats = xs } in u) (set_twice s.seats i x₁ y);
      }) (record { view = refl; right = refl; grows = pre })

pub prefix_get : {X : Type 0} (xs ys : List X) (k : ℕ) (x : X) → IsPrefix xs ys → slice_get xs k ≡ Some x → slice_get ys k ≡ Some x
prefix_get [] ys k x pre at = absurd (cc)
prefix_get (a ∷ xs) [] k x pre at = absurd (mathlib.Core.List.cons≢nil pre.1)
prefix_get (a ∷ xs) (b ∷ ys) zero x pre at = ap (λ (zs : List _). slice_get zs 0) (sym pre.1) ∙ at
prefix_get (a ∷ xs) (b ∷ ys) (suc k) x pre at = ap (λ (zs : List _). slice_get zs (suc k)) (sym pre.1) ∙ prefix_get xs (xs ++ pre.0) k x (pre.0, refl) at

module _ (units keep i : ℕ) (size : keep + 2 ≡ units) (x : Seat) (seen : List (List ℕ)) where
  abbrev its_unit : ℕ
  its_unit = suc (cursor x % (keep + 1))

  pub unpin_failed_allows : {L : Limits} → x.phase ≡ seating.Failed → let me : Knows = record { view = inr x; right = no_right; seen = seen } in Allows (Holds L) (Operation L) units (suc i) me its_unit (λ m. (m + (2 ^ 64 - 1)) % 2 ^ 64) (λ _. Unpins (missed x) me)
  unpin_failed_allows {L = L} within = let me : Knows = record { view = inr x; right = no_right; seen = seen } in
      seat_allows units keep i x (λ k. me) (λ k. suc (cursor x % (k + 1))) (λ m. (m + (2 ^ 64 - 1)) % 2 ^ 64) (λ k _. Unpins (missed x) me) (λ k e. omega arith) (λ k. refl) (λ s t fits many there pre low. unpin_failed_goes i x s t fits there seen within pre low)

  pub unpin_allows : {L : Limits} (cells p : List ℕ) → x.phase ≡ seating.Holding → slice_get seen (cursor x) ≡ Some p
      → let me : Knows = record { view = inr x; right = may_read its_unit cells; seen = seen } in Allows (Holds L) (Operation L) units (suc i) me its_unit (λ m. (m + (2 ^ 64 - 1)) % 2 ^ 64) (λ _. Unpins (took x p) me)
  unpin_allows {L = L} cells p within known = let me : ℕ → Knows = λ k. record { view = inr x; right = may_read (suc (cursor x % (k + 1))) cells; seen = seen } in
      seat_allows units keep i x me (λ k. suc (cursor x % (k + 1))) (λ m. (m + (2 ^ 64 - 1)) % 2 ^ 64) (λ k _. Unpins (took x p) (me k)) (λ k e. omega arith) (λ k. refl) (λ s t fits many there pre low.
      let knows = subst (λ (φ : SeatPhase). SeatKnows φ s.keep s.log x) within (fits.sound.phases.knows i x there) in let before = (fits.sound.slots.seen i x there).0 in let here = knows.0 in
      let next = get_without_end s.head.closed s.log (cursor x) p (omega arith) (subst (λ (l : List (List ℕ)). slice_get l (cursor x) ≡ Some p) fits.log (prefix_get seen t.log (cursor x) p pre known)) in
      unpin_goes i x s t fits there seen cells p within next pre low)
