-- A begin of the running ring keeps the block's rule: by the core's law.
use Rattle.std.proofs.Common.{◌≡◌, ◌≢◌, ℕ, zero, suc, ◌+◌, ◌-◌, ◌*◌, ◌%◌, ◌≤◌, ◌<◌, ◌^◌, Bool, false, true, List, [], ◌∷◌, map, length, get_or, set, sym, refl, ap, ◌∙◌, subst, arith, eqb, eq-eqb, ne_eqb, get_or-set_same, get_or-set_other, inl, inr, if◌then◌else◌}
use mathlib.Core.Logic.{inl, inr}
use mathlib.Core.List.{IsPrefix}
use base.Growing.{prefix_refl}
use prog.Atomic.{either}
use lib.ListN.{get_elem?}
use Rattle.std.specs.Prelude.{Some, slice_get}
use Rattle.std.proofs.lemmas.Bool.Decides.{eqb_tells}
use Rattle.ring_steps.specs.declared.views.Publisher.{Publisher}
use Rattle.ring_steps.specs.declared.views.PublisherPhase.TheVariants as publishing
use Rattle.ring_steps.specs.declared.views.Seat.{Seat}
use Rattle.ring_steps.specs.declared.views.SeatPhase.{SeatPhase}
use Rattle.ring_steps.specs.declared.views.SeatPhase.TheVariants as seating
use Rattle.ring_steps.specs.declared.words.Slot.{Slot}
use Rattle.ring_steps.specs.declared.words.Word.{Word}
use Rattle.ring_steps.specs.Bits.{head_bits, word_bits, known_word}
use Rattle.ring_steps.specs.Ring as Ring
use Rattle.ring_steps.specs.Ring.{cursor, place, slot, word, with_publisher, with_slot, fresh_slot}
use Rattle.ring_steps.specs.Slots.{Invariant, pin_of, pins_of}
use Rattle.ring_steps.specs.Atomic.{is_atomic}
use Rattle.ring_steps.specs.Step.{PublisherActs, is_known, next_place, begun, refused}
use Rattle.ring_steps.proofs.Places.{at_set, place_within}
use Rattle.ring_steps.proofs.Begins.{begin_keeps, refused_step}
use Rattle.ring_steps.proofs.Bits.{known_bits, begin_bits, pins_fit, words_apart}
use Rattle.packet_ring.specs.Table.{State, Access, exclusive, readable, Right, no_right, Act, keeps, begins, accesses_after, stepped, Goes, Allows, AllowsBeside}
use Rattle.packet_ring.specs.Rule.{Limits, IsSized, IsPending, View, Knows, Holds, Fits, AccessFits, HasCells, hold_of, holders}
use Rattle.packet_ring.specs.Operation.{Operation}
use Rattle.ring_steps.specs.declared.calls.PublisherCall.TheVariants.{Publish}
use Rattle.ring_steps.specs.declared.views.PublisherPhase.{PublisherPhase}
use Rattle.ring_steps.specs.RingSteps.{by_publisher}
use Rattle.packet_ring.specs.Steps.{Begins}
use Rattle.packet_ring.proofs.Going.{OneStep, goes_by, known_to, seat_there}
use Rattle.packet_ring.proofs.Heads.{map_set, set_same}
use Rattle.packet_ring.proofs.Pinned.{word_at, access_at, readable_there, elem_within}

-- a step by the publisher on the word of the slot at place j, which changes that slot and the publisher's view
pub written_kept : {L : Limits} (s : Ring.State) (t : State View (List ℕ)) → Fits L s t → (j : ℕ) (p : Publisher) (b : Slot) (v : ℕ) (r : Right) (a : Act) → IsPending L.1 p.phase p.packet → Invariant (with_publisher (with_slot s j b) p) → v ≡ word_bits b.word
    → ((k : ℕ) → k ≤ s.keep → AccessFits (with_publisher (with_slot s j b) p) k (get_or (accesses_after t.accesses r a) (suc k) exclusive)) → Fits L (with_publisher (with_slot s j b) p) (stepped t (suc j) v 0 r (inl (s.log, p)) a t.log)
written_kept s t fits j p b v r a pending sound bits accesses = record {
  sound = sound;
  few = fits.few;
  many = fits.many;
  packets = fits.packets;
  pending = pending;
  short = fits.short;
  words = ap (λ (ws : List ℕ). set ws (suc j) v) fits.words ∙ ap (λ (ws : List ℕ). head_bits s.head ∷ ws) (ap (set (map (λ (x : Slot). word_bits x.word) s.slots) j) bits ∙ map_set (λ (x : Slot). word_bits x.word) s.slots j b);
  views = ap (λ (vs : List View). set vs 0 (inl (s.log, p))) fits.views;
  log = fits.log;
  accesses = accesses;
}

-- who holds pins
hold_pins : (φ : SeatPhase) (at j : ℕ) → hold_of φ at j ≤ pin_of φ at j
hold_pins seating.Out at j = omega arith
hold_pins seating.Between at j = omega arith
hold_pins seating.Found at j = omega arith
hold_pins seating.Holding at j = omega arith
hold_pins seating.Reading at j = omega arith
hold_pins seating.Failed at j = omega arith
hold_pins seating.Missed at j = omega arith

holders_pin : (keep : ℕ) (xs : List Seat) (j : ℕ) → holders keep xs j ≤ pins_of keep xs j
holders_pin keep [] j = omega arith
holders_pin keep (x ∷ xs) j = let h = holders_pin keep xs j in let o = hold_pins x.phase (cursor x % (keep + 1)) j in omega arith

same_access : (s : Ring.State) (p : Publisher) (j : ℕ) (h : Access) → AccessFits s j h → AccessFits (with_publisher s p) j h
same_access s p j exclusive fit = fit
same_access s p j (readable m c) fit = fit

pub other_access : (s : Ring.State) (j : ℕ) (b : Slot) (p : Publisher) (k : ℕ) (h : Access) → slot (with_publisher (with_slot s j b) p) k ≡ slot s k → AccessFits s k h → AccessFits (with_publisher (with_slot s j b) p) k h
other_access s j b p k exclusive e fit = ap (λ (u : Slot). u.word.writing) e ∙ fit
other_access s j b p k (readable m c) e fit = (ap (λ (u : Slot). u.word.writing) e ∙ fit.0, fit.1, subst (HasCells c) (sym e) fit.2)

module _ {L : Limits} (s : Ring.State) (t : State View (List ℕ)) (fits : Fits L s t) (q : List ℕ) (seen : List (List ℕ)) (pre : IsPrefix seen t.log)
    (within : s.publisher.phase ≡ publishing.Between) (open_ : s.publisher.closed ≡ false) (fit : IsSized L.1 q) where
  abbrev j : ℕ
  j = next_place s

  abbrev w : Word
  w = word s j

  abbrev known : ℕ
  known = word_bits (known_word s)

  abbrev swap : ℕ → ℕ
  swap m = either (eqb m known) (known + 2 ^ 16) m

  abbrev me : Knows
  me = record { view = inl (s.log, s.publisher); right = no_right; seen = seen }

  near : j ≤ s.keep
  near = place_within s.keep (length s.log)

  found : get_or t.words (suc j) 0 ≡ word_bits w
  found = ap (λ (ws : List ℕ). get_or ws (suc j) 0) fits.words ∙ word_at s.slots j

  few_pins : w.pins < 65536
  few_pins = let p = pins_fit s j fits.sound near in let f = fits.few in let g = fits.many in omega arith

  sound_by : (c : Bool) → is_known s w ≡ c → Invariant (if c then begun s q else refused s).state
  sound_by c is = subst (λ (d : Bool). Invariant (if d then begun s q else refused s).state) is (begin_keeps s q fits.sound within open_)

  begin_atomic : (c : Bool) → is_atomic (if c then begun s q else refused s).saw ≡ true
  begin_atomic true = refl
  begin_atomic false = refl

  begin_one : (c : Bool) → is_known s w ≡ c → OneStep 0 s (if c then begun s q else refused s).state
  begin_one c is = record {
    by = by_publisher (Publish q);
    own = tt;
    from = s;
    copied = inl refl;
    outcome = if c then begun s q else refused s;
    step = subst (λ (φ : PublisherPhase). PublisherActs φ (Publish q) s (if c then begun s q else refused s)) (sym within) (open_, sym (ap (λ (d : Bool). if d then begun s q else refused s) is));
    atomic = begin_atomic c;
    leads = refl;
  }

  begin_goes : (c : Bool) → is_known s w ≡ c → Goes (Holds L) (Operation L) t 0 me (suc j) swap (Begins L.0 (suc j) s.log s.publisher q known me)
  begin_goes false is =
      let p' : Publisher = record s.publisher { failed = s.publisher.failed + 1; pins = w.pins } in let both = known_bits s w few_pins in
      let not : get_or t.words (suc j) 0 ≢ known = λ e. let t = both.1 (sym found ∙ e) in absurd (cc) in
      let kept_word : swap (get_or t.words (suc j) 0) ≡ get_or t.words (suc j) 0 = ap (λ (b : Bool). either b (known + 2 ^ 16) (get_or t.words (suc j) 0)) (ne_eqb (get_or t.words (suc j) 0) known not) in
      let saw = refused_step publishing.Between q s (refused s) within (open_, sym (ap (λ (d : Bool). if d then begun s q else refused s) is)) refl fits.sound in
      let sound : Invariant (with_publisher s p') = sound_by false is in
      let kept : Fits L (with_publisher s p') (stepped t (suc j) (swap (get_or t.words (suc j) 0)) 0 no_right (inl (s.log, p')) keeps t.log) = record {
        sound = sound;
        few = fits.few;
        many = fits.many;
        packets = fits.packets;
        pending = fits.pending;
        short = fits.short;
        words = ap (set t.words (suc j)) kept_word ∙ set_same t.words (suc j) ∙ fits.words;
        views = ap (λ (vs : List View). set vs 0 (inl (s.log, p'))) fits.views;
        log = fits.log;
        accesses = λ k low. same_access s p' k (get_or t.accesses (suc k) exclusive) (fits.accesses k low);
      } in
      goes_by 0 (suc j) me swap (Begins L.0 (suc j) s.log s.publisher q known me) (inl (s.log, p')) keeps t.log tt (prefix_refl t.log) fits kept (begin_one false is)
      (record { word = w; bits = found; begun = λ e. absurd (not e); refused = λ e. (refl, refl, saw.some, (let most = saw.within in let few = fits.few in omega arith), fits.many); grows = pre })
  begin_goes true is =
      let p' : Publisher = record s.publisher { phase = publishing.Begun; packet = q; written = 0 } in let b : Slot = record (slot s j) { word = record w { writing = true } } in let s' : Ring.State = with_publisher (with_slot s j b) p' in
      let e : word_bits w ≡ known = (known_bits s w few_pins).0 is in let same : w ≡ known_word s = (words_apart w (known_word s) few_pins (omega arith)).0 e in let hit : get_or t.words (suc j) 0 ≡ known = found ∙ e in
      let swapped : swap (get_or t.words (suc j) 0) ≡ known + 2 ^ 16 = ap (λ (d : Bool). either d (known + 2 ^ 16) (get_or t.words (suc j) 0)) (eq-eqb (get_or t.words (suc j) 0) known hit) in
      let sound : Invariant s' = sound_by true is in let wide = fits.sound.phases.width in let low = near in let there : slot s' j ≡ b = get_or-set_same s.slots j b fresh_slot (omega arith) in
      let bits : word_bits b.word ≡ known + 2 ^ 16 = ap (λ (u : Slot). word_bits u.word) (sym there) ∙ subst (λ (d : Bool). word_bits (word (if d then begun s q else refused s).state j) ≡ known + 2 ^ 16) is (begin_bits s q (record { sound = fits.sound; within = within }) is) in
      let H = access_at s j (get_or t.accesses (suc j) exclusive) (fits.accesses j near) (ap (λ (u : Word). u.writing) same) in let c : List ℕ = H.cells in
      let none : H.parts ≡ 0 = let h = holders_pin s.keep s.seats j in let f : H.parts ≡ holders s.keep s.seats j = H.fits.1 in let g : w.pins ≡ pins_of s.keep s.seats j = fits.sound.slots.pins j near in let z : w.pins ≡ 0 = ap (λ (u : Word). u.pins) same in omega arith in
      let elem = readable_there t.accesses (suc j) 0 c (H.is ∙ ap (λ (m : ℕ). readable m c) none) in
      let accesses' : (k : ℕ) → k ≤ s.keep → AccessFits s' k (get_or (set t.accesses (suc j) exclusive) (suc k) exclusive) = λ k small. elim (at_set t.accesses (suc j) (suc k) exclusive exclusive (elem_within t.accesses (suc j) (readable 0 c) elem)) [
        | inl f ↦ let at : k ≡ j = let g = f.0 in omega arith in subst (AccessFits s' k) (sym f.1) (subst (λ (l : ℕ). AccessFits s' l exclusive) (sym at) (ap (λ (u : Slot). u.word.writing) there))
        | inr f ↦ subst (AccessFits s' k) (sym f.1) (other_access s j b p' k (get_or t.accesses (suc k) exclusive) (get_or-set_other s.slots j k b fresh_slot (λ g. f.0 (ap suc g))) (fits.accesses k small))
      ] in
      let kept = written_kept s t fits j p' b (swap (get_or t.words (suc j) 0)) no_right (begins (suc j) c) fit sound (swapped ∙ sym bits) accesses' in
      goes_by 0 (suc j) me swap (Begins L.0 (suc j) s.log s.publisher q known me) (inl (s.log, p')) (begins (suc j) c) t.log elem (prefix_refl t.log) fits kept (begin_one true is) (record { word = w; bits = found; begun = λ f. (c, refl, refl); refused = λ f. absurd (f hit); grows = pre })

pub begin_allows : {L : Limits} (units keep : ℕ) → keep + 2 ≡ units → (log : List (List ℕ)) (p : Publisher) (q : List ℕ) (seen : List (List ℕ)) → p.phase ≡ publishing.Between → p.closed ≡ false → IsSized L.1 q
    → let me : Knows = record { view = inl (log, p); right = no_right; seen = seen } in let unit = suc (length log % (keep + 1)) in let known = 131072 * (length log - keep) in
    Allows (Holds L) (Operation L) units 0 me unit (λ m. either (eqb m known) (known + 2 ^ 16) m) (Begins L.0 unit log p q known me)
begin_allows {L = L} units keep size log p q seen within open_ fit t held long rooms at pre small =
    let s : Ring.State = held.0 in let fits : Fits L s t = held.1 in let me : List (List ℕ) → Publisher → Knows = λ l r. record { view = inl (l, r); right = no_right; seen = seen } in
    let At : ℕ → ℕ → List (List ℕ) → Publisher → Type 0 = λ known k l r. let unit = suc (length l % (k + 1)) in Goes (Holds L) (Operation L) t 0 (me l r) unit (λ n. either (eqb n known) (known + 2 ^ 16) n) (Begins L.0 unit l r q known (me l r)) in
    let number : word_bits (known_word s) ≡ 131072 * (length s.log - s.keep) = omega arith in
    known_to units keep size log p (λ k l r. r.phase ≡ publishing.Between → r.closed ≡ false → At (131072 * (length l - k)) k l r) (me log p) refl s t fits long at
    (λ between unclosed. subst (λ (n : ℕ). At n s.keep s.log s.publisher) number (begin_goes s t fits q seen pre between unclosed fit (is_known s (word s (next_place s))) refl)) within open_

-- ---- a begin while the ring's one seat is at hand
-- a seat between two calls has no pin
no_pin : (φ : SeatPhase) (at j : ℕ) → φ ≡ seating.Between → pin_of φ at j ≡ 0
no_pin seating.Out at j e = refl
no_pin seating.Between at j e = refl
no_pin seating.Found at j e = refl
no_pin seating.Holding at j e = absurd (cc)
no_pin seating.Reading at j e = absurd (cc)
no_pin seating.Failed at j e = absurd (cc)
no_pin seating.Missed at j e = refl

-- neither has a ring whose one seat is between two calls
unpinned : (keep : ℕ) (xs : List Seat) (i j : ℕ) (x : Seat) → length xs ≡ 1 → slice_get xs i ≡ Some x → x.phase ≡ seating.Between → pins_of keep xs j ≡ 0
unpinned keep [] i j x one at between = absurd (omega arith)
unpinned keep (y ∷ []) zero j x one at between = let same : y ≡ x = (let e = at in cc) in let none = no_pin y.phase (cursor y % (keep + 1)) j (ap (λ (z : Seat). z.phase) same ∙ between) in omega arith
unpinned keep (y ∷ []) (suc i) j x one at between = absurd (cc)
unpinned keep (y ∷ z ∷ zs) i j x one at between = absurd (omega arith)

-- then the begin found the word that the publisher knows: a word that refused it has a pin
known_found : {L : Limits} (s : Ring.State) (t : State View (List ℕ)) → Fits L s t → (i : ℕ) (x : Seat) → L.0 ≡ 1 → slice_get s.seats i ≡ Some x → x.phase ≡ seating.Between
    → (unit : ℕ) (log : List (List ℕ)) (p : Publisher) (q : List ℕ) (known found : ℕ) (me next : Knows) → found ≡ word_bits (word s (next_place s)) → Begins L.0 unit log p q known me found next → found ≡ known
known_found s t fits i x one at between unit log p q word₀ n me₀ next is saw = elim (eqb_tells n word₀) [
  | inl e ↦ e.1
  | inr e ↦
      let j = next_place s in let w : Word = word s j in let r = saw.refused e.1 in
      let free : w.pins ≡ 0 = fits.sound.slots.pins j (place_within s.keep (length s.log)) ∙ unpinned s.keep s.seats i j x (fits.few ∙ one) at between in
      let same : w ≡ saw.word = (words_apart w saw.word (omega arith) (let a = r.3 in let b = r.4 in omega arith)).0 (sym is ∙ saw.bits) in
      let some = r.2 in let none : saw.word.pins ≡ 0 = sym (ap (λ (u : Word). u.pins) same) ∙ free in absurd (omega arith)
]

pub begin_beside_allows : {L : Limits} (units keep : ℕ) → keep + 2 ≡ units → (log : List (List ℕ)) (p : Publisher) (q : List ℕ) (seen : List (List ℕ)) → p.phase ≡ publishing.Between → p.closed ≡ false → IsSized L.1 q
    → (i : ℕ) (x : Seat) → L.0 ≡ 1 → x.phase ≡ seating.Between
    → let me : Knows = record { view = inl (log, p); right = no_right; seen = seen } in let unit = suc (length log % (keep + 1)) in let known = 131072 * (length log - keep) in
    AllowsBeside (Holds L) (Operation L) units 0 me (suc i) (inr x) unit (λ m. either (eqb m known) (known + 2 ^ 16) m) (λ found next. Begins L.0 unit log p q known me found next × (found ≡ known))
begin_beside_allows {L = L} units keep size log p q seen within open_ fit i x one between t held long rooms at there pre small =
    let s : Ring.State = held.0 in let fits : Fits L s t = held.1 in let me : Knows = record { view = inl (log, p); right = no_right; seen = seen } in
    let unit = suc (length log % (keep + 1)) in let known = 131072 * (length log - keep) in
    let goes = begin_allows units keep size log p q seen within open_ fit t held long rooms at pre small in
    let seat = seat_there s.seats i x (ap (λ (vs : List View). get_elem? vs (suc i)) (sym fits.views) ∙ there) in
    let is : get_or t.words unit 0 ≡ word_bits (word s (next_place s)) = known_to units keep size log p (λ k l r. get_or t.words (suc (length l % (k + 1))) 0 ≡ word_bits (word s (next_place s))) me refl s t fits long at
    (ap (λ (ws : List ℕ). get_or ws (suc (next_place s)) 0) fits.words ∙ word_at s.slots (next_place s)) in
    (goes.0, goes.1, goes.2, goes.3, goes.4, goes.5, goes.6, goes.7, goes.8, (goes.9, known_found s t fits i x one seat between unit log p q known (get_or t.words unit 0) me _ is goes.9))
