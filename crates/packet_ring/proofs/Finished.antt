-- A finish of the running ring keeps the block's rule: by the core's law.
use Rattle.std.proofs.Common.{◌≡◌, ◌≢◌, ℕ, zero, suc, ◌+◌, ◌-◌, ◌*◌, ◌%◌, ◌==◌, ◌≤◌, ◌<◌, ◌^◌, Bool, false, true, List, [], ◌∷◌, ◌++◌, length, get_or, set, sym, refl, ap, ◌∙◌, subst, arith, Some, get_or-set_same, get_or-set_other, le-ltb, inl, inr, if◌then◌else◌}
use Rattle.std.specs.Prelude.{slice_get}
use mathlib.Core.Logic.{inl, inr}
use mathlib.Core.Option as maybe
use mathlib.Core.List.{IsPrefix}
use base.Growing.{prefix_refl}
use Rattle.std.proofs.Math.Nat.{mod-eq_of_lt}
use Rattle.std.proofs.lemmas.Bool.Decides.{eqb_tells}
use lib.ListN.{get_elem?, take, drop}
use Rattle.ring_steps.specs.declared.views.Publisher.{Publisher}
use Rattle.ring_steps.specs.declared.views.PublisherPhase.{PublisherPhase}
use Rattle.ring_steps.specs.declared.views.PublisherPhase.TheVariants as publishing
use Rattle.ring_steps.specs.declared.views.Seat.{Seat}
use Rattle.ring_steps.specs.declared.views.SeatPhase.{SeatPhase}
use Rattle.ring_steps.specs.declared.views.SeatPhase.TheVariants as seating
use Rattle.ring_steps.specs.declared.words.Slot.{Slot}
use Rattle.ring_steps.specs.Bits.{word_bits}
use Rattle.ring_steps.specs.Moves.{slot_of, write_all}
use Rattle.ring_steps.specs.Ring as Ring
use Rattle.ring_steps.specs.Ring.{cursor, place, slot, word, floor, with_publisher, with_slot, fresh_slot}
use Rattle.ring_steps.specs.Slots.{Invariant, IsHolding, Writes}
use Rattle.ring_steps.specs.Step.{next_place, finish, write_byte}
use Rattle.ring_steps.proofs.Places.{at_set, place_within}
use Rattle.ring_steps.proofs.Moves.{write_all_keeps}
use Rattle.ring_steps.proofs.Writing.{finish_keeps}
use Rattle.ring_steps.proofs.Bits.{finish_bits, word_fits}
use Rattle.packet_ring.specs.Table.{State, Access, exclusive, readable, may_end, finishes, Goes, Allows}
use Rattle.packet_ring.specs.Rule.{Limits, IsPending, View, Knows, Holds, Fits, AccessFits, HasCells, hold_of, holders}
use Rattle.packet_ring.specs.Operation.{Operation}
use Rattle.ring_steps.specs.declared.calls.PublisherCall.TheVariants.{Publish}
use Rattle.ring_steps.specs.RingSteps.{by_publisher}
use Rattle.packet_ring.specs.Steps.{Finishes, HasPacket}
use Rattle.packet_ring.proofs.Going.{goes_by, known_to, units_of}
use Rattle.packet_ring.proofs.Pinned.{word_at, set_twice}
use Rattle.packet_ring.proofs.Begun.{written_kept, other_access}

take_front : (q r : List ℕ) → take (length q) (q ++ r) ≡ q
take_front [] r = refl
take_front (x ∷ q) r = ap (λ (ys : List ℕ). x ∷ ys) (take_front q r)

-- the access to a unit whose slot is written is exclusive
is_exclusive : (s : Ring.State) (j : ℕ) (h : Access) → AccessFits s j h → (word s j).writing ≡ true → h ≡ exclusive
is_exclusive s j exclusive fit w = refl
is_exclusive s j (readable m c) fit w = absurd (cc)

exclusive_there : (hs : List Access) (i : ℕ) → i < length hs → get_or hs i exclusive ≡ exclusive → get_elem? hs i ≡ maybe.some exclusive
exclusive_there [] i l e = absurd (omega arith)
exclusive_there (h ∷ hs) zero l e = ap (λ (x : Access). maybe.some x) e
exclusive_there (h ∷ hs) (suc i) l e = exclusive_there hs i (omega arith) e

-- nobody holds a packet in a slot that is written
abbrev tally : Bool → ℕ
tally b = if b then 1 else 0

no_hold : (b : Bool) → b ≡ false → 0 ≡ tally b
no_hold true e = absurd (cc)
no_hold false e = refl

apart_hold : (at j : ℕ) → at ≢ j → 0 ≡ tally (at == j)
apart_hold at j ne = elim (eqb_tells at j) [ inl e ↦ absurd (ne e.1) | inr e ↦ no_hold (at == j) e.0 ]

hold_else : (φ : SeatPhase) (at j : ℕ) → (IsHolding φ → at ≢ j) → 0 ≡ hold_of φ at j
hold_else seating.Out at j f = refl
hold_else seating.Between at j f = refl
hold_else seating.Found at j f = refl
hold_else seating.Holding at j f = apart_hold at j (f tt)
hold_else seating.Reading at j f = apart_hold at j (f tt)
hold_else seating.Failed at j f = refl
hold_else seating.Missed at j f = refl

none_hold : (keep : ℕ) (xs : List Seat) (j : ℕ) → ((i : ℕ) (x : Seat) → slice_get xs i ≡ Some x → 0 ≡ hold_of x.phase (cursor x % (keep + 1)) j) → 0 ≡ holders keep xs j
none_hold keep [] j f = refl
none_hold keep (x ∷ xs) j f = let a = f 0 x refl in let b = none_hold keep xs j (λ i y e. f (suc i) y e) in omega arith

module _ {L : Limits} (s : Ring.State) (t : State View (List ℕ)) (fits : Fits L s t) (rooms : length t.accesses ≡ s.keep + 2) (c : List ℕ) (seen : List (List ℕ)) (pre : IsPrefix seen t.log)
    (within : s.publisher.phase ≡ publishing.Begun) (has : HasPacket c s.publisher.packet) (k : ℕ) (adds : k ≡ 131072 * (length s.log + 1 - floor s (length s.log)) - 65536) where
  abbrev j : ℕ
  j = next_place s

  abbrev q : List ℕ
  q = s.publisher.packet

  abbrev me : Knows
  me = record { view = inl (s.log, s.publisher); right = may_end (suc j) c; seen = seen }

  abbrev p' : Publisher
  p' = record s.publisher { phase = publishing.Finished; written = length q }

  abbrev full : Slot
  full = slot_of q (slot s j)

  abbrev done_ : Slot → Slot
  done_ x = record x { word = record x.word { writing = false; number = length s.log + 1 } }

  abbrev s₁ : Ring.State
  s₁ = write_all s

  abbrev s' : Ring.State
  s' = with_publisher (with_slot s j (done_ full)) p'

  near : j ≤ s.keep
  near = place_within s.keep (length s.log)

  within_slots : j < length s.slots
  within_slots = let w = fits.sound.phases.width in let l = near in omega arith

  filled : slot s₁ j ≡ full
  filled = get_or-set_same s.slots j full fresh_slot within_slots

  -- the core's state after all writes and the finish
  arrives : (finish s₁).state ≡ s'
  arrives = ap (λ (x : Slot). with_publisher (with_slot s₁ j (done_ x)) p') filled ∙ ap (λ (xs : List Slot). let u : Ring.State = record s { slots = xs; publisher = p' } in u) (set_twice s.slots j full (done_ full))

  sound₁ : Invariant s₁
  sound₁ = write_all_keeps s (record { sound = fits.sound; within = within })

  sound : Invariant s'
  sound = subst Invariant arrives (finish_keeps s₁ sound₁ refl (omega arith))

  there : slot s' j ≡ done_ full
  there = get_or-set_same s.slots j (done_ full) fresh_slot within_slots

  bits : (get_or t.words (suc j) 0 + k) % 2 ^ 64 ≡ word_bits (done_ full).word
  bits = let found : get_or t.words (suc j) 0 ≡ word_bits (word s j) = ap (λ (ws : List ℕ). get_or ws (suc j) 0) fits.words ∙ word_at s.slots j in
      let e : word_bits (word (finish s₁).state j) ≡ word_bits (word s₁ j) + (131072 * (length s.log + 1 - floor s (length s.log)) - 65536) = finish_bits s₁ (record { sound = sound₁; within = refl }) in
      let a : word_bits (word (finish s₁).state j) ≡ word_bits (done_ full).word = ap (λ (u : Ring.State). word_bits (word u j)) arrives ∙ ap (λ (x : Slot). word_bits x.word) there in
      let b : word_bits (word s₁ j) ≡ word_bits (word s j) = ap (λ (x : Slot). word_bits x.word) filled in
      let sum : get_or t.words (suc j) 0 + k ≡ word_bits (done_ full).word = omega arith in
      let small : word_bits (done_ full).word < 2 ^ 64 = subst (λ (x : Slot). word_bits x.word < 2 ^ 64) there (word_fits s' j sound (let f = fits.few in let g = fits.many in omega arith) fits.short near) in
      ap (λ (m : ℕ). m % 2 ^ 64) sum ∙ mod-eq_of_lt small

  writes : (word s j).writing ≡ true
  writes = (fits.sound.slots.writing j near).1 (subst Writes (sym within) tt, refl)

  idle : 0 ≡ holders s.keep s.seats j
  idle = none_hold s.keep s.seats j (λ i x at. hold_else x.phase (cursor x % (s.keep + 1)) j (λ h e. let n = fits.sound.slots.held i x at h in let f : (word s j).writing ≡ false = subst (λ (l : ℕ). (word s l).writing ≡ false) e n.1 in let w : (word s j).writing ≡ true = writes in absurd (cc)))

  pub finish_goes : Goes (Holds L) (Operation L) t 0 me (suc j) (λ m. (m + k) % 2 ^ 64) (λ _. Finishes s.log s.publisher me)
  finish_goes =
      let elem = exclusive_there t.accesses (suc j) (let n = near in omega arith) (is_exclusive s j (get_or t.accesses (suc j) exclusive) (fits.accesses j near) writes) in
      let now : AccessFits s' j (readable 0 c) = (ap (λ (x : Slot). x.word.writing) there, idle, subst (HasCells c) (sym there) (sym has.size, take_front q (drop (length q) (slot s j).bytes) ∙ sym has.bytes)) in
      let accesses' : (l : ℕ) → l ≤ s.keep → AccessFits s' l (get_or (set t.accesses (suc j) (readable 0 c)) (suc l) exclusive) = λ l low. elim (at_set t.accesses (suc j) (suc l) (readable 0 c) exclusive (let n = near in omega arith)) [
        | inl f ↦ let at : l ≡ j = let g = f.0 in omega arith in subst (AccessFits s' l) (sym f.1) (subst (λ (m : ℕ). AccessFits s' m (readable 0 c)) (sym at) now)
        | inr f ↦ subst (AccessFits s' l) (sym f.1) (other_access s j (done_ full) p' l (get_or t.accesses (suc l) exclusive) (get_or-set_other s.slots j l (done_ full) fresh_slot (λ g. f.0 (ap suc g))) (fits.accesses l low))
      ] in
      let kept = written_kept s t fits j p' (done_ full) ((get_or t.words (suc j) 0 + k) % 2 ^ 64) (may_end (suc j) c) finishes (subst (λ (φ : PublisherPhase). IsPending L.1 φ q) within fits.pending) sound bits accesses' in
      goes_by 0 (suc j) me (λ m. (m + k) % 2 ^ 64) (λ _. Finishes s.log s.publisher me) (inl (s.log, p')) finishes t.log elem (prefix_refl t.log) fits kept (record {
        by = by_publisher (Publish q);
        own = tt;
        from = s₁;
        copied = inr (record { sound = fits.sound; within = within }, refl);
        outcome = finish s₁;
        step = (refl, sym (ap (λ (d : Bool). if d then write_byte s₁ else finish s₁) (le-ltb (length q) (length q) (omega arith))));
        atomic = refl;
        leads = arrives;
      }) (record { view = refl; right = refl; grows = pre })

pub finish_allows : {L : Limits} (units keep : ℕ) → keep + 2 ≡ units → (log : List (List ℕ)) (p : Publisher) (c : List ℕ) (seen : List (List ℕ)) (k : ℕ) → p.phase ≡ publishing.Begun → HasPacket c p.packet
    → k ≡ 131072 * (length log + 1 - (length log - keep)) - 65536
    → let unit = suc (length log % (keep + 1)) in let me : Knows = record { view = inl (log, p); right = may_end unit c; seen = seen } in Allows (Holds L) (Operation L) units 0 me unit (λ m. (m + k) % 2 ^ 64) (λ _. Finishes log p me)
finish_allows {L = L} units keep size log p c seen k within has adds t held long rooms at pre small =
    let s : Ring.State = held.0 in let fits : Fits L s t = held.1 in let me : ℕ → List (List ℕ) → Publisher → Knows = λ m l r. record { view = inl (l, r); right = may_end (suc (length l % (m + 1))) c; seen = seen } in
    let Of : ℕ → List (List ℕ) → Publisher → Type 0 = λ m l r. r.phase ≡ publishing.Begun → HasPacket c r.packet → k ≡ 131072 * (length l + 1 - (length l - m)) - 65536
    → Goes (Holds L) (Operation L) t 0 (me m l r) (suc (length l % (m + 1))) (λ n. (n + k) % 2 ^ 64) (λ _. Finishes l r (me m l r)) in
    known_to units keep size log p Of (me keep log p) refl s t fits long at (λ begun holds more. finish_goes s t fits (rooms ∙ sym (units_of s t fits units long)) c seen pre begun holds k more) within has adds
