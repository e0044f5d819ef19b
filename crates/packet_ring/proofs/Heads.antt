-- The steps on the head keep the block's rule: by the core's law of each kind.
use Rattle.std.proofs.Common.{◌≡◌, ℕ, zero, suc, ◌+◌, ◌-◌, ◌*◌, ◌%◌, ◌≤◌, ◌<◌, ◌^◌, false, true, List, [], ◌∷◌, ◌++◌, map, length, get_or, set, sym, refl, ap, ◌∙◌, subst, length-append, length-set, arith, Option, Some, None}
use Rattle.std.specs.Prelude.{slice_get, nat_lt, Bool, ◌==◌, if◌then◌else◌}
use mathlib.Core.Logic.{inl, inr}
use base.Growing.{prefix_refl}
use Rattle.ring_steps.specs.declared.words.Head.{Head}
use Rattle.ring_steps.specs.declared.views.Publisher.{Publisher}
use Rattle.ring_steps.specs.declared.views.PublisherPhase.{PublisherPhase}
use Rattle.ring_steps.specs.declared.views.PublisherPhase.TheVariants as publishing
use Rattle.ring_steps.specs.declared.views.Seat.{Seat}
use Rattle.ring_steps.specs.declared.views.SeatPhase.{SeatPhase}
use Rattle.ring_steps.specs.declared.views.SeatPhase.TheVariants as seating
use Rattle.ring_steps.specs.Bits.{head_bits, word_bits}
use Rattle.ring_steps.specs.declared.words.Slot.{Slot}
use Rattle.ring_steps.specs.Ring as Ring
use Rattle.ring_steps.specs.Ring.{cursor, with_seat}
use Rattle.ring_steps.specs.Slots.{Invariant, SeatKnows}
use Rattle.ring_steps.specs.Step.{append, attach, close, detach, end_take, find_packet, first_load, lose, second_load, PublisherActs, SeatActs}
use Rattle.ring_steps.specs.Atomic.{is_atomic}
use Rattle.ring_steps.specs.declared.calls.PublisherCall.TheVariants.{Publish, Close}
use Rattle.ring_steps.specs.declared.calls.SeatCall.TheVariants.{Attach, Detach}
use Rattle.ring_steps.specs.RingSteps.{by_publisher, by_seat}
use Rattle.ring_steps.proofs.Loads.{attach_keeps, detach_keeps, first_load_keeps, second_load_keeps}
use Rattle.ring_steps.proofs.Writing.{append_keeps}
use Rattle.ring_steps.proofs.Writing.{close_keeps}
use Rattle.packet_ring.specs.Table.{State, Access, exclusive, readable, Right, keeps, stepped, Allows}
use Rattle.packet_ring.specs.Rule.{Limits, IsSized, IsPending, View, Knows, Holds, Fits, with_end, AccessFits, hold_of, holders, publisher_view, seat_view}
use Rattle.packet_ring.specs.Operation.{Operation}
use Rattle.packet_ring.proofs.Going.{OneStep, take_step, goes_by, seat_allows, publisher_there}
use Rattle.packet_ring.specs.Steps.{looked, attached, detached, lost_to, first_seen, second_seen, Loads, Appends, Closes}

-- ---- lists
pub set_same : (ns : List ℕ) (i : ℕ) → set ns i (get_or ns i 0) ≡ ns
set_same [] i = refl
set_same (n ∷ ns) zero = refl
set_same (n ∷ ns) (suc i) = λ j. n ∷ set_same ns i j

module _ {A B : Type 0} (f : A → B) where
  pub map_set : (xs : List A) (i : ℕ) (y : A) → set (map f xs) i (f y) ≡ map f (set xs i y)
  map_set [] i y = refl
  map_set (x ∷ xs) zero y = refl
  map_set (x ∷ xs) (suc i) y = ap (λ (ys : List B). f x ∷ ys) (map_set xs i y)

abbrev pub or_given : Seat → Option Seat → Seat
or_given d None = d
or_given d (Some x) = x

-- ---- who holds a packet
pub same_holders : (keep : ℕ) (xs : List Seat) (i : ℕ) (x y : Seat) (j : ℕ) → slice_get xs i ≡ Some x
    → hold_of x.phase (cursor x % (keep + 1)) j ≡ hold_of y.phase (cursor y % (keep + 1)) j → holders keep xs j ≡ holders keep (set xs i y) j
same_holders keep [] i x y j at e = refl
same_holders keep (z ∷ xs) zero x y j at e = let same : z ≡ x = ap (or_given z) at in ap (λ (n : ℕ). n + holders keep xs j) (ap (λ (s : Seat). hold_of s.phase (cursor s % (keep + 1)) j) same ∙ e)
same_holders keep (z ∷ xs) (suc i) x y j at e = ap (λ (n : ℕ). hold_of z.phase (cursor z % (keep + 1)) j + n) (same_holders keep xs i x y j at e)

accesses_kept : (s : Ring.State) (i : ℕ) (x y : Seat) → slice_get s.seats i ≡ Some x → ((j : ℕ) → hold_of x.phase (cursor x % (s.keep + 1)) j ≡ hold_of y.phase (cursor y % (s.keep + 1)) j)
    → (j : ℕ) (h : Access) → AccessFits s j h → AccessFits (with_seat s i y) j h
accesses_kept s i x y at same j exclusive fit = fit
accesses_kept s i x y at same j (readable m c) fit = (fit.0, fit.1 ∙ same_holders s.keep s.seats i x y j at (same j), fit.2)

-- a step that leaves the words and the slots, and changes this seat's view, in which it holds no more and no less than before
seat_kept : {L : Limits} (s : Ring.State) (t : State View (List ℕ)) → Fits L s t → (i : ℕ) (x y : Seat) (r : Right) → slice_get s.seats i ≡ Some x → Invariant (with_seat s i y)
    → ((j : ℕ) → hold_of x.phase (cursor x % (s.keep + 1)) j ≡ hold_of y.phase (cursor y % (s.keep + 1)) j)
    → Fits L (with_seat s i y) (stepped t 0 (get_or t.words 0 0) (suc i) r (inr y) keeps t.log)
seat_kept s t fits i x y r at sound same = record {
  sound = sound;
  few = length-set s.seats i y ∙ fits.few;
  many = fits.many;
  packets = fits.packets;
  pending = fits.pending;
  short = fits.short;
  words = set_same t.words 0 ∙ fits.words;
  views = ap (λ (vs : List View). set vs (suc i) (inr y)) fits.views ∙ ap (λ (vs : List View). publisher_view s ∷ vs) (map_set seat_view s.seats i y);
  log = fits.log;
  accesses = λ j near. accesses_kept s i x y at same j (get_or t.accesses (suc j) exclusive) (fits.accesses j near);
}

module _ (phase : SeatPhase) (f : Head → Seat → Seat) (units : ℕ) (idle : (at j : ℕ) → 0 ≡ hold_of phase at j) (then_idle : (h : Head) (x : Seat) → x.phase ≡ phase → (at j : ℕ) → 0 ≡ hold_of (f h x).phase at j)
    (law : (s : Ring.State) (i : ℕ) (x : Seat) → s.keep + 2 ≡ units → Invariant s → slice_get s.seats i ≡ Some x → x.phase ≡ phase → Invariant (with_seat s i (f s.head x)))
    (does : (s : Ring.State) (i : ℕ) (x : Seat) → s.keep + 2 ≡ units → slice_get s.seats i ≡ Some x → x.phase ≡ phase → OneStep (suc i) s (with_seat s i (f s.head x))) where
  -- a load of the head by a seat, where the core's law says that its new view keeps the invariant
  pub loads_allow : {L : Limits} (i : ℕ) (x : Seat) (me : Knows) → me.view ≡ inr x → x.phase ≡ phase → Allows (Holds L) (Operation L) units (suc i) me 0 (λ n. n) (Loads (units - 2) f x me)
  loads_allow {L = L} i x me is within = seat_allows units (units - 2) i x (λ k. me) (λ k. 0) (λ n. n) (λ k. Loads (units - 2) f x me) (λ k e. omega arith) (λ k. is) (λ s t fits many there pre small.
      let y : Seat = f s.head x in
      let same : (j : ℕ) → hold_of x.phase (cursor x % (s.keep + 1)) j ≡ hold_of y.phase (cursor y % (s.keep + 1)) j = λ j.
      sym (subst (λ (φ : SeatPhase). 0 ≡ hold_of φ (cursor x % (s.keep + 1)) j) (sym within) (idle (cursor x % (s.keep + 1)) j)) ∙ then_idle s.head x within (cursor y % (s.keep + 1)) j in
      goes_by (suc i) 0 me (λ n. n) (Loads (units - 2) f x me) (inr y) keeps t.log tt (prefix_refl t.log) fits (seat_kept s t fits i x y me.right there (law s i x many fits.sound there within) same) (does s i x many there within) (record {
        head = s.head;
        bits = ap (λ (ws : List ℕ). get_or ws 0 0) fits.words;
        short = (let n = fits.short in let e = fits.sound.slots.numbers.size in omega arith);
        behind = λ is_missed. let n = subst (λ (φ : SeatPhase). SeatKnows φ s.keep s.log x) is_missed (fits.sound.phases.knows i x there) in let k = n.1 in let e = fits.sound.slots.numbers.size in omega arith;
        view = refl;
        right = refl;
        log = s.log;
        size = sym fits.sound.slots.numbers.size;
        full = λ n l. (fits.packets n l).0;
        seen = fits.log;
        grows = pre;
      }))

-- an attachment and a detachment
module _ (keep units : ℕ) (size : keep + 2 ≡ units) (back : ℕ) where
  attach_leads : (s : Ring.State) (i : ℕ) (x : Seat) → s.keep + 2 ≡ units → (attach s i x back).state ≡ with_seat s i (attached keep back s.head x)
  attach_leads s i x k = let e : s.keep ≡ keep = omega arith in ap (λ (m : ℕ). with_seat s i (attached m back s.head x)) e

  attached_keeps : (s : Ring.State) (i : ℕ) (x : Seat) → s.keep + 2 ≡ units → Invariant s → slice_get s.seats i ≡ Some x → x.phase ≡ seating.Out → Invariant (with_seat s i (attached keep back s.head x))
  attached_keeps s i x k sound there within = subst Invariant (attach_leads s i x k) (attach_keeps s i x back sound there within)

  attach_does : (s : Ring.State) (i : ℕ) (x : Seat) → s.keep + 2 ≡ units → slice_get s.seats i ≡ Some x → x.phase ≡ seating.Out → OneStep (suc i) s (with_seat s i (attached keep back s.head x))
  attach_does s i x k there within = record {
    by = by_seat i (Attach back);
    own = refl;
    from = s;
    copied = refl;
    outcome = attach s i x back;
    step = record { view = x; there = there; acts = subst (λ (φ : SeatPhase). SeatActs φ (Attach back) s i x (attach s i x back)) (sym within) refl };
    atomic = refl;
    leads = attach_leads s i x k;
  }

  pub attaches : {L : Limits} (i : ℕ) (x : Seat) (me : Knows) → me.view ≡ inr x → x.phase ≡ seating.Out → Allows (Holds L) (Operation L) units (suc i) me 0 (λ n. n) (Loads (units - 2) (attached keep back) x me)
  attaches = loads_allow seating.Out (attached keep back) units (λ at j. refl) (λ h x w at j. refl) attached_keeps attach_does

pub detaches : {L : Limits} (units i : ℕ) (x : Seat) (me : Knows) → me.view ≡ inr x → x.phase ≡ seating.Between → Allows (Holds L) (Operation L) units (suc i) me 0 (λ n. n) (Loads (units - 2) detached x me)
detaches units = loads_allow seating.Between detached units (λ at j. refl) (λ h x w at j. refl) (λ s i x k sound there within. detach_keeps s i x sound there within)
    (λ s i x k there within. record { by = by_seat i Detach; own = refl; from = s; copied = refl; outcome = detach s i x; step = record { view = x; there = there; acts = subst (λ (φ : SeatPhase). SeatActs φ Detach s i x (detach s i x)) (sym within) refl }; atomic = refl; leads = refl })

-- ---- the publisher
accesses_same : (s : Ring.State) (head : Head) (log : List (List ℕ)) (p : Publisher) (j : ℕ) (h : Access) → AccessFits s j h → AccessFits (record s { head = head; log = log; publisher = p }) j h
accesses_same s head log p j exclusive fit = fit
accesses_same s head log p j (readable m c) fit = fit

unclosed : (b : Bool) → (b ≡ true → ⊥) → b ≡ false
unclosed false h = refl
unclosed true h = absurd (h refl)

is_finished : publishing.Between ≡ publishing.Finished → ⊥
is_finished e = absurd (cc)

-- a step that stores the head, and changes the publisher's view and the log, and leaves the slots and the seats
publisher_kept : {L : Limits} (s : Ring.State) (t : State View (List ℕ)) → Fits L s t → (head : Head) (log told : List (List ℕ)) (p : Publisher) (new : ℕ) (w : View) (r : Right) → told ≡ with_end head.closed log → Invariant (record s { head = head; log = log; publisher = p })
    → length log ≤ 2 ^ 46 → ((n : ℕ) → n < length log → IsSized L.1 (get_or log n [])) → IsPending L.1 p.phase p.packet → new ≡ head_bits head → w ≡ inl (log, p) → Fits L (record s { head = head; log = log; publisher = p }) (stepped t 0 new 0 r w keeps told)
publisher_kept s t fits head log told p new w r all sound short packets pending bits is = record {
  sound = sound;
  few = fits.few;
  many = fits.many;
  packets = packets;
  pending = pending;
  short = short;
  words = ap (λ (ws : List ℕ). set ws 0 new) fits.words ∙ ap (λ (n : ℕ). n ∷ map (λ (x : Slot). word_bits x.word) s.slots) bits;
  views = ap (λ (vs : List View). set vs 0 w) fits.views ∙ ap (λ (v : View). v ∷ map seat_view s.seats) is;
  log = all;
  accesses = λ j near. accesses_same s head log p j (get_or t.accesses (suc j) exclusive) (fits.accesses j near);
}

-- with this packet more each packet of the log is sized
more_sized : (most : ℕ) (log : List (List ℕ)) (p : List ℕ) → ((n : ℕ) → n < length log → IsSized most (get_or log n [])) → IsSized most p → (n : ℕ) → n < length (log ++ p ∷ []) → IsSized most (get_or (log ++ p ∷ []) n [])
more_sized most [] p h last zero l = last
more_sized most [] p h last (suc n) l = absurd (omega arith)
more_sized most (q ∷ log) p h last zero l = h 0 (omega arith)
more_sized most (q ∷ log) p h last (suc n) l = more_sized most log p (λ k m. h (suc k) (omega arith)) last n (omega arith)

-- an append
pub appends : {L : Limits} (units : ℕ) (log : List (List ℕ)) (p : Publisher) (me : Knows) (new : ℕ) → me.view ≡ inl (log, p) → p.phase ≡ publishing.Finished → length log < 2 ^ 46 → new ≡ 2 * (length log + 1)
    → Allows (Holds L) (Operation L) units 0 me 0 (λ _. new) (λ _. Appends log p me)
appends {L = L} units log p me new is within short stored t held long rooms at pre small =
    let s : Ring.State = held.0 in let fits : Fits L s t = held.1 in let e = publisher_there s t fits log p me is at in let more : List (List ℕ) = s.log ++ s.publisher.packet ∷ [] in
    let n : length s.log ≡ length log = ap length e.0 in let longer : length more ≡ length s.log + 1 = length-append s.log (s.publisher.packet ∷ []) in let all : t.log ≡ s.log = fits.log ∙ ap (λ (b : Bool). with_end b s.log) (fits.sound.slots.numbers.closed ∙ unclosed s.publisher.closed (λ was. is_finished (sym (fits.sound.phases.ended was) ∙ ap (λ (q : Publisher). q.phase) e.1 ∙ within))) in
    let same : log ++ p.packet ∷ [] ≡ more = ap (λ (u : List (List ℕ) × Publisher). u.0 ++ u.1.packet ∷ []) {x = (log, p)} {y = (s.log, s.publisher)} (λ i. (sym e.0 i, sym e.1 i)) in
    let w : View = inl (log ++ p.packet ∷ [], record p { phase = publishing.Between; packet = [] }) in let finished = ap (λ (q : Publisher). q.phase) e.1 ∙ within in
    let kept = publisher_kept s t fits (append s).state.head more more (append s).state.publisher new w me.right refl (append_keeps s fits.sound finished) (omega arith) (more_sized L.1 s.log s.publisher.packet fits.packets (subst (λ (φ : PublisherPhase). IsPending L.1 φ s.publisher.packet) finished fits.pending)) tt (stored ∙ (let r : 2 * (length log + 1) ≡ 0 + 2 * (length s.log + 1) = omega arith in r))
    (λ i. inl (same i, record (sym e.1 i) { phase = publishing.Between; packet = [] })) in
    goes_by 0 0 me (λ _. new) (λ _. Appends log p me) w keeps more tt (s.publisher.packet ∷ [], ap (λ (l : List (List ℕ)). l ++ s.publisher.packet ∷ []) all) fits kept (record {
      by = by_publisher (Publish s.publisher.packet);
      own = tt;
      from = s;
      copied = inl refl;
      outcome = append s;
      step = subst (λ (φ : PublisherPhase). PublisherActs φ (Publish s.publisher.packet) s (append s)) (sym finished) (refl, refl);
      atomic = refl;
      leads = refl;
    }) (record { view = refl; right = refl; seen = sym same })

-- a close
pub closes : {L : Limits} (units : ℕ) (log : List (List ℕ)) (p : Publisher) (me : Knows) (new : ℕ) → me.view ≡ inl (log, p) → p.phase ≡ publishing.Between → p.closed ≡ false → new ≡ 2 * length log + 1
    → Allows (Holds L) (Operation L) units 0 me 0 (λ _. new) (λ _. Closes log p me)
closes {L = L} units log p me new is within unended stored t held long rooms at pre small =
    let s : Ring.State = held.0 in let fits : Fits L s t = held.1 in let e = publisher_there s t fits log p me is at in let n : length s.log ≡ length log = ap length e.0 in
    let all : t.log ≡ s.log = fits.log ∙ ap (λ (b : Bool). with_end b s.log) (fits.sound.slots.numbers.closed ∙ ap (λ (q : Publisher). q.closed) e.1 ∙ unended) in
    let w : View = inl (log, record p { closed = true }) in let between = ap (λ (q : Publisher). q.phase) e.1 ∙ within in
    let kept = publisher_kept s t fits (close s).state.head s.log (s.log ++ [] ∷ []) (close s).state.publisher new w me.right refl (close_keeps s fits.sound between) fits.short fits.packets fits.pending (stored ∙ (let r : 2 * length log + 1 ≡ 1 + 2 * length s.log = omega arith in r))
    (λ i. inl (sym e.0 i, record (sym e.1 i) { closed = true })) in
    goes_by 0 0 me (λ _. new) (λ _. Closes log p me) w keeps (s.log ++ [] ∷ []) tt ([] ∷ [], ap (λ (l : List (List ℕ)). l ++ [] ∷ []) all) fits kept (record {
      by = by_publisher Close;
      own = tt;
      from = s;
      copied = refl;
      outcome = close s;
      step = subst (λ (φ : PublisherPhase). PublisherActs φ Close s (close s)) (sym between) (ap (λ (q : Publisher). q.closed) e.1 ∙ unended, refl);
      atomic = refl;
      leads = refl;
    }) (record { view = refl; right = refl; seen = ap (λ (l : List (List ℕ)). l ++ [] ∷ []) e.0 })

-- ---- a take's two loads
module _ (keep units : ℕ) (size : keep + 2 ≡ units) where
  abbrev by_tests : Bool → Bool → Head → Seat → Seat
  by_tests a b h x = if a then looked h x else (if b then lost_to h x (h.length - keep - cursor x) else record (looked h x) { phase = seating.Found })

  first_state : (s : Ring.State) (i : ℕ) (x : Seat) (a b : Bool) → s.keep ≡ keep
      → (if a then end_take s i x else (if b then lose s i x (s.head.length - s.keep - cursor x) else find_packet s i x)).state ≡ with_seat s i (by_tests a b s.head x)
  first_state s i x true b e = refl
  first_state s i x false true e = ap (λ (k : ℕ). (lose s i x (s.head.length - k - cursor x)).state) e
  first_state s i x false false e = refl

  first_idle : (h : Head) (x : Seat) (a b : Bool) → x.phase ≡ seating.Between → (at j : ℕ) → 0 ≡ hold_of (by_tests a b h x).phase at j
  first_idle h x true b w at j = subst (λ (φ : SeatPhase). 0 ≡ hold_of φ at j) (sym w) refl
  first_idle h x false true w at j = refl
  first_idle h x false false w at j = refl

  first_leads : (s : Ring.State) (i : ℕ) (x : Seat) → s.keep + 2 ≡ units → (first_load s i x).state ≡ with_seat s i (first_seen keep s.head x)
  first_leads s i x k = let e : s.keep ≡ keep = omega arith in
      first_state s i x (s.head.length == cursor x) (nat_lt (cursor x) (s.head.length - s.keep)) e ∙ ap (λ (m : ℕ). with_seat s i (by_tests (s.head.length == cursor x) (nat_lt (cursor x) (s.head.length - m)) s.head x)) e

  first_atomic : (s : Ring.State) (i : ℕ) (x : Seat) (a b : Bool) → is_atomic (if a then end_take s i x else (if b then lose s i x (s.head.length - s.keep - cursor x) else find_packet s i x)).saw ≡ true
  first_atomic s i x true b = refl
  first_atomic s i x false true = refl
  first_atomic s i x false false = refl

  first_does : (s : Ring.State) (i : ℕ) (x : Seat) → s.keep + 2 ≡ units → slice_get s.seats i ≡ Some x → x.phase ≡ seating.Between → OneStep (suc i) s (with_seat s i (first_seen keep s.head x))
  first_does s i x k there within = take_step s (with_seat s i (first_seen keep s.head x)) i x (first_load s i x) seating.Between there within refl (first_atomic s i x (s.head.length == cursor x) (nat_lt (cursor x) (s.head.length - s.keep))) (first_leads s i x k)

  first_keeps : (s : Ring.State) (i : ℕ) (x : Seat) → s.keep + 2 ≡ units → Invariant s → slice_get s.seats i ≡ Some x → x.phase ≡ seating.Between → Invariant (with_seat s i (first_seen keep s.head x))
  first_keeps s i x k sound there within = subst Invariant (first_leads s i x k) (first_load_keeps s i x sound there within)

  pub first_loads : {L : Limits} (i : ℕ) (x : Seat) (me : Knows) → me.view ≡ inr x → x.phase ≡ seating.Between → Allows (Holds L) (Operation L) units (suc i) me 0 (λ n. n) (Loads (units - 2) (first_seen keep) x me)
  first_loads = loads_allow seating.Between (first_seen keep) units (λ at j. refl) (λ h x w at j. first_idle h x (h.length == cursor x) (nat_lt (cursor x) (h.length - keep)) w at j) first_keeps first_does

  second_keeps : (s : Ring.State) (i : ℕ) (x : Seat) → s.keep + 2 ≡ units → Invariant s → slice_get s.seats i ≡ Some x → x.phase ≡ seating.Missed → Invariant (with_seat s i (second_seen keep s.head x))
  second_keeps s i x k sound there within = let e : s.keep ≡ keep = omega arith in subst (λ (m : ℕ). Invariant (with_seat s i (second_seen m s.head x))) e (second_load_keeps s i x sound there within)

  second_does : (s : Ring.State) (i : ℕ) (x : Seat) → s.keep + 2 ≡ units → slice_get s.seats i ≡ Some x → x.phase ≡ seating.Missed → OneStep (suc i) s (with_seat s i (second_seen keep s.head x))
  second_does s i x k there within = let e : s.keep ≡ keep = omega arith in take_step s (with_seat s i (second_seen keep s.head x)) i x (second_load s i x) seating.Missed there within refl refl (ap (λ (m : ℕ). with_seat s i (second_seen m s.head x)) e)

  pub second_loads : {L : Limits} (i : ℕ) (x : Seat) (me : Knows) → me.view ≡ inr x → x.phase ≡ seating.Missed → Allows (Holds L) (Operation L) units (suc i) me 0 (λ n. n) (Loads (units - 2) (second_seen keep) x me)
  second_loads = loads_allow seating.Missed (second_seen keep) units (λ at j. refl) (λ h x w at j. refl) second_keeps second_does
