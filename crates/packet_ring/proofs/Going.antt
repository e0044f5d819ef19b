-- What the proofs of all steps share: where a step goes by one step of the core, and from which states of the ring.
use Rattle.std.proofs.Common.{◌≡◌, ℕ, zero, suc, ◌+◌, ◌<◌, ◌^◌, true, List, [], ◌∷◌, map, length, get_or, sym, refl, ap, ◌∙◌, subst, arith, Some}
use Rattle.std.specs.Prelude.{slice_get}
use mathlib.Core.Logic.{inl, inr}
use mathlib.Core.Option as maybe
use mathlib.Core.Option.{some-injective, some-ne-none}
use mathlib.Core.List.{IsPrefix}
use base.Growing.{prefix_refl}
use lib.ListN.{get_elem?, length-map}
use Rattle.ring_steps.specs.declared.views.Publisher.{Publisher}
use Rattle.ring_steps.specs.declared.views.Seat.{Seat}
use Rattle.ring_steps.specs.declared.views.SeatPhase.{SeatPhase}
use Rattle.ring_steps.specs.declared.words.Slot.{Slot}
use Rattle.ring_steps.specs.declared.calls.SeatCall.TheVariants.{Take}
use Rattle.ring_steps.specs.Atomic.{is_atomic}
use Rattle.ring_steps.specs.Bits.{word_bits}
use Rattle.ring_steps.specs.Ring as Ring
use Rattle.ring_steps.specs.RingSteps.{By, by_seat, RingStep}
use Rattle.ring_steps.specs.Step.{Outcome, SeatActs}
use Rattle.packet_ring.specs.Table.{State, Act, right_after, stepped, Valid, Goes, Allows}
use Rattle.packet_ring.specs.Rule.{Limits, View, Knows, Holds, Fits, words_of, publisher_view, seat_view}
use Rattle.packet_ring.specs.Operation.{IsOwn, Operation, StepsFrom}

-- ---- a step
-- one atomic step of the core, by this token's actor
pub record OneStep (token : ℕ) (s s' : Ring.State) : Type 0 where
  pub by : By
  pub own : IsOwn token by
  pub from : Ring.State
  pub copied : StepsFrom s by from
  pub outcome : Outcome
  pub step : RingStep from by outcome
  pub atomic : is_atomic outcome.saw ≡ true
  pub leads : outcome.state ≡ s'

-- a seat's step in a take that read nothing since the last one
pub take_step : (s s' : Ring.State) (i : ℕ) (x : Seat) (o : Outcome) (phase : SeatPhase) → slice_get s.seats i ≡ Some x → x.phase ≡ phase → SeatActs phase Take s i x o → is_atomic o.saw ≡ true → o.state ≡ s' → OneStep (suc i) s s'
take_step s s' i x o phase there within acts atomic leads = record {
  by = by_seat i Take;
  own = refl;
  from = s;
  copied = inl refl;
  outcome = o;
  step = record { view = x; there = there; acts = subst (λ (φ : SeatPhase). SeatActs φ Take s i x o) (sym within) acts };
  atomic = atomic;
  leads = leads;
}

-- a token's step on a word goes where such a step of the core leads to a state of the ring that the block is in after it
pub goes_by : {L : Limits} {s s' : Ring.State} {t : State View (List ℕ)} (token word : ℕ) (me : Knows) (f : ℕ → ℕ) (then : ℕ → Knows → Type 0) (w : View) (a : Act) (log : List (List ℕ))
    → Valid t.accesses me.right a → IsPrefix t.log log → Fits L s t → Fits L s' (stepped t word (f (get_or t.words word 0)) token me.right w a log) → OneStep token s s'
    → then (get_or t.words word 0) (record { view = w; right = right_after me.right a; seen = log }) → Goes (Holds L) (Operation L) t token me word f then
goes_by {s = s} {s' = s'} token word me f then w a log valid grows fits kept one tells = (
  w,
  a,
  log,
  log,
  valid,
  grows,
  prefix_refl log,
  (s', kept),
  record { old = s; new = s'; before = fits; after = kept; by = one.by; own = one.own; from = one.from; copied = one.copied; outcome = one.outcome; step = one.step; atomic = one.atomic; leads = one.leads },
  tells,
)

-- ---- the states of the ring
-- a block of a ring that keeps K packets has K + 2 units
pub units_of : {L : Limits} (s : Ring.State) (t : State View (List ℕ)) → Fits L s t → (units : ℕ) → length t.words ≡ units → s.keep + 2 ≡ units
units_of s t fits units long = let n : length (words_of s) ≡ units = ap length (sym fits.words) ∙ long in let m : length (map (λ (x : Slot). word_bits x.word) s.slots) ≡ length s.slots = length-map s.slots (λ x. word_bits x.word) in
    let w : length s.slots ≡ s.keep + 1 = fits.sound.phases.width in omega arith

abbrev or_seat : Seat → View → Seat
or_seat d (inl p) = d
or_seat d (inr x) = x

-- a seat's view stands among the tokens' views
pub seat_there : (xs : List Seat) (i : ℕ) (x : Seat) → get_elem? (map seat_view xs) i ≡ maybe.some (inr x) → slice_get xs i ≡ Some x
seat_there [] i x e = absurd (some-ne-none _ (sym e))
seat_there (y ∷ xs) zero x e = ap (λ (v : View). Some (or_seat y v)) (some-injective (inr y) (inr x) e)
seat_there (y ∷ xs) (suc i) x e = seat_there xs i x e

-- a seat's step is allowed where it goes from each state of the ring in which the seat has this view
pub seat_allows : {L : Limits} (units keep i : ℕ) (x : Seat) (me : ℕ → Knows) (word : ℕ → ℕ) (f : ℕ → ℕ) (then : ℕ → ℕ → Knows → Type 0) → ((k : ℕ) → k + 2 ≡ units → k ≡ keep) → ((k : ℕ) → (me k).view ≡ inr x)
    → ((s : Ring.State) (t : State View (List ℕ)) → Fits L s t → s.keep + 2 ≡ units → slice_get s.seats i ≡ Some x → IsPrefix (me s.keep).seen t.log → get_or t.words (word s.keep) 0 < 2 ^ 64 → Goes (Holds L) (Operation L) t (suc i) (me s.keep) (word s.keep) f (then s.keep))
    → Allows (Holds L) (Operation L) units (suc i) (me keep) (word keep) f (then keep)
seat_allows {L = L} units keep i x me word f then only is goes t held long rooms at pre small =
    let s : Ring.State = held.0 in let fits : Fits L s t = held.1 in let many = units_of s t fits units long in
    subst (λ (k : ℕ). get_elem? t.views (suc i) ≡ maybe.some (me k).view → IsPrefix (me k).seen t.log → get_or t.words (word k) 0 < 2 ^ 64 → Goes (Holds L) (Operation L) t (suc i) (me k) (word k) f (then k)) (only s.keep many)
    (λ there before low. goes s t fits many (seat_there s.seats i x (ap (λ (vs : List View). get_elem? vs (suc i)) (sym fits.views) ∙ there ∙ ap (λ (v : View). maybe.some v) (is s.keep))) before low) at pre small

abbrev or_known : List (List ℕ) → Publisher → View → List (List ℕ) × Publisher
or_known log p (inl u) = u
or_known log p (inr x) = (log, p)

pub publisher_there : {L : Limits} (s : Ring.State) (t : State View (List ℕ)) → Fits L s t → (log : List (List ℕ)) (p : Publisher) (me : Knows) → me.view ≡ inl (log, p) → get_elem? t.views 0 ≡ maybe.some me.view → (s.log ≡ log) × (s.publisher ≡ p)
publisher_there s t fits log p me is at = let e : publisher_view s ≡ inl (log, p) = some-injective (publisher_view s) (inl (log, p)) (ap (λ (vs : List View). get_elem? vs 0) (sym fits.views) ∙ at ∙ ap (λ (v : View). maybe.some v) is) in
    let known = λ (v : View). or_known log p v in (ap (λ (v : View). (known v).0) e, ap (λ (v : View). (known v).1) e)

-- what holds of the state of the ring that a block is in holds of what the publisher knows of it
pub known_to : {L : Limits} (units keep : ℕ) → keep + 2 ≡ units → (log : List (List ℕ)) (p : Publisher) (Of : ℕ → List (List ℕ) → Publisher → Type 0) (me : Knows) → me.view ≡ inl (log, p)
    → (s : Ring.State) (t : State View (List ℕ)) → Fits L s t → length t.words ≡ units → get_elem? t.views 0 ≡ maybe.some me.view → Of s.keep s.log s.publisher → Of keep log p
known_to units keep size log p Of me is s t fits long at of = let e = publisher_there s t fits log p me is at in let many = units_of s t fits units long in let same : s.keep ≡ keep = omega arith in
    subst (λ (r : Publisher). Of keep log r) e.1 (subst (λ (l : List (List ℕ)). Of keep l s.publisher) e.0 (subst (λ (k : ℕ). Of k s.log s.publisher) same of))
