-- A take whose pin holds gives the packet at its cursor.
use Rattle.std.proofs.Common.{◌≡◌, ◌≢◌, ℕ, zero, suc, ◌+◌, ◌-◌, ◌*◌, ◌/◌, ◌^◌, ◌<◌, ◌≤◌, ◌&&◌, Bool, true, false, not, eqb, ltb, List, [], ◌∷◌, get_or, sym, ap, ◌∙◌, subst, arith, eq-eqb, ne_eqb, le-ltb, Some, if◌then◌else◌}
use mathlib.Core.Logic.{inr}
use mathlib.Core.List.{IsPrefix}
use base.Growing.{prefix_trans}
use Rattle.std.specs.Prelude.{slice_get}
use Rattle.ring_steps.specs.declared.words.Head.{Head}
use Rattle.ring_steps.specs.declared.words.Word.{Word}
use Rattle.ring_steps.specs.declared.views.Seat.{Seat}
use Rattle.ring_steps.specs.declared.views.SeatPhase.TheVariants as seating
use Rattle.ring_steps.specs.Bits.{bit, word_bits}
use Rattle.ring_steps.specs.Ring.{cursor}
use Rattle.ring_steps.specs.Step.{holds}
use Rattle.packet_ring.specs.Table.{cells_of}
use Rattle.packet_ring.specs.Rule.{Knows, View, IsSized}
use Rattle.packet_ring.specs.Steps.{HasPacket, HasSeen, Loads, Pins, Unpins, first_seen, looked, next_packet, seat_of, took}
use Rattle.packet_ring.specs.Tokens.{GotPacket}
use Rattle.packet_ring.proofs.Pinned.{prefix_get, or_packet}
use Rattle.packet_ring.proofs.Looks.{length_of, looks}

holds_at : (pins n : ℕ) (b : Bool) (c found : ℕ) → found ≡ pins + 2 ^ 16 * bit b + 2 ^ 17 * n → pins ≤ 1024 → found / 65536 ≡ 2 * (c + 1) → eqb n (c + 1) && not b ≡ true
holds_at pins n true c found e few is = absurd (omega arith)
holds_at pins n false c found e few is = ap (λ (d : Bool). d && true) (eq-eqb n (c + 1) (omega arith))

-- the word of a slot that has the packet, and isn't written
pub holds_by : (w : Word) (c found : ℕ) → found ≡ word_bits w → w.pins ≤ 1024 → found / 65536 ≡ 2 * (c + 1) → holds w c ≡ true
holds_by w c found e few is = holds_at w.pins w.number w.writing c found e few is

got : (xs : List (List ℕ)) (k : ℕ) (p : List ℕ) → slice_get xs k ≡ Some p → get_or xs k [] ≡ p
got [] k p at = absurd (cc)
got (q ∷ xs) zero p at = ap (or_packet q) at
got (q ∷ xs) (suc k) p at = got xs k p at

-- a pin that holds: the cells have the packet at the cursor
pub record Held (most : ℕ) (x : Seat) (next : Knows) : Type 0 where
  pub has : HasPacket (cells_of next.right) (next_packet next)
  pub sized : IsSized most (next_packet next)
  pub at : slice_get next.seen (cursor x) ≡ Some (next_packet next)
  pub same : cursor (seat_of next.view) ≡ cursor x

pub held : (most unit : ℕ) (x : Seat) (me : Knows) (found : ℕ) (next : Knows) (step : Pins most unit x me found next) → found / 65536 ≡ 2 * (cursor x + 1) → Held most x next
held most unit x me found next step is = let H = step.held (holds_by step.word (cursor x) found step.bits step.few is) in let c : List ℕ = H.0 in let p : List ℕ = H.1 in
    let same : cursor (seat_of next.view) ≡ cursor x = ap (λ (v : View). cursor (seat_of v)) step.view in let n : next_packet next ≡ p = ap (λ (k : ℕ). get_or next.seen k []) same ∙ got next.seen (cursor x) p H.3 in
    let e : cells_of next.right ≡ c = ap cells_of H.2 in record {
      has = subst (λ (u : List ℕ × List ℕ). HasPacket u.0 u.1) (λ i. (sym e i, sym n i)) H.4;
      sized = subst (IsSized most) (sym n) H.5;
      at = H.3 ∙ ap Some (sym n);
      same = same;
    }

-- a first load that found the packet at the cursor
found_seen : (keep : ℕ) (h : Head) (x : Seat) → h.length ≢ cursor x → h.length - keep ≤ cursor x → first_seen keep h x ≡ record (looked h x) { phase = seating.Found }
found_seen keep h x other kept = ap (λ (b : Bool). if b then looked h x else (if ltb (cursor x) (h.length - keep) then Rattle.packet_ring.specs.Steps.lost_to h x (h.length - keep - cursor x) else record (looked h x) { phase = seating.Found })) (ne_eqb h.length (cursor x) other)
    ∙ ap (λ (b : Bool). if b then Rattle.packet_ring.specs.Steps.lost_to h x (h.length - keep - cursor x) else record (looked h x) { phase = seating.Found }) (le-ltb (cursor x) (h.length - keep) kept)

module _ (keep : ℕ) (x : Seat) (old : Knows) (found : ℕ) (first : Knows) (load : Loads keep (first_seen keep) x old found first) (other : found / 2 ≢ cursor x) (kept : found / 2 - keep ≤ cursor x) where
  size : found / 2 ≡ load.head.length
  size = length_of load.head.closed load.head.length found load.bits

  pub seat_found : seat_of first.view ≡ record (looked load.head x) { phase = seating.Found }
  seat_found = ap seat_of load.view ∙ found_seen keep load.head x (λ e. other (size ∙ e)) (let z = size in omega arith)

  pub same_cursor : cursor (seat_of first.view) ≡ cursor x
  same_cursor = ap cursor seat_found

  pub pinned_holds : (most unit word : ℕ) (pinned : Knows) → Pins most unit (seat_of first.view) first word pinned → word / 65536 ≡ 2 * (cursor x + 1) → Held most (seat_of first.view) pinned
  pinned_holds most unit word pinned step is = held most unit (seat_of first.view) first word pinned step (is ∙ ap (λ (k : ℕ). 2 * (k + 1)) (sym same_cursor))

  pub gives : (most unit word : ℕ) (pinned next : Knows) (step : Pins most unit (seat_of first.view) first word pinned) → Unpins (took (seat_of pinned.view) (next_packet pinned)) pinned next
      → HasSeen (cursor x) old.seen → slice_get pinned.seen (cursor (seat_of first.view)) ≡ Some (next_packet pinned) → GotPacket keep (found / 2) x (next_packet pinned) old next
  gives most unit word pinned next step end behind at = let p : List ℕ = next_packet pinned in let z = size in
      let more : IsPrefix first.seen next.seen = prefix_trans first.seen pinned.seen next.seen step.grows end.grows in let look = looks keep x old found first (first_seen keep) load next more in let far = look.far (cursor x) behind in
      let there : cursor x < load.head.length = (let ne : load.head.length ≢ cursor x = λ e. other (size ∙ e) in omega arith) in record {
        head = load.head;
        looked_at = look;
        kept = omega arith;
        there = omega arith;
        at = prefix_get pinned.seen next.seen (cursor x) p end.grows (ap (λ (k : ℕ). slice_get pinned.seen k) (sym same_cursor) ∙ at);
        view = end.view ∙ ap (λ (v : View). inr (took (seat_of v) p)) step.view ∙ ap (λ (y : Seat). inr (took y p)) seat_found;
        right = end.right;
      }
