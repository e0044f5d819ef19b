-- What a take's loads saw.
use Rattle.std.proofs.Common.{◌≡◌, ◌≢◌, ℕ, ◌+◌, ◌-◌, ◌*◌, ◌/◌, ◌%◌, ◌<◌, ◌≤◌, Bool, true, false, ltb, List, length, refl, sym, ap, ◌∙◌, subst, arith, eq-eqb, ne_eqb, lt-ltb, if◌then◌else◌}
use mathlib.Core.Logic.{inl, inr}
use mathlib.Core.List.{IsPrefix}
use base.Growing.{prefix_refl, prefix_trans}
use Rattle.ring_steps.specs.declared.words.Head.{Head}
use Rattle.ring_steps.specs.declared.views.Seat.{Seat}
use Rattle.ring_steps.specs.declared.views.SeatPhase.TheVariants as seating
use Rattle.ring_steps.specs.Bits.{bit}
use Rattle.ring_steps.specs.Ring.{cursor}
use Rattle.packet_ring.specs.Table.{no_right}
use Rattle.packet_ring.specs.Rule.{Knows, View}
use Rattle.packet_ring.specs.Steps.{HasSeen, ends_at, Loads, Pins, Unpins, first_seen, second_seen, looked, lost_to, missed, seat_of}
use Rattle.packet_ring.specs.Tokens.{Looked, FoundNone, LostSome}
use Rattle.packet_ring.proofs.Ends.{ends_on, ends_with, log_seen, seen_on, seen_within}

pub length_of : (b : Bool) (n found : ℕ) → found ≡ bit b + 2 * n → found / 2 ≡ n
length_of false n found e = omega arith
length_of true n found e = omega arith

pub closed_by : (b : Bool) (n found : ℕ) → found ≡ bit b + 2 * n → found % 2 ≡ 1 → b ≡ true
closed_by true n found e is = refl
closed_by false n found e is = absurd (omega arith)

pub open_by : (b : Bool) (n found : ℕ) → found ≡ bit b + 2 * n → found % 2 ≢ 1 → b ≡ false
open_by false n found e is = refl
open_by true n found e is = absurd (is (omega arith))

-- what was seen right after a load ends where the head that it found was closed
pub marks : (keep : ℕ) (x : Seat) (old : Knows) (found : ℕ) (first : Knows) (f : Head → Seat → Seat) (load : Loads keep f x old found first) → ends_at first.seen (found / 2) ≡ load.head.closed
marks keep x old found first f load = let here : found / 2 ≡ length load.log = length_of load.head.closed load.head.length found load.bits ∙ sym load.size in
    (λ i. ends_at (load.seen i) (here i)) ∙ ends_with load.head.closed load.log

-- a call's load, where the token knows more by the call's end
pub looks : (keep : ℕ) (x : Seat) (old : Knows) (found : ℕ) (first : Knows) (f : Head → Seat → Seat) (load : Loads keep f x old found first) (next : Knows) → IsPrefix first.seen next.seen → Looked load.head (found / 2) old next
looks keep x old found first f load next more = let e : found / 2 ≡ load.head.length = length_of load.head.closed load.head.length found load.bits in let short = load.short in let size = load.size in
    let all : HasSeen (found / 2) first.seen = subst (λ (u : ℕ × List (List ℕ)). HasSeen u.0 u.1) (λ i. ((size ∙ sym e) i, sym load.seen i)) (log_seen load.head.closed load.log load.full) in record {
      size = sym e;
      short = omega arith;
      far = λ k has. let within = seen_within old.seen load.head.closed load.log k (subst (λ (l : List (List ℕ)). IsPrefix old.seen l) load.seen load.grows) has in omega arith;
      has = seen_on first.seen next.seen (found / 2) more all;
      ended = λ was. ends_on first.seen next.seen (found / 2) more (marks keep x old found first f load ∙ was);
      grows = prefix_trans old.seen first.seen next.seen load.grows more;
    }

module _ (keep : ℕ) (x : Seat) (old : Knows) (found : ℕ) (first : Knows) (load : Loads keep (first_seen keep) x old found first) (free : old.right ≡ no_right) where
  size : found / 2 ≡ load.head.length
  size = length_of load.head.closed load.head.length found load.bits

  -- a take at the end of the log
  pub finds : (closed : Bool) → load.head.closed ≡ closed → found / 2 ≡ cursor x → FoundNone closed (found / 2) x old first
  finds closed mark ends = record {
    head = load.head;
    looked_at = looks keep x old found first (first_seen keep) load first (prefix_refl first.seen);
    ends = ends;
    saw = mark;
    mark = marks keep x old found first (first_seen keep) load ∙ mark;
    view = load.view ∙ ap (λ (a : Bool). inr (if a then looked load.head x else (if ltb (cursor x) (load.head.length - keep) then lost_to load.head x (load.head.length - keep - cursor x) else record (looked load.head x) { phase = seating.Found }))) (eq-eqb load.head.length (cursor x) (sym size ∙ ends));
    right = load.right ∙ free;
  }

  -- a take behind what the log keeps
  pub loses : cursor x < found / 2 - keep → LostSome keep (found / 2 - keep - cursor x) (found / 2) x old first
  loses behind = let e = size in let k : load.head.length - keep - cursor x ≡ found / 2 - keep - cursor x = ap (λ (n : ℕ). n - keep - cursor x) (sym e) in record {
    head = load.head;
    looked_at = looks keep x old found first (first_seen keep) load first (prefix_refl first.seen);
    behind = behind;
    lost = refl;
    mark = marks keep x old found first (first_seen keep) load;
    view = inl (load.view ∙ ap (λ (a : Bool). inr (if a then looked load.head x else (if ltb (cursor x) (load.head.length - keep) then lost_to load.head x (load.head.length - keep - cursor x) else record (looked load.head x) { phase = seating.Found }))) (ne_eqb load.head.length (cursor x) (λ (n : load.head.length ≡ cursor x). omega arith))
        ∙ ap (λ (b : Bool). inr (if b then lost_to load.head x (load.head.length - keep - cursor x) else record (looked load.head x) { phase = seating.Found })) (lt-ltb (cursor x) (load.head.length - keep) (omega arith))
        ∙ ap (λ (n : ℕ). inr (lost_to load.head x n)) k);
    right = load.right ∙ free;
  }

-- a take's second load, after a pin that failed
module _ (keep : ℕ) (x : Seat) (old : Knows) (found : ℕ) (first : Knows) (load : Loads keep (first_seen keep) x old found first) (is_found : seat_of first.view ≡ record (looked load.head x) { phase = seating.Found })
    (most unit word : ℕ) (pinned unpinned : Knows) (step : Pins most unit (seat_of first.view) first word pinned) (back : Unpins (missed (seat_of pinned.view)) pinned unpinned)
    (later : ℕ) (next : Knows) (load_again : Loads keep (second_seen keep) (seat_of unpinned.view) unpinned later next) where
  abbrev y : Seat
  y = record (looked load.head x) { phase = seating.Missed; misses = x.misses + 1 }

  is_missed : seat_of unpinned.view ≡ y
  is_missed = ap seat_of back.view ∙ ap (λ (v : View). missed (seat_of v)) step.view ∙ ap missed is_found

  pub loses_later : found / 2 ≢ cursor x → found / 2 - keep ≤ cursor x → HasSeen (cursor x) old.seen → LostSome keep (later / 2 - keep - cursor x) (later / 2) x old next
  loses_later other kept known = let h : Head = load_again.head in let same : cursor (seat_of unpinned.view) ≡ cursor x = ap cursor is_missed in
      let more : IsPrefix first.seen unpinned.seen = prefix_trans first.seen pinned.seen unpinned.seen step.grows back.grows in
      let a = looks keep x old found first (first_seen keep) load unpinned more in
      let b = looks keep (seat_of unpinned.view) unpinned later next (second_seen keep) load_again next (prefix_refl next.seen) in
      let e : later / 2 ≡ h.length = sym b.size in
      let behind : cursor (seat_of unpinned.view) < h.length - keep = load_again.behind (ap (λ (z : Seat). z.phase) is_missed) in record {
        head = h;
        looked_at = record {
          size = b.size;
          short = b.short;
          far = λ k had. b.far k (seen_on old.seen unpinned.seen k a.grows had);
          has = b.has;
          ended = b.ended;
          grows = prefix_trans old.seen unpinned.seen next.seen a.grows b.grows;
        };
        behind = omega arith;
        lost = refl;
        mark = marks keep (seat_of unpinned.view) unpinned later next (second_seen keep) load_again;
        view = inr (
          load_again.view ∙ ap (λ (z : Seat). inr (second_seen keep h z)) is_missed ∙ ap (λ (n : ℕ). inr (lost_to h y (n - keep - cursor x))) (sym e),
          let far = a.far (cursor x) known in let before = b.far (found / 2) a.has in record { first = found / 2; far = a.far; before = before; kept = kept; there = omega arith },
        );
        right = load_again.right ∙ back.right;
      }
