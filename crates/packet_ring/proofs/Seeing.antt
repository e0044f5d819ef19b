-- What a token has seen of the log, as contracts see it.
use Rattle.std.proofs.Common.{◌≡◌, ◌⊎◌, ℕ, zero, suc, ◌+◌, ◌^◌, ◌<◌, ◌≤◌, Bool, true, false, List, [], ◌∷◌, ◌++◌, length, take, get_or, refl, sym, ap, ◌∙◌, subst, arith, length-append, Option, Some}
use Rattle.std.specs.Prelude.{slice_get}
use Rattle.std.proofs.lemmas.List.{take-append-le, map-append, length-map, length-take-le}
use mathlib.Core.Logic.{inl, inr}
use mathlib.Core.List.{IsPrefix}
use Rattle.cursor.specs.declared.takes.Account.{Account}
use Rattle.cursor.specs.declared.takes.Delivery.{Delivery}
use Rattle.cursor.specs.declared.takes.Delivery.TheVariants.{Got, Lost, Empty, Ended}
use Rattle.cursor.specs.Account.{counted, cursor_of}
use Rattle.cursor.specs.declared.packets.Packet.{Packet}
use Rattle.ring_steps.specs.declared.words.Head.{Head}
use Rattle.ring_steps.specs.declared.views.Seat.{Seat}
use Rattle.ring_steps.specs.declared.views.SeatPhase.{SeatPhase}
use Rattle.ring_steps.specs.declared.views.SeatPhase.TheVariants as seating
use Rattle.ring_steps.specs.Ring.{cursor}
use Rattle.packet_ring.specs.Rule.{Knows, View}
use Rattle.packet_ring.specs.Steps.{HasSeen, ends_at, lost_to, seat_of}
use Rattle.packet_ring.specs.Tokens.{FirstKept, FoundNone, GotPacket, Looked, LostSome, Takes}
use Rattle.packet_ring.specs.Views.{RingId, IsReceipted, IsSeated, IsSubscribed, found_by, keep_of, packet_from, packets_from, seen_by, subscribing_of}
use Rattle.packet_ring.specs.Calls.{LooksFor, SeesOn, TakesNext, WasKept, head_of, log_with}
use Rattle.packet_ring.specs.declared.block.Token.{Token}
use Rattle.packet_ring.proofs.Pinned.{or_packet}
use mathlib.Core.Logic.{dite}
use native.Mathlib.Decide.{dec_lt}
use Rattle.packet_ring.proofs.Ends.{ended_within, ends_on, ends_with, last_of, or_prefix, seen_on}

-- a list begins with what its beginnings begin with
pub take_of_prefix : (xs ys : List (List ℕ)) (k : ℕ) → IsPrefix xs ys → k ≤ length xs → take k ys ≡ take k xs
take_of_prefix xs ys k pre le = ap (λ (l : List (List ℕ)). take k l) (sym pre.1) ∙ take-append-le k xs pre.0 le

pub takes_begin : (a b : ℕ) (xs : List (List ℕ)) → a ≤ b → IsPrefix (take a xs) (take b xs)
takes_begin zero b xs le = (take b xs, refl)
takes_begin (suc a) zero xs le = absurd (omega arith)
takes_begin (suc a) (suc b) [] le = ([], refl)
takes_begin (suc a) (suc b) (x ∷ xs) le = let r = takes_begin a b xs (omega arith) in (r.0, ap (λ (l : List (List ℕ)). x ∷ l) r.1)

pub packets_begin : (xs ys : List (List ℕ)) → IsPrefix xs ys → IsPrefix (packets_from xs) (packets_from ys)
packets_begin xs ys pre = (packets_from pre.0, sym (map-append packet_from xs pre.0) ∙ ap packets_from pre.1)

-- what a token saw to this place, and sees to that place now
pub sees_on : (xs ys : List (List ℕ)) (k n : ℕ) → IsPrefix xs ys → HasSeen k xs → HasSeen n ys → k ≤ n → SeesOn (packets_from (take k xs)) (ends_at xs k) (packets_from (take n ys)) (ends_at ys n)
sees_on xs ys k n pre had has le = let same : take k ys ≡ take k xs = take_of_prefix xs ys k pre had.within in record {
  grows = packets_begin (take k xs) (take n ys) (subst (λ (l : List (List ℕ)). IsPrefix l (take n ys)) same (takes_begin k n ys le));
  ended = λ was. let most = ended_within xs ys k n pre was has in let e : n ≡ k = omega arith in (ap (λ (m : ℕ). packets_from (take m ys)) e ∙ ap packets_from same, ap (ends_at ys) e ∙ ends_on xs ys k pre was);
}

-- a call's last load sees on from what its token knew
pub sees : (z : RingId) (t t' : Token) (phase : SeatPhase) (known seen : ℕ) (head : Head) → IsSeated z t phase known → Looked head seen t.me t'.me → SeesOn (seen_by t known) (ends_at t.me.seen known) (seen_by t' seen) (ends_at t'.me.seen seen)
sees z t t' phase known seen head is look = sees_on t.me.seen t'.me.seen known seen look.grows is.has look.has (look.far known is.has)

-- the same packets, after a token knows more
pub same_seen : (xs ys : List (List ℕ)) (k : ℕ) → IsPrefix xs ys → HasSeen k xs → packets_from (take k ys) ≡ packets_from (take k xs)
same_seen xs ys k pre had = ap packets_from (take_of_prefix xs ys k pre had.within)

get_begin : (xs : List (List ℕ)) (k n : ℕ) (p : List ℕ) → slice_get xs n ≡ Some p → n < k → slice_get (packets_from (take k xs)) n ≡ Some (packet_from p)
get_begin xs zero n p at lt = absurd (omega arith)
get_begin [] (suc k) n p at lt = absurd (cc)
get_begin (x ∷ xs) (suc k) zero p at lt = ap (λ (o : Option (List ℕ)). Some (packet_from (or_packet x o))) at
get_begin (x ∷ xs) (suc k) (suc n) p at lt = get_begin xs k n p at (omega arith)

seen_size : (xs : List (List ℕ)) (k : ℕ) → k ≤ length xs → length (packets_from (take k xs)) ≡ k
seen_size xs k le = length-map (take k xs) packet_from ∙ length-take-le k xs le

-- the head that a call's last load found is that of the log that is seen
pub finds_log : (old : Knows) (t : Token) (seen : ℕ) (head : Head) → Looked head seen old t.me → found_by t ≡ head → ends_at t.me.seen seen ≡ head.closed → found_by t ≡ head_of (seen_by t seen) (ends_at t.me.seen seen)
finds_log old t seen head look is mark = let size : head.length ≡ length (seen_by t seen) = look.size ∙ sym (seen_size t.me.seen seen look.has.within) in is ∙ (λ i. record { length = size i; closed = sym mark i })

module _ (z : RingId) (t t' : Token) (known seen keep : ℕ) (a : Account) (is : IsSubscribed z t known a) (same : t'.id ≡ t.id) (sized : keep_of t.id ≡ keep) where
  abbrev x : Seat
  x = seat_of t.me.view

  at_cursor : cursor x ≡ cursor_of a
  at_cursor = ap cursor_of is.account

  -- a take that gave a packet
  pub takes_packet : (n : ℕ) (q : Packet) → n ≡ cursor x → GotPacket keep seen x (q.tag ∷ q.bytes) t.me t'.me → TakesNext (subscribing_of t known a) (Got n q) (subscribing_of t' seen (record a { taken = a.taken + 1 }))
  takes_packet n q at got = let p : List ℕ = q.tag ∷ q.bytes in let c = at_cursor in let many : length (seen_by t' seen) ≡ seen = seen_size t'.me.seen seen got.looked_at.has.within in let kept = got.kept in
      let next : cursor_of (record a { taken = a.taken + 1 }) ≡ n + 1 = omega arith in record {
        event = (
          ap (λ (k : ℕ). Some (Some k)) (sym c ∙ sym at),
          (let e = sized in omega arith),
          ap (λ (k : ℕ). slice_get (seen_by t' seen) k) at ∙ get_begin t'.me.seen seen (cursor x) p got.at got.there,
          ap (λ (k : ℕ). log_with (seen_by t' seen) (ends_at t'.me.seen seen) k) next,
        );
        counts = (at ∙ c, refl);
        sees = sees z t t' seating.Between known seen got.head is.seated got.looked_at;
        found = (ap (λ (v : View). (seat_of v).seen) got.view ∙ got.looked_at.size ∙ sym many, λ was. got.looked_at.ended (sym (ap (λ (v : View). (seat_of v).saw_closed) got.view) ∙ was));
        looks = record { loads = ap (λ (v : View). (seat_of v).loads) got.view; misses = ap (λ (v : View). (seat_of v).misses) got.view };
        ring = same;
      }

  -- a take that lost packets
  pub takes_lost : (count : ℕ) → LostSome keep count seen x t.me t'.me → TakesNext (subscribing_of t known a) (Lost count) (subscribing_of t' seen (record a { lost = a.lost + count }))
  takes_lost count lost = let c = at_cursor in let many : length (seen_by t' seen) ≡ seen = seen_size t'.me.seen seen lost.looked_at.has.within in let behind = lost.behind in let by = lost.lost in let e = sized in
      let next : cursor_of (record a { lost = a.lost + count }) ≡ cursor_of a + count = omega arith in record {
        event = (cursor_of a, refl, omega arith, omega arith, ap (λ (k : ℕ). log_with (seen_by t' seen) (ends_at t'.me.seen seen) k) next);
        counts = refl;
        sees = sees z t t' seating.Between known seen lost.head is.seated lost.looked_at;
        found = finds_log t.me t' seen lost.head lost.looked_at (found_head lost.view) lost.mark;
        looks = loaded lost.view;
        ring = same;
      } where
        Left : Type 0
        Left = (t'.me.view ≡ inr (lost_to lost.head x count)) ⊎ ((t'.me.view ≡ inr (lost_to lost.head (record x { loads = x.loads + 1; misses = x.misses + 1 }) count)) × FirstKept keep (cursor x) seen t.me)

        found_head : Left → found_by t' ≡ lost.head
        found_head (inl v) = ap (λ (w : View). let h : Head = record { length = (seat_of w).seen; closed = (seat_of w).saw_closed } in h) v
        found_head (inr v) = ap (λ (w : View). let h : Head = record { length = (seat_of w).seen; closed = (seat_of w).saw_closed } in h) v.0

        loaded : Left → LooksFor (Lost count) (subscribing_of t known a) (subscribing_of t' seen (record a { lost = a.lost + count }))
        loaded (inl v) = inl (record { loads = ap (λ (w : View). (seat_of w).loads) v; misses = ap (λ (w : View). (seat_of w).misses) v })
        loaded (inr v) = inr (record {
          loads = ap (λ (w : View). (seat_of w).loads) v.0 ∙ (let r : x.loads + 1 + 1 ≡ x.loads + 2 = omega arith in r);
          misses = ap (λ (w : View). (seat_of w).misses) v.0;
          first = kept_first v.1;
        })
          where
            kept_first : FirstKept keep (cursor x) seen t.me → WasKept (keep_of t.id) (length (seen_by t known)) (cursor_of a) (length (seen_by t' seen))
            kept_first k = let c = at_cursor in let e = sized in let now : length (seen_by t' seen) ≡ seen = seen_size t'.me.seen seen lost.looked_at.has.within in let was : length (seen_by t known) ≡ known = seen_size t.me.seen known is.seated.has.within in
                let far = k.far known is.seated.has in let before = k.before in let kept = k.kept in let there = k.there in record {
                  first = k.first;
                  known_before = omega arith;
                  seen_later = omega arith;
                  kept = omega arith;
                  there = omega arith;
                }

-- a take that found no further packet
module _ (z : RingId) (t t' : Token) (known seen : ℕ) (a : Account) (is : IsSubscribed z t known a) (same : t'.id ≡ t.id) where
  found_end : (closed : Bool) → FoundNone closed seen (seat_of t.me.view) t.me t'.me → Some (Some (cursor_of a)) ≡ Some (Some (length (seen_by t' seen)))
  found_end closed none = let c : cursor (seat_of t.me.view) ≡ cursor_of a = ap cursor_of is.account in let many : length (seen_by t' seen) ≡ seen = seen_size t'.me.seen seen none.looked_at.has.within in
      let ends = none.ends in ap (λ (k : ℕ). Some (Some k)) (let e : cursor_of a ≡ length (seen_by t' seen) = omega arith in e)

  found_end_of : (closed : Bool) (none : FoundNone closed seen (seat_of t.me.view) t.me t'.me) → found_by t' ≡ head_of (seen_by t' seen) (ends_at t'.me.seen seen)
  found_end_of closed none = finds_log t.me t' seen none.head none.looked_at (ap (λ (w : View). let h : Head = record { length = (seat_of w).seen; closed = (seat_of w).saw_closed } in h) none.view) (none.mark ∙ sym none.saw)

  pub takes_empty : FoundNone false seen (seat_of t.me.view) t.me t'.me → TakesNext (subscribing_of t known a) Empty (subscribing_of t' seen a)
  takes_empty none = record { event = (found_end false none, none.mark, refl); counts = refl; sees = sees z t t' seating.Between known seen none.head is.seated none.looked_at; found = found_end_of false none; looks = record { loads = ap (λ (v : View). (seat_of v).loads) none.view; misses = ap (λ (v : View). (seat_of v).misses) none.view }; ring = same }

  pub takes_ended : FoundNone true seen (seat_of t.me.view) t.me t'.me → TakesNext (subscribing_of t known a) Ended (subscribing_of t' seen a)
  takes_ended none = record { event = (found_end true none, none.mark, refl); counts = refl; sees = sees z t t' seating.Between known seen none.head is.seated none.looked_at; found = found_end_of true none; looks = record { loads = ap (λ (v : View). (seat_of v).loads) none.view; misses = ap (λ (v : View). (seat_of v).misses) none.view }; ring = same }

-- the logs that a publisher tells by its receipts
pub more_published : (log : List (List ℕ)) (p : List ℕ) (count : ℕ) → count ≡ length log → HasSeen count log → 1 ≤ length p → HasSeen (count + 1) (log ++ p ∷ [])
more_published log p count all has some = let a = length-append log (p ∷ []) in let in_log = has.within in record {
  within = omega arith;
  full = λ n l. dite (dec_lt n count)
      (λ old. subst (λ (q : List ℕ). 1 ≤ length q) (sym (or_prefix log (log ++ p ∷ []) n (p ∷ [], refl) (omega arith))) (has.full n old))
      (λ new. let e : n ≡ length log = omega arith in subst (λ (q : List ℕ). 1 ≤ length q) (sym (ap (λ (k : ℕ). get_or (log ++ p ∷ []) k []) e ∙ last_of log p)) some);
}

pub open_receipt : (log : List (List ℕ)) (p : List ℕ) (count : ℕ) (told : List (List ℕ)) → count ≡ length log → HasSeen count log → 1 ≤ length p → count < 2 ^ 46 → told ≡ log ++ p ∷ [] → IsReceipted told (count + 1) false
open_receipt log p count told all has some few is = let a = length-append log (p ∷ []) in let size : count + 1 ≡ length (log ++ p ∷ []) = omega arith in record {
  has = subst (HasSeen (count + 1)) (sym is) (more_published log p count all has some);
  some = λ _. omega arith;
  few = omega arith;
  mark = (λ i. ends_at (is i) (size i)) ∙ ends_with false (log ++ p ∷ []);
}

pub closed_receipt : (log : List (List ℕ)) (count : ℕ) (told : List (List ℕ)) → count ≡ length log → HasSeen count log → count ≤ 2 ^ 46 → told ≡ log ++ [] ∷ [] → IsReceipted told count true
closed_receipt log count told all has few is = record {
  has = subst (HasSeen count) (sym is) (seen_on log (log ++ [] ∷ []) count ([] ∷ [], refl) has);
  some = λ e. absurd (cc);
  few = few;
  mark = (λ i. ends_at (is i) (all i)) ∙ ends_with true log;
}

-- a take leads to the account that counts what it gave
pub takes_any : (z : RingId) (t t' : Token) (known seen keep : ℕ) (a : Account) → IsSubscribed z t known a → t'.id ≡ t.id → keep_of t.id ≡ keep
    → (d : Delivery) → Takes keep seen t.me d t'.me → TakesNext (subscribing_of t known a) d (subscribing_of t' seen (counted d a))
takes_any z t t' known seen keep a is same sized (Got n q) h = takes_packet z t t' known seen keep a is same sized n q h.0 h.1
takes_any z t t' known seen keep a is same sized (Lost k) h = takes_lost z t t' known seen keep a is same sized k h
takes_any z t t' known seen keep a is same sized Empty h = takes_empty z t t' known seen a is same h
takes_any z t t' known seen keep a is same sized Ended h = takes_ended z t t' known seen a is same h
