-- What the seat learns of each publish.
use Rattle.std.proofs.Common.{◌≡◌, ℕ, ◌+◌, ◌⊎◌, false, List, [], ◌∷◌, ◌++◌, Option, length, refl, sym, ap, subst, ◌∙◌, arith, length-append, inl, inr}
use Rattle.std.specs.Prelude.{Result, Ok, Err}
use mathlib.Core.List.{IsPrefix}
use Rattle.std.proofs.lemmas.Bool.{cases_lt}
use Rattle.interleaved.specs.declared.frame.Frame.{Frame}
use Rattle.transport_header.specs.declared.spec.ChannelPair.{ChannelPair}
use Rattle.cursor.specs.declared.packets.Packet.{Packet}
use Rattle.cursor.specs.declared.refusals.Refused.{Refused as Refusal}
use Rattle.cursor.specs.declared.refusals.Refused.TheVariants as refused
use Rattle.packet_ring.specs.Calls.{Refuses, SeesOn}
use Rattle.packet_ring.specs.Players.{Learns, PublishesBeside}
use Rattle.packet_ring.specs.declared.unpinned.Unpinned.{Unpinned}
use Rattle.packet_ring.specs.Views.{Publishing, Subscribing}
use Rattle.publisher.specs.declared.fate.Fate.{Fate}
use Rattle.publisher.specs.declared.fate.Fate.TheVariants as fate
use Rattle.publisher.specs.FramesIn.{Meets}
use Rattle.relay_pass.specs.Ring.{LearnsLog}
use Rattle.relay_pass.proofs.Settling.{prefix-longer, prefix-refl, prefix-trans, prefix-whole}

pub learns-none : (log log' : List Packet) (seat seat' : Subscribing) → log' ≡ log → seat' ≡ seat → LearnsLog log log' seat seat'
learns-none log log' seat seat' same same_seat =
    subst (λ (s : Subscribing). LearnsLog log log' seat s) (sym same_seat) (subst (λ (l : List Packet). LearnsLog log l seat seat) (sym same) (none log seat))
  where
    none : (log : List Packet) (seat : Subscribing) → LearnsLog log log seat seat
    none log seat = record {
      learns = record { same = refl; sees = record { grows = prefix-refl seat.seen; ended = λ closed. (refl, closed) } };
      within = λ within. within;
      whole = λ within knows. elim knows [ inl all ↦ all | inr more ↦ absurd (omega (arith, more)) ];
    }

learned-twice : (r s t : Subscribing) → Learns r s → Learns s t → Learns r t
learned-twice r s t p q = record {
  same = q.same ∙ ap (λ (x : Subscribing). let y : Subscribing = record x { seen = t.seen; closed = t.closed } in y) p.same;
  sees = record {
    grows = prefix-trans r.seen s.seen t.seen p.sees.grows q.sees.grows;
    ended = λ closed. (let first = p.sees.ended closed in let second = q.sees.ended first.1 in (second.0 ∙ first.0, second.1));
  };
}

pub learns-trans : (a b c : List Packet) (r s t : Subscribing) → LearnsLog a b r s → LearnsLog b c s t → LearnsLog a c r t
learns-trans a b c r s t p q = record {
  learns = learned-twice r s t p.learns q.learns;
  within = λ within. q.within (p.within within);
  whole = λ within knows. q.whole (p.within within) (elim knows [
    | inl all ↦ inl (p.whole within (inl all))
    | inr more ↦ elim (cases_lt (length a) (length b)) [
      | inl first ↦ inl (p.whole within (inr first))
      | inr not ↦ inr (omega (arith, more, not))
    ]
  ]);
}

-- a seat that learned of a log that grew by a packet
learns-more : (log : List Packet) (packet : Packet) (new_log : List Packet) (seat seat' : Subscribing) → new_log ≡ log ++ packet ∷ [] → Learns seat seat' → SeesOn new_log false seat'.seen seat'.closed
    → ((seat'.seen ≡ seat.seen) ⊎ (seat'.seen ≡ new_log)) → LearnsLog log new_log seat seat'
learns-more log packet new_log seat seat' grew learns told one =
    let longer : length new_log ≡ length log + 1 = ap (λ (l : List Packet). length l) grew ∙ length-append log (packet ∷ []) in
    let far = prefix-longer new_log seat'.seen told.grows in
    let all : IsPrefix seat.seen log → seat'.seen ≡ new_log = λ within. (elim one [
      | inl same ↦ absurd (omega (arith, longer, far, ap (λ (l : List Packet). length l) same, prefix-longer seat.seen log within))
      | inr whole ↦ whole
    ]) in
    record {
      learns = learns;
      within = λ within. subst (λ (l : List Packet). IsPrefix l new_log) (sym (all within)) (prefix-refl new_log);
      whole = λ within knows. all within;
    }

-- a seat that was told of a log, of which it knew a beginning, knows the whole log
pub told-whole : (log : List Packet) (seat seat' : Subscribing) → IsPrefix seat.seen log → SeesOn log false seat'.seen seat'.closed → ((seat'.seen ≡ seat.seen) ⊎ (seat'.seen ≡ log)) → seat'.seen ≡ log
told-whole log seat seat' within told one = elim one [
  | inl same ↦ prefix-whole seat'.seen log (subst (λ (l : List Packet). IsPrefix l log) (sym same) within) (prefix-longer log seat'.seen told.grows)
  | inr whole ↦ whole
]

learns-refused : (publisher publisher' : Publishing) (packet : Packet) (refusal : Refusal) → Refuses publisher packet refusal publisher' → publisher'.log ≡ publisher.log
learns-refused publisher publisher' packet refused.TooLong h = ap (λ (p : Publishing). p.log) h.1
learns-refused publisher publisher' packet refused.Worn h = ap (λ (p : Publishing). p.log) h.2
learns-refused publisher publisher' packet (refused.Pinned pins) h = ap (λ (p : Publishing). p.log) h.4
learns-refused publisher publisher' packet refused.OutOfMemory h = absurd h

-- a publish beside the seat
beside-learns : (publisher : Publishing) (seat : Subscribing) (packet : Packet) (answer : Result ℕ Refusal) (publisher' : Publishing) (seat' : Subscribing) → PublishesBeside publisher seat packet answer publisher' seat' → LearnsLog publisher.log publisher'.log seat seat'
beside-learns publisher seat packet (Ok n) publisher' seat' h =
    learns-more publisher.log packet publisher'.log seat seat' (ap (λ (p : Publishing). p.log) h.publishes.1.after) h.learns.0 h.learns.1 h.learns.2
beside-learns publisher seat packet (Err refusal) publisher' seat' h = learns-none publisher.log publisher'.log seat seat' (learns-refused publisher publisher' packet refusal h.publishes) h.learns

-- what a publish may do to a ring's publisher and its one seat, as a feed
abbrev pub GivesBeside : Unpinned → Packet → Result ℕ Refusal → Unpinned → Type 0
GivesBeside old p answer new =
    (new.publisher.ghost_name ≡ old.publisher.ghost_name) × (new.seat.ghost_name ≡ old.seat.ghost_name)
    × PublishesBeside old.publisher.now old.seat.now p answer new.publisher.now new.seat.now

-- one fate there, of which the seat learns
module _ (pairs : List (Option ChannelPair)) where
  beside : (old : Unpinned) (p : Packet) (answer : Result ℕ Refusal) (new : Unpinned) → GivesBeside old p answer new → LearnsLog old.publisher.now.log new.publisher.now.log old.seat.now new.seat.now
  beside old p answer new h = beside-learns old.publisher.now old.seat.now p answer new.publisher.now new.seat.now h.2

  not-offered : (old new : Unpinned) → new ≡ old → LearnsLog old.publisher.now.log new.publisher.now.log old.seat.now new.seat.now
  not-offered old new same = learns-none _ _ _ _ (ap (λ (f : Unpinned). f.publisher.now.log) same) (ap (λ (f : Unpinned). f.seat.now) same)

  pub seat_learns : (frame : Frame) (outcome : Fate) (old new : Unpinned) → Meets GivesBeside pairs frame outcome old new → LearnsLog old.publisher.now.log new.publisher.now.log old.seat.now new.seat.now
  seat_learns frame (fate.Published tag) old new m = beside old _ _ new m.1
  seat_learns frame fate.Pinned old new m = beside old _ _ new m.1.2
  seat_learns frame fate.Oversize old new m = beside old _ _ new m.2
  seat_learns frame fate.Worn old new m = beside old _ _ new m.2
  seat_learns frame fate.Unkept old new m = beside old _ _ new m.2
  seat_learns frame fate.BadRtp old new m = not-offered old new m
  seat_learns frame fate.Stranger old new m = not-offered old new m
