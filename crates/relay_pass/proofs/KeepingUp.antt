-- What is never counted, and a seat that keeps up.
use Rattle.std.proofs.Common.{◌≡◌, ◌≢◌, ℕ, ◌+◌, ◌<◌, ◌≤◌, Bool, List, Option, length, length-append, refl, sym, ap, subst, ◌∙◌, arith, inl}
use mathlib.Core.List.{IsPrefix}
use Rattle.rtsp_message.specs.Intakes.{IntakeState}
use Rattle.transport_header.specs.declared.spec.ChannelPair.{ChannelPair}
use Rattle.cursor.specs.declared.packets.Packet.{Packet}
use Rattle.cursor.specs.Account.{cursor_of}
use Rattle.packet_ring.specs.Calls.{NeverPinned}
use Rattle.packet_ring.specs.Views.{Publishing, RingId, Subscribing, keep_of}
use Rattle.publisher.specs.Fates.{published}
use Rattle.publisher.proofs.Incoming.{none_pinned, none_unkept}
use Rattle.player.specs.declared.report.OutStop.{OutStop}
use Rattle.player.specs.declared.report.OutStop.TheVariants as out_stop
use Rattle.relay_pass.specs.declared.report.FrameCounts.{FrameCounts}
use Rattle.relay_pass.specs.declared.report.TakeCounts.{TakeCounts}
use Rattle.relay_pass.specs.declared.report.PassReport.{PassReport}
use Rattle.relay_pass.specs.Counts.{counted_takes}
use Rattle.relay_pass.specs.Passes.{CameIn, PassesOn, cut_packets}
use Rattle.relay_pass.specs.Publishes.{Publishes}
use Rattle.relay_pass.specs.Ring.{LearnsLog}
use Rattle.relay_pass.specs.Takes.{TakesMore}
use Rattle.relay_pass.proofs.Carrying.{published-count}
use Rattle.relay_pass.proofs.Handing.{all-grew}
use Rattle.relay_pass.proofs.Settling.{led-takes, prefix-longer, prefix-same}

-- ---- what is never counted

pub never-pinned : {S : Type 0} (of_source : S → Option (List ℕ)) (from : List (Option ChannelPair)) (old new : IntakeState S) (publisher publisher' : Publishing) (report : PassReport)
    → CameIn of_source from old new publisher publisher' report → report.came.pinned ≡ 0
never-pinned of_source from old new publisher publisher' report h = h.counts.pinned ∙ none_pinned from _ NeverPinned h.handlings h.met.fates (λ pins may. may)

pub never-unkept : {S : Type 0} (of_source : S → Option (List ℕ)) (from : List (Option ChannelPair)) (old new : IntakeState S) (publisher publisher' : Publishing) (report : PassReport)
    → CameIn of_source from old new publisher publisher' report → report.came.unkept ≡ 0
never-unkept of_source from old new publisher publisher' report h = h.counts.unkept ∙ none_unkept from _ NeverPinned h.handlings h.met.fates (λ may. may)

-- ---- a seat that keeps up

-- At a turn's end the seat is no further behind the log's end than it was at the beginning.
abbrev pub InStep : (publisher publisher' : Publishing) → (seat seat' : Subscribing) → Type 0
InStep publisher publisher' seat seat' = length publisher'.log + cursor_of seat.account ≤ cursor_of seat'.account + length publisher.log

pub none-in-step : (publisher : Publishing) (seat seat' : Subscribing) → seat'.account ≡ seat.account → InStep publisher publisher seat seat'
none-in-step publisher seat seat' same = let there = ap cursor_of same in omega (arith, there)

-- a seat that began at the log's end has taken all
pub none-waits : (publisher publisher' : Publishing) (seat seat' : Subscribing) → InStep publisher publisher' seat seat' → cursor_of seat.account ≡ length publisher.log → length publisher'.log ≤ cursor_of seat'.account
none-waits publisher publisher' seat seat' so at = omega (arith, so, at)

module _ (n m : ℕ) (first publisher publisher' : Publishing) (start seat mid seat' : Subscribing) (at : cursor_of start.account ≤ length first.log) (so : InStep first publisher start seat)
    (most : length publisher'.log ≤ length publisher.log + n) (few : n ≤ m) (same : mid.account ≡ seat.account) (whole : mid.seen ≡ publisher'.log) (grows : IsPrefix mid.seen seat'.seen) where
  there : cursor_of mid.account ≡ cursor_of seat.account
  there = ap cursor_of same

  empty-step : cursor_of seat'.account ≡ length seat'.seen → InStep first publisher' start seat'
  empty-step empty = omega (arith, at, empty, prefix-longer mid.seen seat'.seen grows, ap (λ (l : List Packet). length l) whole)

  -- a turn that takes no less than it publishes, or takes all, leaves the seat no further behind
  pub stays-in-step : (x : OutStop) → x ≢ out_stop.WriteFailed → x ≢ out_stop.Ended → (x ≡ out_stop.Done → cursor_of mid.account + m ≤ cursor_of seat'.account) → (x ≡ out_stop.Empty → cursor_of seat'.account ≡ length seat'.seen)
      → InStep first publisher' start seat'
  stays-in-step out_stop.Done ok going done empty = let moved = done refl in omega (arith, so, most, few, there, moved)
  stays-in-step out_stop.Empty ok going done empty = empty-step (empty refl)
  stays-in-step out_stop.Ended ok going done empty = absurd (going refl)
  stays-in-step out_stop.WriteFailed ok going done empty = absurd (ok refl)

-- the same of a turn's calls
pub turn-in-step : (to : List (Option ChannelPair)) (n m : ℕ) (first publisher publisher' : Publishing) (start seat mid seat' : Subscribing) (before after : Option (List ℕ)) (went went' : TakeCounts) (x : OutStop)
    → cursor_of start.account ≤ length first.log → InStep first publisher start seat → length publisher'.log ≤ length publisher.log + n → n ≤ m
    → LearnsLog publisher.log publisher'.log seat mid → seat.seen ≡ publisher.log → TakesMore to mid seat' before after went went' x
    → x ≢ out_stop.WriteFailed → x ≢ out_stop.Ended → (x ≡ out_stop.Done → cursor_of mid.account + m ≤ cursor_of seat'.account) → (x ≡ out_stop.Empty → cursor_of seat'.account ≡ length seat'.seen)
    → InStep first publisher' start seat'
turn-in-step to n m first publisher publisher' start seat mid seat' before after went went' x at so most few learned known took =
    let led = led-takes mid took.answers seat' took.run in
    stays-in-step n m first publisher publisher' start seat mid seat' at so most few (ap (λ (s : Subscribing). s.account) learned.learns.same) (learned.whole (prefix-same seat.seen publisher.log known) (inl known)) led.grows x

-- if the seat is fewer than n packets further behind at the end, then fewer than n of the packets that were published weren't taken
pub passed-in-step : {S : Type 0} (of_source : S → Option (List ℕ)) (failed : S → Bool) (from to : List (Option ChannelPair)) (old new : IntakeState S) (publisher publisher' : Publishing) (seat seat' : Subscribing)
    (before after : Option (List ℕ)) (report : PassReport) (n : ℕ) → PassesOn of_source failed from to old new publisher publisher' seat seat' before after report
    → length publisher'.log + cursor_of seat.account < cursor_of seat'.account + length publisher.log + n → report.came.published < counted_takes report.went + cut_packets report.stop + n
passed-in-step of_source failed from to old new publisher publisher' seat seat' before after report n h behind =
    let hs = h.came.handlings in
    let grown : length publisher'.log ≡ length publisher.log + length (published hs) = ap (λ (l : List Packet). length l) h.came.log ∙ length-append publisher.log (published hs) in
    omega (arith, behind, grown, published-count hs, h.came.counts.published, h.went.adds_up)

pub learned-account : (old_log new_log : List Packet) (old new : Subscribing) → LearnsLog old_log new_log old new → new.account ≡ old.account
learned-account old_log new_log old new h = ap (λ (s : Subscribing). s.account) h.learns.same

pub learned-ring : (old_log new_log : List Packet) (old new : Subscribing) → LearnsLog old_log new_log old new → new.ring ≡ old.ring
learned-ring old_log new_log old new h = ap (λ (s : Subscribing). s.ring) h.learns.same

-- the ring after a turn's frames, of the publisher and of the seat
pub turn-ring : {S : Type 0} (of_source : S → Option (List ℕ)) (from : List (Option ChannelPair)) (old new : IntakeState S) (publisher publisher' : Publishing) (seat seat' : Subscribing) (came came' : FrameCounts)
    → Publishes of_source from old new publisher publisher' seat seat' came came' → publisher'.ring ≡ publisher.ring
turn-ring of_source from old new publisher publisher' seat seat' came came' h = (all-grew from h.handlings publisher publisher' h.met.meets).ring

pub turn-seat-ring : {S : Type 0} (of_source : S → Option (List ℕ)) (from : List (Option ChannelPair)) (old new : IntakeState S) (publisher publisher' : Publishing) (seat seat' : Subscribing) (came came' : FrameCounts)
    → Publishes of_source from old new publisher publisher' seat seat' came came' → seat'.ring ≡ seat.ring
turn-seat-ring of_source from old new publisher publisher' seat seat' came came' h = learned-ring publisher.log publisher'.log seat seat' h.learns

-- A turn publishes at most n packets, no more than are kept, to a seat that has taken all: so none of them is lost.
kept-few : (n keep p p' c c' : ℕ) → p ≤ c → p' ≤ p + n → n ≤ keep → c' ≡ c → p' ≤ c' + keep
kept-few n keep p p' c c' at most few there = omega arith

pub turn-few : {S : Type 0} (of_source : S → Option (List ℕ)) (from : List (Option ChannelPair)) (old new : IntakeState S) (publisher publisher' : Publishing) (seat seat' : Subscribing) (came came' : FrameCounts)
    → Publishes of_source from old new publisher publisher' seat seat' came came' → (ring : RingId) (n : ℕ) → publisher.ring ≡ ring → n ≤ keep_of ring → length publisher.log ≤ cursor_of seat.account
    → length publisher'.log ≤ length publisher.log + n → length publisher'.log ≤ cursor_of seat'.account + keep_of publisher'.ring
turn-few of_source from old new publisher publisher' seat seat' came came' h ring n same few at most =
    let few_now = subst (λ z. n ≤ keep_of z) (sym (turn-ring of_source from old new publisher publisher' seat seat' came came' h ∙ same)) few in
    kept-few n (keep_of publisher'.ring) (length publisher.log) (length publisher'.log) (cursor_of seat.account) (cursor_of seat'.account) at most few_now
    (ap cursor_of (learned-account publisher.log publisher'.log seat seat' h.learns))
