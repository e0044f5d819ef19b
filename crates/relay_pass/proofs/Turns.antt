-- How much is published in turns while the seat takes.
use Rattle.std.proofs.Common.{◌≡◌, ◌≢◌, ℕ, ◌+◌, ◌*◌, ◌-◌, ◌≤◌, Bool, List, Option, length, length-append, refl, sym, ap, subst, ◌∙◌, arith}
use Rattle.std.proofs.Math.Nat.{mul-le-mul_left}
use Rattle.rtsp_message.specs.Intakes.{IntakeState}
use Rattle.transport_header.specs.declared.spec.ChannelPair.{ChannelPair}
use Rattle.cursor.specs.declared.packets.Packet.{Packet}
use Rattle.cursor.specs.Account.{cursor_of}
use Rattle.packet_ring.specs.Views.{Publishing, Subscribing}
use Rattle.publisher.specs.Fates.{published}
use Rattle.player.specs.declared.report.OutStop.{OutStop}
use Rattle.player.specs.declared.report.OutStop.TheVariants as out_stop
use Rattle.relay_pass.specs.declared.report.FrameCounts.{FrameCounts}
use Rattle.relay_pass.specs.declared.report.TakeCounts.{TakeCounts}
use Rattle.relay_pass.specs.declared.report.PassReport.{PassReport}
use Rattle.relay_pass.specs.Counts.{counted_takes}
use Rattle.relay_pass.specs.Passes.{PassesOn, cut_packets}
use Rattle.relay_pass.proofs.Carrying.{published-count}
use Rattle.relay_pass.proofs.Handing.{all-grew}
use Rattle.relay_pass.proofs.Passed.{Passed}

-- At a turn's end at most n packets were published since `publisher` for each m that were taken since `seat`.
abbrev pub InTurns : (n m : ℕ) → (publisher publisher' : Publishing) → (seat seat' : Subscribing) → Type 0
InTurns n m publisher publisher' seat seat' = m * length publisher'.log + n * cursor_of seat.account ≤ n * cursor_of seat'.account + m * length publisher.log

-- ---- on numbers: of p0 packets c0 were taken first, then p and c, and then p' and c'

one-turn : (n m p0 c0 p c p' c' : ℕ) → m * p + n * c0 ≤ n * c + m * p0 → p' ≤ p + n → c + m ≤ c' → m * p' + n * c0 ≤ n * c' + m * p0
one-turn n m p0 c0 p c p' c' so most more = omega (arith, so, mul-le-mul_left m most, mul-le-mul_left n more)

taken-more : (m k p0 c0 p' : ℕ) → c0 ≤ p0 → p0 ≤ p' → m * p' + (m + k) * c0 ≤ (m + k) * p' + m * p0
taken-more m k p0 c0 p' at grew =
    let below : c0 ≤ p' = omega (arith, at, grew) in
    omega (arith, mul-le-mul_left m at, mul-le-mul_left k below)

all-taken : (n m p0 c0 p' : ℕ) → m ≤ n → c0 ≤ p0 → p0 ≤ p' → m * p' + n * c0 ≤ n * p' + m * p0
all-taken n m p0 c0 p' few at grew =
    let sum : m + (n - m) ≡ n = omega (arith, few) in
    subst (λ k. m * p' + k * c0 ≤ k * p' + m * p0) sum (taken-more m (n - m) p0 c0 p' at grew)

last-turn : (n m p0 c0 p c came taken : ℕ) → m * p + n * c0 ≤ n * c + m * p0 → p0 + came ≤ p + n → c ≤ c0 + taken → m * came ≤ n * (taken + m)
last-turn n m p0 c0 p c came taken so most on = omega (arith, so, mul-le-mul_left m most, mul-le-mul_left n on)

-- ---- of a pass

pub none-in-turns : (n m : ℕ) (publisher : Publishing) (seat seat' : Subscribing) → seat'.account ≡ seat.account → InTurns n m publisher publisher seat seat'
none-in-turns n m publisher seat seat' same =
    let there : cursor_of seat'.account ≡ cursor_of seat.account = ap cursor_of same in
    let on : cursor_of seat.account ≤ cursor_of seat'.account = omega (arith, there) in
    omega (arith, mul-le-mul_left n on)

module _ (n m : ℕ) (first publisher publisher' : Publishing) (start seat mid seat' : Subscribing) (few : m ≤ n) (at : cursor_of start.account ≤ length first.log)
    (so : InTurns n m first publisher start seat) (most : length publisher'.log ≤ length publisher.log + n) (same : mid.account ≡ seat.account) (grew : length first.log ≤ length publisher'.log)
    (whole : seat'.seen ≡ publisher'.log) where
  empty-turn : cursor_of seat'.account ≡ length seat'.seen → InTurns n m first publisher' start seat'
  empty-turn empty =
      subst (λ c. m * length publisher'.log + n * cursor_of start.account ≤ n * c + m * length first.log) (sym (empty ∙ ap (λ (l : List Packet). length l) whole))
      (all-taken n m (length first.log) (cursor_of start.account) (length publisher'.log) few at grew)

  -- one more turn that publishes at most n packets and makes m takes, or takes all
  pub turn-in-turns : (x : OutStop) → x ≢ out_stop.WriteFailed → x ≢ out_stop.Ended → (x ≡ out_stop.Done → cursor_of mid.account + m ≤ cursor_of seat'.account) → (x ≡ out_stop.Empty → cursor_of seat'.account ≡ length seat'.seen)
      → InTurns n m first publisher' start seat'
  turn-in-turns out_stop.Done ok going done empty =
      one-turn n m (length first.log) (cursor_of start.account) (length publisher.log) (cursor_of seat.account) (length publisher'.log) (cursor_of seat'.account) so most
      (subst (λ a. cursor_of a + m ≤ cursor_of seat'.account) same (done refl))
  turn-in-turns out_stop.Empty ok going done empty = empty-turn (empty refl)
  turn-in-turns out_stop.Ended ok going done empty = absurd (going refl)
  turn-in-turns out_stop.WriteFailed ok going done empty = absurd (ok refl)

pub passed-grew : {S : Type 0} (of_source : S → Option (List ℕ)) (failed : S → Bool) (from to : List (Option ChannelPair)) (old now : IntakeState S) (publisher publisher' : Publishing) (seat seat' : Subscribing)
    (before after : Option (List ℕ)) (came : FrameCounts) (went : TakeCounts) → Passed of_source failed from to old now publisher publisher' seat seat' before after came went → length publisher.log ≤ length publisher'.log
passed-grew of_source failed from to old now publisher publisher' seat seat' before after came went so =
    omega (arith, ap (λ (l : List Packet). length l) (all-grew from so.handlings publisher publisher' so.met.meets).log, length-append publisher.log (published so.handlings))

-- the end, after a turn that published at most n packets more
pub passed-in-turns : {S : Type 0} (of_source : S → Option (List ℕ)) (failed : S → Bool) (from to : List (Option ChannelPair)) (old new : IntakeState S) (publisher mid publisher' : Publishing) (seat mid_seat seat' : Subscribing)
    (before after : Option (List ℕ)) (report : PassReport) (n m : ℕ) → PassesOn of_source failed from to old new publisher publisher' seat seat' before after report
    → InTurns n m publisher mid seat mid_seat → length publisher'.log ≤ length mid.log + n → cursor_of mid_seat.account ≤ cursor_of seat'.account
    → m * report.came.published ≤ n * (counted_takes report.went + cut_packets report.stop + m)
passed-in-turns of_source failed from to old new publisher mid publisher' seat mid_seat seat' before after report n m h so most on =
    let hs = h.came.handlings in
    let grown : length publisher'.log ≡ length publisher.log + length (published hs) = ap (λ (l : List Packet). length l) h.came.log ∙ length-append publisher.log (published hs) in
    last-turn n m (length publisher.log) (cursor_of seat.account) (length mid.log) (cursor_of mid_seat.account) report.came.published (counted_takes report.went + cut_packets report.stop) so
    (omega (arith, most, grown, published-count hs, h.came.counts.published)) (omega (arith, on, h.went.adds_up))
