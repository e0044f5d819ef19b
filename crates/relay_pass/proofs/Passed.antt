-- What a pass has done so far, and what it comes to.
use Rattle.std.proofs.Common.{◌≡◌, ◌≢◌, ℕ, ◌+◌, ◌≤◌, Bool, List, [], ◌∷◌, ◌++◌, Option, length, refl, sym, ap, subst, ◌∙◌, arith, append-nil, inl, inr}
use mathlib.Core.List.{IsPrefix}
use Rattle.std.proofs.KnownBytes.{Appends-nil}
use Rattle.std.proofs.lemmas.List.{map-append}
use Rattle.interleaved.specs.declared.frame.Frame.{Frame}
use Rattle.rtsp_message.specs.declared.unit.Unit.{Unit as StreamUnit}
use Rattle.rtsp_message.specs.Intakes.{IntakeState, HandsOut}
use Rattle.transport_header.specs.declared.spec.ChannelPair.{ChannelPair}
use Rattle.cursor.specs.declared.packets.Packet.{Packet}
use Rattle.cursor.specs.declared.takes.Delivery.{Delivery}
use Rattle.cursor.specs.Account.{cursor_of, losses, lost, with_answers}
use Rattle.cursor.specs.Player.{ReceivedFrom}
use Rattle.cursor.proofs.Counted.{lost-append}
use Rattle.packet_ring.specs.Players.{DoesCalls, Learns, SubscriberCall, answers_of, learns}
use Rattle.packet_ring.specs.Views.{Publishing, Subscribing, keep_of}
use Rattle.publisher.specs.Fates.{AreCounted, Handling}
use Rattle.player.specs.declared.report.OutStop.{OutStop}
use Rattle.player.specs.declared.report.OutStop.TheVariants as out_stop
use Rattle.player.specs.FramesOut.{GoesOut, WentOut, frames_out, skipped_of}
use Rattle.relay_pass.specs.declared.report.FrameCounts.{FrameCounts}
use Rattle.relay_pass.specs.declared.report.TakeCounts.{TakeCounts}
use Rattle.relay_pass.specs.declared.report.PassReport.{PassReport}
use Rattle.relay_pass.specs.declared.report.StreamEnd.{StreamEnd}
use Rattle.relay_pass.specs.Came.{frames_among}
use Rattle.relay_pass.specs.Counts.{counted_takes, counts_of, stop_of}
use Rattle.relay_pass.specs.Passes.{PassesOn, WasWritten, cut_packets}
use Rattle.relay_pass.specs.Publishes.{MeetFates, Publishes, frames_of}
use Rattle.relay_pass.specs.Takes.{FellBehind, TakesMore}
use Rattle.relay_pass.proofs.Endings.{Finished, answers-append, asked-of, calls-append, calls_of, cut-as, stops-as, takes-calls, went-whole, written-as}
use Rattle.relay_pass.proofs.Handing.{Handed, all-grew, met-append, met-none, frames-append, handed-more}
use Rattle.relay_pass.proofs.Settling.{Led, led-adds, led-join, led-quiet, led-takes, prefix-longer, prefix-same, prefix-whole, settled-received}
use Rattle.relay_pass.proofs.Takings.{frames-count, frames_out-append, goes-append, sent-count, skipped_of-append}

-- a seat that learned was given no answer
pub led-learned : (old new : Subscribing) → Learns old new → Led old [] new
led-learned old new h = led-quiet old new (ap (λ (s : Subscribing). s.ring) h.same) (ap (λ (s : Subscribing). s.account) h.same) h.sees.grows

-- ---- so far

module _ {S : Type 0} (of_source : S → Option (List ℕ)) (failed : S → Bool) (from to : List (Option ChannelPair)) where
  -- what a pass has done so far, of which no write failed
  pub record Passed (old now : IntakeState S) (publisher publisher' : Publishing) (seat seat' : Subscribing) (before after : Option (List ℕ)) (came : FrameCounts) (went : TakeCounts) : Type 0 where
    pub units : List StreamUnit
    pub handed : Handed of_source old now units
    pub handlings : List Handling
    pub frames : frames_among units ≡ frames_of handlings
    pub met : MeetFates from handlings publisher publisher'
    pub counts : AreCounted handlings (counts_of came)
    pub calls : List SubscriberCall
    pub does : DoesCalls seat calls seat'
    pub answers : List Delivery
    pub asked : answers_of calls ≡ answers
    pub led : Led seat answers seat'
    pub out : WentOut (frames_out to answers) went.sent went.cut before after
    pub skipped : went.skipped ≡ skipped_of to answers
    pub lost_is : went.lost ≡ lost answers
    pub whole : seat'.seen ≡ publisher'.log

  -- only the seat has learned of the log
  pub none-passed : (old : IntakeState S) (publisher : Publishing) (seat seat' : Subscribing) (before : Option (List ℕ)) (came : FrameCounts) (went : TakeCounts)
      → AreCounted [] (counts_of came) → went ≡ record { sent = 0; skipped = 0; lost = 0; cut = 0 } → Learns seat seat' → seat'.seen ≡ publisher.log
      → Passed old old publisher publisher seat seat' before before came went
  none-passed old publisher seat seat' before came went counts none learned whole = record {
    units = [];
    handed = inl (refl, refl);
    handlings = [];
    frames = refl;
    met = met-none from publisher;
    counts = counts;
    calls = learns ∷ [];
    does = (seat', learned, refl);
    answers = [];
    asked = refl;
    led = led-learned seat seat' learned;
    out = record { all_sent = ap (λ (t : TakeCounts). t.sent) none; none_cut = ap (λ (t : TakeCounts). t.cut) none; bytes = Appends-nil before };
    skipped = ap (λ (t : TakeCounts). t.skipped) none;
    lost_is = ap (λ (t : TakeCounts). t.lost) none;
    whole = whole;
  }

  -- a turn's frames
  pub passed-frames : (old now new : IntakeState S) (publisher mid publisher' : Publishing) (seat mid_seat seat' : Subscribing) (before after : Option (List ℕ)) (came came' : FrameCounts) (went : TakeCounts)
      → Passed old now publisher mid seat mid_seat before after came went → Publishes of_source from now new mid publisher' mid_seat seat' came came'
      → Passed old new publisher publisher' seat seat' before after came' went
  passed-frames old now new publisher mid publisher' seat mid_seat seat' before after came came' went so h = record {
    units = so.units ++ h.units;
    handed = inr (handed-more of_source old now new so.units h.units so.handed h.hands_out);
    handlings = so.handlings ++ h.handlings;
    frames =
        frames-append so.units h.units ∙ ap (λ (l : List Frame). l ++ frames_among h.units) so.frames ∙ ap (λ (l : List Frame). frames_of so.handlings ++ l) h.frames
        ∙ sym (map-append (λ (x : Handling). x.frame) so.handlings h.handlings);
    met = met-append from so.handlings h.handlings publisher mid publisher' so.met h.met;
    counts = h.counts so.handlings so.counts;
    calls = so.calls ++ learns ∷ [];
    does = calls-append seat so.calls mid_seat (learns ∷ []) seat' so.does (seat', h.learns.learns, refl);
    answers = so.answers;
    asked = answers-append so.calls (learns ∷ []) ∙ append-nil (answers_of so.calls) ∙ so.asked;
    led = subst (λ (ds : List Delivery). Led seat ds seat') (append-nil so.answers) (led-join seat so.answers mid_seat [] seat' so.led (led-learned mid_seat seat' h.learns.learns));
    out = so.out;
    skipped = so.skipped;
    lost_is = so.lost_is;
    whole = h.learns.whole (prefix-same mid_seat.seen mid.log so.whole) (inl so.whole);
  }

  -- a seat that knew the whole log still does after more takes
  still-whole : (log : List Packet) (mid_seat seat' : Subscribing) → IsPrefix mid_seat.seen seat'.seen → IsPrefix seat'.seen log → mid_seat.seen ≡ log → seat'.seen ≡ log
  still-whole log mid_seat seat' grows within whole =
      prefix-whole seat'.seen log within (omega (arith, prefix-longer mid_seat.seen seat'.seen grows, ap (λ (l : List Packet). length l) whole))

  module _ (old new : IntakeState S) (publisher publisher' : Publishing) (seat mid_seat seat' : Subscribing) (before between after : Option (List ℕ)) (came : FrameCounts) (went went' : TakeCounts) (x : OutStop)
      (so : Passed old new publisher publisher' seat mid_seat before between came went) (h : TakesMore to mid_seat seat' between after went went' x) (within : IsPrefix seat'.seen publisher'.log) where
    abbrev all_answers : List Delivery
    all_answers = so.answers ++ h.answers

    abbrev pub all_calls : List SubscriberCall
    all_calls = so.calls ++ calls_of h.answers

    all-does : DoesCalls seat all_calls seat'
    all-does = calls-append seat so.calls mid_seat (calls_of h.answers) seat' so.does (takes-calls mid_seat h.answers seat' h.run)

    all-asked : answers_of all_calls ≡ all_answers
    all-asked = answers-append so.calls (calls_of h.answers) ∙ ap (λ (ds : List Delivery). ds ++ answers_of (calls_of h.answers)) so.asked ∙ ap (λ (ds : List Delivery). so.answers ++ ds) (asked-of h.answers)

    all-led : Led seat all_answers seat'
    all-led = led-join seat so.answers mid_seat h.answers seat' so.led (led-takes mid_seat h.answers seat' h.run)

    all-out : GoesOut x (frames_out to all_answers) went'.sent went'.cut before after
    all-out =
        subst (λ (n : ℕ). GoesOut x (frames_out to all_answers) n went'.cut before after) (sym h.sent_is)
        (subst (λ (fs : List (List ℕ)). GoesOut x fs (went.sent + h.sent) went'.cut before after) (sym (frames_out-append to so.answers h.answers))
        (goes-append x (frames_out to so.answers) (frames_out to h.answers) went.sent h.sent went.cut went'.cut before between after so.out h.out))

    all-skipped : went'.skipped ≡ skipped_of to all_answers
    all-skipped = let first = so.skipped in let second = h.skipped in omega (arith, first, second, skipped_of-append to so.answers h.answers)

    all-lost : went'.lost ≡ lost all_answers
    all-lost = let first = so.lost_is in let second = h.lost in omega (arith, first, second, lost-append so.answers h.answers)

    its-whole : seat'.seen ≡ publisher'.log
    its-whole = still-whole publisher'.log mid_seat seat' (led-takes mid_seat h.answers seat' h.run).grows within so.whole

    -- a turn's takes
    pub passed-takes : x ≢ out_stop.WriteFailed → Passed old new publisher publisher' seat seat' before after came went'
    passed-takes ok = record {
      units = so.units;
      handed = so.handed;
      handlings = so.handlings;
      frames = so.frames;
      met = so.met;
      counts = so.counts;
      calls = all_calls;
      does = all-does;
      answers = all_answers;
      asked = all-asked;
      led = all-led;
      out = went-whole x (frames_out to all_answers) went'.sent went'.cut before after ok all-out;
      skipped = all-skipped;
      lost_is = all-lost;
      whole = its-whole;
    }

    its-adds : (end : StreamEnd) → cursor_of seat'.account ≡ cursor_of seat.account + counted_takes went' + cut_packets (stop_of end x)
    its-adds end =
        let sent = sent-count x (frames_out to all_answers) went'.sent went'.cut before after all-out in
        let skipped = all-skipped in
        let gone = all-lost in
        omega (arith, led-adds seat all_answers seat' all-led, sent, skipped, gone, frames-count to all_answers, cut-as end x)

    -- the end
    pub passes-on : seat.ring ≡ publisher.ring → (end : StreamEnd) (report : PassReport) → report ≡ record { came = came; went = went'; stop = stop_of end x } → (out : HandsOut of_source old new so.units)
        → cursor_of seat'.account ≤ length seat'.seen → Finished of_source failed new seat' end x
        → PassesOn of_source failed from to old new publisher publisher' seat seat' before after report
    passes-on rings end report is out reach finished =
        let long = prefix-longer seat'.seen publisher'.log within in
        let settles = all-led.settles publisher'.log within (omega (arith, reach, long)) in
        let grew = all-grew from so.handlings publisher publisher' so.met.meets in
        subst (λ (r : PassReport). PassesOn of_source failed from to old new publisher publisher' seat seat' before after r) (sym is) (record {
          came = record { units = so.units; hands_out = out; handlings = so.handlings; frames = so.frames; met = so.met; counts = so.counts; log = grew.log };
          went = record {
            calls = all_calls;
            does = all-does;
            received = subst (λ (ds : List Delivery). ReceivedFrom publisher'.log (cursor_of seat.account) ds) (sym all-asked) (settled-received publisher'.log (cursor_of seat.account) all_answers (cursor_of seat'.account) settles);
            account = subst (λ (ds : List Delivery). seat'.account ≡ with_answers seat.account ds) (sym all-asked) all-led.account;
            behind = subst (λ (ds : List Delivery). FellBehind (keep_of publisher'.ring) publisher'.log (losses (cursor_of seat.account) ds)) (sym all-asked)
                (subst (λ z. FellBehind (keep_of z) publisher'.log (losses (cursor_of seat.account) all_answers)) (rings ∙ sym grew.ring) (all-led.behind publisher'.log within));
            written = subst (λ (ds : List Delivery). WasWritten (stop_of end x) (frames_out to ds) went' before after) (sym all-asked) (written-as end x (frames_out to all_answers) went' before after all-out);
            skipped = subst (λ (ds : List Delivery). went'.skipped ≡ skipped_of to ds) (sym all-asked) all-skipped;
            lost = subst (λ (ds : List Delivery). went'.lost ≡ lost ds) (sym all-asked) all-lost;
            adds_up = its-adds end;
          };
          knows = its-whole;
          stops = stops-as of_source failed new publisher' seat' end x finished its-whole;
          ring = grew.ring;
          seat_ring = all-led.ring;
        })

  pub turn-out : (old now new : IntakeState S) (publisher mid publisher' : Publishing) (seat mid_seat seat' : Subscribing) (before after : Option (List ℕ)) (came came' : FrameCounts) (went : TakeCounts)
      → (so : Passed old now publisher mid seat mid_seat before after came went) (h : Publishes of_source from now new mid publisher' mid_seat seat' came came')
      → HandsOut of_source old new (passed-frames old now new publisher mid publisher' seat mid_seat seat' before after came came' went so h).units
  unfolding passed-frames
  turn-out old now new publisher mid publisher' seat mid_seat seat' before after came came' went so h = handed-more of_source old now new so.units h.units so.handed h.hands_out

  -- a turn's frames, and the takes after them, which are the last
  pub turn-passes : (old now new : IntakeState S) (publisher mid publisher' : Publishing) (seat mid_seat late_seat seat' : Subscribing) (before between after : Option (List ℕ)) (came came' : FrameCounts) (went went' : TakeCounts) (x : OutStop)
      → Passed old now publisher mid seat mid_seat before between came went → Publishes of_source from now new mid publisher' mid_seat late_seat came came'
      → TakesMore to late_seat seat' between after went went' x → IsPrefix seat'.seen publisher'.log → cursor_of seat'.account ≤ length seat'.seen
      → seat.ring ≡ publisher.ring → (end : StreamEnd) (report : PassReport) → report ≡ record { came = came'; went = went'; stop = stop_of end x }
      → Finished of_source failed new seat' end x
      → PassesOn of_source failed from to old new publisher publisher' seat seat' before after report
  turn-passes old now new publisher mid publisher' seat mid_seat late_seat seat' before between after came came' went went' x so h took within reach rings end report is finished =
      let turned = passed-frames old now new publisher mid publisher' seat mid_seat late_seat before between came came' went so h in
      passes-on old new publisher publisher' seat late_seat seat' before between after came' went went' x turned took within rings end report is
      (turn-out old now new publisher mid publisher' seat mid_seat late_seat before between came came' went so h) reach finished
