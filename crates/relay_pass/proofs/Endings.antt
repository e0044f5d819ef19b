-- How a pass ends: why its takes have stopped, and the calls of its seat, one after another.
use Rattle.std.proofs.Common.{◌≡◌, ◌≢◌, ℕ, Bool, List, [], ◌∷◌, ◌++◌, Option, length, refl, ap, subst, ◌∙◌}
use Rattle.rtsp_message.specs.Intakes.{IntakeState}
use Rattle.transport_header.specs.declared.spec.ChannelPair.{ChannelPair}
use Rattle.cursor.specs.declared.packets.Packet.{Packet}
use Rattle.cursor.specs.declared.takes.Delivery.{Delivery}
use Rattle.cursor.specs.Account.{cursor_of}
use Rattle.cursor.specs.Taps.{Takes}
use Rattle.packet_ring.specs.Calls.{TakesNext}
use Rattle.packet_ring.specs.Players.{DoesCalls, SubscriberCall, answers_of, takes, learns}
use Rattle.packet_ring.specs.Views.{Publishing, Subscribing}
use Rattle.player.specs.declared.report.OutStop.{OutStop}
use Rattle.player.specs.declared.report.OutStop.TheVariants as out_stop
use Rattle.player.specs.FramesOut.{GoesOut, WentOut, frames_out}
use Rattle.relay_pass.specs.declared.report.TakeCounts.{TakeCounts}
use Rattle.relay_pass.specs.declared.report.PassStop.TheVariants as pass_stop
use Rattle.relay_pass.specs.declared.report.StreamEnd.{StreamEnd}
use Rattle.relay_pass.specs.Came.{HasEnded}
use Rattle.relay_pass.specs.Counts.{stop_of}
use Rattle.relay_pass.specs.Passes.{Stops, WasWritten, cut_packets}
use Rattle.relay_pass.specs.Takes.{TakesMore}
use Rattle.relay_pass.proofs.Takings.{cut_count}

-- ---- how the takes have stopped

pub went-whole : (x : OutStop) (frames : List (List ℕ)) (sent cut : ℕ) (before after : Option (List ℕ)) → x ≢ out_stop.WriteFailed → GoesOut x frames sent cut before after → WentOut frames sent cut before after
went-whole out_stop.Done frames sent cut before after ok h = h
went-whole out_stop.Empty frames sent cut before after ok h = h
went-whole out_stop.Ended frames sent cut before after ok h = h
went-whole out_stop.WriteFailed frames sent cut before after ok h = absurd (ok refl)

pub written-as : (end : StreamEnd) (x : OutStop) (frames : List (List ℕ)) (went : TakeCounts) (before after : Option (List ℕ)) → GoesOut x frames went.sent went.cut before after → WasWritten (stop_of end x) frames went before after
written-as end out_stop.Done frames went before after h = h
written-as end out_stop.Empty frames went before after h = h
written-as end out_stop.Ended frames went before after h = h
written-as end out_stop.WriteFailed frames went before after h = h

pub cut-as : (end : StreamEnd) (x : OutStop) → cut_packets (stop_of end x) ≡ cut_count x
cut-as end out_stop.Done = refl
cut-as end out_stop.Empty = refl
cut-as end out_stop.Ended = refl
cut-as end out_stop.WriteFailed = refl

-- what is known of the end of a pass
pub record Finished {S : Type 0} (of_source : S → Option (List ℕ)) (failed : S → Bool) (new : IntakeState S) (seat' : Subscribing) (end : StreamEnd) (x : OutStop) : Type 0 where
  pub ended : x ≢ out_stop.WriteFailed → HasEnded of_source failed new end
  pub empty : x ≡ out_stop.Empty → cursor_of seat'.account ≡ length seat'.seen
  pub not_done : x ≢ out_stop.WriteFailed → x ≢ out_stop.Done
  pub not_ended : x ≢ out_stop.Ended

pub stops-as : {S : Type 0} (of_source : S → Option (List ℕ)) (failed : S → Bool) (new : IntakeState S) (publisher' : Publishing) (seat' : Subscribing) (end : StreamEnd) (x : OutStop)
    → Finished of_source failed new seat' end x → seat'.seen ≡ publisher'.log → Stops of_source failed new publisher' seat' (stop_of end x)
stops-as of_source failed new publisher' seat' end out_stop.Done h whole = absurd (h.not_done (λ e. cc) refl)
stops-as of_source failed new publisher' seat' end out_stop.Ended h whole = absurd (h.not_ended refl)
stops-as of_source failed new publisher' seat' end out_stop.WriteFailed h whole = tt
stops-as of_source failed new publisher' seat' end out_stop.Empty h whole = (h.ended (λ e. cc), h.empty refl ∙ ap (λ (l : List Packet). length l) whole)

-- ---- calls, one after another

pub calls-append : (old : Subscribing) (xs : List SubscriberCall) (mid : Subscribing) (ys : List SubscriberCall) (new : Subscribing) → DoesCalls old xs mid → DoesCalls mid ys new → DoesCalls old (xs ++ ys) new
calls-append old [] mid ys new same h = subst (λ (o : Subscribing). DoesCalls o ys new) same h
calls-append old (takes d ∷ xs) mid ys new p q = (p.0, p.1, calls-append p.0 xs mid ys new p.2 q)
calls-append old (learns ∷ xs) mid ys new p q = (p.0, p.1, calls-append p.0 xs mid ys new p.2 q)

pub answers-append : (xs ys : List SubscriberCall) → answers_of (xs ++ ys) ≡ answers_of xs ++ answers_of ys
answers-append [] ys = refl
answers-append (takes d ∷ xs) ys = ap (λ (ds : List Delivery). d ∷ ds) (answers-append xs ys)
answers-append (learns ∷ xs) ys = answers-append xs ys

-- the calls of some takes
abbrev pub calls_of : List Delivery → List SubscriberCall
calls_of [] = []
calls_of (d ∷ ds) = takes d ∷ calls_of ds

pub takes-calls : (old : Subscribing) (ds : List Delivery) (new : Subscribing) → Takes TakesNext old ds new → DoesCalls old (calls_of ds) new
takes-calls old [] new run = run
takes-calls old (d ∷ ds) new run = (run.0, run.1, takes-calls run.0 ds new run.2)

pub asked-of : (ds : List Delivery) → answers_of (calls_of ds) ≡ ds
asked-of [] = refl
asked-of (d ∷ ds) = ap (λ (es : List Delivery). d ∷ es) (asked-of ds)

-- takes of which no write failed, as takes that go on
pub takes-went-on : (to : List (Option ChannelPair)) (old new : Subscribing) (before after : Option (List ℕ)) (went went' : TakeCounts) (x : OutStop) → x ≢ out_stop.WriteFailed
    → TakesMore to old new before after went went' x → TakesMore to old new before after went went' out_stop.Done
takes-went-on to old new before after went went' x ok h = record {
  answers = h.answers;
  run = h.run;
  sent = h.sent;
  sent_is = h.sent_is;
  out = went-whole x (frames_out to h.answers) h.sent went'.cut before after ok h.out;
  skipped = h.skipped;
  lost = h.lost;
}

pub uncut-on : (to : List (Option ChannelPair)) (old new : Subscribing) (before after : Option (List ℕ)) (went went' : TakeCounts) (x : OutStop) → x ≢ out_stop.WriteFailed
    → TakesMore to old new before after went went' x → went'.cut ≡ 0
uncut-on to old new before after went went' x ok h = (went-whole x (frames_out to h.answers) h.sent went'.cut before after ok h.out).none_cut

pub finished-failed : {S : Type 0} (of_source : S → Option (List ℕ)) (failed : S → Bool) (new : IntakeState S) (seat' : Subscribing) (end : StreamEnd) → Finished of_source failed new seat' end out_stop.WriteFailed
finished-failed of_source failed new seat' end = record {
  ended = λ ok. absurd (ok refl);
  empty = λ e. cc;
  not_done = λ ok. absurd (ok refl);
  not_ended = λ e. cc;
}

pub stop-failed : (end : StreamEnd) (x : OutStop) → stop_of end x ≡ pass_stop.WriteFailed → x ≡ out_stop.WriteFailed
stop-failed end out_stop.Done e = absurd (cc)
stop-failed end out_stop.Empty e = absurd (cc)
stop-failed end out_stop.Ended e = absurd (cc)
stop-failed end out_stop.WriteFailed e = refl
