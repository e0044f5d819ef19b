-- Once a client has ended, its requests to the target stay in order.
use Rattle.std.proofs.Common.{◌≡◌, refl, sym, ap, subst, ℕ, zero, suc, min, List, ◌++◌, Option, Some, None, ◌∙◌}
use Rattle.rtsp_client.specs.Clients.{State, session_at, unless_ended, with_end}
use Rattle.rtsp_client.specs.Runs.{Event, Goes, sends, runs_out, takes, is_described, is_undescribed, is_redirected, is_answered, is_ended, is_stopped, frame_comes, frames_leave, ticks, idles}
use Rattle.rtsp_client.specs.Sending.{with_alive, with_fewer_waiting}
use Rattle.rtsp_client.specs.Steps.{Place}
use Rattle.rtsp_client.specs.Stopping.{StopsAt}
use Rattle.rtsp_client.specs.TargetCourse.{AreInOrder, Asking, IsCourse, asking_at}
use Rattle.rtsp_client.specs.Told.{answered_at, bad_at, described_at}
use Rattle.rtsp_client.specs.declared.asked.Side.TheVariants.{Target}
use Rattle.rtsp_client.specs.declared.end.End.{End}
use Rattle.rtsp_client.specs.declared.turn.Turn.{Turn}
use Rattle.rtsp_client.proofs.Running.{sends_before_end}

-- once it has ended, the order stays
record Rests (old new : State) : Type 0 where
  place : new.place ≡ old.place
  session : session_at Target new ≡ session_at Target old

rests_order : (askings : List Asking) (old new : State) → Rests old new → AreInOrder askings old → AreInOrder askings new
rests_order askings old new r o =
    let order_of : AreInOrder askings (record old { place = old.place }) = o in
    record {
      id = o.id;
      stage = o.stage;
      course = subst (λ (p : Place). IsCourse p.kept o.id askings o.stage) (sym r.place) o.course;
      open_is = λ x h. o.open_is x (sym r.session ∙ h);
    }

rests_by : (old new : State) → new ≡ old → Rests old new
rests_by old new is = record { place = ap (λ (s : State). s.place) is; session = ap (λ (s : State). session_at Target s) is }

rests_unless : (old new next : State) (end : End) → new ≡ unless_ended old.end next old → old.end ≡ Some end → Rests old new
rests_unless old new next end is at = rests_by old new (is ∙ ap (λ (e : Option End). unless_ended e next old) at)

alive_rests : (taken now : ℕ) (s : State) → Rests s (with_alive taken now s)
alive_rests zero now s = record { place = refl; session = refl }
alive_rests (suc others) now s = record { place = refl; session = refl }

stops_rests : (at end : Option End) (old new : State) (turn : Turn) (why : End) → at ≡ Some why → StopsAt at old new turn → Rests old new
stops_rests (Some end) other old new turn why is (same, _) = rests_by old new same
stops_rests None other old new turn why is h = absurd (cc)

pub at_rest : (event : Event) (old new : State) (end : End) → Goes event old new → old.end ≡ Some end → (askings : List Asking) → AreInOrder askings old → AreInOrder (asking_at event old ++ askings) new
at_rest (sends side asked number) old new end goes at askings o = let going = sends_before_end side asked number old new goes in absurd (cc)
at_rest (runs_out side) old new end (going, is) at askings o = absurd (cc)
at_rest (takes side reply) old new end (facts, now, turn, (going, is_reply, h)) at askings o = absurd (cc)
at_rest (is_described tracks) old new end is at askings o = rests_order askings old new (rests_unless old new (described_at old.awaits tracks old) end is at) o
at_rest is_undescribed old new end is at askings o = rests_order askings old new (rests_unless old new (bad_at old.awaits old) end is at) o
at_rest is_redirected old new end (going, waiting, is) at askings o = absurd (cc)
at_rest (is_answered has) old new end is at askings o = rests_order askings old new (rests_unless old new (answered_at old.awaits has old) end is at) o
at_rest (is_ended why) old new end is at askings o = rests_order askings old new (rests_unless old new (with_end why old) end is at) o
at_rest is_stopped old new end (turn, h) at askings o = rests_order askings old new (stops_rests old.end old.end old new turn end at h) o
at_rest frame_comes old new end (is, same_map, _) at askings o =
    rests_order askings old new (record { place = ap (λ (s : State). s.place) is; session = ap (λ (s : State). session_at Target s) is }) o
at_rest (frames_leave frames) old new end (now, is) at askings o =
    let r = alive_rests (min frames old.passage.account.unsent) now (with_fewer_waiting frames old) in
    rests_order askings old new (record { place = ap (λ (s : State). s.place) is ∙ r.place; session = ap (λ (s : State). session_at Target s) is ∙ r.session }) o
at_rest (ticks side) old new end (now, turn, going, h) at askings o = absurd (cc)
at_rest idles old new end is at askings o = rests_order askings old new (rests_by old new is) o
