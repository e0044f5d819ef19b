-- What a change of a session, a keepalive or an end moves.
use Rattle.std.proofs.Common.{◌≡◌, refl, sym, subst, ℕ, arith, ◌⊎◌, inl, inr, Bool, Option, Some, None, Result, Ok, Err, List, ◌∙◌}
use Rattle.rtsp_client.specs.Clients.{State}
use Rattle.rtsp_client.specs.Connections.{opened_on}
use Rattle.rtsp_client.specs.Lateness.{Lacks, free_at}
use Rattle.rtsp_client.specs.Replies.{answered_of, challenged, kept_alive, options_at}
use Rattle.rtsp_client.specs.Requests.{without_request}
use Rattle.rtsp_client.specs.Runs.{Event}
use Rattle.rtsp_client.specs.SettingUp.{opened_at}
use Rattle.rtsp_client.specs.Steps.{asked_in}
use Rattle.rtsp_client.specs.Stopping.{EndsIfClosed, IsClosed, IsTornDown, has_session, with_closed}
use Rattle.rtsp_client.specs.declared.asked.Asked.{Asked}
use Rattle.rtsp_client.specs.declared.asked.Asked.TheVariants as asks
use Rattle.rtsp_client.specs.declared.asked.Late.{Late}
use Rattle.rtsp_client.specs.declared.asked.Late.TheVariants as late
use Rattle.rtsp_client.specs.declared.asked.Side.{Side}
use Rattle.rtsp_client.specs.declared.asked.Side.TheVariants.{Source, Target}
use Rattle.rtsp_client.specs.declared.awaits.Awaits.TheVariants as waits
use Rattle.rtsp_client.specs.declared.connection.Connection.{Connection}
use Rattle.rtsp_client.specs.declared.end.End.TheVariants as ends
use Rattle.rtsp_client.specs.declared.opened.Opened.{Opened}
use Rattle.rtsp_client.specs.declared.opened.SessionFault.{SessionFault}
use Rattle.rtsp_client.specs.declared.requests.Reply.{Reply}
use Rattle.rtsp_client.specs.declared.requests.Reply.TheVariants.{Of, Other}
use Rattle.rtsp_client.specs.declared.requests.Requests.{Requests}
use Rattle.rtsp_client.specs.declared.turn.Turn.{Turn}
use Rattle.rtsp_client.specs.declared.turn.Turn.TheVariants as turns
use Rattle.rtsp_client.specs.declared.verdict.Verdict.{Verdict}
use Rattle.rtsp_client.specs.declared.verdict.Verdict.TheVariants.{Waits, GoesOn, Follows, LeavesOut, Challenged, TargetAsksPassword, SessionGone, UsesOptions, Refused, Over}
use Rattle.rtsp_client.proofs.Moves.{IsOfSession, Moved, Same, after_same, by_end, by_same, by_test, moved_by_same, moved_end, moved_same}

-- a reply uses no number
next_after : (requests : Requests) (reply : Reply) → (without_request requests reply).next ≡ requests.next
next_after requests (Of asked Waits) = refl
next_after requests (Of asked GoesOn) = refl
next_after requests (Of asked Follows) = refl
next_after requests (Of asked LeavesOut) = refl
next_after requests (Of asked Challenged) = refl
next_after requests (Of asked TargetAsksPassword) = refl
next_after requests (Of asked SessionGone) = refl
next_after requests (Of asked UsesOptions) = refl
next_after requests (Of asked Refused) = refl
next_after requests (Of asked Over) = refl
next_after requests Other = refl

pub same_answered : (side : Side) (reply : Reply) (s : State) → Same s (answered_of side reply s)
same_answered Source reply s = record { source = next_after s.source.requests reply; target = refl; end = refl; awaits = refl; place = refl; map = refl }
same_answered Target reply s = record { source = refl; target = next_after s.target.requests reply; end = refl; awaits = refl; place = refl; map = refl }

same_options : (side : Side) (s : State) → Same s (options_at side s)
same_options Source s = record { source = refl; target = refl; end = refl; awaits = refl; place = refl; map = refl }
same_options Target s = record { source = refl; target = refl; end = refl; awaits = refl; place = refl; map = refl }

same_closed : (side : Side) (s : State) → Same s (with_closed side s)
same_closed Source s = record { source = refl; target = refl; end = refl; awaits = refl; place = refl; map = refl }
same_closed Target s = record { source = refl; target = refl; end = refl; awaits = refl; place = refl; map = refl }

pub same_free : (side : Side) (s : State) → Same s (free_at side s)
same_free Source s = record { source = refl; target = refl; end = refl; awaits = refl; place = refl; map = refl }
same_free Target s = record { source = refl; target = refl; end = refl; awaits = refl; place = refl; map = refl }

-- a session uses no number
next_opened : (already : Option (List ℕ)) (session : Result Opened SessionFault) (side : Side) (has : Bool) (now : ℕ) (c : Connection)
    → (opened_on already session side has now c).requests.next ≡ c.requests.next
next_opened (Some id) session side has now c = refl
next_opened None (Ok opened) side has now c = refl
next_opened None (Err fault) side has now c = refl

pub same_opened : (side : Side) (session : Result Opened SessionFault) (now : ℕ) (s : State) → Same s (opened_at side session now s)
same_opened Source session now s =
    record { source = next_opened s.source.session session Source s.has_get_parameter now s.source; target = refl; end = refl; awaits = refl; place = refl; map = refl }
same_opened Target session now s =
    record { source = refl; target = next_opened s.target.session session Target s.has_get_parameter now s.target; end = refl; awaits = refl; place = refl; map = refl }

-- it ends if no session is open
pub by_closing : (event : Event) (old new : State) (turn : Turn) → old.end ≡ None → EndsIfClosed old new turn → Moved event old new
by_closing event old new turn going h = by_test event old new turn turns.GoesOn ends.Stopped (has_session old) going h

pub by_closed : (event : Event) (side : Side) (old new : State) (turn : Turn) → old.end ≡ None → IsClosed side old new turn → Moved event old new
by_closed event side old new turn going h =
    let s = same_closed side old in
    after_same event old (with_closed side old) new s (by_closing event (with_closed side old) new turn (s.end ∙ going) h)

-- a side's reply is late
pub by_lack : (event : Event) (l : Late) (asked : Asked) (side : Side) (old new : State) (turn : Turn) → old.end ≡ None → Lacks l asked side old new turn → Moved event old new
by_lack event late.Ends asked side old new turn going h = by_end event old new turn (ends.NoReply asked) going h
by_lack event late.UsesOptions asked side old new turn going (is, _) =
    subst (λ (s : State). Moved event old s) (sym is) (moved_by_same event old (options_at side old) (same_options side old))
by_lack event late.Over asked side old new turn going h = by_closed event side old new turn going h

-- a password is asked for
pub moved_challenged : (event : Event) (asked : Asked) (s : State) → IsOfSession asked ⊎ (asked_in s.place.step ≡ Some asked) → Moved event s (challenged asked s)
moved_challenged event asked s why = record {
  source = λ other. omega arith;
  target = omega arith;
  end = λ ended. refl;
  awaits = λ a h. inr (subst (λ (b : Asked). IsOfSession b ⊎ (asked_in s.place.step ≡ Some b)) h why);
  records = λ h. inl h;
  sets_up = λ h. inl h;
  mapped = λ h. h;
}

pub moved_kept : (event : Event) (verdict : Verdict) (side : Side) (s : State) → s.end ≡ None → Moved event s (kept_alive verdict side s)
moved_kept event Waits side s going = moved_same event s
moved_kept event GoesOn side s going = moved_same event s
moved_kept event Follows side s going = moved_same event s
moved_kept event LeavesOut side s going = moved_same event s
moved_kept event Challenged side s going = moved_challenged event (asks.KeepAlive side) s (inl tt)
moved_kept event TargetAsksPassword side s going = moved_end event s ends.TargetAsksPassword going
moved_kept event SessionGone side s going = moved_end event s (ends.SessionGone side) going
moved_kept event UsesOptions side s going = moved_by_same event s (options_at side s) (same_options side s)
moved_kept event Refused side s going = moved_same event s
moved_kept event Over side s going = moved_same event s

pub by_torn_down : (event : Event) (verdict : Verdict) (side : Side) (old new : State) (turn : Turn) → old.end ≡ None → IsTornDown verdict side old new turn → Moved event old new
by_torn_down event Waits side old new turn going h = by_same event old new turn turns.GoesOn h
by_torn_down event GoesOn side old new turn going h = by_same event old new turn turns.GoesOn h
by_torn_down event Follows side old new turn going h = by_same event old new turn turns.GoesOn h
by_torn_down event LeavesOut side old new turn going h = by_same event old new turn turns.GoesOn h
by_torn_down event Challenged side old new turn going h = by_same event old new turn turns.GoesOn h
by_torn_down event TargetAsksPassword side old new turn going h = by_same event old new turn turns.GoesOn h
by_torn_down event SessionGone side old new turn going h = by_same event old new turn turns.GoesOn h
by_torn_down event UsesOptions side old new turn going h = by_same event old new turn turns.GoesOn h
by_torn_down event Refused side old new turn going h = by_same event old new turn turns.GoesOn h
by_torn_down event Over side old new turn going h = by_closed event side old new turn going h

-- the description is waited for
pub moved_awaiting : (event : Event) (s : State) → Moved event s (record s { awaits = waits.Description })
moved_awaiting event s = record {
  source = λ other. omega arith;
  target = omega arith;
  end = λ ended. refl;
  awaits = λ a h. absurd h;
  records = λ h. inl h;
  sets_up = λ h. inl h;
  mapped = λ h. h;
}
