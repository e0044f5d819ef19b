-- What the reply to a step's request moves.
use Rattle.std.proofs.Common.{◌≡◌, refl, sym, subst, ℕ, arith, ◌⊎◌, inl, inr, Bool, true, false, Option, Some, None, Result, Ok, Err, if◌then◌else◌, nat_lt, ◌+◌, ◌≤◌, ◌∙◌, MatchBool}
use Rattle.transport_header.specs.declared.spec.ChannelPair.{ChannelPair}
use Rattle.rtsp_client.specs.Clients.{State, asked_pair, number_at, session_at}
use Rattle.rtsp_client.specs.Connections.{open_fault}
use Rattle.rtsp_client.specs.Replies.{IsLeftOut, IsNext, LeavesOutTrack, StepIsDone, Steps, Takes, TakesAs, TakesStep, TakesUnlessTeardown, answered_of, keepalive_side, refusal, teardown_side}
use Rattle.rtsp_client.specs.Runs.{Event, takes}
use Rattle.rtsp_client.specs.ReplyChannels.{pair_by}
use Rattle.rtsp_client.specs.SettingUp.{IsEnd, SetsChannels, SetsPair, SetsUpAfter, opened_at, set_up_of}
use Rattle.rtsp_client.specs.Steps.{IsSetUp, Place, asked_at, behind_target, behind_track, done_at, done_from, is_recording, left_out_at, place_in, track_in}
use Rattle.rtsp_client.specs.declared.asked.Asked.{Asked}
use Rattle.rtsp_client.specs.declared.asked.Side.{Side}
use Rattle.rtsp_client.specs.declared.asked.Side.TheVariants.{Source, Target}
use Rattle.rtsp_client.specs.declared.awaits.Awaits.TheVariants as waits
use Rattle.rtsp_client.specs.declared.end.End.TheVariants as ends
use Rattle.rtsp_client.specs.declared.frame_map.FrameMap.{FrameMap}
use Rattle.rtsp_client.specs.declared.opened.SessionFault.{SessionFault}
use Rattle.rtsp_client.specs.declared.reply_channels.ChannelFault.{ChannelFault}
use Rattle.rtsp_client.specs.declared.reply_channels.ChannelFault.TheVariants.{OfAnotherTrack}
use Rattle.rtsp_client.specs.declared.reply_facts.ReplyFacts.{ReplyFacts}
use Rattle.rtsp_client.specs.declared.requests.Reply.{Reply}
use Rattle.rtsp_client.specs.declared.requests.Reply.TheVariants.{Of, Other}
use Rattle.rtsp_client.specs.declared.step.Step.{Step}
use Rattle.rtsp_client.specs.declared.step.Step.TheVariants as steps
use Rattle.rtsp_client.specs.declared.turn.Turn.{Turn}
use Rattle.rtsp_client.specs.declared.turn.Turn.TheVariants as turns
use Rattle.rtsp_client.specs.declared.verdict.Verdict.{Verdict}
use Rattle.rtsp_client.specs.declared.verdict.Verdict.TheVariants.{Waits, GoesOn, Follows, LeavesOut, Challenged, TargetAsksPassword, SessionGone, UsesOptions, Refused, Over}
use Rattle.rtsp_client.proofs.Mapping.{IsAt, IsMapped, IsPlain, mapped_done, mapped_left, mapped_pair, with_given}
use Rattle.rtsp_client.proofs.Moves.{asked_somewhere, IsRecorded, Moved, after_same, by_end, by_same}
use Rattle.rtsp_client.proofs.Changes.{by_torn_down, moved_awaiting, moved_challenged, moved_kept, same_answered, same_opened}

-- no track is recorded on before RECORD
not_yet : (track tracks : ℕ) → is_recording (behind_track track tracks) ≡ true → ⊥
not_yet track tracks h = go (nat_lt (track + 1) tracks) h where
  go : (b : Bool) → is_recording (if b then steps.SetUp (track + 1) else steps.Announce) ≡ true → ⊥
  go true h = cc
  go false h = cc

not_at_target : (track kept : ℕ) → is_recording (behind_target track kept) ≡ true → ⊥
not_at_target track kept h = go (nat_lt (track + 1) kept) h where
  go : (b : Bool) → is_recording (if b then steps.SetUpTarget (track + 1) else steps.Record) ≡ true → ⊥
  go true h = cc
  go false h = cc

no_track : (track kept : ℕ) → IsSetUp (behind_target track kept) → ⊥
no_track track kept h = go (nat_lt (track + 1) kept) h where
  go : (b : Bool) → IsSetUp (if b then steps.SetUpTarget (track + 1) else steps.Record) → ⊥
  go true h = h
  go false h = h

-- RECORD succeeds where the target begins to record
recorded : (step : Step) (place : Place) → place.step ≡ step → (side : Side) (asked : Asked) → asked_at side step ≡ Some asked → is_recording (done_at step place).step ≡ true
    → (is_recording step ≡ true) ⊎ IsRecorded (takes side (Of asked GoesOn))
recorded steps.Options place is side asked at h = absurd (cc)
recorded steps.Describe place is side asked at h = inl (subst (λ (step : Step). is_recording step ≡ true) is h)
recorded (steps.SetUp track) place is side asked at h = absurd (not_yet track place.tracks h)
recorded steps.Announce place is side asked at h = absurd (cc)
recorded (steps.SetUpTarget track) place is side asked at h = absurd (not_at_target track place.kept h)
recorded steps.Record place is Source asked at h = absurd (cc)
recorded steps.Record place is Target asked at h = inr (cc)
recorded steps.Play place is side asked at h = inl refl
recorded steps.Passing place is side asked at h = inl refl

-- a track of the source comes after another one
track_before : (step : Step) (place : Place) → place.step ≡ step → IsSetUp (done_at step place).step → IsSetUp step
track_before steps.Options place is h = h
track_before steps.Describe place is h = subst IsSetUp is h
track_before (steps.SetUp track) place is h = tt
track_before steps.Announce place is h = h
track_before (steps.SetUpTarget track) place is h = absurd (no_track track place.kept h)
track_before steps.Record place is h = h
track_before steps.Play place is h = h
track_before steps.Passing place is h = subst IsSetUp is h

-- it comes to the next step
abbrev at_next : State → State
at_next s = record s { place = done_from s.place }

moved_next : (side : Side) (asked : Asked) (s : State) → asked_at side s.place.step ≡ Some asked → IsPlain s.place.step → Moved (takes side (Of asked GoesOn)) s (at_next s)
moved_next side asked s at plain = record {
  source = λ other. omega arith;
  target = omega arith;
  end = λ ended. refl;
  awaits = λ a h. inl h;
  records = λ h. recorded s.place.step s.place refl side asked at h;
  sets_up = λ h. inl (track_before s.place.step s.place refl h);
  mapped = λ h. mapped_done s.place.step s.place s.passage.map refl plain h;
}

-- so it does with GET_PARAMETER known
moved_known : (side : Side) (asked : Asked) (has : Bool) (s : State) → asked_at side s.place.step ≡ Some asked → IsPlain s.place.step
    → Moved (takes side (Of asked GoesOn)) s (record s { place = done_from s.place; has_get_parameter = has })
moved_known side asked has s at plain = record {
  source = λ other. omega arith;
  target = omega arith;
  end = λ ended. refl;
  awaits = λ a h. inl h;
  records = λ h. recorded s.place.step s.place refl side asked at h;
  sets_up = λ h. inl (track_before s.place.step s.place refl h);
  mapped = λ h. mapped_done s.place.step s.place s.passage.map refl plain h;
}

by_next : (side : Side) (asked : Asked) (old new : State) (turn : Turn) → asked_at side old.place.step ≡ Some asked → IsPlain old.place.step → IsNext old new turn
    → Moved (takes side (Of asked GoesOn)) old new
by_next side asked old new turn at plain (is, _) =
    subst (λ (s : State). Moved (takes side (Of asked GoesOn)) old s) (sym is) (moved_next side asked old at plain)

-- the map of a track that is set up
map_of : (side : Side) (pair : ChannelPair) (s : State) → (set_up_of side pair s).passage.map ≡ with_given side (place_in s.place) pair s.passage.map
map_of Source pair s = refl
map_of Target pair s = refl

number_of : (of side : Side) (pair : ChannelPair) (s : State) → number_at of s ≤ number_at of (set_up_of side pair s)
number_of Source side pair s = omega arith
number_of Target side pair s = omega arith

moved_pair : (from : Side) (asked : Asked) (side : Side) (pair : ChannelPair) (s : State) → asked_at from s.place.step ≡ Some asked → IsAt side s.place.step
    → Moved (takes from (Of asked GoesOn)) s (set_up_of side pair s)
moved_pair from asked side pair s at there = record {
  source = λ other. number_of Source side pair s;
  target = number_of Target side pair s;
  end = λ ended. refl;
  awaits = λ a h. inl h;
  records = λ h. recorded s.place.step s.place refl from asked at h;
  sets_up = λ h. inl (track_before s.place.step s.place refl h);
  mapped = λ h. subst (λ (map : FrameMap). IsMapped (done_from s.place) map) (sym (map_of side pair s))
      (mapped_pair side s.place.step s.place s.passage.map pair refl there h);
}

-- a track is set up
by_pair : (from : Side) (asked : Asked) (side : Side) (pair : ChannelPair) (old new : State) (turn : Turn) → asked_at from old.place.step ≡ Some asked → IsAt side old.place.step → old.end ≡ None
    → SetsPair side pair old new turn → Moved (takes from (Of asked GoesOn)) old new
by_pair from asked side pair old new turn at there going (inl (may, is, _)) =
    subst (λ (s : State). Moved (takes from (Of asked GoesOn)) old s) (sym is) (moved_pair from asked side pair old at there)
by_pair from asked side pair old new turn at there going (inr (may, h)) =
    by_end (takes from (Of asked GoesOn)) old new turn (ends.Channels side OfAnotherTrack) going h

by_channels : (given : Result ChannelPair ChannelFault) (from : Side) (asked : Asked) (side : Side) (old new : State) (turn : Turn) → asked_at from old.place.step ≡ Some asked → IsAt side old.place.step → old.end ≡ None
    → SetsChannels given side old new turn → Moved (takes from (Of asked GoesOn)) old new
by_channels (Ok pair) from asked side old new turn at there going h = by_pair from asked side pair old new turn at there going h
by_channels (Err fault) from asked side old new turn at there going h = by_end (takes from (Of asked GoesOn)) old new turn (ends.Channels side fault) going h

by_session : (fault : Option SessionFault) (from : Side) (asked : Asked) (side : Side) (reply : ReplyFacts) (now : ℕ) (old new : State) (turn : Turn)
    → asked_at from old.place.step ≡ Some asked → IsAt side old.place.step → old.end ≡ None → SetsUpAfter fault side reply now old new turn → Moved (takes from (Of asked GoesOn)) old new
by_session (Some fault) from asked side reply now old new turn at there going h =
    let s = same_opened side reply.session now old in
    let mid = opened_at side reply.session now old in
    after_same (takes from (Of asked GoesOn)) old mid new s (by_end (takes from (Of asked GoesOn)) mid new turn (ends.Session side fault) (s.end ∙ going) h)
by_session None from asked side reply now old new turn at there going h =
    let s = same_opened side reply.session now old in
    let mid = opened_at side reply.session now old in
    let at_mid : asked_at from mid.place.step ≡ Some asked = subst (λ (p : Place). asked_at from p.step ≡ Some asked) (sym s.place) at in
    after_same (takes from (Of asked GoesOn)) old mid new s
    (by_channels (pair_by reply.channels (asked_pair (track_in old.place.step))) from asked side mid new turn at_mid (subst (λ (p : Place). IsAt side p.step) (sym s.place) there) (s.end ∙ going) h)

-- the step's request has succeeded
by_step : (step : Step) (from : Side) (asked : Asked) (reply : ReplyFacts) (now : ℕ) (old new : State) (turn : Turn)
    → old.place.step ≡ step → asked_at from old.place.step ≡ Some asked → old.end ≡ None → StepIsDone step reply now old new turn
    → Moved (takes from (Of asked GoesOn)) old new
by_step steps.Options from asked reply now old new turn step_is at going (is, _) =
    subst (λ (s : State). Moved (takes from (Of asked GoesOn)) old s) (sym is)
    (moved_known from asked reply.has_get_parameter old at (subst IsPlain (sym step_is) tt))
by_step steps.Describe from asked reply now old new turn step_is at going (is, _) =
    subst (λ (s : State). Moved (takes from (Of asked GoesOn)) old s) (sym is) (moved_awaiting (takes from (Of asked GoesOn)) old)
by_step (steps.SetUp track) from asked reply now old new turn step_is at going h =
    by_session (open_fault (session_at Source old) reply.session) from asked Source reply now old new turn at (subst (IsAt Source) (sym step_is) tt) going h
by_step steps.Announce from asked reply now old new turn step_is at going h = by_next from asked old new turn at (subst IsPlain (sym step_is) tt) h
by_step (steps.SetUpTarget track) from asked reply now old new turn step_is at going h =
    by_session (open_fault (session_at Target old) reply.session) from asked Target reply now old new turn at (subst (IsAt Target) (sym step_is) tt) going h
by_step steps.Record from asked reply now old new turn step_is at going h = by_next from asked old new turn at (subst IsPlain (sym step_is) tt) h
by_step steps.Play from asked reply now old new turn step_is at going h = by_next from asked old new turn at (subst IsPlain (sym step_is) tt) h
by_step steps.Passing from asked reply now old new turn step_is at going h = by_same (takes from (Of asked GoesOn)) old new turn turns.GoesOn h

-- the description is elsewhere
by_redirect : (event : Event) (test : Bool) (old new : State) (turn : Turn) → old.end ≡ None
    → MatchBool test
    ((new ≡ record old { redirects = record { followed = old.redirects.followed + 1 }; awaits = waits.Connection }) × (turn ≡ turns.Redirects))
    (IsEnd ends.TooManyRedirects old new turn)
    → Moved event old new
by_redirect event true old new turn going (is, _) =
    subst (λ (s : State). Moved event old s) (sym is)
    (record { source = λ other. omega arith; target = omega arith; end = λ ended. refl; awaits = λ a h. absurd h; records = λ h. inl h; sets_up = λ h. inl h; mapped = λ h. h })
by_redirect event false old new turn going h = by_end event old new turn ends.TooManyRedirects going h

-- a track is left out
left_recording : (step : Step) (place : Place) → place.step ≡ step → is_recording (left_out_at step place).step ≡ true → is_recording step ≡ true
left_recording steps.Options place is h = subst (λ (step : Step). is_recording step ≡ true) is h
left_recording steps.Describe place is h = subst (λ (step : Step). is_recording step ≡ true) is h
left_recording (steps.SetUp track) place is h = absurd (not_yet track place.tracks h)
left_recording steps.Announce place is h = subst (λ (step : Step). is_recording step ≡ true) is h
left_recording (steps.SetUpTarget track) place is h = subst (λ (step : Step). is_recording step ≡ true) is h
left_recording steps.Record place is h = subst (λ (step : Step). is_recording step ≡ true) is h
left_recording steps.Play place is h = refl
left_recording steps.Passing place is h = refl

left_track : (step : Step) (place : Place) → place.step ≡ step → IsSetUp (left_out_at step place).step → IsSetUp step
left_track steps.Options place is h = subst IsSetUp is h
left_track steps.Describe place is h = subst IsSetUp is h
left_track (steps.SetUp track) place is h = tt
left_track steps.Announce place is h = subst IsSetUp is h
left_track (steps.SetUpTarget track) place is h = subst IsSetUp is h
left_track steps.Record place is h = subst IsSetUp is h
left_track steps.Play place is h = subst IsSetUp is h
left_track steps.Passing place is h = subst IsSetUp is h

by_left_out : (event : Event) (track status : ℕ) (old new : State) (turn : Turn) → old.end ≡ None → IsLeftOut track status old new turn → Moved event old new
by_left_out event track status old new turn going (inl (goes, is, _)) =
    subst (λ (s : State). Moved event old s) (sym is)
    (record {
      source = λ other. omega arith;
      target = omega arith;
      end = λ ended. refl;
      awaits = λ a h. inl h;
      records = λ h. inl (left_recording old.place.step old.place refl h);
      sets_up = λ h. inl (left_track old.place.step old.place refl h);
      mapped = λ h. mapped_left old.place.step old.place old.passage.map refl goes h;
    })
by_left_out event track status old new turn going (inr (none, last, h)) = by_end event old new turn (ends.AllTracksRefused status) going h

by_refused_track : (event : Event) (step : Step) (status : ℕ) (old new : State) (turn : Turn) → old.end ≡ None → LeavesOutTrack step status old new turn → Moved event old new
by_refused_track event steps.Options status old new turn going h = by_same event old new turn turns.GoesOn h
by_refused_track event steps.Describe status old new turn going h = by_same event old new turn turns.GoesOn h
by_refused_track event (steps.SetUp track) status old new turn going h = by_left_out event track status old new turn going h
by_refused_track event steps.Announce status old new turn going h = by_same event old new turn turns.GoesOn h
by_refused_track event (steps.SetUpTarget track) status old new turn going h = by_same event old new turn turns.GoesOn h
by_refused_track event steps.Record status old new turn going h = by_same event old new turn turns.GoesOn h
by_refused_track event steps.Play status old new turn going h = by_same event old new turn turns.GoesOn h
by_refused_track event steps.Passing status old new turn going h = by_same event old new turn turns.GoesOn h

-- the reply to the step's request
by_verdict : (verdict : Verdict) (from : Side) (asked : Asked) (reply : ReplyFacts) (now : ℕ) (old new : State) (turn : Turn)
    → asked_at from old.place.step ≡ Some asked → old.end ≡ None → Steps verdict asked reply now old new turn → Moved (takes from (Of asked verdict)) old new
by_verdict Waits from asked reply now old new turn at going h = by_same (takes from (Of asked Waits)) old new turn turns.GoesOn h
by_verdict GoesOn from asked reply now old new turn at going h = by_step old.place.step from asked reply now old new turn refl at going h
by_verdict Follows from asked reply now old new turn at going h =
    by_redirect (takes from (Of asked Follows)) (nat_lt old.redirects.followed 3) old new turn going h
by_verdict LeavesOut from asked reply now old new turn at going h =
    by_refused_track (takes from (Of asked LeavesOut)) old.place.step reply.status old new turn going h
by_verdict Challenged from asked reply now old new turn at going (is, _) =
    subst (λ (s : State). Moved (takes from (Of asked Challenged)) old s) (sym is)
    (moved_challenged (takes from (Of asked Challenged)) asked old (inr (asked_somewhere from old.place.step asked at)))
by_verdict TargetAsksPassword from asked reply now old new turn at going h =
    by_end (takes from (Of asked TargetAsksPassword)) old new turn ends.TargetAsksPassword going h
by_verdict SessionGone from asked reply now old new turn at going h = by_same (takes from (Of asked SessionGone)) old new turn turns.GoesOn h
by_verdict UsesOptions from asked reply now old new turn at going h = by_same (takes from (Of asked UsesOptions)) old new turn turns.GoesOn h
by_verdict Refused from asked reply now old new turn at going h =
    by_end (takes from (Of asked Refused)) old new turn (refusal asked reply.status) going h
by_verdict Over from asked reply now old new turn at going h = by_same (takes from (Of asked Over)) old new turn turns.GoesOn h

by_request : (asked : Asked) (verdict : Verdict) (from : Side) (reply : ReplyFacts) (now : ℕ) (old new : State) (turn : Turn) → old.end ≡ None
    → TakesStep from asked verdict reply now old new turn → Moved (takes from (Of asked verdict)) old new
by_request asked verdict from reply now old new turn going (inl (at, h)) = by_verdict verdict from asked reply now old new turn at going h
by_request asked verdict from reply now old new turn going (inr (other, h)) = by_same (takes from (Of asked verdict)) old new turn turns.PassesOver h

by_teardown : (side : Option Side) (asked : Asked) (verdict : Verdict) (from : Side) (reply : ReplyFacts) (now : ℕ) (old new : State) (turn : Turn) → old.end ≡ None
    → TakesUnlessTeardown side from asked verdict reply now old new turn → Moved (takes from (Of asked verdict)) old new
by_teardown (Some side) asked verdict from reply now old new turn going h = by_torn_down (takes from (Of asked verdict)) verdict side old new turn going h
by_teardown None asked verdict from reply now old new turn going h = by_request asked verdict from reply now old new turn going h

by_keepalive : (side : Option Side) (asked : Asked) (verdict : Verdict) (from : Side) (reply : ReplyFacts) (now : ℕ) (old new : State) (turn : Turn) → old.end ≡ None
    → TakesAs side from asked verdict reply now old new turn → Moved (takes from (Of asked verdict)) old new
by_keepalive (Some side) asked verdict from reply now old new turn going (is, _) =
    subst (λ (s : State). Moved (takes from (Of asked verdict)) old s) (sym is) (moved_kept (takes from (Of asked verdict)) verdict side old going)
by_keepalive None asked verdict from reply now old new turn going h = by_teardown (teardown_side asked) asked verdict from reply now old new turn going h

by_reply : (answer : Reply) (from : Side) (reply : ReplyFacts) (now : ℕ) (old new : State) (turn : Turn) → old.end ≡ None → Takes from answer reply now old new turn → Moved (takes from answer) old new
by_reply (Of asked verdict) from reply now old new turn going h = by_keepalive (keepalive_side asked) asked verdict from reply now old new turn going h
by_reply Other from reply now old new turn going h = by_same (takes from Other) old new turn turns.PassesOver h

-- a side's reply comes
pub by_taken : (from : Side) (answer : Reply) (reply : ReplyFacts) (now : ℕ) (old new : State) (turn : Turn) → old.end ≡ None
    → Takes from answer reply now (answered_of from answer old) new turn → Moved (takes from answer) old new
by_taken from answer reply now old new turn going h =
    let s = same_answered from answer old in
    after_same (takes from answer) old (answered_of from answer old) new s (by_reply answer from reply now (answered_of from answer old) new turn (s.end ∙ going) h)
