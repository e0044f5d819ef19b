-- What a reply of the target leaves of a client's tracks and counts.
use Rattle.std.proofs.Common.{◌≡◌, refl, sym, ap, subst, ◌∙◌, ℕ, zero, suc, nat_lt, ◌+◌, inl, inr, Bool, true, false, MatchBool, Option, Some, None, IsSome, is_some, Result, Ok, Err}
use Rattle.transport_header.specs.declared.spec.ChannelPair.{ChannelPair}
use Rattle.rtsp_client.specs.Clients.{State, asked_pair, session_at, unless_ended, with_end}
use Rattle.rtsp_client.specs.Connections.{open_fault}
use Rattle.rtsp_client.specs.Replies.{IsLeftOut, IsTakenFrom, LeavesOutTrack, StepIsDone, Steps, Takes, TakesAs, TakesUnlessTeardown, answered_of, keepalive_side, kept_alive, refusal, teardown_side}
use Rattle.rtsp_client.specs.ReplyChannels.{pair_by}
use Rattle.rtsp_client.specs.SettingUp.{IsEnd, IsSame, SetsChannels, SetsPair, SetsUpAfter, opened_at}
use Rattle.rtsp_client.specs.Steps.{asked_at, track_in}
use Rattle.rtsp_client.specs.Stopping.{IsTornDown, has_session, with_closed}
use Rattle.rtsp_client.specs.Told.{after_answer, after_description, answered_at, described_at, tracks_at, tracks_in}
use Rattle.rtsp_client.specs.declared.asked.Asked.{Asked}
use Rattle.rtsp_client.specs.declared.asked.Side.{Side}
use Rattle.rtsp_client.specs.declared.asked.Side.TheVariants.{Source, Target}
use Rattle.rtsp_client.specs.declared.awaits.Awaits.{Awaits}
use Rattle.rtsp_client.specs.declared.awaits.Awaits.TheVariants as waits
use Rattle.rtsp_client.specs.declared.end.End.{End}
use Rattle.rtsp_client.specs.declared.end.End.TheVariants as ends
use Rattle.rtsp_client.specs.declared.opened.SessionFault.{SessionFault}
use Rattle.rtsp_client.specs.declared.passage.Passage.{Passage}
use Rattle.rtsp_client.specs.declared.reply_channels.ChannelFault.{ChannelFault}
use Rattle.rtsp_client.specs.declared.reply_channels.ChannelFault.TheVariants.{OfAnotherTrack}
use Rattle.rtsp_client.specs.declared.reply_facts.ReplyFacts.{ReplyFacts}
use Rattle.rtsp_client.specs.declared.requests.Reply.{Reply}
use Rattle.rtsp_client.specs.declared.requests.Reply.TheVariants.{Of, Other}
use Rattle.rtsp_client.specs.declared.step.Step.{Step}
use Rattle.rtsp_client.specs.declared.step.Step.TheVariants as steps
use Rattle.rtsp_client.specs.declared.turn.Turn.{Turn}
use Rattle.rtsp_client.specs.declared.turn.Turn.TheVariants as turns
use Rattle.rtsp_client.specs.declared.verdict.Verdict.{Verdict}
use Rattle.rtsp_client.specs.declared.verdict.Verdict.TheVariants.{Waits, GoesOn, Follows, LeavesOut, Challenged, TargetAsksPassword, SessionGone, UsesOptions, Refused, Over}
use Rattle.pull_session.specs.Passing.{KeepsPassage}

pub keeps_none : (a : Passage) → KeepsPassage a a
keeps_none a = refl

pub keeps_same : (a b c : Passage) → KeepsPassage a b → c ≡ b → KeepsPassage a c
keeps_same a b c keeps same = subst (λ (p : Passage). KeepsPassage a p) (sym same) keeps

pub keeps_more : (a b c : Passage) → KeepsPassage a b → KeepsPassage b c → KeepsPassage a c
keeps_more a b c first next = next ∙ ap (λ (p : Passage). record p { map = record p.map { target = c.map.target } }) first

by_state : (old s new : State) → s.passage ≡ old.passage → new ≡ s → KeepsPassage old.passage new.passage
by_state old s new same is = keeps_same old.passage old.passage new.passage refl (ap (λ (t : State). t.passage) is ∙ same)

-- the client ends
by_end : (end : End) (old new : State) (turn : Turn) → IsEnd end old new turn → KeepsPassage old.passage new.passage
by_end end old new turn h = by_state old (with_end end old) new refl h.0

by_pair : (pair : ChannelPair) (old new : State) (turn : Turn) → SetsPair Target pair old new turn → KeepsPassage old.passage new.passage
by_pair pair old new turn (inl (may, is, goes)) = subst (λ (t : State). KeepsPassage old.passage t.passage) (sym is) refl
by_pair pair old new turn (inr (other, h)) = by_end (ends.Channels Target OfAnotherTrack) old new turn h

by_channels : (channels : Result ChannelPair ChannelFault) (old new : State) (turn : Turn) → SetsChannels channels Target old new turn → KeepsPassage old.passage new.passage
by_channels (Ok pair) old new turn h = by_pair pair old new turn h
by_channels (Err fault) old new turn h = by_end (ends.Channels Target fault) old new turn h

by_set_up : (fault : Option SessionFault) (facts : ReplyFacts) (now : ℕ) (old new : State) (turn : Turn) → SetsUpAfter fault Target facts now old new turn
    → KeepsPassage old.passage new.passage
by_set_up (Some fault) facts now old new turn h = by_end (ends.Session Target fault) (opened_at Target facts.session now old) new turn h
by_set_up None facts now old new turn h =
    by_channels (pair_by facts.channels (asked_pair (track_in old.place.step))) (opened_at Target facts.session now old) new turn h

-- the step's request has succeeded
by_done : (step : Step) (asked : Asked) (facts : ReplyFacts) (now : ℕ) (old new : State) (turn : Turn) → asked_at Target step ≡ Some asked → StepIsDone step facts now old new turn
    → KeepsPassage old.passage new.passage
by_done steps.Options asked facts now old new turn at h = by_state old _ new refl h.0
by_done steps.Describe asked facts now old new turn at h = by_state old _ new refl h.0
by_done (steps.SetUp track) asked facts now old new turn at h = absurd (cc)
by_done steps.Announce asked facts now old new turn at h = by_state old _ new refl h.0
by_done (steps.SetUpTarget track) asked facts now old new turn at h = by_set_up (open_fault (session_at Target old) facts.session) facts now old new turn h
by_done steps.Record asked facts now old new turn at h = by_state old _ new refl h.0
by_done steps.Play asked facts now old new turn at h = by_state old _ new refl h.0
by_done steps.Passing asked facts now old new turn at h = by_state old old new refl h.0

by_followed : (few : Bool) (old new : State) (turn : Turn)
    → MatchBool few ((new ≡ record old { redirects = record { followed = old.redirects.followed + 1 }; awaits = waits.Connection }) × (turn ≡ turns.Redirects)) (IsEnd ends.TooManyRedirects old new turn)
    → KeepsPassage old.passage new.passage
by_followed true old new turn h = by_state old _ new refl h.0
by_followed false old new turn h = by_end ends.TooManyRedirects old new turn h

by_left_out : (track status : ℕ) (old new : State) (turn : Turn) → IsLeftOut track status old new turn → KeepsPassage old.passage new.passage
by_left_out track status old new turn (inl (some, is, goes)) = by_state old _ new refl is
by_left_out track status old new turn (inr (none, step, h)) = by_end (ends.AllTracksRefused status) old new turn h

by_leaving : (step : Step) (status : ℕ) (old new : State) (turn : Turn) → LeavesOutTrack step status old new turn → KeepsPassage old.passage new.passage
by_leaving steps.Options status old new turn h = by_state old old new refl h.0
by_leaving steps.Describe status old new turn h = by_state old old new refl h.0
by_leaving (steps.SetUp track) status old new turn h = by_left_out track status old new turn h
by_leaving steps.Announce status old new turn h = by_state old old new refl h.0
by_leaving (steps.SetUpTarget track) status old new turn h = by_state old old new refl h.0
by_leaving steps.Record status old new turn h = by_state old old new refl h.0
by_leaving steps.Play status old new turn h = by_state old old new refl h.0
by_leaving steps.Passing status old new turn h = by_state old old new refl h.0

by_step : (verdict : Verdict) (asked : Asked) (facts : ReplyFacts) (now : ℕ) (old new : State) (turn : Turn) → asked_at Target old.place.step ≡ Some asked
    → Steps verdict asked facts now old new turn → KeepsPassage old.passage new.passage
by_step Waits asked facts now old new turn at h = by_state old old new refl h.0
by_step GoesOn asked facts now old new turn at h = by_done old.place.step asked facts now old new turn at h
by_step Follows asked facts now old new turn at h = by_followed (nat_lt old.redirects.followed 3) old new turn h
by_step LeavesOut asked facts now old new turn at h = by_leaving old.place.step facts.status old new turn h
by_step Challenged asked facts now old new turn at h = by_state old _ new refl h.0
by_step TargetAsksPassword asked facts now old new turn at h = by_end ends.TargetAsksPassword old new turn h
by_step SessionGone asked facts now old new turn at h = by_state old old new refl h.0
by_step UsesOptions asked facts now old new turn at h = by_state old old new refl h.0
by_step Refused asked facts now old new turn at h = by_end (refusal asked facts.status) old new turn h
by_step Over asked facts now old new turn at h = by_state old old new refl h.0

-- the reply to a request that keeps a session alive
alive_same : (verdict : Verdict) (side : Side) (s : State) → (kept_alive verdict side s).passage ≡ s.passage
alive_same Waits side s = refl
alive_same GoesOn side s = refl
alive_same Follows side s = refl
alive_same LeavesOut side s = refl
alive_same Challenged side s = refl
alive_same TargetAsksPassword side s = refl
alive_same SessionGone side s = refl
alive_same UsesOptions Source s = refl
alive_same UsesOptions Target s = refl
alive_same Refused side s = refl
alive_same Over side s = refl

by_closing : (some : Bool) (old new : State) (turn : Turn) → MatchBool some (IsSame old new turn turns.GoesOn) (IsEnd ends.Stopped old new turn) → KeepsPassage old.passage new.passage
by_closing true old new turn h = by_state old old new refl h.0
by_closing false old new turn h = by_end ends.Stopped old new turn h

by_torn_down : (verdict : Verdict) (side : Side) (old new : State) (turn : Turn) → IsTornDown verdict side old new turn → KeepsPassage old.passage new.passage
by_torn_down Waits side old new turn h = by_state old old new refl h.0
by_torn_down GoesOn side old new turn h = by_state old old new refl h.0
by_torn_down Follows side old new turn h = by_state old old new refl h.0
by_torn_down LeavesOut side old new turn h = by_state old old new refl h.0
by_torn_down Challenged side old new turn h = by_state old old new refl h.0
by_torn_down TargetAsksPassword side old new turn h = by_state old old new refl h.0
by_torn_down SessionGone side old new turn h = by_state old old new refl h.0
by_torn_down UsesOptions side old new turn h = by_state old old new refl h.0
by_torn_down Refused side old new turn h = by_state old old new refl h.0
by_torn_down Over Source old new turn h = by_closing (has_session (with_closed Source old)) (with_closed Source old) new turn h
by_torn_down Over Target old new turn h = by_closing (has_session (with_closed Target old)) (with_closed Target old) new turn h

module _ (asked : Asked) (verdict : Verdict) (facts : ReplyFacts) (now : ℕ) (old new : State) (turn : Turn) where
  by_other : (torn : Option Side) → TakesUnlessTeardown torn Target asked verdict facts now old new turn → KeepsPassage old.passage new.passage
  by_other (Some side) h = by_torn_down verdict side old new turn h
  by_other None (inl (at, h)) = by_step verdict asked facts now old new turn at h
  by_other None (inr (other, h)) = by_state old old new refl h.0

  by_request : (alive : Option Side) → TakesAs alive Target asked verdict facts now old new turn → KeepsPassage old.passage new.passage
  by_request (Some side) h = by_state old (kept_alive verdict side old) new (alive_same verdict side old) h.0
  by_request None h = by_other (teardown_side asked) h

by_reply : (reply : Reply) (facts : ReplyFacts) (now : ℕ) (old new : State) (turn : Turn) → Takes Target reply facts now old new turn → KeepsPassage old.passage new.passage
by_reply (Of asked verdict) facts now old new turn h = by_request asked verdict facts now old new turn (keepalive_side asked) h
by_reply Other facts now old new turn h = by_state old old new refl h.0

by_taken : (facts : ReplyFacts) (now : ℕ) (old new : State) (turn : Turn) → IsTakenFrom Target facts now old new turn → KeepsPassage old.passage new.passage
by_taken facts now old new turn (reply, is, h) = by_reply reply facts now (answered_of Target reply old) new turn h

-- a reply of the target
pub replied_keeps : (side : Side) (facts : ReplyFacts) (now : ℕ) (old new : State) (turn : Turn) → side ≡ Target → (IsSome old.end → (new ≡ old) × (turn ≡ turns.PassesOver))
    → (old.end ≡ None → IsTakenFrom side facts now old new turn) → KeepsPassage old.passage new.passage
replied_keeps side facts now old new turn is ended taken = go old.end refl where
  go : (end : Option End) → old.end ≡ end → KeepsPassage old.passage new.passage
  go None none = by_taken facts now old new turn (subst (λ (from : Side). IsTakenFrom from facts now old new turn) is (taken none))
  go (Some end) some = by_state old old new refl (ended (ap (λ (o : Option End). is_some o) some)).0

unless_same : (end : Option End) (next s : State) → next.passage ≡ s.passage → (unless_ended end next s).passage ≡ s.passage
unless_same (Some end) next s same = refl
unless_same None next s same = same

some_same : (tracks : ℕ) (s : State) → (tracks_at tracks s).passage ≡ s.passage
some_same zero s = refl
some_same (suc others) s = refl

tracks_same : (step : Step) (tracks : ℕ) (s : State) → (tracks_in step tracks s).passage ≡ s.passage
tracks_same steps.Options tracks s = refl
tracks_same steps.Describe tracks s = some_same tracks s
tracks_same (steps.SetUp track) tracks s = refl
tracks_same steps.Announce tracks s = refl
tracks_same (steps.SetUpTarget track) tracks s = refl
tracks_same steps.Record tracks s = refl
tracks_same steps.Play tracks s = refl
tracks_same steps.Passing tracks s = refl

told_same : (awaits : Awaits) (tracks : ℕ) (s : State) → (described_at awaits tracks s).passage ≡ s.passage
told_same waits.Nothing tracks s = refl
told_same waits.Description tracks s = tracks_same s.place.step tracks s
told_same waits.Connection tracks s = refl
told_same (waits.Password asked) tracks s = refl
told_same (waits.Again asked) tracks s = refl

-- the client is told how many tracks there are
pub described_same : (tracks : ℕ) (old new : State) → new ≡ after_description tracks old → new.passage ≡ old.passage
described_same tracks old new is =
    ap (λ (s : State). s.passage) is ∙ unless_same old.end (described_at old.awaits tracks old) old (told_same old.awaits tracks old)

answer_same : (awaits : Awaits) (has : Bool) (s : State) → (answered_at awaits has s).passage ≡ s.passage
answer_same waits.Nothing has s = refl
answer_same waits.Description has s = refl
answer_same waits.Connection has s = refl
answer_same (waits.Password asked) true s = refl
answer_same (waits.Password asked) false s = refl
answer_same (waits.Again asked) has s = refl

-- the client is told whether there is a password
pub answered_same : (has : Bool) (old new : State) → new ≡ after_answer has old → new.passage ≡ old.passage
answered_same has old new is =
    ap (λ (s : State). s.passage) is ∙ unless_same old.end (answered_at old.awaits has old) old (answer_same old.awaits has old)
