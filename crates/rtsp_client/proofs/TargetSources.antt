-- The replies of the source leave the requests to the target in order.
use Rattle.std.proofs.Common.{◌≡◌, refl, sym, ap, subst, ℕ, inl, inr, Bool, true, false, nat_lt, MatchBool, List, Option, Some, None, Result, Ok, Err, ◌+◌, ◌∙◌}
use Rattle.rtsp_client.specs.Clients.{State, asked_pair, session_at, waiting_at}
use Rattle.rtsp_client.specs.Connections.{open_fault}
use Rattle.rtsp_client.specs.Lateness.{Lacks, free_at}
use Rattle.rtsp_client.specs.Passages.{with_pair}
use Rattle.rtsp_client.specs.Replies.{IsLeftOut, LeavesOutTrack, StepIsDone, Steps, TakesOf, TakesStep, answered_of, challenged, kept_alive, options_at, refusal}
use Rattle.rtsp_client.specs.ReplyChannels.{pair_by}
use Rattle.rtsp_client.specs.Requests.{IsLate, IsReply}
use Rattle.rtsp_client.specs.SettingUp.{IsEnd, IsSame, SetsChannels, SetsPair, SetsUpAfter, opened_at}
use Rattle.rtsp_client.specs.Steps.{Place, asked_at, done_at, done_from, left_out_at, left_out_from, place_in, track_in}
use Rattle.rtsp_client.specs.Stopping.{EndsIfClosed, IsTornDown, with_closed}
use Rattle.rtsp_client.specs.Table.{side_of, verdict_of}
use Rattle.rtsp_client.specs.TargetCourse.{AreInOrder, Asking}
use Rattle.transport_header.specs.declared.spec.ChannelPair.{ChannelPair}
use Rattle.rtsp_client.specs.declared.asked.Asked.{Asked}
use Rattle.rtsp_client.specs.declared.asked.Asked.TheVariants as asks
use Rattle.rtsp_client.specs.declared.asked.Late.{Late}
use Rattle.rtsp_client.specs.declared.asked.Late.TheVariants as late
use Rattle.rtsp_client.specs.declared.asked.Side.TheVariants.{Source, Target}
use Rattle.rtsp_client.specs.declared.awaits.Awaits.TheVariants as waits
use Rattle.rtsp_client.specs.declared.end.End.TheVariants as ends
use Rattle.rtsp_client.specs.declared.opened.SessionFault.{SessionFault}
use Rattle.rtsp_client.specs.declared.passage.Passage.{Passage}
use Rattle.rtsp_client.specs.declared.reply_channels.ChannelFault.{ChannelFault}
use Rattle.rtsp_client.specs.declared.reply_channels.ChannelFault.TheVariants.{OfAnotherTrack}
use Rattle.rtsp_client.specs.declared.reply_facts.ReplyFacts.{ReplyFacts}
use Rattle.rtsp_client.specs.declared.requests.Outstanding.{Outstanding}
use Rattle.rtsp_client.specs.declared.requests.Reply.TheVariants.{Of}
use Rattle.rtsp_client.specs.declared.requests.Requests.{Requests}
use Rattle.rtsp_client.specs.declared.status_class.StatusClass.{StatusClass}
use Rattle.rtsp_client.specs.declared.step.Step.{Step}
use Rattle.rtsp_client.specs.declared.step.Step.TheVariants as steps
use Rattle.rtsp_client.specs.declared.turn.Turn.{Turn}
use Rattle.rtsp_client.specs.declared.turn.Turn.TheVariants as turns
use Rattle.rtsp_client.specs.declared.verdict.Verdict.{Verdict}
use Rattle.rtsp_client.specs.declared.verdict.Verdict.TheVariants.{Waits, GoesOn, Follows, LeavesOut, Challenged, TargetAsksPassword, SessionGone, UsesOptions, Refused, Over as IsOver}
use Rattle.rtsp_client.proofs.TargetFresh.{IsFollows, IsFresh, awaits_any, behind_fresh, follows_at, fresh_moves, of_answered, passing}
use Rattle.rtsp_client.proofs.TargetReplies.{closes}
use Rattle.rtsp_client.proofs.TargetSetUps.{by_end, opened_requests}
use Rattle.rtsp_client.proofs.TargetStages.{AtTarget, AwaitsAt, Good, Held, IsEarly, Keeps, OfSource, ended, good_order, held}

module _ (I : Bool → Type 0) (askings : List Asking) where
  -- no redirect is waited for
  record Going (s : State) : Type 0 where
    source : OfSource (waiting_at Source s)
    awaits : (next : Step) (any : Option Outstanding) → AwaitsAt s.awaits next any
    keeps : Keeps (session_at Target s) s.target.keepalive
    target : AtTarget I askings s.place (waiting_at Target s) (session_at Target s) s.is_stopping

  good : (s : State) → Going s → Good I askings s
  good s g = record { source = g.source; awaits = g.awaits s.place.step (waiting_at Source s); keeps = g.keeps; target = g.target }

  order : (s : State) → Going s → AreInOrder askings s
  order s g = good_order I askings s (good s g)

  by_same : (s new : State) (turn is : Turn) → Going s → IsSame s new turn is → Held I askings new
  by_same s new turn is g (same, _) = subst (λ (t : State). Held I askings t) (sym same) (held I askings s (good s g))

  -- another step is due
  place_held : (s : State) (q : Place) (has : Bool) (passage : Passage) → Going s → IsEarly s.place.step → IsFresh q.step → Held I askings (record s { place = q; has_get_parameter = has; passage = passage })
  place_held s q has passage g early fresh = held I askings (record s { place = q; has_get_parameter = has; passage = passage }) (record {
    source = g.source;
    awaits = g.awaits q.step (waiting_at Source s);
    keeps = g.keeps;
    target = fresh_moves I askings s.place q (session_at Target s) early fresh (waiting_at Target s) s.is_stopping g.target;
  })

  pair_held : (track : ℕ) (pair : ChannelPair) (s new : State) (turn : Turn) → Going s → s.place.step ≡ steps.SetUp track → SetsPair Source pair s new turn → Held I askings new
  pair_held track pair s new turn g is (inl (may, new_is, _)) =
      subst (λ (t : State). Held I askings t) (sym new_is)
      (place_held s (done_from s.place) s.has_get_parameter (with_pair Source (place_in s.place) (track_in s.place.step) pair s.passage) g
      (subst IsEarly (sym is) tt) (subst (λ (st : Step). IsFresh (done_at st s.place).step) (sym is) (behind_fresh track s.place.tracks)))
  pair_held track pair s new turn g is (inr (may, h)) = by_end I askings s new turn (ends.Channels Source OfAnotherTrack) (order s g) h

  channels_held : (given : Result ChannelPair ChannelFault) (track : ℕ) (s new : State) (turn : Turn) → Going s → s.place.step ≡ steps.SetUp track → SetsChannels given Source s new turn → Held I askings new
  channels_held (Ok pair) track s new turn g is h = pair_held track pair s new turn g is h
  channels_held (Err fault) track s new turn g is h = by_end I askings s new turn (ends.Channels Source fault) (order s g) h

  opened_going : (facts : ReplyFacts) (now : ℕ) (s : State) → Going s → Going (opened_at Source facts.session now s)
  opened_going facts now s g = record {
    source = subst (λ (r : Requests). OfSource r.outstanding) (sym (opened_requests (session_at Source s) facts.session Source s.has_get_parameter now s.source)) g.source;
    awaits = g.awaits;
    keeps = g.keeps;
    target = g.target;
  }

  session_held : (fault : Option SessionFault) (track : ℕ) (facts : ReplyFacts) (now : ℕ) (s new : State) (turn : Turn) → Going s → s.place.step ≡ steps.SetUp track → SetsUpAfter fault Source facts now s new turn → Held I askings new
  session_held (Some fault) track facts now s new turn g is h =
      by_end I askings (opened_at Source facts.session now s) new turn (ends.Session Source fault) (order (opened_at Source facts.session now s) (opened_going facts now s g)) h
  session_held None track facts now s new turn g is h =
      channels_held (pair_by facts.channels (asked_pair (track_in s.place.step))) track (opened_at Source facts.session now s) new turn (opened_going facts now s g) is h

  -- PLAY has succeeded
  played : (s : State) → Going s → s.place.step ≡ steps.Play → Held I askings (record s { place = done_from s.place })
  played s g is =
      let at : done_from s.place ≡ record s.place { step = steps.Passing } = ap (λ (st : Step). done_at st s.place) is in
      let target : AtTarget I askings (record s.place { step = steps.Play }) (waiting_at Target s) (session_at Target s) s.is_stopping =
      subst (λ (st : Step). AtTarget I askings (record s.place { step = st }) (waiting_at Target s) (session_at Target s) s.is_stopping) is g.target in
      subst (λ (p : Place). Held I askings (record s { place = p })) (sym at)
      (held I askings (record s { place = record s.place { step = steps.Passing } }) (record {
        source = g.source;
        awaits = g.awaits steps.Passing (waiting_at Source s);
        keeps = g.keeps;
        target = passing I askings s.place.tracks s.place.kept (waiting_at Target s) (session_at Target s) s.is_stopping target;
      }))

  -- the step's request has succeeded
  done_held : (step : Step) (asked : Asked) (facts : ReplyFacts) (now : ℕ) (s new : State) (turn : Turn) → Going s → s.place.step ≡ step → asked_at Source step ≡ Some asked → StepIsDone step facts now s new turn → Held I askings new
  done_held steps.Options asked facts now s new turn g is at (new_is, _) =
      subst (λ (t : State). Held I askings t) (sym new_is)
      (place_held s (done_from s.place) facts.has_get_parameter s.passage g (subst IsEarly (sym is) tt) (subst (λ (st : Step). IsFresh (done_at st s.place).step) (sym is) tt))
  done_held steps.Describe asked facts now s new turn g is at (new_is, _) =
      subst (λ (t : State). Held I askings t) (sym new_is)
      (held I askings (record s { awaits = waits.Description }) (record { source = g.source; awaits = tt; keeps = g.keeps; target = g.target }))
  done_held (steps.SetUp track) asked facts now s new turn g is at h = session_held (open_fault (session_at Source s) facts.session) track facts now s new turn g is h
  done_held steps.Announce asked facts now s new turn g is at h = absurd (cc)
  done_held (steps.SetUpTarget track) asked facts now s new turn g is at h = absurd (cc)
  done_held steps.Record asked facts now s new turn g is at h = absurd (cc)
  done_held steps.Play asked facts now s new turn g is at (new_is, _) = subst (λ (t : State). Held I askings t) (sym new_is) (played s g is)
  done_held steps.Passing asked facts now s new turn g is at h = absurd (cc)

  -- the description is elsewhere
  followed : (test : Bool) (s new : State) (turn : Turn) → Going s → s.place.step ≡ steps.Describe → waiting_at Source s ≡ None
      → MatchBool test
      ((new ≡ record s { redirects = record { followed = s.redirects.followed + 1 }; awaits = waits.Connection }) × (turn ≡ turns.Redirects))
      (IsEnd ends.TooManyRedirects s new turn)
      → Held I askings new
  followed true s new turn g is free (new_is, _) =
      subst (λ (t : State). Held I askings t) (sym new_is)
      (held I askings (record s { redirects = record { followed = s.redirects.followed + 1 }; awaits = waits.Connection }) (record { source = g.source; awaits = (is, free); keeps = g.keeps; target = g.target }))
  followed false s new turn g is free h = by_end I askings s new turn ends.TooManyRedirects (order s g) h

  -- a track is left out
  left_out : (track status : ℕ) (s new : State) (turn : Turn) → Going s → s.place.step ≡ steps.SetUp track → IsLeftOut track status s new turn → Held I askings new
  left_out track status s new turn g is (inl (goes, new_is, _)) =
      subst (λ (t : State). Held I askings t) (sym new_is)
      (place_held s (left_out_from s.place) s.has_get_parameter s.passage g (subst IsEarly (sym is) tt)
      (subst (λ (st : Step). IsFresh (left_out_at st s.place).step) (sym is) (behind_fresh track s.place.tracks)))
  left_out track status s new turn g is (inr (none, last, h)) = by_end I askings s new turn (ends.AllTracksRefused status) (order s g) h

  left_out_held : (step : Step) (status : ℕ) (s new : State) (turn : Turn) → Going s → s.place.step ≡ step → LeavesOutTrack step status s new turn → Held I askings new
  left_out_held steps.Options status s new turn g is h = by_same s new turn turns.GoesOn g h
  left_out_held steps.Describe status s new turn g is h = by_same s new turn turns.GoesOn g h
  left_out_held (steps.SetUp track) status s new turn g is h = left_out track status s new turn g is h
  left_out_held steps.Announce status s new turn g is h = by_same s new turn turns.GoesOn g h
  left_out_held (steps.SetUpTarget track) status s new turn g is h = by_same s new turn turns.GoesOn g h
  left_out_held steps.Record status s new turn g is h = by_same s new turn turns.GoesOn g h
  left_out_held steps.Play status s new turn g is h = by_same s new turn turns.GoesOn g h
  left_out_held steps.Passing status s new turn g is h = by_same s new turn turns.GoesOn g h

  challenged_held : (asked : Asked) (s : State) → Going s → side_of asked ≡ Source → Held I askings (challenged asked s)
  challenged_held asked s g side = held I askings (challenged asked s) (record { source = g.source; awaits = side; keeps = g.keeps; target = g.target })

  options_held : (s : State) → Going s → Held I askings (options_at Source s)
  options_held s g = held I askings (options_at Source s) (record { source = g.source; awaits = g.awaits s.place.step (waiting_at Source s); keeps = g.keeps; target = g.target })

  closed_held : (s new : State) (turn : Turn) → Going s → EndsIfClosed (with_closed Source s) new turn → Held I askings new
  closed_held s new turn g h =
      closes I askings (with_closed Source s) new turn (record { source = g.source; awaits = g.awaits s.place.step (waiting_at Source s); keeps = g.keeps; target = g.target }) h

  -- the reply to the step's request
  step_held : (verdict : Verdict) (asked : Asked) (c : StatusClass) (facts : ReplyFacts) (now : ℕ) (s new : State) (turn : Turn) → verdict ≡ verdict_of asked c → side_of asked ≡ Source
      → asked_at Source s.place.step ≡ Some asked → Going (answered_of Source (Of asked verdict) s) → Steps verdict asked facts now (answered_of Source (Of asked verdict) s) new turn → Held I askings new
  step_held Waits asked c facts now s new turn means side at g h = by_same (answered_of Source (Of asked Waits) s) new turn turns.GoesOn g h
  step_held GoesOn asked c facts now s new turn means side at g h = done_held s.place.step asked facts now (answered_of Source (Of asked GoesOn) s) new turn g refl at h
  step_held Follows asked c facts now s new turn means side at g h =
      followed (nat_lt s.redirects.followed 3) (answered_of Source (Of asked Follows) s) new turn g (follows_at s.place.step asked c at (subst IsFollows means tt)) refl h
  step_held LeavesOut asked c facts now s new turn means side at g h = left_out_held s.place.step facts.status (answered_of Source (Of asked LeavesOut) s) new turn g refl h
  step_held Challenged asked c facts now s new turn means side at g (h, _) =
      subst (λ (t : State). Held I askings t) (sym h) (challenged_held asked (answered_of Source (Of asked Challenged) s) g side)
  step_held TargetAsksPassword asked c facts now s new turn means side at g h =
      by_end I askings (answered_of Source (Of asked TargetAsksPassword) s) new turn ends.TargetAsksPassword (order (answered_of Source (Of asked TargetAsksPassword) s) g) h
  step_held SessionGone asked c facts now s new turn means side at g h = by_same (answered_of Source (Of asked SessionGone) s) new turn turns.GoesOn g h
  step_held UsesOptions asked c facts now s new turn means side at g h = by_same (answered_of Source (Of asked UsesOptions) s) new turn turns.GoesOn g h
  step_held Refused asked c facts now s new turn means side at g h =
      by_end I askings (answered_of Source (Of asked Refused) s) new turn (refusal asked facts.status) (order (answered_of Source (Of asked Refused) s) g) h
  step_held IsOver asked c facts now s new turn means side at g h = by_same (answered_of Source (Of asked IsOver) s) new turn turns.GoesOn g h

  step_taken : (verdict : Verdict) (asked : Asked) (c : StatusClass) (facts : ReplyFacts) (now : ℕ) (s new : State) (turn : Turn) → verdict ≡ verdict_of asked c → side_of asked ≡ Source
      → Going (answered_of Source (Of asked verdict) s) → TakesStep Source asked verdict facts now (answered_of Source (Of asked verdict) s) new turn → Held I askings new
  step_taken verdict asked c facts now s new turn means side g (inl (at, h)) = step_held verdict asked c facts now s new turn means side at g h
  step_taken verdict asked c facts now s new turn means side g (inr (other, h)) = by_same (answered_of Source (Of asked verdict) s) new turn turns.PassesOver g h

  kept_taken : (verdict : Verdict) (s new : State) → Going s → new ≡ kept_alive verdict Source s → Held I askings new
  kept_taken verdict s new g h = subst (λ (t : State). Held I askings t) (sym h) (by verdict) where
    same : Held I askings s
    same = held I askings s (good s g)

    by : (verdict : Verdict) → Held I askings (kept_alive verdict Source s)
    by Waits = same
    by GoesOn = same
    by Follows = same
    by LeavesOut = same
    by Challenged = challenged_held (asks.KeepAlive Source) s g refl
    by TargetAsksPassword = ended I askings ends.TargetAsksPassword s (order s g)
    by SessionGone = ended I askings (ends.SessionGone Source) s (order s g)
    by UsesOptions = options_held s g
    by Refused = same
    by IsOver = same

  teardown_taken : (verdict : Verdict) (s new : State) (turn : Turn) → Going s → IsTornDown verdict Source s new turn → Held I askings new
  teardown_taken Waits s new turn g h = by_same s new turn turns.GoesOn g h
  teardown_taken GoesOn s new turn g h = by_same s new turn turns.GoesOn g h
  teardown_taken Follows s new turn g h = by_same s new turn turns.GoesOn g h
  teardown_taken LeavesOut s new turn g h = by_same s new turn turns.GoesOn g h
  teardown_taken Challenged s new turn g h = by_same s new turn turns.GoesOn g h
  teardown_taken TargetAsksPassword s new turn g h = by_same s new turn turns.GoesOn g h
  teardown_taken SessionGone s new turn g h = by_same s new turn turns.GoesOn g h
  teardown_taken UsesOptions s new turn g h = by_same s new turn turns.GoesOn g h
  teardown_taken Refused s new turn g h = by_same s new turn turns.GoesOn g h
  teardown_taken IsOver s new turn g h = closed_held s new turn g h

  reply_taken : (asked : Asked) (verdict : Verdict) (c : StatusClass) (facts : ReplyFacts) (now : ℕ) (s new : State) (turn : Turn) → verdict ≡ verdict_of asked c → side_of asked ≡ Source
      → Going (answered_of Source (Of asked verdict) s) → TakesOf Source asked verdict facts now (answered_of Source (Of asked verdict) s) new turn → Held I askings new
  reply_taken asks.Options verdict c facts now s new turn means side g h = step_taken verdict asks.Options c facts now s new turn means side g h
  reply_taken asks.Describe verdict c facts now s new turn means side g h = step_taken verdict asks.Describe c facts now s new turn means side g h
  reply_taken asks.SetUp verdict c facts now s new turn means side g h = step_taken verdict asks.SetUp c facts now s new turn means side g h
  reply_taken asks.Announce verdict c facts now s new turn means side g h = absurd (cc)
  reply_taken asks.SetUpTarget verdict c facts now s new turn means side g h = absurd (cc)
  reply_taken asks.Record verdict c facts now s new turn means side g h = absurd (cc)
  reply_taken asks.Play verdict c facts now s new turn means side g h = step_taken verdict asks.Play c facts now s new turn means side g h
  reply_taken (asks.KeepAlive Source) verdict c facts now s new turn means side g h = kept_taken verdict (answered_of Source (Of (asks.KeepAlive Source) verdict) s) new g h.0
  reply_taken (asks.KeepAlive Target) verdict c facts now s new turn means side g h = absurd (cc)
  reply_taken (asks.TearDown Source) verdict c facts now s new turn means side g h = teardown_taken verdict (answered_of Source (Of (asks.TearDown Source) verdict) s) new turn g h
  reply_taken (asks.TearDown Target) verdict c facts now s new turn means side g h = absurd (cc)

  of_waiting : (w : Outstanding) (s : State) → Good I askings s → waiting_at Source s ≡ Some w → side_of w.asked ≡ Source
  of_waiting w s g at = subst (λ (o : Option Outstanding). OfSource o) at g.source

  pub taken_source : (waiting : Option Outstanding) (asked : Asked) (verdict : Verdict) (facts : ReplyFacts) (now : ℕ) (s new : State) (turn : Turn) → Good I askings s → waiting_at Source s ≡ waiting
      → IsReply waiting facts.number facts.status (Of asked verdict) → TakesOf Source asked verdict facts now (answered_of Source (Of asked verdict) s) new turn → Held I askings new
  taken_source None asked verdict facts now s new turn g at none h = absurd none
  taken_source (Some w) asked verdict facts now s new turn g at (may, is, (c, has, means)) h =
      reply_taken asked verdict c facts now s new turn means (ap (λ (a : Asked). side_of a) is ∙ of_waiting w s g at)
      (record {
        source = of_answered verdict s.source.requests g.source;
        awaits = awaits_any s.awaits s.place.step w (subst (λ (o : Option Outstanding). AwaitsAt s.awaits s.place.step o) at g.awaits);
        keeps = g.keeps;
        target = g.target;
      })
      h

  -- the request that waits is late
  late_going : (w : Outstanding) (s : State) → Good I askings s → waiting_at Source s ≡ Some w → Going (free_at Source s)
  late_going w s g at = record {
    source = tt;
    awaits = awaits_any s.awaits s.place.step w (subst (λ (o : Option Outstanding). AwaitsAt s.awaits s.place.step o) at g.awaits);
    keeps = g.keeps;
    target = g.target;
  }

  lack_held : (l : Late) (asked : Asked) (s new : State) (turn : Turn) → Going s → Lacks l asked Source s new turn → Held I askings new
  lack_held late.Ends asked s new turn g h = by_end I askings s new turn (ends.NoReply asked) (order s g) h
  lack_held late.UsesOptions asked s new turn g (h, _) = subst (λ (t : State). Held I askings t) (sym h) (options_held s g)
  lack_held late.Over asked s new turn g h = closed_held s new turn g h

  pub late_source : (waiting : Option Outstanding) (asked : Asked) (l : Late) (now : ℕ) (s new : State) (turn : Turn) → Good I askings s → waiting_at Source s ≡ waiting
      → IsLate waiting now asked l → Lacks l asked Source (free_at Source s) new turn → Held I askings new
  late_source None asked l now s new turn g at none h = absurd none
  late_source (Some w) asked l now s new turn g at is_late h = lack_held l asked (free_at Source s) new turn (late_going w s g at) h
