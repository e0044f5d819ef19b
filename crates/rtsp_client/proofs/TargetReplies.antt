-- What the target's replies, or their absence, leave of a client's requests to it.
use Rattle.std.proofs.Common.{◌≡◌, refl, sym, ap, subst, ℕ, inl, inr, Bool, true, false, MatchBool, List, Option, Some, None, ◌∙◌}
use Rattle.rtsp_client.specs.Clients.{State, session_at, waiting_at}
use Rattle.rtsp_client.specs.Lateness.{Lacks, free_at}
use Rattle.rtsp_client.specs.Replies.{Steps, TakesOf, TakesStep, answered_of, kept_alive, options_at, refusal}
use Rattle.rtsp_client.specs.Requests.{IsLate, IsReply}
use Rattle.rtsp_client.specs.SettingUp.{IsEnd, IsSame}
use Rattle.rtsp_client.specs.Steps.{FitsStep, asked_at, is_recording}
use Rattle.rtsp_client.specs.Stopping.{EndsIfClosed, IsTornDown, has_session, with_closed}
use Rattle.rtsp_client.specs.Table.{lateness, verdict_of}
use Rattle.rtsp_client.specs.TargetCourse.{AreInOrder, Asking, Recording}
use Rattle.rtsp_client.specs.declared.asked.Asked.{Asked}
use Rattle.rtsp_client.specs.declared.asked.Asked.TheVariants as asks
use Rattle.rtsp_client.specs.declared.asked.Late.{Late}
use Rattle.rtsp_client.specs.declared.asked.Late.TheVariants as late
use Rattle.rtsp_client.specs.declared.asked.Side.TheVariants.{Target}
use Rattle.rtsp_client.specs.declared.end.End.{End}
use Rattle.rtsp_client.specs.declared.end.End.TheVariants as ends
use Rattle.rtsp_client.specs.declared.reply_facts.ReplyFacts.{ReplyFacts}
use Rattle.rtsp_client.specs.declared.requests.Outstanding.{Outstanding}
use Rattle.rtsp_client.specs.declared.requests.Reply.{Reply}
use Rattle.rtsp_client.specs.declared.requests.Reply.TheVariants.{Of}
use Rattle.rtsp_client.specs.declared.status_class.StatusClass.{StatusClass}
use Rattle.rtsp_client.specs.declared.turn.Turn.{Turn}
use Rattle.rtsp_client.specs.declared.turn.Turn.TheVariants as turns
use Rattle.rtsp_client.specs.declared.verdict.Verdict.{Verdict}
use Rattle.rtsp_client.specs.declared.verdict.Verdict.TheVariants.{Waits, GoesOn, Follows, LeavesOut, Challenged, TargetAsksPassword, SessionGone, UsesOptions, Refused, Over as IsOver}
use Rattle.rtsp_client.proofs.TargetSends.{recording_stage}
use Rattle.rtsp_client.proofs.TargetSetUps.{by_end, done_held, kept_options}
use Rattle.rtsp_client.proofs.TargetStages.{Good, Held, Live, Over, WaitsAt, ended, good_more, good_order, held, stage_after}
use Rattle.rtsp_client.proofs.TargetTables.{OfKeepalive, OfStep, OfTeardown, heard_recording, of_keepalive, of_step, of_teardown, step_late, takes_step}

order_answered : (askings : List Asking) (reply : Reply) (s : State) → AreInOrder askings s → AreInOrder askings (answered_of Target reply s)
order_answered askings reply s o = record { id = o.id; stage = o.stage; course = o.course; open_is = o.open_is }

order_free : (askings : List Asking) (s : State) → AreInOrder askings s → AreInOrder askings (free_at Target s)
order_free askings s o = record { id = o.id; stage = o.stage; course = o.course; open_is = o.open_is }

-- it ends if no session is open
closing : (H : Bool → Type 0) (askings : List Asking) (test : Bool) (s new : State) (turn is : Turn) (end : End) → Good H askings s → MatchBool test (IsSame s new turn is) (IsEnd end s new turn) → Held H askings new
closing H askings true s new turn is end g (same, _) = subst (λ (t : State). Held H askings t) (sym same) (held H askings s g)
closing H askings false s new turn is end g h = by_end H askings s new turn end (good_order H askings s g) h

pub closes : (H : Bool → Type 0) (askings : List Asking) (s new : State) (turn : Turn) → Good H askings s → EndsIfClosed s new turn → Held H askings new
closes H askings s new turn g h = closing H askings (has_session s) s new turn turns.GoesOn ends.Stopped g h

module _ (I : Bool → Type 0) (askings : List Asking) (s : State) where
  -- it waits no longer for what keeps the session alive
  pub kept_good : (live : Live I askings s.place (waiting_at Target s) (session_at Target s)) → Good I askings s → is_recording s.place.step ≡ true → live.stage ≡ Recording → Good I askings (free_at Target s)
  kept_good live g records stage_is = record {
    source = g.source;
    awaits = g.awaits;
    keeps = g.keeps;
    target = inl (record {
      stage = live.stage;
      waits = stage_is ∙ sym (recording_stage s.place.step s.place.kept records);
      course = live.course;
      opened = live.opened;
      heard = λ none. heard_recording I s.place.step records;
      begun = live.begun;
    });
  }

  pub options_good : Good I askings s → Good I askings (options_at Target s)
  options_good g = record { source = g.source; awaits = g.awaits; keeps = kept_options (session_at Target s) s.target.keepalive g.keeps; target = g.target }

  -- the session is over
  pub closed_good : (over : Over askings s.place (waiting_at Target s) (session_at Target s) s.is_stopping) → Good I askings s → Good I askings (with_closed Target (free_at Target s))
  closed_good over g = record {
    source = g.source;
    awaits = g.awaits;
    keeps = refl;
    target = inr (record { late = over.late; id = over.id; course = over.course; stopping = over.stopping; fits = λ o h. absurd (cc); waits = inr (refl, refl) });
  }

-- what success of a request says
abbrev pub Hears : (I : Bool → Type 0) → Asked → Bool → Type 0
Hears I asked true = I true
Hears I asked false = asked ≡ asks.SetUpTarget → I false

module _ (H I : Bool → Type 0) (more : (b : Bool) → H b → I b) (askings : List Asking) (s new : State) (turn : Turn) (facts : ReplyFacts) (now : ℕ) (g : Good H askings s) where
  good : Good I askings s
  good = good_more H I more askings s g

  same_held : (reply : Reply) (t : State) (is : Turn) → Good I askings t → IsSame t new turn is → Held I askings new
  same_held reply t is good (same, _) = subst (λ (u : State). Held I askings u) (sym same) (held I askings t good)

  -- the step's request
  step_held : (verdict : Verdict) (asked : Asked) (live : Live H askings s.place (waiting_at Target s) (session_at Target s)) → OfStep verdict → FitsStep s.place.step s.place.tracks s.place.kept
      → asked_at Target s.place.step ≡ Some asked → live.stage ≡ stage_after s.place.step s.place.kept → (verdict ≡ GoesOn → (b : Bool) → Hears I asked b)
      → Steps verdict asked facts now (answered_of Target (Of asked verdict) s) new turn → Held I askings new
  step_held Waits asked live of fit at stage_is heard h = same_held (Of asked Waits) (answered_of Target (Of asked Waits) s) turns.GoesOn good h
  step_held GoesOn asked live of fit at stage_is heard h =
      done_held I askings s.place.step asked (heard refl false) facts now (answered_of Target (Of asked GoesOn) s) new turn refl at fit live.opened
      (record { source = g.source; awaits = g.awaits; keeps = g.keeps; free = refl; stage = live.stage; stage_is = stage_is; course = live.course; heard = heard refl true; begun = λ o e. more false (live.begun o e) }) h
  step_held Follows asked live of fit at stage_is heard h = absurd of
  step_held LeavesOut asked live of fit at stage_is heard h = absurd of
  step_held Challenged asked live of fit at stage_is heard h = absurd of
  step_held TargetAsksPassword asked live of fit at stage_is heard h =
      by_end I askings (answered_of Target (Of asked TargetAsksPassword) s) new turn ends.TargetAsksPassword (order_answered askings (Of asked TargetAsksPassword) s (good_order H askings s g)) h
  step_held SessionGone asked live of fit at stage_is heard h = absurd of
  step_held UsesOptions asked live of fit at stage_is heard h = absurd of
  step_held Refused asked live of fit at stage_is heard h =
      by_end I askings (answered_of Target (Of asked Refused) s) new turn (refusal asked facts.status) (order_answered askings (Of asked Refused) s (good_order H askings s g)) h
  step_held IsOver asked live of fit at stage_is heard h = absurd of

  step_taken : (verdict : Verdict) (asked : Asked) (live : Live H askings s.place (waiting_at Target s) (session_at Target s)) → OfStep verdict → FitsStep s.place.step s.place.tracks s.place.kept
      → asked_at Target s.place.step ≡ Some asked → live.stage ≡ stage_after s.place.step s.place.kept → (verdict ≡ GoesOn → (b : Bool) → Hears I asked b)
      → TakesStep Target asked verdict facts now (answered_of Target (Of asked verdict) s) new turn → Held I askings new
  step_taken verdict asked live of fit at stage_is heard (inl (there, h)) = step_held verdict asked live of fit at stage_is heard h
  step_taken verdict asked live of fit at stage_is heard (inr (other, h)) = absurd (other at)

  -- a request that keeps the session alive
  keepalive_held : (verdict : Verdict) (live : Live I askings s.place (waiting_at Target s) (session_at Target s)) → OfKeepalive verdict → is_recording s.place.step ≡ true → live.stage ≡ Recording
      → (new ≡ kept_alive verdict Target (answered_of Target (Of (asks.KeepAlive Target) verdict) s)) → Held I askings new
  keepalive_held Waits live of records stage_is h = subst (λ (u : State). Held I askings u) (sym h) (held I askings s good)
  keepalive_held GoesOn live of records stage_is h = subst (λ (u : State). Held I askings u) (sym h) (held I askings (free_at Target s) (kept_good I askings s live good records stage_is))
  keepalive_held Follows live of records stage_is h = absurd of
  keepalive_held LeavesOut live of records stage_is h = absurd of
  keepalive_held Challenged live of records stage_is h = absurd of
  keepalive_held TargetAsksPassword live of records stage_is h =
      subst (λ (u : State). Held I askings u) (sym h) (ended I askings ends.TargetAsksPassword (free_at Target s) (order_free askings s (good_order H askings s g)))
  keepalive_held SessionGone live of records stage_is h =
      subst (λ (u : State). Held I askings u) (sym h) (ended I askings (ends.SessionGone Target) (free_at Target s) (order_free askings s (good_order H askings s g)))
  keepalive_held UsesOptions live of records stage_is h =
      subst (λ (u : State). Held I askings u) (sym h)
      (held I askings (options_at Target (free_at Target s)) (options_good I askings (free_at Target s) (kept_good I askings s live good records stage_is)))
  keepalive_held Refused live of records stage_is h = absurd of
  keepalive_held IsOver live of records stage_is h = absurd of

  teardown_held : (verdict : Verdict) → OfTeardown verdict → Over askings s.place (waiting_at Target s) (session_at Target s) s.is_stopping
      → IsTornDown verdict Target (answered_of Target (Of (asks.TearDown Target) verdict) s) new turn → Held I askings new
  teardown_held Waits of over h = same_held (Of (asks.TearDown Target) Waits) s turns.GoesOn good h
  teardown_held GoesOn of over h = absurd of
  teardown_held Follows of over h = absurd of
  teardown_held LeavesOut of over h = absurd of
  teardown_held Challenged of over h = absurd of
  teardown_held TargetAsksPassword of over h = absurd of
  teardown_held SessionGone of over h = absurd of
  teardown_held UsesOptions of over h = absurd of
  teardown_held Refused of over h = absurd of
  teardown_held IsOver of over h = closes I askings (with_closed Target (free_at Target s)) new turn (closed_good I askings s over good) h

  live_taken : (w : Outstanding) (asked : Asked) (verdict : Verdict) (c : StatusClass) (live : Live H askings s.place (waiting_at Target s) (session_at Target s)) → FitsStep s.place.step s.place.tracks s.place.kept
      → WaitsAt s.place.step s.place.kept (Some w) live.stage → asked ≡ w.asked → verdict ≡ verdict_of asked c → (verdict ≡ GoesOn → (b : Bool) → Hears I asked b)
      → TakesOf Target asked verdict facts now (answered_of Target (Of asked verdict) s) new turn → Held I askings new
  live_taken w asked verdict c live fit (inl (at, stage_is)) is means heard h =
      let there : asked_at Target s.place.step ≡ Some asked = at ∙ ap (λ (a : Asked). Some a) (sym is) in
      step_taken verdict asked live (subst OfStep (sym means) (of_step s.place.step asked c there)) fit there stage_is heard
      (takes_step s.place.step asked verdict facts now (answered_of Target (Of asked verdict) s) new turn there h)
  live_taken w asked verdict c live fit (inr (keeps, records, stage_is)) is means heard h =
      let same : asked ≡ asks.KeepAlive Target = is ∙ keeps in
      let as_is : TakesOf Target (asks.KeepAlive Target) verdict facts now (answered_of Target (Of (asks.KeepAlive Target) verdict) s) new turn =
      subst (λ (a : Asked). TakesOf Target a verdict facts now (answered_of Target (Of a verdict) s) new turn) same h in
      let more_live : Live I askings s.place (waiting_at Target s) (session_at Target s) =
      record { stage = live.stage; waits = live.waits; course = live.course; opened = live.opened; heard = λ none. heard_recording I s.place.step records; begun = λ o e. more false (live.begun o e) } in
      keepalive_held verdict more_live (subst OfKeepalive (sym (means ∙ ap (λ (a : Asked). verdict_of a c) same)) (of_keepalive c)) records stage_is as_is.0

  over_taken : (asked : Asked) (verdict : Verdict) (c : StatusClass) → Over askings s.place (waiting_at Target s) (session_at Target s) s.is_stopping → asked ≡ asks.TearDown Target → verdict ≡ verdict_of asked c
      → TakesOf Target asked verdict facts now (answered_of Target (Of asked verdict) s) new turn → Held I askings new
  over_taken asked verdict c over same means h =
      teardown_held verdict (subst OfTeardown (sym (means ∙ ap (λ (a : Asked). verdict_of a c) same)) (of_teardown c)) over
      (subst (λ (a : Asked). TakesOf Target a verdict facts now (answered_of Target (Of a verdict) s) new turn) same h)

  -- the reply to the request that waits
  pub taken_target : (waiting : Option Outstanding) (asked : Asked) (verdict : Verdict) → waiting_at Target s ≡ waiting → FitsStep s.place.step s.place.tracks s.place.kept
      → IsReply waiting facts.number facts.status (Of asked verdict) → (verdict ≡ GoesOn → (b : Bool) → Hears I asked b)
      → TakesOf Target asked verdict facts now (answered_of Target (Of asked verdict) s) new turn → Held I askings new
  taken_target None asked verdict at fit none heard h = absurd none
  taken_target (Some w) asked verdict at fit (may, is, (c, has, means)) heard h = elim g.target [
    | inl live ↦ live_taken w asked verdict c live fit (subst (λ (o : Option Outstanding). WaitsAt s.place.step s.place.kept o live.stage) at live.waits) is means heard h
    | inr over ↦ elim over.waits [
      | inl (other, has_other, td) ↦ (let same : w ≡ other = cc in over_taken asked verdict c over (is ∙ ap (λ (o : Outstanding). o.asked) same ∙ td) means h)
      | inr (none, closed) ↦ absurd (cc)
    ]
  ]

module _ (I : Bool → Type 0) (askings : List Asking) (s new : State) (turn : Turn) (now : ℕ) (g : Good I askings s) where
  -- the request that waits is late
  lack_live : (w : Outstanding) (asked : Asked) (l : Late) (live : Live I askings s.place (waiting_at Target s) (session_at Target s)) → WaitsAt s.place.step s.place.kept (Some w) live.stage → asked ≡ w.asked
      → l ≡ lateness asked → Lacks l asked Target (free_at Target s) new turn → Held I askings new
  lack_live w asked late.Ends live waits is l_is h = by_end I askings (free_at Target s) new turn (ends.NoReply asked) (order_free askings s (good_order I askings s g)) h
  lack_live w asked late.UsesOptions live (inl (at, stage_is)) is l_is h = let ends_it = step_late s.place.step asked late.UsesOptions (at ∙ ap (λ (a : Asked). Some a) (sym is)) l_is in absurd (cc)
  lack_live w asked late.UsesOptions live (inr (keeps, records, stage_is)) is l_is (h, _) =
      subst (λ (u : State). Held I askings u) (sym h)
      (held I askings (options_at Target (free_at Target s)) (options_good I askings (free_at Target s) (kept_good I askings s live g records stage_is)))
  lack_live w asked late.Over live (inl (at, stage_is)) is l_is h = let ends_it = step_late s.place.step asked late.Over (at ∙ ap (λ (a : Asked). Some a) (sym is)) l_is in absurd (cc)
  lack_live w asked late.Over live (inr (keeps, records, stage_is)) is l_is h =
      let as_is : late.Over ≡ late.UsesOptions = l_is ∙ ap (λ (a : Asked). lateness a) (is ∙ keeps) in absurd (cc)

  lack_over : (asked : Asked) (l : Late) → Over askings s.place (waiting_at Target s) (session_at Target s) s.is_stopping → asked ≡ asks.TearDown Target → l ≡ lateness asked
      → Lacks l asked Target (free_at Target s) new turn → Held I askings new
  lack_over asked late.Ends over is l_is h = let as_is : late.Ends ≡ late.Over = l_is ∙ ap (λ (a : Asked). lateness a) is in absurd (cc)
  lack_over asked late.UsesOptions over is l_is h = let as_is : late.UsesOptions ≡ late.Over = l_is ∙ ap (λ (a : Asked). lateness a) is in absurd (cc)
  lack_over asked late.Over over is l_is h = closes I askings (with_closed Target (free_at Target s)) new turn (closed_good I askings s over g) h

  pub late_target : (waiting : Option Outstanding) (asked : Asked) (l : Late) → waiting_at Target s ≡ waiting → IsLate waiting now asked l → Lacks l asked Target (free_at Target s) new turn → Held I askings new
  late_target None asked l at none h = absurd none
  late_target (Some w) asked l at (long, is, l_is) h = elim g.target [
    | inl live ↦ lack_live w asked l live (subst (λ (o : Option Outstanding). WaitsAt s.place.step s.place.kept o live.stage) at live.waits) is l_is h
    | inr over ↦ elim over.waits [
      | inl (other, has_other, td) ↦ (let same : w ≡ other = cc in lack_over asked l over (is ∙ ap (λ (o : Outstanding). o.asked) same ∙ td) l_is h)
      | inr (none, closed) ↦ absurd (cc)
    ]
  ]
