-- The requests to the target in every run of a client.
use Rattle.std.proofs.Common.{◌≡◌, refl, sym, ap, subst, ℕ, zero, suc, min, inl, inr, Bool, true, false, List, [], ◌∷◌, ◌++◌, Option, Some, None, Contains, arith, is_some, ◌∙◌}
use Rattle.rtsp_client.specs.Clients.{State, asked_of, due, new_client, number_at, session_at, unless_ended, waiting_at, with_end}
use Rattle.rtsp_client.specs.Lateness.{Ticks}
use Rattle.rtsp_client.specs.Replies.{Takes, answered_of}
use Rattle.rtsp_client.specs.Requests.{IsReply}
use Rattle.rtsp_client.specs.Runs.{Event, Goes, HasGone, sends, runs_out, takes, is_described, is_undescribed, is_redirected, is_answered, is_ended, is_stopped, frame_comes, frames_leave, ticks, idles}
use Rattle.rtsp_client.specs.Sending.{after_sent, with_alive, with_fewer_waiting}
use Rattle.rtsp_client.specs.Steps.{FitsStep, described_from, start}
use Rattle.rtsp_client.specs.Stopping.{StopsAt}
use Rattle.rtsp_client.specs.TargetCourse.{AreInOrder, Asking, HasAsked, IsAnswered, IsReadyFor, IsSent, Unasked, asking_at, asking_of}
use Rattle.rtsp_client.specs.Told.{answered_at, bad_at, described_at, redirected_at, tracks_at, tracks_in}
use Rattle.rtsp_client.specs.declared.asked.Asked.{Asked}
use Rattle.rtsp_client.specs.declared.asked.Asked.TheVariants as asks
use Rattle.rtsp_client.specs.declared.asked.Side.{Side}
use Rattle.rtsp_client.specs.declared.asked.Side.TheVariants.{Source, Target}
use Rattle.rtsp_client.specs.declared.awaits.Awaits.{Awaits}
use Rattle.rtsp_client.specs.declared.awaits.Awaits.TheVariants as waits
use Rattle.rtsp_client.specs.declared.end.End.{End}
use Rattle.rtsp_client.specs.declared.end.End.TheVariants as ends
use Rattle.rtsp_client.specs.declared.reply_facts.ReplyFacts.{ReplyFacts}
use Rattle.rtsp_client.specs.declared.requests.Reply.{Reply}
use Rattle.rtsp_client.specs.declared.requests.Reply.TheVariants.{Of, Other}
use Rattle.rtsp_client.specs.declared.step.Step.{Step}
use Rattle.rtsp_client.specs.declared.step.Step.TheVariants as steps
use Rattle.rtsp_client.specs.declared.turn.Turn.{Turn}
use Rattle.rtsp_client.specs.declared.verdict.Verdict.{Verdict}
use Rattle.rtsp_client.specs.declared.verdict.Verdict.TheVariants.{GoesOn}
use Rattle.rtsp_client.proofs.Coming.{behind}
use Rattle.rtsp_client.proofs.Running.{end_stays, mapped_always, recorded_before, sends_before_end}
use Rattle.rtsp_client.proofs.TargetFresh.{fresh_moves}
use Rattle.rtsp_client.proofs.TargetReplies.{Hears, closes, late_target, taken_target}
use Rattle.rtsp_client.proofs.TargetReady.{kept_recording, sent_ready, teardown_ready}
use Rattle.rtsp_client.proofs.TargetRest.{at_rest}
use Rattle.rtsp_client.proofs.TargetSends.{kept_sent, sent_source, sent_target}
use Rattle.rtsp_client.proofs.TargetSources.{late_source, taken_source}
use Rattle.rtsp_client.proofs.TargetStages.{AtTarget, AwaitsAt, Good, Held, IsEarly, ended, good_more, good_order, held}

pub has_asked : (events : List Event) (s : State) → HasGone events s → (askings : List Asking) × HasAsked events askings s
has_asked [] s is = ([], (refl, is))
has_asked (event ∷ before) s (earlier, h, goes) =
    let was = has_asked before earlier h in
    (asking_at event earlier ++ was.0, (earlier, was.0, was.1, goes, refl))

pub has_gone : (events : List Event) (askings : List Asking) (s : State) → HasAsked events askings s → HasGone events s
has_gone [] askings s (none, is) = is
has_gone (event ∷ before) askings s (earlier, asked, h, goes, is) = (earlier, has_gone before asked earlier h, goes)

-- what came of the requests to the target: the last one has succeeded; or SETUP has
abbrev past : List Event → Bool → Type 0
past events true = IsAnswered events
past events false = Contains events (takes Target (Of asks.SetUpTarget GoesOn))

-- an event that sends nothing to the target
still : (event : Event) (before : List Event) → (IsSent event → ⊥) → (b : Bool) → past before b → past (event ∷ before) b
still event before none true h = inr (none, h)
still event before none false h = behind event before (takes Target (Of asks.SetUpTarget GoesOn)) h

-- a reply of the target says that what was asked for is done
hears : (event : Event) (before : List Event) (asked : Asked) → event ≡ takes Target (Of asked GoesOn) → (b : Bool) → Hears (past (event ∷ before)) asked b
hears event before asked is true = inl (asked, is)
hears event before asked is false = λ sets. (0, omega arith, is ∙ ap (λ (a : Asked). takes Target (Of a GoesOn)) sets)

module _ (I : Bool → Type 0) (askings : List Asking) (s : State) (g : Good I askings s) where
  by_is : (new next : State) → new ≡ next → Held I askings next → Held I askings new
  by_is new next is h = subst (λ (t : State). Held I askings t) (sym is) h

  same : Held I askings s
  same = held I askings s g

  end_held : (end : End) → Held I askings (with_end end s)
  end_held end = ended I askings end s (good_order I askings s g)

  -- the description comes
  tracks_held : (tracks : ℕ) → s.place.step ≡ steps.Describe → Held I askings (tracks_at tracks s)
  tracks_held zero is = end_held ends.NoUsableTrack
  tracks_held (suc others) is = held I askings (record s { awaits = waits.Nothing; place = described_from (min (suc others) 16) s.place }) (record {
    source = g.source;
    awaits = tt;
    keeps = g.keeps;
    target = fresh_moves I askings s.place (described_from (min (suc others) 16) s.place) (session_at Target s) (subst IsEarly (sym is) tt) tt (waiting_at Target s) s.is_stopping g.target;
  })

  tracks_in_held : (step : Step) (tracks : ℕ) → s.place.step ≡ step → Held I askings (tracks_in step tracks s)
  tracks_in_held steps.Options tracks is = same
  tracks_in_held steps.Describe tracks is = tracks_held tracks is
  tracks_in_held (steps.SetUp track) tracks is = same
  tracks_in_held steps.Announce tracks is = same
  tracks_in_held (steps.SetUpTarget track) tracks is = same
  tracks_in_held steps.Record tracks is = same
  tracks_in_held steps.Play tracks is = same
  tracks_in_held steps.Passing tracks is = same

  described_held : (awaits : Awaits) (tracks : ℕ) → Held I askings (described_at awaits tracks s)
  described_held waits.Nothing tracks = same
  described_held waits.Description tracks = tracks_in_held s.place.step tracks refl
  described_held waits.Connection tracks = same
  described_held (waits.Password asked) tracks = same
  described_held (waits.Again asked) tracks = same

  bad_held : (awaits : Awaits) → Held I askings (bad_at awaits s)
  bad_held waits.Nothing = same
  bad_held waits.Description = end_held ends.DescriptionUnusable
  bad_held waits.Connection = same
  bad_held (waits.Password asked) = same
  bad_held (waits.Again asked) = same

  redirected_held : (awaits : Awaits) → s.awaits ≡ awaits → Held I askings (redirected_at awaits s)
  redirected_held waits.Nothing is = same
  redirected_held waits.Description is = same
  redirected_held waits.Connection is =
      let at : AwaitsAt waits.Connection s.place.step (waiting_at Source s) = subst (λ (w : Awaits). AwaitsAt w s.place.step (waiting_at Source s)) is g.awaits in
      held I askings (redirected_at waits.Connection s) (record {
        source = tt;
        awaits = tt;
        keeps = g.keeps;
        target = fresh_moves I askings s.place start (session_at Target s) (subst IsEarly (sym at.0) tt) tt (waiting_at Target s) s.is_stopping g.target;
      })
  redirected_held (waits.Password asked) is = same
  redirected_held (waits.Again asked) is = same

  answered_held : (awaits : Awaits) (has : Bool) → s.awaits ≡ awaits → Held I askings (answered_at awaits has s)
  answered_held waits.Nothing has is = same
  answered_held waits.Description has is = same
  answered_held waits.Connection has is = same
  answered_held (waits.Password asked) true is = held I askings (record s { awaits = waits.Again asked }) (record {
    source = g.source;
    awaits = subst (λ (w : Awaits). AwaitsAt w s.place.step (waiting_at Source s)) is g.awaits;
    keeps = g.keeps;
    target = g.target;
  })
  answered_held (waits.Password asked) false is = end_held ends.PasswordRefused
  answered_held (waits.Again asked) has is = same

  -- after its end nothing changes
  unless_held : (end : Option End) (next : State) → Held I askings next → Held I askings (unless_ended end next s)
  unless_held (Some end) next h = same
  unless_held None next h = h

  stopping_target : AtTarget I askings s.place (waiting_at Target s) (session_at Target s) true
  stopping_target = elim g.target [
    | inl live ↦ inl live
    | inr over ↦ inr (record { late = over.late; id = over.id; course = over.course; stopping = refl; fits = over.fits; waits = over.waits })
  ]

  stopped_held : (end : Option End) (new : State) (turn : Turn) → StopsAt end s new turn → Held I askings new
  stopped_held (Some end) new turn (is, _) = by_is new s is same
  stopped_held None new turn h =
      closes I askings (record s { is_stopping = true }) new turn (record { source = g.source; awaits = g.awaits; keeps = g.keeps; target = stopping_target }) h

  frame_held : (new : State) → new ≡ record s { passage = new.passage } → Held I askings new
  frame_held new is = by_is new (record s { passage = new.passage }) is (held I askings (record s { passage = new.passage }) (record { source = g.source; awaits = g.awaits; keeps = g.keeps; target = g.target }))

alive_good : (I : Bool → Type 0) (askings : List Asking) (taken now : ℕ) (s : State) → Good I askings s → Good I askings (with_alive taken now s)
alive_good I askings zero now s g = g
alive_good I askings (suc others) now s g = record { source = g.source; awaits = g.awaits; keeps = kept_sent (session_at Target s) s.target.keepalive now g.keeps; target = g.target }

left_good : (I : Bool → Type 0) (askings : List Asking) (frames now : ℕ) (s : State) → Good I askings s → Good I askings (after_sent frames now s)
left_good I askings frames now s g =
    alive_good I askings (min frames s.passage.account.unsent) now (with_fewer_waiting frames s) (record { source = g.source; awaits = g.awaits; keeps = g.keeps; target = g.target })

-- a reply comes
replied : (H I : Bool → Type 0) (more : (b : Bool) → H b → I b) (askings : List Asking) (side : Side) (reply : Reply) (facts : ReplyFacts) (now : ℕ) (old new : State) (turn : Turn) → Good H askings old → FitsStep old.place.step old.place.tracks old.place.kept
    → ((asked : Asked) → side ≡ Target → reply ≡ Of asked GoesOn → (b : Bool) → Hears I asked b) → IsReply (waiting_at side old) facts.number facts.status reply → Takes side reply facts now (answered_of side reply old) new turn → Held I askings new
replied H I more askings Source (Of asked verdict) facts now old new turn g fit heard is h =
    taken_source I askings (waiting_at Source old) asked verdict facts now old new turn (good_more H I more askings old g) refl is h
replied H I more askings Target (Of asked verdict) facts now old new turn g fit heard is h =
    taken_target H I more askings old new turn facts now g (waiting_at Target old) asked verdict refl fit is (λ goes. heard asked refl (ap (λ (v : Verdict). Of asked v) goes)) h
replied H I more askings Source Other facts now old new turn g fit heard is (same, _) = subst (λ (t : State). Held I askings t) (sym same) (held I askings old (good_more H I more askings old g))
replied H I more askings Target Other facts now old new turn g fit heard is (same, _) = subst (λ (t : State). Held I askings t) (sym same) (held I askings old (good_more H I more askings old g))

ticked : (I : Bool → Type 0) (askings : List Asking) (side : Side) (now : ℕ) (old new : State) (turn : Turn) → Good I askings old → Ticks side now old new turn → Held I askings new
ticked I askings Source now old new turn g (inl (asked, late, (overdue, lacks))) = late_source I askings (waiting_at Source old) asked late now old new turn g refl overdue lacks
ticked I askings Target now old new turn g (inl (asked, late, (overdue, lacks))) =
    late_target I askings old new turn now g (waiting_at Target old) asked late refl overdue lacks
ticked I askings side now old new turn g (inr (on_time, is, _)) = subst (λ (t : State). Held I askings t) (sym is) (held I askings old g)

module _ (before : List Event) (askings : List Asking) (old : State) (g : Good (past before) askings old) (fit : FitsStep old.place.step old.place.tracks old.place.kept) where
  -- what was answered still is
  on : (event : Event) → (IsSent event → ⊥) → Good (past (event ∷ before)) askings old
  on event none = good_more (past before) (past (event ∷ before)) (still event before none) askings old g

  none_sent : (event : Event) → ((asked : Asked) (number : ℕ) → event ≡ sends Target asked number → ⊥) → IsSent event → ⊥
  none_sent event none (asked, number, is) = none asked number is

  goes_on : (event : Event) (new : State) → old.end ≡ None → Goes event old new → Held (past (event ∷ before)) (asking_at event old ++ askings) new
  goes_on (sends Source asked number) new going (now, has_due, is_number, is) =
      let event = sends Source asked number in
      by_is (past (event ∷ before)) askings old (on event (none_sent event (λ a n h. cc))) new (asked_of Source asked now old) is
      (held (past (event ∷ before)) askings (asked_of Source asked now old) (sent_source (past (event ∷ before)) askings old now asked (on event (none_sent event (λ a n h. cc))) has_due))
  goes_on (sends Target asked number) new going (now, has_due, is_number, is) =
      let event = sends Target asked number in
      subst (λ (t : State). Held (past (event ∷ before)) (asking_of Target asked old ++ askings) t) (sym is)
      (held (past (event ∷ before)) (asking_of Target asked old ++ askings) (asked_of Target asked now old)
      (sent_target (past before) (past (event ∷ before)) (behind event before (takes Target (Of asks.SetUpTarget GoesOn))) askings old now asked g fit has_due))
  goes_on (runs_out side) new going (_, is) =
      let event = runs_out side in
      let now_good = on event (none_sent event (λ a n h. cc)) in
      by_is (past (event ∷ before)) askings old now_good new (with_end (ends.NumbersUsedUp side) old) is (end_held (past (event ∷ before)) askings old now_good (ends.NumbersUsedUp side))
  goes_on (takes side reply) new going (facts, now, turn, (_, is_reply, h)) =
      let event = takes side reply in
      replied (past before) (past (event ∷ before)) (still event before (none_sent event (λ a n h. cc))) askings side reply facts now old new turn g fit
      (λ asked at is. hears event before asked (cc)) is_reply h
  goes_on (is_described tracks) new going is =
      let event = is_described tracks in
      let now_good = on event (none_sent event (λ a n h. cc)) in
      by_is (past (event ∷ before)) askings old now_good new (unless_ended old.end (described_at old.awaits tracks old) old) is
      (unless_held (past (event ∷ before)) askings old now_good old.end (described_at old.awaits tracks old) (described_held (past (event ∷ before)) askings old now_good old.awaits tracks))
  goes_on is_undescribed new going is =
      let event = is_undescribed in
      let now_good = on event (none_sent event (λ a n h. cc)) in
      by_is (past (event ∷ before)) askings old now_good new (unless_ended old.end (bad_at old.awaits old) old) is
      (unless_held (past (event ∷ before)) askings old now_good old.end (bad_at old.awaits old) (bad_held (past (event ∷ before)) askings old now_good old.awaits))
  goes_on is_redirected new going (_, waiting, is) =
      let event = is_redirected in
      let now_good = on event (none_sent event (λ a n h. cc)) in
      by_is (past (event ∷ before)) askings old now_good new (unless_ended old.end (redirected_at old.awaits old) old) is
      (unless_held (past (event ∷ before)) askings old now_good old.end (redirected_at old.awaits old) (redirected_held (past (event ∷ before)) askings old now_good old.awaits refl))
  goes_on (is_answered has) new going is =
      let event = is_answered has in
      let now_good = on event (none_sent event (λ a n h. cc)) in
      by_is (past (event ∷ before)) askings old now_good new (unless_ended old.end (answered_at old.awaits has old) old) is
      (unless_held (past (event ∷ before)) askings old now_good old.end (answered_at old.awaits has old) (answered_held (past (event ∷ before)) askings old now_good old.awaits has refl))
  goes_on (is_ended end) new going is =
      let event = is_ended end in
      let now_good = on event (none_sent event (λ a n h. cc)) in
      by_is (past (event ∷ before)) askings old now_good new (unless_ended old.end (with_end end old) old) is
      (unless_held (past (event ∷ before)) askings old now_good old.end (with_end end old) (end_held (past (event ∷ before)) askings old now_good end))
  goes_on is_stopped new going (turn, h) =
      let event = is_stopped in stopped_held (past (event ∷ before)) askings old (on event (none_sent event (λ a n h. cc))) old.end new turn h
  goes_on frame_comes new going (is, same_map, _) =
      let event = frame_comes in frame_held (past (event ∷ before)) askings old (on event (none_sent event (λ a n h. cc))) new is
  goes_on (frames_leave frames) new going (now, is) =
      let event = frames_leave frames in
      let now_good = on event (none_sent event (λ a n h. cc)) in
      by_is (past (event ∷ before)) askings old now_good new (after_sent frames now old) is
      (held (past (event ∷ before)) askings (after_sent frames now old) (left_good (past (event ∷ before)) askings frames now old now_good))
  goes_on (ticks side) new going (now, turn, _, h) =
      let event = ticks side in ticked (past (event ∷ before)) askings side now old new turn (on event (none_sent event (λ a n h. cc))) h
  goes_on idles new going is =
      let event = idles in
      let now_good = on event (none_sent event (λ a n h. cc)) in
      by_is (past (event ∷ before)) askings old now_good new old is (same (past (event ∷ before)) askings old now_good)

-- an event of a client that has ended, or goes on
by_end_of : (end : Option End) (event : Event) (before : List Event) (askings : List Asking) (old new : State) → old.end ≡ end → FitsStep old.place.step old.place.tracks old.place.kept
    → Held (past before) askings old → Goes event old new → Held (past (event ∷ before)) (asking_at event old ++ askings) new
by_end_of (Some end) event before askings old new at fit h goes =
    let stays = end_stays event old new goes (ap (λ (e : Option End). is_some e) at) in
    record { order = at_rest event old new end goes at askings h.order; going = λ none. absurd (cc) }
by_end_of None event before askings old new at fit h goes = goes_on before askings old (h.going at) fit event new at goes

begins : (s : State) → s ≡ new_client → Held (past []) [] s
begins s is = subst (λ (t : State). Held (past []) [] t) (sym is) (held (past []) [] new_client (record {
  source = tt;
  awaits = tt;
  keeps = refl;
  target = inl (record { stage = Unasked; waits = refl; course = λ id fits. refl; opened = refl; heard = λ none. tt; begun = λ o e. absurd (cc) });
}))

pub always : (events : List Event) (askings : List Asking) (s : State) → HasAsked events askings s → Held (past events) askings s
always [] askings s (none, is) = subst (λ (xs : List Asking). Held (past []) xs s) (sym none) (begins s is)
always (event ∷ before) askings s (earlier, asked, h, goes, is) =
    let fits = (mapped_always before earlier (has_gone before asked earlier h)).fits in
    subst (λ (xs : List Asking). Held (past (event ∷ before)) xs s) (sym is)
    (by_end_of earlier.end event before asked earlier s refl fits.2 (always before asked earlier h) goes)

pub in_order : (events : List Event) (askings : List Asking) (s : State) → HasAsked events askings s → AreInOrder askings s
in_order events askings s h = (always events askings s h).order

pub ready : (asked : Asked) (number : ℕ) (before : List Event) (s : State) → HasGone (sends Target asked number ∷ before) s → IsReadyFor asked before
ready asked number before s (earlier, h, (now, has_due, is_number, is)) = by asked has_due where
  was : (askings : List Asking) × HasAsked before askings earlier
  was = has_asked before earlier h

  good : (a : Asked) → due Target earlier now ≡ Some a → Good (past before) was.0 earlier
  good a is_due = (always before was.0 earlier was.1).going (sends_before_end Target a (number_at Target earlier) earlier (asked_of Target a now earlier) (now, is_due, refl, refl))

  by : (a : Asked) → due Target earlier now ≡ Some a → IsReadyFor a before
  by asks.Options is_due = tt
  by asks.Describe is_due = tt
  by asks.SetUp is_due = tt
  by asks.Announce is_due = tt
  by asks.SetUpTarget is_due = sent_ready (past before) was.0 earlier now asks.SetUpTarget (good asks.SetUpTarget is_due) tt is_due
  by asks.Record is_due = sent_ready (past before) was.0 earlier now asks.Record (good asks.Record is_due) tt is_due
  by asks.Play is_due = tt
  by (asks.KeepAlive side) is_due =
      recorded_before before earlier h (kept_recording (past before) was.0 earlier now (asks.KeepAlive side) (good (asks.KeepAlive side) is_due) side refl is_due)
  by (asks.TearDown side) is_due = teardown_ready (past before) was.0 earlier now (asks.TearDown side) (good (asks.TearDown side) is_due) side refl is_due
