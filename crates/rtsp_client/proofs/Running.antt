-- What holds of every run of a client.
use Rattle.std.proofs.Common.{◌≡◌, refl, sym, subst, ℕ, arith, ◌⊎◌, inl, inr, Bool, true, false, List, [], ◌∷◌, Option, Some, None, IsSome, Contains, ◌≤◌, ◌<◌, if◌then◌else◌}
use Rattle.std.proofs.lemmas.List.{length-replicate}
use Rattle.transport_header.specs.declared.spec.ChannelPair.{ChannelPair}
use Rattle.rtsp_client.specs.Clients.{State, asked_of, connection_of, due_after_reply, due_before_end, due_if_free, due_or_teardown, new_client, number_at, session_at, source_due, step_or_keepalive, teardown_due, waiting_at}
use Rattle.rtsp_client.specs.Keepalives.{is_due}
use Rattle.rtsp_client.specs.Mapped.{AreGiven}
use Rattle.rtsp_client.specs.Runs.{AllBelow, Event, Goes, HasGone, IsBelow, IsNewConnection, sends, runs_out, takes, is_described, is_undescribed, is_redirected, is_answered, is_ended, is_stopped, frame_comes, frames_leave, ticks, idles}
use Rattle.rtsp_client.specs.Steps.{IsSetUp, asked_at, asked_in, is_recording}
use Rattle.rtsp_client.specs.declared.asked.Asked.{Asked}
use Rattle.rtsp_client.specs.declared.asked.Asked.TheVariants as asks
use Rattle.rtsp_client.specs.declared.asked.Side.{Side}
use Rattle.rtsp_client.specs.declared.asked.Side.TheVariants.{Source, Target}
use Rattle.rtsp_client.specs.declared.awaits.Awaits.{Awaits}
use Rattle.rtsp_client.specs.declared.awaits.Awaits.TheVariants as waits
use Rattle.rtsp_client.specs.declared.end.End.{End}
use Rattle.rtsp_client.specs.declared.requests.Outstanding.{Outstanding}
use Rattle.rtsp_client.specs.declared.requests.Reply.TheVariants.{Of}
use Rattle.rtsp_client.specs.declared.step.Step.{Step}
use Rattle.rtsp_client.specs.declared.step.Step.TheVariants as steps
use Rattle.rtsp_client.specs.declared.verdict.Verdict.TheVariants.{GoesOn}
use Rattle.rtsp_client.proofs.Coming.{behind}
use Rattle.rtsp_client.proofs.Events.{moves}
use Rattle.rtsp_client.proofs.Mapping.{IsMapped, all_given, mapped_start}
use Rattle.rtsp_client.proofs.Moves.{asked_somewhere, IsDescription, IsFor, IsOfSession, IsRecorded, Moved}

-- why a request is sent
abbrev IsCause : Asked → State → Type 0
IsCause asked s = (asked_in s.place.step ≡ Some asked) ⊎ (IsFor asked s.awaits ⊎ IsOfSession asked)

of_keepalive : (test : Bool) (side : Side) (asked : Asked) → (if test then Some (asks.KeepAlive side) else None) ≡ Some asked → IsOfSession asked
of_keepalive true side asked h = let is : asks.KeepAlive side ≡ asked = cc in subst IsOfSession is tt
of_keepalive false side asked h = absurd (cc)

of_step : (first : Option Asked) (side : Side) (s : State) (now : ℕ) (asked : Asked) → (first ≡ Some asked → asked_in s.place.step ≡ Some asked)
    → step_or_keepalive first side s now ≡ Some asked → IsCause asked s
of_step (Some other) side s now asked of h = inl (of h)
of_step None side s now asked of h = inr (inr (of_keepalive (is_due (connection_of side s).keepalive now) side asked h))

of_awaits : (awaits : Awaits) (s : State) (now : ℕ) (asked : Asked) → s.awaits ≡ awaits → source_due awaits s now ≡ Some asked → IsCause asked s
of_awaits waits.Nothing s now asked is h = of_step (asked_at Source s.place.step) Source s now asked (asked_somewhere Source s.place.step asked) h
of_awaits waits.Description s now asked is h = absurd (cc)
of_awaits waits.Connection s now asked is h = absurd (cc)
of_awaits (waits.Password other) s now asked is h = absurd (cc)
of_awaits (waits.Again other) s now asked is h =
    let same : other ≡ asked = cc in inr (inl (subst (λ (w : Awaits). IsFor asked w) (sym is) same))

of_side : (side : Side) (s : State) (now : ℕ) (asked : Asked) → due_if_free side s now ≡ Some asked → IsCause asked s
of_side Source s now asked h = of_awaits s.awaits s now asked refl h
of_side Target s now asked h = of_step (asked_at Target s.place.step) Target s now asked (asked_somewhere Target s.place.step asked) h

of_session : (session : Option (List ℕ)) (side : Side) (asked : Asked) → teardown_due session side ≡ Some asked → IsOfSession asked
of_session (Some id) side asked h = let is : asks.TearDown side ≡ asked = cc in subst IsOfSession is tt
of_session None side asked h = absurd (cc)

of_stopping : (stops : Bool) (side : Side) (s : State) (now : ℕ) (asked : Asked) → due_or_teardown stops side s now ≡ Some asked → IsCause asked s
of_stopping true side s now asked h = inr (inr (of_session (session_at side s) side asked h))
of_stopping false side s now asked h = of_side side s now asked h

of_waiting : (waiting : Option Outstanding) (side : Side) (s : State) (now : ℕ) (asked : Asked) → due_after_reply waiting side s now ≡ Some asked → IsCause asked s
of_waiting (Some other) side s now asked h = absurd (cc)
of_waiting None side s now asked h = of_stopping s.is_stopping side s now asked h

of_due : (end : Option End) (side : Side) (s : State) (now : ℕ) (asked : Asked) → due_before_end end side s now ≡ Some asked → IsCause asked s
of_due (Some end) side s now asked h = absurd (cc)
of_due None side s now asked h = of_waiting (waiting_at side s) side s now asked h

-- it hasn't ended when it sends
not_ended : (end : Option End) (side : Side) (s : State) (now : ℕ) (asked : Asked) → due_before_end end side s now ≡ Some asked → end ≡ None
not_ended (Some end) side s now asked h = absurd (cc)
not_ended None side s now asked h = refl

-- RECORD's success came
abbrev pub HasRecorded : List Event → Type 0
HasRecorded events = Contains events (takes Target (Of asks.Record GoesOn))

-- the description came
abbrev pub HasDescription : List Event → Type 0
HasDescription events = (tracks : ℕ) × Contains events (is_described tracks)

more_recorded : (event : Event) (events : List Event) → HasRecorded events → HasRecorded (event ∷ events)
more_recorded event events at = behind event events (takes Target (Of asks.Record GoesOn)) at

more_described : (event : Event) (events : List Event) → HasDescription events → HasDescription (event ∷ events)
more_described event events (tracks, at) = (tracks, behind event events (is_described tracks) at)

first_recorded : (event : Event) (events : List Event) → IsRecorded event → HasRecorded (event ∷ events)
first_recorded event events is = (0, omega arith, is)

first_described : (event : Event) (events : List Event) → IsDescription event → HasDescription (event ∷ events)
first_described event events (tracks, is) = (tracks, (0, omega arith, is))

record_at_play : (step : Step) → asked_in step ≡ Some asks.Play → is_recording step ≡ true
record_at_play steps.Options h = absurd (cc)
record_at_play steps.Describe h = absurd (cc)
record_at_play (steps.SetUp track) h = absurd (cc)
record_at_play steps.Announce h = absurd (cc)
record_at_play (steps.SetUpTarget track) h = absurd (cc)
record_at_play steps.Record h = absurd (cc)
record_at_play steps.Play h = refl
record_at_play steps.Passing h = absurd (cc)

track_at_setup : (step : Step) → asked_in step ≡ Some asks.SetUp → IsSetUp step
track_at_setup steps.Options h = absurd (cc)
track_at_setup steps.Describe h = absurd (cc)
track_at_setup (steps.SetUp track) h = tt
track_at_setup steps.Announce h = absurd (cc)
track_at_setup (steps.SetUpTarget track) h = absurd (cc)
track_at_setup steps.Record h = absurd (cc)
track_at_setup steps.Play h = absurd (cc)
track_at_setup steps.Passing h = absurd (cc)

-- what is so of a client whose target records, or that is asked for a password for PLAY
record Recorded (events : List Event) (s : State) : Type 0 where
  step : is_recording s.place.step ≡ true → HasRecorded events
  password : IsFor asks.Play s.awaits → HasRecorded events

-- what is so of one that sets up a track, or is asked for a password for that
record Described (events : List Event) (s : State) : Type 0 where
  step : IsSetUp s.place.step → HasDescription events
  password : IsFor asks.SetUp s.awaits → HasDescription events

recorded_step : (event : Event) (before : List Event) (old new : State) → Moved event old new → Recorded before old → is_recording new.place.step ≡ true → HasRecorded (event ∷ before)
recorded_step event before old new m was h =
    elim (m.records h) [ inl early ↦ more_recorded event before (was.step early) | inr now ↦ first_recorded event before now ]

recorded_password : (event : Event) (before : List Event) (old new : State) → Moved event old new → Recorded before old → IsFor asks.Play new.awaits → HasRecorded (event ∷ before)
recorded_password event before old new m was h =
    elim (m.awaits asks.Play h) [
      | inl early ↦ more_recorded event before (was.password early)
      | inr (inl other) ↦ absurd other
      | inr (inr at) ↦ more_recorded event before (was.step (record_at_play old.place.step at))
    ]

recorded_always : (events : List Event) (s : State) → HasGone events s → Recorded events s
recorded_always [] s is = record {
  step = λ h. absurd (of_none (subst (λ (t : State). is_recording t.place.step ≡ true) is h));
  password = λ h. absurd (subst (λ (t : State). IsFor asks.Play t.awaits) is h);
} where
  of_none : false ≡ true → ⊥
  of_none h = cc
recorded_always (event ∷ before) s (earlier, h, goes) =
    let m = moves event earlier s goes in
    let was = recorded_always before earlier h in
    record { step = recorded_step event before earlier s m was; password = recorded_password event before earlier s m was }

pub recorded_before : (events : List Event) (s : State) → HasGone events s → is_recording s.place.step ≡ true → HasRecorded events
recorded_before events s h = (recorded_always events s h).step

described_step : (event : Event) (before : List Event) (old new : State) → Moved event old new → Described before old → IsSetUp new.place.step → HasDescription (event ∷ before)
described_step event before old new m was h =
    elim (m.sets_up h) [ inl early ↦ more_described event before (was.step early) | inr now ↦ first_described event before now ]

described_password : (event : Event) (before : List Event) (old new : State) → Moved event old new → Described before old → IsFor asks.SetUp new.awaits → HasDescription (event ∷ before)
described_password event before old new m was h =
    elim (m.awaits asks.SetUp h) [
      | inl early ↦ more_described event before (was.password early)
      | inr (inl other) ↦ absurd other
      | inr (inr at) ↦ more_described event before (was.step (track_at_setup old.place.step at))
    ]

described_always : (events : List Event) (s : State) → HasGone events s → Described events s
described_always [] s is = record {
  step = λ h. absurd (subst (λ (t : State). IsSetUp t.place.step) is h);
  password = λ h. absurd (subst (λ (t : State). IsFor asks.SetUp t.awaits) is h);
}
described_always (event ∷ before) s (earlier, h, goes) =
    let m = moves event earlier s goes in
    let was = described_always before earlier h in
    record { step = described_step event before earlier s m was; password = described_password event before earlier s m was }

pub played : (before : List Event) (side : Side) (number : ℕ) (s : State) → HasGone (sends side asks.Play number ∷ before) s → HasRecorded before
played before side number s (earlier, h, (now, has_due, is_number, is)) =
    let was = recorded_always before earlier h in
    elim (of_due earlier.end side earlier now asks.Play has_due) [
      | inl at ↦ was.step (record_at_play earlier.place.step at)
      | inr (inl password) ↦ was.password password
      | inr (inr other) ↦ absurd other
    ]

pub set_up : (before : List Event) (side : Side) (number : ℕ) (s : State) → HasGone (sends side asks.SetUp number ∷ before) s → HasDescription before
set_up before side number s (earlier, h, (now, has_due, is_number, is)) =
    let was = described_always before earlier h in
    elim (of_due earlier.end side earlier now asks.SetUp has_due) [
      | inl at ↦ was.step (track_at_setup earlier.place.step at)
      | inr (inl password) ↦ was.password password
      | inr (inr other) ↦ absurd other
    ]

-- an end stays, and nothing is sent after it
pub end_stays : (event : Event) (old new : State) → Goes event old new → IsSome old.end → new.end ≡ old.end
end_stays event old new goes ended = (moves event old new goes).end ended

pub sends_before_end : (side : Side) (asked : Asked) (number : ℕ) (old new : State) → Goes (sends side asked number) old new → old.end ≡ None
sends_before_end side asked number old new (now, has_due, is_number, is) = not_ended old.end side old now asked has_due

-- numbers
below_more : (side : Side) (event : Event) (small great : ℕ) → small ≤ great → IsBelow side event small → IsBelow side event great
below_more side (sends other asked sent) small great le h = λ same. omega (arith, le, h same)
below_more side (runs_out other) small great le h = tt
below_more side (takes other reply) small great le h = tt
below_more side (is_described tracks) small great le h = tt
below_more side is_undescribed small great le h = tt
below_more side is_redirected small great le h = tt
below_more side (is_answered has) small great le h = tt
below_more side (is_ended end) small great le h = tt
below_more side is_stopped small great le h = tt
below_more side frame_comes small great le h = tt
below_more side (frames_leave frames) small great le h = tt
below_more side (ticks other) small great le h = tt
below_more side idles small great le h = tt

all_below_more : (side : Side) (events : List Event) (small great : ℕ) → small ≤ great → AllBelow side events small → AllBelow side events great
all_below_more side [] small great le h = tt
all_below_more side (event ∷ before) small great le (first, rest) =
    (below_more side event small great le first, λ same. all_below_more side before small great le (rest same))

grows : (side : Side) (event : Event) (old new : State) → Moved event old new → ¬ IsNewConnection side event → number_at side old ≤ number_at side new
grows Source event old new m same = m.source same
grows Target event old new m same = m.target

above_sent : (side other : Side) (asked : Asked) (now : ℕ) (s : State) → other ≡ side → number_at other s < number_at side (asked_of other asked now s)
above_sent Source Source asked now s is = omega arith
above_sent Source Target asked now s is = absurd (cc)
above_sent Target Source asked now s is = absurd (cc)
above_sent Target Target asked now s is = omega arith

below_now : (side : Side) (event : Event) (old new : State) → Goes event old new → IsBelow side event (number_at side new)
below_now side (sends other asked sent) old new (now, has_due, is_number, is) = λ same.
    subst (λ (n : ℕ). n < number_at side new) (sym is_number)
    (subst (λ (s : State). number_at other old < number_at side s) (sym is) (above_sent side other asked now old same))
below_now side (runs_out other) old new goes = tt
below_now side (takes other reply) old new goes = tt
below_now side (is_described tracks) old new goes = tt
below_now side is_undescribed old new goes = tt
below_now side is_redirected old new goes = tt
below_now side (is_answered has) old new goes = tt
below_now side (is_ended end) old new goes = tt
below_now side is_stopped old new goes = tt
below_now side frame_comes old new goes = tt
below_now side (frames_leave frames) old new goes = tt
below_now side (ticks other) old new goes = tt
below_now side idles old new goes = tt

all_below : (side : Side) (events : List Event) (s : State) → HasGone events s → AllBelow side events (number_at side s)
all_below side [] s is = tt
all_below side (event ∷ before) s (earlier, h, goes) = (
  below_now side event earlier s goes,
  λ same. all_below_more side before (number_at side earlier) (number_at side s) (grows side event earlier s (moves event earlier s goes) same) (all_below side before earlier h),
)

pub numbers_rise : (side : Side) (asked : Asked) (number : ℕ) (before : List Event) (s : State) → HasGone (sends side asked number ∷ before) s → AllBelow side before number
numbers_rise side asked number before s (earlier, h, (now, has_due, is_number, is)) =
    subst (λ (n : ℕ). AllBelow side before n) (sym is_number) (all_below side before earlier h)

-- channels
pub mapped_always : (events : List Event) (s : State) → HasGone events s → IsMapped s.place s.passage.map
mapped_always [] s is =
    let none : Option ChannelPair = None in
    subst (λ (t : State). IsMapped t.place t.passage.map) (sym is) (mapped_start new_client.passage.map (length-replicate 16 none) (length-replicate 16 none))
mapped_always (event ∷ before) s (earlier, h, goes) = (moves event earlier s goes).mapped (mapped_always before earlier h)

pub all_mapped : (events : List Event) (s : State) → HasGone events s → is_recording s.place.step ≡ true
    → AreGiven s.passage.map.source s.place.kept × AreGiven s.passage.map.target s.place.kept
all_mapped events s h records =
    let m = mapped_always events s h in
    (m.source, all_given s.place.step s.place s.passage.map refl records m)
