-- What a client sends leaves its requests to the target in order.
use Rattle.std.specs.Prelude.{option_map}
use Rattle.std.proofs.Common.{◌≡◌, refl, sym, ap, subst, ℕ, zero, suc, arith, inl, inr, Bool, true, false, if◌then◌else◌, List, ◌∷◌, ◌++◌, Option, Some, None, IsSome, ◌∙◌}
use Rattle.rtsp_client.specs.Clients.{State, asked_of, asked_pair, due, due_after_reply, due_before_end, due_or_teardown, keepalive_method, method_of, session_at, source_due, step_or_keepalive, teardown_due, waiting_at}
use Rattle.rtsp_client.specs.Keepalives.{is_due, sent_at}
use Rattle.rtsp_client.specs.Steps.{FitsStep, asked_at, is_recording, track_in}
use Rattle.rtsp_client.specs.Table.{side_of}
use Rattle.rtsp_client.specs.TargetCourse.{Asking, Asks, Ended, IsAsking, IsCourse, Recording, Stage, ask_of, asking_of, session_for}
use Rattle.rtsp_client.specs.declared.ask.Method.TheVariants as methods
use Rattle.rtsp_client.specs.declared.asked.Asked.{Asked}
use Rattle.rtsp_client.specs.declared.asked.Asked.TheVariants as asks
use Rattle.rtsp_client.specs.declared.asked.Side.{Side}
use Rattle.rtsp_client.specs.declared.asked.Side.TheVariants.{Source, Target}
use Rattle.rtsp_client.specs.declared.awaits.Awaits.{Awaits}
use Rattle.rtsp_client.specs.declared.awaits.Awaits.TheVariants as waits
use Rattle.rtsp_client.specs.declared.end.End.{End}
use Rattle.rtsp_client.specs.declared.keepalive.Keepalive.{Keepalive}
use Rattle.rtsp_client.specs.declared.requests.Outstanding.{Outstanding}
use Rattle.rtsp_client.specs.declared.step.Step.{Step}
use Rattle.rtsp_client.specs.declared.step.Step.TheVariants as steps
use Rattle.rtsp_client.proofs.TargetStages.{AtTarget, AwaitsAt, Fits, Good, IsEarly, Keeps, Live, OpenAt, Over, WaitsAt, stage_after, stage_at}

-- what is due: the client hasn't ended, and no request of the side waits
at_going : (end : Option End) (side : Side) (s : State) (now : ℕ) (asked : Asked) → due_before_end end side s now ≡ Some asked → due_after_reply (waiting_at side s) side s now ≡ Some asked
at_going (Some end) side s now asked h = absurd (cc)
at_going None side s now asked h = h

when_free : (waiting : Option Outstanding) (side : Side) (s : State) (now : ℕ) (asked : Asked) → due_after_reply waiting side s now ≡ Some asked
    → (waiting ≡ None) × (due_or_teardown s.is_stopping side s now ≡ Some asked)
when_free (Some w) side s now asked h = absurd (cc)
when_free None side s now asked h = (refl, h)

pub due_parts : (side : Side) (s : State) (now : ℕ) (asked : Asked) → due side s now ≡ Some asked
    → (waiting_at side s ≡ None) × (due_or_teardown s.is_stopping side s now ≡ Some asked)
due_parts side s now asked h = when_free (waiting_at side s) side s now asked (at_going s.end side s now asked h)

-- what is sent to the source
source_step : (step : Step) (asked : Asked) → asked_at Source step ≡ Some asked → side_of asked ≡ Source
source_step steps.Options asked h = let is : asks.Options ≡ asked = cc in subst (λ (a : Asked). side_of a ≡ Source) is refl
source_step steps.Describe asked h = let is : asks.Describe ≡ asked = cc in subst (λ (a : Asked). side_of a ≡ Source) is refl
source_step (steps.SetUp track) asked h = let is : asks.SetUp ≡ asked = cc in subst (λ (a : Asked). side_of a ≡ Source) is refl
source_step steps.Announce asked h = absurd (cc)
source_step (steps.SetUpTarget track) asked h = absurd (cc)
source_step steps.Record asked h = absurd (cc)
source_step steps.Play asked h = let is : asks.Play ≡ asked = cc in subst (λ (a : Asked). side_of a ≡ Source) is refl
source_step steps.Passing asked h = absurd (cc)

source_kept : (test : Bool) (asked : Asked) → (if test then Some (asks.KeepAlive Source) else None) ≡ Some asked → side_of asked ≡ Source
source_kept true asked h = let is : asks.KeepAlive Source ≡ asked = cc in subst (λ (a : Asked). side_of a ≡ Source) is refl
source_kept false asked h = absurd (cc)

source_next : (first : Option Asked) (s : State) (now : ℕ) (asked : Asked) → (first ≡ Some asked → side_of asked ≡ Source)
    → step_or_keepalive first Source s now ≡ Some asked → side_of asked ≡ Source
source_next (Some other) s now asked of h = of h
source_next None s now asked of h = source_kept (is_due s.source.keepalive now) asked h

source_free : (awaits : Awaits) (s : State) (now : ℕ) (asked : Asked) → AwaitsAt awaits s.place.step (waiting_at Source s) → source_due awaits s now ≡ Some asked → side_of asked ≡ Source
source_free waits.Nothing s now asked fits h = source_next (asked_at Source s.place.step) s now asked (source_step s.place.step asked) h
source_free waits.Description s now asked fits h = absurd (cc)
source_free waits.Connection s now asked fits h = absurd (cc)
source_free (waits.Password other) s now asked fits h = absurd (cc)
source_free (waits.Again other) s now asked fits h = let is : other ≡ asked = cc in subst (λ (a : Asked). side_of a ≡ Source) is fits

source_teardown : (session : Option (List ℕ)) (asked : Asked) → teardown_due session Source ≡ Some asked → side_of asked ≡ Source
source_teardown (Some id) asked h = let is : asks.TearDown Source ≡ asked = cc in subst (λ (a : Asked). side_of a ≡ Source) is refl
source_teardown None asked h = absurd (cc)

source_side : (stops : Bool) (s : State) (now : ℕ) (asked : Asked) → AwaitsAt s.awaits s.place.step (waiting_at Source s) → due_or_teardown stops Source s now ≡ Some asked → side_of asked ≡ Source
source_side true s now asked fits h = source_teardown (session_at Source s) asked h
source_side false s now asked fits h = source_free s.awaits s now asked fits h

pub sent_source : (H : Bool → Type 0) (askings : List Asking) (s : State) (now : ℕ) (asked : Asked) → Good H askings s → due Source s now ≡ Some asked → Good H askings (asked_of Source asked now s)
sent_source H askings s now asked g h = record {
  source = source_side s.is_stopping s now asked g.awaits (due_parts Source s now asked h).1;
  awaits = tt;
  keeps = g.keeps;
  target = g.target;
}

-- the identifier of an open session
some_is : (session : Option (List ℕ)) (id : List ℕ) → IsSome session → Fits session id → session ≡ Some id
some_is None id opens fits = absurd (cc)
some_is (Some other) id opens fits = ap (λ (x : List ℕ). Some x) (fits other refl)

-- TEARDOWN ends the course where a session is open
teardown_asks : (step : Step) (tracks kept : ℕ) (session : Option (List ℕ)) (id : List ℕ) (a : Asking) → FitsStep step tracks kept → OpenAt step session → session ≡ Some id
    → IsAsking (asks.TearDown Target) methods.TearDown (Some id) a → (Asks kept id (stage_at step kept) a Ended)
teardown_asks steps.Options tracks kept session id a fits opened is asking = absurd (cc)
teardown_asks steps.Describe tracks kept session id a fits opened is asking = absurd (cc)
teardown_asks (steps.SetUp track) tracks kept session id a fits opened is asking = absurd (cc)
teardown_asks steps.Announce tracks kept session id a fits opened is asking = absurd (cc)
teardown_asks (steps.SetUpTarget zero) tracks kept session id a fits opened is asking = absurd (cc)
teardown_asks (steps.SetUpTarget (suc before)) tracks kept session id a fits opened is asking = inr (inr (asking, omega arith, refl))
teardown_asks steps.Record tracks kept session id a fits opened is asking = inr (inr (asking, fits, refl))
teardown_asks steps.Play tracks kept session id a fits opened is asking = inr (asking, refl)
teardown_asks steps.Passing tracks kept session id a fits opened is asking = inr (asking, refl)

-- where a session is open, something was asked of the target
open_late : (step : Step) (session : Option (List ℕ)) (id : List ℕ) → OpenAt step session → session ≡ Some id → IsEarly step → ⊥
open_late steps.Options session id opened is early = cc
open_late steps.Describe session id opened is early = cc
open_late (steps.SetUp track) session id opened is early = cc
open_late steps.Announce session id opened is early = early
open_late (steps.SetUpTarget track) session id opened is early = early
open_late steps.Record session id opened is early = early
open_late steps.Play session id opened is early = early
open_late steps.Passing session id opened is early = early

-- keepalives are sent while the target records
pub open_recording : (step : Step) (session : Option (List ℕ)) (id : List ℕ) → OpenAt step session → session ≡ Some id → asked_at Target step ≡ None → is_recording step ≡ true
open_recording steps.Options session id opened is at = absurd (cc)
open_recording steps.Describe session id opened is at = absurd (cc)
open_recording (steps.SetUp track) session id opened is at = absurd (cc)
open_recording steps.Announce session id opened is at = absurd (cc)
open_recording (steps.SetUpTarget track) session id opened is at = absurd (cc)
open_recording steps.Record session id opened is at = absurd (cc)
open_recording steps.Play session id opened is at = refl
open_recording steps.Passing session id opened is at = refl

pub recording_stage : (step : Step) (kept : ℕ) → is_recording step ≡ true → stage_at step kept ≡ Recording
recording_stage steps.Options kept h = absurd (cc)
recording_stage steps.Describe kept h = absurd (cc)
recording_stage (steps.SetUp track) kept h = absurd (cc)
recording_stage steps.Announce kept h = absurd (cc)
recording_stage (steps.SetUpTarget track) kept h = absurd (cc)
recording_stage steps.Record kept h = absurd (cc)
recording_stage steps.Play kept h = refl
recording_stage steps.Passing kept h = refl

pub kept_sent : (session : Option (List ℕ)) (keepalive : Option Keepalive) (now : ℕ) → Keeps session keepalive → Keeps session (option_map (sent_at now) keepalive)
kept_sent None keepalive now h = ap (λ (k : Option Keepalive). option_map (sent_at now) k) h
kept_sent (Some id) None now h = h
kept_sent (Some id) (Some keepalive) now h = h

-- the request that is sent to the target in a state
abbrev asking_now : State → Asked → Asking
asking_now s asked = record { ask = ask_of Target asked s; session = session_at Target s }

-- the Session header of SETUP of a track
set_up_session : (track : ℕ) (session : Option (List ℕ)) (id : List ℕ) → OpenAt (steps.SetUpTarget track) session → Fits session id → session ≡ session_for id track
set_up_session zero session id opened fits = opened
set_up_session (suc before) session id opened fits = some_is session id opened fits

-- the step's request goes on with the course
step_asks : (step : Step) (s : State) (asked : Asked) (id : List ℕ) → s.place.step ≡ step → asked_at Target step ≡ Some asked → FitsStep step s.place.tracks s.place.kept
    → OpenAt step (session_at Target s) → Fits (session_at Target s) id → Asks s.place.kept id (stage_at step s.place.kept) (asking_now s asked) (stage_after step s.place.kept)
step_asks steps.Options s asked id is at fit opened fits = absurd (cc)
step_asks steps.Describe s asked id is at fit opened fits = absurd (cc)
step_asks (steps.SetUp track) s asked id is at fit opened fits = absurd (cc)
step_asks steps.Announce s asked id is at fit opened fits =
    let same : asks.Announce ≡ asked = cc in
    (record { asked_is = sym same; method_is = ap (λ (a : Asked). method_of a s) (sym same); session_is = opened }, refl)
step_asks (steps.SetUpTarget track) s asked id is at fit opened fits =
    let same : asks.SetUpTarget ≡ asked = cc in
    inl (
      record {
        asked_is = sym same;
        method_is = ap (λ (a : Asked). method_of a s) (sym same) ∙ ap (λ (st : Step). methods.SetUp (track_in st) (asked_pair (track_in st))) is;
        session_is = set_up_session track (session_at Target s) id opened fits;
      },
      fit,
      refl,
    )
step_asks steps.Record s asked id is at fit opened fits =
    let same : asks.Record ≡ asked = cc in
    inr (inl (record { asked_is = sym same; method_is = ap (λ (a : Asked). method_of a s) (sym same); session_is = some_is (session_at Target s) id opened fits }, fit, refl, refl))
step_asks steps.Play s asked id is at fit opened fits = absurd (cc)
step_asks steps.Passing s asked id is at fit opened fits = absurd (cc)

-- a request that keeps the session alive
pub kept_due : (test : Bool) (asked : Asked) → (if test then Some (asks.KeepAlive Target) else None) ≡ Some asked → (test ≡ true) × (asked ≡ asks.KeepAlive Target)
kept_due true asked h = (refl, cc)
kept_due false asked h = absurd (cc)

pub kept_open : (session : Option (List ℕ)) (keepalive : Option Keepalive) (now : ℕ) → Keeps session keepalive → is_due keepalive now ≡ true
    → (id : List ℕ) × (session ≡ Some id) × (keepalive_method keepalive ≡ methods.Options)
kept_open None keepalive now keeps h = let none : false ≡ true = subst (λ (k : Option Keepalive). is_due k now ≡ true) keeps h in absurd (cc)
kept_open (Some id) keepalive now keeps h = (id, refl, keeps)

module _ (H I : Bool → Type 0) (more : H false → I false) (askings : List Asking) (s : State) (now : ℕ) (asked : Asked) (g : Good H askings s) (fit : FitsStep s.place.step s.place.tracks s.place.kept) (free : waiting_at Target s ≡ None) where
  abbrev next : State
  next = asked_of Target asked now s

  good_next : AtTarget I (asking_now s asked ∷ askings) s.place (waiting_at Target next) (session_at Target s) s.is_stopping → Good I (asking_now s asked ∷ askings) next
  good_next target = record { source = g.source; awaits = g.awaits; keeps = kept_sent (session_at Target s) s.target.keepalive now g.keeps; target = target }

  stage_free : (live : Live H askings s.place (waiting_at Target s) (session_at Target s)) → live.stage ≡ stage_at s.place.step s.place.kept
  stage_free live = subst (λ (w : Option Outstanding). WaitsAt s.place.step s.place.kept w live.stage) free live.waits

  course_free : (live : Live H askings s.place (waiting_at Target s) (session_at Target s)) (id : List ℕ) → Fits (session_at Target s) id → IsCourse s.place.kept id askings (stage_at s.place.step s.place.kept)
  course_free live id fits = subst (λ (stage : Stage). IsCourse s.place.kept id askings stage) (stage_free live) (live.course id fits)

  -- TEARDOWN
  teardown_over : (session : Option (List ℕ)) → session_at Target s ≡ session → s.is_stopping ≡ true → teardown_due session Target ≡ Some asked
      → Over (asking_now s asked ∷ askings) s.place (waiting_at Target next) (session_at Target s) s.is_stopping
  teardown_over None is stops h = absurd (cc)
  teardown_over (Some id) is stops h = elim g.target [
    | inl live ↦ record {
      late = open_late s.place.step (session_at Target s) id live.opened is;
      id = id;
      course = (
        stage_at s.place.step s.place.kept,
        teardown_asks s.place.step s.place.tracks s.place.kept (session_at Target s) id (asking_now s asked) fit live.opened is
            (record { asked_is = sym same; method_is = ap (λ (a : Asked). method_of a s) (sym same); session_is = is }),
        course_free live id fits,
      );
      stopping = stops;
      fits = fits;
      waits = inl (record { asked = asked; number = s.target.requests.next; sent = now }, refl, sym same);
    }
    | inr over ↦ absurd (elim over.waits [ inl (w, has, td) ↦ (let both = free in cc) | inr (none, closed) ↦ cc ])
  ]
    where
      same : asks.TearDown Target ≡ asked
      same = cc

      fits : Fits (session_at Target s) id
      fits o e = cc

  -- the step's request, or a keepalive
  live_next : (first : Option Asked) → asked_at Target s.place.step ≡ first → Live H askings s.place (waiting_at Target s) (session_at Target s)
      → step_or_keepalive first Target s now ≡ Some asked → Live I (asking_now s asked ∷ askings) s.place (waiting_at Target next) (session_at Target s)
  live_next (Some other) at live h = record {
    stage = stage_after s.place.step s.place.kept;
    waits = inl (at ∙ h, refl);
    course = λ id fits. (stage_at s.place.step s.place.kept, step_asks s.place.step s asked id refl (at ∙ h) fit live.opened fits, course_free live id fits);
    opened = live.opened;
    heard = λ none. absurd (cc);
    begun = λ o e. more (live.begun o e);
  }
  live_next None at live h =
      let due = kept_due (is_due s.target.keepalive now) asked h in
      let opens = kept_open (session_at Target s) s.target.keepalive now g.keeps due.0 in
      let records = open_recording s.place.step (session_at Target s) opens.0 live.opened opens.1 at in
      let staged = recording_stage s.place.step s.place.kept records in
      record {
        stage = Recording;
        waits = inr (due.1, records, refl);
        course = λ id fits. (
          Recording,
          inl (
            record {
              asked_is = due.1;
              method_is = ap (λ (a : Asked). method_of a s) due.1 ∙ opens.2;
              session_is = opens.1 ∙ ap (λ (x : List ℕ). Some x) (fits opens.0 opens.1);
            },
            refl,
          ),
          subst (λ (stage : Stage). IsCourse s.place.kept id askings stage) staged (course_free live id fits),
        );
        opened = live.opened;
        heard = λ none. absurd (cc);
        begun = λ o e. more (live.begun o e);
      }

  sent_by : (stops : Bool) → s.is_stopping ≡ stops → due_or_teardown stops Target s now ≡ Some asked → Good I (asking_now s asked ∷ askings) next
  sent_by true is h = good_next (inr (teardown_over (session_at Target s) refl is h))
  sent_by false is h = elim g.target [
    | inl live ↦ good_next (inl (live_next (asked_at Target s.place.step) refl live h))
    | inr over ↦ (let stops = over.stopping in absurd (cc))
  ]

pub sent_target : (H I : Bool → Type 0) (more : H false → I false) (askings : List Asking) (s : State) (now : ℕ) (asked : Asked) → Good H askings s → FitsStep s.place.step s.place.tracks s.place.kept → due Target s now ≡ Some asked
    → Good I (asking_of Target asked s ++ askings) (asked_of Target asked now s)
sent_target H I more askings s now asked g fit h =
    let parts = due_parts Target s now asked h in
    sent_by H I more askings s now asked g fit parts.0 s.is_stopping refl parts.1
