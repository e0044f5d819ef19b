-- How far a client has come with its target, by its step and by the request that waits.
use Rattle.std.proofs.Common.{◌≡◌, refl, ℕ, zero, suc, ◌⊎◌, inl, inr, Bool, true, false, List, [], ◌∷◌, Option, Some, None, IsSome, ◌+◌}
use Rattle.rtsp_client.specs.Clients.{State, keepalive_method, session_at, waiting_at, with_end}
use Rattle.rtsp_client.specs.Steps.{Place, asked_at, is_recording}
use Rattle.rtsp_client.specs.Table.{side_of}
use Rattle.rtsp_client.specs.TargetCourse.{AreInOrder, Asking, Asks, Ended, IsCourse, Recording, SettingUp, Stage, Unasked}
use Rattle.rtsp_client.specs.declared.ask.Method.TheVariants as methods
use Rattle.rtsp_client.specs.declared.asked.Asked.TheVariants as asks
use Rattle.rtsp_client.specs.declared.asked.Side.TheVariants.{Source, Target}
use Rattle.rtsp_client.specs.declared.awaits.Awaits.{Awaits}
use Rattle.rtsp_client.specs.declared.awaits.Awaits.TheVariants as waits
use Rattle.rtsp_client.specs.declared.end.End.{End}
use Rattle.rtsp_client.specs.declared.keepalive.Keepalive.{Keepalive}
use Rattle.rtsp_client.specs.declared.requests.Outstanding.{Outstanding}
use Rattle.rtsp_client.specs.declared.step.Step.{Step}
use Rattle.rtsp_client.specs.declared.step.Step.TheVariants as steps

-- nothing was asked of the target yet
abbrev pub IsEarly : Step → Type 0
IsEarly steps.Options = Unit {0}
IsEarly steps.Describe = Unit {0}
IsEarly (steps.SetUp track) = Unit {0}
IsEarly steps.Announce = ⊥
IsEarly (steps.SetUpTarget track) = ⊥
IsEarly steps.Record = ⊥
IsEarly steps.Play = ⊥
IsEarly steps.Passing = ⊥

-- the stage at a step if no request waits
abbrev pub stage_at : Step → (kept : ℕ) → Stage
stage_at steps.Options kept = Unasked
stage_at steps.Describe kept = Unasked
stage_at (steps.SetUp track) kept = Unasked
stage_at steps.Announce kept = Unasked
stage_at (steps.SetUpTarget track) kept = SettingUp track
stage_at steps.Record kept = SettingUp kept
stage_at steps.Play kept = Recording
stage_at steps.Passing kept = Recording

-- the stage if the step's request was sent
abbrev pub stage_after : Step → (kept : ℕ) → Stage
stage_after steps.Options kept = Unasked
stage_after steps.Describe kept = Unasked
stage_after (steps.SetUp track) kept = Unasked
stage_after steps.Announce kept = SettingUp 0
stage_after (steps.SetUpTarget track) kept = SettingUp (track + 1)
stage_after steps.Record kept = Recording
stage_after steps.Play kept = Recording
stage_after steps.Passing kept = Recording

abbrev pub OpenFor : (track : ℕ) → Option (List ℕ) → Type 0
OpenFor zero session = session ≡ None
OpenFor (suc before) session = IsSome session

-- the target's session at a step
abbrev pub OpenAt : Step → Option (List ℕ) → Type 0
OpenAt steps.Options session = session ≡ None
OpenAt steps.Describe session = session ≡ None
OpenAt (steps.SetUp track) session = session ≡ None
OpenAt steps.Announce session = session ≡ None
OpenAt (steps.SetUpTarget track) session = OpenFor track session
OpenAt steps.Record session = IsSome session
OpenAt steps.Play session = IsSome session
OpenAt steps.Passing session = IsSome session

-- the step's request waits, or one that keeps the session alive
abbrev pub WaitsAt : Step → (kept : ℕ) → Option Outstanding → Stage → Type 0
WaitsAt step kept None stage = stage ≡ stage_at step kept
WaitsAt step kept (Some w) stage =
    ((asked_at Target step ≡ Some w.asked) × (stage ≡ stage_after step kept))
    ⊎ ((w.asked ≡ asks.KeepAlive Target) × (is_recording step ≡ true) × (stage ≡ Recording))

-- SETUP and RECORD come after success of the request before, which `H true` says
abbrev pub Heard : (H : Bool → Type 0) → Step → Type 0
Heard H steps.Options = Unit {0}
Heard H steps.Describe = Unit {0}
Heard H (steps.SetUp track) = Unit {0}
Heard H steps.Announce = Unit {0}
Heard H (steps.SetUpTarget track) = H true
Heard H steps.Record = H true
Heard H steps.Play = Unit {0}
Heard H steps.Passing = Unit {0}

-- this is the identifier of the session, if it is open
abbrev pub Fits : Option (List ℕ) → (id : List ℕ) → Type 0
Fits session id = (open_id : List ℕ) → session ≡ Some open_id → open_id ≡ id

-- TEARDOWN was not sent
pub record Live (H : Bool → Type 0) (askings : List Asking) (place : Place) (waiting : Option Outstanding) (session : Option (List ℕ)) : Type 0 where
  pub stage : Stage
  pub waits : WaitsAt place.step place.kept waiting stage
  pub course : (id : List ℕ) → Fits session id → IsCourse place.kept id askings stage
  pub opened : OpenAt place.step session
  pub heard : waiting ≡ None → Heard H place.step
  -- `H false` says that SETUP at the target has succeeded
  pub begun : (open_id : List ℕ) → session ≡ Some open_id → H false

-- TEARDOWN was sent
pub record Over (askings : List Asking) (place : Place) (waiting : Option Outstanding) (session : Option (List ℕ)) (stops : Bool) : Type 0 where
  pub late : IsEarly place.step → ⊥
  pub id : List ℕ
  pub course : IsCourse place.kept id askings Ended
  pub stopping : stops ≡ true
  pub fits : Fits session id
  pub waits : ((w : Outstanding) × (waiting ≡ Some w) × (w.asked ≡ asks.TearDown Target)) ⊎ ((waiting ≡ None) × (session ≡ None))

abbrev pub AtTarget : (H : Bool → Type 0) → List Asking → Place → Option Outstanding → Option (List ℕ) → (stops : Bool) → Type 0
AtTarget H askings place waiting session stops = Live H askings place waiting session ⊎ Over askings place waiting session stops

-- what the program is to say is about the source, and a redirect comes before anything was asked of the target
abbrev pub AwaitsAt : Awaits → Step → Option Outstanding → Type 0
AwaitsAt waits.Nothing step waiting = Unit {0}
AwaitsAt waits.Description step waiting = Unit {0}
AwaitsAt waits.Connection step waiting = (step ≡ steps.Describe) × (waiting ≡ None)
AwaitsAt (waits.Password asked) step waiting = side_of asked ≡ Source
AwaitsAt (waits.Again asked) step waiting = side_of asked ≡ Source

abbrev pub OfSource : Option Outstanding → Type 0
OfSource None = Unit {0}
OfSource (Some w) = side_of w.asked ≡ Source

-- OPTIONS keeps the target's session alive
abbrev pub Keeps : Option (List ℕ) → Option Keepalive → Type 0
Keeps None keepalive = keepalive ≡ None
Keeps (Some id) keepalive = keepalive_method keepalive ≡ methods.Options

pub record Good (H : Bool → Type 0) (askings : List Asking) (s : State) : Type 0 where
  pub source : OfSource (waiting_at Source s)
  pub awaits : AwaitsAt s.awaits s.place.step (waiting_at Source s)
  pub keeps : Keeps (session_at Target s) s.target.keepalive
  pub target : AtTarget H askings s.place (waiting_at Target s) (session_at Target s) s.is_stopping

-- in order, and able to go on in order if the client has not ended
pub record Held (H : Bool → Type 0) (askings : List Asking) (s : State) : Type 0 where
  pub order : AreInOrder askings s
  pub going : s.end ≡ None → Good H askings s

order_at : (askings : List Asking) (s : State) (stage : Stage) (session : Option (List ℕ)) → session_at Target s ≡ session
    → ((id : List ℕ) → Fits (session_at Target s) id → IsCourse s.place.kept id askings stage) → AreInOrder askings s
order_at askings s stage None is course = record { id = []; stage = stage; course = course [] (λ o h. absurd (cc)); open_is = λ o h. absurd (cc) }
order_at askings s stage (Some id) is course = record { id = id; stage = stage; course = course id (λ o h. cc); open_is = λ o h. cc }

-- a course that fits each identifier, or that of the session that is open
pub course_order : (askings : List Asking) (s : State) (stage : Stage) → ((id : List ℕ) → Fits (session_at Target s) id → IsCourse s.place.kept id askings stage) → AreInOrder askings s
course_order askings s stage course = order_at askings s stage (session_at Target s) refl course

pub good_order : (H : Bool → Type 0) (askings : List Asking) (s : State) → Good H askings s → AreInOrder askings s
good_order H askings s g = elim g.target [
  | inl live ↦ course_order askings s live.stage live.course
  | inr over ↦ record { id = over.id; stage = Ended; course = over.course; open_is = over.fits }
]

pub held : (H : Bool → Type 0) (askings : List Asking) (s : State) → Good H askings s → Held H askings s
held H askings s g = record { order = good_order H askings s g; going = λ h. g }

-- an end changes nothing of the requests
pub order_end : (askings : List Asking) (end : End) (s : State) → AreInOrder askings s → AreInOrder askings (with_end end s)
order_end askings end s o = record { id = o.id; stage = o.stage; course = o.course; open_is = o.open_is }

pub ended : (H : Bool → Type 0) (askings : List Asking) (end : End) (s : State) → AreInOrder askings s → Held H askings (with_end end s)
ended H askings end s o = record { order = order_end askings end s o; going = λ h. absurd (cc) }

heard_more : (H I : Bool → Type 0) → ((b : Bool) → H b → I b) → (step : Step) → Heard H step → Heard I step
heard_more H I more steps.Options h = tt
heard_more H I more steps.Describe h = tt
heard_more H I more (steps.SetUp track) h = tt
heard_more H I more steps.Announce h = tt
heard_more H I more (steps.SetUpTarget track) h = more true h
heard_more H I more steps.Record h = more true h
heard_more H I more steps.Play h = tt
heard_more H I more steps.Passing h = tt

pub good_more : (H I : Bool → Type 0) → ((b : Bool) → H b → I b) → (askings : List Asking) (s : State) → Good H askings s → Good I askings s
good_more H I more askings s g = record {
  source = g.source;
  awaits = g.awaits;
  keeps = g.keeps;
  target = elim g.target [
    | inl live ↦ inl (record { stage = live.stage; waits = live.waits; course = live.course; opened = live.opened; heard = λ none. heard_more H I more s.place.step (live.heard none); begun = λ o h. more false (live.begun o h) })
    | inr over ↦ inr over
  ];
}

-- what was never asked
never : (kept : ℕ) (id : List ℕ) (from : Stage) (asking : Asking) → Asks kept id from asking Unasked → ⊥
never kept id Unasked asking (is, to) = cc
never kept id (SettingUp tracks) asking (inl (is, few, to)) = cc
never kept id (SettingUp tracks) asking (inr (inl (is, some, all, to))) = cc
never kept id (SettingUp tracks) asking (inr (inr (is, some, to))) = cc
never kept id Recording asking (inl (is, to)) = cc
never kept id Recording asking (inr (is, to)) = cc
never kept id Ended asking h = h

pub none_asked : (kept : ℕ) (id : List ℕ) (askings : List Asking) → IsCourse kept id askings Unasked → askings ≡ []
none_asked kept id [] h = refl
none_asked kept id (asking ∷ before) (from, asks, rest) = absurd (never kept id from asking asks)
