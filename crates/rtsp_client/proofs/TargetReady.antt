-- What a client has heard when it sends to the target.
use Rattle.std.proofs.Common.{◌≡◌, refl, ap, subst, ℕ, inl, inr, Bool, true, false, List, Option, Some, None, ◌∙◌}
use Rattle.rtsp_client.specs.Clients.{State, due, due_or_teardown, session_at, step_or_keepalive, teardown_due, waiting_at}
use Rattle.rtsp_client.specs.Keepalives.{is_due}
use Rattle.rtsp_client.specs.Steps.{asked_at, is_recording}
use Rattle.rtsp_client.specs.TargetCourse.{Asking}
use Rattle.rtsp_client.specs.declared.asked.Asked.{Asked}
use Rattle.rtsp_client.specs.declared.asked.Asked.TheVariants as asks
use Rattle.rtsp_client.specs.declared.asked.Side.{Side}
use Rattle.rtsp_client.specs.declared.asked.Side.TheVariants.{Target}
use Rattle.rtsp_client.specs.declared.step.Step.{Step}
use Rattle.rtsp_client.specs.declared.step.Step.TheVariants as steps
use Rattle.rtsp_client.proofs.TargetStages.{Good, Heard, Live}
use Rattle.rtsp_client.proofs.TargetSends.{due_parts, kept_due, kept_open, open_recording}

-- SETUP and RECORD at the target
abbrev pub IsStepAsked : Asked → Type 0
IsStepAsked asks.Options = ⊥
IsStepAsked asks.Describe = ⊥
IsStepAsked asks.SetUp = ⊥
IsStepAsked asks.Announce = ⊥
IsStepAsked asks.SetUpTarget = Unit {0}
IsStepAsked asks.Record = Unit {0}
IsStepAsked asks.Play = ⊥
IsStepAsked (asks.KeepAlive side) = ⊥
IsStepAsked (asks.TearDown side) = ⊥

heard_at : (H : Bool → Type 0) (step : Step) (asked : Asked) → asked_at Target step ≡ Some asked → IsStepAsked asked → Heard H step → H true
heard_at H steps.Options asked at of h = absurd (cc)
heard_at H steps.Describe asked at of h = absurd (cc)
heard_at H (steps.SetUp track) asked at of h = absurd (cc)
heard_at H steps.Announce asked at of h = let is : asked ≡ asks.Announce = cc in absurd (subst IsStepAsked is of)
heard_at H (steps.SetUpTarget track) asked at of h = h
heard_at H steps.Record asked at of h = h
heard_at H steps.Play asked at of h = absurd (cc)
heard_at H steps.Passing asked at of h = absurd (cc)

of_teardown_due : (session : Option (List ℕ)) (asked : Asked) → teardown_due session Target ≡ Some asked → asked ≡ asks.TearDown Target
of_teardown_due (Some id) asked h = cc
of_teardown_due None asked h = absurd (cc)

never_kept : (step : Step) (side : Side) → asked_at Target step ≡ Some (asks.KeepAlive side) → ⊥
never_kept steps.Options side h = cc
never_kept steps.Describe side h = cc
never_kept (steps.SetUp track) side h = cc
never_kept steps.Announce side h = cc
never_kept (steps.SetUpTarget track) side h = cc
never_kept steps.Record side h = cc
never_kept steps.Play side h = cc
never_kept steps.Passing side h = cc

never_torn_down : (step : Step) (side : Side) → asked_at Target step ≡ Some (asks.TearDown side) → ⊥
never_torn_down steps.Options side h = cc
never_torn_down steps.Describe side h = cc
never_torn_down (steps.SetUp track) side h = cc
never_torn_down steps.Announce side h = cc
never_torn_down (steps.SetUpTarget track) side h = cc
never_torn_down steps.Record side h = cc
never_torn_down steps.Play side h = cc
never_torn_down steps.Passing side h = cc

module _ (H : Bool → Type 0) (askings : List Asking) (s : State) (now : ℕ) (asked : Asked) (g : Good H askings s) where
  ready_next : (first : Option Asked) → asked_at Target s.place.step ≡ first → IsStepAsked asked → waiting_at Target s ≡ None → Live H askings s.place (waiting_at Target s) (session_at Target s)
      → step_or_keepalive first Target s now ≡ Some asked → H true
  ready_next (Some other) at of free live h = heard_at H s.place.step asked (at ∙ h) of (live.heard free)
  ready_next None at of free live h = let is = (kept_due (is_due s.target.keepalive now) asked h).1 in absurd (subst IsStepAsked is of)

  ready_by : (stops : Bool) → s.is_stopping ≡ stops → IsStepAsked asked → waiting_at Target s ≡ None → due_or_teardown stops Target s now ≡ Some asked → H true
  ready_by true is of free h = absurd (subst IsStepAsked (of_teardown_due (session_at Target s) asked h) of)
  ready_by false is of free h = elim g.target [
    | inl live ↦ ready_next (asked_at Target s.place.step) refl of free live h
    | inr over ↦ (let stops = over.stopping in absurd (cc))
  ]

  -- SETUP and RECORD are sent only if the request before was answered
  pub sent_ready : IsStepAsked asked → due Target s now ≡ Some asked → H true
  sent_ready of h = let parts = due_parts Target s now asked h in ready_by s.is_stopping refl of parts.0 parts.1

  kept_next : (side : Side) (first : Option Asked) → asked_at Target s.place.step ≡ first → asked ≡ asks.KeepAlive side → Live H askings s.place (waiting_at Target s) (session_at Target s)
      → step_or_keepalive first Target s now ≡ Some asked → is_recording s.place.step ≡ true
  kept_next side (Some other) at is live h = absurd (never_kept s.place.step side (at ∙ h ∙ ap (λ (a : Asked). Some a) is))
  kept_next side None at is live h =
      let due = kept_due (is_due s.target.keepalive now) asked h in
      let opens = kept_open (session_at Target s) s.target.keepalive now g.keeps due.0 in
      open_recording s.place.step (session_at Target s) opens.0 live.opened opens.1 at

  kept_by : (side : Side) (stops : Bool) → s.is_stopping ≡ stops → asked ≡ asks.KeepAlive side → due_or_teardown stops Target s now ≡ Some asked → is_recording s.place.step ≡ true
  kept_by side true stops is h = let ends_it = of_teardown_due (session_at Target s) asked h in absurd (cc)
  kept_by side false stops is h = elim g.target [
    | inl live ↦ kept_next side (asked_at Target s.place.step) refl is live h
    | inr over ↦ (let stopping = over.stopping in absurd (cc))
  ]

  -- a keepalive is sent only while the target records
  pub kept_recording : (side : Side) → asked ≡ asks.KeepAlive side → due Target s now ≡ Some asked → is_recording s.place.step ≡ true
  kept_recording side is h = let parts = due_parts Target s now asked h in kept_by side s.is_stopping refl is parts.1

  teardown_next : (side : Side) (first : Option Asked) → asked_at Target s.place.step ≡ first → asked ≡ asks.TearDown side → step_or_keepalive first Target s now ≡ Some asked → ⊥
  teardown_next side (Some other) at is h = never_torn_down s.place.step side (at ∙ h ∙ ap (λ (a : Asked). Some a) is)
  teardown_next side None at is h = let keeps = (kept_due (is_due s.target.keepalive now) asked h).1 in cc

  teardown_open : (session : Option (List ℕ)) → session_at Target s ≡ session → waiting_at Target s ≡ None → teardown_due session Target ≡ Some asked → H false
  teardown_open None is free h = absurd (cc)
  teardown_open (Some id) is free h = elim g.target [
    | inl live ↦ live.begun id is
    | inr over ↦ absurd (elim over.waits [ inl (w, has, td) ↦ (let both = free in cc) | inr (none, closed) ↦ cc ])
  ]

  teardown_by : (side : Side) (stops : Bool) → asked ≡ asks.TearDown side → waiting_at Target s ≡ None → due_or_teardown stops Target s now ≡ Some asked → H false
  teardown_by side true is free h = teardown_open (session_at Target s) refl free h
  teardown_by side false is free h = absurd (teardown_next side (asked_at Target s.place.step) refl is h)

  -- TEARDOWN is sent only after SETUP has succeeded
  pub teardown_ready : (side : Side) → asked ≡ asks.TearDown side → due Target s now ≡ Some asked → H false
  teardown_ready side is h = let parts = due_parts Target s now asked h in teardown_by side s.is_stopping is parts.0 parts.1
