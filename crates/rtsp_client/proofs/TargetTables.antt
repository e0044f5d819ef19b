-- What the target's replies can mean, by the request.
use Rattle.std.proofs.Common.{◌≡◌, sym, ap, subst, ℕ, true, Some, ◌∙◌, Bool}
use Rattle.rtsp_client.specs.Clients.{State}
use Rattle.rtsp_client.specs.Replies.{TakesOf, TakesStep}
use Rattle.rtsp_client.specs.Steps.{asked_at, is_recording}
use Rattle.rtsp_client.specs.Table.{lateness, row, verdict_of}
use Rattle.rtsp_client.specs.declared.asked.Asked.{Asked}
use Rattle.rtsp_client.specs.declared.asked.Asked.TheVariants as asks
use Rattle.rtsp_client.specs.declared.asked.Late.{Late}
use Rattle.rtsp_client.specs.declared.asked.Late.TheVariants as late
use Rattle.rtsp_client.specs.declared.asked.Side.TheVariants.{Target}
use Rattle.rtsp_client.specs.declared.reply_facts.ReplyFacts.{ReplyFacts}
use Rattle.rtsp_client.specs.declared.status_class.StatusClass.{StatusClass}
use Rattle.rtsp_client.specs.declared.status_class.StatusClass.TheVariants as class
use Rattle.rtsp_client.specs.declared.step.Step.{Step}
use Rattle.rtsp_client.specs.declared.step.Step.TheVariants as steps
use Rattle.rtsp_client.specs.declared.turn.Turn.{Turn}
use Rattle.rtsp_client.specs.declared.verdict.Verdict.{Verdict}
use Rattle.rtsp_client.specs.declared.verdict.Verdict.TheVariants.{Waits, GoesOn, Follows, LeavesOut, Challenged, TargetAsksPassword, SessionGone, UsesOptions, Refused, Over as IsOver}
use Rattle.rtsp_client.proofs.TargetStages.{Heard}

-- what a reply to a step's request of the target can mean
abbrev pub OfStep : Verdict → Type 0
OfStep Waits = Unit {0}
OfStep GoesOn = Unit {0}
OfStep Follows = ⊥
OfStep LeavesOut = ⊥
OfStep Challenged = ⊥
OfStep TargetAsksPassword = Unit {0}
OfStep SessionGone = ⊥
OfStep UsesOptions = ⊥
OfStep Refused = Unit {0}
OfStep IsOver = ⊥

of_row : (c : StatusClass) → OfStep (row GoesOn Refused Refused TargetAsksPassword Refused Refused c)
of_row class.Provisional = tt
of_row class.Success = tt
of_row class.Moved = tt
of_row class.OtherRedirect = tt
of_row class.Unauthorized = tt
of_row class.NoSession = tt
of_row class.Refusal = tt

pub of_step : (step : Step) (asked : Asked) (c : StatusClass) → asked_at Target step ≡ Some asked → OfStep (verdict_of asked c)
of_step steps.Options asked c at = absurd (cc)
of_step steps.Describe asked c at = absurd (cc)
of_step (steps.SetUp track) asked c at = absurd (cc)
of_step steps.Announce asked c at = let is : asks.Announce ≡ asked = cc in subst (λ (a : Asked). OfStep (verdict_of a c)) is (of_row c)
of_step (steps.SetUpTarget track) asked c at = let is : asks.SetUpTarget ≡ asked = cc in subst (λ (a : Asked). OfStep (verdict_of a c)) is (of_row c)
of_step steps.Record asked c at = let is : asks.Record ≡ asked = cc in subst (λ (a : Asked). OfStep (verdict_of a c)) is (of_row c)
of_step steps.Play asked c at = absurd (cc)
of_step steps.Passing asked c at = absurd (cc)

-- the reply to a step's request is taken for it
pub takes_step : (step : Step) (asked : Asked) (verdict : Verdict) (facts : ReplyFacts) (now : ℕ) (old new : State) (turn : Turn) → asked_at Target step ≡ Some asked
    → TakesOf Target asked verdict facts now old new turn → TakesStep Target asked verdict facts now old new turn
takes_step steps.Options asked verdict facts now old new turn at h = absurd (cc)
takes_step steps.Describe asked verdict facts now old new turn at h = absurd (cc)
takes_step (steps.SetUp track) asked verdict facts now old new turn at h = absurd (cc)
takes_step steps.Announce asked verdict facts now old new turn at h =
    let is : asks.Announce ≡ asked = cc in
    let as_is : TakesOf Target asks.Announce verdict facts now old new turn = subst (λ (a : Asked). TakesOf Target a verdict facts now old new turn) (sym is) h in
    subst (λ (a : Asked). TakesStep Target a verdict facts now old new turn) is as_is
takes_step (steps.SetUpTarget track) asked verdict facts now old new turn at h =
    let is : asks.SetUpTarget ≡ asked = cc in
    let as_is : TakesOf Target asks.SetUpTarget verdict facts now old new turn = subst (λ (a : Asked). TakesOf Target a verdict facts now old new turn) (sym is) h in
    subst (λ (a : Asked). TakesStep Target a verdict facts now old new turn) is as_is
takes_step steps.Record asked verdict facts now old new turn at h =
    let is : asks.Record ≡ asked = cc in
    let as_is : TakesOf Target asks.Record verdict facts now old new turn = subst (λ (a : Asked). TakesOf Target a verdict facts now old new turn) (sym is) h in
    subst (λ (a : Asked). TakesStep Target a verdict facts now old new turn) is as_is
takes_step steps.Play asked verdict facts now old new turn at h = absurd (cc)
takes_step steps.Passing asked verdict facts now old new turn at h = absurd (cc)

pub heard_recording : (H : Bool → Type 0) (step : Step) → is_recording step ≡ true → Heard H step
heard_recording H steps.Options h = tt
heard_recording H steps.Describe h = tt
heard_recording H (steps.SetUp track) h = tt
heard_recording H steps.Announce h = tt
heard_recording H (steps.SetUpTarget track) h = absurd (cc)
heard_recording H steps.Record h = absurd (cc)
heard_recording H steps.Play h = tt
heard_recording H steps.Passing h = tt

-- a step's request of the target that is late ends the client
pub step_late : (step : Step) (asked : Asked) (l : Late) → asked_at Target step ≡ Some asked → l ≡ lateness asked → l ≡ late.Ends
step_late steps.Options asked l at h = absurd (cc)
step_late steps.Describe asked l at h = absurd (cc)
step_late (steps.SetUp track) asked l at h = absurd (cc)
step_late steps.Announce asked l at h = let is : asked ≡ asks.Announce = cc in h ∙ ap (λ (a : Asked). lateness a) is
step_late (steps.SetUpTarget track) asked l at h = let is : asked ≡ asks.SetUpTarget = cc in h ∙ ap (λ (a : Asked). lateness a) is
step_late steps.Record asked l at h = let is : asked ≡ asks.Record = cc in h ∙ ap (λ (a : Asked). lateness a) is
step_late steps.Play asked l at h = absurd (cc)
step_late steps.Passing asked l at h = absurd (cc)

-- what a reply to a request that keeps the target's session alive can mean
abbrev pub OfKeepalive : Verdict → Type 0
OfKeepalive Waits = Unit {0}
OfKeepalive GoesOn = Unit {0}
OfKeepalive Follows = ⊥
OfKeepalive LeavesOut = ⊥
OfKeepalive Challenged = ⊥
OfKeepalive TargetAsksPassword = Unit {0}
OfKeepalive SessionGone = Unit {0}
OfKeepalive UsesOptions = Unit {0}
OfKeepalive Refused = ⊥
OfKeepalive IsOver = ⊥

pub of_keepalive : (c : StatusClass) → OfKeepalive (verdict_of (asks.KeepAlive Target) c)
of_keepalive class.Provisional = tt
of_keepalive class.Success = tt
of_keepalive class.Moved = tt
of_keepalive class.OtherRedirect = tt
of_keepalive class.Unauthorized = tt
of_keepalive class.NoSession = tt
of_keepalive class.Refusal = tt

abbrev pub OfTeardown : Verdict → Type 0
OfTeardown Waits = Unit {0}
OfTeardown GoesOn = ⊥
OfTeardown Follows = ⊥
OfTeardown LeavesOut = ⊥
OfTeardown Challenged = ⊥
OfTeardown TargetAsksPassword = ⊥
OfTeardown SessionGone = ⊥
OfTeardown UsesOptions = ⊥
OfTeardown Refused = ⊥
OfTeardown IsOver = Unit {0}

pub of_teardown : (c : StatusClass) → OfTeardown (verdict_of (asks.TearDown Target) c)
of_teardown class.Provisional = tt
of_teardown class.Success = tt
of_teardown class.Moved = tt
of_teardown class.OtherRedirect = tt
of_teardown class.Unauthorized = tt
of_teardown class.NoSession = tt
of_teardown class.Refusal = tt
