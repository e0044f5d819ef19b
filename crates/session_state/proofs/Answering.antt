-- A judged request has an answer.
use Rattle.std.proofs.Common.{◌≡◌, ℕ, true, inl, inr, IsSome, Option, None, Some, refl, subst}
use Rattle.std.specs.Option.{option_and_then}
use Rattle.rtsp_message.specs.declared.reply.Reply.{Reply}
use Rattle.session_state.specs.declared.act.Act.{Act}
use Rattle.session_state.specs.declared.act.Act.TheVariants as acts
use Rattle.session_state.specs.declared.world.change.Change.{Change}
use Rattle.session_state.specs.declared.given.Given.{Given}
use Rattle.session_state.specs.declared.method.Method.{Method}
use Rattle.session_state.specs.declared.method.Method.TheVariants as methods
use Rattle.session_state.specs.declared.session.Session.{Session}
use Rattle.session_state.specs.declared.session.State.{State}
use Rattle.session_state.specs.declared.session.State.TheVariants.{Ready, Playing, Recording}
use Rattle.session_state.specs.Checks.{Asked, PassesAll, checks_of, fits, state_in}
use Rattle.session_state.specs.Judged.{IsAcceptedWith, IsJudged}
use Rattle.session_state.specs.Legal.{IsAnswered}
use Rattle.session_state.specs.Replies.{IsAccepted, IsPlayAct, pause_act, record_act, teardown_act}
use Rattle.session_state.specs.Stands.{Tables, kept_of, session_kept}

-- an open connection is kept with its session
pub kept_with_session : (tables : Tables) (conn : ℕ) → IsSome (kept_of conn tables.connections) → kept_of conn tables.connections ≡ Some (session_kept tables conn)
kept_with_session tables conn is = by (kept_of conn tables.connections) is
  where
    by : (kept : Option (Option Session)) → IsSome kept → kept ≡ Some (option_and_then (λ k. k) kept)
    by None some = absurd (cc)
    by (Some session) some = refl

module _ (asked : Asked) (given : Given) (reply : Reply) (change : Change) where
  plays : (passes : PassesAll asked (checks_of (Some methods.Play))) → IsAcceptedWith asked methods.Play given reply change → (act : Act) × IsAccepted asked methods.Play given reply act
  plays passes (is, makes) = by asked.session refl
    where
      of : (session : Session) → asked.session ≡ Some session → (state : State) → session.state ≡ state → fits methods.Play (Some state) ≡ true → (act : Act) × IsPlayAct asked session.mount state act
      of session has Ready ready fit = let free = passes.1.1.1.1.1.1.1.1.1.1.0 session has ready in (acts.Play session.mount free.0, (free.0, free.1, free.2, refl))
      of session has (Playing seat) playing fit = (acts.None, refl)
      of session has Recording recording fit = absurd (cc)

      by : (session : Option Session) → asked.session ≡ session → (act : Act) × IsAccepted asked methods.Play given reply act
      by None has = let fit : fits methods.Play None ≡ true = subst (λ s. fits methods.Play (state_in s) ≡ true) has passes.1.1.1.1.1.1.1.0 in absurd (cc)
      by (Some session) has =
          let act = of session has session.state refl (subst (λ s. fits methods.Play (state_in s) ≡ true) has passes.1.1.1.1.1.1.1.0) in
          (act.0, is session act.0 has act.1)

  accepts_by : (method : Method) → PassesAll asked (checks_of (Some method)) → IsAcceptedWith asked method given reply change → (act : Act) × IsAccepted asked method given reply act
  accepts_by methods.Options passes is = (acts.None, is.0)
  accepts_by methods.GetParameter passes is = (acts.None, is.0)
  accepts_by methods.Describe passes is = (acts.None, is.0)
  accepts_by methods.Announce passes is = (acts.Open, is.0)
  accepts_by methods.Setup passes is = (acts.None, (is.0, refl))
  accepts_by methods.Play passes is = plays passes is
  accepts_by methods.Record passes is = (record_act (state_in asked.session), is.0 (record_act (state_in asked.session)) refl)
  accepts_by methods.Pause passes is = (pause_act asked.session, is.0 (pause_act asked.session) refl)
  accepts_by methods.Teardown passes is = (teardown_act asked.session, is.0 (teardown_act asked.session) refl)

  pub has_answer : IsJudged asked given reply change → (act : Act) × IsAnswered asked given reply act
  has_answer (inl ((check, fails, is, none), nothing)) = (acts.None, inl (check, fails, is, none))
  has_answer (inr (method, named, passes, is)) = let so = accepts_by method passes is in (so.0, inr (method, named, passes, so.1))
