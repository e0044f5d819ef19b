-- The steps before ANNOUNCE, and what the source's replies can mean.
use Rattle.std.proofs.Common.{◌≡◌, refl, sym, subst, ℕ, inl, inr, Bool, true, false, if◌then◌else◌, nat_lt, List, Option, Some, None, ◌+◌, ◌∙◌}
use Rattle.rtsp_client.specs.Requests.{without_answered}
use Rattle.rtsp_client.specs.Steps.{Place, asked_at, behind_track, is_recording}
use Rattle.rtsp_client.specs.Table.{row, verdict_of}
use Rattle.rtsp_client.specs.TargetCourse.{Asking, IsCourse, Stage, Unasked}
use Rattle.rtsp_client.specs.declared.asked.Asked.{Asked}
use Rattle.rtsp_client.specs.declared.asked.Asked.TheVariants as asks
use Rattle.rtsp_client.specs.declared.asked.Side.TheVariants.{Source, Target}
use Rattle.rtsp_client.specs.declared.awaits.Awaits.{Awaits}
use Rattle.rtsp_client.specs.declared.awaits.Awaits.TheVariants as waits
use Rattle.rtsp_client.specs.declared.requests.Outstanding.{Outstanding}
use Rattle.rtsp_client.specs.declared.requests.Requests.{Requests}
use Rattle.rtsp_client.specs.declared.status_class.StatusClass.{StatusClass}
use Rattle.rtsp_client.specs.declared.status_class.StatusClass.TheVariants as class
use Rattle.rtsp_client.specs.declared.step.Step.{Step}
use Rattle.rtsp_client.specs.declared.step.Step.TheVariants as steps
use Rattle.rtsp_client.specs.declared.verdict.Verdict.{Verdict}
use Rattle.rtsp_client.specs.declared.verdict.Verdict.TheVariants.{Waits, GoesOn, Follows, LeavesOut, Challenged, TargetAsksPassword, SessionGone, UsesOptions, Refused, Over as IsOver}
use Rattle.rtsp_client.proofs.TargetStages.{AtTarget, AwaitsAt, Heard, IsEarly, Live, OfSource, OpenAt, WaitsAt, none_asked, stage_at}

-- nothing was asked of the target yet, or ANNOUNCE is next
abbrev pub IsFresh : Step → Type 0
IsFresh steps.Options = Unit {0}
IsFresh steps.Describe = Unit {0}
IsFresh (steps.SetUp track) = Unit {0}
IsFresh steps.Announce = Unit {0}
IsFresh (steps.SetUpTarget track) = ⊥
IsFresh steps.Record = ⊥
IsFresh steps.Play = ⊥
IsFresh steps.Passing = ⊥

-- what holds at such a step
record AsFresh (step : Step) (kept : ℕ) (session : Option (List ℕ)) (H : Bool → Type 0) : Type 0 where
  stage : stage_at step kept ≡ Unasked
  opened : session ≡ None → OpenAt step session
  heard : Heard H step

as_fresh : (step : Step) (kept : ℕ) (session : Option (List ℕ)) (H : Bool → Type 0) → IsFresh step → AsFresh step kept session H
as_fresh steps.Options kept session H h = record { stage = refl; opened = λ n. n; heard = tt }
as_fresh steps.Describe kept session H h = record { stage = refl; opened = λ n. n; heard = tt }
as_fresh (steps.SetUp track) kept session H h = record { stage = refl; opened = λ n. n; heard = tt }
as_fresh steps.Announce kept session H h = record { stage = refl; opened = λ n. n; heard = tt }
as_fresh (steps.SetUpTarget track) kept session H h = absurd h
as_fresh steps.Record kept session H h = absurd h
as_fresh steps.Play kept session H h = absurd h
as_fresh steps.Passing kept session H h = absurd h

record AsEarly (step : Step) (kept : ℕ) (session : Option (List ℕ)) : Type 0 where
  stage : stage_at step kept ≡ Unasked
  opened : OpenAt step session → session ≡ None
  none : asked_at Target step ≡ None
  records : is_recording step ≡ false

as_early : (step : Step) (kept : ℕ) (session : Option (List ℕ)) → IsEarly step → AsEarly step kept session
as_early steps.Options kept session h = record { stage = refl; opened = λ n. n; none = refl; records = refl }
as_early steps.Describe kept session h = record { stage = refl; opened = λ n. n; none = refl; records = refl }
as_early (steps.SetUp track) kept session h = record { stage = refl; opened = λ n. n; none = refl; records = refl }
as_early steps.Announce kept session h = absurd h
as_early (steps.SetUpTarget track) kept session h = absurd h
as_early steps.Record kept session h = absurd h
as_early steps.Play kept session h = absurd h
as_early steps.Passing kept session h = absurd h

module _ (H : Bool → Type 0) (askings : List Asking) (p q : Place) (session : Option (List ℕ)) (early : IsEarly p.step) (fresh : IsFresh q.step) where
  was : AsEarly p.step p.kept session
  was = as_early p.step p.kept session early

  is : AsFresh q.step q.kept session H
  is = as_fresh q.step q.kept session H fresh

  unasked : (id : List ℕ) (stage : Stage) → stage ≡ Unasked → IsCourse p.kept id askings stage → IsCourse q.kept id askings stage
  unasked id stage none course =
      let empty = none_asked p.kept id askings (subst (λ (st : Stage). IsCourse p.kept id askings st) none course) in
      subst (λ (xs : List Asking). IsCourse q.kept id xs stage) (sym empty) none

  fresh_live : (waiting : Option Outstanding) → Live H askings p waiting session → Live H askings q waiting session
  fresh_live None live =
      let none : live.stage ≡ Unasked = live.waits ∙ was.stage in
      record {
        stage = live.stage;
        waits = none ∙ sym is.stage;
        course = λ id fits. unasked id live.stage none (live.course id fits);
        opened = is.opened (was.opened live.opened);
        heard = λ none. is.heard;
        begun = live.begun;
      }
  fresh_live (Some w) live = absurd (elim live.waits [ inl (at, stage) ↦ (let no = was.none in cc) | inr (keeps, records, stage) ↦ (let no = was.records in cc) ])

  pub fresh_moves : (waiting : Option Outstanding) (stops : Bool) → AtTarget H askings p waiting session stops → AtTarget H askings q waiting session stops
  fresh_moves waiting stops (inl live) = inl (fresh_live waiting live)
  fresh_moves waiting stops (inr over) = absurd (over.late early)

-- PLAY has succeeded
passing_waits : (kept : ℕ) (waiting : Option Outstanding) (stage : Stage) → WaitsAt steps.Play kept waiting stage → WaitsAt steps.Passing kept waiting stage
passing_waits kept None stage h = h
passing_waits kept (Some w) stage (inl (at, is)) = absurd (cc)
passing_waits kept (Some w) stage (inr h) = inr h

pub passing : (H : Bool → Type 0) (askings : List Asking) (tracks kept : ℕ) (waiting : Option Outstanding) (session : Option (List ℕ)) (stops : Bool)
    → AtTarget H askings (record { step = steps.Play; tracks = tracks; kept = kept }) waiting session stops → AtTarget H askings (record { step = steps.Passing; tracks = tracks; kept = kept }) waiting session stops
passing H askings tracks kept waiting session stops (inl live) =
    inl (record { stage = live.stage; waits = passing_waits kept waiting live.stage live.waits; course = live.course; opened = live.opened; heard = λ none. tt; begun = live.begun })
passing H askings tracks kept waiting session stops (inr over) =
    inr (record { late = λ early. early; id = over.id; course = over.course; stopping = over.stopping; fits = over.fits; waits = over.waits })

-- a request of the source that waits is no redirect
pub awaits_any : (awaits : Awaits) (step : Step) (w : Outstanding) → AwaitsAt awaits step (Some w) → (next : Step) (any : Option Outstanding) → AwaitsAt awaits next any
awaits_any waits.Nothing step w h next any = tt
awaits_any waits.Description step w h next any = tt
awaits_any waits.Connection step w h next any = absurd (let some = h.1 in cc)
awaits_any (waits.Password asked) step w h next any = h
awaits_any (waits.Again asked) step w h next any = h

pub of_answered : (verdict : Verdict) (requests : Requests) → OfSource requests.outstanding → OfSource (without_answered requests verdict).outstanding
of_answered Waits requests h = h
of_answered GoesOn requests h = tt
of_answered Follows requests h = tt
of_answered LeavesOut requests h = tt
of_answered Challenged requests h = tt
of_answered TargetAsksPassword requests h = tt
of_answered SessionGone requests h = tt
of_answered UsesOptions requests h = tt
of_answered Refused requests h = tt
of_answered IsOver requests h = tt

-- what holds in each column of a row
of_any : (P : Verdict → Type 0) (a b d e f g : Verdict) → P Waits → P a → P b → P d → P e → P f → P g → (c : StatusClass) → P (row a b d e f g c)
of_any P a b d e f g z pa pb pd pe pf pg class.Provisional = z
of_any P a b d e f g z pa pb pd pe pf pg class.Success = pa
of_any P a b d e f g z pa pb pd pe pf pg class.Moved = pb
of_any P a b d e f g z pa pb pd pe pf pg class.OtherRedirect = pd
of_any P a b d e f g z pa pb pd pe pf pg class.Unauthorized = pe
of_any P a b d e f g z pa pb pd pe pf pg class.NoSession = pf
of_any P a b d e f g z pa pb pd pe pf pg class.Refusal = pg

abbrev pub IsFollows : Verdict → Type 0
IsFollows Waits = ⊥
IsFollows GoesOn = ⊥
IsFollows Follows = Unit {0}
IsFollows LeavesOut = ⊥
IsFollows Challenged = ⊥
IsFollows TargetAsksPassword = ⊥
IsFollows SessionGone = ⊥
IsFollows UsesOptions = ⊥
IsFollows Refused = ⊥
IsFollows IsOver = ⊥

abbrev NeverFollows : Verdict → Type 0
NeverFollows verdict = IsFollows verdict → ⊥

-- only DESCRIBE is followed
pub follows_at : (step : Step) (asked : Asked) (c : StatusClass) → asked_at Source step ≡ Some asked → IsFollows (verdict_of asked c) → step ≡ steps.Describe
follows_at steps.Options asked c at h =
    let is : asked ≡ asks.Options = cc in
    absurd (of_any NeverFollows GoesOn GoesOn GoesOn Challenged GoesOn GoesOn (λ n. n) (λ n. n) (λ n. n) (λ n. n) (λ n. n) (λ n. n) (λ n. n) c (subst (λ (a : Asked). IsFollows (verdict_of a c)) is h))
follows_at steps.Describe asked c at h = refl
follows_at (steps.SetUp track) asked c at h =
    let is : asked ≡ asks.SetUp = cc in
    absurd (of_any NeverFollows GoesOn LeavesOut LeavesOut Challenged LeavesOut LeavesOut (λ n. n) (λ n. n) (λ n. n) (λ n. n) (λ n. n) (λ n. n) (λ n. n) c (subst (λ (a : Asked). IsFollows (verdict_of a c)) is h))
follows_at steps.Announce asked c at h = absurd (cc)
follows_at (steps.SetUpTarget track) asked c at h = absurd (cc)
follows_at steps.Record asked c at h = absurd (cc)
follows_at steps.Play asked c at h =
    let is : asked ≡ asks.Play = cc in
    absurd (of_any NeverFollows GoesOn Refused Refused Challenged Refused Refused (λ n. n) (λ n. n) (λ n. n) (λ n. n) (λ n. n) (λ n. n) (λ n. n) c (subst (λ (a : Asked). IsFollows (verdict_of a c)) is h))
follows_at steps.Passing asked c at h = absurd (cc)

-- the step after a track of the source
pub behind_fresh : (track tracks : ℕ) → IsFresh (behind_track track tracks)
behind_fresh track tracks = go (nat_lt (track + 1) tracks) where
  go : (b : Bool) → IsFresh (if b then steps.SetUp (track + 1) else steps.Announce)
  go true = tt
  go false = tt
