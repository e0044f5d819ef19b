-- A track is asked for only after the description came.
use Rattle.std.proofs.Common.{◌≡◌, refl, ap, subst, if◌then◌else◌, ℕ, suc, arith, Bool, true, false, nat_lt, List, [], ◌∷◌, Some, Contains, ◌+◌}
use Rattle.rtsp_client.specs.declared.asked.Asked.{Asked}
use Rattle.rtsp_client.specs.declared.asked.Asked.TheVariants.{Describe as description}
use Rattle.rtsp_client.specs.declared.step.Step.{Step}
use Rattle.rtsp_client.specs.declared.step.Step.TheVariants.{Options, Describe, SetUp, Announce, SetUpTarget, Record, Play, Passing}
use Rattle.rtsp_client.specs.Histories.{Answer, HasCome, is_described, is_done, is_left_out}
use Rattle.rtsp_client.specs.Steps.{IsSetUp, Place, asked_in, behind_target, done_at}

-- what a list has, it has behind one more
pub behind : {X : Type 0} (y : X) (xs : List X) (x : X) → Contains xs x → Contains (y ∷ xs) x
behind y xs x (k, below, is) = (suc k, omega (arith, below), is)

no_track : (track kept : ℕ) → IsSetUp (behind_target track kept) → ⊥
no_track track kept h = go (nat_lt (track + 1) kept) refl h where
  go : (b : Bool) → nat_lt (track + 1) kept ≡ b → IsSetUp (behind_target track kept) → ⊥
  go true e h = subst IsSetUp (ap (λ b. if b then SetUpTarget (track + 1) else Record) e) h
  go false e h = subst IsSetUp (ap (λ b. if b then SetUpTarget (track + 1) else Record) e) h

-- a step after which a track is asked for, and which isn't the description, is a track, too
before_track : (step : Step) (place : Place) (asked : Asked) → asked_in step ≡ Some asked → (asked ≡ description → ⊥) → IsSetUp (done_at step place).step → IsSetUp step
before_track Options place asked e other h = h
before_track Describe place asked e other h = absurd (other cc)
before_track (SetUp track) place asked e other h = tt
before_track Announce place asked e other h = h
before_track (SetUpTarget track) place asked e other h = absurd (no_track track place.kept h)
before_track Record place asked e other h = h
before_track Play place asked e other h = h
before_track Passing place asked e other h = absurd (cc)

pub is_described_first : (answers : List Answer) (place : Place) → HasCome answers place → IsSetUp place.step → (tracks : ℕ) × Contains answers (is_described tracks)
is_described_first [] place h s = absurd (subst (λ (p : Place). IsSetUp p.step) h s)
is_described_first (is_done asked ∷ before) place (earlier, h, (at, other, is)) s =
    let had = is_described_first before earlier h (before_track earlier.step earlier asked at other (subst (λ (p : Place). IsSetUp p.step) is s)) in
    (had.0, behind (is_done asked) before (is_described had.0) had.1)
is_described_first (is_described tracks ∷ before) place h s = (tracks, (0, omega arith, refl))
is_described_first (is_left_out ∷ before) place (earlier, h, (at, is)) s =
    let had = is_described_first before earlier h at in
    (had.0, behind is_left_out before (is_described had.0) had.1)
