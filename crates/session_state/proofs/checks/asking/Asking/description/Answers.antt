use Rattle.std.proofs.Common.{[], ◌∷◌, sym, subst}
use Rattle.sdp.specs.Readings.{IsRefused}
use Rattle.session_state.specs.declared.checks.Check.TheVariants.{HasFewTracks, IsDescription}
use Rattle.session_state.specs.Asking.{IsRefusedAt}
use Rattle.session_state.proofs.CheckedAnnounce.{undescribed}
use Rattle.session_state.proofs.checks.asking.Asking.description.Goals as goal

pub returns-in-Err : goal.returns-in-Err
returns-in-Err c =
    subst (IsRefusedAt c.args.self.now (IsDescription ∷ HasFewTracks ∷ [])) (sym c.refusal_for.ensures)
    (undescribed c.args.self.now c.in-Err.fault (subst (λ body. IsRefused body c.in-Err.fault) c.as_slice.ensures c.in-Err.ensures))
