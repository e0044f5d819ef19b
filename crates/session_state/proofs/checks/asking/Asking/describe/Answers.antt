use Rattle.std.proofs.Common.{[], ◌∷◌, refl}
use Rattle.std.proofs.lemmas.Result.{err_from_is_err_and}
use Rattle.session_state.specs.declared.checks.Check.TheVariants.{AcceptsSdp, FitsState, HasItsSession, HasUri, NamesAStream, RequiresNothing}
use Rattle.session_state.specs.declared.method.Method.TheVariants.{Describe}
use Rattle.session_state.proofs.Checked.{passing_both, refused_within}
use Rattle.session_state.proofs.CheckedMethods.{describes}
use Rattle.session_state.proofs.checks.asking.Asking.describe.Goals as goal

pub returns-in_err-accepting_sdp : goal.returns-in_err-accepting_sdp
returns-in_err-accepting_sdp c =
    let p = err_from_is_err_and c.from_residual-in_err-accepting_sdp.result c.from_residual-in_err-accepting_sdp.ensures.1 in
    let names = c.in_ok-mount.ensures.names in
    let passes = passing_both c.args.self.now (RequiresNothing ∷ HasUri Describe ∷ HasItsSession Describe ∷ []) (NamesAStream Describe ∷ FitsState Describe ∷ []) c.in_ok-target.ensures.1
    (describes c.args.self.now c.in_ok-target.target names.0 names.1) in
    rw (p.1, p.2) (refused_within c.args.self.now (RequiresNothing ∷ HasUri Describe ∷ HasItsSession Describe ∷ NamesAStream Describe ∷ FitsState Describe ∷ []) (AcceptsSdp ∷ []) [] _ passes c.in_err-accepting_sdp.ensures)

pub returns : goal.returns
returns c =
    let names = c.in_ok-mount.ensures.names in
    let passes = passing_both c.args.self.now (RequiresNothing ∷ HasUri Describe ∷ HasItsSession Describe ∷ []) (NamesAStream Describe ∷ FitsState Describe ∷ []) c.in_ok-target.ensures.1
    (describes c.args.self.now c.in_ok-target.target names.0 names.1) in
    record {
      method_is = refl;
      passes = passing_both c.args.self.now (RequiresNothing ∷ HasUri Describe ∷ HasItsSession Describe ∷ NamesAStream Describe ∷ FitsState Describe ∷ []) (AcceptsSdp ∷ []) passes c.in_ok-accepting_sdp.ensures;
      finds = λ history told. (names.0, names.1 history, names.2);
      there = c.in_ok-mount.ensures.there;
    }
