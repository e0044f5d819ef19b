use Rattle.std.proofs.Common.{[], ◌∷◌}
use Rattle.session_state.specs.declared.checks.Check.TheVariants.{HasCSeq, HasVersion, HasMethod}
use Rattle.session_state.proofs.WellAsked.{method_alone}
use Rattle.session_state.proofs.checks.asking.Asking.method.Goals as goal

pub returns : goal.returns
returns c = method_alone c.args.self.now (HasCSeq ∷ HasVersion ∷ HasMethod ∷ []) c.method_in.result c.method_in.ensures
