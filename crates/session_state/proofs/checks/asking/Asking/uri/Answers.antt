use Rattle.std.proofs.Common.{[], ◌∷◌}
use Rattle.session_state.specs.declared.checks.Check.TheVariants.{RequiresNothing, HasUri}
use Rattle.session_state.proofs.WellAsked.{uri_alone}
use Rattle.session_state.proofs.checks.asking.Asking.uri.Goals as goal

pub returns : goal.returns
returns c = uri_alone c.args.self.now c.args.method (RequiresNothing ∷ HasUri c.args.method ∷ []) c.uri_in.result c.uri_in.ensures
