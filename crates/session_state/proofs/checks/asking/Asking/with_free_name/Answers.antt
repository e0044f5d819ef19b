use Rattle.std.proofs.Common.{inl, refl}
use Rattle.session_state.specs.Asking.{asked_in}
use Rattle.session_state.proofs.CheckedAnnounce.{none_free}
use Rattle.session_state.proofs.checks.asking.Asking.with_free_name.Goals as goal

pub returns-else-is_free_name : goal.returns-else-is_free_name
returns-else-is_free_name c = λ history told. inl (refl, none_free (asked_in c.args.self.now history) c.args.target.now c.requires (c.if-is_free_name.ensures history))
