use Rattle.std.proofs.Common.{◌≡◌, Some, inl, refl, rules}
use Rattle.std.specs.Option.{option_copied}
use Rattle.session_state.specs.Asking.{asked_in}
use Rattle.session_state.proofs.CheckedSession.{none_in_session}
use Rattle.session_state.proofs.checks.asking.Asking.named_in_session.Goals as goal

pub returns-in_default-2-clause-named : goal.returns-in_default-2-clause-named
returns-in_default-2-clause-named c =
    let has : option_copied c.args.self.now.session ≡ Some c.in-Some.session.now = search rules in
    let none = rw c.in_default-2.is at c.in_ok-named.ensures in
    λ history told. inl (refl, none_in_session (asked_in c.args.self.now history) c.args.method c.in-Some.session.now c.args.target.now c.requires.method has c.requires.uri (none history told))
