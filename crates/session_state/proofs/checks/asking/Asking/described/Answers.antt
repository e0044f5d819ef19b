use Rattle.std.proofs.Common.{IsSome, refl, rules, sym, subst}
use Rattle.session_state.proofs.CheckedNames.{named_is_numbered}
use Rattle.session_state.proofs.checks.asking.Asking.described.Goals as goal

pub returns-in-Some-clause-there : goal.returns-in-Some-clause-there
returns-in-Some-clause-there c =
    subst IsSome (sym (named_is_numbered c.args.self.now.mounts.now c.args.target.now.path c.in-Some.mount.now c.requires.sound (search rules))) refl
