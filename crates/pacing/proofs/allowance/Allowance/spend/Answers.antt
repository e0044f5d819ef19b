use Rattle.std.proofs.Common.{rules, subst, sym}
use Rattle.pacing.specs.Allowances.{IsWithin}
use Rattle.pacing.proofs.Bounding.{stays_within}
use Rattle.pacing.proofs.allowance.Allowance.spend.Goals as goal

pub returns-clause-new : goal.returns-clause-new
returns-clause-new c = search rules

pub returns-clause-within : goal.returns-clause-within
returns-clause-within c within order most =
    subst IsWithin (sym (returns-clause-new c)) (stays_within c.args.self.now c.args.began c.args.ended within order most)
