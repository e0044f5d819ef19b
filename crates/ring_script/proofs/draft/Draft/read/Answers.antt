use Rattle.std.proofs.Common.{arith, sym, ◌∙◌}
use Rattle.ring_script.proofs.Drafting.{silent_ends}
use Rattle.ring_script.proofs.draft.Draft.read.Goals as goal

pub returns-in-None-clause-stuck : goal.returns-in-None-clause-stuck
returns-in-None-clause-stuck c = silent_ends c.args.self c.args.line.now (grind arith) (sym c.in-None.is ∙ c.in_ok-said.ensures)
