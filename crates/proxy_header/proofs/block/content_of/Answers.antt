use Rattle.std.proofs.Common.{ℕ, inr, sym, ap, arith}
use Rattle.proxy_header.proofs.Contents.{unix}
use Rattle.proxy_header.proofs.block.content_of.Goals as goal

pub returns-in-33-eq34 : goal.returns-in-33-eq34
returns-in-33-eq34 c = inr (c.in-33-eq34.is-0, (2, omega arith, ap (λ (f : ℕ). (f, 36)) (sym c.in-33-eq34.is-1)))

pub returns-in-33-eq49 : goal.returns-in-33-eq49
returns-in-33-eq49 c = inr (c.in-33-eq49.is-0, unix c.args.family (omega arith) (omega arith))
