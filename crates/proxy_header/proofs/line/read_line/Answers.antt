use Rattle.std.proofs.Common.{List, ℕ, sym, subst}
use Rattle.proxy_header.specs.Readings.{IsReadLine}
use Rattle.proxy_header.proofs.Lines.{need_words}
use Rattle.proxy_header.proofs.line.read_line.Goals as goal

pub returns-in-Whole : goal.returns-in-Whole
returns-in-Whole c = subst (λ (l : List ℕ). IsReadLine l c.read_after.result) (sym c.in-Whole.ensures) c.read_after.ensures

pub returns-in-Begun : goal.returns-in-Begun
returns-in-Begun c = let begun = c.in-Begun.ensures in need_words begun.0.0 c.args.bytes.now begun.0.1 begun.1
