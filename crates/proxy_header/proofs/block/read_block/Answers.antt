use Rattle.std.proofs.Common.{List, ℕ, sym, subst}
use Rattle.proxy_header.specs.Readings.{IsReadBlock}
use Rattle.proxy_header.proofs.Blocks.{need_begun, none_other}
use Rattle.proxy_header.proofs.block.read_block.Goals as goal

pub returns-in-Whole : goal.returns-in-Whole
returns-in-Whole c = subst (λ (l : List ℕ). IsReadBlock l c.read_behind.result) (sym c.in-Whole.ensures) c.read_behind.ensures

pub returns-in-Begun : goal.returns-in-Begun
returns-in-Begun c = need_begun c.args.bytes.now c.in-Begun.ensures

pub returns-in-Other : goal.returns-in-Other
returns-in-Other c = none_other c.args.bytes.now c.in-Other.ensures
