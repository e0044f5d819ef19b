use Rattle.std.proofs.Common.{◌+◌, ◌-◌, length, ap, arith}
use Rattle.std.proofs.lemmas.Slice.{drop-put_mid}
use Rattle.outgoing.proofs.buffer.put_at.Goals as goal

pub returns-clause-back : goal.returns-clause-back
returns-clause-back c =
    let end = c.args.at + length c.args.bytes.now in
    drop-put_mid c.args.at (end - c.args.at) c.args.block.now c.copy_from_slice.new.self end (omega arith) (omega arith)
    (omega (arith, ap length c.copy_from_slice.ensures.after))
