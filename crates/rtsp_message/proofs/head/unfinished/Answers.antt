use Rattle.std.proofs.Common.{subst, arith, ◌≤◌, length}
use Rattle.rtsp_message.specs.Limits.{head_limit}
use Rattle.std.proofs.lemmas.List.{take_all}
use Rattle.rtsp_message.specs.Heads.{GoesOn}
use Rattle.rtsp_message.proofs.head.unfinished.Goals as goal

pub returns-else-is_long : goal.returns-else-is_long
returns-else-is_long c =
    let short : length c.args.bytes.now ≤ head_limit = omega arith in
    (subst (GoesOn c.args.peer) (take_all head_limit c.args.bytes.now short) c.requires, c.if-is_long.false)
