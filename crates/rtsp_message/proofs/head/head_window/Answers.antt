use Rattle.std.proofs.Common.{◌≤◌, length, sym, arith}
use Rattle.std.proofs.lemmas.List.{take_all}
use Rattle.rtsp_message.specs.Limits.{head_limit}
use Rattle.rtsp_message.proofs.head.head_window.Goals as goal

pub returns-then-bytes-lt-MAX_HEAD : goal.returns-then-bytes-lt-MAX_HEAD
returns-then-bytes-lt-MAX_HEAD c =
    let short : length c.args.bytes.now ≤ head_limit = omega arith in
    sym (take_all head_limit c.args.bytes.now short)
