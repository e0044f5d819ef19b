use Rattle.std.proofs.Common.{◌-◌, drop}
use Rattle.rtsp_message.proofs.Finding.{lf_behind}
use Rattle.rtsp_message.proofs.Looking.{window_none, window_past}
use Rattle.rtsp_message.proofs.look.line_end.Goals as goal

pub returns-in_err-end-clause-none : goal.returns-in_err-end-clause-none
returns-in_err-end-clause-none c = rw c.from_residual.ensures (window_none c.args.store.now.bytes c.args.from c.args.searched c.in_err-end.ensures.none)

pub returns-else-end-lt-MAX_HEAD-clause-none : goal.returns-else-end-lt-MAX_HEAD-clause-none
returns-else-end-lt-MAX_HEAD-clause-none c =
    window_past (drop c.args.from c.args.store.now.bytes) c.args.searched (c.in_ok-end.field-0 - c.args.from) c.if-end-lt-MAX_HEAD.false
    (lf_behind c.args.store.now.bytes c.args.from c.args.searched c.in_ok-end.field-0 c.in_ok-end.ensures.some)
