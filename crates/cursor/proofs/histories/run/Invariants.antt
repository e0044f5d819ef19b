use Rattle.std.proofs.Common.{◌≡◌, take, vec_len, ◌≤◌, length}
use Rattle.std.specs.Vec.{vec_capacity}
use Rattle.cursor.specs.Plain.{Replies}
use Rattle.cursor.proofs.histories.run.Given as goal

-- the calls so far have these replies, and there is room for the others
abbrev pub invariant-loop-call : goal.invariant-loop-call
invariant-loop-call l = record {
  replied : Replies l.fn.log (take l.call-index l.calls) l.replies.items l.log;
  len : vec_len l.replies ≡ l.call-index;
  room : length l.calls ≤ vec_capacity l.replies;
}
