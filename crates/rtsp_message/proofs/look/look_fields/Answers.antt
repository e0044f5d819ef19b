use Rattle.std.proofs.Common.{◌+◌, ◌-◌, length, drop, sym, ap, subst, arith, length-drop}
use Rattle.rtsp_message.specs.Knowns.{IsMessageStart}
use Rattle.rtsp_message.proofs.Looking.{NextLine, next_line, next_good, next_bad, next_empty, message_looked, message_looks, fields_looked, fields_looks}
use Rattle.rtsp_message.proofs.Counting.{looks_add, looks_then}
use Rattle.rtsp_message.proofs.look.look_fields.Goals.{After-judge_line}
use Rattle.rtsp_message.proofs.look.look_fields.Goals as goal

next : (c : After-judge_line) → NextLine (drop c.args.from c.args.store.now.bytes) c.loop-end.line c.in-Some.end c.without_cr.result.now
next c =
    next_line c.args.store.now.bytes c.loop-end.store.bytes c.line_end.new.store.bytes c.args.from c.loop-end.line c.loop-end.searched c.in-Some.end c.line.result.now c.without_cr.result.now
    c.loop-end.invariant.0.in_order c.loop-end.invariant.0.none_found c.loop-end.invariant.1.bytes c.line_end.ensures.counts.bytes c.in-Some.ensures.some.0 c.line.ensures.bytes c.without_cr.ensures

pub returns-in-Empty-clause-found : goal.returns-in-Empty-clause-found
returns-in-Empty-clause-found c =
    let bytes = drop c.args.from c.args.store.now.bytes in
    let end = c.in-Some.end in
    let start = next_empty c.args.peer bytes c.loop-end.line c.loop-end.searched end c.without_cr.result.now c.loop-end.invariant.0 c.in-Some.ensures.some.1 (next (goal.at.returns-in-Empty-clause-found c).After-judge_line) c.in-Empty.ensures in
    let message : IsMessageStart c.args.peer bytes (end + 1) (end + 1 + c.unwrap_or.result) = subst (λ n. IsMessageStart c.args.peer bytes (end + 1) (end + 1 + n)) (sym c.unwrap_or.ensures) start in
    message_looked c.args.peer bytes (end + 1) (end + 1 + c.unwrap_or.result) (c.len.result - c.args.from) c.look_message.result message (omega (arith, length-drop c.args.from c.args.store.now.bytes)) c.look_message.ensures.whole c.look_message.ensures.waits

pub returns-in-Empty-clause-counts : goal.returns-in-Empty-clause-counts
returns-in-Empty-clause-counts c =
    let end = c.in-Some.end in
    let line = next (goal.at.returns-in-Empty-clause-counts c).After-judge_line in
    let looks = message_looks (length (drop c.args.from c.args.store.now.bytes)) (end + 1) (end + 1 + c.unwrap_or.result) (c.len.result - c.args.from) c.look_message.result c.look_message.ensures.whole c.look_message.ensures.waits in
    looks_add c.args.store.now c.loop-end.store c.line_end.new.store c.line.follows.lender-at-none _ _ _ _ (c.args.from + end - (c.args.from + c.loop-end.line)) _ _
    c.loop-end.invariant.1 c.in-Some.ensures.counts c.line.follows.holds-at-none (omega (arith, looks, line.low))

pub returns-in-Bad-clause-found : goal.returns-in-Bad-clause-found
returns-in-Bad-clause-found c =
    next_bad c.args.peer (drop c.args.from c.args.store.now.bytes) c.loop-end.line c.loop-end.searched c.in-Some.end c.without_cr.result.now c.in-Bad.fault c.loop-end.invariant.0 c.in-Some.ensures.some.1
    (next (goal.at.returns-in-Bad-clause-found c).After-judge_line) c.in-Bad.ensures

pub loop-end-preserved : goal.loop-end-preserved
loop-end-preserved c =
    let end = c.in-Some.end in
    let line = next (goal.at.loop-end-preserved c).After-judge_line in (
      next_good c.args.peer (drop c.args.from c.args.store.now.bytes) c.loop-end.line c.loop-end.searched end c.without_cr.result.now c.loop-end.invariant.0 c.in-Some.ensures.some.1 line c.in-Header.ensures,
      looks_add c.args.store.now c.loop-end.store c.line_end.new.store c.line.follows.lender-at-none _ _ _ _ (c.args.from + end - (c.args.from + c.loop-end.line)) _ _
          c.loop-end.invariant.1 c.in-Some.ensures.counts c.line.follows.holds-at-none (omega (arith, line.low)),
    )

pub returns-clause-found : goal.returns-clause-found
returns-clause-found c =
    let bytes = drop c.args.from c.args.store.now.bytes in
    fields_looked c.args.peer bytes c.loop-end.line c.loop-end.searched (c.len.result - c.args.from) c.unended.result c.loop-end.invariant.0
    (rw c.loop-end.invariant.1.bytes at c.in_default.ensures.none) (omega (arith, length-drop c.args.from c.args.store.now.bytes)) c.unended.ensures.long c.unended.ensures.short

pub returns-clause-counts : goal.returns-clause-counts
returns-clause-counts c =
    let size = length (drop c.args.from c.args.store.now.bytes) in
    let same = ap (λ l. length (drop c.args.from l)) c.loop-end.invariant.1.bytes in
    let looks = fields_looks size c.loop-end.line (c.len.result - c.args.from) c.loop-end.told c.unended.result (omega (arith, length-drop c.args.from c.args.store.now.bytes)) (omega (arith, c.loop-end.invariant.0.in_order, c.loop-end.invariant.0.within)) c.unended.ensures.long c.unended.ensures.short in
    looks_then c.args.store.now c.loop-end.store c.line_end.new.store _ _ _ _ _ _ c.loop-end.invariant.1 c.in_default.ensures.counts (omega (arith, looks, same))
