use Rattle.std.proofs.Common.{arith}
use Rattle.std.proofs.lemmas.List.{length-take-le, take_all}
use Rattle.std.proofs.lemmas.Grind.{common_steps}
use Rattle.relay_log.proofs.events.request_lines.shortened.Goals as goal

pub slice_bounds-result-end-else-text-le-MAX_NAME :
    goal.slice_bounds-result-end-else-text-le-MAX_NAME
slice_bounds-result-end-else-text-le-MAX_NAME c =
    let front = length-take-le 128 c.args.text.now in
    grind (arith, front)

pub returns-then-text-le-MAX_NAME : goal.returns-then-text-le-MAX_NAME
returns-then-text-le-MAX_NAME c =
    let all = take_all 128 c.args.text.now c.if-text-le-MAX_NAME.true in
    grind (arith, common_steps, all)
