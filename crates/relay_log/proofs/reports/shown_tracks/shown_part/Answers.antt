use Rattle.std.proofs.Common.{arith}
use Rattle.std.proofs.lemmas.List.{length-take-le, take_all}
use Rattle.std.proofs.lemmas.Grind.{common_steps}
use Rattle.relay_log.proofs.reports.shown_tracks.shown_part.Goals as goal

pub slice_bounds-result-end :
    goal.slice_bounds-result-end
slice_bounds-result-end c =
    let front = length-take-le 64 c.args.text.now in
    grind (arith, front)

pub returns-then-text-le-SHOWN_BYTES : goal.returns-then-text-le-SHOWN_BYTES
returns-then-text-le-SHOWN_BYTES c =
    let all = take_all 64 c.args.text.now c.if-text-le-SHOWN_BYTES.true in
    grind (arith, common_steps, all)
