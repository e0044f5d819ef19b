use Rattle.std.proofs.Common.{◌≤◌, ◌^◌, ◌+◌, length, ap, arith}
use Rattle.outgoing.proofs.Dropping.{drops_whole, frames_fit, nothing_dropped, one_more}
use Rattle.outgoing.proofs.marks.drop_whole.Goals as goal

pub loop-mark-init : goal.loop-mark-init
loop-mark-init c = nothing_dropped _ _

pub overflow_sub-count : goal.overflow_sub-count
overflow_sub-count c = c.loop-mark.invariant.within

pub overflow_add-taken-in-Some : goal.overflow_add-taken-in-Some
overflow_add-taken-in-Some c =
    let marks = c.args.marks.now in
    let fits : length marks.items ≤ 2 ^ 63 = omega (arith, marks.ok.0, marks.small) in
    let most : c.loop-mark.taken.frames + c.frames.result ≤ 2 ^ 63 = frames_fit _ _ _ _ _ _ _ _ c.loop-mark.invariant c.in-Some.ensures.some.0 c.frames.ensures fits in
    omega (arith, most)

pub loop-mark-smaller : goal.loop-mark-smaller
loop-mark-smaller c = omega (arith, ap length c.in-Some.ensures.some.0)

pub loop-mark-preserved : goal.loop-mark-preserved
loop-mark-preserved c = one_more _ _ _ _ _ _ _ c.loop-mark.invariant c.in-Some.ensures.some.0 c.in-Some.ensures.some.1 c.frames.ensures

pub returns : goal.returns
returns c = drops_whole _ _ _ _ _ c.loop-mark.invariant c.in_default.ensures.none.0 c.in_default.ensures.none.1 c.requires
