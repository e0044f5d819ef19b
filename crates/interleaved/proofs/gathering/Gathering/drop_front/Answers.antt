use Rattle.std.proofs.Common.{◌≤◌, ◌-◌, ◌∙◌, ap, take, length, arith, length-take, refl}
use Rattle.interleaved.proofs.Gathered.{rest_kept}
use Rattle.interleaved.proofs.gathering.Gathering.drop_front.Goals as goal

pub returns : goal.returns
returns g c =
    let gone = c.args.gone in
    let count = c.self.inside.count in
    let items = c.self.inside.buffer.items in
    let some : gone ≤ count = omega (arith, rw (← c.self.view_is) at c.requires, length-take count items) in
    let within : count ≤ length items = omega (arith, c.self.invariant) in
    let kept = ap (take (count - gone)) c.copy_within.ensures.items ∙ rest_kept items gone count some within in
    rw (← c.self.view_is) (rw kept (rw c.copy_within.ensures.len refl))
