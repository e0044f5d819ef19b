use Rattle.std.proofs.Common.{◌≡◌, ℕ, refl, ◌∙◌, arith}
use mathlib.Core.Logic.{inr}
use Rattle.ring_steps.specs.Ring.{new_seat}
use Rattle.packet_ring.proofs.FirstPasses.{first_view, rest_views, pass_of, one_more}
use Rattle.packet_ring.proofs.opening.passes.Goals as goal

pub loop-preserved : goal.loop-preserved
loop-preserved c = let k : ℕ = c.loop.counter in let n : ℕ = c.args.seats in let t = c.take-token.result.0 in let rest = c.take-token.result.1 in let z = c.args.ring.now.value.shared.id in let inv = c.loop.invariant in
    let token = c.take-token.ensures.token in let others = c.take-token.ensures.rest in let next = inv.1 in let at = others.1 in
    let new : t.me.view ≡ inr new_seat = first_view n k c.loop-test.true c.loop.rest.views t.me.view rest.views inv.2 others.2 in (
      others.0 ∙ inv.0,
      omega arith,
      rest_views n k c.loop-test.true c.loop.rest.views t.me.view rest.views inv.2 others.2,
      c.in_ok-push.ensures.items ∙ one_more z c.loop.passes.items k _ inv.3 (pass_of z t (token.0 ∙ inv.0) new token.3),
      refl,
      refl,
    )
