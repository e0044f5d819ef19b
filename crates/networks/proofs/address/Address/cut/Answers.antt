use Rattle.std.proofs.Common.{ap, ◌∙◌, ◌-◌, ◌*◌, ◌/◌, ◌^◌}
use Rattle.networks.specs.Addresses.{width_of}
use Rattle.networks.proofs.Binary.{binary_kept}
use Rattle.networks.proofs.address.Address.cut.Goals as goal

pub returns-in-V4-clause-bits : goal.returns-in-V4-clause-bits
returns-in-V4-clause-bits c =
    let lost = c.saturating_sub-lost.ensures ∙ ap (λ w. w - c.args.bits) (c.width-width.ensures.value ∙ ap width_of c.in-V4.is) in
    rw c.in-V4.is (binary_kept 32 c.in-V4.number c.args.bits _ _ lost (c.without_last.ensures ∙ ap (λ n. n / 2 ^ c.saturating_sub-lost.result * 2 ^ c.saturating_sub-lost.result) c.from.ensures))

pub returns-in-V6-clause-bits : goal.returns-in-V6-clause-bits
returns-in-V6-clause-bits c =
    let lost = c.saturating_sub-lost.ensures ∙ ap (λ w. w - c.args.bits) (c.width-width.ensures.value ∙ ap width_of c.in-V6.is) in
    rw c.in-V6.is (binary_kept 128 c.in-V6.number c.args.bits _ _ lost c.without_last-in-V6.ensures)
