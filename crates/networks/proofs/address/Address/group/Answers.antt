use Rattle.std.proofs.Common.{◌-◌, ◌++◌, ◌∙◌, ap, take, replicate}
use Rattle.networks.specs.declared.address.Address.{Address}
use Rattle.networks.specs.Addresses.{bits_of, width_of}
use Rattle.networks.proofs.address.Address.group.Goals as goal

pub returns-in-V6 : goal.returns-in-V6
returns-in-V6 c =
    rw c.in-V6.is (
      c.cut.ensures.width ∙ ap width_of c.in-V6.is,
      c.cut.ensures.bits ∙ ap (λ (a : Address). take 64 (bits_of a) ++ replicate (width_of a - 64) 0) c.in-V6.is,
    )
