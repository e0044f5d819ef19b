use Rattle.std.proofs.Common.{◌≡◌, ◌≤◌, ◌∙◌, sym, ap, take, arith, rules}
use Rattle.std.specs.Prelude.{IsTrue}
use Rattle.networks.specs.declared.address.Address.{Address}
use Rattle.networks.specs.Addresses.{bits_of, width_of}
use Rattle.networks.proofs.Addresses.{IsCutOf, cut_is, take-cut}
use Rattle.networks.proofs.network.Network.contains.Goals as goal

pub returns : goal.returns
returns c =
    let network = c.args.self.now in
    let to : IsTrue c.eq.result → c.cut.result ≡ network.address = search rules in
    let from : c.cut.result ≡ network.address → IsTrue c.eq.result = search rules in
    let cut : IsCutOf c.args.address c.cut.result network.bits =
    record { width = c.cut.ensures.width; fits = c.cut.ensures.fits; bits_are = c.cut.ensures.bits } in (
      λ yes.
          let e = to yes in
          let family : width_of c.args.address ≡ width_of network.address = sym c.cut.ensures.width ∙ ap width_of e in
          let fits : network.bits ≤ width_of c.args.address = omega (arith, family, network.fits) in
          record { family = family; prefix = sym (take-cut _ _ _ cut fits) ∙ ap (λ (a : Address). take network.bits (bits_of a)) e },
      λ h. from (cut_is _ _ _ _ cut network.fits_family network.no_host_bits h.family h.prefix),
    )
