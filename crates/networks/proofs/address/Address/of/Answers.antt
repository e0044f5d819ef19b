use Rattle.std.proofs.Common.{ap, refl}
use Rattle.std.proofs.lemmas.Slice.Eq.{bytes_eq-Decides}
use Rattle.std.specs.Net.Addr.{ipv4_bits}
use Rattle.networks.specs.declared.address.Address.TheVariants.{V4}
use Rattle.networks.proofs.address.Address.of.Goals as goal

pub returns-in-Some : goal.returns-in-Some
unfolding ipv4_bits
returns-in-Some c =
    let mapped = (bytes_eq-Decides _ _).1 (c.in-Some.ensures.found.0 refl) in
    rw (c.in-V6.is, mapped, ← c.in-Some.ensures.value) (ap V4 c.to_bits-in-Some.ensures)
