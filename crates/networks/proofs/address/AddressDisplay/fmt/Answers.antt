use Rattle.std.specs.Net.Addr.{IsIpv4OfBits, IsIpv6OfBits}
use Rattle.networks.proofs.address.AddressDisplay.fmt.Goals as goal

pub returns-in-V4-clause-writes : goal.returns-in-V4-clause-writes
unfolding IsIpv4OfBits
returns-in-V4-clause-writes g c = let w = rw c.from_bits.ensures at c.write.ensures.writes in rw c.in-V4.is w

pub returns-in-V6-clause-writes : goal.returns-in-V6-clause-writes
unfolding IsIpv6OfBits
returns-in-V6-clause-writes g c = let w = rw c.from_bits-in-V6.ensures at c.write-in-V6.ensures.writes in rw c.in-V6.is w
