-- What is said of networks that are refused.
use Rattle.std.specs.Prelude.{ℕ, List, codes}
use Rattle.networks.specs.declared.fault.NetworkFault.{NetworkFault}
use Rattle.networks.specs.declared.fault.NetworkFault.TheVariants.{Empty, BadText, Mapped, TooManyBits, HostBits, OutOfMemory}

abbrev pub fault_text : NetworkFault → List ℕ
fault_text Empty = codes "empty network"
fault_text BadText = codes "not an IP address or a network such as 10.0.0.0/8"
fault_text Mapped = codes "IPv4-mapped address, to be written as IPv4"
fault_text TooManyBits = codes "prefix longer than the address"
fault_text HostBits = codes "host bits set after the prefix"
fault_text OutOfMemory = codes "out of memory"
