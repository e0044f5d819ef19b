-- What is said of a fault.
use Rattle.std.specs.Prelude.{ℕ, List, codes}
use Rattle.proxy_header.specs.declared.fault.HeaderFault.{HeaderFault}
use Rattle.proxy_header.specs.declared.fault.HeaderFault.TheVariants.{BadCommand, BadFamily, BadLine, LineTooLong, NoHeader, TooLong, TooShort}

abbrev pub fault_text : HeaderFault → List ℕ
fault_text NoHeader = codes "no PROXY header"
fault_text BadLine = codes "bad PROXY line"
fault_text LineTooLong = codes "PROXY line too long"
fault_text BadCommand = codes "unknown PROXY version or command"
fault_text BadFamily = codes "unknown PROXY family"
fault_text TooShort = codes "PROXY header too short"
fault_text TooLong = codes "PROXY header too long"
