-- What a refusal of the crate `url` means for a request.
use Rattle.url.specs.declared.error.ParseError.{ParseError}
use Rattle.url.specs.declared.error.ParseError.TheVariants.{EmptyHost, IdnaError, InvalidPort, InvalidIpv4Address, InvalidIpv6Address, InvalidDomainCharacter, RelativeUrlWithoutBase, RelativeUrlWithCannotBeABaseBase, SetHostOnCannotBeABaseUrl, Overflow, CannotSet, OutOfMemory as NoMemory}
use Rattle.mounts.specs.declared.fault.UriFault.{UriFault}
use Rattle.mounts.specs.declared.fault.UriFault.TheVariants.{BadUri, OutOfMemory}

-- a URL that came to 4 GB counts as out of memory
abbrev pub fault_of : ParseError → UriFault
fault_of Overflow = OutOfMemory
fault_of NoMemory = OutOfMemory
fault_of EmptyHost = BadUri
fault_of IdnaError = BadUri
fault_of InvalidPort = BadUri
fault_of InvalidIpv4Address = BadUri
fault_of InvalidIpv6Address = BadUri
fault_of InvalidDomainCharacter = BadUri
fault_of RelativeUrlWithoutBase = BadUri
fault_of RelativeUrlWithCannotBeABaseBase = BadUri
fault_of SetHostOnCannotBeABaseUrl = BadUri
fault_of CannotSet = BadUri
