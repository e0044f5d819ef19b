-- The words that a fault prints.
use Rattle.std.specs.Prelude.{ℕ, List, codes}
use Rattle.source_urls.specs.declared.control_fault.ControlFault.{ControlFault}
use Rattle.source_urls.specs.declared.control_fault.ControlFault.TheVariants as controls
use Rattle.source_urls.specs.declared.fault.UrlFault.{UrlFault}
use Rattle.source_urls.specs.declared.fault.UrlFault.TheVariants as faults

abbrev pub fault_text : UrlFault → List ℕ
fault_text faults.TooLong = codes "URL longer than 2048 bytes"
fault_text faults.BadByte = codes "blank, control character or byte over 0x7e in URL"
fault_text faults.SecureScheme = codes "rtsps is not supported"
fault_text faults.OtherScheme = codes "URL does not begin with rtsp://"
fault_text faults.HasPassword = codes "password in URL"
fault_text faults.UnencodedPassword = codes "@ after a port in URL: percent-encode a password, and the @ of a path"
fault_text faults.BadHost = codes "bad host in URL"
fault_text faults.BadPort = codes "bad port in URL"
fault_text faults.HasUser = codes "user in URL"
fault_text faults.HasFragment = codes "fragment in URL"
fault_text faults.HasQuery = codes "query in URL"
fault_text faults.NoPath = codes "no path in URL"
fault_text faults.ClosingSlash = codes "slash at the end of URL"
fault_text faults.OutOfMemory = codes "out of memory"

abbrev pub control_fault_text : ControlFault → List ℕ
control_fault_text controls.NoBase = codes "empty base URI"
control_fault_text controls.LongBase = codes "base URI longer than 2048 bytes"
control_fault_text controls.BadBase = codes "blank, control character or byte over 0x7e in base URI"
control_fault_text controls.LongControl = codes "control URI longer than 2048 bytes"
control_fault_text controls.BadControl = codes "blank, control character or byte over 0x7e in control URI"
control_fault_text controls.OtherScheme = codes "control URI of another scheme than rtsp"
control_fault_text controls.OutOfMemory = codes "out of memory"
