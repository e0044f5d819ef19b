-- The methods of requests, and what each kind of request is (RFC 2326, 10).
use Rattle.std.specs.Prelude.{ℕ, List, [], Option, None, Some, codes, unwrap_or}
use Rattle.request_text.specs.declared.asked.Asked.{Asked}
use Rattle.request_text.specs.declared.asked.Asked.TheVariants as asks
use Rattle.request_text.specs.declared.method.Method.{Method}
use Rattle.request_text.specs.declared.method.Method.TheVariants as methods

-- its name, in capitals (RFC 2326, 10)
abbrev pub name_of : Method → List ℕ
name_of methods.Options = codes "OPTIONS"
name_of methods.Describe = codes "DESCRIBE"
name_of methods.Announce = codes "ANNOUNCE"
name_of methods.Setup = codes "SETUP"
name_of methods.Record = codes "RECORD"
name_of methods.Play = codes "PLAY"
name_of methods.GetParameter = codes "GET_PARAMETER"
name_of methods.Teardown = codes "TEARDOWN"

-- the method of a request of the kind
abbrev pub method_of : Asked → Method
method_of asks.Options = methods.Options
method_of asks.Describe = methods.Describe
method_of (asks.Announce description) = methods.Announce
method_of (asks.Setup transport) = methods.Setup
method_of asks.Record = methods.Record
method_of asks.Play = methods.Play
method_of asks.GetParameter = methods.GetParameter
method_of asks.Teardown = methods.Teardown

-- the description that is sent: ANNOUNCE alone has one (RFC 2326, 10.3)
abbrev pub description_of : Asked → Option (List ℕ)
description_of asks.Options = None
description_of asks.Describe = None
description_of (asks.Announce description) = Some description.now
description_of (asks.Setup transport) = None
description_of asks.Record = None
description_of asks.Play = None
description_of asks.GetParameter = None
description_of asks.Teardown = None

-- the value of Transport: SETUP alone has one (RFC 2326, 10.4)
abbrev pub transport_of : Asked → Option (List ℕ)
transport_of asks.Options = None
transport_of asks.Describe = None
transport_of (asks.Announce description) = None
transport_of (asks.Setup transport) = Some transport.now
transport_of asks.Record = None
transport_of asks.Play = None
transport_of asks.GetParameter = None
transport_of asks.Teardown = None

-- the body: the description, if there is one
abbrev pub body_of : Asked → List ℕ
body_of asked = unwrap_or (description_of asked) []
