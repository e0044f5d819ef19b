-- The methods (RFC 2326, 10), and what each is allowed in (A.2).
use Rattle.std.specs.Prelude.{ℕ, Bool, true, false, if◌then◌else◌, List, Option, None, Some, codes}
use Rattle.std.specs.Str.{bytes_eq}
use Rattle.session_state.specs.declared.method.Method.{Method}
use Rattle.session_state.specs.declared.method.Method.TheVariants.{Options, Describe, Announce, Setup, Play, Pause, Record, Teardown, GetParameter}

-- the method of a name, which is compared exactly (RFC 2326, 6.1); none of another name
unfoldable pub method_of : List ℕ → Option Method
method_of name =
    if bytes_eq name (codes "OPTIONS") then Some Options
    else (if bytes_eq name (codes "DESCRIBE") then Some Describe
    else (if bytes_eq name (codes "ANNOUNCE") then Some Announce
    else (if bytes_eq name (codes "SETUP") then Some Setup
    else (if bytes_eq name (codes "PLAY") then Some Play
    else (if bytes_eq name (codes "PAUSE") then Some Pause
    else (if bytes_eq name (codes "RECORD") then Some Record
    else (if bytes_eq name (codes "TEARDOWN") then Some Teardown
    else (if bytes_eq name (codes "GET_PARAMETER") then Some GetParameter
    else None))))))))

-- the methods as the Public field lists them (RFC 2326, 10.1 and 12.28)
abbrev pub public_methods : List ℕ
public_methods = codes "OPTIONS, DESCRIBE, ANNOUNCE, SETUP, PLAY, PAUSE, RECORD, TEARDOWN, GET_PARAMETER"

abbrev pub is_announce : Method → Bool
is_announce Announce = true
is_announce method = false

abbrev pub is_setup : Method → Bool
is_setup Setup = true
is_setup method = false

abbrev pub is_teardown : Method → Bool
is_teardown Teardown = true
is_teardown method = false

-- the methods that a session's state goes by (RFC 2326, A.2)
abbrev pub moves : Method → Bool
moves Setup = true
moves Play = true
moves Record = true
moves Pause = true
moves method = false
