-- The port of a URL (RFC 2326, 3.2: "If the port is empty or not given, port 554 is assumed").
use Rattle.std.specs.Prelude.{ℕ, ◌==◌, if◌then◌else◌, List, [], ◌∷◌, Option, None, Some}
use Rattle.std.specs.Option.{option_and_then}
use Rattle.base_syntax.specs.Numbers.{number_up_to}

abbrev pub rtsp_port : ℕ
rtsp_port = 554

-- a number, if it is not 0
abbrev pub positive : ℕ → Option ℕ
positive number = if number == 0 then None else Some number

-- the port that digits write: 1 to 65,535, or 554 if there are none
abbrev pub digits_port : (digits : List ℕ) → Option ℕ
digits_port [] = Some rtsp_port
digits_port (digit ∷ digits) = option_and_then positive (number_up_to 65535 (digit ∷ digits))

-- the port of a text that is nothing, or a colon and digits
abbrev pub port_number : List ℕ → Option ℕ
port_number [] = Some rtsp_port
port_number (b ∷ digits) = if b == 58 then digits_port digits else None
