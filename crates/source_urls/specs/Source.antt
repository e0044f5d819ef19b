-- Sources: URLs as an operator writes them (RFC 2326, 3.2).
use Rattle.std.specs.Prelude.{◌≡◌, ℕ, not, if◌then◌else◌, List, ◌++◌, Option, None, Some, Result, Ok, Err, IsOk, ◌⊎◌, codes}
use Rattle.std.specs.Option.{option_map}
use Rattle.percent_encoding.specs.Percent.{percent_decode}
use Rattle.source_urls.specs.declared.fault.UrlFault.{UrlFault}
use Rattle.source_urls.specs.declared.fault.UrlFault.TheVariants as faults
use Rattle.source_urls.specs.declared.source.Source.{Source}
use Rattle.source_urls.specs.Host.{bare_host, is_host}
use Rattle.source_urls.specs.Parts.{can_have_password, has_password, has_scheme, host, port, rest, scheme_part, user}
use Rattle.source_urls.specs.Port.{port_number}
use Rattle.source_urls.specs.UriText.{has_uri_bytes, is_long}

-- what is wrong with another scheme
abbrev pub scheme_fault : List ℕ → UrlFault
scheme_fault text = if has_scheme (codes "rtsps://") text then faults.SecureScheme else faults.OtherScheme

-- what is wrong with the text before its port is looked at
unfoldable pub front_fault : List ℕ → Option UrlFault
front_fault text =
    if is_long text then Some faults.TooLong
    else if not (has_uri_bytes text) then Some faults.BadByte
    else if not (has_scheme (codes "rtsp://") text) then Some (scheme_fault text)
    else if has_password text then Some faults.HasPassword
    else if can_have_password text then Some faults.UnencodedPassword
    else if not (is_host (host text)) then Some faults.BadHost
    else None

-- the port, if the text says one
abbrev pub port_or_fault : Option ℕ → Result ℕ UrlFault
port_or_fault (Some number) = Ok number
port_or_fault None = Err faults.BadPort

abbrev pub unless_fault : Option UrlFault → Result ℕ UrlFault → Result ℕ UrlFault
unless_fault (Some fault) port = Err fault
unless_fault None port = port

-- the port of a URL that is accepted, or the first thing that is wrong with it
unfoldable pub accepted_port : List ℕ → Result ℕ UrlFault
accepted_port text = unless_fault (front_fault text) (port_or_fault (port_number (port text)))

-- the URI of its requests: the URL as it is written, without the user and the fragment
unfoldable pub request_uri : List ℕ → List ℕ
request_uri text = scheme_part text ++ host text ++ port text ++ rest text

-- the source that is read from a text that is accepted
pub record IsReadAs (text : List ℕ) (source : Source) : Type 0 where
  pub port : accepted_port text ≡ Ok source.port
  pub user : source.user ≡ option_map percent_decode (user text)
  pub host : source.host ≡ bare_host (host text)
  pub uri : source.uri ≡ request_uri text

-- Why a text is refused: the first fault of a text that has one. For want of memory only a text that has none.
abbrev pub IsSourceFault : List ℕ → UrlFault → Type 0
IsSourceFault text fault = (accepted_port text ≡ Err fault) ⊎ ((fault ≡ faults.OutOfMemory) × IsOk (accepted_port text))
