-- The URIs of tracks and sessions by their control attributes (RFC 2326, C.1.1). A relative control is written behind the base. The rules
-- of RFC 1808 and RFC 3986 for relative URLs are not used: they drop the query of the base and the last part of its path, and servers
-- expect both.
use Rattle.std.specs.Prelude.{◌≡◌, ℕ, false, not, nat_lt, if◌then◌else◌, List, [], ◌∷◌, ◌++◌, Option, None, Some, ◌⊎◌, unwrap_or, length, codes}
use Rattle.std.specs.Option.{option_and_then, option_or}
use Rattle.std.specs.Str.{bytes_eq}
use Rattle.base_syntax.specs.Blanks.{trimmed}
use Rattle.source_urls.specs.declared.control_fault.ControlFault.{ControlFault}
use Rattle.source_urls.specs.declared.control_fault.ControlFault.TheVariants as faults
use Rattle.source_urls.specs.Parts.{has_scheme}
use Rattle.source_urls.specs.Scheme.{has_other_scheme}
use Rattle.source_urls.specs.UriText.{has_uri_bytes, is_long, is_slash_last, slash}

-- the text, if it isn't empty
abbrev pub some_bytes : List ℕ → Option (List ℕ)
some_bytes [] = None
some_bytes (b ∷ bs) = Some (b ∷ bs)

-- the value of a header or of an attribute: its text without the blanks at its ends. Nothing but blanks is no value
abbrev pub value_of : Option (List ℕ) → Option (List ℕ)
value_of written = option_and_then (λ text. some_bytes (trimmed text)) written

-- the base: the value of Content-Base, else that of Content-Location, else the URI of the request (RFC 2326, C.1.1)
abbrev pub base_of : (content_base content_location : Option (List ℕ)) → (request : List ℕ) → List ℕ
base_of content_base content_location request = unwrap_or (option_or (value_of content_base) (value_of content_location)) request

-- the base, a slash unless it ends in one, and the control
abbrev pub joined : (base control : List ℕ) → List ℕ
joined base control = if is_slash_last base then base ++ control else base ++ slash ∷ control

-- the URI of a control attribute: itself if it is absolute, the base for `*`, and else the base with the control behind it
unfoldable pub controlled : (base control : List ℕ) → List ℕ
controlled base control =
    if has_scheme (codes "rtsp://") control then control
    else if bytes_eq control (codes "*") then base
    else joined base control

-- the URI, if there is a control or not
abbrev pub control_uri : (base : List ℕ) → (control : Option (List ℕ)) → List ℕ
control_uri base None = base
control_uri base (Some control) = controlled base control

-- what is wrong with a base
abbrev pub base_fault : List ℕ → Option ControlFault
base_fault base =
    if not (nat_lt 0 (length base)) then Some faults.NoBase
    else if is_long base then Some faults.LongBase
    else if not (has_uri_bytes base) then Some faults.BadBase
    else None

-- what is wrong with a control
abbrev pub text_fault : (control : List ℕ) → Option ControlFault
text_fault control =
    if is_long control then Some faults.LongControl
    else if not (has_uri_bytes control) then Some faults.BadControl
    else if has_other_scheme control then Some faults.OtherScheme
    else None

-- the first thing that is wrong with a base and a control
unfoldable pub control_fault : (base : List ℕ) → (control : Option (List ℕ)) → Option ControlFault
control_fault base control = option_or (base_fault base) (option_and_then text_fault control)

-- Both are accepted, and this is the URI.
pub record IsControlUri (base : List ℕ) (written : Option (List ℕ)) (uri : List ℕ) : Type 0 where
  pub accepted : control_fault base (value_of written) ≡ None
  pub value : uri ≡ control_uri base (value_of written)

-- Why there is no URI: the first fault, and for want of memory only if there is none.
abbrev pub IsControlFault : (base : List ℕ) → (written : Option (List ℕ)) → ControlFault → Type 0
IsControlFault base written fault =
    (control_fault base (value_of written) ≡ Some fault) ⊎ ((fault ≡ faults.OutOfMemory) × (control_fault base (value_of written) ≡ None))

-- neither absolute nor `*`
pub record IsRelative (control : List ℕ) : Type 0 where
  pub no_scheme : has_scheme (codes "rtsp://") control ≡ false
  pub no_star : bytes_eq control (codes "*") ≡ false

-- The URI begins with the base and ends with the control. Between them is a slash, unless the base ends in one.
pub record IsBehind (base control uri : List ℕ) : Type 0 where
  pub between : List ℕ
  pub whole : uri ≡ base ++ (between ++ control)
  pub one_slash : between ≡ (if is_slash_last base then [] else slash ∷ [])
