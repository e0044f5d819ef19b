-- Targets: URLs under which a stream is published (RFC 2326, 3.2 and 10.3).
use Rattle.std.specs.Prelude.{◌≡◌, ℕ, ◌==◌, Bool, not, nat_lt, if◌then◌else◌, is_some, List, Option, None, Some, Result, Ok, Err, IsOk, ◌⊎◌, length}
use Rattle.std.specs.List.{list_any}
use Rattle.source_urls.specs.declared.fault.UrlFault.{UrlFault}
use Rattle.source_urls.specs.declared.fault.UrlFault.TheVariants as faults
use Rattle.source_urls.specs.declared.target.Target.{Target}
use Rattle.source_urls.specs.Host.{bare_host}
use Rattle.source_urls.specs.Parts.{fragment, host, rest, user}
use Rattle.source_urls.specs.Source.{accepted_port}
use Rattle.source_urls.specs.UriText.{is_slash_last}

-- a question mark begins the query (RFC 1808, 2.4.4)
abbrev pub has_query : (rest : List ℕ) → Bool
has_query rest = list_any (λ b. b == 63) rest

-- what is wrong with a path: nothing is behind its first slash, or it ends in another one
abbrev pub path_fault : (path : List ℕ) → Option UrlFault
path_fault path =
    if not (nat_lt 1 (length path)) then Some faults.NoPath
    else if is_slash_last path then Some faults.ClosingSlash
    else None

-- what a target doesn't have, and a source may have
unfoldable pub target_fault : List ℕ → Option UrlFault
target_fault text =
    if is_some (user text) then Some faults.HasUser
    else if is_some (fragment text) then Some faults.HasFragment
    else if has_query (rest text) then Some faults.HasQuery
    else path_fault (rest text)

-- a port that was accepted, unless there is another fault
abbrev pub and_then_fault : Result ℕ UrlFault → Option UrlFault → Result ℕ UrlFault
and_then_fault (Err fault) later = Err fault
and_then_fault (Ok port) (Some fault) = Err fault
and_then_fault (Ok port) None = Ok port

-- the port of a target that is accepted, or the first thing that is wrong with it
unfoldable pub target_port : List ℕ → Result ℕ UrlFault
target_port text = and_then_fault (accepted_port text) (target_fault text)

-- the target that is read from a text that is accepted
pub record IsReadAs (text : List ℕ) (target : Target) : Type 0 where
  pub port : target_port text ≡ Ok target.port
  pub host : target.host ≡ bare_host (host text)
  pub uri : target.uri ≡ text

-- Why a text is refused: the first fault of a text that has one. For want of memory only a text that has none.
abbrev pub IsTargetFault : List ℕ → UrlFault → Type 0
IsTargetFault text fault = (target_port text ≡ Err fault) ⊎ ((fault ≡ faults.OutOfMemory) × IsOk (target_port text))
