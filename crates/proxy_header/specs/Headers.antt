-- The header with which a proxy begins a connection (HAProxy's PROXY protocol, 2).
use Rattle.std.specs.Prelude.{◌≡◌, ◌≤◌, ◌⊎◌, ℕ, List, ◌++◌, Option, length, take}
use Rattle.std.specs.declared.net.socket_addr.SocketAddr.{SocketAddr}
use Rattle.proxy_header.specs.Blocks.{BeginsBlock, IsBlock}
use Rattle.proxy_header.specs.Lines.{BeginsLine, IsLine}
use Rattle.proxy_header.specs.declared.header.Header.{Header as Found}
use Rattle.proxy_header.specs.declared.header.Reading.{Reading}
use Rattle.proxy_header.specs.declared.header.Reading.TheVariants.{Bad, Header, NeedMore}

-- the bytes are a header of either version, which gives the client's address or none
abbrev pub IsHeader : List ℕ → Option SocketAddr → Type 0
IsHeader bytes client = IsLine bytes client ⊎ IsBlock bytes client

-- The bytes begin with this header.
pub record IsHeaderOf (bytes : List ℕ) (header : Found) : Type 0 where
  pub within : header.len ≤ length bytes
  pub is : IsHeader (take header.len bytes) header.client

-- they begin with none
abbrev pub HasNoHeader : List ℕ → Type 0
HasNoHeader bytes = (front rest : List ℕ) (client : Option SocketAddr) → bytes ≡ front ++ rest → IsHeader front client → ⊥

-- and with none, whatever comes after them
abbrev pub BeginsNone : List ℕ → Type 0
BeginsNone bytes = (more : List ℕ) → HasNoHeader (bytes ++ more)

-- they may begin one
abbrev pub Begins : List ℕ → Type 0
Begins bytes = BeginsLine bytes ⊎ BeginsBlock bytes

abbrev pub OnHeader : Reading → (Found → Type 0) → Type 0
OnHeader (Header header) P = P header
OnHeader NeedMore P = Unit {0}
OnHeader (Bad fault) P = Unit {0}

abbrev pub OnBad : Reading → Type 0 → Type 0
OnBad (Bad fault) P = P
OnBad NeedMore P = Unit {0}
OnBad (Header header) P = Unit {0}
