-- The header of version 1: a line of text (HAProxy's PROXY protocol, 2.1).
use Rattle.std.specs.Prelude.{◌≡◌, ◌<◌, ◌≤◌, ◌⊎◌, ℕ, List, [], ◌∷◌, ◌++◌, Option, codes, length}
use Rattle.std.specs.declared.net.socket_addr.SocketAddr.{SocketAddr}
use Rattle.proxy_header.specs.Beginnings.{IsBegun}
use Rattle.proxy_header.specs.Fields.{GivesClient}
use Rattle.proxy_header.specs.declared.line.Protocol.{Protocol}
use Rattle.proxy_header.specs.declared.line.Protocol.TheVariants.{Tcp4, Tcp6, Unknown}

-- the words with which a line of each protocol begins
abbrev pub words : Protocol → List ℕ
words Tcp4 = codes "PROXY TCP4 "
words Tcp6 = codes "PROXY TCP6 "
words Unknown = codes "PROXY UNKNOWN"

-- a CR and an LF end the line
abbrev pub crlf : List ℕ
crlf = 13 ∷ 10 ∷ []

-- and stand nowhere before
abbrev pub HasNoCrlf : List ℕ → Type 0
HasNoCrlf text = (front rest : List ℕ) → text ≡ front ++ crlf ++ rest → ⊥

-- A line: its words, a text that gives the client's address or none, and a CR LF. It has at most 107 bytes.
pub record IsLine (bytes : List ℕ) (client : Option SocketAddr) : Type 0 where
  pub protocol : Protocol
  pub text : List ℕ
  pub whole : bytes ≡ words protocol ++ text ++ crlf
  pub unbroken : HasNoCrlf text
  pub most : length bytes ≤ 107
  pub gives : GivesClient protocol text client

-- Bytes that may begin a line: as far as they go they are the words of one, and then a text of which no CR LF has come; there is room for one.
pub record BeginsLine (bytes : List ℕ) : Type 0 where
  pub protocol : Protocol
  pub begun : IsBegun bytes (words protocol) ⊎ ((text : List ℕ) × (bytes ≡ words protocol ++ text) × HasNoCrlf text)
  pub few : length bytes < 107
