-- What a part of the bytes of a header is read as, for headers of one kind.
use Rattle.std.specs.Prelude.{◌≡◌, ◌<◌, ◌≤◌, ℕ, List, ◌∷◌, ◌++◌, Option, length, take}
use Rattle.std.specs.declared.net.socket_addr.SocketAddr.{SocketAddr}
use Rattle.proxy_header.specs.Beginnings.{IsBegun, IsOther}
use Rattle.proxy_header.specs.Blocks.{BeginsBlock, IsBlock, IsContent, signature}
use Rattle.proxy_header.specs.Lines.{BeginsLine, IsLine, words}
use Rattle.proxy_header.specs.declared.body.Content.{Content}
use Rattle.proxy_header.specs.declared.header.Reading.{Reading}
use Rattle.proxy_header.specs.declared.header.Reading.TheVariants.{Bad, Header, NeedMore}
use Rattle.proxy_header.specs.declared.line.Protocol.{Protocol}
use Rattle.proxy_header.specs.declared.line.Words.{Words}
use Rattle.proxy_header.specs.declared.line.Words.TheVariants.{Begun, Other, Whole}

-- no header of this kind is the front of the bytes
abbrev pub HasNone : (IsKind : List ℕ → Option SocketAddr → Type 0) → List ℕ → Type 0
HasNone IsKind bytes = (front rest : List ℕ) (client : Option SocketAddr) → bytes ≡ front ++ rest → IsKind front client → ⊥

-- what a reading says of the bytes, for headers of a kind and for bytes that may begin one
abbrev pub IsReadAs : (IsKind : List ℕ → Option SocketAddr → Type 0) → (MayBegin : List ℕ → Type 0) → List ℕ → Reading → Type 0
IsReadAs IsKind MayBegin bytes (Header header) = (header.len ≤ length bytes) × IsKind (take header.len bytes) header.client
IsReadAs IsKind MayBegin bytes NeedMore = MayBegin bytes × HasNone IsKind bytes × (length bytes < 2048)
IsReadAs IsKind MayBegin bytes (Bad fault) = (more : List ℕ) → HasNone IsKind (bytes ++ more)

abbrev pub IsReadLine : List ℕ → Reading → Type 0
IsReadLine bytes reading = IsReadAs IsLine BeginsLine bytes reading

abbrev pub IsReadBlock : List ℕ → Reading → Type 0
IsReadBlock bytes reading = IsReadAs IsBlock BeginsBlock bytes reading

-- after the command and the family of a block with this content
abbrev pub IsReadBody : Content → (rest : List ℕ) → Reading → Type 0
IsReadBody content rest reading = (command family : ℕ) → IsContent command family content → IsReadBlock (signature ++ command ∷ family ∷ rest) reading

-- the words of a line with which bytes begin
abbrev pub AreWordsOf : List ℕ → Words → Type 0
AreWordsOf bytes (Whole protocol rest) = bytes ≡ words protocol ++ rest.now
AreWordsOf bytes Begun = ((protocol : Protocol) × IsBegun bytes (words protocol)) × ((protocol : Protocol) (rest : List ℕ) → bytes ≡ words protocol ++ rest → ⊥)
AreWordsOf bytes Other = (protocol : Protocol) → IsOther bytes (words protocol)

-- no block has this command and family
abbrev pub IsNoContent : (command family : ℕ) → Type 0
IsNoContent command family = (content : Content) → IsContent command family content → ⊥
