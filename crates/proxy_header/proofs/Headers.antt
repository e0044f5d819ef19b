-- The two versions, apart.
use Rattle.std.proofs.Common.{◌≡◌, ℕ, ◌<◌, Option, List, [], ◌∷◌, ◌++◌, length, get_or, refl, sym, ap, ◌∙◌, inl, inr, arith}
use Rattle.std.specs.declared.net.socket_addr.SocketAddr.{SocketAddr}
use Rattle.proxy_header.specs.Blocks.{IsBlock}
use Rattle.proxy_header.specs.Headers.{BeginsNone, HasNoHeader, OnBad}
use Rattle.proxy_header.specs.Lines.{BeginsLine, IsLine, words}
use Rattle.proxy_header.specs.Readings.{HasNone, IsReadBlock, IsReadLine}
use Rattle.proxy_header.specs.declared.header.Reading.{Reading}
use Rattle.proxy_header.specs.declared.header.Reading.TheVariants.{Bad, Header, NeedMore}
use Rattle.proxy_header.specs.declared.line.Protocol.{Protocol}
use Rattle.proxy_header.specs.declared.line.Protocol.TheVariants.{Tcp4, Tcp6, Unknown}
use Rattle.proxy_header.proofs.Lines.{line_whole}

-- a line begins with a P
words_first : (p : Protocol) (rest : List ℕ) → get_or (words p ++ rest) 0 0 ≡ 80
words_first Tcp4 rest = refl
words_first Tcp6 rest = refl
words_first Unknown rest = refl

pub line_first : (bytes front rest : List ℕ) (client : Option SocketAddr) → bytes ≡ front ++ rest → IsLine front client → get_or bytes 0 0 ≡ 80
line_first bytes front rest client e p = ap (λ (l : List ℕ). get_or l 0 0) (e ∙ line_whole front rest client p) ∙ words_first p.protocol _

-- and a block with a CR
pub block_first : (bytes front rest : List ℕ) (client : Option SocketAddr) → bytes ≡ front ++ rest → IsBlock front client → get_or bytes 0 0 ≡ 13
block_first bytes front rest client e p = ap (λ (l : List ℕ). get_or l 0 0) (e ∙ ap (λ (l : List ℕ). l ++ rest) p.whole)

first_stays : (bytes more : List ℕ) → 0 < length bytes → get_or (bytes ++ more) 0 0 ≡ get_or bytes 0 0
first_stays [] more some = absurd (omega arith)
first_stays (b ∷ bytes) more some = refl

pub no_line : (bytes : List ℕ) → (get_or bytes 0 0 ≡ 80 → ⊥) → HasNone IsLine bytes
no_line bytes other front rest client e p = other (line_first bytes front rest client e p)

pub no_block : (bytes : List ℕ) → get_or bytes 0 0 ≡ 80 → HasNone IsBlock bytes
no_block bytes first front rest client e p = let other = block_first bytes front rest client e p in absurd (omega (arith, other, first))

pub no_header : (bytes : List ℕ) → HasNone IsLine bytes → HasNone IsBlock bytes → HasNoHeader bytes
no_header bytes line block front rest client e p = elim p [ inl q ↦ line front rest client e q | inr q ↦ block front rest client e q ]

-- bytes that are bad as a line, or as a block
pub bad_line : (bytes : List ℕ) (reading : Reading) → 0 < length bytes → get_or bytes 0 0 ≡ 80 → IsReadLine bytes reading → OnBad reading (BeginsNone bytes)
bad_line bytes (Header header) some first read = tt
bad_line bytes NeedMore some first read = tt
bad_line bytes (Bad fault) some first read = λ more. no_header (bytes ++ more) (read more) (no_block (bytes ++ more) (first_stays bytes more some ∙ first))

pub bad_block : (bytes : List ℕ) (reading : Reading) → 0 < length bytes → (get_or bytes 0 0 ≡ 80 → ⊥) → IsReadBlock bytes reading → OnBad reading (BeginsNone bytes)
bad_block bytes (Header header) some other read = tt
bad_block bytes NeedMore some other read = tt
bad_block bytes (Bad fault) some other read = λ more. no_header (bytes ++ more) (no_line (bytes ++ more) (λ first. other (sym (first_stays bytes more some) ∙ first))) (read more)

-- bytes that may be a block
pub none_yet : (bytes : List ℕ) (reading : Reading) → (get_or bytes 0 0 ≡ 80 → ⊥) → IsReadBlock bytes reading → reading ≡ NeedMore → HasNoHeader bytes
none_yet bytes (Header header) other read e = absurd (cc)
none_yet bytes NeedMore other read e = no_header bytes (no_line bytes other) read.1
none_yet bytes (Bad fault) other read e = absurd (cc)

-- no bytes at all may begin a line
pub none_begins : BeginsLine []
none_begins = record { protocol = Unknown; begun = inl (record { next = 80; more = 82 ∷ 79 ∷ 88 ∷ 89 ∷ 32 ∷ 85 ∷ 78 ∷ 75 ∷ 78 ∷ 79 ∷ 87 ∷ 78 ∷ []; whole = refl }); few = omega arith }
