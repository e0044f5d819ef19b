-- Lines, whole and begun.
use Rattle.std.proofs.Common.{◌≡◌, ℕ, suc, ◌+◌, ◌<◌, ◌≤◌, Option, List, ◌∷◌, ◌++◌, length, take, drop, get_or, refl, sym, ap, subst, ◌∙◌, inl, inr, arith, append_assoc, length-append}
use Rattle.std.proofs.Math.Seq.{take-append_seam}
use Rattle.std.proofs.lemmas.List.{append_cancel_left, length-take-le}
use Rattle.std.specs.declared.net.socket_addr.SocketAddr.{SocketAddr}
use Rattle.proxy_header.specs.Beginnings.{IsBegun}
use Rattle.proxy_header.specs.Fields.{GivesClient, GivesNoClient}
use Rattle.proxy_header.specs.Lines.{HasNoCrlf, IsLine, crlf, words}
use Rattle.proxy_header.specs.Readings.{HasNone, IsReadLine}
use Rattle.proxy_header.specs.declared.header.Reading.TheVariants.{NeedMore}
use Rattle.proxy_header.specs.declared.line.Protocol.{Protocol}
use Rattle.proxy_header.specs.declared.line.Protocol.TheVariants.{Tcp4, Tcp6, Unknown}
use Rattle.proxy_header.proofs.Breaks.{IsBreak, break_behind, same_text}

-- bytes begin with the words of one protocol at most
differ : {A : Type 0} (i : ℕ) {a b : List ℕ} → a ≡ b → (get_or a i 0 ≡ get_or b i 0 → ⊥) → A
differ i e other = absurd (other (ap (λ (l : List ℕ). get_or l i 0) e))

pub same_words : (p q : Protocol) (x y : List ℕ) → words p ++ x ≡ words q ++ y → p ≡ q
same_words Tcp4 Tcp4 x y e = refl
same_words Tcp6 Tcp6 x y e = refl
same_words Unknown Unknown x y e = refl
same_words Tcp4 Tcp6 x y e = differ 9 e (λ n. omega arith)
same_words Tcp6 Tcp4 x y e = differ 9 e (λ n. omega arith)
same_words Tcp4 Unknown x y e = differ 6 e (λ n. omega arith)
same_words Unknown Tcp4 x y e = differ 6 e (λ n. omega arith)
same_words Tcp6 Unknown x y e = differ 6 e (λ n. omega arith)
same_words Unknown Tcp6 x y e = differ 6 e (λ n. omega arith)

words_len : (p : Protocol) → length (words p) ≤ 13
words_len Tcp4 = omega arith
words_len Tcp6 = omega arith
words_len Unknown = omega arith

-- a line, and what comes after it
pub line_whole : (front after : List ℕ) (client : Option SocketAddr) (p : IsLine front client) → front ++ after ≡ words p.protocol ++ (p.text ++ 13 ∷ 10 ∷ after)
line_whole front after client p = ap (λ (l : List ℕ). l ++ after) p.whole ∙ simp append_assoc

line_len : (front : List ℕ) (client : Option SocketAddr) (p : IsLine front client) → length front ≡ length (words p.protocol) + length p.text + 2
line_len front client p = omega (arith, ap length p.whole, length-append (words p.protocol ++ p.text) crlf, length-append (words p.protocol) p.text)

-- A line at the front of bytes has the words of the bytes, and its text comes after them.
pub record IsSameLine (protocol : Protocol) (rest after : List ℕ) {front : List ℕ} {client : Option SocketAddr} (p : IsLine front client) : Type 0 where
  pub protocol_is : p.protocol ≡ protocol
  pub rest_is : rest ≡ p.text ++ 13 ∷ 10 ∷ after
  pub len : length front ≡ length (words protocol) + length p.text + 2

pub same_line : (protocol : Protocol) (rest front after : List ℕ) (client : Option SocketAddr) → words protocol ++ rest ≡ front ++ after → (p : IsLine front client) → IsSameLine protocol rest after p
same_line protocol rest front after client e p =
    let joined : words protocol ++ rest ≡ words p.protocol ++ (p.text ++ 13 ∷ 10 ∷ after) = e ∙ line_whole front after client p in
    let same : p.protocol ≡ protocol = sym (same_words protocol p.protocol rest _ joined) in
    record {
      protocol_is = same;
      rest_is = append_cancel_left (words protocol) _ _ (joined ∙ ap (λ (q : Protocol). words q ++ (p.text ++ 13 ∷ 10 ∷ after)) same);
      len = line_len front client p ∙ ap (λ (q : Protocol). length (words q) + length p.text + 2) same;
    }

-- words that have begun
pub need_words : (protocol : Protocol) (bytes : List ℕ) → IsBegun bytes (words protocol) → ((q : Protocol) (rest : List ℕ) → bytes ≡ words q ++ rest → ⊥) → IsReadLine bytes NeedMore
need_words protocol bytes begun other =
    let few : length bytes < 13 = omega (arith, words_len protocol, ap length begun.whole, length-append bytes (begun.next ∷ begun.more)) in (
      record { protocol = protocol; begun = inl begun; few = omega arith },
      λ front rest client e p. other p.protocol _ (e ∙ line_whole front rest client p),
      omega arith,
    )

-- no CR LF yet
pub need_text : (protocol : Protocol) (rest : List ℕ) → HasNoCrlf rest → length (words protocol) + length rest < 107 → IsReadLine (words protocol ++ rest) NeedMore
need_text protocol rest none few = (
  record { protocol = protocol; begun = inr (rest, refl, none); few = omega (arith, length-append (words protocol) rest) },
  λ front after client e p.
      let same = same_line protocol rest front after client e p in
      none p.text after (same.rest_is ∙ sym (append_assoc p.text crlf after)),
  omega (arith, length-append (words protocol) rest),
)

-- no room for one
pub no_room : (protocol : Protocol) (rest : List ℕ) → HasNoCrlf rest → 107 ≤ length (words protocol) + length rest → (more : List ℕ) → HasNone IsLine (words protocol ++ rest ++ more)
no_room protocol rest none many more front after client e p =
    let same = same_line protocol (rest ++ more) front after client (sym (append_assoc (words protocol) rest more) ∙ e) p in
    omega (arith, same.len, p.most, break_behind rest more p.text after none same.rest_is)

-- the text before the first CR LF is that of each line in front
text_is : (protocol : Protocol) (rest more front after : List ℕ) (end : ℕ) (client : Option SocketAddr) → IsBreak rest end → words protocol ++ rest ++ more ≡ front ++ after → (p : IsLine front client)
    → (p.protocol ≡ protocol) × (p.text ≡ take end rest) × (length front ≡ length (words protocol) + end + 2)
text_is protocol rest more front after end client b e p =
    let same = same_line protocol (rest ++ more) front after client (sym (append_assoc (words protocol) rest more) ∙ e) p in
    let whole : rest ++ more ≡ take end rest ++ 13 ∷ 10 ∷ (drop (suc (suc end)) rest ++ more) = ap (λ (l : List ℕ). l ++ more) b.whole ∙ append_assoc (take end rest) (13 ∷ 10 ∷ drop (suc (suc end)) rest) more in
    let texts : p.text ≡ take end rest = same_text p.text (take end rest) after _ p.unbroken b.unbroken (sym same.rest_is ∙ whole) in
    (same.protocol_is, texts, omega (arith, same.len, ap length texts, length-take-le end rest (omega (arith, b.within))))

pub too_long : (protocol : Protocol) (rest : List ℕ) (end : ℕ) → IsBreak rest end → 107 < length (words protocol) + end + 2 → (more : List ℕ) → HasNone IsLine (words protocol ++ rest ++ more)
too_long protocol rest end b long more front after client e p =
    let same = text_is protocol rest more front after end client b e p in
    omega (arith, same.2, p.most)

pub bad_text : (protocol : Protocol) (rest : List ℕ) (end : ℕ) → IsBreak rest end → GivesNoClient protocol (take end rest) → (more : List ℕ) → HasNone IsLine (words protocol ++ rest ++ more)
bad_text protocol rest end b bad more front after client e p =
    let same = text_is protocol rest more front after end client b e p in
    bad client (subst (λ (q : Protocol). GivesClient q (take end rest) client) same.0 (subst (λ (l : List ℕ). GivesClient p.protocol l client) same.1 p.gives))

-- a whole line
pub is_line : (protocol : Protocol) (rest : List ℕ) (end : ℕ) (client : Option SocketAddr) → IsBreak rest end → length (words protocol) + end + 2 ≤ 107 → GivesClient protocol (take end rest) client
    → (length (words protocol) + end + 2 ≤ length (words protocol ++ rest)) × IsLine (take (length (words protocol) + end + 2) (words protocol ++ rest)) client
is_line protocol rest end client b most gives =
    let front : List ℕ = take end rest in
    let size : length front ≡ end = length-take-le end rest (omega (arith, b.within)) in
    let line : List ℕ = words protocol ++ front ++ crlf in
    let len : length line ≡ length (words protocol) + end + 2 = omega (arith, length-append (words protocol ++ front) crlf, length-append (words protocol) front) in
    let bytes : words protocol ++ rest ≡ line ++ drop (suc (suc end)) rest = ap (λ (l : List ℕ). words protocol ++ l) b.whole ∙ sym (simp append_assoc) in
    let cut : take (length (words protocol) + end + 2) (words protocol ++ rest) ≡ line =
    ap (λ (n : ℕ). take n (words protocol ++ rest)) (sym len) ∙ ap (take (length line)) bytes ∙ take-append_seam line (drop (suc (suc end)) rest) in (
      omega (arith, length-append (words protocol) rest, b.within),
      record { protocol = protocol; text = front; whole = cut; unbroken = b.unbroken; most = omega (arith, ap length cut, len); gives = gives },
    )
