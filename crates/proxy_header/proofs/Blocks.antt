-- Blocks, whole and begun.
use Rattle.std.proofs.Common.{◌≡◌, ◌⊎◌, ℕ, ◌+◌, ◌-◌, ◌*◌, ◌<◌, ◌≤◌, Option, List, [], ◌∷◌, ◌++◌, length, take, get_or, replicate, inl, inr, refl, sym, ap, subst, ◌∙◌, arith, append_assoc, length-append}
use Rattle.std.proofs.Math.Seq.{take-add}
use Rattle.std.proofs.lemmas.List.{length-replicate, length-take-le}
use Rattle.std.specs.declared.net.socket_addr.SocketAddr.{SocketAddr}
use Rattle.proxy_header.specs.Beginnings.{IsBegun, IsOther}
use Rattle.proxy_header.specs.Blocks.{BeginsBlock, GivesContent, IsBlock, IsContent, least_of, local, proxy, signature}
use Rattle.proxy_header.specs.Readings.{HasNone, IsReadBlock}
use Rattle.proxy_header.specs.declared.body.Content.{Content}
use Rattle.proxy_header.specs.declared.body.Content.TheVariants.{Skipped}
use Rattle.proxy_header.specs.declared.header.Reading.TheVariants.{NeedMore}
use Rattle.proxy_header.proofs.Lists.{is_empty, is_one, others}
use Rattle.proxy_header.proofs.Contents.{gives_some, least_fits, one_content}

-- a block's length
pub block_len : (bytes : List ℕ) (client : Option SocketAddr) (p : IsBlock bytes client) → length bytes ≡ 16 + (256 * p.high + p.low)
block_len bytes client p = omega (arith, ap length p.whole, p.len)

-- the parts of a block at the front of bytes are those of the bytes
pub same_head : (command family : ℕ) (rest front after : List ℕ) (client : Option SocketAddr) → signature ++ command ∷ family ∷ rest ≡ front ++ after → (p : IsBlock front client)
    → (p.command ≡ command) × (p.family ≡ family) × (rest ≡ p.high ∷ p.low ∷ p.body ++ after)
same_head command family rest front after client e p =
    let joined : signature ++ command ∷ family ∷ rest ≡ signature ++ p.command ∷ p.family ∷ p.high ∷ p.low ∷ (p.body ++ after) = e ∙ ap (λ (l : List ℕ). l ++ after) p.whole in
    (cc, cc, cc)

-- and its length is theirs, and its content that of their command and family
pub record IsSameBlock (high low : ℕ) (content : Content) (body after : List ℕ) {front : List ℕ} {client : Option SocketAddr} (p : IsBlock front client) : Type 0 where
  pub len : length p.body ≡ 256 * high + low
  pub content_is : p.content ≡ content
  pub body_is : body ≡ p.body ++ after

pub same_block : (command family high low : ℕ) (body front after : List ℕ) (content : Content) (client : Option SocketAddr) → IsContent command family content
    → signature ++ command ∷ family ∷ high ∷ low ∷ body ≡ front ++ after → (p : IsBlock front client) → IsSameBlock high low content body after p
same_block command family high low body front after content client contains e p =
    let same = same_head command family (high ∷ low ∷ body) front after client e p in
    let highs : high ≡ p.high = cc in
    let lows : low ≡ p.low = cc in
    let contained : IsContent command family p.content = subst (λ (n : ℕ). IsContent n family p.content) same.0 (subst (λ (n : ℕ). IsContent p.command n p.content) same.1 p.contains) in
    record { len = omega (arith, p.len, highs, lows); content_is = one_content command family p.content content contained contains; body_is = cc }

-- fewer than sixteen bytes begin with no block
pub none_short : (bytes : List ℕ) → length bytes < 16 → HasNone IsBlock bytes
none_short bytes few front rest client e p = omega (arith, ap length e, length-append front rest, block_len front client p)

-- nor do bytes that begin with another byte than the signature
pub none_other : (bytes : List ℕ) → IsOther bytes signature → (more : List ℕ) → HasNone IsBlock (bytes ++ more)
none_other bytes other more front rest client e p = other more _ (e ∙ ap (λ (l : List ℕ). l ++ rest) p.whole)

pub begins_part : (bytes more : List ℕ) → BeginsBlock (bytes ++ more) → BeginsBlock bytes
begins_part bytes more p = record { more = more ++ p.more; client = p.client; block = subst (λ (l : List ℕ). IsBlock l p.client) (append_assoc bytes more p.more) p.block }

-- a length that fits the content and the limit, and no more of the body than it says
pub begins_body : (command family high low : ℕ) (body : List ℕ) (content : Content) → IsContent command family content → length body ≤ 256 * high + low → 16 + (256 * high + low) ≤ 2048
    → least_of content ≤ 256 * high + low → BeginsBlock (signature ++ command ∷ family ∷ high ∷ low ∷ body)
begins_body command family high low body content contains within most least =
    let missing : ℕ = 256 * high + low - length body in
    let filled : List ℕ = body ++ replicate missing 0 in
    let len : length filled ≡ 256 * high + low = omega (arith, length-append body (replicate missing 0), length-replicate {A = ℕ} missing 0) in
    let gives = gives_some content filled (omega (arith, len)) in
    record {
      more = replicate missing 0;
      client = gives.0;
      block = record {
        command = command;
        family = family;
        high = high;
        low = low;
        body = filled;
        content = content;
        whole = refl;
        len = len;
        most = omega (arith, len);
        contains = contains;
        least = omega (arith, len);
        gives = gives.1;
      };
    }

-- less than a length
pub begins_high : (command family high : ℕ) (content : Content) → IsContent command family content → high ≤ 7 → BeginsBlock (signature ++ command ∷ family ∷ high ∷ [])
begins_high command family high content contains small =
    begins_part (signature ++ command ∷ family ∷ high ∷ []) (240 ∷ [])
    (begins_body command family high 240 [] content contains (omega arith) (omega arith) (omega (arith, least_fits command family content contains)))

pub begins_family : (command family : ℕ) (content : Content) → IsContent command family content → BeginsBlock (signature ++ command ∷ family ∷ [])
begins_family command family content contains = begins_part (signature ++ command ∷ family ∷ []) (0 ∷ []) (begins_high command family 0 content contains (omega arith))

pub begins_command : (command : ℕ) → (command ≡ local) ⊎ (command ≡ proxy) → BeginsBlock (signature ++ command ∷ [])
begins_command command known = begins_part (signature ++ command ∷ []) (0 ∷ []) (begins_family command 0 (Skipped 0) contains)
  where
    contains : IsContent command 0 (Skipped 0)
    contains = elim known [ inl is ↦ inl (is, refl) | inr is ↦ inr (is, (0, omega arith, refl)) ]

pub begins_signature : BeginsBlock signature
begins_signature = begins_part signature (local ∷ []) (begins_command local (inl refl))

begins_begun : (bytes : List ℕ) → IsBegun bytes signature → BeginsBlock bytes
begins_begun bytes begun = begins_part bytes (begun.next ∷ begun.more) (subst BeginsBlock begun.whole begins_signature)

-- bytes that need more
needs_more : (bytes : List ℕ) → length bytes < 16 → BeginsBlock bytes → IsReadBlock bytes NeedMore
needs_more bytes few begins = (begins, none_short bytes few, omega arith)

pub need_begun : (bytes : List ℕ) → IsBegun bytes signature → IsReadBlock bytes NeedMore
need_begun bytes begun = needs_more bytes (omega (arith, ap length begun.whole, length-append bytes (begun.next ∷ begun.more))) (begins_begun bytes begun)

pub need_command : (rest : List ℕ) → length rest < 1 → IsReadBlock (signature ++ rest) NeedMore
need_command rest none = subst (λ (l : List ℕ). IsReadBlock (signature ++ l) NeedMore) (sym (is_empty rest none)) (needs_more signature (omega arith) begins_signature)

pub need_family : (rest : List ℕ) → 1 ≤ length rest → length (others rest) < 1 → (get_or rest 0 0 ≡ local) ⊎ (get_or rest 0 0 ≡ proxy) → IsReadBlock (signature ++ rest) NeedMore
need_family rest some none known =
    subst (λ (l : List ℕ). IsReadBlock (signature ++ l) NeedMore) (sym (is_one rest some none)) (needs_more (signature ++ get_or rest 0 0 ∷ []) (omega arith) (begins_command (get_or rest 0 0) known))

pub need_high : (command family : ℕ) (rest : List ℕ) (content : Content) → IsContent command family content → length rest < 1 → IsReadBlock (signature ++ command ∷ family ∷ rest) NeedMore
need_high command family rest content contains none =
    subst (λ (l : List ℕ). IsReadBlock (signature ++ command ∷ family ∷ l) NeedMore) (sym (is_empty rest none)) (needs_more (signature ++ command ∷ family ∷ []) (omega arith) (begins_family command family content contains))

pub need_low : (command family : ℕ) (rest : List ℕ) (content : Content) → IsContent command family content → 1 ≤ length rest → length (others rest) < 1 → get_or rest 0 0 ≤ 7
    → IsReadBlock (signature ++ command ∷ family ∷ rest) NeedMore
need_low command family rest content contains some none small =
    subst (λ (l : List ℕ). IsReadBlock (signature ++ command ∷ family ∷ l) NeedMore) (sym (is_one rest some none))
    (needs_more (signature ++ command ∷ family ∷ get_or rest 0 0 ∷ []) (omega arith) (begins_high command family (get_or rest 0 0) content contains small))

-- a part of the body that a length announces
pub need_body : (command family high low : ℕ) (body : List ℕ) (content : Content) → IsContent command family content → 16 + (256 * high + low) ≤ 2048 → least_of content ≤ 256 * high + low
    → length body < 256 * high + low → IsReadBlock (signature ++ command ∷ family ∷ high ∷ low ∷ body) NeedMore
need_body command family high low body content contains most least few = (
  begins_body command family high low body content contains (omega arith) most least,
  λ front after client e p.
      let same = same_block command family high low body front after content client contains e p in
      omega (arith, same.len, ap length same.body_is, length-append p.body after),
  omega arith,
)

-- a length under that of the content's addresses
pub too_short : (command family high low : ℕ) (body : List ℕ) (content : Content) → IsContent command family content → 256 * high + low < least_of content
    → HasNone IsBlock (signature ++ command ∷ family ∷ high ∷ low ∷ body)
too_short command family high low body content contains short front after client e p =
    let same = same_block command family high low body front after content client contains e p in
    omega (arith, same.len, ap least_of same.content_is, p.least)

-- a whole body after a length that fits
pub is_block : (command family high low len : ℕ) (body : List ℕ) (content : Content) (client : Option SocketAddr) → IsContent command family content → len ≡ 256 * high + low → 16 + len ≤ 2048
    → least_of content ≤ len → len ≤ length body → GivesContent content (take len body) client
    → (16 + len ≤ length (signature ++ command ∷ family ∷ high ∷ low ∷ body)) × IsBlock (take (16 + len) (signature ++ command ∷ family ∷ high ∷ low ∷ body)) client
is_block command family high low len body content client contains len_is most least fits gives =
    let size : length (take len body) ≡ len = length-take-le len body fits in
    let whole : take (16 + len) (signature ++ command ∷ family ∷ high ∷ low ∷ body) ≡ signature ++ command ∷ family ∷ high ∷ low ∷ take len body =
    take-add 16 len (signature ++ command ∷ family ∷ high ∷ low ∷ body) in (
      omega arith,
      record {
        command = command;
        family = family;
        high = high;
        low = low;
        body = take len body;
        content = content;
        whole = whole;
        len = size ∙ len_is;
        most = omega (arith, ap length whole, size);
        contains = contains;
        least = omega (arith, size);
        gives = gives;
      },
    )
