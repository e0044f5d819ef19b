-- Units cut out of a stream.
use Rattle.std.proofs.Common.{◌≡◌, ℕ, ◌+◌, ◌-◌, ◌≤◌, List, [], length, take, drop, refl, sym, ap, subst, ◌∙◌, arith, append-nil, length-drop, take-append-drop}
use Rattle.std.proofs.lemmas.List.{take_all}
use Rattle.interleaved.specs.Frame.{IsFrame, FrameBegins}
use Rattle.rtsp_message.specs.declared.peer.Peer.{Peer}
use Rattle.rtsp_message.specs.declared.request.Request.{Request}
use Rattle.rtsp_message.specs.Heads.{IsHeadFrom}
use Rattle.rtsp_message.specs.Lengths.{body_len}
use Rattle.rtsp_message.specs.Stores.{between}
use Rattle.rtsp_message.specs.Knowns.{IsMessageStart}
use Rattle.rtsp_message.specs.Stream.{IsMessageFrom}
use Rattle.rtsp_message.proofs.Fronts.{message_parts}
use Rattle.rtsp_message.proofs.OneHead.{same_heads}

-- bytes that are a head have no other head at their front
pub same_bytes : (peer : Peer) (bytes : List ℕ) (len : ℕ) (request other : Request) → IsHeadFrom peer bytes request → IsHeadFrom peer (take len bytes) other → IsHeadFrom peer bytes other
same_bytes peer bytes len request other p q =
    let same = same_heads peer bytes (take len bytes) (drop len bytes) bytes [] other request q p (sym (take-append-drop len bytes)) (sym (append-nil bytes)) in
    subst (λ (l : List ℕ). IsHeadFrom peer l other) same.0 q

-- the bytes of a frame, cut out
pub frame_cut : (bytes : List ℕ) (len : ℕ) → FrameBegins bytes len → FrameBegins (take len bytes) (length (take len bytes))
frame_cut bytes len p =
    let whole : take (length (take len bytes)) (take len bytes) ≡ take len bytes = take_all (length (take len bytes)) (take len bytes) (omega arith) in
    (omega arith, p.1, p.2, subst (λ (l : List ℕ). IsFrame l p.1 p.2) (sym whole) p.3)

-- from a place on, so many bytes
pub between_first : (bytes : List ℕ) (from len : ℕ) → between bytes from (from + len) ≡ take len (drop from bytes)
between_first bytes from len = let count : from + len - from ≡ len = omega arith in ap (λ (n : ℕ). take n (drop from bytes)) count

-- a head, and the body after it
pub message_cut : (peer : Peer) (bytes : List ℕ) (head len : ℕ) (request : Request) (body : List ℕ) → IsMessageStart peer bytes head len → len ≤ length bytes → IsHeadFrom peer (take head bytes) request → body ≡ between bytes head len
    → IsMessageFrom peer (take len bytes) (record request { body = body })
message_cut peer bytes head len request body p fits is body_is =
    let front = take head bytes in
    let same = same_heads peer front front [] front [] request p.request is p.is_head (sym (append-nil front)) (sym (append-nil front)) in
    let len_is : len ≡ head + body_len request.headers = p.len_is ∙ ap (λ hs. head + body_len hs) (sym same.1.headers) in
    let count : len - head ≡ body_len request.headers = omega (arith, len_is) in
    let parts = message_parts peer bytes head (body_len request.headers) request (drop head bytes) body p.begins p.within is refl refl (omega (arith, len_is, fits, length-drop head bytes)) (body_is ∙ ap (λ (n : ℕ). take n (drop head bytes)) count) in
    subst (λ (n : ℕ). IsMessageFrom peer (take n bytes) (record request { body = body })) (sym len_is) parts.1
