-- From the first line of a head and what follows it to what stands at the front of the stream.
use Rattle.std.proofs.Common.{◌≡◌, ℕ, ◌+◌, ◌-◌, ◌≤◌, List, ◌++◌, length, take, sym, ap, subst, ◌∙◌, arith, length-append}
use Rattle.std.proofs.lemmas.List.{take-take, length-take}
use Rattle.std.proofs.Math.Seq.{take-append-add}
use Rattle.rtsp_message.specs.declared.peer.Peer.{Peer}
use Rattle.rtsp_message.specs.Limits.{head_limit}
use Rattle.rtsp_message.specs.declared.headers.Header.{Header}
use Rattle.rtsp_message.specs.declared.request.Request.{Request}
use Rattle.rtsp_message.specs.declared.fault.Fault.{Fault}
use Rattle.rtsp_message.specs.declared.fault.Fault.TheVariants.{BadLine, BadHeader, BadLength, HeadTooLong, BodyTooLong}
use Rattle.rtsp_message.specs.declared.head.HeadFront.TheVariants.{Whole}
use Rattle.rtsp_message.specs.Headers.{cseq_of}
use Rattle.base_syntax.specs.Lines.{IsFirstLine, ended}
use Rattle.rtsp_message.specs.Lines.{IsStartLine}
use Rattle.rtsp_message.specs.Heads.{HasBadStartLine, HasStartLine, HasFault, EndsHeaders, BreaksHeaders, IsHeadFrom}
use Rattle.rtsp_message.specs.Fronts.{IsHeadFront}

pub bad_first : (peer : Peer) {bytes line rest : List ℕ} → IsFirstLine bytes line rest → ((method uri version : List ℕ) → IsStartLine peer line method uri version → ⊥) → HasBadStartLine peer bytes
bad_first peer {rest = rest} p bad = record {
  line = p.line;
  more = rest;
  whole = p.whole;
  unbroken = p.unbroken;
  bad = λ m u v q. bad m u v (subst (λ (t : List ℕ). IsStartLine peer t m u v) (sym p.text_is) q);
}

pub good_first : (peer : Peer) (P : List ℕ → Type 0) {bytes line rest : List ℕ} (method uri version : List ℕ) → IsFirstLine bytes line rest → IsStartLine peer line method uri version → P rest → HasStartLine peer bytes P
good_first peer P {rest = rest} method uri version p q after = record {
  first = p.line;
  rest = rest;
  method = method;
  uri = uri;
  version = version;
  whole = p.whole;
  first_unbroken = p.unbroken;
  request_line = subst (λ (t : List ℕ). IsStartLine peer t method uri version) p.text_is q;
  after = after;
}

-- a bad header line of the first bytes is the fault of the stream
pub bad_after : (peer : Peer) (bytes : List ℕ) {window line rest : List ℕ} (method uri version : List ℕ) (fault : Fault) → window ≡ take head_limit bytes → IsFirstLine window line rest → IsStartLine peer line method uri version → BreaksHeaders rest fault → HasFault peer bytes fault
bad_after peer bytes m u v BadLine w p q bad = absurd bad.bad
bad_after peer bytes m u v BadHeader w p q bad = subst (λ (b : List ℕ). HasStartLine peer b (λ rest. BreaksHeaders rest BadHeader)) w (good_first peer (λ rest. BreaksHeaders rest BadHeader) m u v p q bad)
bad_after peer bytes m u v BadLength w p q bad = subst (λ (b : List ℕ). HasStartLine peer b (λ rest. BreaksHeaders rest BadLength)) w (good_first peer (λ rest. BreaksHeaders rest BadLength) m u v p q bad)
bad_after peer bytes m u v BodyTooLong w p q bad = subst (λ (b : List ℕ). HasStartLine peer b (λ rest. BreaksHeaders rest BodyTooLong)) w (good_first peer (λ rest. BreaksHeaders rest BodyTooLong) m u v p q bad)
bad_after peer bytes m u v HeadTooLong w p q bad = absurd bad.bad

-- The request is that of these parts.
pub record Holds (request : Request) (m u v : List ℕ) (hs : List Header) : Type 0 where
  pub method : request.method ≡ m
  pub uri : request.uri ≡ u
  pub version : request.version ≡ v
  pub cseq : request.cseq ≡ cseq_of hs
  pub headers : request.headers ≡ hs

pub whole_head : (peer : Peer) (bytes : List ℕ) {window line rest m u v : List ℕ} {headers : List Header} {request : Request} (len : ℕ) → window ≡ take head_limit bytes → IsFirstLine window line rest → IsStartLine peer line m u v
    → (len ≤ length rest) × EndsHeaders (take len rest) headers → Holds request m u v headers → IsHeadFront peer bytes (Whole request (length window - length rest + len))
whole_head peer bytes {window} {line} {rest} {m} {u} {v} {headers} {request} len w p q block h =
    let first = ended p.line in
    let sizes : length window ≡ length first + length rest = ap length p.whole ∙ length-append first rest in
    let count : length window - length rest + len ≡ length first + len = omega arith in
    let small : length first + len ≤ head_limit = omega (arith, ap length w, length-take head_limit bytes) in
    let fits : length first + len ≤ length bytes = omega (arith, ap length w, length-take head_limit bytes) in
    let cut : take (length first + len) bytes ≡ first ++ take len rest =
    sym (take-take (length first + len) head_limit bytes small) ∙ ap (take (length first + len)) (sym w ∙ p.whole) ∙ take-append-add first rest len in
    let head : IsHeadFrom peer (take (length first + len) bytes) request = record {
      first = p.line;
      rest = take len rest;
      whole = cut;
      first_unbroken = p.unbroken;
      request_line = rw (h.method, h.uri, h.version) (subst (λ (t : List ℕ). IsStartLine peer t m u v) p.text_is q);
      fields = subst (EndsHeaders (take len rest)) (sym h.headers) block.1;
      cseq = h.cseq ∙ ap cseq_of (sym h.headers);
      short = omega (arith, length-take (length first + len) bytes);
    } in
    subst (λ (n : ℕ). IsHeadFront peer bytes (Whole request n)) (sym count) (fits, head)
