-- At most one head stands at the front of a stream, and where none does at most one fault.
use Rattle.std.proofs.Common.{◌≡◌, ℕ, ◌+◌, ◌-◌, ◌≤◌, Bool, true, false, List, ◌++◌, length, take, refl, sym, ap, subst, ◌∙◌, inl, inr, arith, append_assoc, length-append}
use Rattle.std.proofs.lemmas.List.{take_all}
use Rattle.std.proofs.Math.Seq.{take-append-add, take-append_seam}
use Rattle.rtsp_message.specs.declared.peer.Peer.{Peer}
use Rattle.rtsp_message.specs.Limits.{head_limit}
use Rattle.rtsp_message.specs.declared.request.Request.{Request}
use Rattle.rtsp_message.specs.declared.fault.Fault.{Fault}
use Rattle.rtsp_message.specs.declared.fault.Fault.TheVariants.{BadLine, BadHeader, BadLength, HeadTooLong, BodyTooLong}
use Rattle.rtsp_message.specs.Headers.{cseq_of}
use Rattle.base_syntax.specs.Lines.{ended}
use Rattle.rtsp_message.specs.Heads.{joined, BreaksHeaders, HasStartLine, IsHeadFrom, HasFault, GoesOn, IsUnfinished}
use Rattle.rtsp_message.proofs.Runs.{false_is_true}
use Rattle.rtsp_message.proofs.Windows.{Blank, Broken, Open, FieldsThen, Window, NoLine, NoStartLine, After, WindowIs, same_window}

-- a whole head stands there
abbrev is_whole : Window → Bool
is_whole NoLine = false
is_whole NoStartLine = false
is_whole (After m u v headers (Blank more)) = true
is_whole (After m u v headers (Broken fault)) = false
is_whole (After m u v headers Open) = false

-- neither a whole head nor a bad line stands there
abbrev is_open : Window → Bool
is_open NoLine = true
is_open NoStartLine = false
is_open (After m u v headers (Blank more)) = false
is_open (After m u v headers (Broken fault)) = false
is_open (After m u v headers Open) = true

abbrev fault_in : Window → Fault
fault_in NoLine = HeadTooLong
fault_in NoStartLine = BadLine
fault_in (After m u v headers (Blank more)) = BadLine
fault_in (After m u v headers (Broken fault)) = fault
fault_in (After m u v headers Open) = HeadTooLong

-- the window of a whole head, with the bytes after it
abbrev head_window : List ℕ → Request → List ℕ → Window
head_window bytes request more = After request.method request.uri request.version request.headers (Blank (take (head_limit - length bytes) more))

whole_window : (peer : Peer) (stream bytes more : List ℕ) (request : Request) → IsHeadFrom peer bytes request → stream ≡ bytes ++ more → take head_limit stream ≡ bytes ++ take (head_limit - length bytes) more
whole_window peer stream bytes more request p e =
    let size : head_limit ≡ length bytes + (head_limit - length bytes) = omega (arith, p.short) in
    ap (take head_limit) e ∙ ap (λ (n : ℕ). take n (bytes ++ more)) size ∙ take-append-add bytes more (head_limit - length bytes)

shows_head : (peer : Peer) (stream bytes more : List ℕ) (request : Request) → IsHeadFrom peer bytes request → stream ≡ bytes ++ more → WindowIs peer (take head_limit stream) (head_window bytes request more)
unfolding FieldsThen
shows_head peer stream bytes more request p e =
    let behind = take (head_limit - length bytes) more in
    let f = p.fields in (
      p.first,
      p.rest ++ behind,
      whole_window peer stream bytes more request p e ∙ ap (λ (l : List ℕ). l ++ behind) p.whole ∙ append_assoc (ended p.first) p.rest behind,
      p.first_unbroken,
      p.request_line,
      f.lines,
      ended f.last ++ behind,
      (ap (λ (l : List ℕ). l ++ behind) f.whole ∙ append_assoc (joined f.lines) (ended f.last) behind, f.are_headers, (f.last, refl, f.last_unbroken, f.last_empty)),
    )

-- The window of bytes with a fault.
record FaultWindow (peer : Peer) (stream : List ℕ) (fault : Fault) : Type 0 where
  window : Window
  is : WindowIs peer (take head_limit stream) window
  says : fault_in window ≡ fault
  not_whole : is_whole window ≡ false
  long : is_open window ≡ true → head_limit ≤ length stream

broken_window : (peer : Peer) (w : List ℕ) (fault : Fault) → HasStartLine peer w (λ rest. BreaksHeaders rest fault) → (x : Window) × WindowIs peer w x × (fault_in x ≡ fault) × (is_whole x ≡ false) × (is_open x ≡ false)
unfolding FieldsThen
broken_window peer w fault p =
    let b = p.after in (
      After p.method p.uri p.version b.headers (Broken fault),
      (p.first, p.rest, p.whole, p.first_unbroken, p.request_line, b.lines, ended b.line ++ b.more, (b.whole, b.are_headers, (b.line, b.more, refl, b.unbroken, b.bad))),
      refl,
      refl,
      refl,
    )

open_window : (peer : Peer) (w : List ℕ) → GoesOn peer w → (x : Window) × WindowIs peer w x × (fault_in x ≡ HeadTooLong) × (is_whole x ≡ false) × (is_open x ≡ true)
unfolding FieldsThen
open_window peer w (inl none) = (NoLine, none, refl, refl, refl)
open_window peer w (inr p) =
    let b = p.after in (
      After p.method p.uri p.version b.headers Open,
      (p.first, p.rest, p.whole, p.first_unbroken, p.request_line, b.lines, b.tail, (b.whole, b.are_headers, b.unfinished)),
      refl,
      refl,
      refl,
    )

shows_fault : (peer : Peer) (stream : List ℕ) (fault : Fault) → HasFault peer stream fault → FaultWindow peer stream fault
shows_fault peer stream BadLine p = record { window = NoStartLine; is = (p.line, p.more, p.whole, p.unbroken, p.bad); says = refl; not_whole = refl; long = λ e. absurd (false_is_true e) }
shows_fault peer stream BadHeader p = let b = broken_window peer (take head_limit stream) BadHeader p in record { window = b.0; is = b.1; says = b.2; not_whole = b.3; long = λ e. absurd (false_is_true (sym b.4 ∙ e)) }
shows_fault peer stream BadLength p = let b = broken_window peer (take head_limit stream) BadLength p in record { window = b.0; is = b.1; says = b.2; not_whole = b.3; long = λ e. absurd (false_is_true (sym b.4 ∙ e)) }
shows_fault peer stream BodyTooLong p = let b = broken_window peer (take head_limit stream) BodyTooLong p in record { window = b.0; is = b.1; says = b.2; not_whole = b.3; long = λ e. absurd (false_is_true (sym b.4 ∙ e)) }
shows_fault peer stream HeadTooLong p = let b = open_window peer (take head_limit stream) p.0 in record { window = b.0; is = b.1; says = b.2; not_whole = b.3; long = λ e. p.1 }

shows_open : (peer : Peer) (stream : List ℕ) → IsUnfinished peer stream → (x : Window) × WindowIs peer (take head_limit stream) x × (is_open x ≡ true)
shows_open peer stream p =
    let b = open_window peer stream p.0 in
    (b.0, subst (λ (w : List ℕ). WindowIs peer w b.0) (sym (take_all head_limit stream (omega (arith, p.1)))) b.1, b.4)

pub no_head_and_fault : (peer : Peer) (stream bytes more : List ℕ) (request : Request) (fault : Fault) → IsHeadFrom peer bytes request → stream ≡ bytes ++ more → HasFault peer stream fault → ⊥
no_head_and_fault peer stream bytes more request fault p e q =
    let f = shows_fault peer stream fault q in
    false_is_true (sym f.not_whole ∙ ap is_whole (same_window peer (take head_limit stream) f.window (head_window bytes request more) f.is (shows_head peer stream bytes more request p e)))

pub no_head_and_open : (peer : Peer) (stream bytes more : List ℕ) (request : Request) → IsHeadFrom peer bytes request → stream ≡ bytes ++ more → IsUnfinished peer stream → ⊥
no_head_and_open peer stream bytes more request p e q =
    let f = shows_open peer stream q in
    false_is_true (ap is_open (same_window peer (take head_limit stream) (head_window bytes request more) f.0 (shows_head peer stream bytes more request p e) f.1) ∙ f.2)

pub same_fault : (peer : Peer) (stream : List ℕ) (f g : Fault) → HasFault peer stream f → HasFault peer stream g → f ≡ g
same_fault peer stream f g p q =
    let x = shows_fault peer stream f p in
    let y = shows_fault peer stream g q in
    sym x.says ∙ ap fault_in (same_window peer (take head_limit stream) x.window y.window x.is y.is) ∙ y.says

pub no_fault_and_open : (peer : Peer) (stream : List ℕ) (f : Fault) → HasFault peer stream f → IsUnfinished peer stream → ⊥
no_fault_and_open peer stream f p q =
    let x = shows_fault peer stream f p in
    let y = shows_open peer stream q in
    let long : head_limit ≤ length stream = x.long (ap is_open (same_window peer (take head_limit stream) x.window y.0 x.is y.1) ∙ y.2) in
    omega (arith, long, q.1)

-- The parts of two requests that stand in their heads are the same.
pub record SameHead (r s : Request) : Type 0 where
  pub method : r.method ≡ s.method
  pub uri : r.uri ≡ s.uri
  pub version : r.version ≡ s.version
  pub cseq : r.cseq ≡ s.cseq
  pub headers : r.headers ≡ s.headers

-- two heads at the front of one stream are one
pub same_heads : (peer : Peer) (stream a x b y : List ℕ) (r s : Request) → IsHeadFrom peer a r → IsHeadFrom peer b s → stream ≡ a ++ x → stream ≡ b ++ y → (a ≡ b) × SameHead r s
same_heads peer stream a x b y r s p q e f =
    let windows = same_window peer (take head_limit stream) (head_window a r x) (head_window b s y) (shows_head peer stream a x r p e) (shows_head peer stream b y s q f) in
    let method : r.method ≡ s.method = cc in
    let uri : r.uri ≡ s.uri = cc in
    let version : r.version ≡ s.version = cc in
    let headers : r.headers ≡ s.headers = cc in
    let behind : take (head_limit - length a) x ≡ take (head_limit - length b) y = cc in
    let wholes : a ++ take (head_limit - length a) x ≡ b ++ take (head_limit - length b) y = sym (whole_window peer stream a x r p e) ∙ whole_window peer stream b y s q f in
    let sizes : length a ≡ length b =
    omega (arith, ap length wholes, ap length behind, length-append a (take (head_limit - length a) x), length-append b (take (head_limit - length b) y)) in
    let bytes : a ≡ b = sym (take-append_seam a x) ∙ ap (take (length a)) (sym e ∙ f) ∙ ap (λ (n : ℕ). take n (b ++ y)) sizes ∙ take-append_seam b y in
    (bytes, record { method = method; uri = uri; version = version; cseq = p.cseq ∙ ap cseq_of headers ∙ sym q.cseq; headers = headers })
