-- From what is known of the beginning of a unit, and what came since, to what stands there.
use Rattle.std.proofs.Common.{◌≡◌, ℕ, ◌+◌, ◌-◌, ◌*◌, ◌<◌, ◌≤◌, zero, suc, List, [], ◌∷◌, ◌++◌, length, take, drop, get_or, Option, None, refl, sym, ap, subst, ◌∙◌, inl, inr, arith, append_assoc, append-nil, length-drop, take-append-drop}
use Rattle.std.specs.Prelude.{unwrap_or}
use Rattle.std.proofs.lemmas.List.{take_all, take_rest, take-take, length-take, drop-drop, drop-take, drop_all, get_or-drop}
use Rattle.std.proofs.lemmas.Bool.Decides.{leb_tells}
use Rattle.std.proofs.lemmas.List.Concat.{flat_map-append}
use Rattle.std.proofs.Math.Seq.{take-add}
use Rattle.interleaved.specs.Frame.{FrameBegins, MayBeginFrame}
use Rattle.interleaved.proofs.Frames.{FrameBegins-announced, FrameBegins-length}
use Rattle.base_syntax.specs.Lines.{HasNoLf, ended, said}
use Rattle.rtsp_message.specs.declared.peer.Peer.{Peer}
use Rattle.rtsp_message.specs.declared.headers.Header.{Header}
use Rattle.rtsp_message.specs.declared.fault.Fault.{Fault}
use Rattle.rtsp_message.specs.declared.fault.Fault.TheVariants.{BadLine, BadHeader, BadLength, HeadTooLong, BodyTooLong}
use Rattle.rtsp_message.specs.Limits.{head_limit, waiting_limit}
use Rattle.rtsp_message.specs.Headers.{cseq_of}
use Rattle.rtsp_message.specs.Lengths.{body_len, field_fault}
use Rattle.rtsp_message.specs.Lines.{IsStartLine, IsHeaderLine}
use Rattle.rtsp_message.specs.Heads.{joined, IsBadHeader, HasStartLine, BreaksHeaders, LeavesHeaders, HasFault, GoesOn}
use Rattle.rtsp_message.specs.Stores.{IsFirstLf, between}
use Rattle.rtsp_message.specs.Knowns.{Tell, AreGoodLines, IsFrameStart, IsFirstLineStart, IsFieldsStart, IsMessageStart, IsLook, looks_to_find}
use Rattle.rtsp_message.specs.declared.known.Known.TheVariants as knows
use Rattle.rtsp_message.specs.declared.known.Look.{Look}
use Rattle.rtsp_message.specs.declared.known.Look.TheVariants as looks
use Rattle.rtsp_message.specs.Stream.{BeginsMessage, BeginsFrame, EndsAsFrom, Waits, Fails}
use Rattle.rtsp_message.proofs.Blocks.{AreHeaders-push}
use Rattle.rtsp_message.proofs.Finding.{IsLineAt, line_at, between_behind, no_lf_append, no_lf_take}
use Rattle.rtsp_message.proofs.Fronts.{frame_has_head, body_waits}
use Rattle.rtsp_message.proofs.OneUnit.{message_is_no_pad, frame_is_no_pad}
use Rattle.rtsp_message.proofs.Undecided.{head_is_open, frame_is_short}

-- the bytes that a head may have
abbrev pub window : List ℕ → List ℕ
window bytes = take head_limit bytes

none_between : (bytes : List ℕ) (i : ℕ) → HasNoLf (between bytes i i)
none_between bytes i = let none : i - i ≡ 0 = omega arith in subst (λ (n : ℕ). HasNoLf (take n (drop i bytes))) (sym none) tt

joined_more : (lines : List (List ℕ)) (line : List ℕ) → joined (lines ++ line ∷ []) ≡ joined lines ++ ended line
joined_more lines line = flat_map-append ended lines (line ∷ []) ∙ ap (λ (l : List ℕ). joined lines ++ l) (append-nil (ended line))

no_lf_within : (n m : ℕ) (xs : List ℕ) → HasNoLf (take n xs) → HasNoLf (take n (take m xs))
no_lf_within zero m xs p = tt
no_lf_within (suc n) zero xs p = tt
no_lf_within (suc n) (suc m) [] p = tt
no_lf_within (suc n) (suc m) (x ∷ xs) p = (p.0, no_lf_within n m xs p.1)

-- no LF stands in the window after the good lines
pub open_tail : (bytes : List ℕ) (line searched : ℕ) → line ≤ searched → line ≤ head_limit → HasNoLf (between bytes line searched) → HasNoLf (drop searched (window bytes)) → HasNoLf (drop line (window bytes))
open_tail bytes line searched low short before behind =
    let size : line + (head_limit - line) ≡ head_limit = omega arith in
    let place : line + (searched - line) ≡ searched = omega arith in
    let cut : drop line (window bytes) ≡ take (head_limit - line) (drop line bytes) = ap (λ (n : ℕ). drop line (take n bytes)) (sym size) ∙ drop-take line (head_limit - line) bytes in
    let front : HasNoLf (take (searched - line) (drop line (window bytes))) =
    subst (λ (l : List ℕ). HasNoLf (take (searched - line) l)) (sym cut) (no_lf_within (searched - line) (head_limit - line) (drop line bytes) before) in
    let back : HasNoLf (drop (searched - line) (drop line (window bytes))) =
    subst HasNoLf (sym (drop-drop (searched - line) line (window bytes) ∙ ap (λ (n : ℕ). drop n (window bytes)) place)) behind in
    subst HasNoLf (take-append-drop (searched - line) (drop line (window bytes))) (no_lf_append (take (searched - line) (drop line (window bytes))) (drop (searched - line) (drop line (window bytes))) front back)

-- where no LF stands from a place on, none stands there in the window
pub window_none : (bytes : List ℕ) (from searched : ℕ) → HasNoLf (drop (from + searched) bytes) → HasNoLf (drop searched (window (drop from bytes)))
window_none bytes from searched none =
    let rest = drop searched (drop from bytes) in
    let open_rest : HasNoLf rest = subst HasNoLf (sym (drop-drop searched from bytes)) none in
    elim (leb_tells searched head_limit) [
      | inl low ↦
          let size : searched + (head_limit - searched) ≡ head_limit = omega (arith, low.1) in
          let cut : drop searched (window (drop from bytes)) ≡ take (head_limit - searched) rest = ap (λ (n : ℕ). drop searched (take n (drop from bytes))) (sym size) ∙ drop-take searched (head_limit - searched) (drop from bytes) in
          subst HasNoLf (sym cut) (no_lf_take (head_limit - searched) rest open_rest)
      | inr high ↦
          let past : length (window (drop from bytes)) ≤ searched = omega (arith, high.1, length-take head_limit (drop from bytes)) in
          subst HasNoLf (sym (drop_all searched (window (drop from bytes)) past)) tt
    ]

-- where the first LF from a place on stands past the window, none stands there in the window
pub window_past : (bytes : List ℕ) (searched end : ℕ) → head_limit ≤ end → IsFirstLf bytes searched end → HasNoLf (drop searched (window bytes))
window_past bytes searched end long lf = elim (leb_tells searched head_limit) [
  | inl low ↦
      let size : searched + (head_limit - searched) ≡ head_limit = omega (arith, low.1) in
      let cut : drop searched (window bytes) ≡ take (head_limit - searched) (drop searched bytes) = ap (λ (n : ℕ). drop searched (take n bytes)) (sym size) ∙ drop-take searched (head_limit - searched) bytes in
      let within : take (head_limit - searched) (between bytes searched end) ≡ take (head_limit - searched) (drop searched bytes) = take-take (head_limit - searched) (end - searched) (drop searched bytes) (omega arith) in
      subst HasNoLf (within ∙ sym cut) (no_lf_take (head_limit - searched) (between bytes searched end) lf.none_before)
  | inr high ↦
      let past : length (window bytes) ≤ searched = omega (arith, high.1, length-take head_limit bytes) in
      subst HasNoLf (sym (drop_all searched (window bytes) past)) tt
]

-- the window from the good lines on
window_split : (bytes : List ℕ) (line : ℕ) → line ≤ head_limit → window bytes ≡ take line bytes ++ drop line (window bytes)
window_split bytes line short = sym (take-append-drop line (window bytes)) ∙ ap (λ (l : List ℕ). l ++ drop line (window bytes)) (take-take line head_limit bytes short)

-- the window with the next line
window_line : (bytes : List ℕ) (line end : ℕ) → end < head_limit → IsLineAt bytes line end
    → window bytes ≡ take line bytes ++ (ended (between bytes line end) ++ take (head_limit - (end + 1)) (drop (end + 1) bytes))
window_line bytes line end short at =
    let more = take (head_limit - (end + 1)) (drop (end + 1) bytes) in
    let size : head_limit ≡ end + 1 + (head_limit - (end + 1)) = omega arith in
    ap (λ (n : ℕ). take n bytes) size ∙ take-add (end + 1) (head_limit - (end + 1)) bytes ∙ ap (λ (l : List ℕ). l ++ more) at.up_to
    ∙ append_assoc (take line bytes) (ended (between bytes line end)) more

-- a first line
pub first_good : (peer : Peer) (bytes : List ℕ) (end : ℕ) (method uri version : List ℕ) → IsLineAt bytes 0 end → IsStartLine peer (said (between bytes 0 end)) method uri version → AreGoodLines peer (take (end + 1) bytes) None
first_good peer bytes end method uri version at request = record {
  first = between bytes 0 end;
  method = method;
  uri = uri;
  version = version;
  lines = [];
  headers = [];
  whole = at.up_to ∙ sym (append-nil (ended (between bytes 0 end)));
  first_unbroken = at.unbroken;
  request_line = request;
  are_headers = tt;
  tell = record { length_is = refl; none = λ e. refl };
}

pub first_bad : (peer : Peer) (bytes : List ℕ) (end : ℕ) → end < head_limit → IsLineAt bytes 0 end → ((method uri version : List ℕ) → IsStartLine peer (said (between bytes 0 end)) method uri version → ⊥) → HasFault peer bytes BadLine
first_bad peer bytes end short at bad = record {
  line = between bytes 0 end;
  more = take (head_limit - (end + 1)) (drop (end + 1) bytes);
  whole = window_line bytes 0 end short at;
  unbroken = at.unbroken;
  bad = bad;
}

-- one more header line
pub good_more : (peer : Peer) (bytes : List ℕ) (line end : ℕ) {told now : Option ℕ} (header : Header) → AreGoodLines peer (take line bytes) told → IsLineAt bytes line end → IsHeaderLine (said (between bytes line end)) header
    → ((before : List Header) → Tell before told → (field_fault before header ≡ None) × Tell (before ++ header ∷ []) now) → AreGoodLines peer (take (end + 1) bytes) now
good_more peer bytes line end header p at is allowed =
    let text = between bytes line end in
    let next = allowed p.headers p.tell in
    record {
      first = p.first;
      method = p.method;
      uri = p.uri;
      version = p.version;
      lines = p.lines ++ text ∷ [];
      headers = p.headers ++ header ∷ [];
      whole =
          at.up_to ∙ ap (λ (l : List ℕ). l ++ ended text) p.whole ∙ append_assoc (ended p.first) (joined p.lines) (ended text)
          ∙ ap (λ (l : List ℕ). ended p.first ++ l) (sym (joined_more p.lines text));
      first_unbroken = p.first_unbroken;
      request_line = p.request_line;
      are_headers = AreHeaders-push [] p.lines p.headers text header p.are_headers (record { unbroken = at.unbroken; field = is; allowed = next.0 });
      tell = next.1;
    }

-- after the good lines the text is so
has_request : (peer : Peer) (P : List ℕ → Type 0) (front rest whole : List ℕ) {told : Option ℕ} (p : AreGoodLines peer front told) → whole ≡ front ++ rest → P (joined p.lines ++ rest) → HasStartLine peer whole P
has_request peer P front rest whole p e after = record {
  first = p.first;
  rest = joined p.lines ++ rest;
  method = p.method;
  uri = p.uri;
  version = p.version;
  whole = e ∙ ap (λ (l : List ℕ). l ++ rest) p.whole ∙ append_assoc (ended p.first) (joined p.lines) rest;
  first_unbroken = p.first_unbroken;
  request_line = p.request_line;
  after = after;
}

pub fields_go_on : (peer : Peer) (bytes : List ℕ) (line : ℕ) {told : Option ℕ} → line ≤ head_limit → AreGoodLines peer (take line bytes) told → HasNoLf (drop line (window bytes)) → GoesOn peer (window bytes)
fields_go_on peer bytes line short p none =
    inr (has_request peer LeavesHeaders (take line bytes) (drop line (window bytes)) (window bytes) p (window_split bytes line short) (record {
      lines = p.lines;
      headers = p.headers;
      tail = drop line (window bytes);
      whole = refl;
      are_headers = p.are_headers;
      unfinished = none;
    }))

broken : (peer : Peer) (bytes : List ℕ) (fault : Fault) → HasStartLine peer (window bytes) (λ rest. BreaksHeaders rest fault) → HasFault peer bytes fault
broken peer bytes BadLine p = absurd p.after.bad
broken peer bytes BadHeader p = p
broken peer bytes BadLength p = p
broken peer bytes BodyTooLong p = p
broken peer bytes HeadTooLong p = absurd p.after.bad

pub fields_bad : (peer : Peer) (bytes : List ℕ) (line end : ℕ) {told : Option ℕ} (fault : Fault) → end < head_limit → AreGoodLines peer (take line bytes) told → IsLineAt bytes line end
    → ((before : List Header) → Tell before told → IsBadHeader before (said (between bytes line end)) fault) → HasFault peer bytes fault
fields_bad peer bytes line end fault short p at bad =
    let text = between bytes line end in
    let more = take (head_limit - (end + 1)) (drop (end + 1) bytes) in
    broken peer bytes fault (has_request peer (λ rest. BreaksHeaders rest fault) (take line bytes) (ended text ++ more) (window bytes) p (window_line bytes line end short at) (record {
      lines = p.lines;
      headers = p.headers;
      line = text;
      more = more;
      whole = refl;
      are_headers = p.are_headers;
      unbroken = at.unbroken;
      bad = bad p.headers p.tell;
    }))

-- the empty line ends the head
pub head_ends : (peer : Peer) (bytes : List ℕ) (line end : ℕ) {told : Option ℕ} → end < head_limit → end < length bytes → BeginsMessage bytes → AreGoodLines peer (take line bytes) told → IsLineAt bytes line end → said (between bytes line end) ≡ []
    → IsMessageStart peer bytes (end + 1) (end + 1 + unwrap_or told 0)
head_ends peer bytes line end short within begins p at empty =
    let text = between bytes line end in
    record {
      begins = begins;
      within = omega arith;
      request = record { method = p.method; uri = p.uri; version = p.version; cseq = cseq_of p.headers; headers = p.headers; body = [] };
      is_head = record {
        first = p.first;
        rest = joined p.lines ++ ended text;
        whole = at.up_to ∙ ap (λ (l : List ℕ). l ++ ended text) p.whole ∙ append_assoc (ended p.first) (joined p.lines) (ended text);
        first_unbroken = p.first_unbroken;
        request_line = p.request_line;
        fields = record { lines = p.lines; last = text; whole = refl; are_headers = p.are_headers; last_unbroken = at.unbroken; last_empty = empty };
        cseq = refl;
        short = omega (arith, length-take (end + 1) bytes);
      };
      len_is = ap (λ (o : Option ℕ). end + 1 + unwrap_or o 0) (sym p.tell.length_is);
    }

-- a head that goes on
pub short_waits : (peer : Peer) (bytes : List ℕ) → BeginsMessage bytes → GoesOn peer (window bytes) → length bytes < head_limit → EndsAsFrom peer bytes (Waits bytes) × (length bytes < waiting_limit)
short_waits peer bytes begins goes short =
    let all : window bytes ≡ bytes = take_all head_limit bytes (omega arith) in (
      (refl, message_is_no_pad bytes begins, head_is_open peer bytes begins (subst (GoesOn peer) all goes, short)),
      omega arith,
    )

pub long_fails : (peer : Peer) (bytes : List ℕ) → BeginsMessage bytes → GoesOn peer (window bytes) → head_limit ≤ length bytes → EndsAsFrom peer bytes (Fails HeadTooLong)
long_fails peer bytes begins goes long = (begins, (goes, long))

all_searched : (bytes : List ℕ) (line : ℕ) → length bytes < head_limit → HasNoLf (drop line (window bytes)) → HasNoLf (between bytes line (length bytes))
all_searched bytes line short none =
    let all : window bytes ≡ bytes = take_all head_limit bytes (omega arith) in
    subst HasNoLf (sym (take_rest bytes line)) (subst (λ (l : List ℕ). HasNoLf (drop line l)) all none)

pub first_line_waits : (peer : Peer) (bytes : List ℕ) → BeginsMessage bytes → HasNoLf (drop 0 (window bytes)) → length bytes < head_limit → EndsAsFrom peer bytes (Waits bytes) × (length bytes < waiting_limit) × IsFirstLineStart bytes (length bytes)
first_line_waits peer bytes begins none short =
    let waits = short_waits peer bytes begins (inl none) short in
    (waits.0, waits.1, record { begins = begins; within = omega arith; none_found = all_searched bytes 0 short none })

pub fields_wait : (peer : Peer) (bytes : List ℕ) (line searched : ℕ) {told : Option ℕ} → IsFieldsStart peer bytes line searched told → HasNoLf (drop line (window bytes)) → length bytes < head_limit
    → EndsAsFrom peer bytes (Waits bytes) × (length bytes < waiting_limit) × IsFieldsStart peer bytes line (length bytes) told
fields_wait peer bytes line searched p none short =
    let waits = short_waits peer bytes p.begins (fields_go_on peer bytes line p.short p.good none) short in (
      waits.0,
      waits.1,
      record { begins = p.begins; good = p.good; short = p.short; in_order = omega (arith, p.in_order, p.within); within = omega arith; none_found = all_searched bytes line short none },
    )

may_begin : (bytes : List ℕ) → BeginsFrame bytes → MayBeginFrame bytes
may_begin [] p = absurd p
may_begin (b ∷ bytes) p = λ h. p

pub frame_whole : (bytes : List ℕ) (len : ℕ) → IsFrameStart bytes len → len ≤ length bytes → FrameBegins bytes len
frame_whole bytes len p fits = FrameBegins-announced bytes len (may_begin bytes p.begins) p.has_head p.len_is fits

pub frame_waits : (peer : Peer) (bytes : List ℕ) (len : ℕ) → IsFrameStart bytes len → length bytes < len → EndsAsFrom peer bytes (Waits bytes) × (length bytes < waiting_limit) × IsFrameStart bytes len
frame_waits peer bytes len p short = (
  (refl, frame_is_no_pad bytes p.begins, frame_is_short peer bytes p.begins (λ n q. omega (arith, FrameBegins-length bytes n q, q.0, p.len_is, short))),
  omega (arith, p.most),
  p,
)

pub dollar_waits : (peer : Peer) (bytes : List ℕ) → BeginsFrame bytes → length bytes < 4 → EndsAsFrom peer bytes (Waits bytes) × (length bytes < waiting_limit) × BeginsFrame bytes
dollar_waits peer bytes begins short = (
  (refl, frame_is_no_pad bytes begins, frame_is_short peer bytes begins (λ n q. omega (arith, frame_has_head bytes n q, length-take n bytes, short))),
  omega arith,
  begins,
)

pub message_waits : (peer : Peer) (bytes : List ℕ) (head len : ℕ) → IsMessageStart peer bytes head len → length bytes < len → EndsAsFrom peer bytes (Waits bytes) × (length bytes < waiting_limit) × IsMessageStart peer bytes head len
message_waits peer bytes head len p short =
    let waits = body_waits peer bytes head (body_len p.request.headers) p.request (drop head bytes) p.begins p.within p.is_head refl refl (omega (arith, p.len_is, p.within, length-drop head bytes)) in
    ((refl, message_is_no_pad bytes p.begins, waits.0), waits.1, p)

-- what is told of a frame by its length
pub frame_looked : (peer : Peer) (bytes : List ℕ) (len size : ℕ) (look : Look) → IsFrameStart bytes len → size ≡ length bytes → (len ≤ size → look ≡ looks.Frame len) → (size < len → look ≡ looks.Waits (knows.Frame len)) → IsLook peer bytes look
frame_looked peer bytes len size look p size_is whole waits = elim (leb_tells len size) [
  | inl fits ↦ subst (IsLook peer bytes) (sym (whole fits.1)) (frame_whole bytes len p (omega (arith, fits.1)))
  | inr short ↦ subst (IsLook peer bytes) (sym (waits (omega (arith, short.1)))) (frame_waits peer bytes len p (omega (arith, short.1)))
]

-- and of a message
pub message_looked : (peer : Peer) (bytes : List ℕ) (head len size : ℕ) (look : Look) → IsMessageStart peer bytes head len → size ≡ length bytes → (len ≤ size → look ≡ looks.Message head len) → (size < len → look ≡ looks.Waits (knows.Message head len)) → IsLook peer bytes look
message_looked peer bytes head len size look p size_is whole waits = elim (leb_tells len size) [
  | inl fits ↦ subst (IsLook peer bytes) (sym (whole fits.1)) (omega (arith, fits.1), p)
  | inr short ↦ subst (IsLook peer bytes) (sym (waits (omega (arith, short.1)))) (message_waits peer bytes head len p (omega (arith, short.1)))
]

pub message_looks : (n head len size : ℕ) (look : Look) → (len ≤ size → look ≡ looks.Message head len) → (size < len → look ≡ looks.Waits (knows.Message head len)) → looks_to_find n look ≡ 1 + 2 * head
message_looks n head len size look whole waits = elim (leb_tells len size) [
  | inl fits ↦ ap (looks_to_find n) (whole fits.1)
  | inr short ↦ ap (looks_to_find n) (waits (omega (arith, short.1)))
]

-- a first line that hasn't ended
pub first_line_looked : (peer : Peer) (bytes : List ℕ) (searched size : ℕ) (look : Look) → IsFirstLineStart bytes searched → HasNoLf (drop searched (window bytes)) → size ≡ length bytes
    → (head_limit ≤ size → look ≡ looks.Bad HeadTooLong) → (size < head_limit → look ≡ looks.Waits (knows.FirstLine size)) → IsLook peer bytes look
first_line_looked peer bytes searched size look p behind size_is long short =
    let none : HasNoLf (drop 0 (window bytes)) = open_tail bytes 0 searched (omega arith) (omega arith) p.none_found behind in
    elim (leb_tells head_limit size) [
      | inl over ↦ subst (IsLook peer bytes) (sym (long over.1)) (long_fails peer bytes p.begins (inl none) (omega (arith, over.1)))
      | inr within ↦
          subst (IsLook peer bytes) (sym (short (omega (arith, within.1)) ∙ ap (λ (n : ℕ). looks.Waits (knows.FirstLine n)) size_is))
          (first_line_waits peer bytes p.begins none (omega (arith, within.1)))
    ]

-- a later line that hasn't ended
pub fields_looked : (peer : Peer) (bytes : List ℕ) (line searched size : ℕ) {told : Option ℕ} (look : Look) → IsFieldsStart peer bytes line searched told → HasNoLf (drop searched (window bytes)) → size ≡ length bytes
    → (head_limit ≤ size → look ≡ looks.Bad HeadTooLong) → (size < head_limit → look ≡ looks.Waits (knows.Fields line size told)) → IsLook peer bytes look
fields_looked peer bytes line searched size {told} look p behind size_is long short =
    let none : HasNoLf (drop line (window bytes)) = open_tail bytes line searched p.in_order p.short p.none_found behind in
    elim (leb_tells head_limit size) [
      | inl over ↦ subst (IsLook peer bytes) (sym (long over.1)) (long_fails peer bytes p.begins (fields_go_on peer bytes line p.short p.good none) (omega (arith, over.1)))
      | inr within ↦
          subst (IsLook peer bytes) (sym (short (omega (arith, within.1)) ∙ ap (λ (n : ℕ). looks.Waits (knows.Fields line n told)) size_is))
          (fields_wait peer bytes line searched p none (omega (arith, within.1)))
    ]

pub fields_looks : (n line size : ℕ) (told : Option ℕ) (look : Look) → size ≡ n → line ≤ n → (head_limit ≤ size → look ≡ looks.Bad HeadTooLong) → (size < head_limit → look ≡ looks.Waits (knows.Fields line size told)) → 1 + n + line ≤ looks_to_find n look
fields_looks n line size told look size_is low long short = elim (leb_tells head_limit size) [
  | inl over ↦ let e = ap (looks_to_find n) (long over.1) in omega (arith, e)
  | inr within ↦ let e = ap (looks_to_find n) (short (omega (arith, within.1))) in omega (arith, e)
]

-- the four bytes of a frame's head
pub frame_start : (bytes : List ℕ) (from len high low : ℕ) → BeginsFrame (drop from bytes) → 4 ≤ length bytes - from → high ≡ get_or bytes (from + 2) 0 → low ≡ get_or bytes (from + 3) 0 → len ≡ 4 + (256 * high + low) → len ≤ 65539 → IsFrameStart (drop from bytes) len
frame_start bytes from len high low begins size high_is low_is len_is most = record {
  begins = begins;
  has_head = omega (arith, length-drop from bytes);
  len_is = omega (arith, get_or-drop from bytes 2 0, get_or-drop from bytes 3 0);
  most = most;
}

-- The next line after good ones: it ends here, and says this.
pub record NextLine (bytes : List ℕ) (line end : ℕ) (text : List ℕ) : Type 0 where
  pub at : IsLineAt bytes line end
  pub says : text ≡ said (between bytes line end)
  pub within : end < length bytes
  pub low : line ≤ end

pub next_line : (all before after : List ℕ) (from line searched end : ℕ) (shown text : List ℕ) → line ≤ searched → HasNoLf (between (drop from all) line searched) → before ≡ all → after ≡ before → IsFirstLf (drop from before) searched end
    → shown ≡ between after (from + line) (from + end) → text ≡ said shown → NextLine (drop from all) line end text
next_line all before after from line searched end shown text low none same still found shown_is text_is =
    let lf : IsFirstLf (drop from all) searched end = subst (λ (l : List ℕ). IsFirstLf (drop from l) searched end) same found in
    record {
      at = line_at (drop from all) line searched end low none lf;
      says = text_is ∙ ap said (shown_is ∙ ap (λ (l : List ℕ). between l (from + line) (from + end)) (still ∙ same) ∙ between_behind all from line end);
      within = lf.within;
      low = omega (arith, lf.behind);
    }

pub next_good : (peer : Peer) (bytes : List ℕ) (line searched end : ℕ) (text : List ℕ) {told now : Option ℕ} → IsFieldsStart peer bytes line searched told → end < head_limit → NextLine bytes line end text
    → (header : Header) × IsHeaderLine text header × ((before : List Header) → Tell before told → (field_fault before header ≡ None) × Tell (before ++ header ∷ []) now) → IsFieldsStart peer bytes (end + 1) (end + 1) now
next_good peer bytes line searched end text p short next (header, is, allowed) = record {
  begins = p.begins;
  good = good_more peer bytes line end header p.good next.at (subst (λ (t : List ℕ). IsHeaderLine t header) next.says is) allowed;
  short = omega arith;
  in_order = omega arith;
  within = omega (arith, next.within);
  none_found = none_between bytes (end + 1);
}

pub next_bad : (peer : Peer) (bytes : List ℕ) (line searched end : ℕ) (text : List ℕ) {told : Option ℕ} (fault : Fault) → IsFieldsStart peer bytes line searched told → end < head_limit → NextLine bytes line end text
    → ((before : List Header) → Tell before told → IsBadHeader before text fault) → EndsAsFrom peer bytes (Fails fault)
next_bad peer bytes line searched end text fault p short next bad =
    (p.begins, fields_bad peer bytes line end fault short p.good next.at (λ before t. subst (λ (x : List ℕ). IsBadHeader before x fault) next.says (bad before t)))

pub next_empty : (peer : Peer) (bytes : List ℕ) (line searched end : ℕ) (text : List ℕ) {told : Option ℕ} → IsFieldsStart peer bytes line searched told → end < head_limit → NextLine bytes line end text → text ≡ []
    → IsMessageStart peer bytes (end + 1) (end + 1 + unwrap_or told 0)
next_empty peer bytes line searched end text p short next empty = head_ends peer bytes line end short next.within p.begins p.good next.at (sym next.says ∙ empty)

pub first_start : (peer : Peer) (bytes : List ℕ) (end : ℕ) (text : List ℕ) (method uri version : List ℕ) → BeginsMessage bytes → end < head_limit → NextLine bytes 0 end text → IsStartLine peer text method uri version → IsFieldsStart peer bytes (end + 1) (end + 1) None
first_start peer bytes end text method uri version begins short next is = record {
  begins = begins;
  good = first_good peer bytes end method uri version next.at (subst (λ (t : List ℕ). IsStartLine peer t method uri version) next.says is);
  short = omega arith;
  in_order = omega arith;
  within = omega (arith, next.within);
  none_found = none_between bytes (end + 1);
}

pub first_fault : (peer : Peer) (bytes : List ℕ) (end : ℕ) (text : List ℕ) → BeginsMessage bytes → end < head_limit → NextLine bytes 0 end text → ((method uri version : List ℕ) → IsStartLine peer text method uri version → ⊥) → EndsAsFrom peer bytes (Fails BadLine)
first_fault peer bytes end text begins short next bad =
    (begins, first_bad peer bytes end short next.at (λ m u v q. bad m u v (subst (λ (t : List ℕ). IsStartLine peer t m u v) (sym next.says) q)))
