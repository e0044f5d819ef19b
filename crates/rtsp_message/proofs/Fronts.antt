-- A unit at the front of a stream, from its parts.
use Rattle.std.proofs.Common.{◌≡◌, ◌+◌, ◌<◌, ◌≤◌, ℕ, List, [], ◌∷◌, ◌++◌, Bool, true, false, Option, None, Some, length, take, drop, nat_le, ◌&&◌, if◌then◌else◌, refl, sym, ap, subst, ◌∙◌, arith, take-append-drop, length-append, length-drop}
use Rattle.std.specs.Option.{option_and_then}
use Rattle.std.specs.Prelude.{unwrap_or, codes}
use Rattle.std.proofs.lemmas.Bool.Decides.{nat_tests}
use Rattle.std.proofs.lemmas.List.{length-take-le}
use Rattle.std.proofs.Math.Seq.{take-add}
use Rattle.interleaved.specs.Frame.{FrameBegins}
use Rattle.rtsp_message.specs.declared.peer.Peer.{Peer}
use Rattle.rtsp_message.specs.Limits.{body_limit, waiting_limit}
use Rattle.rtsp_message.specs.declared.request.Request.{Request}
use Rattle.std.specs.Str.Parse.{digits_value}
use Rattle.base_syntax.specs.Numbers.{number_up_to, is_numeral}
use Rattle.rtsp_message.specs.Headers.{value_of}
use Rattle.rtsp_message.specs.Heads.{IsHeadFrom}
use Rattle.rtsp_message.specs.Lengths.{body_len}
use Rattle.rtsp_message.specs.Stream.{BeginsMessage, IsMessageFrom, IsUndecided}
use Rattle.rtsp_message.proofs.Pieces.{head_is_some}
use Rattle.rtsp_message.proofs.Undecided.{body_is_short}

-- four bytes stand before the data
pub frame_has_head : (bytes : List ℕ) (len : ℕ) → FrameBegins bytes len → 4 ≤ length (take len bytes)
frame_has_head bytes len p = omega (arith, ap length p.3.2)

begins_front : (front more : List ℕ) → 0 < length front → BeginsMessage (front ++ more) → BeginsMessage front
begins_front [] more some p = absurd (omega (arith, some))
begins_front (b ∷ front) more some p = p

-- the head says nothing of the body
other_body : (peer : Peer) (bytes : List ℕ) (request : Request) (body : List ℕ) → IsHeadFrom peer bytes request → IsHeadFrom peer bytes (record request { body = body })
other_body peer bytes request body p = record {
  first = p.first;
  rest = p.rest;
  whole = p.whole;
  first_unbroken = p.first_unbroken;
  request_line = p.request_line;
  fields = p.fields;
  cseq = p.cseq;
  short = p.short;
}

-- a head, and the bytes of the body after it
pub message_parts : (peer : Peer) (bytes : List ℕ) (head len : ℕ) (request : Request) (rest body : List ℕ) → BeginsMessage bytes → head ≤ length bytes → IsHeadFrom peer (take head bytes) request → rest ≡ drop head bytes → len ≡ body_len request.headers → len ≤ length rest → body ≡ take len rest
    → (head + len ≤ length bytes) × IsMessageFrom peer (take (head + len) bytes) (record request { body = body })
message_parts peer bytes head len request rest body begins within is rest_is len_is fits body_is =
    let size : length body ≡ len = ap length body_is ∙ length-take-le len rest fits in (
      omega (arith, fits, within, ap length rest_is, length-drop head bytes),
      record {
        head = take head bytes;
        whole = take-add head len bytes ∙ ap (λ (l : List ℕ). take head bytes ++ take len l) (sym rest_is) ∙ ap (λ (l : List ℕ). take head bytes ++ l) (sym body_is);
        begins = begins_front (take head bytes) (drop head bytes) (head_is_some peer is) (subst BeginsMessage (sym (take-append-drop head bytes)) begins);
        is_head = other_body peer (take head bytes) request body is;
        body_size = size ∙ len_is;
      },
    )

number_within : (known : Bool) (n : ℕ) → (known ≡ true → n ≤ body_limit) → unwrap_or (if known then Some n else None) 0 ≤ body_limit
number_within true n p = p refl
number_within false n p = omega arith

body_is_bounded : (value : Option (List ℕ)) → unwrap_or (option_and_then (number_up_to body_limit) value) 0 ≤ body_limit
body_is_bounded None = omega arith
body_is_bounded (Some text) = number_within (is_numeral text && nat_le (digits_value 10 text) body_limit) (digits_value 10 text) (λ e. grind (arith, nat_tests, e))

-- a head whose body hasn't come whole
pub body_waits : (peer : Peer) (bytes : List ℕ) (head len : ℕ) (request : Request) (rest : List ℕ) → BeginsMessage bytes → head ≤ length bytes → IsHeadFrom peer (take head bytes) request → rest ≡ drop head bytes → len ≡ body_len request.headers → length rest < len
    → IsUndecided peer bytes × (length bytes < waiting_limit)
body_waits peer bytes head len request rest begins within is rest_is len_is short =
    let parts : bytes ≡ take head bytes ++ drop head bytes = sym (take-append-drop head bytes) in
    let most : body_len request.headers ≤ body_limit = body_is_bounded (value_of request.headers (codes "Content-Length")) in (
      body_is_short peer bytes (take head bytes) (drop head bytes) request begins is parts (omega (arith, short, len_is, ap length rest_is)),
      omega (arith, most, is.short, short, len_is, ap length rest_is, ap length parts, length-append (take head bytes) (drop head bytes)),
    )
