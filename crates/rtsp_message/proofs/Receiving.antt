-- What a client receives from a server is what the bytes say.
use Rattle.std.proofs.Common.{◌≡◌, ◌<◌, ◌^◌, ℕ, Bool, true, false, nat_le, List, [], ◌∷◌, length, refl, sym, subst, inl, inr, arith}
use Rattle.std.specs.Prelude.{codes, nat_eq}
use Rattle.std.specs.List.{starts_with}
use Rattle.std.specs.Str.Parse.{digits_value}
use Rattle.std.proofs.lemmas.Bool.{and_parts, eqb-true}
use Rattle.std.proofs.lemmas.Bool.Decides.{nat_tests}
use Rattle.std.proofs.lemmas.Int.Digits.{digits_value-lt}
use Rattle.base_syntax.specs.Lines.{said}
use Rattle.base_syntax.specs.Numbers.{is_numeral}
use Rattle.base_syntax.proofs.Digits.{numeral_to}
use Rattle.rtsp_message.specs.declared.byte_class.ByteClass.TheVariants.{Token}
use Rattle.rtsp_message.specs.declared.peer.Peer.TheVariants.{Server}
use Rattle.rtsp_message.specs.declared.received.Received.TheVariants as receives
use Rattle.rtsp_message.specs.declared.request.Request.{Request}
use Rattle.rtsp_message.specs.declared.unit.Unit.{Unit as StreamUnit}
use Rattle.rtsp_message.specs.declared.unit.Unit.TheVariants.{Message, Frame}
use Rattle.rtsp_message.specs.Heads.{IsHead, IsHeadFrom}
use Rattle.rtsp_message.specs.Lines.{Each, is_in, IsRequestLine, IsStatusLine, IsVersion}
use Rattle.rtsp_message.specs.ServerStream.{IsReceived, IsReply, IsReplyHead, received, response_of}
use Rattle.rtsp_message.specs.Statuses.{status_of}
use Rattle.rtsp_message.specs.Stream.{IsMessage, IsMessageFrom, IsUnitFrom}
use Rattle.rtsp_message.proofs.Runs.{false_is_true}

not_true : (test : Bool) → (test ≡ true → ⊥) → test ≡ false
not_true true p = absurd (p refl)
not_true false p = refl

-- a token doesn't begin so: a slash is no byte of it
tokens_begin_otherwise : (text : List ℕ) → Each Token text → starts_with nat_eq text (codes "RTSP/") ≡ true → ⊥
tokens_begin_otherwise [] p h = absurd (cc)
tokens_begin_otherwise (a ∷ []) p h = false_is_true (and_parts (nat_eq 82 a) _ h).1
tokens_begin_otherwise (a ∷ b ∷ []) p h = false_is_true (and_parts (nat_eq 84 b) _ (and_parts (nat_eq 82 a) _ h).1).1
tokens_begin_otherwise (a ∷ b ∷ c ∷ []) p h = false_is_true (and_parts (nat_eq 83 c) _ (and_parts (nat_eq 84 b) _ (and_parts (nat_eq 82 a) _ h).1).1).1
tokens_begin_otherwise (a ∷ b ∷ c ∷ d ∷ []) p h = false_is_true (and_parts (nat_eq 80 d) _ (and_parts (nat_eq 83 c) _ (and_parts (nat_eq 84 b) _ (and_parts (nat_eq 82 a) _ h).1).1).1).1
tokens_begin_otherwise (a ∷ b ∷ c ∷ d ∷ e ∷ text) p h =
    let slash = (and_parts (nat_eq 47 e) _ (and_parts (nat_eq 80 d) _ (and_parts (nat_eq 83 c) _ (and_parts (nat_eq 84 b) _ (and_parts (nat_eq 82 a) _ h).1).1).1).1).0 in
    let is : 47 ≡ e = eqb-true 47 e slash in
    false_is_true (subst (λ (n : ℕ). is_in Token n ≡ true) (sym is) p.1.1.1.1.0)

-- three digits write a number up to 999
three_digits_value : (digits : List ℕ) → length digits ≡ 3 → is_numeral digits ≡ true → status_of digits ≡ digits_value 10 digits
three_digits_value digits size numeral =
    let form = numeral_to digits numeral in
    let below : digits_value 10 digits < 10 ^ length digits = digits_value-lt 10 digits form.1 in
    let thousand : digits_value 10 digits < 1000 = subst (λ (n : ℕ). digits_value 10 digits < 10 ^ n) size below in
    let most : nat_le (digits_value 10 digits) 999 ≡ true = grind (arith, nat_tests) in
    rw (numeral, most) refl

version_begins : (version : List ℕ) → IsVersion version → starts_with nat_eq version (codes "RTSP/") ≡ true
version_begins version p = subst (λ (text : List ℕ). starts_with nat_eq text (codes "RTSP/") ≡ true) (sym p.1) refl

-- what is received of a message, by how its start line begins
reply_received : (message : Request) → starts_with nat_eq message.method (codes "RTSP/") ≡ true → received (Message message) ≡ receives.Reply (response_of message)
reply_received message h = rw h refl

request_received : (message : Request) → starts_with nat_eq message.method (codes "RTSP/") ≡ false → received (Message message) ≡ receives.Request message
request_received message h = rw h refl

-- the head of a reply
reply_head : (head : List ℕ) (message : Request) (p : IsHeadFrom Server head message) → IsStatusLine (said p.first) message.method message.uri message.version → IsReplyHead head (response_of message)
reply_head head message p line = record {
  first = p.first;
  rest = p.rest;
  digits = message.uri;
  whole = p.whole;
  first_unbroken = p.first_unbroken;
  status_line = line;
  status_is = three_digits_value message.uri line.three_digits.0 line.three_digits.1;
  fields = p.fields;
  cseq = p.cseq;
  short = p.short;
}

-- and of a request
request_head : (head : List ℕ) (message : Request) (p : IsHeadFrom Server head message) → IsRequestLine (said p.first) message.method message.uri message.version → IsHead head message
request_head head message p line = record {
  first = p.first;
  rest = p.rest;
  whole = p.whole;
  first_unbroken = p.first_unbroken;
  request_line = line;
  fields = p.fields;
  cseq = p.cseq;
  short = p.short;
}

message_received : (bytes : List ℕ) (message : Request) → IsMessageFrom Server bytes message → IsReceived bytes (received (Message message))
message_received bytes message p = elim p.is_head.request_line [
  | inl line ↦
      let other : starts_with nat_eq message.method (codes "RTSP/") ≡ false = not_true _ (tokens_begin_otherwise message.method line.method_bytes.1) in
      let is : IsMessage bytes message = record { head = p.head; whole = p.whole; begins = p.begins; is_head = request_head p.head message p.is_head line; body_size = p.body_size } in
      subst (IsReceived bytes) (sym (request_received message other)) is
  | inr line ↦
      let is : IsReply bytes (response_of message) = record { head = p.head; whole = p.whole; is_head = reply_head p.head message p.is_head line; body_size = p.body_size } in
      subst (IsReceived bytes) (sym (reply_received message (version_begins message.method line.version_is))) is
]

pub unit_received : (bytes : List ℕ) (content : StreamUnit) → IsUnitFrom Server bytes content → IsReceived bytes (received content)
unit_received bytes (Message message) p = message_received bytes message p
unit_received bytes (Frame frame) p = p
