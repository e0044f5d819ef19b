-- The text of a request is a message, and what is sent is read as it was sent.
use Rattle.std.proofs.Common.{◌≡◌, ◌<◌, ◌^◌, ◌/◌, ◌%◌, ℕ, List, [], ◌∷◌, ◌++◌, Some, codes, length, map, refl, sym, ap, subst, ◌∙◌, arith, append_assoc, append-nil}
use Rattle.std.specs.List.{flat_map, AllByRecursion}
use Rattle.base_syntax.specs.Lines.{HasNoLf}
use Rattle.base_syntax.proofs.LineEnds.{said-cr}
use Rattle.rtsp_message.specs.declared.byte_class.ByteClass.TheVariants.{Space, Token, Visible}
use Rattle.rtsp_message.specs.declared.request.Request.{Request}
use Rattle.rtsp_message.specs.declared.unit.Unit.{Unit as StreamUnit}
use Rattle.rtsp_message.specs.declared.unit.Unit.TheVariants.{Message, Frame}
use Rattle.rtsp_message.specs.declared.peer.Peer.TheVariants.{Client}
use Rattle.rtsp_message.specs.Heads.{EndsHeaders, IsHead}
use Rattle.rtsp_message.specs.Lines.{IsRequestLine, OneOrMore}
use Rattle.rtsp_message.specs.Stream.{ArePieces, BeginsMessage, IsMessage, IsUnit, Piece, Reads, Waits, Whole, bytes_of, units_of}
use Rattle.rtsp_message.proofs.OneUnit.{begins_message, same_units}
use Rattle.rtsp_message.proofs.Pieces.{empty_waits}
use Rattle.request_text.specs.declared.method.Method.{Method}
use Rattle.request_text.specs.declared.method.Method.TheVariants as methods
use Rattle.request_text.specs.declared.request_text.RequestText.{RequestText}
use Rattle.request_text.specs.Faults.{IsSendable}
use Rattle.request_text.specs.Fields.{field_text, headers_of, line_end}
use Rattle.request_text.specs.Methods.{method_of, name_of}
use Rattle.request_text.specs.Sending.{Asking, CanSend, Framed, Sent, sent_text, sent_unit}
use Rattle.request_text.specs.Texts.{head_text, message_text, request_of}
use Rattle.request_text.proofs.PlainFields.{body_told, headers_read, number_told}
use Rattle.request_text.proofs.Plain.{each_of, ended_cr, joined_lines, line_of, no_feed, no_feed_joined, with_cr}

name_is : (method : Method) → OneOrMore Token (name_of method) × BeginsMessage (name_of method)
name_is methods.Options = ((omega arith, each_of Token (codes "OPTIONS") refl), (refl, refl))
name_is methods.Describe = ((omega arith, each_of Token (codes "DESCRIBE") refl), (refl, refl))
name_is methods.Announce = ((omega arith, each_of Token (codes "ANNOUNCE") refl), (refl, refl))
name_is methods.Setup = ((omega arith, each_of Token (codes "SETUP") refl), (refl, refl))
name_is methods.Record = ((omega arith, each_of Token (codes "RECORD") refl), (refl, refl))
name_is methods.Play = ((omega arith, each_of Token (codes "PLAY") refl), (refl, refl))
name_is methods.GetParameter = ((omega arith, each_of Token (codes "GET_PARAMETER") refl), (refl, refl))
name_is methods.Teardown = ((omega arith, each_of Token (codes "TEARDOWN") refl), (refl, refl))

abbrev line : (method uri : List ℕ) → List ℕ
line method uri = method ++ codes " " ++ uri ++ codes " " ++ codes "RTSP/1.0"

line_cut : (method uri : List ℕ) → line method uri ≡ method ++ (codes " " ++ (uri ++ (codes " " ++ (codes "RTSP/1.0" ++ []))))
line_cut method uri =
    append_assoc (method ++ codes " " ++ uri) (codes " ") (codes "RTSP/1.0")
    ∙ append_assoc (method ++ codes " ") uri (codes " " ++ codes "RTSP/1.0")
    ∙ append_assoc method (codes " ") (uri ++ (codes " " ++ codes "RTSP/1.0"))

line_is : (method uri : List ℕ) → OneOrMore Token method → OneOrMore Visible uri → IsRequestLine (line method uri) method uri (codes "RTSP/1.0")
line_is method uri token visible = record {
  first_gap = codes " ";
  second_gap = codes " ";
  tail = [];
  whole = line_cut method uri;
  method_bytes = token;
  first_spaces = (omega arith, each_of Space (codes " ") refl);
  uri_bytes = visible;
  second_spaces = (omega arith, each_of Space (codes " ") refl);
  version_bytes = (omega arith, each_of Visible (codes "RTSP/1.0") refl);
  tail_blank = tt;
}

line_unbroken : (method uri : List ℕ) → OneOrMore Token method → OneOrMore Visible uri → HasNoLf (with_cr (line method uri))
line_unbroken method uri token visible =
    let space : HasNoLf (codes " ") = no_feed Space refl (codes " ") (each_of Space (codes " ") refl) in
    no_feed_joined (line method uri) (13 ∷ [])
    (no_feed_joined (method ++ codes " " ++ uri ++ codes " ") (codes "RTSP/1.0")
    (no_feed_joined (method ++ codes " " ++ uri) (codes " ")
    (no_feed_joined (method ++ codes " ") uri
    (no_feed_joined method (codes " ") (no_feed Token refl method token.1) space)
    (no_feed Visible refl uri visible.1))
    space)
    (no_feed Visible refl (codes "RTSP/1.0") (each_of Visible (codes "RTSP/1.0") refl)))
    (refl, tt)

fields_end : (request : RequestText) → request.number < 2 ^ 32 → IsSendable request → EndsHeaders (flat_map field_text (headers_of request) ++ line_end) (headers_of request)
fields_end request fits p = record {
  lines = map line_of (headers_of request);
  last = 13 ∷ [];
  whole = ap (λ (l : List ℕ). l ++ line_end) (joined_lines (headers_of request));
  are_headers = headers_read request fits p.values p.body;
  last_unbroken = (refl, tt);
  last_empty = refl;
}

head_is : (request : RequestText) → request.number < 2 ^ 32 → IsSendable request → IsHead (head_text (request_of request)) (request_of request)
head_is request fits p =
    let method : List ℕ = name_of (method_of request.asked) in
    let uri : List ℕ = request.uri.now in
    let fields : List ℕ = flat_map field_text (headers_of request) in
    let token : OneOrMore Token method = (name_is (method_of request.asked)).0 in
    record {
      first = with_cr (line method uri);
      rest = fields ++ line_end;
      whole = append_assoc (line method uri ++ line_end) fields line_end ∙ ap (λ (l : List ℕ). l ++ (fields ++ line_end)) (sym (ended_cr (line method uri)));
      first_unbroken = line_unbroken method uri token p.uri;
      request_line = subst (λ (l : List ℕ). IsRequestLine l method uri (codes "RTSP/1.0")) (sym (said-cr (line method uri))) (line_is method uri token p.uri);
      fields = fields_end request fits p;
      cseq = number_told request fits;
      short = p.head;
    }

head_begins : (request : RequestText) → BeginsMessage (head_text (request_of request))
head_begins request =
    let method : List ℕ = name_of (method_of request.asked) in
    let uri : List ℕ = request.uri.now in
    let fields : List ℕ = flat_map field_text (headers_of request) in
    begins_message (line method uri ++ line_end ++ fields) line_end
    (begins_message (line method uri ++ line_end) fields
    (begins_message (line method uri) line_end
    (begins_message (method ++ codes " " ++ uri ++ codes " ") (codes "RTSP/1.0")
    (begins_message (method ++ codes " " ++ uri) (codes " ")
    (begins_message (method ++ codes " ") uri
    (begins_message method (codes " ") (name_is (method_of request.asked)).1))))))

pub is_message : (request : RequestText) → request.number < 2 ^ 32 → IsSendable request → IsMessage (message_text (request_of request)) (request_of request)
is_message request fits p = record {
  head = head_text (request_of request);
  whole = refl;
  begins = head_begins request;
  is_head = head_is request fits p;
  body_size = body_told request fits p.values p.body;
}

sent_is : (item : Sent) → CanSend item → IsUnit (sent_text item) (sent_unit item)
sent_is (Asking request) p = is_message request p.0 p.1
sent_is (Framed frame) p = (length frame.payload / 256, length frame.payload % 256, refl, omega arith)

abbrev piece_of : Sent → Piece
piece_of item = Whole (sent_text item) (sent_unit item)

pieces_are : (items : List Sent) → AllByRecursion CanSend items → ArePieces (map piece_of items)
pieces_are [] p = tt
pieces_are (item ∷ items) p = (sent_is item p.0, pieces_are items p.1)

bytes_are : (items : List Sent) → flat_map sent_text items ≡ bytes_of (map piece_of items)
bytes_are [] = refl
bytes_are (item ∷ items) = ap (λ (l : List ℕ). sent_text item ++ l) (bytes_are items)

units_are : (items : List Sent) → map sent_unit items ≡ units_of (map piece_of items)
units_are [] = refl
units_are (item ∷ items) = ap (λ (l : List StreamUnit). sent_unit item ∷ l) (units_are items)

pub all_read : (items : List Sent) → AllByRecursion CanSend items → Reads (flat_map sent_text items) (map sent_unit items) (Waits [])
all_read items p = record {
  pieces = map piece_of items;
  rest = [];
  whole = bytes_are items ∙ sym (append-nil (bytes_of (map piece_of items)));
  are_pieces = pieces_are items p;
  units_are = units_are items;
  ends = empty_waits Client;
}

pub one_read : (request : RequestText) → request.number < 2 ^ 32 → IsSendable request → Reads (message_text (request_of request)) (Message (request_of request) ∷ []) (Waits [])
one_read request fits p =
    subst (λ (l : List ℕ). Reads l (Message (request_of request) ∷ []) (Waits [])) (append-nil (message_text (request_of request)))
    (all_read (Asking request ∷ []) ((fits, p), tt))

-- the request of a unit
abbrev request_in : Request → StreamUnit → Request
request_in other (Message request) = request
request_in other (Frame frame) = other

pub same_request : (a b : RequestText) → a.number < 2 ^ 32 → b.number < 2 ^ 32 → IsSendable a → IsSendable b → message_text (request_of a) ≡ message_text (request_of b) → request_of a ≡ request_of b
same_request a b fits fits' p q same =
    let stream : List ℕ = message_text (request_of a) in
    let units = same_units Client stream stream [] (message_text (request_of b)) [] (Message (request_of a)) (Message (request_of b)) (is_message a fits p) (is_message b fits' q) (sym (append-nil stream)) (same ∙ sym (append-nil (message_text (request_of b)))) in
    ap (request_in (request_of a)) units.1

pub same_number : (a b : RequestText) → a.number < 2 ^ 32 → b.number < 2 ^ 32 → IsSendable a → IsSendable b → message_text (request_of a) ≡ message_text (request_of b) → a.number ≡ b.number
same_number a b fits fits' p q same =
    let cseq : Some a.number ≡ Some b.number = ap (λ (r : Request). r.cseq) (same_request a b fits fits' p q same) in
    cc
