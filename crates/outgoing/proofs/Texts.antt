-- The texts of items, and the bytes that wait.
use Rattle.std.proofs.Common.{◌≡◌, ℕ, ◌+◌, ◌-◌, ◌<◌, ◌≤◌, cond, List, [], ◌∷◌, ◌++◌, length, drop, map, refl, sym, take, ap, ◌∙◌, arith, append-nil, length-append, length-drop}
use Rattle.std.specs.List.{count_by, flat_map}
use Rattle.std.proofs.lemmas.List.{drop-append-le, drop-drop, drop_at, length-take-le}
use Rattle.std.proofs.lemmas.List.Concat.{flat_map-append}
use Rattle.std.proofs.lemmas.List.Sums.{sum_by-cons}
use Rattle.interleaved.specs.Frame.{FrameBegins, frame_of, head_of}
use Rattle.rtsp_message.specs.Reply.{cseq_field, status_line}
use Rattle.rtsp_message.specs.Reply as replies
use Rattle.request_text.specs.Fields.{field_text, line_end}
use Rattle.request_text.specs.Sending.{Asking, Framed}
use Rattle.request_text.specs.Texts.{first_line, head_text, request_of}
use Rattle.outgoing.specs.Items.{Item, Replies, Sends, is_frame, item_text}
use Rattle.outgoing.specs.Queues.{Puts, Queue, Takes, Waiting, bytes_waiting, frame_count, texts, waiting_item}
use Rattle.outgoing.specs.Runs.{texts_of}

longer : (front back : List ℕ) → 0 < length back → 0 < length (front ++ back)
longer front back some = omega (arith, length-append front back)

-- each item has a byte
pub some_text : (item : Item) → 0 < length (item_text item)
some_text (Sends (Asking request)) =
    let parsed = request_of request in
    let head : 0 < length (head_text parsed) = longer (first_line parsed ++ flat_map field_text parsed.headers) line_end (omega arith) in
    omega (arith, length-append (head_text parsed) parsed.body)
some_text (Sends (Framed frame)) = omega arith
some_text (Replies status cseq) = longer (status_line status ++ cseq_field cseq) replies.line_end (omega arith)

texts-append : (front back : List Waiting) → texts (front ++ back) ≡ texts front ++ texts back
texts-append front back = flat_map-append (λ (i : Waiting). i.text) front back

pub texts-push : (items : List Waiting) (item : Waiting) → texts (items ++ item ∷ []) ≡ texts items ++ item.text
texts-push items item = texts-append items (item ∷ []) ∙ ap (λ (l : List ℕ). texts items ++ l) (append-nil item.text)

pub texts-map : (items : List Item) → texts (map waiting_item items) ≡ texts_of items
texts-map [] = refl
texts-map (item ∷ items) = ap (λ (l : List ℕ). item_text item ++ l) (texts-map items)

pub frame_count-map : (items : List Item) → frame_count (map waiting_item items) ≡ count_by is_frame items
frame_count-map [] = refl
frame_count-map (item ∷ items) =
    sum_by-cons (λ (i : Waiting). cond i.is_frame 1 0) (waiting_item item) (map waiting_item items)
    ∙ ap (λ (n : ℕ). cond (is_frame item) 1 0 + n) (frame_count-map items)
    ∙ sym (sum_by-cons (λ (i : Item). cond (is_frame i) 1 0) item items)

-- a put adds its text to what waits
pub bytes_waiting-put : (item : Waiting) (old new : Queue) → old.begun ≤ length (texts old.items) → Puts item old new
    → bytes_waiting new ≡ bytes_waiting old ++ item.text
bytes_waiting-put item old new fits put =
    let all : texts new.items ≡ texts old.items ++ item.text = ap texts put.items ∙ texts-push old.items item in
    ap (λ (n : ℕ). drop n (texts new.items)) put.begun ∙ ap (drop old.begun) all ∙ drop-append-le old.begun (texts old.items) item.text fits

-- a taking drops the first of the bytes that wait
pub bytes_waiting-taken : (count frames : ℕ) (old new : Queue) → Takes count frames old new → bytes_waiting new ≡ drop count (bytes_waiting old)
bytes_waiting-taken count frames old new taken =
    let gone : List ℕ = texts taken.gone in
    let rest : List ℕ = texts new.items in
    let all : texts old.items ≡ gone ++ rest = ap texts taken.items ∙ texts-append taken.gone new.items in
    let places : length gone + new.begun ≡ old.begun + count = taken.bytes in
    let dropped : drop count (bytes_waiting old) ≡ drop new.begun rest =
    drop-drop count old.begun (texts old.items) ∙ ap (λ (l : List ℕ). drop (old.begun + count) l) all
    ∙ ap (λ (n : ℕ). drop n (gone ++ rest)) (sym places) ∙ sym (drop-drop new.begun (length gone) (gone ++ rest))
    ∙ ap (drop new.begun) (drop_at gone rest (length gone) refl) in
    sym dropped

-- a frame has its four bytes
pub frame_head_fits : (bytes : List ℕ) (len : ℕ) → FrameBegins bytes len → 4 ≤ len
frame_head_fits bytes len begins = omega (arith, ap length begins.3.2, length-take-le len bytes begins.0)

-- the text of a frame that is in place, with another head
pub frame_in_place : (bytes head : List ℕ) (len channel size : ℕ) → FrameBegins bytes len → head ≡ head_of channel size → size ≡ len - 4
    → head ++ drop (length head) (take len bytes) ≡ frame_of channel (drop 4 (take len bytes))
frame_in_place bytes head len channel size begins head_is size_is =
    let payload : List ℕ = drop 4 (take len bytes) in
    let long : size ≡ length payload = omega (arith, size_is, length-drop 4 (take len bytes), length-take-le len bytes begins.0) in
    ap (λ (l : List ℕ). l ++ drop (length l) (take len bytes)) head_is ∙ ap (λ (n : ℕ). head_of channel n ++ payload) long
