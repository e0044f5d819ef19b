-- What holds of every run of puts and takings.
use Rattle.std.proofs.Common.{◌≡◌, ℕ, ◌+◌, ◌-◌, ◌<◌, ◌≤◌, cond, List, [], ◌∷◌, ◌++◌, length, take, drop, map, refl, sym, ap, subst, ◌∙◌, arith, append_assoc, length-append}
use Rattle.std.specs.List.{AllByRecursion, count_by, flat_map}
use Rattle.std.proofs.lemmas.List.{drop-map, drop_at, flat_map_more, map_push, take-append-drop, take-map, take_at}
use Rattle.std.proofs.lemmas.List.Concat.{flat_map-append}
use Rattle.std.proofs.lemmas.List.Sums.{sum_by-append}
use Rattle.rtsp_message.specs.Stream.{Reads, Waits}
use Rattle.request_text.specs.Sending.{CanSend, Sent, sent_text, sent_unit}
use Rattle.request_text.proofs.Messages.{all_read}
use Rattle.outgoing.specs.Items.{CanPut, Item, Sends, is_frame, item_text}
use Rattle.outgoing.specs.Queues.{IsWithinFirst, Puts, Queue, Takes, Waiting, bytes_waiting, frame_count, texts, waiting_item}
use Rattle.outgoing.specs.Runs.{AreWhole, Event, Goes, HasGone, IsCutAt, bytes_taken, frames_taken, items_put, puts, swaps, takes, texts_of}
use Rattle.outgoing.proofs.Texts.{bytes_waiting-put, frame_count-map, some_text, texts-map}

-- where a run stands: of the items that were put, these are gone and the others wait
pub record Stands (events : List Event) (queue : Queue) : Type 0 where
  pub whole : List Item
  pub others : List Item
  pub parts : items_put events ≡ whole ++ others
  pub items : queue.items ≡ map waiting_item others
  pub stream : bytes_taken events ++ bytes_waiting queue ≡ texts_of (items_put events)
  pub size : length (bytes_taken events) ≡ length (texts_of whole) + queue.begun
  pub frames : frames_taken events ≡ count_by is_frame whole
  pub begun : IsWithinFirst queue.begun queue.items

pub begun_fits : (begun : ℕ) (items : List Waiting) → IsWithinFirst begun items → begun ≤ length (texts items)
begun_fits begun [] within = omega (arith, within)
begun_fits begun (item ∷ items) within = omega (arith, within, length-append item.text (texts items))

still_within : (begun : ℕ) (items : List Waiting) (item : Waiting) → 0 < length item.text → IsWithinFirst begun items → IsWithinFirst begun (items ++ item ∷ [])
still_within begun [] item some within = omega (arith, within)
still_within begun (first ∷ items) item some within = within

at_start : (queue : Queue) → queue.items ≡ [] → queue.begun ≡ 0 → Stands [] queue
at_start queue none begun = record {
  whole = [];
  others = [];
  parts = refl;
  items = none;
  stream = ap (λ (n : ℕ). drop n (texts queue.items)) begun ∙ ap texts none;
  size = omega (arith, begun);
  frames = refl;
  begun = subst (λ (l : List Waiting). IsWithinFirst queue.begun l) (sym none) begun;
}

after_put : (item : Item) (before : List Event) (old new : Queue) → Stands before old → Puts (waiting_item item) old new → Stands (puts item ∷ before) new
after_put item before old new stands put =
    let text : List ℕ = item_text item in
    let waits : bytes_waiting new ≡ bytes_waiting old ++ text = bytes_waiting-put (waiting_item item) old new (begun_fits old.begun old.items stands.begun) put in
    let within : IsWithinFirst old.begun new.items =
    subst (λ (l : List Waiting). IsWithinFirst old.begun l) (sym put.items) (still_within old.begun old.items (waiting_item item) (some_text item) stands.begun) in
    record {
      whole = stands.whole;
      others = stands.others ++ item ∷ [];
      parts = ap (λ (l : List Item). l ++ item ∷ []) stands.parts ∙ append_assoc stands.whole stands.others (item ∷ []);
      items = put.items ∙ ap (λ (l : List Waiting). l ++ waiting_item item ∷ []) stands.items ∙ sym (map_push waiting_item stands.others item);
      stream = ap (λ (l : List ℕ). bytes_taken before ++ l) waits ∙ sym (append_assoc (bytes_taken before) (bytes_waiting old) text)
          ∙ ap (λ (l : List ℕ). l ++ text) stands.stream ∙ flat_map_more item_text [] (items_put before) item;
      size = stands.size ∙ ap (λ (n : ℕ). length (texts_of stands.whole) + n) (sym put.begun);
      frames = stands.frames;
      begun = subst (λ (n : ℕ). IsWithinFirst n new.items) (sym put.begun) within;
    }

after_taking : (bytes : List ℕ) (frames : ℕ) (before : List Event) (old new : Queue) → Stands before old → bytes_waiting old ≡ bytes ++ bytes_waiting new
    → Takes (length bytes) frames old new → Stands (takes bytes frames ∷ before) new
after_taking bytes frames before old new stands waits taken =
    let n : ℕ = length taken.gone in
    let gone : List Item = take n stands.others in
    let rest : List Item = drop n stands.others in
    let all : map waiting_item stands.others ≡ taken.gone ++ new.items = sym stands.items ∙ taken.items in
    let gone_are : taken.gone ≡ map waiting_item gone =
    sym (take_at taken.gone new.items n refl) ∙ ap (take n) (sym all) ∙ take-map waiting_item n stands.others in
    let rest_are : new.items ≡ map waiting_item rest =
    sym (drop_at taken.gone new.items n refl) ∙ ap (drop n) (sym all) ∙ drop-map waiting_item n stands.others in
    let texts_are : texts taken.gone ≡ texts_of gone = ap texts gone_are ∙ texts-map gone in
    let sizes : length (texts_of (stands.whole ++ gone)) ≡ length (texts_of stands.whole) + length (texts taken.gone) =
    ap length (flat_map-append item_text stands.whole gone) ∙ length-append (texts_of stands.whole) (texts_of gone)
    ∙ ap (λ (l : List ℕ). length (texts_of stands.whole) + length l) (sym texts_are) in
    let counted : frames ≡ count_by is_frame gone = taken.frames_are ∙ ap frame_count gone_are ∙ frame_count-map gone in
    let places : length (texts taken.gone) + new.begun ≡ old.begun + length bytes = taken.bytes in
    let size : length (bytes_taken before) ≡ length (texts_of stands.whole) + old.begun = stands.size in
    record {
      whole = stands.whole ++ gone;
      others = rest;
      parts = stands.parts ∙ ap (λ (l : List Item). stands.whole ++ l) (sym (take-append-drop n stands.others)) ∙ sym (append_assoc stands.whole gone rest);
      items = rest_are;
      stream = append_assoc (bytes_taken before) bytes (bytes_waiting new) ∙ ap (λ (l : List ℕ). bytes_taken before ++ l) (sym waits) ∙ stands.stream;
      size = omega (arith, length-append (bytes_taken before) bytes, sizes, places, size);
      frames = ap (λ (m : ℕ). m + frames) stands.frames ∙ ap (λ (m : ℕ). count_by is_frame stands.whole + m) counted
          ∙ sym (sum_by-append (λ (i : Item). cond (is_frame i) 1 0) stands.whole gone);
      begun = taken.begun;
    }

after_swap : (room : ℕ) (before : List Event) (old new : Queue) → Stands before old → Goes (swaps room) old new → Stands (swaps room ∷ before) new
after_swap room before old new stands swap = record {
  whole = stands.whole;
  others = stands.others;
  parts = stands.parts;
  items = swap.0 ∙ stands.items;
  stream = ap (λ (n : ℕ). bytes_taken before ++ drop n (texts new.items)) swap.1 ∙ ap (λ (l : List Waiting). bytes_taken before ++ drop old.begun (texts l)) swap.0
      ∙ stands.stream;
  size = stands.size ∙ ap (λ (n : ℕ). length (texts_of stands.whole) + n) (sym swap.1);
  frames = stands.frames;
  begun = subst (λ (n : ℕ). IsWithinFirst n new.items) (sym swap.1) (subst (λ (l : List Waiting). IsWithinFirst old.begun l) (sym swap.0) stands.begun);
}

pub stands_at : (events : List Event) (queue : Queue) → HasGone events queue → Stands events queue
stands_at [] queue gone = at_start queue gone.items gone.begun
stands_at (puts item ∷ before) queue gone = after_put item before gone.0 queue (stands_at before gone.0 gone.1) gone.2.1
stands_at (takes bytes frames ∷ before) queue gone = after_taking bytes frames before gone.0 queue (stands_at before gone.0 gone.1) gone.2.0 gone.2.1
stands_at (swaps room ∷ before) queue gone = after_swap room before gone.0 queue (stands_at before gone.0 gone.1) gone.2

pub stream_is : (events : List Event) (queue : Queue) → HasGone events queue → bytes_taken events ++ bytes_waiting queue ≡ texts_of (items_put events)
stream_is events queue gone = (stands_at events queue gone).stream

cut_at : (begun size : ℕ) (items : List Waiting) (others : List Item) → items ≡ map waiting_item others → size ≡ begun → IsWithinFirst begun items → IsCutAt size others
cut_at begun size items [] are same within = tt
cut_at begun size items (item ∷ others) are same within =
    let first : begun < length (item_text item) = subst (λ (l : List Waiting). IsWithinFirst begun l) are within in
    omega (arith, first, same)

pub frames_are : (events : List Event) (queue : Queue) → HasGone events queue
    → (whole : List Item) × (others : List Item) × AreWhole (length (bytes_taken events)) (items_put events) whole others × (frames_taken events ≡ count_by is_frame whole)
frames_are events queue gone =
    let stands = stands_at events queue gone in
    let size : length (bytes_taken events) ≡ length (texts_of stands.whole) + queue.begun = stands.size in
    let left : length (bytes_taken events) - length (texts_of stands.whole) ≡ queue.begun = omega arith in (
      stands.whole,
      stands.others,
      record {
        parts = stands.parts;
        within = omega (arith, size);
        cut = cut_at queue.begun _ queue.items stands.others stands.items left stands.begun;
      },
      stands.frames,
    )

all_push : (items : List Item) (item : Item) → AllByRecursion CanPut items → CanPut item → AllByRecursion CanPut (items ++ item ∷ [])
all_push [] item all can = (can, tt)
all_push (first ∷ items) item all can = (all.0, all_push items item all.1 can)

pub all_can : (events : List Event) (queue : Queue) → HasGone events queue → AllByRecursion CanPut (items_put events)
all_can [] queue gone = tt
all_can (puts item ∷ before) queue gone = all_push (items_put before) item (all_can before gone.0 gone.1) gone.2.0
all_can (takes bytes frames ∷ before) queue gone = all_can before gone.0 gone.1
all_can (swaps room ∷ before) queue gone = all_can before gone.0 gone.1

all_send : (sent : List Sent) → AllByRecursion CanPut (map Sends sent) → AllByRecursion CanSend sent
all_send [] all = tt
all_send (first ∷ sent) all = (all.0, all_send sent all.1)

texts-sent : (sent : List Sent) → texts_of (map Sends sent) ≡ flat_map sent_text sent
texts-sent [] = refl
texts-sent (first ∷ sent) = ap (λ (l : List ℕ). sent_text first ++ l) (texts-sent sent)

pub all_is_read : (events : List Event) (queue : Queue) (sent : List Sent) → HasGone events queue → items_put events ≡ map Sends sent
    → Reads (bytes_taken events ++ bytes_waiting queue) (map sent_unit sent) (Waits [])
all_is_read events queue sent gone are =
    let can : AllByRecursion CanSend sent = all_send sent (subst (λ (l : List Item). AllByRecursion CanPut l) are (all_can events queue gone)) in
    let stream : bytes_taken events ++ bytes_waiting queue ≡ flat_map sent_text sent = stream_is events queue gone ∙ ap texts_of are ∙ texts-sent sent in
    subst (λ (l : List ℕ). Reads l (map sent_unit sent) (Waits [])) (sym stream) (all_read sent can)
