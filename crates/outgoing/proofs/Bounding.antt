-- For how many bytes there is memory.
use Rattle.std.proofs.Common.{◌≡◌, ℕ, ◌+◌, ◌-◌, ◌*◌, ◌<◌, ◌≤◌, max, List, [], ◌∷◌, ◌++◌, length, map, ap, subst, ◌∙◌, arith, length-append, length-drop}
use Rattle.std.specs.List.{AllByRecursion}
use Rattle.request_text.specs.Sending.{Asking, Framed}
use Rattle.request_text.specs.Texts.{head_text, request_of}
use Rattle.outgoing.specs.Items.{CanPut, Item, Replies, Sends, item_text}
use Rattle.outgoing.specs.Queues.{IsWithinFirst, Puts, Queue, Waiting, bytes_waiting, texts, waiting_item}
use Rattle.outgoing.specs.Rooms.{HasGoneWithin}
use Rattle.outgoing.specs.Runs.{Event, HasGone, puts, swaps, takes}
use Rattle.outgoing.proofs.Running.{all_can, begun_fits, stands_at}
use Rattle.outgoing.proofs.Texts.{texts-push}

text_bound : (item : Item) → CanPut item → length (item_text item) ≤ 73_728
text_bound (Sends (Asking request)) can =
    let parsed = request_of request in
    omega (arith, can.1.head, can.1.body, length-append (head_text parsed) parsed.body)
text_bound (Sends (Framed frame)) can = omega (arith, can)
text_bound (Replies status cseq) can = omega (arith, can)

all_back : (front back : List Item) → AllByRecursion CanPut (front ++ back) → AllByRecursion CanPut back
all_back [] back all = all
all_back (item ∷ front) back all = all_back front back all.1

-- what was taken of the first item
begun_bound : (begun : ℕ) (items : List Waiting) (others : List Item) → items ≡ map waiting_item others → AllByRecursion CanPut others
    → IsWithinFirst begun items → begun < 73_728
begun_bound begun items [] are can within =
    let none : begun ≡ 0 = subst (λ (l : List Waiting). IsWithinFirst begun l) are within in
    omega (arith, none)
begun_bound begun items (item ∷ others) are can within =
    let first : begun < length (item_text item) = subst (λ (l : List Waiting). IsWithinFirst begun l) are within in
    omega (arith, first, text_bound item can.0)

has_gone : (events : List Event) (queue : Queue) → HasGoneWithin events queue → HasGone events queue
has_gone [] queue gone = gone.0
has_gone (event ∷ before) queue gone = (gone.0, has_gone before gone.0 gone.1, gone.3)

room_put : (item : Item) (before : List Event) (old new : Queue) → HasGone before old → old.room ≤ 819_196 → length (bytes_waiting old) < 262_144
    → CanPut item → Puts (waiting_item item) old new → new.room ≤ 819_196
room_put item before old new gone small few can put =
    let stands = stands_at before old gone in
    let all : AllByRecursion CanPut stands.others =
    all_back stands.whole stands.others (subst (λ (l : List Item). AllByRecursion CanPut l) stands.parts (all_can before old gone)) in
    let begun : old.begun < 73_728 = begun_bound old.begun old.items stands.others stands.items all stands.begun in
    let fits : old.begun ≤ length (texts old.items) = begun_fits old.begun old.items stands.begun in
    let waits : length (bytes_waiting old) ≡ length (texts old.items) - old.begun = length-drop old.begun (texts old.items) in
    let size : length (texts new.items) ≡ length (texts old.items) + length (item_text item) =
    ap (λ (l : List Waiting). length (texts l)) put.items ∙ ap length (texts-push old.items (waiting_item item)) ∙ length-append (texts old.items) (item_text item) in
    let text : length (item_text item) ≤ 73_728 = text_bound item can in
    let bound : new.room ≤ max old.room (2 * length (texts new.items)) = put.room in
    omega (arith, begun, fits, waits, size, text, bound, small, few)

pub room_bound : (events : List Event) (queue : Queue) → HasGoneWithin events queue → queue.room ≤ 819_196
room_bound [] queue gone = gone.1
room_bound (puts item ∷ before) queue gone =
    room_put item before gone.0 queue (has_gone before gone.0 gone.1) (room_bound before gone.0 gone.1) gone.2 gone.3.0 gone.3.1
room_bound (takes bytes frames ∷ before) queue gone =
    let small : gone.0.room ≤ 819_196 = room_bound before gone.0 gone.1 in
    let same : queue.room ≡ gone.0.room = gone.3.1.room in
    omega (arith, small, same)
room_bound (swaps room ∷ before) queue gone =
    let small : room ≤ 819_196 = gone.2 in
    let same : queue.room ≡ room = gone.3.2 in
    omega (arith, small, same)
