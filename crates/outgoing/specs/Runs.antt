-- What happens to a queue from when nothing waits: its calls, each as its contract says.
use Rattle.std.specs.Prelude.{◌≡◌, ◌+◌, ◌-◌, ◌<◌, ◌≤◌, ℕ, List, [], ◌∷◌, ◌++◌, length}
use Rattle.std.specs.List.{flat_map}
use Rattle.outgoing.specs.Items.{CanPut, Item, item_text}
use Rattle.outgoing.specs.Queues.{IsEmptyQueue, Puts, Queue, Takes, bytes_waiting, waiting_item}

pub data Event : Type 0 where
  -- an item is put
  puts : (item : Item) → Event
  -- the system takes these bytes, and with them the last bytes of this number of frames
  takes : (bytes : List ℕ) (frames : ℕ) → Event
  -- another block is taken for what waits, with memory for this number of bytes
  swaps : (room : ℕ) → Event

-- what becomes of the queue
abbrev pub Goes : Event → (old new : Queue) → Type 0
Goes (puts item) old new = CanPut item × Puts (waiting_item item) old new
Goes (takes bytes frames) old new = (bytes_waiting old ≡ bytes ++ bytes_waiting new) × Takes (length bytes) frames old new
Goes (swaps room) old new = (new.items ≡ old.items) × (new.begun ≡ old.begun) × (new.room ≡ room)

-- A queue is this after these events, of which the last one is the first of the list.
abbrev pub HasGone : List Event → Queue → Type 0
HasGone [] queue = IsEmptyQueue queue
HasGone (event ∷ before) queue = (earlier : Queue) × HasGone before earlier × Goes event earlier queue

-- the items that were put, in order
abbrev pub items_put : List Event → List Item
items_put [] = []
items_put (puts item ∷ before) = items_put before ++ item ∷ []
items_put (takes bytes frames ∷ before) = items_put before
items_put (swaps room ∷ before) = items_put before

-- all bytes that were taken, in order
abbrev pub bytes_taken : List Event → List ℕ
bytes_taken [] = []
bytes_taken (puts item ∷ before) = bytes_taken before
bytes_taken (takes bytes frames ∷ before) = bytes_taken before ++ bytes
bytes_taken (swaps room ∷ before) = bytes_taken before

-- how many frames were counted as taken
abbrev pub frames_taken : List Event → ℕ
frames_taken [] = 0
frames_taken (puts item ∷ before) = frames_taken before
frames_taken (takes bytes frames ∷ before) = frames_taken before + frames
frames_taken (swaps room ∷ before) = frames_taken before

abbrev pub texts_of : List Item → List ℕ
texts_of items = flat_map item_text items

-- the first item, if there is one, has more bytes than this number
abbrev pub IsCutAt : (size : ℕ) → List Item → Type 0
IsCutAt size [] = Unit {0}
IsCutAt size (item ∷ items) = size < length (item_text item)

-- These items are the ones whose text lies wholly within the first `size` bytes of the joined texts, and then the others.
pub record AreWhole (size : ℕ) (items whole others : List Item) : Type 0 where
  pub parts : items ≡ whole ++ others
  pub within : length (texts_of whole) ≤ size
  pub cut : IsCutAt (size - length (texts_of whole)) others
