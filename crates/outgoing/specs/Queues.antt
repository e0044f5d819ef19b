-- Items that wait in order until the system took their bytes.
use Rattle.std.specs.Prelude.{◌≡◌, ◌+◌, ◌*◌, ◌<◌, ◌≤◌, ℕ, Bool, List, [], ◌∷◌, ◌++◌, drop, length, max}
use Rattle.std.specs.List.{count_by, flat_map}
use Rattle.outgoing.specs.Items.{Item, is_frame, item_text}

-- an item that waits: its text, and whether it is a frame
pub record Waiting : Type 0 where
  pub text : List ℕ
  pub is_frame : Bool

-- The items that wait, in order; how many bytes of the first one were taken; for how many bytes there is memory; and the room after the
-- items, whatever is in it.
pub record Queue : Type 0 where
  pub items : List Waiting
  pub begun : ℕ
  pub room : ℕ
  pub free : List ℕ

abbrev pub waiting_item : Item → Waiting
waiting_item item = record { text = item_text item; is_frame = is_frame item }

-- the texts, joined
abbrev pub texts : List Waiting → List ℕ
texts items = flat_map (λ item. item.text) items

abbrev pub frame_count : List Waiting → ℕ
frame_count items = count_by (λ item. item.is_frame) items

-- the bytes that wait: the texts, less what was taken of the first one
abbrev pub bytes_waiting : Queue → List ℕ
bytes_waiting queue = drop queue.begun (texts queue.items)

-- Fewer bytes than the first item has. Without an item it is none.
abbrev pub IsWithinFirst : (begun : ℕ) → List Waiting → Type 0
IsWithinFirst begun [] = begun ≡ 0
IsWithinFirst begun (item ∷ items) = begun < length item.text

-- nothing waits
pub record IsEmptyQueue (queue : Queue) : Type 0 where
  pub items : queue.items ≡ []
  pub begun : queue.begun ≡ 0

-- The item waits after all others. There is memory for at most twice the bytes of all the items, if there wasn't more.
pub record Puts (item : Waiting) (old new : Queue) : Type 0 where
  pub items : new.items ≡ old.items ++ item ∷ []
  pub begun : new.begun ≡ old.begun
  pub room : new.room ≤ max old.room (2 * length (texts new.items))

-- The system took this number of the bytes that waited: the first items are gone, with this number of frames, and the others wait.
-- Of the first one that waits, the last byte wasn't taken.
pub record Takes (count frames : ℕ) (old new : Queue) : Type 0 where
  pub gone : List Waiting
  pub items : old.items ≡ gone ++ new.items
  pub bytes : length (texts gone) + new.begun ≡ old.begun + count
  pub frames_are : frames ≡ frame_count gone
  pub begun : IsWithinFirst new.begun new.items
  pub room : new.room ≡ old.room
