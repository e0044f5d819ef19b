-- How the items that wait are kept: their bytes in one list, and a mark for each.
use Rattle.std.specs.Prelude.{◌≡◌, ℕ, List, [], ◌∷◌, drop, length, take}
use Rattle.outgoing.specs.Marks.{IsWithinFirst, frames_in, lengths}
use Rattle.outgoing.specs.Queues.{Waiting}
use Rattle.outgoing.specs.declared.marks.Mark.{Mark}

-- the items, cut out of their bytes
abbrev pub items_of : (bytes : List ℕ) → List Mark → List Waiting
items_of bytes [] = []
items_of bytes (mark ∷ marks) = record { text = take mark.len bytes; is_frame = mark.is_frame } ∷ items_of (drop mark.len bytes) marks

-- The marks are those of the bytes; of the first item, not all bytes were taken.
pub record IsKept (bytes : List ℕ) (marks : List Mark) (begun frames : ℕ) : Type 0 where
  pub whole : lengths marks ≡ length bytes
  pub begun_within : IsWithinFirst begun marks
  pub frames_are : frames ≡ frames_in marks
