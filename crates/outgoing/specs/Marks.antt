-- The marks of the items that wait: the lengths of their texts, and which of them are frames.
use Rattle.std.specs.Prelude.{◌≡◌, ◌-◌, ◌<◌, ◌≤◌, ℕ, List, [], ◌∷◌, ◌++◌}
use Rattle.std.specs.List.{count_by, sum_by}
use Rattle.outgoing.specs.declared.marks.Mark.{Mark}
use Rattle.outgoing.specs.declared.marks.Taken.{Taken}

-- how many bytes the items have
abbrev pub lengths : List Mark → ℕ
lengths marks = sum_by (λ mark. mark.len) marks

-- how many of them are frames
abbrev pub frames_in : List Mark → ℕ
frames_in marks = count_by (λ mark. mark.is_frame) marks

-- The first item, if there is one, has more bytes than this number.
abbrev pub IsCutBy : ℕ → List Mark → Type 0
IsCutBy count [] = Unit {0}
IsCutBy count (mark ∷ marks) = count < mark.len

-- The same, and without an item the number is 0.
abbrev pub IsWithinFirst : ℕ → List Mark → Type 0
IsWithinFirst count [] = count ≡ 0
IsWithinFirst count (mark ∷ marks) = count < mark.len

-- Items went from the front. They have at most this number of bytes.
pub record DropsFront (count : ℕ) (taken : Taken) (old new : List Mark) : Type 0 where
  pub gone : List Mark
  pub parts : old ≡ gone ++ new
  pub len : taken.len ≡ lengths gone
  pub frames : taken.frames ≡ frames_in gone
  pub within : taken.len ≤ count

-- The same, and of the rest the first item isn't whole within this number of bytes.
pub record DropsWhole (count : ℕ) (taken : Taken) (old new : List Mark) : Type 0 where
  pub drops : DropsFront count taken old new
  pub rest : IsWithinFirst (count - taken.len) new
