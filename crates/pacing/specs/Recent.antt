-- Where a mount's log was at each tenth of a second. Moments are in milliseconds, packets are numbered from 0.
use Rattle.std.specs.Prelude.{◌≡◌, ℕ, ◌<◌, ◌≤◌, ◌+◌, ◌-◌, ◌/◌, nat_le, nat_lt, List, length, slice_get, slice_index, All, AllPairs, count_by, find, Option, IsSomeAnd}
use Rattle.std.specs.List.Sorted.{IsNonDecreasing}
use Rattle.std.specs.Option.{option_map_or}
use Rattle.pacing.specs.declared.recent.Mark.{Mark}

-- the tenth of a second of a moment
abbrev pub tenth_of : (moment : ℕ) → ℕ
tenth_of moment = moment / 100

-- the last moment, or 0 if there is none
abbrev pub last_of : (moments : List ℕ) → ℕ
last_of moments = slice_index moments (length moments - 1)

-- how many packets were published before a tenth
abbrev pub published_before : (tenth : ℕ) → (moments : List ℕ) → ℕ
published_before tenth moments = count_by (λ moment. nat_lt (tenth_of moment) tenth) moments

-- how many packets were published in a tenth or later
abbrev pub published_since : (tenth : ℕ) → (moments : List ℕ) → ℕ
published_since tenth moments = count_by (λ moment. nat_le tenth (tenth_of moment)) moments

-- the first mark of a tenth or of a later one
abbrev pub mark_since : (tenth : ℕ) → (marks : List Mark) → Option Mark
mark_since tenth marks = find (λ mark. nat_le tenth mark.tenth) marks

-- the number that this mark has, or `published` if there is none
abbrev pub first_since : (tenth : ℕ) → (marks : List Mark) → (published : ℕ) → ℕ
first_since tenth marks published = option_map_or (λ mark. mark.first) (mark_since tenth marks) published

-- The marks stand for the packets that were published at these moments, none of which is before the one before it. Each mark has
-- the number of one of these packets. For each tenth that is no more than 100 before the last packet's, the first mark of that
-- tenth or of a later one has as its number how many packets were published before the tenth; if there is no such mark, all were.
pub record Stands (moments : List ℕ) (marks : List Mark) : Type 0 where
  pub rising : IsNonDecreasing moments
  pub numbered : All (λ mark. mark.first < length moments) marks
  pub first : (tenth : ℕ) → tenth_of (last_of moments) ≤ tenth + 100 → first_since tenth marks (length moments) ≡ published_before tenth moments

-- the last mark is of this tenth or of a later one
abbrev pub HasBegun : (tenth : ℕ) → (marks : List Mark) → Type 0
HasBegun tenth marks = IsSomeAnd (slice_get marks (length marks - 1)) (λ last. tenth ≤ last.tenth)

-- The tenths of the marks rise. There are at most 101 marks, and there is room for 101.
pub record AreMarks (marks : List Mark) (room : ℕ) : Type 0 where
  pub rising : AllPairs (λ earlier later. earlier.tenth < later.tenth) marks
  pub few : length marks ≤ 101
  pub enough : 101 ≤ room
