-- The number and the words of each refusal of a publish.
use Rattle.std.specs.Prelude.{ℕ, List, ◌++◌, codes}
use Rattle.std.specs.Fmt.{decimal}
use Rattle.cursor.specs.declared.refusals.Refused.{Refused}
use Rattle.cursor.specs.declared.refusals.Refused.TheVariants.{Pinned, TooLong, Worn, OutOfMemory}

-- the number of a refusal
abbrev pub number_of : Refused → ℕ
number_of (Pinned pins) = 1
number_of TooLong = 2
number_of Worn = 3
number_of OutOfMemory = 4

-- the words for a refusal
abbrev pub text_of : Refused → List ℕ
text_of (Pinned pins) = codes "pinned by " ++ decimal pins
text_of TooLong = codes "too long"
text_of Worn = codes "worn"
text_of OutOfMemory = codes "out of memory"
