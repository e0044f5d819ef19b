-- What a ring answered to a writer.
use Rattle.waking.specs.declared.ending.Answer.{Answer}
use Rattle.waking.specs.declared.ending.Answer.TheVariants.{More, Empty, Ended, Failed}

-- this answer, but that there may be more where it says that the ring is empty
abbrev pub unless_empty : Answer → Answer
unless_empty More = More
unless_empty Empty = More
unless_empty Ended = Ended
unless_empty (Failed failure) = Failed failure
