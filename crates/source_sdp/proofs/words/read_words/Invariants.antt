use Rattle.std.proofs.Common.{◌≡◌, ◌++◌, length}
use Rattle.sdp.specs.Media.{words}
use Rattle.source_sdp.proofs.words.read_words.Given as goal

-- the words so far and those of what is left are all of them
abbrev pub invariant-loop-word : goal.invariant-loop-word
invariant-loop-word l = l.list ++ words l.rest ≡ words l.text

abbrev pub decreases-loop-word : goal.decreases-loop-word
decreases-loop-word l = length l.rest
