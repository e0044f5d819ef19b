use Rattle.std.proofs.Common.{◌≡◌, drop}
use Rattle.sdp.specs.Media.{words}
use Rattle.source_sdp.proofs.words.leading_spaces.Given as goal

-- nothing but spaces so far
abbrev pub invariant-loop-i : goal.invariant-loop-i
invariant-loop-i l = words (drop l.i l.text) ≡ words l.text
