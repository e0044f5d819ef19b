-- Why no description goes on.
use Rattle.std.specs.Prelude.{ℕ, List, codes}
use Rattle.source_sdp.specs.declared.announce_error.AnnounceError.{AnnounceError}
use Rattle.source_sdp.specs.declared.announce_error.AnnounceError.TheVariants.{NoTrack, TooLong, OutOfMemory}

-- the words that an error prints
abbrev pub refusal_text : AnnounceError → List ℕ
refusal_text NoTrack = codes "no track goes on"
refusal_text TooLong = codes "announced description too long"
refusal_text OutOfMemory = codes "out of memory"
