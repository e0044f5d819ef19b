-- What a track sends (RFC 4566, 5.14: media).
use Rattle.std.specs.Prelude.{ℕ, List, codes}
use Rattle.source_sdp.specs.declared.media.Media.{Media}
use Rattle.source_sdp.specs.declared.media.Media.TheVariants.{Audio, Video}

-- the word that an `m=` line has for it
abbrev pub media_text : Media → List ℕ
media_text Audio = codes "audio"
media_text Video = codes "video"
