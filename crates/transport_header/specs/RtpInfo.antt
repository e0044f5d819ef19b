-- The RTP-Info header of the reply to PLAY (RFC 2326, 12.33).
use Rattle.std.specs.Prelude.{ℕ, ◌+◌, ◌%◌, zero, suc, List, [], ◌∷◌, ◌++◌, map, codes, decimal}
use Rattle.std.specs.List.{join_with_byte}
use Rattle.transport_header.specs.Separators.{comma}
use Rattle.transport_header.specs.declared.rtp_info.InfoEntry.{InfoEntry}

-- one track: its URL, the sequence number that comes after its point's, and its point's RTP time
unfoldable pub entry_text : InfoEntry → List ℕ
entry_text entry =
    codes "url=" ++ entry.url ++ codes ";seq=" ++ decimal ((entry.sequence + 1) % 65536)
    ++ codes ";rtptime=" ++ decimal entry.timestamp

-- the tracks in their order, with a comma between each two
unfoldable pub rtp_info_text : List InfoEntry → List ℕ
rtp_info_text entries = join_with_byte comma (map entry_text entries)

-- what stands before the track at an index: nothing before the first
abbrev pub separator_text : ℕ → List ℕ
separator_text zero = []
separator_text (suc i) = comma ∷ []

-- the track at an index, with what stands before it
abbrev pub item_text : ℕ → InfoEntry → List ℕ
item_text i entry = separator_text i ++ entry_text entry
