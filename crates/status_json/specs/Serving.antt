-- The server's own figures.
use Rattle.std.specs.Prelude.{ℕ, List, ◌++◌, codes, decimal}
use Rattle.rtsp_message.specs.Reply.{code_of}
use Rattle.server_counts.specs.declared.figures.RefusedConnections.{RefusedConnections}
use Rattle.server_counts.specs.declared.figures.RequestCount.{RequestCount}
use Rattle.server_counts.specs.declared.figures.ServerFigures.{ServerFigures}
use Rattle.server_counts.specs.declared.figures.SessionFigures.{SessionFigures}
use Rattle.status_json.specs.declared.key.Key.TheVariants as keys
use Rattle.status_json.specs.declared.key.ServingKey.TheVariants as serving
use Rattle.status_json.specs.Json.{keyed, members_text}

-- how many sessions have each role and state
unfoldable pub sessions_text : SessionFigures → List ℕ
sessions_text sessions =
    keyed (keys.OfServer serving.PublisherReady) (decimal sessions.publisher_ready)
    ++ keyed (keys.OfServer serving.PublisherRecording) (decimal sessions.publisher_recording)
    ++ keyed (keys.OfServer serving.PlayerReady) (decimal sessions.player_ready)
    ++ keyed (keys.OfServer serving.PlayerPlaying) (decimal sessions.player_playing)
    ++ codes "}"

-- how many connections were refused, by the reason
unfoldable pub refused_front : RefusedConnections → List ℕ
refused_front refused =
    keyed (keys.OfServer serving.Full) (decimal refused.full)
    ++ keyed (keys.OfServer serving.AddressFull) (decimal refused.address_full)
    ++ keyed (keys.OfServer serving.OutOfMemory) (decimal refused.out_of_memory)

unfoldable pub refused_back : RefusedConnections → List ℕ
refused_back refused =
    keyed (keys.OfServer serving.NoThread) (decimal refused.no_thread)
    ++ keyed (keys.OfServer serving.NotAccepted) (decimal refused.not_accepted)
    ++ codes "}"

abbrev pub refused_text : RefusedConnections → List ℕ
refused_text refused = refused_front refused ++ refused_back refused

-- how many requests were refused with a status, whose code is the name of the member
unfoldable pub request_text : RequestCount → List ℕ
request_text request = keyed keys.Quote (decimal (code_of request.status)) ++ keyed keys.NumberEnd (decimal request.count)

unfoldable pub server_front : ServerFigures → List ℕ
server_front figures =
    keyed (keys.OfServer serving.Connections) (decimal figures.connections)
    ++ keyed (keys.OfServer serving.Sessions) (sessions_text figures.sessions)
    ++ keyed (keys.OfServer serving.RefusedConnections) (refused_text figures.refused)

unfoldable pub server_back : ServerFigures → List ℕ
server_back figures =
    keyed (keys.OfServer serving.RefusedRequests) (members_text request_text figures.requests)
    ++ keyed (keys.OfServer serving.LinesDropped) (decimal figures.lines_dropped)
    ++ codes "}"

abbrev pub server_text : ServerFigures → List ℕ
server_text figures = server_front figures ++ server_back figures
