-- What is before a value.
use Rattle.std.specs.Prelude.{ℕ, List, codes}
use Rattle.status_json.specs.declared.key.Key.{Key}
use Rattle.status_json.specs.declared.key.Key.TheVariants as keys
use Rattle.status_json.specs.declared.key.PacketKey.{PacketKey}
use Rattle.status_json.specs.declared.key.PacketKey.TheVariants as packets
use Rattle.status_json.specs.declared.key.ServingKey.{ServingKey}
use Rattle.status_json.specs.declared.key.ServingKey.TheVariants as serving
use Rattle.status_json.specs.declared.key.TrackKey.{TrackKey}
use Rattle.status_json.specs.declared.key.TrackKey.TheVariants as tracks

-- the name of a number of packets, with the brace or the comma before it
unfoldable pub packet_text : PacketKey → List ℕ
packet_text packets.Published = codes "{\"published\":"
packet_text packets.Pinned = codes ",\"pinned\":"
packet_text packets.TooLong = codes ",\"too_long\":"
packet_text packets.BadRtp = codes ",\"bad_rtp\":"
packet_text packets.UnknownChannel = codes ",\"unknown_channel\":"
packet_text packets.NoMemory = codes ",\"no_memory\":"
packet_text packets.FirstSent = codes "{\"sent\":"
packet_text packets.Sent = codes ",\"sent\":"
packet_text packets.Skipped = codes ",\"skipped\":"
packet_text packets.Lost = codes ",\"lost\":"
packet_text packets.Unsent = codes ",\"unsent\":"

-- the name of a member of a track
unfoldable pub track_text : TrackKey → List ℕ
track_text tracks.Track = codes "{\"track\":"
track_text tracks.Missing = codes ",\"missing\":"
track_text tracks.Late = codes ",\"late\":"
track_text tracks.Restarts = codes ",\"restarts\":"
track_text tracks.Media = codes "{\"media\":"
track_text tracks.Format = codes ",\"format\":"

-- the name of a member of the server's own figures
unfoldable pub serving_text : ServingKey → List ℕ
serving_text serving.Connections = codes "{\"connections\":"
serving_text serving.Sessions = codes ",\"sessions\":"
serving_text serving.PublisherReady = codes "{\"publisher_ready\":"
serving_text serving.PublisherRecording = codes ",\"publisher_recording\":"
serving_text serving.PlayerReady = codes ",\"player_ready\":"
serving_text serving.PlayerPlaying = codes ",\"player_playing\":"
serving_text serving.RefusedConnections = codes ",\"refused_connections\":"
serving_text serving.Full = codes "{\"full\":"
serving_text serving.AddressFull = codes ",\"address_full\":"
serving_text serving.OutOfMemory = codes ",\"out_of_memory\":"
serving_text serving.NoThread = codes ",\"no_thread\":"
serving_text serving.NotAccepted = codes ",\"not_accepted\":"
serving_text serving.RefusedRequests = codes ",\"refused_requests\":"
serving_text serving.LinesDropped = codes ",\"lines_dropped\":"

-- the name of a member, with the brace or the comma before it
unfoldable pub key_text : Key → List ℕ
key_text (keys.Packet key) = packet_text key
key_text (keys.OfTrack key) = track_text key
key_text (keys.OfServer key) = serving_text key
key_text keys.Name = codes "{\"name\":"
key_text keys.Live = codes ",\"live\":"
key_text keys.Players = codes ",\"players\":"
key_text keys.FirstPackets = codes "{\"packets\":"
key_text keys.Packets = codes ",\"packets\":"
key_text keys.BytesIn = codes ",\"bytes_in\":"
key_text keys.SlowedMs = codes ",\"slowed_ms\":"
key_text keys.Tracks = codes ",\"tracks\":"
key_text keys.PlayerPackets = codes ",\"player_packets\":"
key_text keys.BytesOut = codes ",\"bytes_out\":"
key_text keys.BehindMax = codes ",\"behind_max\":"
key_text keys.Publisher = codes ",\"publisher\":"
key_text keys.AgeMs = codes ",\"age_ms\":"
key_text keys.SilenceMs = codes ",\"silence_ms\":"
key_text keys.Mount = codes "{\"mount\":"
key_text keys.Seat = codes ",\"seat\":"
key_text keys.Peer = codes ",\"peer\":"
key_text keys.Bytes = codes ",\"bytes\":"
key_text keys.Behind = codes ",\"behind\":"
key_text keys.Waiting = codes ",\"waiting\":"
key_text keys.Mounts = codes "{\"mounts\":"
key_text keys.Recorded = codes ",\"recorded\":"
key_text keys.Totals = codes ",\"totals\":"
key_text keys.Server = codes ",\"server\":"
key_text keys.Item = codes ","
key_text keys.FirstItem = codes "["
key_text keys.FirstMember = codes "{"
key_text keys.Quote = codes "\""
key_text keys.NumberEnd = codes "\":"
