-- The families of what the server serves and refuses.
use Rattle.std.specs.Prelude.{ℕ, List, [], ◌∷◌, ◌++◌, codes, decimal}
use Rattle.std.specs.List.{flat_map}
use Rattle.exposition.specs.Exposition.{LabelPair, sample_text}
use Rattle.rtsp_message.specs.Reply.{code_of}
use Rattle.server_counts.specs.declared.figures.RequestCount.{RequestCount}
use Rattle.server_counts.specs.declared.figures.ServerFigures.{ServerFigures}
use Rattle.server_counts.specs.declared.figures.SessionFigures.{SessionFigures}
use Rattle.status_texts.specs.declared.serving_family.ServingFamily.{ServingFamily}
use Rattle.status_texts.specs.declared.serving_family.ServingFamily.TheVariants.{Connections, Sessions, ConnectionsRefused, RequestsRefused, LinesDropped}
use Rattle.status_texts.specs.Families.{counter, gauge, head_text}
use Rattle.status_texts.specs.Heads.{Head}
use Rattle.status_texts.specs.Labels.{named_count}
use Rattle.status_texts.specs.Numbers.{refusal_counts}
use Rattle.status_texts.specs.Roles.{RoleCount}

abbrev pub serving_head : ServingFamily → Head
serving_head Connections = gauge (codes "vasklun_connections") (codes "Connections that are served.")
serving_head Sessions = gauge (codes "vasklun_sessions") (codes "Sessions, by their role and state.")
serving_head ConnectionsRefused = counter (codes "vasklun_connections_refused_total") (codes "Connections that were not served, by the reason.")
serving_head RequestsRefused = counter (codes "vasklun_requests_refused_total") (codes "Requests that were refused, by the status of the answer.")
serving_head LinesDropped = counter (codes "vasklun_lines_dropped_total") (codes "Lines of the log that were dropped.")

abbrev pub in_state : (role state : List ℕ) → (count : ℕ) → RoleCount
in_state role state count = record { role = role; state = state; count = count }

-- how many sessions have each role and state
abbrev pub session_counts : SessionFigures → List RoleCount
session_counts figures =
    in_state (codes "publisher") (codes "ready") figures.publisher_ready
    ∷ in_state (codes "publisher") (codes "recording") figures.publisher_recording
    ∷ in_state (codes "player") (codes "ready") figures.player_ready
    ∷ in_state (codes "player") (codes "playing") figures.player_playing
    ∷ []

abbrev pub role_label : (role : List ℕ) → LabelPair
role_label role = record { name = codes "role"; value = role }

abbrev pub state_label : (state : List ℕ) → LabelPair
state_label state = record { name = codes "state"; value = state }

abbrev pub status_label : (code : ℕ) → LabelPair
status_label code = record { name = codes "status"; value = decimal code }

-- the sample of a role and a state
abbrev pub session_sample : (metric : List ℕ) → RoleCount → List ℕ
session_sample metric s = sample_text metric (role_label s.role ∷ state_label s.state ∷ []) (decimal s.count)

-- the sample of a status
abbrev pub request_sample : (metric : List ℕ) → RequestCount → List ℕ
request_sample metric request = sample_text metric (status_label (code_of request.status) ∷ []) (decimal request.count)

-- a family's samples
abbrev pub serving_samples : (metric : List ℕ) → ServingFamily → ServerFigures → List ℕ
serving_samples metric Connections figures = sample_text metric [] (decimal figures.connections)
serving_samples metric Sessions figures = flat_map (session_sample metric) (session_counts figures.sessions)
serving_samples metric ConnectionsRefused figures = flat_map (named_count metric (codes "reason")) (refusal_counts figures.refused)
serving_samples metric RequestsRefused figures = flat_map (request_sample metric) figures.requests
serving_samples metric LinesDropped figures = sample_text metric [] (decimal figures.lines_dropped)

-- a family: its head and its samples
unfoldable pub serving_family : ServerFigures → ServingFamily → List ℕ
serving_family figures family = head_text (serving_head family) ++ serving_samples (serving_head family).name family figures

-- the families in their order
unfoldable pub serving_gauges : ServerFigures → List ℕ
serving_gauges figures = flat_map (serving_family figures) (Connections ∷ Sessions ∷ [])

unfoldable pub serving_counters : ServerFigures → List ℕ
serving_counters figures = flat_map (serving_family figures) (ConnectionsRefused ∷ RequestsRefused ∷ LinesDropped ∷ [])

abbrev pub serving_families : ServerFigures → List ℕ
serving_families figures = serving_gauges figures ++ serving_counters figures
