-- When the last packet of each name came.
use Rattle.std.specs.Prelude.{ℕ, ◌-◌, List, [], ◌∷◌, ◌++◌, Option, None, Some, codes}
use Rattle.std.specs.List.{flat_map}
use Rattle.exposition.specs.Exposition.{sample_text, seconds_text}
use Rattle.status_texts.specs.Families.{gauge, head_text}
use Rattle.status_texts.specs.Heads.{Head}
use Rattle.status_texts.specs.Labels.{mount_label}
use Rattle.status_texts.specs.Name.{Figures}

abbrev pub last_head : Head
last_head = gauge (codes "vasklun_mount_last_packet_timestamp_seconds") (codes "When the last packet of the name's mounts came, since the Unix epoch in seconds.")

-- The sample of a name: the moment of its figures, in milliseconds since the beginning of 1970, less the milliseconds since its last packet.
abbrev pub last_sample : (metric : List ℕ) → (wall : ℕ) → Figures → List ℕ
last_sample metric wall f = sample_text metric (mount_label f.name ∷ []) (seconds_text (wall - f.silence))

-- a head, and the sample of each name
unfoldable pub last_text : Head → (wall : ℕ) → List Figures → List ℕ
last_text head wall figures = head_text head ++ flat_map (last_sample head.name wall) figures

-- the family if the moment of the figures is known, and else nothing
abbrev pub last_family : (wall : Option ℕ) → List Figures → List ℕ
last_family None figures = []
last_family (Some wall) figures = last_text last_head wall figures
