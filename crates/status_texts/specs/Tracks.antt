-- The samples of each track.
use Rattle.std.specs.Prelude.{ℕ, List, [], ◌∷◌, ◌++◌, codes, decimal}
use Rattle.std.specs.List.{flat_map}
use Rattle.exposition.specs.Exposition.{LabelPair, sample_text}
use Rattle.sequence_counts.specs.Counts.{Counts}
use Rattle.status_texts.specs.declared.track_family.TrackFamily.{TrackFamily}
use Rattle.status_texts.specs.declared.track_family.TrackFamily.TheVariants.{Missing, Late, Restarts}
use Rattle.status_texts.specs.declared.track_figures.TrackFigures.{TrackFigures}
use Rattle.status_texts.specs.Families.{counter, head_text}
use Rattle.status_texts.specs.Heads.{Head}
use Rattle.status_texts.specs.Labels.{mount_label}
use Rattle.status_texts.specs.Name.{Figures}

abbrev pub track_head : TrackFamily → Head
track_head Missing = counter (codes "vasklun_mount_missing_packets_total") (codes "Packets of the name's mounts that were lost before the relay, by their sequence numbers.")
track_head Late = counter (codes "vasklun_mount_late_packets_total") (codes "Packets of the name's mounts that came late or again, by their sequence numbers.")
track_head Restarts = counter (codes "vasklun_mount_sequence_restarts_total") (codes "How often the sequence numbers of the name's mounts began anew.")

-- the count of a track that a family shows
abbrev pub count_of : TrackFamily → Counts → ℕ
count_of Missing counts = counts.missing
count_of Late counts = counts.late
count_of Restarts counts = counts.restarts

abbrev pub track_label : (track : List ℕ) → LabelPair
track_label track = record { name = codes "track"; value = track }

-- a sample of a track, whose number is this text
abbrev pub labelled_sample : (metric mount track value : List ℕ) → List ℕ
labelled_sample metric mount track value = sample_text metric (mount_label mount ∷ track_label track ∷ []) value

-- a sample of a track
abbrev pub track_sample : (metric mount : List ℕ) → TrackFamily → TrackFigures → List ℕ
track_sample metric mount family track = labelled_sample metric mount (decimal track.track) (decimal (count_of family track.counts))

-- a family's samples for a name: one for each track that has counts
abbrev pub track_samples : (metric : List ℕ) → TrackFamily → Figures → List ℕ
track_samples metric family f = flat_map (track_sample metric f.name family) f.tracks

-- a family: its head, and its samples for each name
unfoldable pub track_family : List Figures → TrackFamily → List ℕ
track_family figures family = head_text (track_head family) ++ flat_map (track_samples (track_head family).name family) figures

-- the families in their order
unfoldable pub track_families : List Figures → List ℕ
track_families figures = flat_map (track_family figures) (Missing ∷ Late ∷ Restarts ∷ [])
