-- The labels of samples.
use Rattle.std.specs.Prelude.{ℕ, List, [], ◌∷◌, codes, decimal}
use Rattle.exposition.specs.Exposition.{LabelPair, sample_text}
use Rattle.status_texts.specs.Numbers.{NamedNumber}

abbrev pub mount_label : (mount : List ℕ) → LabelPair
mount_label mount = record { name = codes "mount"; value = mount }

abbrev pub result_label : (result : List ℕ) → LabelPair
result_label result = record { name = codes "result"; value = result }

abbrev pub version_label : (version : List ℕ) → LabelPair
version_label version = record { name = codes "version"; value = version }

-- a sample of the server for a name, which is the value of this label
abbrev pub named_count : (metric label : List ℕ) → NamedNumber → List ℕ
named_count metric label count = sample_text metric (record { name = label; value = count.name } ∷ []) (decimal count.value)
