-- The families of the process, as the client libraries of Prometheus write them.
use Rattle.std.specs.Prelude.{ℕ, List, [], ◌∷◌, ◌++◌, Option, None, Some, decimal}
use Rattle.std.specs.List.{flat_map}
use Rattle.std.specs.Option.{option_map}
use Rattle.exposition.specs.Exposition.{sample_text, seconds_text}
use Rattle.process_figures.specs.declared.figures.ProcessFigures.{ProcessFigures}
use Rattle.status_texts.specs.declared.family.ProcessFamily.{ProcessFamily}
use Rattle.status_texts.specs.declared.family.ProcessFamily.TheVariants.{StartTime, CpuSeconds, ResidentMemory, OpenFds, MaxFds}
use Rattle.status_texts.specs.declared.process_metrics.Value.{Value}
use Rattle.status_texts.specs.declared.process_metrics.Value.TheVariants.{Number, Milliseconds}
use Rattle.status_texts.specs.Heads.{Head}
use Rattle.status_texts.specs.Families.{head_text, process_head}

-- a value as it is written: a number, or milliseconds as seconds
abbrev pub value_text : Value → List ℕ
value_text (Number number) = decimal number
value_text (Milliseconds milliseconds) = seconds_text milliseconds

-- the value of a family, if it was read
abbrev pub process_value : ProcessFigures → ProcessFamily → Option Value
process_value process StartTime = option_map Milliseconds process.started
process_value process CpuSeconds = option_map Milliseconds process.ran
process_value process ResidentMemory = option_map Number process.resident
process_value process OpenFds = option_map Number process.open_files
process_value process MaxFds = option_map Number process.max_open_files

-- a head and its one sample
unfoldable pub valued_text : Head → Value → List ℕ
valued_text head value = head_text head ++ sample_text head.name [] (value_text value)

-- the same if there is a value, and else nothing
abbrev pub valued : Head → Option Value → List ℕ
valued head None = []
valued head (Some value) = valued_text head value

unfoldable pub process_family : ProcessFigures → ProcessFamily → List ℕ
process_family process family = valued (process_head family) (process_value process family)

-- the families in their order
abbrev pub process_families : ProcessFigures → List ℕ
process_families process = flat_map (process_family process) (StartTime ∷ CpuSeconds ∷ ResidentMemory ∷ OpenFds ∷ MaxFds ∷ [])
