-- The text exposition format of Prometheus, version 0.0.4: the head of a metric family, and a sample.
use Rattle.std.specs.Prelude.{ℕ, ◌+◌, ◌/◌, ◌%◌, ◌==◌, if◌then◌else◌, List, [], ◌∷◌, ◌++◌, codes, decimal}
use Rattle.std.specs.List.{flat_map}
use Rattle.std.specs.Str.Lossy.{utf8_lossy}
use Rattle.exposition.specs.declared.kind.MetricKind.{MetricKind}
use Rattle.exposition.specs.declared.kind.MetricKind.TheVariants.{Counter, Gauge}

abbrev pub line_feed : ℕ
line_feed = 10

abbrev pub double_quote : ℕ
double_quote = 34

abbrev pub backslash : ℕ
backslash = 92

-- a byte of a help text as it is written: a backslash as `\\`, a line feed as `\n`, and any other byte as it is
abbrev pub help_byte : ℕ → List ℕ
help_byte byte =
    if byte == backslash then codes "\\\\"
    else (if byte == line_feed then codes "\\n" else byte ∷ [])

-- a byte of a label's value as it is written: a double quote as `\"`, and any other byte as in a help text
abbrev pub value_byte : ℕ → List ℕ
value_byte byte = if byte == double_quote then codes "\\\"" else help_byte byte

abbrev pub help_text : (help : List ℕ) → List ℕ
help_text help = flat_map help_byte help

-- A label's value between its double quotes. The format is UTF-8, so what is not UTF-8 is written as U+FFFD, once for
-- each invalid sequence, as `String::from_utf8_lossy` does.
abbrev pub label_text : (value : List ℕ) → List ℕ
label_text value = flat_map value_byte (utf8_lossy value)

-- a label: its name, and its value, which can be any bytes
pub record LabelPair : Type 0 where
  pub name : List ℕ
  pub value : List ℕ

abbrev pub pair_text : LabelPair → List ℕ
pair_text label = label.name ++ codes "=\"" ++ label_text label.value ++ codes "\""

-- a label that is not the first one: it comes after a comma
abbrev pub next_text : LabelPair → List ℕ
next_text label = codes "," ++ pair_text label

-- the labels in braces, or nothing if there are none
abbrev pub labels_text : List LabelPair → List ℕ
labels_text [] = []
labels_text (label ∷ labels) = codes "{" ++ pair_text label ++ flat_map next_text labels ++ codes "}"

-- one line: the name, the labels, a space and the value
abbrev pub sample_text : (name : List ℕ) → (labels : List LabelPair) → (value : List ℕ) → List ℕ
sample_text name labels value = name ++ labels_text labels ++ codes " " ++ value ++ codes "\n"

abbrev pub kind_text : MetricKind → List ℕ
kind_text Counter = codes "counter"
kind_text Gauge = codes "gauge"

abbrev pub help_line : (name help : List ℕ) → List ℕ
help_line name help = codes "# HELP " ++ name ++ codes " " ++ help_text help ++ codes "\n"

abbrev pub type_line : (name : List ℕ) → (kind : MetricKind) → List ℕ
type_line name kind = codes "# TYPE " ++ name ++ codes " " ++ kind_text kind ++ codes "\n"

abbrev pub family_head : (name : List ℕ) → (kind : MetricKind) → (help : List ℕ) → List ℕ
family_head name kind help = help_line name help ++ type_line name kind

-- a number below 1000 in three digits
abbrev pub three_digits : ℕ → List ℕ
three_digits number = (48 + number / 100) ∷ (48 + number / 10 % 10) ∷ (48 + number % 10) ∷ []

-- milliseconds as seconds with three decimals
abbrev pub seconds_text : (milliseconds : ℕ) → List ℕ
seconds_text milliseconds = decimal (milliseconds / 1000) ++ codes "." ++ three_digits (milliseconds % 1000)
