-- A sample is one line.
use Rattle.std.proofs.Common.{◌≡◌, ◌≢◌, ◌==◌, not, true, ℕ, ◌+◌, ◌/◌, ◌%◌, ◌<◌, ◌^◌, List, [], ◌∷◌, ◌++◌, All, codes, decimal, refl, arith}
use Rattle.std.proofs.lemmas.Bool.{and_parts, eqb-false, not-true}
use Rattle.std.proofs.lemmas.Fmt.{decimal_is_IsNumeral}
use Rattle.std.proofs.lemmas.List.Elements.{All-nil, All-cons, All-append, All-from_get_or, All-head, All-tail}
use Rattle.std.proofs.lemmas.Str.Parse.{digit_at}
use Rattle.std.specs.List.{flat_map, list_all}
use Rattle.exposition.specs.declared.kind.MetricKind.{MetricKind}
use Rattle.exposition.specs.declared.kind.MetricKind.TheVariants.{Counter, Gauge}
use Rattle.exposition.specs.Exposition.{LabelPair, line_feed, help_text, label_text, pair_text, next_text, labels_text, sample_text, kind_text, help_line, type_line, three_digits, seconds_text}
use Rattle.exposition.specs.Reading.{IsInLine, IsLine}
use Rattle.exposition.proofs.Reading.{value_in_line, help_in_line}

abbrev IsNoFeed : ℕ → Type 0
IsNoFeed byte = byte ≢ line_feed

none : IsInLine []
none = All-nil IsNoFeed

first : (byte : ℕ) (bytes : List ℕ) → IsNoFeed byte → IsInLine bytes → IsInLine (byte ∷ bytes)
first byte bytes one others = All-cons IsNoFeed byte bytes one others

-- bytes that are written out
literal : (bytes : List ℕ) → list_all (λ byte. not (byte == line_feed)) bytes ≡ true → IsInLine bytes
literal [] is = none
literal (byte ∷ bytes) is =
    let both = and_parts _ _ is in
    first byte bytes (eqb-false byte line_feed (not-true _ both.0)) (literal bytes both.1)

joined : (front back : List ℕ) → IsInLine front → IsInLine back → IsInLine (front ++ back)
joined front back = All-append IsNoFeed front back

decimal_in_line : (number : ℕ) → number < 2 ^ 64 → IsInLine (decimal number)
decimal_in_line number fits =
    let digits = (decimal_is_IsNumeral number fits).0.1 in
    All-from_get_or IsNoFeed (decimal number) 0 (λ i within e. omega (arith, digit_at (decimal number) i digits within, e))

digits_in_line : (number : ℕ) → IsInLine (three_digits number)
digits_in_line number = first (48 + number / 100) ((48 + number / 10 % 10) ∷ (48 + number % 10) ∷ []) (λ e. omega arith) (first (48 + number / 10 % 10) ((48 + number % 10) ∷ []) (λ e. omega arith) (first (48 + number % 10) [] (λ e. omega arith) none))

seconds_in_line : (milliseconds : ℕ) → milliseconds < 2 ^ 64 → IsInLine (seconds_text milliseconds)
seconds_in_line milliseconds fits =
    joined (decimal (milliseconds / 1000) ++ codes ".") (three_digits (milliseconds % 1000))
    (joined (decimal (milliseconds / 1000)) (codes ".") (decimal_in_line (milliseconds / 1000) (omega arith)) (literal (codes ".") refl))
    (digits_in_line (milliseconds % 1000))

pair_in_line : (label : LabelPair) → IsInLine label.name → IsInLine (pair_text label)
pair_in_line label named =
    joined (label.name ++ codes "=\"" ++ label_text label.value) (codes "\"")
    (joined (label.name ++ codes "=\"") (label_text label.value) (joined label.name (codes "=\"") named (literal (codes "=\"") refl)) (value_in_line label.value))
    (literal (codes "\"") refl)

others_in_line : (labels : List LabelPair) → All (λ label. IsInLine label.name) labels → IsInLine (flat_map next_text labels)
others_in_line [] named = none
others_in_line (label ∷ labels) named =
    let P : LabelPair → Type 0 = λ l. IsInLine l.name in
    joined (next_text label) (flat_map next_text labels)
    (joined (codes ",") (pair_text label) (literal (codes ",") refl) (pair_in_line label (All-head P label labels named)))
    (others_in_line labels (All-tail P label labels named))

labels_in_line : (labels : List LabelPair) → All (λ label. IsInLine label.name) labels → IsInLine (labels_text labels)
labels_in_line [] named = none
labels_in_line (label ∷ labels) named =
    let P : LabelPair → Type 0 = λ l. IsInLine l.name in
    joined (codes "{" ++ pair_text label ++ flat_map next_text labels) (codes "}")
    (joined (codes "{" ++ pair_text label) (flat_map next_text labels)
    (joined (codes "{") (pair_text label) (literal (codes "{") refl) (pair_in_line label (All-head P label labels named)))
    (others_in_line labels (All-tail P label labels named)))
    (literal (codes "}") refl)

sample_line : (name : List ℕ) (labels : List LabelPair) (value : List ℕ) → IsInLine name → All (λ label. IsInLine label.name) labels → IsInLine value → IsLine (sample_text name labels value)
sample_line name labels value named all_named valued = (
  name ++ labels_text labels ++ codes " " ++ value,
  refl,
  joined (name ++ labels_text labels ++ codes " ") value (joined (name ++ labels_text labels) (codes " ") (joined name (labels_text labels) named (labels_in_line labels all_named)) (literal (codes " ") refl)) valued,
)

pub number_line : (name : List ℕ) (labels : List LabelPair) (value : ℕ) → IsInLine name → All (λ label. IsInLine label.name) labels → value < 2 ^ 64 → IsLine (sample_text name labels (decimal value))
number_line name labels value named all_named fits = sample_line name labels (decimal value) named all_named (decimal_in_line value fits)

pub seconds_line : (name : List ℕ) (labels : List LabelPair) (milliseconds : ℕ) → IsInLine name → All (λ label. IsInLine label.name) labels → milliseconds < 2 ^ 64 → IsLine (sample_text name labels (seconds_text milliseconds))
seconds_line name labels milliseconds named all_named fits = sample_line name labels (seconds_text milliseconds) named all_named (seconds_in_line milliseconds fits)

pub help_line_is : (name help : List ℕ) → IsInLine name → IsLine (help_line name help)
help_line_is name help named = (
  codes "# HELP " ++ name ++ codes " " ++ help_text help,
  refl,
  joined (codes "# HELP " ++ name ++ codes " ") (help_text help)
      (joined (codes "# HELP " ++ name) (codes " ") (joined (codes "# HELP ") name (literal (codes "# HELP ") refl) named) (literal (codes " ") refl))
      (help_in_line help),
)

kind_in_line : (kind : MetricKind) → IsInLine (kind_text kind)
kind_in_line Counter = literal (codes "counter") refl
kind_in_line Gauge = literal (codes "gauge") refl

pub type_line_is : (name : List ℕ) (kind : MetricKind) → IsInLine name → IsLine (type_line name kind)
type_line_is name kind named = (
  codes "# TYPE " ++ name ++ codes " " ++ kind_text kind,
  refl,
  joined (codes "# TYPE " ++ name ++ codes " ") (kind_text kind)
      (joined (codes "# TYPE " ++ name) (codes " ") (joined (codes "# TYPE ") name (literal (codes "# TYPE ") refl) named) (literal (codes " ") refl))
      (kind_in_line kind),
)
