-- Two samples that are one text are read as the same.
use Rattle.std.proofs.Common.{◌≡◌, ℕ, List, [], ◌∷◌, ◌++◌, codes, refl, sym, ap, ◌∙◌, append_assoc}
use Rattle.std.proofs.lemmas.List.{append_cancel_left, append_cancel_right}
use Rattle.std.specs.List.{flat_map}
use Rattle.std.specs.Str.Lossy.{utf8_lossy}
use Rattle.exposition.specs.Exposition.{LabelPair, double_quote, label_text, pair_text, next_text, labels_text, sample_text}
use Rattle.exposition.specs.Reading.{read_until, names_of, values_of}
use Rattle.exposition.proofs.Reading.{value_reads, text_of, rest_of}

-- a label and what follows it, from its value on
pair_parts : (label : LabelPair) (rest : List ℕ) → pair_text label ++ rest ≡ (label.name ++ codes "=\"") ++ (label_text label.value ++ double_quote ∷ rest)
pair_parts label rest = simp append_assoc

pair_same : (label another : LabelPair) (rest other : List ℕ) → label.name ≡ another.name → pair_text label ++ rest ≡ pair_text another ++ other
    → (utf8_lossy label.value ≡ utf8_lossy another.value) × (rest ≡ other)
pair_same label another rest other named same =
    let front : List ℕ = label.name ++ codes "=\"" in
    let mine : List ℕ = label_text label.value ++ double_quote ∷ rest in
    let tail : List ℕ = label_text another.value ++ double_quote ∷ other in
    let whole : front ++ mine ≡ front ++ tail
    = sym (pair_parts label rest) ∙ same ∙ pair_parts another other ∙ ap (λ (name : List ℕ). (name ++ codes "=\"") ++ tail) (sym named) in
    let same_tail : mine ≡ tail = append_cancel_left front mine tail whole in
    let read = sym (value_reads label.value rest) ∙ ap (read_until double_quote) same_tail ∙ value_reads another.value other in
    (ap text_of read, ap rest_of read)

next_parts : (label : LabelPair) (later rest : List ℕ) → (next_text label ++ later) ++ rest ≡ codes "," ++ (pair_text label ++ (later ++ rest))
next_parts label later rest = simp append_assoc

others_same : (labels others : List LabelPair) (rest other : List ℕ) → names_of labels ≡ names_of others → flat_map next_text labels ++ rest ≡ flat_map next_text others ++ other
    → (values_of labels ≡ values_of others) × (rest ≡ other)
others_same [] [] rest other named same = (refl, same)
others_same [] (another ∷ others) rest other named same = absurd (cc)
others_same (label ∷ labels) [] rest other named same = absurd (cc)
others_same (label ∷ labels) (another ∷ others) rest other named same =
    let first : label.name ≡ another.name = cc in
    let later : names_of labels ≡ names_of others = cc in
    let whole : codes "," ++ (pair_text label ++ (flat_map next_text labels ++ rest)) ≡ codes "," ++ (pair_text another ++ (flat_map next_text others ++ other))
    = sym (next_parts label (flat_map next_text labels) rest) ∙ same ∙ next_parts another (flat_map next_text others) other in
    let one = pair_same label another (flat_map next_text labels ++ rest) (flat_map next_text others ++ other) first (append_cancel_left (codes ",") (pair_text label ++ (flat_map next_text labels ++ rest)) (pair_text another ++ (flat_map next_text others ++ other)) whole) in
    let more = others_same labels others rest other later one.1 in
    (cc (one.0, more.0), more.1)

labels_parts : (label : LabelPair) (later rest : List ℕ) → (codes "{" ++ pair_text label ++ later ++ codes "}") ++ rest ≡ codes "{" ++ (pair_text label ++ (later ++ (codes "}" ++ rest)))
labels_parts label later rest = simp append_assoc

labels_same : (labels others : List LabelPair) (rest other : List ℕ) → names_of labels ≡ names_of others → labels_text labels ++ rest ≡ labels_text others ++ other
    → (values_of labels ≡ values_of others) × (rest ≡ other)
labels_same [] [] rest other named same = (refl, same)
labels_same [] (another ∷ others) rest other named same = absurd (cc)
labels_same (label ∷ labels) [] rest other named same = absurd (cc)
labels_same (label ∷ labels) (another ∷ others) rest other named same =
    let first : label.name ≡ another.name = cc in
    let later : names_of labels ≡ names_of others = cc in
    let after : List ℕ = codes "}" ++ rest in
    let other_after : List ℕ = codes "}" ++ other in
    let whole : codes "{" ++ (pair_text label ++ (flat_map next_text labels ++ after)) ≡ codes "{" ++ (pair_text another ++ (flat_map next_text others ++ other_after))
    = sym (labels_parts label (flat_map next_text labels) rest) ∙ same ∙ labels_parts another (flat_map next_text others) other in
    let one = pair_same label another (flat_map next_text labels ++ after) (flat_map next_text others ++ other_after) first (append_cancel_left (codes "{") (pair_text label ++ (flat_map next_text labels ++ after)) (pair_text another ++ (flat_map next_text others ++ other_after)) whole) in
    let more = others_same labels others after other_after later one.1 in
    (cc (one.0, more.0), append_cancel_left (codes "}") rest other more.1)

sample_parts : (name labels value : List ℕ) → name ++ labels ++ codes " " ++ value ++ codes "\n" ≡ name ++ (labels ++ (codes " " ++ (value ++ codes "\n")))
sample_parts name labels value = simp append_assoc

sample_same : (name : List ℕ) (labels others : List LabelPair) (value other : List ℕ) → names_of labels ≡ names_of others → sample_text name labels value ≡ sample_text name others other
    → (values_of labels ≡ values_of others) × (value ≡ other)
sample_same name labels others value other named same =
    let whole : name ++ (labels_text labels ++ (codes " " ++ (value ++ codes "\n"))) ≡ name ++ (labels_text others ++ (codes " " ++ (other ++ codes "\n")))
    = sym (sample_parts name (labels_text labels) value) ∙ same ∙ sample_parts name (labels_text others) other in
    let read = labels_same labels others (codes " " ++ (value ++ codes "\n")) (codes " " ++ (other ++ codes "\n")) named (append_cancel_left name (labels_text labels ++ (codes " " ++ (value ++ codes "\n"))) (labels_text others ++ (codes " " ++ (other ++ codes "\n"))) whole) in
    (read.0, append_cancel_right value other (codes "\n") (append_cancel_left (codes " ") (value ++ codes "\n") (other ++ codes "\n") read.1))

pub same_labels : (name : List ℕ) (labels others : List LabelPair) (value other : List ℕ) → names_of labels ≡ names_of others → sample_text name labels value ≡ sample_text name others other → values_of labels ≡ values_of others
same_labels name labels others value other named same = (sample_same name labels others value other named same).0

pub same_value : (name : List ℕ) (labels others : List LabelPair) (value other : List ℕ) → names_of labels ≡ names_of others → sample_text name labels value ≡ sample_text name others other → value ≡ other
same_value name labels others value other named same = (sample_same name labels others value other named same).1
