-- When the value of `mode` asks for recording, apart from how it is read (RFC 2326, 12.39: mode = <"> 1#mode <">).
use Rattle.std.specs.Prelude.{◌≡◌, ℕ, ◌==◌, true, not, List, ◌∷◌, ◌++◌, ◌⊎◌, filter, codes}
use Rattle.std.specs.List.{join_with_byte}
use Rattle.base_syntax.specs.Blanks.{IsTrimOf}
use Rattle.base_syntax.specs.Names.{same_name}
use Rattle.base_syntax.specs.Quotes.{double_quote, AreParts}
use Rattle.transport_header.specs.Separators.{comma}

-- `record` or `receive`, in any case
abbrev pub IsRecordWord : List ℕ → Type 0
IsRecordWord word = (same_name word (codes "record") ≡ true) ⊎ (same_name word (codes "receive") ≡ true)

abbrev pub without_quotes : List ℕ → List ℕ
without_quotes value = filter (λ b. not (b == double_quote)) value

-- Without its quotes the value is parts between commas, and one of them is `record` or `receive`, with nothing but
-- blanks round it.
pub record AsksRecord (value : List ℕ) : Type 0 where
  pub before : List (List ℕ)
  pub part : List ℕ
  pub after : List (List ℕ)
  pub cut : AreParts comma (before ++ part ∷ after)
  pub joined : join_with_byte comma (before ++ part ∷ after) ≡ without_quotes value
  pub word : List ℕ
  pub core : IsTrimOf part word
  pub asked : IsRecordWord word
