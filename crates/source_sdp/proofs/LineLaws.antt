-- Lines are read one by one, and what is padded reads the same.
use Rattle.std.proofs.Common.{◌≡◌, ℕ, ◌+◌, ◌-◌, true, false, cond, List, [], ◌∷◌, ◌++◌, Err, length, take, reverse, refl, sym, ap, ◌∙◌, arith, append_assoc, length-append}
use Rattle.std.specs.List.{slice_split, onto_first, prefix_len, suffix_len}
use Rattle.std.proofs.lemmas.List.{reverse-append, take-append-le, take_all}
use Rattle.base_syntax.specs.Lines.{HasNoLf}
use Rattle.sdp.specs.Fields.{is_field, is_media}
use Rattle.source_sdp.specs.declared.reason.Reason.TheVariants.{Unreadable}
use Rattle.source_sdp.specs.Heading.{heading_of}
use Rattle.source_sdp.specs.Lines.{is_lf, is_padding, without_padding, kept_lines, lines_in}
use Rattle.source_sdp.proofs.Parts.{one_line, kept_lines-cons}

-- a text has one line or more
some_part : (text : List ℕ) → (part : List ℕ) × (parts : List (List ℕ)) × (slice_split is_lf text ≡ part ∷ parts)
some_part [] = ([], [], refl)
some_part (b ∷ text) =
    let rest = some_part text in
    elim (is_lf b) as (λ c. (part : List ℕ) × (parts : List (List ℕ)) × (cond c ([] ∷ slice_split is_lf text) (onto_first b (slice_split is_lf text)) ≡ part ∷ parts)) [
      | true ↦ ([], slice_split is_lf text, refl)
      | false ↦ (b ∷ rest.0, rest.1, ap (onto_first b) rest.2)
    ]

onto_both : (b : ℕ) (text : List ℕ) (others : List (List ℕ)) → onto_first b (slice_split is_lf text ++ others) ≡ onto_first b (slice_split is_lf text) ++ others
onto_both b text others =
    let some = some_part text in
    ap (λ (parts : List (List ℕ)). onto_first b (parts ++ others)) some.2 ∙ ap (λ (parts : List (List ℕ)). onto_first b parts ++ others) (sym some.2)

split_join : (front rest : List ℕ) → slice_split is_lf (front ++ 10 ∷ rest) ≡ slice_split is_lf front ++ slice_split is_lf rest
split_join [] rest = refl
split_join (b ∷ front) rest =
    let same = split_join front rest in
    elim (is_lf b) as (λ c. cond c ([] ∷ slice_split is_lf (front ++ 10 ∷ rest)) (onto_first b (slice_split is_lf (front ++ 10 ∷ rest))) ≡ cond c ([] ∷ slice_split is_lf front) (onto_first b (slice_split is_lf front)) ++ slice_split is_lf rest) [
      | true ↦ ap (λ (parts : List (List ℕ)). [] ∷ parts) same
      | false ↦ ap (onto_first b) same ∙ onto_both b front (slice_split is_lf rest)
    ]

kept_lines_join : (lines others : List (List ℕ)) → kept_lines (lines ++ others) ≡ kept_lines lines ++ kept_lines others
kept_lines_join [] others = refl
kept_lines_join (line ∷ lines) others =
    kept_lines-cons line (lines ++ others) ∙ ap (λ (ls : List (List ℕ)). kept_lines (line ∷ []) ++ ls) (kept_lines_join lines others)
    ∙ sym (append_assoc (kept_lines (line ∷ [])) (kept_lines lines) (kept_lines others))
    ∙ ap (λ (ls : List (List ℕ)). ls ++ kept_lines others) (sym (kept_lines-cons line lines))

pub lines_joined : (front rest : List ℕ) → lines_in (front ++ 10 ∷ rest) ≡ lines_in front ++ lines_in rest
lines_joined front rest = ap kept_lines (split_join front rest) ∙ kept_lines_join (slice_split is_lf front) (slice_split is_lf rest)

pub line_alone : (line : List ℕ) → HasNoLf line → lines_in line ≡ kept_lines (line ∷ [])
line_alone line h = ap kept_lines (one_line line h)

-- what is dropped of a line and one byte more
one_dropped : (line : List ℕ) (b : ℕ) → suffix_len is_padding (line ++ b ∷ []) ≡ prefix_len is_padding (b ∷ reverse line)
one_dropped line b = ap (prefix_len is_padding) (reverse-append line (b ∷ []))

pub padded_same : (line : List ℕ) (b : ℕ) → is_padding b ≡ true → without_padding (line ++ b ∷ []) ≡ without_padding line
padded_same line b h =
    let dropped : suffix_len is_padding (line ++ b ∷ []) ≡ 1 + suffix_len is_padding line = one_dropped line b ∙ rw h refl in
    let kept : length (line ++ b ∷ []) - suffix_len is_padding (line ++ b ∷ []) ≡ length line - suffix_len is_padding line = omega (arith, dropped, length-append line (b ∷ [])) in
    ap (λ n. take n (line ++ b ∷ [])) kept ∙ take-append-le (length line - suffix_len is_padding line) line (b ∷ []) (omega arith)

pub bare_kept : (line : List ℕ) (b : ℕ) → is_padding b ≡ false → without_padding (line ++ b ∷ []) ≡ line ++ b ∷ []
bare_kept line b h =
    let dropped : suffix_len is_padding (line ++ b ∷ []) ≡ 0 = one_dropped line b ∙ rw h refl in
    take_all (length (line ++ b ∷ []) - suffix_len is_padding (line ++ b ∷ [])) (line ++ b ∷ []) (omega (arith, dropped))

pub media_kept : (line : List ℕ) → is_media (without_padding line) ≡ true → kept_lines (line ∷ []) ≡ without_padding line ∷ []
media_kept line h = rw h refl

pub broken_line : (line : List ℕ) → is_field line ≡ false → heading_of line ≡ Err Unreadable
broken_line line h = rw h refl
