-- The text without the blanks at its ends is what stands between them, and nothing else is.
use Rattle.std.proofs.Common.{◌≡◌, ◌<◌, ◌≤◌, ◌+◌, ◌-◌, ℕ, true, false, List, [], ◌∷◌, ◌++◌, length, take, drop, get_or, reverse, refl, ap, sym, ◌∙◌, arith, length-take, length-drop, get_or-take, get_or-drop, take-append-drop, length-append}
use Rattle.std.specs.List.{prefix_len, suffix_len, AllPass}
use Rattle.std.proofs.lemmas.List.{get_or-reverse, length-reverse, drop_all, take_at, drop_at, get_or_append_left, get_or-append_right}
use Rattle.std.proofs.lemmas.List.Elements.{All-append}
use Rattle.std.proofs.lemmas.List.Sums.{prefix_len_passes, prefix_len_stops, prefix_len_is, suffix_len_is, suffix_len-le-length}
use Rattle.base_syntax.specs.Blanks.{is_blank, trimmed, without_leading_blanks, without_trailing_blanks, HasBareEnds, IsTrimOf}

-- the blanks at the end of a text, counted from its end
blank_end : (text : List ℕ) (d j : ℕ) → j < length text → length text ≤ j + suffix_len is_blank text → is_blank (get_or text j d) ≡ true
blank_end text d j below from =
    let k : ℕ = length text - 1 - j in
    let within : k < length text = omega arith in
    let back : length text - 1 - k ≡ j = omega arith in
    let at : get_or (reverse text) k d ≡ get_or text j d = get_or-reverse text k d within ∙ ap (λ i. get_or text i d) back in
    ap is_blank (sym at) ∙ prefix_len_passes is_blank (reverse text) k d (omega arith)

pub bare_end : (text : List ℕ) (d : ℕ) → suffix_len is_blank text < length text → is_blank (get_or text (length text - suffix_len is_blank text - 1) d) ≡ false
bare_end text d some =
    let m : ℕ = suffix_len is_blank text in
    let back : length text - 1 - m ≡ length text - m - 1 = omega arith in
    let at : get_or (reverse text) m d ≡ get_or text (length text - m - 1) d = get_or-reverse text m d some ∙ ap (λ i. get_or text i d) back in
    ap is_blank (sym at) ∙ prefix_len_stops is_blank (reverse text) d (omega (arith, length-reverse text))

front_blank : (text : List ℕ) → AllPass is_blank (take (prefix_len is_blank text) text)
front_blank text k d below =
    let n : ℕ = prefix_len is_blank text in
    let under : k < n = omega (arith, length-take n text) in
    ap is_blank (get_or-take n text k d under) ∙ prefix_len_passes is_blank text k d under

pub back_blank : (rest : List ℕ) (kept : ℕ) → kept + suffix_len is_blank rest ≡ length rest → AllPass is_blank (drop kept rest)
back_blank rest kept whole k d below =
    let within : kept + k < length rest = omega (arith, length-drop kept rest) in
    ap is_blank (get_or-drop kept rest k d) ∙ blank_end rest d (kept + k) within (omega arith)

bare_start : (text : List ℕ) → 0 < length (without_leading_blanks text) → is_blank (get_or (without_leading_blanks text) 0 0) ≡ false
bare_start text some =
    let n : ℕ = prefix_len is_blank text in
    let within : n < length text = omega (arith, length-drop n text) in
    let first : n + 0 ≡ n = omega arith in
    ap is_blank (get_or-drop n text 0 0 ∙ ap (λ i. get_or text i 0) first) ∙ prefix_len_stops is_blank text 0 within

bare_ends : (rest : List ℕ) (kept : ℕ) → kept + suffix_len is_blank rest ≡ length rest → (0 < length rest → is_blank (get_or rest 0 0) ≡ false) → HasBareEnds (take kept rest)
bare_ends rest kept whole start some =
    let long : length (take kept rest) ≡ kept = length-take kept rest ∙ omega arith in
    let first : 0 < kept = omega (arith, long, some) in
    let last : length (take kept rest) - 1 < kept = omega (arith, long, some) in
    let place : length (take kept rest) - 1 ≡ length rest - suffix_len is_blank rest - 1 = omega (arith, long) in (
      ap is_blank (get_or-take kept rest 0 0 first) ∙ start (omega arith),
      ap is_blank (get_or-take kept rest _ 0 last ∙ ap (λ i. get_or rest i 0) place) ∙ bare_end rest 0 (omega arith),
    )

pub is_core : (text : List ℕ) → IsTrimOf text (trimmed text)
is_core text =
    let n : ℕ = prefix_len is_blank text in
    let rest : List ℕ = drop n text in
    let kept : ℕ = length rest - suffix_len is_blank rest in
    let whole : kept + suffix_len is_blank rest ≡ length rest = omega (arith, suffix_len-le-length is_blank rest) in
    record {
      front = take n text;
      back = drop kept rest;
      whole = sym (take-append-drop n text) ∙ ap (λ t. take n text ++ t) (sym (take-append-drop kept rest));
      front_blank = front_blank text;
      back_blank = back_blank rest kept whole;
      bare = bare_ends rest kept whole (bare_start text);
    }

-- and nothing else is
all_blank : (front back : List ℕ) → AllPass is_blank front → AllPass is_blank back → AllPass is_blank (front ++ back)
all_blank front back before behind = All-append (λ b. is_blank b ≡ true) front back before behind

nothing_left : (text : List ℕ) → AllPass is_blank text → trimmed text ≡ []
nothing_left text blank =
    let whole : prefix_len is_blank text ≡ length text = prefix_len_is is_blank text (length text) 0 (omega arith) (λ k below. blank k 0 below) (λ less. absurd (omega arith)) in
    let empty : without_leading_blanks text ≡ [] = drop_all _ text (omega arith) in
    ap without_trailing_blanks empty

bare_core : (front core back : List ℕ) → 0 < length core → AllPass is_blank front → AllPass is_blank back → HasBareEnds core → trimmed (front ++ (core ++ back)) ≡ core
bare_core front core back some before behind bare =
    let text : List ℕ = front ++ (core ++ back) in
    let rest : List ℕ = core ++ back in
    let skipped : length front - length front ≡ 0 = omega arith in
    let first : get_or text (length front) 0 ≡ get_or core 0 0 =
    get_or-append_right front rest (length front) (length front) 0 refl (omega arith) ∙ ap (λ i. get_or rest i 0) skipped ∙ get_or_append_left core back 0 0 some in
    let start : prefix_len is_blank text ≡ length front =
    prefix_len_is is_blank text (length front) 0 (omega (arith, length-append front rest)) (λ k below. ap is_blank (get_or_append_left front rest 0 k below) ∙ before k 0 below) (λ _. ap is_blank first ∙ (bare some).0) in
    let dropped : without_leading_blanks text ≡ rest = ap (λ n. drop n text) start ∙ drop_at front rest (length front) refl in
    let final : length core - 1 < length core = omega arith in
    let end : suffix_len is_blank rest ≡ length rest - length core =
    suffix_len_is is_blank rest (length core) 0 (omega (arith, length-append core back)) (λ k from below. ap is_blank (get_or-append_right core back (length core) k 0 refl from) ∙ behind (k - length core) 0 (omega (arith, length-append core back))) (λ _. ap is_blank (get_or_append_left core back 0 (length core - 1) final) ∙ (bare some).1) in
    let kept : length rest - suffix_len is_blank rest ≡ length core = omega (arith, length-append core back) in
    ap without_trailing_blanks dropped ∙ ap (λ n. take n rest) kept ∙ take_at core back (length core) refl

pub only_core : (text core : List ℕ) → IsTrimOf text core → core ≡ trimmed text
only_core text [] p = sym (ap trimmed p.whole ∙ nothing_left (p.front ++ p.back) (all_blank p.front p.back p.front_blank p.back_blank))
only_core text (c ∷ core) p = sym (ap trimmed p.whole ∙ bare_core p.front (c ∷ core) p.back (omega arith) p.front_blank p.back_blank p.bare)
