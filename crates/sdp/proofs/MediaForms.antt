-- What an `m=` line is found to name is what its form names.
use Rattle.std.proofs.Common.{◌≡◌, ◌==◌, ◌<◌, ◌≤◌, ◌+◌, ◌-◌, ℕ, suc, Bool, true, false, if◌then◌else◌, List, [], ◌∷◌, ◌++◌, None, Some, inl, inr, length, take, drop, filter, get_or, codes, refl, sym, ap, subst, ◌∙◌, arith, length-take, length-drop, get_or-take, get_or-drop, take-append-drop, length-append}
use Rattle.std.specs.List.{prefix_len, suffix_len, position_or_len, slice_split, AllPass}
use Rattle.std.proofs.lemmas.Bool.{and_parts, cases_Bool}
use Rattle.std.proofs.lemmas.Bool.Decides.{leb_tells, eqb_tells}
use Rattle.std.proofs.lemmas.List.{drop_all, take_all, take_at, get_or_append_left, get_or-append_right}
use Rattle.std.proofs.lemmas.List.Splits.{slice_split_at, slice_split_none, slice_split-cons_yes}
use Rattle.std.proofs.lemmas.List.Sums.{prefix_len_passes, prefix_len_stops, suffix_len_is, suffix_len-le-length, fails_before_first, passes_at_first}
use Rattle.std.proofs.lemmas.Slice.Eq.{bytes_eq-Decides}
use Rattle.base_syntax.specs.Blanks.{is_blank, without_trailing_blanks}
use Rattle.base_syntax.specs.Lines.{has_bytes}
use Rattle.sdp.specs.Media.{MediaLine, words, is_space, is_port, names_transport, named_by, begins_with_space, media_of}
use Rattle.sdp.specs.MediaForm.{IsWord, AreSpaces, AreWords, HasBareEnd, IsMedia}
use Rattle.base_syntax.proofs.Trims.{back_blank, bare_end}
use Rattle.sdp.proofs.Cuts.{first_word}
use Rattle.sdp.proofs.Ports.{port_tells, port_is}

-- blanks at the end of a text
trimmed_is : (text blanks : List ℕ) → HasBareEnd text → AllPass is_blank blanks → without_trailing_blanks (text ++ blanks) ≡ text
trimmed_is text blanks ends blank =
    let whole : List ℕ = text ++ blanks in
    let last : length text - 1 < length text = omega (arith, ends.0) in
    let end : suffix_len is_blank whole ≡ length whole - length text =
    suffix_len_is is_blank whole (length text) 0 (omega (arith, length-append text blanks))
    (λ k from below. ap is_blank (get_or-append_right text blanks (length text) k 0 refl from) ∙ blank (k - length text) 0 (omega (arith, length-append text blanks)))
    (λ _. ap is_blank (get_or_append_left text blanks 0 (length text - 1) last) ∙ ends.1) in
    let kept : length whole - suffix_len is_blank whole ≡ length text = omega (arith, length-append text blanks) in
    ap (λ n. take n whole) kept ∙ take_at text blanks (length text) refl

trimmed_ends : (text : List ℕ) → 0 < length (without_trailing_blanks text) → HasBareEnd (without_trailing_blanks text)
trimmed_ends text some =
    let m : ℕ = suffix_len is_blank text in
    let n : ℕ = length text - m in
    let fewer : m ≤ length text = suffix_len-le-length is_blank text in
    let long : length (take n text) ≡ n = length-take n text ∙ omega arith in
    let last : n - 1 < n = omega (arith, long, some) in
    (some, ap is_blank (ap (λ i. get_or (take n text) (i - 1) 0) long ∙ get_or-take n text (n - 1) 0 last) ∙ bare_end text 0 (omega (arith, last)))

bare_behind : (text : List ℕ) (n : ℕ) → n < length text → HasBareEnd text → HasBareEnd (drop n text)
bare_behind text n inside ends =
    let long : length (drop n text) ≡ length text - n = length-drop n text in
    let place : n + (length (drop n text) - 1) ≡ length text - 1 = omega (arith, long, inside) in
    (omega (arith, long, inside), ap is_blank (get_or-drop n text (length (drop n text) - 1) 0 ∙ ap (λ i. get_or text i 0) place) ∙ ends.1)

-- words
kept_word : (word : List ℕ) (parts : List (List ℕ)) → 1 ≤ length word → filter has_bytes (word ∷ parts) ≡ word ∷ filter has_bytes parts
kept_word [] parts some = absurd (omega (arith, some))
kept_word (b ∷ bs) parts some = refl

one_word : (word : List ℕ) → IsWord word → words word ≡ word ∷ []
one_word word p = ap (filter has_bytes) (slice_split_none is_space word p.unbroken) ∙ kept_word word [] p.some

words_behind : (gap rest : List ℕ) → AllPass is_space gap → words (gap ++ rest) ≡ words rest
words_behind [] rest spaces = refl
words_behind (b ∷ gap) rest spaces =
    ap (filter has_bytes) (slice_split-cons_yes is_space b (gap ++ rest) (spaces 0 0 (omega arith))) ∙ words_behind gap rest (λ k d below. spaces (suc k) d (omega (arith, below)))

word_and_gap : (word gap rest : List ℕ) → IsWord word → AreSpaces gap → words (word ++ (gap ++ rest)) ≡ word ∷ words rest
word_and_gap word [] rest p q = let some : 1 ≤ 0 = q.some in absurd (omega (arith, some))
word_and_gap word (b ∷ gap) rest p q =
    ap (filter has_bytes) (slice_split_at is_space word b (gap ++ rest) p.unbroken (q.spaces 0 0 (omega arith)))
    ∙ kept_word word (slice_split is_space (gap ++ rest)) p.some
    ∙ ap (λ (ws : List (List ℕ)). word ∷ ws) (words_behind gap rest (λ k d below. q.spaces (suc k) d (omega (arith, below))))

words_are : (text : List ℕ) (ws : List (List ℕ)) → AreWords text ws → words text ≡ ws
words_are text [] are = absurd are
words_are text (word ∷ []) are = ap words are.0 ∙ one_word word are.1
words_are text (word ∷ next ∷ others) are =
    ap words are.2 ∙ word_and_gap word are.0 are.1 are.3 are.4 ∙ ap (λ (ws : List (List ℕ)). word ∷ ws) (words_are are.1 (next ∷ others) are.5)

-- the spaces at the front of a text
front_spaces : (text : List ℕ) → AllPass is_space (take (prefix_len is_space text) text)
front_spaces text k d below =
    let n : ℕ = prefix_len is_space text in
    let under : k < n = omega (arith, length-take n text) in
    ap is_space (get_or-take n text k d under) ∙ prefix_len_passes is_space text k d under

behind_spaces : (text : List ℕ) → words text ≡ words (drop (prefix_len is_space text) text)
behind_spaces text = let n : ℕ = prefix_len is_space text in ap words (sym (take-append-drop n text)) ∙ words_behind (take n text) (drop n text) (front_spaces text)

space_is_blank : (b : ℕ) → is_space b ≡ true → is_blank b ≡ true
space_is_blank b space = rw space refl

true_false : {P : Type 0} → true ≡ false → P
true_false e = absurd (cc)

spaces_end : (text : List ℕ) → HasBareEnd text → prefix_len is_space text < length text
spaces_end text ends = elim (leb_tells (length text) (prefix_len is_space text)) [
  | inl all ↦
      let last : length text - 1 < prefix_len is_space text = omega (arith, ends.0, all.1) in
      true_false (sym (space_is_blank (get_or text (length text - 1) 0) (prefix_len_passes is_space text (length text - 1) 0 last)) ∙ ends.1)
  | inr some ↦ some.1
]

-- a text that doesn't end in a blank has a word
has_word : (text : List ℕ) → HasBareEnd text → words text ≡ [] → ⊥
has_word text ends none =
    let n : ℕ = prefix_len is_space text in
    let inside : n < length text = spaces_end text ends in
    let rest : List ℕ = drop n text in
    let some : 0 < length rest = omega (arith, length-drop n text, inside) in
    let at : n + 0 ≡ n = omega arith in
    let head : (get_or rest 0 0 == 32) ≡ false = ap is_space (get_or-drop n text 0 0 ∙ ap (λ i. get_or text i 0) at) ∙ prefix_len_stops is_space text 0 inside in
    let first = first_word rest some head in
    let is = sym none ∙ behind_spaces text ∙ first in
    absurd (cc)

front_word : (text : List ℕ) → 0 < length text → is_space (get_or text 0 0) ≡ false → IsWord (take (position_or_len is_space text) text)
front_word text some head =
    let n : ℕ = position_or_len is_space text in
    record {
      some = elim (leb_tells 1 n) [
        | inl low ↦ let long = length-take n text in omega (arith, low.1, long, some)
        | inr none ↦
            let zero : n ≡ 0 = omega (arith, none.1) in
            let at : get_or text n 0 ≡ get_or text 0 0 = ap (λ i. get_or text i 0) zero in
            true_false (sym (passes_at_first is_space text 0 (omega (arith, zero, some))) ∙ ap is_space at ∙ head)
      ];
      unbroken = λ k d below. let under : k < n = omega (arith, length-take n text, below) in ap is_space (get_or-take n text k d under) ∙ fails_before_first is_space text k d under;
    }

spaced : (others : List (List ℕ)) (text word : List ℕ) → words text ≡ word ∷ others → is_space (get_or text 0 0) ≡ false → HasBareEnd text → AreWords text (word ∷ others)
spaced [] text word are head ends =
    let n : ℕ = position_or_len is_space text in
    let first : words text ≡ take n text ∷ words (drop n text) = first_word text ends.0 head in
    let word_is : word ≡ take n text = cc in
    let no_more : words (drop n text) ≡ [] = cc in
    elim (leb_tells (length text) n) [
      | inl all ↦ (sym (word_is ∙ take_all n text all.1), subst IsWord (sym word_is) (front_word text ends.0 head))
      | inr inside ↦ absurd (has_word (drop n text) (bare_behind text n inside.1 ends) no_more)
    ]
spaced (next ∷ others) text word are head ends =
    let n : ℕ = position_or_len is_space text in
    let first : words text ≡ take n text ∷ words (drop n text) = first_word text ends.0 head in
    let word_is : word ≡ take n text = cc in
    let more : words (drop n text) ≡ next ∷ others = cc in
    elim (leb_tells (length text) n) [
      | inl all ↦
          let none : words (drop n text) ≡ [] = ap words (drop_all n text all.1) in
          absurd (cc)
      | inr inside ↦
          let tail : List ℕ = drop n text in
          let tail_ends : HasBareEnd tail = bare_behind text n inside.1 ends in
          let m : ℕ = prefix_len is_space tail in
          let within : m < length tail = spaces_end tail tail_ends in
          let rest : List ℕ = drop m tail in
          let at : n + 0 ≡ n = omega arith in
          let space : is_space (get_or tail 0 0) ≡ true = ap is_space (get_or-drop n text 0 0 ∙ ap (λ i. get_or text i 0) at) ∙ passes_at_first is_space text 0 inside.1 in
          let low : 1 ≤ m = elim (leb_tells 1 m) [
            | inl low ↦ low.1
            | inr none ↦
                let zero : m ≡ 0 = omega (arith, none.1) in
                true_false (sym space ∙ ap (λ i. is_space (get_or tail i 0)) (sym zero) ∙ prefix_len_stops is_space tail 0 within)
          ] in
          let gap : AreSpaces (take m tail) = record { some = omega (arith, low, length-take m tail, within); spaces = front_spaces tail } in
          let on : m + 0 ≡ m = omega arith in
          let rest_head : is_space (get_or rest 0 0) ≡ false = ap is_space (get_or-drop m tail 0 0 ∙ ap (λ i. get_or tail i 0) on) ∙ prefix_len_stops is_space tail 0 within in
          let whole : text ≡ word ++ (take m tail ++ rest) =
          sym (take-append-drop n text) ∙ ap (λ (l : List ℕ). l ++ tail) (sym word_is) ∙ ap (λ (l : List ℕ). word ++ l) (sym (take-append-drop m tail)) in
          (take m tail, rest, whole, subst IsWord (sym word_is) (front_word text ends.0 head), gap, spaced others rest next (sym (behind_spaces tail) ∙ more) rest_head (bare_behind tail m within tail_ends))
    ]

-- media, port, protocol and formats
record Named (ws : List (List ℕ)) (named : MediaLine) : Type 0 where
  port : List ℕ
  good : is_port port ≡ true
  are : ws ≡ named.media ∷ port ∷ codes "RTP/AVP" ∷ named.formats
  some : 1 ≤ length named.formats

named_if : (good : Bool) (made named : MediaLine) → (if good then Some made else None) ≡ Some named → (good ≡ true) × (made ≡ named)
named_if true made named e = (refl, (cc))
named_if false made named e = absurd (cc)

named_tells : (ws : List (List ℕ)) (named : MediaLine) → named_by ws ≡ Some named → Named ws named
named_tells [] named e = absurd (cc)
named_tells (media ∷ []) named e = absurd (cc)
named_tells (media ∷ port ∷ []) named e = absurd (cc)
named_tells (media ∷ port ∷ proto ∷ []) named e = absurd (cc)
named_tells (media ∷ port ∷ proto ∷ format ∷ formats) named e =
    let made : MediaLine = record { media = media; formats = format ∷ formats } in
    let kept = named_if (names_transport port proto) made named e in
    let parts = and_parts _ _ kept.0 in
    let proto_is : proto ≡ codes "RTP/AVP" = (bytes_eq-Decides proto (codes "RTP/AVP")).0 parts.1 in
    subst (Named (media ∷ port ∷ proto ∷ format ∷ formats)) kept.1
    (record { port = port; good = parts.0; are = ap (λ (l : List ℕ). media ∷ port ∷ l ∷ format ∷ formats) proto_is; some = omega arith })

named_is : (media port : List ℕ) (formats : List (List ℕ)) → is_port port ≡ true → 1 ≤ length formats → named_by (media ∷ port ∷ codes "RTP/AVP" ∷ formats) ≡ Some (record { media = media; formats = formats })
named_is media port [] good some = absurd (omega (arith, some))
named_is media port (format ∷ formats) good some = rw good refl

no_space : (value : List ℕ) → begins_with_space value ≡ false → is_space (get_or value 0 0) ≡ false
no_space [] h = refl
no_space (b ∷ bs) h = elim (eqb_tells b 32) [
  | inl same ↦ let yes : begins_with_space (b ∷ bs) ≡ true = rw same.0 refl in true_false (sym yes ∙ h)
  | inr other ↦ other.0
]

begins_so : (value : List ℕ) → is_space (get_or value 0 0) ≡ false → begins_with_space value ≡ false
begins_so [] h = refl
begins_so (b ∷ bs) h = rw h refl

some_text : (text word : List ℕ) (others : List (List ℕ)) → words text ≡ word ∷ others → 0 < length text
some_text [] word others are = absurd (cc)
some_text (b ∷ bs) word others are = omega arith

pub media_tells : (line : List ℕ) (named : MediaLine) → media_of line ≡ Some named → IsMedia (drop 2 line) named
unfolding media_of
media_tells line named e = elim (cases_Bool (begins_with_space (drop 2 line))) [
  | inl space ↦ let none = rw space at e in absurd (cc)
  | inr bare ↦
      let value : List ℕ = drop 2 line in
      let text : List ℕ = without_trailing_blanks value in
      let n : ℕ = length value - suffix_len is_blank value in
      let p = named_tells (words text) named (rw bare at e) in
      let some : 0 < length text = some_text text named.media (p.port ∷ codes "RTP/AVP" ∷ named.formats) p.are in
      let first : 0 < n = omega (arith, some, length-take n value) in
      let head : is_space (get_or text 0 0) ≡ false = ap is_space (get_or-take n value 0 0 first) ∙ no_space value bare in
      let ends : HasBareEnd text = trimmed_ends value some in
      record {
        text = text;
        blanks = drop n value;
        whole = sym (take-append-drop n value);
        blank = back_blank value n (omega (arith, suffix_len-le-length is_blank value));
        ends = ends;
        port = p.port;
        good = port_tells p.port p.good;
        words = spaced (p.port ∷ codes "RTP/AVP" ∷ named.formats) text named.media p.are head ends;
        some = p.some;
      }
]

first_of : (text word : List ℕ) (others : List (List ℕ)) → AreWords text (word ∷ others) → is_space (get_or text 0 0) ≡ false
first_of text word [] are = ap (λ (l : List ℕ). is_space (get_or l 0 0)) are.0 ∙ are.1.unbroken 0 0 (omega (arith, are.1.some))
first_of text word (next ∷ others) are =
    ap (λ (l : List ℕ). is_space (get_or l 0 0)) are.2 ∙ ap is_space (get_or_append_left word (are.0 ++ are.1) 0 0 (omega (arith, are.3.some))) ∙ are.3.unbroken 0 0 (omega (arith, are.3.some))

pub media_is_found : (line : List ℕ) (named : MediaLine) → IsMedia (drop 2 line) named → media_of line ≡ Some named
unfolding media_of
media_is_found line named p =
    let value : List ℕ = drop 2 line in
    let text_is : without_trailing_blanks value ≡ p.text = ap without_trailing_blanks p.whole ∙ trimmed_is p.text p.blanks p.ends p.blank in
    let head : is_space (get_or value 0 0) ≡ false =
    ap (λ (l : List ℕ). is_space (get_or l 0 0)) p.whole ∙ ap is_space (get_or_append_left p.text p.blanks 0 0 p.ends.0) ∙ first_of p.text named.media (p.port ∷ codes "RTP/AVP" ∷ named.formats) p.words in
    let bare = begins_so value head in
    let are = words_are p.text (named.media ∷ p.port ∷ codes "RTP/AVP" ∷ named.formats) p.words in
    rw (bare, text_is, are) (named_is named.media p.port named.formats (port_is p.port p.good) p.some)

-- where nothing is found, no form stands
pub no_media_named : (line : List ℕ) → media_of line ≡ None → (named : MediaLine) → ¬ IsMedia (drop 2 line) named
no_media_named line none named p = let found = media_is_found line named p in absurd (cc)
