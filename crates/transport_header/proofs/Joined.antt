-- The text of RTP-Info, entry by entry.
use Rattle.std.proofs.Common.{◌≡◌, ◌+◌, ℕ, suc, List, [], ◌∷◌, ◌++◌, refl, ap, sym, ◌∙◌, arith, append-nil, add-one, ◌<◌, ◌≤◌, length, get_or, drop, length-append, Result, Ok, Err, OnErr}
use Rattle.std.proofs.lemmas.List.{at_drop_more}
use Rattle.transport_header.specs.declared.rtp_info.InfoEntry.{InfoEntry}
use Rattle.transport_header.specs.RtpInfo.{entry_text, item_text, rtp_info_text}

-- the entries from an index on
abbrev pub items_from : ℕ → List InfoEntry → List ℕ
items_from i [] = []
items_from i (entry ∷ entries) = item_text i entry ++ items_from (i + 1) entries

later : (i : ℕ) (e : InfoEntry) (es : List InfoEntry) → items_from (suc i) (e ∷ es) ≡ 44 ∷ rtp_info_text (e ∷ es)
unfolding rtp_info_text
later i e [] = ap (λ t. 44 ∷ t) (append-nil (entry_text e))
later i e (f ∷ es) = rw add-one (ap (λ t. 44 ∷ (entry_text e ++ t)) (later (suc i) f es))

pub all_items : (entries : List InfoEntry) → items_from 0 entries ≡ rtp_info_text entries
unfolding rtp_info_text
all_items [] = refl
all_items (e ∷ []) = append-nil (entry_text e)
all_items (e ∷ f ∷ es) = ap (λ t. entry_text e ++ t) (later 0 f es)

-- the text so far and the next entry are within the whole text
pub fits : (out old : List ℕ) (entries : List InfoEntry) (i : ℕ) (e : InfoEntry) → i < length entries → e ≡ get_or entries i e → out ++ items_from i (drop i entries) ≡ old ++ items_from 0 entries → length out + length (item_text i e) ≤ length old + length (rtp_info_text entries)
fits out old entries i e below at told =
    let rest : List ℕ = items_from (i + 1) (drop (i + 1) entries) in
    let next : items_from i (drop i entries) ≡ item_text i e ++ rest = at_drop_more (items_from i) entries i e below ∙ ap (λ f. item_text i f ++ rest) (sym at) in
    let whole : out ++ (item_text i e ++ rest) ≡ old ++ rtp_info_text entries = ap (λ t. out ++ t) (sym next) ∙ told ∙ ap (λ t. old ++ t) (all_items entries) in
    omega (arith, ap length whole, length-append out (item_text i e ++ rest), length-append (item_text i e) rest, length-append old (rtp_info_text entries))

pub on_err : {T E : Type 0} (r : Result T E) (Q : Type 0) → Q → OnErr r Q
on_err (Ok x) Q q = tt
on_err (Err e) Q q = q
