-- Where an LF was found.
use Rattle.std.proofs.Common.{◌≡◌, ◌==◌, ℕ, ◌+◌, ◌-◌, ◌≤◌, zero, suc, List, [], ◌∷◌, ◌++◌, length, take, drop, sym, ap, subst, ◌∙◌, arith, append_assoc, length-append, length-drop, take-append-drop, None, Some}
use Rattle.std.proofs.lemmas.List.{take_rest, drop-drop}
use Rattle.std.proofs.Math.Seq.{take-append_seam, drop-append_seam, take-add}
use Rattle.std.specs.List.{before_first}
use Rattle.base_syntax.specs.Cuts.{IsCut, behind_first}
use Rattle.base_syntax.specs.Lines.{HasNoLf, ended}
use Rattle.base_syntax.proofs.Cuts.{cut_as}
use Rattle.base_syntax.proofs.LineEnds.{no_line}
use Rattle.rtsp_message.specs.Stores.{IsFirstLf, between}

found_at : (bytes line rest : List ℕ) (from : ℕ) → from ≤ length bytes → IsCut 10 (drop from bytes) line (Some rest) → IsFirstLf bytes from (from + length line)
found_at bytes line rest from within cut =
    let here : drop (from + length line) bytes ≡ 10 ∷ rest = sym (drop-drop (length line) from bytes) ∙ ap (drop (length line)) cut.0 ∙ drop-append_seam line (10 ∷ rest) in
    let next : drop (from + length line + 1) bytes ≡ rest = sym (drop-drop 1 (from + length line) bytes) ∙ ap (drop 1) here in
    let count : from + length line - from ≡ length line = omega arith in
    record {
      behind = omega arith;
      within = omega (arith, within, length-drop from bytes, ap length cut.0, length-append line (10 ∷ rest));
      none_before = subst HasNoLf (sym (ap (λ (n : ℕ). take n (drop from bytes)) count ∙ ap (take (length line)) cut.0 ∙ take-append_seam line (10 ∷ rest))) cut.1;
      stands = here ∙ ap (λ (l : List ℕ). 10 ∷ l) (sym next);
    }

-- as a cut at the first LF tells it
pub lf_found : (bytes text line rest : List ℕ) (from : ℕ) → from ≤ length bytes → text ≡ take (length bytes - from) (drop from bytes) → line ≡ before_first (λ b. b == 10) text → Some rest ≡ behind_first 10 text → IsFirstLf bytes from (from + length line)
lf_found bytes text line rest from within text_is line_is rest_is =
    found_at bytes line rest from within (subst (λ (t : List ℕ). IsCut 10 t line (Some rest)) (text_is ∙ take_rest bytes from) (cut_as 10 text line (Some rest) line_is rest_is))

pub lf_missing : (bytes text : List ℕ) (from : ℕ) → text ≡ take (length bytes - from) (drop from bytes) → None ≡ behind_first 10 text → HasNoLf (drop from bytes)
lf_missing bytes text from text_is none = subst HasNoLf (text_is ∙ take_rest bytes from) (no_line text none)

-- what holds no LF joined to what holds none
pub no_lf_append : (xs ys : List ℕ) → HasNoLf xs → HasNoLf ys → HasNoLf (xs ++ ys)
no_lf_append [] ys p q = q
no_lf_append (x ∷ xs) ys p q = (p.0, no_lf_append xs ys p.1 q)

-- the front of what holds no LF
pub no_lf_take : (n : ℕ) (xs : List ℕ) → HasNoLf xs → HasNoLf (take n xs)
no_lf_take zero xs p = tt
no_lf_take (suc n) [] p = tt
no_lf_take (suc n) (x ∷ xs) p = (p.0, no_lf_take n xs p.1)

-- places counted from a place on
pub between_behind : (bytes : List ℕ) (from i j : ℕ) → between bytes (from + i) (from + j) ≡ between (drop from bytes) i j
between_behind bytes from i j =
    let count : from + j - (from + i) ≡ j - i = omega arith in
    ap (λ (n : ℕ). take n (drop (from + i) bytes)) count ∙ ap (take (j - i)) (sym (drop-drop i from bytes))

-- the same LF, where places are counted from another one
pub lf_behind : (bytes : List ℕ) (from searched place : ℕ) → IsFirstLf bytes (from + searched) place → IsFirstLf (drop from bytes) searched (place - from)
lf_behind bytes from searched place p =
    let split : from + (place - from) ≡ place = omega (arith, p.behind) in
    let here : drop (place - from) (drop from bytes) ≡ drop place bytes = drop-drop (place - from) from bytes ∙ ap (λ (n : ℕ). drop n bytes) split in
    let step : from + (place - from + 1) ≡ place + 1 = omega (arith, p.behind) in
    let next : drop (place - from + 1) (drop from bytes) ≡ drop (place + 1) bytes = drop-drop (place - from + 1) from bytes ∙ ap (λ (n : ℕ). drop n bytes) step in
    record {
      behind = omega (arith, p.behind);
      within = omega (arith, p.within, p.behind, length-drop from bytes);
      none_before = subst HasNoLf (ap (λ (n : ℕ). between bytes (from + searched) n) (sym split) ∙ between_behind bytes from searched (place - from)) p.none_before;
      stands = here ∙ p.stands ∙ ap (λ (l : List ℕ). 10 ∷ l) (sym next);
    }

-- bytes from one place to another, and on from there
pub between_more : (bytes : List ℕ) (i j k : ℕ) → i ≤ j → j ≤ k → between bytes i k ≡ between bytes i j ++ between bytes j k
between_more bytes i j k low high =
    let count : k - i ≡ (j - i) + (k - j) = omega arith in
    let place : i + (j - i) ≡ j = omega arith in
    ap (λ (n : ℕ). take n (drop i bytes)) count ∙ take-add (j - i) (k - j) (drop i bytes)
    ∙ ap (λ (l : List ℕ). between bytes i j ++ take (k - j) l) (drop-drop (j - i) i bytes ∙ ap (λ (n : ℕ). drop n bytes) place)

-- A line that ends at an LF, after which the bytes go on.
pub record IsLineAt (bytes : List ℕ) (line end : ℕ) : Type 0 where
  pub unbroken : HasNoLf (between bytes line end)
  pub behind : drop line bytes ≡ ended (between bytes line end) ++ drop (end + 1) bytes
  pub up_to : take (end + 1) bytes ≡ take line bytes ++ ended (between bytes line end)

-- no LF stood in it as far as it was searched, nor from there on
pub line_at : (bytes : List ℕ) (line searched end : ℕ) → line ≤ searched → HasNoLf (between bytes line searched) → IsFirstLf bytes searched end → IsLineAt bytes line end
line_at bytes line searched end low before lf =
    let text = between bytes line end in
    let place : line + (end - line) ≡ end = omega (arith, low, lf.behind) in
    let rest : drop (end - line) (drop line bytes) ≡ drop end bytes = drop-drop (end - line) line bytes ∙ ap (λ (n : ℕ). drop n bytes) place in
    let whole : drop line bytes ≡ text ++ (10 ∷ drop (end + 1) bytes) = sym (take-append-drop (end - line) (drop line bytes)) ∙ ap (λ (l : List ℕ). text ++ l) (rest ∙ lf.stands) in
    let front : take end bytes ≡ take line bytes ++ text = ap (λ (n : ℕ). take n bytes) (sym place) ∙ take-add line (end - line) bytes in
    record {
      unbroken = subst HasNoLf (sym (between_more bytes line searched end low lf.behind)) (no_lf_append (between bytes line searched) (between bytes searched end) before lf.none_before);
      behind = whole ∙ sym (append_assoc text (10 ∷ []) (drop (end + 1) bytes));
      up_to =
          take-add end 1 bytes ∙ ap (λ (l : List ℕ). l ++ take 1 (drop end bytes)) front ∙ ap (λ (l : List ℕ). (take line bytes ++ text) ++ take 1 l) lf.stands
          ∙ append_assoc (take line bytes) text (10 ∷ []);
    }
