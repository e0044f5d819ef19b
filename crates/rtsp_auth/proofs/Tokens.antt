-- Tokens and blanks.
use Rattle.std.proofs.Common.{◌≡◌, ◌+◌, ◌-◌, ◌==◌, ℕ, suc, true, false, List, [], ◌∷◌, ◌++◌, length, get_or, refl, ap, sym, ◌∙◌, ⊎_elim, arith, append-nil}
use Rattle.std.specs.List.{AllByRecursion, prefix_len}
use Rattle.std.proofs.lemmas.Bool.{cond-true, cond-false, true≢false}
use Rattle.std.proofs.lemmas.Bool.Decides.{eqb_tells}
use Rattle.std.proofs.lemmas.List.{take_at, drop_at}
use Rattle.std.proofs.lemmas.List.Elements.{All-from_recursion}
use Rattle.base_syntax.specs.Blanks.{is_blank, trimmed}
use Rattle.base_syntax.proofs.Trims.{only_core}
use Rattle.rtsp_auth.specs.Words.{behind_word, is_token_byte, token_marks, word_of}
use Rattle.rtsp_auth.specs.Written.{AreBlanks}

abbrev pub AreTokenBytes : List ℕ → Type 0
AreTokenBytes text = AllByRecursion (λ byte. is_token_byte byte ≡ true) text

-- bytes that may not be in a token
pub space_unfit : is_token_byte 32 ≡ false
unfolding token_marks
space_unfit = refl

pub tab_unfit : is_token_byte 9 ≡ false
unfolding token_marks
tab_unfit = refl

pub quote_unfit : is_token_byte 34 ≡ false
unfolding token_marks
quote_unfit = refl

pub comma_unfit : is_token_byte 44 ≡ false
unfolding token_marks
comma_unfit = refl

pub equals_unfit : is_token_byte 61 ≡ false
unfolding token_marks
equals_unfit = refl

-- a byte that may be in a token is none that may not
pub differs : (mark byte : ℕ) → is_token_byte mark ≡ false → is_token_byte byte ≡ true → (byte == mark) ≡ false
differs mark byte unfit fit = ⊎_elim
    (λ same. absurd (true≢false (sym fit ∙ ap is_token_byte same.1 ∙ unfit)))
    (λ other. other.0)
    (eqb_tells byte mark)

pub not_blank : (byte : ℕ) → is_token_byte byte ≡ true → is_blank byte ≡ false
not_blank byte fit =
    let no_space = differs 32 byte space_unfit fit in
    let no_tab = differs 9 byte tab_unfit fit in
    rw (no_space, no_tab) refl

-- the token at the start of a text is what is before another byte
prefix_token : (name rest : List ℕ) (mark : ℕ) → AreTokenBytes name → is_token_byte mark ≡ false → prefix_len is_token_byte (name ++ mark ∷ rest) ≡ length name
prefix_token [] rest mark h unfit = cond-false _ _ _ unfit
prefix_token (byte ∷ bytes) rest mark h unfit =
    let more : prefix_len is_token_byte (byte ∷ (bytes ++ mark ∷ rest)) ≡ 1 + prefix_len is_token_byte (bytes ++ mark ∷ rest) = cond-true _ _ _ h.0 in
    let others : prefix_len is_token_byte (bytes ++ mark ∷ rest) ≡ length bytes = prefix_token bytes rest mark h.1 unfit in
    omega arith

pub word_is : (name rest : List ℕ) (mark : ℕ) → AreTokenBytes name → is_token_byte mark ≡ false → word_of (name ++ mark ∷ rest) ≡ name
word_is name rest mark h unfit = take_at name (mark ∷ rest) _ (sym (prefix_token name rest mark h unfit))

pub behind_is : (name rest : List ℕ) (mark : ℕ) → AreTokenBytes name → is_token_byte mark ≡ false → behind_word (name ++ mark ∷ rest) ≡ trimmed (mark ∷ rest)
behind_is name rest mark h unfit = ap trimmed (drop_at name (mark ∷ rest) _ (sym (prefix_token name rest mark h unfit)))

-- the last byte of a text is no blank
abbrev pub EndsBare : List ℕ → Type 0
EndsBare [] = ⊥
EndsBare (byte ∷ []) = is_blank byte ≡ false
EndsBare (byte ∷ next ∷ bytes) = EndsBare (next ∷ bytes)

pub ends_behind : (front text : List ℕ) → EndsBare text → EndsBare (front ++ text)
ends_behind [] text h = h
ends_behind (byte ∷ []) [] h = absurd h
ends_behind (byte ∷ []) (next ∷ bytes) h = h
ends_behind (byte ∷ next ∷ front) text h = ends_behind (next ∷ front) text h

pub ends_token : (byte : ℕ) (bytes : List ℕ) → AreTokenBytes (byte ∷ bytes) → EndsBare (byte ∷ bytes)
ends_token byte [] h = not_blank byte h.0
ends_token byte (next ∷ bytes) h = ends_token next bytes h.1

pub last_bare : (byte : ℕ) (bytes : List ℕ) → EndsBare (byte ∷ bytes) → is_blank (get_or (byte ∷ bytes) (length (byte ∷ bytes) - 1) 0) ≡ false
last_bare byte [] h = h
last_bare byte (next ∷ bytes) h =
    let place : length (byte ∷ next ∷ bytes) - 1 ≡ suc (length (next ∷ bytes) - 1) = omega arith in
    ap (λ (i : ℕ). is_blank (get_or (byte ∷ next ∷ bytes) i 0)) place ∙ last_bare next bytes h

-- a text between blanks
pub trimmed_between : (front back : List ℕ) (byte : ℕ) (bytes : List ℕ) → AreBlanks front → AreBlanks back → is_blank byte ≡ false → EndsBare (byte ∷ bytes)
    → trimmed (front ++ ((byte ∷ bytes) ++ back)) ≡ byte ∷ bytes
trimmed_between front back byte bytes before behind start end = sym (only_core (front ++ ((byte ∷ bytes) ++ back)) (byte ∷ bytes) (record {
  front = front;
  back = back;
  whole = refl;
  front_blank = All-from_recursion (λ b. is_blank b ≡ true) front before;
  back_blank = All-from_recursion (λ b. is_blank b ≡ true) back behind;
  bare = λ some. (start, last_bare byte bytes end);
}))

pub trimmed_bare : (byte : ℕ) (bytes : List ℕ) → is_blank byte ≡ false → EndsBare (byte ∷ bytes) → trimmed (byte ∷ bytes) ≡ byte ∷ bytes
trimmed_bare byte bytes start end =
    ap (λ (t : List ℕ). trimmed (byte ∷ t)) (sym (append-nil bytes)) ∙ trimmed_between [] [] byte bytes tt tt start end
